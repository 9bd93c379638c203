use Rattle.text_script.proofs.check_lines.schedule_in.Goals as goal

pub returns-in-Ok-clause-fits : goal.returns-in-Ok-clause-fits
returns-in-Ok-clause-fits c =
    c.accepted_schedules_fit.ensures c.args.text.now c.in-Ok.schedule (c.fleeting_texts_spell_schedules.ensures.spelled c.args.text.now c.in-Ok.schedule c.in-Ok.ensures)

pub returns-in-Ok-clause-apart : goal.returns-in-Ok-clause-apart
returns-in-Ok-clause-apart c =
    let of_fleeting = c.fleeting_texts_spell_schedules.ensures in
    (c.accepted_schedules_can_be_played.ensures c.args.text.now c.in-Ok.schedule (of_fleeting.spelled c.args.text.now c.in-Ok.schedule c.in-Ok.ensures)).apart
    (of_fleeting.fleeting c.args.text.now c.in-Ok.schedule c.in-Ok.ensures)
