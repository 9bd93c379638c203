use Rattle.replay_run.proofs.run.read.Goals as goal

pub returns-clause-playable : goal.returns-clause-playable
returns-clause-playable c =
    c.accepted_schedules_can_be_played.ensures c.args.text.now c.in_ok-read_fleeting_schedule.field-0
    (c.fleeting_texts_spell_schedules.ensures.spelled c.args.text.now c.in_ok-read_fleeting_schedule.field-0 c.in_ok-read_fleeting_schedule.ensures)

pub returns-clause-fleeting : goal.returns-clause-fleeting
returns-clause-fleeting c =
    c.fleeting_texts_spell_schedules.ensures.fleeting c.args.text.now c.in_ok-read_fleeting_schedule.field-0 c.in_ok-read_fleeting_schedule.ensures

pub returns-clause-clients : goal.returns-clause-clients
returns-clause-clients c =
    (c.accepted_schedules_keep_the_limits.ensures c.args.text.now c.in_ok-read_fleeting_schedule.field-0
    (c.fleeting_texts_spell_schedules.ensures.spelled c.args.text.now c.in_ok-read_fleeting_schedule.field-0 c.in_ok-read_fleeting_schedule.ensures)).clients

pub returns-clause-events : goal.returns-clause-events
returns-clause-events c =
    (c.accepted_schedules_keep_the_limits.ensures c.args.text.now c.in_ok-read_fleeting_schedule.field-0
    (c.fleeting_texts_spell_schedules.ensures.spelled c.args.text.now c.in_ok-read_fleeting_schedule.field-0 c.in_ok-read_fleeting_schedule.ensures)).events

pub returns-clause-marks : goal.returns-clause-marks
returns-clause-marks c = λ every is.
    let accepted = c.accepted_schedules_keep_the_limits.ensures c.args.text.now c.in_ok-read_fleeting_schedule.field-0
    (c.fleeting_texts_spell_schedules.ensures.spelled c.args.text.now c.in_ok-read_fleeting_schedule.field-0 c.in_ok-read_fleeting_schedule.ensures) in
    (accepted.marks every is).0
