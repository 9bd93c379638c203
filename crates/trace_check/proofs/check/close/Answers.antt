use Rattle.std.proofs.Common.{◌++◌, length, ap, ◌∙◌}
use Rattle.std.specs.List.{flat_map}
use Rattle.ft_model.specs.Report.{client_lines, end_line, log_line}
use Rattle.ft_model.specs.Legal.{machines}
use Rattle.trace_check.proofs.WalkEnds.{few_in_world, walk_reports}
use Rattle.trace_check.proofs.check.close.Goals as goal

pub write_closing-requires : goal.write_closing-requires
write_closing-requires g c =
    few_in_world (machines g.S.Service.started g.S.Service.after g.S.Service.greeting) c.args.text.now c.args.schedule.now c.requires.walked.0 c.args.place c.args.world.now c.requires.schedule c.requires.walked.1

pub returns-in-Ok-clause-legal : goal.returns-in-Ok-clause-legal
returns-in-Ok-clause-legal g c =
    walk_reports (machines g.S.Service.started g.S.Service.after g.S.Service.greeting) c.args.text.now c.args.schedule.now c.requires.walked.0 c.args.place c.args.world.now
    (record { events = c.turns.result; packets = c.len.result }) c.deref.result.now c.requires.walked.1
    (c.deref.ensures.value ∙ (c.in-Ok.ensures ∙ ap (λ t. t ++ (client_lines 1 c.args.world.now.clients ++ (flat_map log_line c.args.world.now.log.entries ++ end_line c.args.world.now.turns))) c.new-due.ensures.items))
    c.in_ok-check_closing-in-Ok.ensures.same c.turns.ensures (c.len.ensures ∙ ap length c.packets.ensures)
