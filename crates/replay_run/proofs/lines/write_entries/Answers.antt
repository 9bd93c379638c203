use Rattle.std.proofs.Common.{refl, arith}
use Rattle.std.specs.List.{flat_map}
use Rattle.ft_model.specs.Report.{log_line}
use Rattle.replay_run.proofs.Following.{one_line}
use Rattle.replay_run.proofs.lines.write_entries.Goals as goal

pub loop-i-preserved : goal.loop-i-preserved
loop-i-preserved c =
    one_line (λ n es. flat_map log_line es) (λ n e. log_line e) (λ n e es. refl) c.args.log.now.entries 0 c.loop-i.i c.loop-i.lines.items c.write_entry.new.lines.items _
    c.in_ok-write_entry.ensures (omega arith) c.loop-i.invariant
