use Rattle.std.proofs.Common.{◌+◌, refl}
use Rattle.ft_model.specs.Report.{client_line, client_lines}
use Rattle.replay_run.proofs.Following.{one_line_or_none}
use Rattle.replay_run.proofs.lines.write_clients.Goals as goal

pub loop-i-preserved : goal.loop-i-preserved
loop-i-preserved c =
    one_line_or_none client_lines client_line (λ n x xs. refl) (λ n. refl) c.args.world.now.clients.items (c.loop-i.i + 1) c.loop-i.i c.loop-i.lines.items c.write_client_at.new.lines.items _
    c.in_ok-write_client_at.ensures.one c.in_ok-write_client_at.ensures.none c.loop-i.invariant
