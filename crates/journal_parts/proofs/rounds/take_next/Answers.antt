use Rattle.std.proofs.Common.{◌≡◌, ◌∙◌, ap, take}
use Rattle.ft_io.proofs.Outcomes.{at_err}
use Rattle.link_parts.specs.Receipt.{datagram}
use Rattle.journal_parts.specs.Waits.{wants_then}
use Rattle.journal_parts.proofs.rounds.take_next.Goals as goal

pub returns-in_err-out-clause-cut_off : goal.returns-in_err-out-clause-cut_off
returns-in_err-out-clause-cut_off g c =
    let r = c.in-Some.ensures.received in
    let came = r.3.1 in
    let len = c.in-Some.len-is in
    let to = c.in-Some.to-is in
    let is : r.0 ≡ datagram c.in-Some.to (take c.in-Some.len c.receive.new.buffer) = cc in
    at_err c.from_residual.result (r.0, ap (wants_then c.args.kept.now.heeded c.args.kept.now.log) is ∙ c.in_err-out.ensures.memory, r.1)
