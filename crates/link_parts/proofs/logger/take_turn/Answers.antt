use Rattle.std.proofs.Common.{◌≡◌, take}
use Rattle.ft_io.proofs.Outcomes.{at_err}
use Rattle.link_parts.specs.Receipt.{datagram}
use Rattle.link_parts.proofs.LoggerRun.{quiet, replied, starved}
use Rattle.link_parts.proofs.logger.take_turn.Goals as goal

pub returns-in_default-clause-turned : goal.returns-in_default-clause-turned
returns-in_default-clause-turned g c =
    let r = c.in_default.ensures.received in
    quiet c.args.heeded c.args.store.now (g.L.Link.reported c.args.link.now) (g.L.Link.reported c.receive.new.link) c.args.counts.now c.receive.new.counts r.0 r.1 r.2 r.3

pub returns-clause-turned : goal.returns-clause-turned
returns-clause-turned g c =
    let r = c.in-Some.ensures.received in
    let came = r.3.1 in
    let len = c.in-Some.len-is in
    let from = c.in-Some.from-is in
    let is : r.0 ≡ datagram c.in-Some.from (take c.in-Some.len c.receive.new.buffer) = cc in
    replied c.args.heeded c.args.store.now c.answer.new.store (g.L.Link.reported c.args.link.now) (g.L.Link.reported c.receive.new.link) (g.L.Link.reported c.reply.new.link) c.args.counts.now
    c.receive.new.counts c.reply.new.counts r.0 c.in-Some.from (take c.in-Some.len c.receive.new.buffer) c.in_ok-answer.answer r.1 r.2 is c.in_ok-answer.ensures.next
    c.in_ok-answer.ensures.answer c.reply.ensures.replies

pub returns-in_err-answer-clause-cut_off : goal.returns-in_err-answer-clause-cut_off
returns-in_err-answer-clause-cut_off g c =
    let r = c.in-Some.ensures.received in
    let came = r.3.1 in
    let len = c.in-Some.len-is in
    let from = c.in-Some.from-is in
    let is : r.0 ≡ datagram c.in-Some.from (take c.in-Some.len c.receive.new.buffer) = cc in
    at_err c.from_residual.result
    (starved c.args.heeded c.args.store.now (g.L.Link.reported c.args.link.now) (g.L.Link.reported c.receive.new.link) r.0 c.in-Some.from (take c.in-Some.len c.receive.new.buffer) r.1 is
    c.in_err-answer.ensures.memory)
