use Rattle.std.proofs.Common.{◌+◌}
use Rattle.twin_log.specs.Outbox.{texts_of}
use Rattle.twin_log.proofs.Fronts.{forwarded}
use Rattle.twin_log.proofs.Outgoing.{forward_fits}
use Rattle.twin_log.proofs.waiting.forward.Goals as goal

pub put-requires-clause-fits : goal.put-requires-clause-fits
put-requires-clause-fits c =
    forward_fits (c.args.confirmed + c.loop-i.i + 1) c.loop-i.i c.args.messages.now.items c.text_at-message.result.now c.requires.fit c.text_at-message.ensures

pub loop-i-preserved : goal.loop-i-preserved
loop-i-preserved c =
    forwarded c.args.confirmed c.loop-i.i (texts_of c.args.messages.now.items) c.text_at-message.result.now c.args.out.now c.loop-i.out c.put.new.self c.loop-i.invariant c.put.ensures
    c.text_at-message.ensures
