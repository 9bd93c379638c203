use Rattle.twin_log.proofs.Outgoing.{text_found}
use Rattle.twin_log.proofs.waiting.text_at.Goals as goal

pub returns : goal.returns
returns c =
    text_found c.args.messages.now.items c.args.i c.index.result.now c.deref.result.now c.requires c.index.ensures c.deref.ensures.value
