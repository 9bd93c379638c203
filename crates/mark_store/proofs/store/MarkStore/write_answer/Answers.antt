use Rattle.logger_wire.specs.MarkValue.{message_of}
use Rattle.mark_store.proofs.Steps.{some_boot}
use Rattle.mark_store.proofs.store.MarkStore.write_answer.Goals as goal

pub answer_marked-requires-clause-boot : goal.answer_marked-requires-clause-boot
answer_marked-requires-clause-boot c = some_boot (message_of c.args.m.now) c.requires.spellable

pub answer_held-requires-clause-boot : goal.answer_held-requires-clause-boot
answer_held-requires-clause-boot c = some_boot (message_of c.args.m.now) c.requires.spellable
