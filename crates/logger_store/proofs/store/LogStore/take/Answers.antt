use Rattle.std.proofs.Common.{◌≡◌, true, length, subst}
use Rattle.seq_arith.specs.MessageGrammar.{has_length, kind_of, message_length}
use Rattle.logger_wire.specs.Value.{body_of}
use Rattle.logger_store.proofs.Sending.{data_few}
use Rattle.logger_store.proofs.store.LogStore.take.Goals as goal

pub take_part-requires-clause-few : goal.take_part-requires-clause-few
take_part-requires-clause-few c =
    data_few (length c.in-Data.part.bytes.now)
    (subst (λ b. has_length (kind_of (body_of b)) (message_length (body_of b)) ≡ true) c.in-Data.is c.requires.spellable.size)
