-- A message with one changed bit is noise, whichever of the two grammars reads it: each asks for the checksum.
use Rattle.std.proofs.Common.{◌≡◌, ℕ, ◌<◌, ◌*◌, true≢false, refl, sym, List, length}
use Rattle.std.specs.Prelude.{None, Result, Ok, Err, IsErr}
use Rattle.seq_arith.specs.Checksum.{checksum}
use Rattle.seq_arith.specs.Damage.{flipped}
use Rattle.seq_arith.specs.declared.kinds.BadMsg.{BadMsg}
use Rattle.seq_arith.specs.declared.mark.BadMark.{BadMark}
use Rattle.seq_arith.specs.Mark.{MarkMessage}
use Rattle.seq_arith.specs.Message.{Message}
use Rattle.seq_arith.specs.MarkGrammar as marks
use Rattle.seq_arith.specs.declared.kinds.Grammar.{Grammar}
use Rattle.seq_arith.specs.MessageGrammar as messages
use Rattle.seq_arith.proofs.Damaged.{flip_is_seen}
use Rattle.seq_arith.proofs.Refused.{refused, accepted, whole_message}
use Rattle.seq_arith.proofs.Flipped.{mark_sum}
use Rattle.mark_laws.specs.MarkedWorld.{either_said, said_by}

none_said : (r : Result Message BadMsg) (s : Result MarkMessage BadMark) → IsErr r → IsErr s → either_said r s ≡ None
none_said (Err why) (Err other) h k = refl
none_said (Ok message) s h k = absurd (true≢false (sym h))
none_said (Err why) (Ok message) h k = absurd (true≢false (sym k))

summed_noise : (grammar : Grammar) (bit : ℕ) (bytes : List ℕ) → checksum bytes ≡ 0 → bit < 8 * length bytes → said_by grammar (flipped bit bytes) ≡ None
summed_noise grammar bit bytes sum within =
    none_said (messages.reading_by grammar (flipped bit bytes)) (marks.reading (flipped bit bytes))
    (refused (messages.reading_by grammar (flipped bit bytes)) (λ ok. flip_is_seen bit bytes within sum (whole_message grammar (flipped bit bytes) ok).sum))
    (refused (marks.reading (flipped bit bytes)) (λ ok. flip_is_seen bit bytes within sum (mark_sum (flipped bit bytes) ok)))

pub message_noise : (grammar : Grammar) (bit : ℕ) (bytes : List ℕ) (message : Message) → messages.reading_by grammar bytes ≡ Ok message → bit < 8 * length bytes → said_by grammar (flipped bit bytes) ≡ None
message_noise grammar bit bytes message is within = summed_noise grammar bit bytes (whole_message grammar bytes (accepted is)).sum within

pub mark_noise : (grammar : Grammar) (bit : ℕ) (bytes : List ℕ) (message : MarkMessage) → marks.reading bytes ≡ Ok message → bit < 8 * length bytes → said_by grammar (flipped bit bytes) ≡ None
mark_noise grammar bit bytes message is within = summed_noise grammar bit bytes (mark_sum bytes (accepted is)) within
