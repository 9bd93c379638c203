-- The bytes of an answer.
use Rattle.std.proofs.Common.{◌≡◌, ◌∙◌, ℕ, ◌+◌, ◌-◌, ◌≤◌, ◌==◌, not, nat_lt, Bool, true, false, refl, sym, ap, subst, arith, inl, inr, ⊎_elim, true≢false, List, ◌++◌, length, take, drop, Option, Some, None, if◌then◌else◌}
use Rattle.std.specs.Prelude.{Result, Err, IsOk, slice_index}
use Rattle.std.proofs.lemmas.List.{length-append, length-drop, take_at}
use Rattle.seq_arith.specs.declared.kinds.BadMsg.{BadMsg}
use Rattle.seq_arith.specs.declared.kinds.BadMsg.TheVariants as bad_msg
use Rattle.seq_arith.specs.declared.kinds.Grammar.{Grammar}
use Rattle.seq_arith.specs.declared.kinds.Grammar.TheVariants as grammars
use Rattle.seq_arith.specs.MessageGrammar.{spelling, spelling_by, message_length, IsSpellableBy}
use Rattle.seq_arith.specs.Message.{Message}
use Rattle.seq_arith.specs.MessageGrammar as messages
use Rattle.seq_arith.specs.MarkGrammar as marks
use Rattle.seq_arith.specs.Mark.{MarkMessage}
use Rattle.seq_arith.specs.Bytes.{two, word_at}
use Rattle.seq_arith.specs.declared.mark.BadMark.{BadMark}
use Rattle.seq_arith.specs.declared.mark.BadMark.TheVariants as bad
use Rattle.logger_store.specs.StoreState.{IsAnswer, IsReply, answer_bytes}
use Rattle.logger_wire.proofs.OneSpelling.{not_longer}

-- what was written at the front is the whole message
pub message_written : (grammar : Grammar) (message : Message) (old now : List ℕ) (len : ℕ) → IsSpellableBy grammar message → len ≡ message_length message.body → length old ≡ 2048 → length now ≡ 2048
    → now ≡ spelling_by grammar message ++ drop len old → take len now ≡ spelling_by grammar message
message_written grammar message old now len spellable counted before after written =
    let within : len ≤ 2048 = omega (arith, counted, not_longer message spellable) in
    let whole : length (spelling_by grammar message) + length (drop len old) ≡ 2048 = sym (length-append (spelling_by grammar message) (drop len old)) ∙ (ap length (sym written) ∙ after) in
    let rest : length (drop len old) ≡ 2048 - len = length-drop len old ∙ ap (λ n. n - len) before in
    let long : length (spelling_by grammar message) ≡ len = omega (arith, within, whole, rest) in
    ap (take len) written ∙ take_at (spelling_by grammar message) (drop len old) len long

-- what begins otherwise is no message about marks
other_magic : (bytes : List ℕ) → (word_at bytes 0 == 18006) ≡ false → IsOk (marks.reading bytes) → ⊥
unfolding marks.reading
other_magic bytes other ok =
    by (nat_lt (length bytes) 16) (word_at bytes 0 == 18006) (if not (slice_index bytes 2 == 1) then Err bad.Version else marks.reading_if (marks.kind_numbered (slice_index bytes 3)) bytes) other ok
  where
    by : (c m : Bool) (rest : Result MarkMessage BadMark) → m ≡ false → IsOk (if c then Err bad.Short else (if not m then Err bad.Magic else rest)) → ⊥
    by true m rest other ok = true≢false (sym ok)
    by false true rest other ok = true≢false other
    by false false rest other ok = true≢false (sym ok)

-- what has another version is no wide message
other_version : (bytes : List ℕ) → (slice_index bytes 2 == 2) ≡ false → IsOk (messages.reading_by grammars.Wide bytes) → ⊥
unfolding messages.reading_by
other_version bytes other ok =
    by (nat_lt (length bytes) 16) (not (word_at bytes 0 == 18004)) (slice_index bytes 2 == 2) (messages.reading_if grammars.Wide (messages.kind_numbered (slice_index bytes 3)) bytes) other ok
  where
    by : (c m v : Bool) (rest : Result Message BadMsg) → v ≡ false
        → IsOk (if c then Err bad_msg.Short else (if m then Err bad_msg.Magic else (if not v then Err bad_msg.Version else rest))) → ⊥
    by true m v rest other ok = true≢false (sym ok)
    by false true v rest other ok = true≢false (sym ok)
    by false false true rest other ok = true≢false other
    by false false false rest other ok = true≢false (sym ok)

pub answer_read : (answer : Option Message) (bytes : List ℕ) → bytes ≡ answer_bytes answer → IsReply bytes → IsAnswer bytes
unfolding messages.spelling_by messages.spelled messages.header two word_at
answer_read None bytes is reply = inl is
answer_read (Some message) bytes is reply =
    ⊎_elim (λ a. a)
    (λ other. ⊎_elim (λ wide. absurd (other_version (spelling message) refl (subst (λ xs. IsOk (messages.reading_by grammars.Wide xs)) is wide)))
    (λ marked. absurd (other_magic (spelling message) refl (subst (λ xs. IsOk (marks.reading xs)) is marked))) other) reply

-- what was written in a grammar is a reply
pub written_replies : (grammar : Grammar) (bytes : List ℕ) → IsOk (messages.reading_by grammar bytes) → IsReply bytes
written_replies grammars.Plain bytes ok = inl (inr ok)
written_replies grammars.Wide bytes ok = inr (inl ok)

-- so is a message about marks
pub marked_replies : (bytes : List ℕ) → IsOk (marks.reading bytes) → IsReply bytes
marked_replies bytes ok = inr (inr ok)
