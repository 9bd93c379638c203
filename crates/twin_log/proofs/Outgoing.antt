-- What goes out of a logger: the log's answers, and the bytes of what is forwarded.
use Rattle.std.proofs.Common.{◌≡◌, ℕ, zero, suc, ◌+◌, ◌<◌, ◌≤◌, ◌==◌, true, false, refl, ap, sym, ◌∙◌, arith, eqb-true, true≢false, subst, get_or, List, [], ◌∷◌, length, drop, Vec}
use Rattle.std.specs.Prelude.{Option, Some, None, Ok, IsOk, nat_le, slice_get}
use Rattle.std.proofs.lemmas.Bool.{le-leb, and_from}
use Rattle.std.specs.declared.alloc.Global.{Global}
use Rattle.ft_model.proofs.Lists.{all_slice_get}
use Rattle.seq_arith.specs.Message.{Message}
use Rattle.seq_arith.specs.MessageGrammar as messages
use Rattle.seq_arith.specs.Bytes.{two}
use Rattle.seq_arith.specs.TwinDatagram.{TwinDatagram as datagrams}
use Rattle.seq_arith.specs.TwinGrammar.{has_length, kind_of, behind_of}
use Rattle.seq_arith.specs.declared.kinds.Grammar.{Grammar}
use Rattle.logger_store.specs.StoreState.{answer_bytes_by}
use Rattle.twin_laws.specs.declared.part.Side.TheVariants as sides
use Rattle.twin_laws.specs.StoredState.{answers_sent}
use Rattle.twin_laws.proofs.Asking.{read_fits}
use Rattle.twin_log.specs.Outbox.{answer_out, is_forwardable, AreForwardable, texts_of}

pub answer_some : (bytes : List ℕ) → (length bytes == 0) ≡ false → answer_out bytes ≡ (sides.Server, bytes) ∷ []
answer_some [] some = absurd (true≢false some)
answer_some (byte ∷ bytes) some = refl

pub answer_none : (bytes : List ℕ) → (length bytes == 0) ≡ true → answer_out bytes ≡ []
answer_none [] none = refl
answer_none (byte ∷ bytes) none = absurd (omega (arith, eqb-true (length (byte ∷ bytes)) 0 none))

pub answer_is : (grammar : Grammar) (answer : Option Message) → answer_out (answer_bytes_by grammar answer) ≡ answers_sent grammar answer
unfolding messages.spelling_by messages.spelled messages.header two
answer_is grammar None = refl
answer_is grammar (Some message) = refl

pub few_sent : (grammar : Grammar) (answer : Option Message) → length (answers_sent grammar answer) ≤ 1
few_sent grammar None = omega arith
few_sent grammar (Some message) = omega arith

-- a message that waits, by its place
pub text_found : (held : List (Vec ℕ Global)) (i : ℕ) (m : Vec ℕ Global) (text : List ℕ) → i < length held → m ≡ get_or held i m → text ≡ m.items
    → slice_get (texts_of held) i ≡ Some text
text_found [] i m text within read is = absurd (omega (arith, within))
text_found (x ∷ held) zero m text within read is = ap Some (ap (λ v. v.items) (sym read) ∙ sym is)
text_found (x ∷ held) (suc i) m text within read is = text_found held i m text (omega (arith, within)) read is

fit_dropped : (count : ℕ) (held : List (Vec ℕ Global)) → AreForwardable (texts_of held) → AreForwardable (texts_of (drop count held))
fit_dropped zero held all = all
fit_dropped (suc count) [] all = all
fit_dropped (suc count) (m ∷ held) all = fit_dropped count held all.1

-- what is left once the first messages are taken away
pub fit_left : (count : ℕ) (held left : List (Vec ℕ Global)) → left ≡ drop count held → AreForwardable (texts_of held) → AreForwardable (texts_of left)
fit_left count held left is all = subst (λ messages. AreForwardable (texts_of messages)) (sym is) (fit_dropped count held all)

-- a message that was read has the length of one
pub read_is_forwardable : (grammar : Grammar) (bytes : List ℕ) (message : Message) → messages.reading_by grammar bytes ≡ Ok message → is_forwardable bytes ≡ true
unfolding has_length
read_is_forwardable grammar bytes message is =
    let ok : IsOk (messages.reading_by grammar bytes) = subst IsOk (sym is) refl
    in let long : (16 ≤ length bytes) × (length bytes ≤ 1491) = read_fits grammar bytes ok
    in and_from (nat_le 32 (16 + length bytes)) (nat_le (16 + length bytes) 1507) (le-leb 32 (16 + length bytes) (omega (arith, long.0)))
    (le-leb (16 + length bytes) 1507 (omega (arith, long.1)))

pub forward_fits : (number i : ℕ) (held : List (Vec ℕ Global)) (text : List ℕ) → AreForwardable (texts_of held) → slice_get (texts_of held) i ≡ Some text
    → has_length (kind_of (datagrams.Forward number text)) (16 + length (behind_of (datagrams.Forward number text))) ≡ true
forward_fits number i held text all at = all_slice_get (λ message. is_forwardable message ≡ true) (texts_of held) i text all at
