-- Messages, one after the other.
use Rattle.std.proofs.Common.{◌≡◌, ℕ, zero, suc, ◌<◌, ◌≤◌, ◌+◌, ◌^◌, Bool, true, false, sym, ap, subst, ◌∙◌, List, [], ◌∷◌, ◌++◌, length, drop, arith, append_assoc}
use Rattle.std.specs.Prelude.{slice_get, IfSome}
use Rattle.std.specs.Bool.{OnTrue, OnFalse}
use Rattle.seq_arith.specs.Message.Body.{ReadMsg}
use Rattle.seq_arith.specs.declared.kinds.Kind.{Kind}
use Rattle.seq_arith.specs.declared.kinds.Kind.TheVariants as kinds
use Rattle.seq_arith.specs.MessageGrammar.{spelling_by, behind_at}
use Rattle.ft_io.specs.declared.Key.{Key}
use Rattle.north_wrap.specs.declared.read_record.ReadRecord.{ReadRecord}
use Rattle.north_wrap.specs.Refinement.{messages_of}
use Rattle.tcp_endpoint.specs.Packets.{byte_count}
use Rattle.wrapped_conn.specs.LoggerMessages.{grammar_by, spelled, AreWritable}
use Rattle.tcp_endpoint.proofs.Spelled.{byte_count_push}

abbrev pub pair : ℕ → ℕ → ℕ × ℕ
pair x y = (x, y)

pub read_next : (wide : Bool) (boot : ℕ) (key : Key) (reads : List ReadRecord) (i index count : ℕ) → i < length reads → IfSome (slice_get reads i) (λ r. pair index count ≡ pair r.index r.length)
    → spelled wide boot (messages_of key (drop i reads)) ≡ spelling_by (grammar_by wide) (record { boot = boot; body = ReadMsg key index count }) ∷ spelled wide boot (messages_of key (drop (suc i) reads))
read_next wide boot key [] i index count low is = absurd (omega (arith, low))
read_next wide boot key (r ∷ reads) zero index count low is = λ j. spelling_by (grammar_by wide) (record { boot = boot; body = ReadMsg key ((sym is) j).0 ((sym is) j).1 }) ∷ spelled wide boot (messages_of key reads)
read_next wide boot key (r ∷ reads) (suc i) index count low is = read_next wide boot key reads i index count (omega (arith, low)) is

pub read_fits : (reads : List ReadRecord) (i index count : ℕ) → i < length reads → IfSome (slice_get reads i) (λ r. pair index count ≡ pair r.index r.length) → AreWritable reads
    → (index ≤ 2 ^ 24 + 1) × (count ≤ 2048)
read_fits [] i index count low is all = absurd (omega (arith, low))
read_fits (r ∷ reads) zero index count low is all =
    (subst (λ n. n ≤ 2 ^ 24 + 1) (sym (ap (λ (p : ℕ × ℕ). p.0) is)) all.0.index, subst (λ n. n ≤ 2048) (sym (ap (λ (p : ℕ × ℕ). p.1) is)) all.0.length)
read_fits (r ∷ reads) (suc i) index count low is all = read_fits reads i index count (omega (arith, low)) is all.1

pub one_reported : (out rest : List (List ℕ)) (x : List ℕ) (all : List (List ℕ)) → out ++ (x ∷ rest) ≡ all → (out ++ x ∷ []) ++ rest ≡ all
one_reported out rest x all e = append_assoc out (x ∷ []) rest ∙ e

-- the bytes of a message before its text
pub head_short : (kind : Kind) → behind_at kind ≤ 64
head_short kinds.Hello = omega arith
head_short kinds.Summary = omega arith
head_short kinds.List = omega arith
head_short kinds.Entry = omega arith
head_short kinds.Bytes = omega arith
head_short kinds.Part = omega arith
head_short kinds.Cuts = omega arith
head_short kinds.Lens = omega arith
head_short kinds.Open = omega arith
head_short kinds.Opened = omega arith
head_short kinds.Data = omega arith
head_short kinds.Stable = omega arith
head_short kinds.Read = omega arith
head_short kinds.Reads = omega arith
head_short kinds.Done = omega arith
head_short kinds.Ended = omega arith
head_short kinds.Stale = omega arith
head_short kinds.Full = omega arith

-- one message more, where there is room for it
pub short_pushed : (b : Bool) (old new : List (List ℕ)) (x : List ℕ) (text : ℕ) → OnTrue b (new ≡ old ++ x ∷ []) → OnFalse b (new ≡ old) → length x ≤ 64 + text
    → byte_count new ≤ byte_count old + 64 + text
short_pushed true old new x text on off few = let e = on in omega (arith, ap byte_count e, byte_count_push old x, few)
short_pushed false old new x text on off few = let e = off in omega (arith, ap byte_count e)
