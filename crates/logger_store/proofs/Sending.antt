-- What makes an answer fit to be sent, and which ranges a message keeps that is.
use Rattle.std.proofs.Common.{◌≡◌, ℕ, ◌+◌, ◌*◌, ◌%◌, ◌^◌, ◌≤◌, true, refl, List, [], ◌∷◌, length, eq-eqb, arith}
use Rattle.std.specs.Prelude.{nat_le, nat_eq, ◌&&◌}
use Rattle.std.specs.List.{list_all}
use Rattle.std.proofs.lemmas.Bool.{le-leb, leb-true, and_parts}
use Rattle.seq_arith.specs.declared.kinds.Grammar.{Grammar}
use Rattle.seq_arith.specs.declared.kinds.Kind.TheVariants as kinds
use Rattle.seq_arith.specs.MessageGrammar.{lens_bytes, has_length, all_in_range_by, fields_of, is_sound_by, most_ending}
use Rattle.seq_arith.proofs.MessageSpelling.{bounded}
use Rattle.seq_arith.specs.declared.kinds.Kind.{Kind}
use Rattle.ft_model.proofs.Wires.{length_of_lens}

pub lens_sound : (grammar : Grammar) (boot first behind ip port : ℕ) (lens : List ℕ) → 1 ≤ boot → first ≤ 2 ^ 24 + 1 → list_all (λ n. nat_le n 2048) lens ≡ true
    → is_sound_by grammar kinds.Lens boot behind (ip ∷ port ∷ first ∷ []) lens ≡ true
unfolding is_sound_by
lens_sound grammar boot first behind ip port lens some within each =
    let b : nat_le 1 boot ≡ true = le-leb 1 boot some in
    let f : nat_le first (2 ^ 24 + 1) ≡ true = le-leb first (2 ^ 24 + 1) within in
    rw (b, f, each) refl

pub lens_size : (lens : List ℕ) → 1 ≤ length lens → length lens ≤ 512 → has_length kinds.Lens (26 + length (lens_bytes lens)) ≡ true
unfolding has_length
lens_size lens some few =
    let count : length (lens_bytes lens) ≡ 2 * length lens = length_of_lens lens in
    let n : ℕ = 26 + length (lens_bytes lens) in
    let least : nat_le 28 n ≡ true = le-leb 28 n (omega (arith, count, some)) in
    let most : nat_le n 1050 ≡ true = le-leb n 1050 (omega (arith, count, few)) in
    let even : nat_eq (n % 2) 0 ≡ true = eq-eqb (n % 2) 0 (omega (arith, count)) in
    rw (least, most, even) refl

-- the ranges of what is read
pub some_boot : (grammar : Grammar) (kind : Kind) (boot behind : ℕ) (numbers lens : List ℕ) → is_sound_by grammar kind boot behind numbers lens ≡ true → 1 ≤ boot
unfolding is_sound_by
some_boot grammar kind boot behind numbers lens s = leb-true 1 boot (and_parts _ _ (and_parts _ _ s).0).0

fields : (grammar : Grammar) (kind : Kind) (boot behind : ℕ) (numbers lens : List ℕ) → is_sound_by grammar kind boot behind numbers lens ≡ true
    → all_in_range_by grammar boot behind (fields_of kind) numbers ≡ true
unfolding is_sound_by
fields grammar kind boot behind numbers lens s = (and_parts _ _ (and_parts _ _ s).0).1

pub open_ranges : (grammar : Grammar) (boot behind ip port cisn sisn mss : ℕ) (lens : List ℕ) → is_sound_by grammar kinds.Open boot behind (ip ∷ port ∷ cisn ∷ sisn ∷ mss ∷ []) lens ≡ true
    → (64 ≤ mss) × (mss ≤ 1460)
open_ranges grammar boot behind ip port cisn sisn mss lens s =
    let m = and_parts (nat_le 64 mss) (nat_le mss 1460) (and_parts (nat_le 64 mss && nat_le mss 1460) true (fields grammar kinds.Open boot behind _ lens s)).0 in
    (leb-true 64 mss m.0, leb-true mss 1460 m.1)

pub data_ranges : (grammar : Grammar) (boot behind ip port offset acked fin : ℕ) (lens : List ℕ) → is_sound_by grammar kinds.Data boot behind (ip ∷ port ∷ offset ∷ acked ∷ fin ∷ []) lens ≡ true
    → (offset + behind ≤ 2 ^ 24) × (acked ≤ 2 ^ 24 + 1)
data_ranges grammar boot behind ip port offset acked fin lens s =
    let f = and_parts (nat_le (offset + behind) (2 ^ 24)) (nat_le acked (2 ^ 24 + 1) && (nat_le fin (most_ending grammar) && true)) (fields grammar kinds.Data boot behind _ lens s) in
    (leb-true (offset + behind) (2 ^ 24) f.0, leb-true acked (2 ^ 24 + 1) (and_parts (nat_le acked (2 ^ 24 + 1)) (nat_le fin (most_ending grammar) && true) f.1).0)

pub data_few : (n : ℕ) → has_length kinds.Data (31 + n) ≡ true → n ≤ 1460
data_few n h = omega (arith, (bounded kinds.Data (31 + n) h).1)

pub read_range : (grammar : Grammar) (boot behind ip port index len : ℕ) (lens : List ℕ) → is_sound_by grammar kinds.Read boot behind (ip ∷ port ∷ index ∷ len ∷ []) lens ≡ true → len ≤ 2048
read_range grammar boot behind ip port index len lens s =
    let f = and_parts (nat_le index (2 ^ 24 + 1)) (nat_le len 2048 && true) (fields grammar kinds.Read boot behind _ lens s) in
    leb-true len 2048 (and_parts (nat_le len 2048) true f.1).0

pub list_range : (grammar : Grammar) (boot behind index : ℕ) (lens : List ℕ) → is_sound_by grammar kinds.List boot behind (index ∷ []) lens ≡ true → index ≤ 63
list_range grammar boot behind index lens s = leb-true index 63 (and_parts (nat_le index 63) true (fields grammar kinds.List boot behind _ lens s)).0
