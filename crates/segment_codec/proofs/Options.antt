-- A walk over options, one option at a time.
use Rattle.std.proofs.Common.{◌≡◌, ◌≢◌, ℕ, zero, suc, ◌<◌, ◌≤◌, ◌-◌, true, false, List, [], ◌∷◌, length, drop, ap, refl, sym, arith, ◌∙◌, get_or}
use Rattle.std.specs.Prelude.{Some, nat_eq, ◌&&◌}
use Rattle.std.proofs.lemmas.Bool.{ne_eqb, lt-ltb, le-ltb, cond_both}
use Rattle.seq_arith.specs.Bytes.{word_at, long_at}
use Rattle.seq_arith.specs.PacketGrammar.{has_bad_option, mss_in, timestamps_in}
use Rattle.segment_codec.specs.Options.{option_rest}

bad_skip : (before : ℕ) (bytes : List ℕ) → before ≤ length bytes → has_bad_option before bytes ≡ has_bad_option 0 (drop before bytes)
bad_skip zero bytes h = refl
bad_skip (suc before) [] h = absurd (omega arith)
bad_skip (suc before) (byte ∷ bytes) h = bad_skip before bytes (omega arith)

bad_past : (before : ℕ) (bytes : List ℕ) → length bytes < before → has_bad_option before bytes ≡ true
bad_past zero bytes h = absurd (omega arith)
bad_past (suc before) [] h = refl
bad_past (suc before) (byte ∷ bytes) h = bad_past before bytes (omega arith)

mss_skip : (before : ℕ) (bytes : List ℕ) → before ≤ length bytes → mss_in before bytes ≡ mss_in 0 (drop before bytes)
mss_skip zero bytes h = refl
mss_skip (suc before) [] h = absurd (omega arith)
mss_skip (suc before) (byte ∷ bytes) h = mss_skip before bytes (omega arith)

pub short_length : (kind : ℕ) (behind : List ℕ) → kind ≢ 0 → kind ≢ 1 → get_or behind 0 0 < 2 → has_bad_option 0 (kind ∷ behind) ≡ true
short_length kind behind goes long short = rw (ne_eqb kind 0 goes, ne_eqb kind 1 long, lt-ltb (get_or behind 0 0) 2 short) refl

pub far_length : (kind : ℕ) (behind : List ℕ) → kind ≢ 0 → kind ≢ 1 → 2 ≤ get_or behind 0 0 → length behind < get_or behind 0 0 - 1
    → has_bad_option 0 (kind ∷ behind) ≡ true
far_length kind behind goes long enough far =
    rw (ne_eqb kind 0 goes, ne_eqb kind 1 long, le-ltb (get_or behind 0 0) 2 enough) (bad_past (get_or behind 0 0 - 1) behind far)

pub good_length : (kind : ℕ) (behind : List ℕ) → kind ≢ 0 → kind ≢ 1 → 2 ≤ get_or behind 0 0 → get_or behind 0 0 - 1 ≤ length behind
    → has_bad_option 0 (kind ∷ behind) ≡ has_bad_option 0 (drop (get_or behind 0 0 - 1) behind)
good_length kind behind goes long enough within =
    rw (ne_eqb kind 0 goes, ne_eqb kind 1 long, le-ltb (get_or behind 0 0) 2 enough) (bad_skip (get_or behind 0 0 - 1) behind within)

pub mss_found : (behind : List ℕ) → get_or behind 0 0 ≡ 4 → mss_in 0 (2 ∷ behind) ≡ Some (word_at behind 1)
mss_found behind e = rw e refl

not_mss : (kind : ℕ) (behind : List ℕ) (n : ℕ) → n ≡ get_or behind 0 0 - 1 → ((kind ≡ 2) → n ≡ 3 → ⊥)
    → (nat_eq kind 2 && nat_eq (get_or behind 0 0) 4) ≡ false
not_mss kind behind n same other = grind (arith, other)

pub mss_passed : (kind : ℕ) (behind : List ℕ) (n : ℕ) → kind ≢ 0 → n ≡ option_rest kind behind → n ≤ length behind → ((kind ≡ 2) → n ≡ 3 → ⊥)
    → mss_in 0 (kind ∷ behind) ≡ mss_in 0 (drop n behind)
mss_passed kind behind n goes is within other =
    cond_both (nat_eq kind 1) 0 (get_or behind 0 0 - 1) (λ k. n ≡ k → mss_in 0 (kind ∷ behind) ≡ mss_in 0 (drop n behind))
    (λ e same. rw (ne_eqb kind 0 goes, e, same) refl)
    (λ e same. rw (ne_eqb kind 0 goes, e, not_mss kind behind n same other) (mss_skip (get_or behind 0 0 - 1) behind (omega arith) ∙ ap (λ k. mss_in 0 (drop k behind)) (sym same)))
    is

timestamps_skip : (before : ℕ) (bytes : List ℕ) → before ≤ length bytes → timestamps_in before bytes ≡ timestamps_in 0 (drop before bytes)
timestamps_skip zero bytes h = refl
timestamps_skip (suc before) [] h = absurd (omega arith)
timestamps_skip (suc before) (byte ∷ bytes) h = timestamps_skip before bytes (omega arith)

pub timestamps_found : (behind : List ℕ) → get_or behind 0 0 ≡ 10 → timestamps_in 0 (8 ∷ behind) ≡ Some (record { value = long_at behind 1; echo = long_at behind 5 })
timestamps_found behind e = rw e refl

not_timestamps : (kind : ℕ) (behind : List ℕ) (n : ℕ) → n ≡ get_or behind 0 0 - 1 → ((kind ≡ 8) → n ≡ 9 → ⊥)
    → (nat_eq kind 8 && nat_eq (get_or behind 0 0) 10) ≡ false
not_timestamps kind behind n same other = grind (arith, other)

pub timestamps_passed : (kind : ℕ) (behind : List ℕ) (n : ℕ) → kind ≢ 0 → n ≡ option_rest kind behind → n ≤ length behind → ((kind ≡ 8) → n ≡ 9 → ⊥)
    → timestamps_in 0 (kind ∷ behind) ≡ timestamps_in 0 (drop n behind)
timestamps_passed kind behind n goes is within other =
    cond_both (nat_eq kind 1) 0 (get_or behind 0 0 - 1) (λ k. n ≡ k → timestamps_in 0 (kind ∷ behind) ≡ timestamps_in 0 (drop n behind))
    (λ e same. rw (ne_eqb kind 0 goes, e, same) refl)
    (λ e same. rw (ne_eqb kind 0 goes, e, not_timestamps kind behind n same other)
    (timestamps_skip (get_or behind 0 0 - 1) behind (omega arith) ∙ ap (λ k. timestamps_in 0 (drop k behind)) (sym same)))
    is
