-- Without recovery of further losses, congestion control is that of RFC 5681, and no loss is noted.
use Rattle.std.proofs.Common.{◌≡◌, refl, sym, ap, subst, ℕ, ◌+◌, ◌*◌, Bool, false, ◌==◌, ◌&&◌, not, nat_lt, min, if◌then◌else◌}
use Rattle.std.specs.Prelude.{nat_le}
use Rattle.ft_io.proofs.Choices.{holds_either_way, if_false}
use Rattle.tcp_rules.specs.Congestion.{Congestion, most_window, growth, is_recovering, with_new_data, lowered_threshold, is_third, with_duplicate, with_expiry}

-- congestion control that neither recovers nor has noted a loss
abbrev noted_none : Congestion → Congestion
noted_none c = record c { recovers = false; lost = 0 }

is_noted_none : (c : Congestion) → c.recovers ≡ false → c.lost ≡ 0 → noted_none c ≡ c
is_noted_none c r l = λ i. record c { recovers = sym r i; lost = sym l i }

pub plain_new_data : (mss units : ℕ) (c : Congestion) → c.recovers ≡ false → c.lost ≡ 0
    → with_new_data mss units c ≡ record c { cwnd = min most_window (if nat_le 3 c.dups then c.ssthresh else c.cwnd + growth mss units c); dups = 0 }
unfolding with_new_data
plain_new_data mss units c r l =
    subst (λ x. with_new_data mss units x ≡ record x { cwnd = min most_window (if nat_le 3 x.dups then x.ssthresh else x.cwnd + growth mss units x); dups = 0 })
    (is_noted_none c r l) refl

pub plain_third : (c : Congestion) → c.recovers ≡ false → is_third c ≡ (c.dups == 2)
unfolding is_third
plain_third c r = ap (λ b. not (b && nat_lt 0 c.lost) && c.dups == 2) r

pub plain_duplicate : (mss flight : ℕ) (c : Congestion) → c.recovers ≡ false → c.lost ≡ 0
    → with_duplicate mss flight c ≡ (if nat_le 3 c.dups then record c { cwnd = min most_window (c.cwnd + mss); dups = 4 }
    else (if c.dups == 2
    then record c { cwnd = min most_window (lowered_threshold mss flight + 3 * mss); ssthresh = lowered_threshold mss flight; dups = 3 }
    else record c { dups = c.dups + 1 }))
unfolding with_duplicate is_third
plain_duplicate mss flight c r l =
    subst (λ x. with_duplicate mss flight x ≡ (if nat_le 3 x.dups then record x { cwnd = min most_window (x.cwnd + mss); dups = 4 }
    else (if x.dups == 2
    then record x { cwnd = min most_window (lowered_threshold mss flight + 3 * mss); ssthresh = lowered_threshold mss flight; dups = 3 }
    else record x { dups = x.dups + 1 })))
    (is_noted_none c r l) refl

pub plain_expiry : (mss flight : ℕ) (first : Bool) (c : Congestion) → c.recovers ≡ false → c.lost ≡ 0
    → with_expiry mss flight first c ≡ record c { cwnd = min most_window mss; ssthresh = if first then lowered_threshold mss flight else c.ssthresh; dups = 0 }
unfolding with_expiry
plain_expiry mss flight first c r l =
    subst (λ x. with_expiry mss flight first x ≡ record x { cwnd = min most_window mss; ssthresh = if first then lowered_threshold mss flight else x.ssthresh; dups = 0 })
    (is_noted_none c r l) refl

-- whether it recovers never changes, ..
pub duplicate_recovers : (mss flight : ℕ) (c : Congestion) → (with_duplicate mss flight c).recovers ≡ c.recovers
unfolding with_duplicate
duplicate_recovers mss flight c =
    let Keeps : Congestion → Type 0 = λ x. x.recovers ≡ c.recovers in
    holds_either_way Keeps (nat_le 3 c.dups) (record c { cwnd = min most_window (c.cwnd + mss); dups = 4 }) _ refl
    (holds_either_way Keeps (is_third c)
    (record c { cwnd = min most_window (lowered_threshold mss flight + 3 * mss); ssthresh = lowered_threshold mss flight; dups = 3; lost = if c.recovers then flight else 0 })
    (record c { dups = if is_recovering c then min 2 (c.dups + 1) else c.dups + 1 }) refl refl)

-- .. and it notes no loss if it doesn't
pub duplicate_notes_none : (mss flight : ℕ) (c : Congestion) → c.recovers ≡ false → c.lost ≡ 0 → (with_duplicate mss flight c).lost ≡ 0
unfolding with_duplicate
duplicate_notes_none mss flight c r h =
    let None_lost : Congestion → Type 0 = λ x. x.lost ≡ 0 in
    holds_either_way None_lost (nat_le 3 c.dups) (record c { cwnd = min most_window (c.cwnd + mss); dups = 4 }) _ h
    (holds_either_way None_lost (is_third c)
    (record c { cwnd = min most_window (lowered_threshold mss flight + 3 * mss); ssthresh = lowered_threshold mss flight; dups = 3; lost = if c.recovers then flight else 0 })
    (record c { dups = if is_recovering c then min 2 (c.dups + 1) else c.dups + 1 }) (if_false c.recovers flight 0 r) h)
