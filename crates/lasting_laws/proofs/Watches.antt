-- When a connection is let go of, by cases of the tests.
use Rattle.std.proofs.Common.{◌≡◌, ◌∙◌, ℕ, ◌<◌, ◌≤◌, ◌*◌, Bool, true, false, not, ◌&&◌, ◌==◌, nat_le, nat_lt, refl, sym, ap, arith, true≢false, if◌then◌else◌}
use Rattle.std.proofs.lemmas.Bool.{and_parts, leb-true, ltb-true}
use Rattle.ft_io.proofs.Choices.{if_true, if_false}
use Rattle.ft_io.specs.declared.Key.{Key}
use Rattle.seq_arith.specs.Packet.{Segment}
use Rattle.ft_model.specs.Node.{Node}
use Rattle.ft_model.specs.Node.Input.{Packet_comes}
use Rattle.ft_model.specs.Point.{Point}
use Rattle.ft_model.specs.ServingTurn.{concerns}
use Rattle.lasting_laws.specs.Watching.{Watch, Origin, watched, received_from, received_origin, is_half_open, is_unreceived, is_opened_here, is_let_go, is_silent, is_asked, is_due}
use Rattle.lasting_laws.specs.Watching.Origin.{Opened_here, Restored_empty, Restored}

pub silent_then : (silence : ℕ) (w : Watch) (p : Point) → is_half_open w p ≡ false → is_unreceived w.origin ≡ false → is_let_go silence w p ≡ true
    → (0 < silence) × (2 * silence ≤ w.silent)
silent_then silence w p open_ unreceived gone =
    let test = (and_parts (not p.reset) _ gone).1 in
    let quiet : is_silent silence w ≡ true = sym (if_false (is_half_open w p) (nat_le 250 w.age) _ open_ ∙ if_false (is_unreceived w.origin) (nat_le 250 w.silent) (is_silent silence w) unreceived) ∙ test in
    let both = and_parts (nat_lt 0 silence) (nat_le (2 * silence) w.silent) quiet in
    (ltb-true 0 silence both.0, leb-true (2 * silence) w.silent both.1)

pub never_reset : (silence : ℕ) (w : Watch) (p : Point) → p.reset ≡ true → is_let_go silence w p ≡ false
never_reset silence w p is = rw is refl

received_is : (o : Origin) → is_unreceived (received_origin o) ≡ false
received_is Opened_here = refl
received_is Restored_empty = refl
received_is Restored = refl

pub receipt : (node : Node) (segment : Segment) (key : Key) (w : Watch) → concerns node (Packet_comes segment) key ≡ true
    → ((watched node (Packet_comes segment) key w).silent ≡ 0) × (is_unreceived (watched node (Packet_comes segment) key w).origin ≡ false)
receipt node segment key w is =
    let now : watched node (Packet_comes segment) key w ≡ received_from w = if_true (concerns node (Packet_comes segment) key) (received_from w) w is in
    (ap (λ x. x.silent) now, ap (λ x. is_unreceived x.origin) now ∙ received_is w.origin)

pub late : (silence : ℕ) (w : Watch) (p : Point) → is_half_open w p ≡ true → p.reset ≡ false → 250 ≤ w.age → is_let_go silence w p ≡ true
late silence w p open_ on old =
    let first = if_true (is_half_open w p) (nat_le 250 w.age) (if is_unreceived w.origin then nat_le 250 w.silent else is_silent silence w) open_ in
    rw (on, first) (grind (arith, old))

pub early : (silence : ℕ) (w : Watch) (p : Point) → is_half_open w p ≡ true → w.age < 250 → is_let_go silence w p ≡ false
early silence w p open_ young =
    let first = if_true (is_half_open w p) (nat_le 250 w.age) (if is_unreceived w.origin then nat_le 250 w.silent else is_silent silence w) open_ in
    let no : nat_le 250 w.age ≡ false = grind (arith, young) in
    ap (λ b. not p.reset && b) (first ∙ no) ∙ none (not p.reset)
  where
    none : (b : Bool) → (b && false) ≡ false
    none true = refl
    none false = refl

-- its SYN is unacknowledged
pub unasked : (silence : ℕ) (w : Watch) (p : Point) → is_half_open w p ≡ true → is_asked silence w p ≡ false
unasked silence w p open_ =
    by p.syn_acked refl
  where
    by : (b : Bool) → p.syn_acked ≡ b → is_asked silence w p ≡ false
    by true is = absurd (true≢false (sym open_ ∙ (ap (λ s. is_opened_here w.origin && not s) is ∙ none (is_opened_here w.origin))))
      where
        none : (b : Bool) → (b && false) ≡ false
        none true = refl
        none false = refl
    by false is =
        ap (λ a. not p.reset && (not (is_let_go silence w p) && (a && is_due silence w))) (ap (λ s. s && p.una == p.sent) is)
        ∙ never (not p.reset) (not (is_let_go silence w p))
      where
        never : (a b : Bool) → (a && (b && false)) ≡ false
        never true true = refl
        never true false = refl
        never false b = refl
