-- Laws of and, or and not that std doesn't have.
use Rattle.std.proofs.Common.{◌≡◌, ◌∙◌, Bool, true, false, not, refl, sym, ap}
use Rattle.std.proofs.lemmas.Bool.{false≢true}
use Rattle.std.specs.Prelude.{◌&&◌, ◌||◌}

pub left_true : (a b : Bool) → (a && b) ≡ true → a ≡ true
left_true true b h = refl
left_true false b h = h

pub right_true : (a b : Bool) → (a && b) ≡ true → b ≡ true
right_true true b h = h
right_true false b h = absurd (false≢true h)

pub not_true : (b : Bool) → not b ≡ true → b ≡ false
not_true true h = absurd (false≢true h)
not_true false h = refl

pub left_false : (a b : Bool) → (a || b) ≡ false → a ≡ false
left_false true b h = absurd (false≢true (sym h))
left_false false b h = refl

pub false_by : (b c : Bool) → (b ≡ true → c ≡ true) → c ≡ false → b ≡ false
false_by true c f e = absurd (false≢true (sym e ∙ f refl))
false_by false c f e = refl

pub or_false : (b : Bool) → b ≡ (b || false)
or_false true = refl
or_false false = refl

pub or_true : (b : Bool) → true ≡ (b || true)
or_true true = refl
or_true false = refl

pub and_true : (b : Bool) → (b && true) ≡ b
and_true true = refl
and_true false = refl

pub and_false : (b : Bool) → (b && false) ≡ false
and_false true = refl
and_false false = refl

pub middle_false : (a b c : Bool) → b ≡ false → (a && b && c) ≡ false
middle_false true true c h = absurd (false≢true (sym h))
middle_false true false c h = refl
middle_false false b c h = refl

pub right_false : (a b : Bool) → (a || b) ≡ false → b ≡ false
right_false true b h = absurd (false≢true (sym h))
right_false false b h = h

pub and_when : (a b b' : Bool) → (a ≡ true → b ≡ b') → (a && b) ≡ (a && b')
and_when true b b' same = same refl
and_when false b b' same = refl

pub false_or : (a b : Bool) → a ≡ false → (a || b) ≡ b
false_or a b none = ap (λ v. v || b) none

pub or_other : (a b : Bool) → a ≡ false → (a || b) ≡ true → b ≡ true
or_other true b none h = absurd (false≢true (sym none))
or_other false b none h = h

pub second_of_three : (a b c : Bool) → (a && b && c) ≡ true → b ≡ true
second_of_three true true c h = refl
second_of_three true false c h = absurd (false≢true h)
second_of_three false b c h = absurd (false≢true h)

pub first_of_three : (a b c : Bool) → (a && b && c) ≡ true → a ≡ true
first_of_three true b c e = refl
first_of_three false true c e = absurd (false≢true e)
first_of_three false false c e = absurd (false≢true e)

pub second_of_four : (a b c d : Bool) → (a && b && c && d) ≡ true → b ≡ true
second_of_four true true c d h = refl
second_of_four true false c d h = h
second_of_four false b c d h = absurd (false≢true h)
