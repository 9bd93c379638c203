-- Whether there is a server, and the error that a conversion gives.
use Rattle.std.proofs.Common.{◌≡◌, ◌∙◌, sym, ap, subst, not, Bool, true, false, is_some, Option, Some, None, option_map, Result, Ok, Err, refl, true≢false}
use Rattle.std.specs.Prelude.{IfErr, IsErrAnd}
use Rattle.ft_model.specs.declared.event.EventWhy.{EventWhy}
use Rattle.schedule_network.specs.declared.end.StepEnd.{StepEnd}
use Rattle.schedule_network.specs.declared.end.StepEnd.TheVariants.{BadEvent}

pub not_there : {X Y : Type 0} (f : X → Y) (o : Option X) → is_some o ≡ false → option_map f o ≡ None
not_there f None h = refl
not_there f (Some x) h = absurd (true≢false h)

pub same_there : {X Y : Type 0} (f : X → Y) (o : Option X) → is_some (option_map f o) ≡ is_some o
same_there f None = refl
same_there f (Some x) = refl

pub is_up : {X Y : Type 0} (f : X → Y) (o : Option X) (none : Bool) → is_some o ≡ not none → none ≡ false → is_some (option_map f o) ≡ true
is_up f o none e n = same_there f o ∙ (e ∙ ap not n)

pub is_down : {X Y : Type 0} (f : X → Y) (o : Option X) (none : Bool) → is_some o ≡ not none → none ≡ true → is_some (option_map f o) ≡ false
is_down f o none e n = same_there f o ∙ (e ∙ ap not n)

-- the error that a conversion gives
pub converted : (r : Result (Unit {0}) StepEnd) (why : EventWhy) (Q : StepEnd → Type 0) → IsErrAnd r (λ e. e ≡ BadEvent why) → Q (BadEvent why) → IfErr r Q
converted (Ok x) why Q h q = tt
converted (Err e) why Q h q = subst Q (sym h) q
