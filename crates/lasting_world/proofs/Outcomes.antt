-- Whether there is a server.
use Rattle.std.proofs.Common.{◌≡◌, ◌∙◌, ap, not, Bool, true, false, is_some, Option, Some, None, option_map, refl, true≢false}

pub same_there : {X Y : Type 0} (f : X → Y) (o : Option X) → is_some (option_map f o) ≡ is_some o
same_there f None = refl
same_there f (Some x) = refl

pub not_there : {X Y : Type 0} (f : X → Y) (o : Option X) → is_some o ≡ false → option_map f o ≡ None
not_there f None h = refl
not_there f (Some x) h = absurd (true≢false h)

pub is_up : {X Y : Type 0} (f : X → Y) (o : Option X) (none : Bool) → is_some o ≡ not none → none ≡ false → is_some (option_map f o) ≡ true
is_up f o none e n = same_there f o ∙ (e ∙ ap not n)

pub is_down : {X Y : Type 0} (f : X → Y) (o : Option X) (none : Bool) → is_some o ≡ not none → none ≡ true → is_some (option_map f o) ≡ false
is_down f o none e n = same_there f o ∙ (e ∙ ap not n)
