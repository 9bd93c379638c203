-- The last of some events.
use Rattle.std.proofs.Common.{◌≡◌, ap, slice_get, List, [], ◌∷◌, ◌++◌}
use Rattle.std.proofs.lemmas.List.{append_cancel_left}
use Rattle.ft_model.specs.declared.event.Event.{Event}
use Rattle.ft_model.proofs.Lists.{some_is}

-- the last event of a trace
pub last_event : (events : List Event) (one other : Event) → events ++ one ∷ [] ≡ events ++ other ∷ [] → one ≡ other
last_event events one other e = some_is one other (ap (λ xs. slice_get xs 0) (append_cancel_left events (one ∷ []) (other ∷ []) e))
