-- When a moment's sending is what is asked for: always where no client is asked to move, and else where it is the client's move.
use Rattle.std.proofs.Common.{◌≡◌, ℕ, sym, ap, ◌∙◌, refl, subst₂, Some, None, List, [], ◌∷◌}
use Rattle.ft_model.specs.Client.{Client, Move, move_asked, segment_of, moved, window_of}
use Rattle.ft_model.specs.Network.{Packet}
use Rattle.ft_model.specs.Network.Packet.{To_server}
use Rattle.ft_model.specs.World.{World, Moment, client_at, with_client}
use Rattle.ft_model.specs.Legal.{IsScripted, IsAllowed, refusal}
use Rattle.ft_model.specs.declared.event.Event.{Event}
use Rattle.ft_model.proofs.Lists.{none_is_some, some_is}

-- no client is asked to move
pub quiet_event : (w : World) (event : Event) (sent : List Packet) (after : World) → move_asked event ≡ None → IsScripted w event sent after
quiet_event w event sent after none = λ number m c asks there. none_is_some (number, m) (sym none ∙ asks)

-- a client's move is the one that is asked for
abbrev IsMovedBy : World → Event → List Packet → List Client → Client → Move → Type 0
IsMovedBy w event sent clients c m =
    (sent ≡ To_server (segment_of c m (window_of c event)) ∷ []) × (clients ≡ with_client c.key (λ _. moved c m (window_of c event)) w.clients)

pub scripted : (w : World) (event : Event) (c : Client) (m : Move) (number : ℕ) (after : World) → move_asked event ≡ Some (number, m) → client_at w.clients number ≡ Some c
    → after.clients ≡ with_client c.key (λ _. moved c m (window_of c event)) w.clients → IsScripted w event (To_server (segment_of c m (window_of c event)) ∷ []) after
scripted w event c m number after asks there stands = λ i n d is found.
    let alike : (number, m) ≡ (i, n) = some_is (number, m) (i, n) (sym asks ∙ is) in
    let client : c ≡ d = some_is c d (sym there ∙ (ap (λ a. client_at w.clients a.0) alike ∙ found)) in
    subst₂ (IsMovedBy w event (To_server (segment_of c m (window_of c event)) ∷ []) after.clients) client (ap (λ a. a.1) alike) (refl, stands)

-- so a moment that is no client's move is allowed where nothing forbids it
pub still : (w : World) (m : Moment) → refusal w m.event ≡ None → move_asked m.event ≡ None → IsAllowed w m
still w m may none = record { allowed = may; scripted = quiet_event w m.event m.sent m.world none }
