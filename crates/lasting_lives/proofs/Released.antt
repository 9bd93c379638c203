-- What is known of each key stays true where a client is let go of: by a turn of the node alone, on a RST that nobody sent.
use Rattle.std.proofs.Common.{◌≡◌, ◌∙◌, ⊎_elim, inl, inr, ℕ, false, refl, sym, ap, ap₂, subst, Option, Some, None, List, [], ◌∷◌, ◌++◌, map}
use Rattle.std.proofs.lemmas.List.{map-append}
use Rattle.ft_io.specs.declared.Key.{Key}
use Rattle.server_trait.specs.Service.{Machine}
use Rattle.seq_arith.specs.Packet.{Segment}
use Rattle.ft_model.specs.Keys.{AreDistinct}
use Rattle.ft_model.specs.Lawful.{LawfulTurn}
use Rattle.ft_model.specs.Network.{Packet}
use Rattle.ft_model.specs.Node.{Node, Place, Input, key_of, place_at}
use Rattle.ft_model.specs.Node.Input.{Packet_comes}
use Rattle.ft_model.specs.Node.Place.{Opens, Lives, Ended}
use Rattle.ft_model.specs.Node.Stage.{Serving}
use Rattle.ft_model.specs.ServingTurn.{PlaceTurn, AllGo}
use Rattle.ft_model.proofs.PlaceTurns.{PlaceWent, place_went}
use Rattle.ft_model.proofs.PlaceTurns.PlaceWent.{stayed, went_on, began, dropped, ended, refused}
use Rattle.ft_model.proofs.StageTurns.{either_turn}
use Rattle.lasting_laws.specs.LastingTurn as law
use Rattle.lasting_laws.proofs.ByKey.{serves_on}
use Rattle.lasting_lives.specs.declared.life.Life.{Life}
use Rattle.lasting_lives.specs.declared.life.Life.TheVariants as life
use Rattle.lasting_lives.specs.Known.{LifeStands, LivesStand}
use Rattle.lasting_lives.proofs.Kept.{is_message, CalmKey, calm_key, never_fenced, no_message}

abbrev with_node : Node → law.LastingNode → law.LastingNode
with_node node n = record n { node = node }

calm_life : (n : law.LastingNode) (next : Node) (key : Key) (o o' : Option Place) (l : Option Life) → CalmKey o o' → LifeStands n key o l → LifeStands (with_node next n) key o' l
calm_life n next key (Some (Lives p)) o' (Some (life.Watched w)) c st = subst (λ x. LifeStands (with_node next n) key x (Some (life.Watched w))) (sym c.1) (st.0, st.1)
calm_life n next key (Some (Lives p)) o' (Some (life.Resting r)) c st = absurd st
calm_life n next key (Some (Lives p)) o' None c st = absurd st
calm_life n next key (Some (Ended k)) o' (Some (life.Resting r)) c st = subst (λ x. LifeStands (with_node next n) key x (Some (life.Resting r))) (sym c) st
calm_life n next key (Some (Ended k)) o' (Some (life.Watched w)) c st = absurd st
calm_life n next key (Some (Ended k)) o' None c st = absurd st
calm_life n next key (Some (Opens m t)) o' None c st = subst (λ x. LifeStands (with_node next n) key x None) (sym c.2) st
calm_life n next key (Some (Opens m t)) o' (Some x) c st = absurd st
calm_life n next key None o' None (inl c) st = subst (λ x. LifeStands (with_node next n) key x None) (sym c) st
calm_life n next key None o' None (inr c) st = subst (λ x. LifeStands (with_node next n) key x None) (sym c.2) st
calm_life n next key None o' (Some x) c st = absurd st

pub lives_released : {State : Type 0} (service : Machine State) (n : law.LastingNode) (input : Input) (next : Node) (opened : ℕ) (places : List Place) (sent : List Packet)
    (lives : Key → Option Life) → n.node.stage ≡ Serving opened places → is_message input ≡ false → AreDistinct (map key_of places) → LawfulTurn service n.node input sent next
    → LivesStand n n.node.stage lives → LivesStand (record n { node = next }) next.stage lives
lives_released service n input next opened places sent lives at calm was turn st =
    let served = serves_on service n.node next input opened places sent at (never_fenced n.node input calm) turn in
    let before : (key : Key) → LifeStands n key (place_at key places) (lives key) = subst (λ stage. LivesStand n stage lives) at st in
    subst (λ stage. LivesStand (with_node next n) stage lives) (sym served.1)
    (λ key. calm_life n next key (place_at key places) (place_at key served.0) (lives key) (calm_key service n.node input calm key opened places served.0 sent was served.2) (before key))

-- Its turn keeps the keys of all places, in their order
module _ {State : Type 0} (service : Machine State) (node : Node) (segment : Segment) where
  one_stays : (place : Place) (now : List Place) (sent : List Packet) → PlaceWent service node (Packet_comes segment) place now sent → map key_of now ≡ key_of place ∷ []
  one_stays place now sent (stayed n s) = ap (map key_of) n
  one_stays place now sent (went_on news p q e w n t) =
      let same : q.key ≡ p.key = either_turn service node.server node.boot news p q sent (λ r. ap (λ x. x.key) r.point) (λ l. l.same.key) t in
      ap (map key_of) n ∙ ap (λ k. k ∷ []) (same ∙ sym (ap key_of e))
  one_stays place now sent (began asked kept timestamping q e h n t) = no_message (Packet_comes segment) h.message refl h.comes
  one_stays place now sent (dropped asked timestamping e d n s) =
      ⊎_elim (λ x. no_message (Packet_comes segment) x.1.message refl x.1.comes) (λ x. no_message (Packet_comes segment) x.0 refl x.1) d
  one_stays place now sent (ended p e h n s) = no_message (Packet_comes segment) h.0 refl h.1
  one_stays place now sent (refused k s e i same n t) = ap (map key_of) n ∙ ap (λ x. x ∷ []) (sym (ap key_of e))

  pub keys_stay : (before after : List Place) (sent : List Packet) → AllGo (PlaceTurn service node (Packet_comes segment)) before after sent → map key_of after ≡ map key_of before
  keys_stay [] after sent t = ap (map key_of) t.0
  keys_stay (p ∷ ps) after sent (now, later, first, others, after_is, sent_is, goes, rest) =
      ap (map key_of) after_is
      ∙ (map-append key_of now later
      ∙ ap₂ (λ a b. a ++ b) (one_stays p now first (place_went service node (Packet_comes segment) p now first goes)) (keys_stay ps later others rest))
