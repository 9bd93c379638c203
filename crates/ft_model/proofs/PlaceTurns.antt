-- What becomes of one place in one turn, and how what holds of each place and each packet holds of a whole turn.
use Rattle.tcp_rules.specs.declared.timestamping.Timestamping.{Timestamping}
use Rattle.std.proofs.Common.{◌≡◌, ℕ, Bool, true, false, ◌==◌, MatchBool, refl, sym, ap, ◌∙◌, subst, eqb-true, List, [], ◌∷◌, map, flat_map, inl, inr, ◌⊎◌}
use Rattle.std.specs.List.{AllByRecursion}
use Rattle.std.proofs.lemmas.Bool.{and_parts}
use Rattle.ft_io.specs.declared.Key.{Key}
use Rattle.seq_arith.specs.Packet.{Segment}
use Rattle.seq_arith.specs.Message.{Numbers, Body, Message}
use Rattle.seq_arith.specs.Message.Body.{OpenMsg, OpenedMsg, StableMsg, ReadsMsg, EndedMsg, FullMsg}
use Rattle.server_trait.specs.Service.{Machine}
use Rattle.ft_model.specs.Network.{Packet, source_of}
use Rattle.ft_model.specs.Network.Packet.{To_client}
use Rattle.ft_model.specs.Point.{Point}
use Rattle.ft_model.specs.News.{News}
use Rattle.ft_model.specs.News.News.{Comes, Logged, Ticks, Begins}
use Rattle.ft_model.specs.Connection.{ConnectionTurn, reported_by}
use Rattle.ft_model.specs.Opening.{point_opened}
use Rattle.ft_model.specs.Refusal.{as_closed, full_rst}
use Rattle.ft_model.specs.Node.{Node, Place, Input, key_of, is_for}
use Rattle.ft_model.specs.Node.Place.{Opens, Lives, Ended}
use Rattle.ft_model.specs.Node.Input.{Packet_comes, Message_comes, Tick_comes}
use Rattle.ft_model.specs.ServingTurn.{Stays, LivesOn, OnReceipt, Meets, PlaceTurn, concerns, names, AllGo, newcomers, refusals, is_asked, opens_at, ServingTurn}
use Rattle.ft_model.proofs.Lists.{same_key, all_append}
use Rattle.ft_io.proofs.Choices.{holds_if}

-- the news that an input has for a connection
abbrev pub IsNews : Node → Input → News → Point → Type 0
IsNews node input (Comes segment) p = (input ≡ Packet_comes segment) × (source_of segment ≡ p.key)
IsNews node input (Logged kept) p =
    (message : Message) × (input ≡ Message_comes message) × (message.boot ≡ node.boot) × (kept.key ≡ p.key) × ((message.body ≡ StableMsg kept) ⊎ (message.body ≡ ReadsMsg kept))
IsNews node input Ticks p = input ≡ Tick_comes
IsNews node input Begins p = ⊥

-- Opened has come for a pending opening
pub record HasOpened (node : Node) (input : Input) (asked kept : Numbers) : Type 0 where
  pub message : Message
  pub comes : input ≡ Message_comes message
  pub boot : message.boot ≡ node.boot
  pub body : message.body ≡ OpenedMsg kept
  pub key : kept.key ≡ asked.key

-- why a pending opening is dropped: Opened has come with another number of the client, or Full
abbrev pub IsDropped : Node → Input → Numbers → Type 0
IsDropped node input asked =
    ((kept : Numbers) × HasOpened node input asked kept × ((kept.cisn == asked.cisn) ≡ false))
    ⊎ ((message : Message) × (input ≡ Message_comes message) × (message.body ≡ FullMsg asked.key))

-- Ended has come for a key
abbrev pub HasEnded : Input → Key → Type 0
HasEnded input key = (message : Message) × (input ≡ Message_comes message) × (message.body ≡ EndedMsg key)

pub data PlaceWent {State : Type 0} (service : Machine State) (node : Node) (input : Input) (place : Place) (now : List Place) (sent : List Packet) : Type 0 where
  stayed : now ≡ place ∷ [] → sent ≡ [] → PlaceWent service node input place now sent
  went_on : (news : News) (p after : Point) → place ≡ Lives p → IsNews node input news p → now ≡ Lives after ∷ []
      → ConnectionTurn service node.server node.boot news p after sent → PlaceWent service node input place now sent
  began : (asked kept : Numbers) (timestamping : Timestamping) (after : Point) → place ≡ Opens asked timestamping → HasOpened node input asked kept → now ≡ Lives after ∷ []
      → ConnectionTurn service node.server node.boot Begins (point_opened node.profile timestamping kept) after sent → PlaceWent service node input place now sent
  dropped : (asked : Numbers) (timestamping : Timestamping) → place ≡ Opens asked timestamping → IsDropped node input asked → now ≡ [] → (sent ≡ []) ⊎ (sent ≡ To_client (full_rst node.server asked) ∷ []) → PlaceWent service node input place now sent
  ended : (p : Point) → place ≡ Lives p → HasEnded input p.key → now ≡ Ended p.key ∷ [] → sent ≡ [] → PlaceWent service node input place now sent
  refused : (key : Key) (segment : Segment) → place ≡ Ended key → input ≡ Packet_comes segment → source_of segment ≡ key → now ≡ Ended key ∷ []
      → sent ≡ map To_client (as_closed node.server segment) → PlaceWent service node input place now sent

stays : {State : Type 0} (service : Machine State) (node : Node) (input : Input) (place : Place) (now : List Place) (sent : List Packet)
    → Stays place now sent → PlaceWent service node input place now sent
stays service node input place now sent s = stayed s.0 s.1

opens : {State : Type 0} (service : Machine State) (node : Node) (input : Input) (asked kept : Numbers) (timestamping : Timestamping) (b : Bool) (now : List Place) (sent : List Packet)
    → (kept.cisn == asked.cisn) ≡ b → HasOpened node input asked kept
    → MatchBool b (LivesOn service node Begins (point_opened node.profile timestamping kept) now sent) ((now ≡ []) × (sent ≡ []))
    → PlaceWent service node input (Opens asked timestamping) now sent
opens service node input asked kept timestamping true now sent o h t = began asked kept timestamping t.0 refl h t.1 t.2
opens service node input asked kept timestamping false now sent o h t = dropped asked timestamping refl (inl (kept, h, o)) t.0 (inl t.1)

on_receipt : {State : Type 0} (service : Machine State) (node : Node) (message : Message) (body : Body) (place : Place) (now : List Place) (sent : List Packet)
    → message.body ≡ body → message.boot ≡ node.boot → names body (key_of place) ≡ true
    → OnReceipt service node body place now sent → PlaceWent service node (Message_comes message) place now sent
on_receipt service node message (StableMsg kept) (Lives p) now sent e b n t =
    went_on (Logged kept) p t.0 refl (message, refl, b, same_key kept.key p.key n, inl e) t.1 t.2
on_receipt service node message (ReadsMsg kept) (Lives p) now sent e b n t =
    went_on (Logged kept) p t.0 refl (message, refl, b, same_key kept.key p.key n, inr e) t.1 t.2
on_receipt service node message (EndedMsg key) (Lives p) now sent e b n t = ended p refl (message, refl, e ∙ ap EndedMsg (same_key key p.key n)) t.0 t.1
on_receipt service node message (OpenedMsg kept) (Opens asked timestamping) now sent e b n t =
    opens service node (Message_comes message) asked kept timestamping (kept.cisn == asked.cisn) now sent refl
    (record { message = message; comes = refl; boot = b; body = e; key = same_key kept.key asked.key n }) t
on_receipt service node message (FullMsg key) (Opens asked timestamping) now sent e b n t =
    dropped asked timestamping refl (inr (message, refl, e ∙ ap FullMsg (same_key key asked.key n))) t.0 (inr t.1)
on_receipt service node message body place now sent e b n t = stays service node (Message_comes message) place now sent t

meets : {State : Type 0} (service : Machine State) (node : Node) (input : Input) (place : Place) (now : List Place) (sent : List Packet)
    → concerns node input (key_of place) ≡ true → Meets service node input place now sent → PlaceWent service node input place now sent
meets service node (Packet_comes segment) (Lives p) now sent c t =
    went_on (Comes segment) p t.0 refl (refl, same_key (source_of segment) p.key (and_parts (is_for node.server segment) _ c).1) t.1 t.2
meets service node (Packet_comes segment) (Ended key) now sent c t =
    refused key segment refl refl (same_key (source_of segment) key (and_parts (is_for node.server segment) _ c).1) t.0 t.1
meets service node (Message_comes message) place now sent c t =
    let parts = and_parts (message.boot == node.boot) (names message.body (key_of place)) c in
    on_receipt service node message message.body place now sent refl (eqb-true _ _ parts.0) parts.1 t
meets service node Tick_comes (Lives p) now sent c t = went_on Ticks p t.0 refl refl t.1 t.2
meets service node input place now sent c t = stays service node input place now sent t

by_concern : {State : Type 0} (service : Machine State) (node : Node) (input : Input) (place : Place) (now : List Place) (sent : List Packet) (b : Bool)
    → concerns node input (key_of place) ≡ b → MatchBool b (Meets service node input place now sent) (Stays place now sent)
    → PlaceWent service node input place now sent
by_concern service node input place now sent true c t = meets service node input place now sent c t
by_concern service node input place now sent false c t = stays service node input place now sent t

pub place_went : {State : Type 0} (service : Machine State) (node : Node) (input : Input) (place : Place) (now : List Place) (sent : List Packet)
    → PlaceTurn service node input place now sent → PlaceWent service node input place now sent
place_went service node input place now sent t = by_concern service node input place now sent (concerns node input (key_of place)) refl t

-- what holds of the places before gives what holds of those after, and of the packets
pub all_proceed : (Goes : Place → List Place → List Packet → Type 0) (Q R : Place → Type 0) (P : Packet → Type 0)
    → ((place : Place) (now : List Place) (sent : List Packet) → Q place → Goes place now sent → AllByRecursion R now × AllByRecursion P sent)
    → (before after : List Place) (sent : List Packet) → AllByRecursion Q before → AllGo Goes before after sent
    → AllByRecursion R after × AllByRecursion P sent
all_proceed Goes Q R P step [] after sent q t = (subst (AllByRecursion R) (sym t.0) tt, subst (AllByRecursion P) (sym t.1) tt)
all_proceed Goes Q R P step (place ∷ places) after sent q (now, later, first, others, places_are, sent_is, goes, rest) =
    let here = step place now first q.0 goes in
    let there = all_proceed Goes Q R P step places later others q.1 rest in (
      subst (AllByRecursion R) (sym places_are) (all_append R now later here.0 there.0),
      subst (AllByRecursion P) (sym sent_is) (all_append P first others here.1 there.1),
    )

pub all_flat : {A B : Type 0} (R : A → Type 0) (P : B → Type 0) (f : A → List B) (xs : List A) → ((x : A) → R x → AllByRecursion P (f x))
    → AllByRecursion R xs → AllByRecursion P (flat_map f xs)
all_flat R P f [] g a = tt
all_flat R P f (x ∷ xs) g a = all_append P (f x) (flat_map f xs) (g x a.0) (all_flat R P f xs g a.1)

pub asks_so : (node : Node) (input : Input) (R : Place → Type 0) (P : Packet → Type 0)
    → ((numbers : Numbers) (timestamping : Timestamping) → R (Opens numbers timestamping) → P (reported_by node.boot (OpenMsg numbers))) → (place : Place) → R place → AllByRecursion P (opens_at node input place)
asks_so node input R P asks (Opens numbers timestamping) r =
    holds_if (AllByRecursion P) (is_asked node input numbers) (reported_by node.boot (OpenMsg numbers) ∷ []) [] (λ t. (asks numbers timestamping r, tt)) (λ t. tt)
asks_so node input R P asks (Lives p) r = tt
asks_so node input R P asks (Ended key) r = tt

-- the same of a whole turn of a server that serves
pub serving_proceeds : {State : Type 0} (service : Machine State) (node : Node) (input : Input) (opened : ℕ) (Q R : Place → Type 0) (P : Packet → Type 0)
    (before after : List Place) (sent : List Packet)
    → ((place : Place) (now : List Place) (sent : List Packet) → Q place → PlaceWent service node input place now sent → AllByRecursion R now × AllByRecursion P sent)
    → AllByRecursion R (newcomers node input opened before) → AllByRecursion P (refusals node input before)
    → ((numbers : Numbers) (timestamping : Timestamping) → R (Opens numbers timestamping) → P (reported_by node.boot (OpenMsg numbers)))
    → AllByRecursion Q before → ServingTurn service node input opened before after sent
    → AllByRecursion R after × AllByRecursion P sent
serving_proceeds service node input opened Q R P before after sent step fresh rsts asks q t =
    let went = all_proceed (PlaceTurn service node input) Q R P
    (λ place now some h turn. step place now some h (place_went service node input place now some turn)) before t.went t.by_places q t.all_go in
    let places : AllByRecursion R after = subst (AllByRecursion R) (sym t.places) (all_append R t.went (newcomers node input opened before) went.0 fresh) in (
      places,
      subst (AllByRecursion P) (sym t.packets)
          (all_append P t.by_places _ went.1 (all_append P (refusals node input before) _ rsts (all_flat R P (opens_at node input) after (asks_so node input R P asks) places))),
    )
