-- A server that serves has a connection, live or done, for each client that it has answered. So no acknowledgement comes from a client that it doesn't know, and what
-- it sends in a turn resets no client that the log keeps, unless it hears that the log is full.
use Rattle.tcp_rules.specs.declared.timestamping.Timestamping.{Timestamping}
use Rattle.std.proofs.Common.{◌≡◌, ℕ, Bool, true, false, ◌&&◌, not, nat_lt, refl, sym, ap, ◌∙◌, subst, true≢false, inl, inr, ◌⊎◌, ⊎_elim, IfSome, eq-eqb, Some, None, List, [], ◌∷◌, ◌++◌, map, if◌then◌else◌}
use Rattle.std.specs.List.{AllByRecursion}
use Rattle.std.proofs.lemmas.Bool.{and_parts, or_right}
use Rattle.ft_io.specs.declared.Addr.{Addr}
use Rattle.ft_io.specs.declared.Key.{Key}
use Rattle.ft_io.specs.Key.{key_eq}
use Rattle.seq_arith.specs.Packet.{Segment, has_rst, has_ack}
use Rattle.seq_arith.specs.Message.{Numbers, Body}
use Rattle.seq_arith.specs.Message.Body.{OpenMsg, EndedMsg}
use Rattle.server_trait.specs.Service.{Machine}
use Rattle.ft_model.specs.Client.{Client, is_open}
use Rattle.ft_model.specs.Connection.{ConnectionTurn, reported_by}
use Rattle.ft_model.specs.Copy.{copies}
use Rattle.ft_model.specs.Keys.{AreDistinct, has_key}
use Rattle.ft_model.specs.Log.{Log, entry_of}
use Rattle.ft_model.specs.Network.{Packet, source_of, destination_of}
use Rattle.ft_model.specs.Network.Packet.{To_server, To_client, To_logger, From_logger}
use Rattle.ft_model.specs.News.{News}
use Rattle.ft_model.specs.Node.{Node, Place, Input, key_of, place_at, is_for, is_known, is_pending, pending_count}
use Rattle.ft_model.specs.Node.Place.{Opens, Lives, Ended}
use Rattle.ft_model.specs.Node.Input.{Packet_comes, Message_comes, Noise_comes, Tick_comes}
use Rattle.ft_model.specs.Opening.{is_syn, numbers_for, timestamping_for}
use Rattle.ft_model.specs.Point.{Point}
use Rattle.ft_model.specs.Reads.{reads_reported}
use Rattle.ft_model.specs.Refusal.{as_listen, as_closed, full_rst, rst_at_ack, rst_behind}
use Rattle.ft_model.specs.ResetAndEnd.{dones}
use Rattle.ft_model.specs.Resets.{ResetsNoLogged}
use Rattle.ft_model.specs.Segments.{segments_of}
use Rattle.ft_model.specs.ServingTurn.{PlaceTurn, newcomers, refusals, is_strange, opens_at, ServingTurn}
use Rattle.ft_model.proofs.AuthorTurns.{all_split, all_go_then, settles, is_settled, settled_append, settled_proceeds, one_of, place_settled}
use Rattle.ft_model.proofs.Faithful.{AnswerFits, HasEntry, PlaceFits, EntriesFit, units_within}
use Rattle.ft_model.proofs.FaithfulKept.{InputFits}
use Rattle.ft_model.proofs.Keys.{absent_key, all_from_get, finds_itself}
use Rattle.ft_model.proofs.KnownKeys.{OpensNothing, IsPlain, connection_plain, asks_to_open}
use Rattle.ft_model.proofs.Lists.{all_both, all_weaker, all_map, all_append, or_cases, or_left, same_key, key_is, some_is}
use Rattle.ft_model.proofs.PlaceTurns.{PlaceWent, IsDropped, place_went, all_flat, asks_so}
use Rattle.ft_model.proofs.PlaceTurns.PlaceWent.{stayed, went_on, began, dropped, ended, refused}
use Rattle.ft_model.proofs.Refused.{IsDone}
use Rattle.ft_model.proofs.Spoken.{Spoken, segments_spoken, headed}
use Rattle.ft_model.proofs.StageTurns.{either_turn}
use Rattle.ft_io.proofs.Booleans.{not_true}
use Rattle.ft_io.proofs.Choices.{holds_if}
use Rattle.long_laws.specs.LongResets.{says_full}

-- who acknowledges was answered, and who is answered has a connection
abbrev pub IsReceived : List Place → Packet → Type 0
IsReceived places (To_server segment) = has_ack segment ≡ true → is_settled (source_of segment) places ≡ true
IsReceived places (To_client segment) = has_rst segment ≡ false → is_settled (destination_of segment) places ≡ true
IsReceived places _ = Unit {0}

-- and so was a client whose connection is open
abbrev pub IsCaller : List Place → Client → Type 0
IsCaller places c = is_open c.phase ≡ true → is_settled c.key places ≡ true

-- whether the log is asked to open a key
abbrev pub asks_for : Key → Body → Bool
asks_for key (OpenMsg n) = key_eq n.key key
asks_for key _ = false

abbrev pub opens_key : Key → Packet → Bool
opens_key key (To_logger message) = asks_for key message.body
opens_key key _ = false

-- a place that is done has an entry that is done, or the log has given it up, and isn't asked to open it again
abbrev pub IsOver : Log → List Packet → Key → Type 0
IsOver log packets key = IsDone log key ⊎ ((entry_of key log ≡ None) × AllByRecursion (λ p. opens_key key p ≡ false) packets)

abbrev pub PlaceOver : Log → List Packet → Place → Type 0
PlaceOver log packets (Ended key) = IsOver log packets key
PlaceOver log packets _ = Unit {0}

pub record AnswersAll (log : Log) (clients : List Client) (packets : List Packet) (places : List Place) : Type 0 where
  pub receipt : AllByRecursion (IsReceived places) packets
  pub callers : AllByRecursion (IsCaller places) clients
  pub over : AllByRecursion (PlaceOver log packets) places

-- Ended is said of an entry that is done
abbrev pub BodyEnds : Log → Body → Type 0
BodyEnds log (EndedMsg key) = IsDone log key
BodyEnds log _ = Unit {0}

abbrev pub SaysEnded : Log → Packet → Type 0
SaysEnded log (From_logger message) = BodyEnds log message.body
SaysEnded log _ = Unit {0}

-- the same of what comes to the server
abbrev pub InputEnds : Log → Input → Type 0
InputEnds log (Message_comes message) = BodyEnds log message.body
InputEnds log _ = Unit {0}

abbrev pub InputReceived : List Place → Input → Type 0
InputReceived places (Packet_comes segment) = has_ack segment ≡ true → is_settled (source_of segment) places ≡ true
InputReceived places _ = Unit {0}

abbrev pub is_full_input : Input → Bool
is_full_input (Message_comes message) = says_full message.body
is_full_input _ = false

-- each place that is live or done settles its own key
abbrev pub IsThere : List Place → Place → Type 0
IsThere places (Lives p) = is_settled p.key places ≡ true
IsThere places (Ended key) = is_settled key places ≡ true
IsThere places (Opens n timestamping) = Unit {0}

first_there : (p : Place) (places : List Place) → IsThere (p ∷ places) p
first_there (Lives p) places = or_left (key_eq p.key p.key) (is_settled p.key places) (key_is p.key)
first_there (Ended key) places = or_left (key_eq key key) (is_settled key places) (key_is key)
first_there (Opens n timestamping) places = tt

there_more : (p : Place) (places : List Place) (x : Place) → IsThere places x → IsThere (p ∷ places) x
there_more p places (Lives q) t = or_right (settles q.key p) (is_settled q.key places) t
there_more p places (Ended key) t = or_right (settles key p) (is_settled key places) t
there_more p places (Opens n timestamping) t = tt

pub each_there : (places : List Place) → AllByRecursion (IsThere places) places
each_there [] = tt
each_there (p ∷ places) = (first_there p places, all_weaker (IsThere places) (IsThere (p ∷ places)) places (there_more p places) (each_there places))

-- a connection that is live or done is known
settles_so : (key : Key) (place : Place) → settles key place ≡ true → key_eq (key_of place) key ≡ true
settles_so key (Lives p) e = e
settles_so key (Ended k) e = e
settles_so key (Opens n timestamping) e = absurd (true≢false (sym e))

pub settled_known : (key : Key) (places : List Place) → is_settled key places ≡ true → has_key key (map key_of places) ≡ true
settled_known key [] e = e
settled_known key (p ∷ places) e =
    ⊎_elim (λ h. or_left (key_eq (key_of p) key) (has_key key (map key_of places)) (settles_so key p h))
    (λ h. or_right (key_eq (key_of p) key) (has_key key (map key_of places)) (settled_known key places h)) (or_cases (settles key p) (is_settled key places) e)

-- what is sent to a client that has a connection, and resets nobody
abbrev pub Reported : Log → List Place → Packet → Type 0
Reported log later packet = IsReceived later packet × ResetsNoLogged log packet

reported : (log : Log) (later : List Place) (boot : ℕ) (bodies : List Body) → AllByRecursion (Reported log later) (map (reported_by boot) bodies)
reported log later boot [] = tt
reported log later boot (body ∷ bodies) = ((tt, tt), reported log later boot bodies)

connection_reported : {State : Type 0} (service : Machine State) (log : Log) (server : Addr) (boot : ℕ) (news : News) (p q : Point) (sent : List Packet) (later : List Place)
    → is_settled q.key later ≡ true → ConnectionTurn service server boot news p q sent → AllByRecursion (Reported log later) sent
connection_reported service log server boot news p q sent later there =
    either_turn service server boot news p q sent
    (λ t. subst (AllByRecursion (Reported log later)) (sym t.packets) (reported log later boot (dones news p q)))
    (λ t. subst (AllByRecursion (Reported log later)) (sym t.packets)
    (all_append (Reported log later) (map To_client (segments_of service server news p q)) _
    (all_map (Reported log later) To_client (segments_of service server news p q)
    (all_weaker (Spoken service server news p q) (λ s. Reported log later (To_client s)) (segments_of service server news p q)
    (λ s spoken. let h = headed service server news p q s spoken in
    (λ r. subst (λ k. is_settled k later ≡ true) (sym h.destination) there, λ r. absurd (true≢false (sym r ∙ h.no_rst)))) (segments_spoken service server news p q)))
    (reported log later boot (copies news p q ++ (reads_reported news p q ++ dones news p q)))))

-- what is sent in a turn, and what of it comes from a place: that asks to open nothing
abbrev pub Sent : Bool → Log → List Place → Packet → Type 0
Sent full log later packet = IsReceived later packet × (full ≡ false → ResetsNoLogged log packet)

abbrev pub Fair : Bool → Log → List Place → Packet → Type 0
Fair full log later packet = Sent full log later packet × OpensNothing packet

pub connection_fair : {State : Type 0} (service : Machine State) (full : Bool) (log : Log) (server : Addr) (boot : ℕ) (news : News) (p q : Point) (sent : List Packet) (later : List Place)
    → is_settled q.key later ≡ true → ConnectionTurn service server boot news p q sent → AllByRecursion (Fair full log later) sent
connection_fair service full log server boot news p q sent later there t =
    all_both (Reported log later) (IsPlain log) (Fair full log later) sent (λ x a b. ((a.0, λ f. a.1), b.1)) (connection_reported service log server boot news p q sent later there t)
    (connection_plain service log server boot news p q sent t)

rst_fair : (full : Bool) (log : Log) (later : List Place) (segment : Segment) → has_rst segment ≡ true
    → (full ≡ false → IfSome (entry_of (destination_of segment) log) (λ e. e.done ≡ true)) → Fair full log later (To_client segment)
rst_fair full log later segment rst spares = ((λ r. absurd (true≢false (sym rst ∙ r)), λ f r. spares f), tt)

-- CLOSED's RST goes to a client whose entry is done or gone
over_spares : (log : Log) (packets : List Packet) (key : Key) → IsOver log packets key → IfSome (entry_of key log) (λ e. e.done ≡ true)
over_spares log packets key (inl d) = subst (λ o. IfSome o (λ e. e.done ≡ true)) (sym d.1) d.2
over_spares log packets key (inr n) = subst (λ o. IfSome o (λ e. e.done ≡ true)) (sym n.0) tt

closed_fair : (full : Bool) (log : Log) (packets : List Packet) (later : List Place) (server : Addr) (segment : Segment) → IsOver log packets (source_of segment)
    → AllByRecursion (Fair full log later) (map To_client (as_closed server segment))
closed_fair full log packets later server segment o =
    let P : List Segment → Type 0 = λ x. AllByRecursion (Fair full log later) (map To_client x) in
    let spares : IfSome (entry_of (source_of segment) log) (λ e. e.done ≡ true) = over_spares log packets (source_of segment) o in
    holds_if P (has_rst segment) [] (if has_ack segment then rst_at_ack server segment ∷ [] else rst_behind server segment ∷ []) (λ t. tt)
    (λ t. holds_if P (has_ack segment) (rst_at_ack server segment ∷ []) (rst_behind server segment ∷ [])
    (λ u. (rst_fair full log later (rst_at_ack server segment) refl (λ f. spares), tt)) (λ u. (rst_fair full log later (rst_behind server segment) refl (λ f. spares), tt)))

-- an opening is dropped only where the log says that it is full: the number that the log keeps is the client's own
dropped_full : (script : Key → List ℕ) (isn : Key → ℕ) (log : Log) (node : Node) (input : Input) (asked : Numbers) → EntriesFit script isn log.entries → InputFits script isn log input
    → asked.cisn ≡ isn asked.key → IsDropped node input asked → is_full_input input ≡ true
dropped_full script isn log node input asked entries i own (inl (kept, h, other)) =
    let reported : AnswerFits log h.message.body = subst (InputFits script isn log) h.comes i in
    let has : HasEntry log kept = subst (AnswerFits log) h.body reported in
    let within = units_within script isn log kept.key has.0 entries has.1 in
    let same : kept.cisn ≡ asked.cisn = (sym has.2 ∙ within.0.cisn) ∙ (ap isn h.key ∙ sym own) in
    absurd (true≢false (sym (eq-eqb kept.cisn asked.cisn same) ∙ other))
dropped_full script isn log node input asked entries i own (inr (message, c, b)) = ap is_full_input c ∙ ap says_full b

-- a place in a turn
place_fair : {State : Type 0} (service : Machine State) (script : Key → List ℕ) (isn : Key → ℕ) (log : Log) (packets : List Packet) (node : Node) (input : Input) (later : List Place)
    → EntriesFit script isn log.entries → InputFits script isn log input → InputEnds log input
    → (place : Place) (now : List Place) (sent : List Packet) → PlaceFits script isn log place × PlaceOver log packets place → PlaceWent service node input place now sent
    → AllByRecursion (PlaceOver log packets) now × (AllByRecursion (IsThere later) now → AllByRecursion (Fair (is_full_input input) log later) sent)
place_fair service script isn log packets node input later entries i ends place now sent q (stayed n s) =
    (subst (AllByRecursion (PlaceOver log packets)) (sym n) (q.1, tt), λ m. subst (AllByRecursion (Fair (is_full_input input) log later)) (sym s) tt)
place_fair service script isn log packets node input later entries i ends place now sent q (went_on news p after e w n t) = (
  subst (AllByRecursion (PlaceOver log packets)) (sym n) (tt, tt),
  λ m. connection_fair service (is_full_input input) log node.server node.boot news p after sent later (one_of (IsThere later) (Lives after) now n m) t,
)
place_fair service script isn log packets node input later entries i ends place now sent q (began asked kept timestamping after e h n t) = (
  subst (AllByRecursion (PlaceOver log packets)) (sym n) (tt, tt),
  λ m. connection_fair service (is_full_input input) log node.server node.boot _ _ after sent later (one_of (IsThere later) (Lives after) now n m) t,
)
place_fair service script isn log packets node input later entries i ends place now sent q (dropped asked timestamping e d n s) =
    let full : is_full_input input ≡ true = dropped_full script isn log node input asked entries i (subst (PlaceFits script isn log) e q.0) d in (
      subst (AllByRecursion (PlaceOver log packets)) (sym n) tt,
      λ m. ⊎_elim (λ x. subst (AllByRecursion (Fair (is_full_input input) log later)) (sym x) tt)
          (λ x. subst (AllByRecursion (Fair (is_full_input input) log later)) (sym x) (rst_fair (is_full_input input) log later (full_rst node.server asked) refl (λ f. absurd (true≢false (sym full ∙ f))), tt)) s,
    )
place_fair service script isn log packets node input later entries i ends place now sent q (ended p e h n s) =
    let says : BodyEnds log h.0.body = subst (InputEnds log) h.1 ends in
    let done : IsDone log p.key = subst (BodyEnds log) h.2 says in
    (subst (AllByRecursion (PlaceOver log packets)) (sym n) (inl done, tt), λ m. subst (AllByRecursion (Fair (is_full_input input) log later)) (sym s) tt)
place_fair service script isn log packets node input later entries i ends place now sent q (refused key segment e c k n s) =
    let over : IsOver log packets key = subst (PlaceOver log packets) e q.1 in (
      subst (AllByRecursion (PlaceOver log packets)) (sym n) (over, tt),
      λ m. subst (AllByRecursion (Fair (is_full_input input) log later)) (sym s)
          (closed_fair (is_full_input input) log packets later node.server segment (subst (IsOver log packets) (sym k) over)),
    )

-- no RST of LISTEN is sent: who acknowledges is known
refusals_fair : (log : Log) (node : Node) (input : Input) (places later : List Place) → InputReceived places input → AllByRecursion (Fair (is_full_input input) log later) (refusals node input places)
refusals_fair log node (Packet_comes segment) places later receipt =
    holds_if (AllByRecursion (Fair false log later)) (is_strange node segment places) (map To_client (as_listen node.server segment)) []
    (λ t. let unknown = absent_key key_of (source_of segment) places (not_true _ (and_parts (is_for node.server segment) (not (is_known (source_of segment) places)) t).1) in
    holds_if (λ x. AllByRecursion (Fair false log later) (map To_client x)) (has_ack segment && not (has_rst segment)) (rst_at_ack node.server segment ∷ []) []
    (λ u. absurd (true≢false (sym (settled_known (source_of segment) places (receipt (and_parts (has_ack segment) (not (has_rst segment)) u).0)) ∙ unknown))) (λ u. tt)) (λ t. tt)
refusals_fair log node (Message_comes message) places later receipt = tt
refusals_fair log node Noise_comes places later receipt = tt
refusals_fair log node Tick_comes places later receipt = tt

new_over : (log : Log) (packets : List Packet) (node : Node) (input : Input) (opened : ℕ) (places : List Place) → AllByRecursion (PlaceOver log packets) (newcomers node input opened places)
new_over log packets node (Packet_comes segment) opened places =
    holds_if (AllByRecursion (PlaceOver log packets)) (is_strange node segment places && is_syn segment && nat_lt (pending_count places) 64) (Opens (numbers_for node.profile node.isn opened segment) (timestamping_for node.profile segment) ∷ []) []
    (λ t. (tt, tt)) (λ t. tt)
new_over log packets node (Message_comes message) opened places = tt
new_over log packets node Noise_comes opened places = tt
new_over log packets node Tick_comes opened places = tt

-- no other place has the key of one that is done
abbrev Finds : List Place → Place → Type 0
Finds places place = place_at (key_of place) places ≡ Some place

by_key : (places : List Place) (key : Key) (n : Numbers) (timestamping : Timestamping) (b : Bool) → key_eq n.key key ≡ b → place_at key places ≡ Some (Ended key) → place_at n.key places ≡ Some (Opens n timestamping) → b ≡ false
by_key places key n timestamping false e a r = refl
by_key places key n timestamping true e a r =
    let same : Ended key ≡ Opens n timestamping = some_is (Ended key) (Opens n timestamping) (sym a ∙ (ap (λ k. place_at k places) (sym (same_key n.key key e)) ∙ r)) in absurd (true≢false (sym (ap is_pending same)))

plain_opens : (key : Key) (body : Body) → asks_to_open body ≡ false → asks_for key body ≡ false
plain_opens key (OpenMsg n) e = absurd (true≢false e)
plain_opens key _ e = refl

plain_key : (key : Key) (p : Packet) → OpensNothing p → opens_key key p ≡ false
plain_key key (To_logger message) e = plain_opens key message.body e
plain_key key (To_server segment) e = refl
plain_key key (To_client segment) e = refl
plain_key key (From_logger message) e = refl

over_more : (log : Log) (packets sent : List Packet) (places : List Place) → ((key : Key) → place_at key places ≡ Some (Ended key) → AllByRecursion (λ p. opens_key key p ≡ false) sent)
    → (place : Place) → Finds places place → PlaceOver log packets place → PlaceOver log (packets ++ sent) place
over_more log packets sent places none (Ended key) at o =
    ⊎_elim (λ d. inl d) (λ n. inr (n.0, all_append (λ p. opens_key key p ≡ false) packets sent n.1 (none key at))) o
over_more log packets sent places none (Lives p) at o = tt
over_more log packets sent places none (Opens n timestamping) at o = tt

received_on : (places later : List Place) → ((key : Key) → is_settled key places ≡ true → is_settled key later ≡ true) → (p : Packet) → IsReceived places p → IsReceived later p
received_on places later on (To_server segment) h = λ a. on (source_of segment) (h a)
received_on places later on (To_client segment) h = λ r. on (destination_of segment) (h r)
received_on places later on (To_logger message) h = tt
received_on places later on (From_logger message) h = tt

-- what a turn leaves, and what it sends
abbrev pub Goes : Bool → Log → List Client → List Packet → List Place → List Packet → Type 0
Goes full log clients packets places sent = AnswersAll log clients (packets ++ sent) places × AllByRecursion (λ p. full ≡ false → ResetsNoLogged log p) sent

pub serving_answers : {State : Type 0} (service : Machine State) (script : Key → List ℕ) (isn : Key → ℕ) (log : Log) (clients : List Client) (packets : List Packet) (node : Node) (input : Input)
    (opened : ℕ) (places later : List Place) (sent : List Packet) → EntriesFit script isn log.entries → InputFits script isn log input → InputEnds log input → InputReceived places input
    → AllByRecursion (PlaceFits script isn log) places → AreDistinct (map key_of later) → AnswersAll log clients packets places → ServingTurn service node input opened places later sent
    → Goes (is_full_input input) log clients packets later sent
serving_answers service script isn log clients packets node input opened places later sent entries i ends receipt fits d k t =
    let full : Bool = is_full_input input in
    let new : List Place = newcomers node input opened places in
    let went = all_go_then (PlaceTurn service node input) (λ x. PlaceFits script isn log x × PlaceOver log packets x) (PlaceOver log packets) (IsThere later) (Fair full log later)
    (λ place now some q x. place_fair service script isn log packets node input later entries i ends place now some q (place_went service node input place now some x))
    places t.went t.by_places (all_both (PlaceFits script isn log) (PlaceOver log packets) _ places (λ p a b. (a, b)) fits k.over) t.all_go in
    let there = all_split (IsThere later) t.went new (subst (AllByRecursion (IsThere later)) t.places (each_there later)) in
    let by_places : AllByRecursion (Fair full log later) t.by_places = went.1 there.0 in
    let rsts : AllByRecursion (Fair full log later) (refusals node input places) = refusals_fair log node input places later receipt in
    let finds : AllByRecursion (Finds later) later = all_from_get (Finds later) later (λ j x e. finds_itself key_of later j x d e) in
    let all : AllByRecursion (Sent full log later) sent =
    subst (AllByRecursion (Sent full log later)) (sym t.packets)
    (all_append (Sent full log later) t.by_places _ (all_weaker (Fair full log later) (Sent full log later) t.by_places (λ p f. f.0) by_places)
    (all_append (Sent full log later) (refusals node input places) _ (all_weaker (Fair full log later) (Sent full log later) (refusals node input places) (λ p f. f.0) rsts)
    (all_flat (Finds later) (Sent full log later) (opens_at node input) later (asks_so node input (Finds later) (Sent full log later) (λ n s r. (tt, λ f. tt))) finds))) in
    let none : (key : Key) → place_at key later ≡ Some (Ended key) → AllByRecursion (λ p. opens_key key p ≡ false) sent =
    λ key at. subst (AllByRecursion (λ p. opens_key key p ≡ false)) (sym t.packets)
    (all_append (λ p. opens_key key p ≡ false) t.by_places _ (all_weaker (Fair full log later) (λ p. opens_key key p ≡ false) t.by_places (λ p f. plain_key key p f.1) by_places)
    (all_append (λ p. opens_key key p ≡ false) (refusals node input places) _
    (all_weaker (Fair full log later) (λ p. opens_key key p ≡ false) (refusals node input places) (λ p f. plain_key key p f.1) rsts)
    (all_flat (Finds later) (λ p. opens_key key p ≡ false) (opens_at node input) later
    (asks_so node input (Finds later) (λ p. opens_key key p ≡ false) (λ n s r. by_key later key n s (key_eq n.key key) refl at r)) finds))) in
    let on : (key : Key) → is_settled key places ≡ true → is_settled key later ≡ true =
    λ key s. ap (is_settled key) t.places ∙ settled_append key t.went new
    (inl (settled_proceeds (PlaceTurn service node input) key (λ place now some x e. place_settled service node input key place now some (place_went service node input place now some x) e)
    places t.went t.by_places t.all_go s)) in (
      record {
        receipt = all_append (IsReceived later) packets sent (all_weaker (IsReceived places) (IsReceived later) packets (received_on places later on) k.receipt)
            (all_weaker (Sent full log later) (IsReceived later) sent (λ p x. x.0) all);
        callers = all_weaker (IsCaller places) (IsCaller later) clients (λ c f o. on c.key (f o)) k.callers;
        over = all_both (Finds later) (PlaceOver log packets) (PlaceOver log (packets ++ sent)) later (over_more log packets sent later none) finds
            (subst (AllByRecursion (PlaceOver log packets)) (sym t.places) (all_append (PlaceOver log packets) t.went new went.0 (new_over log packets node input opened places)));
      },
      all_weaker (Sent full log later) (λ p. full ≡ false → ResetsNoLogged log p) sent (λ p x. x.1) all,
    )
