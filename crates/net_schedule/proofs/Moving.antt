-- A client's move is what may happen in the world of the definitions.
use Rattle.std.proofs.Common.{◌≡◌, ◌∙◌, sym, ap, subst, refl, ℕ, zero, suc, ◌+◌, ◌-◌, ◌<◌, ◌≤◌, ◌^◌, ◌&&◌, Bool, true, false, cond, Some, None, option_map, List, [], ◌∷◌, ◌++◌, length, slice_get, get_or, take, drop, min, arith, sub-one, length-append, length-drop}
use Rattle.std.proofs.Math.ListN.{set}
use Rattle.std.proofs.lemmas.Bool.{lt-ltb}
use Rattle.std.proofs.lemmas.List.{take-append-le, take_all}
use Rattle.seq_arith.specs.PacketGrammar.{spelling}
use Rattle.server_trait.specs.Service.{Machine}
use Rattle.ft_model.specs.Client.{Client, Move, move_asked, mover_of, move_of, window_of, may_advertise, segment_of, moved}
use Rattle.ft_model.specs.Client.Move.{Syn, Text, Fin, Acknowledge, Rst}
use Rattle.ft_model.specs.Legal.{refusal, refusal_of_client}
use Rattle.ft_model.specs.Network.{Packet}
use Rattle.ft_model.specs.Network.Packet.{To_server}
use Rattle.ft_model.specs.World.{World as Seen, Moves, Happens, client_at, with_client}
use Rattle.ft_model.specs.declared.event.Event.{Event}
use Rattle.ft_model.specs.declared.event.Event.TheVariants as events
use Rattle.ft_model.specs.declared.event.EventWhy.{EventWhy}
use Rattle.ft_model.specs.declared.event.EventWhy.TheVariants as why
use Rattle.ft_model.specs.declared.way.Way.TheVariants.{ClientToServer}
use Rattle.ft_model.specs.Keys.{AreDistinct}
use Rattle.ft_model.proofs.Lists.{none_is_some, some_is, same_key, index_within}
use Rattle.peer_client.specs.Scripted.{Makes, Refuses as RefusesMove}
use Rattle.schedule_network.specs.StoredPackets.{with_packet, number_in}
use Rattle.net_schedule.specs.Delivery.{changed_at, delivered_to}
use Rattle.peer_client.specs.Scripted.{delivered}
use Rattle.net_schedule.specs.Premises.{Premises}
use Rattle.net_schedule.specs.Actors.{ActorsStand, ActorsAdvance}
use Rattle.net_schedule.specs.Refinement.{Kept}
use Rattle.schedule_network.proofs.Numbered.{past}
use Rattle.net_schedule.proofs.Peers.{number_is, at_first, first_is, changed_past}
use Rattle.net_schedule.proofs.Bringing.{distinct_keys}
use Rattle.ft_model.proofs.SomeOutcome.{asks, move_may as may}
use Rattle.ft_model.proofs.ClientKeys.{keys_in, keys_stay}

-- an element that is written over is changed
pub changed_set : {X : Type 0} (change : X → X) (xs : List X) (i : ℕ) (d y : X) → i < length xs → y ≡ change (get_or xs i d) → set xs i y ≡ changed_at i change xs
changed_set change [] i d y h e = absurd (omega arith)
changed_set change (x ∷ xs) zero d y h e = ap (λ z. z ∷ xs) e
changed_set change (x ∷ xs) (suc i) d y h e = ap (λ ys. x ∷ ys) (changed_set change xs i d y (omega arith) e)

pub delivered_set : (cs : List Client) (number : ℕ) (bytes : List ℕ) (d y : Client) → 0 < number → number ≤ length cs → y ≡ delivered (get_or cs (number - 1) d) bytes
    → set cs (number - 1) y ≡ delivered_to number bytes cs
delivered_set cs zero bytes d y h l e = absurd (omega arith)
delivered_set cs (suc n) bytes d y h l e =
    let one : suc n - 1 ≡ n = omega arith in
    ap (λ k. set cs k y) one ∙ changed_set (λ c. delivered c bytes) cs n d y (omega arith) (e ∙ ap (λ k. delivered (get_or cs k d) bytes) one)

-- no client has this number
pub delivered_none : (cs : List Client) (number : ℕ) (bytes : List ℕ) → length cs < number → cs ≡ delivered_to number bytes cs
delivered_none cs zero bytes h = refl
delivered_none cs (suc n) bytes h = sym (changed_past n (λ c. delivered c bytes) cs (omega arith))

-- a client by its number, as the code finds it
there : {X : Type 0} (xs : List X) (m : ℕ) (d : X) → m < length xs → slice_get xs m ≡ Some (get_or xs m d)
there [] m d h = absurd (omega arith)
there (x ∷ xs) zero d h = refl
there (x ∷ xs) (suc m) d h = there xs m d (omega arith)

pub client_there : (clients : List Client) (n : ℕ) (c : Client) → 0 < n → n ≤ length clients → c ≡ get_or clients (n - 1) c → client_at clients n ≡ Some c
client_there clients zero c p h e = absurd (omega arith)
client_there clients (suc m) c p h e = there clients m c (omega arith) ∙ ap (λ x. Some x) (sym (rw sub-one at e))

-- what was written in front of a room
pub written_front : (packet room written : List ℕ) (count size : ℕ) → written ≡ packet ++ drop count room → length room ≡ size → length written ≡ size → take (min count size) written ≡ packet
written_front packet room written count size e r l =
    let parts : length packet + (length room - count) ≡ size = sym (length-append packet (drop count room) ∙ ap (λ n. length packet + n) (length-drop count room)) ∙ sym (ap length e) ∙ l in
    let fits : min count size ≡ length packet = omega arith in
    rw (e, fits) (take-append-le (length packet) packet (drop count room) (omega arith) ∙ take_all (length packet) packet (omega arith))

-- what is refused for no cause is a move
may_if : (kind phase range : Bool) → kind ≡ true → cond phase (cond range None (Some why.Range)) (Some why.State) ≡ None → (kind && phase && range) ≡ true
may_if true true true k e = refl
may_if true true false k e = none_is_some why.Range (sym e)
may_if true false range k e = none_is_some why.State (sym e)
may_if false phase range k e = absurd (cc)

-- it may advertise its window
advertises : (client : Client) (event : Event) (move : Move) → move_of event ≡ Some move → window_of client event < 2 ^ 16 → may_advertise move (window_of client event) ≡ true
advertises client (events.Begin n window) move e h = subst (λ x. may_advertise x window ≡ true) (some_is (Syn None) move e) (lt-ltb window (2 ^ 16) h)
advertises client (events.Send n from len) move e h =
    subst (λ x. may_advertise x (window_of client (events.Send n from len)) ≡ true) (some_is (Text from len) move e) (lt-ltb (window_of client (events.Send n from len)) (2 ^ 16) h)
advertises client (events.Fin n) move e h = subst (λ x. may_advertise x (window_of client (events.Fin n)) ≡ true) (some_is Fin move e) (lt-ltb (window_of client (events.Fin n)) (2 ^ 16) h)
advertises client (events.Ack n window) move e h = subst (λ x. may_advertise x window ≡ true) (some_is Acknowledge move e) (lt-ltb window (2 ^ 16) h)
advertises client (events.Reset n) move e h = subst (λ x. may_advertise x 0 ≡ true) (some_is Rst move e) refl
advertises client (events.Boot boot isn) move e h = none_is_some move e
advertises client events.Crash move e h = none_is_some move e
advertises client events.Tick move e h = none_is_some move e
advertises client (events.Deliver n) move e h = none_is_some move e
advertises client (events.Flip n bit) move e h = none_is_some move e
advertises client (events.Stop part) move e h = none_is_some move e

happen : {State : Type 0} (service : Machine State) (v after : Seen) (event : Event) (number : ℕ) (sent : List Packet) → mover_of event ≡ Some number → Moves v number sent after → Happens service v event sent after
happen service v after (events.Begin n window) number sent e m = subst (λ k. Moves v k sent after) (sym (some_is n number e)) m
happen service v after (events.Send n from len) number sent e m = subst (λ k. Moves v k sent after) (sym (some_is n number e)) m
happen service v after (events.Fin n) number sent e m = subst (λ k. Moves v k sent after) (sym (some_is n number e)) m
happen service v after (events.Ack n window) number sent e m = subst (λ k. Moves v k sent after) (sym (some_is n number e)) m
happen service v after (events.Reset n) number sent e m = subst (λ k. Moves v k sent after) (sym (some_is n number e)) m
happen service v after (events.Boot boot isn) number sent e m = none_is_some number e
happen service v after events.Crash number sent e m = none_is_some number e
happen service v after events.Tick number sent e m = none_is_some number e
happen service v after (events.Deliver n) number sent e m = none_is_some number e
happen service v after (events.Flip n bit) number sent e m = none_is_some number e
happen service v after (events.Stop part) number sent e m = none_is_some number e

-- the move that is asked of a client
both_asked : (event : Event) (number : ℕ) (move : Move) → mover_of event ≡ Some number → move_of event ≡ Some move → move_asked event ≡ Some (number, move)
both_asked event number move e f =
    let a = asks (move_asked event) number e in
    let same : a.0 ≡ move = some_is a.0 move (sym (subst (λ o. option_map (λ x. x.1) o ≡ Some a.0) (sym a.1) refl) ∙ f) in
    a.1 ∙ ap (λ m. Some (number, m)) same

refusal_is : (v : Seen) (event : Event) (number : ℕ) (move : Move) → move_asked event ≡ Some (number, move) → refusal v event ≡ refusal_of_client (client_at v.clients number) move
refusal_is v (events.Begin n window) number move e = ap (λ a. refusal_of_client (client_at v.clients a.0) a.1) (some_is (n, Syn None) (number, move) e)
refusal_is v (events.Send n from len) number move e = ap (λ a. refusal_of_client (client_at v.clients a.0) a.1) (some_is (n, Text from len) (number, move) e)
refusal_is v (events.Fin n) number move e = ap (λ a. refusal_of_client (client_at v.clients a.0) a.1) (some_is (n, Fin) (number, move) e)
refusal_is v (events.Ack n window) number move e = ap (λ a. refusal_of_client (client_at v.clients a.0) a.1) (some_is (n, Acknowledge) (number, move) e)
refusal_is v (events.Reset n) number move e = ap (λ a. refusal_of_client (client_at v.clients a.0) a.1) (some_is (n, Rst) (number, move) e)
refusal_is v (events.Boot boot isn) number move e = none_is_some (number, move) e
refusal_is v events.Crash number move e = none_is_some (number, move) e
refusal_is v events.Tick number move e = none_is_some (number, move) e
refusal_is v (events.Deliver n) number move e = none_is_some (number, move) e
refusal_is v (events.Flip n bit) number move e = none_is_some (number, move) e
refusal_is v (events.Stop part) number move e = none_is_some (number, move) e

-- the client of a number is changed alone
abbrev replaced_at : List Client → ℕ → Client → Client → Type 0
replaced_at cs number c later = (set cs (number - 1) later ≡ with_client c.key (λ _. later) cs) × (number_in (keys_in cs) c.key ≡ number)

replaced : (cs : List Client) (number : ℕ) (c later : Client) → AreDistinct (keys_in cs) → client_at cs number ≡ Some c → replaced_at cs number c later
replaced cs zero c later d e = none_is_some c e
replaced cs (suc i) c later d e =
    let one : suc i - 1 ≡ i = omega arith in
    let inside : i < length cs = index_within cs i c e in
    let next : i + 1 ≡ suc i = omega arith in (
      ap (λ k. set cs k later) one ∙ changed_set (λ _. later) cs i c later inside refl
          ∙ sym (at_first c.key (λ _. later) cs d ∙ ap (λ k. changed_at k (λ _. later) cs) (first_is cs i c d e)),
      number_is cs i c d e ∙ next,
    )

-- the packet is sent, and the client stands as after the move
abbrev IsPlayedBy : Seen → Event → List Packet → List Client → Client → Move → Type 0
IsPlayedBy v event sent clients x move =
    (sent ≡ To_server (segment_of x move (window_of x event)) ∷ [])
    × (clients ≡ with_client x.key (λ _. moved x move (window_of x event)) v.clients)

module _ {State : Type 0} (service : Machine State) where
  pub moves : (w w' : Kept State) (v : Seen) (event : Event) (number : ℕ) (client later : Client) (room written : List ℕ) (count : ℕ) → ActorsStand service w v → Premises service v
      → mover_of event ≡ Some number → client_at w.clients number ≡ Some client → (m : Makes client event room count written later)
      → w' ≡ record w { clients = set w.clients (number - 1) later; packets = with_packet w.packets (ClientToServer number) (spelling (segment_of client m.move (window_of client event))) }
      → ActorsAdvance service v event w w'
  moves w w' v event number client later room written count st p by e m e' =
      let ce : client_at v.clients number ≡ Some client = subst (λ cs. client_at cs number ≡ Some client) st.clients e in
      let r : replaced_at v.clients number client later = replaced v.clients number client later (distinct_keys service v p) ce in
      let whole : move_asked event ≡ Some (number, m.move) = both_asked event number m.move by m.asked in
      let free : refusal_of_client (client_at v.clients number) m.move ≡ None = rw ce m.allowed in
      let numbered : number ≡ number_in w.keys client.key = sym r.1 ∙ ap (λ ks. number_in ks client.key) (sym st.keys) in
      let sent : List Packet = To_server (segment_of client m.move (window_of client event)) ∷ [] in
      let world : Seen = record v { clients = with_client client.key (λ _. later) v.clients; packets = v.packets ++ To_server (segment_of client m.move (window_of client event)) ∷ [] } in
      let same_name : later.key ≡ client.key = ap (λ c. c.key) m.after_is in
      subst (ActorsAdvance service v event w) (sym e')
      (record {
        happens = record {
          sent = To_server (segment_of client m.move (window_of client event)) ∷ [];
          world = record v { clients = with_client client.key (λ _. later) v.clients; packets = v.packets ++ To_server (segment_of client m.move (window_of client event)) ∷ [] };
          goes = happen service v world event number (To_server (segment_of client m.move (window_of client event)) ∷ []) by
              (record {
                client = client;
                segment = segment_of client m.move (window_of client event);
                later = later;
                is_there = ce;
                move = record { move = m.move; window = window_of client event; may = may client event m.move m.asked m.allowed; fits = advertises client event m.move m.asked m.fits; timestamps = None; carries = refl; segment_is = refl; after_is = m.after_is };
                sent_is = refl;
                after_is = refl;
              });
          stands = record {
            server = st.server;
            profile = st.profile;
            keys = st.keys ∙ sym (keys_stay client.key (λ _. later) v.clients (λ c k. same_name ∙ sym (same_key c.key client.key k)));
            clients = ap (λ cs. set cs (number - 1) later) st.clients ∙ r.0;
            boot = st.boot;
            unmarked = st.unmarked;
            node = st.node;
            runs = st.runs;
          };
          grew = refl;
          quiet = refl;
          same_profile = refl;
          stored = ap (λ n. with_packet w.packets (ClientToServer n) (spelling (segment_of client m.move (window_of client event)))) numbered;
          same_keys = refl;
          same_log = refl;
          same_keepers = refl;
        };
        allowed = refusal_is v event number m.move whole ∙ free;
        scripted = λ n move c k h.
            let alike : (number, m.move) ≡ (n, move) = some_is (number, m.move) (n, move) (sym whole ∙ k) in
            let same : client ≡ c = some_is client c (sym ce ∙ (ap (λ a. client_at v.clients a.0) alike ∙ h)) in
            let made : m.move ≡ move = ap (λ a. a.1) alike in
            subst (λ x. IsPlayedBy v event (To_server (segment_of client m.move (window_of client event)) ∷ []) world.clients x move) same
            (subst (λ x. IsPlayedBy v event (To_server (segment_of client m.move (window_of client event)) ∷ []) world.clients client x) made
            (refl, ap (λ x. with_client client.key (λ _. x) v.clients) m.after_is));
      })

  -- what the client machine refuses, the events' tests refuse
  pub refuses_move : (w : Kept State) (v : Seen) (event : Event) (number : ℕ) (client : Client) (cause : EventWhy) → ActorsStand service w v → mover_of event ≡ Some number
      → client_at w.clients number ≡ Some client → RefusesMove client event cause → refusal v event ≡ Some cause
  refuses_move w v event number client cause st by e r =
      let ce : client_at v.clients number ≡ Some client = subst (λ cs. client_at cs number ≡ Some client) st.clients e in
      refusal_is v event number r.move (both_asked event number r.move by r.asked) ∙ rw ce r.refused

  -- there is no such client
  pub refuses_client : (w : Kept State) (v : Seen) (event : Event) (number : ℕ) → ActorsStand service w v → mover_of event ≡ Some number → client_at w.clients number ≡ None
      → refusal v event ≡ Some why.Client
  refuses_client w v event number st by e =
      let ce : client_at v.clients number ≡ None = subst (λ cs. client_at cs number ≡ None) st.clients e in
      let a = asks (move_asked event) number by in
      refusal_is v event number a.0 a.1 ∙ rw ce refl

pub client_missing : (clients : List Client) (n : ℕ) → length clients < n → client_at clients n ≡ None
client_missing clients zero h = refl
client_missing clients (suc n) h = past clients n (omega arith)

pub no_client : (clients : List Client) (n : ℕ) → n ≡ 0 → client_at clients n ≡ None
no_client clients n e = subst (λ k. client_at clients k ≡ None) (sym e) refl

pub none_delivered : (cs : List Client) (number : ℕ) (bytes : List ℕ) → number ≡ 0 → cs ≡ delivered_to number bytes cs
none_delivered cs number bytes e = subst (λ k. cs ≡ delivered_to k bytes cs) (sym e) refl
