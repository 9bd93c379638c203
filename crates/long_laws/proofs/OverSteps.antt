-- Done means over stays so through the further steps of a long trace.
use Rattle.std.proofs.Common.{◌≡◌, ℕ, suc, nat_abs, Bool, true, false, ◌||◌, refl, sym, ap, ◌∙◌, subst, true≢false, inl, inr, ⊎_elim, Option, Some, None, List, [], ◌∷◌, ◌++◌, length, if◌then◌else◌}
use Rattle.std.specs.List.{list_any}
use Rattle.std.proofs.lemmas.Bool.{and_parts, or_right}
use Rattle.ft_io.specs.declared.Key.{Key}
use Rattle.ft_io.specs.Key.{key_eq}
use Rattle.ft_io.proofs.Choices.{by_cases, holds_if, if_false}
use Rattle.seq_arith.specs.Packet.{Segment, has_rst}
use Rattle.seq_arith.specs.Message.{Body}
use Rattle.seq_arith.specs.Message.Body.{DataMsg, DoneMsg}
use Rattle.server_trait.specs.Service.{Machine, reference}
use Rattle.ft_model.specs.Client.{Client}
use Rattle.ft_model.specs.Growth.{lengths_in}
use Rattle.ft_model.specs.Log.{Log, Entry}
use Rattle.ft_model.specs.Masked.{unfailing}
use Rattle.ft_model.specs.Network.{Packet, source_of}
use Rattle.ft_model.specs.Network.Packet.{To_server, To_client, To_logger, From_logger}
use Rattle.ft_model.specs.Node.{Node, Place, Stage, key_of}
use Rattle.ft_model.specs.Node.Input.{Packet_comes}
use Rattle.ft_model.specs.Node.Place.{Opens, Lives, Ended}
use Rattle.ft_model.specs.Node.Stage.{Asking, Fetching, Serving, Fenced}
use Rattle.ft_model.specs.Offset.{ack_of}
use Rattle.ft_model.specs.Point.{Point}
use Rattle.ft_model.specs.World.{World}
use Rattle.ft_model.proofs.Keys.{key_eq_turns}
use Rattle.ft_model.proofs.Lists.{all_of, all_both, all_append, found_passes, none_is_some, same_key, some_is, or_left}
use Rattle.ft_model.proofs.StageTurns.{stage_went}
use Rattle.long_laws.specs.LongTrace.{others, concerns, is_about, places_at, IsEnded, recycled, stage_without, node_without, forgotten, with_new, MayArrive, last_rst, LetsGo, SendsKeepAlive, keep_alive}
use Rattle.long_laws.specs.Over.{HasAll, is_rst_of}
use Rattle.long_laws.proofs.LetGo.{with_packets, with_rst}
use Rattle.long_laws.proofs.Others.{all_others, find_others, none_found, last_there}
use Rattle.long_laws.proofs.Over.{SegmentOver, BodyOver, PacketOver, EntryOver, PlaceOver, StageOver}
use Rattle.long_laws.proofs.OverClients.{Of, HasReached, IsDoneWith, Reached, Finished, of_weaker, reached_down, reached_none, finishes}
use Rattle.long_laws.proofs.OverTurns.{turn_over}
use Rattle.long_laws.proofs.OverWorld.{OverIn, OverWorld, over_stays, more_over}
use Rattle.long_laws.proofs.Recycled.{AreClear}
use Rattle.long_laws.proofs.Stands.{Stands}

-- an entry is recycled

-- the RSTs of other clients stay
rst_elsewhere : (key k : Key) (packet : Packet) → key_eq k key ≡ false → concerns key packet ≡ true → is_rst_of k packet ≡ false
rst_elsewhere key k (To_server segment) apart c =
    by_cases (is_rst_of k (To_server segment))
    (λ t. absurd (true≢false (sym c ∙ (ap (λ y. key_eq y key) (same_key (source_of segment) k (and_parts (key_eq (source_of segment) k) (has_rst segment) t).0) ∙ apart)))) (λ t. t)
rst_elsewhere key k (To_client segment) apart c = refl
rst_elsewhere key k (To_logger message) apart c = refl
rst_elsewhere key k (From_logger message) apart c = refl

rsts_stay : (key k : Key) (packets : List Packet) → key_eq k key ≡ false → list_any (is_rst_of k) (others (concerns key) packets) ≡ list_any (is_rst_of k) packets
rsts_stay key k [] apart = refl
rsts_stay key k (p ∷ packets) apart =
    holds_if (λ l. list_any (is_rst_of k) l ≡ list_any (is_rst_of k) (p ∷ packets)) (concerns key p) (others (concerns key) packets) (p ∷ others (concerns key) packets)
    (λ t. rsts_stay key k packets apart ∙ sym (ap (λ b. b || list_any (is_rst_of k) packets) (rst_elsewhere key k p apart t)))
    (λ t. ap (λ b. is_rst_of k p || b) (rsts_stay key k packets apart))

-- the key's let-go no longer counts
abbrev pub let_go_but : Key → (Key → Bool) → Key → Bool
let_go_but key let_go k = if key_eq k key then false else let_go k

module _ {State : Type 0} (service : Machine State) (let_go : Key → Bool) (key : Key) (w : World) where
  abbrev now : World
  now = recycled key w

  same_run : (c : Client) → key_eq c.key key ≡ false → unfailing service w.log c ≡ unfailing service now.log c
  same_run c a = ap (λ o. reference service c.script (lengths_in o)) (sym (find_others (λ e. e.key) key c.key w.log.entries a))

  all_here : (c : Client) → key_eq c.key key ≡ false → HasAll service w.log c → HasAll service now.log c
  all_here c a h = record { closed = ap (λ r. r.closed) (sym (same_run c a)) ∙ h.closed; all = h.all ∙ ap (λ r. r.output) (same_run c a); at_end = h.at_end }

  reached_here : (n : ℕ) (c : Client) → key_eq c.key key ≡ false → HasReached service w.log n c → HasReached service now.log n c
  reached_here n c a h = ⊎_elim (λ x. inl x) (λ x. inr (all_here c a x)) h

  done_here : (c : Client) → key_eq c.key key ≡ false → IsDoneWith service let_go w.log w.packets c → IsDoneWith service (let_go_but key let_go) now.log now.packets c
  done_here c a h =
      ⊎_elim (λ x. inl (⊎_elim (λ y. inl (all_here c a y)) (λ y. inr (record { sent = rsts_stay key c.key w.packets a ∙ y.sent; reset = y.reset })) x))
      (λ x. inr (if_false (key_eq c.key key) false (let_go c.key) a ∙ x)) h

  packet_without : (C : Key → ℕ → Type 0) (G : Key → Type 0) (p : Packet) → concerns key p ≡ false → PacketOver C G w.log p → PacketOver C G now.log p
  packet_without C G (To_server segment) a o = ((λ h. let x = o.0 h in (x.0, find_others (λ e. e.key) key (source_of segment) w.log.entries a ∙ x.1, x.2)), o.1)
  packet_without C G (To_client segment) a o = tt
  packet_without C G (To_logger message) a o = o
  packet_without C G (From_logger message) a o = tt

  pub over_without : OverWorld service let_go w → OverWorld service (let_go_but key let_go) now
  over_without x =
      let C : Key → ℕ → Type 0 = Reached service now.log now.clients in
      let G : Key → Type 0 = Finished service (let_go_but key let_go) now.log now.packets now.clients in
      let still : OverIn service C G w.log w.packets w.node =
      over_stays service (Reached service w.log w.clients) C (Finished service let_go w.log w.packets w.clients) G
      (λ k n h. all_others (λ c. key_eq c.key k ≡ true → HasReached service w.log n c) (λ c. key_eq c.key k ≡ true → HasReached service now.log n c) (λ c. key_eq c.key key) w.clients
      (λ c a f t. reached_here n c a (f t)) h)
      (λ k h. all_others (λ c. key_eq c.key k ≡ true → IsDoneWith service let_go w.log w.packets c) (λ c. key_eq c.key k ≡ true → IsDoneWith service (let_go_but key let_go) now.log now.packets c)
      (λ c. key_eq c.key key) w.clients (λ c a f t. done_here c a (f t)) h)
      w.log w.packets w.node x in
      record {
        packets = all_others (PacketOver C G w.log) (PacketOver C G now.log) (concerns key) w.packets (packet_without C G) still.packets;
        entries = all_others (EntryOver C G) (EntryOver C G) (λ e. key_eq e.key key) w.log.entries (λ e a o. o) still.entries;
        stage = still.stage;
      }

-- the server forgets a key

module _ {State : Type 0} (service : Machine State) (B : Key → ℕ → Type 0) (F : Key → Type 0) (key : Key) where
  stage_left : (stage : Stage) → StageOver service B F stage → StageOver service B F (stage_without key stage)
  stage_left (Serving opened places) o = all_others (PlaceOver service B F) (PlaceOver service B F) (λ p. key_eq (key_of p) key) places (λ p a x. x) o
  stage_left Asking o = tt
  stage_left (Fetching count fetched) o = tt
  stage_left (Fenced newer) o = tt

  node_left : (up : Option Node) → ((n : Node) → up ≡ Some n → StageOver service B F n.stage) → (n : Node) → node_without key up ≡ Some n → StageOver service B F n.stage
  node_left (Some node) f n e = subst (λ m. StageOver service B F m.stage) (some_is (record node { stage = stage_without key node.stage }) n e) (stage_left node.stage (f node refl))
  node_left None f n e = none_is_some n e

pub over_forgotten : {State : Type 0} (service : Machine State) (let_go : Key → Bool) (key : Key) (w : World) → OverWorld service let_go w → OverWorld service let_go (forgotten key w)
over_forgotten service let_go key w x = record {
  packets = x.packets;
  entries = x.entries;
  stage = node_left service (Reached service w.log w.clients) (Finished service let_go w.log w.packets w.clients) key w.node x.stage;
}

-- a new client arrives

module _ {State : Type 0} (service : Machine State) (B C : Key → ℕ → Type 0) (F G : Key → Type 0) (key : Key)
    (more : (k : Key) (n : ℕ) → key_eq k key ≡ false → B k n → C k n) (done : (k : Key) → key_eq k key ≡ false → F k → G k) where
  body_elsewhere : (body : Body) → is_about key body ≡ false → BodyOver B F body → BodyOver C G body
  body_elsewhere (DataMsg part) a o = more part.key part.acked a o
  body_elsewhere (DoneMsg k) a o = done k a o
  body_elsewhere _ a o = tt

  packet_elsewhere : (log : Log) (p : Packet) → concerns key p ≡ false → PacketOver B F log p → PacketOver C G log p
  packet_elsewhere log (To_server segment) a o =
      ((λ h. let x = o.0 h in (x.0, x.1, λ low. more (source_of segment) (nat_abs (ack_of x.0.sisn segment)) a (x.2 low))), λ r. done (source_of segment) a (o.1 r))
  packet_elsewhere log (To_logger message) a o = body_elsewhere message.body a o
  packet_elsewhere log (To_client segment) a o = tt
  packet_elsewhere log (From_logger message) a o = tt

  entry_elsewhere : (e : Entry) → key_eq e.key key ≡ false → EntryOver B F e → EntryOver C G e
  entry_elsewhere e a o = record { acknowledged = more e.key e.acknowledged a o.acknowledged; done = λ d. done e.key a (o.done d) }

  place_elsewhere : (place : Place) → (key_eq (key_of place) key ≡ true → IsEnded place) → PlaceOver service B F place → PlaceOver service C G place
  place_elsewhere (Lives p) clear o =
      by_cases (key_eq p.key key) (λ t. absurd (clear t))
      (λ t. record {
        sends = o.sends;
        una = more p.key p.una t o.una;
        reset = λ r. done p.key t (o.reset r);
        ends = ⊎_elim (λ z. inl z) (λ x. inr (⊎_elim (λ f. inl (done p.key t f)) (λ y. inr y) x)) o.ends;
      })
  place_elsewhere (Opens n timestamping) clear o = tt
  place_elsewhere (Ended k) clear o = tt

  stage_elsewhere : (stage : Stage) → AreClear key (places_at stage) → StageOver service B F stage → StageOver service C G stage
  stage_elsewhere (Serving opened places) clear o =
      all_both (λ place. key_eq (key_of place) key ≡ true → IsEnded place) (PlaceOver service B F) (PlaceOver service C G) places place_elsewhere clear o
  stage_elsewhere Asking clear o = tt
  stage_elsewhere (Fetching count fetched) clear o = tt
  stage_elsewhere (Fenced newer) clear o = tt

-- the clients of another key stay
of_others : (P : Client → Type 0) (c : Client) (clients : List Client) (k : Key) → key_eq k c.key ≡ false → Of k P clients → Of k P (clients ++ c ∷ [])
of_others P c clients k a h = all_append (λ x. key_eq x.key k ≡ true → P x) clients (c ∷ []) h ((λ t. absurd (true≢false (sym t ∙ key_eq_turns k c.key a))), tt)

pub over_with_new : {State : Type 0} (service : Machine State) (let_go : Key → Bool) (c : Client) (w : World) → MayArrive c w → OverWorld service let_go w → OverWorld service let_go (with_new c w)
over_with_new service let_go c w may x =
    let B : Key → ℕ → Type 0 = Reached service w.log w.clients in
    let F : Key → Type 0 = Finished service let_go w.log w.packets w.clients in
    let C : Key → ℕ → Type 0 = Reached service w.log (w.clients ++ c ∷ []) in
    let G : Key → Type 0 = Finished service let_go w.log w.packets (w.clients ++ c ∷ []) in
    let more : (k : Key) (n : ℕ) → key_eq k c.key ≡ false → B k n → C k n = λ k n a h. of_others (HasReached service w.log n) c w.clients k a h in
    let done : (k : Key) → key_eq k c.key ≡ false → F k → G k = λ k a h. of_others (IsDoneWith service let_go w.log w.packets) c w.clients k a h in
    record {
      packets = all_both (λ p. concerns c.key p ≡ false) (PacketOver B F w.log) (PacketOver C G w.log) w.packets (packet_elsewhere service B C F G c.key more done w.log) may.unreceived x.packets;
      entries = all_both (λ e. key_eq e.key c.key ≡ false) (EntryOver B F) (EntryOver C G) w.log.entries (entry_elsewhere service B C F G c.key more done)
          (none_found (λ e. key_eq e.key c.key) w.log.entries may.absent) x.entries;
      stage = λ n e. stage_elsewhere service B C F G c.key more done n.stage (may.clear n e) (x.stage n e);
    }

-- the server lets go of a client: as if that had sent a RST

abbrev pub let_go_also : Key → (Key → Bool) → Key → Bool
let_go_also key let_go k = key_eq k key || let_go k

pub over_let_go : {State : Type 0} (service : Machine State) (let_go : Key → Bool) (key : Key) (w : World) (sent : List Packet) (after : World) → Stands service w → LetsGo service key w sent after
    → OverWorld service let_go w → OverWorld service (let_go_also key let_go) after
over_let_go service let_go key w sent after o l x =
    let p : Point = l.point in
    let rst : Segment = last_rst l.node.server p in
    let there : World = with_packets w (w.packets ++ To_server rst ∷ []) in
    let then_ : Stands service there = with_rst service w l.node.server p o in
    let also : Key → Bool = let_go_also key let_go in
    let B : Key → ℕ → Type 0 = Reached service w.log w.clients in
    let G : Key → Type 0 = Finished service also w.log w.packets w.clients in
    let still : OverWorld service also w =
    over_stays service B B (Finished service let_go w.log w.packets w.clients) G (λ k n h. h)
    (λ k h. of_weaker k (IsDoneWith service let_go w.log w.packets) (IsDoneWith service also w.log w.packets) w.clients
    (λ c y. ⊎_elim (λ z. inl z) (λ z. inr (or_right (key_eq c.key key) (let_go c.key) z)) y) h) w.log w.packets w.node x in
    let own : key_eq p.key key ≡ true = found_passes (λ place. key_eq (key_of place) key) (places_at l.node.stage) (Lives p) l.lives in
    let done : G p.key =
    all_of (λ c. key_eq c.key p.key ≡ true → IsDoneWith service also w.log w.packets c) w.clients
    (λ c k. inr (or_left (key_eq c.key key) (let_go c.key) (ap (λ y. key_eq y key) (same_key c.key p.key k) ∙ own))) in
    let says : SegmentOver B G w.log p.key rst = ((λ a. absurd (true≢false (sym a))), λ r. done) in
    let t = turn_over service B G (reached_down service w.log w.clients) (reached_none service w.log w.clients) then_.script then_.isn there then_.author (finishes service also w.packets there then_) l.node (Packet_comes rst)
    sent l.later.stage then_.asked then_.faithful (all_append (PacketOver B G w.log) w.packets (To_server rst ∷ []) still.packets (says, tt)) still.entries (still.stage l.node l.up) l.up
    (suc (length w.packets), last_there w.packets (To_server rst)) (stage_went service l.node l.later (Packet_comes rst) sent l.turn) in
    subst (OverWorld service also) (sym l.after_is)
    (more_over service also w w.boot (Some l.later) sent still t.1 (λ n g. subst (λ y. StageOver service B G y.stage) (some_is l.later n g) t.0))

-- it sends a keep-alive

pub over_kept_alive : {State : Type 0} (service : Machine State) (let_go : Key → Bool) (key : Key) (w : World) (sent : List Packet) (after : World) → SendsKeepAlive key w sent after
    → OverWorld service let_go w → OverWorld service let_go after
over_kept_alive service let_go key w sent after l x =
    subst (OverWorld service let_go) (sym l.after_is) (more_over service let_go w w.boot w.node (To_client (keep_alive l.node.server l.point) ∷ []) x (tt, tt) x.stage)
