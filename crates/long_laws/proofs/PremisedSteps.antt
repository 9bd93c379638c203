-- The premises of a server's contract stay when entries are recycled, keys forgotten, clients arrive, are asked for a sign of life, or are let go.
use Rattle.std.proofs.Common.{◌≡◌, ℕ, suc, ◌<◌, ◌≤◌, ◌^◌, true, false, cond, refl, sym, ap, ◌∙◌, subst, true≢false, Option, Some, List, [], ◌∷◌, ◌++◌, length, find, arith, if◌then◌else◌}
use Rattle.std.specs.List.{AllByRecursion}
use Rattle.std.proofs.lemmas.Bool.{or_from}
use Rattle.std.proofs.Math.Path.{fun_ext}
use Rattle.ft_io.specs.declared.Addr.{Addr}
use Rattle.ft_io.specs.declared.Key.{Key}
use Rattle.ft_io.specs.Key.{key_eq}
use Rattle.ft_io.proofs.Choices.{by_cases, if_true, if_false}
use Rattle.seq_arith.specs.Number.{number_at, offset_of}
use Rattle.seq_arith.specs.Message.{Body}
use Rattle.seq_arith.specs.Message.Body.{DataMsg}
use Rattle.seq_arith.specs.Packet.{Segment}
use Rattle.seq_arith.proofs.Units.{one_at_most}
use Rattle.server_trait.specs.Service.{Machine}
use Rattle.ft_model.specs.Client.{Client}
use Rattle.ft_model.specs.Keys.{has_key, AreDistinct}
use Rattle.ft_model.specs.Lawful.{is_fenced}
use Rattle.ft_model.specs.Log.{Log, Entry, entry_of}
use Rattle.ft_model.specs.Network.{Packet, source_of}
use Rattle.ft_model.specs.Network.Packet.{To_server, To_client, To_logger, From_logger}
use Rattle.ft_model.specs.Node.{Node, Place, Stage, key_of, place_at}
use Rattle.ft_model.specs.Node.Input.{Packet_comes}
use Rattle.ft_model.specs.Node.Place.{Opens, Lives, Ended}
use Rattle.ft_model.specs.Node.Stage.{Asking, Fetching, Serving, Fenced}
use Rattle.ft_model.specs.Offset.{one_if, first_of, IsNearOffset}
use Rattle.ft_model.specs.Point.{Point, taken_units}
use Rattle.ft_model.specs.World.{World}
use Rattle.ft_model.proofs.ClientKeys.{keys_in}
use Rattle.ft_model.proofs.Faithful.{PlaceFits}
use Rattle.ft_model.proofs.FaithfulOver.{script_of, isn_of, script_in, isn_in}
use Rattle.ft_model.proofs.Happened.{Happened}
use Rattle.ft_model.proofs.Happened.Happened.{server_turned}
use Rattle.ft_model.proofs.JointMasked.{JointInvariant}
use Rattle.ft_model.proofs.Keys.{key_eq_turns, distinct_more}
use Rattle.ft_model.proofs.Lists.{all_append, all_both, key_is, same_key}
use Rattle.ft_model.proofs.Resumed.{map_append}
use Rattle.ft_model.proofs.Running.{HasSmallOutputs}
use Rattle.ft_model.proofs.Services.{prefix_length}
use Rattle.ft_model.proofs.Unfenced.{StaleWithin}
use Rattle.trace_laws.proofs.FinsBelow.{BodyBelow, PacketBelow, EntryBelow, PlaceBelow, StageBelow}
use Rattle.trace_laws.proofs.Near.{SentWithin, FirstNear, PacketNear, near_number}
use Rattle.long_laws.specs.LongTrace.{others, concerns, is_about, places_at, IsEnded, without_entry, recycled, MayRecycle, stage_without, forgotten, MayForget, with_new, MayArrive, last_rst, LetsGo, SendsKeepAlive}
use Rattle.long_laws.proofs.Arrived.{stands_with_new, same_with_new, clients_apart, entries_apart}
use Rattle.long_laws.proofs.Forgotten.{left, was, stands_forgotten, same_forgotten}
use Rattle.long_laws.proofs.KeepAlive.{lives_fit, stands_kept_alive, same_kept_alive}
use Rattle.long_laws.proofs.LetGo.{with_packets, with_rst, same_with_rst, without_rst, same_without_rst}
use Rattle.long_laws.proofs.LiveClients.{live_others, live_front}
use Rattle.long_laws.proofs.Others.{all_others, distinct_others, find_others, last_there, all_but_one}
use Rattle.long_laws.proofs.PlainNear.{PlainNear}
use Rattle.long_laws.proofs.Premised.{Premised, joint_of, short_of, premised_proceeds}
use Rattle.long_laws.proofs.Recycled.{stands_without, same_without, AreClear, stage_of}

-- An entry is recycled

near_elsewhere : (key : Key) (isn : Key → ℕ) (log now : Log) → ((k : Key) → key_eq k key ≡ false → entry_of k log ≡ entry_of k now) → (p : Packet) → concerns key p ≡ false
    → PacketNear isn log p → PacketNear isn now p
near_elsewhere key isn log now same (To_server segment) a n = (n.0, λ r. let x = n.1 r in (x.0, sym (same (source_of segment) a) ∙ x.1, x.2))
near_elsewhere key isn log now same (To_client segment) a n = tt
near_elsewhere key isn log now same (To_logger message) a n = tt
near_elsewhere key isn log now same (From_logger message) a n = tt

plain_elsewhere : (key : Key) (isn : Key → ℕ) (clients : List Client) (p : Packet) → concerns key p ≡ false → PlainNear clients isn p → PlainNear (others (λ c. key_eq c.key key) clients) isn p
plain_elsewhere key isn clients (To_server segment) a n = λ e. n (sym (live_others key (source_of segment) clients a) ∙ e)
plain_elsewhere key isn clients (To_client segment) a n = tt
plain_elsewhere key isn clients (To_logger message) a n = tt
plain_elsewhere key isn clients (From_logger message) a n = tt

pub premised_without : {State : Type 0} (service : Machine State) (key : Key) (w : World) → Premised service w → MayRecycle key w → Premised service (recycled key w)
premised_without service key w o may =
    let isn : Key → ℕ = isn_of o.roster in
    let script : Key → List ℕ = script_of o.roster in
    let now : Log = without_entry key w.log in
    let left_clients : List Client = others (λ c. key_eq c.key key) w.clients in
    record {
      stands = stands_without service key w o.stands may;
      roster = o.roster;
      script = o.script ∙ sym (same_without service key w o.stands may).0;
      isn = o.isn ∙ sym (same_without service key w o.stands may).1;
      below = record {
        packets = all_others (PacketBelow script) (PacketBelow script) (concerns key) w.packets (λ p a b. b) o.below.packets;
        entries = all_others (EntryBelow script) (EntryBelow script) (λ e. key_eq e.key key) w.log.entries (λ e a b. b) o.below.entries;
        stage = λ n e. o.below.stage n e;
      };
      near = record {
        clients = all_others SentWithin SentWithin (λ c. key_eq c.key key) w.clients (λ c a s. s) o.near.clients;
        packets = all_others (PacketNear isn w.log) (PacketNear isn now) (concerns key) w.packets
            (near_elsewhere key isn w.log now (λ k a. sym (find_others (λ e. e.key) key k w.log.entries a))) o.near.packets;
      };
      plain = record {
        distinct = distinct_others (λ c. c.key) (λ c. key_eq c.key key) w.clients o.plain.distinct;
        packets = all_others (PlainNear w.clients isn) (PlainNear left_clients isn) (concerns key) w.packets (plain_elsewhere key isn w.clients) o.plain.packets;
      };
      unfenced = record {
        packets = all_others (StaleWithin w.boot) (StaleWithin w.boot) (concerns key) w.packets (λ p a s. s) o.unfenced.packets;
        node = λ n e. o.unfenced.node n e;
      };
    }

-- The server forgets a key

below_left : (script : Key → List ℕ) (key : Key) (stage : Stage) → StageBelow script stage → StageBelow script (stage_without key stage)
below_left script key (Serving opened places) b = left (PlaceBelow script) key places b
below_left script key Asking b = tt
below_left script key (Fetching count fetched) b = tt
below_left script key (Fenced newer) b = tt

same_fence : (key : Key) (stage : Stage) → is_fenced (stage_without key stage) ≡ is_fenced stage
same_fence key (Serving opened places) = refl
same_fence key Asking = refl
same_fence key (Fetching count fetched) = refl
same_fence key (Fenced newer) = refl

pub premised_forgotten : {State : Type 0} (service : Machine State) (key : Key) (w : World) → Premised service w → MayForget key w → Premised service (forgotten key w)
premised_forgotten service key w o may = record {
  stands = stands_forgotten service key w o.stands may;
  roster = o.roster;
  script = o.script ∙ sym (same_forgotten service key w o.stands may).0;
  isn = o.isn ∙ sym (same_forgotten service key w o.stands may).1;
  below = record {
    packets = o.below.packets;
    entries = o.below.entries;
    stage = λ n e. let b = was key w.node n e in
        subst (λ m. StageBelow (script_of o.roster) m.stage) (sym b.is) (below_left (script_of o.roster) key b.node.stage (o.below.stage b.node b.up));
  };
  near = record { clients = o.near.clients; packets = o.near.packets };
  plain = record { distinct = o.plain.distinct; packets = o.plain.packets };
  unfenced = record {
    packets = o.unfenced.packets;
    node = λ n e. let b = was key w.node n e in
        subst (λ m. is_fenced m.stage ≡ false) (sym b.is) (same_fence key b.node.stage ∙ o.unfenced.node b.node b.up);
  };
}

-- The server asks for a sign of life

pub premised_kept_alive : {State : Type 0} (service : Machine State) (key : Key) (w : World) (sent : List Packet) (after : World) → Premised service w → SendsKeepAlive key w sent after → Premised service after
premised_kept_alive service key w sent after o l =
    subst (Premised service) (sym l.after_is)
    (record {
      stands = stands_kept_alive service key w sent after o.stands l;
      roster = o.roster;
      script = o.script ∙ sym (same_kept_alive service key w sent after o.stands l).0;
      isn = o.isn ∙ sym (same_kept_alive service key w sent after o.stands l).1;
      below = record { packets = all_append (PacketBelow (script_of o.roster)) w.packets _ o.below.packets (tt, tt); entries = o.below.entries; stage = o.below.stage };
      near = record { clients = o.near.clients; packets = all_append (PacketNear (isn_of o.roster) w.log) w.packets _ o.near.packets (tt, tt) };
      plain = record { distinct = o.plain.distinct; packets = all_append (PlainNear w.clients (isn_of o.roster)) w.packets _ o.plain.packets (tt, tt) };
      unfenced = record { packets = all_append (StaleWithin w.boot) w.packets _ o.unfenced.packets (tt, tt); node = o.unfenced.node };
    })

-- The server lets go of a client

pub rst_near : (script : Key → List ℕ) (isn : Key → ℕ) (log : Log) (server : Addr) (p : Point) → ((k : Key) → length (script k) ≤ 2 ^ 24) → PlaceFits script isn log (Lives p)
    → FirstNear isn (last_rst server p)
rst_near script isn log server p short f =
    let front : length p.taken ≤ length (script p.key) = prefix_length p.taken (script p.key) f.0.fronts.front in
    let low : length (script p.key) ≤ 2 ^ 24 = short p.key in
    let one : one_if p.fin ≤ 1 = one_at_most p.fin in
    subst (λ n. IsNearOffset (offset_of n (number_at p.cisn (taken_units p)))) f.0.cisn (near_number p.cisn (taken_units p) (omega (arith, front, low, one)))

premised_with_rst : {State : Type 0} (service : Machine State) (w : World) (server : Addr) (p : Point) (o : Premised service w) → FirstNear (isn_of o.roster) (last_rst server p)
    → Premised service (with_packets w (w.packets ++ To_server (last_rst server p) ∷ []))
premised_with_rst service w server p o first = record {
  stands = with_rst service w server p o.stands;
  roster = o.roster;
  script = o.script ∙ sym (same_with_rst service w server p o.stands).0;
  isn = o.isn ∙ sym (same_with_rst service w server p o.stands).1;
  below = record { packets = all_append (PacketBelow (script_of o.roster)) w.packets _ o.below.packets (tt, tt); entries = o.below.entries; stage = o.below.stage };
  near = record {
    clients = o.near.clients;
    packets = all_append (PacketNear (isn_of o.roster) w.log) w.packets (To_server (last_rst server p) ∷ []) o.near.packets ((λ r. first, λ a. absurd (true≢false (sym a))), tt);
  };
  plain = record {
    distinct = o.plain.distinct;
    packets = all_append (PlainNear w.clients (isn_of o.roster)) w.packets (To_server (last_rst server p) ∷ []) o.plain.packets (λ e. first, tt);
  };
  unfenced = record { packets = all_append (StaleWithin w.boot) w.packets _ o.unfenced.packets (tt, tt); node = o.unfenced.node };
}

premised_without_rst : {State : Type 0} (service : Machine State) (w : World) (xs ys : List Packet) (rst : Segment) → Premised service (with_packets w ((xs ++ To_server rst ∷ []) ++ ys))
    → Premised service (with_packets w (xs ++ ys))
premised_without_rst service w xs ys rst o = record {
  stands = without_rst service w xs ys rst o.stands;
  roster = o.roster;
  script = o.script ∙ sym (same_without_rst service w xs ys rst o.stands).0;
  isn = o.isn ∙ sym (same_without_rst service w xs ys rst o.stands).1;
  below = record { packets = all_but_one (PacketBelow (script_of o.roster)) xs ys (To_server rst) o.below.packets; entries = o.below.entries; stage = o.below.stage };
  near = record { clients = o.near.clients; packets = all_but_one (PacketNear (isn_of o.roster) w.log) xs ys (To_server rst) o.near.packets };
  plain = record { distinct = o.plain.distinct; packets = all_but_one (PlainNear w.clients (isn_of o.roster)) xs ys (To_server rst) o.plain.packets };
  unfenced = record { packets = all_but_one (StaleWithin w.boot) xs ys (To_server rst) o.unfenced.packets; node = o.unfenced.node };
}

-- where the RST of a live connection begins
pub let_go_first : {State : Type 0} (service : Machine State) (w : World) (node : Node) (key : Key) (p : Point) → (o : Premised service w) → w.node ≡ Some node
    → place_at key (places_at node.stage) ≡ Some (Lives p) → FirstNear (isn_of o.roster) (last_rst node.server p)
let_go_first service w node key p o up lives =
    let j : JointInvariant service o.roster w = joint_of service w o in
    rst_near (script_of o.roster) (isn_of o.roster) w.log node.server p (short_of service w o) (lives_fit (script_of o.roster) (isn_of o.roster) w node.stage key p (j.faithful.stage node up) lives)

pub premised_let_go : {State : Type 0} (service : Machine State) → HasSmallOutputs service → (key : Key) (w : World) (sent : List Packet) (after : World) → Premised service w
    → LetsGo service key w sent after → Premised service after
premised_let_go service small key w sent after o l =
    let rst : Segment = last_rst l.node.server l.point in
    let there : World = with_packets w (w.packets ++ To_server rst ∷ []) in
    let then_ : World = record w { node = Some l.later; packets = (w.packets ++ To_server rst ∷ []) ++ sent } in
    let turn : Happened service there sent then_ = server_turned (Packet_comes rst) l.node l.later (suc (length w.packets), last_there w.packets (To_server rst)) l.up l.turn refl in
    let now : Premised service then_ = premised_proceeds service small there sent then_ (premised_with_rst service w l.node.server l.point o (let_go_first service w l.node key l.point o l.up l.lives)) turn in
    subst (Premised service) (sym l.after_is) (premised_without_rst service (record w { node = Some l.later }) w.packets sent rst now)

-- A client arrives: it stands in the roster before those of its key that are past

newest : {A : Type 0} (of : Option Client → A) (c : Client) (cs : List Client) (k : Key)
    → of (find (λ x. key_eq x.key k) (c ∷ cs)) ≡ (if key_eq k c.key then of (Some c) else of (find (λ x. key_eq x.key k) cs))
newest of c cs k =
    by_cases (key_eq k c.key)
    (λ e. ap (λ b. of (cond b (Some c) (find (λ x. key_eq x.key k) cs))) (subst (λ z. key_eq c.key z ≡ true) (sym (same_key k c.key e)) (key_is c.key))
    ∙ sym (if_true (key_eq k c.key) (of (Some c)) (of (find (λ x. key_eq x.key k) cs)) e))
    (λ e. ap (λ b. of (cond b (Some c) (find (λ x. key_eq x.key k) cs))) (key_eq_turns k c.key e) ∙ sym (if_false (key_eq k c.key) (of (Some c)) (of (find (λ x. key_eq x.key k) cs)) e))

module _ (key : Key) (script more : Key → List ℕ) (isn also : Key → ℕ) (same_script : (k : Key) → key_eq k key ≡ false → script k ≡ more k) (same_isn : (k : Key) → key_eq k key ≡ false → isn k ≡ also k) where
  body_below : (body : Body) → is_about key body ≡ false → BodyBelow script body → BodyBelow more body
  body_below (DataMsg part) a b = λ fin. subst (λ s. length s < 2 ^ 24) (same_script part.key a) (b fin)
  body_below _ a b = tt

  packet_below : (p : Packet) → concerns key p ≡ false → PacketBelow script p → PacketBelow more p
  packet_below (To_logger message) a b = body_below message.body a b
  packet_below (To_server segment) a b = tt
  packet_below (To_client segment) a b = tt
  packet_below (From_logger message) a b = tt

  entry_below : (e : Entry) → key_eq e.key key ≡ false → EntryBelow script e → EntryBelow more e
  entry_below e a b = λ fin. subst (λ s. length s < 2 ^ 24) (same_script e.key a) (b fin)

  place_below : (place : Place) → (key_eq (key_of place) key ≡ true → IsEnded place) → PlaceBelow script place → PlaceBelow more place
  place_below (Lives p) clear b =
      by_cases (key_eq p.key key) (λ e. absurd (clear e)) (λ e. λ fin. subst (λ s. length s < 2 ^ 24) (same_script p.key e) (b fin))
  place_below (Opens n timestamping) clear b = tt
  place_below (Ended k) clear b = tt

  stage_below : (stage : Stage) → AreClear key (places_at stage) → StageBelow script stage → StageBelow more stage
  stage_below (Serving opened places) clear b = stage_of (PlaceBelow script) (PlaceBelow more) key places place_below clear b
  stage_below Asking clear b = tt
  stage_below (Fetching count fetched) clear b = tt
  stage_below (Fenced newer) clear b = tt

  first_near : (segment : Segment) → key_eq (source_of segment) key ≡ false → FirstNear isn segment → FirstNear also segment
  first_near segment a n = subst (λ i. IsNearOffset (first_of i segment)) (same_isn (source_of segment) a) n

  packet_near : (log : Log) (p : Packet) → concerns key p ≡ false → PacketNear isn log p → PacketNear also log p
  packet_near log (To_server segment) a n = (λ r. first_near segment a (n.0 r), n.1)
  packet_near log (To_client segment) a n = tt
  packet_near log (To_logger message) a n = tt
  packet_near log (From_logger message) a n = tt

  packet_plain : (clients : List Client) (c : Client) (p : Packet) → concerns key p ≡ false → PlainNear clients isn p → PlainNear (clients ++ c ∷ []) also p
  packet_plain clients c (To_server segment) a n = λ e. first_near segment a (n (live_front (source_of segment) clients c e))
  packet_plain clients c (To_client segment) a n = tt
  packet_plain clients c (To_logger message) a n = tt
  packet_plain clients c (From_logger message) a n = tt

no_key : (key : Key) (clients : List Client) → AllByRecursion (λ x. key_eq x.key key ≡ false) clients → has_key key (keys_in clients) ≡ false
no_key key [] a = refl
no_key key (x ∷ clients) a = or_from (key_eq x.key key) (has_key key (keys_in clients)) a.0 (no_key key clients a.1)

pub premised_with_new : {State : Type 0} (service : Machine State) (c : Client) (w : World) → Premised service w → MayArrive c w → Premised service (with_new c w)
premised_with_new service c w o may =
    let cs : List Client = o.roster.clients in
    let roster : World = record o.roster { clients = c ∷ cs } in
    let script : Key → List ℕ = script_of o.roster in
    let more : Key → List ℕ = script_of roster in
    let isn : Key → ℕ = isn_of o.roster in
    let also : Key → ℕ = isn_of roster in
    let same_script : (k : Key) → key_eq k c.key ≡ false → script k ≡ more k = λ k a. sym (newest script_in c cs k ∙ if_false (key_eq k c.key) c.script (script k) a) in
    let same_isn : (k : Key) → key_eq k c.key ≡ false → isn k ≡ also k = λ k a. sym (newest isn_in c cs k ∙ if_false (key_eq k c.key) c.isn (isn k) a) in
    let is : _ = same_with_new service c w o.stands may in
    record {
      stands = stands_with_new service c w o.stands may;
      roster = roster;
      script = fun_ext (λ k. newest script_in c cs k ∙ ap (λ (s : Key → List ℕ). if key_eq k c.key then c.script else s k) o.script) ∙ sym is.0;
      isn = fun_ext (λ k. newest isn_in c cs k ∙ ap (λ (i : Key → ℕ). if key_eq k c.key then c.isn else i k) o.isn) ∙ sym is.1;
      below = record {
        packets = all_both (λ p. concerns c.key p ≡ false) (PacketBelow script) (PacketBelow more) w.packets (packet_below c.key script more isn also same_script same_isn) may.unreceived o.below.packets;
        entries = all_both (λ e. key_eq e.key c.key ≡ false) (EntryBelow script) (EntryBelow more) w.log.entries (entry_below c.key script more isn also same_script same_isn)
            (entries_apart service c w o.stands may) o.below.entries;
        stage = λ n e. stage_below c.key script more isn also same_script same_isn n.stage (may.clear n e) (o.below.stage n e);
      };
      near = record {
        clients = all_append SentWithin w.clients (c ∷ []) o.near.clients (subst SentWithin (sym may.new.new) (omega arith), tt);
        packets = all_both (λ p. concerns c.key p ≡ false) (PacketNear isn w.log) (PacketNear also w.log) w.packets (packet_near c.key script more isn also same_script same_isn w.log) may.unreceived o.near.packets;
      };
      plain = record {
        distinct = subst AreDistinct (sym (map_append (λ (x : Client). x.key) w.clients (c ∷ []))) (distinct_more (keys_in w.clients) c.key o.plain.distinct (no_key c.key w.clients (clients_apart service c w o.stands may)));
        packets = all_both (λ p. concerns c.key p ≡ false) (PlainNear w.clients isn) (PlainNear (w.clients ++ c ∷ []) also) w.packets (packet_plain c.key script more isn also same_script same_isn w.clients c)
            may.unreceived o.plain.packets;
      };
      unfenced = record { packets = o.unfenced.packets; node = o.unfenced.node };
    }
