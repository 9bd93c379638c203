-- .. so it is in every world of a trace.
use Rattle.std.proofs.Common.{append-nil, ap₂, ◌≡◌, ℕ, ◌+◌, ◌≤◌, ◌<◌, ◌^◌, pos, int_le, nat_abs, Bool, true, false, ◌&&◌, ◌||◌, max, refl, sym, ap, ◌∙◌, subst, true≢false, inl, inr, ⊎_elim, Option, Some, None, List, [], ◌∷◌, ◌++◌, map, length, drop, ◌-◌, ◌==◌, nat_lt, arith, nat_le, leb-true, leb-false, if◌then◌else◌}
use Rattle.std.specs.List.{AllByRecursion, list_any}
use Rattle.std.proofs.lemmas.Bool.{and_parts}
use Rattle.ft_io.specs.declared.Key.{Key}
use Rattle.ft_io.specs.Key.{key_eq}
use Rattle.ft_io.proofs.Choices.{by_cases, holds_if}
use Rattle.seq_arith.specs.Number.{number_at, offset_of}
use Rattle.seq_arith.specs.Packet.{Segment, has_rst, has_ack, with_timestamps}
use Rattle.seq_arith.specs.Message.{Part, Body, Message}
use Rattle.seq_arith.specs.Message.Body.{OpenMsg, DataMsg, ReadMsg, DoneMsg}
use Rattle.seq_arith.proofs.Shifts.{offset_of_number}
use Rattle.seq_arith.proofs.Units.{one_at_most}
use Rattle.server_trait.specs.Service.{Machine, Run}
use Rattle.ft_model.specs.Client.{Client, Move, received, accepted_units, is_ended, is_live, may_move, suits_phase, suits_range, segment_of, moved, phase_after}
use Rattle.ft_model.specs.Client.Move.{Syn, Text, Fin, Acknowledge, Rst, Refuse}
use Rattle.ft_model.specs.declared.phase.Phase.{Phase}
use Rattle.ft_model.specs.declared.phase.Phase.TheVariants as phases
use Rattle.ft_model.specs.Growth.{LogGrows}
use Rattle.ft_model.specs.Log.{Log, Entry, entry_of, new_entry, opened, with_part, with_bytes, with_read, is_next_read, with_body, log_after}
use Rattle.ft_model.specs.Masked.{SeesFront}
use Rattle.ft_model.specs.Network.{Packet, source_of, destination_of}
use Rattle.ft_model.specs.Network.Packet.{To_server, To_client, To_logger, From_logger}
use Rattle.ft_model.specs.Node.{Node, Stage, booted}
use Rattle.ft_model.specs.Offset.{ack_of, one_if}
use Rattle.ft_model.specs.World.{World, IsStart, Moves, with_client}
use Rattle.ft_model.proofs.AuthorKept.{change_all}
use Rattle.ft_model.proofs.BackedOver.{logged_short, open_move}
use Rattle.ft_model.proofs.Authored.{logged_run}
use Rattle.ft_model.proofs.FaithfulOver.{client_there}
use Rattle.ft_model.proofs.Grows.{log_grows, part_grows, found_later}
use Rattle.ft_model.proofs.Happened.{Happened, IsUnderWay, all_sent, answers}
use Rattle.ft_model.proofs.Happened.Happened.{log_received, client_received, client_moved, server_turned, server_booted, server_down}
use Rattle.ft_model.proofs.Lists.{all_append, all_weaker, all_find, found_passes, key_is, all_of, all_slice_get, or_left, none_is_some, same_key, some_is}
use Rattle.ft_model.proofs.Keys.{all_from_get}
use Rattle.ft_model.proofs.LogAnswers.{LogWent, log_went, all_answers}
use Rattle.ft_model.proofs.LogAnswers.LogWent.{ignored, raised, changed}
use Rattle.ft_model.proofs.Seen.{IsSeen}
use Rattle.ft_model.proofs.Services.{prefix_length}
use Rattle.ft_model.proofs.StageTurns.{stage_went}
use Rattle.long_laws.specs.Over.{is_rst_of, is_reset, is_at_end}
use Rattle.long_laws.proofs.Over.{SegmentOver, BodyOver, PacketOver, EntryOver, PlaceOver, StageOver}
use Rattle.long_laws.proofs.OverClients.{Of, HasReached, IsDoneWith, Reached, Finished, of_weaker, reached_down, reached_none, finishes, IsLater, received_later, moved_later, reached_later, done_later, reached_grown, done_grown, done_more, any_last}
use Rattle.long_laws.proofs.OverTurns.{turn_over}
use Rattle.long_laws.proofs.Stands.{Stands, sees_front}
use Rattle.ft_model.specs.Node.Place.{Opens, Lives, Ended}
use Rattle.ft_model.specs.Node.{Place}
use Rattle.ft_model.specs.Node.Stage.{Asking, Fetching, Serving, Fenced}

pub record OverIn {State : Type 0} (service : Machine State) (B : Key → ℕ → Type 0) (F : Key → Type 0) (log : Log) (under_way : List Packet) (up : Option Node) : Type 0 where
  pub packets : AllByRecursion (PacketOver B F log) under_way
  pub entries : AllByRecursion (EntryOver B F) log.entries
  pub stage : (node : Node) → up ≡ Some node → StageOver service B F node.stage

abbrev pub OverWorld : {State : Type 0} → Machine State → (Key → Bool) → World → Type 0
OverWorld service let_go w = OverIn service (Reached service w.log w.clients) (Finished service let_go w.log w.packets w.clients) w.log w.packets w.node

-- where both facts stay

module _ {State : Type 0} (service : Machine State) (B C : Key → ℕ → Type 0) (F G : Key → Type 0) (more : (key : Key) (n : ℕ) → B key n → C key n) (done : (key : Key) → F key → G key) where
  pub segment_stays : (log : Log) (key : Key) (segment : Segment) → SegmentOver B F log key segment → SegmentOver C G log key segment
  segment_stays log key segment o = ((λ a. let x = o.0 a in (x.0, x.1, λ low. more key (nat_abs (ack_of x.0.sisn segment)) (x.2 low))), λ r. done key (o.1 r))

  body_stays : (body : Body) → BodyOver B F body → BodyOver C G body
  body_stays (DataMsg part) o = more part.key part.acked o
  body_stays (DoneMsg key) o = done key o
  body_stays _ o = tt

  pub packet_stays : (log : Log) (packet : Packet) → PacketOver B F log packet → PacketOver C G log packet
  packet_stays log (To_server segment) o = segment_stays log (source_of segment) segment o
  packet_stays log (To_logger message) o = body_stays message.body o
  packet_stays log (To_client segment) o = tt
  packet_stays log (From_logger message) o = tt

  pub entry_stays : (e : Entry) → EntryOver B F e → EntryOver C G e
  entry_stays e o = record { acknowledged = more e.key e.acknowledged o.acknowledged; done = λ d. done e.key (o.done d) }

  pub place_stays : (place : Place) → PlaceOver service B F place → PlaceOver service C G place
  place_stays (Lives p) o = record {
    sends = o.sends;
    una = more p.key p.una o.una;
    reset = λ r. done p.key (o.reset r);
    ends = ⊎_elim (λ z. inl z) (λ x. inr (⊎_elim (λ f. inl (done p.key f)) (λ y. inr y) x)) o.ends;
  }
  place_stays (Opens n timestamping) o = tt
  place_stays (Ended k) o = tt

  pub stage_stays : (stage : Stage) → StageOver service B F stage → StageOver service C G stage
  stage_stays (Serving opened places) o = all_weaker (PlaceOver service B F) (PlaceOver service C G) places place_stays o
  stage_stays Asking o = tt
  stage_stays (Fetching count fetched) o = tt
  stage_stays (Fenced newer) o = tt

  pub over_stays : (log : Log) (packets : List Packet) (up : Option Node) → OverIn service B F log packets up → OverIn service C G log packets up
  over_stays log packets up o = record {
    packets = all_weaker (PacketOver B F log) (PacketOver C G log) packets (packet_stays log) o.packets;
    entries = all_weaker (EntryOver B F) (EntryOver C G) log.entries entry_stays o.entries;
    stage = λ n e. stage_stays n.stage (o.stage n e);
  }

-- the log

-- bytes and a FIN say nothing of the end
part_done : (part : Part) (e : Entry) → (with_part part e).done ≡ e.done
part_done part e =
    let x : Entry = with_bytes part e in
    let bytes : x.done ≡ e.done =
    holds_if (λ y. y.done ≡ e.done) (e.fin || nat_lt (length e.bytes) part.offset) e (record e { bytes = e.bytes ++ drop (length e.bytes - part.offset) part.bytes }) (λ t. refl) (λ t. refl) in
    holds_if (λ y. y.done ≡ e.done) (part.fin && part.offset + length part.bytes == length x.bytes) (record x { fin = true }) x (λ t. bytes) (λ t. bytes)

module _ {State : Type 0} (service : Machine State) (B : Key → ℕ → Type 0) (F : Key → Type 0) (zero_is : (key : Key) → B key 0) where
  packet_grown : (before after : Log) → LogGrows before after → (packet : Packet) → PacketOver B F before packet → PacketOver B F after packet
  packet_grown before after g (To_server segment) o = (
    (λ a. let x = o.0 a in
        let later = found_later (source_of segment) before.entries after.entries x.0 g.entries x.1 in
        (later.0, later.1, subst (λ n. int_le (pos 0) (ack_of n segment) ≡ true → B (source_of segment) (nat_abs (ack_of n segment))) (sym later.2.sisn) x.2)),
    o.1,
  )
  packet_grown before after g (To_logger message) o = o
  packet_grown before after g (To_client segment) o = tt
  packet_grown before after g (From_logger message) o = tt

  -- the larger of two
  at_most : (key : Key) (n m : ℕ) → B key n → B key m → B key (max n m)
  at_most key n m x y = by_cases (nat_le m n)
      (λ t. subst (B key) (let low : m ≤ n = leb-true _ _ t in omega (arith, low)) x)
      (λ t. subst (B key) (let low : n < m = leb-false _ _ t in omega (arith, low)) y)

  kept_over : (body : Body) (log : Log) → BodyOver B F body → AllByRecursion (EntryOver B F) log.entries → AllByRecursion (EntryOver B F) (with_body body log).entries
  kept_over (OpenMsg n) log b a =
      holds_if (λ l. AllByRecursion (EntryOver B F) l.entries) (list_any (λ e. key_eq e.key n.key) log.entries || nat_le 64 (length log.entries)) log
      (record log { entries = log.entries ++ new_entry n ∷ [] }) (λ t. a)
      (λ t. all_append (EntryOver B F) log.entries (new_entry n ∷ []) a (record { acknowledged = zero_is n.key; done = λ d. absurd (true≢false (sym d)) }, tt))
  kept_over (DataMsg part) log b a =
      change_all (EntryOver B F) part.key (with_part part) log.entries
      (λ e k o. let g = part_grows part e in
      record {
        acknowledged = subst (λ y. B y (max e.acknowledged part.acked)) (sym g.key) (at_most e.key e.acknowledged part.acked o.acknowledged (subst (λ y. B y part.acked) (sym k) b));
        done = λ d. subst F (sym g.key) (o.done (sym (part_done part e) ∙ d));
      }) a
  kept_over (ReadMsg key index n) log b a =
      change_all (EntryOver B F) key (with_read index n) log.entries
      (λ e k o. holds_if (EntryOver B F) (is_next_read e index n) (record e { lengths = e.lengths ++ n ∷ [] }) e (λ t. record { acknowledged = o.acknowledged; done = o.done }) (λ t. o)) a
  kept_over (DoneMsg key) log b a =
      change_all (EntryOver B F) key (λ e. record e { done = true }) log.entries (λ e k o. record { acknowledged = o.acknowledged; done = λ d. subst F (sym k) b }) a
  kept_over _ log b a = a

  entries_over : (log : Log) (message : Message) (after : Log) → LogWent log message after → BodyOver B F message.body → AllByRecursion (EntryOver B F) log.entries → AllByRecursion (EntryOver B F) after.entries
  entries_over log message after (ignored e) b a = subst (λ l. AllByRecursion (EntryOver B F) l.entries) (sym e) a
  entries_over log message after (raised h n e) b a = subst (λ l. AllByRecursion (EntryOver B F) l.entries) (sym e) a
  entries_over log message after (changed n e) b a = subst (λ l. AllByRecursion (EntryOver B F) l.entries) (sym e) (kept_over message.body log b a)

  pub received_over : (w : World) (message : Message) → OverIn service B F w.log w.packets w.node → IsUnderWay w (To_logger message)
      → OverIn service B F (log_after w.log message) (w.packets ++ answers w.log message) w.node
  received_over w message o under =
      let later : Log = log_after w.log message in
      let g : LogGrows w.log later = log_grows w.log message in
      record {
        packets = all_append (PacketOver B F later) w.packets (answers w.log message) (all_weaker (PacketOver B F w.log) (PacketOver B F later) w.packets (packet_grown w.log later g) o.packets)
            (all_answers (PacketOver B F later) w.log message (λ body x. tt));
        entries = entries_over w.log message later (log_went w.log message) (all_sent (PacketOver B F w.log) w (To_logger message) o.packets under) o.entries;
        stage = o.stage;
      }

-- the world

-- what all have that a list is mapped to, where its elements have something else
all_map_with : {A D : Type 0} (S : D → Type 0) (Q : A → Type 0) (R : D → Type 0) (f : A → D) (xs : List A) → ((x : A) → S (f x) → Q x → R (f x)) → AllByRecursion S (map f xs)
    → AllByRecursion Q xs → AllByRecursion R (map f xs)
all_map_with S Q R f [] g a b = tt
all_map_with S Q R f (x ∷ xs) g a b = (g x a.0 b.0, all_map_with S Q R f xs g a.1 b.1)

-- the clients of a key are then all the same one
one_later : {State : Type 0} (service : Machine State) (log : Log) (P : Client → Type 0) (key : Key) (c d : Client) (clients : List Client) → IsLater c d
    → (SeesFront service log d → P c → P d) → (key_eq c.key key ≡ true → P c) → AllByRecursion (SeesFront service log) (with_client c.key (λ x. d) clients)
    → Of key P clients → Of key P (with_client c.key (λ x. d) clients)
one_later service log P key c d clients l step has sees a =
    all_map_with (SeesFront service log) (λ x. key_eq x.key key ≡ true → P x) (λ x. key_eq x.key key ≡ true → P x) (λ x. if key_eq x.key c.key then d else x) clients
    (λ x s h. holds_if (λ y. SeesFront service log y → key_eq y.key key ≡ true → P y) (key_eq x.key c.key) d x
    (λ t z k. step z (has (ap (λ y. key_eq y key) (sym l.key) ∙ k))) (λ t z k. h k) s) sees a

-- each client of a key hears the same
all_receive : {State : Type 0} (service : Machine State) (log : Log) (P : Client → Type 0) (key at : Key) (segment : Segment) (clients : List Client)
    → ((c d : Client) → IsLater c d → SeesFront service log d → P c → P d) → AllByRecursion (SeesFront service log) (with_client at (λ c. received c segment) clients)
    → Of key P clients → Of key P (with_client at (λ c. received c segment) clients)
all_receive service log P key at segment clients step sees a =
    all_map_with (SeesFront service log) (λ x. key_eq x.key key ≡ true → P x) (λ x. key_eq x.key key ≡ true → P x) (λ x. if key_eq x.key at then received x segment else x) clients
    (λ x s h. holds_if (λ y. SeesFront service log y → key_eq y.key key ≡ true → P y) (key_eq x.key at) (received x segment) x
    (λ t z k. let l : IsLater x (received x segment) = received_later x segment in step x (received x segment) l z (h (ap (λ y. key_eq y key) (sym l.key) ∙ k))) (λ t z k. h k) s) sees a

-- what the moving client's key has after the move, where the client has it
one_now : {State : Type 0} (service : Machine State) (log : Log) (P : Client → Type 0) (key : Key) (d : Client) (clients : List Client) → (SeesFront service log d → P d)
    → AllByRecursion (SeesFront service log) (with_client key (λ x. d) clients) → Of key P (with_client key (λ x. d) clients)
one_now service log P key d clients h sees =
    all_map_with (SeesFront service log) (λ x. Unit {0}) (λ x. key_eq x.key key ≡ true → P x) (λ x. if key_eq x.key key then d else x) clients
    (λ x s u. holds_if (λ y. SeesFront service log y → key_eq y.key key ≡ true → P y) (key_eq x.key key) d x (λ t z k. h z) (λ t z k. absurd (true≢false (sym k ∙ t))) s) sees (all_of (λ x. Unit {0}) clients (λ x. tt))

-- a RST is sent by a client that resets, or by a live one
rst_move : (c : Client) (move : Move) (window : ℕ) → may_move c move ≡ true → has_rst (segment_of c move window) ≡ true → is_live c.kind ≡ false → is_reset (phase_after c.phase move) ≡ true
rst_move c (Syn mss) window may r live = absurd (true≢false (sym r))
rst_move c (Text from len) window may r live = absurd (true≢false (sym r))
rst_move c Fin window may r live = absurd (true≢false (sym r))
rst_move c Acknowledge window may r live = absurd (true≢false (sym r))
rst_move c Rst window may r live = refl
rst_move c (Refuse number) window may r live =
    absurd (true≢false (sym (and_parts (is_live c.kind) (suits_phase c (Refuse number)) (and_parts (is_live c.kind && suits_phase c (Refuse number)) (suits_range c (Refuse number)) may).0).0 ∙ live))

-- what a client has accepted, it has reached
accepted_reached : {State : Type 0} (service : Machine State) (log : Log) (c : Client) (b : Bool) → is_ended c.phase ≡ b → SeesFront service log c → HasReached service log (length c.accepted + one_if b) c
accepted_reached service log c true e s =
    let x = s.ended e in
    inr (record { closed = x.0; all = x.1; at_end = ended_at_end c.phase e })
  where
    ended_at_end : (phase : Phase) → is_ended phase ≡ true → is_at_end phase ≡ true
    ended_at_end phases.Ended e = refl
    ended_at_end phases.New e = absurd (true≢false (sym e))
    ended_at_end phases.Opening e = absurd (true≢false (sym e))
    ended_at_end phases.Established e = absurd (true≢false (sym e))
    ended_at_end phases.Reset e = absurd (true≢false (sym e))
accepted_reached service log c false e s = inl (omega arith)

-- a client's move, as the entry counts
move_counts : {State : Type 0} (service : Machine State) (w : World) (o : Stands service w) (c : Client) (move : Move) (window : ℕ) → IsSeen service o.script w.log c
    → may_move c move ≡ true → has_ack (segment_of c move window) ≡ true
    → (e : Entry) × (entry_of c.key w.log ≡ Some e) × (ack_of e.sisn (segment_of c move window) ≡ pos (accepted_units c))
move_counts service w o c move window s may has =
    let open_ = open_move c move may window has in
    let x = s.sisn open_.0 in
    let run : Run _ = logged_run service o.script w.log c.key in
    let low : length c.accepted ≤ length run.output = prefix_length c.accepted run.output s.front in
    let short : length run.output ≤ 2 ^ 24 = logged_short service o.script w o.author c.key in
    let one : one_if (is_ended c.phase) ≤ 1 = one_at_most (is_ended c.phase) in
    let size : accepted_units c < 2 ^ 31 = omega (arith, low, short, one) in
    (x.0, x.1, ap (λ n. offset_of x.0.sisn n) (open_.1 ∙ ap (λ n. number_at n (accepted_units c)) (sym x.2)) ∙ offset_of_number x.0.sisn (accepted_units c) size)

module _ {State : Type 0} (service : Machine State) (let_go : Key → Bool) where
  -- packets are added, and a server is up or not
  pub more_over : (w : World) (boot : ℕ) (up : Option Node) (sent : List Packet) → OverWorld service let_go w
      → AllByRecursion (PacketOver (Reached service w.log w.clients) (Finished service let_go w.log w.packets w.clients) w.log) sent
      → ((n : Node) → up ≡ Some n → StageOver service (Reached service w.log w.clients) (Finished service let_go w.log w.packets w.clients) n.stage)
      → OverWorld service let_go (record w { boot = boot; node = up; packets = w.packets ++ sent })
  more_over w boot up sent o s stage =
      let B : Key → ℕ → Type 0 = Reached service w.log w.clients in
      let F : Key → Type 0 = Finished service let_go w.log w.packets w.clients in
      let now : OverIn service B F w.log (w.packets ++ sent) up =
      record { packets = all_append (PacketOver B F w.log) w.packets sent o.packets s; entries = o.entries; stage = stage } in
      over_stays service B B F (Finished service let_go w.log (w.packets ++ sent) w.clients) (λ key n h. h)
      (λ key h. of_weaker key (IsDoneWith service let_go w.log w.packets) (IsDoneWith service let_go w.log (w.packets ++ sent)) w.clients (λ c x. done_more service let_go w.log w.packets sent c x) h)
      w.log (w.packets ++ sent) up now

  moved_over : (w after : World) (number : ℕ) (sent : List Packet) → Stands service w → Stands service after → Moves w number sent after → OverWorld service let_go w → OverWorld service let_go after
  moved_over w after number sent o then_ m x =
      let c : Client = m.client in
      let move : Move = m.move.move in
      let window : ℕ = m.move.window in
      let may : may_move c move ≡ true = m.move.may in
      let d : Client = moved c move window in
      let one : Packet = To_server (with_timestamps m.move.timestamps (segment_of c move window)) in
      let clients : List Client = with_client c.key (λ y. d) w.clients in
      let packets : List Packet = w.packets ++ one ∷ [] in
      let same : after ≡ record w { clients = clients; packets = packets } =
      m.after_is ∙ (ap (λ l. record w { clients = with_client c.key (λ y. m.later) w.clients; packets = w.packets ++ l }) (m.sent_is ∙ ap (λ s. To_server s ∷ []) m.move.segment_is)
      ∙ ap (λ y. record w { clients = with_client c.key (λ z. y) w.clients; packets = packets }) m.move.after_is) in
      let sees : AllByRecursion (SeesFront service w.log) clients = subst (λ y. AllByRecursion (SeesFront service y.log) y.clients) same (sees_front service after then_) in
      let later : IsLater c d = moved_later c move window may in
      let was : IsSeen service o.script w.log c = client_there (IsSeen service o.script w.log) w.clients number c o.sees m.is_there in
      let own : SeesFront service w.log c = client_there (SeesFront service w.log) w.clients number c (sees_front service w o) m.is_there in
      let P : ℕ → Client → Type 0 = λ n. HasReached service w.log n in
      let Q : Client → Type 0 = IsDoneWith service let_go w.log w.packets in
      let R : Client → Type 0 = IsDoneWith service let_go w.log packets in
      let C : Key → ℕ → Type 0 = Reached service w.log clients in
      let G : Key → Type 0 = Finished service let_go w.log packets clients in
      let still : OverIn service C G w.log w.packets w.node =
      over_stays service (Reached service w.log w.clients) C (Finished service let_go w.log w.packets w.clients) G
      (λ k n h. one_later service w.log (P n) k c d w.clients later (reached_later service w.log n c d later) (client_there (λ y. key_eq y.key k ≡ true → P n y) w.clients number c h m.is_there) sees h)
      (λ k h. of_weaker k Q R clients (λ y z. done_more service let_go w.log w.packets (one ∷ []) y z)
      (one_later service w.log Q k c d w.clients later (done_later service let_go w.log w.packets c d later) (client_there (λ y. key_eq y.key k ≡ true → Q y) w.clients number c h m.is_there) sees h))
      w.log w.packets w.node x in
      let reached : C c.key (accepted_units c) =
      one_now service w.log (P (accepted_units c)) c.key d w.clients (λ z. reached_later service w.log (accepted_units c) c d later z (accepted_reached service w.log c (is_ended c.phase) refl own)) sees in
      let sends : SegmentOver C G w.log c.key (segment_of c move window) = (
        (λ a. let y = move_counts service w o c move window was may a in (y.0, y.1, λ low. subst (λ z. C c.key (nat_abs z)) (sym y.2) reached)),
        (λ r. one_now service w.log R c.key d w.clients
            (λ z. inl (inr (record {
              sent = any_last (is_rst_of c.key) w.packets (one ∷ []) (or_left (key_eq c.key c.key && has_rst (segment_of c move window)) false (ap₂ ◌&&◌ (key_is c.key) r));
              reset = λ live. rst_move c move window may r live;
            }))) sees),
      ) in
      subst (OverWorld service let_go) (sym same) (record { packets = all_append (PacketOver C G w.log) w.packets (one ∷ []) still.packets (sends, tt); entries = still.entries; stage = still.stage })

  received_by_log : (w : World) (message : Message) → IsUnderWay w (To_logger message) → OverWorld service let_go w
      → OverWorld service let_go (record w { log = log_after w.log message; packets = w.packets ++ answers w.log message })
  received_by_log w message under x =
      let later : Log = log_after w.log message in
      let g : LogGrows w.log later = log_grows w.log message in
      let packets : List Packet = w.packets ++ answers w.log message in
      let C : Key → ℕ → Type 0 = Reached service later w.clients in
      let G : Key → Type 0 = Finished service let_go later packets w.clients in
      let still : OverIn service C G w.log w.packets w.node =
      over_stays service (Reached service w.log w.clients) C (Finished service let_go w.log w.packets w.clients) G
      (λ k n h. of_weaker k (HasReached service w.log n) (HasReached service later n) w.clients (λ c y. reached_grown service w.log later n c g y) h)
      (λ k h. of_weaker k (IsDoneWith service let_go w.log w.packets) (IsDoneWith service let_go later packets) w.clients
      (λ c y. done_more service let_go later w.packets (answers w.log message) c (done_grown service let_go w.log later w.packets c g y)) h)
      w.log w.packets w.node x in
      received_over service C G (reached_none service later w.clients) w message still under

  received_by_client : (w after : World) (segment : Segment) (sent : List Packet) → Stands service after → sent ≡ []
      → after ≡ record w { clients = with_client (destination_of segment) (λ c. received c segment) w.clients; packets = w.packets ++ sent } → OverWorld service let_go w → OverWorld service let_go after
  received_by_client w after segment sent then_ none e x =
      let clients : List Client = with_client (destination_of segment) (λ c. received c segment) w.clients in
      let same : after ≡ record w { clients = clients } =
      e ∙ (ap (λ l. record w { clients = clients; packets = w.packets ++ l }) none ∙ ap (λ l. record w { clients = clients; packets = l }) (append-nil w.packets)) in
      let sees : AllByRecursion (SeesFront service w.log) clients = subst (λ y. AllByRecursion (SeesFront service y.log) y.clients) same (sees_front service after then_) in
      subst (OverWorld service let_go) (sym same)
      (over_stays service (Reached service w.log w.clients) (Reached service w.log clients) (Finished service let_go w.log w.packets w.clients) (Finished service let_go w.log w.packets clients)
      (λ k n h. all_receive service w.log (HasReached service w.log n) k (destination_of segment) segment w.clients (reached_later service w.log n) sees h)
      (λ k h. all_receive service w.log (IsDoneWith service let_go w.log w.packets) k (destination_of segment) segment w.clients (done_later service let_go w.log w.packets) sees h)
      w.log w.packets w.node x)

  -- a moment, by its actor
  pub over_proceeds : (before : World) (sent : List Packet) (after : World) → Stands service before → Stands service after → Happened service before sent after
      → OverWorld service let_go before → OverWorld service let_go after
  over_proceeds before sent after o then_ (log_received message under t e) x =
      subst (OverWorld service let_go) (sym (e ∙ ap (λ l. record before { log = log_after before.log message; packets = before.packets ++ l }) t)) (received_by_log before message under x)
  over_proceeds before sent after o then_ (client_received segment under t e) x = received_by_client before after segment sent then_ t e x
  over_proceeds before sent after o then_ (client_moved number m) x = moved_over before after number sent o then_ m x
  over_proceeds before sent after o then_ (server_turned input node later brought is turn e) x =
      let t = turn_over service (Reached service before.log before.clients) (Finished service let_go before.log before.packets before.clients) (reached_down service before.log before.clients)
      (reached_none service before.log before.clients) o.script o.isn before o.author (finishes service let_go before.packets before o) node input sent later.stage o.asked o.faithful x.packets x.entries
      (x.stage node is) is brought (stage_went service node later input sent turn) in
      subst (OverWorld service let_go) (sym e)
      (more_over before before.boot (Some later) sent x t.1
      (λ n g. subst (λ y. StageOver service (Reached service before.log before.clients) (Finished service let_go before.log before.packets before.clients) y.stage) (some_is later n g) t.0))
  over_proceeds before sent after o then_ (server_booted boot isn down larger t e) x =
      let P : Packet → Type 0 = PacketOver (Reached service before.log before.clients) (Finished service let_go before.log before.packets before.clients) before.log in
      subst (OverWorld service let_go) (sym e)
      (more_over before boot (Some (booted before.server before.profile boot isn)) sent x (subst (AllByRecursion P) (sym t) (tt, tt))
      (λ n g. subst (λ y. StageOver service (Reached service before.log before.clients) (Finished service let_go before.log before.packets before.clients) y.stage) (some_is (booted before.server before.profile boot isn) n g) tt))
  over_proceeds before sent after o then_ (server_down t e) x =
      let P : Packet → Type 0 = PacketOver (Reached service before.log before.clients) (Finished service let_go before.log before.packets before.clients) before.log in
      subst (OverWorld service let_go) (sym e) (more_over before before.boot None sent x (subst (AllByRecursion P) (sym t) tt) (λ n g. none_is_some n g))

  pub start_over : (w : World) → IsStart w → OverWorld service let_go w
  start_over w s =
      let B : Key → ℕ → Type 0 = Reached service w.log w.clients in
      let F : Key → Type 0 = Finished service let_go w.log w.packets w.clients in
      record {
        packets = subst (AllByRecursion (PacketOver B F w.log)) (sym s.packets) tt;
        entries = subst (λ l. AllByRecursion (EntryOver B F) l.entries) (sym s.log) tt;
        stage = λ n e. none_is_some n (sym s.node ∙ e);
      }

-- what is known of a client whose entry is done
pub over_when_done : {State : Type 0} (service : Machine State) (let_go : Key → Bool) (w : World) → OverWorld service let_go w
    → AllByRecursion (λ c. (e : Entry) → entry_of c.key w.log ≡ Some e → e.done ≡ true → IsDoneWith service let_go w.log w.packets c) w.clients
over_when_done service let_go w x =
    all_from_get (λ c. (e : Entry) → entry_of c.key w.log ≡ Some e → e.done ≡ true → IsDoneWith service let_go w.log w.packets c) w.clients
    (λ i c at e found done.
    let B : Key → ℕ → Type 0 = Reached service w.log w.clients in
    let F : Key → Type 0 = Finished service let_go w.log w.packets w.clients in
    let own : EntryOver B F e = all_find (EntryOver B F) (λ y. key_eq y.key c.key) w.log.entries e x.entries found in
    let key : e.key ≡ c.key = same_key e.key c.key (found_passes (λ y. key_eq y.key c.key) w.log.entries e found) in
    let all : F c.key = subst F key (own.done done) in
    all_slice_get (λ y. key_eq y.key c.key ≡ true → IsDoneWith service let_go w.log w.packets y) w.clients i c all at (key_is c.key))
