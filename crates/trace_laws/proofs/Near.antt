-- Near: what a client sends stands near the start of both streams, as the server of that moment and every later one counts them.
use Rattle.std.proofs.Common.{◌≡◌, ℕ, ◌+◌, ◌-◌, ◌≤◌, ◌^◌, ◌%◌, ◌==◌, ◌&&◌, ◌||◌, pos, negsuc, ℤ, int_lt, nat_lt, nat_le, Bool, true, false, not, le_refl, refl, sym, ap, ◌∙◌, subst, true≢false, leb-true, Some, List, ◌++◌, length, arith, if◌then◌else◌}
use Rattle.std.specs.List.{AllByRecursion}
use Rattle.std.proofs.lemmas.Int.{ints}
use Rattle.std.proofs.lemmas.Bool.{and_parts}
use Rattle.ft_io.specs.declared.Addr.{Addr}
use Rattle.ft_io.specs.declared.Key.{Key}
use Rattle.seq_arith.specs.Number.{distance, number_at, offset_of}
use Rattle.tcp_rules.specs.Arrival.{int_eq}
use Rattle.seq_arith.specs.Packet.{Segment, has_rst, has_syn, has_ack}
use Rattle.seq_arith.proofs.Shifts.{offset_of_number}
use Rattle.server_trait.specs.Service.{Machine}
use Rattle.ft_model.specs.Offset.{first_of, ack_of, one_if, IsNearOffset}
use Rattle.ft_model.specs.Client.{Client, Move, received, opened_by, arrived, used, may_use, with_ack, with_added, came, is_opening, is_open, is_ended, next_of, accepted_units, may_move, suits_phase, suits_range, segment_of, seq_of, moved}
use Rattle.ft_model.specs.Client.Move.{Syn, Text, Fin, Acknowledge, Rst, Refuse}
use Rattle.ft_model.specs.declared.phase.Phase.TheVariants as phases
use Rattle.ft_model.specs.Log.{Log, Entry, entry_of, log_after}
use Rattle.ft_model.specs.Growth.{LogGrows}
use Rattle.ft_model.specs.Network.{Packet, source_of, destination_of}
use Rattle.ft_model.specs.Network.Packet.{To_server}
use Rattle.ft_model.specs.Node.{Node, Place, Stage, is_for}
use Rattle.ft_model.specs.Node.Place.{Opens, Lives, Ended}
use Rattle.ft_model.specs.Node.Stage.{Asking, Fetching, Serving, Fenced}
use Rattle.ft_model.specs.Lawful.{IsNearTo, AreNear}
use Rattle.ft_model.specs.World.{World, Moment, WasSent, Joint, Moves, IsStart, IsNewClient, world_after}
use Rattle.ft_model.proofs.Lists.{all_of, all_weaker, all_append, same_key, some_is}
use Rattle.ft_model.proofs.Grows.{log_grows, found_later}
use Rattle.ft_model.proofs.LogAnswers.{all_answers}
use Rattle.ft_model.proofs.Happened.{Happened, all_sent, holds_after}
use Rattle.ft_model.proofs.Happened.Happened.{log_received, client_received, client_moved, server_turned, server_booted, server_down}
use Rattle.ft_model.proofs.StageTurns.{stage_went}
use Rattle.ft_model.proofs.Fenced.{IsOurs, turn_ours}
use Rattle.ft_model.proofs.Services.{prefix_length}
use Rattle.ft_model.proofs.Running.{HasSmallOutputs}
use Rattle.ft_model.proofs.Authored.{logged_run}
use Rattle.ft_model.proofs.AuthorOver.{HasAuthor}
use Rattle.ft_model.proofs.Seen.{IsSeen}
use Rattle.ft_model.proofs.Faithful.{PlaceFits, StageFits}
use Rattle.ft_model.proofs.FaithfulKept.{ClientFits, received_same, clients_fit}
use Rattle.ft_model.proofs.FaithfulOver.{script_of, isn_of, client_there}
use Rattle.ft_model.proofs.Acknowledged.{start_is}
use Rattle.ft_model.proofs.JointMasked as masked
use Rattle.trace_laws.specs.Premises.{is_refusal}
use Rattle.ft_io.proofs.Choices.{holds_if}
use Rattle.ft_model.proofs.BackedOver.{logged_short, open_move}

-- numbers

pub near_number : (isn k : ℕ) → k ≤ 2 ^ 24 + 1 → IsNearOffset (offset_of isn (number_at isn k))
near_number isn k h = subst IsNearOffset (sym (offset_of_number isn k (omega (arith, h)))) (omega (arith, ints), omega (arith, ints, h))

abbrev signed : ℕ → ℤ
signed n = if nat_lt n (2 ^ 31) then pos n else negsuc (2 ^ 32 - 1 - n)

pub near_syn : (isn : ℕ) → IsNearOffset (offset_of isn isn)
unfolding offset_of
near_syn isn =
    let far : distance isn ((isn + 1) % 2 ^ 32) ≡ 2 ^ 32 - 1 = omega arith in
    subst IsNearOffset (sym (ap signed far)) (omega (arith, ints), omega (arith, ints))

-- a client's count of what it sent

abbrev pub SentWithin : Client → Type 0
SentWithin c = c.sent ≤ length c.script + 1

used_sent : (c : Client) (segment : Segment) → (used c segment).sent ≡ c.sent
used_sent c segment =
    holds_if (λ x. x.sent ≡ c.sent) (int_lt (pos c.sent) (ack_of c.isn segment)) c (with_added (with_ack c (ack_of c.isn segment)) (came c segment)) (λ t. refl) (λ t. refl)

arrived_sent : (c : Client) (segment : Segment) → (arrived c segment).sent ≡ c.sent
arrived_sent c segment =
    let gone : Client = record c { phase = phases.Reset } in
    let rst : Client = if int_eq (first_of c.sisn segment) (pos (next_of c)) then gone else c in
    let other : Client = if has_syn segment || not (has_ack segment) then c else used c segment in
    holds_if (λ x. x.sent ≡ c.sent) (may_use c segment) (if has_rst segment then rst else other) c
    (λ t. holds_if (λ x. x.sent ≡ c.sent) (has_rst segment) rst other
    (λ r. holds_if (λ x. x.sent ≡ c.sent) (int_eq (first_of c.sisn segment) (pos (next_of c))) gone c (λ x. refl) (λ x. refl))
    (λ r. holds_if (λ x. x.sent ≡ c.sent) (has_syn segment || not (has_ack segment)) c (used c segment) (λ x. refl) (λ x. used_sent c segment)))
    (λ t. refl)

opened_sent : (c : Client) (segment : Segment) → (opened_by c segment).sent ≡ c.sent
opened_sent c segment =
    let gone : Client = record c { phase = phases.Reset } in
    let stands : Client = record c { phase = phases.Established; sisn = segment.head.seq } in
    holds_if (λ x. x.sent ≡ c.sent) (has_ack segment && segment.head.ack == number_at c.isn 0) (if has_rst segment then gone else (if has_syn segment then stands else c)) c
    (λ t. holds_if (λ x. x.sent ≡ c.sent) (has_rst segment) gone (if has_syn segment then stands else c) (λ r. refl)
    (λ r. holds_if (λ x. x.sent ≡ c.sent) (has_syn segment) stands c (λ x. refl) (λ x. refl)))
    (λ t. refl)

received_sent : (c : Client) (segment : Segment) → (received c segment).sent ≡ c.sent
received_sent c segment =
    holds_if (λ x. x.sent ≡ c.sent) (is_opening c.phase) (opened_by c segment) (if is_open c.phase then arrived c segment else c) (λ t. opened_sent c segment)
    (λ t. holds_if (λ x. x.sent ≡ c.sent) (is_open c.phase) (arrived c segment) c (λ x. arrived_sent c segment) (λ x. refl))

received_within : (c : Client) (segment : Segment) → SentWithin c → SentWithin (received c segment)
received_within c segment s =
    let size : length (received c segment).script ≡ length c.script = ap length (received_same c segment).script in
    let sent : (received c segment).sent ≡ c.sent = received_sent c segment in
    omega (arith, size, sent, s)

-- text ends within the script
text_ends : (c : Client) (from len : ℕ) → may_move c (Text from len) ≡ true → from + len ≤ length c.script
text_ends c from len may =
    let range = (and_parts (suits_phase c (Text from len)) (suits_range c (Text from len)) may).1 in
    leb-true _ _ (and_parts (nat_le c.acknowledged from && nat_le from c.sent && nat_le 1 len && nat_le len 1460) (nat_le (from + len) (length c.script)) range).1

moved_within : (c : Client) (move : Move) (window : ℕ) → may_move c move ≡ true → SentWithin c → SentWithin (moved c move window)
moved_within c (Syn mss) window may s = s
moved_within c (Text from len) window may s = let ends = text_ends c from len may in omega (arith, ends, s)
moved_within c Fin window may s = le_refl (length c.script + 1)
moved_within c Acknowledge window may s = s
moved_within c Rst window may s = s
moved_within c (Refuse number) window may s = s

-- what is under way to the server

-- what it acknowledges is near, as the log's entry counts
abbrev pub AckNear : Log → Key → Segment → Type 0
AckNear log key segment = (e : Entry) × (entry_of key log ≡ Some e) × IsNearOffset (ack_of e.sisn segment)

-- where it begins is near
abbrev pub FirstNear : (Key → ℕ) → Segment → Type 0
FirstNear isn segment = IsNearOffset (first_of (isn (source_of segment)) segment)

abbrev pub PacketNear : (Key → ℕ) → Log → Packet → Type 0
PacketNear isn log (To_server segment) = (has_rst segment ≡ false → FirstNear isn segment) × (has_ack segment ≡ true → AckNear log (source_of segment) segment)
PacketNear isn log _ = Unit {0}

pub record SendsNear (isn : Key → ℕ) (w : World) : Type 0 where
  pub clients : AllByRecursion SentWithin w.clients
  pub packets : AllByRecursion (PacketNear isn w.log) w.packets

pub near_later : (isn : Key → ℕ) (before after : Log) → LogGrows before after → (packet : Packet) → PacketNear isn before packet → PacketNear isn after packet
near_later isn before after g (To_server segment) n = (
  n.0,
  λ a. let x = n.1 a in
      let later = found_later (source_of segment) before.entries after.entries x.0 g.entries x.1 in
      (later.0, later.1, subst (λ s. IsNearOffset (ack_of s segment)) (sym later.2.sisn) x.2),
)
near_later isn before after g _ n = tt

ours_near : (isn : Key → ℕ) (log : Log) (own : ℕ) (packet : Packet) → IsOurs own packet → PacketNear isn log packet
ours_near isn log own (To_server segment) o = absurd o
ours_near isn log own _ o = tt

accepted_short : {State : Type 0} (service : Machine State) (script : Key → List ℕ) (w : World) (c : Client) → HasAuthor service script w → IsSeen service script w.log c → accepted_units c ≤ 2 ^ 24 + 1
accepted_short service script w c a s =
    let front = prefix_length c.accepted (logged_run service script w.log c.key).output s.front in
    let low = logged_short service script w a c.key in
    by_end (is_ended c.phase) (omega (arith, front, low))
  where
    by_end : (b : Bool) {n : ℕ} → n ≤ 2 ^ 24 → n + one_if b ≤ 2 ^ 24 + 1
    by_end true h = omega (arith, h)
    by_end false h = omega (arith, h)

-- an acknowledging move of an open client
ack_near : {State : Type 0} (service : Machine State) (script : Key → List ℕ) (w : World) (c : Client) → HasAuthor service script w → IsSeen service script w.log c → is_open c.phase ≡ true
    → (segment : Segment) → source_of segment ≡ c.key → segment.head.ack ≡ number_at c.sisn (accepted_units c) → AckNear w.log (source_of segment) segment
ack_near service script w c a s o segment key ack =
    let x = s.sisn o in (
      x.0,
      ap (λ k. entry_of k w.log) key ∙ x.1,
      subst (λ n. IsNearOffset (offset_of x.0.sisn n)) (sym ack)
          (subst (λ n. IsNearOffset (offset_of n (number_at c.sisn (accepted_units c)))) (sym x.2) (near_number c.sisn (accepted_units c) (accepted_short service script w c a s))),
    )

-- where a move begins; a refusal may name any number
first_near : (c : Client) (move : Move) → length c.script ≤ 2 ^ 24 → SentWithin c → may_move c move ≡ true → is_refusal move ≡ false → IsNearOffset (offset_of c.isn (seq_of c move))
first_near c (Syn mss) short s may r = near_syn c.isn
first_near c (Text from len) short s may r = let ends = text_ends c from len may in near_number c.isn from (omega (arith, ends, short))
first_near c Fin short s may r = near_number c.isn (length c.script) (omega (arith, short))
first_near c Acknowledge short s may r = near_number c.isn c.sent (omega (arith, short, s))
first_near c Rst short s may r = near_number c.isn c.sent (omega (arith, short, s))
first_near c (Refuse number) short s may r = absurd (true≢false r)

-- a refusal is a RST
no_refusal : (c : Client) (move : Move) (window : ℕ) → has_rst (segment_of c move window) ≡ false → is_refusal move ≡ false
no_refusal c (Refuse number) window r = r
no_refusal c (Syn mss) window r = refl
no_refusal c (Text from len) window r = refl
no_refusal c Fin window r = refl
no_refusal c Acknowledge window r = refl
no_refusal c Rst window r = refl

pub begins_near : (script : Key → List ℕ) (isn : Key → ℕ) (c : Client) (move : Move) (window : ℕ) → ClientFits script isn c → SentWithin c → may_move c move ≡ true → is_refusal move ≡ false
    → FirstNear isn (segment_of c move window)
begins_near script isn c move window f within may r = subst (λ n. IsNearOffset (offset_of n (seq_of c move))) f.1 (first_near c move f.2 within may r)

pub move_near : {State : Type 0} (service : Machine State) (script : Key → List ℕ) (isn : Key → ℕ) (w : World) (c : Client) (move : Move) (window : ℕ) → HasAuthor service script w
    → IsSeen service script w.log c → ClientFits script isn c → SentWithin c → may_move c move ≡ true → PacketNear isn w.log (To_server (segment_of c move window))
move_near service script isn w c move window a s f within may = (
  λ r. begins_near script isn c move window f within may (no_refusal c move window r),
  λ k. let o = open_move c move may window k in ack_near service script w c a s o.0 (segment_of c move window) refl o.1,
)

moved_near : {State : Type 0} (service : Machine State) (start w : World) (number : ℕ) (sent : List Packet) (after : World) → masked.JointInvariant service start w → SendsNear (isn_of start) w
    → Moves w number sent after → SendsNear (isn_of start) after
moved_near service start w number sent after o n m =
    let c : Client = m.client in
    let within : SentWithin c = client_there SentWithin w.clients number c n.clients m.is_there in
    let fits : ClientFits (script_of start) (isn_of start) c = client_there (ClientFits (script_of start) (isn_of start)) w.clients number c o.faithful.clients m.is_there in
    let seen : IsSeen service (script_of start) w.log c = client_there (IsSeen service (script_of start) w.log) w.clients number c o.sees m.is_there in
    let later : SentWithin m.later = subst SentWithin (sym m.move.after_is) (moved_within c m.move.move m.move.window m.move.may within) in
    let near : PacketNear (isn_of start) w.log (To_server m.segment) =
    subst (λ x. PacketNear (isn_of start) w.log (To_server x)) (sym m.move.segment_is) (move_near service (script_of start) (isn_of start) w c m.move.move m.move.window o.author seen fits within m.move.may) in
    subst (SendsNear (isn_of start)) (sym m.after_is)
    (record {
      clients = clients_fit SentWithin c.key (λ x. m.later) w.clients (λ x k g. later) n.clients;
      packets = all_append (PacketNear (isn_of start) w.log) w.packets sent n.packets (subst (AllByRecursion (PacketNear (isn_of start) w.log)) (sym m.sent_is) (near, tt));
    })

more_near : (isn : Key → ℕ) (w : World) (sent : List Packet) → SendsNear isn w → AllByRecursion (PacketNear isn w.log) sent → AllByRecursion (PacketNear isn w.log) (w.packets ++ sent)
more_near isn w sent n a = all_append (PacketNear isn w.log) w.packets sent n.packets a

pub near_proceeds : {State : Type 0} (service : Machine State) (start before : World) (sent : List Packet) (after : World) → masked.JointInvariant service start before → SendsNear (isn_of start) before
    → Happened service before sent after → SendsNear (isn_of start) after
near_proceeds service start before sent after o n (log_received message under s e) =
    let isn : Key → ℕ = isn_of start in
    let later : Log = log_after before.log message in
    subst (SendsNear isn) (sym (e ∙ ap (λ x. record before { log = log_after before.log message; packets = before.packets ++ x }) s))
    (record {
      clients = n.clients;
      packets = all_append (PacketNear isn later) before.packets _ (all_weaker (PacketNear isn before.log) _ before.packets (near_later isn before.log later (log_grows before.log message)) n.packets)
          (all_answers (PacketNear isn later) before.log message (λ body a. tt));
    })
near_proceeds service start before sent after o n (client_received segment under s e) =
    subst (SendsNear (isn_of start)) (sym e)
    (record {
      clients = clients_fit SentWithin (destination_of segment) (λ c. received c segment) before.clients (λ c k g. received_within c segment g) n.clients;
      packets = more_near (isn_of start) before sent n (subst (AllByRecursion (PacketNear (isn_of start) before.log)) (sym s) tt);
    })
near_proceeds service start before sent after o n (client_moved number m) = moved_near service start before number sent after o n m
near_proceeds service start before sent after o n (server_turned input node later brought is turn e) =
    subst (SendsNear (isn_of start)) (sym e)
    (record {
      clients = n.clients;
      packets = more_near (isn_of start) before sent n
          (all_weaker (IsOurs node.boot) _ sent (ours_near (isn_of start) before.log node.boot) (turn_ours service node input sent later.stage (stage_went service node later input sent turn)));
    })
near_proceeds service start before sent after o n (server_booted boot isn down larger s e) =
    subst (SendsNear (isn_of start)) (sym e)
    (record { clients = n.clients; packets = more_near (isn_of start) before sent n (subst (AllByRecursion (PacketNear (isn_of start) before.log)) (sym s) (tt, tt)) })
near_proceeds service start before sent after o n (server_down s e) =
    subst (SendsNear (isn_of start)) (sym e)
    (record { clients = n.clients; packets = more_near (isn_of start) before sent n (subst (AllByRecursion (PacketNear (isn_of start) before.log)) (sym s) tt) })

pub start_near : (isn : Key → ℕ) (w : World) → IsStart w → SendsNear isn w
start_near isn w s = record {
  clients = all_weaker (IsNewClient w.server) SentWithin w.clients (λ c x. subst SentWithin (sym x.new) (omega arith)) s.clients;
  packets = subst (AllByRecursion (PacketNear isn w.log)) (sym s.packets) tt;
}

abbrev pub KeptNear : {State : Type 0} → Machine State → World → World → Type 0
KeptNear service start w = masked.JointInvariant service start w × SendsNear (isn_of start) w

pub near_after : {State : Type 0} (service : Machine State) → HasSmallOutputs service → (start : World) (trace : List Moment) → Joint service start trace → KeptNear service start (world_after start trace)
near_after service small start trace j =
    let s : IsStart start = start_is service start trace j in
    holds_after service (KeptNear service start) start (λ x. (masked.start_sound service small start x, start_near (isn_of start) start x))
    (λ before sent after o h. (masked.sound_proceeds service small start before sent after s o.0 h, near_proceeds service start before sent after o.0 o.1 h)) trace j

-- .. to each live connection
near_to : (server : Addr) (script : Key → List ℕ) (isn : Key → ℕ) (log : Log) (segment : Segment) → FirstNear isn segment → (has_ack segment ≡ true → AckNear log (source_of segment) segment)
    → (place : Place) → PlaceFits script isn log place → IsNearTo server segment place
near_to server script isn log segment first ack (Lives p) f = λ ours k.
    let same : source_of segment ≡ p.key = same_key (source_of segment) p.key k in
    record {
      first = subst (λ n. IsNearOffset (first_of n segment)) (sym f.0.cisn) (subst (λ x. IsNearOffset (first_of (isn x) segment)) same first);
      ack = λ a. let x = ack a in
          let one : x.0 ≡ f.1.entry = some_is x.0 f.1.entry (sym x.1 ∙ (ap (λ y. entry_of y log) same ∙ f.1.found)) in
          subst (λ n. IsNearOffset (ack_of n segment)) (ap (λ e. e.sisn) one ∙ f.1.sisn) x.2;
    }
near_to server script isn log segment first ack (Opens n timestamping) f = tt
near_to server script isn log segment first ack (Ended k) f = tt

-- a packet for another address
other_near : (server : Addr) (segment : Segment) → is_for server segment ≡ false → (place : Place) → IsNearTo server segment place
other_near server segment e (Lives p) = λ ours k. absurd (true≢false (sym ours ∙ e))
other_near server segment e (Opens n timestamping) = tt
other_near server segment e (Ended k) = tt

pub others_near : (server : Addr) (segment : Segment) (stage : Stage) → is_for server segment ≡ false → AreNear server segment stage
others_near server segment (Serving opened places) e = all_of (IsNearTo server segment) places (other_near server segment e)
others_near server segment Asking e = tt
others_near server segment (Fetching count fetched) e = tt
others_near server segment (Fenced newer) e = tt

pub stage_near : (server : Addr) (script : Key → List ℕ) (isn : Key → ℕ) (log : Log) (segment : Segment) → FirstNear isn segment → (has_ack segment ≡ true → AckNear log (source_of segment) segment)
    → (stage : Stage) → StageFits script isn log stage → AreNear server segment stage
stage_near server script isn log segment first ack (Serving opened places) f = all_weaker (PlaceFits script isn log) (IsNearTo server segment) places (near_to server script isn log segment first ack) f
stage_near server script isn log segment first ack Asking f = tt
stage_near server script isn log segment first ack (Fetching count fetched) f = tt
stage_near server script isn log segment first ack (Fenced newer) f = tt

pub all_near : {State : Type 0} (service : Machine State) (start w : World) (node : Node) (segment : Segment) → KeptNear service start w → w.node ≡ Some node → WasSent w (To_server segment)
    → FirstNear (isn_of start) segment → AreNear node.server segment node.stage
all_near service start w node segment k up sent first =
    stage_near node.server (script_of start) (isn_of start) w.log segment first (all_sent (PacketNear (isn_of start) w.log) w (To_server segment) k.1.packets sent).1 node.stage (k.0.faithful.stage node up)

pub packets_near : {State : Type 0} (service : Machine State) → HasSmallOutputs service → (start : World) (trace : List Moment) (node : Node) (segment : Segment) → Joint service start trace
    → (world_after start trace).node ≡ Some node → WasSent (world_after start trace) (To_server segment) → has_rst segment ≡ false → AreNear node.server segment node.stage
packets_near service small start trace node segment j up sent no_rst =
    let w : World = world_after start trace in
    let k : KeptNear service start w = near_after service small start trace j in
    all_near service start w node segment k up sent ((all_sent (PacketNear (isn_of start) w.log) w (To_server segment) k.1.packets sent).0 no_rst)
