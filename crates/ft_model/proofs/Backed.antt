-- No client acknowledges more than the output of the logged reads, and one more where that has closed; so neither does a point, a Data or the
-- log. Of the laws of sending this needs only that SND.UNA never passes what was acknowledged.
use Rattle.std.proofs.Common.{◌≡◌, ℕ, ◌+◌, ◌≤◌, ℤ, pos, negsuc, ◌≤ℤ◌, true, ◌&&◌, ◌||◌, not, nat_lt, nat_le, int_le, nat_abs, max, le_trans, sym, ap, ◌∙◌, subst, true≢false, Some, List, [], ◌∷◌, ◌++◌, map, length, drop, arith}
use Rattle.std.specs.List.{AllByRecursion, list_any}
use Rattle.std.proofs.lemmas.Int.{ints}
use Rattle.std.proofs.lemmas.Bool.{and_parts}
use Rattle.ft_io.specs.declared.Addr.{Addr}
use Rattle.ft_io.specs.declared.Key.{Key}
use Rattle.ft_io.specs.Key.{key_eq}
use Rattle.tcp_rules.specs.Arrival.{una_after}
use Rattle.seq_arith.specs.Packet.{Segment, has_syn, has_rst, has_ack}
use Rattle.seq_arith.specs.Message.{Body, Message}
use Rattle.seq_arith.specs.Message.Body.{OpenMsg, DataMsg, ReadMsg, DoneMsg}
use Rattle.server_trait.specs.Service.{Machine, Run}
use Rattle.ft_model.specs.Offset.{ack_of, one_if}
use Rattle.ft_model.specs.Log.{Log, Entry, entry_of, new_entry, with_part, with_read, is_next_read, with_body}
use Rattle.ft_model.specs.Network.{Packet, source_of}
use Rattle.ft_model.specs.Network.Packet.{To_server, To_client, To_logger, From_logger}
use Rattle.ft_model.specs.Point.{Point}
use Rattle.ft_model.specs.News.{News}
use Rattle.ft_model.specs.News.News.{Comes, Logged, Ticks, Begins}
use Rattle.ft_model.specs.Taken.{uses, acknowledges_unsent, counts}
use Rattle.ft_model.specs.Sending.{acknowledges, acknowledged_by, acknowledged_after}
use Rattle.ft_model.specs.Segments.{segments_of}
use Rattle.ft_model.specs.Copy.{copies}
use Rattle.ft_model.specs.Reads.{reads_reported, read_messages, first_reported}
use Rattle.ft_model.specs.ResetAndEnd.{dones, reports_done}
use Rattle.ft_model.specs.Connection.{ConnectionTurn, reported_by}
use Rattle.ft_model.specs.Node.{Place, Stage}
use Rattle.ft_model.specs.Node.Place.{Opens, Lives, Ended}
use Rattle.ft_model.specs.Node.Stage.{Serving}
use Rattle.ft_model.specs.Growth.{LogGrows, logged_lengths}
use Rattle.ft_model.specs.World.{World}
use Rattle.ft_model.specs.Node.{Node}
use Rattle.ft_model.proofs.Lists.{all_of, all_map, all_append, some_is}
use Rattle.ft_model.proofs.Grows.{part_grows, found_later, logged_lengths_grow}
use Rattle.ft_model.proofs.LogAnswers.{LogWent}
use Rattle.ft_model.proofs.LogAnswers.LogWent.{ignored, raised, changed}
use Rattle.ft_model.proofs.StageTurns.{either_turn}
use Rattle.ft_model.proofs.Services.{reads_proceed, units_proceed}
use Rattle.ft_model.proofs.Faithful.{IsKnown}
use Rattle.ft_model.proofs.Authored.{logged_run}
use Rattle.ft_model.proofs.AuthorKept.{change_all}
use Rattle.ft_model.proofs.Copied.{all_copies}
use Rattle.ft_io.proofs.Choices.{holds_if}

-- the units of the run over a client's logged reads: its output, and one more where it has closed
abbrev pub run_units : {State : Type 0} → Run State → ℕ
run_units run = length run.output + one_if run.closed

abbrev pub logged_output : {State : Type 0} → Machine State → (Key → List ℕ) → Log → Key → ℕ
logged_output service script log key = run_units (logged_run service script log key)

-- a segment of a client acknowledges no more than that, as the entry counts
abbrev pub IsBackedBy : {State : Type 0} → Machine State → (Key → List ℕ) → Log → Key → Segment → Type 0
IsBackedBy service script log key segment = (e : Entry) × (entry_of key log ≡ Some e) × (ack_of e.sisn segment ≤ℤ pos (logged_output service script log key))

abbrev pub BodyBacked : {State : Type 0} → Machine State → (Key → List ℕ) → Log → Body → Type 0
BodyBacked service script log (DataMsg part) = part.acked ≤ logged_output service script log part.key
BodyBacked service script log _ = Unit {0}

abbrev pub PacketBacked : {State : Type 0} → Machine State → (Key → List ℕ) → Log → Packet → Type 0
PacketBacked service script log (To_server segment) = has_ack segment ≡ true → IsBackedBy service script log (source_of segment) segment
PacketBacked service script log (To_logger message) = BodyBacked service script log message.body
PacketBacked service script log _ = Unit {0}

abbrev pub EntryBacked : {State : Type 0} → Machine State → (Key → List ℕ) → Log → Entry → Type 0
EntryBacked service script log e = e.acknowledged ≤ logged_output service script log e.key

abbrev pub PlaceBacked : {State : Type 0} → Machine State → (Key → List ℕ) → Log → Place → Type 0
PlaceBacked service script log (Lives p) = p.una ≤ logged_output service script log p.key
PlaceBacked service script log _ = Unit {0}

abbrev pub StageBacked : {State : Type 0} → Machine State → (Key → List ℕ) → Log → Stage → Type 0
StageBacked service script log (Serving opened places) = AllByRecursion (PlaceBacked service script log) places
StageBacked service script log _ = Unit {0}

pub record IsBacked {State : Type 0} (service : Machine State) (script : Key → List ℕ) (w : World) : Type 0 where
  pub packets : AllByRecursion (PacketBacked service script w.log) w.packets
  pub entries : AllByRecursion (EntryBacked service script w.log) w.log.entries
  pub stage : (node : Node) → w.node ≡ Some node → StageBacked service script w.log node.stage

-- a log that has grown

pub output_later : {State : Type 0} (service : Machine State) (script : Key → List ℕ) (before after : Log) (key : Key) → LogGrows before after
    → logged_output service script before key ≤ logged_output service script after key
output_later service script before after key g =
    units_proceed (logged_run service script before key) (logged_run service script after key)
    (reads_proceed service (script key) (logged_lengths key before) (logged_lengths key after) (logged_lengths_grow key before after g))

body_later : {State : Type 0} (service : Machine State) (script : Key → List ℕ) (before after : Log) → LogGrows before after → (body : Body) → BodyBacked service script before body → BodyBacked service script after body
body_later service script before after g (DataMsg part) f = le_trans f (output_later service script before after part.key g)
body_later service script before after g _ f = tt

pub packet_later : {State : Type 0} (service : Machine State) (script : Key → List ℕ) (before after : Log) → LogGrows before after → (packet : Packet) → PacketBacked service script before packet → PacketBacked service script after packet
packet_later service script before after g (To_server segment) f = λ a.
    let x = f a in
    let later = found_later (source_of segment) before.entries after.entries x.0 g.entries x.1 in
    let more = output_later service script before after (source_of segment) g in
    (later.0, later.1, subst (λ n. ack_of n segment ≤ℤ pos (logged_output service script after (source_of segment))) (sym later.2.sisn) (omega (arith, ints, x.2, more)))
packet_later service script before after g (To_logger message) f = body_later service script before after g message.body f
packet_later service script before after g (To_client segment) f = tt
packet_later service script before after g (From_logger message) f = tt

pub place_later : {State : Type 0} (service : Machine State) (script : Key → List ℕ) (before after : Log) → LogGrows before after → (place : Place) → PlaceBacked service script before place → PlaceBacked service script after place
place_later service script before after g (Lives p) f = le_trans f (output_later service script before after p.key g)
place_later service script before after g (Opens numbers timestamping) f = tt
place_later service script before after g (Ended key) f = tt

-- the log

kept_backed : {State : Type 0} (service : Machine State) (script : Key → List ℕ) (body : Body) (log : Log) → BodyBacked service script log body → AllByRecursion (EntryBacked service script log) log.entries
    → AllByRecursion (EntryBacked service script log) (with_body body log).entries
kept_backed service script (OpenMsg n) log r a =
    holds_if (λ l. AllByRecursion (EntryBacked service script log) l.entries) (list_any (λ e. key_eq e.key n.key) log.entries || nat_le 64 (length log.entries)) log
    (record log { entries = log.entries ++ new_entry n ∷ [] }) (λ t. a) (λ t. all_append (EntryBacked service script log) log.entries (new_entry n ∷ []) a (omega arith, tt))
kept_backed service script (DataMsg part) log r a =
    change_all (EntryBacked service script log) part.key (with_part part) log.entries
    (λ e k f. subst (λ x. max e.acknowledged part.acked ≤ logged_output service script log x) (sym (part_grows part e).key)
    (let own : part.acked ≤ logged_output service script log e.key = subst (λ x. part.acked ≤ logged_output service script log x) (sym k) r in omega (arith, f, own))) a
kept_backed service script (ReadMsg key index n) log r a =
    change_all (EntryBacked service script log) key (with_read index n) log.entries
    (λ e k f. holds_if (EntryBacked service script log) (is_next_read e index n) (record e { lengths = e.lengths ++ n ∷ [] }) e (λ t. f) (λ t. f)) a
kept_backed service script (DoneMsg key) log r a = change_all (EntryBacked service script log) key (λ e. record e { done = true }) log.entries (λ e k f. f) a
kept_backed service script _ log r a = a

pub entries_backed : {State : Type 0} (service : Machine State) (script : Key → List ℕ) (log : Log) (message : Message) (after : Log) → LogWent log message after → BodyBacked service script log message.body
    → AllByRecursion (EntryBacked service script log) log.entries → AllByRecursion (EntryBacked service script log) after.entries
entries_backed service script log message after (ignored e) r a = subst (λ l. AllByRecursion (EntryBacked service script log) l.entries) (sym e) a
entries_backed service script log message after (raised h b e) r a = subst (λ l. AllByRecursion (EntryBacked service script log) l.entries) (sym e) a
entries_backed service script log message after (changed b e) r a = subst (λ l. AllByRecursion (EntryBacked service script log) l.entries) (sym e) (kept_backed service script message.body log r a)

-- a connection

-- the news are so
abbrev pub NewsBacked : {State : Type 0} → Machine State → (Key → List ℕ) → Log → Point → News → Type 0
NewsBacked service script log p (Comes segment) = has_ack segment ≡ true → ack_of p.sisn segment ≤ℤ pos (logged_output service script log p.key)
NewsBacked service script log p _ = Unit {0}

-- as the entry of the connection counts
pub news_backed : {State : Type 0} (service : Machine State) (script : Key → List ℕ) (log : Log) (p : Point) (segment : Segment) → IsKnown log p
    → (has_ack segment ≡ true → IsBackedBy service script log p.key segment) → NewsBacked service script log p (Comes segment)
news_backed service script log p segment k n = λ a.
    let x = n a in
    let one : x.0 ≡ k.entry = some_is x.0 k.entry (sym x.1 ∙ k.found) in
    subst (λ m. ack_of m segment ≤ℤ pos (logged_output service script log p.key)) (ap (λ e. e.sisn) one ∙ k.sisn) x.2

at_most : (z : ℤ) (n : ℕ) → int_le (pos 0) z ≡ true → z ≤ℤ pos n → nat_abs z ≤ n
at_most (pos k) n low high = omega (arith, ints, high)
at_most (negsuc k) n low high = absurd (true≢false (sym low))

-- SND.UNA never passes what was acknowledged
una_backed : {State : Type 0} (service : Machine State) (script : Key → List ℕ) (log : Log) (news : News) (p : Point) → NewsBacked service script log p news
    → p.una ≤ logged_output service script log p.key → acknowledged_after news p ≤ logged_output service script log p.key
unfolding acknowledged_after counts
una_backed service script log (Comes segment) p n h =
    let N : ℕ = logged_output service script log p.key in
    holds_if (λ u. u ≤ N) (acknowledges p segment) (una_after p.una (acknowledged_by p segment)) p.una
    (λ t. let two = and_parts (counts p segment) (int_le (pos 0) (ack_of p.sisn segment)) t in
    let sent = and_parts (has_ack segment && not (has_syn segment) && not (has_rst segment) && uses p segment && (p.syn_acked || int_le (pos 0) (ack_of p.sisn segment))) (not (acknowledges_unsent p segment)) two.0 in
    let all = and_parts (has_ack segment && not (has_syn segment) && not (has_rst segment) && uses p segment) (p.syn_acked || int_le (pos 0) (ack_of p.sisn segment)) sent.0 in
    let flags = and_parts (has_ack segment && not (has_syn segment) && not (has_rst segment)) (uses p segment) all.0 in
    let ack = and_parts (has_ack segment && not (has_syn segment)) (not (has_rst segment)) flags.0 in
    let low : nat_abs (ack_of p.sisn segment) ≤ N = at_most (ack_of p.sisn segment) N two.1 (n (and_parts (has_ack segment) (not (has_syn segment)) ack.0).0) in
    holds_if (λ u. u ≤ N) (nat_lt p.una (acknowledged_by p segment)) (acknowledged_by p segment) p.una (λ s. omega (arith, low)) (λ s. h)) (λ t. h)
una_backed service script log (Logged kept) p n h = h
una_backed service script log Ticks p n h = h
una_backed service script log Begins p n h = h

-- every Data carries SND.UNA
copies_backed : {State : Type 0} (service : Machine State) (script : Key → List ℕ) (log : Log) (news : News) (p q : Point) → q.una ≤ logged_output service script log q.key
    → AllByRecursion (BodyBacked service script log) (copies news p q)
copies_backed service script log news p q h =
    all_copies (BodyBacked service script log) news p q
    (λ part c. subst (λ k. part.acked ≤ logged_output service script log k) (sym c.key) (subst (λ n. n ≤ logged_output service script log q.key) (sym c.acked) h))

messages_backed : {State : Type 0} (service : Machine State) (script : Key → List ℕ) (log : Log) (key : Key) (index : ℕ) (lengths : List ℕ) → AllByRecursion (BodyBacked service script log) (read_messages key index lengths)
messages_backed service script log key index [] = tt
messages_backed service script log key index (n ∷ lengths) = (tt, messages_backed service script log key (index + 1) lengths)

reads_backed : {State : Type 0} (service : Machine State) (script : Key → List ℕ) (log : Log) (news : News) (p q : Point) → AllByRecursion (BodyBacked service script log) (reads_reported news p q)
unfolding reads_reported
reads_backed service script log news p q = messages_backed service script log q.key (first_reported news p q) (drop (first_reported news p q) q.lengths)

dones_backed : {State : Type 0} (service : Machine State) (script : Key → List ℕ) (log : Log) (news : News) (p q : Point) → AllByRecursion (BodyBacked service script log) (dones news p q)
unfolding dones
dones_backed service script log news p q = holds_if (AllByRecursion (BodyBacked service script log)) (reports_done news p q) (DoneMsg q.key ∷ []) [] (λ t. (tt, tt)) (λ t. tt)

pub segments_backed : {State : Type 0} (service : Machine State) (script : Key → List ℕ) (log : Log) (segments : List Segment) → AllByRecursion (PacketBacked service script log) (map To_client segments)
segments_backed service script log segments = all_map (PacketBacked service script log) To_client segments (all_of _ segments (λ s. tt))

pub connection_backed : {State : Type 0} (service : Machine State) (server : Addr) (script : Key → List ℕ) (log : Log) (boot : ℕ) (news : News) (p q : Point) (sent : List Packet)
    → NewsBacked service script log p news → PlaceBacked service script log (Lives p) → ConnectionTurn service server boot news p q sent
    → PlaceBacked service script log (Lives q) × AllByRecursion (PacketBacked service script log) sent
connection_backed service server script log boot news p q sent n h =
    let P : Packet → Type 0 = PacketBacked service script log in
    let B : Body → Type 0 = BodyBacked service script log in
    either_turn service server boot news p q sent
    (λ t. (subst (λ x. PlaceBacked service script log (Lives x)) (sym t.point) h, subst (AllByRecursion P) (sym t.packets) (all_map P (reported_by boot) (dones news p q) (dones_backed service script log news p q))))
    (λ t. let una : q.una ≤ logged_output service script log p.key = subst (λ u. u ≤ logged_output service script log p.key) (sym t.una) (una_backed service script log news p n h) in
    let after : q.una ≤ logged_output service script log q.key = subst (λ x. q.una ≤ logged_output service script log x) (sym t.same.key) una in (
      after,
      subst (AllByRecursion P) (sym t.packets)
          (all_append P (map To_client (segments_of service server news p q)) _ (segments_backed service script log (segments_of service server news p q))
          (all_map P (reported_by boot) (copies news p q ++ (reads_reported news p q ++ dones news p q))
          (all_append B (copies news p q) _ (copies_backed service script log news p q after)
          (all_append B (reads_reported news p q) (dones news p q) (reads_backed service script log news p q) (dones_backed service script log news p q))))),
    ))
