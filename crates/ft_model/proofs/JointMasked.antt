-- The headline: every joint trace is masked.
use Rattle.std.proofs.Common.{◌≡◌, ℕ, Bool, true, false, ◌==◌, ◌&&◌, refl, sym, ap, ◌∙◌, subst, true≢false, ◌⊎◌, Option, Some, None, List, [], ◌∷◌, if◌then◌else◌, ◌+◌, ◌≤◌, ℤ, ◌≤ℤ◌, int_lt, pos, negsuc, max, length, arith}
use Rattle.ft_model.proofs.Services.{more_bytes}
use Rattle.ft_model.proofs.Scripts.{EntryFits}
use Rattle.ft_model.proofs.Keys.{finds_itself, all_from_get}
use Rattle.ft_model.specs.Restart.{run_of, point_of, resumed_at, output_units}
use Rattle.std.specs.List.{AllByRecursion}
use Rattle.std.proofs.lemmas.Bool.{false_from_ne_true}
use Rattle.std.proofs.lemmas.Int.{ints}
use Rattle.ft_io.specs.declared.Key.{Key}
use Rattle.ft_io.specs.Key.{key_eq}
use Rattle.tcp_rules.specs.Profile.{Profile}
use Rattle.seq_arith.specs.Number.{number_at}
use Rattle.seq_arith.specs.Packet.{Segment, has_syn, has_rst, has_ack}
use Rattle.server_trait.specs.Service.{Machine, reference}
use Rattle.ft_model.specs.Offset.{ack_of, fin_of, text_of, one_if}
use Rattle.ft_model.specs.Client.{Client, received, opened_by, arrived, is_opening, is_open, is_ended}
use Rattle.ft_model.specs.declared.phase.Phase.TheVariants as phases
use Rattle.ft_model.specs.Log.{Log, Entry, entry_of, log_after}
use Rattle.ft_model.specs.Network.{Packet, source_of, destination_of}
use Rattle.ft_model.specs.Network.Packet.{To_server, To_client, To_logger, From_logger}
use Rattle.ft_model.specs.Growth.{IsPrefix, logged_lengths, lengths_in}
use Rattle.ft_model.specs.Masked.{SeesFront, unfailing, Masked}
use Rattle.ft_model.specs.Taken.{acknowledges_unsent}
use Rattle.ft_model.specs.Made.{AcknowledgesMade, AcknowledgesSent}
use Rattle.ft_model.specs.World.{World, Moment, Joint, IsStart, IsNewClient, world_after}
use Rattle.ft_model.proofs.Lists.{all_both, all_weaker, all_find, all_slice_get, found_passes, same_key, none_is_some, some_is}
use Rattle.ft_model.proofs.Grows.{log_grows}
use Rattle.ft_model.proofs.Happened.{Happened, holds_after, all_sent}
use Rattle.ft_model.proofs.Happened.Happened.{log_received, client_received, client_moved, server_turned, server_booted, server_down}
use Rattle.ft_model.proofs.Fenced.{IsFenced, start_fenced, fenced_proceeds}
use Rattle.ft_model.proofs.Asked.{IsAsked, start_asked, asked_proceeds}
use Rattle.ft_model.proofs.Exact.{exact_after}
use Rattle.ft_model.proofs.FaithfulKept.{ClientFits, IsFaithful, received_same, clients_fit}
use Rattle.ft_model.proofs.FaithfulOver.{script_of, isn_of, client_there, faithful_proceeds}
use Rattle.ft_model.proofs.Acknowledged.{start_is, short_scripts, start_faithful, acknowledged_after}
use Rattle.ft_model.proofs.Distinct.{IsDistinct, distinct_after}
use Rattle.ft_model.proofs.ReportedOver.{reported_after}
use Rattle.ft_model.proofs.Running.{HasSmallOutputs}
use Rattle.ft_model.proofs.Authored.{Speaks, IsSpoken, CarriesOutput, logged_run}
use Rattle.ft_model.proofs.AuthorOver.{HasAuthor, EntryOf}
use Rattle.ft_model.proofs.AuthorWorld.{author_proceeds, start_author}
use Rattle.ft_model.proofs.Backed.{PacketBacked, EntryBacked, IsBacked}
use Rattle.ft_model.proofs.BackedOver.{start_backed, backed_proceeds}
use Rattle.ft_model.proofs.Seen.{HoldsOf, Sees, IsSeen, SaysRun, seen_later, received_sees, moved_seen}
use Rattle.ft_io.proofs.Choices.{holds_if}

opened_closed : (c : Client) (segment : Segment) → has_rst segment ≡ true → is_open c.phase ≡ false → is_open (opened_by c segment).phase ≡ false
opened_closed c segment rst closed =
    let gone : Client = record c { phase = phases.Reset } in
    let stands : Client = record c { phase = phases.Established; sisn = segment.head.seq } in
    holds_if (λ x. is_open x.phase ≡ false) (has_ack segment && segment.head.ack == number_at c.isn 0) (if has_rst segment then gone else (if has_syn segment then stands else c)) c
    (λ a. holds_if (λ x. is_open x.phase ≡ false) (has_rst segment) gone (if has_syn segment then stands else c) (λ r. refl) (λ r. absurd (true≢false (sym rst ∙ r)))) (λ a. closed)

-- a RST opens nothing
received_closed : (c : Client) (segment : Segment) → has_rst segment ≡ true → is_open c.phase ≡ false → is_open (received c segment).phase ≡ false
received_closed c segment rst closed =
    holds_if (λ x. is_open x.phase ≡ false) (is_opening c.phase) (opened_by c segment) (if is_open c.phase then arrived c segment else c) (λ o. opened_closed c segment rst closed)
    (λ o. holds_if (λ x. is_open x.phase ≡ false) (is_open c.phase) (arrived c segment) c (λ x. absurd (true≢false (sym x ∙ closed))) (λ x. closed))

says : {State : Type 0} (service : Machine State) (script : Key → List ℕ) (log : Log) (key : Key) (e : Entry) (segment : Segment) → entry_of key log ≡ Some e
    → (has_rst segment ≡ false → IsSpoken service script log key segment) → SaysRun (logged_run service script log key) e.sisn segment
says service script log key e segment found s = λ rst.
    let x = s rst in
    let same : x.entry ≡ e = some_is x.entry e (sym x.found ∙ found) in (
      (λ y. x.syn y ∙ ap (λ z. z.sisn) same),
      subst (λ z. CarriesOutput (logged_run service script log key) z.sisn segment ⊎ ((text_of segment ≡ []) × (fin_of segment ≡ false))) same x.text,
    )

seen_as : {State : Type 0} (service : Machine State) (script : Key → List ℕ) (log : Log) (c d : Client) → d.key ≡ c.key → IsPrefix d.accepted (logged_run service script log c.key).output
    → (is_ended d.phase ≡ true → ((logged_run service script log c.key).closed ≡ true) × (d.accepted ≡ (logged_run service script log c.key).output))
    → HoldsOf (logged_run service script log c.key) (length d.accepted) d.early
    → (is_open d.phase ≡ true → (e : Entry) × (entry_of c.key log ≡ Some e) × (e.sisn ≡ d.sisn)) → (entry_of c.key log ≡ None → d.accepted ≡ []) → IsSeen service script log d
seen_as service script log c d k front ended holds sisn unlogged = record {
  front = subst (λ x. IsPrefix d.accepted (logged_run service script log x).output) (sym k) front;
  ended = λ e. subst (λ x. ((logged_run service script log x).closed ≡ true) × (d.accepted ≡ (logged_run service script log x).output)) (sym k) (ended e);
  holds = subst (λ x. HoldsOf (logged_run service script log x) (length d.accepted) d.early) (sym k) holds;
  sisn = λ o. subst (λ x. (e : Entry) × (entry_of x log ≡ Some e) × (e.sisn ≡ d.sisn)) (sym k) (sisn o);
  unlogged = subst (λ x. entry_of x log ≡ None → d.accepted ≡ []) (sym k) unlogged;
}

-- a client whose connection isn't open accepts nothing
opened_accepts : (c : Client) (segment : Segment) → (opened_by c segment).accepted ≡ c.accepted
opened_accepts c segment =
    let gone : Client = record c { phase = phases.Reset } in
    let stands : Client = record c { phase = phases.Established; sisn = segment.head.seq } in
    holds_if (λ x. x.accepted ≡ c.accepted) (has_ack segment && segment.head.ack == number_at c.isn 0) (if has_rst segment then gone else (if has_syn segment then stands else c)) c
    (λ a. holds_if (λ x. x.accepted ≡ c.accepted) (has_rst segment) gone (if has_syn segment then stands else c) (λ r. refl)
    (λ r. holds_if (λ x. x.accepted ≡ c.accepted) (has_syn segment) stands c (λ y. refl) (λ y. refl))) (λ a. refl)

received_accepts : (c : Client) (segment : Segment) → is_open c.phase ≡ false → (received c segment).accepted ≡ c.accepted
received_accepts c segment closed =
    holds_if (λ x. x.accepted ≡ c.accepted) (is_opening c.phase) (opened_by c segment) (if is_open c.phase then arrived c segment else c) (λ o. opened_accepts c segment)
    (λ o. holds_if (λ x. x.accepted ≡ c.accepted) (is_open c.phase) (arrived c segment) c (λ x. absurd (true≢false (sym x ∙ closed))) (λ x. refl))

not_open : {State : Type 0} (service : Machine State) (script : Key → List ℕ) (log : Log) (c : Client) → IsSeen service script log c → entry_of c.key log ≡ None → is_open c.phase ≡ false
not_open service script log c s none = false_from_ne_true (is_open c.phase) (λ o. let x = s.sisn o in none_is_some x.0 (sym none ∙ x.1))

-- a client that receives, by whether its entry is in the log
received_by : {State : Type 0} (service : Machine State) (script : Key → List ℕ) (log : Log) (c : Client) (segment : Segment) (o : Option Entry) (b : Bool) → entry_of c.key log ≡ o → has_rst segment ≡ b
    → (has_rst segment ≡ false → IsSpoken service script log c.key segment) → IsSeen service script log c → IsSeen service script log (received c segment)
received_by service script log c segment (Some e) b found rst says_so s =
    let sees : Sees (logged_run service script log c.key) e.sisn c =
    record { front = s.front; ended = s.ended; holds = s.holds; sisn_is = λ o. let x = s.sisn o in sym x.2 ∙ ap (λ z. z.sisn) (some_is x.0 e (sym x.1 ∙ found)) } in
    let after : Sees (logged_run service script log c.key) e.sisn (received c segment) = received_sees (logged_run service script log c.key) e.sisn c segment sees (says service script log c.key e segment found says_so) in
    seen_as service script log c (received c segment) (received_same c segment).key after.front after.ended after.holds (λ o. (e, found, sym (after.sisn_is o))) (λ n. none_is_some e (sym n ∙ found))
received_by service script log c segment None true found rst says_so s =
    let closed : is_open c.phase ≡ false = not_open service script log c s found in
    let sees : Sees (logged_run service script log c.key) 0 c = record { front = s.front; ended = s.ended; holds = s.holds; sisn_is = λ o. absurd (true≢false (sym o ∙ closed)) } in
    let after : Sees (logged_run service script log c.key) 0 (received c segment) =
    received_sees (logged_run service script log c.key) 0 c segment sees (λ r. absurd (true≢false (sym rst ∙ r))) in
    seen_as service script log c (received c segment) (received_same c segment).key after.front after.ended after.holds (λ o. absurd (true≢false (sym o ∙ received_closed c segment rst closed))) (λ n. received_accepts c segment closed ∙ s.unlogged n)
received_by service script log c segment None false found rst says_so s = none_is_some (says_so rst).entry (sym found ∙ (says_so rst).found)

received_seen : {State : Type 0} (service : Machine State) (script : Key → List ℕ) (log : Log) (c : Client) (segment : Segment) → c.key ≡ destination_of segment
    → Speaks service script log (To_client segment) → IsSeen service script log c → IsSeen service script log (received c segment)
received_seen service script log c segment k speaks s =
    received_by service script log c segment (entry_of c.key log) (has_rst segment) refl refl (λ r. subst (λ x. IsSpoken service script log x segment) (sym k) (speaks r)) s

abbrev pub AllSee : {State : Type 0} → Machine State → (Key → List ℕ) → World → Type 0
AllSee service script w = AllByRecursion (IsSeen service script w.log) w.clients

pub sees_on : {State : Type 0} (service : Machine State) (script : Key → List ℕ) (before : World) (sent : List Packet) (after : World)
    → HasAuthor service script before → AllSee service script before → Happened service before sent after → AllSee service script after
sees_on service script before sent after a s (log_received message under t e) =
    subst (AllSee service script) (sym e)
    (all_weaker (IsSeen service script before.log) _ before.clients (λ c x. seen_later service script before.log (log_after before.log message) c (log_grows before.log message) x) s)
sees_on service script before sent after a s (client_received segment under t e) =
    subst (AllSee service script) (sym e)
    (clients_fit (IsSeen service script before.log) (destination_of segment) (λ c. received c segment) before.clients
    (λ c k x. received_seen service script before.log c segment k (all_sent (Speaks service script before.log) before (To_client segment) a.spoken under) x) s)
sees_on service script before sent after a s (client_moved number m) =
    let was : IsSeen service script before.log m.client = client_there (IsSeen service script before.log) before.clients number m.client s m.is_there in
    let now : IsSeen service script before.log m.later = subst (IsSeen service script before.log) (sym m.move.after_is) (moved_seen service script before.log m.client m.move.move m.move.window was) in
    subst (AllSee service script) (sym m.after_is) (clients_fit (IsSeen service script before.log) m.client.key (λ x. m.later) before.clients (λ c k x. now) s)
sees_on service script before sent after a s (server_turned input node later brought is turn e) = subst (AllSee service script) (sym e) s
sees_on service script before sent after a s (server_booted boot isn down larger t e) = subst (AllSee service script) (sym e) s
sees_on service script before sent after a s (server_down t e) = subst (AllSee service script) (sym e) s

start_sees : {State : Type 0} (service : Machine State) (script : Key → List ℕ) (w : World) → IsStart w → AllSee service script w
start_sees service script w s =
    all_weaker (IsNewClient w.server) _ w.clients
    (λ c n. subst (IsSeen service script w.log) (sym n.new)
    (record { front = ((logged_run service script w.log c.key).output, refl); ended = λ e. absurd (true≢false (sym e)); holds = record { held = tt; held_fin = tt }; sisn = λ o. absurd (true≢false (sym o)); unlogged = λ n. refl })) s.clients

-- all that is kept true
pub record JointInvariant {State : Type 0} (service : Machine State) (start w : World) : Type 0 where
  pub fenced : IsFenced w
  pub asked : IsAsked w
  pub faithful : IsFaithful (script_of start) (isn_of start) w
  pub distinct : IsDistinct w
  pub author : HasAuthor service (script_of start) w
  pub sees : AllSee service (script_of start) w
  pub backed : IsBacked service (script_of start) w

pub start_sound : {State : Type 0} (service : Machine State) → HasSmallOutputs service → (start : World) → IsStart start → JointInvariant service start start
start_sound service small start x = record {
  fenced = start_fenced start x;
  asked = start_asked start x;
  faithful = start_faithful start x;
  distinct = λ n e. none_is_some n (sym x.node ∙ e);
  author = start_author service (script_of start) start small.0 x;
  sees = start_sees service (script_of start) start x;
  backed = start_backed service (script_of start) start x;
}

pub sound_proceeds : {State : Type 0} (service : Machine State) → HasSmallOutputs service → (start before : World) (sent : List Packet) (after : World)
    → IsStart start → JointInvariant service start before → Happened service before sent after → JointInvariant service start after
sound_proceeds service small start before sent after s o h = record {
  fenced = fenced_proceeds service before sent after o.fenced h;
  asked = asked_proceeds service before sent after o.fenced o.asked h;
  faithful = faithful_proceeds service (script_of start) (isn_of start) before sent after (short_scripts start s) o.asked o.faithful h;
  distinct = distinct_after service before sent after o.asked o.distinct h;
  author = author_proceeds service (script_of start) (isn_of start) before sent after small (short_scripts start s) o.fenced o.asked o.faithful o.distinct o.author h;
  sees = sees_on service (script_of start) before sent after o.author o.sees h;
  backed = backed_proceeds service (script_of start) (isn_of start) before sent after o.asked o.faithful o.author o.sees o.backed h;
}

pub sound_after : {State : Type 0} (service : Machine State) → HasSmallOutputs service → (start : World) (trace : List Moment) → Joint service start trace → JointInvariant service start (world_after start trace)
sound_after service small start trace j =
    let s : IsStart start = start_is service start trace j in
    holds_after service (JointInvariant service start) start (start_sound service small start) (λ before sent after o h. sound_proceeds service small start before sent after s o h) trace j

-- each client sees the front of the uncrashed server's output
pub sees_front : {State : Type 0} (service : Machine State) → HasSmallOutputs service → (start : World) (trace : List Moment) → Joint service start trace
    → AllByRecursion (SeesFront service (world_after start trace).log) (world_after start trace).clients
sees_front service small start trace j =
    let o : JointInvariant service start (world_after start trace) = sound_after service small start trace j in
    let log : Log = (world_after start trace).log in
    all_both (IsSeen service (script_of start) log) (ClientFits (script_of start) (isn_of start)) (SeesFront service log) (world_after start trace).clients
    (λ c s f. let same : logged_run service (script_of start) log c.key ≡ unfailing service log c = ap (λ l. reference service l (logged_lengths c.key log)) (sym f.0) in
    record {
      accepted = subst (λ r. IsPrefix c.accepted r.output) same s.front;
      unlogged = s.unlogged;
      ended = λ e. subst (λ r. (r.closed ≡ true) × (c.accepted ≡ r.output)) same (s.ended e);
    }) o.sees o.faithful.clients

-- the run over an entry's own bytes and reads is that over its client's script
run_logged : {State : Type 0} (service : Machine State) (start w : World) → JointInvariant service start w → (key : Key) (e : Entry) → entry_of key w.log ≡ Some e
    → logged_run service (script_of start) w.log key ≡ run_of service e
run_logged service start w o key e found =
    let same : e.key ≡ key = same_key e.key key (found_passes (λ x. key_eq x.key key) w.log.entries e found) in
    let f : EntryFits (script_of start e.key) (isn_of start e.key) e =
    all_find (λ x. EntryFits (script_of start x.key) (isn_of start x.key) x) (λ x. key_eq x.key key) w.log.entries e o.faithful.entries found in
    let g : EntryOf o.author.author e = all_find (EntryOf o.author.author) (λ x. key_eq x.key key) w.log.entries e o.author.entries found in
    ap (λ x. reference service (script_of start key) (lengths_in x)) found ∙ ap (λ k. reference service (script_of start k) e.lengths) (sym same)
    ∙ more_bytes service e.bytes (script_of start e.key) e.lengths f.front g.1

packet_made : {State : Type 0} (service : Machine State) (start w : World) → JointInvariant service start w → (packet : Packet) → PacketBacked service (script_of start) w.log packet
    → AcknowledgesMade service w.log packet
packet_made service start w o (To_server segment) b = λ a.
    let x = b a in
    let same : logged_run service (script_of start) w.log (source_of segment) ≡ run_of service x.0 = run_logged service start w o (source_of segment) x.0 x.1 in
    (x.0, x.1, subst (λ r. ack_of x.0.sisn segment ≤ℤ pos (length r.output + one_if r.closed)) same x.2)
packet_made service start w o (To_client segment) b = tt
packet_made service start w o (To_logger message) b = tt
packet_made service start w o (From_logger message) b = tt

-- what a client acknowledges was made
pub made_packets : {State : Type 0} (service : Machine State) → HasSmallOutputs service → (start : World) (trace : List Moment) → Joint service start trace
    → AllByRecursion (AcknowledgesMade service (world_after start trace).log) (world_after start trace).packets
made_packets service small start trace j =
    let w : World = world_after start trace in
    let o : JointInvariant service start w = sound_after service small start trace j in
    all_weaker (PacketBacked service (script_of start) w.log) (AcknowledgesMade service w.log) w.packets (packet_made service start w o) o.backed.packets

not_beyond : (z : ℤ) (a b : ℕ) → z ≤ℤ pos b → int_lt (pos (max a b)) z ≡ false
not_beyond (pos k) a b h = grind (arith, ints, h)
not_beyond (negsuc k) a b h = grind (arith, ints)

packet_sent : {State : Type 0} (service : Machine State) (profile : Profile) (log : Log) (e : Entry) → entry_of e.key log ≡ Some e → (packet : Packet) → AcknowledgesMade service log packet
    → AcknowledgesSent (point_of service profile e) packet
unfolding acknowledges_unsent
packet_sent service profile log e found (To_server segment) m = λ same has.
    let x = m has in
    let key : source_of segment ≡ e.key = same_key (source_of segment) e.key same in
    let one : x.0 ≡ e = some_is x.0 e (sym x.1 ∙ (ap (λ k. entry_of k log) key ∙ found)) in
    not_beyond (ack_of e.sisn segment) (resumed_at service e) (output_units service e)
    (subst (λ y. ack_of y.sisn segment ≤ℤ pos (output_units service y)) one x.2)
packet_sent service profile log e found (To_client segment) m = tt
packet_sent service profile log e found (To_logger message) m = tt
packet_sent service profile log e found (From_logger message) m = tt

-- at the points of the log's entries nothing that a client acknowledges was never sent
pub sent_packets : {State : Type 0} (service : Machine State) (profile : Profile) → HasSmallOutputs service → (start : World) (trace : List Moment) → Joint service start trace
    → AllByRecursion (λ e. AllByRecursion (AcknowledgesSent (point_of service profile e)) (world_after start trace).packets) (world_after start trace).log.entries
sent_packets service profile small start trace j =
    let w : World = world_after start trace in
    let o : JointInvariant service start w = sound_after service small start trace j in
    all_from_get (λ e. AllByRecursion (AcknowledgesSent (point_of service profile e)) w.packets) w.log.entries
    (λ i e at. all_weaker (AcknowledgesMade service w.log) (AcknowledgesSent (point_of service profile e)) w.packets
    (packet_sent service profile w.log e (finds_itself (λ x. x.key) w.log.entries i e o.asked.distinct at)) (made_packets service small start trace j))

-- what the log says is acknowledged was output
pub backed_entries : {State : Type 0} (service : Machine State) → HasSmallOutputs service → (start : World) (trace : List Moment) → Joint service start trace
    → AllByRecursion (λ e. e.acknowledged ≤ length (run_of service e).output + one_if (run_of service e).closed) (world_after start trace).log.entries
backed_entries service small start trace j =
    let o : JointInvariant service start (world_after start trace) = sound_after service small start trace j in
    let log : Log = (world_after start trace).log in
    all_from_get (λ e. e.acknowledged ≤ length (run_of service e).output + one_if (run_of service e).closed) log.entries
    (λ i e at. let f : EntryFits (script_of start e.key) (isn_of start e.key) e = all_slice_get (λ x. EntryFits (script_of start x.key) (isn_of start x.key) x) log.entries i e o.faithful.entries at in
    let g : EntryOf o.author.author e = all_slice_get (EntryOf o.author.author) log.entries i e o.author.entries at in
    let k : EntryBacked service (script_of start) log e = all_slice_get (EntryBacked service (script_of start) log) log.entries i e o.backed.entries at in
    let found : entry_of e.key log ≡ Some e = finds_itself (λ x. x.key) log.entries i e o.asked.distinct at in
    let same : logged_run service (script_of start) log e.key ≡ run_of service e =
    ap (λ x. reference service (script_of start e.key) (lengths_in x)) found ∙ more_bytes service e.bytes (script_of start e.key) e.lengths f.front g.1 in
    subst (λ r. e.acknowledged ≤ length r.output + one_if r.closed) same k)

pub masked : {State : Type 0} (service : Machine State) → HasSmallOutputs service → (start : World) (trace : List Moment) → Joint service start trace → Masked service start trace
masked service small start [] j = tt
masked service small start (moment ∷ earlier) j = (
  masked service small start earlier j.0,
  record {
    clients = sees_front service small start (moment ∷ earlier) j;
    acknowledged = acknowledged_after service start moment earlier j;
    restart = exact_after service start moment earlier j;
    reported = reported_after service start (moment ∷ earlier) j;
  },
)
