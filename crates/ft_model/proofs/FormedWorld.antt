-- All that is sent in a joint trace is well formed, and so has a wire.
use Rattle.std.proofs.Common.{◌≡◌, ℕ, zero, suc, ◌+◌, ◌<◌, ◌≤◌, ◌^◌, Bool, true, not, nat_lt, refl, sym, ap, ◌∙◌, subst, true≢false, ⊎_elim, find, Option, Some, None, List, [], ◌∷◌, ◌++◌, length, slice_get, arith, ltb-false, if◌then◌else◌}
use Rattle.std.specs.List.{AllByRecursion, position_or_len}
use Rattle.std.specs.Option.{option_map_or}
use Rattle.ft_io.specs.declared.Addr.{Addr}
use Rattle.ft_io.specs.declared.Key.{Key}
use Rattle.ft_io.specs.Key.{key_eq}
use Rattle.seq_arith.specs.Message.{Body, Message}
use Rattle.seq_arith.specs.Message.Body.{DataMsg}
use Rattle.server_trait.specs.Service.{Machine, AreBytes, WritesBytes}
use Rattle.ft_model.specs.Client.{Client, received}
use Rattle.ft_model.specs.Growth.{logged_lengths}
use Rattle.ft_model.specs.Log.{Log, entry_of, log_after}
use Rattle.ft_model.specs.Network.{Packet, destination_of}
use Rattle.ft_model.specs.Network.Packet.{To_server, To_logger}
use Rattle.tcp_rules.specs.Profile.{grammar_of}
use Rattle.ft_model.specs.Wire.{HasWireBy}
use Rattle.ft_model.specs.Node.{Node, booted}
use Rattle.ft_model.specs.World.{World, Moment, with_client, Moves, IsNewClient, IsStart, Joint, world_after}
use Rattle.ft_model.specs.Report.{number_of_client}
use Rattle.ft_model.proofs.Lists.{all_weaker, all_both, all_append, all_find, all_slice_get, none_is_some, some_is, key_is}
use Rattle.ft_model.proofs.Keys.{all_from_get}
use Rattle.ft_model.proofs.Happened.{Happened, IsUnderWay, all_sent, answers, happened}
use Rattle.ft_model.proofs.Happened.Happened.{log_received, client_received, client_moved, server_turned, server_booted, server_down}
use Rattle.ft_model.proofs.LogAnswers.{log_went, all_answers_so}
use Rattle.ft_model.proofs.Services.{reads_proceed, prefix_length}
use Rattle.ft_model.proofs.StageTurns.{stage_went}
use Rattle.ft_model.proofs.Faithful.{EntriesFit}
use Rattle.ft_model.proofs.FaithfulKept.{ClientFits, clients_fit}
use Rattle.ft_model.proofs.FaithfulOver.{script_in, isn_in, script_of, isn_of, client_there}
use Rattle.ft_model.proofs.Acknowledged.{start_is, short_scripts, true_after}
use Rattle.ft_model.proofs.Running.{HasSmallOutputs}
use Rattle.ft_model.proofs.Authored.{logged_run}
use Rattle.ft_model.proofs.AuthorOver.{HasAuthor}
use Rattle.ft_model.proofs.AuthorWorld.{front_of}
use Rattle.ft_model.proofs.Backed.{logged_output, BodyBacked, PacketBacked, EntryBacked}
use Rattle.ft_model.proofs.JointMasked.{JointInvariant, sound_after}
use Rattle.ft_model.proofs.Formed.{AckWithin, MessageFormed, PacketFormed, IsBoot, StartFormed, EntryFormed, NodeFormed, ClientFormed, WorldFormed}
use Rattle.ft_model.proofs.FormedLog.{AckedWithin, LogFormed, log_formed, EntryReports, entries_report, reported_formed, reported_acks}
use Rattle.ft_model.proofs.FormedClients.{received_formed, move_formed}
use Rattle.ft_model.proofs.FormedOver.{Knows, turn_formed}
use Rattle.ft_model.proofs.Wires.{PacketAckWithin, packet_wire}
use Rattle.ft_model.proofs.OneTrace.{proceeds}
use Rattle.ft_model.specs.Image.{HasWires}
use Rattle.seq_arith.proofs.Units.{one_at_most}
use Rattle.ft_io.proofs.Choices.{holds_if}

abbrev Outcome : World → List Packet → World → Type 0
Outcome start sent after = AllByRecursion (PacketFormed start) sent × WorldFormed start after

-- clients and packets change, and nothing else
clients_formed : (start w : World) (clients : List Client) (sent : List Packet) → WorldFormed start w → AllByRecursion (ClientFormed start) clients
    → AllByRecursion (PacketFormed start) sent → WorldFormed start (record w { clients = clients; packets = w.packets ++ sent })
clients_formed start w clients sent f c s = record {
  server = f.server;
  profile = f.profile;
  boot = f.boot;
  few = f.few;
  clients = c;
  packets = all_append (PacketFormed start) w.packets sent f.packets s;
  entries = f.entries;
  node = f.node;
}

moves_formed : (start w : World) (number : ℕ) (sent : List Packet) (after : World) → StartFormed start → Knows start w → Moves w number sent after → Outcome start sent after
moves_formed start w number sent after s k x =
    let c : Client = x.client in
    let formed : ClientFormed start c = client_there (ClientFormed start) w.clients number c k.formed.clients x.is_there in
    let fits : ClientFits (script_of start) (isn_of start) c = client_there (ClientFits (script_of start) (isn_of start)) w.clients number c k.truth.1.clients x.is_there in
    let isn = s.isn c.key in
    let packet : PacketFormed start (To_server x.segment) =
    move_formed start c x.later x.segment formed (omega (arith, isn, fits.1)) (subst AreBytes (sym fits.0) (s.bytes c.key)) x.move in
    let all : AllByRecursion (PacketFormed start) sent = subst (AllByRecursion (PacketFormed start)) (sym x.sent_is) (packet, tt) in
    let later : ClientFormed start x.later = subst (ClientFormed start) (sym x.move.after_is) (record { key = formed.key; server = formed.server }) in (
      all,
      subst (WorldFormed start) (sym x.after_is)
          (clients_formed start w (with_client c.key (λ d. x.later) w.clients) sent k.formed
          (clients_fit (ClientFormed start) c.key (λ d. x.later) w.clients (λ d same f. later) k.formed.clients) all),
    )

-- what comes to the log
answers_formed : (start : World) (log : Log) (message : Message) → MessageFormed start message → log.boot < 2 ^ 64 → LogFormed start (log_after log message).entries
    → AllByRecursion (EntryReports start) (log_after log message).entries → AllByRecursion (PacketFormed start) (answers log message)
answers_formed start log message came b few reports =
    all_answers_so (PacketFormed start) log message
    (λ body a. ⊎_elim (λ stale. subst (λ x. MessageFormed start (record { boot = message.boot; body = x }) × AckWithin x) (sym stale.0) ((came.0, (stale.1, b)), tt))
    (λ o. ((came.0, reported_formed start message.boot message.body (log_after log message) body came.1 few.1 reports o.1), reported_acks message.body (log_after log message) body o.1)) a)

arrival_formed : (start w : World) (message : Message) → StartFormed start → Knows start w → IsUnderWay w (To_logger message)
    → EntriesFit (script_of start) (isn_of start) (log_after w.log message).entries → AllByRecursion AckedWithin (log_after w.log message).entries
    → Outcome start (answers w.log message) (record w { log = log_after w.log message; packets = w.packets ++ answers w.log message })
arrival_formed start w message s k under fits acked =
    let f = k.formed in
    let came : PacketFormed start (To_logger message) = all_sent (PacketFormed start) w (To_logger message) f.packets under in
    let log = log_formed start w.log message (log_after w.log message) (log_went w.log message) came f.boot (f.entries, f.few) in
    let all : AllByRecursion (PacketFormed start) (answers w.log message) =
    answers_formed start w.log message came f.boot log.0 (entries_report start s (log_after w.log message).entries log.0.0 fits acked) in (
      all,
      record {
        server = f.server;
        profile = f.profile;
        boot = log.1;
        few = log.0.1;
        clients = f.clients;
        packets = all_append (PacketFormed start) w.packets (answers w.log message) f.packets all;
        entries = log.0.0;
        node = f.node;
      },
    )

-- the server goes on, or is another
server_formed : (start w : World) (boot : ℕ) (node : Option Node) (sent : List Packet) → WorldFormed start w → AllByRecursion (PacketFormed start) sent
    → ((n : Node) → node ≡ Some n → NodeFormed start n) → WorldFormed start (record w { boot = boot; node = node; packets = w.packets ++ sent })
server_formed start w boot node sent f all n = record {
  server = f.server;
  profile = f.profile;
  boot = f.boot;
  few = f.few;
  clients = f.clients;
  packets = all_append (PacketFormed start) w.packets sent f.packets all;
  entries = f.entries;
  node = n;
}

-- one moment
pub moment_formed : {State : Type 0} (service : Machine State) (start w : World) (sent : List Packet) (after : World) → WritesBytes service → StartFormed start
    → Knows start w → EntriesFit (script_of start) (isn_of start) after.log.entries → AllByRecursion AckedWithin after.log.entries → Happened service w sent after
    → Outcome start sent after
moment_formed service start w sent after writes s k fits acked (log_received message under is e) =
    let log : after.log ≡ log_after w.log message = ap (λ x. x.log) e in
    let went = arrival_formed start w message s k under (subst (λ l. EntriesFit (script_of start) (isn_of start) l.entries) log fits) (subst (λ l. AllByRecursion AckedWithin l.entries) log acked) in (
      subst (AllByRecursion (PacketFormed start)) (sym is) went.0,
      subst (WorldFormed start) (sym (e ∙ ap (λ x. record w { log = log_after w.log message; packets = w.packets ++ x }) is)) went.1,
    )
moment_formed service start w sent after writes s k fits acked (client_received segment under is e) =
    let all : AllByRecursion (PacketFormed start) sent = subst (AllByRecursion (PacketFormed start)) (sym is) tt in (
      all,
      subst (WorldFormed start) (sym e)
          (clients_formed start w (with_client (destination_of segment) (λ c. received c segment) w.clients) sent k.formed
          (clients_fit (ClientFormed start) (destination_of segment) (λ c. received c segment) w.clients (λ c same f. received_formed start c segment f) k.formed.clients) all),
    )
moment_formed service start w sent after writes s k fits acked (client_moved number m) = moves_formed start w number sent after s k m
moment_formed service start w sent after writes s k fits acked (server_turned input node later brought is t e) =
    let n = k.formed.node node is in
    let went = turn_formed service start w node input sent later.stage writes s k is brought (stage_went service node later input sent t) in (
      went.1,
      subst (WorldFormed start) (sym e)
          (server_formed start w w.boot (Some later) sent k.formed went.1
          (λ x g. subst (NodeFormed start) (some_is later x g) (record { server = t.server ∙ n.server; profile = t.profile ∙ n.profile; boot = subst IsBoot (sym t.boot) n.boot; stage = went.0 }))),
    )
moment_formed service start w sent after writes s k fits acked (server_booted boot isn down larger is e) =
    let up : IsBoot boot = (omega (arith, larger.0), larger.1) in
    let all : AllByRecursion (PacketFormed start) sent = subst (AllByRecursion (PacketFormed start)) (sym is) ((up, tt), tt) in (
      all,
      subst (WorldFormed start) (sym e)
          (server_formed start w boot (Some (booted w.server w.profile boot isn)) sent k.formed all
          (λ n g. subst (NodeFormed start) (some_is (booted w.server w.profile boot isn) n g) (record { server = k.formed.server; profile = k.formed.profile; boot = up; stage = tt }))),
    )
moment_formed service start w sent after writes s k fits acked (server_down is e) =
    let all : AllByRecursion (PacketFormed start) sent = subst (AllByRecursion (PacketFormed start)) (sym is) tt in
    (all, subst (WorldFormed start) (sym e) (server_formed start w w.boot None sent k.formed all (λ n g. none_is_some n g)))

-- the start
passes_within : (p : Client → Bool) (xs : List Client) (i : ℕ) (x : Client) → slice_get xs i ≡ Some x → p x ≡ true → position_or_len p xs < length xs
passes_within p [] i x e h = none_is_some x e
passes_within p (y ∷ ys) zero x e h =
    let here : p y ≡ true = ap p (some_is y x e) ∙ h in
    holds_if (λ n. n < length (y ∷ ys)) (not (p y)) (1 + position_or_len p ys) 0 (λ t. absurd (true≢false (sym t ∙ ap not here))) (λ t. omega arith)
passes_within p (y ∷ ys) (suc i) x e h =
    let rest = passes_within p ys i x e h in
    holds_if (λ n. n < length (y ∷ ys)) (not (p y)) (1 + position_or_len p ys) 0 (λ t. omega (arith, rest)) (λ t. omega arith)

place_known : (at len : ℕ) → at < len → 0 < option_map_or (λ i. i + 1) (if nat_lt at len then Some at else None) 0
place_known at len less =
    holds_if (λ o. 0 < option_map_or (λ i. i + 1) o 0) (nat_lt at len) (Some at) None (λ t. omega arith)
    (λ t. absurd (let far = ltb-false at len t in omega (arith, less, far)))

client_known : (clients : List Client) (i : ℕ) (c : Client) → slice_get clients i ≡ Some c → 0 < number_of_client clients c.key
client_known clients i c e =
    place_known (position_or_len (λ x. key_eq x.key c.key) clients) (length clients) (passes_within (λ x. key_eq x.key c.key) clients i c e (key_is c.key))

pub world_start : (start : World) → IsStart start → WorldFormed start start
world_start start s = record {
  server = refl;
  profile = refl;
  boot = subst (λ l. l.boot < 2 ^ 64) (sym s.log) (omega arith);
  few = subst (λ l. length l.entries ≤ 64) (sym s.log) (omega arith);
  clients = all_from_get (ClientFormed start) start.clients
      (λ i c e. let x : IsNewClient start.server c = all_slice_get (IsNewClient start.server) start.clients i c s.clients e in
      record { key = ((x.ip, x.port), client_known start.clients i c e); server = ap (λ c. c.server) x.new });
  packets = subst (AllByRecursion (PacketFormed start)) (sym s.packets) tt;
  entries = subst (λ l. AllByRecursion (EntryFormed start) l.entries) (sym s.log) tt;
  node = λ n g. none_is_some n (sym s.node ∙ g);
}

script_found : (server : Addr) (clients : List Client) (o : Option Client) (key : Key) → AllByRecursion (IsNewClient server) clients
    → find (λ c. key_eq c.key key) clients ≡ o → AreBytes (script_in o) × (isn_in o < 2 ^ 32)
script_found server clients (Some c) key a e = let x = all_find (IsNewClient server) (λ c. key_eq c.key key) clients c a e in (x.bytes, x.number)
script_found server clients None key a e = (tt, omega arith)

pub start_formed : (start : World) → IsStart start → StartFormed start
start_formed start s = record {
  server = (s.ip, s.port);
  bytes = λ key. (script_found start.server start.clients (find (λ c. key_eq c.key key) start.clients) key s.clients refl).0;
  short = short_scripts start s;
  isn = λ key. (script_found start.server start.clients (find (λ c. key_eq c.key key) start.clients) key s.clients refl).1;
}

-- no client acknowledged more than a stream and its FIN
output_within : {State : Type 0} (service : Machine State) (script : Key → List ℕ) (w : World) → HasAuthor service script w → (key : Key) → logged_output service script w.log key ≤ 2 ^ 24 + 1
output_within service script w a key =
    let front = front_of a.author w.log key (entry_of key w.log) a.entries refl in
    let size = prefix_length _ _ (reads_proceed service (script key) (logged_lengths key w.log) (a.author key) front).output in
    let small = a.short key in
    let one = one_at_most (logged_run service script w.log key).closed in
    omega (arith, size, small, one)

pub entries_acked : {State : Type 0} (service : Machine State) (start w : World) → JointInvariant service start w → AllByRecursion AckedWithin w.log.entries
entries_acked service start w o =
    all_weaker (EntryBacked service (script_of start) w.log) AckedWithin w.log.entries
    (λ e h. let small = output_within service (script_of start) w o.author e.key in omega (arith, h, small)) o.backed.entries

body_acked : {State : Type 0} (service : Machine State) (script : Key → List ℕ) (w : World) → HasAuthor service script w → (body : Body) → BodyBacked service script w.log body → AckWithin body
body_acked service script w a (DataMsg part) h = let small = output_within service script w a part.key in omega (arith, h, small)
body_acked service script w a _ h = tt

pub packet_acked : {State : Type 0} (service : Machine State) (script : Key → List ℕ) (w : World) → HasAuthor service script w → (packet : Packet) → PacketBacked service script w.log packet → PacketAckWithin packet
packet_acked service script w a (To_logger m) h = body_acked service script w a m.body h
packet_acked service script w a _ h = tt

-- every joint trace
pub formed_after : {State : Type 0} (service : Machine State) → HasSmallOutputs service → WritesBytes service → (start : World) (trace : List Moment) → Joint service start trace
    → WorldFormed start (world_after start trace)
formed_after service small writes start [] j = world_start start j
formed_after service small writes start (m ∷ earlier) j =
    let w : World = world_after start earlier in
    let before = sound_after service small start earlier j.0 in
    let after = sound_after service small start (m ∷ earlier) j in
    let knows : Knows start w = record { formed = formed_after service small writes start earlier j.0; acked = entries_acked service start w before; truth = true_after service start earlier j.0 } in
    ⊎_elim
    (λ h. (moment_formed service start w m.sent m.world writes (start_formed start (start_is service start earlier j.0)) knows after.faithful.entries (entries_acked service start m.world after) h).1)
    (λ q. subst (WorldFormed start) (sym q.1) knows.formed) (happened service w m.event m.sent m.world j.1)

-- all that was ever sent has a wire
pub wires_after : {State : Type 0} (service : Machine State) → HasSmallOutputs service → WritesBytes service → (start : World) (trace : List Moment) → Joint service start trace
    → AllByRecursion (HasWireBy (grammar_of start.profile)) (world_after start trace).packets
wires_after service small writes start trace j =
    let w : World = world_after start trace in
    let s = start_is service start trace j in
    let o = sound_after service small start trace j in
    all_both (PacketFormed start) (PacketBacked service (script_of start) w.log) (HasWireBy (grammar_of start.profile)) w.packets
    (λ packet h b. packet_wire start (s.ip, s.port) packet h (packet_acked service (script_of start) w o.author packet b)) (formed_after service small writes start trace j).packets o.backed.packets

-- .. by the world's own profile, which is the start's
pub wires_here : {State : Type 0} (service : Machine State) → HasSmallOutputs service → WritesBytes service → (start : World) (trace : List Moment) → Joint service start trace
    → AllByRecursion (HasWireBy (grammar_of (world_after start trace).profile)) (world_after start trace).packets
wires_here service small writes start trace j =
    subst (λ profile. AllByRecursion (HasWireBy (grammar_of profile)) (world_after start trace).packets) (sym (formed_after service small writes start trace j).profile)
    (wires_after service small writes start trace j)

-- what was sent in a moment is after what was sent before
pub all_behind : {A : Type 0} (P : A → Type 0) (xs ys : List A) → AllByRecursion P (xs ++ ys) → AllByRecursion P ys
all_behind P [] ys a = a
all_behind P (x ∷ xs) ys a = all_behind P xs ys a.1

each_moment : {State : Type 0} (service : Machine State) (start : World) (P : Packet → Type 0)
    → ((trace : List Moment) → Joint service start trace → AllByRecursion P (world_after start trace).packets)
    → (trace : List Moment) → Joint service start trace → AllByRecursion (λ m. AllByRecursion P m.sent) trace
each_moment service start P all [] j = tt
each_moment service start P all (m ∷ earlier) j =
    let w : World = world_after start earlier in
    (all_behind P w.packets m.sent (subst (AllByRecursion P) (proceeds service m.event w m.world m.sent j.1) (all (m ∷ earlier) j)), each_moment service start P all earlier j.0)

pub sent_formed : {State : Type 0} (service : Machine State) → HasSmallOutputs service → WritesBytes service → (start : World) (trace : List Moment) → Joint service start trace
    → AllByRecursion (λ m. AllByRecursion (PacketFormed start) m.sent) trace
sent_formed service small writes start = each_moment service start (PacketFormed start) (λ trace j. (formed_after service small writes start trace j).packets)

pub wires_sent : {State : Type 0} (service : Machine State) → HasSmallOutputs service → WritesBytes service → (start : World) (trace : List Moment) → Joint service start trace
    → AllByRecursion (HasWires (grammar_of start.profile)) trace
wires_sent service small writes start = each_moment service start (HasWireBy (grammar_of start.profile)) (wires_after service small writes start)
