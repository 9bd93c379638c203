-- .. in every joint trace: so all that a client is told to be received is logged, and what is logged is its script's front.
use Rattle.tcp_rules.specs.declared.timestamping.Timestamping.{Timestamping}
use Rattle.std.proofs.Common.{◌≡◌, ℕ, ◌≤◌, ◌^◌, pos, int_lt, true, ◌==◌, ◌&&◌, ◌||◌, not, nat_lt, nat_le, refl, sym, ap, ◌∙◌, subst, true≢false, ⊎_elim, Option, Some, None, List, [], ◌∷◌, ◌++◌, map, length, arith, if◌then◌else◌}
use Rattle.std.specs.List.{AllByRecursion, list_any}
use Rattle.std.proofs.lemmas.Bool.{and_parts}
use Rattle.ft_io.specs.declared.Addr.{Addr}
use Rattle.ft_io.specs.declared.Key.{Key}
use Rattle.ft_io.specs.Key.{key_eq}
use Rattle.tcp_rules.specs.Profile.{Profile}
use Rattle.seq_arith.specs.Number.{number_at}
use Rattle.tcp_rules.specs.Arrival.{int_eq}
use Rattle.seq_arith.specs.Packet.{Segment, has_syn, has_rst, has_ack}
use Rattle.seq_arith.specs.Message.{Numbers, Body, Message}
use Rattle.seq_arith.specs.Message.Body.{OpenMsg, DataMsg, ReadMsg, DoneMsg}
use Rattle.server_trait.specs.Service.{Machine}
use Rattle.ft_model.specs.Offset.{first_of, ack_of}
use Rattle.ft_model.specs.Client.{Client, received, opened_by, arrived, used, may_use, with_ack, with_added, came, is_opening, is_open, next_of}
use Rattle.ft_model.specs.declared.phase.Phase.TheVariants as phases
use Rattle.ft_model.specs.Log.{Log, Entry, new_entry, opened, with_part, with_read, is_next_read, with_body, log_after}
use Rattle.ft_model.specs.Network.{Packet, source_of}
use Rattle.ft_model.specs.Network.Packet.{To_server, To_client, To_logger, From_logger}
use Rattle.ft_model.specs.Point.{Point}
use Rattle.ft_model.specs.News.{News}
use Rattle.ft_model.specs.News.News.{Comes, Logged, Ticks, Begins}
use Rattle.ft_model.specs.Opening.{is_syn, numbers_for, point_opened, timestamping_for}
use Rattle.ft_model.specs.Refusal.{as_listen, as_closed, rst_at_ack, rst_behind, full_rst}
use Rattle.ft_model.specs.Restart.{Wanted}
use Rattle.ft_model.specs.Restart.Wanted.{An_entry, Its_bytes, Its_lengths}
use Rattle.ft_model.specs.Node.{Node, Place, Stage, Input, pending_count}
use Rattle.ft_model.specs.Node.Place.{Opens, Lives}
use Rattle.ft_model.specs.Node.Stage.{Asking, Fetching, Serving, Fenced}
use Rattle.ft_model.specs.Node.Input.{Packet_comes, Message_comes, Noise_comes, Tick_comes}
use Rattle.ft_model.specs.ServingTurn.{newcomers, refusals, is_strange}
use Rattle.ft_model.specs.Lawful.{asked}
use Rattle.ft_model.specs.Growth.{LogGrows}
use Rattle.ft_model.specs.World.{World, with_client}
use Rattle.ft_model.proofs.Lists.{all_weaker, all_map, all_append, same_key}
use Rattle.ft_model.proofs.Grows.{log_grows, part_grows, read_grows}
use Rattle.ft_model.proofs.LogAnswers.{LogWent, log_went, all_answers}
use Rattle.ft_model.proofs.LogAnswers.LogWent.{ignored, raised, changed}
use Rattle.ft_model.proofs.Happened.{IsBrought, IsUnderWay, all_sent, answers}
use Rattle.ft_model.proofs.PlaceTurns.{PlaceWent, IsNews}
use Rattle.ft_model.proofs.PlaceTurns.PlaceWent.{stayed, went_on, began, dropped, ended, refused}
use Rattle.ft_model.proofs.Stands.{nothing_first}
use Rattle.ft_model.proofs.Scripts.{FitsScript, PartFits, EntryFits, NewsFits, nothing_held, entry_fits}
use Rattle.ft_model.proofs.Faithful.{HasEntry, BodyFits, AnswerFits, PacketFits, PlaceFits, StageFits, EntriesFit, IsFit, NewsKnown, place_later, packet_later, reported_fits, units_within, connection_fits}
use Rattle.ft_io.proofs.Choices.{holds_if}

abbrev pub ClientFits : (Key → List ℕ) → (Key → ℕ) → Client → Type 0
ClientFits script isn c = (c.script ≡ script c.key) × (c.isn ≡ isn c.key) × (length c.script ≤ 2 ^ 24)

pub record IsFaithful (script : Key → List ℕ) (isn : Key → ℕ) (w : World) : Type 0 where
  pub clients : AllByRecursion (ClientFits script isn) w.clients
  pub packets : AllByRecursion (PacketFits script isn w.log) w.packets
  pub entries : EntriesFit script isn w.log.entries
  pub stage : (node : Node) → w.node ≡ Some node → StageFits script isn w.log node.stage

-- a client keeps its kind, its name, its number and its script
pub record IsSameClient (before after : Client) : Type 0 where
  pub kind : after.kind ≡ before.kind
  pub key : after.key ≡ before.key
  pub isn : after.isn ≡ before.isn
  pub script : after.script ≡ before.script

same_client : (c : Client) → IsSameClient c c
same_client c = record { kind = refl; key = refl; isn = refl; script = refl }

used_same : (c : Client) (segment : Segment) → IsSameClient c (used c segment)
used_same c segment =
    holds_if (IsSameClient c) (int_lt (pos c.sent) (ack_of c.isn segment)) c (with_added (with_ack c (ack_of c.isn segment)) (came c segment)) (λ t. same_client c)
    (λ t. record { kind = refl; key = refl; isn = refl; script = refl })

arrived_same : (c : Client) (segment : Segment) → IsSameClient c (arrived c segment)
arrived_same c segment =
    let gone : Client = record c { phase = phases.Reset } in
    let rst : Client = if int_eq (first_of c.sisn segment) (pos (next_of c)) then gone else c in
    let other : Client = if has_syn segment || not (has_ack segment) then c else used c segment in
    holds_if (IsSameClient c) (may_use c segment) (if has_rst segment then rst else other) c
    (λ t. holds_if (IsSameClient c) (has_rst segment) rst other
    (λ r. holds_if (IsSameClient c) (int_eq (first_of c.sisn segment) (pos (next_of c))) gone c (λ x. record { kind = refl; key = refl; isn = refl; script = refl }) (λ x. same_client c))
    (λ r. holds_if (IsSameClient c) (has_syn segment || not (has_ack segment)) c (used c segment) (λ x. same_client c) (λ x. used_same c segment)))
    (λ t. same_client c)

opened_same : (c : Client) (segment : Segment) → IsSameClient c (opened_by c segment)
opened_same c segment =
    let gone : Client = record c { phase = phases.Reset } in
    let stands : Client = record c { phase = phases.Established; sisn = segment.head.seq } in
    holds_if (IsSameClient c) (has_ack segment && segment.head.ack == number_at c.isn 0) (if has_rst segment then gone else (if has_syn segment then stands else c)) c
    (λ t. holds_if (IsSameClient c) (has_rst segment) gone (if has_syn segment then stands else c) (λ r. record { kind = refl; key = refl; isn = refl; script = refl })
    (λ r. holds_if (IsSameClient c) (has_syn segment) stands c (λ x. record { kind = refl; key = refl; isn = refl; script = refl }) (λ x. same_client c)))
    (λ t. same_client c)

pub received_same : (c : Client) (segment : Segment) → IsSameClient c (received c segment)
received_same c segment =
    holds_if (IsSameClient c) (is_opening c.phase) (opened_by c segment) _ (λ t. opened_same c segment)
    (λ t. holds_if (IsSameClient c) (is_open c.phase) (arrived c segment) c (λ x. arrived_same c segment) (λ x. same_client c))

pub client_fits : (script : Key → List ℕ) (isn : Key → ℕ) (c d : Client) → IsSameClient c d → ClientFits script isn c → ClientFits script isn d
client_fits script isn c d s f =
    (s.script ∙ (f.0 ∙ ap script (sym s.key)), s.isn ∙ (f.1 ∙ ap isn (sym s.key)), subst (λ l. length l ≤ 2 ^ 24) (sym s.script) f.2)

-- a change of the clients of a key
pub clients_fit : (P : Client → Type 0) (key : Key) (change : Client → Client) (clients : List Client)
    → ((c : Client) → c.key ≡ key → P c → P (change c)) → AllByRecursion P clients → AllByRecursion P (with_client key change clients)
clients_fit P key change clients g a =
    all_map P (λ c. if key_eq c.key key then change c else c) clients
    (all_weaker P _ clients (λ c p. holds_if P (key_eq c.key key) (change c) c (λ t. g c (same_key c.key key t) p) (λ t. p)) a)

entry_changes : (script : Key → List ℕ) (isn : Key → ℕ) (key : Key) (change : Entry → Entry) (es : List Entry)
    → ((e : Entry) → e.key ≡ key → EntryFits (script e.key) (isn e.key) e → EntryFits (script (change e).key) (isn (change e).key) (change e))
    → EntriesFit script isn es → EntriesFit script isn (map (λ e. if key_eq e.key key then change e else e) es)
entry_changes script isn key change es g a =
    all_map (λ e. EntryFits (script e.key) (isn e.key) e) (λ e. if key_eq e.key key then change e else e) es
    (all_weaker (λ e. EntryFits (script e.key) (isn e.key) e) _ es
    (λ e p. holds_if (λ x. EntryFits (script x.key) (isn x.key) x) (key_eq e.key key) (change e) e (λ t. g e (same_key e.key key t) p) (λ t. p)) a)

opened_entries : (script : Key → List ℕ) (isn : Key → ℕ) (n : Numbers) (log : Log) → n.cisn ≡ isn n.key → EntriesFit script isn log.entries
    → EntriesFit script isn (opened n log).entries
opened_entries script isn n log c a =
    holds_if (λ l. EntriesFit script isn l.entries) (list_any _ log.entries || nat_le 64 (length log.entries)) log (record log { entries = log.entries ++ new_entry n ∷ [] }) (λ t. a)
    (λ t. all_append (λ e. EntryFits (script e.key) (isn e.key) e) log.entries (new_entry n ∷ []) a
    (record { front = nothing_first (script n.key); fin = λ k. absurd (true≢false (sym k)); cisn = c }, tt))

read_fits : (script : List ℕ) (isn : ℕ) (index n : ℕ) (e : Entry) → EntryFits script isn e → EntryFits script isn (with_read index n e)
read_fits script isn index n e f =
    holds_if (EntryFits script isn) (is_next_read e index n) _ e (λ t. record { front = f.front; fin = f.fin; cisn = f.cisn }) (λ t. f)

kept_entries : (script : Key → List ℕ) (isn : Key → ℕ) (body : Body) (log : Log) → BodyFits script isn body → EntriesFit script isn log.entries
    → EntriesFit script isn (with_body body log).entries
kept_entries script isn (OpenMsg n) log f a = opened_entries script isn n log f a
kept_entries script isn (DataMsg part) log f a =
    entry_changes script isn part.key (with_part part) log.entries
    (λ e k p. subst (λ x. EntryFits (script x) (isn x) (with_part part e)) (sym (part_grows part e).key)
    (entry_fits (script e.key) (isn e.key) part e (subst (λ x. PartFits (script x) part) (sym k) f) p)) a
kept_entries script isn (ReadMsg key index n) log f a =
    entry_changes script isn key (with_read index n) log.entries
    (λ e k p. subst (λ x. EntryFits (script x) (isn x) (with_read index n e)) (sym (read_grows index n e).key) (read_fits (script e.key) (isn e.key) index n e p)) a
kept_entries script isn (DoneMsg key) log f a =
    entry_changes script isn key (λ e. record e { done = true }) log.entries (λ e k p. record { front = p.front; fin = p.fin; cisn = p.cisn }) a
kept_entries script isn _ log f a = a

entries_after : (script : Key → List ℕ) (isn : Key → ℕ) (log : Log) (message : Message) (after : Log) → LogWent log message after → BodyFits script isn message.body
    → EntriesFit script isn log.entries → EntriesFit script isn after.entries
entries_after script isn log message after (ignored e) f a = subst (λ l. EntriesFit script isn l.entries) (sym e) a
entries_after script isn log message after (raised h b e) f a = subst (λ l. EntriesFit script isn l.entries) (sym e) a
entries_after script isn log message after (changed b e) f a = subst (λ l. EntriesFit script isn l.entries) (sym e) (kept_entries script isn message.body log f a)

stage_later : (script : Key → List ℕ) (isn : Key → ℕ) (before after : Log) (stage : Stage) → LogGrows before after → StageFits script isn before stage → StageFits script isn after stage
stage_later script isn before after (Serving opened places) g f = all_weaker (PlaceFits script isn before) (PlaceFits script isn after) places (place_later script isn before after g) f
stage_later script isn before after Asking g f = tt
stage_later script isn before after (Fetching count fetched) g f = tt
stage_later script isn before after (Fenced newer) g f = tt

pub received_faithful : (script : Key → List ℕ) (isn : Key → ℕ) (w : World) (message : Message) → IsFaithful script isn w → IsUnderWay w (To_logger message)
    → IsFaithful script isn (record w { log = log_after w.log message; packets = w.packets ++ answers w.log message })
received_faithful script isn w message f under =
    let came : BodyFits script isn message.body = all_sent (PacketFits script isn w.log) w (To_logger message) f.packets under in
    let g : LogGrows w.log (log_after w.log message) = log_grows w.log message in
    record {
      clients = f.clients;
      packets = all_append (PacketFits script isn (log_after w.log message)) w.packets (answers w.log message)
          (all_weaker (PacketFits script isn w.log) _ w.packets (packet_later script isn w.log (log_after w.log message) g) f.packets)
          (all_answers (PacketFits script isn (log_after w.log message)) w.log message
          (λ body a. ⊎_elim (λ s. subst (AnswerFits (log_after w.log message)) (sym s) tt) (λ o. reported_fits message.body (log_after w.log message) body o.1) a));
      entries = entries_after script isn w.log message (log_after w.log message) (log_went w.log message) came f.entries;
      stage = λ node e. stage_later script isn w.log (log_after w.log message) node.stage g (f.stage node e);
    }

pub rst_fits : (script : Key → List ℕ) (isn : Key → ℕ) (log : Log) (segment : Segment) → has_rst segment ≡ true → IsFit script isn log (To_client segment)
rst_fits script isn log segment r = (tt, λ a n. absurd (true≢false (sym r ∙ n)))

pub listen_fits : (script : Key → List ℕ) (isn : Key → ℕ) (log : Log) (node : Node) (input : Input) (places : List Place)
    → AllByRecursion (IsFit script isn log) (refusals node input places)
listen_fits script isn log node (Packet_comes segment) places =
    holds_if (AllByRecursion (IsFit script isn log)) (is_strange node segment places) (map To_client (as_listen node.server segment)) []
    (λ t. holds_if (λ x. AllByRecursion (IsFit script isn log) (map To_client x)) (has_ack segment && not (has_rst segment)) (rst_at_ack node.server segment ∷ []) []
    (λ t. (rst_fits script isn log (rst_at_ack node.server segment) refl, tt)) (λ t. tt)) (λ t. tt)
listen_fits script isn log node (Message_comes message) places = tt
listen_fits script isn log node Noise_comes places = tt
listen_fits script isn log node Tick_comes places = tt

closed_fits : (script : Key → List ℕ) (isn : Key → ℕ) (log : Log) (server : Addr) (segment : Segment)
    → AllByRecursion (IsFit script isn log) (map To_client (as_closed server segment))
closed_fits script isn log server segment =
    holds_if (λ x. AllByRecursion (IsFit script isn log) (map To_client x)) (has_rst segment) [] _ (λ t. tt)
    (λ t. holds_if (λ x. AllByRecursion (IsFit script isn log) (map To_client x)) (has_ack segment) (rst_at_ack server segment ∷ []) (rst_behind server segment ∷ [])
    (λ s. (rst_fits script isn log (rst_at_ack server segment) refl, tt)) (λ s. (rst_fits script isn log (rst_behind server segment) refl, tt)))

pub asked_fits : (script : Key → List ℕ) (isn : Key → ℕ) (log : Log) (node : Node) (w : Option Wanted) → AllByRecursion (IsFit script isn log) (asked node w)
asked_fits script isn log node (Some (An_entry index)) = ((tt, tt), tt)
asked_fits script isn log node (Some (Its_bytes key offset)) = ((tt, tt), tt)
asked_fits script isn log node (Some (Its_lengths key first)) = ((tt, tt), tt)
asked_fits script isn log node None = tt

-- what an input brings fits
abbrev pub InputFits : (Key → List ℕ) → (Key → ℕ) → Log → Input → Type 0
InputFits script isn log (Packet_comes segment) = FitsScript (script (source_of segment)) (isn (source_of segment)) segment
InputFits script isn log (Message_comes message) = AnswerFits log message.body
InputFits script isn log _ = Unit {0}

pub input_fits : (script : Key → List ℕ) (isn : Key → ℕ) (w : World) (input : Input) → AllByRecursion (PacketFits script isn w.log) w.packets → IsBrought w input → InputFits script isn w.log input
input_fits script isn w (Packet_comes segment) a b = all_sent (PacketFits script isn w.log) w (To_server segment) a b
input_fits script isn w (Message_comes message) a b = all_sent (PacketFits script isn w.log) w (From_logger message) a b
input_fits script isn w Noise_comes a b = tt
input_fits script isn w Tick_comes a b = tt

pub news_fit : (script : Key → List ℕ) (isn : Key → ℕ) (log : Log) (node : Node) (input : Input) (news : News) (p : Point) → InputFits script isn log input → IsNews node input news p
    → NewsFits (script p.key) (isn p.key) news × NewsKnown log p news
news_fit script isn log node input (Comes segment) p f n =
    (subst (λ k. FitsScript (script k) (isn k) segment) n.1 (subst (InputFits script isn log) n.0 f), tt)
news_fit script isn log node input (Logged kept) p f n =
    let reported : AnswerFits log n.0.body = subst (InputFits script isn log) n.1 f in
    (tt, (⊎_elim (λ s. subst (AnswerFits log) s reported) (λ s. subst (AnswerFits log) s reported) n.4, n.3))
news_fit script isn log node input Ticks p f n = (tt, tt)
news_fit script isn log node input Begins p f n = absurd n

pub opened_point : (profile : Profile) (timestamping : Timestamping) (script : Key → List ℕ) (isn : Key → ℕ) (log : Log) (kept : Numbers) → EntriesFit script isn log.entries → HasEntry log kept → PlaceFits script isn log (Lives (point_opened profile timestamping kept))
opened_point profile timestamping script isn log kept entries h =
    let within = units_within script isn log kept.key h.0 entries h.1 in (
      nothing_held (script kept.key) (isn kept.key) (point_opened profile timestamping kept) (nothing_first (script kept.key)) (λ k. absurd (true≢false (sym k))) refl (omega arith) (sym h.2 ∙ within.0.cisn),
      record { entry = h.0; found = h.1; sisn = h.3; answered = omega arith; reads = omega arith },
    )

pub place_fits : {State : Type 0} (service : Machine State) (script : Key → List ℕ) (isn : Key → ℕ) (log : Log) (node : Node) (input : Input)
    → ((k : Key) → length (script k) ≤ 2 ^ 24) → EntriesFit script isn log.entries → InputFits script isn log input
    → (place : Place) (now : List Place) (sent : List Packet) → PlaceFits script isn log place → PlaceWent service node input place now sent
    → AllByRecursion (PlaceFits script isn log) now × AllByRecursion (IsFit script isn log) sent
place_fits service script isn log node input short entries i place now sent f (stayed n s) =
    (subst (AllByRecursion (PlaceFits script isn log)) (sym n) (f, tt), subst (AllByRecursion (IsFit script isn log)) (sym s) tt)
place_fits service script isn log node input short entries i place now sent f (went_on news p after e w n t) =
    let nf = news_fit script isn log node input news p i w in
    let c = connection_fits service node.server script isn log node.boot news p after sent short entries nf.0 nf.1 (subst (PlaceFits script isn log) e f) t in
    (subst (AllByRecursion (PlaceFits script isn log)) (sym n) (c.0, tt), c.1)
place_fits service script isn log node input short entries i place now sent f (began asked kept timestamping after e h n t) =
    let reported : AnswerFits log h.message.body = subst (InputFits script isn log) h.comes i in
    let has : HasEntry log kept = subst (AnswerFits log) h.body reported in
    let c = connection_fits service node.server script isn log node.boot Begins (point_opened node.profile timestamping kept) after sent short entries tt tt (opened_point node.profile timestamping script isn log kept entries has) t in
    (subst (AllByRecursion (PlaceFits script isn log)) (sym n) (c.0, tt), c.1)
place_fits service script isn log node input short entries i place now sent f (dropped asked timestamping e d n s) = (
  subst (AllByRecursion (PlaceFits script isn log)) (sym n) tt,
  ⊎_elim (λ x. subst (AllByRecursion (IsFit script isn log)) (sym x) tt)
      (λ x. subst (AllByRecursion (IsFit script isn log)) (sym x) (rst_fits script isn log (full_rst node.server asked) refl, tt)) s,
)
place_fits service script isn log node input short entries i place now sent f (ended p e h n s) =
    (subst (AllByRecursion (PlaceFits script isn log)) (sym n) (tt, tt), subst (AllByRecursion (IsFit script isn log)) (sym s) tt)
place_fits service script isn log node input short entries i place now sent f (refused key segment e c k n s) =
    (subst (AllByRecursion (PlaceFits script isn log)) (sym n) (tt, tt), subst (AllByRecursion (IsFit script isn log)) (sym s) (closed_fits script isn log node.server segment))

pub new_fits : (script : Key → List ℕ) (isn : Key → ℕ) (log : Log) (node : Node) (input : Input) (opened : ℕ) (places : List Place) → InputFits script isn log input
    → AllByRecursion (PlaceFits script isn log) (newcomers node input opened places)
new_fits script isn log node (Packet_comes segment) opened places i =
    holds_if (AllByRecursion (PlaceFits script isn log)) (is_strange node segment places && is_syn segment && nat_lt (pending_count places) 64)
    (Opens (numbers_for node.profile node.isn opened segment) (timestamping_for node.profile segment) ∷ []) []
    (λ t. let one = and_parts (is_strange node segment places && is_syn segment) (nat_lt (pending_count places) 64) t in
    let two = and_parts (is_strange node segment places) (is_syn segment) one.0 in
    let three = and_parts (has_syn segment && not (has_ack segment)) (not (has_rst segment)) two.1 in
    (i.syn (and_parts (has_syn segment) (not (has_ack segment)) three.0).0, tt)) (λ t. tt)
new_fits script isn log node (Message_comes message) opened places i = tt
new_fits script isn log node Noise_comes opened places i = tt
new_fits script isn log node Tick_comes opened places i = tt
