-- The author of the logged reads is kept by every moment of a trace.
use Rattle.std.proofs.Common.{length-append, eqb-true, leb-true, sum, ◌≡◌, ℕ, ◌+◌, ◌-◌, ◌≤◌, true, false, ◌==◌, ◌&&◌, ◌||◌, not, nat_lt, nat_le, le_refl, refl, sym, ap, ◌∙◌, subst, true≢false, inl, inr, ⊎_elim, Option, Some, None, option_to_list, List, [], ◌∷◌, ◌++◌, map, length, drop, slice_get, arith, if◌then◌else◌}
use Rattle.std.specs.List.{AllByRecursion, list_any}
use Rattle.std.proofs.lemmas.Bool.{and_parts}
use Rattle.ft_io.specs.declared.Key.{Key}
use Rattle.ft_io.specs.Key.{key_eq}
use Rattle.seq_arith.specs.Packet.{Segment, has_rst}
use Rattle.seq_arith.specs.Message.{Part, Body, Message}
use Rattle.seq_arith.specs.Message.Body.{OpenMsg, DataMsg, ReadMsg, DoneMsg}
use Rattle.server_trait.specs.Service.{Machine}
use Rattle.ft_model.specs.Client.{Client}
use Rattle.ft_model.specs.Log.{Log, Entry, entry_of, new_entry, with_part, with_read, is_next_read, with_body, log_after}
use Rattle.ft_model.specs.Network.{Packet, source_of, destination_of}
use Rattle.ft_model.specs.Network.Packet.{To_server, To_client, To_logger, From_logger}
use Rattle.ft_model.specs.Restart.{Fetched, Wanted, holding_segment, live_entry}
use Rattle.ft_model.specs.Node.{Node, is_for}
use Rattle.ft_model.specs.Lawful.{asked, held}
use Rattle.ft_model.specs.Growth.{IsPrefix, LogGrows}
use Rattle.ft_model.specs.World.{World}
use Rattle.ft_model.proofs.Lists.{all_both, all_weaker, all_map, all_append, all_find, same_key}
use Rattle.ft_model.proofs.Grows.{log_grows}
use Rattle.ft_model.proofs.LogAnswers.{LogWent, log_went, all_answers}
use Rattle.ft_model.proofs.LogAnswers.LogWent.{ignored, raised, changed}
use Rattle.ft_model.proofs.Happened.{IsUnderWay, all_sent, answers}
use Rattle.ft_model.proofs.Fenced.{IsFenced}
use Rattle.server_trait.specs.Service.{Run}
use Rattle.ft_model.specs.Growth.{logged_lengths}
use Rattle.ft_model.proofs.Authored.{ReadFits, Speaks, Follows}
use Rattle.ft_model.specs.Log.{may_follow, with_bytes, with_its_fin}
use Rattle.seq_arith.specs.Message.{Part}
use Rattle.ft_model.proofs.Keys.{front_more}
use Rattle.ft_model.proofs.Grows.{found_later, logged_lengths_grow}
use Rattle.ft_model.proofs.Resumed.{get_left}
use Rattle.ft_model.proofs.Fenced.{IsOurs, IsNoChange, HasBoot, is_change}
use Rattle.ft_model.proofs.Services.{reads_proceed, sum_append}
use Rattle.ft_model.proofs.Authored.{IsSpoken, CarriesOutput, carries_later, logged_run}
use Rattle.ft_model.proofs.FaithfulOver.{IsHeadOf}
use Rattle.ft_model.proofs.AuthorOver.{ReadOf, EntryOf, StageRuns, HasAuthor}
use Rattle.ft_io.proofs.Choices.{holds_if}

pub read_later : (author later : Key → List ℕ) → ((key : Key) → IsPrefix (author key) (later key)) → (body : Body) → ReadFits author body → ReadFits later body
read_later author later g (ReadMsg key index n) f = subst (λ l. slice_get l index ≡ Some n) (g key).1 (get_left (author key) (g key).0 index n f)
read_later author later g _ f = tt

pub packet_read_later : (author later : Key → List ℕ) (boot : ℕ) → ((key : Key) → IsPrefix (author key) (later key)) → (packet : Packet) → ReadOf author boot packet → ReadOf later boot packet
packet_read_later author later boot g (To_logger message) f = λ e. read_later author later g message.body (f e)
packet_read_later author later boot g (To_server segment) f = tt
packet_read_later author later boot g (To_client segment) f = tt
packet_read_later author later boot g (From_logger message) f = tt

body_read : (author : Key → List ℕ) (boot logged later : ℕ) (body : Body) → (is_change body ≡ true → boot ≤ logged) → logged ≤ later → (boot ≡ logged → ReadFits author body) → boot ≡ later → ReadFits author body
body_read author boot logged later (ReadMsg key index n) c l f e = let low = c refl in f (omega (arith, low, l, e))
body_read author boot logged later _ c l f e = tt

no_read : (author : Key → List ℕ) (body : Body) → is_change body ≡ false → ReadFits author body
no_read author (ReadMsg key index n) c = absurd (true≢false c)
no_read author _ c = tt

read_received : (author : Key → List ℕ) (top logged later : ℕ) → logged ≤ later → (packet : Packet) → HasBoot top logged packet → ReadOf author logged packet → ReadOf author later packet
read_received author top logged later l (To_logger message) h f = λ e. body_read author message.boot logged later message.body h.1 l f e
read_received author top logged later l (To_server segment) h f = tt
read_received author top logged later l (To_client segment) h f = tt
read_received author top logged later l (From_logger message) h f = tt

pub quiet_reads : (author : Key → List ℕ) (boot logged : ℕ) (packet : Packet) → IsOurs boot packet → IsNoChange boot packet → ReadOf author logged packet
quiet_reads author boot logged (To_logger message) o q = λ e. no_read author message.body (q o)
quiet_reads author boot logged (To_client segment) o q = tt
quiet_reads author boot logged (To_server segment) o q = tt
quiet_reads author boot logged (From_logger message) o q = tt

-- before a restart ends, no Read of its boot is under way
pub restart_reads : (author : Key → List ℕ) (boot logged : ℕ) → logged ≡ boot → (packet : Packet) → IsNoChange boot packet → ReadOf author logged packet
restart_reads author boot logged own (To_logger message) q = λ e. no_read author message.body (q (e ∙ own))
restart_reads author boot logged own (To_client segment) q = tt
restart_reads author boot logged own (To_server segment) q = tt
restart_reads author boot logged own (From_logger message) q = tt

carries_as : {State : Type 0} (run : Run State) (a b : ℕ) (segment : Segment) → b ≡ a → CarriesOutput run a segment → CarriesOutput run b segment
carries_as run a b segment e c = subst (λ n. CarriesOutput run n segment) (sym e) c

pub spoken_later : {State : Type 0} (service : Machine State) (script : Key → List ℕ) (before after : Log) → LogGrows before after → (packet : Packet) → Speaks service script before packet → Speaks service script after packet
spoken_later service script before after g (To_client segment) s = λ rst.
    let x : IsSpoken service script before (destination_of segment) segment = s rst in
    let later = found_later (destination_of segment) before.entries after.entries x.entry g.entries x.found in
    let goes = reads_proceed service (script (destination_of segment)) (logged_lengths (destination_of segment) before) (logged_lengths (destination_of segment) after) (logged_lengths_grow (destination_of segment) before after g) in
    record {
      entry = later.0;
      found = later.1;
      syn = λ y. x.syn y ∙ sym later.2.sisn;
      text = ⊎_elim (λ y. inl (carries_as (logged_run service script after (destination_of segment)) x.entry.sisn later.0.sisn segment later.2.sisn
          (carries_later (logged_run service script before (destination_of segment)) (logged_run service script after (destination_of segment)) x.entry.sisn segment goes y))) (λ y. inr y) x.text;
    }
spoken_later service script before after g (To_server segment) s = tt
spoken_later service script before after g (To_logger message) s = tt
spoken_later service script before after g (From_logger message) s = tt

pub change_all : (Q : Entry → Type 0) (key : Key) (change : Entry → Entry) (es : List Entry) → ((e : Entry) → e.key ≡ key → Q e → Q (change e)) → AllByRecursion Q es
    → AllByRecursion Q (map (λ e. if key_eq e.key key then change e else e) es)
change_all Q key change es g a =
    all_map Q (λ e. if key_eq e.key key then change e else e) es
    (all_weaker Q _ es (λ e p. holds_if Q (key_eq e.key key) (change e) e (λ t. g e (same_key e.key key t) p) (λ t. p)) a)

part_of_author : (author : Key → List ℕ) (part : Part) (e : Entry) → EntryOf author e → EntryOf author (with_part part e)
part_of_author author part e f =
    let x : Entry = with_bytes part e in
    let bytes : EntryOf author x =
    holds_if (EntryOf author) (e.fin || nat_lt (length e.bytes) part.offset) e (record e { bytes = e.bytes ++ drop (length e.bytes - part.offset) part.bytes }) (λ t. f)
    (λ t. let more = length-append e.bytes (drop (length e.bytes - part.offset) part.bytes) in (f.0, omega (arith, f.1, more))) in
    let fin : EntryOf author (with_its_fin part x) =
    holds_if (EntryOf author) (part.fin && part.offset + length part.bytes == length x.bytes) (record x { fin = true }) x (λ t. bytes) (λ t. bytes) in
    fin

read_of_author : (author : Key → List ℕ) (key : Key) (index n : ℕ) (e : Entry) → e.key ≡ key → slice_get (author key) index ≡ Some n → EntryOf author e → EntryOf author (with_read index n e)
read_of_author author key index n e k r f =
    holds_if (EntryOf author) (is_next_read e index n) (record e { lengths = e.lengths ++ n ∷ [] }) e
    (λ t. let parts = and_parts (index == length e.lengths) (may_follow (length e.bytes) e.fin e.lengths n) t in
    let at : index ≡ length e.lengths = eqb-true _ _ parts.0 in
    let two = and_parts (not (list_any (λ k. k == 0) e.lengths) && nat_le (sum e.lengths + n) (length e.bytes)) (nat_lt 0 n || (e.fin && sum e.lengths == length e.bytes)) parts.1 in
    let enough : sum e.lengths + n ≤ length e.bytes = leb-true _ _ (and_parts (not (list_any (λ k. k == 0) e.lengths)) (nat_le (sum e.lengths + n) (length e.bytes)) two.0).1 in
    let total = sum_append e.lengths n in
    let here : slice_get (e.lengths ++ f.0.0) (length e.lengths) ≡ Some n =
    subst (λ l. slice_get l (length e.lengths) ≡ Some n) (sym f.0.1) (subst (λ m. slice_get (author e.key) m ≡ Some n) at (subst (λ x. slice_get (author x) index ≡ Some n) (sym k) r)) in
    (subst (IsPrefix (e.lengths ++ n ∷ [])) f.0.1 (front_more e.lengths f.0.0 n here), omega (arith, enough, total))) (λ t. f)

kept_of_author : (author : Key → List ℕ) (body : Body) (log : Log) → ReadFits author body → AllByRecursion (EntryOf author) log.entries → AllByRecursion (EntryOf author) (with_body body log).entries
kept_of_author author (OpenMsg n) log r a =
    holds_if (λ l. AllByRecursion (EntryOf author) l.entries) (list_any (λ e. key_eq e.key n.key) log.entries || nat_le 64 (length log.entries)) log
    (record log { entries = log.entries ++ new_entry n ∷ [] }) (λ t. a)
    (λ t. all_append (EntryOf author) log.entries (new_entry n ∷ []) a (((author n.key, refl), le_refl 0), tt))
kept_of_author author (DataMsg part) log r a = change_all (EntryOf author) part.key (with_part part) log.entries (λ e k f. part_of_author author part e f) a
kept_of_author author (ReadMsg key index n) log r a = change_all (EntryOf author) key (with_read index n) log.entries (λ e k f. read_of_author author key index n e k r f) a
kept_of_author author (DoneMsg key) log r a = change_all (EntryOf author) key (λ e. record e { done = true }) log.entries (λ e k f. f) a
kept_of_author author _ log r a = a

entries_of : (author : Key → List ℕ) (log : Log) (message : Message) (after : Log) → LogWent log message after → ReadOf author log.boot (To_logger message)
    → AllByRecursion (EntryOf author) log.entries → AllByRecursion (EntryOf author) after.entries
entries_of author log message after (ignored e) r a = subst (λ l. AllByRecursion (EntryOf author) l.entries) (sym e) a
entries_of author log message after (raised h b e) r a = subst (λ l. AllByRecursion (EntryOf author) l.entries) (sym e) a
entries_of author log message after (changed b e) r a = subst (λ l. AllByRecursion (EntryOf author) l.entries) (sym e) (kept_of_author author message.body log (r b) a)

pub received_author : {State : Type 0} (service : Machine State) (script : Key → List ℕ) (w : World) (message : Message) → IsFenced w → HasAuthor service script w → IsUnderWay w (To_logger message)
    → HasAuthor service script (record w { log = log_after w.log message; packets = w.packets ++ answers w.log message })
received_author service script w message f a under =
    let g : LogGrows w.log (log_after w.log message) = log_grows w.log message in
    let later : ℕ = (log_after w.log message).boot in
    record {
      author = a.author;
      entries = entries_of a.author w.log message (log_after w.log message) (log_went w.log message) (all_sent (ReadOf a.author w.log.boot) w (To_logger message) a.reads under) a.entries;
      short = a.short;
      reads = all_append (ReadOf a.author later) w.packets (answers w.log message)
          (all_both (HasBoot w.boot w.log.boot) (ReadOf a.author w.log.boot) (ReadOf a.author later) w.packets (read_received a.author w.boot w.log.boot later g.boot) f.packets a.reads)
          (all_answers (ReadOf a.author later) w.log message (λ body x. tt));
      spoken = all_append (Speaks service script (log_after w.log message)) w.packets (answers w.log message)
          (all_weaker (Speaks service script w.log) _ w.packets (spoken_later service script w.log (log_after w.log message) g) a.spoken)
          (all_answers (Speaks service script (log_after w.log message)) w.log message (λ body x. tt));
      stage = a.stage;
    }

-- packets that no connection sends
pub author_still : {State : Type 0} (service : Machine State) (script : Key → List ℕ) (w : World) (clients : List Client) (boot : ℕ) (up : Option Node) (sent : List Packet) → (a : HasAuthor service script w)
    → AllByRecursion (ReadOf a.author w.log.boot) sent → AllByRecursion (Speaks service script w.log) sent → ((n : Node) → up ≡ Some n → StageRuns service a.author n.stage)
    → HasAuthor service script (record w { clients = clients; boot = boot; node = up; packets = w.packets ++ sent })
author_still service script w clients boot up sent a r s stage = record {
  author = a.author;
  entries = a.entries;
  short = a.short;
  reads = all_append (ReadOf a.author w.log.boot) w.packets sent a.reads r;
  spoken = all_append (Speaks service script w.log) w.packets sent a.spoken s;
  stage = stage;
}

pub asked_speaks : {State : Type 0} (service : Machine State) (script : Key → List ℕ) (log : Log) (node : Node) (w : Option Wanted) → AllByRecursion (Speaks service script log) (asked node w)
asked_speaks service script log node (Some w) = (tt, tt)
asked_speaks service script log node None = tt

one_holds : {State : Type 0} (service : Machine State) (script : Key → List ℕ) (log : Log) (node : Node) (o : Option Fetched) → ((f : Fetched) → o ≡ Some f → IsHeadOf log f)
    → AllByRecursion (Speaks service script log) (map (λ f. To_client (holding_segment node.server f.head)) (option_to_list o))
one_holds service script log node (Some f) g =
    let h : IsHeadOf log f = g f refl in
    let same : f.head.key ≡ h.0.key = ap (λ x. x.key) h.2 in
    ((λ rst. record { entry = h.0; found = ap (λ k. entry_of k log) same ∙ h.1; syn = λ x. absurd (true≢false (sym x)); text = inr (refl, refl) }), tt)
one_holds service script log node None g = tt

pub held_speaks : {State : Type 0} (service : Machine State) (script : Key → List ℕ) (log : Log) (node : Node) (fetched : List Fetched) (segment : Segment) → AllByRecursion (IsHeadOf log) fetched
    → AllByRecursion (Speaks service script log) (held node fetched segment)
held_speaks service script log node fetched segment heads =
    holds_if (AllByRecursion (Speaks service script log)) (is_for node.server segment && not (has_rst segment))
    (map (λ f. To_client (holding_segment node.server f.head)) (option_to_list (live_entry (source_of segment) fetched))) []
    (λ t. one_holds service script log node (live_entry (source_of segment) fetched)
    (λ f e. all_find (IsHeadOf log) (λ x. key_eq x.head.key (source_of segment) && not x.head.done) fetched f heads e)) (λ t. tt)

pub follows_read : {State : Type 0} (service : Machine State) (script author : Key → List ℕ) (log : Log) (boot : ℕ) (packet : Packet) → Follows service script author log packet → ReadOf author boot packet
follows_read service script author log boot (To_logger message) f = λ e. f
follows_read service script author log boot (To_client segment) f = tt
follows_read service script author log boot (To_server segment) f = tt
follows_read service script author log boot (From_logger message) f = tt

pub follows_speaks : {State : Type 0} (service : Machine State) (script author : Key → List ℕ) (log : Log) (packet : Packet) → Follows service script author log packet → Speaks service script log packet
follows_speaks service script author log (To_client segment) f = f
follows_speaks service script author log (To_logger message) f = tt
follows_speaks service script author log (To_server segment) f = tt
follows_speaks service script author log (From_logger message) f = tt
