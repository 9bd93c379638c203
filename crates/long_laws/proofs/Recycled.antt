-- The invariants are preserved when the log recycles the entry of a connection that is done.
use Rattle.std.proofs.Common.{◌≡◌, ◌⊎◌, inl, ℕ, ◌<◌, ◌≤◌, ◌^◌, Bool, true, false, refl, sym, ◌∙◌, le_trans, List, [], length, arith, if◌then◌else◌}
use Rattle.std.specs.List.{AllByRecursion}
use Rattle.ft_io.specs.declared.Key.{Key}
use Rattle.ft_io.specs.Key.{key_eq}
use Rattle.seq_arith.specs.Message.{Body}
use Rattle.seq_arith.specs.Message.Body.{StaleMsg}
use Rattle.server_trait.specs.Service.{Machine, reference}
use Rattle.ft_model.specs.Log.{Log, Entry, entry_of}
use Rattle.ft_model.specs.Masked.{is_restarting}
use Rattle.ft_model.specs.Network.{Packet}
use Rattle.ft_model.specs.Network.Packet.{To_server, To_client, To_logger, From_logger}
use Rattle.ft_model.specs.Node.{Node, Place, Stage, key_of}
use Rattle.ft_model.specs.Node.Place.{Opens, Lives, Ended}
use Rattle.ft_model.specs.Node.Stage.{Asking, Fetching, Serving, Fenced}
use Rattle.ft_model.specs.World.{World}
use Rattle.ft_model.proofs.Asked.{Agrees, StageAgrees}
use Rattle.ft_model.proofs.Authored.{Speaks, PlaceRuns}
use Rattle.ft_model.proofs.AuthorOver.{ReadOf, EntryOf, StageRuns}
use Rattle.ft_model.proofs.AuthorTurns.{OnlySettled, is_settled}
use Rattle.ft_model.proofs.Backed.{PacketBacked, EntryBacked, PlaceBacked, StageBacked}
use Rattle.ft_model.proofs.Faithful.{PacketFits, PlaceFits, StageFits}
use Rattle.ft_model.proofs.FaithfulKept.{ClientFits}
use Rattle.ft_model.proofs.Fenced.{HasBoot, IsNoChange, IsLogged, is_stale}
use Rattle.ft_model.proofs.Fetching.{AgreesWith}
use Rattle.ft_model.proofs.Lists.{all_both}
use Rattle.ft_model.proofs.Scripts.{EntryFits}
use Rattle.ft_model.proofs.Seen.{IsSeen}
use Rattle.ft_model.proofs.Services.{prefix_length, reads_proceed}
use Rattle.ft_model.proofs.ReportedLast.{WasReported}
use Rattle.ft_model.proofs.ReportedOver.{StageReported}
use Rattle.ft_io.proofs.Choices.{holds_if, if_false}
use Rattle.long_laws.specs.LongTrace.{others, concerns, places_at, IsEnded, without_entry, recycled, MayRecycle}
use Rattle.long_laws.proofs.Others.{all_others, find_others, distinct_others, last_others}
use Rattle.long_laws.proofs.Elsewhere.{packet_fits, place_fits, speaks, packet_backed, entry_backed, place_backed, client_sees, entry_of_author, read_of_author, place_runs}
use Rattle.long_laws.proofs.Stands.{Stands, AreSame}

-- the reads of the key are nobody's any more
abbrev pub author_without : Key → (Key → List ℕ) → Key → List ℕ
author_without key author k = if key_eq k key then [] else author k

pub author_elsewhere : (key : Key) (author : Key → List ℕ) (k : Key) → key_eq k key ≡ false → author k ≡ author_without key author k
author_elsewhere key author k a = sym (if_false (key_eq k key) [] (author k) a)

-- where a run's output is within the stream's limit, so is the output before its first read
pub nothing_made : {State : Type 0} (service : Machine State) (bytes lengths script : List ℕ) → length (reference service bytes lengths).output ≤ 2 ^ 24
    → length (reference service script []).output ≤ 2 ^ 24
unfolding reference
nothing_made service bytes lengths script short =
    let more : length service.greeting ≤ length (reference service bytes lengths).output =
    prefix_length service.greeting (reference service bytes lengths).output (reads_proceed service bytes [] lengths (lengths, refl)).output in
    le_trans more short

pub short_without : {State : Type 0} (service : Machine State) (script : Key → List ℕ) (key : Key) (author : Key → List ℕ)
    → ((k : Key) → length (reference service (script k) (author k)).output ≤ 2 ^ 24) → (k : Key) → length (reference service (script k) (author_without key author k)).output ≤ 2 ^ 24
short_without service script key author short k =
    holds_if (λ l. length (reference service (script k) l).output ≤ 2 ^ 24) (key_eq k key) [] (author k) (λ t. nothing_made service (script k) (author k) (script k) (short k)) (λ t. short k)

pub only_without : (key : Key) (author : Key → List ℕ) (places : List Place) → OnlySettled author places → OnlySettled (author_without key author) places
only_without key author places only k =
    holds_if (λ l. (l ≡ []) ⊎ (is_settled k places ≡ true)) (key_eq k key) [] (author k) (λ t. inl refl) (λ t. only k)

-- places under a test
abbrev pub AreClear : Key → List Place → Type 0
AreClear key places = AllByRecursion (λ place. key_eq (key_of place) key ≡ true → IsEnded place) places

pub stage_of : (P Q : Place → Type 0) (key : Key) (places : List Place) → ((place : Place) → (key_eq (key_of place) key ≡ true → IsEnded place) → P place → Q place)
    → AreClear key places → AllByRecursion P places → AllByRecursion Q places
stage_of P Q key places f clear a = all_both (λ place. key_eq (key_of place) key ≡ true → IsEnded place) P Q places f clear a

-- a log whose boot is older than the server's has told that server nothing but Stale
answer_older : (entries : List Entry) (body : Body) → (is_stale body ≡ false → ⊥) → AgreesWith entries body
answer_older entries (StaleMsg newer) f = tt
answer_older entries body f = absurd (f refl)

agrees_older : (boot top logged : ℕ) (entries : List Entry) (p : Packet) → logged < boot → HasBoot top logged p → Agrees boot entries p
agrees_older boot top logged entries (From_logger message) less h = λ e. answer_older entries message.body (λ q. let low = h.1 q in omega (arith, less, low, e))
agrees_older boot top logged entries (To_server segment) less h = tt
agrees_older boot top logged entries (To_client segment) less h = tt
agrees_older boot top logged entries (To_logger message) less h = tt

stage_older : (logged : ℕ) (node : Node) (entries : List Entry) (stage : Stage) → logged < node.boot → IsLogged logged node stage → is_restarting stage ≡ true → StageAgrees entries stage
stage_older logged node entries Asking less l r = tt
stage_older logged node entries (Fetching count fetched) less l r = absurd (omega (arith, less, l))
stage_older logged node entries (Serving opened places) less l r = tt
stage_older logged node entries (Fenced newer) less l r = tt

reported_without : (key : Key) (packets : List Packet) (place : Place) → (key_eq (key_of place) key ≡ true → IsEnded place) → WasReported packets place → WasReported (others (concerns key) packets) place
reported_without key packets (Lives p) clear t = on (key_eq p.key key) refl
  where
    on : (b : Bool) → key_eq p.key key ≡ b → WasReported (others (concerns key) packets) (Lives p)
    on true e = absurd (clear e)
    on false e = λ r. last_others key p.key packets e ∙ t r
reported_without key packets (Opens n timestamping) clear t = tt
reported_without key packets (Ended k) clear t = tt

module _ {State : Type 0} (service : Machine State) (key : Key) (w : World) (o : Stands service w) (may : MayRecycle key w) where
  abbrev now : Log
  now = without_entry key w.log

  script_here : (k : Key) → key_eq k key ≡ false → o.script k ≡ o.script k
  script_here k a = refl

  isn_here : (k : Key) → key_eq k key ≡ false → o.isn k ≡ o.isn k
  isn_here k a = refl

  entry_here : (k : Key) → key_eq k key ≡ false → entry_of k w.log ≡ entry_of k now
  entry_here k a = sym (find_others (λ e. e.key) key k w.log.entries a)

  -- a stage, by its places
  fits_here : (stage : Stage) → AreClear key (places_at stage) → StageFits o.script o.isn w.log stage → StageFits o.script o.isn now stage
  fits_here (Serving opened places) clear f =
      stage_of (PlaceFits o.script o.isn w.log) (PlaceFits o.script o.isn now) key places
      (λ place c x. place_fits service key o.script o.script o.isn o.isn w.log now script_here isn_here entry_here place c x) clear f
  fits_here Asking clear f = tt
  fits_here (Fetching count fetched) clear f = tt
  fits_here (Fenced newer) clear f = tt

  runs_here : (stage : Stage) → AreClear key (places_at stage) → StageRuns service o.author.author stage → StageRuns service (author_without key o.author.author) stage
  runs_here (Serving opened places) clear f = (
    stage_of (PlaceRuns service o.author.author) (PlaceRuns service (author_without key o.author.author)) key places
        (λ place c x. place_runs service key o.author.author (author_without key o.author.author) (author_elsewhere key o.author.author) place c x) clear f.0,
    only_without key o.author.author places f.1,
  )
  runs_here Asking clear f = tt
  runs_here (Fetching count fetched) clear f = tt
  runs_here (Fenced newer) clear f = tt

  backed_here : (stage : Stage) → AreClear key (places_at stage) → StageBacked service o.script w.log stage → StageBacked service o.script now stage
  backed_here (Serving opened places) clear f =
      stage_of (PlaceBacked service o.script w.log) (PlaceBacked service o.script now) key places
      (λ place c x. place_backed service key o.script o.script o.isn o.isn w.log now script_here isn_here entry_here place c x) clear f
  backed_here Asking clear f = tt
  backed_here (Fetching count fetched) clear f = tt
  backed_here (Fenced newer) clear f = tt

  reported_here : (stage : Stage) → AreClear key (places_at stage) → StageReported w.packets stage → StageReported (others (concerns key) w.packets) stage
  reported_here (Serving opened places) clear f = stage_of (WasReported w.packets) (WasReported (others (concerns key) w.packets)) key places (reported_without key w.packets) clear f
  reported_here Asking clear f = tt
  reported_here (Fetching count fetched) clear f = tt
  reported_here (Fenced newer) clear f = tt

  pub stands_without : Stands service (recycled key w)
  stands_without = record {
    script = o.script;
    isn = o.isn;
    short = o.short;
    fenced = record {
      log = o.fenced.log;
      packets = all_others (HasBoot w.boot w.log.boot) (HasBoot w.boot w.log.boot) (concerns key) w.packets (λ p a h. h) o.fenced.packets;
      node = λ n e. let x = o.fenced.node n e in
          record { boot = x.boot; logged = x.logged; quiet = λ r. all_others (IsNoChange n.boot) (IsNoChange n.boot) (concerns key) w.packets (λ p a h. h) (x.quiet r) };
    };
    asked = record {
      distinct = distinct_others (λ e. e.key) (λ e. key_eq e.key key) w.log.entries o.asked.distinct;
      node = λ n e r. let less = may.settled n e r in
          record {
            packets = all_others (HasBoot w.boot w.log.boot) (Agrees n.boot now.entries) (concerns key) w.packets
                (λ p a h. agrees_older n.boot w.boot w.log.boot now.entries p less h) o.fenced.packets;
            fetched = stage_older w.log.boot n now.entries n.stage less (o.fenced.node n e).logged r;
          };
    };
    faithful = record {
      clients = all_others (ClientFits o.script o.isn) (ClientFits o.script o.isn) (λ c. key_eq c.key key) w.clients (λ c a f. f) o.faithful.clients;
      packets = all_others (PacketFits o.script o.isn w.log) (PacketFits o.script o.isn now) (concerns key) w.packets
          (λ p a f. packet_fits service key o.script o.script o.isn o.isn w.log now script_here isn_here entry_here p a f) o.faithful.packets;
      entries = all_others (λ e. EntryFits (o.script e.key) (o.isn e.key) e) (λ e. EntryFits (o.script e.key) (o.isn e.key) e) (λ e. key_eq e.key key) w.log.entries (λ e a f. f) o.faithful.entries;
      stage = λ n e. fits_here n.stage (may.clear n e) (o.faithful.stage n e);
    };
    distinct = o.distinct;
    author = record {
      author = author_without key o.author.author;
      entries = all_others (EntryOf o.author.author) (EntryOf (author_without key o.author.author)) (λ e. key_eq e.key key) w.log.entries
          (λ e a f. entry_of_author service key o.author.author (author_without key o.author.author) (author_elsewhere key o.author.author) e a f) o.author.entries;
      short = short_without service o.script key o.author.author o.author.short;
      reads = all_others (ReadOf o.author.author w.log.boot) (ReadOf (author_without key o.author.author) w.log.boot) (concerns key) w.packets
          (λ p a f. read_of_author service key o.author.author (author_without key o.author.author) (author_elsewhere key o.author.author) w.log.boot p a f) o.author.reads;
      spoken = all_others (Speaks service o.script w.log) (Speaks service o.script now) (concerns key) w.packets
          (λ p a f. speaks service key o.script o.script o.isn o.isn w.log now script_here isn_here entry_here p a f) o.author.spoken;
      stage = λ n e. runs_here n.stage (may.clear n e) (o.author.stage n e);
    };
    sees = all_others (IsSeen service o.script w.log) (IsSeen service o.script now) (λ c. key_eq c.key key) w.clients
        (λ c a f. client_sees service key o.script o.script o.isn o.isn w.log now script_here isn_here entry_here c a f) o.sees;
    backed = record {
      packets = all_others (PacketBacked service o.script w.log) (PacketBacked service o.script now) (concerns key) w.packets
          (λ p a f. packet_backed service key o.script o.script o.isn o.isn w.log now script_here isn_here entry_here p a f) o.backed.packets;
      entries = all_others (EntryBacked service o.script w.log) (EntryBacked service o.script now) (λ e. key_eq e.key key) w.log.entries
          (λ e a f. entry_backed service key o.script o.script o.isn o.isn w.log now script_here isn_here entry_here e a f) o.backed.entries;
      stage = λ n e. backed_here n.stage (may.clear n e) (o.backed.stage n e);
    };
    reporting = λ n e. reported_here n.stage (may.clear n e) (o.reporting n e);
  }

  pub same_without : AreSame o stands_without
  unfolding stands_without
  same_without = (refl, refl)
