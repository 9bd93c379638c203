-- The invariants are preserved when the server forgets a key whose entry is recycled.
use Rattle.std.proofs.Common.{◌≡◌, ◌⊎◌, inl, inr, ⊎_elim, ℕ, true, false, refl, sym, ap, ◌∙◌, subst, true≢false, Option, Some, None, List, []}
use Rattle.std.specs.List.{AllByRecursion}
use Rattle.ft_io.specs.declared.Key.{Key}
use Rattle.ft_io.specs.Key.{key_eq}
use Rattle.server_trait.specs.Service.{Machine}
use Rattle.ft_model.specs.Log.{Log, Entry}
use Rattle.ft_model.specs.Masked.{is_restarting, Resumes, RestartIsExact}
use Rattle.ft_model.specs.Network.{Packet}
use Rattle.ft_model.specs.Network.Packet.{To_server, To_client, To_logger, From_logger}
use Rattle.ft_model.specs.Node.{Node, Place, Stage, key_of}
use Rattle.ft_model.specs.Node.Stage.{Asking, Fetching, Serving, Fenced}
use Rattle.ft_model.specs.World.{World}
use Rattle.ft_model.proofs.Asked.{Agrees, StageAgrees}
use Rattle.ft_model.proofs.Authored.{PlaceRuns}
use Rattle.ft_model.proofs.AuthorOver.{ReadOf, EntryOf, StageRuns}
use Rattle.ft_model.proofs.AuthorTurns.{OnlySettled, is_settled}
use Rattle.ft_model.proofs.Backed.{PlaceBacked, StageBacked}
use Rattle.ft_model.proofs.Distinct.{StageDistinct}
use Rattle.ft_model.proofs.Faithful.{PlaceFits, StageFits}
use Rattle.ft_model.proofs.Fenced.{IsLogged, IsNoChange}
use Rattle.ft_model.proofs.Lists.{all_both, none_is_some, some_is}
use Rattle.ft_model.proofs.ReportedLast.{WasReported}
use Rattle.ft_model.proofs.ReportedOver.{StageReported}
use Rattle.ft_io.proofs.Choices.{holds_if}
use Rattle.long_laws.specs.LongTrace.{others, asks_about, stage_without, node_without, forgotten, MayForget}
use Rattle.long_laws.proofs.Others.{all_others, distinct_others, settled_others, none_found}
use Rattle.long_laws.proofs.Elsewhere.{entry_of_author, read_there, place_runs}
use Rattle.long_laws.proofs.Recycled.{author_without, author_elsewhere, short_without}
use Rattle.long_laws.proofs.Stands.{Stands, AreSame}

pub same_stage : (key : Key) (stage : Stage) → is_restarting (stage_without key stage) ≡ is_restarting stage
same_stage key Asking = refl
same_stage key (Fetching count fetched) = refl
same_stage key (Serving opened places) = refl
same_stage key (Fenced newer) = refl

-- the server before it forgot
pub record Was (key : Key) (o : Option Node) (n : Node) : Type 0 where
  pub node : Node
  pub up : o ≡ Some node
  pub is : n ≡ record node { stage = stage_without key node.stage }

pub was : (key : Key) (o : Option Node) (n : Node) → node_without key o ≡ Some n → Was key o n
was key (Some node) n e = record { node = node; up = refl; is = sym (some_is (record node { stage = stage_without key node.stage }) n e) }
was key None n e = none_is_some n e

-- what holds of each place holds of those that are left
pub left : (P : Place → Type 0) (key : Key) (places : List Place) → AllByRecursion P places → AllByRecursion P (others (λ p. key_eq (key_of p) key) places)
left P key places a = all_others P P (λ p. key_eq (key_of p) key) places (λ x t p. p) a

logged_left : (logged : ℕ) (key : Key) (node : Node) (stage : Stage) → IsLogged logged node stage → IsLogged logged (record node { stage = stage_without key node.stage }) (stage_without key stage)
logged_left logged key node Asking l = tt
logged_left logged key node (Fetching count fetched) l = l
logged_left logged key node (Serving opened places) l = l
logged_left logged key node (Fenced newer) l = tt

agrees_left : (key : Key) (entries : List Entry) (stage : Stage) → StageAgrees entries stage → StageAgrees entries (stage_without key stage)
agrees_left key entries Asking a = tt
agrees_left key entries (Fetching count fetched) a = a
agrees_left key entries (Serving opened places) a = tt
agrees_left key entries (Fenced newer) a = tt

fits_left : (script : Key → List ℕ) (isn : Key → ℕ) (log : Log) (key : Key) (stage : Stage) → StageFits script isn log stage → StageFits script isn log (stage_without key stage)
fits_left script isn log key (Serving opened places) f = left (PlaceFits script isn log) key places f
fits_left script isn log key Asking f = tt
fits_left script isn log key (Fetching count fetched) f = tt
fits_left script isn log key (Fenced newer) f = tt

backed_left : {State : Type 0} (service : Machine State) (script : Key → List ℕ) (log : Log) (key : Key) (stage : Stage) → StageBacked service script log stage → StageBacked service script log (stage_without key stage)
backed_left service script log key (Serving opened places) f = left (PlaceBacked service script log) key places f
backed_left service script log key Asking f = tt
backed_left service script log key (Fetching count fetched) f = tt
backed_left service script log key (Fenced newer) f = tt

distinct_left : (key : Key) (stage : Stage) → StageDistinct stage → StageDistinct (stage_without key stage)
distinct_left key (Serving opened places) d = distinct_others key_of (λ p. key_eq (key_of p) key) places d
distinct_left key Asking d = tt
distinct_left key (Fetching count fetched) d = tt
distinct_left key (Fenced newer) d = tt

reported_left : (packets : List Packet) (key : Key) (stage : Stage) → StageReported packets stage → StageReported packets (stage_without key stage)
reported_left packets key (Serving opened places) t = left (WasReported packets) key places t
reported_left packets key Asking t = tt
reported_left packets key (Fetching count fetched) t = tt
reported_left packets key (Fenced newer) t = tt

only_left : (key : Key) (author : Key → List ℕ) (places : List Place) → OnlySettled author places → OnlySettled (author_without key author) (others (λ p. key_eq (key_of p) key) places)
only_left key author places only k =
    holds_if (λ l. (l ≡ []) ⊎ (is_settled k (others (λ p. key_eq (key_of p) key) places) ≡ true)) (key_eq k key) [] (author k) (λ t. inl refl)
    (λ t. ⊎_elim inl (λ s. inr (settled_others key k places t s)) (only k))

runs_left : {State : Type 0} (service : Machine State) (key : Key) (author : Key → List ℕ) (stage : Stage) → StageRuns service author stage → StageRuns service (author_without key author) (stage_without key stage)
runs_left service key author (Serving opened places) r = (
  all_others (PlaceRuns service author) (PlaceRuns service (author_without key author)) (λ p. key_eq (key_of p) key) places
      (λ p a f. place_runs service key author (author_without key author) (author_elsewhere key author) p (λ t. absurd (true≢false (sym t ∙ a))) f) r.0,
  only_left key author places r.1,
)
runs_left service key author Asking r = tt
runs_left service key author (Fetching count fetched) r = tt
runs_left service key author (Fenced newer) r = tt

-- a restart goes on as before
resumes_left : {State : Type 0} (service : Machine State) (log : Log) (key : Key) (node : Node) (stage : Stage) → is_restarting stage ≡ true → Resumes service log node (stage_without key stage)
resumes_left service log key node Asking r = tt
resumes_left service log key node (Fetching count fetched) r = tt
resumes_left service log key node (Serving opened places) r = absurd (true≢false (sym r))
resumes_left service log key node (Fenced newer) r = tt

pub forgets_exactly : {State : Type 0} (service : Machine State) (log : Log) (key : Key) (o : Option Node) → RestartIsExact service log o (node_without key o)
forgets_exactly service log key (Some node) = λ r. resumes_left service log key node node.stage r
forgets_exactly service log key None = tt

read_unasked : {State : Type 0} (service : Machine State) (key : Key) (author : Key → List ℕ) (boot : ℕ) (p : Packet) → asks_about key p ≡ false → ReadOf author boot p → ReadOf (author_without key author) boot p
read_unasked service key author boot (To_logger message) a f = λ e. read_there service key author (author_without key author) (author_elsewhere key author) message.body a (f e)
read_unasked service key author boot (To_server segment) a f = tt
read_unasked service key author boot (To_client segment) a f = tt
read_unasked service key author boot (From_logger message) a f = tt

pub stands_forgotten : {State : Type 0} (service : Machine State) (key : Key) (w : World) → Stands service w → MayForget key w → Stands service (forgotten key w)
stands_forgotten service key w o may = record {
  script = o.script;
  isn = o.isn;
  short = o.short;
  fenced = record {
    log = o.fenced.log;
    packets = o.fenced.packets;
    node = λ n e. let b = was key w.node n e in
        let x = o.fenced.node b.node b.up in
        record {
          boot = ap (λ m. m.boot) b.is ∙ x.boot;
          logged = subst (λ m. IsLogged w.log.boot m m.stage) (sym b.is) (logged_left w.log.boot key b.node b.node.stage x.logged);
          quiet = λ r. subst (λ m. AllByRecursion (IsNoChange m.boot) w.packets) (sym b.is) (x.quiet (sym (same_stage key b.node.stage) ∙ (sym (ap (λ m. is_restarting m.stage) b.is) ∙ r)));
        };
  };
  asked = record {
    distinct = o.asked.distinct;
    node = λ n e r. let b = was key w.node n e in
        let x = o.asked.node b.node b.up (sym (same_stage key b.node.stage) ∙ (sym (ap (λ m. is_restarting m.stage) b.is) ∙ r)) in
        record {
          packets = subst (λ m. AllByRecursion (Agrees m.boot w.log.entries) w.packets) (sym b.is) x.packets;
          fetched = subst (λ m. StageAgrees w.log.entries m.stage) (sym b.is) (agrees_left key w.log.entries b.node.stage x.fetched);
        };
  };
  faithful = record {
    clients = o.faithful.clients;
    packets = o.faithful.packets;
    entries = o.faithful.entries;
    stage = λ n e. let b = was key w.node n e in
        subst (λ m. StageFits o.script o.isn w.log m.stage) (sym b.is) (fits_left o.script o.isn w.log key b.node.stage (o.faithful.stage b.node b.up));
  };
  distinct = λ n e. let b = was key w.node n e in subst (λ m. StageDistinct m.stage) (sym b.is) (distinct_left key b.node.stage (o.distinct b.node b.up));
  author = record {
    author = author_without key o.author.author;
    entries = all_both (λ x. key_eq x.key key ≡ false) (EntryOf o.author.author) (EntryOf (author_without key o.author.author)) w.log.entries
        (λ x a f. entry_of_author service key o.author.author (author_without key o.author.author) (author_elsewhere key o.author.author) x a f)
        (none_found (λ x. key_eq x.key key) w.log.entries may.absent) o.author.entries;
    short = short_without service o.script key o.author.author o.author.short;
    reads = all_both (λ p. asks_about key p ≡ false) (ReadOf o.author.author w.log.boot) (ReadOf (author_without key o.author.author) w.log.boot) w.packets
        (read_unasked service key o.author.author w.log.boot) may.unasked o.author.reads;
    spoken = o.author.spoken;
    stage = λ n e. let b = was key w.node n e in
        subst (λ m. StageRuns service (author_without key o.author.author) m.stage) (sym b.is) (runs_left service key o.author.author b.node.stage (o.author.stage b.node b.up));
  };
  sees = o.sees;
  backed = record {
    packets = o.backed.packets;
    entries = o.backed.entries;
    stage = λ n e. let b = was key w.node n e in
        subst (λ m. StageBacked service o.script w.log m.stage) (sym b.is) (backed_left service o.script w.log key b.node.stage (o.backed.stage b.node b.up));
  };
  reporting = λ n e. let b = was key w.node n e in subst (λ m. StageReported w.packets m.stage) (sym b.is) (reported_left w.packets key b.node.stage (o.reporting b.node b.up));
}

pub same_forgotten : {State : Type 0} (service : Machine State) (key : Key) (w : World) (o : Stands service w) (may : MayForget key w) → AreSame o (stands_forgotten service key w o may)
unfolding stands_forgotten
same_forgotten service key w o may = (refl, refl)
