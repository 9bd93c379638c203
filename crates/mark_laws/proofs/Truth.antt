-- The marks that go out in a turn of a server that marks are true of the log, and so are those that are outstanding after it.
use Rattle.std.proofs.Common.{◌≡◌, ℕ, ◌+◌, ◌-◌, ◌≤◌, ◌==◌, Bool, true, false, refl, sym, ap, ◌∙◌, subst, true≢false, Option, Some, None, MatchOption, option_map, option_to_list, List, [], ◌∷◌, ◌++◌, map, length, take, drop, sum, if◌then◌else◌}
use Rattle.std.specs.Bool.{MatchBool}
use Rattle.std.specs.List.{AllByRecursion, flat_map}
use Rattle.std.specs.Option.{option_map_or}
use Rattle.std.specs.Prelude.{nat_lt, nat_le}
use Rattle.ft_io.specs.declared.Key.{Key}
use Rattle.ft_io.specs.Key.{key_eq}
use Rattle.ft_io.proofs.Choices.{holds_if}
use Rattle.seq_arith.specs.Mark.{Mark, MarkBody, MarkMessage}
use Rattle.seq_arith.specs.Mark.MarkBody.{MarkMsg, MarkedMsg, AskMsg, HeldMsg}
use Rattle.ft_model.specs.Growth.{IsPrefix, EntryGrows, LogGrows}
use Rattle.ft_model.specs.Lawful.{Revives, all_restored, restored_count, fence}
use Rattle.ft_model.specs.Log.{Log, Entry, entry_of}
use Rattle.ft_model.specs.Masked.{is_restarting}
use Rattle.ft_model.specs.Network.{Packet}
use Rattle.ft_model.specs.News.{News}
use Rattle.ft_model.specs.News.News.{Ticks, Begins}
use Rattle.ft_model.specs.Node.{Node, Place, Stage, Input, key_of, place_at}
use Rattle.ft_model.specs.Node.Place.{Lives, Opens, Ended}
use Rattle.ft_model.specs.Node.Stage.{Asking, Fetching, Serving, Fenced}
use Rattle.ft_model.specs.Node.Input.{Packet_comes, Message_comes, Noise_comes, Tick_comes}
use Rattle.ft_model.specs.Point.{Point}
use Rattle.ft_model.specs.Restart.{Fetched, Wanted, wanted, question}
use Rattle.ft_model.specs.ServingTurn.{PlaceTurn, concerns, newcomers, refusals, opens_at}
use Rattle.ft_model.specs.World.{World}
use Rattle.ft_model.proofs.Authored.{PlaceRuns}
use Rattle.ft_model.proofs.AuthorOver.{StageRuns, EntryOf}
use Rattle.ft_model.proofs.Faithful.{PlaceFits, StageFits, units_within}
use Rattle.ft_model.proofs.FaithfulOver.{script_of, isn_of}
use Rattle.ft_model.proofs.Grows.{found_later}
use Rattle.ft_model.proofs.Lists.{all_append, all_map, all_of, all_weaker, all_both, all_find, found_passes, some_is, same_key}
use Rattle.ft_model.proofs.AuthorTurns.{all_split}
use Rattle.mark_laws.specs.MarkedLog.{AnyMessage}
use Rattle.mark_laws.specs.MarkedLog.AnyMessage.{Of_log}
use Rattle.mark_laws.specs.Marking.{Marking, Outgoing, outstanding_in, with_new, marks_out, with_marks, marks_sent, marking_answered, MarkedTurn, AreTrue, ReportsTruth}
use Rattle.mark_laws.specs.Marking.Outgoing.{Plain, Mark_to_logger}
use Rattle.mark_laws.specs.Restart.{FetchedSoFar, mark_question, log_question, or_else, next_question, fetched_on, mark_reported, begun_on}
use Rattle.mark_laws.specs.Runs.{IsRunOf}
use Rattle.mark_laws.specs.MarkedNode.{Marker, MarkedNode, MarkedInput, GoesMarked, AllGoMarked, ServesMarked, RestsMarked, Continues, FetchesMarked, PlainTurn, UnlessFenced, MarkTurn, ReceivesOfMark, InputTurn, with_stage, with_marking, marks_at, marking_then, is_tick_input, outgoing, so_far, live_at, marking_fetched}
use Rattle.mark_laws.specs.MarkedNode.MarkedInput.{Plain_comes, Mark_comes}
use Rattle.mark_laws.specs.TrueMarks.{IsTrueMark, ReportsTrueMark}
use Rattle.mark_laws.proofs.Packets.{Sound}

-- the laws on marks that this uses: a mark that goes out is true, and stays true
pub record MarkLaws {State : Type 0} (by : Marker State) : Type 0 where
  pub reports : (news : News) (script : List ℕ) (m : Marking) (q : Point) (e : Entry) → IsPrefix q.taken script → sum q.lengths ≤ length q.taken → IsPrefix e.bytes script → sum e.lengths ≤ length e.bytes
      → IsPrefix e.lengths q.lengths → q.reads_answered ≤ length e.lengths → AreTrue by.service by.writing e (outstanding_in m) → ReportsTruth by.service by.writing by.every news m q e
  pub stays : (before after : Entry) (m : Mark) → EntryGrows before after → IsRunOf by.service by.writing before m → IsRunOf by.service by.writing after m

-- true marks of a key
abbrev pub AreTrueMarks : {State : Type 0} → Marker State → Log → Key → List Mark → Type 0
AreTrueMarks by log key marks = AllByRecursion (IsTrueMark by log key) marks

pub true_later : {State : Type 0} (by : Marker State) (before after : Log) (key : Key) (m : Mark) → MarkLaws by → LogGrows before after → IsTrueMark by before key m → IsTrueMark by after key m
true_later by before after key m laws g t =
    let later = found_later key before.entries after.entries t.0 g.entries t.1 in (later.0, later.1, laws.stays t.0 later.0 m later.2 t.2)

of_entry : {State : Type 0} (by : Marker State) (log : Log) (key : Key) (e : Entry) (marks : List Mark) → entry_of key log ≡ Some e → AreTrueMarks by log key marks → AreTrue by.service by.writing e marks
of_entry by log key e marks found a =
    all_weaker (IsTrueMark by log key) (IsRunOf by.service by.writing e) marks (λ m t. subst (λ x. IsRunOf by.service by.writing x m) (some_is t.0 e (sym t.1 ∙ found)) t.2) a

of_key : {State : Type 0} (by : Marker State) (log : Log) (key : Key) (e : Entry) (marks : List Mark) → entry_of key log ≡ Some e → AreTrue by.service by.writing e marks → AreTrueMarks by log key marks
of_key by log key e marks found a = all_weaker (IsRunOf by.service by.writing e) (IsTrueMark by log key) marks (λ m r. (e, found, r)) a

-- at a live connection
abbrev pub MarksTrueAt : {State : Type 0} → Marker State → Log → News → Marking → Point → Type 0
MarksTrueAt by log news m q =
    AreTrueMarks by log q.key (marks_sent by.service by.writing by.every news m q) × AreTrueMarks by log q.key (outstanding_in (with_new by.service by.writing by.every q m))

pub point_true : {State : Type 0} (by : Marker State) (start w : World) (news : News) (m : Marking) (q : Point) → MarkLaws by → (s : Sound by.service start w)
    → PlaceFits (script_of start) (isn_of start) w.log (Lives q) → PlaceRuns by.service s.joint.author.author (Lives q) → AreTrueMarks by w.log q.key (outstanding_in m) → MarksTrueAt by w.log news m q
point_true by start w news m q laws s fits runs held =
    let e : Entry = fits.1.entry in
    let found : entry_of q.key w.log ≡ Some e = fits.1.found in
    let entry = units_within (script_of start) (isn_of start) w.log q.key e s.joint.faithful.entries found in
    let same : e.key ≡ q.key = same_key e.key q.key (found_passes (λ x. key_eq x.key q.key) w.log.entries e found) in
    let of_author : EntryOf s.joint.author.author e = all_find (EntryOf s.joint.author.author) (λ x. key_eq x.key q.key) w.log.entries e s.joint.author.entries found in
    let front : IsPrefix e.lengths q.lengths = subst (λ l. IsPrefix e.lengths l) (ap s.joint.author.author same ∙ runs.0) of_author.0 in
    let truth : ReportsTruth by.service by.writing by.every news m q e =
    laws.reports news (script_of start q.key) m q e fits.0.fronts.front runs.1.enough entry.0.front of_author.1 front fits.1.reads (of_entry by w.log q.key e (outstanding_in m) found held) in
    (of_key by w.log q.key e _ found truth.sent, of_key by w.log q.key e _ found truth.outstanding)

-- What goes out

-- a mark that goes out is of this boot, and true
abbrev pub OutIsTrue : {State : Type 0} → Marker State → (boot : ℕ) → Log → Outgoing → Type 0
OutIsTrue by boot log (Plain packet) = Unit {0}
OutIsTrue by boot log (Mark_to_logger message) = (message.boot ≡ boot) × ReportsTrueMark by log message.body

abbrev pub is_mark : MarkBody → Bool
is_mark (MarkMsg key m) = true
is_mark _ = false

-- .. and is no mark
abbrev pub IsNoMark : Outgoing → Type 0
IsNoMark (Plain packet) = Unit {0}
IsNoMark (Mark_to_logger message) = is_mark message.body ≡ false

pub plain_all : (P : Outgoing → Type 0) → ((packet : Packet) → P (Plain packet)) → (packets : List Packet) → AllByRecursion P (map Plain packets)
plain_all P plain packets = all_map P Plain packets (all_of (λ p. P (Plain p)) packets plain)

placed_all : (P : Outgoing → Type 0) → ((packet : Packet) → P (Plain packet)) → (k : ℕ) (marks : List Outgoing) (packets : List Packet) → AllByRecursion P marks → AllByRecursion P (with_marks k marks packets)
placed_all P plain k marks packets a =
    let n : ℕ = length packets - k in
    all_append P (map Plain (take n packets)) (marks ++ map Plain (drop n packets)) (plain_all P plain (take n packets)) (all_append P marks (map Plain (drop n packets)) a (plain_all P plain (drop n packets)))

flat_all : (P : Outgoing → Type 0) (marks : Place → List Outgoing) (places : List Place) → AllByRecursion (λ x. AllByRecursion P (marks x)) places → AllByRecursion P (flat_map marks places)
flat_all P marks [] a = tt
flat_all P marks (place ∷ places) a = all_append P (marks place) (flat_map marks places) a.0 (flat_all P marks places a.1)

pub gone_all : (P : Outgoing → Type 0) → ((packet : Packet) → P (Plain packet)) → (Goes : Place → List Place → List Packet → Type 0) (marks : Place → List Outgoing) (places after : List Place) (sent : List Outgoing)
    → AllGoMarked (GoesMarked Goes marks) places after sent → AllByRecursion (λ x. AllByRecursion P (marks x)) after → AllByRecursion P sent
gone_all P plain Goes marks [] after sent t a = subst (AllByRecursion P) (sym t.1) tt
gone_all P plain Goes marks (place ∷ places) after sent t a =
    let parts = all_split (λ x. AllByRecursion P (marks x)) t.0 t.1 (subst (AllByRecursion (λ x. AllByRecursion P (marks x))) t.4 a) in
    subst (AllByRecursion P) (sym t.5)
    (all_append P t.2 t.3 (subst (AllByRecursion P) (sym t.6.sent_are) (placed_all P plain _ (flat_map marks t.0) t.6.packets (flat_all P marks t.0 parts.0)))
    (gone_all P plain Goes marks places t.1 t.3 t.7 parts.1))

-- the marks of live connections
marks_out_true : {State : Type 0} (by : Marker State) (boot : ℕ) (log : Log) (q : Point) (marks : List Mark) → AreTrueMarks by log q.key marks → AllByRecursion (OutIsTrue by boot log) (marks_out boot q marks)
marks_out_true by boot log q [] a = tt
marks_out_true by boot log q (m ∷ marks) a = ((refl, a.0), marks_out_true by boot log q marks a.1)

-- what is known of a place after a turn
abbrev pub KnownPlace : {State : Type 0} → Marker State → (start w : World) → (Key → List ℕ) → Place → Type 0
KnownPlace by start w author place = PlaceFits (script_of start) (isn_of start) w.log place × PlaceRuns by.service author place

abbrev news_of : Bool → News
news_of true = Ticks
news_of false = Begins

abbrev pub OutstandingTrue : {State : Type 0} → Marker State → Log → (Key → Marking) → Type 0
OutstandingTrue by log marking = (key : Key) → AreTrueMarks by log key (outstanding_in (marking key))

marks_at_true : {State : Type 0} (by : Marker State) (start w : World) (boot : ℕ) (tick : Bool) (marking : Key → Marking) → MarkLaws by → (s : Sound by.service start w) → OutstandingTrue by w.log marking
    → (place : Place) → KnownPlace by start w s.joint.author.author place → AllByRecursion (OutIsTrue by boot w.log) (marks_at by boot tick marking place)
marks_at_true by start w boot true marking laws s held (Lives q) k = marks_out_true by boot w.log q _ (point_true by start w Ticks (marking q.key) q laws s k.0 k.1 (held q.key)).0
marks_at_true by start w boot false marking laws s held (Lives q) k = marks_out_true by boot w.log q _ (point_true by start w Begins (marking q.key) q laws s k.0 k.1 (held q.key)).0
marks_at_true by start w boot tick marking laws s held (Opens n timestamping) k = tt
marks_at_true by start w boot tick marking laws s held (Ended e) k = tt

then_true : {State : Type 0} (by : Marker State) (start w : World) (marking : Key → Marking) (places : List Place) → MarkLaws by → (s : Sound by.service start w) → OutstandingTrue by w.log marking
    → AllByRecursion (KnownPlace by start w s.joint.author.author) places → (key : Key) (o : Option Place) → place_at key places ≡ o
    → AreTrueMarks by w.log key (outstanding_in (marking_then by o (marking key)))
then_true by start w marking places laws s held known key (Some (Lives q)) found =
    let k = all_find (KnownPlace by start w s.joint.author.author) (λ place. key_eq (key_of place) key) places (Lives q) known found in
    let same : q.key ≡ key = same_key q.key key (found_passes (λ place. key_eq (key_of place) key) places (Lives q) found) in
    subst (λ x. AreTrueMarks by w.log x (outstanding_in (with_new by.service by.writing by.every q (marking key)))) same
    (point_true by start w Begins (marking key) q laws s k.0 k.1 (subst (λ x. AreTrueMarks by w.log x (outstanding_in (marking key))) (sym same) (held key))).1
then_true by start w marking places laws s held known key (Some (Opens n timestamping)) found = held key
then_true by start w marking places laws s held known key (Some (Ended e)) found = held key
then_true by start w marking places laws s held known key None found = held key

-- what is known of all places of a stage
known_places : {State : Type 0} (by : Marker State) (start w : World) (node : Node) (opened : ℕ) (places : List Place) → (s : Sound by.service start w) → w.node ≡ Some node → node.stage ≡ Serving opened places
    → AllByRecursion (KnownPlace by start w s.joint.author.author) places
known_places by start w node opened places s up is =
    all_both (PlaceFits (script_of start) (isn_of start) w.log) (PlaceRuns by.service s.joint.author.author) (KnownPlace by start w s.joint.author.author) places (λ x f r. (f, r))
    (subst (StageFits (script_of start) (isn_of start) w.log) is (s.joint.faithful.stage node up)) (subst (StageRuns by.service s.joint.author.author) is (s.joint.author.stage node up)).0

-- The turn: what goes out is true, while the server restarts it is no mark, and what is outstanding is true
pub record OutGoesTrue {State : Type 0} (by : Marker State) (node : MarkedNode) (log : Log) (out : List Outgoing) (later : MarkedNode) : Type 0 where
  pub sent : AllByRecursion (OutIsTrue by node.plain.boot log) out
  pub quiet : is_restarting later.plain.stage ≡ true → AllByRecursion IsNoMark out
  pub outstanding : OutstandingTrue by log later.marking

-- a question
plain_question : {State : Type 0} (by : Marker State) (boot : ℕ) (log : Log) (o : Option Wanted) → let q : Option AnyMessage = option_map (λ w. Of_log (record { boot = boot; body = question w })) o in
    AllByRecursion (OutIsTrue by boot log) (map outgoing (option_to_list q)) × AllByRecursion IsNoMark (map outgoing (option_to_list q))
plain_question by boot log (Some w) = ((tt, tt), (tt, tt))
plain_question by boot log None = (tt, tt)

question_true : {State : Type 0} (by : Marker State) (boot count : ℕ) (log : Log) (fetched : List Fetched) (b : Bool) → let q : Option AnyMessage = or_else (if b then mark_question boot fetched else None) (log_question boot count fetched) in
    AllByRecursion (OutIsTrue by boot log) (map outgoing (option_to_list q)) × AllByRecursion IsNoMark (map outgoing (option_to_list q))
question_true by boot count log (f ∷ earlier) true = (((refl, tt), tt), (refl, tt))
question_true by boot count log [] true = plain_question by boot log (wanted count [])
question_true by boot count log fetched false = plain_question by boot log (wanted count fetched)

-- where a restart goes on
continues_true : {State : Type 0} (by : Marker State) (start w : World) (node later : MarkedNode) (count : ℕ) (now : FetchedSoFar) (marking : Key → Marking) (q : Option AnyMessage) (out : List Outgoing)
    → MarkLaws by → Sound by.service start w → w.node ≡ Some later.plain → OutstandingTrue by w.log marking → next_question node.plain.boot count now ≡ q → Continues by node count now marking q out later
    → OutGoesTrue by node w.log out later
continues_true by start w node later count now marking (Some question) out laws s up held e t =
    let x = question_true by node.plain.boot count w.log now.entries now.awaits_mark in
    let same : map outgoing (option_to_list (next_question node.plain.boot count now)) ≡ out = ap (λ (o : Option AnyMessage). map outgoing (option_to_list o)) e ∙ sym t.0 in
    record {
      sent = subst (AllByRecursion (OutIsTrue by node.plain.boot w.log)) same x.0;
      quiet = λ r. subst (AllByRecursion IsNoMark) same x.1;
      outstanding = subst (λ n. OutstandingTrue by w.log n.marking) (sym t.1) held;
    }
continues_true by start w node later count now marking None out laws s up held e t =
    let known = known_places by start w later.plain (restored_count now.entries) t.0 s up (ap (λ (n : MarkedNode). n.plain.stage) t.2) in
    record {
      sent = gone_all (OutIsTrue by node.plain.boot w.log) (λ p. tt) (Revives by.service node.plain) (marks_at by node.plain.boot false marking) (all_restored by.service node.plain.profile now.entries) t.0 out t.1
          (all_weaker (KnownPlace by start w s.joint.author.author) _ t.0 (marks_at_true by start w node.plain.boot false marking laws s held) known);
      quiet = λ r. absurd (true≢false (sym r ∙ ap (λ (n : MarkedNode). is_restarting n.plain.stage) t.2));
      outstanding = subst (λ n. OutstandingTrue by w.log n.marking) (sym t.2) (λ key. then_true by start w marking t.0 laws s held known key (place_at key t.0) refl);
    }

-- a server that serves
serves_true : {State : Type 0} (by : Marker State) (start w : World) (node later : MarkedNode) (input : Input) (opened : ℕ) (places later_places : List Place) (marking : Key → Marking) (out : List Outgoing)
    → MarkLaws by → Sound by.service start w → w.node ≡ Some later.plain → OutstandingTrue by w.log node.marking → ServesMarked by node input opened places later_places marking out
    → later ≡ record (with_stage (Serving (opened + length (newcomers node.plain input opened places)) later_places) node) { marking = marking } → OutGoesTrue by node w.log out later
serves_true by start w node later input opened places later_places marking out laws s up held t after =
    let all = known_places by start w later.plain (opened + length (newcomers node.plain input opened places)) later_places s up (ap (λ (n : MarkedNode). n.plain.stage) after) in
    let author = s.joint.author.author in
    let known : AllByRecursion (KnownPlace by start w author) t.went =
    (all_split (KnownPlace by start w author) t.went (newcomers node.plain input opened places) (subst (AllByRecursion (KnownPlace by start w author)) t.places all)).0 in
    let P : Outgoing → Type 0 = OutIsTrue by node.plain.boot w.log in
    let marks : Place → List Outgoing = λ place. if concerns node.plain input (key_of place) then marks_at by node.plain.boot (is_tick_input input) node.marking place else [] in
    record {
      sent = subst (AllByRecursion P) (sym t.packets)
          (all_append P t.by_places _
          (gone_all P (λ p. tt) (PlaceTurn by.service node.plain input) marks places t.went t.by_places t.all_go
          (all_weaker (KnownPlace by start w author) (λ x. AllByRecursion P (marks x)) t.went
          (λ x k. holds_if (AllByRecursion P) (concerns node.plain input (key_of x)) (marks_at by node.plain.boot (is_tick_input input) node.marking x) []
          (λ c. marks_at_true by start w node.plain.boot (is_tick_input input) node.marking laws s held x k) (λ c. tt)) known))
          (plain_all P (λ p. tt) (refusals node.plain input places ++ flat_map (opens_at node.plain input) later_places)));
      quiet = λ r. absurd (true≢false (sym r ∙ ap (λ (n : MarkedNode). is_restarting n.plain.stage) after));
      outstanding = subst (λ n. OutstandingTrue by w.log n.marking) (sym after)
          (subst (OutstandingTrue by w.log) (sym t.marking_is)
          (λ key. holds_if (λ x. AreTrueMarks by w.log key (outstanding_in x)) (concerns node.plain input key) (marking_then by (place_at key t.went) (node.marking key)) (node.marking key)
          (λ c. then_true by start w node.marking t.went laws s held known key (place_at key t.went) refl) (λ c. held key)));
    }

-- a turn in which nothing about marks happens
plain_true : {State : Type 0} (by : Marker State) (log : Log) (node later : MarkedNode) (packets : List Packet) (out : List Outgoing) → OutstandingTrue by log node.marking → out ≡ map Plain packets → later.marking ≡ node.marking
    → OutGoesTrue by node log out later
plain_true by log node later packets out held sent same = record {
  sent = subst (AllByRecursion (OutIsTrue by node.plain.boot log)) (sym sent) (plain_all (OutIsTrue by node.plain.boot log) (λ p. tt) packets);
  quiet = λ r. subst (AllByRecursion IsNoMark) (sym sent) (plain_all IsNoMark (λ p. tt) packets);
  outstanding = subst (OutstandingTrue by log) (sym same) held;
}

rests_true : {State : Type 0} (by : Marker State) (log : Log) (node later : MarkedNode) (out : List Outgoing) → OutstandingTrue by log node.marking → RestsMarked node out later → OutGoesTrue by node log out later
rests_true by log node later out held t = plain_true by log node later [] out held t.0 (ap (λ (n : MarkedNode). n.marking) t.1)

message_true : {State : Type 0} (by : Marker State) (start w : World) (node later : MarkedNode) (count : ℕ) (o : Option FetchedSoFar) (out : List Outgoing)
    → MarkLaws by → Sound by.service start w → w.node ≡ Some later.plain → OutstandingTrue by w.log node.marking
    → MatchOption o (RestsMarked node out later) (λ now. FetchesMarked by node count now node.marking out later) → OutGoesTrue by node w.log out later
message_true by start w node later count None out laws s up held t = rests_true by w.log node later out held t
message_true by start w node later count (Some now) out laws s up held t =
    continues_true by start w node later count now node.marking (next_question node.plain.boot count now) out laws s up held refl t

stage_true : {State : Type 0} (by : Marker State) (start w : World) (node later : MarkedNode) (stage : Stage) (input : Input) (out : List Outgoing)
    → MarkLaws by → Sound by.service start w → w.node ≡ Some later.plain → OutstandingTrue by w.log node.marking → PlainTurn by node stage input out later → OutGoesTrue by node w.log out later
stage_true by start w node later (Fetching count fetched) Tick_comes out laws s up held t =
    let x = question_true by node.plain.boot count w.log fetched node.awaits_mark in
    record {
      sent = subst (AllByRecursion (OutIsTrue by node.plain.boot w.log)) (sym t.0) x.0;
      quiet = λ r. subst (AllByRecursion IsNoMark) (sym t.0) x.1;
      outstanding = subst (λ n. OutstandingTrue by w.log n.marking) (sym t.1) held;
    }
stage_true by start w node later (Fetching count fetched) (Message_comes message) out laws s up held t =
    message_true by start w node later count (fetched_on (nat_lt 0 by.every) node.plain.boot count message (so_far node fetched)) out laws s up held t
stage_true by start w node later (Serving opened places) input out laws s up held t =
    serves_true by start w node later input opened places t.0 t.1 out laws s up held t.2 t.3
stage_true by start w node later (Fetching count fetched) (Packet_comes segment) out laws s up held t = plain_true by w.log node later t.1 out held t.3 (ap (λ (n : MarkedNode). n.marking) t.4)
stage_true by start w node later (Fetching count fetched) Noise_comes out laws s up held t = plain_true by w.log node later t.1 out held t.3 (ap (λ (n : MarkedNode). n.marking) t.4)
stage_true by start w node later Asking input out laws s up held t = plain_true by w.log node later t.1 out held t.3 (ap (λ (n : MarkedNode). n.marking) t.4)
stage_true by start w node later (Fenced newer) input out laws s up held t = plain_true by w.log node later t.1 out held t.3 (ap (λ (n : MarkedNode). n.marking) t.4)

fence_true : {State : Type 0} (by : Marker State) (start w : World) (node later : MarkedNode) (input : Input) (o : Option ℕ) (out : List Outgoing)
    → MarkLaws by → Sound by.service start w → w.node ≡ Some later.plain → OutstandingTrue by w.log node.marking → UnlessFenced by node input o out later → OutGoesTrue by node w.log out later
fence_true by start w node later input (Some newer) out laws s up held t = plain_true by w.log node later [] out held t.0 (ap (λ (n : MarkedNode). n.marking) t.1)
fence_true by start w node later input None out laws s up held t = stage_true by start w node later node.plain.stage input out laws s up held t

-- a message about marks

none_outstanding : {State : Type 0} (by : Marker State) (log : Log) (marking : Key → Marking) (body : MarkBody) → OutstandingTrue by log marking → OutstandingTrue by log (marking_fetched body marking)
none_outstanding by log marking (HeldMsg key m) held = λ k.
    holds_if (λ x. AreTrueMarks by log k (outstanding_in x)) (key_eq k key) (record { last = m.reads; outstanding = None }) (marking k) (λ e. tt) (λ e. held k)
none_outstanding by log marking (MarkMsg key m) held = held
none_outstanding by log marking (MarkedMsg key reads) held = held
none_outstanding by log marking (AskMsg key) held = held

fewer_outstanding : {State : Type 0} (by : Marker State) (log : Log) (key : Key) (reads : ℕ) (m : Marking) → AreTrueMarks by log key (outstanding_in m) → AreTrueMarks by log key (outstanding_in (marking_answered reads m))
fewer_outstanding by log key reads m held =
    holds_if (λ (o : Option Mark). AreTrueMarks by log key (option_map_or (λ mark. mark ∷ []) o [])) (option_map_or (λ mark. nat_le mark.reads reads) m.outstanding false) None m.outstanding (λ e. tt) (λ e. held)

answered_true : {State : Type 0} (by : Marker State) (start w : World) (node later : MarkedNode) (opened reads : ℕ) (key : Key) (places : List Place) (o : Option Place) (out : List Outgoing)
    → MarkLaws by → Sound by.service start w → w.node ≡ Some later.plain → OutstandingTrue by w.log node.marking → node.plain.stage ≡ Serving opened places → place_at key places ≡ o
    → MatchOption (live_at o) (RestsMarked node out later)
    (λ p. (m : Marking) × MarkedTurn by.service by.writing by.every node.plain.boot reads p (node.marking p.key) m out × (later ≡ record node { marking = with_marking p.key m node.marking }))
    → OutGoesTrue by node w.log out later
answered_true by start w node later opened reads key places (Some (Lives p)) out laws s up held is found t =
    let known = known_places by start w later.plain opened places s up (ap (λ (n : MarkedNode). n.plain.stage) t.2 ∙ is) in
    let k = all_find (KnownPlace by start w s.joint.author.author) (λ place. key_eq (key_of place) key) places (Lives p) known found in
    let x : MarksTrueAt by w.log Begins (marking_answered reads (node.marking p.key)) p =
    point_true by start w Begins (marking_answered reads (node.marking p.key)) p laws s k.0 k.1 (fewer_outstanding by w.log p.key reads (node.marking p.key) (held p.key)) in
    record {
      sent = subst (AllByRecursion (OutIsTrue by node.plain.boot w.log)) (sym t.1.sent_are) (marks_out_true by node.plain.boot w.log p _ x.0);
      quiet = λ r. absurd (true≢false (sym r ∙ ap (λ (n : MarkedNode). is_restarting n.plain.stage) t.2 ∙ ap is_restarting is));
      outstanding = subst (λ n. OutstandingTrue by w.log n.marking) (sym t.2)
          (λ k. holds_if (λ y. AreTrueMarks by w.log k (outstanding_in y)) (key_eq k p.key) t.0 (node.marking k)
          (λ e. subst (λ z. AreTrueMarks by w.log z (outstanding_in t.0)) (sym (same_key k p.key e)) (subst (λ y. AreTrueMarks by w.log p.key (outstanding_in y)) (sym t.1.marking) x.1)) (λ e. held k));
    }
answered_true by start w node later opened reads key places (Some (Opens n timestamping)) out laws s up held is found t = rests_true by w.log node later out held t
answered_true by start w node later opened reads key places (Some (Ended k)) out laws s up held is found t = rests_true by w.log node later out held t
answered_true by start w node later opened reads key places None out laws s up held is found t = rests_true by w.log node later out held t

receives_true : {State : Type 0} (by : Marker State) (start w : World) (node later : MarkedNode) (opened : ℕ) (places : List Place) (body : MarkBody) (b : Bool) (out : List Outgoing)
    → MarkLaws by → Sound by.service start w → w.node ≡ Some later.plain → OutstandingTrue by w.log node.marking → node.plain.stage ≡ Serving opened places
    → MatchBool b (ReceivesOfMark by node places body out later) (RestsMarked node out later) → OutGoesTrue by node w.log out later
receives_true by start w node later opened places (MarkedMsg key reads) true out laws s up held is t =
    answered_true by start w node later opened reads key places (place_at key places) out laws s up held is refl t
receives_true by start w node later opened places (MarkMsg key m) true out laws s up held is t = rests_true by w.log node later out held t
receives_true by start w node later opened places (AskMsg key) true out laws s up held is t = rests_true by w.log node later out held t
receives_true by start w node later opened places (HeldMsg key m) true out laws s up held is t = rests_true by w.log node later out held t
receives_true by start w node later opened places body false out laws s up held is t = rests_true by w.log node later out held t

reported_true : {State : Type 0} (by : Marker State) (start w : World) (node later : MarkedNode) (count : ℕ) (fetched : List Fetched) (body : MarkBody) (bytes lengths : List ℕ) (o : Option Mark) (out : List Outgoing)
    → MarkLaws by → Sound by.service start w → w.node ≡ Some later.plain → OutstandingTrue by w.log node.marking
    → MatchOption o (RestsMarked node out later) (λ m. FetchesMarked by node count (begun_on bytes lengths (so_far node fetched)) (marking_fetched body node.marking) out later) → OutGoesTrue by node w.log out later
reported_true by start w node later count fetched body bytes lengths None out laws s up held t = rests_true by w.log node later out held t
reported_true by start w node later count fetched body bytes lengths (Some m) out laws s up held t =
    let now : FetchedSoFar = begun_on bytes lengths (so_far node fetched) in
    continues_true by start w node later count now (marking_fetched body node.marking) (next_question node.plain.boot count now) out laws s up (none_outstanding by w.log node.marking body held) refl t

mark_turn_true : {State : Type 0} (by : Marker State) (start w : World) (node later : MarkedNode) (bytes lengths : List ℕ) (stage : Stage) (message : MarkMessage) (out : List Outgoing)
    → MarkLaws by → Sound by.service start w → w.node ≡ Some later.plain → OutstandingTrue by w.log node.marking → node.plain.stage ≡ stage
    → MarkTurn by bytes lengths node stage message out later → OutGoesTrue by node w.log out later
mark_turn_true by start w node later bytes lengths (Fetching count fetched) message out laws s up held is t =
    reported_true by start w node later count fetched message.body bytes lengths (mark_reported by.writing node.plain.boot message (so_far node fetched)) out laws s up held t
mark_turn_true by start w node later bytes lengths (Serving opened places) message out laws s up held is t =
    receives_true by start w node later opened places message.body (message.boot == node.plain.boot) out laws s up held is t
mark_turn_true by start w node later bytes lengths Asking message out laws s up held is t = rests_true by w.log node later out held t
mark_turn_true by start w node later bytes lengths (Fenced newer) message out laws s up held is t = rests_true by w.log node later out held t

pub turn_true : {State : Type 0} (by : Marker State) (start w : World) (node later : MarkedNode) (bytes lengths : List ℕ) (input : MarkedInput) (out : List Outgoing)
    → MarkLaws by → Sound by.service start w → w.node ≡ Some later.plain → OutstandingTrue by w.log node.marking
    → InputTurn by bytes lengths node input out later → OutGoesTrue by node w.log out later
turn_true by start w node later bytes lengths (Plain_comes input) out laws s up held t = fence_true by start w node later input (fence node.plain input) out laws s up held t
turn_true by start w node later bytes lengths (Mark_comes message) out laws s up held t = mark_turn_true by start w node later bytes lengths node.plain.stage message out laws s up held refl t
