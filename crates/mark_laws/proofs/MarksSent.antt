-- The law of marks: a node's turns without marks stay as they are, after each turn no mark is due, no tick makes a new one, and each that is sent is true.
use Rattle.std.proofs.Common.{◌≡◌, ◌≤◌, ℕ, suc, ◌+◌, ◌-◌, ◌==◌, Bool, true, false, true≢false, not, ◌&&◌, refl, sym, ap, ap₂, subst, arith, ◌∙◌, Option, Some, None, List, [], ◌∷◌, ◌++◌, length, take, drop, map, sum, length-append, append-nil, append_assoc, if◌then◌else◌}
use Rattle.std.specs.Prelude.{nat_lt, nat_le, is_none}
use Rattle.std.specs.Bool.{MatchBool}
use Rattle.std.specs.List.{AllByRecursion}
use Rattle.std.specs.Option.{option_map_or}
use Rattle.std.proofs.lemmas.List.{take-append-drop, map-append}
use Rattle.std.proofs.Math.Seq.{take-append_seam, drop-append_seam}
use Rattle.ft_io.specs.declared.Addr.{Addr}
use Rattle.ft_io.specs.declared.Key.{Key}
use Rattle.ft_io.proofs.Choices.{by_cases, holds_if, if_false}
use Rattle.tcp_rules.specs.Profile.{plain}
use Rattle.seq_arith.specs.Mark.{Mark}
use Rattle.seq_arith.specs.Message.{Body}
use Rattle.server_trait.specs.Service.{Machine}
use Rattle.server_trait.specs.Saved.{Writing}
use Rattle.ft_model.specs.Connection.{ConnectionTurn, LiveTurn, ResetTurn, sent_by, reported_by}
use Rattle.ft_model.specs.Copy.{copies}
use Rattle.ft_model.specs.ResetAndEnd.{dones, reset_after}
use Rattle.ft_model.specs.Growth.{IsPrefix}
use Rattle.ft_model.specs.Log.{Entry}
use Rattle.ft_model.specs.Network.{Packet}
use Rattle.ft_model.specs.Network.Packet.{To_client}
use Rattle.ft_model.specs.News.{News}
use Rattle.ft_model.specs.News.News.{Ticks}
use Rattle.ft_model.specs.Answered.{reads_answered_after}
use Rattle.ft_model.specs.Point.{Point, blank_point, made, whole_run}
use Rattle.ft_model.specs.Reads.{next_read, next_length, may_read, MakesReads, reads_reported}
use Rattle.ft_model.specs.Segments.{segments_of}
use Rattle.ft_model.specs.Sending.{acknowledged_after}
use Rattle.ft_model.specs.Taken.{taken_after, fin_after}
use Rattle.ft_model.specs.Timer.{is_tick}
use Rattle.ft_model.proofs.Lists.{all_append}
use Rattle.ft_model.proofs.TurnReports.{settled_reads}
use Rattle.ft_model.proofs.Running.{none_made}
use Rattle.mark_laws.specs.MarkedLog.{has_closing}
use Rattle.mark_laws.specs.Quiet.{IsQuiet, is_quiet, mark_of}
use Rattle.mark_laws.specs.Runs.{IsRunOf}
use Rattle.mark_laws.specs.Marking.{Marking, is_due, new_marks, with_new, outstanding_in, repeated, marking_answered, marks_sent, Outgoing, marks_out, with_marks, without_marks, MarkingTurn, MarkedTurn, IsSettled, MarksNothing, OnlyRepeats, AreTrue, ReportsTruth}
use Rattle.mark_laws.specs.Marking.Outgoing.{Plain, Mark_to_logger}
use Rattle.mark_laws.proofs.Runs.{quiet_marks}

-- the four tests of a quiet point
four_hold : (answered reads una made : ℕ) (closing closed : Bool) → answered ≡ reads → una ≡ made → closing ≡ false → closed ≡ false
    → (answered == reads && una == made && not closing && not closed) ≡ true
four_hold answered reads una made closing closed a b c d = grind (arith, a, b, c, d)

record Four (answered reads una made : ℕ) (closing closed : Bool) : Type 0 where
  one : answered ≡ reads
  two : una ≡ made
  three : closing ≡ false
  four : closed ≡ false

four_of : (answered reads una made : ℕ) (closing closed : Bool) → (answered == reads && una == made && not closing && not closed) ≡ true → Four answered reads una made closing closed
four_of answered reads una made closing closed h = record { one = grind (arith, h); two = grind (arith, h); three = grind (arith, h); four = grind (arith, h) }

pub is_quiet_there : {State : Type 0} (service : Machine State) (p : Point) → IsQuiet service p → is_quiet service p ≡ true
is_quiet_there service p q =
    four_hold p.reads_answered (length p.lengths) p.una (made service p) (has_closing p.lengths) (whole_run service p).closed q.answered q.acknowledged q.reads_on q.running

pub quiet_where_it_is : {State : Type 0} (service : Machine State) (p : Point) → is_quiet service p ≡ true → IsQuiet service p
quiet_where_it_is service p h =
    let four = four_of p.reads_answered (length p.lengths) p.una (made service p) (has_closing p.lengths) (whole_run service p).closed h in
    record { answered = four.one; acknowledged = four.two; reads_on = four.three; running = four.four }

-- without its marks a turn is the one that it was
pub without_append : (xs ys : List Outgoing) → without_marks (xs ++ ys) ≡ without_marks xs ++ without_marks ys
without_append [] ys = refl
without_append (Plain packet ∷ xs) ys = ap (λ l. packet ∷ l) (without_append xs ys)
without_append (Mark_to_logger message ∷ xs) ys = without_append xs ys

pub without_plain : (packets : List Packet) → without_marks (map Plain packets) ≡ packets
without_plain [] = refl
without_plain (packet ∷ packets) = ap (λ l. packet ∷ l) (without_plain packets)

pub without_out : (boot : ℕ) (p : Point) (marks : List Mark) → without_marks (marks_out boot p marks) ≡ []
without_out boot p [] = refl
without_out boot p (mark ∷ marks) = without_out boot p marks

packets_stay : (behind boot : ℕ) (p : Point) (marks : List Mark) (packets : List Packet) → without_marks (with_marks behind (marks_out boot p marks) packets) ≡ packets
packets_stay behind boot p marks packets =
    let k : ℕ = length packets - behind in
    without_append (map Plain (take k packets)) (marks_out boot p marks ++ map Plain (drop k packets))
    ∙ (ap₂ ◌++◌ (without_plain (take k packets))
    (without_append (marks_out boot p marks) (map Plain (drop k packets)) ∙ ap₂ ◌++◌ (without_out boot p marks) (without_plain (drop k packets)))
    ∙ take-append-drop k packets)

pub turn_stays : {State : Type 0} (service : Machine State) (writing : Writing State) (every : ℕ) (server : Addr) (boot : ℕ) (news : News) (p q : Point) (m n : Marking) (sent : List Outgoing)
    → MarkingTurn service writing every server boot news p q m n sent → ConnectionTurn service server boot news p q (without_marks sent)
turn_stays service writing every server boot news p q m n sent t =
    let same : without_marks sent ≡ t.packets =
    ap without_marks t.sent_are ∙ packets_stay (length (dones news p q)) boot q (marks_sent service writing every news m q) t.packets in
    subst (ConnectionTurn service server boot news p q) (sym same) t.turn

-- where marks stand
cut_at : (xs ys : ℕ) → xs + ys - ys ≡ xs
cut_at xs ys = omega arith

before_the_last : (marks : List Outgoing) (xs ys : List Packet) → with_marks (length ys) marks (xs ++ ys) ≡ map Plain xs ++ (marks ++ map Plain ys)
before_the_last marks xs ys =
    let k : length (xs ++ ys) - length ys ≡ length xs = ap (λ n. n - length ys) (length-append xs ys) ∙ cut_at (length xs) (length ys) in
    ap (λ n. map Plain (take n (xs ++ ys)) ++ (marks ++ map Plain (drop n (xs ++ ys)))) k
    ∙ ap₂ (λ a b. map Plain a ++ (marks ++ map Plain b)) (take-append_seam xs ys) (drop-append_seam xs ys)

same_length : (boot : ℕ) (bodies : List Body) → length (map (reported_by boot) bodies) ≡ length bodies
same_length boot [] = refl
same_length boot (body ∷ bodies) = ap suc (same_length boot bodies)

pub stand_before_done : {State : Type 0} (service : Machine State) (server : Addr) (boot : ℕ) (news : News) (p q : Point) (marks : List Outgoing)
    → with_marks (length (dones news p q)) marks (sent_by service server boot news p q)
    ≡ map Plain (map To_client (segments_of service server news p q) ++ map (reported_by boot) (copies news p q ++ reads_reported news p q)) ++ (marks ++ map Plain (map (reported_by boot) (dones news p q)))
stand_before_done service server boot news p q marks =
    let segments : List Packet = map To_client (segments_of service server news p q) in
    let reported : List Packet = map (reported_by boot) (copies news p q ++ reads_reported news p q) in
    let last : List Packet = map (reported_by boot) (dones news p q) in
    let parts : sent_by service server boot news p q ≡ segments ++ reported ++ last =
    ap (λ l. segments ++ map (reported_by boot) l) (sym (append_assoc (copies news p q) (reads_reported news p q) (dones news p q)))
    ∙ (ap (λ l. segments ++ l) (map-append (reported_by boot) (copies news p q ++ reads_reported news p q) (dones news p q)) ∙ sym (append_assoc segments reported last)) in
    ap₂ (λ n l. with_marks n marks l) (sym (same_length boot (dones news p q))) parts ∙ before_the_last marks (segments ++ reported) last

-- a node that marks nothing
pub plain_map : (k : ℕ) (packets : List Packet) → with_marks k [] packets ≡ map Plain packets
plain_map k packets =
    let n : ℕ = length packets - k in sym (map-append Plain (take n packets) (drop n packets)) ∙ ap (map Plain) (take-append-drop n packets)

either_way : (b : Bool) (marks : List Mark) → (if b then marks else marks) ≡ marks
either_way true marks = refl
either_way false marks = refl

none_repeated : (news : News) (m : Marking) → m.outstanding ≡ None → repeated news m ≡ []
none_repeated news m none = ap (λ (o : Option Mark). if is_tick news then option_map_or (λ mark. mark ∷ []) o [] else []) none ∙ either_way (is_tick news) []

pub unmarked_turn : {State : Type 0} (service : Machine State) (writing : Writing State) (server : Addr) (boot : ℕ) (news : News) (p q : Point) (m n : Marking) (sent : List Outgoing)
    → m.outstanding ≡ None → (t : MarkingTurn service writing 0 server boot news p q m n sent) → MarksNothing t.packets m n sent
unmarked_turn service writing server boot news p q m n sent none t = record {
  sent_are = t.sent_are
      ∙ (ap (λ l. with_marks (length (dones news p q)) (marks_out boot q (l ++ [])) t.packets) (none_repeated news m none) ∙ plain_map (length (dones news p q)) t.packets);
  marking = t.marking;
}

-- after a turn no mark is due
pub not_twice : (a b c : Bool) → (a && false && b && c) ≡ false
not_twice a b c = grind (arith)

pub none_due : {State : Type 0} (service : Machine State) (writing : Writing State) (every : ℕ) (m : Marking) (p : Point) → is_due service every (with_new service writing every p m) p ≡ false
none_due service writing every m p =
    by_cases (is_due service every m p)
    (λ due. subst (λ b. is_due service every (if b then record { last = length p.lengths; outstanding = Some (mark_of service writing p) } else m) p ≡ false) (sym due)
    (not_twice (nat_lt 0 every) (is_quiet service p) (nat_le (length p.lengths + every) (length p.lengths))))
    (λ off. subst (λ b. is_due service every (if b then record { last = length p.lengths; outstanding = Some (mark_of service writing p) } else m) p ≡ false) (sym off) off)

live_of : {State : Type 0} (service : Machine State) (server : Addr) (boot : ℕ) (news : News) (p q : Point) (packets : List Packet) → ConnectionTurn service server boot news p q packets
    → reset_after news p ≡ false → LiveTurn service server boot news p q packets
live_of service server boot news p q packets t off = subst (λ b. MatchBool b (ResetTurn boot news p q packets) (LiveTurn service server boot news p q packets)) off t

reset_of : {State : Type 0} (service : Machine State) (server : Addr) (boot : ℕ) (news : News) (p q : Point) (packets : List Packet) → ConnectionTurn service server boot news p q packets
    → reset_after news p ≡ true → ResetTurn boot news p q packets
reset_of service server boot news p q packets t on = subst (λ b. MatchBool b (ResetTurn boot news p q packets) (LiveTurn service server boot news p q packets)) on t

pub turn_settles : {State : Type 0} (service : Machine State) (writing : Writing State) (every : ℕ) (server : Addr) (boot : ℕ) (news : News) (p q : Point) (m n : Marking) (sent : List Outgoing)
    → MarkingTurn service writing every server boot news p q m n sent → IsSettled service every n q
turn_settles service writing every server boot news p q m n sent t = record {
  marked = subst (λ (x : Marking). is_due service every x q ≡ false) (sym t.marking) (none_due service writing every m q);
  read_out = λ live.
      by_cases (reset_after news p)
      (λ on. let is_reset : q.reset ≡ true = ap (λ (x : Point). x.reset) (reset_of service server boot news p q t.packets t.turn on).point in absurd (true≢false (sym is_reset ∙ live)))
      (λ off. settled_reads service server boot news p q t.packets (live_of service server boot news p q t.packets t.turn off));
}

pub answer_settles : {State : Type 0} (service : Machine State) (writing : Writing State) (every boot reads : ℕ) (p : Point) (m n : Marking) (sent : List Outgoing) → IsSettled service every m p
    → MarkedTurn service writing every boot reads p m n sent → IsSettled service every n p
answer_settles service writing every boot reads p m n sent s t = record {
  marked = subst (λ (x : Marking). is_due service every x p ≡ false) (sym t.marking) (none_due service writing every (marking_answered reads m) p);
  read_out = s.read_out;
}

-- what the law of reads looks at, and what makes a mark due
abbrev reading_part : Key → Point → Point
reading_part key p =
    record (blank_point plain key 0 0 0) { taken = p.taken; fin = p.fin; fetched = p.fetched; lengths = p.lengths; una = p.una; reads_answered = p.reads_answered }

next_by_part : {State : Type 0} (service : Machine State) (key : Key) (p : Point) → next_read service p ≡ next_read service (reading_part key p)
unfolding next_length may_read
next_by_part service key p = refl

due_by_part : {State : Type 0} (service : Machine State) (every : ℕ) (m : Marking) (key : Key) (p : Point) → is_due service every m p ≡ is_due service every m (reading_part key p)
due_by_part service every m key p = refl

-- a tick leaves that as it was
record IsStill (p q : Point) : Type 0 where
  taken : q.taken ≡ p.taken
  fin : q.fin ≡ p.fin
  fetched : q.fetched ≡ p.fetched
  una : q.una ≡ p.una
  reads_answered : q.reads_answered ≡ p.reads_answered

tick_still : {State : Type 0} (service : Machine State) (server : Addr) (boot : ℕ) (p q : Point) (packets : List Packet) → LiveTurn service server boot Ticks p q packets → IsStill p q
unfolding taken_after fin_after acknowledged_after reads_answered_after
tick_still service server boot p q packets t = record { taken = t.taken; fin = t.fin; fetched = t.same.fetched; una = t.una; reads_answered = t.reads_answered }

same_part : (key : Key) (p q : Point) → IsStill p q → q.lengths ≡ p.lengths → reading_part key q ≡ reading_part key p
same_part key p q s lengths =
    λ j. record (blank_point plain key 0 0 0) {
      taken = s.taken j;
      fin = s.fin j;
      fetched = s.fetched j;
      lengths = lengths j;
      una = s.una j;
      reads_answered = s.reads_answered j;
    }

tick_lengths : {State : Type 0} (service : Machine State) (p q : Point) → next_read service p ≡ None → IsStill p q → MakesReads service p q → q.lengths ≡ p.lengths
tick_lengths service p q none still made =
    let r : Point = record q { lengths = p.lengths } in
    let same : next_read service r ≡ next_read service p =
    next_by_part service p.key r
    ∙ (ap (next_read service)
    (same_part p.key p r (record { taken = still.taken; fin = still.fin; fetched = still.fetched; una = still.una; reads_answered = still.reads_answered }) refl)
    ∙ sym (next_by_part service p.key p)) in
    made.lengths ∙ (ap (λ l. p.lengths ++ l) (none_made service r made.news (same ∙ none) made.makes) ∙ append-nil p.lengths)

still_due : {State : Type 0} (service : Machine State) (every : ℕ) (m : Marking) (p q : Point) → IsStill p q → q.lengths ≡ p.lengths → is_due service every m q ≡ is_due service every m p
still_due service every m p q still lengths =
    due_by_part service every m p.key q ∙ (ap (is_due service every m) (same_part p.key p q still lengths) ∙ sym (due_by_part service every m p.key p))

reset_due : {State : Type 0} (service : Machine State) (every boot : ℕ) (m : Marking) (p q : Point) (packets : List Packet) → ResetTurn boot Ticks p q packets
    → is_due service every m q ≡ is_due service every m p
unfolding reads_answered_after
reset_due service every boot m p q packets t = ap (is_due service every m) t.point

unreset : (p : Point) → reset_after Ticks p ≡ p.reset
unfolding reset_after
unreset p = refl

pub tick_makes_none : {State : Type 0} (service : Machine State) (writing : Writing State) (every : ℕ) (server : Addr) (boot : ℕ) (p q : Point) (m n : Marking) (sent : List Outgoing)
    → IsSettled service every m p → MarkingTurn service writing every server boot Ticks p q m n sent → is_due service every m q ≡ false
tick_makes_none service writing every server boot p q m n sent s t =
    by_cases (reset_after Ticks p)
    (λ on. reset_due service every boot m p q t.packets (reset_of service server boot Ticks p q t.packets t.turn on) ∙ s.marked)
    (λ off. let live = live_of service server boot Ticks p q t.packets t.turn off in
    let still : IsStill p q = tick_still service server boot p q t.packets live in
    let lengths : q.lengths ≡ p.lengths = tick_lengths service p q (s.read_out (sym (unreset p) ∙ off)) still live.reads in
    still_due service every m p q still lengths ∙ s.marked)

-- only the outstanding one goes out
pub tick_repeats : {State : Type 0} (service : Machine State) (writing : Writing State) (every : ℕ) (server : Addr) (boot : ℕ) (p q : Point) (m n : Marking) (sent : List Outgoing)
    → IsSettled service every m p → (t : MarkingTurn service writing every server boot Ticks p q m n sent) → OnlyRepeats (length (dones Ticks p q)) boot q t.packets m n sent
tick_repeats service writing every server boot p q m n sent s t =
    let none : is_due service every m q ≡ false = tick_makes_none service writing every server boot p q m n sent s t in
    record {
      sent_are = t.sent_are
          ∙ (ap (λ b. with_marks (length (dones Ticks p q)) (marks_out boot q (outstanding_in m ++ (if b then mark_of service writing q ∷ [] else []))) t.packets) none
          ∙ ap (λ l. with_marks (length (dones Ticks p q)) (marks_out boot q l) t.packets) (append-nil (outstanding_in m)));
      marking = t.marking ∙ ap (λ b. if b then record { last = length q.lengths; outstanding = Some (mark_of service writing q) } else m) none;
    }

-- each mark that is sent is true of the log
quiet_of : (a b c : Bool) (quiet : Bool) → (a && b && quiet && c) ≡ true → quiet ≡ true
quiet_of a b c quiet h = grind (arith, h)

pub new_ones_true : {State : Type 0} (service : Machine State) (writing : Writing State) (every : ℕ) (m : Marking) (p : Point) (e : Entry) → (IsQuiet service p → IsRunOf service writing e (mark_of service writing p))
    → AreTrue service writing e (new_marks service writing every m p)
new_ones_true service writing every m p e is_true =
    holds_if (AreTrue service writing e) (is_due service every m p) (mark_of service writing p ∷ []) []
    (λ due. (is_true (quiet_where_it_is service p (quiet_of (nat_lt 0 every) (is_none m.outstanding) (nat_le (m.last + every) (length p.lengths)) (is_quiet service p) due)), tt)) (λ off. tt)

pub outstanding_true : {State : Type 0} (service : Machine State) (writing : Writing State) (every : ℕ) (m : Marking) (p : Point) (e : Entry) → (IsQuiet service p → IsRunOf service writing e (mark_of service writing p))
    → AreTrue service writing e (outstanding_in m) → AreTrue service writing e (outstanding_in (with_new service writing every p m))
outstanding_true service writing every m p e is_true held =
    holds_if (λ (x : Marking). AreTrue service writing e (outstanding_in x)) (is_due service every m p)
    (record { last = length p.lengths; outstanding = Some (mark_of service writing p) }) m
    (λ due. (is_true (quiet_where_it_is service p (quiet_of (nat_lt 0 every) (is_none m.outstanding) (nat_le (m.last + every) (length p.lengths)) (is_quiet service p) due)), tt)) (λ off. held)

repeated_true : {State : Type 0} (service : Machine State) (writing : Writing State) (news : News) (m : Marking) (e : Entry) → AreTrue service writing e (outstanding_in m)
    → AreTrue service writing e (repeated news m)
repeated_true service writing news m e held = holds_if (AreTrue service writing e) (is_tick news) (outstanding_in m) [] (λ on. held) (λ off. tt)

pub reports_truth : {State : Type 0} (service : Machine State) (writing : Writing State) (every : ℕ) (news : News) (script : List ℕ) (m : Marking) (q : Point) (e : Entry)
    → IsPrefix q.taken script → sum q.lengths ≤ length q.taken → IsPrefix e.bytes script → sum e.lengths ≤ length e.bytes → IsPrefix e.lengths q.lengths → q.reads_answered ≤ length e.lengths
    → AreTrue service writing e (outstanding_in m) → ReportsTruth service writing every news m q e
reports_truth service writing every news script m q e taken within fits enough front known held =
    let is_true : IsQuiet service q → IsRunOf service writing e (mark_of service writing q) = quiet_marks service writing script q e taken within fits enough front known in
    record {
      sent = all_append (IsRunOf service writing e) (repeated news m) (new_marks service writing every m q) (repeated_true service writing news m e held)
          (new_ones_true service writing every m q e is_true);
      outstanding = outstanding_true service writing every m q e is_true held;
    }

-- a new mark counts what is acknowledged and logged
pub counts_answered : {State : Type 0} (service : Machine State) (writing : Writing State) (every : ℕ) (m : Marking) (p : Point)
    → AllByRecursion (λ mark. (mark.made ≡ p.una) × (mark.reads ≡ p.reads_answered)) (new_marks service writing every m p)
counts_answered service writing every m p =
    holds_if (AllByRecursion (λ (mark : Mark). (mark.made ≡ p.una) × (mark.reads ≡ p.reads_answered))) (is_due service every m p) (mark_of service writing p ∷ []) []
    (λ due. let q : IsQuiet service p = quiet_where_it_is service p (quiet_of (nat_lt 0 every) (is_none m.outstanding) (nat_le (m.last + every) (length p.lengths)) (is_quiet service p) due) in
    ((sym q.acknowledged, sym q.answered), tt)) (λ off. tt)

not_while : (a b c d : Bool) → b ≡ false → (a && b && c && d) ≡ false
not_while a b c d h = grind (arith, h)

-- .. and none is made while one is outstanding
pub none_while_outstanding : {State : Type 0} (service : Machine State) (writing : Writing State) (every : ℕ) (m : Marking) (p : Point) (mark : Mark) → m.outstanding ≡ Some mark
    → new_marks service writing every m p ≡ []
none_while_outstanding service writing every m p mark is =
    if_false (is_due service every m p) (mark_of service writing p ∷ []) []
    (not_while (nat_lt 0 every) (is_none m.outstanding) (is_quiet service p) (nat_le (m.last + every) (length p.lengths)) (ap is_none is))
