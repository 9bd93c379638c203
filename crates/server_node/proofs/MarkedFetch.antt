-- A node that marks, while it fetches the log.
use Rattle.std.proofs.Common.{◌≡◌, ◌∙◌, ℕ, ◌<◌, ◌+◌, Bool, true, false, true≢false, ◌==◌, ◌&&◌, not, refl, sym, ap, subst, nat_lt, nat_le, Option, Some, None, IfSome, MatchOption, option_map, List, [], ◌∷◌, ◌++◌, map, length, ltb-true, eq-eqb, if◌then◌else◌}
use Rattle.std.specs.Option.{option_to_list}
use Rattle.std.proofs.lemmas.Bool.{and_parts}
use Rattle.ft_io.specs.declared.Key.{Key}
use Rattle.ft_io.specs.Key.{key_eq}
use Rattle.ft_io.proofs.Choices.{holds_if}
use Rattle.seq_arith.specs.Mark.{Mark, MarkBody, MarkMessage}
use Rattle.seq_arith.specs.Mark.MarkBody.{MarkMsg, MarkedMsg, AskMsg, HeldMsg}
use Rattle.seq_arith.specs.Message.{Message, Body}
use Rattle.seq_arith.specs.Message.Body.{HelloMsg, EntryMsg, PartMsg, LensMsg}
use Rattle.seq_arith.specs.Packet.{Segment}
use Rattle.server_trait.specs.Service.{Machine, Served, AreBytes}
use Rattle.ft_model.specs.Connection.{reported_by}
use Rattle.ft_model.specs.Lawful.{AreSound, StageTurn, Rests, Fetches, Continues as PlainContinues, asked, held, count_reported, summary_count, fence, fetched_then, restored_count}
use Rattle.ft_model.specs.Node.{Node, Place, Input, Stage as law_stage, place_at}
use Rattle.ft_model.specs.Node.Input.{Packet_comes, Message_comes, Tick_comes}
use Rattle.ft_model.specs.Node.Stage.{Asking, Fetching, Serving, Fenced}
use Rattle.ft_model.specs.Restart.{Fetched, Wanted, wanted, question, is_fetched, fetched_by, fetched_after, all_follow}
use Rattle.ft_model.specs.Restart.Wanted.{An_entry, Its_bytes, Its_lengths}
use Rattle.ft_model.specs.Wire.{Wire}
use Rattle.ft_model.proofs.Lists.{all_append, none_is_some}
use Rattle.mark_laws.specs.MarkedLog.{AnyMessage}
use Rattle.mark_laws.specs.MarkedLog.AnyMessage.{About_mark, Of_log}
use Rattle.mark_laws.specs.Marking.{Marking, Outgoing}
use Rattle.mark_laws.specs.Marking.Outgoing.{Plain}
use Rattle.mark_laws.specs.MarkedNode.MarkedInput.{Plain_comes}
use Rattle.mark_laws.specs.Restart.{FetchedSoFar, next_question, fetched_on, mark_reported, mark_of_newest, IsFront, begun_on, with_front, awaits_after}
use Rattle.mark_laws.specs.MarkedNode.{Marker, MarkedNode, RestsMarked, InputTurn, UnlessFenced, PlainTurn, MarkTurn, Continues, FetchesMarked, so_far, outgoing, marking_fetched, marking_then}
use Rattle.reincarnate.specs.Marking.{uses, used_if, awaits, marks_after, marked_on}
use Rattle.reincarnate.specs.Progress.{EntryState}
use Rattle.reincarnate.specs.Questions.{FetchingState, begun_fetching, after_answer, noted, log_received, with_marked, held_received, mark_received, any_received}
use Rattle.reincarnate.specs.Refinement.{StandsSoFar, AnyLeads}
use Rattle.reincarnate.specs.declared.marks.Marks.{Marks}
use Rattle.reincarnate.specs.declared.marks.Marks.TheVariants as marks
use Rattle.conn_marks.specs.KeyMarks.{KeyMarks, every_for}
use Rattle.conn_marks.specs.MarkSends.{AreOut}
use Rattle.conn_marks.specs.Settled.{Keeps}
use Rattle.node_serving.specs.declared.identity.Identity.{Identity}
use Rattle.server_node.specs.declared.marked.Marked.{Marked}
use Rattle.server_node.specs.declared.marked.MarkedStage.{MarkedStage}
use Rattle.server_node.specs.declared.marked.MarkedStage.TheVariants as marked
use Rattle.node_serving.specs.declared.serving.Serving.{Serving as CodeServing}
use Rattle.conn_marks.proofs.MarkWires.{plain_out}
use Rattle.server_node.specs.FetchStage.{AreDistinct, FetchingStands}
use Rattle.node_serving.specs.SentBytes.{ArePut}
use Rattle.node_serving.specs.Identity.{node_of, grammar_in}
use Rattle.server_node.specs.MarkedNumbers.{AllNumberedAt, entries_of}
use Rattle.server_node.specs.MarkedRestart.{AllBytes, AreRestoredMarked}
use Rattle.server_node.specs.MarkedTurns.{FetchingStandsMarked, MarkedStands, Proceeds, TurnsOn, FetchesOn, IsFairTo, IsSoundStart, IsUnfencedMarked, Notes, marking_noted, BodyBytes, IsPartBytes, SendsQuestion, input_of_any}
use Rattle.node_serving.specs.Markers.{node_at}
use Rattle.server_node.proofs.FetchAnswer.{IsSame, received_same, then_distinct}
use Rattle.server_node.proofs.Staged.{stand_again}

-- what is fetched stays bytes
chosen : {A : Type 0} (P : A → Type 0) (b : Bool) (x : A) → P x → IfSome (if b then Some x else None) P
chosen P true x p = p
chosen P false x p = tt

by_bytes : (w : Wanted) (body : Body) (fetched : List Fetched) → BodyBytes body → AllBytes fetched → IfSome (fetched_by w body fetched) AllBytes
by_bytes (An_entry index) (EntryMsg i head) fetched b h =
    chosen AllBytes (i == index && not (is_fetched head.key fetched)) (record { head = head; bytes = []; lengths = [] } ∷ fetched) (tt, h)
by_bytes (Its_bytes key offset) (PartMsg k o bytes) (f ∷ earlier) b h =
    chosen AllBytes (key_eq k key && o == offset && nat_le (length f.bytes + length bytes) f.head.length) (record f { bytes = f.bytes ++ bytes } ∷ earlier)
    (all_append (λ n. n < 256) f.bytes bytes h.0 b, h.1)
by_bytes (Its_lengths key first) (LensMsg k o lens) (f ∷ earlier) b h =
    chosen AllBytes (key_eq k key && o == first && nat_le (length f.lengths + length lens) f.head.reads && all_follow f.head.length f.head.fin f.lengths lens)
    (record f { lengths = f.lengths ++ lens } ∷ earlier) h
by_bytes _ _ _ b h = tt

after_bytes : (w : Option Wanted) (body : Body) (fetched : List Fetched) → BodyBytes body → AllBytes fetched → IfSome (fetched_after w body fetched) AllBytes
after_bytes (Some w) body fetched b h = by_bytes w body fetched b h
after_bytes None body fetched b h = tt

then_bytes : (node : Node) (message : Message) (count : ℕ) (fetched : List Fetched) → BodyBytes message.body → AllBytes fetched → IfSome (fetched_then node message count fetched) AllBytes
then_bytes node message count fetched b h = go (message.boot == node.boot)
  where
    go : (c : Bool) → IfSome (if c then fetched_after (wanted count fetched) message.body fetched else None) AllBytes
    go true = after_bytes (wanted count fetched) message.body fetched b h
    go false = tt

-- from what holds of it without marks
on_some : (P : List Fetched → Type 0) (m : Bool) (node : Node) (count : ℕ) (message : Message) (now : FetchedSoFar) → IfSome (fetched_then node message count now.entries) P
    → IfSome (fetched_on m node.boot count message now) (λ more. P more.entries)
on_some P m node count message now h = go now.awaits_mark (fetched_then node message count now.entries) h
  where
    go : (a : Bool) (o : Option (List Fetched)) → IfSome o P
        → IfSome {T = FetchedSoFar} (if a then None else option_map (λ more. record { entries = more; awaits_mark = awaits_after m message.body }) o) (λ more. P more.entries)
    go true o h = tt
    go false None h = tt
    go false (Some more) h = h

begun_distinct : (bytes lengths : List ℕ) (fetched : List Fetched) → AreDistinct fetched → AreDistinct (with_front bytes lengths fetched)
begun_distinct bytes lengths [] d = tt
begun_distinct bytes lengths (f ∷ earlier) d = d

begun_bytes : (bytes lengths : List ℕ) (fetched : List Fetched) → AreBytes bytes → AllBytes fetched → AllBytes (with_front bytes lengths fetched)
begun_bytes bytes lengths [] b h = tt
begun_bytes bytes lengths (f ∷ earlier) b h = (b, h.1)

-- whatever answers it, a restart stays that of its incarnation and of its count, and uses marks as before
pub record IsKeptOn {S : Type 0} (s t : FetchingState S) : Type 0 where
  pub boot : t.boot ≡ s.boot
  pub kind : t.kind ≡ s.kind
  pub so_many : t.count ≡ s.count
  pub uses_marks : uses t.marks ≡ uses s.marks

uses_after : (m : Marks) (body : Body) → uses (marks_after m body) ≡ uses m
uses_after marks.Unused body = refl
uses_after marks.Used body = holds_if (λ x. uses x ≡ true) (awaits_after true body) marks.Awaited marks.Used (λ t. refl) (λ t. refl)
uses_after marks.Awaited body = holds_if (λ x. uses x ≡ true) (awaits_after true body) marks.Awaited marks.Used (λ t. refl) (λ t. refl)

pub awaiting_uses : (m : Marks) → awaits m ≡ true → uses m ≡ true
awaiting_uses marks.Unused a = absurd (true≢false (sym a))
awaiting_uses marks.Used a = refl
awaiting_uses marks.Awaited a = refl

log_kept : {S : Type 0} (started : ℕ → S) (after : S → List ℕ → Served S) (greeting : S → List ℕ) (message : Message) (s : FetchingState S) → IfSome (log_received started after greeting message s) (IsKeptOn s)
log_kept {S} started after greeting message s = go (awaits s.marks) (after_answer started after greeting message s) (received_same started after greeting message s)
  where
    go : (a : Bool) (o : Option (FetchingState S)) → IfSome o (IsSame s) → IfSome (if a then None else option_map (noted (marks_after s.marks message.body)) o) (IsKeptOn s)
    go true o h = tt
    go false None h = tt
    go false (Some x) h = record { boot = h.boot; kind = h.kind; so_many = h.so_many; uses_marks = uses_after s.marks message.body }

held_kept : {S : Type 0} (started : ℕ → S) (greeting : S → List ℕ) (state_of : ℕ → List ℕ → Option S) (body : MarkBody) (s : FetchingState S) → awaits s.marks ≡ true → IfSome (held_received started greeting state_of body s) (IsKeptOn s)
held_kept {S} started greeting state_of (HeldMsg key m) s a = go (marked_on (started s.kind) (greeting (started s.kind)) (state_of s.kind) key m s.newest)
  where
    go : (o : Option (EntryState S)) → IfSome (option_map (with_marked s) o) (IsKeptOn s)
    go None = tt
    go (Some e) = record { boot = refl; kind = refl; so_many = refl; uses_marks = sym (awaiting_uses s.marks a) }
held_kept started greeting state_of (MarkMsg key m) s a = tt
held_kept started greeting state_of (MarkedMsg key reads) s a = tt
held_kept started greeting state_of (AskMsg key) s a = tt

about_kept : {S : Type 0} (started : ℕ → S) (greeting : S → List ℕ) (state_of : ℕ → List ℕ → Option S) (message : MarkMessage) (s : FetchingState S) → IfSome (mark_received started greeting state_of message s) (IsKeptOn s)
about_kept {S} started greeting state_of message s =
    holds_if (λ o. IfSome o (IsKeptOn s)) (message.boot == s.boot && awaits s.marks) (held_received started greeting state_of message.body s) None
    (λ t. held_kept started greeting state_of message.body s (and_parts (message.boot == s.boot) (awaits s.marks) t).1) (λ t. tt)

any_kept_on : {S : Type 0} (started : ℕ → S) (after : S → List ℕ → Served S) (greeting : S → List ℕ) (state_of : ℕ → List ℕ → Option S) (message : AnyMessage) (s : FetchingState S) → IfSome (any_received started after greeting state_of message s) (IsKeptOn s)
any_kept_on started after greeting state_of (Of_log message) s = log_kept started after greeting message s
any_kept_on started after greeting state_of (About_mark message) s = about_kept started greeting state_of message s

pub kept_on : {S : Type 0} (started : ℕ → S) (after : S → List ℕ → Served S) (greeting : S → List ℕ) (state_of : ℕ → List ℕ → Option S) (message : AnyMessage) (s t : FetchingState S) (fits : Bool)
    → MatchOption (any_received started after greeting state_of message s) ((fits ≡ false) × (t ≡ s)) (λ x. (fits ≡ true) × (t ≡ x)) → IsKeptOn s t
kept_on {S} started after greeting state_of message s t fits m = go (any_received started after greeting state_of message s) (any_kept_on started after greeting state_of message s) m
  where
    go : (o : Option (FetchingState S)) → IfSome o (IsKeptOn s) → MatchOption o ((fits ≡ false) × (t ≡ s)) (λ x. (fits ≡ true) × (t ≡ x)) → IsKeptOn s t
    go None h (unfit, same) = subst (IsKeptOn s) (sym same) (record { boot = refl; kind = refl; so_many = refl; uses_marks = refl })
    go (Some x) h (fit, is) = subst (IsKeptOn s) (sym is) h

-- what the node then goes on with

pub goes_by : {S : Type 0} (by : Marker S) (who : Identity) (few more : List Fetched) (P Q : List Outgoing → MarkedNode → Type 0) (now : Marked S) (lent : List Wire) → few ≡ more
    → ((out : List Outgoing) (after : MarkedNode) → P out after → Q out after) → Proceeds by who few P now lent → Proceeds by who more Q now lent
goes_by by who few more P Q now lent same f g = record {
  standing = g.standing;
  awaits = g.awaits;
  marking = g.marking;
  sent = g.sent;
  stands = g.stands;
  goes = f g.sent (node_at who g.standing g.awaits g.marking) g.goes;
  numbers = subst (λ l. AllNumberedAt by.service who.isn l now.stage) same g.numbers;
  out = g.out;
}

-- where nothing is restored, nothing is numbered
none_numbered : {S : Type 0} (service : Machine S) (isn : ℕ) (at : MarkedStage S) → AllNumberedAt service isn [] at
none_numbered service isn marked.Asking = tt
none_numbered service isn (marked.Fetching f) = tt
none_numbered service isn (marked.Serving s) = tt

pub rests_on : {S : Type 0} (by : Marker S) (who : Identity) (standing : law_stage) (awaits : Bool) (marking : Key → Marking) (now : Marked S) (lent : List Wire)
    → MarkedStands by (node_at who standing awaits marking) now → lent ≡ [] → Proceeds by who [] (RestsMarked (node_at who standing awaits marking)) now lent
rests_on by who standing awaits marking now lent st none =
    record {
      standing = standing;
      awaits = awaits;
      marking = marking;
      sent = [];
      stands = st;
      goes = (refl, refl);
      numbers = none_numbered by.service who.isn now.stage;
      out = record { wires = none; spelled = tt };
    }

-- a question more
pub asks_on : {S : Type 0} (by : Marker S) (who : Identity) (standing : law_stage) (awaits : Bool) (before marking : Key → Marking) (count : ℕ) (now : FetchedSoFar) (f : FetchingState S) (m : KeyMarks) (question : AnyMessage) (lent : List Wire)
    → Keeps by marking m → FetchingStandsMarked by count now f → next_question who.boot count now ≡ Some question → AreOut (grammar_in who) (outgoing question ∷ []) [] lent
    → FetchesOn by who (node_at who standing awaits before) count now marking (record { stage = marked.Fetching f; marks = m }) lent
asks_on by who standing awaits before marking count now f m question lent keeps st next out = record {
  standing = Fetching count now.entries;
  awaits = now.awaits_mark;
  marking = marking;
  sent = outgoing question ∷ [];
  stands = record { keeps = keeps; stage = st };
  goes = subst (λ o. Continues by (node_at who standing awaits before) count now marking o (outgoing question ∷ []) (node_at who (Fetching count now.entries) now.awaits_mark marking)) (sym next) (refl, refl);
  numbers = tt;
  out = out;
}

-- nothing is missing any more
pub ends_on : {S : Type 0} (by : Marker S) (who : Identity) (standing : law_stage) (awaits : Bool) (before marking : Key → Marking) (count : ℕ) (now : FetchedSoFar) (serving : CodeServing S) (m : KeyMarks) (lent : List Wire)
    → next_question who.boot count now ≡ None → AreRestoredMarked by (node_of who standing) marking now.entries serving m [] lent
    → FetchesOn by who (node_at who standing awaits before) count now marking (record { stage = marked.Serving serving; marks = m }) lent
ends_on by who standing awaits before marking count now serving m lent next r =
    let after : law_stage = Serving (restored_count now.entries) r.places in record {
      standing = after;
      awaits = false;
      marking = λ key. marking_then by (place_at key r.places) (marking key);
      sent = r.sent;
      stands = record {
        keeps = r.keeps;
        stage = (record { number = r.stands.number; slots = stand_again by.service who standing after serving.slots.entries r.places r.stands.slots }, r.settled);
      };
      goes = subst
          (λ o. Continues by (node_at who standing awaits before) count now marking o r.sent
          (node_at who after false (λ key. marking_then by (place_at key r.places) (marking key)))) (sym next) (r.places, r.go, refl);
      numbers = r.numbers;
      out = r.out;
    }

-- a message that may be an answer
keeps_noted : {S : Type 0} (by : Marker S) (body : MarkBody) (marking : Key → Marking) (was now : KeyMarks) → Keeps by marking was → marking_noted body was now → Keeps by (marking_fetched body marking) now
keeps_noted by (HeldMsg key m) marking was now keeps changes = record {
  every = changes.every ∙ keeps.every;
  each = λ k. changes.marking k ∙ ap (λ x. if key_eq k key then record { last = m.reads; outstanding = None } else x) (keeps.each k);
}
keeps_noted by (MarkMsg key m) marking was now keeps same = subst (Keeps by marking) (sym same) keeps
keeps_noted by (MarkedMsg key reads) marking was now keeps same = subst (Keeps by marking) (sym same) keeps
keeps_noted by (AskMsg key) marking was now keeps same = subst (Keeps by marking) (sym same) keeps

some_awaited : {S : Type 0} (by : Marker S) (boot : ℕ) (message : MarkMessage) (now : FetchedSoFar) (m : Mark) → mark_reported by.writing boot message now ≡ Some m → now.awaits_mark ≡ true
some_awaited by boot message now m e = go (message.boot == boot) now.awaits_mark (mark_of_newest by.writing message.body now.entries) e
  where
    go : (a b : Bool) (o : Option Mark) → (if a && b then o else None) ≡ Some m → b ≡ true
    go true true o h = refl
    go true false o h = none_is_some m h
    go false true o h = refl
    go false false o h = none_is_some m h

module _ {S : Type 0} (by : Marker S) (who : Identity) (count : ℕ) (fetched : List Fetched) (awaited : Bool) (marking : Key → Marking) (bytes lengths : List ℕ) where
  abbrev here : MarkedNode
  here = node_at who (Fetching count fetched) awaited marking

  -- what is fetched where a mark is reported
  abbrev begun_where : Option Mark → List Fetched
  begun_where o = entries_of (option_map (λ x. begun_on bytes lengths (so_far here fetched)) o)

  -- what is then asked of the rest of the turn
  abbrev pub ProceedsWith : FetchingState S → KeyMarks → Marked S → List Wire → Type 0
  ProceedsWith t later now lent =
      (then_marking : Key → Marking) (more : FetchedSoFar) → Keeps by then_marking later → FetchingStandsMarked by count more t → AreSound by.service more.entries
      → FetchesOn by who here count more then_marking now lent

  took_log : (message : Message) (f t : FetchingState S) (fits : Bool) (m later : KeyMarks) (now : Marked S) (lent : List Wire) (o : Option FetchedSoFar)
      → fetched_on (nat_lt 0 by.every) who.boot count message (so_far here fetched) ≡ o → fence here.plain (Message_comes message) ≡ None
      → IfSome o (λ more. AreSound by.service more.entries) → IfSome o (λ more. AreDistinct more.entries) → IfSome o (λ more. AllBytes more.entries)
      → FetchingStandsMarked by count (so_far here fetched) f → Keeps by marking m → IsKeptOn f t
      → MatchOption o ((fits ≡ false) × (t ≡ f)) (λ more. (fits ≡ true) × StandsSoFar by.service more t)
      → (fits ≡ false → (now ≡ record { stage = marked.Fetching t; marks = m }) × (lent ≡ [])) → (fits ≡ true → (later ≡ m) × ProceedsWith t later now lent)
      → Proceeds by who (entries_of (fetched_on (nat_lt 0 by.every) who.boot count message (so_far here fetched))) (UnlessFenced by here (Message_comes message) (fence here.plain (Message_comes message))) now lent
  took_log message f t fits m later now lent None is unfenced sound distinct whole st keeps kept leads unfit fit =
      let u = unfit leads.0 in
      let stands : MarkedStands by here (record { stage = marked.Fetching t; marks = m }) =
      record { keeps = keeps; stage = subst (FetchingStandsMarked by count (so_far here fetched)) (sym leads.1) st } in
      goes_by by who [] (entries_of (fetched_on (nat_lt 0 by.every) who.boot count message (so_far here fetched))) (RestsMarked here) (UnlessFenced by here (Message_comes message) (fence here.plain (Message_comes message))) now lent
      (sym (ap entries_of is))
      (λ out after r. subst (λ x. UnlessFenced by here (Message_comes message) x out after) (sym unfenced)
      (subst (λ x. MatchOption x (RestsMarked here out after) (λ more. FetchesMarked by here count more marking out after)) (sym is) r))
      (rests_on by who (Fetching count fetched) awaited marking now lent (subst (MarkedStands by here) (sym u.0) stands) u.1)
  took_log message f t fits m later now lent (Some more) is unfenced sound distinct whole st keeps kept leads unfit fit =
      let g = fit leads.0 in
      goes_by by who more.entries (entries_of (fetched_on (nat_lt 0 by.every) who.boot count message (so_far here fetched))) (FetchesMarked by here count more marking) (UnlessFenced by here (Message_comes message) (fence here.plain (Message_comes message))) now lent
      (sym (ap entries_of is))
      (λ out after r. subst (λ x. UnlessFenced by here (Message_comes message) x out after) (sym unfenced)
      (subst (λ x. MatchOption x (RestsMarked here out after) (λ more. FetchesMarked by here count more marking out after)) (sym is) r))
      (g.1 marking more (subst (Keeps by marking) (sym g.0) keeps)
      (record { so_many = kept.so_many ∙ st.so_many; distinct = distinct; entries = leads.1; uses_marks = kept.uses_marks ∙ st.uses_marks; bytes = whole }) sound)

  took_mark : (message : MarkMessage) (f t : FetchingState S) (fits : Bool) (m later : KeyMarks) (now : Marked S) (lent : List Wire) (o : Option Mark)
      → mark_reported by.writing who.boot message (so_far here fetched) ≡ o → (0 < by.every → IfSome o (IsSoundStart by bytes lengths (so_far here fetched)))
      → FetchingStandsMarked by count (so_far here fetched) f → Keeps by marking m → IsKeptOn f t
      → MatchOption o ((fits ≡ false) × (t ≡ f)) (λ mark. (fits ≡ true) × ((bs ls : List ℕ) → IsFront by.service by.writing mark bs ls → StandsSoFar by.service (begun_on bs ls (so_far here fetched)) t))
      → (fits ≡ false → (now ≡ record { stage = marked.Fetching t; marks = m }) × (lent ≡ [])) → (fits ≡ true → marking_noted message.body m later × ProceedsWith t later now lent)
      → Proceeds by who (begun_where (mark_reported by.writing who.boot message (so_far here fetched))) (MarkTurn by bytes lengths here (Fetching count fetched) message) now lent
  took_mark message f t fits m later now lent None is fair st keeps kept leads unfit fit =
      let u = unfit leads.0 in
      let stands : MarkedStands by here (record { stage = marked.Fetching t; marks = m }) =
      record { keeps = keeps; stage = subst (FetchingStandsMarked by count (so_far here fetched)) (sym leads.1) st } in
      goes_by by who [] (begun_where (mark_reported by.writing who.boot message (so_far here fetched))) (RestsMarked here) (MarkTurn by bytes lengths here (Fetching count fetched) message) now lent
      (sym (ap begun_where is))
      (λ out after r.
      subst (λ x. MatchOption x (RestsMarked here out after) (λ mark. FetchesMarked by here count (begun_on bytes lengths (so_far here fetched)) (marking_fetched message.body marking) out after)) (sym is) r)
      (rests_on by who (Fetching count fetched) awaited marking now lent (subst (MarkedStands by here) (sym u.0) stands) u.1)
  took_mark message f t fits m later now lent (Some mark) is fair st keeps kept leads unfit fit =
      let g = fit leads.0 in
      let waits : awaited ≡ true = some_awaited by who.boot message (so_far here fetched) mark is in
      let used : nat_lt 0 by.every ≡ true = sym st.uses_marks ∙ awaiting_uses f.marks (st.entries.awaits ∙ waits) in
      let start : IsSoundStart by bytes lengths (so_far here fetched) mark = fair (ltb-true 0 by.every used) in
      goes_by by who (begun_on bytes lengths (so_far here fetched)).entries (begun_where (mark_reported by.writing who.boot message (so_far here fetched)))
      (FetchesMarked by here count (begun_on bytes lengths (so_far here fetched)) (marking_fetched message.body marking)) (MarkTurn by bytes lengths here (Fetching count fetched) message) now lent
      (sym (ap begun_where is))
      (λ out after r.
      subst (λ x. MatchOption x (RestsMarked here out after) (λ mark. FetchesMarked by here count (begun_on bytes lengths (so_far here fetched)) (marking_fetched message.body marking) out after)) (sym is) r)
      (g.1 (marking_fetched message.body marking) (begun_on bytes lengths (so_far here fetched)) (keeps_noted by message.body marking m later keeps g.0)
      (record {
        so_many = kept.so_many ∙ st.so_many;
        distinct = begun_distinct bytes lengths fetched st.distinct;
        entries = leads.1 bytes lengths start.front;
        uses_marks = kept.uses_marks ∙ st.uses_marks;
        bytes = begun_bytes bytes lengths fetched start.bytes_are st.bytes;
      }) start.whole)

  pub took : (any : AnyMessage) (f t : FetchingState S) (fits : Bool) (m later : KeyMarks) (now : Marked S) (lent : List Wire) → IsUnfencedMarked here (input_of_any any) → IsFairTo by bytes lengths here (input_of_any any)
      → IsPartBytes any → FetchingStandsMarked by count (so_far here fetched) f → Keeps by marking m → f.boot ≡ who.boot → IsKeptOn f t → AnyLeads by.service by.writing (so_far here fetched) any fits f t
      → (fits ≡ false → (now ≡ record { stage = marked.Fetching t; marks = m }) × (lent ≡ [])) → (fits ≡ true → Notes any m later × ProceedsWith t later now lent)
      → TurnsOn by who bytes lengths here (input_of_any any) now lent
  took (Of_log message) f t fits m later now lent unfenced fair part st keeps boot kept leads unfit fit =
      let law = fetched_on (nat_lt 0 by.every) who.boot count message (so_far here fetched) in
      let same : fetched_on (uses f.marks) f.boot f.count message (so_far here fetched) ≡ law =
      λ j. fetched_on (st.uses_marks j) (boot j) (st.so_many j) message (so_far here fetched) in
      took_log message f t fits m later now lent law refl unfenced
      (on_some (AreSound by.service) (nat_lt 0 by.every) here.plain count message (so_far here fetched) fair.sound)
      (on_some AreDistinct (nat_lt 0 by.every) here.plain count message (so_far here fetched) (then_distinct here.plain message count fetched st.distinct))
      (on_some AllBytes (nat_lt 0 by.every) here.plain count message (so_far here fetched) (then_bytes here.plain message count fetched part st.bytes)) st keeps kept
      (subst (λ o. MatchOption o ((fits ≡ false) × (t ≡ f)) (λ more. (fits ≡ true) × StandsSoFar by.service more t)) same leads) unfit fit
  took (About_mark message) f t fits m later now lent unfenced fair part st keeps boot kept leads unfit fit =
      took_mark message f t fits m later now lent (mark_reported by.writing who.boot message (so_far here fetched)) refl fair.mark st keeps kept
      (subst
      (λ b. MatchOption (mark_reported by.writing b message (so_far here fetched)) ((fits ≡ false) × (t ≡ f))
      (λ mark. (fits ≡ true) × ((bs ls : List ℕ) → IsFront by.service by.writing mark bs ls → StandsSoFar by.service (begun_on bs ls (so_far here fetched)) t))) boot leads) unfit fit

-- the same from wherever a node stands that fetches
pub took_at : {S : Type 0} (by : Marker S) (who : Identity) (standing : law_stage) (awaited : Bool) (marking : Key → Marking) (bytes lengths : List ℕ) (any : AnyMessage) (f t : FetchingState S) (fits : Bool) (m later : KeyMarks)
    (now : Marked S) (lent : List Wire) → IsUnfencedMarked (node_at who standing awaited marking) (input_of_any any) → IsFairTo by bytes lengths (node_at who standing awaited marking) (input_of_any any)
    → IsPartBytes any → MarkedStands by (node_at who standing awaited marking) (record { stage = marked.Fetching f; marks = m }) → f.boot ≡ who.boot → IsKeptOn f t
    → ((now_fetched : FetchedSoFar) → StandsSoFar by.service now_fetched f → AnyLeads by.service by.writing now_fetched any fits f t)
    → (fits ≡ false → (now ≡ record { stage = marked.Fetching t; marks = m }) × (lent ≡ []))
    → (fits ≡ true → Notes any m later
    × ((then_marking : Key → Marking) (count : ℕ) (more : FetchedSoFar) → Keeps by then_marking later → FetchingStandsMarked by count more t → AreSound by.service more.entries
    → FetchesOn by who (node_at who standing awaited marking) count more then_marking now lent))
    → TurnsOn by who bytes lengths (node_at who standing awaited marking) (input_of_any any) now lent
took_at by who (Fetching count fetched) awaited marking bytes lengths any f t fits m later now lent unfenced fair part st boot kept leads unfit fit =
    took by who count fetched awaited marking bytes lengths any f t fits m later now lent unfenced fair part st.stage st.keeps boot kept (leads (so_far (node_at who (Fetching count fetched) awaited marking) fetched) st.stage.entries)
    unfit (λ yes. let g = fit yes in (g.0, λ then_marking more keeps stands sound. g.1 then_marking count more keeps stands sound))
took_at by who Asking awaited marking bytes lengths any f t fits m later now lent unfenced fair part st boot kept leads unfit fit = absurd st.stage
took_at by who (Serving opened places) awaited marking bytes lengths any f t fits m later now lent unfenced fair part st boot kept leads unfit fit = absurd st.stage
took_at by who (Fenced newer) awaited marking bytes lengths any f t fits m later now lent unfenced fair part st boot kept leads unfit fit = absurd st.stage

-- what is asked next
pub asked_on : {S : Type 0} (by : Marker S) (who : Identity) (standing : law_stage) (awaited : Bool) (before marking : Key → Marking) (count : ℕ) (now : FetchedSoFar) (f : FetchingState S) (m : KeyMarks) (o : Option AnyMessage) (lent : List Wire)
    → next_question who.boot count now ≡ o → SendsQuestion (grammar_in who) o true [] lent → Keeps by marking m → FetchingStandsMarked by count now f
    → FetchesOn by who (node_at who standing awaited before) count now marking (record { stage = marked.Fetching f; marks = m }) lent
asked_on by who standing awaited before marking count now f m (Some question) lent next s keeps st = asks_on by who standing awaited before marking count now f m question lent keeps st next s.1
asked_on by who standing awaited before marking count now f m None lent next s keeps st = absurd (true≢false s.0)

pub ended_on : {S : Type 0} (by : Marker S) (who : Identity) (standing : law_stage) (awaited : Bool) (before marking : Key → Marking) (count : ℕ) (now : FetchedSoFar) (serving : CodeServing S) (m : KeyMarks) (o : Option AnyMessage) (mid lent : List Wire)
    → next_question who.boot count now ≡ o → SendsQuestion (grammar_in who) o false [] mid → AreRestoredMarked by (node_of who standing) marking now.entries serving m mid lent
    → FetchesOn by who (node_at who standing awaited before) count now marking (record { stage = marked.Serving serving; marks = m }) lent
ended_on by who standing awaited before marking count now serving m (Some question) mid lent next s r = absurd (true≢false (sym s.0))
ended_on by who standing awaited before marking count now serving m None mid lent next s r =
    ends_on by who standing awaited before marking count now serving m lent next (subst (λ l. AreRestoredMarked by (node_of who standing) marking now.entries serving m l lent) s.1 r)

-- at a tick the question is asked again
pub tick_asked : {S : Type 0} (by : Marker S) (who : Identity) (count : ℕ) (fetched : List Fetched) (awaited : Bool) (marking : Key → Marking) (bytes lengths : List ℕ) (f : FetchingState S) (m : KeyMarks) (asks : Bool) (o : Option AnyMessage)
    (lent : List Wire) → next_question who.boot count (so_far (node_at who (Fetching count fetched) awaited marking) fetched) ≡ o → SendsQuestion (grammar_in who) o asks [] lent → MarkedStands by (node_at who (Fetching count fetched) awaited marking) (record { stage = marked.Fetching f; marks = m })
    → TurnsOn by who bytes lengths (node_at who (Fetching count fetched) awaited marking) (Plain_comes Tick_comes) (record { stage = marked.Fetching f; marks = m }) lent
tick_asked by who count fetched awaited marking bytes lengths f m asks (Some question) lent next s st = record {
  standing = Fetching count fetched;
  awaits = awaited;
  marking = marking;
  sent = outgoing question ∷ [];
  stands = st;
  goes = (sym (ap (λ o. map outgoing (option_to_list o)) next), refl);
  numbers = tt;
  out = s.1;
}
tick_asked by who count fetched awaited marking bytes lengths f m asks None lent next s st = record {
  standing = Fetching count fetched;
  awaits = awaited;
  marking = marking;
  sent = [];
  stands = st;
  goes = (sym (ap (λ o. map outgoing (option_to_list o)) next), refl);
  numbers = tt;
  out = record { wires = s.1; spelled = tt };
}

pub tick_asked_at : {S : Type 0} (by : Marker S) (who : Identity) (standing : law_stage) (awaited : Bool) (marking : Key → Marking) (bytes lengths : List ℕ) (f : FetchingState S) (m : KeyMarks) (asks : Bool) (o : Option AnyMessage) (lent : List Wire)
    → ((now : FetchedSoFar) → StandsSoFar by.service now f → o ≡ next_question f.boot f.count now) → f.boot ≡ who.boot → SendsQuestion (grammar_in who) o asks [] lent
    → MarkedStands by (node_at who standing awaited marking) (record { stage = marked.Fetching f; marks = m })
    → TurnsOn by who bytes lengths (node_at who standing awaited marking) (Plain_comes Tick_comes) (record { stage = marked.Fetching f; marks = m }) lent
tick_asked_at by who (Fetching count fetched) awaited marking bytes lengths f m asks o lent next boot s st =
    let now = so_far (node_at who (Fetching count fetched) awaited marking) fetched in
    tick_asked by who count fetched awaited marking bytes lengths f m asks o lent
    (sym (next now st.stage.entries ∙ (λ j. next_question (boot j) (st.stage.so_many j) now))) s st
tick_asked_at by who Asking awaited marking bytes lengths f m asks o lent next boot s st = absurd st.stage
tick_asked_at by who (Serving opened places) awaited marking bytes lengths f m asks o lent next boot s st = absurd st.stage
tick_asked_at by who (Fenced newer) awaited marking bytes lengths f m asks o lent next boot s st = absurd st.stage

-- a segment while it fetches
pub held_at : {S : Type 0} (by : Marker S) (who : Identity) (segment : Segment) (standing : law_stage) (awaited : Bool) (marking : Key → Marking) (bytes lengths : List ℕ) (f : FetchingState S) (m : KeyMarks) (lent : List Wire)
    → ((count : ℕ) (fetched : List Fetched) → FetchingStands by.service count fetched f → ArePut (grammar_in who) (held (node_of who standing) fetched segment) [] lent)
    → MarkedStands by (node_at who standing awaited marking) (record { stage = marked.Fetching f; marks = m })
    → TurnsOn by who bytes lengths (node_at who standing awaited marking) (Plain_comes (Packet_comes segment)) (record { stage = marked.Fetching f; marks = m }) lent
held_at by who segment (Fetching count fetched) awaited marking bytes lengths f m lent holds st =
    let put = holds count fetched (record { so_many = st.stage.so_many; distinct = st.stage.distinct; entries = st.stage.entries.fetched }) in
    let packets = held (node_of who (Fetching count fetched)) fetched segment in record {
      standing = Fetching count fetched;
      awaits = awaited;
      marking = marking;
      sent = map Plain packets;
      stands = st;
      goes = (Fetching count fetched, packets, (refl, refl), refl, refl);
      numbers = tt;
      out = plain_out (grammar_in who) packets [] lent put.wires put.spelled;
    }
held_at by who segment Asking awaited marking bytes lengths f m lent holds st = absurd st.stage
held_at by who segment (Serving opened places) awaited marking bytes lengths f m lent holds st = absurd st.stage
held_at by who segment (Fenced newer) awaited marking bytes lengths f m lent holds st = absurd st.stage

-- while it asks how many entries there are

pub hello_at : {S : Type 0} (by : Marker S) (who : Identity) (standing : law_stage) (awaited : Bool) (marking : Key → Marking) (bytes lengths : List ℕ) (m : KeyMarks) (lent : List Wire)
    → ArePut (grammar_in who) (reported_by who.boot HelloMsg ∷ []) [] lent → MarkedStands {S = S} by (node_at who standing awaited marking) (record { stage = marked.Asking; marks = m })
    → TurnsOn by who bytes lengths (node_at who standing awaited marking) (Plain_comes Tick_comes) (record { stage = marked.Asking; marks = m }) lent
hello_at by who Asking awaited marking bytes lengths m lent put st = record {
  standing = Asking;
  awaits = awaited;
  marking = marking;
  sent = map Plain (reported_by who.boot HelloMsg ∷ []);
  stands = st;
  goes = (Asking, reported_by who.boot HelloMsg ∷ [], (refl, refl), refl, refl);
  numbers = tt;
  out = plain_out (grammar_in who) (reported_by who.boot HelloMsg ∷ []) [] lent put.wires put.spelled;
}
hello_at by who (Fetching count fetched) awaited marking bytes lengths m lent put st = absurd st.stage
hello_at by who (Serving opened places) awaited marking bytes lengths m lent put st = absurd st.stage
hello_at by who (Fenced newer) awaited marking bytes lengths m lent put st = absurd st.stage

-- what comes then and is no Summary changes nothing
pub asking_rests : {S : Type 0} (by : Marker S) (who : Identity) (i : Input) (standing : law_stage) (awaited : Bool) (marking : Key → Marking) (bytes lengths : List ℕ) (m : KeyMarks) (lent : List Wire)
    → fence (node_of who standing) i ≡ None → StageTurn by.service (node_of who Asking) Asking i Asking [] → lent ≡ []
    → MarkedStands {S = S} by (node_at who standing awaited marking) (record { stage = marked.Asking; marks = m })
    → TurnsOn by who bytes lengths (node_at who standing awaited marking) (Plain_comes i) (record { stage = marked.Asking; marks = m }) lent
asking_rests by who i Asking awaited marking bytes lengths m lent unfenced t none st = record {
  standing = Asking;
  awaits = awaited;
  marking = marking;
  sent = [];
  stands = st;
  goes = subst (λ o. UnlessFenced by (node_at who Asking awaited marking) i o [] (node_at who Asking awaited marking)) (sym unfenced) (Asking, [], t, refl, refl);
  numbers = tt;
  out = record { wires = none; spelled = tt };
}
asking_rests by who i (Fetching count fetched) awaited marking bytes lengths m lent unfenced t none st = absurd st.stage
asking_rests by who i (Serving opened places) awaited marking bytes lengths m lent unfenced t none st = absurd st.stage
asking_rests by who i (Fenced newer) awaited marking bytes lengths m lent unfenced t none st = absurd st.stage

-- a Summary: the first entry is asked for, or there is none
abbrev pub nothing_yet : FetchedSoFar
nothing_yet = record { entries = []; awaits_mark = false }

begun_turn : {S : Type 0} (by : Marker S) (who : Identity) (marking : Key → Marking) (message : Message) (count : ℕ) (o : Option Wanted) (out : List Outgoing) (after : MarkedNode) → wanted count [] ≡ o
    → count_reported (node_of who Asking) message ≡ Some count
    → Continues by (node_at who Asking false marking) count nothing_yet marking (option_map (λ w. Of_log (record { boot = who.boot; body = question w })) o) out after
    → PlainTurn by (node_at who Asking false marking) Asking (Message_comes message) out after
begun_turn by who marking message count (Some w) out after is reported c = (
  Fetching count [],
  asked (node_of who Asking) (Some w),
  subst (λ x. MatchOption x (Rests Asking (Fetching count []) (asked (node_of who Asking) (Some w))) (λ n. Fetches by.service (node_of who Asking) n [] (Fetching count []) (asked (node_of who Asking) (Some w)))) (sym reported)
      (subst (λ x. PlainContinues by.service (node_of who Asking) count [] x (Fetching count []) (asked (node_of who Asking) (Some w))) (sym is) (refl, refl)),
  c.0,
  c.1,
)
begun_turn by who marking message count None out after is reported (places, go, same) = (
  Serving 0 places,
  [],
  subst (λ x. MatchOption x (Rests Asking (Serving 0 places) []) (λ n. Fetches by.service (node_of who Asking) n [] (Serving 0 places) [])) (sym reported)
      (subst (λ x. PlainContinues by.service (node_of who Asking) count [] x (Serving 0 places) []) (sym is) (places, refl, (go.0, refl))),
  go.1,
  same ∙ ap (λ (ps : List Place). record (node_at who Asking false marking) {
    plain = record (node_of who Asking) { stage = Serving 0 places };
    awaits_mark = false;
    marking = λ key. marking_then by (place_at key ps) (marking key);
  }) go.0,
)

pub begun_at : {S : Type 0} (by : Marker S) (who : Identity) (message : Message) (count : ℕ) (standing : law_stage) (awaited : Bool) (marking : Key → Marking) (bytes lengths : List ℕ) (m : KeyMarks) (now : Marked S) (lent : List Wire)
    → fence (node_of who standing) (Message_comes message) ≡ None → count_reported (node_of who Asking) message ≡ Some count
    → MarkedStands {S = S} by (node_at who standing awaited marking) (record { stage = marked.Asking; marks = m })
    → (Keeps by marking m → FetchesOn by who (node_at who Asking false marking) count nothing_yet marking now lent)
    → TurnsOn by who bytes lengths (node_at who standing awaited marking) (Plain_comes (Message_comes message)) now lent
begun_at by who message count Asking awaited marking bytes lengths m now lent unfenced reported st goes =
    subst (λ a. TurnsOn by who bytes lengths (node_at who Asking a marking) (Plain_comes (Message_comes message)) now lent) (sym st.stage)
    (goes_by by who [] [] (FetchesMarked by (node_at who Asking false marking) count nothing_yet marking) (InputTurn by bytes lengths (node_at who Asking false marking) (Plain_comes (Message_comes message))) now lent
    refl
    (λ out after c. subst (λ o. UnlessFenced by (node_at who Asking false marking) (Message_comes message) o out after) (sym unfenced) (begun_turn by who marking message count (wanted count []) out after refl reported c)) (goes st.keeps))
begun_at by who message count (Fetching n fetched) awaited marking bytes lengths m now lent unfenced reported st goes = absurd st.stage
begun_at by who message count (Serving opened places) awaited marking bytes lengths m now lent unfenced reported st goes = absurd st.stage
begun_at by who message count (Fenced newer) awaited marking bytes lengths m now lent unfenced reported st goes = absurd st.stage

-- what a message says of how many entries there are
pub reported_count : (node : Node) (message : Message) (count : ℕ) → message.boot ≡ node.boot → summary_count message.body ≡ Some count → count_reported node message ≡ Some count
reported_count node message count boot reported = ap (λ b. if b then summary_count message.body else None) (eq-eqb message.boot node.boot boot) ∙ reported

pub reported_no_count : {S : Type 0} (by : Marker S) (who : Identity) (message : Message) → summary_count message.body ≡ None → StageTurn by.service (node_of who Asking) Asking (Message_comes message) Asking []
reported_no_count by who message none =
    holds_if (λ o. MatchOption o (Rests Asking Asking []) (λ count. Fetches by.service (node_of who Asking) count [] Asking [])) (message.boot == who.boot) (summary_count message.body) None
    (λ t. subst (λ o. MatchOption o (Rests Asking Asking []) (λ count. Fetches by.service (node_of who Asking) count [] Asking [])) (sym none) (refl, refl)) (λ t. (refl, refl))

-- a restart that begins uses marks exactly where they are made
uses_made : (made savable : Bool) (every n : ℕ) → made ≡ nat_lt 0 n → n ≡ every_for savable every → uses (used_if (made && savable)) ≡ nat_lt 0 (every_for savable every)
uses_made made true every n is same = used made ∙ is ∙ ap (nat_lt 0) same
  where
    used : (b : Bool) → uses (used_if (b && true)) ≡ b
    used true = refl
    used false = refl
uses_made made false every n is same = unused made
  where
    unused : (b : Bool) → uses (used_if (b && false)) ≡ false
    unused true = refl
    unused false = refl

pub begun_stands : {S : Type 0} (by : Marker S) (boot kind count : ℕ) (marking : Key → Marking) (m : KeyMarks) (savable made : Bool) (every : ℕ) (f : FetchingState S) → by.every ≡ every_for savable every
    → f ≡ begun_fetching boot kind count (made && savable) → made ≡ nat_lt 0 m.every → Keeps by marking m → StandsSoFar by.service nothing_yet f → FetchingStandsMarked by count nothing_yet f
begun_stands by boot kind count marking m savable made every f are is made_are keeps law = record {
  so_many = ap (λ x. x.count) is;
  distinct = tt;
  entries = law;
  uses_marks = ap (λ x. uses x.marks) is ∙ uses_made made savable every m.every made_are (keeps.every ∙ are) ∙ ap (nat_lt 0) (sym are);
  bytes = tt;
}
