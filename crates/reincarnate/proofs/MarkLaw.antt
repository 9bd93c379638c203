-- A mark leads a restart as the law says: the entry that begins there stands for the whole entry as far as it is fetched, whatever is below the mark.
use Rattle.std.proofs.Common.{◌≡◌, ⊎_elim, ℕ, ◌==◌, ◌&&◌, ◌||◌, ◌∙◌, Bool, true, false, true≢false, is_some, Option, Some, None, MatchOption, List, [], ◌∷◌, sum, option_map, append-nil, eqb-true, refl, ap, sym, subst, arith, if◌then◌else◌}
use Rattle.ft_io.specs.declared.Key.{Key}
use Rattle.ft_io.specs.Key.{key_eq}
use Rattle.ft_io.proofs.Lists.{empty_of_length}
use Rattle.seq_arith.specs.Mark.{Mark, MarkBody, MarkMessage}
use Rattle.seq_arith.specs.Mark.MarkBody.{MarkMsg, MarkedMsg, AskMsg, HeldMsg}
use Rattle.seq_arith.specs.Message.{EntryHead, Body, Message}
use Rattle.seq_arith.specs.Message.Body.{EntryMsg}
use Rattle.server_trait.specs.Service.{Machine, Served, machine, reference}
use Rattle.server_trait.specs.Saved.{Writing, writing}
use Rattle.ft_model.specs.Restart.{Fetched, wanted, question}
use Rattle.ft_model.proofs.Lists.{none_is_some, some_is}
use Rattle.ft_model.proofs.Authored.{drop_past}
use Rattle.mark_laws.specs.MarkedLog.{AnyMessage}
use Rattle.mark_laws.specs.MarkedLog.AnyMessage.{About_mark, Of_log}
use Rattle.mark_laws.specs.Front.{IsBelow}
use Rattle.mark_laws.specs.Restart as law
use Rattle.mark_laws.specs.Restart.{FetchedSoFar, awaits_after, lies_within, mark_of_newest, mark_reported, IsFront, begun_on, fetched_on, mark_question, next_question}
use Rattle.reincarnate.specs.declared.marks.Marks.{Marks}
use Rattle.reincarnate.specs.declared.marks.Marks.TheVariants as marks
use Rattle.reincarnate.specs.Progress.{EntryState, begun_entry}
use Rattle.reincarnate.specs.Marking.{uses, awaits, marks_after, begun_at, begun_from, marked_on}
use Rattle.reincarnate.specs.Questions.{FetchingState, asked, after_answer, any_asked, mark_asked, noted, log_received, with_marked, held_received, mark_received, any_received}
use Rattle.reincarnate.specs.Refinement.{StandsFor, StandsFetching, StandsSoFar, AnyLeads, fetched_then}
use Rattle.reincarnate.proofs.EntryLaw.{head_stands}
use Rattle.reincarnate.proofs.Sized.{within_is}
use Rattle.reincarnate.proofs.AnswerLaw.{Leads, log_leads, asked_is, cons_is_not_nil}

-- What is below the mark counts as fetched, read and replayed
pub mark_stands : {S : Type 0} (service : Machine S) (writing : Writing S) (head : EntryHead) (m : Mark) (state : S) (bytes lengths : List ℕ) → lies_within head m ≡ true
    → writing.state_of m.state ≡ Some state → IsBelow service writing m bytes lengths → StandsFor service (record { head = head; bytes = bytes; lengths = lengths }) (begun_at head m state)
mark_stands service writing head m state bytes lengths within read below =
    let w = within_is head m within in
    let at : state ≡ (reference service bytes lengths).state = some_is _ _ (sym read ∙ below.state) in
    record {
      head = refl;
      bytes = sym below.size;
      cuts = λ j. record { count = (sym below.reads) j; sum = (sym below.size ∙ sym below.whole) j; ended = (sym below.reads_on) j };
      bytes_fit = omega (arith, below.size, w.bytes);
      lengths_fit = omega (arith, below.reads, w.reads);
      enough = omega (arith, below.whole, below.size, w.bytes);
      next = tt;
      replay = record {
        replayed = lengths;
        lengths_are = append-nil lengths;
        within = omega (arith, below.whole);
        held = sym (drop_past (sum lengths) bytes (omega (arith, below.whole)));
        acked_is = refl;
        run = λ small. record {
          service = at;
          closed = sym below.running;
          made = below.made;
          pending = sym (drop_past head.acked (reference service bytes lengths).output (omega (arith, below.made, w.made)));
        };
      };
    }

-- below a mark of no reads is nothing
nothing_below : {S : Type 0} (service : Machine S) (writing : Writing S) (m : Mark) (bytes lengths : List ℕ) → m.reads ≡ 0 → IsFront service writing m bytes lengths
    → (bytes ≡ []) × (lengths ≡ [])
nothing_below service writing m bytes lengths none front =
    ⊎_elim (λ empty. (empty.1, empty.2))
    (λ below. let no_reads : lengths ≡ [] = empty_of_length lengths (below.reads ∙ none) in
    (empty_of_length bytes (sym below.whole ∙ ap sum no_reads), no_reads)) front

start_stands : {S : Type 0} (service : Machine S) (writing : Writing S) (head : EntryHead) (m : Mark) (bytes lengths : List ℕ) → m.reads ≡ 0 → IsFront service writing m bytes lengths
    → StandsFor service (record { head = head; bytes = bytes; lengths = lengths }) (begun_entry service.fresh service.greeting head)
start_stands service writing head m bytes lengths none front =
    let empty = nothing_below service writing m bytes lengths none front in
    subst (λ b. StandsFor service (record { head = head; bytes = b; lengths = lengths }) (begun_entry service.fresh service.greeting head)) (sym empty.0)
    (subst (λ l. StandsFor service (record { head = head; bytes = []; lengths = l }) (begun_entry service.fresh service.greeting head)) (sym empty.1) (head_stands service head))

some_below : {S : Type 0} (service : Machine S) (writing : Writing S) (m : Mark) (bytes lengths : List ℕ) → (m.reads == 0) ≡ false → IsFront service writing m bytes lengths
    → IsBelow service writing m bytes lengths
some_below service writing m bytes lengths some front =
    ⊎_elim (λ empty. absurd (true≢false (sym (ap (λ n. n == 0) empty.0) ∙ some))) (λ below. below) front

-- What the law makes of a mark, and what the code does
abbrev pub MarkLeads : {S : Type 0} → Machine S → Writing S → FetchedSoFar → Option Mark → Option (FetchingState S) → Type 0
MarkLeads service writing so_far None None = Unit {0}
MarkLeads service writing so_far None (Some s) = ⊥
MarkLeads service writing so_far (Some m) None = ⊥
MarkLeads service writing so_far (Some m) (Some s) =
    (bytes lengths : List ℕ) → IsFront service writing m bytes lengths → StandsSoFar service (begun_on bytes lengths so_far) s

-- for each front an entry stands that begins so
abbrev Begins : {S : Type 0} → Machine S → Writing S → EntryHead → Mark → EntryState S → Type 0
Begins service writing head m e =
    (bytes lengths : List ℕ) → IsFront service writing m bytes lengths → StandsFor service (record { head = head; bytes = bytes; lengths = lengths }) e

led_by : {S : Type 0} (service : Machine S) (writing : Writing S) (so_far : FetchedSoFar) (head : EntryHead) (m : Mark) (next : EntryState S → FetchingState S) (k b z : Bool) (o : Option S)
    → ((e : EntryState S) → Begins service writing head m e → (bytes lengths : List ℕ) → IsFront service writing m bytes lengths → StandsSoFar service (begun_on bytes lengths so_far) (next e))
    → b ≡ lies_within head m → z ≡ (m.reads == 0) → o ≡ writing.state_of m.state
    → MarkLeads service writing so_far (if k && (b && (z || is_some o)) then Some m else None)
    (option_map next (if k then (if b then (if z then Some (begun_entry service.fresh service.greeting head) else option_map (begun_at head m) o) else None) else None))
led_by service writing so_far head m next false b z o stands within none read = tt
led_by service writing so_far head m next true false z o stands within none read = tt
led_by service writing so_far head m next true true true o stands within none read =
    stands (begun_entry service.fresh service.greeting head) (λ bytes lengths front. start_stands service writing head m bytes lengths (eqb-true m.reads 0 (sym none)) front)
led_by service writing so_far head m next true true false (Some state) stands within none read =
    stands (begun_at head m state) (λ bytes lengths front.
    mark_stands service writing head m state bytes lengths (sym within) (sym read) (some_below service writing m bytes lengths (sym none) front))
led_by service writing so_far head m next true true false None stands within none read = tt

held_leads : {S : Type 0} (service : Machine S) (writing : Writing S) (boot kind count : ℕ) (code : Marks) (newest : Option (EntryState S)) (before : List (EntryState S)) (so_far : FetchedSoFar)
    (key : Key) (m : Mark) → StandsFetching service so_far.entries (record { boot = boot; kind = kind; count = count; marks = code; newest = newest; earlier = before })
    → MarkLeads service writing so_far (mark_of_newest writing (HeldMsg key m) so_far.entries)
    (option_map (with_marked (record { boot = boot; kind = kind; count = count; marks = code; newest = newest; earlier = before })) (marked_on service.fresh service.greeting writing.state_of key m newest))
held_leads service writing boot kind count code newest before so_far key m st = by_entries newest before so_far.entries so_far.awaits_mark st
  where
    by_entries : (newest : Option (EntryState _)) (before : List (EntryState _)) (entries : List Fetched) (awaiting : Bool)
        → StandsFetching service entries (record { boot = boot; kind = kind; count = count; marks = code; newest = newest; earlier = before })
        → MarkLeads service writing (record { entries = entries; awaits_mark = awaiting }) (mark_of_newest writing (HeldMsg key m) entries)
        (option_map (with_marked (record { boot = boot; kind = kind; count = count; marks = code; newest = newest; earlier = before })) (marked_on service.fresh service.greeting writing.state_of key m newest))
    by_entries None [] [] awaiting st = tt
    by_entries None [] (f ∷ earlier) awaiting st = absurd st.entries
    by_entries None (e ∷ before) entries awaiting st = absurd (cons_is_not_nil e before (st.newest refl))
    by_entries (Some e) before [] awaiting st = absurd st.entries
    by_entries (Some e) before (f ∷ earlier) awaiting st =
        let s : FetchingState _ = record { boot = boot; kind = kind; count = count; marks = code; newest = Some e; earlier = before } in
        let so : FetchedSoFar = record { entries = f ∷ earlier; awaits_mark = awaiting } in
        subst (λ h. MarkLeads service writing so (mark_of_newest writing (HeldMsg key m) (f ∷ earlier))
        (option_map (with_marked s) (if key_eq key h.key then begun_from service.fresh service.greeting writing.state_of m h else None))) (sym st.entries.0.head)
        (led_by service writing so f.head m (with_marked s) (key_eq key f.head.key) (lies_within f.head m) (m.reads == 0) (writing.state_of m.state)
        (λ x begins bytes lengths front. record {
          fetched = record { entries = (begins bytes lengths front, st.entries.1); newest = λ q. none_is_some _ (sym q); whole = st.whole };
          awaits = refl;
        }) refl refl refl)

body_leads : {S : Type 0} (started : ℕ → S) (after : S → List ℕ → Served S) (greeting : S → List ℕ) (form : S → List ℕ) (state_of : ℕ → List ℕ → Option S) (s : FetchingState S) (so_far : FetchedSoFar) (body : MarkBody)
    → StandsFetching (machine (started s.kind) after greeting) so_far.entries s
    → MarkLeads (machine (started s.kind) after greeting) (writing form (state_of s.kind)) so_far (mark_of_newest (writing form (state_of s.kind)) body so_far.entries) (held_received started greeting state_of body s)
body_leads started after greeting form state_of s so_far (HeldMsg key m) st =
    held_leads (machine (started s.kind) after greeting) (writing form (state_of s.kind)) s.boot s.kind s.count s.marks s.newest s.earlier so_far key m st
body_leads started after greeting form state_of s so_far (MarkMsg key m) st = tt
body_leads started after greeting form state_of s so_far (MarkedMsg key reads) st = tt
body_leads started after greeting form state_of s so_far (AskMsg key) st = tt

by_choice : {S : Type 0} (service : Machine S) (writing : Writing S) (so_far : FetchedSoFar) (b : Bool) (reported : Option Mark) (now : Option (FetchingState S))
    → MarkLeads service writing so_far reported now → MarkLeads service writing so_far (if b then reported else None) (if b then now else None)
by_choice service writing so_far true reported now l = l
by_choice service writing so_far false reported now l = tt

mark_leads : {S : Type 0} (started : ℕ → S) (after : S → List ℕ → Served S) (greeting : S → List ℕ) (form : S → List ℕ) (state_of : ℕ → List ℕ → Option S) (s : FetchingState S) (so_far : FetchedSoFar) (message : MarkMessage)
    → StandsSoFar (machine (started s.kind) after greeting) so_far s
    → MarkLeads (machine (started s.kind) after greeting) (writing form (state_of s.kind)) so_far (mark_reported (writing form (state_of s.kind)) s.boot message so_far) (mark_received started greeting state_of message s)
mark_leads started after greeting form state_of s so_far message st =
    let service : Machine _ = machine (started s.kind) after greeting in
    let written : Writing _ = writing form (state_of s.kind) in
    subst (λ a. MarkLeads service written so_far (mark_reported written s.boot message so_far) (if message.boot == s.boot && a then held_received started greeting state_of message.body s else None))
    (sym st.awaits)
    (by_choice service written so_far (message.boot == s.boot && so_far.awaits_mark) (mark_of_newest written message.body so_far.entries) (held_received started greeting state_of message.body s)
    (body_leads started after greeting form state_of s so_far message.body st.fetched))

-- A message that isn't about marks
abbrev SoFarLeads : {S : Type 0} → Machine S → Option FetchedSoFar → Option (FetchingState S) → Type 0
SoFarLeads service None None = Unit {0}
SoFarLeads service None (Some s) = ⊥
SoFarLeads service (Some more) None = ⊥
SoFarLeads service (Some more) (Some s) = StandsSoFar service more s

noted_stands : {S : Type 0} (service : Machine S) (code : Marks) (s : FetchingState S) (fetched : List Fetched) → StandsFetching service fetched s → StandsFetching service fetched (noted code s)
noted_stands service code s fetched st = record { entries = st.entries; newest = st.newest; whole = st.whole }

noted_leads : {S : Type 0} (service : Machine S) (awaiting : Bool) (code : Marks) (reported : Option (List Fetched)) (now : Option (FetchingState S)) → awaits code ≡ awaiting → Leads service reported now
    → SoFarLeads service (option_map (λ more. record { entries = more; awaits_mark = awaiting }) reported) (option_map (noted code) now)
noted_leads service awaiting code None None same l = tt
noted_leads service awaiting code None (Some s) same l = absurd l
noted_leads service awaiting code (Some more) None same l = absurd l
noted_leads service awaiting code (Some more) (Some s) same l = record { fetched = noted_stands service code s more l; awaits = same }

awaits_none : (body : Body) → awaits_after false body ≡ false
awaits_none (EntryMsg index head) = refl
awaits_none _ = refl

awaits_if : (b : Bool) → awaits (if b then marks.Awaited else marks.Used) ≡ b
awaits_if true = refl
awaits_if false = refl

-- a mark is awaited as the law says
pub awaits_is : (code : Marks) (body : Body) → awaits (marks_after code body) ≡ awaits_after (uses code) body
awaits_is marks.Unused body = sym (awaits_none body)
awaits_is marks.Used body = awaits_if (awaits_after true body)
awaits_is marks.Awaited body = awaits_if (awaits_after true body)

unless : {S : Type 0} (service : Machine S) (a : Bool) (reported : Option FetchedSoFar) (now : Option (FetchingState S)) → SoFarLeads service reported now
    → SoFarLeads service (if a then None else reported) (if a then None else now)
unless service true reported now l = tt
unless service false reported now l = l

log_so_far : {S : Type 0} (started : ℕ → S) (after : S → List ℕ → Served S) (greeting : S → List ℕ) (s : FetchingState S) (so_far : FetchedSoFar) (message : Message) → StandsSoFar (machine (started s.kind) after greeting) so_far s
    → SoFarLeads (machine (started s.kind) after greeting) (fetched_on (uses s.marks) s.boot s.count message so_far) (log_received started after greeting message s)
log_so_far started after greeting s so_far message st =
    let service : Machine _ = machine (started s.kind) after greeting in
    let code : Marks = marks_after s.marks message.body in
    subst (λ a. SoFarLeads service (fetched_on (uses s.marks) s.boot s.count message so_far) (if a then None else option_map (noted code) (after_answer started after greeting message s))) (sym st.awaits)
    (unless service so_far.awaits_mark _ (option_map (noted code) (after_answer started after greeting message s))
    (noted_leads service (awaits_after (uses s.marks) message.body) code (fetched_then s.boot s.count message so_far.entries) (after_answer started after greeting message s)
    (awaits_is s.marks message.body) (log_leads started after greeting s so_far.entries message st.fetched)))

-- The whole law of an answer
log_done : {S : Type 0} (service : Machine S) (reported : Option FetchedSoFar) (now : Option (FetchingState S)) (fits : Bool) (old new : FetchingState S) → SoFarLeads service reported now
    → MatchOption now ((fits ≡ false) × (new ≡ old)) (λ s. (fits ≡ true) × (new ≡ s))
    → MatchOption reported ((fits ≡ false) × (new ≡ old)) (λ more. (fits ≡ true) × StandsSoFar service more new)
log_done service None None fits old new l m = m
log_done service None (Some s) fits old new l m = absurd l
log_done service (Some more) None fits old new l m = absurd l
log_done service (Some more) (Some s) fits old new l m = (m.0, subst (StandsSoFar service more) (sym m.1) l)

mark_done : {S : Type 0} (service : Machine S) (written : Writing S) (so_far : FetchedSoFar) (reported : Option Mark) (now : Option (FetchingState S)) (fits : Bool) (old new : FetchingState S)
    → MarkLeads service written so_far reported now → MatchOption now ((fits ≡ false) × (new ≡ old)) (λ s. (fits ≡ true) × (new ≡ s))
    → MatchOption reported ((fits ≡ false) × (new ≡ old))
    (λ m. (fits ≡ true) × ((bytes lengths : List ℕ) → IsFront service written m bytes lengths → StandsSoFar service (begun_on bytes lengths so_far) new))
mark_done service written so_far None None fits old new l m = m
mark_done service written so_far None (Some s) fits old new l m = absurd l
mark_done service written so_far (Some held) None fits old new l m = absurd l
mark_done service written so_far (Some held) (Some s) fits old new l m =
    (m.0, λ bytes lengths front. subst (StandsSoFar service (begun_on bytes lengths so_far)) (sym m.1) (l bytes lengths front))

pub any_leads : {S : Type 0} (started : ℕ → S) (after : S → List ℕ → Served S) (greeting : S → List ℕ) (form : S → List ℕ) (state_of : ℕ → List ℕ → Option S) (s : FetchingState S) (so_far : FetchedSoFar) (message : AnyMessage)
    (fits : Bool) (new : FetchingState S) → StandsSoFar (machine (started s.kind) after greeting) so_far s
    → MatchOption (any_received started after greeting state_of message s) ((fits ≡ false) × (new ≡ s)) (λ x. (fits ≡ true) × (new ≡ x))
    → AnyLeads (machine (started s.kind) after greeting) (writing form (state_of s.kind)) so_far message fits s new
any_leads started after greeting form state_of s so_far (Of_log message) fits new st m =
    log_done (machine (started s.kind) after greeting) (fetched_on (uses s.marks) s.boot s.count message so_far) (log_received started after greeting message s) fits s new (log_so_far started after greeting s so_far message st) m
any_leads started after greeting form state_of s so_far (About_mark message) fits new st m =
    mark_done (machine (started s.kind) after greeting) (writing form (state_of s.kind)) so_far (mark_reported (writing form (state_of s.kind)) s.boot message so_far) (mark_received started greeting state_of message s)
    fits s new (mark_leads started after greeting form state_of s so_far message st) m

-- What is asked
mark_asked_is : {S : Type 0} (service : Machine S) (boot kind count : ℕ) (code : Marks) (newest : Option (EntryState S)) (before : List (EntryState S)) (entries : List Fetched)
    → StandsFetching service entries (record { boot = boot; kind = kind; count = count; marks = code; newest = newest; earlier = before }) → mark_asked boot newest ≡ mark_question boot entries
mark_asked_is service boot kind count code None [] [] st = refl
mark_asked_is service boot kind count code None [] (f ∷ earlier) st = absurd st.entries
mark_asked_is service boot kind count code None (e ∷ before) entries st = absurd (cons_is_not_nil e before (st.newest refl))
mark_asked_is service boot kind count code (Some e) before [] st = absurd st.entries
mark_asked_is service boot kind count code (Some e) before (f ∷ earlier) st = λ j. Some (About_mark (record { boot = boot; body = AskMsg (st.entries.0.head j).key }))

mapped_twice : {A B C : Type 0} (f : B → C) (g : A → B) (o : Option A) → option_map f (option_map g o) ≡ option_map (λ x. f (g x)) o
mapped_twice f g None = refl
mapped_twice f g (Some x) = refl

pub any_asked_is : {S : Type 0} (service : Machine S) (s : FetchingState S) (so_far : FetchedSoFar) → StandsSoFar service so_far s → any_asked s ≡ next_question s.boot s.count so_far
any_asked_is service s so_far st =
    let for_mark : mark_asked s.boot s.newest ≡ mark_question s.boot so_far.entries =
    mark_asked_is service s.boot s.kind s.count s.marks s.newest s.earlier so_far.entries st.fetched in
    let of_log : option_map (λ body. Of_log (record { boot = s.boot; body = body })) (asked s) ≡ law.log_question s.boot s.count so_far.entries =
    ap (option_map (λ body. Of_log (record { boot = s.boot; body = body }))) (asked_is service s so_far.entries st.fetched)
    ∙ mapped_twice (λ body. Of_log (record { boot = s.boot; body = body })) question (wanted s.count so_far.entries) in
    λ j. law.or_else (if st.awaits j then for_mark j else None) (of_log j)
