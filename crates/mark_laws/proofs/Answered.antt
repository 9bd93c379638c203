-- A log whose marks are true leads a restart from prefixes of its entries to prefixes of them.
use Rattle.std.proofs.Common.{◌≡◌, ◌⊎◌, ⊎_elim, inl, inr, ℕ, Bool, true, false, ◌==◌, ◌&&◌, ◌||◌, nat_lt, refl, sym, ap, ◌∙◌, subst, Option, Some, None, MatchOption, option_map, List, [], ◌∷◌, length, slice_get, arith, if◌then◌else◌}
use Rattle.std.proofs.lemmas.Bool.{and_parts}
use Rattle.ft_io.specs.declared.Key.{Key}
use Rattle.ft_io.specs.Key.{key_eq}
use Rattle.ft_io.proofs.Choices.{holds_if}
use Rattle.tcp_rules.specs.Profile.{Profile}
use Rattle.seq_arith.specs.Mark.{Mark, MarkBody, MarkMessage}
use Rattle.seq_arith.specs.Mark.MarkBody.{MarkMsg, MarkedMsg, AskMsg, HeldMsg}
use Rattle.seq_arith.specs.Message.{Body, Message, is_answer}
use Rattle.seq_arith.specs.Message.Body.{StaleMsg}
use Rattle.server_trait.specs.Service.{Machine, AreBytes}
use Rattle.server_trait.specs.Saved.{Writing, ReadsBack}
use Rattle.ft_model.specs.Log.{Log, Entry, entry_of, log_after, answer_to, answer_body, answer_from, is_hello}
use Rattle.ft_model.specs.Restart.{Fetched, wanted, fetched_after, point_of}
use Rattle.ft_model.specs.Lawful.{all_restored}
use Rattle.ft_model.specs.Node.Place.{Lives}
use Rattle.ft_model.proofs.Resumed.{nothing_missing, restored_at}
use Rattle.std.proofs.lemmas.Option.{slice_get_within}
use Rattle.ft_model.proofs.Lists.{none_is_some, some_is, same_key, take_first, all_slice_get}
use Rattle.ft_model.specs.FetchedFronts.{AreFetched}
use Rattle.ft_model.proofs.Fetching.{AgreesWith, reported_agrees, fetched_agrees, chosen_is}
use Rattle.mark_laws.specs.MarkedLog.{MarkedLog, AnyMessage, no_mark, after_mark, answer_above, answer_to_mark, is_below, is_mark_answer, reported_of_mark, about_mark}
use Rattle.mark_laws.specs.MarkedLog.AnyMessage.{About_mark, Of_log}
use Rattle.mark_laws.specs.Runs.{IsRunOf}
use Rattle.mark_laws.specs.Front.{bytes_below, lengths_below}
use Rattle.mark_laws.specs.Restart.{FetchedSoFar, fetched_on, awaits_after, mark_fits, mark_of_newest, mark_reported, IsFront, with_front, begun_on, Leads}
use Rattle.mark_laws.specs.Answers.{answer_of, IsQuestion, HasTrueMarks}
use Rattle.mark_laws.proofs.Runs.{front_is}

mapped_some : {A B : Type 0} (f : A → B) (o : Option A) (y : B) → option_map f o ≡ Some y → (x : A) × (o ≡ Some x) × (f x ≡ y)
mapped_some f (Some x) y e = (x, refl, some_is (f x) y e)
mapped_some f None y e = none_is_some y e

-- an answer agrees with the log: what it says of an entry is the log's, and so is the mark that it holds
abbrev pub Agrees : MarkedLog → AnyMessage → Type 0
Agrees l (Of_log answer) = AgreesWith l.log.entries answer.body
Agrees l (About_mark answer) = (key : Key) (m : Mark) → answer.body ≡ HeldMsg key m → m ≡ l.marks key

-- Messages that aren't about marks
body_agrees : (log : Log) (message : Message) (answer : Body) → answer_body log log message ≡ Some answer → AgreesWith log.entries answer
body_agrees log message answer e =
    let Ends : Option Body → Type 0 = λ o. o ≡ Some answer → AgreesWith log.entries answer in
    holds_if Ends (is_answer message.body) None _ (λ t n. none_is_some answer n)
    (λ t. holds_if Ends (nat_lt message.boot log.boot) (Some (StaleMsg log.boot)) _ (λ s n. subst (AgreesWith log.entries) (some_is _ _ n) tt)
    (λ s. holds_if Ends (is_hello message.body || message.boot == log.boot) (answer_from message.body log) None (λ r n. reported_agrees message.body log answer n) (λ r n. none_is_some answer n))) e

answer_agrees : (log : Log) (message answer : Message) → log_after log message ≡ log → answer_to log message ≡ Some answer → AgreesWith log.entries answer.body
unfolding answer_to
answer_agrees log message answer same e =
    let parts = mapped_some (λ body. record { boot = message.boot; body = body }) (answer_body log (log_after log message) message) answer e in
    subst (AgreesWith log.entries) (ap (λ m. m.body) parts.2)
    (body_agrees log message parts.0 (ap (λ x. answer_body log x message) (sym same) ∙ parts.1))

above_agrees : (l : MarkedLog) (message : Message) (answer : Message) → log_after l.log message ≡ l.log → answer_above l message ≡ Some answer → AgreesWith l.log.entries answer.body
unfolding answer_above
above_agrees l message answer same =
    holds_if (λ o. o ≡ Some answer → AgreesWith l.log.entries answer.body) (message.boot == l.log.boot && is_below l message.body) None (answer_to l.log message)
    (λ t e. none_is_some answer e) (λ t e. answer_agrees l.log message answer same e)

-- Messages about marks
abbrev held_mark : MarkBody → Option Mark
held_mark (HeldMsg key m) = Some m
held_mark _ = None

abbrev held_key : MarkBody → Key → Key
held_key (HeldMsg key m) other = key
held_key _ other = other

body_reported : (l : MarkedLog) (body answer : MarkBody) → reported_of_mark body l ≡ Some answer → (key : Key) (m : Mark) → answer ≡ HeldMsg key m → m ≡ l.marks key
body_reported l (MarkMsg k mark) answer e key m is =
    let parts = mapped_some (λ x. MarkedMsg k (l.marks k).reads) (entry_of k l.log) answer e in none_is_some m (ap held_mark (parts.2 ∙ is))
body_reported l (AskMsg k) answer e key m is =
    let parts = mapped_some (λ x. HeldMsg k (l.marks k)) (entry_of k l.log) answer e in
    let mark : l.marks k ≡ m = some_is _ _ (ap held_mark (parts.2 ∙ is)) in
    let same : k ≡ key = ap (λ b. held_key b k) (parts.2 ∙ is) in
    sym mark ∙ ap l.marks same
body_reported l (MarkedMsg k reads) answer e key m is = none_is_some answer e
body_reported l (HeldMsg k mark) answer e key m is = none_is_some answer e

mark_agrees : (l : MarkedLog) (message : MarkMessage) (answer : AnyMessage) → after_mark l message ≡ l → answer_to_mark l message ≡ Some answer → Agrees l answer
unfolding answer_to_mark
mark_agrees l message answer same =
    let Ends : Option AnyMessage → Type 0 = λ o. o ≡ Some answer → Agrees l answer in
    holds_if Ends (is_mark_answer message.body) None _ (λ t n. none_is_some answer n)
    (λ t. holds_if Ends (nat_lt message.boot l.log.boot) (Some (Of_log (record { boot = message.boot; body = StaleMsg l.log.boot }))) _ (λ s n. subst (Agrees l) (some_is _ _ n) tt)
    (λ s. holds_if Ends (message.boot == l.log.boot) (option_map (about_mark message.boot) (reported_of_mark message.body (after_mark l message))) None
    (λ r n. let parts = mapped_some (about_mark message.boot) (reported_of_mark message.body (after_mark l message)) answer n in
    subst (Agrees l) parts.2 (λ key m is. body_reported l message.body parts.0 (ap (reported_of_mark message.body) (sym same) ∙ parts.1) key m is))
    (λ r n. none_is_some answer n)))

pub answers_agree : (l : MarkedLog) (asked answer : AnyMessage) → IsQuestion l asked → answer_of l asked ≡ Some answer → Agrees l answer
answers_agree l (Of_log message) answer same e =
    let parts = mapped_some Of_log (answer_above l message) answer e in subst (Agrees l) parts.2 (above_agrees l message parts.0 same parts.1)
answers_agree l (About_mark message) answer same e = mark_agrees l message answer same e

-- Where an answer leads
led_on : {A : Type 0} (P : A → Type 0) (before : A) (o : Option A) → P before → ((more : A) → o ≡ Some more → P more)
    → (after : A) × MatchOption o (after ≡ before) (λ more. after ≡ more) × P after
led_on P before None was on = (before, refl, was)
led_on P before (Some more) was on = (more, refl, on more refl)

fetched_on_agrees : (l : MarkedLog) (marks : Bool) (boot count : ℕ) (answer : Message) (before more : FetchedSoFar) {State : Type 0} (service : Machine State) (writing : Writing State)
    → HasTrueMarks service writing l → AreFetched l.log.entries before.entries → AgreesWith l.log.entries answer.body → fetched_on marks boot count answer before ≡ Some more
    → AreFetched l.log.entries more.entries
fetched_on_agrees l marks boot count answer before more service writing log was agrees =
    let after : Option (List Fetched) = fetched_after (wanted count before.entries) answer.body before.entries in
    let next : List Fetched → FetchedSoFar = λ entries. record { entries = entries; awaits_mark = awaits_after marks answer.body } in
    let Ends : Option FetchedSoFar → Type 0 = λ o. o ≡ Some more → AreFetched l.log.entries more.entries in
    holds_if Ends before.awaits_mark None (option_map next (if answer.boot == boot then after else None)) (λ t e. none_is_some more e)
    (λ t. holds_if (λ o. Ends (option_map next o)) (answer.boot == boot) after None
    (λ s e. let parts = mapped_some next after more e in
    subst (λ x. AreFetched l.log.entries x.entries) parts.2 (fetched_agrees l.log.entries count before.entries parts.0 answer.body log.distinct was agrees parts.1))
    (λ s e. none_is_some more e))

front_of : {State : Type 0} (service : Machine State) (writing : Writing State) (l : MarkedLog) (f : Fetched) (earlier : List Fetched) (key : Key) (m : Mark) → ReadsBack service writing
    → HasTrueMarks service writing l → AreFetched l.log.entries (f ∷ earlier) → key_eq key f.head.key ≡ true → m ≡ l.marks key
    → (bytes : List ℕ) × (lengths : List ℕ) × IsFront service writing m bytes lengths × AreFetched l.log.entries (with_front bytes lengths (f ∷ earlier))
front_of service writing l f earlier key m back log a asked is =
    let e : Entry = a.0 in
    let same : key ≡ e.key = same_key key f.head.key asked ∙ ap (λ h. h.key) a.2.head in
    let own : m ≡ l.marks e.key = is ∙ ap l.marks same in
    let true_mark = all_slice_get (λ x. (l.marks x.key ≡ no_mark) ⊎ IsRunOf service writing x (l.marks x.key)) l.log.entries (length earlier) e log.marks a.1 in
    ⊎_elim
    (λ none. (
      [],
      [],
      inl (ap (λ x. x.reads) (own ∙ none), refl, refl),
      (e, a.1, record { head = a.2.head; bytes = (e.bytes, refl); lengths = (e.lengths, refl) }, a.3, a.4),
    ))
    (λ run. let runs : IsRunOf service writing e m = subst (IsRunOf service writing e) (sym own) run in
    let bytes = all_slice_get (λ x. AreBytes x.bytes) l.log.entries (length earlier) e log.bytes a.1 in (
      bytes_below m e,
      lengths_below m e,
      inr (front_is service writing e m back bytes runs),
      (e, a.1, record { head = a.2.head; bytes = take_first m.length e.bytes; lengths = take_first m.reads e.lengths }, a.3, a.4),
    ))
    true_mark

newest_front : {State : Type 0} (service : Machine State) (writing : Writing State) (l : MarkedLog) (body : MarkBody) (entries : List Fetched) (m : Mark) → ReadsBack service writing
    → HasTrueMarks service writing l → AreFetched l.log.entries entries → ((key : Key) (held : Mark) → body ≡ HeldMsg key held → held ≡ l.marks key)
    → mark_of_newest writing body entries ≡ Some m
    → (bytes : List ℕ) × (lengths : List ℕ) × IsFront service writing m bytes lengths × AreFetched l.log.entries (with_front bytes lengths entries)
newest_front service writing l (HeldMsg key held) (f ∷ earlier) m back log was agrees e =
    let taken = chosen_is (key_eq key f.head.key && mark_fits writing f.head held) held m e in
    front_of service writing l f earlier key m back log was (and_parts (key_eq key f.head.key) (mark_fits writing f.head held) taken.0).0
    (sym taken.1 ∙ agrees key held refl)
newest_front service writing l (HeldMsg key held) [] m back log was agrees e = none_is_some m e
newest_front service writing l (MarkMsg key held) entries m back log was agrees e = none_is_some m e
newest_front service writing l (MarkedMsg key reads) entries m back log was agrees e = none_is_some m e
newest_front service writing l (AskMsg key) entries m back log was agrees e = none_is_some m e

mark_leads : {State : Type 0} (service : Machine State) (writing : Writing State) (l : MarkedLog) (before : FetchedSoFar) (o : Option Mark) → AreFetched l.log.entries before.entries
    → ((m : Mark) → o ≡ Some m → (bytes : List ℕ) × (lengths : List ℕ) × IsFront service writing m bytes lengths × AreFetched l.log.entries (with_front bytes lengths before.entries))
    → (after : FetchedSoFar) × MatchOption o (after ≡ before)
    (λ m. (bytes : List ℕ) × (lengths : List ℕ) × IsFront service writing m bytes lengths × (after ≡ begun_on bytes lengths before))
    × AreFetched l.log.entries after.entries
mark_leads service writing l before None was on = (before, refl, was)
mark_leads service writing l before (Some m) was on =
    let f = on m refl in (begun_on f.0 f.1 before, (f.0, f.1, f.2, refl), f.3)

pub answers_lead : {State : Type 0} (service : Machine State) (writing : Writing State) (l : MarkedLog) (marks : Bool) (boot count : ℕ) (answer : AnyMessage) (before : FetchedSoFar)
    → ReadsBack service writing → HasTrueMarks service writing l → AreFetched l.log.entries before.entries → Agrees l answer
    → (after : FetchedSoFar) × Leads service writing marks boot count answer before after × AreFetched l.log.entries after.entries
answers_lead service writing l marks boot count (Of_log answer) before back log was agrees =
    led_on (λ s. AreFetched l.log.entries s.entries) before (fetched_on marks boot count answer before) was
    (λ more e. fetched_on_agrees l marks boot count answer before more service writing log was agrees e)
answers_lead service writing l marks boot count (About_mark answer) before back log was agrees =
    mark_leads service writing l before (mark_reported writing boot answer before) was
    (λ m. holds_if (λ o. o ≡ Some m → (bytes : List ℕ) × (lengths : List ℕ) × IsFront service writing m bytes lengths × AreFetched l.log.entries (with_front bytes lengths before.entries))
    (answer.boot == boot && before.awaits_mark) (mark_of_newest writing answer.body before.entries) None
    (λ t e. newest_front service writing l answer.body before.entries m back log was agrees e) (λ t e. none_is_some m e))

-- Where nothing is missing any more
pub ends_at_points : {State : Type 0} (service : Machine State) (profile : Profile) (entries : List Entry) (fetched : List Fetched) → AreFetched entries fetched → wanted (length entries) fetched ≡ None
    → (i : ℕ) (e : Entry) → slice_get entries i ≡ Some e → e.done ≡ false → slice_get (all_restored service profile fetched) i ≡ Some (Lives (point_of service profile e))
ends_at_points service profile entries fetched a none i e at live =
    let whole = nothing_missing entries (length entries) fetched a none in
    let within = slice_get_within entries i e at in
    restored_at service profile entries fetched a whole.0 i e (omega (arith, within, whole.1)) at live
