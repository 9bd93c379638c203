-- What a death at a moment leaves: in the course of a round, after others, and of a whole life.
use Rattle.std.proofs.Common.{◌≡◌, ◌∙◌, ◌⊎◌, inl, inr, ℕ, ◌≤◌, refl, sym, ap, ap₂, subst, Option, None, Some, List, [], ◌∷◌, ◌++◌, length, map, append_assoc, append-nil, arith, Bool, true, false}
use Rattle.std.proofs.lemmas.List.{map-append}
use Rattle.ft_io.specs.declared.Addr.{Addr}
use Rattle.ft_io.specs.declared.link_call.LinkCall.{LinkCall}
use Rattle.ft_io.specs.declared.link_call.LinkCall.TheVariants.{Bound}
use Rattle.forget_store.specs.AnyMessage.{AnyMessage, heeded_in, log_after_each}
use Rattle.seq_arith.specs.declared.kinds.Grammar.{Grammar}
use Rattle.long_laws.specs.Forgetting.{ForgetAnswer}
use Rattle.forget_store.specs.declared.heeding.Heeded.{Heeded}
use Rattle.ft_model.specs.Log.{Log}
use Rattle.disk.specs.Remains.{IsFrontOf, LeftBy, MayLeave, seen_after}
use Rattle.disk.specs.declared.calls.DiskCall.TheVariants.{Synced}
use Rattle.disk.specs.CallRecord.{on_link, on_disk, disk_calls}
use Rattle.disk.specs.declared.calls.DiskCall.{DiskCall}
use Rattle.disk.specs.declared.calls.DeskCall.{DeskCall}
use Rattle.disk.specs.declared.calls.DeskCall.TheVariants.{OnLink}
use Rattle.disk.proofs.Reporting.{disk_calls_of_disk}
use Rattle.kept_log.specs.Format.{front, tip_of, HasBlocks, BringsNone, BringsNoneBy, is_unsettled, seen_by}
use Rattle.kept_log.specs.declared.tip.Tip.{Tip}
use Rattle.kept_log.proofs.Deaths.{rest_has, is_has, left_append}
use Rattle.kept_log.proofs.Lives.{last_keeps, opening_keeps}
use Rattle.kept_log.specs.JournaledLog.{committing, tip_after, with_round, HasLog}
use Rattle.kept_log.specs.Compaction.{HasSameLog, replacing}
use Rattle.kept_log.specs.Startup.{IsWhole}
use Rattle.link_parts.specs.LoggerTurns.{handing, answer_for, answering}
use Rattle.link_parts.specs.Receipt.{Received, datagram, silence, failure, received_as}
use Rattle.journal_parts.specs.Rounds.{Place, Round, Step, AreSteps, IsRound, received_in, log_behind, receives, changes_in, answers_in, round_calls, place_after, calls_of}
use Rattle.journal_parts.specs.Rounds.Step.{Turned, Compacted, Stayed}
use Rattle.journal_laws.specs.Moments.{IsFront, messages_in, handed_in, answers_to, spelled_by, ComesBack, Outlives}
use Rattle.journal_laws.proofs.Fronts.{Within, within, link_front, one_front, disk_front}
use Rattle.journal_laws.proofs.OneLog.{finds_one}
use Rattle.journal_parts.specs.LoggerLife.{Starts}
use Rattle.journal_laws.proofs.Resting.{Rests, committed, few_round, has_round, disk_calls_of_round, rests_on, opened_rests}
use Rattle.journal_laws.proofs.Replacing.{settled_on, settled_committing, settled_front, settled_opening, brings_on}
use Rattle.journal_laws.proofs.Saying.{messages-append, handed-append, disk_calls-append, messages_of_disk, handed_of_disk, disk_calls_of_link, log-append, answers-append, said_by, said_last, said_more, log_said, handed_all}

outlives : (heeded : Heeded) (before log : Log) (calls : List DeskCall) (left made : List ℕ) (bodies : List (List ℕ)) (tip : Tip) → HasBlocks made bodies left → HasLog made bodies tip log → ComesBack heeded before log calls
    → Outlives heeded before calls left
outlives heeded before log calls left made bodies tip stands has back = record {
  made = made;
  bodies = bodies;
  tip = tip;
  log = log;
  stands = stands;
  has_log = has;
  comes_back = back;
  only = λ time others opening at next whole k. finds_one left made time bodies others opening tip at log next stands has whole k;
}

-- nothing of these calls is answered, and the log is as before
unchanged : (heeded : Heeded) (log : Log) (calls : List DeskCall) → handed_in calls ≡ [] → ComesBack heeded log log calls
unchanged heeded log calls none = record { answered = []; kept = []; lost = messages_in heeded calls; received = refl; handed = none; after_is = refl }

-- what a round received hands on nothing
append_none : {A : Type 0} (xs ys : List A) → xs ++ ys ≡ [] → xs ≡ []
append_none [] ys none = refl
append_none (x ∷ xs) ys none = cc

none_handed : (received : List Received) → handed_in (on_link (receives received)) ≡ []
none_handed [] = refl
none_handed (last ∷ earlier) =
    ap handed_in (map-append OnLink (receives earlier) (received_as last ∷ [])) ∙ (handed-append (on_link (receives earlier)) (OnLink (received_as last) ∷ [])
    ∙ ap₂ (λ a b. a ++ b) (none_handed earlier) (none last))
  where
    none : (r : Received) → handed_in (OnLink (received_as r) ∷ []) ≡ []
    none (datagram from bytes) = refl
    none silence = refl
    none failure = refl

first_handed : (received : List Received) (first others : List LinkCall) → receives received ≡ first ++ others → handed_in (on_link first) ≡ []
first_handed received first others is =
    append_none (handed_in (on_link first)) (handed_in (on_link others))
    (sym (handed-append (on_link first) (on_link others)) ∙ (ap handed_in (sym (map-append OnLink first others)) ∙ (ap (λ l. handed_in (on_link l)) (sym is) ∙ none_handed received)))

-- how far the answers have come
record Answered (heeded : Heeded) (log : Log) (messages : List AnyMessage) (calls : List DeskCall) : Type 0 where
  answered : List AnyMessage
  kept : List AnyMessage
  all_are : messages ≡ answered ++ kept
  handed : handed_in calls ≡ map (spelled_by heeded.grammar) (answers_to log answered)

one_handing : (grammar : Grammar) (to : Addr) (is_lost : Bool) (answer : Option ForgetAnswer) → length (handing grammar to is_lost answer) ≤ 1
one_handing grammar to is_lost None = omega arith
one_handing grammar to is_lost (Some m) = omega arith

one_answer : (heeded : Heeded) (log : Log) (is_lost : Bool) (r : Received) → length (answering heeded log is_lost r) ≤ 1
one_answer heeded log is_lost (datagram from bytes) = one_handing heeded.grammar from is_lost (answer_for log (heeded_in heeded bytes))
one_answer heeded log is_lost silence = omega arith
one_answer heeded log is_lost failure = omega arith

answered : (heeded : Heeded) (log : Log) (round : Round) (done : List DeskCall) → IsFront (on_link (answers_in heeded log round)) done → Answered heeded log (said_by heeded (received_in round)) done
answered heeded log [] [] f = record { answered = []; kept = []; all_are = refl; handed = refl }
answered heeded log [] (call ∷ done) f = absurd f
answered heeded log (last ∷ earlier) done f =
    by (within (on_link (answers_in heeded log earlier)) (on_link this) done (subst (λ l. IsFront l done) (map-append OnLink (answers_in heeded log earlier) this) f)) (λ g. answered heeded log earlier done g)
  where
    this : List LinkCall
    this = answering heeded (log_behind heeded log (received_in earlier)) last.is_lost last.received

    more : said_by heeded (received_in (last ∷ earlier)) ≡ said_by heeded (received_in earlier) ++ said_last heeded last.received
    more = said_more heeded last.received (received_in earlier)

    by : Within (on_link (answers_in heeded log earlier)) (on_link (answering heeded (log_behind heeded log (received_in earlier)) last.is_lost last.received)) done
        → (IsFront (on_link (answers_in heeded log earlier)) done → Answered heeded log (said_by heeded (received_in earlier)) done) → Answered heeded log (said_by heeded (received_in (last ∷ earlier))) done
    by (inl g) so_far =
        let a = so_far g in
        record {
          answered = a.answered;
          kept = a.kept ++ said_last heeded last.received;
          all_are = more ∙ (ap (λ l. l ++ said_last heeded last.received) a.all_are ∙ append_assoc a.answered a.kept (said_last heeded last.received));
          handed = a.handed;
        }
    by (inr (rest, is, g)) so_far =
        elim (one_front (answering heeded (log_behind heeded log (received_in earlier)) last.is_lost last.received) rest (one_answer heeded (log_behind heeded log (received_in earlier)) last.is_lost last.received) g)
        as (λ _. Answered heeded log (said_by heeded (received_in (last ∷ earlier))) done) [
          | inl none ↦ record {
            answered = said_by heeded (received_in earlier);
            kept = said_last heeded last.received;
            all_are = more;
            handed = ap handed_in (is ∙ (ap (λ l. on_link (answers_in heeded log earlier) ++ l) none ∙ append-nil (on_link (answers_in heeded log earlier)))) ∙ handed_all heeded log earlier;
          }
          | inr all ↦ record {
            answered = said_by heeded (received_in (last ∷ earlier));
            kept = [];
            all_are = sym (append-nil (said_by heeded (received_in (last ∷ earlier))));
            handed = ap handed_in (is ∙ (ap (λ l. on_link (answers_in heeded log earlier) ++ l) all
                ∙ sym (map-append OnLink (answers_in heeded log earlier) (answering heeded (log_behind heeded log (received_in earlier)) last.is_lost last.received)))) ∙ handed_all heeded log (last ∷ earlier);
          }
        ]

-- answers receive nothing
no_messages : (heeded : Heeded) (log : Log) (round : Round) (done : List DeskCall) → IsFront (on_link (answers_in heeded log round)) done → messages_in heeded done ≡ []
no_messages heeded log round done f =
    let first = link_front (answers_in heeded log round) done f in
    ap (messages_in heeded) first.done_is
    ∙ append_none (messages_in heeded (on_link first.first)) (messages_in heeded (on_link first.others))
    (sym (messages-append heeded (on_link first.first) (on_link first.others)) ∙ (ap (messages_in heeded) (sym (map-append OnLink first.first first.others))
    ∙ (ap (λ l. messages_in heeded (on_link l)) (sym first.all_are) ∙ none_said heeded log round)))
  where
    none_handing : (heeded : Heeded) (to : Addr) (is_lost : Bool) (answer : Option ForgetAnswer) → messages_in heeded (on_link (handing heeded.grammar to is_lost answer)) ≡ []
    none_handing heeded to is_lost None = refl
    none_handing heeded to is_lost (Some m) = refl

    none_answer : (heeded : Heeded) (log : Log) (is_lost : Bool) (r : Received) → messages_in heeded (on_link (answering heeded log is_lost r)) ≡ []
    none_answer heeded log is_lost (datagram from bytes) = none_handing heeded from is_lost (answer_for log (heeded_in heeded bytes))
    none_answer heeded log is_lost silence = refl
    none_answer heeded log is_lost failure = refl

    none_said : (heeded : Heeded) (log : Log) (round : Round) → messages_in heeded (on_link (answers_in heeded log round)) ≡ []
    none_said heeded log [] = refl
    none_said heeded log (last ∷ earlier) =
        let this = answering heeded (log_behind heeded log (received_in earlier)) last.is_lost last.received in
        ap (messages_in heeded) (map-append OnLink (answers_in heeded log earlier) this) ∙ (messages-append heeded (on_link (answers_in heeded log earlier)) (on_link this)
        ∙ ap₂ (λ a b. a ++ b) (none_said heeded log earlier) (none_answer heeded (log_behind heeded log (received_in earlier)) last.is_lost last.received))

-- in the course of a round
module _ (file : List ℕ) (Held : List ℕ → Type 0) (at : Place) (round : Round) (left : List ℕ) (r : Rests file Held at) (is_round : IsRound (received_in round)) where
  abbrev body : List ℕ
  body = changes_in at.heeded at.log (received_in round)

  abbrev came : List DeskCall
  came = on_link (receives (received_in round))

  abbrev after : Log
  after = log_behind at.heeded at.log (received_in round)

  -- the file is as it was before the round
  as_before : (done : List DeskCall) → handed_in done ≡ [] → HasBlocks r.made r.bodies left → Outlives at.heeded at.log done left
  as_before done none stands = outlives at.heeded at.log at.log done left r.made r.bodies at.tip stands r.has_log (unchanged at.heeded at.log done none)

  -- the file has the round
  with_it : (done : List DeskCall) (a k : List AnyMessage) → messages_in at.heeded done ≡ said_by at.heeded (received_in round) → said_by at.heeded (received_in round) ≡ a ++ k → handed_in done ≡ map (spelled_by at.heeded.grammar) (answers_to at.log a)
      → HasBlocks r.made (with_round r.bodies body) left → Outlives at.heeded at.log done left
  with_it done a k said all handed stands =
      outlives at.heeded at.log after done left r.made (with_round r.bodies body) (tip_after at.tip body) stands (has_round at.heeded r.made r.bodies at.tip at.log (received_in round) is_round r.has_log) (record {
        answered = a;
        kept = k;
        lost = [];
        received = said ∙ (all ∙ ap (λ l. a ++ l) (sym (append-nil k)));
        handed = handed;
        after_is = log_said at.heeded at.log (received_in round) ∙ ap (log_after_each at.log) all;
      })

  -- the commit has come so far
  committing_so_far : (some : List DiskCall) → IsFrontOf (committing at.tip body) some → LeftBy file Held some left → BringsNone (seen_by file some) left
      → HasBlocks r.made r.bodies left ⊎ HasBlocks r.made (with_round r.bodies body) left
  committing_so_far some f l brings =
      last_keeps file Held r.made r.bodies body some left r.rest (few_round at.heeded at.log (received_in round) is_round) (subst (λ t. IsFrontOf (committing t body) some) r.has_log.tip_is f) l brings

  in_commit : (done : List DeskCall) (some : List DiskCall) → done ≡ came ++ on_disk some → IsFrontOf (committing at.tip body) some → LeftBy file Held (disk_calls done) left
      → BringsNoneBy file (disk_calls done) left → Outlives at.heeded at.log done left
  in_commit done some is f l brings =
      let calls : disk_calls done ≡ some = ap disk_calls is ∙ (disk_calls-append came (on_disk some) ∙ ap₂ (λ a b. a ++ b) (disk_calls_of_link (receives (received_in round))) (disk_calls_of_disk some)) in
      let said : messages_in at.heeded done ≡ said_by at.heeded (received_in round) =
      ap (messages_in at.heeded) is ∙ (messages-append at.heeded came (on_disk some) ∙ (ap (λ b. said_by at.heeded (received_in round) ++ b) (messages_of_disk at.heeded some) ∙ append-nil (said_by at.heeded (received_in round)))) in
      let none : handed_in done ≡ [] =
      ap handed_in is ∙ (handed-append came (on_disk some) ∙ ap₂ (λ a b. a ++ b) (none_handed (received_in round)) (handed_of_disk some)) in
      elim (committing_so_far some f (subst (λ c. LeftBy file Held c left) calls l) (subst (λ c. BringsNoneBy file c left) calls brings (settled_front at.tip body some f))) as (λ _. Outlives at.heeded at.log done left) [
        | inl stands ↦ as_before done none stands
        | inr stands ↦ with_it done [] (said_by at.heeded (received_in round)) said refl none stands
      ]

  in_answers : (done rest : List DeskCall) → done ≡ came ++ (on_disk (committing at.tip body) ++ rest) → IsFront (on_link (answers_in at.heeded at.log round)) rest → LeftBy file Held (disk_calls done) left
      → Outlives at.heeded at.log done left
  in_answers done rest is f l =
      let first = link_front (answers_in at.heeded at.log round) rest f in
      let no_calls : disk_calls rest ≡ [] = ap disk_calls first.done_is ∙ disk_calls_of_link first.first in
      let calls : disk_calls done ≡ committing at.tip body =
      ap disk_calls is ∙ (disk_calls-append came (on_disk (committing at.tip body) ++ rest) ∙ ap₂ (λ a b. a ++ b) (disk_calls_of_link (receives (received_in round)))
      (disk_calls-append (on_disk (committing at.tip body)) rest ∙ (ap₂ (λ a b. a ++ b) (disk_calls_of_disk (committing at.tip body)) no_calls ∙ append-nil (committing at.tip body)))) in
      let a = answered at.heeded at.log round rest f in
      let none_said : messages_in at.heeded rest ≡ [] = no_messages at.heeded at.log round rest f in
      let said : messages_in at.heeded done ≡ said_by at.heeded (received_in round) =
      ap (messages_in at.heeded) is ∙ (messages-append at.heeded came (on_disk (committing at.tip body) ++ rest) ∙ (ap (λ b. said_by at.heeded (received_in round) ++ b)
      (messages-append at.heeded (on_disk (committing at.tip body)) rest ∙ ap₂ (λ x y. x ++ y) (messages_of_disk at.heeded (committing at.tip body)) none_said) ∙ append-nil (said_by at.heeded (received_in round)))) in
      let handed : handed_in done ≡ map (spelled_by at.heeded.grammar) (answers_to at.log a.answered) =
      ap handed_in is ∙ (handed-append came (on_disk (committing at.tip body) ++ rest) ∙ (ap₂ (λ x y. x ++ y) (none_handed (received_in round))
      (handed-append (on_disk (committing at.tip body)) rest ∙ ap (λ x. x ++ handed_in rest) (handed_of_disk (committing at.tip body))) ∙ a.handed)) in
      let rests = committed file Held r.made r.bodies at.tip body r.has_log.tip_is r.rest in
      let kept = subst (λ c. LeftBy file Held c left) calls l in
      with_it done a.answered a.kept said a.all_are handed (is_has r.made (with_round r.bodies body) left r.rest.time (rests.only left kept ∙ rests.is))

  pub in_round : (done : List DeskCall) → IsFront (round_calls at round) done → LeftBy file Held (disk_calls done) left → BringsNoneBy file (disk_calls done) left → Outlives at.heeded at.log done left
  in_round done f l brings =
      elim (within came (on_disk (committing at.tip body) ++ on_link (answers_in at.heeded at.log round)) done f) as (λ _. Outlives at.heeded at.log done left) [
        | inl g ↦
            let first = link_front (receives (received_in round)) done g in
            let none : handed_in done ≡ [] = ap handed_in first.done_is ∙ first_handed (received_in round) first.first first.others first.all_are in
            let calls : disk_calls done ≡ [] = ap disk_calls first.done_is ∙ disk_calls_of_link first.first in
            as_before done none (rest_has file Held r.made r.bodies r.rest left (subst (λ c. LeftBy file Held c left) calls l))
        | inr behind ↦
            elim (within (on_disk (committing at.tip body)) (on_link (answers_in at.heeded at.log round)) behind.0 behind.2) as (λ _. Outlives at.heeded at.log done left) [
              | inl g ↦
                  let some = disk_front (committing at.tip body) behind.0 g in
                  in_commit done some.0 (behind.1 ∙ ap (λ l. came ++ l) some.1) some.2 l brings
              | inr last ↦ in_answers done last.0 (behind.1 ∙ ap (λ l. came ++ l) last.1) last.2 l
            ]
      ]

-- what whole rounds received, and what they handed on
record Reports (heeded : Heeded) (before after : Log) (calls : List DeskCall) : Type 0 where
  log_is : after ≡ log_after_each before (messages_in heeded calls)
  handed : handed_in calls ≡ map (spelled_by heeded.grammar) (answers_to before (messages_in heeded calls))

round_said : (at : Place) (round : Round) → messages_in at.heeded (round_calls at round) ≡ said_by at.heeded (received_in round)
round_said at round =
    let calls = committing at.tip (changes_in at.heeded at.log (received_in round)) in
    messages-append at.heeded (on_link (receives (received_in round))) (on_disk calls ++ on_link (answers_in at.heeded at.log round))
    ∙ (ap (λ b. said_by at.heeded (received_in round) ++ b) (messages-append at.heeded (on_disk calls) (on_link (answers_in at.heeded at.log round))
    ∙ ap₂ (λ x y. x ++ y) (messages_of_disk at.heeded calls) (no_messages at.heeded at.log round (on_link (answers_in at.heeded at.log round)) (whole_front (answers_in at.heeded at.log round)))) ∙ append-nil (said_by at.heeded (received_in round)))
  where
    whole_front : (calls : List LinkCall) → IsFront (on_link calls) (on_link calls)
    whole_front [] = tt
    whole_front (call ∷ calls) = inl (refl, whole_front calls)

round_handed : (at : Place) (round : Round) → handed_in (round_calls at round) ≡ map (spelled_by at.heeded.grammar) (answers_to at.log (said_by at.heeded (received_in round)))
round_handed at round =
    let calls = committing at.tip (changes_in at.heeded at.log (received_in round)) in
    handed-append (on_link (receives (received_in round))) (on_disk calls ++ on_link (answers_in at.heeded at.log round))
    ∙ (ap₂ (λ x y. x ++ y) (none_handed (received_in round)) (handed-append (on_disk calls) (on_link (answers_in at.heeded at.log round))
    ∙ ap (λ x. x ++ handed_in (on_link (answers_in at.heeded at.log round))) (handed_of_disk calls)) ∙ handed_all at.heeded at.log round)

same_heeded : (start : Place) (rounds : List Step) → (place_after start rounds).heeded ≡ start.heeded
same_heeded start [] = refl
same_heeded start (Turned last ∷ earlier) = same_heeded start earlier
same_heeded start (Compacted made bodies ∷ earlier) = same_heeded start earlier
same_heeded start (Stayed ∷ earlier) = same_heeded start earlier

rounds_report : (start : Place) (rounds : List Step) → Reports start.heeded start.log (place_after start rounds).log (calls_of start rounds)
rounds_report start [] = record { log_is = refl; handed = refl }
rounds_report start (Compacted made bodies ∷ earlier) =
    let before = rounds_report start earlier in
    let calls = calls_of start earlier in
    let more : List DeskCall = on_disk (replacing made bodies) in
    let same : messages_in start.heeded (calls ++ more) ≡ messages_in start.heeded calls = messages-append start.heeded calls more ∙ append-nil (messages_in start.heeded calls) in
    record {
      log_is = before.log_is ∙ ap (log_after_each start.log) (sym same);
      handed = handed-append calls more ∙ (append-nil (handed_in calls) ∙ (before.handed ∙ ap (λ l. map (spelled_by start.heeded.grammar) (answers_to start.log l)) (sym same)));
    }
rounds_report start (Stayed ∷ earlier) = rounds_report start earlier
rounds_report start (Turned last ∷ earlier) =
    let at = place_after start earlier in
    let before = rounds_report start earlier in
    let said : messages_in start.heeded (round_calls at last) ≡ said_by at.heeded (received_in last) =
    subst (λ g. messages_in g (round_calls at last) ≡ said_by at.heeded (received_in last)) (same_heeded start earlier) (round_said at last) in
    let handed : handed_in (round_calls at last) ≡ map (spelled_by start.heeded.grammar) (answers_to at.log (said_by at.heeded (received_in last))) =
    subst (λ g. handed_in (round_calls at last) ≡ map (spelled_by g.grammar) (answers_to at.log (said_by at.heeded (received_in last)))) (same_heeded start earlier) (round_handed at last) in
    let first = messages_in start.heeded (calls_of start earlier) in
    let all : messages_in start.heeded (calls_of start earlier ++ round_calls at last) ≡ first ++ said_by at.heeded (received_in last) =
    messages-append start.heeded (calls_of start earlier) (round_calls at last) ∙ ap (λ l. first ++ l) said in
    record {
      log_is = log_said at.heeded at.log (received_in last) ∙ (ap (λ l. log_after_each l (said_by at.heeded (received_in last))) before.log_is
          ∙ (sym (log-append start.log first (said_by at.heeded (received_in last))) ∙ ap (log_after_each start.log) (sym all)));
      handed = handed-append (calls_of start earlier) (round_calls at last)
          ∙ (ap₂ (λ x y. x ++ y) before.handed (handed ∙ ap (λ l. map (spelled_by start.heeded.grammar) (answers_to l (said_by at.heeded (received_in last)))) before.log_is)
          ∙ (sym (map-append (spelled_by start.heeded.grammar) (answers_to start.log first) (answers_to (log_after_each start.log first) (said_by at.heeded (received_in last))))
          ∙ ap (map (spelled_by start.heeded.grammar)) (sym (answers-append start.log first (said_by at.heeded (received_in last))) ∙ ap (answers_to start.log) (sym all))));
    }

-- after calls that were told whole
comes_behind : (heeded : Heeded) (start at next : Log) (calls rest : List DeskCall) → Reports heeded start at calls → ComesBack heeded at next rest → ComesBack heeded start next (calls ++ rest)
comes_behind heeded start at next calls rest t back =
    let first = messages_in heeded calls in
    record {
      answered = first ++ back.answered;
      kept = back.kept;
      lost = back.lost;
      received = messages-append heeded calls rest ∙ (ap (λ l. first ++ l) back.received ∙ sym (append_assoc first back.answered (back.kept ++ back.lost)));
      handed = handed-append calls rest ∙ (ap₂ (λ x y. x ++ y) t.handed (back.handed ∙ ap (λ l. map (spelled_by heeded.grammar) (answers_to l back.answered)) t.log_is)
          ∙ (sym (map-append (spelled_by heeded.grammar) (answers_to start first) (answers_to (log_after_each start first) back.answered)) ∙ ap (map (spelled_by heeded.grammar)) (sym (answers-append start first back.answered))));
      after_is = back.after_is ∙ (ap (λ l. log_after_each l (back.answered ++ back.kept)) t.log_is
          ∙ (sym (log-append start first (back.answered ++ back.kept)) ∙ ap (log_after_each start) (sym (append_assoc first back.answered back.kept))));
    }

behind : (heeded : Heeded) (start at : Log) (calls rest done : List DeskCall) (left : List ℕ) → done ≡ calls ++ rest → Reports heeded start at calls → Outlives heeded at rest left → Outlives heeded start done left
behind heeded start at calls rest done left is t o =
    subst (λ d. Outlives heeded start d left) (sym is)
    (outlives heeded start o.log (calls ++ rest) left o.made o.bodies o.tip o.stands o.has_log (comes_behind heeded start at o.log calls rest t o.comes_back))

-- a file at rest has the log of its place
at_rest : (file : List ℕ) (Held : List ℕ → Type 0) (start : Place) (calls : List DeskCall) (left : List ℕ) → Rests file Held start → handed_in calls ≡ [] → Held left
    → Outlives start.heeded start.log calls left
at_rest file Held start calls left r none held =
    outlives start.heeded start.log start.log calls left r.made r.bodies start.tip (rest_has file Held r.made r.bodies r.rest left held) r.has_log (unchanged start.heeded start.log calls none)

-- after whole steps only one file may have the name
settled_steps : (start : Place) (rounds : List Step) → is_unsettled false (disk_calls (calls_of start rounds)) ≡ false
settled_steps start [] = refl
settled_steps start (Compacted made bodies ∷ earlier) =
    ap (is_unsettled false) (disk_calls-append (calls_of start earlier) (on_disk (replacing made bodies)))
    ∙ settled_on (disk_calls (calls_of start earlier)) (replacing made bodies) (settled_steps start earlier) refl
settled_steps start (Stayed ∷ earlier) = settled_steps start earlier
settled_steps start (Turned last ∷ earlier) =
    let at = place_after start earlier in
    ap (is_unsettled false) (disk_calls-append (calls_of start earlier) (round_calls at last) ∙ ap (λ x. disk_calls (calls_of start earlier) ++ x) (disk_calls_of_round at last))
    ∙ settled_on (disk_calls (calls_of start earlier)) (committing at.tip (changes_in at.heeded at.log (received_in last))) (settled_steps start earlier)
    (settled_committing at.tip (changes_in at.heeded at.log (received_in last)))

-- what is held, or a new file
abbrev Either : (Held : List ℕ → Type 0) (made : List ℕ) (bodies : List (List ℕ)) → List ℕ → Type 0
Either Held made bodies c = Held c ⊎ (c ≡ front made bodies)

-- while a new file takes the old one's place: the one or the other has the name, and both have the log
in_replacing : (file : List ℕ) (Held : List ℕ → Type 0) (at : Place) (made : List ℕ) (bodies : List (List ℕ)) (some : List DiskCall) (left : List ℕ) → Rests file Held at
    → HasSameLog at.tip at.log made bodies → IsFrontOf (replacing made bodies) some → LeftBy file Held some left → Outlives at.heeded at.log (on_disk some) left
in_replacing file Held at made bodies some left r same f l = by some f l
  where
    has : HasLog made bodies (tip_of made bodies) at.log
    has = same r.made r.bodies r.has_log

    old : (some : List DiskCall) → Held left → Outlives at.heeded at.log (on_disk some) left
    old some held = at_rest file Held at (on_disk some) left r (handed_of_disk some) held

    new : (some : List DiskCall) → left ≡ front made bodies → Outlives at.heeded at.log (on_disk some) left
    new some is = outlives at.heeded at.log at.log (on_disk some) left made bodies (tip_of made bodies) (is_has made bodies left has.time is) has (unchanged at.heeded at.log (on_disk some) (handed_of_disk some))

    either : (some : List DiskCall) → Held left ⊎ (left ≡ front made bodies) → Outlives at.heeded at.log (on_disk some) left
    either some (inl held) = old some held
    either some (inr is) = new some is

    -- the new file has the name
    named : (some done : List DiskCall) → IsFrontOf (Synced false ∷ []) done → LeftBy (front made bodies) (Either Held made bodies) done left → Outlives at.heeded at.log (on_disk some) left
    named some [] f l = either some l
    named some (call ∷ []) (inl (is, f)) l = new some (subst (λ k. MayLeave (front made bodies) (Either Held made bodies) k left) is l)
    named some (call ∷ []) (inr (is, last)) l = either some (subst (λ k. MayLeave (front made bodies) (Either Held made bodies) k left) is l)
    named some (call ∷ next ∷ done) (inl (is, f)) l = absurd f
    named some (call ∷ next ∷ done) (inr (is, last)) l = cc

    by : (some : List DiskCall) → IsFrontOf (replacing made bodies) some → LeftBy file Held some left → Outlives at.heeded at.log (on_disk some) left
    by [] f l = old [] l
    by (call ∷ done) (inl (is, f)) l = named (call ∷ done) done f (subst (λ k. LeftBy (seen_after file k) (MayLeave file Held k) done left) is l)
    by (call ∷ []) (inr (is, last)) l = either (call ∷ []) (subst (λ k. MayLeave file Held k left) is l)
    by (call ∷ next ∷ done) (inr (is, last)) l = cc

in_rounds : (file : List ℕ) (Held : List ℕ → Type 0) (start : Place) (rounds : List Step) (done : List DeskCall) (left : List ℕ) → Rests file Held start
    → AreSteps start rounds → IsFront (calls_of start rounds) done → LeftBy file Held (disk_calls done) left
    → BringsNoneBy file (disk_calls done) left → Outlives start.heeded start.log done left
in_rounds file Held start [] [] left r all f l brings = at_rest file Held start [] left r refl l
in_rounds file Held start [] (call ∷ done) left r all f l brings = absurd f
in_rounds file Held start (Compacted made bodies ∷ earlier) done left r all f l brings =
    let at = place_after start earlier in
    let calls = calls_of start earlier in
    let more : List DiskCall = replacing made bodies in
    elim (within calls (on_disk more) done f) as (λ _. Outlives start.heeded start.log done left) [
      | inl g ↦ in_rounds file Held start earlier done left r all.1 g l brings
      | inr some ↦
          let one = disk_front more some.0 some.2 in
          let parts : disk_calls done ≡ disk_calls calls ++ one.0 =
          ap disk_calls some.1 ∙ (disk_calls-append calls some.0 ∙ ap (λ x. disk_calls calls ++ x) (ap disk_calls one.1 ∙ disk_calls_of_disk one.0)) in
          let now = left_append file Held (disk_calls calls) one.0 left (subst (λ c. LeftBy file Held c left) parts l) in
          behind start.heeded start.log at.log calls (on_disk one.0) done left (some.1 ∙ ap (λ x. calls ++ x) one.1) (rounds_report start earlier)
          (subst (λ g. Outlives g at.log (on_disk one.0) left) (same_heeded start earlier) (in_replacing (seen_by file (disk_calls calls)) (LeftBy file Held (disk_calls calls)) at made bodies one.0 left (rests_on file Held start earlier all.1 r) all.0 one.2 now))
    ]
in_rounds file Held start (Stayed ∷ earlier) done left r all f l brings = in_rounds file Held start earlier done left r all f l brings
in_rounds file Held start (Turned last ∷ earlier) done left r all f l brings =
    let at = place_after start earlier in
    let calls = calls_of start earlier in
    elim (within calls (round_calls at last) done f) as (λ _. Outlives start.heeded start.log done left) [
      | inl g ↦ in_rounds file Held start earlier done left r all.1 g l brings
      | inr some ↦
          let parts : disk_calls done ≡ disk_calls calls ++ disk_calls some.0 = ap disk_calls some.1 ∙ disk_calls-append calls some.0 in
          let now = left_append file Held (disk_calls calls) (disk_calls some.0) left (subst (λ c. LeftBy file Held c left) parts l) in
          let none_now = brings_on file (disk_calls calls) (disk_calls some.0) left (settled_steps start earlier) (subst (λ c. BringsNoneBy file c left) parts brings) in
          behind start.heeded start.log at.log calls some.0 done left some.1 (rounds_report start earlier)
          (subst (λ g. Outlives g at.log some.0 left) (same_heeded start earlier) (in_round (seen_by file (disk_calls calls)) (LeftBy file Held (disk_calls calls)) at last left (rests_on file Held start earlier all.1 r) all.0 some.0 some.2 now none_now))
    ]

-- after the bind
in_life : (file : List ℕ) (Held : List ℕ → Type 0) (start : Place) (local : Addr) (rounds : List Step) (done : List DeskCall) (left : List ℕ) → Rests file Held start
    → AreSteps start rounds → IsFront (OnLink (Bound local) ∷ calls_of start rounds) done → LeftBy file Held (disk_calls done) left
    → BringsNoneBy file (disk_calls done) left → Outlives start.heeded start.log done left
in_life file Held start local rounds done left r all f l brings =
    elim (within (OnLink (Bound local) ∷ []) (calls_of start rounds) done f) as (λ _. Outlives start.heeded start.log done left) [
      | inl g ↦ of_bind (one_front (Bound local ∷ []) done (omega arith) g) l
      | inr some ↦
          behind start.heeded start.log start.log (OnLink (Bound local) ∷ []) some.0 done left some.1 (record { log_is = refl; handed = refl })
          (in_rounds file Held start rounds some.0 left r all some.2 (subst (λ c. LeftBy file Held (disk_calls c) left) some.1 l)
          (subst (λ c. BringsNoneBy file (disk_calls c) left) some.1 brings))
    ]
  where
    of_bind : (done ≡ []) ⊎ (done ≡ OnLink (Bound local) ∷ []) → LeftBy file Held (disk_calls done) left → Outlives start.heeded start.log done left
    of_bind (inl none) l = at_rest file Held start done left r (ap handed_in none) (subst (λ c. LeftBy file Held (disk_calls c) left) none l)
    of_bind (inr one) l = at_rest file Held start done left r (ap handed_in one) (subst (λ c. LeftBy file Held (disk_calls c) left) one l)

starts_in : (heeded : Heeded) (begins : Bool) (file : Option (List ℕ)) (opening : List DiskCall) (torn : ℕ) (start : Place) → Starts heeded begins file opening torn start
    → start.heeded ≡ heeded
starts_in heeded false file opening torn start opens = opens.heeded_is
starts_in heeded true file opening torn start makes = makes.heeded_is

pub after_opening : (heeded : Heeded) (begins : Bool) (file : List ℕ) (opening : List DiskCall) (torn : ℕ) (start : Place) (local : Addr) (rounds : List Step) (done : List DeskCall) (left : List ℕ)
    → Starts heeded begins (Some file) opening torn start → (begins ≡ true → file ≡ []) → AreSteps start rounds
    → IsFront (OnLink (Bound local) ∷ calls_of start rounds) done → LeftBy file (λ c. c ≡ file) (disk_calls (on_disk opening ++ done)) left
    → BringsNoneBy file (disk_calls (on_disk opening ++ done)) left → Outlives heeded start.log done left
after_opening heeded begins file opening torn start local rounds done left starts empty all f l brings =
    let parts : disk_calls (on_disk opening ++ done) ≡ opening ++ disk_calls done = disk_calls-append (on_disk opening) done ∙ ap (λ x. x ++ disk_calls done) (disk_calls_of_disk opening) in
    subst (λ g. Outlives g start.log done left) (starts_in heeded begins (Some file) opening torn start starts)
    (in_life (seen_by file opening) (LeftBy file (λ c. c ≡ file) opening) start local rounds done left (opened_rests heeded begins file opening torn start starts empty) all f
    (left_append file (λ c. c ≡ file) opening (disk_calls done) left (subst (λ c. LeftBy file (λ c. c ≡ file) c left) parts l))
    (brings_on file opening (disk_calls done) left (settled_opening heeded begins file opening torn start starts) (subst (λ c. BringsNoneBy file c left) parts brings)))

-- in the course of an opening
pub in_opening : (heeded : Heeded) (file made : List ℕ) (bodies : List (List ℕ)) (opening done : List DiskCall) (tip : Tip) (log : Log) (left : List ℕ) → IsWhole file made bodies opening
    → HasLog made bodies tip log → IsFrontOf opening done → LeftBy file (λ c. c ≡ file) done left → BringsNone (seen_by file done) left → Outlives heeded log (on_disk done) left
in_opening heeded file made bodies opening done tip log left whole has f l brings =
    outlives heeded log log (on_disk done) left made bodies tip (opening_keeps file left made bodies opening done whole f l brings) has (unchanged heeded log (on_disk done) (handed_of_disk done))
