-- After each round the file is at rest, and has the log.
use Rattle.std.proofs.Common.{◌≡◌, ◌∙◌, ℕ, Bool, true, false, Some, ◌*◌, ◌≤◌, refl, sym, ap, ap₂, subst, List, [], ◌∷◌, ◌++◌, length, Option, None, append-nil, length-append, arith}
use Rattle.ft_io.proofs.Choices.{by_cases, if_false, if_true}
use Rattle.forget_store.specs.AnyMessage.{AnyMessage, heeded_in, log_after_any, is_changed_by}
use Rattle.forget_store.specs.declared.heeding.Heeded.{Heeded}
use Rattle.ft_model.specs.Log.{Log}
use Rattle.long_laws.specs.Snapshot.{IsOrdered}
use Rattle.forget_store.specs.AnyMessage.AnyMessage.{Usual, Forgetting}
use Rattle.forget_store.proofs.AnyLogs.{unchanged, each_ordered, any_logs_are_ordered}
use Rattle.disk.specs.Remains.{LeftBy}
use Rattle.disk.specs.CallRecord.{on_link, on_disk, disk_calls}
use Rattle.disk.specs.declared.calls.DiskCall.{DiskCall}
use Rattle.disk.proofs.Reporting.{disk_calls_of_disk}
use Rattle.kept_log.specs.Compaction.{replacing}
use Rattle.kept_log.specs.Format.{tip_of, IsAtRest, keeping, making, seen_by}
use Rattle.kept_log.specs.declared.tip.Tip.{Tip}
use Rattle.kept_log.proofs.Deaths.{stays, left_append, seen_append}
use Rattle.kept_log.specs.JournaledLog.{kept_of, committing, tip_after, with_round, HasLog, Waits}
use Rattle.kept_log.proofs.Logs.{waits_more, kept_none, kept_round}
use Rattle.kept_log.proofs.Messages.{any_whole, spelling_heeded}
use Rattle.kept_log.proofs.Lives.{opened_rests as whole_rests, made_rests}
use Rattle.link_parts.specs.LoggerTurns.{log_with, log_then}
use Rattle.link_parts.specs.Receipt.{Received, datagram, silence, failure}
use Rattle.journal_parts.specs.LoggerLife.{Starts}
use Rattle.journal_parts.specs.Rounds.{Place, Round, Step, AreSteps, IsRound, received_in, log_behind, receives, change_in, change_by, changes_in, answers_in, round_calls, place_after, calls_of}
use Rattle.journal_parts.specs.Rounds.Step.{Turned, Compacted, Stayed}
use Rattle.journal_laws.proofs.Saying.{disk_calls-append, disk_calls_of_link, log_said, said_by}
use Rattle.journal_laws.proofs.Staying as change

-- a file at rest, with the log of a place
pub record Rests (file : List ℕ) (Held : List ℕ → Type 0) (at : Place) : Type 0 where
  pub made : List ℕ
  pub bodies : List (List ℕ)
  pub rest : IsAtRest file Held made bodies
  pub has_log : HasLog made bodies at.tip at.log

-- a block more, or none
pub committed : (file : List ℕ) (Held : List ℕ → Type 0) (made : List ℕ) (bodies : List (List ℕ)) (tip : Tip) (body : List ℕ) → tip ≡ tip_of made bodies → IsAtRest file Held made bodies
    → IsAtRest (seen_by file (committing tip body)) (LeftBy file Held (committing tip body)) made (with_round bodies body)
committed file Held made bodies tip [] is rest = rest
committed file Held made bodies tip (byte ∷ body) is rest =
    subst (λ t. IsAtRest (seen_by file (keeping t (byte ∷ body))) (LeftBy file Held (keeping t (byte ∷ body))) made (bodies ++ (byte ∷ body) ∷ [])) (sym is)
    (stays file Held made bodies (byte ∷ body) rest)

none_more : (before log after : Log) (round more : List ℕ) → after ≡ log → more ≡ [] → Waits before round log → Waits before (round ++ more) after
none_more before log after round more same none w =
    subst (λ l. Waits before l after) (sym (ap (λ l. round ++ l) none ∙ append-nil round)) (subst (Waits before round) (sym same) w)

any_stays : (log : Log) (any : AnyMessage) → IsOrdered log → is_changed_by log any ≡ false → log_after_any log any ≡ log
any_stays log (Usual message) o none = change.stays log message o.distinct none
any_stays log (Forgetting message) o none = unchanged log message none

waits_last : (heeded : Heeded) (before log : Log) (round bytes : List ℕ) (said : Option AnyMessage) → heeded_in heeded bytes ≡ said → IsOrdered log → Waits before round log
    → Waits before (round ++ change_in log bytes said) (log_with log said)
waits_last heeded before log round bytes (Some any) is o w =
    by_cases (is_changed_by log any)
    (λ t. subst (λ l. Waits before (round ++ l) (log_after_any log any)) (sym (if_true (is_changed_by log any) bytes [] t))
    (waits_more before log (log_after_any log any) round bytes any w (spelling_heeded heeded bytes any is) refl))
    (λ t. none_more before log (log_after_any log any) round (kept_of log any bytes) (any_stays log any o t) (if_false (is_changed_by log any) bytes [] t) w)
waits_last heeded before log round bytes None is o w = none_more before log log round [] refl refl w

waits : (heeded : Heeded) (log : Log) (received : List Received) → IsOrdered log → Waits log (changes_in heeded log received) (log_behind heeded log received)
waits heeded log [] o = record { messages = []; says = refl; log_is = refl }
waits heeded log (last ∷ earlier) o = on last (waits heeded log earlier o)
  where
    ordered : IsOrdered (log_behind heeded log earlier)
    ordered = subst IsOrdered (sym (log_said heeded log earlier)) (each_ordered log (said_by heeded earlier) o)

    on : (r : Received) → Waits log (changes_in heeded log earlier) (log_behind heeded log earlier)
        → Waits log (changes_in heeded log earlier ++ change_by heeded (log_behind heeded log earlier) r) (log_then heeded (log_behind heeded log earlier) r)
    on (datagram from bytes) w = waits_last heeded log (log_behind heeded log earlier) (changes_in heeded log earlier) bytes (heeded_in heeded bytes) refl ordered w
    on silence w = none_more log (log_behind heeded log earlier) (log_behind heeded log earlier) (changes_in heeded log earlier) [] refl refl w
    on failure w = none_more log (log_behind heeded log earlier) (log_behind heeded log earlier) (changes_in heeded log earlier) [] refl refl w

-- a round fits a block
few_last : (heeded : Heeded) (log : Log) (bytes : List ℕ) (said : Option AnyMessage) → heeded_in heeded bytes ≡ said → length (change_in log bytes said) ≤ 1491
few_last heeded log bytes (Some any) is =
    by_cases (is_changed_by log any)
    (λ t. subst (λ l. length l ≤ 1491) (sym (if_true (is_changed_by log any) bytes [] t)) (any_whole bytes any (spelling_heeded heeded bytes any is)).few)
    (λ t. subst (λ l. length l ≤ 1491) (sym (if_false (is_changed_by log any) bytes [] t)) (omega arith))
few_last heeded log bytes None is = omega arith

few_by : (heeded : Heeded) (log : Log) (r : Received) → length (change_by heeded log r) ≤ 1491
few_by heeded log (datagram from bytes) = few_last heeded log bytes (heeded_in heeded bytes) refl
few_by heeded log silence = omega arith
few_by heeded log failure = omega arith

few_in : (heeded : Heeded) (log : Log) (received : List Received) → length (changes_in heeded log received) ≤ 1491 * length received
few_in heeded log [] = omega arith
few_in heeded log (last ∷ earlier) =
    let few = few_in heeded log earlier in
    let one = few_by heeded (log_behind heeded log earlier) last in
    let sum = length-append (changes_in heeded log earlier) (change_by heeded (log_behind heeded log earlier) last) in
    omega (arith, few, one, sum)

pub few_round : (heeded : Heeded) (log : Log) (received : List Received) → IsRound received → length (changes_in heeded log received) ≤ 381696
few_round heeded log [] round = absurd round
few_round heeded log (last ∷ earlier) (few, all) = omega (arith, few, few_in heeded log (last ∷ earlier))

has_more : (made : List ℕ) (bodies : List (List ℕ)) (tip : Tip) (before log : Log) (round : List ℕ) → length round ≤ 381696 → HasLog made bodies tip before → Waits before round log
    → HasLog made (with_round bodies round) (tip_after tip round) log
has_more made bodies tip before log [] few has w = kept_none made bodies [] tip before log refl has w
has_more made bodies tip before log (byte ∷ round) few has w = kept_round made bodies (byte ∷ round) tip before log (λ e. cc) few has w

pub has_round : (heeded : Heeded) (made : List ℕ) (bodies : List (List ℕ)) (tip : Tip) (log : Log) (received : List Received) → IsRound received → HasLog made bodies tip log
    → HasLog made (with_round bodies (changes_in heeded log received)) (tip_after tip (changes_in heeded log received)) (log_behind heeded log received)
has_round heeded made bodies tip log received round has =
    let ordered : IsOrdered log = subst IsOrdered (sym has.log_is) (any_logs_are_ordered has.messages) in
    has_more made bodies tip log (log_behind heeded log received) (changes_in heeded log received) (few_round heeded log received round) has (waits heeded log received ordered)

pub disk_calls_of_round : (at : Place) (round : Round) → disk_calls (round_calls at round) ≡ committing at.tip (changes_in at.heeded at.log (received_in round))
disk_calls_of_round at round =
    let calls = committing at.tip (changes_in at.heeded at.log (received_in round)) in
    disk_calls-append (on_link (receives (received_in round))) (on_disk calls ++ on_link (answers_in at.heeded at.log round))
    ∙ (ap₂ (λ a b. a ++ b) (disk_calls_of_link (receives (received_in round)))
    (disk_calls-append (on_disk calls) (on_link (answers_in at.heeded at.log round)) ∙ ap₂ (λ a b. a ++ b) (disk_calls_of_disk calls) (disk_calls_of_link (answers_in at.heeded at.log round)))
    ∙ append-nil calls)

-- calls after which a file is at rest, from one that is at rest
rests_more : (file : List ℕ) (Held : List ℕ → Type 0) (calls more : List DiskCall) (made : List ℕ) (bodies : List (List ℕ))
    → IsAtRest (seen_by (seen_by file calls) more) (LeftBy (seen_by file calls) (LeftBy file Held calls) more) made bodies
    → IsAtRest (seen_by file (calls ++ more)) (LeftBy file Held (calls ++ more)) made bodies
rests_more file Held calls more made bodies rest = record {
  time = rest.time;
  is = seen_append file calls more ∙ rest.is;
  only = λ c l. rest.only c (left_append file Held calls more c l) ∙ sym (seen_append file calls more);
}

-- a new file in the place of the old one
pub replaced : (file : List ℕ) (Held : List ℕ → Type 0) (made : List ℕ) (bodies : List (List ℕ)) → length made ≡ 8
    → IsAtRest (seen_by file (replacing made bodies)) (LeftBy file Held (replacing made bodies)) made bodies
replaced file Held made bodies time = record { time = time; is = refl; only = λ c is. is }

pub rests_on : (file : List ℕ) (Held : List ℕ → Type 0) (start : Place) (rounds : List Step) → AreSteps start rounds → Rests file Held start
    → Rests (seen_by file (disk_calls (calls_of start rounds))) (LeftBy file Held (disk_calls (calls_of start rounds))) (place_after start rounds)
rests_on file Held start [] all r = r
rests_on file Held start (Compacted made bodies ∷ earlier) all r =
    let at = place_after start earlier in
    let before = rests_on file Held start earlier all.1 r in
    let has = all.0 before.made before.bodies before.has_log in
    let more : List DiskCall = replacing made bodies in
    let calls : disk_calls (calls_of start earlier ++ on_disk more) ≡ disk_calls (calls_of start earlier) ++ more = disk_calls-append (calls_of start earlier) (on_disk more) in
    let rest = rests_more file Held (disk_calls (calls_of start earlier)) more made bodies
    (replaced (seen_by file (disk_calls (calls_of start earlier))) (LeftBy file Held (disk_calls (calls_of start earlier))) made bodies has.time) in
    record {
      made = made;
      bodies = bodies;
      rest = subst (λ l. IsAtRest (seen_by file l) (LeftBy file Held l) made bodies) (sym calls) rest;
      has_log = has;
    }
rests_on file Held start (Stayed ∷ earlier) all r = rests_on file Held start earlier all r
rests_on file Held start (Turned last ∷ earlier) all r =
    let at = place_after start earlier in
    let before = rests_on file Held start earlier all.1 r in
    let body = changes_in at.heeded at.log (received_in last) in
    let calls : disk_calls (calls_of start earlier ++ round_calls at last) ≡ disk_calls (calls_of start earlier) ++ committing at.tip body =
    disk_calls-append (calls_of start earlier) (round_calls at last) ∙ ap (λ l. disk_calls (calls_of start earlier) ++ l) (disk_calls_of_round at last) in
    let rest = rests_more file Held (disk_calls (calls_of start earlier)) (committing at.tip body) before.made (with_round before.bodies body)
    (committed (seen_by file (disk_calls (calls_of start earlier))) (LeftBy file Held (disk_calls (calls_of start earlier))) before.made before.bodies at.tip body before.has_log.tip_is before.rest) in
    record {
      made = before.made;
      bodies = with_round before.bodies body;
      rest = subst (λ l. IsAtRest (seen_by file l) (LeftBy file Held l) before.made (with_round before.bodies body)) (sym calls) rest;
      has_log = has_round at.heeded before.made before.bodies at.tip at.log (received_in last) all.0 before.has_log;
    }

pub opened_rests : (heeded : Heeded) (begins : Bool) (file : List ℕ) (opening : List DiskCall) (torn : ℕ) (start : Place) → Starts heeded begins (Some file) opening torn start → (begins ≡ true → file ≡ [])
    → Rests (seen_by file opening) (LeftBy file (λ c. c ≡ file) opening) start
opened_rests heeded false file opening torn start opens empty = record {
  made = opens.made;
  bodies = opens.bodies;
  rest = whole_rests file opens.made opens.bodies opening (opens.finds file refl).0;
  has_log = opens.has_log;
}
opened_rests heeded true file opening torn start makes empty = record {
  made = makes.made;
  bodies = [];
  rest = subst (λ l. IsAtRest (seen_by file l) (LeftBy file (λ c. c ≡ file) l) makes.made []) (sym makes.opening_is)
      (subst (λ f. IsAtRest (seen_by f (making makes.made)) (LeftBy f (λ c. c ≡ f) (making makes.made)) makes.made []) (sym (empty refl)) (made_rests makes.made makes.has_log.time));
  has_log = makes.has_log;
}
