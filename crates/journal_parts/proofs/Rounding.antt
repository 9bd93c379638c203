-- A round: its receives, the commit, and the answers. Rounds follow one another.
use Rattle.std.proofs.Common.{◌≡◌, ◌∙◌, inl, inr, ℕ, Bool, true, false, ◌+◌, ◌*◌, ◌≤◌, refl, sym, ap, ap₂, subst, Option, None, Some, List, [], ◌∷◌, ◌++◌, length, append_assoc, append-nil, length-append, arith}
use Rattle.std.proofs.lemmas.List.{length-map}
use Rattle.ft_io.specs.declared.Addr.{Addr}
use Rattle.ft_io.specs.declared.link_call.LinkCall.{LinkCall}
use Rattle.ft_io.specs.Reported.{Reports}
use Rattle.ft_io.proofs.Recordings.{reports_on, none_reported}
use Rattle.disk.specs.CallRecord.{on_link, on_disk, link_calls}
use Rattle.disk.specs.Remains.{IsFrontOf}
use Rattle.disk.specs.declared.calls.DiskCall.{DiskCall}
use Rattle.disk.specs.declared.calls.DeskCall.{DeskCall}
use Rattle.disk.specs.declared.calls.DeskCall.TheVariants.{OnLink, OnDisk}
use Rattle.seq_arith.specs.declared.kinds.Grammar.{Grammar}
use Rattle.long_laws.specs.Forgetting.{ForgetAnswer}
use Rattle.forget_store.specs.AnyMessage.{heeded_in}
use Rattle.forget_store.specs.declared.heeding.Heeded.{Heeded}
use Rattle.ft_model.specs.Log.{Log}
use Rattle.forget_store.specs.Replies.{reply_bytes}
use Rattle.kept_log.specs.Compaction.{HasSameLog, replacing, IsCompacted}
use Rattle.kept_log.specs.Format.{tip_of}
use Rattle.kept_log.specs.declared.tip.Tip.{Tip}
use Rattle.kept_log.specs.JournaledLog.{KeptState, committing, tip_after}
use Rattle.link_parts.specs.declared.counts.Counts.{Counts}
use Rattle.link_parts.specs.Counts.{counts_of, with_calls, no_calls, HasRoom}
use Rattle.link_parts.specs.LoggerParts.{handing_bytes}
use Rattle.link_parts.specs.LoggerTurns.{LoggerTurn, answer_for, answering, handing}
use Rattle.link_parts.specs.Receipt.{Received, datagram, silence, failure}
use Rattle.link_parts.proofs.Calls.{counts_on, with_both, few_calls}
use Rattle.link_parts.proofs.LoggerRun.{handing_is}
use Rattle.journal_parts.specs.declared.answers.Answer.{Answer}
use Rattle.journal_parts.specs.LoggerLife.{IsUnanswered}
use Rattle.journal_parts.specs.declared.status.ProcessEnd.{ProcessEnd}
use Rattle.journal_parts.specs.declared.status.ProcessEnd.TheVariants.{JournalFault}
use Rattle.journal_parts.specs.Rounds.{Place, Round, Step, IsRound, received_in, receives, changes_in, log_behind, answers_in, after_receives, round_calls, place_after, calls_of, turns_in}
use Rattle.journal_parts.specs.Rounds.Step.{Turned, Compacted, Stayed}
use Rattle.journal_parts.specs.Due.{IsDue, IsDueAfter, last_length}
use Rattle.journal_parts.specs.RoundParts.{place_of, with_all_received, reply_to, replies_to, AreHanded, HasAnswered, HasGathered, IsCutGathering, HasTurned, IsCutRound, HasServed, IsCutServing, IsCutReplacing, Stays, HasCompacted, FailsToCompact, HasEndedBy, IsServeEnd}
use Rattle.journal_parts.specs.Waits.{HasReason}
use Rattle.journal_parts.proofs.Gathering.{receives_count}
use Rattle.link_parts.specs.Ranges.{most_turns}

-- the calls on the network among those of a desk
pub link_calls-append : (xs ys : List DeskCall) → link_calls (xs ++ ys) ≡ link_calls xs ++ link_calls ys
link_calls-append [] ys = refl
link_calls-append (OnLink x ∷ xs) ys = ap (λ l. x ∷ l) (link_calls-append xs ys)
link_calls-append (OnDisk x ∷ xs) ys = link_calls-append xs ys

pub link_calls_of_link : (xs : List LinkCall) → link_calls (on_link xs) ≡ xs
link_calls_of_link [] = refl
link_calls_of_link (x ∷ xs) = ap (λ l. x ∷ l) (link_calls_of_link xs)

pub link_calls_of_disk : (xs : List DiskCall) → link_calls (on_disk xs) ≡ []
link_calls_of_disk [] = refl
link_calls_of_disk (x ∷ xs) = link_calls_of_disk xs

round_links : (xs zs : List LinkCall) (ys : List DiskCall) → link_calls (on_link xs ++ (on_disk ys ++ on_link zs)) ≡ xs ++ zs
round_links xs zs ys =
    link_calls-append (on_link xs) (on_disk ys ++ on_link zs)
    ∙ ap₂ (λ a b. a ++ b) (link_calls_of_link xs) (link_calls-append (on_disk ys) (on_link zs) ∙ ap₂ (λ a b. a ++ b) (link_calls_of_disk ys) (link_calls_of_link zs))

-- calls by which answers are handed to send are those of the first ones, and then those of the others
record Splits (xs ys : List Answer) (calls : List LinkCall) : Type 0 where
  first : List LinkCall
  rest : List LinkCall
  first_handed : AreHanded xs first
  rest_handed : AreHanded ys rest
  calls_are : calls ≡ first ++ rest

split : (xs ys : List Answer) (calls : List LinkCall) → AreHanded (xs ++ ys) calls → Splits xs ys calls
split [] ys calls h = record { first = []; rest = calls; first_handed = refl; rest_handed = h; calls_are = refl }
split (x ∷ xs) ys calls (lost, later, is, h) =
    let s = split xs ys later h in
    let this = handing_bytes x.to lost x.out in
    record {
      first = this ++ s.first;
      rest = s.rest;
      first_handed = (lost, s.first, refl, s.first_handed);
      rest_handed = s.rest_handed;
      calls_are = is ∙ (ap (λ l. this ++ l) s.calls_are ∙ sym (append_assoc this s.first s.rest));
    }

one_answered : (heeded : Heeded) (log : Log) (r : Received) (calls : List LinkCall) → AreHanded (reply_to heeded log r) calls → (is_lost : Bool) × (calls ≡ answering heeded log is_lost r)
one_answered heeded log (datagram from bytes) calls (lost, rest, is, none) =
    let this = handing_bytes from lost (reply_bytes heeded.grammar (answer_for log (heeded_in heeded bytes))) in
    (lost, is ∙ (ap (λ l. this ++ l) none ∙ (append-nil this ∙ handing_is heeded.grammar from lost (answer_for log (heeded_in heeded bytes)))))
one_answered heeded log silence calls none = (false, none)
one_answered heeded log failure calls none = (false, none)

-- the turns of a round whose answers were handed to send by these calls
record Answers (heeded : Heeded) (log : Log) (received : List Received) (calls : List LinkCall) : Type 0 where
  round : Round
  same : received_in round ≡ received
  calls_are : calls ≡ answers_in heeded log round

answers : (heeded : Heeded) (log : Log) (received : List Received) (calls : List LinkCall) → AreHanded (replies_to heeded log received) calls → Answers heeded log received calls
answers heeded log [] calls h = record { round = []; same = refl; calls_are = h }
answers heeded log (last ∷ earlier) calls h =
    let s = split (replies_to heeded log earlier) (reply_to heeded (log_behind heeded log earlier) last) calls h in
    let before = answers heeded log earlier s.first s.first_handed in
    let (lost, is) = one_answered heeded (log_behind heeded log earlier) last s.rest s.rest_handed in
    record {
      round = record { received = last; is_lost = lost } ∷ before.round;
      same = ap (λ l. last ∷ l) before.same;
      calls_are = s.calls_are ∙ ap₂ (λ a b. a ++ b) before.calls_are (is ∙ ap (λ l. answering heeded (log_behind heeded log l) lost last) (sym before.same));
    }

-- a place is its three parts
abbrev place_at : Tip → Log → Heeded → Place
place_at tip log heeded = record { tip = tip; log = log; heeded = heeded }

same_place : (t u : Tip) (k l : Log) (g h : Heeded) → t ≡ u → k ≡ l → g ≡ h → place_at t k g ≡ place_at u l h
same_place t u k l g h tip log heeded = ap₂ (λ x y. place_at x y g) tip log ∙ ap (place_at u l) heeded

-- what a round's receives leave to be committed
record Waits (before mid : KeptState) (received : List Received) : Type 0 where
  tip : mid.tip ≡ before.tip
  log : mid.log ≡ log_behind before.heeded before.log received
  heeded : mid.heeded ≡ before.heeded
  round : mid.round ≡ changes_in before.heeded before.log received

waits : (before mid : KeptState) (received : List Received) → before.round ≡ [] → mid ≡ with_all_received before received → Waits before mid received
waits before mid received idle is = record {
  tip = ap (λ (k : KeptState). k.tip) is;
  log = ap (λ (k : KeptState). k.log) is;
  heeded = ap (λ (k : KeptState). k.heeded) is;
  round = ap (λ (k : KeptState). k.round) is ∙ ap (λ l. l ++ changes_in before.heeded before.log received) idle;
}

pub turned : (count : ℕ) (before mid after : KeptState) (old t1 t2 new : Option (List DeskCall)) (c k counts : Counts) (replies : List Answer) → before.round ≡ []
    → HasGathered count before mid old t1 c k replies → Reports t1 t2 (on_disk (committing mid.tip mid.round)) → after.round ≡ [] → after.log ≡ mid.log → after.heeded ≡ mid.heeded
    → after.tip ≡ tip_after mid.tip mid.round → HasAnswered replies t2 new k counts → HasTurned count before after old new c counts
turned count before mid after old t1 t2 new c k counts replies idle g kept none log same end a =
    let w = waits before mid g.received idle g.after_is in
    let f = answers before.heeded before.log g.received a.calls (subst (λ l. AreHanded l a.calls) g.answers_are a.handed) in
    let place = place_of before in
    let commit : committing mid.tip mid.round ≡ committing before.tip (changes_in before.heeded before.log (received_in f.round)) =
    ap₂ (λ x y. committing x y) w.tip (w.round ∙ ap (changes_in before.heeded before.log) (sym f.same)) in
    let came : receives g.received ≡ receives (received_in f.round) = ap receives (sym f.same) in
    let links = round_links (receives (received_in f.round)) (answers_in before.heeded before.log f.round) (committing before.tip (changes_in before.heeded before.log (received_in f.round))) in
    record {
      round = f.round;
      count_is = sym (length-map f.round (λ (t : LoggerTurn). t.received)) ∙ (ap length f.same ∙ g.count_is);
      is_round = subst IsRound (sym f.same) g.is_round;
      reports = reports_on old t1 new (on_link (receives (received_in f.round))) (on_disk (committing before.tip (changes_in before.heeded before.log (received_in f.round))) ++ on_link (answers_in before.heeded before.log f.round))
          (subst (λ l. Reports old t1 (on_link l)) came g.reports)
          (reports_on t1 t2 new (on_disk (committing before.tip (changes_in before.heeded before.log (received_in f.round)))) (on_link (answers_in before.heeded before.log f.round))
          (subst (λ l. Reports t1 t2 (on_disk l)) commit kept) (subst (λ l. Reports t2 new (on_link l)) f.calls_are a.reports));
      counts_are = a.counts_are ∙ (ap₂ (λ x y. with_calls x y) (g.counts_are ∙ ap (with_calls c) came) f.calls_are
          ∙ (with_both c (receives (received_in f.round)) (answers_in before.heeded before.log f.round) ∙ ap (with_calls c) (sym links)));
      place = same_place after.tip (tip_after before.tip (changes_in before.heeded before.log (received_in f.round))) after.log
          (log_behind before.heeded before.log (received_in f.round)) after.heeded before.heeded
          (end ∙ (ap₂ (λ x y. tip_after x y) w.tip (w.round ∙ ap (changes_in before.heeded before.log) (sym f.same))))
          (log ∙ (w.log ∙ ap (log_behind before.heeded before.log) (sym f.same)))
          (same ∙ w.heeded);
      idle = none;
    }

-- a round that ends because memory runs out
pub cut_by_memory : (most : ℕ) (at : Place) (old new : Option (List DeskCall)) → IsCutGathering most at.heeded at.log old new → IsCutRound most at old new
cut_by_memory most at old new g = record {
  received = g.received;
  reason = inl g.wants;
  cut = on_link (receives g.received) ++ [];
  within = g.within;
  unanswered = record { done = []; is_round = inr g.is_round; front = tt; calls_are = refl };
  reports = subst (Reports old new) (sym (append-nil (on_link (receives g.received)))) g.reports;
}

-- .. or its commit
pub cut_by_commit : (count most : ℕ) (before mid : KeptState) (old t1 new : Option (List DeskCall)) (c k : Counts) (replies : List Answer) → count ≤ most → before.round ≡ []
    → HasGathered count before mid old t1 c k replies
    → ((done : List DiskCall) × IsFrontOf (committing mid.tip mid.round) done × Reports t1 new (on_disk done)) → (mid.round ≡ [] → ⊥) → IsCutRound most (place_of before) old new
cut_by_commit count most before mid old t1 new c k replies few idle g (done, front, reported) some =
    let w = waits before mid g.received idle g.after_is in
    record {
      received = g.received;
      reason = inr (λ none. some (w.round ∙ none));
      cut = on_link (receives g.received) ++ on_disk done;
      within = omega (arith, g.count_is);
      unanswered = record {
        done = done;
        is_round = inr g.is_round;
        front = subst (λ l. IsFrontOf l done) (ap₂ (λ x y. committing x y) w.tip w.round) front;
        calls_are = refl;
      };
      reports = reports_on old t1 new (on_link (receives g.received)) (on_disk done) g.reports reported;
    }

replies_count : (heeded : Heeded) (log : Log) (received : List Received) → length (replies_to heeded log received) ≤ length received
replies_count heeded log [] = omega arith
replies_count heeded log (last ∷ earlier) =
    let few = replies_count heeded log earlier in
    let sum = length-append (replies_to heeded log earlier) (reply_to heeded (log_behind heeded log earlier) last) in
    let one = one_reply heeded (log_behind heeded log earlier) last in
    omega (arith, few, sum, one)
  where
    one_reply : (heeded : Heeded) (log : Log) (r : Received) → length (reply_to heeded log r) ≤ 1
    one_reply heeded log (datagram from bytes) = omega arith
    one_reply heeded log silence = omega arith
    one_reply heeded log failure = omega arith

-- there is room for the counts of the answers
pub room_to_answer : (count : ℕ) (before mid : KeptState) (old t1 : Option (List DeskCall)) (c k : Counts) (replies : List Answer) → HasRoom 512 c
    → HasGathered count before mid old t1 c k replies → count ≤ 256 → HasRoom (length replies) k
room_to_answer count before mid old t1 c k replies room g few =
    let calls = few_calls (receives g.received) in
    let came : length (receives g.received) ≡ count = receives_count g.received ∙ g.count_is in
    let wait : length replies ≡ length (replies_to before.heeded before.log g.received) = ap length g.answers_are in
    let most = replies_count before.heeded before.log g.received in
    let so : length replies ≤ 256 = omega (arith, wait, most, g.count_is) in
    subst (HasRoom (length replies)) (sym g.counts_are) (record {
      turns = omega (arith, room.turns, calls.turns, came, so);
      datagrams = omega (arith, room.datagrams, calls.datagrams, came, so);
      sent = omega (arith, room.sent, calls.sent, came, so);
      lost = omega (arith, room.lost, calls.lost, came, so);
      failed = omega (arith, room.failed, calls.failed, came, so);
    })

-- rounds so far
pub served_none : (least : ℕ) (at : Place) (reported : Option (List DeskCall)) (counts : Counts) → counts ≡ no_calls → HasServed least 0 at at reported reported counts
served_none least at reported counts none = record { rounds = []; are_rounds = (tt, tt); count_is = refl; reports = none_reported reported; counts_are = none; at_is = refl }

-- a file isn't due right after the time at which it was to be replaced
never_due : (least length : ℕ) → IsDue least length length → ⊥
never_due least length due = omega (arith, due.1)

-- rounds, and a file that isn't due
pub record IsReady (least last count : ℕ) (start at : Place) (old new : Option (List DeskCall)) (counts : Counts) : Type 0 where
  pub served : HasServed least count start at old new counts
  pub last_is : last ≡ last_length start served.rounds
  pub rests : IsDueAfter least start served.rounds → ⊥

-- .. and those before it
pub record IsServing (least last count : ℕ) (start at : Place) (old new : Option (List DeskCall)) (counts : Counts) : Type 0 where
  pub served : HasServed least count start at old new counts
  pub last_is : last ≡ last_length start served.rounds

pub serving_none : (least : ℕ) (at : Place) (reported : Option (List DeskCall)) (counts : Counts) → counts ≡ no_calls → IsServing least 0 0 at at reported reported counts
unfolding served_none
serving_none least at reported counts none = record { served = served_none least at reported counts none; last_is = refl }

pub served_on : (least last i count : ℕ) (start : Place) (before after : KeptState) (old mid new : Option (List DeskCall)) (c counts : Counts)
    → IsReady least last i start (place_of before) old mid c → HasTurned count before after mid new c counts → IsServing least last (i + count) start (place_of after) old new counts
served_on least last i count start before after old mid new c counts ready t =
    let s = ready.served in
    let calls : round_calls (place_of before) t.round ≡ round_calls (place_after start s.rounds) t.round = ap (λ p. round_calls p t.round) s.at_is in
    record {
      served = record {
        rounds = Turned t.round ∷ s.rounds;
        are_rounds = ((t.is_round, s.are_rounds.0), (ready.rests, s.are_rounds.1));
        count_is = ap₂ (λ x y. x + y) s.count_is t.count_is;
        reports = reports_on old mid new (calls_of start s.rounds) (round_calls (place_after start s.rounds) t.round) s.reports (subst (Reports mid new) calls t.reports);
        counts_are = t.counts_are ∙ (ap₂ (λ x y. with_calls x (link_calls y)) s.counts_are calls
            ∙ (sym (counts_on (link_calls (calls_of start s.rounds)) (link_calls (round_calls (place_after start s.rounds) t.round)))
            ∙ ap counts_of (sym (link_calls-append (calls_of start s.rounds) (round_calls (place_after start s.rounds) t.round)))));
        at_is = t.place ∙ ap (λ p. after_receives p (received_in t.round)) s.at_is;
      };
      last_is = ready.last_is;
    }

-- the file is due, by what the steps so far say of it
due_after : (least last : ℕ) (start : Place) (before : KeptState) (rounds : List Step) → last ≡ last_length start rounds → place_of before ≡ place_after start rounds
    → IsDue least last before.tip.end → IsDueAfter least start rounds
due_after least last start before rounds last_is at_is due =
    subst (λ p. IsDue least (last_length start rounds) p.tip.end) at_is (subst (λ n. IsDue least n before.tip.end) last_is due)

-- a new file took the old one's place
compacted_on : (least last next count : ℕ) (start : Place) (before after : KeptState) (made : List ℕ) (old mid new : Option (List DeskCall)) (counts : Counts)
    → IsServing least last count start (place_of before) old mid counts → IsDue least last before.tip.end → next ≡ after.tip.end
    → IsCompacted made before.tip before.log after.tip mid new → after.log ≡ before.log → after.heeded ≡ before.heeded → IsReady least next count start (place_of after) old new counts
compacted_on least last next count start before after made old mid new counts serving due next_is k same heeded =
    let s = serving.served in
    let replaced : List DeskCall = on_disk (replacing made k.bodies) in
    record {
      served = record {
        rounds = Compacted made k.bodies ∷ s.rounds;
        are_rounds = (
          (subst (λ p. HasSameLog p.tip p.log made k.bodies) s.at_is k.same_log, s.are_rounds.0),
          (due_after least last start before s.rounds serving.last_is s.at_is due, s.are_rounds.1),
        );
        count_is = s.count_is;
        reports = reports_on old mid new (calls_of start s.rounds) replaced s.reports k.reports;
        counts_are = s.counts_are
            ∙ ap counts_of (sym (link_calls-append (calls_of start s.rounds) replaced ∙ append-nil (link_calls (calls_of start s.rounds))));
        at_is = same_place after.tip (tip_of made k.bodies) after.log (place_after start s.rounds).log after.heeded (place_after start s.rounds).heeded k.next_is (same ∙ ap (λ p. p.log) s.at_is) (heeded ∙ ap (λ p. p.heeded) s.at_is);
      };
      last_is = next_is ∙ ap (λ t. t.end) k.next_is;
      rests = never_due least (tip_of made k.bodies).end;
    }

-- nothing was called
same_served : (least count : ℕ) (start : Place) (before after : KeptState) (old mid new : Option (List DeskCall)) (counts : Counts) (s : HasServed least count start (place_of before) old mid counts)
    → after.log ≡ before.log → after.heeded ≡ before.heeded → Stays before after mid new → (Reports old new (calls_of start s.rounds)) × (place_of after ≡ place_after start s.rounds)
same_served least count start before after old mid new counts s log heeded (tip, none) = (
  subst (Reports old new) (append-nil (calls_of start s.rounds)) (reports_on old mid new (calls_of start s.rounds) [] s.reports none),
  same_place after.tip before.tip after.log before.log after.heeded before.heeded tip log heeded ∙ s.at_is,
)

-- the file was due, or not; it was replaced, or stays
pub readied : (least last next count : ℕ) (start : Place) (before after : KeptState) (old mid new : Option (List DeskCall)) (counts : Counts)
    → IsServing least last count start (place_of before) old mid counts → HasCompacted least last next before after mid new → IsReady least next count start (place_of after) old new counts
readied least last next count start before after old mid new counts serving (log, heeded, idle, inl (rests, next_is, stays)) =
    let s = serving.served in
    let same = same_served least count start before after old mid new counts s log heeded stays in
    record {
      served = record {
        rounds = s.rounds;
        are_rounds = s.are_rounds;
        count_is = s.count_is;
        reports = same.0;
        counts_are = s.counts_are;
        at_is = same.1;
      };
      last_is = next_is ∙ serving.last_is;
      rests = λ due. rests (subst (λ n. IsDue least n before.tip.end) (sym serving.last_is)
          (subst (λ p. IsDue least (last_length start s.rounds) p.tip.end) (sym s.at_is) due));
    }
readied least last next count start before after old mid new counts serving (log, heeded, idle, inr (due, next_is, inl (made, k))) =
    compacted_on least last next count start before after made old mid new counts serving due next_is k log heeded
readied least last next count start before after old mid new counts serving (log, heeded, idle, inr (due, next_is, inr stays)) =
    let s = serving.served in
    let same = same_served least count start before after old mid new counts s log heeded stays in
    record {
      served = record {
        rounds = Stayed ∷ s.rounds;
        are_rounds = (s.are_rounds.0, (due_after least last start before s.rounds serving.last_is s.at_is due, s.are_rounds.1));
        count_is = s.count_is;
        reports = same.0;
        counts_are = s.counts_are;
        at_is = same.1;
      };
      last_is = next_is ∙ ap (λ p. p.tip.end) same.1;
      rests = never_due least (place_after start s.rounds).tip.end;
    }

-- what was done before a round
pub not_compacted : (least last : ℕ) (before : KeptState) (reported : Option (List DeskCall)) → (IsDue least last before.tip.end → ⊥) → before.round ≡ []
    → HasCompacted least last last before before reported reported
not_compacted least last before reported rests idle = (refl, refl, idle, inl (rests, refl, (refl, none_reported reported)))

pub is_compacted : (least last next : ℕ) (done : Bool) (made : List ℕ) (before after : KeptState) (old new : Option (List DeskCall)) → IsDue least last before.tip.end → next ≡ after.tip.end
    → after.log ≡ before.log → after.heeded ≡ before.heeded → after.round ≡ [] → (done ≡ true → IsCompacted made before.tip before.log after.tip old new) → (done ≡ false → Stays before after old new)
    → HasCompacted least last next before after old new
is_compacted least last next true made before after old new due next_is log heeded idle compacted stays = (log, heeded, idle, inr (due, next_is, inl (made, compacted refl)))
is_compacted least last next false made before after old new due next_is log heeded idle compacted stays = (log, heeded, idle, inr (due, next_is, inr (stays refl)))

-- a file that isn't due stays
pub never_replaced : (least last next : ℕ) (before after : KeptState) (old new : Option (List DeskCall)) → (IsDue least last before.tip.end → ⊥)
    → HasCompacted least last next before after old new → Reports old new []
never_replaced least last next before after old new never (log, heeded, idle, inl (rests, next_is, (tip, none))) = none
never_replaced least last next before after old new never (log, heeded, idle, inr (due, next_is, rest)) = absurd (never due)

-- .. or that failed
pub replacing_cut : (least last count most : ℕ) (start : Place) (before : KeptState) (old mid new : Option (List DeskCall)) (counts : Counts) → count ≤ most
    → IsServing least last count start (place_of before) old mid counts → FailsToCompact least last before mid new → IsCutReplacing least most start old new
replacing_cut least last count most start before old mid new counts few serving (due, (made, k)) =
    let s = serving.served in
    record {
      rounds = s.rounds;
      cut = on_disk k.done;
      are_rounds = s.are_rounds;
      due = due_after least last start before s.rounds serving.last_is s.at_is due;
      unreplaced = record {
        made = made;
        bodies = k.bodies;
        done = k.done;
        same_log = subst (λ p. HasSameLog p.tip p.log made k.bodies) s.at_is k.same_log;
        front = k.front;
        calls_are = refl;
      };
      within = omega (arith, s.count_is, few);
      reports = reports_on old mid new (calls_of start s.rounds) (on_disk k.done) s.reports k.reports;
    }

pub serving_cut : (least last i most turns : ℕ) (start at : Place) (old mid new : Option (List DeskCall)) (c : Counts) → i + most ≤ turns → IsReady least last i start at old mid c
    → IsCutRound most at mid new → IsCutServing least turns start old new
serving_cut least last i most turns start at old mid new c few ready cut =
    let s = ready.served in
    record {
      rounds = s.rounds;
      received = cut.received;
      reason = inr (subst (λ p. HasReason p.heeded p.log cut.received) s.at_is cut.reason);
      cut = cut.cut;
      are_rounds = s.are_rounds;
      unanswered = subst (λ p. IsUnanswered p cut.received cut.cut) s.at_is cut.unanswered;
      within = omega (arith, s.count_is, cut.within, few);
      reports = reports_on old mid new (calls_of start s.rounds) cut.cut s.reports cut.reports;
    }

-- none was begun
pub unbegun : (least turns : ℕ) (start : Place) (reported : Option (List DeskCall)) → IsCutServing least turns start reported reported
unbegun least turns start reported = record {
  rounds = [];
  received = [];
  cut = [];
  reason = inl (refl, inl refl);
  are_rounds = (tt, tt);
  unanswered = record { done = []; is_round = inl refl; front = tt; calls_are = refl };
  within = omega arith;
  reports = none_reported reported;
}

-- how steps end
pub ended_by : (least most : ℕ) (start : Place) (old new : Option (List DeskCall)) (end : ProcessEnd) → IsServeEnd end → IsCutServing least most start old new
    → HasEndedBy least most start old new end
ended_by least most start old new end (inl is) s = subst (HasEndedBy least most start old new) (sym is) s
ended_by least most start old new end (inr is) s = subst (HasEndedBy least most start old new) (sym is) (inl s)

pub faulted_by : (least most : ℕ) (start : Place) (old new : Option (List DeskCall)) (end : ProcessEnd) → end ≡ JournalFault → IsCutReplacing least most start old new
    → HasEndedBy least most start old new end
faulted_by least most start old new end is s = subst (HasEndedBy least most start old new) (sym is) (inr s)

answers_few : (heeded : Heeded) (log : Log) (round : Round) → length (answers_in heeded log round) ≤ length round
answers_few heeded log [] = omega arith
answers_few heeded log (last ∷ earlier) =
    let few = answers_few heeded log earlier in
    let sum = length-append (answers_in heeded log earlier) (answering heeded (log_behind heeded log (received_in earlier)) last.is_lost last.received) in
    let one = one_answer heeded (log_behind heeded log (received_in earlier)) last.is_lost last.received in
    omega (arith, few, sum, one)
  where
    one_handing : (grammar : Grammar) (to : Addr) (is_lost : Bool) (answer : Option ForgetAnswer) → length (handing grammar to is_lost answer) ≤ 1
    one_handing grammar to is_lost None = omega arith
    one_handing grammar to is_lost (Some answer) = omega arith

    one_answer : (heeded : Heeded) (log : Log) (is_lost : Bool) (r : Received) → length (answering heeded log is_lost r) ≤ 1
    one_answer heeded log is_lost (datagram from bytes) = one_handing heeded.grammar from is_lost (answer_for log (heeded_in heeded bytes))
    one_answer heeded log is_lost silence = omega arith
    one_answer heeded log is_lost failure = omega arith

links_few : (start : Place) (rounds : List Step) → length (link_calls (calls_of start rounds)) ≤ 2 * turns_in rounds
links_few start [] = omega arith
links_few start (Compacted made bodies ∷ earlier) =
    let few = links_few start earlier in
    let same = ap length (link_calls-append (calls_of start earlier) (on_disk (replacing made bodies)) ∙ append-nil (link_calls (calls_of start earlier))) in
    omega (arith, few, same)
links_few start (Stayed ∷ earlier) = links_few start earlier
links_few start (Turned last ∷ earlier) =
    let at = place_after start earlier in
    let few = links_few start earlier in
    let all : length (link_calls (calls_of start earlier ++ round_calls at last)) ≡ length (link_calls (calls_of start earlier)) + length (link_calls (round_calls at last)) =
    ap length (link_calls-append (calls_of start earlier) (round_calls at last)) ∙ length-append (link_calls (calls_of start earlier)) (link_calls (round_calls at last)) in
    let this : length (link_calls (round_calls at last)) ≡ length (receives (received_in last)) + length (answers_in at.heeded at.log last) =
    ap length (round_links (receives (received_in last)) (answers_in at.heeded at.log last) (committing at.tip (changes_in at.heeded at.log (received_in last))))
    ∙ length-append (receives (received_in last)) (answers_in at.heeded at.log last) in
    let came : length (receives (received_in last)) ≡ length last = receives_count (received_in last) ∙ length-map last (λ (t : LoggerTurn). t.received) in
    let reported = answers_few at.heeded at.log last in
    omega (arith, few, all, this, came, reported)

-- there is room for the counts of a round
pub room_for_round : (least i : ℕ) (start at : Place) (old new : Option (List DeskCall)) (c : Counts) → i ≤ most_turns → HasServed least i start at old new c → HasRoom 512 c
room_for_round least i start at old new c le s =
    let calls = few_calls (link_calls (calls_of start s.rounds)) in
    let few = links_few start s.rounds in
    let most : length (link_calls (calls_of start s.rounds)) ≤ 2 * most_turns = omega (arith, few, s.count_is) in
    subst (HasRoom 512) (sym s.counts_are) (record {
      turns = omega (arith, calls.turns, most);
      datagrams = omega (arith, calls.datagrams, most);
      sent = omega (arith, calls.sent, most);
      lost = omega (arith, calls.lost, most);
      failed = omega (arith, calls.failed, most);
    })
