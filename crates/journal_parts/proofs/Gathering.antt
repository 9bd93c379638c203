-- The receives of a round follow one another: so do the log after them, what changed it, and the answers that wait.
use Rattle.std.proofs.Common.{◌≡◌, ◌∙◌, ℕ, Bool, true, false, suc, ◌+◌, ◌<◌, ◌≤◌, add-one, refl, sym, ap, ap₂, subst, Option, List, [], ◌∷◌, ◌++◌, length, append_assoc, append-nil, length-append, nat_lt, arith}
use Rattle.std.specs.List.{AllByRecursion}
use Rattle.ft_io.specs.Reported.{Reports}
use Rattle.ft_io.proofs.Recordings.{none_reported}
use Rattle.disk.specs.CallRecord.{on_link}
use Rattle.disk.specs.declared.calls.DeskCall.{DeskCall}
use Rattle.kept_log.specs.JournaledLog.{KeptState, is_full}
use Rattle.link_parts.specs.declared.counts.Counts.{Counts}
use Rattle.link_parts.specs.Counts.{with_calls, HasRoom}
use Rattle.link_parts.specs.Receipt.{Received, received_as}
use Rattle.link_parts.proofs.Calls.{with_both, with_none, few_calls}
use Rattle.journal_parts.specs.declared.answers.Answer.{Answer}
use Rattle.journal_parts.specs.Rounds.{IsDatagram, IsRound, receives, changes_in, change_by, log_behind}
use Rattle.journal_parts.specs.RoundParts.{with_received, with_all_received, reply_to, replies_to, HasTaken, IsGathering, HasGathered, IsCutGathering}
use Rattle.journal_parts.specs.Waits.{wants_then}
use Rattle.journal_parts.proofs.AnswerCalls.{reports_more}

pub receives_count : (received : List Received) → length (receives received) ≡ length received
receives_count [] = refl
receives_count (last ∷ earlier) = length-append (receives earlier) (received_as last ∷ []) ∙ (ap (λ n. n + 1) (receives_count earlier) ∙ add-one (length earlier))

received_behind : (before : KeptState) (last : Received) (earlier : List Received)
    → with_received (with_all_received before earlier) last ≡ with_all_received before (last ∷ earlier)
received_behind before last earlier =
    ap (λ bytes. record before { log = log_behind before.heeded before.log (last ∷ earlier); round = bytes })
    (append_assoc before.round (changes_in before.heeded before.log earlier) (change_by before.heeded (log_behind before.heeded before.log earlier) last))

with_none_received : (kept : KeptState) → with_all_received kept [] ≡ kept
with_none_received kept = ap (λ bytes. record kept { round = bytes }) (append-nil kept.round)

pub gathering_none : (kept : KeptState) (reported : Option (List DeskCall)) (counts : Counts) (answers : List Answer) → answers ≡ [] → IsGathering 0 kept kept reported reported counts counts answers
gathering_none kept reported counts answers none = record {
  received = [];
  count_is = refl;
  are_datagrams = tt;
  reports = none_reported reported;
  counts_are = sym (with_none counts);
  after_is = sym (with_none_received kept);
  answers_are = none;
}

-- what one receive more makes of it
record Goes (received : List Received) (before after : KeptState) (old new : Option (List DeskCall)) (counted counts : Counts) (answers : List Answer) : Type 0 where
  reports : Reports old new (on_link (receives received))
  counts_are : counts ≡ with_calls counted (receives received)
  after_is : after ≡ with_all_received before received
  answers_are : answers ≡ replies_to before.heeded before.log received

proceeds : (i : ℕ) (more : Bool) (before mid after : KeptState) (old between new : Option (List DeskCall)) (c k counts : Counts) (waiting answers : List Answer)
    → (s : IsGathering i before mid old between c k waiting) → (t : HasTaken more mid after between new k counts waiting answers)
    → Goes (t.received ∷ s.received) before after old new c counts answers
proceeds i more before mid after old between new c k counts waiting answers s t = record {
  reports = reports_more old between new (receives s.received) (received_as t.received ∷ []) s.reports t.reports;
  counts_are = t.counts_are ∙ (ap (λ x. with_calls x (received_as t.received ∷ [])) s.counts_are ∙ with_both c (receives s.received) (received_as t.received ∷ []));
  after_is = t.after_is ∙ (ap (λ x. with_received x t.received) s.after_is ∙ received_behind before t.received s.received);
  answers_are = t.answers_are ∙ ap₂ (λ x (k : KeptState). x ++ reply_to k.heeded k.log t.received) s.answers_are s.after_is;
}

pub gathering_on : (i : ℕ) (more : Bool) (before mid after : KeptState) (old between new : Option (List DeskCall)) (c k counts : Counts) (waiting answers : List Answer) → more ≡ true
    → IsGathering i before mid old between c k waiting → HasTaken more mid after between new k counts waiting answers → IsGathering (i + 1) before after old new c counts answers
gathering_on i more before mid after old between new c k counts waiting answers is_more s t =
    let on = proceeds i more before mid after old between new c k counts waiting answers s t in
    record {
      received = t.received ∷ s.received;
      count_is = ap suc s.count_is ∙ sym (add-one i);
      are_datagrams = (t.is_datagram is_more, s.are_datagrams);
      reports = on.reports;
      counts_are = on.counts_are;
      after_is = on.after_is;
      answers_are = on.answers_are;
    }

-- the last receive of a round
pub gathered_with : (i most : ℕ) (more : Bool) (before mid after : KeptState) (old between new : Option (List DeskCall)) (c k counts : Counts) (waiting answers : List Answer)
    → i < most → most ≤ 256
    → IsGathering i before mid old between c k waiting → HasTaken more mid after between new k counts waiting answers → HasGathered (i + 1) before after old new c counts answers
gathered_with i most more before mid after old between new c k counts waiting answers lt le s t =
    let on = proceeds i more before mid after old between new c k counts waiting answers s t in
    record {
      received = t.received ∷ s.received;
      count_is = ap suc s.count_is ∙ sym (add-one i);
      is_round = (omega (arith, s.count_is), s.are_datagrams);
      reports = on.reports;
      counts_are = on.counts_are;
      after_is = on.after_is;
      answers_are = on.answers_are;
    }

round_of : (received : List Received) → 1 ≤ length received → length received ≤ 256 → AllByRecursion IsDatagram received → IsRound received
round_of [] some few all = absurd (omega (arith, some))
round_of (last ∷ earlier) some few all = (few, all.1)

-- all that a round may have were datagrams
pub gathered : (i : ℕ) (before after : KeptState) (old new : Option (List DeskCall)) (c counts : Counts) (answers : List Answer) → 1 ≤ i → i ≤ 256
    → IsGathering i before after old new c counts answers → HasGathered i before after old new c counts answers
gathered i before after old new c counts answers some few s = record {
  received = s.received;
  count_is = s.count_is;
  is_round = round_of s.received (omega (arith, s.count_is)) (omega (arith, s.count_is)) s.are_datagrams;
  reports = s.reports;
  counts_are = s.counts_are;
  after_is = s.after_is;
  answers_are = s.answers_are;
}

-- a round ends because memory runs out
pub gathering_cut : (i most : ℕ) (before mid : KeptState) (old between new : Option (List DeskCall)) (c k : Counts) (answers : List Answer) → i < most → most ≤ 256
    → IsGathering i before mid old between c k answers → ((r : Received) × (wants_then mid.heeded mid.log r ≡ true) × Reports between new (on_link (received_as r ∷ [])))
    → IsCutGathering most before.heeded before.log old new
gathering_cut i most before mid old between new c k answers lt le s (r, w, t) = record {
  received = r ∷ s.received;
  wants = ap (λ (k : KeptState). wants_then k.heeded k.log r) (sym s.after_is) ∙ w;
  within = omega (arith, s.count_is);
  is_round = (omega (arith, s.count_is), s.are_datagrams);
  reports = reports_more old between new (receives s.received) (received_as r ∷ []) s.reports t;
}

pub room_to_receive : (i most : ℕ) (before after : KeptState) (old new : Option (List DeskCall)) (c counts : Counts) (answers : List Answer) → i < most → most ≤ 256 → HasRoom 256 c
    → IsGathering i before after old new c counts answers → HasRoom 1 counts
room_to_receive i most before after old new c counts answers lt le room s =
    let few = few_calls (receives s.received) in
    let count : length (receives s.received) ≡ i = receives_count s.received ∙ s.count_is in
    subst (HasRoom 1) (sym s.counts_are) (record {
      turns = omega (arith, room.turns, few.turns, count);
      datagrams = omega (arith, room.datagrams, few.datagrams, count);
      sent = omega (arith, room.sent, few.sent, count);
      lost = omega (arith, room.lost, few.lost, count);
      failed = omega (arith, room.failed, few.failed, count);
    })

-- before the first receive no block is full
pub is_behind_first : (i : ℕ) (before after : KeptState) (old new : Option (List DeskCall)) (c counts : Counts) (answers : List Answer) → before.round ≡ [] → is_full after ≡ true
    → IsGathering i before after old new c counts answers → 1 ≤ i
is_behind_first i before after old new c counts answers idle full s = by_received s.received s.count_is s.after_is
  where
    by_received : (received : List Received) → length received ≡ i → after ≡ with_all_received before received → 1 ≤ i
    by_received (last ∷ earlier) count is = omega (arith, count)
    by_received [] count is =
        let none : after.round ≡ [] = ap (λ (k : KeptState). k.round) is ∙ (append-nil before.round ∙ idle) in
        let not : is_full after ≡ false = ap (λ bytes. nat_lt 380205 (length bytes)) none in
        cc
