-- Answers are handed over one after the other, and counted.
use Rattle.std.proofs.Common.{◌≡◌, ◌∙◌, ℕ, Bool, ◌+◌, ◌<◌, ◌≤◌, refl, sym, ap, subst, Option, List, [], ◌∷◌, ◌++◌, length, take, append_assoc, append-nil, length-append, arith}
use Rattle.std.proofs.lemmas.List.{length-take, map-append}
use Rattle.ft_io.specs.declared.Addr.{Addr}
use Rattle.ft_io.specs.declared.link_call.LinkCall.{LinkCall}
use Rattle.ft_io.specs.Reported.{Reports}
use Rattle.ft_io.proofs.Recordings.{reports_on, none_reported}
use Rattle.disk.specs.CallRecord.{on_link}
use Rattle.disk.specs.declared.calls.DeskCall.{DeskCall}
use Rattle.disk.specs.declared.calls.DeskCall.TheVariants.{OnLink}
use Rattle.link_parts.specs.declared.counts.Counts.{Counts}
use Rattle.link_parts.specs.Counts.{with_calls, HasRoom}
use Rattle.link_parts.specs.LoggerParts.{handing_bytes}
use Rattle.link_parts.proofs.Calls.{with_both, with_none, few_calls}
use Rattle.journal_parts.specs.declared.answers.Answer.{Answer}
use Rattle.journal_parts.specs.RoundParts.{AreHanded, HandsOver, HasAnswered}

pub on_link-append : (xs ys : List LinkCall) → on_link (xs ++ ys) ≡ on_link xs ++ on_link ys
on_link-append xs ys = map-append OnLink xs ys

-- link calls are told after one another on a desk
pub reports_more : (old mid new : Option (List DeskCall)) (xs ys : List LinkCall) → Reports old mid (on_link xs) → Reports mid new (on_link ys) → Reports old new (on_link (xs ++ ys))
reports_more old mid new xs ys a b = subst (Reports old new) (sym (on_link-append xs ys)) (reports_on old mid new (on_link xs) (on_link ys) a b)

handed_on : (answers : List Answer) (calls : List LinkCall) (answer : Answer) (is_lost : Bool) → AreHanded answers calls
    → AreHanded (answers ++ answer ∷ []) (calls ++ handing_bytes answer.to is_lost answer.out)
handed_on [] calls answer is_lost h = (is_lost, [], ap (λ l. l ++ handing_bytes answer.to is_lost answer.out) h ∙ sym (append-nil (handing_bytes answer.to is_lost answer.out)), refl)
handed_on (a ∷ answers) calls answer is_lost (lost, rest, is, h) =
    let next = handing_bytes answer.to is_lost answer.out in
    (lost, rest ++ next, ap (λ l. l ++ next) is ∙ append_assoc (handing_bytes a.to lost a.out) rest next, handed_on answers rest answer is_lost h)

one_handed : (to : Addr) (is_lost : Bool) (bytes : List ℕ) → length (handing_bytes to is_lost bytes) ≤ 1
one_handed to is_lost [] = omega arith
one_handed to is_lost (b ∷ bytes) = omega arith

pub few_handed : (answers : List Answer) (calls : List LinkCall) → AreHanded answers calls → length calls ≤ length answers
few_handed [] calls h = subst (λ l. length l ≤ 0) (sym h) (omega arith)
few_handed (a ∷ answers) calls (lost, rest, is, h) =
    let one = one_handed a.to lost a.out in
    let few = few_handed answers rest h in
    let sum = length-append (handing_bytes a.to lost a.out) rest in
    let all : length calls ≡ length (handing_bytes a.to lost a.out ++ rest) = ap length is in
    omega (arith, one, few, sum, all)

pub answered_none : (reported : Option (List DeskCall)) (counts : Counts) → HasAnswered [] reported reported counts counts
answered_none reported counts = record { calls = []; handed = refl; reports = none_reported reported; counts_are = sym (with_none counts) }

pub room_for_one : (answers : List Answer) (i : ℕ) (old new : Option (List DeskCall)) (counted counts : Counts) → i < length answers → HasRoom (length answers) counted
    → HasAnswered (take i answers) old new counted counts → HasRoom 1 counts
room_for_one answers i old new counted counts lt room done =
    let few = few_calls done.calls in
    let count = few_handed (take i answers) done.calls done.handed in
    let short = length-take i answers in
    subst (HasRoom 1) (sym done.counts_are) (record {
      turns = omega (arith, room.turns, few.turns, count, short);
      datagrams = omega (arith, room.datagrams, few.datagrams, count, short);
      sent = omega (arith, room.sent, few.sent, count, short);
      lost = omega (arith, room.lost, few.lost, count, short);
      failed = omega (arith, room.failed, few.failed, count, short);
    })

pub answered_on : (answers : List Answer) (i : ℕ) (answer : Answer) (old mid new : Option (List DeskCall)) (c between counts : Counts)
    → take (i + 1) answers ≡ take i answers ++ answer ∷ [] → HasAnswered (take i answers) old mid c between → HandsOver answer mid new between counts
    → HasAnswered (take (i + 1) answers) old new c counts
answered_on answers i answer old mid new c between counts more done hands =
    let next = handing_bytes answer.to hands.is_lost answer.out in
    record {
      calls = done.calls ++ next;
      handed = subst (λ l. AreHanded l (done.calls ++ next)) (sym more) (handed_on (take i answers) done.calls answer hands.is_lost done.handed);
      reports = reports_more old mid new done.calls next done.reports hands.reports;
      counts_are = hands.counts_are ∙ (ap (λ x. with_calls x next) done.counts_are ∙ with_both c done.calls next);
    }
