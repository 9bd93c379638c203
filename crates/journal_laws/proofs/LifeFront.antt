-- A life that stops in a round that isn't answered is a front of one that goes on.
use Rattle.std.proofs.Common.{◌≡◌, ◌⊎◌, inl, inr, false, refl, sym, ap, subst, List, [], ◌∷◌, ◌++◌, map, append-nil}
use Rattle.ft_io.specs.declared.Addr.{Addr}
use Rattle.ft_io.specs.declared.link_call.LinkCall.TheVariants.{Bound}
use Rattle.disk.specs.Remains.{IsFrontOf}
use Rattle.disk.specs.CallRecord.{on_link, on_disk}
use Rattle.disk.specs.declared.calls.DiskCall.{DiskCall}
use Rattle.kept_log.specs.Compaction.{replacing}
use Rattle.disk.specs.declared.calls.DeskCall.{DeskCall}
use Rattle.disk.specs.declared.calls.DeskCall.TheVariants.{OnLink, OnDisk}
use Rattle.kept_log.specs.JournaledLog.{committing}
use Rattle.link_parts.specs.Receipt.{Received}
use Rattle.journal_parts.specs.LoggerLife.{IsUnanswered, IsUnreplaced}
use Rattle.journal_parts.specs.Rounds.{Place, Round, Step, AreSteps, IsRound, received_in, receives, changes_in, answers_in, round_calls, place_after, calls_of}
use Rattle.journal_parts.specs.Rounds.Step.{Turned, Compacted}
use Rattle.journal_laws.specs.Moments.{IsFront}

pub behind_all : (xs ys done : List DeskCall) → IsFront ys done → IsFront (xs ++ ys) (xs ++ done)
behind_all [] ys done f = f
behind_all (x ∷ xs) ys done f = inl (refl, behind_all xs ys done f)

disk_part : (calls done : List DiskCall) (more : List DeskCall) → IsFrontOf calls done → IsFront (on_disk calls ++ more) (on_disk done)
disk_part calls [] more f = tt
disk_part [] (call ∷ done) more f = absurd f
disk_part (next ∷ calls) (call ∷ done) more (inl (is, f)) = inl (ap OnDisk is, disk_part calls done more f)
disk_part (next ∷ calls) (call ∷ done) more (inr (is, last)) = inr (ap OnDisk is, ap on_disk last)

-- a round whose sends all succeed
abbrev turns_of : List Received → Round
turns_of received = map (λ r. record { received = r; is_lost = false }) received

received_of : (received : List Received) → received_in (turns_of received) ≡ received
received_of [] = refl
received_of (last ∷ earlier) = ap (λ l. last ∷ l) (received_of earlier)

round_front : (at : Place) (received : List Received) (done : List DiskCall) → IsFrontOf (committing at.tip (changes_in at.heeded at.log received)) done
    → IsFront (round_calls at (turns_of received)) (on_link (receives received) ++ on_disk done)
round_front at received done f =
    subst (λ l. IsFront (on_link (receives l) ++ (on_disk (committing at.tip (changes_in at.heeded at.log l)) ++ on_link (answers_in at.heeded at.log (turns_of received)))) (on_link (receives received) ++ on_disk done))
    (sym (received_of received))
    (behind_all (on_link (receives received)) (on_disk (committing at.tip (changes_in at.heeded at.log received)) ++ on_link (answers_in at.heeded at.log (turns_of received))) (on_disk done)
    (disk_part (committing at.tip (changes_in at.heeded at.log received)) done (on_link (answers_in at.heeded at.log (turns_of received))) f))

-- what stands of a life
abbrev pub IsMoment : Place → Addr → List Step → List DeskCall → Type 0
IsMoment start local rounds cut =
    (whole : List Step) × AreSteps start whole
    × IsFront (OnLink (Bound local) ∷ calls_of start whole) (OnLink (Bound local) ∷ (calls_of start rounds ++ cut))

no_round : (start : Place) (local : Addr) (rounds : List Step) (done : List DiskCall) → AreSteps start rounds → IsFrontOf [] done
    → IsMoment start local rounds ([] ++ on_disk done)
no_round start local rounds [] all f =
    (rounds, all, inl (refl, subst (λ l. IsFront l (calls_of start rounds ++ [])) (append-nil (calls_of start rounds)) (behind_all (calls_of start rounds) [] [] tt)))
no_round start local rounds (call ∷ done) all f = absurd f

one_round : (start : Place) (local : Addr) (rounds : List Step) (received : List Received) (done : List DiskCall) → AreSteps start rounds → IsRound received
    → IsFrontOf (committing (place_after start rounds).tip (changes_in (place_after start rounds).heeded (place_after start rounds).log received)) done
    → IsMoment start local rounds (on_link (receives received) ++ on_disk done)
one_round start local rounds received done all is_round f = (
  Turned (turns_of received) ∷ rounds,
  (subst IsRound (sym (received_of received)) is_round, all),
  inl (
    refl,
    behind_all (calls_of start rounds) (round_calls (place_after start rounds) (turns_of received)) (on_link (receives received) ++ on_disk done)
        (round_front (place_after start rounds) received done f),
  ),
)

pub moment : (start : Place) (local : Addr) (rounds : List Step) (received : List Received) (cut : List DeskCall) → AreSteps start rounds
    → IsUnanswered (place_after start rounds) received cut → IsMoment start local rounds cut
moment start local rounds received cut all u = subst (IsMoment start local rounds) (sym u.calls_are) (by received u.is_round u.front)
  where
    by : (received : List Received) → (received ≡ []) ⊎ IsRound received → IsFrontOf (committing (place_after start rounds).tip (changes_in (place_after start rounds).heeded (place_after start rounds).log received)) u.done
        → IsMoment start local rounds (on_link (receives received) ++ on_disk u.done)
    by [] is f = no_round start local rounds u.done all f
    by (last ∷ earlier) (inl none) f = cc
    by (last ∷ earlier) (inr is_round) f = one_round start local rounds (last ∷ earlier) u.done all is_round f

-- .. or one whose new file maybe didn't take the old one's place
pub unreplaced : (start : Place) (local : Addr) (rounds : List Step) (cut : List DeskCall) → AreSteps start rounds → IsUnreplaced (place_after start rounds) cut → IsMoment start local rounds cut
unreplaced start local rounds cut all u = subst (IsMoment start local rounds) (sym u.calls_are) (
  Compacted u.made u.bodies ∷ rounds,
  (u.same_log, all),
  inl (
    refl,
    behind_all (calls_of start rounds) (on_disk (replacing u.made u.bodies)) (on_disk u.done) (disk_part (replacing u.made u.bodies) u.done [] u.front),
  ),
)
