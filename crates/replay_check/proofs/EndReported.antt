-- What is told of an end: the text to err and the status.
use Rattle.std.proofs.Common.{◌≡◌, ◌∙◌, ◌⊎◌, inl, inr, ℕ, Option, None, Some, List, Err, refl, sym, subst, IfSome, arith}
use Rattle.std.specs.Io.KnownBytes.{Appends}
use Rattle.replay_check.specs.Ends.{code_of}
use Rattle.replay_check.specs.ErrText.{text_of}
use Rattle.replay_check.specs.Outcome.{IsReported}
use Rattle.replay_check.specs.PartialWrite.{WroteFront}
use Rattle.replay_check.specs.Stream.{Stream, HasFailed, HasNotFailed}
use Rattle.replay_check.specs.declared.status.RunEnd.{RunEnd}
use Rattle.replay_check.specs.declared.status.RunEnd.TheVariants.{Usage, NoMemory, ReadFault, WriteFault, BadLine, BadEvent, TooLong, Rejected}

-- where a source tells its text, for each text
pub of_reported : {P : List ℕ → Type 0} (left : Option (List ℕ)) → ((text : List ℕ) → left ≡ Some text → P text) → IfSome left P
of_reported None f = tt
of_reported (Some text) f = f text refl

pub when_reported : (P : List ℕ → Type 0) (left : Option (List ℕ)) (text : List ℕ) → left ≡ Some text → IfSome left P → P text
when_reported P left text e p = subst (λ l. IfSome l P) e p

pub never_zero : (end : RunEnd) → code_of end ≡ 0 → ⊥
never_zero Usage e = cc
never_zero NoMemory e = cc
never_zero ReadFault e = cc
never_zero WriteFault e = cc
never_zero (BadLine line why) e = cc
never_zero (BadEvent number why) e = cc
never_zero (TooLong what) e = cc
never_zero (Rejected line law) e = cc

-- what `shown` says of an end and a status
abbrev pub ReportsEnd : (end : RunEnd) (err : Stream) (code : ℕ) → Type 0
ReportsEnd end err code =
    ((code ≡ code_of end) × Appends err.before err.after (text_of end) × HasNotFailed err) ⊎ ((code ≡ 5) × HasFailed err × WroteFront err.before err.after (text_of end))

pub reported_as : (end : RunEnd) (err : Stream) (code : ℕ) → ReportsEnd end err code → (end ≡ WriteFault → err.Untouched × (code ≡ 5)) → IsReported (Err end) err code
reported_as WriteFault err code t unreported = ((unreported refl).1, (unreported refl).0)
reported_as Usage err code t unreported = t
reported_as NoMemory err code t unreported = t
reported_as ReadFault err code t unreported = t
reported_as (BadLine line why) err code t unreported = t
reported_as (BadEvent number why) err code t unreported = t
reported_as (TooLong what) err code t unreported = t
reported_as (Rejected line law) err code t unreported = t

-- what a status of `shown` can't be
pub never_done : (end : RunEnd) (err : Stream) (code : ℕ) → ReportsEnd end err code → code ≡ 0 → ⊥
never_done end err code (inl t) e = never_zero end (sym t.0 ∙ e)
never_done end err code (inr t) e = omega (arith, t.0, e)
