-- A new file of a journal while it is written, before it takes the place of the old one.
use Rattle.std.specs.Prelude.{◌≡◌, ℕ, Option, List, ◌++◌, length, map}
use Rattle.seq_arith.specs.Message.{Message}
use Rattle.forget_store.specs.AnyMessage.AnyMessage.{Usual}
use Rattle.disk.specs.Aside.{HasAside}
use Rattle.kept_log.specs.Format.{front, tip_of}
use Rattle.kept_log.specs.MessageList.{Says, AreKept}
use Rattle.kept_log.specs.declared.tip.Tip.{Tip}

pub record DraftState : Type 0 where
  pub tip : Tip  -- where the next block begins
  pub body : List ℕ  -- the messages that aren't in a block yet

-- blocks are written, and a body waits to be the next one: together they have these messages
pub record IsDraft (made : List ℕ) (aside : Option (List ℕ)) (draft : DraftState) (messages : List Message) : Type 0 where
  pub time : length made ≡ 8
  pub bodies : List (List ℕ)
  pub first : List Message
  pub last : List Message
  pub written : HasAside aside (front made bodies)
  pub tip_is : draft.tip ≡ tip_of made bodies
  pub kept : AreKept bodies (map Usual first)
  pub says : Says draft.body (map Usual last)
  pub messages_are : messages ≡ first ++ last

-- these messages were written after all earlier ones
abbrev pub IsWritten : (old : Option (List ℕ)) (before : DraftState) (new : Option (List ℕ)) (after : DraftState) (messages : List Message) → Type 0
IsWritten old before new after messages = (made : List ℕ) (earlier : List Message) → IsDraft made old before earlier
    → IsDraft made new after (earlier ++ messages)
