-- Which receives of a round wait for a datagram, and why a round may end unanswered.
use Rattle.std.specs.Prelude.{◌≡◌, ◌⊎◌, ℕ, zero, suc, Bool, true, false, List, [], ◌∷◌, replicate}
use Rattle.forget_store.specs.AnyMessage.{heeded_in}
use Rattle.forget_store.specs.declared.heeding.Heeded.{Heeded}
use Rattle.ft_model.specs.Log.{Log}
use Rattle.link_parts.specs.LoggerTurns.{wants_in}
use Rattle.link_parts.specs.Receipt.{Received, datagram, silence, failure}
use Rattle.journal_parts.specs.Rounds.{log_behind, changes_in}

-- of this many receives the first one waits, and no other does: so a round takes what has arrived, and never waits while an answer is due
abbrev pub waits_in : ℕ → List Bool
waits_in zero = []
waits_in (suc more) = true ∷ replicate more false

-- whether the log may need memory for what a receive gave
abbrev pub wants_then : Heeded → Log → Received → Bool
wants_then heeded log (datagram from bytes) = wants_in log (heeded_in heeded bytes)
wants_then heeded log silence = false
wants_then heeded log failure = false

-- .. for the last of these receives, the newest first
abbrev pub LastWants : Heeded → Log → List Received → Type 0
LastWants heeded log [] = ⊥
LastWants heeded log (last ∷ earlier) = wants_then heeded (log_behind heeded log earlier) last ≡ true

-- Why a round ends unanswered: the log needed memory for the last message, or the round had something to commit
abbrev pub HasReason : Heeded → Log → List Received → Type 0
HasReason heeded log received = LastWants heeded log received ⊎ (changes_in heeded log received ≡ [] → ⊥)
