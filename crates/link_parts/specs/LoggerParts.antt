-- What a logger's parts do in a turn.
use Rattle.std.specs.Prelude.{◌≡◌, ◌⊎◌, ℕ, Bool, true, Option, List, [], ◌∷◌, ◌++◌, ◌≤◌, length}
use Rattle.ft_io.specs.declared.Addr.{Addr}
use Rattle.ft_io.specs.declared.link_call.LinkCall.{LinkCall}
use Rattle.ft_io.specs.declared.link_call.LinkCall.TheVariants.{Bound, Came, Handed}
use Rattle.ft_io.specs.Reported.{Reports}
use Rattle.ft_model.specs.Log.{Log}
use Rattle.seq_arith.specs.declared.kinds.Grammar.{Grammar}
use Rattle.tcp_rules.specs.Profile.{grammar_of}
use Rattle.tcp_rules.specs.Profiles.{profile_of}
use Rattle.forget_store.specs.declared.heeding.Heeded.{Heeded}
use Rattle.forget_store.specs.AnyMessage.{heeded_in}
use Rattle.link_parts.specs.declared.counts.Counts.{Counts}
use Rattle.link_parts.specs.Counts.{with_calls, counts_of, count_line}
use Rattle.link_parts.specs.declared.role.LoggerRole.{LoggerRole}
use Rattle.link_parts.specs.declared.status.NodeEnd.{NodeEnd}
use Rattle.link_parts.specs.declared.status.NodeEnd.TheVariants.{LinkFault, NoMemory, WriteFault}
use Rattle.ft_io.specs.Sink.{AppendsFront}
use Rattle.link_parts.specs.LoggerTurns.{LoggerTurn, wants_in, log_then, turn_calls, log_at, calls_of}

-- bytes are handed to send, unless there are none
abbrev pub handing_bytes : Addr → Bool → List ℕ → List LinkCall
handing_bytes to is_lost [] = []
handing_bytes to is_lost (b ∷ bytes) = Handed to (b ∷ bytes) is_lost ∷ []

pub record Replies (to : Addr) (bytes : List ℕ) (old new : Option (List LinkCall)) (before after : Counts) : Type 0 where
  pub is_lost : Bool
  pub reports : Reports old new (handing_bytes to is_lost bytes)
  pub counts : after ≡ with_calls before (handing_bytes to is_lost bytes)

-- a turn that was cut off because an allocation failed: its datagram came, and no answer was sent
abbrev pub IsCutOff : List LinkCall → Type 0
IsCutOff calls = (from : Addr) × (bytes : List ℕ) × (calls ≡ Came from bytes ∷ [])

-- .. of a logger: what came is a message for which the log may need memory. So neither silence nor bytes that are no message end a logger
abbrev pub IsStarved : Heeded → Log → List LinkCall → Type 0
IsStarved heeded log calls = (from : Addr) × (bytes : List ℕ) × (calls ≡ Came from bytes ∷ []) × (wants_in log (heeded_in heeded bytes) ≡ true)

-- a whole turn
pub record HasTurned (heeded : Heeded) (before after : Log) (old new : Option (List LinkCall)) (counted counts : Counts) : Type 0 where
  pub turn : LoggerTurn
  pub reports : Reports old new (turn_calls heeded before turn)
  pub log : after ≡ log_then heeded before turn.received
  pub counts_are : counts ≡ with_calls counted (turn_calls heeded before turn)

-- so many turns were done
pub record HasServed (heeded : Heeded) (count : ℕ) (old new : Option (List LinkCall)) (log : Log) (counts : Counts) : Type 0 where
  pub turns : List LoggerTurn  -- the newest first
  pub count_is : length turns ≡ count
  pub reports : Reports old new (calls_of heeded turns)
  pub log_is : log ≡ log_at heeded turns
  pub counts_are : counts ≡ counts_of (calls_of heeded turns)

-- the same, whatever the log
pub record HasCounted (heeded : Heeded) (count : ℕ) (old new : Option (List LinkCall)) (counts : Counts) : Type 0 where
  pub turns : List LoggerTurn
  pub count_is : length turns ≡ count
  pub reports : Reports old new (calls_of heeded turns)
  pub counts_are : counts ≡ counts_of (calls_of heeded turns)

-- at most so many turns were done, and then one was cut off; or all were done, and there was no memory for the line of their counts
pub record IsCutServing (heeded : Heeded) (most : ℕ) (old new : Option (List LinkCall)) : Type 0 where
  pub turns : List LoggerTurn
  pub cut : List LinkCall
  pub within : length turns ≤ most
  pub cut_off : ((cut ≡ []) × (length turns ≡ most)) ⊎ IsStarved heeded (log_at heeded turns) cut
  pub reports : Reports old new (calls_of heeded turns ++ cut)

-- the grammar of a logger's messages and answers, by its server's profile
abbrev pub grammar_for : LoggerRole → Grammar
grammar_for role = grammar_of (profile_of role.profile)

-- which messages it heeds
abbrev pub heeded_by : LoggerRole → Heeded
heeded_by role = record { grammar = grammar_for role; forgets = role.forgets }

-- A logger's whole life: it bound to its address, and then did its turns. What is written are the counts of their calls.
pub record IsLogger (role : LoggerRole) (old new : Option (List LinkCall)) (Writes : List ℕ → Type 0) : Type 0 where
  pub turns : List LoggerTurn
  pub count_is : length turns ≡ role.turns
  pub reports : Reports old new (Bound role.local ∷ calls_of (heeded_by role) turns)
  pub written : Writes (count_line (counts_of (calls_of (heeded_by role) turns)))

-- a life that ended because an allocation failed
pub record IsCutLogger (role : LoggerRole) (old new : Option (List LinkCall)) : Type 0 where
  pub turns : List LoggerTurn
  pub cut : List LinkCall
  pub within : length turns ≤ role.turns
  pub cut_off : ((cut ≡ []) × (length turns ≡ role.turns)) ⊎ IsStarved (heeded_by role) (log_at (heeded_by role) turns) cut
  pub reports : Reports old new (Bound role.local ∷ (calls_of (heeded_by role) turns ++ cut))

-- how a logger stops early: nothing was written where the bind failed, and a prefix of the line where a write did
abbrev pub LoggerStops : LoggerRole → (old new : Option (List LinkCall)) → (out_old out_new : Option (List ℕ)) → NodeEnd → Type 0
LoggerStops role old new out_old out_new LinkFault = Reports old new [] × (out_new ≡ out_old)
LoggerStops role old new out_old out_new NoMemory = IsCutLogger role old new × (out_new ≡ out_old)
LoggerStops role old new out_old out_new WriteFault = IsLogger role old new (AppendsFront out_old out_new)
LoggerStops role old new out_old out_new _ = ⊥
