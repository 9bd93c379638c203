-- What the parts of a logger of a pair do in a turn, and in the turns so far.
use Rattle.std.specs.Prelude.{◌≡◌, ◌⊎◌, ◌≤◌, ◌+◌, ◌*◌, ◌^◌, ℕ, Option, List, [], ◌++◌, length}
use Rattle.ft_io.specs.declared.Addr.{Addr}
use Rattle.ft_io.specs.declared.link_call.LinkCall.{LinkCall}
use Rattle.ft_io.specs.Reported.{Reports}
use Rattle.link_parts.specs.Counts.{counts_of, with_calls}
use Rattle.link_parts.specs.LoggerParts.{IsCutOff}
use Rattle.link_parts.specs.declared.counts.Counts.{Counts}
use Rattle.chain_parts.specs.PartTurns.{Standing, Outgoing, PartTurn, datagrams_in, sending, turn_calls, calls_of, received_in, sends, standing_at}
use Rattle.chain_parts.specs.PartTurns.{AreByDefinition}
use Rattle.chain_parts.specs.declared.part.Twin.{Twin}
use Rattle.chain_parts.specs.declared.pair_role.PartRole.{PartRole}
use Rattle.chain_parts.specs.declared.pair_role.TwinRole.{TwinRole}
use Rattle.chain_parts.specs.declared.pair_role.TwinRole.TheVariants.{Logger, Alone}
use Rattle.link_parts.specs.Ranges.{most_turns}

abbrev pub InRange : TwinRole → Type 0
InRange (Logger role) = role.logger.turns ≤ most_turns
InRange (Alone role) = Unit {0}

abbrev pub standing_of : Twin → Standing
standing_of twin = record { kept = twin.log; server = twin.server }

-- these datagrams were handed to send, in order
pub record HasSent (datagrams : List (Addr × List ℕ)) (old new : Option (List LinkCall)) (counted counts : Counts) : Type 0 where
  pub sent : List Outgoing
  pub datagrams_are : datagrams_in sent ≡ datagrams
  pub reports : Reports old new (sending sent)
  pub counts_are : counts ≡ with_calls counted (sending sent)

-- a whole turn
pub record HasTurned (other : Addr) (before after : Standing) (old new : Option (List LinkCall)) (counted counts : Counts) : Type 0 where
  pub turn : PartTurn
  pub few : length turn.sent ≤ 2 ^ 64
  pub defined : datagrams_in turn.sent ≡ sends other turn.received before
  pub after_is : after ≡ (received_in other turn.received before).next
  pub reports : Reports old new (turn_calls turn)
  pub counts_are : counts ≡ with_calls counted (turn_calls turn)

-- so many turns were done
pub record IsServing (role : PartRole) (count : ℕ) (s : Standing) (old new : Option (List LinkCall)) (counts : Counts) : Type 0 where
  pub turns : List PartTurn
  pub count_is : length turns ≡ count
  pub defined : AreByDefinition role turns
  pub at_is : s ≡ standing_at role turns
  pub total : length (calls_of turns) ≤ count * (2 ^ 64 + 1)
  pub reports : Reports old new (calls_of turns)
  pub counts_are : counts ≡ counts_of (calls_of turns)

-- all turns were done
pub record HasServed (role : PartRole) (old new : Option (List LinkCall)) (counts : Counts) : Type 0 where
  pub turns : List PartTurn
  pub count_is : length turns ≡ role.logger.turns
  pub defined : AreByDefinition role turns
  pub reports : Reports old new (calls_of turns)
  pub counts_are : counts ≡ counts_of (calls_of turns)

-- at most so many turns were done, and then one was cut off, or none
pub record IsCutServing (role : PartRole) (old new : Option (List LinkCall)) : Type 0 where
  pub turns : List PartTurn
  pub cut : List LinkCall
  pub within : length turns ≤ role.logger.turns
  pub defined : AreByDefinition role turns
  pub cut_off : (cut ≡ []) ⊎ IsCutOff cut
  pub reports : Reports old new (calls_of turns ++ cut)
