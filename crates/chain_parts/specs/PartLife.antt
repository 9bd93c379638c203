-- The life of one of two loggers over its link, and how it ends early.
use Rattle.std.specs.Prelude.{◌≡◌, ◌⊎◌, ◌≤◌, ℕ, Option, List, [], ◌∷◌, ◌++◌, length}
use Rattle.ft_io.specs.declared.link_call.LinkCall.{LinkCall}
use Rattle.ft_io.specs.declared.link_call.LinkCall.TheVariants.{Bound}
use Rattle.ft_io.specs.Sink.{AppendsFront}
use Rattle.ft_io.specs.Reported.{Reports}
use Rattle.link_parts.specs.Counts.{counts_of, count_line}
use Rattle.link_parts.specs.LoggerParts.{IsCutOff}
use Rattle.link_parts.specs.declared.status.NodeEnd.{NodeEnd}
use Rattle.link_parts.specs.declared.status.NodeEnd.TheVariants.{LinkFault, NoMemory, WriteFault}
use Rattle.chain_parts.specs.PartTurns.{PartTurn, AreByDefinition, calls_of}
use Rattle.chain_parts.specs.declared.pair_role.PartRole.{PartRole}

-- A whole life: it bound to its address, and then did its turns. What is written are the counts of their calls
pub record IsPart (role : PartRole) (old new : Option (List LinkCall)) (Writes : List ℕ → Type 0) : Type 0 where
  pub turns : List PartTurn  -- the newest first
  pub count_is : length turns ≡ role.logger.turns
  pub defined : AreByDefinition role turns
  pub reports : Reports old new (Bound role.logger.local ∷ calls_of turns)
  pub written : Writes (count_line (counts_of (calls_of turns)))

-- a life that ended because an allocation failed: it sent nothing after its last receive
pub record IsCutPart (role : PartRole) (old new : Option (List LinkCall)) : Type 0 where
  pub turns : List PartTurn
  pub cut : List LinkCall
  pub within : length turns ≤ role.logger.turns
  pub defined : AreByDefinition role turns
  pub cut_off : (cut ≡ []) ⊎ IsCutOff cut
  pub reports : Reports old new (Bound role.logger.local ∷ (calls_of turns ++ cut))

-- how it stops early: nothing was written where the bind failed, and a prefix of the line where a write did
abbrev pub PartStops : PartRole → (old new : Option (List LinkCall)) → (out_old out_new : Option (List ℕ)) → NodeEnd → Type 0
PartStops role old new out_old out_new LinkFault = Reports old new [] × (out_new ≡ out_old)
PartStops role old new out_old out_new NoMemory = IsCutPart role old new × (out_new ≡ out_old)
PartStops role old new out_old out_new WriteFault = IsPart role old new (AppendsFront out_old out_new)
PartStops role old new out_old out_new _ = ⊥
