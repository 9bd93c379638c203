-- What a process did, by its words and with any services, and how that is reported.
use Rattle.limits.specs.Limits.{longest_stream}
use Rattle.std.specs.Prelude.{◌≡◌, ◌⊎◌, ℕ, ◌^◌, ◌≤◌, Option, None, Some, Result, Ok, Err, List, length}
use Rattle.std.specs.Io.KnownBytes.{Appends}
use Rattle.ft_io.specs.declared.link_call.LinkCall.{LinkCall}
use Rattle.ft_io.specs.declared.spawn_call.SpawnCall.{SpawnCall}
use Rattle.ft_io.specs.Faults.{Rose}
use Rattle.link_parts.specs.declared.role.NodeRole.{NodeRole}
use Rattle.link_parts.specs.declared.role.NodeRole.TheVariants.{Server, Logger, Client, Pair}
use Rattle.link_parts.specs.declared.status.NodeEnd.{NodeEnd}
use Rattle.link_parts.specs.declared.status.NodeEnd.TheVariants.{Usage, NoMemory}
use Rattle.server_trait.specs.Service.{Machine, no_greeting}
use Rattle.ft_model.specs.Legal.{machines}
use Rattle.ft_model.specs.declared.schedule.Script.{Script}
use Rattle.sample_servers.specs.AnyService.{any_started, any_after}
use Rattle.peer_client.specs.declared.live.ClientEnd.TheVariants.{Closed}
use Rattle.link_parts.specs.ClientRuns.{RunsScript, IsEndedBy, ClientStops}
use Rattle.link_parts.specs.Ends.{IsReported}
use Rattle.link_parts.specs.LoggerParts.{IsLogger, LoggerStops}
use Rattle.link_parts.specs.Pair.{steps_of, IsPair, PairStops}
use Rattle.node_link.specs.ServerLife.{IsServer, ServerStops}

-- what a process is given, as far as it is known: what its source has left, the calls on its link, how many children its spawner has started and the calls
-- on it, and what out has taken
pub record Given : Type 0 where
  pub left : Option (List ℕ)
  pub calls : Option (List LinkCall)
  pub started : ℕ
  pub spawned : Option (List SpawnCall)
  pub out : Option (List ℕ)

-- nothing was read, called on the link or on the spawner, or written to out
abbrev pub HasDoneNothing : (before after : Given) → Type 0
HasDoneNothing before after = (after.left ≡ before.left) × (after.calls ≡ before.calls) × (after.spawned ≡ before.spawned) × (after.out ≡ before.out)

-- a count of faults doesn't rise
abbrev pub IsStill : ℕ → ℕ → Type 0
IsStill before after = Rose before after → ⊥

-- a client can have its script: the words give it; or the source's content is specified and no longer than a script may be, and no read fails
abbrev pub HasScript : Option Script → (left : Option (List ℕ)) → (faults_old faults_new : ℕ) → Type 0
HasScript (Some script) left faults_old faults_new = Unit {0}
HasScript None left faults_old faults_new = (bytes : List ℕ) × (left ≡ Some bytes) × (length bytes ≤ longest_stream) × IsStill faults_old faults_new

module _ {State : Type 0} (services : ℕ → Machine State) where
  -- what a role did. Only a client reads the input. A pair makes no call on the link
  abbrev pub LivesAs : NodeRole → Result (Unit {0}) NodeEnd → (before after : Given) → Type 0
  LivesAs (Server role) (Ok _) before after = (after.left ≡ before.left) × IsServer services role before.calls after.calls (Appends before.out after.out)
  LivesAs (Server role) (Err end) before after = (after.left ≡ before.left) × ServerStops services role before.calls after.calls before.out after.out end
  LivesAs (Logger role) (Ok _) before after = (after.left ≡ before.left) × IsLogger role before.calls after.calls (Appends before.out after.out)
  LivesAs (Logger role) (Err end) before after = (after.left ≡ before.left) × LoggerStops role before.calls after.calls before.out after.out end
  LivesAs (Client role) (Ok _) before after = RunsScript role before.left after.left before.calls after.calls (Appends before.out after.out) (IsEndedBy Closed)
  LivesAs (Client role) (Err end) before after = ClientStops role before.left after.left before.calls after.calls before.out after.out end
  LivesAs (Pair role) (Ok _) before after =
      (after.left ≡ before.left) × (after.calls ≡ before.calls)
      × IsPair (steps_of role) before.started before.spawned after.spawned (Appends before.out after.out)
  LivesAs (Pair role) (Err end) before after =
      (after.left ≡ before.left) × (after.calls ≡ before.calls) × PairStops role before.started before.spawned after.spawned before.out after.out end

  -- what was done, by the role that the words ask for. Words that aren't allowed are reported as such, and reading them may run out of memory
  abbrev pub Lives : Option NodeRole → Result (Unit {0}) NodeEnd → (before after : Given) → Type 0
  Lives None end before after = ((end ≡ Err Usage) ⊎ (end ≡ Err NoMemory)) × HasDoneNothing before after
  Lives (Some role) end before after = LivesAs role end before after ⊎ ((end ≡ Err NoMemory) × HasDoneNothing before after)

  -- what was done and what was reported agree
  pub record HasEndedWith (role : Option NodeRole) (before after : Given) (err_old err_new : Option (List ℕ)) (code : ℕ) : Type 0 where
    pub end : Result (Unit {0}) NodeEnd
    pub lives : Lives role end before after
    pub reported : IsReported end err_old err_new code

-- the same for a program with the four services
abbrev pub HasEnded : Option NodeRole → (before after : Given) → (err_old err_new : Option (List ℕ)) → (code : ℕ) → Type 0
HasEnded = HasEndedWith (machines any_started any_after no_greeting)
