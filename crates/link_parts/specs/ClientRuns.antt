-- The whole life of a client process: what it called, what it wrote and how it ended.
use Rattle.limits.specs.Limits.{longest_stream}
use Rattle.std.specs.Prelude.{◌≡◌, ◌⊎◌, ℕ, ◌^◌, ◌≤◌, ◌<◌, Bool, Option, None, Some, IfSome, List, [], ◌∷◌, ◌++◌, length}
use Rattle.std.specs.Io.KnownBytes.{Appends, IsAtEnd}
use Rattle.ft_io.specs.declared.link_call.LinkCall.{LinkCall}
use Rattle.ft_io.specs.declared.link_call.LinkCall.TheVariants.{Bound}
use Rattle.ft_io.specs.Reported.{Reports}
use Rattle.ft_io.specs.Sink.{AppendsFront}
use Rattle.ft_model.specs.Client.{Client, new_client}
use Rattle.ft_model.specs.Client.ClientKind.{Live}
use Rattle.ft_model.specs.Schedule.{bytes_of}
use Rattle.ft_model.specs.declared.schedule.Script.{Script}
use Rattle.tcp_rules.specs.Profiles.{profile_of}
use Rattle.peer_client.specs.Live.{LiveState, new_live_in}
use Rattle.peer_client.specs.declared.live.ClientEnd.{ClientEnd}
use Rattle.peer_client.specs.declared.live.ClientEnd.TheVariants as ends
use Rattle.link_parts.specs.declared.role.ClientRole.{ClientRole}
use Rattle.link_parts.specs.declared.status.NodeEnd.{NodeEnd}
use Rattle.link_parts.specs.declared.status.NodeEnd.TheVariants.{Usage, NoMemory, LinkFault, WriteFault, Reset, Spent, ReadFault}
use Rattle.link_parts.specs.ClientTurns.{ClientTurn, due_at, accepted_in, client_calls, WasOpen}
use Rattle.link_parts.specs.ClientMachine.{AreNear, HasMachine}

-- How a run ended, by the client's outcome and the count of turns: with an outcome, after the last turn without one, or cut short.
abbrev pub IsEndedBy : ClientEnd → Option ClientEnd → ℕ → Type 0
IsEndedBy end outcome count = outcome ≡ Some end

abbrev pub IsSpent : ℕ → Option ClientEnd → ℕ → Type 0
IsSpent most outcome count = (outcome ≡ None) × (count ≡ most)

abbrev pub IsCutShort : Option ClientEnd → ℕ → Type 0
IsCutShort outcome count = Unit {0}

-- A client's first flush and its turns, after these calls. It takes no further turn once its connection has an outcome. It writes the bytes that it
-- accepts. Where what arrives is near, the model's client machine follows it.
pub record Runs (start : LiveState) (machine : Client) (most : ℕ) (calls : List LinkCall) (old new : Option (List LinkCall))
    (Writes : List ℕ → Type 0) (Ends : Option ClientEnd → ℕ → Type 0) : Type 0 where
  pub first : List Bool  -- which sends of the first flush fail
  pub turns : List ClientTurn  -- the newest first
  pub within : length turns ≤ most
  pub reports : Reports old new (calls ++ client_calls start.server start first turns)
  pub written : Writes (accepted_in start turns)
  pub open_before : WasOpen start turns
  pub ends : Ends (due_at start turns).outcome (length turns)
  pub modelled : AreNear machine turns → HasMachine start machine turns

-- the run that the words ask for: after one bind to their address, with their profile, server, initial sequence number and turns
abbrev pub IsClient : ClientRole → (script : List ℕ) → (old new : Option (List LinkCall)) → (List ℕ → Type 0) → (Option ClientEnd → ℕ → Type 0) → Type 0
IsClient role script old new Writes Ends =
    Runs (new_live_in (profile_of role.profile) role.local role.server role.isn script)
    (new_client Live role.server (record { ip = role.local.ip; port = role.local.port }) role.isn script)
    role.turns (Bound role.local ∷ []) old new Writes Ends

-- the script: that of the words, or all that the source had left
abbrev pub IsScript : Option Script → (left_old left_new : Option (List ℕ)) → List ℕ → Type 0
IsScript (Some given) left_old left_new script = (script ≡ bytes_of given) × (left_new ≡ left_old)
IsScript None left_old left_new script = IfSome left_old (λ left. script ≡ left) × IsAtEnd left_new × (length script ≤ longest_stream)

abbrev pub RunsScript : ClientRole → (left_old left_new : Option (List ℕ)) → (old new : Option (List LinkCall)) → (List ℕ → Type 0)
    → (Option ClientEnd → ℕ → Type 0) → Type 0
RunsScript role left_old left_new old new Writes Ends = (script : List ℕ) × IsScript role.script left_old left_new script
    × IsClient role script old new Writes Ends

-- why there is no script: the words give none, and a read failed or the source has more bytes than a script may have; or an allocation failed
abbrev pub ScriptStops : Option Script → (left_old : Option (List ℕ)) → NodeEnd → Type 0
ScriptStops script left_old Usage = (script ≡ None) × IfSome left_old (λ left. longest_stream < length left)
ScriptStops script left_old ReadFault = script ≡ None
ScriptStops script left_old NoMemory = Unit {0}
ScriptStops script left_old _ = ⊥

-- no call is made, and nothing is written
abbrev pub DoesNothing : (old new : Option (List LinkCall)) → (out_old out_new : Option (List ℕ)) → Type 0
DoesNothing old new out_old out_new = Reports old new [] × (out_new ≡ out_old)

-- how a client with a script stops without both ends closed: before it is bound, or as its run ends
abbrev pub ScriptRunStops : ClientRole → (script : List ℕ) → (old new : Option (List LinkCall)) → (out_old out_new : Option (List ℕ)) → NodeEnd → Type 0
ScriptRunStops role script old new out_old out_new NoMemory = DoesNothing old new out_old out_new
ScriptRunStops role script old new out_old out_new LinkFault = DoesNothing old new out_old out_new
ScriptRunStops role script old new out_old out_new WriteFault = IsClient role script old new (AppendsFront out_old out_new) IsCutShort
ScriptRunStops role script old new out_old out_new Reset = IsClient role script old new (Appends out_old out_new) (IsEndedBy ends.Reset)
ScriptRunStops role script old new out_old out_new Spent = IsClient role script old new (Appends out_old out_new) (IsSpent role.turns)
ScriptRunStops role script old new out_old out_new _ = ⊥

-- how a client stops: without a script, or with one
abbrev pub ClientStops : ClientRole → (left_old left_new : Option (List ℕ)) → (old new : Option (List LinkCall)) → (out_old out_new : Option (List ℕ))
    → NodeEnd → Type 0
ClientStops role left_old left_new old new out_old out_new end =
    (ScriptStops role.script left_old end × DoesNothing old new out_old out_new)
    ⊎ ((script : List ℕ) × IsScript role.script left_old left_new script × ScriptRunStops role script old new out_old out_new end)
