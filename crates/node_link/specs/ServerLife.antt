-- A server's whole life over its link, with any services, and what ends it early.
use Rattle.std.specs.Prelude.{◌≡◌, ◌⊎◌, ℕ, ◌<◌, ◌≤◌, Option, Some, None, IfSome, List, [], ◌∷◌, ◌++◌, length, map}
use Rattle.std.specs.Option.{option_to_list}
use Rattle.ft_io.specs.declared.link_call.LinkCall.{LinkCall}
use Rattle.ft_io.specs.declared.link_call.LinkCall.TheVariants.{Bound}
use Rattle.ft_io.specs.Sink.{AppendsFront}
use Rattle.ft_io.specs.Reported.{Reports}
use Rattle.server_trait.specs.Service.{Machine}
use Rattle.link_parts.specs.declared.role.ServerRole.{ServerRole}
use Rattle.link_parts.specs.declared.status.NodeEnd.{NodeEnd}
use Rattle.link_parts.specs.declared.status.NodeEnd.TheVariants.{LinkFault, NoMemory, WriteFault, Fenced}
use Rattle.link_parts.specs.Counts.{count_line, counts_of}
use Rattle.link_parts.specs.Receipt.{Received, received_as}
use Rattle.node_link.specs.ServerTurns.{Sent, ServerTurn, server_calls}
use Rattle.node_link.specs.Incarnation.{Serves, fence_in}

module _ {State : Type 0} (services : ℕ → Machine State) where
  -- it bound to its address, booted, and did its turns. What is written are the counts of their calls
  pub record IsServer (role : ServerRole) (old new : Option (List LinkCall)) (Writes : List ℕ → Type 0) : Type 0 where
    pub at_boot : List Sent
    pub turns : List ServerTurn  -- the newest first
    pub count_is : length turns ≡ role.turns
    pub reports : Reports old new (Bound role.local ∷ server_calls role.loggers at_boot turns)
    pub serves : Serves services role at_boot turns
    pub written : Writes (count_line (counts_of (server_calls role.loggers at_boot turns)))

  -- a server that ended because an allocation failed: it sent nothing after its last receive, and that receive doesn't fence it
  pub record IsCutServer (role : ServerRole) (old new : Option (List LinkCall)) : Type 0 where
    pub at_boot : List Sent
    pub turns : List ServerTurn
    pub last : Option Received
    pub within : length turns ≤ role.turns
    pub reports : Reports old new (Bound role.local ∷ (server_calls role.loggers at_boot turns ++ map received_as (option_to_list last)))
    pub serves : Serves services role at_boot turns
    pub unfenced : IfSome last (λ received. fence_in role received ≡ None)

  -- an allocation may fail before it sends anything
  abbrev pub IsLostServer : ServerRole → (old new : Option (List LinkCall)) → Type 0
  IsLostServer role old new = Reports old new (Bound role.local ∷ []) ⊎ IsCutServer role old new

  -- a server that a newer one fenced: what it received last names the newer one's boot number
  pub record IsFencedServer (role : ServerRole) (newer : ℕ) (old new : Option (List LinkCall)) : Type 0 where
    pub at_boot : List Sent
    pub turns : List ServerTurn
    pub last : Received
    pub within : length turns < role.turns
    pub reports : Reports old new (Bound role.local ∷ (server_calls role.loggers at_boot turns ++ received_as last ∷ []))
    pub serves : Serves services role at_boot turns
    pub fenced : fence_in role last ≡ Some newer

  -- how a server stops early: nothing was written where the bind failed, and a prefix of the line where a write did
  abbrev pub ServerStops : ServerRole → (old new : Option (List LinkCall)) → (out_old out_new : Option (List ℕ)) → NodeEnd → Type 0
  ServerStops role old new out_old out_new LinkFault = Reports old new [] × (out_new ≡ out_old)
  ServerStops role old new out_old out_new NoMemory = IsLostServer role old new × (out_new ≡ out_old)
  ServerStops role old new out_old out_new (Fenced newer) = IsFencedServer role newer old new × (out_new ≡ out_old)
  ServerStops role old new out_old out_new WriteFault = IsServer role old new (AppendsFront out_old out_new)
  ServerStops role old new out_old out_new _ = ⊥
