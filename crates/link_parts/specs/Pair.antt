-- A pair of servers with a logger and a client: which programs are started and waited for, in which order, and what is written.
use Rattle.std.specs.Prelude.{◌≡◌, ℕ, ◌+◌, ◌<◌, ℤ, Option, List, [], ◌∷◌, ◌++◌, codes, take, length}
use Rattle.std.specs.Fmt.{decimal, signed_decimal}
use Rattle.std.specs.Io.KnownBytes.{Appends}
use Rattle.ft_io.specs.declared.spawn_call.SpawnCall.{SpawnCall}
use Rattle.ft_io.specs.declared.spawn_call.SpawnCall.TheVariants.{Started, Ended}
use Rattle.ft_io.specs.Reported.{Reports}
use Rattle.ft_io.specs.Sink.{AppendsFront}
use Rattle.link_parts.specs.declared.role.PairRole.{PairRole}
use Rattle.link_parts.specs.declared.pair.ChildName.{ChildName}
use Rattle.link_parts.specs.declared.pair.ChildName.TheVariants.{Server, Logger, Client}
use Rattle.link_parts.specs.declared.pair.PairStep.{PairStep}
use Rattle.link_parts.specs.declared.pair.PairStep.TheVariants.{Start, Wait}
use Rattle.link_parts.specs.declared.pair.PairFault.{PairFault}
use Rattle.link_parts.specs.declared.pair.PairFault.TheVariants.{Child, Write}
use Rattle.link_parts.specs.declared.status.NodeEnd.{NodeEnd}
use Rattle.link_parts.specs.declared.status.NodeEnd.TheVariants.{NoMemory, WriteFault, ChildFault}

abbrev pub name_of : ChildName → List ℕ
name_of Server = codes "server"
name_of Logger = codes "logger"
name_of Client = codes "client"

abbrev pub address_at : ℕ → List ℕ
address_at port = codes "127.0.0.1:" ++ decimal port

-- the words of each start: the program, its role, and each option with its value after it
abbrev pub logger_start : PairRole → List (List ℕ)
logger_start role =
    role.program ∷ codes "logger" ∷ codes "--local" ∷ address_at (role.base + 1) ∷ codes "--turns" ∷ decimal role.turns ∷ []

abbrev pub server_start : PairRole → (boot isn turns : ℕ) → List (List ℕ)
server_start role boot isn turns =
    role.program ∷ codes "server" ∷ codes "--local" ∷ address_at role.base ∷ codes "--logger" ∷ address_at (role.base + 1)
    ∷ codes "--service" ∷ codes "echo" ∷ codes "--boot" ∷ decimal boot ∷ codes "--isn" ∷ decimal isn ∷ codes "--turns" ∷ decimal turns ∷ []

abbrev pub client_start : PairRole → List (List ℕ)
client_start role =
    role.program ∷ codes "client" ∷ codes "--local" ∷ address_at (role.base + 2) ∷ codes "--server" ∷ address_at role.base
    ∷ codes "--isn" ∷ decimal 1000 ∷ codes "--turns" ∷ decimal role.turns ∷ codes "--script" ∷ codes "fill:5000" ∷ []

-- the children are numbered in the order of their starts: the logger, the first server, the client, the second server
abbrev pub steps_of : PairRole → List PairStep
steps_of role =
    Start (logger_start role) ∷ Start (server_start role 1 5000 role.first) ∷ Start (client_start role) ∷ Wait 2 Server
    ∷ Start (server_start role 2 900000 role.second) ∷ Wait 3 Client ∷ Wait 4 Server ∷ Wait 1 Logger ∷ []

abbrev pub status_text : ChildName → List ℕ
status_text name = name_of name ++ codes " status "

abbrev pub status_line : ChildName → ℤ → List ℕ
status_line name status = status_text name ++ (signed_decimal status ++ codes "\n")

-- the calls of a step and the line that it writes, where so many children were started before all steps
abbrev pub StepReports : ℕ → PairStep → List SpawnCall → List ℕ → Type 0
StepReports before (Start words) calls line = (calls ≡ Started words ∷ []) × (line ≡ [])
StepReports before (Wait child name) calls line = (status : ℤ) × (calls ≡ Ended (before + child) status ∷ []) × (line ≡ status_line name status)

-- and these steps, one after another
abbrev pub StepsReport : ℕ → List PairStep → List SpawnCall → List ℕ → Type 0
StepsReport before [] calls lines = (calls ≡ []) × (lines ≡ [])
StepsReport before (step ∷ steps) calls lines =
    (first : List SpawnCall) × (line : List ℕ) × (later : List SpawnCall) × (more : List ℕ)
    × StepReports before step first line × StepsReport before steps later more × (calls ≡ first ++ later) × (lines ≡ line ++ more)

-- these steps were done
pub record IsPair (steps : List PairStep) (before : ℕ) (old new : Option (List SpawnCall)) (Writes : List ℕ → Type 0) : Type 0 where
  pub calls : List SpawnCall
  pub lines : List ℕ
  pub steps_report : StepsReport before steps calls lines
  pub reports : Reports old new calls
  pub written : Writes lines

-- how steps stop early: the first ones were done, and the next call failed; or only a prefix of their lines was written
abbrev pub StepsStop : List PairStep → ℕ → (old new : Option (List SpawnCall)) → (out_old out_new : Option (List ℕ)) → PairFault → Type 0
StepsStop steps before old new out_old out_new Child =
    (count : ℕ) × (count < length steps) × IsPair (take count steps) before old new (Appends out_old out_new)
StepsStop steps before old new out_old out_new Write = (count : ℕ) × IsPair (take count steps) before old new (AppendsFront out_old out_new)

-- how a pair stops early: where memory runs out, before the first start
abbrev pub PairStops : PairRole → ℕ → (old new : Option (List SpawnCall)) → (out_old out_new : Option (List ℕ)) → NodeEnd → Type 0
PairStops role before old new out_old out_new NoMemory = Reports old new [] × (out_new ≡ out_old)
PairStops role before old new out_old out_new ChildFault = StepsStop (steps_of role) before old new out_old out_new Child
PairStops role before old new out_old out_new WriteFault = StepsStop (steps_of role) before old new out_old out_new Write
PairStops role before old new out_old out_new _ = ⊥
