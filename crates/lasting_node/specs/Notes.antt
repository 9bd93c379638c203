-- What a server that lasts notes of a message, and so how it takes a message of the log.
use Rattle.std.specs.Prelude.{◌≡◌, Bool, true, false, Option, None}
use Rattle.ft_io.specs.declared.Key.{Key}
use Rattle.seq_arith.specs.Message.{Message, Body}
use Rattle.server_trait.specs.Service.{Machine}
use Rattle.server_trait.specs.declared.Service.{Ghosts}
use Rattle.ft_model.specs.Lawful.{IsSoundInput, fence}
use Rattle.ft_model.specs.Node.{Stage}
use Rattle.ft_model.specs.Node.Input.{Message_comes}
use Rattle.lasting_laws.specs.LastingTurn as law
use Rattle.lasting_laws.specs.LastingTurn.{after_turn}
use Rattle.lasting_lives.specs.declared.life.Life.{Life}
use Rattle.lasting_lives.specs.declared.life.Resting.{Resting}
use Rattle.lasting_lives.specs.Known.{LivesStand}
use Rattle.lasting_lives.specs.Noted.{NotesServing, NotesRestart}
use Rattle.node_serving.specs.Identity.{node_of, service_of}
use Rattle.server_node.specs.Stages.{StageStands}
use Rattle.lasting_node.specs.declared.node.LastingNode.{LastingNode}
use Rattle.lasting_node.specs.Turns.{LastingStands, NodeWent, known_of}

-- its node is at this stage of the law
abbrev pub IsAtStage : {S : Type 0} {s : Ghosts S} → Stage → LastingNode S s → Type 0
IsAtStage {s = s} at now = StageStands (service_of s now.node.who) (node_of now.node.who at) now.node.stage

-- What is noted of a message of this boot. The node has taken its turn on it; `ends` is the connection that it has ended, `restarts` whether the node restarted
abbrev pub NotesMessage : Body → (ends : Option Resting) → (restarts : Bool) → Stage → (old new : Key → Option Life) → Type 0
NotesMessage body ends true stage old new = NotesRestart body stage old new
NotesMessage body ends false stage old new = NotesServing body ends stage old new

abbrev pub Notes : {S : Type 0} {s : Ghosts S} → Body → (ends : Option Resting) → (restarts : Bool) → (was now : LastingNode S s) → Type 0
Notes body ends restarts was now = (at : Stage) → IsAtStage at was → NotesMessage body ends restarts at (known_of was) (known_of now)

-- its node takes the turn on a message, and what it then knows of its keys is true
pub record Receipt {S : Type 0} {s : Ghosts S} (service : Machine S) (n : law.LastingNode) (message : Message) (now : LastingNode S s) : Type 0 where
  pub went : NodeWent service n (Message_comes message) now
  pub lives : LivesStand (after_turn n (Message_comes message) went.later) went.later.stage (known_of now)

abbrev pub OnReceipt : {S : Type 0} {s : Ghosts S} → Message → (was now : LastingNode S s) → Type 0
OnReceipt {S} {s} message was now =
    (n : law.LastingNode) → IsSoundInput (service_of s was.node.who) n.node (Message_comes message) n.node.stage → fence n.node (Message_comes message) ≡ None
    → LastingStands (service_of s was.node.who) n was → Receipt (service_of s was.node.who) n message now
