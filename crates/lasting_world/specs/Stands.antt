-- The world of the code, and the world of the definitions to which it corresponds.
use Rattle.std.specs.Prelude.{◌≡◌, ℕ, Option, Some, None, map}
use Rattle.std.specs.Map.{lookup}
use Rattle.ft_io.specs.Key.{key_eq}
use Rattle.server_trait.specs.Service.{Machine}
use Rattle.tcp_rules.specs.declared.profile.Profile.{Profile}
use Rattle.ft_model.specs.Keys.{AreDistinct}
use Rattle.lasting_laws.specs.LastingTurn as law
use Rattle.lasting_laws.specs.LastingWorld.{LastingWorld}
use Rattle.node_serving.specs.Identity.{node_of}
use Rattle.server_node.specs.Stages.{StageStands}
use Rattle.lasting_lives.specs.Known.{LivesStand}
use Rattle.lasting_node.specs.Turns.{patience_of}
use Rattle.lasting_node.specs.declared.patience.Patience.{Patience}
use Rattle.lasting_world.specs.Around.{AroundStands}
use Rattle.lasting_world.specs.WorldView.{KeptServer, KeptWorld}

-- a server that is up, with this profile and patience, corresponds to an incarnation
pub record ServerStands {State : Type 0} (service : Machine State) (kind : ℕ) (profile : Profile) (patience : Patience) (n : law.LastingNode)
    (now : KeptServer State) : Type 0 where
  pub kind_is : now.who.kind ≡ kind
  pub profile_is : now.who.profile ≡ profile
  pub patience_is : now.patience ≡ patience
  pub who : n.node ≡ node_of now.who n.node.stage
  pub stage : StageStands service n.node now.stage
  pub lives : LivesStand n n.node.stage (λ key. lookup (key_eq key) now.lives)
  pub apart : AreDistinct (map (λ q. q.named.key) n.quarantine)

-- the server is down in both, or corresponds to the incarnation that is up
abbrev pub NodeStands : {State : Type 0} → Machine State → (kind : ℕ) → Profile → Patience → Option law.LastingNode → Option (KeptServer State) → Type 0
NodeStands service kind profile patience None None = Unit {0}
NodeStands service kind profile patience (Some n) (Some now) = ServerStands service kind profile patience n now
NodeStands service kind profile patience _ _ = ⊥

pub record WorldStands {State : Type 0} (service : Machine State) (w : LastingWorld) (now : KeptWorld State) : Type 0 where
  pub server : now.server ≡ w.server
  pub patience : patience_of now.patience ≡ w.patience
  pub around : AroundStands w now.around
  pub boot : now.boot ≡ w.boot
  pub node : NodeStands service now.kind now.around.profile now.patience w.node now.node
