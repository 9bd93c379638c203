-- A node's turn is its stage's, where nothing fences it.
use Rattle.std.proofs.Common.{◌≡◌, false, refl, sym, subst, None, List}
use Rattle.std.specs.Prelude.{Result, Ok, Err, OnOk}
use Rattle.server_trait.specs.Service.{Machine}
use Rattle.ft_model.specs.Lawful.{StageTurn, NodeTurn, fence, is_fenced}
use Rattle.ft_model.specs.Node.{Stage, Input}
use Rattle.ft_model.specs.Wire.{Wire}
use Rattle.plain_world.specs.declared.incarnation.Incarnation.{Incarnation}
use Rattle.plain_world.specs.declared.stage.PlainStage.{PlainStage}
use Rattle.plain_world.specs.declared.stage.PlainStage.TheVariants as stage
use Rattle.plain_world.specs.NodeTurns.{SendsBy, TakesNodeTurn}
use Rattle.plain_world.specs.Values.{node_of, stage_in}

-- no stage of a node is that of a fenced one
never_fenced : {S : Type 0} (at : PlainStage S) → is_fenced (stage_in at) ≡ false
never_fenced stage.Asking = refl
never_fenced (stage.Fetching count fetched) = refl
never_fenced (stage.Serving serving) = refl

pub takes_turn : {S V E : Type 0} (service : Machine S) (who : Incarnation) (before after : PlainStage S) (input : Input) (r : Result V E) (old new : List Wire)
    → fence (node_of who (stage_in before)) input ≡ None
    → OnOk r ((at : Stage) → SendsBy (StageTurn service (node_of who at) (stage_in before) input (stage_in after)) old new)
    → OnOk r (TakesNodeTurn service (node_of who (stage_in before)) input (node_of who (stage_in after)) old new)
takes_turn service who before after input (Ok v) old new free h =
    let turn = h (stage_in before) in record {
      sent = turn.sent;
      lawful = record {
        server = refl;
        profile = refl;
        boot = refl;
        isn = refl;
        live = never_fenced before;
        stage = subst (λ newer. NodeTurn service (node_of who (stage_in before)) input newer (stage_in after) turn.sent) (sym free) turn.lawful;
      };
      packets = turn.packets;
    }
takes_turn service who before after input (Err e) old new free h = tt
