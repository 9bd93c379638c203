use Rattle.std.proofs.Common.{refl, sym, ap}
use Rattle.std.specs.Map.{lookup}
use Rattle.ft_io.specs.Key.{key_eq}
use Rattle.ft_model.specs.Node.Stage.{Asking}
use Rattle.node_serving.specs.Identity.{node_of}
use Rattle.lasting_node.proofs.node.LastingNode.boot.Goals as goal

pub returns-clause-stands : goal.returns-clause-stands
returns-clause-stands g c = record {
  who = ap (λ w. node_of w Asking) (sym c.in_ok-node.ensures.same);
  stage = c.in_ok-node.ensures.plain refl;
  lives = (refl, λ key. ap (lookup (key_eq key)) c.new.ensures);
  apart = tt;
}
