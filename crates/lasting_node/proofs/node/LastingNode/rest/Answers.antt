use Rattle.std.proofs.Common.{◌∙◌, Some}
use Rattle.std.proofs.lemmas.Result.{on_ok_weaker}
use Rattle.ft_io.specs.Key.{key_eq}
use Rattle.ft_io.proofs.Choices.{if_true, if_false}
use Rattle.ft_model.proofs.Lists.{key_is}
use Rattle.lasting_lives.specs.declared.life.Life.TheVariants as life
use Rattle.lasting_node.specs.Turns.{known_of}
use Rattle.lasting_node.proofs.node.LastingNode.rest.Goals as goal

pub returns-clause-rests : goal.returns-clause-rests
returns-clause-rests g c =
    on_ok_weaker c.put.result
    (λ t.
    let key = c.args.head.now.key in
    let old = known_of c.args.self.now in
    record {
      others = λ k e. t k ∙ if_false (key_eq key k) (Some (life.Resting c.fetched.result)) (old k) e;
      its = (c.fetched.result, t key ∙ if_true (key_eq key key) (Some (life.Resting c.fetched.result)) (old key) (key_is key), c.fetched.ensures.0.named, c.fetched.ensures.1, c.fetched.ensures.0.age);
    }) c.put.ensures
