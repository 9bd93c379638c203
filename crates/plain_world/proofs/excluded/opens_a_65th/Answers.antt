use Rattle.std.proofs.Common.{◌≡◌, ◌∙◌, Bool, true, false, refl, ap, nat_lt}
use Rattle.std.specs.Prelude.{◌&&◌}
use Rattle.segment_codec.specs.Value.{segment_of}
use Rattle.ft_model.specs.Opening.{is_syn}
use Rattle.ft_model.specs.ServingTurn.{is_strange}
use Rattle.plain_world.specs.Values.{places_in, node_of}
use Rattle.plain_world.proofs.excluded.opens_a_65th.Goals as goal

none_more : (a b : Bool) → a && b && false ≡ false
none_more true true = refl
none_more true false = refl
none_more false true = refl
none_more false false = refl

pub returns : goal.returns
returns g c = λ stage.
    let segment = segment_of c.args.segment.now in
    let strange = is_strange (node_of c.args.who stage) segment (places_in c.args.places.now) in
    c.may_open.ensures stage ∙ (ap (λ n. strange && is_syn segment && nat_lt n 64) c.requires ∙ none_more strange (is_syn segment))
