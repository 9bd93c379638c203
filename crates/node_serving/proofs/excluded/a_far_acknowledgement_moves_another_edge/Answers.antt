use Rattle.std.proofs.Common.{◌∙◌, ap, ◌&&◌}
use Rattle.std.proofs.lemmas.Result.{on_ok_weaker}
use Rattle.segment_codec.specs.Value.{segment_of}
use Rattle.ft_io.specs.Key.{key_eq}
use Rattle.ft_model.specs.Network.{source_of}
use Rattle.ft_model.specs.Node.Stage.{Asking}
use Rattle.node_serving.proofs.excluded.a_far_acknowledgement_moves_another_edge.Goals as goal

pub returns : goal.returns
returns g c =
    on_ok_weaker c.serve_known.result
    (λ alone. (alone c.requires.mine Asking).slots c.args.other
    (ap (λ mine. mine && key_eq (source_of (segment_of c.args.segment.now)) c.args.other) c.requires.mine ∙ c.requires.other))
    c.serve_known.ensures.alone
