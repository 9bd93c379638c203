use Rattle.std.proofs.Common.{◌∙◌}
use Rattle.std.proofs.lemmas.Result.{on_ok_weaker}
use Rattle.node_serving.proofs.excluded.marks_at_a_stray_packet.Goals as goal

pub returns : goal.returns
returns g c =
    on_ok_weaker c.serve_packet_marked.result (λ h. let same = h c.requires.stray in (same.1, same.2 ∙ c.requires.empty)) c.serve_packet_marked.ensures.untouched
