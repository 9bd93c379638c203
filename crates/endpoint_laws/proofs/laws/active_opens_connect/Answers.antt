use Rattle.std.proofs.Common.{[], ◌∷◌, ap, ◌∙◌}
use Rattle.seq_arith.specs.Packet.{Segment}
use Rattle.endpoint_laws.proofs.Connecting.{connect_law}
use Rattle.endpoint_laws.proofs.NoConnection.{syn_is, opening_times_law}
use Rattle.endpoint_laws.proofs.laws.active_opens_connect.Goals as goal

pub returns : goal.returns
returns c = λ measures local remote iss limit calls may still.
    let connects = connect_law measures local remote iss limit calls may still in
    (connects.0, connects.1 ∙ ap (λ (s : Segment). s ∷ []) (syn_is local remote iss limit), opening_times_law measures local remote iss limit calls may still)
