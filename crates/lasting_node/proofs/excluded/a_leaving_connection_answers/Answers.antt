use Rattle.std.proofs.lemmas.Result.{on_ok_weaker}
use Rattle.segment_codec.specs.Value.{segment_of}
use Rattle.lasting_node.specs.Turns.{sent_by}
use Rattle.lasting_node.proofs.Untouched.{dropped_in_silence}
use Rattle.lasting_node.proofs.excluded.a_leaving_connection_answers.Goals as goal

pub returns : goal.returns
returns g c =
    let now = c.take_segment.new.self in
    on_ok_weaker c.take_segment.result
    (λ turns. dropped_in_silence c.args.server.now now c.requires.leaving.0 (sent_by now) c.requires.leaving.1 (segment_of c.args.segment.now) c.requires.leaving.2 turns)
    c.take_segment.ensures.turn
