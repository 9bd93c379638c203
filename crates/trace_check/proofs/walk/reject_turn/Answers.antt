use Rattle.ft_model.specs.Legal.{machines}
use Rattle.trace_check.proofs.TurnWalk.{turn_is_rejected}
use Rattle.trace_check.proofs.walk.reject_turn.Goals as goal

pub returns : goal.returns
returns g c =
    turn_is_rejected (machines g.S.Service.started g.S.Service.after g.S.Service.greeting) c.args.text.now c.args.schedule.now c.args.place.at c.args.place.lines c.args.reported
    c.read_packet_lines-read.result.end c.read_packet_lines-read.result.count c.args.law
    c.read_packet_lines-read.ensures.within.0 c.read_packet_lines-read.ensures.within.1 c.read_packet_lines-read.ensures.within.2
    c.read_packet_lines-read.ensures.packets c.read_packet_lines-read.ensures.complete
