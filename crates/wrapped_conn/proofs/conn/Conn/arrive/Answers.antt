use Rattle.std.proofs.lemmas.Result.{IfOk-weaker}
use Rattle.seq_arith.specs.PacketGrammar.{reading}
use Rattle.wrapped_conn.proofs.Copied.{arrived_is, reported_by, reached_stamped, repeats_stamped, passed_stamped}
use Rattle.wrapped_conn.proofs.conn.Conn.arrive.Goals as goal

pub returns-clause-repeats : goal.returns-clause-repeats
returns-clause-repeats g c =
    repeats_stamped c.args.self.now c.note_timestamps.new.self _ c.args.packet.now c.requires.accepted c.note_timestamps.ensures.state c.reach_tcp-repeats.ensures.repeats

pub returns-clause-state : goal.returns-clause-state
returns-clause-state g c =
    IfOk-weaker (reading c.args.packet.now) _ _ (λ segment reach. arrived_is segment c.args.self.now c.reach_tcp-repeats.new.self c.note_arrival.new.self reach c.note_arrival.ensures.state)
    (reached_stamped c.args.self.now c.note_timestamps.new.self c.reach_tcp-repeats.new.self c.args.packet.now c.requires.accepted c.note_timestamps.ensures.state c.reach_tcp-repeats.ensures.state)

pub returns-clause-reported : goal.returns-clause-reported
returns-clause-reported g c =
    reported_by c.args.self.now c.reach_tcp-repeats.new.self c.note_arrival.new.self c.args.packet.now c.reach_tcp-repeats.new.packet c.args.before c.send_copy.new.out c.requires.accepted
    (reached_stamped c.args.self.now c.note_timestamps.new.self c.reach_tcp-repeats.new.self c.args.packet.now c.requires.accepted c.note_timestamps.ensures.state c.reach_tcp-repeats.ensures.state)
    c.note_arrival.ensures.state
    (passed_stamped c.args.self.now c.note_timestamps.new.self c.args.packet.now c.reach_tcp-repeats.new.packet c.requires.accepted c.note_timestamps.ensures.state c.reach_tcp-repeats.ensures.read)
    c.send_copy.ensures.reported
