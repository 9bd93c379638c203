use Rattle.wrapped_conn.proofs.SegmentTurn.{copied_now, reported_now, takes}
use Rattle.wrapped_conn.proofs.conn.Conn.take_packet.Goals as goal
use Rattle.std.proofs.lemmas.Result.{on_ok_weaker}

pub returns-clause-turn : goal.returns-clause-turn
returns-clause-turn g c =
    let before = c.before_segment-before in
    let arrive = c.arrive-repeats in
    on_ok_weaker c.proceed.result
    (takes g.S.Service.after c.args.self.now arrive.new.self c.proceed.new.self before.result arrive.result c.args.packet.now c.proceed.new.out.segments c.proceed.new.out.messages c.requires.accepted before.ensures.value
    arrive.ensures.repeats arrive.ensures.state)
    (c.proceed.ensures.turn (copied_now c.args.self.now before.result c.args.packet.now)
    (reported_now c.args.self.now arrive.new.self before.result c.args.packet.now arrive.new.messages c.requires.accepted arrive.ensures.state arrive.ensures.reported))
