use Rattle.std.specs.Io.KnownBytes.{Appends}
use Rattle.std.proofs.lemmas.Result.{on_err_weaker, on_ok_weaker}
use Rattle.ft_io.specs.Sink.{AppendsFront}
use Rattle.link_parts.proofs.ClientRunning.{turn_done}
use Rattle.link_parts.proofs.client.take_turn.Goals as goal

pub returns-clause-turned : goal.returns-clause-turned
returns-clause-turned g c =
    on_ok_weaker c.write_all.result
    (λ written. turn_done c.args.role.now.isn c.args.role.now.server c.args.client.now c.receive.new.client c.accept-count.new.self c.flush.new.client c.args.room.now
    c.accept-count.new.buf c.accept-count.result (g.L.Link.reported c.args.link.now) (g.L.Link.reported c.receive.new.link) (g.L.Link.reported c.flush.new.link)
    (Appends (g.O.Sink.taken c.args.out.now) (g.O.Sink.taken c.write_all.new.out)) c.requires.limited c.requires.room c.receive.ensures.received c.accept-count.ensures.count
    c.accept-count.ensures.bytes c.accept-count.ensures.state c.flush.ensures.sent c.flush.ensures.state written)
    c.write_all.ensures.whole

pub returns-clause-cut_short : goal.returns-clause-cut_short
returns-clause-cut_short g c =
    on_err_weaker c.write_all.result
    (λ front. turn_done c.args.role.now.isn c.args.role.now.server c.args.client.now c.receive.new.client c.accept-count.new.self c.flush.new.client c.args.room.now
    c.accept-count.new.buf c.accept-count.result (g.L.Link.reported c.args.link.now) (g.L.Link.reported c.receive.new.link) (g.L.Link.reported c.flush.new.link)
    (AppendsFront (g.O.Sink.taken c.args.out.now) (g.O.Sink.taken c.write_all.new.out)) c.requires.limited c.requires.room c.receive.ensures.received c.accept-count.ensures.count
    c.accept-count.ensures.bytes c.accept-count.ensures.state c.flush.ensures.sent c.flush.ensures.state front)
    c.write_all.ensures.front
