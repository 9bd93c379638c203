use Rattle.server_trait.specs.Service.{machine}
use Rattle.north_wrap.specs.Sockets.{reader, writer}
use Rattle.north_wrap.proofs.WholeTurn.{whole_turn}
use Rattle.north_wrap.proofs.north.North.turn.Goals as goal
use Rattle.std.proofs.lemmas.Result.{on_ok_weaker}

pub returns-clause-law : goal.returns-clause-law
returns-clause-law g c =
    on_ok_weaker c.make_turn.result (λ turn fresh p given st so same may. whole_turn (machine fresh g.S.Service.after g.S.Service.greeting) (reader g.K.Socket.unread g.K.Socket.has_end g.K.Socket.after_read)
    (writer g.K.Socket.write_room g.K.Socket.is_closed g.K.Socket.after_write g.K.Socket.after_close) p given c.args.una c.args.self.now c.args.sock.now c.make_turn.new.news c.make_turn.new.self c.make_turn.new.sock
    (record {
      read_front = g.met.K.Socket.read_takes_the_front;
      read_end = g.met.K.Socket.read_keeps_the_end;
      read_open = g.met.K.Socket.read_keeps_open;
      write_unread = g.met.K.Socket.write_keeps_the_unread;
      write_end = g.met.K.Socket.write_keeps_the_end;
      write_open = g.met.K.Socket.write_keeps_open;
      close_unread = g.met.K.Socket.close_keeps_the_unread;
      close_end = g.met.K.Socket.close_keeps_the_end;
      close_closed = g.met.K.Socket.close_closes;
    }) st so same may turn) c.make_turn.ensures.turn
