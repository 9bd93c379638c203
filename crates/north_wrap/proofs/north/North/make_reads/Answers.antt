use Rattle.std.proofs.Common.{◌≡◌, sym, ◌∙◌, ap₂, Some}
use Rattle.north_wrap.specs.NorthState.{record_of, next_length, next_at}
use Rattle.north_wrap.specs.Sockets.{reader}
use Rattle.north_wrap.proofs.ReadSequence.{proceeds}
use Rattle.north_wrap.proofs.north.North.make_reads.Goals as goal

pub loop-size-preserved : goal.loop-size-preserved
loop-size-preserved g c =
    let e = c.in_ok-read_next.ensures in
    let allowed : next_at (reader g.K.Socket.unread g.K.Socket.has_end g.K.Socket.after_read) c.args.una c.loop-size.self c.loop-size.sock ≡ Some c.in-Some.size =
    ap₂ (λ n b. next_length c.args.una n b c.loop-size.self) (sym c.readable.ensures) (sym c.ended.ensures) ∙ sym c.next_length.ensures.value ∙ c.in-Some.is in (
      proceeds c.loop-size.invariant.0 (record_of c.in-Some.size c.loop-size.self c.read_next.new.self.run) c.read_next.new.news c.read_next.new.self c.read_next.new.sock
          allowed e.state e.reads e.news e.socket,
      e.bounded,
    )
