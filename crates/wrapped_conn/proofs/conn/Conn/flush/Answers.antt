use Rattle.std.proofs.Common.{sym, ap, subst}
use Rattle.tcp_endpoint.specs.Output.{leaving}
use Rattle.south_wrap.specs.SouthState.{SouthState}
use Rattle.wrapped_conn.specs.Sound.{IsSound}
use Rattle.wrapped_conn.proofs.RoomLeft.{leaving_fits}
use Rattle.wrapped_conn.proofs.conn.Conn.flush.Goals as goal

pub pass-requires-clause-spelled : goal.pass-requires-clause-spelled
pass-requires-clause-spelled g c =
    let sound = subst IsSound (sym c.self.view_is) c.requires.sound in (
      leaving c.self.inside.endpoint,
      c.flush.ensures.sent,
      c.flush.ensures.readable,
      leaving_fits c.self.inside.endpoint c.self.inside.south c.sent.new.self sound.roomy (ap (λ (s : SouthState). s.timestamping) c.sent.ensures),
    )
