use Rattle.std.proofs.Common.{sym, subst}
use Rattle.wrapped_conn.specs.Sound.{IsSound}
use Rattle.wrapped_conn.proofs.Delays.{delayed_sound}
use Rattle.wrapped_conn.proofs.conn.Conn.delay_ack.Goals as goal

pub returns-then-is_delayed-clause-sound : goal.returns-then-is_delayed-clause-sound
returns-then-is_delayed-clause-sound g c =
    delayed_sound _ c.delay_ack.new.self (subst IsSound (sym c.self.view_is) c.requires.sound) c.delay_ack.ensures.state
