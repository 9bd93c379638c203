use Rattle.std.proofs.Common.{◌+◌, sym, subst, arith}
use Rattle.seq_arith.specs.Offset.{one_if}
use Rattle.wrapped_conn.specs.Sound.{IsSound}
use Rattle.wrapped_conn.proofs.SoundAgain.{sound_received}
use Rattle.wrapped_conn.proofs.conn.Conn.note_logged.Goals as goal
use Rattle.seq_arith.proofs.Units.{one_at_most}

pub returns-clause-sound : goal.returns-clause-sound
returns-clause-sound g c =
    sound_received _ (c.args.length + one_if c.args.fin) c.args.reads c.on_stable.new.self c.on_reads.new.self (subst IsSound (sym c.self.view_is) c.requires.sound)
    (omega (arith, c.requires.most, one_at_most c.args.fin)) c.on_stable.ensures.state c.on_reads.ensures.state
