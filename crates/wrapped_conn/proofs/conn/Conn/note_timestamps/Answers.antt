use Rattle.std.proofs.Common.{◌≡◌, sym, subst}
use Rattle.std.specs.Prelude.{IfOk}
use Rattle.seq_arith.specs.PacketGrammar.{reading}
use Rattle.south_wrap.specs.Translation.{with_value_of}
use Rattle.wrapped_conn.specs.Arrival.{stamped}
use Rattle.wrapped_conn.specs.ConnState.{ConnState}
use Rattle.wrapped_conn.specs.Sound.{IsSound}
use Rattle.wrapped_conn.proofs.SoundAgain.{sound_stamped, stamped_by}
use Rattle.wrapped_conn.proofs.conn.Conn.note_timestamps.Goals as goal

pub returns-clause-state : goal.returns-clause-state
returns-clause-state g c =
    let noted = subst (λ (x : ConnState _). IfOk (reading c.args.packet.now) (λ segment. c.note_timestamps.new.self ≡ with_value_of segment x.south)) c.self.view_is c.note_timestamps.ensures in
    subst (λ (x : ConnState _). IfOk (reading c.args.packet.now) (λ segment. record x { south = c.note_timestamps.new.self } ≡ stamped segment c.args.self.now)) (sym c.self.view_is)
    (stamped_by c.args.self.now c.note_timestamps.new.self c.args.packet.now noted)

pub returns-clause-sound : goal.returns-clause-sound
returns-clause-sound g c =
    sound_stamped _ c.note_timestamps.new.self c.args.packet.now c.requires.accepted c.note_timestamps.ensures (subst IsSound (sym c.self.view_is) c.requires.sound)
