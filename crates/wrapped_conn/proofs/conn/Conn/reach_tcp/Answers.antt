use Rattle.std.proofs.Common.{sym, subst, ◌∙◌, arith}
use Rattle.std.proofs.lemmas.Result.{IfOk-weaker}
use Rattle.seq_arith.specs.PacketGrammar.{reading}
use Rattle.segment_codec.specs.Value.{segment_of}
use Rattle.endpoint_laws.proofs.Bounding.{bounded_is_short}
use Rattle.wrapped_conn.specs.Sound.{IsSound}
use Rattle.wrapped_conn.proofs.Reached.{reached_by, sound_received}
use Rattle.wrapped_conn.proofs.conn.Conn.reach_tcp.Goals as goal

pub returns-in-Pass-clause-state : goal.returns-in-Pass-clause-state
returns-in-Pass-clause-state g c = rw (← c.self.view_is) (
    let i = c.self.inside in
    let s = subst IsSound (sym c.self.view_is) c.requires.sound in
    let seen = segment_of c.read_accepted-segment.result in
    let is = c.on_packet.ensures.whole (omega (arith, c.read_accepted-segment.ensures.most)) (bounded_is_short i.endpoint s.parts.tcp.bounds) in
    reached_by _ (reading c.args.packet.now) c.inward.new.self seen c.on_packet.new.self c.inward.ensures.state
    (IfOk-weaker (reading c.args.packet.now) _ _ (λ segment answer. sym c.in-Pass.is ∙ answer) c.inward.ensures.answer)
    (sym c.read_accepted-segment.ensures.read ∙ c.inward.ensures.read) is)

pub returns-in-Pass-clause-sound : goal.returns-in-Pass-clause-sound
returns-in-Pass-clause-sound g c =
    let s = subst IsSound (sym c.self.view_is) c.requires.sound in
    let seen = segment_of c.read_accepted-segment.result in
    let is = c.on_packet.ensures.whole (omega (arith, c.read_accepted-segment.ensures.most)) (bounded_is_short c.self.inside.endpoint s.parts.tcp.bounds) in
    sound_received _ c.inward.new.self seen c.on_packet.new.self s (record { seq = c.fields_fit.ensures.seq; window = c.fields_fit.ensures.window; text = omega (arith, c.read_accepted-segment.ensures.most) }) c.inward.ensures.state is
