use Rattle.std.proofs.Common.{◌∙◌, ◌≤◌, ◌<◌, ◌/◌, ap, length, subst, sym}
use Rattle.tcp_rules.specs.Profile.{grammar_of}
use Rattle.plain_packets.specs.Sent.{wire_at}
use Rattle.plain_world.proofs.Refusing.{past_the_wire, within_the_wire}
use Rattle.plain_world.proofs.world.PlainWorld.flip_refusal.Goals as goal

pub returns-then-bit-bytes : goal.returns-then-bit-bytes
returns-then-bit-bytes g c = λ packets is.
    past_the_wire (grammar_of c.args.self.now.profile) c.args.self.now.packets packets c.args.number c.args.bit c.in-Some.wire.now
    (c.in-Some.ensures ∙ ap (λ w. wire_at w.packets c.args.number) c.self.view_is) is
    (subst (λ bytes. length bytes ≤ c.args.bit / 8) c.bytes.ensures c.if-bit-bytes.true)

pub returns : goal.returns
returns g c = λ packets is.
    within_the_wire (grammar_of c.args.self.now.profile) c.args.self.now.packets packets c.args.number c.args.bit c.in-Some.wire.now
    (c.in-Some.ensures ∙ ap (λ w. wire_at w.packets c.args.number) c.self.view_is) is
    (subst (λ bytes. c.args.bit / 8 < length bytes) c.bytes.ensures c.if-bit-bytes.false)
