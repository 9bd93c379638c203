use Rattle.std.proofs.Common.{◌≡◌, ◌∙◌, ◌+◌, ◌-◌, ◌<◌, suc, min, ap, subst, arith, [], ◌∷◌}
use Rattle.server_trait.specs.Service.{machine}
use Rattle.ft_model.specs.Network.Packet.{To_client}
use Rattle.plain_packets.specs.Sent.{Appends}
use Rattle.plain_connection.proofs.Texts.{one_more_text}
use Rattle.plain_connection.proofs.connection.PlainConnection.send_texts.Goals as goal

pub loop-step-preserved : goal.loop-step-preserved
loop-step-preserved g c =
    let service = machine (g.S.Service.started c.args.self.now.kind) g.S.Service.after g.S.Service.greeting in
    let most : c.args.len - c.loop-step._step ≡ suc (c.args.len - (c.loop-step._step + 1)) = omega (arith, c.loop-step-test.true) in
    let some : 0 < c.loop-step.left = omega (arith, c.if-left-eq0.false) in
    let size : c.from-size.result ≡ c.args.self.now.point.mss = c.from-size.ensures ∙ (c.mss.ensures ∙ ap (λ x. x.point.mss) c.self.view_is) in
    let n : c.min-n.result ≡ min c.loop-step.left c.args.self.now.point.mss = c.min-n.ensures ∙ ap (min c.loop-step.left) size in
    one_more_text service c.args.server c.args.self.now.point c.args.from c.args.len c.args.sent.now c.loop-step.sent c.send_to_client.new.self
    (c.args.len - c.loop-step._step) (c.args.len - (c.loop-step._step + 1)) c.loop-step.offset c.loop-step.left c.min-n.result c.loop-step.invariant most some n
    (subst (λ segment. Appends c.loop-step.sent c.send_to_client.new.self (To_client segment ∷ [])) c.text_at.ensures c.in_ok-send_to_client.ensures)
