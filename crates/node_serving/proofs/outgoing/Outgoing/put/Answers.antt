use Rattle.std.proofs.Common.{rules, Ok, refl, ◌≡◌, ◌∙◌, ◌+◌, ◌-◌, ◌≤◌, ◌∷◌, [], length, take, ap}
use Rattle.conn_marks.specs.MarkSends.{put_before}
use Rattle.node_serving.specs.SentBytes.{sent_to}
use Rattle.node_serving.proofs.Outcomes.{same_ok}
use Rattle.node_serving.proofs.Placed.{placed}
use Rattle.node_serving.proofs.outgoing.Outgoing.put.Goals as goal

pub returns : goal.returns
returns c =
    let ps = c.self.inside.packets.items in
    let n = c.self.inside.count in
    let within : n ≤ length ps = c.self.invariant in
    let low : c.args.behind ≤ n = search rules in
    let packet : c.in_ok-packet.packet ≡ sent_to c.args.to c.args.bytes.now =
    same_ok (Ok c.in_ok-packet.packet) c.in_ok-packet.packet (sent_to c.args.to c.args.bytes.now) refl c.in_ok-packet.ensures in
    ap (take (n + 1)) c.in_ok-insert.ensures.items
    ∙ (placed n c.args.behind ps c.in_ok-packet.packet low within
    ∙ (λ j. put_before c.args.behind (packet j ∷ []) (c.self.view_is j).items))
