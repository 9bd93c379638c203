use Rattle.std.proofs.Common.{◌≡◌, ◌∙◌, ◌++◌, ◌∷◌, [], ap, ap₂, sym, take, append_assoc}
use Rattle.std.proofs.lemmas.List.{take_more}
use Rattle.node_serving.specs.SentBytes.{sent_to}
use Rattle.lasting_node.proofs.Tended.{same_wire}
use Rattle.lasting_node.proofs.ticking.append.Goals as goal

pub loop-packet-preserved : goal.loop-packet-preserved
loop-packet-preserved c =
    let w = c.packet-item.result in
    let i = c.loop-packet.packet-index in
    let old = c.args.own.now.sent.items in
    let same : sent_to c.to.result c.bytes.result.now ≡ w = same_wire w c.to.result c.bytes.result.now c.sent_by_server.ensures c.to.ensures c.bytes.ensures in
    c.in_ok-send.ensures
    ∙ (ap₂ (λ a x. a ++ x ∷ []) c.loop-packet.invariant same
    ∙ (append_assoc old (take i c.args.packets.now) (w ∷ [])
    ∙ ap (λ xs. old ++ xs) (sym (take_more c.args.packets.now i w c.loop-packet-test.true ∙ ap (λ x. take i c.args.packets.now ++ x ∷ []) (sym c.packet-item.is)))))
