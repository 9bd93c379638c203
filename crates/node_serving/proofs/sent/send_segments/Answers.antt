use Rattle.std.proofs.Common.{◌≡◌, ◌∙◌, ◌++◌, ◌∷◌, [], Some, ap, sym, subst, slice_get, length, ◌≤◌, rules, take_all}
use Rattle.std.specs.List.{AllByRecursion}
use Rattle.server_trait.specs.Service.{AreBytes}
use Rattle.node_serving.specs.SentBytes.{segment_to}
use Rattle.node_serving.proofs.Collecting.{one_more, all_more}
use Rattle.node_serving.proofs.sent.send_segments.Goals as goal

pub loop-i-preserved : goal.loop-i-preserved
loop-i-preserved c =
    let kept : c.send.new.self.items ≡ c.loop-i.sent.items ++ (segment_to c.args.key) c.packet-packet.result.now ∷ [] = search rules in
    let at : slice_get c.args.out.now.segments c.loop-i.i ≡ Some c.packet-packet.result.now = (ap (λ xs. slice_get xs c.loop-i.i) (sym c.segments-segments.ensures) ∙ c.packet-packet.ensures) in (
      kept ∙ (ap (λ xs. xs ++ (segment_to c.args.key) c.packet-packet.result.now ∷ []) c.loop-i.invariant.0
          ∙ one_more (segment_to c.args.key) c.args.out.now.segments c.loop-i.i c.packet-packet.result.now c.args.sent.now.items at),
      all_more AreBytes c.args.out.now.segments c.loop-i.i c.packet-packet.result.now c.loop-i.invariant.1 at c.fit.ensures,
    )

pub returns-clause-bytes : goal.returns-clause-bytes
returns-clause-bytes c =
    let past : length c.args.out.now.segments ≤ c.loop-i.i = search rules in
    subst (AllByRecursion AreBytes) (take_all c.loop-i.i c.args.out.now.segments past) c.loop-i.invariant.1
