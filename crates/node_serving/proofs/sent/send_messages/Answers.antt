use Rattle.std.proofs.Common.{◌≡◌, ◌∙◌, ◌++◌, ◌∷◌, [], Some, ap, subst, slice_get, length, ◌≤◌, rules, take_all}
use Rattle.std.specs.List.{AllByRecursion}
use Rattle.server_trait.specs.Service.{AreBytes}
use Rattle.node_serving.specs.SentBytes.{message_to_logger}
use Rattle.node_serving.proofs.Collecting.{one_more, all_more}
use Rattle.node_serving.proofs.sent.send_messages.Goals as goal

pub loop-i-preserved : goal.loop-i-preserved
loop-i-preserved c =
    let kept : c.send.new.self.items ≡ c.loop-i.sent.items ++ message_to_logger c.message-message.result.now ∷ [] = search rules in
    let at : slice_get c.args.out.now.messages c.loop-i.i ≡ Some c.message-message.result.now = c.message-message.ensures in (
      kept ∙ (ap (λ xs. xs ++ message_to_logger c.message-message.result.now ∷ []) c.loop-i.invariant.0
          ∙ one_more message_to_logger c.args.out.now.messages c.loop-i.i c.message-message.result.now c.args.sent.now.items at),
      all_more AreBytes c.args.out.now.messages c.loop-i.i c.message-message.result.now c.loop-i.invariant.1 at c.fit.ensures,
    )

pub returns-clause-bytes : goal.returns-clause-bytes
returns-clause-bytes c =
    let past : length c.args.out.now.messages ≤ c.loop-i.i = search rules in
    subst (AllByRecursion AreBytes) (take_all c.loop-i.i c.args.out.now.messages past) c.loop-i.invariant.1
