use Rattle.std.proofs.Common.{◌≡◌, ◌∙◌, true, false, ◌++◌, append-nil, nat_le, sym, ap}
use Rattle.std.proofs.lemmas.Result.{on_ok_weaker}
use Rattle.lasting_node.specs.Turns.{known_of}
use Rattle.lasting_node.proofs.Due.{none_due, not_due, is_due}
use Rattle.lasting_node.proofs.node.LastingNode.forget_one.Goals as goal

pub returns-in_default-clause-sent : goal.returns-in_default-clause-sent
returns-in_default-clause-sent g c =
    let was = c.args.self.now in
    sym (append-nil was.own.sent.items) ∙ ap (λ ws. was.own.sent.items ++ ws) (sym (none_due was (known_of was c.args.key) (sym c.resting.ensures ∙ c.in_default.is)))

pub returns-then-not-is_leaving-clause-sent : goal.returns-then-not-is_leaving-clause-sent
returns-then-not-is_leaving-clause-sent g c =
    let was = c.args.self.now in
    let stays : nat_le was.patience.wait c.in-Some.resting.age ≡ false = sym c.is_leaving.ensures.age ∙ c.if-not-is_leaving.true in
    sym (append-nil was.own.sent.items) ∙ ap (λ ws. was.own.sent.items ++ ws) (sym (not_due was (known_of was c.args.key) c.in-Some.resting (sym c.resting.ensures ∙ c.in-Some.is) stays))

pub returns-clause-sent : goal.returns-clause-sent
returns-clause-sent g c =
    let was = c.args.self.now in
    let leaves : nat_le was.patience.wait c.in-Some.resting.age ≡ true = sym c.is_leaving.ensures.age ∙ c.if-not-is_leaving.false in
    on_ok_weaker c.send_forget.result
    (λ sent. sent ∙ ap (λ ws. was.own.sent.items ++ ws) (sym (is_due was (known_of was c.args.key) c.in-Some.resting (sym c.resting.ensures ∙ c.in-Some.is) leaves))) c.send_forget.ensures.sent
