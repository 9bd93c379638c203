use Rattle.std.proofs.Common.{sym, subst}
use Rattle.logger_wire.specs.Value.{message_of}
use Rattle.ft_model.specs.Node.{Stage}
use Rattle.plain_world.specs.Served.{IsFetchedOf}
use Rattle.plain_world.specs.Values.{node_of}
use Rattle.plain_world.proofs.Fetched.{lens_are_short, taken, not_taken, still_fetched}
use Rattle.plain_world.proofs.Fetches.{dropped, fetched_turns}
use Rattle.plain_world.proofs.fetching.take_answer.Goals as goal

pub take-requires : goal.take-requires
take-requires g c = lens_are_short c.args.msg.now c.requires.read

pub returns-then-not-branch-clause-turn : goal.returns-then-not-branch-clause-turn
returns-then-not-branch-clause-turn g c =
    let same = not_taken _ c.args.fetched.now c.take.new.self c.in_ok-take.field-0 c.in_ok-take.ensures c.if-not-branch.true in
    λ (stage : Stage).
    rw same.1 (dropped _ (node_of c.args.who stage) (message_of c.args.msg.now) c.args.count c.args.fetched.now c.args.sent.now c.if-msg-who.false same.0)

pub returns-then-not-branch-clause-served : goal.returns-then-not-branch-clause-served
returns-then-not-branch-clause-served g c =
    let same = not_taken _ c.args.fetched.now c.take.new.self c.in_ok-take.field-0 c.in_ok-take.ensures c.if-not-branch.true in
    subst (IsFetchedOf c.args.count) (sym same.1) c.requires.fetched

pub proceed-requires : goal.proceed-requires
proceed-requires g c =
    still_fetched c.args.count _ c.args.fetched.now c.take.new.self c.requires.fetched
    (taken _ c.args.fetched.now c.take.new.self c.in_ok-take.field-0 c.in_ok-take.ensures c.if-not-branch.false)

pub returns-clause-turn : goal.returns-clause-turn
returns-clause-turn g c =
    fetched_turns _ c.args.who (message_of c.args.msg.now) c.args.count c.args.fetched.now c.take.new.self c.proceed.new.fetched c.proceed.result c.args.sent.now c.proceed.new.sent
    c.if-msg-who.false (taken _ c.args.fetched.now c.take.new.self c.in_ok-take.field-0 c.in_ok-take.ensures c.if-not-branch.false) c.proceed.ensures.turn
