use Rattle.std.proofs.Common.{Err, ap, ◌≡◌, ◌∙◌, true, false, sym}
use Rattle.logger_wire.specs.Value.{message_of}
use Rattle.long_laws.specs.LongResets.{says_full}
use Rattle.server_node.specs.declared.input.TurnEnd.TheVariants.{NoMemory}
use Rattle.lasting_node.proofs.Reading.{same_error}
use Rattle.lasting_node.proofs.Reported.{received, received_full}
use Rattle.lasting_node.proofs.node.LastingNode.take_log_message.Goals as goal

pub returns-then-not-is_full-clause-turn : goal.returns-then-not-is_full-clause-turn
returns-then-not-is_full-clause-turn g c =
    let message = message_of c.args.m.now in
    let other : says_full message.body ≡ false = sym c.is_full.ensures ∙ c.if-not-is_full.true in
    received c.args.self.now message c.receive.new.self c.in_ok-receive.ensures.receipt other (c.receive.ensures.same.2 ∙ c.requires.own)

pub returns-clause-turn : goal.returns-clause-turn
returns-clause-turn g c =
    let message = message_of c.args.m.now in
    let full : says_full message.body ≡ true = sym c.is_full.ensures ∙ c.if-not-is_full.false in
    received_full c.args.self.now message c.receive.new.self c.send_nothing.new.self c.in_ok-receive.ensures.receipt full c.send_nothing.ensures.same c.send_nothing.ensures.nothing c.send_nothing.ensures.own

pub returns-in_err-receive-clause-memory : goal.returns-in_err-receive-clause-memory
returns-in_err-receive-clause-memory g c = λ is_memory.
    c.receive.ensures.memory (c.in_err-receive.was ∙ ap Err (same_error c.from_residual.result _ NoMemory c.from_residual.ensures.1 is_memory))
