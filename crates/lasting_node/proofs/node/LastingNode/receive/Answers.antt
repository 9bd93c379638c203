use Rattle.std.proofs.lemmas.Bool.{ne_eqb}
use Rattle.std.proofs.Common.{eq-eqb, ◌≡◌, ◌∙◌, true, false, not, ◌==◌, Err, sym, ap, subst}
use Rattle.ft_io.proofs.Outcomes.{of_error}
use Rattle.seq_arith.specs.MessageGrammar.{reading_by}
use Rattle.node_serving.specs.Identity.{grammar_in}
use Rattle.logger_wire.specs.Value.{message_of}
use Rattle.ft_model.specs.World.{message_or_noise}
use Rattle.server_node.specs.StageTurns.{IsUnfenced, IsFenceOf}
use Rattle.lasting_node.specs.Turns.{NodeProceeds}
use Rattle.server_node.specs.declared.input.TurnEnd.TheVariants.{NoMemory}
use Rattle.lasting_node.proofs.Reading.{same_error}
use Rattle.lasting_node.proofs.Reported.{received_other, received_own}
use Rattle.lasting_node.proofs.node.LastingNode.receive.Goals as goal

-- a message of another boot
pub returns-then-m-who-clause-receipt : goal.returns-then-m-who-clause-receipt
returns-then-m-who-clause-receipt g c =
    let was = c.args.self.now in
    let message = message_of c.args.m.now in
    let other : (c.args.m.now.boot == c.go.new.self.node.who.boot) ≡ false = ap (λ w. c.args.m.now.boot == w.boot) (sym c.who.ensures) ∙ ne_eqb c.args.m.now.boot c.who.result.boot c.if-m-who.true in
    received_other was message c.go.new.self c.ended_by-ends.result c.ended_by-ends.ensures (ap (λ w. c.args.m.now.boot == w.boot) (sym c.go.ensures.alone.who) ∙ other)
    (subst (λ r. NodeProceeds (message_or_noise r) was c.go.new.self) c.requires c.in_ok-go.ensures.turn) c.go.ensures.alone

pub returns-then-m-who-clause-unfenced : goal.returns-then-m-who-clause-unfenced
returns-then-m-who-clause-unfenced g c = subst (λ r. IsUnfenced c.args.self.now.node.who (message_or_noise r)) c.requires c.in_ok-go.ensures.unfenced

-- .. and one of its own
pub returns-clause-receipt : goal.returns-clause-receipt
returns-clause-receipt g c =
    let was = c.args.self.now in
    let message = message_of c.args.m.now in
    let own : (c.args.m.now.boot == c.go.new.self.node.who.boot) ≡ true = ap (λ w. c.args.m.now.boot == w.boot) (sym c.who.ensures) ∙ eq-eqb c.args.m.now.boot c.who.result.boot c.if-m-who.false in
    received_own was message c.go.new.self c.note.new.self c.ended_by-ends.result (not c.is_serving-restarts.result) c.ended_by-ends.ensures (ap not c.is_serving-restarts.ensures)
    (ap (λ w. c.args.m.now.boot == w.boot) (sym c.go.ensures.alone.who) ∙ own) (subst (λ r. NodeProceeds (message_or_noise r) was c.go.new.self) c.requires c.in_ok-go.ensures.turn) c.go.ensures.alone
    c.in_ok-note.ensures.notes c.note.ensures.only

pub returns-clause-unfenced : goal.returns-clause-unfenced
returns-clause-unfenced g c = subst (λ r. IsUnfenced c.args.self.now.node.who (message_or_noise r)) c.requires c.in_ok-go.ensures.unfenced

-- errors
pub returns-in_err-go-clause-fenced : goal.returns-in_err-go-clause-fenced
returns-in_err-go-clause-fenced g c =
    of_error c.from_residual.result c.from_residual.ensures.1
    (λ end is. subst (λ r. IsFenceOf c.args.self.now.node.who (message_or_noise r) end) c.requires
    (subst (IsFenceOf c.args.self.now.node.who (message_or_noise (reading_by (grammar_in c.args.self.now.node.who) c.args.bytes.now))) (sym is) c.in_err-go.ensures.fenced))

pub returns-in_err-go-clause-memory : goal.returns-in_err-go-clause-memory
returns-in_err-go-clause-memory g c = λ is_memory.
    subst (λ r. IsUnfenced c.args.self.now.node.who (message_or_noise r)) c.requires
    (c.go.ensures.memory (c.in_err-go.was ∙ ap Err (same_error c.from_residual.result _ NoMemory c.from_residual.ensures.1 is_memory)))

pub returns-in_err-note-clause-memory : goal.returns-in_err-note-clause-memory
returns-in_err-note-clause-memory g c = λ is_memory. subst (λ r. IsUnfenced c.args.self.now.node.who (message_or_noise r)) c.requires c.in_ok-go.ensures.unfenced
