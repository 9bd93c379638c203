use Rattle.std.proofs.Common.{◌≡◌, ◌∙◌, OnOk, IfErr, sym, ap, subst}
use Rattle.std.specs.Prelude.{IsErrOf}
use Rattle.std.proofs.lemmas.Result.{on_ok_weaker}
use Rattle.seq_arith.specs.MessageGrammar.{reading_by}
use Rattle.logger_wire.specs.Value as messages
use Rattle.forget_wire.specs.Value as forgets
use Rattle.ft_model.specs.Node.Input.{Message_comes, Noise_comes}
use Rattle.ft_model.specs.World.{message_or_noise}
use Rattle.node_serving.specs.Identity.{grammar_in}
use Rattle.server_node.specs.declared.input.TurnEnd.TheVariants.{NoMemory}
use Rattle.lasting_laws.specs.LastingTurn.LastingInput.{Usual_comes, Forget_comes}
use Rattle.lasting_node.specs.Turns.{LastingTurns, NodeProceeds, message_said, sent_by, IsUnfencedLasting, IsFenceOfLasting}
use Rattle.lasting_node.proofs.Passing.{noise_passes}
use Rattle.lasting_node.proofs.Reading.{said_forget, said_usual, read_by}
use Rattle.lasting_node.proofs.node.LastingNode.take_message.Goals as goal

-- a message about forgetting
pub returns-in-Ok-clause-turn : goal.returns-in-Ok-clause-turn
returns-in-Ok-clause-turn g c =
    let was = c.args.self.now in
    let said : message_said (grammar_in was.node.who) c.args.bytes.now ≡ Forget_comes (forgets.message_of c.in-Ok.m) =
    said_forget (grammar_in was.node.who) c.args.bytes.now (forgets.message_of c.in-Ok.m) (sym c.read_forget.ensures.value ∙ ap forgets.seen c.in-Ok.is) in
    subst (λ i. LastingTurns i was c.receive_forget.new.self (sent_by c.receive_forget.new.self)) (sym said) c.receive_forget.ensures.turn

pub returns-in-Ok-clause-unfenced : goal.returns-in-Ok-clause-unfenced
returns-in-Ok-clause-unfenced g c =
    let was = c.args.self.now in
    let said : message_said (grammar_in was.node.who) c.args.bytes.now ≡ Forget_comes (forgets.message_of c.in-Ok.m) =
    said_forget (grammar_in was.node.who) c.args.bytes.now (forgets.message_of c.in-Ok.m) (sym c.read_forget.ensures.value ∙ ap forgets.seen c.in-Ok.is) in
    subst (IsUnfencedLasting was.node.who) (sym said) tt

-- a message of the log
pub take_log_message-requires-clause-read : goal.take_log_message-requires-clause-read
take_log_message-requires-clause-read g c =
    read_by (grammar_in c.args.self.now.node.who) c.grammar.result c.args.bytes.now (messages.seen c.read_msg_by.result) (c.grammar.ensures ∙ ap grammar_in c.who.ensures) c.read_msg_by.ensures.value
    ∙ ap messages.seen c.in-Ok-read_msg_by.is

pub returns-in-Ok-read_msg_by-clause-turn : goal.returns-in-Ok-read_msg_by-clause-turn
returns-in-Ok-read_msg_by-clause-turn g c =
    let was = c.args.self.now in
    let said : message_said (grammar_in was.node.who) c.args.bytes.now ≡ Usual_comes (Message_comes (messages.message_of c.in-Ok-read_msg_by.m)) =
    said_usual (grammar_in was.node.who) c.args.bytes.now _ (sym c.read_forget.ensures.value ∙ ap forgets.seen c.in_default.is) ∙ ap (λ r. Usual_comes (message_or_noise r)) (read_by (grammar_in was.node.who) c.grammar.result c.args.bytes.now (messages.seen c.read_msg_by.result) (c.grammar.ensures ∙ ap grammar_in c.who.ensures) c.read_msg_by.ensures.value ∙ ap messages.seen c.in-Ok-read_msg_by.is) in
    subst (λ i. OnOk c.take_log_message.result (LastingTurns i was c.take_log_message.new.self (sent_by c.take_log_message.new.self))) (sym said) c.take_log_message.ensures.turn

pub returns-in-Ok-read_msg_by-clause-unfenced : goal.returns-in-Ok-read_msg_by-clause-unfenced
returns-in-Ok-read_msg_by-clause-unfenced g c =
    let was = c.args.self.now in
    let said : message_said (grammar_in was.node.who) c.args.bytes.now ≡ Usual_comes (Message_comes (messages.message_of c.in-Ok-read_msg_by.m)) =
    said_usual (grammar_in was.node.who) c.args.bytes.now _ (sym c.read_forget.ensures.value ∙ ap forgets.seen c.in_default.is) ∙ ap (λ r. Usual_comes (message_or_noise r)) (read_by (grammar_in was.node.who) c.grammar.result c.args.bytes.now (messages.seen c.read_msg_by.result) (c.grammar.ensures ∙ ap grammar_in c.who.ensures) c.read_msg_by.ensures.value ∙ ap messages.seen c.in-Ok-read_msg_by.is) in
    subst (λ i. OnOk c.take_log_message.result (IsUnfencedLasting was.node.who i)) (sym said) c.take_log_message.ensures.unfenced

pub returns-in-Ok-read_msg_by-clause-fenced : goal.returns-in-Ok-read_msg_by-clause-fenced
returns-in-Ok-read_msg_by-clause-fenced g c =
    let was = c.args.self.now in
    let said : message_said (grammar_in was.node.who) c.args.bytes.now ≡ Usual_comes (Message_comes (messages.message_of c.in-Ok-read_msg_by.m)) =
    said_usual (grammar_in was.node.who) c.args.bytes.now _ (sym c.read_forget.ensures.value ∙ ap forgets.seen c.in_default.is) ∙ ap (λ r. Usual_comes (message_or_noise r)) (read_by (grammar_in was.node.who) c.grammar.result c.args.bytes.now (messages.seen c.read_msg_by.result) (c.grammar.ensures ∙ ap grammar_in c.who.ensures) c.read_msg_by.ensures.value ∙ ap messages.seen c.in-Ok-read_msg_by.is) in
    subst (λ i. IfErr c.take_log_message.result (IsFenceOfLasting was.node.who i)) (sym said) c.take_log_message.ensures.fenced

pub returns-in-Ok-read_msg_by-clause-memory : goal.returns-in-Ok-read_msg_by-clause-memory
returns-in-Ok-read_msg_by-clause-memory g c =
    let was = c.args.self.now in
    let said : message_said (grammar_in was.node.who) c.args.bytes.now ≡ Usual_comes (Message_comes (messages.message_of c.in-Ok-read_msg_by.m)) =
    said_usual (grammar_in was.node.who) c.args.bytes.now _ (sym c.read_forget.ensures.value ∙ ap forgets.seen c.in_default.is) ∙ ap (λ r. Usual_comes (message_or_noise r)) (read_by (grammar_in was.node.who) c.grammar.result c.args.bytes.now (messages.seen c.read_msg_by.result) (c.grammar.ensures ∙ ap grammar_in c.who.ensures) c.read_msg_by.ensures.value ∙ ap messages.seen c.in-Ok-read_msg_by.is) in
    subst (λ i. IsErrOf c.take_log_message.result NoMemory → IsUnfencedLasting was.node.who i) (sym said) c.take_log_message.ensures.memory

-- noise
pub returns-in-Err-clause-turn : goal.returns-in-Err-clause-turn
returns-in-Err-clause-turn g c =
    let was = c.args.self.now in
    let said : message_said (grammar_in was.node.who) c.args.bytes.now ≡ Usual_comes (message_or_noise (reading_by (grammar_in was.node.who) c.args.bytes.now)) =
    said_usual (grammar_in was.node.who) c.args.bytes.now _ (sym c.read_forget.ensures.value ∙ ap forgets.seen c.in_default.is) in
    let noise : message_or_noise (reading_by (grammar_in was.node.who) c.args.bytes.now) ≡ Noise_comes = ap message_or_noise (read_by (grammar_in was.node.who) c.grammar.result c.args.bytes.now (messages.seen c.read_msg_by.result) (c.grammar.ensures ∙ ap grammar_in c.who.ensures) c.read_msg_by.ensures.value ∙ ap messages.seen c.in-Err.is) in
    on_ok_weaker c.go.result
    (λ proceeds. subst (λ i. LastingTurns i was c.go.new.self (sent_by c.go.new.self)) (sym (said ∙ ap Usual_comes noise))
    (noise_passes was c.go.new.self c.requires c.go.ensures.alone (subst (λ i. NodeProceeds i was c.go.new.self) noise proceeds))) c.go.ensures.turn

pub returns-in-Err-clause-unfenced : goal.returns-in-Err-clause-unfenced
returns-in-Err-clause-unfenced g c =
    let was = c.args.self.now in
    let said : message_said (grammar_in was.node.who) c.args.bytes.now ≡ Usual_comes (message_or_noise (reading_by (grammar_in was.node.who) c.args.bytes.now)) =
    said_usual (grammar_in was.node.who) c.args.bytes.now _ (sym c.read_forget.ensures.value ∙ ap forgets.seen c.in_default.is) in
    subst (λ i. OnOk c.go.result (IsUnfencedLasting was.node.who i)) (sym said) c.go.ensures.unfenced

pub returns-in-Err-clause-fenced : goal.returns-in-Err-clause-fenced
returns-in-Err-clause-fenced g c =
    let was = c.args.self.now in
    let said : message_said (grammar_in was.node.who) c.args.bytes.now ≡ Usual_comes (message_or_noise (reading_by (grammar_in was.node.who) c.args.bytes.now)) =
    said_usual (grammar_in was.node.who) c.args.bytes.now _ (sym c.read_forget.ensures.value ∙ ap forgets.seen c.in_default.is) in
    subst (λ i. IfErr c.go.result (IsFenceOfLasting was.node.who i)) (sym said) c.go.ensures.fenced

pub returns-in-Err-clause-memory : goal.returns-in-Err-clause-memory
returns-in-Err-clause-memory g c =
    let was = c.args.self.now in
    let said : message_said (grammar_in was.node.who) c.args.bytes.now ≡ Usual_comes (message_or_noise (reading_by (grammar_in was.node.who) c.args.bytes.now)) =
    said_usual (grammar_in was.node.who) c.args.bytes.now _ (sym c.read_forget.ensures.value ∙ ap forgets.seen c.in_default.is) in
    subst (λ i. IsErrOf c.go.result NoMemory → IsUnfencedLasting was.node.who i) (sym said) c.go.ensures.memory
