use Rattle.std.proofs.Common.{◌∙◌, ap, sym, subst, refl, Result, Ok, Err, OnOk, option_map, option_to_list}
use Rattle.std.proofs.lemmas.Result.{on_ok_weaker}
use Rattle.seq_arith.specs.PacketGrammar as segments
use Rattle.seq_arith.specs.declared.kinds.Grammar.TheVariants.{Wide}
use Rattle.seq_arith.specs.MessageGrammar as messages
use Rattle.segment_codec.specs.Value.{segment_of}
use Rattle.logger_wire.specs.Value.{message_of}
use Rattle.ft_model.specs.Client.{received}
use Rattle.ft_model.specs.Legal.{machines}
use Rattle.ft_model.specs.Log.{log_after, answer_to}
use Rattle.ft_model.specs.Node.Input.{Packet_comes, Message_comes}
use Rattle.ft_model.specs.World.{with_client}
use Rattle.ft_model.specs.Network.Packet.{From_logger}
use Rattle.plain_packets.specs.Sent.{Appends}
use Rattle.plain_world.specs.Turns.{Serves}
use Rattle.plain_world.proofs.Reaching.{to_server, to_client, to_logger, from_logger, no_segment_from, no_segment_to, no_message_from, no_message_to}
use Rattle.plain_world.proofs.actors.Actors.bring.Goals as goal

both_ok : {A E : Type 0} (P Q : Type 0) (r : Result A E) → OnOk r P → OnOk r Q → OnOk r (P × Q)
both_ok P Q (Ok x) p q = (p, q)
both_ok P Q (Err e) p q = tt

pub returns-in-Ok : goal.returns-in-Ok
returns-in-Ok g c =
    let service = machines g.S.Service.started g.S.Service.after g.S.Service.greeting in
    let segment = segment_of c.in-Ok.segment in
    on_ok_weaker c.serve.result
    (λ serves. to_server service c.args.wire.now c.args.self.now _ c.args.sent.now c.serve.new.sent c.in-ToServer.field-0 segment c.in-ToServer.ensures.from
    (ap segments.reading (sym c.bytes-bytes.ensures) ∙ sym c.in-Ok.ensures)
    (ap (λ a. a.clients) c.self.view_is) (ap (λ a. a.log) c.self.view_is)
    (subst (λ n. Serves service (Packet_comes segment) n c.serve.new.node c.args.sent.now c.serve.new.sent) (ap (λ a. a.node) c.self.view_is) serves))
    c.serve.ensures

pub returns-in-Err : goal.returns-in-Err
returns-in-Err g c =
    no_segment_from (machines g.S.Service.started g.S.Service.after g.S.Service.greeting) c.args.wire.now c.args.self.now c.args.self.now c.args.sent.now c.args.sent.now c.in-ToServer.field-0 c.in-Err.field-0
    c.in-ToServer.ensures.from (ap segments.reading (sym c.bytes-bytes.ensures) ∙ sym c.in-Err.ensures) refl c.requires.served

pub returns-in-Ok-read_packet : goal.returns-in-Ok-read_packet
returns-in-Ok-read_packet g c =
    let service = machines g.S.Service.started g.S.Service.after g.S.Service.greeting in
    let segment = segment_of c.in-Ok-read_packet.segment in
    on_ok_weaker c.receive.result
    (λ now. to_client service c.args.wire.now c.args.self.now _ c.args.sent.now c.args.sent.now c.in-ToClient.key segment c.in-ToClient.ensures.to
    (ap segments.reading (sym c.bytes-bytes.ensures) ∙ sym c.in-Ok-read_packet.ensures)
    (now ∙ ap (λ a. with_client c.in-ToClient.key (λ x. received x segment) a.clients) c.self.view_is) (ap (λ a. a.log) c.self.view_is) (ap (λ a. a.node) c.self.view_is) c.requires.served refl)
    c.receive.ensures

pub returns-in-Err-read_packet : goal.returns-in-Err-read_packet
returns-in-Err-read_packet g c =
    no_segment_to (machines g.S.Service.started g.S.Service.after g.S.Service.greeting) c.args.wire.now c.args.self.now c.args.self.now c.args.sent.now c.args.sent.now c.in-ToClient.key c.in-Err-read_packet.field-0
    c.in-ToClient.ensures.to (ap segments.reading (sym c.bytes-bytes.ensures) ∙ sym c.in-Err-read_packet.ensures) refl c.requires.served

pub returns-in-Ok-read_wide_msg : goal.returns-in-Ok-read_wide_msg
returns-in-Ok-read_wide_msg g c =
    let service = machines g.S.Service.started g.S.Service.after g.S.Service.greeting in
    let message = message_of c.in-Ok-read_wide_msg.msg in
    on_ok_weaker c.deliver_to_log.result
    (λ both. to_logger service c.args.wire.now c.args.self.now _ c.args.sent.now c.deliver_to_log.new.sent message c.in-ToLogger.ensures.to
    (ap (messages.reading_by Wide) (sym c.bytes-bytes.ensures) ∙ sym c.in-Ok-read_wide_msg.ensures.value)
    (both.0 ∙ ap (λ a. log_after a.log message) c.self.view_is) (ap (λ a. a.clients) c.self.view_is) (ap (λ a. a.node) c.self.view_is) c.requires.served
    (subst (λ a. Appends c.args.sent.now c.deliver_to_log.new.sent (option_to_list (option_map From_logger (answer_to a.log message)))) c.self.view_is both.1))
    (both_ok _ _ c.deliver_to_log.result c.deliver_to_log.ensures.log c.deliver_to_log.ensures.answer)

pub returns-in-Err-read_wide_msg : goal.returns-in-Err-read_wide_msg
returns-in-Err-read_wide_msg g c =
    no_message_to (machines g.S.Service.started g.S.Service.after g.S.Service.greeting) c.args.wire.now c.args.self.now c.args.self.now c.args.sent.now c.args.sent.now c.in-Err-read_wide_msg.field-0
    c.in-ToLogger.ensures.to (ap (messages.reading_by Wide) (sym c.bytes-bytes.ensures) ∙ sym c.in-Err-read_wide_msg.ensures.value) refl c.requires.served

pub returns-in-Ok-read_wide_msg-2 : goal.returns-in-Ok-read_wide_msg-2
returns-in-Ok-read_wide_msg-2 g c =
    let service = machines g.S.Service.started g.S.Service.after g.S.Service.greeting in
    let message = message_of c.in-Ok-read_wide_msg-2.msg in
    on_ok_weaker c.serve-in-Ok-read_wide_msg-2.result
    (λ serves. from_logger service c.args.wire.now c.args.self.now _ c.args.sent.now c.serve-in-Ok-read_wide_msg-2.new.sent message c.in-FromLogger.ensures.from
    (ap (messages.reading_by Wide) (sym c.bytes-bytes.ensures) ∙ sym c.in-Ok-read_wide_msg-2.ensures.value)
    (ap (λ a. a.clients) c.self.view_is) (ap (λ a. a.log) c.self.view_is)
    (subst (λ n. Serves service (Message_comes message) n c.serve-in-Ok-read_wide_msg-2.new.node c.args.sent.now c.serve-in-Ok-read_wide_msg-2.new.sent) (ap (λ a. a.node) c.self.view_is) serves))
    c.serve-in-Ok-read_wide_msg-2.ensures

pub returns-in-Err-read_wide_msg-2 : goal.returns-in-Err-read_wide_msg-2
returns-in-Err-read_wide_msg-2 g c =
    no_message_from (machines g.S.Service.started g.S.Service.after g.S.Service.greeting) c.args.wire.now c.args.self.now c.args.self.now c.args.sent.now c.args.sent.now c.in-Err-read_wide_msg-2.field-0
    c.in-FromLogger.ensures.from (ap (messages.reading_by Wide) (sym c.bytes-bytes.ensures) ∙ sym c.in-Err-read_wide_msg-2.ensures.value) refl c.requires.served
