use Rattle.std.proofs.Common.{◌≡◌, ◌∙◌, sym, ap, subst, Some}
use Rattle.std.proofs.lemmas.Result.{on_ok_weaker}
use Rattle.ft_model.specs.Wire.Party.{A_client, The_logger}
use Rattle.ft_model.specs.declared.way.Way.TheVariants.{ServerToClient, ServerToLogger}
use Rattle.node_serving.specs.SentBytes.{party_of}
use Rattle.lasting_world.specs.Around.{Adds, AddsMessage, kept_around}
use Rattle.lasting_world.specs.Guests.{last_come}
use Rattle.lasting_world.proofs.StoredWires.{to_client_stored, to_logger_stored}
use Rattle.lasting_world.proofs.sending.store.Goals as goal

pub returns-in-Client : goal.returns-in-Client
returns-in-Client c =
    let before = kept_around c.args.around.now in
    let after = kept_around c.send_to_client.new.self in
    let key = c.in-Client.key in
    let to : A_client key ≡ c.args.packet.now.to = sym (ap party_of c.in-Client.is) ∙ c.to.ensures in
    on_ok_weaker c.send_to_client.result
    (λ a. to_client_stored key c.args.packet.now before after c.sent_by_server.ensures to
    (subst (λ b. Adds (ServerToClient (last_come 1 key 0 before.guests)) (Some key) b before after) c.bytes.ensures a)) c.send_to_client.ensures

pub returns-in-Logger : goal.returns-in-Logger
returns-in-Logger c =
    let before = kept_around c.args.around.now in
    let after = kept_around c.send_message.new.self in
    let to : The_logger ≡ c.args.packet.now.to = sym (ap party_of c.in-Logger.is) ∙ c.to.ensures in
    on_ok_weaker c.send_message.result
    (λ a. to_logger_stored c.args.packet.now before after c.sent_by_server.ensures to (subst (λ b. AddsMessage ServerToLogger b before after) c.bytes-in-Logger.ensures a)) c.send_message.ensures
