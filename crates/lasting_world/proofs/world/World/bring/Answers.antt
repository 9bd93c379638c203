use Rattle.std.proofs.Common.{sym, subst, refl}
use Rattle.std.proofs.lemmas.Result.{on_ok_weaker}
use Rattle.ft_model.specs.declared.way.Way.TheVariants.{ServerToClient}
use Rattle.lasting_world.specs.Around.{kept_around}
use Rattle.lasting_world.specs.Steps.{Brings}
use Rattle.lasting_world.specs.WorldView.{kept, service_of}
use Rattle.lasting_world.proofs.Brought.{to_client, to_nobody, to_server, from_logger, to_logger, to_tail, to_head}
use Rattle.lasting_world.proofs.world.World.bring.Goals as goal

pub returns-in-Some : goal.returns-in-Some
returns-in-Some g c =
    let w = c.args.self.now in
    let after = record (kept w) { around = kept_around c.deliver_to_client.new.self } in
    on_ok_weaker c.deliver_to_client.result
    (λ t. subst (λ y. Brings (service_of w) y c.args.about c.args.bytes.now (kept w) after) (sym c.in-ServerToClient.is)
    (subst (λ o. Brings (service_of w) (ServerToClient c.in-ServerToClient.field-0) o c.args.bytes.now (kept w) after) (sym c.in-Some.is)
    (to_client (service_of w) (kept w) after c.args.bytes.now c.in-ServerToClient.field-0 c.in-Some.key refl t))) c.deliver_to_client.ensures

pub returns-in-None : goal.returns-in-None
returns-in-None g c =
    let w = c.args.self.now in
    subst (λ y. Brings (service_of w) y c.args.about c.args.bytes.now (kept w) (kept w)) (sym c.in-ServerToClient.is)
    (subst (λ o. Brings (service_of w) (ServerToClient c.in-ServerToClient.field-0) o c.args.bytes.now (kept w) (kept w)) (sym c.in-None.is)
    (to_nobody (service_of w) (kept w) (kept w) c.args.bytes.now c.in-ServerToClient.field-0))

pub returns-in-ClientToServer : goal.returns-in-ClientToServer
returns-in-ClientToServer g c =
    let w = c.args.self.now in
    on_ok_weaker c.serve.result
    (λ t. subst (λ y. Brings (service_of w) y c.args.about c.args.bytes.now (kept w) (kept c.serve.new.self)) (sym c.in-ClientToServer.is)
    (to_server (service_of w) (kept w) (kept c.serve.new.self) c.args.bytes.now c.in-ClientToServer.field-0 c.args.about t)) c.serve.ensures

pub returns-in-LoggerToServer : goal.returns-in-LoggerToServer
returns-in-LoggerToServer g c =
    let w = c.args.self.now in
    on_ok_weaker c.serve-in-LoggerToServer.result
    (λ t. subst (λ y. Brings (service_of w) y c.args.about c.args.bytes.now (kept w) (kept c.serve-in-LoggerToServer.new.self)) (sym c.in-LoggerToServer.is)
    (from_logger (service_of w) (kept w) (kept c.serve-in-LoggerToServer.new.self) c.args.bytes.now c.args.about t)) c.serve-in-LoggerToServer.ensures

pub returns-in-ServerToLogger : goal.returns-in-ServerToLogger
returns-in-ServerToLogger g c =
    let w = c.args.self.now in
    let after = record (kept w) { around = kept_around c.deliver_to_log.new.self } in
    on_ok_weaker c.deliver_to_log.result
    (λ t. subst (λ y. Brings (service_of w) y c.args.about c.args.bytes.now (kept w) after) (sym c.in-ServerToLogger.is) (to_logger (service_of w) (kept w) after c.args.bytes.now c.args.about refl t))
    c.deliver_to_log.ensures

pub returns-in-HeadToTail : goal.returns-in-HeadToTail
returns-in-HeadToTail g c =
    let w = c.args.self.now in
    subst (λ y. Brings (service_of w) y c.args.about c.args.bytes.now (kept w) (kept w)) (sym c.in-HeadToTail.is) (to_tail (service_of w) (kept w) (kept w) c.args.bytes.now c.args.about)

pub returns-in-TailToHead : goal.returns-in-TailToHead
returns-in-TailToHead g c =
    let w = c.args.self.now in
    subst (λ y. Brings (service_of w) y c.args.about c.args.bytes.now (kept w) (kept w)) (sym c.in-TailToHead.is) (to_head (service_of w) (kept w) (kept w) c.args.bytes.now c.args.about)
