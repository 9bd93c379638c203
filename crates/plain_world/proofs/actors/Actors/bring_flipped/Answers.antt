use Rattle.std.proofs.Common.{ap, subst, refl}
use Rattle.std.proofs.lemmas.Result.{on_ok_weaker}
use Rattle.ft_model.specs.Legal.{machines}
use Rattle.ft_model.specs.Node.Input.{Noise_comes}
use Rattle.plain_world.specs.Turns.{Serves}
use Rattle.plain_world.proofs.Reaching.{noise_to_server, noise_from_logger, noise_to_client, noise_to_logger}
use Rattle.plain_world.proofs.actors.Actors.bring_flipped.Goals as goal

pub returns-in-ToServer : goal.returns-in-ToServer
returns-in-ToServer g c =
    let service = machines g.S.Service.started g.S.Service.after g.S.Service.greeting in
    on_ok_weaker c.serve.result
    (λ serves. noise_to_server service c.args.wire.now c.args.self.now _ c.args.sent.now c.serve.new.sent c.in-ToServer.field-0 c.in-ToServer.ensures.from
    (ap (λ a. a.clients) c.self.view_is) (ap (λ a. a.log) c.self.view_is)
    (subst (λ n. Serves service Noise_comes n c.serve.new.node c.args.sent.now c.serve.new.sent) (ap (λ a. a.node) c.self.view_is) serves))
    c.serve.ensures

pub returns-in-FromLogger : goal.returns-in-FromLogger
returns-in-FromLogger g c =
    let service = machines g.S.Service.started g.S.Service.after g.S.Service.greeting in
    on_ok_weaker c.serve-in-FromLogger.result
    (λ serves. noise_from_logger service c.args.wire.now c.args.self.now _ c.args.sent.now c.serve-in-FromLogger.new.sent c.in-FromLogger.ensures.from
    (ap (λ a. a.clients) c.self.view_is) (ap (λ a. a.log) c.self.view_is)
    (subst (λ n. Serves service Noise_comes n c.serve-in-FromLogger.new.node c.args.sent.now c.serve-in-FromLogger.new.sent) (ap (λ a. a.node) c.self.view_is) serves))
    c.serve-in-FromLogger.ensures

pub returns-in-ToClient : goal.returns-in-ToClient
returns-in-ToClient g c =
    noise_to_client (machines g.S.Service.started g.S.Service.after g.S.Service.greeting) c.args.wire.now c.args.self.now c.args.self.now c.args.sent.now c.args.sent.now c.in-ToClient.field-0 c.in-ToClient.ensures.to
    refl c.requires.served refl

pub returns-in-ToLogger : goal.returns-in-ToLogger
returns-in-ToLogger g c =
    noise_to_logger (machines g.S.Service.started g.S.Service.after g.S.Service.greeting) c.args.wire.now c.args.self.now c.args.self.now c.args.sent.now c.args.sent.now c.in-ToLogger.ensures.to refl c.requires.served refl
