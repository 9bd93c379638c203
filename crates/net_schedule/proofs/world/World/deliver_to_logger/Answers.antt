use Rattle.std.proofs.Common.{refl, subst}
use Rattle.std.proofs.lemmas.Result.{on_ok_weaker}
use Rattle.schedule_network.specs.Logs.{ReceivesIn}
use Rattle.net_schedule.proofs.world.World.deliver_to_logger.Goals as goal

pub returns : goal.returns
returns g c =
    on_ok_weaker c.receive.result
    (λ receipt. record {
      is = refl;
      receipt = subst (λ grammar. ReceivesIn grammar c.args.self.now.logs c.args.way c.args.bytes.now c.args.self.now.packets c.receive.new.self c.receive.new.packets) c.grammar.ensures receipt;
    })
    c.receive.ensures
