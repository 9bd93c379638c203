use Rattle.std.proofs.lemmas.Result.{on_ok_weaker}
use Rattle.node_serving.specs.Markers.{saving}
use Rattle.net_schedule.proofs.Brought.{to_client, to_server, answer_to_server, to_logger, to_tail, to_head}
use Rattle.net_schedule.proofs.world.World.bring.Goals as goal

pub returns-in-ServerToClient : goal.returns-in-ServerToClient
returns-in-ServerToClient g c =
    on_ok_weaker c.deliver_to_client.result
    (to_client (saving g.S.Saved.form g.S.Saved.state_of g.S.Saved.is_savable) c.args.self.now c.deliver_to_client.new.self c.args.way c.args.bytes.now c.in-ServerToClient.number c.in-ServerToClient.is) c.deliver_to_client.ensures

pub returns-in-ClientToServer : goal.returns-in-ClientToServer
returns-in-ClientToServer g c =
    on_ok_weaker c.serve.result (to_server (saving g.S.Saved.form g.S.Saved.state_of g.S.Saved.is_savable) c.args.self.now c.serve.new.self c.args.way c.args.bytes.now c.in-ClientToServer.field-0 c.in-ClientToServer.is) c.serve.ensures

pub returns-in-LoggerToServer : goal.returns-in-LoggerToServer
returns-in-LoggerToServer g c =
    on_ok_weaker c.serve-in-LoggerToServer.result
    (answer_to_server (saving g.S.Saved.form g.S.Saved.state_of g.S.Saved.is_savable) c.args.self.now c.serve-in-LoggerToServer.new.self c.args.way c.args.bytes.now c.in-LoggerToServer.is) c.serve-in-LoggerToServer.ensures

pub returns-in-ServerToLogger : goal.returns-in-ServerToLogger
returns-in-ServerToLogger g c =
    on_ok_weaker c.deliver_to_logger.result (to_logger (saving g.S.Saved.form g.S.Saved.state_of g.S.Saved.is_savable) c.args.self.now c.deliver_to_logger.new.self c.args.way c.args.bytes.now c.in-ServerToLogger.is) c.deliver_to_logger.ensures

pub returns-in-HeadToTail : goal.returns-in-HeadToTail
returns-in-HeadToTail g c =
    on_ok_weaker c.deliver_to_logger-in-HeadToTail.result
    (to_tail (saving g.S.Saved.form g.S.Saved.state_of g.S.Saved.is_savable) c.args.self.now c.deliver_to_logger-in-HeadToTail.new.self c.args.way c.args.bytes.now c.in-HeadToTail.is) c.deliver_to_logger-in-HeadToTail.ensures

pub returns-in-TailToHead : goal.returns-in-TailToHead
returns-in-TailToHead g c =
    on_ok_weaker c.deliver_to_logger-in-TailToHead.result
    (to_head (saving g.S.Saved.form g.S.Saved.state_of g.S.Saved.is_savable) c.args.self.now c.deliver_to_logger-in-TailToHead.new.self c.args.way c.args.bytes.now c.in-TailToHead.is) c.deliver_to_logger-in-TailToHead.ensures
