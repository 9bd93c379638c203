use Rattle.std.proofs.Common.{rules, ◌<◌, ◌^◌, sym, subst, ap}
use Rattle.server_trait.specs.Service.{machine}
use Rattle.ft_model.specs.News.News.{Logged}
use Rattle.wrapped_conn.specs.LoggerMessages.{grammar_by}
use Rattle.wrapped_conn.proofs.Sendable.{FitsKey}
use Rattle.node_serving.specs.Conn.{IsSound}
use Rattle.node_serving.specs.Identity.{grammar_in}
use Rattle.logger_wire.specs.Value.{IsSendableBy}
use Rattle.node_serving.proofs.Turned.{goes, all_ok, at_ok}
use Rattle.node_serving.proofs.Acting.{message_acts, reported_same}
use Rattle.node_serving.proofs.Whose.{belongs_on, leaves_for, reported_own}
use Rattle.node_serving.proofs.live.receive_live.Goals as goal

pub returns-clause-turn : goal.returns-clause-turn
unfolding IsSound
returns-clause-turn g c =
    let service = machine (g.S.Service.started c.args.who.kind) g.S.Service.after g.S.Service.greeting in
    let ip : c.args.who.local.ip < 2 ^ 32 = search rules in
    let port : c.args.who.local.port < 2 ^ 16 = search rules in
    let boot : c.args.who.boot < 2 ^ 64 = search rules in
    let fits : FitsKey c.args.key = record { ip = search rules; port = search rules } in
    let sound = rw c.in_ok-on_msg.was at c.on_msg.ensures.sound in
    let reported = rw c.in_ok-on_msg.was at c.on_msg.ensures.turn in
    all_ok c.send_all.result c.send_all.ensures.sent c.send_all.ensures.segments c.send_all.ensures.messages
    (λ sent segments messages kept log p near key st.
    goes (grammar_in c.args.who) service c.args.who.local c.args.who.boot (Logged kept) p c.on_msg.new.self c.args.key c.on_msg.new.out.segments c.on_msg.new.out.messages c.args.turn.now.sent.items c.send_all.new.turn.sent.items key sent
    (message_acts (grammar_in c.args.who) service c.args.who.local c.args.who.boot p c.args.conn.now c.on_msg.new.self c.args.m.now.body kept c.on_msg.new.out.segments c.on_msg.new.out.messages (record { at = (ip, port); up = boot; client = subst FitsKey (sym key) fits; sent = segments; reported = messages }) c.requires.sound.sound sound log.says reported st (ap grammar_by c.requires.sound.batches)))

pub on_msg-requires-clause-sound : goal.on_msg-requires-clause-sound
unfolding IsSound
on_msg-requires-clause-sound g c = c.requires.sound.sound

pub returns-clause-alone : goal.returns-clause-alone
returns-clause-alone g c =
    let fits : FitsKey c.args.key = record { ip = search rules; port = search rules } in
    let reported = rw c.in_ok-on_msg.was at c.on_msg.ensures.turn in
    all_ok c.send_all.result c.send_all.ensures.sent c.send_all.ensures.segments c.send_all.ensures.messages
    (λ sent segments messages. leaves_for (grammar_in c.args.who) c.args.key c.args.conn.now c.on_msg.new.out.segments c.on_msg.new.out.messages c.args.turn.now.sent.items c.send_all.new.turn.sent.items fits c.requires.sound.client (ap grammar_by c.requires.sound.batches)
    (reported_own g.S.Service.after c.args.m.now.body c.args.conn.now c.on_msg.new.self c.on_msg.new.out.segments c.on_msg.new.out.messages reported) sent)

pub returns-clause-sound : goal.returns-clause-sound
unfolding IsSound
returns-clause-sound g c =
    let sound = rw c.in_ok-on_msg.was at c.on_msg.ensures.sound in
    let reported = rw c.in_ok-on_msg.was at c.on_msg.ensures.turn in
    at_ok c.send_all.result (belongs_on c.args.who c.args.key c.args.conn.now c.on_msg.new.self c.requires.sound
    (reported_same (machine (g.S.Service.started c.args.who.kind) g.S.Service.after g.S.Service.greeting) c.args.m.now.body c.args.conn.now c.on_msg.new.self c.on_msg.new.out.segments c.on_msg.new.out.messages reported) sound)

pub on_msg-requires-clause-sendable : goal.on_msg-requires-clause-sendable
on_msg-requires-clause-sendable g c = subst (λ grammar. IsSendableBy grammar c.args.m.now) (sym (ap grammar_by c.requires.sound.batches)) c.requires.sendable
