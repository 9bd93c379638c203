use Rattle.std.proofs.Common.{rules, ◌<◌, ◌^◌, sym, subst, ap}
use Rattle.server_trait.specs.Service.{machine}
use Rattle.ft_model.specs.News.News.{Begins as Becomes_live}
use Rattle.wrapped_conn.specs.LoggerMessages.{grammar_by}
use Rattle.wrapped_conn.proofs.Sendable.{FitsKey}
use Rattle.node_serving.specs.Conn.{IsSound}
use Rattle.node_serving.specs.Identity.{grammar_in}
use Rattle.node_serving.proofs.Turned.{goes, all_ok, at_ok}
use Rattle.node_serving.proofs.StartKeeps.{number_kept, delta_kept}
use Rattle.node_serving.proofs.Acting.{start_acts, starts_same}
use Rattle.node_serving.proofs.Whose.{belongs_on, leaves_for, starts_own}
use Rattle.node_serving.proofs.live.start_live.Goals as goal

pub returns-clause-turn : goal.returns-clause-turn
unfolding IsSound
returns-clause-turn g c =
    let service = machine (g.S.Service.started c.args.who.kind) g.S.Service.after g.S.Service.greeting in
    let ip : c.args.who.local.ip < 2 ^ 32 = search rules in
    let port : c.args.who.local.port < 2 ^ 16 = search rules in
    let boot : c.args.who.boot < 2 ^ 64 = search rules in
    let fits : FitsKey c.args.key = record { ip = search rules; port = search rules } in
    let sound = rw c.in_ok-start.was at c.start.ensures.sound in
    let reported = rw c.in_ok-start.was at c.start.ensures.turn in
    all_ok c.send_all.result c.send_all.ensures.sent c.send_all.ensures.segments c.send_all.ensures.messages
    (λ sent segments messages p key st.
    goes (grammar_in c.args.who) service c.args.who.local c.args.who.boot Becomes_live p c.start.new.self c.args.key c.start.new.out.segments c.start.new.out.messages c.args.turn.now.sent.items c.send_all.new.turn.sent.items key sent
    (start_acts (grammar_in c.args.who) service c.args.who.local c.args.who.boot p c.args.conn.now c.start.new.self c.start.new.out.segments c.start.new.out.messages (record { at = (ip, port); up = boot; client = subst FitsKey (sym key) fits; sent = segments; reported = messages }) c.requires.sound sound reported st (ap grammar_by c.requires.batches)))

pub returns-clause-number : goal.returns-clause-number
returns-clause-number g c =
    let service = machine (g.S.Service.started c.args.who.kind) g.S.Service.after g.S.Service.greeting in
    let reported = rw c.in_ok-start.was at c.start.ensures.turn in
    at_ok c.send_all.result (number_kept service c.args.conn.now c.start.new.self c.start.new.out.segments c.start.new.out.messages reported)

pub returns-clause-delta : goal.returns-clause-delta
returns-clause-delta g c =
    let service = machine (g.S.Service.started c.args.who.kind) g.S.Service.after g.S.Service.greeting in
    let reported = rw c.in_ok-start.was at c.start.ensures.turn in
    at_ok c.send_all.result (delta_kept service c.args.conn.now c.start.new.self c.start.new.out.segments c.start.new.out.messages reported)

pub start-requires-clause-sound : goal.start-requires-clause-sound
unfolding IsSound
start-requires-clause-sound g c = c.requires.sound

pub returns-clause-alone : goal.returns-clause-alone
returns-clause-alone g c =
    let fits : FitsKey c.args.key = record { ip = search rules; port = search rules } in
    let reported = rw c.in_ok-start.was at c.start.ensures.turn in
    all_ok c.send_all.result c.send_all.ensures.sent c.send_all.ensures.segments c.send_all.ensures.messages
    (λ sent segments messages. leaves_for (grammar_in c.args.who) c.args.key c.args.conn.now c.start.new.out.segments c.start.new.out.messages c.args.turn.now.sent.items c.send_all.new.turn.sent.items fits c.requires.client (ap grammar_by c.requires.batches)
    (starts_own g.S.Service.after c.args.conn.now c.start.new.self c.start.new.out.segments c.start.new.out.messages reported) sent)

pub returns-clause-sound : goal.returns-clause-sound
unfolding IsSound
returns-clause-sound g c =
    let sound = rw c.in_ok-start.was at c.start.ensures.sound in
    let reported = rw c.in_ok-start.was at c.start.ensures.turn in
    at_ok c.send_all.result (belongs_on c.args.who c.args.key c.args.conn.now c.start.new.self c.requires
    (starts_same (machine (g.S.Service.started c.args.who.kind) g.S.Service.after g.S.Service.greeting) c.args.conn.now c.start.new.self c.start.new.out.segments c.start.new.out.messages reported) sound)
