use Rattle.std.proofs.Common.{rules, ◌<◌, ◌^◌, sym, subst, ap}
use Rattle.server_trait.specs.Service.{machine}
use Rattle.ft_model.specs.News.News.{Ticks}
use Rattle.wrapped_conn.specs.LoggerMessages.{grammar_by}
use Rattle.wrapped_conn.proofs.Sendable.{FitsKey}
use Rattle.node_serving.specs.Conn.{IsSound}
use Rattle.node_serving.specs.Identity.{grammar_in}
use Rattle.node_serving.proofs.Turned.{goes, all_ok, at_ok}
use Rattle.node_serving.proofs.Acting.{tick_acts, ticks_same}
use Rattle.node_serving.proofs.Whose.{belongs_on, leaves_for, ticks_own}
use Rattle.node_serving.proofs.live.tick_live.Goals as goal

pub returns-clause-turn : goal.returns-clause-turn
unfolding IsSound
returns-clause-turn g c =
    let service = machine (g.S.Service.started c.args.who.kind) g.S.Service.after g.S.Service.greeting in
    let ip : c.args.who.local.ip < 2 ^ 32 = search rules in
    let port : c.args.who.local.port < 2 ^ 16 = search rules in
    let boot : c.args.who.boot < 2 ^ 64 = search rules in
    let fits : FitsKey c.args.key = record { ip = search rules; port = search rules } in
    all_ok c.send_all.result c.send_all.ensures.sent c.send_all.ensures.segments c.send_all.ensures.messages
    (λ sent segments messages p near key st.
    goes (grammar_in c.args.who) service c.args.who.local c.args.who.boot Ticks p c.on_tick.new.self c.args.key c.on_tick.new.out.segments c.on_tick.new.out.messages c.args.turn.now.sent.items c.send_all.new.turn.sent.items key sent
    (tick_acts (grammar_in c.args.who) service c.args.who.local c.args.who.boot p c.args.conn.now c.on_tick.new.self c.on_tick.new.out.segments c.on_tick.new.out.messages (record { at = (ip, port); up = boot; client = subst FitsKey (sym key) fits; sent = segments; reported = messages }) c.requires.sound c.on_tick.ensures.sound c.on_tick.ensures.turn st (ap grammar_by c.requires.batches)))

pub on_tick-requires-clause-sound : goal.on_tick-requires-clause-sound
unfolding IsSound
on_tick-requires-clause-sound g c = c.requires.sound

pub returns-clause-alone : goal.returns-clause-alone
returns-clause-alone g c =
    let fits : FitsKey c.args.key = record { ip = search rules; port = search rules } in
    all_ok c.send_all.result c.send_all.ensures.sent c.send_all.ensures.segments c.send_all.ensures.messages
    (λ sent segments messages. leaves_for (grammar_in c.args.who) c.args.key c.args.conn.now c.on_tick.new.out.segments c.on_tick.new.out.messages c.args.turn.now.sent.items c.send_all.new.turn.sent.items fits c.requires.client (ap grammar_by c.requires.batches)
    (ticks_own c.args.conn.now c.on_tick.new.self c.on_tick.new.out.segments c.on_tick.new.out.messages c.on_tick.ensures.turn) sent)

pub returns-clause-sound : goal.returns-clause-sound
unfolding IsSound
returns-clause-sound g c =
    at_ok c.send_all.result (belongs_on c.args.who c.args.key c.args.conn.now c.on_tick.new.self c.requires
    (ticks_same c.args.conn.now c.on_tick.new.self c.on_tick.new.out.segments c.on_tick.new.out.messages c.on_tick.ensures.turn) c.on_tick.ensures.sound)
