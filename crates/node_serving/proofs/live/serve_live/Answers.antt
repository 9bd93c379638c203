use Rattle.std.proofs.Common.{rules, ℕ, ◌<◌, ◌^◌, slice_index, sym, subst, ap}
use Rattle.server_trait.specs.Service.{machine}
use Rattle.ft_model.specs.News.News.{Comes}
use Rattle.ft_model.proofs.Formed.{bytes_of_all}
use Rattle.wrapped_conn.specs.Turn.{Receives}
use Rattle.wrapped_conn.specs.LoggerMessages.{grammar_by}
use Rattle.wrapped_conn.proofs.Sendable.{FitsKey}
use Rattle.node_serving.specs.Conn.{IsSound}
use Rattle.node_serving.specs.Identity.{grammar_in}
use Rattle.node_serving.proofs.Turned.{goes, all_ok, at_ok}
use Rattle.node_serving.proofs.Acting.{segment_acts, receives_same}
use Rattle.node_serving.proofs.Whose.{belongs_on, leaves_for, receives_own, came_ok}
use Rattle.node_serving.proofs.live.serve_live.Goals as goal

pub returns-clause-turn : goal.returns-clause-turn
unfolding IsSound
returns-clause-turn g c =
    let service = machine (g.S.Service.started c.args.who.kind) g.S.Service.after g.S.Service.greeting in
    let ip : c.args.who.local.ip < 2 ^ 32 = search rules in
    let port : c.args.who.local.port < 2 ^ 16 = search rules in
    let boot : c.args.who.boot < 2 ^ 64 = search rules in
    let fits : FitsKey c.args.key = record { ip = search rules; port = search rules } in
    let small : (i : ℕ) → slice_index c.args.packet.now i < 256 = bytes_of_all c.args.packet.now c.fit.ensures in
    let sound = rw c.in_ok-on_packet.was at c.on_packet.ensures.sound in
    let reported = rw c.in_ok-on_packet.was at c.on_packet.ensures.turn in
    all_ok c.send_all.result c.send_all.ensures.sent c.send_all.ensures.segments c.send_all.ensures.messages
    (λ sent segments messages segment reads p near key st.
    goes (grammar_in c.args.who) service c.args.who.local c.args.who.boot (Comes segment) p c.on_packet.new.self c.args.key c.on_packet.new.out.segments c.on_packet.new.out.messages c.args.turn.now.sent.items c.send_all.new.turn.sent.items key sent
    (segment_acts (grammar_in c.args.who) service c.args.who.local c.args.who.boot p c.args.conn.now c.on_packet.new.self c.args.packet.now segment c.on_packet.new.out.segments c.on_packet.new.out.messages small (record { at = (ip, port); up = boot; client = subst FitsKey (sym key) fits; sent = segments; reported = messages }) c.requires.sound.sound sound reported reads near st (ap grammar_by c.requires.sound.batches)))

pub on_packet-requires-clause-sound : goal.on_packet-requires-clause-sound
unfolding IsSound
on_packet-requires-clause-sound g c = c.requires.sound.sound

pub returns-clause-alone : goal.returns-clause-alone
returns-clause-alone g c =
    let service = machine (g.S.Service.started c.args.who.kind) g.S.Service.after g.S.Service.greeting in
    let fits : FitsKey c.args.key = record { ip = search rules; port = search rules } in
    let reported = came_ok c.args.packet.now (λ segment. Receives g.S.Service.after segment c.args.conn.now c.on_packet.new.self c.on_packet.new.out.segments c.on_packet.new.out.messages) c.requires.accepted
    (rw c.in_ok-on_packet.was at c.on_packet.ensures.turn) in
    all_ok c.send_all.result c.send_all.ensures.sent c.send_all.ensures.segments c.send_all.ensures.messages
    (λ sent segments messages. leaves_for (grammar_in c.args.who) c.args.key c.args.conn.now c.on_packet.new.out.segments c.on_packet.new.out.messages c.args.turn.now.sent.items c.send_all.new.turn.sent.items fits c.requires.sound.client (ap grammar_by c.requires.sound.batches)
    (receives_own service reported.0 c.args.conn.now c.on_packet.new.self c.on_packet.new.out.segments c.on_packet.new.out.messages reported.1) sent)

pub returns-clause-sound : goal.returns-clause-sound
unfolding IsSound
returns-clause-sound g c =
    let service = machine (g.S.Service.started c.args.who.kind) g.S.Service.after g.S.Service.greeting in
    let sound = rw c.in_ok-on_packet.was at c.on_packet.ensures.sound in
    let reported = came_ok c.args.packet.now (λ segment. Receives g.S.Service.after segment c.args.conn.now c.on_packet.new.self c.on_packet.new.out.segments c.on_packet.new.out.messages) c.requires.accepted
    (rw c.in_ok-on_packet.was at c.on_packet.ensures.turn) in
    at_ok c.send_all.result (belongs_on c.args.who c.args.key c.args.conn.now c.on_packet.new.self c.requires.sound
    (receives_same service reported.0 c.args.conn.now c.on_packet.new.self c.on_packet.new.out.segments c.on_packet.new.out.messages reported.1) sound)
