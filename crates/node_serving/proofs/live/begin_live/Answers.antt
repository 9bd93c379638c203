use Rattle.std.proofs.Common.{rules, refl, subst}
use Rattle.server_trait.specs.Service.{machine}
use Rattle.tcp_rules.specs.Profiles.{profile_of}
use Rattle.ft_model.specs.News.News.{Begins as Becomes_live}
use Rattle.ft_model.specs.Opening.{point_opened}
use Rattle.connection_laws.specs.FirstSyn.{MayOpen}
use Rattle.wrapped_conn.specs.Turn.{Starts}
use Rattle.node_serving.specs.Conn.{IsSound}
use Rattle.node_serving.specs.Identity.{grammar_in}
use Rattle.node_serving.specs.Slots.{numbers_of}
use Rattle.node_serving.proofs.Turned.{goes}
use Rattle.wrapped_conn.proofs.Sendable.{FitsKey}
use Rattle.node_serving.proofs.Acting.{first_acts}
use Rattle.node_serving.proofs.Whose.{first_belongs, first_own}
use Rattle.node_serving.proofs.live.begin_live.Goals as goal

pub returns-clause-turn : goal.returns-clause-turn
unfolding IsSound
returns-clause-turn g c =
    let service = machine (g.S.Service.started c.args.who.kind) g.S.Service.after g.S.Service.greeting in
    let numbers = numbers_of c.args.key c.args.numbers in
    let may : MayOpen numbers = record { least = c.requires.least; most = c.requires.most; cisn = search rules; sisn = search rules } in
    let started = subst (λ old. Starts g.S.Service.after old c.start.new.self c.start.new.out.segments c.start.new.out.messages) c.in_ok-conn.ensures.state c.in_default.ensures.turn in
    goes (grammar_in c.args.who) service c.args.who.local c.args.who.boot Becomes_live (point_opened (profile_of c.args.who.profile) c.args.numbers.timestamping numbers) c.start.new.self c.args.key c.start.new.out.segments c.start.new.out.messages c.args.turn.now.sent.items c.send_all.new.turn.sent.items refl
    c.in_default-send_all.ensures.sent
    (first_acts service (profile_of c.args.who.profile) c.args.numbers.timestamping c.args.who.local c.args.who.boot numbers c.start.new.self c.start.new.out.segments c.start.new.out.messages
    (record {
      at = (search rules, search rules);
      up = search rules;
      client = record { ip = search rules; port = search rules };
      sent = c.in_default-send_all.ensures.segments;
      reported = c.in_default-send_all.ensures.messages;
    }) may c.fit_echo.ensures c.in_default.ensures.sound started)

pub returns-clause-alone : goal.returns-clause-alone
returns-clause-alone g c =
    let fits : FitsKey c.args.key = record { ip = search rules; port = search rules } in
    let numbers = numbers_of c.args.key c.args.numbers in
    let started = subst (λ old. Starts g.S.Service.after old c.start.new.self c.start.new.out.segments c.start.new.out.messages) c.in_ok-conn.ensures.state c.in_default.ensures.turn in
    first_own g.S.Service.after (profile_of c.args.who.profile) c.args.numbers.timestamping c.args.who.boot c.args.who.local numbers (g.S.Service.started c.args.who.kind) (g.S.Service.greeting (g.S.Service.started c.args.who.kind)) c.start.new.self c.start.new.out.segments c.start.new.out.messages c.args.turn.now.sent.items c.send_all.new.turn.sent.items fits started
    c.in_default-send_all.ensures.sent

pub returns-clause-sound : goal.returns-clause-sound
unfolding IsSound
returns-clause-sound g c =
    let numbers = numbers_of c.args.key c.args.numbers in
    let service = machine (g.S.Service.started c.args.who.kind) g.S.Service.after g.S.Service.greeting in
    let started = subst (λ old. Starts g.S.Service.after old c.start.new.self c.start.new.out.segments c.start.new.out.messages) c.in_ok-conn.ensures.state c.in_default.ensures.turn in
    first_belongs service c.args.numbers.timestamping c.args.who c.args.who.local numbers c.start.new.self c.start.new.out.segments c.start.new.out.messages started c.in_default.ensures.sound
