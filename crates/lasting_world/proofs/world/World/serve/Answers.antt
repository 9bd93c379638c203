use Rattle.std.proofs.Common.{ap, refl, option_map}
use Rattle.std.proofs.lemmas.Result.{on_ok_weaker}
use Rattle.tcp_rules.specs.Profile.{grammar_of}
use Rattle.tcp_rules.specs.Profiles.{profile_of}
use Rattle.lasting_node.specs.Turns.{lasting_input_of}
use Rattle.lasting_world.specs.WorldView.{kept, server_of, service_of}
use Rattle.lasting_world.proofs.Served.{rests, served, never_fenced}
use Rattle.lasting_world.proofs.world.World.serve.Goals as goal

pub returns-in_default : goal.returns-in_default
returns-in_default g c =
    let w = c.args.self.now in
    rests (service_of w) (lasting_input_of (grammar_of (profile_of w.around.profile)) c.args.input) (kept w) (ap (option_map server_of) c.in_default.is)

pub returns-in-Ok : goal.returns-in-Ok
returns-in-Ok g c =
    let w = c.args.self.now in
    on_ok_weaker c.keep_sent.result
    (λ stored. served g.S.Service (λ grammar. lasting_input_of grammar c.args.input) c.in-Some.node (kept w) (ap (option_map server_of) c.in-Some.is) c.turn.new.self _ (kept c.keep_sent.new.self)
    refl c.turn.ensures.same.0 c.turn.ensures.same.1 c.in-Ok.ensures.turn stored) c.keep_sent.ensures

pub returns-in-Err-Fenced : goal.returns-in-Err-Fenced
returns-in-Err-Fenced g c =
    let w = c.args.self.now in
    never_fenced g.S.Service (λ grammar. lasting_input_of grammar c.args.input) c.in-Some.node (kept w) (ap (option_map server_of) c.in-Some.is) _ _
    (rw c.in-Err-Fenced.field-0-is at c.in-Err-Fenced.ensures.fenced)
