use Rattle.std.proofs.Common.{◌≡◌, ◌∙◌, ◌≤◌, ap, sym, subst, refl, le_refl, Some, option_map, length}
use Rattle.std.proofs.lemmas.Result.{on_ok_weaker}
use Rattle.tcp_rules.specs.Profile.{grammar_of}
use Rattle.tcp_rules.specs.Profiles.{profile_of}
use Rattle.server_node.specs.Inputs.{input_of}
use Rattle.node_serving.specs.Identity.{grammar_in}
use Rattle.node_serving.specs.Markers.{saving}
use Rattle.server_node.specs.MarkedTurns.{marked_input_of}
use Rattle.net_schedule.specs.MarkedTurns.{marker_in}
use Rattle.schedule_network.specs.StoredPackets.{with_wires}
use Rattle.net_schedule.specs.WorldView.{kept, server_of, services_of, service_of}
use Rattle.net_schedule.proofs.Goings.{server_goes_by, server_rests, never_fenced_by}
use Rattle.net_schedule.proofs.MarkedBoot.{serves_marked}
use Rattle.net_schedule.proofs.MarkedServer.{marked_rests, never_marked_fenced_by, fenced_by}
use Rattle.net_schedule.proofs.PacketStore.{wires_grow}
use Rattle.net_schedule.proofs.world.World.serve.Goals as goal

pub returns-in_default : goal.returns-in_default
returns-in_default g c =
    let w = c.args.self.now in
    record {
      continues = record { same_kind = refl; same_profile = refl; grew = le_refl _ };
      moves = λ v st p comes. server_rests (service_of w) (kept w) v (input_of (grammar_of (profile_of w.profile)) c.args.input) st (ap (option_map server_of) c.in_default.is);
      marked = λ savable every v st p comes.
          marked_rests (marker_in (saving g.S.Saved.form g.S.Saved.state_of g.S.Saved.is_savable) every w) (kept w) v (marked_input_of (grammar_of (profile_of w.profile)) c.args.input) st (ap (option_map server_of) c.in_default.is);
    }

pub returns-in-Ok : goal.returns-in-Ok
returns-in-Ok g c =
    let w = c.args.self.now in
    let sent = c.in-Ok.sent.now in
    let turned = rw c.in-Ok.is at c.turn.follows.holds-at-none in
    on_ok_weaker c.keep_sent.result
    (λ stored. let kept_is : c.keep_sent.new.packets ≡ with_wires w.keys.items w.packets sent = stored ∙ ap (λ ks. with_wires ks w.packets sent) c.deref.ensures.value in record {
      continues = record { same_kind = refl; same_profile = refl; grew = subst (λ ps. length w.packets.bytes ≤ length ps.bytes) (sym kept_is) (wires_grow w.keys.items w.packets sent) };
      moves = λ v st p comes.
          server_goes_by (services_of w) (kept w) _ v (λ p. input_of (grammar_of (profile_of p)) c.args.input) (server_of c.in-Some.node) (server_of c.turn.follows.lender-at-none) sent
          st p comes (ap (option_map server_of) c.in-Some.is) turned.0.who turned.0.turn
          (ap (λ ps. record (kept w) { packets = ps; node = Some (server_of c.turn.follows.lender-at-none) }) kept_is);
      marked = λ savable every v st p comes.
          serves_marked g.S.Service (saving g.S.Saved.form g.S.Saved.state_of g.S.Saved.is_savable) every (kept w) _ v (λ p. marked_input_of (grammar_of (profile_of p)) c.args.input) c.in-Some.node c.turn.follows.lender-at-none sent
          savable st p comes (ap (option_map server_of) c.in-Some.is) turned.0.who turned.1
          (ap (λ ps. record (kept w) { packets = ps; node = Some (server_of c.turn.follows.lender-at-none) }) kept_is);
    })
    c.keep_sent.ensures

pub returns-in-Err-Fenced : goal.returns-in-Err-Fenced
returns-in-Err-Fenced g c =
    let w = c.args.self.now in
    record {
      continues = record { same_kind = refl; same_profile = refl; grew = le_refl _ };
      moves = λ v st p comes.
          never_fenced_by (service_of w) (kept w) v (λ p. input_of (grammar_of (profile_of p)) c.args.input) (server_of c.in-Some.node) _ st p comes (ap (option_map server_of) c.in-Some.is)
          (rw c.in-Err-Fenced.field-0-is at c.in-Err-Fenced.ensures.fenced);
      marked = λ savable every v st p comes.
          never_marked_fenced_by (marker_in (saving g.S.Saved.form g.S.Saved.state_of g.S.Saved.is_savable) every w) (kept w) v (λ p. marked_input_of (grammar_of (profile_of p)) c.args.input) (server_of c.in-Some.node) st p comes (ap (option_map server_of) c.in-Some.is)
          (λ node is. fenced_by (grammar_in c.in-Some.node.who) c.in-Some.node.who _ c.args.input node is (rw c.in-Err-Fenced.field-0-is at c.in-Err-Fenced.ensures.fenced));
    }
