use Rattle.std.proofs.Common.{◌≡◌, ◌∙◌, ◌≤◌, sym, subst, refl, arith, true, false, is_some, option_map, length}
use Rattle.node_serving.specs.Markers.{saving}
use Rattle.net_schedule.specs.MarkedTurns.{marker_in}
use Rattle.schedule_network.specs.StoredPackets.{with_wires}
use Rattle.net_schedule.specs.WorldView.{kept, server_of, service_of}
use Rattle.net_schedule.proofs.Events.{boots, refuses_up, refuses_boot}
use Rattle.net_schedule.proofs.MarkedBoot.{boots_marked}
use Rattle.net_schedule.proofs.MarkedServer.{marked_refuses_up, marked_refuses_boot}
use Rattle.net_schedule.proofs.PacketStore.{wires_grow}
use Rattle.net_schedule.proofs.Outcomes.{not_there, same_there}
use Rattle.net_schedule.proofs.world.World.boot.Goals as goal

pub returns-then-is_some-clause-ends : goal.returns-then-is_some-clause-ends
returns-then-is_some-clause-ends g c =
    let w = c.args.self.now in
    let up : is_some (option_map server_of w.node) ≡ true = same_there server_of w.node ∙ cc in (
      record {
        usual = λ v st p. refuses_up (service_of w) (kept w) v c.args.boot c.args.isn st up;
        marked = λ savable every v st p. marked_refuses_up (marker_in (saving g.S.Saved.form g.S.Saved.state_of g.S.Saved.is_savable) every w) (kept w) v c.args.boot c.args.isn st up;
      },
      refl,
    )

pub returns-then-boot-self-clause-ends : goal.returns-then-boot-self-clause-ends
returns-then-boot-self-clause-ends g c =
    let w = c.args.self.now in
    let down : is_some (option_map server_of w.node) ≡ false = same_there server_of w.node ∙ cc in
    let low : c.args.boot ≤ w.boot = omega arith in (
      record {
        usual = λ v st p. refuses_boot (service_of w) (kept w) v c.args.boot c.args.isn st down low;
        marked = λ savable every v st p. marked_refuses_boot (marker_in (saving g.S.Saved.form g.S.Saved.state_of g.S.Saved.is_savable) every w) (kept w) v c.args.boot c.args.isn st down low;
      },
      refl,
    )

pub returns-clause-done : goal.returns-clause-done
returns-clause-done g c =
    let w = c.args.self.now in
    let kept_is : c.keep_sent.new.packets ≡ with_wires w.keys.items w.packets c.in_ok-node.node.turn.sent.items = cc (c.in_default.ensures) in
    record {
      continues = record { same_kind = refl; same_profile = refl; grew = subst (λ ps. length w.packets.bytes ≤ length ps.bytes) (sym kept_is) (wires_grow w.keys.items w.packets c.in_ok-node.node.turn.sent.items) };
      advances = λ v st p.
          boots (service_of w) (kept w) _ v c.args.boot c.args.isn (server_of c.in_ok-node.node) c.in_ok-node.node.turn.sent.items st
          (not_there server_of w.node (cc)) (omega arith) (omega arith) (c.in_ok-node.ensures.plain st.unmarked) c.in_ok-node.ensures.hello c.in_ok-node.ensures.same
          (λ j. record (kept w) { packets = kept_is j; boot = c.args.boot; node = option_map server_of (c.replace.ensures.after j) });
      marked = λ savable every v st p.
          boots_marked g.S.Service (saving g.S.Saved.form g.S.Saved.state_of g.S.Saved.is_savable) every (kept w) _ v c.args.boot c.args.isn c.in_ok-node.node c.in_ok-node.node.turn.sent.items savable st
          (not_there server_of w.node (cc)) (omega arith) (omega arith) c.in_ok-node.ensures.marked c.in_ok-node.ensures.hello c.in_ok-node.ensures.same
          (λ j. record (kept w) { packets = kept_is j; boot = c.args.boot; node = option_map server_of (c.replace.ensures.after j) });
    }
