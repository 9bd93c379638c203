use Rattle.std.proofs.Common.{◌≡◌, ◌∙◌, ◌≤◌, ap, sym, subst, refl, rules, arith, ◌-◌, get_or, Some, take, length}
use Rattle.std.proofs.Math.ListN.{set}
use Rattle.std.proofs.lemmas.List.{set-get_or}
use Rattle.seq_arith.specs.PacketGrammar.{spelling}
use Rattle.ft_model.specs.Client.{segment_of, window_of}
use Rattle.ft_model.specs.World.{client_at}
use Rattle.ft_model.specs.declared.way.Way.TheVariants.{ClientToServer}
use Rattle.node_serving.specs.Markers.{saving}
use Rattle.net_schedule.specs.MarkedTurns.{marker_in}
use Rattle.schedule_network.specs.StoredPackets.{with_packet}
use Rattle.net_schedule.specs.WorldView.{kept, service_of}
use Rattle.net_schedule.proofs.MarkedActors.{movers_are_clients, downed, seen_down, down_stands, down_premises, client_advances, client_refused}
use Rattle.net_schedule.proofs.PacketStore.{packet_grows}
use Rattle.net_schedule.proofs.Moving.{moves, refuses_client, refuses_move, client_there, client_missing, no_client, written_front}
use Rattle.net_schedule.proofs.Outcomes.{converted}
use Rattle.net_schedule.proofs.world.World.make.Goals as goal

pub returns-then-number-eq0-clause-ends : goal.returns-then-number-eq0-clause-ends
returns-then-number-eq0-clause-ends g c =
    let w = c.args.self.now in (
      record {
        usual = λ v st p. refuses_client (service_of w) (kept w) v c.args.event.now c.args.number st c.requires (no_client w.clients.items c.args.number (omega arith));
        marked = λ savable every v st p.
            client_refused (marker_in (saving g.S.Saved.form g.S.Saved.state_of g.S.Saved.is_savable) every w) (kept w) v c.args.event.now c.args.number _ c.requires st
            (λ down. refuses_client (service_of w) (downed (kept w)) (seen_down v) c.args.event.now c.args.number down c.requires (no_client w.clients.items c.args.number (omega arith)));
      },
      refl,
    )

pub returns-then-place-count-clause-ends : goal.returns-then-place-count-clause-ends
returns-then-place-count-clause-ends g c =
    let w = c.args.self.now in (
      record {
        usual = λ v st p. refuses_client (service_of w) (kept w) v c.args.event.now c.args.number st c.requires (client_missing w.clients.items c.args.number (omega arith));
        marked = λ savable every v st p.
            client_refused (marker_in (saving g.S.Saved.form g.S.Saved.state_of g.S.Saved.is_savable) every w) (kept w) v c.args.event.now c.args.number _ c.requires st
            (λ down. refuses_client (service_of w) (downed (kept w)) (seen_down v) c.args.event.now c.args.number down c.requires (client_missing w.clients.items c.args.number (omega arith)));
      },
      refl,
    )

pub returns-clause-done : goal.returns-clause-done
returns-clause-done g c =
    let w = c.args.self.now in
    let items = c.args.self.now.clients.items in
    let event = c.args.event.now in
    let client = c.index_mut.result.now in
    let there : client_at items c.args.number ≡ Some client =
    client_there items c.args.number client (omega arith) (omega arith) (subst (λ k. client ≡ get_or items (k - 1) client) c.from-place.ensures c.index_mut.ensures.value) in
    let made = c.in_ok-len.ensures.made in
    let size : length w.room ≡ 1500 = search rules in
    let pushed : c.push.new.self ≡ with_packet c.args.self.now.packets (ClientToServer c.args.number) (spelling (segment_of client made.move (window_of client event))) =
    c.in_ok-push.ensures ∙ ap (with_packet c.args.self.now.packets (ClientToServer c.args.number))
    (ap (λ n. take n c.step.new.out) c.min.ensures ∙ written_front _ _ c.step.new.out c.in_ok-len.len 1500 made.packet size (c.step.auto.out ∙ size)) in
    record {
      continues = record { same_kind = refl; same_profile = refl; grew = subst (λ ps. length w.packets.bytes ≤ length ps.bytes) (sym c.in_ok-push.ensures) (packet_grows w.packets (ClientToServer c.args.number) _) };
      advances = λ v st p.
          moves (service_of w) (kept w) _ v event c.args.number client c.step.new.self _ _ _ st p c.requires there made
          (ap (λ k. record (kept c.args.self.now) { clients = set items (k - 1) c.step.new.self; packets = c.push.new.self }) c.from-place.ensures
          ∙ ap (λ ps. record (kept c.args.self.now) { clients = set items (c.args.number - 1) c.step.new.self; packets = ps }) pushed);
      marked = λ savable every v st p.
          client_advances (marker_in (saving g.S.Saved.form g.S.Saved.state_of g.S.Saved.is_savable) every w) event (kept w) _ v (movers_are_clients event c.args.number c.requires) st refl refl refl refl
          (moves (service_of w) (downed (kept w)) _ (seen_down v) event c.args.number client c.step.new.self _ _ _
          (down_stands (marker_in (saving g.S.Saved.form g.S.Saved.state_of g.S.Saved.is_savable) every w) (kept w) v st) (down_premises (marker_in (saving g.S.Saved.form g.S.Saved.state_of g.S.Saved.is_savable) every w) v p) c.requires there made
          (ap (λ k. record (downed (kept c.args.self.now)) { clients = set items (k - 1) c.step.new.self; packets = c.push.new.self }) c.from-place.ensures
          ∙ ap (λ ps. record (downed (kept c.args.self.now)) { clients = set items (c.args.number - 1) c.step.new.self; packets = ps }) pushed));
    }

pub returns-in_err-len-clause-ends : goal.returns-in_err-len-clause-ends
returns-in_err-len-clause-ends g c =
    let w = c.args.self.now in
    let items = c.args.self.now.clients.items in
    let client = c.index_mut.result.now in
    let there : client_at items c.args.number ≡ Some client =
    client_there items c.args.number client (omega arith) (omega arith) (subst (λ k. client ≡ get_or items (k - 1) client) c.from-place.ensures c.index_mut.ensures.value) in
    let same : set items (c.from-place.result - 1) c.step.new.self ≡ items =
    ap (set items (c.from-place.result - 1)) (c.in_err-len.ensures.kept ∙ c.index_mut.ensures.value) ∙ set-get_or items (c.from-place.result - 1) client in
    converted c.from_residual.result c.in_err-len.field-0.0.why _ c.from_residual.ensures.1 (
      record {
        usual = λ v st p. refuses_move (service_of w) (kept w) v c.args.event.now c.args.number client c.in_err-len.field-0.0.why st c.requires there c.in_err-len.ensures.refused;
        marked = λ savable every v st p.
            client_refused (marker_in (saving g.S.Saved.form g.S.Saved.state_of g.S.Saved.is_savable) every w) (kept w) v c.args.event.now c.args.number _ c.requires st
            (λ down. refuses_move (service_of w) (downed (kept w)) (seen_down v) c.args.event.now c.args.number client c.in_err-len.field-0.0.why down c.requires there c.in_err-len.ensures.refused);
      },
      ap (λ cs. record (kept w) { clients = cs }) same,
    )
