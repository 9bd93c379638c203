use Rattle.std.proofs.Common.{◌≡◌, ◌∙◌, sym, ap, refl, Some}
use Rattle.std.specs.Prelude.{option_copied}
use Rattle.tcp_rules.specs.Profile.{grammar_of}
use Rattle.schedule_network.specs.AtNumber.{at_number}
use Rattle.node_serving.specs.Markers.{saving}
use Rattle.net_schedule.specs.MarkedTurns.{marker_in}
use Rattle.net_schedule.specs.WorldView.{kept, service_of}
use Rattle.net_schedule.proofs.Events.{delivers, refuses_packet}
use Rattle.net_schedule.proofs.MarkedEvents.{marked_delivers, marked_refuses_packet}
use Rattle.net_schedule.proofs.MarkedParcels.{no_marked_way, no_marked_bytes}
use Rattle.net_schedule.proofs.PacketStore.{no_way, no_bytes}
use Rattle.net_schedule.proofs.Parcels.{no_parcel_way, no_parcel_bytes}
use Rattle.net_schedule.proofs.TwinEvents.{twin_delivers, twin_refuses_packet}
use Rattle.net_schedule.proofs.world.World.deliver.Goals as goal

pub returns-in_default-clause-ends : goal.returns-in_default-clause-ends
returns-in_default-clause-ends g c =
    let w = c.args.self.now in
    let none = sym c.way.ensures ∙ c.in_default.is in (
      record {
        one = λ v st p. refuses_packet (service_of w) v c.args.number (no_way (grammar_of v.profile) w.keys.items w.packets v.packets c.args.number st.packets none);
        two = λ v st p. twin_refuses_packet (service_of w) v c.args.number (no_parcel_way (grammar_of v.profile) w.keys.items w.packets v.parcels c.args.number st.packets none);
        marked = λ savable every v st p. marked_refuses_packet (marker_in (saving g.S.Saved.form g.S.Saved.state_of g.S.Saved.is_savable) every w) v c.args.number (no_marked_way (grammar_of v.profile) w.keys.items w.packets v.parcels c.args.number st.packets none);
      },
      refl,
    )

pub returns-in_default-bytes-clause-ends : goal.returns-in_default-bytes-clause-ends
returns-in_default-bytes-clause-ends g c =
    let w = c.args.self.now in
    let none = sym c.bytes.ensures ∙ ap option_copied c.in_default-bytes.is in (
      record {
        one = λ v st p. refuses_packet (service_of w) v c.args.number (no_bytes (grammar_of v.profile) w.keys.items w.packets v.packets c.args.number st.packets none);
        two = λ v st p. twin_refuses_packet (service_of w) v c.args.number (no_parcel_bytes (grammar_of v.profile) w.keys.items w.packets v.parcels c.args.number st.packets none);
        marked = λ savable every v st p. marked_refuses_packet (marker_in (saving g.S.Saved.form g.S.Saved.state_of g.S.Saved.is_savable) every w) v c.args.number (no_marked_bytes (grammar_of v.profile) w.keys.items w.packets v.parcels c.args.number st.packets none);
      },
      refl,
    )

pub returns-clause-done : goal.returns-clause-done
returns-clause-done g c =
    let w = c.args.self.now in
    let way_is = sym c.way.ensures ∙ c.in-Some.is in
    let spelled : at_number w.packets.bytes c.args.number ≡ Some c.as_slice.result.now = sym c.in-Some-bytes.ensures ∙ ap Some (sym (c.as_slice.ensures.value ∙ c.in_ok-refill.ensures)) in
    let so = c.in_ok-bring.ensures in
    record {
      continues = record { same_kind = so.continues.same_kind; same_profile = so.continues.same_profile; grew = so.continues.grew };
      one = λ v st p.
          delivers (service_of w) (kept w) (kept c.bring.new.self) v c.args.number c.in-Some.way c.as_slice.result.now st p way_is spelled (λ packet goes came. so.one v packet st p goes came);
      two = λ v st p.
          twin_delivers (service_of w) (kept w) (kept c.bring.new.self) v c.args.number c.in-Some.way c.as_slice.result.now st p way_is spelled (λ parcel goes came. so.two v parcel st p goes came);
      marked = λ savable every v st p.
          marked_delivers (marker_in (saving g.S.Saved.form g.S.Saved.state_of g.S.Saved.is_savable) every w) (kept w) (kept c.bring.new.self) v c.args.number c.in-Some.way c.as_slice.result.now st p way_is spelled
          (λ parcel goes came. so.marked savable every v parcel st p goes came);
    }
