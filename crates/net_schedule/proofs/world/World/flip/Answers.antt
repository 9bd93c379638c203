use Rattle.std.proofs.Common.{◌≡◌, ◌∙◌, sym, ap, subst, refl, ◌<◌, ◌≤◌, ◌*◌, length, arith}
use Rattle.std.specs.Prelude.{option_copied}
use Rattle.seq_arith.specs.Damage.{flipped}
use Rattle.tcp_rules.specs.Profile.{grammar_of}
use Rattle.ft_model.specs.World.{DeliveredAs}
use Rattle.twin_laws.specs.TwinWorld.{seen}
use Rattle.node_serving.specs.Markers.{saving}
use Rattle.net_schedule.specs.MarkedTurns.{marker_in}
use Rattle.net_schedule.specs.WorldView.{kept, service_of}
use Rattle.mark_laws.specs.MarkedWorld.{ComesAs as MarkedComes}
use Rattle.net_schedule.specs.MarkedRefinement.{MarkedProceeds, MarkedComesAs}
use Rattle.net_schedule.specs.Premises.{ComesAs}
use Rattle.net_schedule.specs.Refinement.{ReachesNext}
use Rattle.net_schedule.specs.TwinRefinement.{TwinProceeds, ParcelComesAs, MayComeAs}
use Rattle.net_schedule.proofs.Events.{flips, refuses_no_packet, refuses_bit}
use Rattle.net_schedule.proofs.MarkedEvents.{marked_flips, marked_refuses_no_packet, marked_refuses_bit}
use Rattle.net_schedule.proofs.MarkedParcels.{no_marked_way, no_marked_bytes}
use Rattle.net_schedule.proofs.PacketStore.{no_way, no_bytes}
use Rattle.net_schedule.proofs.Parcels.{no_parcel_way, no_parcel_bytes}
use Rattle.net_schedule.proofs.TwinEvents.{twin_flips, twin_refuses_no_packet, twin_refuses_bit}
use Rattle.net_schedule.proofs.world.World.flip.Goals as goal

pub returns-in_default-clause-ends : goal.returns-in_default-clause-ends
returns-in_default-clause-ends g c =
    let w = c.args.self.now in
    let none = sym c.way.ensures ∙ c.in_default.is in (
      record {
        one = λ v st p. refuses_no_packet (service_of w) v c.args.number c.args.bit (no_way (grammar_of v.profile) w.keys.items w.packets v.packets c.args.number st.packets none);
        two = λ v st p. twin_refuses_no_packet (service_of w) v c.args.number c.args.bit (no_parcel_way (grammar_of v.profile) w.keys.items w.packets v.parcels c.args.number st.packets none);
        marked = λ savable every v st p.
            marked_refuses_no_packet (marker_in (saving g.S.Saved.form g.S.Saved.state_of g.S.Saved.is_savable) every w) v c.args.number c.args.bit (no_marked_way (grammar_of v.profile) w.keys.items w.packets v.parcels c.args.number st.packets none);
      },
      refl,
    )

pub returns-in_default-bytes-clause-ends : goal.returns-in_default-bytes-clause-ends
returns-in_default-bytes-clause-ends g c =
    let w = c.args.self.now in
    let none = sym c.bytes.ensures ∙ ap option_copied c.in_default-bytes.is in (
      record {
        one = λ v st p. refuses_no_packet (service_of w) v c.args.number c.args.bit (no_bytes (grammar_of v.profile) w.keys.items w.packets v.packets c.args.number st.packets none);
        two = λ v st p. twin_refuses_no_packet (service_of w) v c.args.number c.args.bit (no_parcel_bytes (grammar_of v.profile) w.keys.items w.packets v.parcels c.args.number st.packets none);
        marked = λ savable every v st p.
            marked_refuses_no_packet (marker_in (saving g.S.Saved.form g.S.Saved.state_of g.S.Saved.is_savable) every w) v c.args.number c.args.bit (no_marked_bytes (grammar_of v.profile) w.keys.items w.packets v.parcels c.args.number st.packets none);
      },
      refl,
    )

pub returns-then-bit-bytes-clause-ends : goal.returns-then-bit-bytes-clause-ends
returns-then-bit-bytes-clause-ends g c =
    let w = c.args.self.now in
    let bytes = c.in-Some-bytes.bytes.now in
    let past : 8 * length bytes ≤ c.args.bit = omega arith in
    let way_is = sym c.way.ensures ∙ c.in-Some.is in (
      record {
        one = λ v st p. refuses_bit (service_of w) (kept w) v c.args.number c.args.bit c.in-Some.way c.in-Some-bytes.bytes.now st way_is (sym c.in-Some-bytes.ensures) past;
        two = λ v st p. twin_refuses_bit (service_of w) (kept w) v c.args.number c.args.bit c.in-Some.way c.in-Some-bytes.bytes.now st way_is (sym c.in-Some-bytes.ensures) past;
        marked = λ savable every v st p.
            marked_refuses_bit (marker_in (saving g.S.Saved.form g.S.Saved.state_of g.S.Saved.is_savable) every w) (kept w) v c.args.number c.args.bit c.in-Some.way c.in-Some-bytes.bytes.now st way_is (sym c.in-Some-bytes.ensures) past;
      },
      refl,
    )

pub returns-clause-done : goal.returns-clause-done
returns-clause-done g c =
    let w = c.args.self.now in
    let bytes = c.in-Some-bytes.bytes.now in
    let way_is = sym c.way.ensures ∙ c.in-Some.is in
    let within : c.args.bit < 8 * length bytes = omega arith in
    let is : c.as_slice.result.now ≡ flipped c.args.bit bytes = c.as_slice.ensures.value ∙ c.in_ok-refill_flipped.ensures in
    let so = c.in_ok-bring.ensures in
    record {
      continues = record { same_kind = so.continues.same_kind; same_profile = so.continues.same_profile; grew = so.continues.grew };
      one = λ v st p.
          flips (service_of w) (kept w) (kept c.bring.new.self) v c.args.number c.args.bit c.in-Some.way c.in-Some-bytes.bytes.now st p way_is (sym c.in-Some-bytes.ensures) within
          (λ packet goes came. subst (λ b. ReachesNext (service_of w) (DeliveredAs (service_of w) v packet b) v (kept c.bring.new.self)) is
          (so.one v packet st p goes (subst (ComesAs v packet) (sym is) came)));
      two = λ v st p.
          twin_flips (service_of w) (kept w) (kept c.bring.new.self) v c.args.number c.args.bit c.in-Some.way c.in-Some-bytes.bytes.now st p way_is (sym c.in-Some-bytes.ensures) within
          (λ parcel goes came. subst (λ b. TwinProceeds (service_of w) (ParcelComesAs (service_of w) parcel b v) v (kept c.bring.new.self)) is
          (so.two v parcel st p goes (subst (MayComeAs (seen v p.packets) parcel) (sym is) came)));
      marked = λ savable every v st p.
          marked_flips (marker_in (saving g.S.Saved.form g.S.Saved.state_of g.S.Saved.is_savable) every w) (kept w) (kept c.bring.new.self) v c.args.number c.args.bit c.in-Some.way c.in-Some-bytes.bytes.now st p way_is (sym c.in-Some-bytes.ensures) within
          (λ parcel goes came. subst (λ b. MarkedProceeds (marker_in (saving g.S.Saved.form g.S.Saved.state_of g.S.Saved.is_savable) every w) (MarkedComes (marker_in (saving g.S.Saved.form g.S.Saved.state_of g.S.Saved.is_savable) every w) parcel b v) v (kept c.bring.new.self)) is
          (so.marked savable every v parcel st p goes (subst (MarkedComesAs v parcel) (sym is) came)));
    }
