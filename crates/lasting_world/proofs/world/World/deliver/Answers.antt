use Rattle.std.proofs.Common.{◌≡◌, ◌∙◌, sym, ap, refl, Some}
use Rattle.std.specs.Prelude.{option_copied}
use Rattle.schedule_network.specs.AtNumber.{at_number}
use Rattle.lasting_world.specs.WorldView.{kept, service_of}
use Rattle.lasting_world.proofs.Happenings.{none_delivered, no_bytes, lost_delivered, delivered}
use Rattle.lasting_world.proofs.world.World.deliver.Goals as goal

pub returns-in_default-clause-ends : goal.returns-in_default-clause-ends
returns-in_default-clause-ends g c =
    let w = c.args.self.now in
    ((λ v st. (none_delivered (service_of w) (kept w) (kept w) c.args.number (sym c.way.ensures ∙ c.in_default.is) v st).0), refl)

pub returns-then-is_lost-clause-done : goal.returns-then-is_lost-clause-done
returns-then-is_lost-clause-done g c =
    let w = c.args.self.now in
    lost_delivered (service_of w) (kept w) (kept w) c.args.number c.in-Some.way (sym c.way.ensures ∙ c.in-Some.is) (sym c.is_lost.ensures ∙ c.if-is_lost.true)

pub returns-in_default-bytes-clause-ends : goal.returns-in_default-bytes-clause-ends
returns-in_default-bytes-clause-ends g c =
    let w = c.args.self.now in
    ((λ v st. absurd (no_bytes (service_of w) (kept w) (kept w) c.args.number c.in-Some.way (sym c.way.ensures ∙ c.in-Some.is) (sym c.bytes.ensures ∙ ap option_copied c.in_default-bytes.is) v st)), refl)

pub returns-clause-done : goal.returns-clause-done
returns-clause-done g c =
    let w = c.args.self.now in
    let spelled : at_number w.around.network.packets.bytes c.args.number ≡ Some c.as_slice.result.now = sym c.in-Some-bytes.ensures ∙ ap Some (sym (c.as_slice.ensures.value ∙ c.in_ok-refill.ensures)) in
    delivered (service_of w) (kept w) (kept c.bring.new.self) c.args.number c.in-Some.way (sym c.way.ensures ∙ c.in-Some.is) c.as_slice.result.now c.about-about.result (sym c.about-about.ensures)
    (sym c.is_lost.ensures ∙ c.if-is_lost.false) c.in_ok-bring.ensures spelled
