use Rattle.std.proofs.Common.{◌≡◌, ◌∙◌, ◌<◌, ◌≤◌, ◌*◌, sym, ap, refl, arith, length}
use Rattle.std.specs.Prelude.{option_copied}
use Rattle.seq_arith.specs.Damage.{flipped}
use Rattle.lasting_world.specs.WorldView.{kept, service_of}
use Rattle.lasting_world.proofs.Happenings.{none_delivered, no_bytes, flip_refused, lost_flipped, flip_delivered}
use Rattle.lasting_world.proofs.world.World.flip.Goals as goal

pub returns-in_default-clause-ends : goal.returns-in_default-clause-ends
returns-in_default-clause-ends g c =
    let w = c.args.self.now in
    ((λ v st. (none_delivered (service_of w) (kept w) (kept w) c.args.number (sym c.way.ensures ∙ c.in_default.is) v st).1 c.args.bit), refl)

pub returns-in_default-bytes-clause-ends : goal.returns-in_default-bytes-clause-ends
returns-in_default-bytes-clause-ends g c =
    let w = c.args.self.now in
    ((λ v st. absurd (no_bytes (service_of w) (kept w) (kept w) c.args.number c.in-Some.way (sym c.way.ensures ∙ c.in-Some.is) (sym c.bytes.ensures ∙ ap option_copied c.in_default-bytes.is) v st)), refl)

pub returns-then-bit-bytes-clause-ends : goal.returns-then-bit-bytes-clause-ends
returns-then-bit-bytes-clause-ends g c =
    let w = c.args.self.now in
    let past : 8 * length c.in-Some-bytes.bytes.now ≤ c.args.bit = omega arith in
    ((λ v st. flip_refused (service_of w) (kept w) (kept w) c.args.number c.in-Some.way (sym c.way.ensures ∙ c.in-Some.is) c.args.bit c.in-Some-bytes.bytes.now (sym c.in-Some-bytes.ensures) past v st), refl)

pub returns-then-is_lost-clause-done : goal.returns-then-is_lost-clause-done
returns-then-is_lost-clause-done g c =
    let w = c.args.self.now in
    let within : c.args.bit < 8 * length c.in-Some-bytes.bytes.now = omega arith in
    lost_flipped (service_of w) (kept w) (kept w) c.args.number c.in-Some.way (sym c.way.ensures ∙ c.in-Some.is) c.args.bit c.in-Some-bytes.bytes.now (sym c.in-Some-bytes.ensures) within
    (sym c.is_lost.ensures ∙ c.if-is_lost.true)

pub returns-clause-done : goal.returns-clause-done
returns-clause-done g c =
    let w = c.args.self.now in
    let within : c.args.bit < 8 * length c.in-Some-bytes.bytes.now = omega arith in
    let changed : c.as_slice.result.now ≡ flipped c.args.bit c.in-Some-bytes.bytes.now = c.as_slice.ensures.value ∙ c.in_ok-refill_flipped.ensures in
    flip_delivered (service_of w) (kept w) (kept c.bring.new.self) c.args.number c.in-Some.way (sym c.way.ensures ∙ c.in-Some.is) c.as_slice.result.now c.about-about.result (sym c.about-about.ensures)
    (sym c.is_lost.ensures ∙ c.if-is_lost.false) c.in_ok-bring.ensures c.args.bit c.in-Some-bytes.bytes.now (sym c.in-Some-bytes.ensures) changed within
