use Rattle.std.proofs.Common.{◌≡◌, ◌∙◌, ◌-◌, ◌<◌, ap, sym, subst, refl, rules, arith, false, Some, suc, take, length}
use Rattle.std.proofs.Math.ListN.{set}
use Rattle.std.proofs.lemmas.List.{set-get_or}
use Rattle.seq_arith.specs.PacketGrammar.{spelling}
use Rattle.ft_model.specs.Client.{Client, segment_of, window_of}
use Rattle.ft_model.specs.declared.way.Way.TheVariants.{ClientToServer}
use Rattle.lasting_world.specs.Around.{kept_around}
use Rattle.lasting_world.specs.Guests.{is_off}
use Rattle.lasting_world.specs.NetworkView.{AddsPacket}
use Rattle.lasting_world.specs.declared.guest.Guest.{Guest}
use Rattle.lasting_world.proofs.Making.{no_guest, guest_off, guest_refused, guest_moves, written_front, same_at, converted}
use Rattle.lasting_world.proofs.surroundings.Surroundings.make.Goals as goal

pub returns-then-number-eq0-clause-ends : goal.returns-then-number-eq0-clause-ends
returns-then-number-eq0-clause-ends c =
    ((λ w s. no_guest c.args.self.now.guests.items w.guests c.args.event.now c.args.number s.guests c.requires (λ p. absurd (omega arith))), refl)

pub returns-then-place-count-clause-ends : goal.returns-then-place-count-clause-ends
returns-then-place-count-clause-ends c =
    ((λ w s. no_guest c.args.self.now.guests.items w.guests c.args.event.now c.args.number s.guests c.requires (λ p. omega arith)), refl)

pub returns-then-is_off-clause-ends : goal.returns-then-is_off-clause-ends
returns-then-is_off-clause-ends c =
    let items = c.args.self.now.guests.items in
    let place = c.from-place.result - 1 in
    let numbered : c.args.number ≡ suc place = omega arith in
    let inside : place < length items = omega arith in (
      λ w s.
          guest_off c.args.number place items w.guests c.args.event.now s.guests numbered inside c.requires
          (sym (c.is_off.ensures ∙ ap (λ l. is_off l place) c.deref.ensures.value) ∙ c.if-is_off.true),
      refl,
    )

pub returns-in_err-len-clause-ends : goal.returns-in_err-len-clause-ends
returns-in_err-len-clause-ends c =
    let items = c.args.self.now.guests.items in
    let place = c.from-place.result - 1 in
    let guest : Guest = c.index_mut.result.now in
    let numbered : c.args.number ≡ suc place = omega arith in
    let inside : place < length items = omega arith in
    let on : is_off items place ≡ false = sym (c.is_off.ensures ∙ ap (λ l. is_off l place) c.deref.ensures.value) ∙ c.if-is_off.false in
    let same : set items place (record guest { client = c.step.new.self }) ≡ items =
    ap (λ (x : Client). set items place (record guest { client = x })) c.in_err-len.ensures.kept ∙ (ap (set items place) c.index_mut.ensures.value ∙ set-get_or items place guest) in
    converted c.from_residual.result c.in_err-len.field-0.0.why _ c.from_residual.ensures.1 (
      (λ w s. guest_refused c.args.number place items w.guests c.args.event.now guest c.in_err-len.field-0.0.why s.guests numbered inside c.requires on c.index_mut.ensures.value c.in_err-len.ensures.refused),
      ap (λ gs. record (kept_around c.args.self.now) { guests = gs }) same,
    )

pub returns-clause-done : goal.returns-clause-done
returns-clause-done c = λ w s.
    let items = c.args.self.now.guests.items in
    let place = c.from-place.result - 1 in
    let guest : Guest = c.index_mut.result.now in
    let event = c.args.event.now in
    let made = c.in_ok-len.ensures.made in
    let numbered : c.args.number ≡ suc place = omega arith in
    let inside : place < length items = omega arith in
    let on : is_off items place ≡ false = sym (c.is_off.ensures ∙ ap (λ l. is_off l place) c.deref.ensures.value) ∙ c.if-is_off.false in
    let key : c.index.result.now ≡ guest = same_at items place c.index.result.now guest inside c.index.ensures c.index_mut.ensures.value in
    let size : length c.args.room.now ≡ 1500 = search rules in
    let spelled : take c.min.result c.step.new.out ≡ spelling (segment_of guest.client made.move (window_of guest.client event)) =
    ap (λ n. take n c.step.new.out) c.min.ensures ∙ written_front _ _ c.step.new.out c.in_ok-len.len 1500 made.packet size (c.step.auto.out ∙ size) in
    guest_moves w (kept_around c.args.self.now) c.push.new.self event c.args.number place guest c.step.new.self _ _ (take c.min.result c.step.new.out) _ s c.requires numbered inside
    c.index_mut.ensures.value on made spelled
    (subst (λ (g : Guest). AddsPacket (ClientToServer c.args.number) (Some g.key) (take c.min.result c.step.new.out) c.args.self.now.network c.push.new.self) key c.in_ok-push.ensures)
