use Rattle.std.proofs.Common.{◌≡◌, ◌∙◌, ◌==◌, ◌&&◌, ap, sym, false, Some, None, option_map}
use Rattle.std.specs.Option.{option_map_or}
use Rattle.logger_wire.specs.Records.{head_said}
use Rattle.forget_wire.specs.Value.{named_said}
use Rattle.forget_store.proofs.Forgets.{headed, headless, has_its_entry, has_its_numbers}
use Rattle.forget_store.proofs.forgetting.has_entry.Goals as goal

pub returns-in-Some : goal.returns-in-Some
returns-in-Some c =
    let n = named_said c.args.named.now in
    let h = headed (head_said c.in-Some.head) _ (ap (option_map head_said) (sym c.in-Some.is) ∙ c.head_of.ensures.value) in
    c.is_its.ensures
    ∙ (ap (λ x. x.cisn == n.cisn && x.sisn == n.sisn) h.head
    ∙ sym (has_its_entry n c.args.log.now.entries c.head_of.ensures.apart ∙ ap (λ o. option_map_or (has_its_numbers n) o false) h.there))

pub returns-in-None : goal.returns-in-None
returns-in-None c =
    let n = named_said c.args.named.now in
    let none = headless _ (ap (option_map head_said) (sym c.in-None.is) ∙ c.head_of.ensures.value) in
    sym (has_its_entry n c.args.log.now.entries c.head_of.ensures.apart ∙ ap (λ o. option_map_or (has_its_numbers n) o false) none)
