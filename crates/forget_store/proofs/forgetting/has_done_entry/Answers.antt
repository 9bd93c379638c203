use Rattle.std.proofs.Common.{◌≡◌, ◌∙◌, ◌==◌, ◌&&◌, ap, sym, false, Some, None, option_map}
use Rattle.std.specs.Option.{option_map_or}
use Rattle.logger_wire.specs.Records.{head_said}
use Rattle.forget_wire.specs.Value.{named_said}
use Rattle.forget_store.proofs.Forgets.{headed, headless, has_its_numbers}
use Rattle.forget_store.proofs.AnyLogs.{has_it_done}
use Rattle.forget_store.proofs.forgetting.has_done_entry.Goals as goal

pub returns-then-is_its : goal.returns-then-is_its
returns-then-is_its c =
    let n = named_said c.args.named.now in
    let h = headed (head_said c.in-Some.head) _ (ap (option_map head_said) (sym c.in-Some.is) ∙ c.head_of.ensures.value) in
    ap (λ b. b && c.in-Some.head.done) (sym c.if-is_its.true ∙ c.is_its.ensures)
    ∙ (ap (λ x. (x.cisn == n.cisn && x.sisn == n.sisn) && x.done) h.head
    ∙ sym (has_it_done n c.args.log.now.entries c.head_of.ensures.apart ∙ ap (λ o. option_map_or (λ e. has_its_numbers n e && e.done) o false) h.there))

pub returns-else-is_its : goal.returns-else-is_its
returns-else-is_its c =
    let n = named_said c.args.named.now in
    let h = headed (head_said c.in-Some.head) _ (ap (option_map head_said) (sym c.in-Some.is) ∙ c.head_of.ensures.value) in
    c.if-is_its.false
    ∙ (ap (λ b. b && c.in-Some.head.done) (sym c.if-is_its.false ∙ c.is_its.ensures)
    ∙ (ap (λ x. (x.cisn == n.cisn && x.sisn == n.sisn) && x.done) h.head
    ∙ sym (has_it_done n c.args.log.now.entries c.head_of.ensures.apart ∙ ap (λ o. option_map_or (λ e. has_its_numbers n e && e.done) o false) h.there)))

pub returns-in-None : goal.returns-in-None
returns-in-None c =
    let n = named_said c.args.named.now in
    let none = headless _ (ap (option_map head_said) (sym c.in-None.is) ∙ c.head_of.ensures.value) in
    sym (has_it_done n c.args.log.now.entries c.head_of.ensures.apart ∙ ap (λ o. option_map_or (λ e. has_its_numbers n e && e.done) o false) none)
