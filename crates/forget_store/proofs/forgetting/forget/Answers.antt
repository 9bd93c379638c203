use Rattle.std.proofs.Common.{◌≡◌, ◌∙◌, ◌==◌, ◌&&◌, Bool, ap, refl, sym, rules, true, false, None, option_map}
use Rattle.std.proofs.lemmas.Bool.{and_from}
use Rattle.logger_wire.specs.Records.{head_said}
use Rattle.forget_wire.specs.Value.{named_said}
use Rattle.forget_store.proofs.Forgets.{headed, headless, none_recycled, spared, recycled}
use Rattle.forget_store.proofs.forgetting.forget.Goals.{else-is_its-via-then-is_its+else-head, else-is_its-via-else-is_its}
use Rattle.forget_store.proofs.forgetting.forget.Goals as goal

pub returns-in_default : goal.returns-in_default
returns-in_default c =
    let none : c.head_of.result ≡ None = search rules in
    none_recycled (named_said c.args.named.now) c.args.log.now c.head_of.ensures.apart (headless _ (ap (option_map head_said) (sym none) ∙ c.head_of.ensures.value))

no_right : (a b : Bool) → b ≡ false → (a && b) ≡ false
no_right true b e = e
no_right false b e = refl

pub returns-then-head : goal.returns-then-head
returns-then-head c =
    let n = named_said c.args.named.now in
    let h = headed (head_said c.in-Some.head) _ (ap (option_map head_said) (sym c.in-Some.is) ∙ c.head_of.ensures.value) in
    c.remove.ensures
    ∙ recycled n c.args.log.now h.entry c.head_of.ensures.apart h.there
    (ap (λ x. (x.cisn == n.cisn && x.sisn == n.sisn) && x.done) (sym h.head) ∙ and_from _ _ (sym c.is_its.ensures ∙ c.if-is_its.true) c.if-head.true)

pub returns-else-is_its : goal.returns-else-is_its
returns-else-is_its c =
    let n = named_said c.args.named.now in
    let h = headed (head_said c.in-Some.head) _ (ap (option_map head_said) (sym c.in-Some.is) ∙ c.head_of.ensures.value) in
    let its = ap (λ x. (x.cisn == n.cisn && x.sisn == n.sisn) && x.done) (sym h.head) in
    elim c.else-is_its.branch [
      | else-is_its-via-then-is_its+else-head w ↦ spared n c.args.log.now h.entry c.head_of.ensures.apart h.there (its ∙ no_right _ _ w.if-head.false)
      | else-is_its-via-else-is_its w ↦
          spared n c.args.log.now h.entry c.head_of.ensures.apart h.there (its ∙ ap (λ b. b && c.in-Some.head.done) (sym c.is_its.ensures ∙ w.if-is_its.false))
    ]
