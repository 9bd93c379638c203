use Rattle.std.proofs.Common.{◌≡◌, ◌∙◌, ◌==◌, ◌&&◌, refl, sym, ap}
use Rattle.ft_io.proofs.Choices.{holds_if}
use Rattle.forget_wire.specs.Value.{named_said}
use Rattle.long_laws.specs.Forgetting.{after_forget, forgotten_in}
use Rattle.forget_store.proofs.Forgets.{spared}
use Rattle.forget_store.proofs.excluded.recycles_by_its_key_alone.Goals as goal

pub returns : goal.returns
unfolding after_forget
returns c =
    let n = named_said c.args.named in
    let e = c.requires.entry.0 in
    c.take_forget.ensures.next
    ∙ holds_if (λ l. l ≡ c.args.log.now) (c.args.boot == c.args.log.now.boot) (forgotten_in n c.args.log.now) c.args.log.now
    (λ t. sym (spared n c.args.log.now e c.requires.apart c.requires.entry.1 (ap (λ b. b && e.done) c.requires.entry.2))) (λ f. refl)
