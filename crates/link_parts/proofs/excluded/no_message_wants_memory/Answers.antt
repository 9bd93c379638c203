use Rattle.std.proofs.Common.{◌≡◌, ◌∙◌, refl, sym, ap, Bool, true, false, Result, Ok, Err, OnErr}
use Rattle.std.specs.Prelude.{IsOk}
use Rattle.long_laws.specs.ForgetGrammar as forgets
use Rattle.forget_store.specs.AnyMessage.{heeded_as}
use Rattle.link_parts.specs.LoggerTurns.{wants_in}
use Rattle.link_parts.proofs.excluded.no_message_wants_memory.Goals as goal

ok_unless : {T E : Type 0} (r : Result T E) (b : Bool) → OnErr r (b ≡ true) → b ≡ false → IsOk r
ok_unless (Ok x) b h not = refl
ok_unless (Err e) b h not = sym not ∙ h

pub returns : goal.returns
returns c = ok_unless c.answer.result _ c.answer.ensures.memory (ap (λ r. wants_in c.args.store.now (heeded_as false r (forgets.reading c.args.bytes.now))) c.requires.1)
