use Rattle.std.proofs.Common.{◌≡◌, ◌∙◌, sym, ap, refl, Option, Some, None, is_some, Bor}
use Rattle.std.specs.Prelude.{option_copied}
use Rattle.ft_io.specs.Key.{key_eq}
use Rattle.logger_store.proofs.Entries.{any_found}
use Rattle.logger_store.proofs.store.LogStore.knows.Goals as goal

some_copied : {X : Type 0} (o : Option (Bor X)) → is_some o ≡ is_some (option_copied o)
some_copied None = refl
some_copied (Some x) = refl

pub returns : goal.returns
returns c =
    c.is_some.ensures
    ∙ (some_copied c.find.result ∙ (ap is_some c.find.ensures ∙ sym (any_found (λ e. key_eq e.key c.args.key) c.args.self.now.entries)))
