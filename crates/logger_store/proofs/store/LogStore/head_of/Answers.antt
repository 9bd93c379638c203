use Rattle.std.proofs.Common.{◌≡◌, ◌∙◌, sym, ap, subst, map, None, option_map, slice_get}
use Rattle.std.specs.Map.{lookup, values_of}
use Rattle.ft_io.specs.Key.{key_eq}
use Rattle.ft_model.specs.Keys.{AreDistinct}
use Rattle.ft_model.specs.Log.{entry_of, head_of}
use Rattle.ft_model.proofs.SomeOutcome.{is_none}
use Rattle.logger_store.proofs.Entries.{found}
use Rattle.logger_store.proofs.Removed.{apart}
use Rattle.logger_store.proofs.store.LogStore.head_of.Goals as goal

pub returns-in_err-place-clause-value : goal.returns-in_err-place-clause-value
returns-in_err-place-clause-value c =
    let none : lookup (key_eq c.args.key) c.self.inside.entries.entries ≡ None = is_none _ (sym c.in_err-place.ensures.found) in
    let is : entry_of c.args.key c.args.self.now ≡ None = ap (λ l. entry_of c.args.key l) (sym c.self.view_is) ∙ (found c.args.key c.self.inside.entries.entries c.self.invariant.0 ∙ none) in
    let none_there : option_map head_of (entry_of c.args.key c.args.self.now) ≡ None = ap (option_map head_of) is in
    cc

pub returns-in_err-place-clause-apart : goal.returns-in_err-place-clause-apart
returns-in_err-place-clause-apart c =
    subst (λ l. AreDistinct (map (λ e. e.key) l.entries)) c.self.view_is (apart c.self.inside.entries.entries c.self.invariant.0 c.get_index_of.ensures.unique)

pub returns-clause-value : goal.returns-clause-value
returns-clause-value c =
    let there : slice_get c.args.self.now.entries c.in_ok-place.place ≡ slice_get (values_of c.self.inside.entries.entries) c.in_ok-place.place =
    ap (λ l. slice_get l.entries c.in_ok-place.place) (sym c.self.view_is) in
    c.entry.ensures.value
    ∙ ap (option_map head_of) (there ∙ (c.in_ok-place.ensures.value ∙ (sym (found c.args.key c.self.inside.entries.entries c.self.invariant.0) ∙ ap (λ l. entry_of c.args.key l) c.self.view_is)))

pub returns-clause-apart : goal.returns-clause-apart
returns-clause-apart c =
    subst (λ l. AreDistinct (map (λ e. e.key) l.entries)) c.self.view_is (apart c.self.inside.entries.entries c.self.invariant.0 c.get_index_of.ensures.unique)
