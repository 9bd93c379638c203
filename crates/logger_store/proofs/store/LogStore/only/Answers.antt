use Rattle.std.proofs.Common.{◌≡◌, ◌∙◌, sym, ap, None, option_map, slice_get}
use Rattle.std.specs.Map.{lookup, values_of}
use Rattle.ft_io.specs.Key.{key_eq}
use Rattle.ft_model.specs.Log.{entry_of, with_entry}
use Rattle.ft_model.proofs.SomeOutcome.{is_none}
use Rattle.logger_store.proofs.Entries.{found}
use Rattle.logger_store.proofs.Changed.{alone}
use Rattle.logger_store.proofs.store.LogStore.only.Goals as goal

pub returns-in_err-place-clause-entry : goal.returns-in_err-place-clause-entry
returns-in_err-place-clause-entry c =
    let none : lookup (key_eq c.args.key) c.self.inside.entries.entries ≡ None = is_none _ (sym c.in_err-place.ensures.found) in
    let is : entry_of c.args.key c.args.self.now ≡ None = ap (λ l. entry_of c.args.key l) (sym c.self.view_is) ∙ (found c.args.key c.self.inside.entries.entries c.self.invariant.0 ∙ none) in
    cc

pub returns-in_err-place-clause-alone : goal.returns-in_err-place-clause-alone
returns-in_err-place-clause-alone c = λ change same.
    let is : entry_of c.args.key c.args.self.now ≡ lookup (key_eq c.args.key) c.self.inside.entries.entries =
    ap (λ l. entry_of c.args.key l) (sym c.self.view_is) ∙ found c.args.key c.self.inside.entries.entries c.self.invariant.0 in
    ap (with_entry c.args.key change) (sym c.self.view_is)
    ∙ (alone c.args.key change c.self.inside.boot c.self.inside.entries.entries c.self.invariant.0 c.get_index_of.ensures.unique (ap (option_map change) (sym is) ∙ (same ∙ is)) ∙ c.self.view_is)

pub returns-clause-entry : goal.returns-clause-entry
returns-clause-entry c =
    let there : slice_get c.args.self.now.entries c.in_ok-place.place ≡ slice_get (values_of c.self.inside.entries.entries) c.in_ok-place.place =
    ap (λ l. slice_get l.entries c.in_ok-place.place) (sym c.self.view_is) in
    c.at.ensures ∙ (there ∙ (c.in_ok-place.ensures.value ∙ (sym (found c.args.key c.self.inside.entries.entries c.self.invariant.0) ∙ ap (λ l. entry_of c.args.key l) c.self.view_is)))

pub returns-clause-alone : goal.returns-clause-alone
returns-clause-alone c = λ change same.
    let is : entry_of c.args.key c.args.self.now ≡ lookup (key_eq c.args.key) c.self.inside.entries.entries =
    ap (λ l. entry_of c.args.key l) (sym c.self.view_is) ∙ found c.args.key c.self.inside.entries.entries c.self.invariant.0 in
    ap (with_entry c.args.key change) (sym c.self.view_is)
    ∙ (alone c.args.key change c.self.inside.boot c.self.inside.entries.entries c.self.invariant.0 c.get_index_of.ensures.unique (ap (option_map change) (sym is) ∙ (same ∙ is)) ∙ c.self.view_is)
