use Rattle.std.proofs.Common.{◌≡◌, ◌∙◌, ◌≤◌, ap, sym, subst, arith, rules, length, None}
use Rattle.std.specs.Map.{lookup, values_of}
use Rattle.ft_io.specs.Key.{key_eq}
use Rattle.ft_model.specs.Log.{Log}
use Rattle.logger_store.proofs.Entries.{AreKept, none_found}
use Rattle.logger_store.proofs.Removed.{without_key, all_stay, taken_out, left_kept, no_more}
use Rattle.logger_store.proofs.store.LogStore.remove.Goals as goal

pub returns-in_default : goal.returns-in_default
returns-in_default c =
    let es = c.self.inside.entries.entries in
    let nothing : lookup (key_eq c.args.key) c.self.inside.entries.entries ≡ None = search rules in
    sym c.self.view_is
    ∙ (ap (λ xs. let log : Log = record { boot = c.self.inside.boot; entries = xs } in log) (sym (all_stay c.args.key es c.self.invariant.0 (none_found c.args.key es nothing)))
    ∙ ap (λ l. let log : Log = record l { entries = without_key c.args.key l.entries } in log) c.self.view_is)

pub invariant_of-self : goal.invariant_of-self
invariant_of-self c =
    let es = c.self.inside.entries.entries in
    subst (λ xs. AreKept xs × (length (values_of xs) ≤ 64)) (sym c.shift_remove.ensures.entries)
    (left_kept (key_eq c.args.key) es c.self.invariant.0, omega (arith, no_more (key_eq c.args.key) es, c.self.invariant.1))

pub returns : goal.returns
returns c =
    let es = c.self.inside.entries.entries in
    ap (λ xs. let log : Log = record { boot = c.self.inside.boot; entries = values_of xs } in log) c.shift_remove.ensures.entries
    ∙ (ap (λ xs. let log : Log = record { boot = c.self.inside.boot; entries = xs } in log) (taken_out c.args.key es c.self.invariant.0 c.get_index_of.ensures.unique)
    ∙ ap (λ l. let log : Log = record l { entries = without_key c.args.key l.entries } in log) c.self.view_is)
