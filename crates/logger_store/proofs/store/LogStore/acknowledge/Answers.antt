use Rattle.std.proofs.Common.{◌≡◌, ◌∙◌, ap, rules, Some, None}
use Rattle.std.specs.Map.{lookup}
use Rattle.ft_io.specs.Key.{key_eq}
use Rattle.ft_model.specs.Log.{with_entry}
use Rattle.logger_store.specs.StoreState.{acknowledging}
use Rattle.logger_store.proofs.Entries.{written, absent, map_kept}
use Rattle.logger_store.proofs.store.LogStore.acknowledge.Goals as goal

pub returns-in_default : goal.returns-in_default
returns-in_default c =
    let nothing : lookup (key_eq c.args.key) c.self.inside.entries.entries ≡ None = search rules in
    absent c.self.inside.boot c.self.inside.entries.entries c.get_mut.follows.lender-at-none.entries c.args.key (acknowledging c.args.units) c.self.invariant.0 nothing (ap (λ m. m.entries) c.get_mut.follows.holds-at-none)
    ∙ ap (with_entry c.args.key (acknowledging c.args.units)) c.self.view_is

pub invariant_of-self-2 : goal.invariant_of-self-2
invariant_of-self-2 c =
    let found : lookup (key_eq c.args.key) c.self.inside.entries.entries ≡ Some c.in-Some.entry.now = search rules in
    map_kept c.self.inside.entries.entries _ (key_eq c.args.key) c.in-Some.entry.now c.acknowledge.new.self c.self.invariant.0 c.self.invariant.1 found (c.get_mut.follows.holds c.acknowledge.new.self).0 (ap (λ e. e.key) c.acknowledge.ensures)

pub returns : goal.returns
returns c =
    let found : lookup (key_eq c.args.key) c.self.inside.entries.entries ≡ Some c.in-Some.entry.now = search rules in
    written c.self.inside.boot c.self.inside.entries.entries _ c.args.key (acknowledging c.args.units) c.in-Some.entry.now c.acknowledge.new.self c.self.invariant.0 c.get_mut.ensures.unique found (c.get_mut.follows.holds c.acknowledge.new.self).0 c.acknowledge.ensures
    ∙ ap (with_entry c.args.key (acknowledging c.args.units)) c.self.view_is
