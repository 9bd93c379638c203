use Rattle.std.proofs.Common.{◌≡◌, ◌∙◌, sym, ap, rules, Some, None, false}
use Rattle.std.specs.Option.{option_map_or}
use Rattle.std.specs.Map.{lookup}
use Rattle.std.proofs.lemmas.Result.{on_ok_weaker, on_err_weaker}
use Rattle.ft_io.specs.Key.{key_eq}
use Rattle.ft_model.specs.Log.{with_entry, with_part}
use Rattle.logger_wire.specs.Records.{part_said}
use Rattle.logger_store.specs.StoreState.{adds_page}
use Rattle.logger_store.proofs.Entries.{written, unwritten, absent, map_kept, there}
use Rattle.logger_store.proofs.store.LogStore.take_part.Goals as goal

pub returns-in_default-clause-ok : goal.returns-in_default-clause-ok
returns-in_default-clause-ok c =
    let nothing : lookup (key_eq c.args.part.now.key) c.self.inside.entries.entries ≡ None = search rules in
    absent c.self.inside.boot c.self.inside.entries.entries c.get_mut.follows.lender-at-none.entries c.args.part.now.key (with_part (part_said c.args.part.now)) c.self.invariant.0 nothing (ap (λ m. m.entries) c.get_mut.follows.holds-at-none)
    ∙ ap (with_entry c.args.part.now.key (with_part (part_said c.args.part.now))) c.self.view_is

pub invariant_of-self-2 : goal.invariant_of-self-2
invariant_of-self-2 c =
    let found : lookup (key_eq c.args.part.now.key) c.self.inside.entries.entries ≡ Some c.in-Some.entry.now = search rules in
    map_kept c.self.inside.entries.entries _ (key_eq c.args.part.now.key) c.in-Some.entry.now c.take_part.new.self c.self.invariant.0 c.self.invariant.1 found (c.get_mut.follows.holds c.take_part.new.self).0 (c.take_part.ensures.key)

pub returns-clause-ok : goal.returns-clause-ok
returns-clause-ok c =
    let found : lookup (key_eq c.args.part.now.key) c.self.inside.entries.entries ≡ Some c.in-Some.entry.now = search rules in
    on_ok_weaker c.take_part.result (λ is. written c.self.inside.boot c.self.inside.entries.entries _ c.args.part.now.key (with_part (part_said c.args.part.now)) c.in-Some.entry.now c.take_part.new.self c.self.invariant.0 c.get_mut.ensures.unique found (c.get_mut.follows.holds c.take_part.new.self).0 is
    ∙ ap (with_entry c.args.part.now.key (with_part (part_said c.args.part.now))) c.self.view_is) c.take_part.ensures.ok

pub returns-clause-err : goal.returns-clause-err
returns-clause-err c =
    let found : lookup (key_eq c.args.part.now.key) c.self.inside.entries.entries ≡ Some c.in-Some.entry.now = search rules in
    on_err_weaker c.take_part.result (λ is. unwritten c.self.inside.boot c.self.inside.entries.entries _ (key_eq c.args.part.now.key) c.in-Some.entry.now c.take_part.new.self found (c.get_mut.follows.holds c.take_part.new.self).0 is ∙ c.self.view_is) c.take_part.ensures.err

pub returns-clause-in_page : goal.returns-clause-in_page
returns-clause-in_page c =
    let found : lookup (key_eq c.args.part.now.key) c.self.inside.entries.entries ≡ Some c.in-Some.entry.now = search rules in
    λ h. c.take_part.ensures.in_page (sym (ap (λ o. option_map_or (adds_page (part_said c.args.part.now)) o false) (there c.args.self.now c.self.inside.boot c.self.inside.entries.entries c.args.part.now.key c.in-Some.entry.now c.self.invariant.0 c.self.view_is found)) ∙ h)
