use Rattle.std.proofs.Common.{◌≡◌, ◌∙◌, sym, ap, length, false}
use Rattle.std.specs.Prelude.{nat_le, ◌||◌}
use Rattle.std.specs.List.{list_any}
use Rattle.std.specs.Map.{values_of}
use Rattle.ft_io.specs.Key.{key_eq}
use Rattle.indexmap.specs.IndexMap.{insert_entry}
use Rattle.ft_model.specs.Log.{opened}
use Rattle.logger_wire.specs.Records.{numbers_said}
use Rattle.logger_store.proofs.Entries.{opening}
use Rattle.logger_store.proofs.store.LogStore.open.Goals as goal

pub invariant_of-self-2 : goal.invariant_of-self-2
invariant_of-self-2 c =
    let room : (list_any (λ e. key_eq e.key c.args.numbers.now.key) (values_of c.self.inside.entries.entries) || nat_le 64 (length (values_of c.self.inside.entries.entries))) ≡ false =
    ap (λ l. list_any (λ e. key_eq e.key c.args.numbers.now.key) l.entries || nat_le 64 (length l.entries)) c.self.view_is ∙ (sym c.turns_away.ensures ∙ c.if-turns_away.false) in
    (opening c.self.inside.boot c.self.inside.entries.entries c.insert.new.self.entries (numbers_said c.args.numbers.now) c.self.invariant.0 room
    (c.in_ok-insert.ensures.entries ∙ ap (insert_entry key_eq c.self.inside.entries.entries c.args.numbers.now.key) c.new-entry.ensures)).0

pub returns-clause-ok : goal.returns-clause-ok
returns-clause-ok c =
    let room : (list_any (λ e. key_eq e.key c.args.numbers.now.key) (values_of c.self.inside.entries.entries) || nat_le 64 (length (values_of c.self.inside.entries.entries))) ≡ false =
    ap (λ l. list_any (λ e. key_eq e.key c.args.numbers.now.key) l.entries || nat_le 64 (length l.entries)) c.self.view_is ∙ (sym c.turns_away.ensures ∙ c.if-turns_away.false) in
    (opening c.self.inside.boot c.self.inside.entries.entries c.insert.new.self.entries (numbers_said c.args.numbers.now) c.self.invariant.0 room
    (c.in_ok-insert.ensures.entries ∙ ap (insert_entry key_eq c.self.inside.entries.entries c.args.numbers.now.key) c.new-entry.ensures)).1
    ∙ ap (opened (numbers_said c.args.numbers.now)) c.self.view_is
