use Rattle.std.proofs.Common.{◌≡◌, ◌≤◌, ◌∙◌, sym, ap, subst, rules, Some, None}
use Rattle.std.specs.Prelude.{slice_get, sum, take, length, true}
use Rattle.std.specs.Map.{values_of}
use Rattle.ft_model.specs.Log.{Log}
use Rattle.log_pages.specs.Pages.{changed_at, reads_on, without}
use Rattle.logger_store.specs.StoreState.{lengths_of}
use Rattle.logger_store.proofs.Places.{none_there, changed_there, place_kept}
use Rattle.logger_store.proofs.store.LogStore.discard.Goals as goal

pub returns-in_default : goal.returns-in_default
returns-in_default c =
    let none : slice_get (values_of c.self.inside.entries.entries) c.args.i ≡ None = search rules in
    ap (λ xs. let log : Log = record { boot = c.self.inside.boot; entries = xs } in log) (none_there c.args.i (without c.args.bytes c.args.reads) (values_of c.self.inside.entries.entries) none)
    ∙ ap (λ l. let log : Log = record l { entries = changed_at c.args.i (without c.args.bytes c.args.reads) l.entries } in log) c.self.view_is

pub discard-requires-clause-there : goal.discard-requires-clause-there
discard-requires-clause-there c =
    let there : slice_get (values_of c.self.inside.entries.entries) c.args.i ≡ Some c.in-Some.entry.now = search rules in
    subst (λ o. c.args.reads ≤ length (lengths_of o)) (ap (λ l. slice_get l.entries c.args.i) (sym c.self.view_is) ∙ there) c.requires.there

pub discard-requires-clause-took : goal.discard-requires-clause-took
discard-requires-clause-took c =
    let there : slice_get (values_of c.self.inside.entries.entries) c.args.i ≡ Some c.in-Some.entry.now = search rules in
    subst (λ o. c.args.bytes ≡ sum (take c.args.reads (lengths_of o))) (ap (λ l. slice_get l.entries c.args.i) (sym c.self.view_is) ∙ there) c.requires.took

pub discard-requires-clause-on : goal.discard-requires-clause-on
discard-requires-clause-on c =
    let there : slice_get (values_of c.self.inside.entries.entries) c.args.i ≡ Some c.in-Some.entry.now = search rules in
    subst (λ o. reads_on (take c.args.reads (lengths_of o)) ≡ true) (ap (λ l. slice_get l.entries c.args.i) (sym c.self.view_is) ∙ there) c.requires.on

pub invariant_of-self-2 : goal.invariant_of-self-2
invariant_of-self-2 c =
    let there : slice_get (values_of c.self.inside.entries.entries) c.from.result ≡ Some c.in-Some.entry.now = search rules in
    place_kept c.from.result c.self.inside.entries.entries c.in-Some.entry.now c.discard.new.self there (ap (λ e. e.key) c.discard.ensures) c.self.invariant.0 c.self.invariant.1

pub returns : goal.returns
returns c =
    let there : slice_get (values_of c.self.inside.entries.entries) c.from.result ≡ Some c.in-Some.entry.now = search rules in
    ap (λ xs. let log : Log = record { boot = c.self.inside.boot; entries = xs } in log)
    (changed_there c.from.result (without c.args.bytes c.args.reads) c.self.inside.entries.entries c.in-Some.entry.now c.discard.new.self there c.discard.ensures)
    ∙ (ap (λ i. let log : Log = record { boot = c.self.inside.boot; entries = changed_at i (without c.args.bytes c.args.reads) (values_of c.self.inside.entries.entries) } in log) c.from.ensures
    ∙ ap (λ l. let log : Log = record l { entries = changed_at c.args.i (without c.args.bytes c.args.reads) l.entries } in log) c.self.view_is)
