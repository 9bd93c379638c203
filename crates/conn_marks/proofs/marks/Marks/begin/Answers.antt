use Rattle.std.proofs.Common.{◌≡◌, ◌∙◌, refl, sym, ap, subst, None}
use Rattle.mark_laws.specs.Marking.{Marking}
use Rattle.conn_marks.specs.KeyMarks.{KeyMarks, Changes}
use Rattle.conn_marks.proofs.KeyMarks.{changes_put}
use Rattle.conn_marks.proofs.marks.Marks.begin.Goals as goal

pub returns : goal.returns
returns c =
    let every = c.self.inside.every in
    let es = c.self.inside.of.entries in
    let was : KeyMarks = record { every = every; of = es } in
    let now : KeyMarks = record { every = every; of = c.insert.new.self.entries } in
    subst (λ w. Changes c.args.key (record { last = c.args.last; outstanding = None }) w now) c.self.view_is
    (subst (λ x. Changes c.args.key x was now) c.new.ensures
    (subst (λ l. Changes c.args.key c.new.result was (record { every = every; of = l })) (sym c.in_ok-insert.ensures.entries) (changes_put every es c.args.key c.new.result)))
