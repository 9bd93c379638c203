use Rattle.std.proofs.Common.{rules, ◌≡◌, ◌∙◌, ◌<◌, true, refl, sym, ap, subst, Some, None}
use Rattle.std.specs.Map.{lookup}
use Rattle.indexmap.specs.IndexMap.{insert_entry}
use Rattle.ft_io.specs.Key.{key_eq}
use Rattle.server_trait.specs.Service.{machine}
use Rattle.server_trait.specs.Saved.{writing}
use Rattle.mark_laws.specs.Marking.{with_new}
use Rattle.conn_marks.specs.contracts.marks.Marks.{the_view}
use Rattle.conn_marks.specs.KeyMarks.{KeyMarks}
use Rattle.conn_marks.proofs.KeyMarks.{changes_by, changes_new, others_kept}
use Rattle.conn_marks.proofs.marks.Marks.advance.Goals as goal

pub returns-in-Some-clause-law : goal.returns-in-Some-clause-law
returns-in-Some-clause-law g c = λ savable kind p st bytes.
    let found : lookup (key_eq c.args.key) c.self.inside.of.entries ≡ Some c.in-Some.marking.now = search rules in
    let every = ap (λ (k : KeyMarks). k.every) c.self.view_is in
    let f = with_new (machine (g.S.Service.started kind) g.S.Service.after g.S.Service.greeting) (writing g.S.Saved.form (g.S.Saved.state_of kind)) c.args.self.now.every p in
    let law = c.in_ok-advance.ensures.law (subst (λ n. 0 < n → g.S.Saved.is_savable ≡ true) (sym every) savable) kind p st bytes in
    let next : c.advance.new.self ≡ f c.in-Some.marking.now =
    law ∙ ap (λ n. with_new (machine (g.S.Service.started kind) g.S.Service.after g.S.Service.greeting) (writing g.S.Saved.form (g.S.Saved.state_of kind)) n p c.in-Some.marking.now) every in
    changes_by f c.args.self.now (record { every = c.self.inside.every; of = (c.get_mut.follows.lender c.advance.new.self).entries }) c.self.inside.every c.self.inside.of.entries
    (c.get_mut.follows.lender c.advance.new.self).entries c.args.key c.in-Some.marking.now c.advance.new.self c.self.view_is found next (c.get_mut.follows.holds c.advance.new.self).0 refl

pub returns-clause-law : goal.returns-clause-law
returns-clause-law g c = λ savable kind p st bytes.
    let none : lookup (key_eq c.args.key) c.self.inside.of.entries ≡ None = search rules in
    let every = ap (λ (k : KeyMarks). k.every) c.self.view_is in
    let f = with_new (machine (g.S.Service.started kind) g.S.Service.after g.S.Service.greeting) (writing g.S.Saved.form (g.S.Saved.state_of kind)) c.args.self.now.every p in
    let law = c.in_ok-advance-2.ensures.law (subst (λ n. 0 < n → g.S.Saved.is_savable ≡ true) (sym every) savable) kind p st bytes in
    let next : c.advance-2.new.self ≡ f (record { last = 0; outstanding = None }) =
    law ∙ (λ j. with_new (machine (g.S.Service.started kind) g.S.Service.after g.S.Service.greeting) (writing g.S.Saved.form (g.S.Saved.state_of kind)) (every j) p (c.new-marking.ensures j)) in
    changes_new f c.args.self.now (record { every = c.self.inside.every; of = c.insert.new.self.entries }) c.self.inside.every c.self.inside.of.entries
    c.insert.new.self.entries c.args.key c.advance-2.new.self c.self.view_is none next
    (c.in_ok-insert.ensures.entries ∙ ap (λ m. insert_entry key_eq m.entries c.args.key c.advance-2.new.self) c.get_mut.follows.holds-at-none) refl

-- the others stay, whatever becomes of this one
pub returns-in-Some-clause-others : goal.returns-in-Some-clause-others
returns-in-Some-clause-others g c =
    let found : lookup (key_eq c.args.key) c.self.inside.of.entries ≡ Some c.in-Some.marking.now = search rules in
    let now : KeyMarks = record { every = c.self.inside.every; of = (c.get_mut.follows.lender c.advance.new.self).entries } in
    others_kept c.args.key c.advance.new.self c.args.self.now now
    (changes_by (λ m. c.advance.new.self) c.args.self.now now c.self.inside.every c.self.inside.of.entries
    (c.get_mut.follows.lender c.advance.new.self).entries c.args.key c.in-Some.marking.now c.advance.new.self c.self.view_is found refl (c.get_mut.follows.holds c.advance.new.self).0 refl)

pub returns-clause-others : goal.returns-clause-others
returns-clause-others g c =
    let none : lookup (key_eq c.args.key) c.self.inside.of.entries ≡ None = search rules in
    let now : KeyMarks = record { every = c.self.inside.every; of = c.insert.new.self.entries } in
    others_kept c.args.key c.advance-2.new.self c.args.self.now now
    (changes_new (λ m. c.advance-2.new.self) c.args.self.now now c.self.inside.every c.self.inside.of.entries
    c.insert.new.self.entries c.args.key c.advance-2.new.self c.self.view_is none refl
    (c.in_ok-insert.ensures.entries ∙ ap (λ m. insert_entry key_eq m.entries c.args.key c.advance-2.new.self) c.get_mut.follows.holds-at-none) refl)
