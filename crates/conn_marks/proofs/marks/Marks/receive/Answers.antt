use Rattle.conn_marks.proofs.Serving.{turn_key}
use Rattle.conn_marks.proofs.HeldBytes.{turn_bytes}
use Rattle.conn_marks.proofs.MarkWires.{put_out}
use Rattle.conn_marks.proofs.OneMarked.{one_marked}
use Rattle.std.proofs.Common.{rules, ◌≡◌, ◌∙◌, refl, sym, ap, subst, Some, None}
use Rattle.std.specs.Map.{lookup}
use Rattle.ft_io.specs.Key.{key_eq}
use Rattle.mark_laws.specs.Marking.{marking_answered}
use Rattle.conn_marks.specs.contracts.marks.Marks.{the_view}
use Rattle.conn_marks.proofs.KeyMarks.{changes_by, changes_none, marking_none}
use Rattle.conn_marks.proofs.marks.Marks.receive.Goals as goal
use Rattle.conn_marks.proofs.marks.Marks.receive.Goals.{in-Some, in_default}
use Rattle.conn_marks.specs.KeyMarks.{Changes, marking_in, no_marking}

pub returns : goal.returns
returns c =
    elim c.match-get_mut.branch [
      | in-Some w ↦
          let found : lookup (key_eq c.args.key) c.self.inside.of.entries ≡ Some w.in-Some.marking.now = search rules in
          changes_by (marking_answered c.args.reads) c.args.self.now (the_view c.match-get_mut.self-inside) c.self.inside.every c.self.inside.of.entries (c.get_mut.follows.lender w.receive.new.self).entries
          c.args.key w.in-Some.marking.now w.receive.new.self c.self.view_is found w.receive.ensures (c.get_mut.follows.holds w.receive.new.self).0 (ap the_view w.self-inside-is)
      | in_default w ↦
          let none : lookup (key_eq c.args.key) c.self.inside.of.entries ≡ None = search rules in
          let same : the_view c.match-get_mut.self-inside ≡ c.args.self.now =
          ap the_view w.self-inside-is ∙ (ap (λ m. the_view (record { every = c.self.inside.every; of = m })) c.get_mut.follows.holds-at-none ∙ c.self.view_is) in
          let still : marking_in c.args.self.now c.args.key ≡ no_marking =
          ap (λ w. marking_in w c.args.key) (sym c.self.view_is) ∙ marking_none c.self.inside.every c.self.inside.of.entries c.args.key none in
          subst (Changes c.args.key (marking_answered c.args.reads (marking_in c.args.self.now c.args.key)) c.args.self.now) (sym same)
          (changes_none c.args.self.now c.args.key (marking_answered c.args.reads (marking_in c.args.self.now c.args.key)) (still ∙ sym (ap (marking_answered c.args.reads) still)))
    ]
