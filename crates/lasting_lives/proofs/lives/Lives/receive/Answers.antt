use Rattle.std.proofs.Common.{rules, refl, ◌≡◌, ◌∙◌, sym, ap, subst, option_map, IsSome, Some, None, if◌then◌else◌}
use Rattle.std.specs.Map.{lookup}
use Rattle.ft_io.specs.Key.{key_eq}
use Rattle.ft_model.proofs.Lists.{key_is}
use Rattle.lasting_lives.specs.contracts.lives.Lives.{the_view}
use Rattle.lasting_lives.specs.Lives.{receipt}
use Rattle.lasting_lives.proofs.lives.Lives.receive.Goals.{in-Some, in_default}
use Rattle.lasting_lives.proofs.lives.Lives.receive.Goals as goal

pub returns-clause-its : goal.returns-clause-its
returns-clause-its c =
    elim c.match-get_mut.branch [
      | in-Some w ↦
          let found : lookup (key_eq c.args.key) c.self.inside.of.entries ≡ Some w.in-Some.life.now = search rules in
          let written = (c.get_mut.follows.holds w.receive.new.self).3 (subst IsSome (sym found) refl) in
          ap (λ l. lookup (key_eq c.args.key) (the_view l)) w.self-inside-is
          ∙ (written.0 c.args.key
          ∙ (ap (λ b. if b then Some w.receive.new.self else lookup (key_eq c.args.key) c.self.inside.of.entries) (key_is c.args.key)
          ∙ (ap Some w.receive.ensures ∙ sym (ap (option_map (receipt)) (ap (lookup (key_eq c.args.key)) (sym c.self.view_is) ∙ found)))))
      | in_default w ↦
          let none : lookup (key_eq c.args.key) c.self.inside.of.entries ≡ None = search rules in
          let still : the_view c.match-get_mut.self-inside ≡ c.self.inside.of.entries =
          ap the_view w.self-inside-is ∙ ap (λ m. the_view (record { of = m })) c.get_mut.follows.holds-at-none in
          ap (lookup (key_eq c.args.key)) still ∙ (none ∙ sym (ap (option_map (receipt)) (ap (lookup (key_eq c.args.key)) (sym c.self.view_is) ∙ none)))
    ]

pub returns-clause-others : goal.returns-clause-others
returns-clause-others c = λ k other.
    elim c.match-get_mut.branch [
      | in-Some w ↦
          let found : lookup (key_eq c.args.key) c.self.inside.of.entries ≡ Some w.in-Some.life.now = search rules in
          let written = (c.get_mut.follows.holds w.receive.new.self).3 (subst IsSome (sym found) refl) in
          ap (λ l. lookup (key_eq k) (the_view l)) w.self-inside-is ∙ (written.2 k other ∙ ap (lookup (key_eq k)) c.self.view_is)
      | in_default w ↦
          ap (λ l. lookup (key_eq k) (the_view l)) w.self-inside-is
          ∙ (ap (λ m. lookup (key_eq k) m.entries) c.get_mut.follows.holds-at-none ∙ ap (lookup (key_eq k)) c.self.view_is)
    ]
