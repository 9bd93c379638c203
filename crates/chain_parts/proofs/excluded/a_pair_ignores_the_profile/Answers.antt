use Rattle.std.proofs.Common.{◌≡◌, ◌∙◌, ◌∷◌, [], List, ap, arith, length}
use Rattle.std.specs.declared.option.Option.{Option}
use Rattle.std.proofs.lemmas.Result.{on_ok_weaker}
use Rattle.ft_io.specs.Reported.{Reports}
use Rattle.ft_io.specs.declared.link_call.LinkCall.{LinkCall}
use Rattle.ft_io.specs.declared.link_call.LinkCall.TheVariants.{Bound}
use Rattle.seq_arith.specs.declared.kinds.Grammar.TheVariants as grammars
use Rattle.tcp_rules.specs.Profile.{grammar_of}
use Rattle.tcp_rules.specs.Profiles.{profile_of}
use Rattle.tcp_rules.specs.declared.profile.Profile.TheVariants as profiles
use Rattle.chain_parts.specs.PartTurns.{PartTurn, AreByDefinition, at_start, calls_of, datagrams_in, sends, turn_calls}
use Rattle.chain_parts.specs.declared.pair_role.PartRole.{PartRole}
use Rattle.chain_parts.proofs.excluded.a_pair_ignores_the_profile.Goals as goal

-- a life of one turn
one_turn : (role : PartRole) (turns : List PartTurn) (old new : Option (List LinkCall)) → length turns ≡ 1 → role.logger.profile ≡ profiles.Wan
    → AreByDefinition role turns → Reports old new (Bound role.logger.local ∷ calls_of turns)
    → (turn : PartTurn) × Reports old new (Bound role.logger.local ∷ turn_calls turn)
    × (datagrams_in turn.sent ≡ sends role.other turn.received (at_start grammars.Wide role.part))
one_turn role [] old new one chosen defined reports = absurd (omega (arith, one))
one_turn role (turn ∷ []) old new one chosen defined reports = (
  turn,
  reports,
  defined.1 ∙ ap (λ profile. sends role.other turn.received (at_start (grammar_of (profile_of profile)) role.part)) chosen,
)
one_turn role (turn ∷ next ∷ more) old new one chosen defined reports = absurd (omega (arith, one))

pub returns : goal.returns
returns g c =
    on_ok_weaker c.run_part.result
    (λ is. one_turn c.args.role.now is.turns (g.L.Link.reported c.args.link.now) (g.L.Link.reported c.run_part.new.link) (is.count_is ∙ c.requires.once) c.requires.chosen is.defined is.reports)
    c.run_part.ensures.done
