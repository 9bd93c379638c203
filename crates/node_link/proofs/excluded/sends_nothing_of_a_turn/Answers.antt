use Rattle.std.proofs.Common.{◌≡◌, ◌∙◌, ap, refl, subst, sym, ℕ, List, map}
use Rattle.std.proofs.lemmas.Result.{on_ok_weaker}
use Rattle.std.specs.declared.option.Option.{Option}
use Rattle.ft_io.specs.declared.link_call.LinkCall.{LinkCall}
use Rattle.ft_io.specs.Reported.{Reports}
use Rattle.ft_model.specs.Lawful.{hello}
use Rattle.ft_model.specs.Legal.{machines}
use Rattle.ft_model.specs.Node.{Stage as law_stage}
use Rattle.ft_model.specs.Node.Input.{Tick_comes}
use Rattle.ft_model.specs.Wire.{wire_by}
use Rattle.server_trait.specs.Service.{Machine}
use Rattle.node_serving.specs.Identity.{node_of, grammar_in}
use Rattle.server_node.specs.Stages.{StageStands, NodeGoes}
use Rattle.server_node.specs.declared.stage.Stage.TheVariants as stages
use Rattle.link_parts.specs.declared.counts.Counts.{Counts}
use Rattle.link_parts.specs.declared.role.Loggers.{Loggers}
use Rattle.node_link.specs.ServerParts.{Standing, standing_of, Goes, HasTurned}
use Rattle.node_link.specs.ServerTurns.{ServerTurn, input_from, turn_calls, wires_in}
use Rattle.node_link.proofs.excluded.sends_nothing_of_a_turn.Goals as goal

-- a node that asks sends Hello at a tick
says_hello : {State : Type 0} (services : ℕ → Machine State) (loggers : Loggers) (before after : Standing State) (old new : Option (List LinkCall)) (counted counts : Counts)
    → before.stage ≡ stages.Asking → HasTurned services loggers before after old new counted counts
    → (turn : ServerTurn) × Reports old new (turn_calls loggers turn)
    × (input_from (grammar_in before.who) loggers turn.received ≡ Tick_comes
    → wires_in turn.sent ≡ map (wire_by (grammar_in before.who)) (hello (node_of before.who law_stage.Asking)))
says_hello services loggers before after old new counted counts asks t = (
  t.turn,
  t.reports,
  λ tick.
      let went : NodeGoes (services before.who.kind) (node_of before.who law_stage.Asking) Tick_comes before.who after.stage (wires_in t.turn.sent) =
      subst (λ i. Goes services before i after (wires_in t.turn.sent)) tick t.goes law_stage.Asking tt tt
      (subst (λ s. StageStands (services before.who.kind) (node_of before.who law_stage.Asking) s) (sym asks) refl) in
      went.wires ∙ ap (map (wire_by (grammar_in before.who))) went.turn.stage.1,
)

pub returns : goal.returns
returns g c =
    on_ok_weaker c.take_turn.result
    (says_hello (machines g.S.Service.started g.S.Service.after g.S.Service.greeting) c.args.loggers (standing_of c.args.node.now) (standing_of c.take_turn.new.node) (g.L.Link.reported c.args.link.now)
    (g.L.Link.reported c.take_turn.new.link) c.args.counts.now c.take_turn.new.counts c.requires.asks)
    c.take_turn.ensures.turned
