use Rattle.std.proofs.Common.{refl, sym, ◌≡◌, ◌∙◌, ◌≤◌, ◌^◌, ◌-◌, true, false, option_map, ◌++◌, ap, ap₂, subst}
use Rattle.std.specs.Map.{lookup}
use Rattle.ft_io.specs.Key.{key_eq}
use Rattle.ft_io.proofs.Outcomes.{of_error}
use Rattle.ft_model.specs.Node.Input.{Tick_comes}
use Rattle.server_node.specs.StageTurns.{IsFenceOf}
use Rattle.server_node.specs.Places.{is_serving}
use Rattle.lasting_lives.specs.Lives.{older}
use Rattle.lasting_node.proofs.Ticked.{ticks_early, ticks_on, older_known}
use Rattle.lasting_node.proofs.Reading.{memory_of_tick, proceeds_to}
use Rattle.lasting_node.proofs.node.LastingNode.tick.Goals as goal

pub returns-then-not-is_serving-clause-turn : goal.returns-then-not-is_serving-clause-turn
returns-then-not-is_serving-clause-turn g c =
    let was = c.args.self.now in
    let mid = c.go.new.self in
    let alone = c.go.ensures.alone in
    let waits : is_serving mid.node.stage ≡ false = sym c.is_serving.ensures ∙ c.if-not-is_serving.true in
    ticks_early was c.requires _ (proceeds_to Tick_comes was mid _ refl c.in_ok-go.ensures.turn)
    (record { who = alone.who; patience = alone.patience; lives = alone.lives; own = alone.own; is_own = alone.is_own }) waits

pub tend_all-requires : goal.tend_all-requires
tend_all-requires g c =
    let serves : is_serving c.go.new.self.node.stage ≡ true = sym c.is_serving.ensures ∙ c.if-not-is_serving.false in
    ap (λ x. is_serving x.stage) c.send_nothing.ensures.same.node ∙ serves

pub returns-clause-turn : goal.returns-clause-turn
returns-clause-turn g c =
    let was = c.args.self.now in
    let mid = c.go.new.self in
    let still = c.send_nothing.new.self in
    let serves : is_serving mid.node.stage ≡ true = sym c.is_serving.ensures ∙ c.if-not-is_serving.false in
    let small : was.patience.wait ≤ 2 ^ 32 - 1 = was.counts in
    ticks_on was c.requires mid _ c.tend_all.new.self c.forget_all.new.self small c.in_ok-go.ensures.turn c.go.ensures.alone serves c.send_nothing.ensures.same.node
    (c.send_nothing.ensures.same.patience ∙ c.go.ensures.alone.patience)
    (λ key. ap (λ l. lookup (key_eq key) l) c.tick.ensures ∙ (older_known key still.lives ∙ ap (λ l. option_map older (lookup (key_eq key) l)) (c.send_nothing.ensures.same.lives ∙ c.go.ensures.alone.lives)))
    (c.in_ok-append.ensures ∙ ap₂ (λ a b. a ++ b) c.send_nothing.ensures.nothing (c.sent.ensures ∙ ap (λ x. x.turn.sent.items) c.send_nothing.ensures.same.node))
    c.in_ok-tend_all.ensures.turn c.tend_all.ensures.same.0 c.tend_all.ensures.same.1 c.in_ok-forget_all.ensures.sent c.forget_all.ensures.only
    (c.forget_all.ensures.own ∙ (c.tend_all.ensures.same.2 ∙ c.send_nothing.ensures.own))

pub returns-in_err-go-clause-fenced : goal.returns-in_err-go-clause-fenced
returns-in_err-go-clause-fenced g c =
    of_error c.from_residual.result c.from_residual.ensures.1
    (λ end is. memory_of_tick c.args.self.now.node.who end (subst (IsFenceOf c.args.self.now.node.who Tick_comes) (sym is) c.in_err-go.ensures.fenced))

pub returns-clause-same : goal.returns-clause-same
returns-clause-same g c = (
  ap (λ x. x.who) c.forget_all.ensures.only.node ∙ (c.tend_all.ensures.same.0 ∙ (ap (λ x. x.who) c.send_nothing.ensures.same.node ∙ c.go.ensures.alone.who)),
  c.forget_all.ensures.only.patience ∙ (c.tend_all.ensures.same.1 ∙ (c.send_nothing.ensures.same.patience ∙ c.go.ensures.alone.patience)),
)

pub returns-in_err-tend_all-clause-same : goal.returns-in_err-tend_all-clause-same
returns-in_err-tend_all-clause-same g c = (
  c.tend_all.ensures.same.0 ∙ (ap (λ x. x.who) c.send_nothing.ensures.same.node ∙ c.go.ensures.alone.who),
  c.tend_all.ensures.same.1 ∙ (c.send_nothing.ensures.same.patience ∙ c.go.ensures.alone.patience),
)

pub returns-in_err-forget_all-clause-same : goal.returns-in_err-forget_all-clause-same
returns-in_err-forget_all-clause-same g c = (
  ap (λ x. x.who) c.forget_all.ensures.only.node ∙ (c.tend_all.ensures.same.0 ∙ (ap (λ x. x.who) c.send_nothing.ensures.same.node ∙ c.go.ensures.alone.who)),
  c.forget_all.ensures.only.patience ∙ (c.tend_all.ensures.same.1 ∙ (c.send_nothing.ensures.same.patience ∙ c.go.ensures.alone.patience)),
)
