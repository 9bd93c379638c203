use Rattle.std.proofs.Common.{◌∙◌, refl, sym, arith, add-one}
use Rattle.lasting_node.proofs.TendAll.{begins_tending, tends_next, tends_end, no_key_left}
use Rattle.lasting_node.proofs.node.LastingNode.tend_all.Goals as goal

pub loop-i-init : goal.loop-i-init
loop-i-init g c = ((λ n st. begins_tending n c.args.self.now c.requires c.apart.ensures st), refl, refl, refl)

pub loop-i-preserved : goal.loop-i-preserved
loop-i-preserved g c = (
  λ n st. rw (add-one)
      (tends_next n c.args.self.now c.loop-i.self c.loop-i.i (c.loop-i.invariant.0 n st) c.tend.new.self c.in-Some.key c.loop-i.invariant.1 c.loop-i.invariant.2 (sym c.in-Some.is ∙ c.key_at.ensures)
      c.in_ok-tend.ensures.turn),
  c.tend.ensures.same.0 ∙ c.loop-i.invariant.1,
  c.tend.ensures.same.1 ∙ c.loop-i.invariant.2,
  c.tend.ensures.same.2 ∙ c.loop-i.invariant.3,
)

pub returns-in_default-clause-turn : goal.returns-in_default-clause-turn
returns-in_default-clause-turn g c = λ n st.
    no_key_left n c.args.self.now c.loop-i.self c.loop-i.i (c.loop-i.invariant.0 n st) st (omega (arith, c.loop-i-test.true, c.places-i-end.ensures)) (sym c.key_at.ensures ∙ c.in_default.is)

pub returns-clause-turn : goal.returns-clause-turn
returns-clause-turn g c = λ n st.
    tends_end n c.args.self.now c.loop-i.self c.loop-i.i (c.loop-i.invariant.0 n st) st (omega (arith, c.loop-i-test.false, c.places-i-end.ensures))

pub returns-in_default-clause-same : goal.returns-in_default-clause-same
returns-in_default-clause-same g c = (c.loop-i.invariant.1, c.loop-i.invariant.2, c.loop-i.invariant.3)

pub returns-clause-same : goal.returns-clause-same
returns-clause-same g c = (c.loop-i.invariant.1, c.loop-i.invariant.2, c.loop-i.invariant.3)

pub returns-in_err-tend-clause-same : goal.returns-in_err-tend-clause-same
returns-in_err-tend-clause-same g c =
    (c.tend.ensures.same.0 ∙ c.loop-i.invariant.1, c.tend.ensures.same.1 ∙ c.loop-i.invariant.2, c.tend.ensures.same.2 ∙ c.loop-i.invariant.3)
