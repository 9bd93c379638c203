use Rattle.std.proofs.Common.{◌≡◌, ◌∙◌, ◌≤◌, Some, None, option_map, slice_get, take, length, ◌++◌, append-nil, append_assoc, refl, sym, ap, ap₂, arith, add-one}
use Rattle.std.specs.Map.{keys_of}
use Rattle.std.proofs.lemmas.List.{take_all}
use Rattle.server_node.specs.Places.{slots_at}
use Rattle.lasting_node.specs.Tending.{forget_due, forgets_due}
use Rattle.lasting_node.specs.Turns.{known_of}
use Rattle.lasting_node.proofs.Due.{sends_none, sends_more, due_same, key_of_slot, key_count, flat_step, within_some, none_mapped}
use Rattle.lasting_node.proofs.node.LastingNode.forget_all.Goals as goal

pub loop-i-init : goal.loop-i-init
loop-i-init g c = (sends_none c.args.self.now, sym (append-nil c.args.self.now.own.sent.items), refl)

pub loop-i-preserved : goal.loop-i-preserved
loop-i-preserved g c =
    let was = c.args.self.now in
    let mid = c.loop-i.self in
    let es = slots_at was.node.stage in
    let key = c.in-Some.key in
    let found : Some key ≡ option_map (λ e. e.0) (slice_get es c.loop-i.i) =
    sym c.in-Some.is ∙ (c.key_at.ensures ∙ ap (λ x. option_map (λ e. e.0) (slice_get (slots_at x.stage) c.loop-i.i)) c.loop-i.invariant.0.node) in
    let due : forget_due mid (known_of mid key) ≡ forget_due was (known_of was key) = due_same was mid key c.loop-i.invariant.0 in (
      sends_more was mid c.forget_one.new.self c.loop-i.invariant.0 c.forget_one.ensures.only,
      rw (add-one)
          (c.in_ok-forget_one.ensures.sent
          ∙ (ap₂ (λ a b. a ++ b) c.loop-i.invariant.1 due
          ∙ (append_assoc was.own.sent.items (forgets_due was (take c.loop-i.i (keys_of es))) (forget_due was (known_of was key))
          ∙ ap (λ ws. was.own.sent.items ++ ws) (sym (flat_step (λ k. forget_due was (known_of was k)) (keys_of es) c.loop-i.i key (key_of_slot es c.loop-i.i key found)))))),
      c.forget_one.ensures.own ∙ c.loop-i.invariant.2,
    )

pub returns-in_default-clause-sent : goal.returns-in_default-clause-sent
returns-in_default-clause-sent g c =
    let was = c.args.self.now in
    let none : slice_get (slots_at was.node.stage) c.loop-i.i ≡ None = none_mapped (λ e. e.0) (slice_get (slots_at was.node.stage) c.loop-i.i)
    (sym (ap (λ x. option_map (λ e. e.0) (slice_get (slots_at x.stage) c.loop-i.i)) c.loop-i.invariant.0.node) ∙ (sym c.key_at.ensures ∙ c.in_default.is)) in
    within_some (slots_at was.node.stage) c.loop-i.i (omega (arith, c.loop-i-test.true, c.places-i-end.ensures)) none

pub returns-clause-sent : goal.returns-clause-sent
returns-clause-sent g c =
    let was = c.args.self.now in
    let es = slots_at was.node.stage in
    let past : length (keys_of es) ≤ c.loop-i.i = omega (arith, c.loop-i-test.false, c.places-i-end.ensures, key_count es) in
    c.loop-i.invariant.1 ∙ ap (λ ks. was.own.sent.items ++ forgets_due was ks) (take_all c.loop-i.i (keys_of es) past)

pub returns-in_default-clause-only : goal.returns-in_default-clause-only
returns-in_default-clause-only g c = c.loop-i.invariant.0

pub returns-clause-only : goal.returns-clause-only
returns-clause-only g c = c.loop-i.invariant.0

pub returns-in_err-forget_one-clause-only : goal.returns-in_err-forget_one-clause-only
returns-in_err-forget_one-clause-only g c = sends_more c.args.self.now c.loop-i.self c.forget_one.new.self c.loop-i.invariant.0 c.forget_one.ensures.only
