use Rattle.std.proofs.Common.{◌≡◌, ◌∙◌, ◌≤◌, Some, None, option_map, slice_get, length, refl, sym, ap, arith, add-one}
use Rattle.std.specs.Map.{keys_of}
use Rattle.std.proofs.lemmas.List.{take_all}
use Rattle.node_serving.specs.Identity.{node_of, service_of}
use Rattle.server_node.specs.Places.{slots_at}
use Rattle.lasting_node.specs.Turns.{known_of}
use Rattle.lasting_node.proofs.Noted.{notes_none, notes_more, same_stage}
use Rattle.lasting_node.proofs.Due.{within_some, none_mapped}
use Rattle.lasting_node.proofs.Watching.{restored_so_far, one_watched, all_watched}
use Rattle.lasting_node.proofs.node.LastingNode.watch_restored.Goals as goal

pub loop-i-init : goal.loop-i-init
loop-i-init g c = (notes_none c.args.self.now, λ at st k. refl)

pub loop-i-preserved : goal.loop-i-preserved
loop-i-preserved g c =
    let was = c.args.self.now in
    let mid = c.loop-i.self in
    let es = slots_at was.node.stage in
    let key = c.in-Some.key in
    let found : Some key ≡ option_map (λ e. e.0) (slice_get es c.loop-i.i) =
    sym c.in-Some.is ∙ (c.key_at.ensures ∙ ap (λ x. option_map (λ e. e.0) (slice_get (slots_at x.stage) c.loop-i.i)) c.loop-i.invariant.0.node) in (
      notes_more was mid c.watch_one_restored.new.self c.loop-i.invariant.0 c.watch_one_restored.ensures.only,
      λ at st k. rw (add-one)
          (one_watched es c.loop-i.i key at (known_of was) (known_of mid) (known_of c.watch_one_restored.new.self) found (c.loop-i.invariant.1 at st)
          (c.in_ok-watch_one_restored.ensures.watch at (same_stage at was mid c.loop-i.invariant.0.node st)) k),
    )

pub returns-in_default-clause-watches : goal.returns-in_default-clause-watches
returns-in_default-clause-watches g c =
    let was = c.args.self.now in
    let none : slice_get (slots_at was.node.stage) c.loop-i.i ≡ None = none_mapped (λ e. e.0) (slice_get (slots_at was.node.stage) c.loop-i.i)
    (sym (ap (λ x. option_map (λ e. e.0) (slice_get (slots_at x.stage) c.loop-i.i)) c.loop-i.invariant.0.node) ∙ (sym c.key_at.ensures ∙ c.in_default.is)) in
    within_some (slots_at was.node.stage) c.loop-i.i (omega (arith, c.loop-i-test.true, c.places-i-end.ensures)) none

pub returns-clause-watches : goal.returns-clause-watches
returns-clause-watches g c = λ at st key.
    let was = c.args.self.now in
    let es = slots_at was.node.stage in
    let past : length es ≤ c.loop-i.i = omega (arith, c.loop-i-test.false, c.places-i-end.ensures) in
    all_watched (service_of g.S.Service was.node.who) (node_of was.node.who at) was.node.stage at (known_of was) (known_of c.loop-i.self) refl st
    (λ k. c.loop-i.invariant.1 at st k ∙ ap (λ xs. restored_so_far at (keys_of xs) (known_of was) k) (take_all c.loop-i.i es past)) key

pub returns-in_default-clause-only : goal.returns-in_default-clause-only
returns-in_default-clause-only g c = c.loop-i.invariant.0

pub returns-clause-only : goal.returns-clause-only
returns-clause-only g c = c.loop-i.invariant.0

pub returns-in_err-watch_one_restored-clause-only : goal.returns-in_err-watch_one_restored-clause-only
returns-in_err-watch_one_restored-clause-only g c = notes_more c.args.self.now c.loop-i.self c.watch_one_restored.new.self c.loop-i.invariant.0 c.watch_one_restored.ensures.only
