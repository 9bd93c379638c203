use Rattle.std.proofs.Common.{◌≡◌, ◌∙◌, ◌≤◌, ◌++◌, Bool, true, ℕ, List, length, sym, ap, subst, arith, IsOk, if◌then◌else◌}
use Rattle.std.proofs.lemmas.Bool.{ltb-false}
use Rattle.std.proofs.lemmas.List.{length-append}
use Rattle.std.specs.Result.{is_ok}
use Rattle.forget_store.specs.AnyMessage.{any_said}
use Rattle.kept_log.specs.JournaledLog.{Waits}
use Rattle.kept_log.proofs.Messages.{any_whole, spelling_heeded}
use Rattle.kept_log.proofs.Logs.{waits_more}
use Rattle.kept_log.proofs.kept.KeptLog.take.Goals as goal

grown : (b : Bool) (xs ys zs : List ℕ) → b ≡ true → zs ≡ (if b then xs else ys) → zs ≡ xs
grown b xs ys zs ok is = is ∙ ap (λ c. if c then xs else ys) ok

pub unwrap-requires : goal.unwrap-requires
unwrap-requires c =
    let w = any_whole c.args.bytes.now (any_said c.args.any.now) (spelling_heeded c.args.self.now.heeded c.args.bytes.now (any_said c.args.any.now) c.requires.read) in
    let same : length c.self.inside.round.items ≡ length c.args.self.now.round = ap (λ k. length k.round) c.self.view_is in
    let room : length c.args.self.now.round ≤ 380205 = ltb-false 380205 (length c.args.self.now.round) c.requires.room in
    c.extend_from_slice.ensures.succeeds (omega (arith, w.few, same, room, c.self.invariant.1))

pub invariant_of-self-then-changes : goal.invariant_of-self-then-changes
invariant_of-self-then-changes c =
    let w = any_whole c.args.bytes.now (any_said c.args.any.now) (spelling_heeded c.args.self.now.heeded c.args.bytes.now (any_said c.args.any.now) c.requires.read) in
    let same : length c.self.inside.round.items ≡ length c.args.self.now.round = ap (λ k. length k.round) c.self.view_is in
    let room : length c.args.self.now.round ≤ 380205 = ltb-false 380205 (length c.args.self.now.round) c.requires.room in
    let ok : IsOk c.extend_from_slice.result = c.extend_from_slice.ensures.succeeds (omega (arith, w.few, same, room, c.self.invariant.1)) in
    let items = grown (is_ok c.extend_from_slice.result) (c.self.inside.round.items ++ c.args.bytes.now) c.self.inside.round.items _ ok c.extend_from_slice.ensures.items in
    (omega (arith, ap length items, length-append c.self.inside.round.items c.args.bytes.now, w.few, same, room), omega (arith, c.extend_from_slice.ensures.capacity, c.self.invariant.1))

pub returns-then-changes-clause-waits : goal.returns-then-changes-clause-waits
returns-then-changes-clause-waits c = λ before waits.
    let w = any_whole c.args.bytes.now (any_said c.args.any.now) (spelling_heeded c.args.self.now.heeded c.args.bytes.now (any_said c.args.any.now) c.requires.read) in
    let same : length c.self.inside.round.items ≡ length c.args.self.now.round = ap (λ k. length k.round) c.self.view_is in
    let room : length c.args.self.now.round ≤ 380205 = ltb-false 380205 (length c.args.self.now.round) c.requires.room in
    let ok : IsOk c.extend_from_slice.result = c.extend_from_slice.ensures.succeeds (omega (arith, w.few, same, room, c.self.invariant.1)) in
    let items = grown (is_ok c.extend_from_slice.result) (c.self.inside.round.items ++ c.args.bytes.now) c.self.inside.round.items _ ok c.extend_from_slice.ensures.items in
    let now : Waits before c.self.inside.round.items c.self.inside.store = subst (λ k. Waits before k.round k.log) (sym c.self.view_is) waits in
    subst (λ r. Waits before r c.take_any.new.log) (sym items)
    (waits_more before c.self.inside.store c.take_any.new.log c.self.inside.round.items c.args.bytes.now (any_said c.args.any.now) now
    (spelling_heeded c.args.self.now.heeded c.args.bytes.now (any_said c.args.any.now) c.requires.read) c.in_ok-take_any.ensures.next)
