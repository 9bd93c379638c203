use Rattle.std.proofs.Common.{◌≡◌, ◌+◌, false, length, min, subst, arith}
use Rattle.std.specs.Prelude.{if◌then◌else◌}
use Rattle.tcp_rules.specs.Early.{laid, run_count}
use Rattle.plain_packets.proofs.Runs.{runs_few, runs_joined}
use Rattle.plain_packets.proofs.places.runs_with.Goals as goal

pub overflow_sub-result : goal.overflow_sub-result
overflow_sub-result c =
    let text = c.args.places.now.items in
    let end : c.min-end.result ≡ min (c.args.at + (length c.args.bytes.now + 1)) (length text) =
    omega (arith, c.min-end.ensures, c.saturating_add.ensures, c.len.ensures, c.args.places.now.ok.0, c.args.places.now.small.0, c.args.places.now.small.1) in
    let joined = runs_joined c.args.at c.min-end.result c.loop-place.place c.loop-place.met c.follows_byte-continues.result c.args.bytes.now text c.requires.some end
    c.loop-place-test.false c.loop-place.auto.place-end c.loop-place.invariant.0 c.follows_byte-continues.ensures in
    let most : run_count (laid c.args.at c.args.bytes.now text) + c.loop-place.met ≡ run_count text + 0 =
    subst (λ b. run_count (laid c.args.at c.args.bytes.now text) + c.loop-place.met ≡ run_count text + (if b then 0 else 1)) c.if-continues.true joined in
    omega (arith, most, c.requires.runs)

pub returns-then-continues : goal.returns-then-continues
returns-then-continues c =
    let text = c.args.places.now.items in
    let end : c.min-end.result ≡ min (c.args.at + (length c.args.bytes.now + 1)) (length text) =
    omega (arith, c.min-end.ensures, c.saturating_add.ensures, c.len.ensures, c.args.places.now.ok.0, c.args.places.now.small.0, c.args.places.now.small.1) in
    let joined = runs_joined c.args.at c.min-end.result c.loop-place.place c.loop-place.met c.follows_byte-continues.result c.args.bytes.now text c.requires.some end
    c.loop-place-test.false c.loop-place.auto.place-end c.loop-place.invariant.0 c.follows_byte-continues.ensures in
    let most : run_count (laid c.args.at c.args.bytes.now text) + c.loop-place.met ≡ run_count text + 0 =
    subst (λ b. run_count (laid c.args.at c.args.bytes.now text) + c.loop-place.met ≡ run_count text + (if b then 0 else 1)) c.if-continues.true joined in
    omega (arith, most, c.requires.runs)

pub overflow_add-result : goal.overflow_add-result
overflow_add-result c =
    omega (arith, c.requires.runs, runs_few false c.args.places.now.items, c.args.places.now.ok.0, c.args.places.now.small.0, c.args.places.now.small.1)

pub overflow_sub-result-else-continues : goal.overflow_sub-result-else-continues
overflow_sub-result-else-continues c =
    let text = c.args.places.now.items in
    let end : c.min-end.result ≡ min (c.args.at + (length c.args.bytes.now + 1)) (length text) =
    omega (arith, c.min-end.ensures, c.saturating_add.ensures, c.len.ensures, c.args.places.now.ok.0, c.args.places.now.small.0, c.args.places.now.small.1) in
    let joined = runs_joined c.args.at c.min-end.result c.loop-place.place c.loop-place.met c.follows_byte-continues.result c.args.bytes.now text c.requires.some end
    c.loop-place-test.false c.loop-place.auto.place-end c.loop-place.invariant.0 c.follows_byte-continues.ensures in
    let most : run_count (laid c.args.at c.args.bytes.now text) + c.loop-place.met ≡ run_count text + 1 =
    subst (λ b. run_count (laid c.args.at c.args.bytes.now text) + c.loop-place.met ≡ run_count text + (if b then 0 else 1)) c.if-continues.false joined in
    omega (arith, most, c.requires.runs)

pub returns-else-continues : goal.returns-else-continues
returns-else-continues c =
    let text = c.args.places.now.items in
    let end : c.min-end.result ≡ min (c.args.at + (length c.args.bytes.now + 1)) (length text) =
    omega (arith, c.min-end.ensures, c.saturating_add.ensures, c.len.ensures, c.args.places.now.ok.0, c.args.places.now.small.0, c.args.places.now.small.1) in
    let joined = runs_joined c.args.at c.min-end.result c.loop-place.place c.loop-place.met c.follows_byte-continues.result c.args.bytes.now text c.requires.some end
    c.loop-place-test.false c.loop-place.auto.place-end c.loop-place.invariant.0 c.follows_byte-continues.ensures in
    let most : run_count (laid c.args.at c.args.bytes.now text) + c.loop-place.met ≡ run_count text + 1 =
    subst (λ b. run_count (laid c.args.at c.args.bytes.now text) + c.loop-place.met ≡ run_count text + (if b then 0 else 1)) c.if-continues.false joined in
    omega (arith, most, c.requires.runs)
