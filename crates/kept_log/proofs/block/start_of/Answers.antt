use Rattle.std.proofs.Common.{◌≡◌, ◌∙◌, ◌+◌, ◌-◌, ◌≤◌, ℕ, List, length, take, drop, sym, ap, arith, rules, length-drop}
use Rattle.std.proofs.lemmas.List.{length-take-le}
use Rattle.kept_log.specs.Format.{seal, head}
use Rattle.kept_log.proofs.Starts.{too_long, too_short, is_block, is_other}
use Rattle.kept_log.proofs.block.start_of.Goals as goal

pub returns-then-len-gt-MOST_BODY : goal.returns-then-len-gt-MOST_BODY
returns-then-len-gt-MOST_BODY c =
    let salt : length c.args.tip.now.salt ≡ 16 = search rules in
    too_long c.args.tip.now c.args.bytes.now c.long_at-len.result salt (omega (arith, c.if-bytes-lt-HEAD.false)) c.long_at-len.ensures (omega (arith, c.if-len-gt-MOST_BODY.true))

pub returns-then-bytes-len : goal.returns-then-bytes-len
returns-then-bytes-len c =
    let salt : length c.args.tip.now.salt ≡ 16 = search rules in
    too_short c.args.tip.now c.args.bytes.now c.long_at-len.result salt c.long_at-len.ensures (omega (arith, c.if-bytes-lt-HEAD.false, c.if-bytes-len.true))

pub returns-then-starts_with : goal.returns-then-starts_with
returns-then-starts_with c =
    let tip = c.args.tip.now in
    let bytes = c.args.bytes.now in
    let n = c.long_at-len.result in
    let salt : length c.args.tip.now.salt ≡ 16 = search rules in
    let all : 44 + n ≤ length bytes = omega (arith, c.if-bytes-lt-HEAD.false, c.if-bytes-len.false) in
    let width : 44 + n - 44 ≡ n = omega arith in
    let sealed : c.seal_of-digest.result ≡ seal tip (take n (drop 44 bytes)) = c.seal_of-digest.ensures ∙ ap (λ (k : ℕ). seal tip (take k (drop 44 bytes))) width in
    let first_is : c.deref.result.now ≡ head tip (take n (drop 44 bytes)) =
    c.deref.ensures.value ∙ c.in_ok-head.ensures (take n (drop 44 bytes)) (length-take-le n (drop 44 bytes) (omega (arith, all, length-drop 44 bytes))) sealed in
    is_block tip bytes c.deref.result.now n salt c.long_at-len.ensures all first_is c.seal_of-digest.result sealed (omega (arith, c.if-len-gt-MOST_BODY.false))
    (sym c.starts_with.ensures.value ∙ c.if-starts_with.true)

pub returns : goal.returns
returns c =
    let tip = c.args.tip.now in
    let bytes = c.args.bytes.now in
    let n = c.long_at-len.result in
    let salt : length c.args.tip.now.salt ≡ 16 = search rules in
    let all : 44 + n ≤ length bytes = omega (arith, c.if-bytes-lt-HEAD.false, c.if-bytes-len.false) in
    let width : 44 + n - 44 ≡ n = omega arith in
    let sealed : c.seal_of-digest.result ≡ seal tip (take n (drop 44 bytes)) = c.seal_of-digest.ensures ∙ ap (λ (k : ℕ). seal tip (take k (drop 44 bytes))) width in
    let first_is : c.deref.result.now ≡ head tip (take n (drop 44 bytes)) =
    c.deref.ensures.value ∙ c.in_ok-head.ensures (take n (drop 44 bytes)) (length-take-le n (drop 44 bytes) (omega (arith, all, length-drop 44 bytes))) sealed in
    is_other tip bytes c.deref.result.now n salt c.long_at-len.ensures all first_is (sym c.starts_with.ensures.value ∙ c.if-starts_with.false)
