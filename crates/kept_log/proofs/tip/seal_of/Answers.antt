use Rattle.std.proofs.Common.{◌≡◌, ◌∙◌, ℕ, List, [], ◌++◌, length, ap}
use Rattle.seq_arith.specs.MessageGrammar.{number_bytes}
use Rattle.kept_log.specs.Format.{digest, seal}
use Rattle.kept_log.proofs.tip.seal_of.Goals as goal

pub returns : goal.returns
unfolding seal number_bytes
returns c =
    let tip = c.args.tip.now in
    let body = c.args.body.now in
    let a = c.update.ensures [] c.new-hasher.ensures in
    let b = c.update-2.ensures _ a in
    let d = c.update-3.ensures _ b in
    let e = c.update-4.ensures _ d in
    let p : c.as_slice.result.now ≡ tip.previous = c.as_slice.ensures in
    let n : c.as_slice-2.result.now ≡ number_bytes 8 tip.number = c.as_slice-2.ensures ∙ c.to_be_bytes-number.ensures in
    let l : c.as_slice-3.result.now ≡ number_bytes 4 (length body) = c.as_slice-3.ensures ∙ c.to_be_bytes-len.ensures in
    c.half_of.ensures _ e
    ∙ (ap (λ (x : List ℕ). digest (((x ++ c.as_slice-2.result.now) ++ c.as_slice-3.result.now) ++ body)) p
    ∙ (ap (λ (x : List ℕ). digest (((tip.previous ++ x) ++ c.as_slice-3.result.now) ++ body)) n ∙ ap (λ (x : List ℕ). digest (((tip.previous ++ number_bytes 8 tip.number) ++ x) ++ body)) l))
