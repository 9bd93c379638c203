use Rattle.std.proofs.Common.{◌≡◌, ℕ, ◌+◌, length, length-drop, take, true, false, refl, sym, ap, ◌∙◌, arith}
use Rattle.std.proofs.lemmas.List.{take_rest}
use Rattle.web_service.specs.Text.{same_word, trimmed, has_option}
use Rattle.web_service.proofs.Texts.{any_option, option_first}
use Rattle.web_service.proofs.text.has_option.Goals as goal

pub returns-then-same_word : goal.returns-then-same_word
unfolding has_option
returns-then-same_word c =
    let word = c.args.word.now in
    let rest = c.loop-at.rest.now in
    let found = c.in-Some.ensures in
    let within = found.0.high in
    let is : same_word (trimmed (take c.in-Some.at rest)) word ≡ true =
    ap (λ part. same_word part word) (sym c.trimmed.ensures) ∙ sym c.same_word.ensures ∙ c.if-same_word.true in
    sym (sym c.loop-at.invariant.same ∙ option_first word rest c.in-Some.at (omega arith) found.0.before found.1 ∙ rw is refl)

pub overflow_add-rest : goal.overflow_add-rest
overflow_add-rest c =
    let within = c.in-Some.ensures.0.high in
    let short = c.loop-at.invariant.short in
    let fits = c.type_inv.value in
    grind arith

pub loop-at-preserved : goal.loop-at-preserved
loop-at-preserved c =
    let word = c.args.word.now in
    let rest = c.loop-at.rest.now in
    let found = c.in-Some.ensures in
    let within = found.0.high in
    let other : same_word (trimmed (take c.in-Some.at rest)) word ≡ false =
    ap (λ part. same_word part word) (sym c.trimmed.ensures) ∙ sym c.same_word.ensures ∙ c.if-same_word.false in
    let behind = take_rest rest (c.in-Some.at + 1) in
    let first = option_first word rest c.in-Some.at (omega arith) found.0.before found.1 in
    record {
      short = let shorter = ap (length {A = ℕ}) behind in let less = length-drop (c.in-Some.at + 1) rest in let short = c.loop-at.invariant.short in omega arith;
      same = ap (any_option word) behind ∙ sym (first ∙ rw other refl) ∙ c.loop-at.invariant.same;
    }
