use Rattle.std.proofs.Common.{◌≡◌, ℕ, ◌+◌, length, length-drop, take, true, false, refl, sym, ap, ◌∙◌, arith}
use Rattle.std.proofs.lemmas.List.{take_rest}
use Rattle.mail_service.specs.Command.{parameter_of, is_kind, any_word}
use Rattle.mail_service.proofs.Words.{word_first}
use Rattle.mail_service.proofs.command.any_word.Goals as goal

pub returns-then-is_kind : goal.returns-then-is_kind
returns-then-is_kind c =
    let rest = c.loop-at.rest in
    let found = c.in-Some.ensures in
    let within = found.0.high in
    let is : is_kind c.args.kind (parameter_of (take c.in-Some.at rest.now)) ≡ true =
    ap (is_kind c.args.kind) (sym c.parameter_of.ensures) ∙ sym c.is_kind.ensures ∙ c.if-is_kind.true in
    sym (sym c.loop-at.invariant.same ∙ word_first c.args.kind rest.now c.in-Some.at (omega arith) found.0.before found.1 ∙ rw is refl)

pub overflow_add-rest : goal.overflow_add-rest
overflow_add-rest c =
    let within = c.in-Some.ensures.0.high in
    let short = c.loop-at.invariant.short in
    let fits = c.type_inv.words in
    grind arith

pub loop-at-preserved : goal.loop-at-preserved
loop-at-preserved c =
    let rest = c.loop-at.rest.now in
    let found = c.in-Some.ensures in
    let within = found.0.high in
    let other : is_kind c.args.kind (parameter_of (take c.in-Some.at rest)) ≡ false =
    ap (is_kind c.args.kind) (sym c.parameter_of.ensures) ∙ sym c.is_kind.ensures ∙ c.if-is_kind.false in
    let behind = take_rest rest (c.in-Some.at + 1) in
    let first = word_first c.args.kind rest c.in-Some.at (omega arith) found.0.before found.1 in
    record {
      short = let shorter = ap (length {A = ℕ}) behind in let less = length-drop (c.in-Some.at + 1) rest in let short = c.loop-at.invariant.short in omega arith;
      same = ap (any_word c.args.kind) behind ∙ sym (first ∙ rw other refl) ∙ c.loop-at.invariant.same;
    }
