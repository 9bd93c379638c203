use Rattle.std.proofs.Common.{◌≡◌, ◌∙◌, sym, arith}
use Rattle.std.proofs.lemmas.Bool.{both_ways}
use Rattle.kept_log.proofs.Headers.{missing_few}
use Rattle.kept_log.proofs.header.begin_of.Goals as goal
use Rattle.kept_log.proofs.header.begin_of.Goals.{then-starts_with-2, else-starts_with-2}

pub returns-else-starts_with-3 : goal.returns-else-starts_with-3
returns-else-starts_with-3 c = λ more end. elim c.if-starts_with-2.branch [
  | then-starts_with-2 w ↦ absurd (both_ways c.if-starts_with-2.value c.if-starts_with-3.false (w.value-is ∙ w.if-starts_with-2.true))
  | else-starts_with-2 w ↦
      missing_few c.args.bytes.now (omega (arith, c.if-bytes-ge-HEADER.false)) (sym c.starts_with.ensures.value ∙ c.if-starts_with.false)
      (sym c.starts_with-2.ensures.value ∙ w.if-starts_with-2.false)
      (sym w.starts_with-else-starts_with-2.ensures.value ∙ (sym w.value-is ∙ c.if-starts_with-3.false)) more end
]
