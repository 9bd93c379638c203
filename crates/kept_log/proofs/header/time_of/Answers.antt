use Rattle.std.proofs.Common.{◌≡◌, ◌∙◌, true, false, nat_eq, ℕ, List, length, take, drop, sym, ap, subst, arith, length-drop}
use Rattle.std.specs.List.{starts_with}
use Rattle.std.proofs.lemmas.Bool.{both_ways}
use Rattle.std.proofs.lemmas.List.{length-take-le, take_rest}
use Rattle.kept_log.specs.Format.{magic}
use Rattle.kept_log.proofs.Headers.{has_header, missing_long}
use Rattle.kept_log.proofs.header.time_of.Goals as goal
use Rattle.kept_log.proofs.header.time_of.Goals.{else-starts_with-via-then-starts_with+else-starts_with-2, else-starts_with-via-else-starts_with}

pub returns-then-starts_with-2 : goal.returns-then-starts_with-2
returns-then-starts_with-2 c =
    let bytes = c.args.bytes.now in
    let made = c.copy_from_slice.new.self in
    let salt = c.salt_at-salt.result in
    let made_is : made ≡ take 8 (drop 8 bytes) = c.copy_from_slice.ensures.after in
    let second : starts_with nat_eq (drop 16 bytes) salt ≡ true =
    subst (λ (l : List ℕ). starts_with nat_eq l salt ≡ true) (take_rest bytes 16) (sym c.starts_with-then-starts_with.ensures.value ∙ c.if-starts_with-2.true) in
    has_header bytes made salt c.requires.long made_is c.salt_at-salt.ensures (ap length made_is ∙ length-take-le 8 (drop 8 bytes) (omega (arith, c.requires.long, length-drop 8 bytes)))
    (sym c.starts_with.ensures.value ∙ c.if-starts_with.true) second

pub returns-else-starts_with : goal.returns-else-starts_with
returns-else-starts_with c =
    let bytes = c.args.bytes.now in
    let made = c.copy_from_slice.new.self in
    let salt = c.salt_at-salt.result in
    let made_is : made ≡ take 8 (drop 8 bytes) = c.copy_from_slice.ensures.after in
    missing_long bytes made salt c.requires.long made_is c.salt_at-salt.ensures c.requires.not_older (λ first second. elim c.else-starts_with.branch [
      | else-starts_with-via-then-starts_with+else-starts_with-2 w ↦
          both_ways (starts_with nat_eq (drop 16 bytes) salt)
          (subst (λ (l : List ℕ). starts_with nat_eq l salt ≡ false) (take_rest bytes 16) (sym w.starts_with-then-starts_with.ensures.value ∙ w.if-starts_with-2.false)) second
      | else-starts_with-via-else-starts_with w ↦ both_ways (starts_with nat_eq bytes magic) (sym c.starts_with.ensures.value ∙ w.if-starts_with.false) first
    ])
