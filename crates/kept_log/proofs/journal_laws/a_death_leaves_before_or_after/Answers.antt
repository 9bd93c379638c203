use Rattle.std.proofs.Common.{◌≡◌, refl}
use Rattle.kept_log.specs.Format.{front}
use Rattle.kept_log.proofs.journal_laws.a_death_leaves_before_or_after.Goals as goal
use Rattle.kept_log.proofs.Deaths.{before_or_after}

pub returns : goal.returns
returns c = λ made bodies body done left time small f l brings.
    before_or_after (front made bodies) (λ c. c ≡ front made bodies) made bodies body (record { time = time; is = refl; only = λ c is. is }) done left small f l brings
