-- What is made, one piece more.
use Rattle.std.proofs.Common.{◌≡◌, ℕ, ◌+◌, ◌%◌, [], ◌∷◌, ◌++◌, refl, add-one}
use Rattle.std.specs.Prelude.{decimal, codes}
use Rattle.web_service.specs.Answer.{made_bytes, made_lines}

pub bytes_none : made_bytes 0 ≡ []
unfolding made_bytes
bytes_none = refl

pub bytes_more : (n : ℕ) → made_bytes (n + 1) ≡ made_bytes n ++ n % 251 ∷ []
unfolding made_bytes
bytes_more n = rw add-one refl

pub lines_none : made_lines 0 ≡ []
unfolding made_lines
lines_none = refl

pub lines_more : (n : ℕ) → made_lines (n + 1) ≡ made_lines n ++ decimal (n + 1) ++ codes "\n"
unfolding made_lines
lines_more n = rw add-one refl
