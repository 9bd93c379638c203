-- Every script is one of bytes.
use Rattle.std.proofs.Common.{ℕ, zero, suc, ◌+◌, ◌<◌, ◌%◌, [], ◌∷◌, arith}
use Rattle.server_trait.specs.Service.{AreBytes}
use Rattle.ft_model.specs.declared.schedule.Script.{Script}
use Rattle.ft_model.specs.declared.schedule.Script.TheVariants.{Bytes, Fill}
use Rattle.ft_model.specs.Readable.{FitsScript}
use Rattle.ft_model.specs.Schedule.{letters, bytes_of}
use Rattle.ft_model.proofs.Formed.{all_of_bytes}
use Rattle.ft_model.proofs.Lists.{all_append}

letters_bytes : (n : ℕ) → AreBytes (letters n)
unfolding letters
letters_bytes zero = tt
letters_bytes (suc n) = all_append (λ c. c < 256) (letters n) ((97 + n % 26) ∷ []) (letters_bytes n) (omega arith, tt)

pub script_bytes : (script : Script) → FitsScript script → AreBytes (bytes_of script)
script_bytes (Bytes bytes) h = all_of_bytes bytes h
script_bytes (Fill n) h = letters_bytes n
