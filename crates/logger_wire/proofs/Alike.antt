-- The grammars read every kind but Data alike.
use Rattle.std.proofs.Common.{◌≡◌, ℕ, List, refl}
use Rattle.seq_arith.specs.declared.kinds.Grammar.{Grammar}
use Rattle.seq_arith.specs.declared.kinds.Grammar.TheVariants.{Plain}
use Rattle.seq_arith.specs.declared.kinds.Kind.TheVariants as kinds
use Rattle.logger_wire.specs.Places.{placed}

pub an_entry : (grammar : Grammar) (bytes : List ℕ) → placed Plain kinds.Entry bytes ≡ placed grammar kinds.Entry bytes
an_entry grammar bytes = refl

pub bytes_asked : (grammar : Grammar) (bytes : List ℕ) → placed Plain kinds.Bytes bytes ≡ placed grammar kinds.Bytes bytes
bytes_asked grammar bytes = refl

pub a_part : (grammar : Grammar) (bytes : List ℕ) → placed Plain kinds.Part bytes ≡ placed grammar kinds.Part bytes
a_part grammar bytes = refl

pub lengths : (grammar : Grammar) (bytes : List ℕ) → placed Plain kinds.Lens bytes ≡ placed grammar kinds.Lens bytes
lengths grammar bytes = refl
