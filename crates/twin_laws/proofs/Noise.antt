-- What the grammars refuse is noise to a logger, and so is whatever reached it with one bit changed.
use Rattle.std.proofs.Common.{◌≡◌, ℕ, ◌<◌, ◌*◌, List, length, refl, sym, true≢false}
use Rattle.std.specs.Prelude.{Result, Ok, Err, IsErr}
use Rattle.seq_arith.specs.declared.kinds.BadMsg.{BadMsg}
use Rattle.seq_arith.specs.declared.kinds.Grammar.{Grammar}
use Rattle.seq_arith.specs.declared.twin.BadTwin.{BadTwin}
use Rattle.seq_arith.specs.Damage.{flipped}
use Rattle.seq_arith.specs.Message.{Message}
use Rattle.seq_arith.specs.TwinDatagram.{TwinDatagram}
use Rattle.seq_arith.specs.TwinGrammar.{reading_by}
use Rattle.seq_arith.proofs.Flipped.{flipped_twin_is_refused_by}
use Rattle.twin_laws.specs.Twin.{from_other_logger, asked}
use Rattle.twin_laws.specs.Twin.Comes.{Is_noise}

pub reported_nothing : (grammar : Grammar) (r : Result TwinDatagram BadTwin) → IsErr r → from_other_logger grammar r ≡ Is_noise
reported_nothing grammar (Err why) refused = refl
reported_nothing grammar (Ok datagram) refused = absurd (true≢false (sym refused))

pub asked_nothing : (bytes : List ℕ) (r : Result Message BadMsg) → IsErr r → asked bytes r ≡ Is_noise
asked_nothing bytes (Err why) refused = refl
asked_nothing bytes (Ok message) refused = absurd (true≢false (sym refused))

pub flipped_is_noise : (grammar : Grammar) (bit : ℕ) (bytes : List ℕ) (datagram : TwinDatagram) → reading_by grammar bytes ≡ Ok datagram → bit < 8 * length bytes
    → from_other_logger grammar (reading_by grammar (flipped bit bytes)) ≡ Is_noise
flipped_is_noise grammar bit bytes datagram is within = reported_nothing grammar (reading_by grammar (flipped bit bytes)) (flipped_twin_is_refused_by grammar bit bytes datagram is within)
