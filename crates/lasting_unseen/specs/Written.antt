-- Parcels that can be written, so that their reader reads them back.
use Rattle.seq_arith.specs.declared.kinds.Grammar.{Grammar}
use Rattle.ft_model.specs.Wire.{HasWireBy}
use Rattle.long_laws.specs.ForgetGrammar.{IsSpellable}
use Rattle.lasting_laws.specs.LastingWorld.{Parcel}
use Rattle.lasting_laws.specs.LastingWorld.Parcel.{Usual, Forget_sent, Forgotten_sent}

-- it has a spelling, which is read as it
abbrev pub IsWritten : Grammar → Parcel → Type 0
IsWritten grammar (Usual packet) = HasWireBy grammar packet
IsWritten grammar (Forget_sent message) = IsSpellable message
IsWritten grammar (Forgotten_sent message) = IsSpellable message
