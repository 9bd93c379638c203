-- What was sent, as bytes: a packet has its one spelling, and a datagram between the loggers is read as it was sent.
use Rattle.std.specs.Prelude.{◌≡◌}
use Rattle.seq_arith.specs.TwinGrammar as twins
use Rattle.seq_arith.specs.declared.kinds.Grammar.{Grammar}
use Rattle.ft_model.specs.Wire.{HasWireBy}
use Rattle.twin_laws.specs.Twin.{Between, from_other_logger, bytes_of}
use Rattle.twin_laws.specs.Twin.Comes.{Reports}
use Rattle.twin_laws.specs.TwinWorld.{Parcel, CanBeSent}
use Rattle.twin_laws.specs.TwinWorld.Parcel.{Outside, Inside}

abbrev pub IsRead : Grammar → Between → Type 0
IsRead grammar between = CanBeSent grammar between × (from_other_logger grammar (twins.reading_by grammar (bytes_of between)) ≡ Reports between)

abbrev pub IsWritten : Grammar → Parcel → Type 0
IsWritten grammar (Outside packet) = HasWireBy grammar packet
IsWritten grammar (Inside between) = IsRead grammar between
