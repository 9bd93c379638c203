-- A part of the client's stream, as the messages that carry it.
use Rattle.std.specs.Prelude.{Bool, ◌+◌, ◌&&◌, not, List, length, if◌then◌else◌}
use Rattle.seq_arith.specs.Message.{Body, Part}
use Rattle.ft_model.specs.Copy.{datas, batch}

abbrev pub datas_of : Part → List Body
datas_of part = datas (length part.bytes + 1) part.key part.acked part.offset part.bytes part.fin

-- a part, and whether the same turn sends a later one. Then no FIN follows it
abbrev pub followed : Bool → Part → Part
followed more part = record part { fin = not more && part.fin; more = more }

-- the Data of a turn, as a batch where the log answers only the last
abbrev pub batched : Bool → List Body → List Body
batched batches bodies = if batches then batch bodies else bodies
