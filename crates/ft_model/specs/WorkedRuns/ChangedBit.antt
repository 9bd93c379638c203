-- A logger accepts a Data with a changed bit as one of its own server's: it keeps a byte that no client sent, and answers. By the message grammar a packet
-- with a changed bit is no message, so by the law nothing happens.
use Rattle.std.specs.Prelude.{codes, List, [], ◌∷◌}
use Rattle.ft_model.specs.World.{Moment}
use Rattle.ft_model.specs.declared.event.Event.TheVariants.{Flip}
use Rattle.ft_model.specs.WorkedRuns.FirstPath.{moment, opening_trace, moment_11, moment_12, packet_12, opened_entry, log_with}

-- the first path, until the Data is in flight
abbrev pub earlier : List Moment
earlier = moment_12 ∷ moment_11 ∷ opening_trace

-- the lowest bit of the first byte of its text is changed
abbrev pub wrong : Moment
wrong = moment (Flip 10 248) (packet_12 ∷ []) (record moment_12.world { log = log_with (record opened_entry { bytes = codes "iello" } ∷ []) })
