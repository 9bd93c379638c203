-- A server passes TCP's own acknowledgement on: its client learns that its five bytes are received before they are logged, and the crash loses them. The law
-- Acknowledgement refuses the turn.
use Rattle.std.specs.Prelude.{false, Some, None, List, [], ◌∷◌}
use Rattle.tcp_rules.specs.Profile.{plain}
use Rattle.seq_arith.specs.Message.{Message}
use Rattle.seq_arith.specs.Message.Body.{HelloMsg, SummaryMsg, DataMsg}
use Rattle.ft_model.specs.Client.{Client}
use Rattle.ft_model.specs.Node.{booted}
use Rattle.ft_model.specs.World.{Moment}
use Rattle.ft_model.specs.declared.event.Event.TheVariants.{Boot, Crash, Deliver}
use Rattle.ft_model.specs.WorkedRuns.Common.{server, hello_text, to_log, from_log, part_with}
use Rattle.ft_model.specs.WorkedRuns.FirstPath.{moment, opening_trace, moment_11, passed_on, reported_client, opened_entry, taken_point, node_live}

-- the first path, until the client has sent its text
abbrev pub earlier : List Moment
earlier = moment_11 ∷ opening_trace

-- the text arrives, and all of it is acknowledged
abbrev pub wrong : Moment
wrong = moment (Deliver 8) passed_on (record moment_11.world { node = Some (node_live taken_point) })

-- the Data that carries the text to the log
abbrev pub data_message : Message
data_message = record { boot = 1; body = DataMsg (part_with 0 0 false hello_text) }

-- the client receives the acknowledgement, ..
abbrev pub fooled_client : Client
fooled_client = record reported_client { acknowledged = 5 }

abbrev pub moment_13 : Moment
moment_13 = moment (Deliver 9) [] (record wrong.world { clients = fooled_client ∷ [] })

-- .. the server crashes, and the next boot's Hello reaches the log before the Data
abbrev pub moment_14 : Moment
moment_14 = moment Crash [] (record moment_13.world { node = None })

abbrev pub moment_15 : Moment
moment_15 = moment (Boot 2 900000) (to_log 2 HelloMsg ∷ []) (record moment_14.world { boot = 2; node = Some (booted server plain 2 900000) })

abbrev pub moment_16 : Moment
moment_16 = moment (Deliver 12) (from_log 2 (SummaryMsg 1) ∷ []) (record moment_15.world { log = record { boot = 2; entries = opened_entry ∷ [] } })

abbrev pub later : List Moment
later = moment_16 ∷ moment_15 ∷ moment_14 ∷ moment_13 ∷ []
