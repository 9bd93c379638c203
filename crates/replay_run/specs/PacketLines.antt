-- The lines of packets, as the world has stored them.
use Rattle.std.specs.Prelude.{ℕ, zero, suc, ◌+◌, Option, Some, List, [], ◌++◌}
use Rattle.std.specs.Option.{option_map_or}
use Rattle.seq_arith.specs.declared.kinds.Grammar.{Grammar}
use Rattle.ft_model.specs.Report.{line_of_packet}
use Rattle.ft_model.specs.declared.way.Way.{Way}
use Rattle.schedule_network.specs.AtNumber.{at_number}
use Rattle.schedule_network.specs.StoredPackets.{Carried}
use Rattle.schedule_text.specs.Bytes.{content_by}

-- the line for a direction and bytes, which a grammar spells; empty where the bytes can't be read
abbrev pub line_of : Grammar → ℕ → Option Way → Option (List ℕ) → List ℕ
line_of grammar n (Some way) (Some bytes) = option_map_or (line_of_packet n way) (content_by grammar way bytes) []
line_of grammar n _ _ = []

abbrev pub stored_line : Grammar → Carried → ℕ → List ℕ
stored_line grammar kept n = line_of grammar n (at_number kept.ways n) (at_number kept.bytes n)

-- the lines of `count` packets, starting with number `first`
abbrev pub stored_lines : Grammar → Carried → (first count : ℕ) → List ℕ
stored_lines grammar kept first zero = []
stored_lines grammar kept first (suc count) = stored_line grammar kept first ++ stored_lines grammar kept (first + 1) count
