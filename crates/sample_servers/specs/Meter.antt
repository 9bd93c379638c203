-- Meter: a chunk that isn't empty gives its length, in decimal, and a line feed. The empty chunk gives nothing and closes.
use Rattle.std.specs.Prelude.{ℕ, List, [], ◌++◌, length, decimal, codes, ◌==◌, if◌then◌else◌}
use Rattle.server_trait.specs.Service.{Served}
use Rattle.sample_servers.specs.declared.meter.Meter.{Meter}

-- its only state
abbrev pub meter_started : Meter
meter_started = record {}

-- the length of a chunk as it is written
abbrev pub length_line : List ℕ → List ℕ
length_line chunk = if length chunk == 0 then [] else decimal (length chunk) ++ codes "\n"

-- what a chunk does
abbrev pub meter_after : Meter → List ℕ → Served Meter
meter_after meter chunk = record { next = meter; output = length_line chunk; closed = length chunk == 0 }
