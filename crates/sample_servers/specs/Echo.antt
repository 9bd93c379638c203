-- Echo: the output of a chunk is the chunk. The empty chunk closes.
use Rattle.std.specs.Prelude.{ℕ, List, length, ◌==◌}
use Rattle.server_trait.specs.Service.{Served, Machine, silent}
use Rattle.sample_servers.specs.declared.echo.Echo.{Echo}

-- its only state
abbrev pub echo_started : Echo
echo_started = record {}

-- what a chunk does
abbrev pub echo_after : Echo → List ℕ → Served Echo
echo_after echo chunk = record { next = echo; output = chunk; closed = length chunk == 0 }

-- the service as runs see it
abbrev pub echo_machine : Machine Echo
echo_machine = silent echo_started echo_after
