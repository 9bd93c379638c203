-- One of the four services, chosen by a number: 1 Echo, 2 Line, 3 Transfer, 4 Meter, and every other number Echo.
use Rattle.std.specs.Prelude.{ℕ, List, ◌==◌, Option, if◌then◌else◌}
use Rattle.std.specs.Option.{option_map}
use Rattle.server_trait.specs.Service.{Served, Machine, silent}
use Rattle.sample_servers.specs.OneState.{empty_form, only_state}
use Rattle.sample_servers.specs.Echo.{echo_started, echo_after}
use Rattle.sample_servers.specs.Line.{line_started, line_after, line_form, line_state_of}
use Rattle.sample_servers.specs.Transfer.{transfer_started, transfer_after, transfer_form, transfer_state_of}
use Rattle.sample_servers.specs.Meter.{meter_started, meter_after}
use Rattle.sample_servers.specs.declared.any_service.AnyService.{AnyService}
use Rattle.sample_servers.specs.declared.any_service.AnyService.TheVariants.{Echo, Line, Transfer, Meter}

-- the service that a number chooses, in its first state
abbrev pub any_started : ℕ → AnyService
any_started kind =
    if kind == 2 then Line line_started
    else (if kind == 3 then Transfer transfer_started
    else (if kind == 4 then Meter meter_started else Echo echo_started))

-- the result of a step, with its state as one of another type
abbrev pub mapped : {A B : Type 0} → (A → B) → Served A → Served B
mapped f served = record { next = f served.next; output = served.output; closed = served.closed }

-- it does what the service in it does
abbrev pub any_after : AnyService → List ℕ → Served AnyService
any_after (Echo echo) chunk = mapped Echo (echo_after echo chunk)
any_after (Line line) chunk = mapped Line (line_after line chunk)
any_after (Transfer transfer) chunk = mapped Transfer (transfer_after transfer chunk)
any_after (Meter meter) chunk = mapped Meter (meter_after meter chunk)

-- the service of each kind as runs see it
abbrev pub any_machine : ℕ → Machine AnyService
any_machine kind = silent (any_started kind) any_after

-- its saved form: that of the service in it. Which service it is isn't saved, since its kind says so
abbrev pub any_form : AnyService → List ℕ
any_form (Echo echo) = empty_form echo
any_form (Line line) = line_form line
any_form (Transfer transfer) = transfer_form transfer
any_form (Meter meter) = empty_form meter

-- the state of the service that a number chooses whose form these bytes are
abbrev pub any_state_of : ℕ → List ℕ → Option AnyService
any_state_of kind bytes =
    if kind == 2 then option_map Line (line_state_of bytes)
    else (if kind == 3 then option_map Transfer (transfer_state_of bytes)
    else (if kind == 4 then option_map Meter (only_state meter_started bytes) else option_map Echo (only_state echo_started bytes)))
