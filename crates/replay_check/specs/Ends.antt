-- The ends of the parts of a run, as ends of the run.
use Rattle.std.specs.Prelude.{◌≡◌, ℕ, Bool, ◌==◌, ◌&&◌, ◌||◌, nat_le, Result, Err}
use Rattle.ft_io.specs.Faults.{Rose}
use Rattle.ft_io.specs.declared.reading.ReadEnd.{ReadEnd}
use Rattle.ft_io.specs.declared.reading.ReadEnd.TheVariants as reads
use Rattle.ft_model.specs.declared.schedule.Limit.TheVariants as limits
use Rattle.schedule_text.specs.declared.end.ScheduleEnd.{ScheduleEnd}
use Rattle.schedule_text.specs.declared.end.ScheduleEnd.TheVariants as schedules
use Rattle.schedule_network.specs.declared.end.StepEnd.{StepEnd}
use Rattle.schedule_network.specs.declared.end.StepEnd.TheVariants as steps
use Rattle.trace_check.specs.declared.end.CheckEnd.{CheckEnd}
use Rattle.trace_check.specs.declared.end.CheckEnd.TheVariants as checks
use Rattle.replay_check.specs.declared.status.TooMuch.TheVariants.{Text, Events, Packets}
use Rattle.replay_check.specs.declared.status.RunEnd.{RunEnd}
use Rattle.replay_check.specs.declared.status.RunEnd.TheVariants.{Usage, NoMemory, ReadFault, WriteFault, BadLine, BadEvent, TooLong, Rejected}

abbrev pub end_of_read : ReadEnd → RunEnd
end_of_read reads.NoMemory = NoMemory
end_of_read reads.Fault = ReadFault
end_of_read reads.TooLong = TooLong Text

abbrev pub end_of_schedule : ScheduleEnd → RunEnd
end_of_schedule schedules.NoMemory = NoMemory
end_of_schedule (schedules.BadLine line why) = BadLine line why
end_of_schedule (schedules.TooLong limits.Text) = TooLong Text
end_of_schedule (schedules.TooLong limits.Events) = TooLong Events

abbrev pub end_of_step : StepEnd → ℕ → RunEnd
end_of_step steps.NoMemory event = NoMemory
end_of_step (steps.BadEvent why) event = BadEvent event why
end_of_step steps.PacketLimit event = TooLong Packets

abbrev pub end_of_check : CheckEnd → RunEnd
end_of_check checks.NoMemory = NoMemory
end_of_check (checks.Reject line law) = Rejected line law

-- the exit status of an end
abbrev pub code_of : RunEnd → ℕ
code_of Usage = 2
code_of NoMemory = 3
code_of ReadFault = 4
code_of WriteFault = 5
code_of (BadLine line why) = 6
code_of (BadEvent event why) = 7
code_of (TooLong what) = 8
code_of (Rejected line law) = 9

-- the count of failed calls rises if the sink of the report failed, and otherwise doesn't change
abbrev pub CountsFaults : (old new : ℕ) → Result (Unit {0}) RunEnd → Type 0
CountsFaults old new (Err WriteFault) = Rose old new
CountsFaults old new _ = new ≡ old

-- the exit statuses of the program
abbrev pub is_code : ℕ → Bool
is_code code = code == 0 || (nat_le 2 code && nat_le code 9)

-- the exit statuses of the run of a schedule
abbrev pub is_run_code : ℕ → Bool
is_run_code code = code == 0 || (nat_le 3 code && nat_le code 8)

-- the exit statuses of the check of a report
abbrev pub is_check_code : ℕ → Bool
is_check_code code = code == 0 || (nat_le 3 code && nat_le code 5 || (code == 8 || code == 9))

-- the exit statuses of a generated run
abbrev pub is_seed_code : ℕ → Bool
is_seed_code code = code == 0 || (code == 3 || (code == 5 || code == 8))
