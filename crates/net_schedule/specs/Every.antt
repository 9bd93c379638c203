-- After how many reads the server of a schedule makes a mark.
use Rattle.std.specs.Prelude.{ℕ, Bool, ◌||◌, not, unwrap_or, if◌then◌else◌}
use Rattle.ft_model.specs.declared.schedule.Schedule.{Schedule}

-- 0 if it makes none, or if its service can't be saved: then there is no state to put into a mark, so the schedule is played as one without marks
abbrev pub every_in : (savable : Bool) → Schedule → ℕ
every_in savable schedule = if schedule.twin || not savable then 0 else unwrap_or schedule.marks 0
