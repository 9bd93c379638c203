-- The texts for which a run ends in a certain way, and the status that the run then has.
use Rattle.std.specs.Prelude.{◌≡◌, ◌⊎◌, ℕ, Bool, true, false, Option, None, Some, Ok, Err, List}
use Rattle.schedule_text.specs.Fleeting.{read_fleeting}
use Rattle.ft_model.specs.Grammar.Refusal.{BadLine, TooLong}
use Rattle.ft_model.specs.Outcome.{IsWhole, IsRefused, IsPastPackets}
use Rattle.ft_model.specs.declared.schedule.Schedule.{Schedule}
use Rattle.ft_model.specs.declared.schedule.LineWhy.{LineWhy}
use Rattle.ft_model.specs.declared.schedule.Limit.{Limit}
use Rattle.sample_servers.specs.AnyService.{any_machine}
use Rattle.mark_laws.specs.MarkedOutcome.{IsMarkedWhole, IsMarkedRefused, IsMarkedPastPackets}
use Rattle.twin_laws.specs.TwinOutcome.{IsTwinWhole, IsTwinRefused, IsTwinPastPackets}
use Rattle.replay_run.specs.Traces.{any_marker}

-- The outcomes with two loggers, one log or marks: all events may happen, within the limit of packets; one of them may not; or the packets exceed the limit
abbrev pub AllHappen : (twin : Bool) → (marks : Option ℕ) → Schedule → Type 0
AllHappen true marks schedule = IsTwinWhole any_machine schedule
AllHappen false None schedule = IsWhole any_machine schedule
AllHappen false (Some every) schedule = IsMarkedWhole (any_marker every) schedule

abbrev pub OneIsRefused : (twin : Bool) → (marks : Option ℕ) → Schedule → Type 0
OneIsRefused true marks schedule = IsTwinRefused any_machine schedule
OneIsRefused false None schedule = IsRefused any_machine schedule
OneIsRefused false (Some every) schedule = IsMarkedRefused (any_marker every) schedule

abbrev pub PacketsExceed : (twin : Bool) → (marks : Option ℕ) → Schedule → Type 0
PacketsExceed true marks schedule = IsTwinPastPackets any_machine schedule
PacketsExceed false None schedule = IsPastPackets any_machine schedule
PacketsExceed false (Some every) schedule = IsMarkedPastPackets (any_marker every) schedule

-- the text spells a schedule, and each of its events may happen in its turn, within the limit of packets
pub record IsInOrder (text : List ℕ) : Type 0 where
  pub schedule : Schedule
  pub spelled : read_fleeting text ≡ Ok schedule
  pub whole : AllHappen schedule.twin schedule.marks schedule

-- one of the text's lines is refused
pub record HasBadLine (text : List ℕ) : Type 0 where
  pub line : ℕ
  pub why : LineWhy
  pub refused : read_fleeting text ≡ Err (BadLine line why)

-- the text spells a schedule, and one of its events may not happen in its turn
pub record HasBadEvent (text : List ℕ) : Type 0 where
  pub schedule : Schedule
  pub spelled : read_fleeting text ≡ Ok schedule
  pub refused : OneIsRefused schedule.twin schedule.marks schedule

-- the text is too long, or has too many events, or the packets of its schedule exceed their limit
pub data IsPastLimit (text : List ℕ) : Type 0 where
  by_text : (what : Limit) → read_fleeting text ≡ Err (TooLong what) → IsPastLimit text
  by_packets : (schedule : Schedule) → read_fleeting text ≡ Ok schedule → PacketsExceed schedule.twin schedule.marks schedule → IsPastLimit text

-- The status, given the text, if no count of faults rises: it is determined, unless an allocation failed.
pub record IsSettled (text : List ℕ) (code : ℕ) : Type 0 where
  pub in_order : IsInOrder text → (code ≡ 0) ⊎ (code ≡ 3)
  pub bad_line : HasBadLine text → (code ≡ 6) ⊎ (code ≡ 3)
  pub bad_event : HasBadEvent text → (code ≡ 7) ⊎ (code ≡ 3)
  pub past_limit : IsPastLimit text → (code ≡ 8) ⊎ (code ≡ 3)
