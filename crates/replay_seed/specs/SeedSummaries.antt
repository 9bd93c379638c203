-- What a generated run has done.
use Rattle.std.specs.Prelude.{◌≡◌, ℕ, ◌<◌, ◌≤◌, Option, List, [], ◌∷◌, length}
use Rattle.std.specs.Io.KnownBytes.{Appends}
use Rattle.ft_io.specs.Sink.{AppendsFront}
use Rattle.sample_servers.specs.AnyService.{any_machine}
use Rattle.sample_servers.specs.declared.any_service.AnyService.{AnyService}
use Rattle.ft_model.specs.Legal.{Legal}
use Rattle.ft_model.specs.World.{World, Moment, world_after, events_of}
use Rattle.net_schedule.specs.Refinement.{Kept}
use Rattle.net_schedule.specs.Step.{StandsAfter}
use Rattle.replay_seed.specs.Generated.{schedule_of, start_for, after_draws, state_behind, AreDrawn}
use Rattle.replay_check.specs.Safe.{IsSafe}
use Rattle.replay_seed.specs.SummaryText.{summary, count_events, is_boot, is_crash}
use Rattle.replay_seed.specs.declared.asked.Asked.{Asked}
use Rattle.replay_seed.specs.declared.seed_progress.Progress.{Progress}
use Rattle.replay_seed.specs.declared.seed_run.SeedEnd.{SeedEnd}
use Rattle.replay_seed.specs.declared.seed_run.SeedEnd.TheVariants.{Usage, NoMemory, WriteFault, PacketLimit}

abbrev pub start_of_run : Asked → World
start_of_run asked = start_for asked.seed asked.clients

abbrev pub packets_of_run : Asked → List Moment → ℕ
packets_of_run asked trace = length (world_after (start_of_run asked) trace).packets

-- a trace of the first events of the generated schedule: each of them is the one drawn, and is allowed
pub record IsGenerated (asked : Asked) (trace : List Moment) : Type 0 where
  pub legal : Legal any_machine (schedule_of asked.seed asked.clients (events_of trace)) trace
  pub drawn : AreDrawn (after_draws asked.seed asked.clients) (start_of_run asked) trace

-- all requested events are played, safely and within the limit of packets
pub record IsRun (asked : Asked) (trace : List Moment) : Type 0 where
  pub generated : IsGenerated asked trace
  pub safe : IsSafe (any_machine 1) (start_of_run asked) trace
  pub count : length trace ≡ asked.events
  pub within : packets_of_run asked trace ≤ 200000

-- a text is the summary of a complete run
pub record IsSummary (asked : Asked) (text : List ℕ) : Type 0 where
  pub trace : List Moment
  pub run : IsRun asked trace
  pub text_is : text ≡ summary asked.seed (start_of_run asked) trace

-- the summary of a complete run is written ..
pub record IsSummarized (asked : Asked) (old new : Option (List ℕ)) : Type 0 where
  pub text : List ℕ
  pub is_summary : IsSummary asked text
  pub written : Appends old new text

-- .. or a prefix of it
pub record IsSummarizedInPart (asked : Asked) (old new : Option (List ℕ)) : Type 0 where
  pub text : List ℕ
  pub is_summary : IsSummary asked text
  pub written : AppendsFront old new text

-- one of the requested events exceeds the limit of packets, and those before it don't
pub record IsPastLimit (asked : Asked) : Type 0 where
  pub moment : Moment
  pub earlier : List Moment
  pub generated : IsGenerated asked (moment ∷ earlier)
  pub count : length earlier < asked.events
  pub within : packets_of_run asked earlier ≤ 200000
  pub over : 200000 < packets_of_run asked (moment ∷ earlier)

-- what was written by a run that ends early: nothing, unless writing the summary failed
abbrev pub EndsRun : Asked → (old new : Option (List ℕ)) → SeedEnd → Type 0
EndsRun asked old new Usage = ⊥
EndsRun asked old new NoMemory = new ≡ old
EndsRun asked old new WriteFault = IsSummarizedInPart asked old new
EndsRun asked old new PacketLimit = IsPastLimit asked × (new ≡ old)

-- the code's world and its counts are those after the first n events
pub record StandsBehind (asked : Asked) (n : ℕ) (w : Kept AnyService) (progress : Progress) : Type 0 where
  pub trace : List Moment
  pub stands : StandsAfter any_machine (schedule_of asked.seed asked.clients []) (events_of trace) trace w
  pub drawn : AreDrawn (after_draws asked.seed asked.clients) (start_of_run asked) trace
  pub events : length trace ≡ n
  pub state : progress.dice.draws.state ≡ state_behind (after_draws asked.seed asked.clients) (start_of_run asked) trace
  pub packets : progress.packets ≡ packets_of_run asked trace
  pub within : progress.packets ≤ 200000
  pub boots : progress.boots ≡ count_events is_boot trace
  pub crashes : progress.crashes ≡ count_events is_crash trace
  pub last_boot : (world_after (start_of_run asked) trace).boot ≡ progress.boots
