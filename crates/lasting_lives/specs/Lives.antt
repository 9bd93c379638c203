-- What becomes of what the code knows of a key. It counts up to 2^32 - 1.
use Rattle.std.specs.Prelude.{ℕ, ◌+◌, ◌-◌, ◌^◌, min, max, Option, Some, None, List, map}
use Rattle.ft_io.specs.declared.Key.{Key}
use Rattle.lasting_lives.specs.declared.life.Life.{Life}
use Rattle.lasting_lives.specs.declared.life.Life.TheVariants as life
use Rattle.lasting_lives.specs.declared.life.Resting.{Resting}
use Rattle.lasting_lives.specs.declared.watch.Watch.{Watch}
use Rattle.lasting_lives.specs.declared.watch.Origin.{Origin}
use Rattle.lasting_lives.specs.declared.watch.Origin.TheVariants as origin

abbrev pub resting_in : Option Life → Option Resting
resting_in (Some (life.Resting r)) = Some r
resting_in _ = None

abbrev pub watch_in : Option Life → Option Watch
watch_in (Some (life.Watched w)) = Some w
watch_in _ = None

-- one tick more
abbrev pub next_count : ℕ → ℕ
next_count ticks = min (ticks + 1) (2 ^ 32 - 1)

-- a tick passes
abbrev pub older_watch : Watch → Watch
older_watch w = record w { age = next_count w.age; silent = next_count w.silent }

abbrev pub older_resting : Resting → Resting
older_resting r = record r { age = next_count r.age }

abbrev pub older : Life → Life
older (life.Watched w) = life.Watched (older_watch w)
older (life.Resting r) = life.Resting (older_resting r)

abbrev pub all_older : List (Key × Life) → List (Key × Life)
all_older lives = map (λ e. (e.0, older e.1)) lives

-- a packet of a live connection's client comes
abbrev pub received_origin : Origin → Origin
received_origin origin.RestoredEmpty = origin.Restored
received_origin o = o

abbrev pub received_watch : Watch → Watch
received_watch w = record { origin = received_origin w.origin; age = w.age; silent = 0 }

abbrev pub receipt : Life → Life
receipt (life.Watched w) = life.Watched (received_watch w)
receipt (life.Resting r) = life.Resting r

-- a quarantine of `wait` ticks ends
abbrev pub left_resting : (wait : ℕ) → Resting → Resting
left_resting wait r = record r { age = max r.age wait }

abbrev pub left : (wait : ℕ) → Life → Life
left wait (life.Watched w) = life.Watched w
left wait (life.Resting r) = life.Resting (left_resting wait r)
