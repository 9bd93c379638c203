-- How the code's watches and quarantines correspond to those of the law. The code counts up to 2^32 - 1.
use Rattle.std.specs.Prelude.{◌≡◌, ℕ, ◌-◌, ◌^◌, min, false, length, if◌then◌else◌}
use Rattle.seq_arith.specs.Number.{number_at}
use Rattle.ft_model.specs.Point.{Point, taken_units, acknowledgement, window}
use Rattle.long_laws.specs.Quarantine.{Quarantined}
use Rattle.lasting_laws.specs.Watching as law
use Rattle.lasting_laws.specs.Watching.{Origin as origins}
use Rattle.lasting_laws.specs.Watching.{is_let_go, is_asked}
use Rattle.forget_wire.specs.Value.{named_said}
use Rattle.lasting_lives.specs.declared.life.Resting.{Resting}
use Rattle.lasting_lives.specs.declared.outside.Outside.{Outside}
use Rattle.lasting_lives.specs.declared.watch.Watch.{Watch}
use Rattle.lasting_lives.specs.declared.watch.Origin.{Origin}
use Rattle.lasting_lives.specs.declared.watch.Origin.TheVariants as origin
use Rattle.lasting_lives.specs.declared.watch.Due.{Due}
use Rattle.lasting_lives.specs.declared.watch.Due.TheVariants as due

-- a count of ticks
abbrev pub counted : ℕ → ℕ
counted ticks = min ticks (2 ^ 32 - 1)

abbrev pub origin_said : Origin → law.Origin
origin_said origin.Opened = origins.Opened_here
origin_said origin.RestoredEmpty = origins.Restored_empty
origin_said origin.Restored = origins.Restored

pub record WatchStands (now : Watch) (w : law.Watch) : Type 0 where
  pub origin : origin_said now.origin ≡ w.origin
  pub age : now.age ≡ counted w.age
  pub silent : now.silent ≡ counted w.silent

pub record QuarantineStands (now : Resting) (q : Quarantined) : Type 0 where
  pub named : named_said now.named ≡ q.named
  pub age : now.age ≡ counted q.age

-- what is read of a connection are the numbers of its point
pub record ShowsPoint (now : Outside) (p : Point) : Type 0 where
  pub key : now.key ≡ p.key
  pub cisn : now.cisn.0 ≡ p.cisn
  pub sisn : now.sisn.0 ≡ p.sisn
  pub taken : now.taken ≡ taken_units p
  pub reads : now.reads ≡ length p.lengths
  pub una : now.una ≡ p.una
  pub sent : now.sent ≡ p.sent
  pub reset : now.reset ≡ p.reset
  pub syn_acked : p.reset ≡ false → now.syn_acked ≡ p.syn_acked
  pub ack : now.ack.0 ≡ number_at p.cisn (acknowledgement p)
  pub window : now.window ≡ window p

abbrev pub end_there : Point → ℕ
end_there p = number_at p.cisn (taken_units p)

-- what is due by the law
abbrev pub due_by : (silence : ℕ) → law.Watch → Point → Due
due_by silence w p = if is_let_go silence w p then due.LetGo else (if is_asked silence w p then due.KeepAlive else due.Nothing)
