-- The code's counts of ticks, which stop, and the law's, which don't: every test that is made of them comes out the same.
use Rattle.std.proofs.Common.{◌≡◌, ◌∙◌, ℕ, ◌≤◌, ◌<◌, ◌+◌, ◌-◌, ◌^◌, max, Bool, true, false, nat_le, refl, sym, ap, arith}
use Rattle.std.proofs.lemmas.Bool.{leb-true, leb-false}
use Rattle.long_laws.specs.Quarantine.{Quarantined, is_leaving}
use Rattle.lasting_laws.specs.Watching as law
use Rattle.lasting_laws.specs.Watching.{received_from, one_tick_older}
use Rattle.lasting_lives.specs.declared.life.Resting.{Resting}
use Rattle.lasting_lives.specs.declared.watch.Watch.{Watch}
use Rattle.lasting_lives.specs.declared.watch.Origin.{Origin}
use Rattle.lasting_lives.specs.declared.watch.Origin.TheVariants as origin
use Rattle.lasting_lives.specs.Lives.{next_count, older_watch, older_resting, received_watch, received_origin, left_resting}
use Rattle.lasting_lives.specs.Watches.{counted, origin_said, WatchStands, QuarantineStands}

pub next_is : (ticks : ℕ) → next_count (counted ticks) ≡ counted (ticks + 1)
next_is ticks = omega arith

pub at_least : (n ticks : ℕ) → n ≤ 2 ^ 32 - 1 → nat_le n (counted ticks) ≡ nat_le n ticks
at_least n ticks small = by (nat_le n ticks) refl
  where
    by : (b : Bool) → nat_le n ticks ≡ b → nat_le n (counted ticks) ≡ nat_le n ticks
    by true is = let le : n ≤ ticks = leb-true n ticks is in let here : nat_le n (counted ticks) ≡ true = grind (arith, le, small) in here ∙ sym is
    by false is = let lt : ticks < n = leb-false n ticks is in let here : nat_le n (counted ticks) ≡ false = grind (arith, lt) in here ∙ sym is

pub whole : (ticks : ℕ) → ticks ≤ 2 ^ 32 - 1 → counted ticks ≡ ticks
whole ticks small = omega (arith, small)

-- a watch after a tick, and after a packet
pub older_stands : (w : Watch) (v : law.Watch) → WatchStands w v → WatchStands (older_watch w) (one_tick_older v)
older_stands w v st = record { origin = st.origin; age = ap next_count st.age ∙ next_is v.age; silent = ap next_count st.silent ∙ next_is v.silent }

received_said : (o : Origin) → origin_said (received_origin o) ≡ law.received_origin (origin_said o)
received_said origin.Opened = refl
received_said origin.RestoredEmpty = refl
received_said origin.Restored = refl

pub received_stands : (w : Watch) (v : law.Watch) → WatchStands w v → WatchStands (received_watch w) (received_from v)
received_stands w v st = record { origin = received_said w.origin ∙ ap law.received_origin st.origin; age = st.age; silent = refl }

-- a quarantine after a tick, and once it has ended
pub older_rests : (r : Resting) (q : Quarantined) → QuarantineStands r q → QuarantineStands (older_resting r) (record q { age = q.age + 1 })
older_rests r q st = record { named = st.named; age = ap next_count st.age ∙ next_is q.age }

pub left_rests : (wait : ℕ) (r : Resting) (q : Quarantined) → wait ≤ 2 ^ 32 - 1 → QuarantineStands r q → QuarantineStands (left_resting wait r) (record q { age = max wait q.age })
left_rests wait r q small st = record { named = st.named; age = ap (λ n. max n wait) st.age ∙ both }
  where
    both : max (counted q.age) wait ≡ counted (max wait q.age)
    both = omega (arith, small)

pub leaving_is : (wait : ℕ) (r : Resting) (q : Quarantined) → wait ≤ 2 ^ 32 - 1 → QuarantineStands r q → nat_le wait r.age ≡ is_leaving wait q
leaving_is wait r q small st = ap (nat_le wait) st.age ∙ at_least wait q.age small
