-- What is read from a connection is its point's: whether it is quiet, the numbers of its mark, and the service's state.
use Rattle.std.proofs.Common.{◌≡◌, ℕ, ◌+◌, ◌==◌, Bool, true, false, true≢false, not, ◌&&◌, refl, sym, ap, arith, ◌∙◌, Some, None, [], length, if◌then◌else◌}
use Rattle.std.proofs.lemmas.Option.{none-some}
use Rattle.server_trait.specs.Service.{Machine}
use Rattle.ft_model.specs.Point.{Point, made, whole_run}
use Rattle.ft_io.proofs.Choices.{by_cases}
use Rattle.north_wrap.specs.Refinement.{NorthStands}
use Rattle.mark_laws.specs.Quiet.{IsQuiet}
use Rattle.mark_laws.proofs.Closing.{running_reads_on}
use Rattle.wrapped_conn.specs.declared.quiet.Quiet.{Quiet}
use Rattle.wrapped_conn.specs.ConnState.{ConnState}
use Rattle.wrapped_conn.specs.Numbers.{una_units}
use Rattle.wrapped_conn.specs.Quiet.{is_quiet, quiet_in, quiet_at, ReportsQuiet}
use Rattle.wrapped_conn.specs.Sound.{IsSound}
use Rattle.wrapped_conn.specs.Refinement.{Reports, Stands}
use Rattle.wrapped_conn.proofs.Lending.{reports}
use Rattle.wrapped_conn.proofs.Receiving.{parts_live, parts_reset}

-- the north wrapper is at the point, also once the client has reset the connection
pub record NorthAt {S : Type 0} (service : Machine S) (p : Point) (c : ConnState S) : Type 0 where
  pub given : ℕ
  pub stands : NorthStands service p given c.north

north_at : {S : Type 0} (service : Machine S) (p : Point) (c : ConnState S) → Stands service c p → NorthAt service p c
north_at service p c st =
    by_cases p.reset
    (λ on. let there = parts_reset service c p st on in record { given = there.given; stands = there.north })
    (λ off. let live = parts_live service c p st off in record { given = live.given; stands = live.parts.stand.north })

pub service_is : {S : Type 0} (service : Machine S) (p : Point) (c : ConnState S) → Stands service c p → c.north.run.service ≡ (whole_run service p).state
service_is service p c st = (north_at service p c st).stands.run.service

-- the three tests, one by one
all_three : (reads una made : ℕ) (closed : Bool) → reads ≡ 0 → una ≡ made → closed ≡ false → (reads == 0 && una == made && not closed) ≡ true
all_three reads una made closed a b c = grind (arith, a, b, c)

record Three (reads una made : ℕ) (closed : Bool) : Type 0 where
  answered : reads ≡ 0
  acknowledged : una ≡ made
  running : closed ≡ false

three_of : (reads una made : ℕ) (closed : Bool) → (reads == 0 && una == made && not closed) ≡ true → Three reads una made closed
three_of reads una made closed h = record { answered = grind (arith, h); acknowledged = grind (arith, h); running = grind (arith, h) }

none_left : (answered left all : ℕ) → answered + left ≡ all → left ≡ 0 → answered ≡ all
none_left answered left all whole none = omega (arith, whole, none)

all_answered : (answered left all : ℕ) → answered + left ≡ all → answered ≡ all → left ≡ 0
all_answered answered left all whole same = omega (arith, whole, same)

quiet_there : {S : Type 0} (service : Machine S) (p : Point) (c : ConnState S) → ((s : S) → (service.after s []).closed ≡ true) → IsSound c → Stands service c p → is_quiet c ≡ true
    → IsQuiet service p
quiet_there service p c ends sound st quiet =
    let north = (north_at service p c st).stands in
    let reported : Reports p c = reports service p c sound st in
    let three = three_of (length c.north.reads) (una_units c) c.north.run.made c.north.run.closed quiet in
    let running : (whole_run service p).closed ≡ false = sym north.run.closed ∙ three.running in
    record {
      answered = none_left p.reads_answered (length c.north.reads) (length p.lengths) north.unanswered three.answered;
      acknowledged = sym reported.tcp.una ∙ (three.acknowledged ∙ north.run.made);
      reads_on = running_reads_on service p.taken p.lengths ends running;
      running = running;
    }

quiet_here : {S : Type 0} (service : Machine S) (p : Point) (c : ConnState S) → IsSound c → Stands service c p → IsQuiet service p → is_quiet c ≡ true
quiet_here service p c sound st quiet =
    let north = (north_at service p c st).stands in
    let reported : Reports p c = reports service p c sound st in
    all_three (length c.north.reads) (una_units c) c.north.run.made c.north.run.closed
    (all_answered p.reads_answered (length c.north.reads) (length p.lengths) north.unanswered quiet.answered) (reported.tcp.una ∙ (quiet.acknowledged ∙ sym north.run.made))
    (north.run.closed ∙ quiet.running)

abbrev quiet_now : {S : Type 0} → ConnState S → Quiet
quiet_now c = record { reads = c.north.count; length = c.north.read; made = c.north.run.made }

numbers_are : {S : Type 0} (service : Machine S) (p : Point) (c : ConnState S) → Stands service c p → quiet_now c ≡ quiet_at service p
numbers_are service p c st =
    let north = (north_at service p c st).stands in λ j. record { reads = north.count j; length = north.read j; made = north.run.made j }

some_if : (b : Bool) (x y : Quiet) → (if b then Some x else None) ≡ Some y → b ≡ true
some_if true x y h = refl
some_if false x y h = absurd (none-some y h)

if_true : (b : Bool) (x : Quiet) → b ≡ true → (if b then Some x else None) ≡ Some x
if_true true x h = refl
if_true false x h = absurd (true≢false (sym h))

pub reports_quiet : {S : Type 0} (service : Machine S) (p : Point) (c : ConnState S) → ((s : S) → (service.after s []).closed ≡ true) → IsSound c → Stands service c p
    → ReportsQuiet service p (quiet_in c)
reports_quiet service p c ends sound st = record {
  there = λ quiet. if_true (is_quiet c) _ (quiet_here service p c sound st quiet) ∙ ap Some (numbers_are service p c st);
  only_there = λ quiet reported. quiet_there service p c ends sound st (some_if (is_quiet c) _ quiet reported);
}
