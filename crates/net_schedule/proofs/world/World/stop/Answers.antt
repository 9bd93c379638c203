use Rattle.std.proofs.Common.{◌≡◌, ◌∙◌, sym, ap, refl, le_refl}
use Rattle.mark_store.specs.Refinement.{TrimmedAtMarks}
use Rattle.net_schedule.specs.WorldView.{kept, service_of}
use Rattle.schedule_network.specs.Loggers.{Loggers, serving_log}
use Rattle.schedule_network.specs.Logs.{keepers_in}
use Rattle.schedule_network.specs.Logs.Keepers.{Single, Paired, With_marks}
use Rattle.net_schedule.proofs.TwinEvents.{twin_stops}
use Rattle.net_schedule.proofs.world.World.stop.Goals as goal

not_one : {P : Type 0} (l : Loggers) → Single ≡ Paired l → P
not_one l e = absurd (cc)

not_marked : {P : Type 0} (l : Loggers) (store : TrimmedAtMarks) → With_marks store ≡ Paired l → P
not_marked l store e = absurd (cc)

pub returns-clause-done : goal.returns-clause-done
returns-clause-done g c =
    let w = c.args.self.now in
    record {
      continues = record { same_kind = refl; same_profile = refl; grew = le_refl _ };
      one = λ v st p. not_one c.in-Two.pair (sym st.single ∙ ap keepers_in c.in-Two.is);
      two = λ v st p.
          twin_stops (service_of w) (kept w) _ v c.args.part c.in-Some.part c.in-Two.pair st p.paired
          (ap keepers_in c.in-Two.is) (sym c.part_of.ensures ∙ c.in-Some.is) (sym c.has_stopped.ensures ∙ c.if-has_stopped.false)
          (ap (λ l. record (kept w) { log = serving_log l; keepers = Paired l }) c.stop.ensures);
      marked = λ savable every v st p. not_marked c.in-Two.pair st.both.store (sym st.keepers ∙ ap keepers_in c.in-Two.is);
    }
