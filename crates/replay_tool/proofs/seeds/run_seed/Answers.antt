use Rattle.std.proofs.Common.{refl, sym, ap, subst, map, string_bytes, Ok, Err}
use Rattle.replay_seed.specs.SeedWords.{asked}
use Rattle.replay_tool.specs.SeedRuns.{SeedStops}
use Rattle.replay_check.specs.Stream.{stream}
use Rattle.replay_tool.proofs.Seeding.{of_asked, seed_stops}
use Rattle.replay_check.proofs.EndReported.{reported_as}
use Rattle.replay_tool.proofs.seeds.run_seed.Goals as goal

pub returns-in-Ok-clause-ended : goal.returns-in-Ok-clause-ended
returns-in-Ok-clause-ended g c =
    of_asked (asked (map string_bytes c.args.words.now)) (λ a summarized. record { end = Ok tt; did = (summarized, c.in-Ok.ensures.no_fault); reported = (refl, refl) }) c.in-Ok.ensures.done

pub returns-in-Err-clause-ended : goal.returns-in-Err-clause-ended
returns-in-Err-clause-ended g c =
    of_asked (asked (map string_bytes c.args.words.now))
    (λ a ends. record {
      end = Err c.end_of_seed.result;
      did = subst (SeedStops a (stream g.O.Sink.taken g.O.Sink.fault_count c.args.out.now c.seed.new.out)) (sym c.end_of_seed.ensures)
          (seed_stops a (stream g.O.Sink.taken g.O.Sink.fault_count c.args.out.now c.seed.new.out) c.in-Err.end ends (λ e. c.in-Err.ensures.write_fault (ap Err e)) (λ e. c.in-Err.ensures.no_memory_keeps_out (ap Err e))
          (λ e. c.in-Err.ensures.limit_keeps_out (ap Err e)));
      reported = reported_as c.end_of_seed.result (stream g.E.Sink.taken g.E.Sink.fault_count c.args.err.now c.report_end.new.err) c.report_end.result.code c.report_end.ensures.reported c.report_end.ensures.unreported;
    })
    c.in-Err.ensures.ends
