use Rattle.std.proofs.Common.{ap, refl, le_refl, option_map}
use Rattle.ft_model.specs.declared.event.Event.TheVariants.{Crash}
use Rattle.node_serving.specs.Markers.{saving}
use Rattle.net_schedule.specs.MarkedTurns.{marker_in}
use Rattle.net_schedule.specs.WorldView.{kept, server_of, service_of}
use Rattle.net_schedule.proofs.Events.{crashes, refuses_down}
use Rattle.net_schedule.proofs.MarkedServer.{marked_crashes, marked_refuses_down}
use Rattle.net_schedule.proofs.Outcomes.{is_up, is_down}
use Rattle.net_schedule.proofs.world.World.crash.Goals as goal

pub returns-then-is_none-clause-ends : goal.returns-then-is_none-clause-ends
returns-then-is_none-clause-ends g c =
    let w = c.args.self.now in (
      record {
        usual = λ v st p. refuses_down (service_of w) (kept w) v Crash st (is_down server_of w.node c.is_none.result c.is_none.ensures c.if-is_none.true) refl;
        marked = λ savable every v st p.
            marked_refuses_down (marker_in (saving g.S.Saved.form g.S.Saved.state_of g.S.Saved.is_savable) every w) (kept w) v Crash st (is_down server_of w.node c.is_none.result c.is_none.ensures c.if-is_none.true) refl;
      },
      refl,
    )

pub returns-clause-done : goal.returns-clause-done
returns-clause-done g c =
    let w = c.args.self.now in
    record {
      continues = record { same_kind = refl; same_profile = refl; grew = le_refl _ };
      advances = λ v st p.
          crashes (service_of w) (kept w) _ v st (is_up server_of w.node c.is_none.result c.is_none.ensures c.if-is_none.false)
          (ap (λ n. record (kept w) { node = option_map server_of n }) c.take.ensures.after);
      marked = λ savable every v st p.
          marked_crashes (marker_in (saving g.S.Saved.form g.S.Saved.state_of g.S.Saved.is_savable) every w) (kept w) _ v st (is_up server_of w.node c.is_none.result c.is_none.ensures c.if-is_none.false)
          (ap (λ n. record (kept w) { node = option_map server_of n }) c.take.ensures.after);
    }
