use Rattle.std.proofs.Common.{refl}
use Rattle.ft_model.specs.declared.event.Event.TheVariants.{Tick}
use Rattle.node_serving.specs.Markers.{saving}
use Rattle.net_schedule.specs.MarkedTurns.{marker_in}
use Rattle.net_schedule.specs.WorldView.{kept, server_of, service_of}
use Rattle.net_schedule.proofs.Events.{ticks, refuses_down}
use Rattle.net_schedule.proofs.MarkedServer.{marked_ticks, marked_refuses_down}
use Rattle.net_schedule.proofs.Outcomes.{is_up, is_down}
use Rattle.net_schedule.proofs.world.World.tick.Goals as goal

pub returns-then-is_none-clause-ends : goal.returns-then-is_none-clause-ends
returns-then-is_none-clause-ends g c =
    let w = c.args.self.now in
    let down = is_down server_of w.node c.is_none.result c.is_none.ensures c.if-is_none.true in (
      record {
        usual = λ v st p. refuses_down (service_of w) (kept w) v Tick st down refl;
        marked = λ savable every v st p. marked_refuses_down (marker_in (saving g.S.Saved.form g.S.Saved.state_of g.S.Saved.is_savable) every w) (kept w) v Tick st down refl;
      },
      refl,
    )

pub returns-clause-done : goal.returns-clause-done
returns-clause-done g c =
    let w = c.args.self.now in
    let so = c.in_ok-serve.ensures in
    record {
      continues = so.continues;
      advances = λ v st p. ticks (service_of w) (kept w) (kept c.serve.new.self) v st (is_up server_of w.node c.is_none.result c.is_none.ensures c.if-is_none.false) (so.moves v st p tt);
      marked = λ savable every v st p.
          marked_ticks (marker_in (saving g.S.Saved.form g.S.Saved.state_of g.S.Saved.is_savable) every w) (kept w) (kept c.serve.new.self) v st (is_up server_of w.node c.is_none.result c.is_none.ensures c.if-is_none.false) (so.marked savable every v st p tt);
    }
