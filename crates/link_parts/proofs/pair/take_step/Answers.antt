use Rattle.std.specs.Io.KnownBytes.{Appends}
use Rattle.std.proofs.lemmas.Result.{on_ok_weaker}
use Rattle.link_parts.proofs.Pairing.{start_done, wait_done, wait_stops}
use Rattle.link_parts.proofs.pair.take_step.Goals as goal
use Rattle.ft_io.proofs.Outcomes.{if_err}

pub returns-in-Start-clause-done : goal.returns-in-Start-clause-done
returns-in-Start-clause-done g c =
    on_ok_weaker c.start.result
    (λ d. start_done c.args.step.now c.in-Start.words c.args.children.now c.start.new.children (g.P.Spawner.started c.args.kids.now) (g.P.Spawner.started c.start.new.kids)
    (g.P.Spawner.reported c.args.kids.now) (g.P.Spawner.reported c.start.new.kids) (g.O.Sink.taken c.args.out.now) c.in-Start.is c.requires.counted d)
    c.start.ensures.done

pub returns-in-Wait-clause-done : goal.returns-in-Wait-clause-done
returns-in-Wait-clause-done g c =
    on_ok_weaker c.wait.result
    (λ w. wait_done c.args.step.now c.in-Wait.child c.in-Wait.name c.args.children.now (g.P.Spawner.started c.args.kids.now) (g.P.Spawner.started c.wait.new.kids)
    (g.P.Spawner.reported c.args.kids.now) (g.P.Spawner.reported c.wait.new.kids) (Appends (g.O.Sink.taken c.args.out.now) (g.O.Sink.taken c.wait.new.out)) c.in-Wait.is c.requires.counted
    c.requires.fits c.wait.ensures.same_children w)
    c.wait.ensures.done

pub returns-in-Wait-clause-stops : goal.returns-in-Wait-clause-stops
returns-in-Wait-clause-stops g c =
    if_err c.wait.result
    (λ fault w. wait_stops c.args.step.now c.in-Wait.child c.in-Wait.name c.args.children.now (g.P.Spawner.started c.args.kids.now) (g.P.Spawner.reported c.args.kids.now)
    (g.P.Spawner.reported c.wait.new.kids) (g.O.Sink.taken c.args.out.now) (g.O.Sink.taken c.wait.new.out) fault c.in-Wait.is c.requires.counted c.requires.fits w)
    c.wait.ensures.stops
