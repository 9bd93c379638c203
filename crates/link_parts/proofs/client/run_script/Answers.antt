use Rattle.std.specs.Io.KnownBytes.{Appends}
use Rattle.std.proofs.lemmas.Result.{on_ok_weaker}
use Rattle.peer_client.specs.declared.live.ClientEnd.TheVariants as ends
use Rattle.link_parts.specs.ClientRuns.{IsEndedBy}
use Rattle.link_parts.proofs.ClientRunning.{script_runs, script_stops}
use Rattle.link_parts.proofs.client.run_script.Goals as goal
use Rattle.ft_io.proofs.Outcomes.{if_err}

pub returns-clause-done : goal.returns-clause-done
returns-clause-done g c =
    on_ok_weaker c.take_turns.result
    (λ runs. script_runs c.args.role.now c.args.script.items c.in_ok-client.client (g.L.Link.reported c.args.link.now) (g.L.Link.reported c.bind.new.self)
    (g.L.Link.reported c.take_turns.new.link) c.in_ok-client.ensures.made c.in_ok-client.ensures.beside c.in-Ok.ensures.reported
    (Appends (g.O.Sink.taken c.args.out.now) (g.O.Sink.taken c.take_turns.new.out)) (IsEndedBy ends.Closed) runs)
    c.take_turns.ensures.done

pub returns-clause-stops : goal.returns-clause-stops
returns-clause-stops g c =
    if_err c.take_turns.result
    (λ end runs. script_stops c.args.role.now c.args.script.items c.in_ok-client.client (g.L.Link.reported c.args.link.now) (g.L.Link.reported c.bind.new.self)
    (g.L.Link.reported c.take_turns.new.link) c.in_ok-client.ensures.made c.in_ok-client.ensures.beside c.in-Ok.ensures.reported (g.O.Sink.taken c.args.out.now)
    (g.O.Sink.taken c.take_turns.new.out) end runs)
    c.take_turns.ensures.stops
