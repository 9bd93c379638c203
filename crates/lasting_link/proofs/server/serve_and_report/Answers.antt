use Rattle.ft_model.specs.Legal.{machines}
use Rattle.lasting_link.proofs.LastingRun.{lasting_stops, lasting_done, lasting_lost, lasting_fenced}
use Rattle.std.specs.Io.KnownBytes.{Appends}
use Rattle.std.proofs.lemmas.Result.{on_ok_weaker}
use Rattle.lasting_link.proofs.server.serve_and_report.Goals as goal
use Rattle.ft_io.proofs.Outcomes.{if_err}

pub returns-in-Ok-clause-done : goal.returns-in-Ok-clause-done
returns-in-Ok-clause-done g c =
    on_ok_weaker c.write_counts.result
    (λ written before bound. lasting_done (machines g.S.Service.started g.S.Service.after g.S.Service.greeting) c.args.role.now before (g.L.Link.reported c.args.link.now)
    (g.L.Link.reported c.serve.new.link) c.in-Ok.counts (Appends (g.O.Sink.taken c.args.out.now) (g.O.Sink.taken c.write_counts.new.out)) bound c.in-Ok.ensures.served written)
    c.write_counts.ensures.written

pub returns-in-Ok-clause-stops : goal.returns-in-Ok-clause-stops
returns-in-Ok-clause-stops g c =
    if_err c.write_counts.result
    (λ end stops before bound. lasting_stops (machines g.S.Service.started g.S.Service.after g.S.Service.greeting) c.args.role.now before (g.L.Link.reported c.args.link.now)
    (g.L.Link.reported c.serve.new.link) c.in-Ok.counts (g.O.Sink.taken c.args.out.now) (g.O.Sink.taken c.write_counts.new.out) end bound c.in-Ok.ensures.served stops)
    c.write_counts.ensures.stops

pub returns-in-Err-NoMemory-clause-stops : goal.returns-in-Err-NoMemory-clause-stops
returns-in-Err-NoMemory-clause-stops g c =
    let stops = rw c.in-Err-NoMemory.field-0-is at c.in-Err-NoMemory.ensures.stops in
    λ before bound. lasting_lost (machines g.S.Service.started g.S.Service.after g.S.Service.greeting) c.args.role.now before (g.L.Link.reported c.args.link.now) (g.L.Link.reported c.serve.new.link)
    (g.O.Sink.taken c.args.out.now) bound stops

pub returns-in-Err-Fenced-clause-stops : goal.returns-in-Err-Fenced-clause-stops
returns-in-Err-Fenced-clause-stops g c =
    let stops = rw c.in-Err-Fenced.field-0-is at c.in-Err-Fenced.ensures.stops in
    rw c.in-Err-Fenced.field-0-is
    (λ before bound. lasting_fenced (machines g.S.Service.started g.S.Service.after g.S.Service.greeting) c.args.role.now c.in-Err-Fenced.newer before (g.L.Link.reported c.args.link.now)
    (g.L.Link.reported c.serve.new.link) (g.O.Sink.taken c.args.out.now) bound stops)
