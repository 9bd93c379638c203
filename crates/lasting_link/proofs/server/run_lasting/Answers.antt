use Rattle.lasting_link.proofs.server.run_lasting.Goals as goal
use Rattle.std.proofs.lemmas.Result.{on_ok_weaker}
use Rattle.ft_io.proofs.Outcomes.{if_err}

pub returns-in-Ok-clause-done : goal.returns-in-Ok-clause-done
returns-in-Ok-clause-done g c = on_ok_weaker c.serve_and_report.result (λ lives. lives (g.L.Link.reported c.args.link.now) c.in-Ok.ensures.reported) c.serve_and_report.ensures.done

pub returns-in-Ok-clause-stops : goal.returns-in-Ok-clause-stops
returns-in-Ok-clause-stops g c = if_err c.serve_and_report.result (λ end lives. lives (g.L.Link.reported c.args.link.now) c.in-Ok.ensures.reported) c.serve_and_report.ensures.stops
