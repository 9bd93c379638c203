use Rattle.std.proofs.Common.{inl, inr}
use Rattle.std.proofs.lemmas.Result.{on_ok_weaker}
use Rattle.link_parts.proofs.ClientRunning.{does_nothing, script_short}
use Rattle.link_parts.proofs.client.run_client.Goals as goal
use Rattle.ft_io.proofs.Outcomes.{if_err}

pub run_script-requires : goal.run_script-requires
run_script-requires g c =
    script_short c.args.role.now.script (g.I.Source.left c.args.input.now) (g.I.Source.left c.script_of.new.input) c.in-Ok.script.items c.requires c.in-Ok.ensures.script

pub returns-in-Ok-clause-done : goal.returns-in-Ok-clause-done
returns-in-Ok-clause-done g c = on_ok_weaker c.run_script.result (λ run. (c.in-Ok.script.items, c.in-Ok.ensures.script, run)) c.run_script.ensures.done

pub returns-in-Ok-clause-stops : goal.returns-in-Ok-clause-stops
returns-in-Ok-clause-stops g c = if_err c.run_script.result (λ end run. inr (c.in-Ok.script.items, c.in-Ok.ensures.script, run)) c.run_script.ensures.stops

pub returns-in-Err-clause-stops : goal.returns-in-Err-clause-stops
returns-in-Err-clause-stops g c = inl (c.in-Err.ensures.stops, does_nothing (g.L.Link.reported c.args.link.now) (g.O.Sink.taken c.args.out.now))
