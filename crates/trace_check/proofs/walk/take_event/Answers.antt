use Rattle.std.proofs.Common.{◌+◌, ◌<◌, ◌≤◌, length, refl, ap, ◌∙◌, arith}
use Rattle.ft_io.proofs.Outcomes.{if_ok}
use Rattle.ft_model.specs.Legal.{machines}
use Rattle.trace_check.specs.SentLines.{actor_along}
use Rattle.trace_check.proofs.TurnWalk.{event_plays, few_turns, known_before}
use Rattle.trace_check.proofs.walk.take_event.Goals as goal

pub judge-requires-clause-known : goal.judge-requires-clause-known
judge-requires-clause-known g c =
    let later : c.args.line.place.at ≤ c.args.line.read.end = omega arith in
    let played =
    event_plays (machines g.S.Service.started g.S.Service.after g.S.Service.greeting) c.args.text.now c.args.schedule.now c.requires.walked.0 c.args.line.place
    (record { at = c.args.line.read.end; lines = c.args.line.place.lines + 1; size = c.args.line.read.size }) c.args.line.read.event c.args.world.now c.step.new.self c.actor-law.result c.len-before.result
    c.is_refused.result c.requires.schedule c.requires.walked.1 c.requires.walked.2 later refl c.is_refused.ensures c.if-is_refused.false c.in-Ok.ensures
    (c.len-before.ensures ∙ ap length c.packets-2.ensures) (c.actor-law.ensures ∙ ap (λ ws. actor_along ws c.args.line.read.event) c.packets.ensures) in
    known_before (machines g.S.Service.started g.S.Service.after g.S.Service.greeting) c.args.text.now c.args.schedule.now c.requires.walked.0 played.0
    (record { at = c.args.line.read.end; lines = c.args.line.place.lines + 1; size = c.args.line.read.size }) c.len-before.result c.actor-law.result c.step.new.self played.1

pub judge-requires-clause-played : goal.judge-requires-clause-played
judge-requires-clause-played g c =
    let later : c.args.line.place.at ≤ c.args.line.read.end = omega arith in
    let played =
    event_plays (machines g.S.Service.started g.S.Service.after g.S.Service.greeting) c.args.text.now c.args.schedule.now c.requires.walked.0 c.args.line.place
    (record { at = c.args.line.read.end; lines = c.args.line.place.lines + 1; size = c.args.line.read.size }) c.args.line.read.event c.args.world.now c.step.new.self c.actor-law.result c.len-before.result
    c.is_refused.result c.requires.schedule c.requires.walked.1 c.requires.walked.2 later refl c.is_refused.ensures c.if-is_refused.false c.in-Ok.ensures
    (c.len-before.ensures ∙ ap length c.packets-2.ensures) (c.actor-law.ensures ∙ ap (λ ws. actor_along ws c.args.line.read.event) c.packets.ensures) in
    (c.requires.walked.0, played.0, played.1)

pub returns-in-Ok-clause-within : goal.returns-in-Ok-clause-within
returns-in-Ok-clause-within g c =
    let later : c.args.line.place.at ≤ c.args.line.read.end = omega arith in
    let played =
    event_plays (machines g.S.Service.started g.S.Service.after g.S.Service.greeting) c.args.text.now c.args.schedule.now c.requires.walked.0 c.args.line.place
    (record { at = c.args.line.read.end; lines = c.args.line.place.lines + 1; size = c.args.line.read.size }) c.args.line.read.event c.args.world.now c.step.new.self c.actor-law.result c.len-before.result
    c.is_refused.result c.requires.schedule c.requires.walked.1 c.requires.walked.2 later refl c.is_refused.ensures c.if-is_refused.false c.in-Ok.ensures
    (c.len-before.ensures ∙ ap length c.packets-2.ensures) (c.actor-law.ensures ∙ ap (λ ws. actor_along ws c.args.line.read.event) c.packets.ensures) in
    let few : c.step.new.self.turns ≤ 100000 =
    few_turns (machines g.S.Service.started g.S.Service.after g.S.Service.greeting) c.args.text.now c.args.schedule.now c.requires.walked.0 played.0
    (record { at = c.args.line.read.end; lines = c.args.line.place.lines + 1; size = c.args.line.read.size }) c.len-before.result c.actor-law.result c.step.new.self played.1 in
    let first : c.args.line.place.at < c.args.line.read.end = omega arith in
    if_ok c.judge.result (λ after w. let more : c.args.line.read.end ≤ after.at = w.1 in (w.0, omega (arith, first, more), few)) c.judge.ensures.within
