use Rattle.std.proofs.Common.{◌∷◌, ◌+◌, refl, sym, ap, subst, ◌∙◌, length}
use Rattle.ft_model.specs.Legal.{machines}
use Rattle.ft_model.proofs.OneTrace.{legal_once}
use Rattle.trace_check.specs.Turn.{AreSent}
use Rattle.trace_check.proofs.TurnWalk.{all_readable, moment_is_sent, no_other_turn, turn_leads}
use Rattle.trace_check.proofs.walk.judge.Goals as goal

pub read_sent-requires-clause-sent : goal.read_sent-requires-clause-sent
read_sent-requires-clause-sent g c = (
  c.requires.played.1.sent,
  subst (λ ws. AreSent ws c.args.played.before c.requires.played.1.sent) (sym c.packets.ensures)
      (moment_is_sent (machines g.S.Service.started g.S.Service.after g.S.Service.greeting) (all_readable (machines g.S.Service.started g.S.Service.after g.S.Service.greeting) (λ kind. (g.met.S.Service.greets_shortly (g.S.Service.started kind), g.met.S.Service.is_short)) g.met.S.Service.writes_bytes)
      c.args.text.now c.args.schedule.now c.requires.played.0 c.requires.played.1 c.args.played.place c.args.played.before c.args.played.law c.args.world.now c.requires.played.2),
)

pub returns-in-Ok-Some-clause-walked : goal.returns-in-Ok-Some-clause-walked
returns-in-Ok-Some-clause-walked g c =
    let reported = rw c.in-Ok-Some.field-0-is at c.in-Ok-Some.ensures in
    let sent : AreSent c.packets.result.now c.args.played.before c.requires.played.1.sent =
    subst (λ ws. AreSent ws c.args.played.before c.requires.played.1.sent) (sym c.packets.ensures)
    (moment_is_sent (machines g.S.Service.started g.S.Service.after g.S.Service.greeting) (all_readable (machines g.S.Service.started g.S.Service.after g.S.Service.greeting) (λ kind. (g.met.S.Service.greets_shortly (g.S.Service.started kind), g.met.S.Service.is_short)) g.met.S.Service.writes_bytes)
    c.args.text.now c.args.schedule.now c.requires.played.0 c.requires.played.1 c.args.played.place c.args.played.before c.args.played.law c.args.world.now c.requires.played.2) in (
      c.requires.played.1 ∷ c.requires.played.0,
      turn_leads (machines g.S.Service.started g.S.Service.after g.S.Service.greeting) (all_readable (machines g.S.Service.started g.S.Service.after g.S.Service.greeting) (λ kind. (g.met.S.Service.greets_shortly (g.S.Service.started kind), g.met.S.Service.is_short)) g.met.S.Service.writes_bytes)
          c.args.text.now c.args.schedule.now c.requires.played.0 c.requires.played.1 c.args.played.place
          (record { at = c.in-Ok-Some.read.end; lines = c.args.played.place.lines + c.in-Ok-Some.read.count; size = c.args.played.place.size }) c.args.played.before c.in-Ok-Some.read.count c.args.played.law c.args.world.now
          c.requires.played.2 (reported.reported c.requires.played.1.sent sent) (reported.within.2 ∙ ap length c.packets.ensures) refl refl,
    )

pub returns-in-Ok-None-clause-rejected : goal.returns-in-Ok-None-clause-rejected
returns-in-Ok-None-clause-rejected g c =
    let reported = rw c.in-Ok-None.field-0-is at c.in-Ok-None.ensures in
    let sent : AreSent c.packets.result.now c.args.played.before c.requires.played.1.sent =
    subst (λ ws. AreSent ws c.args.played.before c.requires.played.1.sent) (sym c.packets.ensures)
    (moment_is_sent (machines g.S.Service.started g.S.Service.after g.S.Service.greeting) (all_readable (machines g.S.Service.started g.S.Service.after g.S.Service.greeting) (λ kind. (g.met.S.Service.greets_shortly (g.S.Service.started kind), g.met.S.Service.is_short)) g.met.S.Service.writes_bytes)
    c.args.text.now c.args.schedule.now c.requires.played.0 c.requires.played.1 c.args.played.place c.args.played.before c.args.played.law c.args.world.now c.requires.played.2) in
    c.reject_turn.ensures c.requires.played.0 c.requires.played.1.event (sym c.requires.played.2.sent) c.requires.played.2.law_is c.requires.played.2.leads
    (no_other_turn (machines g.S.Service.started g.S.Service.after g.S.Service.greeting) (λ schedule trace other a b. legal_once (machines g.S.Service.started g.S.Service.after g.S.Service.greeting) schedule schedule.events trace other a b) c.args.text.now c.args.schedule.now c.requires.played.0 c.requires.played.1 c.args.played.place
    c.args.played.before c.args.played.law c.args.world.now c.requires.played.2 (reported.reported c.requires.played.1.sent sent))
