use Rattle.std.proofs.Common.{◌∙◌, ◌+◌, [], sym, ap, subst, arith}
use Rattle.sample_servers.specs.AnyService.{any_machine}
use Rattle.seq_arith.specs.Offset.{one_if}
use Rattle.ft_model.specs.World.{events_of}
use Rattle.net_schedule.specs.WorldView.{kept, server_of}
use Rattle.net_schedule.specs.Step.{EndsStep}
use Rattle.replay_seed.specs.SeedEvents.{next_event}
use Rattle.replay_seed.specs.Generated.{schedule_of}
use Rattle.replay_seed.specs.SeedSummaries.{StandsBehind}
use Rattle.replay_seed.specs.SummaryText.{is_boot, is_crash}
use Rattle.replay_seed.specs.declared.seed_progress.Progress.{Progress}
use Rattle.replay_seed.proofs.Facts.{client_count, totals, few_boots}
use Rattle.replay_seed.proofs.Stepping.{proceeds, goes_past, never_bad}
use Rattle.replay_seed.proofs.seed_progress.Progress.play_event.Goals as goal
use Rattle.net_schedule.proofs.Outcomes.{same_there}

pub next_event-event-requires-clause-clients : goal.next_event-event-requires-clause-clients
next_event-event-requires-clause-clients c =
    (client_count c.args.asked c.args.n (kept c.args.world.now) c.args.self.now c.requires.stands, c.requires.limits.0)

pub next_event-event-requires-clause-totals : goal.next_event-event-requires-clause-totals
next_event-event-requires-clause-totals c = totals c.args.asked c.args.n (kept c.args.world.now) c.args.self.now c.requires.stands

pub next_event-event-requires-clause-boots : goal.next_event-event-requires-clause-boots
next_event-event-requires-clause-boots c =
    let few = few_boots c.args.asked c.args.n (kept c.args.world.now) c.args.self.now c.requires.stands in
    omega (arith, few.0, c.requires.few, c.requires.limits.2)

pub count-requires-clause-events : goal.count-requires-clause-events
count-requires-clause-events c =
    let few = few_boots c.args.asked c.args.n (kept c.args.world.now) c.args.self.now c.requires.stands in
    let boots = ap (λ (p : Progress). p.boots) c.next_event-event.ensures.counts in
    let crashes = ap (λ (p : Progress). p.crashes) c.next_event-event.ensures.counts in
    (omega (arith, few.0, boots, c.requires.few, c.requires.limits.2), omega (arith, few.1, crashes, c.requires.few, c.requires.limits.2))

pub unreachable-requires : goal.unreachable-requires
unreachable-requires c =
    never_bad c.args.asked c.args.n (kept c.args.world.now) (kept c.step.new.self) c.args.self.now c.requires.stands c.next_event-event.result c.next_event-event.new.self.dice
    (c.next_event-event.ensures.drawn
    ∙ ap (λ up. next_event c.args.self.now.dice.draws.state c.args.self.now.packets c.args.world.now.clients.items (record { is_up = up; boots = c.args.self.now.boots })) (sym (same_there server_of c.args.world.now.node)))
    c.in-Err-BadEvent.field-0-0
    (subst (λ end. EndsStep any_machine (schedule_of c.args.asked.seed c.args.asked.clients []) (events_of c.requires.stands.trace) c.requires.stands.trace c.next_event-event.result (kept c.step.new.self) end)
    c.in-Err-BadEvent.field-0-is
    (c.in-Err-BadEvent.ensures.ends (schedule_of c.args.asked.seed c.args.asked.clients []) (events_of c.requires.stands.trace) c.requires.stands.trace c.requires.stands.stands))

pub returns-in-Ok-clause-done : goal.returns-in-Ok-clause-done
returns-in-Ok-clause-done c =
    subst (StandsBehind c.args.asked (c.args.n + 1) (kept c.step.new.self))
    (sym (c.count.ensures
    ∙ ap (λ (p : Progress). record p {
      packets = p.packets + c.in-Ok.answer.count;
      boots = p.boots + one_if (is_boot c.next_event-event.result);
      crashes = p.crashes + one_if (is_crash c.next_event-event.result);
    }) c.next_event-event.ensures.counts))
    (proceeds c.args.asked c.args.n (kept c.args.world.now) (kept c.step.new.self) c.args.self.now c.requires.stands c.next_event-event.result c.next_event-event.new.self.dice
    (c.next_event-event.ensures.drawn
    ∙ ap (λ up. next_event c.args.self.now.dice.draws.state c.args.self.now.packets c.args.world.now.clients.items (record { is_up = up; boots = c.args.self.now.boots })) (sym (same_there server_of c.args.world.now.node)))
    c.in-Ok.answer
    (c.in-Ok.ensures.done (schedule_of c.args.asked.seed c.args.asked.clients []) (events_of c.requires.stands.trace) c.requires.stands.trace c.requires.stands.stands))

pub returns-in-Err-PacketLimit-clause-past : goal.returns-in-Err-PacketLimit-clause-past
returns-in-Err-PacketLimit-clause-past c = λ _.
    goes_past c.args.asked c.args.n (kept c.args.world.now) (kept c.step.new.self) c.args.self.now c.requires.stands c.next_event-event.result c.next_event-event.new.self.dice
    (c.next_event-event.ensures.drawn
    ∙ ap (λ up. next_event c.args.self.now.dice.draws.state c.args.self.now.packets c.args.world.now.clients.items (record { is_up = up; boots = c.args.self.now.boots })) (sym (same_there server_of c.args.world.now.node)))
    c.requires.few
    (subst (λ end. EndsStep any_machine (schedule_of c.args.asked.seed c.args.asked.clients []) (events_of c.requires.stands.trace) c.requires.stands.trace c.next_event-event.result (kept c.step.new.self) end)
    c.in-Err-PacketLimit.field-0-is
    (c.in-Err-PacketLimit.ensures.ends (schedule_of c.args.asked.seed c.args.asked.clients []) (events_of c.requires.stands.trace) c.requires.stands.trace c.requires.stands.stands))
