use Rattle.std.proofs.Common.{◌≡◌, ◌+◌, ◌∙◌, Some, refl, sym, ap, arith}
use Rattle.std.specs.Io.KnownBytes.{Appends}
use Rattle.ft_io.specs.Sink.{AppendsFront}
use Rattle.peer_client.specs.Live.{LiveState}
use Rattle.peer_client.specs.declared.live.ClientEnd.TheVariants as ends
use Rattle.link_parts.specs.ClientRuns.{IsEndedBy, IsSpent, IsCutShort}
use Rattle.link_parts.proofs.ClientRunning.{runs_none, runs_limited, runs_whole, runs_front, runs_end}
use Rattle.link_parts.proofs.client.take_turns.Goals as goal

pub loop-turn-init : goal.loop-turn-init
loop-turn-init g c = (
  runs_none c.args.client.now c.flush.new.client c.args.role.now.server (g.L.Link.reported c.args.link.now) (g.L.Link.reported c.flush.new.link) (g.O.Sink.taken c.args.out.now)
      c.requires.fresh.server c.flush.ensures.sent c.flush.ensures.state,
  ap (λ (l : LiveState). l.outcome) c.flush.ensures.state ∙ c.requires.fresh.outcome,
  refl,
  c.flush.ensures.no_bind_fault,
)

pub take_turn-requires-clause-limited : goal.take_turn-requires-clause-limited
take_turn-requires-clause-limited g c =
    runs_limited c.args.role.now.isn c.args.client.now c.loop-turn.client c.loop-turn._turn (g.L.Link.reported c.args.link.now) (g.L.Link.reported c.loop-turn.link)
    (Appends (g.O.Sink.taken c.args.out.now) (g.O.Sink.taken c.loop-turn.out)) c.requires.fresh.limited c.loop-turn.invariant.0

pub loop-turn-preserved : goal.loop-turn-preserved
loop-turn-preserved g c = (
  runs_whole c.args.role.now.isn c.args.client.now c.loop-turn.client c.take_turn.new.client c.args.role.now.server c.loop-turn._turn (g.L.Link.reported c.args.link.now)
      (g.L.Link.reported c.loop-turn.link) (g.L.Link.reported c.take_turn.new.link) (g.O.Sink.taken c.args.out.now) (g.O.Sink.taken c.loop-turn.out) (g.O.Sink.taken c.take_turn.new.out)
      c.requires.fresh.limited c.requires.fresh.server c.loop-turn.invariant.0 c.loop-turn.invariant.1 c.in-Ok.ensures.turned,
  sym c.outcome.ensures ∙ c.in-None.is,
  c.in-Ok.ensures.no_write_fault ∙ c.loop-turn.invariant.2,
  c.take_turn.ensures.no_bind_fault ∙ c.loop-turn.invariant.3,
)

pub returns-in-Err-clause-stops : goal.returns-in-Err-clause-stops
returns-in-Err-clause-stops g c = λ machine begins.
    runs_end c.args.client.now c.take_turn.new.client machine (c.loop-turn._turn + 1) c.args.role.now.turns (g.L.Link.reported c.args.link.now) (g.L.Link.reported c.take_turn.new.link)
    (AppendsFront (g.O.Sink.taken c.args.out.now) (g.O.Sink.taken c.take_turn.new.out)) IsCutShort begins (omega (arith, c.loop-turn-test.true)) tt
    (runs_front c.args.role.now.isn c.args.client.now c.loop-turn.client c.take_turn.new.client c.args.role.now.server c.loop-turn._turn (g.L.Link.reported c.args.link.now)
    (g.L.Link.reported c.loop-turn.link) (g.L.Link.reported c.take_turn.new.link) (g.O.Sink.taken c.args.out.now) (g.O.Sink.taken c.loop-turn.out) (g.O.Sink.taken c.take_turn.new.out)
    c.requires.fresh.limited c.requires.fresh.server c.loop-turn.invariant.0 c.loop-turn.invariant.1 c.in-Err.ensures.cut_short)

pub returns-in-Some-Closed-clause-done : goal.returns-in-Some-Closed-clause-done
returns-in-Some-Closed-clause-done g c = λ machine begins.
    let outcome : c.take_turn.new.client.outcome ≡ Some ends.Closed = cc in
    runs_end c.args.client.now c.take_turn.new.client machine (c.loop-turn._turn + 1) c.args.role.now.turns (g.L.Link.reported c.args.link.now) (g.L.Link.reported c.take_turn.new.link)
    (Appends (g.O.Sink.taken c.args.out.now) (g.O.Sink.taken c.take_turn.new.out)) (IsEndedBy ends.Closed) begins (omega (arith, c.loop-turn-test.true)) outcome
    (runs_whole c.args.role.now.isn c.args.client.now c.loop-turn.client c.take_turn.new.client c.args.role.now.server c.loop-turn._turn (g.L.Link.reported c.args.link.now)
    (g.L.Link.reported c.loop-turn.link) (g.L.Link.reported c.take_turn.new.link) (g.O.Sink.taken c.args.out.now) (g.O.Sink.taken c.loop-turn.out) (g.O.Sink.taken c.take_turn.new.out)
    c.requires.fresh.limited c.requires.fresh.server c.loop-turn.invariant.0 c.loop-turn.invariant.1 c.in-Ok.ensures.turned)

pub returns-in-Some-Reset-clause-stops : goal.returns-in-Some-Reset-clause-stops
returns-in-Some-Reset-clause-stops g c = λ machine begins.
    let outcome : c.take_turn.new.client.outcome ≡ Some ends.Reset = cc in
    runs_end c.args.client.now c.take_turn.new.client machine (c.loop-turn._turn + 1) c.args.role.now.turns (g.L.Link.reported c.args.link.now) (g.L.Link.reported c.take_turn.new.link)
    (Appends (g.O.Sink.taken c.args.out.now) (g.O.Sink.taken c.take_turn.new.out)) (IsEndedBy ends.Reset) begins (omega (arith, c.loop-turn-test.true)) outcome
    (runs_whole c.args.role.now.isn c.args.client.now c.loop-turn.client c.take_turn.new.client c.args.role.now.server c.loop-turn._turn (g.L.Link.reported c.args.link.now)
    (g.L.Link.reported c.loop-turn.link) (g.L.Link.reported c.take_turn.new.link) (g.O.Sink.taken c.args.out.now) (g.O.Sink.taken c.loop-turn.out) (g.O.Sink.taken c.take_turn.new.out)
    c.requires.fresh.limited c.requires.fresh.server c.loop-turn.invariant.0 c.loop-turn.invariant.1 c.in-Ok.ensures.turned)

pub returns-clause-stops : goal.returns-clause-stops
returns-clause-stops g c = λ machine begins.
    let all : c.loop-turn._turn ≡ c.args.role.now.turns = omega (arith, c.loop-turn-test.false, c.loop-turn.auto._turn-end) in
    runs_end c.args.client.now c.loop-turn.client machine c.loop-turn._turn c.args.role.now.turns (g.L.Link.reported c.args.link.now) (g.L.Link.reported c.loop-turn.link)
    (Appends (g.O.Sink.taken c.args.out.now) (g.O.Sink.taken c.loop-turn.out)) (IsSpent c.args.role.now.turns) begins (omega (arith, all)) (c.loop-turn.invariant.1, all)
    c.loop-turn.invariant.0
