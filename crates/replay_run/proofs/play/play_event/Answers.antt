use Rattle.std.proofs.Common.{◌∙◌, ◌++◌, ap, sym, subst, refl}
use Rattle.net_schedule.specs.WorldView.{kept}
use Rattle.replay_run.specs.Playback.{Plays, StopsPlaying}
use Rattle.replay_run.proofs.Either.{plays_one, stops_at}
use Rattle.replay_run.proofs.Playing.{event_played, stands_on, goes_out, goes_out_in_part, holds_front, step_ends}
use Rattle.replay_run.proofs.play.play_event.Goals as goal
use Rattle.ft_io.proofs.Outcomes.{of_error}

pub write_played-requires-clause-stands : goal.write_played-requires-clause-stands
write_played-requires-clause-stands g c =
    stands_on (kept c.args.world.now) (kept c.step.new.self) c.args.event.now c.in-Ok.answer c.requires
    (plays_one (record { one = c.worlds_keep_what_was_sent.ensures.all; two = c.worlds_keep_what_was_sent.ensures.twin_all; marked = c.marked_worlds_keep_what_was_sent.ensures.all refl }) c.args.event.now
    c.in-Ok.answer (kept c.args.world.now) (kept c.step.new.self) (record { one = c.in-Ok.ensures.done; two = c.in-Ok.ensures.twin_done; marked = c.in-Ok.ensures.marked_done refl })
    c.requires.schedule.twin c.requires.schedule.marks c.requires.schedule c.requires.events c.requires.trace c.requires.stands)

pub returns-in-Err-clause-stops : goal.returns-in-Err-clause-stops
returns-in-Err-clause-stops g c = λ schedule others old before at.
    subst (StopsPlaying schedule (kept c.step.new.self) old (g.O.Sink.taken c.args.out.now) c.args.report.now.held.items) (sym c.end_of_step.ensures)
    (step_ends schedule others c.args.event.now c.args.n (kept c.args.world.now) (kept c.step.new.self) old (g.O.Sink.taken c.args.out.now) c.args.report.now.held.items c.in-Err.end before at
    (stops_at c.args.event.now (kept c.args.world.now) (kept c.step.new.self) c.in-Err.end (record { one = c.in-Err.ensures.ends; two = c.in-Err.ensures.twin_ends; marked = c.in-Err.ensures.marked_ends refl })
    schedule.twin schedule.marks schedule before.plays.played.events before.plays.played.trace before.plays.stands) c.in-Err.ensures.keeps)

pub returns-in_err-write_played-clause-stops : goal.returns-in_err-write_played-clause-stops
returns-in_err-write_played-clause-stops g c =
    of_error c.from_residual.result c.from_residual.ensures.1
    (λ end is. λ schedule others old before at.
    subst (StopsPlaying schedule (kept c.step.new.self) old (g.O.Sink.taken c.args.out.now) c.args.report.now.held.items) (sym is)
    (holds_front schedule _ (kept c.args.world.now) old (g.O.Sink.taken c.args.out.now) c.args.report.now.held.items before.plays))

pub returns-in_err-extend_from_slice-clause-stops : goal.returns-in_err-extend_from_slice-clause-stops
returns-in_err-extend_from_slice-clause-stops g c =
    of_error c.from_residual-in_err-extend_from_slice.result c.from_residual-in_err-extend_from_slice.ensures.1
    (λ end is. λ schedule others old before at.
    subst (StopsPlaying schedule (kept c.step.new.self) old (g.O.Sink.taken c.args.out.now) c.extend_from_slice.new.self.items) (sym is)
    (holds_front schedule _ (kept c.args.world.now) old (g.O.Sink.taken c.args.out.now) c.extend_from_slice.new.self.items
    (subst (Plays schedule _ (kept c.args.world.now) old (g.O.Sink.taken c.args.out.now)) (sym c.in_err-extend_from_slice.ensures.items) before.plays)))

pub returns-in_err-flush_piece-clause-stops : goal.returns-in_err-flush_piece-clause-stops
returns-in_err-flush_piece-clause-stops g c =
    of_error c.from_residual-in_err-flush_piece.result c.from_residual-in_err-flush_piece.ensures.1
    (λ end is. λ schedule others old before at.
    subst (StopsPlaying schedule (kept c.step.new.self) old (g.O.Sink.taken c.flush_piece.new.out) c.flush_piece.new.report.held.items) (sym is)
    (goes_out_in_part schedule others (kept c.step.new.self) old (g.O.Sink.taken c.args.out.now) (g.O.Sink.taken c.flush_piece.new.out) c.extend_from_slice.new.self.items
    (event_played c.legal_traces_are_safe.ensures schedule others c.args.event.now c.args.n (kept c.args.world.now) (kept c.step.new.self) old (g.O.Sink.taken c.args.out.now) c.args.report.now.held.items
    c.extend_from_slice.new.self.items c.clear.new.self.items c.write_played.new.lines.items c.in-Ok.answer before.plays at
    (plays_one (record { one = c.worlds_keep_what_was_sent.ensures.all; two = c.worlds_keep_what_was_sent.ensures.twin_all; marked = c.marked_worlds_keep_what_was_sent.ensures.all refl }) c.args.event.now
    c.in-Ok.answer (kept c.args.world.now) (kept c.step.new.self) (record { one = c.in-Ok.ensures.done; two = c.in-Ok.ensures.twin_done; marked = c.in-Ok.ensures.marked_done refl })
    schedule.twin schedule.marks schedule before.plays.played.events before.plays.played.trace before.plays.stands) c.in_ok-write_played.ensures c.clear.ensures.items
    (c.in_ok-extend_from_slice.ensures.items ∙ ap (λ l. c.args.report.now.held.items ++ l) c.deref.ensures.value))
    c.in_err-flush_piece.ensures.err))

pub returns-clause-done : goal.returns-clause-done
returns-clause-done g c = λ schedule others old before at.
    goes_out schedule others (kept c.step.new.self) old (g.O.Sink.taken c.args.out.now) (g.O.Sink.taken c.flush_piece.new.out) c.extend_from_slice.new.self.items c.flush_piece.new.report.held.items
    (event_played c.legal_traces_are_safe.ensures schedule others c.args.event.now c.args.n (kept c.args.world.now) (kept c.step.new.self) old (g.O.Sink.taken c.args.out.now) c.args.report.now.held.items
    c.extend_from_slice.new.self.items c.clear.new.self.items c.write_played.new.lines.items c.in-Ok.answer before.plays at
    (plays_one (record { one = c.worlds_keep_what_was_sent.ensures.all; two = c.worlds_keep_what_was_sent.ensures.twin_all; marked = c.marked_worlds_keep_what_was_sent.ensures.all refl }) c.args.event.now
    c.in-Ok.answer (kept c.args.world.now) (kept c.step.new.self) (record { one = c.in-Ok.ensures.done; two = c.in-Ok.ensures.twin_done; marked = c.in-Ok.ensures.marked_done refl })
    schedule.twin schedule.marks schedule before.plays.played.events before.plays.played.trace before.plays.stands) c.in_ok-write_played.ensures c.clear.ensures.items
    (c.in_ok-extend_from_slice.ensures.items ∙ ap (λ l. c.args.report.now.held.items ++ l) c.deref.ensures.value))
    c.in_ok-flush_piece.ensures.ok c.in_ok-flush_piece.ensures.held_back

pub returns-clause-stands : goal.returns-clause-stands
returns-clause-stands g c =
    stands_on (kept c.args.world.now) (kept c.step.new.self) c.args.event.now c.in-Ok.answer c.requires
    (plays_one (record { one = c.worlds_keep_what_was_sent.ensures.all; two = c.worlds_keep_what_was_sent.ensures.twin_all; marked = c.marked_worlds_keep_what_was_sent.ensures.all refl }) c.args.event.now
    c.in-Ok.answer (kept c.args.world.now) (kept c.step.new.self) (record { one = c.in-Ok.ensures.done; two = c.in-Ok.ensures.twin_done; marked = c.in-Ok.ensures.marked_done refl })
    c.requires.schedule.twin c.requires.schedule.marks c.requires.schedule c.requires.events c.requires.trace c.requires.stands)
