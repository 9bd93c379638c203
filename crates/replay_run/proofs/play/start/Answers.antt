use Rattle.std.proofs.Common.{◌∙◌, ◌++◌, [], ap, sym, subst, append-nil, refl}
use Rattle.ft_model.specs.Report.{header}
use Rattle.net_schedule.specs.WorldView.{kept}
use Rattle.replay_run.specs.Playback.{HoldsAtEnd}
use Rattle.replay_run.proofs.Either.{stands_first}
use Rattle.replay_run.proofs.RunEnds.{begins, ends_before}
use Rattle.replay_run.proofs.Playing.{goes_out, goes_out_in_part}
use Rattle.replay_run.proofs.play.start.Goals as goal
use Rattle.ft_io.proofs.Outcomes.{of_error}

pub returns-in_err-write_header-clause-stops : goal.returns-in_err-write_header-clause-stops
returns-in_err-write_header-clause-stops g c =
    of_error c.from_residual.result c.from_residual.ensures.1
    (λ end is. subst (HoldsAtEnd c.args.schedule.now (g.O.Sink.taken c.args.out.now) (g.O.Sink.taken c.args.out.now) c.write_header.new.out.items) (sym is)
    (ends_before c.legal_traces_are_safe.ensures c.args.schedule.now (g.O.Sink.taken c.args.out.now) c.write_header.new.out.items (c.playable_schedules_start.ensures c.args.schedule.now c.requires.playable c.requires.fleeting)
    (header c.args.schedule.now, ap (λ held. held ++ header c.args.schedule.now) (c.in_err-write_header.ensures.err ∙ c.requires.empty))))

pub returns-in_err-world-clause-stops : goal.returns-in_err-world-clause-stops
returns-in_err-world-clause-stops g c =
    of_error c.from_residual-in_err-world.result c.from_residual-in_err-world.ensures.1
    (λ end is. subst (HoldsAtEnd c.args.schedule.now (g.O.Sink.taken c.args.out.now) (g.O.Sink.taken c.args.out.now) c.write_header.new.out.items) (sym is)
    (ends_before c.legal_traces_are_safe.ensures c.args.schedule.now (g.O.Sink.taken c.args.out.now) c.write_header.new.out.items (c.playable_schedules_start.ensures c.args.schedule.now c.requires.playable c.requires.fleeting)
    ([], append-nil c.write_header.new.out.items ∙ (c.in_ok-write_header.ensures.ok ∙ ap (λ held. held ++ header c.args.schedule.now) c.requires.empty))))

pub returns-in_err-flush_piece-clause-stops : goal.returns-in_err-flush_piece-clause-stops
returns-in_err-flush_piece-clause-stops g c =
    of_error c.from_residual-in_err-flush_piece.result c.from_residual-in_err-flush_piece.ensures.1
    (λ end is. subst (HoldsAtEnd c.args.schedule.now (g.O.Sink.taken c.args.out.now) (g.O.Sink.taken c.flush_piece.new.out) c.flush_piece.new.report.held.items) (sym is)
    (goes_out_in_part c.args.schedule.now c.args.schedule.now.events (kept c.in_ok-world.world) (g.O.Sink.taken c.args.out.now) (g.O.Sink.taken c.args.out.now) (g.O.Sink.taken c.flush_piece.new.out) c.write_header.new.out.items
    (begins c.legal_traces_are_safe.ensures c.args.schedule.now (kept c.in_ok-world.world) (g.O.Sink.taken c.args.out.now) c.write_header.new.out.items
    (stands_first c.args.schedule.now.twin c.args.schedule.now.marks c.args.schedule.now (kept c.in_ok-world.world) c.in_ok-world.ensures.one c.in_ok-world.ensures.two
    (λ every one is. c.in_ok-world.ensures.marked every refl one is (c.requires.marks every is)))
    (c.in_ok-write_header.ensures.ok ∙ ap (λ held. held ++ header c.args.schedule.now) c.requires.empty))
    c.in_err-flush_piece.ensures.err))

pub returns-clause-reaches : goal.returns-clause-reaches
returns-clause-reaches g c =
    goes_out c.args.schedule.now c.args.schedule.now.events (kept c.in_ok-world.world) (g.O.Sink.taken c.args.out.now) (g.O.Sink.taken c.args.out.now) (g.O.Sink.taken c.flush_piece.new.out) c.write_header.new.out.items
    c.flush_piece.new.report.held.items
    (begins c.legal_traces_are_safe.ensures c.args.schedule.now (kept c.in_ok-world.world) (g.O.Sink.taken c.args.out.now) c.write_header.new.out.items
    (stands_first c.args.schedule.now.twin c.args.schedule.now.marks c.args.schedule.now (kept c.in_ok-world.world) c.in_ok-world.ensures.one c.in_ok-world.ensures.two
    (λ every one is. c.in_ok-world.ensures.marked every refl one is (c.requires.marks every is)))
    (c.in_ok-write_header.ensures.ok ∙ ap (λ held. held ++ header c.args.schedule.now) c.requires.empty))
    c.in_ok-flush_piece.ensures.ok c.in_ok-flush_piece.ensures.held_back
