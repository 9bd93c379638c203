use Rattle.std.proofs.Common.{◌++◌, ap, subst, to_z-of_z, w32}
use Rattle.std.specs.Prelude.{codes}
use Rattle.std.specs.Fmt.{signed_decimal}
use Rattle.std.specs.Io.KnownBytes.{Appends}
use Rattle.std.proofs.KnownBytes.{Appends-trans}
use Rattle.std.proofs.lemmas.Result.{on_ok_weaker, on_err_weaker}
use Rattle.ft_io.specs.Sink.{AppendsFront}
use Rattle.link_parts.specs.Pair.{status_text}
use Rattle.link_parts.proofs.Fronts.{front_before}
use Rattle.ft_io.proofs.Outcomes.{at_err}
use Rattle.link_parts.proofs.pair.write_status.Goals as goal
use Rattle.link_parts.proofs.ClientRunning.{front_more}

pub returns-in_err-write_all-clause-front : goal.returns-in_err-write_all-clause-front
returns-in_err-write_all-clause-front g c =
    let text = subst (AppendsFront (g.O.Sink.taken c.args.out.now) (g.O.Sink.taken c.write_all.new.out)) c.status_text.ensures c.in_err-write_all.ensures.front in
    at_err c.from_residual.result
    (front_before (g.O.Sink.taken c.args.out.now) (g.O.Sink.taken c.write_all.new.out) (status_text c.args.name) (signed_decimal c.args.status ++ codes "\n") text)

pub returns-in_err-write_number-clause-front : goal.returns-in_err-write_number-clause-front
returns-in_err-write_number-clause-front g c =
    let text = subst (Appends (g.O.Sink.taken c.args.out.now) (g.O.Sink.taken c.write_all.new.out)) c.status_text.ensures c.in_ok-write_all.ensures.whole in
    at_err c.from_residual-in_err-write_number.result
    (front_more (g.O.Sink.taken c.args.out.now) (g.O.Sink.taken c.write_all.new.out) (g.O.Sink.taken c.write_number.new.out) (status_text c.args.name) (signed_decimal c.args.status ++ codes "\n")
    text
    (front_before (g.O.Sink.taken c.write_all.new.out) (g.O.Sink.taken c.write_number.new.out) (signed_decimal c.args.status) (codes "\n")
    (subst (AppendsFront (g.O.Sink.taken c.write_all.new.out) (g.O.Sink.taken c.write_number.new.out)) (ap signed_decimal (to_z-of_z {w = w32} c.ranges.status)) c.in_err-write_number.ensures.front)))

pub returns-clause-whole : goal.returns-clause-whole
returns-clause-whole g c =
    let text = subst (Appends (g.O.Sink.taken c.args.out.now) (g.O.Sink.taken c.write_all.new.out)) c.status_text.ensures c.in_ok-write_all.ensures.whole in
    on_ok_weaker c.write_all-2.result
    (λ last. Appends-trans (g.O.Sink.taken c.args.out.now) (g.O.Sink.taken c.write_all.new.out) (g.O.Sink.taken c.write_all-2.new.out) (status_text c.args.name)
    (signed_decimal c.args.status ++ codes "\n") text
    (Appends-trans (g.O.Sink.taken c.write_all.new.out) (g.O.Sink.taken c.write_number.new.out) (g.O.Sink.taken c.write_all-2.new.out) (signed_decimal c.args.status) (codes "\n")
    (subst (Appends (g.O.Sink.taken c.write_all.new.out) (g.O.Sink.taken c.write_number.new.out)) (ap signed_decimal (to_z-of_z {w = w32} c.ranges.status)) c.in_ok-write_number.ensures.whole)
    last))
    c.write_all-2.ensures.whole

pub returns-clause-front : goal.returns-clause-front
returns-clause-front g c =
    let text = subst (Appends (g.O.Sink.taken c.args.out.now) (g.O.Sink.taken c.write_all.new.out)) c.status_text.ensures c.in_ok-write_all.ensures.whole in
    on_err_weaker c.write_all-2.result
    (λ last. front_more (g.O.Sink.taken c.args.out.now) (g.O.Sink.taken c.write_all.new.out) (g.O.Sink.taken c.write_all-2.new.out) (status_text c.args.name)
    (signed_decimal c.args.status ++ codes "\n") text
    (front_more (g.O.Sink.taken c.write_all.new.out) (g.O.Sink.taken c.write_number.new.out) (g.O.Sink.taken c.write_all-2.new.out) (signed_decimal c.args.status) (codes "\n")
    (subst (Appends (g.O.Sink.taken c.write_all.new.out) (g.O.Sink.taken c.write_number.new.out)) (ap signed_decimal (to_z-of_z {w = w32} c.ranges.status)) c.in_ok-write_number.ensures.whole)
    last))
    c.write_all-2.ensures.front
