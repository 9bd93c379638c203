use Rattle.std.proofs.Common.{◌∙◌, ◌++◌, subst}
use Rattle.std.specs.Prelude.{codes, decimal}
use Rattle.std.specs.Io.KnownBytes.{Appends}
use Rattle.std.proofs.KnownBytes.{Appends-trans}
use Rattle.std.proofs.lemmas.Result.{on_ok_weaker, on_err_weaker}
use Rattle.ft_io.specs.Sink.{AppendsFront}
use Rattle.link_parts.proofs.Fronts.{front_before}
use Rattle.ft_io.proofs.Outcomes.{at_err}
use Rattle.link_parts.proofs.reporting.write_fence.Goals as goal
use Rattle.link_parts.proofs.ClientRunning.{front_more}

pub returns-in_err-write_all-clause-front : goal.returns-in_err-write_all-clause-front
returns-in_err-write_all-clause-front g c =
    at_err c.from_residual.result
    (front_before (g.E.Sink.taken c.args.err.now) (g.E.Sink.taken c.write_all.new.out) (codes "ftnode: fenced by boot ") (decimal c.args.newer ++ codes "\n") c.in_err-write_all.ensures.front)

pub returns-in_err-write_all-2-clause-front : goal.returns-in_err-write_all-2-clause-front
returns-in_err-write_all-2-clause-front g c =
    let number = subst (AppendsFront (g.E.Sink.taken c.write_all.new.out) (g.E.Sink.taken c.write_all-2.new.out)) (c.as_bytes.ensures.value ∙ c.format.ensures.text) c.in_err-write_all-2.ensures.front in
    at_err c.from_residual-in_err-write_all-2.result
    (front_more (g.E.Sink.taken c.args.err.now) (g.E.Sink.taken c.write_all.new.out) (g.E.Sink.taken c.write_all-2.new.out) (codes "ftnode: fenced by boot ") (decimal c.args.newer ++ codes "\n")
    c.in_ok-write_all.ensures.whole
    (front_before (g.E.Sink.taken c.write_all.new.out) (g.E.Sink.taken c.write_all-2.new.out) (decimal c.args.newer) (codes "\n") number))

pub returns-clause-whole : goal.returns-clause-whole
returns-clause-whole g c =
    let number = subst (Appends (g.E.Sink.taken c.write_all.new.out) (g.E.Sink.taken c.write_all-2.new.out)) (c.as_bytes.ensures.value ∙ c.format.ensures.text) c.in_ok-write_all-2.ensures.whole in
    on_ok_weaker c.write_all-3.result
    (λ last. Appends-trans (g.E.Sink.taken c.args.err.now) (g.E.Sink.taken c.write_all.new.out) (g.E.Sink.taken c.write_all-3.new.out) (codes "ftnode: fenced by boot ") (decimal c.args.newer ++ codes "\n")
    c.in_ok-write_all.ensures.whole
    (Appends-trans (g.E.Sink.taken c.write_all.new.out) (g.E.Sink.taken c.write_all-2.new.out) (g.E.Sink.taken c.write_all-3.new.out) (decimal c.args.newer) (codes "\n") number last))
    c.write_all-3.ensures.whole

pub returns-clause-front : goal.returns-clause-front
returns-clause-front g c =
    let number = subst (Appends (g.E.Sink.taken c.write_all.new.out) (g.E.Sink.taken c.write_all-2.new.out)) (c.as_bytes.ensures.value ∙ c.format.ensures.text) c.in_ok-write_all-2.ensures.whole in
    on_err_weaker c.write_all-3.result
    (λ last. front_more (g.E.Sink.taken c.args.err.now) (g.E.Sink.taken c.write_all.new.out) (g.E.Sink.taken c.write_all-3.new.out) (codes "ftnode: fenced by boot ") (decimal c.args.newer ++ codes "\n")
    c.in_ok-write_all.ensures.whole
    (front_more (g.E.Sink.taken c.write_all.new.out) (g.E.Sink.taken c.write_all-2.new.out) (g.E.Sink.taken c.write_all-3.new.out) (decimal c.args.newer) (codes "\n") number last))
    c.write_all-3.ensures.front
