use Rattle.std.proofs.Common.{◌≡◌, ◌∙◌, ◌+◌, ◌*◌, ◌≤◌, ap, ap₂, refl, subst, arith, take, sum}
use Rattle.log_pages.specs.Pages.{levelled}
use Rattle.log_pages.proofs.Levels.{level_stays, level_total, level_ranges, level_more}
use Rattle.log_pages.proofs.read_lengths.ReadLengths.discard.Goals as goal

pub returns-then-reads-given_up : goal.returns-then-reads-given_up
returns-then-reads-given_up c =
    subst (λ xs. xs ≡ levelled c.args.reads xs) c.self.view_is (level_stays c.self.inside.low c.self.inside.high c.self.inside.rest c.args.reads c.self.invariant (grind arith))

pub level_runs-requires : goal.level_runs-requires
level_runs-requires c =
    let within : c.self.inside.low.count + c.self.inside.high.count ≤ c.args.reads = grind arith in
    level_ranges c.args.self.now c.args.reads _
    (level_total c.self.inside.low c.self.inside.high c.self.inside.rest (c.self.inside.low.count + c.self.inside.high.count) c.args.reads
    (c.self.inside.low.count * c.from.result + c.self.inside.high.count * c.from-2.result) c.drop_first-more.result refl within c.drop_first-more.ensures.took (ap₂ (λ a b. c.self.inside.low.count * a + c.self.inside.high.count * b) c.from.ensures c.from-2.ensures)
    ∙ ap (λ xs. sum (take c.args.reads xs)) c.self.view_is)
    c.requires.there c.requires.on c.requires.each

pub returns : goal.returns
returns c =
    let within : c.self.inside.low.count + c.self.inside.high.count ≤ c.args.reads = grind arith in
    level_more c.self.inside.low c.self.inside.high c.level_runs.result.0 c.level_runs.result.1 c.self.inside.rest c.drop_first-more.new.self
    (c.self.inside.low.count + c.self.inside.high.count) c.args.reads
    (c.self.inside.low.count * c.from.result + c.self.inside.high.count * c.from-2.result) c.drop_first-more.result refl within c.drop_first-more.ensures.took (ap₂ (λ a b. c.self.inside.low.count * a + c.self.inside.high.count * b) c.from.ensures c.from-2.ensures)
    c.drop_first-more.ensures.rest c.level_runs.ensures.value
    ∙ ap (levelled c.args.reads) c.self.view_is
