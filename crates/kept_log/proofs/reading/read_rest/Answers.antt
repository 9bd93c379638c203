use Rattle.std.proofs.Common.{ℕ, List, subst}
use Rattle.kept_log.specs.ReadSteps.{Reaches, IsTail}
use Rattle.kept_log.specs.declared.reading.Reached.TheVariants.{End}
use Rattle.kept_log.proofs.Whole.{found_behind}
use Rattle.kept_log.proofs.reading.read_rest.Goals as goal

pub returns-in_ok-fill_up-in-End-clause-found : goal.returns-in_ok-fill_up-in-End-clause-found
returns-in_ok-fill_up-in-End-clause-found g c =
    let left = g.D.Disk.left in
    let reached : Reaches c.args.made.now c.args.window.now (left c.args.disk.now) (left c.read_blocks.new.disk) c.read_blocks.new.window c.read_blocks.new.store (End c.in-End.tip) =
    subst (Reaches c.args.made.now c.args.window.now (left c.args.disk.now) (left c.read_blocks.new.disk) c.read_blocks.new.window c.read_blocks.new.store) c.in-End.is c.in_ok-at.ensures.reached in
    let more = c.in_ok-fill_up-in-End.ensures.read in
    found_behind c.args.made.now c.args.window.now (left c.args.disk.now) (left c.read_blocks.new.disk) (left c.fill_up.new.disk) c.read_blocks.new.window more.0 c.fill_up.new.window c.in-End.tip
    c.read_blocks.new.store reached more.1 more.2 c.in_ok-fill_up-in-End.ensures.end c.tail_of.result
    (subst (λ (b : List ℕ). IsTail c.in-End.tip b c.tail_of.result) c.bytes.ensures c.tail_of.ensures)
