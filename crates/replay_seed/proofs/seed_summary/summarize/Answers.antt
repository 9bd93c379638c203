use Rattle.std.proofs.Common.{◌∙◌, sym, ap, arith}
use Rattle.std.specs.Option.{option_copied}
use Rattle.replay_seed.proofs.Summing.{row_done, nobody}
use Rattle.replay_seed.proofs.seed_summary.summarize.Goals as goal
use Rattle.replay_seed.proofs.seed_summary.summarize.Goals.{in-Some+in_ok-put_client, in_default}

pub loop-i-preserved : goal.loop-i-preserved
loop-i-preserved c = elim c.match-client.branch [
  | in-Some+in_ok-put_client w ↦ rw w.lines-is (row_done c.args.world.now.clients.items c.loop-i.i w.in-Some.client.now _ _ _ w.in-Some.ensures c.loop-i.invariant w.in_ok-put_client.ensures)
  | in_default w ↦ absurd (nobody c.args.world.now.clients.items c.loop-i.i (sym (ap option_copied w.in_default.is) ∙ c.client.ensures) (omega (arith, c.loop-i-test.true, c.requires.clients)))
]
