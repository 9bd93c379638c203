use Rattle.std.proofs.Common.{◌≡◌, ◌+◌, ◌∙◌, refl, ap, subst, arith, ◌∷◌, [], ◌++◌, length, true}
use Rattle.std.proofs.lemmas.List.{length-append}
use Rattle.ft_model.specs.Node.{Stage}
use Rattle.ft_model.specs.Restart.{is_whole}
use Rattle.ft_model.proofs.Lists.{all_front}
use Rattle.plain_world.specs.Served.{AreWhole}
use Rattle.plain_world.specs.Values.{node_of}
use Rattle.plain_world.proofs.Entries.{none_restored, more_restored, all_restored_now, count_is_low}
use Rattle.plain_world.proofs.restoring.restore_all.Goals as goal

pub loop-entry-init : goal.loop-entry-init
loop-entry-init g c = record {
  restored = λ (stage : Stage). none_restored _ (node_of c.args.who stage) c.args.fetched.now _ c.args.sent.now refl c.new.ensures.items;
  whole = c.requires.whole;
  few = omega (arith, c.requires.few);
  served = rw c.new.ensures.items tt;
}

pub loop-entry-preserved : goal.loop-entry-preserved
loop-entry-preserved g c =
    let cut : c.loop-entry.fetched ≡ c.pop.new.self ++ c.in-Some.entry ∷ [] = c.in-Some.ensures in
    let long : length c.loop-entry.fetched ≡ length c.pop.new.self + 1 = ap length cut ∙ length-append c.pop.new.self (c.in-Some.entry ∷ []) in
    let low = count_is_low c.in-Some.entry in record {
      restored = λ (stage : Stage).
          more_restored _ (node_of c.args.who stage) c.args.fetched.now c.loop-entry.fetched c.pop.new.self c.in-Some.entry c.loop-entry.serving c.restore.new.self
          c.args.sent.now c.loop-entry.sent c.restore.new.sent (c.loop-entry.invariant.restored stage) cut c.in_ok-restore.ensures.opened (c.in_ok-restore.ensures.turn stage);
      whole = (all_front (λ f. is_whole f ≡ true) c.pop.new.self c.in-Some.entry (subst AreWhole cut c.loop-entry.invariant.whole)).0;
      few = omega (arith, long, low, c.in_ok-restore.ensures.opened, c.loop-entry.invariant.few);
      served = c.in_ok-restore.ensures.served c.loop-entry.invariant.served;
    }

pub returns-clause-turn : goal.returns-clause-turn
returns-clause-turn g c =
    λ (stage : Stage).
    all_restored_now _ (node_of c.args.who stage) c.args.fetched.now c.loop-entry.fetched c.loop-entry.serving c.args.sent.now c.loop-entry.sent
    (c.loop-entry.invariant.restored stage) c.in_default.ensures.0
