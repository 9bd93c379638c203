use Rattle.std.proofs.Common.{◌≡◌, ◌∙◌, ap, sym, subst, suc, add-one}
use Rattle.std.specs.Map.{values_of}
use Rattle.std.specs.Prelude.{slice_get, Some}
use Rattle.indexmap.specs.Layout.{length-set_value_at, set_value_at}
use Rattle.lasting_lives.proofs.Lived.{older_to, one_more}
use Rattle.lasting_lives.proofs.lives.tick_all.Goals as goal

pub loop-i-preserved : goal.loop-i-preserved
loop-i-preserved c =
    let es = c.loop-i.lives.entries in
    let i = c.loop-i.i in
    let next : set_value_at es i c.tick.new.self ≡ older_to (suc i) c.args.lives.now.entries =
    ap (λ xs. set_value_at xs i c.tick.new.self) c.loop-i.invariant.1
    ∙ one_more i c.args.lives.now.entries c.index_mut.result.now c.tick.new.self
    (subst (λ xs. slice_get (values_of xs) i ≡ Some c.index_mut.result.now) c.loop-i.invariant.1 c.index_mut.ensures.value) c.tick.ensures in
    (length-set_value_at es i c.tick.new.self ∙ c.loop-i.invariant.0, next ∙ ap (λ n. older_to n c.args.lives.now.entries) (sym (add-one i)))
