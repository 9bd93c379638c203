use Rattle.std.proofs.Common.{refl, subst, sym}
use Rattle.std.proofs.lemmas.Result.{on_ok_weaker}
use Rattle.lasting_world.specs.Around.{kept_around}
use Rattle.lasting_world.specs.Sending.{StoresWires}
use Rattle.lasting_world.specs.Steps.{wires_kept, KeepsSent}
use Rattle.lasting_world.specs.WorldView.{kept}
use Rattle.lasting_world.proofs.StoredWires.{none_stored}
use Rattle.lasting_world.proofs.world.World.keep_sent.Goals as goal

pub returns-in_default : goal.returns-in_default
returns-in_default g c =
    let w = c.args.self.now in
    subst (λ n. KeepsSent (wires_kept n) (kept w) (kept w)) (sym c.in_default.is) (record { stores = none_stored (kept_around w.around); rest = refl })

pub returns : goal.returns
returns g c =
    let w = c.args.self.now in
    on_ok_weaker c.store_sent.result
    (λ stored. record {
      stores = subst (λ n. StoresWires (wires_kept n) (kept_around w.around) (kept_around c.store_sent.new.around)) (sym c.in-Some.is)
          (subst (λ l. StoresWires l (kept_around w.around) (kept_around c.store_sent.new.around)) c.sent.ensures stored);
      rest = refl;
    }) c.store_sent.ensures
