use Rattle.std.proofs.Common.{◌∙◌, ◌≤◌, ◌++◌, ◌∷◌, [], ap, sym, subst, arith, take, length}
use Rattle.std.proofs.lemmas.List.{take_more, take_all}
use Rattle.lasting_world.specs.Around.{kept_around}
use Rattle.lasting_world.specs.Sending.{StoresWires}
use Rattle.lasting_world.proofs.StoredWires.{both_stored}
use Rattle.lasting_world.proofs.sending.store_sent.Goals as goal

pub loop-packet-preserved : goal.loop-packet-preserved
loop-packet-preserved c =
    let i = c.loop-packet.packet-index in
    let w = c.packet-item.result in
    let before = kept_around c.args.around.now in
    let parts = take_more c.args.sent.now i w c.loop-packet-test.true ∙ ap (λ x. take i c.args.sent.now ++ x ∷ []) (sym c.packet-item.is) in
    subst (λ l. StoresWires l before (kept_around c.store.new.around)) (sym parts)
    (both_stored (take i c.args.sent.now) (w ∷ []) before (kept_around c.loop-packet.around) (kept_around c.store.new.around) c.loop-packet.invariant c.in_ok-store.ensures)

pub returns : goal.returns
returns c =
    let all : length c.args.sent.now ≤ c.loop-packet.packet-index = omega arith in
    subst (λ l. StoresWires l (kept_around c.args.around.now) (kept_around c.loop-packet.around)) (take_all c.loop-packet.packet-index c.args.sent.now all) c.loop-packet.invariant
