use Rattle.std.proofs.Common.{◌≡◌, ◌∙◌, ap, subst, sym, List}
use Rattle.std.proofs.lemmas.Result.{on_ok_weaker}
use Rattle.seq_arith.specs.Packet.{Segment}
use Rattle.server_trait.specs.Service.{Machine}
use Rattle.ft_model.specs.Client.{received}
use Rattle.ft_model.specs.Network.{Packet, destination_of}
use Rattle.ft_model.specs.Network.Packet.{To_client}
use Rattle.ft_model.specs.World.{World, Delivered, with_client}
use Rattle.ft_model.proofs.Lists.{some_is}
use Rattle.net_schedule.specs.WorldView.{service_of}
use Rattle.net_schedule.proofs.excluded.delivers_another_packet.Goals as goal

-- a client's packet reaches that client
on_receipt : {State : Type 0} (service : Machine State) (v after : World) (packet : Packet) (segment : Segment) (sent : List Packet) → packet ≡ To_client segment
    → Delivered service v packet sent after → after.clients ≡ with_client (destination_of segment) (λ c. received c segment) v.clients
on_receipt service v after packet segment sent is delivered =
    let receipt = subst (λ p. Delivered service v p sent after) is delivered in ap (λ (w : World). w.clients) receipt.1

pub returns : goal.returns
returns g c =
    on_ok_weaker c.act.result
    (λ does v segment stands premises is.
    let next = (does.one v stands premises).happens in
    next.stands.clients
    ∙ on_receipt (service_of c.args.world.now) v next.world next.goes.0 segment next.sent (some_is next.goes.0 (To_client segment) (sym next.goes.1 ∙ is)) next.goes.2)
    c.act.ensures.done
