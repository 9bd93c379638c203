use Rattle.std.proofs.Common.{◌≡◌, ◌∙◌, ap, subst, arith, ◌-◌, get_or}
use Rattle.std.proofs.Math.ListN.{set}
use Rattle.std.proofs.lemmas.Result.{on_ok_weaker}
use Rattle.peer_client.specs.Scripted.{delivered}
use Rattle.net_schedule.specs.WorldView.{kept}
use Rattle.net_schedule.proofs.Moving.{delivered_set, delivered_none, none_delivered}
use Rattle.net_schedule.proofs.world.World.deliver_to_client.Goals as goal

pub returns-then-number-eq0 : goal.returns-then-number-eq0
returns-then-number-eq0 g c =
    ap (λ cs. record (kept c.args.self.now) { clients = cs }) (none_delivered c.args.self.now.clients.items c.args.number c.args.bytes.now (omega arith))

pub returns-then-place-count : goal.returns-then-place-count
returns-then-place-count g c =
    ap (λ cs. record (kept c.args.self.now) { clients = cs }) (delivered_none c.args.self.now.clients.items c.args.number c.args.bytes.now (omega arith))

pub returns : goal.returns
returns g c =
    let items = c.args.self.now.clients.items in
    let client = c.index_mut.result.now in
    let is : client ≡ get_or items (c.args.number - 1) client = subst (λ k. client ≡ get_or items (k - 1) client) c.from-place.ensures c.index_mut.ensures.value in
    on_ok_weaker c.deliver.result
    (λ taken.
    ap (λ k. record (kept c.args.self.now) { clients = set items (k - 1) c.deliver.new.self }) c.from-place.ensures
    ∙ ap (λ cs. record (kept c.args.self.now) { clients = cs })
    (delivered_set items c.args.number c.args.bytes.now client c.deliver.new.self (omega arith) (omega arith) (taken ∙ ap (λ x. delivered x c.args.bytes.now) is)))
    c.deliver.ensures.taken
