use Rattle.std.proofs.Common.{◌≡◌, ◌∙◌, sym, ap, length, arith}
use Rattle.tcp_endpoint.proofs.Pieces.{length_pieces}
use Rattle.schedule_network.proofs.Numbered.{none_at, none_past}
use Rattle.schedule_network.proofs.packets.Packets.bytes.Goals as goal

pub returns-then-n-eq0 : goal.returns-then-n-eq0
returns-then-n-eq0 c = none_at c.args.self.now.bytes c.args.n (omega arith)

pub returns-then-n-count : goal.returns-then-n-count
returns-then-n-count c =
    let as_many : length c.args.self.now.bytes ≡ length c.self.inside.ends.items =
    ap (λ v. length v.bytes) (sym c.self.view_is) ∙ length_pieces 0 c.self.inside.ends.items c.self.inside.bytes.items in
    none_past c.args.self.now.bytes c.args.n (omega (arith, c.self.inside.ends.ok.0))
