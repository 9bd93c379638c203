-- What is held at a point at which an endpoint stands: it comes after the bytes taken, as it does in the endpoint.
use Rattle.std.proofs.Common.{ℕ, ◌+◌, Bool, length, sym, subst}
use Rattle.tcp_rules.specs.Coming.{Early, early_from, StandsBehind}
use Rattle.tcp_rules.proofs.Coming.{behind_from}
use Rattle.ft_model.specs.Point.{Point, receive_edge, HoldsBehind}
use Rattle.tcp_endpoint.specs.ReceiveHalf.{Receiving, taken}
use Rattle.tcp_endpoint.specs.ReceiveHalf as receiver
use Rattle.tcp_endpoint.specs.Tcb.{Tcb}
use Rattle.endpoint_laws.specs.Laws.{IsBounded}
use Rattle.endpoint_laws.specs.Refinement.{ReceivesAt}
use Rattle.endpoint_laws.proofs.StandingLaw.{edge_is}

pub behind_at : (p : Point) (e : Tcb) → ReceivesAt p e → IsBounded e → HoldsBehind p
behind_at p e r bounds =
    let held : Receiving = e.receiving in
    let moved : StandsBehind (taken held + p.fetched) (receiver.receive_edge held + p.fetched) held.fin (early_from p.fetched held.early) =
    behind_from (taken held) (receiver.receive_edge held) p.fetched held.fin held.early bounds.early in
    let at_bytes : StandsBehind (length p.taken) (receiver.receive_edge held + p.fetched) held.fin (early_from p.fetched held.early) =
    subst (λ (n : ℕ). StandsBehind n (receiver.receive_edge held + p.fetched) held.fin (early_from p.fetched held.early)) (sym r.long) moved in
    let at_edge : StandsBehind (length p.taken) (receive_edge p) held.fin (early_from p.fetched held.early) =
    subst (λ (n : ℕ). StandsBehind (length p.taken) n held.fin (early_from p.fetched held.early)) (sym (edge_is p e r)) at_bytes in
    let with_fin : StandsBehind (length p.taken) (receive_edge p) p.fin (early_from p.fetched held.early) =
    subst (λ (f : Bool). StandsBehind (length p.taken) (receive_edge p) f (early_from p.fetched held.early)) (sym r.fin) at_edge in
    subst (λ (x : Early). StandsBehind (length p.taken) (receive_edge p) p.fin x) (sym r.early) with_fin
