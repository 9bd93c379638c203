-- What TCP sends is accepted.
use Rattle.std.proofs.Common.{refl, sym, subst, List, [], ◌∷◌}
use Rattle.std.specs.Prelude.{IsOk}
use Rattle.std.specs.List.{AllByRecursion}
use Rattle.seq_arith.specs.Packet.{Segment}
use Rattle.seq_arith.specs.PacketGrammar.{reading}
use Rattle.tcp_endpoint.specs.Output.{packets}
use Rattle.tcp_endpoint.specs.Packets.{AreReadable}

pub accepted : (segments : List Segment) → AreReadable segments → AllByRecursion (λ packet. IsOk (reading packet)) (packets segments)
unfolding packets
accepted [] all = tt
accepted (segment ∷ segments) all = (subst IsOk (sym all.0) refl, accepted segments all.1)
