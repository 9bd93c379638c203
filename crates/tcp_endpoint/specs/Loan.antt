-- What becomes of an outbox when one of its packets is lent.
use Rattle.std.specs.Prelude.{ℕ, List}
use Rattle.std.specs.Borrow.{Lends, MutBor, Fml, Array, u8}
use Rattle.tcp_endpoint.specs.contracts.outbox.Outbox.{the_row}
use Rattle.tcp_endpoint.specs.Packets.{with_bytes_at}

-- when the loan ends, the outbox has what was written over packet i
abbrev pub LendsPacket : MutBor (List (List ℕ)) → ℕ → MutBor (List ℕ) → Fml
LendsPacket out i packet = Lends the_row (Array u8 0) out packet (with_bytes_at out.now i)
