use Rattle.std.proofs.Common.{◌≡◌, false, List, take}
use Rattle.std.specs.Prelude.{map}
use Rattle.std.specs.List.{list_any}
use Rattle.seq_arith.specs.Packet.{Segment, has_rst}
use Rattle.south_wrap.specs.Translation.{outward}
use Rattle.tcp_endpoint.specs.Output.{packets}
use Rattle.tcp_endpoint.specs.Packets.{AreReadable}
use Rattle.wrapped_conn.proofs.leaving.append_all.Given as goal

abbrev pub invariant-loop-i : goal.invariant-loop-i
invariant-loop-i l = (own : List Segment) → l.segments ≡ packets own → AreReadable own
    → (l.out ≡ packets (map (outward l.south) (take l.i own))) × (list_any has_rst (take l.i own) ≡ false)
