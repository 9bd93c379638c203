-- The trace with the far packet: by the law no move sends it.
use Rattle.std.specs.Prelude.{None}
use Rattle.std.proofs.Common.{◌^◌, pos, negsuc, ◌-ℤ◌, ◌≤ℤ◌, refl, [], ◌∷◌, ◌++◌, arith}
use Rattle.std.proofs.lemmas.Int.{ints}
use native.Mathlib.Bridge.{IsLe}
use Rattle.seq_arith.specs.Number.{offset_of}
use Rattle.ft_model.specs.Client.Move.{Acknowledge}
use Rattle.ft_model.specs.Lawful.{AreNear}
use Rattle.ft_model.specs.World.{Happens}
use Rattle.ft_model.specs.WeakerLaw.{IsWrongOnce}
use Rattle.ft_model.specs.WorkedRuns.Common.{echo}
use Rattle.ft_model.specs.WorkedRuns.FirstPath as path
use Rattle.ft_model.proofs.Turns.{laws, segment_in}
use Rattle.ft_model.proofs.FirstPath.{opening_is_joint}
use Rattle.ft_model.proofs.Running.{HasSmallOutputs}
use Rattle.trace_laws.specs.FarPacket as row
use Rattle.trace_laws.proofs.Near.{packets_near}

pub small : HasSmallOutputs echo
small = (omega arith, λ state chunk h. omega (arith, h))

pub not_near : AreNear (path.node_live path.open_point).server row.far (path.node_live path.open_point).stage → ⊥
unfolding offset_of
not_near n =
    let low : (pos 0 -ℤ pos (2 ^ 30)) ≤ℤ negsuc 2147483647 = (n.0 refl refl).first.0 in
    omega (arith, ints, low)

lawful : Happens echo path.moment_10.world row.wrong.event (path.packet_7 ∷ []) (record path.moment_10.world { packets = path.moment_10.world.packets ++ path.packet_7 ∷ [] })
unfolding laws IsLe
lawful = record { client = path.open_client; segment = segment_in path.packet_7; later = path.open_client; is_there = refl; move = record { move = Acknowledge; window = 65535; may = refl; fits = refl; timestamps = None; carries = refl; segment_is = refl; after_is = refl }; sent_is = refl; after_is = refl }

pub wrong_once : IsWrongOnce echo path.start [] row.wrong path.opening_trace
wrong_once = record {
  before = opening_is_joint echo;
  refused = λ h. not_near (packets_near echo small path.start (row.wrong ∷ path.opening_trace) (path.node_live path.open_point) row.far (opening_is_joint echo, h) refl (8, refl) refl);
  otherwise = (path.packet_7 ∷ [], record path.moment_10.world { packets = path.moment_10.world.packets ++ path.packet_7 ∷ [] }, lawful);
  after = tt;
}
