-- What an acknowledgement leaves as it is, on numbers below 2^32.
use Rattle.std.proofs.Common.{◌≡◌, ℕ, ◌<◌, ◌+◌, ◌%◌, ◌^◌, refl, arith}
use Rattle.std.specs.Prelude.{Bool, true, false, if◌then◌else◌}
use Rattle.seq_arith.specs.Number.{distance, precedes, precedes_or_is}
use Rattle.seq_arith.specs.declared.Seq.{Seq}
use Rattle.tcp_buffers.specs.declared.send_state.AckKind.{AckKind}
use Rattle.tcp_buffers.specs.declared.send_state.AckKind.TheVariants.{New, Old, Beyond}
use Rattle.tcp_buffers.specs.declared.send_state.SendState.{SendState}
use Rattle.tcp_buffers.specs.SendNumbers.{una_by, kind_of, opens_window, edge_after}

-- what was never sent isn't outstanding
pub beyond_is_not_sent : (nxt ack : ℕ) → nxt < 2 ^ 32 → ack < 2 ^ 32 → precedes nxt ack ≡ true → precedes_or_is ack nxt ≡ false
beyond_is_not_sent nxt ack n a beyond = grind arith

pub beyond_means : (beyond new : Bool) (units : ℕ) → (if beyond then Beyond else (if new then New units else Old)) ≡ Beyond → beyond ≡ true
beyond_means true new units e = refl
beyond_means false true units e = cc
beyond_means false false units e = cc

-- so its window isn't used
pub beyond_is_unused : (una nxt wl1 wl2 seq ack : ℕ) → nxt < 2 ^ 32 → ack < 2 ^ 32 → kind_of una nxt ack ≡ Beyond → opens_window una nxt wl1 wl2 seq ack ≡ false
beyond_is_unused una nxt wl1 wl2 seq ack n a is_beyond =
    grind (arith, beyond_is_not_sent nxt ack n a (beyond_means _ _ _ is_beyond))

-- the edge is as far from SND.UNA as its distance says
pub edge_from_una : (una edge : ℕ) → una < 2 ^ 32 → edge < 2 ^ 32 → (una + distance edge una) % 2 ^ 32 ≡ edge
edge_from_una una edge u e = omega arith

pub window_to_edge : (una wnd : ℕ) → una < 2 ^ 32 → wnd < 2 ^ 32 → distance ((una + wnd) % 2 ^ 32) una ≡ wnd
window_to_edge una wnd u w = omega arith

pub edge_fits : (s : SendState) (seq ack wnd : ℕ) → edge_after s seq ack wnd < 2 ^ 32
edge_fits s seq ack wnd = grind arith

pub una_fits : (kind : AckKind) (una ack : ℕ) → una < 2 ^ 32 → ack < 2 ^ 32 → una_by kind una ack < 2 ^ 32
una_fits (New units) una ack u a = a
una_fits Old una ack u a = u
una_fits Beyond una ack u a = u

-- a state whose parts are those of another
pub same_state : (s : SendState) (una wl1 wl2 : Seq) (wnd interval left cwnd dups lost : ℕ) → una.0 ≡ s.una.0 → wl1.0 ≡ s.wl1.0 → wl2.0 ≡ s.wl2.0
    → wnd ≡ s.wnd → interval ≡ s.interval → left ≡ s.left → cwnd ≡ s.cwnd → dups ≡ s.dups → lost ≡ s.lost
    → record s { una = una; wnd = wnd; wl1 = wl1; wl2 = wl2; interval = interval; left = left; cwnd = cwnd; dups = dups; lost = lost } ≡ s
same_state s una wl1 wl2 wnd interval left cwnd dups lost u l1 l2 w v t g d h =
    λ i. record s { una = record { 0 = u i }; wnd = w i; wl1 = record { 0 = l1 i }; wl2 = record { 0 = l2 i }; interval = v i; left = t i; cwnd = g i; dups = d i; lost = h i }
