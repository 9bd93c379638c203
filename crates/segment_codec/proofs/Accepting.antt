-- What the tests that an accepted packet passed say of it.
use Rattle.std.proofs.Common.{◌≡◌, ℕ, ◌≤◌, false, List, length}
use Rattle.std.specs.Prelude.{Ok, IsOk, nat_lt}
use Rattle.std.proofs.lemmas.Bool.{ltb-false, or_parts}
use Rattle.seq_arith.specs.PacketGrammar.{payload_at, options_in, has_bad_option, ip_tests, tcp_tests, segment_in, reading}
use Rattle.seq_arith.proofs.Passing.{passes, passed}

pub header_is_long : (bytes : List ℕ) → IsOk (reading bytes) → 40 ≤ length bytes
unfolding ip_tests
header_is_long bytes ok = let fail = passed bytes ok in ltb-false (length bytes) 40 fail.0

pub start_is_there : (bytes : List ℕ) → IsOk (reading bytes) → (40 ≤ payload_at bytes) × (payload_at bytes ≤ length bytes)
unfolding ip_tests tcp_tests
start_is_there bytes ok =
    let fail = passed bytes ok
    in let both = or_parts (nat_lt (payload_at bytes) 40) (nat_lt (length bytes) (payload_at bytes)) fail.1.1.1.1.1.1.1.0
    in (ltb-false (payload_at bytes) 40 both.0, ltb-false (length bytes) (payload_at bytes) both.1)

pub packet_is_short : (bytes : List ℕ) → IsOk (reading bytes) → length bytes ≤ 1500
unfolding ip_tests tcp_tests
packet_is_short bytes ok = let fail = passed bytes ok in ltb-false 1500 (length bytes) fail.1.1.1.1.1.1.1.1.1.1.0

pub options_are_good : (bytes : List ℕ) → IsOk (reading bytes) → has_bad_option 0 (options_in bytes) ≡ false
unfolding ip_tests tcp_tests
options_are_good bytes ok = let fail = passed bytes ok in fail.1.1.1.1.1.1.1.1.0

pub is_read : (bytes : List ℕ) → IsOk (reading bytes) → reading bytes ≡ Ok (segment_in bytes)
is_read bytes ok = passes bytes (passed bytes ok)
