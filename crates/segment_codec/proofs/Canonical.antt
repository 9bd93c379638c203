-- A spelling with a field changed and its checksum summed anew is the spelling of the changed segment.
use Rattle.std.proofs.Common.{◌≡◌, ℕ, refl}
use Rattle.seq_arith.specs.Bytes.{two, four}
use Rattle.seq_arith.specs.Packet.{Segment, with_seq, with_ack, with_window}
use Rattle.seq_arith.specs.PacketGrammar.{tcp_text, spelled, spelling}
use Rattle.segment_codec.specs.Change.{put, sealed}

pub spelling_is_sealed : (segment : Segment) → sealed (spelling segment) ≡ spelling segment
unfolding sealed put two four spelling spelled tcp_text
spelling_is_sealed segment = refl

pub seq_spelled : (segment : Segment) (seq : ℕ) → sealed (put 24 (four seq) (spelling segment)) ≡ spelling (with_seq seq segment)
unfolding sealed put two four spelling spelled tcp_text
seq_spelled segment seq = refl

pub ack_spelled : (segment : Segment) (ack : ℕ) → sealed (put 28 (four ack) (spelling segment)) ≡ spelling (with_ack ack segment)
unfolding sealed put two four spelling spelled tcp_text
ack_spelled segment ack = refl

pub window_spelled : (segment : Segment) (window : ℕ) → sealed (put 34 (two window) (spelling segment)) ≡ spelling (with_window window segment)
unfolding sealed put two four spelling spelled tcp_text
window_spelled segment window = refl
