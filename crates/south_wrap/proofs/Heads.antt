-- A setter changes a packet's head, and so the packet.
use Rattle.std.proofs.Common.{◌≡◌, ℕ, List, ◌++◌, length, take, drop, arith, subst, refl, sym, ap, ◌∙◌, length-take}
use Rattle.std.proofs.lemmas.List.{take-append-drop}
use Rattle.std.specs.Prelude.{IsOk, IfOk, Result, Ok, Err}
use Rattle.seq_arith.specs.declared.BadPacket.{BadPacket}
use Rattle.seq_arith.specs.Packet.{Segment}
use Rattle.seq_arith.specs.PacketGrammar.{reading, spelling}
use Rattle.segment_codec.specs.Change.{changed}
use Rattle.segment_codec.proofs.Accepting.{header_is_long}

pub head_length : (packet : List ℕ) → IsOk (reading packet) → length (take 40 packet) ≡ 40
head_length packet ok = let size = length-take 40 packet in let long = header_is_long packet ok in omega (arith, size, long)

pub read_behind : (packet head : List ℕ) (change : Segment → Segment) → IsOk (reading packet)
    → ((rest : List ℕ) → IsOk (reading (take 40 packet ++ rest)) → reading (head ++ rest) ≡ changed change (reading (take 40 packet ++ rest)))
    → reading (head ++ drop 40 packet) ≡ changed change (reading packet)
read_behind packet head change ok law =
    let whole : take 40 packet ++ drop 40 packet ≡ packet = take-append-drop 40 packet in
    law (drop 40 packet) (subst (λ b. IsOk (reading b)) (sym whole) ok) ∙ ap (λ b. changed change (reading b)) whole

pub still_a_packet : (packet head : List ℕ) (change : Segment → Segment) → IsOk (reading packet) → reading (head ++ drop 40 packet) ≡ changed change (reading packet) → IsOk (reading (head ++ drop 40 packet))
still_a_packet packet head change ok is = subst IsOk (sym is) (by_reading (reading packet) ok)
  where
    by_reading : (r : Result Segment BadPacket) → IsOk r → IsOk (changed change r)
    by_reading (Ok segment) ok = refl
    by_reading (Err bad) ok = absurd (cc)

pub spelled_behind : (packet head : List ℕ) (change : Segment → Segment)
    → ((segment : Segment) (rest : List ℕ) → take 40 packet ++ rest ≡ spelling segment → head ++ rest ≡ spelling (change segment))
    → (segment : Segment) → packet ≡ spelling segment → head ++ drop 40 packet ≡ spelling (change segment)
spelled_behind packet head change law segment is = law segment (drop 40 packet) (take-append-drop 40 packet ∙ is)

-- two changes of a packet, one after the other
pub changed_twice : (f g h : Segment → Segment) (read : Result Segment BadPacket) (segment : Segment) → read ≡ Ok segment → g (f segment) ≡ h segment → changed g (changed f read) ≡ changed h read
changed_twice f g h read segment is same = ap (λ r. changed g (changed f r)) is ∙ ap Ok same ∙ sym (ap (changed h) is)

-- what holds of the segment that bytes say
pub if_read : (P : Segment → Type 0) (read : Result Segment BadPacket) (segment : Segment) → read ≡ Ok segment → P segment → IfOk read P
if_read P read segment is holds = subst (λ r. IfOk r P) (sym is) holds

pub changed_once : (change : Segment → Segment) (read : Result Segment BadPacket) (segment : Segment) → read ≡ Ok segment → change segment ≡ segment → changed change read ≡ read
changed_once change read segment is same = ap (changed change) is ∙ ap Ok same ∙ sym is

-- bytes say one segment
pub one_reading : (read : Result Segment BadPacket) (a b : Segment) → read ≡ Ok a → read ≡ Ok b → a ≡ b
one_reading read a b is also = ap (said_or a) (sym is ∙ also)
  where
    said_or : Segment → Result Segment BadPacket → Segment
    said_or d (Ok segment) = segment
    said_or d (Err bad) = d
