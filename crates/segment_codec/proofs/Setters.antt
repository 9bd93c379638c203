-- What the setters make of a packet: with the forty bytes of its head written out, a patched word is a change of a cell and of the checksum.
use Rattle.std.proofs.Common.{◌≡◌, ℕ, ◌<◌, ◌+◌, ◌*◌, ◌/◌, ◌%◌, ◌^◌, false, List, ◌++◌, length, ap, refl, sym, subst, arith, ◌∙◌}
use Rattle.std.specs.Prelude.{Ok, IsOk, slice_index}
use Rattle.seq_arith.specs.Bytes.{two, four, word_at, long_at}
use Rattle.seq_arith.specs.Checksum.{word_sum, check_of, checksum, patched}
use Rattle.seq_arith.specs.Packet.{Segment, with_seq, with_ack, with_window}
use Rattle.seq_arith.specs.PacketGrammar.{ip_tests, tcp_tests, tcp_text, head_in, segment_in, reading}
use Rattle.seq_arith.proofs.Passing.{AllFail, passes, passed, same_from}
use Rattle.seq_arith.proofs.Spelling.{word_back}
use Rattle.seq_arith.proofs.Sums.{check_bound}
use Rattle.segment_codec.specs.Change.{put, sealed, patched_at, changed}
use Rattle.segment_codec.proofs.Cells.{front_is, cells, edited, others, others_some, sum_of, edited_reads}
use Rattle.segment_codec.proofs.Patching.{patched_small, still_sums, still_sums_twice, as_anew, as_anew_twice}

-- a head before a rest, with the head's cells written out, and one of them
abbrev packet : List ℕ → List ℕ → List ℕ
packet head rest = cells head ++ rest

abbrev at : ℕ → List ℕ → ℕ
at n head = slice_index (cells head) n

abbrev Accepted : List ℕ → Type 0
Accepted bytes = AllFail (ip_tests bytes ++ tcp_tests bytes)

-- each is a byte
abbrev pub AreOctets : List ℕ → Type 0
AreOctets bytes = (k : ℕ) → slice_index bytes k < 256

tcp_sum : (bytes : List ℕ) → Accepted bytes → checksum (tcp_text bytes) ≡ 0
unfolding ip_tests tcp_tests
tcp_sum bytes fail = same_from _ _ fail.1.1.1.1.1.1.1.1.1.0

-- a word of a head, by its two bytes
abbrev word : ℕ → List ℕ → ℕ
word n head = 256 * at n head + at (n + 1) head

word_fits : (n : ℕ) (head : List ℕ) → AreOctets (cells head) → word n head < 2 ^ 16
word_fits n head octets = omega (arith, octets n, octets (n + 1))

-- the two halves of a number, in bytes
in_halves : (n : ℕ) → n < 2 ^ 32 → 16777216 * (n / 65536 / 256 % 256) + 65536 * (n / 65536 % 256) + 256 * (n % 65536 / 256 % 256) + n % 65536 % 256 ≡ n
in_halves n h = omega arith

first_byte : (n : ℕ) → n / 65536 / 256 % 256 ≡ n / 16777216 % 256
first_byte n = omega arith

third_byte : (n : ℕ) → n % 65536 / 256 % 256 ≡ n / 256 % 256
third_byte n = omega arith

last_byte : (n : ℕ) → n % 65536 % 256 ≡ n % 256
last_byte n = omega arith

-- what an accepted packet sums to, word by word
was_summed : (head rest : List ℕ) → Accepted (packet head rest)
    → check_of (others (packet head rest) + word 24 head + word 26 head + word 28 head + word 30 head + word 34 head + word 36 head) ≡ 0
was_summed head rest fail =
    ap check_of (sym (sum_of (packet head rest) (at 24 head) (at 25 head) (at 26 head) (at 27 head) (at 28 head) (at 29 head) (at 30 head) (at 31 head) (at 34 head) (at 35 head) (at 36 head) (at 37 head)))
    ∙ tcp_sum (packet head rest) fail

-- the checksum that is summed anew, word by word
was_anew : (head rest : List ℕ) → sealed (packet head rest) ≡ packet head rest
    → word 36 head ≡ check_of (others (packet head rest) + word 24 head + word 26 head + word 28 head + word 30 head + word 34 head)
unfolding sealed put two word_at
was_anew head rest is =
    let bytes : List ℕ = packet head rest
    in let anew : ℕ = checksum (tcp_text (put 36 (two 0) bytes))
    in let there : 256 * (anew / 256 % 256) + anew % 256 ≡ word 36 head = ap (λ b. word_at b 36) is
    in let sums : word_sum false (tcp_text (put 36 (two 0) bytes)) ≡ others bytes + word 24 head + word 26 head + word 28 head + word 30 head + word 34 head =
    omega (arith, sum_of bytes (at 24 head) (at 25 head) (at 26 head) (at 27 head) (at 28 head) (at 29 head) (at 30 head) (at 31 head) (at 34 head) (at 35 head) 0 0)
    in sym there ∙ word_back anew (check_bound (word_sum false (tcp_text (put 36 (two 0) bytes)))) ∙ ap check_of sums

-- the checksum after two words were replaced, as its two bytes stand between
second_check : (check high low new_high new_low : ℕ)
    → patched (256 * (patched check high new_high / 256 % 256) + patched check high new_high % 256) low new_low ≡ patched (patched check high new_high) low new_low
second_check check high low new_high new_low = ap (λ k. patched k low new_low) (word_back (patched check high new_high) (patched_small check high new_high))

seq_reads : (head rest : List ℕ) (seq : ℕ) → seq < 2 ^ 32 → AreOctets (cells head) → Accepted (packet head rest)
    → reading (patched_at 26 (seq % 65536) (patched_at 24 (seq / 65536) (cells head)) ++ rest) ≡ Ok (with_seq seq (segment_in (packet head rest)))
unfolding patched_at put two word_at segment_in head_in long_at
seq_reads head rest seq small octets fail =
    let bytes : List ℕ = packet head rest
    in let high : ℕ = seq / 65536
    in let low : ℕ = seq % 65536
    in let first : ℕ = patched (word 36 head) (word 24 head) high
    in let second : ℕ = patched (256 * (first / 256 % 256) + first % 256) (word 26 head) low
    in let same : ℕ = others bytes + word 28 head + word 30 head + word 34 head
    in let some : 0 < same = omega (arith, others_some bytes)
    in let moved : same + word 24 head + word 26 head + word 36 head ≡ others bytes + word 24 head + word 26 head + word 28 head + word 30 head + word 34 head + word 36 head = omega arith
    in let now : check_of (same + high + low + second) ≡ 0 =
    ap (λ k. check_of (same + high + low + k)) (second_check (word 36 head) (word 24 head) (word 26 head) high low)
    ∙ still_sums_twice same (word 24 head) (word 26 head) high low (word 36 head) some (word_fits 24 head octets) (word_fits 26 head octets) (word_fits 36 head octets) (ap check_of moved ∙ was_summed head rest fail)
    in let sums : word_sum false (tcp_text (edited bytes (high / 256 % 256) (high % 256) (low / 256 % 256) (low % 256) (at 28 head) (at 29 head) (at 30 head) (at 31 head) (at 34 head) (at 35 head) (second / 256 % 256) (second % 256))) ≡ same + high + low + second =
    omega (arith, sum_of bytes (high / 256 % 256) (high % 256) (low / 256 % 256) (low % 256) (at 28 head) (at 29 head) (at 30 head) (at 31 head) (at 34 head) (at 35 head) (second / 256 % 256) (second % 256), word_back high (omega arith), word_back low (omega arith), word_back second (patched_small (256 * (first / 256 % 256) + first % 256) (word 26 head) low))
    in edited_reads bytes (high / 256 % 256) (high % 256) (low / 256 % 256) (low % 256) (at 28 head) (at 29 head) (at 30 head) (at 31 head) (at 34 head) (at 35 head) (second / 256 % 256) (second % 256) fail (ap check_of sums ∙ now)
    ∙ ap (λ n. Ok (with_seq n (segment_in bytes))) (in_halves seq small)

ack_reads : (head rest : List ℕ) (ack : ℕ) → ack < 2 ^ 32 → AreOctets (cells head) → Accepted (packet head rest)
    → reading (patched_at 30 (ack % 65536) (patched_at 28 (ack / 65536) (cells head)) ++ rest) ≡ Ok (with_ack ack (segment_in (packet head rest)))
unfolding patched_at put two word_at segment_in head_in long_at
ack_reads head rest ack small octets fail =
    let bytes : List ℕ = packet head rest
    in let high : ℕ = ack / 65536
    in let low : ℕ = ack % 65536
    in let first : ℕ = patched (word 36 head) (word 28 head) high
    in let second : ℕ = patched (256 * (first / 256 % 256) + first % 256) (word 30 head) low
    in let same : ℕ = others bytes + word 24 head + word 26 head + word 34 head
    in let some : 0 < same = omega (arith, others_some bytes)
    in let moved : same + word 28 head + word 30 head + word 36 head ≡ others bytes + word 24 head + word 26 head + word 28 head + word 30 head + word 34 head + word 36 head = omega arith
    in let now : check_of (same + high + low + second) ≡ 0 =
    ap (λ k. check_of (same + high + low + k)) (second_check (word 36 head) (word 28 head) (word 30 head) high low)
    ∙ still_sums_twice same (word 28 head) (word 30 head) high low (word 36 head) some (word_fits 28 head octets) (word_fits 30 head octets) (word_fits 36 head octets) (ap check_of moved ∙ was_summed head rest fail)
    in let sums : word_sum false (tcp_text (edited bytes (at 24 head) (at 25 head) (at 26 head) (at 27 head) (high / 256 % 256) (high % 256) (low / 256 % 256) (low % 256) (at 34 head) (at 35 head) (second / 256 % 256) (second % 256))) ≡ same + high + low + second =
    omega (arith, sum_of bytes (at 24 head) (at 25 head) (at 26 head) (at 27 head) (high / 256 % 256) (high % 256) (low / 256 % 256) (low % 256) (at 34 head) (at 35 head) (second / 256 % 256) (second % 256), word_back high (omega arith), word_back low (omega arith), word_back second (patched_small (256 * (first / 256 % 256) + first % 256) (word 30 head) low))
    in edited_reads bytes (at 24 head) (at 25 head) (at 26 head) (at 27 head) (high / 256 % 256) (high % 256) (low / 256 % 256) (low % 256) (at 34 head) (at 35 head) (second / 256 % 256) (second % 256) fail (ap check_of sums ∙ now)
    ∙ ap (λ n. Ok (with_ack n (segment_in bytes))) (in_halves ack small)

window_reads : (head rest : List ℕ) (window : ℕ) → window < 2 ^ 16 → AreOctets (cells head) → Accepted (packet head rest)
    → reading (patched_at 34 window (cells head) ++ rest) ≡ Ok (with_window window (segment_in (packet head rest)))
unfolding patched_at put two word_at segment_in head_in long_at
window_reads head rest window small octets fail =
    let bytes : List ℕ = packet head rest
    in let check : ℕ = patched (word 36 head) (word 34 head) window
    in let same : ℕ = others bytes + word 24 head + word 26 head + word 28 head + word 30 head
    in let some : 0 < same = omega (arith, others_some bytes)
    in let now : check_of (same + window + check) ≡ 0 =
    still_sums same (word 34 head) window (word 36 head) some (word_fits 34 head octets) (word_fits 36 head octets) (was_summed head rest fail)
    in let sums : word_sum false (tcp_text (edited bytes (at 24 head) (at 25 head) (at 26 head) (at 27 head) (at 28 head) (at 29 head) (at 30 head) (at 31 head) (window / 256 % 256) (window % 256) (check / 256 % 256) (check % 256))) ≡ same + window + check =
    omega (arith, sum_of bytes (at 24 head) (at 25 head) (at 26 head) (at 27 head) (at 28 head) (at 29 head) (at 30 head) (at 31 head) (window / 256 % 256) (window % 256) (check / 256 % 256) (check % 256), word_back window small, word_back check (patched_small (word 36 head) (word 34 head) window))
    in edited_reads bytes (at 24 head) (at 25 head) (at 26 head) (at 27 head) (at 28 head) (at 29 head) (at 30 head) (at 31 head) (window / 256 % 256) (window % 256) (check / 256 % 256) (check % 256) fail (ap check_of sums ∙ now)
    ∙ ap (λ n. Ok (with_window n (segment_in bytes))) (word_back window small)

-- equal cells make equal packets
same_seq : (bytes : List ℕ) (a b c d w x : ℕ) {s t u v k s' t' u' v' k' : ℕ} → s ≡ s' → t ≡ t' → u ≡ u' → v ≡ v' → k ≡ k'
    → edited bytes s t u v a b c d w x (k / 256 % 256) (k % 256) ≡ edited bytes s' t' u' v' a b c d w x (k' / 256 % 256) (k' % 256)
same_seq bytes a b c d w x p q r o e = cc

same_ack : (bytes : List ℕ) (s t u v w x : ℕ) {a b c d k a' b' c' d' k' : ℕ} → a ≡ a' → b ≡ b' → c ≡ c' → d ≡ d' → k ≡ k'
    → edited bytes s t u v a b c d w x (k / 256 % 256) (k % 256) ≡ edited bytes s t u v a' b' c' d' w x (k' / 256 % 256) (k' % 256)
same_ack bytes s t u v w x p q r o e = cc

seq_anew : (head rest : List ℕ) (seq : ℕ) → seq < 2 ^ 32 → AreOctets (cells head) → sealed (packet head rest) ≡ packet head rest
    → patched_at 26 (seq % 65536) (patched_at 24 (seq / 65536) (cells head)) ++ rest ≡ sealed (put 24 (four seq) (packet head rest))
unfolding patched_at sealed put two four word_at
seq_anew head rest seq small octets is =
    let bytes : List ℕ = packet head rest
    in let high : ℕ = seq / 65536
    in let low : ℕ = seq % 65536
    in let first : ℕ = patched (word 36 head) (word 24 head) high
    in let second : ℕ = patched (256 * (first / 256 % 256) + first % 256) (word 26 head) low
    in let same : ℕ = others bytes + word 28 head + word 30 head + word 34 head
    in let some : 0 < same = omega (arith, others_some bytes)
    in let moved : others bytes + word 24 head + word 26 head + word 28 head + word 30 head + word 34 head ≡ same + word 24 head + word 26 head = omega arith
    in let text : List ℕ = tcp_text (put 36 (two 0) (put 24 (four seq) bytes))
    in let sums : same + high + low ≡ word_sum false text =
    omega (arith, sum_of bytes (seq / 16777216 % 256) (seq / 65536 % 256) (seq / 256 % 256) (seq % 256) (at 28 head) (at 29 head) (at 30 head) (at 31 head) (at 34 head) (at 35 head) 0 0)
    in let check : second ≡ checksum text =
    second_check (word 36 head) (word 24 head) (word 26 head) high low
    ∙ as_anew_twice same (word 24 head) (word 26 head) high low (word 36 head) some (word_fits 24 head octets) (word_fits 26 head octets) (was_anew head rest is ∙ ap check_of moved) ∙ ap check_of sums
    in same_seq bytes (at 28 head) (at 29 head) (at 30 head) (at 31 head) (at 34 head) (at 35 head) (first_byte seq) refl (third_byte seq) (last_byte seq) check

ack_anew : (head rest : List ℕ) (ack : ℕ) → ack < 2 ^ 32 → AreOctets (cells head) → sealed (packet head rest) ≡ packet head rest
    → patched_at 30 (ack % 65536) (patched_at 28 (ack / 65536) (cells head)) ++ rest ≡ sealed (put 28 (four ack) (packet head rest))
unfolding patched_at sealed put two four word_at
ack_anew head rest ack small octets is =
    let bytes : List ℕ = packet head rest
    in let high : ℕ = ack / 65536
    in let low : ℕ = ack % 65536
    in let first : ℕ = patched (word 36 head) (word 28 head) high
    in let second : ℕ = patched (256 * (first / 256 % 256) + first % 256) (word 30 head) low
    in let same : ℕ = others bytes + word 24 head + word 26 head + word 34 head
    in let some : 0 < same = omega (arith, others_some bytes)
    in let moved : others bytes + word 24 head + word 26 head + word 28 head + word 30 head + word 34 head ≡ same + word 28 head + word 30 head = omega arith
    in let text : List ℕ = tcp_text (put 36 (two 0) (put 28 (four ack) bytes))
    in let sums : same + high + low ≡ word_sum false text =
    omega (arith, sum_of bytes (at 24 head) (at 25 head) (at 26 head) (at 27 head) (ack / 16777216 % 256) (ack / 65536 % 256) (ack / 256 % 256) (ack % 256) (at 34 head) (at 35 head) 0 0)
    in let check : second ≡ checksum text =
    second_check (word 36 head) (word 28 head) (word 30 head) high low
    ∙ as_anew_twice same (word 28 head) (word 30 head) high low (word 36 head) some (word_fits 28 head octets) (word_fits 30 head octets) (was_anew head rest is ∙ ap check_of moved) ∙ ap check_of sums
    in same_ack bytes (at 24 head) (at 25 head) (at 26 head) (at 27 head) (at 34 head) (at 35 head) (first_byte ack) refl (third_byte ack) (last_byte ack) check

window_anew : (head rest : List ℕ) (window : ℕ) → window < 2 ^ 16 → AreOctets (cells head) → sealed (packet head rest) ≡ packet head rest
    → patched_at 34 window (cells head) ++ rest ≡ sealed (put 34 (two window) (packet head rest))
unfolding patched_at sealed put two word_at
window_anew head rest window small octets is =
    let bytes : List ℕ = packet head rest
    in let same : ℕ = others bytes + word 24 head + word 26 head + word 28 head + word 30 head
    in let some : 0 < same = omega (arith, others_some bytes)
    in let text : List ℕ = tcp_text (put 36 (two 0) (put 34 (two window) bytes))
    in let sums : same + window ≡ word_sum false text =
    omega (arith, sum_of bytes (at 24 head) (at 25 head) (at 26 head) (at 27 head) (at 28 head) (at 29 head) (at 30 head) (at 31 head) (window / 256 % 256) (window % 256) 0 0, word_back window small)
    in let check : patched (word 36 head) (word 34 head) window ≡ checksum text =
    as_anew same (word 34 head) window (word 36 head) some (word_fits 34 head octets) (was_anew head rest is) ∙ ap check_of sums
    in same_seq bytes (at 28 head) (at 29 head) (at 30 head) (at 31 head) (window / 256 % 256) (window % 256) refl refl refl refl check

-- from the cells to the head: what the cells' law of a change gives
abbrev Reads : (edit : List ℕ → List ℕ) → (change : Segment → Segment) → (head rest : List ℕ) → Type 0
Reads edit change head rest = reading (edit head ++ rest) ≡ changed change (reading (head ++ rest))

reads_of : (edit : List ℕ → List ℕ) (change : Segment → Segment) (head rest : List ℕ) → length head ≡ 40 → AreOctets head
    → (AreOctets (cells head) → Accepted (packet head rest) → reading (edit (cells head) ++ rest) ≡ Ok (change (segment_in (packet head rest))))
    → IsOk (reading (head ++ rest)) → Reads edit change head rest
reads_of edit change head rest size octets law ok =
    let same : cells head ≡ head = front_is 40 head (omega arith)
    in let Holds : List ℕ → Type 0 = λ b. (AreOctets b → Accepted (b ++ rest) → reading (edit b ++ rest) ≡ Ok (change (segment_in (b ++ rest))))
    in subst Holds same law octets (passed (head ++ rest) ok) ∙ sym (ap (changed change) (passes (head ++ rest) (passed (head ++ rest) ok)))

anew_of : (edit whole : List ℕ → List ℕ) (head rest : List ℕ) → length head ≡ 40 → AreOctets head
    → (AreOctets (cells head) → sealed (packet head rest) ≡ packet head rest → edit (cells head) ++ rest ≡ whole (packet head rest))
    → sealed (head ++ rest) ≡ head ++ rest → edit head ++ rest ≡ whole (head ++ rest)
anew_of edit whole head rest size octets law is =
    let same : cells head ≡ head = front_is 40 head (omega arith)
    in let Holds : List ℕ → Type 0 = λ b. (AreOctets b → sealed (b ++ rest) ≡ b ++ rest → edit b ++ rest ≡ whole (b ++ rest))
    in subst Holds same law octets is

abbrev pub seq_patched : ℕ → List ℕ → List ℕ
seq_patched seq head = patched_at 26 (seq % 65536) (patched_at 24 (seq / 65536) head)

abbrev pub ack_patched : ℕ → List ℕ → List ℕ
ack_patched ack head = patched_at 30 (ack % 65536) (patched_at 28 (ack / 65536) head)

pub seq_read : (head rest : List ℕ) (seq : ℕ) → seq < 2 ^ 32 → length head ≡ 40 → AreOctets head → IsOk (reading (head ++ rest)) → Reads (seq_patched seq) (with_seq seq) head rest
seq_read head rest seq small size octets = reads_of (seq_patched seq) (with_seq seq) head rest size octets (seq_reads head rest seq small)

pub ack_read : (head rest : List ℕ) (ack : ℕ) → ack < 2 ^ 32 → length head ≡ 40 → AreOctets head → IsOk (reading (head ++ rest)) → Reads (ack_patched ack) (with_ack ack) head rest
ack_read head rest ack small size octets = reads_of (ack_patched ack) (with_ack ack) head rest size octets (ack_reads head rest ack small)

pub window_read : (head rest : List ℕ) (window : ℕ) → window < 2 ^ 16 → length head ≡ 40 → AreOctets head → IsOk (reading (head ++ rest)) → Reads (patched_at 34 window) (with_window window) head rest
window_read head rest window small size octets = reads_of (patched_at 34 window) (with_window window) head rest size octets (window_reads head rest window small)

pub seq_summed : (head rest : List ℕ) (seq : ℕ) → seq < 2 ^ 32 → length head ≡ 40 → AreOctets head → sealed (head ++ rest) ≡ head ++ rest
    → seq_patched seq head ++ rest ≡ sealed (put 24 (four seq) (head ++ rest))
seq_summed head rest seq small size octets = anew_of (seq_patched seq) (λ b. sealed (put 24 (four seq) b)) head rest size octets (seq_anew head rest seq small)

pub ack_summed : (head rest : List ℕ) (ack : ℕ) → ack < 2 ^ 32 → length head ≡ 40 → AreOctets head → sealed (head ++ rest) ≡ head ++ rest
    → ack_patched ack head ++ rest ≡ sealed (put 28 (four ack) (head ++ rest))
ack_summed head rest ack small size octets = anew_of (ack_patched ack) (λ b. sealed (put 28 (four ack) b)) head rest size octets (ack_anew head rest ack small)

pub window_summed : (head rest : List ℕ) (window : ℕ) → window < 2 ^ 16 → length head ≡ 40 → AreOctets head → sealed (head ++ rest) ≡ head ++ rest
    → patched_at 34 window head ++ rest ≡ sealed (put 34 (two window) (head ++ rest))
window_summed head rest window small size octets = anew_of (patched_at 34 window) (λ b. sealed (put 34 (two window) b)) head rest size octets (window_anew head rest window small)
