-- Damaged packets and messages are refused: were one accepted, its tests would contradict those of what it was made of.
use Rattle.std.proofs.Common.{◌≡◌, ℕ, ◌<◌, ◌≤◌, ◌+◌, ◌*◌, ⊎_elim, Bool, true, false, not, List, ◌++◌, length, take, get_or, ap, refl, arith, length-append}
use Rattle.std.specs.Prelude.{Option, None, Some, Result, Ok, Err, IsOk, IsErr, nat_eq, nat_lt, ◌||◌, slice_index, if◌then◌else◌}
use Rattle.std.specs.Result.{is_ok}
use Rattle.std.proofs.lemmas.Bool.{ltb-false, cases_lt}
use Rattle.std.proofs.lemmas.List.{get_or-take, get_or_append_left, length-take-le}
use Rattle.seq_arith.specs.declared.kinds.BadMsg.{BadMsg}
use Rattle.seq_arith.specs.declared.kinds.BadMsg.TheVariants as bad
use Rattle.seq_arith.specs.declared.kinds.Grammar.{Grammar}
use Rattle.seq_arith.specs.declared.kinds.Grammar.TheVariants as grammars
use Rattle.seq_arith.specs.declared.kinds.Kind.{Kind}
use Rattle.seq_arith.specs.Bytes.{word_at}
use Rattle.seq_arith.specs.Checksum.{checksum}
use Rattle.seq_arith.specs.Damage.{flipped}
use Rattle.seq_arith.specs.Packet.{Segment}
use Rattle.seq_arith.specs.Message.{Message}
use Rattle.seq_arith.specs.PacketGrammar.{ip_tests, tcp_tests, tcp_text, reading}
use Rattle.seq_arith.specs.MessageGrammar.{version, kind_numbered, has_length, is_sound_in, message_in, reading_of, reading_if, reading_by, reading as message_reading}
use Rattle.seq_arith.proofs.Passing.{AllFail, passed, same_from}
use Rattle.seq_arith.proofs.Damaged.{flip_is_seen, flip_in_front, flip_behind}
use Rattle.ft_io.proofs.Booleans.{left_false}

-- what isn't accepted is refused
pub refused : {V E : Type 0} (r : Result V E) → (IsOk r → ⊥) → IsErr r
refused (Ok v) never = absurd (never refl)
refused (Err e) never = refl

pub accepted : {V E : Type 0} {r : Result V E} {v : V} → r ≡ Ok v → IsOk r
accepted e = ap is_ok e

-- what acceptance says of a packet's length and of its checksums
record IsWhole (bytes : List ℕ) : Type 0 where
  long : 40 ≤ length bytes
  counted : word_at bytes 2 ≡ length bytes
  ip : checksum (take 20 bytes) ≡ 0
  tcp : checksum (tcp_text bytes) ≡ 0

whole : (bytes : List ℕ) → IsOk (reading bytes) → IsWhole bytes
unfolding ip_tests tcp_tests
whole bytes ok =
    let fail : AllFail (ip_tests bytes ++ tcp_tests bytes) = passed bytes ok
    in record {
      long = ltb-false (length bytes) 40 fail.0;
      counted = same_from _ _ fail.1.1.1.0;
      ip = same_from _ _ fail.1.1.1.1.1.1.0;
      tcp = same_from _ _ fail.1.1.1.1.1.1.1.1.1.0;
    }

-- a word stays where it was in a part, and where bytes come after it
word_in_part : (bytes : List ℕ) (at n : ℕ) → at + 1 < n → word_at (take n bytes) at ≡ word_at bytes at
unfolding word_at
word_in_part bytes at n h =
    let high : get_or (take n bytes) at 0 ≡ get_or bytes at 0 = get_or-take n bytes at 0 (omega arith)
    in let low : get_or (take n bytes) (at + 1) 0 ≡ get_or bytes (at + 1) 0 = get_or-take n bytes (at + 1) 0 h
    in omega (arith, high, low)

word_in_longer : (bytes behind : List ℕ) (at : ℕ) → at + 1 < length bytes → word_at (bytes ++ behind) at ≡ word_at bytes at
unfolding word_at
word_in_longer bytes behind at h =
    let high : get_or (bytes ++ behind) at 0 ≡ get_or bytes at 0 = get_or_append_left bytes behind 0 at (omega arith)
    in let low : get_or (bytes ++ behind) (at + 1) 0 ≡ get_or bytes (at + 1) 0 = get_or_append_left bytes behind 0 (at + 1) h
    in omega (arith, high, low)

pub flipped_packet_is_refused : (bit : ℕ) (bytes : List ℕ) (segment : Segment) → reading bytes ≡ Ok segment → bit < 8 * length bytes → IsErr (reading (flipped bit bytes))
flipped_packet_is_refused bit bytes segment is within =
    let was : IsWhole bytes = whole bytes (accepted is)
    in refused (reading (flipped bit bytes)) (λ ok.
    let now : IsWhole (flipped bit bytes) = whole (flipped bit bytes) ok
    in ⊎_elim (λ (front : bit < 160). flip_in_front bit bytes front (omega (arith, was.long)) was.ip now.ip)
    (λ (behind : 160 ≤ bit). flip_behind bit bytes behind within was.tcp now.tcp) (cases_lt bit 160))

pub shortened_packet_is_refused : (n : ℕ) (bytes : List ℕ) (segment : Segment) → reading bytes ≡ Ok segment → n < length bytes → IsErr (reading (take n bytes))
shortened_packet_is_refused n bytes segment is short =
    let was : IsWhole bytes = whole bytes (accepted is)
    in refused (reading (take n bytes)) (λ ok.
    let now : IsWhole (take n bytes) = whole (take n bytes) ok
    in let long : length (take n bytes) ≡ n = length-take-le n bytes (omega arith)
    in omega (arith, was.counted, now.counted, now.long, word_in_part bytes 2 n (omega (arith, now.long))))

pub lengthened_packet_is_refused : (bytes behind : List ℕ) (segment : Segment) → reading bytes ≡ Ok segment → 0 < length behind → IsErr (reading (bytes ++ behind))
lengthened_packet_is_refused bytes behind segment is more =
    let was : IsWhole bytes = whole bytes (accepted is)
    in refused (reading (bytes ++ behind)) (λ ok.
    let now : IsWhole (bytes ++ behind) = whole (bytes ++ behind) ok
    in omega (arith, was.counted, now.counted, length-append bytes behind, word_in_longer bytes behind 2 (omega (arith, was.long))))

-- what acceptance says of a message's length and of its checksum
pub record IsWholeMessage (bytes : List ℕ) : Type 0 where
  pub long : 16 ≤ length bytes
  pub counted : word_at bytes 4 ≡ length bytes
  pub sum : checksum bytes ≡ 0

-- no refusal came first
pub proceeds : {E V : Type 0} (b : Bool) (e : E) (later : Result V E) → IsOk (if b then Err e else later) → (b ≡ false) × IsOk later
proceeds true e later ok = absurd (cc)
proceeds false e later ok = (refl, ok)

whole_of : (grammar : Grammar) (kind : Kind) (bytes : List ℕ) → IsOk (reading_of grammar kind bytes) → (word_at bytes 4 ≡ length bytes) × (checksum bytes ≡ 0)
unfolding reading_of
whole_of grammar kind bytes ok =
    let length_test : Bool = not (nat_eq (word_at bytes 4) (length bytes)) || not (has_length kind (length bytes))
    in let sum_test : Bool = not (nat_eq (checksum bytes) 0)
    in let last : Result Message BadMsg = if not (is_sound_in grammar kind bytes) then Err bad.Field else Ok (message_in kind bytes)
    in let sized : (length_test ≡ false) × IsOk (if sum_test then Err bad.Sum else last) = proceeds length_test bad.Length (if sum_test then Err bad.Sum else last) ok
    in (
      same_from _ _ (left_false (not (nat_eq (word_at bytes 4) (length bytes))) (not (has_length kind (length bytes))) sized.0),
      same_from _ _ (proceeds sum_test bad.Sum last sized.1).0,
    )

whole_if : (grammar : Grammar) (kind : Option Kind) (bytes : List ℕ) → IsOk (reading_if grammar kind bytes) → (word_at bytes 4 ≡ length bytes) × (checksum bytes ≡ 0)
whole_if grammar None bytes ok = absurd (cc)
whole_if grammar (Some kind) bytes ok = whole_of grammar kind bytes ok

pub whole_message : (grammar : Grammar) (bytes : List ℕ) → IsOk (reading_by grammar bytes) → IsWholeMessage bytes
unfolding reading_by
whole_message grammar bytes ok =
    let short : Bool = nat_lt (length bytes) 16
    in let magic : Bool = not (nat_eq (word_at bytes 0) 18004)
    in let other : Bool = not (nat_eq (slice_index bytes 2) (version grammar))
    in let last : Result Message BadMsg = reading_if grammar (kind_numbered (slice_index bytes 3)) bytes
    in let third : Result Message BadMsg = if other then Err bad.Version else last
    in let second : Result Message BadMsg = if magic then Err bad.Magic else third
    in let long : (short ≡ false) × IsOk second = proceeds short bad.Short second ok
    in let rest : (word_at bytes 4 ≡ length bytes) × (checksum bytes ≡ 0) =
    whole_if grammar (kind_numbered (slice_index bytes 3)) bytes (proceeds other bad.Version last (proceeds magic bad.Magic third long.1).1).1
    in record { long = ltb-false (length bytes) 16 long.0; counted = rest.0; sum = rest.1 }

pub flipped_is_refused_by : (grammar : Grammar) (bit : ℕ) (bytes : List ℕ) (message : Message) → reading_by grammar bytes ≡ Ok message → bit < 8 * length bytes → IsErr (reading_by grammar (flipped bit bytes))
flipped_is_refused_by grammar bit bytes message is within =
    refused (reading_by grammar (flipped bit bytes)) (λ ok. flip_is_seen bit bytes within (whole_message grammar bytes (accepted is)).sum (whole_message grammar (flipped bit bytes) ok).sum)

pub shortened_is_refused_by : (grammar : Grammar) (n : ℕ) (bytes : List ℕ) (message : Message) → reading_by grammar bytes ≡ Ok message → n < length bytes → IsErr (reading_by grammar (take n bytes))
shortened_is_refused_by grammar n bytes message is short =
    let was : IsWholeMessage bytes = whole_message grammar bytes (accepted is)
    in refused (reading_by grammar (take n bytes)) (λ ok.
    let now : IsWholeMessage (take n bytes) = whole_message grammar (take n bytes) ok
    in let long : length (take n bytes) ≡ n = length-take-le n bytes (omega arith)
    in omega (arith, was.counted, now.counted, now.long, word_in_part bytes 4 n (omega (arith, now.long))))

pub lengthened_is_refused_by : (grammar : Grammar) (bytes behind : List ℕ) (message : Message) → reading_by grammar bytes ≡ Ok message → 0 < length behind → IsErr (reading_by grammar (bytes ++ behind))
lengthened_is_refused_by grammar bytes behind message is more =
    let was : IsWholeMessage bytes = whole_message grammar bytes (accepted is)
    in refused (reading_by grammar (bytes ++ behind)) (λ ok.
    let now : IsWholeMessage (bytes ++ behind) = whole_message grammar (bytes ++ behind) ok
    in omega (arith, was.counted, now.counted, length-append bytes behind, word_in_longer bytes behind 4 (omega (arith, was.long))))

-- .. by the plain grammar
pub flipped_message_is_refused : (bit : ℕ) (bytes : List ℕ) (message : Message) → message_reading bytes ≡ Ok message → bit < 8 * length bytes → IsErr (message_reading (flipped bit bytes))
flipped_message_is_refused = flipped_is_refused_by grammars.Plain

-- the other grammar has another version
other_version : (grammar other : Grammar) → (grammar ≡ other → ⊥) → (n : ℕ) → n ≡ version grammar → not (nat_eq n (version other)) ≡ true
other_version grammars.Plain grammars.Plain apart n is = absurd (apart refl)
other_version grammars.Plain grammars.Wide apart n is = rw (is) refl
other_version grammars.Wide grammars.Plain apart n is = rw (is) refl
other_version grammars.Wide grammars.Wide apart n is = absurd (apart refl)

-- what one grammar reads, the other refuses by its version
pub no_grammar_reads_the_other : (grammar other : Grammar) (bytes : List ℕ) (message : Message) → reading_by grammar bytes ≡ Ok message → (grammar ≡ other → ⊥)
    → reading_by other bytes ≡ Err bad.Version
unfolding reading_by
no_grammar_reads_the_other grammar other bytes message is apart =
    let ok : IsOk (reading_by grammar bytes) = accepted is
    in let short : Bool = nat_lt (length bytes) 16
    in let magic : Bool = not (nat_eq (word_at bytes 0) 18004)
    in let another : Bool = not (nat_eq (slice_index bytes 2) (version grammar))
    in let last : Result Message BadMsg = reading_if grammar (kind_numbered (slice_index bytes 3)) bytes
    in let third : Result Message BadMsg = if another then Err bad.Version else last
    in let long : (short ≡ false) × IsOk (if magic then Err bad.Magic else third) = proceeds short bad.Short (if magic then Err bad.Magic else third) ok
    in let ours : (magic ≡ false) × IsOk third = proceeds magic bad.Magic third long.1
    in let same : slice_index bytes 2 ≡ version grammar = same_from _ _ (proceeds another bad.Version last ours.1).0
    in rw (long.0, ours.0, other_version grammar other apart (slice_index bytes 2) same) refl
