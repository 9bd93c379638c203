-- What is read may be sent: its numbers are those that were read, and each of them is in its range.
use Rattle.std.proofs.Common.{◌≡◌, ℕ, zero, suc, ◌≤◌, ◌+◌, ◌%◌, ◌^◌, Bool, true, not, List, [], ◌∷◌, length, length-drop, drop, ap, refl, sym, subst, arith, ◌∙◌}
use Rattle.std.specs.Prelude.{Result, Ok, Err, IfOk, if◌then◌else◌, ◌&&◌, ◌||◌, nat_eq, nat_le, slice_index}
use Rattle.std.specs.List.{list_all}
use Rattle.std.proofs.lemmas.Bool.{leb-true, le-leb, and_from, and_parts}
use Rattle.seq_arith.specs.declared.kinds.BadMsg.{BadMsg}
use Rattle.seq_arith.specs.declared.kinds.Grammar.{Grammar}
use Rattle.seq_arith.specs.declared.kinds.Grammar.TheVariants as grammars
use Rattle.seq_arith.specs.declared.kinds.Kind.{Kind}
use Rattle.seq_arith.specs.declared.kinds.Kind.TheVariants as kinds
use Rattle.seq_arith.specs.declared.kinds.Field.{Field}
use Rattle.seq_arith.specs.Bytes.{two}
use Rattle.seq_arith.specs.Message.{Body}
use Rattle.seq_arith.specs.MessageGrammar.{number_in, fields_of, most_behind, width, behind_at, has_length, is_lens, most_ending, all_in_range_by, numbers_in, lens_in, lens_bytes, kind_of, numbers_of, behind_of, lens_of, flag, body_in, message_in, is_sound_by, is_sound_in, reading_of, AllFit, IsSpellableBy}
use Rattle.seq_arith.proofs.MessageSpelling.{bounded}
use Rattle.logger_wire.specs.declared.Msg.{Msg}
use Rattle.logger_wire.specs.Value.{IsSendableBy, left_over, message_of, seen}
use Rattle.logger_wire.proofs.NumbersRead.{AreBytes, bytes_left, number_small}
use Rattle.logger_wire.proofs.Placed.{tests_passed}

abbrev are_flags : List ℕ → Bool
are_flags flags = list_all (λ n. nat_le n 1) flags

flag_again : (n : ℕ) → nat_le n 1 ≡ true → flag (nat_eq n 1) ≡ n
flag_again zero h = refl
flag_again (suc zero) h = refl
flag_again (suc (suc n)) h = absurd (omega (arith, leb-true (suc (suc n)) 1 h))

-- so is the ending of a Data
ending_again : (n : ℕ) → nat_le n 2 ≡ true → flag (nat_eq n 1) + (if nat_eq n 2 then 2 else 0) ≡ n
ending_again zero h = refl
ending_again (suc zero) h = refl
ending_again (suc (suc zero)) h = refl
ending_again (suc (suc (suc n))) h = absurd (omega (arith, leb-true (suc (suc (suc n))) 2 h))

-- it is in no grammar above 2
ending_low : (grammar : Grammar) (n : ℕ) → nat_le n (most_ending grammar) ≡ true → nat_le n 2 ≡ true
ending_low grammars.Plain n h = le-leb n 2 (omega (arith, leb-true n 1 h))
ending_low grammars.Wide n h = h

-- the flags among a kind's numbers, and how many of the bytes after them are left over where a length has two
abbrev flags_in : Kind → List ℕ → List ℕ
flags_in kinds.Entry numbers = slice_index numbers 7 ∷ slice_index numbers 8 ∷ []
flags_in kinds.Stable numbers = slice_index numbers 3 ∷ []
flags_in kinds.Reads numbers = slice_index numbers 3 ∷ []
flags_in _ numbers = []

abbrev left_over_in : Kind → List ℕ → ℕ
left_over_in kinds.Lens behind = length behind % 2
left_over_in _ behind = 0

-- where a kind's numbers say how a Data ends, they say it in range
abbrev ending_good : Kind → List ℕ → Bool
ending_good kinds.Data numbers = nat_le (slice_index numbers 4) 2
ending_good _ numbers = true

-- the numbers of a kind's fields
abbrev read : Kind → List ℕ → List ℕ
read kind bytes = numbers_in (fields_of kind) bytes

same_kind : (kind : Kind) (numbers behind : List ℕ) → kind_of (body_in kind numbers behind) ≡ kind
same_kind kinds.Hello numbers behind = refl
same_kind kinds.Summary numbers behind = refl
same_kind kinds.List numbers behind = refl
same_kind kinds.Entry numbers behind = refl
same_kind kinds.Bytes numbers behind = refl
same_kind kinds.Part numbers behind = refl
same_kind kinds.Cuts numbers behind = refl
same_kind kinds.Lens numbers behind = refl
same_kind kinds.Open numbers behind = refl
same_kind kinds.Opened numbers behind = refl
same_kind kinds.Data numbers behind = refl
same_kind kinds.Stable numbers behind = refl
same_kind kinds.Read numbers behind = refl
same_kind kinds.Reads numbers behind = refl
same_kind kinds.Done numbers behind = refl
same_kind kinds.Ended numbers behind = refl
same_kind kinds.Stale numbers behind = refl
same_kind kinds.Full numbers behind = refl

-- the flags among the tests of an entry's numbers
entry_flags : (place least most len fin done rest : Bool) → (place && ((least && most) && (len && (fin && (done && rest))))) ≡ true → (fin && (done && true)) ≡ true
entry_flags place least most len fin done rest good =
    let from_mss = (and_parts place ((least && most) && (len && (fin && (done && rest)))) good).1
    in let from_length = (and_parts (least && most) (len && (fin && (done && rest))) from_mss).1
    in let from_fin = and_parts fin (done && rest) (and_parts len (fin && (done && rest)) from_length).1
    in and_from fin (done && true) from_fin.0 (and_from done true (and_parts done rest from_fin.1).0 refl)

-- flags in their range are flags
flags_good : (grammar : Grammar) (kind : Kind) (boot behind : ℕ) (bytes : List ℕ) → all_in_range_by grammar boot behind (fields_of kind) (read kind bytes) ≡ true
    → are_flags (flags_in kind (read kind bytes)) ≡ true
flags_good grammar kinds.Hello boot behind bytes good = refl
flags_good grammar kinds.Summary boot behind bytes good = refl
flags_good grammar kinds.List boot behind bytes good = refl
flags_good grammar kinds.Entry boot behind bytes good =
    let at : ℕ → ℕ = λ i. slice_index (read kinds.Entry bytes) i
    in entry_flags (nat_le (at 0) 63) (nat_le 64 (at 5)) (nat_le (at 5) 1460) (nat_le (at 6) (2 ^ 24)) (nat_le (at 7) 1) (nat_le (at 8) 1)
    (nat_le (at 9) (2 ^ 24 + 1) && (nat_le (at 10) (2 ^ 24 + 1) && true)) good
flags_good grammar kinds.Bytes boot behind bytes good = refl
flags_good grammar kinds.Part boot behind bytes good = refl
flags_good grammar kinds.Cuts boot behind bytes good = refl
flags_good grammar kinds.Lens boot behind bytes good = refl
flags_good grammar kinds.Open boot behind bytes good = refl
flags_good grammar kinds.Opened boot behind bytes good = refl
flags_good grammar kinds.Data boot behind bytes good = refl
flags_good grammar kinds.Stable boot behind bytes good =
    let from_flag = (and_parts _ _ good).1 in and_from _ _ (and_parts _ _ from_flag).0 refl
flags_good grammar kinds.Read boot behind bytes good = refl
flags_good grammar kinds.Reads boot behind bytes good =
    let from_flag = (and_parts _ _ good).1 in and_from _ _ (and_parts _ _ from_flag).0 refl
flags_good grammar kinds.Done boot behind bytes good = refl
flags_good grammar kinds.Ended boot behind bytes good = refl
flags_good grammar kinds.Stale boot behind bytes good = refl
flags_good grammar kinds.Full boot behind bytes good = refl

-- and an ending is
ending_in : (grammar : Grammar) (kind : Kind) (boot behind : ℕ) (bytes : List ℕ) → all_in_range_by grammar boot behind (fields_of kind) (read kind bytes) ≡ true
    → ending_good kind (read kind bytes) ≡ true
ending_in grammar kinds.Hello boot behind bytes good = refl
ending_in grammar kinds.Summary boot behind bytes good = refl
ending_in grammar kinds.List boot behind bytes good = refl
ending_in grammar kinds.Entry boot behind bytes good = refl
ending_in grammar kinds.Bytes boot behind bytes good = refl
ending_in grammar kinds.Part boot behind bytes good = refl
ending_in grammar kinds.Cuts boot behind bytes good = refl
ending_in grammar kinds.Lens boot behind bytes good = refl
ending_in grammar kinds.Open boot behind bytes good = refl
ending_in grammar kinds.Opened boot behind bytes good = refl
ending_in grammar kinds.Data boot behind bytes good =
    ending_low grammar (slice_index (read kinds.Data bytes) 4) (and_parts _ _ (and_parts _ _ (and_parts _ _ good).1).1).0
ending_in grammar kinds.Stable boot behind bytes good = refl
ending_in grammar kinds.Read boot behind bytes good = refl
ending_in grammar kinds.Reads boot behind bytes good = refl
ending_in grammar kinds.Done boot behind bytes good = refl
ending_in grammar kinds.Ended boot behind bytes good = refl
ending_in grammar kinds.Stale boot behind bytes good = refl
ending_in grammar kinds.Full boot behind bytes good = refl

-- a body that was read says the numbers that were read
numbers_again : (kind : Kind) (bytes behind : List ℕ) → are_flags (flags_in kind (read kind bytes)) ≡ true → ending_good kind (read kind bytes) ≡ true
    → numbers_of (body_in kind (read kind bytes) behind) ≡ read kind bytes
numbers_again kinds.Hello bytes behind flags ends = refl
numbers_again kinds.Summary bytes behind flags ends = refl
numbers_again kinds.List bytes behind flags ends = refl
numbers_again kinds.Entry bytes behind flags ends =
    let at : ℕ → ℕ = λ i. slice_index (read kinds.Entry bytes) i
    in let both = and_parts (nat_le (at 7) 1) (nat_le (at 8) 1 && true) flags
    in let fin : flag (nat_eq (at 7) 1) ≡ at 7 = flag_again (at 7) both.0
    in let done : flag (nat_eq (at 8) 1) ≡ at 8 = flag_again (at 8) (and_parts (nat_le (at 8) 1) true both.1).0
    in cc (fin, done)
numbers_again kinds.Bytes bytes behind flags ends = refl
numbers_again kinds.Part bytes behind flags ends = refl
numbers_again kinds.Cuts bytes behind flags ends = refl
numbers_again kinds.Lens bytes behind flags ends = refl
numbers_again kinds.Open bytes behind flags ends = refl
numbers_again kinds.Opened bytes behind flags ends = refl
numbers_again kinds.Data bytes behind flags ends =
    let n : ℕ = slice_index (read kinds.Data bytes) 4 in let same : flag (nat_eq n 1) + (if nat_eq n 2 then 2 else 0) ≡ n = ending_again n ends in cc same
numbers_again kinds.Stable bytes behind flags ends =
    let n : ℕ = slice_index (read kinds.Stable bytes) 3 in let fin : flag (nat_eq n 1) ≡ n = flag_again n (and_parts (nat_le n 1) true flags).0 in cc fin
numbers_again kinds.Read bytes behind flags ends = refl
numbers_again kinds.Reads bytes behind flags ends =
    let n : ℕ = slice_index (read kinds.Reads bytes) 3 in let fin : flag (nat_eq n 1) ≡ n = flag_again n (and_parts (nat_le n 1) true flags).0 in cc fin
numbers_again kinds.Done bytes behind flags ends = refl
numbers_again kinds.Ended bytes behind flags ends = refl
numbers_again kinds.Stale bytes behind flags ends = refl
numbers_again kinds.Full bytes behind flags ends = refl

-- numbers that were read fit their fields
pub read_fit : (fields : List Field) (bytes : List ℕ) → AreBytes bytes → AllFit fields (numbers_in fields bytes)
read_fit [] bytes are = tt
read_fit (field ∷ rest) bytes are = (number_small (width field) bytes are, read_fit rest (drop (width field) bytes) (bytes_left (width field) bytes are))

pub lens_length : (bytes : List ℕ) → length bytes % 2 ≡ 0 → length (lens_bytes (lens_in bytes)) ≡ length bytes
unfolding two
lens_length [] even = refl
lens_length (high ∷ []) even = absurd (omega arith)
lens_length (high ∷ low ∷ bytes) even = omega (arith, lens_length bytes (omega arith))

-- as many bytes come after the fields as were read there
same_behind : (kind : Kind) (numbers behind : List ℕ) → length behind ≤ most_behind kind → left_over_in kind behind ≡ 0
    → length (behind_of (body_in kind numbers behind)) ≡ length behind
same_behind kinds.Hello numbers behind few even = omega arith
same_behind kinds.Summary numbers behind few even = omega arith
same_behind kinds.List numbers behind few even = omega arith
same_behind kinds.Entry numbers behind few even = omega arith
same_behind kinds.Bytes numbers behind few even = omega arith
same_behind kinds.Part numbers behind few even = refl
same_behind kinds.Cuts numbers behind few even = omega arith
same_behind kinds.Lens numbers behind few even = lens_length behind even
same_behind kinds.Open numbers behind few even = omega arith
same_behind kinds.Opened numbers behind few even = omega arith
same_behind kinds.Data numbers behind few even = refl
same_behind kinds.Stable numbers behind few even = omega arith
same_behind kinds.Read numbers behind few even = omega arith
same_behind kinds.Reads numbers behind few even = omega arith
same_behind kinds.Done numbers behind few even = omega arith
same_behind kinds.Ended numbers behind few even = omega arith
same_behind kinds.Stale numbers behind few even = omega arith
same_behind kinds.Full numbers behind few even = omega arith

-- where the whole has one of its kind's lengths, no byte of its lengths is left over
none_left : (kind : Kind) (behind : List ℕ) → (not (is_lens kind) || nat_eq ((behind_at kind + length behind) % 2) 0) ≡ true → left_over_in kind behind ≡ 0
none_left kinds.Hello behind even = refl
none_left kinds.Summary behind even = refl
none_left kinds.List behind even = refl
none_left kinds.Entry behind even = refl
none_left kinds.Bytes behind even = refl
none_left kinds.Part behind even = refl
none_left kinds.Cuts behind even = refl
none_left kinds.Lens behind even = grind arith
none_left kinds.Open behind even = refl
none_left kinds.Opened behind even = refl
none_left kinds.Data behind even = refl
none_left kinds.Stable behind even = refl
none_left kinds.Read behind even = refl
none_left kinds.Reads behind even = refl
none_left kinds.Done behind even = refl
none_left kinds.Ended behind even = refl
none_left kinds.Stale behind even = refl
none_left kinds.Full behind even = refl

no_rest : (kind : Kind) (n : ℕ) (behind : List ℕ) → n ≡ behind_at kind + length behind → has_length kind n ≡ true → left_over_in kind behind ≡ 0
unfolding has_length
no_rest kind n behind is size =
    let even : (not (is_lens kind) || nat_eq (n % 2) 0) ≡ true = (and_parts _ _ size).1
    in none_left kind behind (ap (λ k. not (is_lens kind) || nat_eq (k % 2) 0) (sym is) ∙ even)

-- a message that was read has a spelling
read_spellable : (grammar : Grammar) (kind : Kind) (bytes : List ℕ) → AreBytes bytes → has_length kind (length bytes) ≡ true → is_sound_in grammar kind bytes ≡ true
    → IsSpellableBy grammar (message_in kind bytes)
unfolding message_in is_sound_by is_sound_in
read_spellable grammar kind bytes are size sound =
    let fields : List ℕ = drop 16 bytes
    in let behind : List ℕ = drop (behind_at kind) bytes
    in let body : Body = body_in kind (read kind fields) behind
    in let boot : ℕ = number_in 8 (drop 8 bytes)
    in let within = bounded kind (length bytes) size
    in let count : length bytes ≡ behind_at kind + length behind = omega (arith, length-drop (behind_at kind) bytes)
    in let few : length behind ≤ most_behind kind = omega arith
    in let good : all_in_range_by grammar boot (length behind) (fields_of kind) (read kind fields) ≡ true = (and_parts _ _ (and_parts _ _ sound).0).1
    in let again : numbers_of body ≡ read kind fields = numbers_again kind fields behind (flags_good grammar kind boot (length behind) fields good) (ending_in grammar kind boot (length behind) fields good)
    in let as_many : length (behind_of body) ≡ length behind = same_behind kind (read kind fields) behind few (no_rest kind (length bytes) behind count size)
    in let Fit : Kind → List ℕ → Type 0 = λ k numbers. AllFit (fields_of k) numbers
    in let Sound : Kind → ℕ → List ℕ → Type 0 = λ k n numbers. is_sound_by grammar k boot n numbers (lens_of body) ≡ true
    in let Sized : Kind → ℕ → Type 0 = λ k n. has_length k (behind_at k + n) ≡ true
    in let kind_is : kind ≡ kind_of body = sym (same_kind kind (read kind fields) behind)
    in let fit : Fit kind (numbers_of body) = subst (Fit kind) (sym again) (read_fit (fields_of kind) fields (bytes_left 16 bytes are))
    in let all : Sound kind (length (behind_of body)) (numbers_of body) =
    subst (λ n. Sound kind n (numbers_of body)) (sym as_many) (subst (Sound kind (length behind)) (sym again) sound)
    in let sized : Sized kind (length (behind_of body)) = subst (Sized kind) (sym as_many) (ap (has_length kind) (sym count) ∙ size)
    in record {
      boot = number_small 8 (drop 8 bytes) (bytes_left 8 bytes are);
      numbers = subst (λ k. Fit k (numbers_of body)) kind_is fit;
      sound = subst (λ k. Sound k (length (behind_of body)) (numbers_of body)) kind_is all;
      size = subst (λ k. Sized k (length (behind_of body))) kind_is sized;
    }

-- what is read may be sent, if its lengths have two bytes each
pub all_sendable : (grammar : Grammar) (kind : Kind) (bytes : List ℕ) (result : Result Msg BadMsg) → AreBytes bytes → seen result ≡ reading_of grammar kind bytes
    → IfOk result (λ msg. left_over msg.body ≡ 0) → IfOk result (λ msg. IsSendableBy grammar msg)
all_sendable grammar kind bytes (Err bad) are datagram_of whole = tt
all_sendable grammar kind bytes (Ok msg) are datagram_of whole =
    let tests = tests_passed grammar kind bytes (message_of msg) datagram_of
    in record { lens = whole; spellable = subst (IsSpellableBy grammar) (sym tests.2) (read_spellable grammar kind bytes are tests.0 tests.1) }
