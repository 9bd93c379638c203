-- A message that is read field by field, each at its constant place, is read as the grammar says.
use Rattle.std.proofs.Common.{◌≡◌, ℕ, ◌+◌, ◌%◌, Bool, true, false, not, List, [], ◌∷◌, length, drop, ap, refl, ◌∙◌}
use Rattle.std.specs.Prelude.{Result, Ok, Err, ◌&&◌, ◌||◌, nat_eq, nat_le, if◌then◌else◌}
use Rattle.std.specs.List.{list_all}
use Rattle.std.proofs.lemmas.List.{drop-drop}
use Rattle.seq_arith.specs.declared.kinds.BadMsg.{BadMsg}
use Rattle.seq_arith.specs.declared.kinds.BadMsg.TheVariants as bad
use Rattle.seq_arith.specs.declared.kinds.Grammar.{Grammar}
use Rattle.seq_arith.specs.declared.kinds.Kind.{Kind}
use Rattle.seq_arith.specs.declared.kinds.Field.{Field}
use Rattle.seq_arith.specs.Bytes.{word_at}
use Rattle.seq_arith.specs.Checksum.{checksum}
use Rattle.seq_arith.specs.Message.{Body, Message}
use Rattle.seq_arith.specs.MessageGrammar.{number_in, width, fields_of, fewest_behind, most_behind, behind_at, is_lens, has_length, all_in_range_by, numbers_in, lens_of, body_in, message_in, is_sound_by, is_sound_in, reading_of}
use Rattle.logger_wire.specs.Places.{number_at, numbers_at, checked, opened, body_at, with_body, with_boot, placed}

pub numbers_placed : (fields : List Field) (at : ℕ) (bytes : List ℕ) → numbers_in fields (drop at bytes) ≡ numbers_at fields at bytes
unfolding number_at
numbers_placed [] at bytes = refl
numbers_placed (field ∷ rest) at bytes =
    let later : numbers_in rest (drop (width field) (drop at bytes)) ≡ numbers_at rest (at + width field) bytes =
    ap (numbers_in rest) (drop-drop (width field) at bytes) ∙ numbers_placed rest (at + width field) bytes
    in cc later

abbrev message_with : ℕ → Body → Message
message_with boot body = record { boot = boot; body = body }

-- the tests of the fields, in either order
same_fields : (ranges lens : Bool) (boot : ℕ) (body : Body)
    → with_body boot (checked (lens && ranges) body) ≡ (if not (ranges && lens) then Err bad.Field else Ok (message_with boot body))
same_fields true true boot body = refl
same_fields true false boot body = refl
same_fields false true boot body = refl
same_fields false false boot body = refl

-- the test for lengths of two bytes each in front of the others, and that of the boot number before the fields are read
same_tests : (datagram_of within lens even sum first ranges small : Bool) (boot : ℕ) (body : Body) (fields : ℕ → Result Body BadMsg)
    → fields boot ≡ checked (small && ranges) body
    → (if lens && not even then Err bad.Length
    else with_boot (if not datagram_of || not within then Err bad.Length else (if not sum then Err bad.Sum else checked first boot)) fields)
    ≡ (if not datagram_of || not (within && (not lens || even)) then Err bad.Length
    else (if not sum then Err bad.Sum else (if not ((first && ranges) && small) then Err bad.Field else Ok (message_with boot body))))
same_tests false within false even sum first ranges small boot body fields is = refl
same_tests false within true true sum first ranges small boot body fields is = refl
same_tests false within true false sum first ranges small boot body fields is = refl
same_tests true false false even sum first ranges small boot body fields is = refl
same_tests true false true true sum first ranges small boot body fields is = refl
same_tests true false true false sum first ranges small boot body fields is = refl
same_tests true true true false sum first ranges small boot body fields is = refl
same_tests true true false even false first ranges small boot body fields is = refl
same_tests true true false even true false ranges small boot body fields is = refl
same_tests true true false even true true ranges small boot body fields is = ap (with_body boot) is ∙ same_fields ranges small boot body
same_tests true true true true false first ranges small boot body fields is = refl
same_tests true true true true true false ranges small boot body fields is = refl
same_tests true true true true true true ranges small boot body fields is = ap (with_body boot) is ∙ same_fields ranges small boot body

pub placed_is : (grammar : Grammar) (kind : Kind) (bytes : List ℕ) → placed grammar kind bytes ≡ reading_of grammar kind bytes
unfolding number_at opened has_length message_in is_sound_by is_sound_in reading_of
placed_is grammar kind bytes =
    let n : ℕ = length bytes
    in let numbers : List ℕ = numbers_at (fields_of kind) 16 bytes
    in let behind : List ℕ = drop (behind_at kind) bytes
    in let boot : ℕ = number_in 8 (drop 8 bytes)
    in rw (numbers_placed (fields_of kind) 16 bytes) (same_tests (nat_eq (word_at bytes 4) n)
    (nat_le (behind_at kind + fewest_behind kind) n && nat_le n (behind_at kind + most_behind kind)) (is_lens kind) (nat_eq (n % 2) 0)
    (nat_eq (checksum bytes) 0) (nat_le 1 boot) (all_in_range_by grammar boot (length behind) (fields_of kind) numbers)
    (list_all (λ len. nat_le len 2048) (lens_of (body_in kind numbers behind))) boot (body_in kind numbers behind) (λ boot. body_at grammar kind boot bytes) refl)

-- a message that is read passed the tests
passed : (datagram_of within sum sound : Bool) (read message : Message)
    → Ok read ≡ (if not datagram_of || not within then Err bad.Length else (if not sum then Err bad.Sum else (if not sound then Err bad.Field else Ok message)))
    → (within ≡ true) × (sound ≡ true) × (read ≡ message)
passed false within sum sound read message is = absurd cc
passed true false sum sound read message is = absurd cc
passed true true false sound read message is = absurd cc
passed true true true false read message is = absurd cc
passed true true true true read message is = (refl, refl, cc)

pub tests_passed : (grammar : Grammar) (kind : Kind) (bytes : List ℕ) (read : Message) → Ok read ≡ reading_of grammar kind bytes
    → (has_length kind (length bytes) ≡ true) × (is_sound_in grammar kind bytes ≡ true) × (read ≡ message_in kind bytes)
unfolding reading_of
tests_passed grammar kind bytes read is =
    passed (nat_eq (word_at bytes 4) (length bytes)) (has_length kind (length bytes)) (nat_eq (checksum bytes) 0) (is_sound_in grammar kind bytes) read
    (message_in kind bytes) is
