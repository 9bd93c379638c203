-- How the code reads a message: each field at a constant position. The grammar walks over the fields instead. Both are proved to say the same.
use Rattle.std.specs.Prelude.{ℕ, Bool, not, List, [], ◌∷◌, length, drop, ◌+◌, ◌%◌, ◌==◌, ◌&&◌, ◌||◌, nat_le, Result, Ok, Err, if◌then◌else◌}
use Rattle.std.specs.List.{list_all}
use Rattle.seq_arith.specs.declared.kinds.BadMsg.{BadMsg}
use Rattle.seq_arith.specs.declared.kinds.BadMsg.TheVariants as bad
use Rattle.seq_arith.specs.declared.kinds.Grammar.{Grammar}
use Rattle.seq_arith.specs.declared.kinds.Kind.{Kind}
use Rattle.seq_arith.specs.declared.kinds.Kind.TheVariants as kinds
use Rattle.seq_arith.specs.declared.kinds.Field.{Field}
use Rattle.seq_arith.specs.declared.kinds.Field.TheVariants as fields
use Rattle.seq_arith.specs.Bytes.{word_at}
use Rattle.seq_arith.specs.Checksum.{checksum}
use Rattle.seq_arith.specs.Message as said
use Rattle.seq_arith.specs.Message.{Body, Message}
use Rattle.seq_arith.specs.MessageGrammar.{number_in, width, opening, kept, fields_of, fewest_behind, most_behind, behind_at, is_lens, all_in_range}
use Rattle.seq_arith.specs.MessageGrammar.{all_in_range_by, lens_of, opening_in, kept_in, entry_in, part_in, body_in}

-- the number in the `width` bytes at a position
unfoldable pub number_at : (width at : ℕ) → List ℕ → ℕ
number_at width at bytes = number_in width (drop at bytes)

-- the numbers of consecutive fields from a position on
abbrev pub numbers_at : List Field → (at : ℕ) → List ℕ → List ℕ
numbers_at [] at bytes = []
numbers_at (field ∷ rest) at bytes = number_at (width field) at bytes ∷ numbers_at rest (at + width field) bytes

-- the value that was read, if it is in its range
abbrev pub checked : {X : Type 0} → Bool → X → Result X BadMsg
checked is_good read = if is_good then Ok read else Err bad.Field

-- the boot number of a message, if its length is the one in its header and within these bounds, and its checksum is right
unfoldable pub opened : (least most : ℕ) → List ℕ → Result ℕ BadMsg
opened least most bytes =
    if not (word_at bytes 4 == length bytes) || not (nat_le least (length bytes) && nat_le (length bytes) most) then Err bad.Length
    else (if not (checksum bytes == 0) then Err bad.Sum else checked (nat_le 1 (number_at 8 8 bytes)) (number_at 8 8 bytes))

-- the body of a message of this kind
abbrev pub body_at : Grammar → Kind → (boot : ℕ) → List ℕ → Result Body BadMsg
body_at grammar kind boot bytes =
    let numbers = numbers_at (fields_of kind) 16 bytes
    in let behind = drop (behind_at kind) bytes
    in let body = body_in kind numbers behind
    in checked (list_all (λ len. nat_le len 2048) (lens_of body) && all_in_range_by grammar boot (length behind) (fields_of kind) numbers) body

abbrev pub with_body : ℕ → Result Body BadMsg → Result Message BadMsg
with_body boot (Ok body) = Ok (record { boot = boot; body = body })
with_body boot (Err bad) = Err bad

abbrev pub with_boot : Result ℕ BadMsg → (ℕ → Result Body BadMsg) → Result Message BadMsg
with_boot (Ok boot) body = with_body boot (body boot)
with_boot (Err bad) body = Err bad

-- a message of this kind
abbrev pub placed : Grammar → Kind → List ℕ → Result Message BadMsg
placed grammar kind bytes =
    if is_lens kind && not (length bytes % 2 == 0) then Err bad.Length
    else with_boot (opened (behind_at kind + fewest_behind kind) (behind_at kind + most_behind kind) bytes) (λ boot. body_at grammar kind boot bytes)

-- the records read from bytes
abbrev pub opening_at : List ℕ → Result said.Numbers BadMsg
opening_at bytes = let numbers = numbers_at opening 16 bytes in checked (all_in_range 0 0 opening numbers) (opening_in numbers)

abbrev pub kept_at : List ℕ → Result said.Kept BadMsg
kept_at bytes = let numbers = numbers_at kept 16 bytes in checked (all_in_range 0 0 kept numbers) (kept_in numbers)

-- the fields of an entry after its index
abbrev pub entry_fields : List Field
entry_fields = drop 1 (fields_of kinds.Entry)

abbrev pub head_at : List ℕ → Result said.EntryHead BadMsg
head_at bytes =
    let numbers = numbers_at entry_fields (16 + width fields.Place) bytes in checked (all_in_range 0 0 entry_fields numbers) (entry_in (0 ∷ numbers))

abbrev pub part_at : Grammar → List ℕ → Result said.Part BadMsg
part_at grammar bytes =
    let numbers = numbers_at (fields_of kinds.Data) 16 bytes
    in let behind = drop (behind_at kinds.Data) bytes
    in checked (all_in_range_by grammar 0 (length behind) (fields_of kinds.Data) numbers) (part_in numbers behind)

-- a result of reading, as a plain record
abbrev pub read_as : {A B : Type 0} → (A → B) → Result A BadMsg → Result B BadMsg
read_as said (Ok read) = Ok (said read)
read_as said (Err bad) = Err bad
