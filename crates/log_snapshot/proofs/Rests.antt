-- What is said of an entry at each step, before the rest.
use Rattle.std.proofs.Common.{◌≡◌, ◌∙◌, ℕ, zero, suc, ◌+◌, ◌<◌, ◌≤◌, Bool, true, false, refl, sym, ap, arith, Some, None, List, [], ◌∷◌, ◌++◌, length, take, drop, drop_of_length-le}
use Rattle.std.specs.Prelude.{slice_index, if◌then◌else◌}
use Rattle.std.specs.Option.{option_to_list}
use Rattle.std.proofs.lemmas.List.{take-append-drop, drop-drop}
use Rattle.seq_arith.specs.Message.{Message}
use Rattle.seq_arith.specs.Message.Body.{OpenMsg, DataMsg, DoneMsg}
use Rattle.ft_model.specs.Log.{Entry, numbers_of_entry}
use Rattle.long_laws.specs.Snapshot.{said, data_of, reads_of, done_of}
use Rattle.log_snapshot.specs.Steps.{part_at, read_at, done_at, after_bytes, IsRest}
use Rattle.log_snapshot.specs.declared.writing_steps.Step.TheVariants.{Open, Bytes, State, Reads, Done}

pub opening : (boot : ℕ) (e : Entry) (rest : List Message) → IsRest boot e (Some (Bytes 0)) rest → IsRest boot e (Some Open) (said boot (OpenMsg (numbers_of_entry e)) ∷ rest)
opening boot e rest (pieces, all, is) = (pieces, all, ap (λ (l : List Message). said boot (OpenMsg (numbers_of_entry e)) ∷ l) is)

pub no_bytes : (boot offset : ℕ) (e : Entry) (rest : List Message) → length e.bytes ≤ offset → IsRest boot e (Some State) rest → IsRest boot e (Some (Bytes offset)) rest
no_bytes boot offset e rest all is = ([], sym (drop_of_length-le e.bytes {i = offset} all), is)

pub bytes : (boot offset count : ℕ) (e : Entry) (rest : List Message) → count ≡ length (part_at e offset).bytes → IsRest boot e (Some (Bytes (offset + count))) rest
    → IsRest boot e (Some (Bytes offset)) (said boot (DataMsg (part_at e offset)) ∷ rest)
bytes boot offset count e rest counted (pieces, all, is) =
    let piece = (part_at e offset).bytes in
    let more : List ℕ = drop offset e.bytes in
    let behind : drop (offset + count) e.bytes ≡ drop 1024 more =
    ap (λ n. drop (offset + n) e.bytes) counted ∙ (dropped (length piece) offset e.bytes ∙ same_rest 1024 more) in (
      piece ∷ pieces,
      ap (λ (l : List ℕ). piece ++ l) (all ∙ behind) ∙ take-append-drop 1024 more,
      ap (λ (l : List Message). said boot (DataMsg (part_at e offset)) ∷ l) (is ∙ ap (λ n. data_of boot e.key (offset + n) pieces ++ after_bytes boot e) counted),
    )
  where
    dropped : (n from : ℕ) (xs : List ℕ) → drop (from + n) xs ≡ drop n (drop from xs)
    dropped n from xs = sym (drop-drop n from xs)

    same_rest : (n : ℕ) (xs : List ℕ) → drop (length (take n xs)) xs ≡ drop n xs
    same_rest zero xs = refl
    same_rest (suc n) [] = refl
    same_rest (suc n) (x ∷ xs) = same_rest n xs

pub state : (boot : ℕ) (e : Entry) (rest : List Message) → IsRest boot e (Some (Reads 0)) rest
    → IsRest boot e (Some State) (said boot (DataMsg (record { key = e.key; offset = length e.bytes; acked = e.acknowledged; fin = e.fin; more = false; bytes = [] })) ∷ rest)
state boot e rest is = ap (λ (l : List Message). said boot (DataMsg (record { key = e.key; offset = length e.bytes; acked = e.acknowledged; fin = e.fin; more = false; bytes = [] })) ∷ l) is

pub no_reads : (boot index : ℕ) (e : Entry) (rest : List Message) → length e.lengths ≤ index → IsRest boot e (Some Done) rest → IsRest boot e (Some (Reads index)) rest
no_reads boot index e rest all is = is ∙ ap (λ (l : List ℕ). reads_of boot e.key index l ++ done_of boot e) (sym (drop_of_length-le e.lengths {i = index} all))

pub reads : (boot index : ℕ) (e : Entry) (rest : List Message) → index < length e.lengths → IsRest boot e (Some (Reads (index + 1))) rest
    → IsRest boot e (Some (Reads index)) (said boot (read_at e index) ∷ rest)
reads boot index e rest there is =
    ap (λ (l : List Message). said boot (read_at e index) ∷ l) is
    ∙ ap (λ (l : List ℕ). reads_of boot e.key index l ++ done_of boot e) (sym (next index e.lengths there))
  where
    one_more : (i : ℕ) → suc (i + 1) ≡ suc i + 1
    one_more i = omega arith

    next : (i : ℕ) (xs : List ℕ) → i < length xs → drop i xs ≡ slice_index xs i ∷ drop (i + 1) xs
    next i [] there = absurd (omega (arith, there))
    next zero (x ∷ xs) there = refl
    next (suc i) (x ∷ xs) there = next i xs (omega (arith, there)) ∙ ap (λ n. slice_index xs i ∷ drop n (x ∷ xs)) (one_more i)

pub end : (boot : ℕ) (e : Entry) (rest : List Message) → IsRest boot e None rest → IsRest boot e (Some Done) (option_to_list (done_at boot e) ++ rest)
end boot e rest none = ap (λ (l : List Message). option_to_list (done_at boot e) ++ l) none ∙ of e.done
  where
    of : (d : Bool) → option_to_list (if d then Some (said boot (DoneMsg e.key)) else None) ++ [] ≡ (if d then said boot (DoneMsg e.key) ∷ [] else [])
    of true = refl
    of false = refl
