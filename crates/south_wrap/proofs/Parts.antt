-- The part of a packet's bytes that goes to the logger.
use Rattle.std.proofs.Common.{◌≡◌, ℕ, ◌+◌, ◌-◌, ◌≤◌, ◌&&◌, ◌||◌, ℤ, pos, ◌+ℤ◌, Bool, true, false, min, max, nat_le, refl, sym, ap, ◌∙◌, subst, List, [], length, take, drop, arith, length-drop, length-take, if◌then◌else◌}
use Rattle.std.proofs.lemmas.List.{drop-drop, take_min, drop_all}
use Rattle.tcp_rules.specs.Arrival.{below, int_eq}
use Rattle.seq_arith.specs.Offset.{first_of, text_of, fin_of}
use Rattle.seq_arith.specs.Packet.{Segment, has_syn, has_rst}
use Rattle.ft_model.specs.Copy.{from_start}
use Rattle.south_wrap.specs.SouthState.{SouthState}
use Rattle.south_wrap.specs.Translation.{copied, IsPart}
use Rattle.ft_io.proofs.Choices.{holds_if}

-- how many bytes are left of a text, and which, where no more is left out than it has
drop_min : (k : ℕ) (text : List ℕ) → drop (min k (length text)) text ≡ drop k text
drop_min k text = by_order (nat_le k (length text)) refl
  where
    by_order : (b : Bool) → nat_le k (length text) ≡ b → drop (min k (length text)) text ≡ drop k text
    by_order true t = let e : min k (length text) ≡ k = grind (arith, t) in ap (λ n. drop n text) e
    by_order false t =
        let past : length text ≤ k = grind (arith, t) in
        let e : min k (length text) ≡ length text = omega (arith, past) in
        ap (λ n. drop n text) e ∙ drop_all (length text) text (omega arith) ∙ sym (drop_all k text past)

pub left_is : (most k : ℕ) (text : List ℕ) → take (min most (length text - min k (length text))) (drop (min k (length text)) text) ≡ take most (drop k text)
left_is most k text =
    let rest : drop (min k (length text)) text ≡ drop k text = drop_min k text in
    let size : length (drop k text) ≡ length text - k = length-drop k text in
    let e : min most (length text - min k (length text)) ≡ min most (length (drop k text)) = omega (arith, size) in
    (λ j. take (e j) (rest j)) ∙ take_min most (drop k text)

pub left_size : (most k : ℕ) (text : List ℕ) → length (take most (drop k text)) ≡ min most (length text - min k (length text))
left_size most k text = let size = length-drop k text in length-take most (drop k text) ∙ omega (arith, size)

-- what the code found of a segment: its text, where that begins, where the part begins, how much lies before it and how much is in it
pub record Found (s : SouthState) (segment : Segment) (text : List ℕ) (first : ℤ) (offset skipped count : ℕ) : Type 0 where
  pub text_is : text ≡ text_of segment
  pub first_is : first ≡ first_of s.cisn segment
  pub offset_is : offset ≡ max s.answered (from_start first)
  pub skipped_is : skipped ≡ min (below s.answered first) (length text)
  pub count_is : count ≡ min (s.taken - offset) (length text - skipped)

-- so much of the text is the part
pub found_text : (s : SouthState) (segment : Segment) (text : List ℕ) (first : ℤ) (offset skipped count : ℕ) → Found s segment text first offset skipped count → take count (drop skipped text) ≡ (copied s segment).text
found_text s segment text first offset skipped count f =
    let start : ℕ = max s.answered (from_start first) in
    (let skipped_is = f.skipped_is in let offset_is = f.offset_is in let count_is = f.count_is in
    (λ j. take (count_is j) (drop skipped text)) ∙ (λ j. take (min (s.taken - offset_is j) (length text - skipped_is j)) (drop (skipped_is j) text)))
    ∙ left_is (s.taken - start) (below s.answered first) text
    ∙ (let text_is = f.text_is in let first_is = f.first_is in λ j. take (s.taken - max s.answered (from_start (first_is j))) (drop (below s.answered (first_is j)) (text_is j)))

pub found_size : (s : SouthState) (segment : Segment) (text : List ℕ) (first : ℤ) (offset skipped count : ℕ) → Found s segment text first offset skipped count → count ≡ length (copied s segment).text
found_size s segment text first offset skipped count f =
    let start : ℕ = max s.answered (from_start first) in
    f.count_is ∙ (let skipped_is = f.skipped_is in let offset_is = f.offset_is in λ j. min (s.taken - offset_is j) (length text - skipped_is j))
    ∙ sym (left_size (s.taken - start) (below s.answered first) text)
    ∙ (let text_is = f.text_is in let first_is = f.first_is in λ j. length (take (s.taken - max s.answered (from_start (first_is j))) (drop (below s.answered (first_is j)) (text_is j))))

-- and its FIN
pub fin_is : (s : SouthState) (segment : Segment) (text : List ℕ) (first : ℤ) (fin : Bool) → text ≡ text_of segment → first ≡ first_of s.cisn segment
    → fin ≡ (fin_of segment && (s.fin && int_eq (first +ℤ pos (length text)) (pos s.taken) && nat_le s.answered s.taken)) → fin ≡ (copied s segment).fin
fin_is s segment text first fin t f e = e ∙ (λ j. fin_of segment && (s.fin && int_eq (f j +ℤ pos (length (t j))) (pos s.taken) && nat_le s.answered s.taken))

pub part_is : (s : SouthState) (segment : Segment) (bytes text : List ℕ) (first : ℤ) (offset skipped count : ℕ) (fin : Bool) → Found s segment text first offset skipped count
    → fin ≡ (copied s segment).fin → segment.payload ≡ drop (length bytes - length segment.payload) bytes → length segment.payload ≤ length bytes
    → IsPart bytes (record { offset = offset; from = length bytes - length segment.payload + skipped; to = length bytes - length segment.payload + skipped + count; fin = fin }) (copied s segment)
part_is s segment bytes text first offset skipped count fin f same place within =
    let few : length text ≤ length segment.payload = subst (λ t. length t ≤ length segment.payload) (sym f.text_is) (text_within segment) in
    let skip = f.skipped_is in let size = f.count_is in
    let count_back : length bytes - length segment.payload + skipped + count - (length bytes - length segment.payload + skipped) ≡ count = omega arith in
    record {
      offset = f.offset_is ∙ (let first_is = f.first_is in λ j. max s.answered (from_start (first_is j)));
      order = omega arith;
      within = omega (arith, few, skip, size, within);
      text = ap (λ n. take n (drop (length bytes - length segment.payload + skipped) bytes)) count_back ∙ text_there ∙ found_text s segment text first offset skipped count f;
      fin = same;
    }
  where
    text_within : (segment : Segment) → length (text_of segment) ≤ length segment.payload
    text_within segment = holds_if (λ t. length t ≤ length segment.payload) (has_syn segment || has_rst segment) [] segment.payload (λ b. omega arith) (λ b. omega arith)

    text_there : take count (drop (length bytes - length segment.payload + skipped) bytes) ≡ take count (drop skipped text)
    text_there = by_flags (has_syn segment || has_rst segment) refl
      where
        by_flags : (b : Bool) → (has_syn segment || has_rst segment) ≡ b → take count (drop (length bytes - length segment.payload + skipped) bytes) ≡ take count (drop skipped text)
        by_flags true e =
            let none : text ≡ [] = f.text_is ∙ (λ j. if e j then [] else segment.payload) in
            let empty : length text ≡ 0 = ap length none in
            let zero_count : count ≡ 0 = (let size = f.count_is in omega (arith, size, empty)) in
            ap (λ n. take n (drop (length bytes - length segment.payload + skipped) bytes)) zero_count ∙ sym (ap (λ n. take n (drop skipped text)) zero_count)
        by_flags false e =
            ap (take count) (sym (drop-drop skipped (length bytes - length segment.payload) bytes) ∙ ap (drop skipped) (sym place ∙ sym (f.text_is ∙ (λ j. if e j then [] else segment.payload))))
