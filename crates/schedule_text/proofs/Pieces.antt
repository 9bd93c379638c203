-- What a list is cut into at marks: the lines of a text, the words of a line, the parts of an address.
use Rattle.std.proofs.Common.{◌≡◌, ℕ, ◌+◌, ◌<◌, ◌≤◌, List, [], ◌∷◌, length, get_or, take, drop, refl, ap, ◌∙◌, arith, Bool, true, false}
use Rattle.std.specs.Prelude.{not, cond, Some, None, filter, unwrap_or, nat_lt}
use Rattle.std.specs.List.{slice_split, position, position_or_len, before_first}
use Rattle.std.proofs.Math.Numerals.{one-add, add-one}
use Rattle.std.proofs.Math.Seq.{take-length, drop-length, drop-cons}
use Rattle.std.proofs.Math.ListN.{drop_of_length-le}
use Rattle.std.proofs.lemmas.Bool.{cond_both, ltb-false}
use Rattle.std.proofs.lemmas.Option.{cond_some}
use Rattle.std.proofs.lemmas.List.Quantifiers.{position-Some}
use Rattle.std.proofs.lemmas.List.Sums.{prefix_len-le-length}
use Rattle.ft_model.specs.Words.{is, is_empty, lines_of, words_of, without_empty_last}
use Rattle.ft_io.proofs.Booleans.{not_true}

-- what is left of the pieces after the first one, of a list that begins at the first mark
abbrev pub pieces_behind : (ℕ → Bool) → List ℕ → List (List ℕ)
pieces_behind p [] = []
pieces_behind p (x ∷ xs) = slice_split p xs

head_by : (p : ℕ → Bool) (x : ℕ) (xs : List ℕ) (b : Bool) → p x ≡ b → slice_split p xs ≡ before_first p xs ∷ pieces_behind p (drop (position_or_len p xs) xs) → slice_split p (x ∷ xs) ≡ before_first p (x ∷ xs) ∷ pieces_behind p (drop (position_or_len p (x ∷ xs)) (x ∷ xs))
head_by p x xs true e ih = rw e refl
head_by p x xs false e ih = rw (e, ih, one-add) refl

-- the first piece stands before the first mark
pub slice_split_head : (p : ℕ → Bool) (xs : List ℕ) → slice_split p xs ≡ before_first p xs ∷ pieces_behind p (drop (position_or_len p xs) xs)
slice_split_head p [] = refl
slice_split_head p (x ∷ xs) = head_by p x xs (p x) refl (slice_split_head p xs)

-- without a mark there is one piece
pub slice_split_whole : (p : ℕ → Bool) (xs : List ℕ) → position_or_len p xs ≡ length xs → slice_split p xs ≡ xs ∷ []
slice_split_whole p xs e = slice_split_head p xs ∙ rw (e, take-length xs, drop-length xs) refl

-- a mark ends the first piece
pub slice_split_at_mark : (p : ℕ → Bool) (xs : List ℕ) → position_or_len p xs < length xs → slice_split p xs ≡ take (position_or_len p xs) xs ∷ slice_split p (drop (position_or_len p xs + 1) xs)
slice_split_at_mark p xs h = slice_split_head p xs ∙ rw (drop-cons xs (position_or_len p xs) 0 h, add-one) refl

-- a line feed ends the first line
pub lines_of_first : (text line rest : List ℕ) → slice_split (is 10) text ≡ line ∷ slice_split (is 10) rest → lines_of text ≡ line ∷ lines_of rest
unfolding lines_of without_empty_last
lines_of_first text line rest e = rw (e, slice_split_head (is 10) rest) refl

last_line : (text : List ℕ) → 0 < length text → without_empty_last (text ∷ []) ≡ text ∷ []
unfolding without_empty_last
last_line [] h = absurd (omega arith)
last_line (x ∷ xs) h = refl

-- without a line feed there is one line
pub lines_of_last : (text : List ℕ) → 0 < length text → slice_split (is 10) text ≡ text ∷ [] → lines_of text ≡ text ∷ lines_of []
unfolding lines_of without_empty_last
lines_of_last text h e = rw e (last_line text h)

seam_by : (p : ℕ → Bool) (P : List ℕ → Type 0) → ((y : ℕ) (ys : List ℕ) → p y ≡ true → P (y ∷ ys)) → (x : ℕ) (xs : List ℕ) (b : Bool) → p x ≡ b → P (drop (position_or_len p xs) xs) → P (drop (position_or_len p (x ∷ xs)) (x ∷ xs))
seam_by p P mark x xs true e ih = rw e (mark x xs e)
seam_by p P mark x xs false e ih = rw (e, one-add) ih

-- what holds of a list that is empty or begins with a mark holds of what begins at the first mark
seam : (p : ℕ → Bool) (P : List ℕ → Type 0) → P [] → ((y : ℕ) (ys : List ℕ) → p y ≡ true → P (y ∷ ys)) → (xs : List ℕ) → P (drop (position_or_len p xs) xs)
seam p P nil mark [] = nil
seam p P nil mark (x ∷ xs) = seam_by p P mark x xs (p x) refl (seam p P nil mark xs)

-- spaces in front add no word
skip_by : (x : ℕ) (xs : List ℕ) (b : Bool) → is 32 x ≡ b → words_of xs ≡ words_of (drop (position_or_len (λ byte. not (is 32 byte)) xs) xs) → words_of (x ∷ xs) ≡ words_of (drop (position_or_len (λ byte. not (is 32 byte)) (x ∷ xs)) (x ∷ xs))
unfolding words_of
skip_by x xs true e ih = rw (e, one-add) ih
skip_by x xs false e ih = rw (e, e) refl

pub words_of_indented : (xs : List ℕ) → words_of xs ≡ words_of (drop (position_or_len (λ byte. not (is 32 byte)) xs) xs)
words_of_indented [] = refl
words_of_indented (x ∷ xs) = skip_by x xs (is 32 x) refl (words_of_indented xs)

-- the pieces after a word are those of what begins with the space after it, but for an empty one
behind_word : (xs : List ℕ) → filter (λ piece. not (is_empty piece)) (pieces_behind (is 32) (drop (position_or_len (is 32) xs) xs)) ≡ words_of (drop (position_or_len (is 32) xs) xs)
unfolding words_of
behind_word xs = seam (is 32) (λ ys. filter (λ piece. not (is_empty piece)) (pieces_behind (is 32) ys) ≡ words_of ys) refl (λ y ys e. rw e refl) xs

-- a line that begins with no space begins with a word
pub words_of_word : (xs : List ℕ) → 0 < length xs → is 32 (get_or xs 0 0) ≡ false → words_of xs ≡ take (position_or_len (is 32) xs) xs ∷ words_of (drop (position_or_len (is 32) xs) xs)
unfolding words_of
words_of_word [] h e = absurd (omega arith)
words_of_word (x ∷ xs) h e = rw (← behind_word (x ∷ xs)) (rw (slice_split_head (is 32) (x ∷ xs), e, one-add) refl)

-- where nothing is found, the place is past the end
not_found : (xs : List ℕ) (n : ℕ) → cond (nat_lt n (length xs)) (Some n) None ≡ None → length xs ≤ n
not_found xs n e = cond_both (nat_lt n (length xs)) (Some n) None (λ o. o ≡ None → length xs ≤ n) (λ lt is. absurd (cc)) (λ ge is. ltb-false _ _ ge) e

-- a line of spaces has no word
pub words_of_none : (xs : List ℕ) → position (λ byte. not (is 32 byte)) xs ≡ None → words_of xs ≡ []
unfolding words_of
words_of_none xs e =
    words_of_indented xs ∙ rw (drop_of_length-le xs (not_found xs (position_or_len (λ byte. not (is 32 byte)) xs) e)) refl

-- the first word of a line, from its first byte that is no space
pub words_of_some : (xs : List ℕ) (n : ℕ) → position (λ byte. not (is 32 byte)) xs ≡ Some n → words_of xs ≡ take (position_or_len (is 32) (drop n xs)) (drop n xs) ∷ words_of (drop (position_or_len (is 32) (drop n xs)) (drop n xs))
words_of_some xs n e =
    let found = position-Some (λ byte. not (is 32 byte)) xs n 0 e in
    let at = drop-cons xs n 0 found.0 in
    let here = cond_some (nat_lt (position_or_len (λ byte. not (is 32 byte)) xs) (length xs)) (position_or_len (λ byte. not (is 32 byte)) xs) n e in
    words_of_indented xs ∙ (rw here.1 (words_of_word (drop n xs) (rw at (omega arith)) (rw at (not_true _ found.1))))

pub position_or_length : (p : ℕ → Bool) (xs : List ℕ) → unwrap_or (position p xs) (length xs) ≡ position_or_len p xs
position_or_length p xs =
    cond_both (nat_lt (position_or_len p xs) (length xs)) (Some (position_or_len p xs)) None (λ o. unwrap_or o (length xs) ≡ position_or_len p xs)
    (λ e. refl) (λ e. omega (arith, ltb-false _ _ e, prefix_len-le-length (λ x. not (p x)) xs))

-- there are two pieces at least
pub two_pieces : (p : ℕ → Bool) (xs rest first : List ℕ) → slice_split p xs ≡ first ∷ slice_split p rest → (one : List ℕ) × (second : List ℕ) × (more : List (List ℕ)) × (slice_split p xs ≡ one ∷ second ∷ more)
two_pieces p xs rest first e = (first, _, _, e ∙ ap (λ pieces. first ∷ pieces) (slice_split_head p rest))
