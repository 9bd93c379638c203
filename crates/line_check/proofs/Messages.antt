-- A message's words pass exactly where they are those of a message that can be sent.
use Rattle.std.proofs.Common.{◌≡◌, ℕ, zero, suc, ◌<◌, ◌≤◌, ◌+◌, ◌-◌, ◌*◌, ◌^◌, Bool, true, false, if◌then◌else◌, Option, None, Some, List, [], ◌∷◌, ◌++◌, codes, decimal, drop, length, refl, sym, ap, ap₂, ◌∙◌, subst, arith, true≢false}
use Rattle.std.specs.Prelude.{nat_le, nat_eq, ◌&&◌, is_some, option_map, slice_index}
use Rattle.std.specs.List.{list_all}
use Rattle.std.specs.Str.{bytes_eq}
use Rattle.std.specs.Cmp.Derive.{both_true}
use Rattle.std.proofs.lemmas.Bool.{leb-true}
use Rattle.std.proofs.lemmas.Fmt.{decimal_digit}
use Rattle.ft_io.proofs.Booleans.{left_true, right_true}
use Rattle.server_trait.specs.Service.{AreBytes}
use Rattle.seq_arith.specs.Message.{Body, Message}
use Rattle.seq_arith.specs.Message.{Body as bodies}
use Rattle.seq_arith.specs.MessageGrammar.{all_kinds, fields_of, is_in_range_by, all_in_range_by, has_length, behind_at, kind_of, numbers_of, behind_of, lens_of, lens_in, lens_bytes, flag, body_in, message_length, AllFit, is_sound_by}
use Rattle.seq_arith.specs.declared.kinds.Grammar.{Grammar}
use Rattle.seq_arith.specs.declared.kinds.Field.{Field}
use Rattle.seq_arith.specs.declared.kinds.Field.TheVariants as fields
use Rattle.seq_arith.specs.declared.kinds.Kind.{Kind}
use Rattle.seq_arith.specs.declared.kinds.Kind.TheVariants as kinds
use Rattle.seq_arith.proofs.MessageSpelling.{lens_back, ending_small}
use Rattle.ft_model.specs.Report.{name_of, field_words, message_words}
use Rattle.ft_model.specs.Texts.{hex_text, list_text, bit_text, ending_text}
use Rattle.ft_model.specs.Wire.{CanBeWrittenBy}
use Rattle.ft_model.proofs.Wires.{bytes_of_lens, length_of_lens, lengths_low}
use Rattle.line_check.specs.Words.{number_word, byte_count, lens_count, kind_name, kind_among, kind_named, columns_of, last_named, counted, nothing_more, behind_in, columns_fit, rest_fits, body_fits, is_message}
use Rattle.line_check.proofs.Spelled.{same_bytes, bytes_same, number_reported, number_shown, byte_count_reported, byte_count_shown, lens_reported, lens_shown, AreLengths}
use Rattle.line_check.proofs.ColumnWords.{IsRead, column_fields, column_words, columns_reported, columns_shown, behind_columns}

fields_are : (kind : Kind) → column_fields (columns_of kind) ≡ fields_of kind
fields_are kinds.Hello = refl
fields_are kinds.Summary = refl
fields_are kinds.List = refl
fields_are kinds.Entry = refl
fields_are kinds.Bytes = refl
fields_are kinds.Part = refl
fields_are kinds.Cuts = refl
fields_are kinds.Lens = refl
fields_are kinds.Open = refl
fields_are kinds.Opened = refl
fields_are kinds.Data = refl
fields_are kinds.Stable = refl
fields_are kinds.Read = refl
fields_are kinds.Reads = refl
fields_are kinds.Done = refl
fields_are kinds.Ended = refl
fields_are kinds.Stale = refl
fields_are kinds.Full = refl

kind_in : (kind : Kind) (numbers behind : List ℕ) → kind_of (body_in kind numbers behind) ≡ kind
kind_in kinds.Hello numbers behind = refl
kind_in kinds.Summary numbers behind = refl
kind_in kinds.List numbers behind = refl
kind_in kinds.Entry numbers behind = refl
kind_in kinds.Bytes numbers behind = refl
kind_in kinds.Part numbers behind = refl
kind_in kinds.Cuts numbers behind = refl
kind_in kinds.Lens numbers behind = refl
kind_in kinds.Open numbers behind = refl
kind_in kinds.Opened numbers behind = refl
kind_in kinds.Data numbers behind = refl
kind_in kinds.Stable numbers behind = refl
kind_in kinds.Read numbers behind = refl
kind_in kinds.Reads numbers behind = refl
kind_in kinds.Done numbers behind = refl
kind_in kinds.Ended numbers behind = refl
kind_in kinds.Stale numbers behind = refl
kind_in kinds.Full numbers behind = refl

name_is : (body : Body) → name_of body ≡ kind_name (kind_of body)
name_is bodies.HelloMsg = refl
name_is (bodies.SummaryMsg count) = refl
name_is (bodies.ListMsg index) = refl
name_is (bodies.EntryMsg index entry) = refl
name_is (bodies.BytesMsg key offset) = refl
name_is (bodies.PartMsg key offset bytes) = refl
name_is (bodies.CutsMsg key first) = refl
name_is (bodies.LensMsg key first lens) = refl
name_is (bodies.OpenMsg numbers) = refl
name_is (bodies.OpenedMsg numbers) = refl
name_is (bodies.DataMsg part) = refl
name_is (bodies.StableMsg kept) = refl
name_is (bodies.ReadMsg key index len) = refl
name_is (bodies.ReadsMsg kept) = refl
name_is (bodies.DoneMsg key) = refl
name_is (bodies.EndedMsg key) = refl
name_is (bodies.StaleMsg newer) = refl
name_is (bodies.FullMsg key) = refl

kind_shown : (kind : Kind) → kind_named (kind_name kind) ≡ Some kind
unfolding kind_named
kind_shown kinds.Hello = refl
kind_shown kinds.Summary = refl
kind_shown kinds.List = refl
kind_shown kinds.Entry = refl
kind_shown kinds.Bytes = refl
kind_shown kinds.Part = refl
kind_shown kinds.Cuts = refl
kind_shown kinds.Lens = refl
kind_shown kinds.Open = refl
kind_shown kinds.Opened = refl
kind_shown kinds.Data = refl
kind_shown kinds.Stable = refl
kind_shown kinds.Read = refl
kind_shown kinds.Reads = refl
kind_shown kinds.Done = refl
kind_shown kinds.Ended = refl
kind_shown kinds.Stale = refl
kind_shown kinds.Full = refl

abbrev kind_or : Kind → Option Kind → Kind
kind_or other (Some k) = k
kind_or other None = other

kind_reported : (word : List ℕ) (kind : Kind) → kind_named word ≡ Some kind → word ≡ kind_name kind
unfolding kind_named
kind_reported word kind e = among all_kinds e
  where
    by_test : (first : Kind) (more : List Kind) (b : Bool) → bytes_eq word (kind_name first) ≡ b → (if b then Some first else kind_among more word) ≡ Some kind
        → (kind_among more word ≡ Some kind → word ≡ kind_name kind) → word ≡ kind_name kind
    by_test first more true same e rest = same_bytes word (kind_name first) same ∙ ap kind_name (ap (kind_or first) e)
    by_test first more false same e rest = rest e

    among : (more : List Kind) → kind_among more word ≡ Some kind → word ≡ kind_name kind
    among [] e = absurd (true≢false (sym (ap is_some e)))
    among (first ∷ more) e = by_test first more (bytes_eq word (kind_name first)) refl e (among more)

-- a flag as a number
flag_text : (b : Bool) → bit_text b ≡ decimal (flag b)
unfolding bit_text
flag_text true = sym (decimal_digit 1 (omega arith))
flag_text false = sym (decimal_digit 0 (omega arith))

flag_is : (n : ℕ) → n ≤ 1 → flag (nat_eq n 1) ≡ n
flag_is zero h = refl
flag_is (suc zero) h = refl
flag_is (suc (suc n)) h = absurd (omega (arith, h))

-- how a Data ends, as a number
ending_reported : (fin more : Bool) → ending_text fin more ≡ decimal (flag fin + (if more then 2 else 0))
unfolding ending_text bit_text
ending_reported true true = sym (decimal_digit 3 (omega arith))
ending_reported true false = sym (decimal_digit 1 (omega arith))
ending_reported false true = sym (decimal_digit 2 (omega arith))
ending_reported false false = sym (decimal_digit 0 (omega arith))

ending_is : (n : ℕ) → n ≤ 2 → flag (nat_eq n 1) + (if nat_eq n 2 then 2 else 0) ≡ n
ending_is zero h = refl
ending_is (suc zero) h = refl
ending_is (suc (suc zero)) h = refl
ending_is (suc (suc (suc n))) h = absurd (omega (arith, h))

-- the words after a message's fields
abbrev tail_words : Body → List (List ℕ)
tail_words bodies.HelloMsg = []
tail_words (bodies.SummaryMsg count) = []
tail_words (bodies.ListMsg index) = []
tail_words (bodies.EntryMsg index entry) = []
tail_words (bodies.BytesMsg key offset) = []
tail_words (bodies.PartMsg key offset bytes) = codes "bytes" ∷ hex_text bytes ∷ []
tail_words (bodies.CutsMsg key first) = []
tail_words (bodies.LensMsg key first lens) = codes "lens" ∷ list_text lens ∷ []
tail_words (bodies.OpenMsg numbers) = []
tail_words (bodies.OpenedMsg numbers) = []
tail_words (bodies.DataMsg part) = codes "bytes" ∷ hex_text part.bytes ∷ []
tail_words (bodies.StableMsg kept) = []
tail_words (bodies.ReadMsg key index len) = []
tail_words (bodies.ReadsMsg kept) = []
tail_words (bodies.DoneMsg key) = []
tail_words (bodies.EndedMsg key) = []
tail_words (bodies.StaleMsg newer) = []
tail_words (bodies.FullMsg key) = []

words_are : (body : Body) → field_words body ≡ column_words (columns_of (kind_of body)) (numbers_of body) ++ tail_words body
words_are bodies.HelloMsg = refl
words_are (bodies.SummaryMsg count) = refl
words_are (bodies.ListMsg index) = refl
words_are (bodies.EntryMsg index entry) = rw (flag_text entry.fin, flag_text entry.done) refl
words_are (bodies.BytesMsg key offset) = refl
words_are (bodies.PartMsg key offset bytes) = refl
words_are (bodies.CutsMsg key first) = refl
words_are (bodies.LensMsg key first lens) = refl
words_are (bodies.OpenMsg numbers) = refl
words_are (bodies.OpenedMsg numbers) = refl
words_are (bodies.DataMsg part) = rw (ending_reported part.fin part.more) refl
words_are (bodies.StableMsg kept) = rw (flag_text kept.fin) refl
words_are (bodies.ReadMsg key index len) = refl
words_are (bodies.ReadsMsg kept) = rw (flag_text kept.fin) refl
words_are (bodies.DoneMsg key) = refl
words_are (bodies.EndedMsg key) = refl
words_are (bodies.StaleMsg newer) = refl
words_are (bodies.FullMsg key) = refl

-- a list of so many numbers is its elements
elements : ℕ → ℕ → List ℕ → List ℕ
elements zero at numbers = []
elements (suc count) at numbers = slice_index numbers at ∷ elements count (suc at) numbers

elements_behind : (count at n : ℕ) (numbers : List ℕ) → elements count (suc at) (n ∷ numbers) ≡ elements count at numbers
unfolding elements
elements_behind zero at n numbers = refl
elements_behind (suc count) at n numbers = ap (λ ns. slice_index numbers at ∷ ns) (elements_behind count (suc at) n numbers)

elements_are : (numbers : List ℕ) → elements (length numbers) 0 numbers ≡ numbers
unfolding elements
elements_are [] = refl
elements_are (n ∷ numbers) = ap (λ ns. n ∷ ns) (elements_behind (length numbers) 0 n numbers ∙ elements_are numbers)

fit_count : (all : List Field) (numbers : List ℕ) → AllFit all numbers → length numbers ≡ length all
fit_count [] [] h = refl
fit_count [] (n ∷ numbers) h = absurd h
fit_count (field ∷ rest) [] h = absurd h
fit_count (field ∷ rest) (n ∷ numbers) h = ap suc (fit_count rest numbers h.1)

listed : (all : List Field) (numbers : List ℕ) → AllFit all numbers → elements (length all) 0 numbers ≡ numbers
listed all numbers fit = ap (λ k. elements k 0 numbers) (sym (fit_count all numbers fit)) ∙ elements_are numbers

abbrev field_at : List Field → ℕ → Option Field
field_at [] at = None
field_at (field ∷ rest) zero = Some field
field_at (field ∷ rest) (suc at) = field_at rest at

abbrev field_or : Option Field → Field
field_or (Some f) = f
field_or None = fields.Flag

-- the number of a field is in the field's range
range_at : (grammar : Grammar) (boot behind : ℕ) (field : Field) (all : List Field) (numbers : List ℕ) (at : ℕ) → all_in_range_by grammar boot behind all numbers ≡ true
    → field_at all at ≡ Some field → is_in_range_by grammar boot behind field (slice_index numbers at) ≡ true
range_at grammar boot behind field [] numbers at ranged is = absurd (true≢false (sym (ap is_some is)))
range_at grammar boot behind field (other ∷ rest) [] at ranged is = absurd (true≢false (sym ranged))
range_at grammar boot behind field (other ∷ rest) (n ∷ numbers) zero ranged is =
    ap (λ f. is_in_range_by grammar boot behind f n) (sym (ap field_or is)) ∙ left_true (is_in_range_by grammar boot behind other n) _ ranged
range_at grammar boot behind field (other ∷ rest) (n ∷ numbers) (suc at) ranged is =
    range_at grammar boot behind field rest numbers at (right_true (is_in_range_by grammar boot behind other n) _ ranged) is

flag_range : (grammar : Grammar) (boot behind : ℕ) (all : List Field) (numbers : List ℕ) (at : ℕ) → all_in_range_by grammar boot behind all numbers ≡ true
    → field_at all at ≡ Some fields.Flag → slice_index numbers at ≤ 1
flag_range grammar boot behind all numbers at ranged is = leb-true (slice_index numbers at) 1 (range_at grammar boot behind fields.Flag all numbers at ranged is)

ending_range : (grammar : Grammar) (boot behind : ℕ) (numbers : List ℕ) → all_in_range_by grammar boot behind (fields_of kinds.Data) numbers ≡ true → slice_index numbers 4 ≤ 2
ending_range grammar boot behind numbers ranged =
    ending_small grammar (slice_index numbers 4) (range_at grammar boot behind fields.Ending (fields_of kinds.Data) numbers 4 ranged refl)

numbers_in_body : (grammar : Grammar) (kind : Kind) (boot behind : ℕ) (numbers bytes : List ℕ) → AllFit (fields_of kind) numbers → all_in_range_by grammar boot behind (fields_of kind) numbers ≡ true → numbers_of (body_in kind numbers bytes) ≡ numbers
unfolding elements
numbers_in_body grammar kinds.Hello boot behind numbers bytes fit ranged = listed (fields_of kinds.Hello) numbers fit
numbers_in_body grammar kinds.Summary boot behind numbers bytes fit ranged = listed (fields_of kinds.Summary) numbers fit
numbers_in_body grammar kinds.List boot behind numbers bytes fit ranged = listed (fields_of kinds.List) numbers fit
numbers_in_body grammar kinds.Entry boot behind numbers bytes fit ranged = rw (flag_is (slice_index numbers 7) (flag_range grammar boot behind (fields_of kinds.Entry) numbers 7 ranged refl), flag_is (slice_index numbers 8) (flag_range grammar boot behind (fields_of kinds.Entry) numbers 8 ranged refl)) (listed (fields_of kinds.Entry) numbers fit)
numbers_in_body grammar kinds.Bytes boot behind numbers bytes fit ranged = listed (fields_of kinds.Bytes) numbers fit
numbers_in_body grammar kinds.Part boot behind numbers bytes fit ranged = listed (fields_of kinds.Part) numbers fit
numbers_in_body grammar kinds.Cuts boot behind numbers bytes fit ranged = listed (fields_of kinds.Cuts) numbers fit
numbers_in_body grammar kinds.Lens boot behind numbers bytes fit ranged = listed (fields_of kinds.Lens) numbers fit
numbers_in_body grammar kinds.Open boot behind numbers bytes fit ranged = listed (fields_of kinds.Open) numbers fit
numbers_in_body grammar kinds.Opened boot behind numbers bytes fit ranged = listed (fields_of kinds.Opened) numbers fit
numbers_in_body grammar kinds.Data boot behind numbers bytes fit ranged = rw (ending_is (slice_index numbers 4) (ending_range grammar boot behind numbers ranged)) (listed (fields_of kinds.Data) numbers fit)
numbers_in_body grammar kinds.Stable boot behind numbers bytes fit ranged = rw (flag_is (slice_index numbers 3) (flag_range grammar boot behind (fields_of kinds.Stable) numbers 3 ranged refl)) (listed (fields_of kinds.Stable) numbers fit)
numbers_in_body grammar kinds.Read boot behind numbers bytes fit ranged = listed (fields_of kinds.Read) numbers fit
numbers_in_body grammar kinds.Reads boot behind numbers bytes fit ranged = rw (flag_is (slice_index numbers 3) (flag_range grammar boot behind (fields_of kinds.Reads) numbers 3 ranged refl)) (listed (fields_of kinds.Reads) numbers fit)
numbers_in_body grammar kinds.Done boot behind numbers bytes fit ranged = listed (fields_of kinds.Done) numbers fit
numbers_in_body grammar kinds.Ended boot behind numbers bytes fit ranged = listed (fields_of kinds.Ended) numbers fit
numbers_in_body grammar kinds.Stale boot behind numbers bytes fit ranged = listed (fields_of kinds.Stale) numbers fit
numbers_in_body grammar kinds.Full boot behind numbers bytes fit ranged = listed (fields_of kinds.Full) numbers fit

-- the bytes after a kind's fields
abbrev Follows : Kind → List ℕ → Type 0
Follows kinds.Hello bytes = bytes ≡ []
Follows kinds.Summary bytes = bytes ≡ []
Follows kinds.List bytes = bytes ≡ []
Follows kinds.Entry bytes = bytes ≡ []
Follows kinds.Bytes bytes = bytes ≡ []
Follows kinds.Part bytes = AreBytes bytes
Follows kinds.Cuts bytes = bytes ≡ []
Follows kinds.Lens bytes = (lens : List ℕ) × AreLengths lens × (bytes ≡ lens_bytes lens)
Follows kinds.Open bytes = bytes ≡ []
Follows kinds.Opened bytes = bytes ≡ []
Follows kinds.Data bytes = AreBytes bytes
Follows kinds.Stable bytes = bytes ≡ []
Follows kinds.Read bytes = bytes ≡ []
Follows kinds.Reads bytes = bytes ≡ []
Follows kinds.Done bytes = bytes ≡ []
Follows kinds.Ended bytes = bytes ≡ []
Follows kinds.Stale bytes = bytes ≡ []
Follows kinds.Full bytes = bytes ≡ []

small_lens : (lens : List ℕ) → list_all (λ len. nat_le len 2048) lens ≡ true → AreLengths lens
small_lens [] h = tt
small_lens (len ∷ lens) h = (leb-true len 2048 (left_true (nat_le len 2048) _ h), small_lens lens (right_true (nat_le len 2048) _ h))

lens_again : (bytes lens : List ℕ) → AreLengths lens → bytes ≡ lens_bytes lens → lens_in bytes ≡ lens
lens_again bytes lens h e = ap lens_in e ∙ lens_back lens (lengths_low lens h)

behind_again : (kind : Kind) (numbers bytes : List ℕ) → Follows kind bytes → behind_of (body_in kind numbers bytes) ≡ bytes
behind_again kinds.Hello numbers bytes h = sym h
behind_again kinds.Summary numbers bytes h = sym h
behind_again kinds.List numbers bytes h = sym h
behind_again kinds.Entry numbers bytes h = sym h
behind_again kinds.Bytes numbers bytes h = sym h
behind_again kinds.Part numbers bytes h = refl
behind_again kinds.Cuts numbers bytes h = sym h
behind_again kinds.Lens numbers bytes h = ap lens_bytes (lens_again bytes h.0 h.1 h.2) ∙ sym h.2
behind_again kinds.Open numbers bytes h = sym h
behind_again kinds.Opened numbers bytes h = sym h
behind_again kinds.Data numbers bytes h = refl
behind_again kinds.Stable numbers bytes h = sym h
behind_again kinds.Read numbers bytes h = sym h
behind_again kinds.Reads numbers bytes h = sym h
behind_again kinds.Done numbers bytes h = sym h
behind_again kinds.Ended numbers bytes h = sym h
behind_again kinds.Stale numbers bytes h = sym h
behind_again kinds.Full numbers bytes h = sym h

follows_bytes : (kind : Kind) (bytes : List ℕ) → Follows kind bytes → AreBytes bytes
follows_bytes kinds.Hello bytes h = subst AreBytes (sym h) tt
follows_bytes kinds.Summary bytes h = subst AreBytes (sym h) tt
follows_bytes kinds.List bytes h = subst AreBytes (sym h) tt
follows_bytes kinds.Entry bytes h = subst AreBytes (sym h) tt
follows_bytes kinds.Bytes bytes h = subst AreBytes (sym h) tt
follows_bytes kinds.Part bytes h = h
follows_bytes kinds.Cuts bytes h = subst AreBytes (sym h) tt
follows_bytes kinds.Lens bytes h = subst AreBytes (sym h.2) (bytes_of_lens h.0)
follows_bytes kinds.Open bytes h = subst AreBytes (sym h) tt
follows_bytes kinds.Opened bytes h = subst AreBytes (sym h) tt
follows_bytes kinds.Data bytes h = h
follows_bytes kinds.Stable bytes h = subst AreBytes (sym h) tt
follows_bytes kinds.Read bytes h = subst AreBytes (sym h) tt
follows_bytes kinds.Reads bytes h = subst AreBytes (sym h) tt
follows_bytes kinds.Done bytes h = subst AreBytes (sym h) tt
follows_bytes kinds.Ended bytes h = subst AreBytes (sym h) tt
follows_bytes kinds.Stale bytes h = subst AreBytes (sym h) tt
follows_bytes kinds.Full bytes h = subst AreBytes (sym h) tt

lens_ranged : (kind : Kind) (numbers bytes : List ℕ) → Follows kind bytes → list_all (λ len. nat_le len 2048) (lens_of (body_in kind numbers bytes)) ≡ true
lens_ranged kinds.Hello numbers bytes h = refl
lens_ranged kinds.Summary numbers bytes h = refl
lens_ranged kinds.List numbers bytes h = refl
lens_ranged kinds.Entry numbers bytes h = refl
lens_ranged kinds.Bytes numbers bytes h = refl
lens_ranged kinds.Part numbers bytes h = refl
lens_ranged kinds.Cuts numbers bytes h = refl
lens_ranged kinds.Lens numbers bytes h = ap (λ ls. list_all (λ len. nat_le len 2048) ls) (lens_again bytes h.0 h.1 h.2) ∙ lengths_low h.0 h.1
lens_ranged kinds.Open numbers bytes h = refl
lens_ranged kinds.Opened numbers bytes h = refl
lens_ranged kinds.Data numbers bytes h = refl
lens_ranged kinds.Stable numbers bytes h = refl
lens_ranged kinds.Read numbers bytes h = refl
lens_ranged kinds.Reads numbers bytes h = refl
lens_ranged kinds.Done numbers bytes h = refl
lens_ranged kinds.Ended numbers bytes h = refl
lens_ranged kinds.Stale numbers bytes h = refl
lens_ranged kinds.Full numbers bytes h = refl

-- two words, by the name of the first
last_reported : (name : List ℕ) (count : List ℕ → Option ℕ) (n : ℕ) (words : List (List ℕ)) → counted count (last_named name words) ≡ Some n → (word : List ℕ) × (words ≡ name ∷ word ∷ []) × (count word ≡ Some n)
last_reported name count n [] e = absurd (true≢false (sym (ap is_some e)))
last_reported name count n (label ∷ []) e = absurd (true≢false (sym (ap is_some e)))
last_reported name count n (label ∷ word ∷ x ∷ more) e = absurd (true≢false (sym (ap is_some e)))
last_reported name count n (label ∷ word ∷ []) e = by_test (bytes_eq label name) refl e
  where
    by_test : (b : Bool) → bytes_eq label name ≡ b → counted count (if b then Some word else None) ≡ Some n → (w : List ℕ) × (label ∷ word ∷ [] ≡ name ∷ w ∷ []) × (count w ≡ Some n)
    by_test true same e = (word, ap (λ l. l ∷ word ∷ []) (same_bytes label name same), e)
    by_test false same e = absurd (true≢false (sym (ap is_some e)))

last_shown : (name word : List ℕ) (count : List ℕ → Option ℕ) → counted count (last_named name (name ∷ word ∷ [])) ≡ count word
last_shown name word count = ap (λ b. counted count (if b then Some word else None)) (bytes_same name)

abbrev number_or : Option ℕ → ℕ
number_or (Some m) = m
number_or None = 0

none_reported : (n : ℕ) (words : List (List ℕ)) → nothing_more words ≡ Some n → (words ≡ []) × (0 ≡ n)
none_reported n [] e = (refl, ap number_or e)
none_reported n (word ∷ more) e = absurd (true≢false (sym (ap is_some e)))

doubled_reported : (o : Option ℕ) (n : ℕ) → option_map (λ k. 2 * k) o ≡ Some n → (k : ℕ) × (o ≡ Some k) × (2 * k ≡ n)
doubled_reported None n e = absurd (true≢false (sym (ap is_some e)))
doubled_reported (Some k) n e = (k, refl, ap number_or e)

-- what follows the fields, and the words that tell it
pub record Behind (kind : Kind) (words : List (List ℕ)) (n : ℕ) : Type 0 where
  pub bytes : List ℕ
  pub follows : Follows kind bytes
  pub count : length bytes ≡ n
  pub reported : (numbers : List ℕ) → words ≡ tail_words (body_in kind numbers bytes)

by_bytes : (n : ℕ) (words : List (List ℕ)) → counted byte_count (last_named (codes "bytes") words) ≡ Some n → (bytes : List ℕ) × AreBytes bytes × (length bytes ≡ n) × (words ≡ codes "bytes" ∷ hex_text bytes ∷ [])
by_bytes n words e =
    let last = last_reported (codes "bytes") byte_count n words e in
    let reported = byte_count_reported n last.0 last.2 in
    (reported.0, reported.1, reported.2, last.1 ∙ ap (λ w. codes "bytes" ∷ w ∷ []) reported.3)

by_lens : (n : ℕ) (words : List (List ℕ)) → option_map (λ k. 2 * k) (counted lens_count (last_named (codes "lens") words)) ≡ Some n
    → (lens : List ℕ) × AreLengths lens × (length (lens_bytes lens) ≡ n) × (words ≡ codes "lens" ∷ list_text lens ∷ [])
by_lens n words e =
    let twice = doubled_reported (counted lens_count (last_named (codes "lens") words)) n e in
    let last = last_reported (codes "lens") lens_count twice.0 words twice.1 in
    let reported = lens_reported twice.0 last.0 last.2 in
    let len : length (lens_bytes reported.0) ≡ 2 * length reported.0 = length_of_lens reported.0 in
    let count : length (lens_bytes reported.0) ≡ n = len ∙ (ap (λ k. 2 * k) reported.2 ∙ twice.2) in
    (reported.0, reported.1, count, last.1 ∙ ap (λ w. codes "lens" ∷ w ∷ []) reported.3)

behind_reported : (kind : Kind) (words : List (List ℕ)) (n : ℕ) → behind_in kind words ≡ Some n → Behind kind words n
behind_reported kinds.Hello words n e = let t = none_reported n words e in record { bytes = []; follows = refl; count = t.1; reported = λ numbers. t.0 }
behind_reported kinds.Summary words n e = let t = none_reported n words e in record { bytes = []; follows = refl; count = t.1; reported = λ numbers. t.0 }
behind_reported kinds.List words n e = let t = none_reported n words e in record { bytes = []; follows = refl; count = t.1; reported = λ numbers. t.0 }
behind_reported kinds.Entry words n e = let t = none_reported n words e in record { bytes = []; follows = refl; count = t.1; reported = λ numbers. t.0 }
behind_reported kinds.Bytes words n e = let t = none_reported n words e in record { bytes = []; follows = refl; count = t.1; reported = λ numbers. t.0 }
behind_reported kinds.Part words n e = let t = by_bytes n words e in record { bytes = t.0; follows = t.1; count = t.2; reported = λ numbers. t.3 }
behind_reported kinds.Cuts words n e = let t = none_reported n words e in record { bytes = []; follows = refl; count = t.1; reported = λ numbers. t.0 }
behind_reported kinds.Lens words n e =
    let t = by_lens n words e in
    record { bytes = lens_bytes t.0; follows = (t.0, t.1, refl); count = t.2; reported = λ numbers. t.3 ∙ ap (λ ls. codes "lens" ∷ list_text ls ∷ []) (sym (lens_again (lens_bytes t.0) t.0 t.1 refl)) }
behind_reported kinds.Open words n e = let t = none_reported n words e in record { bytes = []; follows = refl; count = t.1; reported = λ numbers. t.0 }
behind_reported kinds.Opened words n e = let t = none_reported n words e in record { bytes = []; follows = refl; count = t.1; reported = λ numbers. t.0 }
behind_reported kinds.Data words n e = let t = by_bytes n words e in record { bytes = t.0; follows = t.1; count = t.2; reported = λ numbers. t.3 }
behind_reported kinds.Stable words n e = let t = none_reported n words e in record { bytes = []; follows = refl; count = t.1; reported = λ numbers. t.0 }
behind_reported kinds.Read words n e = let t = none_reported n words e in record { bytes = []; follows = refl; count = t.1; reported = λ numbers. t.0 }
behind_reported kinds.Reads words n e = let t = none_reported n words e in record { bytes = []; follows = refl; count = t.1; reported = λ numbers. t.0 }
behind_reported kinds.Done words n e = let t = none_reported n words e in record { bytes = []; follows = refl; count = t.1; reported = λ numbers. t.0 }
behind_reported kinds.Ended words n e = let t = none_reported n words e in record { bytes = []; follows = refl; count = t.1; reported = λ numbers. t.0 }
behind_reported kinds.Stale words n e = let t = none_reported n words e in record { bytes = []; follows = refl; count = t.1; reported = λ numbers. t.0 }
behind_reported kinds.Full words n e = let t = none_reported n words e in record { bytes = []; follows = refl; count = t.1; reported = λ numbers. t.0 }

-- a message by its kind, its boot and what follows
sound_message : (grammar : Grammar) (kind : Kind) (boot : ℕ) (words : List (List ℕ)) (n : ℕ) → boot < 256 ^ 8 → nat_le 1 boot ≡ true → Behind kind (drop (2 * length (columns_of kind)) words) n
    → has_length kind (behind_at kind + n) ≡ true → columns_fit grammar boot n (columns_of kind) words ≡ true
    → (m : Message) × CanBeWrittenBy grammar m × (kind_of m.body ≡ kind) × (m.boot ≡ boot) × (words ≡ field_words m.body)
unfolding is_sound_by
sound_message grammar kind boot words n small least b size fit =
    let read : (numbers : List ℕ) × IsRead grammar boot n (columns_of kind) words numbers = columns_reported grammar boot n (columns_of kind) words fit in
    let numbers : List ℕ = read.0 in
    let fits : AllFit (fields_of kind) numbers = subst (λ fs. AllFit fs numbers) (fields_are kind) read.1.fit in
    let ranged : all_in_range_by grammar boot n (fields_of kind) numbers ≡ true = ap (λ fs. all_in_range_by grammar boot n fs numbers) (sym (fields_are kind)) ∙ read.1.ranged in
    let body : Body = body_in kind numbers b.bytes in
    let same_kind : kind_of body ≡ kind = kind_in kind numbers b.bytes in
    let same_numbers : numbers_of body ≡ numbers = numbers_in_body grammar kind boot n numbers b.bytes fits ranged in
    let same_behind : behind_of body ≡ b.bytes = behind_again kind numbers b.bytes b.follows in
    let len : length (behind_of body) ≡ n = ap length same_behind ∙ b.count in
    let reported : field_words body ≡ column_words (columns_of kind) numbers ++ tail_words body =
    words_are body ∙ ap₂ (λ k ns. column_words (columns_of k) ns ++ tail_words body) same_kind same_numbers in
    let words_reported : words ≡ field_words body = read.1.words_are ∙ (ap (λ t. column_words (columns_of kind) numbers ++ t) (b.reported numbers) ∙ sym reported) in
    let fit_body : AllFit (fields_of (kind_of body)) (numbers_of body) =
    subst (λ k. AllFit (fields_of k) (numbers_of body)) (sym same_kind) (subst (λ ns. AllFit (fields_of kind) ns) (sym same_numbers) fits) in
    let range_body : all_in_range_by grammar boot (length (behind_of body)) (fields_of (kind_of body)) (numbers_of body) ≡ true =
    ap₂ (λ k ns. all_in_range_by grammar boot (length (behind_of body)) (fields_of k) ns) same_kind same_numbers ∙ (ap (λ l. all_in_range_by grammar boot l (fields_of kind) numbers) len ∙ ranged) in
    let sized : has_length (kind_of body) (message_length body) ≡ true =
    ap₂ (λ k l. has_length k (behind_at k + l)) same_kind len ∙ size in (
      record { boot = boot; body = body },
      (
        record { boot = small; numbers = fit_body; sound = both_true (both_true least range_body) (lens_ranged kind numbers b.bytes b.follows); size = sized },
        subst AreBytes (sym same_behind) (follows_bytes kind b.bytes b.follows),
      ),
      same_kind,
      refl,
      words_reported,
    )

pub message_reported : (grammar : Grammar) (words : List (List ℕ)) → is_message grammar words ≡ true → (m : Message) × CanBeWrittenBy grammar m × (words ≡ message_words m)
unfolding is_message message_words
message_reported grammar [] e = absurd (true≢false (sym e))
message_reported grammar (name ∷ []) e = absurd (true≢false (sym e))
message_reported grammar (name ∷ label ∷ []) e = absurd (true≢false (sym e))
message_reported grammar (name ∷ label ∷ number ∷ words) e =
    by_kind (kind_named name) (number_word (2 ^ 64 - 1) number) refl refl (right_true (bytes_eq label (codes "boot")) _ e)
  where
    by_count : (kind : Kind) (boot : ℕ) (o : Option ℕ) → kind_named name ≡ Some kind → number_word (2 ^ 64 - 1) number ≡ Some boot → nat_le 1 boot ≡ true
        → behind_in kind (drop (2 * length (columns_of kind)) words) ≡ o → rest_fits grammar kind boot o words ≡ true
        → (m : Message) × CanBeWrittenBy grammar m × (name ∷ label ∷ number ∷ words ≡ name_of m.body ∷ codes "boot" ∷ decimal m.boot ∷ field_words m.body)
    by_count kind boot None k b least h f = absurd (true≢false (sym f))
    by_count kind boot (Some n) k b least h f =
        let t : (boot ≤ 2 ^ 64 - 1) × (number ≡ decimal boot) = number_reported (2 ^ 64 - 1) boot number b in
        let small : boot < 256 ^ 8 = omega (arith, t.0) in
        let size : has_length kind (behind_at kind + n) ≡ true = left_true (has_length kind (behind_at kind + n)) _ f in
        let m = sound_message grammar kind boot words n small least (behind_reported kind (drop (2 * length (columns_of kind)) words) n h) size (right_true (has_length kind (behind_at kind + n)) _ f) in
        let first : name ≡ name_of m.0.body = kind_reported name kind k ∙ (ap kind_name (sym m.2) ∙ sym (name_is m.0.body)) in
        let second : label ≡ codes "boot" = same_bytes label (codes "boot") (left_true (bytes_eq label (codes "boot")) _ e) in
        let third : number ≡ decimal m.0.boot = t.1 ∙ ap decimal (sym m.3) in
        (m.0, m.1, ap₂ (λ x y. x ∷ y) first (ap₂ (λ x y. x ∷ y) second (ap₂ (λ x y. x ∷ y) third m.4)))

    by_kind : (k : Option Kind) (b : Option ℕ) → kind_named name ≡ k → number_word (2 ^ 64 - 1) number ≡ b → body_fits grammar k b words ≡ true
        → (m : Message) × CanBeWrittenBy grammar m × (name ∷ label ∷ number ∷ words ≡ name_of m.body ∷ codes "boot" ∷ decimal m.boot ∷ field_words m.body)
    by_kind None b ek eb f = absurd (true≢false (sym f))
    by_kind (Some kind) None ek eb f = absurd (true≢false (sym f))
    by_kind (Some kind) (Some boot) ek eb f =
        by_count kind boot (behind_in kind (drop (2 * length (columns_of kind)) words)) ek eb (left_true (nat_le 1 boot) _ f) refl (right_true (nat_le 1 boot) _ f)

some_lens : (lens : List ℕ) → has_length kinds.Lens (behind_at kinds.Lens + length (lens_bytes lens)) ≡ true → (0 < length lens) × (length lens ≤ 512)
unfolding has_length
some_lens [] size = absurd (true≢false (sym size))
some_lens (len ∷ lens) size =
    let n : ℕ = 26 + length (lens_bytes (len ∷ lens)) in
    let bounds : nat_le 28 n && nat_le n 1050 ≡ true = left_true (nat_le 28 n && nat_le n 1050) _ size in
    let most : n ≤ 1050 = leb-true n 1050 (right_true (nat_le 28 n) (nat_le n 1050) bounds) in
    let count : length (lens_bytes (len ∷ lens)) ≡ 2 * length (len ∷ lens) = length_of_lens (len ∷ lens) in
    (omega arith, omega (arith, most, count))

lens_behind : (lens : List ℕ) → AreLengths lens → (0 < length lens) × (length lens ≤ 512)
    → option_map (λ k. 2 * k) (counted lens_count (last_named (codes "lens") (codes "lens" ∷ list_text lens ∷ []))) ≡ Some (length (lens_bytes lens))
lens_behind lens h some =
    ap (λ o. option_map (λ k. 2 * k) o) (last_shown (codes "lens") (list_text lens) lens_count ∙ lens_shown lens h some.0 some.1) ∙ ap Some (sym (length_of_lens lens))

-- the words after the fields tell how much follows
behind_shown : (body : Body) → list_all (λ len. nat_le len 2048) (lens_of body) ≡ true → AreBytes (behind_of body) → has_length (kind_of body) (message_length body) ≡ true
    → behind_in (kind_of body) (tail_words body) ≡ Some (length (behind_of body))
behind_shown bodies.HelloMsg ls bs size = refl
behind_shown (bodies.SummaryMsg count) ls bs size = refl
behind_shown (bodies.ListMsg index) ls bs size = refl
behind_shown (bodies.EntryMsg index entry) ls bs size = refl
behind_shown (bodies.BytesMsg key offset) ls bs size = refl
behind_shown (bodies.PartMsg key offset bytes) ls bs size = last_shown (codes "bytes") (hex_text bytes) byte_count ∙ byte_count_shown bytes bs
behind_shown (bodies.CutsMsg key first) ls bs size = refl
behind_shown (bodies.LensMsg key first lens) ls bs size = lens_behind lens (small_lens lens ls) (some_lens lens size)
behind_shown (bodies.OpenMsg numbers) ls bs size = refl
behind_shown (bodies.OpenedMsg numbers) ls bs size = refl
behind_shown (bodies.DataMsg part) ls bs size = last_shown (codes "bytes") (hex_text part.bytes) byte_count ∙ byte_count_shown part.bytes bs
behind_shown (bodies.StableMsg kept) ls bs size = refl
behind_shown (bodies.ReadMsg key index len) ls bs size = refl
behind_shown (bodies.ReadsMsg kept) ls bs size = refl
behind_shown (bodies.DoneMsg key) ls bs size = refl
behind_shown (bodies.EndedMsg key) ls bs size = refl
behind_shown (bodies.StaleMsg newer) ls bs size = refl
behind_shown (bodies.FullMsg key) ls bs size = refl

pub message_shown : (grammar : Grammar) (m : Message) → CanBeWrittenBy grammar m → is_message grammar (message_words m) ≡ true
unfolding is_message message_words is_sound_by
message_shown grammar m h =
    let kind : Kind = kind_of m.body in
    let numbers : List ℕ = numbers_of m.body in
    let tail : List (List ℕ) = tail_words m.body in
    let behind : ℕ = length (behind_of m.body) in
    let front : nat_le 1 m.boot && all_in_range_by grammar m.boot behind (fields_of kind) numbers ≡ true = left_true (nat_le 1 m.boot && all_in_range_by grammar m.boot behind (fields_of kind) numbers) _ h.0.sound in
    let lens : list_all (λ len. nat_le len 2048) (lens_of m.body) ≡ true = right_true (nat_le 1 m.boot && all_in_range_by grammar m.boot behind (fields_of kind) numbers) _ h.0.sound in
    let least : nat_le 1 m.boot ≡ true = left_true (nat_le 1 m.boot) _ front in
    let fit : AllFit (column_fields (columns_of kind)) numbers = subst (λ fs. AllFit fs numbers) (sym (fields_are kind)) h.0.numbers in
    let ranged : all_in_range_by grammar m.boot behind (column_fields (columns_of kind)) numbers ≡ true =
    ap (λ fs. all_in_range_by grammar m.boot behind fs numbers) (fields_are kind) ∙ right_true (nat_le 1 m.boot) _ front in
    let words : field_words m.body ≡ column_words (columns_of kind) numbers ++ tail = words_are m.body in
    let named_kind : kind_named (name_of m.body) ≡ Some kind = ap kind_named (name_is m.body) ∙ kind_shown kind in
    let boot_below : m.boot ≤ 2 ^ 64 - 1 = omega (arith, h.0.boot) in
    let boot_small : m.boot < 2 ^ 64 = omega (arith, h.0.boot) in
    let number : number_word (2 ^ 64 - 1) (decimal m.boot) ≡ Some m.boot = number_shown (2 ^ 64 - 1) m.boot boot_below boot_small in
    let rest : behind_in kind (drop (2 * length (columns_of kind)) (field_words m.body)) ≡ Some behind =
    ap (λ ws. behind_in kind (drop (2 * length (columns_of kind)) ws)) words
    ∙ (ap (behind_in kind) (behind_columns (columns_of kind) numbers tail fit) ∙ behind_shown m.body lens h.1 h.0.size) in
    let columns : columns_fit grammar m.boot behind (columns_of kind) (field_words m.body) ≡ true =
    ap (columns_fit grammar m.boot behind (columns_of kind)) words ∙ columns_shown grammar m.boot behind (columns_of kind) numbers tail fit ranged in
    let size : has_length kind (behind_at kind + behind) ≡ true = h.0.size in
    both_true (bytes_same (codes "boot"))
    (ap₂ (λ k b. body_fits grammar k b (field_words m.body)) named_kind number
    ∙ both_true least (ap (λ o. rest_fits grammar kind m.boot o (field_words m.body)) rest ∙ both_true size columns))
