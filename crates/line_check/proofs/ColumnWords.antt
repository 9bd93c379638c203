-- The columns of a line fit exactly where the words are those of numbers in their ranges.
use Rattle.std.proofs.Common.{◌≡◌, ℕ, suc, ◌<◌, ◌≤◌, ◌*◌, ◌^◌, Bool, true, false, if◌then◌else◌, Option, None, Some, List, [], ◌∷◌, ◌++◌, codes, decimal, drop, length, refl, sym, ap, ap₂, ◌∙◌, arith, true≢false}
use Rattle.std.specs.Str.{bytes_eq}
use Rattle.std.specs.Cmp.Derive.{both_true}
use Rattle.ft_io.proofs.Booleans.{left_true, right_true}
use Rattle.ft_io.specs.declared.Key.{Key}
use Rattle.seq_arith.specs.MessageGrammar.{is_in_range_by, width, all_in_range_by, AllFit}
use Rattle.seq_arith.specs.declared.kinds.Grammar.{Grammar}
use Rattle.seq_arith.specs.declared.kinds.Field.{Field}
use Rattle.seq_arith.specs.declared.kinds.Field.TheVariants as fields
use Rattle.ft_model.specs.Readable.{FitsKey}
use Rattle.ft_model.specs.Texts.{address_text, key_text}
use Rattle.line_check.specs.Words.{Column, number_word, in_field, most_of, number_fits, key_fits, columns_fit}
use Rattle.line_check.specs.Words.Column.{KeyColumn, NumberColumn}
use Rattle.line_check.proofs.Spelled.{same_bytes, bytes_same, number_reported, number_shown, address_reported, address_shown}

-- the fields of columns, and the words of their numbers
abbrev pub column_fields : List Column → List Field
column_fields [] = []
column_fields (KeyColumn ∷ columns) = fields.Address ∷ fields.Port ∷ column_fields columns
column_fields (NumberColumn name field ∷ columns) = field ∷ column_fields columns

abbrev pub column_words : List Column → List ℕ → List (List ℕ)
column_words [] numbers = []
column_words (KeyColumn ∷ columns) [] = []
column_words (KeyColumn ∷ columns) (ip ∷ []) = []
column_words (KeyColumn ∷ columns) (ip ∷ port ∷ numbers) = codes "key" ∷ address_text ip port ∷ column_words columns numbers
column_words (NumberColumn name field ∷ columns) [] = []
column_words (NumberColumn name field ∷ columns) (n ∷ numbers) = name ∷ decimal n ∷ column_words columns numbers

-- numbers that fit these columns, and their words
pub record IsRead (grammar : Grammar) (boot behind : ℕ) (columns : List Column) (words : List (List ℕ)) (numbers : List ℕ) : Type 0 where
  pub fit : AllFit (column_fields columns) numbers
  pub ranged : all_in_range_by grammar boot behind (column_fields columns) numbers ≡ true
  pub words_are : words ≡ column_words columns numbers ++ drop (2 * length columns) words

fits_bytes : (field : Field) (n : ℕ) → n ≤ most_of field → n < 256 ^ width field
fits_bytes fields.Flag n h = omega (arith, h)
fits_bytes fields.Ending n h = omega (arith, h)
fits_bytes fields.Count n h = omega (arith, h)
fits_bytes fields.Place n h = omega (arith, h)
fits_bytes fields.Port n h = omega (arith, h)
fits_bytes fields.Mss n h = omega (arith, h)
fits_bytes fields.ReadLength n h = omega (arith, h)
fits_bytes fields.Address n h = omega (arith, h)
fits_bytes fields.Initial n h = omega (arith, h)
fits_bytes fields.Length n h = omega (arith, h)
fits_bytes fields.Offset n h = omega (arith, h)
fits_bytes fields.Units n h = omega (arith, h)
fits_bytes fields.Newer n h = omega (arith, h)

most_fits : (field : Field) (n : ℕ) → n < 256 ^ width field → (n ≤ most_of field) × (n < 2 ^ 64)
most_fits fields.Flag n h = (omega (arith, h), omega (arith, h))
most_fits fields.Ending n h = (omega (arith, h), omega (arith, h))
most_fits fields.Count n h = (omega (arith, h), omega (arith, h))
most_fits fields.Place n h = (omega (arith, h), omega (arith, h))
most_fits fields.Port n h = (omega (arith, h), omega (arith, h))
most_fits fields.Mss n h = (omega (arith, h), omega (arith, h))
most_fits fields.ReadLength n h = (omega (arith, h), omega (arith, h))
most_fits fields.Address n h = (omega (arith, h), omega (arith, h))
most_fits fields.Initial n h = (omega (arith, h), omega (arith, h))
most_fits fields.Length n h = (omega (arith, h), omega (arith, h))
most_fits fields.Offset n h = (omega (arith, h), omega (arith, h))
most_fits fields.Units n h = (omega (arith, h), omega (arith, h))
most_fits fields.Newer n h = (omega (arith, h), omega (arith, h))

number_reported_in : (grammar : Grammar) (boot behind : ℕ) (field : Field) (b : Bool) (word : List ℕ) → number_fits grammar boot behind field (if b then Some word else None) ≡ true
    → (b ≡ true) × ((n : ℕ) × (n < 256 ^ width field) × (is_in_range_by grammar boot behind field n ≡ true) × (word ≡ decimal n))
number_reported_in grammar boot behind field false word e = absurd (true≢false (sym e))
number_reported_in grammar boot behind field true word e = (refl, by_number (number_word (most_of field) word) refl e)
  where
    by_number : (o : Option ℕ) → number_word (most_of field) word ≡ o → in_field grammar boot behind field o ≡ true → (n : ℕ) × (n < 256 ^ width field) × (is_in_range_by grammar boot behind field n ≡ true) × (word ≡ decimal n)
    by_number None f e = absurd (true≢false (sym e))
    by_number (Some n) f e = let t : (n ≤ most_of field) × (word ≡ decimal n) = number_reported (most_of field) n word f in (n, fits_bytes field n t.0, e, t.1)

key_reported_in : (b : Bool) (word : List ℕ) → key_fits (if b then Some word else None) ≡ true → (b ≡ true) × ((key : Key) × FitsKey key × (word ≡ key_text key))
key_reported_in false word e = absurd (true≢false (sym e))
key_reported_in true word e = (refl, address_reported word e)

drop_more : (columns : ℕ) (label word : List ℕ) (more : List (List ℕ)) → drop (2 * suc columns) (label ∷ word ∷ more) ≡ drop (2 * columns) more
drop_more columns label word more = let two : 2 * suc columns ≡ suc (suc (2 * columns)) = omega arith in ap (λ k. drop k (label ∷ word ∷ more)) two

pub columns_reported : (grammar : Grammar) (boot behind : ℕ) (columns : List Column) (words : List (List ℕ)) → columns_fit grammar boot behind columns words ≡ true → (numbers : List ℕ) × IsRead grammar boot behind columns words numbers
columns_reported grammar boot behind [] words e = ([], record { fit = tt; ranged = refl; words_are = refl })
columns_reported grammar boot behind (KeyColumn ∷ columns) [] e = absurd (true≢false (sym e))
columns_reported grammar boot behind (KeyColumn ∷ columns) (label ∷ []) e = absurd (true≢false (sym e))
columns_reported grammar boot behind (KeyColumn ∷ columns) (label ∷ word ∷ more) e =
    let first = key_reported_in (bytes_eq label (codes "key")) word (left_true (key_fits (if bytes_eq label (codes "key") then Some word else None)) _ e) in
    let others : (numbers : List ℕ) × IsRead grammar boot behind columns more numbers = columns_reported grammar boot behind columns more (right_true (key_fits (if bytes_eq label (codes "key") then Some word else None)) _ e) in
    let key : Key = first.1.0 in
    let ip : key.ip < 2 ^ 32 = first.1.1.0 in
    let port : key.port < 2 ^ 16 = first.1.1.1 in (
      key.ip ∷ key.port ∷ others.0,
      record {
        fit = (omega (arith, ip), (omega (arith, port), others.1.fit));
        ranged = others.1.ranged;
        words_are = ap₂ (λ x y. x ∷ y) (same_bytes label (codes "key") first.0) (ap₂ (λ x y. x ∷ y) first.1.2
            (others.1.words_are ∙ ap (λ t. column_words columns others.0 ++ t) (sym (drop_more (length columns) label word more))));
      },
    )
columns_reported grammar boot behind (NumberColumn name field ∷ columns) [] e = absurd (true≢false (sym e))
columns_reported grammar boot behind (NumberColumn name field ∷ columns) (label ∷ []) e = absurd (true≢false (sym e))
columns_reported grammar boot behind (NumberColumn name field ∷ columns) (label ∷ word ∷ more) e =
    let first = number_reported_in grammar boot behind field (bytes_eq label name) word (left_true (number_fits grammar boot behind field (if bytes_eq label name then Some word else None)) _ e) in
    let others : (numbers : List ℕ) × IsRead grammar boot behind columns more numbers =
    columns_reported grammar boot behind columns more (right_true (number_fits grammar boot behind field (if bytes_eq label name then Some word else None)) _ e) in (
      first.1.0 ∷ others.0,
      record {
        fit = (first.1.1, others.1.fit);
        ranged = both_true first.1.2 others.1.ranged;
        words_are = ap₂ (λ x y. x ∷ y) (same_bytes label name first.0) (ap₂ (λ x y. x ∷ y) first.1.3
            (others.1.words_are ∙ ap (λ t. column_words columns others.0 ++ t) (sym (drop_more (length columns) label word more))));
      },
    )

pub columns_shown : (grammar : Grammar) (boot behind : ℕ) (columns : List Column) (numbers : List ℕ) (tail : List (List ℕ)) → AllFit (column_fields columns) numbers
    → all_in_range_by grammar boot behind (column_fields columns) numbers ≡ true → columns_fit grammar boot behind columns (column_words columns numbers ++ tail) ≡ true
columns_shown grammar boot behind [] numbers tail fit ranged = refl
columns_shown grammar boot behind (KeyColumn ∷ columns) [] tail fit ranged = absurd fit
columns_shown grammar boot behind (KeyColumn ∷ columns) (ip ∷ []) tail fit ranged = absurd fit.1
columns_shown grammar boot behind (KeyColumn ∷ columns) (ip ∷ port ∷ numbers) tail fit ranged =
    let key : Key = record { ip = ip; port = port } in
    let fits : FitsKey key = (omega (arith, fit.0), omega (arith, fit.1.0)) in
    let named_key : key_fits (if bytes_eq (codes "key") (codes "key") then Some (address_text ip port) else None) ≡ true =
    ap (λ b. key_fits (if b then Some (address_text ip port) else None)) (bytes_same (codes "key")) ∙ address_shown key fits in
    both_true named_key (columns_shown grammar boot behind columns numbers tail fit.1.1 ranged)
columns_shown grammar boot behind (NumberColumn name field ∷ columns) [] tail fit ranged = absurd fit
columns_shown grammar boot behind (NumberColumn name field ∷ columns) (n ∷ numbers) tail fit ranged =
    let bounds : (n ≤ most_of field) × (n < 2 ^ 64) = most_fits field n fit.0 in
    let named_number : number_fits grammar boot behind field (if bytes_eq name name then Some (decimal n) else None) ≡ true =
    ap (λ b. number_fits grammar boot behind field (if b then Some (decimal n) else None)) (bytes_same name)
    ∙ (ap (in_field grammar boot behind field) (number_shown (most_of field) n bounds.0 bounds.1) ∙ left_true (is_in_range_by grammar boot behind field n) _ ranged) in
    both_true named_number (columns_shown grammar boot behind columns numbers tail fit.1 (right_true (is_in_range_by grammar boot behind field n) _ ranged))

-- what follows the columns
pub behind_columns : (columns : List Column) (numbers : List ℕ) (tail : List (List ℕ)) → AllFit (column_fields columns) numbers → drop (2 * length columns) (column_words columns numbers ++ tail) ≡ tail
behind_columns [] numbers tail fit = refl
behind_columns (KeyColumn ∷ columns) [] tail fit = absurd fit
behind_columns (KeyColumn ∷ columns) (ip ∷ []) tail fit = absurd fit.1
behind_columns (KeyColumn ∷ columns) (ip ∷ port ∷ numbers) tail fit =
    drop_more (length columns) (codes "key") (address_text ip port) (column_words columns numbers ++ tail) ∙ behind_columns columns numbers tail fit.1.1
behind_columns (NumberColumn name field ∷ columns) [] tail fit = absurd fit
behind_columns (NumberColumn name field ∷ columns) (n ∷ numbers) tail fit =
    drop_more (length columns) name (decimal n) (column_words columns numbers ++ tail) ∙ behind_columns columns numbers tail fit.1
