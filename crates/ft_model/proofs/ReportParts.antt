-- Each spelling of a report tells the value that it spells.
use Rattle.std.proofs.Common.{◌≡◌, ℕ, zero, suc, ◌<◌, ◌≤◌, ◌^◌, ◌/◌, ◌%◌, ◌*◌, ◌==◌, ◌≢◌, ◌⊎◌, Bool, true, false, if◌then◌else◌, Option, None, Some, List, [], ◌∷◌, ◌++◌, length, drop, decimal, map, sum_by, Ok, refl, inl, inr, sym, ◌∙◌, ap, arith, append_assoc, append-nil, mul-zero}
use Rattle.std.specs.List.{AllByRecursion, join_with_byte}
use Rattle.std.proofs.lemmas.Fmt.{decimal_injective, decimal_nonempty}
use Rattle.std.proofs.lemmas.List.{append_cancel_right}
use Rattle.std.proofs.lemmas.List.Sums.{sum_by-append}
use Rattle.hex.specs.Hex.{IsBytes, decode_of, encode_lower, encode_with}
use Rattle.hex.proofs.HexLemmas.{decode_of-encode_lower}
use Rattle.ft_model.specs.declared.way.Way.{Way}
use Rattle.ft_model.specs.declared.way.Way.TheVariants.{ClientToServer, ServerToClient, ServerToLogger, LoggerToServer, HeadToTail, TailToHead}
use Rattle.ft_model.specs.Texts.{or_dash, hex_text, list_text, behind_commas, address_text, flag_letters, flags_text, mss_text, bit_text, ending_text, way_text}
use Rattle.ft_model.specs.Readable.{FitsU64, FitsOption, FitsWay}
use Rattle.ft_model.proofs.ReportWords.{Starts, cut, IsDigit, digits_decimal}

-- a decimal is cut off from what follows it, if no digit does
pub decimal_cut : (m n : ℕ) (r s : List ℕ) → m < 2 ^ 64 → n < 2 ^ 64 → Starts (λ c. c < 48) r → Starts (λ c. c < 48) s
    → decimal m ++ r ≡ decimal n ++ s → (m ≡ n) × (r ≡ s)
decimal_cut m n r s p q rs ss e =
    let same : (decimal m ≡ decimal n) × (r ≡ s) =
    cut IsDigit (λ c. c < 48) (λ c digit mark. omega arith) (decimal m) (decimal n) r s (digits_decimal m p) (digits_decimal n q) rs ss e in
    (decimal_injective m n p q same.0, same.1)

-- a text that begins with a digit begins with nothing else
digits_begin : (c : ℕ) (t d r : List ℕ) → (c < 48) ⊎ (57 < c) → AllByRecursion IsDigit d → 0 < length d → c ∷ t ≡ d ++ r → ⊥
digits_begin c t [] r other digits some e = omega arith
digits_begin c t (x ∷ d) r other digits some e = let f : c ≡ x = cc in let low : 48 ≤ x = digits.0.0 in let high : x ≤ 57 = digits.0.1 in omega (arith, f)

pub decimal_begin : (c n : ℕ) (t r : List ℕ) → (c < 48) ⊎ (57 < c) → n < 2 ^ 64 → c ∷ t ≡ decimal n ++ r → ⊥
decimal_begin c n t r other below e = digits_begin c t (decimal n) r other (digits_decimal n below) (decimal_nonempty n below) e

pub or_dash_cons : (x : ℕ) (t : List ℕ) → or_dash (x ∷ t) ≡ x ∷ t
or_dash_cons x t = grind arith

hex_text_cons : (x : ℕ) (xs : List ℕ) → hex_text (x ∷ xs) ≡ encode_lower (x ∷ xs)
unfolding hex_text encode_with
hex_text_cons x xs = or_dash_cons _ _

pub hex_same : (xs ys : List ℕ) → IsBytes xs → IsBytes ys → hex_text xs ≡ hex_text ys → xs ≡ ys
unfolding hex_text encode_with
hex_same [] [] p q e = refl
hex_same [] (y ∷ ys) p q e = let f : hex_text [] ≡ encode_lower (y ∷ ys) = e ∙ hex_text_cons y ys in let g : [] ≡ drop 1 (encode_lower (y ∷ ys)) = ap (drop 1) f in cc
hex_same (x ∷ xs) [] p q e = let f : encode_lower (x ∷ xs) ≡ hex_text [] = sym (hex_text_cons x xs) ∙ e in let g : drop 1 (encode_lower (x ∷ xs)) ≡ [] = ap (drop 1) f in cc
hex_same (x ∷ xs) (y ∷ ys) p q e =
    let f : encode_lower (x ∷ xs) ≡ encode_lower (y ∷ ys) = sym (hex_text_cons x xs) ∙ e ∙ hex_text_cons y ys in
    let same : Ok (x ∷ xs) ≡ Ok (y ∷ ys) = sym (decode_of-encode_lower (x ∷ xs) p) ∙ ap decode_of f ∙ decode_of-encode_lower (y ∷ ys) q in cc

-- numbers joined by commas are the first one, and each other one after a comma
pub joined_behind : (x : ℕ) (xs : List ℕ) → join_with_byte 44 (map decimal (x ∷ xs)) ≡ decimal x ++ behind_commas xs
joined_behind x [] = sym (append-nil (decimal x))
joined_behind x (y ∷ ys) = ap (λ t. decimal x ++ 44 ∷ t) (joined_behind y ys)

starts_behind : (xs : List ℕ) → Starts (λ c. c < 48) (behind_commas xs)
starts_behind [] = tt
starts_behind (x ∷ xs) = omega arith

behind_same : (xs ys : List ℕ) → AllByRecursion FitsU64 xs → AllByRecursion FitsU64 ys → behind_commas xs ≡ behind_commas ys → xs ≡ ys
behind_same [] [] p q e = refl
behind_same [] (y ∷ ys) p q e = cc
behind_same (x ∷ xs) [] p q e = cc
behind_same (x ∷ xs) (y ∷ ys) p q e =
    let same : (x ≡ y) × (behind_commas xs ≡ behind_commas ys) = decimal_cut x y _ _ p.0 q.0 (starts_behind xs) (starts_behind ys) (cc) in
    let first : x ≡ y = same.0 in
    let others : xs ≡ ys = behind_same xs ys p.1 q.1 same.1 in cc

or_dash_some : (d r : List ℕ) → 0 < length d → or_dash (d ++ r) ≡ d ++ r
or_dash_some [] r some = absurd (omega arith)
or_dash_some (x ∷ d) r some = or_dash_cons x (d ++ r)

pub list_text_cons : (x : ℕ) (xs : List ℕ) → FitsU64 x → list_text (x ∷ xs) ≡ decimal x ++ behind_commas xs
unfolding list_text
list_text_cons x xs below = ap or_dash (joined_behind x xs) ∙ or_dash_some (decimal x) (behind_commas xs) (decimal_nonempty x below)

pub list_text_nil : list_text [] ≡ 45 ∷ []
unfolding list_text
list_text_nil = refl

pub list_same : (xs ys : List ℕ) → AllByRecursion FitsU64 xs → AllByRecursion FitsU64 ys → list_text xs ≡ list_text ys → xs ≡ ys
list_same [] [] p q e = refl
list_same [] (y ∷ ys) p q e =
    absurd (decimal_begin 45 y [] (behind_commas ys) (inl (omega arith)) q.0 (sym list_text_nil ∙ e ∙ list_text_cons y ys q.0))
list_same (x ∷ xs) [] p q e =
    absurd (decimal_begin 45 x [] (behind_commas xs) (inl (omega arith)) p.0 (sym list_text_nil ∙ sym e ∙ list_text_cons x xs p.0))
list_same (x ∷ xs) (y ∷ ys) p q e =
    let same : (x ≡ y) × (behind_commas xs ≡ behind_commas ys) =
    decimal_cut x y _ _ p.0 q.0 (starts_behind xs) (starts_behind ys) (sym (list_text_cons x xs p.0) ∙ e ∙ list_text_cons y ys q.0) in
    let first : x ≡ y = same.0 in
    let others : xs ≡ ys = behind_same xs ys p.1 q.1 same.1 in cc

pub mss_same : (m n : Option ℕ) → FitsOption m → FitsOption n → mss_text m ≡ mss_text n → m ≡ n
unfolding mss_text
mss_same None None p q e = refl
mss_same None (Some n) p q e = absurd (decimal_begin 45 n [] [] (inl (omega arith)) q (e ∙ sym (append-nil (decimal n))))
mss_same (Some m) None p q e = absurd (decimal_begin 45 m [] [] (inl (omega arith)) p (sym e ∙ sym (append-nil (decimal m))))
mss_same (Some m) (Some n) p q e = ap Some (decimal_injective m n p q e)

pub bit_same : (b c : Bool) → bit_text b ≡ bit_text c → b ≡ c
unfolding bit_text
bit_same true true e = refl
bit_same true false e = absurd (let f : ◌≡◌ {A = ℕ} 49 48 = cc in omega (arith, f))
bit_same false true e = absurd (let f : ◌≡◌ {A = ℕ} 48 49 = cc in omega (arith, f))
bit_same false false e = refl

pub ending_same : (b m c n : Bool) → ending_text b m ≡ ending_text c n → (b ≡ c) × (m ≡ n)
unfolding ending_text bit_text
ending_same false false false false e = (refl, refl)
ending_same true false true false e = (refl, refl)
ending_same false true false true e = (refl, refl)
ending_same true true true true e = (refl, refl)
ending_same false false true false e = absurd (let f : ◌≡◌ {A = ℕ} 48 49 = cc in omega (arith, f))
ending_same false false false true e = absurd (let f : ◌≡◌ {A = ℕ} 48 50 = cc in omega (arith, f))
ending_same false false true true e = absurd (let f : ◌≡◌ {A = ℕ} 48 51 = cc in omega (arith, f))
ending_same true false false false e = absurd (let f : ◌≡◌ {A = ℕ} 49 48 = cc in omega (arith, f))
ending_same true false false true e = absurd (let f : ◌≡◌ {A = ℕ} 49 50 = cc in omega (arith, f))
ending_same true false true true e = absurd (let f : ◌≡◌ {A = ℕ} 49 51 = cc in omega (arith, f))
ending_same false true false false e = absurd (let f : ◌≡◌ {A = ℕ} 50 48 = cc in omega (arith, f))
ending_same false true true false e = absurd (let f : ◌≡◌ {A = ℕ} 50 49 = cc in omega (arith, f))
ending_same false true true true e = absurd (let f : ◌≡◌ {A = ℕ} 50 51 = cc in omega (arith, f))
ending_same true true false false e = absurd (let f : ◌≡◌ {A = ℕ} 51 48 = cc in omega (arith, f))
ending_same true true true false e = absurd (let f : ◌≡◌ {A = ℕ} 51 49 = cc in omega (arith, f))
ending_same true true false true e = absurd (let f : ◌≡◌ {A = ℕ} 51 50 = cc in omega (arith, f))

-- a number before a dot, and one before a colon
dot_cut : (m n : ℕ) (r s : List ℕ) → m < 2 ^ 64 → n < 2 ^ 64 → decimal m ++ 46 ∷ r ≡ decimal n ++ 46 ∷ s → (m ≡ n) × (r ≡ s)
dot_cut m n r s p q e =
    let same : (m ≡ n) × (46 ∷ r ≡ 46 ∷ s) = decimal_cut m n (46 ∷ r) (46 ∷ s) p q (omega arith) (omega arith) e in
    let behind : 46 ∷ r ≡ 46 ∷ s = same.1 in (same.0, cc)

colon_cut : (m n port door : ℕ) → m < 2 ^ 64 → n < 2 ^ 64 → port < 2 ^ 64 → door < 2 ^ 64 → decimal m ++ 58 ∷ decimal port ≡ decimal n ++ 58 ∷ decimal door
    → (m ≡ n) × (port ≡ door)
colon_cut m n port door p q r s e =
    let same : (decimal m ≡ decimal n) × (58 ∷ decimal port ≡ 58 ∷ decimal door) =
    cut IsDigit (λ c. 57 < c) (λ c digit mark. omega arith) (decimal m) (decimal n) _ _ (digits_decimal m p) (digits_decimal n q) (omega arith) (omega arith) e in
    let behind : 58 ∷ decimal port ≡ 58 ∷ decimal door = same.1 in
    (decimal_injective m n p q same.0, decimal_injective port door r s (cc))

apart_bytes : (c d : ℕ) (s t : List ℕ) → c ≢ d → c ∷ s ≡ d ∷ t → ⊥
apart_bytes c d s t apart e = apart (cc)

pub address_same : (ip other port door : ℕ) → ip < 2 ^ 32 → other < 2 ^ 32 → port < 2 ^ 16 → door < 2 ^ 16
    → address_text ip port ≡ address_text other door → (ip ≡ other) × (port ≡ door)
unfolding address_text
address_same ip other port door p q r s e =
    let parts : decimal (ip / 2 ^ 24) ++ 46 ∷ (decimal (ip / 2 ^ 16 % 256) ++ 46 ∷ (decimal (ip / 2 ^ 8 % 256) ++ 46 ∷ (decimal (ip % 256) ++ 58 ∷ decimal port)))
    ≡ decimal (other / 2 ^ 24) ++ 46 ∷ (decimal (other / 2 ^ 16 % 256) ++ 46 ∷ (decimal (other / 2 ^ 8 % 256) ++ 46 ∷ (decimal (other % 256) ++ 58 ∷ decimal door)))
    = simp append_assoc at e in
    let one = dot_cut (ip / 2 ^ 24) (other / 2 ^ 24) _ _ (omega arith) (omega arith) parts in
    let two = dot_cut (ip / 2 ^ 16 % 256) (other / 2 ^ 16 % 256) _ _ (omega arith) (omega arith) one.1 in
    let three = dot_cut (ip / 2 ^ 8 % 256) (other / 2 ^ 8 % 256) _ _ (omega arith) (omega arith) two.1 in
    let four = colon_cut (ip % 256) (other % 256) port door (omega arith) (omega arith) (omega arith) (omega arith) three.1 in
    let a : ip / 2 ^ 24 ≡ other / 2 ^ 24 = one.0 in
    let b : ip / 2 ^ 16 % 256 ≡ other / 2 ^ 16 % 256 = two.0 in
    let c : ip / 2 ^ 8 % 256 ≡ other / 2 ^ 8 % 256 = three.0 in
    let d : ip % 256 ≡ other % 256 = four.0 in
    (omega arith, four.1)

-- the bit that each letter stands for
abbrev weight : ℕ → ℕ
weight c = if c == 67 then 128 else if c == 69 then 64 else if c == 85 then 32 else if c == 65 then 16 else if c == 80 then 8 else if c == 82 then 4
    else if c == 83 then 2 else if c == 70 then 1 else 0

weight_of_bit : (c r : ℕ) → r < 2 → sum_by weight (if r == 1 then c ∷ [] else []) ≡ weight c * r
weight_of_bit c zero h = sym (mul-zero (weight c))
weight_of_bit c (suc zero) h = omega arith
weight_of_bit c (suc (suc r)) h = absurd (omega arith)

-- the letters tell the flags
weight_of_letters : (flags : ℕ) → flags < 256 → sum_by weight (flag_letters flags) ≡ flags
weight_of_letters flags h =
    simp sum_by-append
    (omega (
      arith,
      weight_of_bit 67 (flags / 128 % 2) (omega arith),
      weight_of_bit 69 (flags / 64 % 2) (omega arith),
      weight_of_bit 85 (flags / 32 % 2) (omega arith),
      weight_of_bit 65 (flags / 16 % 2) (omega arith),
      weight_of_bit 80 (flags / 8 % 2) (omega arith),
      weight_of_bit 82 (flags / 4 % 2) (omega arith),
      weight_of_bit 83 (flags / 2 % 2) (omega arith),
      weight_of_bit 70 (flags / 1 % 2) (omega arith),
    ))

weight_of_dash : (t : List ℕ) → sum_by weight (or_dash t) ≡ sum_by weight t
weight_of_dash [] = refl
weight_of_dash (x ∷ t) = ap (sum_by weight) (or_dash_cons x t)

flags_reported : (flags : ℕ) → flags < 256 → sum_by weight (flags_text flags) ≡ flags
unfolding flags_text
flags_reported flags h = weight_of_dash (flag_letters flags) ∙ weight_of_letters flags h

pub flags_same : (m n : ℕ) → m < 256 → n < 256 → flags_text m ≡ flags_text n → m ≡ n
flags_same m n p q e = sym (flags_reported m p) ∙ ap (sum_by weight) e ∙ flags_reported n q

first_letter : List ℕ → ℕ
first_letter [] = 0
first_letter (c ∷ text) = c

pub way_same : (v w : Way) → FitsWay v → FitsWay w → way_text v ≡ way_text w → v ≡ w
unfolding way_text first_letter
way_same (ClientToServer m) (ClientToServer n) p q e = ap ClientToServer (decimal_injective m n p q (append_cancel_right _ _ _ e))
way_same (ClientToServer m) (ServerToClient n) p q e = absurd (decimal_begin 83 m _ _ (inr (omega arith)) p (sym e))
way_same (ClientToServer m) ServerToLogger p q e = absurd (decimal_begin 83 m _ _ (inr (omega arith)) p (sym e))
way_same (ClientToServer m) LoggerToServer p q e = absurd (decimal_begin 76 m _ _ (inr (omega arith)) p (sym e))
way_same (ClientToServer m) HeadToTail p q e = absurd (decimal_begin 72 m _ _ (inr (omega arith)) p (sym e))
way_same (ClientToServer m) TailToHead p q e = absurd (decimal_begin 84 m _ _ (inr (omega arith)) p (sym e))
way_same (ServerToClient m) (ClientToServer n) p q e = absurd (decimal_begin 83 n _ _ (inr (omega arith)) q e)
way_same (ServerToClient m) (ServerToClient n) p q e = ap ServerToClient (decimal_injective m n p q (cc))
way_same (ServerToClient m) ServerToLogger p q e = absurd (decimal_begin 76 m [] [] (inr (omega arith)) p (ap (drop 2) (sym e) ∙ sym (append-nil (decimal m))))
way_same ServerToLogger (ClientToServer n) p q e = absurd (decimal_begin 83 n _ _ (inr (omega arith)) q e)
way_same ServerToLogger (ServerToClient n) p q e = absurd (decimal_begin 76 n [] [] (inr (omega arith)) q (ap (drop 2) e ∙ sym (append-nil (decimal n))))
way_same ServerToLogger ServerToLogger p q e = refl
way_same LoggerToServer (ClientToServer n) p q e = absurd (decimal_begin 76 n _ _ (inr (omega arith)) q e)
way_same LoggerToServer LoggerToServer p q e = refl
way_same HeadToTail (ClientToServer n) p q e = absurd (decimal_begin 72 n _ _ (inr (omega arith)) q e)
way_same HeadToTail HeadToTail p q e = refl
way_same TailToHead (ClientToServer n) p q e = absurd (decimal_begin 84 n _ _ (inr (omega arith)) q e)
way_same TailToHead TailToHead p q e = refl
way_same v w p q e = absurd (omega (arith, ap first_letter e))
