-- How a line is held and ends, over bytes in parts.
use Rattle.std.proofs.lemmas.List.Elements.{All-append, All-from_get_or}
use Rattle.std.proofs.Common.{◌≡◌, ℕ, suc, ◌+◌, ◌-◌, ◌<◌, ◌≤◌, ◌==◌, true, false, List, [], ◌∷◌, ◌++◌, length, take, drop, get_or, refl, sym, ◌∙◌, ap, subst, arith, append_assoc, append-nil, length-append, length-take}
use Rattle.std.specs.Prelude.{bytes_eq, nat_eq, nat_lt, decimal}
use Rattle.std.specs.List.{list_any}
use Rattle.std.proofs.lemmas.List.Folds.{list_any_none, list_any_at}
use Rattle.std.specs.Cmp.Lexicographic.{pointwise, same_text, other_text}
use Rattle.std.proofs.lemmas.Bool.{lt-ltb, false_from_ne_true}
use Rattle.std.proofs.lemmas.Bool.Decides.{nat_tests}
use Rattle.std.proofs.lemmas.List.{length-take-le, get_or-take, take_all, take_at, take-append-drop, drop_more, take_more}
use Rattle.sample_servers.specs.Stream.{waiting, and_then, each_byte}
use Rattle.sample_servers.specs.Line.{LineState, numbered, line_finished, line_byte, is_unfinished, NoFeed, EndsAt, StaysOpen}

-- a line of at most 1,024 bytes comes back whole
pub numbered_whole : (number : ℕ) (front back : List ℕ) → length front + length back ≤ 1024 → numbered number (front ++ back) ≡ decimal number ++ 32 ∷ (front ++ (back ++ 10 ∷ []))
unfolding numbered
numbered_whole number front back fits =
    let short : length (front ++ back) ≤ 1024 = rw length-append fits in
    rw (take_all 1024 (front ++ back) short) (simp append_assoc)

pub bytes_eq_front : (xs ys zs : List ℕ) → bytes_eq (xs ++ ys) (xs ++ zs) ≡ bytes_eq ys zs
bytes_eq_front [] ys zs = refl
bytes_eq_front (x ∷ xs) ys zs = let rest = bytes_eq_front xs ys zs in grind (arith, nat_tests)

-- where the front of a text is another, so is the text
pub bytes_eq_other_front : (text front back : List ℕ) → pointwise nat_eq (take (length front) text) front ≡ false → bytes_eq (front ++ back) text ≡ false
bytes_eq_other_front text front back other =
    false_from_ne_true (bytes_eq (front ++ back) text)
    (λ same. other_text _ _ (sym other) (ap (take (length front)) (sym (same_text _ _ (sym same))) ∙ take_at front back (length front) refl))

-- a byte that is no line feed is held while there is room
pub line_byte_held : (finished : ℕ) (held : List ℕ) (byte : ℕ) → (byte == 10) ≡ false → length held + 1 < 1024 → line_byte (record { finished = finished; held = held }) byte ≡ waiting (record { finished = finished; held = held ++ byte ∷ [] })
line_byte_held finished held byte other room =
    let longer : length (held ++ byte ∷ []) < 1024 = rw length-append room in
    let fits : nat_lt (length (held ++ byte ∷ [])) 1024 ≡ true = lt-ltb (length (held ++ byte ∷ [])) 1024 longer in
    rw (other, fits) refl

-- and ends the line where there is room for no more
pub line_byte_last : (finished : ℕ) (held : List ℕ) (byte : ℕ) → (byte == 10) ≡ false → length held + 1 ≡ 1024 → line_byte (record { finished = finished; held = held }) byte ≡ line_finished finished (held ++ byte ∷ [])
line_byte_last finished held byte other full =
    let longer : length (held ++ byte ∷ []) ≡ 1024 = length-append held (byte ∷ []) ∙ full in
    rw (other, longer) refl

-- bytes without a line feed are held
pub each_byte_held : (finished : ℕ) (held xs rest : List ℕ) → ((k : ℕ) → k < length xs → (get_or xs k 0 == 10) ≡ false) → length held + length xs < 1024 → each_byte line_byte (record { finished = finished; held = held }) (xs ++ rest) ≡ each_byte line_byte (record { finished = finished; held = held ++ xs }) rest
each_byte_held finished held [] rest other room = rw append-nil refl
each_byte_held finished held (x ∷ xs) rest other room =
    let first = line_byte_held finished held x (other 0 (omega arith)) (omega arith) in
    let longer : length (held ++ x ∷ []) + length xs < 1024 = rw length-append (omega arith) in
    let later = each_byte_held finished (held ++ x ∷ []) xs rest (λ k below. other (suc k) (omega arith)) longer in
    rw first (later ∙ rw append_assoc refl)

-- a front of bytes without a line feed
pub other_taken : (len : ℕ) (bytes : List ℕ) → ((k : ℕ) → k < len → (get_or bytes k 0 == 10) ≡ false) → (k : ℕ) → k < length (take len bytes) → (get_or (take len bytes) k 0 == 10) ≡ false
other_taken len bytes other k below =
    let short : k < len = let e = length-take len bytes in omega arith in
    subst (λ (byte : ℕ). (byte == 10) ≡ false) (sym (get_or-take len bytes k 0 short)) (other k short)

-- a line feed ends the line
pub each_byte_feed : (s : LineState) (bytes : List ℕ) (len : ℕ) → length s.held + len < 1024 → len < length bytes → ((k : ℕ) → k < len → (get_or bytes k 0 == 10) ≡ false) → (get_or bytes len 0 == 10) ≡ true → each_byte line_byte s bytes ≡ and_then (line_finished s.finished (s.held ++ take len bytes)) (λ next. each_byte line_byte next (drop (len + 1) bytes))
each_byte_feed s bytes len room within other feed =
    let last = get_or bytes len 0 in
    let line = s.held ++ take len bytes in
    let more = λ (next : LineState). each_byte line_byte next (drop (len + 1) bytes) in
    let parts : bytes ≡ take len bytes ++ last ∷ drop (len + 1) bytes = sym (take-append-drop len bytes) ∙ ap (λ rest. take len bytes ++ rest) (drop_more bytes len 0 within) in
    let front : length (take len bytes) ≡ len = length-take-le len bytes (omega arith) in
    let ends : line_byte (record { finished = s.finished; held = line }) last ≡ line_finished s.finished line = rw feed refl in
    ap (each_byte line_byte s) parts
    ∙ each_byte_held s.finished s.held (take len bytes) (last ∷ drop (len + 1) bytes) (other_taken len bytes other) (omega arith)
    ∙ ap (λ served. and_then served more) ends

-- and so does the last byte for which there is room
pub each_byte_full : (s : LineState) (bytes : List ℕ) (len : ℕ) → length s.held + len + 1 ≡ 1024 → len < length bytes → ((k : ℕ) → k < len + 1 → (get_or bytes k 0 == 10) ≡ false) → each_byte line_byte s bytes ≡ and_then (line_finished s.finished (s.held ++ take (len + 1) bytes)) (λ next. each_byte line_byte next (drop (len + 1) bytes))
each_byte_full s bytes len full within other =
    let last = get_or bytes len 0 in
    let line = s.held ++ take len bytes in
    let more = λ (next : LineState). each_byte line_byte next (drop (len + 1) bytes) in
    let parts : bytes ≡ take len bytes ++ last ∷ drop (len + 1) bytes = sym (take-append-drop len bytes) ∙ ap (λ rest. take len bytes ++ rest) (drop_more bytes len 0 within) in
    let front : length (take len bytes) ≡ len = length-take-le len bytes (omega arith) in
    let whole : line ++ last ∷ [] ≡ s.held ++ take (len + 1) bytes = append_assoc s.held (take len bytes) (last ∷ []) ∙ ap (λ taken. s.held ++ taken) (sym (take_more bytes len 0 within)) in
    let length_line : length line + 1 ≡ 1024 = rw length-append (omega arith) in
    ap (each_byte line_byte s) parts
    ∙ each_byte_held s.finished s.held (take len bytes) (last ∷ drop (len + 1) bytes) (other_taken len bytes (λ k below. other k (omega arith))) (omega arith)
    ∙ ap (λ served. and_then served more) (line_byte_last s.finished line last (other len (omega arith)) length_line ∙ ap (line_finished s.finished) whole)

-- and fewer bytes are held
pub each_byte_open : (s : LineState) (bytes : List ℕ) → length s.held + length bytes < 1024 → ((k : ℕ) → k < length bytes → (get_or bytes k 0 == 10) ≡ false) → each_byte line_byte s bytes ≡ waiting (record { finished = s.finished; held = s.held ++ bytes })
each_byte_open s bytes room other = ap (each_byte line_byte s) (sym (append-nil bytes)) ∙ each_byte_held s.finished s.held bytes [] other room

-- no line feed in a front of bytes, as a search tells it
pub other_before : (n : ℕ) (bytes : List ℕ) (len : ℕ) → len ≤ n → ((k : ℕ) → 0 ≤ k → k < len → (get_or (take n bytes) k 0 == 10) ≡ true → ⊥) → (k : ℕ) → k < len → (get_or bytes k 0 == 10) ≡ false
other_before n bytes len within none k below =
    let short : k < n = omega arith in
    subst (λ (byte : ℕ). (byte == 10) ≡ false) (get_or-take n bytes k 0 short) (false_from_ne_true (get_or (take n bytes) k 0 == 10) (none k (omega arith) below))

pub ends_at_feed : (s : LineState) (bytes : List ℕ) (n len : ℕ) → length s.held + n ≤ 1024 → n ≤ length bytes → len < n → ((k : ℕ) → 0 ≤ k → k < len → (get_or (take n bytes) k 0 == 10) ≡ true → ⊥) → (get_or (take n bytes) len 0 == 10) ≡ true → EndsAt s bytes len (len + 1)
ends_at_feed s bytes n len room within below none feed = record {
  fits = omega arith;
  within = omega arith;
  some = omega arith;
  enough = omega arith;
  served = each_byte_feed s bytes len (omega arith) (omega arith) (other_before n bytes len (omega arith) none)
      (subst (λ (byte : ℕ). (byte == 10) ≡ true) (get_or-take n bytes len 0 below) feed);
}

pub ends_when_full : (s : LineState) (bytes : List ℕ) (n : ℕ) → length s.held < 1024 → length s.held + n ≡ 1024 → n ≤ length bytes → ((k : ℕ) → 0 ≤ k → k < n → (get_or (take n bytes) k 0 == 10) ≡ true → ⊥) → EndsAt s bytes n n
ends_when_full s bytes n room full within none =
    let one : n - 1 + 1 ≡ n = omega arith in
    record {
      fits = omega arith;
      within = omega arith;
      some = omega arith;
      enough = within;
      served = subst (λ (len : ℕ). each_byte line_byte s bytes ≡ and_then (line_finished s.finished (s.held ++ take len bytes)) (λ next. each_byte line_byte next (drop len bytes))) one
          (each_byte_full s bytes (n - 1) (omega arith) (omega arith) (λ k below. other_before n bytes n (omega arith) none k (omega arith)));
    }

pub stays_open : (s : LineState) (bytes : List ℕ) (n : ℕ) → length s.held + n < 1024 → n ≡ length bytes → ((k : ℕ) → 0 ≤ k → k < n → (get_or (take n bytes) k 0 == 10) ≡ true → ⊥) → StaysOpen s bytes
stays_open s bytes n room all none = record {
  fits = omega arith;
  no_feed = All-from_get_or (λ byte. (byte == 10) ≡ false) bytes 0 (λ k below. other_before n bytes n (omega arith) none k (omega arith));
  served = each_byte_open s bytes (omega arith) (λ k below. other_before n bytes n (omega arith) none k (omega arith));
}

pub no_feed_joined : (held bytes : List ℕ) → NoFeed held → NoFeed bytes → NoFeed (held ++ bytes)
no_feed_joined held bytes = All-append (λ byte. (byte == 10) ≡ false) held bytes

-- where a search finds no line feed there is none
pub none_fed : (bytes : List ℕ) → ((k : ℕ) → 0 ≤ k → k < length bytes → (get_or bytes k 0 == 10) ≡ true → ⊥) → list_any (λ byte. byte == 10) bytes ≡ false
none_fed bytes none =
    list_any_none (λ byte. byte == 10) bytes (All-from_get_or (λ byte. (byte == 10) ≡ false) bytes 0 (λ k below. false_from_ne_true (get_or bytes k 0 == 10) (none k (omega arith) below)))

-- and none is in an unfinished line
pub unfinished_no_feed : (line : List ℕ) → is_unfinished line ≡ true → NoFeed line
unfinished_no_feed line unfinished = λ k d below.
    false_from_ne_true (get_or line k d == 10) (λ feed. let found = list_any_at (λ (byte : ℕ). byte == 10) line k d below feed in grind arith)
