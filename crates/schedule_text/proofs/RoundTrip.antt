-- The line by which a schedule asks for an event is read as that event: its words are cut apart again, and each number is read back.
use Rattle.std.proofs.Common.{◌≡◌, ℕ, ◌<◌, ◌≤◌, ◌-◌, ◌^◌, true, false, List, [], ◌∷◌, ◌++◌, codes, decimal, length, refl, ap, ◌∙◌, arith, append_assoc, append-nil}
use Rattle.std.specs.Prelude.{nat_le, nat_lt, ◌&&◌, Some, Ok, All}
use Rattle.std.specs.Char.{is_ascii_digit}
use Rattle.std.specs.Cmp.Derive.{both_true}
use Rattle.std.specs.List.{AllByRecursion, join_with_byte, list_all}
use Rattle.std.specs.Str.Parse.{digits_value}
use Rattle.std.proofs.lemmas.Bool.{le-leb, leb-true, ltb-true, ne_eqb}
use Rattle.std.proofs.lemmas.Fmt.{decimal_is_IsNumeral, decimal_nonempty, length-decimal-le}
use Rattle.std.proofs.lemmas.List.Elements.{All-nil, All-cons}
use Rattle.std.proofs.lemmas.List.Folds.{list_all-append}
use Rattle.std.proofs.lemmas.List.Splits.{slice_split_none, slice_split_at}
use Rattle.ft_model.specs.Grammar.{keyword_of, verb_of, boot_line, bare_line, deliver_line, flip_line, client_and_window, send_line, client_alone, stop_line, is_misnamed, is_printable, line_behind, line_of}
use Rattle.ft_model.specs.Grammar as grammar
use Rattle.ft_model.specs.Report.{event_line}
use Rattle.ft_model.specs.Spelling.{numeral, number_of}
use Rattle.ft_model.specs.Texts.{line as line_with, spaced}
use Rattle.ft_model.specs.Words.{is, words_of}
use Rattle.ft_model.specs.declared.event.Event.{Event}
use Rattle.ft_model.specs.declared.event.Event.TheVariants.{Boot, Crash, Tick, Deliver, Flip, Begin, Send, Fin, Ack, Reset, Stop}
use Rattle.ft_model.specs.declared.line.Draft.TheVariants.{Begun}
use Rattle.ft_model.specs.declared.line.Keyword.TheVariants as keyword
use Rattle.ft_model.specs.declared.line.Line.TheVariants as line
use Rattle.ft_model.specs.declared.line.Verb.{Verb}
use Rattle.ft_model.specs.declared.line.Verb.TheVariants as verb
use Rattle.ft_model.specs.declared.schedule.Schedule.{Schedule}
use Rattle.ft_model.proofs.ReportWords.{IsDigit, all_weaken, digits_decimal}
use Rattle.schedule_text.specs.EventLines.{IsAskable, asked_line}
use Rattle.ft_io.proofs.Booleans.{left_true, right_true}

-- a printable character that is no space
abbrev IsPlain : ℕ → Type 0
IsPlain c = (33 ≤ c) × (c ≤ 126)

abbrev IsPlainWord : List ℕ → Type 0
IsPlainWord word = (0 < length word) × AllByRecursion IsPlain word

no_space : (word : List ℕ) → AllByRecursion IsPlain word → All (λ c. is 32 c ≡ false) word
no_space [] h = All-nil (λ c. is 32 c ≡ false)
no_space (c ∷ word) h = All-cons (λ c. is 32 c ≡ false) c word (ne_eqb c 32 (λ e. omega (arith, e, h.0.0))) (no_space word h.1)

-- a word alone, and a word with a space after it
one_word : (word : List ℕ) → IsPlainWord word → words_of word ≡ word ∷ []
unfolding words_of
one_word [] h = absurd (omega (arith, h.0))
one_word (c ∷ word) h = rw (slice_split_none (is 32) (c ∷ word) (no_space (c ∷ word) h.1)) refl

first_word : (word more : List ℕ) → IsPlainWord word → words_of (word ++ 32 ∷ more) ≡ word ∷ words_of more
unfolding words_of
first_word [] more h = absurd (omega (arith, h.0))
first_word (c ∷ word) more h = rw (slice_split_at (is 32) (c ∷ word) 32 more (no_space (c ∷ word) h.1) refl) refl

-- joined words are cut apart again
words_of_joined : (words : List (List ℕ)) → AllByRecursion IsPlainWord words → words_of (join_with_byte 32 words) ≡ words
unfolding words_of
words_of_joined [] h = refl
words_of_joined (w ∷ []) h = one_word w h.0
words_of_joined (w ∷ v ∷ words) h = first_word w (join_with_byte 32 (v ∷ words)) h.0 ∙ ap (λ vs. w ∷ vs) (words_of_joined (v ∷ words) h.1)

printable_word : (word : List ℕ) → AllByRecursion IsPlain word → is_printable word ≡ true
unfolding is_printable
printable_word [] h = refl
printable_word (c ∷ word) h = both_true (both_true (le-leb 32 c (omega (arith, h.0.0))) (le-leb c 126 h.0.1)) (printable_word word h.1)

printable_append : (xs ys : List ℕ) → is_printable xs ≡ true → is_printable ys ≡ true → is_printable (xs ++ ys) ≡ true
unfolding is_printable
printable_append xs ys p q = list_all-append (λ byte. nat_le 32 byte && nat_le byte 126) xs ys ∙ both_true p q

printable_behind_space : (xs : List ℕ) → is_printable xs ≡ true → is_printable (32 ∷ xs) ≡ true
unfolding is_printable
printable_behind_space xs p = p

printable_joined : (words : List (List ℕ)) → AllByRecursion IsPlainWord words → is_printable (join_with_byte 32 words) ≡ true
printable_joined [] h = printable_word [] tt
printable_joined (w ∷ []) h = printable_word w h.0.1
printable_joined (w ∷ v ∷ words) h =
    printable_append w (32 ∷ join_with_byte 32 (v ∷ words)) (printable_word w h.0.1)
    (printable_behind_space (join_with_byte 32 (v ∷ words)) (printable_joined (v ∷ words) h.1))

-- a literal word, by a test that computes
plain : (word : List ℕ) → list_all (λ c. nat_le 33 c && nat_le c 126) word ≡ true → AllByRecursion IsPlain word
plain [] e = tt
plain (c ∷ word) e =
    let here = left_true (nat_le 33 c && nat_le c 126) _ e in
    ((leb-true 33 c (left_true _ _ here), leb-true c 126 (right_true _ _ here)), plain word (right_true _ _ e))

lit : (word : List ℕ) → (nat_lt 0 (length word) && list_all (λ c. nat_le 33 c && nat_le c 126) word) ≡ true → IsPlainWord word
lit word e = (ltb-true 0 (length word) (left_true _ _ e), plain word (right_true _ _ e))

-- a number as a word
numbered : (n : ℕ) → n < 2 ^ 64 → IsPlainWord (decimal n)
numbered n fits = (decimal_nonempty n fits, all_weaken IsDigit IsPlain (λ c d. (omega (arith, d.0), omega (arith, d.1))) (decimal n) (digits_decimal n fits))

pub digits_of : (ds : List ℕ) → AllByRecursion IsDigit ds → list_all is_ascii_digit ds ≡ true
digits_of [] h = refl
digits_of (d ∷ ds) h = both_true (both_true (le-leb 48 d h.0.0) (le-leb d 57 h.0.1)) (digits_of ds h.1)

-- a number in its range is read back
number_read : (least most n : ℕ) → least ≤ n → n ≤ most → n < 2 ^ 64 → grammar.number least most (decimal n) ≡ Ok n
unfolding number_of numeral
number_read least most n low high fits =
    let some : nat_le 1 (length (decimal n)) ≡ true = le-leb 1 (length (decimal n)) (omega (arith, decimal_nonempty n fits)) in
    let few : nat_le (length (decimal n)) 20 ≡ true = le-leb (length (decimal n)) 20 (length-decimal-le 20 n (omega arith) (omega (arith, fits)) fits) in
    let digits : list_all is_ascii_digit (decimal n) ≡ true = digits_of (decimal n) (digits_decimal n fits) in
    let value : digits_value 10 (decimal n) ≡ n = (decimal_is_IsNumeral n fits).1 in
    let above : nat_le least n ≡ true = le-leb least n low in
    let below : nat_le n most ≡ true = le-leb n most high in
    rw (some, few, digits, value, above, below) refl

-- a line of printable words whose first is a verb
by_words : (schedule : Schedule) (word : List ℕ) (words : List (List ℕ)) (v : Verb) (e : Event) → AllByRecursion IsPlainWord (word ∷ words)
    → keyword_of word ≡ Some (keyword.Event v) → grammar.event_line v words ≡ Ok e → line_of (Begun schedule) (join_with_byte 32 (word ∷ words)) ≡ Ok (line.Event e)
unfolding line_of line_behind is_misnamed
by_words schedule word words v e plain_words announced said =
    rw (printable_joined (word ∷ words) plain_words, words_of_joined (word ∷ words) plain_words, announced, said) refl

client_read : (n : ℕ) → 1 ≤ n → n ≤ 16 → grammar.client_number (decimal n) ≡ Ok n
client_read n low high = number_read 1 16 n low high (omega (arith, high))

packet_read : (n : ℕ) → 1 ≤ n → n < 2 ^ 32 → grammar.packet_number (decimal n) ≡ Ok n
packet_read n low high = number_read 1 (2 ^ 32 - 1) n low (omega (arith, high)) (omega (arith, high))

long_read : (n : ℕ) → n < 2 ^ 32 → grammar.long_number (decimal n) ≡ Ok n
long_read n high = number_read 0 (2 ^ 32 - 1) n (omega arith) (omega (arith, high)) (omega (arith, high))

window_read : (n : ℕ) → n < 2 ^ 16 → grammar.window (decimal n) ≡ Ok n
window_read n high = number_read 0 65535 n (omega arith) (omega (arith, high)) (omega (arith, high))

boot_read : (boot isn : ℕ) → 1 ≤ boot → boot < 2 ^ 64 → isn < 2 ^ 32 → boot_line (decimal boot ∷ decimal isn ∷ []) ≡ Ok (Boot boot isn)
unfolding boot_line
boot_read boot isn low high fits = rw (number_read 1 (2 ^ 64 - 1) boot low (omega (arith, high)) high, long_read isn fits) refl

deliver_read : (packet : ℕ) → 1 ≤ packet → packet < 2 ^ 32 → deliver_line (decimal packet ∷ []) ≡ Ok (Deliver packet)
unfolding deliver_line
deliver_read packet low high = rw (packet_read packet low high) refl

flip_read : (packet bit : ℕ) → 1 ≤ packet → packet < 2 ^ 32 → bit < 2 ^ 32 → flip_line (decimal packet ∷ decimal bit ∷ []) ≡ Ok (Flip packet bit)
unfolding flip_line
flip_read packet bit low high fits = rw (packet_read packet low high, long_read bit fits) refl

windowed_read : (client window : ℕ) → 1 ≤ client → client ≤ 16 → window < 2 ^ 16 → client_and_window (decimal client ∷ decimal window ∷ []) ≡ Ok (client, window)
unfolding client_and_window
windowed_read client window low high fits = rw (client_read client low high, window_read window fits) refl

send_read : (client from len : ℕ) → 1 ≤ client → client ≤ 16 → from < 2 ^ 32 → len < 2 ^ 32 → send_line (decimal client ∷ decimal from ∷ decimal len ∷ []) ≡ Ok (Send client from len)
unfolding send_line
send_read client from len low high f l = rw (client_read client low high, long_read from f, long_read len l) refl

alone_read : (client : ℕ) → 1 ≤ client → client ≤ 16 → client_alone (decimal client ∷ []) ≡ Ok client
unfolding client_alone
alone_read client low high = client_read client low high

stop_read : (part : ℕ) → 1 ≤ part → part ≤ 2 → stop_line (decimal part ∷ []) ≡ Ok (Stop part)
unfolding stop_line
stop_read part low high = rw (number_read 1 2 part low high (omega (arith, high))) refl

pub read_back : (schedule : Schedule) (e : Event) → IsAskable e → line_of (Begun schedule) (asked_line e) ≡ Ok (line.Event e)
unfolding keyword_of verb_of bare_line
read_back s (Boot boot isn) h =
    by_words s (codes "boot") (decimal boot ∷ decimal isn ∷ []) verb.Boot (Boot boot isn)
    (lit (codes "boot") refl, (numbered boot h.1, (numbered isn (omega (arith, h.2)), tt))) refl (boot_read boot isn h.0 h.1 h.2)
read_back s Crash h = by_words s (codes "crash") [] verb.Crash Crash (lit (codes "crash") refl, tt) refl refl
read_back s Tick h = by_words s (codes "tick") [] verb.Tick Tick (lit (codes "tick") refl, tt) refl refl
read_back s (Deliver packet) h =
    by_words s (codes "deliver") (decimal packet ∷ []) verb.Deliver (Deliver packet)
    (lit (codes "deliver") refl, (numbered packet (omega (arith, h.1)), tt)) refl (deliver_read packet h.0 h.1)
read_back s (Flip packet bit) h =
    by_words s (codes "flip") (decimal packet ∷ decimal bit ∷ []) verb.Flip (Flip packet bit)
    (lit (codes "flip") refl, (numbered packet (omega (arith, h.0.1)), (numbered bit (omega (arith, h.1)), tt))) refl (flip_read packet bit h.0.0 h.0.1 h.1)
read_back s (Begin client window) h =
    by_words s (codes "open") (decimal client ∷ decimal window ∷ []) verb.Open (Begin client window)
    (lit (codes "open") refl, (numbered client (omega (arith, h.0.1)), (numbered window (omega (arith, h.1)), tt))) refl
    (rw (windowed_read client window h.0.0 h.0.1 h.1) refl)
read_back s (Send client from len) h =
    by_words s (codes "send") (decimal client ∷ decimal from ∷ decimal len ∷ []) verb.Send (Send client from len)
    (lit (codes "send") refl, (numbered client (omega (arith, h.0.1)), (numbered from (omega (arith, h.1)), (numbered len (omega (arith, h.2)), tt)))) refl
    (send_read client from len h.0.0 h.0.1 h.1 h.2)
read_back s (Fin client) h =
    by_words s (codes "fin") (decimal client ∷ []) verb.Fin (Fin client)
    (lit (codes "fin") refl, (numbered client (omega (arith, h.1)), tt)) refl (rw (alone_read client h.0 h.1) refl)
read_back s (Ack client window) h =
    by_words s (codes "ack") (decimal client ∷ decimal window ∷ []) verb.Ack (Ack client window)
    (lit (codes "ack") refl, (numbered client (omega (arith, h.0.1)), (numbered window (omega (arith, h.1)), tt))) refl
    (rw (windowed_read client window h.0.0 h.0.1 h.1) refl)
read_back s (Reset client) h =
    by_words s (codes "reset") (decimal client ∷ []) verb.Reset (Reset client)
    (lit (codes "reset") refl, (numbered client (omega (arith, h.1)), tt)) refl (rw (alone_read client h.0 h.1) refl)
read_back s (Stop part) h =
    by_words s (codes "stop") (decimal part ∷ []) verb.Stop (Stop part)
    (lit (codes "stop") refl, (numbered part (omega (arith, h.1)), tt)) refl (stop_read part h.0 h.1)

-- the words of a line, each after a space, are a space and the joined words
pub spaced_joined : (word : List ℕ) (words : List (List ℕ)) → spaced (word ∷ words) ≡ 32 ∷ join_with_byte 32 (word ∷ words)
spaced_joined word [] = ap (λ rest. 32 ∷ rest) (append-nil word)
spaced_joined word (v ∷ words) = ap (λ rest. 32 ∷ (word ++ rest)) (spaced_joined v words)

behind_number : (n : ℕ) (word : List ℕ) (words : List (List ℕ)) → line_with (codes "event") (decimal n ∷ word ∷ words) ≡ codes "event " ++ (decimal n ++ 32 ∷ (join_with_byte 32 (word ∷ words) ++ 10 ∷ []))
behind_number n word words =
    ap (λ rest. codes "event " ++ ((decimal n ++ rest) ++ 10 ∷ [])) (spaced_joined word words)
    ∙ ap (λ rest. codes "event " ++ rest) (append_assoc (decimal n) (32 ∷ join_with_byte 32 (word ∷ words)) (10 ∷ []))

pub asked_in_line : (n : ℕ) (e : Event) → event_line n e ≡ codes "event " ++ (decimal n ++ 32 ∷ (asked_line e ++ 10 ∷ []))
unfolding event_line
asked_in_line n (Boot boot isn) = behind_number n (codes "boot") (decimal boot ∷ decimal isn ∷ [])
asked_in_line n Crash = behind_number n (codes "crash") []
asked_in_line n Tick = behind_number n (codes "tick") []
asked_in_line n (Deliver packet) = behind_number n (codes "deliver") (decimal packet ∷ [])
asked_in_line n (Flip packet bit) = behind_number n (codes "flip") (decimal packet ∷ decimal bit ∷ [])
asked_in_line n (Begin client window) = behind_number n (codes "open") (decimal client ∷ decimal window ∷ [])
asked_in_line n (Send client from len) = behind_number n (codes "send") (decimal client ∷ decimal from ∷ decimal len ∷ [])
asked_in_line n (Fin client) = behind_number n (codes "fin") (decimal client ∷ [])
asked_in_line n (Ack client window) = behind_number n (codes "ack") (decimal client ∷ decimal window ∷ [])
asked_in_line n (Reset client) = behind_number n (codes "reset") (decimal client ∷ [])
asked_in_line n (Stop part) = behind_number n (codes "stop") (decimal part ∷ [])
