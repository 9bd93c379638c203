-- What `changes` says is so: where it is true the log after the message is another one, and where it is false nothing is changed.
use Rattle.std.proofs.Common.{◌≡◌, ◌∙◌, ◌⊎◌, ℕ, Bool, true, false, not, ◌||◌, ◌&&◌, refl, sym, ap, arith, List, [], ◌∷◌, ◌++◌, length, drop, ◌≤◌, ◌<◌, ◌+◌, ◌-◌, max, cond, Some, None, Option, option_map, find, is_some, nat_lt, nat_le, true≢false, if◌then◌else◌, inl, inr, append-nil}
use Rattle.std.specs.Prelude.{◌==◌}
use Rattle.std.specs.List.{IsDistinct, list_any}
use Rattle.std.specs.Map.{lookup, keys_of, values_of}
use Rattle.std.specs.Option.{option_map_or}
use Rattle.std.proofs.lemmas.Bool.{false≢true, ltb-true, ltb-false, leb-true, leb-false, eqb-true, lt-ltb, le-ltb, eq-eqb, ne_eqb, and_parts, and_from, or_parts, or_cases, or_left, or_right, or_from, and_right, not-true, not-false}
use Rattle.std.proofs.lemmas.List.{drop_all, length-append, length-drop}
use Rattle.std.proofs.lemmas.Map.Steps.{set_value_same}
use Rattle.ft_io.specs.declared.Key.{Key}
use Rattle.ft_io.specs.Key.{key_eq}
use Rattle.ft_io.proofs.Choices.{by_cases, same_some, if_false, holds_either_way, if_true}
use Rattle.seq_arith.specs.Message.{Message, Body, Part, Numbers, is_answer}
use Rattle.seq_arith.specs.Message.Body.{OpenMsg, DataMsg, ReadMsg, DoneMsg}
use Rattle.ft_model.specs.Log.{Log, Entry, log_after, with_message, with_body, with_entry, entry_of, opened, new_entry, with_bytes, with_its_fin, with_part, with_read, is_next_read, is_hello}
use Rattle.logger_store.specs.Changes.{part_changes, body_changes, changes}
use Rattle.logger_store.proofs.Entries.{AreKept, changed, none_changed, one_changed, log_of}

-- a part without news

fin_stays : (e : Entry) → e.fin ≡ true → record e { fin = true } ≡ e
fin_stays e f = ap (λ b. record e { fin = b }) (sym f)

bytes_stay : (part : Part) (e : Entry) → length part.bytes ≤ length e.bytes - part.offset → record e { bytes = e.bytes ++ drop (length e.bytes - part.offset) part.bytes } ≡ e
bytes_stay part e few =
    ap (λ xs. record e { bytes = e.bytes ++ xs }) (drop_all (length e.bytes - part.offset) part.bytes few) ∙ ap (λ xs. record e { bytes = xs }) (append-nil e.bytes)

abbrev acking : ℕ → Entry → Entry
acking n e = record e { acknowledged = n }

part_same : (part : Part) (e : Entry) → with_bytes part e ≡ e → with_its_fin part e ≡ e → max e.acknowledged part.acked ≡ e.acknowledged → with_part part e ≡ e
part_same part e bytes fin acked =
    ap (λ x. acking (max e.acknowledged part.acked) (with_its_fin part x)) bytes
    ∙ (ap (acking (max e.acknowledged part.acked)) fin ∙ ap (λ n. acking n e) acked)

fin_alone : (part : Part) (e : Entry) → (part.fin && part.offset + length part.bytes == length e.bytes) ≡ false → with_its_fin part e ≡ e
fin_alone part e none = if_false _ (record e { fin = true }) e none

pub and_rest : (x y : Bool) → x ≡ true → (x && y) ≡ false → y ≡ false
and_rest x y t none = sym (ap (λ b. b && y) t) ∙ none

-- its bytes and its FIN change nothing
nothing_new : (part : Part) (e : Entry)
    → (not e.fin && nat_le part.offset (length e.bytes) && (nat_lt (length e.bytes) (part.offset + length part.bytes) || (part.fin && part.offset + length part.bytes == length e.bytes))) ≡ false
    → (with_bytes part e ≡ e) × (with_its_fin part e ≡ e)
nothing_new part e none =
    by_cases e.fin
    (λ closed. (
      if_true (e.fin || nat_lt (length e.bytes) part.offset) e _ (or_left e.fin _ closed),
      holds_either_way (λ x. x ≡ e) (part.fin && part.offset + length part.bytes == length e.bytes) (record e { fin = true }) e (fin_stays e closed) refl,
    ))
    (λ proceeds. by_cases (nat_le part.offset (length e.bytes))
    (λ meets.
    let within : part.offset ≤ length e.bytes = leb-true part.offset (length e.bytes) meets in
    let both : (not e.fin && nat_le part.offset (length e.bytes)) ≡ true = and_from (not e.fin) _ (ap not proceeds) meets in
    let rest = or_parts (nat_lt (length e.bytes) (part.offset + length part.bytes)) _ (and_rest (not e.fin && nat_le part.offset (length e.bytes)) _ both none) in
    let few : part.offset + length part.bytes ≤ length e.bytes = ltb-false (length e.bytes) (part.offset + length part.bytes) rest.0 in (
      if_false (e.fin || nat_lt (length e.bytes) part.offset) e _ (or_from e.fin _ proceeds (le-ltb (length e.bytes) part.offset within)) ∙ bytes_stay part e (omega (arith, few, within)),
      fin_alone part e rest.1,
    ))
    (λ apart.
    let gap : length e.bytes < part.offset = leb-false part.offset (length e.bytes) apart in (
      if_true (e.fin || nat_lt (length e.bytes) part.offset) e _ (or_right e.fin _ (lt-ltb (length e.bytes) part.offset gap)),
      fin_alone part e (and_right part.fin _ (ne_eqb (part.offset + length part.bytes) (length e.bytes) (λ is. omega (arith, is, gap)))),
    )))

pub part_stays : (part : Part) (e : Entry) → part_changes part e ≡ false → with_part part e ≡ e
part_stays part e none =
    let parts = or_parts (nat_lt e.acknowledged part.acked) _ none in
    let acked : part.acked ≤ e.acknowledged = ltb-false e.acknowledged part.acked parts.0 in
    let same = nothing_new part e parts.1 in
    part_same part e same.0 same.1 (omega (arith, acked))

-- a part with news

bytes_kept : (b : Bool) (e : Entry) → (if b then record e { fin = true } else e).bytes ≡ e.bytes
bytes_kept true e = refl
bytes_kept false e = refl

news_differ : (part : Part) (e : Entry) → e.fin ≡ false → part.offset ≤ length e.bytes → with_part part e ≡ e
    → (nat_lt (length e.bytes) (part.offset + length part.bytes) ≡ true) ⊎ ((part.fin && part.offset + length part.bytes == length e.bytes) ≡ true) → ⊥
news_differ part e proceeds within same news =
    let added : List ℕ = drop (length e.bytes - part.offset) part.bytes in
    let taken : with_bytes part e ≡ record e { bytes = e.bytes ++ added } =
    if_false (e.fin || nat_lt (length e.bytes) part.offset) e _ (or_from e.fin _ proceeds (le-ltb (length e.bytes) part.offset within)) in
    let count : length (with_bytes part e).bytes ≡ length e.bytes + (length part.bytes - (length e.bytes - part.offset)) =
    ap (λ x. length x.bytes) taken ∙ (length-append e.bytes added ∙ ap (λ n. length e.bytes + n) (length-drop (length e.bytes - part.offset) part.bytes)) in
    let all : length (with_bytes part e).bytes ≡ length e.bytes =
    sym (ap length (bytes_kept (part.fin && part.offset + length part.bytes == length (with_bytes part e).bytes) (with_bytes part e))) ∙ ap (λ x. length x.bytes) same in
    elim news as (λ _. ⊥) [
      | inl more ↦ omega (arith, ltb-true (length e.bytes) (part.offset + length part.bytes) more, count, all, within)
      | inr ends ↦
          let both = and_parts part.fin _ ends in
          let here : (part.fin && part.offset + length part.bytes == length (with_bytes part e).bytes) ≡ true =
          and_from part.fin _ both.0 (ap (λ n. part.offset + length part.bytes == n) all ∙ both.1) in
          false≢true (sym proceeds ∙ (sym (ap (λ x. x.fin) same)
          ∙ ap (λ x. x.fin) (if_true (part.fin && part.offset + length part.bytes == length (with_bytes part e).bytes) (record (with_bytes part e) { fin = true }) (with_bytes part e) here)))
    ]

pub part_differs : (part : Part) (e : Entry) → part_changes part e ≡ true → with_part part e ≡ e → ⊥
part_differs part e some same =
    elim (or_cases (nat_lt e.acknowledged part.acked) _ some) as (λ _. ⊥) [
      | inl more ↦
          let most : max e.acknowledged part.acked ≡ e.acknowledged = ap (λ x. x.acknowledged) same in
          omega (arith, ltb-true e.acknowledged part.acked more, most)
      | inr news ↦
          let parts = and_parts (not e.fin && nat_le part.offset (length e.bytes)) _ news in
          let meets = and_parts (not e.fin) (nat_le part.offset (length e.bytes)) parts.0 in
          news_differ part e (not-true e.fin meets.0) (leb-true part.offset (length e.bytes) meets.1) same
          (or_cases (nat_lt (length e.bytes) (part.offset + length part.bytes)) _ parts.1)
    ]

-- a read, and an end

pub read_stays : (index n : ℕ) (e : Entry) → is_next_read e index n ≡ false → with_read index n e ≡ e
read_stays index n e none = if_false (is_next_read e index n) _ e none

read_differs : (index n : ℕ) (e : Entry) → is_next_read e index n ≡ true → with_read index n e ≡ e → ⊥
read_differs index n e some same =
    let more : length (e.lengths ++ n ∷ []) ≡ length e.lengths = ap (λ x. length x.lengths) (sym (if_true (is_next_read e index n) (record e { lengths = e.lengths ++ n ∷ [] }) e some) ∙ same) in
    omega (arith, more, length-append e.lengths (n ∷ []))

pub end_stays : (e : Entry) → not e.done ≡ false → record e { done = true } ≡ e
end_stays e none = ap (λ b. record e { done = b }) (sym (not-false e.done none))

end_differs : (e : Entry) → not e.done ≡ true → record e { done = true } ≡ e → ⊥
end_differs e some same = true≢false (ap (λ x. x.done) same ∙ not-true e.done some)

-- of a log

abbrev has_key : Key → Entry → Bool
has_key key e = key_eq e.key key

-- where no entry is changed, the first of a key isn't
first_stays : (key : Key) (change : Entry → Entry) (e : Entry) (es : List Entry) → find (has_key key) es ≡ Some e → changed key change es ≡ es → change e ≡ e
first_stays key change e [] found same = absurd (true≢false (sym (ap is_some found)))
first_stays key change e (x ∷ es) found same = go (key_eq x.key key) refl (first_stays key change e es)
  where
    go : (b : Bool) → key_eq x.key key ≡ b → (find (has_key key) es ≡ Some e → changed key change es ≡ es → change e ≡ e) → change e ≡ e
    go true t rest =
        let here : x ≡ e = same_some (sym (ap (λ b. cond b (Some x) (find (has_key key) es)) t) ∙ found) in
        let head : (if key_eq x.key key then change x else x) ≡ x = cc in
        ap change (sym here) ∙ (sym (if_true (key_eq x.key key) (change x) x t) ∙ (head ∙ here))
    go false t rest =
        let others : find (has_key key) es ≡ Some e = sym (ap (λ b. cond b (Some x) (find (has_key key) es)) t) ∙ found in
        let tail : changed key change es ≡ es = cc in
        rest others tail

entry_differs : (key : Key) (change : Entry → Entry) (test : Entry → Bool) (log : Log) → ((e : Entry) → test e ≡ true → change e ≡ e → ⊥)
    → option_map_or test (entry_of key log) false ≡ true → with_entry key change log ≡ log → ⊥
entry_differs key change test log each some same = go (entry_of key log) refl
  where
    go : (o : Option Entry) → entry_of key log ≡ o → ⊥
    go None is = false≢true (sym (ap (λ x. option_map_or test x false) is) ∙ some)
    go (Some e) is =
        each e (sym (ap (λ x. option_map_or test x false) is) ∙ some) (first_stays key change e log.entries is (ap (λ l. l.entries) same))

pub open_stays : (n : Numbers) (log : Log) → (list_any (λ e. key_eq e.key n.key) log.entries || nat_le 64 (length log.entries)) ≡ true → opened n log ≡ log
open_stays n log turned = if_true _ log (record log { entries = log.entries ++ new_entry n ∷ [] }) turned

open_differs : (n : Numbers) (log : Log) → body_changes (OpenMsg n) log ≡ true → opened n log ≡ log → ⊥
open_differs n log some same =
    let more : length (log.entries ++ new_entry n ∷ []) ≡ length log.entries =
    ap (λ l. length l.entries) (sym (if_false _ log (record log { entries = log.entries ++ new_entry n ∷ [] }) (not-true _ some)) ∙ same) in
    omega (arith, more, length-append log.entries (new_entry n ∷ []))

body_differs : (body : Body) (log : Log) → body_changes body log ≡ true → with_body body log ≡ log → ⊥
body_differs (OpenMsg n) log some same = open_differs n log some same
body_differs (DataMsg part) log some same = entry_differs part.key (with_part part) (part_changes part) log (part_differs part) some same
body_differs (ReadMsg key index n) log some same = entry_differs key (with_read index n) (λ e. is_next_read e index n) log (read_differs index n) some same
body_differs (DoneMsg key) log some same = entry_differs key (λ e. record e { done = true }) (λ e. not e.done) log end_differs some same
body_differs _ log some same = false≢true some

-- a Hello of a larger boot
boot_differs : (boot : ℕ) (log : Log) → nat_lt log.boot boot ≡ true → record log { boot = boot } ≡ log → ⊥
boot_differs boot log larger same =
    let is : boot ≡ log.boot = ap (λ l. l.boot) same in
    omega (arith, ltb-true log.boot boot larger, is)

received_differs : (message : Message) (log : Log) → (if is_hello message.body then nat_lt log.boot message.boot else message.boot == log.boot && body_changes message.body log) ≡ true
    → (nat_lt message.boot log.boot ≡ false) × (with_message message log ≡ log → ⊥)
received_differs message log some =
    by_cases (is_hello message.body)
    (λ hello.
    let larger : nat_lt log.boot message.boot ≡ true = sym (if_true (is_hello message.body) _ _ hello) ∙ some in
    let above : log.boot < message.boot = ltb-true log.boot message.boot larger in (
      le-ltb message.boot log.boot (omega (arith, above)),
      λ same. boot_differs message.boot log larger (sym (if_true (is_hello message.body) (record log { boot = message.boot }) _ hello) ∙ same),
    ))
    (λ other.
    let both = and_parts (message.boot == log.boot) _ (sym (if_false (is_hello message.body) _ _ other) ∙ some) in
    let own : message.boot ≡ log.boot = eqb-true message.boot log.boot both.0 in (
      le-ltb message.boot log.boot (omega (arith, own)),
      λ same. body_differs message.body log both.1
          (sym (if_true (message.boot == log.boot) (with_body message.body log) log both.0) ∙ (sym (if_false (is_hello message.body) (record log { boot = message.boot }) _ other) ∙ same)),
    ))

pub a_change_differs : (log : Log) (message : Message) → changes log message ≡ true → log_after log message ≡ log → ⊥
unfolding changes log_after
a_change_differs log message some same =
    let parts = and_parts (not (is_answer message.body)) _ some in
    let asks : is_answer message.body ≡ false = not-true (is_answer message.body) parts.0 in
    let differs = received_differs message log parts.1 in
    differs.1 (sym (if_false (is_answer message.body || nat_lt message.boot log.boot) log (with_message message log) (or_from _ _ asks differs.0)) ∙ same)

pub own_differs : (log : Log) (message : Message) → is_answer message.body ≡ false → is_hello message.body ≡ false → message.boot ≡ log.boot → body_changes message.body log ≡ true
    → log_after log message ≡ log → ⊥
unfolding changes
own_differs log message asks other own some =
    a_change_differs log message (and_from (not (is_answer message.body)) _ (ap not asks)
    (if_false (is_hello message.body) (nat_lt log.boot message.boot) _ other ∙ and_from (message.boot == log.boot) _ (eq-eqb message.boot log.boot own) some))

-- what leaves the entry of a key as it is leaves all as they are, since no other has the key
pub alone : (key : Key) (change : Entry → Entry) (boot : ℕ) (es : List (Key × Entry)) → AreKept es → IsDistinct key_eq (keys_of es)
    → option_map change (lookup (key_eq key) es) ≡ lookup (key_eq key) es → with_entry key change (log_of boot es) ≡ log_of boot es
alone key change boot es kept distinct same = ap (λ xs. let log : Log = record { boot = boot; entries = xs } in log) (go (lookup (key_eq key) es) refl)
  where
    go : (o : Option Entry) → lookup (key_eq key) es ≡ o → changed key change (values_of es) ≡ values_of es
    go None is = sym (none_changed key change es kept is)
    go (Some e) is =
        let stays : change e ≡ e = same_some (sym (ap (option_map change) is) ∙ (same ∙ is)) in
        sym (one_changed key change e e es kept distinct is (sym stays)) ∙ ap values_of (set_value_same (key_eq key) es e is)

-- .. as what a test tells
pub none_stays : (change : Entry → Entry) (test : Entry → Bool) → ((e : Entry) → test e ≡ false → change e ≡ e) → (o : Option Entry)
    → option_map_or test o false ≡ false → option_map change o ≡ o
none_stays change test each None none = refl
none_stays change test each (Some e) none = ap (λ x. Some x) (each e none)
