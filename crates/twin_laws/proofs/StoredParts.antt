-- What a program keeps of a head or a tail does what the definition says.
use Rattle.std.proofs.Common.{◌≡◌, ℕ, ◌+◌, ◌-◌, ◌<◌, ◌≤◌, ◌==◌, ◌&&◌, not, Bool, true, false, refl, sym, ap, ◌∙◌, List, [], ◌∷◌, ◌++◌, map, length, drop, append-nil, arith, length-append, nat_lt, nat_le, if◌then◌else◌}
use Rattle.std.proofs.lemmas.Bool.{and_parts, ltb-true}
use Rattle.std.proofs.lemmas.List.{length-drop, length-map, drop-map, drop-drop, drop-append-le, map-append}
use Rattle.seq_arith.specs.declared.kinds.Grammar.{Grammar}
use Rattle.seq_arith.specs.Message.{is_answer}
use Rattle.ft_model.specs.Log.{Log, log_after, answer_to}
use Rattle.twin_laws.specs.declared.part.Part.TheVariants as parts
use Rattle.twin_laws.specs.declared.part.Side.{Side}
use Rattle.twin_laws.specs.declared.part.Side.TheVariants as sides
use Rattle.twin_laws.specs.Twin.{Request, Comes, Head, Tail, head_does, tail_does, head_takes, with_taken, may_take, has_room, is_wide, waits, numbered, waiting, sends_waiting, confirmed_to, applies_next, confirms_again, nothing, bytes_of}
use Rattle.twin_laws.specs.Twin.Between.{Forward, Got}
use Rattle.twin_laws.specs.Twin.Comes.{Asks, Reports, Is_noise}
use Rattle.twin_laws.specs.StoredState.{Kept, KeptDoes, kept_head, kept_tail, comes_from, does_of, kept_does, in_bytes, forwards_sent, sent_to_other, answers_sent, sends_kept, sends_nothing, keeps_too, has_kept_room, kept_takes, kept_confirmed, applies_kept}

abbrev head_of : Bool → Log → List Request → ℕ → Head
head_of alone log taken confirmed = record { log = log; taken = taken; confirmed = confirmed; alone = alone }

abbrev bytes_in : List Request → List (List ℕ)
bytes_in requests = map (λ r. r.bytes) requests

forwards_are : (n : ℕ) (requests : List Request) → forwards_sent n (bytes_in requests) ≡ sent_to_other (numbered n requests)
unfolding bytes_of
forwards_are n [] = refl
forwards_are n (r ∷ requests) = ap (λ more. (sides.Other, bytes_of (Forward (n + 1) r)) ∷ more) (forwards_are (n + 1) requests)

-- how many wait, and how many are confirmed
count_waiting : (taken : List Request) (c : ℕ) → length (bytes_in (drop c taken)) ≡ length taken - c
count_waiting taken c = length-map (drop c taken) (λ r. r.bytes) ∙ length-drop c taken

count_confirmed : (taken : List Request) (c : ℕ) → c ≤ length taken → length taken - length (bytes_in (drop c taken)) ≡ c
count_confirmed taken c few = omega (arith, count_waiting taken c, few)

abbrev kept_does_with : Kept → List (Side × List ℕ) → KeptDoes
kept_does_with next sent = record { next = next; sent = sent }

all_sent : (grammar : Grammar) (h : Head) → h.confirmed ≤ length h.taken → sends_kept (kept_head grammar h) ≡ in_bytes (kept_head grammar) (sends_waiting h)
all_sent grammar h few =
    ap (λ n. kept_does_with (kept_head grammar h) (forwards_sent n (bytes_in (drop h.confirmed h.taken)))) (count_confirmed h.taken h.confirmed few)
    ∙ ap (kept_does_with (kept_head grammar h)) (forwards_are h.confirmed (drop h.confirmed h.taken))

abbrev kept_with : Grammar → Log → ℕ → List (List ℕ) → Bool → Kept
kept_with grammar log number waiting alone = record { grammar = grammar; part = parts.Head; alone = alone; log = log; number = number; waiting = waiting }

one_more : (grammar : Grammar) (r : Request) (h : Head) → h.confirmed ≤ length h.taken → keeps_too r (kept_head grammar h) ≡ kept_head grammar (with_taken r h)
one_more grammar r h few =
    let number : length h.taken + 1 ≡ length (h.taken ++ r ∷ []) = sym (length-append h.taken (r ∷ []))
    in let rest : bytes_in (drop h.confirmed h.taken) ++ r.bytes ∷ [] ≡ bytes_in (drop h.confirmed (h.taken ++ r ∷ [])) =
    sym (map-append (λ x. x.bytes) (drop h.confirmed h.taken) (r ∷ [])) ∙ ap bytes_in (sym (drop-append-le h.confirmed h.taken (r ∷ []) few))
    in ap (λ n. kept_with grammar (log_after h.log r.message) n (bytes_in (drop h.confirmed h.taken) ++ r.bytes ∷ []) h.alone) number
    ∙ ap (λ w. kept_with grammar (log_after h.log r.message) (length (h.taken ++ r ∷ [])) w h.alone) rest

-- a message that is taken is forwarded once, or with all that waits
by_once : (grammar : Grammar) (once : Bool) (r : Request) (h : Head) → h.confirmed ≤ length h.taken
    → (if once then kept_does_with (keeps_too r (kept_head grammar h)) (forwards_sent (length h.taken) (r.bytes ∷ [])) else sends_kept (keeps_too r (kept_head grammar h)))
    ≡ in_bytes (kept_head grammar) (record { next = with_taken r h; to_server = []; to_other = if once then Forward (length h.taken + 1) r ∷ [] else waiting (with_taken r h) })
by_once grammar true r h few =
    ap (λ kept. kept_does_with kept (forwards_sent (length h.taken) (r.bytes ∷ []))) (one_more grammar r h few)
    ∙ ap (kept_does_with (kept_head grammar (with_taken r h))) (forwards_are (length h.taken) (r ∷ []))
by_once grammar false r h few =
    ap sends_kept (one_more grammar r h few) ∙ all_sent grammar (with_taken r h) (omega (arith, few, length-append h.taken (r ∷ [])))

by_room : (grammar : Grammar) (room : Bool) (r : Request) (h : Head) → h.confirmed ≤ length h.taken
    → (if room then kept_takes r (kept_head grammar h) else sends_kept (kept_head grammar h)) ≡ in_bytes (kept_head grammar) (if room then head_takes r h else sends_waiting h)
by_room grammar true r h few = by_once grammar (is_wide r.bytes && not (waits r h)) r h few
by_room grammar false r h few = all_sent grammar h few

asks : (grammar : Grammar) (answer : Bool) (r : Request) (h : Head) → h.confirmed ≤ length h.taken
    → (if answer then sends_nothing (kept_head grammar h) else (if has_kept_room (kept_head grammar h) then kept_takes r (kept_head grammar h) else sends_kept (kept_head grammar h)))
    ≡ in_bytes (kept_head grammar) (if answer then nothing h else (if has_room h then head_takes r h else sends_waiting h))
asks grammar true r h few = refl
asks grammar false r h few =
    ap (λ n. if may_take n (length h.taken) then kept_takes r (kept_head grammar h) else sends_kept (kept_head grammar h)) (count_waiting h.taken h.confirmed)
    ∙ by_room grammar (may_take (length h.taken - h.confirmed) (length h.taken)) r h few

by_number : (grammar : Grammar) (number : ℕ) (b : Bool) (h : Head) → (nat_lt h.confirmed number && nat_le number (length h.taken)) ≡ b
    → sends_nothing (if b then record (kept_head grammar h) { waiting = drop (number - h.confirmed) (bytes_in (drop h.confirmed h.taken)) } else kept_head grammar h)
    ≡ in_bytes (kept_head grammar) (nothing (if b then record h { confirmed = number } else h))
by_number grammar number false h e = refl
by_number grammar number true h e =
    let later : h.confirmed < number = ltb-true h.confirmed number (and_parts (nat_lt h.confirmed number) (nat_le number (length h.taken)) e).0
    in let same : h.confirmed + (number - h.confirmed) ≡ number = omega (arith, later)
    in ap (λ w. sends_nothing (kept_with grammar h.log (length h.taken) w h.alone))
    (drop-map (λ r. r.bytes) (number - h.confirmed) (drop h.confirmed h.taken)
    ∙ ap bytes_in (drop-drop (number - h.confirmed) h.confirmed h.taken ∙ ap (λ n. drop n h.taken) same))

gots : (grammar : Grammar) (number : ℕ) (h : Head) → h.confirmed ≤ length h.taken → sends_nothing (kept_confirmed number (kept_head grammar h)) ≡ in_bytes (kept_head grammar) (nothing (confirmed_to number h))
gots grammar number h few =
    ap (λ c. sends_nothing (if nat_lt c number && nat_le number (length h.taken) then record (kept_head grammar h) { waiting = drop (number - c) (bytes_in (drop h.confirmed h.taken)) } else kept_head grammar h))
    (count_confirmed h.taken h.confirmed few)
    ∙ by_number grammar number (nat_lt h.confirmed number && nat_le number (length h.taken)) h refl

head_keeps : (grammar : Grammar) (comes : Comes) (alone : Bool) (log : Log) (taken : List Request) (c : ℕ) → c ≤ length taken
    → does_of comes (kept_head grammar (head_of alone log taken c)) ≡ in_bytes (kept_head grammar) (head_does comes (head_of alone log taken c))
head_keeps grammar (Asks r) true log taken c few =
    ap (kept_does_with (kept_head grammar (head_of true (log_after log r.message) taken c))) (sym (append-nil (answers_sent grammar (answer_to log r.message))))
head_keeps grammar (Asks r) false log taken c few = asks grammar (is_answer r.message.body) r (head_of false log taken c) few
head_keeps grammar (Reports (Got number)) true log taken c few = refl
head_keeps grammar (Reports (Got number)) false log taken c few = gots grammar number (head_of false log taken c) few
head_keeps grammar (Reports (Forward number r)) true log taken c few = refl
head_keeps grammar (Reports (Forward number r)) false log taken c few = refl
head_keeps grammar Is_noise true log taken c few = refl
head_keeps grammar Is_noise false log taken c few = refl

abbrev tail_of : Bool → Log → ℕ → Tail
tail_of alone log applied = record { log = log; applied = applied; alone = alone }

forwards_reported : (grammar : Grammar) (next had : Bool) (r : Request) (log : Log) (n : ℕ) → let t : Tail = tail_of false log n in
    (if next then applies_kept r.message (kept_tail grammar t) else (if had then kept_does_with (kept_tail grammar t) (sent_to_other (Got n ∷ [])) else sends_nothing (kept_tail grammar t)))
    ≡ in_bytes (kept_tail grammar) (if next then applies_next r t else (if had then confirms_again t else nothing t))
forwards_reported grammar true had r log n = refl
forwards_reported grammar false true r log n = refl
forwards_reported grammar false false r log n = refl

tail_keeps : (grammar : Grammar) (comes : Comes) (alone : Bool) (log : Log) (n : ℕ)
    → does_of comes (kept_tail grammar (tail_of alone log n)) ≡ in_bytes (kept_tail grammar) (tail_does comes (tail_of alone log n))
tail_keeps grammar (Asks r) true log n = ap (kept_does_with (kept_tail grammar (tail_of true (log_after log r.message) n))) (sym (append-nil (answers_sent grammar (answer_to log r.message))))
tail_keeps grammar (Asks r) false log n = refl
tail_keeps grammar (Reports (Got number)) true log n = refl
tail_keeps grammar (Reports (Got number)) false log n = refl
tail_keeps grammar (Reports (Forward number r)) true log n = refl
tail_keeps grammar (Reports (Forward number r)) false log n = forwards_reported grammar (number == n + 1) (nat_le number n) r log n
tail_keeps grammar Is_noise true log n = refl
tail_keeps grammar Is_noise false log n = refl

pub head_does_so : (grammar : Grammar) (side : Side) (bytes : List ℕ) (h : Head) → h.confirmed ≤ length h.taken
    → kept_does side bytes (kept_head grammar h) ≡ in_bytes (kept_head grammar) (head_does (comes_from grammar side bytes) h)
unfolding kept_does
head_does_so grammar side bytes h few = head_keeps grammar (comes_from grammar side bytes) h.alone h.log h.taken h.confirmed few

pub tail_does_so : (grammar : Grammar) (side : Side) (bytes : List ℕ) (t : Tail) → kept_does side bytes (kept_tail grammar t) ≡ in_bytes (kept_tail grammar) (tail_does (comes_from grammar side bytes) t)
unfolding kept_does
tail_does_so grammar side bytes t = tail_keeps grammar (comes_from grammar side bytes) t.alone t.log t.applied
