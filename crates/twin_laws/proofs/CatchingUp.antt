-- What waits brings the tail up to date, and the head forwards it where the server repeats a message, or there is no room.
use Rattle.std.proofs.Common.{◌≡◌, ◌∙◌, ℕ, ◌+◌, ◌-◌, ◌≤◌, ◌<◌, ◌==◌, ◌&&◌, not, nat_le, Bool, true, false, true≢false, refl, sym, ap, subst, arith, eqb-true, if◌then◌else◌}
use Rattle.std.proofs.Common.{List, [], ◌∷◌, length, drop}
use Rattle.std.proofs.lemmas.Bool.{leb-true, leb-false, eqb-false, and_right}
use Rattle.std.proofs.lemmas.List.{length-drop}
use Rattle.ft_io.proofs.Choices.{if_false, holds_if, holds_either_way}
use Rattle.seq_arith.specs.Message.{is_answer}
use Rattle.ft_model.specs.Log.{Log, log_after}
use Rattle.twin_laws.specs.Twin.{Request, Between, Head, Tail, Does, nothing, numbered, waiting, waits, is_wide, has_room, with_taken, forwarding, head_takes, sends_waiting, head_paired, head_alone, head_does, applies_next, confirms_again}
use Rattle.twin_laws.specs.Twin.Between.{Forward}
use Rattle.twin_laws.specs.Twin.Comes.{Asks}
use Rattle.twin_laws.specs.Pair.{tail_over}

abbrev paired_tail : Log → ℕ → Tail
paired_tail log applied = record { log = log; applied = applied; alone = false }

-- requests from behind the first n on, of which the tail has applied some
comes_up : (n : ℕ) (requests : List Request) (log : Log) (applied : ℕ) → n ≤ applied → applied ≤ n + length requests
    → (tail_over (paired_tail log applied) (numbered n requests)).applied ≡ n + length requests
comes_up n [] log applied low high = omega (arith, low, high)
comes_up n (r ∷ requests) log applied low high =
    let t : Tail = paired_tail log applied in
    let long : n + 1 + length requests ≡ n + length (r ∷ requests) = omega arith in
    holds_if (λ (d : Does Tail). (tail_over d.next (numbered (n + 1) requests)).applied ≡ n + length (r ∷ requests)) (n + 1 == applied + 1) (applies_next r t)
    (if nat_le (n + 1) applied then confirms_again t else nothing t)
    (λ next. let same : n + 1 ≡ applied + 1 = eqb-true (n + 1) (applied + 1) next in
    comes_up (n + 1) requests (log_after log r.message) (applied + 1) (omega (arith, same)) (omega (arith, same, high)) ∙ long)
    (λ other. holds_if (λ (d : Does Tail). (tail_over d.next (numbered (n + 1) requests)).applied ≡ n + length (r ∷ requests)) (nat_le (n + 1) applied) (confirms_again t) (nothing t)
    (λ had. comes_up (n + 1) requests log applied (leb-true (n + 1) applied had) (omega (arith, high)) ∙ long)
    (λ gap. let less : applied < n + 1 = leb-false (n + 1) applied gap in
    absurd (eqb-false (n + 1) (applied + 1) other (omega (arith, less, low)))))

by_alone : (alone : Bool) (log : Log) (applied : ℕ) (head : Head) → alone ≡ false → head.confirmed ≤ applied → applied ≤ length head.taken
    → (tail_over (record { log = log; applied = applied; alone = alone }) (waiting head)).applied ≡ length head.taken
by_alone true log applied head is low high = absurd (true≢false is)
by_alone false log applied head is low high =
    let left : length (drop head.confirmed head.taken) ≡ length head.taken - head.confirmed = length-drop head.confirmed head.taken in
    let all : head.confirmed + length (drop head.confirmed head.taken) ≡ length head.taken = omega (arith, left, low, high) in
    comes_up head.confirmed (drop head.confirmed head.taken) log applied low (omega (arith, all, high)) ∙ all

pub what_waits_comes_up : (head : Head) (tail : Tail) → tail.alone ≡ false → head.confirmed ≤ tail.applied → tail.applied ≤ length head.taken
    → (tail_over tail (waiting head)).applied ≡ length head.taken
what_waits_comes_up head tail is low high = by_alone tail.alone tail.log tail.applied head is low high

-- what a paired head does with a request
asked_so : (request : Request) (head : Head) → head.alone ≡ false → is_answer request.message.body ≡ false
    → head_does (Asks request) head ≡ (if has_room head then head_takes request head else sends_waiting head)
asked_so request head paired asks =
    if_false head.alone (head_alone request head) (head_paired request head) paired
    ∙ if_false (is_answer request.message.body) (nothing head) (if has_room head then head_takes request head else sends_waiting head) asks

abbrev ForwardsAll : Does Head → Type 0
ForwardsAll d = d.to_other ≡ waiting d.next

pub forwards_repeated : (request : Request) (head : Head) → head.alone ≡ false → is_answer request.message.body ≡ false → waits request head ≡ true
    → (head_does (Asks request) head).to_other ≡ waiting (head_does (Asks request) head).next
forwards_repeated request head paired asks repeated =
    let once : (is_wide request.bytes && not (waits request head)) ≡ false = and_right (is_wide request.bytes) (not (waits request head)) (ap not repeated) in
    let all : forwarding request head ≡ waiting (with_taken request head) =
    if_false (is_wide request.bytes && not (waits request head)) (Forward (length head.taken + 1) request ∷ []) (waiting (with_taken request head)) once in
    subst ForwardsAll (sym (asked_so request head paired asks)) (holds_either_way ForwardsAll (has_room head) (head_takes request head) (sends_waiting head) all refl)

pub forwards_when_full : (request : Request) (head : Head) → head.alone ≡ false → is_answer request.message.body ≡ false → has_room head ≡ false
    → (head_does (Asks request) head).to_other ≡ waiting (head_does (Asks request) head).next
forwards_when_full request head paired asks full =
    let does : head_does (Asks request) head ≡ sends_waiting head =
    asked_so request head paired asks ∙ if_false (has_room head) (head_takes request head) (sends_waiting head) full in
    subst ForwardsAll (sym does) refl
