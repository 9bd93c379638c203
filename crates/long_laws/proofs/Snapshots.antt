-- A log's snapshot makes the log again.
use Rattle.std.proofs.Common.{◌≡◌, ℕ, ◌+◌, ◌-◌, ◌<◌, ◌≤◌, Bool, true, false, ◌==◌, ◌&&◌, ◌||◌, nat_lt, nat_le, max, refl, sym, ap, ap₂, ◌∙◌, subst, List, [], ◌∷◌, ◌++◌, map, length, drop, arith, if◌then◌else◌, append_assoc, length-append, eq-eqb}
use Rattle.std.proofs.lemmas.List.{append-nil}
use Rattle.std.proofs.lemmas.Bool.{le-ltb, lt-leb, or_from, or_parts, and_parts}
use Rattle.std.proofs.Math.Seq.{drop-nil}
use Rattle.std.specs.List.{AllByRecursion, list_any}
use Rattle.ft_io.specs.declared.Key.{Key}
use Rattle.ft_io.specs.Key.{key_eq}
use Rattle.seq_arith.specs.Message.{Part, Body, Message, is_answer}
use Rattle.seq_arith.specs.Message.Body.{HelloMsg, OpenMsg, DataMsg, ReadMsg, DoneMsg}
use Rattle.ft_model.specs.Keys.{AreDistinct, has_key}
use Rattle.ft_model.specs.Log.{Log, Entry, empty_log, log_after, with_body, with_message, with_entry, with_part, with_bytes, with_its_fin, with_read, is_next_read, may_follow, numbers_of_entry, is_hello}
use Rattle.ft_model.specs.Restart.{all_follow}
use Rattle.ft_model.proofs.Keys.{key_eq_turns}
use Rattle.ft_model.proofs.Lists.{key_is}
use Rattle.ft_io.proofs.Choices.{if_true, if_false}
use Rattle.trace_laws.specs.NeededMessages.{log_after_all}
use Rattle.long_laws.specs.Snapshot.{said, joined, data_of, last_data, reads_of, done_of, messages_of, AreSaid, IsSnapshotOf, CanReplay, IsOrdered}

-- a message of the log's own boot does what its body says
own : (log : Log) (body : Body) → is_answer body ≡ false → is_hello body ≡ false → log_after log (said log.boot body) ≡ with_body body log
unfolding log_after
own log body a h =
    let low : nat_lt log.boot log.boot ≡ false = le-ltb log.boot log.boot (omega arith) in
    if_false (is_answer body || nat_lt log.boot log.boot) log (with_message (said log.boot body) log) (or_from (is_answer body) (nat_lt log.boot log.boot) a low)
    ∙ (if_false (is_hello body) (record log { boot = log.boot }) (if log.boot == log.boot then with_body body log else log) h
    ∙ if_true (log.boot == log.boot) (with_body body log) log (eq-eqb log.boot log.boot refl))

-- more messages
all_after : (log : Log) (ms ns : List Message) → log_after_all log (ms ++ ns) ≡ log_after_all (log_after_all log ms) ns
all_after log [] ns = refl
all_after log (m ∷ ms) ns = all_after (log_after log m) ms ns

-- a log with a last entry
abbrev ending : ℕ → List Entry → Entry → Log
ending boot before e = record { boot = boot; entries = before ++ e ∷ [] }

abbrev AreOthers : Key → List Entry → Type 0
AreOthers key before = AllByRecursion (λ x. key_eq x.key key ≡ false) before

changes_last : (key : Key) (change : Entry → Entry) (before : List Entry) (e : Entry) → AreOthers key before → e.key ≡ key
    → map (λ x. if key_eq x.key key then change x else x) (before ++ e ∷ []) ≡ before ++ change e ∷ []
changes_last key change [] e a k =
    ap (λ x. x ∷ []) (if_true (key_eq e.key key) (change e) e (ap (λ z. key_eq z key) k ∙ key_is key))
changes_last key change (x ∷ before) e a k = ap₂ ◌∷◌ (if_false (key_eq x.key key) (change x) x a.0) (changes_last key change before e a.1 k)

changed : (boot : ℕ) (key : Key) (change : Entry → Entry) (before : List Entry) (e : Entry) → AreOthers key before → e.key ≡ key
    → with_entry key change (ending boot before e) ≡ ending boot before (change e)
changed boot key change before e a k = ap (λ (es : List Entry). let l : Log = record { boot = boot; entries = es } in l) (changes_last key change before e a k)

-- an entry that is partly made again
abbrev partly : Entry → List ℕ → Bool → ℕ → List ℕ → Bool → Entry
partly e bytes fin acked lengths done = record e { bytes = bytes; fin = fin; acknowledged = acked; lengths = lengths; done = done }

-- bytes
piece_added : (e : Entry) (key : Key) (bytes piece : List ℕ)
    → with_part (record { key = key; offset = length bytes; acked = 0; fin = false; more = false; bytes = piece }) (partly e bytes false 0 [] false) ≡ partly e (bytes ++ piece) false 0 [] false
piece_added e key bytes piece =
    let none : length bytes - length bytes ≡ 0 = omega arith in
    ap (λ (x : Entry). record x { acknowledged = 0 })
    (if_false (nat_lt (length bytes) (length bytes)) (partly e bytes false 0 [] false) (partly e (bytes ++ drop (length bytes - length bytes) piece) false 0 [] false)
    (le-ltb (length bytes) (length bytes) (omega arith))
    ∙ ap (λ n. partly e (bytes ++ drop n piece) false 0 [] false) none)

data_made : (boot : ℕ) (before : List Entry) (e : Entry) (bytes : List ℕ) (pieces : List (List ℕ)) → AreOthers e.key before
    → log_after_all (ending boot before (partly e bytes false 0 [] false)) (data_of boot e.key (length bytes) pieces) ≡ ending boot before (partly e (bytes ++ joined pieces) false 0 [] false)
data_made boot before e bytes [] a = ap (λ l. ending boot before (partly e l false 0 [] false)) (sym (append-nil bytes))
data_made boot before e bytes (piece ∷ pieces) a =
    let part : Part = record { key = e.key; offset = length bytes; acked = 0; fin = false; more = false; bytes = piece } in
    let one : log_after (ending boot before (partly e bytes false 0 [] false)) (said boot (DataMsg part)) ≡ ending boot before (partly e (bytes ++ piece) false 0 [] false) =
    own (ending boot before (partly e bytes false 0 [] false)) (DataMsg part) refl refl
    ∙ (changed boot e.key (with_part part) before (partly e bytes false 0 [] false) a refl ∙ ap (ending boot before) (piece_added e e.key bytes piece)) in
    let size : length bytes + length piece ≡ length (bytes ++ piece) = sym (length-append bytes piece) in
    ap (λ l. log_after_all l (data_of boot e.key (length bytes + length piece) pieces)) one
    ∙ (ap (λ n. log_after_all (ending boot before (partly e (bytes ++ piece) false 0 [] false)) (data_of boot e.key n pieces)) size
    ∙ (data_made boot before e (bytes ++ piece) pieces a ∙ ap (λ l. ending boot before (partly e l false 0 [] false)) (append_assoc bytes piece (joined pieces))))

-- FIN, and what is acknowledged
fin_set : (e : Entry) (f : Bool) → e.fin ≡ f → with_its_fin (last_data e) (partly e e.bytes false 0 [] false) ≡ partly e e.bytes f 0 [] false
fin_set e true is =
    let n : length e.bytes + 0 ≡ length e.bytes = omega arith in
    if_true (e.fin && length e.bytes + 0 == length e.bytes) (partly e e.bytes true 0 [] false) (partly e e.bytes false 0 [] false)
    (ap₂ ◌&&◌ is (eq-eqb (length e.bytes + 0) (length e.bytes) n))
fin_set e false is =
    if_false (e.fin && length e.bytes + 0 == length e.bytes) (partly e e.bytes true 0 [] false) (partly e e.bytes false 0 [] false)
    (ap (λ b. b && length e.bytes + 0 == length e.bytes) is)

nothing_added : (e : Entry) → with_bytes (last_data e) (partly e e.bytes false 0 [] false) ≡ partly e e.bytes false 0 [] false
nothing_added e =
    if_false (nat_lt (length e.bytes) (length e.bytes)) (partly e e.bytes false 0 [] false) (partly e (e.bytes ++ drop (length e.bytes - length e.bytes) []) false 0 [] false)
    (le-ltb (length e.bytes) (length e.bytes) (omega arith))
    ∙ (ap (λ l. partly e (e.bytes ++ l) false 0 [] false) (drop-nil (length e.bytes - length e.bytes)) ∙ ap (λ l. partly e l false 0 [] false) (append-nil e.bytes))

last_made : (boot : ℕ) (before : List Entry) (e : Entry) → AreOthers e.key before
    → log_after (ending boot before (partly e e.bytes false 0 [] false)) (said boot (DataMsg (last_data e))) ≡ ending boot before (partly e e.bytes e.fin e.acknowledged [] false)
last_made boot before e a =
    own (ending boot before (partly e e.bytes false 0 [] false)) (DataMsg (last_data e)) refl refl
    ∙ (changed boot e.key (with_part (last_data e)) before (partly e e.bytes false 0 [] false) a refl
    ∙ (ap (λ (x : Entry). ending boot before (record x { acknowledged = max 0 e.acknowledged }))
    (ap (with_its_fin (last_data e)) (nothing_added e) ∙ fin_set e e.fin refl)
    ∙ ap (λ n. ending boot before (partly e e.bytes e.fin n [] false)) larger))
  where
    larger : max 0 e.acknowledged ≡ e.acknowledged
    larger = omega arith

-- reads
reads_made : (boot : ℕ) (before : List Entry) (e : Entry) (lengths more : List ℕ) → AreOthers e.key before → all_follow (length e.bytes) e.fin lengths more ≡ true
    → log_after_all (ending boot before (partly e e.bytes e.fin e.acknowledged lengths false)) (reads_of boot e.key (length lengths) more)
    ≡ ending boot before (partly e e.bytes e.fin e.acknowledged (lengths ++ more) false)
reads_made boot before e lengths [] a f = ap (λ l. ending boot before (partly e e.bytes e.fin e.acknowledged l false)) (sym (append-nil lengths))
reads_made boot before e lengths (n ∷ more) a f =
    let now : Entry = partly e e.bytes e.fin e.acknowledged lengths false in
    let next : Entry = partly e e.bytes e.fin e.acknowledged (lengths ++ n ∷ []) false in
    let parts = and_parts (may_follow (length e.bytes) e.fin lengths n) (all_follow (length e.bytes) e.fin (lengths ++ n ∷ []) more) f in
    let fits : is_next_read now (length lengths) n ≡ true = ap₂ ◌&&◌ (eq-eqb (length lengths) (length lengths) refl) parts.0 in
    let one : log_after (ending boot before now) (said boot (ReadMsg e.key (length lengths) n)) ≡ ending boot before next =
    own (ending boot before now) (ReadMsg e.key (length lengths) n) refl refl
    ∙ (changed boot e.key (with_read (length lengths) n) before now a refl ∙ ap (ending boot before) (if_true (is_next_read now (length lengths) n) next now fits)) in
    let size : length lengths + 1 ≡ length (lengths ++ n ∷ []) = sym (length-append lengths (n ∷ [])) in
    ap (λ l. log_after_all l (reads_of boot e.key (length lengths + 1) more)) one
    ∙ (ap (λ k. log_after_all (ending boot before next) (reads_of boot e.key k more)) size
    ∙ (reads_made boot before e (lengths ++ n ∷ []) more a parts.1
    ∙ ap (λ l. ending boot before (partly e e.bytes e.fin e.acknowledged l false)) (append_assoc lengths (n ∷ []) more)))

-- Done
done_made : (boot : ℕ) (before : List Entry) (e : Entry) (d : Bool) → e.done ≡ d → AreOthers e.key before
    → log_after_all (ending boot before (partly e e.bytes e.fin e.acknowledged e.lengths false)) (if d then said boot (DoneMsg e.key) ∷ [] else [])
    ≡ ending boot before (partly e e.bytes e.fin e.acknowledged e.lengths d)
done_made boot before e false is a = refl
done_made boot before e true is a =
    own (ending boot before (partly e e.bytes e.fin e.acknowledged e.lengths false)) (DoneMsg e.key) refl refl
    ∙ changed boot e.key (λ x. record x { done = true }) before (partly e e.bytes e.fin e.acknowledged e.lengths false) a refl

-- one entry
entry_made : (boot : ℕ) (before : List Entry) (e : Entry) (pieces : List (List ℕ)) → AreOthers e.key before → length before < 64 → joined pieces ≡ e.bytes → CanReplay e
    → log_after_all (record { boot = boot; entries = before }) (messages_of boot e pieces) ≡ ending boot before e
entry_made boot before e pieces a few all can =
    let first : Log = record { boot = boot; entries = before } in
    let others : list_any (λ x. key_eq x.key e.key) before ≡ false = none_any before a in
    let one : log_after first (said boot (OpenMsg (numbers_of_entry e))) ≡ ending boot before (partly e [] false 0 [] false) =
    own first (OpenMsg (numbers_of_entry e)) refl refl
    ∙ if_false (list_any (λ x. key_eq x.key e.key) before || nat_le 64 (length before)) first (ending boot before (partly e [] false 0 [] false))
    (or_from (list_any (λ x. key_eq x.key e.key) before) (nat_le 64 (length before)) others (lt-leb 64 (length before) few)) in
    let tail : List Message = said boot (DataMsg (last_data e)) ∷ (reads_of boot e.key 0 e.lengths ++ done_of boot e) in
    let two : log_after_all (ending boot before (partly e [] false 0 [] false)) (data_of boot e.key 0 pieces) ≡ ending boot before (partly e e.bytes false 0 [] false) =
    data_made boot before e [] pieces a ∙ ap (λ l. ending boot before (partly e l false 0 [] false)) all in
    ap (λ l. log_after_all l (data_of boot e.key 0 pieces ++ tail)) one
    ∙ (all_after (ending boot before (partly e [] false 0 [] false)) (data_of boot e.key 0 pieces) tail
    ∙ (ap (λ l. log_after_all l tail) two
    ∙ (ap (λ l. log_after_all l (reads_of boot e.key 0 e.lengths ++ done_of boot e)) (last_made boot before e a)
    ∙ (all_after (ending boot before (partly e e.bytes e.fin e.acknowledged [] false)) (reads_of boot e.key 0 e.lengths) (done_of boot e)
    ∙ (ap (λ l. log_after_all l (done_of boot e)) (reads_made boot before e [] e.lengths a can) ∙ done_made boot before e e.done refl a)))))
  where
    none_any : (es : List Entry) → AllByRecursion (λ x. key_eq x.key e.key ≡ false) es → list_any (λ x. key_eq x.key e.key) es ≡ false
    none_any [] h = refl
    none_any (x ∷ es) h = or_from (key_eq x.key e.key) (list_any (λ y. key_eq y.key e.key) es) h.0 (none_any es h.1)

-- the keys before an entry are others
others_before : (before : List Entry) (e : Entry) (after : List Entry) → AreDistinct (map (λ x. x.key) (before ++ e ∷ after)) → AreOthers e.key before
others_before [] e after d = tt
others_before (x ∷ before) e after d = (not_after before e after x d.0, others_before before e after d.1)
  where
    not_after : (es : List Entry) (e : Entry) (after : List Entry) (x : Entry) → has_key x.key (map (λ y. y.key) (es ++ e ∷ after)) ≡ false → key_eq x.key e.key ≡ false
    not_after [] e after x h = key_eq_turns e.key x.key (or_parts (key_eq e.key x.key) (has_key x.key (map (λ y. y.key) after)) h).0
    not_after (y ∷ es) e after x h = not_after es e after x (or_parts (key_eq y.key x.key) (has_key x.key (map (λ z. z.key) (es ++ e ∷ after))) h).1

entries_made : (boot : ℕ) (before entries : List Entry) (messages : List Message) → AreDistinct (map (λ e. e.key) (before ++ entries)) → length (before ++ entries) ≤ 64
    → AllByRecursion CanReplay entries → AreSaid boot entries messages
    → log_after_all (record { boot = boot; entries = before }) messages ≡ record { boot = boot; entries = before ++ entries }
entries_made boot before [] messages d few can s =
    ap (log_after_all (record { boot = boot; entries = before })) s
    ∙ ap (λ (es : List Entry). let l : Log = record { boot = boot; entries = es } in l) (sym (append-nil before))
entries_made boot before (e ∷ entries) messages d few can s =
    let first : Log = record { boot = boot; entries = before } in
    let a : AreOthers e.key before = others_before before e entries d in
    let size = length-append before (e ∷ entries) in
    let room : length before < 64 = omega (arith, size, few) in
    let more : before ++ e ∷ entries ≡ (before ++ e ∷ []) ++ entries = sym (append_assoc before (e ∷ []) entries) in
    ap (log_after_all first) s.3
    ∙ (all_after first (messages_of boot e s.0) s.1
    ∙ (ap (λ l. log_after_all l s.1) (entry_made boot before e s.0 a room s.2 can.0)
    ∙ (entries_made boot (before ++ e ∷ []) entries s.1 (subst (λ l. AreDistinct (map (λ x. x.key) l)) more d) (subst (λ l. length l ≤ 64) more few) can.1 s.4
    ∙ ap (λ (es : List Entry). let l : Log = record { boot = boot; entries = es } in l) (sym more))))

hello_made : (boot : ℕ) → log_after empty_log (said boot HelloMsg) ≡ record { boot = boot; entries = [] }
unfolding log_after
hello_made boot = if_false (nat_lt boot 0) empty_log (record { boot = boot; entries = [] }) (le-ltb boot 0 (omega arith))

pub snapshot_made : (log : Log) (messages : List Message) → IsOrdered log → IsSnapshotOf log messages → log_after_all empty_log messages ≡ log
snapshot_made log messages o s =
    ap (log_after_all empty_log) s.1
    ∙ (ap (λ l. log_after_all l s.0) (hello_made log.boot) ∙ entries_made log.boot [] log.entries s.0 o.distinct o.few o.reads s.2)
