-- A message that is heard again changes nothing, and gets the answer that it got: so one that a dead logger's file has is answered when its sender repeats it.
use Rattle.std.proofs.Common.{◌≡◌, ◌⊎◌, inl, inr, ⊎_elim, ℕ, ◌+◌, ◌-◌, ◌≤◌, max, Bool, true, false, true≢false, ◌==◌, ◌&&◌, ◌||◌, nat_lt, nat_le, refl, sym, ap, ap₂, ◌∙◌, subst, Option, Some, None, option_map, List, [], ◌∷◌, ◌++◌, length, map, drop, length-append, length-drop, arith, if◌then◌else◌}
use Rattle.std.specs.List.{list_any}
use Rattle.std.proofs.lemmas.Bool.{or_parts}
use Rattle.std.proofs.lemmas.Bool.Decides.{nat_tests}
use Rattle.std.proofs.lemmas.List.{drop_all, append-nil}
use Rattle.std.proofs.lemmas.List.Folds.{list_any-append}
use Rattle.ft_io.specs.declared.Key.{Key}
use Rattle.ft_io.specs.Key.{key_eq}
use Rattle.ft_io.proofs.Choices.{holds_if, if_false, if_true, of_if}
use Rattle.seq_arith.specs.Message.{Numbers, Part, Body, Message, is_answer}
use Rattle.seq_arith.specs.Message.Body.{HelloMsg, OpenMsg, DataMsg, ReadMsg, DoneMsg, StaleMsg}
use Rattle.ft_model.specs.Log.{Log, Entry, new_entry, opened, with_entry, with_bytes, with_its_fin, with_part, with_read, is_next_read, with_body, is_hello, log_after, answer_to, answer_body, answer_from}
use Rattle.ft_model.proofs.Lists.{key_is}
use Rattle.ft_model.proofs.LogAnswers.{kept_boot, LogWent, log_went}
use Rattle.ft_model.proofs.LogAnswers.LogWent.{ignored, raised, changed}

-- bytes that were kept aren't kept again
bytes_again : (part : Part) (e : Entry) → with_bytes part (with_bytes part e) ≡ with_bytes part e
bytes_again part e =
    holds_if (λ x. with_bytes part x ≡ x) (e.fin || nat_lt (length e.bytes) part.offset) e (record e { bytes = e.bytes ++ drop (length e.bytes - part.offset) part.bytes })
    (λ t. if_true (e.fin || nat_lt (length e.bytes) part.offset) e _ t)
    (λ t. let more : List ℕ = e.bytes ++ drop (length e.bytes - part.offset) part.bytes in
    let none : drop (length more - part.offset) part.bytes ≡ [] =
    drop_all (length more - part.offset) part.bytes
    (grind (arith, nat_tests, or_parts e.fin (nat_lt (length e.bytes) part.offset) t, length-append e.bytes (drop (length e.bytes - part.offset) part.bytes), length-drop (length e.bytes - part.offset) part.bytes)) in
    holds_if (λ x. x ≡ record e { bytes = more }) (e.fin || nat_lt (length more) part.offset) _ _ (λ u. refl)
    (λ u. ap (λ (l : List ℕ). record e { bytes = l }) (ap (λ (l : List ℕ). more ++ l) none ∙ append-nil more)))

-- what has been brought to an end by a part stays at its end
abbrev pub done_part : Part → Entry → Entry
done_part part e = with_its_fin part (with_bytes part e)

fin_then_bytes : (part : Part) (e : Entry) → with_bytes part e ≡ e → with_bytes part (with_its_fin part e) ≡ with_its_fin part e
fin_then_bytes part e same =
    holds_if (λ x. with_bytes part x ≡ x) (part.fin && part.offset + length part.bytes == length e.bytes) (record e { fin = true }) e (λ t. refl) (λ t. same)

fin_again : (part : Part) (e : Entry) → with_its_fin part (with_its_fin part e) ≡ with_its_fin part e
fin_again part e =
    holds_if (λ x. with_its_fin part x ≡ x) (part.fin && part.offset + length part.bytes == length e.bytes) (record e { fin = true }) e
    (λ t. if_true (part.fin && part.offset + length part.bytes == length e.bytes) _ _ t)
    (λ t. if_false (part.fin && part.offset + length part.bytes == length e.bytes) _ _ t)

bytes_beside : (part : Part) (e : Entry) (n : ℕ) → with_bytes part (record e { acknowledged = n }) ≡ record (with_bytes part e) { acknowledged = n }
bytes_beside part e n =
    sym (of_if {X = Entry} {Y = Entry} (λ x. record x { acknowledged = n }) (e.fin || nat_lt (length e.bytes) part.offset) e
    (record e { bytes = e.bytes ++ drop (length e.bytes - part.offset) part.bytes }))

fin_beside : (part : Part) (e : Entry) (n : ℕ) → with_its_fin part (record e { acknowledged = n }) ≡ record (with_its_fin part e) { acknowledged = n }
fin_beside part e n =
    sym (of_if {X = Entry} {Y = Entry} (λ x. record x { acknowledged = n }) (part.fin && part.offset + length part.bytes == length e.bytes) (record e { fin = true }) e)

beside_acked : (part : Part) (e : Entry) (n : ℕ) → done_part part (record e { acknowledged = n }) ≡ record (done_part part e) { acknowledged = n }
beside_acked part e n = ap (with_its_fin part) (bytes_beside part e n) ∙ fin_beside part (with_bytes part e) n

part_again : (part : Part) (e : Entry) → with_part part (with_part part e) ≡ with_part part e
part_again part e =
    let f : Entry = done_part part e in
    let same : done_part part f ≡ f =
    ap (with_its_fin part) (fin_then_bytes part (with_bytes part e) (bytes_again part e)) ∙ fin_again part (with_bytes part e) in
    let n : ℕ = max e.acknowledged part.acked in
    let m : max n part.acked ≡ n = omega arith in
    ap {A = Entry} (λ x. record x { acknowledged = max n part.acked }) (beside_acked part f n ∙ ap {A = Entry} (λ x. record x { acknowledged = n }) same)
    ∙ ap {A = ℕ} (λ k. record f { acknowledged = k }) m

read_again : (index n : ℕ) (e : Entry) → with_read index n (with_read index n e) ≡ with_read index n e
read_again index n e =
    holds_if (λ x. with_read index n x ≡ x) (is_next_read e index n) (record e { lengths = e.lengths ++ n ∷ [] }) e
    (λ t. if_false (is_next_read (record e { lengths = e.lengths ++ n ∷ [] }) index n) _ _ (not_next t))
    (λ t. if_false (is_next_read e index n) _ _ t)
  where
    not_next : is_next_read e index n ≡ true → is_next_read (record e { lengths = e.lengths ++ n ∷ [] }) index n ≡ false
    not_next t = grind (arith, nat_tests, length-append e.lengths (n ∷ []))

entries_again : (key : Key) (f : Entry → Entry) (es : List Entry) → ((e : Entry) → (f e).key ≡ e.key) → ((e : Entry) → f (f e) ≡ f e)
    → map (λ e. if key_eq e.key key then f e else e) (map (λ e. if key_eq e.key key then f e else e) es) ≡ map (λ e. if key_eq e.key key then f e else e) es
entries_again key f [] keeps again = refl
entries_again key f (e ∷ es) keeps again =
    ap₂ (λ (x : Entry) (xs : List Entry). x ∷ xs)
    (holds_if (λ x. (if key_eq x.key key then f x else x) ≡ x) (key_eq e.key key) (f e) e
    (λ t. if_true (key_eq (f e).key key) (f (f e)) (f e) (ap (λ k. key_eq k key) (keeps e) ∙ t) ∙ again e)
    (λ t. if_false (key_eq e.key key) (f e) e t))
    (entries_again key f es keeps again)

entry_again : (key : Key) (f : Entry → Entry) (log : Log) → ((e : Entry) → (f e).key ≡ e.key) → ((e : Entry) → f (f e) ≡ f e)
    → with_entry key f (with_entry key f log) ≡ with_entry key f log
entry_again key f log keeps again = ap (λ (es : List Entry). record log { entries = es }) (entries_again key f log.entries keeps again)

part_key : (part : Part) (e : Entry) → (with_part part e).key ≡ e.key
part_key part e =
    holds_if (λ x. x.key ≡ e.key) (part.fin && part.offset + length part.bytes == length (with_bytes part e).bytes) _ (with_bytes part e)
    (λ t. bytes_key) (λ t. bytes_key)
  where
    bytes_key : (with_bytes part e).key ≡ e.key
    bytes_key = holds_if (λ x. x.key ≡ e.key) (e.fin || nat_lt (length e.bytes) part.offset) e _ (λ t. refl) (λ t. refl)

read_key : (index n : ℕ) (e : Entry) → (with_read index n e).key ≡ e.key
read_key index n e = holds_if (λ x. x.key ≡ e.key) (is_next_read e index n) _ e (λ t. refl) (λ t. refl)

opened_again : (n : Numbers) (log : Log) → opened n (opened n log) ≡ opened n log
opened_again n log =
    holds_if (λ l. opened n l ≡ l) (list_any (λ e. key_eq e.key n.key) log.entries || nat_le 64 (length log.entries)) log (record log { entries = log.entries ++ new_entry n ∷ [] })
    (λ t. if_true (list_any (λ e. key_eq e.key n.key) log.entries || nat_le 64 (length log.entries)) _ _ t)
    (λ t. if_true (list_any (λ e. key_eq e.key n.key) (log.entries ++ new_entry n ∷ []) || nat_le 64 (length (log.entries ++ new_entry n ∷ []))) _ _ (known log.entries))
  where
    known : (es : List Entry) → (list_any (λ e. key_eq e.key n.key) (es ++ new_entry n ∷ []) || nat_le 64 (length (es ++ new_entry n ∷ []))) ≡ true
    known es =
        let here : list_any (λ e. key_eq e.key n.key) (new_entry n ∷ []) ≡ true = ap (λ b. b || false) (key_is n.key) in
        let any : list_any (λ e. key_eq e.key n.key) (es ++ new_entry n ∷ []) ≡ true =
        list_any-append (λ e. key_eq e.key n.key) es (new_entry n ∷ []) ∙ ap (λ b. list_any (λ e. key_eq e.key n.key) es || b) here ∙ or_true (list_any (λ e. key_eq e.key n.key) es) in
        ap (λ b. b || nat_le 64 (length (es ++ new_entry n ∷ []))) any
      where
        or_true : (b : Bool) → (b || true) ≡ true
        or_true true = refl
        or_true false = refl

body_again : (body : Body) (log : Log) → with_body body (with_body body log) ≡ with_body body log
body_again (OpenMsg n) log = opened_again n log
body_again (DataMsg part) log = entry_again part.key (with_part part) log (part_key part) (part_again part)
body_again (ReadMsg key index n) log = entry_again key (with_read index n) log (read_key index n) (read_again index n)
body_again (DoneMsg key) log = entry_again key (λ e. record e { done = true }) log (λ e. refl) (λ e. refl)
body_again _ log = refl

hello_keeps : (body : Body) (log : Log) → is_hello body ≡ true → with_body body log ≡ log
hello_keeps HelloMsg log h = refl
hello_keeps (OpenMsg n) log h = absurd (true≢false (sym h))
hello_keeps (DataMsg part) log h = absurd (true≢false (sym h))
hello_keeps (ReadMsg key index n) log h = absurd (true≢false (sym h))
hello_keeps (DoneMsg key) log h = absurd (true≢false (sym h))
hello_keeps _ log h = refl

raised_again : (message : Message) (after now : Log) → is_hello message.body ≡ true → message.boot ≡ after.boot → LogWent after message now → now ≡ after
raised_again message after now hello boot (ignored e) = e
raised_again message after now hello boot (raised h le e) = e ∙ ap (λ b. record after { boot = b }) boot
raised_again message after now hello boot (changed b e) = e ∙ hello_keeps message.body after hello

changed_again : (message : Message) (log now : Log) → message.boot ≡ log.boot → LogWent (with_body message.body log) message now → now ≡ with_body message.body log
changed_again message log now boot (ignored e) = e
changed_again message log now boot (raised h le e) =
    e ∙ ap (λ b. record (with_body message.body log) { boot = b }) (boot ∙ sym (kept_boot message.body log))
changed_again message log now boot (changed b e) = e ∙ body_again message.body log

by_went : (log : Log) (message : Message) (after : Log) → LogWent log message after → log_after after message ≡ after ⊎ (after ≡ log)
by_went log message after (ignored e) = inr e
by_went log message after (raised hello le e) =
    inl (raised_again message after (log_after after message) hello (sym (ap (λ l. l.boot) e)) (log_went after message))
by_went log message after (changed boot e) =
    inl (subst (λ l. log_after l message ≡ l) (sym e) (changed_again message log (log_after (with_body message.body log) message) boot (log_went (with_body message.body log) message)))

pub log_again : (log : Log) (message : Message) → log_after (log_after log message) message ≡ log_after log message
log_again log message = ⊎_elim (λ same. same) (λ ignored. ap (λ l. log_after l message) ignored) (by_went log message (log_after log message) (log_went log message))

-- what is answered, by the log's boot before
abbrev pub body_by : ℕ → Log → Message → Option Body
body_by boot after message =
    if is_answer message.body then None
    else (if nat_lt message.boot boot then Some (StaleMsg boot) else (if is_hello message.body || message.boot == boot then answer_from message.body after else None))

hello_reported : (boot : ℕ) (after : Log) (message : Message) → boot ≤ message.boot → is_hello message.body ≡ true
    → body_by boot after message ≡ (if is_answer message.body then None else answer_from message.body after)
hello_reported boot after message le hello =
    let current : nat_lt message.boot boot ≡ false = grind (arith, nat_tests, le) in
    ap {A = Option Body} (λ o. if is_answer message.body then None else o)
    (if_false (nat_lt message.boot boot) (Some (StaleMsg boot)) (if is_hello message.body || message.boot == boot then answer_from message.body after else None) current
    ∙ if_true (is_hello message.body || message.boot == boot) (answer_from message.body after) None (ap (λ b. b || message.boot == boot) hello))

same_body : (log : Log) (message : Message) (after : Log) → LogWent log message after → body_by after.boot after message ≡ body_by log.boot after message
same_body log message after (ignored e) = ap (λ (l : Log). body_by l.boot after message) e
same_body log message after (raised hello le e) =
    let boot : after.boot ≡ message.boot = ap (λ (l : Log). l.boot) e in
    hello_reported after.boot after message (omega (arith, boot)) hello ∙ sym (hello_reported log.boot after message le hello)
same_body log message after (changed boot e) = ap (λ (b : ℕ). body_by b after message) (ap (λ (l : Log). l.boot) e ∙ kept_boot message.body log)

pub answered_again : (log : Log) (message : Message) → answer_to (log_after log message) message ≡ answer_to log message
unfolding answer_to
answered_again log message =
    ap {A = Option Body} (λ o. option_map (λ body. record { boot = message.boot; body = body }) o)
    (ap (λ (l : Log). answer_body (log_after log message) l message) (log_again log message) ∙ same_body log message (log_after log message) (log_went log message))
