-- A log whose entries have different keys is left as it is by a message that is no change of it.
use Rattle.std.proofs.Common.{◌≡◌, ◌∙◌, ◌≤◌, Bool, true, false, not, ◌&&◌, ◌||◌, refl, sym, ap, ap₂, subst, cond, arith, List, [], ◌∷◌, map, find, nat_lt, Some, if◌then◌else◌}
use Rattle.std.specs.Prelude.{◌==◌}
use Rattle.std.specs.Option.{option_map_or}
use Rattle.std.proofs.lemmas.Bool.{ltb-false, or_parts, not-false}
use Rattle.ft_io.specs.declared.Key.{Key}
use Rattle.ft_io.specs.Key.{key_eq}
use Rattle.ft_io.proofs.Choices.{by_cases, if_false, if_true}
use Rattle.seq_arith.specs.Message.{Message, Body, is_answer}
use Rattle.seq_arith.specs.Message.Body.{OpenMsg, DataMsg, ReadMsg, DoneMsg}
use Rattle.ft_model.specs.Log.{Log, Entry, log_after, with_message, with_body, with_entry, entry_of, with_part, with_read, is_next_read, is_hello}
use Rattle.ft_model.specs.Keys.{AreDistinct, has_key}
use Rattle.ft_model.proofs.Asked.{entry_keys}
use Rattle.ft_model.proofs.Lists.{same_key}
use Rattle.logger_store.specs.Changes.{part_changes, body_changes, changes}
use Rattle.logger_store.proofs.Changed.{part_stays, read_stays, end_stays, open_stays, and_rest}

abbrev each : Key → (Entry → Entry) → List Entry → List Entry
each key change es = map (λ e. if key_eq e.key key then change e else e) es

absent : (key : Key) (change : Entry → Entry) (es : List Entry) → has_key key (map (λ e. e.key) es) ≡ false → each key change es ≡ es
absent key change [] none = refl
absent key change (e ∷ es) none =
    let parts = or_parts (key_eq e.key key) (has_key key (map (λ x. x.key) es)) none in
    ap₂ (λ x xs. x ∷ xs) (if_false (key_eq e.key key) (change e) e parts.0) (absent key change es parts.1)

found_stays : (key : Key) (change : Entry → Entry) (test : Entry → Bool) → ((e : Entry) → test e ≡ false → change e ≡ e) → (es : List Entry) → AreDistinct (map (λ e. e.key) es)
    → option_map_or test (find (λ e. key_eq e.key key) es) false ≡ false → each key change es ≡ es
found_stays key change test stays [] d none = refl
found_stays key change test stays (e ∷ es) d none =
    by_cases (key_eq e.key key)
    (λ t. let own : test e ≡ false = sym (ap (λ b. option_map_or test (cond b (Some e) (find (λ x. key_eq x.key key) es)) false) t) ∙ none in
    let same : e.key ≡ key = same_key e.key key t in
    ap₂ (λ x xs. x ∷ xs) (if_true (key_eq e.key key) (change e) e t ∙ stays e own) (absent key change es (subst (λ k. has_key k (map (λ x. x.key) es) ≡ false) same d.0)))
    (λ t. let rest : option_map_or test (find (λ x. key_eq x.key key) es) false ≡ false =
    sym (ap (λ b. option_map_or test (cond b (Some e) (find (λ x. key_eq x.key key) es)) false) t) ∙ none in
    ap₂ (λ x xs. x ∷ xs) (if_false (key_eq e.key key) (change e) e t) (found_stays key change test stays es d.1 rest))

entry_stays : (key : Key) (change : Entry → Entry) (test : Entry → Bool) (log : Log) → AreDistinct (entry_keys log) → ((e : Entry) → test e ≡ false → change e ≡ e)
    → option_map_or test (entry_of key log) false ≡ false → with_entry key change log ≡ log
entry_stays key change test log d stays none = ap (λ es. record log { entries = es }) (found_stays key change test stays log.entries d none)

body_stays : (body : Body) (log : Log) → AreDistinct (entry_keys log) → body_changes body log ≡ false → with_body body log ≡ log
body_stays (OpenMsg n) log d none = open_stays n log (not-false _ none)
body_stays (DataMsg part) log d none = entry_stays part.key (with_part part) (part_changes part) log d (part_stays part) none
body_stays (ReadMsg key index n) log d none = entry_stays key (with_read index n) (λ e. is_next_read e index n) log d (read_stays index n) none
body_stays (DoneMsg key) log d none = entry_stays key (λ e. record e { done = true }) (λ e. not e.done) log d end_stays none
body_stays _ log d none = refl

pub stays : (log : Log) (message : Message) → AreDistinct (entry_keys log) → changes log message ≡ false → log_after log message ≡ log
unfolding changes log_after
stays log message d none =
    by_cases (is_answer message.body || nat_lt message.boot log.boot)
    (λ t. if_true (is_answer message.body || nat_lt message.boot log.boot) log (with_message message log) t)
    (λ t. let parts = or_parts (is_answer message.body) (nat_lt message.boot log.boot) t in
    let rest = and_rest (not (is_answer message.body)) _ (ap not parts.0) none in
    let above : log.boot ≤ message.boot = ltb-false message.boot log.boot parts.1 in
    if_false (is_answer message.body || nat_lt message.boot log.boot) log (with_message message log) t ∙
    by_cases (is_hello message.body)
    (λ h. let no : nat_lt log.boot message.boot ≡ false = sym (if_true (is_hello message.body) _ _ h) ∙ rest in
    let below : message.boot ≤ log.boot = ltb-false log.boot message.boot no in
    let same : message.boot ≡ log.boot = omega (arith, above, below) in
    if_true (is_hello message.body) (record log { boot = message.boot }) _ h ∙ ap (λ n. record log { boot = n }) same)
    (λ h. let no : (message.boot == log.boot && body_changes message.body log) ≡ false = sym (if_false (is_hello message.body) _ _ h) ∙ rest in
    if_false (is_hello message.body) (record log { boot = message.boot }) _ h ∙
    by_cases (message.boot == log.boot)
    (λ b. if_true (message.boot == log.boot) (with_body message.body log) log b ∙ body_stays message.body log d (and_rest (message.boot == log.boot) _ b no))
    (λ b. if_false (message.boot == log.boot) (with_body message.body log) log b)))
