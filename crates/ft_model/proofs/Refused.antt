-- What the log says when it ends a connection or refuses one stays so: an entry that is done stays done, and a full log takes no new one.
use Rattle.std.proofs.Common.{◌≡◌, ◌<◌, ◌≤◌, Bool, true, false, ◌==◌, ◌||◌, nat_lt, nat_le, refl, sym, ap, ◌∙◌, subst, true≢false, inl, inr, ◌⊎◌, ⊎_elim, eq-eqb, ltb-true, is_some, Option, Some, None, List, [], ◌∷◌, ◌++◌, map, length, take, drop, slice_get, arith, if◌then◌else◌}
use Rattle.std.proofs.lemmas.List.Folds.{list_any-append}
use Rattle.std.specs.List.{AllByRecursion, list_any}
use Rattle.std.proofs.lemmas.Bool.{or_parts, or_right}
use Rattle.ft_io.specs.declared.Key.{Key}
use Rattle.ft_io.specs.Key.{key_eq}
use Rattle.seq_arith.specs.Packet.{has_rst, has_ack}
use Rattle.seq_arith.specs.Message.{Numbers, Body, Message, is_answer}
use Rattle.seq_arith.specs.Message.Body.{HelloMsg, ListMsg, EntryMsg, BytesMsg, PartMsg, CutsMsg, LensMsg, OpenMsg, DataMsg, StableMsg, ReadMsg, ReadsMsg, DoneMsg, EndedMsg, FullMsg}
use Rattle.ft_model.specs.Log.{Log, Entry, entry_of, new_entry, opened, with_part, with_read, with_body, is_hello, log_after, opened_answer, answer_from, kept_of, head_of, part_of, lens_of}
use Rattle.ft_model.specs.Network.{Packet, source_of, destination_of}
use Rattle.ft_model.specs.Network.Packet.{To_server, To_client, To_logger, From_logger}
use Rattle.ft_model.specs.Growth.{LogGrows}
use Rattle.ft_model.specs.Keys.{has_key}
use Rattle.ft_model.proofs.Lists.{or_left, all_of, all_map, all_find, found_passes, key_is, none_is_some, some_is, or_second}
use Rattle.ft_model.proofs.Grows.{found_later, part_grows, read_grows, done_grows}
use Rattle.ft_model.proofs.Keys.{has_key_map, absent_key}
use Rattle.ft_model.proofs.LogAnswers.{LogWent, all_answers}
use Rattle.ft_model.proofs.LogAnswers.LogWent.{ignored, raised, changed}
use Rattle.ft_model.proofs.Happened.{answers}
use Rattle.ft_model.proofs.Fenced.{is_change}
use Rattle.ft_model.proofs.Fetching.{on_some, chosen_some, reported_last}
use Rattle.ft_model.proofs.Resumed.{length_map}
use Rattle.ft_model.proofs.Asked.{entry_keys, keys_stay, map_more}
use Rattle.ft_io.proofs.Choices.{holds_if}

-- the log has an entry of this key, and it is done
abbrev pub IsDone : Log → Key → Type 0
IsDone log key = (e : Entry) × (entry_of key log ≡ Some e) × (e.done ≡ true)

-- a log with these keys has no entry of this one, and takes no new one
abbrev pub IsShut : List Key → Key → Type 0
IsShut keys key = (has_key key keys ≡ false) × (64 ≤ length keys)

-- what an answer says for good
abbrev pub BodySays : Log → Body → Type 0
BodySays log (EndedMsg key) = IsDone log key
BodySays log (FullMsg key) = IsShut (entry_keys log) key
BodySays log _ = Unit {0}

abbrev pub Says : Log → Packet → Type 0
Says log (From_logger message) = BodySays log message.body
Says log _ = Unit {0}

pub done_later : (before after : Log) (key : Key) → LogGrows before after → IsDone before key → IsDone after key
done_later before after key g d =
    let later = found_later key before.entries after.entries d.0 g.entries d.1 in
    (later.0, later.1, later.2.done d.2)

-- the keys of the log after a message: the same ones, or one more, for which an Open of the log's own boot asked while there was room
abbrev pub KeysGo : Log → Message → Log → Type 0
KeysGo log message after =
    (entry_keys after ≡ entry_keys log)
    ⊎ ((n : Numbers) × (message.boot ≡ log.boot) × (message.body ≡ OpenMsg n) × (length (entry_keys log) < 64) × (entry_keys after ≡ entry_keys log ++ n.key ∷ []))

opened_keys : (n : Numbers) (log : Log)
    → (entry_keys (opened n log) ≡ entry_keys log) ⊎ ((length (entry_keys log) < 64) × (entry_keys (opened n log) ≡ entry_keys log ++ n.key ∷ []))
opened_keys n log =
    holds_if (λ l. (entry_keys l ≡ entry_keys log) ⊎ ((length (entry_keys log) < 64) × (entry_keys l ≡ entry_keys log ++ n.key ∷ [])))
    (list_any (λ e. key_eq e.key n.key) log.entries || nat_le 64 (length log.entries)) log (record log { entries = log.entries ++ new_entry n ∷ [] }) (λ t. inl refl)
    (λ t. let few = (or_parts (list_any (λ e. key_eq e.key n.key) log.entries) (nat_le 64 (length log.entries)) t).1 in
    let room : length log.entries < 64 = grind (arith, few) in
    let size = length_map (λ e. e.key) log.entries in
    inr (omega (arith, room, size), map_more (λ e. e.key) log.entries (new_entry n)))

kept_keys : (body : Body) (log : Log)
    → (entry_keys (with_body body log) ≡ entry_keys log) ⊎ ((n : Numbers) × (body ≡ OpenMsg n) × (length (entry_keys log) < 64) × (entry_keys (with_body body log) ≡ entry_keys log ++ n.key ∷ []))
kept_keys (OpenMsg n) log = ⊎_elim (λ e. inl e) (λ r. inr (n, refl, r.0, r.1)) (opened_keys n log)
kept_keys (DataMsg part) log = inl (keys_stay part.key (with_part part) log.entries (part_grows part))
kept_keys (ReadMsg key index n) log = inl (keys_stay key (with_read index n) log.entries (read_grows index n))
kept_keys (DoneMsg key) log = inl (keys_stay key (λ e. record e { done = true }) log.entries done_grows)
kept_keys _ log = inl refl

pub keys_go : (log : Log) (message : Message) (after : Log) → LogWent log message after → KeysGo log message after
keys_go log message after (ignored e) = inl (ap entry_keys e)
keys_go log message after (raised h b e) = inl (ap entry_keys e)
keys_go log message after (changed b e) =
    ⊎_elim (λ same. inl (ap entry_keys e ∙ same)) (λ r. inr (r.0, b, r.1, r.2, ap entry_keys e ∙ r.3)) (kept_keys message.body log)

pub shut_later : (log : Log) (message : Message) (after : Log) (key : Key) → KeysGo log message after → IsShut (entry_keys log) key → IsShut (entry_keys after) key
shut_later log message after key (inl e) s = subst (λ keys. IsShut keys key) (sym e) s
shut_later log message after key (inr r) s = let room = r.3 in absurd (omega (arith, s.1, room))

body_says_later : (log : Log) (message : Message) (after : Log) → LogGrows log after → KeysGo log message after → (body : Body) → BodySays log body → BodySays after body
body_says_later log message after g k (EndedMsg key) s = done_later log after key g s
body_says_later log message after g k (FullMsg key) s = shut_later log message after key k s
body_says_later log message after g k _ s = tt

pub says_later : (log : Log) (message : Message) (after : Log) → LogGrows log after → KeysGo log message after → (packet : Packet) → Says log packet → Says after packet
says_later log message after g k (From_logger m) s = body_says_later log message after g k m.body s
says_later log message after g k (To_server segment) s = tt
says_later log message after g k (To_client segment) s = tt
says_later log message after g k (To_logger m) s = tt

no_answer : (body : Body) → is_change body ≡ true → (is_answer body ≡ false) × (is_hello body ≡ false)
no_answer (OpenMsg n) c = (refl, refl)
no_answer (DataMsg part) c = (refl, refl)
no_answer (ReadMsg key index n) c = (refl, refl)
no_answer (DoneMsg key) c = (refl, refl)
no_answer _ c = absurd (true≢false (sym c))

by_tests : (log : Log) (message : Message) (a h l b : Bool) → a ≡ false → h ≡ false → nat_lt message.boot log.boot ≡ l → (message.boot == log.boot) ≡ b
    → message.boot ≡ (if a || l then log else (if h then record log { boot = message.boot } else (if b then with_body message.body log else log))).boot
    → (if a || l then log else (if h then record log { boot = message.boot } else (if b then with_body message.body log else log))) ≡ with_body message.body log
by_tests log message true h l b p q r s own = absurd (true≢false p)
by_tests log message false true l b p q r s own = absurd (true≢false q)
by_tests log message false false true b p q r s own = let less : message.boot < log.boot = ltb-true _ _ r in absurd (omega (arith, less, own))
by_tests log message false false false true p q r s own = refl
by_tests log message false false false false p q r s own = absurd (true≢false (sym (eq-eqb message.boot log.boot own) ∙ s))

-- a change that is answered in the log's boot was made
changes : (log : Log) (message : Message) → is_change message.body ≡ true → message.boot ≡ (log_after log message).boot → log_after log message ≡ with_body message.body log
unfolding log_after
changes log message c own =
    by_tests log message (is_answer message.body) (is_hello message.body) (nat_lt message.boot log.boot) (message.boot == log.boot) (no_answer message.body c).0 (no_answer message.body c).1 refl refl own

-- after Done every entry of the key is done
abbrev EndsSo : Key → Entry → Type 0
EndsSo key e = key_eq e.key key ≡ true → e.done ≡ true

abbrev as_done : Entry → Entry
as_done e = record e { done = true }

all_done : (key : Key) (es : List Entry) → AllByRecursion (EndsSo key) (map (λ e. if key_eq e.key key then as_done e else e) es)
all_done key es =
    all_map (EndsSo key) (λ e. if key_eq e.key key then as_done e else e) es
    (all_of (λ e. EndsSo key (if key_eq e.key key then as_done e else e)) es
    (λ e. holds_if (EndsSo key) (key_eq e.key key) (as_done e) e (λ t k. refl) (λ t k. absurd (true≢false (sym k ∙ t)))))

ended_says : (log after : Log) (key : Key) (answer : Body) → after ≡ with_body (DoneMsg key) log → answer_from (DoneMsg key) after ≡ Some answer → BodySays after answer
ended_says log after key answer c t =
    let o = on_some (entry_of key after) (λ e. Some (EndedMsg key)) answer t in
    let ends : AllByRecursion (EndsSo key) after.entries = subst (λ l. AllByRecursion (EndsSo key) l.entries) (sym c) (all_done key log.entries) in
    let e : Entry = o.0 in
    let done : e.done ≡ true = all_find (EndsSo key) (λ x. key_eq x.key key) after.entries e ends o.1 (found_passes (λ x. key_eq x.key key) after.entries e o.1) in
    subst (BodySays after) (some_is _ _ o.2) (e, o.1, done)

last_key : (key : Key) (keys : List Key) → has_key key (keys ++ key ∷ []) ≡ true
last_key key [] = or_left (key_eq key key) false (key_is key)
last_key key (k ∷ keys) = or_right (key_eq k key) (has_key key (keys ++ key ∷ [])) (last_key key keys)

-- an Open that leaves its key without an entry found the log full
opened_shut : (n : Numbers) (log : Log) → has_key n.key (entry_keys (opened n log)) ≡ false → 64 ≤ length (entry_keys (opened n log))
opened_shut n log =
    holds_if (λ l. has_key n.key (entry_keys l) ≡ false → 64 ≤ length (entry_keys l)) (list_any (λ e. key_eq e.key n.key) log.entries || nat_le 64 (length log.entries)) log
    (record log { entries = log.entries ++ new_entry n ∷ [] })
    (λ t none. let many = or_second (list_any (λ e. key_eq e.key n.key) log.entries) (nat_le 64 (length log.entries)) t (has_key_map (λ e. e.key) n.key log.entries ∙ none) in
    let full : 64 ≤ length log.entries = grind (arith, many) in
    let size = length_map (λ e. e.key) log.entries in
    omega (arith, full, size))
    (λ t none. absurd (true≢false (sym (ap (has_key n.key) (map_more (λ e. e.key) log.entries (new_entry n)) ∙ last_key n.key (entry_keys log)) ∙ none)))

full_says : (log after : Log) (n : Numbers) (o : Option Entry) (answer : Body) → after ≡ opened n log → entry_of n.key after ≡ o → opened_answer n.key o ≡ Some answer → BodySays after answer
full_says log after n (Some e) answer c f t = subst (BodySays after) (some_is _ _ t) tt
full_says log after n None answer c f t =
    let none : has_key n.key (entry_keys after) ≡ false = absent_key (λ e. e.key) n.key after.entries (ap is_some f) in
    let shut : 64 ≤ length (entry_keys after) = subst (λ l. has_key n.key (entry_keys l) ≡ false → 64 ≤ length (entry_keys l)) (sym c) (opened_shut n log) none in
    subst (BodySays after) (some_is _ _ t) (none, shut)

-- what the log tells
reported_says : (body : Body) (log after : Log) (answer : Body) → (is_change body ≡ true → after ≡ with_body body log) → answer_from body after ≡ Some answer → BodySays after answer
reported_says (OpenMsg n) log after answer c t = full_says log after n (entry_of n.key after) answer (c refl) refl t
reported_says (DoneMsg key) log after answer c t = ended_says log after key answer (c refl) t
reported_says HelloMsg log after answer c t = subst (BodySays after) (some_is _ _ t) tt
reported_says (DataMsg part) log after answer c t =
    let o = on_some (entry_of part.key after) (λ e. Some (StableMsg (kept_of e))) answer (reported_last part.more _ answer t) in subst (BodySays after) (some_is _ _ o.2) tt
reported_says (ReadMsg key index n) log after answer c t =
    let o = on_some (entry_of key after) (λ e. Some (ReadsMsg (kept_of e))) answer t in subst (BodySays after) (some_is _ _ o.2) tt
reported_says (ListMsg index) log after answer c t =
    let o = on_some (slice_get after.entries index) (λ e. Some (EntryMsg index (head_of e))) answer t in subst (BodySays after) (some_is _ _ o.2) tt
reported_says (BytesMsg key offset) log after answer c t =
    let o = on_some (entry_of key after) (λ e. part_of e offset) answer t in
    subst (BodySays after) (chosen_some (nat_lt offset (length o.0.bytes)) (PartMsg o.0.key offset (take 1024 (drop offset o.0.bytes))) answer o.2) tt
reported_says (CutsMsg key first) log after answer c t =
    let o = on_some (entry_of key after) (λ e. lens_of e first) answer t in
    subst (BodySays after) (chosen_some (nat_lt first (length o.0.lengths)) (LensMsg o.0.key first (take 512 (drop first o.0.lengths))) answer o.2) tt
reported_says _ log after answer c t = none_is_some answer t

pub answers_say : (log : Log) (message : Message) → AllByRecursion (Says (log_after log message)) (answers log message)
answers_say log message =
    all_answers (Says (log_after log message)) log message
    (λ body a. ⊎_elim (λ s. subst (BodySays (log_after log message)) (sym s) tt)
    (λ o. reported_says message.body log (log_after log message) body (λ c. changes log message c o.0) o.1) a)

-- a RST goes to a key that is done, or that the log never takes: so it stays
abbrev pub ResetsEnded : Log → Packet → Type 0
ResetsEnded log (To_client segment) = has_rst segment ≡ true → IsDone log (destination_of segment) ⊎ IsShut (entry_keys log) (destination_of segment)
ResetsEnded log _ = Unit {0}

pub resets_later : (log : Log) (message : Message) (after : Log) → LogGrows log after → KeysGo log message after → (packet : Packet) → ResetsEnded log packet → ResetsEnded after packet
resets_later log message after g k (To_client segment) e = λ r.
    ⊎_elim (λ d. inl (done_later log after (destination_of segment) g d)) (λ s. inr (shut_later log message after (destination_of segment) k s)) (e r)
resets_later log message after g k (To_server segment) e = tt
resets_later log message after g k (To_logger m) e = tt
resets_later log message after g k (From_logger m) e = tt

-- a segment with ACK comes from a client that the log has: it was opened by a SYN-ACK
abbrev pub HasCaller : List Key → Packet → Type 0
HasCaller keys (To_server segment) = has_ack segment ≡ true → has_key (source_of segment) keys ≡ true
HasCaller keys _ = Unit {0}

has_key_later : (log : Log) (message : Message) (after : Log) (key : Key) → KeysGo log message after → has_key key (entry_keys log) ≡ true → has_key key (entry_keys after) ≡ true
has_key_later log message after key (inl e) h = ap (has_key key) e ∙ h
has_key_later log message after key (inr r) h =
    ap (has_key key) r.4 ∙ (list_any-append (λ k. key_eq k key) (entry_keys log) (r.0.key ∷ []) ∙ or_left (has_key key (entry_keys log)) (has_key key (r.0.key ∷ [])) h)

pub caller_later : (log : Log) (message : Message) (after : Log) → KeysGo log message after → (packet : Packet) → HasCaller (entry_keys log) packet → HasCaller (entry_keys after) packet
caller_later log message after k (To_server segment) c = λ a. has_key_later log message after (source_of segment) k (c a)
caller_later log message after k (To_client segment) c = tt
caller_later log message after k (To_logger m) c = tt
caller_later log message after k (From_logger m) c = tt
