-- The log only grows.
use Rattle.std.proofs.Common.{◌≡◌, ℕ, ◌+◌, ◌<◌, ◌≤◌, Bool, true, false, ◌&&◌, ◌||◌, nat_lt, nat_le, ◌==◌, max, le_refl, le_of_eq, refl, sym, ap, ◌∙◌, subst, true≢false, find, Option, Some, None, List, [], ◌∷◌, ◌++◌, map, length, arith, length-append, if◌then◌else◌, ltb-true, ⊎_elim}
use Rattle.std.specs.List.{list_any}
use Rattle.std.proofs.lemmas.Bool.{or_parts, or_right}
use Rattle.ft_io.specs.declared.Key.{Key}
use Rattle.ft_io.specs.Key.{key_eq}
use Rattle.seq_arith.specs.Message.{Numbers, Part, Body, Message, is_answer}
use Rattle.seq_arith.specs.Message.Body.{HelloMsg, OpenMsg, DataMsg, ReadMsg, DoneMsg}
use Rattle.ft_model.specs.Offset.{one_if}
use Rattle.ft_model.specs.Log.{Entry, Log, entry_of, new_entry, opened, with_bytes, with_its_fin, with_part, is_next_read, with_read, with_body, is_hello, with_message, log_after}
use Rattle.ft_model.specs.Growth.{IsPrefix, EntryGrows, EntriesGrow, LogGrows, lengths_in, units_in, logged_lengths, logged_units}
use Rattle.ft_model.proofs.Lists.{prefix_refl, prefix_more, prefix_trans, none_is_some, some_is, or_cases}
use Rattle.ft_io.proofs.Choices.{holds_if}

pub entry_refl : (e : Entry) → EntryGrows e e
entry_refl e = record {
  key = refl;
  cisn = refl;
  sisn = refl;
  mss = refl;
  bytes = prefix_refl e.bytes;
  fin = λ h. h;
  ended = λ h. refl;
  lengths = prefix_refl e.lengths;
  acknowledged = le_refl e.acknowledged;
  done = λ h. h;
}

pub entry_trans : (a b c : Entry) → EntryGrows a b → EntryGrows b c → EntryGrows a c
entry_trans a b c p q = record {
  key = q.key ∙ p.key;
  cisn = q.cisn ∙ p.cisn;
  sisn = q.sisn ∙ p.sisn;
  mss = q.mss ∙ p.mss;
  bytes = prefix_trans a.bytes b.bytes c.bytes p.bytes q.bytes;
  fin = λ h. q.fin (p.fin h);
  ended = λ h. q.ended (p.fin h) ∙ p.ended h;
  lengths = prefix_trans a.lengths b.lengths c.lengths p.lengths q.lengths;
  acknowledged = omega (arith, p.acknowledged, q.acknowledged);
  done = λ h. q.done (p.done h);
}

pub entries_refl : (es : List Entry) → EntriesGrow es es
entries_refl [] = tt
entries_refl (e ∷ es) = (entry_refl e, entries_refl es)

pub entries_trans : (xs ys zs : List Entry) → EntriesGrow xs ys → EntriesGrow ys zs → EntriesGrow xs zs
entries_trans [] ys zs p q = tt
entries_trans (a ∷ xs) [] zs p q = absurd p
entries_trans (a ∷ xs) (b ∷ ys) [] p q = absurd q
entries_trans (a ∷ xs) (b ∷ ys) (c ∷ zs) p q = (entry_trans a b c p.0 q.0, entries_trans xs ys zs p.1 q.1)

pub log_refl : (log : Log) → LogGrows log log
log_refl log = record { boot = le_refl log.boot; entries = entries_refl log.entries }

pub log_trans : (a b c : Log) → LogGrows a b → LogGrows b c → LogGrows a c
log_trans a b c p q = record { boot = omega (arith, p.boot, q.boot); entries = entries_trans a.entries b.entries c.entries p.entries q.entries }

bytes_grow : (part : Part) (e : Entry) → EntryGrows e (with_bytes part e)
bytes_grow part e =
    holds_if (EntryGrows e) (e.fin || nat_lt (length e.bytes) part.offset) e _ (λ t. entry_refl e)
    (λ t. record {
      key = refl;
      cisn = refl;
      sisn = refl;
      mss = refl;
      bytes = prefix_more e.bytes _;
      fin = λ h. h;
      ended = λ h. absurd (true≢false (sym h ∙ (or_parts e.fin (nat_lt (length e.bytes) part.offset) t).0));
      lengths = prefix_refl e.lengths;
      acknowledged = le_refl e.acknowledged;
      done = λ h. h;
    })

fin_grows : (part : Part) (e : Entry) → EntryGrows e (with_its_fin part e)
fin_grows part e =
    holds_if (EntryGrows e) (part.fin && part.offset + length part.bytes == length e.bytes) _ e
    (λ t. record {
      key = refl;
      cisn = refl;
      sisn = refl;
      mss = refl;
      bytes = prefix_refl e.bytes;
      fin = λ h. refl;
      ended = λ h. refl;
      lengths = prefix_refl e.lengths;
      acknowledged = le_refl e.acknowledged;
      done = λ h. h;
    })
    (λ t. entry_refl e)

acknowledged_more : (a b : Entry) (n : ℕ) → EntryGrows a b → a.acknowledged ≤ n → EntryGrows a (record b { acknowledged = n })
acknowledged_more a b n g h = record {
  key = g.key;
  cisn = g.cisn;
  sisn = g.sisn;
  mss = g.mss;
  bytes = g.bytes;
  fin = g.fin;
  ended = g.ended;
  lengths = g.lengths;
  acknowledged = h;
  done = g.done;
}

pub part_grows : (part : Part) (e : Entry) → EntryGrows e (with_part part e)
part_grows part e =
    acknowledged_more e (with_its_fin part (with_bytes part e)) (max e.acknowledged part.acked)
    (entry_trans e (with_bytes part e) (with_its_fin part (with_bytes part e)) (bytes_grow part e) (fin_grows part (with_bytes part e)))
    (omega arith)

pub read_grows : (index n : ℕ) (e : Entry) → EntryGrows e (with_read index n e)
read_grows index n e =
    holds_if (EntryGrows e) (is_next_read e index n) _ e
    (λ t. record {
      key = refl;
      cisn = refl;
      sisn = refl;
      mss = refl;
      bytes = prefix_refl e.bytes;
      fin = λ h. h;
      ended = λ h. refl;
      lengths = prefix_more e.lengths (n ∷ []);
      acknowledged = le_refl e.acknowledged;
      done = λ h. h;
    })
    (λ t. entry_refl e)

pub done_grows : (e : Entry) → EntryGrows e (record e { done = true })
done_grows e = record {
  key = refl;
  cisn = refl;
  sisn = refl;
  mss = refl;
  bytes = prefix_refl e.bytes;
  fin = λ h. h;
  ended = λ h. refl;
  lengths = prefix_refl e.lengths;
  acknowledged = le_refl e.acknowledged;
  done = λ h. refl;
}

changed_grow : (key : Key) (change : Entry → Entry) (es : List Entry) → ((e : Entry) → EntryGrows e (change e))
    → EntriesGrow es (map (λ e. if key_eq e.key key then change e else e) es)
changed_grow key change [] g = tt
changed_grow key change (e ∷ es) g =
    (holds_if (EntryGrows e) (key_eq e.key key) (change e) e (λ t. g e) (λ t. entry_refl e), changed_grow key change es g)

more_grow : (es fs : List Entry) → EntriesGrow es (es ++ fs)
more_grow [] fs = tt
more_grow (e ∷ es) fs = (entry_refl e, more_grow es fs)

opened_grows : (n : Numbers) (log : Log) → LogGrows log (opened n log)
opened_grows n log =
    holds_if (LogGrows log) (list_any (λ e. key_eq e.key n.key) log.entries || nat_le 64 (length log.entries)) log _ (λ t. log_refl log)
    (λ t. record { boot = le_refl log.boot; entries = more_grow log.entries (new_entry n ∷ []) })

pub kept_grows : (body : Body) (log : Log) → LogGrows log (with_body body log)
kept_grows (OpenMsg n) log = opened_grows n log
kept_grows (DataMsg part) log = record { boot = le_refl log.boot; entries = changed_grow part.key (with_part part) log.entries (part_grows part) }
kept_grows (ReadMsg key index n) log = record { boot = le_refl log.boot; entries = changed_grow key (with_read index n) log.entries (read_grows index n) }
kept_grows (DoneMsg key) log = record { boot = le_refl log.boot; entries = changed_grow key (λ e. record e { done = true }) log.entries done_grows }
kept_grows _ log = log_refl log

received_grows : (message : Message) (log : Log) → log.boot ≤ message.boot → LogGrows log (with_message message log)
received_grows message log h =
    holds_if (LogGrows log) (is_hello message.body) _ _ (λ t. record { boot = h; entries = entries_refl log.entries })
    (λ t. holds_if (LogGrows log) (message.boot == log.boot) _ _ (λ s. kept_grows message.body log) (λ s. log_refl log))

pub log_grows : (log : Log) (message : Message) → LogGrows log (log_after log message)
unfolding log_after
log_grows log message =
    holds_if (LogGrows log) (is_answer message.body || nat_lt message.boot log.boot) log _ (λ t. log_refl log)
    (λ t. let parts = or_parts (is_answer message.body) (nat_lt message.boot log.boot) t in
    let h : log.boot ≤ message.boot = grind (arith, parts) in
    received_grows message log h)

-- Fence: a message of a boot that the log has left behind changes nothing
pub old_boots_change_nothing : (log : Log) (message : Message) → message.boot < log.boot → log_after log message ≡ log
unfolding log_after
old_boots_change_nothing log message h =
    let old : nat_lt message.boot log.boot ≡ true = grind (arith, h) in
    ap (λ b. if b then log else with_message message log) (or_right (is_answer message.body) (nat_lt message.boot log.boot) old)

later_by : (key : Key) (e f : Entry) (es fs : List Entry) (x : Entry) (b : Bool) → EntryGrows e f → key_eq e.key key ≡ b
    → (if b then Some e else find (λ y. key_eq y.key key) es) ≡ Some x
    → (find (λ y. key_eq y.key key) es ≡ Some x → (y : Entry) × (find (λ y. key_eq y.key key) fs ≡ Some y) × EntryGrows x y)
    → (y : Entry) × ((if b then Some f else find (λ y. key_eq y.key key) fs) ≡ Some y) × EntryGrows x y
later_by key e f es fs x true g t found more = (f, refl, subst (λ z. EntryGrows z f) (some_is e x found) g)
later_by key e f es fs x false g t found more = more found

-- what a key finds it finds later, grown
pub found_later : (key : Key) (es fs : List Entry) (x : Entry) → EntriesGrow es fs → find (λ y. key_eq y.key key) es ≡ Some x
    → (y : Entry) × (find (λ y. key_eq y.key key) fs ≡ Some y) × EntryGrows x y
found_later key [] fs x g e = none_is_some x e
found_later key (e ∷ es) [] x g found = absurd g
found_later key (e ∷ es) (f ∷ fs) x g found =
    subst (λ k. (y : Entry) × ((if key_eq k key then Some f else find (λ y. key_eq y.key key) fs) ≡ Some y) × EntryGrows x y) (sym g.0.key)
    (later_by key e f es fs x (key_eq e.key key) g.0 refl found (found_later key es fs x g.1))

units_by : (e f : Entry) (b c : Bool) → EntryGrows e f → e.fin ≡ b → f.fin ≡ c → length e.bytes + one_if b ≤ length f.bytes + one_if c
units_by e f true true g s t = le_of_eq (ap (λ l. length l + 1) (sym (g.ended s)))
units_by e f true false g s t = absurd (true≢false (sym (g.fin s) ∙ t))
units_by e f false c g s t =
    let more = length-append e.bytes g.bytes.0 in
    let whole : length (e.bytes ++ g.bytes.0) ≡ length f.bytes = ap length g.bytes.1 in
    omega (arith, more, whole)

pub units_grow : (e f : Entry) → EntryGrows e f → length e.bytes + one_if e.fin ≤ length f.bytes + one_if f.fin
units_grow e f g = units_by e f e.fin f.fin g refl refl

pub lengths_grow : (e f : Entry) → EntryGrows e f → length e.lengths ≤ length f.lengths
lengths_grow e f g =
    let more = length-append e.lengths g.lengths.0 in
    let whole : length (e.lengths ++ g.lengths.0) ≡ length f.lengths = ap length g.lengths.1 in
    omega (arith, more, whole)

units_of : (key : Key) (before after : Log) (o : Option Entry) → LogGrows before after → entry_of key before ≡ o → units_in o ≤ logged_units key after
units_of key before after (Some e) g found =
    let later = found_later key before.entries after.entries e g.entries found in
    subst (λ o. length e.bytes + one_if e.fin ≤ units_in o) (sym later.1) (units_grow e later.0 later.2)
units_of key before after None g found = omega arith

lengths_of : (key : Key) (before after : Log) (o : Option Entry) → LogGrows before after → entry_of key before ≡ o → IsPrefix (lengths_in o) (logged_lengths key after)
lengths_of key before after (Some e) g found =
    let later = found_later key before.entries after.entries e g.entries found in
    subst (λ o. IsPrefix e.lengths (lengths_in o)) (sym later.1) later.2.lengths
lengths_of key before after None g found = (logged_lengths key after, refl)

pub logged_units_grow : (key : Key) (before after : Log) → LogGrows before after → logged_units key before ≤ logged_units key after
logged_units_grow key before after g = units_of key before after (entry_of key before) g refl

pub logged_lengths_grow : (key : Key) (before after : Log) → LogGrows before after → IsPrefix (logged_lengths key before) (logged_lengths key after)
logged_lengths_grow key before after g = lengths_of key before after (entry_of key before) g refl

pub no_answer : (body : Body) → is_hello body ≡ true → is_answer body ≡ false
no_answer HelloMsg h = refl
no_answer _ h = absurd (true≢false (sym h))

-- after a Hello the log's boot is at least the Hello's
pub hello_raises : (log : Log) (hello : Message) → is_hello hello.body ≡ true → hello.boot ≤ (log_after log hello).boot
unfolding log_after
hello_raises log hello h =
    holds_if (λ l. hello.boot ≤ l.boot) (is_answer hello.body || nat_lt hello.boot log.boot) log (with_message hello log)
    (λ t. ⊎_elim (λ a. absurd (true≢false (sym a ∙ no_answer hello.body h)))
    (λ b. let less : hello.boot < log.boot = ltb-true _ _ b in omega (arith, less)) (or_cases (is_answer hello.body) (nat_lt hello.boot log.boot) t))
    (λ t. holds_if (λ l. hello.boot ≤ l.boot) (is_hello hello.body) (record log { boot = hello.boot }) (if hello.boot == log.boot then with_body hello.body log else log)
    (λ x. le_refl hello.boot) (λ x. absurd (true≢false (sym h ∙ x))))

-- so from then on no message of an older boot changes it
pub fenced_for_good : (log later : Log) (hello message : Message) → is_hello hello.body ≡ true → LogGrows (log_after log hello) later → message.boot < hello.boot
    → log_after later message ≡ later
fenced_for_good log later hello message h g older =
    let raised : hello.boot ≤ (log_after log hello).boot = hello_raises log hello h in
    let grown : (log_after log hello).boot ≤ later.boot = g.boot in
    old_boots_change_nothing later message (omega (arith, older, raised, grown))
