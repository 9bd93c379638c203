-- The log keeps what is well formed, and tells nothing else.
use Rattle.std.proofs.Common.{◌≡◌, ℕ, zero, suc, ◌+◌, ◌-◌, ◌<◌, ◌≤◌, ◌^◌, Bool, true, false, ◌==◌, ◌&&◌, ◌||◌, not, nat_lt, nat_le, refl, sym, subst, Option, Some, None, List, [], ◌∷◌, ◌++◌, map, length, take, drop, sum, slice_get, arith, length-append, length-take, length-drop, leb-true, ltb-true, if◌then◌else◌}
use Rattle.std.specs.List.{AllByRecursion, list_any}
use Rattle.std.proofs.lemmas.Bool.{leb-false, and_parts, or_parts}
use Rattle.ft_io.specs.declared.Key.{Key}
use Rattle.ft_io.specs.Key.{key_eq}
use Rattle.seq_arith.specs.Message.{Numbers, Part, Body, Message}
use Rattle.seq_arith.specs.Message.Body.{HelloMsg, ListMsg, EntryMsg, BytesMsg, PartMsg, CutsMsg, LensMsg, OpenMsg, DataMsg, StableMsg, ReadMsg, ReadsMsg, DoneMsg, EndedMsg}
use Rattle.server_trait.specs.Service.{AreBytes}
use Rattle.ft_model.specs.Log.{Log, Entry, entry_of, new_entry, opened, with_bytes, with_its_fin, with_part, may_follow, is_next_read, with_read, with_body, kept_of, head_of, part_of, lens_of, opened_answer, answer_from}
use Rattle.ft_model.specs.World.{World}
use Rattle.ft_model.proofs.Lists.{all_weaker, all_map, all_append, all_find, all_slice_get, none_is_some, some_is}
use Rattle.ft_model.proofs.Services.{sum_append, sum_more, prefix_length}
use Rattle.ft_model.proofs.LogAnswers.{LogWent, kept_boot}
use Rattle.ft_model.proofs.LogAnswers.LogWent.{ignored, raised, changed}
use Rattle.ft_model.proofs.Fetching.{on_some, chosen_some, reported_last}
use Rattle.ft_model.proofs.Resumed.{length_map}
use Rattle.ft_model.proofs.Scripts.{EntryFits}
use Rattle.ft_model.proofs.Faithful.{EntriesFit}
use Rattle.ft_model.proofs.FaithfulOver.{script_of, isn_of}
use Rattle.ft_model.proofs.Formed.{bytes_take, bytes_drop, bytes_front, HasClient, AreLengths, NumbersFormed, KeptFormed, HeadFormed, AckWithin, BodyFormed, MessageFormed, StartFormed, EntryFormed}
use Rattle.ft_io.proofs.Booleans.{not_true}
use Rattle.ft_io.proofs.Choices.{holds_if}

-- no read has length 0: there are no more of them than bytes
pub no_zero : (xs : List ℕ) → list_any (λ n. n == 0) xs ≡ false → length xs ≤ sum xs
no_zero [] e = omega arith
no_zero (x ∷ xs) e =
    let parts = or_parts (x == 0) (list_any (λ n. n == 0) xs) e in
    let more = sum_more x xs in
    let rest = no_zero xs parts.1 in
    let some : 0 < x = grind (arith, parts.0) in
    omega (arith, more, rest, some)

new_formed : (start : World) (n : Numbers) → NumbersFormed start n → EntryFormed start (new_entry n)
new_formed start n h = record { key = h.0; sisn = h.2; mss = h.3; enough = omega arith; count = omega arith; lengths = tt }

part_formed : (start : World) (part : Part) (e : Entry) → EntryFormed start e → EntryFormed start (with_part part e)
part_formed start part e h =
    let more = length-append e.bytes (drop (length e.bytes - part.offset) part.bytes) in
    let bytes : EntryFormed start (with_bytes part e) =
    holds_if (EntryFormed start) (e.fin || nat_lt (length e.bytes) part.offset) e _ (λ t. h)
    (λ t. record { key = h.key; sisn = h.sisn; mss = h.mss; enough = omega (arith, more, h.enough); count = h.count; lengths = h.lengths }) in
    let x : Entry = with_bytes part e in
    let fin : EntryFormed start (with_its_fin part x) =
    holds_if (EntryFormed start) (part.fin && part.offset + length part.bytes == length x.bytes) (record x { fin = true }) x
    (λ t. record { key = bytes.key; sisn = bytes.sisn; mss = bytes.mss; enough = bytes.enough; count = bytes.count; lengths = bytes.lengths }) (λ t. bytes) in
    record {
      key = fin.key;
      sisn = fin.sisn;
      mss = fin.mss;
      enough = fin.enough;
      count = fin.count;
      lengths = fin.lengths;
    }

read_formed : (start : World) (index n : ℕ) (e : Entry) → n ≤ 2048 → EntryFormed start e → EntryFormed start (with_read index n e)
read_formed start index n e low h =
    holds_if (EntryFormed start) (is_next_read e index n) (record e { lengths = e.lengths ++ n ∷ [] }) e
    (λ t. let follows = (and_parts (index == length e.lengths) (may_follow (length e.bytes) e.fin e.lengths n) t).1 in
    let two = (and_parts (not (list_any (λ k. k == 0) e.lengths) && nat_le (sum e.lengths + n) (length e.bytes)) (nat_lt 0 n || (e.fin && sum e.lengths == length e.bytes)) follows).0 in
    let parts = and_parts (not (list_any (λ k. k == 0) e.lengths)) (nat_le (sum e.lengths + n) (length e.bytes)) two in
    let few = no_zero e.lengths (not_true (list_any (λ k. k == 0) e.lengths) parts.0) in
    let within : sum e.lengths + n ≤ length e.bytes = leb-true _ _ parts.1 in
    let total = sum_append e.lengths n in
    let size = length-append e.lengths (n ∷ []) in
    record {
      key = h.key;
      sisn = h.sisn;
      mss = h.mss;
      enough = omega (arith, total, within);
      count = omega (arith, total, size, few);
      lengths = all_append (λ n. n ≤ 2048) e.lengths (n ∷ []) h.lengths (low, tt);
    })
    (λ t. h)

done_formed : (start : World) (e : Entry) → EntryFormed start e → EntryFormed start (record e { done = true })
done_formed start e h = record { key = h.key; sisn = h.sisn; mss = h.mss; enough = h.enough; count = h.count; lengths = h.lengths }

changed_formed : (start : World) (key : Key) (change : Entry → Entry) (es : List Entry) → ((e : Entry) → EntryFormed start e → EntryFormed start (change e))
    → AllByRecursion (EntryFormed start) es → AllByRecursion (EntryFormed start) (map (λ e. if key_eq e.key key then change e else e) es)
changed_formed start key change es f a =
    all_map (EntryFormed start) (λ e. if key_eq e.key key then change e else e) es
    (all_weaker (EntryFormed start) _ es (λ e h. holds_if (EntryFormed start) (key_eq e.key key) (change e) e (λ t. f e h) (λ t. h)) a)

-- entries that are well formed, and few
abbrev pub LogFormed : World → List Entry → Type 0
LogFormed start entries = AllByRecursion (EntryFormed start) entries × (length entries ≤ 64)

opened_formed : (start : World) (n : Numbers) (log : Log) → NumbersFormed start n → LogFormed start log.entries → LogFormed start (opened n log).entries
opened_formed start n log h a =
    holds_if (λ l. LogFormed start l.entries) (list_any (λ e. key_eq e.key n.key) log.entries || nat_le 64 (length log.entries)) log
    (record log { entries = log.entries ++ new_entry n ∷ [] }) (λ t. a)
    (λ t. let room : length log.entries < 64 = leb-false _ _ (or_parts (list_any (λ e. key_eq e.key n.key) log.entries) (nat_le 64 (length log.entries)) t).1 in
    let size = length-append log.entries (new_entry n ∷ []) in
    (all_append (EntryFormed start) log.entries (new_entry n ∷ []) a.0 (new_formed start n h, tt), omega (arith, room, size)))

by_key : (start : World) (key : Key) (change : Entry → Entry) (log : Log) → ((e : Entry) → EntryFormed start e → EntryFormed start (change e))
    → LogFormed start log.entries → LogFormed start (map (λ e. if key_eq e.key key then change e else e) log.entries)
by_key start key change log f a =
    let size = length_map (λ (e : Entry). if key_eq e.key key then change e else e) log.entries in
    (changed_formed start key change log.entries f a.0, omega (arith, size, a.1))

kept_formed : (start : World) (boot : ℕ) (body : Body) (log : Log) → BodyFormed start boot body → LogFormed start log.entries → LogFormed start (with_body body log).entries
kept_formed start boot (OpenMsg n) log h a = opened_formed start n log h a
kept_formed start boot (DataMsg part) log h a = by_key start part.key (with_part part) log (λ e f. part_formed start part e f) a
kept_formed start boot (ReadMsg key index n) log h a = by_key start key (with_read index n) log (λ e f. read_formed start index n e h.2 f) a
kept_formed start boot (DoneMsg key) log h a = by_key start key (λ e. record e { done = true }) log (λ e f. done_formed start e f) a
kept_formed start boot _ log h a = a

pub log_formed : (start : World) (log : Log) (message : Message) (after : Log) → LogWent log message after → MessageFormed start message → log.boot < 2 ^ 64
    → LogFormed start log.entries → LogFormed start after.entries × (after.boot < 2 ^ 64)
log_formed start log message after (ignored e) m b a = subst (λ l. LogFormed start l.entries × (l.boot < 2 ^ 64)) (sym e) (a, b)
log_formed start log message after (raised r w e) m b a = subst (λ l. LogFormed start l.entries × (l.boot < 2 ^ 64)) (sym e) (a, m.0.1)
log_formed start log message after (changed w e) m b a =
    subst (λ l. LogFormed start l.entries × (l.boot < 2 ^ 64)) (sym e)
    (kept_formed start message.boot message.body log m.1 a, subst (λ n. n < 2 ^ 64) (sym (kept_boot message.body log)) b)

-- what an entry tells
pub record EntryReports (start : World) (e : Entry) : Type 0 where
  pub formed : EntryFormed start e
  pub cisn : e.cisn < 2 ^ 32
  pub short : length e.bytes ≤ 2 ^ 24
  pub bytes : AreBytes e.bytes
  pub acknowledged : e.acknowledged ≤ 2 ^ 24 + 1

-- its client acknowledged no more than a stream and its FIN
abbrev pub AckedWithin : Entry → Type 0
AckedWithin e = e.acknowledged ≤ 2 ^ 24 + 1

entry_reports : (start : World) → StartFormed start → (e : Entry) → EntryFormed start e → EntryFits (script_of start e.key) (isn_of start e.key) e → AckedWithin e → EntryReports start e
entry_reports start s e h f acked =
    let number = s.isn e.key in
    let size = prefix_length e.bytes (script_of start e.key) f.front in
    let small = s.short e.key in
    record {
      formed = h;
      cisn = omega (arith, number, f.cisn);
      short = omega (arith, size, small);
      bytes = bytes_front e.bytes (script_of start e.key) f.front (s.bytes e.key);
      acknowledged = acked;
    }

pub entries_report : (start : World) → StartFormed start → (entries : List Entry) → AllByRecursion (EntryFormed start) entries → EntriesFit (script_of start) (isn_of start) entries
    → AllByRecursion AckedWithin entries → AllByRecursion (EntryReports start) entries
entries_report start s [] a f k = tt
entries_report start s (e ∷ entries) a f k = (entry_reports start s e a.0 f.0 k.0, entries_report start s entries a.1 f.1 k.1)

pub head_formed : (start : World) (e : Entry) → EntryReports start e → HeadFormed start (head_of e)
head_formed start e h =
    (h.formed.key, h.cisn, h.formed.sisn, h.formed.mss, h.short, omega (arith, h.short, h.formed.enough, h.formed.count), h.acknowledged)

kept_reported : (start : World) (e : Entry) → EntryReports start e → KeptFormed start (kept_of e)
kept_reported start e h = (h.formed.key, h.short, omega (arith, h.short, h.formed.enough, h.formed.count))

lengths_take : (n : ℕ) (xs : List ℕ) → AreLengths xs → AreLengths (take n xs)
lengths_take zero xs a = tt
lengths_take (suc n) [] a = tt
lengths_take (suc n) (x ∷ xs) a = (a.0, lengths_take n xs a.1)

pub lengths_drop : (n : ℕ) (xs : List ℕ) → AreLengths xs → AreLengths (drop n xs)
lengths_drop zero xs a = a
lengths_drop (suc n) [] a = tt
lengths_drop (suc n) (x ∷ xs) a = lengths_drop n xs a.1

chosen_true : {A : Type 0} (b : Bool) (x y : A) → (if b then Some x else None) ≡ Some y → b ≡ true
chosen_true true x y e = refl
chosen_true false x y e = none_is_some y e

-- a chunk of at most so many, from a place that has something after it
chunk_within : (most at : ℕ) (xs : List ℕ) → 1 ≤ most → at < length xs
    → (1 ≤ length (take most (drop at xs))) × (length (take most (drop at xs)) ≤ most) × (at + length (take most (drop at xs)) ≤ length xs)
chunk_within most at xs some below =
    let behind = length-drop at xs in
    let size = length-take most (drop at xs) in
    (omega (arith, behind, size, some, below), omega (arith, size), omega (arith, behind, size, below))

opened_reported : (start : World) (boot : ℕ) (log : Log) (key : Key) (o : Option Entry) (answer : Body) → HasClient start key → AllByRecursion (EntryReports start) log.entries
    → entry_of key log ≡ o → opened_answer key o ≡ Some answer → BodyFormed start boot answer
opened_reported start boot log key (Some e) answer h a found t =
    let x : EntryReports start e = all_find (EntryReports start) (λ y. key_eq y.key key) log.entries e a found in
    subst (BodyFormed start boot) (some_is _ _ t) (x.formed.key, x.cisn, x.formed.sisn, x.formed.mss)
opened_reported start boot log key None answer h a found t = subst (BodyFormed start boot) (some_is _ _ t) h

pub reported_formed : (start : World) (boot : ℕ) (body : Body) (log : Log) (answer : Body) → BodyFormed start boot body → length log.entries ≤ 64 → AllByRecursion (EntryReports start) log.entries
    → answer_from body log ≡ Some answer → BodyFormed start boot answer
reported_formed start boot HelloMsg log answer h few a t = subst (BodyFormed start boot) (some_is _ _ t) few
reported_formed start boot (ListMsg index) log answer h few a t =
    let o = on_some (slice_get log.entries index) (λ e. Some (EntryMsg index (head_of e))) answer t in
    subst (BodyFormed start boot) (some_is _ _ o.2) (h, head_formed start o.0 (all_slice_get (EntryReports start) log.entries index o.0 a o.1))
reported_formed start boot (BytesMsg key offset) log answer h few a t =
    let o = on_some (entry_of key log) (λ e. part_of e offset) answer t in
    let x : EntryReports start o.0 = all_find (EntryReports start) (λ y. key_eq y.key key) log.entries o.0 a o.1 in
    subst (BodyFormed start boot) (chosen_some (nat_lt offset (length o.0.bytes)) (PartMsg o.0.key offset (take 1024 (drop offset o.0.bytes))) answer o.2)
    (let below = chosen_true (nat_lt offset (length o.0.bytes)) (PartMsg o.0.key offset (take 1024 (drop offset o.0.bytes))) answer o.2 in
    let chunk = chunk_within 1024 offset o.0.bytes (omega arith) (ltb-true _ _ below) in
    (x.formed.key, omega (arith, chunk.2, x.short), bytes_take 1024 (drop offset o.0.bytes) (bytes_drop offset o.0.bytes x.bytes), chunk.0, chunk.1))
reported_formed start boot (CutsMsg key first) log answer h few a t =
    let o = on_some (entry_of key log) (λ e. lens_of e first) answer t in
    let x : EntryReports start o.0 = all_find (EntryReports start) (λ y. key_eq y.key key) log.entries o.0 a o.1 in
    subst (BodyFormed start boot) (chosen_some (nat_lt first (length o.0.lengths)) (LensMsg o.0.key first (take 512 (drop first o.0.lengths))) answer o.2)
    (let below = chosen_true (nat_lt first (length o.0.lengths)) (LensMsg o.0.key first (take 512 (drop first o.0.lengths))) answer o.2 in
    let chunk = chunk_within 512 first o.0.lengths (omega arith) (ltb-true _ _ below) in
    (x.formed.key, h.1, lengths_take 512 (drop first o.0.lengths) (lengths_drop first o.0.lengths x.formed.lengths), chunk.0, chunk.1))
reported_formed start boot (OpenMsg n) log answer h few a t = opened_reported start boot log n.key (entry_of n.key log) answer h.0 a refl t
reported_formed start boot (DataMsg part) log answer h few a t =
    let o = on_some (entry_of part.key log) (λ e. Some (StableMsg (kept_of e))) answer (reported_last part.more _ answer t) in
    subst (BodyFormed start boot) (some_is _ _ o.2) (kept_reported start o.0 (all_find (EntryReports start) (λ y. key_eq y.key part.key) log.entries o.0 a o.1))
reported_formed start boot (ReadMsg key index n) log answer h few a t =
    let o = on_some (entry_of key log) (λ e. Some (ReadsMsg (kept_of e))) answer t in
    subst (BodyFormed start boot) (some_is _ _ o.2) (kept_reported start o.0 (all_find (EntryReports start) (λ y. key_eq y.key key) log.entries o.0 a o.1))
reported_formed start boot (DoneMsg key) log answer h few a t =
    let o = on_some (entry_of key log) (λ e. Some (EndedMsg key)) answer t in subst (BodyFormed start boot) (some_is _ _ o.2) h
reported_formed start boot _ log answer h few a t = none_is_some answer t

-- the log tells no Data
opened_acks : (key : Key) (o : Option Entry) (answer : Body) → opened_answer key o ≡ Some answer → AckWithin answer
opened_acks key (Some e) answer t = subst AckWithin (some_is _ _ t) tt
opened_acks key None answer t = subst AckWithin (some_is _ _ t) tt

pub reported_acks : (body : Body) (log : Log) (answer : Body) → answer_from body log ≡ Some answer → AckWithin answer
reported_acks HelloMsg log answer t = subst AckWithin (some_is _ _ t) tt
reported_acks (ListMsg index) log answer t =
    let o = on_some (slice_get log.entries index) (λ e. Some (EntryMsg index (head_of e))) answer t in subst AckWithin (some_is _ _ o.2) tt
reported_acks (BytesMsg key offset) log answer t =
    let o = on_some (entry_of key log) (λ e. part_of e offset) answer t in
    subst AckWithin (chosen_some (nat_lt offset (length o.0.bytes)) (PartMsg o.0.key offset (take 1024 (drop offset o.0.bytes))) answer o.2) tt
reported_acks (CutsMsg key first) log answer t =
    let o = on_some (entry_of key log) (λ e. lens_of e first) answer t in
    subst AckWithin (chosen_some (nat_lt first (length o.0.lengths)) (LensMsg o.0.key first (take 512 (drop first o.0.lengths))) answer o.2) tt
reported_acks (OpenMsg n) log answer t = opened_acks n.key (entry_of n.key log) answer t
reported_acks (DataMsg part) log answer t = let o = on_some (entry_of part.key log) (λ e. Some (StableMsg (kept_of e))) answer (reported_last part.more _ answer t) in subst AckWithin (some_is _ _ o.2) tt
reported_acks (ReadMsg key index n) log answer t = let o = on_some (entry_of key log) (λ e. Some (ReadsMsg (kept_of e))) answer t in subst AckWithin (some_is _ _ o.2) tt
reported_acks (DoneMsg key) log answer t = let o = on_some (entry_of key log) (λ e. Some (EndedMsg key)) answer t in subst AckWithin (some_is _ _ o.2) tt
reported_acks _ log answer t = none_is_some answer t
