-- Every log that messages make is in order.
use Rattle.std.proofs.Common.{◌≡◌, ℕ, ◌+◌, ◌-◌, ◌<◌, ◌≤◌, Bool, true, false, ◌==◌, ◌&&◌, ◌||◌, not, nat_lt, nat_le, refl, sym, subst, true≢false, ⊎_elim, List, [], ◌∷◌, ◌++◌, length, sum, drop, arith, if◌then◌else◌, append_assoc, length-append}
use Rattle.std.proofs.lemmas.Bool.{and_parts, or_parts, leb-true, le-leb, leb-false}
use Rattle.std.proofs.lemmas.List.{append-nil}
use Rattle.std.specs.List.{AllByRecursion, list_any}
use Rattle.ft_io.specs.declared.Key.{Key}
use Rattle.ft_io.specs.Key.{key_eq}
use Rattle.seq_arith.specs.Message.{Part, Body, Message}
use Rattle.seq_arith.specs.Message.Body.{OpenMsg, DataMsg, ReadMsg, DoneMsg}
use Rattle.ft_model.specs.Log.{Log, Entry, empty_log, log_after, with_body, with_entry, new_entry, with_part, with_bytes, with_read, is_next_read, may_follow}
use Rattle.ft_model.specs.Restart.{all_follow}
use Rattle.ft_model.proofs.Asked.{distinct_after}
use Rattle.ft_model.proofs.Lists.{all_append, all_weaker, all_map, or_cases, or_left}
use Rattle.ft_model.proofs.LogAnswers.{LogWent, log_went}
use Rattle.ft_model.proofs.LogAnswers.LogWent.{ignored, raised, changed}
use Rattle.ft_model.proofs.Resumed.{length_map}
use Rattle.ft_io.proofs.Choices.{holds_if}
use Rattle.trace_laws.specs.NeededMessages.{log_after_all}
use Rattle.long_laws.specs.Snapshot.{CanReplay, IsOrdered}

and_made : (a b : Bool) → a ≡ true → b ≡ true → (a && b) ≡ true
and_made true true e f = refl
and_made true false e f = absurd (true≢false (sym f))
and_made false b e f = absurd (true≢false (sym e))

positive : (n : ℕ) → (nat_lt 0 n || false) ≡ true → nat_lt 0 n ≡ true
positive n e = ⊎_elim (λ x. x) (λ x. absurd (true≢false (sym x))) (or_cases (nat_lt 0 n) false e)

-- a read that may follow before the FIN may follow among more bytes, and with the FIN
follows_more : (len more : ℕ) (fin : Bool) (lengths : List ℕ) (n : ℕ) → len ≤ more → may_follow len false lengths n ≡ true → may_follow more fin lengths n ≡ true
follows_more len more fin lengths n low e =
    let parts = and_parts (not (list_any (λ k. k == 0) lengths) && nat_le (sum lengths + n) len) (nat_lt 0 n || false) e in
    let two = and_parts (not (list_any (λ k. k == 0) lengths)) (nat_le (sum lengths + n) len) parts.0 in
    let within : sum lengths + n ≤ len = leb-true (sum lengths + n) len two.1 in
    and_made (not (list_any (λ k. k == 0) lengths) && nat_le (sum lengths + n) more) (nat_lt 0 n || (fin && sum lengths == more))
    (and_made (not (list_any (λ k. k == 0) lengths)) (nat_le (sum lengths + n) more) two.0 (le-leb (sum lengths + n) more (omega (arith, within, low))))
    (or_left (nat_lt 0 n) (fin && sum lengths == more) (positive n parts.1))

all_follow_more : (len more : ℕ) (fin : Bool) (lengths ns : List ℕ) → len ≤ more → all_follow len false lengths ns ≡ true → all_follow more fin lengths ns ≡ true
all_follow_more len more fin lengths [] low e = refl
all_follow_more len more fin lengths (n ∷ ns) low e =
    let parts = and_parts (may_follow len false lengths n) (all_follow len false (lengths ++ n ∷ []) ns) e in
    and_made (may_follow more fin lengths n) (all_follow more fin (lengths ++ n ∷ []) ns) (follows_more len more fin lengths n low parts.0)
    (all_follow_more len more fin (lengths ++ n ∷ []) ns low parts.1)

-- one more read
follows_push : (len : ℕ) (fin : Bool) (lengths ns : List ℕ) (n : ℕ) → all_follow len fin lengths ns ≡ true → may_follow len fin (lengths ++ ns) n ≡ true → all_follow len fin lengths (ns ++ n ∷ []) ≡ true
follows_push len fin lengths [] n e f =
    and_made (may_follow len fin lengths n) true (subst (λ l. may_follow len fin l n ≡ true) (append-nil lengths) f) refl
follows_push len fin lengths (m ∷ ns) n e f =
    let parts = and_parts (may_follow len fin lengths m) (all_follow len fin (lengths ++ m ∷ []) ns) e in
    and_made (may_follow len fin lengths m) (all_follow len fin (lengths ++ m ∷ []) (ns ++ n ∷ [])) parts.0
    (follows_push len fin (lengths ++ m ∷ []) ns n parts.1 (subst (λ l. may_follow len fin l n ≡ true) (sym (append_assoc lengths (m ∷ []) ns)) f))

-- bytes are added only before the FIN, and then the FIN
fin_replays : (e : Entry) (f : Bool) → e.fin ≡ f → CanReplay e → CanReplay (record e { fin = true })
fin_replays e true is can = subst (λ f. all_follow (length e.bytes) f [] e.lengths ≡ true) is can
fin_replays e false is can =
    all_follow_more (length e.bytes) (length e.bytes) true [] e.lengths (omega arith) (subst (λ f. all_follow (length e.bytes) f [] e.lengths ≡ true) is can)

bytes_replay : (part : Part) (e : Entry) → CanReplay e → CanReplay (with_bytes part e)
bytes_replay part e can =
    let more : List ℕ = drop (length e.bytes - part.offset) part.bytes in
    holds_if CanReplay (e.fin || nat_lt (length e.bytes) part.offset) e (record e { bytes = e.bytes ++ more }) (λ t. can)
    (λ t. let is : e.fin ≡ false = (or_parts e.fin (nat_lt (length e.bytes) part.offset) t).0 in
    let size = length-append e.bytes more in
    subst (λ f. all_follow (length (e.bytes ++ more)) f [] e.lengths ≡ true) (sym is)
    (all_follow_more (length e.bytes) (length (e.bytes ++ more)) false [] e.lengths (omega (arith, size)) (subst (λ f. all_follow (length e.bytes) f [] e.lengths ≡ true) is can)))

part_replays : (part : Part) (e : Entry) → CanReplay e → CanReplay (with_part part e)
part_replays part e can =
    let x : Entry = with_bytes part e in
    let c : CanReplay x = bytes_replay part e can in
    holds_if CanReplay (part.fin && part.offset + length part.bytes == length x.bytes) (record x { fin = true }) x (λ t. fin_replays x x.fin refl c) (λ t. c)

read_replays : (index n : ℕ) (e : Entry) → CanReplay e → CanReplay (with_read index n e)
read_replays index n e can =
    holds_if CanReplay (is_next_read e index n) (record e { lengths = e.lengths ++ n ∷ [] }) e
    (λ t. follows_push (length e.bytes) e.fin [] e.lengths n can (and_parts (index == length e.lengths) (may_follow (length e.bytes) e.fin e.lengths n) t).1) (λ t. can)

abbrev AllReplay : Log → Type 0
AllReplay log = AllByRecursion CanReplay log.entries

entry_replays : (key : Key) (change : Entry → Entry) (log : Log) → ((e : Entry) → CanReplay e → CanReplay (change e)) → AllReplay log → AllReplay (with_entry key change log)
entry_replays key change log f a =
    all_map CanReplay (λ e. if key_eq e.key key then change e else e) log.entries
    (all_weaker CanReplay (λ e. CanReplay (if key_eq e.key key then change e else e)) log.entries (λ e c. holds_if CanReplay (key_eq e.key key) (change e) e (λ t. f e c) (λ t. c)) a)

body_replays : (body : Body) (log : Log) → AllReplay log → AllReplay (with_body body log)
body_replays (OpenMsg n) log a =
    holds_if AllReplay (list_any (λ e. key_eq e.key n.key) log.entries || nat_le 64 (length log.entries)) log (record log { entries = log.entries ++ new_entry n ∷ [] }) (λ t. a)
    (λ t. all_append CanReplay log.entries (new_entry n ∷ []) a (refl, tt))
body_replays (DataMsg part) log a = entry_replays part.key (with_part part) log (part_replays part) a
body_replays (ReadMsg key index n) log a = entry_replays key (with_read index n) log (read_replays index n) a
body_replays (DoneMsg key) log a = entry_replays key (λ e. record e { done = true }) log (λ e c. c) a
body_replays _ log a = a

abbrev IsFew : Log → Type 0
IsFew log = length log.entries ≤ 64

body_few : (body : Body) (log : Log) → IsFew log → IsFew (with_body body log)
body_few (OpenMsg n) log a =
    holds_if IsFew (list_any (λ e. key_eq e.key n.key) log.entries || nat_le 64 (length log.entries)) log (record log { entries = log.entries ++ new_entry n ∷ [] }) (λ t. a)
    (λ t. let room : length log.entries < 64 = leb-false _ _ (or_parts (list_any (λ e. key_eq e.key n.key) log.entries) (nat_le 64 (length log.entries)) t).1 in
    let size = length-append log.entries (new_entry n ∷ []) in
    omega (arith, room, size))
body_few (DataMsg part) log a = subst (λ n. n ≤ 64) (sym (length_map (λ e. if key_eq e.key part.key then with_part part e else e) log.entries)) a
body_few (ReadMsg key index n) log a = subst (λ k. k ≤ 64) (sym (length_map (λ e. if key_eq e.key key then with_read index n e else e) log.entries)) a
body_few (DoneMsg key) log a = subst (λ k. k ≤ 64) (sym (length_map (λ (e : Entry). if key_eq e.key key then record e { done = true } else e) log.entries)) a
body_few _ log a = a

one_ordered : (log : Log) (message : Message) → IsOrdered log → IsOrdered (log_after log message)
one_ordered log message o =
    let went : LogWent log message (log_after log message) = log_went log message in
    record { distinct = distinct_after log message (log_after log message) went o.distinct; few = few (log_after log message) went; reads = reads (log_after log message) went }
  where
    few : (after : Log) → LogWent log message after → IsFew after
    few after (ignored e) = subst IsFew (sym e) o.few
    few after (raised h b e) = subst IsFew (sym e) o.few
    few after (changed b e) = subst IsFew (sym e) (body_few message.body log o.few)

    reads : (after : Log) → LogWent log message after → AllReplay after
    reads after (ignored e) = subst AllReplay (sym e) o.reads
    reads after (raised h b e) = subst AllReplay (sym e) o.reads
    reads after (changed b e) = subst AllReplay (sym e) (body_replays message.body log o.reads)

pub all_ordered : (log : Log) (messages : List Message) → IsOrdered log → IsOrdered (log_after_all log messages)
all_ordered log [] o = o
all_ordered log (message ∷ messages) o = all_ordered (log_after log message) messages (one_ordered log message o)

pub folds_ordered : (messages : List Message) → IsOrdered (log_after_all empty_log messages)
folds_ordered messages = all_ordered empty_log messages (record { distinct = tt; few = omega arith; reads = tt })
