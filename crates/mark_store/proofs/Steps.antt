-- What a store is left of, step by step: of a log with marks after a message, and after a mark.
use Rattle.std.proofs.Common.{◌≡◌, ◌∙◌, ℕ, zero, suc, ◌+◌, ◌-◌, ◌%◌, ◌^◌, ◌<◌, ◌≤◌, ◌==◌, ◌&&◌, not, nat_lt, nat_le, max, Bool, true, false, refl, sym, ap, ap₂, subst, arith, Option, Some, None, option_map, is_some, List, [], ◌∷◌, ◌++◌, length, map, take, sum, replicate, slice_get, slice_set, true≢false, if◌then◌else◌}
use Rattle.std.specs.List.{position}
use Rattle.std.specs.Option.{option_map_or}
use Rattle.std.proofs.lemmas.Bool.{eqb-true, ltb-true, leb-true, and_parts}
use Rattle.std.proofs.lemmas.List.{get_or-set_same, get_or-set_other, length-set, length-replicate, length-map}
use Rattle.ft_io.specs.declared.Key.{Key}
use Rattle.ft_io.specs.Key.{key_eq}
use Rattle.ft_io.proofs.Choices.{same_some}
use Rattle.ft_io.proofs.Numbers.{equal_itself, test_of_equal}
use Rattle.seq_arith.specs.declared.kinds.Grammar.{Grammar}
use Rattle.seq_arith.specs.MarkGrammar.{IsSpellable, is_sound, has_length, kind_of, fields_of, behind_of, numbers_of}
use Rattle.seq_arith.specs.declared.mark.MarkKind.{MarkKind}
use Rattle.seq_arith.specs.declared.mark.MarkKind.TheVariants as kinds
use Rattle.seq_arith.specs.MessageGrammar.{all_in_range}
use Rattle.seq_arith.specs.Mark.{Mark, MarkBody, MarkMessage}
use Rattle.seq_arith.specs.Mark.MarkBody.{MarkMsg, MarkedMsg, AskMsg, HeldMsg}
use Rattle.seq_arith.specs.Message.{Message, Body, EntryHead}
use Rattle.seq_arith.specs.Message.Body.{HelloMsg, SummaryMsg, ListMsg, EntryMsg, BytesMsg, PartMsg, CutsMsg, LensMsg, OpenMsg, OpenedMsg, DataMsg, StableMsg, ReadMsg, ReadsMsg, DoneMsg, EndedMsg, StaleMsg, FullMsg}
use Rattle.ft_model.specs.Log.{Entry, log_after, answer_to, entry_of, head_of, with_entry}
use Rattle.ft_model.specs.Growth.{EntriesGrow}
use Rattle.ft_model.proofs.Grows.{log_grows}
use Rattle.log_pages.specs.Pages.{changed_at, pages, place_of, without}
use Rattle.logger_store.specs.StoreState.{answer_bytes_by, bytes_of}
use Rattle.logger_store.specs.Trim.{TrimmedLog, no_trim, trim_at, trim_of, is_trimmed, answer_left, with_trim, MayTrim, IsLeft, untrimmed}
use Rattle.logger_store.specs.declared.trimming.Trim.{Trim}
use Rattle.logger_store.proofs.LeftLogs.{after_left, answers_left, trim_left, more_acknowledged, none_trimmed, same_front, same_closing, count_left, size_left}
use Rattle.mark_laws.specs.MarkedLog.{MarkedLog, no_mark, nothing_logged, after_mark, after_message, answer_above, answer_to_mark, about_mark, is_below, is_mark_answer, reported_of_mark, acknowledging, with_mark, with_mark_body, keeps, may_follow, has_closing}
use Rattle.mark_laws.specs.MarkedLog.AnyMessage.{Of_log}
use Rattle.mark_store.specs.Bytes.{reply_bytes, reply_bytes_by, kept_at}
use Rattle.mark_store.specs.Refinement.{TrimmedAtMarks, IsLeftOfMarked, mark_at}
use Rattle.mark_store.proofs.Places.{at_more, nowhere, put_at_key, found_left, left_at, IsSameEntry, IsLeftAt}

-- the keys of entries stay, and others come after them
keys_grow : (es fs : List Entry) → EntriesGrow es fs → (more : List Key) × (map (λ e. e.key) fs ≡ map (λ e. e.key) es ++ more)
keys_grow [] fs g = (map (λ e. e.key) fs, refl)
keys_grow (e ∷ es) [] g = absurd g
keys_grow (e ∷ es) (f ∷ fs) g = let rest = keys_grow es fs g.1 in (rest.0, ap₂ ◌∷◌ g.0.key rest.1)

count_grows : (es fs : List Entry) → EntriesGrow es fs → length es ≤ length fs
count_grows [] fs g = omega arith
count_grows (e ∷ es) [] g = absurd g
count_grows (e ∷ es) (f ∷ fs) g = let rest = count_grows es fs g.1 in omega (arith, rest)

pub begins : IsLeftOfMarked (record { trimmed = untrimmed; marks = [] }) nothing_logged
begins = record {
  left = record { boot = refl; entries = none_trimmed 64 };
  marks = λ key. sym (nowhere no_mark (place_of key untrimmed.log));
  at_marks = λ i. none 64 i ∙ ap (λ m. let t : Trim = record { bytes = m.length; reads = m.reads } in t) (sym (nowhere no_mark (Some i)));
  opened = omega arith;
  room = length-replicate {A = Trim} 64 no_trim;
}
  where
    none : (n i : ℕ) → trim_at (replicate n no_trim) i ≡ no_trim
    none zero zero = refl
    none zero (suc i) = refl
    none (suc n) zero = refl
    none (suc n) (suc i) = none n i

pub after_any : (s : TrimmedAtMarks) (l : MarkedLog) (message : Message) → IsLeftOfMarked s l
    → IsLeftOfMarked (record s { trimmed = record s.trimmed { log = log_after s.trimmed.log message } }) (after_message l message)
after_any s l message a =
    let grown = (log_grows s.trimmed.log message).entries in
    let keys = keys_grow s.trimmed.log.entries (log_after s.trimmed.log message).entries grown in
    let count = count_grows s.trimmed.log.entries (log_after s.trimmed.log message).entries grown in
    let few = a.opened in
    let same : length (map (λ e. e.key) s.trimmed.log.entries) ≡ length s.trimmed.log.entries = length-map s.trimmed.log.entries (λ e. e.key) in
    let within : length s.marks ≤ length (map (λ e. e.key) s.trimmed.log.entries) = omega (arith, same, few) in
    record {
      left = after_left s.trimmed l.log message a.left;
      marks = λ key. a.marks key
          ∙ (sym (at_more no_mark s.marks (key_eq key) (map (λ e. e.key) s.trimmed.log.entries) keys.0 within)
          ∙ ap (λ ks. option_map_or (mark_at s.marks) (position (key_eq key) ks) no_mark) (sym keys.1));
      at_marks = a.at_marks;
      opened = omega (arith, few, count);
      room = a.room;
    }

-- each key's entry is trimmed at its mark
pub trimmed_there : (s : TrimmedAtMarks) (l : MarkedLog) (key : Key) → IsLeftOfMarked s l
    → trim_of key s.trimmed ≡ (let t : Trim = record { bytes = (l.marks key).length; reads = (l.marks key).reads } in t)
trimmed_there s l key a = by (place_of key s.trimmed.log) ∙ ap (λ m. let t : Trim = record { bytes = m.length; reads = m.reads } in t) (sym (a.marks key))
  where
    by : (o : Option ℕ) → option_map_or (trim_at s.trimmed.trims) o no_trim
        ≡ (let t : Trim = record { bytes = (option_map_or (mark_at s.marks) o no_mark).length; reads = (option_map_or (mark_at s.marks) o no_mark).reads } in t)
    by None = refl
    by (Some i) = a.at_marks i

same_asked : (s : TrimmedAtMarks) (l : MarkedLog) (body : Body) → IsLeftOfMarked s l → is_trimmed s.trimmed body ≡ is_below l body
same_asked s l (BytesMsg key offset) a = ap (λ t. nat_lt offset t.bytes) (trimmed_there s l key a)
same_asked s l (CutsMsg key first) a = ap (λ t. nat_lt first t.reads) (trimmed_there s l key a)
same_asked s l HelloMsg a = refl
same_asked s l (SummaryMsg c) a = refl
same_asked s l (ListMsg i) a = refl
same_asked s l (EntryMsg i h) a = refl
same_asked s l (PartMsg k o b) a = refl
same_asked s l (LensMsg k f n) a = refl
same_asked s l (OpenMsg n) a = refl
same_asked s l (OpenedMsg n) a = refl
same_asked s l (DataMsg p) a = refl
same_asked s l (StableMsg k) a = refl
same_asked s l (ReadMsg k i n) a = refl
same_asked s l (ReadsMsg k) a = refl
same_asked s l (DoneMsg k) a = refl
same_asked s l (EndedMsg k) a = refl
same_asked s l (StaleMsg n) a = refl
same_asked s l (FullMsg k) a = refl

pub answers_above : (grammar : Grammar) (s : TrimmedAtMarks) (l : MarkedLog) (message : Message) → IsLeftOfMarked s l
    → answer_bytes_by grammar (answer_left s.trimmed message) ≡ reply_bytes_by grammar (option_map Of_log (answer_above l message))
unfolding answer_above
answers_above grammar s l message a =
    ap (answer_bytes_by grammar) (answers_left s.trimmed l.log message a.left
    ∙ ap (λ c. if message.boot == l.log.boot && c then None else answer_to l.log message) (same_asked s l message.body a))
    ∙ by (if message.boot == l.log.boot && is_below l message.body then None else answer_to l.log message)
  where
    by : (o : Option Message) → answer_bytes_by grammar o ≡ reply_bytes_by grammar (option_map Of_log o)
    by None = refl
    by (Some m) = refl

-- answers about marks have one grammar
pub replies_alike : (grammar : Grammar) (boot : ℕ) (reported : Option MarkBody) → reply_bytes (option_map (about_mark boot) reported) ≡ reply_bytes_by grammar (option_map (about_mark boot) reported)
replies_alike grammar boot None = refl
replies_alike grammar boot (Some body) = refl

-- a change of entries that keeps their keys
keys_changed : (key : Key) (units : ℕ) (es : List Entry) → map (λ e. e.key) (map (λ e. if key_eq e.key key then acknowledging units e else e) es) ≡ map (λ e. e.key) es
keys_changed key units [] = refl
keys_changed key units (e ∷ es) = ap₂ ◌∷◌ (by (key_eq e.key key)) (keys_changed key units es)
  where
    by : (c : Bool) → (let x : Entry = (if c then acknowledging units e else e) in x).key ≡ e.key
    by true = refl
    by false = refl

keys_without : (i b r : ℕ) (es : List Entry) → map (λ e. e.key) (changed_at i (without b r) es) ≡ map (λ e. e.key) es
keys_without i b r [] = refl
keys_without zero b r (e ∷ es) = refl
keys_without (suc i) b r (e ∷ es) = ap (λ ks. e.key ∷ ks) (keys_without i b r es)

trim_set : (trims : List Trim) (i j : ℕ) (u : Trim) → i < length trims → trim_at (slice_set trims i u) j ≡ (if j == i then u else trim_at trims j)
trim_set trims i j u there = by (j == i) refl
  where
    by : (c : Bool) → (j == i) ≡ c → trim_at (slice_set trims i u) j ≡ (if c then u else trim_at trims j)
    by true p = ap (trim_at (slice_set trims i u)) (eqb-true j i p) ∙ get_or-set_same trims i u no_trim there
    by false p = get_or-set_other trims i j u no_trim (λ same. true≢false (sym (ap (λ n. n == i) same ∙ equal_itself i) ∙ p))

-- the store after a mark
abbrev pub marked : TrimmedAtMarks → Key → Mark → (i : ℕ) → List Mark → TrimmedAtMarks
marked s key m i marks = record {
  trimmed = record {
    log = with_entry key (acknowledging m.made) (with_trim i m.length m.reads s.trimmed).log;
    trims = (with_trim i m.length m.reads s.trimmed).trims;
  };
  marks = marks;
}

pub after_kept : (s : TrimmedAtMarks) (l : MarkedLog) (key : Key) (m : Mark) (i : ℕ) (marks : List Mark) → IsLeftOfMarked s l → place_of key s.trimmed.log ≡ Some i
    → i < length s.trimmed.log.entries → length s.trimmed.log.entries ≤ 64 → MayTrim i m.length m.reads s.trimmed
    → m.length ≤ length (bytes_of (slice_get s.trimmed.log.entries i))
    → ((j : ℕ) → mark_at marks j ≡ (if j == i then m else mark_at s.marks j)) → length marks ≤ max (length s.marks) (i + 1)
    → IsLeftOfMarked (marked s key m i marks) (with_mark key m l)
after_kept s l key m i marks a at there few may within put size =
    let room = a.room in
    let in_trims : i < length s.trimmed.trims = omega (arith, there, few, room) in
    let before = a.opened in
    let trimmed = with_trim i m.length m.reads s.trimmed in
    let keys : map (λ e. e.key) (with_entry key (acknowledging m.made) trimmed.log).entries ≡ map (λ e. e.key) s.trimmed.log.entries =
    keys_changed key m.made trimmed.log.entries ∙ keys_without i m.length m.reads s.trimmed.log.entries in
    let counts : length (with_entry key (acknowledging m.made) trimmed.log).entries ≡ length s.trimmed.log.entries =
    sym (length-map (with_entry key (acknowledging m.made) trimmed.log).entries (λ e. e.key)) ∙ (ap length keys ∙ length-map s.trimmed.log.entries (λ e. e.key)) in
    record {
      left = more_acknowledged trimmed l.log key m.made (trim_left s.trimmed l.log i m.length m.reads a.left in_trims may within);
      marks = λ k. (λ d. if key_eq k key then m else a.marks k d)
          ∙ (sym (put_at_key no_mark m s.marks marks (map (λ e. e.key) s.trimmed.log.entries) key k i at put)
          ∙ ap (λ ks. option_map_or (mark_at marks) (position (key_eq k) ks) no_mark) (sym keys));
      at_marks = λ j. trim_set s.trimmed.trims i j (record { bytes = m.length; reads = m.reads }) in_trims
          ∙ (both (j == i) j ∙ ap (λ x. let t : Trim = record { bytes = x.length; reads = x.reads } in t) (sym (put j)));
      opened = omega (arith, size, before, there, counts);
      room = length-set s.trimmed.trims i (record { bytes = m.length; reads = m.reads }) ∙ room;
    }
  where
    both : (c : Bool) (j : ℕ) → (if c then (let t : Trim = record { bytes = m.length; reads = m.reads } in t) else trim_at s.trimmed.trims j)
        ≡ (let t : Trim = record { bytes = (if c then m else mark_at s.marks j).length; reads = (if c then m else mark_at s.marks j).reads } in t)
    both true j = refl
    both false j = a.at_marks j

-- Whether a mark may follow is seen at what is left of its entry
abbrev pub left_follows : TrimmedAtMarks → ℕ → Mark → Bool
left_follows s i m = option_map_or (may_follow (record no_mark { reads = (trim_at s.trimmed.trims i).reads }) m) (slice_get s.trimmed.log.entries i) false

follows_alike : (t : Trim) (left e : Entry) (before m : Mark) → IsLeft t left e → before.reads ≡ t.reads → may_follow (record no_mark { reads = t.reads }) m left ≡ may_follow before m e
follows_alike t left e before m a reads =
    by (nat_lt t.reads m.reads) (nat_le m.reads (length e.lengths)) refl refl
    ∙ ap (λ n. nat_lt n m.reads && nat_le m.reads (length e.lengths) && m.length == sum (take m.reads e.lengths) && not (has_closing (take m.reads e.lengths))) (sym reads)
  where
    by : (c d : Bool) → nat_lt t.reads m.reads ≡ c → nat_le m.reads (length e.lengths) ≡ d
        → (nat_lt t.reads m.reads && nat_le m.reads (length left.lengths) && m.length == sum (take m.reads left.lengths) && not (has_closing (take m.reads left.lengths)))
        ≡ (nat_lt t.reads m.reads && nat_le m.reads (length e.lengths) && m.length == sum (take m.reads e.lengths) && not (has_closing (take m.reads e.lengths)))
    by false d p q =
        ap (λ c. c && nat_le m.reads (length left.lengths) && m.length == sum (take m.reads left.lengths) && not (has_closing (take m.reads left.lengths))) p
        ∙ sym (ap (λ c. c && nat_le m.reads (length e.lengths) && m.length == sum (take m.reads e.lengths) && not (has_closing (take m.reads e.lengths))) p)
    by true false p q =
        ap₂ (λ c n. c && nat_le m.reads n && m.length == sum (take m.reads left.lengths) && not (has_closing (take m.reads left.lengths))) p (count_left t left e a)
        ∙ (ap (λ d. true && d && m.length == sum (take m.reads left.lengths) && not (has_closing (take m.reads left.lengths))) q
        ∙ sym (ap₂ (λ c d. c && d && m.length == sum (take m.reads e.lengths) && not (has_closing (take m.reads e.lengths))) p q))
    by true true p q =
        let further : t.reads ≤ m.reads = let less = ltb-true t.reads m.reads p in omega (arith, less) in
        let within : m.reads ≤ length e.lengths = leb-true m.reads (length e.lengths) q in
        λ i. nat_lt t.reads m.reads && nat_le m.reads (count_left t left e a i) && m.length == same_front t left e m.reads a further within i
        && same_closing t left e m.reads a further within i

pub keeps_left : (s : TrimmedAtMarks) (l : MarkedLog) (key : Key) (m : Mark) (i : ℕ) → IsLeftOfMarked s l → length s.trimmed.log.entries ≤ 64
    → place_of key s.trimmed.log ≡ Some i → left_follows s i m ≡ keeps key m l
keeps_left s l key m i a few at =
    let room = a.room in
    let found : IsSameEntry s.trimmed.trims s.trimmed.log.entries l.log.entries key i =
    found_left key s.trimmed.trims s.trimmed.log.entries l.log.entries a.left.entries (omega (arith, few, room)) (Some i) at in
    let reads : (l.marks key).reads ≡ (trim_at s.trimmed.trims i).reads =
    ap (λ x. x.reads) (a.marks key ∙ ap (λ o. option_map_or (mark_at s.marks) o no_mark) at) ∙ sym (ap (λ t. t.reads) (a.at_marks i)) in
    ap (λ o. option_map_or (may_follow (record no_mark { reads = (trim_at s.trimmed.trims i).reads }) m) o false) found.is_left
    ∙ (follows_alike (trim_at s.trimmed.trims i) found.l found.e (l.marks key) m found.same reads
    ∙ sym (ap (λ o. option_map_or (may_follow (l.marks key) m) o false) found.found))

pub keeps_none : (s : TrimmedAtMarks) (l : MarkedLog) (key : Key) (m : Mark) → IsLeftOfMarked s l → length s.trimmed.log.entries ≤ 64
    → place_of key s.trimmed.log ≡ None → keeps key m l ≡ false
keeps_none s l key m a few at =
    let room = a.room in
    let found : entry_of key l.log ≡ None = found_left key s.trimmed.trims s.trimmed.log.entries l.log.entries a.left.entries (omega (arith, few, room)) None at in
    ap (λ o. option_map_or (may_follow (l.marks key) m) o false) found

-- what is told of a mark
pub reported_reads : (s : TrimmedAtMarks) (l : MarkedLog) (key : Key) (i : ℕ) (m : Mark) → IsLeftOfMarked s l → length s.trimmed.log.entries ≤ 64
    → place_of key s.trimmed.log ≡ Some i → reported_of_mark (MarkMsg key m) l ≡ Some (MarkedMsg key (mark_at s.marks i).reads)
reported_reads s l key i m a few at =
    let room = a.room in
    let found : IsSameEntry s.trimmed.trims s.trimmed.log.entries l.log.entries key i =
    found_left key s.trimmed.trims s.trimmed.log.entries l.log.entries a.left.entries (omega (arith, few, room)) (Some i) at in
    ap (option_map (λ e. MarkedMsg key (l.marks key).reads)) found.found
    ∙ ap (λ x. Some (MarkedMsg key x.reads)) (a.marks key ∙ ap (λ o. option_map_or (mark_at s.marks) o no_mark) at)

pub reported_mark : (s : TrimmedAtMarks) (l : MarkedLog) (key : Key) (i : ℕ) → IsLeftOfMarked s l → length s.trimmed.log.entries ≤ 64
    → place_of key s.trimmed.log ≡ Some i → reported_of_mark (AskMsg key) l ≡ Some (HeldMsg key (mark_at s.marks i))
reported_mark s l key i a few at =
    let room = a.room in
    let found : IsSameEntry s.trimmed.trims s.trimmed.log.entries l.log.entries key i =
    found_left key s.trimmed.trims s.trimmed.log.entries l.log.entries a.left.entries (omega (arith, few, room)) (Some i) at in
    ap (option_map (λ e. HeldMsg key (l.marks key))) found.found
    ∙ ap (λ x. Some (HeldMsg key x)) (a.marks key ∙ ap (λ o. option_map_or (mark_at s.marks) o no_mark) at)

unknown : (s : TrimmedAtMarks) (l : MarkedLog) (key : Key) → IsLeftOfMarked s l → length s.trimmed.log.entries ≤ 64 → place_of key s.trimmed.log ≡ None
    → entry_of key l.log ≡ None
unknown s l key a few at =
    let room = a.room in found_left key s.trimmed.trims s.trimmed.log.entries l.log.entries a.left.entries (omega (arith, few, room)) None at

pub reported_no_reads : (s : TrimmedAtMarks) (l : MarkedLog) (key : Key) (m : Mark) → IsLeftOfMarked s l → length s.trimmed.log.entries ≤ 64
    → place_of key s.trimmed.log ≡ None → reported_of_mark (MarkMsg key m) l ≡ None
reported_no_reads s l key m a few at = ap (option_map (λ e. MarkedMsg key (l.marks key).reads)) (unknown s l key a few at)

pub reported_no_mark : (s : TrimmedAtMarks) (l : MarkedLog) (key : Key) → IsLeftOfMarked s l → length s.trimmed.log.entries ≤ 64
    → place_of key s.trimmed.log ≡ None → reported_of_mark (AskMsg key) l ≡ None
reported_no_mark s l key a few at = ap (option_map (λ e. HeldMsg key (l.marks key))) (unknown s l key a few at)

-- A message about marks of the log's own boot, ..
not_less : (n k : ℕ) → n ≡ k → nat_lt n k ≡ false
not_less n k is = by (nat_lt n k) refl
  where
    by : (c : Bool) → nat_lt n k ≡ c → nat_lt n k ≡ false
    by true p = let less = ltb-true n k p in absurd (omega (arith, less, is))
    by false p = p

pub own_after : (l : MarkedLog) (message : MarkMessage) → message.boot ≡ l.log.boot → after_mark l message ≡ with_mark_body message.body l
unfolding after_mark
own_after l message own = ap (λ c. if c then with_mark_body message.body l else l) (test_of_equal message.boot l.log.boot own)

pub own_answer : (l : MarkedLog) (message : MarkMessage) → message.boot ≡ l.log.boot
    → answer_to_mark l message ≡ option_map (about_mark message.boot) (reported_of_mark message.body (with_mark_body message.body l))
unfolding answer_to_mark
own_answer l message own =
    (λ i. if is_mark_answer message.body then None
    else (if not_less message.boot l.log.boot own i then Some (Of_log (record { boot = message.boot; body = StaleMsg l.log.boot }))
    else (if test_of_equal message.boot l.log.boot own i then option_map (about_mark message.boot) (reported_of_mark message.body (own_after l message own i)) else None)))
    ∙ by message.body (with_mark_body message.body l)
  where
    by : (body : MarkBody) (next : MarkedLog) → (if is_mark_answer body then None else option_map (about_mark message.boot) (reported_of_mark body next))
        ≡ option_map (about_mark message.boot) (reported_of_mark body next)
    by (MarkMsg key m) next = refl
    by (MarkedMsg key reads) next = refl
    by (AskMsg key) next = refl
    by (HeldMsg key m) next = refl

-- .. and of any other: an older one gets Stale, unless only the logger sends its kind
pub other_after : (l : MarkedLog) (message : MarkMessage) → (message.boot == l.log.boot) ≡ false → after_mark l message ≡ l
unfolding after_mark
other_after l message other = ap (λ c. if c then with_mark_body message.body l else l) other

pub other_answer : (l : MarkedLog) (message : MarkMessage) → (message.boot == l.log.boot) ≡ false
    → answer_to_mark l message
    ≡ (if nat_lt message.boot l.log.boot && not (is_mark_answer message.body) then Some (Of_log (record { boot = message.boot; body = StaleMsg l.log.boot })) else None)
unfolding answer_to_mark
other_answer l message other = by (is_mark_answer message.body) (nat_lt message.boot l.log.boot) (message.boot == l.log.boot) other
  where
    by : (c d e : Bool) → e ≡ false
        → (if c then None else (if d then Some (Of_log (record { boot = message.boot; body = StaleMsg l.log.boot }))
        else (if e then option_map (about_mark message.boot) (reported_of_mark message.body (after_mark l message)) else None)))
        ≡ (if d && not c then Some (Of_log (record { boot = message.boot; body = StaleMsg l.log.boot })) else None)
    by true true e p = refl
    by true false e p = refl
    by false true e p = refl
    by false false false p = refl
    by false false true p = absurd (true≢false p)

-- how many bytes of an entry are kept
kept_left : (s : TrimmedAtMarks) (l : MarkedLog) (i : ℕ) → IsLeftOfMarked s l
    → kept_at i l ≡ option_map_or (λ e. length e.bytes - pages (trim_of e.key s.trimmed).bytes) (slice_get s.trimmed.log.entries i) 0
kept_left s l i a = by (slice_get s.trimmed.log.entries i) (left_at s.trimmed.trims s.trimmed.log.entries l.log.entries a.left.entries i)
  where
    by : (o : Option Entry) → IsLeftAt s.trimmed.trims l.log.entries i o → kept_at i l ≡ option_map_or (λ e. length e.bytes - pages (trim_of e.key s.trimmed).bytes) o 0
    by None is = ap (λ o. option_map_or (λ e. length e.bytes - pages (l.marks e.key).length) o 0) is
    by (Some x) is =
        let key : x.key ≡ is.0.key = ap (λ e. e.key) is.2.same in
        let size : length x.bytes ≡ length is.0.bytes = size_left (trim_at s.trimmed.trims i) x is.0 is.2 in
        ap (λ o. option_map_or (λ e. length e.bytes - pages (l.marks e.key).length) o 0) is.1
        ∙ (ap (λ t. length is.0.bytes - pages t.bytes) (sym (trimmed_there s l is.0.key a))
        ∙ ap₂ (λ n k. n - pages (trim_of k s.trimmed).bytes) (sym size) (sym key))

pub kept_nothing : (s : TrimmedAtMarks) (l : MarkedLog) (i : ℕ) → IsLeftOfMarked s l → None ≡ option_map head_of (slice_get s.trimmed.log.entries i) → 0 ≡ kept_at i l
kept_nothing s l i a none = sym (kept_left s l i a ∙ by (slice_get s.trimmed.log.entries i) none)
  where
    by : (o : Option Entry) → None ≡ option_map head_of o → option_map_or (λ e. length e.bytes - pages (trim_of e.key s.trimmed).bytes) o 0 ≡ 0
    by None is = refl
    by (Some e) is = absurd (true≢false (sym (ap is_some is)))

pub kept_some : (s : TrimmedAtMarks) (l : MarkedLog) (i n below : ℕ) (head : EntryHead) → IsLeftOfMarked s l → Some head ≡ option_map head_of (slice_get s.trimmed.log.entries i)
    → below ≡ (trim_of head.key s.trimmed).bytes → n ≡ head.length - (below - below % 4096) → n ≡ kept_at i l
kept_some s l i n below head a some below_is n_is = by (slice_get s.trimmed.log.entries i) some ∙ sym (kept_left s l i a)
  where
    round : (b : ℕ) → b - b % 4096 ≡ pages b
    round b = omega arith

    by : (o : Option Entry) → Some head ≡ option_map head_of o → n ≡ option_map_or (λ e. length e.bytes - pages (trim_of e.key s.trimmed).bytes) o 0
    by None is = absurd (true≢false (ap is_some is))
    by (Some e) is =
        let same : head ≡ head_of e = same_some is in
        n_is ∙ (ap (λ b. head.length - b) (round below) ∙ (ap (λ b. head.length - pages b) below_is ∙ ap (λ h. h.length - pages (trim_of h.key s.trimmed).bytes) same))

head_alike : (t : Trim) (x e : Entry) → IsLeft t x e → head_of x ≡ head_of e
head_alike t x e a = (λ d. of (a.same d) (size_left t x e a d) (count_left t x e a d))
  where
    of : Entry → ℕ → ℕ → EntryHead
    of y n k = record { key = y.key; cisn = y.cisn; sisn = y.sisn; mss = y.mss; length = n; fin = y.fin; done = y.done; reads = k; acked = y.acknowledged }

-- .. and what is told of it without them
pub head_left : (s : TrimmedAtMarks) (l : MarkedLog) (i : ℕ) → IsLeftOfMarked s l
    → option_map head_of (slice_get s.trimmed.log.entries i) ≡ option_map head_of (slice_get l.log.entries i)
head_left s l i a = by (slice_get s.trimmed.log.entries i) (left_at s.trimmed.trims s.trimmed.log.entries l.log.entries a.left.entries i)
  where
    by : (o : Option Entry) → IsLeftAt s.trimmed.trims l.log.entries i o → option_map head_of o ≡ option_map head_of (slice_get l.log.entries i)
    by None is = ap (option_map head_of) (sym is)
    by (Some x) is = ap Some (head_alike (trim_at s.trimmed.trims i) x is.0 is.2) ∙ ap (option_map head_of) (sym is.1)

-- what a store is left of after another message, and after a mark that may follow
pub after_given : (s : TrimmedAtMarks) (l : MarkedLog) (message : Message) (t : TrimmedLog) → IsLeftOfMarked s l → t.log ≡ log_after s.trimmed.log message
    → t.trims ≡ s.trimmed.trims → IsLeftOfMarked (record { trimmed = t; marks = s.marks }) (after_message l message)
after_given s l message t a log trims =
    subst (λ u. IsLeftOfMarked (record { trimmed = u; marks = s.marks }) (after_message l message))
    (ap₂ (λ x y. let u : TrimmedLog = record { log = x; trims = y } in u) (sym log) (sym trims)) (after_any s l message a)

pub kept_given : (s : TrimmedAtMarks) (l : MarkedLog) (key : Key) (m : Mark) (i : ℕ) (marks : List Mark) (t next : TrimmedLog) → IsLeftOfMarked s l
    → place_of key s.trimmed.log ≡ Some i → i < length s.trimmed.log.entries → length s.trimmed.log.entries ≤ 64 → left_follows s i m ≡ true
    → MayTrim i m.length m.reads s.trimmed → m.length ≤ length (bytes_of (slice_get s.trimmed.log.entries i))
    → ((j : ℕ) → mark_at marks j ≡ (if j == i then m else mark_at s.marks j)) → length marks ≤ max (length s.marks) (i + 1)
    → t ≡ with_trim i m.length m.reads s.trimmed → next.log ≡ with_entry key (acknowledging m.made) t.log → next.trims ≡ t.trims
    → IsLeftOfMarked (record { trimmed = next; marks = marks }) (if keeps key m l then with_mark key m l else l)
kept_given s l key m i marks t next a at there few follows may within put size trim log trims =
    let kept : keeps key m l ≡ true = sym (keeps_left s l key m i a few at) ∙ follows in
    let same : marked s key m i marks ≡ (let n : TrimmedAtMarks = record { trimmed = next; marks = marks } in n) =
    ap₂ (λ x y. let n : TrimmedAtMarks = record { trimmed = record { log = x; trims = y }; marks = marks } in n)
    (sym (log ∙ ap (λ u. with_entry key (acknowledging m.made) u.log) trim)) (sym (trims ∙ ap (λ u. u.trims) trim)) in
    subst (λ n. IsLeftOfMarked n (if keeps key m l then with_mark key m l else l)) same
    (subst (λ k. IsLeftOfMarked (marked s key m i marks) (if k then with_mark key m l else l)) (sym kept) (after_kept s l key m i marks a at there few may within put size))

pub not_kept : (s : TrimmedAtMarks) (l : MarkedLog) (key : Key) (m : Mark) (i : ℕ) → IsLeftOfMarked s l → length s.trimmed.log.entries ≤ 64
    → place_of key s.trimmed.log ≡ Some i → left_follows s i m ≡ false → IsLeftOfMarked s (if keeps key m l then with_mark key m l else l)
not_kept s l key m i a few at follows =
    subst (λ k. IsLeftOfMarked s (if k then with_mark key m l else l)) (sym (sym (keeps_left s l key m i a few at) ∙ follows)) a

pub none_kept : (s : TrimmedAtMarks) (l : MarkedLog) (key : Key) (m : Mark) → IsLeftOfMarked s l → length s.trimmed.log.entries ≤ 64
    → place_of key s.trimmed.log ≡ None → IsLeftOfMarked s (if keeps key m l then with_mark key m l else l)
none_kept s l key m a few at = subst (λ k. IsLeftOfMarked s (if k then with_mark key m l else l)) (sym (keeps_none s l key m a few at)) a

-- the ranges of what is read
boot_of : (kind : MarkKind) (boot behind : ℕ) (numbers : List ℕ) → is_sound kind boot behind numbers ≡ true → 1 ≤ boot
unfolding is_sound
boot_of kind boot behind numbers s = leb-true 1 boot (and_parts _ _ (and_parts _ _ s).0).0

pub some_boot : (m : MarkMessage) → IsSpellable m → 1 ≤ m.boot
some_boot m spellable = boot_of (kind_of m.body) m.boot (length (behind_of m.body)) (numbers_of m.body) spellable.sound

fields : (kind : MarkKind) (boot behind : ℕ) (numbers : List ℕ) → is_sound kind boot behind numbers ≡ true → all_in_range boot behind (fields_of kind) numbers ≡ true
unfolding is_sound
fields kind boot behind numbers s = (and_parts _ _ (and_parts _ _ s).0).1

few_behind : (n : ℕ) → has_length kinds.Mark (34 + n) ≡ true → n ≤ 1100
unfolding has_length
few_behind n h = let most = leb-true (34 + n) 1134 (and_parts (nat_le 34 (34 + n)) (nat_le (34 + n) 1134) h).1 in omega (arith, most)

pub record IsInRange (m : Mark) : Type 0 where
  pub reads : m.reads ≤ 2 ^ 24 + 1
  pub bytes : m.length ≤ 2 ^ 24
  pub made : m.made ≤ 2 ^ 24
  pub state : length m.state ≤ 1100

pub mark_ranges : (boot : ℕ) (key : Key) (m : Mark) → IsSpellable (record { boot = boot; body = MarkMsg key m }) → IsInRange m
mark_ranges boot key m spellable =
    let f = and_parts (nat_le m.reads (2 ^ 24 + 1)) (nat_le m.length (2 ^ 24) && (nat_le m.made (2 ^ 24) && true))
    (fields kinds.Mark boot (length m.state) (key.ip ∷ key.port ∷ m.reads ∷ m.length ∷ m.made ∷ []) spellable.sound) in
    let g = and_parts (nat_le m.length (2 ^ 24)) (nat_le m.made (2 ^ 24) && true) f.1 in
    record {
      reads = leb-true m.reads (2 ^ 24 + 1) f.0;
      bytes = leb-true m.length (2 ^ 24) g.0;
      made = leb-true m.made (2 ^ 24) (and_parts (nat_le m.made (2 ^ 24)) true g.1).0;
      state = few_behind (length m.state) spellable.size;
    }
