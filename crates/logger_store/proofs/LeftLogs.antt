-- What is left of all entries of a log: it takes each message as they do, and answers alike where it isn't asked for what is trimmed.
use Rattle.std.proofs.Common.{◌≡◌, ◌∙◌, ℕ, zero, suc, ◌+◌, ◌<◌, ◌≤◌, ◌==◌, ◌&&◌, ◌||◌, nat_lt, nat_le, not, Bool, true, false, refl, sym, ap, ap₂, subst, cond, arith, Option, Some, None, option_map, List, [], ◌∷◌, ◌++◌, length, take, drop, map, find, replicate, slice_get, slice_set, sum, true≢false, if◌then◌else◌}
use Rattle.std.specs.List.{list_any, position, prefix_len, AllByRecursion}
use Rattle.std.specs.Option.{option_map_or}
use Rattle.std.proofs.lemmas.Bool.{ltb-true, ltb-false}
use Rattle.ft_io.specs.declared.Key.{Key}
use Rattle.ft_io.specs.Key.{key_eq}
use Rattle.seq_arith.specs.Message.{Numbers, Body, Message, is_answer}
use Rattle.seq_arith.specs.Message.Body.{HelloMsg, SummaryMsg, ListMsg, EntryMsg, BytesMsg, PartMsg, CutsMsg, LensMsg, OpenMsg, OpenedMsg, DataMsg, StableMsg, ReadMsg, ReadsMsg, DoneMsg, EndedMsg, StaleMsg, FullMsg}
use Rattle.ft_model.specs.Log.{Log, Entry, log_after, answer_to, answer_from, with_body, with_part, with_read, new_entry, with_entry, part_of, lens_of, head_of, kept_of, on_entry, opened_answer, is_hello, unless_more}
use Rattle.ft_model.proofs.PlayableLemmas.{same_either_way}
use Rattle.log_pages.specs.Pages.{changed_at, pages, zeroed, reads_on, took, without}
use Rattle.logger_store.specs.StoreState.{acknowledging, bytes_of, lengths_of}
use Rattle.logger_store.specs.Trim.{TrimmedLog, no_trim, trim_at, is_trimmed, answer_left, with_trim, MayTrim, IsLeft, AreLeft, IsLeftOf}
use Rattle.logger_store.specs.declared.trimming.Trim.{Trim}
use Rattle.logger_store.proofs.Entries.{changed}
use Rattle.logger_store.proofs.Asking.{bytes_stay, cuts_stay}
use Rattle.log_pages.proofs.Levels.{levelled_count, levelled_front, levelled_rest, levelled_front_closing}
use Rattle.logger_store.proofs.Left.{same_length, same_rest, low, part_left, read_left, end_left, acknowledged_left, further_left}

pub same_key_left : (t : Trim) (l e : Entry) (key : Key) → IsLeft t l e → key_eq l.key key ≡ key_eq e.key key
same_key_left t l e key a = ap (λ x. key_eq x.key key) a.same

-- a change that keeps what is left of an entry does so in all of them
changed_left : (key : Key) (change : Entry → Entry) → ((t : Trim) (l e : Entry) → IsLeft t l e → IsLeft t (change l) (change e)) → (trims : List Trim)
    (left es : List Entry) → AreLeft trims left es → AreLeft trims (changed key change left) (changed key change es)
changed_left key change f [] left es a = ap (changed key change) a
changed_left key change f (t ∷ trims) [] [] a = a
changed_left key change f (t ∷ trims) [] (e ∷ es) a = absurd a
changed_left key change f (t ∷ trims) (l ∷ left) [] a = absurd a
changed_left key change f (t ∷ trims) (l ∷ left) (e ∷ es) a =
    (by (key_eq l.key key) (key_eq e.key key) (same_key_left t l e key a.0), changed_left key change f trims left es a.1)
  where
    by : (c d : Bool) → c ≡ d → IsLeft t (if c then change l else l) (if d then change e else e)
    by true true p = f t l e a.0
    by false false p = a.0
    by true false p = absurd (true≢false p)
    by false true p = absurd (true≢false (sym p))

no_entry : (n : Numbers) (t : Trim) → t ≡ no_trim → IsLeft t (new_entry n) (new_entry n)
no_entry n t none = subst (λ u. IsLeft u (new_entry n) (new_entry n)) (sym none) (record { logged = omega arith; took = refl; on = refl; within = omega arith; same = refl })

-- a new entry is whole
added_left : (n : Numbers) (trims : List Trim) (left es : List Entry) → AreLeft trims left es → AreLeft trims (left ++ new_entry n ∷ []) (es ++ new_entry n ∷ [])
added_left n [] left es a = ap (λ xs. xs ++ new_entry n ∷ []) a
added_left n (t ∷ []) [] [] a = (no_entry n t a.0, refl)
added_left n (t ∷ u ∷ trims) [] [] a = (no_entry n t a.0, a.1)
added_left n (t ∷ trims) [] (e ∷ es) a = absurd a
added_left n (t ∷ trims) (l ∷ left) [] a = absurd a
added_left n (t ∷ trims) (l ∷ left) (e ∷ es) a = (a.0, added_left n trims left es a.1)

pub same_count : (trims : List Trim) (left es : List Entry) → AreLeft trims left es → length left ≡ length es
same_count [] left es a = ap length a
same_count (t ∷ trims) [] [] a = refl
same_count (t ∷ trims) [] (e ∷ es) a = absurd a
same_count (t ∷ trims) (l ∷ left) [] a = absurd a
same_count (t ∷ trims) (l ∷ left) (e ∷ es) a = ap suc (same_count trims left es a.1)

same_known : (key : Key) (trims : List Trim) (left es : List Entry) → AreLeft trims left es → list_any (λ e. key_eq e.key key) left ≡ list_any (λ e. key_eq e.key key) es
same_known key [] left es a = ap (list_any (λ e. key_eq e.key key)) a
same_known key (t ∷ trims) [] [] a = refl
same_known key (t ∷ trims) [] (e ∷ es) a = absurd a
same_known key (t ∷ trims) (l ∷ left) [] a = absurd a
same_known key (t ∷ trims) (l ∷ left) (e ∷ es) a = ap₂ ◌||◌ (same_key_left t l e key a.0) (same_known key trims left es a.1)

-- what is told alike of an entry and of what is left of it
abbrev ReportsAlike : (Option Entry → Option Body) → Type 0
ReportsAlike shown = (t : Trim) (l e : Entry) → IsLeft t l e → shown (Some l) ≡ shown (Some e)

same_found : (shown : Option Entry → Option Body) → ReportsAlike shown → (key : Key) (trims : List Trim) (left es : List Entry) → AreLeft trims left es
    → shown (find (λ e. key_eq e.key key) left) ≡ shown (find (λ e. key_eq e.key key) es)
same_found shown alike key [] left es a = ap (λ xs. shown (find (λ e. key_eq e.key key) xs)) a
same_found shown alike key (t ∷ trims) [] [] a = refl
same_found shown alike key (t ∷ trims) [] (e ∷ es) a = absurd a
same_found shown alike key (t ∷ trims) (l ∷ left) [] a = absurd a
same_found shown alike key (t ∷ trims) (l ∷ left) (e ∷ es) a =
    by (key_eq l.key key) (key_eq e.key key) (same_key_left t l e key a.0) (same_found shown alike key trims left es a.1)
  where
    by : (c d : Bool) → c ≡ d → shown (find (λ x. key_eq x.key key) left) ≡ shown (find (λ x. key_eq x.key key) es)
        → shown (cond c (Some l) (find (λ x. key_eq x.key key) left)) ≡ shown (cond d (Some e) (find (λ x. key_eq x.key key) es))
    by true true p rest = alike t l e a.0
    by false false p rest = rest
    by true false p rest = absurd (true≢false p)
    by false true p rest = absurd (true≢false (sym p))

same_at : (shown : Option Entry → Option Body) → ReportsAlike shown → (i : ℕ) (trims : List Trim) (left es : List Entry) → AreLeft trims left es
    → shown (slice_get left i) ≡ shown (slice_get es i)
same_at shown alike i [] left es a = ap (λ xs. shown (slice_get xs i)) a
same_at shown alike i (t ∷ trims) [] [] a = refl
same_at shown alike i (t ∷ trims) [] (e ∷ es) a = absurd a
same_at shown alike i (t ∷ trims) (l ∷ left) [] a = absurd a
same_at shown alike zero (t ∷ trims) (l ∷ left) (e ∷ es) a = alike t l e a.0
same_at shown alike (suc i) (t ∷ trims) (l ∷ left) (e ∷ es) a = same_at shown alike i trims left es a.1

-- all but the bytes of an entry is told alike
pub size_left : (t : Trim) (l e : Entry) → IsLeft t l e → length l.bytes ≡ length e.bytes
size_left t l e a = ap (λ x. length x.bytes) a.same ∙ same_length (pages t.bytes) e.bytes (low t.bytes (length e.bytes) a.within)

pub count_left : (t : Trim) (l e : Entry) → IsLeft t l e → length l.lengths ≡ length e.lengths
count_left t l e a = ap (λ x. length x.lengths) a.same ∙ levelled_count t.reads e.lengths a.logged

-- what the first reads took, past the trim
pub same_front : (t : Trim) (l e : Entry) (n : ℕ) → IsLeft t l e → t.reads ≤ n → n ≤ length e.lengths → sum (take n l.lengths) ≡ sum (take n e.lengths)
same_front t l e n a further within = ap (λ x. sum (take n x.lengths)) a.same ∙ levelled_front t.reads n e.lengths further within

pub same_closing : (t : Trim) (l e : Entry) (n : ℕ) → IsLeft t l e → t.reads ≤ n → n ≤ length e.lengths → reads_on (take n l.lengths) ≡ reads_on (take n e.lengths)
same_closing t l e n a further within =
    ap (λ x. reads_on (take n x.lengths)) a.same ∙ ap not (levelled_front_closing t.reads n e.lengths further within a.on)

of_lengths : (shown : Entry → ℕ → ℕ → Body) → ((b r n k : ℕ) (e : Entry) → shown (without b r e) n k ≡ shown e n k)
    → ReportsAlike (λ o. on_entry (λ e. Some (shown e (length e.bytes) (length e.lengths))) o)
of_lengths shown same t l e a =
    (λ i. Some (shown l (size_left t l e a i) (count_left t l e a i)))
    ∙ (ap (λ x. Some (shown x (length e.bytes) (length e.lengths))) a.same ∙ ap Some (same t.bytes t.reads (length e.bytes) (length e.lengths) e))

heads_alike : (i : ℕ) → ReportsAlike (on_entry (λ e. Some (EntryMsg i (head_of e))))
heads_alike i = of_lengths (λ e n k. EntryMsg i (record { key = e.key; cisn = e.cisn; sisn = e.sisn; mss = e.mss; length = n; fin = e.fin; done = e.done; reads = k; acked = e.acknowledged }))
    (λ b r n k e. refl)

stable_alike : ReportsAlike (on_entry (λ e. Some (StableMsg (kept_of e))))
stable_alike = of_lengths (λ e n k. StableMsg (record { key = e.key; length = n; fin = e.fin; reads = k })) (λ b r n k e. refl)

reads_alike : ReportsAlike (on_entry (λ e. Some (ReadsMsg (kept_of e))))
reads_alike = of_lengths (λ e n k. ReadsMsg (record { key = e.key; length = n; fin = e.fin; reads = k })) (λ b r n k e. refl)

-- bytes past the trim are told alike
part_alike : (t : Trim) (l e : Entry) (offset : ℕ) → IsLeft t l e → t.bytes ≤ offset → part_of l offset ≡ part_of e offset
part_alike t l e offset a past =
    ap (λ x. part_of x offset) a.same
    ∙ (ap (λ n. if nat_lt offset n then Some (PartMsg e.key offset (take 1024 (drop offset (zeroed (pages t.bytes) e.bytes)))) else None)
    (same_length (pages t.bytes) e.bytes (low t.bytes (length e.bytes) a.within))
    ∙ ap (λ xs. if nat_lt offset (length e.bytes) then Some (PartMsg e.key offset (take 1024 xs)) else None)
    (same_rest (pages t.bytes) offset e.bytes (below t.bytes offset past)))
  where
    below : (b n : ℕ) → b ≤ n → pages b ≤ n
    below b n h = omega (arith, h)

-- .. and lengths past it
lens_alike : (t : Trim) (l e : Entry) (first : ℕ) → IsLeft t l e → t.reads ≤ first → lens_of l first ≡ lens_of e first
lens_alike t l e first a past =
    ap (λ x. lens_of x first) a.same
    ∙ (λ i. if nat_lt first (levelled_count t.reads e.lengths a.logged i) then Some (LensMsg e.key first (take 512 (levelled_rest t.reads first e.lengths past i))) else None)

pub one_less : (m n : ℕ) → nat_lt (suc m) (suc n) ≡ nat_lt m n
one_less m n = go (nat_lt (suc m) (suc n)) (nat_lt m n) refl refl
  where
    go : (c d : Bool) → nat_lt (suc m) (suc n) ≡ c → nat_lt m n ≡ d → nat_lt (suc m) (suc n) ≡ nat_lt m n
    go true true p q = p ∙ sym q
    go false false p q = p ∙ sym q
    go true false p q = let less = ltb-true (suc m) (suc n) p in let more = ltb-false m n q in absurd (omega (arith, less, more))
    go false true p q = let more = ltb-false (suc m) (suc n) p in let less = ltb-true m n q in absurd (omega (arith, less, more))

pub one_more : (n : ℕ) → 1 + n ≡ suc n
one_more n = omega arith

pub some_more : (n : ℕ) → nat_lt 0 (suc n) ≡ true
some_more n = go (nat_lt 0 (suc n)) refl
  where
    go : (c : Bool) → nat_lt 0 (suc n) ≡ c → nat_lt 0 (suc n) ≡ true
    go true p = p
    go false p = let none = ltb-false 0 (suc n) p in absurd (omega (arith, none))

-- what is asked of the key's entry past its trim, in bytes or in reads
past_trim : (measure : Trim → ℕ) (at : ℕ) (shown : Entry → Option Body) → ((t : Trim) (l e : Entry) → IsLeft t l e → measure t ≤ at → shown l ≡ shown e) → (key : Key)
    (trims : List Trim) (left es : List Entry) → AreLeft trims left es
    → nat_lt at (measure (option_map_or (trim_at trims) (position (key_eq key) (map (λ e. e.key) left)) no_trim)) ≡ false
    → on_entry shown (find (λ e. key_eq e.key key) left) ≡ on_entry shown (find (λ e. key_eq e.key key) es)
past_trim measure at shown alike key [] left es a past = ap (λ xs. on_entry shown (find (λ e. key_eq e.key key) xs)) a
past_trim measure at shown alike key (t ∷ trims) [] [] a past = refl
past_trim measure at shown alike key (t ∷ trims) [] (e ∷ es) a past = absurd a
past_trim measure at shown alike key (t ∷ trims) (l ∷ left) [] a past = absurd a
past_trim measure at shown alike key (t ∷ trims) (l ∷ left) (e ∷ es) a past =
    by (key_eq l.key key) (key_eq e.key key) (key_eq key l.key) (same_key_left t l e key a.0) (same_either_way l.key key)
    (λ h. past_trim measure at shown alike key trims left es a.1 h)
    (subst (λ k. nat_lt at (measure (option_map_or (trim_at (t ∷ trims)) (cond (nat_lt (cond (not (key_eq key l.key)) k 0) (suc count)) (Some (cond (not (key_eq key l.key)) k 0)) None) no_trim)) ≡ false)
    (one_more first) past)
  where
    first : ℕ
    first = prefix_len (λ k. not (key_eq key k)) (map (λ x. x.key) left)

    count : ℕ
    count = length (map (λ x. x.key) left)

    shifted : (c d : Bool) → c ≡ d → nat_lt at (measure (option_map_or (trim_at (t ∷ trims)) (cond c (Some (suc first)) None) no_trim)) ≡ false
        → nat_lt at (measure (option_map_or (trim_at trims) (cond d (Some first) None) no_trim)) ≡ false
    shifted true true p h = h
    shifted false false p h = h
    shifted true false p h = absurd (true≢false p)
    shifted false true p h = absurd (true≢false (sym p))

    by : (c d f : Bool) → c ≡ d → c ≡ f
        → (nat_lt at (measure (option_map_or (trim_at trims) (cond (nat_lt first count) (Some first) None) no_trim)) ≡ false
        → on_entry shown (find (λ x. key_eq x.key key) left) ≡ on_entry shown (find (λ x. key_eq x.key key) es))
        → nat_lt at (measure (option_map_or (trim_at (t ∷ trims)) (cond (nat_lt (cond (not f) (suc first) 0) (suc count)) (Some (cond (not f) (suc first) 0)) None) no_trim)) ≡ false
        → on_entry shown (cond c (Some l) (find (λ x. key_eq x.key key) left)) ≡ on_entry shown (cond d (Some e) (find (λ x. key_eq x.key key) es))
    by true true true p q rest h = alike t l e a.0
        (ltb-false at (measure t) (subst (λ b. nat_lt at (measure (option_map_or (trim_at (t ∷ trims)) (cond b (Some 0) None) no_trim)) ≡ false) (some_more count) h))
    by false false false p q rest h = rest (shifted (nat_lt (suc first) (suc count)) (nat_lt first count) (one_less first count) h)
    by true false f p q rest h = absurd (true≢false p)
    by false true f p q rest h = absurd (true≢false (sym p))
    by true true false p q rest h = absurd (true≢false q)
    by false false true p q rest h = absurd (true≢false (sym q))

-- both logs
record AreBoth (trims : List Trim) (left log : Log) : Type 0 where
  pub boot : left.boot ≡ log.boot
  pub entries : AreLeft trims left.entries log.entries

either_log : (trims : List Trim) (c d : Bool) (x y u v : Log) → c ≡ d → AreBoth trims x u → AreBoth trims y v → AreBoth trims (if c then x else y) (if d then u else v)
either_log trims true true x y u v p a b = a
either_log trims false false x y u v p a b = b
either_log trims true false x y u v p a b = absurd (true≢false p)
either_log trims false true x y u v p a b = absurd (true≢false (sym p))

body_left : (trims : List Trim) (body : Body) (left log : Log) → AreBoth trims left log → AreBoth trims (with_body body left) (with_body body log)
body_left trims (OpenMsg n) left log a =
    either_log trims (list_any (λ e. key_eq e.key n.key) left.entries || nat_le 64 (length left.entries))
    (list_any (λ e. key_eq e.key n.key) log.entries || nat_le 64 (length log.entries)) left (record left { entries = left.entries ++ new_entry n ∷ [] }) log
    (record log { entries = log.entries ++ new_entry n ∷ [] })
    (ap₂ ◌||◌ (same_known n.key trims left.entries log.entries a.entries) (ap (nat_le 64) (same_count trims left.entries log.entries a.entries))) a
    (record { boot = a.boot; entries = added_left n trims left.entries log.entries a.entries })
body_left trims (DataMsg part) left log a =
    record { boot = a.boot; entries = changed_left part.key (with_part part) (λ t l e. part_left t l e part) trims left.entries log.entries a.entries }
body_left trims (ReadMsg key index n) left log a =
    record { boot = a.boot; entries = changed_left key (with_read index n) (λ t l e. read_left t l e index n) trims left.entries log.entries a.entries }
body_left trims (DoneMsg key) left log a =
    record { boot = a.boot; entries = changed_left key (λ e. record e { done = true }) end_left trims left.entries log.entries a.entries }
body_left trims HelloMsg left log a = a
body_left trims (SummaryMsg c) left log a = a
body_left trims (ListMsg i) left log a = a
body_left trims (EntryMsg i h) left log a = a
body_left trims (BytesMsg k o) left log a = a
body_left trims (PartMsg k o b) left log a = a
body_left trims (CutsMsg k f) left log a = a
body_left trims (LensMsg k f l) left log a = a
body_left trims (OpenedMsg n) left log a = a
body_left trims (StableMsg k) left log a = a
body_left trims (ReadsMsg k) left log a = a
body_left trims (EndedMsg k) left log a = a
body_left trims (StaleMsg n) left log a = a
body_left trims (FullMsg k) left log a = a

both_after : (trims : List Trim) (message : Message) (left log : Log) → AreBoth trims left log → AreBoth trims (log_after left message) (log_after log message)
unfolding log_after
both_after trims message left log a =
    let own : AreBoth trims (if message.boot == left.boot then with_body message.body left else left) (if message.boot == log.boot then with_body message.body log else log) =
    either_log trims (message.boot == left.boot) (message.boot == log.boot) (with_body message.body left) left (with_body message.body log) log
    (ap (λ b. message.boot == b) a.boot) (body_left trims message.body left log a) a in
    let greeted : AreBoth trims (record left { boot = message.boot }) (record log { boot = message.boot }) = record { boot = refl; entries = a.entries } in
    either_log trims (is_answer message.body || nat_lt message.boot left.boot) (is_answer message.body || nat_lt message.boot log.boot) left _ log _
    (ap (λ b. is_answer message.body || nat_lt message.boot b) a.boot) a
    (either_log trims (is_hello message.body) (is_hello message.body) (record left { boot = message.boot }) _ (record log { boot = message.boot }) _ refl greeted own)

pub after_left : (t : TrimmedLog) (log : Log) (message : Message) → IsLeftOf t log → IsLeftOf (record t { log = log_after t.log message }) (log_after log message)
after_left t log message a =
    let both = both_after t.trims message t.log log (record { boot = a.boot; entries = a.entries }) in record { boot = both.boot; entries = both.entries }

pub none_trimmed : (n : ℕ) → AllByRecursion (λ u. u ≡ no_trim) (replicate n no_trim)
none_trimmed zero = tt
none_trimmed (suc n) = (refl, none_trimmed n)

pub more_acknowledged : (t : TrimmedLog) (log : Log) (key : Key) (units : ℕ) → IsLeftOf t log
    → IsLeftOf (record t { log = with_entry key (acknowledging units) t.log }) (with_entry key (acknowledging units) log)
more_acknowledged t log key units a =
    record { boot = a.boot; entries = changed_left key (acknowledging units) (λ u l e b. acknowledged_left u l e units b) t.trims t.log.entries log.entries a.entries }

-- what is told once both logs have taken a message
reported_alike : (trims : List Trim) (body : Body) (left log : Log) → AreBoth trims left log → is_trimmed (record { log = left; trims = trims }) body ≡ false
    → answer_from body left ≡ answer_from body log
reported_alike trims HelloMsg left log a past = ap (λ n. Some (SummaryMsg n)) (same_count trims left.entries log.entries a.entries)
reported_alike trims (ListMsg i) left log a past = same_at (on_entry (λ e. Some (EntryMsg i (head_of e)))) (heads_alike i) i trims left.entries log.entries a.entries
reported_alike trims (BytesMsg key offset) left log a past =
    past_trim (λ t. t.bytes) offset (λ e. part_of e offset) (λ t l e b h. part_alike t l e offset b h) key trims left.entries log.entries a.entries past
reported_alike trims (CutsMsg key first) left log a past =
    past_trim (λ t. t.reads) first (λ e. lens_of e first) (λ t l e b h. lens_alike t l e first b h) key trims left.entries log.entries a.entries past
reported_alike trims (OpenMsg n) left log a past =
    same_found (opened_answer n.key) (λ t l e b. ap (λ x. opened_answer n.key (Some x)) b.same) n.key trims left.entries log.entries a.entries
reported_alike trims (DataMsg part) left log a past =
    ap (unless_more part) (same_found (on_entry (λ e. Some (StableMsg (kept_of e)))) stable_alike part.key trims left.entries log.entries a.entries)
reported_alike trims (ReadMsg key index n) left log a past = same_found (on_entry (λ e. Some (ReadsMsg (kept_of e)))) reads_alike key trims left.entries log.entries a.entries
reported_alike trims (DoneMsg key) left log a past =
    same_found (on_entry (λ e. Some (EndedMsg key))) (λ t l e b. refl) key trims left.entries log.entries a.entries
reported_alike trims (SummaryMsg c) left log a past = refl
reported_alike trims (EntryMsg i h) left log a past = refl
reported_alike trims (PartMsg k o b) left log a past = refl
reported_alike trims (LensMsg k f l) left log a past = refl
reported_alike trims (OpenedMsg n) left log a past = refl
reported_alike trims (StableMsg k) left log a past = refl
reported_alike trims (ReadsMsg k) left log a past = refl
reported_alike trims (EndedMsg k) left log a past = refl
reported_alike trims (StaleMsg n) left log a past = refl
reported_alike trims (FullMsg k) left log a past = refl

if_reported : (c d : Bool) (x u : Option Body) → c ≡ d → (d ≡ true → x ≡ u) → (if c then x else None) ≡ (if d then u else None)
if_reported true true x u p same = same refl
if_reported false false x u p same = refl
if_reported true false x u p same = absurd (true≢false p)
if_reported false true x u p same = absurd (true≢false (sym p))

-- a question is of the same entry before and after it
same_question : (t : TrimmedLog) (boot : ℕ) (body : Body) → is_trimmed (record t { log = log_after t.log (record { boot = boot; body = body }) }) body ≡ is_trimmed t body
same_question t boot (BytesMsg k o) = ap (λ l. is_trimmed (record t { log = l }) (BytesMsg k o)) (bytes_stay boot k o t.log)
same_question t boot (CutsMsg k f) = ap (λ l. is_trimmed (record t { log = l }) (CutsMsg k f)) (cuts_stay boot k f t.log)
same_question t boot HelloMsg = refl
same_question t boot (SummaryMsg c) = refl
same_question t boot (ListMsg i) = refl
same_question t boot (EntryMsg i h) = refl
same_question t boot (PartMsg k o b) = refl
same_question t boot (LensMsg k f l) = refl
same_question t boot (OpenMsg n) = refl
same_question t boot (OpenedMsg n) = refl
same_question t boot (DataMsg p) = refl
same_question t boot (StableMsg k) = refl
same_question t boot (ReadMsg k i n) = refl
same_question t boot (ReadsMsg k) = refl
same_question t boot (DoneMsg k) = refl
same_question t boot (EndedMsg k) = refl
same_question t boot (StaleMsg n) = refl
same_question t boot (FullMsg k) = refl

-- a Hello asks for nothing
hello_asks_nothing : (t : TrimmedLog) (body : Body) → is_hello body ≡ true → is_trimmed t body ≡ false
hello_asks_nothing t (BytesMsg k o) hello = absurd (true≢false (sym hello))
hello_asks_nothing t (CutsMsg k f) hello = absurd (true≢false (sym hello))
hello_asks_nothing t HelloMsg hello = refl
hello_asks_nothing t (SummaryMsg c) hello = refl
hello_asks_nothing t (ListMsg i) hello = refl
hello_asks_nothing t (EntryMsg i h) hello = refl
hello_asks_nothing t (PartMsg k o b) hello = refl
hello_asks_nothing t (LensMsg k f l) hello = refl
hello_asks_nothing t (OpenMsg n) hello = refl
hello_asks_nothing t (OpenedMsg n) hello = refl
hello_asks_nothing t (DataMsg p) hello = refl
hello_asks_nothing t (StableMsg k) hello = refl
hello_asks_nothing t (ReadMsg k i n) hello = refl
hello_asks_nothing t (ReadsMsg k) hello = refl
hello_asks_nothing t (DoneMsg k) hello = refl
hello_asks_nothing t (EndedMsg k) hello = refl
hello_asks_nothing t (StaleMsg n) hello = refl
hello_asks_nothing t (FullMsg k) hello = refl

asks_nothing : (hello own trimmed : Bool) → (hello ≡ true → trimmed ≡ false) → (own && trimmed) ≡ false → (hello || own) ≡ true → trimmed ≡ false
asks_nothing true own trimmed f p q = f refl
asks_nothing false true trimmed f p q = p
asks_nothing false false trimmed f p q = absurd (true≢false (sym q))

-- what is answered where nothing is asked for that is trimmed
answers_alike : (t : TrimmedLog) (log : Log) (message : Message) → IsLeftOf t log → (message.boot == log.boot && is_trimmed t message.body) ≡ false
    → answer_to t.log message ≡ answer_to log message
unfolding answer_to
answers_alike t log message a past =
    let both = both_after t.trims message t.log log (record { boot = a.boot; entries = a.entries }) in
    let after : (is_hello message.body || message.boot == log.boot) ≡ true → answer_from message.body (log_after t.log message) ≡ answer_from message.body (log_after log message) =
    λ own. reported_alike t.trims message.body (log_after t.log message) (log_after log message) both
    (same_question t message.boot message.body
    ∙ asks_nothing (is_hello message.body) (message.boot == log.boot) (is_trimmed t message.body) (hello_asks_nothing t message.body) past own) in
    let own : (if is_hello message.body || message.boot == t.log.boot then answer_from message.body (log_after t.log message) else None)
    ≡ (if is_hello message.body || message.boot == log.boot then answer_from message.body (log_after log message) else None) =
    if_reported (is_hello message.body || message.boot == t.log.boot) (is_hello message.body || message.boot == log.boot) (answer_from message.body (log_after t.log message))
    (answer_from message.body (log_after log message)) (ap (λ b. is_hello message.body || message.boot == b) a.boot) after in
    ap (option_map (λ body. let m : Message = record { boot = message.boot; body = body } in m))
    (λ i. if is_answer message.body then None else (if nat_lt message.boot (a.boot i) then Some (StaleMsg (a.boot i)) else own i))

if_hidden : (c d : Bool) (x u : Option Message) → c ≡ d → (d ≡ false → x ≡ u) → (if c then None else x) ≡ (if d then None else u)
if_hidden true true x u p same = refl
if_hidden false false x u p same = same refl
if_hidden true false x u p same = absurd (true≢false p)
if_hidden false true x u p same = absurd (true≢false (sym p))

pub answers_left : (t : TrimmedLog) (log : Log) (message : Message) → IsLeftOf t log
    → answer_left t message ≡ (if message.boot == log.boot && is_trimmed t message.body then None else answer_to log message)
unfolding answer_left
answers_left t log message a =
    if_hidden (message.boot == t.log.boot && is_trimmed t message.body) (message.boot == log.boot && is_trimmed t message.body) (answer_to t.log message)
    (answer_to log message) (ap (λ b. message.boot == b && is_trimmed t message.body) a.boot) (answers_alike t log message a)

-- an entry that is trimmed further
at_left : (i : ℕ) (u : Trim) (trims : List Trim) (left es : List Entry) → i < length trims → i < length left → (trim_at trims i).reads ≤ u.reads
    → u.reads ≤ length (lengths_of (slice_get left i)) → u.bytes ≡ sum (take u.reads (lengths_of (slice_get left i)))
    → reads_on (take u.reads (lengths_of (slice_get left i))) ≡ true → u.bytes ≤ length (bytes_of (slice_get left i))
    → AreLeft trims left es → AreLeft (slice_set trims i u) (changed_at i (without u.bytes u.reads) left) es
at_left i u [] left es in_trims in_log further logged took on within a = absurd (omega (arith, in_trims))
at_left i u (t ∷ trims) [] es in_trims in_log further logged took on within a = absurd (omega (arith, in_log))
at_left i u (t ∷ trims) (l ∷ left) [] in_trims in_log further logged took on within a = absurd a
at_left zero u (t ∷ trims) (l ∷ left) (e ∷ es) in_trims in_log further logged took on within a =
    let size = size_left t l e a.0 in
    let count = count_left t l e a.0 in
    let enough : u.reads ≤ length e.lengths = omega (arith, count, logged) in
    (further_left t u l e a.0 further enough (took ∙ same_front t l e u.reads a.0 further enough) (sym (same_closing t l e u.reads a.0 further enough) ∙ on) (omega (arith, within, size)), a.1)
at_left (suc i) u (t ∷ trims) (l ∷ left) (e ∷ es) in_trims in_log further logged took on within a =
    (a.0, at_left i u trims left es (omega (arith, in_trims)) (omega (arith, in_log)) further logged took on within a.1)

pub trim_left : (t : TrimmedLog) (log : Log) (i bytes reads : ℕ) → IsLeftOf t log → i < length t.trims → MayTrim i bytes reads t
    → bytes ≤ length (bytes_of (slice_get t.log.entries i)) → IsLeftOf (with_trim i bytes reads t) log
trim_left t log i bytes reads a in_trims may within =
    record {
      boot = a.boot;
      entries = at_left i (record { bytes = bytes; reads = reads }) t.trims t.log.entries log.entries in_trims may.in_log may.further may.logged may.took may.on within a.entries;
    }
