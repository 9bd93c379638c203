-- Restart: while an incarnation fetches, every answer of its boot agrees with the log as it stands, so what is fetched is a front of it.
use Rattle.std.proofs.Common.{◌≡◌, ℕ, ◌+◌, ◌≤◌, Bool, true, false, ◌==◌, ◌&&◌, not, nat_lt, nat_le, refl, sym, ap, ap₂, ◌∙◌, subst, true≢false, eqb-true, find, Option, Some, None, List, [], ◌∷◌, ◌++◌, map, length, take, drop, slice_get, arith, append_assoc, ltb-false, if◌then◌else◌}
use Rattle.std.specs.List.{AllByRecursion}
use Rattle.std.proofs.lemmas.Bool.{and_parts}
use Rattle.ft_io.specs.declared.Key.{Key}
use Rattle.ft_io.specs.Key.{key_eq}
use Rattle.seq_arith.specs.Message.{EntryHead, Body}
use Rattle.seq_arith.specs.Message.Body.{HelloMsg, SummaryMsg, ListMsg, EntryMsg, BytesMsg, PartMsg, CutsMsg, LensMsg, OpenMsg, DataMsg, StableMsg, ReadMsg, ReadsMsg, DoneMsg, EndedMsg}
use Rattle.ft_model.specs.Log.{Log, Entry, entry_of, head_of, part_of, lens_of, on_entry, opened_answer, kept_of, answer_from}
use Rattle.ft_model.specs.Restart.{Wanted, Fetched, wanted, next_entry, lacks_read_bytes, lacks_bytes, lacks_lengths, is_fetched, fetched_by, fetched_after, all_follow, entry_in}
use Rattle.ft_model.specs.Restart.Wanted.{An_entry, Its_bytes, Its_lengths}
use Rattle.ft_model.specs.FetchedFronts.{IsFront, IsWhole, AreFetched}
use Rattle.ft_model.specs.Growth.{IsPrefix}
use Rattle.ft_model.specs.Keys.{AreDistinct}
use Rattle.ft_model.proofs.Lists.{take_first, found_passes, same_key, none_is_some, some_is}
use Rattle.ft_model.proofs.Keys.{finds_itself}
use Rattle.ft_io.proofs.Choices.{holds_if}
use Rattle.ft_io.proofs.Booleans.{first_of_three}

-- an answer agrees with these entries
abbrev pub AgreesWith : List Entry → Body → Type 0
AgreesWith entries (SummaryMsg count) = count ≡ length entries
AgreesWith entries (EntryMsg index head) = (e : Entry) × (slice_get entries index ≡ Some e) × (head ≡ head_of e)
AgreesWith entries (PartMsg key offset bytes) = (e : Entry) × (find (λ x. key_eq x.key key) entries ≡ Some e) × IsPrefix bytes (drop offset e.bytes)
AgreesWith entries (LensMsg key first lens) = (e : Entry) × (find (λ x. key_eq x.key key) entries ≡ Some e) × IsPrefix lens (drop first e.lengths)
AgreesWith entries _ = Unit {0}

pub on_some : (o : Option Entry) (shown : Entry → Option Body) (answer : Body) → on_entry shown o ≡ Some answer → (e : Entry) × (o ≡ Some e) × (shown e ≡ Some answer)
on_some (Some e) shown answer t = (e, refl, t)
on_some None shown answer t = none_is_some answer t

pub chosen_some : {A : Type 0} (b : Bool) (x y : A) → (if b then Some x else None) ≡ Some y → x ≡ y
chosen_some true x y e = some_is x y e
chosen_some false x y e = none_is_some y e

-- an entry that a key finds is the one that its own key finds
pub own_entry : (key : Key) (log : Log) (e : Entry) → entry_of key log ≡ Some e → entry_of e.key log ≡ Some e
own_entry key log e found =
    let same : e.key ≡ key = same_key e.key key (found_passes (λ x. key_eq x.key key) log.entries e found) in
    subst (λ k. entry_of k log ≡ Some e) (sym same) found

opened_agrees : (key : Key) (o : Option Entry) (entries : List Entry) → (answer : Body) → opened_answer key o ≡ Some answer → AgreesWith entries answer
opened_agrees key (Some e) entries answer t = subst (AgreesWith entries) (some_is _ _ t) tt
opened_agrees key None entries answer t = subst (AgreesWith entries) (some_is _ _ t) tt

-- a Data that is answered is the last of its turn
pub reported_last : {A : Type 0} (more : Bool) (o : Option A) (x : A) → (if more then None else o) ≡ Some x → o ≡ Some x
reported_last true o x e = none_is_some x e
reported_last false o x e = e

-- what the log tells agrees with it
pub reported_agrees : (body : Body) (log : Log) (answer : Body) → answer_from body log ≡ Some answer → AgreesWith log.entries answer
reported_agrees HelloMsg log answer t = subst (AgreesWith log.entries) (some_is _ _ t) refl
reported_agrees (ListMsg index) log answer t =
    let o = on_some (slice_get log.entries index) (λ e. Some (EntryMsg index (head_of e))) answer t in
    subst (AgreesWith log.entries) (some_is _ _ o.2) (o.0, o.1, refl)
reported_agrees (BytesMsg key offset) log answer t =
    let o = on_some (entry_of key log) (λ e. part_of e offset) answer t in
    let part = chosen_some (nat_lt offset (length o.0.bytes)) (PartMsg o.0.key offset (take 1024 (drop offset o.0.bytes))) answer o.2 in
    subst (AgreesWith log.entries) part (o.0, own_entry key log o.0 o.1, take_first 1024 (drop offset o.0.bytes))
reported_agrees (CutsMsg key first) log answer t =
    let o = on_some (entry_of key log) (λ e. lens_of e first) answer t in
    let part = chosen_some (nat_lt first (length o.0.lengths)) (LensMsg o.0.key first (take 512 (drop first o.0.lengths))) answer o.2 in
    subst (AgreesWith log.entries) part (o.0, own_entry key log o.0 o.1, take_first 512 (drop first o.0.lengths))
reported_agrees (OpenMsg n) log answer t = opened_agrees n.key (entry_of n.key log) log.entries answer t
reported_agrees (DataMsg part) log answer t = let o = on_some (entry_of part.key log) (λ e. Some (StableMsg (kept_of e))) answer (reported_last part.more _ answer t) in subst (AgreesWith log.entries) (some_is _ _ o.2) tt
reported_agrees (ReadMsg key index n) log answer t = let o = on_some (entry_of key log) (λ e. Some (ReadsMsg (kept_of e))) answer t in subst (AgreesWith log.entries) (some_is _ _ o.2) tt
reported_agrees (DoneMsg key) log answer t = let o = on_some (entry_of key log) (λ e. Some (EndedMsg key)) answer t in subst (AgreesWith log.entries) (some_is _ _ o.2) tt
reported_agrees _ log answer t = none_is_some answer t

pub chosen_is : {A : Type 0} (b : Bool) (x y : A) → (if b then Some x else None) ≡ Some y → (b ≡ true) × (x ≡ y)
chosen_is true x y e = (refl, some_is x y e)
chosen_is false x y e = none_is_some y e

drop_front : {A : Type 0} (xs ys : List A) → drop (length xs) (xs ++ ys) ≡ ys
drop_front [] ys = refl
drop_front (x ∷ xs) ys = drop_front xs ys

-- a front of the rest joins a front
pub join_front : {A : Type 0} (xs more whole : List A) → IsPrefix xs whole → IsPrefix more (drop (length xs) whole) → IsPrefix (xs ++ more) whole
join_front xs more whole p q =
    let rest : drop (length xs) whole ≡ p.0 = ap (drop (length xs)) (sym p.1) ∙ drop_front xs p.0 in
    (q.0, append_assoc xs more q.0 ∙ (ap (λ l. xs ++ l) (q.1 ∙ rest) ∙ p.1))

head_agrees : (entries : List Entry) (index : ℕ) (fetched more : List Fetched) (body : Body) → AllByRecursion IsWhole fetched → AreFetched entries fetched
    → index ≡ length fetched → AgreesWith entries body → fetched_by (An_entry index) body fetched ≡ Some more → AreFetched entries more
head_agrees entries index fetched more (EntryMsg i head) w a n g e =
    let parts = chosen_is (i == index && not (is_fetched head.key fetched)) (record { head = head; bytes = []; lengths = [] } ∷ fetched) more e in
    let same : i ≡ index = eqb-true _ _ (and_parts (i == index) (not (is_fetched head.key fetched)) parts.0).0 in
    subst (AreFetched entries) parts.1 (
      g.0,
      subst (λ k. slice_get entries k ≡ Some g.0) (same ∙ n) g.1,
      record { head = g.2; bytes = (g.0.bytes, refl); lengths = (g.0.lengths, refl) },
      w,
      a,
    )
head_agrees entries index fetched more body w a n g e = none_is_some more e

next_agrees : (entries : List Entry) (count : ℕ) (fetched : List Fetched) (body : Body) → AreDistinct (map (λ e. e.key) entries)
    → AllByRecursion IsWhole fetched → AreFetched entries fetched → AgreesWith entries body
    → (more : List Fetched) → fetched_after (next_entry count (length fetched)) body fetched ≡ Some more → AreFetched entries more
next_agrees entries count fetched body d w a g more =
    holds_if (λ x. fetched_after x body fetched ≡ Some more → AreFetched entries more) (nat_lt (length fetched) count) (Some (An_entry (length fetched))) None
    (λ t e. head_agrees entries (length fetched) fetched more body w a refl g e) (λ t e. none_is_some more e)

-- the entry that the asked key finds is the one that is fetched
same_entry : (entries : List Entry) (f : Fetched) (i : ℕ) (e found : Entry) (key : Key) → AreDistinct (map (λ e. e.key) entries)
    → slice_get entries i ≡ Some e → IsFront f e → key ≡ f.head.key → find (λ x. key_eq x.key key) entries ≡ Some found → found ≡ e
same_entry entries f i e found key d at front k was =
    let own : find (λ x. key_eq x.key e.key) entries ≡ Some e = finds_itself (λ x. x.key) entries i e d at in
    let key_is : key ≡ e.key = k ∙ ap (λ h. h.key) front.head in
    some_is found e (sym was ∙ subst (λ k. find (λ x. key_eq x.key k) entries ≡ Some e) (sym key_is) own)

bytes_agree : (entries : List Entry) (f : Fetched) (earlier more : List Fetched) (body : Body) → AreDistinct (map (λ e. e.key) entries)
    → AreFetched entries (f ∷ earlier) → AgreesWith entries body → fetched_by (Its_bytes f.head.key (length f.bytes)) body (f ∷ earlier) ≡ Some more
    → AreFetched entries more
bytes_agree entries f earlier more (PartMsg k o bytes) d a g e =
    let parts = chosen_is ((key_eq k f.head.key && o == length f.bytes) && nat_le (length f.bytes + length bytes) f.head.length) (record f { bytes = f.bytes ++ bytes } ∷ earlier) more e in
    let fits = and_parts (key_eq k f.head.key) (o == length f.bytes) (and_parts (key_eq k f.head.key && o == length f.bytes) _ parts.0).0 in
    let at : o ≡ length f.bytes = eqb-true _ _ fits.1 in
    let same : g.0 ≡ a.0 = same_entry entries f (length earlier) a.0 g.0 k d a.1 a.2 (same_key k f.head.key fits.0) g.1 in
    let more_bytes : IsPrefix bytes (drop (length f.bytes) a.0.bytes) = subst (λ x. IsPrefix bytes (drop (length f.bytes) x.bytes)) same (subst (λ n. IsPrefix bytes (drop n g.0.bytes)) at g.2) in
    subst (AreFetched entries) parts.1
    (a.0, a.1, record { head = a.2.head; bytes = join_front f.bytes bytes a.0.bytes a.2.bytes more_bytes; lengths = a.2.lengths }, a.3, a.4)
bytes_agree entries f earlier more body d a g e = none_is_some more e

lengths_agree : (entries : List Entry) (f : Fetched) (earlier more : List Fetched) (body : Body) → AreDistinct (map (λ e. e.key) entries)
    → AreFetched entries (f ∷ earlier) → AgreesWith entries body → fetched_by (Its_lengths f.head.key (length f.lengths)) body (f ∷ earlier) ≡ Some more
    → AreFetched entries more
lengths_agree entries f earlier more (LensMsg k o lens) d a g e =
    let fit : Bool = key_eq k f.head.key && o == length f.lengths in
    let parts = chosen_is (fit && nat_le (length f.lengths + length lens) f.head.reads && all_follow f.head.length f.head.fin f.lengths lens) (record f { lengths = f.lengths ++ lens } ∷ earlier) more e in
    let fits = and_parts (key_eq k f.head.key) (o == length f.lengths) (first_of_three fit (nat_le (length f.lengths + length lens) f.head.reads) (all_follow f.head.length f.head.fin f.lengths lens) parts.0) in
    let at : o ≡ length f.lengths = eqb-true _ _ fits.1 in
    let same : g.0 ≡ a.0 = same_entry entries f (length earlier) a.0 g.0 k d a.1 a.2 (same_key k f.head.key fits.0) g.1 in
    let more_lengths : IsPrefix lens (drop (length f.lengths) a.0.lengths) = subst (λ x. IsPrefix lens (drop (length f.lengths) x.lengths)) same (subst (λ n. IsPrefix lens (drop n g.0.lengths)) at g.2) in
    subst (AreFetched entries) parts.1
    (a.0, a.1, record { head = a.2.head; bytes = a.2.bytes; lengths = join_front f.lengths lens a.0.lengths a.2.lengths more_lengths }, a.3, a.4)
lengths_agree entries f earlier more body d a g e = none_is_some more e

-- one more answer keeps what is fetched a front of the log
pub fetched_agrees : (entries : List Entry) (count : ℕ) (fetched more : List Fetched) (body : Body) → AreDistinct (map (λ e. e.key) entries)
    → AreFetched entries fetched → AgreesWith entries body → fetched_after (wanted count fetched) body fetched ≡ Some more → AreFetched entries more
fetched_agrees entries count [] more body d a g e = next_agrees entries count [] body d tt tt g more e
fetched_agrees entries count (f ∷ earlier) more body d a g e =
    let Agrees : Option Wanted → Type 0 = λ w. fetched_after w body (f ∷ earlier) ≡ Some more → AreFetched entries more in
    holds_if Agrees (lacks_read_bytes f) (Some (Its_bytes f.head.key (length f.bytes))) _ (λ t. bytes_agree entries f earlier more body d a g)
    (λ t. holds_if Agrees (lacks_lengths f) (Some (Its_lengths f.head.key (length f.lengths))) _ (λ s. lengths_agree entries f earlier more body d a g)
    (λ s. holds_if Agrees (lacks_bytes f) (Some (Its_bytes f.head.key (length f.bytes))) _ (λ r. bytes_agree entries f earlier more body d a g)
    (λ r. next_agrees entries count (f ∷ earlier) body d ((r, s), a.3) a g more))) e

abbrev is_nil : {A : Type 0} → List A → Bool
is_nil [] = true
is_nil (x ∷ xs) = false

heads : {A : Type 0} (x y : A) (xs ys : List A) → x ∷ xs ≡ y ∷ ys → x ≡ y
heads x y xs ys e = cc

tails : {A : Type 0} (x y : A) (xs ys : List A) → x ∷ xs ≡ y ∷ ys → xs ≡ ys
tails x y xs ys e = cc

abbrev entry_with : EntryHead → List ℕ → List ℕ → Entry
entry_with head bytes lengths = entry_in (record { head = head; bytes = bytes; lengths = lengths })

lacks_none : (done lacks : Bool) → done ≡ false → (not done && lacks) ≡ false → lacks ≡ false
lacks_none false lacks d e = e
lacks_none true lacks d e = absurd (true≢false d)

pub full_front : {A : Type 0} (xs whole : List A) → IsPrefix xs whole → length whole ≤ length xs → xs ≡ whole
full_front [] [] p e = refl
full_front [] (y ∷ whole) p e = absurd (omega (arith, e))
full_front (x ∷ xs) [] p e = absurd (true≢false (ap is_nil (sym p.1)))
full_front (x ∷ xs) (y ∷ whole) p e = ap₂ ◌∷◌ (heads x y _ _ p.1) (full_front xs whole (p.0, tails x y _ _ p.1) (omega (arith, e)))

-- a whole fetched entry is the log's
pub whole_is : (f : Fetched) (e : Entry) → IsFront f e → e.done ≡ false → IsWhole f → entry_in f ≡ e
whole_is f e front live whole =
    let alive : f.head.done ≡ false = ap (λ h. h.done) front.head ∙ live in
    let bytes : f.bytes ≡ e.bytes = full_front f.bytes e.bytes front.bytes (subst (λ n. n ≤ length f.bytes) (ap (λ h. h.length) front.head) (ltb-false _ _ (lacks_none f.head.done _ alive whole.0))) in
    let lengths : f.lengths ≡ e.lengths = full_front f.lengths e.lengths front.lengths (subst (λ n. n ≤ length f.lengths) (ap (λ h. h.reads) front.head) (ltb-false _ _ (lacks_none f.head.done _ alive whole.1))) in
    ap (λ h. entry_with h f.bytes f.lengths) front.head ∙ (ap (λ b. entry_with (head_of e) b f.lengths) bytes ∙ ap (λ l. entry_with (head_of e) e.bytes l) lengths)
