-- Entries of which nothing is missing.
use Rattle.std.proofs.Common.{◌≡◌, ◌∙◌, ℕ, ◌==◌, ◌&&◌, nat_lt, is_none, length, true≢false, Bool, true, Option, Some, None, List, [], ◌∷◌, ◌++◌, reverse, refl, ap, sym, subst}
use Rattle.std.proofs.lemmas.List.{reverse-append}
use Rattle.std.proofs.lemmas.Bool.{and_parts}
use Rattle.seq_arith.specs.Message.{Body}
use Rattle.ft_model.proofs.Lists.{none_is_some}
use Rattle.reincarnate.specs.declared.lack.Lack.{Lack}
use Rattle.reincarnate.specs.declared.lack.Lack.TheVariants as lack
use Rattle.reincarnate.specs.Progress.{EntryState, lacks, asked_for, AreReady}
use Rattle.reincarnate.specs.Questions.{FetchingState, entries_of, asked_of, asked, asked_entry, or_else, entry_known, head_fits}
use Rattle.ft_io.specs.declared.Key.{Key}

lacks_nothing : {S : Type 0} (e : EntryState S) (l : Lack) → asked_for l e ≡ None → l ≡ lack.Nothing
lacks_nothing e lack.Bytes none = none_is_some _ (sym none)
lacks_nothing e lack.Lengths none = none_is_some _ (sym none)
lacks_nothing e lack.Nothing none = refl

pub newest_is_ready : {S : Type 0} (e : EntryState S) → asked_of (Some e) ≡ None → lacks e ≡ lack.Nothing
newest_is_ready e none = lacks_nothing e (lacks e) none

by_first : (a b : Option Body) → or_else a b ≡ None → a ≡ None
by_first None b none = refl
by_first (Some body) b none = none_is_some _ (sym none)

pub asked_nothing : {S : Type 0} (s : FetchingState S) → asked s ≡ None → asked_of s.newest ≡ None
asked_nothing s none = by_first (asked_of s.newest) (asked_entry s) none

front_ready : {S : Type 0} (front : List (EntryState S)) (e : EntryState S) → AreReady (front ++ e ∷ []) → AreReady front × (lacks e ≡ lack.Nothing)
front_ready [] e ready = (tt, ready.0)
front_ready (x ∷ front) e ready = let rest = front_ready front e ready.1 in ((ready.0, rest.0), rest.1)

pub others_are_ready : {S : Type 0} (all front : List (EntryState S)) (e : EntryState S) → AreReady all → all ≡ front ++ e ∷ [] → AreReady front
others_are_ready all front e ready is = (front_ready front e (subst AreReady is ready)).0

pub last_is_ready : {S : Type 0} (all front : List (EntryState S)) (e : EntryState S) → AreReady all → all ≡ front ++ e ∷ [] → lacks e ≡ lack.Nothing
last_is_ready all front e ready is = (front_ready front e (subst AreReady is ready)).1

-- the last of those that stand with the newest first is the first in the log's order
pub first_in_order : {S : Type 0} (all front newest : List (EntryState S)) (e : EntryState S) → all ≡ front ++ e ∷ [] → reverse all ++ newest ≡ e ∷ (reverse front ++ newest)
first_in_order all front newest e is = ap (λ l. reverse l ++ newest) is ∙ ap (λ l. l ++ newest) (reverse-append front (e ∷ []))

pub first_of_four : (a b c d : Bool) → (a && b && c && d) ≡ true → a ≡ true
first_of_four a b c d e = (and_parts a b (and_parts (a && b) c (and_parts (a && b && c) d e).0).0).0

none_so : (o : Option Body) → is_none o ≡ true → o ≡ None
none_so None e = refl
none_so (Some body) e = absurd (true≢false (sym e))

-- a head is taken where nothing is missing of the newest entry
pub fits_asked : {S : Type 0} (s : FetchingState S) (index : ℕ) (key : Key) → head_fits index key s ≡ true → asked_of s.newest ≡ None
fits_asked s index key fits =
    none_so (asked_of s.newest) (first_of_four (is_none (asked_of s.newest)) (nat_lt index s.count) (index == length (entries_of s)) (is_none (entry_known key s)) fits)
