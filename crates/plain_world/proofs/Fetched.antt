-- What is fetched of the log: an answer that fits keeps all entries but the newest complete, and at the end all of them are.
use Rattle.std.proofs.Common.{◌≡◌, ◌∙◌, ℕ, ◌<◌, Bool, true, false, refl, sym, ap, subst, arith, Option, Some, None, List, [], ◌∷◌, ◌++◌, length, if◌then◌else◌, ltb-true}
use Rattle.std.specs.Prelude.{nat_lt, nat_le}
use Rattle.std.specs.List.{list_all}
use Rattle.std.proofs.lemmas.Bool.{false≢true, and_parts}
use Rattle.ft_io.proofs.Choices.{some_if}
use Rattle.seq_arith.specs.Message.{Body}
use Rattle.seq_arith.specs.Message.Body.{EntryMsg, PartMsg, LensMsg}
use Rattle.seq_arith.specs.declared.kinds.Grammar.{Grammar}
use Rattle.seq_arith.specs.MessageGrammar.{lens_of, is_sound_by}
use Rattle.logger_wire.specs.declared.Msg.{Msg}
use Rattle.logger_wire.specs.Value.{body_of, IsSendableBy}
use Rattle.ft_model.specs.Restart.{Fetched, Wanted, wanted, next_entry, fetched_by, fetched_after, is_whole, lacks_read_bytes, lacks_lengths, lacks_bytes}
use Rattle.ft_model.specs.Restart.Wanted.{An_entry, Its_bytes, Its_lengths}
use Rattle.ft_model.proofs.Lists.{none_is_some, some_is}
use Rattle.plain_log.specs.Values.{IsTakenAs}
use Rattle.plain_world.specs.Served.{AreWhole, IsFetchedOf}

-- no length of a read is longer than a message may bring
pub lens_are_short : {grammar : Grammar} (msg : Msg) → IsSendableBy grammar msg → list_all (λ len. nat_le len 2048) (lens_of (body_of msg.body)) ≡ true
unfolding is_sound_by
lens_are_short {grammar} msg s = (and_parts _ _ s.spellable.sound).1

is_entry : Wanted → Bool
is_entry (An_entry index) = true
is_entry (Its_bytes key offset) = false
is_entry (Its_lengths key first) = false

-- nothing is missing of the newest entry where an entry is wanted, or nothing
no_lack : (a b c : Bool) (x y z : Wanted) (next : Option Wanted) → (if a then Some x else (if b then Some y else (if c then Some z else next))) ≡ None
    → (b ≡ false) × (c ≡ false)
no_lack true b c x y z next e = none_is_some x (sym e)
no_lack false true c x y z next e = none_is_some y (sym e)
no_lack false false true x y z next e = none_is_some z (sym e)
no_lack false false false x y z next e = (refl, refl)

other_wanted : {A : Type 0} (x : Wanted) (index : ℕ) → is_entry x ≡ false → Some x ≡ Some (An_entry index) → A
unfolding is_entry
other_wanted x index other e = absurd (false≢true (sym other ∙ ap is_entry (some_is x (An_entry index) e)))

next_wanted : (a b c : Bool) (x y z : Wanted) (next : Option Wanted) (index : ℕ) → is_entry x ≡ false → is_entry y ≡ false → is_entry z ≡ false
    → (if a then Some x else (if b then Some y else (if c then Some z else next))) ≡ Some (An_entry index) → (b ≡ false) × (c ≡ false) × (next ≡ Some (An_entry index))
next_wanted true b c x y z next index o p q e = other_wanted x index o e
next_wanted false true c x y z next index o p q e = other_wanted y index p e
next_wanted false false true x y z next index o p q e = other_wanted z index q e
next_wanted false false false x y z next index o p q e = (refl, refl, e)

whole_where : (f : Fetched) → lacks_lengths f ≡ false → lacks_bytes f ≡ false → is_whole f ≡ true
whole_where f lengths bytes = rw (lengths, bytes) refl

-- where nothing is wanted, all entries are complete
pub all_whole : (count : ℕ) (fetched : List Fetched) → IsFetchedOf count fetched → wanted count fetched ≡ None → AreWhole fetched
all_whole count [] is e = tt
all_whole count (f ∷ earlier) is e =
    let none = no_lack (lacks_read_bytes f) (lacks_lengths f) (lacks_bytes f) _ _ _ _ e in
    (whole_where f none.0 none.1, is.whole)

-- where an entry is wanted, there is one more, and all before it are complete
entry_wanted : (count index : ℕ) (fetched : List Fetched) → IsFetchedOf count fetched → wanted count fetched ≡ Some (An_entry index)
    → (length fetched < count) × AreWhole fetched
unfolding is_entry
entry_wanted count index [] is e = (ltb-true 0 count (some_if (nat_lt 0 count) (Some (An_entry 0)) (An_entry index) e).0, tt)
entry_wanted count index (f ∷ earlier) is e =
    let next = next_wanted (lacks_read_bytes f) (lacks_lengths f) (lacks_bytes f) _ _ _ (next_entry count (length (f ∷ earlier))) index refl refl refl e in (
      ltb-true (length (f ∷ earlier)) count (some_if (nat_lt (length (f ∷ earlier)) count) (Some (An_entry (length (f ∷ earlier)))) (An_entry index) next.2).0,
      (whole_where f next.0 next.1, is.whole),
    )

-- an answer that fits adds an entry, or to the newest one
abbrev IsGrown : Wanted → (before after : List Fetched) → Type 0
IsGrown (An_entry index) before after = (f : Fetched) × (after ≡ f ∷ before)
IsGrown _ before after = (f : Fetched) × (g : Fetched) × (earlier : List Fetched) × (before ≡ f ∷ earlier) × (after ≡ g ∷ earlier)

grown : (w : Wanted) (body : Body) (before after : List Fetched) → fetched_by w body before ≡ Some after → IsGrown w before after
grown (An_entry index) (EntryMsg i head) before after e = (record { head = head; bytes = []; lengths = [] }, sym (some_is _ _ (some_if _ _ _ e).1))
grown (Its_bytes key offset) (PartMsg k o bytes) (f ∷ earlier) after e =
    (f, record f { bytes = f.bytes ++ bytes }, earlier, refl, sym (some_is _ _ (some_if _ _ _ e).1))
grown (Its_lengths key first) (LensMsg k o lens) (f ∷ earlier) after e =
    (f, record f { lengths = f.lengths ++ lens }, earlier, refl, sym (some_is _ _ (some_if _ _ _ e).1))
grown _ _ _ after e = none_is_some _ e

grown_still : (count : ℕ) (w : Wanted) (before after : List Fetched) → IsFetchedOf count before → wanted count before ≡ Some w → IsGrown w before after → IsFetchedOf count after
grown_still count (An_entry index) before after is e (f, more) =
    let next = entry_wanted count index before is e in
    subst (IsFetchedOf count) (sym more) (record { few = omega (arith, next.0); whole = next.1 })
grown_still count (Its_bytes key offset) before after is e (f, g, earlier, was, more) =
    let had = subst (IsFetchedOf count) was is in subst (IsFetchedOf count) (sym more) (record { few = had.few; whole = had.whole })
grown_still count (Its_lengths key first) before after is e (f, g, earlier, was, more) =
    let had = subst (IsFetchedOf count) was is in subst (IsFetchedOf count) (sym more) (record { few = had.few; whole = had.whole })

still_by : (count : ℕ) (w : Option Wanted) (body : Body) (before after : List Fetched) → IsFetchedOf count before → wanted count before ≡ w
    → fetched_after w body before ≡ Some after → IsFetchedOf count after
still_by count (Some w) body before after is e fits = grown_still count w before after is e (grown w body before after fits)
still_by count None body before after is e fits = none_is_some after fits

pub still_fetched : (count : ℕ) (body : Body) (before after : List Fetched) → IsFetchedOf count before → fetched_after (wanted count before) body before ≡ Some after
    → IsFetchedOf count after
still_fetched count body before after is fits = still_by count (wanted count before) body before after is refl fits

-- what was taken
pub taken : (o : Option (List Fetched)) (before after : List Fetched) (fits : Bool) → IsTakenAs o before after fits → fits ≡ true → o ≡ Some after
taken (Some now) before after fits is e = ap Some (sym is.1)
taken None before after fits is e = absurd (false≢true (sym is.0 ∙ e))

pub not_taken : (o : Option (List Fetched)) (before after : List Fetched) (fits : Bool) → IsTakenAs o before after fits → fits ≡ false → (o ≡ None) × (after ≡ before)
not_taken (Some now) before after fits is e = absurd (false≢true (sym e ∙ is.0))
not_taken None before after fits is e = (refl, is.1)
