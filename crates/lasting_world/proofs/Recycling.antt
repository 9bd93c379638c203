-- The entry of a key that is about to be recycled.
use Rattle.std.proofs.Common.{◌≡◌, ◌∙◌, ℕ, zero, suc, sym, ap, subst, refl, true, cond, find, Option, Some, option_map, List, [], ◌∷◌, slice_get}
use Rattle.ft_io.specs.declared.Key.{Key}
use Rattle.ft_io.specs.Key.{key_eq}
use Rattle.seq_arith.specs.Message.{EntryHead}
use Rattle.ft_model.specs.Log.{Entry, head_of}
use Rattle.ft_model.proofs.Lists.{none_is_some, some_is}
use Rattle.logger_store.specs.StoreState.{lengths_of}
use Rattle.logger_wire.specs.Records.{head_said}
use Rattle.schedule_network.proofs.ByKey.{found_from}
use Rattle.lasting_world.specs.GoneEntries.{IsEntryToGo}
use Rattle.lasting_world.specs.declared.gone.GoneEntry.{GoneEntry}

-- the entry that has this head
record HasHead (key : Key) (es : List Entry) (i : ℕ) (h : EntryHead) : Type 0 where
  pub entry : Entry
  pub there : slice_get es i ≡ Some entry
  pub found : found_from key es i ≡ Some entry
  pub head : head_of entry ≡ h

has_head : (key : Key) (es : List Entry) (i : ℕ) (h : EntryHead) → Some h ≡ option_map head_of (slice_get es i) → key_eq h.key key ≡ true → HasHead key es i h
has_head key [] i h is t = none_is_some h (sym is)
has_head key (x ∷ es) zero h is t =
    let same : head_of x ≡ h = some_is (head_of x) h (sym is) in
    let its : key_eq x.key key ≡ true = subst (λ (y : EntryHead). key_eq y.key key ≡ true) (sym same) t in
    record { entry = x; there = refl; found = ap (λ b. cond b (Some x) (find (λ y. key_eq y.key key) es)) its; head = same }
has_head key (x ∷ es) (suc i) h is t = let r = has_head key es i h is t in record { entry = r.entry; there = r.there; found = r.found; head = r.head }

-- it is told
pub entry_reported : (key : Key) (es : List Entry) (i : ℕ) (o : Option Entry) (gone : GoneEntry) → Some (head_said gone.head) ≡ option_map head_of (slice_get es i) → key_eq gone.head.key key ≡ true
    → gone.lengths.items ≡ lengths_of (slice_get es i) → o ≡ found_from key es i → IsEntryToGo (Some gone) o
entry_reported key es i o gone is t lengths so =
    let r : HasHead key es i (head_said gone.head) = has_head key es i (head_said gone.head) is t in
    subst (IsEntryToGo (Some gone)) (sym (so ∙ r.found)) (record { head = sym r.head; lengths = lengths ∙ ap lengths_of r.there })
