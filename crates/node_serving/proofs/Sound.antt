-- The connections of all slots stay sound.
use Rattle.std.proofs.Common.{◌≡◌, ◌∙◌, ℕ, zero, suc, Bool, true, false, refl, sym, ap, subst, List, [], ◌∷◌, map, slice_get, option_map, Some, cond, if◌then◌else◌}
use Rattle.std.specs.Map.{lookup, set_value, remove_entry}
use Rattle.indexmap.specs.IndexMap.{set_value_at, insert_entry}
use Rattle.ft_io.specs.declared.Key.{Key}
use Rattle.ft_io.specs.Key.{key_eq}
use Rattle.node_serving.specs.declared.identity.Identity.{Identity}
use Rattle.node_serving.specs.declared.slot.Slot.{Slot}
use Rattle.node_serving.specs.declared.slot.Slot.TheVariants as slot
use Rattle.node_serving.specs.LogMessages.{ended}
use Rattle.node_serving.specs.Slots.{IsSoundSlot, AllSound}
use Rattle.ft_io.proofs.Choices.{same_some}
use Rattle.ft_model.proofs.Lists.{same_key}

module _ {S : Type 0} (who : Identity) where
  pub sound_at : (es : List (Key × Slot S)) (i : ℕ) (key : Key) (now : Slot S) → AllSound who es → option_map (λ e. e.0) (slice_get es i) ≡ Some key → slice_get (map (λ e. e.1) es) i ≡ Some now
      → IsSoundSlot who key now
  sound_at [] i key now sound keyed at = absurd (Rattle.std.proofs.Common.true≢false (sym (ap Rattle.std.specs.Option.is_some at)))
  sound_at (e ∷ es) zero key now sound keyed at = subst (λ k. IsSoundSlot who k now) (same_some keyed) (subst (IsSoundSlot who e.0) (same_some at) sound.0)
  sound_at (e ∷ es) (suc i) key now sound keyed at = sound_at es i key now sound.1 keyed at

  pub sound_put : (es : List (Key × Slot S)) (i : ℕ) (key : Key) (now : Slot S) → AllSound who es → option_map (λ e. e.0) (slice_get es i) ≡ Some key → IsSoundSlot who key now
      → AllSound who (set_value_at es i now)
  sound_put [] i key now sound keyed s = tt
  sound_put (e ∷ es) zero key now sound keyed s = (subst (λ k. IsSoundSlot who k now) (sym (same_some keyed)) s, sound.1)
  sound_put (e ∷ es) (suc i) key now sound keyed s = (sound.0, sound_put es i key now sound.1 keyed s)

  -- the slot that a key has, ..
  pub sound_found : (key : Key) (es : List (Key × Slot S)) (now : Slot S) → AllSound who es → lookup (key_eq key) es ≡ Some now → IsSoundSlot who key now
  sound_found key [] now sound found = absurd (Rattle.std.proofs.Common.true≢false (sym (ap Rattle.std.specs.Option.is_some found)))
  sound_found key (e ∷ es) now sound found = go (key_eq key e.0) refl (λ f. sound_found key es now sound.1 f)
    where
      go : (b : Bool) → key_eq key e.0 ≡ b → (lookup (key_eq key) es ≡ Some now → IsSoundSlot who key now) → IsSoundSlot who key now
      go true t rest =
          subst (λ k. IsSoundSlot who k now) (sym (same_key key e.0 t))
          (subst (IsSoundSlot who e.0) (same_some (sym (ap (λ b. cond b (Some e.1) (lookup (key_eq key) es)) t) ∙ found)) sound.0)
      go false t rest = rest (sym (ap (λ b. cond b (Some e.1) (lookup (key_eq key) es)) t) ∙ found)

  -- .. and what takes its place
  pub sound_set : (key : Key) (es : List (Key × Slot S)) (now : Slot S) → AllSound who es → IsSoundSlot who key now → AllSound who (set_value (key_eq key) es now)
  sound_set key [] now sound s = tt
  sound_set key (e ∷ es) now sound s = go (key_eq key e.0) refl (sound_set key es now sound.1 s)
    where
      go : (b : Bool) → key_eq key e.0 ≡ b → AllSound who (set_value (key_eq key) es now) → AllSound who (set_value (key_eq key) (e ∷ es) now)
      go true t rest =
          subst (λ b. AllSound who (cond b ((e.0, now) ∷ es) (e ∷ set_value (key_eq key) es now))) (sym t)
          (subst (λ k. IsSoundSlot who k now) (same_key key e.0 t) s, sound.1)
      go false t rest = subst (λ b. AllSound who (cond b ((e.0, now) ∷ es) (e ∷ set_value (key_eq key) es now))) (sym t) (sound.0, rest)

  -- .. and what is left without it
  pub sound_drop : (test : Key → Bool) (es : List (Key × Slot S)) → AllSound who es → AllSound who (remove_entry test es)
  sound_drop test [] sound = tt
  sound_drop test (e ∷ es) sound = go (test e.0) refl (sound_drop test es sound.1)
    where
      go : (b : Bool) → test e.0 ≡ b → AllSound who (remove_entry test es) → AllSound who (remove_entry test (e ∷ es))
      go true t rest = subst (λ b. AllSound who (cond b es (e ∷ remove_entry test es))) (sym t) sound.1
      go false t rest = subst (λ b. AllSound who (cond b es (e ∷ remove_entry test es))) (sym t) (sound.0, rest)

  -- one that has ended
  pub sound_ended : (key : Key) (now : Slot S) → IsSoundSlot who key now → IsSoundSlot who key (ended now)
  sound_ended key (slot.Live c) s = tt
  sound_ended key (slot.Pending o) s = s
  sound_ended key slot.Done s = s

-- a slot more stays sound, wherever it comes to stand
pub sound_insert : {S : Type 0} (who : Identity) (key : Key) (es : List (Key × Slot S)) (now : Slot S) → AllSound who es → IsSoundSlot who key now
    → AllSound who (insert_entry key_eq es key now)
sound_insert who key [] now sound s = (s, tt)
sound_insert who key (e ∷ es) now sound s = go (key_eq key e.0) refl (sound_insert who key es now sound.1 s)
  where
    go : (b : Bool) → key_eq key e.0 ≡ b → AllSound who (insert_entry key_eq es key now) → AllSound who (if b then (e.0, now) ∷ es else e ∷ insert_entry key_eq es key now)
    go true t rest = (subst (λ k. IsSoundSlot who k now) (same_key key e.0 t) s, sound.1)
    go false t rest = (sound.0, rest)
