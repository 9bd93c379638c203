-- A tick at each slot, one after another: what each key has of it.
use Rattle.std.proofs.Common.{◌≡◌, ◌∙◌, ℕ, zero, suc, Bool, true, false, refl, sym, ap, subst, true≢false, arith, List, [], ◌∷◌, ◌++◌, length, append_assoc, append-nil, slice_get, Option, Some, None, cond}
use Rattle.std.proofs.lemmas.List.Elements.{filter-append}
use Rattle.std.specs.List.{AllByRecursion, IsDistinct}
use Rattle.std.specs.Map.{lookup, keys_of}
use Rattle.indexmap.specs.IndexMap.{set_value_at}
use Rattle.ft_io.specs.declared.Key.{Key}
use Rattle.ft_io.specs.Key.{key_eq}
use Rattle.ft_io.proofs.Choices.{same_some}
use Rattle.server_trait.specs.Service.{Machine}
use Rattle.seq_arith.specs.declared.kinds.Grammar.{Grammar}
use Rattle.tcp_rules.specs.Profile.{grammar_of}
use Rattle.ft_model.specs.Node.{Node, Place}
use Rattle.ft_model.specs.Node.Input.{Tick_comes}
use Rattle.ft_model.specs.Wire.{Wire}
use Rattle.ft_model.proofs.Keys.{key_eq_turns}
use Rattle.ft_model.proofs.Lists.{same_key, none_is_some, all_weaker, all_append}
use Rattle.node_serving.specs.declared.slot.Slot.{Slot}
use Rattle.node_serving.specs.Alone.{StandsFor, IsForSubject, KeyMeets, SlotsAlone}
use Rattle.node_serving.specs.Slots.{SlotStands, SlotGoes}
use Rattle.node_serving.specs.Ownership.{is_of, of_key, IsFor, IsOnlyFor}
use Rattle.node_serving.proofs.Keyed.{none_of, goes_for}

-- the packets of a key among these and those
pub of_both : (grammar : Grammar) (key : Key) (first rest : List Wire) → of_key grammar key (first ++ rest) ≡ of_key grammar key first ++ of_key grammar key rest
of_both grammar key first rest = filter-append (is_of grammar key) first rest

module _ {S : Type 0} (service : Machine S) (node : Node) where
  -- one slot's tick: it tells of its own key alone, and goes by the law where it stands
  pub record TicksSlot (key : Key) (was now : Slot S) (reported : List Wire) : Type 0 where
    pub alone : AllByRecursion (IsFor (grammar_of node.profile) key) reported
    pub meets : (place : Option Place) → StandsFor service node key (Some was) place → KeyMeets service node Tick_comes key place (Some now) reported

  pub ticks_slot : (key : Key) (was now : Slot S) (old new : List Wire) (put : IsOnlyFor (grammar_of node.profile) key old new)
      → ((q : Place) → SlotStands service node key was q → SlotGoes service node Tick_comes key q now old new) → TicksSlot key was now put.reported
  ticks_slot key was now old new put h = record {
    alone = put.alone;
    meets = λ place st. goes_for service node Tick_comes key place was now old new put st (λ q is stands. h q stands);
  }

  -- the first so many slots have had their tick, and the others are as before
  abbrev pub TicksUpTo : ℕ → (was now : List (Key × Slot S)) → List Wire → Type 0
  TicksUpTo zero was now reported = (now ≡ was) × (reported ≡ [])
  TicksUpTo (suc i) (e ∷ es) (d ∷ ds) reported =
      (first : List Wire) × (rest : List Wire) × (reported ≡ first ++ rest) × (d.0 ≡ e.0) × TicksSlot e.0 e.1 d.1 first × TicksUpTo i es ds rest
  TicksUpTo (suc i) _ _ reported = ⊥

  pub ticks_more : (i : ℕ) (was now : List (Key × Slot S)) (reported new : List Wire) (key : Key) (s next : Slot S) → slice_get now i ≡ Some (key, s) → TicksUpTo i was now reported
      → TicksSlot key s next new → TicksUpTo (suc i) was (set_value_at now i next) (reported ++ new)
  ticks_more zero was [] reported new key s next at t tick = none_is_some (key, s) at
  ticks_more zero was (d ∷ ds) reported new key s next at t tick =
      subst (λ w. TicksUpTo 1 w ((d.0, next) ∷ ds) (reported ++ new)) t.0
      (new, [], ap (λ x. x ++ new) t.1 ∙ sym (append-nil new), refl, subst (λ (x : Key × Slot S). TicksSlot x.0 x.1 next new) (sym (same_some at)) tick, (refl, refl))
  ticks_more (suc i) [] now reported new key s next at t tick = absurd t
  ticks_more (suc i) (e ∷ es) [] reported new key s next at t tick = absurd t
  ticks_more (suc i) (e ∷ es) (d ∷ ds) reported new key s next at (first, rest, is, same, t, more) tick =
      (first, rest ++ new, ap (λ x. x ++ new) is ∙ append_assoc first rest new, same, t, ticks_more i es ds rest new key s next at more tick)

  -- slots of other keys tell nothing of this one
  silent : (key : Key) (i : ℕ) (was now : List (Key × Slot S)) (reported : List Wire) → AllByRecursion (λ k. key_eq key k ≡ false) (keys_of was) → TicksUpTo i was now reported → of_key (grammar_of node.profile) key reported ≡ []
  silent key zero was now reported other t = ap (of_key (grammar_of node.profile) key) t.1
  silent key (suc i) [] now reported other t = absurd t
  silent key (suc i) (e ∷ es) [] reported other t = absurd t
  silent key (suc i) (e ∷ es) (d ∷ ds) reported other (first, rest, is, same, t, more) =
      ap (of_key (grammar_of node.profile) key) is ∙ (of_both (grammar_of node.profile) key first rest ∙ (ap (λ x. x ++ of_key (grammar_of node.profile) key rest) (none_of (grammar_of node.profile) e.0 key first t.alone (key_eq_turns key e.0 other.0)) ∙ silent key i es ds rest other.1 more))

  -- what one key has of all the ticks: its slot's, and nothing else
  abbrev pub KeyTicked : Key → Option (Slot S) → Option (Slot S) → List Wire → Type 0
  KeyTicked key None now reported = (now ≡ None) × (of_key (grammar_of node.profile) key reported ≡ [])
  KeyTicked key (Some was) (Some now) reported = (first : List Wire) × TicksSlot key was now first × (of_key (grammar_of node.profile) key reported ≡ of_key (grammar_of node.profile) key first)
  KeyTicked key (Some was) None reported = ⊥

  ticked_on : (key : Key) (was now : Option (Slot S)) (reported rest : List Wire) → of_key (grammar_of node.profile) key reported ≡ of_key (grammar_of node.profile) key rest → KeyTicked key was now rest → KeyTicked key was now reported
  ticked_on key None now reported rest is t = (t.0, is ∙ t.1)
  ticked_on key (Some was) (Some now) reported rest is (first, t, e) = (first, t, is ∙ e)
  ticked_on key (Some was) None reported rest is t = absurd t

  pub ticks_key : (key : Key) (i : ℕ) (was now : List (Key × Slot S)) (reported : List Wire) → length was ≡ i → IsDistinct key_eq (keys_of was) → TicksUpTo i was now reported
      → KeyTicked key (lookup (key_eq key) was) (lookup (key_eq key) now) reported
  unfolding IsDistinct
  ticks_key key zero [] now reported long distinct t = (ap (lookup (key_eq key)) t.0, ap (of_key (grammar_of node.profile) key) t.1)
  ticks_key key zero (e ∷ es) now reported long distinct t = absurd (omega arith)
  ticks_key key (suc i) [] now reported long distinct t = absurd t
  ticks_key key (suc i) (e ∷ es) [] reported long distinct t = absurd t
  ticks_key key (suc i) (e ∷ es) (d ∷ ds) reported long distinct (first, rest, is, same, t, more) =
      go (key_eq key e.0) refl (ticks_key key i es ds rest (omega arith) distinct.1 more)
    where
      there : (b : Bool) → key_eq key e.0 ≡ b → KeyTicked key (cond b (Some e.1) (lookup (key_eq key) es)) (cond b (Some d.1) (lookup (key_eq key) ds)) reported
          → KeyTicked key (lookup (key_eq key) (e ∷ es)) (lookup (key_eq key) (d ∷ ds)) reported
      there b at h =
          subst (λ x. KeyTicked key (lookup (key_eq key) (e ∷ es)) (cond (key_eq key x) (Some d.1) (lookup (key_eq key) ds)) reported) (sym same)
          (subst (λ x. KeyTicked key (cond x (Some e.1) (lookup (key_eq key) es)) (cond x (Some d.1) (lookup (key_eq key) ds)) reported) (sym at) h)

      go : (b : Bool) → key_eq key e.0 ≡ b → KeyTicked key (lookup (key_eq key) es) (lookup (key_eq key) ds) rest
          → KeyTicked key (lookup (key_eq key) (e ∷ es)) (lookup (key_eq key) (d ∷ ds)) reported
      go true at others =
          let its : key ≡ e.0 = same_key key e.0 at in
          there true at (
            first,
            subst (λ k. TicksSlot k e.1 d.1 first) (sym its) t,
            ap (of_key (grammar_of node.profile) key) is ∙ (of_both (grammar_of node.profile) key first rest
                ∙ (ap (λ x. of_key (grammar_of node.profile) key first ++ x) (silent key i es ds rest (subst (λ k. AllByRecursion (λ y. key_eq k y ≡ false) (keys_of es)) (sym its) distinct.0) more)
                ∙ append-nil (of_key (grammar_of node.profile) key first))),
          )
      go false at others =
          there false at (ticked_on key (lookup (key_eq key) es) (lookup (key_eq key) ds) reported rest
          (ap (of_key (grammar_of node.profile) key) is ∙ (of_both (grammar_of node.profile) key first rest ∙ ap (λ x. x ++ of_key (grammar_of node.profile) key rest) (none_of (grammar_of node.profile) e.0 key first t.alone (key_eq_turns key e.0 at)))) others)

  all_whose : (i : ℕ) (was now : List (Key × Slot S)) (reported : List Wire) → TicksUpTo i was now reported → AllByRecursion (IsForSubject node Tick_comes) reported
  all_whose zero was now reported t = subst (AllByRecursion (IsForSubject node Tick_comes)) (sym t.1) tt
  all_whose (suc i) [] now reported t = absurd t
  all_whose (suc i) (e ∷ es) [] reported t = absurd t
  all_whose (suc i) (e ∷ es) (d ∷ ds) reported (first, rest, is, same, t, more) =
      subst (AllByRecursion (IsForSubject node Tick_comes)) (sym is)
      (all_append (IsForSubject node Tick_comes) first rest (all_weaker (IsFor (grammar_of node.profile) e.0) (IsForSubject node Tick_comes) first (λ w a. (e.0, refl, a)) t.alone) (all_whose i es ds rest more))

  key_meets : (key : Key) (was now : Option (Slot S)) (place : Option Place) (reported : List Wire) → KeyTicked key was now reported → StandsFor service node key was place
      → KeyMeets service node Tick_comes key place now reported
  key_meets key None now None reported t st =
      record { after = None; packets = []; stands = subst (λ s. StandsFor service node key s None) (sym t.0) tt; turn = (refl, refl); wires = t.1; spelled = tt }
  key_meets key None now (Some q) reported t st = absurd st
  key_meets key (Some was) (Some now) place reported (first, t, is) st =
      let m = t.meets place st in record { after = m.after; packets = m.packets; stands = m.stands; turn = m.turn; wires = is ∙ m.wires; spelled = m.spelled }
  key_meets key (Some was) None place reported t st = absurd t

  pub ticks_alone : (i : ℕ) (was now : List (Key × Slot S)) (old new reported : List Wire) → length was ≡ i → IsDistinct key_eq (keys_of was) → new ≡ old ++ reported → TicksUpTo i was now reported
      → SlotsAlone service node Tick_comes was now old new
  ticks_alone i was now old new reported long distinct put t = record {
    reported = reported;
    put = put;
    slots = λ key e. absurd (true≢false e);
    whose = all_whose i was now reported t;
    turn = λ key place st near. key_meets key (lookup (key_eq key) was) (lookup (key_eq key) now) place reported (ticks_key key i was now reported long distinct t) st;
  }
