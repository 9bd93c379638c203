-- The entries of a restart, each by itself.
use Rattle.std.proofs.Common.{◌≡◌, ◌∙◌, ◌+◌, ◌%◌, ◌^◌, Bool, true, false, refl, sym, ap, ap₂, subst, true≢false, List, [], ◌∷◌, ◌++◌, append_assoc, append-nil, Some, None, if◌then◌else◌}
use Rattle.std.specs.List.{AllByRecursion}
use Rattle.std.specs.Map.{lookup}
use Rattle.std.proofs.lemmas.Bool.{or_parts, or_right}
use Rattle.std.proofs.lemmas.List.{map-append}
use Rattle.ft_io.specs.declared.Key.{Key}
use Rattle.ft_io.specs.Key.{key_eq}
use Rattle.server_trait.specs.Service.{Machine}
use Rattle.seq_arith.specs.declared.kinds.Grammar.{Grammar}
use Rattle.tcp_rules.specs.Profile.{grammar_of}
use Rattle.ft_model.specs.Lawful.{restored, restored_count}
use Rattle.ft_model.specs.Node.{Node}
use Rattle.ft_model.specs.Node.Place.{Lives, Ended}
use Rattle.ft_model.specs.Opening.{initial_number}
use Rattle.ft_model.specs.Restart.{Fetched, IsSoundEntry, entry_in, is_fetched, point_of}
use Rattle.ft_model.specs.Wire.{Wire}
use Rattle.ft_model.proofs.Keys.{key_eq_turns}
use Rattle.ft_model.proofs.Lists.{or_left, same_key, key_is, all_append, all_both, all_weaker}
use Rattle.node_serving.specs.declared.serving.Serving.{Serving}
use Rattle.node_serving.specs.declared.slot.Slot.{Slot}
use Rattle.node_serving.specs.declared.slot.Slot.TheVariants as slot
use Rattle.node_serving.specs.Alone.{slot_of, StandsFor}
use Rattle.node_serving.specs.Clients.{known_as, known_in}
use Rattle.node_serving.specs.Clients.Known.{Is_connected}
use Rattle.node_serving.proofs.Admitted.{next_number}
use Rattle.server_node.specs.Restarts.{IsRestorable, KeyRevives, IsForFetched, RestoredAlone}
use Rattle.server_node.specs.RestartEnd.{SlotRevives}
use Rattle.node_serving.specs.Ownership.{of_key, IsFor, IsOnlyFor}
use Rattle.node_serving.proofs.Found.{other_last, found_last}
use Rattle.node_serving.proofs.Keyed.{none_of, quiet_for, reported_is, reported_its}
use Rattle.server_node.proofs.Restored.{behind_others, counted, plus_one}
use Rattle.node_serving.proofs.Ticked.{of_both}

-- a key that isn't fetched is none of these
all_unlike : (key : Key) (fetched : List Fetched) → is_fetched key fetched ≡ false → AllByRecursion (λ f. key_eq f.head.key key ≡ false) fetched
all_unlike key [] e = tt
all_unlike key (f ∷ fetched) e = let parts = or_parts (key_eq f.head.key key) (is_fetched key fetched) e in (parts.0, all_unlike key fetched parts.1)

pub silent_fetched : (grammar : Grammar) (key : Key) (fetched : List Fetched) (reported : List Wire) → is_fetched key fetched ≡ false → AllByRecursion (IsForFetched grammar fetched) reported → of_key grammar key reported ≡ []
silent_fetched grammar key fetched [] fresh whose = refl
silent_fetched grammar key fetched (w ∷ ws) fresh whose = one whose.0 (silent_fetched grammar key fetched ws fresh whose.1)
  where
    one : IsForFetched grammar fetched w → of_key grammar key ws ≡ [] → of_key grammar key (w ∷ ws) ≡ []
    one (k, there, its) rest = go (key_eq k key) refl
      where
        go : (b : Bool) → key_eq k key ≡ b → of_key grammar key (w ∷ ws) ≡ []
        go true t = absurd (true≢false (sym (subst (λ x. is_fetched x fetched ≡ true) (same_key k key t) there) ∙ fresh))
        go false t = of_both grammar key (w ∷ []) ws ∙ (ap (λ x. x ++ of_key grammar key ws) (none_of grammar k key (w ∷ []) (its, tt) t) ∙ rest)

module _ {S : Type 0} (service : Machine S) (node : Node) where
  -- before any
  pub none_restored : (now : Serving S) (reported : List Wire) → now.next.0 ≡ initial_number node.isn 0 → now.slots.entries ≡ [] → RestoredAlone service node [] now reported reported
  none_restored now reported number none = record {
    reported = [];
    put = sym (append-nil reported);
    each = tt;
    others = λ key e. ap (lookup (key_eq key)) none;
    whose = tt;
    known = record { number = number; known = ap known_in none };
  }

  -- an entry more, the newest
  more_restored : (f : Fetched) (fetched : List Fetched) (before after : Serving S) (now : Slot S) (old mid new : List Wire) → is_fetched f.head.key fetched ≡ false
      → RestoredAlone service node fetched before old mid → IsOnlyFor (grammar_of node.profile) f.head.key mid new
      → (IsRestorable service f → SlotRevives service node f.head.key (restored service node.profile f) now mid new)
      → (lookup (key_eq f.head.key) before.slots.entries ≡ None → after.slots.entries ≡ before.slots.entries ++ (f.head.key, now) ∷ [])
      → after.next.0 ≡ initial_number node.isn (restored_count (f ∷ fetched)) → known_as now ≡ Is_connected → RestoredAlone service node (f ∷ fetched) after old new
  more_restored f fetched before after now old mid new fresh r p revives added number kind = record {
    reported = r.reported ++ p.reported;
    put = p.put ∙ (ap (λ ws. ws ++ p.reported) r.put ∙ append_assoc old r.reported p.reported);
    each = (
      own,
      all_both (λ x. key_eq x.head.key f.head.key ≡ false) (λ x. IsRestorable service x → KeyRevives service node x (slot_of x.head.key before) r.reported)
          (λ x. IsRestorable service x → KeyRevives service node x (slot_of x.head.key after) (r.reported ++ p.reported)) fetched still (all_unlike f.head.key fetched fresh) r.each,
    );
    others = λ key e.
        let parts = or_parts (key_eq f.head.key key) (is_fetched key fetched) e in
        ap (lookup (key_eq key)) is ∙ behind_others key f.head.key before.slots.entries now (key_eq_turns f.head.key key parts.0) (r.others key parts.1);
    whose = all_append (IsForFetched (grammar_of node.profile) (f ∷ fetched)) r.reported p.reported
        (all_weaker (IsForFetched (grammar_of node.profile) fetched) (IsForFetched (grammar_of node.profile) (f ∷ fetched)) r.reported (λ w (k, there, its). (k, or_right (key_eq f.head.key k) (is_fetched k fetched) there, its)) r.whose)
        (all_weaker (IsFor (grammar_of node.profile) f.head.key) (IsForFetched (grammar_of node.profile) (f ∷ fetched)) p.reported (λ w its. (f.head.key, or_left (key_eq f.head.key f.head.key) (is_fetched f.head.key fetched) (key_is f.head.key), its)) p.alone);
    known = record {
      number = number;
      known = ap known_in is ∙ (map-append (λ (e : Key × Slot S). (e.0, known_as e.1)) before.slots.entries ((f.head.key, now) ∷ [])
          ∙ ap₂ (λ xs k. xs ++ (f.head.key, k) ∷ []) r.known.known kind);
    };
  }
    where
      none : lookup (key_eq f.head.key) before.slots.entries ≡ None
      none = r.others f.head.key fresh

      is : after.slots.entries ≡ before.slots.entries ++ (f.head.key, now) ∷ []
      is = added none

      own : IsRestorable service f → KeyRevives service node f (slot_of f.head.key after) (r.reported ++ p.reported)
      own ok =
          let s = revives ok in record {
            after = s.after;
            packets = s.packets;
            stands = subst (λ x. StandsFor service node f.head.key x (Some s.after))
                (sym (ap (lookup (key_eq f.head.key)) is ∙ found_last f.head.key before.slots.entries now none)) s.stands;
            turn = s.turn;
            wires = of_both (grammar_of node.profile) f.head.key r.reported p.reported ∙ (ap (λ ws. ws ++ of_key (grammar_of node.profile) f.head.key p.reported) (silent_fetched (grammar_of node.profile) f.head.key fetched r.reported fresh r.whose)
                ∙ reported_its (grammar_of node.profile) f.head.key p.reported s.packets p.alone (reported_is (grammar_of node.profile) mid new p.reported s.packets p.put s.wires) s.spelled);
            spelled = s.spelled;
          }

      still : (x : Fetched) → key_eq x.head.key f.head.key ≡ false → (IsRestorable service x → KeyRevives service node x (slot_of x.head.key before) r.reported)
          → IsRestorable service x → KeyRevives service node x (slot_of x.head.key after) (r.reported ++ p.reported)
      still x unlike h ok =
          let k = h ok in
          let other = key_eq_turns x.head.key f.head.key unlike in record {
            after = k.after;
            packets = k.packets;
            stands = subst (λ s. StandsFor service node x.head.key s (Some k.after))
                (sym (ap (lookup (key_eq x.head.key)) is ∙ other_last f.head.key x.head.key other before.slots.entries now)) k.stands;
            turn = k.turn;
            wires = of_both (grammar_of node.profile) x.head.key r.reported p.reported ∙ (ap (λ ws. of_key (grammar_of node.profile) x.head.key r.reported ++ ws) (none_of (grammar_of node.profile) f.head.key x.head.key p.reported p.alone other)
                ∙ (append-nil (of_key (grammar_of node.profile) x.head.key r.reported) ∙ k.wires));
            spelled = k.spelled;
          }

  -- one that is done, ..
  pub ended_alone : (f : Fetched) (fetched : List Fetched) (key : Key) (before after : Serving S) (old mid : List Wire) → f.head.done ≡ true → key ≡ f.head.key → is_fetched f.head.key fetched ≡ false
      → RestoredAlone service node fetched before old mid → after.next.0 ≡ before.next.0
      → (lookup (key_eq key) before.slots.entries ≡ None → after.slots.entries ≡ before.slots.entries ++ (key, slot.Done) ∷ [])
      → RestoredAlone service node (f ∷ fetched) after old mid
  ended_alone f fetched key before after old mid done is fresh r same added =
      let place : restored service node.profile f ≡ Ended f.head.key = ap (λ b. if b then Ended f.head.key else Lives (point_of service node.profile (entry_in f))) done in
      more_restored f fetched before after slot.Done old mid mid fresh r (quiet_for (grammar_of node.profile) f.head.key mid)
      (λ ok. subst (λ p. SlotRevives service node f.head.key p slot.Done mid mid) (sym place)
      (record { after = Ended f.head.key; packets = []; stands = refl; turn = (refl, refl); wires = sym (append-nil mid); spelled = tt }))
      (subst (λ k. lookup (key_eq k) before.slots.entries ≡ None → after.slots.entries ≡ before.slots.entries ++ (k, slot.Done) ∷ []) is added)
      (same ∙ (r.known.number ∙ ap (initial_number node.isn) (sym (counted service node f fetched true done)))) refl

  -- .. and one that isn't
  pub live_alone : (f : Fetched) (fetched : List Fetched) (key : Key) (before after : Serving S) (now : Slot S) (old mid new : List Wire) → f.head.done ≡ false → key ≡ f.head.key
      → is_fetched f.head.key fetched ≡ false → RestoredAlone service node fetched before old mid → IsOnlyFor (grammar_of node.profile) key mid new
      → (IsSoundEntry service (entry_in f) → SlotRevives service node f.head.key (Lives (point_of service node.profile (entry_in f))) now mid new)
      → after.next.0 ≡ (before.next.0 + 65536) % 2 ^ 32 → known_as now ≡ Is_connected
      → (lookup (key_eq key) before.slots.entries ≡ None → after.slots.entries ≡ before.slots.entries ++ (key, now) ∷ [])
      → RestoredAlone service node (f ∷ fetched) after old new
  live_alone f fetched key before after now old mid new live is fresh r p revives next kind added =
      let place : restored service node.profile f ≡ Lives (point_of service node.profile (entry_in f)) = ap (λ b. if b then Ended f.head.key else Lives (point_of service node.profile (entry_in f))) live in
      more_restored f fetched before after now old mid new fresh r (subst (λ k. IsOnlyFor (grammar_of node.profile) k mid new) is p)
      (λ ok. subst (λ q. SlotRevives service node f.head.key q now mid new) (sym place) (revives (ok live)))
      (subst (λ k. lookup (key_eq k) before.slots.entries ≡ None → after.slots.entries ≡ before.slots.entries ++ (k, now) ∷ []) is added)
      (next ∙ (ap (λ n. (n + 65536) % 2 ^ 32) r.known.number ∙ (next_number node.isn (restored_count fetched)
      ∙ ap (initial_number node.isn) (plus_one service node (restored_count fetched) ∙ sym (counted service node f fetched false live))))) kind
