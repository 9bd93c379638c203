-- Which Opens a segment asks for: at most that of its own client.
use Rattle.std.proofs.Common.{◌≡◌, ◌∙◌, Bool, true, false, ◌&&◌, ◌==◌, refl, sym, ap, ap₂, subst, true≢false, List, [], ◌∷◌, ◌++◌, append-nil, Some, None, Option, cond, eq-eqb, if◌then◌else◌}
use Rattle.std.specs.List.{AllByRecursion, IsDistinct}
use Rattle.std.specs.Map.{lookup, keys_of}
use Rattle.ft_io.specs.declared.Key.{Key}
use Rattle.ft_io.specs.Key.{key_eq}
use Rattle.seq_arith.specs.Packet.{Segment}
use Rattle.seq_arith.specs.Message.Body.{OpenMsg}
use Rattle.ft_model.specs.Network.{Packet, source_of}
use Rattle.ft_model.specs.Connection.{reported_by}
use Rattle.ft_model.specs.Node.{Node, is_for}
use Rattle.ft_model.specs.Node.Input.{Packet_comes}
use Rattle.ft_model.specs.Opening.{is_syn}
use Rattle.ft_model.specs.ServingTurn.{is_asked}
use Rattle.node_serving.specs.declared.slot.Slot.{Slot}
use Rattle.node_serving.specs.declared.slot.Slot.TheVariants as slot
use Rattle.node_serving.specs.declared.slot.Opening.{Opening}
use Rattle.node_serving.specs.LogMessages.{opening_in}
use Rattle.node_serving.specs.Openings.{slot_opens, all_opens}
use Rattle.node_serving.specs.Slots.{numbers_of}
use Rattle.ft_model.proofs.Lists.{same_key, key_is}

module _ (node : Node) (segment : Segment) where
  -- the Open of an opening, if this segment is its SYN
  abbrev pub opens_of : Key → Option Opening → List Packet
  opens_of key None = []
  opens_of key (Some o) = if is_asked node (Packet_comes segment) (numbers_of key o) then reported_by node.boot (OpenMsg (numbers_of key o)) ∷ [] else []

  -- no slot of another key is asked for
  other_slot : {S : Type 0} (key : Key) (s : Slot S) → key_eq (source_of segment) key ≡ false → slot_opens node (Packet_comes segment) key s ≡ []
  other_slot key (slot.Pending o) other = rw (not_asked) refl
    where
      not_asked : is_asked node (Packet_comes segment) (numbers_of key o) ≡ false
      not_asked = middle (is_for node.server segment) (is_syn segment) (key_eq (source_of segment) key) (segment.head.seq == o.cisn.0) other
        where
          middle : (a b c d : Bool) → c ≡ false → (a && b && c && d) ≡ false
          middle true true true d e = absurd (true≢false e)
          middle true true false d e = refl
          middle true false c d e = refl
          middle false b c d e = refl
  other_slot key (slot.Live c) other = refl
  other_slot key slot.Done other = refl

  pub all_other : {S : Type 0} (es : List (Key × Slot S)) → AllByRecursion (λ k. key_eq (source_of segment) k ≡ false) (keys_of es) → all_opens node (Packet_comes segment) es ≡ []
  all_other [] none = refl
  all_other (e ∷ es) none = ap₂ ◌++◌ (other_slot e.0 e.1 none.0) (all_other es none.1)

  of_slot : {S : Type 0} (key : Key) (s : Slot S) → slot_opens node (Packet_comes segment) key s ≡ opens_of key (opening_in (Some s))
  of_slot key (slot.Pending o) = refl
  of_slot key (slot.Live c) = refl
  of_slot key slot.Done = refl

  -- so the Opens of all slots are that of the client's slot
  pub opens_one : {S : Type 0} (es : List (Key × Slot S)) → IsDistinct key_eq (keys_of es)
      → all_opens node (Packet_comes segment) es ≡ opens_of (source_of segment) (opening_in (lookup (key_eq (source_of segment)) es))
  unfolding IsDistinct
  opens_one [] distinct = refl
  opens_one {S} (e ∷ es) distinct = go (key_eq (source_of segment) e.0) refl (opens_one es distinct.1)
    where
      go : (b : Bool) → key_eq (source_of segment) e.0 ≡ b
          → all_opens node (Packet_comes segment) es ≡ opens_of (source_of segment) (opening_in (lookup (key_eq (source_of segment)) es))
          → all_opens node (Packet_comes segment) (e ∷ es) ≡ opens_of (source_of segment) (opening_in (lookup (key_eq (source_of segment)) (e ∷ es)))
      go true t rest =
          let same : source_of segment ≡ e.0 = same_key (source_of segment) e.0 t in
          let others : all_opens node (Packet_comes segment) es ≡ [] =
          all_other es (subst (λ k. AllByRecursion (λ y. key_eq k y ≡ false) (keys_of es)) (sym same) distinct.0) in
          ap (λ ps. slot_opens node (Packet_comes segment) e.0 e.1 ++ ps) others ∙ (append-nil _ ∙ (of_slot e.0 e.1
          ∙ (ap (λ k. opens_of k (opening_in (Some e.1))) (sym same)
          ∙ ap (λ b. opens_of (source_of segment) (opening_in (cond b (Some e.1) (lookup (key_eq (source_of segment)) es)))) (sym t))))
      go false t rest =
          ap (λ ps. ps ++ all_opens node (Packet_comes segment) es) (other_slot e.0 e.1 t) ∙ (rest
          ∙ ap (λ b. opens_of (source_of segment) (opening_in (cond b (Some e.1) (lookup (key_eq (source_of segment)) es)))) (sym t))

  -- its SYN asks for an opening
  pub asked_at_syn : (key : Key) (o : Opening) → is_for node.server segment ≡ true → is_syn segment ≡ true → source_of segment ≡ key → segment.head.seq ≡ o.cisn.0
      → opens_of key (Some o) ≡ reported_by node.boot (OpenMsg (numbers_of key o)) ∷ []
  asked_at_syn key o mine syn same seq =
      let itself : key_eq (source_of segment) key ≡ true = ap (λ k. key_eq k key) same ∙ key_is key in
      let number : (segment.head.seq == o.cisn.0) ≡ true = eq-eqb segment.head.seq o.cisn.0 seq in
      rw (mine, syn, itself, number) refl

  -- a segment that isn't its SYN asks for none
  pub unasked : (key : Key) (o : Opening) → (is_syn segment && segment.head.seq == o.cisn.0) ≡ false → opens_of key (Some o) ≡ []
  unasked key o other = rw (not_asked) refl
    where
      not_asked : is_asked node (Packet_comes segment) (numbers_of key o) ≡ false
      not_asked = middle (is_for node.server segment) (is_syn segment) (key_eq (source_of segment) key) (segment.head.seq == o.cisn.0) other
        where
          middle : (a b c d : Bool) → (b && d) ≡ false → (a && b && c && d) ≡ false
          middle true true true d e = e
          middle true true false d e = refl
          middle true false c d e = refl
          middle false b c d e = refl
