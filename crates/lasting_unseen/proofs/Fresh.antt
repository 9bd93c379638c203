-- Where clients of one address have different initial sequence numbers, every opening is fresh.
use Rattle.std.proofs.Common.{◌≡◌, inl, inr, ℕ, zero, suc, ◌==◌, eqb-true, eq-eqb, Bool, true, false, true≢false, ◌&&◌, not, nat_lt, refl, sym, ap, ap₂, ◌∙◌, subst, find, is_some, Some, List, [], ◌∷◌, map, slice_get}
use Rattle.std.specs.List.{AllByRecursion, list_any}
use Rattle.std.proofs.lemmas.Bool.{and_parts, and_from, or_right}
use Rattle.ft_io.specs.declared.Key.{Key}
use Rattle.ft_io.specs.Key.{key_eq}
use Rattle.ft_io.proofs.Choices.{by_cases, holds_if}
use Rattle.ft_io.proofs.Booleans.{not_true}
use Rattle.server_trait.specs.Service.{Machine}
use Rattle.seq_arith.specs.Packet.{Segment, has_syn, has_ack, has_rst}
use Rattle.ft_model.specs.Client.{Client}
use Rattle.ft_model.specs.Keys.{has_key}
use Rattle.ft_model.specs.Log.{Log, Entry}
use Rattle.ft_model.specs.Network.{source_of}
use Rattle.ft_model.specs.Network.Packet.{To_server}
use Rattle.ft_model.specs.Node.{Node, Place, Stage, key_of, is_for, is_known, pending_count}
use Rattle.ft_model.specs.Node.Input.{Packet_comes}
use Rattle.ft_model.specs.Node.Place.{Opens}
use Rattle.ft_model.specs.Node.Stage.{Asking, Fetching, Serving, Fenced}
use Rattle.ft_model.specs.Opening.{is_syn, numbers_for, timestamping_for}
use Rattle.ft_model.specs.ServingTurn.{is_strange}
use Rattle.ft_model.specs.World.{World}
use Rattle.ft_model.proofs.Faithful.{PacketFits}
use Rattle.ft_model.proofs.FaithfulKept.{ClientFits}
use Rattle.ft_model.proofs.Formed.{PacketFormed}
use Rattle.ft_model.proofs.Keys.{absent_key}
use Rattle.ft_model.proofs.Lists.{all_both, all_slice_get, found_passes, none_is_some, some_is, same_key, or_left}
use Rattle.long_laws.specs.Forgetting.{Named, ForgetBody, ForgetMessage, named_of, is_entry_of}
use Rattle.long_laws.specs.Forgetting.ForgetBody.{ForgetMsg, ForgottenMsg}
use Rattle.long_laws.specs.LongTrace.{Gone}
use Rattle.long_laws.specs.QuarantineWorld.{NotOpening, IsFresh, has_numbers, new_places}
use Rattle.long_laws.proofs.QuarantineDone.{HasIt}
use Rattle.long_laws.proofs.QuarantineKept.{BodyHolds, NoteHolds}
use Rattle.long_laws.proofs.QuarantineTurns.{IsDoneAt}
use Rattle.lasting_laws.specs.LastingWorld.{Guest}
use Rattle.lasting_unseen.proofs.GuestsNames.{Identity, identity, IsGuestOf, Identified}
use Rattle.lasting_unseen.proofs.Known.{numbered_is_there}
use Rattle.lasting_unseen.proofs.Names.{IsNamed, client_at_key}
use Rattle.lasting_unseen.proofs.Parcels.{IsAmong}
use Rattle.lasting_unseen.proofs.Peopled.{Peopled}

-- no two of them are the same
abbrev pub Differ : List Identity → Type 0
Differ [] = Unit {0}
Differ (i ∷ is) = AllByRecursion (λ j. j ≡ i → ⊥) is × Differ is

identity_at : (guests : List Guest) (b : ℕ) (h : Guest) → slice_get guests b ≡ Some h → (P : Identity → Type 0) → AllByRecursion P (map identity guests) → P (identity h)
identity_at [] b h e P a = none_is_some h e
identity_at (x ∷ guests) zero h e P a = subst (λ y. P (identity y)) (some_is x h e) a.0
identity_at (x ∷ guests) (suc b) h e P a = identity_at guests b h e P a.1

one_guest : (guests : List Guest) (a b : ℕ) (g h : Guest) → Differ (map identity guests) → slice_get guests a ≡ Some g → slice_get guests b ≡ Some h → identity h ≡ identity g → g ≡ h
one_guest [] a b g h d e f same = none_is_some g e
one_guest (x ∷ guests) zero zero g h d e f same = some_is g h (sym e ∙ f)
one_guest (x ∷ guests) zero (suc b) g h d e f same =
    absurd (identity_at guests b h f (λ j. j ≡ identity x → ⊥) d.0 (same ∙ ap identity (sym (some_is x g e))))
one_guest (x ∷ guests) (suc a) zero g h d e f same =
    absurd (identity_at guests a g e (λ j. j ≡ identity x → ⊥) d.0 (sym same ∙ ap identity (sym (some_is x h f))))
one_guest (x ∷ guests) (suc a) (suc b) g h d e f same = one_guest guests a b g h d.1 e f same

-- nobody is there and past
never_both : {X : Type 0} (guests : List Guest) (c d : Client) → Differ (map identity guests) → IsGuestOf guests false c → IsGuestOf guests true d → d.key ≡ c.key → d.isn ≡ c.isn → X
never_both guests c d differ p q key isn =
    let same : p.guest ≡ q.guest =
    one_guest guests p.at q.at p.guest q.guest differ p.found q.found (ap₂ (λ k i. (k, i)) (q.key ∙ (key ∙ sym p.key)) (q.isn ∙ (isn ∙ sym p.isn))) in
    absurd (true≢false (sym q.gone ∙ (ap (λ g. is_some g.gone) (sym same) ∙ p.gone)))

any_found : (q : Entry → Bool) (p : Entry → Bool) (es : List Entry) (e : Entry) → find p es ≡ Some e → q e ≡ true → list_any q es ≡ true
any_found q p [] e found is = none_is_some e found
any_found q p (x ∷ es) e found is =
    holds_if (λ o. o ≡ Some e → list_any q (x ∷ es) ≡ true) (p x) (Some x) (find p es) (λ t h. or_left (q x) (list_any q es) (ap q (some_is x e h) ∙ is))
    (λ t h. or_right (q x) (list_any q es) (any_found q p es e h is)) found

has_it_there : (n : Named) (log : Log) → HasIt n log → list_any (is_entry_of n) log.entries ≡ true
has_it_there n log h =
    any_found (is_entry_of n) (λ x. key_eq x.key n.key) log.entries h.0 h.1
    (and_from (key_eq h.0.key n.key) (h.0.cisn == n.cisn && h.0.sisn == n.sisn) (found_passes (λ x. key_eq x.key n.key) log.entries h.0 h.1)
    (and_from (h.0.cisn == n.cisn) (h.0.sisn == n.sisn) (eq-eqb h.0.cisn n.cisn h.2) (eq-eqb h.0.sisn n.sisn h.3)))

module _ {State : Type 0} (service : Machine State) (w : World) (o : Peopled service w) (past : List Gone) (guests : List Guest) (known : Identified guests w.clients past) (differ : Differ (map identity guests))
    (node : Node) (segment : Segment) (sent : IsAmong (To_server segment) w.packets) where
  -- the client whose SYN it is
  its_client : has_syn segment ≡ true → (c : Client) × IsAmong c w.clients × (c.key ≡ source_of segment) × (c.isn ≡ segment.head.seq)
  its_client syn =
      let formed = all_slice_get (PacketFormed o.home) w.packets sent.0 (To_server segment) o.formed.packets sent.1 in
      let c = client_at_key service (record { now = w; past = past; notes = []; quarantine = [] }) o (source_of segment) w.clients (o.there (source_of segment) (numbered_is_there o.home.clients (source_of segment) formed.0.1)) in
      let key : c.0.key ≡ source_of segment = same_key c.0.key (source_of segment) c.2 in
      let fits = all_slice_get (ClientFits o.stands.script o.stands.isn) w.clients c.1.0 c.0 o.stands.faithful.clients c.1.1 in
      let packet = all_slice_get (PacketFits o.stands.script o.stands.isn w.log) w.packets sent.0 (To_server segment) o.stands.faithful.packets sent.1 in
      (c.0, c.1, key, fits.1 ∙ (ap o.stands.isn key ∙ sym (packet.syn syn)))

  module _ (opened : ℕ) (places : List Place) (strange : is_strange node segment places ≡ true) (syn : has_syn segment ≡ true) where
    unknown : (key : Key) → key ≡ source_of segment → has_key key (map key_of places) ≡ false
    unknown key same =
        absent_key key_of key places
        (subst (λ k. is_known k places ≡ false) (sym same) (not_true (is_known (source_of segment) places) (and_parts (is_for node.server segment) (not (is_known (source_of segment) places)) strange).1))

    over_differs : {X : Type 0} (n : Named) → list_any (is_entry_of n) w.log.entries ≡ false → IsNamed w.log past n → source_of segment ≡ n.key → segment.head.seq ≡ n.cisn → X
    over_differs n over (inl h) key isn = absurd (true≢false (sym (has_it_there n w.log h) ∙ over))
    over_differs n over (inr (x, at, its_key, its_isn)) key isn =
        let c = its_client syn in
        never_both guests c.0 x.client differ (all_slice_get (IsGuestOf guests false) w.clients c.1.0 c.0 known.here c.1.1)
        (all_slice_get (λ y. IsGuestOf guests true y.client) past at.0 x known.gone at.1) (its_key ∙ (sym key ∙ sym c.2)) (its_isn ∙ (sym isn ∙ sym c.3))

    body_differs : {X : Type 0} (body : ForgetBody) → node.stage ≡ Serving opened places → BodyHolds w node body → IsNamed w.log past (named_of body) → source_of segment ≡ (named_of body).key
        → segment.head.seq ≡ (named_of body).cisn → X
    body_differs (ForgottenMsg n) at h named key isn = over_differs n h.0 named key isn
    body_differs (ForgetMsg n) at (inr h) named key isn = over_differs n h.0 named key isn
    body_differs (ForgetMsg n) at (inl h) named key isn =
        let done : IsDoneAt n.key (Serving opened places) = subst (IsDoneAt n.key) at h.0 in absurd (true≢false (sym done.1 ∙ unknown n.key (sym key)))

    not_named : (body : ForgetBody) → node.stage ≡ Serving opened places → BodyHolds w node body → IsNamed w.log past (named_of body)
        → has_numbers (named_of body) (numbers_for node.profile node.isn opened segment) ≡ false
    not_named body at h named =
        by_cases (has_numbers (named_of body) (numbers_for node.profile node.isn opened segment))
        (λ t. let parts = and_parts (key_eq (source_of segment) (named_of body).key) _ t in
        let numbers = and_parts (segment.head.seq == (named_of body).cisn) _ parts.1 in
        body_differs body at h named (same_key (source_of segment) (named_of body).key parts.0) (eqb-true segment.head.seq (named_of body).cisn numbers.0))
        (λ t. t)

  fresh_at : (stage : Stage) → node.stage ≡ stage → (body : ForgetBody) → BodyHolds w node body → IsNamed w.log past (named_of body) → AllByRecursion (NotOpening (named_of body)) (new_places node (Packet_comes segment) stage)
  fresh_at (Serving opened places) at body h named =
      holds_if (AllByRecursion (NotOpening (named_of body))) (is_strange node segment places && is_syn segment && nat_lt (pending_count places) 64)
      (Opens (numbers_for node.profile node.isn opened segment) (timestamping_for node.profile segment) ∷ []) []
      (λ t. let first = and_parts (is_strange node segment places && is_syn segment) (nat_lt (pending_count places) 64) t in
      let both = and_parts (is_strange node segment places) (is_syn segment) first.0 in
      let syn = and_parts (has_syn segment && not (has_ack segment)) (not (has_rst segment)) both.1 in
      (not_named opened places both.0 (and_parts (has_syn segment) (not (has_ack segment)) syn.0).0 body at h named, tt))
      (λ t. tt)
  fresh_at Asking at body h named = tt
  fresh_at (Fetching count fetched) at body h named = tt
  fresh_at (Fenced newer) at body h named = tt

  pub opens_fresh : (notes : List ForgetMessage) → AllByRecursion (NoteHolds w node) notes → AllByRecursion (λ m. IsNamed w.log past (named_of m.body)) notes
      → AllByRecursion (IsFresh node.boot (new_places node (Packet_comes segment) node.stage)) notes
  opens_fresh notes holds named =
      all_both (NoteHolds w node) (λ m. IsNamed w.log past (named_of m.body)) (IsFresh node.boot (new_places node (Packet_comes segment) node.stage)) notes
      (λ m h n own. fresh_at node.stage refl m.body (h own) n) holds named
