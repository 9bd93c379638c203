-- A quarantine ends in three steps.
use Rattle.std.proofs.Common.{◌≡◌, ◌⊎◌, inl, inr, ℕ, ◌+◌, ◌≤◌, arith, true, false, ◌==◌, ◌&&◌, nat_le, refl, sym, ap, ◌∙◌, true≢false, eq-eqb, Some, None, List, [], ◌∷◌, ◌++◌, map, filter}
use Rattle.std.proofs.lemmas.Bool.{and_from, or_from, or_parts}
use Rattle.std.specs.List.{list_any}
use Rattle.ft_io.specs.Key.{key_eq}
use Rattle.server_trait.specs.Service.{Machine}
use Rattle.ft_model.specs.Keys.{AreDistinct}
use Rattle.ft_model.specs.Lawful.{LawfulTurn}
use Rattle.ft_model.specs.Log.{Entry, entry_of}
use Rattle.ft_model.specs.Node.{Node}
use Rattle.ft_model.specs.Node.Input.{Tick_comes}
use Rattle.ft_model.specs.Node.Place.{Ended}
use Rattle.ft_model.specs.Node.Stage.{Serving}
use Rattle.ft_model.specs.World.{World}
use Rattle.ft_model.proofs.Lists.{key_is, found_passes, or_left, some_is}
use Rattle.ft_io.proofs.Choices.{if_true}
use Rattle.long_laws.specs.Forgetting.{Named, forget, forgotten_message, is_entry_of, is_recycled, after_forget, forgotten_in, IsRecycled, IsGone, answer_to_forget}
use Rattle.long_laws.specs.Forgetting.ForgetAnswer.{About_forgetting}
use Rattle.long_laws.specs.LongTrace.{others, places_at, without_entry}
use Rattle.long_laws.specs.Quarantine.{Quarantined, is_leaving, is_same, proceeds_or_begins, quarantined_at, named_in, taken_away, named_by}
use Rattle.long_laws.specs.QuarantineWorld.{QuarantineWorld, recycled_by, key_recycled, recycled_world, with_answer, answer_sent, without_place, with_one, IsForgotten}
use Rattle.long_laws.proofs.Again.{none_left, none_there}
use Rattle.long_laws.proofs.ForgetLog.{takes_out_or_nothing, own_boot, gone_means_forgotten}
use Rattle.long_laws.proofs.QuarantineMessages.{has_some, named_in_body}

no_it : (n : Named) (es : List Entry) → list_any (λ e. key_eq e.key n.key) es ≡ false → list_any (is_entry_of n) es ≡ false
no_it n [] h = refl
no_it n (e ∷ es) h =
    let parts = or_parts (key_eq e.key n.key) (list_any (λ x. key_eq x.key n.key) es) h in
    or_from (is_entry_of n e) (list_any (is_entry_of n) es) (ap (λ b. b && (e.cisn == n.cisn && e.sisn == n.sisn)) parts.0) (no_it n es parts.1)

module _ {State : Type 0} (service : Machine State) (wait isn opened age : ℕ) (w : World) (n : Named) (e : Entry) (waited : wait ≤ age + 1)
    (distinct : AreDistinct (map (λ x. x.key) w.log.entries)) (found : entry_of n.key w.log ≡ Some e) (cisn : e.cisn ≡ n.cisn) (sisn : e.sisn ≡ n.sisn) (done : e.done ≡ true) where
  abbrev boot : ℕ
  boot = w.log.boot

  is_leaving_now : nat_le wait (age + 1) ≡ true
  is_leaving_now = grind (arith, waited)

  gives : list_any (is_recycled n) w.log.entries ≡ true
  gives =
      has_some n w.log.entries e found
      (and_from _ _ (and_from _ _ (found_passes (λ x. key_eq x.key n.key) w.log.entries e found) (and_from _ _ (eq-eqb e.cisn n.cisn cisn) (eq-eqb e.sisn n.sisn sisn))) done)

  gone : IsGone n (after_forget w.log (forget boot n))
  gone = on (takes_out_or_nothing w.log (forget boot n) distinct)
    where
      on : (after_forget w.log (forget boot n) ≡ w.log) ⊎ IsRecycled w.log (forget boot n) → IsGone n (after_forget w.log (forget boot n))
      on (inl same) =
          let out : after_forget w.log (forget boot n) ≡ forgotten_in n w.log = own_boot w.log (forget boot n) refl in
          absurd (true≢false (sym gives ∙ (ap (λ l. list_any (is_recycled n) l.entries) (sym same ∙ out) ∙ none_left (is_recycled n) w.log.entries)))
      on (inr r) =
          let same : r.named ≡ n = sym (ap (λ m. named_in_body m.body) r.is) in
          ap (λ l. list_any (is_entry_of n) l.entries) (r.after ∙ ap (λ m. without_entry m.key w.log) same)
          ∙ no_it n (others (λ x. key_eq x.key n.key) w.log.entries) (none_left (λ x. key_eq x.key n.key) w.log.entries)

  answer : answer_to_forget w.log (forget boot n) ≡ Some (About_forgetting (forgotten_message boot n))
  answer = gone_means_forgotten w.log n gone

  key_out : recycled_by (forget boot n) w.log ≡ Some n.key
  key_out = if_true (boot == boot) (key_recycled (forget boot n).body w.log) None (eq-eqb boot boot refl) ∙ if_true (list_any (is_recycled n) w.log.entries) (Some n.key) None gives

  abbrev before : QuarantineWorld
  before = with_one w isn opened age n

  abbrev node : Node
  node = record { server = w.server; profile = w.profile; boot = w.log.boot; isn = isn; stage = Serving opened (Ended n.key ∷ []) }

  abbrev later : Node
  later = record node { stage = Serving (opened + 0) (Ended n.key ∷ []) }

  abbrev older : Quarantined
  older = record { named = n; age = age + 1 }

  abbrev first : QuarantineWorld
  first = record {
    now = record w { node = Some later; packets = w.packets ++ [] };
    past = [];
    notes = forget boot n ∷ [];
    quarantine = older ∷ [];
  }

  abbrev second : QuarantineWorld
  second = with_answer (Some (About_forgetting (forgotten_message boot n))) (recycled_world (Some n.key) first)

  turn : LawfulTurn service node Tick_comes [] later
  turn = record {
    server = refl;
    profile = refl;
    boot = refl;
    isn = refl;
    live = refl;
    stage = (
      Ended n.key ∷ [],
      refl,
      record {
        went = Ended n.key ∷ [];
        by_places = [];
        all_go = (Ended n.key ∷ [], [], [], [], refl, refl, (refl, refl), (refl, refl));
        places = refl;
        packets = refl;
      },
    );
  }

  kept : (older ∷ []) ≡ proceeds_or_begins Tick_comes (quarantined_at n.key before.quarantine) (named_in node Tick_comes node.stage n.key) ++ []
  kept =
      sym (ap (λ q. proceeds_or_begins Tick_comes q (named_in node Tick_comes node.stage n.key) ++ [])
      (if_true (key_eq n.key n.key) (Some (let q : Quarantined = record { named = n; age = age } in q)) None (key_is n.key)))

  reported : (forget boot n ∷ []) ≡ map (λ q. forget boot q.named) (filter (is_leaving wait) (older ∷ []))
  reported = sym (ap (map (λ q. forget boot q.named)) (if_true (is_leaving wait older) (older ∷ []) [] is_leaving_now))

  pub is_forgotten : IsForgotten service wait before n
  is_forgotten = record {
    one = first;
    two = second;
    three = without_place (Some n.key) second;
    tick = (refl, record { passes = ((refl, ((later, refl, turn), refl)), refl); quarantine = kept; notes = reported; fresh = tt });
    to_log = (
      forget boot n,
      refl,
      ap answer_sent (sym answer),
      ap (λ a. with_answer a (recycled_world (Some n.key) first)) (sym answer) ∙ ap (λ k. with_answer (answer_to_forget w.log (forget boot n)) (recycled_world k first)) (sym key_out),
    );
    to_node = (forgotten_message boot n, refl, refl, ap (λ k. without_place k second) (sym away));
    entry = none_there (λ x. key_eq x.key n.key) w.log.entries;
    places = λ x up. ap (λ y. places_at y.stage) (sym (some_is _ x up)) ∙ if_true (key_eq n.key n.key) [] (Ended n.key ∷ []) (key_is n.key);
    quarantine = if_true (key_eq n.key n.key) [] (older ∷ []) (key_is n.key);
  }
    where
      same : is_same n n ≡ true
      same = and_from _ _ (key_is n.key) (and_from _ _ (eq-eqb n.cisn n.cisn refl) (eq-eqb n.sisn n.sisn refl))

      away : taken_away (Some later) (forgotten_message boot n) (older ∷ []) ≡ Some n.key
      away =
          if_true (boot == boot) (named_by (forgotten_message boot n).body (older ∷ [])) None (eq-eqb boot boot refl)
          ∙ if_true (list_any (λ q. is_same q.named n) (older ∷ [])) (Some n.key) None (or_left (is_same n n) false same)
