-- A message about forgetting reaches the log or the server: a step of the world with a quarantine. Where an entry is recycled, the messages about its connection
-- that are under way are lost one by one.
use Rattle.std.proofs.Common.{◌≡◌, inl, inr, ℕ, Bool, false, refl, sym, ap, ap₂, ◌∙◌, subst, subst₂, append-nil, append_assoc, option_to_list, Option, Some, None, List, [], ◌∷◌, ◌++◌, map, filter, length, slice_get}
use Rattle.std.specs.List.{AllByRecursion, flat_map}
use Rattle.ft_io.specs.declared.Key.{Key}
use Rattle.ft_io.specs.Key.{key_eq}
use Rattle.ft_io.proofs.Choices.{holds_if}
use Rattle.server_trait.specs.Service.{Machine}
use Rattle.ft_model.specs.Client.{Client}
use Rattle.ft_model.specs.Growth.{logged_lengths}
use Rattle.ft_model.specs.Keys.{AreDistinct}
use Rattle.ft_model.proofs.Exact.{same_exact}
use Rattle.ft_model.proofs.Lists.{all_weaker}
use Rattle.long_laws.specs.Forgetting.{ForgetMessage, ForgetAnswer, after_forget, answer_to_forget}
use Rattle.long_laws.specs.Forgetting.ForgetAnswer.{About_forgetting, Of_log}
use Rattle.long_laws.specs.LongTrace.{Gone, others, concerns, gone_with, node_without}
use Rattle.long_laws.specs.Quarantine.{taken_away}
use Rattle.long_laws.specs.QuarantineWorld.{QuarantineWorld, QuarantineMoment, recycled_by, recycled_world, with_answer, answer_sent, after_forget_came, after_forgotten_came, without_at}
use Rattle.long_laws.specs.QuarantineWorld as world
use Rattle.long_laws.specs.QuarantineWorld.QuarantineStep.{To_log, To_node, Is_lost}
use Rattle.long_laws.proofs.QuarantineMessages.{log_is}
use Rattle.lasting_laws.specs.AsMoments.{world_then}
use Rattle.lasting_laws.specs.LastingTurn.{LastingNode, LastingSent, LastingTurn, nothing_sent, without_place}
use Rattle.lasting_laws.specs.LastingTurn.LastingInput.{Forget_comes}
use Rattle.lasting_laws.specs.LastingWorld.{Parcel, LastingWorld, with_sent, with_recycled, answer_parcel, lost_with, parcels_of, sent_at}
use Rattle.lasting_laws.specs.LastingWorld.{Parcel as parcels}
use Rattle.lasting_laws.specs.LastingUnseen.{usual, still_under_way}
use Rattle.lasting_unseen.specs.Mirror.{notes_under_way, mirrored}
use Rattle.lasting_unseen.proofs.Guests.{Guested}
use Rattle.lasting_unseen.proofs.GuestsGone.{guested_gone}
use Rattle.lasting_unseen.proofs.GuestsNames.{identified_gone, identities_gone}
use Rattle.lasting_unseen.proofs.Leads.{Leads, SentInView, Passes, one_passes}
use Rattle.lasting_unseen.proofs.Parcels.{packets_more, notes_more, packets_left, notes_left, note_there, notes_in, is_note_about}
use Rattle.lasting_unseen.proofs.Shows.{Shows}
use Rattle.lasting_unseen.proofs.Turns.{own, turned, turned_is}

-- Messages are lost one by one
abbrev with_notes : QuarantineWorld → List ForgetMessage → QuarantineWorld
with_notes q notes = record q { notes = notes }

record Loses {State : Type 0} (service : Machine State) (wait : ℕ) (q : QuarantineWorld) (before after : List ForgetMessage) : Type 0 where
  moments : List QuarantineMoment
  leads : Leads service wait (with_notes q before) moments (with_notes q after)
  silent : AllByRecursion (λ m. m.sent ≡ []) moments

without_here : {A : Type 0} (front : List A) (x : A) (xs : List A) → without_at (length front) (front ++ x ∷ xs) ≡ front ++ xs
without_here [] x xs = refl
without_here (y ∷ front) x xs = ap (λ l. y ∷ l) (without_here front x xs)

module _ {State : Type 0} (service : Machine State) (wait : ℕ) (q : QuarantineWorld) (passes : ForgetMessage → Bool) where
  loses : (front xs back : List ForgetMessage) → Loses service wait q (front ++ (xs ++ back)) (front ++ (others passes xs ++ back))
  loses front [] back = record { moments = []; leads = refl; silent = tt }
  loses front (x ∷ xs) back =
      holds_if (λ l. Loses service wait q (front ++ (x ∷ (xs ++ back))) (front ++ (l ++ back))) (passes x) (others passes xs) (x ∷ others passes xs)
      (λ t. let rest = loses front xs back in
      record {
        moments = record { step = Is_lost (length front); sent = []; world = with_notes q (front ++ (xs ++ back)) } ∷ rest.moments;
        leads = ((refl, ap (with_notes q) (sym (without_here front x (xs ++ back)))), rest.leads);
        silent = (refl, rest.silent);
      })
      (λ t. subst₂ (Loses service wait q) (append_assoc front (x ∷ []) (xs ++ back)) (append_assoc front (x ∷ []) (others passes xs ++ back)) (loses (front ++ x ∷ []) xs back))

  silence : (moments : List QuarantineMoment) → AllByRecursion (λ m. m.sent ≡ []) moments → flat_map (λ m. m.sent) moments ≡ []
  silence [] a = refl
  silence (m ∷ moments) a = ap₂ (λ x y. x ++ y) a.0 (silence moments a.1)

module _ {State : Type 0} (service : Machine State) (w : LastingWorld) (clients : List Client) (past : List Gone) (message : ForgetMessage) (distinct : AreDistinct (map (λ e. e.key) w.log.entries)) where
  abbrev here : QuarantineWorld
  here = mirrored w clients past

  abbrev answers : Option ForgetAnswer → List Parcel
  answers a = map answer_parcel (option_to_list a)

  abbrev after : Option Key → Option ForgetAnswer → LastingWorld
  after r a = with_sent (answers a) (record (with_recycled r w) { log = after_forget w.log message })

  log_then : (r : Option Key) → recycled_by message w.log ≡ r → (recycled_world r here).now.log ≡ after_forget w.log message
  log_then r e = subst (λ x. (recycled_world x here).now.log ≡ after_forget w.log message) e (log_is here message distinct)

  sent_usual : (a : Option ForgetAnswer) → answer_sent a ≡ usual (answers a)
  sent_usual None = refl
  sent_usual (Some (About_forgetting answer)) = refl
  sent_usual (Some (Of_log answer)) = refl

  -- no entry is recycled
  module _ (same : w.log ≡ after_forget w.log message) where
    packets_then : (a : Option ForgetAnswer) → still_under_way (after None a).sent ≡ here.now.packets ++ usual (answers a)
    packets_then a = packets_more w.sent (answers a)

    notes_then : (a : Option ForgetAnswer) → notes_under_way (after None a).sent ≡ here.notes ++ notes_in (answers a)
    notes_then a = notes_more w.sent (answers a)

    unchanged : (a : Option ForgetAnswer) → mirrored (after None a) clients past ≡ with_answer a here
    unchanged None = λ i. record here { now = record here.now { log = sym same i; packets = (packets_then None ∙ append-nil here.now.packets) i }; notes = (notes_then None ∙ append-nil here.notes) i }
    unchanged (Some (About_forgetting answer)) =
        λ i. record here { now = record here.now { log = sym same i; packets = (packets_then (Some (About_forgetting answer)) ∙ append-nil here.now.packets) i }; notes = notes_then (Some (About_forgetting answer)) i }
    unchanged (Some (Of_log answer)) =
        λ i. record here { now = record here.now { log = sym same i; packets = packets_then (Some (Of_log answer)) i }; notes = (notes_then (Some (Of_log answer)) ∙ append-nil here.notes) i }

  -- one is
  module _ (key : Key) (same : (recycled_world (Some key) here).now.log ≡ after_forget w.log message) where
    abbrev rest : List Client
    rest = others (λ c. key_eq c.key key) clients

    abbrev more : List Gone
    more = past ++ gone_with (logged_lengths key w.log) (filter (λ c. key_eq c.key key) clients)

    abbrev recycled_here : QuarantineWorld
    recycled_here = recycled_world (Some key) here

    abbrev target : Option ForgetAnswer → QuarantineWorld
    target a = mirrored (after (Some key) a) rest more

    packets_left_then : (a : Option ForgetAnswer) → still_under_way (after (Some key) a).sent ≡ others (concerns key) here.now.packets ++ usual (answers a)
    packets_left_then a = packets_more (map (lost_with key) w.sent) (answers a) ∙ ap (λ l. l ++ usual (answers a)) (packets_left key w.sent)

    notes_left_then : (a : Option ForgetAnswer) → notes_under_way (after (Some key) a).sent ≡ others (is_note_about key) here.notes ++ notes_in (answers a)
    notes_left_then a = notes_more (map (lost_with key) w.sent) (answers a) ∙ ap (λ l. l ++ notes_in (answers a)) (notes_left key w.sent)

    -- before the messages about it are lost
    came : (a : Option ForgetAnswer) → with_notes (target a) (here.notes ++ notes_in (answers a)) ≡ with_answer a recycled_here
    came None = λ i. record recycled_here {
      now = record recycled_here.now { log = sym same i; packets = (packets_left_then None ∙ append-nil (others (concerns key) here.now.packets)) i };
      notes = append-nil here.notes i;
    }
    came (Some (About_forgetting answer)) = λ i. record recycled_here {
      now = record recycled_here.now { log = sym same i; packets = (packets_left_then (Some (About_forgetting answer)) ∙ append-nil (others (concerns key) here.now.packets)) i };
      notes = here.notes ++ answer ∷ [];
    }
    came (Some (Of_log answer)) = λ i. record recycled_here {
      now = record recycled_here.now { log = sym same i; packets = packets_left_then (Some (Of_log answer)) i };
      notes = append-nil here.notes i;
    }

    in_the_end : (a : Option ForgetAnswer) → target a ≡ with_notes (target a) (others (is_note_about key) here.notes ++ notes_in (answers a))
    in_the_end a = λ i. record (target a) { notes = notes_left_then a i }

    recycled_passes : (number : ℕ) (a : Option ForgetAnswer) → slice_get here.notes number ≡ Some message → answer_to_forget w.log message ≡ a → recycled_by message w.log ≡ Some key
        → Passes service w.patience.wait here (usual (answers a)) (target a)
    recycled_passes number a at e r =
        let lost = loses service w.patience.wait (target a) (is_note_about key) [] here.notes (notes_in (answers a)) in
        let first : QuarantineWorld = with_notes (target a) (here.notes ++ notes_in (answers a)) in
        let comes : first ≡ after_forget_came message here = came a ∙ λ i. with_answer (sym e i) (recycled_world (sym r i) here) in
        record {
          moments = record { step = To_log number; sent = usual (answers a); world = first } ∷ lost.moments;
          leads = (
            (message, at, sym (sent_usual a) ∙ ap answer_sent (sym e), comes),
            subst (λ q. Leads service w.patience.wait first lost.moments q) (sym (in_the_end a)) lost.leads,
          );
          sent_is = ap (λ l. usual (answers a) ++ l) (silence service w.patience.wait (target a) (is_note_about key) lost.moments lost.silent) ∙ append-nil (usual (answers a));
          in_view = (inr (refl, refl), all_weaker (λ m. m.sent ≡ []) (SentInView (target a).now.log (target a).now.clients) lost.moments (λ m s. inl s) lost.silent);
          exact = inr (same_exact service (target a).now.log here.now.node);
        }

  -- a message about forgetting reaches the log
  pub forget_shows : (number : ℕ) → Guested w.server w.guests clients past → sent_at w.sent number ≡ Some (record { parcel = parcels.Forget_sent message; lost = false })
      → Shows service w clients past (answers (answer_to_forget w.log message)) (after (recycled_by message w.log) (answer_to_forget w.log message))
  forget_shows number o at = by (recycled_by message w.log) refl
    where
      by : (r : Option Key) → recycled_by message w.log ≡ r → Shows service w clients past (answers (answer_to_forget w.log message)) (after r (answer_to_forget w.log message))
      by None e = record {
        later = clients;
        gone = past;
        passes = subst (λ l. Passes service w.patience.wait here l (mirrored (after None (answer_to_forget w.log message)) clients past)) (sent_usual (answer_to_forget w.log message))
            (one_passes service w.patience.wait here (mirrored (after None (answer_to_forget w.log message)) clients past)
            (record { step = To_log (note_there w.sent number (parcels.Forget_sent message) message at refl).0; sent = answer_sent (answer_to_forget w.log message); world = after_forget_came message here })
            (message, (note_there w.sent number (parcels.Forget_sent message) message at refl).1, refl, refl)
            (unchanged (log_then None e) (answer_to_forget w.log message) ∙ λ i. with_answer (answer_to_forget w.log message) (recycled_world (sym e i) here)));
        guested = o;
        patience = refl;
        identified = λ i. i;
        identities = refl;
      }
      by (Some key) e = record {
        later = rest key (log_then (Some key) e);
        gone = more key (log_then (Some key) e);
        passes = recycled_passes key (log_then (Some key) e) (note_there w.sent number (parcels.Forget_sent message) message at refl).0 (answer_to_forget w.log message)
            (note_there w.sent number (parcels.Forget_sent message) message at refl).1 refl e;
        guested = guested_gone w.server key (logged_lengths key w.log) clients past w.guests o;
        patience = refl;
        identified = λ i. identified_gone key (logged_lengths key w.log) w.guests clients past i;
        identities = identities_gone key (logged_lengths key w.log) w.guests;
      }

-- .. or the server
module _ {State : Type 0} (service : Machine State) (w : LastingWorld) (clients : List Client) (past : List Gone) (n : LastingNode) (up : w.node ≡ Some n) (message : ForgetMessage) where
  abbrev now_here : QuarantineWorld
  now_here = mirrored w clients past

  place_goes : (o : Option Key) → world_then (without_place o n) nothing_sent now_here ≡ world.without_place o now_here
  place_goes (Some key) =
      let own_here = own service w clients past n up in
      λ i. record now_here {
        now = record now_here.now { node = node_without key (sym own_here.up i); packets = append-nil now_here.now.packets i };
        notes = append-nil now_here.notes i;
        quarantine = others (λ q. key_eq q.named.key key) (sym own_here.quarantine i);
      }
  place_goes None =
      let own_here = own service w clients past n up in
      λ i. record now_here {
        now = record now_here.now { node = sym own_here.up i; packets = append-nil now_here.now.packets i };
        notes = append-nil now_here.notes i;
        quarantine = sym own_here.quarantine i;
      }

  pub forgotten_shows : (number : ℕ) (later : LastingNode) (out : LastingSent) → Guested w.server w.guests clients past
      → sent_at w.sent number ≡ Some (record { parcel = parcels.Forgotten_sent message; lost = false }) → LastingTurn service w.patience n (Forget_comes message) out later
      → Shows service w clients past (parcels_of out) (turned service w clients past n up later out)
  forgotten_shows number later out o at turn =
      let own_here = own service w clients past n up in
      let there = note_there w.sent number (parcels.Forgotten_sent message) message at refl in
      let gone : Option Key = taken_away (Some n.node) message n.quarantine in
      let is : mirrored (turned service w clients past n up (without_place gone n) nothing_sent) clients past ≡ after_forgotten_came message now_here =
      turned_is service w clients past n up (without_place gone n) nothing_sent
      ∙ (place_goes gone ∙ λ i. world.without_place (taken_away (sym own_here.up i) message (sym own_here.quarantine i)) now_here) in
      subst (λ x. Shows service w clients past (parcels_of x) (turned service w clients past n up later x)) (sym turn.0)
      (subst (λ x. Shows service w clients past [] (turned service w clients past n up x nothing_sent)) (sym turn.1)
      (record {
        later = clients;
        gone = past;
        passes = one_passes service w.patience.wait now_here (mirrored (turned service w clients past n up (without_place gone n) nothing_sent) clients past)
            (record { step = To_node there.0; sent = []; world = after_forgotten_came message now_here }) (message, there.1, refl, refl) is;
        guested = o;
        patience = refl;
        identified = λ i. i;
        identities = refl;
      }))
