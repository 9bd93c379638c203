-- Whatever is in quarantine, and whatever a message about forgetting names, is an entry of the log, or it was that of a client that is past.
use Rattle.std.proofs.Common.{◌≡◌, ◌⊎◌, inl, inr, ⊎_elim, ℕ, zero, suc, max, Bool, true, false, true≢false, refl, sym, ap, ◌∙◌, subst, MatchBool, Option, Some, None, List, [], ◌∷◌, ◌++◌, filter, slice_get, append-nil}
use Rattle.std.specs.List.{AllByRecursion}
use Rattle.ft_io.specs.declared.Key.{Key}
use Rattle.ft_io.specs.Key.{key_eq}
use Rattle.ft_io.proofs.Choices.{by_cases, holds_if}
use Rattle.server_trait.specs.Service.{Machine, WritesBytes}
use Rattle.seq_arith.specs.Message.{Message}
use Rattle.ft_model.specs.Client.{Client}
use Rattle.ft_model.specs.Growth.{logged_lengths}
use Rattle.ft_model.specs.Keys.{has_key}
use Rattle.ft_model.specs.Log.{Log, Entry, log_after}
use Rattle.ft_model.specs.Network.{Packet}
use Rattle.ft_model.specs.Node.{Node, Place, Stage, Input}
use Rattle.ft_model.specs.Node.Input.{Packet_comes, Message_comes, Noise_comes, Tick_comes}
use Rattle.ft_model.specs.Node.Place.{Opens, Lives, Ended}
use Rattle.ft_model.specs.World.{World}
use Rattle.ft_model.specs.declared.event.Event.{Event}
use Rattle.ft_model.proofs.ClientKeys.{keys_in}
use Rattle.ft_model.proofs.FaithfulKept.{ClientFits}
use Rattle.ft_model.proofs.Grows.{log_grows, found_later}
use Rattle.ft_model.proofs.Happened.{IsBrought, happened, Happened}
use Rattle.ft_model.proofs.Happened.Happened.{log_received, client_received, client_moved, server_turned, server_booted, server_down}
use Rattle.ft_model.proofs.Lists.{all_weaker, all_append, all_map, all_of, all_find, all_slice_get, found_passes, none_is_some, some_is, same_key, or_cases}
use Rattle.ft_model.proofs.PlaceTurns.{all_flat}
use Rattle.ft_model.proofs.Running.{HasSmallOutputs}
use Rattle.long_laws.specs.Forgetting.{Named, ForgetMessage, ForgetAnswer, named_of, forget, answer_to_forget}
use Rattle.long_laws.specs.Forgetting.ForgetAnswer.{About_forgetting, Of_log}
use Rattle.long_laws.specs.LongTrace.{Gone, LongStep, LongWorld, MayPass, gone_with}
use Rattle.long_laws.specs.LongTrace.LongStep.{Joint_event, Recycles, Forgets, Arrives, Lets_go, Keeps_alive}
use Rattle.long_laws.specs.Quarantine.{Quarantined, quarantined_at, aged, is_leaving, named_in, proceeds_or_begins, quarantine_of, quarantine_after, forgets, early, taken_away}
use Rattle.long_laws.specs.QuarantineWorld.{QuarantineWorld, QuarantineStep, QuarantineMoment, QuarantineJoint, MayQuarantine, Usually, DropsSilently, event_input, step_input, quarantine_then, forgets_then, drops, is_full_input, is_by_message, recycled_by, recycled_world, with_answer, without_place, without_at, after_moments, seen}
use Rattle.long_laws.specs.QuarantineWorld.QuarantineStep.{Usual, To_log, To_node, Is_lost, Ends_early}
use Rattle.long_laws.specs.LongTrace.{places_at}
use Rattle.long_laws.proofs.ForgetLog.{forgotten_means_gone}
use Rattle.long_laws.proofs.Others.{all_others, all_filtered, find_others}
use Rattle.long_laws.proofs.QuarantineDone.{HasIt, begun_has}
use Rattle.long_laws.proofs.QuarantineEvents.{Went, went}
use Rattle.long_laws.proofs.QuarantineEvents.Went.{took_turn, was_elsewhere, has_booted, is_down}
use Rattle.long_laws.proofs.Stands.{Stands}
use Rattle.lasting_unseen.proofs.Guests.{among_map, among_filter}
use Rattle.lasting_unseen.proofs.Known.{numbered_is_there}
use Rattle.lasting_unseen.proofs.Parcels.{IsAmong, among_behind, among_before}
use Rattle.lasting_unseen.proofs.Peopled.{Peopled}
use Rattle.lasting_unseen.proofs.PeopledTraces.{peopled_after}

abbrev pub IsPastOf : Named → List Gone → Type 0
IsPastOf n past = (x : Gone) × IsAmong x past × (x.client.key ≡ n.key) × (x.client.isn ≡ n.cisn)

abbrev pub IsNamed : Log → List Gone → Named → Type 0
IsNamed log past n = HasIt n log ⊎ IsPastOf n past

pub record Names (q : QuarantineWorld) : Type 0 where
  pub held : AllByRecursion (λ x. IsNamed q.now.log q.past x.named) q.quarantine
  pub noted : AllByRecursion (λ m. IsNamed q.now.log q.past (named_of m.body)) q.notes

-- an entry stays as the log goes on
log_keeps : (log : Log) (message : Message) (n : Named) → HasIt n log → HasIt n (log_after log message)
log_keeps log message n h =
    let later = found_later n.key log.entries (log_after log message).entries h.0 (log_grows log message).entries h.1 in (later.0, later.1, later.2.cisn ∙ h.2, later.2.sisn ∙ h.3)

moment_keeps : {State : Type 0} (service : Machine State) (before : World) (sent : List Packet) (after : World) → Happened service before sent after → (n : Named) → HasIt n before.log → HasIt n after.log
moment_keeps service before sent after (log_received message under s e) n h = subst (λ w. HasIt n w.log) (sym e) (log_keeps before.log message n h)
moment_keeps service before sent after (client_received segment under s e) n h = subst (λ w. HasIt n w.log) (sym e) h
moment_keeps service before sent after (client_moved number m) n h = subst (λ w. HasIt n w.log) (sym m.after_is) h
moment_keeps service before sent after (server_turned input node later brought is turn e) n h = subst (λ w. HasIt n w.log) (sym e) h
moment_keeps service before sent after (server_booted boot isn down larger s e) n h = subst (λ w. HasIt n w.log) (sym e) h
moment_keeps service before sent after (server_down s e) n h = subst (λ w. HasIt n w.log) (sym e) h

module _ {State : Type 0} (service : Machine State) where
  step_keeps : (before after : LongWorld) (step : LongStep) (sent : List Packet) → is_by_message step ≡ false → MayPass service before step sent after → (n : Named) → HasIt n before.now.log → HasIt n after.now.log
  step_keeps before after (Joint_event event) sent b p n h =
      ⊎_elim (λ x. moment_keeps service before.now sent after.now x n h) (λ same. subst (λ w. HasIt n w.log) (sym same.1) h) (happened service before.now event sent after.now p.0)
  step_keeps before after (Recycles key) sent b p n h = absurd (true≢false b)
  step_keeps before after (Forgets key) sent b p n h = absurd (true≢false b)
  step_keeps before after (Arrives c) sent b p n h = subst (λ w. HasIt n w.log) (sym p.2) h
  step_keeps before after (Lets_go key) sent b p n h = subst (λ w. HasIt n w.log) (sym p.0.after_is) h
  step_keeps before after (Keeps_alive key) sent b p n h = subst (λ w. HasIt n w.log) (sym p.0.after_is) h

  past_stays : (before after : LongWorld) (step : LongStep) (sent : List Packet) → is_by_message step ≡ false → MayPass service before step sent after → after.past ≡ before.past
  past_stays before after (Joint_event event) sent b p = p.1
  past_stays before after (Recycles key) sent b p = absurd (true≢false b)
  past_stays before after (Forgets key) sent b p = absurd (true≢false b)
  past_stays before after (Arrives c) sent b p = p.3
  past_stays before after (Lets_go key) sent b p = p.1
  past_stays before after (Keeps_alive key) sent b p = p.1

  -- what comes to the server was brought
  brings : (before : World) (event : Event) (sent : List Packet) (after : World) (input : Input) (node : Node) → Went service before event sent after → event_input before event ≡ Some input
      → before.node ≡ Some node → IsBrought before input
  brings before event sent after input node (took_turn i m later at brought up turn is) e f = subst (IsBrought before) (some_is i input (sym at ∙ e)) brought
  brings before event sent after input node (was_elsewhere none x) e f = none_is_some input (sym none ∙ e)
  brings before event sent after input node (has_booted boot isn none down larger s is) e f = none_is_some input (sym none ∙ e)
  brings before event sent after input node (is_down why s is) e f = ⊎_elim (λ d. none_is_some node (sym d ∙ f)) (λ none. none_is_some input (sym none ∙ e)) why

  pub step_brings : (before after : LongWorld) (step : LongStep) (sent : List Packet) → MayPass service before step sent after → (input : Input) (node : Node) → step_input before.now step ≡ Some input
      → before.now.node ≡ Some node → IsBrought before.now input
  step_brings before after (Joint_event event) sent p input node e f = brings before.now event sent after.now input node (went service before.now event sent after.now p.0) e f
  step_brings before after (Recycles key) sent p input node e f = none_is_some input e
  step_brings before after (Forgets key) sent p input node e f = none_is_some input e
  step_brings before after (Arrives c) sent p input node e f = none_is_some input e
  step_brings before after (Lets_go key) sent p input node e f = none_is_some input e
  step_brings before after (Keeps_alive key) sent p input node e f = none_is_some input e

  -- a quarantine goes on, or begins
  module _ (P : Named → Type 0) (w : World) (o : Stands service w) (has : (n : Named) → HasIt n w.log → P n) (node : Node) (input : Input) (up : w.node ≡ Some node) (brought : IsBrought w input)
      (qs : List Quarantined) (all : AllByRecursion (λ x. P x.named) qs) where
    same_name : (i : Input) (q : Quarantined) → P q.named → P (aged i q).named
    same_name Tick_comes q p = p
    same_name (Packet_comes segment) q p = p
    same_name (Message_comes message) q p = p
    same_name Noise_comes q p = p

    one_goes : (key : Key) (q : Option Quarantined) (n : Option Named) → quarantined_at key qs ≡ q → named_in node input node.stage key ≡ n → AllByRecursion (λ x. P x.named) (proceeds_or_begins input q n)
    one_goes key (Some q) n found e = (same_name input q (all_find (λ x. P x.named) (λ x. key_eq x.named.key key) qs q all found), tt)
    one_goes key None (Some n) found e = (has n (begun_has service w o node input node.stage key n up brought refl e), tt)
    one_goes key None None found e = tt

    place_goes : (place : Place) → AllByRecursion (λ x. P x.named) (quarantine_of node input qs place)
    place_goes (Ended key) = one_goes key (quarantined_at key qs) (named_in node input node.stage key) refl refl
    place_goes (Lives p) = tt
    place_goes (Opens n timestamping) = tt

    pub quarantine_goes : (later : Stage) → AllByRecursion (λ x. P x.named) (quarantine_after node input later qs)
    quarantine_goes later = all_flat (λ place. Unit {0}) (λ x. P x.named) (quarantine_of node input qs) (places_at later) (λ place u. place_goes place) (all_of (λ place. Unit {0}) (places_at later) (λ place. tt))

  pub quarantine_kept : (P : Named → Type 0) (o : Option Node) (i : Option Input) (later : Option Node) (qs : List Quarantined) → AllByRecursion (λ x. P x.named) qs
      → ((node : Node) (input : Input) (stage : Stage) → o ≡ Some node → i ≡ Some input → AllByRecursion (λ x. P x.named) (quarantine_after node input stage qs))
      → AllByRecursion (λ x. P x.named) (quarantine_then o i later qs)
  quarantine_kept P (Some node) (Some input) (Some later) qs all f = f node input later.stage refl refl
  quarantine_kept P (Some node) None (Some later) qs all f = all
  quarantine_kept P (Some node) (Some input) None qs all f = tt
  quarantine_kept P (Some node) None None qs all f = tt
  quarantine_kept P None i later qs all f = tt

  sent_named : (P : Named → Type 0) (wait boot : ℕ) (i : Input) (qs : List Quarantined) → AllByRecursion (λ x. P x.named) qs → AllByRecursion (λ m. P (named_of m.body)) (forgets wait boot i qs)
  sent_named P wait boot Tick_comes qs all =
      all_map (λ m. P (named_of m.body)) (λ q. forget boot q.named) (filter (is_leaving wait) qs) (all_filtered (λ x. P x.named) (λ x. P x.named) (is_leaving wait) qs (λ q t p. p) all)
  sent_named P wait boot (Packet_comes segment) qs all = tt
  sent_named P wait boot (Message_comes message) qs all = tt
  sent_named P wait boot Noise_comes qs all = tt

  notes_kept : (P : Named → Type 0) (wait : ℕ) (o : Option Node) (i : Option Input) (qs : List Quarantined) → AllByRecursion (λ x. P x.named) qs → AllByRecursion (λ m. P (named_of m.body)) (forgets_then wait o i qs)
  notes_kept P wait (Some node) (Some input) qs all = sent_named P wait node.boot input qs all
  notes_kept P wait (Some node) None qs all = tt
  notes_kept P wait None i qs all = tt

  -- a step that a server without quarantine may take, too
  module _ (wait : ℕ) (before after : QuarantineWorld) (step : LongStep) (all : List Packet) (there : World) (o : Stands service before.now) (names : Names before) (free : is_by_message step ≡ false)
      (passes : MayPass service (seen before) step all (record { now = there; past = after.past })) (log : after.now.log ≡ there.log) where
    abbrev P : Named → Type 0
    P n = IsNamed after.now.log after.past n

    has_still : (n : Named) → HasIt n before.now.log → P n
    has_still n h = inl (subst (HasIt n) (sym log) (step_keeps (seen before) (record { now = there; past = after.past }) step all free passes n h))

    named_still : (n : Named) → IsNamed before.now.log before.past n → P n
    named_still n (inl h) = has_still n h
    named_still n (inr p) = inr (subst (IsPastOf n) (sym (past_stays (seen before) (record { now = there; past = after.past }) step all free passes)) p)

    still_held : AllByRecursion (λ x. P x.named) before.quarantine
    still_held = all_weaker (λ x. IsNamed before.now.log before.past x.named) (λ x. P x.named) before.quarantine (λ x p. named_still x.named p) names.held

    held_then : (node : Option Node) → AllByRecursion (λ x. P x.named) (quarantine_then before.now.node (step_input before.now step) node before.quarantine)
    held_then node =
        quarantine_kept P before.now.node (step_input before.now step) node before.quarantine still_held
        (λ m input stage up comes. quarantine_goes P before.now o has_still m input up (step_brings (seen before) (record { now = there; past = after.past }) step all passes input m comes up) before.quarantine still_held stage)

    names_then : (node : Option Node) (more : List ForgetMessage) → after.quarantine ≡ quarantine_then before.now.node (step_input before.now step) node before.quarantine → after.notes ≡ before.notes ++ more
        → AllByRecursion (λ m. P (named_of m.body)) more → Names after
    names_then node more qs notes a = record {
      held = subst (AllByRecursion (λ x. P x.named)) (sym qs) (held_then node);
      noted = subst (AllByRecursion (λ m. P (named_of m.body))) (sym notes)
          (all_append (λ m. P (named_of m.body)) before.notes more
          (all_weaker (λ m. IsNamed before.now.log before.past (named_of m.body)) (λ m. P (named_of m.body)) before.notes (λ m p. named_still (named_of m.body) p) names.noted) a);
    }

  usual_names : (wait : ℕ) (before after : QuarantineWorld) (step : LongStep) (sent : List Packet) → Stands service before.now → Names before → is_by_message step ≡ false → (dropped full : Bool)
      → MatchBool dropped ((sent ≡ []) × (after ≡ before)) (MatchBool full (DropsSilently service before step sent after) (Usually service wait before step sent after)) → Names after
  usual_names wait before after step sent o names free true full d = subst Names (sym d.1) names
  usual_names wait before after step sent o names free false false u =
      let held = held_then wait before after step sent after.now o names free u.passes refl after.now.node in
      names_then wait before after step sent after.now o names free u.passes refl after.now.node (forgets_then wait before.now.node (step_input before.now step) after.quarantine) u.quarantine u.notes
      (notes_kept (λ n. IsNamed after.now.log after.past n) wait before.now.node (step_input before.now step) after.quarantine (subst (AllByRecursion (λ x. IsNamed after.now.log after.past x.named)) (sym u.quarantine) held))
  usual_names wait before after step sent o names free false true d =
      names_then wait before after step d.all d.there o names free d.passes (ap (λ w. w.log) d.now_is) d.there.node [] d.quarantine (d.notes ∙ sym (append-nil before.notes)) tt

  -- a message about forgetting reaches the log
  module _ (q : QuarantineWorld) (o : Peopled service q.now) where
    pub client_at_key : (key : Key) (cs : List Client) → has_key key (keys_in cs) ≡ true → (c : Client) × IsAmong c cs × (key_eq c.key key ≡ true)
    client_at_key key [] h = absurd (true≢false (sym h))
    client_at_key key (c ∷ cs) h =
        ⊎_elim (λ t. (c, (zero, refl), t)) (λ t. let rest = client_at_key key cs t in (rest.0, (suc rest.1.0, rest.1.1), rest.2)) (or_cases (key_eq c.key key) (has_key key (keys_in cs)) h)

    -- the entry's client is past then
    becomes_past : (key : Key) (n : Named) → HasIt n q.now.log → key_eq n.key key ≡ true → IsPastOf n (q.past ++ gone_with (logged_lengths key q.now.log) (filter (λ c. key_eq c.key key) q.now.clients))
    becomes_past key n h t =
        let e : Entry = h.0 in
        let own : e.key ≡ n.key = same_key e.key n.key (found_passes (λ x. key_eq x.key n.key) q.now.log.entries e h.1) in
        let formed = all_find _ (λ x. key_eq x.key n.key) q.now.log.entries e o.formed.entries h.1 in
        let there = client_at_key key q.now.clients (o.there key (subst (λ k. has_key k (keys_in o.home.clients) ≡ true) (own ∙ same_key n.key key t) (numbered_is_there o.home.clients e.key formed.key.1))) in
        let c : Client = there.0 in
        let found = among_filter (λ x. key_eq x.key key) c q.now.clients there.1.0 there.1.1 there.2 in
        let fits = all_slice_get (ClientFits o.stands.script o.stands.isn) q.now.clients there.1.0 c o.stands.faithful.clients there.1.1 in
        let entry = all_find _ (λ x. key_eq x.key n.key) q.now.log.entries e o.stands.faithful.entries h.1 in
        let same : c.key ≡ n.key = same_key c.key key there.2 ∙ sym (same_key n.key key t) in (
          record { client = c; lengths = logged_lengths key q.now.log },
          among_behind (record { client = c; lengths = logged_lengths key q.now.log }) q.past (gone_with (logged_lengths key q.now.log) (filter (λ x. key_eq x.key key) q.now.clients))
              (found.0, among_map (λ x. record { client = x; lengths = logged_lengths key q.now.log }) c (filter (λ x. key_eq x.key key) q.now.clients) found.0 found.1),
          same,
          fits.1 ∙ (ap o.stands.isn (same ∙ sym own) ∙ (sym entry.cisn ∙ h.2)),
        )

    still_named : (r : Option Key) (n : Named) → IsNamed q.now.log q.past n → IsNamed (recycled_world r q).now.log (recycled_world r q).past n
    still_named None n p = p
    still_named (Some key) n (inr p) =
        inr (p.0, (p.1.0, among_before p.0 q.past (gone_with (logged_lengths key q.now.log) (filter (λ c. key_eq c.key key) q.now.clients)) p.1.0 p.1.1), p.2, p.3)
    still_named (Some key) n (inl h) =
        by_cases (key_eq n.key key) (λ t. inr (becomes_past key n h t)) (λ t. inl (h.0, find_others (λ x. x.key) key n.key q.now.log.entries t ∙ h.1, h.2, h.3))

    recycled_names : (r : Option Key) → Names q → Names (recycled_world r q)
    recycled_names None names = names
    recycled_names (Some key) names = record {
      held = all_weaker (λ x. IsNamed q.now.log q.past x.named) (λ x. IsNamed (recycled_world (Some key) q).now.log (recycled_world (Some key) q).past x.named) q.quarantine (λ x p. still_named (Some key) x.named p) names.held;
      noted = all_weaker (λ m. IsNamed q.now.log q.past (named_of m.body)) (λ m. IsNamed (recycled_world (Some key) q).now.log (recycled_world (Some key) q).past (named_of m.body)) q.notes
          (λ m p. still_named (Some key) (named_of m.body) p) names.noted;
    }

    answered_names : (a : Option ForgetAnswer) (v : QuarantineWorld) → Names v → ((answer : ForgetMessage) → a ≡ Some (About_forgetting answer) → IsNamed v.now.log v.past (named_of answer.body)) → Names (with_answer a v)
    answered_names None v names f = names
    answered_names (Some (Of_log answer)) v names f = record { held = names.held; noted = names.noted }
    answered_names (Some (About_forgetting answer)) v names f = record {
      held = names.held;
      noted = all_append (λ m. IsNamed v.now.log v.past (named_of m.body)) v.notes (answer ∷ []) names.noted (f answer refl, tt);
    }

    to_log_names : (number : ℕ) (message : ForgetMessage) → slice_get q.notes number ≡ Some message → Names q
        → Names (with_answer (answer_to_forget q.now.log message) (recycled_world (recycled_by message q.now.log) q))
    to_log_names number message at names =
        answered_names (answer_to_forget q.now.log message) (recycled_world (recycled_by message q.now.log) q) (recycled_names (recycled_by message q.now.log) names)
        (λ answer e. let said = forgotten_means_gone q.now.log message answer e in
        let own = all_slice_get (λ m. IsNamed q.now.log q.past (named_of m.body)) q.notes number message names.noted at in
        subst (λ m. IsNamed (recycled_world (recycled_by message q.now.log) q).now.log (recycled_world (recycled_by message q.now.log) q).past (named_of m.body)) (sym said.2)
        (still_named (recycled_by message q.now.log) said.0 (subst (λ m. IsNamed q.now.log q.past (named_of m.body)) said.1 own)))

  placed_names : (r : Option Key) (q : QuarantineWorld) → Names q → Names (without_place r q)
  placed_names None q names = names
  placed_names (Some key) q names = record {
    held = all_others (λ x. IsNamed q.now.log q.past x.named) (λ x. IsNamed q.now.log q.past x.named) (λ x. key_eq x.named.key key) q.quarantine (λ x t p. p) names.held;
    noted = names.noted;
  }

  pub lost_names : {A : Type 0} (R : A → Type 0) (number : ℕ) (xs : List A) → AllByRecursion R xs → AllByRecursion R (without_at number xs)
  lost_names R number [] a = tt
  lost_names R zero (x ∷ xs) a = a.1
  lost_names R (suc number) (x ∷ xs) a = (a.0, lost_names R number xs a.1)

  moment_names : (wait : ℕ) (before after : QuarantineWorld) (step : QuarantineStep) (sent : List Packet) → Peopled service before.now → Names before → MayQuarantine service wait before step sent after → Names after
  moment_names wait before after (Usual step) sent o names (free, d) =
      usual_names wait before after step sent o.stands names free (drops wait before.now.node (step_input before.now step) before.quarantine) (is_full_input (step_input before.now step)) d
  moment_names wait before after (To_log number) sent o names (message, at, s, is) = subst Names (sym is) (to_log_names before o number message at names)
  moment_names wait before after (To_node number) sent o names (message, at, s, is) = subst Names (sym is) (placed_names (taken_away before.now.node message before.quarantine) before names)
  moment_names wait before after (Is_lost number) sent o names (s, is) =
      subst Names (sym is) (record { held = names.held; noted = lost_names (λ m. IsNamed before.now.log before.past (named_of m.body)) number before.notes names.noted })
  moment_names wait before after (Ends_early key) sent o names (s, e) =
      subst Names (sym e.after_is)
      (record {
        held = all_map (λ x. IsNamed before.now.log before.past x.named) (early wait key) before.quarantine
            (all_weaker (λ x. IsNamed before.now.log before.past x.named) (λ x. IsNamed before.now.log before.past (early wait key x).named) before.quarantine
            (λ x p. holds_if (λ y. IsNamed before.now.log before.past y.named) (key_eq x.named.key key) (record x { age = max wait x.age }) x (λ t. p) (λ t. p)) names.held);
        noted = all_append (λ m. IsNamed before.now.log before.past (named_of m.body)) before.notes (forget e.node.boot e.quarantined.named ∷ []) names.noted
            (all_find (λ x. IsNamed before.now.log before.past x.named) (λ x. key_eq x.named.key key) before.quarantine e.quarantined names.held e.found, tt);
      })

  pub names_after : HasSmallOutputs service → WritesBytes service → (wait : ℕ) (start : World) (trace : List QuarantineMoment) → QuarantineJoint service wait start trace → Names (after_moments start trace)
  names_after small writes wait start [] j = record { held = tt; noted = tt }
  names_after small writes wait start (m ∷ earlier) j =
      moment_names wait (after_moments start earlier) m.world m.step m.sent (peopled_after service small writes wait start earlier j.0) (names_after small writes wait start earlier j.0) j.1
