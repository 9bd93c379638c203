-- Every legal trace of a schedule whose server lasts is one of a world with a quarantine, and unseen.
use Rattle.std.proofs.Common.{◌≡◌, ℕ, suc, ◌≤ℤ◌, pos, Bool, true, false, true≢false, nat_le, leb-false, refl, sym, ap, ◌∙◌, subst, option_map, is_some, Option, Some, None, List, [], ◌∷◌, map, if◌then◌else◌}
use Rattle.std.specs.List.{AllByRecursion}
use Rattle.ft_io.specs.declared.Key.{Key}
use Rattle.server_trait.specs.Service.{Machine, WritesBytes}
use Rattle.seq_arith.specs.Packet.{Segment}
use Rattle.ft_model.specs.Client.{Client}
use Rattle.ft_model.specs.Keys.{AreDistinct}
use Rattle.ft_io.specs.Key.{key_eq}
use Rattle.ft_model.specs.Offset.{ack_of}
use Rattle.ft_model.specs.Growth.{logged_units}
use Rattle.ft_model.specs.Masked.{SeesFront, AcknowledgesLogged, RestartIsExact}
use Rattle.ft_model.specs.Network.{Packet, destination_of}
use Rattle.ft_model.specs.Network.Packet.{To_server, To_client, To_logger, From_logger}
use Rattle.ft_model.specs.Lawful.{IsNearInput, IsSoundInput, fence}
use Rattle.ft_model.specs.Node.{Node, Stage, Input, key_of, place_at}
use Rattle.ft_model.specs.Node.Input.{Packet_comes, Message_comes, Noise_comes, Tick_comes}
use Rattle.ft_model.specs.Node.Place.{Lives}
use Rattle.ft_model.specs.Point.{Point}
use Rattle.trace_laws.specs.Premises.{HasSoundFronts}
use Rattle.ft_model.specs.Node.Stage.{Asking, Fetching, Serving, Fenced}
use Rattle.ft_model.specs.Playable.{IsPlayable}
use Rattle.ft_model.specs.Readable.{FitsEvent}
use Rattle.ft_model.specs.World.{World, MayCome}
use Rattle.ft_model.specs.declared.event.Event.{Event}
use Rattle.ft_model.specs.declared.event.Event.TheVariants.{Boot, Crash, Tick, Deliver, Flip, Begin, Send, Fin, Ack, Reset, Stop}
use Rattle.ft_model.specs.declared.event.EventWhy.TheVariants as why
use Rattle.ft_model.specs.declared.schedule.Lasting.{Lasting}
use Rattle.ft_model.specs.declared.schedule.Schedule.{Schedule}
use Rattle.ft_model.proofs.Distinct.{StageDistinct}
use Rattle.ft_model.proofs.Lists.{all_weaker, all_front, none_is_some}
use Rattle.ft_model.proofs.Running.{HasSmallOutputs}
use Rattle.ft_model.proofs.SomeOutcome.{is_up}
use Rattle.ft_model.specs.Log.{log_after}
use Rattle.long_laws.specs.Forgetting.{after_forget}
use Rattle.long_laws.specs.LongTrace.{Gone, SawFront, IsMaskedMoment, places_at, last_rst}
use Rattle.long_laws.specs.ForgetGrammar.{IsSpellable}
use Rattle.long_laws.specs.QuarantineWorld.{QuarantineMoment, QuarantineJoint, recycled_by, after_moments, IsHeld, AllAreHeld}
use Rattle.long_laws.proofs.LongPremises.{scripted_near, let_go_near, input_sound, no_fence}
use Rattle.long_laws.proofs.Premised.{Premised}
use Rattle.long_laws.proofs.QuarantineMessages.{KeepsAll}
use Rattle.long_laws.proofs.QuarantineTraces.{Followed, follows}
use Rattle.long_laws.proofs.QuarantineWhole.{all_held}
use Rattle.long_laws.proofs.Stands.{Stands, sees_front, all_reported}
use Rattle.lasting_laws.specs.LastingLegal.{LastingJoint, lasting_start, lasting_refusal, lasting_events_of, patience_of}
use Rattle.lasting_laws.specs.LastingTurn.{LastingNode, booted_to_last}
use Rattle.lasting_laws.specs.LastingTurn.LastingInput.{Usual_comes, Forget_comes}
use Rattle.lasting_laws.specs.LastingWorld.{Parcel, LastingWorld, LastingMoment, LastingHappens, ParcelComes, ServerMoves, Unless, with_sent, with_recycled, sent_at, lasting_after}
use Rattle.lasting_laws.specs.LastingWorld.{Parcel as parcels}
use Rattle.lasting_laws.specs.LastingUnseen.{AreUnseen, those_there, usual}
use Rattle.lasting_laws.specs.LastingUnseen as unseen
use Rattle.lasting_unseen.specs.Mirror.{OpensFreshly, AllOpenFreshly, MayStillCome, notes_under_way, quarantine_in, mirrored}
use Rattle.lasting_unseen.proofs.Begins.{empty_start, empty_starts, guested_at_start}
use Rattle.lasting_unseen.proofs.Fresh.{Differ, opens_fresh}
use Rattle.lasting_unseen.proofs.Flips.{NoiseKeeps, server_shows, flip_shows}
use Rattle.lasting_unseen.proofs.Forgets.{forget_shows, forgotten_shows}
use Rattle.lasting_unseen.proofs.Guests.{Guested, of_those_there, of_those_gone}
use Rattle.lasting_unseen.proofs.GuestsNames.{Identified, identity}
use Rattle.lasting_unseen.proofs.InOrder.{IsInOrder, all_in_order, noise_in_order}
use Rattle.lasting_unseen.proofs.Leads.{Passes, onto, goes_on, acknowledged, exactly}
use Rattle.lasting_unseen.proofs.Moves.{guest_shows}
use Rattle.lasting_unseen.proofs.Names.{Names, names_after}
use Rattle.lasting_unseen.proofs.Parcels.{packet_there}
use Rattle.lasting_unseen.proofs.Peopled.{Peopled}
use Rattle.lasting_unseen.proofs.PeopledTraces.{peopled_after, premised_after}
use Rattle.lasting_unseen.proofs.Shows.{Shows, nothing_shows, client_shows, log_shows, boot_shows, crash_shows}
use Rattle.lasting_unseen.proofs.Spelled.{spelled_after}
use Rattle.lasting_unseen.proofs.Turns.{turn_shows, tick_shows, message_fresh}

apart_at : (stage : Stage) → StageDistinct stage → AreDistinct (map key_of (places_at stage))
apart_at (Serving opened places) d = d
apart_at Asking d = tt
apart_at (Fetching count fetched) d = tt
apart_at (Fenced newer) d = tt

module _ {State : Type 0} (service : Machine State) (w : LastingWorld) (clients : List Client) (past : List Gone) (o : Guested w.server w.guests clients past)
    (peopled : Peopled service (mirrored w clients past).now) (keeps : NoiseKeeps w.node) (spelled : AllByRecursion IsSpellable (notes_under_way w.sent)) where
  packet_shows : (number : ℕ) (segment : Segment) (sent : List Parcel) (after : LastingWorld) → sent_at w.sent number ≡ Some (record { parcel = parcels.Usual (To_server segment); lost = false })
      → OpensFreshly w (Deliver number) → ServerMoves service (Usual_comes (Packet_comes segment)) w sent after → Shows service w clients past sent after
  packet_shows number segment sent after at fresh moves =
      server_shows service w clients past o (Usual_comes (Packet_comes segment)) sent after
      (λ n up later out turn. turn_shows service w clients past n up (To_server segment) (Packet_comes segment) number later out o at refl (fresh n segment up at) turn) moves

  parcel_shows : (number : ℕ) (parcel : Parcel) (sent : List Parcel) (after : LastingWorld) → sent_at w.sent number ≡ Some (record { parcel = parcel; lost = false }) → OpensFreshly w (Deliver number)
      → ParcelComes service parcel w sent after → Shows service w clients past sent after
  parcel_shows number (parcels.Usual (To_server segment)) sent after at fresh c = packet_shows number segment sent after at fresh c
  parcel_shows number (parcels.Usual (To_client segment)) sent after at fresh c =
      subst (λ l. Shows service w clients past l after) (sym c.0) (subst (Shows service w clients past []) (sym c.1) (client_shows service w clients past number segment o at))
  parcel_shows number (parcels.Usual (To_logger message)) sent after at fresh c =
      subst (λ l. Shows service w clients past l after) (sym c.0)
      (subst (Shows service w clients past _) (sym (c.1 ∙ ap (λ l. with_sent l (record w { log = log_after w.log message })) c.0)) (log_shows service w clients past number message o at))
  parcel_shows number (parcels.Usual (From_logger message)) sent after at fresh c =
      server_shows service w clients past o (Usual_comes (Message_comes message)) sent after
      (λ n up later out turn. turn_shows service w clients past n up (From_logger message) (Message_comes message) number later out o at refl (message_fresh _ n.node message n.node.stage) turn) c
  parcel_shows number (parcels.Forget_sent message) sent after at fresh c =
      subst (λ l. Shows service w clients past l after) (sym c.0)
      (subst (Shows service w clients past _) (sym (c.1 ∙ ap (λ l. with_sent l (record (with_recycled (recycled_by message w.log) w) { log = after_forget w.log message })) c.0)) (forget_shows service w clients past message peopled.stands.asked.distinct number o at))
  parcel_shows number (parcels.Forgotten_sent message) sent after at fresh c =
      server_shows service w clients past o (Forget_comes message) sent after (λ n up later out turn. forgotten_shows service w clients past n up message number later out o at turn) c

  delivery_shows : (number : ℕ) (parcel : Parcel) (lost : Bool) (sent : List Parcel) (after : LastingWorld) → sent_at w.sent number ≡ Some (record { parcel = parcel; lost = lost }) → OpensFreshly w (Deliver number)
      → Unless lost (ParcelComes service parcel) w sent after → Shows service w clients past sent after
  delivery_shows number parcel true sent after at fresh c =
      subst (λ l. Shows service w clients past l after) (sym c.0) (subst (Shows service w clients past []) (sym c.1) (nothing_shows service w clients past o))
  delivery_shows number parcel false sent after at fresh c = parcel_shows number parcel sent after at fresh c

  tick_at : (n : LastingNode) → w.node ≡ Some n → AreDistinct (map key_of (places_at n.node.stage))
  tick_at n up = apart_at n.node.stage (peopled.stands.distinct n.node (ap (option_map (λ x. x.node)) up))

  -- a server boots that isn't up, with a new number
  boot_free : (a b : Bool) → (if a then Some why.Up else (if b then Some why.Boot else None)) ≡ None → (a ≡ false) × (b ≡ false)
  boot_free true b e = none_is_some why.Up (sym e)
  boot_free false true e = none_is_some why.Boot (sym e)
  boot_free false false e = (refl, refl)

  none_of : {A : Type 0} (x : Option A) → is_some x ≡ false → x ≡ None
  none_of None e = refl
  none_of (Some x) e = absurd (true≢false e)

  pub event_shows : (event : Event) (sent : List Parcel) (after : LastingWorld) → FitsEvent event → OpensFreshly w event → lasting_refusal w event ≡ None
      → LastingHappens service w event sent after → Shows service w clients past sent after
  event_shows (Boot boot isn) sent after fits fresh free h =
      let parts = boot_free (is_some w.node) (nat_le boot w.boot) free in
      subst (λ l. Shows service w clients past l after) (sym h.0)
      (subst (Shows service w clients past _) (sym (h.1 ∙ ap (λ l. with_sent l (record w { boot = boot; node = Some (booted_to_last w.server w.profile boot isn) })) h.0)) (boot_shows service w clients past boot isn o (none_of w.node parts.0) (leb-false boot w.boot parts.1, fits.0)))
  event_shows Crash sent after fits fresh free h =
      subst (λ l. Shows service w clients past l after) (sym h.0)
      (subst (Shows service w clients past []) (sym h.1) (crash_shows service w clients past o (is_up (is_some w.node) free)))
  event_shows Tick sent after fits fresh free h =
      server_shows service w clients past o (Usual_comes Tick_comes) sent after (λ n up later out turn. tick_shows service w clients past n up later out o (tick_at n up) turn) h
  event_shows (Deliver number) sent after fits fresh free (s, at, c) = delivery_shows number s.parcel s.lost sent after at fresh c
  event_shows (Flip number bit) sent after fits fresh free h = flip_shows service w clients past o keeps peopled spelled number bit sent after free h
  event_shows (Begin client window) sent after fits fresh free h = guest_shows service w clients past (Begin client window) sent after o peopled fits free h
  event_shows (Send client from len) sent after fits fresh free h = guest_shows service w clients past (Send client from len) sent after o peopled fits free h
  event_shows (Fin client) sent after fits fresh free h = guest_shows service w clients past (Fin client) sent after o peopled fits free h
  event_shows (Ack client window) sent after fits fresh free h = guest_shows service w clients past (Ack client window) sent after o peopled fits free h
  event_shows (Reset client) sent after fits fresh free h = guest_shows service w clients past (Reset client) sent after o peopled fits free h
  event_shows (Stop part) sent after fits fresh free h = absurd h

-- A trace

module _ {State : Type 0} (service : Machine State) (small : HasSmallOutputs service) (writes : WritesBytes service) (waits : Lasting) (schedule : Schedule) (playable : IsPlayable schedule) where
  abbrev start : LastingWorld
  start = lasting_start waits schedule

  abbrev begun : World
  begun = empty_start schedule

  -- the trace with a quarantine that goes with it
  pub record Mirrors (trace : List LastingMoment) : Type 0 where
    pub clients : List Client
    pub past : List Gone
    pub moments : List QuarantineMoment
    pub joint : QuarantineJoint service waits.wait begun moments
    pub is : after_moments begun moments ≡ mirrored (lasting_after start trace) clients past
    pub guested : Guested (lasting_after start trace).server (lasting_after start trace).guests clients past
    pub patience : (lasting_after start trace).patience ≡ patience_of waits
    pub identified : Identified (lasting_after start trace).guests clients past
    pub identities : map identity (lasting_after start trace).guests ≡ map identity start.guests

  pub peopled_in : (trace : List LastingMoment) → (m : Mirrors trace) → Peopled service (mirrored (lasting_after start trace) m.clients m.past).now
  peopled_in trace m = subst (λ q. Peopled service q.now) m.is (peopled_after service small writes waits.wait begun m.moments m.joint)

  keeps_in : (trace : List LastingMoment) → (m : Mirrors trace) → NoiseKeeps (lasting_after start trace).node
  keeps_in trace m = λ n up.
      let o : Option Node = option_map (λ x. x.node) (lasting_after start trace).node in
      let there : o ≡ Some n.node = ap (option_map (λ x. x.node)) up in
      let qs : quarantine_in (lasting_after start trace).node ≡ n.quarantine = ap quarantine_in up in
      let order : IsInOrder o n.quarantine =
      subst (IsInOrder o) qs (subst (λ q. IsInOrder q.now.node q.quarantine) m.is (all_in_order service small waits.wait begun m.moments m.joint)) in
      let held : AllByRecursion (IsHeld (quarantine_in (lasting_after start trace).node)) (places_at n.node.stage) =
      subst AllAreHeld m.is (all_held service small waits.wait begun m.moments m.joint) n.node there in
      noise_in_order n.node n.quarantine (order n.node there) (subst (λ l. AllByRecursion (IsHeld l) (places_at n.node.stage)) qs held)

  pub spelled_in : (trace : List LastingMoment) → (m : Mirrors trace) → AllByRecursion IsSpellable (notes_under_way (lasting_after start trace).sent)
  spelled_in trace m = subst (λ q. AllByRecursion IsSpellable q.notes) m.is (spelled_after service small writes waits.wait begun m.moments m.joint)

  shows_next : (moment : LastingMoment) (earlier : List LastingMoment) → (m : Mirrors earlier) → FitsEvent moment.event → OpensFreshly (lasting_after start earlier) moment.event
      → lasting_refusal (lasting_after start earlier) moment.event ≡ None → LastingHappens service (lasting_after start earlier) moment.event moment.parcels moment.world
      → Shows service (lasting_after start earlier) m.clients m.past moment.parcels moment.world
  shows_next moment earlier m fits fresh free h =
      event_shows service (lasting_after start earlier) m.clients m.past m.guested (peopled_in earlier m) (keeps_in earlier m) (spelled_in earlier m) moment.event moment.parcels moment.world fits fresh free h

  passes_next : (moment : LastingMoment) (earlier : List LastingMoment) → (m : Mirrors earlier) → (s : Shows service (lasting_after start earlier) m.clients m.past moment.parcels moment.world)
      → Passes service waits.wait (after_moments begun m.moments) (usual moment.parcels) (mirrored moment.world s.later s.gone)
  passes_next moment earlier m s =
      subst (λ q. Passes service waits.wait q (usual moment.parcels) (mirrored moment.world s.later s.gone)) (sym m.is)
      (subst (λ n. Passes service n (mirrored (lasting_after start earlier) m.clients m.past) (usual moment.parcels) (mirrored moment.world s.later s.gone)) (ap (λ p. p.wait) m.patience) s.passes)

  next : (moment : LastingMoment) (earlier : List LastingMoment) → (m : Mirrors earlier) → Shows service (lasting_after start earlier) m.clients m.past moment.parcels moment.world → Mirrors (moment ∷ earlier)
  next moment earlier m s =
      let p = passes_next moment earlier m s in
      let j = goes_on service waits.wait begun p.moments m.moments (mirrored moment.world s.later s.gone) m.joint p.leads in
      record { clients = s.later; past = s.gone; moments = onto p.moments m.moments; joint = j.0; is = j.1; guested = s.guested; patience = s.patience ∙ m.patience; identified = s.identified m.identified; identities = s.identities ∙ m.identities }

  -- what is seen after a moment
  masked : (moment : LastingMoment) (earlier : List LastingMoment) → (m : Mirrors earlier) → (s : Shows service (lasting_after start earlier) m.clients m.past moment.parcels moment.world)
      → IsMaskedMoment service (unseen.seen (lasting_after start earlier)).now (usual moment.parcels) (unseen.seen moment.world)
  masked moment earlier m s =
      let p = passes_next moment earlier m s in
      let n : Mirrors (moment ∷ earlier) = next moment earlier m s in
      let f : Followed service small waits.wait begun n.moments = follows service small waits.wait begun n.moments n.joint in
      let stands : Stands service (mirrored moment.world n.clients n.past).now = subst (λ q. Stands service q.now) n.is f.stands in
      let acks : AllByRecursion (AcknowledgesLogged moment.world.log s.later) (usual moment.parcels) =
      subst (AllByRecursion (AcknowledgesLogged moment.world.log s.later)) p.sent_is
      (acknowledged service waits.wait begun small p.moments m.moments (mirrored moment.world s.later s.gone) moment.world.log s.later m.joint p.leads p.in_view) in
      record {
        clients = of_those_there (SeesFront service moment.world.log) n.clients moment.world.guests (sees_front service (mirrored moment.world n.clients n.past).now stands) n.guested.here;
        past = of_those_gone (SawFront service) n.past moment.world.guests (subst (λ q. AllByRecursion (SawFront service) q.past) n.is f.saw) n.guested.gone;
        acknowledged = all_weaker (AcknowledgesLogged moment.world.log s.later) (AcknowledgesLogged moment.world.log (those_there moment.world.guests)) (usual moment.parcels) (λ packet a. fewer packet a) acks;
        restart = subst (λ o. RestartIsExact service moment.world.log o (option_map (λ x. x.node) moment.world.node)) (ap (λ q. q.now.node) m.is)
            (exactly service waits.wait begun small m.moments (usual moment.parcels) (mirrored moment.world s.later s.gone) m.joint p);
        reported = all_reported service (mirrored moment.world n.clients n.past).now stands;
      }
    where
      fewer : (packet : Packet) → AcknowledgesLogged moment.world.log s.later packet → AcknowledgesLogged moment.world.log (those_there moment.world.guests) packet
      fewer (To_client segment) a = λ ack rst. of_those_there (λ c. key_eq (destination_of segment) c.key ≡ true → ack_of c.isn segment ≤ℤ pos (logged_units c.key moment.world.log)) s.later moment.world.guests (a ack rst) s.guested.here
      fewer (To_server segment) a = tt
      fewer (To_logger message) a = tt
      fewer (From_logger message) a = tt

  pub mirrors : (trace : List LastingMoment) → LastingJoint service start trace → AllByRecursion (λ m. FitsEvent m.event) trace → AllOpenFreshly start trace → Mirrors trace
  mirrors [] j fits fresh = record { clients = []; past = []; moments = []; joint = empty_starts schedule playable; is = refl; guested = guested_at_start waits schedule playable; patience = refl; identified = record { here = tt; gone = tt }; identities = refl }
  mirrors (moment ∷ earlier) j fits fresh =
      let m : Mirrors earlier = mirrors earlier j.0 fits.1 fresh.0 in
      next moment earlier m (shows_next moment earlier m fits.0 fresh.1 j.1 j.2)

  pub all_unseen : (trace : List LastingMoment) → LastingJoint service start trace → AllByRecursion (λ m. FitsEvent m.event) trace → AllOpenFreshly start trace → AreUnseen service start trace
  all_unseen [] j fits fresh = tt
  all_unseen (moment ∷ earlier) j fits fresh =
      let m : Mirrors earlier = mirrors earlier j.0 fits.1 fresh.0 in
      (all_unseen earlier j.0 fits.1 fresh.0, masked moment earlier m (shows_next moment earlier m fits.0 fresh.1 j.1 j.2))

  -- the events of a trace fit if those of the schedule do
  pub events_fit : (trace : List LastingMoment) → AllByRecursion FitsEvent (lasting_events_of trace) → AllByRecursion (λ m. FitsEvent m.event) trace
  events_fit [] a = tt
  events_fit (moment ∷ earlier) a =
      let parts = all_front FitsEvent (lasting_events_of earlier) moment.event a in (parts.1, events_fit earlier parts.0)

  -- The premises of the server's turns

  module _ (trace : List LastingMoment) (m : Mirrors trace) where
    abbrev last : LastingWorld
    last = lasting_after start trace

    premised : Premised service (mirrored last m.clients m.past).now
    premised = subst (λ q. Premised service q.now) m.is (premised_after service small writes waits.wait begun m.moments m.joint)

    comes : (input : Input) → MayStillCome last input → MayCome (mirrored last m.clients m.past).now input
    comes (Packet_comes segment) c = let there = packet_there last.sent c.0 (To_server segment) c.1 in (suc there.0, there.1)
    comes (Message_comes message) c = let there = packet_there last.sent c.0 (From_logger message) c.1 in (suc there.0, there.1)
    comes Noise_comes c = tt
    comes Tick_comes c = tt

    module _ (n : LastingNode) (up : last.node ≡ Some n) where
      is_up_there : (mirrored last m.clients m.past).now.node ≡ Some n.node
      is_up_there = ap (option_map (λ x. x.node)) up

      pub is_near : (input : Input) → MayStillCome last input → IsNearInput n.node.server input n.node.stage
      is_near input c = scripted_near service (mirrored last m.clients m.past).now n.node input premised is_up_there (comes input c) m.guested.scripted

      pub is_let_go_near : (key : Key) (p : Point) → place_at key (places_at n.node.stage) ≡ Some (Lives p) → IsNearInput n.node.server (Packet_comes (last_rst n.node.server p)) n.node.stage
      is_let_go_near key p lives = let_go_near service (mirrored last m.clients m.past).now n.node key p premised is_up_there lives

      pub is_sound : (input : Input) → MayStillCome last input → IsSoundInput service n.node input n.node.stage × HasSoundFronts service n.node input n.node.stage
      is_sound input c = input_sound service (mirrored last m.clients m.past).now n.node input premised is_up_there (comes input c)

      pub is_unfenced : (input : Input) → MayStillCome last input → fence n.node input ≡ None
      is_unfenced input c = no_fence service (mirrored last m.clients m.past).now n.node input premised is_up_there (comes input c)

  -- Where clients of one address have different numbers, every opening is fresh

  fresh_next : (trace : List LastingMoment) (m : Mirrors trace) → Differ (map identity start.guests) → (event : Event) → OpensFreshly (lasting_after start trace) event
  fresh_next trace m differ (Deliver number) = λ n segment up at.
      let w : LastingWorld = lasting_after start trace in
      let f : Followed service small waits.wait begun m.moments = follows service small waits.wait begun m.moments m.joint in
      let kept : KeepsAll (mirrored w m.clients m.past) = subst KeepsAll m.is f.kept in
      let names : Names (mirrored w m.clients m.past) = subst Names m.is (names_after service small writes waits.wait begun m.moments m.joint) in
      opens_fresh service (mirrored w m.clients m.past).now (peopled_in trace m) m.past w.guests m.identified (subst Differ (sym m.identities) differ) n.node segment
      (packet_there w.sent number (To_server segment) at) (notes_under_way w.sent) (kept.holds n.node (ap (option_map (λ x. x.node)) up)) names.noted
  fresh_next trace m differ (Boot boot isn) = tt
  fresh_next trace m differ Crash = tt
  fresh_next trace m differ Tick = tt
  fresh_next trace m differ (Flip number bit) = tt
  fresh_next trace m differ (Begin client window) = tt
  fresh_next trace m differ (Send client from len) = tt
  fresh_next trace m differ (Fin client) = tt
  fresh_next trace m differ (Ack client window) = tt
  fresh_next trace m differ (Reset client) = tt
  fresh_next trace m differ (Stop part) = tt

  pub all_open_freshly : Differ (map identity start.guests) → (trace : List LastingMoment) → LastingJoint service start trace → AllByRecursion (λ m. FitsEvent m.event) trace
      → AllOpenFreshly start trace
  all_open_freshly differ [] j fits = tt
  all_open_freshly differ (moment ∷ earlier) j fits =
      let fresh : AllOpenFreshly start earlier = all_open_freshly differ earlier j.0 fits.1 in (fresh, fresh_next earlier (mirrors earlier j.0 fits.1 fresh) differ moment.event)
