-- A turn of the server, and a tick, in the world with a quarantine.
use Rattle.std.proofs.Common.{◌≡◌, inr, ℕ, suc, true, false, true≢false, refl, sym, ap, ◌∙◌, subst, option_map, Some, List, [], ◌∷◌, ◌++◌, map}
use Rattle.std.specs.List.{AllByRecursion}
use Rattle.ft_io.specs.declared.Key.{Key}
use Rattle.server_trait.specs.Service.{Machine}
use Rattle.seq_arith.specs.Message.{Message}
use Rattle.ft_model.specs.Client.{Client}
use Rattle.ft_model.specs.Keys.{AreDistinct}
use Rattle.ft_model.specs.Lawful.{StageTurn}
use Rattle.ft_model.specs.Log.{Log}
use Rattle.ft_model.specs.Masked.{RestartIsExact, Resumes, is_restarting}
use Rattle.ft_model.specs.Network.{Packet}
use Rattle.ft_model.specs.Node.{Node, Stage, Input, key_of}
use Rattle.ft_model.specs.Node.Input.{Message_comes, Tick_comes}
use Rattle.ft_model.specs.Node.Stage.{Asking, Fetching, Serving, Fenced}
use Rattle.long_laws.specs.Forgetting.{ForgetMessage}
use Rattle.long_laws.specs.LongTrace.{Gone, places_at}
use Rattle.long_laws.specs.QuarantineWorld.{QuarantineWorld, QuarantineMoment, arriving, new_places, IsFresh}
use Rattle.long_laws.proofs.QuarantineKept.{all_fresh}
use Rattle.lasting_laws.specs.AsMoments.{IsServerOf, world_then, OpensFresh, GoesBy, AreMoments}
use Rattle.lasting_laws.specs.LastingTurn.{LastingNode, LastingSent, LastingTurn, TicksLasting, TendsAll, after_turn}
use Rattle.lasting_laws.specs.LastingTurn.LastingInput.{Usual_comes}
use Rattle.lasting_laws.specs.LastingWorld.{LastingWorld, parcels_of, with_sent, sent_at}
use Rattle.lasting_laws.specs.LastingWorld.{Parcel as parcels}
use Rattle.lasting_laws.specs.Watching.{Watch}
use Rattle.lasting_laws.specs.LastingUnseen.{still_under_way}
use Rattle.lasting_laws.proofs.Moments.{one_moment}
use Rattle.lasting_laws.proofs.Ticks.{tick_moments}
use Rattle.lasting_unseen.specs.Mirror.{notes_under_way, quarantine_in, mirrored}
use Rattle.lasting_unseen.proofs.Guests.{Guested}
use Rattle.lasting_unseen.proofs.Leads.{Leads, SentInView, Passes, one_passes}
use Rattle.lasting_unseen.proofs.Parcels.{packets_more, notes_more, packet_there, usual_sent, notes_sent}
use Rattle.lasting_unseen.proofs.Shows.{Shows}

-- a message opens nothing
pub message_fresh : (notes : List ForgetMessage) (node : Node) (message : Message) (stage : Stage) → AllByRecursion (IsFresh node.boot (new_places node (Message_comes message) stage)) notes
message_fresh notes node message (Serving opened places) = all_fresh node.boot notes
message_fresh notes node message Asking = all_fresh node.boot notes
message_fresh notes node message (Fetching count fetched) = all_fresh node.boot notes
message_fresh notes node message (Fenced newer) = all_fresh node.boot notes

module _ {State : Type 0} (service : Machine State) (w : LastingWorld) (clients : List Client) (past : List Gone) (n : LastingNode) (up : w.node ≡ Some n) where
  abbrev here : QuarantineWorld
  here = mirrored w clients past

  abbrev pub turned : LastingNode → LastingSent → LastingWorld
  turned later out = with_sent (parcels_of out) (record w { node = Some later })

  pub own : IsServerOf n here
  own = record { up = ap (option_map (λ x. x.node)) up; quarantine = ap quarantine_in up }

  -- the world after a turn
  pub turned_is : (later : LastingNode) (out : LastingSent) → mirrored (turned later out) clients past ≡ world_then later out here
  turned_is later out =
      let packets : still_under_way (turned later out).sent ≡ here.now.packets ++ out.packets =
      packets_more w.sent (parcels_of out) ∙ ap (λ l. here.now.packets ++ l) (usual_sent out.packets out.forgets) in
      let notes : notes_under_way (turned later out).sent ≡ here.notes ++ out.forgets =
      notes_more w.sent (parcels_of out) ∙ ap (λ l. here.notes ++ l) (notes_sent out.packets out.forgets) in
      λ i. record here { now = record here.now { node = Some later.node; packets = packets i }; notes = notes i; quarantine = later.quarantine }

  pub turn_shows : (packet : Packet) (input : Input) (number : ℕ) (later : LastingNode) (out : LastingSent) → Guested w.server w.guests clients past
      → sent_at w.sent number ≡ Some (record { parcel = parcels.Usual packet; lost = false }) → arriving (Some packet) ≡ Some input → OpensFresh n input here
      → LastingTurn service w.patience n (Usual_comes input) out later → Shows service w clients past (parcels_of out) (turned later out)
  turn_shows packet input number later out o at arrives fresh turn =
      let there = packet_there w.sent number packet at in
      let m = one_moment service w.patience n here own (suc there.0) input (ap arriving there.1 ∙ arrives) fresh out later turn in
      let passes : Passes service w.patience.wait here out.packets (mirrored (turned later out) clients past) =
      one_passes service w.patience.wait here (mirrored (turned later out) clients past) (record { step = m.0; sent = out.packets; world = world_then later out here }) m.1 (turned_is later out) in
      record {
        later = clients;
        gone = past;
        passes = subst (λ l. Passes service w.patience.wait here l (mirrored (turned later out) clients past)) (sym (usual_sent out.packets out.forgets)) passes;
        guested = o;
        patience = refl;
        identified = λ i. i;
        identities = refl;
      }

  -- A tick

  in_view : (log : Log) (cs : List Client) (moments : List QuarantineMoment) (before after : QuarantineWorld) → before.now.log ≡ log → before.now.clients ≡ cs
      → GoesBy service w.patience.wait before moments after → AllByRecursion (SentInView log cs) moments
  in_view log cs [] before after l c goes = tt
  in_view log cs (m ∷ moments) before after l c goes =
      let log_now : m.world.now.log ≡ log = goes.1 ∙ l in
      let clients_now : m.world.now.clients ≡ cs = goes.2 ∙ c in
      (inr (log_now, clients_now), in_view log cs moments m.world after log_now clients_now goes.3)

  all_lead : (moments : List QuarantineMoment) (before after : QuarantineWorld) → GoesBy service w.patience.wait before moments after → Leads service w.patience.wait before moments after
  all_lead [] before after goes = goes
  all_lead (m ∷ moments) before after goes = (goes.0, all_lead moments m.world after goes.3)

  -- while the server restarts, a tick resumes nothing
  tends_none : (watches : Key → Watch) (later last : Node) (rest : List Packet) (stage : Stage) → later.stage ≡ stage → is_restarting stage ≡ true
      → TendsAll service w.patience.silence watches later (places_at later.stage) rest last → last.stage ≡ stage
  tends_none watches later last rest Asking at r t =
      let e : (rest ≡ []) × (last ≡ later) = subst (λ s. TendsAll service w.patience.silence watches later (places_at s) rest last) at t in ap (λ x. x.stage) e.1 ∙ at
  tends_none watches later last rest (Fetching count fetched) at r t =
      let e : (rest ≡ []) × (last ≡ later) = subst (λ s. TendsAll service w.patience.silence watches later (places_at s) rest last) at t in ap (λ x. x.stage) e.1 ∙ at
  tends_none watches later last rest (Serving opened places) at r t = absurd (true≢false (sym r))
  tends_none watches later last rest (Fenced newer) at r t = absurd (true≢false (sym r))

  ticks_on : (stage after : Stage) (sent : List Packet) → is_restarting stage ≡ true → StageTurn service n.node stage Tick_comes after sent → after ≡ stage
  ticks_on Asking after sent r t = t.0
  ticks_on (Fetching count fetched) after sent r t = t.0
  ticks_on (Serving opened places) after sent r t = absurd (true≢false (sym r))
  ticks_on (Fenced newer) after sent r t = absurd (true≢false (sym r))

  resumes_nothing : (log : Log) (stage : Stage) → is_restarting stage ≡ true → Resumes service log n.node stage
  resumes_nothing log Asking r = tt
  resumes_nothing log (Fetching count fetched) r = tt
  resumes_nothing log (Serving opened places) r = absurd (true≢false (sym r))
  resumes_nothing log (Fenced newer) r = absurd (true≢false (sym r))

  tick_exact : (later : LastingNode) (out : LastingSent) → TicksLasting service w.patience n out later → RestartIsExact service w.log here.now.node (Some later.node)
  tick_exact later out t =
      subst (λ o. RestartIsExact service w.log o (Some later.node)) (sym own.up)
      (λ r. let same : t.later.stage ≡ n.node.stage = ticks_on n.node.stage t.later.stage t.first r t.turn.stage in
      let still : t.last.stage ≡ n.node.stage = tends_none (after_turn n Tick_comes t.later).watches t.later t.last t.rest n.node.stage same r t.tends in
      subst (Resumes service w.log n.node) (sym (ap (λ x. x.node.stage) t.after_is ∙ still)) (resumes_nothing w.log n.node.stage r))

  pub tick_shows : (later : LastingNode) (out : LastingSent) → Guested w.server w.guests clients past → AreDistinct (map key_of (places_at n.node.stage))
      → LastingTurn service w.patience n (Usual_comes Tick_comes) out later → Shows service w clients past (parcels_of out) (turned later out)
  tick_shows later out o apart t =
      let m : AreMoments service w.patience.wait here out.packets (world_then later out here) = tick_moments service w.patience n here own out later apart t in
      let leads : Leads service w.patience.wait here m.0 (world_then later out here) = all_lead m.0 here (world_then later out here) m.1 in
      record {
        later = clients;
        gone = past;
        passes = record {
          moments = m.0;
          leads = subst (λ q. Leads service w.patience.wait here m.0 q) (sym (turned_is later out)) leads;
          sent_is = m.2 ∙ sym (usual_sent out.packets out.forgets);
          in_view = in_view w.log clients m.0 here (world_then later out here) refl refl m.1;
          exact = inr (tick_exact later out t);
        };
        guested = o;
        patience = refl;
        identified = λ i. i;
        identities = refl;
      }
