-- What an event of a schedule is in the world with a quarantine: at a client, at the log, and where nothing happens.
use Rattle.std.proofs.Common.{◌≡◌, inr, ℕ, suc, true, false, refl, sym, ap, ◌∙◌, subst, append-nil, MatchBool, option_map, option_to_list, is_some, Option, Some, None, List, [], ◌++◌, map}
use Rattle.server_trait.specs.Service.{Machine}
use Rattle.seq_arith.specs.Packet.{Segment}
use Rattle.seq_arith.specs.Message.{Message}
use Rattle.ft_model.specs.Client.{Client, received}
use Rattle.ft_model.specs.Lawful.{hello}
use Rattle.ft_model.specs.Log.{log_after, answer_to}
use Rattle.ft_model.specs.Network.{Packet, destination_of}
use Rattle.ft_model.specs.Network.Packet.{To_client, To_logger, From_logger}
use Rattle.ft_model.specs.Node.{Node, booted}
use Rattle.ft_model.specs.World.{Happens, IsNextBoot, with_client}
use Rattle.ft_model.specs.declared.event.Event.{Event}
use Rattle.ft_model.specs.declared.event.Event.TheVariants.{Boot, Crash, Deliver}
use Rattle.ft_model.proofs.Exact.{same_exact}
use Rattle.long_laws.specs.Forgetting.{ForgetMessage}
use Rattle.long_laws.specs.LongTrace.{Gone}
use Rattle.long_laws.specs.LongTrace.LongStep.{Joint_event}
use Rattle.long_laws.specs.Quarantine.{Quarantined}
use Rattle.long_laws.specs.QuarantineWorld.{QuarantineWorld, MayQuarantine, Usually, DropsSilently, arriving, event_input, drops, is_full_input, quarantine_then, forgets_then, AllAreFresh}
use Rattle.long_laws.specs.QuarantineWorld.QuarantineStep.{Usual}
use Rattle.lasting_laws.specs.LastingTurn.{LastingNode, booted_to_last}
use Rattle.lasting_laws.specs.LastingWorld.{Parcel, LastingWorld, with_sent, sent_at, received_by}
use Rattle.lasting_laws.specs.LastingWorld.{Parcel as parcels}
use Rattle.lasting_laws.specs.LastingUnseen.{usual, still_under_way}
use Rattle.lasting_unseen.specs.Mirror.{notes_under_way, quarantine_in, mirrored}
use Rattle.lasting_unseen.proofs.Guests.{Guested, guested_received}
use Rattle.lasting_unseen.proofs.GuestsNames.{Identified, identity, identified_received, identities_received}
use Rattle.lasting_unseen.proofs.Leads.{Passes, one_passes}
use Rattle.lasting_unseen.proofs.Parcels.{packets_more, notes_more, packet_there, usual_alone, no_notes}

-- an event, from a world in which these clients are there and these are past
pub record Shows {State : Type 0} (service : Machine State) (before : LastingWorld) (clients : List Client) (past : List Gone) (sent : List Parcel) (after : LastingWorld) : Type 0 where
  pub later : List Client
  pub gone : List Gone
  pub passes : Passes service before.patience.wait (mirrored before clients past) (usual sent) (mirrored after later gone)
  pub guested : Guested after.server after.guests later gone
  pub patience : after.patience ≡ before.patience
  pub identified : Identified before.guests clients past → Identified after.guests later gone
  pub identities : map identity after.guests ≡ map identity before.guests

-- nothing comes to the server by an event
pub not_dropped : (wait : ℕ) (o : Option Node) (qs : List Quarantined) → drops wait o None qs ≡ false
not_dropped wait (Some node) qs = refl
not_dropped wait None qs = refl

pub quarantine_stays : (o : Option LastingNode) → quarantine_in o ≡ quarantine_then (option_map (λ n. n.node) o) None (option_map (λ n. n.node) o) (quarantine_in o)
quarantine_stays (Some n) = refl
quarantine_stays None = refl

pub no_forgets : (wait : ℕ) (o : Option Node) (qs : List Quarantined) → forgets_then wait o None qs ≡ []
no_forgets wait (Some node) qs = refl
no_forgets wait None qs = refl

pub nobody_new : (o : Option Node) (notes : List ForgetMessage) → AllAreFresh o None notes
nobody_new (Some node) notes = tt
nobody_new None notes = tt

module _ {State : Type 0} (service : Machine State) (w : LastingWorld) (clients : List Client) (past : List Gone) where
  abbrev here : QuarantineWorld
  here = mirrored w clients past

  -- the server does nothing
  pub elsewhere : (event : Event) (sent : List Packet) (after : LastingWorld) (later : List Client) → event_input here.now event ≡ None → Happens service here.now event sent (mirrored after later past).now
      → after.node ≡ w.node → notes_under_way after.sent ≡ notes_under_way w.sent
      → MayQuarantine service w.patience.wait here (Usual (Joint_event event)) sent (mirrored after later past)
  elsewhere event sent after later none happens node notes = (refl, both)
    where
      usually : Usually service w.patience.wait here (Joint_event event) sent (mirrored after later past)
      usually = record {
        passes = (happens, refl);
        quarantine = ap quarantine_in node ∙ (quarantine_stays w.node ∙ λ i. quarantine_then here.now.node (sym none i) (option_map (λ n. n.node) (sym node i)) here.quarantine);
        notes = notes ∙ (sym (append-nil here.notes) ∙ ap (λ l. here.notes ++ l)
            (sym (no_forgets w.patience.wait here.now.node (quarantine_in after.node)) ∙ λ i. forgets_then w.patience.wait here.now.node (sym none i) (quarantine_in after.node)));
        fresh = subst (λ i. AllAreFresh here.now.node i here.notes) (sym none) (nobody_new here.now.node here.notes);
      }

      both : MatchBool (drops w.patience.wait here.now.node (event_input here.now event) here.quarantine) ((sent ≡ []) × (mirrored after later past ≡ here))
          (MatchBool (is_full_input (event_input here.now event)) (DropsSilently service here (Joint_event event) sent (mirrored after later past))
          (Usually service w.patience.wait here (Joint_event event) sent (mirrored after later past)))
      both =
          rw (ap (λ i. drops w.patience.wait here.now.node i here.quarantine) none ∙ not_dropped w.patience.wait here.now.node here.quarantine)
          (rw (ap is_full_input none) usually)

  -- nothing happens
  pub nothing_shows : Guested w.server w.guests clients past → Shows service w clients past [] w
  nothing_shows o = record {
    later = clients;
    gone = past;
    passes = record { moments = []; leads = refl; sent_is = refl; in_view = tt; exact = inr (same_exact service w.log here.now.node) };
    guested = o;
    patience = refl;
    identified = λ i. i;
    identities = refl;
  }

  -- one moment, which leaves the clients that are past
  pub moment_shows : (event : Event) (sent : List Parcel) (after : LastingWorld) (later : List Client)
      → MayQuarantine service w.patience.wait here (Usual (Joint_event event)) (usual sent) (mirrored after later past) → Guested after.server after.guests later past → after.patience ≡ w.patience
      → (Identified w.guests clients past → Identified after.guests later past) → map identity after.guests ≡ map identity w.guests → Shows service w clients past sent after
  moment_shows event sent after later may o same known identities = record {
    later = later;
    gone = past;
    passes = one_passes service w.patience.wait here (mirrored after later past) (record { step = Usual (Joint_event event); sent = usual sent; world = mirrored after later past }) may refl;
    guested = o;
    patience = same;
    identified = known;
    identities = identities;
  }

  -- A segment arrives at a client
  pub client_shows : (number : ℕ) (segment : Segment) → Guested w.server w.guests clients past
      → sent_at w.sent number ≡ Some (record { parcel = parcels.Usual (To_client segment); lost = false })
      → Shows service w clients past [] (record w { guests = map (received_by (destination_of segment) segment) w.guests })
  client_shows number segment o at =
      let there = packet_there w.sent number (To_client segment) at in
      let later : List Client = with_client (destination_of segment) (λ c. received c segment) clients in
      let after : LastingWorld = record w { guests = map (received_by (destination_of segment) segment) w.guests } in
      moment_shows (Deliver (suc there.0)) [] after later
      (elsewhere (Deliver (suc there.0)) [] after later (ap arriving there.1)
      (To_client segment, there.1, (refl, ap (λ l. record here.now { clients = later; packets = l }) (sym (append-nil here.now.packets)))) refl refl)
      (guested_received w.server (destination_of segment) segment w.guests clients past o) refl
      (λ i. identified_received (destination_of segment) segment w.guests clients past i) (identities_received (destination_of segment) segment w.guests)

  -- A message arrives at the log
  pub log_shows : (number : ℕ) (message : Message) → Guested w.server w.guests clients past
      → sent_at w.sent number ≡ Some (record { parcel = parcels.Usual (To_logger message); lost = false })
      → Shows service w clients past (map parcels.Usual (option_to_list (option_map From_logger (answer_to w.log message))))
      (with_sent (map parcels.Usual (option_to_list (option_map From_logger (answer_to w.log message)))) (record w { log = log_after w.log message }))
  log_shows number message o at =
      let there = packet_there w.sent number (To_logger message) at in
      let answers : List Packet = option_to_list (option_map From_logger (answer_to w.log message)) in
      let sent : List Parcel = map parcels.Usual answers in
      let after : LastingWorld = with_sent sent (record w { log = log_after w.log message }) in
      let packets : still_under_way after.sent ≡ here.now.packets ++ usual sent = packets_more w.sent sent in
      moment_shows (Deliver (suc there.0)) sent after clients
      (elsewhere (Deliver (suc there.0)) (usual sent) after clients (ap arriving there.1)
      (To_logger message, there.1, (usual_alone answers, ap (λ l. record here.now { log = log_after w.log message; packets = l }) packets)) refl
      (notes_more w.sent sent ∙ (ap (λ l. notes_under_way w.sent ++ l) (no_notes answers) ∙ append-nil (notes_under_way w.sent))))
      o refl (λ i. i) refl

  -- The server boots
  abbrev boot_sent : (boot isn : ℕ) → List Parcel
  boot_sent boot isn = map parcels.Usual (hello (booted w.server w.profile boot isn))

  abbrev boot_after : (boot isn : ℕ) → LastingWorld
  boot_after boot isn = with_sent (boot_sent boot isn) (record w { boot = boot; node = Some (booted_to_last w.server w.profile boot isn) })

  boots : (boot isn : ℕ) → here.now.node ≡ None → IsNextBoot here.now boot
      → MayQuarantine service w.patience.wait here (Usual (Joint_event (Boot boot isn))) (usual (boot_sent boot isn)) (mirrored (boot_after boot isn) clients past)
  boots boot isn down next = (refl, both)
    where
      notes : notes_under_way (boot_after boot isn).sent ≡ here.notes
      notes = notes_more w.sent (boot_sent boot isn) ∙ append-nil here.notes

      usually : Usually service w.patience.wait here (Joint_event (Boot boot isn)) (usual (boot_sent boot isn)) (mirrored (boot_after boot isn) clients past)
      usually = record {
        passes = (
          (down, next, refl, ap (λ l. record here.now { boot = boot; node = Some (booted w.server w.profile boot isn); packets = l }) (packets_more w.sent (boot_sent boot isn))),
          refl,
        );
        quarantine = λ i. quarantine_then (sym down i) None (Some (booted w.server w.profile boot isn)) here.quarantine;
        notes = notes ∙ (sym (append-nil here.notes) ∙ ap (λ l. here.notes ++ l) (sym (no_forgets w.patience.wait here.now.node [])));
        fresh = nobody_new here.now.node here.notes;
      }

      both : MatchBool (drops w.patience.wait here.now.node None here.quarantine) ((usual (boot_sent boot isn) ≡ []) × (mirrored (boot_after boot isn) clients past ≡ here))
          (Usually service w.patience.wait here (Joint_event (Boot boot isn)) (usual (boot_sent boot isn)) (mirrored (boot_after boot isn) clients past))
      both = rw (not_dropped w.patience.wait here.now.node here.quarantine) usually

  pub boot_shows : (boot isn : ℕ) → Guested w.server w.guests clients past → w.node ≡ None → IsNextBoot here.now boot
      → Shows service w clients past (map parcels.Usual (hello (booted w.server w.profile boot isn)))
      (with_sent (map parcels.Usual (hello (booted w.server w.profile boot isn))) (record w { boot = boot; node = Some (booted_to_last w.server w.profile boot isn) }))
  boot_shows boot isn o down next =
      moment_shows (Boot boot isn) (boot_sent boot isn) (boot_after boot isn) clients (boots boot isn (ap (option_map (λ n. n.node)) down) next) o refl (λ i. i) refl

  -- It crashes
  abbrev none_sent : List Packet
  none_sent = []

  abbrev down : LastingWorld
  down = record w { node = None }

  no_quarantine : (o : Option LastingNode) → [] ≡ quarantine_then (option_map (λ n. n.node) o) None None (quarantine_in o)
  no_quarantine (Some n) = refl
  no_quarantine None = refl

  crashes : is_some here.now.node ≡ true → MayQuarantine service w.patience.wait here (Usual (Joint_event Crash)) [] (mirrored down clients past)
  crashes up = (refl, both)
    where
      usually : Usually service w.patience.wait here (Joint_event Crash) [] (mirrored down clients past)
      usually = record {
        passes = ((up, refl, ap (λ l. record here.now { node = None; packets = l }) (sym (append-nil here.now.packets))), refl);
        quarantine = no_quarantine w.node;
        notes = sym (append-nil here.notes) ∙ ap (λ l. here.notes ++ l) (sym (no_forgets w.patience.wait here.now.node []));
        fresh = nobody_new here.now.node here.notes;
      }

      both : MatchBool (drops w.patience.wait here.now.node None here.quarantine) ((none_sent ≡ []) × (mirrored down clients past ≡ here))
          (Usually service w.patience.wait here (Joint_event Crash) [] (mirrored down clients past))
      both = rw (not_dropped w.patience.wait here.now.node here.quarantine) usually

  some_still : (o : Option LastingNode) → is_some o ≡ true → is_some (option_map (λ n. n.node) o) ≡ true
  some_still (Some n) e = refl
  some_still None e = e

  pub crash_shows : Guested w.server w.guests clients past → is_some w.node ≡ true → Shows service w clients past [] (record w { node = None })
  crash_shows o up = moment_shows Crash [] down clients (crashes (some_still w.node up)) o refl (λ i. i) refl
