-- Bytes reach the addressee of a parcel.
use Rattle.std.proofs.Common.{◌≡◌, ◌∙◌, ℕ, sym, ap, subst, refl, true≢false, Option, None, Some, Result, Ok, Err, List}
use Rattle.std.specs.Prelude.{IsErr}
use Rattle.ft_io.specs.declared.Key.{Key}
use Rattle.server_trait.specs.Service.{Machine}
use Rattle.seq_arith.specs.Message.{Message}
use Rattle.seq_arith.specs.PacketGrammar as segments
use Rattle.seq_arith.specs.MessageGrammar as messages
use Rattle.seq_arith.specs.declared.kinds.BadMsg.{BadMsg}
use Rattle.seq_arith.specs.declared.kinds.Grammar.{Grammar}
use Rattle.tcp_rules.specs.Profile.{grammar_of}
use Rattle.tcp_rules.specs.Profiles.{profile_of}
use Rattle.ft_model.specs.Network.{destination_of}
use Rattle.ft_model.specs.Network.Packet.{To_server, To_client, To_logger, From_logger}
use Rattle.ft_model.specs.World.{segment_or_noise, message_or_noise}
use Rattle.ft_model.specs.declared.way.Way.TheVariants.{ClientToServer, ServerToClient, ServerToLogger, LoggerToServer, HeadToTail, TailToHead}
use Rattle.ft_model.proofs.Lists.{same_key, key_is}
use Rattle.long_laws.specs.ForgetGrammar as forgets
use Rattle.long_laws.specs.Forgetting.{ForgetMessage}
use Rattle.long_laws.proofs.ForgetNoise.{no_message}
use Rattle.lasting_laws.specs.LastingTurn.{LastingInput}
use Rattle.lasting_laws.specs.LastingTurn.LastingInput.{Usual_comes}
use Rattle.lasting_laws.specs.LastingWorld.{Parcel, LastingWorld, ClientReads, ComesAs, LogReads, ServerMoves, either_said, grammar_in, parcel_concerns, said_by, said_to_server}
use Rattle.lasting_laws.specs.LastingWorld.Parcel.{Usual, Forget_sent, Forgotten_sent}
use Rattle.lasting_node.specs.Turns.{message_input, message_said}
use Rattle.lasting_world.specs.Abouts.{names}
use Rattle.lasting_world.specs.Around.{AroundNext, SendsWritten, ReportsClient, ReportsLog}
use Rattle.lasting_world.specs.NetworkStands.{IsWayOf}
use Rattle.lasting_world.specs.Stands.{NodeStands, WorldStands}
use Rattle.lasting_world.specs.Steps.{MayTurn, ReachesNext, Serves, Brings, arriving}
use Rattle.lasting_world.specs.WorldView.{KeptWorld}

-- what happens beside the server
pub around_next : {S : Type 0} (service : Machine S) (Goes : List Parcel → LastingWorld → Type 0) (w : LastingWorld) (before after : KeptWorld S) → WorldStands service w before
    → after ≡ record before { around = after.around } → AroundNext Goes w before.around after.around → ReachesNext service Goes before after
around_next {S} service Goes w before after st is next =
    let here : NodeStands service before.kind after.around.profile before.patience w.node before.node = subst (λ p. NodeStands service before.kind p before.patience w.node before.node) (sym next.profile) st.node in
    subst (ReachesNext service Goes before) (sym is) (record {
      parcels = next.parcels;
      world = next.world;
      goes = next.goes;
      stands = record {
        server = st.server ∙ sym next.left.server;
        patience = st.patience ∙ sym next.left.patience;
        around = next.stands;
        boot = st.boot ∙ sym next.left.boot;
        node = subst (λ o. NodeStands service before.kind after.around.profile before.patience o before.node) (sym next.left.node) here;
      };
      kind = refl;
      profile = next.profile;
      ways = next.ways;
    })

-- what happens is the same by another name
pub renamed : {S : Type 0} (service : Machine S) (Goes Other : List Parcel → LastingWorld → Type 0) (before after : KeptWorld S)
    → ((parcels : List Parcel) (world : LastingWorld) → Goes parcels world → Other parcels world) → ReachesNext service Goes before after → ReachesNext service Other before after
renamed service Goes Other before after same r =
    record { parcels = r.parcels; world = r.world; goes = same r.parcels r.world r.goes; stands = r.stands; kind = r.kind; profile = r.profile; ways = r.ways }

-- the code asks first whether bytes are about forgetting; no bytes are both
same_said : (grammar : Grammar) (bytes : List ℕ) → message_said grammar bytes ≡ said_to_server (said_by grammar bytes)
same_said grammar bytes = by (forgets.reading bytes) refl (messages.reading_by grammar bytes) refl
  where
    by : (f : Result ForgetMessage BadMsg) → forgets.reading bytes ≡ f → (r : Result Message BadMsg) → messages.reading_by grammar bytes ≡ r
        → message_said grammar bytes ≡ said_to_server (said_by grammar bytes)
    by (Ok message) e (Ok other) m = absurd (true≢false (sym (subst (λ r. IsErr r) m (no_message grammar bytes message e))))
    by (Ok message) e (Err why) m = ap (λ f. message_input grammar f bytes) e ∙ sym (ap (λ r. said_to_server (either_said r (forgets.reading bytes))) m ∙ ap (λ f. said_to_server (either_said (Err why) f)) e)
    by (Err bad) e (Ok message) m = ap (λ f. message_input grammar f bytes) e ∙ (ap (λ r. Usual_comes (message_or_noise r)) m ∙ sym (ap (λ r. said_to_server (either_said r (forgets.reading bytes))) m))
    by (Err bad) e (Err why) m =
        ap (λ f. message_input grammar f bytes) e ∙ (ap (λ r. Usual_comes (message_or_noise r)) m
        ∙ sym (ap (λ r. said_to_server (either_said r (forgets.reading bytes))) m ∙ ap (λ f. said_to_server (either_said (Err why) f)) e))

module _ {S : Type 0} (service : Machine S) (before after : KeptWorld S) (bytes : List ℕ) where
  -- to a client
  pub to_client : (number : ℕ) (key : Key) → after ≡ record before { around = after.around } → ReportsClient key bytes before.around after.around
      → Brings service (ServerToClient number) (Some key) bytes before after
  to_client number key is reports = λ w parcel st goes concerns may written. by w parcel st goes concerns
    where
      by : (w : LastingWorld) (parcel : Parcel) → WorldStands service w before → IsWayOf parcel (ServerToClient number) → ((k : Key) → parcel_concerns k parcel ≡ names (Some key) k)
          → ReachesNext service (ComesAs service parcel bytes w) before after
      by w (Usual (To_client segment)) st goes concerns =
          let its : destination_of segment ≡ key = same_key (destination_of segment) key (concerns key ∙ key_is key) in
          renamed service (ClientReads key (segments.reading bytes) w) (ComesAs service (Usual (To_client segment)) bytes w) before after
          (λ ps v c. subst (λ k. ClientReads k (segments.reading bytes) w ps v) (sym its) c)
          (around_next service (ClientReads key (segments.reading bytes) w) w before after st is (reports w st.around))
      by w (Usual (To_server segment)) st goes concerns = absurd goes
      by w (Usual (To_logger message)) st goes concerns = absurd goes
      by w (Usual (From_logger message)) st goes concerns = absurd goes
      by w (Forget_sent message) st goes concerns = absurd goes
      by w (Forgotten_sent message) st goes concerns = absurd goes

  -- what goes to a client concerns a key
  pub to_nobody : (number : ℕ) → Brings service (ServerToClient number) None bytes before after
  to_nobody number = λ w parcel st goes concerns may written. by w parcel goes concerns
    where
      by : (w : LastingWorld) (parcel : Parcel) → IsWayOf parcel (ServerToClient number) → ((k : Key) → parcel_concerns k parcel ≡ names None k)
          → ReachesNext service (ComesAs service parcel bytes w) before after
      by w (Usual (To_client segment)) goes concerns = absurd (true≢false (sym (key_is (destination_of segment)) ∙ concerns (destination_of segment)))
      by w (Usual (To_server segment)) goes concerns = absurd goes
      by w (Usual (To_logger message)) goes concerns = absurd goes
      by w (Usual (From_logger message)) goes concerns = absurd goes
      by w (Forget_sent message) goes concerns = absurd goes
      by w (Forgotten_sent message) goes concerns = absurd goes

  -- to the server
  pub to_server : (number : ℕ) (about : Option Key) → Serves service (Usual_comes (segment_or_noise (segments.reading bytes))) before after
      → Brings service (ClientToServer number) about bytes before after
  to_server number about serves = λ w parcel st goes concerns may written. by w parcel st goes may written
    where
      by : (w : LastingWorld) (parcel : Parcel) → WorldStands service w before → IsWayOf parcel (ClientToServer number)
          → ((input : LastingInput) → arriving (grammar_in w) parcel bytes ≡ Some input → MayTurn service w input) → SendsWritten (grammar_in w) (ComesAs service parcel bytes w)
          → ReachesNext service (ComesAs service parcel bytes w) before after
      by w (Usual (To_server segment)) st goes may written =
          let input : LastingInput = Usual_comes (segment_or_noise (segments.reading bytes)) in
          renamed service (ServerMoves service input w) (ComesAs service (Usual (To_server segment)) bytes w) before after (λ ps v c. c)
          (serves w st (may input refl) (λ ps v c. written ps v c))
      by w (Usual (To_client segment)) st goes may written = absurd goes
      by w (Usual (To_logger message)) st goes may written = absurd goes
      by w (Usual (From_logger message)) st goes may written = absurd goes
      by w (Forget_sent message) st goes may written = absurd goes
      by w (Forgotten_sent message) st goes may written = absurd goes

  -- .. from the log
  pub from_logger : (about : Option Key) → Serves service (message_said (grammar_of (profile_of before.around.profile)) bytes) before after
      → Brings service LoggerToServer about bytes before after
  from_logger about serves = λ w parcel st goes concerns may written. by w parcel st goes may written
    where
      serves_said : (w : LastingWorld) → WorldStands service w before → Serves service (said_to_server (said_by (grammar_in w) bytes)) before after
      serves_said w st =
          subst (λ i. Serves service i before after)
          (same_said (grammar_of (profile_of before.around.profile)) bytes ∙ ap (λ p. said_to_server (said_by (grammar_of p) bytes)) st.around.profile) serves

      by : (w : LastingWorld) (parcel : Parcel) → WorldStands service w before → IsWayOf parcel LoggerToServer
          → ((input : LastingInput) → arriving (grammar_in w) parcel bytes ≡ Some input → MayTurn service w input) → SendsWritten (grammar_in w) (ComesAs service parcel bytes w)
          → ReachesNext service (ComesAs service parcel bytes w) before after
      by w (Usual (From_logger message)) st goes may written =
          let input : LastingInput = said_to_server (said_by (grammar_in w) bytes) in
          renamed service (ServerMoves service input w) (ComesAs service (Usual (From_logger message)) bytes w) before after (λ ps v c. c)
          (serves_said w st w st (may input refl) (λ ps v c. written ps v c))
      by w (Forgotten_sent message) st goes may written =
          let input : LastingInput = said_to_server (said_by (grammar_in w) bytes) in
          renamed service (ServerMoves service input w) (ComesAs service (Forgotten_sent message) bytes w) before after (λ ps v c. c)
          (serves_said w st w st (may input refl) (λ ps v c. written ps v c))
      by w (Usual (To_server segment)) st goes may written = absurd goes
      by w (Usual (To_client segment)) st goes may written = absurd goes
      by w (Usual (To_logger message)) st goes may written = absurd goes
      by w (Forget_sent message) st goes may written = absurd goes

  -- to the log
  pub to_logger : (about : Option Key) → after ≡ record before { around = after.around } → ReportsLog bytes before.around after.around
      → Brings service ServerToLogger about bytes before after
  to_logger about is reports = λ w parcel st goes concerns may written. by w parcel st goes written
    where
      by : (w : LastingWorld) (parcel : Parcel) → WorldStands service w before → IsWayOf parcel ServerToLogger → SendsWritten (grammar_in w) (ComesAs service parcel bytes w)
          → ReachesNext service (ComesAs service parcel bytes w) before after
      by w (Usual (To_logger message)) st goes written =
          let said = said_by (grammar_in w) bytes in
          renamed service (LogReads said w) (ComesAs service (Usual (To_logger message)) bytes w) before after (λ ps v c. c)
          (around_next service (LogReads said w) w before after st is (reports w st.around (λ ps v c. written ps v c)))
      by w (Forget_sent message) st goes written =
          let said = said_by (grammar_in w) bytes in
          renamed service (LogReads said w) (ComesAs service (Forget_sent message) bytes w) before after (λ ps v c. c)
          (around_next service (LogReads said w) w before after st is (reports w st.around (λ ps v c. written ps v c)))
      by w (Usual (To_server segment)) st goes written = absurd goes
      by w (Usual (To_client segment)) st goes written = absurd goes
      by w (Usual (From_logger message)) st goes written = absurd goes
      by w (Forgotten_sent message) st goes written = absurd goes

  -- nothing of such a run goes between two loggers
  pub to_tail : (about : Option Key) → Brings service HeadToTail about bytes before after
  to_tail about = λ w parcel st goes concerns may written. none w parcel goes
    where
      none : (w : LastingWorld) (parcel : Parcel) → IsWayOf parcel HeadToTail → ReachesNext service (ComesAs service parcel bytes w) before after
      none w (Usual (To_server segment)) goes = absurd goes
      none w (Usual (To_client segment)) goes = absurd goes
      none w (Usual (To_logger message)) goes = absurd goes
      none w (Usual (From_logger message)) goes = absurd goes
      none w (Forget_sent message) goes = absurd goes
      none w (Forgotten_sent message) goes = absurd goes

  pub to_head : (about : Option Key) → Brings service TailToHead about bytes before after
  to_head about = λ w parcel st goes concerns may written. none w parcel goes
    where
      none : (w : LastingWorld) (parcel : Parcel) → IsWayOf parcel TailToHead → ReachesNext service (ComesAs service parcel bytes w) before after
      none w (Usual (To_server segment)) goes = absurd goes
      none w (Usual (To_client segment)) goes = absurd goes
      none w (Usual (To_logger message)) goes = absurd goes
      none w (Usual (From_logger message)) goes = absurd goes
      none w (Forget_sent message) goes = absurd goes
      none w (Forgotten_sent message) goes = absurd goes
