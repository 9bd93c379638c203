-- What an event does in the code's world, by the definitions.
use Rattle.std.proofs.Common.{◌≡◌, ◌∙◌, ℕ, zero, suc, ◌<◌, ◌≤◌, ◌*◌, nat_le, sym, ap, subst, refl, arith, Bool, true, false, true≢false, is_some, Option, None, Some, Result, Ok, Err, List, [], append-nil, length, if◌then◌else◌}
use Rattle.std.specs.Prelude.{IfErr, IsErr}
use Rattle.std.specs.List.{AllByRecursion}
use Rattle.ft_io.specs.declared.Key.{Key}
use Rattle.ft_io.proofs.Numbers.{at_most_of_test}
use Rattle.ft_io.proofs.Choices.{if_true, if_false}
use Rattle.ft_io.proofs.Outcomes.{if_err}
use Rattle.seq_arith.specs.Damage.{flipped}
use Rattle.seq_arith.specs.Message.{Message}
use Rattle.seq_arith.specs.MessageGrammar as messages
use Rattle.seq_arith.specs.declared.kinds.BadMsg.{BadMsg}
use Rattle.seq_arith.specs.declared.kinds.Grammar.{Grammar}
use Rattle.seq_arith.proofs.MessageSpelling.{message_is_read}
use Rattle.seq_arith.proofs.Spelling.{spelling_is_read}
use Rattle.server_trait.specs.Service.{Machine}
use Rattle.ft_model.specs.Client.{mover_of, move_asked}
use Rattle.ft_model.specs.Network.{destination_of}
use Rattle.ft_model.specs.Network.Packet.{To_server, To_client, To_logger, From_logger}
use Rattle.ft_model.specs.Node.Input.{Tick_comes}
use Rattle.ft_model.specs.World.{segment_or_noise}
use Rattle.ft_model.specs.declared.event.Event.{Event}
use Rattle.ft_model.specs.declared.event.Event.TheVariants.{Boot, Crash, Tick, Deliver, Flip, Begin, Send, Fin, Ack, Reset, Stop}
use Rattle.ft_model.specs.declared.event.EventWhy.TheVariants as why
use Rattle.ft_model.specs.declared.way.Way.{Way}
use Rattle.ft_model.proofs.Lists.{all_slice_get, none_is_some, some_is}
use Rattle.ft_model.proofs.Wires.{is_low}
use Rattle.long_laws.specs.ForgetGrammar as forgets
use Rattle.long_laws.specs.Forgetting.{ForgetMessage}
use Rattle.long_laws.proofs.ForgetNoise.{no_message}
use Rattle.long_laws.proofs.ForgetRead.{forget_is_read}
use Rattle.lasting_laws.specs.LastingLegal.{lasting_refusal, refusal_of_asked, refusal_of_flip}
use Rattle.lasting_laws.specs.LastingTurn.{LastingNode}
use Rattle.lasting_laws.specs.LastingTurn.LastingInput.{Usual_comes}
use Rattle.lasting_laws.specs.LastingWorld.{Parcel, Sent, LastingWorld, LastingHappens, ClientReads, ComesAs, GuestMoves, LogReads, ParcelComes, ServerMoves, Unless, either_said, grammar_in, bytes_of, said_by, said_to_server, sent_at}
use Rattle.lasting_laws.specs.LastingWorld.Said.{Says, Says_of_forgetting}
use Rattle.lasting_laws.specs.LastingWorld.Parcel.{Usual, Forget_sent, Forgotten_sent}
use Rattle.lasting_unseen.specs.Written.{IsWritten}
use Rattle.schedule_network.specs.AtNumber.{at_number}
use Rattle.schedule_network.specs.declared.end.StepEnd.{StepEnd}
use Rattle.schedule_network.specs.declared.end.StepEnd.TheVariants.{NoMemory, BadEvent, PacketLimit}
use Rattle.lasting_world.specs.Abouts.{names}
use Rattle.lasting_world.specs.Around.{MakesMove, MovesNext, DeclinesMove}
use Rattle.lasting_world.specs.NetworkView.{about_at, is_lost_at}
use Rattle.lasting_world.specs.Stands.{NodeStands, WorldStands}
use Rattle.lasting_world.specs.Steps.{ReachesNext, Does, Declines, Serves, Brings, IsFairStep, arriving, arriving_sent, input_by}
use Rattle.lasting_world.specs.WorldView.{KeptServer, KeptWorld}
use Rattle.lasting_world.proofs.Brought.{around_next, renamed}
use Rattle.lasting_world.proofs.Numbers.{Found, found, missing}

pub is_high : (n m : ℕ) → m < n → nat_le n m ≡ false
is_high n m h = by (nat_le n m) refl
  where
    by : (b : Bool) → nat_le n m ≡ b → nat_le n m ≡ false
    by true e = absurd (omega (arith, h, at_most_of_test n m e))
    by false e = e

-- the server is up, or down, in both
pub node_there : {S : Type 0} (service : Machine S) (before : KeptWorld S) (w : LastingWorld) → WorldStands service w before → is_some w.node ≡ is_some before.node
node_there {S} service before w st = by before.kind w.node before.node st.node
  where
    by : (kind : ℕ) (o : Option LastingNode) (now : Option (KeptServer S)) → NodeStands service kind before.around.profile before.patience o now → is_some o ≡ is_some now
    by kind None None n = refl
    by kind (Some m) (Some now) n = refl
    by kind None (Some now) n = absurd n
    by kind (Some m) None n = absurd n

module _ {S : Type 0} (service : Machine S) (before after : KeptWorld S) where
  pub crashed : is_some before.node ≡ true → after ≡ record before { node = None } → Does service Crash before after
  crashed up is = λ w st fair. record {
    next = subst (ReachesNext service (LastingHappens service w Crash) before) (sym is) (record {
      parcels = [];
      world = record w { node = None };
      goes = (refl, refl);
      stands = record {
        server = st.server;
        patience = st.patience;
        around = record {
          profile = st.around.profile;
          guests = st.around.guests;
          turns = st.around.turns;
          log = st.around.log;
          ordered = st.around.ordered;
          gone = st.around.gone;
          network = st.around.network;
        };
        boot = st.boot;
        node = tt;
      };
      kind = refl;
      profile = refl;
      ways = sym (append-nil before.around.network.packets.ways);
    });
    allowed = if_true (is_some w.node) None (Some why.Down) (node_there service before w st ∙ up);
  }

  pub ticked : is_some before.node ≡ true → Serves service (Usual_comes Tick_comes) before after → Does service Tick before after
  ticked up serves = λ w st fair.
      let allowed : lasting_refusal w Tick ≡ None = if_true (is_some w.node) None (Some why.Down) (node_there service before w st ∙ up) in
      record {
        next = renamed service (ServerMoves service (Usual_comes Tick_comes) w) (LastingHappens service w Tick) before after (λ ps v c. c)
            (serves w st ((fair allowed).turn (Usual_comes Tick_comes) refl) (λ ps v c. (fair allowed).written ps v c));
        allowed = allowed;
      }

  pub down_refused : is_some before.node ≡ false → (w : LastingWorld) → WorldStands service w before → (lasting_refusal w Crash ≡ Some why.Down) × (lasting_refusal w Tick ≡ Some why.Down)
  down_refused down w st =
      let none : is_some w.node ≡ false = node_there service before w st ∙ down in
      (if_false (is_some w.node) None (Some why.Down) none, if_false (is_some w.node) None (Some why.Down) none)

  pub up_refused : (boot isn : ℕ) → is_some before.node ≡ true → (w : LastingWorld) → WorldStands service w before → lasting_refusal w (Boot boot isn) ≡ Some why.Up
  up_refused boot isn up w st = if_true (is_some w.node) (Some why.Up) (if nat_le boot w.boot then Some why.Boot else None) (node_there service before w st ∙ up)

  pub boot_refused : (boot isn : ℕ) → is_some before.node ≡ false → boot ≤ before.boot → (w : LastingWorld) → WorldStands service w before → lasting_refusal w (Boot boot isn) ≡ Some why.Boot
  boot_refused boot isn down low w st =
      if_false (is_some w.node) (Some why.Up) (if nat_le boot w.boot then Some why.Boot else None) (node_there service before w st ∙ down)
      ∙ if_true (nat_le boot w.boot) (Some why.Boot) None (is_low boot w.boot (omega (arith, low, st.boot)))

  -- a client's move
  pub made : (event : Event) (number : ℕ) → mover_of event ≡ Some number → after ≡ record before { around = after.around } → MakesMove event before.around after.around
      → Does service event before after
  made event number mover is moves = λ w st fair.
      let m : MovesNext w event before.around after.around = moves w st.around in
      let same = as_move w event number mover in
      record {
        next = renamed service (GuestMoves w event) (LastingHappens service w event) before after same.0 (around_next service (GuestMoves w event) w before after st is m.next);
        allowed = same.1 ∙ m.allowed;
      }
    where
      as_move : (w : LastingWorld) (event : Event) (number : ℕ) → mover_of event ≡ Some number
          → ((ps : List Parcel) (v : LastingWorld) → GuestMoves w event ps v → LastingHappens service w event ps v) × (lasting_refusal w event ≡ refusal_of_asked w.guests (move_asked event))
      as_move w (Begin client window) number e = ((λ ps v c. c), refl)
      as_move w (Send client from len) number e = ((λ ps v c. c), refl)
      as_move w (Fin client) number e = ((λ ps v c. c), refl)
      as_move w (Ack client window) number e = ((λ ps v c. c), refl)
      as_move w (Reset client) number e = ((λ ps v c. c), refl)
      as_move w (Boot boot isn) number e = none_is_some number e
      as_move w Crash number e = none_is_some number e
      as_move w Tick number e = none_is_some number e
      as_move w (Deliver n) number e = none_is_some number e
      as_move w (Flip n bit) number e = none_is_some number e
      as_move w (Stop part) number e = none_is_some number e

  pub declined : (r : Result (Unit {0}) StepEnd) (event : Event) (number : ℕ) → mover_of event ≡ Some number → after ≡ record before { around = after.around }
      → IfErr r (DeclinesMove event before.around after.around) → IfErr r (Declines service event before after)
  declined r event number mover is ends = if_err r (λ end d. by end d) ends
    where
      refusal_is : (w : LastingWorld) (event : Event) (number : ℕ) → mover_of event ≡ Some number → lasting_refusal w event ≡ refusal_of_asked w.guests (move_asked event)
      refusal_is w (Begin client window) number e = refl
      refusal_is w (Send client from len) number e = refl
      refusal_is w (Fin client) number e = refl
      refusal_is w (Ack client window) number e = refl
      refusal_is w (Reset client) number e = refl
      refusal_is w (Boot boot isn) number e = none_is_some number e
      refusal_is w Crash number e = none_is_some number e
      refusal_is w Tick number e = none_is_some number e
      refusal_is w (Deliver n) number e = none_is_some number e
      refusal_is w (Flip n bit) number e = none_is_some number e
      refusal_is w (Stop part) number e = none_is_some number e

      by : (end : StepEnd) → DeclinesMove event before.around after.around end → Declines service event before after end
      by NoMemory d = tt
      by (BadEvent y) d = ((λ w st. refusal_is w event number mover ∙ d.0 w st.around), is ∙ ap (λ a. record before { around = a }) d.1)
      by PacketLimit d = absurd d

-- A parcel's own bytes are the parcel
pub said_usual : (grammar : Grammar) (message : Message) → messages.IsSpellableBy grammar message → said_by grammar (messages.spelling_by grammar message) ≡ Says message
said_usual grammar message ok = ap (λ r. either_said r (forgets.reading (messages.spelling_by grammar message))) (message_is_read message ok)

pub said_forget : (grammar : Grammar) (message : ForgetMessage) → forgets.IsSpellable message → said_by grammar (forgets.spelling message) ≡ Says_of_forgetting message
said_forget grammar message ok =
    ap (λ r. either_said (messages.reading_by grammar (forgets.spelling message)) r) (forget_is_read message ok)
    ∙ refused (messages.reading_by grammar (forgets.spelling message)) (no_message grammar (forgets.spelling message) message (forget_is_read message ok))
  where
    refused : (r : Result Message BadMsg) → IsErr r → either_said r (Ok message) ≡ Says_of_forgetting message
    refused (Ok m) e = absurd (true≢false (sym e))
    refused (Err bad) e = refl

as_whole : {S : Type 0} (service : Machine S) (w : LastingWorld) (parcel : Parcel) (ps : List Parcel) (v : LastingWorld) → IsWritten (grammar_in w) parcel
    → ComesAs service parcel (bytes_of (grammar_in w) parcel) w ps v → ParcelComes service parcel w ps v
as_whole service w (Usual (To_server segment)) ps v ok c = subst (λ r. ServerMoves service (Usual_comes (segment_or_noise r)) w ps v) (spelling_is_read segment ok.0) c
as_whole service w (Usual (To_client segment)) ps v ok c = subst (λ r. ClientReads (destination_of segment) r w ps v) (spelling_is_read segment ok.0) c
as_whole service w (Usual (To_logger message)) ps v ok c = subst (λ said. LogReads said w ps v) (said_usual (grammar_in w) message ok.0) c
as_whole service w (Usual (From_logger message)) ps v ok c = subst (λ said. ServerMoves service (said_to_server said) w ps v) (said_usual (grammar_in w) message ok.0) c
as_whole service w (Forget_sent message) ps v ok c = subst (λ said. LogReads said w ps v) (said_forget (grammar_in w) message ok) c
as_whole service w (Forgotten_sent message) ps v ok c = subst (λ said. ServerMoves service (said_to_server said) w ps v) (said_forget (grammar_in w) message ok) c

pub written_at : (grammar : Grammar) (sent : List Sent) (number : ℕ) (s : Sent) → AllByRecursion (λ x. IsWritten grammar x.parcel) sent → sent_at sent number ≡ Some s → IsWritten grammar s.parcel
written_at grammar sent zero s a e = none_is_some s e
written_at grammar sent (suc n) s a e = all_slice_get (λ x. IsWritten grammar x.parcel) sent n s a e

-- nothing comes of what is lost
module _ {S : Type 0} (service : Machine S) (before after : KeptWorld S) (number : ℕ) where
  abbrev IsThere : Way → Type 0
  IsThere way = at_number before.around.network.packets.ways number ≡ Some way

  abbrev it : (way : Way) → IsThere way → (w : LastingWorld) → WorldStands service w before → Found (grammar_in w) before.around.network w.sent number way
  it way e w st = found (grammar_in w) before.around.network w.sent number way st.around.network e

  nothing_next : (Goes : List Parcel → LastingWorld → Type 0) (w : LastingWorld) → WorldStands service w before → Goes [] w → ReachesNext service Goes before before
  nothing_next Goes w st goes = record {
    parcels = [];
    world = w;
    goes = goes;
    stands = st;
    kind = refl;
    profile = refl;
    ways = sym (append-nil before.around.network.packets.ways);
  }

  deliver_allowed : (way : Way) → IsThere way → (w : LastingWorld) → WorldStands service w before → lasting_refusal w (Deliver number) ≡ None
  deliver_allowed way e w st = if_true (is_some (sent_at w.sent number)) None (Some why.Packet) (ap is_some (it way e w st).is)

  pub none_delivered : at_number before.around.network.packets.ways number ≡ None → (w : LastingWorld) → WorldStands service w before
      → (lasting_refusal w (Deliver number) ≡ Some why.Packet) × ((bit : ℕ) → lasting_refusal w (Flip number bit) ≡ Some why.Packet)
  none_delivered e w st =
      let gone : sent_at w.sent number ≡ None = missing (grammar_in w) before.around.network w.sent number st.around.network e in
      (if_false (is_some (sent_at w.sent number)) None (Some why.Packet) (ap is_some gone), λ bit. ap (λ o. refusal_of_flip (grammar_in w) o bit) gone)

  pub no_bytes : (way : Way) → IsThere way → at_number before.around.network.packets.bytes number ≡ None → (w : LastingWorld) → WorldStands service w before → ⊥
  no_bytes way e none w st = none_is_some (bytes_of (grammar_in w) (it way e w st).s.parcel) (sym none ∙ (it way e w st).bytes)

  pub lost_delivered : (way : Way) → IsThere way → is_lost_at number before.around.network ≡ true → Does service (Deliver number) before before
  lost_delivered way e lost = λ w st fair.
      let f : Found (grammar_in w) before.around.network w.sent number way = it way e w st in
      record {
        next = nothing_next (LastingHappens service w (Deliver number)) w st (f.s, f.is, subst (λ b. Unless b (ParcelComes service f.s.parcel) w [] w) (sym lost ∙ f.lost) (refl, refl));
        allowed = deliver_allowed way e w st;
      }

  flip_allowed : (way : Way) → IsThere way → (bit : ℕ) (own : List ℕ) → at_number before.around.network.packets.bytes number ≡ Some own → bit < 8 * length own
      → (w : LastingWorld) → WorldStands service w before → lasting_refusal w (Flip number bit) ≡ None
  flip_allowed way e bit own spelled within w st =
      let f : Found (grammar_in w) before.around.network w.sent number way = it way e w st in
      let same : own ≡ bytes_of (grammar_in w) f.s.parcel = some_is own (bytes_of (grammar_in w) f.s.parcel) (sym spelled ∙ f.bytes) in
      ap (λ o. refusal_of_flip (grammar_in w) o bit) f.is
      ∙ (ap (λ (b : List ℕ). if nat_le (8 * length b) bit then Some why.Bit else None) (sym same)
      ∙ if_false (nat_le (8 * length own) bit) (Some why.Bit) None (is_high (8 * length own) bit within))

  pub flip_refused : (way : Way) → IsThere way → (bit : ℕ) (own : List ℕ) → at_number before.around.network.packets.bytes number ≡ Some own → 8 * length own ≤ bit
      → (w : LastingWorld) → WorldStands service w before → lasting_refusal w (Flip number bit) ≡ Some why.Bit
  flip_refused way e bit own spelled past w st =
      let f : Found (grammar_in w) before.around.network w.sent number way = it way e w st in
      let same : own ≡ bytes_of (grammar_in w) f.s.parcel = some_is own (bytes_of (grammar_in w) f.s.parcel) (sym spelled ∙ f.bytes) in
      ap (λ o. refusal_of_flip (grammar_in w) o bit) f.is
      ∙ (ap (λ (b : List ℕ). if nat_le (8 * length b) bit then Some why.Bit else None) (sym same)
      ∙ if_true (nat_le (8 * length own) bit) (Some why.Bit) None (is_low (8 * length own) bit past))

  pub lost_flipped : (way : Way) → IsThere way → (bit : ℕ) (own : List ℕ) → at_number before.around.network.packets.bytes number ≡ Some own → bit < 8 * length own
      → is_lost_at number before.around.network ≡ true → Does service (Flip number bit) before before
  lost_flipped way e bit own spelled within lost = λ w st fair.
      let f : Found (grammar_in w) before.around.network w.sent number way = it way e w st in
      record {
        next = nothing_next (LastingHappens service w (Flip number bit)) w st
            (f.s, f.is, subst (λ b. Unless b (ComesAs service f.s.parcel (flipped bit (bytes_of (grammar_in w) f.s.parcel))) w [] w) (sym lost ∙ f.lost) (refl, refl));
        allowed = flip_allowed way e bit own spelled within w st;
      }

  -- what is brought is an event's
  module _ (way : Way) (e : IsThere way) (bytes : List ℕ) (about : Option Key) (about_is : about_at number before.around.network ≡ about)
      (lost : is_lost_at number before.around.network ≡ false) (brings : Brings service way about bytes before after) where
    comes : (w : LastingWorld) (st : WorldStands service w before) (event : Event) (changed : List ℕ → List ℕ) → bytes ≡ changed (bytes_of (grammar_in w) (it way e w st).s.parcel)
        → input_by w event ≡ arriving_sent (grammar_in w) changed (sent_at w.sent number) → IsFairStep service w event
        → ((ps : List Parcel) (v : LastingWorld) → ComesAs service (it way e w st).s.parcel bytes w ps v → LastingHappens service w event ps v)
        → ReachesNext service (LastingHappens service w event) before after
    comes w st event changed spelled input_is fair as_event =
        let f : Found (grammar_in w) before.around.network w.sent number way = it way e w st in
        let free : f.s.lost ≡ false = sym f.lost ∙ lost in
        let here : input_by w event ≡ arriving (grammar_in w) f.s.parcel bytes =
        input_is ∙ (ap (arriving_sent (grammar_in w) changed) f.is
        ∙ (if_false f.s.lost None (arriving (grammar_in w) f.s.parcel (changed (bytes_of (grammar_in w) f.s.parcel))) free ∙ ap (arriving (grammar_in w) f.s.parcel) (sym spelled))) in
        renamed service (ComesAs service f.s.parcel bytes w) (LastingHappens service w event) before after as_event
        (brings w f.s.parcel st f.goes (λ k. f.concerns k ∙ ap (λ o. names o k) about_is) (λ input a. fair.turn input (here ∙ a))
        (λ ps v c. fair.written ps v (as_event ps v c)))

    pub delivered : at_number before.around.network.packets.bytes number ≡ Some bytes → Does service (Deliver number) before after
    delivered spelled = λ w st fair.
        let f : Found (grammar_in w) before.around.network w.sent number way = it way e w st in
        let free : f.s.lost ≡ false = sym f.lost ∙ lost in
        let allowed = deliver_allowed way e w st in
        let own : bytes ≡ bytes_of (grammar_in w) f.s.parcel = some_is bytes (bytes_of (grammar_in w) f.s.parcel) (sym spelled ∙ f.bytes) in
        let ok : IsWritten (grammar_in w) f.s.parcel = written_at (grammar_in w) w.sent number f.s (fair allowed).readable f.is in
        record {
          next = comes w st (Deliver number) (λ b. b) own refl (fair allowed)
              (λ ps v c. (
                f.s,
                f.is,
                subst (λ b. Unless b (ParcelComes service f.s.parcel) w ps v) (sym free)
                    (as_whole service w f.s.parcel ps v ok (subst (λ b. ComesAs service f.s.parcel b w ps v) own c)),
              ));
          allowed = allowed;
        }

    pub flip_delivered : (bit : ℕ) (own : List ℕ) → at_number before.around.network.packets.bytes number ≡ Some own → bytes ≡ flipped bit own → bit < 8 * length own
        → Does service (Flip number bit) before after
    flip_delivered bit own spelled is within = λ w st fair.
        let f : Found (grammar_in w) before.around.network w.sent number way = it way e w st in
        let free : f.s.lost ≡ false = sym f.lost ∙ lost in
        let allowed = flip_allowed way e bit own spelled within w st in
        let parcels : own ≡ bytes_of (grammar_in w) f.s.parcel = some_is own (bytes_of (grammar_in w) f.s.parcel) (sym spelled ∙ f.bytes) in
        let changed : bytes ≡ flipped bit (bytes_of (grammar_in w) f.s.parcel) = is ∙ ap (flipped bit) parcels in
        record {
          next = comes w st (Flip number bit) (flipped bit) changed refl (fair allowed)
              (λ ps v c. (
                f.s,
                f.is,
                subst (λ b. Unless b (ComesAs service f.s.parcel (flipped bit (bytes_of (grammar_in w) f.s.parcel))) w ps v) (sym free)
                    (subst (λ b. ComesAs service f.s.parcel b w ps v) changed c),
              ));
          allowed = allowed;
        }
