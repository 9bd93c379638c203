-- A moment is determined by its event and by the world before it, and whatever was sent stays, lost or not.
use Rattle.std.proofs.Common.{◌≡◌, ◌∙◌, ℕ, ◌+◌, Bool, true, false, refl, sym, ap, ap₂, subst, arith, Option, None, Some, Result, Ok, Err, List, [], ◌∷◌, ◌++◌, map, length, length-append}
use Rattle.std.proofs.lemmas.List.{length-map}
use Rattle.ft_io.specs.declared.Key.{Key}
use Rattle.seq_arith.specs.Damage.{flipped}
use Rattle.seq_arith.specs.Message.{Message}
use Rattle.seq_arith.specs.Packet.{Segment}
use Rattle.seq_arith.specs.PacketGrammar as segments
use Rattle.seq_arith.specs.declared.BadPacket.{BadPacket}
use Rattle.server_trait.specs.Service.{Machine}
use Rattle.std.specs.Option.{option_to_list}
use Rattle.std.specs.Prelude.{option_map}
use Rattle.ft_model.specs.Client.{Client, Move, segment_of, moved, window_of}
use Rattle.ft_model.specs.Lawful.{hello}
use Rattle.ft_model.specs.Log.{log_after, answer_to}
use Rattle.ft_model.specs.Network.{Packet, destination_of}
use Rattle.ft_model.specs.Network.Packet.{To_server, To_client, To_logger, From_logger}
use Rattle.ft_model.specs.Node.{booted}
use Rattle.ft_model.specs.Node.Input.{Packet_comes, Message_comes, Tick_comes}
use Rattle.ft_model.specs.World.{segment_or_noise}
use Rattle.ft_model.specs.declared.event.Event.{Event}
use Rattle.ft_model.specs.declared.event.Event.TheVariants.{Boot, Crash, Tick, Deliver, Flip, Begin, Send, Fin, Ack, Reset, Stop}
use Rattle.ft_model.proofs.Lists.{some_is}
use Rattle.long_laws.specs.Forgetting.{ForgetMessage, after_forget, answer_to_forget}
use Rattle.long_laws.specs.QuarantineWorld.{recycled_by}
use Rattle.lasting_laws.specs.LastingTurn.{LastingNode, LastingInput, booted_to_last}
use Rattle.lasting_laws.specs.LastingTurn.LastingInput.{Usual_comes, Forget_comes}
use Rattle.lasting_laws.specs.LastingWorld.{Parcel, Sent, Guest, LastingWorld, LastingHappens, GuestMoves, ServerTurn, ServerMoves, ClientReceives, ClientReads, LogReceives, LogForgets, LogReads, NothingHappens, ParcelComes, ComesAs, Unless, Said, with_sent, under_way, parcels_of, received_by, answer_parcel, with_recycled, lost_with, bytes_of, grammar_in, said_by, said_to_server, sent_at, guest_at, with_guest}
use Rattle.lasting_laws.specs.LastingWorld.Parcel.{Usual, Forget_sent, Forgotten_sent}
use Rattle.lasting_laws.specs.LastingWorld.Said.{Says, Says_of_forgetting, Says_nothing}
use Rattle.lasting_traces.proofs.OneTurn.{lasting_turn_once}

abbrev Same : (s t : List Parcel) (w x : LastingWorld) → Type 0
Same s t w x = (s ≡ t) × (w ≡ x)

-- where the parcels are given, and the world by them
both_are : (sent : List Parcel) (then : List Parcel → LastingWorld) (s t : List Parcel) (w x : LastingWorld) → (s ≡ sent) × (w ≡ then s) → (t ≡ sent) × (x ≡ then t) → Same s t w x
both_are sent then s t w x p q = let e : s ≡ t = p.0 ∙ sym q.0 in (e, p.1 ∙ (ap then e ∙ sym q.1))

module _ {State : Type 0} (service : Machine State) where
  server_by : (input : LastingInput) (o : Option LastingNode) (before w x : LastingWorld) (s t : List Parcel) → ServerTurn service input o before s w → ServerTurn service input o before t x → Same s t w x
  server_by input None before w x s t p q = both_are [] (λ _. before) s t w x p q
  server_by input (Some node) before w x s t p q =
      let once = lasting_turn_once service before.patience node input p.1 q.1 p.0 q.0 p.2 q.2 in
      let sent : s ≡ t = p.3 ∙ (ap parcels_of once.0 ∙ sym q.3) in
      (sent, p.4 ∙ (ap₂ (λ (n : LastingNode) (ps : List Parcel). with_sent ps (record before { node = Some n })) once.1 sent ∙ sym q.4))

  server_once : (input : LastingInput) (before w x : LastingWorld) (s t : List Parcel) → ServerMoves service input before s w → ServerMoves service input before t x → Same s t w x
  server_once input before w x s t p q = server_by input before.node before w x s t p q

  receives_once : (key : Key) (segment : Segment) (before w x : LastingWorld) (s t : List Parcel) → ClientReceives key segment before s w → ClientReceives key segment before t x → Same s t w x
  receives_once key segment before w x s t p q = both_are [] (λ _. record before { guests = map (received_by key segment) before.guests }) s t w x p q

  reads_once : (key : Key) (r : Result Segment BadPacket) (before w x : LastingWorld) (s t : List Parcel) → ClientReads key r before s w → ClientReads key r before t x → Same s t w x
  reads_once key (Ok segment) before w x s t p q = receives_once key segment before w x s t p q
  reads_once key (Err why) before w x s t p q = both_are [] (λ _. before) s t w x p q

  log_once : (message : Message) (before w x : LastingWorld) (s t : List Parcel) → LogReceives message before s w → LogReceives message before t x → Same s t w x
  log_once message before w x s t p q =
      both_are (map Usual (option_to_list (option_map From_logger (answer_to before.log message)))) (λ ps. with_sent ps (record before { log = log_after before.log message })) s t w x p q

  forgets_once : (message : ForgetMessage) (before w x : LastingWorld) (s t : List Parcel) → LogForgets message before s w → LogForgets message before t x → Same s t w x
  forgets_once message before w x s t p q =
      both_are (map answer_parcel (option_to_list (answer_to_forget before.log message)))
      (λ ps. with_sent ps (record (with_recycled (recycled_by message before.log) before) { log = after_forget before.log message })) s t w x p q

  said_once : (said : Said) (before w x : LastingWorld) (s t : List Parcel) → LogReads said before s w → LogReads said before t x → Same s t w x
  said_once (Says message) before w x s t p q = log_once message before w x s t p q
  said_once (Says_of_forgetting message) before w x s t p q = forgets_once message before w x s t p q
  said_once Says_nothing before w x s t p q = both_are [] (λ _. before) s t w x p q

  comes_once : (parcel : Parcel) (before w x : LastingWorld) (s t : List Parcel) → ParcelComes service parcel before s w → ParcelComes service parcel before t x → Same s t w x
  comes_once (Usual (To_server segment)) before w x s t p q = server_once (Usual_comes (Packet_comes segment)) before w x s t p q
  comes_once (Usual (To_client segment)) before w x s t p q = receives_once (destination_of segment) segment before w x s t p q
  comes_once (Usual (To_logger message)) before w x s t p q = log_once message before w x s t p q
  comes_once (Usual (From_logger message)) before w x s t p q = server_once (Usual_comes (Message_comes message)) before w x s t p q
  comes_once (Forget_sent message) before w x s t p q = forgets_once message before w x s t p q
  comes_once (Forgotten_sent message) before w x s t p q = server_once (Forget_comes message) before w x s t p q

  changed_once : (parcel : Parcel) (bytes : List ℕ) (before w x : LastingWorld) (s t : List Parcel) → ComesAs service parcel bytes before s w → ComesAs service parcel bytes before t x → Same s t w x
  changed_once (Usual (To_server segment)) bytes before w x s t p q = server_once (Usual_comes (segment_or_noise (segments.reading bytes))) before w x s t p q
  changed_once (Usual (To_client segment)) bytes before w x s t p q = reads_once (destination_of segment) (segments.reading bytes) before w x s t p q
  changed_once (Usual (To_logger message)) bytes before w x s t p q = said_once (said_by (grammar_in before) bytes) before w x s t p q
  changed_once (Usual (From_logger message)) bytes before w x s t p q = server_once (said_to_server (said_by (grammar_in before) bytes)) before w x s t p q
  changed_once (Forget_sent message) bytes before w x s t p q = said_once (said_by (grammar_in before) bytes) before w x s t p q
  changed_once (Forgotten_sent message) bytes before w x s t p q = server_once (said_to_server (said_by (grammar_in before) bytes)) before w x s t p q

  abbrev Once : (LastingWorld → List Parcel → LastingWorld → Type 0) → Type 0
  Once Goes = (before w x : LastingWorld) (s t : List Parcel) → Goes before s w → Goes before t x → Same s t w x

  unless_once : (lost : Bool) (Goes : LastingWorld → List Parcel → LastingWorld → Type 0) → Once Goes → Once (Unless lost Goes)
  unless_once true Goes once before w x s t p q = both_are [] (λ _. before) s t w x p q
  unless_once false Goes once before w x s t p q = once before w x s t p q

  moves_once : (event : Event) (before w x : LastingWorld) (s t : List Parcel) → GuestMoves before event s w → GuestMoves before event t x → Same s t w x
  moves_once event before w x s t p q =
      let asks : ◌≡◌ {A = ℕ × Move} (p.number, p.move) (q.number, q.move) = some_is _ _ (sym p.asked ∙ q.asked) in
      let guest : p.guest ≡ q.guest = some_is _ _ (sym p.found ∙ (ap (λ (a : ℕ × Move). guest_at before.guests a.0) asks ∙ q.found)) in
      let sent : s ≡ t =
      p.parcels_are
      ∙ (ap₂ (λ (a : ℕ × Move) (g : Guest). Usual (To_server (segment_of g.client a.1 (window_of g.client event))) ∷ []) asks guest ∙ sym q.parcels_are) in
      let world : with_sent s (record before { guests = with_guest p.number (moved p.guest.client p.move (window_of p.guest.client event)) before.guests })
      ≡ with_sent t (record before { guests = with_guest q.number (moved q.guest.client q.move (window_of q.guest.client event)) before.guests }) =
      λ i. with_sent (sent i) (record before { guests = with_guest (asks i).0 (moved (guest i).client (asks i).1 (window_of (guest i).client event)) before.guests }) in
      (sent, p.after_is ∙ (world ∙ sym q.after_is))

  pub moment_once : (event : Event) (before w x : LastingWorld) (s t : List Parcel) → LastingHappens service before event s w → LastingHappens service before event t x → Same s t w x
  moment_once (Boot boot isn) before w x s t p q =
      both_are (map Usual (hello (booted before.server before.profile boot isn)))
      (λ ps. with_sent ps (record before { boot = boot; node = Some (booted_to_last before.server before.profile boot isn) })) s t w x p q
  moment_once Crash before w x s t p q = both_are [] (λ _. record before { node = None }) s t w x p q
  moment_once Tick before w x s t p q = server_once (Usual_comes Tick_comes) before w x s t p q
  moment_once (Deliver number) before w x s t p q =
      let same : p.0 ≡ q.0 = some_is p.0 q.0 (sym p.1 ∙ q.1) in
      unless_once q.0.lost (ParcelComes service q.0.parcel) (comes_once q.0.parcel) before w x s t
      (subst (λ (r : Sent). Unless r.lost (ParcelComes service r.parcel) before s w) same p.2) q.2
  moment_once (Flip number bit) before w x s t p q =
      let same : p.0 ≡ q.0 = some_is p.0 q.0 (sym p.1 ∙ q.1) in
      unless_once q.0.lost (ComesAs service q.0.parcel (flipped bit (bytes_of (grammar_in before) q.0.parcel)))
      (changed_once q.0.parcel (flipped bit (bytes_of (grammar_in before) q.0.parcel))) before w x s t
      (subst (λ (r : Sent). Unless r.lost (ComesAs service r.parcel (flipped bit (bytes_of (grammar_in before) r.parcel))) before s w) same p.2) q.2
  moment_once (Begin client window) before w x s t p q = moves_once (Begin client window) before w x s t p q
  moment_once (Send client from len) before w x s t p q = moves_once (Send client from len) before w x s t p q
  moment_once (Fin client) before w x s t p q = moves_once (Fin client) before w x s t p q
  moment_once (Ack client window) before w x s t p q = moves_once (Ack client window) before w x s t p q
  moment_once (Reset client) before w x s t p q = moves_once (Reset client) before w x s t p q
  moment_once (Stop part) before w x s t p q = absurd p

-- whatever was sent stays, and what is sent is added
abbrev pub Grows : LastingWorld → List Parcel → LastingWorld → Type 0
Grows before parcels after = length after.sent ≡ length before.sent + length parcels

added : (sent : List Sent) (parcels : List Parcel) → length (sent ++ under_way parcels) ≡ length sent + length parcels
added sent parcels = length-append sent (under_way parcels) ∙ ap (λ n. length sent + n) (length-map parcels _)

nothing_added : (before : LastingWorld) (parcels : List Parcel) (after : LastingWorld) → parcels ≡ [] → length after.sent ≡ length before.sent → Grows before parcels after
nothing_added before parcels after none same = let no : length parcels ≡ 0 = ap length none in omega (arith, same, no)

recycled_sent : (o : Option Key) (w : LastingWorld) → length (with_recycled o w).sent ≡ length w.sent
recycled_sent (Some key) w = length-map w.sent (lost_with key)
recycled_sent None w = refl

module _ {State : Type 0} (service : Machine State) where
  server_grows : (input : LastingInput) (o : Option LastingNode) (before : LastingWorld) (s : List Parcel) (w : LastingWorld) → ServerTurn service input o before s w → Grows before s w
  server_grows input None before s w p = nothing_added before s w p.0 (ap (λ (v : LastingWorld). length v.sent) p.1)
  server_grows input (Some node) before s w p = ap (λ (v : LastingWorld). length v.sent) p.4 ∙ added before.sent s

  stays : (before : LastingWorld) (s : List Parcel) (w : LastingWorld) → NothingHappens before s w → Grows before s w
  stays before s w p = nothing_added before s w p.0 (ap (λ (v : LastingWorld). length v.sent) p.1)

  receives_grows : (key : Key) (segment : Segment) (before : LastingWorld) (s : List Parcel) (w : LastingWorld) → ClientReceives key segment before s w → Grows before s w
  receives_grows key segment before s w p = nothing_added before s w p.0 (ap (λ (v : LastingWorld). length v.sent) p.1)

  reads_grows : (key : Key) (r : Result Segment BadPacket) (before : LastingWorld) (s : List Parcel) (w : LastingWorld) → ClientReads key r before s w → Grows before s w
  reads_grows key (Ok segment) before s w p = receives_grows key segment before s w p
  reads_grows key (Err why) before s w p = stays before s w p

  log_grows : (message : Message) (before : LastingWorld) (s : List Parcel) (w : LastingWorld) → LogReceives message before s w → Grows before s w
  log_grows message before s w p = ap (λ (v : LastingWorld). length v.sent) p.1 ∙ added before.sent s

  forgets_grow : (message : ForgetMessage) (before : LastingWorld) (s : List Parcel) (w : LastingWorld) → LogForgets message before s w → Grows before s w
  forgets_grow message before s w p =
      ap (λ (v : LastingWorld). length v.sent) p.1
      ∙ (added (with_recycled (recycled_by message before.log) before).sent s ∙ ap (λ n. n + length s) (recycled_sent (recycled_by message before.log) before))

  said_grows : (said : Said) (before : LastingWorld) (s : List Parcel) (w : LastingWorld) → LogReads said before s w → Grows before s w
  said_grows (Says message) before s w p = log_grows message before s w p
  said_grows (Says_of_forgetting message) before s w p = forgets_grow message before s w p
  said_grows Says_nothing before s w p = stays before s w p

  comes_grows : (parcel : Parcel) (before : LastingWorld) (s : List Parcel) (w : LastingWorld) → ParcelComes service parcel before s w → Grows before s w
  comes_grows (Usual (To_server segment)) before s w p = server_grows (Usual_comes (Packet_comes segment)) before.node before s w p
  comes_grows (Usual (To_client segment)) before s w p = receives_grows (destination_of segment) segment before s w p
  comes_grows (Usual (To_logger message)) before s w p = log_grows message before s w p
  comes_grows (Usual (From_logger message)) before s w p = server_grows (Usual_comes (Message_comes message)) before.node before s w p
  comes_grows (Forget_sent message) before s w p = forgets_grow message before s w p
  comes_grows (Forgotten_sent message) before s w p = server_grows (Forget_comes message) before.node before s w p

  changed_grows : (parcel : Parcel) (bytes : List ℕ) (before : LastingWorld) (s : List Parcel) (w : LastingWorld) → ComesAs service parcel bytes before s w → Grows before s w
  changed_grows (Usual (To_server segment)) bytes before s w p = server_grows (Usual_comes (segment_or_noise (segments.reading bytes))) before.node before s w p
  changed_grows (Usual (To_client segment)) bytes before s w p = reads_grows (destination_of segment) (segments.reading bytes) before s w p
  changed_grows (Usual (To_logger message)) bytes before s w p = said_grows (said_by (grammar_in before) bytes) before s w p
  changed_grows (Usual (From_logger message)) bytes before s w p = server_grows (said_to_server (said_by (grammar_in before) bytes)) before.node before s w p
  changed_grows (Forget_sent message) bytes before s w p = said_grows (said_by (grammar_in before) bytes) before s w p
  changed_grows (Forgotten_sent message) bytes before s w p = server_grows (said_to_server (said_by (grammar_in before) bytes)) before.node before s w p

  unless_grows : (lost : Bool) (Goes : LastingWorld → List Parcel → LastingWorld → Type 0) → ((before : LastingWorld) (s : List Parcel) (w : LastingWorld) → Goes before s w → Grows before s w)
      → (before : LastingWorld) (s : List Parcel) (w : LastingWorld) → Unless lost Goes before s w → Grows before s w
  unless_grows true Goes grows before s w p = stays before s w p
  unless_grows false Goes grows before s w p = grows before s w p

  moves_grow : (event : Event) (before : LastingWorld) (s : List Parcel) (w : LastingWorld) → GuestMoves before event s w → Grows before s w
  moves_grow event before s w p = ap (λ (v : LastingWorld). length v.sent) p.after_is ∙ added before.sent s

  pub moment_grows : (event : Event) (before : LastingWorld) (s : List Parcel) (w : LastingWorld) → LastingHappens service before event s w → Grows before s w
  moment_grows (Boot boot isn) before s w p = ap (λ (v : LastingWorld). length v.sent) p.1 ∙ added before.sent s
  moment_grows Crash before s w p = stays_with p
    where
      stays_with : (s ≡ []) × (w ≡ record before { node = None }) → Grows before s w
      stays_with q = nothing_added before s w q.0 (ap (λ (v : LastingWorld). length v.sent) q.1)
  moment_grows Tick before s w p = server_grows (Usual_comes Tick_comes) before.node before s w p
  moment_grows (Deliver number) before s w p = unless_grows p.0.lost (ParcelComes service p.0.parcel) (comes_grows p.0.parcel) before s w p.2
  moment_grows (Flip number bit) before s w p =
      unless_grows p.0.lost (ComesAs service p.0.parcel (flipped bit (bytes_of (grammar_in before) p.0.parcel)))
      (changed_grows p.0.parcel (flipped bit (bytes_of (grammar_in before) p.0.parcel))) before s w p.2
  moment_grows (Begin client window) before s w p = moves_grow (Begin client window) before s w p
  moment_grows (Send client from len) before s w p = moves_grow (Send client from len) before s w p
  moment_grows (Fin client) before s w p = moves_grow (Fin client) before s w p
  moment_grows (Ack client window) before s w p = moves_grow (Ack client window) before s w p
  moment_grows (Reset client) before s w p = moves_grow (Reset client) before s w p
  moment_grows (Stop part) before s w p = absurd p
