-- A client of a schedule makes a move; with its first one it arrives.
use Rattle.std.proofs.Common.{◌≡◌, ◌⊎◌, inl, inr, ℕ, zero, suc, Bool, true, false, true≢false, ◌&&◌, ◌||◌, not, refl, sym, ap, ap₂, ◌∙◌, subst, append-nil, MatchBool, Option, Some, None, is_some, List, [], ◌∷◌, ◌++◌, take, slice_get, if◌then◌else◌}
use Rattle.std.specs.Prelude.{is_none}
use Rattle.std.specs.List.{AllByRecursion, list_any}
use Rattle.std.proofs.lemmas.Bool.{and_from, and_parts}
use Rattle.ft_io.specs.Key.{key_eq}
use Rattle.ft_io.proofs.Choices.{by_cases}
use Rattle.server_trait.specs.Service.{Machine}
use Rattle.ft_model.specs.Client.{Client, Move, is_new, move_asked, refusal_of_move, segment_of, moved, window_of}
use Rattle.ft_model.specs.Keys.{has_key}
use Rattle.ft_model.specs.Network.{Packet}
use Rattle.ft_model.specs.Network.Packet.{To_server}
use Rattle.ft_model.specs.Readable.{FitsEvent}
use Rattle.ft_model.specs.World.{World, Happens, Moves, with_client}
use Rattle.ft_model.specs.declared.event.Event.{Event}
use Rattle.ft_model.specs.declared.event.Event.TheVariants.{Boot, Crash, Tick, Deliver, Flip, Begin, Send, Fin, Ack, Reset, Stop}
use Rattle.ft_model.specs.declared.event.EventWhy.TheVariants as why
use Rattle.ft_model.proofs.ClientKeys.{keys_in}
use Rattle.ft_model.proofs.Exact.{same_exact}
use Rattle.ft_model.proofs.Keys.{has_key_map}
use Rattle.ft_model.proofs.Lists.{none_is_some, some_is, all_slice_get, all_append, all_weaker, key_is}
use Rattle.ft_model.proofs.SomeOutcome.{move_may, window_fits, asks_for}
use Rattle.long_laws.specs.LongTrace.{Gone, MayArrive}
use Rattle.long_laws.specs.LongTrace.LongStep.{Joint_event, Arrives}
use Rattle.long_laws.specs.QuarantineWorld.{MayQuarantine, Usually, event_input, drops}
use Rattle.long_laws.specs.QuarantineWorld.QuarantineStep.{Usual}
use Rattle.lasting_laws.specs.LastingLegal.{refusal_of_guest, refusal_of_asked, is_awaited, earlier_than}
use Rattle.lasting_laws.specs.LastingWorld.{Parcel, Guest, LastingWorld, GuestMoves, has_come, is_present, is_there, with_guest, guest_at, with_sent}
use Rattle.lasting_laws.specs.LastingWorld.{Parcel as parcels}
use Rattle.lasting_laws.specs.LastingUnseen.{usual}
use Rattle.lasting_unseen.specs.Mirror.{notes_under_way, mirrored}
use Rattle.lasting_unseen.proofs.Came.{moved_on}
use Rattle.lasting_unseen.proofs.Guests.{Guested, IsYetToCome, IsGuest, IsScripted}
use Rattle.lasting_unseen.proofs.GuestsMoved.{AllOther, Elsewhere, elsewhere, guested_moved, own_when_present, others_here, taken_when_present, others_with_new, own_when_new, taken_with_new}
use Rattle.lasting_unseen.proofs.GuestsNames.{IsGuestOf, identified_moved, identities_moved}
use Rattle.lasting_unseen.proofs.Parcels.{IsAmong, packets_more, notes_more}
use Rattle.lasting_unseen.proofs.Peopled.{Peopled}
use Rattle.lasting_unseen.proofs.Shows as shows
use Rattle.lasting_unseen.proofs.Shows.{Shows, not_dropped, quarantine_stays, no_forgets, nobody_new}
use Rattle.lasting_unseen.proofs.Vacant.{no_entry, is_clear, none_under_way}

-- why a client isn't refused its move
pub record IsAllowed (guests : List Guest) (number : ℕ) (g : Guest) (move : Move) : Type 0 where
  pub n : ℕ
  pub number_is : number ≡ suc n
  pub at : slice_get guests n ≡ Some g
  pub gone : g.gone ≡ None
  pub alone : list_any (λ x. key_eq x.client.key g.client.key && is_none x.gone) (take n guests) ≡ false
  pub free : refusal_of_move g.client move ≡ None

allowed_by : (guests : List Guest) (number : ℕ) (g : Guest) (move : Move) → guest_at guests number ≡ Some g → refusal_of_guest (earlier_than number guests) (Some g) move ≡ None → IsAllowed guests number g move
allowed_by guests zero g move at free = none_is_some g at
allowed_by guests (suc n) g move at free = on (is_some g.gone) (is_awaited (take n guests) g) refl refl free
  where
    none_of : (o : Option (List ℕ)) → is_some o ≡ false → o ≡ None
    none_of None e = refl
    none_of (Some x) e = absurd (true≢false e)

    on : (a b : Bool) → is_some g.gone ≡ a → is_awaited (take n guests) g ≡ b → (if a || b then Some why.State else refusal_of_move g.client move) ≡ None → IsAllowed guests (suc n) g move
    on true b e f h = none_is_some why.State (sym h)
    on false true e f h = none_is_some why.State (sym h)
    on false false e f h = record { n = n; number_is = refl; at = at; gone = none_of g.gone e; alone = f; free = h }

-- the event of a long trace, in which clients have other numbers
record IsEventOf {State : Type 0} (service : Machine State) (event : Event) (number : ℕ) : Type 0 where
  silent : (w : World) → event_input w event ≡ None
  happens : (before : World) (sent : List Packet) (after : World) → Moves before number sent after → Happens service before event sent after

event_of : {State : Type 0} (service : Machine State) (event : Event) (asks : ℕ × Move) → move_asked event ≡ Some asks → (number : ℕ) → (named : Event) × IsEventOf service named number
event_of service (Begin client window) asks e number = (Begin number window, record { silent = λ w. refl; happens = λ before sent after m. m })
event_of service (Send client from len) asks e number = (Send number from len, record { silent = λ w. refl; happens = λ before sent after m. m })
event_of service (Fin client) asks e number = (Fin number, record { silent = λ w. refl; happens = λ before sent after m. m })
event_of service (Ack client window) asks e number = (Ack number window, record { silent = λ w. refl; happens = λ before sent after m. m })
event_of service (Reset client) asks e number = (Reset number, record { silent = λ w. refl; happens = λ before sent after m. m })
event_of service (Boot boot isn) asks e number = none_is_some asks e
event_of service Crash asks e number = none_is_some asks e
event_of service Tick asks e number = none_is_some asks e
event_of service (Deliver n) asks e number = none_is_some asks e
event_of service (Flip n bit) asks e number = none_is_some asks e
event_of service (Stop part) asks e number = none_is_some asks e

module _ {State : Type 0} (service : Machine State) (w : LastingWorld) (clients : List Client) (past : List Gone) (o : Guested w.server w.guests clients past) (event : Event) (number : ℕ) (move : Move)
    (fits : FitsEvent event) (asked : move_asked event ≡ Some (number, move)) (g : Guest) (allowed : IsAllowed w.guests number g move) where
  abbrev later : Client
  later = moved g.client move (window_of g.client event)

  abbrev sent : List Parcel
  sent = parcels.Usual (To_server (segment_of g.client move (window_of g.client event))) ∷ []

  abbrev after : LastingWorld
  after = with_sent sent (record w { guests = with_guest (suc allowed.n) later w.guests })

  abbrev now : List Client → List Client
  now cs = with_client g.client.key (λ c. later) cs

  -- it moves, from a world in which it is there
  move_happens : (cs : List Client) (i : ℕ) → slice_get cs i ≡ Some g.client → Moves (mirrored w cs past).now (suc i) (usual sent) (mirrored after (now cs) past).now
  move_happens cs i at = record {
    client = g.client;
    segment = segment_of g.client move (window_of g.client event);
    later = later;
    is_there = at;
    move = record {
      move = move;
      window = window_of g.client event;
      timestamps = None;
      may = move_may g.client event move (asks_for event number move asked) allowed.free;
      fits = window_fits g.client event move fits (asks_for event number move asked);
      carries = refl;
      segment_is = refl;
      after_is = refl;
    };
    sent_is = refl;
    after_is = ap (λ l. record (mirrored w cs past).now { clients = now cs; packets = l }) (packets_more w.sent sent);
  }

  moves_may : (cs : List Client) → IsAmong g.client cs → (named : Event) × MayQuarantine service w.patience.wait (mirrored w cs past) (Usual (Joint_event named)) (usual sent) (mirrored after (now cs) past)
  moves_may cs there =
      let named = event_of service event (number, move) asked (suc there.0) in (
        named.0,
        shows.elsewhere service w cs past named.0 (usual sent) after (now cs) (named.1.silent (mirrored w cs past).now)
            (named.1.happens (mirrored w cs past).now (usual sent) (mirrored after (now cs) past).now (move_happens cs there.0 there.1)) refl
            (notes_more w.sent sent ∙ append-nil (notes_under_way w.sent)),
      )

  come : is_new later.phase ≡ false
  come = moved_on g.client move (window_of g.client event) allowed.free

  -- a client that is there
  present_shows : is_present g ≡ true → Shows service w clients past sent after
  present_shows present =
      let there = own_when_present w.guests clients allowed.n g allowed.at o.here present in
      let may = moves_may clients there in
      shows.moment_shows service w clients past may.0 sent after (now clients) may.1
      (guested_moved w.server w.guests past allowed.n g allowed.at allowed.gone allowed.alone o.in_turn later refl come clients there (others_here w.guests clients allowed.n o.here)
      (λ k. taken_when_present w.guests allowed.n g k allowed.at present ∙ o.taken k) clients o o.scripted refl) refl
      (λ i. identified_moved w.guests allowed.n g allowed.at allowed.gone later come refl refl clients past
      (all_weaker (IsGuestOf w.guests false) (λ c. (key_eq c.key g.client.key ≡ true) ⊎ IsGuestOf w.guests false c) clients (λ c p. inr p) i.here) i.gone)
      (identities_moved w.guests allowed.n g later allowed.at refl refl)

  -- .. and one that arrives
  module _ (peopled : Peopled service (mirrored w clients past).now) (new : has_come g ≡ false) where
    abbrev none_sent : List Packet
    none_sent = []

    abbrev with_it : List Client
    with_it = clients ++ g.client ∷ []

    nobody_yet : (gs : List Guest) (m : ℕ) → slice_get gs m ≡ Some g → AllOther (Elsewhere w.server w.guests past allowed.n g allowed.at allowed.gone allowed.alone o.in_turn) gs m
        → list_any (is_there g.client.key) gs ≡ false
    nobody_yet [] m e a = refl
    nobody_yet (x ∷ gs) zero e a =
        ap₂ (λ p q. p || q) (ap (λ y. is_there g.client.key y) (some_is x g e) ∙ (ap (λ b. key_eq g.client.key g.client.key && (b && is_none g.gone)) new ∙ never (key_eq g.client.key g.client.key))) (none_of gs a)
      where
        never : (b : Bool) → (b && false) ≡ false
        never true = refl
        never false = refl

        both_not : (a b : Bool) → (b ≡ true → a ≡ false) → (a && b) ≡ false
        both_not true true f = f refl
        both_not true false f = refl
        both_not false b f = refl

        none_of : (gs : List Guest) → AllByRecursion (Elsewhere w.server w.guests past allowed.n g allowed.at allowed.gone allowed.alone o.in_turn) gs → list_any (is_there g.client.key) gs ≡ false
        none_of [] a = refl
        none_of (x ∷ gs) a = ap₂ (λ p q. p || q) (both_not (key_eq x.client.key g.client.key) (is_present x) a.0) (none_of gs a.1)
    nobody_yet (x ∷ gs) (suc m) e a =
        ap₂ (λ p q. p || q) (both_not (key_eq x.client.key g.client.key) (is_present x) a.0) (nobody_yet gs m e a.1)
      where
        both_not : (a b : Bool) → (b ≡ true → a ≡ false) → (a && b) ≡ false
        both_not true true f = f refl
        both_not true false f = refl
        both_not false b f = refl

    nobody : has_key g.client.key (keys_in clients) ≡ false
    nobody =
        sym (o.taken g.client.key)
        ∙ nobody_yet w.guests allowed.n allowed.at (elsewhere w.server w.guests past allowed.n g allowed.at allowed.gone allowed.alone o.in_turn)

    own_kind : IsGuest w.server g
    own_kind = all_slice_get (IsGuest w.server) w.guests allowed.n g o.kinds allowed.at

    may_arrive : MayArrive g.client (mirrored w clients past).now
    may_arrive = record {
      new = (all_slice_get (IsYetToCome w.server) w.guests allowed.n g o.new allowed.at new).0;
      apart = and_from _ _ (and_parts _ true own_kind.1).0 (ap not (has_key_map (λ c. c.key) g.client.key clients ∙ nobody));
      absent = no_entry service (mirrored w clients past).now peopled g.client.key nobody;
      clear = is_clear service (mirrored w clients past).now peopled g.client.key nobody;
      unreceived = none_under_way service (mirrored w clients past).now peopled g.client.key nobody;
    }

    arrives : MayQuarantine service w.patience.wait (mirrored w clients past) (Usual (Arrives g.client)) [] (mirrored w with_it past)
    arrives = (refl, both)
      where
        usually : Usually service w.patience.wait (mirrored w clients past) (Arrives g.client) [] (mirrored w with_it past)
        usually = record {
          passes = (may_arrive, refl, refl, refl);
          quarantine = quarantine_stays w.node;
          notes = sym (append-nil (notes_under_way w.sent)) ∙ ap (λ l. notes_under_way w.sent ++ l) (sym (no_forgets w.patience.wait (mirrored w clients past).now.node (mirrored w clients past).quarantine));
          fresh = nobody_new (mirrored w clients past).now.node (notes_under_way w.sent);
        }

        both : MatchBool (drops w.patience.wait (mirrored w clients past).now.node None (mirrored w clients past).quarantine) ((none_sent ≡ []) × (mirrored w with_it past ≡ mirrored w clients past))
            (Usually service w.patience.wait (mirrored w clients past) (Arrives g.client) [] (mirrored w with_it past))
        both = rw (not_dropped w.patience.wait (mirrored w clients past).now.node (mirrored w clients past).quarantine) usually

    arrival_shows : Shows service w clients past sent after
    arrival_shows =
        let may = moves_may with_it (own_when_new clients g.client) in
        record {
          later = now with_it;
          gone = past;
          passes = record {
            moments =
                record { step = Usual (Arrives g.client); sent = []; world = mirrored w with_it past }
                ∷ record { step = Usual (Joint_event may.0); sent = usual sent; world = mirrored after (now with_it) past } ∷ [];
            leads = (arrives, (may.1, refl));
            sent_is = refl;
            in_view = (inl refl, (inr (refl, refl), tt));
            exact = inr (same_exact service w.log (mirrored w clients past).now.node);
          };
          guested = guested_moved w.server w.guests past allowed.n g allowed.at allowed.gone allowed.alone o.in_turn later refl come with_it (own_when_new clients g.client)
              (others_with_new w.guests clients g.client allowed.n o.here)
              (λ k. ap (λ b. key_eq g.client.key k || b) (o.taken k) ∙ taken_with_new clients g.client k) clients o (all_append IsScripted clients (g.client ∷ []) o.scripted (own_kind.0, tt)) refl;
          patience = refl;
          identified = λ i. identified_moved w.guests allowed.n g allowed.at allowed.gone later come refl refl with_it past
              (all_append (λ c. (key_eq c.key g.client.key ≡ true) ⊎ IsGuestOf w.guests false c) clients (g.client ∷ [])
              (all_weaker (IsGuestOf w.guests false) (λ c. (key_eq c.key g.client.key ≡ true) ⊎ IsGuestOf w.guests false c) clients (λ c p. inr p) i.here) (inl (key_is g.client.key), tt)) i.gone;
          identities = identities_moved w.guests allowed.n g later allowed.at refl refl;
        }

  move_shows : Peopled service (mirrored w clients past).now → Shows service w clients past sent after
  move_shows peopled =
      by_cases (has_come g)
      (λ t. present_shows (ap₂ (λ a b. a && is_none b) t allowed.gone)) (λ t. arrival_shows peopled t)

-- what an event asks of a client
pub guest_shows : {State : Type 0} (service : Machine State) (w : LastingWorld) (clients : List Client) (past : List Gone) (event : Event) (sent : List Parcel) (after : LastingWorld)
    → Guested w.server w.guests clients past → Peopled service (mirrored w clients past).now → FitsEvent event → refusal_of_asked w.guests (move_asked event) ≡ None → GuestMoves w event sent after
    → Shows service w clients past sent after
guest_shows service w clients past event out then_ o peopled fits free m =
    let free_here : refusal_of_guest (earlier_than m.number w.guests) (Some m.guest) m.move ≡ None =
    sym (ap (λ x. refusal_of_asked w.guests x) m.asked ∙ ap (λ x. refusal_of_guest (earlier_than m.number w.guests) x m.move) m.found) ∙ free in
    let allowed : IsAllowed w.guests m.number m.guest m.move = allowed_by w.guests m.number m.guest m.move m.found free_here in
    let is : then_ ≡ with_sent (parcels.Usual (To_server (segment_of m.guest.client m.move (window_of m.guest.client event))) ∷ [])
    (record w { guests = with_guest (suc allowed.n) (moved m.guest.client m.move (window_of m.guest.client event)) w.guests }) =
    m.after_is ∙ λ i. with_sent (m.parcels_are i) (record w { guests = with_guest (allowed.number_is i) (moved m.guest.client m.move (window_of m.guest.client event)) w.guests }) in
    subst (λ l. Shows service w clients past l then_) (sym m.parcels_are)
    (subst (Shows service w clients past (parcels.Usual (To_server (segment_of m.guest.client m.move (window_of m.guest.client event))) ∷ [])) (sym is)
    (move_shows service w clients past o event m.number m.move fits m.asked m.guest allowed peopled))
