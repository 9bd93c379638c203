-- A client's move, in the code and in the world of the definitions.
use Rattle.std.proofs.Common.{◌≡◌, ◌∙◌, ℕ, zero, suc, ◌+◌, ◌-◌, ◌<◌, ◌≤◌, Bool, true, false, true≢false, sym, ap, subst, refl, arith, Option, None, Some, is_some, is_none, option_map, List, [], ◌∷◌, ◌++◌, length, get_or, slice_get, take, drop, min, length-append, length-drop, if◌then◌else◌}
use Rattle.std.proofs.Math.ListN.{set}
use Rattle.std.proofs.lemmas.Bool.{and_parts, or_parts}
use Rattle.std.proofs.lemmas.List.{take-append-le, take_all}
use Rattle.std.specs.Prelude.{Result, Ok, Err, IfErr, IsErrAnd}
use Rattle.ft_io.specs.declared.Key.{Key}
use Rattle.ft_io.specs.Key.{key_eq}
use Rattle.seq_arith.specs.Packet.{Segment}
use Rattle.seq_arith.specs.PacketGrammar.{spelling}
use Rattle.ft_model.specs.Client.{Client, Move, is_new, is_open, is_opening, move_asked, mover_of, move_of, window_of, segment_of, moved, phase_after, suits_phase, suits_range, refusal_of_move}
use Rattle.ft_model.specs.Client.Move.{Syn, Text, Fin, Acknowledge, Rst, Refuse}
use Rattle.ft_model.specs.Network.Packet.{To_server}
use Rattle.ft_model.specs.declared.event.Event.{Event}
use Rattle.ft_model.specs.declared.event.EventWhy.{EventWhy}
use Rattle.ft_model.specs.declared.event.EventWhy.TheVariants as why
use Rattle.ft_model.specs.declared.phase.Phase.{Phase}
use Rattle.ft_model.specs.declared.phase.Phase.TheVariants as phases
use Rattle.ft_model.specs.declared.way.Way.TheVariants.{ClientToServer}
use Rattle.ft_model.proofs.Lists.{none_is_some, some_is}
use Rattle.ft_model.proofs.SomeOutcome.{asks}
use Rattle.peer_client.specs.Scripted.{Makes, Refuses}
use Rattle.schedule_network.specs.declared.end.StepEnd.{StepEnd}
use Rattle.schedule_network.specs.declared.end.StepEnd.TheVariants.{BadEvent}
use Rattle.lasting_laws.specs.LastingLegal.{is_awaited, earlier_than, refusal_of_guest, refusal_of_asked}
use Rattle.lasting_laws.specs.LastingReport.{number_of_guest}
use Rattle.lasting_laws.specs.LastingWorld as law
use Rattle.lasting_laws.specs.LastingWorld.{Parcel, LastingWorld, guest_at, with_guest, with_sent, grammar_in}
use Rattle.lasting_laws.specs.LastingWorld.Parcel.{Usual}
use Rattle.lasting_world.specs.Around.{KeptAround, AroundStands, MovesNext}
use Rattle.lasting_world.specs.Guests.{GuestStands, GuestsStand, is_off}
use Rattle.lasting_world.specs.NetworkView.{AddsPacket}
use Rattle.lasting_world.specs.declared.guest.Guest.{Guest}
use Rattle.lasting_world.specs.declared.network.Network.{Network}
use Rattle.lasting_world.proofs.Moves.{off_is, moved_turns, comes_last}
use Rattle.lasting_world.proofs.Networks.{adds}

-- the move that is asked of a client
both_asked : (event : Event) (number : ℕ) (move : Move) → mover_of event ≡ Some number → move_of event ≡ Some move → move_asked event ≡ Some (number, move)
both_asked event number move e f =
    let a = asks (move_asked event) number e in
    let same : a.0 ≡ move = some_is a.0 move (sym (subst (λ o. option_map (λ x. x.1) o ≡ Some a.0) (sym a.1) refl) ∙ f) in
    a.1 ∙ ap (λ m. Some (number, m)) same

-- what was written in front of a room
pub written_front : (packet room written : List ℕ) (count size : ℕ) → written ≡ packet ++ drop count room → length room ≡ size → length written ≡ size → take (min count size) written ≡ packet
written_front packet room written count size e r l =
    let parts : length packet + (length room - count) ≡ size = sym (length-append packet (drop count room) ∙ ap (λ n. length packet + n) (length-drop count room)) ∙ sym (ap length e) ∙ l in
    let fits : min count size ≡ length packet = omega arith in
    rw (e, fits) (take-append-le (length packet) packet (drop count room) (omega arith) ∙ take_all (length packet) packet (omega arith))

-- the client at a place
record HasGuest (place : ℕ) (gs : List law.Guest) (now : Guest) : Type 0 where
  pub guest : law.Guest
  pub found : slice_get gs place ≡ Some guest
  pub stands : GuestStands now guest

has_guest : (place : ℕ) (guests : List Guest) (gs : List law.Guest) (now : Guest) → GuestsStand guests gs → place < length guests → now ≡ get_or guests place now → HasGuest place gs now
has_guest place [] gs now s h e = absurd (omega arith)
has_guest zero (x ∷ more) (g ∷ others) now s h e = record { guest = g; found = refl; stands = subst (λ y. GuestStands y g) (sym e) s.0 }
has_guest (suc place) (x ∷ more) (g ∷ others) now s h e =
    let r : HasGuest place others now = has_guest place more others now s.1 (omega arith) e in
    record { guest = r.guest; found = r.found; stands = r.stands }
has_guest place (x ∷ more) [] now s h e = absurd s

as_many : (guests : List Guest) (gs : List law.Guest) → GuestsStand guests gs → length guests ≡ length gs
as_many [] [] s = refl
as_many (x ∷ more) (g ∷ others) s = ap suc (as_many more others s.1)
as_many [] (g ∷ others) s = absurd s
as_many (x ∷ more) [] s = absurd s

past_all : {A : Type 0} (xs : List A) (n : ℕ) → length xs ≤ n → slice_get xs n ≡ None
past_all [] n h = refl
past_all (x ∷ xs) zero h = absurd (omega arith)
past_all (x ∷ xs) (suc n) h = past_all xs n (omega arith)

none_at : (gs : List law.Guest) (number : ℕ) → (0 < number → length gs < number) → guest_at gs number ≡ None
none_at gs zero h = refl
none_at gs (suc n) h = let many : length gs < suc n = h (omega arith) in past_all gs n (omega (arith, many))

-- there is no such client
pub no_guest : (guests : List Guest) (gs : List law.Guest) (event : Event) (number : ℕ) → GuestsStand guests gs → mover_of event ≡ Some number → (0 < number → length guests < number)
    → refusal_of_asked gs (move_asked event) ≡ Some why.Client
no_guest guests gs event number s by h =
    let a = asks (move_asked event) number by in
    let many : length guests ≡ length gs = as_many guests gs s in
    ap (refusal_of_asked gs) a.1 ∙ ap (λ o. refusal_of_guest (earlier_than number gs) o a.0) (none_at gs number (λ p. let far = h p in omega (arith, many, far)))

-- whether the client at a place makes its move
refusal_at : (place : ℕ) (guests : List Guest) (gs : List law.Guest) (event : Event) (g : law.Guest) (move : Move) → GuestsStand guests gs → slice_get gs place ≡ Some g
    → move_asked event ≡ Some (suc place, move) → refusal_of_asked gs (move_asked event) ≡ (if is_off guests place then Some why.State else refusal_of_move g.client move)
refusal_at place guests gs event g move s found asked =
    ap (refusal_of_asked gs) asked
    ∙ (ap (λ o. refusal_of_guest (take place gs) o move) found ∙ ap (λ b. if b then Some why.State else refusal_of_move g.client move) (sym (off_is place guests gs s g found)))

-- a client that is gone, or whose turn hasn't come
guest_there : (place : ℕ) (guests : List Guest) (gs : List law.Guest) → GuestsStand guests gs → place < length guests → (g : law.Guest) × (slice_get gs place ≡ Some g)
guest_there place [] gs s h = absurd (omega arith)
guest_there zero (x ∷ more) (g ∷ others) s h = (g, refl)
guest_there (suc place) (x ∷ more) (g ∷ others) s h = guest_there place more others s.1 (omega arith)
guest_there place (x ∷ more) [] s h = absurd s

pub guest_off : (number place : ℕ) (guests : List Guest) (gs : List law.Guest) (event : Event) → GuestsStand guests gs → number ≡ suc place → place < length guests → mover_of event ≡ Some number
    → is_off guests place ≡ true → refusal_of_asked gs (move_asked event) ≡ Some why.State
guest_off number place guests gs event s e inside by off =
    let g = guest_there place guests gs s inside in
    let a = asks (move_asked event) (suc place) (by ∙ ap Some e) in
    refusal_at place guests gs event g.0 a.0 s g.1 a.1 ∙ ap (λ b. if b then Some why.State else refusal_of_move g.0.client a.0) off

-- one whose state doesn't allow the move
pub guest_refused : (number place : ℕ) (guests : List Guest) (gs : List law.Guest) (event : Event) (now : Guest) (cause : EventWhy) → GuestsStand guests gs → number ≡ suc place → place < length guests
    → mover_of event ≡ Some number → is_off guests place ≡ false → now ≡ get_or guests place now → Refuses now.client event cause → refusal_of_asked gs (move_asked event) ≡ Some cause
guest_refused number place guests gs event now cause s e inside by on is r =
    let at : HasGuest place gs now = has_guest place guests gs now s inside is in
    refusal_at place guests gs event at.guest r.move s at.found (both_asked event (suc place) r.move (by ∙ ap Some e) r.asked)
    ∙ (ap (λ b. if b then Some why.State else refusal_of_move at.guest.client r.move) on ∙ (ap (λ (c : Client). refusal_of_move c r.move) (sym at.stands.client) ∙ r.refused))

-- a client that has moved has come
suits : (a b : Bool) → (if a then (if b then None else Some why.Range) else Some why.State) ≡ None → a ≡ true
suits true b e = refl
suits false b e = none_is_some why.State (sym e)

open_isnt_new : (p : Phase) → is_open p ≡ true → is_new p ≡ false
open_isnt_new phases.New e = absurd (true≢false (sym e))
open_isnt_new phases.Opening e = refl
open_isnt_new phases.Established e = refl
open_isnt_new phases.Ended e = refl
open_isnt_new phases.Reset e = refl

opening_isnt_new : (p : Phase) → is_opening p ≡ true → is_new p ≡ false
opening_isnt_new phases.New e = absurd (true≢false (sym e))
opening_isnt_new phases.Opening e = refl
opening_isnt_new phases.Established e = refl
opening_isnt_new phases.Ended e = refl
opening_isnt_new phases.Reset e = refl

has_moved : (c : Client) (move : Move) → suits_phase c move ≡ true → is_new (phase_after c.phase move) ≡ false
has_moved c (Syn mss) e = refl
has_moved c (Text from len) e = open_isnt_new c.phase (and_parts (is_open c.phase) _ e).0
has_moved c Fin e = open_isnt_new c.phase (and_parts (is_open c.phase) _ e).0
has_moved c Acknowledge e = open_isnt_new c.phase e
has_moved c Rst e = refl
has_moved c (Refuse number) e = opening_isnt_new c.phase e

isnt_gone : {A : Type 0} (o : Option A) → is_some o ≡ false → is_none o ≡ true
isnt_gone None e = refl
isnt_gone (Some x) e = absurd (true≢false e)

-- the client at a place has moved
set_stands : (place : ℕ) (guests : List Guest) (gs : List law.Guest) (g : law.Guest) (y : Guest) (client : Client) → GuestsStand guests gs → slice_get gs place ≡ Some g
    → GuestStands y (record g { client = client }) → GuestsStand (set guests place y) (with_guest (suc place) client gs)
set_stands place [] [] g y client s found st = none_is_some g found
set_stands zero (x ∷ more) (h ∷ others) g y client s found st = (subst (λ (k : law.Guest). GuestStands y (record k { client = client })) (sym (some_is h g found)) st, s.1)
set_stands (suc place) (x ∷ more) (h ∷ others) g y client s found st = (s.0, set_stands place more others g y client s.1 found st)
set_stands place [] (h ∷ others) g y client s found st = absurd s
set_stands place (x ∷ more) [] g y client s found st = absurd s

moves_at : (w : LastingWorld) (before : KeptAround) (network : Network) (event : Event) (place : ℕ) (now : Guest) (client : Client) (room written bytes : List ℕ) (count : ℕ)
    → AroundStands w before → mover_of event ≡ Some (suc place) → place < length before.guests → now ≡ get_or before.guests place now → is_off before.guests place ≡ false
    → (m : Makes now.client event room count written client) → bytes ≡ spelling (segment_of now.client m.move (window_of now.client event))
    → AddsPacket (ClientToServer (suc place)) (Some now.key) bytes before.network network
    → MovesNext w event before (record before { guests = set before.guests place (record now { client = client }); network = network })
moves_at w before network event place now client room written bytes count s by inside is on m spells a =
    let at : HasGuest place w.guests now = has_guest place before.guests w.guests now s.guests inside is in
    let g : law.Guest = at.guest in
    let window : ℕ = window_of g.client event in
    let segment : Segment = segment_of g.client m.move window in
    let parcel : Parcel = Usual (To_server segment) in
    let later : Client = moved g.client m.move window in
    let asked : move_asked event ≡ Some (suc place, m.move) = both_asked event (suc place) m.move by m.asked in
    let same : now.client ≡ g.client = at.stands.client in
    let free : refusal_of_move g.client m.move ≡ None = ap (λ (c : Client). refusal_of_move c m.move) (sym same) ∙ m.allowed in
    let off = or_parts (is_some g.gone) (is_awaited (take place w.guests) g) (sym (off_is place before.guests w.guests s.guests g at.found) ∙ on) in
    let came : is_new later.phase ≡ false = has_moved g.client m.move (suits (suits_phase g.client m.move) (suits_range g.client m.move) free) in
    let last : number_of_guest (with_guest (suc place) later w.guests) g.client.key ≡ suc place =
    comes_last 1 place 0 w.guests g later at.found refl came (isnt_gone g.gone off.0) s.turns ∙ omega arith in
    let spelled : bytes ≡ spelling segment = spells ∙ ap (λ (c : Client). spelling (segment_of c m.move (window_of c event))) same in
    record {
      next = record {
        parcels = parcel ∷ [];
        world = with_sent (parcel ∷ []) (record w { guests = with_guest (suc place) later w.guests });
        goes = record { number = suc place; move = m.move; asked = asked; guest = g; found = at.found; parcels_are = refl; after_is = refl };
        stands = record {
          profile = s.profile;
          guests = set_stands place before.guests w.guests g (record now { client = client }) later s.guests at.found
              (record { key = at.stands.key; client = m.after_is ∙ ap (λ (c : Client). moved c m.move (window_of c event)) same; gone = at.stands.gone });
          turns = moved_turns place w.guests g later at.found refl off.1 s.turns;
          log = s.log;
          ordered = s.ordered;
          gone = s.gone;
          network = adds (grammar_in w) before.network network w.sent (ClientToServer (suc place)) (Some now.key) bytes parcel a tt spelled (λ key. ap (λ (k : Key). key_eq k key) (sym at.stands.key))
              s.network;
        };
        left = record { server = refl; profile = refl; patience = refl; boot = refl; node = refl };
        profile = refl;
        ways = ap (λ p. p.ways) a.packets ∙ ap (λ n. before.network.packets.ways ++ ClientToServer n ∷ []) (sym last);
      };
      allowed = refusal_at place before.guests w.guests event g m.move s.guests at.found asked ∙ (ap (λ b. if b then Some why.State else refusal_of_move g.client m.move) on ∙ free);
    }

pub guest_moves : (w : LastingWorld) (before : KeptAround) (network : Network) (event : Event) (number place : ℕ) (now : Guest) (client : Client) (room written bytes : List ℕ) (count : ℕ)
    → AroundStands w before → mover_of event ≡ Some number → number ≡ suc place → place < length before.guests → now ≡ get_or before.guests place now → is_off before.guests place ≡ false
    → (m : Makes now.client event room count written client) → bytes ≡ spelling (segment_of now.client m.move (window_of now.client event))
    → AddsPacket (ClientToServer number) (Some now.key) bytes before.network network
    → MovesNext w event before (record before { guests = set before.guests place (record now { client = client }); network = network })
guest_moves w before network event number place now client room written bytes count s by e inside is on m spells a =
    moves_at w before network event place now client room written bytes count s (by ∙ ap Some e) inside is on m spells
    (subst (λ n. AddsPacket (ClientToServer n) (Some now.key) bytes before.network network) e a)

-- two views of the element at a place
get_either : {A : Type 0} (xs : List A) (k : ℕ) (d e : A) → k < length xs → get_or xs k d ≡ get_or xs k e
get_either [] k d e h = absurd (omega arith)
get_either (x ∷ xs) zero d e h = refl
get_either (x ∷ xs) (suc k) d e h = get_either xs k d e (omega arith)

pub same_at : {A : Type 0} (xs : List A) (k : ℕ) (x y : A) → k < length xs → x ≡ get_or xs k x → y ≡ get_or xs k y → x ≡ y
same_at xs k x y h e f = e ∙ (get_either xs k x y h ∙ sym f)

-- the error that a conversion gives
pub converted : (r : Result (Unit {0}) StepEnd) (cause : EventWhy) (Q : StepEnd → Type 0) → IsErrAnd r (λ e. e ≡ BadEvent cause) → Q (BadEvent cause) → IfErr r Q
converted (Ok x) cause Q h q = tt
converted (Err e) cause Q h q = subst Q (sym h) q
