-- What reaches a client, and what a connection's end does to the client that is there.
use Rattle.std.proofs.Common.{◌≡◌, ◌∙◌, ℕ, Bool, true, false, sym, ap, subst, refl, None, Some, Result, Ok, Err, List, [], ◌∷◌, map, get_or, append-nil, if◌then◌else◌}
use Rattle.std.proofs.Math.ListN.{set}
use Rattle.ft_io.specs.declared.Key.{Key}
use Rattle.seq_arith.specs.Packet.{Segment}
use Rattle.seq_arith.specs.declared.BadPacket.{BadPacket}
use Rattle.lasting_laws.specs.LastingWorld.{LastingWorld, ClientReads, received_by}
use Rattle.peer_client.specs.Scripted.{arrivals}
use Rattle.lasting_world.specs.Around.{KeptAround, AroundStands, AroundNext}
use Rattle.lasting_world.specs.LogTurns.{IsOneThere, gone_guest}
use Rattle.lasting_world.specs.Guests.{GuestsStand, guest_is_there, index_there}
use Rattle.lasting_world.specs.declared.guest.Guest.{Guest}
use Rattle.lasting_world.proofs.Changed.{changed_at, none_passes, unchanged}
use Rattle.lasting_world.proofs.Visits.{received_guest, received_stand, received_turns, one_there}

-- nothing is heard
nothing_received : (key : Key) (guests : List Guest) → map (received_guest key (λ c. c)) guests ≡ guests
nothing_received key [] = refl
nothing_received key (g ∷ others) = ap (λ x. x ∷ map (received_guest key (λ c. c)) others) (same (guest_is_there key g)) ∙ ap (λ l. g ∷ l) (nothing_received key others)
  where
    same : (b : Bool) → (if b then record g { client = g.client } else g) ≡ g
    same true = refl
    same false = refl

receives_next : (w : LastingWorld) (key : Key) (before : KeptAround) (r : Result Segment BadPacket) (guests : List Guest) → AroundStands w before
    → guests ≡ map (received_guest key (λ c. arrivals c r)) before.guests → AroundNext (ClientReads key r w) w before (record before { guests = guests })
receives_next w key before (Ok segment) guests s e = record {
  parcels = [];
  world = record w { guests = map (received_by key segment) w.guests };
  goes = (refl, refl);
  stands = record {
    profile = s.profile;
    guests = subst (λ gs. GuestsStand gs (map (received_by key segment) w.guests)) (sym e) (received_stand key segment before.guests w.guests s.guests);
    turns = received_turns key segment w.guests s.turns;
    log = s.log;
    ordered = s.ordered;
    gone = s.gone;
    network = s.network;
  };
  left = record { server = refl; profile = refl; patience = refl; boot = refl; node = refl };
  profile = refl;
  ways = sym (append-nil before.network.packets.ways);
}
receives_next w key before (Err why) guests s e = record {
  parcels = [];
  world = w;
  goes = (refl, refl);
  stands = record {
    profile = s.profile;
    guests = subst (λ gs. GuestsStand gs w.guests) (sym (e ∙ nothing_received key before.guests)) s.guests;
    turns = s.turns;
    log = s.log;
    ordered = s.ordered;
    gone = s.gone;
    network = s.network;
  };
  left = record { server = refl; profile = refl; patience = refl; boot = refl; node = refl };
  profile = refl;
  ways = sym (append-nil before.network.packets.ways);
}

-- the client at this place is there, and receives what comes
pub receives_at : (w : LastingWorld) (key : Key) (before : KeptAround) (r : Result Segment BadPacket) (place : ℕ) (d y : Guest) → AroundStands w before → Some place ≡ index_there key before.guests
    → y ≡ record (get_or before.guests place d) { client = arrivals (get_or before.guests place d).client r }
    → AroundNext (ClientReads key r w) w before (record before { guests = set before.guests place y })
receives_at w key before r place d y s at e =
    receives_next w key before r (set before.guests place y) s
    (changed_at (guest_is_there key) (λ g. record g { client = arrivals g.client r }) before.guests place d y (sym at) (one_there key before.guests w.guests s.guests s.turns) e)

-- nobody is there
pub nobody_receives : (w : LastingWorld) (key : Key) (before : KeptAround) (r : Result Segment BadPacket) → AroundStands w before → None ≡ index_there key before.guests
    → AroundNext (ClientReads key r w) w before before
nobody_receives w key before r s at =
    receives_next w key before r before.guests s
    (sym (unchanged (guest_is_there key) (λ g. record g { client = arrivals g.client r }) before.guests (none_passes (guest_is_there key) (λ (g : Guest). g) before.guests (sym at))))

-- the client at this place is gone
pub gone_at : (key : Key) (guests : List Guest) (place : ℕ) (d y : Guest) → Some place ≡ index_there key guests → IsOneThere key guests → y ≡ record (get_or guests place d) { gone = true }
    → set guests place y ≡ map (gone_guest key) guests
gone_at key guests place d y at one e = changed_at (guest_is_there key) (λ g. record g { gone = true }) guests place d y (sym at) one e

pub nobody_goes : (key : Key) (guests : List Guest) → None ≡ index_there key guests → guests ≡ map (gone_guest key) guests
nobody_goes key guests at =
    sym (unchanged (guest_is_there key) (λ g. record g { gone = true }) guests (none_passes (guest_is_there key) (λ (g : Guest). g) guests (sym at)))
