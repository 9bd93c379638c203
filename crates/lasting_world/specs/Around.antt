-- What the world has beside its server, and the world of the definitions to which that corresponds.
use Rattle.std.specs.Prelude.{◌≡◌, ℕ, true, Option, Some, None, List, [], ◌∷◌, ◌++◌, map, is_none}
use Rattle.std.specs.List.{AllByRecursion}
use Rattle.ft_io.specs.declared.Key.{Key}
use Rattle.ft_io.specs.Key.{key_eq}
use Rattle.seq_arith.specs.PacketGrammar as segments
use Rattle.seq_arith.specs.declared.kinds.Grammar.{Grammar}
use Rattle.tcp_rules.specs.Profile.{grammar_of}
use Rattle.tcp_rules.specs.Profiles.{profile_of}
use Rattle.tcp_rules.specs.declared.profile.Profile.{Profile}
use Rattle.ft_model.specs.Client.{is_new, move_asked}
use Rattle.ft_model.specs.Log.{Log}
use Rattle.ft_model.specs.declared.event.Event.{Event}
use Rattle.ft_model.specs.declared.way.Way.{Way}
use Rattle.long_laws.specs.Snapshot.{IsOrdered}
use Rattle.lasting_laws.specs.LastingLegal.{refusal_of_asked}
use Rattle.lasting_laws.specs.LastingReport.{way_of_lasting}
use Rattle.lasting_laws.specs.LastingWorld as law_world
use Rattle.lasting_laws.specs.LastingWorld.{Parcel, LastingWorld, ClientReads, LogReads, GuestMoves, grammar_in, said_by}
use Rattle.schedule_network.specs.declared.end.StepEnd.{StepEnd}
use Rattle.schedule_network.specs.declared.end.StepEnd.TheVariants.{NoMemory, BadEvent, PacketLimit}
use Rattle.lasting_unseen.specs.Written.{IsWritten}
use Rattle.lasting_world.specs.Abouts.{names, key_said}
use Rattle.lasting_world.specs.GoneEntries.{AllGoneStand}
use Rattle.lasting_world.specs.Guests.{GuestsStand}
use Rattle.lasting_world.specs.NetworkStands.{NetworkStands}
use Rattle.lasting_world.specs.NetworkView.{AddsPacket}
use Rattle.lasting_world.specs.declared.gone.GoneEntry.{GoneEntry}
use Rattle.lasting_world.specs.declared.guest.Guest.{Guest}
use Rattle.lasting_world.specs.declared.network.Network.{Network}
use Rattle.lasting_world.specs.declared.surroundings.Surroundings.{Surroundings}

-- what is kept from one event to the next
pub record KeptAround : Type 0 where
  pub profile : Profile
  pub guests : List Guest
  pub log : Log
  pub gone : List GoneEntry
  pub network : Network

abbrev pub kept_around : Surroundings → KeptAround
kept_around a = record { profile = a.profile; guests = a.guests.items; log = a.log; gone = a.gone.items; network = a.network }

-- the clients of one address come one after another: while one isn't gone, none behind it has come
abbrev pub IsWaiting : law_world.Guest → law_world.Guest → Type 0
IsWaiting g x = key_eq x.client.key g.client.key ≡ true → is_new x.client.phase ≡ true

abbrev pub TakeTurns : List law_world.Guest → Type 0
TakeTurns [] = Unit {0}
TakeTurns (g ∷ others) = (is_none g.gone ≡ true → AllByRecursion (IsWaiting g) others) × TakeTurns others

pub record AroundStands (w : LastingWorld) (now : KeptAround) : Type 0 where
  pub profile : profile_of now.profile ≡ w.profile
  pub guests : GuestsStand now.guests w.guests
  pub turns : TakeTurns w.guests
  pub log : now.log ≡ w.log
  pub ordered : IsOrdered w.log
  pub gone : AllGoneStand now.gone w.recycled
  pub network : NetworkStands (grammar_in w) now.network w.sent

-- the server isn't touched
pub record IsServerLeft (w after : LastingWorld) : Type 0 where
  pub server : after.server ≡ w.server
  pub profile : after.profile ≡ w.profile
  pub patience : after.patience ≡ w.patience
  pub boot : after.boot ≡ w.boot
  pub node : after.node ≡ w.node

-- the world moves to a next one, in which these parcels are sent; what is stored corresponds to that
pub record AroundNext (Goes : List Parcel → LastingWorld → Type 0) (w : LastingWorld) (before after : KeptAround) : Type 0 where
  pub parcels : List Parcel
  pub world : LastingWorld
  pub goes : Goes parcels world
  pub stands : AroundStands world after
  pub left : IsServerLeft w world
  pub profile : after.profile ≡ before.profile
  pub ways : after.network.packets.ways ≡ before.network.packets.ways ++ map (way_of_lasting world.guests) parcels

-- a packet is stored
pub record Adds (way : Way) (about : Option Key) (bytes : List ℕ) (before after : KeptAround) : Type 0 where
  pub network : AddsPacket way about bytes before.network after.network
  pub rest : after ≡ record before { network = after.network }

-- a message between server and log is stored, with the key that it names
pub record AddsMessage (way : Way) (bytes : List ℕ) (before after : KeptAround) : Type 0 where
  pub about : Option Key
  pub is_about : (key : Key) → names about key ≡ key_said (grammar_of (profile_of before.profile)) bytes key
  pub adds : Adds way about bytes before after

-- bytes reach the client that is at an address
abbrev pub ReportsClient : Key → List ℕ → (before after : KeptAround) → Type 0
ReportsClient key bytes before after = (w : LastingWorld) → AroundStands w before → AroundNext (ClientReads key (segments.reading bytes) w) w before after

-- what happens sends only what can be written
abbrev pub SendsWritten : Grammar → (List Parcel → LastingWorld → Type 0) → Type 0
SendsWritten grammar Goes = (parcels : List Parcel) (world : LastingWorld) → Goes parcels world → AllByRecursion (IsWritten grammar) parcels

-- bytes reach the log, whose answer can be written
abbrev pub ReportsLog : List ℕ → (before after : KeptAround) → Type 0
ReportsLog bytes before after =
    (w : LastingWorld) → AroundStands w before → SendsWritten (grammar_in w) (LogReads (said_by (grammar_in w) bytes) w)
    → AroundNext (LogReads (said_by (grammar_in w) bytes) w) w before after

-- a client makes the move that an event asks for, or doesn't
pub record MovesNext (w : LastingWorld) (event : Event) (before after : KeptAround) : Type 0 where
  pub next : AroundNext (GuestMoves w event) w before after
  pub allowed : refusal_of_asked w.guests (move_asked event) ≡ None

abbrev pub MakesMove : Event → (before after : KeptAround) → Type 0
MakesMove event before after = (w : LastingWorld) → AroundStands w before → MovesNext w event before after

abbrev pub DeclinesMove : Event → (before after : KeptAround) → StepEnd → Type 0
DeclinesMove event before after NoMemory = Unit {0}
DeclinesMove event before after (BadEvent why) =
    ((w : LastingWorld) → AroundStands w before → refusal_of_asked w.guests (move_asked event) ≡ Some why) × (after ≡ before)
DeclinesMove event before after PacketLimit = ⊥
