-- A worked run: the server boots, the head takes its Hello and forwards it, and the tail applies it and answers.
use Rattle.std.specs.Prelude.{Some, None, List, [], ◌∷◌, ◌++◌, map}
use Rattle.ft_io.specs.declared.Addr.{Addr}
use Rattle.tcp_rules.specs.Profile.{plain}
use Rattle.seq_arith.specs.declared.kinds.Grammar.TheVariants as grammars
use Rattle.seq_arith.specs.Message.{Message}
use Rattle.seq_arith.specs.Message.Body.{HelloMsg, SummaryMsg}
use Rattle.ft_model.specs.Network.Packet.{To_logger, From_logger}
use Rattle.ft_model.specs.Node.{booted}
use Rattle.ft_model.specs.World.{Moment}
use Rattle.ft_model.specs.declared.event.Event.{Event}
use Rattle.ft_model.specs.declared.event.Event.TheVariants.{Boot, Deliver}
use Rattle.twin_laws.specs.Twin.Between.{Forward, Got}
use Rattle.twin_laws.specs.Twin.Comes.{Asks, Reports}
use Rattle.twin_laws.specs.Pair.{Pair, new_pair, head_has, tail_has}
use Rattle.twin_laws.specs.TwinWorld.{Parcel, TwinWorld, TwinMoment, request_of}
use Rattle.twin_laws.specs.TwinWorld.Parcel.{Outside, Inside}
use Rattle.twin_laws.specs.TwinWorld.TwinEvent.{Usual}

abbrev pub hello : Message
hello = record { boot = 1; body = HelloMsg }

abbrev pub summary : Message
summary = record { boot = 1; body = SummaryMsg 0 }

-- 192.0.2.100, port 7
abbrev pub server : Addr
server = record { ip = 3221226084; port = 7 }

abbrev pub at_first : TwinWorld
at_first = record { server = server; profile = plain; clients = []; pair = new_pair; parcels = []; boot = 0; node = None }

-- the server boots and sends its Hello
abbrev pub first_sent : List Parcel
first_sent = Outside (To_logger hello) ∷ []

abbrev pub booted_world : TwinWorld
booted_world = record at_first { boot = 1; node = Some (booted server plain 1 5000); parcels = first_sent }

-- the head takes the Hello and forwards it
abbrev pub second_sent : List Parcel
second_sent = Inside (Forward 1 (request_of grammars.Plain hello)) ∷ []

abbrev pub taken_pair : Pair
taken_pair = head_has (Asks (request_of grammars.Plain hello)) new_pair

abbrev pub taken_world : TwinWorld
taken_world = record booted_world { pair = taken_pair; parcels = first_sent ++ second_sent }

-- the tail applies it, answers and confirms
abbrev pub third_sent : List Parcel
third_sent = Outside (From_logger summary) ∷ Inside (Got 1) ∷ []

abbrev pub applied_world : TwinWorld
applied_world =
    record taken_world {
      pair = tail_has (Reports (Forward 1 (request_of grammars.Plain hello))) taken_pair;
      parcels = (first_sent ++ second_sent) ++ third_sent;
    }

abbrev pub worked : List TwinMoment
worked =
    record { event = Usual (Deliver 2); sent = third_sent; world = applied_world }
    ∷ record { event = Usual (Deliver 1); sent = second_sent; world = taken_world }
    ∷ record { event = Usual (Boot 1 5000); sent = first_sent; world = booted_world } ∷ []

abbrev pub events_in : List Moment → List Event
events_in trace = map (λ m. m.event) trace

-- made flat, the trace is the boot and one delivery
abbrev pub flat_events : List Event
flat_events = Deliver 1 ∷ Boot 1 5000 ∷ []
