-- Unseen: crashes, restarts and forgetting can't be seen from outside. The four facts of the headline hold after every moment of a trace, and each client that
-- is gone had accepted a prefix of the uncrashed server's output over the reads that its entry had.
use Rattle.std.specs.Prelude.{ℕ, option_map, Option, Some, None, List, [], ◌∷◌, ◌++◌, if◌then◌else◌}
use Rattle.server_trait.specs.Service.{Machine}
use Rattle.ft_model.specs.Client.{Client}
use Rattle.ft_model.specs.Network.{Packet}
use Rattle.long_laws.specs.LongTrace.{Gone, LongWorld, IsMaskedMoment}
use Rattle.lasting_laws.specs.LastingWorld.{Parcel, Sent, Guest, LastingWorld, LastingMoment, is_present, lasting_after}
use Rattle.lasting_laws.specs.LastingWorld.Parcel.{Usual, Forget_sent, Forgotten_sent}

-- the clients that are there
abbrev pub those_there : List Guest → List Client
those_there [] = []
those_there (g ∷ others) = if is_present g then g.client ∷ those_there others else those_there others

-- .. and those that are gone
abbrev pub gone_of : Client → Option (List ℕ) → List Gone
gone_of client (Some lengths) = record { client = client; lengths = lengths } ∷ []
gone_of client None = []

abbrev pub those_gone : List Guest → List Gone
those_gone [] = []
those_gone (g ∷ others) = gone_of g.client g.gone ++ those_gone others

-- the packets without the messages about forgetting
abbrev pub usual : List Parcel → List Packet
usual [] = []
usual (Usual packet ∷ others) = packet ∷ usual others
usual (Forget_sent message ∷ others) = usual others
usual (Forgotten_sent message ∷ others) = usual others

-- .. and without those that are lost
abbrev pub still_under_way : List Sent → List Packet
still_under_way [] = []
still_under_way (s ∷ others) = (if s.lost then [] else usual (s.parcel ∷ [])) ++ still_under_way others

-- the world as a long trace has it
abbrev pub seen : LastingWorld → LongWorld
seen w = record {
  now = record {
    server = w.server;
    profile = w.profile;
    clients = those_there w.guests;
    log = w.log;
    packets = still_under_way w.sent;
    boot = w.boot;
    node = option_map (λ n. n.node) w.node;
  };
  past = those_gone w.guests;
}

abbrev pub AreUnseen : {State : Type 0} → Machine State → LastingWorld → List LastingMoment → Type 0
AreUnseen service start [] = Unit {0}
AreUnseen service start (moment ∷ earlier) =
    AreUnseen service start earlier × IsMaskedMoment service (seen (lasting_after start earlier)).now (usual moment.parcels) (seen moment.world)
