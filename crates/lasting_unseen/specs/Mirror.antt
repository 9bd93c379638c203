-- The world of a schedule whose server lasts, as a world with a quarantine: what is lost isn't there, and messages about forgetting stand apart from packets.
use Rattle.std.specs.Prelude.{◌≡◌, ℕ, false, Option, Some, None, option_map, List, [], ◌∷◌, ◌++◌, if◌then◌else◌}
use Rattle.std.specs.List.{AllByRecursion}
use Rattle.seq_arith.specs.Packet.{Segment}
use Rattle.ft_model.specs.Client.{Client}
use Rattle.ft_model.specs.Network.Packet.{To_server, From_logger}
use Rattle.ft_model.specs.Node.{Input}
use Rattle.ft_model.specs.Node.Input.{Packet_comes, Message_comes, Noise_comes, Tick_comes}
use Rattle.ft_model.specs.declared.event.Event.{Event}
use Rattle.ft_model.specs.declared.event.Event.TheVariants.{Deliver}
use Rattle.long_laws.specs.Forgetting.{ForgetMessage}
use Rattle.long_laws.specs.LongTrace.{Gone}
use Rattle.long_laws.specs.Quarantine.{Quarantined}
use Rattle.long_laws.specs.QuarantineWorld.{QuarantineWorld, new_places, IsFresh}
use Rattle.lasting_laws.specs.LastingTurn.{LastingNode}
use Rattle.lasting_laws.specs.LastingWorld.{Parcel, Sent, LastingWorld, LastingMoment, sent_at, lasting_after}
use Rattle.lasting_laws.specs.LastingWorld.Parcel.{Usual, Forget_sent, Forgotten_sent}
use Rattle.lasting_laws.specs.LastingUnseen.{still_under_way}

-- the messages about forgetting that aren't lost
abbrev pub note_of : Parcel → List ForgetMessage
note_of (Usual packet) = []
note_of (Forget_sent message) = message ∷ []
note_of (Forgotten_sent message) = message ∷ []

abbrev pub notes_under_way : List Sent → List ForgetMessage
notes_under_way [] = []
notes_under_way (s ∷ others) = (if s.lost then [] else note_of s.parcel) ++ notes_under_way others

abbrev pub quarantine_in : Option LastingNode → List Quarantined
quarantine_in (Some n) = n.quarantine
quarantine_in None = []

-- with these clients, and these that are gone
abbrev pub mirrored : LastingWorld → List Client → List Gone → QuarantineWorld
mirrored w clients past = record {
  now = record {
    server = w.server;
    profile = w.profile;
    clients = clients;
    log = w.log;
    packets = still_under_way w.sent;
    boot = w.boot;
    node = option_map (λ n. n.node) w.node;
  };
  past = past;
  notes = notes_under_way w.sent;
  quarantine = quarantine_in w.node;
}

-- no opening takes numbers that a message about forgetting of the server's boot under way names (RFC 9293, 3.4.1)
abbrev pub OpensFreshly : LastingWorld → Event → Type 0
OpensFreshly w (Deliver number) =
    (n : LastingNode) (segment : Segment) → w.node ≡ Some n → sent_at w.sent number ≡ Some (record { parcel = Usual (To_server segment); lost = false })
    → AllByRecursion (IsFresh n.node.boot (new_places n.node (Packet_comes segment) n.node.stage)) (notes_under_way w.sent)
OpensFreshly w event = Unit {0}

abbrev pub AllOpenFreshly : LastingWorld → List LastingMoment → Type 0
AllOpenFreshly start [] = Unit {0}
AllOpenFreshly start (moment ∷ earlier) = AllOpenFreshly start earlier × OpensFreshly (lasting_after start earlier) moment.event

-- what may come to the server next, of what isn't lost
abbrev pub MayStillCome : LastingWorld → Input → Type 0
MayStillCome w (Packet_comes segment) = (number : ℕ) × (sent_at w.sent number ≡ Some (record { parcel = Usual (To_server segment); lost = false }))
MayStillCome w (Message_comes message) = (number : ℕ) × (sent_at w.sent number ≡ Some (record { parcel = Usual (From_logger message); lost = false }))
MayStillCome w Noise_comes = Unit {0}
MayStillCome w Tick_comes = Unit {0}
