-- Terms for the premises of a server's contract: what a fetching server has of the log, and which move is a refusal.
use Rattle.std.specs.Prelude.{◌≡◌, Bool, true, false, IfSome}
use Rattle.std.specs.List.{AllByRecursion}
use Rattle.server_trait.specs.Service.{Machine}
use Rattle.ft_model.specs.Client.{Move}
use Rattle.ft_model.specs.Client.Move.{Syn, Text, Fin, Acknowledge, Rst, Refuse}
use Rattle.ft_model.specs.Growth.{IsPrefix}
use Rattle.ft_model.specs.Log.{Entry, head_of}
use Rattle.ft_model.specs.Restart.{Fetched, IsSoundEntry}
use Rattle.ft_model.specs.Node.{Node, Stage, Input}
use Rattle.ft_model.specs.Node.Stage.{Asking, Fetching, Serving, Fenced}
use Rattle.ft_model.specs.Node.Input.{Packet_comes, Message_comes, Noise_comes, Tick_comes}
use Rattle.ft_model.specs.Lawful.{fetched_then}

-- what is fetched of an entry is a prefix of a sound entry (FT-TCP, INFOCOM 2001: the restarted server is fed the reads that the log keeps). So the output is
-- bounded also for a server that replays reads before it has all of them
pub record IsSoundFront {State : Type 0} (service : Machine State) (f : Fetched) : Type 0 where
  pub entry : Entry
  pub head : f.head ≡ head_of entry
  pub bytes : IsPrefix f.bytes entry.bytes
  pub lengths : IsPrefix f.lengths entry.lengths
  pub sound : IsSoundEntry service entry

-- each entry that a fetching server has after this input is such a prefix
abbrev pub HasSoundFronts : {State : Type 0} → Machine State → Node → Input → Stage → Type 0
HasSoundFronts service node (Message_comes message) (Fetching count fetched) =
    IfSome (fetched_then node message count fetched) (AllByRecursion (IsSoundFront service))
HasSoundFronts service node (Message_comes message) Asking = Unit {0}
HasSoundFronts service node (Message_comes message) (Serving opened places) = Unit {0}
HasSoundFronts service node (Message_comes message) (Fenced newer) = Unit {0}
HasSoundFronts service node (Packet_comes segment) stage = Unit {0}
HasSoundFronts service node Noise_comes stage = Unit {0}
HasSoundFronts service node Tick_comes stage = Unit {0}

-- a live client answers a SYN-ACK that acknowledges no SYN of its own by a RST with that number (RFC 9293, 3.10.7.3)
abbrev pub is_refusal : Move → Bool
is_refusal (Refuse number) = true
is_refusal (Syn mss) = false
is_refusal (Text from len) = false
is_refusal Fin = false
is_refusal Acknowledge = false
is_refusal Rst = false
