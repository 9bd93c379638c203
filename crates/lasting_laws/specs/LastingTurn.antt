-- One turn of a server that lasts: it keeps what is done in quarantine, has it recycled and forgets it, and watches its clients. Its turn is that of a server
-- without these, but for segments of what is leaving and for a log that is full.
use Rattle.std.specs.Prelude.{◌≡◌, ℕ, Option, Some, None, MatchOption, List, [], ◌∷◌, ◌++◌, if◌then◌else◌}
use Rattle.std.specs.Bool.{MatchBool}
use Rattle.ft_io.specs.declared.Addr.{Addr}
use Rattle.ft_io.specs.declared.Key.{Key}
use Rattle.ft_io.specs.Key.{key_eq}
use Rattle.tcp_rules.specs.Profile.{Profile}
use Rattle.server_trait.specs.Service.{Machine}
use Rattle.ft_model.specs.Lawful.{LawfulTurn}
use Rattle.ft_model.specs.Network.{Packet}
use Rattle.ft_model.specs.Network.Packet.{To_client}
use Rattle.ft_model.specs.Node.{Node, Place, Input, booted}
use Rattle.ft_model.specs.Node.Input.{Packet_comes, Message_comes, Noise_comes, Tick_comes}
use Rattle.ft_model.specs.Node.Place.{Opens, Lives, Ended}
use Rattle.long_laws.specs.Forgetting.{ForgetMessage, forget}
use Rattle.long_laws.specs.LongTrace.{others, places_at, stage_without, last_rst, keep_alive}
use Rattle.long_laws.specs.LongResets.{says_full}
use Rattle.long_laws.specs.Quarantine.{Quarantined, quarantine_after, forgets, ended_early, is_dropped, taken_away}
use Rattle.lasting_laws.specs.Closing.{ends_after, ended_by}
use Rattle.lasting_laws.specs.Watching.{Watch, begun_watch, watches_after, is_let_go, is_asked}
use Rattle.lasting_laws.specs.Watching.Origin.{Restored}

-- how long a server waits, in ticks
pub record Patience : Type 0 where
  pub wait : ℕ  -- the quarantine, at least 1
  pub silence : ℕ  -- after how many ticks a silent client is asked; 0: never

pub record LastingNode : Type 0 where
  pub node : Node  -- as without quarantine
  pub quarantine : List Quarantined  -- its connections that are done, in the order of their places
  pub ends : Key → ℕ  -- of a connection that is done: the number after its client's last one
  pub watches : Key → Watch  -- of each live connection

abbrev pub booted_to_last : Addr → Profile → (boot isn : ℕ) → LastingNode
booted_to_last server profile boot isn =
    record { node = booted server profile boot isn; quarantine = []; ends = λ key. 0; watches = λ key. begun_watch Restored }

-- one turn's input
pub data LastingInput : Type 0 where
  Usual_comes : Input → LastingInput
  Forget_comes : ForgetMessage → LastingInput

-- what a turn sends: the Forgets come last
pub record LastingSent : Type 0 where
  pub packets : List Packet
  pub forgets : List ForgetMessage

abbrev pub nothing_sent : LastingSent
nothing_sent = record { packets = []; forgets = [] }

abbrev pub RestsLasting : LastingNode → LastingSent → LastingNode → Type 0
RestsLasting before sent after = (sent ≡ nothing_sent) × (after ≡ before)

-- what it knows after a turn of its node
abbrev pub after_turn : LastingNode → Input → Node → LastingNode
after_turn before input later = record {
  node = later;
  quarantine = quarantine_after before.node input later.stage before.quarantine;
  ends = ends_after before.node input before.ends;
  watches = watches_after before.node input later.stage before.watches;
}

-- the turn of a server without quarantine
pub record GoesUsually {State : Type 0} (service : Machine State) (before : LastingNode) (input : Input) (sent : LastingSent)
    (after : LastingNode) : Type 0 where
  pub later : Node
  pub packets : List Packet
  pub turn : LawfulTurn service before.node input packets later
  pub sent_is : sent ≡ record { packets = packets; forgets = [] }
  pub after_is : after ≡ after_turn before input later

-- Full drops the opening that it names, and nothing is sent
pub record DropsOpening {State : Type 0} (service : Machine State) (before : LastingNode) (input : Input) (sent : LastingSent)
    (after : LastingNode) : Type 0 where
  pub later : Node
  pub all : List Packet  -- what a server without quarantine would send
  pub turn : LawfulTurn service before.node input all later
  pub sent_is : sent ≡ nothing_sent
  pub after_is : after ≡ after_turn before input later

-- a connection is let go of or asked, or neither
abbrev pub keep_alives : (silence : ℕ) → Addr → Watch → Place → List Packet
keep_alives silence server w (Lives p) = if is_asked silence w p then To_client (keep_alive server p) ∷ [] else []
keep_alives silence server w (Opens numbers timestamping) = []
keep_alives silence server w (Ended key) = []

abbrev pub Stays : (silence : ℕ) → Watch → Node → Place → List Packet → Node → Type 0
Stays silence w node place sent after = (sent ≡ keep_alives silence node.server w place) × (after ≡ node)

abbrev pub Tends : {State : Type 0} → Machine State → (silence : ℕ) → (Key → Watch) → Node → Place → List Packet → Node → Type 0
Tends service silence watches node (Lives p) sent after =
    MatchBool (is_let_go silence (watches p.key) p) (LawfulTurn service node (Packet_comes (last_rst node.server p)) sent after)
    (Stays silence (watches p.key) node (Lives p) sent after)
Tends service silence watches node place sent after = (sent ≡ []) × (after ≡ node)

-- .. one place after another
abbrev pub TendsAll : {State : Type 0} → Machine State → (silence : ℕ) → (Key → Watch) → Node → List Place → List Packet → Node → Type 0
TendsAll service silence watches node [] sent after = (sent ≡ []) × (after ≡ node)
TendsAll service silence watches node (place ∷ places) sent after =
    (first : List Packet) × (rest : List Packet) × (next : Node)
    × (sent ≡ first ++ rest) × Tends service silence watches node place first next × TendsAll service silence watches next places rest after

-- A tick: the node's own turn, then what is let go of and asked, place by place, and at last the Forgets
pub record TicksLasting {State : Type 0} (service : Machine State) (patience : Patience) (before : LastingNode) (sent : LastingSent)
    (after : LastingNode) : Type 0 where
  pub later : Node
  pub last : Node
  pub first : List Packet
  pub rest : List Packet
  pub turn : LawfulTurn service before.node Tick_comes first later
  pub tends : TendsAll service patience.silence (after_turn before Tick_comes later).watches later (places_at later.stage) rest last
  pub sent_is : sent ≡ record {
    packets = first ++ rest;
    forgets = forgets patience.wait before.node.boot Tick_comes (after_turn before Tick_comes later).quarantine;
  }
  pub after_is : after ≡ record (after_turn before Tick_comes later) { node = last }

-- A SYN of a new connection ends the quarantine of the old one: Forget goes out in this turn, and at each tick from then on
abbrev pub EndsQuarantine : (wait : ℕ) → LastingNode → Quarantined → LastingSent → LastingNode → Type 0
EndsQuarantine wait before q sent after =
    (sent ≡ record { packets = []; forgets = forget before.node.boot q.named ∷ [] })
    × (after ≡ record before { quarantine = ended_early wait q.named.key before.quarantine })

abbrev pub PacketTurn : {State : Type 0} → Machine State → Patience → LastingNode → Input → LastingSent → LastingNode → Type 0
PacketTurn service patience before input sent after =
    MatchBool (is_dropped patience.wait before.node.server input before.quarantine) (RestsLasting before sent after)
    (MatchOption (ended_by before.node.server before.ends input before.quarantine) (GoesUsually service before input sent after)
    (λ q. EndsQuarantine patience.wait before q sent after))

abbrev pub UsualTurn : {State : Type 0} → Machine State → Patience → LastingNode → Input → LastingSent → LastingNode → Type 0
UsualTurn service patience before (Packet_comes segment) sent after = PacketTurn service patience before (Packet_comes segment) sent after
UsualTurn service patience before (Message_comes message) sent after =
    MatchBool (says_full message.body) (DropsOpening service before (Message_comes message) sent after)
    (GoesUsually service before (Message_comes message) sent after)
UsualTurn service patience before Noise_comes sent after = GoesUsually service before Noise_comes sent after
UsualTurn service patience before Tick_comes sent after = TicksLasting service patience before sent after

-- Forgotten with the numbers of a connection that is done takes its place away
abbrev pub without_place : Option Key → LastingNode → LastingNode
without_place (Some key) n = record n {
  node = record n.node { stage = stage_without key n.node.stage };
  quarantine = others (λ q. key_eq q.named.key key) n.quarantine;
}
without_place None n = n

-- One turn of a server that lasts
abbrev pub LastingTurn : {State : Type 0} → Machine State → Patience → LastingNode → LastingInput → LastingSent → LastingNode → Type 0
LastingTurn service patience before (Usual_comes input) sent after = UsualTurn service patience before input sent after
LastingTurn service patience before (Forget_comes message) sent after =
    (sent ≡ nothing_sent) × (after ≡ without_place (taken_away (Some before.node) message before.quarantine) before)
