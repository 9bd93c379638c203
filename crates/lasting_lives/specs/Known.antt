-- What the server knows of its keys, against what the law has for them, in a stage of its node.
use Rattle.std.specs.Prelude.{◌≡◌, true, false, find, option_map, Option, Some, None, MatchOption, [], if◌then◌else◌}
use Rattle.ft_io.specs.declared.Key.{Key}
use Rattle.ft_io.specs.Key.{key_eq}
use Rattle.seq_arith.specs.Message.{Body}
use Rattle.seq_arith.specs.Message.Body.{EndedMsg}
use Rattle.ft_model.specs.Node.{Node, Place, Stage, Input, place_at}
use Rattle.ft_model.specs.Node.Input.{Packet_comes, Message_comes, Noise_comes, Tick_comes}
use Rattle.ft_model.specs.Node.Place.{Opens, Lives, Ended}
use Rattle.ft_model.specs.Node.Stage.{Asking, Fetching, Serving, Fenced}
use Rattle.ft_model.specs.Restart.{Fetched}
use Rattle.ft_model.specs.ServingTurn.{concerns}
use Rattle.long_laws.specs.Quarantine.{Quarantined, quarantined_at, named_head, named_point, begun}
use Rattle.lasting_laws.specs.Closing.{end_of_head}
use Rattle.lasting_laws.specs.LastingTurn as law
use Rattle.lasting_laws.specs.Watching.{is_empty}
use Rattle.forget_wire.specs.Value.{named_said}
use Rattle.lasting_lives.specs.declared.life.Life.{Life}
use Rattle.lasting_lives.specs.declared.life.Life.TheVariants as life
use Rattle.lasting_lives.specs.declared.life.Resting.{Resting}
use Rattle.lasting_lives.specs.declared.watch.Watch.{Watch}
use Rattle.lasting_lives.specs.declared.watch.Origin.{Origin}
use Rattle.lasting_lives.specs.declared.watch.Origin.TheVariants as origin
use Rattle.lasting_lives.specs.Lives.{receipt, older}
use Rattle.lasting_lives.specs.Watches.{WatchStands, QuarantineStands, end_there}

-- what is known of a key: the watch of a live connection, the quarantine of one that is done, nothing of any other key
abbrev pub RestsAt : law.LastingNode → Key → Option Life → Type 0
RestsAt n key (Some (life.Resting r)) =
    MatchOption (quarantined_at key n.quarantine) ⊥ (λ q. QuarantineStands r q × (r.end.0 ≡ n.ends key))
RestsAt n key _ = ⊥

abbrev pub LifeStands : law.LastingNode → Key → Option Place → Option Life → Type 0
LifeStands n key (Some (Lives p)) (Some (life.Watched w)) = (quarantined_at key n.quarantine ≡ None) × WatchStands w (n.watches key)
LifeStands n key (Some (Ended k)) l = RestsAt n key l
LifeStands n key (Some (Opens numbers timestamping)) None = quarantined_at key n.quarantine ≡ None
LifeStands n key None None = quarantined_at key n.quarantine ≡ None
LifeStands n key _ _ = ⊥

-- an entry that was fetched as done, while the server restarts
abbrev pub IsFetched : Resting → Fetched → Type 0
IsFetched r f = (named_said r.named ≡ named_head f.head) × (r.end.0 ≡ end_of_head f.head) × (r.age ≡ 0)

-- .. of which nothing else is known yet
abbrev pub FetchedStands : Option Fetched → Option Life → Type 0
FetchedStands (Some f) (Some (life.Resting r)) = (f.head.done ≡ true) × IsFetched r f
FetchedStands (Some f) None = f.head.done ≡ false
FetchedStands None None = Unit {0}
FetchedStands _ _ = ⊥

abbrev pub LivesStand : law.LastingNode → Stage → (Key → Option Life) → Type 0
LivesStand n (Serving opened places) lives = (key : Key) → LifeStands n key (place_at key places) (lives key)
LivesStand n (Fetching count fetched) lives =
    (n.quarantine ≡ []) × ((key : Key) → FetchedStands (find (λ f. key_eq f.head.key key) fetched) (lives key))
LivesStand n Asking lives = (n.quarantine ≡ []) × ((key : Key) → lives key ≡ None)
LivesStand n (Fenced newer) lives = Unit {0}

-- What becomes of a life in a turn on anything but a message, while the node serves: a packet ends its client's silence, and a tick makes all older
abbrev pub life_after : Node → Input → Key → Option Life → Option Life
life_after node (Packet_comes segment) key l = if concerns node (Packet_comes segment) key then option_map receipt l else l
life_after node Tick_comes key l = option_map older l
life_after node (Message_comes message) key l = l
life_after node Noise_comes key l = l

-- .. and in one on a message: a watch begins where an opening becomes live, and a quarantine where a live connection ends
abbrev pub new_watch : Watch
new_watch = record { origin = origin.Opened; age = 0; silent = 0 }

abbrev pub Settles : (before after : Option Place) → (ends : Option Resting) → (old new : Option Life) → Type 0
Settles (Some (Lives p)) (Some (Ended k)) (Some r) old new = new ≡ Some (life.Resting r)
Settles (Some (Lives p)) (Some (Ended k)) None old new = ⊥
Settles (Some (Opens n timestamping)) (Some (Lives q)) ends old new = new ≡ Some (life.Watched new_watch)
Settles _ _ ends old new = new ≡ old

-- .. and one of a restored connection where a restart ends
abbrev pub begun_life : Origin → Life
begun_life o = life.Watched (record { origin = o; age = 0; silent = 0 })

abbrev pub restored_life : Option Place → Option Life → Option Life
restored_life (Some (Lives p)) l = Some (begun_life (if is_empty p then origin.RestoredEmpty else origin.Restored))
restored_life _ l = l

-- the live connection that a message ends, with its quarantine as it begins and its client's next number
abbrev pub EndsPlace : Option Place → Option Resting → Type 0
EndsPlace (Some (Lives p)) (Some r) = QuarantineStands r (begun (named_point p)) × (r.end.0 ≡ end_there p)
EndsPlace (Some (Lives p)) None = ⊥
EndsPlace _ r = r ≡ None

abbrev pub EndsBy : Stage → Body → Option Resting → Type 0
EndsBy (Serving opened places) (EndedMsg key) r = EndsPlace (place_at key places) r
EndsBy stage body r = r ≡ None

-- a connection in quarantine, as it is known
pub record IsInQuarantine (n : law.LastingNode) (key : Key) (r : Resting) : Type 0 where
  pub quarantined : Quarantined
  pub found : quarantined_at key n.quarantine ≡ Some quarantined
  pub stands : QuarantineStands r quarantined
  pub end : r.end.0 ≡ n.ends key
