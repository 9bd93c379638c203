-- What a server that lasts notes of its keys in a turn on a message of its own boot: what it knew, and what it knows then, by the stage of its node after
-- the turn.
use Rattle.std.specs.Prelude.{◌≡◌, ◌&&◌, not, Bool, false, find, is_some, Option, Some, None, MatchOption, option_map, if◌then◌else◌}
use Rattle.ft_io.specs.declared.Key.{Key}
use Rattle.ft_io.specs.Key.{key_eq}
use Rattle.seq_arith.specs.Message.{EntryHead, Body}
use Rattle.seq_arith.specs.Message.Body.{EntryMsg, OpenedMsg}
use Rattle.ft_model.specs.Node.{Place, Stage, place_at}
use Rattle.ft_model.specs.Node.Place.{Ended}
use Rattle.ft_model.specs.Node.Stage.{Fetching, Serving}
use Rattle.long_laws.specs.LongTrace.{places_at}
use Rattle.long_laws.specs.Quarantine.{named_head}
use Rattle.lasting_laws.specs.Closing.{end_of_head}
use Rattle.lasting_laws.specs.Watching.{is_live}
use Rattle.forget_wire.specs.Value.{named_said}
use Rattle.lasting_lives.specs.declared.life.Life.{Life}
use Rattle.lasting_lives.specs.declared.life.Life.TheVariants as life
use Rattle.lasting_lives.specs.declared.life.Resting.{Resting}
use Rattle.lasting_lives.specs.declared.watch.Origin.{Origin}
use Rattle.lasting_lives.specs.declared.watch.Origin.TheVariants as origin
use Rattle.lasting_lives.specs.Known.{begun_life, restored_life}
use Rattle.lasting_lives.specs.Lives.{resting_in, watch_in}

-- what is known of one key changes, and all else stays; or all stays
abbrev pub ChangesAt : Key → (Option Life → Option Life) → (old new : Key → Option Life) → Type 0
ChangesAt key change old new = (k : Key) → new k ≡ (if key_eq key k then change (old k) else old k)

abbrev pub StaysKnown : (old new : Key → Option Life) → Type 0
StaysKnown old new = (k : Key) → new k ≡ old k

-- the key whose connection a message says is open
abbrev pub opened_in : Body → Option Key
opened_in (OpenedMsg numbers) = Some numbers.key
opened_in _ = None

-- a watch begins where a connection is live and has none
abbrev pub watched_from : Origin → (live : Bool) → Option Life → Option Life
watched_from o live l = if live && not (is_some (watch_in l)) then Some (begun_life o) else l

-- while the node serves: the quarantine of the connection that the message has ended begins, or else the watch of the one that it has opened
abbrev pub NotesServing : Body → (ends : Option Resting) → Stage → (old new : Key → Option Life) → Type 0
NotesServing body (Some r) stage old new = ChangesAt r.named.key (λ l. Some (life.Resting r)) old new
NotesServing body None stage old new =
    MatchOption (opened_in body) (StaysKnown old new)
    (λ key. ChangesAt key (watched_from origin.Opened (is_live (place_at key (places_at stage)))) old new)

-- The head of a key's entry, if it was fetched as done. When the last one has come, the server serves already, and its place is done
abbrev pub if_done : Option EntryHead → Option EntryHead
if_done (Some head) = if head.done then Some head else None
if_done None = None

abbrev pub if_ended : EntryHead → Option Place → Option EntryHead
if_ended head (Some (Ended key)) = Some head
if_ended head _ = None

abbrev pub done_head : EntryHead → Stage → Option EntryHead
done_head head (Serving opened places) = if_ended head (place_at head.key places)
done_head head (Fetching count fetched) = if_done (option_map (λ f. f.head) (find (λ f. key_eq f.head.key head.key) fetched))
done_head head _ = None

-- a quarantine begins by the head of its entry, where there is none yet
abbrev pub RestsFrom : Option EntryHead → (old new : Option Life) → Type 0
RestsFrom (Some head) old new =
    (r : Resting) × (new ≡ Some (life.Resting r)) × (named_said r.named ≡ named_head head) × (r.end.0 ≡ end_of_head head) × (r.age ≡ 0)
RestsFrom None old new = new ≡ old

pub record NotesFetched (head : EntryHead) (stage : Stage) (old new : Key → Option Life) : Type 0 where
  pub others : (k : Key) → key_eq head.key k ≡ false → new k ≡ old k
  pub its : MatchOption (resting_in (old head.key)) (RestsFrom (done_head head stage) (old head.key) (new head.key)) (λ r. new head.key ≡ old head.key)

-- .. whatever is known of it
pub record RestsAtHead (head : EntryHead) (old new : Key → Option Life) : Type 0 where
  pub others : (k : Key) → key_eq head.key k ≡ false → new k ≡ old k
  pub its : RestsFrom (Some head) (old head.key) (new head.key)

-- while the node restarts: the quarantine of an entry that has come as done begins; and where the restart is over, the watches of all restored connections
abbrev pub NotesEntry : Body → Stage → (old new : Key → Option Life) → Type 0
NotesEntry (EntryMsg index head) stage old new = NotesFetched head stage old new
NotesEntry _ stage old new = StaysKnown old new

abbrev pub NotesRestored : Stage → (old new : Key → Option Life) → Type 0
NotesRestored (Serving opened places) old new = (k : Key) → new k ≡ restored_life (place_at k places) (old k)
NotesRestored _ old new = StaysKnown old new

pub record NotesRestart (body : Body) (stage : Stage) (old new : Key → Option Life) : Type 0 where
  pub mid : Key → Option Life
  pub entry : NotesEntry body stage old mid
  pub restored : NotesRestored stage mid new
