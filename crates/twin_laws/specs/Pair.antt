-- A head and a tail under every list of deliveries, with losses, repeats and reorderings, and at most one stop; and what it means that they act as one log.
use Rattle.std.specs.Prelude.{◌≡◌, ℕ, ◌≤◌, Bool, true, false, ◌&&◌, Option, Some, None, List, [], ◌∷◌, ◌++◌, length, take, slice_get, if◌then◌else◌}
use Rattle.std.specs.Option.{option_to_list}
use Rattle.seq_arith.specs.Message.{Message}
use Rattle.ft_model.specs.Log.{Log, empty_log, log_after, answer_to}
use Rattle.twin_laws.specs.declared.part.Part.{Part}
use Rattle.twin_laws.specs.declared.part.Part.TheVariants as parts
use Rattle.twin_laws.specs.Twin.{Request, Between, Comes, Head, Tail, new_head, new_tail, head_does, tail_does}
use Rattle.twin_laws.specs.Twin.Comes.{Asks, Reports, Is_noise}

-- The two loggers, with their histories
pub record Pair : Type 0 where
  pub head : Head
  pub tail : Tail
  pub from_head : List Between  -- all that the head ever sent to the tail, in order
  pub from_tail : List Between  -- .. and the tail to the head
  pub answers : List Message  -- all that either ever sent to the server, in order
  pub given : List Request  -- what the server asked of the survivor alone, in order
  pub head_stopped : Bool
  pub tail_stopped : Bool

abbrev pub new_pair : Pair
new_pair = record { head = new_head; tail = new_tail; from_head = []; from_tail = []; answers = []; given = []; head_stopped = false; tail_stopped = false }

-- A delivery of the network names, by its place, anything that the other logger ever sent, any number of times and in any order. What is never named is lost.
-- Any request of the server may arrive at either
pub data Delivery : Type 0 where
  Server_asks : Part → Request → Delivery
  Other_reports : Part → (place : ℕ) → Delivery
  Noise_comes_to : Part → Delivery
  Stops : Part → Delivery

-- what was sent at a place; noise where nothing was
abbrev pub reported_by : Option Between → Comes
reported_by None = Is_noise
reported_by (Some between) = Reports between

abbrev pub reported_at : List Between → ℕ → Comes
reported_at sent place = reported_by (slice_get sent place)

abbrev pub asked_in : Comes → List Request
asked_in (Asks request) = request ∷ []
asked_in _ = []

-- a logger that has stopped does nothing
abbrev pub head_has : Comes → Pair → Pair
head_has comes p =
    if p.head_stopped then p
    else (let d = head_does comes p.head in
    record p {
      head = d.next;
      from_head = p.from_head ++ d.to_other;
      answers = p.answers ++ d.to_server;
      given = if p.tail_stopped then p.given ++ asked_in comes else p.given;
    })

abbrev pub tail_has : Comes → Pair → Pair
tail_has comes p =
    if p.tail_stopped then p
    else (let d = tail_does comes p.tail in
    record p {
      tail = d.next;
      from_tail = p.from_tail ++ d.to_other;
      answers = p.answers ++ d.to_server;
      given = if p.head_stopped then p.given ++ asked_in comes else p.given;
    })

-- one of them stops, and the other learns that it serves alone
abbrev pub stopped_by : Part → Pair → Pair
stopped_by parts.Head p = record p { head_stopped = true; tail = record p.tail { alone = true } }
stopped_by parts.Tail p = record p { tail_stopped = true; head = record p.head { alone = true } }

-- after a first stop there is no second
abbrev pub pair_after : Pair → Delivery → Pair
pair_after p (Server_asks parts.Head request) = head_has (Asks request) p
pair_after p (Server_asks parts.Tail request) = tail_has (Asks request) p
pair_after p (Other_reports parts.Head place) = head_has (reported_at p.from_tail place) p
pair_after p (Other_reports parts.Tail place) = tail_has (reported_at p.from_head place) p
pair_after p (Noise_comes_to parts.Head) = head_has Is_noise p
pair_after p (Noise_comes_to parts.Tail) = tail_has Is_noise p
pair_after p (Stops part) = if p.head_stopped then p else (if p.tail_stopped then p else stopped_by part p)

abbrev pub pair_over : Pair → List Delivery → Pair
pair_over p [] = p
pair_over p (delivery ∷ deliveries) = pair_over (pair_after p delivery) deliveries

-- a tail that is given datagrams of the head, one after another
abbrev pub tail_over : Tail → List Between → Tail
tail_over tail [] = tail
tail_over tail (between ∷ betweens) = tail_over (tail_does (Reports between) tail).next betweens

-- one log over requests in their order, and what it answers
abbrev pub log_over : Log → List Request → Log
log_over log [] = log
log_over log (request ∷ requests) = log_over (log_after log request.message) requests

abbrev pub answers_over : Log → List Request → List Message
answers_over log [] = []
answers_over log (request ∷ requests) = option_to_list (answer_to log request.message) ++ answers_over (log_after log request.message) requests

abbrev pub given_if : Bool → List Request → List Request
given_if true given = given
given_if false given = []

-- Two loggers act as one. The tail's log is the log after the requests that the tail has applied, which are the first that the head took. The head's is the log
-- after all of them. The survivor's log continues with the requests that it got when it served alone. What was sent to the server is the answers of one log to
-- the applied requests and then to the survivor's, each at its place. So whatever was answered before a stop is in the survivor's log. Nothing is confirmed
-- that wasn't applied, and nothing applied that wasn't taken
pub record ActsAsOne (p : Pair) : Type 0 where
  pub confirmed : p.head.confirmed ≤ p.tail.applied
  pub applied : p.tail.applied ≤ length p.head.taken
  pub tail : p.tail.log ≡ log_over empty_log (take p.tail.applied p.head.taken ++ given_if p.head_stopped p.given)
  pub head : p.head.log ≡ log_over empty_log (p.head.taken ++ given_if p.tail_stopped p.given)
  pub answers : p.answers ≡ answers_over empty_log (take p.tail.applied p.head.taken)
      ++ (answers_over (log_over empty_log (take p.tail.applied p.head.taken)) (given_if p.head_stopped p.given)
      ++ answers_over (log_over empty_log p.head.taken) (given_if p.tail_stopped p.given))
  pub one : (p.head_stopped && p.tail_stopped) ≡ false
  pub none : p.head_stopped ≡ false → p.tail_stopped ≡ false → p.given ≡ []

-- each serves alone exactly if the other has stopped, and the head counts no more requests as confirmed than it took
pub record IsPaired (p : Pair) : Type 0 where
  pub head_alone : p.head.alone ≡ p.tail_stopped
  pub tail_alone : p.tail.alone ≡ p.head_stopped
  pub one : (p.head_stopped && p.tail_stopped) ≡ false
  pub confirmed : p.head.confirmed ≤ length p.head.taken
