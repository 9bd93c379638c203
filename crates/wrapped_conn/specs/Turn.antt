-- The turns of a connection, over its three parts: what its TCP does with what arrives and with its user's calls, and what is sent then.
use Rattle.std.specs.Prelude.{◌≡◌, ℕ, Bool, true, false, ◌+◌, ◌==◌, ◌&&◌, List, [], ◌++◌, length, drop, nat_lt, nat_le, if◌then◌else◌}
use Rattle.std.specs.Bool.{MatchBool}
use Rattle.seq_arith.specs.Offset.{one_if}
use Rattle.seq_arith.specs.Packet.{Segment}
use Rattle.seq_arith.specs.Message.{Body}
use Rattle.server_trait.specs.Service.{Served}
use Rattle.logger_wire.specs.declared.Body.{Body as Said}
use Rattle.logger_wire.specs.declared.Body.TheVariants.{Stable, Reads, Ended}
use Rattle.south_wrap.specs.SouthState.{with_stable}
use Rattle.south_wrap.specs.Translation.{repeats_syn}
use Rattle.north_wrap.specs.declared.read_record.ReadRecord.{ReadRecord}
use Rattle.north_wrap.specs.NorthState.{NorthState, Turns, lengths_of, answered_on}
use Rattle.north_wrap.specs.Refinement.{messages_of}
use Rattle.tcp_endpoint.specs.Tcb.{Tcb}
use Rattle.tcp_endpoint.specs.UserCalls.{after_tick}
use Rattle.tcp_endpoint.specs.Output.{leaving, packets}
use Rattle.endpoint_laws.specs.Turn.{used}
use Rattle.wrapped_conn.specs.declared.stage.Before.{Before}
use Rattle.wrapped_conn.specs.declared.stage.ConnStage.TheVariants.{Done}
use Rattle.wrapped_conn.specs.ConnState.{ConnState}
use Rattle.wrapped_conn.specs.Numbers.{una_units, units_taken, logged_units, is_over, resets}
use Rattle.connection_laws.specs.OutputFeed.{tcp_reader, tcp_writer}
use Rattle.wrapped_conn.specs.Calls.{calls_of}
use Rattle.wrapped_conn.specs.Arrival.{arrived, before_segment, before_other}
use Rattle.wrapped_conn.specs.Output.{turn_ended, tcp_out, leaves, passed}
use Rattle.wrapped_conn.specs.LoggerMessages.{spelled, copies, dones, with_done}

-- TCP after the calls of the north wrapper's turn with these reads
abbrev pub tcp_used : {S : Type 0} → ConnState S → List ReadRecord → Tcb
tcp_used c reads = used (calls_of c.north c.endpoint (lengths_of reads)) c.endpoint

-- the connection after that turn: the south wrapper has learnt how much is read
abbrev pub served : {S : Type 0} → NorthState S → List ReadRecord → ConnState S → ConnState S
served north reads c = record c { north = north; endpoint = tcp_used c reads; south = record c.south { read = north.read } }

-- the reads that a turn made: those after the earlier ones that weren't known to be logged
abbrev pub new_reads : {S : Type 0} → (old new : ConnState S) → List ReadRecord
new_reads old new = drop (length old.north.reads) new.north.reads

-- the rest of a turn, once its news has arrived: the north wrapper's turn, the end of TCP's, and what is sent
pub record CompletesTurn {S : Type 0} (after : S → List ℕ
    → Served S) (before : Before) (repeats : Bool) (copied : List Body) (old new : ConnState S) (segments messages : List (List ℕ)) : Type 0 where
  pub north : Turns after tcp_reader tcp_writer (una_units old) old.north old.endpoint (new_reads old new) new.north (tcp_used old (new_reads old new))
  pub state : new ≡ turn_ended (served new.north (new_reads old new) old)
  pub goes_out : segments ≡ packets (leaves before repeats new (tcp_out before (served new.north (new_reads old new) old)))
  pub reported : messages ≡ spelled old.batches old.boot (copied ++ messages_of old.key (new_reads old new))

-- a connection that stays as it was and sends nothing
pub record Rests {S : Type 0} (old new : ConnState S) (segments messages : List (List ℕ)) : Type 0 where
  pub state : new ≡ old
  pub goes_out : segments ≡ []
  pub reported : messages ≡ []

-- one that has ended reports that, and nothing else
pub record ReportsDone {S : Type 0} (old new : ConnState S) (segments messages : List (List ℕ)) : Type 0 where
  pub state : new ≡ with_done old
  pub goes_out : segments ≡ []
  pub reported : messages ≡ spelled old.batches old.boot (dones old)

-- a connection becomes live
abbrev pub Starts : {S : Type 0} → (S → List ℕ → Served S) → (old new : ConnState S) → (segments messages : List (List ℕ)) → Type 0
Starts after old new segments messages = CompletesTurn after (before_other true old) false [] old new segments messages

-- a segment arrives
abbrev pub Receives : {S : Type 0} → (S → List ℕ → Served S) → Segment → (old new : ConnState S) → (segments messages : List (List ℕ)) → Type 0
Receives after segment old new segments messages =
    MatchBool old.reset (Rests old new segments messages)
    (MatchBool (resets old segment) (ReportsDone (record old { reset = true }) new segments messages)
    (CompletesTurn after (before_segment old segment) (repeats_syn old.south segment) (copies (before_segment old segment) segment (arrived segment old))
    (arrived segment old) new segments messages))

-- the logger has answered that it has this much of the connection
abbrev pub with_logged : {S : Type 0} → (length : ℕ) → (fin : Bool) → (reads : ℕ) → ConnState S → ConnState S
with_logged length fin reads c = record c { south = with_stable (length + one_if fin) c.south; north = answered_on reads c.north }

abbrev pub is_news : {S : Type 0} → (length : ℕ) → (fin : Bool) → ConnState S → Bool
is_news length fin c = nat_lt c.south.answered (length + one_if fin)

abbrev pub OnReceipt : {S : Type 0} → (S → List ℕ → Served S) → (length : ℕ) → (fin : Bool) → (reads : ℕ) → (old new : ConnState S)
    → (segments messages : List (List ℕ)) → Type 0
OnReceipt after length fin reads old new segments messages =
    MatchBool old.reset (Rests (with_logged length fin reads old) new segments messages)
    (CompletesTurn after (before_other (is_news length fin old) (with_logged length fin reads old)) false []
    (with_logged length fin reads old) new segments messages)

-- a message arrives
abbrev pub IsReported : {S : Type 0} → (S → List ℕ → Served S) → Said → (old new : ConnState S) → (segments messages : List (List ℕ)) → Type 0
IsReported after (Stable kept) old new segments messages = OnReceipt after kept.length kept.fin kept.reads old new segments messages
IsReported after (Reads kept) old new segments messages = OnReceipt after kept.length kept.fin kept.reads old new segments messages
IsReported after (Ended key) old new segments messages = Rests (record old { stage = Done }) new segments messages
IsReported after other old new segments messages = Rests old new segments messages

-- a tick passes for TCP ..
abbrev pub ticked : {S : Type 0} → ConnState S → ConnState S
ticked c = turn_ended (record c { endpoint = after_tick c.endpoint })

-- .. and is an end tick if the connection is over and all that is taken is known to be logged
abbrev pub is_end_tick : {S : Type 0} → ConnState S → Bool
is_end_tick c = is_over c.endpoint.name && nat_le (units_taken c) (logged_units c)

abbrev pub counted : {S : Type 0} → ConnState S → ConnState S
counted c = record c { end_ticks = if is_end_tick c && nat_lt c.end_ticks 4 then c.end_ticks + 1 else c.end_ticks }

-- a connection that isn't reset sends again all reads that aren't known to be logged. At the fourth end tick, and at each tick from then on, it reports that
-- it has ended
pub record TicksLive {S : Type 0} (old new : ConnState S) (segments messages : List (List ℕ)) : Type 0 where
  pub state : new ≡ (if (counted (ticked old)).end_ticks == 4 then with_done (counted (ticked old)) else counted (ticked old))
  pub goes_out : segments ≡ packets (passed (ticked old).south (leaving (after_tick old.endpoint)))
  pub reported : messages ≡ spelled old.batches old.boot (messages_of old.key old.north.reads ++ (if (counted (ticked old)).end_ticks == 4 then dones old
      else []))

abbrev pub Ticks : {S : Type 0} → (old new : ConnState S) → (segments messages : List (List ℕ)) → Type 0
Ticks old new segments messages = MatchBool old.reset (ReportsDone old new segments messages) (TicksLive old new segments messages)
