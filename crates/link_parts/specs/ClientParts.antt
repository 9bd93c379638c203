-- What the parts of a client's turn do, and what always holds of a live client.
use Rattle.limits.specs.Limits.{longest_stream}
use Rattle.std.specs.Prelude.{◌≡◌, ℕ, ◌+◌, ◌^◌, ◌≤◌, min, Bool, Option, None, List, [], ◌∷◌, length}
use Rattle.tcp_rules.specs.Coming.{Early, StandsBehind}
use Rattle.seq_arith.specs.Offset.{one_if}
use Rattle.ft_io.specs.declared.Addr.{Addr}
use Rattle.ft_io.specs.declared.link_call.LinkCall.{LinkCall}
use Rattle.ft_io.specs.Reported.{Reports}
use Rattle.ft_io.specs.Sink.{AppendsFront}
use Rattle.std.specs.Io.KnownBytes.{Appends}
use Rattle.tcp_endpoint.specs.ReceiveHalf.{Receiving}
use Rattle.tcp_endpoint.specs.SendHalf.{Sending}
use Rattle.tcp_endpoint.specs.Tcb.{Tcb}
use Rattle.ft_model.specs.Client.{Client}
use Rattle.peer_client.specs.Live.{LiveState, unread, turned}
use Rattle.peer_client.specs.Refinement.{IsBetween, IsDue}
use Rattle.peer_client.specs.declared.live.ClientEnd.TheVariants as ends
use Rattle.link_parts.specs.declared.role.ClientRole.{ClientRole}
use Rattle.link_parts.specs.declared.status.NodeEnd.{NodeEnd}
use Rattle.link_parts.specs.declared.status.NodeEnd.TheVariants.{WriteFault, Reset, Spent}
use Rattle.link_parts.specs.Receipt.{Received, received_as}
use Rattle.link_parts.specs.ClientTurns.{ClientTurn, after_receive, emptied, handings, flush_calls}
use Rattle.link_parts.specs.ClientMachine.{IsNear, machine_then}
use Rattle.link_parts.specs.ClientRuns.{Runs, IsEndedBy, IsSpent, IsCutShort}

-- packets are handed to send, whichever of these calls fail
pub record AreHanded (to : Addr) (packets : List (List ℕ)) (old new : Option (List LinkCall)) : Type 0 where
  pub losses : List Bool
  pub reports : Reports old new (handings to packets losses)

-- one receive
pub record HasReceived (before after : LiveState) (old new : Option (List LinkCall)) : Type 0 where
  pub received : Received
  pub reports : Reports old new (received_as received ∷ [])
  pub state : after ≡ after_receive before received
  pub beside : (c : Client) → IsBetween before c → before.outcome ≡ None → IsNear c received → IsDue after (machine_then before c received)

-- one turn
pub record HasTurned (server : Addr) (before after : LiveState) (old new : Option (List LinkCall)) (Writes : List ℕ → Type 0) : Type 0 where
  pub turn : ClientTurn
  pub reports : Reports old new (received_as turn.received ∷ flush_calls server (emptied (after_receive before turn.received)) turn.losses)
  pub state : after ≡ turned (emptied (after_receive before turn.received))
  pub written : Writes (unread (after_receive before turn.received))
  pub beside : (c : Client) → IsBetween before c → before.outcome ≡ None → IsNear c turn.received
      → IsDue (after_receive before turn.received) (machine_then before c turn.received)

-- with so many bytes written and read: what was sent or waits to be sent is within the bytes written and a FIN, what waits to be read fits the receive
-- buffer, and the text that came out of order lies after what waits to be read
pub record Limits (isn written read own una sent wl2 held : ℕ) (fin_sent : Bool) (done waiting limit : ℕ) (fin : Bool) (early : Early) : Type 0 where
  pub isn_is : own ≡ isn
  pub order : una ≤ sent
  pub wl2_within : wl2 ≤ sent
  pub sent_within : sent ≤ written + one_if fin_sent
  pub held_within : una + held ≤ written + one_if fin_sent
  pub read_is : done ≡ read
  pub queued : waiting ≤ 65535
  pub behind : StandsBehind (done + waiting) (min (done + 65535) limit) fin early

abbrev pub HasLimits : (isn written read : ℕ) → Sending → Receiving → Type 0
HasLimits isn written read s r = Limits isn written read s.iss s.una s.sent s.wl2 (length s.held) s.fin_sent r.read (length r.unread) r.limit r.fin r.early

abbrev pub IsWithin : (isn written read : ℕ) → Tcb → Type 0
IsWithin isn written read e = HasLimits isn written read e.sending e.receiving

-- a live client has sent no more than its script and a FIN, whatever came
pub record IsLimited (isn : ℕ) (l : LiveState) : Type 0 where
  pub tcb : IsWithin isn l.written l.tcb.receiving.read l.tcb
  pub written : l.written ≤ length l.script
  pub script : length l.script ≤ longest_stream

-- the client of these words, as its first flush is due
pub record IsFresh (role : ClientRole) (l : LiveState) : Type 0 where
  pub limited : IsLimited role.isn l
  pub server : l.server ≡ role.server
  pub outcome : l.outcome ≡ None

-- a client's first flush is due, and the machine that follows it has accepted nothing yet
pub record BeginsBeside (l : LiveState) (c : Client) : Type 0 where
  pub due : IsDue l c
  pub nothing : c.accepted ≡ []
  pub unseen : l.seen ≡ 0

-- how a run stops without both ends closed
abbrev pub RunStops : LiveState → Client → ℕ → List LinkCall → (old new : Option (List LinkCall)) → (out_old out_new : Option (List ℕ)) → NodeEnd → Type 0
RunStops start machine most calls old new out_old out_new WriteFault = Runs start machine most calls old new (AppendsFront out_old out_new) IsCutShort
RunStops start machine most calls old new out_old out_new Reset = Runs start machine most calls old new (Appends out_old out_new) (IsEndedBy ends.Reset)
RunStops start machine most calls old new out_old out_new Spent = Runs start machine most calls old new (Appends out_old out_new) (IsSpent most)
RunStops start machine most calls old new out_old out_new _ = ⊥
