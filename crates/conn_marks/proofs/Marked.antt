-- A connection's turn with the marks that go out in it.
use Rattle.std.proofs.Common.{◌≡◌, ℕ, false, refl, sym, ap, List, [], ◌++◌, length, if◌then◌else◌}
use Rattle.ft_io.specs.declared.Addr.{Addr}
use Rattle.server_trait.specs.Service.{Machine}
use Rattle.server_trait.specs.Saved.{Writing}
use Rattle.ft_model.specs.Connection.{ConnectionTurn}
use Rattle.ft_model.specs.Network.{Packet}
use Rattle.ft_model.specs.News.{News}
use Rattle.ft_model.specs.News.News.{Ticks}
use Rattle.ft_model.specs.Point.{Point}
use Rattle.ft_model.specs.ResetAndEnd.{dones}
use Rattle.ft_model.specs.Timer.{is_tick}
use Rattle.mark_laws.specs.Marking.{Marking, MarkingTurn, IsSettled, OnlyRepeats, with_new, new_marks, outstanding_in, with_marks, marks_out, marks_sent}
use Rattle.mark_laws.proofs.MarksSent.{tick_repeats}

pub turn_marks : {State : Type 0} (service : Machine State) (writing : Writing State) (every : ℕ) (server : Addr) (boot : ℕ) (news : News) (p q : Point) (m : Marking) (packets : List Packet)
    → is_tick news ≡ false → ConnectionTurn service server boot news p q packets
    → MarkingTurn service writing every server boot news p q m (with_new service writing every q m)
    (with_marks (length (dones news p q)) (marks_out boot q (new_marks service writing every m q)) packets)
turn_marks service writing every server boot news p q m packets still turn = record {
  packets = packets;
  turn = turn;
  marking = refl;
  sent_are = ap (λ b. with_marks (length (dones news p q)) (marks_out boot q ((if b then outstanding_in m else []) ++ new_marks service writing every m q)) packets) (sym still);
}

-- a tick's turn: where the marks that the law gives it are only repetitions, it is the turn that repeats them
pub tick_marks : {State : Type 0} (service : Machine State) (writing : Writing State) (every : ℕ) (server : Addr) (boot : ℕ) (p q : Point) (m : Marking) (packets : List Packet)
    → ConnectionTurn service server boot Ticks p q packets
    → ((turn : MarkingTurn service writing every server boot Ticks p q m (with_new service writing every q m)
    (with_marks (length (dones Ticks p q)) (marks_out boot q (marks_sent service writing every Ticks m q)) packets))
    → OnlyRepeats (length (dones Ticks p q)) boot q turn.packets m (with_new service writing every q m)
    (with_marks (length (dones Ticks p q)) (marks_out boot q (marks_sent service writing every Ticks m q)) packets))
    → MarkingTurn service writing every server boot Ticks p q m m (with_marks (length (dones Ticks p q)) (marks_out boot q (outstanding_in m)) packets)
tick_marks service writing every server boot p q m packets turn law =
    let repeats = law (record { packets = packets; turn = turn; marking = refl; sent_are = refl }) in
    record { packets = packets; turn = turn; marking = sym repeats.marking; sent_are = sym repeats.sent_are }

-- a tick's turn sends the outstanding mark again, where none was due before the tick
pub tick_sends_again : {State : Type 0} (service : Machine State) (writing : Writing State) (every : ℕ) (server : Addr) (boot : ℕ) (p q : Point) (m : Marking) (packets : List Packet)
    → IsSettled service every m p → ConnectionTurn service server boot Ticks p q packets
    → MarkingTurn service writing every server boot Ticks p q m m (with_marks (length (dones Ticks p q)) (marks_out boot q (outstanding_in m)) packets)
tick_sends_again service writing every server boot p q m packets settled turn =
    tick_marks service writing every server boot p q m packets turn
    (tick_repeats service writing every server boot p q m (with_new service writing every q m)
    (with_marks (length (dones Ticks p q)) (marks_out boot q (marks_sent service writing every Ticks m q)) packets) settled)
