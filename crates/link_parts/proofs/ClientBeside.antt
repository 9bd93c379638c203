-- The client machine follows a client, turn by turn, as long as what arrives is near.
use Rattle.std.proofs.Common.{◌≡◌, ℕ, None, List, [], ◌∷◌, ◌++◌, length, length-drop, drop, refl, sym, ap, ap₂, subst, arith, ◌∙◌, append-nil, Result, Ok, Err}
use Rattle.std.specs.Prelude.{pos, ◌-ℤ◌, ◌≤ℤ◌, ◌^◌, ◌==◌, ◌&&◌, ◌||◌, not, int_lt}
use Rattle.std.proofs.Math.Seq.{drop-append_seam}
use Rattle.tcp_rules.specs.Arrival.{int_eq}
use Rattle.seq_arith.specs.Number.{number_at}
use Rattle.seq_arith.specs.Packet.{Segment, has_syn, has_rst, has_ack}
use Rattle.seq_arith.specs.PacketGrammar.{reading}
use Rattle.seq_arith.specs.declared.BadPacket.{BadPacket}
use Rattle.ft_model.specs.Offset.{first_of, ack_of}
use Rattle.ft_model.specs.Client.{Client, IsMove, is_opening, is_open, next_of, opened_by, may_use, came, used, arrived}
use Rattle.ft_model.specs.declared.phase.Phase.TheVariants as phases
use Rattle.ft_model.specs.Client as machine
use Rattle.peer_client.specs.Live.{LiveState, is_of, unread, sent_by, turned}
use Rattle.peer_client.specs.Refinement.{AreMoves, IsBetween, IsDue, HasReceived, AcksNear, receiving, handed_out, Moves}
use Rattle.peer_client.proofs.Whole.{due_handed, flush_moves, unread_is, due_outcome, received_of}
use Rattle.link_parts.specs.Receipt.{Received, datagram, silence, failure}
use Rattle.link_parts.specs.ClientTurns.{ClientTurn, after_receive, emptied, due_at, accepted_in}
use Rattle.link_parts.specs.ClientMachine.{IsNear, machine_then, GoesBeside, HasMachine}
use Rattle.link_parts.specs.ClientParts.{IsLimited, BeginsBeside}
use Rattle.link_parts.proofs.ClientLimits.{turned_limited, turned_read, receive_reads, limited_at}
use Rattle.ft_io.proofs.Choices.{holds_either_way}

-- the same connection
pub record IsOne (c d : Client) : Type 0 where
  pub key : d.key ≡ c.key
  pub server : d.server ≡ c.server
  pub isn : d.isn ≡ c.isn

-- a machine stays that of its connection, and what it has accepted only grows at its end
record Grows (c d : Client) : Type 0 where
  one : IsOne c d
  more : List ℕ
  accepted : d.accepted ≡ c.accepted ++ more

stays : (c d : Client) → IsOne c d → d.accepted ≡ c.accepted → Grows c d
stays c d one same = record { one = one; more = []; accepted = same ∙ sym (append-nil c.accepted) }

is_one : (c : Client) → IsOne c c
is_one c = record { key = refl; server = refl; isn = refl }

unchanged : (c : Client) → Grows c c
unchanged c = stays c c (is_one c) refl

opening_grows : (c : Client) (p : Segment) → Grows c (opened_by c p)
opening_grows c p =
    let gone : Client = record c { phase = phases.Reset } in
    let opened : Client = record c { phase = phases.Established; sisn = p.head.seq } in
    holds_either_way (Grows c) (has_ack p && p.head.ack == number_at c.isn 0) _ c
    (holds_either_way (Grows c) (has_rst p) gone _ (stays c gone (record { key = refl; server = refl; isn = refl }) refl)
    (holds_either_way (Grows c) (has_syn p) opened c (stays c opened (record { key = refl; server = refl; isn = refl }) refl) (unchanged c))) (unchanged c)

used_grows : (c : Client) (p : Segment) → Grows c (used c p)
used_grows c p =
    holds_either_way (Grows c) (int_lt (pos c.sent) (ack_of c.isn p)) c _ (unchanged c)
    (record { one = record { key = refl; server = refl; isn = refl }; more = (came c p).added; accepted = refl })

arrival_grows : (c : Client) (p : Segment) → Grows c (arrived c p)
arrival_grows c p =
    let gone : Client = record c { phase = phases.Reset } in
    holds_either_way (Grows c) (may_use c p) _ c
    (holds_either_way (Grows c) (has_rst p) _ _
    (holds_either_way (Grows c) (int_eq (first_of c.sisn p) (pos (next_of c))) gone c (stays c gone (record { key = refl; server = refl; isn = refl }) refl) (unchanged c))
    (holds_either_way (Grows c) (has_syn p || not (has_ack p)) c (used c p) (unchanged c) (used_grows c p)))
    (unchanged c)

received_grows : (c : Client) (p : Segment) → Grows c (machine.received c p)
received_grows c p =
    holds_either_way (Grows c) (is_opening c.phase) (opened_by c p) _ (opening_grows c p)
    (holds_either_way (Grows c) (is_open c.phase) (arrived c p) c (arrival_grows c p) (unchanged c))

bytes_grow : (l : LiveState) (c : Client) (r : Result Segment BadPacket) → Grows c (receiving l c r)
bytes_grow l c (Ok p) = holds_either_way (Grows c) (is_of l.local l.server p) (machine.received c p) c (received_grows c p) (unchanged c)
bytes_grow l c (Err bad) = unchanged c

then_grows : (l : LiveState) (c : Client) (r : Received) → Grows c (machine_then l c r)
then_grows l c (datagram from bytes) = bytes_grow l c (reading bytes)
then_grows l c silence = unchanged c
then_grows l c failure = unchanged c

-- its moves leave it
one_on : (c d e : Client) → IsOne c d → IsOne d e → IsOne c e
one_on c d e h k = record { key = k.key ∙ h.key; server = k.server ∙ h.server; isn = k.isn ∙ h.isn }

move_stays : (c d : Client) (p : Segment) → IsMove c p d → IsOne c d × (d.accepted ≡ c.accepted)
move_stays c d p m = (
  record { key = ap (λ (x : Client). x.key) m.after_is; server = ap (λ (x : Client). x.server) m.after_is; isn = ap (λ (x : Client). x.isn) m.after_is },
  ap (λ (x : Client). x.accepted) m.after_is,
)

moves_stay : (segments : List Segment) (c d : Client) → AreMoves c segments d → IsOne c d × (d.accepted ≡ c.accepted)
moves_stay [] c d h =
    (record { key = ap (λ (x : Client). x.key) h; server = ap (λ (x : Client). x.server) h; isn = ap (λ (x : Client). x.isn) h }, ap (λ (x : Client). x.accepted) h)
moves_stay (p ∷ segments) c d h =
    let first = move_stays c h.0 p h.1 in
    let rest = moves_stay segments h.0 d h.2 in
    (one_on c h.0 d first.0 rest.0, rest.1 ∙ first.1)

-- near is said by the connection alone
near_bytes : (c d : Client) (r : Result Segment BadPacket) → IsOne c d → AcksNear c r → AcksNear d r
near_bytes c d (Ok p) one h = λ from some.
    subst (λ (n : ℕ). (pos 0 -ℤ pos (2 ^ 30)) ≤ℤ ack_of n p) (sym one.isn)
    (h ((λ i. is_of (record { ip = (sym one.key i).ip; port = (sym one.key i).port }) (sym one.server i) p) ∙ from) some)
near_bytes c d (Err bad) one h = tt

near_same : (c d : Client) (r : Received) → IsOne c d → IsNear c r → IsNear d r
near_same c d (datagram from bytes) one h = near_bytes c d (reading bytes) one h
near_same c d silence one h = tt
near_same c d failure one h = tt

-- one turn: the flush, and what is received then
record Steps (l : LiveState) (first c : Client) (r : Received) : Type 0 where
  later : Client
  one : IsOne first (machine_then (turned l) later r)
  moves : AreMoves c (sent_by l) later
  due : IsDue (emptied (after_receive (turned l) r)) (machine_then (turned l) later r)
  accepted : (machine_then (turned l) later r).accepted ≡ c.accepted ++ unread (after_receive (turned l) r)
  all : (emptied (after_receive (turned l) r)).seen ≡ length (after_receive (turned l) r).tcb.receiving.unread

steps : (isn : ℕ) (l : LiveState) (first c : Client) (r : Received) → IsLimited isn l → IsOne first c → l.outcome ≡ None → IsDue l c
    → l.seen ≡ length l.tcb.receiving.unread → IsNear first r
    → ((d : Client) → IsBetween (turned l) d → (turned l).outcome ≡ None → IsNear d r → IsDue (after_receive (turned l) r) (machine_then (turned l) d r)) → Steps l first c r
steps isn l first c r limited one none due all near goes =
    let m : Moves (turned l) (sent_by l) c = flush_moves l c due in
    let between : IsBetween (turned l) m.later = m.proceeds none in
    let t : IsLimited isn (turned l) = turned_limited isn l limited in
    let left = moves_stay (sent_by l) c m.later m.moves in
    let same : IsOne first m.later = one_on first c m.later one left.0 in
    let after : LiveState = after_receive (turned l) r in
    let d : Client = machine_then (turned l) m.later r in
    let due_then : IsDue after d = goes m.later between none (near_same first m.later r same near) in
    let reads = receive_reads isn (turned l) r t in
    let receipt : HasReceived l.tcb.receiving c = received_of l c due in
    let seen : after.seen ≡ 0 = reads.1 in
    let count : handed_out after ≡ length c.accepted = omega (arith, reads.0, seen, turned_read isn l limited, all, receipt.count) in
    let grows : Grows m.later d = then_grows (turned l) m.later r in
    let accepted : d.accepted ≡ c.accepted ++ grows.more = grows.accepted ∙ ap (λ xs. xs ++ grows.more) left.1 in
    let rest : unread after ≡ grows.more =
    unread_is after d due_then ∙ ap₂ (λ n xs. drop n xs) count accepted ∙ drop-append_seam c.accepted grows.more in
    record {
      later = m.later;
      one = one_on first m.later d same grows.one;
      moves = m.moves;
      due = due_handed after d (length (unread after)) due_then;
      accepted = accepted ∙ ap (λ xs. c.accepted ++ xs) (sym rest);
      all = omega (arith, seen, length-drop after.seen after.tcb.receiving.unread);
    }

-- all turns so far
pub record Beside (start : LiveState) (first : Client) (turns : List ClientTurn) : Type 0 where
  pub machine : Client
  pub one : IsOne first machine
  pub goes : GoesBeside start first turns machine
  pub due : IsDue (due_at start turns) machine
  pub accepted : accepted_in start turns ≡ machine.accepted
  pub all : (due_at start turns).seen ≡ length (due_at start turns).tcb.receiving.unread

pub beside_none : (start : LiveState) (first : Client) → BeginsBeside start first → Beside start first []
unfolding due_at accepted_in GoesBeside
beside_none start first h =
    let receipt : HasReceived start.tcb.receiving first = received_of start first h.due in
    let count : length start.tcb.receiving.unread ≡ 0 = omega (arith, receipt.count, ap length h.nothing) in
    record { machine = first; one = is_one first; goes = refl; due = h.due; accepted = sym h.nothing; all = h.unseen ∙ sym count }

pub beside_on : (isn : ℕ) (start : LiveState) (first : Client) (turn : ClientTurn) (earlier : List ClientTurn) → IsLimited isn start
    → (due_at start earlier).outcome ≡ None
    → ((d : Client) → IsBetween (turned (due_at start earlier)) d → (turned (due_at start earlier)).outcome ≡ None → IsNear d turn.received
    → IsDue (after_receive (turned (due_at start earlier)) turn.received) (machine_then (turned (due_at start earlier)) d turn.received))
    → IsNear first turn.received → Beside start first earlier → Beside start first (turn ∷ earlier)
unfolding due_at accepted_in GoesBeside
beside_on isn start first turn earlier limited none goes near h =
    let s : Steps (due_at start earlier) first h.machine turn.received =
    steps isn (due_at start earlier) first h.machine turn.received (limited_at isn start earlier limited) h.one none h.due h.all near goes in
    record {
      machine = machine_then (turned (due_at start earlier)) s.later turn.received;
      one = s.one;
      goes = (h.machine, s.later, h.goes, s.moves, refl);
      due = s.due;
      accepted = ap (λ xs. xs ++ unread (after_receive (turned (due_at start earlier)) turn.received)) h.accepted ∙ sym s.accepted;
      all = s.all;
    }

pub beside_ends : (start : LiveState) (first : Client) (turns : List ClientTurn) → Beside start first turns → HasMachine start first turns
beside_ends start first turns h =
    let m : Moves (turned (due_at start turns)) (sent_by (due_at start turns)) h.machine = flush_moves (due_at start turns) h.machine h.due in
    record {
      machine = h.machine;
      later = m.later;
      goes = h.goes;
      moves = m.moves;
      accepted = h.accepted;
      outcome = due_outcome (due_at start turns) h.machine h.due;
    }
