-- What a segment reports to the peer of the receiving half.
use Rattle.std.specs.Prelude.{◌≡◌, ◌≤◌, Bool, true, false, not, List, [], ◌∷◌, length}
use Rattle.std.specs.List.{list_any, AllByRecursion}
use Rattle.seq_arith.specs.Number.{number_at}
use Rattle.seq_arith.specs.Packet.{Segment, has_rst, has_ack}
use Rattle.tcp_endpoint.specs.ReceiveHalf.{next, window}
use Rattle.tcp_endpoint.specs.States.{has_begun}
use Rattle.tcp_endpoint.specs.Tcb.{Tcb}
use Rattle.endpoint_laws.specs.Turn.{Call, Events, arrived, called, before_flush, turned, sent_in}
use Rattle.endpoint_laws.specs.Turn.Call.{Reads}

-- a segment that isn't a RST acknowledges all that is taken, and advertises the window
abbrev pub Advertises : Tcb → Segment → Type 0
Advertises u segment =
    has_rst segment ≡ false
    → (has_ack segment ≡ true) × (segment.head.ack ≡ number_at u.receiving.irs (next u.receiving)) × (segment.head.window ≡ window u.receiving)

-- some segment isn't a RST
abbrev pub is_reported : List Segment → Bool
is_reported segments = list_any (λ segment. not (has_rst segment)) segments

-- no call reads more than there is
abbrev pub ReadsOnlyTaken : List Call → Tcb → Type 0
ReadsOnlyTaken [] e = Unit {0}
ReadsOnlyTaken (Reads n ∷ calls) e = (n ≤ length e.receiving.unread) × ReadsOnlyTaken calls (called (Reads n) e)
ReadsOnlyTaken (call ∷ calls) e = ReadsOnlyTaken calls (called call e)

-- at the end of each turn of a connection that has begun, every segment but a RST acknowledges all that is taken, and such a segment is sent if more was taken
abbrev pub AcknowledgesAll : Tcb → List Events → Type 0
AcknowledgesAll e [] = Unit {0}
AcknowledgesAll e (turn ∷ turns) =
    (ReadsOnlyTaken turn.calls (arrived turn.news e)
    → has_begun (before_flush turn.news turn.calls e).name ≡ true
    → AllByRecursion (Advertises (before_flush turn.news turn.calls e)) (sent_in turn.news turn.calls e)
    × ((next (before_flush turn.news turn.calls e).receiving ≡ next e.receiving → ⊥) → is_reported (sent_in turn.news turn.calls e) ≡ true))
    × AcknowledgesAll (turned turn.news turn.calls e) turns
