-- The timestamps of a connection stay in their ranges, and its segments leave room for them.
use Rattle.std.proofs.Common.{◌≡◌, ℕ, ◌+◌, ◌<◌, ◌≤◌, ◌^◌, Bool, true, false, nat_le, refl, ap, arith, leb-true, length, ◌∙◌, ◌&&◌, not, pos}
use Rattle.std.specs.Prelude.{int_le}
use Rattle.seq_arith.specs.Packet.{Segment, has_rst}
use Rattle.ft_model.specs.Offset.{first_of}
use Rattle.ft_model.specs.Point.{acknowledgement}
use Rattle.ft_model.specs.Taken.{accepts}
use Rattle.std.specs.Prelude.{Option, None, Some, IfSome}
use Rattle.ft_io.proofs.Choices.{holds_if}
use Rattle.seq_arith.specs.declared.options.Timestamps.{Timestamps}
use Rattle.seq_arith.specs.Number.{precedes_or_is}
use Rattle.seq_arith.specs.Packet.{text_size}
use Rattle.seq_arith.specs.PacketGrammar.{timestamps_option}
use Rattle.seq_arith.proofs.Units.{timestamps_option_long}
use Rattle.tcp_rules.specs.Timestamping.{newest, echo_after, timestamps_sent, asked_by, fitting, resumed_with}
use Rattle.tcp_rules.specs.declared.timestamping.Timestamping.{Timestamping}
use Rattle.tcp_rules.specs.declared.timestamping.Timestamping.TheVariants.{Off, Awaited, Echoes}
use Rattle.ft_model.specs.News.{News}
use Rattle.ft_model.specs.News.News.{Comes, Logged, Ticks, Begins}
use Rattle.ft_model.specs.Point.{Point}
use Rattle.ft_model.specs.Timestamps.{is_timely, timestamping_after}
use Rattle.ft_model.proofs.Formed.{IsSize, IsShortEcho, HasRoom}
use Rattle.ft_io.proofs.Booleans.{and_false}

abbrev pub AreShort : Option Timestamps → Type 0
AreShort timestamps = IfSome timestamps (λ t. (t.value < 2 ^ 32) × (t.echo < 2 ^ 32))

-- the size that a SYN asks for
pub is_size : (mss : Option ℕ) (timestamps : Option Timestamps) → IsSize (text_size mss timestamps)
is_size (Some mss) None = (omega arith, omega arith)
is_size None None = (omega arith, omega arith)
is_size (Some mss) (Some timestamps) = (omega arith, omega arith)
is_size None (Some timestamps) = (omega arith, omega arith)

pub asked_short : (uses : Bool) (timestamps : Option Timestamps) → AreShort timestamps → IsShortEcho (asked_by uses timestamps)
asked_short false timestamps h = tt
asked_short true None h = tt
asked_short true (Some timestamps) h = h.0

pub fitting_has_room : (timestamping : Timestamping) (mss : ℕ) → IsShortEcho timestamping → HasRoom mss (fitting timestamping mss)
fitting_has_room Off mss h = tt
fitting_has_room Awaited mss h =
    holds_if (HasRoom mss) (nat_le (mss + 12) 1460) Awaited Off (λ t. let low : mss + 12 ≤ 1460 = leb-true (mss + 12) 1460 t in omega (arith, low)) (λ t. tt)
fitting_has_room (Echoes recent) mss h =
    holds_if (HasRoom mss) (nat_le (mss + 12) 1460) (Echoes recent) Off
    (λ t. let low : mss + 12 ≤ 1460 = leb-true (mss + 12) 1460 t in (omega (arith, low), h)) (λ t. tt)

pub resumed_has_room : (uses : Bool) (mss : ℕ) → HasRoom mss (resumed_with uses mss)
resumed_has_room false mss = tt
resumed_has_room true mss = fitting_has_room Awaited mss tt

pub newest_short : (recent value : ℕ) → recent < 2 ^ 32 → value < 2 ^ 32 → newest recent value < 2 ^ 32
newest_short recent value old new = holds_if (λ n. n < 2 ^ 32) (precedes_or_is recent value) value recent (λ t. new) (λ t. old)

echo_has_room : (mss : ℕ) (timestamping : Timestamping) (timely : Bool) (timestamps : Option Timestamps) → HasRoom mss timestamping → AreShort timestamps
    → HasRoom mss (echo_after timestamping timely timestamps)
echo_has_room mss Off timely timestamps h short = tt
echo_has_room mss Awaited timely None h short = h
echo_has_room mss Awaited timely (Some timestamps) h short =
    holds_if (HasRoom mss) timely (Echoes timestamps.value) Awaited (λ t. (h, short.0)) (λ t. h)
echo_has_room mss (Echoes recent) timely None h short = h
echo_has_room mss (Echoes recent) timely (Some timestamps) h short =
    holds_if (HasRoom mss) timely (Echoes (newest recent timestamps.value)) (Echoes recent) (λ t. (h.0, newest_short recent timestamps.value h.1 short.0)) (λ t. h)

-- what comes has timestamps of 32 bits
abbrev pub NewsShort : News → Type 0
NewsShort (Comes segment) = AreShort segment.head.timestamps
NewsShort _ = Unit {0}

pub turn_has_room : (news : News) (p : Point) → NewsShort news → HasRoom p.mss p.timestamping → HasRoom p.mss (timestamping_after news p)
turn_has_room (Comes segment) p short h = echo_has_room p.mss p.timestamping (is_timely p segment) segment.head.timestamps h short
turn_has_room (Logged kept) p short h = h
turn_has_room Ticks p short h = h
turn_has_room Begins p short h = h

-- what a segment carries
pub sent_short : (mss : ℕ) (timestamping : Timestamping) → HasRoom mss timestamping → AreShort (timestamps_sent timestamping)
sent_short mss Off h = tt
sent_short mss Awaited h = tt
sent_short mss (Echoes recent) h = (omega arith, h.1)

pub sent_fits : (mss : ℕ) (timestamping : Timestamping) → mss ≤ 1460 → HasRoom mss timestamping
    → (length (timestamps_option (timestamps_sent timestamping)) ≤ 12) × (mss + length (timestamps_option (timestamps_sent timestamping)) ≤ 1460)
sent_fits mss Off small h = (omega arith, omega (arith, small))
sent_fits mss Awaited small h = (omega arith, omega (arith, small))
sent_fits mss (Echoes recent) small h =
    let long = timestamps_option_long (record { value = 1; echo = recent }) in (omega (arith, long), omega (arith, long, h.0))

-- a connection without timestamps stays so
pub stays_off : (news : News) (p : Point) → p.timestamping ≡ Off → timestamping_after news p ≡ Off
stays_off (Comes segment) p off = ap (λ t. echo_after t (is_timely p segment) segment.head.timestamps) off
stays_off (Logged kept) p off = off
stays_off Ticks p off = off
stays_off Begins p off = off

-- after a restart nothing is echoed
pub none_echoed : (uses : Bool) (mss : ℕ) → timestamps_sent (resumed_with uses mss) ≡ None
none_echoed false mss = refl
none_echoed true mss = holds_if (λ t. timestamps_sent t ≡ None) (nat_le (mss + 12) 1460) Awaited Off (λ t. refl) (λ t. refl)

late : (p : Point) (segment : Segment) → int_le (first_of p.cisn segment) (pos (acknowledgement p)) ≡ false → is_timely p segment ≡ false
unfolding is_timely
late p segment past = ap (λ b. (accepts p segment && not (has_rst segment)) && b) past ∙ and_false (accepts p segment && not (has_rst segment))

untimely : (before : Timestamping) (timestamps : Option Timestamps) → echo_after before false timestamps ≡ before
untimely Off timestamps = refl
untimely Awaited None = refl
untimely Awaited (Some timestamps) = refl
untimely (Echoes recent) None = refl
untimely (Echoes recent) (Some timestamps) = refl

-- a segment past the last acknowledgement changes nothing
pub late_changes_none : (p : Point) (segment : Segment) → int_le (first_of p.cisn segment) (pos (acknowledgement p)) ≡ false → timestamping_after (Comes segment) p ≡ p.timestamping
late_changes_none p segment past =
    ap (λ b. echo_after p.timestamping b segment.head.timestamps) (late p segment past) ∙ untimely p.timestamping segment.head.timestamps
