-- A client keeps the server's address, and the packet of its move is well formed.
use Rattle.std.proofs.Common.{◌≡◌, ℕ, ◌+◌, ◌<◌, ◌≤◌, ◌^◌, ◌==◌, pos, int_lt, true, ◌&&◌, ◌||◌, not, nat_lt, nat_le, refl, sym, ap, ◌∙◌, subst, eqb-true, Option, Some, None, IfSome, length, drop, arith, leb-true, length-append, length-take, inl, inr, ◌⊎◌, ⊎_elim, if◌then◌else◌}
use Rattle.std.proofs.lemmas.Bool.{ltb-true, and_parts}
use Rattle.seq_arith.specs.Number.{number_at}
use Rattle.tcp_rules.specs.Arrival.{int_eq}
use Rattle.seq_arith.specs.declared.options.Timestamps.{Timestamps}
use Rattle.seq_arith.specs.Packet.{Segment, has_syn, has_rst, has_ack, with_timestamps}
use Rattle.seq_arith.specs.PacketGrammar.{mss_option, timestamps_option, packet_length}
use Rattle.server_trait.specs.Service.{AreBytes}
use Rattle.ft_model.specs.Offset.{first_of, ack_of}
use Rattle.ft_model.specs.declared.phase.Phase.TheVariants as phases
use Rattle.ft_model.specs.Client.{Client, ClientKind, Move, IsMove, seq_of, ack_number_of, flags_of, mss_of, payload_of, is_acknowledging, accepted_units, segment_of, may_advertise, is_live, may_offer, suits_kind, suits_phase, suits_range, text_length, may_carry, received, opened_by, arrived, used, may_use, with_ack, with_added, came, is_opening, is_open, next_of}
use Rattle.ft_model.specs.Client.Move.{Syn, Text, Fin, Acknowledge, Rst, Refuse}
use Rattle.ft_model.specs.Network.Packet.{To_server}
use Rattle.ft_model.specs.World.{World}
use Rattle.ft_model.proofs.FaithfulKept.{received_same}
use Rattle.ft_model.proofs.Formed.{bytes_take, bytes_drop, HasClient, PacketFormed, ClientFormed}
use Rattle.ft_model.proofs.Stamped.{AreShort}
use Rattle.ft_io.proofs.Choices.{holds_if}
use Rattle.seq_arith.proofs.Units.{mss_option_short, timestamps_option_long}

-- a client keeps the server's address
used_server : (c : Client) (segment : Segment) → (used c segment).server ≡ c.server
used_server c segment =
    holds_if (λ x. x.server ≡ c.server) (int_lt (pos c.sent) (ack_of c.isn segment)) c (with_added (with_ack c (ack_of c.isn segment)) (came c segment)) (λ t. refl) (λ t. refl)

arrived_server : (c : Client) (segment : Segment) → (arrived c segment).server ≡ c.server
arrived_server c segment =
    let P : Client → Type 0 = λ x. x.server ≡ c.server in
    let gone : Client = record c { phase = phases.Reset } in
    let rst : Client = if int_eq (first_of c.sisn segment) (pos (next_of c)) then gone else c in
    let other : Client = if has_syn segment || not (has_ack segment) then c else used c segment in
    holds_if P (may_use c segment) (if has_rst segment then rst else other) c
    (λ t. holds_if P (has_rst segment) rst other
    (λ r. holds_if P (int_eq (first_of c.sisn segment) (pos (next_of c))) gone c (λ x. refl) (λ x. refl))
    (λ r. holds_if P (has_syn segment || not (has_ack segment)) c (used c segment) (λ x. refl) (λ x. used_server c segment)))
    (λ t. refl)

opened_server : (c : Client) (segment : Segment) → (opened_by c segment).server ≡ c.server
opened_server c segment =
    let P : Client → Type 0 = λ x. x.server ≡ c.server in
    let gone : Client = record c { phase = phases.Reset } in
    let stands : Client = record c { phase = phases.Established; sisn = segment.head.seq } in
    holds_if P (has_ack segment && segment.head.ack == number_at c.isn 0) (if has_rst segment then gone else (if has_syn segment then stands else c)) c
    (λ t. holds_if P (has_rst segment) gone (if has_syn segment then stands else c) (λ r. refl)
    (λ r. holds_if P (has_syn segment) stands c (λ x. refl) (λ x. refl)))
    (λ t. refl)

received_server : (c : Client) (segment : Segment) → (received c segment).server ≡ c.server
received_server c segment =
    let P : Client → Type 0 = λ x. x.server ≡ c.server in
    holds_if P (is_opening c.phase) (opened_by c segment) _ (λ t. opened_server c segment)
    (λ t. holds_if P (is_open c.phase) (arrived c segment) c (λ x. arrived_server c segment) (λ x. refl))

pub received_formed : (start : World) (c : Client) (segment : Segment) → ClientFormed start c → ClientFormed start (received c segment)
received_formed start c segment h =
    record { key = subst (HasClient start) (sym (received_same c segment).key) h.key; server = received_server c segment ∙ h.server }

-- what a move's packet says
flags_small : (m : Move) → flags_of m < 2 ^ 8
flags_small (Syn mss) = omega arith
flags_small (Text from len) = omega arith
flags_small Fin = omega arith
flags_small Acknowledge = omega arith
flags_small Rst = omega arith
flags_small (Refuse number) = omega arith

payload_bytes : (c : Client) (m : Move) → AreBytes c.script → AreBytes (payload_of c m)
payload_bytes c (Text from len) h = bytes_take len (drop from c.script) (bytes_drop from c.script h)
payload_bytes c (Syn mss) h = tt
payload_bytes c Fin h = tt
payload_bytes c Acknowledge h = tt
payload_bytes c Rst h = tt
payload_bytes c (Refuse number) h = tt

advertised_small : (m : Move) (window : ℕ) → may_advertise m window ≡ true → window < 2 ^ 16
advertised_small Rst window e = let none : window ≡ 0 = eqb-true window 0 e in omega arith
advertised_small (Refuse number) window e = let none : window ≡ 0 = eqb-true window 0 e in omega arith
advertised_small (Syn mss) window e = ltb-true window (2 ^ 16) e
advertised_small (Text from len) window e = ltb-true window (2 ^ 16) e
advertised_small Fin window e = ltb-true window (2 ^ 16) e
advertised_small Acknowledge window e = ltb-true window (2 ^ 16) e

seq_small : (c : Client) (m : Move) → c.isn < 2 ^ 32 → suits_range c m ≡ true → seq_of c m < 2 ^ 32
seq_small c (Syn mss) isn r = isn
seq_small c (Text from len) isn r = omega arith
seq_small c Fin isn r = omega arith
seq_small c Acknowledge isn r = omega arith
seq_small c Rst isn r = omega arith
seq_small c (Refuse number) isn r = ltb-true _ _ (and_parts (nat_lt number (2 ^ 32)) (not (number == number_at c.isn 0)) r).0

offered_small : (kind : ClientKind) (mss : Option ℕ) → may_offer kind mss ≡ true → IfSome mss (λ n. n < 2 ^ 16)
offered_small kind (Some mss) e = ltb-true _ _ (and_parts (is_live kind) (nat_lt mss (2 ^ 16)) e).1
offered_small kind None e = tt

mss_small : (kind : ClientKind) (m : Move) → suits_kind kind m ≡ true → IfSome (mss_of m) (λ n. n < 2 ^ 16)
mss_small kind (Syn mss) e = offered_small kind mss e
mss_small kind (Text from len) e = tt
mss_small kind Fin e = tt
mss_small kind Acknowledge e = tt
mss_small kind Rst e = tt
mss_small kind (Refuse number) e = tt

-- timestamps that a client may send have 32 bits each, ..
carried_short : (kind : ClientKind) (m : Move) (timestamps : Option Timestamps) → may_carry kind m timestamps ≡ true → AreShort timestamps
carried_short kind m None may = tt
carried_short kind m (Some t) may =
    let room = and_parts (is_live kind && nat_lt t.value (2 ^ 32) && nat_lt t.echo (2 ^ 32)) (nat_le (text_length m + 12) 1460) may in
    let echo = and_parts (is_live kind && nat_lt t.value (2 ^ 32)) (nat_lt t.echo (2 ^ 32)) room.0 in
    let value = and_parts (is_live kind) (nat_lt t.value (2 ^ 32)) echo.0 in (ltb-true t.value (2 ^ 32) value.1, ltb-true t.echo (2 ^ 32) echo.1)

-- .. and leave room for the text
carried_fits : (kind : ClientKind) (m : Move) (timestamps : Option Timestamps) → may_carry kind m timestamps ≡ true
    → (length (timestamps_option timestamps) ≡ 0) ⊎ ((length (timestamps_option timestamps) ≡ 12) × (text_length m + 12 ≤ 1460))
carried_fits kind m None may = inl refl
carried_fits kind m (Some t) may =
    let room = and_parts (is_live kind && nat_lt t.value (2 ^ 32) && nat_lt t.echo (2 ^ 32)) (nat_le (text_length m + 12) 1460) may in
    inr (timestamps_option_long t, leb-true (text_length m + 12) 1460 room.1)

-- a move's packet without timestamps, and that it leaves room for them if its text does
bare_small : (c : Client) (m : Move) (window : ℕ) → suits_range c m ≡ true
    → (packet_length (segment_of c m window) ≤ 1500) × (text_length m + 12 ≤ 1460 → packet_length (segment_of c m window) + 12 ≤ 1500)
bare_small c (Text from len) window r =
    let one = and_parts (nat_le c.acknowledged from && nat_le from c.sent && nat_le 1 len && nat_le len 1460) (nat_le (from + len) (length c.script)) r in
    let short : len ≤ 1460 = leb-true _ _ (and_parts (nat_le c.acknowledged from && nat_le from c.sent && nat_le 1 len) (nat_le len 1460) one.0).1 in
    let size = length-take len (drop from c.script) in (omega (arith, short, size), λ fits. omega (arith, fits, size))
bare_small c (Syn mss) window r =
    let option = mss_option_short mss in let whole = length-append (mss_option mss) (timestamps_option None) in (omega (arith, option, whole), λ fits. omega (arith, option, whole))
bare_small c Fin window r = (omega arith, λ fits. omega arith)
bare_small c Acknowledge window r = (omega arith, λ fits. omega arith)
bare_small c Rst window r = (omega arith, λ fits. omega arith)
bare_small c (Refuse number) window r = (omega arith, λ fits. omega arith)

with_more : (segment : Segment) (timestamps : Option Timestamps) → segment.head.timestamps ≡ None
    → packet_length (with_timestamps timestamps segment) ≡ packet_length segment + length (timestamps_option timestamps)
with_more segment timestamps none =
    let before = length-append (mss_option segment.head.mss) (timestamps_option segment.head.timestamps) in
    let nothing : length (timestamps_option segment.head.timestamps) ≡ 0 = ap (λ (t : Option Timestamps). length (timestamps_option t)) none in
    omega (arith, before, nothing, length-append (mss_option segment.head.mss) (timestamps_option timestamps))

packet_small : (c : Client) (m : Move) (window : ℕ) (timestamps : Option Timestamps) → suits_range c m ≡ true → may_carry c.kind m timestamps ≡ true
    → packet_length (with_timestamps timestamps (segment_of c m window)) ≤ 1500
packet_small c m window timestamps r may =
    let bare = bare_small c m window r in
    let more = with_more (segment_of c m window) timestamps refl in
    ⊎_elim (λ none. omega (arith, more, bare.0, none)) (λ some. omega (arith, more, bare.1 some.1, some.0)) (carried_fits c.kind m timestamps may)

pub move_formed : (start : World) (c later : Client) (segment : Segment) → ClientFormed start c → c.isn < 2 ^ 32 → AreBytes c.script
    → IsMove c segment later → PacketFormed start (To_server segment)
move_formed start c later segment h isn script mv =
    let m : Move = mv.move in
    let parts = and_parts (suits_kind c.kind m && suits_phase c m) (suits_range c m) mv.may in
    let kind = and_parts (suits_kind c.kind m) (suits_phase c m) parts.0 in
    let ack : ack_number_of c m < 2 ^ 32 =
    holds_if (λ n. n < 2 ^ 32) (is_acknowledging m) (number_at c.sisn (accepted_units c)) 0 (λ t. omega arith) (λ t. omega arith) in
    subst (λ s. PacketFormed start (To_server s)) (sym mv.segment_is) (
      h.key,
      (ap (λ a. a.ip) h.server, ap (λ a. a.port) h.server),
      (
        seq_small c m isn parts.1,
        ack,
        flags_small m,
        advertised_small m mv.window mv.fits,
        mss_small c.kind m kind.0,
        payload_bytes c m script,
        packet_small c m mv.window mv.timestamps parts.1 mv.carries,
        carried_short c.kind m mv.timestamps mv.carries,
      ),
    )
