-- Segments that are moves of the client machine are so with timestamps too, where they leave room for them.
use Rattle.std.proofs.Common.{◌≡◌, ℕ, ◌<◌, ◌≤◌, ◌+◌, ◌^◌, Bool, true, false, Option, None, Some, List, [], ◌∷◌, length, length-append, length-take, length-drop, map, refl, sym, ap, arith, leb-true, ◌∙◌}
use Rattle.std.proofs.lemmas.Bool.{false≢true}
use Rattle.std.specs.Prelude.{◌&&◌, ◌||◌, nat_lt, nat_le}
use Rattle.seq_arith.specs.Packet.{Segment, has_rst, with_timestamps}
use Rattle.seq_arith.specs.PacketGrammar.{mss_option, timestamps_option, packet_length}
use Rattle.seq_arith.specs.declared.options.Timestamps.{Timestamps}
use Rattle.seq_arith.proofs.Units.{timestamps_option_long}
use Rattle.tcp_rules.specs.Timestamping.{timestamps_sent}
use Rattle.tcp_rules.specs.declared.timestamping.Timestamping.{Timestamping}
use Rattle.tcp_rules.specs.declared.timestamping.Timestamping.TheVariants.{Off, Awaited, Echoes}
use Rattle.ft_model.specs.Client.{Client, ClientKind, Move, IsMove, suits_kind, suits_phase, suits_range, text_length, payload_of, is_live, may_carry}
use Rattle.ft_model.specs.Client.ClientKind.{Live}
use Rattle.ft_model.specs.Client.Move.{Syn, Text, Fin, Acknowledge, Rst, Refuse}
use Rattle.peer_client.specs.Stamping.{StampState, first_stamps, stamped, all_stamped, after_sending, EchoFits}
use Rattle.peer_client.specs.Refinement.{AreMoves}
use Rattle.ft_io.proofs.Booleans.{right_true}
use Rattle.ft_io.proofs.Choices.{holds_if, holds_either_way}

-- a move has as much text as it says
text_is : (c : Client) (move : Move) → suits_range c move ≡ true → text_length move ≤ length (payload_of c move)
text_is c (Syn mss) h = omega arith
text_is c (Text from len) h =
    let within : from + len ≤ length c.script = leb-true (from + len) (length c.script) (right_true _ (nat_le (from + len) (length c.script)) h) in
    omega (arith, within, length-take {A = ℕ}, length-drop {A = ℕ})
text_is c Fin h = omega arith
text_is c Acknowledge h = omega arith
text_is c Rst h = omega arith
text_is c (Refuse number) h = omega arith

carries : (kind : ClientKind) (move : Move) (t : Timestamps) → kind ≡ Live → t.value < 2 ^ 32 → t.echo < 2 ^ 32 → text_length move + 12 ≤ 1460
    → may_carry kind move (Some t) ≡ true
carries kind move t live value echo room =
    (λ i. is_live (live i) && nat_lt t.value (2 ^ 32) && nat_lt t.echo (2 ^ 32) && nat_le (text_length move + 12) 1460)
    ∙ all_true (nat_lt t.value (2 ^ 32)) (nat_lt t.echo (2 ^ 32)) (nat_le (text_length move + 12) 1460) (below t.value (2 ^ 32) value) (below t.echo (2 ^ 32) echo)
    (at_most (text_length move + 12) 1460 room)
  where
    all_true : (a b c : Bool) → a ≡ true → b ≡ true → c ≡ true → (true && a && b && c) ≡ true
    all_true a b c p q r = λ i. true && p i && q i && r i

    below : (n m : ℕ) → n < m → nat_lt n m ≡ true
    below n m h = grind arith

    at_most : (n m : ℕ) → n ≤ m → nat_le n m ≡ true
    at_most n m h = grind arith

-- what fits with timestamps has room for them behind its text
room_of : (t : Timestamps) (x : Segment) → packet_length (with_timestamps (Some t) x) ≤ 1500 → length x.payload + 12 ≤ 1460
room_of t x fits = omega (arith, fits, length-append (mss_option x.head.mss) (timestamps_option (Some t)), timestamps_option_long t)

not_long : (n : ℕ) → nat_lt 1500 n ≡ false → n ≤ 1500
not_long n h = grind (arith, h)

right_false : (a b : Bool) → (a || b) ≡ false → b ≡ false
right_false true b h = absurd (false≢true (sym h))
right_false false b h = h

stamped_move : (t : Timestamps) (c : Client) (x : Segment) (d : Client) → c.kind ≡ Live → t.value < 2 ^ 32 → t.echo < 2 ^ 32 → IsMove c x d → IsMove c (stamped t x) d
stamped_move t c x d live value echo m =
    holds_if (λ (y : Segment). IsMove c y d) (has_rst x || nat_lt 1500 (packet_length (with_timestamps (Some t) x))) x (with_timestamps (Some t) x) (λ stays. m)
    (λ carried.
    let fits : packet_length (with_timestamps (Some t) x) ≤ 1500 = not_long _ (right_false (has_rst x) _ carried) in
    let text : x.payload ≡ payload_of c m.move = ap (λ (y : Segment). y.payload) m.segment_is in
    let range : suits_range c m.move ≡ true = right_true (suits_kind c.kind m.move && suits_phase c m.move) (suits_range c m.move) m.may in
    record {
      move = m.move;
      window = m.window;
      timestamps = Some t;
      may = m.may;
      fits = m.fits;
      carries = carries c.kind m.move t live value echo (omega (arith, text_is c m.move range, ap length text, room_of t x fits));
      segment_is = ap (λ (y : Segment). with_timestamps (Some t) y) m.segment_is;
      after_is = m.after_is;
    })

live_still : (c d : Client) (x : Segment) → IsMove c x d → c.kind ≡ Live → d.kind ≡ Live
live_still c d x m live = ap (λ (y : Client). y.kind) m.after_is ∙ live

one_by_one : (t : Timestamps) (segments : List Segment) (c d : Client) → c.kind ≡ Live → t.value < 2 ^ 32 → t.echo < 2 ^ 32 → AreMoves c segments d
    → AreMoves c (map (stamped t) segments) d
one_by_one t [] c d live value echo h = h
one_by_one t (x ∷ segments) c d live value echo h =
    (h.0, stamped_move t c x h.0 live value echo h.1, one_by_one t segments h.0 d (live_still c h.0 x h.1 live) value echo h.2)

pub carried_moves : (timestamping : Timestamping) (segments : List Segment) (c d : Client) → c.kind ≡ Live → EchoFits timestamping → AreMoves c segments d
    → AreMoves c (all_stamped (timestamps_sent timestamping) segments) d
carried_moves Off segments c d live fits h = h
carried_moves Awaited segments c d live fits h = h
carried_moves (Echoes recent) segments c d live fits h = one_by_one (record { value = 1; echo = recent }) segments c d live (omega arith) fits h

pub nothing_carried : (timestamps : Option Timestamps) → all_stamped timestamps [] ≡ []
nothing_carried None = refl
nothing_carried (Some t) = refl

-- what is acknowledged changes no echo
pub sending_fits : (segments : List Segment) (s : StampState) → EchoFits s.timestamping → EchoFits (after_sending segments s).timestamping
sending_fits [] s h = h
sending_fits (x ∷ []) s h = holds_either_way (λ (r : StampState). EchoFits r.timestamping) _ (record s { acknowledgement = x.head.ack; window = x.head.window }) s h h
sending_fits (x ∷ y ∷ others) s h = sending_fits (y ∷ others) s h

pub first_fits : (uses : Bool) → EchoFits (first_stamps uses).timestamping
first_fits true = omega arith
first_fits false = tt
