-- TCP's segments written anew with the connection's timestamps: of the first so many, and of all.
use Rattle.std.proofs.Common.{◌≡◌, ℕ, zero, suc, ◌≤◌, ◌+◌, ◌*◌, Bool, true, false, true≢false, not, refl, sym, ap, subst, ◌∙◌, arith, Option, None, Some, List, [], ◌∷◌, ◌++◌, length, length-append, take, drop, if◌then◌else◌}
use Rattle.std.specs.Prelude.{◌||◌, map, slice_get, Result, Ok, Err, IsOk, IfOk}
use Rattle.std.specs.List.{list_any}
use Rattle.std.proofs.Math.Seq.{take-length}
use Rattle.ft_model.proofs.Lists.{some_is, none_is_some}
use Rattle.seq_arith.specs.Packet.{Segment, has_rst}
use Rattle.seq_arith.specs.PacketGrammar.{mss_option, timestamps_option, packet_length, reading, spelling}
use Rattle.seq_arith.specs.declared.BadPacket.{BadPacket}
use Rattle.seq_arith.specs.declared.options.Timestamps.{Timestamps}
use Rattle.seq_arith.proofs.Spelling.{size}
use Rattle.seq_arith.proofs.Units.{timestamps_option_short}
use Rattle.std.specs.Option.{option_or}
use Rattle.tcp_rules.specs.Timestamping.{timestamps_sent}
use Rattle.south_wrap.specs.SouthState.{SouthState}
use Rattle.south_wrap.specs.Translation.{outward}
use Rattle.tcp_endpoint.specs.Output.{packets}
use Rattle.tcp_endpoint.specs.Packets.{AreReadable, byte_count}
use Rattle.wrapped_conn.specs.Output.{passed, AllFit}
use Rattle.wrapped_conn.proofs.PassedOn.{not_true}

-- the packet at a place is that of a segment, which fits with its timestamps
pub record Segmented (s : SouthState) (own : List Segment) (i : ℕ) (bytes : List ℕ) : Type 0 where
  pub segment : Segment
  pub there : slice_get own i ≡ Some segment
  pub read : reading bytes ≡ Ok segment
  pub fits : packet_length (outward s segment) ≤ 1500

pub at_place : (s : SouthState) (own : List Segment) (i : ℕ) (bytes : List ℕ) → AreReadable own → AllFit s own → slice_get (packets own) i ≡ Some bytes → Segmented s own i bytes
unfolding packets
at_place s [] zero bytes readable fit e = none_is_some bytes e
at_place s [] (suc i) bytes readable fit e = none_is_some bytes e
at_place s (x ∷ own) zero bytes readable fit e =
    record { segment = x; there = refl; read = ap reading (sym (some_is (spelling x) bytes e)) ∙ readable.0; fits = fit.0 }
at_place s (x ∷ own) (suc i) bytes readable fit e =
    let later : Segmented s own i bytes = at_place s own i bytes readable.1 fit.1 e in
    record { segment = later.segment; there = later.there; read = later.read; fits = later.fits }

-- packets that are read are those of one list
pub same_fit : (s : SouthState) (a b : List Segment) → AreReadable a → AreReadable b → packets a ≡ packets b → AllFit s a → AllFit s b
unfolding packets
same_fit s [] [] ra rb e fit = tt
same_fit s [] (y ∷ ys) ra rb e fit = absurd (true≢false (ap is_nil e))
  where
    is_nil : List (List ℕ) → Bool
    is_nil [] = true
    is_nil (x ∷ xs) = false
same_fit s (x ∷ xs) [] ra rb e fit = tt
same_fit s (x ∷ xs) (y ∷ ys) ra rb e fit =
    let first : spelling x ≡ spelling y = some_is (spelling x) (spelling y) (ap (λ l. slice_get l 0) e) in
    let same : x ≡ y = said_same (reading (spelling x)) ra.0 (ap reading first ∙ rb.0) in
    (subst (λ z. packet_length (outward s z) ≤ 1500) same fit.0, same_fit s xs ys ra.1 rb.1 (ap (drop 1) e) fit.1)
  where
    said_or : Segment → Result Segment BadPacket → Segment
    said_or other (Ok segment) = segment
    said_or other (Err bad) = other

    said_same : (r : Result Segment BadPacket) → r ≡ Ok x → r ≡ Ok y → x ≡ y
    said_same r p q = ap (said_or x) (sym p ∙ q)

pub is_accepted : (bytes : List ℕ) (segment : Segment) → reading bytes ≡ Ok segment → IsOk (reading bytes)
is_accepted bytes segment read = subst IsOk (sym read) refl

pub fits_packet : (s : SouthState) (bytes : List ℕ) (segment : Segment) → reading bytes ≡ Ok segment → packet_length (outward s segment) ≤ 1500
    → IfOk (reading bytes) (λ x. packet_length (outward s x) ≤ 1500)
fits_packet s bytes segment read fits = subst (λ r. IfOk r (λ x. packet_length (outward s x) ≤ 1500)) (sym read) fits

-- one more is written
pub one_more : (s : SouthState) (own : List Segment) (i : ℕ) (segment : Segment) → slice_get own i ≡ Some segment
    → packets (map (outward s) (take (suc i) own)) ≡ packets (map (outward s) (take i own)) ++ spelling (outward s segment) ∷ []
unfolding packets
one_more s [] zero segment e = none_is_some segment e
one_more s [] (suc i) segment e = none_is_some segment e
one_more s (x ∷ own) zero segment e = ap (λ y. spelling (outward s y) ∷ []) (some_is x segment e)
one_more s (x ∷ own) (suc i) segment e = ap (λ ys. spelling (outward s x) ∷ ys) (one_more s own i segment e)

pub none_more : (own : List Segment) (i : ℕ) (segment : Segment) → slice_get own i ≡ Some segment → list_any has_rst (take i own) ≡ false → has_rst segment ≡ false
    → list_any has_rst (take (suc i) own) ≡ false
none_more [] zero segment e none one = none_is_some segment e
none_more [] (suc i) segment e none one = none_is_some segment e
none_more (x ∷ own) zero segment e none one = ap (λ b. b || false) (ap has_rst (some_is x segment e) ∙ one)
none_more (x ∷ own) (suc i) segment e none one =
    let parts = both_false (has_rst x) (list_any has_rst (take i own)) none in either_false (has_rst x) (list_any has_rst (take (suc i) own)) parts.0 (none_more own i segment e parts.1 one)
  where
    both_false : (a b : Bool) → (a || b) ≡ false → (a ≡ false) × (b ≡ false)
    both_false true b e = absurd (true≢false e)
    both_false false b e = (refl, e)

    either_false : (a b : Bool) → a ≡ false → b ≡ false → (a || b) ≡ false
    either_false true b e f = absurd (true≢false e)
    either_false false b e f = f

pub any_there : (own : List Segment) (i : ℕ) (segment : Segment) → slice_get own i ≡ Some segment → has_rst segment ≡ true → list_any has_rst own ≡ true
any_there [] zero segment e one = none_is_some segment e
any_there [] (suc i) segment e one = none_is_some segment e
any_there (x ∷ own) zero segment e one = ap (λ b. b || list_any has_rst own) (ap has_rst (some_is x segment e) ∙ one)
any_there (x ∷ own) (suc i) segment e one = or_true (has_rst x) (list_any has_rst own) (any_there own i segment e one)
  where
    or_true : (a b : Bool) → b ≡ true → (a || b) ≡ true
    or_true true b e = refl
    or_true false b e = e

-- all are written
pub all_written : (s : SouthState) (own : List Segment) (i : ℕ) (out : List (List ℕ)) → i ≡ length own
    → (out ≡ packets (map (outward s) (take i own))) × (list_any has_rst (take i own) ≡ false) → (true ≡ not (list_any has_rst own)) × (out ≡ packets (map (outward s) own))
all_written s own i out whole h =
    let same : take i own ≡ own = ap (λ n. take n own) whole ∙ take-length own in
    (sym (ap not (sym (ap (list_any has_rst) same) ∙ h.1)), h.0 ∙ ap (λ xs. packets (map (outward s) xs)) same)

pub passed_when : (s : SouthState) (own : List Segment) → true ≡ not (list_any has_rst own) → packets (map (outward s) own) ≡ packets (passed s own)
passed_when s own e = ap (λ b. packets (if b then [] else map (outward s) own)) (sym (not_true (list_any has_rst own) e))

-- how many they are, and how long
pub count_written : (s : SouthState) (own : List Segment) (i : ℕ) → length (packets (map (outward s) (take i own))) ≤ length own
unfolding packets
count_written s [] zero = omega arith
count_written s [] (suc i) = omega arith
count_written s (x ∷ own) zero = omega arith
count_written s (x ∷ own) (suc i) = let more = count_written s own i in omega (arith, more)

longer : (s : SouthState) (x : Segment) → packet_length (outward s x) ≤ packet_length x + 12
longer s x = by_sent (timestamps_sent s.timestamping) refl
  where
    by_sent : (sent : Option Timestamps) → timestamps_sent s.timestamping ≡ sent → packet_length (outward s x) ≤ packet_length x + 12
    by_sent sent e =
        subst (λ t. 40 + length (mss_option x.head.mss ++ timestamps_option (option_or t x.head.timestamps)) + length x.payload ≤ packet_length x + 12) (sym e) (at sent)
      where
        at : (sent : Option Timestamps) → 40 + length (mss_option x.head.mss ++ timestamps_option (option_or sent x.head.timestamps)) + length x.payload ≤ packet_length x + 12
        at None = omega (arith, length-append (mss_option x.head.mss) (timestamps_option x.head.timestamps))
        at (Some t) = omega (arith, length-append (mss_option x.head.mss) (timestamps_option (Some t)), length-append (mss_option x.head.mss) (timestamps_option x.head.timestamps), timestamps_option_short (Some t))

pub bytes_written : (s : SouthState) (own : List Segment) (i : ℕ) → byte_count (packets (map (outward s) (take i own))) ≤ byte_count (packets own) + 12 * length own
unfolding packets
bytes_written s [] zero = omega arith
bytes_written s [] (suc i) = omega arith
bytes_written s (x ∷ own) zero = omega arith
bytes_written s (x ∷ own) (suc i) =
    let more = bytes_written s own i in
    omega (arith, more, size (outward s x), size x, longer s x)
