-- The packets of a turn, of which the first so many have gone through the south wrapper.
use Rattle.std.proofs.Common.{◌≡◌, ℕ, zero, suc, ◌+◌, Bool, true, false, true≢false, not, refl, sym, ap, ◌∙◌, arith, List, [], ◌∷◌, length, drop, Some, if◌then◌else◌}
use Rattle.std.specs.Prelude.{◌||◌, None, map, slice_get, Ok, IfOk}
use Rattle.std.specs.List.{list_any}
use Rattle.std.specs.Option.{option_or}
use Rattle.std.proofs.Math.ListN.{set}
use Rattle.std.proofs.lemmas.Result.{IfOk-at_ok}
use Rattle.seq_arith.specs.Packet.{Segment, has_rst, with_timestamps}
use Rattle.seq_arith.specs.PacketGrammar.{reading, spelling}
use Rattle.ft_model.proofs.Lists.{some_is, none_is_some}
use Rattle.south_wrap.specs.SouthState.{SouthState}
use Rattle.south_wrap.specs.Translation.{outward, passed_out, patched}
use Rattle.tcp_rules.specs.Timestamping.{timestamps_sent}
use Rattle.tcp_endpoint.specs.Output.{packets}
use Rattle.tcp_endpoint.specs.Packets.{AreReadable, byte_count}
use Rattle.wrapped_conn.specs.Output.{passed}

abbrev pub IsPassedOn : SouthState → ℕ → List Segment → List (List ℕ) → Type 0
IsPassedOn s zero segments out = out ≡ packets segments
IsPassedOn s (suc i) [] out = out ≡ []
IsPassedOn s (suc i) (segment ∷ segments) [] = ⊥
IsPassedOn s (suc i) (segment ∷ segments) (packet ∷ out) = (packet ≡ spelling (outward s segment)) × (has_rst segment ≡ false) × IsPassedOn s i segments out

-- what the south wrapper makes of a packet, and whether it passes it
pub record Passes (s : SouthState) (old packet : List ℕ) (answer : Bool) : Type 0 where
  pub answered : IfOk (reading old) (λ segment. answer ≡ not (has_rst segment))
  pub canonical : (segment : Segment) → reading old ≡ Ok segment → old ≡ spelling segment → packet ≡ spelling (passed_out s segment)

heads : {A : Type 0} (x y : A) (xs ys : List A) → (x ∷ xs) ≡ (y ∷ ys) → (x ≡ y) × (xs ≡ ys)
heads x y xs ys e = (some_is x y (ap (λ l. slice_get l 0) e), ap (drop 1) e)

off_if : (b : Bool) (x y : Segment) → b ≡ false → (if b then x else y) ≡ y
off_if true x y e = absurd (true≢false e)
off_if false x y e = refl

pub not_true : (b : Bool) → true ≡ not b → b ≡ false
not_true true e = sym (sym e)
not_true false e = refl

pub not_false : (b : Bool) → false ≡ not b → b ≡ true
not_false true e = refl
not_false false e = e

answer_at : (s : SouthState) (old packet : List ℕ) (answer : Bool) (segment : Segment) → Passes s old packet answer → old ≡ spelling segment → reading (spelling segment) ≡ Ok segment → answer ≡ not (has_rst segment)
answer_at s old packet answer segment p is read = IfOk-at_ok (λ x. answer ≡ not (has_rst x)) (ap reading is ∙ read) p.answered

-- where the connection's segments carry no timestamps, patching is all
patched_is : (s : SouthState) (segment : Segment) → timestamps_sent s.timestamping ≡ None → patched s segment ≡ outward s segment
patched_is s segment off = λ j. with_timestamps (option_or (sym off j) segment.head.timestamps) (patched s segment)

one_on : (s : SouthState) (old packet : List ℕ) (segment : Segment) → timestamps_sent s.timestamping ≡ None → Passes s old packet true → old ≡ spelling segment
    → reading (spelling segment) ≡ Ok segment → (packet ≡ spelling (outward s segment)) × (has_rst segment ≡ false)
one_on s old packet segment off p is read =
    let kept : has_rst segment ≡ false = not_true (has_rst segment) (answer_at s old packet true segment p is read) in
    (p.canonical segment (ap reading is ∙ read) is ∙ ap spelling (off_if (has_rst segment) segment (patched s segment) kept ∙ patched_is s segment off), kept)

pub proceeds : (s : SouthState) (i : ℕ) (segments : List Segment) (out : List (List ℕ)) (old packet : List ℕ) → timestamps_sent s.timestamping ≡ None
    → IsPassedOn s i segments out → AreReadable segments → slice_get out i ≡ Some old → Passes s old packet true → IsPassedOn s (suc i) segments (set out i packet)
unfolding packets
proceeds s zero [] [] old packet off h all get p = none_is_some old get
proceeds s zero [] (x ∷ out) old packet off h all get p = absurd (true≢false (ap (λ l. is_cons l) h))
  where
    is_cons : List (List ℕ) → Bool
    is_cons [] = false
    is_cons (x ∷ xs) = true
proceeds s zero (segment ∷ segments) [] old packet off h all get p = none_is_some old get
proceeds s zero (segment ∷ segments) (x ∷ out) old packet off h all get p =
    let both = heads x (spelling segment) out (packets segments) h in
    let one = one_on s old packet segment off p (sym (some_is x old get) ∙ both.0) all.0 in
    (one.0, one.1, both.1)
proceeds s (suc i) [] [] old packet off h all get p = none_is_some old get
proceeds s (suc i) [] (x ∷ out) old packet off h all get p = absurd (true≢false (ap (λ l. is_cons l) h))
  where
    is_cons : List (List ℕ) → Bool
    is_cons [] = false
    is_cons (x ∷ xs) = true
proceeds s (suc i) (segment ∷ segments) [] old packet off h all get p = h
proceeds s (suc i) (segment ∷ segments) (x ∷ out) old packet off h all get p = (h.0, h.1, proceeds s i segments out old packet off h.2 all.1 get p)

-- all have gone through
pub ends : (s : SouthState) (i : ℕ) (segments : List Segment) (out : List (List ℕ)) → IsPassedOn s i segments out → i ≡ length segments
    → (out ≡ packets (map (outward s) segments)) × (list_any has_rst segments ≡ false)
unfolding packets
ends s zero [] out h n = (h, refl)
ends s zero (segment ∷ segments) out h n = absurd (grind (arith, n))
ends s (suc i) [] out h n = (h, refl)
ends s (suc i) (segment ∷ segments) [] h n = absurd h
ends s (suc i) (segment ∷ segments) (x ∷ out) h n =
    let more = ends s i segments out h.2 (omega (arith, n)) in
    ((λ j. h.0 j ∷ more.0 j), no_first (has_rst segment) (list_any has_rst segments) h.1 more.1)
  where
    no_first : (a b : Bool) → a ≡ false → b ≡ false → (a || b) ≡ false
    no_first true b e f = e
    no_first false b e f = f

pub passed_all : (s : SouthState) (i : ℕ) (segments : List Segment) (out : List (List ℕ)) → IsPassedOn s i segments out → i ≡ length segments → out ≡ packets (passed s segments)
passed_all s i segments out h n =
    let e = ends s i segments out h n in e.0 ∙ ap (λ b. packets (if b then [] else map (outward s) segments)) (sym e.1)

-- a RST is among them
pub has_a_rst : (s : SouthState) (i : ℕ) (segments : List Segment) (out : List (List ℕ)) (old packet : List ℕ) → IsPassedOn s i segments out → AreReadable segments
    → slice_get out i ≡ Some old → Passes s old packet false → list_any has_rst segments ≡ true
unfolding packets
has_a_rst s zero [] out old packet h all get p = none_is_some old (ap (λ l. slice_get l 0) (sym h) ∙ get)
has_a_rst s zero (segment ∷ segments) [] old packet h all get p = none_is_some old get
has_a_rst s zero (segment ∷ segments) (x ∷ out) old packet h all get p =
    let both = heads x (spelling segment) out (packets segments) h in
    ap (λ b. b || list_any has_rst segments) (not_false (has_rst segment) (answer_at s old packet false segment p (sym (some_is x old get) ∙ both.0) all.0))
has_a_rst s (suc i) [] out old packet h all get p = none_is_some old (ap (λ l. slice_get l (suc i)) (sym h) ∙ get)
has_a_rst s (suc i) (segment ∷ segments) [] old packet h all get p = absurd h
has_a_rst s (suc i) (segment ∷ segments) (x ∷ out) old packet h all get p =
    later (has_rst segment) (list_any has_rst segments) (has_a_rst s i segments out old packet h.2 all.1 get p)
  where
    later : (a b : Bool) → b ≡ true → (a || b) ≡ true
    later true b e = refl
    later false b e = e

pub passed_none : (s : SouthState) (segments : List Segment) → list_any has_rst segments ≡ true → [] ≡ packets (passed s segments)
unfolding packets
passed_none s segments e = ap (λ b. packets (if b then [] else map (outward s) segments)) (sym e)

-- a packet where the rest is as at first is as at first
get_front : {A : Type 0} (xs : List A) (i : ℕ) → slice_get xs i ≡ slice_get (drop i xs) 0
get_front xs zero = refl
get_front [] (suc i) = refl
get_front (x ∷ xs) (suc i) = get_front xs i

pub same_there : {A : Type 0} (xs ys : List A) (i : ℕ) → drop i xs ≡ drop i ys → slice_get xs i ≡ slice_get ys i
same_there xs ys i e = get_front xs i ∙ ap (λ l. slice_get l 0) e ∙ sym (get_front ys i)

pub same_bytes : (out : List (List ℕ)) (i : ℕ) (old packet : List ℕ) → slice_get out i ≡ Some old → length packet ≡ length old → byte_count (set out i packet) ≡ byte_count out
same_bytes [] i old packet get same = refl
same_bytes (x ∷ out) zero old packet get same = let e : length x ≡ length old = ap length (some_is x old get) in omega (arith, e, same)
same_bytes (x ∷ out) (suc i) old packet get same = ap (λ n. length x + n) (same_bytes out i old packet get same)

pub packets_count : (segments : List Segment) → length (packets segments) ≡ length segments
unfolding packets
packets_count [] = refl
packets_count (segment ∷ segments) = ap suc (packets_count segments)
