-- What the inner TCP sends is, mapped outward, what the laws ask of the connection.
use Rattle.std.proofs.Common.{◌≡◌, ℕ, zero, suc, ◌<◌, ◌≤◌, ◌+◌, ◌-◌, ◌%◌, ◌^◌, Bool, true, false, not, List, [], ◌∷◌, ◌++◌, take, drop, map, min, max, refl, ap, arith, drop-drop, ◌∙◌}
use Rattle.std.specs.Prelude.{◌==◌, ◌&&◌, ◌||◌, nat_lt, nat_le, Option, Some, None, if◌then◌else◌}
use Rattle.std.specs.List.{list_any}
use Rattle.std.specs.Option.{option_or}
use Rattle.seq_arith.specs.declared.options.Timestamps.{Timestamps}
use Rattle.tcp_rules.specs.Timestamping.{timestamps_sent}
use Rattle.std.proofs.lemmas.List.{map-append}
use Rattle.ft_io.specs.declared.Addr.{Addr}
use Rattle.seq_arith.specs.Number.{number_at}
use Rattle.seq_arith.specs.Packet.{Segment, has_rst}
use Rattle.server_trait.specs.Service.{Machine}
use Rattle.ft_model.specs.Point.{Point, acknowledgement, answered_run, released, target, window}
use Rattle.ft_model.specs.News.{News}
use Rattle.ft_model.specs.Sending.{resends, sent_at_once}
use Rattle.ft_model.specs.Timer.{expires}
use Rattle.ft_model.specs.Segments.{segment_at, syn_ack, text_at, fin_segment, fin_if_closed, bare_segment, texts, resent_length, first_unacknowledged, probe, resent, new_length, new_texts, new_fin, or_bare}
use Rattle.connection_laws.specs.Inside.{swallowing, inside}
use Rattle.connection_laws.specs.Traffic.{passed}
use Rattle.south_wrap.specs.Translation.{outward}
use Rattle.south_wrap.specs.SouthPoint.{south_at}
use Rattle.connection_laws.proofs.Meets.{lt_less, once_less}
use Rattle.connection_laws.proofs.Swallowed.{inside_runs, inside_target, inside_released}
use Rattle.ft_io.proofs.Booleans.{not_true, left_false, right_false}

-- TCP's segments have no timestamps of their own
carries : (timestamps : Option Timestamps) → option_or timestamps None ≡ timestamps
carries None = refl
carries (Some timestamps) = refl

number_is : (i delta sisn u k : ℕ) → (i + delta) % 2 ^ 32 ≡ (sisn + u) % 2 ^ 32 → (number_at i k + delta) % 2 ^ 32 ≡ number_at sisn (k + u)
number_is i delta sisn u k shift = omega (arith, shift)

-- a segment inside, and the same outside
segment_is : (server : Addr) (u i delta : ℕ) (q : Point) (k flags : ℕ) (payload : List ℕ) → (i + delta) % 2 ^ 32 ≡ (q.sisn + u) % 2 ^ 32
    → outward (south_at delta q) (segment_at server (inside u i q) k flags payload) ≡ segment_at server q (k + u) flags payload
segment_is server u i delta q k flags payload shift = λ j. record {
  head = record {
    src = server.ip;
    dst = q.key.ip;
    sport = server.port;
    dport = q.key.port;
    seq = number_is i delta q.sisn u k shift j;
    ack = number_at q.cisn (acknowledgement q);
    flags = flags;
    window = window q;
    mss = None;
    timestamps = carries (timestamps_sent q.timestamping) j;
  };
  payload = payload;
}

text_is : {State : Type 0} (service : Machine State) (server : Addr) (u i delta : ℕ) (q : Point) (k n : ℕ) → (i + delta) % 2 ^ 32 ≡ (q.sisn + u) % 2 ^ 32
    → outward (south_at delta q) (text_at (swallowing u service) server (inside u i q) k n) ≡ text_at service server q (k + u) n
text_is service server u i delta q k n shift =
    let here : drop k (answered_run (swallowing u service) (inside u i q)).output ≡ drop (k + u) (answered_run service q).output =
    ap (λ r. drop k r.output) (inside_runs service u i q) ∙ drop-drop k u (answered_run service q).output ∙ ap (λ m. drop m (answered_run service q).output) (omega arith) in
    ap (λ xs. outward (south_at delta q) (segment_at server (inside u i q) k 16 (take n xs))) here
    ∙ segment_is server u i delta q k 16 (take n (drop (k + u) (answered_run service q).output)) shift

pub fin_is : {State : Type 0} (service : Machine State) (server : Addr) (u i delta : ℕ) (q : Point) → (i + delta) % 2 ^ 32 ≡ (q.sisn + u) % 2 ^ 32 → u ≤ released service q
    → outward (south_at delta q) (fin_segment (swallowing u service) server (inside u i q)) ≡ fin_segment service server q
fin_is service server u i delta q shift given =
    segment_is server u i delta q (released (swallowing u service) (inside u i q)) 17 [] shift
    ∙ ap (λ n. segment_at server q n 17 []) (ap (λ n. n + u) (inside_released service u i q) ∙ omega (arith, given))

outs_if : (f : Segment → Segment) (b : Bool) (x y : Segment) (xs ys : List Segment) → f x ≡ y → map f xs ≡ ys → map f (if b then x ∷ xs else []) ≡ (if b then y ∷ ys else [])
outs_if f true x y xs ys h t = λ j. h j ∷ t j
outs_if f false x y xs ys h t = refl

texts_are : {State : Type 0} (service : Machine State) (server : Addr) (u i delta : ℕ) (q : Point) (fuel k left : ℕ) → (i + delta) % 2 ^ 32 ≡ (q.sisn + u) % 2 ^ 32
    → map (outward (south_at delta q)) (texts (swallowing u service) server (inside u i q) fuel k left) ≡ texts service server q fuel (k + u) left
texts_are service server u i delta q zero k left shift = refl
texts_are service server u i delta q (suc fuel) k left shift =
    let place : k + min left q.mss + u ≡ k + u + min left q.mss = omega arith in
    outs_if (outward (south_at delta q)) (nat_lt 0 left) (text_at (swallowing u service) server (inside u i q) k (min left q.mss)) _ _ _
    (text_is service server u i delta q k (min left q.mss) shift)
    (texts_are service server u i delta q fuel (k + min left q.mss) (left - min left q.mss) shift ∙ ap (λ n. texts service server q fuel n (left - min left q.mss)) place)

-- what both points say of what is sent
pub record Sends {State : Type 0} (service : Machine State) (news inner : News) (p q : Point) (u i delta : ℕ) : Type 0 where
  pub shift : (i + delta) % 2 ^ 32 ≡ (q.sisn + u) % 2 ^ 32
  pub sisn : q.sisn < 2 ^ 32
  pub expires : expires inner (inside u i p) ≡ expires news p
  pub again : resends inner (inside u i p) ≡ resends news p
  pub sent : u ≤ p.sent
  pub una : u ≤ q.una
  pub edge : u ≤ q.edge
  pub given : u ≤ released service q
  pub syn_unacked : q.syn_acked ≡ false → u ≡ 0

once_is : {State : Type 0} (service : Machine State) (news inner : News) (p q : Point) (u i delta : ℕ) → Sends service news inner p q u i delta
    → sent_at_once (swallowing u service) (inside u i p) (inside u i q) ≡ sent_at_once service p q - u
unfolding sent_at_once
once_is service news inner p q u i delta s =
    (λ j. max (p.sent - u) (min (inside_target service u i q s.given j) (min (q.edge - u) (q.una - u + q.congestion.cwnd))))
    ∙ once_less u p.sent (target service q) q.edge q.una q.congestion.cwnd s.sent s.una

flight_less : (u s r a : ℕ) → u ≤ a → u ≤ r → u ≤ s → min (s - u) (r - u) - (a - u) ≡ min s r - a
flight_less u s r a x y z = omega (arith, x, y, z)

room_less : (u a e : ℕ) → u ≤ a → e - u - (a - u) ≡ e - a
room_less u a e x = omega (arith, x)

length_less : (u m s r a e : ℕ) → u ≤ a → u ≤ r → u ≤ s → min m (min (min (s - u) (r - u) - (a - u)) (max 1 (e - u - (a - u)))) ≡ min m (min (min s r - a) (max 1 (e - a)))
length_less u m s r a e x y z = λ j. min m (min (flight_less u s r a x y z j) (max 1 (room_less u a e x j)))

back : (u n : ℕ) → u ≤ n → n - u + u ≡ n
back u n h = omega (arith, h)

same_less : (u a b : ℕ) → u ≤ a → u ≤ b → (a - u == b - u) ≡ (a == b)
same_less u a b x y = grind (arith, x, y)

le_less : (u a b : ℕ) → u ≤ b → nat_le (a - u) (b - u) ≡ nat_le a b
le_less u a b h = grind (arith, h)

choose : (f : Segment → Segment) (b : Bool) (xs ys xs' ys' : List Segment) → (b ≡ true → map f xs ≡ xs') → (b ≡ false → map f ys ≡ ys')
    → map f (if b then xs else ys) ≡ (if b then xs' else ys')
choose f true xs ys xs' ys' h t = h refl
choose f false xs ys xs' ys' h t = t refl

one_is : (f : Segment → Segment) (x y : Segment) → f x ≡ y → map f (x ∷ []) ≡ y ∷ []
one_is f x y h = λ j. h j ∷ []

fin_if_is : {State : Type 0} (service : Machine State) (server : Addr) (u i delta : ℕ) (q : Point) → (i + delta) % 2 ^ 32 ≡ (q.sisn + u) % 2 ^ 32 → u ≤ released service q
    → map (outward (south_at delta q)) (fin_if_closed (swallowing u service) server (inside u i q)) ≡ fin_if_closed service server q
fin_if_is service server u i delta q shift given =
    ap (λ r. map (outward (south_at delta q)) (if r.closed then fin_segment (swallowing u service) server (inside u i q) ∷ [] else [])) (inside_runs service u i q)
    ∙ outs_if (outward (south_at delta q)) (answered_run service q).closed _ _ [] [] (fin_is service server u i delta q shift given) refl

pub opening_is : (server : Addr) (u i delta : ℕ) (q : Point) → u ≡ 0 → (i + delta) % 2 ^ 32 ≡ (q.sisn + u) % 2 ^ 32 → q.sisn < 2 ^ 32
    → outward (south_at delta q) (syn_ack server (inside u i q)) ≡ syn_ack server q
opening_is server u i delta q none shift fits =
    let seq_is : (i + delta) % 2 ^ 32 ≡ q.sisn = omega (arith, none, shift, fits) in
    λ j. record {
      head = record {
        src = server.ip;
        dst = q.key.ip;
        sport = server.port;
        dport = q.key.port;
        seq = seq_is j;
        ack = number_at q.cisn (acknowledgement q);
        flags = 18;
        window = window q;
        mss = Some 1460;
        timestamps = carries (timestamps_sent q.timestamping) j;
      };
      payload = [];
    }

first_is : {State : Type 0} (service : Machine State) (server : Addr) (news inner : News) (p q : Point) (u i delta : ℕ) → Sends service news inner p q u i delta
    → map (outward (south_at delta q)) (first_unacknowledged (swallowing u service) server (inside u i p) (inside u i q)) ≡ first_unacknowledged service server p q
first_is service server news inner p q u i delta s =
    let out : Segment → Segment = outward (south_at delta q) in
    let rel = inside_released service u i q in
    let un : ℕ = q.una - u in
    let all : (un == released (swallowing u service) (inside u i q)) ≡ (q.una == released service q) =
    ap (λ n. un == n) rel ∙ same_less u q.una (released service q) s.una s.given in
    let long : resent_length (swallowing u service) (inside u i p) (inside u i q) ≡ resent_length service p q =
    (λ j. min q.mss (min (min (p.sent - u) (rel j) - un) (max 1 (q.edge - u - un)))) ∙ length_less u q.mss p.sent (released service q) q.una q.edge s.una s.given s.sent in
    choose out (not q.syn_acked) (syn_ack server (inside u i q) ∷ []) _ _ _
    (λ n. one_is out (syn_ack server (inside u i q)) (syn_ack server q) (opening_is server u i delta q (s.syn_unacked (not_true q.syn_acked n)) s.shift s.sisn))
    (λ n. ap (λ b. map out (if b then fin_if_closed (swallowing u service) server (inside u i q)
    else text_at (swallowing u service) server (inside u i q) un (resent_length (swallowing u service) (inside u i p) (inside u i q)) ∷ [])) all
    ∙ choose out (q.una == released service q) _ _ _ _ (λ k. fin_if_is service server u i delta q s.shift s.given)
    (λ k. one_is out (text_at (swallowing u service) server (inside u i q) un (resent_length (swallowing u service) (inside u i p) (inside u i q)))
    (text_at service server q q.una (resent_length service p q)) (text_is service server u i delta q un (resent_length (swallowing u service) (inside u i p) (inside u i q)) s.shift
    ∙ (λ j. text_at service server q (back u q.una s.una j) (long j)))))

probe_is : {State : Type 0} (service : Machine State) (server : Addr) (news inner : News) (p q : Point) (u i delta : ℕ) → Sends service news inner p q u i delta
    → map (outward (south_at delta q)) (probe (swallowing u service) server (inside u i p) (inside u i q)) ≡ probe service server p q
probe_is service server news inner p q u i delta s =
    let out : Segment → Segment = outward (south_at delta q) in
    let more : nat_lt (p.sent - u) (released (swallowing u service) (inside u i q)) ≡ nat_lt p.sent (released service q) =
    ap (λ n. nat_lt (p.sent - u) n) (inside_released service u i q) ∙ lt_less u p.sent (released service q) s.sent in
    ap (λ b. map out (if b then text_at (swallowing u service) server (inside u i q) (p.sent - u) 1 ∷ [] else fin_if_closed (swallowing u service) server (inside u i q))) more
    ∙ choose out (nat_lt p.sent (released service q)) _ _ _ _
    (λ k. one_is out (text_at (swallowing u service) server (inside u i q) (p.sent - u) 1) (text_at service server q p.sent 1) (text_is service server u i delta q (p.sent - u) 1 s.shift ∙ ap (λ n. text_at service server q n 1) (back u p.sent s.sent)))
    (λ k. fin_if_is service server u i delta q s.shift s.given)

resent_is : {State : Type 0} (service : Machine State) (server : Addr) (news inner : News) (p q : Point) (u i delta : ℕ) → Sends service news inner p q u i delta
    → map (outward (south_at delta q)) (resent (swallowing u service) server inner (inside u i p) (inside u i q)) ≡ resent service server news p q
unfolding resent
resent_is service server news inner p q u i delta s =
    let out : Segment → Segment = outward (south_at delta q) in
    let waits : (not q.syn_acked || nat_lt (q.una - u) (p.sent - u)) ≡ (not q.syn_acked || nat_lt q.una p.sent) = ap (λ b. not q.syn_acked || b) (lt_less u q.una p.sent s.una) in
    (λ j. map out (if s.expires j || s.again j then (if waits j then first_unacknowledged (swallowing u service) server (inside u i p) (inside u i q)
    else probe (swallowing u service) server (inside u i p) (inside u i q)) else []))
    ∙ choose out (expires news p || resends news p) _ [] _ []
    (λ h. choose out (not q.syn_acked || nat_lt q.una p.sent) _ _ _ _ (λ k. first_is service server news inner p q u i delta s) (λ k. probe_is service server news inner p q u i delta s))
    (λ h. refl)

new_less : (u a r s : ℕ) → u ≤ s → min (a - u) (r - u) - (s - u) ≡ min a r - s
new_less u a r s h = omega (arith, h)

new_texts_are : {State : Type 0} (service : Machine State) (server : Addr) (news inner : News) (p q : Point) (u i delta : ℕ) → Sends service news inner p q u i delta
    → map (outward (south_at delta q)) (new_texts (swallowing u service) server (inside u i p) (inside u i q)) ≡ new_texts service server p q
unfolding new_texts
new_texts_are service server news inner p q u i delta s =
    let n : new_length (swallowing u service) (inside u i p) (inside u i q) ≡ new_length service p q =
    (λ j. min (once_is service news inner p q u i delta s j) (inside_released service u i q j) - (p.sent - u))
    ∙ new_less u (sent_at_once service p q) (released service q) p.sent s.sent in
    ap (λ m. map (outward (south_at delta q)) (texts (swallowing u service) server (inside u i q) m (p.sent - u) m)) n
    ∙ texts_are service server u i delta q (new_length service p q) (p.sent - u) (new_length service p q) s.shift
    ∙ ap (λ m. texts service server q (new_length service p q) m (new_length service p q)) (back u p.sent s.sent)

new_fin_is : {State : Type 0} (service : Machine State) (server : Addr) (news inner : News) (p q : Point) (u i delta : ℕ) → Sends service news inner p q u i delta
    → map (outward (south_at delta q)) (new_fin (swallowing u service) server (inside u i p) (inside u i q)) ≡ new_fin service server p q
unfolding new_fin
new_fin_is service server news inner p q u i delta s =
    let rel = inside_released service u i q in
    let test : (nat_lt (released (swallowing u service) (inside u i q)) (sent_at_once (swallowing u service) (inside u i p) (inside u i q))
    && nat_le (p.sent - u) (released (swallowing u service) (inside u i q)))
    ≡ (nat_lt (released service q) (sent_at_once service p q) && nat_le p.sent (released service q)) =
    (λ j. nat_lt (rel j) (once_is service news inner p q u i delta s j) && nat_le (p.sent - u) (rel j))
    ∙ (λ j. lt_less u (released service q) (sent_at_once service p q) s.given j && le_less u p.sent (released service q) s.given j) in
    ap (λ b. map (outward (south_at delta q)) (if b then fin_if_closed (swallowing u service) server (inside u i q) else [])) test
    ∙ choose (outward (south_at delta q)) (nat_lt (released service q) (sent_at_once service p q) && nat_le p.sent (released service q)) _ [] _ []
    (λ k. fin_if_is service server u i delta q s.shift s.given) (λ k. refl)

bare_is : (server : Addr) (u i delta : ℕ) (q : Point) → (i + delta) % 2 ^ 32 ≡ (q.sisn + u) % 2 ^ 32 → u ≤ q.sent
    → outward (south_at delta q) (bare_segment server (inside u i q)) ≡ bare_segment server q
bare_is server u i delta q shift above =
    segment_is server u i delta q (q.sent - u) 16 [] shift ∙ ap (λ n. segment_at server q n 16 []) (back u q.sent above)

append_quiet : (xs ys : List Segment) → list_any has_rst xs ≡ false → list_any has_rst ys ≡ false → list_any has_rst (xs ++ ys) ≡ false
append_quiet [] ys a b = b
append_quiet (x ∷ xs) ys a b = ap (λ v. v || list_any has_rst (xs ++ ys)) (left_false (has_rst x) _ a) ∙ append_quiet xs ys (right_false (has_rst x) _ a) b

if_quiet : (b : Bool) (x : Segment) (xs : List Segment) → has_rst x ≡ false → list_any has_rst xs ≡ false → list_any has_rst (if b then x ∷ xs else []) ≡ false
if_quiet true x xs a b = ap (λ v. v || list_any has_rst xs) a ∙ b
if_quiet false x xs a b = refl

either_quiet : (b : Bool) (xs ys : List Segment) → list_any has_rst xs ≡ false → list_any has_rst ys ≡ false → list_any has_rst (if b then xs else ys) ≡ false
either_quiet true xs ys a b = a
either_quiet false xs ys a b = b

fin_quiet : {State : Type 0} (service : Machine State) (server : Addr) (q : Point) → list_any has_rst (fin_if_closed service server q) ≡ false
fin_quiet service server q = if_quiet (answered_run service q).closed (fin_segment service server q) [] refl refl

texts_quiet : {State : Type 0} (service : Machine State) (server : Addr) (q : Point) (fuel k left : ℕ) → list_any has_rst (texts service server q fuel k left) ≡ false
texts_quiet service server q zero k left = refl
texts_quiet service server q (suc fuel) k left = if_quiet (nat_lt 0 left) _ _ refl (texts_quiet service server q fuel (k + min left q.mss) (left - min left q.mss))

-- what is sent again or for the first time
abbrev pub full : {State : Type 0} → Machine State → Addr → News → Point → Point → List Segment
full service server news p q = resent service server news p q ++ (new_texts service server p q ++ new_fin service server p q)

full_quiet : {State : Type 0} (service : Machine State) (server : Addr) (news : News) (p q : Point) → list_any has_rst (full service server news p q) ≡ false
unfolding resent new_texts new_fin
full_quiet service server news p q =
    append_quiet (resent service server news p q) (new_texts service server p q ++ new_fin service server p q)
    (either_quiet (expires news p || resends news p) _ []
    (either_quiet (not q.syn_acked || nat_lt q.una p.sent) _ _
    (either_quiet (not q.syn_acked) _ _ refl (either_quiet (q.una == released service q) _ _ (fin_quiet service server q) refl))
    (either_quiet (nat_lt p.sent (released service q)) _ _ refl (fin_quiet service server q))) refl)
    (append_quiet (new_texts service server p q) (new_fin service server p q)
    (texts_quiet service server q (new_length service p q) p.sent (new_length service p q))
    (either_quiet (nat_lt (released service q) (sent_at_once service p q) && nat_le p.sent (released service q)) _ [] (fin_quiet service server q) refl))

full_is : {State : Type 0} (service : Machine State) (server : Addr) (news inner : News) (p q : Point) (u i delta : ℕ) → Sends service news inner p q u i delta
    → map (outward (south_at delta q)) (full (swallowing u service) server inner (inside u i p) (inside u i q)) ≡ full service server news p q
full_is service server news inner p q u i delta s =
    map-append (outward (south_at delta q)) (resent (swallowing u service) server inner (inside u i p) (inside u i q)) _
    ∙ (λ j. resent_is service server news inner p q u i delta s j ++ (map-append (outward (south_at delta q)) (new_texts (swallowing u service) server (inside u i p) (inside u i q)) _
    ∙ (λ k. new_texts_are service server news inner p q u i delta s k ++ new_fin_is service server news inner p q u i delta s k)) j)

-- TCP sends no RST: its segments pass
passed_or : (delta : ℕ) (q : Point) (ack_pending : Bool) (bare : Segment) (xs : List Segment) → has_rst bare ≡ false → list_any has_rst xs ≡ false
    → passed delta q (or_bare ack_pending bare xs) ≡ or_bare ack_pending (outward (south_at delta q) bare) (map (outward (south_at delta q)) xs)
passed_or delta q true bare [] a b = ap (λ v. if v then [] else outward (south_at delta q) bare ∷ []) (ap (λ v. v || false) a)
passed_or delta q false bare [] a b = refl
passed_or delta q ack_pending bare (x ∷ xs) a b = ap (λ v. if v then [] else map (outward (south_at delta q)) (x ∷ xs)) b

pub passed_is : {State : Type 0} (service : Machine State) (server : Addr) (news inner : News) (p q : Point) (u i delta : ℕ) (ack_pending : Bool) → u ≤ q.sent
    → Sends service news inner p q u i delta
    → passed delta q (or_bare ack_pending (bare_segment server (inside u i q)) (full (swallowing u service) server inner (inside u i p) (inside u i q)))
    ≡ or_bare ack_pending (bare_segment server q) (full service server news p q)
passed_is service server news inner p q u i delta ack_pending above s =
    passed_or delta q ack_pending (bare_segment server (inside u i q)) _ refl (full_quiet (swallowing u service) server inner (inside u i p) (inside u i q))
    ∙ (λ j. or_bare ack_pending (bare_is server u i delta q s.shift above j) (full_is service server news inner p q u i delta s j))

-- a segment without data that is pending besides
pub or_besides : (a b : Bool) (bare : Segment) (xs : List Segment) → or_bare b bare (or_bare a bare xs) ≡ or_bare (a || b) bare xs
or_besides true b bare [] = refl
or_besides false b bare [] = refl
or_besides a b bare (x ∷ xs) = refl
