-- Each segment that leaves an established connection is a move of the client machine, which then has sent and advertised what TCP has.
use Rattle.std.proofs.Common.{◌≡◌, ℕ, zero, suc, ◌<◌, ◌≤◌, ◌+◌, ◌-◌, ◌^◌, true, None, List, [], ◌∷◌, ◌++◌, length, take, drop, drop-drop, max, min, refl, sym, ap, subst, arith, ◌∙◌}
use Rattle.std.specs.Prelude.{◌&&◌, nat_lt, nat_le}
use Rattle.std.proofs.lemmas.List.{drop-take, take-take}
use Rattle.seq_arith.specs.Number.{number_at}
use Rattle.seq_arith.specs.Packet.{Segment}
use Rattle.tcp_endpoint.specs.ReceiveHalf.{next, window}
use Rattle.tcp_endpoint.specs.Tcb.{Tcb}
use Rattle.tcp_endpoint.specs.Output.{head_at, segment_at, text_at, fin_at, texts}
use Rattle.ft_model.specs.Client.{Client, IsMove, accepted_units, is_open}
use Rattle.ft_model.specs.Client.Move.{Text, Fin, Acknowledge}
use Rattle.peer_client.specs.Refinement.{AreMoves}
use Rattle.ft_io.proofs.Choices.{holds_if}

-- a machine that has sent and advertised so much
abbrev pub grown : Client → (sent edge : ℕ) → Client
grown c sent edge = record c { sent = sent; edge = edge }

-- what the segments of an endpoint say that the machine says too, but for how much was sent: so many bytes of the script are written
pub record Speaks (u : Tcb) (c : Client) (written edge : ℕ) : Type 0 where
  pub ip : u.local.ip ≡ c.key.ip
  pub port : u.local.port ≡ c.key.port
  pub server : u.remote ≡ c.server
  pub isn : u.sending.iss ≡ c.isn
  pub sisn : u.receiving.irs ≡ c.sisn
  pub units : next u.receiving ≡ accepted_units c
  pub stands : is_open c.phase ≡ true
  pub edge_is : length c.accepted + window u.receiving ≡ edge
  pub small : window u.receiving < 2 ^ 16
  pub una : c.acknowledged ≡ u.sending.una
  pub held : u.sending.held ≡ drop u.sending.una (take written c.script)
  pub within : written ≤ length c.script

-- a part of the script after what is acknowledged
part_is : (place una n written : ℕ) (script : List ℕ) → una + place + n ≤ written
    → take n (drop place (drop una (take written script))) ≡ take n (drop (una + place) script)
part_is place una n written script fits =
    let rest : ℕ = written - (una + place) in
    let all : written ≡ una + place + rest = omega (arith, fits) in
    ap (take n) (drop-drop place una (take written script))
    ∙ ap (λ k. take n (drop (una + place) (take k script))) all
    ∙ ap (take n) (drop-take (una + place) rest script)
    ∙ take-take n rest (drop (una + place) script) (omega (arith, fits))

may_text : (a start s n len : ℕ) → a ≤ start → start ≤ s → 1 ≤ n → n ≤ 1460 → start + n ≤ len
    → (true && (true && nat_le a len) && (nat_le a start && nat_le start s && nat_le 1 n && nat_le n 1460 && nat_le (start + n) len)) ≡ true
may_text a start s n len h1 h2 h3 h4 h5 = grind arith

may_fin : (a s len : ℕ) → a ≤ len → len ≤ s → (true && (true && nat_le a len) && nat_le len s) ≡ true
may_fin a s len h1 h2 = grind arith

below_is : (n m : ℕ) → n < m → nat_lt n m ≡ true
below_is n m h = grind arith

pub text_move : (u : Tcb) (c : Client) (written edge : ℕ) → Speaks u c written edge → (place n s x after : ℕ) → u.sending.una + place ≤ s → 1 ≤ n → n ≤ 1460
    → u.sending.una + place + n ≤ written → after ≡ max s (u.sending.una + place + n) → x ≤ edge
    → IsMove (grown c s x) (text_at u place n) (grown c after edge)
unfolding text_at head_at
text_move u c written edge h place n s x after behind some small fits is low =
    let una : ℕ = u.sending.una in
    let start : ℕ = una + place in
    let payload : take n (drop place u.sending.held) ≡ take n (drop start c.script) =
    ap (λ l. take n (drop place l)) h.held ∙ part_is place una n written c.script fits in
    let most : max x (length c.accepted + window u.receiving) ≡ edge = omega (arith, low, h.edge_is) in
    record {
      move = Text start n;
      window = window u.receiving;
      may = (λ i. true && (h.stands i && nat_le (h.una i) (length c.script))
          && (nat_le (h.una i) start && nat_le start s && nat_le 1 n && nat_le n 1460 && nat_le (start + n) (length c.script)))
          ∙ may_text una start s n (length c.script) (omega arith) behind some small (omega (arith, fits, h.within));
      fits = below_is (window u.receiving) (2 ^ 16) h.small;
      timestamps = None;
      carries = refl;
      segment_is = λ i. record {
        head = record {
          src = h.ip i;
          dst = (h.server i).ip;
          sport = h.port i;
          dport = (h.server i).port;
          seq = number_at (h.isn i) start;
          ack = number_at (h.sisn i) (h.units i);
          flags = 16;
          window = window u.receiving;
          mss = None;
          timestamps = None;
        };
        payload = payload i;
      };
      after_is = λ i. grown c (is i) (sym most i);
    }

pub fin_move : (u : Tcb) (c : Client) (written edge : ℕ) → Speaks u c written edge → (place s x after : ℕ) → u.sending.una + place ≡ written
    → written ≡ length c.script → written ≤ s → after ≡ written + 1 → x ≤ edge → IsMove (grown c s x) (fin_at u place) (grown c after edge)
unfolding fin_at head_at
fin_move u c written edge h place s x after at whole sent is low =
    let una : ℕ = u.sending.una in
    let most : max x (length c.accepted + window u.receiving) ≡ edge = omega (arith, low, h.edge_is) in
    record {
      move = Fin;
      window = window u.receiving;
      may = (λ i. true && (h.stands i && nat_le (h.una i) (length c.script)) && nat_le (length c.script) s)
          ∙ may_fin una s (length c.script) (omega (arith, at, whole)) (omega (arith, whole, sent));
      fits = below_is (window u.receiving) (2 ^ 16) h.small;
      timestamps = None;
      carries = refl;
      segment_is = λ i. record {
        head = record {
          src = h.ip i;
          dst = (h.server i).ip;
          sport = h.port i;
          dport = (h.server i).port;
          seq = number_at (h.isn i) ((at ∙ whole) i);
          ack = number_at (h.sisn i) (h.units i);
          flags = 17;
          window = window u.receiving;
          mss = None;
          timestamps = None;
        };
        payload = [];
      };
      after_is = λ i. grown c ((is ∙ ap (λ n. n + 1) whole) i) (sym most i);
    }

pub bare_move : (u : Tcb) (c : Client) (written edge : ℕ) → Speaks u c written edge → (place s x : ℕ) → u.sending.una + place ≡ s → x ≤ edge
    → IsMove (grown c s x) (segment_at u place 16 []) (grown c s edge)
unfolding head_at
bare_move u c written edge h place s x at low =
    let most : max x (length c.accepted + window u.receiving) ≡ edge = omega (arith, low, h.edge_is) in
    record {
      move = Acknowledge;
      window = window u.receiving;
      may = λ i. true && h.stands i && true;
      fits = below_is (window u.receiving) (2 ^ 16) h.small;
      timestamps = None;
      carries = refl;
      segment_is = λ i. record {
        head = record {
          src = h.ip i;
          dst = (h.server i).ip;
          sport = h.port i;
          dport = (h.server i).port;
          seq = number_at (h.isn i) (at i);
          ack = number_at (h.sisn i) (h.units i);
          flags = 16;
          window = window u.receiving;
          mss = None;
          timestamps = None;
        };
        payload = [];
      };
      after_is = λ i. grown c s (sym most i);
    }

-- the right edge after these segments: the first one raises it
abbrev pub edge_after : List Segment → (edge x : ℕ) → ℕ
edge_after [] edge x = x
edge_after (segment ∷ segments) edge x = edge

-- the segments lead the machine on from so much sent and advertised to so much sent
abbrev pub Goes : Client → (edge s x : ℕ) → List Segment → (after : ℕ) → Type 0
Goes c edge s x segments after = AreMoves (grown c s x) segments (grown c after (edge_after segments edge x))

pub goes_none : (c : Client) (edge s x : ℕ) → Goes c edge s x [] s
goes_none c edge s x = refl

pub goes_one : (c : Client) (edge s x after : ℕ) (segment : Segment) → IsMove (grown c s x) segment (grown c after edge) → Goes c edge s x (segment ∷ []) after
goes_one c edge s x after segment move = (grown c after edge, move, refl)

pub moves_on : (a b d : Client) (xs ys : List Segment) → AreMoves a xs b → AreMoves b ys d → AreMoves a (xs ++ ys) d
moves_on a b d [] ys first later = subst (λ (q : Client). AreMoves q ys d) first later
moves_on a b d (x ∷ xs) ys first later = (first.0, first.1, moves_on first.0 b d xs ys first.2 later)

pub edge_on : (xs ys : List Segment) (edge x : ℕ) → edge_after ys edge (edge_after xs edge x) ≡ edge_after (xs ++ ys) edge x
edge_on [] ys edge x = refl
edge_on (a ∷ xs) [] edge x = refl
edge_on (a ∷ xs) (b ∷ ys) edge x = refl

pub edge_low : (xs : List Segment) (edge x : ℕ) → x ≤ edge → edge_after xs edge x ≤ edge
edge_low [] edge x low = low
edge_low (a ∷ xs) edge x low = omega arith

pub proceeds : (c : Client) (edge s x mid after : ℕ) (xs ys : List Segment) → Goes c edge s x xs mid → Goes c edge mid (edge_after xs edge x) ys after
    → Goes c edge s x (xs ++ ys) after
proceeds c edge s x mid after xs ys first later =
    subst (λ (e : ℕ). AreMoves (grown c s x) (xs ++ ys) (grown c after e)) (edge_on xs ys edge x)
    (moves_on (grown c s x) (grown c mid (edge_after xs edge x)) (grown c after (edge_after ys edge (edge_after xs edge x))) xs ys first later)

-- text, in segments of the segment size
pub texts_go : (k : ℕ) (u : Tcb) (c : Client) (written edge : ℕ) → Speaks u c written edge → 64 ≤ u.sending.mss → u.sending.mss ≤ 1460
    → (place left s x : ℕ) → left ≤ k → u.sending.una + place ≡ s → s + left ≤ written → x ≤ edge
    → Goes c edge s x (texts k u place left) (s + left)
unfolding texts
texts_go zero u c written edge h least most place left s x enough at fits low =
    ap (λ n. grown c n x) (omega (arith, enough))
texts_go (suc k) u c written edge h least most place left s x enough at fits low =
    let n : ℕ = min left u.sending.mss in
    holds_if (λ (xs : List Segment). Goes c edge s x xs (s + left)) (nat_lt 0 left)
    (text_at u place n ∷ texts k u (place + n) (left - n)) []
    (λ some.
    let some_left : 1 ≤ left = grind (arith, some) in
    let moved : IsMove (grown c s x) (text_at u place n) (grown c (s + n) edge) =
    text_move u c written edge h place n s x (s + n) (omega (arith, at)) (omega (arith, some_left, least)) (omega (arith, most)) (omega (arith, at, fits))
    (omega (arith, at)) low in
    let all : s + n + (left - n) ≡ s + left = omega arith in
    proceeds c edge s x (s + n) (s + left) (text_at u place n ∷ []) (texts k u (place + n) (left - n))
    (goes_one c edge s x (s + n) (text_at u place n) moved)
    (subst (λ (m : ℕ). Goes c edge (s + n) edge (texts k u (place + n) (left - n)) m) all
    (texts_go k u c written edge h least most (place + n) (left - n) (s + n) edge (omega (arith, enough, some_left, least)) (omega (arith, at)) (omega (arith, fits))
    (omega arith))))
    (λ none. ap (λ m. grown c m x) (grind (arith, none)))
