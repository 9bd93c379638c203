-- The end of a turn of an established connection, step by step: what goes out again, a probe, text, the FIN, and else a segment without data.
use Rattle.std.proofs.Common.{◌≡◌, ◌⊎◌, inl, inr, ℕ, ◌<◌, ◌≤◌, ◌+◌, ◌-◌, Bool, true, false, not, Option, None, List, [], ◌∷◌, ◌++◌, length, length-drop, length-take, take, max, min, refl, sym, ap, subst, arith, ◌∙◌}
use Rattle.std.specs.Prelude.{◌==◌, ◌&&◌, ◌||◌, nat_lt, if◌then◌else◌}
use Rattle.std.proofs.lemmas.Bool.{false≢true}
use Rattle.seq_arith.specs.Packet.{Segment}
use Rattle.seq_arith.specs.Offset.{one_if}
use Rattle.tcp_endpoint.specs.States.{is_closed, has_begun}
use Rattle.tcp_endpoint.specs.ReceiveHalf.{next, taken, receive_edge, advertised_edge}
use Rattle.tcp_rules.specs.Timing.{Timing}
use Rattle.tcp_endpoint.specs.SendHalf.{Sending, in_flight, is_unacknowledged, send_edge, sends_fin, resent_length, with_sent, with_fin_sent, with_unit_timed}
use Rattle.tcp_endpoint.specs.Tcb.{Tcb}
use Rattle.tcp_endpoint.specs.Output.{segment_at, text_at, fin_at, texts, reset_reply_segments, reset_reply_out, retransmission_out, retransmitted_segment, opening_segment, probes, probes_text, probes_fin, probe_out, with_probe, new_length, text_out, with_text_sent, new_fin, fin_out, with_fin_out, full_out, with_timed, after_full, is_ack_pending, bare_segment, or_bare, leaving}
use Rattle.segment_codec.specs.declared.Head.{Head}
use Rattle.ft_model.specs.Client.{Client, IsMove}
use Rattle.peer_client.specs.Refinement.{AreMoves, Reported}
use Rattle.peer_client.proofs.Spoken.{grown, Speaks, Goes, edge_after, text_move, fin_move, bare_move, texts_go, goes_none, goes_one, proceeds, edge_low}
use Rattle.ft_io.proofs.Booleans.{left_true, right_true, not_true, or_other}
use Rattle.ft_io.proofs.Choices.{holds_if}
use Rattle.ft_io.proofs.Numbers.{equal_of_test}
use Rattle.endpoint_laws.proofs.TimerAt.{some_left}

-- where two choices are made by one test
pub pair_if : {X Y : Type 0} (P : X → Y → Type 0) (b : Bool) (x y : X) (x' y' : Y) → (b ≡ true → P x x') → (b ≡ false → P y y')
    → P (if b then x else y) (if b then x' else y')
pair_if P true x y x' y' on off = on refl
pair_if P false x y x' y' on off = off refl

pub lt_of : (n m : ℕ) → nat_lt n m ≡ true → n < m
lt_of n m h = grind (arith, h)

pub not_lt_of : (n m : ℕ) → nat_lt n m ≡ false → m ≤ n
not_lt_of n m h = grind (arith, h)

-- the endpoint with so much sent, and a FIN or not
abbrev pub at : Tcb → ℕ → Bool → Tcb
at u s f = record u { sending = record u.sending { sent = s; fin_sent = f } }

-- .. and with this estimate, at the end
abbrev pub at_end : Tcb → ℕ → Bool → Timing → Tcb
at_end u s f t = record u { sending = record u.sending { sent = s; fin_sent = f; timing = t } }

-- how much may be sent of a script of which so many bytes are written
pub record IsWithin (u : Tcb) (c : Client) (written s : ℕ) (f : Bool) : Type 0 where
  pub order : u.sending.una ≤ s
  pub text : f ≡ false → s ≤ written
  pub ended : f ≡ true → (u.sending.closed ≡ true) × (s ≡ written + 1)

-- what every step of the flush finds
pub record Flushes (u : Tcb) (c : Client) (written edge : ℕ) : Type 0 where
  pub speaks : Speaks u c written edge
  pub syn_acked : u.sending.syn_acked ≡ true
  pub least : 64 ≤ u.sending.mss
  pub most : u.sending.mss ≤ 1460
  pub shut : u.sending.closed ≡ true → written ≡ length c.script
  pub reset_reply : u.reset_reply ≡ None

held_length : (u : Tcb) (c : Client) (written edge : ℕ) → Speaks u c written edge → length u.sending.held ≡ written - u.sending.una
held_length u c written edge h =
    ap length h.held ∙ length-drop u.sending.una (take written c.script)
    ∙ ap (λ n. n - u.sending.una) (length-take written c.script)
    ∙ omega (arith, h.within)

-- a step of the flush: these segments leave, and so the endpoint stands then
pub record Steps (u : Tcb) (c : Client) (written edge s x : ℕ) (out : List Segment) (after : Tcb) : Type 0 where
  pub sent : ℕ
  pub fin : Bool
  pub is : after ≡ at u sent fin
  pub within : IsWithin u c written sent fin
  pub more : s ≤ sent
  pub goes : Goes c edge s x out sent

stays : (u : Tcb) (c : Client) (written edge s x : ℕ) (f : Bool) → IsWithin u c written s f → Steps u c written edge s x [] (at u s f)
stays u c written edge s x f w = record { sent = s; fin = f; is = refl; within = w; more = omega arith; goes = goes_none c edge s x }

-- what goes out again
retransmission_goes : (u : Tcb) (c : Client) (written edge x : ℕ) → Flushes u c written edge → IsWithin u c written u.sending.sent u.sending.fin_sent → x ≤ edge
    → Goes c edge u.sending.sent x (retransmission_out u) u.sending.sent
unfolding retransmission_out retransmitted_segment
retransmission_goes u c written edge x h w low =
    let q : Sending = u.sending in
    let P : List Segment → Type 0 = λ xs. Goes c edge q.sent x xs q.sent in
    let O : Segment → Type 0 = λ g. Goes c edge q.sent x (g ∷ []) q.sent in
    let held : length q.held ≡ written - q.una = held_length u c written edge h.speaks in
    holds_if P (u.retransmission_due && not (is_closed u.name) && is_unacknowledged q) _ []
    (λ due.
    let unacked : q.una < q.sent =
    lt_of q.una q.sent (or_other (not q.syn_acked) (nat_lt q.una q.sent) (ap not h.syn_acked) (right_true (u.retransmission_due && not (is_closed u.name)) (is_unacknowledged q) due)) in
    holds_if O (not q.syn_acked) (opening_segment u) _
    (λ k. absurd (false≢true (sym (ap not h.syn_acked) ∙ k)))
    (λ k. holds_if O (length q.held == 0) (fin_at u 0) (text_at u 0 (resent_length q))
    (λ none.
    let gone : length q.held ≡ 0 = equal_of_test (length q.held) 0 none in
    let fin : q.fin_sent ≡ true = fin_is q.fin_sent (λ f. absurd (omega (arith, w.text f, gone, held, unacked))) in
    let whole = w.ended fin in
    goes_one c edge q.sent x q.sent (fin_at u 0)
    (fin_move u c written edge h.speaks 0 q.sent x q.sent (omega (arith, whole.1, unacked, gone, held)) (h.shut whole.0) (omega (arith, whole.1)) whole.1 low))
    (λ some.
    let n : ℕ = resent_length q in
    let one : 1 ≤ length q.held = some_left (length q.held) some in
    let few : n ≤ q.sent - q.una = omega arith in
    let fits : n ≤ length q.held = omega arith in
    goes_one c edge q.sent x q.sent (text_at u 0 n)
    (text_move u c written edge h.speaks 0 n q.sent x q.sent (omega (arith, unacked)) (omega (arith, one, unacked, h.least)) (omega (arith, h.most))
    (omega (arith, fits, held, one)) (omega (arith, few, unacked)) low))))
    (λ none. goes_none c edge q.sent x)
  where
    fin_is : (f : Bool) → (f ≡ false → f ≡ true) → f ≡ true
    fin_is true h = refl
    fin_is false h = h refl

-- a probe
probe_steps : (u : Tcb) (c : Client) (written edge x : ℕ) → Flushes u c written edge → IsWithin u c written u.sending.sent u.sending.fin_sent → x ≤ edge
    → Steps u c written edge u.sending.sent x (probe_out u) (with_probe u)
unfolding probe_out with_probe
probe_steps u c written edge x h w low =
    let q : Sending = u.sending in
    let held : length q.held ≡ written - q.una = held_length u c written edge h.speaks in
    let P : List Segment → Sending → Type 0 = λ xs t. Steps u c written edge q.sent x xs (record u { sending = t }) in
    let waits : Bool = nat_lt (in_flight q) (length q.held) in
    let unsent : probes u ≡ true → q.fin_sent ≡ false = λ k. not_true q.fin_sent (right_true (u.probe && has_begun u.name && q.syn_acked) (not q.fin_sent) k) in
    pair_if P (probes_text u) (text_at u (in_flight q) 1 ∷ []) _ (with_sent q 1) _
    (λ k.
    let off : q.fin_sent ≡ false = unsent (left_true (probes u) waits k) in
    let more : in_flight q < length q.held = lt_of (in_flight q) (length q.held) (right_true (probes u) waits k) in
    record {
      sent = q.sent + 1;
      fin = q.fin_sent;
      is = refl;
      within = record { order = omega (arith, w.order); text = λ f. omega (arith, more, held, w.order); ended = λ f. absurd (false≢true (sym off ∙ f)) };
      more = omega arith;
      goes = goes_one c edge q.sent x (q.sent + 1) (text_at u (in_flight q) 1)
          (text_move u c written edge h.speaks (in_flight q) 1 q.sent x (q.sent + 1) (omega (arith, w.order)) (omega arith) (omega arith)
          (omega (arith, more, held, w.order)) (omega (arith, w.order)) low);
    })
    (λ k. pair_if P (probes_fin u) (fin_at u (in_flight q) ∷ []) [] (with_fin_sent q) q
    (λ p.
    let off : q.fin_sent ≡ false = unsent (left_true (probes u) (not waits) (left_true (probes u && not waits) q.closed p)) in
    let none : length q.held ≤ in_flight q =
    not_lt_of (in_flight q) (length q.held) (not_true waits (right_true (probes u) (not waits) (left_true (probes u && not waits) q.closed p))) in
    let is_closed : q.closed ≡ true = right_true (probes u && not waits) q.closed p in
    let all : q.sent ≡ written = omega (arith, none, held, w.text off, w.order) in
    record {
      sent = q.sent + 1;
      fin = true;
      is = refl;
      within = record { order = omega (arith, w.order); text = λ f. absurd (false≢true (sym f)); ended = λ f. (is_closed, ap (λ n. n + 1) all) };
      more = omega arith;
      goes = goes_one c edge q.sent x (q.sent + 1) (fin_at u (in_flight q))
          (fin_move u c written edge h.speaks (in_flight q) q.sent x (q.sent + 1) (omega (arith, w.order, all)) (h.shut is_closed) (omega (arith, all)) (ap (λ n. n + 1) all) low);
    })
    (λ p. record { sent = q.sent; fin = q.fin_sent; is = refl; within = w; more = omega arith; goes = goes_none c edge q.sent x }))

-- the endpoint says the same, however much it has sent
speaks_at : (u : Tcb) (c : Client) (written edge s : ℕ) (f : Bool) → Speaks u c written edge → Speaks (at u s f) c written edge
speaks_at u c written edge s f h = record {
  ip = h.ip;
  port = h.port;
  server = h.server;
  isn = h.isn;
  sisn = h.sisn;
  units = h.units;
  stands = h.stands;
  edge_is = h.edge_is;
  small = h.small;
  una = h.una;
  held = h.held;
  within = h.within;
}

speaks_end : (u : Tcb) (c : Client) (written edge s : ℕ) (f : Bool) (t : Timing) → Speaks u c written edge → Speaks (at_end u s f t) c written edge
speaks_end u c written edge s f t h = record {
  ip = h.ip;
  port = h.port;
  server = h.server;
  isn = h.isn;
  sisn = h.sisn;
  units = h.units;
  stands = h.stands;
  edge_is = h.edge_is;
  small = h.small;
  una = h.una;
  held = h.held;
  within = h.within;
}

-- text for the first time
sendable_fits : (o f : Bool) (una len edge s written : ℕ) → (f ≡ false → s ≤ written) → una ≤ s → len ≡ written - una
    → (s + (if o && not f then min (una + len) edge - s else 0) ≤ max s written) × (f ≡ true → (if o && not f then min (una + len) edge - s else 0) ≡ 0)
sendable_fits true true una len edge s written text order is = (omega arith, λ k. refl)
sendable_fits true false una len edge s written text order is = (omega (arith, text refl, order, is), λ k. absurd (false≢true k))
sendable_fits false true una len edge s written text order is = (omega arith, λ k. refl)
sendable_fits false false una len edge s written text order is = (omega arith, λ k. refl)

begun_or_none : (b : Bool) (n s m : ℕ) (f : Bool) → (s + n ≤ max s m) × (f ≡ true → n ≡ 0)
    → (s + (if b then n else 0) ≤ max s m) × (f ≡ true → (if b then n else 0) ≡ 0)
begun_or_none true n s m f h = h
begun_or_none false n s m f h = (omega arith, λ k. refl)

texts_none : (u : Tcb) (place : ℕ) → texts 0 u place 0 ≡ []
unfolding texts
texts_none u place = refl

-- as much as may be sent goes out
text_goes : (u : Tcb) (c : Client) (written edge s x : ℕ) (f : Bool) (n : ℕ) → Flushes u c written edge → IsWithin u c written s f → s + n ≤ max s written
    → (f ≡ true → n ≡ 0) → x ≤ edge → Goes c edge s x (texts n (at u s f) (s - u.sending.una) n) (s + n)
text_goes u c written edge s x true n h w fits none low =
    let P : ℕ → Type 0 = λ m. Goes c edge s x (texts m (at u s true) (s - u.sending.una) m) (s + m) in
    let Q : List Segment → Type 0 = λ xs. Goes c edge s x xs (s + 0) in
    subst P (sym (none refl)) (subst Q (sym (texts_none (at u s true) (s - u.sending.una))) (ap (λ m. grown c m x) (omega arith)))
text_goes u c written edge s x false n h w fits none low =
    texts_go n (at u s false) c written edge (speaks_at u c written edge s false h.speaks) h.least h.most (s - u.sending.una) n s x (omega arith)
    (omega (arith, w.order)) (omega (arith, fits, w.text refl)) low

text_steps : (u : Tcb) (c : Client) (written edge s x : ℕ) (f : Bool) → Flushes u c written edge → IsWithin u c written s f → x ≤ edge
    → Steps u c written edge s x (text_out (at u s f)) (with_text_sent (at u s f))
unfolding text_out with_text_sent
text_steps u c written edge s x f h w low =
    let n : ℕ = new_length (at u s f) in
    let fits = begun_or_none (has_begun u.name) _ s written f
    (sendable_fits u.sending.syn_acked f u.sending.una (length u.sending.held) (send_edge u.sending) s written w.text w.order (held_length u c written edge h.speaks)) in
    record {
      sent = s + n;
      fin = f;
      is = refl;
      within = record {
        order = omega (arith, w.order);
        text = λ k. omega (arith, fits.0, w.text k);
        ended = λ k. ((w.ended k).0, omega (arith, (w.ended k).1, fits.1 k));
      };
      more = omega arith;
      goes = text_goes u c written edge s x f (new_length (at u s f)) h w fits.0 fits.1 low;
    }

-- the FIN
fin_steps : (u : Tcb) (c : Client) (written edge s x : ℕ) (f : Bool) → Flushes u c written edge → IsWithin u c written s f → x ≤ edge
    → Steps u c written edge s x (fin_out (at u s f)) (with_fin_out (at u s f))
unfolding fin_out with_fin_out
fin_steps u c written edge s x f h w low =
    let q : Sending = (at u s f).sending in
    let held : length q.held ≡ written - q.una = held_length u c written edge h.speaks in
    let sure : Bool = q.syn_acked && q.closed in
    let all : Bool = s == q.una + length q.held in
    let room : Bool = nat_lt s (send_edge q) in
    let P : List Segment → Sending → Type 0 = λ xs t. Steps u c written edge s x xs (record u { sending = t }) in
    pair_if P (new_fin (at u s f)) (fin_at (at u s f) (in_flight q) ∷ []) [] (with_fin_sent q) q
    (λ k.
    let due : (sure && not f && all && room) ≡ true = right_true (has_begun u.name) (sends_fin q) k in
    let whole : (sure && not f && all) ≡ true = left_true (sure && not f && all) room due in
    let off : f ≡ false = not_true f (right_true sure (not f) (left_true (sure && not f) all whole)) in
    let is_closed : q.closed ≡ true = right_true q.syn_acked q.closed (left_true sure (not f) (left_true (sure && not f) all whole)) in
    let ends : s ≡ q.una + length q.held = equal_of_test s (q.una + length q.held) (right_true (sure && not f) all whole) in
    let sent : s ≡ written = omega (arith, ends, held, w.text off, w.order) in
    record {
      sent = s + 1;
      fin = true;
      is = refl;
      within = record { order = omega (arith, w.order); text = λ g. absurd (false≢true (sym g)); ended = λ g. (is_closed, ap (λ n. n + 1) sent) };
      more = omega arith;
      goes = goes_one c edge s x (s + 1) (fin_at (at u s f) (in_flight q))
          (fin_move (at u s f) c written edge (speaks_at u c written edge s f h.speaks) (in_flight q) s x (s + 1) (omega (arith, w.order, sent)) (h.shut is_closed)
          (omega (arith, sent)) (ap (λ n. n + 1) sent) low);
    })
    (λ k. stays u c written edge s x f w)

-- what was advertised last is the edge, where nothing is pending
same_edge : (before now : ℕ) (f g : Bool) (reported edge : ℕ) → before ≤ now → (f ≡ true → g ≡ true) → before + one_if f ≡ now + one_if g → reported + one_if f ≡ edge + one_if g
    → reported ≡ edge
same_edge before now true true reported edge less stays_taken units edges = omega (arith, edges)
same_edge before now true false reported edge less stays_taken units edges = absurd (false≢true (stays_taken refl))
same_edge before now false true reported edge less stays_taken units edges = absurd (omega (arith, less, units))
same_edge before now false false reported edge less stays_taken units edges = omega (arith, edges)

no_ack_pending : (b ack_pending same_next same_reported : Bool) → b ≡ true → (b && (ack_pending || not same_next || not same_reported)) ≡ false
    → (ack_pending ≡ false) × ((same_next ≡ true) × (same_reported ≡ true))
no_ack_pending true true n t begun h = absurd (false≢true (sym h))
no_ack_pending true false true true begun h = (refl, (refl, refl))
no_ack_pending true false true false begun h = absurd (false≢true (sym h))
no_ack_pending true false false t begun h = absurd (false≢true (sym h))
no_ack_pending false ack_pending n t begun h = absurd (false≢true begun)

pub edge_reported : (u : Tcb) (c : Client) → has_begun u.name ≡ true → (u.ack_pending ≡ true) ⊎ Reported u c → is_ack_pending u ≡ false → c.edge ≡ receive_edge u.receiving
unfolding is_ack_pending
edge_reported u c begun (inl ack_pending) none =
    absurd (false≢true (sym (no_ack_pending (has_begun u.name) u.ack_pending (u.last_ack_sent == next u.receiving) (u.last_advertised_edge == advertised_edge u.receiving) begun none).0 ∙ ack_pending))
edge_reported u c begun (inr t) none =
    let k = no_ack_pending (has_begun u.name) u.ack_pending (u.last_ack_sent == next u.receiving) (u.last_advertised_edge == advertised_edge u.receiving) begun none in
    same_edge t.bytes (taken u.receiving) t.fin u.receiving.fin c.edge (receive_edge u.receiving) t.bytes_taken t.fin_taken
    (sym t.next_is ∙ equal_of_test u.last_ack_sent (next u.receiving) k.1.0)
    (sym t.edge_is ∙ equal_of_test u.last_advertised_edge (advertised_edge u.receiving) k.1.1)

edge_reported_at : (u : Tcb) (c : Client) (s : ℕ) (f : Bool) (time : Timing) → has_begun u.name ≡ true → (u.ack_pending ≡ true) ⊎ Reported u c
    → is_ack_pending (at_end u s f time) ≡ false → c.edge ≡ receive_edge u.receiving
edge_reported_at u c s f time begun (inl ack_pending) none = edge_reported (at_end u s f time) c begun (inl ack_pending) none
edge_reported_at u c s f time begun (inr t) none =
    edge_reported (at_end u s f time) c begun
    (inr (record { bytes = t.bytes; fin = t.fin; next_is = t.next_is; edge_is = t.edge_is; bytes_taken = t.bytes_taken; fin_taken = t.fin_taken })) none

-- a segment without data, where no other leaves
finish : (c : Client) (edge s x after : ℕ) (ack_pending : Bool) (bare : Segment) (xs : List Segment) → Goes c edge s x xs after
    → IsMove (grown c after x) bare (grown c after edge) → (ack_pending ≡ false → x ≡ edge) → AreMoves (grown c s x) (or_bare ack_pending bare xs) (grown c after edge)
finish c edge s x after true bare [] goes move reports =
    subst (λ (q : Client). AreMoves q (bare ∷ []) (grown c after edge)) goes (grown c after edge, move, refl)
finish c edge s x after false bare [] goes move reports = (λ i. grown c after (sym (reports refl) i)) ∙ goes
finish c edge s x after ack_pending bare (a ∷ xs) goes move reports = goes

-- the end of the turn
pub record Left (u : Tcb) (c : Client) (written edge : ℕ) : Type 0 where
  pub sent : ℕ
  pub fin : Bool
  pub timing : Timing
  pub is : after_full u ≡ at_end u sent fin timing
  pub within : IsWithin u c written sent fin
  pub more : u.sending.sent ≤ sent
  pub moves : AreMoves c (leaving u) (grown c sent edge)

reset_reply_goes : (u : Tcb) (c : Client) (edge s x : ℕ) → u.reset_reply ≡ None → Goes c edge s x (reset_reply_out u) s
unfolding reset_reply_out
reset_reply_goes u c edge s x none = subst (λ (a : Option Head). Goes c edge s x (reset_reply_segments a) s) (sym none) refl

pub leaves : (u : Tcb) (c : Client) (written edge : ℕ) → has_begun u.name ≡ true → Flushes u c written edge
    → IsWithin u c written u.sending.sent u.sending.fin_sent → c.sent ≡ u.sending.sent → c.edge ≤ edge → receive_edge u.receiving ≡ edge
    → (u.ack_pending ≡ true) ⊎ Reported u c → Left u c written edge
unfolding leaving full_out after_full with_timed bare_segment
leaves u c written edge begun h w sent low is_edge reported =
    let s : ℕ = u.sending.sent in
    let x : ℕ = c.edge in
    let a : List Segment = reset_reply_out u in
    let b : List Segment = retransmission_out u in
    let d : List Segment = probe_out u in
    let xa : ℕ = edge_after a edge x in
    let xb : ℕ = edge_after (a ++ b) edge x in
    let xd : ℕ = edge_after (a ++ b ++ d) edge x in
    let to_again : Goes c edge s x (a ++ b) s =
    proceeds c edge s x s s a b (reset_reply_goes u c edge s x h.reset_reply) (retransmission_goes u c written edge xa h w (edge_low a edge x low)) in
    let p : Steps u c written edge s xb d (with_probe u) = probe_steps u c written edge xb h w (edge_low (a ++ b) edge x low) in
    let to_probe : Goes c edge s x (a ++ b ++ d) p.sent = proceeds c edge s x s p.sent (a ++ b) d to_again p.goes in
    let T : Tcb → Type 0 = λ v. Steps u c written edge p.sent xd (text_out v) (with_text_sent v) in
    let t : Steps u c written edge p.sent xd (text_out (with_probe u)) (with_text_sent (with_probe u)) =
    subst T (sym p.is) (text_steps u c written edge p.sent xd p.fin h p.within (edge_low (a ++ b ++ d) edge x low)) in
    let e : List Segment = text_out (with_probe u) in
    let xe : ℕ = edge_after (a ++ b ++ d ++ e) edge x in
    let to_text : Goes c edge s x (a ++ b ++ d ++ e) t.sent = proceeds c edge s x p.sent t.sent (a ++ b ++ d) e to_probe t.goes in
    let F : Tcb → Type 0 = λ v. Steps u c written edge t.sent xe (fin_out v) (with_fin_out v) in
    let f : Steps u c written edge t.sent xe (fin_out (with_text_sent (with_probe u))) (with_fin_out (with_text_sent (with_probe u))) =
    subst F (sym t.is) (fin_steps u c written edge t.sent xe t.fin h t.within (edge_low (a ++ b ++ d ++ e) edge x low)) in
    let g : List Segment = fin_out (with_text_sent (with_probe u)) in
    let to_fin : Goes c edge s x (a ++ b ++ d ++ e ++ g) f.sent = proceeds c edge s x t.sent f.sent (a ++ b ++ d ++ e) g to_text f.goes in
    let place : ℕ = in_flight (with_probe u).sending in
    let time : Timing = (with_unit_timed place (at u f.sent f.fin).sending).timing in
    let ended : Tcb = at_end u f.sent f.fin time in
    let last : Tcb = with_fin_out (with_text_sent (with_probe u)) in
    let B : Tcb → Type 0 = λ v. AreMoves (grown c s x) (or_bare (is_ack_pending v) (segment_at v (in_flight v.sending) 16 []) (a ++ b ++ d ++ e ++ g)) (grown c f.sent edge) in
    let whole : B (with_timed place last) = subst (λ (v : Tcb). B (with_timed place v)) (sym f.is)
    (finish c edge s x f.sent (is_ack_pending ended) (segment_at ended (f.sent - u.sending.una) 16 []) (a ++ b ++ d ++ e ++ g) to_fin
    (bare_move ended c written edge (speaks_end u c written edge f.sent f.fin time h.speaks) (f.sent - u.sending.una) f.sent x (omega (arith, f.within.order)) low)
    (λ none. edge_reported_at u c f.sent f.fin time begun reported none ∙ is_edge)) in
    record {
      sent = f.sent;
      fin = f.fin;
      timing = time;
      is = ap (with_timed place) f.is;
      within = f.within;
      more = omega (arith, p.more, t.more, f.more);
      moves = subst (λ (n : ℕ). AreMoves (grown c n x) (leaving u) (grown c f.sent edge)) (sym sent) whole;
    }
