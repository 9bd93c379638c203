-- What leaves at the end of a turn, but for a bare segment, is what the laws of `ft_model` want of the points before and after it.
use Rattle.tcp_rules.specs.Timestamping.{timestamps_sent}
use Rattle.tcp_rules.specs.declared.timestamping.Timestamping.TheVariants.{Off}
use Rattle.std.proofs.Common.{◌≡◌, ℕ, zero, suc, ◌<◌, ◌≤◌, ◌+◌, ◌-◌, ◌%◌, ◌^◌, Bool, true, false, not, List, [], ◌∷◌, ◌++◌, length, take, drop, max, min, Some, None, refl, sym, ap, arith, append_assoc, append-nil, drop-drop, ⊎_elim, inl, inr, ◌∙◌}
use Rattle.std.specs.Prelude.{◌==◌, ◌&&◌, ◌||◌, ◌⊎◌, nat_lt, nat_le, if◌then◌else◌}
use Rattle.std.proofs.lemmas.List.{drop-take, take-take}
use Rattle.std.proofs.lemmas.Bool.{false≢true}
use Rattle.seq_arith.specs.Number.{number_at}
use Rattle.seq_arith.specs.Packet.{Segment}
use Rattle.server_trait.specs.Service.{Machine}
use Rattle.ft_io.specs.declared.Addr.{Addr}
use Rattle.seq_arith.specs.Offset.{one_if}
use Rattle.ft_model.specs.Point.{Point, taken_units, acknowledgement, released, target, answered_run}
use Rattle.ft_model.specs.Point as point
use Rattle.ft_model.specs.News.{News}
use Rattle.ft_model.specs.Timer.{expires}
use Rattle.ft_model.specs.Sending as sender
use Rattle.ft_model.specs.Segments as model
use Rattle.tcp_endpoint.specs.declared.states.StateName.{StateName}
use Rattle.tcp_endpoint.specs.declared.states.StateName.TheVariants.{Closed, Listen, SynSent, SynReceived, Established, FinWait1, FinWait2, CloseWait, Closing, LastAck, TimeWait}
use Rattle.tcp_endpoint.specs.States.{is_closed, is_syn_sent, has_begun}
use Rattle.tcp_endpoint.specs.ReceiveHalf.{Receiving, next, window}
use Rattle.tcp_endpoint.specs.SendHalf.{Sending, is_unacknowledged, send_edge, sendable, sends_fin, resent_length, with_sent, with_fin_sent}
use Rattle.tcp_endpoint.specs.Tcb.{Tcb}
use Rattle.tcp_endpoint.specs.Output.{head_at, opening_segment, text_at, fin_at, texts, reset_reply_out, retransmitted_segment, retransmission_out, probes, probes_text, probes_fin, probe_out, with_probe, new_length, text_out, with_text_sent, fin_out, with_fin_out, full_out, after_full, bare_segment, with_timed}
use Rattle.endpoint_laws.specs.Refinement.{ReceivesAt, HasWrittenAll, HasFilled, refusals}
use Rattle.endpoint_laws.proofs.TakenLaw.{if_when, window_is}
use Rattle.endpoint_laws.proofs.StandingLaw.{next_is, room_is}
use Rattle.endpoint_laws.proofs.TurnLaw.{after_steps, fin_unsent, waits_fin, probing, nothing_held}
use Rattle.endpoint_laws.proofs.Calls.{FinIsLast}
use Rattle.endpoint_laws.proofs.Flushing.{Flushes, waits_for_ack}
use Rattle.ft_io.proofs.Booleans.{false_by}

-- the state of a connection that has begun is neither CLOSED nor SYN-SENT
pub begun_open : (name : StateName) → has_begun name ≡ true → is_closed name ≡ false
begun_open Closed h = absurd (false≢true h)
begun_open Listen h = refl
begun_open SynSent h = refl
begun_open SynReceived h = refl
begun_open Established h = refl
begun_open FinWait1 h = refl
begun_open FinWait2 h = refl
begun_open CloseWait h = refl
begun_open Closing h = refl
begun_open LastAck h = refl
begun_open TimeWait h = refl

pub begun_answers : (name : StateName) → has_begun name ≡ true → is_syn_sent name ≡ false
begun_answers SynSent h = absurd (false≢true h)
begun_answers Closed h = refl
begun_answers Listen h = refl
begun_answers SynReceived h = refl
begun_answers Established h = refl
begun_answers FinWait1 h = refl
begun_answers FinWait2 h = refl
begun_answers CloseWait h = refl
begun_answers Closing h = refl
begun_answers LastAck h = refl
begun_answers TimeWait h = refl

-- where the output stands: what is acknowledged, held, sent and released, and whether the service has closed. All of it is written ..
record WrittenAll (c f ends : Bool) (una len sent all : ℕ) : Type 0 where
  written : all ≡ (if f then sent - 1 else una + len)
  closed : ends ≡ c

-- .. or the buffer is full
record Filled (c f : Bool) (una len all : ℕ) : Type 0 where
  full : len ≡ 65535
  open_still : c ≡ false
  unsent : f ≡ false
  written : una + len ≤ all

record Numbered (o c f ends : Bool) (una len edge sent all : ℕ) : Type 0 where
  order : una ≤ sent
  written : WrittenAll c f ends una len sent all ⊎ Filled c f una len all
  flight : sent ≤ una + len + one_if f
  syn_unacked : o ≡ false → sent ≡ 0
  shut : o ≡ false → edge ≡ 0
  reach : edge ≤ una + 65535
  closes : f ≡ true → (c ≡ true) × (1 ≤ sent) × (len ≡ sent - 1 - una)

bytes_of : (f : Bool) (x y : ℕ) → f ≡ false → (if f then x else y) ≡ y
bytes_of f x y h = ap (λ v. if v then x else y) h

how_written : {State : Type 0} (service : Machine State) (p : Point) (s : Sending) → FinIsLast s → HasWrittenAll service p s ⊎ HasFilled service p s
    → WrittenAll s.closed s.fin_sent (answered_run service p).closed s.una (length s.held) s.sent (released service p)
    ⊎ Filled s.closed s.fin_sent s.una (length s.held) (released service p)
how_written service p s last (inl w) = inl (record { written = w.written; closed = w.closed })
how_written service p s last (inr w) =
    let unsent : s.fin_sent ≡ false = false_by s.fin_sent s.closed (λ h. (last h).0) w.open_still in
    inr (record {
      full = w.full;
      open_still = w.open_still;
      unsent = unsent;
      written = omega (arith, w.written, bytes_of s.fin_sent (s.sent - 1) (s.una + length s.held) unsent);
    })

-- up to the right edge, or less far
numbered : {State : Type 0} {service : Machine State} {news : News} {before after : Point} {u : Tcb} → Flushes service news before after u
    → (edge : ℕ) → edge ≤ u.sending.edge
    → Numbered u.sending.syn_acked u.sending.closed u.sending.fin_sent (answered_run service after).closed u.sending.una (length u.sending.held) edge
    u.sending.sent (released service after)
numbered {service = service} {after = after} {u = u} f edge within = record {
  order = f.bounds.order;
  written = how_written service after u.sending f.fin_last f.used.written;
  flight = f.bounds.flight;
  syn_unacked = f.bounds.syn_unacked;
  shut = λ h. omega (arith, f.bounds.shut h);
  reach = omega (arith, f.bounds.reach);
  closes = f.fin_last;
}

-- the bytes that are sent for the first time
all_bytes : (o c f : Bool) (una len edge sent all : ℕ) → all ≡ (if f then sent - 1 else una + len) → sent ≤ una + len + one_if f
    → (o ≡ false → sent ≡ 0) → (o ≡ false → edge ≡ 0) → (f ≡ true → 1 ≤ sent)
    → (if o && not f then min (una + len) edge - sent else 0) ≡ min (max sent (min (all + one_if c) edge)) all - sent
all_bytes false c f una len edge sent all w flight syn_unacked shut closes = omega (arith, syn_unacked refl, shut refl)
all_bytes true c true una len edge sent all w flight syn_unacked shut closes = omega (arith, w, closes refl)
all_bytes true c false una len edge sent all w flight syn_unacked shut closes = omega (arith, w, flight)

filled_bytes : (o c f : Bool) (una len edge sent all : ℕ) → f ≡ false → len ≡ 65535 → una + len ≤ all → edge ≤ una + 65535
    → (o ≡ false → sent ≡ 0) → (o ≡ false → edge ≡ 0)
    → (if o && not f then min (una + len) edge - sent else 0) ≡ min (max sent (min (all + one_if c) edge)) all - sent
filled_bytes false c f una len edge sent all none full w reach syn_unacked shut = omega (arith, syn_unacked refl, shut refl)
filled_bytes true c true una len edge sent all none full w reach syn_unacked shut = absurd (false≢true (sym none))
filled_bytes true c false una len edge sent all none full w reach syn_unacked shut = omega (arith, full, w, reach)

new_bytes : (o c f ends : Bool) (una len edge sent all : ℕ) → Numbered o c f ends una len edge sent all
    → (if o && not f then min (una + len) edge - sent else 0) ≡ min (max sent (min (all + one_if ends) edge)) all - sent
new_bytes o c f ends una len edge sent all n =
    ⊎_elim
    (λ w. all_bytes o ends f una len edge sent all w.written n.flight n.syn_unacked n.shut (λ h. (n.closes h).1))
    (λ w. filled_bytes o ends f una len edge sent all w.unsent w.full w.written n.reach n.syn_unacked n.shut)
    n.written

-- the FIN is sent for the first time
all_fin : (o c f : Bool) (una len edge sent all : ℕ) → all ≡ (if f then sent - 1 else una + len) → sent ≤ una + len + one_if f
    → (o ≡ false → sent ≡ 0) → (o ≡ false → edge ≡ 0) → (f ≡ true → 1 ≤ sent)
    → (o && c && not f && (sent + (if o && not f then min (una + len) edge - sent else 0) == una + len)
    && nat_lt (sent + (if o && not f then min (una + len) edge - sent else 0)) edge)
    ≡ (nat_lt all (max sent (min (all + one_if c) edge)) && nat_le sent all)
all_fin false c f una len edge sent all w flight syn_unacked shut closes = grind (arith, syn_unacked refl, shut refl)
all_fin true c true una len edge sent all w flight syn_unacked shut closes = grind (arith, w, closes refl)
all_fin true true false una len edge sent all w flight syn_unacked shut closes = grind (arith, w, flight)
all_fin true false false una len edge sent all w flight syn_unacked shut closes = grind (arith, w, flight)

no_fin_yet : (o c t u v : Bool) → c ≡ false → (o && c && t && u && v) ≡ false
no_fin_yet true true t u v h = absurd (false≢true (sym h))
no_fin_yet true false t u v h = refl
no_fin_yet false c t u v h = refl

-- no room after all output
within_all : (ends : Bool) (una len edge sent all : ℕ) → len ≡ 65535 → una + len ≤ all → edge ≤ una + 65535 → sent ≤ una + len
    → (nat_lt all (max sent (min (all + one_if ends) edge)) && nat_le sent all) ≡ false
within_all true una len edge sent all full w reach flight = grind arith
within_all false una len edge sent all full w reach flight = grind arith

sent_within : (f : Bool) (sent una len : ℕ) → f ≡ false → sent ≤ una + len + one_if f → sent ≤ una + len
sent_within true sent una len none h = absurd (false≢true (sym none))
sent_within false sent una len none h = omega (arith, h)

first_fin : (o c f ends : Bool) (una len edge sent all : ℕ) → Numbered o c f ends una len edge sent all
    → (o && c && not f && (sent + (if o && not f then min (una + len) edge - sent else 0) == una + len)
    && nat_lt (sent + (if o && not f then min (una + len) edge - sent else 0)) edge)
    ≡ (nat_lt all (max sent (min (all + one_if ends) edge)) && nat_le sent all)
first_fin o c f ends una len edge sent all n =
    let places : ℕ = sent + (if o && not f then min (una + len) edge - sent else 0) in
    ⊎_elim
    (λ w. all_fin o c f una len edge sent all w.written n.flight n.syn_unacked n.shut (λ h. (n.closes h).1)
    ∙ ap (λ v. nat_lt all (max sent (min (all + one_if v) edge)) && nat_le sent all) (sym w.closed))
    (λ w. no_fin_yet o c (not f) (places == una + len) (nat_lt places edge) w.open_still
    ∙ sym (within_all ends una len edge sent all w.full w.written n.reach (sent_within f sent una len w.unsent n.flight)))
    n.written

-- .. and where it is, it comes after all bytes
all_place : (o c f : Bool) (una len edge sent all : ℕ) → all ≡ (if f then sent - 1 else una + len) → una ≤ sent → sent ≤ una + len + one_if f
    → (o ≡ false → sent ≡ 0) → (o ≡ false → edge ≡ 0) → (f ≡ true → 1 ≤ sent)
    → (nat_lt all (max sent (min (all + one_if c) edge)) && nat_le sent all) ≡ true
    → all ≡ una + (sent + (if o && not f then min (una + len) edge - sent else 0) - una)
all_place false c f una len edge sent all w order flight syn_unacked shut closes h = grind (arith, syn_unacked refl, shut refl)
all_place true c true una len edge sent all w order flight syn_unacked shut closes h = grind (arith, w, closes refl)
all_place true true false una len edge sent all w order flight syn_unacked shut closes h = grind (arith, w, flight)
all_place true false false una len edge sent all w order flight syn_unacked shut closes h = grind (arith, w, flight)

fin_place : (o c f ends : Bool) (una len edge sent all : ℕ) → Numbered o c f ends una len edge sent all
    → (nat_lt all (max sent (min (all + one_if ends) edge)) && nat_le sent all) ≡ true
    → all ≡ una + (sent + (if o && not f then min (una + len) edge - sent else 0) - una)
fin_place o c f ends una len edge sent all n h =
    ⊎_elim
    (λ w. all_place o ends f una len edge sent all w.written n.order n.flight n.syn_unacked n.shut (λ k. (n.closes k).1) h)
    (λ w. absurd (false≢true (sym (within_all ends una len edge sent all w.full w.written n.reach (sent_within f sent una len w.unsent n.flight)) ∙ h)))
    n.written

-- what was sent and is unacknowledged: the FIN alone where no byte is held
all_last : (f : Bool) (una len sent all : ℕ) → all ≡ (if f then sent - 1 else una + len) → una ≤ sent → (f ≡ true → (1 ≤ sent) × (len ≡ sent - 1 - una))
    → nat_lt una sent ≡ true → (len == 0) ≡ (una == all)
all_last true una len sent all w order closes h = grind (arith, w, closes refl)
all_last false una len sent all w order closes h = grind (arith, w)

filled_last : (una len all : ℕ) → len ≡ 65535 → una + len ≤ all → (len == 0) ≡ (una == all)
filled_last una len all full w = grind arith

last_is_fin : (o c f ends : Bool) (una len edge sent all : ℕ) → Numbered o c f ends una len edge sent all → nat_lt una sent ≡ true → (len == 0) ≡ (una == all)
last_is_fin o c f ends una len edge sent all n h =
    ⊎_elim
    (λ w. all_last f una len sent all w.written n.order (λ k. ((n.closes k).1, (n.closes k).2)) h)
    (λ w. filled_last una len all w.full w.written)
    n.written

flying_fin : (f : Bool) (una len sent : ℕ) → sent ≤ una + len + one_if f → nat_lt una sent ≡ true → (len == 0) ≡ true → f ≡ true
flying_fin true una len sent flight h empty = refl
flying_fin false una len sent flight h empty = absurd (grind (arith, flight))

-- .. and then the service has closed
last_is_closed : (o c f ends : Bool) (una len edge sent all : ℕ) → Numbered o c f ends una len edge sent all → nat_lt una sent ≡ true → (len == 0) ≡ true → ends ≡ true
last_is_closed o c f ends una len edge sent all n h empty =
    let fin : f ≡ true = flying_fin f una len sent n.flight h empty in
    ⊎_elim (λ w. w.closed ∙ (n.closes fin).0) (λ w. absurd (false≢true (sym w.unsent ∙ fin))) n.written

first_is_closed : (ends : Bool) (edge sent all : ℕ) → (nat_lt all (max sent (min (all + one_if ends) edge)) && nat_le sent all) ≡ true → ends ≡ true
first_is_closed true edge sent all h = refl
first_is_closed false edge sent all h = absurd (grind (arith, h))

all_again : (f : Bool) (mss una len edge sent all : ℕ) → all ≡ (if f then sent - 1 else una + len) → una ≤ sent → (f ≡ true → (1 ≤ sent) × (len ≡ sent - 1 - una))
    → min mss (min (min (sent - una) len) (max 1 (edge - una))) ≡ min mss (min (min sent all - una) (max 1 (edge - una)))
all_again true mss una len edge sent all w order closes = omega (arith, w, closes refl)
all_again false mss una len edge sent all w order closes = omega (arith, w)

filled_again : (mss una len edge sent all : ℕ) → una + len ≤ all → sent ≤ una + len
    → min mss (min (min (sent - una) len) (max 1 (edge - una))) ≡ min mss (min (min sent all - una) (max 1 (edge - una)))
filled_again mss una len edge sent all w flight = omega (arith, w, flight)

retransmission_bytes : (o c f ends : Bool) (mss una len edge sent all : ℕ) → Numbered o c f ends una len edge sent all
    → min mss (min (min (sent - una) len) (max 1 (edge - una))) ≡ min mss (min (min sent all - una) (max 1 (edge - una)))
retransmission_bytes o c f ends mss una len edge sent all n =
    ⊎_elim
    (λ w. all_again f mss una len edge sent all w.written n.order (λ k. ((n.closes k).1, (n.closes k).2)))
    (λ w. filled_again mss una len edge sent all w.written (sent_within f sent una len w.unsent n.flight))
    n.written

-- the head: what is acknowledged, and the window
ack_number : (cisn irs upper fetched : ℕ) → irs ≡ (cisn + fetched) % 2 ^ 32 → number_at irs upper ≡ number_at cisn (upper + fetched)
ack_number cisn irs upper fetched h = omega (arith, h)

least_first : (m n : ℕ) → m ≤ n → m ≡ min m n
least_first m n h = omega arith

small_window : (r : Receiving) → window r ≡ min 65535 (window r)
small_window r = omega arith

-- what every segment tells: the numbers of the connection, and all that is taken
pub record Reports (p : Point) (u : Tcb) : Type 0 where
  pub ip : p.key.ip ≡ u.remote.ip
  pub port : p.key.port ≡ u.remote.port
  pub sisn : p.sisn ≡ u.sending.iss
  pub receives : ReceivesAt p u
  pub answered : taken_units p ≤ p.answered
  pub timestamping : p.timestamping ≡ Off

reports : {State : Type 0} {service : Machine State} {news : News} {before after : Point} {u : Tcb} → Flushes service news before after u → Reports after u
reports f = record { ip = f.ip; port = f.port; sisn = f.sends.sisn; receives = f.receives; answered = f.used.answered; timestamping = f.timestamping }

head_at_is : (p : Point) (u : Tcb) → Reports p u → (seq flags : ℕ) → head_at u seq flags ≡ model.head_to u.local p seq flags None
unfolding head_at
head_at_is p u t seq flags =
    let units : next u.receiving + p.fetched ≡ acknowledgement p = sym (next_is p u t.receives) ∙ least_first (taken_units p) p.answered t.answered in
    let ack : number_at u.receiving.irs (next u.receiving) ≡ number_at p.cisn (acknowledgement p) =
    ack_number p.cisn u.receiving.irs (next u.receiving) p.fetched t.receives.cisn ∙ ap (number_at p.cisn) units in
    let acked : taken_units p ≡ acknowledgement p = least_first (taken_units p) p.answered t.answered in
    let open_to : window u.receiving ≡ point.window p =
    small_window u.receiving ∙ ap (min 65535) (sym (window_is u.receiving) ∙ sym (room_is p u t.receives)) ∙ ap (λ n. min 65535 (point.advertised_edge p - n)) acked in
    λ i. record {
      src = u.local.ip;
      dst = sym t.ip i;
      sport = u.local.port;
      dport = sym t.port i;
      seq = seq;
      ack = ack i;
      flags = flags;
      window = open_to i;
      mss = None;
      timestamps = ap timestamps_sent (sym t.timestamping) i;
    }

head_is : {State : Type 0} {service : Machine State} {news : News} {before after : Point} {u : Tcb} → Flushes service news before after u
    → (seq flags : ℕ) → head_at u seq flags ≡ model.head_to u.local after seq flags None
head_is {after = after} {u = u} f seq flags = head_at_is after u (reports f) seq flags

-- the SYN-ACK
pub opening_at : (p : Point) (u : Tcb) → Reports p u → has_begun u.name ≡ true → opening_segment u ≡ model.syn_ack u.local p
unfolding opening_segment
opening_at p u t begun =
    ap (λ b. if b then record { head = record (head_at u u.sending.iss 2) { ack = 0; mss = Some 1460 }; payload = [] }
    else record { head = record (head_at u u.sending.iss 18) { mss = Some 1460 }; payload = [] }) (begun_answers u.name begun)
    ∙ (λ i. record { head = record (head_at_is p u t (sym t.sisn i) 18 i) { mss = Some 1460 }; payload = [] })

opening_is : {State : Type 0} {service : Machine State} {news : News} {before after : Point} {u : Tcb} → Flushes service news before after u
    → opening_segment u ≡ model.syn_ack u.local after
opening_is {after = after} {u = u} f = opening_at after u (reports f) f.begun

-- text at a place after what is acknowledged, within what is held
shorter_front : (n k : ℕ) (xs : List ℕ) → take n (take (n + k) xs) ≡ take n xs
shorter_front n k xs = take-take n (n + k) xs (omega arith)

part_of_front : (place n l : ℕ) (xs held : List ℕ) → take l xs ≡ held → place + n ≤ l → take n (drop place held) ≡ take n (drop place xs)
part_of_front place n l xs held is within =
    let whole : l ≡ place + (n + (l - place - n)) = omega (arith, within) in
    ap (λ ys. take n (drop place ys)) (sym is) ∙ ap (λ k. take n (drop place (take k xs))) whole
    ∙ ap (take n) (drop-take place (n + (l - place - n)) xs) ∙ shorter_front n (l - place - n) (drop place xs)

text_is : {State : Type 0} {service : Machine State} {news : News} {before after : Point} {u : Tcb} → Flushes service news before after u
    → (place offset n : ℕ) → u.sending.una + place ≡ offset → place + n ≤ length u.sending.held → text_at u place n ≡ model.text_at service u.local after offset n
unfolding text_at
text_is {service = service} {after = after} {u = u} f place offset n h within =
    let out : List ℕ = (answered_run service after).output in
    let behind : take n (drop place u.sending.held) ≡ take n (drop offset out) =
    part_of_front place n (length u.sending.held) (drop u.sending.una out) u.sending.held f.used.output within
    ∙ ap (take n) (drop-drop place u.sending.una out) ∙ ap (λ k. take n (drop k out)) h in
    λ i. record { head = head_is f (number_at (sym f.sends.sisn i) (h i)) 16 i; payload = behind i }

-- the FIN after all bytes
fin_is : {State : Type 0} {service : Machine State} {news : News} {before after : Point} {u : Tcb} → Flushes service news before after u
    → (place : ℕ) → u.sending.una + place ≡ released service after → fin_at u place ≡ model.fin_segment service u.local after
unfolding fin_at
fin_is {u = u} f place h = λ i. record { head = head_is f (number_at (sym f.sends.sisn i) (h i)) 17 i; payload = [] }

-- the laws let it go out only where the service has closed
closed_fin : {State : Type 0} (service : Machine State) (server : Addr) (p : Point) → (answered_run service p).closed ≡ true
    → model.fin_segment service server p ∷ [] ≡ model.fin_if_closed service server p
closed_fin service server p closed = ap (λ b. if b then model.fin_segment service server p ∷ [] else []) (sym closed)

-- segment by segment
text_or_none : (k left : ℕ) (xs ys : List Segment) (x y : Segment) → (nat_lt 0 left ≡ true → x ∷ xs ≡ y ∷ ys) → (if nat_lt 0 left then x ∷ xs else []) ≡ (if nat_lt 0 left then y ∷ ys else [])
text_or_none k left xs ys x y same = if_when (nat_lt 0 left) (x ∷ xs) (y ∷ ys) [] [] same (λ h. refl)

texts_are : {State : Type 0} {service : Machine State} {news : News} {before after : Point} {u : Tcb} → Flushes service news before after u
    → (k place offset left : ℕ) → u.sending.una + place ≡ offset → (0 < left → place + left ≤ length u.sending.held)
    → texts k u place left ≡ model.texts service u.local after k offset left
unfolding texts
texts_are f zero place offset left h within = refl
texts_are {service = service} {after = after} {u = u} f (suc k) place offset left h within =
    let mss : u.sending.mss ≡ after.mss = sym f.sends.mss in
    let n : ℕ = min left u.sending.mss in
    let further : u.sending.una + (place + n) ≡ offset + n = omega (arith, h) in
    text_or_none k left (texts k u (place + n) (left - n)) (model.texts service u.local after k (offset + n) (left - n)) (text_at u place n) (model.text_at service u.local after offset n)
    (λ some. let more : place + left ≤ length u.sending.held = within (grind (arith, some)) in
    λ i. text_is f place offset n h (omega (arith, more)) i ∷ texts_are f k (place + n) (offset + n) (left - n) further (λ rest. omega (arith, more)) i)
    ∙ (λ i. if nat_lt 0 left
    then model.text_at service u.local after offset (min left (mss i)) ∷ model.texts service u.local after k (offset + min left (mss i)) (left - min left (mss i))
    else [])

-- something sent is unacknowledged: the SYN, or else text or the FIN
waiting : (o b : Bool) → (not o || b) ≡ true → not o ≡ false → b ≡ true
waiting true b h is = h
waiting false b h is = absurd (false≢true (sym is))

same_place : (una all : ℕ) → (una == all) ≡ true → una + 0 ≡ all
same_place una all h = grind arith

waits_here : {State : Type 0} {service : Machine State} {news : News} {before after : Point} {u : Tcb} → Flushes service news before after u
    → waits_for_ack before after ≡ true → is_unacknowledged u.sending ≡ true
waits_here f waits = (λ i. not (sym f.sends.syn_acked i) || nat_lt (sym f.sends.una i) (sym f.sent i)) ∙ waits

one_when : (b : Bool) (x y : Segment) (xs ys : List Segment) → (b ≡ true → x ∷ [] ≡ xs) → (b ≡ false → y ∷ [] ≡ ys)
    → (if b then x else y) ∷ [] ≡ (if b then xs else ys)
one_when true x y xs ys p q = p refl
one_when false x y xs ys p q = q refl

-- what goes out again
retransmission_is : {State : Type 0} {service : Machine State} {news : News} {before after : Point} {u : Tcb} → Flushes service news before after u
    → waits_for_ack before after ≡ true → retransmitted_segment u ∷ [] ≡ model.first_unacknowledged service u.local before after
unfolding retransmitted_segment
retransmission_is {service = service} {before = before} {after = after} {u = u} f waits =
    let s : Sending = u.sending in
    let all : ℕ = released service after in
    let ends : Bool = (answered_run service after).closed in
    let n : Numbered s.syn_acked s.closed s.fin_sent ends s.una (length s.held) s.edge s.sent all = numbered f s.edge (omega arith) in
    let retransmission_length : resent_length s ≡ model.resent_length service before after =
    retransmission_bytes s.syn_acked s.closed s.fin_sent ends s.mss s.una (length s.held) s.edge s.sent all n
    ∙ (λ i. min (sym f.sends.mss i) (min (min (sym f.sent i) all - sym f.sends.una i) (max 1 (sym f.sends.edge i - sym f.sends.una i)))) in
    let flies : not s.syn_acked ≡ false → nat_lt s.una s.sent ≡ true = waiting s.syn_acked (nat_lt s.una s.sent) (waits_here f waits) in
    let last : not s.syn_acked ≡ false → (length s.held == 0) ≡ (s.una == all) =
    λ o. last_is_fin s.syn_acked s.closed s.fin_sent ends s.una (length s.held) s.edge s.sent all n (flies o) in
    let fin : List Segment = model.fin_if_closed service u.local after in
    let text : List Segment = model.text_at service u.local after after.una (model.resent_length service before after) ∷ [] in
    one_when (not s.syn_acked) (opening_segment u) (if length s.held == 0 then fin_at u 0 else text_at u 0 (resent_length s))
    (model.syn_ack u.local after ∷ []) (if after.una == all then fin else text) (λ h i. opening_is f i ∷ [])
    (λ o. one_when (length s.held == 0) (fin_at u 0) (text_at u 0 (resent_length s)) fin text
    (λ h. (λ i. fin_is f 0 (same_place s.una all (sym (last o) ∙ h)) i ∷ [])
    ∙ closed_fin service u.local after (last_is_closed s.syn_acked s.closed s.fin_sent ends s.una (length s.held) s.edge s.sent all n (flies o) h))
    (λ h. ap (λ segment. segment ∷ [])
    (text_is f 0 after.una (resent_length s) (omega (arith, f.sends.una)) (omega arith) ∙ ap (λ m. model.text_at service u.local after after.una m) retransmission_length))
    ∙ ap (λ b. if b then fin else text) (last o ∙ ap (λ k. k == all) (sym f.sends.una)))
    ∙ ap (λ b. if not b then model.syn_ack u.local after ∷ [] else (if after.una == all then fin else text)) (sym f.sends.syn_acked)

-- new text is held
held_by : (o f : Bool) (una len edge sent : ℕ) → una ≤ sent → 0 < (if o && not f then min (una + len) edge - sent else 0)
    → sent - una + (if o && not f then min (una + len) edge - sent else 0) ≤ len
held_by true true una len edge sent order some = absurd (omega (arith, some))
held_by true false una len edge sent order some = omega (arith, order, some)
held_by false f una len edge sent order some = absurd (omega (arith, some))

held_on : (begun : Bool) (s : Sending) → s.una ≤ s.sent → 0 < (if begun then sendable s else 0) → s.sent - s.una + (if begun then sendable s else 0) ≤ length s.held
held_on true s order some = held_by s.syn_acked s.fin_sent s.una (length s.held) (send_edge s) s.sent order some
held_on false s order some = absurd (omega (arith, some))

up_to_is : {State : Type 0} {service : Machine State} {news : News} {before after : Point} {u : Tcb} → Flushes service news before after u
    → send_edge u.sending ≡ sender.send_edge after
up_to_is f = λ i. min (sym f.sends.edge i) (sym f.sends.una i + (sym f.sends.congestion i).cwnd)

-- what is sent for the first time, where nothing is probed
text_out_is : {State : Type 0} {service : Machine State} {news : News} {before after : Point} {u : Tcb} → Flushes service news before after u
    → text_out u ≡ model.new_texts service u.local before after
unfolding text_out model.new_texts sender.sent_at_once
text_out_is {service = service} {before = before} {after = after} {u = u} f =
    let s : Sending = u.sending in
    let all : ℕ = released service after in
    let up_to : send_edge s ≡ sender.send_edge after = up_to_is f in
    let bytes : new_length u ≡ model.new_length service before after =
    ap (λ b. if b then sendable s else 0) f.begun
    ∙ new_bytes s.syn_acked s.closed s.fin_sent (answered_run service after).closed s.una (length s.held) (send_edge s) s.sent all
    (numbered f (send_edge s) (omega arith))
    ∙ (λ i. min (max (sym f.sent i) (min (all + one_if (answered_run service after).closed) (up_to i))) all - sym f.sent i) in
    texts_are f (new_length u) (s.sent - s.una) before.sent (new_length u) (omega (arith, f.bounds.order, f.sent)) (held_on (has_begun u.name) s f.bounds.order)
    ∙ (λ i. model.texts service u.local after (bytes i) before.sent (bytes i))

fin_out_is : {State : Type 0} {service : Machine State} {news : News} {before after : Point} {u : Tcb} → Flushes service news before after u
    → fin_out (with_text_sent u) ≡ model.new_fin service u.local before after
unfolding fin_out fin_at head_at with_text_sent model.new_fin sender.sent_at_once
fin_out_is {service = service} {before = before} {after = after} {u = u} f =
    let s : Sending = u.sending in
    let all : ℕ = released service after in
    let ends : Bool = (answered_run service after).closed in
    let e : ℕ = send_edge s in
    let up_to : e ≡ sender.send_edge after = up_to_is f in
    let n : Numbered s.syn_acked s.closed s.fin_sent ends s.una (length s.held) e s.sent all = numbered f e (omega arith) in
    let bytes : new_length u ≡ sendable s = ap (λ b. if b then sendable s else 0) f.begun in
    let fin : List Segment = model.fin_if_closed service u.local after in
    let test : Bool = nat_lt all (max s.sent (min (all + one_if ends) e)) && nat_le s.sent all in
    ap (λ b. if b then fin_at (with_text_sent u) (s.sent + new_length u - s.una) ∷ [] else [])
    ((λ i. f.begun i && sends_fin (with_sent s (bytes i))) ∙ first_fin s.syn_acked s.closed s.fin_sent ends s.una (length s.held) e s.sent all n)
    ∙ if_when test (fin_at (with_text_sent u) (s.sent + new_length u - s.una) ∷ []) fin [] []
    (λ h. (λ i. fin_is f (s.sent + new_length u - s.una)
    (ap (λ k. s.una + (s.sent + k - s.una)) bytes ∙ sym (fin_place s.syn_acked s.closed s.fin_sent ends s.una (length s.held) e s.sent all n h)) i ∷ [])
    ∙ closed_fin service u.local after (first_is_closed ends e s.sent all h))
    (λ h. refl)
    ∙ (λ i. if nat_lt all (max (sym f.sent i) (min (all + one_if ends) (up_to i))) && nat_le (sym f.sent i) all then fin else [])

-- what the endpoint's timer makes it send
no_retransmission : (u : Tcb) → u.retransmission_due ≡ false → retransmission_out u ≡ []
unfolding retransmission_out
no_retransmission u is = ap (λ b. if b && not (is_closed u.name) && is_unacknowledged u.sending then retransmitted_segment u ∷ [] else []) is

pub one_retransmission : (u : Tcb) → has_begun u.name ≡ true → u.retransmission_due ≡ true → is_unacknowledged u.sending ≡ true → retransmission_out u ≡ retransmitted_segment u ∷ []
unfolding retransmission_out
one_retransmission u begun is waits = λ i. if is i && not (begun_open u.name begun i) && waits i then retransmitted_segment u ∷ [] else []

pub no_text_probe : (u : Tcb) → u.probe ≡ false → probes_text u ≡ false
no_text_probe u is = ap (λ b. b && has_begun u.name && u.sending.syn_acked && not u.sending.fin_sent && nat_lt (u.sending.sent - u.sending.una) (length u.sending.held)) is

pub no_fin_probe : (u : Tcb) → u.probe ≡ false → probes_fin u ≡ false
no_fin_probe u is =
    ap (λ b. b && has_begun u.name && u.sending.syn_acked && not u.sending.fin_sent && not (nat_lt (u.sending.sent - u.sending.una) (length u.sending.held)) && u.sending.closed) is

pub probe_by : (u : Tcb) (pt pf : Bool) → probes_text u ≡ pt → probes_fin u ≡ pf
    → probe_out u
    ≡ (if pt then text_at u (u.sending.sent - u.sending.una) 1 ∷ [] else (if pf then fin_at u (u.sending.sent - u.sending.una) ∷ [] else []))
unfolding probe_out
probe_by u pt pf text fin = λ i.
    if text i then text_at u (u.sending.sent - u.sending.una) 1 ∷ [] else (if fin i then fin_at u (u.sending.sent - u.sending.una) ∷ [] else [])

pub unprobed : (u : Tcb) → u.probe ≡ false → with_probe u ≡ u
unfolding with_probe
unprobed u is = λ i. record u {
  sending = if no_text_probe u is i then with_sent u.sending 1 else (if no_fin_probe u is i then with_fin_sent u.sending else u.sending);
}

-- below an edge that leaves no room nothing is sent for the first time, ..
no_room : (g o f : Bool) (una len edge sent : ℕ) → edge ≤ sent → (if g then (if o && not f then min (una + len) edge - sent else 0) else 0) ≡ 0
no_room false o f una len edge sent h = refl
no_room true false f una len edge sent h = refl
no_room true true true una len edge sent h = refl
no_room true true false una len edge sent h = omega arith

no_room_fin : (g t : Bool) (sent n edge : ℕ) → edge ≤ sent → (g && (t && nat_lt (sent + n) edge)) ≡ false
no_room_fin false t sent n edge h = refl
no_room_fin true false sent n edge h = refl
no_room_fin true true sent n edge h = grind arith

pub no_text_out : (v : Tcb) → v.sending.edge ≤ v.sending.sent → text_out v ≡ []
unfolding text_out texts
no_text_out v h =
    let none : new_length v ≡ 0 =
    no_room (has_begun v.name) v.sending.syn_acked v.sending.fin_sent v.sending.una (length v.sending.held) (send_edge v.sending) v.sending.sent
    (omega (arith, h)) in
    λ i. texts (none i) v (v.sending.sent - v.sending.una) (none i)

pub no_fin_out : (v : Tcb) → v.sending.edge ≤ v.sending.sent → fin_out (with_text_sent v) ≡ []
unfolding fin_out with_text_sent
no_fin_out v h =
    let s : Sending = v.sending in
    ap (λ b. if b then fin_at (with_text_sent v) (s.sent + new_length v - s.una) ∷ [] else [])
    (no_room_fin (has_begun v.name) (s.syn_acked && s.closed && not s.fin_sent && (s.sent + new_length v == s.una + length s.held)) s.sent (new_length v)
    (send_edge s) (omega (arith, h)))

-- .. by the laws too
no_new_bytes : (all goal edge sent : ℕ) → edge ≤ sent → min (max sent (min goal edge)) all - sent ≡ 0
no_new_bytes all goal edge sent h = omega arith

no_first_fin : (all goal edge sent : ℕ) → edge ≤ sent → (nat_lt all (max sent (min goal edge)) && nat_le sent all) ≡ false
no_first_fin all goal edge sent h = grind arith

no_new_texts : {State : Type 0} (service : Machine State) (server : Addr) (before after : Point) → after.edge ≤ before.sent
    → model.new_texts service server before after ≡ []
unfolding model.new_texts sender.sent_at_once
no_new_texts service server before after h =
    let none : model.new_length service before after ≡ 0 =
    no_new_bytes (released service after) (target service after) (sender.send_edge after) before.sent (omega (arith, h)) in
    λ i. model.texts service server after (none i) before.sent (none i)

no_new_fin : {State : Type 0} (service : Machine State) (server : Addr) (before after : Point) → after.edge ≤ before.sent
    → model.new_fin service server before after ≡ []
unfolding model.new_fin sender.sent_at_once
no_new_fin service server before after h =
    ap (λ b. if b then model.fin_if_closed service server after else [])
    (no_first_fin (released service after) (target service after) (sender.send_edge after) before.sent (omega (arith, h)))

-- a step of a flush, by what it keeps
kept_if : (P : Sending → Type 0) (b : Bool) (x y : Sending) → P x → P y → P (if b then x else y)
kept_if P true x y p q = p
kept_if P false x y p q = q

shut_still : (u : Tcb) → u.sending.edge ≤ u.sending.sent → (with_probe u).sending.edge ≤ (with_probe u).sending.sent
unfolding with_probe
shut_still u h =
    let P : Sending → Type 0 = λ s. s.edge ≤ s.sent in
    let more : u.sending.edge ≤ u.sending.sent + 1 = omega (arith, h) in
    kept_if P (probes_text u) (with_sent u.sending 1) (if probes_fin u then with_fin_sent u.sending else u.sending) more
    (kept_if P (probes_fin u) (with_fin_sent u.sending) u.sending more h)

pub kept : (P : Sending → Type 0) → ((t : Sending) (k : ℕ) → P t → P (with_sent t k)) → ((t : Sending) → P t → P (with_fin_sent t))
    → (begun pt pf : Bool) (s : Sending) → P s → P (after_steps begun pt pf s)
kept P more fin begun pt pf s h =
    let probed : Sending = if pt then with_sent s 1 else (if pf then with_fin_sent s else s) in
    let texted : Sending = with_sent probed (if begun then sendable probed else 0) in
    let kept_texted : P texted =
    more probed (if begun then sendable probed else 0)
    (kept_if P pt (with_sent s 1) (if pf then with_fin_sent s else s) (more s 1 h) (kept_if P pf (with_fin_sent s) s (fin s h) h)) in
    kept_if P (begun && sends_fin texted) (with_fin_sent texted) texted (fin texted kept_texted) kept_texted

-- the probe: a byte, or the FIN where no byte waits
probe_test : (una len sent all : ℕ) → una ≡ sent → all ≡ una + len → nat_lt (sent - una) len ≡ nat_lt sent all
probe_test una len sent all is h = grind arith

filled_test : (una len sent all : ℕ) → una ≡ sent → len ≡ 65535 → una + len ≤ all → nat_lt (sent - una) len ≡ nat_lt sent all
filled_test una len sent all is full w = grind arith

probe_waits : {State : Type 0} (service : Machine State) (p : Point) (s : Sending) → s.una ≡ s.sent → s.fin_sent ≡ false → HasWrittenAll service p s ⊎ HasFilled service p s
    → nat_lt (s.sent - s.una) (length s.held) ≡ nat_lt s.sent (released service p)
probe_waits service p s is unsent (inl w) =
    probe_test s.una (length s.held) s.sent (released service p) is (w.written ∙ bytes_of s.fin_sent (s.sent - 1) (s.una + length s.held) unsent)
probe_waits service p s is unsent (inr w) =
    filled_test s.una (length s.held) s.sent (released service p) is w.full (omega (arith, w.written, bytes_of s.fin_sent (s.sent - 1) (s.una + length s.held) unsent))

probe_place : {State : Type 0} (service : Machine State) (p : Point) (s : Sending) → s.una ≡ s.sent → length s.held ≡ 0 → s.fin_sent ≡ false
    → HasWrittenAll service p s ⊎ HasFilled service p s → s.una + (s.sent - s.una) ≡ released service p
probe_place service p s is none unsent (inl w) =
    omega (arith, is, none, w.written ∙ bytes_of s.fin_sent (s.sent - 1) (s.una + length s.held) unsent)
probe_place service p s is none unsent (inr w) = absurd (omega (arith, none, w.full))

probe_closed : {State : Type 0} (service : Machine State) (p : Point) (s : Sending) → length s.held ≡ 0 → s.closed ≡ true
    → HasWrittenAll service p s ⊎ HasFilled service p s → (answered_run service p).closed ≡ true
probe_closed service p s empty closes (inl w) = w.closed ∙ closes
probe_closed service p s empty closes (inr w) = absurd (omega (arith, empty, w.full))

probed_is : {State : Type 0} {service : Machine State} {news : News} {before after : Point} {u : Tcb} → Flushes service news before after u
    → (t : Bool) → u.probe ≡ true → nat_lt (u.sending.sent - u.sending.una) (length u.sending.held) ≡ t
    → probe_out u ≡ model.probe service u.local before after
probed_is {service = service} {before = before} {after = after} {u = u} f true is waits =
    let s : Sending = u.sending in
    let all : ℕ = released service after in
    let unsent : s.fin_sent ≡ false = fin_unsent s.fin_sent s.closed s.una (length s.held) s.sent (f.probes.all_acked is) (f.probes.waits is) in
    let on : probes u ≡ true = probing u f.begun (f.probes.syn_acked is) unsent is in
    let text : probes_text u ≡ true = ap (λ b. b && nat_lt (s.sent - s.una) (length s.held)) on ∙ waits in
    let test : nat_lt before.sent all ≡ true = ap (λ k. nat_lt k all) f.sent ∙ sym (probe_waits service after s (f.probes.all_acked is) unsent f.used.written) ∙ waits in
    probe_by u true (probes_fin u) text refl
    ∙ (λ i. text_is f (s.sent - s.una) before.sent 1 (omega (arith, f.bounds.order, f.sent)) (grind (arith, waits)) i ∷ [])
    ∙ ap (λ b. if b then model.text_at service u.local after before.sent 1 ∷ [] else model.fin_if_closed service u.local after) (sym test)
probed_is {service = service} {before = before} {after = after} {u = u} f false is waits =
    let s : Sending = u.sending in
    let all : ℕ = released service after in
    let unsent : s.fin_sent ≡ false = fin_unsent s.fin_sent s.closed s.una (length s.held) s.sent (f.probes.all_acked is) (f.probes.waits is) in
    let none : length s.held ≡ 0 = nothing_held s.una s.sent (length s.held) (f.probes.all_acked is) waits in
    let closes : s.closed ≡ true = waits_fin s.fin_sent s.closed s.una (length s.held) s.sent (f.probes.all_acked is) (f.probes.waits is) none in
    let on : probes u ≡ true = probing u f.begun (f.probes.syn_acked is) unsent is in
    let no_text : probes_text u ≡ false = ap (λ b. b && nat_lt (s.sent - s.una) (length s.held)) on ∙ waits in
    let fin : probes_fin u ≡ true =
    ap (λ b. b && not (nat_lt (s.sent - s.una) (length s.held)) && s.closed) on ∙ ap (λ b. true && not b && s.closed) waits ∙ closes in
    let test : nat_lt before.sent all ≡ false = ap (λ k. nat_lt k all) f.sent ∙ sym (probe_waits service after s (f.probes.all_acked is) unsent f.used.written) ∙ waits in
    let place : s.una + (s.sent - s.una) ≡ all = probe_place service after s (f.probes.all_acked is) none unsent f.used.written in
    probe_by u false true no_text fin
    ∙ (λ i. fin_is f (s.sent - s.una) place i ∷ [])
    ∙ closed_fin service u.local after (probe_closed service after s none closes f.used.written)
    ∙ ap (λ b. if b then model.text_at service u.local after before.sent 1 ∷ [] else model.fin_if_closed service u.local after) (sym test)

-- what the laws want of the timer, and of an acknowledgement that shows a loss
resent_by : {State : Type 0} (service : Machine State) (server : Addr) (news : News) (before after : Point) (x t w : Bool)
    → expires news before ≡ x → sender.resends news before ≡ t → waits_for_ack before after ≡ w
    → model.resent service server news before after
    ≡ (if x || t then (if w then model.first_unacknowledged service server before after else model.probe service server before after) else [])
unfolding model.resent
resent_by service server news before after x t w expiry again wait = λ i.
    if expiry i || again i then (if wait i then model.first_unacknowledged service server before after else model.probe service server before after) else []

-- the parts of what leaves, in order
pub full_out_is : (a b c d e a' r d' e' : List Segment) → a ≡ a' → b ++ c ≡ r → d ≡ d' → e ≡ e' → a ++ b ++ c ++ d ++ e ≡ a' ++ (r ++ (d' ++ e'))
full_out_is a b c d e a' r d' e' p q s t =
    let apart : a ++ b ++ c ++ d ++ e ≡ a ++ ((b ++ c) ++ (d ++ e)) = simp append_assoc in
    apart ∙ (λ i. p i ++ (q i ++ (s i ++ t i)))

retransmission_now : {State : Type 0} {service : Machine State} {news : News} {before after : Point} {u : Tcb} → Flushes service news before after u
    → (x t w : Bool) → expires news before ≡ x → sender.resends news before ≡ t → waits_for_ack before after ≡ w → (x || t) ≡ true → w ≡ true
    → retransmission_out u ≡ model.resent service u.local news before after
retransmission_now {service = service} {news = news} {before = before} {after = after} {u = u} f x t w expiry again wait due waits =
    one_retransmission u f.begun (f.retransmission_due ∙ (λ i. (expiry i || again i) && wait i) ∙ (λ i. due i && waits i)) (waits_here f (wait ∙ waits)) ∙ retransmission_is f (wait ∙ waits)
    ∙ (λ i. if sym due i
    then (if sym waits i then model.first_unacknowledged service u.local before after else model.probe service u.local before after)
    else [])
    ∙ sym (resent_by service u.local news before after x t w expiry again wait)

-- a turn without a probe
retransmission_by : {State : Type 0} {service : Machine State} {news : News} {before after : Point} {u : Tcb} → Flushes service news before after u
    → (x t w : Bool) → expires news before ≡ x → sender.resends news before ≡ t → waits_for_ack before after ≡ w → (x && not w) ≡ false
    → retransmission_out u ≡ model.resent service u.local news before after
retransmission_by {service = service} {news = news} {before = before} {after = after} {u = u} f false false w expiry again wait unprobed =
    no_retransmission u (f.retransmission_due ∙ (λ i. (expiry i || again i) && waits_for_ack before after))
    ∙ sym (resent_by service u.local news before after false false w expiry again wait)
retransmission_by {service = service} {news = news} {before = before} {after = after} {u = u} f false true w expiry again wait unprobed =
    retransmission_now f false true w expiry again wait refl (sym wait ∙ f.resends again)
retransmission_by f true t true expiry again wait unprobed = retransmission_now f true t true expiry again wait refl refl
retransmission_by f true t false expiry again wait unprobed = absurd (false≢true (sym unprobed))

unprobed_is : {State : Type 0} {service : Machine State} {news : News} {before after : Point} {u : Tcb} → Flushes service news before after u
    → (x t w : Bool) → expires news before ≡ x → sender.resends news before ≡ t → waits_for_ack before after ≡ w → (x && not w) ≡ false
    → full_out u ≡ refusals u.local news before ++ (model.resent service u.local news before after ++ (model.new_texts service u.local before after ++ model.new_fin service u.local before after))
unfolding full_out
unprobed_is {service = service} {news = news} {before = before} {after = after} {u = u} f x t w expiry again wait unprobed_here =
    let probe : u.probe ≡ false = f.probe ∙ (λ i. expiry i && not (wait i)) ∙ unprobed_here in
    full_out_is (reset_reply_out u) (retransmission_out u) (probe_out u) (text_out (with_probe u)) (fin_out (with_text_sent (with_probe u)))
    (refusals u.local news before) (model.resent service u.local news before after) (model.new_texts service u.local before after) (model.new_fin service u.local before after)
    f.reset_reply
    (ap (λ l. retransmission_out u ++ l) (probe_by u false false (no_text_probe u probe) (no_fin_probe u probe)) ∙ append-nil (retransmission_out u)
    ∙ retransmission_by f x t w expiry again wait unprobed_here)
    (ap text_out (unprobed u probe) ∙ text_out_is f)
    (ap (λ v. fin_out (with_text_sent v)) (unprobed u probe) ∙ fin_out_is f)

-- .. and one with a probe, in which nothing is sent for the first time
full_by : {State : Type 0} {service : Machine State} {news : News} {before after : Point} {u : Tcb} → Flushes service news before after u
    → (x t w : Bool) → expires news before ≡ x → sender.resends news before ≡ t → waits_for_ack before after ≡ w
    → full_out u ≡ refusals u.local news before ++ (model.resent service u.local news before after ++ (model.new_texts service u.local before after ++ model.new_fin service u.local before after))
unfolding full_out
full_by f false t w expiry again wait = unprobed_is f false t w expiry again wait refl
full_by f true t true expiry again wait = unprobed_is f true t true expiry again wait refl
full_by {service = service} {news = news} {before = before} {after = after} {u = u} f true t false expiry again wait =
    let retransmission_due : u.retransmission_due ≡ false = f.retransmission_due ∙ (λ i. (expiry i || again i) && wait i) in
    let probe : u.probe ≡ true = f.probe ∙ (λ i. expiry i && not (wait i)) in
    let shut : u.sending.edge ≤ u.sending.sent = f.probes.shut probe in
    let still : (with_probe u).sending.edge ≤ (with_probe u).sending.sent = shut_still u shut in
    let shut_there : after.edge ≤ before.sent = omega (arith, shut, f.sends.edge, f.sent) in
    full_out_is (reset_reply_out u) (retransmission_out u) (probe_out u) (text_out (with_probe u)) (fin_out (with_text_sent (with_probe u)))
    (refusals u.local news before) (model.resent service u.local news before after) (model.new_texts service u.local before after) (model.new_fin service u.local before after)
    f.reset_reply
    ((λ i. no_retransmission u retransmission_due i ++ probed_is f (nat_lt (u.sending.sent - u.sending.una) (length u.sending.held)) probe refl i)
    ∙ sym (resent_by service u.local news before after true t false expiry again wait))
    (no_text_out (with_probe u) still ∙ sym (no_new_texts service u.local before after shut_there))
    (no_fin_out (with_probe u) still ∙ sym (no_new_fin service u.local before after shut_there))

-- all that leaves but for a bare segment
pub full_is : {State : Type 0} (service : Machine State) (news : News) (before after : Point) (u : Tcb) → Flushes service news before after u
    → full_out u ≡ refusals u.local news before ++ (model.resent service u.local news before after ++ (model.new_texts service u.local before after ++ model.new_fin service u.local before after))
full_is service news before after u f = full_by f (expires news before) (sender.resends news before) (waits_for_ack before after) refl refl refl

-- a bare segment stands at the end of what is sent
pub bare_is : {State : Type 0} (service : Machine State) (news : News) (before after : Point) (u : Tcb) → Flushes service news before after u
    → after.sent ≡ (after_full u).sending.sent → bare_segment (after_full u) ≡ model.bare_segment u.local after
unfolding bare_segment head_at after_full with_timed with_fin_out with_text_sent with_probe
bare_is service news before after u f sent =
    let s : Sending = after_steps (has_begun u.name) (probes_text u) (probes_fin u) u.sending in
    let iss : s.iss ≡ after.sisn = kept (λ t. t.iss ≡ u.sending.iss) (λ t k h. h) (λ t h. h) (has_begun u.name) (probes_text u) (probes_fin u) u.sending refl ∙ sym f.sends.sisn in
    let order : s.una ≤ s.sent =
    kept (λ t. t.una ≤ t.sent) (λ t k h. omega (arith, h)) (λ t h. omega (arith, h)) (has_begun u.name) (probes_text u) (probes_fin u) u.sending f.bounds.order in
    let place : s.una + (s.sent - s.una) ≡ after.sent = omega (arith, order, sent) in
    λ i. record { head = head_is f (number_at (iss i) (place i)) 16 i; payload = [] }
