-- A segment comes to an established connection: the client machine receives what its TCP does.
use Rattle.std.proofs.Common.{◌≡◌, ℕ, ◌≤◌, ◌+◌, ◌-◌, Bool, true, false, List, ◌++◌, length, length-append, take, drop, drop-drop, refl, sym, ap, subst, arith, ◌∙◌}
use Rattle.std.specs.Prelude.{ℤ, pos, ◌&&◌, nat_abs, int_lt, int_le, if◌then◌else◌}
use Rattle.std.proofs.lemmas.Int.{ints}
use Rattle.std.proofs.lemmas.Bool.{false≢true}
use Rattle.std.proofs.lemmas.List.{drop-append-le}
use Rattle.tcp_rules.specs.Arrival.{is_new_ack}
use Rattle.tcp_rules.specs.Coming.{Came, StandsBehind, comes}
use Rattle.tcp_rules.specs.Congestion.{Congestion}
use Rattle.tcp_rules.specs.Timing.{Timing}
use Rattle.tcp_rules.proofs.Coming.{comes_within, fin_stays, stays_behind}
use Rattle.tcp_endpoint.specs.ReceiveHalf.{Receiving, taken, receive_edge, came, with_came, with_segment}
use Rattle.tcp_endpoint.specs.SendHalf.{Sending, acknowledged, moves_edge}
use Rattle.ft_model.specs.Client as machine
use Rattle.ft_model.specs.Client.{Client, is_ended, is_open, holds}
use Rattle.ft_model.specs.Client.ClientKind.{Live}
use Rattle.ft_model.specs.declared.phase.Phase.{Phase}
use Rattle.ft_model.specs.declared.phase.Phase.TheVariants.{Ended}
use Rattle.peer_client.specs.Refinement.{OnReceipt, Sends}
use Rattle.ft_io.proofs.Booleans.{left_true, right_true, false_by}
use Rattle.endpoint_laws.proofs.Bounding.{new_within}
use Rattle.ft_io.proofs.Choices.{holds_if}

-- two choices by the same test
pub both_if : {X Y : Type 0} (P : X → Y → Type 0) (b b' : Bool) (x y : X) (x' y' : Y) → b ≡ b' → (b ≡ true → P x x') → (b ≡ false → P y y')
    → P (if b then x else y) (if b' then x' else y')
both_if P true true x y x' y' same on off = on refl
both_if P true false x y x' y' same on off = absurd (false≢true (sym same))
both_if P false true x y x' y' same on off = absurd (false≢true same)
both_if P false false x y x' y' same on off = off refl

-- what text and FIN make of the receiving half and of the machine
pub record Receipt (r : Receiving) (d : Client) (r' : Receiving) (d' : Client) : Type 0 where
  pub on_receipt : OnReceipt r' d'
  pub read : r'.read ≡ r.read
  pub limit : r'.limit ≡ r.limit
  pub grows : taken r ≤ taken r'
  pub keeps : r.fin ≡ true → r'.fin ≡ true
  pub same : d' ≡ record d { phase = d'.phase; accepted = d'.accepted; early = d'.early }
  pub phase : is_open d'.phase ≡ true

-- where the FIN is taken the client has ended, and it is open as before
ended_is : (b : Bool) (phase : Phase) (f : Bool) → is_ended phase ≡ f → (f ≡ true → b ≡ true) → is_ended (if b then Ended else phase) ≡ b
ended_is true phase f is keeps = refl
ended_is false phase f is keeps = is ∙ false_by f false keeps refl

open_is : (b : Bool) (phase : Phase) → is_open phase ≡ true → is_open (if b then Ended else phase) ≡ true
open_is true phase h = refl
open_is false phase h = h

-- what is added within the receive edge, on both sides, and what is held then
added_received : (r : Receiving) (d : Client) (c : Came) → OnReceipt r d → d.kind ≡ Live → is_open d.phase ≡ true → taken r + length c.added ≤ receive_edge r
    → StandsBehind (taken r + length c.added) (receive_edge r) c.fin c.early → (r.fin ≡ true → c.fin ≡ true) → Receipt r d (with_came r c) (machine.with_added d c)
unfolding with_came
added_received r d c h kind phase few behind keeps =
    let both : length (r.unread ++ c.added) ≡ length r.unread + length c.added = length-append r.unread c.added in
    let longer : length (d.accepted ++ c.added) ≡ length d.accepted + length c.added = length-append d.accepted c.added in
    let all : taken r + length c.added ≡ r.read + length (r.unread ++ c.added) = omega (arith, both) in
    record {
      on_receipt = record {
        sisn = h.sisn;
        limit = h.limit;
        count = omega (arith, both, longer, h.count);
        rest = drop-append-le r.read d.accepted c.added (omega (arith, h.count)) ∙ (λ i. h.rest i ++ c.added);
        fin = ended_is c.fin d.phase r.fin h.fin keeps;
        early = ap (λ k. holds k c.early) kind;
        behind = subst (λ (n : ℕ). StandsBehind n (receive_edge r) c.fin c.early) all behind;
        within = omega (arith, both, few);
        queued = omega (arith, both, few);
      };
      read = refl;
      limit = refl;
      grows = omega (arith, both);
      keeps = keeps;
      same = refl;
      phase = open_is c.fin d.phase phase;
    }

-- the live machine holds what its TCP holds, so that the same comes of a segment
pub segment_received : (r : Receiving) (d : Client) (z : ℤ) (text : List ℕ) (fin : Bool) → OnReceipt r d → d.kind ≡ Live → is_open d.phase ≡ true → d.edge ≡ receive_edge r
    → Receipt r d (with_segment r z text fin)
    (machine.with_added d (comes (length d.accepted) d.edge (is_ended d.phase) (holds d.kind d.early) z text fin))
segment_received r d z text fin h kind phase edge =
    let n : ℕ = taken r in
    let e : ℕ = receive_edge r in
    let held : holds d.kind d.early ≡ r.early = ap (λ k. holds k d.early) kind ∙ h.early in
    subst (λ (c : Came). Receipt r d (with_segment r z text fin) (machine.with_added d c))
    (λ i. comes (sym h.count i) (sym edge i) (sym h.fin i) (sym held i) z text fin)
    (added_received r d (came r z text fin) h kind phase (comes_within n e r.fin r.early z text fin h.behind)
    (stays_behind n e r.fin r.early z text fin (omega (arith, h.behind.text)) h.behind) (fin_stays n e r.fin r.early z text fin))

-- an acknowledgement of what was sent
both_le : (una sent : ℕ) (z : ℤ) → int_le (pos una) z ≡ true → int_le z (pos sent) ≡ true → nat_abs z ≤ sent
both_le una sent z a b = grind (arith, ints, a, b)

acked_alike : (una sent : ℕ) (ack : ℤ) → int_lt (pos sent) ack ≡ false → (if int_lt (pos una) ack then nat_abs ack else una) ≡ (if is_new_ack una sent ack then nat_abs ack else una)
acked_alike una sent ack h = grind (arith, ints, h)

new_above : (una sent : ℕ) (ack : ℤ) → is_new_ack una sent ack ≡ true → una + (nat_abs ack - una) ≡ nat_abs ack
new_above una sent ack h = grind (arith, ints, h)

pub ack_sends : (s : Sending) (seq : ℕ) (ack : ℤ) (room written : ℕ) (d : Client) (after : Congestion) (time : Timing) → int_lt (pos s.sent) ack ≡ false → Sends s written d
    → Sends (record (acknowledged s seq ack room) { congestion = after; timing = time }) written (machine.with_ack d ack)
unfolding acknowledged
ack_sends s seq ack room written d after time sent h =
    let new : Bool = is_new_ack s.una s.sent ack in
    let both : Bool = int_le (pos s.una) ack && int_le ack (pos s.sent) in
    record {
      sent = h.sent;
      acknowledged = (λ i. if int_lt (pos (h.acknowledged i)) ack then nat_abs ack else h.acknowledged i) ∙ acked_alike s.una s.sent ack sent;
      held = held_if new refl;
      order = new_within s.una s.sent ack h.order;
      wl2 = holds_if (λ (n : ℕ). n ≤ s.sent) (moves_edge s seq ack) (nat_abs ack) s.wl2
          (λ k. both_le s.una s.sent ack (left_true (int_le (pos s.una) ack) (int_le ack (pos s.sent)) (left_true both _ k))
          (right_true (int_le (pos s.una) ack) (int_le ack (pos s.sent)) (left_true both _ k))) (λ k. h.wl2);
      within = h.within;
      script = h.script;
      text = h.text;
      ended = h.ended;
      shut = h.shut;
      least = h.least;
      most = h.most;
    }
  where
    held_if : (b : Bool) → is_new_ack s.una s.sent ack ≡ b
        → (if b then drop (nat_abs ack - s.una) s.held else s.held) ≡ drop (if b then nat_abs ack else s.una) (take written d.script)
    held_if true k =
        ap (drop (nat_abs ack - s.una)) h.held ∙ drop-drop (nat_abs ack - s.una) s.una (take written d.script)
        ∙ ap (λ n. drop n (take written d.script)) (new_above s.una s.sent ack k)
    held_if false k = h.held
