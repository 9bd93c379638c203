-- A client that has come stays so, whatever it receives.
use Rattle.std.proofs.Common.{◌≡◌, ℕ, Bool, true, false, true≢false, sym, Some, None, length, nat_le, refl, ◌==◌, ◌&&◌, ◌||◌, not, pos, if◌then◌else◌}
use Rattle.ft_io.proofs.Choices.{holds_if}
use Rattle.seq_arith.specs.Number.{number_at}
use Rattle.seq_arith.specs.Packet.{Segment, has_syn, has_rst, has_ack}
use Rattle.tcp_rules.specs.Arrival.{int_eq}
use Rattle.tcp_rules.specs.Coming.{Came}
use Rattle.ft_model.specs.Client.{Client, is_new, is_opening, is_open, Move, moved, refusal_of_move, suits_phase, suits_range, opened_by, may_use, with_added, with_ack, came, used, arrived, received, next_of}
use Rattle.ft_model.specs.Client.Move.{Syn, Text, Fin, Acknowledge, Rst, Refuse}
use Rattle.ft_model.specs.Offset.{first_of, ack_of}
use Rattle.ft_model.specs.declared.phase.Phase.{Phase}
use Rattle.ft_model.specs.declared.phase.Phase.TheVariants.{New, Opening, Established, Ended, Reset}
use Rattle.ft_model.specs.declared.event.EventWhy.TheVariants as why
use Rattle.ft_model.proofs.Lists.{none_is_some}
use Rattle.std.proofs.lemmas.Bool.{and_parts}
use Rattle.std.specs.Prelude.{int_lt}

abbrev HasCome : Client → Type 0
HasCome c = is_new c.phase ≡ false

added : (c : Client) (news : Came) → HasCome c → HasCome (with_added c news)
added c news e = phase_only news.fin e
  where
    phase_only : (b : Bool) → is_new c.phase ≡ false → is_new (if b then Ended else c.phase) ≡ false
    phase_only true e = refl
    phase_only false e = e

module _ (c : Client) (segment : Segment) (e : HasCome c) where
  opened : HasCome (opened_by c segment)
  opened =
      holds_if HasCome (has_ack segment && segment.head.ack == number_at c.isn 0) _ c
      (λ t. holds_if HasCome (has_rst segment) (record c { phase = Reset }) _ (λ s. refl)
      (λ s. holds_if HasCome (has_syn segment) (record c { phase = Established; sisn = segment.head.seq }) c (λ x. refl) (λ x. e)))
      (λ t. e)

  uses : HasCome (used c segment)
  uses =
      holds_if HasCome (int_lt (pos c.sent) (ack_of c.isn segment)) c (with_added (with_ack c (ack_of c.isn segment)) (came c segment)) (λ t. e)
      (λ t. added (with_ack c (ack_of c.isn segment)) (came c segment) e)

  arrives : HasCome (arrived c segment)
  arrives =
      holds_if HasCome (may_use c segment) _ c
      (λ t. holds_if HasCome (has_rst segment) _ _
      (λ s. holds_if HasCome (int_eq (first_of c.sisn segment) (pos (next_of c))) (record c { phase = Reset }) c (λ x. refl) (λ x. e))
      (λ s. holds_if HasCome (has_syn segment || not (has_ack segment)) c (used c segment) (λ x. e) (λ x. uses)))
      (λ t. e)

  pub came_still : HasCome (received c segment)
  came_still =
      holds_if HasCome (is_opening c.phase) (opened_by c segment) (if is_open c.phase then arrived c segment else c) (λ t. opened)
      (λ t. holds_if HasCome (is_open c.phase) (arrived c segment) c (λ s. arrives) (λ s. e))

-- and one that has made a move has come
open_come : (p : Phase) → is_open p ≡ true → is_new p ≡ false
open_come Established e = refl
open_come Ended e = refl
open_come New e = absurd (true≢false (sym e))
open_come Opening e = absurd (true≢false (sym e))
open_come Reset e = absurd (true≢false (sym e))

opening_come : (p : Phase) → is_opening p ≡ true → is_new p ≡ false
opening_come Opening e = refl
opening_come New e = absurd (true≢false (sym e))
opening_come Established e = absurd (true≢false (sym e))
opening_come Ended e = absurd (true≢false (sym e))
opening_come Reset e = absurd (true≢false (sym e))

suits_then : (p r : Bool) → (if p then (if r then None else Some why.Range) else Some why.State) ≡ None → p ≡ true
suits_then true r e = refl
suits_then false r e = none_is_some why.State (sym e)

pub moved_on : (c : Client) (move : Move) (window : ℕ) → refusal_of_move c move ≡ None → is_new (moved c move window).phase ≡ false
moved_on c (Syn mss) window free = refl
moved_on c Rst window free = refl
moved_on c (Text from len) window free =
    open_come c.phase (and_parts (is_open c.phase) (nat_le c.acknowledged (length c.script)) (suits_then (suits_phase c (Text from len)) (suits_range c (Text from len)) free)).0
moved_on c Fin window free = open_come c.phase (and_parts (is_open c.phase) (nat_le c.acknowledged (length c.script)) (suits_then (suits_phase c Fin) (suits_range c Fin) free)).0
moved_on c Acknowledge window free = open_come c.phase (suits_then (suits_phase c Acknowledge) (suits_range c Acknowledge) free)
moved_on c (Refuse number) window free = opening_come c.phase (suits_then (suits_phase c (Refuse number)) (suits_range c (Refuse number)) free)
