-- A client's kind, and what it allows.
use Rattle.std.proofs.Common.{◌≡◌, ℕ, true, refl, sym, ap, subst, true≢false, Some, None, [], arith, Bool, false}
use Rattle.std.specs.Prelude.{◌||◌, if◌then◌else◌}
use Rattle.seq_arith.specs.Packet.{Segment, with_timestamps}
use Rattle.ft_model.specs.Client.{Client, ClientKind, Move, IsMove, move_of, may_move, suits_kind, segment_of, is_ended}
use Rattle.ft_model.specs.Client.ClientKind.{Live}
use Rattle.ft_model.specs.Client.Move.{Syn, Text, Fin, Acknowledge, Rst, Refuse}
use Rattle.ft_model.specs.declared.event.Event.{Event}
use Rattle.ft_model.specs.declared.event.Event.TheVariants as events
use Rattle.ft_model.specs.WorkedRuns.Common.{hello_text, client_with, client_segment}
use Rattle.ft_model.specs.WorkedRuns.FirstPath.{opening}
use Rattle.ft_model.proofs.Lists.{none_is_some, some_is}
use Rattle.ft_model.specs.declared.phase.Phase.{Phase}
use Rattle.ft_model.specs.declared.phase.Phase.TheVariants.{New, Opening, Established, Ended, Reset}

-- what an event asks for, a client of either kind may do
pub suits_either : (kind : ClientKind) (event : Event) (move : Move) → move_of event ≡ Some move → suits_kind kind move ≡ true
suits_either kind (events.Begin n window) move e = subst (λ x. suits_kind kind x ≡ true) (some_is (Syn None) move e) refl
suits_either kind (events.Send n from len) move e = subst (λ x. suits_kind kind x ≡ true) (some_is (Text from len) move e) refl
suits_either kind (events.Fin n) move e = subst (λ x. suits_kind kind x ≡ true) (some_is Fin move e) refl
suits_either kind (events.Ack n window) move e = subst (λ x. suits_kind kind x ≡ true) (some_is Acknowledge move e) refl
suits_either kind (events.Reset n) move e = subst (λ x. suits_kind kind x ≡ true) (some_is Rst move e) refl
suits_either kind (events.Boot boot isn) move e = none_is_some move e
suits_either kind events.Crash move e = none_is_some move e
suits_either kind events.Tick move e = none_is_some move e
suits_either kind (events.Deliver n) move e = none_is_some move e
suits_either kind (events.Flip n bit) move e = none_is_some move e
suits_either kind (events.Stop part) move e = none_is_some move e

-- A client that has sent its SYN, and a RST with another number than the one after it.
abbrev pub refusal : Segment
refusal = client_segment 4 5 0 0 []

abbrev pub live : Client
live = record opening { kind = Live }

not_scripted : (move : Move) (window : ℕ) → may_move opening move ≡ true → refusal ≡ segment_of opening move window → ⊥
not_scripted (Syn mss) window may e = let flags : 4 ≡ 2 = ap (λ s. s.head.flags) e in omega (arith, flags)
not_scripted (Text from len) window may e = true≢false (sym may)
not_scripted Fin window may e = true≢false (sym may)
not_scripted Acknowledge window may e = true≢false (sym may)
not_scripted Rst window may e = let seq : 5 ≡ 1001 = ap (λ s. s.head.seq) e in omega (arith, seq)
not_scripted (Refuse number) window may e = true≢false (sym may)

pub refuses_nothing : (later : Client) → IsMove opening refusal later → ⊥
refuses_nothing later m = not_scripted m.move m.window m.may (ap (with_timestamps None) m.segment_is)

pub live_refuses : IsMove live refusal live
live_refuses = record { move = Refuse 5; window = 0; may = refl; fits = refl; timestamps = None; carries = refl; segment_is = refl; after_is = refl }

-- A SYN that offers a size.
abbrev pub offer : Segment
offer = record (client_segment 2 1000 0 65535 []) { head = record (client_segment 2 1000 0 65535 []).head { mss = Some 1460 } }

not_offered : (move : Move) (window : ℕ) → may_move (client_with hello_text) move ≡ true → offer ≡ segment_of (client_with hello_text) move window → ⊥
not_offered (Syn None) window may e = let size : Some 1460 ≡ None = ap (λ s. s.head.mss) e in none_is_some 1460 (sym size)
not_offered (Syn (Some mss)) window may e = true≢false (sym may)
not_offered (Text from len) window may e = true≢false (sym may)
not_offered Fin window may e = true≢false (sym may)
not_offered Acknowledge window may e = true≢false (sym may)
not_offered Rst window may e = true≢false (sym may)
not_offered (Refuse number) window may e = true≢false (sym may)

pub offers_nothing : (later : Client) → IsMove (client_with hello_text) offer later → ⊥
offers_nothing later m = not_offered m.move m.window m.may (ap (with_timestamps None) m.segment_is)

pub ends_by : (phase : Phase) (b : Bool) → (if is_ended phase || b then Ended else phase) ≡ (if b then Ended else phase)
ends_by Ended true = refl
ends_by Ended false = refl
ends_by New b = refl
ends_by Opening b = refl
ends_by Established b = refl
ends_by Reset b = refl
