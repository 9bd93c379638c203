-- A near segment whose acknowledgement is lowered is a usual one for the inner TCP, and output goes on at the point after a turn.
use Rattle.std.proofs.Common.{◌≡◌, ℕ, ◌<◌, ◌≤◌, ◌+◌, ◌-◌, ◌^◌, Bool, true, false, length, min, inl, inr, ap, subst, arith}
use Rattle.std.specs.Prelude.{ℤ, pos, ◌-ℤ◌, ◌≤ℤ◌, nat_abs, if◌then◌else◌}
use Rattle.std.proofs.lemmas.Int.{ints}
use Rattle.seq_arith.specs.Packet.{Segment, has_ack}
use Rattle.ft_model.specs.Offset.{ack_of}
use Rattle.ft_model.specs.Point.{Point, most}
use Rattle.tcp_endpoint.specs.Tcb.{Tcb}
use Rattle.endpoint_laws.specs.Laws.{IsUsual}
use Rattle.endpoint_laws.specs.Refinement.{StandsAt}
use Rattle.connection_laws.specs.Inside.{inside, Proceeds}
use Rattle.south_wrap.specs.Translation.{inward}
use Rattle.south_wrap.specs.SouthState.{is_high}
use Rattle.south_wrap.specs.SouthPoint.{south_at}
use Rattle.connection_laws.proofs.Lowered.{Lowers, LowersAt, lowers}

least : (u sent most : ℕ) (ack inner : ℤ) → u ≤ 2 ^ 24 → (pos 0 -ℤ pos (2 ^ 30)) ≤ℤ ack → Lowers u sent most ack inner → (pos 0 -ℤ pos (2 ^ 30 + 2 ^ 24)) ≤ℤ inner
least u sent most ack inner s n (inl h) = rw h.to (omega (arith, ints))
least u sent most ack inner s n (inr (inl h)) = rw h.to (omega (arith, ints))
least u sent most ack inner s n (inr (inr (inl h))) = rw h.to (omega (arith, ints, s))
least u sent most ack inner s n (inr (inr (inr (inl h)))) = rw h.to (omega (arith, ints, s, n))
least u sent most ack inner s n (inr (inr (inr (inr h)))) = rw h.to (omega (arith, ints))

raised : (b : Bool) (w a s : ℕ) → w ≤ 65535 → (if b then min 65535 (w + (a - s)) else w) ≤ 65535
raised true w a s h = omega arith
raised false w a s h = h

pub usual_inside : (u i delta : ℕ) (p : Point) (e : Tcb) (segment : Segment) → Proceeds u i delta p → StandsAt (inside u i p) e
    → segment.head.ack < 2 ^ 32 → segment.head.seq < 2 ^ 32 → segment.head.window ≤ 65535 → length segment.payload ≤ 65535
    → (has_ack segment ≡ true → (pos 0 -ℤ pos (2 ^ 30)) ≤ℤ ack_of p.sisn segment) → IsUsual e (inward (south_at delta p) segment)
usual_inside u i delta p e segment g st fits seq window text near =
    let l : has_ack segment ≡ true → LowersAt u i delta p segment = (λ h. lowers u i delta p segment g fits (near h)) in
    let at : ack_of i (inward (south_at delta p) segment) ≡ ack_of e.sending.iss (inward (south_at delta p) segment) = ap (λ n. ack_of n (inward (south_at delta p) segment)) st.sends.sisn in
    record {
      near = λ h. subst (λ z. (pos 0 -ℤ pos (2 ^ 30 + 2 ^ 24)) ≤ℤ z) at (least u p.sent (most p) _ _ g.small (near h) (l h));
      seq = seq;
      window = raised (is_high (south_at delta p) segment.head.ack) segment.head.window (nat_abs (ack_of p.sisn segment)) p.sent window;
      text = text;
    }
