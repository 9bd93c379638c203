-- A flush leaves where all bytes end that were written.
use Rattle.std.proofs.Common.{◌≡◌, ℕ, ◌≤◌, ◌+◌, ◌-◌, Bool, true, false, not, length, min, refl, sym, arith, ◌∙◌}
use Rattle.std.specs.Prelude.{◌==◌, ◌&&◌, nat_lt, if◌then◌else◌}
use Rattle.std.proofs.lemmas.Bool.{false≢true}
use Rattle.seq_arith.specs.Offset.{one_if}
use Rattle.tcp_endpoint.specs.States.{has_begun}
use Rattle.tcp_endpoint.specs.SendHalf.{Sending, bytes_end, timed, send_edge, sendable, sends_fin, with_sent, with_fin_sent}
use Rattle.tcp_endpoint.specs.Tcb.{Tcb}
use Rattle.tcp_endpoint.specs.Output.{probes_text, probes_fin, with_probe, with_text_sent, with_fin_out, with_timed, after_full, with_advertised, with_turn_ended, flushed}
use Rattle.endpoint_laws.specs.Laws.{IsBounded}
use Rattle.endpoint_laws.proofs.TurnLaw.{after_steps}
use Rattle.ft_io.proofs.Booleans.{left_true, right_true}
use Rattle.endpoint_laws.proofs.EndingLaw.{none_behind}
use Rattle.endpoint_laws.proofs.TurnEnd.{unsent_of}

same_if : (b : Bool) (x y : Sending) (n : ℕ) → (b ≡ true → bytes_end x ≡ n) → (b ≡ false → bytes_end y ≡ n) → bytes_end (if b then x else y) ≡ n
same_if true x y n p q = p refl
same_if false x y n p q = q refl

sent_end : (f : Bool) (sent n m : ℕ) → (f ≡ true → n ≡ 0) → (if f then sent + n - 1 else m) ≡ (if f then sent - 1 else m)
sent_end true sent n m h = omega (arith, h refl)
sent_end false sent n m h = refl

fin_end : (f : Bool) (sent m : ℕ) → f ≡ false → sent ≡ m → sent + 1 - 1 ≡ (if f then sent - 1 else m)
fin_end true sent m h e = absurd (false≢true (sym h))
fin_end false sent m h e = omega (arith, e)

-- the FIN goes out once, after all bytes
fin_test : (b o c f u : Bool) (sent m : ℕ) → (b && (o && c && not f && (sent == m) && u)) ≡ true → (f ≡ false) × (sent ≡ m)
fin_test true true true false u sent m h = (refl, grind (arith, h))
fin_test true true true true u sent m h = absurd (false≢true h)
fin_test true true false false u sent m h = absurd (false≢true h)
fin_test true true false true u sent m h = absurd (false≢true h)
fin_test true false c f u sent m h = absurd (false≢true h)
fin_test false o c f u sent m h = absurd (false≢true h)

end_steps : (begun pt pf : Bool) (s : Sending) → (pt ≡ true → s.fin_sent ≡ false) → (pf ≡ true → (s.fin_sent ≡ false) × (s.sent ≡ s.una + length s.held))
    → bytes_end (after_steps begun pt pf s) ≡ bytes_end s
end_steps begun pt pf s unsent ends =
    let probed : Sending = if pt then with_sent s 1 else (if pf then with_fin_sent s else s) in
    let texted : Sending = with_sent probed (if begun then sendable probed else 0) in
    let probed_end : bytes_end probed ≡ bytes_end s =
    same_if pt (with_sent s 1) _ (bytes_end s) (λ h. sent_end s.fin_sent s.sent 1 (s.una + length s.held) (λ k. absurd (false≢true (sym (unsent h) ∙ k))))
    (λ h. same_if pf (with_fin_sent s) s (bytes_end s) (λ k. fin_end s.fin_sent s.sent (s.una + length s.held) (ends k).0 (ends k).1) (λ k. refl)) in
    let texted_end : bytes_end texted ≡ bytes_end probed =
    sent_end probed.fin_sent probed.sent (if begun then sendable probed else 0) (probed.una + length probed.held)
    (λ h. none_behind begun probed.syn_acked probed.fin_sent (min (probed.una + length probed.held) (send_edge probed) - probed.sent) h) in
    same_if (begun && sends_fin texted) (with_fin_sent texted) texted (bytes_end s)
    (λ h.
    let test = fin_test begun texted.syn_acked texted.closed texted.fin_sent (nat_lt texted.sent (send_edge texted)) texted.sent (texted.una + length texted.held) h in
    fin_end texted.fin_sent texted.sent (texted.una + length texted.held) test.0 test.1 ∙ texted_end ∙ probed_end)
    (λ h. texted_end ∙ probed_end)

end_timed : (runs : Bool) (s : Sending) → bytes_end (timed runs s) ≡ bytes_end s
end_timed true s = same_if (s.rest == 0) (record s { interval = s.timing.base; rest = s.timing.base }) s (bytes_end s) (λ h. refl) (λ h. refl)
end_timed false s = refl

-- .. and the FIN as one where no byte waits to be sent
all_sent : (f : Bool) (una len sent : ℕ) → una ≤ sent → sent ≤ una + len + one_if f → f ≡ false → not (nat_lt (sent - una) len) ≡ true → sent ≡ una + len
all_sent true una len sent order flight unsent none = absurd (false≢true (sym unsent))
all_sent false una len sent order flight unsent none = grind (arith, order, flight, none)

ends_of : (p b o f c : Bool) (una len sent : ℕ) → una ≤ sent → sent ≤ una + len + one_if f → (p && b && o && not f && not (nat_lt (sent - una) len) && c) ≡ true
    → (f ≡ false) × (sent ≡ una + len)
ends_of p b o f c una len sent order flight h =
    let none : Bool = not (nat_lt (sent - una) len) in
    let probed : (p && b && o && not f && none) ≡ true = left_true (p && b && o && not f && none) c h in
    let unsent : f ≡ false = unsent_of p b o f none probed in
    (unsent, all_sent f una len sent order flight unsent (right_true (p && b && o && not f) none probed))

pub end_flushed : (u : Tcb) → IsBounded u → bytes_end (flushed u).sending ≡ bytes_end u.sending
unfolding flushed with_turn_ended with_advertised after_full with_timed with_fin_out with_text_sent with_probe
end_flushed u b =
    let s : Sending = u.sending in
    end_timed _ (after_full u).sending
    ∙ end_steps (has_begun u.name) (probes_text u) (probes_fin u) s
    (λ h. unsent_of u.probe (has_begun u.name) s.syn_acked s.fin_sent (nat_lt (s.sent - s.una) (length s.held)) h)
    (λ h. ends_of u.probe (has_begun u.name) s.syn_acked s.fin_sent s.closed s.una (length s.held) s.sent b.order b.flight h)
