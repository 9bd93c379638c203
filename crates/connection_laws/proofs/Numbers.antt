-- TCP's numbers are the connection's, less delta.
use Rattle.std.proofs.Common.{◌≡◌, ℕ, ◌<◌, ◌≤◌, ◌+◌, ◌-◌, ◌%◌, ◌^◌, true, false, refl, sym, arith, ◌∙◌}
use Rattle.std.specs.Prelude.{if◌then◌else◌}
use Rattle.std.proofs.lemmas.Bool.{false≢true}
use Rattle.seq_arith.specs.Number.{distance, number_at}
use Rattle.ft_model.specs.Point.{Point}
use Rattle.tcp_endpoint.specs.declared.states.StateName.{StateName}
use Rattle.tcp_endpoint.specs.declared.states.StateName.TheVariants.{Closed, Listen, SynSent, SynReceived, Established, FinWait1, FinWait2, CloseWait, Closing, LastAck, TimeWait}
use Rattle.tcp_endpoint.specs.States.{has_begun, is_listen}
use Rattle.tcp_endpoint.specs.Tcb.{Tcb}
use Rattle.tcp_endpoint.specs.UserCalls.{sent_number}
use Rattle.connection_laws.specs.Turn.{StandsInside}

listens_not : (name : StateName) → has_begun name ≡ true → is_listen name ≡ false
listens_not Closed h = refl
listens_not Listen h = absurd (false≢true h)
listens_not SynSent h = refl
listens_not SynReceived h = refl
listens_not Established h = refl
listens_not FinWait1 h = refl
listens_not FinWait2 h = refl
listens_not CloseWait h = refl
listens_not Closing h = refl
listens_not LastAck h = refl
listens_not TimeWait h = refl

pub behind : (i delta sisn u k : ℕ) → (i + delta) % 2 ^ 32 ≡ (sisn + u) % 2 ^ 32 → u ≤ k → delta < 2 ^ 32 → number_at i (k - u) ≡ distance (number_at sisn k) delta
behind i delta sisn u k shift above fits = omega (arith, shift, above, fits)

pub sent_behind : (u i delta : ℕ) (p : Point) (e : Tcb) → StandsInside u i delta p e → sent_number e ≡ distance (number_at p.sisn p.sent) delta
sent_behind u i delta p e st =
    (λ j. if listens_not e.name st.begun j then e.sending.iss else number_at (sym st.stands.sends.sisn j) (sym st.stands.sent j))
    ∙ behind i delta p.sisn u p.sent st.proceeds.shift (omega (arith, st.proceeds.una, st.proceeds.order)) st.proceeds.delta_fits
