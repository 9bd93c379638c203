-- A connection whose TCP has begun is over where that is in TIME-WAIT.
use Rattle.std.proofs.Common.{◌≡◌, ℕ, ◌≤◌, ◌+◌, ◌-◌, Bool, true, false, length, refl, sym, ap, arith, ◌∙◌}
use Rattle.std.specs.Prelude.{◌==◌, ◌&&◌, nat_lt, if◌then◌else◌}
use Rattle.std.proofs.lemmas.Bool.{false≢true, and_right, and_from, and_left}
use Rattle.server_trait.specs.Service.{Machine}
use Rattle.ft_model.specs.Point.{Point, is_over, released}
use Rattle.tcp_endpoint.specs.declared.states.StateName.{StateName}
use Rattle.tcp_endpoint.specs.declared.states.StateName.TheVariants.{Closed, Listen, SynSent, SynReceived, Established, FinWait1, FinWait2, CloseWait, Closing, LastAck, TimeWait}
use Rattle.tcp_endpoint.specs.States.{has_begun, is_time_wait}
use Rattle.tcp_endpoint.specs.SendHalf.{Sending, fin_acked}
use Rattle.tcp_endpoint.specs.Tcb.{Tcb}
use Rattle.endpoint_laws.specs.ConnectionEnd.{IsNamed, IsNamedRightly}
use Rattle.connection_laws.specs.Turn.{StandsInside}
use Rattle.connection_laws.specs.OutputFeed.{Feeds}

-- all output and the FIN after it are acknowledged where TCP's FIN is
acked_is : (f : Bool) (u una sent len may given : ℕ) → (if f then sent - 1 else una + len) + u ≡ given → given ≤ may → (f ≡ true → given ≡ may) → (f ≡ true → 1 ≤ sent)
    → una ≤ sent → nat_lt may (una + u) ≡ (f && una == sent)
acked_is true u una sent len may given until low all some order = let a : given ≡ may = all refl in let b : 1 ≤ sent = some refl in grind (arith, until, a, b, order)
acked_is false u una sent len may given until low all some order = grind (arith, until, low)

waits : (name : StateName) (o c f a : Bool) → has_begun name ≡ true → IsNamed name o c f a → (c ≡ false → a ≡ false) → (f && a) ≡ is_time_wait name
waits Closed o c f a begun h last = absurd (false≢true begun)
waits Listen o c f a begun h last = absurd (false≢true begun)
waits SynSent o c f a begun h last = absurd (false≢true begun)
waits SynReceived o c f a begun h last = and_left f a h.1
waits Established o c f a begun h last = and_left f a h.2
waits FinWait1 o c f a begun h last = and_left f a h.2
waits FinWait2 o c f a begun h last = and_left f a h.2
waits CloseWait o c f a begun h last = and_right f a (last h.1)
waits Closing o c f a begun h last = and_right f a h.3
waits LastAck o c f a begun h last = and_right f a h.3
waits TimeWait o c f a begun h last = and_from f a h.2 h.3

unsent : (f c e : Bool) → (f ≡ true → c ≡ true) → c ≡ false → (f && e) ≡ false
unsent true c e ends h = absurd (false≢true (sym h ∙ ends refl))
unsent false c e ends h = refl

raised : (u a b : ℕ) → u ≤ a → a - u ≡ b → a ≡ b + u
raised u a b h e = omega (arith, h, e)

pub over_is : {State : Type 0} (service : Machine State) (u i delta given : ℕ) (p : Point) (e : Tcb) → StandsInside u i delta p e → IsNamedRightly e → Feeds service u p given e
    → (e.sending.closed ≡ true → given ≡ released service p) → is_over service p ≡ is_time_wait e.name
over_is service u i delta given p e st named fed all =
    let s : Sending = e.sending in
    let una : p.una ≡ s.una + u = raised u p.una s.una st.proceeds.una st.stands.sends.una in
    let acked : nat_lt (released service p) (s.una + u) ≡ fin_acked s =
    acked_is s.fin_sent u s.una s.sent (length s.held) (released service p) given fed.until fed.low (λ h. all (st.between.fin_last h).0) (λ h. (st.between.fin_last h).1) st.between.bounds.order in
    (λ j. st.stands.receives.fin j && nat_lt (released service p) (una j))
    ∙ ap (λ b. e.receiving.fin && b) acked
    ∙ waits e.name s.syn_acked s.closed e.receiving.fin (fin_acked s) st.begun named (unsent s.fin_sent s.closed (s.una == s.sent) (λ h. (st.between.fin_last h).0))
