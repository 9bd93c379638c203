-- What news leave of TCP's send buffer: the bytes after what is acknowledged, and where they end.
use Rattle.std.proofs.Common.{◌≡◌, ℕ, ◌≤◌, ◌+◌, ◌-◌, Bool, true, false, List, length, length-drop, drop, refl, sym, ap, subst, arith, ◌∙◌}
use Rattle.std.specs.Prelude.{ℤ, nat_abs, if◌then◌else◌}
use Rattle.tcp_rules.specs.Arrival.{is_new_ack}
use Rattle.tcp_rules.specs.Congestion.{Congestion}
use Rattle.seq_arith.specs.Offset.{one_if}
use Rattle.tcp_rules.specs.Timing.{Timing}
use Rattle.ft_model.specs.News.{News}
use Rattle.ft_model.specs.News.News.{Comes, Logged, Ticks, Begins}
use Rattle.tcp_endpoint.specs.States.{has_begun}
use Rattle.tcp_endpoint.specs.SendHalf.{Sending, acknowledged, with_syn_acked, bytes_end, expires, ticked}
use Rattle.tcp_endpoint.specs.Tcb.{Tcb}
use Rattle.tcp_endpoint.specs.Arrival.{ack_at}
use Rattle.tcp_endpoint.specs.UserCalls.{after_tick, timer_ticked, waited}
use Rattle.endpoint_laws.specs.Laws.{IsBounded, counts, congestion_by, timing_by}
use Rattle.endpoint_laws.specs.Turn.{IsUsualNews, arrived}
use Rattle.endpoint_laws.proofs.SendingLaw.{later_by, used_by, sending_is}

pub record KeepsOutput (s m : Sending) : Type 0 where
  pub held : m.held ≡ drop (m.una - s.una) s.held
  pub fin_sent : m.fin_sent ≡ s.fin_sent
  pub closed : m.closed ≡ s.closed
  pub sent : m.sent ≡ s.sent

none_dropped : (n : ℕ) (held : List ℕ) → held ≡ drop (n - n) held
none_dropped n held = let e : 0 ≡ n - n = omega arith in ap (λ k. drop k held) e

let_go : (b : Bool) (n una : ℕ) (held : List ℕ) → (if b then drop (n - una) held else held) ≡ drop ((if b then n else una) - una) held
let_go true n una held = refl
let_go false n una held = none_dropped una held

pub kept_same : (s : Sending) → KeepsOutput s s
kept_same s = record { held = none_dropped s.una s.held; fin_sent = refl; closed = refl; sent = refl }

kept_acked : (s : Sending) (seq : ℕ) (ack : ℤ) (window : ℕ) (c : Congestion) (t : Timing) → KeepsOutput s (record (acknowledged s seq ack window) { congestion = c; timing = t })
unfolding acknowledged
kept_acked s seq ack window c t = record { held = let_go (is_new_ack s.una s.sent ack) (nat_abs ack) s.una s.held; fin_sent = refl; closed = refl; sent = refl }

kept_syn_acked : (s : Sending) (seq window : ℕ) → s.sent ≡ 0 → KeepsOutput s (with_syn_acked s seq window)
kept_syn_acked s seq window none =
    let e : 0 ≡ 0 - s.una = omega arith in record { held = ap (λ k. drop k s.held) e; fin_sent = refl; closed = refl; sent = sym none }

kept_if : (s : Sending) (b : Bool) (x y : Sending) → (b ≡ true → KeepsOutput s x) → (b ≡ false → KeepsOutput s y) → KeepsOutput s (if b then x else y)
kept_if s true x y p q = p refl
kept_if s false x y p q = q refl

pub kept_ticked : (s : Sending) → KeepsOutput s (ticked s)
kept_ticked s = kept_if s (expires s) _ _
    (λ h. record { held = none_dropped s.una s.held; fin_sent = refl; closed = refl; sent = refl })
    (λ h. record { held = none_dropped s.una s.held; fin_sent = refl; closed = refl; sent = refl })

pub news_keep : (news : News) (e : Tcb) → has_begun e.name ≡ true → IsBounded e → IsUsualNews news e → KeepsOutput e.sending (arrived news e).sending
unfolding after_tick timer_ticked waited
news_keep (Comes segment) e begun bounds usual =
    subst (λ (m : Sending). KeepsOutput e.sending m) (sym (sending_is e segment begun bounds usual))
    (kept_if e.sending (counts e segment) (used_by e segment) e.sending
    (λ h. kept_if e.sending e.sending.syn_acked (later_by e segment) (with_syn_acked e.sending segment.head.seq segment.head.window)
    (λ o. kept_acked e.sending segment.head.seq (ack_at e segment) segment.head.window (congestion_by e segment)
    (timing_by e segment (acknowledged e.sending segment.head.seq (ack_at e segment) segment.head.window).una))
    (λ o. kept_syn_acked e.sending segment.head.seq segment.head.window (bounds.syn_unacked o)))
    (λ h. kept_same e.sending))
news_keep (Logged kept) e begun bounds usual = kept_same e.sending
news_keep Ticks e begun bounds usual = kept_ticked e.sending
news_keep Begins e begun bounds usual = kept_same e.sending

-- the bytes end where they ended
same_end : (f : Bool) (una len sent una' len' : ℕ) → una ≤ una' → una' ≤ sent → sent ≤ una + len + one_if f → len' ≡ len - (una' - una)
    → (if f then sent - 1 else una' + len') ≡ (if f then sent - 1 else una + len)
same_end true una len sent una' len' a b c d = refl
same_end false una len sent una' len' a b c d = omega (arith, a, b, c, d)

pub end_kept : (s m : Sending) → KeepsOutput s m → s.una ≤ m.una → m.una ≤ m.sent → s.sent ≤ s.una + length s.held + one_if s.fin_sent → bytes_end m ≡ bytes_end s
end_kept s m k rises order flight =
    let size : length m.held ≡ length s.held - (m.una - s.una) = ap length k.held ∙ length-drop (m.una - s.una) s.held in
    (λ j. if k.fin_sent j then k.sent j - 1 else m.una + length m.held)
    ∙ same_end s.fin_sent s.una (length s.held) s.sent m.una (length m.held) rises (omega (arith, order, k.sent)) flight size
