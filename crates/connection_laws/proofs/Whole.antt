-- The inner TCP leads from the point inside to the point inside, and the connection sends what the law says.
use Rattle.std.proofs.Common.{◌≡◌, ℕ, ◌+◌, ◌-◌, ◌^◌, ◌≤◌, true, false, Bool, List, refl, sym, subst, arith, ◌∙◌}
use Rattle.std.specs.Prelude.{if◌then◌else◌}
use Rattle.server_trait.specs.Service.{Machine}
use Rattle.seq_arith.specs.Packet.{Segment}
use Rattle.ft_model.specs.Network.{Packet}
use Rattle.ft_model.specs.News.{News}
use Rattle.ft_model.specs.News.News.{Comes, Logged, Ticks, Begins}
use Rattle.ft_model.specs.Point.{Point}
use Rattle.ft_model.specs.Segments.{repeats_syn}
use Rattle.ft_model.specs.Offset.{one_if}
use Rattle.ft_model.specs.PendingAck.{is_delayed}
use Rattle.ft_model.specs.Sending.{acknowledged_after}
use Rattle.endpoint_laws.specs.Laws.{KeepsTime}
use Rattle.tcp_endpoint.specs.States.{has_begun}
use Rattle.tcp_endpoint.specs.Tcb.{Tcb}
use Rattle.endpoint_laws.specs.Turn.{Call, IsUsualNews, before_flush, turned}
use Rattle.tcp_endpoint.specs.Output.{flushed, with_turn_ended, with_advertised, after_full, with_fin_out, with_text_sent, with_probe, with_timed}
use Rattle.endpoint_laws.specs.Refinement.{StandsAt, LeadsTo}
use Rattle.endpoint_laws.proofs.Turns.{leads_law}
use Rattle.connection_laws.specs.Inside.{swallowing, inside, Proceeds}
use Rattle.connection_laws.specs.Traffic.{news_inside, passed, leaves}
use Rattle.south_wrap.specs.Translation.{inward}
use Rattle.south_wrap.specs.SouthPoint.{south_at}
use Rattle.connection_laws.specs.Turn.{SegmentFits, NewsFit, Turns, StandsInside, UsesInside, TurnsInside}
use Rattle.connection_laws.proofs.Meets.{laws_inside}
use Rattle.connection_laws.proofs.Sent.{sent_is}
use Rattle.connection_laws.proofs.Delaying.{adds_none}
use Rattle.connection_laws.proofs.Reassembly.{behind_at}
use Rattle.connection_laws.proofs.Again.{stays, proceeds_again}
use Rattle.connection_laws.proofs.Usual.{usual_inside}

usual_by : (u i delta : ℕ) (p : Point) (e : Tcb) (segment : Segment) (b : Bool) → Proceeds u i delta p → StandsAt (inside u i p) e → SegmentFits p segment
    → IsUsualNews (if b then Begins else Comes (inward (south_at delta p) segment)) e
usual_by u i delta p e segment true g st f = tt
usual_by u i delta p e segment false g st f = usual_inside u i delta p e segment g st f.ack f.seq f.window f.text f.near

pub usual_news : (u i delta : ℕ) (p : Point) (e : Tcb) (news : News) → Proceeds u i delta p → StandsAt (inside u i p) e → NewsFit p news → IsUsualNews (news_inside delta p news) e
usual_news u i delta p e (Comes segment) g st f = usual_by u i delta p e segment (repeats_syn p segment) g st f
usual_news u i delta p e (Logged kept) g st f = tt
usual_news u i delta p e Ticks g st f = tt
usual_news u i delta p e Begins g st f = tt

begun_still : (e : Tcb) → has_begun (flushed e).name ≡ has_begun e.name
unfolding flushed with_turn_ended with_advertised after_full with_timed with_fin_out with_text_sent with_probe
begun_still e = refl

pub above : (u a b : ℕ) → u ≤ a → b ≡ a → u ≤ b
above u a b h e = omega (arith, h, e)

short : (u s t : ℕ) (f : Bool) → u ≤ 2 ^ 24 → s - u ≡ t → t ≤ 2 ^ 24 + one_if f → s ≤ 2 ^ 25 + 1
short u s t true a b c = omega (arith, a, b, c)
short u s t false a b c = omega (arith, a, b, c)

pub turns_inside : {State : Type 0} (service : Machine State) (boot u i delta : ℕ) (news : News) (p q : Point) (calls : List Call) (e : Tcb) (sent : List Packet)
    → StandsInside u i delta p e → Turns service e.local boot news p q sent u i delta → UsesInside service u i delta news p q calls e
    → TurnsInside service u i delta news p q calls e
turns_inside service boot u i delta news p q calls e sent st t uses =
    let inner : News = news_inside delta p news in
    let rises = stays u i delta news p st.proceeds t.fits in
    let led : LeadsTo (swallowing u service) inner (inside u i p) (inside u i q) e calls =
    leads_law (swallowing u service) inner calls (inside u i p) (inside u i q) e st.begun st.between st.stands (usual_news u i delta p e news st.proceeds st.stands t.fits) uses.may uses.begun
    (laws_inside service e.local boot u i delta news p q sent st.proceeds t.fits (above u (acknowledged_after news p) q.una rises.una t.goes.una) t.given t.goes) uses.used in
    let after : Proceeds u i delta q =
    proceeds_again service e.local boot u i delta news p q sent st.proceeds t.fits t.goes
    (short u q.sent (turned inner calls e).sending.sent (turned inner calls e).sending.fin_sent st.proceeds.small led.stands.sent led.between.bounds.sent)
    (subst KeepsTime (sym led.stands.timing) led.between.bounds.timing) in
    record {
      stands = record { begun = begun_still (before_flush inner calls e) ∙ uses.begun; between = led.between; stands = led.stands; proceeds = after };
      segments = (λ j. leaves service e.local news p q (passed delta q (if is_delayed news p q then led.full j else led.segments j)))
          ∙ sent_is service e.local boot news p q sent u i delta t st.proceeds after
          (adds_none service e.local boot news p q sent (behind_at (inside u i p) e st.stands.receives st.between.bounds) t.goes);
    }
