use Rattle.std.proofs.Common.{◌≡◌, ◌<◌, ◌^◌, false, refl, sym, ap, ◌∙◌}
use Rattle.seq_arith.specs.Number.{distance}
use Rattle.tcp_buffers.specs.SendNumbers.{kind_of, is_window_used, edge_of, una_by, interval_by, left_by, congestion_by}
use Rattle.tcp_buffers.proofs.Outstanding.{beyond_is_unused, edge_from_una, window_to_edge, edge_fits, una_fits, same_state}
use Rattle.tcp_buffers.proofs.send_state.SendState.on_ack.Goals as goal

pub returns-clause-used : goal.returns-clause-used
returns-clause-used c =
    let s = c.args.self.now in let kind = c.kind_of-kind.result in let ack = c.args.ack.0 in
    let is_kind : kind ≡ kind_of s.una.0 s.nxt.0 ack = c.kind_of-kind.ensures in
    let una_range : c.una_by-una.result.0 < 2 ^ 32 = rw c.una_by-una.ensures (una_fits kind s.una.0 ack c.numbers_fit.ensures.una c.numbers_fit.ensures.ack) in
    let edge_range : c.edge_after-edge.result.0 < 2 ^ 32 = rw c.edge_after-edge.ensures (edge_fits s c.args.seq.0 ack c.args.wnd) in
    record {
      una = c.una_by-una.ensures ∙ ap (λ k. una_by k s.una.0 ack) is_kind;
      nxt = refl;
      edge = rw c.minus.ensures (edge_from_una c.una_by-una.result.0 c.edge_after-edge.result.0 una_range edge_range ∙ c.edge_after-edge.ensures);
      wl1 = c.window_source.ensures.wl1;
      wl2 = c.window_source.ensures.wl2;
      mss = refl;
      congestion =
          (λ i. record { cwnd = c.congestion_by-cwnd.ensures.cwnd i; ssthresh = c.congestion_by-cwnd.ensures.ssthresh i; dups = c.congestion_by-cwnd.ensures.dups i; recovers = c.congestion_by-cwnd.ensures.recovers i; lost = c.congestion_by-cwnd.ensures.lost i })
          ∙ ap (λ k. congestion_by k s) is_kind;
      interval = c.timer_by-interval.ensures.interval ∙ ap (λ k. interval_by k s.interval) is_kind;
      left = c.timer_by-interval.ensures.left ∙ ap (λ k. left_by k s.nxt.0 ack s.left) is_kind;
    }

pub returns-clause-beyond : goal.returns-clause-beyond
returns-clause-beyond c is_beyond =
    let s = c.args.self.now in let seq = c.args.seq.0 in let ack = c.args.ack.0 in let fits = c.numbers_fit.ensures in
    let unused : is_window_used s seq ack ≡ false =
    beyond_is_unused s.una.0 s.nxt.0 s.wl1.0 s.wl2.0 seq ack fits.nxt fits.ack (sym c.kind_of-kind.ensures ∙ is_beyond) in
    let una : c.una_by-una.result.0 ≡ s.una.0 = c.una_by-una.ensures ∙ ap (λ k. una_by k s.una.0 ack) is_beyond in
    let edge : c.edge_after-edge.result.0 ≡ edge_of s = c.edge_after-edge.ensures ∙ rw unused refl in
    let wnd : c.minus.result ≡ s.wnd = c.minus.ensures ∙ (λ i. distance (edge i) (una i)) ∙ window_to_edge s.una.0 s.wnd fits.una fits.wnd in
    let wl1 : c.window_source.result.0.0 ≡ s.wl1.0 = c.window_source.ensures.wl1 ∙ rw unused refl in
    let wl2 : c.window_source.result.1.0 ≡ s.wl2.0 = c.window_source.ensures.wl2 ∙ rw unused refl in
    let interval : c.timer_by-interval.result.0 ≡ s.interval = c.timer_by-interval.ensures.interval ∙ ap (λ k. interval_by k s.interval) is_beyond in
    let left : c.timer_by-interval.result.1 ≡ s.left = c.timer_by-interval.ensures.left ∙ ap (λ k. left_by k s.nxt.0 ack s.left) is_beyond in
    let cwnd : c.congestion_by-cwnd.result.0 ≡ s.cwnd = c.congestion_by-cwnd.ensures.cwnd ∙ ap (λ k. (congestion_by k s).cwnd) is_beyond in
    let dups : c.congestion_by-cwnd.result.1 ≡ s.dups = c.congestion_by-cwnd.ensures.dups ∙ ap (λ k. (congestion_by k s).dups) is_beyond in
    let lost : c.congestion_by-cwnd.result.2 ≡ s.lost = c.congestion_by-cwnd.ensures.lost ∙ ap (λ k. (congestion_by k s).lost) is_beyond in
    same_state s _ _ _ _ _ _ _ _ _ una wl1 wl2 wnd interval left cwnd dups lost
