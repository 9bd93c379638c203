-- A new connection is sound.
use Rattle.tcp_rules.specs.declared.timestamping.Timestamping.{Timestamping}
use Rattle.std.proofs.Common.{◌≡◌, ℕ, Bool, ◌<◌, ◌≤◌, ◌+◌, ◌-◌, ◌%◌, ◌^◌, max, min, refl, sym, ap, subst, ◌∙◌, List, [], length, arith}
use Rattle.ft_io.specs.declared.Addr.{Addr}
use Rattle.ft_io.specs.declared.Key.{Key}
use Rattle.seq_arith.specs.Number.{distance, number_at}
use Rattle.seq_arith.specs.Offset.{one_if}
use Rattle.seq_arith.specs.Packet.{Segment}
use Rattle.tcp_rules.specs.Profile.{Profile}
use Rattle.south_wrap.specs.SouthState.{SouthState}
use Rattle.north_wrap.specs.NorthState.{NorthState, fresh_north}
use Rattle.tcp_endpoint.specs.Arrival.{received, in_listen, begun}
use Rattle.tcp_endpoint.specs.Tcb.{Tcb, listening, listening_measuring}
use Rattle.endpoint_laws.proofs.Bounding.{bounded_at_listen_measuring, bounded_in_listen}
use Rattle.connection_laws.proofs.Spliced.{size_stays}
use Rattle.wrapped_conn.specs.ConnState.{ConnState}
use Rattle.wrapped_conn.specs.NewConnection.{joined_conn_in, first_conn_in, south_opened, syn}
use Rattle.wrapped_conn.specs.Numbers.{has_fin}
use Rattle.tcp_rules.specs.Timestamping.{fitting}
use Rattle.wrapped_conn.specs.Sound.{IsSoundTcp, IsSound, LeavesRoom}
use Rattle.wrapped_conn.proofs.SoundAgain.{fitting_leaves}

syn_sound : (measures : Bool) (key : Key) (local : Addr) (cisn sisn mss : ℕ) → IsSoundTcp (received (listening_measuring measures local sisn (2 ^ 24)) (syn key local cisn mss))
unfolding received in_listen begun listening_measuring listening
syn_sound measures key local cisn sisn mss = record {
  bounds = bounded_in_listen (listening_measuring measures local sisn (2 ^ 24)) (syn key local cisn mss) refl refl (bounded_at_listen_measuring measures local sisn (2 ^ 24) (omega arith));
  buffered = omega arith;
  begun = refl;
  fin_last = λ f. f;
}

syn_fields : (measures : Bool) (key : Key) (local : Addr) (cisn sisn mss : ℕ) → let e = received (listening_measuring measures local sisn (2 ^ 24)) (syn key local cisn mss) in
    (e.receiving.read ≡ 0) × (e.receiving.limit ≡ 2 ^ 24) × (e.receiving.unread ≡ []) × (e.sending.iss ≡ sisn) × (e.sending.una ≡ 0) × (e.sending.held ≡ [])
    × (e.sending.mss ≡ max 64 (min 1460 mss))
unfolding received in_listen begun listening_measuring listening
syn_fields measures key local cisn sisn mss = (refl, refl, refl, refl, refl, refl, refl)

pub nothing_fetched : (cisn f : ℕ) → distance (number_at cisn 0) ((cisn + 1) % 2 ^ 32) - f ≡ 0
nothing_fetched cisn f = omega arith

nothing_swallowed : (sisn : ℕ) → sisn < 2 ^ 32 → distance ((sisn + 0) % 2 ^ 32) sisn ≡ 0
nothing_swallowed sisn fits = omega (arith, fits)

pub first_is : {S : Type 0} (profile : Profile) (timestamping : Timestamping) (boot : ℕ) (key : Key) (local : Addr) (cisn sisn mss : ℕ) (service : S) (greeting : List ℕ) (south : SouthState) (e t : Tcb) (north : NorthState S) (seen : Segment) (c : ConnState S)
    → c ≡ joined_conn_in profile boot key local south t north → south ≡ south_opened timestamping cisn sisn mss → north ≡ fresh_north service greeting → t ≡ received e seen → e ≡ listening_measuring profile.measures local sisn (2 ^ 24)
    → seen ≡ syn key local cisn mss → c ≡ first_conn_in profile timestamping boot key local cisn sisn mss service greeting
unfolding first_conn_in
first_is profile timestamping boot key local cisn sisn mss service greeting south e t north seen c is so nn te li se =
    let tcp : t ≡ received (listening_measuring profile.measures local sisn (2 ^ 24)) (syn key local cisn mss) = te ∙ (λ j. received (li j) (se j)) in
    is ∙ (λ j. joined_conn_in profile boot key local (so j) (tcp j) (nn j))

pub first_sound : {S : Type 0} (profile : Profile) (timestamping : Timestamping) (boot : ℕ) (key : Key) (local : Addr) (cisn sisn mss : ℕ) (service : S) (greeting : List ℕ) → length greeting ≤ 65535 → 1 ≤ boot → sisn < 2 ^ 32 → 64 ≤ mss → mss ≤ 1460
    → IsSound (first_conn_in profile timestamping boot key local cisn sisn mss service greeting)
unfolding first_conn_in
first_sound profile timestamping boot key local cisn sisn mss service greeting few live fits least most =
    let e : Tcb = received (listening_measuring profile.measures local sisn (2 ^ 24)) (syn key local cisn mss) in
    let f = syn_fields profile.measures key local cisn sisn mss in
    let fetched : distance (number_at cisn 0) ((cisn + 1) % 2 ^ 32) - one_if (has_fin e.name) ≡ 0 = nothing_fetched cisn (one_if (has_fin e.name)) in
    let none : length e.receiving.unread ≡ 0 = ap length f.2 in
    let held : length e.sending.held ≡ 0 = ap length f.5 in
    let behind : distance ((e.sending.iss + 0) % 2 ^ 32) sisn ≡ 0 = ap (λ i. distance ((i + 0) % 2 ^ 32) sisn) f.3 ∙ nothing_swallowed sisn fits in
    record {
      parts = record {
        tcp = syn_sound profile.measures key local cisn sisn mss;
        limit = omega (arith, f.1, fetched);
        read = omega (arith, f.0, fetched);
        rest = omega (arith, f.0, fetched);
        made = omega (arith, few);
        written = λ o. omega (arith, f.4, held);
        count = omega arith;
        writable = tt;
      };
      boot = live;
      sisn = fits;
      fetched = sym fetched;
      read = refl;
      taken = omega arith;
      begins = omega (arith, behind);
      sent = omega arith;
      answered = omega arith;
      roomy = subst (λ m. LeavesRoom m (fitting timestamping mss)) (size_stays mss least most ∙ sym f.6) (fitting_leaves timestamping mss);
    }
