-- What a connection that the node lends tells of its point.
use Rattle.std.proofs.Common.{◌≡◌, ◌∙◌, Option, None, Some, IfSome, ℕ, ◌+◌, ◌%◌, ◌^◌, Bool, true, false, ⊎_elim, sym, ap, subst}
use Rattle.std.specs.Bool.{MatchBool}
use Rattle.std.specs.Borrow.{Bor}
use Rattle.std.specs.Option.{option_copied}
use Rattle.ft_model.proofs.Lists.{some_is, none_is_some}
use Rattle.std.proofs.lemmas.Bool.{false≢true}
use Rattle.ft_io.specs.declared.Addr.{Addr}
use Rattle.ft_io.specs.declared.Key.{Key}
use Rattle.seq_arith.specs.Number.{distance}
use Rattle.server_trait.specs.Service.{Machine}
use Rattle.ft_model.specs.Point.{Point, made, is_over}
use Rattle.connection_laws.specs.ClosedTcp.{StandsClosed}
use Rattle.connection_laws.specs.Parts.{StandsOpen, PartsStand}
use Rattle.connection_laws.specs.PointNumbers.{acked_at}
use Rattle.connection_laws.proofs.PointNumbers.{parts_show}
use Rattle.north_wrap.specs.NorthState.{NorthState}
use Rattle.tcp_endpoint.specs.Tcb.{Tcb}
use Rattle.wrapped_conn.specs.ConnState.{ConnState}
use Rattle.wrapped_conn.specs.Sound as sound
use Rattle.wrapped_conn.specs.Refinement.{StandsLive, StandsReset}
use Rattle.wrapped_conn.proofs.Lending.{reports}
use Rattle.wrapped_conn.proofs.Receiving.{parts_live}
use Rattle.node_serving.specs.declared.identity.Identity.{Identity}
use Rattle.node_serving.specs.declared.slot.Slot.{Slot}
use Rattle.node_serving.specs.declared.slot.Slot.TheVariants as slot
use Rattle.node_serving.specs.Conn.{IsOursAt, IsSound}
use Rattle.node_serving.specs.Loan.{conn_in}
use Rattle.node_serving.specs.Slots.{IsSoundSlot}
use Rattle.node_serving.specs.LentConn.{BeginsBehind, TcpShows, ReportsItsPoint}
use Rattle.endpoint_laws.proofs.SegmentsLaw.{begun_open}

begins_open : (u i delta : ℕ) (p : Point) (e : Tcb) → StandsOpen u i delta p e → BeginsBehind p delta e
begins_open u i delta p e st =
    let inside = st.stands.stands.sends in
    let on = st.stands.proceeds in record {
      behind = u;
      low = on.una;
      una = sym inside.una;
      shift = (λ j. (sym inside.sisn j + delta) % 2 ^ 32) ∙ on.shift;
    }

begins_closed : {S : Type 0} (service : Machine S) (u i delta : ℕ) (p : Point) (e : Tcb) → StandsClosed service u i delta p e → BeginsBehind p delta e
begins_closed service u i delta p e st = record {
  behind = u;
  low = st.counts.above;
  una = sym st.counts.una;
  shift = (λ j. (st.counts.iss j + delta) % 2 ^ 32) ∙ st.counts.shift;
}

is_open : {S : Type 0} (service : Machine S) (u i delta given : ℕ) (p : Point) (n : NorthState S) (e : Tcb) → PartsStand service u i delta given p n e → is_over service p ≡ false
    → StandsOpen u i delta p e
is_open service u i delta given p n e st off = ⊎_elim (λ standing. standing) (λ closed. absurd (false≢true (sym off ∙ closed.over))) st.tcp

tcp_shows : {S : Type 0} (service : Machine S) (u i delta given : ℕ) (p : Point) (n : NorthState S) (e : Tcb) → PartsStand service u i delta given p n e → is_over service p ≡ false
    → TcpShows p delta e
tcp_shows service u i delta given p n e st off =
    let shown = parts_show service u i delta given p n e st in
    let standing = is_open service u i delta given p n e st off in record {
      unclosed = begun_open e.name standing.stands.begun;
      unreset = st.kept;
      sent = shown.sent;
      acked = λ counted. shown.acked ∙ ap (λ b. distance (acked_at b p.sisn p.una) delta) counted;
    }

made_is : {S : Type 0} (service : Machine S) (c : ConnState S) (p : Point) (b : Bool) → MatchBool b (StandsReset service p c) (StandsLive service p c) → c.north.run.made ≡ made service p
made_is service c p true st = st.north.run.made
made_is service c p false st = st.parts.stand.north.run.made

pub reports_its_point : {S : Type 0} (service : Machine S) (server : Addr) (boot : ℕ) (p : Point) (c : ConnState S) → sound.IsSound c → IsOursAt service server boot c p → ReportsItsPoint service p c
unfolding IsOursAt
reports_its_point service server boot p c s st = record {
  numbers = reports service p c s st.0;
  south = st.0.keeps.south;
  made = made_is service c p p.reset st.0.parts;
  begins = λ unreset. let live = parts_live service c p st.0 unreset in
      ⊎_elim (begins_open live.u live.i c.south.delta p c.endpoint) (begins_closed service live.u live.i c.south.delta p c.endpoint) live.parts.stand.tcp;
  tcp = λ unreset off. let live = parts_live service c p st.0 unreset in
      tcp_shows service live.u live.i c.south.delta live.given p c.north c.endpoint live.parts.stand off;
}

-- .. and it is sound, as its slot is
pub sound_lent : {S : Type 0} (who : Identity) (key : Key) (has : Slot S) (lent : Option (Bor (ConnState S))) → IsSoundSlot who key has → option_copied lent ≡ conn_in (Some has)
    → IfSome lent (λ c. IsSound c.now)
sound_lent who key has None s e = tt
sound_lent who key (slot.Live now) (Some c) s e = subst IsSound (sym (some_is c.now now e)) s.sound
sound_lent who key (slot.Pending o) (Some c) s e = none_is_some c.now (sym e)
sound_lent who key slot.Done (Some c) s e = none_is_some c.now (sym e)
