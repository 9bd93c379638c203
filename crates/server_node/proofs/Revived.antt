-- A connection that a restart has put together, in its first turn.
use Rattle.std.proofs.Common.{◌≡◌, ◌∙◌, ◌≤◌, ℕ, refl, sym, ap, subst, ⊎_elim, Some, List, [], ◌∷◌}
use Rattle.std.specs.Prelude.{IfSome}
use Rattle.tcp_rules.specs.Profile.{Profile}
use Rattle.server_trait.specs.Service.{Machine}
use Rattle.tcp_rules.specs.Profile.{grammar_of}
use Rattle.ft_model.specs.Log.{Entry}
use Rattle.ft_model.specs.Point.{Point}
use Rattle.ft_model.specs.News.News.{Begins as Becomes_live}
use Rattle.ft_model.specs.Restart.{point_of}
use Rattle.ft_model.specs.Node.{Node, Place}
use Rattle.ft_model.specs.Node.Place.{Lives}
use Rattle.ft_model.specs.ServingTurn.{LivesOn}
use Rattle.ft_model.specs.Wire.{Wire}
use Rattle.ft_model.proofs.Profiles.{entry_has, turn_keeps}
use Rattle.wrapped_conn.specs.ConnState.{ConnState}
use Rattle.reincarnate.specs.Splice.{SplicedState, IsSplicedIn, conn_of}
use Rattle.wrapped_conn.specs.Refinement.{StandsBefore}
use Rattle.wrapped_conn.proofs.SoundAgain.{resumed_leaves, resumed_short}
use Rattle.node_serving.specs.declared.slot.Slot.TheVariants as slot
use Rattle.node_serving.specs.declared.slot.Slot.{Slot}
use Rattle.node_serving.specs.Conn.{Begins, ConnGoes, IsOursAt}
use Rattle.node_serving.specs.Loan.{conn_in}
use Rattle.node_serving.specs.Slots.{SlotStands}
use Rattle.server_node.specs.RestartNumbers.{ProceedsUnder}
use Rattle.server_node.specs.RestartEnd.{SlotRevives}

pub live_again : {S : Type 0} (service : Machine S) (node : Node) (e : Entry) (c now : ConnState S) (old new : List Wire) → c.local ≡ node.server → c.boot ≡ node.boot → e.mss ≤ 1460
    → StandsBefore service c (point_of service node.profile e)
    → ((p : Point) → p.key ≡ e.key → Begins service node.server node.boot c p → ConnGoes (grammar_of node.profile) service node.server node.boot Becomes_live p now old new)
    → SlotRevives service node e.key (Lives (point_of service node.profile e)) (slot.Live now) old new
unfolding Begins
live_again service node e c now old new local boot size before h =
    let g = h (point_of service node.profile e) refl (before, record { local = local; incarnation = boot; size = size; room = resumed_leaves node.profile.timestamps e.mss; echo = resumed_short node.profile.timestamps e.mss }) in record {
      after = Lives g.after;
      packets = g.packets;
      stands = (g.key, g.stands);
      turn = (g.after, refl, g.turn);
      wires = g.wires;
      spelled = g.spelled;
    }

-- what a restart has put together goes on under the number that it was given
pub number_spliced : {S : Type 0} (profile : Profile) (service : Machine S) (e : Entry) (i : ℕ) (s : SplicedState S) → IsSplicedIn profile service e i s → s.endpoint.sending.iss ≡ i
number_spliced profile service e i s is = ⊎_elim (λ standing. sym standing.stands.stands.sends.sisn) (λ closed. closed.counts.iss) is.parts.tcp

pub proceeds_under : {S : Type 0} (profile : Profile) (service : Machine S) (e : Entry) (i : ℕ) (s : SplicedState S) (c now : ConnState S) → IsSplicedIn profile service e i s → c ≡ conn_of s
    → now.endpoint.sending.iss ≡ c.endpoint.sending.iss → now.south.delta ≡ c.south.delta → ProceedsUnder service e i now
proceeds_under profile service e i s c now is from number delta = record {
  number = number ∙ (ap (λ x. x.endpoint.sending.iss) from ∙ number_spliced profile service e i s is);
  delta = delta ∙ (ap (λ x. x.south.delta) from ∙ ap (λ x. x.delta) is.south);
}

-- its ACKs wait for the log exactly if those of its server do
pub delays_as_its_server : {S : Type 0} (service : Machine S) (node : Node) (e : Entry) (now : Slot S) (old new : List Wire)
    → SlotRevives service node e.key (Lives (point_of service node.profile e)) now old new → IfSome (conn_in (Some now)) (λ c. c.delays ≡ node.profile.delays)
unfolding IsOursAt
delays_as_its_server {S} service node e now old new r = go now r.after r.turn r.stands
  where
    first : Place → List Place → Place
    first other [] = other
    first other (x ∷ xs) = x

    stands : (c : ConnState S) (q : Point) → SlotStands service node e.key (slot.Live c) (Lives q) → c.delays ≡ q.delays
    stands c q st = st.1.0.keeps.delays

    go : (now : Slot S) (after : Place) → LivesOn service node Becomes_live (point_of service node.profile e) (after ∷ []) r.packets → SlotStands service node e.key now after
        → IfSome (conn_in (Some now)) (λ c. c.delays ≡ node.profile.delays)
    go (slot.Live c) after (q, is, t) st =
        stands c q (subst (SlotStands service node e.key (slot.Live c)) (ap (first after) is) st)
        ∙ (turn_keeps service node.profile node.server node.boot Becomes_live (point_of service node.profile e) q r.packets t (entry_has service node.profile e)).delays
    go (slot.Pending o) after t st = tt
    go slot.Done after t st = tt
