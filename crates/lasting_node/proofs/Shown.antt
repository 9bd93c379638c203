-- A connection's numbers, as its parts show them, are those of its point.
use Rattle.limits.specs.Limits.{most_units}
use Rattle.std.proofs.Common.{◌≡◌, ◌∙◌, ◌⊎◌, inl, inr, ℕ, ◌≤◌, Bool, true, false, Option, MatchBool, refl, sym, ap, subst, true≢false, arith}
use Rattle.std.specs.Borrow.{Bor}
use Rattle.std.specs.Option.{option_copied}
use Rattle.ft_io.specs.declared.Addr.{Addr}
use Rattle.ft_io.specs.declared.Key.{Key}
use Rattle.seq_arith.specs.Number.{number_at}
use Rattle.seq_arith.proofs.Units.{one_at_most}
use Rattle.server_trait.specs.Service.{Machine}
use Rattle.server_trait.specs.declared.Service.{Ghosts}
use Rattle.ft_model.specs.Node.{Stage}
use Rattle.ft_model.specs.Point.{Point}
use Rattle.tcp_endpoint.specs.States.{has_begun}
use Rattle.tcp_endpoint.specs.declared.states.StateName.{StateName}
use Rattle.tcp_endpoint.specs.declared.states.StateName.TheVariants.{Closed, Listen, SynSent, SynReceived, Established, FinWait1, FinWait2, CloseWait, Closing, LastAck, TimeWait}
use Rattle.endpoint_laws.specs.ConnectionEnd.{IsNamed}
use Rattle.connection_laws.specs.ClosedTcp.{StandsClosed}
use Rattle.connection_laws.specs.Parts.{StandsOpen}
use Rattle.south_wrap.specs.SouthState.{acknowledged, window}
use Rattle.wrapped_conn.specs.ConnState.{ConnState}
use Rattle.wrapped_conn.specs.Numbers.{units_taken, una_units, sent_units, has_fin}
use Rattle.wrapped_conn.specs.Refinement.{StandsReset, StandsLive}
use Rattle.wrapped_conn.specs.Sound.{IsSound}
use Rattle.node_serving.specs.Conn.{IsOursAt}
use Rattle.node_serving.specs.Identity.{node_of, service_of}
use Rattle.node_serving.specs.Loan.{IsConnAt, place_in}
use Rattle.node_serving.proofs.LentConn.{reports_its_point}
use Rattle.server_node.specs.Stages.{StageStands}
use Rattle.lasting_laws.specs.LastingTurn as law
use Rattle.lasting_lives.specs.declared.outside.Outside.{Outside}
use Rattle.lasting_lives.specs.Watches.{ShowsPoint}
use Rattle.lasting_node.specs.declared.node.LastingNode.{LastingNode}
use Rattle.lasting_node.specs.Shown.{is_past_syn}
use Rattle.lasting_node.specs.Turns.{LastingStands}

past_syn : (name : StateName) (a closed fin acked : Bool) → has_begun name ≡ true → IsNamed name a closed fin acked → is_past_syn name ≡ a
past_syn Closed a c f k b n = absurd (true≢false (sym b))
past_syn Listen a c f k b n = absurd (true≢false (sym b))
past_syn SynSent a c f k b n = absurd (true≢false (sym b))
past_syn SynReceived a c f k b n = sym n.0
past_syn Established a c f k b n = sym n.0
past_syn CloseWait a c f k b n = sym n.0
past_syn FinWait1 a c f k b n = sym n.0
past_syn FinWait2 a c f k b n = sym n.0
past_syn Closing a c f k b n = sym n.0
past_syn LastAck a c f k b n = sym n.0
past_syn TimeWait a c f k b n = sym n.0

pub syn_acked_is : {S : Type 0} (service : Machine S) (c : ConnState S) (p : Point) → MatchBool p.reset (StandsReset service p c) (StandsLive service p c) → p.reset ≡ false
    → is_past_syn c.endpoint.name ≡ p.syn_acked
syn_acked_is service c p parts on = by live.parts.stand.tcp
  where
    live : StandsLive service p c
    live = subst (λ b. MatchBool b (StandsReset service p c) (StandsLive service p c)) on parts

    by : StandsOpen live.u live.i c.south.delta p c.endpoint ⊎ StandsClosed service live.u live.i c.south.delta p c.endpoint → is_past_syn c.endpoint.name ≡ p.syn_acked
    by (inl open_so) =
        past_syn c.endpoint.name c.endpoint.sending.syn_acked _ _ _ open_so.stands.begun open_so.named ∙ sym open_so.stands.stands.sends.syn_acked
    by (inr closed) = ap is_past_syn closed.name ∙ sym closed.syn_acked

-- all that is read of a connection at a point
pub shown : {S : Type 0} (service : Machine S) (server : Addr) (boot : ℕ) (p : Point) (c : ConnState S) → IsSound c → IsOursAt service server boot c p → (o : Outside) → o.key ≡ p.key → o.cisn.0 ≡ c.south.cisn
    → o.sisn.0 ≡ c.south.sisn → o.taken ≡ units_taken c → o.reads ≡ c.north.count → o.una ≡ una_units c → o.sent ≡ sent_units c → o.reset ≡ c.reset → o.syn_acked ≡ is_past_syn c.endpoint.name
    → o.ack.0 ≡ number_at c.south.cisn (acknowledged c.south) → o.window ≡ window c.south → ShowsPoint o p
unfolding IsOursAt
shown service server boot p c sound st o key cisn sisn taken reads una sent reset syn ack wind =
    let t = reports_its_point service server boot p c sound st in
    record {
      key = key;
      cisn = cisn ∙ ap (λ x. x.cisn) t.south;
      sisn = sisn ∙ ap (λ x. x.sisn) t.south;
      taken = taken ∙ t.numbers.tcp.taken;
      reads = reads ∙ t.numbers.reads;
      una = una ∙ t.numbers.tcp.una;
      sent = sent ∙ t.numbers.tcp.sent;
      reset = reset ∙ st.0.keeps.reset;
      syn_acked = λ on. syn ∙ syn_acked_is service c p st.0.parts on;
      ack = ack ∙ ap (λ x. number_at x.cisn (acknowledged x)) t.south;
      window = wind ∙ ap window t.south;
    }

-- a stream has at most 2^24 bytes, and its FIN
pub taken_small : {S : Type 0} (c : ConnState S) → IsSound c → units_taken c ≤ most_units
taken_small c sound = let one = one_at_most (has_fin c.endpoint.name) in omega (arith, sound.parts.read, sound.parts.limit, sound.parts.tcp.bounds.taken, one)

-- SYN-RECEIVED is the one state in which the SYN isn't acknowledged
pub past_others : (name : StateName) → (name ≡ SynReceived → ⊥) → is_past_syn name ≡ true
past_others SynReceived other = absurd (other refl)
past_others name other = refl

-- the connection that is lent is at its key's place
pub lent_at : {S : Type 0} {s : Ghosts S} (key : Key) (n : law.LastingNode) (was : LastingNode S s) (lent : Option (Bor (ConnState S))) → LastingStands (service_of s was.node.who) n was
    → ((standing : Stage) → StageStands (service_of s was.node.who) (node_of was.node.who standing) was.node.stage
    → IsConnAt (service_of s was.node.who) (node_of was.node.who standing) (option_copied lent) (place_in key standing))
    → IsConnAt (service_of s was.node.who) n.node (option_copied lent) (place_in key n.node.stage)
lent_at {S} {s} key n was lent st stands =
    let service : Machine S = service_of s was.node.who in
    subst (λ x. IsConnAt service x (option_copied lent) (place_in key n.node.stage)) (sym st.who) (stands n.node.stage (subst (λ x. StageStands service x was.node.stage) st.who st.stage))
