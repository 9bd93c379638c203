-- With two loggers: deliveries, flips and the stop of a logger are what may happen, and what is refused is refused by the events' tests.
use Rattle.std.proofs.Common.{◌≡◌, ◌∙◌, sym, ap, subst, refl, ◌≢◌, ℕ, zero, suc, ◌<◌, ◌≤◌, ◌*◌, ◌==◌, ◌&&◌, ◌||◌, not, nat_le, Bool, true, false, true≢false, ap₂, eqb-true, Some, None, List, [], ◌++◌, length, cond, arith}
use Rattle.std.specs.List.{AllByRecursion}
use Rattle.std.proofs.lemmas.Bool.Decides.{nat_tests}
use Rattle.std.proofs.lemmas.Bool.{or_parts}
use Rattle.ft_io.proofs.Choices.{by_cases}
use Rattle.ft_io.specs.declared.Key.{Key}
use Rattle.seq_arith.specs.Damage.{flipped}
use Rattle.seq_arith.specs.MessageGrammar as messages
use Rattle.seq_arith.specs.declared.kinds.Grammar.{Grammar}
use Rattle.seq_arith.proofs.MessageSpelling.{message_is_read}
use Rattle.server_trait.specs.Service.{Machine}
use Rattle.tcp_rules.specs.Profile.{grammar_of}
use Rattle.ft_model.specs.Network.{Packet}
use Rattle.ft_model.specs.Network.Packet.{To_server, To_client, To_logger, From_logger}
use Rattle.ft_model.specs.Wire.{wire_by, wire_of, HasWireBy}
use Rattle.ft_model.specs.Wire.Party.{The_logger}
use Rattle.ft_model.specs.World.{World as Seen, Delivered, Flipped, DeliveredAs}
use Rattle.ft_model.specs.declared.event.Event.TheVariants as events
use Rattle.ft_model.specs.declared.event.EventWhy.TheVariants as why
use Rattle.ft_model.specs.declared.way.Way.{Way}
use Rattle.ft_model.specs.declared.way.Way.TheVariants.{ClientToServer, ServerToClient, LoggerToServer}
use Rattle.ft_model.proofs.Lists.{all_slice_get, none_is_some, some_is}
use Rattle.twin_laws.specs.declared.part.Part.{Part}
use Rattle.twin_laws.specs.declared.part.Part.TheVariants as parts
use Rattle.twin_laws.specs.Twin.{asked}
use Rattle.twin_laws.specs.Twin.Between.{Forward, Got}
use Rattle.twin_laws.specs.StoredState.{left_alone}
use Rattle.twin_laws.specs.Pair.{Pair, IsPaired, stopped_by}
use Rattle.twin_laws.specs.TwinWorld.{Parcel, TwinWorld, Elsewhere, HeadHas, TailHas, LoggerHas, ParcelComes, ParcelFlipped, seen, parcel_at}
use Rattle.twin_laws.specs.TwinWorld.Parcel.{Outside, Inside}
use Rattle.twin_laws.specs.TwinWorld.TwinEvent.{Usual, Stop}
use Rattle.twin_laws.specs.TwinLegal.{part_number, bytes_of_parcel, refusal_of_twin_flip, may_stop, twin_refusal}
use Rattle.twin_laws.specs.SentBytes.{IsWritten}
use Rattle.schedule_network.specs.AtNumber.{at_number}
use Rattle.schedule_network.specs.StoredPackets.{way_along}
use Rattle.schedule_network.specs.Loggers.{Loggers, serving_log, stopped, part_numbered}
use Rattle.schedule_network.specs.Logs.Keepers.{Paired}
use Rattle.net_schedule.specs.Premises.{ComesAs}
use Rattle.net_schedule.specs.Refinement.{Kept}
use Rattle.net_schedule.specs.TwinRefinement.{stored_way, LoggersStand, TwinWorldStands, TwinProceeds, TwinAdvances, TwinPremises, ParcelComesAs, MayComeAs}
use Rattle.net_schedule.proofs.Bringing.{comes_whole, comes_changed, as_whole}
use Rattle.net_schedule.proofs.Events.{no_move}
use Rattle.net_schedule.proofs.Parcels.{FoundParcel, found_parcel, none_after}
use Rattle.net_schedule.proofs.TwinLoggers.{serving_is}

-- a way that leads to the server or to a client
abbrev pub leads_to_actor : Way → Bool
leads_to_actor (ServerToClient number) = true
leads_to_actor (ClientToServer number) = true
leads_to_actor LoggerToServer = true
leads_to_actor _ = false

-- the parcels that go there
pub by_outside : (P : Parcel → Type 0) (keys : List Key) (v : Seen) (parcel : Parcel) (way : Way) (bytes : List ℕ) → leads_to_actor way ≡ true → way ≡ stored_way keys parcel
    → MayComeAs v parcel bytes → ((packet : Packet) → (wire_of packet).to ≢ The_logger → way ≡ way_along keys (wire_of packet) → ComesAs v packet bytes → P (Outside packet)) → P parcel
by_outside P keys v (Outside (To_server segment)) way bytes leads is comes so = so (To_server segment) (λ e. absurd (cc)) is comes
by_outside P keys v (Outside (To_client segment)) way bytes leads is comes so = so (To_client segment) (λ e. absurd (cc)) is comes
by_outside P keys v (Outside (To_logger message)) way bytes leads is comes so = absurd (true≢false (sym leads ∙ ap leads_to_actor is))
by_outside P keys v (Outside (From_logger message)) way bytes leads is comes so = so (From_logger message) (λ e. absurd (cc)) is comes
by_outside P keys v (Inside (Forward number r)) way bytes leads is comes so = absurd (true≢false (sym leads ∙ ap leads_to_actor is))
by_outside P keys v (Inside (Got number)) way bytes leads is comes so = absurd (true≢false (sym leads ∙ ap leads_to_actor is))

pub written_at : (grammar : Grammar) (xs : List Parcel) (n : ℕ) (x : Parcel) → AllByRecursion (IsWritten grammar) xs → parcel_at xs n ≡ Some x → IsWritten grammar x
written_at grammar xs zero x a e = none_is_some x e
written_at grammar xs (suc n) x a e = all_slice_get (IsWritten grammar) xs n x a e

module _ {State : Type 0} (service : Machine State) where
  -- a parcel's own bytes are the parcel
  may_come : (v : TwinWorld) (p : TwinPremises service v) (n : ℕ) (x : Parcel) → parcel_at v.parcels n ≡ Some x → IsWritten (grammar_of v.profile) x
      → MayComeAs (seen v p.packets) x (bytes_of_parcel (grammar_of v.profile) x)
  may_come v p n (Outside packet) at wire = comes_whole service (seen v p.packets) packet wire (p.sent n packet at)
  may_come v p n (Inside between) at wire = tt

  outside_whole : (v after : TwinWorld) (packet : Packet) (sent : List Parcel) → HasWireBy (grammar_of v.profile) packet
      → Elsewhere (λ w. DeliveredAs service w packet (wire_by (grammar_of v.profile) packet).bytes) v sent after
      → Elsewhere (λ w. Delivered service w packet) v sent after
  outside_whole v after packet sent wire e = (e.0, e.1, as_whole service (seen v []) packet e.0 (seen after e.0) wire e.2, e.3, e.4)

  comes_so : (x : Parcel) (v : TwinWorld) (sent : List Parcel) (after : TwinWorld) → IsWritten (grammar_of v.profile) x
      → ParcelComesAs service x (bytes_of_parcel (grammar_of v.profile) x) v sent after
      → ParcelComes service x v sent after
  comes_so (Outside (To_logger m)) v sent after wire h =
      subst (λ r. LoggerHas v.pair.head_stopped (asked (messages.spelling_by (grammar_of v.profile) m) r) v sent after) (message_is_read m wire.0) h
  comes_so (Outside (To_server s)) v sent after wire h = outside_whole v after (To_server s) sent wire h
  comes_so (Outside (To_client s)) v sent after wire h = outside_whole v after (To_client s) sent wire h
  comes_so (Outside (From_logger m)) v sent after wire h = outside_whole v after (From_logger m) sent wire h
  comes_so (Inside (Forward number r)) v sent after wire h = subst (λ c. TailHas c v sent after) wire.1 h
  comes_so (Inside (Got number)) v sent after wire h = subst (λ c. HeadHas c v sent after) wire.1 h

  -- a parcel is delivered
  pub twin_delivers : (w w' : Kept State) (v : TwinWorld) (n : ℕ) (way : Way) (bytes : List ℕ) → TwinWorldStands service w v → (p : TwinPremises service v)
      → at_number w.packets.ways n ≡ Some way → at_number w.packets.bytes n ≡ Some bytes
      → ((parcel : Parcel) → way ≡ stored_way w.keys parcel → MayComeAs (seen v p.packets) parcel bytes → TwinProceeds service (ParcelComesAs service parcel bytes v) v w')
      → TwinAdvances service v (events.Deliver n) w'
  twin_delivers w w' v n way bytes st p e f brings =
      let x : FoundParcel (grammar_of v.profile) w.keys v.parcels n way bytes = found_parcel (grammar_of v.profile) w.keys w.packets v.parcels n way bytes st.packets e f in
      let wire : IsWritten (grammar_of v.profile) x.parcel = written_at (grammar_of v.profile) v.parcels n x.parcel p.written x.is in
      let came : MayComeAs (seen v p.packets) x.parcel bytes = subst (MayComeAs (seen v p.packets) x.parcel) (sym x.spells) (may_come v p n x.parcel x.is wire) in
      let g : TwinProceeds service (ParcelComesAs service x.parcel (bytes_of_parcel (grammar_of v.profile) x.parcel) v) v w' =
      subst (λ b. TwinProceeds service (ParcelComesAs service x.parcel b v) v w') x.spells (brings x.parcel x.goes came) in
      record {
        turn = Usual (events.Deliver n);
        is = refl;
        happens = record { sent = g.sent; world = g.world; goes = (x.parcel, x.is, comes_so x.parcel v g.sent g.world wire g.goes); stands = g.stands; grew = g.grew };
        allowed = rw x.is refl;
        scripted = no_move (seen v []) (events.Deliver n) _ (seen g.world []) refl;
      }

  pub twin_refuses_packet : (v : TwinWorld) (n : ℕ) → parcel_at v.parcels n ≡ None → twin_refusal v (events.Deliver n) ≡ Some why.Packet
  twin_refuses_packet v n e = rw e refl

  -- .. or with a changed bit
  may_come_changed : (v : Seen) (x : Parcel) (bit : ℕ) → IsWritten (grammar_of v.profile) x → bit < 8 * length (bytes_of_parcel (grammar_of v.profile) x)
      → MayComeAs v x (flipped bit (bytes_of_parcel (grammar_of v.profile) x))
  may_come_changed v (Outside packet) bit wire within = comes_changed service v packet bit wire within
  may_come_changed v (Inside between) bit wire within = tt

  outside_flipped : (v after : TwinWorld) (packet : Packet) (bit : ℕ) (sent : List Parcel) → HasWireBy (grammar_of v.profile) packet
      → bit < 8 * length (wire_by (grammar_of v.profile) packet).bytes
      → Elsewhere (λ w. DeliveredAs service w packet (flipped bit (wire_by (grammar_of v.profile) packet).bytes)) v sent after → Elsewhere (λ w. Flipped service w packet bit) v sent after
  outside_flipped v after packet bit sent wire within e = (e.0, e.1, record { wire = wire; within = within; comes = e.2 }, e.3, e.4)

  flipped_so : (x : Parcel) (bit : ℕ) (v : TwinWorld) (sent : List Parcel) (after : TwinWorld) → IsWritten (grammar_of v.profile) x → bit < 8 * length (bytes_of_parcel (grammar_of v.profile) x)
      → ParcelComesAs service x (flipped bit (bytes_of_parcel (grammar_of v.profile) x)) v sent after → ParcelFlipped service x bit v sent after
  flipped_so (Outside (To_logger m)) bit v sent after wire within h = (wire, within, h)
  flipped_so (Outside (To_server s)) bit v sent after wire within h = outside_flipped v after (To_server s) bit sent wire within h
  flipped_so (Outside (To_client s)) bit v sent after wire within h = outside_flipped v after (To_client s) bit sent wire within h
  flipped_so (Outside (From_logger m)) bit v sent after wire within h = outside_flipped v after (From_logger m) bit sent wire within h
  flipped_so (Inside (Forward number r)) bit v sent after wire within h = (wire.0, within, h)
  flipped_so (Inside (Got number)) bit v sent after wire within h = (wire.0, within, h)

  pub twin_flips : (w w' : Kept State) (v : TwinWorld) (n bit : ℕ) (way : Way) (bytes : List ℕ) → TwinWorldStands service w v → (p : TwinPremises service v)
      → at_number w.packets.ways n ≡ Some way → at_number w.packets.bytes n ≡ Some bytes → bit < 8 * length bytes
      → ((parcel : Parcel) → way ≡ stored_way w.keys parcel → MayComeAs (seen v p.packets) parcel (flipped bit bytes)
      → TwinProceeds service (ParcelComesAs service parcel (flipped bit bytes) v) v w') → TwinAdvances service v (events.Flip n bit) w'
  twin_flips w w' v n bit way bytes st p e f within brings =
      let x : FoundParcel (grammar_of v.profile) w.keys v.parcels n way bytes = found_parcel (grammar_of v.profile) w.keys w.packets v.parcels n way bytes st.packets e f in
      let wire : IsWritten (grammar_of v.profile) x.parcel = written_at (grammar_of v.profile) v.parcels n x.parcel p.written x.is in
      let inside : bit < 8 * length (bytes_of_parcel (grammar_of v.profile) x.parcel) = subst (λ b. bit < 8 * length b) x.spells within in
      let came : MayComeAs (seen v p.packets) x.parcel (flipped bit bytes) =
      subst (λ b. MayComeAs (seen v p.packets) x.parcel (flipped bit b)) (sym x.spells) (may_come_changed (seen v p.packets) x.parcel bit wire inside) in
      let g : TwinProceeds service (ParcelComesAs service x.parcel (flipped bit (bytes_of_parcel (grammar_of v.profile) x.parcel)) v) v w' =
      subst (λ b. TwinProceeds service (ParcelComesAs service x.parcel (flipped bit b) v) v w') x.spells (brings x.parcel x.goes came) in
      let has : nat_le (8 * length (bytes_of_parcel (grammar_of v.profile) x.parcel)) bit ≡ false = grind (arith, nat_tests) in
      record {
        turn = Usual (events.Flip n bit);
        is = refl;
        happens = record { sent = g.sent; world = g.world; goes = (x.parcel, x.is, flipped_so x.parcel bit v g.sent g.world wire inside g.goes); stands = g.stands; grew = g.grew };
        allowed = ap (λ o. refusal_of_twin_flip (grammar_of v.profile) o bit) x.is ∙ ap (λ b. cond b (Some why.Bit) None) has;
        scripted = no_move (seen v []) (events.Flip n bit) _ (seen g.world []) refl;
      }

  pub twin_refuses_no_packet : (v : TwinWorld) (n bit : ℕ) → parcel_at v.parcels n ≡ None → twin_refusal v (events.Flip n bit) ≡ Some why.Packet
  twin_refuses_no_packet v n bit e = ap (λ o. refusal_of_twin_flip (grammar_of v.profile) o bit) e

  pub twin_refuses_bit : (w : Kept State) (v : TwinWorld) (n bit : ℕ) (way : Way) (bytes : List ℕ) → TwinWorldStands service w v → at_number w.packets.ways n ≡ Some way
      → at_number w.packets.bytes n ≡ Some bytes → 8 * length bytes ≤ bit → twin_refusal v (events.Flip n bit) ≡ Some why.Bit
  twin_refuses_bit w v n bit way bytes st e f past =
      let x : FoundParcel (grammar_of v.profile) w.keys v.parcels n way bytes = found_parcel (grammar_of v.profile) w.keys w.packets v.parcels n way bytes st.packets e f in
      let beyond : 8 * length (bytes_of_parcel (grammar_of v.profile) x.parcel) ≤ bit = subst (λ b. 8 * length b ≤ bit) x.spells past in
      let has : nat_le (8 * length (bytes_of_parcel (grammar_of v.profile) x.parcel)) bit ≡ true = grind (arith, nat_tests) in
      ap (λ o. refusal_of_twin_flip (grammar_of v.profile) o bit) x.is ∙ ap (λ b. cond b (Some why.Bit) None) has

  -- a logger stops
  stop_stands : (part : Part) (w w' : Kept State) (v : TwinWorld) → (st : TwinWorldStands service w v) → IsPaired v.pair
      → w' ≡ record w { log = serving_log (stopped part st.loggers); keepers = Paired (stopped part st.loggers) }
      → TwinWorldStands service w' (record v { pair = stopped_by part v.pair; parcels = v.parcels ++ [] })
  stop_stands part w w' v st paired e =
      let pair : LoggersStand (grammar_of v.profile) (stopped part st.loggers) (stopped_by part v.pair) = stopped_stand (grammar_of v.profile) part st.loggers v.pair st.pair in
      subst (λ x. TwinWorldStands service x (record v { pair = stopped_by part v.pair; parcels = v.parcels ++ [] })) (sym e)
      (record {
        actors = record { server = st.actors.server; profile = st.actors.profile; keys = st.actors.keys; clients = st.actors.clients; boot = st.actors.boot; unmarked = st.actors.unmarked; node = st.actors.node; runs = st.actors.runs };
        loggers = stopped part st.loggers;
        double = refl;
        log = serving_is (grammar_of v.profile) (stopped part st.loggers) (stopped_by part v.pair) pair (alone_after part v.pair paired.head_alone);
        pair = pair;
        packets = none_after (grammar_of v.profile) w.keys w.packets v.parcels st.packets;
      })
    where
      stopped_stand : (grammar : Grammar) (part : Part) (l : Loggers) (p : Pair) → LoggersStand grammar l p → LoggersStand grammar (stopped part l) (stopped_by part p)
      stopped_stand grammar parts.Head l p s = record { head = s.head; tail = ap left_alone s.tail }
      stopped_stand grammar parts.Tail l p s = record { head = ap left_alone s.head; tail = s.tail }

      alone_after : (part : Part) (p : Pair) → p.head.alone ≡ p.tail_stopped → (stopped_by part p).head.alone ≡ (stopped_by part p).tail_stopped
      alone_after parts.Head p e = e
      alone_after parts.Tail p e = refl

  part_is : (number : ℕ) (part : Part) → part_numbered number ≡ Some part → part_number part ≡ number
  part_is number part e =
      by_cases (number == 1)
      (λ one.
      subst (λ q. part_number q ≡ number) (some_is parts.Head part (sym (ap (λ b. cond b (Some parts.Head) (cond (number == 2) (Some parts.Tail) None)) one) ∙ e))
      (sym (eqb-true number 1 one)))
      (λ other.
      let rest : cond (number == 2) (Some parts.Tail) None ≡ Some part = sym (ap (λ b. cond b (Some parts.Head) (cond (number == 2) (Some parts.Tail) None)) other) ∙ e in
      by_cases (number == 2)
      (λ two. subst (λ q. part_number q ≡ number) (some_is parts.Tail part (sym (ap (λ b. cond b (Some parts.Tail) None) two) ∙ rest)) (sym (eqb-true number 2 two)))
      (λ neither. none_is_some part (sym (ap (λ b. cond b (Some parts.Tail) None) neither) ∙ rest)))

  names_one : (part : Part) → (part_number part == 1 || part_number part == 2) ≡ true
  names_one parts.Head = refl
  names_one parts.Tail = refl

  names_none : (number : ℕ) → part_numbered number ≡ None → (number == 1 || number == 2) ≡ false
  names_none number e =
      by_cases (number == 1)
      (λ one. none_is_some parts.Head (sym e ∙ ap (λ b. cond b (Some parts.Head) (cond (number == 2) (Some parts.Tail) None)) one))
      (λ other.
      let rest : cond (number == 2) (Some parts.Tail) None ≡ None = sym (ap (λ b. cond b (Some parts.Head) (cond (number == 2) (Some parts.Tail) None)) other) ∙ e in
      by_cases (number == 2)
      (λ two. none_is_some parts.Tail (sym rest ∙ ap (λ b. cond b (Some parts.Tail) None) two))
      (λ neither. ap₂ (λ a b. a || b) other neither))

  same_pair : (a b : Loggers) → Paired a ≡ Paired b → a ≡ b
  same_pair a b e = cc

  -- whether one has stopped is known from the one that serves alone
  any_stopped : (v : TwinWorld) (l : Loggers) → LoggersStand (grammar_of v.profile) l v.pair → IsPaired v.pair → (l.tail.alone || l.head.alone) ≡ (v.pair.head_stopped || v.pair.tail_stopped)
  any_stopped v l stand paired =
      ap₂ (λ a b. a || b) (ap (λ k. k.alone) stand.tail ∙ paired.tail_alone) (ap (λ k. k.alone) stand.head ∙ paired.head_alone)

  may_not : (named ran : Bool) → ran ≡ true → (named && not ran) ≡ false
  may_not true true e = refl
  may_not false true e = refl
  may_not true false e = absurd (true≢false (sym e))
  may_not false false e = absurd (true≢false (sym e))

  pub twin_stops : (w w' : Kept State) (v : TwinWorld) (number : ℕ) (part : Part) (l : Loggers) → (st : TwinWorldStands service w v) → IsPaired v.pair → w.keepers ≡ Paired l
      → part_numbered number ≡ Some part → (l.tail.alone || l.head.alone) ≡ false
      → w' ≡ record w { log = serving_log (stopped part l); keepers = Paired (stopped part l) } → TwinAdvances service v (events.Stop number) w'
  twin_stops w w' v number part l st paired two names run e =
      let same : l ≡ st.loggers = same_pair l st.loggers (sym two ∙ st.double) in
      let both : (v.pair.head_stopped || v.pair.tail_stopped) ≡ false =
      sym (any_stopped v st.loggers st.pair paired) ∙ subst (λ x. (x.tail.alone || x.head.alone) ≡ false) same run in
      let runs = or_parts v.pair.head_stopped v.pair.tail_stopped both in
      let is : part_number part ≡ number = part_is number part names in
      let may : may_stop v.pair number ≡ true =
      ap₂ (λ a b. a && not b) (subst (λ n. (n == 1 || n == 2) ≡ true) is (names_one part)) both in
      record {
        turn = Stop part;
        is = ap events.Stop is;
        happens = record {
          sent = [];
          world = record v { pair = stopped_by part v.pair; parcels = v.parcels ++ [] };
          goes = (runs.0, runs.1, refl, refl);
          stands = stop_stands part w w' v st paired (e ∙ ap (λ x. record w { log = serving_log (stopped part x); keepers = Paired (stopped part x) }) same);
          grew = refl;
        };
        allowed = ap (λ b. cond b None (Some why.Stop)) may;
        scripted = no_move (seen v []) (events.Stop number) _ (seen (record v { pair = stopped_by part v.pair; parcels = v.parcels ++ [] }) []) refl;
      }

  pub twin_refuses_number : (v : TwinWorld) (number : ℕ) → part_numbered number ≡ None → twin_refusal v (events.Stop number) ≡ Some why.Stop
  twin_refuses_number v number e =
      ap (λ b. cond (b && not (v.pair.head_stopped || v.pair.tail_stopped)) None (Some why.Stop)) (names_none number e)

  pub twin_refuses_stop : (w : Kept State) (v : TwinWorld) (number : ℕ) (l : Loggers) → (st : TwinWorldStands service w v) → IsPaired v.pair → w.keepers ≡ Paired l
      → (l.tail.alone || l.head.alone) ≡ true → twin_refusal v (events.Stop number) ≡ Some why.Stop
  twin_refuses_stop w v number l st paired two stopped_one =
      let same : l ≡ st.loggers = same_pair l st.loggers (sym two ∙ st.double) in
      let one : (v.pair.head_stopped || v.pair.tail_stopped) ≡ true =
      sym (any_stopped v st.loggers st.pair paired) ∙ subst (λ x. (x.tail.alone || x.head.alone) ≡ true) same stopped_one in
      ap (λ b. cond b None (Some why.Stop)) (may_not (number == 1 || number == 2) (v.pair.head_stopped || v.pair.tail_stopped) one)
