-- A turn of a node that serves, from those of its slots.
use Rattle.std.proofs.Common.{◌≡◌, ◌∙◌, ℕ, ◌+◌, Bool, true, false, ◌&&◌, ◌==◌, not, nat_lt, refl, sym, ap, ap₂, subst, arith, List, [], ◌∷◌, ◌++◌, map, length, append-nil, None, if◌then◌else◌}
use Rattle.std.specs.List.{flat_map}
use Rattle.ft_io.specs.declared.Key.{Key}
use Rattle.server_trait.specs.Service.{Machine}
use Rattle.std.specs.Map.{lookup}
use Rattle.std.specs.Option.{is_some}
use Rattle.ft_io.specs.Key.{key_eq}
use Rattle.seq_arith.specs.Message.{Message}
use Rattle.seq_arith.specs.Message.Body.{OpenMsg}
use Rattle.tcp_rules.specs.Profile.{grammar_of}
use Rattle.ft_model.specs.Connection.{reported_by}
use Rattle.seq_arith.specs.Packet.{Segment}
use Rattle.ft_model.specs.Network.{source_of}
use Rattle.ft_model.specs.Network.Packet.{To_client}
use Rattle.ft_model.specs.Node.{Node, Place, Input, is_for, is_known, pending_count}
use Rattle.ft_model.specs.Node.Place.{Opens}
use Rattle.ft_model.specs.Node.Input.{Packet_comes, Tick_comes, Message_comes}
use Rattle.ft_model.specs.Opening.{is_syn, initial_number, numbers_for, timestamping_for}
use Rattle.ft_model.specs.Refusal.{as_listen}
use Rattle.ft_model.specs.ServingTurn.{opens_at, newcomers, refusals, is_strange}
use Rattle.ft_model.specs.Wire.{Wire}
use Rattle.conn_marks.proofs.Serving.{quiet_message}
use Rattle.node_serving.specs.declared.serving.Serving.{Serving}
use Rattle.node_serving.specs.declared.slot.Slot.{Slot}
use Rattle.node_serving.specs.declared.slot.Slot.TheVariants as slot
use Rattle.node_serving.specs.Openings.{ArePut, Admits, all_opens}
use Rattle.node_serving.specs.RefusalPackets.{AreSent}
use Rattle.node_serving.specs.Slots.{numbers_of, AllSlotsGo}
use Rattle.node_serving.specs.ServingStage.{ServingStands, ServingGoes}
use Rattle.node_serving.proofs.Admitted.{known, unknown}
use Rattle.node_serving.proofs.SegmentArrival.{only_its_client}
use Rattle.node_serving.proofs.OneKey.{all_stay, none_concerned, none_found}
use Rattle.node_serving.proofs.Opens.{opens_are, put_on, put_none}

module _ {S : Type 0} (service : Machine S) (node : Node) where
  -- a turn in which no opening is made and no unknown client refused: the slots go, and then pending openings are asked for
  pub known_goes : (input : Input) (opened : ℕ) (places : List Place) (now : Serving S) (old mid new : List Wire) → newcomers node input opened places ≡ [] → refusals node input places ≡ []
      → now.next.0 ≡ initial_number node.isn opened → AllSlotsGo service node input places now.slots.entries old mid
      → ArePut (grammar_of node.profile) (all_opens node input now.slots.entries) mid new → ServingGoes service node input opened places now old new
  known_goes input opened places now old mid new none unrefused number goes asked =
      let opens : ArePut (grammar_of node.profile) (flat_map (opens_at node input) goes.after) mid new =
      subst (λ ps. ArePut (grammar_of node.profile) ps mid new) (sym (opens_are service node input now.slots.entries goes.after goes.stands)) asked in
      let all = put_on (grammar_of node.profile) goes.packets (flat_map (opens_at node input) goes.after) old mid new (record { wires = goes.wires; spelled = goes.spelled }) opens in
      let count : opened ≡ opened + length (newcomers node input opened places) = subst (λ ps. opened ≡ opened + length ps) (sym none) (omega arith) in record {
        later = goes.after;
        packets = goes.packets ++ flat_map (opens_at node input) goes.after;
        stands = record { number = number ∙ ap (initial_number node.isn) count; slots = goes.stands };
        turn = record {
          went = goes.after;
          by_places = goes.packets;
          all_go = goes.go;
          places = sym (append-nil goes.after) ∙ ap (λ ps. goes.after ++ ps) (sym none);
          packets = ap (λ ps. goes.packets ++ (ps ++ flat_map (opens_at node input) goes.after)) (sym unrefused);
        };
        wires = all.wires;
        spelled = all.spelled;
      }

  pub tick_goes : (opened : ℕ) (places : List Place) (now : Serving S) (old mid new : List Wire) → now.next.0 ≡ initial_number node.isn opened
      → AllSlotsGo service node Tick_comes places now.slots.entries old mid → ArePut (grammar_of node.profile) (all_opens node Tick_comes now.slots.entries) mid new
      → ServingGoes service node Tick_comes opened places now old new
  tick_goes opened places now old mid new number goes asked = known_goes Tick_comes opened places now old mid new refl refl number goes asked

  pub message_goes : (message : Message) (opened : ℕ) (places : List Place) (now : Serving S) (old new : List Wire) → now.next.0 ≡ initial_number node.isn opened
      → AllSlotsGo service node (Message_comes message) places now.slots.entries old new → ServingGoes service node (Message_comes message) opened places now old new
  message_goes message opened places now old new number goes =
      let nothing : all_opens node (Message_comes message) now.slots.entries ≡ [] =
      sym (opens_are service node (Message_comes message) now.slots.entries goes.after goes.stands) ∙ quiet_message node message goes.after in
      known_goes (Message_comes message) opened places now old new new refl refl number goes
      (subst (λ ps. ArePut (grammar_of node.profile) ps new new) (sym nothing) (record { wires = sym (append-nil new); spelled = tt }))

  -- a packet of no stranger makes no opening and gets no refusal
  no_newcomers : (segment : Segment) (opened : ℕ) (places : List Place) → is_strange node segment places ≡ false → newcomers node (Packet_comes segment) opened places ≡ []
  no_newcomers segment opened places familiar =
      ap (λ b. if b && is_syn segment && nat_lt (pending_count places) 64 then Opens (numbers_for node.profile node.isn opened segment) (timestamping_for node.profile segment) ∷ [] else []) familiar

  no_refusals : (segment : Segment) (places : List Place) → is_strange node segment places ≡ false → refusals node (Packet_comes segment) places ≡ []
  no_refusals segment places familiar = ap (λ b. if b then map To_client (as_listen node.server segment) else []) familiar

  -- one for another server does nothing
  pub others_packet : (segment : Segment) (opened : ℕ) (places : List Place) (now : Serving S) (reported : List Wire) → is_for node.server segment ≡ false
      → ServingStands service node opened places now → ServingGoes service node (Packet_comes segment) opened places now reported reported
  others_packet segment opened places now reported other st =
      let familiar : is_strange node segment places ≡ false = ap (λ b. b && not (is_known (source_of segment) places)) other in
      known_goes (Packet_comes segment) opened places now reported reported reported (no_newcomers segment opened places familiar) (no_refusals segment places familiar) st.number
      (none_concerned service node (Packet_comes segment) now.slots.entries places reported (λ k. ap (λ b. b && key_eq (source_of segment) k) other) st.slots)
      (subst (λ ps. ArePut (grammar_of node.profile) ps reported reported) (sym (none_asked now.slots.entries)) (put_none (grammar_of node.profile) reported))
    where
      none_asked : (es : List (Key × Slot S)) → all_opens node (Packet_comes segment) es ≡ []
      none_asked [] = refl
      none_asked ((k, slot.Pending o) ∷ es) =
          ap (λ b. (if b && is_syn segment && key_eq (source_of segment) k && segment.head.seq == o.cisn.0 then reported_by node.boot (OpenMsg (numbers_of k o)) ∷ [] else [])
          ++ all_opens node (Packet_comes segment) es) other ∙ none_asked es
      none_asked ((k, slot.Live c) ∷ es) = none_asked es
      none_asked ((k, slot.Done) ∷ es) = none_asked es

  -- one of a client that is known: its slot goes, and its opening is asked for if it repeats the SYN
  pub known_packet : (segment : Segment) (key : Key) (opened : ℕ) (places : List Place) (was now : Serving S) (old mid new : List Wire) → source_of segment ≡ key
      → is_some (lookup (key_eq key) was.slots.entries) ≡ true → ServingStands service node opened places was → now.next.0 ≡ initial_number node.isn opened
      → AllSlotsGo service node (Packet_comes segment) places now.slots.entries old mid → ArePut (grammar_of node.profile) (all_opens node (Packet_comes segment) now.slots.entries) mid new
      → ServingGoes service node (Packet_comes segment) opened places now old new
  known_packet segment key opened places was now old mid new from there st number goes asked =
      let placed : is_known (source_of segment) places ≡ true = known service node (source_of segment) was.slots.entries places st.slots
      (subst (λ k. is_some (lookup (key_eq k) was.slots.entries) ≡ true) (sym from) there) in
      let familiar : is_strange node segment places ≡ false = ap (λ b. is_for node.server segment && not b) placed ∙ and_none (is_for node.server segment) in
      known_goes (Packet_comes segment) opened places now old mid new (no_newcomers segment opened places familiar) (no_refusals segment places familiar) number goes asked
    where
      and_none : (a : Bool) → (a && false) ≡ false
      and_none true = refl
      and_none false = refl

  -- one of a stranger: it is refused, or opens
  pub strange_packet : (segment : Segment) (key : Key) (opened : ℕ) (places : List Place) (was now : Serving S) (old mid new : List Wire) → source_of segment ≡ key
      → is_for node.server segment ≡ true → lookup (key_eq key) was.slots.entries ≡ None → ServingStands service node opened places was
      → AreSent (as_listen node.server segment) old mid → Admits service node segment opened places now.next.0 now.slots.entries mid new
      → ServingGoes service node (Packet_comes segment) opened places now old new
  strange_packet segment key opened places was now old mid new from mine gone st refused admitted =
      let absent = none_found (key_eq (source_of segment)) was.slots.entries (subst (λ k. lookup (key_eq k) was.slots.entries ≡ None) (sym from) gone) in
      let stranger : is_strange node segment places ≡ true = ap₂ ◌&&◌ mine (ap not (unknown service node (source_of segment) was.slots.entries places st.slots absent)) in
      let rsts : refusals node (Packet_comes segment) places ≡ map To_client (as_listen node.server segment) =
      ap (λ b. if b then map To_client (as_listen node.server segment) else []) stranger in
      let opens = flat_map (opens_at node (Packet_comes segment)) (places ++ newcomers node (Packet_comes segment) opened places) in
      let all = put_on (grammar_of node.profile) (map To_client (as_listen node.server segment)) opens old mid new (refused.each (grammar_of node.profile)) admitted.opens in record {
        later = places ++ newcomers node (Packet_comes segment) opened places;
        packets = map To_client (as_listen node.server segment) ++ opens;
        stands = record { number = admitted.number; slots = admitted.stands };
        turn = record {
          went = places;
          by_places = [];
          all_go = all_stay service node (Packet_comes segment) (source_of segment) (only_its_client node segment) was.slots.entries places st.slots absent;
          places = refl;
          packets = ap (λ ps. ps ++ opens) (sym rsts);
        };
        wires = all.wires;
        spelled = all.spelled;
      }
