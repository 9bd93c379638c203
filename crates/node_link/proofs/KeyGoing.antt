-- A server's turn: what it sends, and how far it is after it, whatever has come; and a key's turn, from what the node's turn says of it.
use Rattle.std.proofs.Common.{◌≡◌, ◌∙◌, ◌<◌, ◌≤◌, inl, inr, ℕ, Bool, true, false, ◌&&◌, ◌||◌, ◌++◌, nat_lt, refl, sym, ap, subst, Option, Some, None, option_map, MatchOption, List, [], ◌∷◌, map, if◌then◌else◌}
use Rattle.std.specs.List.{AllByRecursion}
use Rattle.std.specs.Option.{option_to_list}
use Rattle.std.proofs.lemmas.Bool.{and_parts}
use Rattle.ft_io.specs.declared.Key.{Key}
use Rattle.ft_io.specs.Key.{key_eq}
use Rattle.server_trait.specs.Service.{Machine}
use Rattle.tcp_rules.specs.Profile.{grammar_of}
use Rattle.seq_arith.specs.Message.{Message, Numbers}
use Rattle.seq_arith.specs.Packet.{Segment, text_size}
use Rattle.tcp_rules.specs.Timestamping.{timestamps_sent}
use Rattle.seq_arith.specs.Message.Body.{OpenMsg}
use Rattle.ft_model.specs.Lawful.{Rests, Continues, Fetches as AreFetched, StageTurn, IsNearInput, IsSoundInput, asked, count_reported, fetched_then}
use Rattle.ft_model.specs.Connection.{reported_by}
use Rattle.ft_model.specs.Network.{Packet, source_of}
use Rattle.ft_model.specs.Node.{Node, Place, Input, is_for, pending_count}
use Rattle.ft_model.specs.Node.Place.{Opens}
use Rattle.ft_model.specs.Node.{Stage as law_stage}
use Rattle.ft_model.specs.Node.Stage.{Asking, Fetching, Serving as Is_serving}
use Rattle.ft_model.specs.Node.Input.{Packet_comes, Message_comes, Noise_comes, Tick_comes}
use Rattle.ft_model.specs.Opening.{initial_number, numbers_for, timestamping_for, is_syn}
use Rattle.ft_model.specs.Restart.{Fetched, is_fetched, wanted}
use Rattle.ft_model.specs.ServingTurn.{newcomers, is_strange, concerns}
use Rattle.ft_model.specs.Wire.{Wire, wire_by}
use Rattle.ft_model.proofs.Lists.{all_find, found_passes, same_key, none_is_some}
use Rattle.node_serving.specs.declared.identity.Identity.{Identity}
use Rattle.node_serving.specs.declared.serving.Serving.{Serving}
use Rattle.server_node.specs.declared.stage.Stage.{Stage}
use Rattle.server_node.specs.declared.stage.Stage.TheVariants as stage
use Rattle.node_serving.specs.Alone.{slot_of, StandsFor, IsNearFor, coming_to, is_syn_of, KeyTurn}
use Rattle.node_serving.specs.Clients.{Clients, Knows, clients_restored, pending_of}
use Rattle.server_node.specs.StageAlone.{Alone, Others, KnowsTurn}
use Rattle.server_node.specs.Apart.{TurnsApart}
use Rattle.node_serving.specs.Identity.{node_of}
use Rattle.node_serving.specs.Openings.{pending_slots}
use Rattle.server_node.specs.FetchStage.{FetchingStands}
use Rattle.server_node.specs.Restarts.{IsRestorable, IsForFetched, KeyRevives, RestoredAlone, RestartGoes, MessageRestarts}
use Rattle.server_node.specs.Stages.{StageStands, NodeGoes}
use Rattle.node_serving.specs.Ownership.{of_key}
use Rattle.node_serving.proofs.Known.{as_many}
use Rattle.node_serving.proofs.Strange.{opens_newcomer}
use Rattle.server_node.proofs.RestoredAlone.{silent_fetched}
use Rattle.node_link.specs.KeyLife.{entry_of, RestartsKey, Revived, ServesKey, KeyAdvances, IsSoundFor, IsFairFor}
use Rattle.node_link.specs.ServerStages.{ServerStage, restarts_by, fetches_or_serves, restarted, stage_on, EndSends, RestartSends, Sends}
use Rattle.node_link.specs.ServerStages.ServerStage.{Asks, Fetches, Serves_with}
use Rattle.node_link.specs.ServerParts.{StandsAt, HasFor}

-- a key of which the log has no entry isn't fetched
not_fetched : (key : Key) (fetched : List Fetched) → entry_of key fetched ≡ None → is_fetched key fetched ≡ false
not_fetched key [] none = refl
not_fetched key (f ∷ fetched) none = go (key_eq f.head.key key) refl (not_fetched key fetched)
  where
    go : (b : Bool) → key_eq f.head.key key ≡ b → (entry_of key fetched ≡ None → is_fetched key fetched ≡ false) → is_fetched key (f ∷ fetched) ≡ false
    go true t rest = none_is_some f (sym none ∙ ap (λ b. if b then Some f else entry_of key fetched) t)
    go false t rest = ap (λ b. b || is_fetched key fetched) t ∙ rest (sym (ap (λ b. if b then Some f else entry_of key fetched) t) ∙ none)

abbrev count_in : law_stage → ℕ
count_in (Fetching count fetched) = count
count_in _ = 0

abbrev fetched_in : law_stage → List Fetched
fetched_in (Fetching count fetched) = fetched
fetched_in _ = []

-- an opening's numbers depend on the next initial sequence number alone
same_newcomers : (node : Node) (input : Input) (m n : ℕ) (places : List Place) → initial_number node.isn m ≡ initial_number node.isn n → newcomers node input m places ≡ newcomers node input n places
same_newcomers node (Packet_comes segment) m n places same =
    ap (λ i.
    let numbers : Numbers = record { key = source_of segment; cisn = segment.head.seq; sisn = i; mss = text_size segment.head.mss (timestamps_sent (timestamping_for node.profile segment)) } in
    if is_strange node segment places && is_syn segment && nat_lt (pending_count places) 64 then Opens numbers (timestamping_for node.profile segment) ∷ [] else []) same
same_newcomers node (Message_comes message) m n places same = refl
same_newcomers node Noise_comes m n places same = refl
same_newcomers node Tick_comes m n places same = refl

same_turn : {State : Type 0} (service : Machine State) (node : Node) (input : Input) (key : Key) (m n pending many : ℕ) (place after : Option Place) (sent : List Packet)
    → initial_number node.isn m ≡ initial_number node.isn n → pending ≡ many → KeyTurn service node input key m pending place after sent
    → KeyTurn service node input key n many place after sent
same_turn service node input key m n pending many place after sent same counts (inl t) =
    let came = same_newcomers node (coming_to node key input) m n (option_to_list place) same in
    inl (record { went = t.went; by_places = t.by_places; all_go = t.all_go; places = t.places ∙ ap (λ ps. t.went ++ ps) came; packets = t.packets })
same_turn service node input key m n pending many place after sent same counts (inr p) =
    inr (record { syn = p.syn; full = subst (λ k. 64 ≤ k) counts p.full; unknown = p.unknown; still = p.still; silent = p.silent })

-- the SYN of a client for which the server has nothing makes an opening, while there is room for one
pub newcomer_opens : {State : Type 0} (service : Machine State) (node : Node) (key : Key) (clients : Clients) (segment : Segment) (after : Option Place) (sent : List Wire)
    → is_syn_of node key (Packet_comes segment) ≡ true → pending_of clients.known < 64 → ServesKey service node key clients None (Packet_comes segment) after sent
    → (after ≡ Some (Opens (numbers_for node.profile node.isn clients.opened segment) (timestamping_for node.profile segment)))
    × (of_key (grammar_of node.profile) key sent ≡ map (wire_by (grammar_of node.profile)) (reported_by node.boot (OpenMsg (numbers_for node.profile node.isn clients.opened segment)) ∷ []))
newcomer_opens service node key clients segment after sent syn few turn =
    let parts = and_parts (concerns node (Packet_comes segment) key) (is_syn segment) syn in
    let its = and_parts (is_for node.server segment) (key_eq (source_of segment) key) parts.0 in
    let opens = opens_newcomer service node segment key (same_key (source_of segment) key its.1) its.0 clients.opened (pending_of clients.known) after turn.packets parts.1 few turn.turn in
    (opens.0, turn.its.wires ∙ ap (map (wire_by (grammar_of node.profile))) opens.1)

module _ {State : Type 0} (services : ℕ → Machine State) where
  -- the stage of a node that asks, or fetches
  pub begins_at : (node : Node) (other : Node) (at : Stage State) (kind : ℕ) → StageStands (services kind) node at → node.stage ≡ Asking → StandsAt services other Asks at kind
  begins_at node other stage.Asking kind st is = tt
  begins_at node other (stage.Fetching f) kind (count, fetched, at, st) is = absurd (no count fetched (sym is ∙ at))
    where
      no : (count : ℕ) (fetched : List Fetched) → Asking ≡ Fetching count fetched → ⊥
      no count fetched e = cc
  begins_at node other (stage.Serving s) kind (opened, places, at, st) is = absurd (no opened places (sym is ∙ at))
    where
      no : (opened : ℕ) (places : List Place) → Asking ≡ Is_serving opened places → ⊥
      no opened places e = cc
  begins_at node other (stage.Marked m) kind st is = st
  begins_at node other stage.Lost kind st is = st

  fetches_at : (node : Node) (other : Node) (count : ℕ) (fetched : List Fetched) (at : Stage State) (kind : ℕ) → StageStands (services kind) node at
      → node.stage ≡ Fetching count fetched → StandsAt services other (Fetches count fetched) at kind
  fetches_at node other count fetched stage.Asking kind st is = absurd (no (sym is ∙ st))
    where
      no : Fetching count fetched ≡ Asking → ⊥
      no e = cc
  fetches_at node other count fetched (stage.Fetching f) kind (count', fetched', at, st) is =
      subst (λ s. FetchingStands (services kind) (count_in s) (fetched_in s) f) (sym at ∙ is) st
  fetches_at node other count fetched (stage.Serving s) kind (opened, places, at, st) is = absurd (no opened places (sym is ∙ at))
    where
      no : (opened : ℕ) (places : List Place) → Fetching count fetched ≡ Is_serving opened places → ⊥
      no opened places e = cc
  fetches_at node other count fetched (stage.Marked m) kind st is = st
  fetches_at node other count fetched stage.Lost kind st is = st

  -- before a node serves, it has nothing for a key
  pub none_asking : (node : Node) (key : Key) (at : Stage State) (kind : ℕ) → StandsAt services node Asks at kind → HasFor services node key None at kind
  none_asking node key stage.Asking kind st = tt
  none_asking node key (stage.Fetching f) kind st = tt
  none_asking node key (stage.Serving s) kind st = absurd st
  none_asking node key (stage.Marked m) kind st = tt
  none_asking node key stage.Lost kind st = tt

  none_fetching : (node : Node) (key : Key) (count : ℕ) (fetched : List Fetched) (at : Stage State) (kind : ℕ) → StandsAt services node (Fetches count fetched) at kind
      → HasFor services node key None at kind
  none_fetching node key count fetched stage.Asking kind st = tt
  none_fetching node key count fetched (stage.Fetching f) kind st = tt
  none_fetching node key count fetched (stage.Serving s) kind st = absurd st
  none_fetching node key count fetched (stage.Marked m) kind st = tt
  none_fetching node key count fetched stage.Lost kind st = tt

  -- a turn of a key: what the server then has for it
  pub record GoesFor (who : Identity) (key : Key) (input : Input) (was : ServerStage) (before : Option Place) (sent : List Wire) (now : Stage State) : Type 0 where
    pub after : Option Place
    pub goes : KeyAdvances (services who.kind) (node_of who Asking) key was before input (stage_on (node_of who Asking) input was) after sent
    pub has : HasFor services (node_of who Asking) key after now who.kind

  -- a turn of the server: how far it then is, what it sends, and the turn of each key
  pub record ServerGoes (who : Identity) (input : Input) (at : ServerStage) (was : Stage State) (sent : List Wire) (now : Stage State) : Type 0 where
    pub stands : StandsAt services (node_of who Asking) (stage_on (node_of who Asking) input at) now who.kind
    pub sends : Sends (services who.kind) (node_of who Asking) at input (stage_on (node_of who Asking) input at) sent
    pub keys : (key : Key) (place : Option Place) → HasFor services (node_of who Asking) key place was who.kind
        → IsFairFor (services who.kind) (node_of who Asking) key input at place → GoesFor who key input at place sent now

  abbrev ByLaw : Identity → Input → (was now : Stage State) → List Wire → Type 0
  ByLaw who input was now sent = (standing : law_stage) → IsNearInput who.local input standing → IsSoundInput (services who.kind) (node_of who standing) input standing
      → StageStands (services who.kind) (node_of who standing) was → NodeGoes (services who.kind) (node_of who standing) input who now sent

  module _ (who : Identity) where
    abbrev service : Machine State
    service = services who.kind

    abbrev here : Node
    here = node_of who Asking

    -- a key at the next stage of a restart
    record KeyLed (key : Key) (before : law_stage) (input : Input) (next : ServerStage) (sent : List Wire) (now : Stage State) : Type 0 where
      pub after : Option Place
      pub goes : RestartsKey service here key before input next after sent
      pub has : HasFor services here key after now who.kind

    -- a restart goes on, or ends
    record Led (before : law_stage) (at : ServerStage) (input : Input) (o : Option (ℕ × List Fetched)) (sent : List Wire) (now : Stage State) : Type 0 where
      pub stands : StandsAt services here (restarted o at) now who.kind
      pub sends : RestartSends service here before input (restarted o at) sent
      pub keys : (key : Key) → IsSoundFor service here key o → KeyLed key before input (restarted o at) sent now

    ends_on : (key : Key) (before : law_stage) (input : Input) (count : ℕ) (fetched : List Fetched) (s : Serving State) (sent : List Wire) → restarts_by here input before ≡ Some (count, fetched)
        → wanted count fetched ≡ None → RestoredAlone service here fetched s [] sent → IsSoundFor service here key (Some (count, fetched))
        → (clients : Clients) → KeyLed key before input (Serves_with clients) sent (stage.Serving s)
    ends_on key before input count fetched s sent reported complete r sound clients = go (entry_of key fetched) refl
      where
        go : (o : Option Fetched) → entry_of key fetched ≡ o → KeyLed key before input (Serves_with clients) sent (stage.Serving s)
        go None none =
            let fresh = not_fetched key fetched none in record {
              after = None;
              goes = record {
                count = count;
                fetched = fetched;
                reported = reported;
                complete = complete;
                packets = [];
                turn = subst (λ o. Revived service here key o None []) (sym none) (refl, refl);
                its = record { wires = ap (of_key (grammar_of here.profile) key) r.put ∙ silent_fetched (grammar_of here.profile) key fetched r.reported fresh r.whose; spelled = tt };
              };
              has = subst (λ o. StandsFor service here key o None) (sym (r.others key fresh)) tt;
            }
        go (Some f) is =
            let same : f.head.key ≡ key = same_key f.head.key key (found_passes (λ x. key_eq x.head.key key) fetched f is) in
            let each = all_find (λ x. IsRestorable service x → KeyRevives service here x (slot_of x.head.key s) r.reported) (λ x. key_eq x.head.key key) fetched f r.each is in
            let k = each (subst (λ o. MatchOption o (Unit {0}) (IsRestorable service)) is (sound complete)) in record {
              after = Some k.after;
              goes = record {
                count = count;
                fetched = fetched;
                reported = reported;
                complete = complete;
                packets = k.packets;
                turn = subst (λ o. Revived service here key o (Some k.after) k.packets) (sym is) k.turn;
                its = record { wires = ap (of_key (grammar_of here.profile) key) r.put ∙ (ap (λ x. of_key (grammar_of here.profile) x r.reported) (sym same) ∙ k.wires); spelled = k.spelled };
              };
              has = subst (λ x. StandsFor service here x (slot_of x s) (Some k.after)) same k.stands;
            }

    leads_on : (before : law_stage) (at : ServerStage) (input : Input) (count : ℕ) (fetched : List Fetched) (now : Stage State) (sent : List Wire) → restarts_by here input before ≡ Some (count, fetched)
        → ((after : law_stage) (packets : List Packet) → AreFetched service here count fetched after packets → StageTurn service here before input after packets)
        → RestartGoes service here count fetched now [] sent → Led before at input (Some (count, fetched)) sent now
    leads_on before at input count fetched (stage.Fetching f) sent reported law_of r =
        let turn : RestartSends service here before input (Fetches count fetched) sent = record {
          packets = asked here (Some r.next);
          turn = law_of (Fetching count fetched) (asked here (Some r.next))
              (subst (λ o. Continues service here count fetched o (Fetching count fetched) (asked here (Some r.next))) (sym r.missing) (refl, refl));
          wires = r.asks.wires;
          spelled = r.asks.spelled;
        } in
        let led : (key : Key) → KeyLed key before input (Fetches count fetched) sent (stage.Fetching f) = λ key. record { after = None; goes = (refl, turn); has = tt } in record {
          stands = subst (λ o. StandsAt services here (fetches_or_serves o count fetched) (stage.Fetching f) who.kind) (sym r.missing) r.stands;
          sends = subst (λ o. RestartSends service here before input (fetches_or_serves o count fetched) sent) (sym r.missing) turn;
          keys = λ key sound. subst (λ o. KeyLed key before input (fetches_or_serves o count fetched) sent (stage.Fetching f)) (sym r.missing) (led key);
        }
    leads_on before at input count fetched (stage.Serving s) sent reported law_of (complete, r) =
        let whose : AllByRecursion (IsForFetched (grammar_of here.profile) fetched) sent = subst (AllByRecursion (IsForFetched (grammar_of here.profile) fetched)) (sym r.put) r.whose in record {
          stands = subst (λ o. StandsAt services here (fetches_or_serves o count fetched) (stage.Serving s) who.kind) (sym complete) r.known;
          sends = subst (λ o. RestartSends service here before input (fetches_or_serves o count fetched) sent) (sym complete)
              (subst (λ o. EndSends service here o sent) (sym reported) whose);
          keys = λ key sound. subst (λ o. KeyLed key before input (fetches_or_serves o count fetched) sent (stage.Serving s)) (sym complete)
              (ends_on key before input count fetched s sent reported complete r sound (clients_restored fetched));
        }
    leads_on before at input count fetched stage.Asking sent reported law_of r = absurd r
    leads_on before at input count fetched (stage.Marked m) sent reported law_of r = absurd r
    leads_on before at input count fetched stage.Lost sent reported law_of r = absurd r

    -- a turn that leads no restart on
    asks_still : (input : Input) (now : Stage State) (sent : List Wire) → StandsAt services here Asks now who.kind → RestartSends service here Asking input Asks sent
        → Led Asking Asks input None sent now
    asks_still input now sent st turn =
        record { stands = st; sends = turn; keys = λ key sound. record { after = None; goes = (refl, turn); has = none_asking here key now who.kind st } }

    fetches_still : (input : Input) (count : ℕ) (fetched : List Fetched) (now : Stage State) (sent : List Wire) → StandsAt services here (Fetches count fetched) now who.kind
        → RestartSends service here (Fetching count fetched) input (Fetches count fetched) sent → Led (Fetching count fetched) (Fetches count fetched) input None sent now
    fetches_still input count fetched now sent st turn =
        record { stands = st; sends = turn; keys = λ key sound. record { after = None; goes = (refl, turn); has = none_fetching here key count fetched now who.kind st } }

    -- a message while the logger is asked how many entries it has
    asks_message : (message : Message) (now : Stage State) (sent : List Wire) (o : Option ℕ) → count_reported here message ≡ o
        → MatchOption o ((now ≡ stage.Asking) × (sent ≡ [])) (λ count. RestartGoes service here count [] now [] sent)
        → Led Asking Asks (Message_comes message) (option_map (λ count. (count, [])) o) sent now
    asks_message message now sent None is (same, silent) =
        asks_still (Message_comes message) now sent (subst (λ n. StandsAt services here Asks n who.kind) (sym same) tt)
        (record {
          packets = [];
          turn = subst (λ o. MatchOption o (Rests Asking Asking []) (λ count. AreFetched service here count [] Asking [])) (sym is) (refl, refl);
          wires = silent;
          spelled = tt;
        })
    asks_message message now sent (Some count) is goes =
        leads_on Asking Asks (Message_comes message) count [] now sent (ap (option_map (λ count. (count, []))) is)
        (λ after packets fetches. subst (λ o. MatchOption o (Rests Asking after packets) (λ count. AreFetched service here count [] after packets)) (sym is) fetches) goes

    -- .. and while they are fetched
    stands_fetching : (count : ℕ) (fetched : List Fetched) (was : Stage State) → StandsAt services here (Fetches count fetched) was who.kind
        → StageStands service (node_of who (Fetching count fetched)) was
    stands_fetching count fetched (stage.Fetching f) st = (count, fetched, refl, st)
    stands_fetching count fetched stage.Asking st = absurd st
    stands_fetching count fetched (stage.Serving s) st = absurd st
    stands_fetching count fetched (stage.Marked m) st = absurd st
    stands_fetching count fetched stage.Lost st = absurd st

    answers_fetching : (message : Message) (count : ℕ) (fetched : List Fetched) (was now : Stage State) (sent : List Wire) → StandsAt services here (Fetches count fetched) was who.kind
        → MessageRestarts service here message was now sent
        → MatchOption (fetched_then here message count fetched) ((now ≡ was) × (sent ≡ [])) (λ more. RestartGoes service here count more now [] sent)
    answers_fetching message count fetched (stage.Fetching f) now sent st goes = goes count fetched st
    answers_fetching message count fetched stage.Asking now sent st goes = absurd st
    answers_fetching message count fetched (stage.Serving s) now sent st goes = absurd st
    answers_fetching message count fetched (stage.Marked m) now sent st goes = absurd st
    answers_fetching message count fetched stage.Lost now sent st goes = absurd st

    fetches_message : (message : Message) (count : ℕ) (fetched : List Fetched) (was now : Stage State) (sent : List Wire) (o : Option (List Fetched))
        → StandsAt services here (Fetches count fetched) was who.kind → fetched_then here message count fetched ≡ o
        → MatchOption o ((now ≡ was) × (sent ≡ [])) (λ more. RestartGoes service here count more now [] sent)
        → Led (Fetching count fetched) (Fetches count fetched) (Message_comes message) (option_map (λ more. (count, more)) o) sent now
    fetches_message message count fetched was now sent None st is (same, silent) =
        fetches_still (Message_comes message) count fetched now sent (subst (λ n. StandsAt services here (Fetches count fetched) n who.kind) (sym same) st)
        (record {
          packets = [];
          turn = subst (λ o. MatchOption o (Rests (Fetching count fetched) (Fetching count fetched) []) (λ more. AreFetched service here count more (Fetching count fetched) [])) (sym is) (refl, refl);
          wires = silent;
          spelled = tt;
        })
    fetches_message message count fetched was now sent (Some more) st is goes =
        leads_on (Fetching count fetched) (Fetches count fetched) (Message_comes message) count more now sent (ap (option_map (λ more. (count, more))) is)
        (λ after packets fetches. subst (λ o. MatchOption o (Rests (Fetching count fetched) after packets) (λ more. AreFetched service here count more after packets)) (sym is) fetches) goes

    -- a turn that is no answer
    asks_by : (input : Input) (now : Stage State) (sent : List Wire) (g : NodeGoes service here input who now sent) → g.after ≡ Asking
        → StageTurn service here Asking input Asking g.packets → Led Asking Asks input None sent now
    asks_by input now sent g is turn =
        asks_still input now sent (begins_at (node_of who g.after) here now who.kind g.stands is) (record { packets = g.packets; turn = turn; wires = g.wires; spelled = g.spelled })

    fetches_by : (input : Input) (count : ℕ) (fetched : List Fetched) (now : Stage State) (sent : List Wire) (g : NodeGoes service (node_of who (Fetching count fetched)) input who now sent)
        → g.after ≡ Fetching count fetched → StageTurn service here (Fetching count fetched) input (Fetching count fetched) g.packets
        → Led (Fetching count fetched) (Fetches count fetched) input None sent now
    fetches_by input count fetched now sent g is turn =
        fetches_still input count fetched now sent (fetches_at (node_of who g.after) here count fetched now who.kind g.stands is)
        (record { packets = g.packets; turn = turn; wires = g.wires; spelled = g.spelled })

    goes_asking : (input : Input) (now : Stage State) (sent : List Wire) → ByLaw who input stage.Asking now sent → TurnsApart service who input stage.Asking now sent
        → Led Asking Asks input (restarts_by here input Asking) sent now
    goes_asking (Message_comes message) now sent goes apart = asks_message message now sent (count_reported here message) refl (apart.restarts Asking)
    goes_asking (Packet_comes segment) now sent goes apart =
        let g = goes Asking tt tt refl in asks_by (Packet_comes segment) now sent g g.turn.stage.0 (refl, g.turn.stage.1)
    goes_asking Noise_comes now sent goes apart = let g = goes Asking tt tt refl in asks_by Noise_comes now sent g g.turn.stage.0 (refl, g.turn.stage.1)
    goes_asking Tick_comes now sent goes apart = let g = goes Asking tt tt refl in asks_by Tick_comes now sent g g.turn.stage.0 (refl, g.turn.stage.1)

    goes_fetching : (input : Input) (count : ℕ) (fetched : List Fetched) (was now : Stage State) (sent : List Wire) → StandsAt services here (Fetches count fetched) was who.kind
        → ByLaw who input was now sent → TurnsApart service who input was now sent
        → Led (Fetching count fetched) (Fetches count fetched) input (restarts_by here input (Fetching count fetched)) sent now
    goes_fetching (Message_comes message) count fetched was now sent st goes apart =
        fetches_message message count fetched was now sent (fetched_then here message count fetched) st refl
        (answers_fetching message count fetched was now sent st (apart.restarts Asking))
    goes_fetching (Packet_comes segment) count fetched was now sent st goes apart =
        let g = goes (Fetching count fetched) tt tt (stands_fetching count fetched was st) in fetches_by (Packet_comes segment) count fetched now sent g g.turn.stage.0 (refl, g.turn.stage.1)
    goes_fetching Noise_comes count fetched was now sent st goes apart =
        let g = goes (Fetching count fetched) tt tt (stands_fetching count fetched was st) in fetches_by Noise_comes count fetched now sent g g.turn.stage.0 (refl, g.turn.stage.1)
    goes_fetching Tick_comes count fetched was now sent st goes apart =
        let g = goes (Fetching count fetched) tt tt (stands_fetching count fetched was st) in fetches_by Tick_comes count fetched now sent g g.turn.stage.0 (refl, g.turn.stage.1)

    -- a turn of a server that serves
    serves_key : (key : Key) (input : Input) (s n : Serving State) (sent : List Wire) (clients : Clients) (place : Option Place) → Knows here clients s
        → StandsFor service here key (slot_of key s) place → Alone service here input (stage.Serving s) (stage.Serving n) sent → IsNearFor here.server input place
        → GoesFor who key input (Serves_with clients) place sent (stage.Serving n)
    serves_key key input s n sent clients place knows st alone near =
        let g = alone key place st near in record {
          after = g.after;
          goes = record {
            packets = g.packets;
            turn = same_turn service here input key g.opened clients.opened (pending_slots s.slots.entries) (pending_of clients.known) place g.after g.packets
                (sym g.number ∙ knows.number) (sym (as_many s.slots.entries) ∙ ap pending_of knows.known) g.turn;
            its = record { wires = g.wires; spelled = g.spelled };
          };
          has = g.stands;
        }

    goes_serving : (input : Input) (s : Serving State) (now : Stage State) (sent : List Wire) (clients : Clients) → Knows here clients s
        → Others here input (stage.Serving s) now sent → KnowsTurn here input (stage.Serving s) now → Alone service here input (stage.Serving s) now sent
        → ServerGoes who input (Serves_with clients) (stage.Serving s) sent now
    goes_serving input s (stage.Serving n) sent clients knows others known alone = record {
      stands = known clients knows;
      sends = others.whose;
      keys = λ key place has near. serves_key key input s n sent clients place knows has alone near;
    }
    goes_serving input s (stage.Fetching f) sent clients knows others known alone = absurd alone
    goes_serving input s stage.Asking sent clients knows others known alone = absurd alone
    goes_serving input s (stage.Marked m) sent clients knows others known alone = absurd alone
    goes_serving input s stage.Lost sent clients knows others known alone = absurd alone

  pub server_goes : (who : Identity) (input : Input) (was now : Stage State) (sent : List Wire) → ByLaw who input was now sent
      → TurnsApart (services who.kind) who input was now sent → (at : ServerStage) → StandsAt services (node_of who Asking) at was who.kind → ServerGoes who input at was sent now
  server_goes who input stage.Asking now sent goes apart Asks st =
      let led = goes_asking who input now sent goes apart in
      record { stands = led.stands; sends = led.sends; keys = λ key place has fair. let k = led.keys key fair in record { after = k.after; goes = k.goes; has = k.has } }
  server_goes who input (stage.Fetching f) now sent goes apart Asks st = absurd st
  server_goes who input (stage.Serving s) now sent goes apart Asks st = absurd st
  server_goes who input (stage.Marked m) now sent goes apart Asks st = absurd st
  server_goes who input stage.Lost now sent goes apart Asks st = absurd st
  server_goes who input was now sent goes apart (Fetches count fetched) st =
      let led = goes_fetching who input count fetched was now sent st goes apart in
      record { stands = led.stands; sends = led.sends; keys = λ key place has fair. let k = led.keys key fair in record { after = k.after; goes = k.goes; has = k.has } }
  server_goes who input stage.Asking now sent goes apart (Serves_with clients) st = absurd st
  server_goes who input (stage.Fetching f) now sent goes apart (Serves_with clients) st = absurd st
  server_goes who input (stage.Serving s) now sent goes apart (Serves_with clients) st =
      goes_serving who input s now sent clients st (apart.others Asking) (apart.known Asking) (apart.alone Asking)
  server_goes who input (stage.Marked m) now sent goes apart (Serves_with clients) st = absurd st
  server_goes who input stage.Lost now sent goes apart (Serves_with clients) st = absurd st
