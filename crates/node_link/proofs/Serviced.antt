-- A server's turns follow one another: so do their calls, their counts add up, and they stay lawful as long as the premises hold.
use Rattle.std.proofs.Common.{◌≡◌, ◌∙◌, inl, inr, ℕ, true, false, suc, ◌+◌, ◌*◌, ◌<◌, ◌≤◌, ◌^◌, add-one, refl, sym, ap, ap₂, subst, Option, None, Some, List, [], ◌∷◌, ◌++◌, length, take, get_or, map, append-nil, length-append, arith, Result, Ok, Err}
use Rattle.std.proofs.lemmas.List.{map-append, length-map, length-take-le}
use Rattle.std.proofs.lemmas.List.Concat.{flat_map-append}
use Rattle.std.proofs.Math.Seq.{take-suc}
use Rattle.ft_io.specs.declared.Addr.{Addr}
use Rattle.ft_io.specs.declared.Key.{Key}
use Rattle.ft_io.specs.declared.Failed.{Failed}
use Rattle.ft_io.specs.declared.link_call.LinkCall.{LinkCall}
use Rattle.ft_io.specs.declared.link_call.LinkCall.TheVariants.{Bound, Handed}
use Rattle.ft_io.specs.Link.{send_reported}
use Rattle.ft_io.specs.Sink.{AppendsFront}
use Rattle.ft_io.specs.Reported.{Reports}
use Rattle.ft_io.proofs.Recordings.{reports_on, none_reported}
use Rattle.ft_model.specs.Node as law
use Rattle.ft_model.specs.Lawful.{LawfulTurn, node_after, fence, hello}
use Rattle.server_trait.specs.Service.{Machine}
use Rattle.ft_model.specs.Wire.{Wire, wire_by}
use Rattle.server_node.specs.declared.input.TurnEnd.{TurnEnd}
use Rattle.server_node.specs.declared.input.TurnEnd.TheVariants as end
use Rattle.server_node.specs.Apart.{TurnsApart}
use Rattle.node_serving.specs.Identity.{node_of, grammar_in}
use Rattle.server_node.specs.Stages.{StageStands, NodeGoes, IsFence}
use Rattle.link_parts.specs.declared.counts.Counts.{Counts}
use Rattle.link_parts.specs.declared.role.Loggers.{Loggers}
use Rattle.link_parts.specs.declared.role.ServerRole.{ServerRole}
use Rattle.link_parts.specs.declared.status.NodeEnd.{NodeEnd}
use Rattle.link_parts.specs.declared.status.NodeEnd.TheVariants as ends
use Rattle.link_parts.specs.Counts.{count_line, counts_of, with_calls, HasRoom}
use Rattle.node_link.specs.KeyLife.{AreFairFor}
use Rattle.node_link.specs.ServerStages.{stage_after}
use Rattle.link_parts.specs.Receipt.{Received, received_as}
use Rattle.link_parts.specs.LineOutput.{ReportStops}
use Rattle.node_link.specs.ServerTurns.{input_from, Sent, wires_in, address_of, second_for, sent_second, sent_as, sending, ServerTurn, turn_calls, server_calls}
use Rattle.link_parts.specs.ServiceNumber.{kind_in}
use Rattle.node_link.specs.Incarnation.{service_of, first_of, grammar_for, input_in, IsFairAt, AreFair, fence_in}
use Rattle.node_link.specs.ServerLife.{IsServer, IsCutServer, ServerStops}
use Rattle.node_link.specs.ServerParts.{Standing, HasHanded, HasSent, identity_of, HasBooted, Goes, HasTurned, EndsTurn, TurnStops, IsAfterTurns, StandsAt, StandsForKey, IsServing, HasServed, IsCutServing, ServeStops}
use Rattle.node_link.proofs.KeyGoing.{ServerGoes, GoesFor, begins_at, none_asking, server_goes}
use Rattle.link_parts.proofs.Calls.{counts_on, with_both, with_none, few_calls, IsFew}
use Rattle.link_parts.specs.Ranges.{most_turns}

-- bytes that were handed to send
pub handed : (to : Addr) (bytes : List ℕ) (old new : Option (List LinkCall)) (c c' : Counts) (r : Result (Unit {0}) Failed) → Reports old new (send_reported to bytes r)
    → c' ≡ with_calls c (send_reported to bytes r) → HasHanded to bytes old new c c'
handed to bytes old new c c' (Ok x) t k = record { is_lost = false; reports = t; counts_are = k }
handed to bytes old new c c' (Err e) t k = record { is_lost = true; reports = t; counts_are = k }

-- a packet that was handed to send once, ..
pub sent_once : (loggers : Loggers) (wire : Wire) (old new : Option (List LinkCall)) (c c' : Counts) → second_for loggers wire.to ≡ None
    → HasHanded (address_of loggers.first wire.to) wire.bytes old new c c' → HasSent loggers (wire ∷ []) old new c c'
sent_once loggers wire old new c c' none h =
    let s : Sent = record { wire = wire; is_lost = h.is_lost; is_second_lost = false } in
    let first : LinkCall = Handed (address_of loggers.first wire.to) wire.bytes h.is_lost in
    let calls : first ∷ [] ≡ sending loggers (s ∷ []) = ap (λ o. first ∷ (sent_second o s ++ [])) (sym none) in
    record { sent = s ∷ []; wires_are = refl; reports = subst (Reports old new) calls h.reports; counts_are = h.counts_are ∙ ap (with_calls c) calls }

-- .. and one that was handed to both loggers
pub sent_twice : (loggers : Loggers) (wire : Wire) (second : Addr) (old mid new : Option (List LinkCall)) (c c' c'' : Counts) → second_for loggers wire.to ≡ Some second
    → HasHanded (address_of loggers.first wire.to) wire.bytes old mid c c' → HasHanded second wire.bytes mid new c' c'' → HasSent loggers (wire ∷ []) old new c c''
sent_twice loggers wire second old mid new c c' c'' is h k =
    let s : Sent = record { wire = wire; is_lost = h.is_lost; is_second_lost = k.is_lost } in
    let first : LinkCall = Handed (address_of loggers.first wire.to) wire.bytes h.is_lost in
    let next : LinkCall = Handed second wire.bytes k.is_lost in
    let calls : first ∷ next ∷ [] ≡ sending loggers (s ∷ []) = ap (λ o. first ∷ (sent_second o s ++ [])) (sym is) in
    record {
      sent = s ∷ [];
      wires_are = refl;
      reports = subst (Reports old new) calls (reports_on old mid new (first ∷ []) (next ∷ []) h.reports k.reports);
      counts_are = k.counts_are ∙ (ap (λ x. with_calls x (next ∷ [])) h.counts_are ∙ (with_both c (first ∷ []) (next ∷ []) ∙ ap (with_calls c) calls));
    }

-- packets that were handed to send so far
pub sent_none : (loggers : Loggers) (reported : Option (List LinkCall)) (c : Counts) → HasSent loggers [] reported reported c c
sent_none loggers reported c = record { sent = []; wires_are = refl; reports = none_reported reported; counts_are = sym (with_none c) }

sent_more : (loggers : Loggers) (wires : List Wire) (wire : Wire) (old mid new : Option (List LinkCall)) (c c' c'' : Counts) → HasSent loggers wires old mid c c'
    → HasSent loggers (wire ∷ []) mid new c' c'' → HasSent loggers (wires ++ wire ∷ []) old new c c''
sent_more loggers wires wire old mid new c c' c'' h k =
    let together : sending loggers (h.sent ++ k.sent) ≡ sending loggers h.sent ++ sending loggers k.sent = flat_map-append (sent_as loggers) h.sent k.sent in
    record {
      sent = h.sent ++ k.sent;
      wires_are = map-append (λ (x : Sent). x.wire) h.sent k.sent ∙ ap₂ (λ a b. a ++ b) h.wires_are k.wires_are;
      reports = subst (Reports old new) (sym together) (reports_on old mid new (sending loggers h.sent) (sending loggers k.sent) h.reports k.reports);
      counts_are = k.counts_are
          ∙ (ap (λ x. with_calls x (sending loggers k.sent)) h.counts_are ∙ (with_both c (sending loggers h.sent) (sending loggers k.sent) ∙ ap (with_calls c) (sym together)));
    }

pub sent_on : (loggers : Loggers) (wires : List Wire) (i : ℕ) (wire : Wire) (old mid new : Option (List LinkCall)) (c c' c'' : Counts) → i < length wires
    → wire ≡ get_or wires i wire → HasSent loggers (take i wires) old mid c c' → HasSent loggers (wire ∷ []) mid new c' c'' → HasSent loggers (take (i + 1) wires) old new c c''
sent_on loggers wires i wire old mid new c c' c'' lt at h k =
    let front : take i wires ++ wire ∷ [] ≡ take (i + 1) wires = ap (λ w. take i wires ++ w ∷ []) at ∙ (sym (take-suc wires i wire lt) ∙ ap (λ n. take n wires) (sym (add-one i))) in
    subst (λ ws. HasSent loggers ws old new c c'') front (sent_more loggers (take i wires) wire old mid new c c' c'' h k)

-- each is handed to send at most twice
at_most_one : (second : Option Addr) (s : Sent) → length (sent_second second s) ≤ 1
at_most_one None s = omega arith
at_most_one (Some second) s = omega arith

pub length_sending : (loggers : Loggers) (sent : List Sent) → length (sending loggers sent) ≤ 2 * length sent
length_sending loggers [] = omega arith
length_sending loggers (s ∷ more) =
    let sum : length (sent_as loggers s ++ sending loggers more) ≡ length (sent_as loggers s) + length (sending loggers more) = length-append (sent_as loggers s) (sending loggers more) in
    omega (arith, sum, at_most_one (second_for loggers s.wire.to) s, length_sending loggers more)

pub length_sent : (loggers : Loggers) (wires : List Wire) (old new : Option (List LinkCall)) (c counts : Counts) (h : HasSent loggers wires old new c counts) → length h.sent ≡ length wires
length_sent loggers wires old new c counts h = sym (length-map h.sent (λ (x : Sent). x.wire)) ∙ ap length h.wires_are

-- there is room for a packet's counts
pub room_for_packet : (loggers : Loggers) (wires : List Wire) (i : ℕ) (old new : Option (List LinkCall)) (c counts : Counts) → i < length wires → HasRoom (2 * length wires) c
    → HasSent loggers (take i wires) old new c counts → HasRoom 2 counts
room_for_packet loggers wires i old new c counts lt room h =
    let few : IsFew (length (sending loggers h.sent)) (counts_of (sending loggers h.sent)) = few_calls (sending loggers h.sent) in
    let le : length (sending loggers h.sent) ≤ 2 * length h.sent = length_sending loggers h.sent in
    let is : length h.sent ≡ i = length_sent loggers (take i wires) old new c counts h ∙ length-take-le i wires (omega (arith, lt)) in
    subst (HasRoom 2) (sym h.counts_are) (record {
      turns = omega (arith, room.turns, few.turns, le, is, lt);
      datagrams = omega (arith, room.datagrams, few.datagrams, le, is, lt);
      sent = omega (arith, room.sent, few.sent, le, is, lt);
      lost = omega (arith, room.lost, few.lost, le, is, lt);
      failed = omega (arith, room.failed, few.failed, le, is, lt);
    })

-- a turn that ended the node
pub turn_stops : {State : Type 0} → (loggers : Loggers) (before : Standing State) (old new : Option (List LinkCall)) (r : Received) (input : law.Input) (e : TurnEnd) → Reports old new (received_as r ∷ [])
    → input ≡ input_from (grammar_in before.who) loggers r → IsFence e (λ newer. (standing : law.Stage) → fence (node_of before.who standing) input ≡ Some newer)
    → (e ≡ end.NoMemory → (standing : law.Stage) → fence (node_of before.who standing) input ≡ None) → TurnStops loggers before old new e
turn_stops loggers before old new r input end.NoMemory t is f none =
    record { received = r; reports = t; ends = subst (λ i. (standing : law.Stage) → fence (node_of before.who standing) i ≡ None) is (none refl) }
turn_stops loggers before old new r input (end.Fenced newer) t is f none =
    record { received = r; reports = t; ends = subst (λ i. (standing : law.Stage) → fence (node_of before.who standing) i ≡ Some newer) is f }

-- the calls are no longer than this
longer : (role : ServerRole) (at_boot : List Sent) (turns : List ServerTurn) (turn : ServerTurn) (count : ℕ) → length (server_calls role.loggers at_boot turns) ≤ (count + 1) * (2 ^ 65 + 1)
    → length turn.sent ≤ 2 ^ 64 → length (server_calls role.loggers at_boot (turn ∷ turns)) ≤ (count + 1 + 1) * (2 ^ 65 + 1)
longer role at_boot turns turn count le few =
    let sum : length (server_calls role.loggers at_boot turns ++ turn_calls role.loggers turn) ≡ length (server_calls role.loggers at_boot turns) + length (turn_calls role.loggers turn) =
    length-append (server_calls role.loggers at_boot turns) (turn_calls role.loggers turn) in
    omega (arith, sum, length_sending role.loggers turn.sent, le, few)

module _ {State : Type 0} (services : ℕ → Machine State) where
  -- a turn, from its parts
  pub turned : (loggers : Loggers) (before after : Standing State) (old mid new : Option (List LinkCall)) (c between counts : Counts) (r : Received) (input : law.Input) (wires : List Wire)
      → Reports old mid (received_as r ∷ []) → between ≡ with_calls c (received_as r ∷ []) → input ≡ input_from (grammar_in before.who) loggers r → length wires ≤ 2 ^ 64 → HasSent loggers wires mid new between counts
      → after.who ≡ before.who → Goes services before input after wires → TurnsApart (services before.who.kind) before.who input before.stage after.stage wires
      → ((standing : law.Stage) → fence (node_of before.who standing) input ≡ None) → HasTurned services loggers before after old new c counts
  turned loggers before after old mid new c between counts r input wires t k is few sent who goes apart unfenced =
      record {
        turn = record { received = r; sent = sent.sent };
        few = subst (λ n. n ≤ 2 ^ 64) (sym (length_sent loggers wires mid new between counts sent)) few;
        reports = reports_on old mid new (received_as r ∷ []) (sending loggers sent.sent) t sent.reports;
        counts_are = sent.counts_are ∙ (ap (λ x. with_calls x (sending loggers sent.sent)) k ∙ with_both c (received_as r ∷ []) (sending loggers sent.sent));
        who = who;
        goes = subst (λ i. Goes services before i after (wires_in sent.sent)) is (subst (Goes services before input after) (sym sent.wires_are) goes);
        apart = subst (λ i. TurnsApart (services before.who.kind) before.who i before.stage after.stage (wires_in sent.sent)) is
            (subst (TurnsApart (services before.who.kind) before.who input before.stage after.stage) (sym sent.wires_are) apart);
        unfenced = subst (λ i. (standing : law.Stage) → fence (node_of before.who standing) i ≡ None) is unfenced;
      }

  -- a boot, from its parts
  pub booted : (role : ServerRole) (s : Standing State) (old new : Option (List LinkCall)) (c counts : Counts) (wires : List Wire) → HasSent role.loggers wires old new c counts
      → wires ≡ map (wire_by (grammar_for role)) (hello (first_of role)) → s.who ≡ identity_of role → StageStands (service_of services role) (first_of role) s.stage → HasBooted services role s old new c counts
  booted role s old new c counts wires h is who stands =
      record {
        at_boot = h.sent;
        wires_are = h.wires_are ∙ is;
        few = subst (λ n. n ≤ 2 ^ 64) (sym (length_sent role.loggers wires old new c counts h ∙ ap length is)) (omega arith);
        reports = h.reports;
        counts_are = h.counts_are;
        who = who;
        stands = stands;
      }

  -- the turns so far: none, ..
  pub serving_none : (role : ServerRole) (s : Standing State) (old new : Option (List LinkCall)) (c counts : Counts) → c ≡ counts_of [] → HasBooted services role s old new c counts → IsServing services role 0 s old new counts
  serving_none role s old new c counts none b =
      record {
        at_boot = b.at_boot;
        turns = [];
        count_is = refl;
        reports = b.reports;
        serves = record { boots = b.wires_are; lawful = tt; sends = tt; each_key = λ key. tt; unfenced = tt };
        counts_are = b.counts_are ∙ (ap (λ x. with_calls x (sending role.loggers b.at_boot)) none ∙ sym (counts_on [] (sending role.loggers b.at_boot)));
        total = omega (arith, length_sending role.loggers b.at_boot, b.few);
        who = b.who;
        stands = λ fair. record { turns_by_law = []; standing = law.Stage.Asking; incarnation = record { turns_are = tt; lawful = tt }; node = refl; stands = b.stands };
        at = begins_at services (first_of role) (first_of role) s.stage (kind_in role.service) b.stands refl;
        each_key = λ key fair. record {
          place = None;
          run = refl;
          has = none_asking services (first_of role) key s.stage (kind_in role.service) (begins_at services (first_of role) (first_of role) s.stage (kind_in role.service) b.stands refl);
        };
      }

  -- .. and one more
  goes_by : (role : ServerRole) (s : Standing State) (input : law.Input) (s' : Standing State) (wires : List Wire) → s.who ≡ identity_of role → Goes services s input s' wires
      → Goes services (record { who = identity_of role; stage = s.stage }) input s' wires
  goes_by role s input s' wires who goes = subst (λ w. Goes services (record { who = w; stage = s.stage }) input s' wires) who goes

  stands_on : (role : ServerRole) (turns : List ServerTurn) (turn : ServerTurn) (s s' : Standing State) → s.who ≡ identity_of role → Goes services s (input_in role turn.received) s' (wires_in turn.sent)
      → (st : IsAfterTurns services role turns s) → IsFairAt services role turn.received (node_after (first_of role) st.turns_by_law) → IsAfterTurns services role (turn ∷ turns) s'
  stands_on role turns turn s s' who goes st fair =
      let here : law.Node = node_of (identity_of role) st.standing in
      let fair_here : IsFairAt services role turn.received (node_of (identity_of role) st.standing) = subst (IsFairAt services role turn.received) st.node fair in
      let g : NodeGoes (service_of services role) (node_of (identity_of role) st.standing) (input_in role turn.received) (identity_of role) s'.stage (wires_in turn.sent) =
      goes_by role s (input_in role turn.received) s' (wires_in turn.sent) who goes st.standing fair_here.near fair_here.sound st.stands in
      let after : law.Node = node_of (identity_of role) g.after in
      let lawful : LawfulTurn (service_of services role) (node_after (first_of role) st.turns_by_law) (input_in role turn.received) g.packets (node_of (identity_of role) g.after) =
      subst (λ n. LawfulTurn (service_of services role) n (input_in role turn.received) g.packets (node_of (identity_of role) g.after)) (sym st.node) g.turn in
      record {
        turns_by_law = record { input = input_in role turn.received; sent = g.packets; node = node_of (identity_of role) g.after } ∷ st.turns_by_law;
        standing = g.after;
        incarnation = record {
          turns_are = (st.incarnation.turns_are, record { input = refl; wires = g.wires; spelled = g.spelled });
          lawful = (st.incarnation.lawful, lawful);
        };
        node = refl;
        stands = g.stands;
      }

  lawful_on : (role : ServerRole) (turns : List ServerTurn) (turn : ServerTurn) (s s' : Standing State) → s.who ≡ identity_of role → Goes services s (input_in role turn.received) s' (wires_in turn.sent)
      → (AreFair services role turns → IsAfterTurns services role turns s) → AreFair services role (turn ∷ turns) → IsAfterTurns services role (turn ∷ turns) s'
  lawful_on role turns turn s s' who goes stands fair =
      let st : IsAfterTurns services role turns s = stands fair.0 in
      stands_on role turns turn s s' who goes st (fair.1 st.turns_by_law st.incarnation)

  -- whatever has come, the server is as far as what has come says, and sends what it may send
  proceeds : (role : ServerRole) (turns : List ServerTurn) (turn : ServerTurn) (s s' : Standing State) → s.who ≡ identity_of role
      → Goes services s (input_in role turn.received) s' (wires_in turn.sent) → TurnsApart (services s.who.kind) s.who (input_in role turn.received) s.stage s'.stage (wires_in turn.sent)
      → StandsAt services (first_of role) (stage_after (first_of role) role.loggers turns) s.stage (kind_in role.service)
      → ServerGoes services (identity_of role) (input_in role turn.received) (stage_after (first_of role) role.loggers turns) s.stage (wires_in turn.sent) s'.stage
  proceeds role turns turn s s' who goes apart at =
      server_goes services (identity_of role) (input_in role turn.received) s.stage s'.stage (wires_in turn.sent)
      (goes_by role s (input_in role turn.received) s' (wires_in turn.sent) who goes)
      (subst (λ w. TurnsApart (services w.kind) w (input_in role turn.received) s.stage s'.stage (wires_in turn.sent)) who apart)
      (stage_after (first_of role) role.loggers turns) at

  key_on : (role : ServerRole) (turns : List ServerTurn) (turn : ServerTurn) (s s' : Standing State) (key : Key)
      → ServerGoes services (identity_of role) (input_in role turn.received) (stage_after (first_of role) role.loggers turns) s.stage (wires_in turn.sent) s'.stage
      → (AreFairFor (service_of services role) (first_of role) key role.loggers turns → StandsForKey services role key turns s)
      → AreFairFor (service_of services role) (first_of role) key role.loggers (turn ∷ turns) → StandsForKey services role key (turn ∷ turns) s'
  key_on role turns turn s s' key g stands fair =
      let st : StandsForKey services role key turns s = stands fair.0 in
      let next : GoesFor services (identity_of role) key (input_in role turn.received) (stage_after (first_of role) role.loggers turns) st.place (wires_in turn.sent) s'.stage =
      g.keys key st.place st.has (fair.1 st.place st.run) in
      record { place = next.after; run = (st.place, st.run, next.goes); has = next.has }

  pub serving_on : (role : ServerRole) (i : ℕ) (s s' : Standing State) (old mid new : Option (List LinkCall)) (c counts : Counts) → IsServing services role i s old mid c
      → HasTurned services role.loggers s s' mid new c counts → IsServing services role (i + 1) s' old new counts
  serving_on role i s s' old mid new c counts h t =
      let calls : List LinkCall = server_calls role.loggers h.at_boot h.turns in
      let read : input_from (grammar_in s.who) role.loggers t.turn.received ≡ input_in role t.turn.received =
      ap (λ w. input_from (grammar_in w) role.loggers t.turn.received) h.who in
      let goes : Goes services s (input_in role t.turn.received) s' (wires_in t.turn.sent) = subst (λ i. Goes services s i s' (wires_in t.turn.sent)) read t.goes in
      let apart : TurnsApart (services s.who.kind) s.who (input_in role t.turn.received) s.stage s'.stage (wires_in t.turn.sent) =
      subst (λ i. TurnsApart (services s.who.kind) s.who i s.stage s'.stage (wires_in t.turn.sent)) read t.apart in
      let g : ServerGoes services (identity_of role) (input_in role t.turn.received) (stage_after (first_of role) role.loggers h.turns) s.stage (wires_in t.turn.sent) s'.stage =
      proceeds role h.turns t.turn s s' h.who goes apart h.at in
      let stands : AreFair services role (t.turn ∷ h.turns) → IsAfterTurns services role (t.turn ∷ h.turns) s' = lawful_on role h.turns t.turn s s' h.who goes h.stands in
      let keys : (key : Key) → AreFairFor (service_of services role) (first_of role) key role.loggers (t.turn ∷ h.turns) → StandsForKey services role key (t.turn ∷ h.turns) s' =
      λ key. key_on role h.turns t.turn s s' key g (h.each_key key) in
      let none : fence_in role t.turn.received ≡ None =
      subst (λ w. fence (node_of w law.Stage.Asking) (input_from (grammar_in w) role.loggers t.turn.received) ≡ None) h.who (t.unfenced law.Stage.Asking) in
      record {
        at_boot = h.at_boot;
        turns = t.turn ∷ h.turns;
        count_is = ap suc h.count_is ∙ sym (add-one i);
        reports = reports_on old mid new (server_calls role.loggers h.at_boot h.turns) (turn_calls role.loggers t.turn) h.reports t.reports;
        serves = record {
          boots = h.serves.boots;
          lawful = (h.serves.lawful, λ fair. ((stands fair).turns_by_law, (stands fair).incarnation));
          sends = (h.serves.sends, g.sends);
          each_key = λ key. (h.serves.each_key key, λ fair. ((keys key fair).place, (keys key fair).run));
          unfenced = (none, h.serves.unfenced);
        };
        counts_are = t.counts_are ∙ (ap (λ x. with_calls x (turn_calls role.loggers t.turn)) h.counts_are ∙ sym (counts_on (server_calls role.loggers h.at_boot h.turns) (turn_calls role.loggers t.turn)));
        total = longer role h.at_boot h.turns t.turn i h.total t.few;
        who = t.who ∙ h.who;
        stands = stands;
        at = g.stands;
        each_key = keys;
      }

  pub room_for_turn : (role : ServerRole) (i most : ℕ) (s : Standing State) (old new : Option (List LinkCall)) (counts : Counts) → i < most → most ≤ most_turns → IsServing services role i s old new counts
      → HasRoom (2 ^ 65) counts
  room_for_turn role i most s old new counts lt le h =
      let few : IsFew (length (server_calls role.loggers h.at_boot h.turns)) (counts_of (server_calls role.loggers h.at_boot h.turns)) = few_calls (server_calls role.loggers h.at_boot h.turns) in
      subst (HasRoom (2 ^ 65)) (sym h.counts_are) (record {
        turns = omega (arith, h.total, few.turns);
        datagrams = omega (arith, h.total, few.datagrams);
        sent = omega (arith, h.total, few.sent);
        lost = omega (arith, h.total, few.lost);
        failed = omega (arith, h.total, few.failed);
      })

  pub served_all : (role : ServerRole) (i : ℕ) (s : Standing State) (old new : Option (List LinkCall)) (counts : Counts) → i ≡ role.turns → IsServing services role i s old new counts → HasServed services role old new counts
  served_all role i s old new counts e h =
      record { at_boot = h.at_boot; turns = h.turns; count_is = h.count_is ∙ e; reports = h.reports; serves = h.serves; counts_are = h.counts_are }

  cut_by : (role : ServerRole) (i : ℕ) (s : Standing State) (old mid new : Option (List LinkCall)) (counts : Counts) (Ends : Received → Type 0) (Why : law.Input → Type 0) → i < role.turns
      → IsServing services role i s old mid counts → (t : EndsTurn (grammar_for role) role.loggers mid new Why) → ((r : Received) → Why (input_in role r) → Ends r) → IsCutServing services role old new Ends
  cut_by role i s old mid new counts Ends Why lt h t f =
      record {
        at_boot = h.at_boot;
        turns = h.turns;
        last = t.received;
        within = omega (arith, h.count_is, lt);
        reports = reports_on old mid new (server_calls role.loggers h.at_boot h.turns) (received_as t.received ∷ []) h.reports t.reports;
        serves = h.serves;
        ends = f t.received t.ends;
      }

  pub serving_stops : (role : ServerRole) (i : ℕ) (s : Standing State) (old mid new : Option (List LinkCall)) (counts : Counts) (e : TurnEnd) → i < role.turns → IsServing services role i s old mid counts
      → TurnStops role.loggers s mid new e → ServeStops services role old new e
  serving_stops role i s old mid new counts end.NoMemory lt h t =
      inr (cut_by role i s old mid new counts (λ last. fence_in role last ≡ None) (λ input. (standing : law.Stage) → fence (node_of s.who standing) input ≡ None) lt h
      (subst (λ g. EndsTurn g role.loggers mid new (λ input. (standing : law.Stage) → fence (node_of s.who standing) input ≡ None)) (ap grammar_in h.who) t)
      (λ r f. subst (λ w. fence (node_of w law.Stage.Asking) (input_in role r) ≡ None) h.who (f law.Stage.Asking)))
  serving_stops role i s old mid new counts (end.Fenced newer) lt h t =
      cut_by role i s old mid new counts (λ last. fence_in role last ≡ Some newer) (λ input. (standing : law.Stage) → fence (node_of s.who standing) input ≡ Some newer) lt h
      (subst (λ g. EndsTurn g role.loggers mid new (λ input. (standing : law.Stage) → fence (node_of s.who standing) input ≡ Some newer)) (ap grammar_in h.who) t)
      (λ r f. subst (λ w. fence (node_of w law.Stage.Asking) (input_in role r) ≡ Some newer) h.who (f law.Stage.Asking))

  -- a whole life
  pub server_done : (role : ServerRole) (before mid new : Option (List LinkCall)) (counts : Counts) (Writes : List ℕ → Type 0) → Reports before mid (Bound role.local ∷ [])
      → HasServed services role mid new counts → Writes (count_line counts) → IsServer services role before new Writes
  server_done role before mid new counts Writes b s w = record {
    at_boot = s.at_boot;
    turns = s.turns;
    count_is = s.count_is;
    reports = reports_on before mid new (Bound role.local ∷ []) (server_calls role.loggers s.at_boot s.turns) b s.reports;
    serves = s.serves;
    written = subst (λ c. Writes (count_line c)) s.counts_are w;
  }

  -- .. whose line wants memory
  unreported : (role : ServerRole) (before mid new : Option (List LinkCall)) (counts : Counts) → Reports before mid (Bound role.local ∷ []) → HasServed services role mid new counts → IsCutServer services role before new
  unreported role before mid new counts b s =
      let calls : List LinkCall = server_calls role.loggers s.at_boot s.turns in
      record {
        at_boot = s.at_boot;
        turns = s.turns;
        last = None;
        within = omega (arith, s.count_is);
        reports = reports_on before mid new (Bound role.local ∷ []) (server_calls role.loggers s.at_boot s.turns ++ []) b (subst (Reports mid new) (sym (append-nil (server_calls role.loggers s.at_boot s.turns))) s.reports);
        serves = s.serves;
        unfenced = tt;
      }

  pub server_stops : (role : ServerRole) (before mid new : Option (List LinkCall)) (counts : Counts) (out_old out_new : Option (List ℕ)) (e : NodeEnd) → Reports before mid (Bound role.local ∷ [])
      → HasServed services role mid new counts → ReportStops (count_line counts) out_old out_new e → ServerStops services role before new out_old out_new e
  server_stops role before mid new counts out_old out_new ends.NoMemory b s t = (inr (unreported role before mid new counts b s), t)
  server_stops role before mid new counts out_old out_new ends.WriteFault b s t = server_done role before mid new counts (AppendsFront out_old out_new) b s t
  server_stops role before mid new counts out_old out_new ends.LinkFault b s t = absurd t
  server_stops role before mid new counts out_old out_new ends.Usage b s t = absurd t
  server_stops role before mid new counts out_old out_new (ends.Fenced newer) b s t = absurd t
  server_stops role before mid new counts out_old out_new ends.Reset b s t = absurd t
  server_stops role before mid new counts out_old out_new ends.Spent b s t = absurd t
  server_stops role before mid new counts out_old out_new ends.ReadFault b s t = absurd t
  server_stops role before mid new counts out_old out_new ends.ChildFault b s t = absurd t

  -- one that its turns ended
  pub server_lost : (role : ServerRole) (before mid new : Option (List LinkCall)) (out : Option (List ℕ)) → Reports before mid (Bound role.local ∷ []) → ServeStops services role mid new end.NoMemory
      → ServerStops services role before new out out ends.NoMemory
  server_lost role before mid new out b (inl same) = (inl (subst (λ t. Reports before t (Bound role.local ∷ [])) (sym same) b), refl)
  server_lost role before mid new out b (inr s) = (
    inr (record {
      at_boot = s.at_boot;
      turns = s.turns;
      last = Some s.last;
      within = omega (arith, s.within);
      reports = reports_on before mid new (Bound role.local ∷ []) (server_calls role.loggers s.at_boot s.turns ++ received_as s.last ∷ []) b s.reports;
      serves = s.serves;
      unfenced = s.ends;
    }),
    refl,
  )

  pub server_fenced : (role : ServerRole) (newer : ℕ) (before mid new : Option (List LinkCall)) (out : Option (List ℕ)) → Reports before mid (Bound role.local ∷ [])
      → ServeStops services role mid new (end.Fenced newer) → ServerStops services role before new out out (ends.Fenced newer)
  server_fenced role newer before mid new out b s = (
    record {
      at_boot = s.at_boot;
      turns = s.turns;
      last = s.last;
      within = s.within;
      reports = reports_on before mid new (Bound role.local ∷ []) (server_calls role.loggers s.at_boot s.turns ++ received_as s.last ∷ []) b s.reports;
      serves = s.serves;
      fenced = s.ends;
    },
    refl,
  )
