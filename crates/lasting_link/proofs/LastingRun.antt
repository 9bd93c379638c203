-- The turns of a server that lasts follow one another: so do their calls, their counts add up, and they stay lawful as long as the premises hold.
use Rattle.std.proofs.Common.{◌≡◌, ◌∙◌, inl, inr, ℕ, suc, ◌+◌, ◌*◌, ◌<◌, ◌≤◌, ◌^◌, add-one, refl, sym, ap, ap₂, subst, Option, None, Some, List, [], ◌∷◌, ◌++◌, length, map, append-nil, length-append, arith}
use Rattle.std.specs.List.{AllByRecursion}
use Rattle.ft_io.specs.declared.link_call.LinkCall.{LinkCall}
use Rattle.ft_io.specs.declared.link_call.LinkCall.TheVariants.{Bound}
use Rattle.ft_io.specs.Sink.{AppendsFront}
use Rattle.ft_io.specs.Reported.{Reports}
use Rattle.ft_io.proofs.Recordings.{reports_on}
use Rattle.tcp_rules.specs.Profile.{grammar_of}
use Rattle.tcp_rules.specs.Profiles.{profile_of}
use Rattle.server_trait.specs.Service.{Machine}
use Rattle.server_trait.specs.declared.Service.{Ghosts}
use Rattle.ft_model.specs.Lawful.{hello}
use Rattle.ft_model.specs.Legal.{machines}
use Rattle.ft_model.specs.Wire.{Wire, wire_by, HasWireBy}
use Rattle.lasting_laws.specs.LastingTurn.{LastingNode as Law, LastingInput, LastingTurn}
use Rattle.lasting_laws.specs.LastingTurn.LastingInput.{Usual_comes, Forget_comes}
use Rattle.node_serving.specs.Identity.{service_of, grammar_in}
use Rattle.node_serving.specs.declared.identity.Identity.{Identity}
use Rattle.server_node.specs.declared.input.TurnEnd.{TurnEnd}
use Rattle.server_node.specs.declared.input.TurnEnd.TheVariants as end
use Rattle.lasting_node.specs.Turns.{LastingStands, LastingGoes, LastingTurns, patience_of, wires_of_sent, IsFairTo, IsUnfencedLasting, IsFenceOfLasting}
use Rattle.lasting_node.specs.declared.node.LastingNode.{LastingNode}
use Rattle.link_parts.specs.declared.counts.Counts.{Counts}
use Rattle.link_parts.specs.declared.role.Loggers.{Loggers}
use Rattle.link_parts.specs.declared.status.NodeEnd.{NodeEnd}
use Rattle.link_parts.specs.declared.status.NodeEnd.TheVariants as ends
use Rattle.link_parts.specs.Counts.{count_line, counts_of, with_calls, HasRoom}
use Rattle.link_parts.specs.LineOutput.{ReportStops}
use Rattle.link_parts.specs.Ranges.{most_turns}
use Rattle.link_parts.specs.Receipt.{Received, received_as}
use Rattle.link_parts.proofs.Calls.{counts_on, with_both, few_calls, IsFew}
use Rattle.node_link.specs.ServerTurns.{wires_in, Sent, sending, ServerTurn, turn_calls, server_calls}
use Rattle.node_link.specs.ServerParts.{HasSent, identity_of}
use Rattle.node_link.proofs.Serviced.{length_sending, length_sent}
use Rattle.lasting_link.specs.declared.role.LastingRole.{LastingRole}
use Rattle.lasting_link.specs.LastingLife.{lasting_first, lasting_grammar, lasting_input, lasting_input_in, fence_by, lasting_fence, LastingMoment, lasting_after, IsLastingTurn, AreLastingTurns, AreFairToLast, Lasts, IsLasting, IsCutLasting, IsFencedLasting, LastingStops}
use Rattle.lasting_link.specs.LastingParts.{HasBootedToLast, HasTurnedLasting, EndsLasting, IsAfterLasting, IsLastingServing, HasServedLasting, IsCutLastingServing, ServingLastingStops}

-- the calls are no longer than this
longer : (role : LastingRole) (at_boot : List Sent) (turns : List ServerTurn) (turn : ServerTurn) (count : ℕ)
    → length (server_calls role.server.loggers at_boot turns) ≤ (count + 1) * (2 ^ 65 + 1) → length turn.sent ≤ 2 ^ 64
    → length (server_calls role.server.loggers at_boot (turn ∷ turns)) ≤ (count + 1 + 1) * (2 ^ 65 + 1)
longer role at_boot turns turn count le few =
    let calls = server_calls role.server.loggers at_boot turns in
    let sum : length (calls ++ turn_calls role.server.loggers turn) ≡ length calls + length (turn_calls role.server.loggers turn) = length-append calls (turn_calls role.server.loggers turn) in
    omega (arith, sum, length_sending role.server.loggers turn.sent, le, few)

-- an input that doesn't fence it, and one that does
unfenced_by : (role : LastingRole) (who : Identity) (input : LastingInput) → who ≡ identity_of role.server → IsUnfencedLasting who input → fence_by role input ≡ None
unfenced_by role who (Usual_comes input) same none = subst (λ w. IsUnfencedLasting w (Usual_comes input)) same none (lasting_first role).node.stage
unfenced_by role who (Forget_comes message) same none = refl

fenced_by : (role : LastingRole) (who : Identity) (input : LastingInput) (newer : ℕ) → who ≡ identity_of role.server → IsFenceOfLasting who input (end.Fenced newer)
    → fence_by role input ≡ Some newer
fenced_by role who (Usual_comes input) newer same is = subst (λ w. IsFenceOfLasting w (Usual_comes input) (end.Fenced newer)) same is (lasting_first role).node.stage
fenced_by role who (Forget_comes message) newer same is = absurd is

module _ {S : Type 0} {s : Ghosts S} where
  -- a boot, from its parts
  pub booted : (role : LastingRole) (now : LastingNode S s) (old new : Option (List LinkCall)) (c counts : Counts) (wires : List Wire) → HasSent role.server.loggers wires old new c counts
      → wires ≡ map (wire_by (lasting_grammar role)) (hello (lasting_first role).node) → now.node.who ≡ identity_of role.server → now.patience ≡ role.patience
      → LastingStands (service_of s now.node.who) (lasting_first role) now → HasBootedToLast role now old new c counts
  booted role now old new c counts wires h is who patience stands = record {
    at_boot = h.sent;
    wires_are = h.wires_are ∙ is;
    few = subst (λ n. n ≤ 2 ^ 64) (sym (length_sent role.server.loggers wires old new c counts h ∙ ap length is)) (omega arith);
    reports = h.reports;
    counts_are = h.counts_are;
    who = who;
    patience = patience;
    stands = stands;
  }

  -- a turn, from its parts
  pub turned : (loggers : Loggers) (was now : LastingNode S s) (old mid new : Option (List LinkCall)) (c between counts : Counts) (r : Received) (input : LastingInput) (wires : List Wire)
      → Reports old mid (received_as r ∷ []) → between ≡ with_calls c (received_as r ∷ []) → input ≡ lasting_input (grammar_in was.node.who) loggers r → length wires ≤ 2 ^ 64
      → HasSent loggers wires mid new between counts → now.node.who ≡ was.node.who → now.patience ≡ was.patience → LastingTurns input was now wires → IsUnfencedLasting was.node.who input
      → HasTurnedLasting loggers was now old new c counts
  turned loggers was now old mid new c between counts r input wires t k is few sent who patience goes unfenced = record {
    turn = record { received = r; sent = sent.sent };
    few = subst (λ n. n ≤ 2 ^ 64) (sym (length_sent loggers wires mid new between counts sent)) few;
    reports = reports_on old mid new (received_as r ∷ []) (sending loggers sent.sent) t sent.reports;
    counts_are = sent.counts_are ∙ (ap (λ x. with_calls x (sending loggers sent.sent)) k ∙ with_both c (received_as r ∷ []) (sending loggers sent.sent));
    who = who;
    patience = patience;
    goes = subst (λ i. LastingTurns i was now (wires_in sent.sent)) is (subst (λ w. LastingTurns input was now w) (sym sent.wires_are) goes);
    unfenced = subst (IsUnfencedLasting was.node.who) is unfenced;
  }

  -- a turn that ended it
  pub turn_ends : (loggers : Loggers) (was : LastingNode S s) (old new : Option (List LinkCall)) (r : Received) (input : LastingInput) (e : TurnEnd) → Reports old new (received_as r ∷ [])
      → input ≡ lasting_input (grammar_in was.node.who) loggers r → IsFenceOfLasting was.node.who input e → (e ≡ end.NoMemory → IsUnfencedLasting was.node.who input)
      → EndsLasting loggers was old new e
  turn_ends loggers was old new r input e t is fenced memory = record {
    received = r;
    reports = t;
    fenced = subst (λ i. IsFenceOfLasting was.node.who i e) is fenced;
    memory = λ lost. subst (IsUnfencedLasting was.node.who) is (memory lost);
  }

  -- the turns so far: none, ..
  pub serving_none : (role : LastingRole) (now : LastingNode S s) (old new : Option (List LinkCall)) (c counts : Counts) → c ≡ counts_of [] → HasBootedToLast role now old new c counts
      → IsLastingServing role 0 now old new counts
  serving_none role now old new c counts none b = record {
    at_boot = b.at_boot;
    turns = [];
    count_is = refl;
    reports = b.reports;
    lasts = record { boots = b.wires_are; lawful = tt; unfenced = tt };
    counts_are = b.counts_are ∙ (ap (λ x. with_calls x (sending role.server.loggers b.at_boot)) none ∙ sym (counts_on [] (sending role.server.loggers b.at_boot)));
    total = omega (arith, length_sending role.server.loggers b.at_boot, b.few);
    who = b.who;
    patience = b.patience;
    stands = λ fair. record { moments = []; turns_are = tt; stands = b.stands };
  }

  -- .. and one more
  stands_on : (role : LastingRole) (turns : List ServerTurn) (was now : LastingNode S s) (turn : ServerTurn) → was.node.who ≡ identity_of role.server → was.patience ≡ role.patience
      → now.node.who ≡ was.node.who → LastingTurns (lasting_input (grammar_in was.node.who) role.server.loggers turn.received) was now (wires_in turn.sent)
      → (st : IsAfterLasting role turns was)
      → IsFairTo (service_of s (identity_of role.server)) (patience_of role.patience) (lasting_after (lasting_first role) st.moments) (lasting_input_in role turn.received)
      → IsAfterLasting role (turn ∷ turns) now
  stands_on role turns was now turn who patience same goes st fair =
      let n : Law = lasting_after (lasting_first role) st.moments in
      let i : LastingInput = lasting_input (grammar_in was.node.who) role.server.loggers turn.received in
      let half : IsFairTo (service_of s (identity_of role.server)) (patience_of was.patience) n (lasting_input (grammar_in (identity_of role.server)) role.server.loggers turn.received) =
      subst (λ p. IsFairTo (service_of s (identity_of role.server)) (patience_of p) n (lasting_input (grammar_in (identity_of role.server)) role.server.loggers turn.received)) (sym patience) fair in
      let whole : IsFairTo (service_of s was.node.who) (patience_of was.patience) n i =
      subst (λ w. IsFairTo (service_of s w) (patience_of was.patience) n (lasting_input (grammar_in w) role.server.loggers turn.received)) (sym who) half in
      let g : LastingGoes (service_of s was.node.who) n i was now (wires_in turn.sent) = goes n whole st.stands in
      let read : grammar_of n.node.profile ≡ lasting_grammar role = ap (λ m. grammar_of m.profile) st.stands.who ∙ ap grammar_in who in
      let own : LastingTurn (service_of s (identity_of role.server)) (patience_of was.patience) n (lasting_input (grammar_in (identity_of role.server)) role.server.loggers turn.received) g.packets g.after =
      subst (λ w. LastingTurn (service_of s w) (patience_of was.patience) n (lasting_input (grammar_in w) role.server.loggers turn.received) g.packets g.after) who g.turn in
      let lawful : LastingTurn (service_of s (identity_of role.server)) (patience_of role.patience) n (lasting_input_in role turn.received) g.packets g.after =
      subst (λ p. LastingTurn (service_of s (identity_of role.server)) (patience_of p) n (lasting_input_in role turn.received) g.packets g.after) patience own in
      record {
        moments = record { input = lasting_input_in role turn.received; sent = g.packets; after = g.after } ∷ st.moments;
        turns_are = (
          st.turns_are,
          record {
            input = refl;
            wires = subst (λ grammar. wires_in turn.sent ≡ wires_of_sent grammar g.packets) read g.wires;
            spelled = subst (λ grammar. AllByRecursion (HasWireBy grammar) g.packets.packets) read g.spelled;
          },
          lawful,
        );
        stands = subst (λ w. LastingStands (service_of s w) g.after now) (sym same) g.stands;
      }

  lawful_on : (role : LastingRole) (turns : List ServerTurn) (was now : LastingNode S s) (turn : ServerTurn) → was.node.who ≡ identity_of role.server → was.patience ≡ role.patience
      → now.node.who ≡ was.node.who → LastingTurns (lasting_input (grammar_in was.node.who) role.server.loggers turn.received) was now (wires_in turn.sent)
      → (AreFairToLast (machines s.started s.after s.greeting) role turns → IsAfterLasting role turns was) → AreFairToLast (machines s.started s.after s.greeting) role (turn ∷ turns) → IsAfterLasting role (turn ∷ turns) now
  lawful_on role turns was now turn who patience same goes stands fair =
      let st : IsAfterLasting role turns was = stands fair.0 in
      stands_on role turns was now turn who patience same goes st (fair.1 st.moments st.turns_are)

  pub serving_on : (role : LastingRole) (i : ℕ) (was now : LastingNode S s) (old mid new : Option (List LinkCall)) (c counts : Counts) → IsLastingServing role i was old mid c
      → HasTurnedLasting role.server.loggers was now mid new c counts → IsLastingServing role (i + 1) now old new counts
  serving_on role i was now old mid new c counts h t =
      let calls : List LinkCall = server_calls role.server.loggers h.at_boot h.turns in
      let stands : AreFairToLast (machines s.started s.after s.greeting) role (t.turn ∷ h.turns) → IsAfterLasting role (t.turn ∷ h.turns) now =
      lawful_on role h.turns was now t.turn h.who h.patience t.who t.goes h.stands in
      let none : lasting_fence role t.turn.received ≡ None =
      subst (λ w. fence_by role (lasting_input (grammar_in w) role.server.loggers t.turn.received) ≡ None) h.who
      (unfenced_by role was.node.who (lasting_input (grammar_in was.node.who) role.server.loggers t.turn.received) h.who t.unfenced) in
      record {
        at_boot = h.at_boot;
        turns = t.turn ∷ h.turns;
        count_is = ap suc h.count_is ∙ sym (add-one i);
        reports = reports_on old mid new calls (turn_calls role.server.loggers t.turn) h.reports t.reports;
        lasts = record {
          boots = h.lasts.boots;
          lawful = (h.lasts.lawful, λ fair. ((stands fair).moments, (stands fair).turns_are));
          unfenced = (none, h.lasts.unfenced);
        };
        counts_are = t.counts_are ∙ (ap (λ x. with_calls x (turn_calls role.server.loggers t.turn)) h.counts_are ∙ sym (counts_on calls (turn_calls role.server.loggers t.turn)));
        total = longer role h.at_boot h.turns t.turn i h.total t.few;
        who = t.who ∙ h.who;
        patience = t.patience ∙ h.patience;
        stands = stands;
      }

  pub room_for_turn : (role : LastingRole) (i most : ℕ) (now : LastingNode S s) (old new : Option (List LinkCall)) (counts : Counts) → i < most → most ≤ most_turns
      → IsLastingServing role i now old new counts → HasRoom (2 ^ 65) counts
  room_for_turn role i most now old new counts lt le h =
      let calls : List LinkCall = server_calls role.server.loggers h.at_boot h.turns in
      let few : IsFew (length calls) (counts_of calls) = few_calls calls in
      subst (HasRoom (2 ^ 65)) (sym h.counts_are) (record {
        turns = omega (arith, h.total, few.turns, lt, le);
        datagrams = omega (arith, h.total, few.datagrams, lt, le);
        sent = omega (arith, h.total, few.sent, lt, le);
        lost = omega (arith, h.total, few.lost, lt, le);
        failed = omega (arith, h.total, few.failed, lt, le);
      })

  pub served_all : (role : LastingRole) (i : ℕ) (now : LastingNode S s) (old new : Option (List LinkCall)) (counts : Counts) → i ≡ role.server.turns
      → IsLastingServing role i now old new counts → HasServedLasting (machines s.started s.after s.greeting) role old new counts
  served_all role i now old new counts e h = record {
    at_boot = h.at_boot;
    turns = h.turns;
    count_is = h.count_is ∙ e;
    reports = h.reports;
    lasts = h.lasts;
    counts_are = h.counts_are;
  }

  cut_by : (role : LastingRole) (i : ℕ) (was : LastingNode S s) (old mid new : Option (List LinkCall)) (counts : Counts) (e : TurnEnd) (Ends : Received → Type 0) → i < role.server.turns
      → IsLastingServing role i was old mid counts → (t : EndsLasting role.server.loggers was mid new e) → Ends t.received → IsCutLastingServing (machines s.started s.after s.greeting) role old new Ends
  cut_by role i was old mid new counts e Ends lt h t why = record {
    at_boot = h.at_boot;
    turns = h.turns;
    last = t.received;
    within = omega (arith, h.count_is, lt);
    reports = reports_on old mid new (server_calls role.server.loggers h.at_boot h.turns) (received_as t.received ∷ []) h.reports t.reports;
    lasts = h.lasts;
    ends = why;
  }

  pub serving_stops : (role : LastingRole) (i : ℕ) (was : LastingNode S s) (old mid new : Option (List LinkCall)) (counts : Counts) (e : TurnEnd) → i < role.server.turns
      → IsLastingServing role i was old mid counts → EndsLasting role.server.loggers was mid new e → ServingLastingStops (machines s.started s.after s.greeting) role old new e
  serving_stops role i was old mid new counts end.NoMemory lt h t =
      inr (cut_by role i was old mid new counts end.NoMemory (λ last. lasting_fence role last ≡ None) lt h t
      (subst (λ w. fence_by role (lasting_input (grammar_in w) role.server.loggers t.received) ≡ None) h.who
      (unfenced_by role was.node.who (lasting_input (grammar_in was.node.who) role.server.loggers t.received) h.who (t.memory refl))))
  serving_stops role i was old mid new counts (end.Fenced newer) lt h t =
      cut_by role i was old mid new counts (end.Fenced newer) (λ last. lasting_fence role last ≡ Some newer) lt h t
      (subst (λ w. fence_by role (lasting_input (grammar_in w) role.server.loggers t.received) ≡ Some newer) h.who
      (fenced_by role was.node.who (lasting_input (grammar_in was.node.who) role.server.loggers t.received) newer h.who t.fenced))

module _ {State : Type 0} (services : ℕ → Machine State) where
  -- a whole life
  pub lasting_done : (role : LastingRole) (before mid new : Option (List LinkCall)) (counts : Counts) (Writes : List ℕ → Type 0) → Reports before mid (Bound role.server.local ∷ [])
      → HasServedLasting services role mid new counts → Writes (count_line counts) → IsLasting services role before new Writes
  lasting_done role before mid new counts Writes b s w = record {
    at_boot = s.at_boot;
    turns = s.turns;
    count_is = s.count_is;
    reports = reports_on before mid new (Bound role.server.local ∷ []) (server_calls role.server.loggers s.at_boot s.turns) b s.reports;
    lasts = s.lasts;
    written = subst (λ c. Writes (count_line c)) s.counts_are w;
  }

  -- .. whose line wants memory
  unreported : (role : LastingRole) (before mid new : Option (List LinkCall)) (counts : Counts) → Reports before mid (Bound role.server.local ∷ []) → HasServedLasting services role mid new counts
      → IsCutLasting services role before new
  unreported role before mid new counts b s =
      let calls : List LinkCall = server_calls role.server.loggers s.at_boot s.turns in
      record {
        at_boot = s.at_boot;
        turns = s.turns;
        last = None;
        within = omega (arith, s.count_is);
        reports = reports_on before mid new (Bound role.server.local ∷ []) (calls ++ []) b (subst (Reports mid new) (sym (append-nil calls)) s.reports);
        lasts = s.lasts;
        unfenced = tt;
      }

  pub lasting_stops : (role : LastingRole) (before mid new : Option (List LinkCall)) (counts : Counts) (out_old out_new : Option (List ℕ)) (e : NodeEnd) → Reports before mid (Bound role.server.local ∷ [])
      → HasServedLasting services role mid new counts → ReportStops (count_line counts) out_old out_new e → LastingStops services role before new out_old out_new e
  lasting_stops role before mid new counts out_old out_new ends.NoMemory b s t = (inr (unreported role before mid new counts b s), t)
  lasting_stops role before mid new counts out_old out_new ends.WriteFault b s t = lasting_done role before mid new counts (AppendsFront out_old out_new) b s t
  lasting_stops role before mid new counts out_old out_new ends.LinkFault b s t = absurd t
  lasting_stops role before mid new counts out_old out_new ends.Usage b s t = absurd t
  lasting_stops role before mid new counts out_old out_new (ends.Fenced newer) b s t = absurd t
  lasting_stops role before mid new counts out_old out_new ends.Reset b s t = absurd t
  lasting_stops role before mid new counts out_old out_new ends.Spent b s t = absurd t
  lasting_stops role before mid new counts out_old out_new ends.ReadFault b s t = absurd t
  lasting_stops role before mid new counts out_old out_new ends.ChildFault b s t = absurd t

  cut_life : (role : LastingRole) (before mid new : Option (List LinkCall)) → Reports before mid (Bound role.server.local ∷ [])
      → IsCutLastingServing services role mid new (λ last. lasting_fence role last ≡ None) → IsCutLasting services role before new
  cut_life role before mid new b s = record {
    at_boot = s.at_boot;
    turns = s.turns;
    last = Some s.last;
    within = omega (arith, s.within);
    reports = reports_on before mid new (Bound role.server.local ∷ []) (server_calls role.server.loggers s.at_boot s.turns ++ received_as s.last ∷ []) b s.reports;
    lasts = s.lasts;
    unfenced = s.ends;
  }

  pub lasting_lost : (role : LastingRole) (before mid new : Option (List LinkCall)) (out : Option (List ℕ)) → Reports before mid (Bound role.server.local ∷ [])
      → ServingLastingStops services role mid new end.NoMemory → LastingStops services role before new out out ends.NoMemory
  lasting_lost role before mid new out b (inl same) = (inl (subst (λ reported. Reports before reported (Bound role.server.local ∷ [])) (sym same) b), refl)
  lasting_lost role before mid new out b (inr s) = (inr (cut_life role before mid new b s), refl)

  pub lasting_fenced : (role : LastingRole) (newer : ℕ) (before mid new : Option (List LinkCall)) (out : Option (List ℕ)) → Reports before mid (Bound role.server.local ∷ [])
      → ServingLastingStops services role mid new (end.Fenced newer) → LastingStops services role before new out out (ends.Fenced newer)
  lasting_fenced role newer before mid new out b s = (
    record {
      at_boot = s.at_boot;
      turns = s.turns;
      last = s.last;
      within = s.within;
      reports = reports_on before mid new (Bound role.server.local ∷ []) (server_calls role.server.loggers s.at_boot s.turns ++ received_as s.last ∷ []) b s.reports;
      lasts = s.lasts;
      fenced = s.ends;
    },
    refl,
  )
