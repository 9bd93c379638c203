-- A client's turns follow one another: so do their calls and what is written.
use Rattle.std.proofs.Common.{◌≡◌, ◌∙◌, ◌^◌, IfSome, ℕ, Bool, true, false, suc, ◌+◌, ◌<◌, ◌≤◌, add-one, refl, sym, ap, subst, Option, None, Some, List, [], ◌∷◌, ◌++◌, length, take, drop, min, length-append, arith, Result, Ok, Err, slice_get}
use Rattle.std.proofs.Math.Seq.{take-length, take-append_seam, take-append-add}
use Rattle.std.proofs.lemmas.List.{length-take, take_more}
use Rattle.std.proofs.lemmas.Option.{slice_get_within, get_or_from_slice_get}
use Rattle.std.proofs.KnownBytes.{Appends-nil, Appends-trans}
use Rattle.std.specs.Io.KnownBytes.{Appends}
use Rattle.ft_io.specs.declared.Addr.{Addr}
use Rattle.ft_io.specs.declared.link_call.LinkCall.{LinkCall}
use Rattle.ft_io.specs.declared.link_call.LinkCall.TheVariants.{Bound, Handed}
use Rattle.ft_io.specs.declared.Failed.{Failed}
use Rattle.ft_io.specs.Link.{send_reported}
use Rattle.ft_io.specs.Reported.{Reports}
use Rattle.ft_io.specs.Sink.{AppendsFront}
use Rattle.ft_io.proofs.Recordings.{reports_on, none_reported}
use Rattle.tcp_endpoint.specs.Output.{packets}
use Rattle.ft_model.specs.Client.{Client, new_client}
use Rattle.ft_model.specs.Client.ClientKind.{Live}
use Rattle.ft_model.specs.Schedule.{bytes_of}
use Rattle.ft_model.specs.declared.schedule.Script.{Script}
use Rattle.tcp_rules.specs.Profiles.{profile_of}
use Rattle.peer_client.specs.Live.{LiveState, new_live_in, unread, handed, sent_by, turned}
use Rattle.peer_client.specs.Refinement.{IsBetween, IsDue}
use Rattle.peer_client.specs.declared.live.ClientEnd.{ClientEnd}
use Rattle.peer_client.specs.declared.live.ClientEnd.TheVariants as peer
use Rattle.link_parts.specs.declared.role.ClientRole.{ClientRole}
use Rattle.link_parts.specs.declared.status.NodeEnd.{NodeEnd}
use Rattle.link_parts.specs.declared.status.NodeEnd.TheVariants as ends
use Rattle.link_parts.specs.Receipt.{Received, received_as}
use Rattle.link_parts.specs.ClientTurns.{ClientTurn, after_receive, emptied, due_at, accepted_in, handings, flush_calls, client_calls, WasOpen}
use Rattle.link_parts.specs.ClientMachine.{AreNear, machine_then}
use Rattle.link_parts.specs.ClientRuns.{Runs, IsEndedBy, IsSpent, IsCutShort, IsClient, IsScript, DoesNothing, ScriptRunStops}
use Rattle.link_parts.specs.ClientParts.{AreHanded, HasReceived, HasTurned, IsLimited, IsFresh, BeginsBeside, RunStops}
use Rattle.link_parts.proofs.ClientLimits.{receive_limited, turned_limited, limited_at, new_limited, limited_unread}
use Rattle.link_parts.proofs.ClientBeside.{Beside, beside_none, beside_on, beside_ends}

-- packets are handed to send one by one
handings_more : (to : Addr) (packet : List ℕ) (others : List (List ℕ)) (losses : List Bool) (is_lost : Bool) → length losses ≡ length others
    → handings to (others ++ packet ∷ []) (losses ++ is_lost ∷ []) ≡ handings to others losses ++ Handed to packet is_lost ∷ []
handings_more to packet [] [] is_lost e = refl
handings_more to packet [] (l ∷ losses) is_lost e = cc
handings_more to packet (p ∷ others) [] is_lost e = cc
handings_more to packet (p ∷ others) (l ∷ losses) is_lost e =
    let fewer : length losses ≡ length others = omega (arith, e) in
    ap (λ calls. Handed to p l ∷ calls) (handings_more to packet others losses is_lost fewer)

-- so many packets were handed to send
pub record Hands (to : Addr) (count : ℕ) (all : List (List ℕ)) (old now : Option (List LinkCall)) : Type 0 where
  pub losses : List Bool
  pub each : length losses ≡ count
  pub reports : Reports old now (handings to (take count all) losses)

call_more : (to : Addr) (packet : List ℕ) (all : List (List ℕ)) (i : ℕ) (old mid new : Option (List LinkCall)) (is_lost : Bool) → slice_get all i ≡ Some packet
    → Hands to i all old mid → Reports mid new (Handed to packet is_lost ∷ []) → Hands to (i + 1) all old new
call_more to packet all i old mid new is_lost at h t =
    let within : i < length all = slice_get_within all i packet at in
    let one_more : take (i + 1) all ≡ take i all ++ packet ∷ [] =
    take_more all i packet within ∙ ap (λ x. take i all ++ x ∷ []) (get_or_from_slice_get all i packet packet at) in
    let same : length h.losses ≡ length (take i all) = omega (arith, h.each, length-take i all) in
    let calls : handings to (take (i + 1) all) (h.losses ++ is_lost ∷ []) ≡ handings to (take i all) h.losses ++ Handed to packet is_lost ∷ [] =
    ap (λ xs. handings to xs (h.losses ++ is_lost ∷ [])) one_more ∙ handings_more to packet (take i all) h.losses is_lost same in
    record {
      losses = h.losses ++ is_lost ∷ [];
      each = length-append h.losses (is_lost ∷ []) ∙ ap (λ n. n + 1) h.each;
      reports = subst (Reports old new) (sym calls) (reports_on old mid new (handings to (take i all) h.losses) (Handed to packet is_lost ∷ []) h.reports t);
    }

pub hands_more : (to : Addr) (packet : List ℕ) (all : List (List ℕ)) (i : ℕ) (old mid new : Option (List LinkCall)) (sent : Result (Unit {0}) Failed)
    → slice_get all i ≡ Some packet → Hands to i all old mid → Reports mid new (send_reported to packet sent) → Hands to (i + 1) all old new
hands_more to packet all i old mid new (Ok done) at h t = call_more to packet all i old mid new false at h t
hands_more to packet all i old mid new (Err failed) at h t = call_more to packet all i old mid new true at h t

pub hands_all : (to : Addr) (i : ℕ) (all : List (List ℕ)) (old new : Option (List LinkCall)) → i ≡ length all → Hands to i all old new → AreHanded to all old new
hands_all to i all old new e h =
    let whole : take i all ≡ all = ap (λ n. take n all) e ∙ take-length all in
    record { losses = h.losses; reports = subst (λ xs. Reports old new (handings to xs h.losses)) whole h.reports }

pub hands_none : (to : Addr) (all : List (List ℕ)) (reported : Option (List LinkCall)) → Hands to 0 all reported reported
hands_none to all reported = record { losses = []; each = refl; reports = none_reported reported }

-- one turn
module _ (isn : ℕ) (server : Addr) where
  pub turn_done : (before mid ready after : LiveState) (room buffer : List ℕ) (count : ℕ) (old between new : Option (List LinkCall)) (Writes : List ℕ → Type 0)
      → IsLimited isn before → 65535 ≤ length room → (r : HasReceived before mid old between) → count ≡ min (length (unread mid)) (length room)
      → buffer ≡ take count (unread mid) ++ drop count room → ready ≡ handed mid count → AreHanded server (packets (sent_by ready)) between new
      → after ≡ turned ready → Writes (take count buffer) → HasTurned server before after old new Writes
  turn_done before mid ready after room buffer count old between new Writes limited enough r count_is bytes_are ready_is sent after_is written =
      let m : LiveState = after_receive before r.received in
      let few : length (unread m) ≤ 65535 = limited_unread isn m (receive_limited isn before r.received limited) in
      let unread_is : length (unread mid) ≡ length (unread m) = ap (λ (l : LiveState). length (unread l)) r.state in
      let all : count ≡ length (unread mid) = omega (arith, few, unread_is, count_is, enough) in
      let due : ready ≡ emptied m = ready_is ∙ ap (handed mid) all ∙ ap emptied r.state in
      let front : take count buffer ≡ unread m =
      ap (take count) bytes_are
      ∙ ap (λ n. take n (take n (unread mid) ++ drop n room)) all
      ∙ ap (λ xs. take (length (unread mid)) (xs ++ drop (length (unread mid)) room)) (take-length (unread mid))
      ∙ take-append_seam (unread mid) (drop (length (unread mid)) room)
      ∙ ap unread r.state in
      record {
        turn = record { received = r.received; losses = sent.losses };
        reports = reports_on old between new (received_as r.received ∷ []) (flush_calls server (emptied m) sent.losses) r.reports
            (subst (λ (l : LiveState). Reports between new (flush_calls server l sent.losses)) due sent.reports);
        state = after_is ∙ ap turned due;
        written = subst Writes front written;
        beside = λ c standing none near. subst (λ (l : LiveState). IsDue l (machine_then before c r.received)) r.state (r.beside c standing none near);
      }

-- so many turns were done, after the first flush
pub record RunsTo (start : LiveState) (count : ℕ) (old now : Option (List LinkCall)) (Writes : List ℕ → Type 0) (client : LiveState) : Type 0 where
  pub first : List Bool
  pub turns : List ClientTurn
  pub count_is : length turns ≡ count
  pub reports : Reports old now (client_calls start.server start first turns)
  pub written : Writes (accepted_in start turns)
  pub state : client ≡ turned (due_at start turns)
  pub open_before : WasOpen start turns
  pub beside : (c : Client) → BeginsBeside start c → AreNear c turns → Beside start c turns

pub runs_none : (start client : LiveState) (server : Addr) (old now : Option (List LinkCall)) (out : Option (List ℕ)) → start.server ≡ server
    → AreHanded server (packets (sent_by start)) old now → client ≡ turned start → RunsTo start 0 old now (Appends out out) client
unfolding due_at accepted_in client_calls WasOpen
runs_none start client server old now out same sent state = record {
  first = sent.losses;
  turns = [];
  count_is = refl;
  reports = subst (λ (to : Addr). Reports old now (flush_calls to start sent.losses)) (sym same) sent.reports;
  written = Appends-nil out;
  state = state;
  open_before = tt;
  beside = λ c begins near. beside_none start c begins;
}

-- the outcome of a client between two turns
pub outcome_at : (start client : LiveState) (turns : List ClientTurn) → client ≡ turned (due_at start turns) → client.outcome ≡ (due_at start turns).outcome
outcome_at start client turns state = ap (λ (l : LiveState). l.outcome) state

pub runs_on : (isn : ℕ) (start client after : LiveState) (server : Addr) (i : ℕ) (old mid new : Option (List LinkCall)) (Writes More Both : List ℕ → Type 0)
    → IsLimited isn start → start.server ≡ server → ((xs ys : List ℕ) → Writes xs → More ys → Both (xs ++ ys)) → RunsTo start i old mid Writes client → client.outcome ≡ None
    → HasTurned server client after mid new More → RunsTo start (i + 1) old new Both after
unfolding due_at accepted_in client_calls WasOpen
runs_on isn start client after server i old mid new Writes More Both limited same both r none t =
    let l : LiveState = turned (due_at start r.turns) in
    let open_now : (due_at start r.turns).outcome ≡ None = sym (outcome_at start client r.turns r.state) ∙ none in
    let received : Received = t.turn.received in
    record {
      first = r.first;
      turns = t.turn ∷ r.turns;
      count_is = ap suc r.count_is ∙ sym (add-one i);
      reports = reports_on old mid new (client_calls start.server start r.first r.turns) _ r.reports
          (subst (λ (x : LiveState). Reports mid new (received_as received ∷ flush_calls start.server (emptied (after_receive x received)) t.turn.losses)) r.state
          (subst (λ (to : Addr). Reports mid new (received_as received ∷ flush_calls to (emptied (after_receive client received)) t.turn.losses)) (sym same) t.reports));
      written = both _ _ r.written (subst (λ (x : LiveState). More (unread (after_receive x received))) r.state t.written);
      state = t.state ∙ ap (λ (x : LiveState). turned (emptied (after_receive x received))) r.state;
      open_before = open_now;
      beside = λ c begins near.
          beside_on isn start c t.turn r.turns limited open_now
          (λ d standing undecided n. subst (λ (x : LiveState). IsBetween x d → x.outcome ≡ None → IsDue (after_receive x received) (machine_then x d received)) r.state
          (λ s u. t.beside d s u n) standing undecided)
          near.0 (r.beside c begins near.1);
    }

pub front_more : (a b c : Option (List ℕ)) (xs ys : List ℕ) → Appends a b xs → AppendsFront b c ys → AppendsFront a c (xs ++ ys)
front_more a b c xs ys h (n, k) = (length xs + n, subst (Appends a c) (sym (take-append-add xs ys n)) (Appends-trans a b c xs (take n ys) h k))

-- a client that continues keeps its limits
pub runs_limited : (isn : ℕ) (start client : LiveState) (i : ℕ) (old now : Option (List LinkCall)) (Writes : List ℕ → Type 0) → IsLimited isn start
    → RunsTo start i old now Writes client → IsLimited isn client
runs_limited isn start client i old now Writes limited r =
    subst (IsLimited isn) (sym r.state) (turned_limited isn (due_at start r.turns) (limited_at isn start r.turns limited))

-- one turn more, whose bytes are written completely or up to a prefix
module _ (isn : ℕ) (start client after : LiveState) (server : Addr) (i : ℕ) (old mid new : Option (List LinkCall)) (out_old out_mid out_new : Option (List ℕ)) where
  pub runs_whole : IsLimited isn start → start.server ≡ server → RunsTo start i old mid (Appends out_old out_mid) client → client.outcome ≡ None
      → HasTurned server client after mid new (Appends out_mid out_new) → RunsTo start (i + 1) old new (Appends out_old out_new) after
  runs_whole limited same r none t =
      runs_on isn start client after server i old mid new (Appends out_old out_mid) (Appends out_mid out_new) (Appends out_old out_new) limited same
      (λ xs ys h k. Appends-trans out_old out_mid out_new xs ys h k) r none t

  pub runs_front : IsLimited isn start → start.server ≡ server → RunsTo start i old mid (Appends out_old out_mid) client → client.outcome ≡ None
      → HasTurned server client after mid new (AppendsFront out_mid out_new) → RunsTo start (i + 1) old new (AppendsFront out_old out_new) after
  runs_front limited same r none t =
      runs_on isn start client after server i old mid new (Appends out_old out_mid) (AppendsFront out_mid out_new) (AppendsFront out_old out_new) limited same
      (λ xs ys h k. front_more out_old out_mid out_new xs ys h k) r none t

-- a run has come to its end
pub runs_end : (start client : LiveState) (machine : Client) (count most : ℕ) (old new : Option (List LinkCall)) (Writes : List ℕ → Type 0) (Ends : Option ClientEnd → ℕ → Type 0)
    → BeginsBeside start machine → count ≤ most → Ends client.outcome count → RunsTo start count old new Writes client → Runs start machine most [] old new Writes Ends
runs_end start client machine count most old new Writes Ends begins within ends r = record {
  first = r.first;
  turns = r.turns;
  within = omega (arith, r.count_is);
  reports = r.reports;
  written = r.written;
  open_before = r.open_before;
  ends = subst (λ (n : ℕ). Ends (due_at start r.turns).outcome n) (sym r.count_is) (subst (λ (o : Option ClientEnd). Ends o count) (outcome_at start client r.turns r.state) ends);
  modelled = λ near. beside_ends start machine r.turns (r.beside machine begins near);
}

-- a run comes after its bind
pub runs_behind : (start : LiveState) (machine : Client) (most : ℕ) (bound : List LinkCall) (before old new : Option (List LinkCall)) (Writes : List ℕ → Type 0)
    (Ends : Option ClientEnd → ℕ → Type 0) → Reports before old bound → Runs start machine most [] old new Writes Ends → Runs start machine most bound before new Writes Ends
runs_behind start machine most bound before old new Writes Ends b r = record {
  first = r.first;
  turns = r.turns;
  within = r.within;
  reports = reports_on before old new bound (client_calls start.server start r.first r.turns) b r.reports;
  written = r.written;
  open_before = r.open_before;
  ends = r.ends;
  modelled = r.modelled;
}

-- the client of the words, before its first flush
abbrev first_state : ClientRole → List ℕ → LiveState
first_state role script = new_live_in (profile_of role.profile) role.local role.server role.isn script

abbrev first_machine : ClientRole → List ℕ → Client
first_machine role script = new_client Live role.server (record { ip = role.local.ip; port = role.local.port }) role.isn script

pub fresh_client : (role : ClientRole) (script : List ℕ) (client : LiveState) → length script ≤ 2 ^ 24 → client ≡ first_state role script → IsFresh role client
fresh_client role script client short made = record {
  limited = subst (IsLimited role.isn) (sym made) (new_limited (profile_of role.profile) role.local role.server role.isn script short);
  server = ap (λ (l : LiveState). l.server) made;
  outcome = ap (λ (l : LiveState). l.outcome) made;
}

-- the machine of the model that begins with it
begins_beside : (role : ClientRole) (script : List ℕ) (client : LiveState) → client ≡ first_state role script → IsDue client (first_machine role script)
    → BeginsBeside client (first_machine role script)
begins_beside role script client made due = record {
  due = due;
  nothing = refl;
  unseen = ap (λ (l : LiveState). l.seen) made;
}

module _ (role : ClientRole) (script : List ℕ) (client : LiveState) (before mid new : Option (List LinkCall))
    (made : client ≡ first_state role script) (due : IsDue client (first_machine role script)) (bound : Reports before mid (Bound role.local ∷ [])) where
  pub script_runs : (Writes : List ℕ → Type 0) (Ends : Option ClientEnd → ℕ → Type 0)
      → ((machine : Client) → BeginsBeside client machine → Runs client machine role.turns [] mid new Writes Ends) → IsClient role script before new Writes Ends
  script_runs Writes Ends runs =
      runs_behind (first_state role script) (first_machine role script) role.turns (Bound role.local ∷ []) before mid new Writes Ends bound
      (subst (λ (l : LiveState). Runs l (first_machine role script) role.turns [] mid new Writes Ends) made
      (runs (first_machine role script) (begins_beside role script client made due)))

  pub script_stops : (out_old out_new : Option (List ℕ)) (end : NodeEnd)
      → ((machine : Client) → BeginsBeside client machine → RunStops client machine role.turns [] mid new out_old out_new end)
      → ScriptRunStops role script before new out_old out_new end
  script_stops out_old out_new ends.WriteFault runs = script_runs (AppendsFront out_old out_new) IsCutShort runs
  script_stops out_old out_new ends.Reset runs = script_runs (Appends out_old out_new) (IsEndedBy peer.Reset) runs
  script_stops out_old out_new ends.Spent runs = script_runs (Appends out_old out_new) (IsSpent role.turns) runs
  script_stops out_old out_new ends.Usage runs = absurd (runs (first_machine role script) (begins_beside role script client made due))
  script_stops out_old out_new ends.NoMemory runs = absurd (runs (first_machine role script) (begins_beside role script client made due))
  script_stops out_old out_new ends.LinkFault runs = absurd (runs (first_machine role script) (begins_beside role script client made due))
  script_stops out_old out_new (ends.Fenced newer) runs = absurd (runs (first_machine role script) (begins_beside role script client made due))
  script_stops out_old out_new ends.ReadFault runs = absurd (runs (first_machine role script) (begins_beside role script client made due))
  script_stops out_old out_new ends.ChildFault runs = absurd (runs (first_machine role script) (begins_beside role script client made due))

-- nothing was done
pub does_nothing : (reported : Option (List LinkCall)) (out : Option (List ℕ)) → DoesNothing reported reported out out
does_nothing reported out = (none_reported reported, refl)

pub without_memory : (role : ClientRole) (script : List ℕ) (reported : Option (List LinkCall)) (out : Option (List ℕ)) (end : NodeEnd) → end ≡ ends.NoMemory
    → ScriptRunStops role script reported reported out out end
without_memory role script reported out end is = subst (λ (e : NodeEnd). ScriptRunStops role script reported reported out out e) (sym is) (does_nothing reported out)

-- a script is short, be it given or read
pub script_short : (given : Option Script) (left_old left_new : Option (List ℕ)) (script : List ℕ) → IfSome given (λ s. length (bytes_of s) ≤ 2 ^ 24)
    → IsScript given left_old left_new script → length script ≤ 2 ^ 24
script_short (Some s) left_old left_new script few h = subst (λ xs. length xs ≤ 2 ^ 24) (sym h.0) few
script_short None left_old left_new script few h = h.2
