-- A turn of a server that marks, in the world that is seen.
use Rattle.std.proofs.Common.{◌≡◌, ℕ, ◌+◌, ◌==◌, ◌&&◌, arith, Bool, true, false, not, refl, sym, ap, ap₂, ◌∙◌, subst, true≢false, Option, Some, None, MatchOption, option_map, option_to_list, List, [], ◌∷◌, ◌++◌, map, length, append-nil, if◌then◌else◌}
use Rattle.std.specs.Prelude.{nat_lt}
use Rattle.ft_io.specs.declared.Key.{Key}
use Rattle.ft_io.proofs.Choices.{if_false, if_true}
use Rattle.ft_io.proofs.Booleans.{right_true}
use Rattle.seq_arith.specs.Message.{EntryHead, Body, Message}
use Rattle.seq_arith.specs.Message.Body.{EntryMsg}
use Rattle.server_trait.specs.Service.{Machine}
use Rattle.ft_model.specs.Lawful.{LawfulTurn, StageTurn, NodeTurn, Fetches, Continues as PlainContinues, Revives, Rests, asked, all_restored, restored_count, fence, fetched_then, is_fenced}
use Rattle.ft_model.specs.Network.{Packet}
use Rattle.ft_model.specs.Node.{Node, Place, Stage, Input}
use Rattle.ft_model.specs.Node.Stage.{Asking, Fetching, Serving, Fenced}
use Rattle.ft_model.specs.Node.Input.{Packet_comes, Message_comes, Noise_comes, Tick_comes}
use Rattle.ft_model.specs.Restart.{Fetched, Wanted, wanted, question, fetched_after, lacks_read_bytes, lacks_lengths}
use Rattle.ft_model.specs.Restart.Wanted.{An_entry, Its_bytes, Its_lengths}
use Rattle.ft_model.specs.ServingTurn.{newcomers}
use Rattle.ft_model.specs.World.{World, IsStart}
use Rattle.ft_model.proofs.Fetching.{chosen_some}
use Rattle.ft_model.proofs.Happened.{IsBrought}
use Rattle.ft_model.proofs.Happened.Happened.{server_turned}
use Rattle.ft_model.proofs.Lists.{none_is_some}
use Rattle.ft_model.proofs.Running.{HasSmallOutputs}
use Rattle.mark_laws.specs.MarkedLog.AnyMessage.{Of_log}
use Rattle.mark_laws.specs.Marking.{Marking, Outgoing, without_marks}
use Rattle.mark_laws.specs.Marking.Outgoing.{Plain}
use Rattle.mark_laws.specs.Restart.{may_have_mark, mark_question, log_question, or_else, awaits_after, fetched_on}
use Rattle.mark_laws.proofs.MarksSent.{without_plain}
use Rattle.mark_laws.specs.MarkedNode.{Marker, MarkedNode, RestsMarked, with_stage, outgoing, Continues, FetchesMarked, ServesMarked, PlainTurn, UnlessFenced, marks_at}
use Rattle.mark_laws.proofs.Packets.{Sound}
use Rattle.mark_laws.proofs.Steps.{Stepped, went, nothing_went, went_without}
use Rattle.mark_laws.proofs.Strip.{stripped, only_marks, serves_plainly}

-- a mark is awaited of an entry of which nothing but the head has come
abbrev pub new_fetched : EntryHead → Fetched
new_fetched head = record { head = head; bytes = []; lengths = [] }

abbrev pub AwaitsNewest : Stage → Type 0
AwaitsNewest (Fetching count (f ∷ earlier)) = (f ≡ new_fetched f.head) × (may_have_mark f.head ≡ true)
AwaitsNewest (Fenced newer) = Unit {0}
AwaitsNewest _ = ⊥

abbrev pub IsAwaiting : MarkedNode → Type 0
IsAwaiting node = node.awaits_mark ≡ true → AwaitsNewest node.plain.stage

-- where a server that marks takes a turn
pub record At {State : Type 0} (by : Marker State) (start u : World) (node : MarkedNode) : Type 0 where
  pub small : HasSmallOutputs by.service
  pub starts : IsStart start
  pub sound : Sound by.service start u
  pub up : u.node ≡ Some node.plain
  pub awaiting : IsAwaiting node
  pub live : is_fenced node.plain.stage ≡ false

abbrev pub turned : World → Node → List Packet → World
turned u node packets = record u { node = Some node; packets = u.packets ++ packets }

pub record TurnSteps {State : Type 0} (by : Marker State) (start u : World) (out : List Outgoing) (later : MarkedNode) : Type 0 where
  pub stepped : Stepped by.service start u (without_marks out) (turned u later.plain (without_marks out))
  pub awaiting : IsAwaiting later

pub plain_turn : {State : Type 0} (by : Marker State) (start u : World) (node : MarkedNode) (input : Input) (sent : List Packet) (later : Node) → At by start u node → IsBrought u input
    → LawfulTurn by.service node.plain input sent later → Stepped by.service start u sent (turned u later sent)
plain_turn by start u node input sent later at brought turn =
    went by.service at.small start u sent (turned u later sent) at.starts at.sound (server_turned input node.plain later brought at.up turn refl)

-- a turn that the seen world doesn't see
pub rested : {State : Type 0} (by : Marker State) (start u : World) (node : MarkedNode) (out : List Outgoing) (later : MarkedNode) → At by start u node → without_marks out ≡ [] → later.plain ≡ node.plain
    → Stepped by.service start u (without_marks out) (turned u later.plain (without_marks out))
rested by start u node out later at none same =
    nothing_went by.service start u (without_marks out) (turned u later.plain (without_marks out)) none
    (ap₂ (λ (n : Option Node) (ps : List Packet). record u { node = n; packets = u.packets ++ ps }) (ap Some same ∙ sym at.up) none ∙ ap (λ (ps : List Packet). record u { packets = ps }) (append-nil u.packets)) at.sound

pub rests : {State : Type 0} (by : Marker State) (start u : World) (node : MarkedNode) (out : List Outgoing) (later : MarkedNode) → At by start u node → RestsMarked node out later → TurnSteps by start u out later
rests by start u node out later at t = record {
  stepped = rested by start u node out later at (ap without_marks t.0) (ap (λ (n : MarkedNode). n.plain) t.1);
  awaiting = subst IsAwaiting (sym t.1) at.awaiting;
}

pub lawful_at : {State : Type 0} (service : Machine State) (node : Node) (input : Input) (sent : List Packet) (stage after : Stage) → is_fenced node.stage ≡ false → fence node input ≡ None → node.stage ≡ stage
    → StageTurn service node stage input after sent → LawfulTurn service node input sent (record node { stage = after })
lawful_at service node input sent stage after live no_fence is t = record {
  server = refl;
  profile = refl;
  boot = refl;
  isn = refl;
  live = live;
  stage = subst (λ o. NodeTurn service node input o after sent) (sym no_fence) (subst (λ s. StageTurn service node s input after sent) (sym is) t);
}

-- a turn as without marks
without_steps : {State : Type 0} (by : Marker State) (start u : World) (node : MarkedNode) (input : Input) (stage next : Stage) (packets : List Packet) (out : List Outgoing) (later : MarkedNode) → At by start u node
    → IsBrought u input → fence node.plain input ≡ None → node.plain.stage ≡ stage → StageTurn by.service node.plain stage input next packets → out ≡ map Plain packets → later ≡ with_stage next node
    → (node.awaits_mark ≡ true → AwaitsNewest next) → TurnSteps by start u out later
without_steps by start u node input stage next packets out later at brought no_fence is t sent after awaits =
    let same : packets ≡ without_marks out = sym (ap without_marks sent ∙ without_plain packets) in
    record {
      stepped = subst (λ n. Stepped by.service start u (without_marks out) (turned u n.plain (without_marks out))) (sym after)
          (subst (λ ps. Stepped by.service start u ps (turned u (record node.plain { stage = next }) ps)) same
          (plain_turn by start u node input packets (record node.plain { stage = next }) at brought (lawful_at by.service node.plain input packets stage next at.live no_fence is t)));
      awaiting = subst IsAwaiting (sym after) awaits;
    }

-- a tick while the server fetches
questions_out : (node : Node) (w : Option Wanted) (count : ℕ) → without_marks (map outgoing (option_to_list (option_map (λ x. Of_log (record { boot = node.boot; body = question x })) w))) ≡ asked node w
questions_out node (Some w) count = refl
questions_out node None count = refl

tick_steps : {State : Type 0} (by : Marker State) (start u : World) (node : MarkedNode) (count : ℕ) (fetched : List Fetched) (b : Bool) (out : List Outgoing) (later : MarkedNode) → At by start u node
    → node.plain.stage ≡ Fetching count fetched → node.awaits_mark ≡ b
    → out ≡ map outgoing (option_to_list (or_else (if b then mark_question node.plain.boot fetched else None) (log_question node.plain.boot count fetched))) → later ≡ node → TurnSteps by start u out later
tick_steps by start u node count [] true out later at is awaits sent same = absurd (subst AwaitsNewest is (at.awaiting awaits))
tick_steps by start u node count (f ∷ earlier) true out later at is awaits sent same = record {
  stepped = rested by start u node out later at (ap without_marks sent) (ap (λ (n : MarkedNode). n.plain) same);
  awaiting = subst IsAwaiting (sym same) at.awaiting;
}
tick_steps by start u node count fetched false out later at is awaits sent same =
    let asks : without_marks out ≡ asked node.plain (wanted count fetched) = ap without_marks sent ∙ questions_out node.plain (wanted count fetched) count in
    record {
      stepped = subst (λ n. Stepped by.service start u (without_marks out) (turned u n.plain (without_marks out))) (sym same)
          (subst (λ n. Stepped by.service start u (without_marks out) (turned u n (without_marks out))) (ap (λ (s : Stage). record node.plain { stage = s }) (sym is))
          (plain_turn by start u node Tick_comes (without_marks out) (record node.plain { stage = Fetching count fetched }) at tt
          (lawful_at by.service node.plain Tick_comes (without_marks out) (Fetching count fetched) (Fetching count fetched) at.live refl is (refl, asks))));
      awaiting = subst IsAwaiting (sym same) at.awaiting;
    }

-- what is fetched leads on
pub record Proceeds {State : Type 0} (service : Machine State) (node : Node) (count : ℕ) (now : List Fetched) (out : List Outgoing) (later : MarkedNode) : Type 0 where
  pub stage : Stage
  pub plain : later.plain ≡ record node { stage = stage }
  pub fetches : Fetches service node count now stage (without_marks out)
  pub awaits : later.awaits_mark ≡ false

pub proceeds : {State : Type 0} (by : Marker State) (node : MarkedNode) (count : ℕ) (now : List Fetched) (marking : Key → Marking) (out : List Outgoing) (later : MarkedNode) (w : Option Wanted) → wanted count now ≡ w
    → Continues by node count (record { entries = now; awaits_mark = false }) marking (option_map (λ x. Of_log (record { boot = node.plain.boot; body = question x })) w) out later
    → Proceeds by.service node.plain count now out later
proceeds by node count now marking out later (Some w) e t = record {
  stage = Fetching count now;
  plain = ap (λ (n : MarkedNode). n.plain) t.1;
  fetches = subst (λ o. PlainContinues by.service node.plain count now o (Fetching count now) (without_marks out)) (sym e) (refl, ap without_marks t.0);
  awaits = ap (λ (n : MarkedNode). n.awaits_mark) t.1;
}
proceeds by node count now marking out later None e t = record {
  stage = Serving (restored_count now) t.0;
  plain = ap (λ (n : MarkedNode). n.plain) t.2;
  fetches = subst (λ o. PlainContinues by.service node.plain count now o (Serving (restored_count now) t.0) (without_marks out)) (sym e)
      (t.0, refl, stripped (Revives by.service node.plain) (marks_at by node.plain.boot false marking) (only_marks by node.plain.boot false marking) (all_restored by.service node.plain.profile now) t.0 out t.1);
  awaits = ap (λ (n : MarkedNode). n.awaits_mark) t.2;
}

-- only an entry makes a server await a mark
entry_by : (w : Option Wanted) (i : ℕ) (head : EntryHead) (fetched now : List Fetched) → fetched_after w (EntryMsg i head) fetched ≡ Some now → now ≡ new_fetched head ∷ fetched
entry_by (Some (An_entry index)) i head fetched now e = sym (chosen_some _ (new_fetched head ∷ fetched) now e)
entry_by (Some (Its_bytes key offset)) i head fetched now e = none_is_some now e
entry_by (Some (Its_lengths key first)) i head fetched now e = none_is_some now e
entry_by None i head fetched now e = none_is_some now e

no_read_lacks : (done : Bool) → (not done && nat_lt 0 0) ≡ false
no_read_lacks done = grind (arith)

reads_lack : (done : Bool) (reads : ℕ) → (not done && not (reads == 0)) ≡ true → (not done && nat_lt 0 reads) ≡ true
reads_lack done reads h = grind (arith, h)

-- of such an entry lengths are missing first
pub wants_lengths : (count : ℕ) (head : EntryHead) (earlier : List Fetched) → may_have_mark head ≡ true → wanted count (new_fetched head ∷ earlier) ≡ Some (Its_lengths head.key 0)
wants_lengths count head earlier may =
    if_false (lacks_read_bytes (new_fetched head)) _ _ (no_read_lacks head.done) ∙ if_true (lacks_lengths (new_fetched head)) (Some (Its_lengths head.key 0)) _ (reads_lack head.done head.reads may)

-- the stage of an answer that fits
pub fits_stage : {State : Type 0} (service : Machine State) (node : Node) (count : ℕ) (fetched now : List Fetched) (message : Message) (after : Stage) (sent : List Packet)
    → fetched_then node message count fetched ≡ Some now → Fetches service node count now after sent → StageTurn service node (Fetching count fetched) (Message_comes message) after sent
fits_stage service node count fetched now message after sent got f =
    subst (λ o. MatchOption o (Rests (Fetching count fetched) after sent) (λ more. Fetches service node count more after sent)) (sym got) f

-- an entry whose mark is asked for: its lengths aren't
asks_mark : {State : Type 0} (by : Marker State) (start u : World) (node : MarkedNode) (count i : ℕ) (fetched : List Fetched) (message : Message) (head : EntryHead) (marking : Key → Marking) (out : List Outgoing) (later : MarkedNode)
    → At by start u node → IsBrought u (Message_comes message) → fence node.plain (Message_comes message) ≡ None → node.plain.stage ≡ Fetching count fetched
    → fetched_then node.plain message count fetched ≡ Some (new_fetched head ∷ fetched) → may_have_mark head ≡ true
    → Continues by node count (record { entries = new_fetched head ∷ fetched; awaits_mark = true }) marking
    (or_else (mark_question node.plain.boot (new_fetched head ∷ fetched)) (log_question node.plain.boot count (new_fetched head ∷ fetched))) out later
    → TurnSteps by start u out later
asks_mark by start u node count i fetched message head marking out later at brought no_fence is got may t =
    let now : List Fetched = new_fetched head ∷ fetched in
    let next : Node = record node.plain { stage = Fetching count now } in
    let hs : List Packet = asked node.plain (Some (Its_lengths head.key 0)) in
    let turn : LawfulTurn by.service node.plain (Message_comes message) hs next =
    lawful_at by.service node.plain (Message_comes message) hs (Fetching count fetched) (Fetching count now) at.live no_fence is
    (fits_stage by.service node.plain count fetched now message (Fetching count now) hs got
    (subst (λ o. PlainContinues by.service node.plain count now o (Fetching count now) hs) (sym (wants_lengths count head fetched may)) (refl, refl))) in
    let step : Stepped by.service start u hs (turned u next hs) = plain_turn by start u node (Message_comes message) hs next at brought turn in
    let less : Stepped by.service start u [] (record u { node = Some next }) = went_without by.service start u (turned u next hs) hs (λ key. refl) refl step in
    let stays : Stepped by.service start u [] (turned u next []) = subst (λ ps. Stepped by.service start u [] (record u { node = Some next; packets = ps })) (sym (append-nil u.packets)) less in
    record {
      stepped = subst (λ n. Stepped by.service start u (without_marks out) (turned u n.plain (without_marks out))) (sym t.1)
          (subst (λ ps. Stepped by.service start u ps (turned u next ps)) (sym (ap without_marks t.0)) stays);
      awaiting = subst IsAwaiting (sym t.1) (λ e. (refl, may));
    }

-- after an answer that fits
got_steps : {State : Type 0} (by : Marker State) (start u : World) (node : MarkedNode) (count : ℕ) (fetched now : List Fetched) (message : Message) (body : Body) (b : Bool) (marking : Key → Marking) (out : List Outgoing) (later : MarkedNode)
    → At by start u node → IsBrought u (Message_comes message) → fence node.plain (Message_comes message) ≡ None → node.plain.stage ≡ Fetching count fetched
    → fetched_then node.plain message count fetched ≡ Some now → fetched_after (wanted count fetched) body fetched ≡ Some now → awaits_after (nat_lt 0 by.every) body ≡ b
    → Continues by node count (record { entries = now; awaits_mark = b }) marking (or_else (if b then mark_question node.plain.boot now else None) (log_question node.plain.boot count now)) out later
    → TurnSteps by start u out later
got_steps by start u node count fetched now message body false marking out later at brought no_fence is got fits awaits t =
    let g : Proceeds by.service node.plain count now out later = proceeds by node count now marking out later (wanted count now) refl t in
    record {
      stepped = subst (λ n. Stepped by.service start u (without_marks out) (turned u n (without_marks out))) (sym g.plain)
          (plain_turn by start u node (Message_comes message) (without_marks out) (record node.plain { stage = g.stage }) at brought
          (lawful_at by.service node.plain (Message_comes message) (without_marks out) (Fetching count fetched) g.stage at.live no_fence is
          (fits_stage by.service node.plain count fetched now message g.stage (without_marks out) got g.fetches)));
      awaiting = λ e. absurd (true≢false (sym e ∙ g.awaits));
    }
got_steps by start u node count fetched now message (EntryMsg i head) true marking out later at brought no_fence is got fits awaits t =
    let same : now ≡ new_fetched head ∷ fetched = entry_by (wanted count fetched) i head fetched now fits in
    asks_mark by start u node count i fetched message head marking out later at brought no_fence is (got ∙ ap Some same) (right_true (nat_lt 0 by.every) (may_have_mark head) awaits)
    (subst (λ l. Continues by node count (record { entries = l; awaits_mark = true }) marking (or_else (mark_question node.plain.boot l) (log_question node.plain.boot count l)) out later) same t)
got_steps by start u node count fetched now message body true marking out later at brought no_fence is got fits awaits t = absurd (true≢false (sym awaits))

-- a message that isn't about marks, while the server fetches
message_on : {State : Type 0} (by : Marker State) (start u : World) (node : MarkedNode) (count : ℕ) (fetched : List Fetched) (message : Message) (o : Option (List Fetched)) (out : List Outgoing) (later : MarkedNode)
    → At by start u node → IsBrought u (Message_comes message) → fence node.plain (Message_comes message) ≡ None → node.plain.stage ≡ Fetching count fetched → fetched_then node.plain message count fetched ≡ o
    → MatchOption (option_map (λ more. record { entries = more; awaits_mark = awaits_after (nat_lt 0 by.every) message.body }) o) (RestsMarked node out later)
    (λ now. FetchesMarked by node count now node.marking out later)
    → TurnSteps by start u out later
message_on by start u node count fetched message None out later at brought no_fence is got t = rests by start u node out later at t
message_on by start u node count fetched message (Some now) out later at brought no_fence is got t =
    got_steps by start u node count fetched now message message.body (awaits_after (nat_lt 0 by.every) message.body) node.marking out later at brought no_fence is got
    (fits_by (message.boot == node.plain.boot) (fetched_after (wanted count fetched) message.body fetched) now got) refl t
  where
    fits_by : (b : Bool) (o : Option (List Fetched)) (now : List Fetched) → (if b then o else None) ≡ Some now → o ≡ Some now
    fits_by true o now e = e
    fits_by false o now e = none_is_some now e

message_steps : {State : Type 0} (by : Marker State) (start u : World) (node : MarkedNode) (count : ℕ) (fetched : List Fetched) (message : Message) (b : Bool) (out : List Outgoing) (later : MarkedNode)
    → At by start u node → IsBrought u (Message_comes message) → fence node.plain (Message_comes message) ≡ None → node.plain.stage ≡ Fetching count fetched
    → MatchOption (fetched_on (nat_lt 0 by.every) node.plain.boot count message (record { entries = fetched; awaits_mark = b })) (RestsMarked node out later) (λ now. FetchesMarked by node count now node.marking out later)
    → TurnSteps by start u out later
message_steps by start u node count fetched message true out later at brought no_fence is t = rests by start u node out later at t
message_steps by start u node count fetched message false out later at brought no_fence is t =
    message_on by start u node count fetched message (fetched_then node.plain message count fetched) out later at brought no_fence is refl t

-- a server that serves
serving_steps : {State : Type 0} (by : Marker State) (start u : World) (node : MarkedNode) (input : Input) (opened : ℕ) (places later_places : List Place) (marking : Key → Marking) (out : List Outgoing) (later : MarkedNode)
    → At by start u node → IsBrought u input → fence node.plain input ≡ None → node.plain.stage ≡ Serving opened places → ServesMarked by node input opened places later_places marking out
    → later ≡ record (with_stage (Serving (opened + length (newcomers node.plain input opened places)) later_places) node) { marking = marking } → TurnSteps by start u out later
serving_steps by start u node input opened places later_places marking out later at brought no_fence is t after =
    let next : Stage = Serving (opened + length (newcomers node.plain input opened places)) later_places in
    record {
      stepped = subst (λ n. Stepped by.service start u (without_marks out) (turned u n.plain (without_marks out))) (sym after)
          (plain_turn by start u node input (without_marks out) (record node.plain { stage = next }) at brought
          (lawful_at by.service node.plain input (without_marks out) (Serving opened places) next at.live no_fence is
          (later_places, refl, serves_plainly by node input opened places later_places marking out t)));
      awaiting = subst IsAwaiting (sym after) (λ e. absurd (subst AwaitsNewest is (at.awaiting e)));
    }

by_stage : {State : Type 0} (by : Marker State) (start u : World) (node : MarkedNode) (stage : Stage) (input : Input) (out : List Outgoing) (later : MarkedNode) → At by start u node → IsBrought u input
    → fence node.plain input ≡ None → node.plain.stage ≡ stage → PlainTurn by node stage input out later → TurnSteps by start u out later
by_stage by start u node (Fetching count fetched) Tick_comes out later at brought no_fence is t =
    tick_steps by start u node count fetched node.awaits_mark out later at is refl t.0 t.1
by_stage by start u node (Fetching count fetched) (Message_comes message) out later at brought no_fence is t =
    message_steps by start u node count fetched message node.awaits_mark out later at brought no_fence is t
by_stage by start u node (Fetching count fetched) (Packet_comes segment) out later at brought no_fence is t =
    without_steps by start u node (Packet_comes segment) (Fetching count fetched) t.0 t.1 out later at brought no_fence is t.2 t.3 t.4 (λ e. subst AwaitsNewest (is ∙ sym t.2.0) (at.awaiting e))
by_stage by start u node (Fetching count fetched) Noise_comes out later at brought no_fence is t =
    without_steps by start u node Noise_comes (Fetching count fetched) t.0 t.1 out later at brought no_fence is t.2 t.3 t.4 (λ e. subst AwaitsNewest (is ∙ sym t.2.0) (at.awaiting e))
by_stage by start u node (Serving opened places) input out later at brought no_fence is t =
    serving_steps by start u node input opened places t.0 t.1 out later at brought no_fence is t.2 t.3
by_stage by start u node Asking input out later at brought no_fence is t =
    without_steps by start u node input Asking t.0 t.1 out later at brought no_fence is t.2 t.3 t.4 (λ e. absurd (subst AwaitsNewest is (at.awaiting e)))
by_stage by start u node (Fenced newer) input out later at brought no_fence is t = absurd t.2

by_fence : {State : Type 0} (by : Marker State) (start u : World) (node : MarkedNode) (input : Input) (o : Option ℕ) (out : List Outgoing) (later : MarkedNode) → At by start u node → IsBrought u input → fence node.plain input ≡ o
    → UnlessFenced by node input o out later → TurnSteps by start u out later
by_fence by start u node input (Some newer) out later at brought is t =
    let next : Node = record node.plain { stage = Fenced newer } in
    let turn : LawfulTurn by.service node.plain input [] next =
    record { server = refl; profile = refl; boot = refl; isn = refl; live = at.live; stage = subst (λ o. NodeTurn by.service node.plain input o (Fenced newer) []) (sym is) (refl, refl) } in
    record {
      stepped = subst (λ n. Stepped by.service start u (without_marks out) (turned u n.plain (without_marks out))) (sym t.1)
          (subst (λ ps. Stepped by.service start u ps (turned u next ps)) (sym (ap without_marks t.0)) (plain_turn by start u node input [] next at brought turn));
      awaiting = subst IsAwaiting (sym t.1) (λ e. tt);
    }
by_fence by start u node input None out later at brought is t = by_stage by start u node node.plain.stage input out later at brought is refl t

pub input_steps : {State : Type 0} (by : Marker State) (start u : World) (node : MarkedNode) (input : Input) (out : List Outgoing) (later : MarkedNode) → At by start u node → IsBrought u input
    → UnlessFenced by node input (fence node.plain input) out later → TurnSteps by start u out later
input_steps by start u node input out later at brought t = by_fence by start u node input (fence node.plain input) out later at brought refl t
