-- A trace of a server with a quarantine is a long trace, and masked.
use Rattle.std.proofs.Common.{◌≡◌, inl, inr, ⊎_elim, ℕ, zero, suc, ◌<◌, ◌≤◌, arith, max, Bool, true, false, ◌&&◌, nat_lt, refl, sym, ap, ◌∙◌, subst, true≢false, append-nil, MatchBool, Option, Some, None, List, [], ◌∷◌, ◌++◌, slice_get, if◌then◌else◌}
use Rattle.std.specs.List.{AllByRecursion}
use Rattle.server_trait.specs.Service.{Machine}
use Rattle.ft_io.specs.declared.Key.{Key}
use Rattle.ft_io.specs.Key.{key_eq}
use Rattle.ft_model.specs.Masked.{AcknowledgesLogged, RestartIsExact, is_restarting}
use Rattle.ft_model.specs.Network.{Packet}
use Rattle.ft_model.specs.Node.{Node, Stage, Input, pending_count}
use Rattle.ft_model.specs.Node.Input.{Packet_comes, Message_comes, Noise_comes, Tick_comes}
use Rattle.ft_model.specs.Node.Place.{Opens}
use Rattle.ft_model.specs.Node.Stage.{Asking, Fetching, Serving, Fenced}
use Rattle.ft_model.specs.Opening.{numbers_for, timestamping_for}
use Rattle.ft_model.specs.Point.{Point}
use Rattle.ft_model.specs.ServingTurn.{is_strange}
use Rattle.seq_arith.specs.Message.{Message}
use Rattle.ft_io.proofs.Choices.{if_false, holds_if}
use Rattle.ft_model.specs.World.{World, IsStart}
use Rattle.ft_model.specs.declared.event.Event.{Event}
use Rattle.ft_model.proofs.Exact.{same_exact}
use Rattle.ft_model.proofs.Lists.{all_weaker, all_append, all_map, all_find, none_is_some}
use Rattle.ft_model.proofs.Running.{HasSmallOutputs}
use Rattle.long_laws.specs.Forgetting.{ForgetMessage, forget}
use Rattle.long_laws.specs.LongTrace.{LongWorld, LongStep, last_rst, MayForget}
use Rattle.long_laws.specs.LongTrace.LongStep.{Joint_event, Recycles, Forgets, Arrives, Lets_go, Keeps_alive}
use Rattle.long_laws.specs.Quarantine.{Quarantined, quarantined_at, quarantine_after, forgets, early, ended_early, taken_away}
use Rattle.long_laws.specs.QuarantineWorld.{QuarantineWorld, QuarantineStep, QuarantineMoment, MayQuarantine, without_at, QuarantineJoint, Usually, seen, event_input, step_input, quarantine_then, forgets_then, drops, is_by_message, IsFresh, AllAreFresh, new_places, after_forget_came, after_forgotten_came, after_moments, IsLongStep, AreLongSteps, IsRefusal, DropsSilently, is_full_input, AreMaskedMoments, IsRecycling}
use Rattle.long_laws.specs.QuarantineWorld.QuarantineStep.{Usual, To_log, To_node, Is_lost, Ends_early}
use Rattle.long_laws.proofs.Long.{AllSaw, Passed, passed}
use Rattle.long_laws.proofs.QuarantineEvents.{Elsewhere, Went, went, SaysNothing}
use Rattle.long_laws.proofs.QuarantineEvents.Went.{took_turn, was_elsewhere, has_booted, is_down}
use Rattle.long_laws.proofs.QuarantineKept.{Keeps, Rests, IsOfServer, NoteHolds, all_fresh, elsewhere_kept, turned_same, turned_kept, booted_kept, down_kept}
use Rattle.long_laws.proofs.QuarantineMessages.{KeepsAll, forget_came, forgotten_came, changes, older_than_restart, may_forget, takes_away}
use Rattle.long_laws.proofs.Refusals.{full_forgets, full_refuses, stands_without_refusals}
use Rattle.long_laws.proofs.Stands.{Stands, at_start, sees_front, all_reported}

-- the same by equations
kept_as : (w v : World) (notes more : List ForgetMessage) (qs rs : List Quarantined) → v ≡ w → more ≡ notes → rs ≡ qs → Keeps w notes qs → Keeps v more rs
kept_as w v notes more qs rs a b c k =
    subst (λ x. Keeps x more rs) (sym a) (subst (λ x. Keeps w x rs) (sym b) (subst (λ x. Keeps w notes x) (sym c) k))

-- Full and a RST open nothing
no_message_opens : (notes : List ForgetMessage) (node : Node) (message : Message) (stage : Stage) → AllByRecursion (IsFresh node.boot (new_places node (Message_comes message) stage)) notes
no_message_opens notes node message (Serving opened places) = all_fresh node.boot notes
no_message_opens notes node message Asking = all_fresh node.boot notes
no_message_opens notes node message (Fetching count fetched) = all_fresh node.boot notes
no_message_opens notes node message (Fenced newer) = all_fresh node.boot notes

full_fresh : (notes : List ForgetMessage) (node : Node) (input : Input) → is_full_input (Some input) ≡ true → AllByRecursion (IsFresh node.boot (new_places node input node.stage)) notes
full_fresh notes node (Message_comes message) f = no_message_opens notes node message node.stage
full_fresh notes node (Packet_comes segment) f = absurd (true≢false (sym f))
full_fresh notes node Noise_comes f = absurd (true≢false (sym f))
full_fresh notes node Tick_comes f = absurd (true≢false (sym f))

never_new : (a c : Bool) → (a && false && c) ≡ false
never_new true c = refl
never_new false c = refl

rst_opens_none : (notes : List ForgetMessage) (node : Node) (p : Point) (stage : Stage) → AllByRecursion (IsFresh node.boot (new_places node (Packet_comes (last_rst node.server p)) stage)) notes
rst_opens_none notes node p (Serving opened places) =
    subst (λ l. AllByRecursion (IsFresh node.boot l) notes)
    (sym (if_false (is_strange node (last_rst node.server p) places && false && nat_lt (pending_count places) 64) (Opens (numbers_for node.profile node.isn opened (last_rst node.server p)) (timestamping_for node.profile (last_rst node.server p)) ∷ []) []
    (never_new (is_strange node (last_rst node.server p) places) (nat_lt (pending_count places) 64)))) (all_fresh node.boot notes)
rst_opens_none notes node p Asking = all_fresh node.boot notes
rst_opens_none notes node p (Fetching count fetched) = all_fresh node.boot notes
rst_opens_none notes node p (Fenced newer) = all_fresh node.boot notes

rst_fresh : (notes : List ForgetMessage) (node : Node) (p : Point) → AllByRecursion (IsFresh node.boot (new_places node (Packet_comes (last_rst node.server p)) node.stage)) notes
rst_fresh notes node p = rst_opens_none notes node p node.stage

-- a message is lost
all_without_at : {A : Type 0} (P : A → Type 0) (number : ℕ) (xs : List A) → AllByRecursion P xs → AllByRecursion P (without_at number xs)
all_without_at P number [] a = tt
all_without_at P zero (x ∷ xs) a = a.1
all_without_at P (suc number) (x ∷ xs) a = (a.0, all_without_at P number xs a.1)

lost_kept : (w : World) (notes : List ForgetMessage) (qs : List Quarantined) (number : ℕ) → Keeps w notes qs → Keeps w (without_at number notes) qs
lost_kept w notes qs number k = record {
  of_servers = all_without_at (IsOfServer w) number notes k.of_servers;
  hello_said = k.hello_said;
  rests = k.rests;
  holds = λ n e. all_without_at (NoteHolds w n) number notes (k.holds n e);
}

-- a quarantine ends early
early_rests : (w : World) (node : Node) (wait : ℕ) (key : Key) (q : Quarantined) → Rests w node q → Rests w node (early wait key q)
early_rests w node wait key q r = holds_if (Rests w node) (key_eq q.named.key key) (record q { age = max wait q.age }) q (λ t. r) (λ t. r)

early_kept : {State : Type 0} (service : Machine State) (w : World) (notes : List ForgetMessage) (qs : List Quarantined) (wait : ℕ) (key : Key) (node : Node) (q : Quarantined)
    → Stands service w → w.node ≡ Some node → quarantined_at key qs ≡ Some q → Keeps w notes qs
    → Keeps w (notes ++ forget node.boot q.named ∷ []) (ended_early wait key qs)
early_kept service w notes qs wait key node q o up found k =
    let own : node.boot ≡ w.boot = (o.fenced.node node up).boot in
    let low : node.boot ≤ w.boot = omega (arith, own) in
    record {
      of_servers = all_append (IsOfServer w) notes (forget node.boot q.named ∷ []) k.of_servers ((low, k.hello_said node up), tt);
      hello_said = k.hello_said;
      rests = λ n e. all_map (Rests w n) (early wait key) qs
          (all_weaker (Rests w n) (λ x. Rests w n (early wait key x)) qs (λ x r. early_rests w n wait key x r) (k.rests n e));
      holds = λ n e. all_append (NoteHolds w n) notes (forget node.boot q.named ∷ []) (k.holds n e)
          (λ same. inl (all_find (Rests w n) (λ x. key_eq x.named.key key) qs q (k.rests n e) found), tt);
    }

-- no server, no quarantine
kept_down : (w : World) (notes : List ForgetMessage) (qs rs : List Quarantined) → w.node ≡ None → Keeps w notes qs → Keeps w notes rs
kept_down w notes qs rs down k = record {
  of_servers = k.of_servers;
  hello_said = k.hello_said;
  rests = λ n e. none_is_some n (sym down ∙ e);
  holds = k.holds;
}

no_forgets : (wait : ℕ) (o : Option Node) (qs : List Quarantined) → forgets_then wait o None qs ≡ []
no_forgets wait (Some node) qs = refl
no_forgets wait None qs = refl

module _ {State : Type 0} (service : Machine State) (wait : ℕ) (before after : QuarantineWorld) (step : LongStep) (sent : List Packet) (o : Stands service before.now)
    (k : KeepsAll before) (u : Usually service wait before step sent after) where
  abbrev comes : Option Input
  comes = step_input before.now step

  -- where nothing comes to the server, no Forget goes out
  silent_notes : comes ≡ None → after.notes ≡ before.notes
  silent_notes none = u.notes ∙ (ap (λ fs. before.notes ++ fs) (ap (λ i. forgets_then wait before.now.node i after.quarantine) none ∙ no_forgets wait before.now.node after.quarantine) ∙ append-nil before.notes)

  down_notes : before.now.node ≡ None → after.notes ≡ before.notes
  down_notes down = u.notes ∙ (ap (λ fs. before.notes ++ fs) (ap (λ n. forgets_then wait n comes after.quarantine) down) ∙ append-nil before.notes)

  elsewhere_by : (node : Option Node) → before.now.node ≡ node → comes ≡ None → Elsewhere before.now sent after.now → KeepsAll after
  elsewhere_by (Some node) up none e =
      let same : after.quarantine ≡ before.quarantine =
      u.quarantine ∙ (ap (λ n. quarantine_then n comes after.now.node before.quarantine) up
      ∙ (ap (λ i. quarantine_then (Some node) i after.now.node before.quarantine) none ∙ ap (λ n. quarantine_then (Some node) None n before.quarantine) (e.node ∙ up))) in
      kept_as after.now after.now before.notes after.notes before.quarantine after.quarantine refl (silent_notes none) same (elsewhere_kept before.now sent after.now before.notes before.quarantine e k)
  elsewhere_by None up none e =
      kept_as after.now after.now before.notes after.notes after.quarantine after.quarantine refl (silent_notes none) refl
      (kept_down after.now before.notes before.quarantine after.quarantine (e.node ∙ up) (elsewhere_kept before.now sent after.now before.notes before.quarantine e k))

  elsewhere : comes ≡ None → Elsewhere before.now sent after.now → KeepsAll after
  elsewhere none e = elsewhere_by before.now.node refl none e

module _ {State : Type 0} (service : Machine State) (wait : ℕ) (before after : QuarantineWorld) (sent : List Packet) (o : Stands service before.now) (later_stands : Stands service after.now)
    (k : KeepsAll before) where
  by_event : (event : Event) → Usually service wait before (Joint_event event) sent after → Went service before.now event sent after.now → KeepsAll after
  by_event event u (took_turn input node later i brought up turn is) =
      let qs : List Quarantined = quarantine_after node input later.stage before.quarantine in
      let now : after.now.node ≡ Some later = ap (λ w. w.node) is in
      let same : after.quarantine ≡ qs =
      u.quarantine ∙ (ap (λ n. quarantine_then n (event_input before.now event) after.now.node before.quarantine) up
      ∙ (ap (λ x. quarantine_then (Some node) x after.now.node before.quarantine) i ∙ ap (λ n. quarantine_then (Some node) (Some input) n before.quarantine) now)) in
      let reported : after.notes ≡ before.notes ++ forgets wait node.boot input qs =
      u.notes ∙ (ap (λ n. before.notes ++ forgets_then wait n (event_input before.now event) after.quarantine) up
      ∙ (ap (λ x. before.notes ++ forgets_then wait (Some node) x after.quarantine) i ∙ ap (λ r. before.notes ++ forgets wait node.boot input r) same)) in
      let fresh : AllByRecursion (IsFresh node.boot (new_places node input node.stage)) before.notes =
      subst (λ i. AllAreFresh (Some node) i before.notes) i (subst (λ n. AllAreFresh n (event_input before.now event) before.notes) up u.fresh) in
      kept_as (record before.now { node = Some later; packets = before.now.packets ++ sent }) after.now (before.notes ++ forgets wait node.boot input qs) after.notes qs after.quarantine is reported same
      (turned_kept service before.now o before.notes before.quarantine k input node later sent up turn sent (λ P a. a) fresh wait brought (later_stands.distinct later now))
  by_event event u (was_elsewhere i e) = elsewhere service wait before after (Joint_event event) sent o k u i e
  by_event event u (has_booted boot isn none_comes down larger s is) =
      let none : after.quarantine ≡ [] = u.quarantine ∙ ap (λ n. quarantine_then n (event_input before.now event) after.now.node before.quarantine) down in
      kept_as _ after.now before.notes after.notes [] after.quarantine is (down_notes service wait before after (Joint_event event) sent o k u down) none
      (booted_kept before.now boot isn sent before.notes before.quarantine larger.0 s k)
  by_event event u (is_down why s is) =
      let reported : after.notes ≡ before.notes =
      ⊎_elim (λ down. down_notes service wait before after (Joint_event event) sent o k u down) (λ none. silent_notes service wait before after (Joint_event event) sent o k u none) why in
      kept_as _ after.now before.notes after.notes after.quarantine after.quarantine is reported refl (down_kept before.now sent before.notes before.quarantine after.quarantine k)

  usual_kept : (step : LongStep) → is_by_message step ≡ false → Usually service wait before step sent after → KeepsAll after
  usual_kept (Joint_event event) b u = by_event event u (went service before.now event sent after.now u.passes.0)
  usual_kept (Recycles key) b u = absurd (true≢false b)
  usual_kept (Forgets key) b u = absurd (true≢false b)
  usual_kept (Arrives c) b u =
      elsewhere service wait before after (Arrives c) sent o k u refl
      (record {
        node = ap (λ w. w.node) u.passes.2;
        boot = ap (λ w. w.boot) u.passes.2;
        packets = ap (λ w. w.packets) u.passes.2 ∙ (sym (append-nil before.now.packets) ∙ ap (λ ps. before.now.packets ++ ps) (sym u.passes.1));
        silent = subst (AllByRecursion SaysNothing) (sym u.passes.1) tt;
        log = inl (ap (λ w. w.log) u.passes.2);
      })
  usual_kept (Keeps_alive key) b u =
      let s = u.passes.0 in
      elsewhere service wait before after (Keeps_alive key) sent o k u refl
      (record {
        node = ap (λ w. w.node) s.after_is;
        boot = ap (λ w. w.boot) s.after_is;
        packets = ap (λ w. w.packets) s.after_is ∙ ap (λ ps. before.now.packets ++ ps) (sym s.sent_is);
        silent = subst (AllByRecursion SaysNothing) (sym s.sent_is) (λ x. refl, tt);
        log = inl (ap (λ w. w.log) s.after_is);
      })
  usual_kept (Lets_go key) b u =
      let l = u.passes.0 in
      let now : after.now.node ≡ Some l.later = ap (λ w. w.node) l.after_is in
      let same : after.quarantine ≡ before.quarantine =
      u.quarantine ∙ (ap (λ n. quarantine_then n None after.now.node before.quarantine) l.up ∙ ap (λ n. quarantine_then (Some l.node) None n before.quarantine) now) in
      kept_as (record before.now { node = Some l.later; packets = before.now.packets ++ sent }) after.now before.notes after.notes before.quarantine after.quarantine l.after_is
      (silent_notes service wait before after (Lets_go key) sent o k u refl) same
      (turned_same service before.now o before.notes before.quarantine k _ l.node l.later sent l.up l.turn sent (λ P a. a) (rst_fresh before.notes l.node l.point))

-- Full comes, and no RST goes out

module _ {State : Type 0} (service : Machine State) (wait : ℕ) (before after : QuarantineWorld) (sent : List Packet) (o : Stands service before.now) (k : KeepsAll before) where
  never_full : {X : Type 0} (i : Option Input) → i ≡ None → is_full_input i ≡ true → X
  never_full i none full = absurd (true≢false (sym full ∙ ap is_full_input none))

  abbrev Silent : LongStep → Type 0
  Silent step = (d : DropsSilently service before step sent after) → (AllByRecursion IsRefusal d.all × (d.there.packets ≡ before.now.packets ++ d.all)) × KeepsAll after

  silent_event : (event : Event) (d : DropsSilently service before (Joint_event event) sent after) → (later_stands : Stands service d.there) → is_full_input (event_input before.now event) ≡ true
      → Went service before.now event d.all d.there → (AllByRecursion IsRefusal d.all × (d.there.packets ≡ before.now.packets ++ d.all)) × KeepsAll after
  silent_event event d later_stands full (was_elsewhere i e) = never_full (event_input before.now event) i full
  silent_event event d later_stands full (has_booted boot isn i down larger s is) = never_full (event_input before.now event) i full
  silent_event event d later_stands full (is_down why s is) = (
    (subst (AllByRecursion IsRefusal) (sym s) tt, ap (λ w. w.packets) is),
    kept_as (record before.now { node = None; packets = before.now.packets ++ [] }) after.now before.notes after.notes after.quarantine after.quarantine
        (d.now_is ∙ (ap (λ (w : World). record w { packets = before.now.packets }) is ∙ ap (λ (ps : List Packet). record before.now { node = None; packets = ps }) (sym (append-nil before.now.packets)))) d.notes refl
        (down_kept before.now [] before.notes before.quarantine after.quarantine k),
  )
  silent_event event d later_stands full (took_turn input node later i brought up turn is) =
      let qs : List Quarantined = quarantine_after node input later.stage before.quarantine in
      let now : d.there.node ≡ Some later = ap (λ w. w.node) is in
      let full_input : is_full_input (Some input) ≡ true = ap is_full_input (sym i) ∙ full in
      let same : after.quarantine ≡ qs =
      d.quarantine ∙ (ap (λ n. quarantine_then n (event_input before.now event) d.there.node before.quarantine) up
      ∙ (ap (λ x. quarantine_then (Some node) x d.there.node before.quarantine) i ∙ ap (λ n. quarantine_then (Some node) (Some input) n before.quarantine) now)) in
      let reported : after.notes ≡ before.notes ++ forgets wait node.boot input qs =
      d.notes ∙ (sym (append-nil before.notes) ∙ ap (λ fs. before.notes ++ fs) (sym (full_forgets input wait node.boot qs full_input))) in (
        (full_refuses service node later input d.all full_input turn, ap (λ w. w.packets) is),
        kept_as (record before.now { node = Some later; packets = before.now.packets ++ [] }) after.now (before.notes ++ forgets wait node.boot input qs) after.notes qs after.quarantine
            (d.now_is ∙ (ap (λ (w : World). record w { packets = before.now.packets }) is ∙ ap (λ (ps : List Packet). record before.now { node = Some later; packets = ps }) (sym (append-nil before.now.packets)))) reported same
            (turned_kept service before.now o before.notes before.quarantine k input node later d.all up turn [] (λ P a. tt) (full_fresh before.notes node input full_input) wait brought (later_stands.distinct later now)),
      )

  silent : (step : LongStep) (d : DropsSilently service before step sent after) → Stands service d.there → is_full_input (step_input before.now step) ≡ true
      → (AllByRecursion IsRefusal d.all × (d.there.packets ≡ before.now.packets ++ d.all)) × KeepsAll after
  silent (Joint_event event) d later_stands full = silent_event event d later_stands full (went service before.now event d.all d.there d.passes.0)
  silent (Recycles key) d later_stands full = absurd (true≢false (sym full))
  silent (Forgets key) d later_stands full = absurd (true≢false (sym full))
  silent (Arrives c) d later_stands full = absurd (true≢false (sym full))
  silent (Lets_go key) d later_stands full = absurd (true≢false (sym full))
  silent (Keeps_alive key) d later_stands full = absurd (true≢false (sym full))

-- A moment

module _ {State : Type 0} (service : Machine State) (small : HasSmallOutputs service) (wait : ℕ) where
  -- what a long step leaves, or nothing happens
  pub step_passed : (before : LongWorld) (sent : List Packet) (after : LongWorld) → Stands service before.now → AllSaw service small before → IsLongStep service before sent after
      → Passed service small before sent after
  step_passed before sent after o past (inl (none, same)) =
      subst (Passed service small before sent) (sym same)
      (subst (λ s. Passed service small before s before) (sym none) (record { shown = record { stands = o; acknowledged = tt; restart = same_exact service before.now.log before.now.node }; past = past }))
  step_passed before sent after o past (inr (inl (step, p))) = passed service small before after step sent o past p
  step_passed before sent after o past (inr (inr l)) =
      let there : LongWorld = record { now = l.there; past = after.past } in
      let p : Passed service small before l.all there = passed service small before there l.step l.all o past l.passes in
      record {
        shown = record {
          stands = subst (Stands service) (sym l.now_is) (stands_without_refusals service l.there before.now.packets l.all l.packets l.refusals p.shown.stands);
          acknowledged = subst (AllByRecursion (AcknowledgesLogged after.now.log after.now.clients)) (sym l.sent_is) tt;
          restart = subst (λ w. RestartIsExact service w.log before.now.node w.node) (sym l.now_is) p.shown.restart;
        };
        past = p.past;
      }

  abbrev Goes : QuarantineWorld → List Packet → QuarantineWorld → Type 0
  Goes before sent after = IsLongStep service (seen before) sent (seen after) × KeepsAll after

  usual : (before after : QuarantineWorld) (step : LongStep) (sent : List Packet) → Stands service before.now → AllSaw service small (seen before) → KeepsAll before → is_by_message step ≡ false
      → (dropped full : Bool) → is_full_input (step_input before.now step) ≡ full
      → MatchBool dropped ((sent ≡ []) × (after ≡ before)) (MatchBool full (DropsSilently service before step sent after) (Usually service wait before step sent after)) → Goes before sent after
  usual before after step sent o past k b true full f d = (inl (d.0, ap seen d.1), subst KeepsAll (sym d.1) k)
  usual before after step sent o past k b false false f u =
      let now : Passed service small (seen before) sent (seen after) = passed service small (seen before) (seen after) step sent o past u.passes in
      (inr (inl (step, u.passes)), usual_kept service wait before after sent o now.shown.stands k step b u)
  usual before after step sent o past k b false true f d =
      let there : LongWorld = record { now = d.there; past = after.past } in
      let p : Passed service small (seen before) d.all there = passed service small (seen before) there step d.all o past d.passes in
      let s = silent service wait before after sent o k step d p.shown.stands f in (
        inr (inr (record {
          step = step;
          all = d.all;
          there = d.there;
          passes = d.passes;
          refusals = s.0.0;
          packets = s.0.1;
          sent_is = d.sent_is;
          now_is = d.now_is;
        })),
        s.1,
      )

  moment_goes : (before after : QuarantineWorld) (step : QuarantineStep) (sent : List Packet) → Stands service before.now → AllSaw service small (seen before) → KeepsAll before
      → MayQuarantine service wait before step sent after → Goes before sent after
  moment_goes before after (Usual step) sent o past k (b, d) =
      usual before after step sent o past k b (drops wait before.now.node (step_input before.now step) before.quarantine) (is_full_input (step_input before.now step)) refl d
  moment_goes before after (To_log number) sent o past k (message, there, s, is) =
      subst (Goes before sent) (sym is)
      (subst (λ x. Goes before x (after_forget_came message before)) (sym s) (forget_came service before o k number message there))
  moment_goes before after (To_node number) sent o past k (message, there, s, is) =
      subst (Goes before sent) (sym is)
      (subst (λ x. Goes before x (after_forgotten_came message before)) (sym s) (forgotten_came service before k number message there))
  moment_goes before after (Is_lost number) sent o past k (s, is) =
      (inl (s, ap seen is), subst KeepsAll (sym is) (lost_kept before.now before.notes before.quarantine number k))
  moment_goes before after (Ends_early key) sent o past k (s, e) = (
    inl (s, ap seen e.after_is),
    subst KeepsAll (sym e.after_is) (early_kept service before.now before.notes before.quarantine wait key e.node e.quarantined o e.up e.found k),
  )

  -- A trace

  pub record Followed (start : World) (trace : List QuarantineMoment) : Type 0 where
    pub stands : Stands service (after_moments start trace).now
    pub saw : AllSaw service small (seen (after_moments start trace))
    pub kept : KeepsAll (after_moments start trace)
    pub steps : AreLongSteps service start trace

  begins : (start : World) → IsStart start → Keeps start [] []
  begins start s = record {
    of_servers = tt;
    hello_said = λ n e. none_is_some n (sym s.node ∙ e);
    rests = λ n e. tt;
    holds = λ n e. tt;
  }

  pub follows : (start : World) (trace : List QuarantineMoment) → QuarantineJoint service wait start trace → Followed start trace
  follows start [] j = record { stands = at_start service small start j; saw = tt; kept = begins start j; steps = tt }
  follows start (moment ∷ earlier) j =
      let f : Followed start earlier = follows start earlier j.0 in
      let g : Goes (after_moments start earlier) moment.sent moment.world = moment_goes (after_moments start earlier) moment.world moment.step moment.sent f.stands f.saw f.kept j.1 in
      let p : Passed service small (seen (after_moments start earlier)) moment.sent (seen moment.world) =
      step_passed (seen (after_moments start earlier)) moment.sent (seen moment.world) f.stands f.saw g.0 in
      record { stands = p.shown.stands; saw = p.past; kept = g.1; steps = (f.steps, g.0) }

  masked_by : (start : World) (trace : List QuarantineMoment) → QuarantineJoint service wait start trace → AreLongSteps service start trace → AreMaskedMoments service start trace
  masked_by start [] j steps = tt
  masked_by start (moment ∷ earlier) j steps =
      let f : Followed start earlier = follows start earlier j.0 in
      let now : Passed service small (seen (after_moments start earlier)) moment.sent (seen moment.world) =
      step_passed (seen (after_moments start earlier)) moment.sent (seen moment.world) f.stands f.saw steps.1 in (
        masked_by start earlier j.0 steps.0,
        record {
          clients = sees_front service moment.world.now now.shown.stands;
          past = now.past;
          acknowledged = now.shown.acknowledged;
          restart = now.shown.restart;
          reported = all_reported service moment.world.now now.shown.stands;
        },
      )

  pub all_masked : (start : World) (trace : List QuarantineMoment) → QuarantineJoint service wait start trace → AreMaskedMoments service start trace
  all_masked start trace j = masked_by start trace j (follows start trace j).steps

  -- What holds of a message about forgetting that may come next

  pub recycling : (start : World) (trace : List QuarantineMoment) (number : ℕ) (message : ForgetMessage) → QuarantineJoint service wait start trace
      → slice_get (after_moments start trace).notes number ≡ Some message → IsRecycling (after_moments start trace).now message
  recycling start trace number message j there =
      let f : Followed start trace = follows start trace j in changes service (after_moments start trace) f.stands f.kept number message there

  pub forgetting : (start : World) (trace : List QuarantineMoment) (number : ℕ) (message : ForgetMessage) (key : Key) → QuarantineJoint service wait start trace
      → slice_get (after_moments start trace).notes number ≡ Some message → taken_away (after_moments start trace).now.node message (after_moments start trace).quarantine ≡ Some key
      → MayForget key (after_moments start trace).now
  forgetting start trace number message key j there e =
      let w : QuarantineWorld = after_moments start trace in
      may_forget service w (follows start trace j).kept number message there key (takes_away w message key w.now.node refl e)

  pub older : (start : World) (trace : List QuarantineMoment) (number : ℕ) (message : ForgetMessage) (node : Node) → QuarantineJoint service wait start trace
      → slice_get (after_moments start trace).notes number ≡ Some message → (after_moments start trace).now.node ≡ Some node → is_restarting node.stage ≡ true → message.boot < node.boot
  older start trace number message node j there up r =
      let f : Followed start trace = follows start trace j in older_than_restart service (after_moments start trace) f.stands f.kept number message there node up r
