-- Every message about forgetting under way can be spelled, and so can one about whatever is in quarantine.
use Rattle.std.proofs.Common.{◌≡◌, ℕ, ◌<◌, ◌^◌, arith, Bool, true, false, max, MatchBool, refl, sym, ◌∙◌, subst, Option, Some, None, List, [], ◌∷◌, ◌++◌, filter, slice_get, append-nil}
use Rattle.std.specs.List.{AllByRecursion}
use Rattle.ft_io.specs.declared.Key.{Key}
use Rattle.ft_io.specs.Key.{key_eq}
use Rattle.ft_io.proofs.Choices.{holds_if}
use Rattle.server_trait.specs.Service.{Machine, WritesBytes}
use Rattle.seq_arith.specs.MessageGrammar.{AllFit}
use Rattle.ft_model.specs.Log.{Entry}
use Rattle.ft_model.specs.Network.{Packet}
use Rattle.ft_model.specs.Node.{Node, Input}
use Rattle.ft_model.specs.Node.Input.{Packet_comes, Message_comes, Noise_comes, Tick_comes}
use Rattle.ft_model.specs.Readable.{FitsKey}
use Rattle.ft_model.specs.World.{World}
use Rattle.ft_model.proofs.Formed.{IsBoot}
use Rattle.ft_model.proofs.Lists.{all_weaker, all_append, all_map, all_find, all_slice_get, found_passes, same_key}
use Rattle.ft_model.proofs.Running.{HasSmallOutputs}
use Rattle.long_laws.specs.ForgetGrammar.{IsSpellable, naming, numbers_of}
use Rattle.long_laws.specs.Forgetting.{Named, ForgetMessage, ForgetAnswer, forget, answer_to_forget}
use Rattle.long_laws.specs.Forgetting.ForgetAnswer.{About_forgetting, Of_log}
use Rattle.long_laws.specs.LongTrace.{LongStep, MayPass}
use Rattle.long_laws.specs.Quarantine.{Quarantined, is_leaving, forgets, early, taken_away}
use Rattle.long_laws.specs.QuarantineWorld.{QuarantineWorld, QuarantineStep, QuarantineMoment, QuarantineJoint, MayQuarantine, Usually, DropsSilently, step_input, quarantine_then, forgets_then, drops, is_full_input, recycled_by, recycled_world, with_answer, without_place, after_moments, seen}
use Rattle.long_laws.specs.QuarantineWorld.QuarantineStep.{Usual, To_log, To_node, Is_lost, Ends_early}
use Rattle.long_laws.proofs.ForgetLog.{forgotten_means_gone}
use Rattle.long_laws.proofs.Others.{all_others, all_filtered}
use Rattle.long_laws.proofs.QuarantineDone.{HasIt}
use Rattle.lasting_unseen.proofs.Names.{step_brings, quarantine_goes, quarantine_kept, lost_names}
use Rattle.lasting_unseen.proofs.Peopled.{Peopled}
use Rattle.lasting_unseen.proofs.PeopledTraces.{peopled_after}

abbrev FitsNamed : Named → Type 0
FitsNamed n = AllFit naming (numbers_of n)

record Fits (q : QuarantineWorld) : Type 0 where
  held : AllByRecursion (λ x. FitsNamed x.named) q.quarantine
  noted : AllByRecursion IsSpellable q.notes

module _ {State : Type 0} (service : Machine State) where
  -- an entry's numbers fit
  entry_fits : (w : World) → Peopled service w → (n : Named) → HasIt n w.log → FitsNamed n
  entry_fits w o n h =
      let e : Entry = h.0 in
      let own : e.key ≡ n.key = same_key e.key n.key (found_passes (λ x. key_eq x.key n.key) w.log.entries e h.1) in
      let formed = all_find _ (λ x. key_eq x.key n.key) w.log.entries e o.formed.entries h.1 in
      let faithful = all_find _ (λ x. key_eq x.key n.key) w.log.entries e o.stands.faithful.entries h.1 in
      let key : FitsKey n.key = subst FitsKey own formed.key.0 in
      let isn : o.stands.isn e.key < 2 ^ 32 = subst (λ f. f e.key < 2 ^ 32) o.isn (o.starts.isn e.key) in
      let cisn : n.cisn < 2 ^ 32 = subst (λ x. x < 2 ^ 32) (sym faithful.cisn ∙ h.2) isn in
      let sisn : n.sisn < 2 ^ 32 = subst (λ x. x < 2 ^ 32) h.3 formed.sisn in
      (omega (arith, key.0), (omega (arith, key.1), (omega (arith, cisn), (omega (arith, sisn), tt))))

  forget_fits : (boot : ℕ) (n : Named) → IsBoot boot → FitsNamed n → IsSpellable (forget boot n)
  forget_fits boot n b f = record { boot = omega (arith, b.1); begun = omega (arith, b.0); numbers = f }

  tick_fits : (wait boot : ℕ) (i : Input) (qs : List Quarantined) → IsBoot boot → AllByRecursion (λ x. FitsNamed x.named) qs → AllByRecursion IsSpellable (forgets wait boot i qs)
  tick_fits wait boot Tick_comes qs b all =
      all_map IsSpellable (λ q. forget boot q.named) (filter (is_leaving wait) qs)
      (all_filtered (λ x. FitsNamed x.named) (λ x. IsSpellable (forget boot x.named)) (is_leaving wait) qs (λ q t f. forget_fits boot q.named b f) all)
  tick_fits wait boot (Packet_comes segment) qs b all = tt
  tick_fits wait boot (Message_comes message) qs b all = tt
  tick_fits wait boot Noise_comes qs b all = tt

  sent_fits : (wait : ℕ) (o : Option Node) (i : Option Input) (qs : List Quarantined) → ((node : Node) → o ≡ Some node → IsBoot node.boot) → AllByRecursion (λ x. FitsNamed x.named) qs
      → AllByRecursion IsSpellable (forgets_then wait o i qs)
  sent_fits wait (Some node) (Some input) qs b all = tick_fits wait node.boot input qs (b node refl) all
  sent_fits wait (Some node) None qs b all = tt
  sent_fits wait None i qs b all = tt

  -- a step that a server without quarantine may take, too
  module _ (wait : ℕ) (before after : QuarantineWorld) (step : LongStep) (all : List Packet) (there : World) (o : Peopled service before.now) (fits : Fits before)
      (passes : MayPass service (seen before) step all (record { now = there; past = after.past })) where
    held_fit : (node : Option Node) → AllByRecursion (λ x. FitsNamed x.named) (quarantine_then before.now.node (step_input before.now step) node before.quarantine)
    held_fit node =
        quarantine_kept service FitsNamed before.now.node (step_input before.now step) node before.quarantine fits.held
        (λ m input stage up comes. quarantine_goes service FitsNamed before.now o.stands (entry_fits before.now o) m input up
        (step_brings service (seen before) (record { now = there; past = after.past }) step all passes input m comes up) before.quarantine fits.held stage)

    fit_then : (node : Option Node) (more : List ForgetMessage) → after.quarantine ≡ quarantine_then before.now.node (step_input before.now step) node before.quarantine → after.notes ≡ before.notes ++ more
        → AllByRecursion IsSpellable more → Fits after
    fit_then node more qs notes a = record {
      held = subst (AllByRecursion (λ x. FitsNamed x.named)) (sym qs) (held_fit node);
      noted = subst (AllByRecursion IsSpellable) (sym notes) (all_append IsSpellable before.notes more fits.noted a);
    }

  usual_fits : (wait : ℕ) (before after : QuarantineWorld) (step : LongStep) (sent : List Packet) → Peopled service before.now → Fits before → (dropped full : Bool)
      → MatchBool dropped ((sent ≡ []) × (after ≡ before)) (MatchBool full (DropsSilently service before step sent after) (Usually service wait before step sent after)) → Fits after
  usual_fits wait before after step sent o fits true full d = subst Fits (sym d.1) fits
  usual_fits wait before after step sent o fits false false u =
      fit_then wait before after step sent after.now o fits u.passes after.now.node (forgets_then wait before.now.node (step_input before.now step) after.quarantine) u.quarantine u.notes
      (sent_fits wait before.now.node (step_input before.now step) after.quarantine (λ node up. (o.formed.node node up).boot)
      (subst (AllByRecursion (λ x. FitsNamed x.named)) (sym u.quarantine) (held_fit wait before after step sent after.now o fits u.passes after.now.node)))
  usual_fits wait before after step sent o fits false true d =
      fit_then wait before after step d.all d.there o fits d.passes d.there.node [] d.quarantine (d.notes ∙ sym (append-nil before.notes)) tt

  -- a message about forgetting reaches the log, or the server
  recycled_fits : (r : Option Key) (q : QuarantineWorld) → Fits q → Fits (recycled_world r q)
  recycled_fits None q fits = fits
  recycled_fits (Some key) q fits = record { held = fits.held; noted = fits.noted }

  answered_fits : (a : Option ForgetAnswer) (v : QuarantineWorld) → Fits v → ((answer : ForgetMessage) → a ≡ Some (About_forgetting answer) → IsSpellable answer) → Fits (with_answer a v)
  answered_fits None v fits f = fits
  answered_fits (Some (Of_log answer)) v fits f = record { held = fits.held; noted = fits.noted }
  answered_fits (Some (About_forgetting answer)) v fits f = record { held = fits.held; noted = all_append IsSpellable v.notes (answer ∷ []) fits.noted (f answer refl, tt) }

  to_log_fits : (q : QuarantineWorld) (number : ℕ) (message : ForgetMessage) → slice_get q.notes number ≡ Some message → Fits q
      → Fits (with_answer (answer_to_forget q.now.log message) (recycled_world (recycled_by message q.now.log) q))
  to_log_fits q number message at fits =
      answered_fits (answer_to_forget q.now.log message) (recycled_world (recycled_by message q.now.log) q) (recycled_fits (recycled_by message q.now.log) q fits)
      (λ answer e. let said = forgotten_means_gone q.now.log message answer e in
      let own : IsSpellable (forget q.now.log.boot said.0) = subst IsSpellable said.1 (all_slice_get IsSpellable q.notes number message fits.noted at) in
      subst IsSpellable (sym said.2) (record { boot = own.boot; begun = own.begun; numbers = own.numbers }))

  placed_fits : (r : Option Key) (q : QuarantineWorld) → Fits q → Fits (without_place r q)
  placed_fits None q fits = fits
  placed_fits (Some key) q fits = record {
    held = all_others (λ x. FitsNamed x.named) (λ x. FitsNamed x.named) (λ x. key_eq x.named.key key) q.quarantine (λ x t f. f) fits.held;
    noted = fits.noted;
  }

  moment_fits : (wait : ℕ) (before after : QuarantineWorld) (step : QuarantineStep) (sent : List Packet) → Peopled service before.now → Fits before → MayQuarantine service wait before step sent after → Fits after
  moment_fits wait before after (Usual step) sent o fits (free, d) =
      usual_fits wait before after step sent o fits (drops wait before.now.node (step_input before.now step) before.quarantine) (is_full_input (step_input before.now step)) d
  moment_fits wait before after (To_log number) sent o fits (message, at, s, is) = subst Fits (sym is) (to_log_fits before number message at fits)
  moment_fits wait before after (To_node number) sent o fits (message, at, s, is) = subst Fits (sym is) (placed_fits (taken_away before.now.node message before.quarantine) before fits)
  moment_fits wait before after (Is_lost number) sent o fits (s, is) =
      subst Fits (sym is) (record { held = fits.held; noted = lost_names service IsSpellable number before.notes fits.noted })
  moment_fits wait before after (Ends_early key) sent o fits (s, e) =
      subst Fits (sym e.after_is)
      (record {
        held = all_map (λ x. FitsNamed x.named) (early wait key) before.quarantine
            (all_weaker (λ x. FitsNamed x.named) (λ x. FitsNamed (early wait key x).named) before.quarantine
            (λ x f. holds_if (λ y. FitsNamed y.named) (key_eq x.named.key key) (record x { age = max wait x.age }) x (λ t. f) (λ t. f)) fits.held);
        noted = all_append IsSpellable before.notes (forget e.node.boot e.quarantined.named ∷ []) fits.noted
            (forget_fits e.node.boot e.quarantined.named (o.formed.node e.node e.up).boot (all_find (λ x. FitsNamed x.named) (λ x. key_eq x.named.key key) before.quarantine e.quarantined fits.held e.found), tt);
      })

  all_fits : HasSmallOutputs service → WritesBytes service → (wait : ℕ) (start : World) (trace : List QuarantineMoment) → QuarantineJoint service wait start trace → Fits (after_moments start trace)
  all_fits small writes wait start [] j = record { held = tt; noted = tt }
  all_fits small writes wait start (m ∷ earlier) j =
      moment_fits wait (after_moments start earlier) m.world m.step m.sent (peopled_after service small writes wait start earlier j.0) (all_fits small writes wait start earlier j.0) j.1

  pub spelled_after : HasSmallOutputs service → WritesBytes service → (wait : ℕ) (start : World) (trace : List QuarantineMoment) → QuarantineJoint service wait start trace
      → AllByRecursion IsSpellable (after_moments start trace).notes
  spelled_after small writes wait start trace j = (all_fits small writes wait start trace j).noted
