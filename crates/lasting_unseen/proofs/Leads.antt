-- Several moments of a world with a quarantine, oldest first, as the sequel of its trace; and what is seen of them from outside.
use Rattle.std.proofs.Common.{◌≡◌, ◌⊎◌, inl, inr, ⊎_elim, ℕ, refl, sym, ap, subst, append-nil, List, [], ◌∷◌}
use Rattle.std.specs.List.{AllByRecursion, flat_map}
use Rattle.server_trait.specs.Service.{Machine}
use Rattle.ft_model.specs.Client.{Client}
use Rattle.ft_model.specs.Log.{Log}
use Rattle.ft_model.specs.Masked.{AcknowledgesLogged, RestartIsExact}
use Rattle.ft_model.specs.Network.{Packet}
use Rattle.ft_model.specs.World.{World}
use Rattle.ft_model.proofs.Lists.{all_append}
use Rattle.ft_model.proofs.Running.{HasSmallOutputs}
use Rattle.long_laws.specs.QuarantineWorld.{QuarantineWorld, QuarantineMoment, QuarantineJoint, MayQuarantine, after_moments}
use Rattle.long_laws.proofs.QuarantineTraces.{all_masked}

-- they lead from one world to another
abbrev pub Leads : {State : Type 0} → Machine State → (wait : ℕ) → QuarantineWorld → List QuarantineMoment → QuarantineWorld → Type 0
Leads service wait before [] after = after ≡ before
Leads service wait before (moment ∷ later) after = MayQuarantine service wait before moment.step moment.sent moment.world × Leads service wait moment.world later after

-- what a moment sends is sent while log and clients are as at the end
abbrev pub SentInView : Log → List Client → QuarantineMoment → Type 0
SentInView log clients m = (m.sent ≡ []) ⊎ ((m.world.now.log ≡ log) × (m.world.now.clients ≡ clients))

-- all that an event of a schedule is
pub record Passes {State : Type 0} (service : Machine State) (wait : ℕ) (before : QuarantineWorld) (sent : List Packet) (after : QuarantineWorld) : Type 0 where
  pub moments : List QuarantineMoment
  pub leads : Leads service wait before moments after
  pub sent_is : flat_map (λ m. m.sent) moments ≡ sent
  pub in_view : AllByRecursion (SentInView after.now.log after.now.clients) moments
  pub exact : ((m : QuarantineMoment) × (moments ≡ m ∷ [])) ⊎ RestartIsExact service after.now.log before.now.node after.now.node

-- one moment
pub one_passes : {State : Type 0} (service : Machine State) (wait : ℕ) (before after : QuarantineWorld) (m : QuarantineMoment) → MayQuarantine service wait before m.step m.sent m.world → after ≡ m.world
    → Passes service wait before m.sent after
one_passes service wait before after m may is = record {
  moments = m ∷ [];
  leads = (may, is);
  sent_is = append-nil m.sent;
  in_view = (inr (ap (λ q. q.now.log) (sym is), ap (λ q. q.now.clients) (sym is)), tt);
  exact = inl (m, refl);
}

-- the trace goes on with them
abbrev pub onto : List QuarantineMoment → List QuarantineMoment → List QuarantineMoment
onto [] trace = trace
onto (m ∷ moments) trace = onto moments (m ∷ trace)

module _ {State : Type 0} (service : Machine State) (wait : ℕ) (start : World) where
  pub goes_on : (moments trace : List QuarantineMoment) (after : QuarantineWorld) → QuarantineJoint service wait start trace → Leads service wait (after_moments start trace) moments after
      → QuarantineJoint service wait start (onto moments trace) × (after_moments start (onto moments trace) ≡ after)
  goes_on [] trace after j leads = (j, sym leads)
  goes_on (m ∷ moments) trace after j leads = goes_on moments (m ∷ trace) after (j, leads.0) leads.1

  -- nothing that is sent acknowledges what isn't logged
  pub acknowledged : HasSmallOutputs service → (moments trace : List QuarantineMoment) (after : QuarantineWorld) (log : Log) (clients : List Client) → QuarantineJoint service wait start trace
      → Leads service wait (after_moments start trace) moments after → AllByRecursion (SentInView log clients) moments
      → AllByRecursion (AcknowledgesLogged log clients) (flat_map (λ m. m.sent) moments)
  acknowledged small [] trace after log clients j leads view = tt
  acknowledged small (m ∷ moments) trace after log clients j leads view =
      let now : QuarantineJoint service wait start (m ∷ trace) = (j, leads.0) in
      let masked = (all_masked service small wait start (m ∷ trace) now).1 in
      all_append (AcknowledgesLogged log clients) m.sent (flat_map (λ x. x.sent) moments)
      (⊎_elim (λ none. subst (AllByRecursion (AcknowledgesLogged log clients)) (sym none) tt)
      (λ same. subst (λ l. AllByRecursion (AcknowledgesLogged l clients) m.sent) same.0 (subst (λ c. AllByRecursion (AcknowledgesLogged m.world.now.log c) m.sent) same.1 masked.acknowledged)) view.0)
      (acknowledged small moments (m ∷ trace) after log clients now leads.1 view.1)

  -- a restart is exact
  pub exactly : HasSmallOutputs service → (trace : List QuarantineMoment) (sent : List Packet) (after : QuarantineWorld) → QuarantineJoint service wait start trace
      → (p : Passes service wait (after_moments start trace) sent after) → RestartIsExact service after.now.log (after_moments start trace).now.node after.now.node
  exactly small trace sent after j p = ⊎_elim (λ s. single s.0 s.1) (λ e. e) p.exact
    where
      single : (m : QuarantineMoment) → p.moments ≡ m ∷ [] → RestartIsExact service after.now.log (after_moments start trace).now.node after.now.node
      single m e =
          let leads : Leads service wait (after_moments start trace) (m ∷ []) after = subst (λ l. Leads service wait (after_moments start trace) l after) e p.leads in
          let masked = (all_masked service small wait start (m ∷ trace) (j, leads.0)).1 in
          subst (λ q. RestartIsExact service q.now.log (after_moments start trace).now.node q.now.node) (sym leads.1) masked.restart
