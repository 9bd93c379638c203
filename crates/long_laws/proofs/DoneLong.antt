-- Done means over, in long traces.
use Rattle.std.proofs.Common.{◌≡◌, Bool, true, sym, ap, ◌∙◌, subst, inl, inr, ⊎_elim, Some, List, [], ◌∷◌, filter}
use Rattle.std.specs.List.{AllByRecursion}
use Rattle.ft_io.specs.declared.Key.{Key}
use Rattle.ft_io.specs.Key.{key_eq}
use Rattle.server_trait.specs.Service.{Machine, reference}
use Rattle.ft_model.specs.Client.{Client}
use Rattle.ft_model.specs.Growth.{logged_lengths}
use Rattle.ft_model.specs.Masked.{unfailing}
use Rattle.ft_model.specs.Log.{Entry, entry_of}
use Rattle.ft_model.specs.Network.{Packet}
use Rattle.ft_model.specs.World.{World}
use Rattle.ft_model.proofs.Happened.{happened}
use Rattle.ft_model.proofs.Lists.{all_map, same_key}
use Rattle.ft_model.proofs.Running.{HasSmallOutputs}
use Rattle.long_laws.specs.LongTrace.{LongWorld, LongStep, LongMoment, LongJoint, MayPass, long_after, gone_with}
use Rattle.long_laws.specs.LongTrace.LongStep.{Joint_event, Recycles, Forgets, Arrives, Lets_go, Keeps_alive}
use Rattle.long_laws.specs.Over.{IsOverOrLetGo, WentOver, let_go_by, was_let_go}
use Rattle.long_laws.proofs.Long.{all_stand}
use Rattle.long_laws.proofs.Others.{all_filtered}
use Rattle.long_laws.proofs.OverSteps.{over_without, over_forgotten, over_with_new, over_let_go, over_kept_alive}
use Rattle.long_laws.proofs.OverWorld.{OverWorld, over_proceeds, start_over, over_when_done}
use Rattle.long_laws.proofs.Stands.{Stands}

module _ {State : Type 0} (service : Machine State) (small : HasSmallOutputs service) where
  step_over : (before after : LongWorld) (step : LongStep) (sent : List Packet) (let_go : Key → Bool) → Stands service before.now → Stands service after.now → MayPass service before step sent after
      → OverWorld service let_go before.now → OverWorld service (λ k. let_go_by step k (let_go k)) after.now
  step_over before after (Joint_event event) sent let_go o then_ h x =
      ⊎_elim (λ y. over_proceeds service let_go before.now sent after.now o then_ y x) (λ q. subst (OverWorld service let_go) (sym q.1) x) (happened service before.now event sent after.now h.0)
  step_over before after (Recycles key) sent let_go o then_ h x = subst (OverWorld service (λ k. let_go_by (Recycles key) k (let_go k))) (sym h.2) (over_without service let_go key before.now x)
  step_over before after (Forgets key) sent let_go o then_ h x = subst (OverWorld service let_go) (sym h.2) (over_forgotten service let_go key before.now x)
  step_over before after (Arrives c) sent let_go o then_ h x = subst (OverWorld service let_go) (sym h.2) (over_with_new service let_go c before.now h.0 x)
  step_over before after (Lets_go key) sent let_go o then_ h x = over_let_go service let_go key before.now sent after.now o h.0 x
  step_over before after (Keeps_alive key) sent let_go o then_ h x = over_kept_alive service let_go key before.now sent after.now h.0 x

  goes_over : (start : World) (trace : List LongMoment) → LongJoint service start trace → OverWorld service (λ k. was_let_go trace k) (long_after start trace).now
  goes_over start [] j = start_over service (λ k. was_let_go [] k) start j
  goes_over start (moment ∷ earlier) j =
      step_over (long_after start earlier) moment.world moment.step moment.sent (λ k. was_let_go earlier k) (all_stand service small start earlier j.0).0
      (all_stand service small start (moment ∷ earlier) j).0 j.1 (goes_over start earlier j.0)

  pub long_over : (start : World) (trace : List LongMoment) → LongJoint service start trace
      → AllByRecursion (IsOverOrLetGo service trace (long_after start trace).now) (long_after start trace).now.clients
  long_over start trace j = over_when_done service (λ k. was_let_go trace k) (long_after start trace).now (goes_over start trace j)

  -- so it is of those that go with an entry
  went_over : (w : World) (trace : List LongMoment) (key : Key) (e : Entry) → entry_of key w.log ≡ Some e → e.done ≡ true → (c : Client) → key_eq c.key key ≡ true → IsOverOrLetGo service trace w c
      → WentOver service trace w key (record { client = c; lengths = logged_lengths key w.log })
  went_over w trace key e found done c k over =
      let same : c.key ≡ key = same_key c.key key k in
      let run : unfailing service w.log c ≡ reference service c.script (logged_lengths key w.log) = ap (λ y. reference service c.script (logged_lengths y w.log)) same in
      ⊎_elim
      (λ x. ⊎_elim (λ y. inl (record { closed = ap (λ r. r.closed) (sym run) ∙ y.closed; all = y.all ∙ ap (λ r. r.output) run })) (λ y. inr (inl y)) x)
      (λ x. inr (inr (ap (λ z. was_let_go trace z) (sym same) ∙ x))) (over e (ap (λ y. entry_of y w.log) same ∙ found) done)

  pub recycled_over : (start : World) (moment : LongMoment) (earlier : List LongMoment) (key : Key) → LongJoint service start (moment ∷ earlier) → moment.step ≡ Recycles key
      → (e : Entry) → entry_of key (long_after start earlier).now.log ≡ Some e
      → AllByRecursion (WentOver service earlier (long_after start earlier).now key)
      (gone_with (logged_lengths key (long_after start earlier).now.log) (filter (λ c. key_eq c.key key) (long_after start earlier).now.clients))
  recycled_over start moment earlier key j is e found =
      let w : World = (long_after start earlier).now in
      let may : MayPass service (long_after start earlier) (Recycles key) moment.sent moment.world = subst (λ s. MayPass service (long_after start earlier) s moment.sent moment.world) is j.1 in
      all_map (WentOver service earlier w key) (λ c. record { client = c; lengths = logged_lengths key w.log }) (filter (λ c. key_eq c.key key) w.clients)
      (all_filtered (IsOverOrLetGo service earlier w) (λ c. WentOver service earlier w key (record { client = c; lengths = logged_lengths key w.log })) (λ c. key_eq c.key key) w.clients
      (went_over w earlier key e found (may.0.done e found)) (long_over start earlier j.0))
