-- Where the server is discreet, each RST that was ever sent, and isn't lost by now, goes to a client whose entry is done.
use Rattle.std.proofs.Common.{◌≡◌, Bool, true, false, is_some, refl, sym, ◌∙◌, subst, true≢false, ⊎_elim, IfSome, Option, Some, None, List, [], ◌∷◌}
use Rattle.std.specs.List.{AllByRecursion}
use Rattle.ft_io.specs.declared.Key.{Key}
use Rattle.seq_arith.specs.Packet.{has_rst}
use Rattle.server_trait.specs.Service.{Machine}
use Rattle.ft_model.specs.Growth.{LogGrows}
use Rattle.ft_model.specs.Log.{Log, Entry, entry_of, log_after}
use Rattle.ft_model.specs.Network.{Packet, destination_of}
use Rattle.ft_model.specs.Network.Packet.{To_server, To_client, To_logger, From_logger}
use Rattle.ft_model.specs.Resets.{ResetsNoLogged}
use Rattle.ft_model.specs.World.{World, IsStart}
use Rattle.ft_model.proofs.Grows.{log_grows}
use Rattle.ft_model.proofs.Happened.{Happened, happened}
use Rattle.ft_model.proofs.Happened.Happened.{log_received, client_received, client_moved, server_turned, server_booted, server_down}
use Rattle.ft_model.proofs.Lists.{all_both, all_weaker, all_append}
use Rattle.ft_model.proofs.Refused.{IsDone, done_later}
use Rattle.ft_model.proofs.Running.{HasSmallOutputs}
use Rattle.long_laws.specs.LongTrace.{LongWorld, LongStep, LongMoment, LongJoint, MayPass, long_after, concerns, without_entry, keep_alive}
use Rattle.long_laws.specs.LongTrace.LongStep.{Joint_event, Recycles, Forgets, Arrives, Lets_go, Keeps_alive}
use Rattle.long_laws.specs.LongResets.{receives_full, is_reset, ResetsOnlyLogged, IsDiscreet, AreDiscreet}
use Rattle.long_laws.proofs.Others.{all_others, find_others}
use Rattle.long_laws.proofs.Spared.{moment_spares}

abbrev ResetsDone : Log → Packet → Type 0
ResetsDone log (To_client segment) = has_rst segment ≡ true → IsDone log (destination_of segment)
ResetsDone log _ = Unit {0}

abbrev AllDone : World → Type 0
AllDone w = AllByRecursion (ResetsDone w.log) w.packets

done_by : (log : Log) (key : Key) (o : Option Entry) → entry_of key log ≡ o → is_some o ≡ true → IfSome o (λ e. e.done ≡ true) → IsDone log key
done_by log key (Some e) f s d = (e, f, d)
done_by log key None f s d = absurd (true≢false (sym s))

-- what a discreet moment sends
done_there : (log : Log) (p : Packet) → ResetsOnlyLogged log p → ResetsNoLogged log p → ResetsDone log p
done_there log (To_client segment) k n = λ r. done_by log (destination_of segment) (entry_of (destination_of segment) log) refl (k r) (n r)
done_there log (To_server segment) k n = tt
done_there log (To_logger message) k n = tt
done_there log (From_logger message) k n = tt

no_reset : (log : Log) (p : Packet) → is_reset p ≡ false → ResetsDone log p
no_reset log (To_client segment) e = λ r. absurd (true≢false (sym r ∙ e))
no_reset log (To_server segment) e = tt
no_reset log (To_logger message) e = tt
no_reset log (From_logger message) e = tt

sent_by_case : (before : World) (moment : LongMoment) (b : Bool) → receives_full before moment.step ≡ b → IsDiscreet before moment
    → (receives_full before moment.step ≡ false → AllByRecursion (ResetsNoLogged moment.world.now.log) moment.sent) → AllByRecursion (ResetsDone moment.world.now.log) moment.sent
sent_by_case before moment true e d f = all_weaker (λ p. is_reset p ≡ false) (ResetsDone moment.world.now.log) moment.sent (no_reset moment.world.now.log) (d.full e)
sent_by_case before moment false e d f =
    all_both (ResetsOnlyLogged moment.world.now.log) (ResetsNoLogged moment.world.now.log) (ResetsDone moment.world.now.log) moment.sent (done_there moment.world.now.log) d.unlogged (f e)

-- what was sent before
resets_later : (before after : Log) → LogGrows before after → (p : Packet) → ResetsDone before p → ResetsDone after p
resets_later before after g (To_client segment) d = λ r. done_later before after (destination_of segment) g (d r)
resets_later before after g (To_server segment) d = tt
resets_later before after g (To_logger message) d = tt
resets_later before after g (From_logger message) d = tt

abbrev Proceed : List Packet → World → Type 0
Proceed sent after = AllByRecursion (ResetsDone after.log) sent → AllDone after

event_done : {State : Type 0} (service : Machine State) (before : World) (sent : List Packet) (after : World) → AllDone before → Happened service before sent after → Proceed sent after
event_done service before sent after k (log_received message under s e) =
    let log : Log = log_after before.log message in
    subst (Proceed sent) (sym e)
    (λ a. all_append (ResetsDone log) before.packets sent (all_weaker (ResetsDone before.log) (ResetsDone log) before.packets (resets_later before.log log (log_grows before.log message)) k) a)
event_done service before sent after k (client_received segment under s e) = subst (Proceed sent) (sym e) (λ a. all_append (ResetsDone before.log) before.packets sent k a)
event_done service before sent after k (client_moved number m) = subst (Proceed sent) (sym m.after_is) (λ a. all_append (ResetsDone before.log) before.packets sent k a)
event_done service before sent after k (server_turned input node later brought is turn e) = subst (Proceed sent) (sym e) (λ a. all_append (ResetsDone before.log) before.packets sent k a)
event_done service before sent after k (server_booted boot isn down larger s e) = subst (Proceed sent) (sym e) (λ a. all_append (ResetsDone before.log) before.packets sent k a)
event_done service before sent after k (server_down s e) = subst (Proceed sent) (sym e) (λ a. all_append (ResetsDone before.log) before.packets sent k a)

-- the entry of another key stays, and what went to this one is lost
resets_without : (key : Key) (log : Log) (p : Packet) → concerns key p ≡ false → ResetsDone log p → ResetsDone (without_entry key log) p
resets_without key log (To_client segment) a d = λ r. let x = d r in (x.0, find_others (λ e. e.key) key (destination_of segment) log.entries a ∙ x.1, x.2)
resets_without key log (To_server segment) a d = tt
resets_without key log (To_logger message) a d = tt
resets_without key log (From_logger message) a d = tt

step_done : {State : Type 0} (service : Machine State) (before after : LongWorld) (sent : List Packet) (step : LongStep) → AllDone before.now → MayPass service before step sent after → Proceed sent after.now
step_done service before after sent (Joint_event event) k h =
    ⊎_elim (λ x. event_done service before.now sent after.now k x) (λ q. subst (Proceed sent) (sym q.1) (λ a. k)) (happened service before.now event sent after.now h.0)
step_done service before after sent (Recycles key) k h =
    subst (Proceed sent) (sym h.2) (λ a. all_others (ResetsDone before.now.log) (ResetsDone (without_entry key before.now.log)) (concerns key) before.now.packets (resets_without key before.now.log) k)
step_done service before after sent (Forgets key) k h = subst (Proceed sent) (sym h.2) (λ a. k)
step_done service before after sent (Arrives c) k h = subst (Proceed sent) (sym h.2) (λ a. k)
step_done service before after sent (Lets_go key) k h = subst (Proceed sent) (sym h.0.after_is) (λ a. all_append (ResetsDone before.now.log) before.now.packets sent k a)
step_done service before after sent (Keeps_alive key) k h =
    let one : List Packet = To_client (keep_alive h.0.node.server h.0.point) ∷ [] in
    subst (λ l. Proceed l after.now) (sym h.0.sent_is) (subst (Proceed one) (sym h.0.after_is) (λ a. all_append (ResetsDone before.now.log) before.now.packets one k a))

all_done : {State : Type 0} (service : Machine State) → HasSmallOutputs service → (start : World) (trace : List LongMoment) → LongJoint service start trace → AreDiscreet start trace
    → AllDone (long_after start trace).now
all_done service small start [] j d = start_done start j
  where
    start_done : (w : World) → IsStart w → AllDone w
    start_done w s = subst (AllByRecursion (ResetsDone w.log)) (sym s.packets) tt
all_done service small start (moment ∷ earlier) j d =
    step_done service (long_after start earlier) moment.world moment.sent moment.step (all_done service small start earlier j.0 d.0) j.1
    (sent_by_case (long_after start earlier).now moment (receives_full (long_after start earlier).now moment.step) refl d.1 (moment_spares service small start moment earlier j))

spared : (log : Log) (p : Packet) → ResetsDone log p → ResetsNoLogged log p
spared log (To_client segment) d = λ r. let x = d r in subst (λ o. IfSome o (λ e. e.done ≡ true)) (sym x.1) x.2
spared log (To_server segment) d = tt
spared log (To_logger message) d = tt
spared log (From_logger message) d = tt

pub all_spared : {State : Type 0} (service : Machine State) → HasSmallOutputs service → (start : World) (trace : List LongMoment) → LongJoint service start trace → AreDiscreet start trace
    → AllByRecursion (ResetsNoLogged (long_after start trace).now.log) (long_after start trace).now.packets
all_spared service small start trace j d =
    all_weaker (ResetsDone (long_after start trace).now.log) _ (long_after start trace).now.packets (spared (long_after start trace).now.log) (all_done service small start trace j d)
