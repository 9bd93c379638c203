-- The headline for long traces.
use Rattle.std.proofs.Common.{◌≡◌, true, sym, ap₂, subst, List, [], ◌∷◌, filter}
use Rattle.std.specs.List.{AllByRecursion}
use Rattle.ft_io.specs.declared.Key.{Key}
use Rattle.ft_io.specs.Key.{key_eq}
use Rattle.server_trait.specs.Service.{Machine, reference}
use Rattle.ft_model.specs.Client.{Client}
use Rattle.ft_model.specs.Growth.{IsPrefix, logged_lengths}
use Rattle.ft_model.specs.Masked.{AcknowledgesLogged, RestartIsExact}
use Rattle.ft_model.specs.Network.{Packet}
use Rattle.ft_model.specs.World.{World}
use Rattle.ft_model.proofs.Authored.{logged_run}
use Rattle.ft_model.proofs.Exact.{same_exact}
use Rattle.ft_model.proofs.FaithfulKept.{ClientFits}
use Rattle.ft_model.proofs.Lists.{all_append, all_map, all_both, same_key}
use Rattle.ft_model.proofs.Running.{HasSmallOutputs}
use Rattle.ft_model.proofs.Seen.{IsSeen}
use Rattle.long_laws.specs.LongTrace.{LongWorld, LongStep, LongMoment, LongJoint, MayPass, long_after, AreMasked, SawFront, gone_with, recycled}
use Rattle.long_laws.specs.LongTrace.LongStep.{Joint_event, Recycles, Forgets, Arrives, Lets_go, Keeps_alive}
use Rattle.long_laws.proofs.Others.{all_filtered}
use Rattle.long_laws.proofs.Stands.{Stands, Shown, at_start, event_shown, sees_front, all_reported}
use Rattle.long_laws.proofs.Recycled.{stands_without}
use Rattle.long_laws.proofs.Forgotten.{stands_forgotten, forgets_exactly}
use Rattle.long_laws.proofs.Arrived.{stands_with_new}
use Rattle.long_laws.proofs.LetGo.{let_go_shown}
use Rattle.long_laws.proofs.KeepAlive.{keep_alive_shown}

abbrev IsGoing : {State : Type 0} (service : Machine State) (w : World) → Stands service w → Client → Type 0
IsGoing service w o c = IsSeen service o.script w.log c × ClientFits o.script o.isn c

-- a client whose entry is recycled has seen a prefix of what that entry gives
saw_front : {State : Type 0} (service : Machine State) (key : Key) (w : World) (o : Stands service w) (c : Client) → key_eq c.key key ≡ true
    → IsGoing service w o c → SawFront service (record { client = c; lengths = logged_lengths key w.log })
saw_front service key w o c e s =
    let same : logged_run service o.script w.log c.key ≡ reference service c.script (logged_lengths key w.log) =
    ap₂ (λ x k. reference service x (logged_lengths k w.log)) (sym s.1.0) (same_key c.key key e) in
    record {
      accepted = subst (λ r. IsPrefix c.accepted r.output) same s.0.front;
      ended = λ x. subst (λ r. (r.closed ≡ true) × (c.accepted ≡ r.output)) same (s.0.ended x);
    }

module _ {State : Type 0} (service : Machine State) (small : HasSmallOutputs service) where
  abbrev pub AllSaw : LongWorld → Type 0
  AllSaw w = AllByRecursion (SawFront service) w.past

  -- what a step leaves
  pub record Passed (before : LongWorld) (sent : List Packet) (after : LongWorld) : Type 0 where
    pub shown : Shown service before.now sent after.now
    pub past : AllSaw after

  still : (before after : LongWorld) (sent : List Packet) → sent ≡ [] → Stands service after.now → RestartIsExact service after.now.log before.now.node after.now.node → Shown service before.now sent after.now
  still before after sent none stands exact = record { stands = stands; acknowledged = subst (AllByRecursion (AcknowledgesLogged after.now.log after.now.clients)) (sym none) tt; restart = exact }

  gone : (key : Key) (w : World) (o : Stands service w) → AllByRecursion (SawFront service) (gone_with (logged_lengths key w.log) (filter (λ c. key_eq c.key key) w.clients))
  gone key w o =
      all_map (SawFront service) (λ c. record { client = c; lengths = logged_lengths key w.log }) (filter (λ c. key_eq c.key key) w.clients)
      (all_filtered (IsGoing service w o) (λ c. SawFront service (record { client = c; lengths = logged_lengths key w.log })) (λ c. key_eq c.key key) w.clients (saw_front service key w o)
      (all_both (IsSeen service o.script w.log) (ClientFits o.script o.isn) (IsGoing service w o) w.clients (λ c x y. (x, y)) o.sees o.faithful.clients))

  pub passed : (before after : LongWorld) (step : LongStep) (sent : List Packet) → Stands service before.now → AllSaw before → MayPass service before step sent after → Passed before sent after
  passed before after (Joint_event event) sent o past h = record { shown = event_shown service small before.now event sent after.now o h.0; past = subst (AllByRecursion (SawFront service)) (sym h.1) past }
  passed before after (Recycles key) sent o past h = record {
    shown = still before after sent h.1 (subst (Stands service) (sym h.2) (stands_without service key before.now o h.0))
        (subst (λ w. RestartIsExact service w.log before.now.node w.node) (sym h.2) (same_exact service (recycled key before.now).log before.now.node));
    past = subst (AllByRecursion (SawFront service)) (sym h.3)
        (all_append (SawFront service) before.past (gone_with (logged_lengths key before.now.log) (filter (λ c. key_eq c.key key) before.now.clients)) past (gone key before.now o));
  }
  passed before after (Forgets key) sent o past h = record {
    shown = still before after sent h.1 (subst (Stands service) (sym h.2) (stands_forgotten service key before.now o h.0))
        (subst (λ w. RestartIsExact service w.log before.now.node w.node) (sym h.2) (forgets_exactly service before.now.log key before.now.node));
    past = subst (AllByRecursion (SawFront service)) (sym h.3) past;
  }
  passed before after (Arrives c) sent o past h = record {
    shown = still before after sent h.1 (subst (Stands service) (sym h.2) (stands_with_new service c before.now o h.0))
        (subst (λ w. RestartIsExact service w.log before.now.node w.node) (sym h.2) (same_exact service before.now.log before.now.node));
    past = subst (AllByRecursion (SawFront service)) (sym h.3) past;
  }
  passed before after (Lets_go key) sent o past h = record { shown = let_go_shown service small key before.now sent after.now o h.0; past = subst (AllByRecursion (SawFront service)) (sym h.1) past }
  passed before after (Keeps_alive key) sent o past h = record { shown = keep_alive_shown service key before.now sent after.now o h.0; past = subst (AllByRecursion (SawFront service)) (sym h.1) past }

  pub all_stand : (start : World) (trace : List LongMoment) → LongJoint service start trace → Stands service (long_after start trace).now × AllSaw (long_after start trace)
  all_stand start [] j = (at_start service small start j, tt)
  all_stand start (moment ∷ earlier) j =
      let was = all_stand start earlier j.0 in
      let now : Passed (long_after start earlier) moment.sent moment.world = passed (long_after start earlier) moment.world moment.step moment.sent was.0 was.1 j.1 in
      (now.shown.stands, now.past)

  pub all_masked : (start : World) (trace : List LongMoment) → LongJoint service start trace → AreMasked service start trace
  all_masked start [] j = tt
  all_masked start (moment ∷ earlier) j =
      let was = all_stand start earlier j.0 in
      let now : Passed (long_after start earlier) moment.sent moment.world = passed (long_after start earlier) moment.world moment.step moment.sent was.0 was.1 j.1 in (
        all_masked start earlier j.0,
        record {
          clients = sees_front service moment.world.now now.shown.stands;
          past = now.past;
          acknowledged = now.shown.acknowledged;
          restart = now.shown.restart;
          reported = all_reported service moment.world.now now.shown.stands;
        },
      )
