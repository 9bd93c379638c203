-- In every trace of a world with a quarantine, each thing belongs to a client that is there, and the premises of the server's turns hold.
use Rattle.std.proofs.Common.{◌≡◌, inl, inr, ⊎_elim, ℕ, true, false, true≢false, refl, sym, ap, ◌∙◌, subst, List, [], ◌∷◌, arith, ◌==◌, ◌&&◌, not}
use Rattle.std.specs.List.{AllByRecursion, list_any}
use Rattle.std.proofs.lemmas.Bool.{and_parts, and_from}
use Rattle.ft_io.specs.declared.Addr.{Addr}
use Rattle.ft_io.specs.declared.Key.{Key}
use Rattle.ft_io.specs.Key.{key_eq}
use Rattle.ft_io.proofs.Choices.{by_cases}
use Rattle.server_trait.specs.Service.{Machine, WritesBytes}
use Rattle.ft_model.specs.Client.{Client}
use Rattle.ft_model.specs.Keys.{has_key}
use Rattle.ft_model.specs.Network.{Packet}
use Rattle.ft_model.specs.World.{World, IsStart, is_apart, are_apart}
use Rattle.ft_model.proofs.ClientKeys.{keys_in}
use Rattle.ft_model.proofs.Formed.{HasClient, PacketFormed, EntryFormed, ClientFormed}
use Rattle.ft_model.proofs.FormedWorld.{world_start, start_formed}
use Rattle.ft_model.proofs.Lists.{or_cases, same_key}
use Rattle.ft_model.proofs.Running.{HasSmallOutputs}
use Rattle.long_laws.specs.LongTrace.{LongWorld, LongStep, MayPass, others, concerns, recycled, MayRecycle}
use Rattle.long_laws.specs.LongTrace.LongStep.{Joint_event, Recycles, Forgets, Arrives, Lets_go, Keeps_alive}
use Rattle.long_laws.specs.QuarantineWorld.{QuarantineMoment, QuarantineJoint, IsLongStep, AreLongSteps, after_moments, seen}
use Rattle.long_laws.proofs.Others.{all_others, find_others}
use Rattle.long_laws.proofs.Premised.{Premised, premised_at_start, event_premised}
use Rattle.long_laws.proofs.PremisedSteps.{premised_without, premised_forgotten, premised_with_new, premised_let_go, premised_kept_alive}
use Rattle.long_laws.proofs.QuarantineTraces.{follows}
use Rattle.long_laws.proofs.Recycled.{stands_without, same_without}
use Rattle.long_laws.proofs.Stands.{at_start}
use Rattle.lasting_unseen.proofs.Belongings.{fewer_left}
use Rattle.lasting_unseen.proofs.Known.{there_as_found}
use Rattle.lasting_unseen.proofs.Peopled.{Peopled, event_peopled}
use Rattle.lasting_unseen.proofs.PeopledSteps.{peopled_without, peopled_forgotten, peopled_with_new}
use Rattle.lasting_unseen.proofs.PeopledTurns.{peopled_let_go, peopled_kept_alive, peopled_left, premised_left}

-- who is there is well formed
key_formed : (home : World) (key : Key) (cs : List Client) → AllByRecursion (ClientFormed home) cs → has_key key (keys_in cs) ≡ true → HasClient home key
key_formed home key [] f h = absurd (true≢false (sym h))
key_formed home key (c ∷ cs) f h =
    ⊎_elim (λ t. subst (HasClient home) (same_key c.key key t) f.0.key) (λ t. key_formed home key cs f.1 t) (or_cases (key_eq c.key key) (has_key key (keys_in cs)) h)

module _ {State : Type 0} (service : Machine State) (key : Key) (w : World) (o : Peopled service w) (may : MayRecycle key w) where
  -- nobody has the key
  without_none : has_key key (keys_in o.home.clients) ≡ false → Peopled service (recycled key w)
  without_none none = record {
    stands = stands_without service key w o.stands may;
    home = o.home;
    script = o.script ∙ sym (same_without service key w o.stands may).0;
    isn = o.isn ∙ sym (same_without service key w o.stands may).1;
    starts = o.starts;
    formed = record {
      server = o.formed.server;
      profile = o.formed.profile;
      boot = o.formed.boot;
      few = let less = fewer_left (λ e. key_eq e.key key) w.log.entries in let most = o.formed.few in omega (arith, less, most);
      clients = all_others (ClientFormed o.home) (ClientFormed o.home) (λ c. key_eq c.key key) w.clients (λ c a f. f) o.formed.clients;
      packets = all_others (PacketFormed o.home) (PacketFormed o.home) (concerns key) w.packets (λ p a f. f) o.formed.packets;
      entries = all_others (EntryFormed o.home) (EntryFormed o.home) (λ e. key_eq e.key key) w.log.entries (λ e a f. f) o.formed.entries;
      node = o.formed.node;
    };
    there = λ k e. by_cases (key_eq k key) (λ t. absurd (true≢false (sym e ∙ (ap (λ z. has_key z (keys_in o.home.clients)) (same_key k key t) ∙ none))))
        (λ t. there_as_found w.clients (others (λ c. key_eq c.key key) w.clients) k (find_others (λ c. c.key) key k w.clients t) (o.there k e));
    beside = o.beside;
  }

  recycled_peopled : Peopled service (recycled key w)
  recycled_peopled =
      by_cases (has_key key (keys_in o.home.clients)) (λ t. peopled_without service key w o may (key_formed o.home key w.clients o.formed.clients (o.there key t))) without_none

module _ {State : Type 0} (service : Machine State) (small : HasSmallOutputs service) (writes : WritesBytes service) where
  passes_peopled : (before after : LongWorld) (step : LongStep) (sent : List Packet) → Peopled service before.now → MayPass service before step sent after → Peopled service after.now
  passes_peopled before after (Joint_event event) sent o h = event_peopled service small writes before.now sent after.now event o h.0
  passes_peopled before after (Recycles key) sent o h = subst (Peopled service) (sym h.2) (recycled_peopled service key before.now o h.0)
  passes_peopled before after (Forgets key) sent o h = subst (Peopled service) (sym h.2) (peopled_forgotten service key before.now o h.0)
  passes_peopled before after (Arrives c) sent o h = subst (Peopled service) (sym h.2) (peopled_with_new service c before.now o h.0)
  passes_peopled before after (Lets_go key) sent o h = peopled_let_go service small writes key before.now sent after.now o h.0
  passes_peopled before after (Keeps_alive key) sent o h = peopled_kept_alive service key before.now sent after.now o h.0

  passes_premised : (before after : LongWorld) (step : LongStep) (sent : List Packet) → Premised service before.now → MayPass service before step sent after → Premised service after.now
  passes_premised before after (Joint_event event) sent o h = event_premised service small before.now event sent after.now o h.0
  passes_premised before after (Recycles key) sent o h = subst (Premised service) (sym h.2) (premised_without service key before.now o h.0)
  passes_premised before after (Forgets key) sent o h = subst (Premised service) (sym h.2) (premised_forgotten service key before.now o h.0)
  passes_premised before after (Arrives c) sent o h = subst (Premised service) (sym h.2) (premised_with_new service c before.now o h.0)
  passes_premised before after (Lets_go key) sent o h = premised_let_go service small key before.now sent after.now o h.0
  passes_premised before after (Keeps_alive key) sent o h = premised_kept_alive service key before.now sent after.now o h.0

  step_peopled : (before after : LongWorld) (sent : List Packet) → Peopled service before.now → IsLongStep service before sent after → Peopled service after.now
  step_peopled before after sent o (inl same) = subst (λ x. Peopled service x.now) (sym same.1) o
  step_peopled before after sent o (inr (inl (step, p))) = passes_peopled before after step sent o p
  step_peopled before after sent o (inr (inr l)) =
      subst (Peopled service) (sym l.now_is)
      (peopled_left service l.there before.now.packets l.all l.packets l.refusals (passes_peopled before (record { now = l.there; past = after.past }) l.step l.all o l.passes))

  step_premised : (before after : LongWorld) (sent : List Packet) → Premised service before.now → IsLongStep service before sent after → Premised service after.now
  step_premised before after sent o (inl same) = subst (λ x. Premised service x.now) (sym same.1) o
  step_premised before after sent o (inr (inl (step, p))) = passes_premised before after step sent o p
  step_premised before after sent o (inr (inr l)) =
      subst (Premised service) (sym l.now_is)
      (premised_left service l.there before.now.packets l.all l.packets l.refusals (passes_premised before (record { now = l.there; past = after.past }) l.step l.all o l.passes))

  -- the clients of a start have addresses of their own
  start_beside : (server : Addr) (clients : List Client) → are_apart server clients ≡ true → (key : Key) → has_key key (keys_in clients) ≡ true → is_apart server key [] ≡ true
  start_beside server [] e key h = absurd (true≢false (sym h))
  start_beside server (c ∷ clients) e key h =
      let parts = and_parts (is_apart server c.key clients) (are_apart server clients) e in
      let own = and_parts (not (c.key.ip == server.ip && c.key.port == server.port)) (not (list_any (λ x. key_eq x.key c.key) clients)) parts.0 in
      ⊎_elim (λ t. subst (λ z. is_apart server z [] ≡ true) (same_key c.key key t) (and_from (not (c.key.ip == server.ip && c.key.port == server.port)) true own.0 refl))
      (λ t. start_beside server clients parts.1 key t) (or_cases (key_eq c.key key) (has_key key (keys_in clients)) h)

  start_peopled : (start : World) → IsStart start → Peopled service start
  unfolding at_start
  start_peopled start s = record {
    stands = at_start service small start s;
    home = start;
    script = refl;
    isn = refl;
    starts = start_formed start s;
    formed = world_start start s;
    there = λ key e. e;
    beside = start_beside start.server start.clients s.apart;
  }

  joint_start : (wait : ℕ) (start : World) (trace : List QuarantineMoment) → QuarantineJoint service wait start trace → IsStart start
  joint_start wait start [] j = j
  joint_start wait start (moment ∷ earlier) j = joint_start wait start earlier j.0

  peopled_by : (start : World) (trace : List QuarantineMoment) → IsStart start → AreLongSteps service start trace → Peopled service (after_moments start trace).now
  peopled_by start [] s steps = start_peopled start s
  peopled_by start (moment ∷ earlier) s steps =
      step_peopled (seen (after_moments start earlier)) (seen moment.world) moment.sent (peopled_by start earlier s steps.0) steps.1

  premised_by : (start : World) (trace : List QuarantineMoment) → IsStart start → AreLongSteps service start trace → Premised service (after_moments start trace).now
  premised_by start [] s steps = premised_at_start service small start s
  premised_by start (moment ∷ earlier) s steps =
      step_premised (seen (after_moments start earlier)) (seen moment.world) moment.sent (premised_by start earlier s steps.0) steps.1

  pub peopled_after : (wait : ℕ) (start : World) (trace : List QuarantineMoment) → QuarantineJoint service wait start trace → Peopled service (after_moments start trace).now
  peopled_after wait start trace j = peopled_by start trace (joint_start wait start trace j) (follows service small wait start trace j).steps

  pub premised_after : (wait : ℕ) (start : World) (trace : List QuarantineMoment) → QuarantineJoint service wait start trace → Premised service (after_moments start trace).now
  premised_after wait start trace j = premised_by start trace (joint_start wait start trace j) (follows service small wait start trace j).steps
