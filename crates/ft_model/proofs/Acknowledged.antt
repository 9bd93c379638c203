-- No segment acknowledges what isn't logged, and what is logged of a client is the front of its script.
use Rattle.std.proofs.Common.{⊎_elim, ◌≡◌, ℕ, ◌≤◌, ◌^◌, pos, ◌≤ℤ◌, le_of_eq, true, ◌&&◌, not, refl, sym, ap, ◌∙◌, subst, find, Option, Some, None, List, [], ◌∷◌, map, length, arith, ◌==◌}
use Rattle.std.specs.List.{AllByRecursion, list_any}
use Rattle.std.proofs.lemmas.Bool.{and_parts}
use Rattle.ft_io.specs.declared.Addr.{Addr}
use Rattle.ft_io.specs.declared.Key.{Key}
use Rattle.ft_io.specs.Key.{key_eq}
use Rattle.server_trait.specs.Service.{Machine}
use Rattle.ft_model.specs.Offset.{ack_of}
use Rattle.ft_model.specs.Client.{Client}
use Rattle.ft_model.specs.Log.{Log}
use Rattle.ft_model.specs.Network.{Packet, destination_of}
use Rattle.ft_model.specs.Network.Packet.{To_server, To_client, To_logger, From_logger}
use Rattle.ft_model.specs.Growth.{IsPrefix, logged_units}
use Rattle.ft_model.specs.Masked.{AcknowledgesLogged}
use Rattle.ft_model.specs.World.{World, Moment, Joint, IsStart, IsNewClient, is_apart, are_apart, world_after}
use Rattle.ft_model.specs.Keys.{AreDistinct}
use Rattle.ft_model.proofs.Lists.{all_weaker, all_find, all_slice_get, same_key, none_is_some}
use Rattle.ft_model.proofs.Fetching.{full_front}
use Rattle.ft_model.proofs.Keys.{has_key_map, finds_itself, all_from_get}
use Rattle.ft_model.proofs.LogAnswers.{all_answers}
use Rattle.ft_model.proofs.Happened.{Happened, happened, holds_after}
use Rattle.ft_model.proofs.Happened.Happened.{log_received, client_received, client_moved, server_turned, server_booted, server_down}
use Rattle.ft_model.proofs.StageTurns.{stage_went}
use Rattle.ft_model.proofs.Fenced.{start_fenced, fenced_proceeds}
use Rattle.ft_model.proofs.Asked.{start_asked, asked_proceeds}
use Rattle.ft_model.proofs.Exact.{IsOrderly}
use Rattle.ft_model.proofs.Scripts.{EntryFits}
use Rattle.ft_model.proofs.Faithful.{PacketFits, IsFit, EntriesFit}
use Rattle.ft_model.proofs.FaithfulKept.{ClientFits, IsFaithful}
use Rattle.ft_model.proofs.FaithfulOver.{script_of, isn_of, script_in, isn_in, turn_faithful, faithful_proceeds}
use Rattle.ft_io.proofs.Booleans.{not_true}

apart_distinct : (server : Addr) (clients : List Client) → are_apart server clients ≡ true → AreDistinct (map (λ c. c.key) clients)
apart_distinct server [] e = tt
apart_distinct server (c ∷ clients) e =
    let parts = and_parts (is_apart server c.key clients) (are_apart server clients) e in
    let none = not_true (list_any (λ x. key_eq x.key c.key) clients) (and_parts (not (c.key.ip == server.ip && c.key.port == server.port)) (not (list_any (λ x. key_eq x.key c.key) clients)) parts.0).1 in
    (sym (has_key_map (λ x. x.key) c.key clients) ∙ none, apart_distinct server clients parts.1)

short_in : (server : Addr) (clients : List Client) (o : Option Client) (key : Key) → AllByRecursion (IsNewClient server) clients → find (λ c. key_eq c.key key) clients ≡ o → length (script_in o) ≤ 2 ^ 24
short_in server clients (Some c) key a e = (all_find (IsNewClient server) (λ c. key_eq c.key key) clients c a e).short
short_in server clients None key a e = omega arith

pub short_scripts : (start : World) → IsStart start → (key : Key) → length (script_of start key) ≤ 2 ^ 24
short_scripts start s key = short_in start.server start.clients (find (λ c. key_eq c.key key) start.clients) key s.clients refl

pub start_faithful : (start : World) → IsStart start → IsFaithful (script_of start) (isn_of start) start
start_faithful start s =
    let d : AreDistinct (map (λ c. c.key) start.clients) = apart_distinct start.server start.clients s.apart in
    record {
      clients = all_from_get (ClientFits (script_of start) (isn_of start)) start.clients
          (λ i c e. let found : find (λ x. key_eq x.key c.key) start.clients ≡ Some c = finds_itself (λ x. x.key) start.clients i c d e in
          (ap script_in (sym found), ap isn_in (sym found), (all_slice_get (IsNewClient start.server) start.clients i c s.clients e).short));
      packets = subst (AllByRecursion (PacketFits (script_of start) (isn_of start) start.log)) (sym s.packets) tt;
      entries = subst (λ l. EntriesFit (script_of start) (isn_of start) l.entries) (sym s.log) tt;
      stage = λ node e. none_is_some node (sym s.node ∙ e);
    }

-- the start from which a joint trace goes
pub start_is : {State : Type 0} (service : Machine State) (start : World) (trace : List Moment) → Joint service start trace → IsStart start
start_is service start [] j = j
start_is service start (moment ∷ earlier) j = start_is service start earlier j.0

abbrev pub IsTrue : World → World → Type 0
IsTrue start w = IsOrderly w × IsFaithful (script_of start) (isn_of start) w

pub true_after : {State : Type 0} (service : Machine State) (start : World) (trace : List Moment) → Joint service start trace → IsTrue start (world_after start trace)
true_after service start trace j =
    let s : IsStart start = start_is service start trace j in
    holds_after service (IsTrue start) start (λ x. ((start_fenced start x, start_asked start x), start_faithful start x))
    (λ before sent after o h. (
      (fenced_proceeds service before sent after o.0.0 h, asked_proceeds service before sent after o.0.0 o.0.1 h),
      faithful_proceeds service (script_of start) (isn_of start) before sent after (short_scripts start s) o.0.1 o.1 h,
    )) trace j

pub fit_acknowledges : (script : Key → List ℕ) (isn : Key → ℕ) (log : Log) (clients : List Client) (packet : Packet) → AllByRecursion (ClientFits script isn) clients
    → IsFit script isn log packet → AcknowledgesLogged log clients packet
fit_acknowledges script isn log clients (To_client segment) a f = λ ack rst.
    all_weaker (ClientFits script isn) _ clients
    (λ c g k. subst (λ n. ack_of n segment ≤ℤ pos (logged_units c.key log)) (sym g.1)
    (subst (λ x. ack_of (isn x) segment ≤ℤ pos (logged_units x log)) (same_key (destination_of segment) c.key k) (f.1 ack rst))) a
fit_acknowledges script isn log clients (To_server segment) a f = tt
fit_acknowledges script isn log clients (To_logger message) a f = tt
fit_acknowledges script isn log clients (From_logger message) a f = tt

pub acknowledged_moment : {State : Type 0} (service : Machine State) (start before : World) (sent : List Packet) (after : World)
    → IsStart start → IsTrue start before → Happened service before sent after → AllByRecursion (AcknowledgesLogged after.log after.clients) sent
acknowledged_moment service start before sent after s o (log_received message under t e) =
    subst (AllByRecursion (AcknowledgesLogged after.log after.clients)) (sym t) (all_answers (AcknowledgesLogged after.log after.clients) before.log message (λ body a. tt))
acknowledged_moment service start before sent after s o (client_received segment under t e) = subst (AllByRecursion (AcknowledgesLogged after.log after.clients)) (sym t) tt
acknowledged_moment service start before sent after s o (client_moved number m) = subst (AllByRecursion (AcknowledgesLogged after.log after.clients)) (sym m.sent_is) (tt, tt)
acknowledged_moment service start before sent after s o (server_turned input node later brought is turn e) =
    let f = o.1 in
    let t = turn_faithful service (script_of start) (isn_of start) before node input sent later.stage (short_scripts start s) o.0.1 f is brought (stage_went service node later input sent turn) in
    subst (λ w. AllByRecursion (AcknowledgesLogged w.log w.clients) sent) (sym e)
    (all_weaker (IsFit (script_of start) (isn_of start) before.log) _ sent
    (λ p x. fit_acknowledges (script_of start) (isn_of start) before.log before.clients p f.clients x) t.1)
acknowledged_moment service start before sent after s o (server_booted boot isn down larger t e) = subst (AllByRecursion (AcknowledgesLogged after.log after.clients)) (sym t) (tt, tt)
acknowledged_moment service start before sent after s o (server_down t e) = subst (AllByRecursion (AcknowledgesLogged after.log after.clients)) (sym t) tt

pub acknowledged_after : {State : Type 0} (service : Machine State) (start : World) (moment : Moment) (earlier : List Moment) → Joint service start (moment ∷ earlier)
    → AllByRecursion (AcknowledgesLogged moment.world.log moment.world.clients) moment.sent
acknowledged_after service start moment earlier j =
    ⊎_elim (acknowledged_moment service start (world_after start earlier) moment.sent moment.world (start_is service start earlier j.0) (true_after service start earlier j.0))
    (λ q. subst (AllByRecursion (AcknowledgesLogged moment.world.log moment.world.clients)) (sym q.0) tt)
    (happened service (world_after start earlier) moment.event moment.sent moment.world j.1)

whole_front : (xs ys : List ℕ) → IsPrefix xs ys → length xs ≡ length ys → xs ≡ ys
whole_front xs ys p e = full_front xs ys p (le_of_eq (sym e))

-- the kept bytes of each client are the front of its script
pub logged_front : {State : Type 0} (service : Machine State) (start : World) (trace : List Moment) → Joint service start trace
    → AllByRecursion (λ c. AllByRecursion (λ e. key_eq e.key c.key ≡ true → IsPrefix e.bytes c.script × (e.fin ≡ true → e.bytes ≡ c.script)) (world_after start trace).log.entries) (world_after start trace).clients
logged_front service start trace j =
    let f = (true_after service start trace j).1 in
    all_weaker (ClientFits (script_of start) (isn_of start)) _ (world_after start trace).clients
    (λ c g. all_weaker (λ e. EntryFits (script_of start e.key) (isn_of start e.key) e) _ (world_after start trace).log.entries
    (λ e x k. let same = same_key e.key c.key k in
    let front : IsPrefix e.bytes c.script = subst (λ l. IsPrefix e.bytes l) (ap (script_of start) same ∙ sym g.0) x.front in
    (front, λ n. whole_front e.bytes c.script front (x.fin n ∙ ap length (ap (script_of start) same ∙ sym g.0)))) f.entries) f.clients
