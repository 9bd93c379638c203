-- Restart: the log agrees with the answers that an incarnation has yet to hear, and with what it has fetched.
use Rattle.std.proofs.Common.{◌≡◌, ℕ, ◌<◌, ◌≤◌, true, false, ◌||◌, nat_le, refl, sym, ap, ap₂, ◌∙◌, subst, true≢false, ⊎_elim, Some, List, [], ◌∷◌, ◌++◌, map, length, arith, if◌then◌else◌}
use Rattle.std.specs.List.{AllByRecursion, list_any}
use Rattle.std.proofs.lemmas.Bool.{or_parts}
use Rattle.ft_io.specs.declared.Key.{Key}
use Rattle.ft_io.specs.Key.{key_eq}
use Rattle.seq_arith.specs.Message.{Numbers, Body, Message}
use Rattle.seq_arith.specs.Message.Body.{OpenMsg, DataMsg, ReadMsg, DoneMsg, StaleMsg}
use Rattle.server_trait.specs.Service.{Machine}
use Rattle.ft_model.specs.Client.{Client}
use Rattle.ft_model.specs.Log.{Log, Entry, log_after, with_body, opened, new_entry, with_part, with_read}
use Rattle.ft_model.specs.Network.{Packet}
use Rattle.ft_model.specs.Network.Packet.{To_server, To_client, To_logger, From_logger}
use Rattle.ft_model.specs.Restart.{Fetched}
use Rattle.ft_model.specs.Node.{Node, Stage, Input, booted}
use Rattle.ft_model.specs.Node.Stage.{Asking, Fetching, Serving, Fenced}
use Rattle.ft_model.specs.Lawful.{LawfulTurn, hello}
use Rattle.ft_model.specs.Growth.{EntryGrows}
use Rattle.ft_model.specs.Masked.{is_restarting}
use Rattle.ft_model.specs.World.{World, IsStart}
use Rattle.ft_model.specs.Keys.{AreDistinct}
use Rattle.ft_model.proofs.Lists.{all_weaker, all_both, all_append, none_is_some, some_is}
use Rattle.ft_model.proofs.Grows.{part_grows, read_grows, done_grows}
use Rattle.ft_model.proofs.Keys.{distinct_more, has_key_map}
use Rattle.ft_model.proofs.LogAnswers.{LogWent, log_went, all_answers}
use Rattle.ft_model.proofs.LogAnswers.LogWent.{ignored, raised, changed}
use Rattle.ft_model.proofs.Happened.{Happened, IsBrought, IsUnderWay, all_sent, answers}
use Rattle.ft_model.proofs.Happened.Happened.{log_received, client_received, client_moved, server_turned, server_booted, server_down}
use Rattle.ft_model.proofs.StageTurns.{Progress, StageWent, stage_went}
use Rattle.ft_model.proofs.StageTurns.StageWent.{was_fenced, waited, held_off, asked_on, resumed, served}
use Rattle.ft_model.proofs.Fenced.{IsFenced, IsLogged, IsOurs, IsSegment, IsNoChange, HasBoot, is_change, is_stale, turn_ours, was_restarting}
use Rattle.ft_model.specs.FetchedFronts.{AreFetched}
use Rattle.ft_model.proofs.Fetching.{AgreesWith, reported_agrees, fetched_agrees}
use Rattle.ft_io.proofs.Choices.{holds_if}

abbrev pub entry_keys : Log → List Key
entry_keys log = map (λ e. e.key) log.entries

-- an answer of this boot agrees with the log
abbrev pub Agrees : ℕ → List Entry → Packet → Type 0
Agrees boot entries (From_logger message) = message.boot ≡ boot → AgreesWith entries message.body
Agrees boot entries _ = Unit {0}

abbrev pub StageAgrees : List Entry → Stage → Type 0
StageAgrees entries (Fetching count fetched) = (count ≡ length entries) × AreFetched entries fetched
StageAgrees entries _ = Unit {0}

pub record IsAskedNode (w : World) (node : Node) : Type 0 where
  pub packets : AllByRecursion (Agrees node.boot w.log.entries) w.packets
  pub fetched : StageAgrees w.log.entries node.stage

pub record IsAsked (w : World) : Type 0 where
  pub distinct : AreDistinct (entry_keys w.log)
  pub node : (node : Node) → w.node ≡ Some node → is_restarting node.stage ≡ true → IsAskedNode w node

pub keys_stay : (key : Key) (change : Entry → Entry) (es : List Entry) → ((e : Entry) → EntryGrows e (change e))
    → map (λ e. e.key) (map (λ e. if key_eq e.key key then change e else e) es) ≡ map (λ e. e.key) es
keys_stay key change [] g = refl
keys_stay key change (e ∷ es) g =
    ap₂ ◌∷◌ (holds_if (λ x. x.key ≡ e.key) (key_eq e.key key) (change e) e (λ t. (g e).key) (λ t. refl)) (keys_stay key change es g)

pub map_more : {A B : Type 0} (f : A → B) (xs : List A) (x : A) → map f (xs ++ x ∷ []) ≡ map f xs ++ f x ∷ []
map_more f [] x = refl
map_more f (y ∷ ys) x = ap (λ l. f y ∷ l) (map_more f ys x)

opened_distinct : (n : Numbers) (log : Log) → AreDistinct (entry_keys log) → AreDistinct (entry_keys (opened n log))
opened_distinct n log d =
    holds_if (λ l. AreDistinct (entry_keys l)) (list_any (λ e. key_eq e.key n.key) log.entries || nat_le 64 (length log.entries)) log
    (record log { entries = log.entries ++ new_entry n ∷ [] }) (λ t. d)
    (λ t. let none = (or_parts (list_any (λ e. key_eq e.key n.key) log.entries) (nat_le 64 (length log.entries)) t).0 in
    subst AreDistinct (sym (map_more (λ e. e.key) log.entries (new_entry n)))
    (distinct_more (entry_keys log) n.key d (sym (has_key_map (λ e. e.key) n.key log.entries) ∙ none)))

kept_distinct : (body : Body) (log : Log) → AreDistinct (entry_keys log) → AreDistinct (entry_keys (with_body body log))
kept_distinct (OpenMsg n) log d = opened_distinct n log d
kept_distinct (DataMsg part) log d = subst AreDistinct (sym (keys_stay part.key (with_part part) log.entries (part_grows part))) d
kept_distinct (ReadMsg key index n) log d = subst AreDistinct (sym (keys_stay key (with_read index n) log.entries (read_grows index n))) d
kept_distinct (DoneMsg key) log d = subst AreDistinct (sym (keys_stay key (λ e. record e { done = true }) log.entries done_grows)) d
kept_distinct _ log d = d

pub distinct_after : (log : Log) (message : Message) (after : Log) → LogWent log message after → AreDistinct (entry_keys log) → AreDistinct (entry_keys after)
distinct_after log message after (ignored e) d = subst (λ l. AreDistinct (entry_keys l)) (sym e) d
distinct_after log message after (raised h b e) d = subst (λ l. AreDistinct (entry_keys l)) (sym e) d
distinct_after log message after (changed b e) d = subst (λ l. AreDistinct (entry_keys l)) (sym e) (kept_distinct message.body log d)

-- a kind that changes nothing
kept_nothing : (body : Body) (log : Log) → is_change body ≡ false → with_body body log ≡ log
kept_nothing (OpenMsg n) log q = absurd (true≢false q)
kept_nothing (DataMsg part) log q = absurd (true≢false q)
kept_nothing (ReadMsg key index n) log q = absurd (true≢false q)
kept_nothing (DoneMsg key) log q = absurd (true≢false q)
kept_nothing _ log q = refl

-- while the log's own incarnation restarts, no message that is under way changes the entries
entries_stay : (log : Log) (message : Message) (after : Log) (boot : ℕ) → IsNoChange boot (To_logger message) → log.boot ≡ boot → LogWent log message after
    → after.entries ≡ log.entries
entries_stay log message after boot quiet own (ignored e) = ap (λ l. l.entries) e
entries_stay log message after boot quiet own (raised h b e) = ap (λ l. l.entries) e
entries_stay log message after boot quiet own (changed b e) =
    ap (λ l. l.entries) (e ∙ kept_nothing message.body log (quiet (b ∙ own)))

agrees_still : (before after : List Entry) (body : Body) → (is_stale body ≡ false → after ≡ before) → AgreesWith before body → AgreesWith after body
agrees_still before after (StaleMsg newer) same a = tt
agrees_still before after body same a = subst (λ es. AgreesWith es body) (sym (same refl)) a

packet_agrees_still : (boot top logged : ℕ) (before after : List Entry) → logged ≤ top → boot ≡ top → (logged ≡ boot → after ≡ before)
    → (packet : Packet) → HasBoot top logged packet → Agrees boot before packet → Agrees boot after packet
packet_agrees_still boot top logged before after low own same (From_logger message) h a =
    λ e. agrees_still before after message.body (λ q. same (omega (arith, low, own, e, h.1 q))) (a e)
packet_agrees_still boot top logged before after low own same (To_server segment) h a = tt
packet_agrees_still boot top logged before after low own same (To_client segment) h a = tt
packet_agrees_still boot top logged before after low own same (To_logger message) h a = tt

stage_agrees_still : (logged : ℕ) (before after : List Entry) (node : Node) (stage : Stage) → IsLogged logged node stage → (logged ≡ node.boot → after ≡ before)
    → StageAgrees before stage → StageAgrees after stage
stage_agrees_still logged before after node (Fetching count fetched) l same a = subst (λ es. StageAgrees es (Fetching count fetched)) (sym (same l)) a
stage_agrees_still logged before after node Asking l same a = tt
stage_agrees_still logged before after node (Serving opened places) l same a = tt
stage_agrees_still logged before after node (Fenced newer) l same a = tt

answers_agree : (boot : ℕ) (log : Log) (message : Message) → AllByRecursion (Agrees boot (log_after log message).entries) (answers log message)
answers_agree boot log message =
    all_answers (Agrees boot (log_after log message).entries) log message
    (λ body a. λ e. ⊎_elim (λ s. subst (AgreesWith (log_after log message).entries) (sym s) tt) (λ o. reported_agrees message.body (log_after log message) body o.1) a)

received_asked : (w : World) (message : Message) → IsFenced w → IsAsked w → IsUnderWay w (To_logger message)
    → IsAsked (record w { log = log_after w.log message; packets = w.packets ++ answers w.log message })
received_asked w message f a under = record {
  distinct = distinct_after w.log message (log_after w.log message) (log_went w.log message) a.distinct;
  node = λ node e r.
      let n = f.node node e in
      let asked = a.node node e r in
      let stay : w.log.boot ≡ node.boot → (log_after w.log message).entries ≡ w.log.entries =
      λ own. entries_stay w.log message (log_after w.log message) node.boot (all_sent (IsNoChange node.boot) w (To_logger message) (n.quiet r) under) own (log_went w.log message) in
      record {
        packets = all_append (Agrees node.boot (log_after w.log message).entries) w.packets (answers w.log message)
            (all_both (HasBoot w.boot w.log.boot) (Agrees node.boot w.log.entries) (Agrees node.boot (log_after w.log message).entries) w.packets
            (packet_agrees_still node.boot w.boot w.log.boot w.log.entries (log_after w.log message).entries f.log n.boot stay) f.packets asked.packets)
            (answers_agree node.boot w.log message);
        fetched = stage_agrees_still w.log.boot w.log.entries (log_after w.log message).entries node node.stage n.logged stay asked.fetched;
      };
}

segment_agrees : (boot : ℕ) (entries : List Entry) (packet : Packet) → IsSegment packet → Agrees boot entries packet
segment_agrees boot entries (To_server segment) s = tt
segment_agrees boot entries (To_client segment) s = tt
segment_agrees boot entries (To_logger message) s = tt
segment_agrees boot entries (From_logger message) s = absurd s

ours_agree : (own boot : ℕ) (entries : List Entry) (packet : Packet) → IsOurs own packet → Agrees boot entries packet
ours_agree own boot entries (To_server segment) s = tt
ours_agree own boot entries (To_client segment) s = tt
ours_agree own boot entries (To_logger message) s = tt
ours_agree own boot entries (From_logger message) s = absurd s

asked_still : (w : World) (clients : List Client) (sent : List Packet) → IsAsked w → AllByRecursion IsSegment sent → IsAsked (record w { clients = clients; packets = w.packets ++ sent })
asked_still w clients sent a s = record {
  distinct = a.distinct;
  node = λ node e r. let n = a.node node e r in
      record {
        packets = all_append (Agrees node.boot w.log.entries) w.packets sent n.packets (all_weaker IsSegment _ sent (segment_agrees node.boot w.log.entries) s);
        fetched = n.fetched;
      };
}

-- what is fetched after an answer agrees with the log
pub progress_agrees : (w : World) (node : Node) (input : Input) (count : ℕ) (fetched : List Fetched) → IsAsked w → w.node ≡ Some node → IsBrought w input
    → Progress node input count fetched → (count ≡ length w.log.entries) × AreFetched w.log.entries fetched
progress_agrees w node input count fetched a e brought p =
    let under : IsUnderWay w (From_logger p.message) = subst (IsBrought w) p.comes brought in
    ⊎_elim
    (λ h. let n = a.node node e (ap is_restarting h.0) in
    let reported : AgreesWith w.log.entries p.message.body = all_sent (Agrees node.boot w.log.entries) w (From_logger p.message) n.packets under p.boot in
    (subst (AgreesWith w.log.entries) h.1 reported, subst (AreFetched w.log.entries) (sym h.2) tt))
    (λ h. let n = a.node node e (ap is_restarting h.1) in
    let reported : AgreesWith w.log.entries p.message.body = all_sent (Agrees node.boot w.log.entries) w (From_logger p.message) n.packets under p.boot in
    let old : (count ≡ length w.log.entries) × AreFetched w.log.entries h.0 = subst (StageAgrees w.log.entries) h.1 n.fetched in
    (old.0, fetched_agrees w.log.entries count h.0 fetched p.message.body a.distinct old.1 reported h.2)) p.how

stage_agrees : {State : Type 0} (service : Machine State) (w : World) (node : Node) (input : Input) (sent : List Packet) (after : Stage)
    → IsAsked w → w.node ≡ Some node → IsBrought w input → is_restarting after ≡ true → StageWent service node input sent after
    → (is_restarting node.stage ≡ true) × StageAgrees w.log.entries after
stage_agrees service w node input sent after a e brought r (was_fenced newer f s) = absurd (true≢false (sym r ∙ ap is_restarting f))
stage_agrees service w node input sent after a e brought r (waited b f s) = (b, subst (StageAgrees w.log.entries) (sym f) (a.node node e b).fetched)
stage_agrees service w node input sent after a e brought r (held_off count fetched segment b f s) =
    (ap is_restarting b, subst (StageAgrees w.log.entries) (b ∙ sym f) (a.node node e (ap is_restarting b)).fetched)
stage_agrees service w node input sent after a e brought r (asked_on count fetched p f s) =
    (was_restarting node input count fetched p, subst (StageAgrees w.log.entries) (sym f) (progress_agrees w node input count fetched a e brought p))
stage_agrees service w node input sent after a e brought r (resumed count fetched places p n f t) = absurd (true≢false (sym r ∙ ap is_restarting f))
stage_agrees service w node input sent after a e brought r (served opened places later b f t) = absurd (true≢false (sym r ∙ ap is_restarting f))

turned_asked : {State : Type 0} (service : Machine State) (w : World) (node later : Node) (input : Input) (sent : List Packet)
    → IsAsked w → w.node ≡ Some node → IsBrought w input → LawfulTurn service node input sent later
    → IsAsked (record w { node = Some later; packets = w.packets ++ sent })
turned_asked service w node later input sent a e brought t =
    let went : StageWent service node input sent later.stage = stage_went service node later input sent t in
    let W : World = record w { node = Some later; packets = w.packets ++ sent } in
    record {
      distinct = a.distinct;
      node = λ x g. subst (λ y. is_restarting y.stage ≡ true → IsAskedNode W y) (some_is later x g)
          (λ r. let s = stage_agrees service w node input sent later.stage a e brought r went in
          record {
            packets = subst (λ b. AllByRecursion (Agrees b w.log.entries) (w.packets ++ sent)) (sym t.boot)
                (all_append (Agrees node.boot w.log.entries) w.packets sent (a.node node e s.0).packets
                (all_weaker (IsOurs node.boot) _ sent (ours_agree node.boot node.boot w.log.entries) (turn_ours service node input sent later.stage went)));
            fetched = s.1;
          });
    }

older_agree : (top logged boot : ℕ) (entries : List Entry) → top < boot → (packet : Packet) → HasBoot top logged packet → Agrees boot entries packet
older_agree top logged boot entries less (From_logger message) h = λ e. absurd (omega (arith, less, h.0, e))
older_agree top logged boot entries less (To_server segment) h = tt
older_agree top logged boot entries less (To_client segment) h = tt
older_agree top logged boot entries less (To_logger message) h = tt

booted_asked : (w : World) (boot isn : ℕ) → IsFenced w → IsAsked w → w.boot < boot
    → IsAsked (record w { boot = boot; node = Some (booted w.server w.profile boot isn); packets = w.packets ++ hello (booted w.server w.profile boot isn) })
booted_asked w boot isn f a larger = record {
  distinct = a.distinct;
  node = λ x g. subst (λ y. is_restarting y.stage ≡ true → IsAskedNode (record w { boot = boot; node = Some (booted w.server w.profile boot isn); packets = w.packets ++ hello (booted w.server w.profile boot isn) }) y)
      (some_is (booted w.server w.profile boot isn) x g)
      (λ r. record {
        packets = all_append (Agrees boot w.log.entries) w.packets _
            (all_weaker (HasBoot w.boot w.log.boot) (Agrees boot w.log.entries) w.packets (older_agree w.boot w.log.boot boot w.log.entries larger) f.packets) (tt, tt);
        fetched = tt;
      });
}

pub asked_proceeds : {State : Type 0} (service : Machine State) (before : World) (sent : List Packet) (after : World)
    → IsFenced before → IsAsked before → Happened service before sent after → IsAsked after
asked_proceeds service before sent after f a (log_received message under s e) =
    subst IsAsked (sym (e ∙ ap (λ x. record before { log = log_after before.log message; packets = before.packets ++ x }) s)) (received_asked before message f a under)
asked_proceeds service before sent after f a (client_received segment under s e) =
    subst IsAsked (sym e) (asked_still before _ sent a (subst (AllByRecursion IsSegment) (sym s) tt))
asked_proceeds service before sent after f a (client_moved number m) =
    subst IsAsked (sym m.after_is) (asked_still before _ sent a (subst (AllByRecursion IsSegment) (sym m.sent_is) (tt, tt)))
asked_proceeds service before sent after f a (server_turned input node later brought is turn e) =
    subst IsAsked (sym e) (turned_asked service before node later input sent a is brought turn)
asked_proceeds service before sent after f a (server_booted boot isn down larger s e) =
    subst IsAsked (sym (e ∙ ap (λ x. record before { boot = boot; node = Some (booted before.server before.profile boot isn); packets = before.packets ++ x }) s))
    (booted_asked before boot isn f a larger.0)
asked_proceeds service before sent after f a (server_down s e) =
    subst IsAsked (sym e) (record { distinct = a.distinct; node = λ x g r. none_is_some x g })

pub start_asked : (w : World) → IsStart w → IsAsked w
start_asked w s = record {
  distinct = subst (λ l. AreDistinct (entry_keys l)) (sym s.log) tt;
  node = λ x e r. none_is_some x (sym s.node ∙ e);
}
