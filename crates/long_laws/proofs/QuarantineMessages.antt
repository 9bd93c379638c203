-- A message about forgetting that comes, to the log or to the server, is a step of a long trace, or nothing happens.
use Rattle.std.proofs.Common.{◌≡◌, ◌⊎◌, inl, inr, ⊎_elim, ℕ, zero, suc, ◌<◌, ◌≤◌, arith, Bool, true, false, ◌==◌, ◌&&◌, nat_lt, refl, sym, ap, ◌∙◌, subst, true≢false, eqb-true, eq-eqb, find, option_map, option_to_list, Option, Some, None, List, [], ◌∷◌, ◌++◌, map, slice_get, if◌then◌else◌}
use Rattle.std.proofs.lemmas.Bool.{and_parts, and_from, or_right, ltb-true, ltb-false}
use Rattle.std.specs.List.{AllByRecursion, list_any}
use Rattle.ft_io.specs.declared.Key.{Key}
use Rattle.ft_io.specs.Key.{key_eq}
use Rattle.server_trait.specs.Service.{Machine}
use Rattle.seq_arith.specs.Message.{Message}
use Rattle.seq_arith.specs.Message.Body.{HelloMsg, StaleMsg}
use Rattle.ft_model.specs.Keys.{has_key, AreDistinct}
use Rattle.ft_model.specs.Connection.{reported_by}
use Rattle.ft_model.specs.Log.{Log, Entry, entry_of, log_after, answer_to}
use Rattle.ft_model.specs.Masked.{is_restarting}
use Rattle.ft_model.specs.Network.{Packet}
use Rattle.ft_model.specs.Network.Packet.{To_server, To_client, To_logger, From_logger}
use Rattle.ft_model.specs.Node.{Node, Place, Stage, key_of}
use Rattle.ft_model.specs.Node.Stage.{Asking, Fetching, Serving, Fenced}
use Rattle.ft_model.specs.World.{World}
use Rattle.ft_model.specs.declared.event.Event.TheVariants.{Deliver}
use Rattle.ft_model.proofs.Fenced.{IsLogged}
use Rattle.ft_model.proofs.Grows.{old_boots_change_nothing}
use Rattle.ft_model.proofs.KnownKeys.{Knows}
use Rattle.ft_model.proofs.Lists.{all_weaker, all_append, all_of, all_slice_get, same_key, or_left, or_cases, found_passes, none_is_some, some_is}
use Rattle.ft_io.proofs.Choices.{holds_if, if_true}
use Rattle.long_laws.specs.Forgetting.{Named, ForgetBody, ForgetMessage, forgotten_message, is_entry_of, is_recycled, forgotten_in, with_forget, after_forget, IsRecycled, IsGone, ForgetAnswer, reported_of, is_forget_answer, answer_to_forget}
use Rattle.long_laws.specs.Forgetting.ForgetBody.{ForgetMsg, ForgottenMsg}
use Rattle.long_laws.specs.Forgetting.ForgetAnswer.{About_forgetting, Of_log}
use Rattle.long_laws.specs.LongTrace.{others, concerns, places_at, IsEnded, without_entry, recycled, MayRecycle, stage_without, forgotten, MayForget, MayPass}
use Rattle.long_laws.specs.LongTrace.LongStep.{Joint_event, Recycles, Forgets}
use Rattle.long_laws.specs.Quarantine.{Quarantined, is_same, named_by, taken_away}
use Rattle.long_laws.specs.QuarantineWorld.{QuarantineWorld, seen, key_recycled, recycled_by, recycled_world, with_answer, answer_sent, after_forget_came, without_place, after_forgotten_came, NotOpening, IsLongStep}
use Rattle.long_laws.proofs.Again.{none_left, none_there}
use Rattle.long_laws.proofs.ForgetLog.{takes_out_or_nothing, own_boot, forgotten_means_gone}
use Rattle.long_laws.proofs.Forgotten.{Was, was, left, same_stage}
use Rattle.long_laws.proofs.Others.{all_others, find_others}
use Rattle.long_laws.proofs.QuarantineDone.{HasIt}
use Rattle.long_laws.proofs.QuarantineEvents.{Elsewhere}
use Rattle.long_laws.proofs.QuarantineKept.{IsIn, in_others, IsVacant, IsThere, RestsThere, Rests, BodyHolds, NoteHolds, IsOfServer, Keeps, Carries, carry_rest, rests_carried, notes_carried, all_fresh, elsewhere_kept}
use Rattle.long_laws.proofs.QuarantineOver.{IsOver, Unopened, gone_others, vacant_over}
use Rattle.long_laws.proofs.QuarantineTurns.{Unasked, IsDoneAt}
use Rattle.long_laws.proofs.Stands.{Stands}

-- which entry a message takes out

pub record IsTaken (log : Log) (message : ForgetMessage) (key : Key) : Type 0 where
  pub own : message.boot ≡ log.boot
  pub named : Named
  pub body : message.body ≡ ForgetMsg named
  pub key_is : named.key ≡ key
  pub some : list_any (is_recycled named) log.entries ≡ true

taken_body : (log : Log) (message : ForgetMessage) (key : Key) (body : ForgetBody) → message.body ≡ body → message.boot ≡ log.boot → key_recycled body log ≡ Some key → IsTaken log message key
taken_body log message key (ForgottenMsg n) is own e = none_is_some key e
taken_body log message key (ForgetMsg n) is own e = on (list_any (is_recycled n) log.entries) refl e
  where
    on : (b : Bool) → list_any (is_recycled n) log.entries ≡ b → (if b then Some n.key else None) ≡ Some key → IsTaken log message key
    on true some h = record { own = own; named = n; body = is; key_is = some_is n.key key h; some = some }
    on false none h = none_is_some key h

taken : (log : Log) (message : ForgetMessage) (key : Key) → recycled_by message log ≡ Some key → IsTaken log message key
taken log message key e = on (message.boot == log.boot) refl e
  where
    on : (b : Bool) → (message.boot == log.boot) ≡ b → (if b then key_recycled message.body log else None) ≡ Some key → IsTaken log message key
    on true own h = taken_body log message key message.body refl (eqb-true _ _ own) h
    on false own h = none_is_some key h

untaken : (log : Log) (message : ForgetMessage) (n : Named) → message.boot ≡ log.boot → message.body ≡ ForgetMsg n → recycled_by message log ≡ None → list_any (is_recycled n) log.entries ≡ false
untaken log message n own is e = on (list_any (is_recycled n) log.entries) refl
  where
    here : recycled_by message log ≡ (if list_any (is_recycled n) log.entries then Some n.key else None)
    here = if_true (message.boot == log.boot) (key_recycled message.body log) None (eq-eqb message.boot log.boot own) ∙ ap (λ body. key_recycled body log) is

    on : (b : Bool) → list_any (is_recycled n) log.entries ≡ b → list_any (is_recycled n) log.entries ≡ false
    on false none = none
    on true some = none_is_some n.key (sym e ∙ (here ∙ if_true (list_any (is_recycled n) log.entries) (Some n.key) None some))

abbrev pub named_in_body : ForgetBody → Named
named_in_body (ForgetMsg n) = n
named_in_body (ForgottenMsg n) = n

pub has_some : (n : Named) (es : List Entry) (e : Entry) → find (λ x. key_eq x.key n.key) es ≡ Some e → is_recycled n e ≡ true → list_any (is_recycled n) es ≡ true
has_some n [] e found g = none_is_some e found
has_some n (x ∷ es) e found g =
    holds_if (λ o. o ≡ Some e → list_any (is_recycled n) (x ∷ es) ≡ true) (key_eq x.key n.key) (Some x) (find (λ y. key_eq y.key n.key) es)
    (λ t h. or_left (is_recycled n x) (list_any (is_recycled n) es) (ap (is_recycled n) (some_is x e h) ∙ g)) (λ t h. or_right (is_recycled n x) (list_any (is_recycled n) es) (has_some n es e h g)) found

gives_it : (n : Named) (es : List Entry) → list_any (is_recycled n) es ≡ true → list_any (is_entry_of n) es ≡ true
gives_it n [] h = h
gives_it n (e ∷ es) h =
    ⊎_elim (λ g. or_left (is_entry_of n e) (list_any (is_entry_of n) es) (and_parts (is_entry_of n e) e.done g).0) (λ r. or_right (is_entry_of n e) (list_any (is_entry_of n) es) (gives_it n es r))
    (or_cases (is_recycled n e) (list_any (is_recycled n) es) h)

it_is : (n : Named) (log : Log) (h : HasIt n log) → is_entry_of n h.0 ≡ true
it_is n log h = and_from _ _ (found_passes (λ x. key_eq x.key n.key) log.entries h.0 h.1) (and_from _ _ (eq-eqb h.0.cisn n.cisn h.2) (eq-eqb h.0.sisn n.sisn h.3))

-- what is taken out of the world is what the log takes out
after_taking : (log : Log) (message : ForgetMessage) (o : Option Key) → AreDistinct (map (λ e. e.key) log.entries) → recycled_by message log ≡ o
    → (after_forget log message ≡ log) ⊎ IsRecycled log message → (key : Key) → (o ≡ Some key → without_entry key log ≡ after_forget log message) × (o ≡ None → log ≡ after_forget log message)
after_taking log message o d e (inl same) key = (
  λ s. let t : IsTaken log message key = taken log message key (e ∙ s) in
      let out : after_forget log message ≡ forgotten_in t.named log = own_boot log message t.own ∙ ap (λ body. with_forget body log) t.body in
      absurd (true≢false (sym t.some ∙ (ap (λ l. list_any (is_recycled t.named) l.entries) (sym same ∙ out) ∙ none_left (is_recycled t.named) log.entries))),
  λ n. sym same,
)
after_taking log message o d e (inr r) key = (
  λ s. let t : IsTaken log message key = taken log message key (e ∙ s) in
      let same : r.named ≡ t.named = ap (λ m. named_in_body m.body) (sym r.is) ∙ ap named_in_body t.body in
      sym (r.after ∙ ap (λ k. without_entry k log) (ap (λ n. n.key) same ∙ t.key_is)),
  λ n. let none : list_any (is_recycled r.named) log.entries ≡ false = untaken log message r.named (ap (λ m. m.boot) r.is) (ap (λ m. m.body) r.is) (e ∙ n) in
      let it : is_entry_of r.named r.entry ≡ true = it_is r.named log (r.entry, r.found, r.cisn, r.sisn) in
      absurd (true≢false (sym (has_some r.named log.entries r.entry r.found (and_from _ _ it r.done)) ∙ none)),
)

pub log_is : (w : QuarantineWorld) (message : ForgetMessage) → AreDistinct (map (λ e. e.key) w.now.log.entries)
    → (recycled_world (recycled_by message w.now.log) w).now.log ≡ after_forget w.now.log message
log_is w message d = on (recycled_by message w.now.log) refl
  where
    on : (o : Option Key) → recycled_by message w.now.log ≡ o → (recycled_world o w).now.log ≡ after_forget w.now.log message
    on (Some key) e = (after_taking w.now.log message (Some key) d e (takes_out_or_nothing w.now.log message d) key).0 refl
    on None e = (after_taking w.now.log message None d e (takes_out_or_nothing w.now.log message d) (record { ip = 0; port = 0 })).1 refl

-- Stale is answered to an older boot alone
pub record IsStaleTo (log : Log) (message : ForgetMessage) (answer : Message) : Type 0 where
  pub older : message.boot < log.boot
  pub is : answer ≡ record { boot = message.boot; body = StaleMsg log.boot }

abbrev in_log : ForgetAnswer → Message → Message
in_log (Of_log m) other = m
in_log (About_forgetting m) other = other

is_of_log : ForgetAnswer → Bool
is_of_log (Of_log m) = true
is_of_log (About_forgetting m) = false

reported_never : {X : Type 0} (boot : ℕ) (body : ForgetBody) (log : Log) (answer : Message) → reported_of boot body log ≡ Some (Of_log answer) → X
unfolding is_of_log
reported_never boot (ForgottenMsg n) log answer e = none_is_some (Of_log answer) e
reported_never {X = X} boot (ForgetMsg n) log answer e =
    holds_if (λ o. o ≡ Some (Of_log answer) → X) (list_any (is_entry_of n) log.entries) None (Some (About_forgetting (forgotten_message boot n)))
    (λ t h. none_is_some (Of_log answer) h) (λ t h. absurd (true≢false (sym (ap is_of_log (some_is _ _ h))))) e

stale_to : (log : Log) (message : ForgetMessage) (answer : Message) → answer_to_forget log message ≡ Some (Of_log answer) → IsStaleTo log message answer
unfolding answer_to_forget
stale_to log message answer e = on (is_forget_answer message.body) (nat_lt message.boot log.boot) (message.boot == log.boot) refl e
  where
    on : (a b c : Bool) → nat_lt message.boot log.boot ≡ b
        → (if a then None
        else (if b then Some (Of_log (record { boot = message.boot; body = StaleMsg log.boot })) else (if c then reported_of message.boot message.body (after_forget log message) else None)))
        ≡ Some (Of_log answer) → IsStaleTo log message answer
    on true b c older h = none_is_some (Of_log answer) h
    on false true c older h = record { older = ltb-true message.boot log.boot older; is = sym (ap (λ a. in_log a answer) (some_is _ _ h)) }
    on false false true older h = reported_never message.boot message.body (after_forget log message) answer h
    on false false false older h = none_is_some (Of_log answer) h

-- The world without a key

unconcerned : (key : Key) (packet : Packet) → concerns key packet ≡ false → Unasked key packet
unconcerned key (To_server segment) c = refl
unconcerned key (To_client segment) c = refl
unconcerned key (To_logger message) c = c
unconcerned key (From_logger message) c = refl

pub vacant_then : (key : Key) (w : World) → IsVacant key (recycled key w)
vacant_then key w = (
  none_there (λ e. key_eq e.key key) w.log.entries,
  all_others (λ p. Unit {0}) (Unasked key) (concerns key) w.packets (λ p c u. unconcerned key p c) (all_of (λ p. Unit {0}) w.packets (λ p. tt)),
)

recycled_carries : (key : Key) (w : World) (node : Node) → Carries w (recycled key w) node node []
recycled_carries key w node = record {
  boot = refl;
  done = λ k d. d;
  vacant = λ k d v. on k v (key_eq k key) refl;
  has = λ n h. there n h (key_eq n.key key) refl;
  over = λ n fresh x. (
    gone_others n (λ e. key_eq e.key key) w.log.entries x.0,
    all_others (Unopened n) (Unopened n) (concerns key) w.packets (λ p c u. u) x.1,
    x.2,
    x.3,
  );
}
  where
    on : (k : Key) → IsVacant k w → (b : Bool) → key_eq k key ≡ b → IsVacant k (recycled key w)
    on k v true e = subst (λ x. IsVacant x (recycled key w)) (sym (same_key k key e)) (vacant_then key w)
    on k v false e = (find_others (λ x. x.key) key k w.log.entries e ∙ v.0, all_others (Unasked k) (Unasked k) (concerns key) w.packets (λ p c u. u) v.1)

    there : (n : Named) → HasIt n w.log → (b : Bool) → key_eq n.key key ≡ b → IsThere n (recycled key w)
    there n h true e = inr (subst (λ x. IsVacant x (recycled key w)) (sym (same_key n.key key e)) (vacant_then key w))
    there n h false e = inl (h.0, find_others (λ x. x.key) key n.key w.log.entries e ∙ h.1, h.2, h.3)

recycled_kept : (key : Key) (w : World) (notes : List ForgetMessage) (quarantine : List Quarantined) → Keeps w notes quarantine → Keeps (recycled key w) notes quarantine
recycled_kept key w notes quarantine k = record {
  of_servers = all_weaker (IsOfServer w) (IsOfServer (recycled key w)) notes (λ m h. (h.0, in_others (concerns key) (reported_by m.boot HelloMsg) w.packets refl h.1)) k.of_servers;
  hello_said = λ n e. in_others (concerns key) (reported_by n.boot HelloMsg) w.packets refl (k.hello_said n e);
  rests = λ n e. rests_carried w (recycled key w) n n [] (recycled_carries key w n) quarantine (k.rests n e);
  holds = λ n e. notes_carried w (recycled key w) n n [] (recycled_carries key w n) notes (all_fresh n.boot notes) (k.holds n e);
}

same_carries : (w : World) (node : Node) → Carries w w node node []
same_carries w node = record { boot = refl; done = λ k d. d; vacant = λ k d v. v; has = λ n h. inl h; over = λ n fresh x. x }

abbrev pub KeepsAll : QuarantineWorld → Type 0
KeepsAll w = Keeps w.now w.notes w.quarantine

-- with one message more
one_more : (w : World) (notes : List ForgetMessage) (quarantine : List Quarantined) (m : ForgetMessage) → Keeps w notes quarantine → IsOfServer w m
    → ((node : Node) → w.node ≡ Some node → NoteHolds w node m) → Keeps w (notes ++ m ∷ []) quarantine
one_more w notes quarantine m k own h = record {
  of_servers = all_append (IsOfServer w) notes (m ∷ []) k.of_servers (own, tt);
  hello_said = k.hello_said;
  rests = k.rests;
  holds = λ n e. all_append (NoteHolds w n) notes (m ∷ []) (k.holds n e) (h n e, tt);
}

answer_elsewhere : (w : World) (answer : Message) → Elsewhere w (From_logger answer ∷ []) (record w { packets = w.packets ++ From_logger answer ∷ [] })
answer_elsewhere w answer = record { node = refl; boot = refl; packets = refl; silent = (λ key. refl, tt); log = inl refl }

any_found : (n : Named) (es : List Entry) (e : Entry) → find (λ x. key_eq x.key n.key) es ≡ Some e → is_entry_of n e ≡ true → list_any (is_entry_of n) es ≡ true
any_found n [] e found is = none_is_some e found
any_found n (x ∷ es) e found is =
    holds_if (λ o. o ≡ Some e → list_any (is_entry_of n) (x ∷ es) ≡ true) (key_eq x.key n.key) (Some x) (find (λ y. key_eq y.key n.key) es)
    (λ t h. or_left (is_entry_of n x) (list_any (is_entry_of n) es) (ap (is_entry_of n) (some_is x e h) ∙ is)) (λ t h. or_right (is_entry_of n x) (list_any (is_entry_of n) es) (any_found n es e h is)) found

has_and_gone : {X : Type 0} (n : Named) (log : Log) → HasIt n log → IsGone n log → X
has_and_gone n log h gone = absurd (true≢false (sym (any_found n log.entries h.0 h.1 (it_is n log h)) ∙ gone))

in_at : (packet : Packet) (xs : List Packet) → IsIn packet xs → (i : ℕ) × (slice_get xs i ≡ Some packet)
in_at packet [] i = absurd i
in_at packet (x ∷ xs) (inl e) = (zero, ap Some e)
in_at packet (x ∷ xs) (inr r) = let there = in_at packet xs r in (suc there.0, there.1)

-- what rests where the log has no entry of it is over
over_then : (w : World) (node : Node) (n : Named) → RestsThere w node n → IsGone n w.log → IsOver w node n
over_then w node n r gone = let v : IsVacant n.key w = ⊎_elim (λ h. has_and_gone n w.log h gone) (λ v. v) r.1 in vacant_over w node n r.0 v.0 v.1

-- The log hears it

module _ {State : Type 0} (service : Machine State) (w : QuarantineWorld) (o : Stands service w.now) (k : KeepsAll w) (number : ℕ) (message : ForgetMessage)
    (there : slice_get w.notes number ≡ Some message) where
  held : (node : Node) → w.now.node ≡ Some node → NoteHolds w.now node message
  held node up = all_slice_get (NoteHolds w.now node) w.notes number message (k.holds node up) there

  its_server : IsOfServer w.now message
  its_server = all_slice_get (IsOfServer w.now) w.notes number message k.of_servers there

  -- a server that serves is of the log's boot
  clear_at : (key : Key) (node : Node) (stage : Stage) → IsLogged w.now.log.boot node stage → (w.now.log.boot ≡ node.boot → IsDoneAt key stage)
      → AllByRecursion (λ place. key_eq (key_of place) key ≡ true → IsEnded place) (places_at stage)
  clear_at key node (Serving opened places) own d = (d own).0
  clear_at key node Asking own d = tt
  clear_at key node (Fetching count fetched) own d = tt
  clear_at key node (Fenced newer) own d = tt

  restarts_newer : (key : Key) (node : Node) (stage : Stage) → is_restarting stage ≡ true → IsDoneAt key stage → ⊥
  restarts_newer key node Asking r d = d
  restarts_newer key node (Fetching count fetched) r d = d
  restarts_newer key node (Serving opened places) r d = true≢false (sym r)
  restarts_newer key node (Fenced newer) r d = true≢false (sym r)

  pub may_recycle : (key : Key) → IsTaken w.now.log message key → MayRecycle key w.now
  may_recycle key t = record {
    done = λ e found. done_there (takes_out_or_nothing w.now.log message o.asked.distinct) e found;
    clear = λ node up. clear_at key node node.stage (o.fenced.node node up).logged (λ own. done_at node up own);
    settled = λ node up r. newer node up r (nat_lt w.now.log.boot node.boot) refl;
  }
    where
      done_at : (node : Node) → w.now.node ≡ Some node → w.now.log.boot ≡ node.boot → IsDoneAt key node.stage
      done_at node up own =
          subst (λ x. IsDoneAt x node.stage) t.key_is
          (⊎_elim (λ r. r.0) (λ x. absurd (true≢false (sym (gives_it t.named w.now.log.entries t.some) ∙ x.0))) (subst (BodyHolds w.now node) t.body (held node up (t.own ∙ own))))

      done_there : (after_forget w.now.log message ≡ w.now.log) ⊎ IsRecycled w.now.log message → (e : Entry) → entry_of key w.now.log ≡ Some e → e.done ≡ true
      done_there (inl same) e found =
          let out : after_forget w.now.log message ≡ forgotten_in t.named w.now.log = own_boot w.now.log message t.own ∙ ap (λ body. with_forget body w.now.log) t.body in
          absurd (true≢false (sym t.some ∙ (ap (λ l. list_any (is_recycled t.named) l.entries) (sym same ∙ out) ∙ none_left (is_recycled t.named) w.now.log.entries)))
      done_there (inr r) e found =
          let same : r.named ≡ t.named = ap (λ m. named_in_body m.body) (sym r.is) ∙ ap named_in_body t.body in
          let key_same : r.named.key ≡ key = ap (λ n. n.key) same ∙ t.key_is in
          ap (λ x. x.done) (some_is e r.entry (sym found ∙ subst (λ z. entry_of z w.now.log ≡ Some r.entry) key_same r.found)) ∙ r.done

      newer : (node : Node) → w.now.node ≡ Some node → is_restarting node.stage ≡ true → (b : Bool) → nat_lt w.now.log.boot node.boot ≡ b → w.now.log.boot < node.boot
      newer node up r true less = ltb-true w.now.log.boot node.boot less
      newer node up r false less =
          let low : w.now.log.boot ≤ w.now.boot = o.fenced.log in
          let own : node.boot ≡ w.now.boot = (o.fenced.node node up).boot in
          let high : node.boot ≤ w.now.log.boot = ltb-false w.now.log.boot node.boot less in
          absurd (restarts_newer key node node.stage r (done_at node up (omega (arith, low, own, high))))

  -- the world in which the entry is taken out, if one is
  abbrev out : Option Key → QuarantineWorld
  out r = recycled_world r w

  out_carries : (r : Option Key) (node : Node) → Carries w.now (out r).now node node []
  out_carries (Some key) node = recycled_carries key w.now node
  out_carries None node = same_carries w.now node

  out_kept : (r : Option Key) → KeepsAll (out r)
  out_kept (Some key) = recycled_kept key w.now w.notes w.quarantine k
  out_kept None = k

  out_node : (r : Option Key) → (out r).now.node ≡ w.now.node
  out_node (Some key) = refl
  out_node None = refl

  out_notes : (r : Option Key) → (out r).notes ≡ w.notes
  out_notes (Some key) = refl
  out_notes None = refl

  -- what Forgotten says is so
  says_so : (r : Option Key) (answer : ForgetMessage) → recycled_by message w.now.log ≡ r → answer_to_forget w.now.log message ≡ Some (About_forgetting answer)
      → (IsOfServer (out r).now answer) × ((node : Node) → (out r).now.node ≡ Some node → NoteHolds (out r).now node answer)
  says_so r answer e a =
      let said = forgotten_means_gone w.now.log message answer a in
      let n : Named = said.0 in
      let own : message.boot ≡ w.now.log.boot = ap (λ m. m.boot) said.1 in
      let log : (out r).now.log ≡ after_forget w.now.log message = subst (λ x. (recycled_world x w).now.log ≡ after_forget w.now.log message) e (log_is w message o.asked.distinct) in
      let gone : IsGone n (out r).now.log = subst (IsGone n) (sym log) said.3 in
      let of_it : IsOfServer (out r).now message = all_slice_get (IsOfServer (out r).now) (out r).notes number message (out_kept r).of_servers (ap (λ ns. slice_get ns number) (out_notes r) ∙ there) in (
        subst (IsOfServer (out r).now) (sym said.2) (subst (λ b. IsOfServer (out r).now (forgotten_message b n)) own of_it),
        λ node up. let up_then : w.now.node ≡ Some node = sym (out_node r) ∙ up in
            subst (NoteHolds (out r).now node) (sym said.2)
            (λ boot. let was : BodyHolds w.now node (ForgetMsg n) = subst (BodyHolds w.now node) (ap (λ m. m.body) said.1) (held node up_then (own ∙ boot)) in
            ⊎_elim (λ rests. over_then (out r).now node n (carry_rest w.now (out r).now node node [] (out_carries r node) n rests) gone) (λ x. (out_carries r node).over n tt x) was),
      )

  kept_then : (r : Option Key) (a : Option ForgetAnswer) → recycled_by message w.now.log ≡ r → answer_to_forget w.now.log message ≡ a → KeepsAll (with_answer a (out r))
  kept_then r None e f = out_kept r
  kept_then r (Some (Of_log answer)) e f =
      elsewhere_kept (out r).now (From_logger answer ∷ []) (record (out r).now { packets = (out r).now.packets ++ From_logger answer ∷ [] }) (out r).notes (out r).quarantine
      (answer_elsewhere (out r).now answer) (out_kept r)
  kept_then r (Some (About_forgetting answer)) e f =
      let s = says_so r answer e f in one_more (out r).now (out r).notes (out r).quarantine answer (out_kept r) s.0 s.1

  -- Stale is what the log would answer to the Hello of that server, too
  stale_comes : (answer : Message) → IsStaleTo w.now.log message answer
      → MayPass service (seen w) (Joint_event (Deliver (suc (in_at (reported_by message.boot HelloMsg) w.now.packets its_server.1).0))) (From_logger answer ∷ []) (seen (with_answer (Some (Of_log answer)) w))
  unfolding answer_to
  stale_comes answer s =
      let at = in_at (reported_by message.boot HelloMsg) w.now.packets its_server.1 in
      let hello : Message = record { boot = message.boot; body = HelloMsg } in
      let log : log_after w.now.log hello ≡ w.now.log = old_boots_change_nothing w.now.log hello s.older in
      let reported : answer_to w.now.log hello ≡ Some answer = stale_reported (nat_lt message.boot w.now.log.boot) (by_less s.older) ∙ ap Some (sym s.is) in (
        (
          reported_by message.boot HelloMsg,
          at.1,
          (
            ap (λ x. option_to_list (option_map From_logger x)) (sym reported),
            ap (λ (l : Log). record w.now { log = l; packets = w.now.packets ++ From_logger answer ∷ [] }) (sym log),
          ),
        ),
        refl,
      )
    where
      by_less : message.boot < w.now.log.boot → nat_lt message.boot w.now.log.boot ≡ true
      by_less h = grind (arith, h)

      stale_reported : (b : Bool) → nat_lt message.boot w.now.log.boot ≡ true → answer_to w.now.log (record { boot = message.boot; body = HelloMsg }) ≡ Some (record { boot = message.boot; body = StaleMsg w.now.log.boot })
      stale_reported b h = rw (h) refl

  step_then : (r : Option Key) (a : Option ForgetAnswer) → recycled_by message w.now.log ≡ r → answer_to_forget w.now.log message ≡ a
      → IsLongStep service (seen w) (answer_sent a) (seen (with_answer a (out r)))
  step_then (Some key) None e f = inr (inl (Recycles key, (may_recycle key (taken w.now.log message key e), refl, refl, refl)))
  step_then (Some key) (Some (About_forgetting answer)) e f = inr (inl (Recycles key, (may_recycle key (taken w.now.log message key e), refl, refl, refl)))
  step_then (Some key) (Some (Of_log answer)) e f =
      let s = stale_to w.now.log message answer f in let own = (taken w.now.log message key e).own in let older = s.older in absurd (omega (arith, older, own))
  step_then None None e f = inl (refl, refl)
  step_then None (Some (About_forgetting answer)) e f = inl (refl, refl)
  step_then None (Some (Of_log answer)) e f = inr (inl (Joint_event (Deliver (suc (in_at (reported_by message.boot HelloMsg) w.now.packets its_server.1).0)), stale_comes answer (stale_to w.now.log message answer f)))

  changes_by : (r : Option Key) → recycled_by message w.now.log ≡ r → (recycled_world r w).now.log ≡ after_forget w.now.log message
      → (after_forget w.now.log message ≡ w.now.log) ⊎ ((key : Key) × MayRecycle key w.now × (after_forget w.now.log message ≡ without_entry key w.now.log))
  changes_by (Some key) e is = inr (key, may_recycle key (taken w.now.log message key e), sym is)
  changes_by None e is = inl (sym is)

  -- the log stays as it is, or the key may be recycled, and is
  pub changes : (after_forget w.now.log message ≡ w.now.log) ⊎ ((key : Key) × MayRecycle key w.now × (after_forget w.now.log message ≡ without_entry key w.now.log))
  changes = changes_by (recycled_by message w.now.log) refl (log_is w message o.asked.distinct)

  -- while the server restarts, the message is of an older boot
  pub older_than_restart : (node : Node) → w.now.node ≡ Some node → is_restarting node.stage ≡ true → message.boot < node.boot
  older_than_restart node up r = on (nat_lt message.boot node.boot) refl
    where
      undone : (body : ForgetBody) → BodyHolds w.now node body → ⊥
      undone (ForgetMsg n) h = ⊎_elim (λ x. restarts_newer n.key node node.stage r x.0) (λ x. true≢false (sym r ∙ x.3)) h
      undone (ForgottenMsg n) x = true≢false (sym r ∙ x.3)

      on : (b : Bool) → nat_lt message.boot node.boot ≡ b → message.boot < node.boot
      on true less = ltb-true message.boot node.boot less
      on false less =
          let low : message.boot ≤ w.now.boot = its_server.0 in
          let own : node.boot ≡ w.now.boot = (o.fenced.node node up).boot in
          let high : node.boot ≤ message.boot = ltb-false message.boot node.boot less in
          absurd (undone message.body (held node up (omega (arith, low, own, high))))

  pub forget_came : IsLongStep service (seen w) (answer_sent (answer_to_forget w.now.log message)) (seen (after_forget_came message w)) × KeepsAll (after_forget_came message w)
  forget_came = (
    step_then (recycled_by message w.now.log) (answer_to_forget w.now.log message) refl refl,
    kept_then (recycled_by message w.now.log) (answer_to_forget w.now.log message) refl refl,
  )

-- The server hears it

pub record TakesAway (w : QuarantineWorld) (message : ForgetMessage) (key : Key) : Type 0 where
  pub node : Node
  pub up : w.now.node ≡ Some node
  pub own : message.boot ≡ node.boot
  pub named : Named
  pub body : message.body ≡ ForgottenMsg named
  pub key_is : named.key ≡ key
  pub held_so : list_any (λ q. is_same q.named named) w.quarantine ≡ true

away_body : (w : QuarantineWorld) (message : ForgetMessage) (key : Key) (node : Node) (body : ForgetBody) → w.now.node ≡ Some node → message.boot ≡ node.boot → message.body ≡ body
    → named_by body w.quarantine ≡ Some key → TakesAway w message key
away_body w message key node (ForgetMsg n) up own is e = none_is_some key e
away_body w message key node (ForgottenMsg n) up own is e =
    holds_if (λ o. o ≡ Some key → TakesAway w message key) (list_any (λ q. is_same q.named n) w.quarantine) (Some n.key) None
    (λ t h. record { node = node; up = up; own = own; named = n; body = is; key_is = some_is n.key key h; held_so = t }) (λ t h. none_is_some key h) e

pub takes_away : (w : QuarantineWorld) (message : ForgetMessage) (key : Key) (o : Option Node) → w.now.node ≡ o → taken_away o message w.quarantine ≡ Some key → TakesAway w message key
takes_away w message key None up e = none_is_some key e
takes_away w message key (Some node) up e =
    holds_if (λ x. x ≡ Some key → TakesAway w message key) (message.boot == node.boot) (named_by message.body w.quarantine) None
    (λ t h. away_body w message key node message.body up (eqb-true _ _ t) refl h) (λ t h. none_is_some key h) e

knows_others : (key k : Key) (places : List Place) → key_eq k key ≡ false → Knows places k → Knows (others (λ p. key_eq (key_of p) key) places) k
knows_others key k [] apart h = h
knows_others key k (p ∷ places) apart h =
    holds_if (λ l. Knows l k) (key_eq (key_of p) key) (others (λ x. key_eq (key_of x) key) places) (p ∷ others (λ x. key_eq (key_of x) key) places)
    (λ t. ⊎_elim (λ s. absurd (true≢false (sym t ∙ subst (λ z. key_eq z key ≡ false) (sym (same_key (key_of p) k s)) apart))) (λ r. knows_others key k places apart r)
    (or_cases (key_eq (key_of p) k) (has_key k (map key_of places)) h))
    (λ t. ⊎_elim (λ s. or_left (key_eq (key_of p) k) (has_key k (map key_of (others (λ x. key_eq (key_of x) key) places))) s)
    (λ r. or_right (key_eq (key_of p) k) (has_key k (map key_of (others (λ x. key_eq (key_of x) key) places))) (knows_others key k places apart r))
    (or_cases (key_eq (key_of p) k) (has_key k (map key_of places)) h))

done_without : (key k : Key) (stage : Stage) → key_eq k key ≡ false → IsDoneAt k stage → IsDoneAt k (stage_without key stage)
done_without key k (Serving opened places) apart d = (left (λ place. key_eq (key_of place) k ≡ true → IsEnded place) key places d.0, knows_others key k places apart d.1)
done_without key k (Fenced newer) apart d = tt
done_without key k Asking apart d = d
done_without key k (Fetching count fetched) apart d = d

left_places : (P : Place → Type 0) (key : Key) (stage : Stage) → AllByRecursion P (places_at stage) → AllByRecursion P (places_at (stage_without key stage))
left_places P key (Serving opened places) a = left P key places a
left_places P key Asking a = tt
left_places P key (Fetching count fetched) a = tt
left_places P key (Fenced newer) a = tt

module _ (w : QuarantineWorld) (key : Key) (k : KeepsAll w) (vacant : IsVacant key w.now) where
  abbrev without : Node → Node
  without node = record node { stage = stage_without key node.stage }

  rests_left : (node : Node) → w.now.node ≡ Some node → (x : Node) → x ≡ without node
      → AllByRecursion (Rests (forgotten key w.now) x) (others (λ q. key_eq q.named.key key) w.quarantine)
  rests_left node up x is =
      subst (λ y. AllByRecursion (Rests (forgotten key w.now) y) (others (λ q. key_eq q.named.key key) w.quarantine)) (sym is)
      (all_others (Rests w.now node) (Rests (forgotten key w.now) (without node)) (λ q. key_eq q.named.key key) w.quarantine
      (λ q apart r. (done_without key q.named.key node.stage apart r.0, r.1)) (k.rests node up))

  over_left : (node : Node) (n : Named) → IsOver w.now node n → IsOver (forgotten key w.now) (without node) n
  over_left node n x = (x.0, x.1, left_places (NotOpening n) key node.stage x.2, same_stage key node.stage ∙ x.3)

  rest_left : (node : Node) (n : Named) (b : Bool) → key_eq n.key key ≡ b → RestsThere w.now node n → BodyHolds (forgotten key w.now) (without node) (ForgetMsg n)
  rest_left node n true e r =
      let v : IsVacant n.key w.now = subst (λ z. IsVacant z w.now) (sym (same_key n.key key e)) vacant in
      inr (over_left node n (vacant_over w.now node n r.0 v.0 v.1))
  rest_left node n false e r = inl (done_without key n.key node.stage e r.0, r.1)

  note_left : (node : Node) (body : ForgetBody) → BodyHolds w.now node body → BodyHolds (forgotten key w.now) (without node) body
  note_left node (ForgetMsg n) h = ⊎_elim (λ r. rest_left node n (key_eq n.key key) refl r) (λ x. inr (over_left node n x)) h
  note_left node (ForgottenMsg n) x = over_left node n x

  notes_left : (node : Node) → w.now.node ≡ Some node → (x : Node) → x ≡ without node → AllByRecursion (NoteHolds (forgotten key w.now) x) w.notes
  notes_left node up x is =
      subst (λ y. AllByRecursion (NoteHolds (forgotten key w.now) y) w.notes) (sym is)
      (all_weaker (NoteHolds w.now node) (NoteHolds (forgotten key w.now) (without node)) w.notes (λ m h own. note_left node m.body (h own)) (k.holds node up))

  left_kept : KeepsAll (without_place (Some key) w)
  left_kept = record {
    of_servers = k.of_servers;
    hello_said = λ n e. let b : Was key w.now.node n = was key w.now.node n e in subst (λ x. IsIn (reported_by x.boot HelloMsg) w.now.packets) (sym b.is) (k.hello_said b.node b.up);
    rests = λ n e. let b : Was key w.now.node n = was key w.now.node n e in rests_left b.node b.up n b.is;
    holds = λ n e. let b : Was key w.now.node n = was key w.now.node n e in notes_left b.node b.up n b.is;
  }

-- each place of the key is done
clear_stage : (key : Key) (stage : Stage) → IsDoneAt key stage → AllByRecursion (λ place. key_eq (key_of place) key ≡ true → IsEnded place) (places_at stage)
clear_stage key (Serving opened places) d = d.0
clear_stage key (Fenced newer) d = tt
clear_stage key Asking d = tt
clear_stage key (Fetching count fetched) d = tt

named_as : {key : Key} {cisn sisn : ℕ} {n : Named} → key ≡ n.key → cisn ≡ n.cisn → sisn ≡ n.sisn → (let m : Named = record { key = key; cisn = cisn; sisn = sisn } in m) ≡ (let m : Named = record { key = n.key; cisn = n.cisn; sisn = n.sisn } in m)
named_as a b c = cc (a, b, c)

same_named : (m n : Named) → is_same m n ≡ true → m ≡ n
same_named m n e =
    let one = and_parts (key_eq m.key n.key) (m.cisn == n.cisn && m.sisn == n.sisn) e in
    let two = and_parts (m.cisn == n.cisn) (m.sisn == n.sisn) one.1 in
    named_as (same_key m.key n.key one.0) (eqb-true _ _ two.0) (eqb-true _ _ two.1)

rests_of : (w : World) (node : Node) (n : Named) (qs : List Quarantined) → list_any (λ q. is_same q.named n) qs ≡ true → AllByRecursion (Rests w node) qs → RestsThere w node n
rests_of w node n [] h a = absurd (true≢false (sym h))
rests_of w node n (q ∷ qs) h a =
    ⊎_elim (λ e. subst (RestsThere w node) (same_named q.named n e) a.0) (λ r. rests_of w node n qs r a.1) (or_cases (is_same q.named n) (list_any (λ x. is_same x.named n) qs) h)

module _ {State : Type 0} (service : Machine State) (w : QuarantineWorld) (k : KeepsAll w) (number : ℕ) (message : ForgetMessage)
    (there : slice_get w.notes number ≡ Some message) where
  is_vacant : (key : Key) (t : TakesAway w message key) → IsDoneAt key t.node.stage × IsVacant key w.now
  is_vacant key t =
      let held : NoteHolds w.now t.node message = all_slice_get (NoteHolds w.now t.node) w.notes number message (k.holds t.node t.up) there in
      let over : IsOver w.now t.node t.named = subst (BodyHolds w.now t.node) t.body (held t.own) in
      let rests : RestsThere w.now t.node t.named = rests_of w.now t.node t.named w.quarantine t.held_so (k.rests t.node t.up) in
      let vacant : IsVacant t.named.key w.now = ⊎_elim (λ h. has_and_gone t.named w.now.log h over.0) (λ v. v) rests.1 in
      (subst (λ z. IsDoneAt z t.node.stage) t.key_is rests.0, subst (λ z. IsVacant z w.now) t.key_is vacant)

  pub may_forget : (key : Key) → TakesAway w message key → MayForget key w.now
  may_forget key t =
      let x = is_vacant key t in
      record {
        absent = x.1.0;
        clear = λ node up. clear_stage key node.stage (subst (λ n. IsDoneAt key n.stage) (some_is t.node node (sym t.up ∙ up)) x.0);
        unasked = x.1.1;
      }

  away_then : (o : Option Key) → taken_away w.now.node message w.quarantine ≡ o → IsLongStep service (seen w) [] (seen (without_place o w)) × KeepsAll (without_place o w)
  away_then (Some key) e =
      let t : TakesAway w message key = takes_away w message key w.now.node refl e in
      (inr (inl (Forgets key, (may_forget key t, refl, refl, refl))), left_kept w key k (is_vacant key t).1)
  away_then None e = (inl (refl, refl), k)

  pub forgotten_came : IsLongStep service (seen w) [] (seen (after_forgotten_came message w)) × KeepsAll (after_forgotten_came message w)
  forgotten_came = away_then (taken_away w.now.node message w.quarantine) refl
