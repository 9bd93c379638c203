-- What is kept true while a server has connections in quarantine: each that it holds, and each that a message about forgetting names, is done at the server, and
-- the log has its entry, or nobody but the server has anything of its key.
use Rattle.std.proofs.Common.{◌≡◌, ◌⊎◌, inl, inr, ⊎_elim, ℕ, ◌<◌, ◌≤◌, arith, Bool, true, false, refl, sym, ap, ◌∙◌, subst, true≢false, find, option_map, Option, Some, None, List, [], ◌∷◌, ◌++◌, filter}
use Rattle.std.specs.List.{AllByRecursion}
use Rattle.ft_io.specs.declared.Key.{Key}
use Rattle.ft_io.specs.Key.{key_eq}
use Rattle.server_trait.specs.Service.{Machine}
use Rattle.seq_arith.specs.Message.{Message}
use Rattle.seq_arith.specs.Message.Body.{HelloMsg}
use Rattle.ft_model.specs.Connection.{reported_by}
use Rattle.ft_model.specs.Lawful.{LawfulTurn, hello}
use Rattle.ft_model.specs.Log.{entry_of, log_after}
use Rattle.ft_model.specs.Network.{Packet}
use Rattle.ft_model.specs.Network.Packet.{To_logger}
use Rattle.ft_model.specs.Node.{Node, Place, Stage, Input, key_of, place_at, booted}
use Rattle.ft_model.specs.Node.Input.{Packet_comes, Message_comes, Noise_comes, Tick_comes}
use Rattle.ft_model.specs.Node.Place.{Opens, Lives, Ended}
use Rattle.ft_model.specs.Node.Stage.{Asking, Fetching, Serving, Fenced}
use Rattle.ft_model.specs.Restart.{Fetched}
use Rattle.ft_model.specs.World.{World}
use Rattle.ft_model.proofs.Distinct.{StageDistinct}
use Rattle.ft_model.proofs.Grows.{log_grows, found_later}
use Rattle.ft_model.proofs.Happened.{IsUnderWay, IsBrought, all_sent}
use Rattle.ft_model.proofs.Lists.{all_weaker, all_both, all_append, all_map, all_of, all_find, found_passes, same_key, none_is_some, some_is}
use Rattle.ft_model.proofs.PlaceTurns.{all_flat}
use Rattle.ft_model.proofs.StageTurns.{stage_went}
use Rattle.ft_io.proofs.Choices.{holds_if}
use Rattle.long_laws.specs.Forgetting.{Named, ForgetBody, ForgetMessage, IsGone, forget, named_of}
use Rattle.long_laws.specs.Forgetting.ForgetBody.{ForgetMsg, ForgottenMsg}
use Rattle.long_laws.specs.LongTrace.{others, places_at}
use Rattle.long_laws.specs.Quarantine.{Quarantined, aged, is_leaving, named_head, named_place, fetched_now, named_in, quarantined_at, proceeds_or_begins, quarantine_of, quarantine_after, forgets}
use Rattle.long_laws.specs.QuarantineWorld.{NotOpening, new_places, IsFresh}
use Rattle.long_laws.proofs.Others.{all_filtered}
use Rattle.long_laws.proofs.QuarantineDone.{HasIt, stays_absent, DoneAmong, done_among, begun_has}
use Rattle.long_laws.proofs.QuarantineEvents.{SaysNothing, Elsewhere}
use Rattle.long_laws.proofs.QuarantineOver.{IsOver, Unopened, gone_still, silent_unopened, stage_over}
use Rattle.long_laws.proofs.QuarantineTurns.{Unasked, IsDoneAt, stage_stays}
use Rattle.long_laws.proofs.Stands.{Stands}

-- a packet is in the list
abbrev pub IsIn : Packet → List Packet → Type 0
IsIn packet [] = ⊥
IsIn packet (x ∷ xs) = (x ≡ packet) ⊎ IsIn packet xs

pub in_front : (packet : Packet) (xs ys : List Packet) → IsIn packet xs → IsIn packet (xs ++ ys)
in_front packet [] ys i = absurd i
in_front packet (x ∷ xs) ys i = ⊎_elim (λ e. inl e) (λ r. inr (in_front packet xs ys r)) i

pub in_behind : (packet : Packet) (xs : List Packet) → IsIn packet (xs ++ packet ∷ [])
in_behind packet [] = inl refl
in_behind packet (x ∷ xs) = inr (in_behind packet xs)

pub in_others : (passes : Packet → Bool) (packet : Packet) (xs : List Packet) → passes packet ≡ false → IsIn packet xs → IsIn packet (others passes xs)
in_others passes packet [] e i = absurd i
in_others passes packet (x ∷ xs) e i =
    ⊎_elim (λ same. holds_if (IsIn packet) (passes x) (others passes xs) (x ∷ others passes xs) (λ t. absurd (true≢false (sym t ∙ (ap passes same ∙ e)))) (λ t. inl same))
    (λ r. holds_if (IsIn packet) (passes x) (others passes xs) (x ∷ others passes xs) (λ t. in_others passes packet xs e r) (λ t. inr (in_others passes packet xs e r))) i

-- nobody but the server has anything of the key
abbrev pub IsVacant : Key → World → Type 0
IsVacant key w = (entry_of key w.log ≡ None) × AllByRecursion (Unasked key) w.packets

abbrev pub IsThere : Named → World → Type 0
IsThere n w = HasIt n w.log ⊎ IsVacant n.key w

abbrev pub RestsThere : World → Node → Named → Type 0
RestsThere w node n = IsDoneAt n.key node.stage × IsThere n w

abbrev pub Rests : World → Node → Quarantined → Type 0
Rests w node q = RestsThere w node q.named

abbrev pub BodyHolds : World → Node → ForgetBody → Type 0
BodyHolds w node (ForgetMsg n) = RestsThere w node n ⊎ IsOver w node n
BodyHolds w node (ForgottenMsg n) = IsOver w node n

abbrev pub NoteHolds : World → Node → ForgetMessage → Type 0
NoteHolds w node m = m.boot ≡ node.boot → BodyHolds w node m.body

-- a message about forgetting is of a server that has said Hello
abbrev pub IsOfServer : World → ForgetMessage → Type 0
IsOfServer w m = (m.boot ≤ w.boot) × IsIn (reported_by m.boot HelloMsg) w.packets

pub record Keeps (w : World) (notes : List ForgetMessage) (quarantine : List Quarantined) : Type 0 where
  pub of_servers : AllByRecursion (IsOfServer w) notes
  pub hello_said : (node : Node) → w.node ≡ Some node → IsIn (reported_by node.boot HelloMsg) w.packets
  pub rests : (node : Node) → w.node ≡ Some node → AllByRecursion (Rests w node) quarantine
  pub holds : (node : Node) → w.node ≡ Some node → AllByRecursion (NoteHolds w node) notes

-- what a change of the world leaves of it, by the places that are new
pub record Carries (w v : World) (before after : Node) (news : List Place) : Type 0 where
  pub boot : after.boot ≡ before.boot
  pub done : (key : Key) → IsDoneAt key before.stage → IsDoneAt key after.stage
  pub vacant : (key : Key) → IsDoneAt key before.stage → IsVacant key w → IsVacant key v
  pub has : (n : Named) → HasIt n w.log → IsThere n v
  pub over : (n : Named) → AllByRecursion (NotOpening n) news → IsOver w before n → IsOver v after n

pub carry_rest : (w v : World) (before after : Node) (news : List Place) → Carries w v before after news → (n : Named) → RestsThere w before n → RestsThere v after n
carry_rest w v before after news c n r = (c.done n.key r.0, ⊎_elim (λ h. c.has n h) (λ x. inr (c.vacant n.key r.0 x)) r.1)

carry_body : (w v : World) (before after : Node) (news : List Place) → Carries w v before after news → (body : ForgetBody) → AllByRecursion (NotOpening (named_of body)) news
    → BodyHolds w before body → BodyHolds v after body
carry_body w v before after news c (ForgetMsg n) fresh h = ⊎_elim (λ r. inl (carry_rest w v before after news c n r)) (λ x. inr (c.over n fresh x)) h
carry_body w v before after news c (ForgottenMsg n) fresh h = c.over n fresh h

pub carry_note : (w v : World) (before after : Node) (news : List Place) → Carries w v before after news → (m : ForgetMessage) → IsFresh before.boot news m → NoteHolds w before m → NoteHolds v after m
carry_note w v before after news c m fresh h = λ e. carry_body w v before after news c m.body (fresh (e ∙ c.boot)) (h (e ∙ c.boot))

pub rests_carried : (w v : World) (before after : Node) (news : List Place) → Carries w v before after news → (qs : List Quarantined) → AllByRecursion (Rests w before) qs → AllByRecursion (Rests v after) qs
rests_carried w v before after news c qs a = all_weaker (Rests w before) (Rests v after) qs (λ q r. carry_rest w v before after news c q.named r) a

pub notes_carried : (w v : World) (before after : Node) (news : List Place) → Carries w v before after news → (notes : List ForgetMessage) → AllByRecursion (IsFresh before.boot news) notes
    → AllByRecursion (NoteHolds w before) notes → AllByRecursion (NoteHolds v after) notes
notes_carried w v before after news c notes fresh a = all_both (IsFresh before.boot news) (NoteHolds w before) (NoteHolds v after) notes (carry_note w v before after news c) fresh a

-- where no place is new
pub all_fresh : (boot : ℕ) (notes : List ForgetMessage) → AllByRecursion (IsFresh boot []) notes
all_fresh boot notes = all_of (IsFresh boot []) notes (λ m own. tt)

-- The server does nothing

still_unasked : (key : Key) (sent : List Packet) → AllByRecursion SaysNothing sent → AllByRecursion (Unasked key) sent
still_unasked key sent a = all_weaker SaysNothing (Unasked key) sent (λ p f. f key) a

log_has_still : (before after : World) (n : Named) → (after.log ≡ before.log) ⊎ ((message : Message) × IsUnderWay before (To_logger message) × (after.log ≡ log_after before.log message))
    → HasIt n before.log → HasIt n after.log
log_has_still before after n (inl same) h = subst (HasIt n) (sym same) h
log_has_still before after n (inr (message, under, is)) h =
    let later = found_later n.key before.log.entries (log_after before.log message).entries h.0 (log_grows before.log message).entries h.1 in
    subst (HasIt n) (sym is) (later.0, later.1, later.2.cisn ∙ h.2, later.2.sisn ∙ h.3)

log_lacks_still : (before after : World) (key : Key) → (after.log ≡ before.log) ⊎ ((message : Message) × IsUnderWay before (To_logger message) × (after.log ≡ log_after before.log message))
    → IsVacant key before → entry_of key after.log ≡ None
log_lacks_still before after key (inl same) v = ap (entry_of key) same ∙ v.0
log_lacks_still before after key (inr (message, under, is)) v =
    ap (entry_of key) is ∙ stays_absent before.log message key (all_sent (Unasked key) before (To_logger message) v.1 under) v.0

log_gone_still : (before after : World) (n : Named) → (after.log ≡ before.log) ⊎ ((message : Message) × IsUnderWay before (To_logger message) × (after.log ≡ log_after before.log message))
    → IsGone n before.log → AllByRecursion (Unopened n) before.packets → IsGone n after.log
log_gone_still before after n (inl same) gone none = subst (IsGone n) (sym same) gone
log_gone_still before after n (inr (message, under, is)) gone none =
    subst (IsGone n) (sym is) (gone_still n before.log message (all_sent (Unopened n) before (To_logger message) none under) gone)

pub elsewhere_carries : (before : World) (sent : List Packet) (after : World) → Elsewhere before sent after → (node : Node) → Carries before after node node []
elsewhere_carries before sent after e node = record {
  boot = refl;
  done = λ key d. d;
  vacant = λ key d v. (
    log_lacks_still before after key e.log v,
    subst (AllByRecursion (Unasked key)) (sym e.packets) (all_append (Unasked key) before.packets sent v.1 (still_unasked key sent e.silent)),
  );
  has = λ n h. inl (log_has_still before after n e.log h);
  over = λ n fresh x. (
    log_gone_still before after n e.log x.0 x.1,
    subst (AllByRecursion (Unopened n)) (sym e.packets) (all_append (Unopened n) before.packets sent x.1 (all_weaker SaysNothing (Unopened n) sent (silent_unopened n) e.silent)),
    x.2,
    x.3,
  );
}

pub of_servers_still : (before after : World) (sent : List Packet) (notes : List ForgetMessage) → before.boot ≤ after.boot → after.packets ≡ before.packets ++ sent
    → AllByRecursion (IsOfServer before) notes → AllByRecursion (IsOfServer after) notes
of_servers_still before after sent notes low packets a =
    all_weaker (IsOfServer before) (IsOfServer after) notes
    (λ m h. (omega (arith, h.0, low), subst (IsIn (reported_by m.boot HelloMsg)) (sym packets) (in_front (reported_by m.boot HelloMsg) before.packets sent h.1))) a

pub elsewhere_kept : (before : World) (sent : List Packet) (after : World) (notes : List ForgetMessage) (quarantine : List Quarantined) → Elsewhere before sent after
    → Keeps before notes quarantine → Keeps after notes quarantine
elsewhere_kept before sent after notes quarantine e k = record {
  of_servers = of_servers_still before after sent notes (omega (arith, e.boot)) e.packets k.of_servers;
  hello_said = λ node up. subst (IsIn (reported_by node.boot HelloMsg)) (sym e.packets) (in_front (reported_by node.boot HelloMsg) before.packets sent (k.hello_said node (sym e.node ∙ up)));
  rests = λ node up. rests_carried before after node node [] (elsewhere_carries before sent after e node) quarantine (k.rests node (sym e.node ∙ up));
  holds = λ node up. notes_carried before after node node [] (elsewhere_carries before sent after e node) notes (all_fresh node.boot notes) (k.holds node (sym e.node ∙ up));
}

-- The server takes a turn

abbrev pub DoneIn : Stage → Place → Type 0
DoneIn stage (Ended key) = IsDoneAt key stage
DoneIn stage (Lives p) = Unit {0}
DoneIn stage (Opens n timestamping) = Unit {0}

among_in : (opened : ℕ) (places : List Place) (place : Place) → DoneAmong places place → DoneIn (Serving opened places) place
among_in opened places (Ended key) d = d
among_in opened places (Lives p) d = tt
among_in opened places (Opens n timestamping) d = tt

done_in : (stage : Stage) → StageDistinct stage → AllByRecursion (DoneIn stage) (places_at stage)
done_in (Serving opened places) d = all_weaker (DoneAmong places) (DoneIn (Serving opened places)) places (among_in opened places) (done_among places d)
done_in Asking d = tt
done_in (Fetching count fetched) d = tt
done_in (Fenced newer) d = tt

place_key : (place : Option Place) (key : Key) (n : Named) → ((p : Place) → place ≡ Some p → key_eq (key_of p) key ≡ true) → named_place place ≡ Some n → n.key ≡ key
place_key (Some (Lives p)) key n f e = sym (ap (λ m. m.key) (some_is _ n e)) ∙ same_key p.key key (f (Lives p) refl)
place_key (Some (Opens numbers timestamping)) key n f e = none_is_some n e
place_key (Some (Ended k)) key n f e = none_is_some n e
place_key None key n f e = none_is_some n e

fetched_key : (fetched : Option Fetched) (key : Key) (n : Named) → ((f : Fetched) → fetched ≡ Some f → key_eq f.head.key key ≡ true)
    → option_map (λ f. named_head f.head) fetched ≡ Some n → n.key ≡ key
fetched_key (Some f) key n g e = sym (ap (λ m. m.key) (some_is _ n e)) ∙ same_key f.head.key key (g f refl)
fetched_key None key n g e = none_is_some n e

pub named_key : (node : Node) (input : Input) (stage : Stage) (key : Key) (n : Named) → named_in node input stage key ≡ Some n → n.key ≡ key
named_key node input (Serving opened places) key n e = place_key (place_at key places) key n (λ p found. found_passes (λ x. key_eq (key_of x) key) places p found) e
named_key node input (Fetching count fetched) key n e =
    fetched_key (find (λ f. key_eq f.head.key key) (fetched_now node input count fetched)) key n
    (λ f found. found_passes (λ x. key_eq x.head.key key) (fetched_now node input count fetched) f found) e
named_key node input Asking key n e = none_is_some n e
named_key node input (Fenced newer) key n e = none_is_some n e

older_rests : (w : World) (node : Node) (input : Input) (q : Quarantined) → Rests w node q → Rests w node (aged input q)
older_rests w node Tick_comes q r = r
older_rests w node (Packet_comes segment) q r = r
older_rests w node (Message_comes message) q r = r
older_rests w node Noise_comes q r = r

module _ {State : Type 0} (service : Machine State) (w : World) (o : Stands service w) (notes : List ForgetMessage) (quarantine : List Quarantined) (k : Keeps w notes quarantine)
    (input : Input) (node later : Node) (sent : List Packet) (up : w.node ≡ Some node) (turn : LawfulTurn service node input sent later)
    (out : List Packet) (less : (P : Packet → Type 0) → AllByRecursion P sent → AllByRecursion P out)
    (fresh : AllByRecursion (IsFresh node.boot (new_places node input node.stage)) notes) where
  -- of what the turn sends, this goes out
  abbrev next : World
  next = record w { node = Some later; packets = w.packets ++ out }

  abbrev news : List Place
  news = new_places node input node.stage

  pub turn_carries : Carries w next node later news
  turn_carries = record {
    boot = turn.boot;
    done = λ key d. (stage_stays service key node input sent later.stage (stage_went service node later input sent turn) d).0;
    vacant = λ key d v. (
      v.0,
      all_append (Unasked key) w.packets out v.1 (less (Unasked key) (stage_stays service key node input sent later.stage (stage_went service node later input sent turn) d).1),
    );
    has = λ n h. inl h;
    over = λ n new x.
        let y = stage_over service w.log n node input sent later.stage (stage_went service node later input sent turn) new x.2 x.3 in
        (x.0, all_append (Unopened n) w.packets out x.1 (less (Unopened n) y.1), y.0.0, y.0.1);
  }

  one_rests : IsBrought w input → (key : Key) → IsDoneAt key later.stage → (q : Option Quarantined) (n : Option Named) → quarantined_at key quarantine ≡ q → named_in node input node.stage key ≡ n
      → AllByRecursion (Rests next later) (proceeds_or_begins input q n)
  one_rests brought key d (Some q) n found e =
      let was : Rests w node q = all_find (Rests w node) (λ x. key_eq x.named.key key) quarantine q (k.rests node up) found in
      (older_rests next later input q (carry_rest w next node later news turn_carries q.named was), tt)
  one_rests brought key d None (Some n) found e = (
    (
      subst (λ x. IsDoneAt x later.stage) (sym (named_key node input node.stage key n e)) d,
      inl (begun_has service w o node input node.stage key n up brought refl e),
    ),
    tt,
  )
  one_rests brought key d None None found e = tt

  place_rests : IsBrought w input → (place : Place) → DoneIn later.stage place → AllByRecursion (Rests next later) (quarantine_of node input quarantine place)
  place_rests brought (Ended key) d = one_rests brought key d (quarantined_at key quarantine) (named_in node input node.stage key) refl refl
  place_rests brought (Lives p) d = tt
  place_rests brought (Opens n timestamping) d = tt

  all_rest : IsBrought w input → StageDistinct later.stage → AllByRecursion (Rests next later) (quarantine_after node input later.stage quarantine)
  all_rest brought d =
      all_flat (DoneIn later.stage) (Rests next later) (quarantine_of node input quarantine) (places_at later.stage) (place_rests brought) (done_in later.stage d)

  forgets_hold : (wait : ℕ) (i : Input) (qs : List Quarantined) → AllByRecursion (Rests next later) qs → AllByRecursion (NoteHolds next later) (forgets wait node.boot i qs)
  forgets_hold wait Tick_comes qs a =
      all_map (NoteHolds next later) (λ q. forget node.boot q.named) (filter (is_leaving wait) qs)
      (all_filtered (Rests next later) (λ q. NoteHolds next later (forget node.boot q.named)) (is_leaving wait) qs (λ q t r e. inl r) a)
  forgets_hold wait (Packet_comes segment) qs a = tt
  forgets_hold wait (Message_comes message) qs a = tt
  forgets_hold wait Noise_comes qs a = tt

  forgets_of : (wait : ℕ) (i : Input) (qs : List Quarantined) → AllByRecursion (IsOfServer next) (forgets wait node.boot i qs)
  forgets_of wait Tick_comes qs =
      let own : node.boot ≡ w.boot = (o.fenced.node node up).boot in
      let said : IsIn (reported_by node.boot HelloMsg) (w.packets ++ out) = in_front (reported_by node.boot HelloMsg) w.packets out (k.hello_said node up) in
      let low : node.boot ≤ w.boot = omega (arith, own) in
      all_map (IsOfServer next) (λ q. forget node.boot q.named) (filter (is_leaving wait) qs) (all_of (λ q. IsOfServer next (forget node.boot q.named)) (filter (is_leaving wait) qs) (λ q. (low, said)))
  forgets_of wait (Packet_comes segment) qs = tt
  forgets_of wait (Message_comes message) qs = tt
  forgets_of wait Noise_comes qs = tt

  -- .. and what it has in quarantine is what it had
  pub turned_same : Keeps next notes quarantine
  turned_same = record {
    of_servers = of_servers_still w next out notes (omega arith) refl k.of_servers;
    hello_said = λ n e. in_front (reported_by n.boot HelloMsg) w.packets out (subst (λ b. IsIn (reported_by b HelloMsg) w.packets) (sym turn.boot ∙ ap (λ x. x.boot) (some_is later n e)) (k.hello_said node up));
    rests = λ n e. subst (λ x. AllByRecursion (Rests next x) quarantine) (some_is later n e) (rests_carried w next node later news turn_carries quarantine (k.rests node up));
    holds = λ n e. subst (λ x. AllByRecursion (NoteHolds next x) notes) (some_is later n e) (notes_carried w next node later news turn_carries notes fresh (k.holds node up));
  }

  -- .. or what it has then
  pub turned_kept : (wait : ℕ) → IsBrought w input → StageDistinct later.stage
      → Keeps next (notes ++ forgets wait node.boot input (quarantine_after node input later.stage quarantine)) (quarantine_after node input later.stage quarantine)
  turned_kept wait brought d =
      let qs : List Quarantined = quarantine_after node input later.stage quarantine in
      let rest : AllByRecursion (Rests next later) qs = all_rest brought d in
      record {
        of_servers = all_append (IsOfServer next) notes (forgets wait node.boot input qs) turned_same.of_servers (forgets_of wait input qs);
        hello_said = turned_same.hello_said;
        rests = λ n e. subst (λ x. AllByRecursion (Rests next x) qs) (some_is later n e) rest;
        holds = λ n e. subst (λ x. AllByRecursion (NoteHolds next x) (notes ++ forgets wait node.boot input qs)) (some_is later n e)
            (all_append (NoteHolds next later) notes (forgets wait node.boot input qs) (notes_carried w next node later news turn_carries notes fresh (k.holds node up)) (forgets_hold wait input qs rest));
      }

-- The server boots, or ends

pub booted_kept : (w : World) (boot isn : ℕ) (sent : List Packet) (notes : List ForgetMessage) (quarantine : List Quarantined) → w.boot < boot → sent ≡ hello (booted w.server w.profile boot isn)
    → Keeps w notes quarantine → Keeps (record w { boot = boot; node = Some (booted w.server w.profile boot isn); packets = w.packets ++ sent }) notes []
booted_kept w boot isn sent notes quarantine larger is k =
    let next : World = record w { boot = boot; node = Some (booted w.server w.profile boot isn); packets = w.packets ++ sent } in
    record {
      of_servers = of_servers_still w next sent notes (omega (arith, larger)) refl k.of_servers;
      hello_said = λ n e. subst (λ x. IsIn (reported_by x.boot HelloMsg) (w.packets ++ sent)) (some_is (booted w.server w.profile boot isn) n e)
          (subst (λ ps. IsIn (reported_by boot HelloMsg) (w.packets ++ ps)) (sym is) (in_behind (reported_by boot HelloMsg) w.packets));
      rests = λ n e. tt;
      holds = λ n e. subst (λ x. AllByRecursion (NoteHolds next x) notes) (some_is (booted w.server w.profile boot isn) n e)
          (all_weaker (IsOfServer w) (NoteHolds next (booted w.server w.profile boot isn)) notes (λ m h own. absurd (omega (arith, h.0, larger, own))) k.of_servers);
    }

pub down_kept : (w : World) (sent : List Packet) (notes : List ForgetMessage) (quarantine now : List Quarantined) → Keeps w notes quarantine
    → Keeps (record w { node = None; packets = w.packets ++ sent }) notes now
down_kept w sent notes quarantine now k = record {
  of_servers = of_servers_still w (record w { node = None; packets = w.packets ++ sent }) sent notes (omega arith) refl k.of_servers;
  hello_said = λ n e. none_is_some n e;
  rests = λ n e. none_is_some n e;
  holds = λ n e. none_is_some n e;
}
