-- Which message has an entry recycled: where it does, the entry of its key was there, and is there no more; where it doesn't, the log keeps its entries.
use Rattle.std.proofs.Common.{◌≡◌, ◌∙◌, ◌&&◌, ◌||◌, ◌==◌, Bool, true, false, true≢false, cond, find, sym, ap, subst, refl, Option, None, Some, List, [], ◌∷◌, map, if◌then◌else◌}
use Rattle.std.specs.List.{list_any}
use Rattle.ft_io.specs.declared.Key.{Key}
use Rattle.ft_io.specs.Key.{key_eq}
use Rattle.ft_model.specs.Keys.{AreDistinct, has_key}
use Rattle.ft_model.specs.Log.{Log, Entry, entry_of}
use Rattle.ft_model.proofs.Lists.{none_is_some, some_is, same_key}
use Rattle.ft_model.proofs.Keys.{found_has_key}
use Rattle.long_laws.specs.Forgetting.{Named, ForgetBody, ForgetMessage, named_of, is_recycled, forgotten_in, with_forget, after_forget}
use Rattle.long_laws.specs.Forgetting.ForgetBody.{ForgetMsg, ForgottenMsg}
use Rattle.long_laws.specs.LongTrace.{others}
use Rattle.long_laws.specs.QuarantineWorld.{key_recycled, recycled_by}

-- none is taken out
pub none_dropped : (n : Named) (es : List Entry) → list_any (is_recycled n) es ≡ false → others (is_recycled n) es ≡ es
none_dropped n [] none = refl
none_dropped n (e ∷ es) none =
    let split = or_false (is_recycled n e) (list_any (is_recycled n) es) none in
    ap (λ b. if b then others (is_recycled n) es else e ∷ others (is_recycled n) es) split.0 ∙ ap (λ l. e ∷ l) (none_dropped n es split.1)
  where
    or_false : (a b : Bool) → (a || b) ≡ false → (a ≡ false) × (b ≡ false)
    or_false false b e = (refl, e)
    or_false true b e = absurd (true≢false e)

-- an entry that is recycled has the key
its_key : (n : Named) (e : Entry) → is_recycled n e ≡ true → key_eq e.key n.key ≡ true
its_key n e t = front (key_eq e.key n.key) (e.cisn == n.cisn && e.sisn == n.sisn) e.done t
  where
    front : (a b c : Bool) → ((a && b) && c) ≡ true → a ≡ true
    front true b c t = refl
    front false b c t = t

-- where no entry has the key, none that is left has it
none_in_others : (n : Named) (es : List Entry) → has_key n.key (map (λ e. e.key) es) ≡ false → find (λ e. key_eq e.key n.key) (others (is_recycled n) es) ≡ None
none_in_others n [] none = refl
none_in_others n (e ∷ es) none = by_first (none_in_others n es split.1) (is_recycled n e) refl
  where
    or_false : (a b : Bool) → (a || b) ≡ false → (a ≡ false) × (b ≡ false)
    or_false false b e = (refl, e)
    or_false true b e = absurd (true≢false e)

    split : (key_eq e.key n.key ≡ false) × (has_key n.key (map (λ x. x.key) es) ≡ false)
    split = or_false (key_eq e.key n.key) (has_key n.key (map (λ x. x.key) es)) none

    by_first : find (λ x. key_eq x.key n.key) (others (is_recycled n) es) ≡ None → (b : Bool) → is_recycled n e ≡ b → find (λ x. key_eq x.key n.key) (others (is_recycled n) (e ∷ es)) ≡ None
    by_first later true on =
        ap (λ b. find (λ y. key_eq y.key n.key) (if b then others (is_recycled n) es else e ∷ others (is_recycled n) es)) on ∙ later
    by_first later false off =
        ap (λ b. find (λ y. key_eq y.key n.key) (if b then others (is_recycled n) es else e ∷ others (is_recycled n) es)) off
        ∙ (ap (λ b. cond b (Some e) (find (λ y. key_eq y.key n.key) (others (is_recycled n) es))) split.0 ∙ later)

-- one is taken out: it had the key, and nothing has it any more
pub one_dropped : (n : Named) (es : List Entry) → AreDistinct (map (λ e. e.key) es) → list_any (is_recycled n) es ≡ true
    → (e : Entry) × (find (λ x. key_eq x.key n.key) es ≡ Some e) × (find (λ x. key_eq x.key n.key) (others (is_recycled n) es) ≡ None)
one_dropped n [] d t = absurd (true≢false (sym t))
one_dropped n (e ∷ es) d t = by_first (λ x. one_dropped n es d.1 x) (is_recycled n e) refl
  where
    other : is_recycled n e ≡ false → (list_any (is_recycled n) es ≡ true)
    other off = ap (λ b. b || list_any (is_recycled n) es) (sym off) ∙ t

    apart : (x : Entry) → find (λ y. key_eq y.key n.key) es ≡ Some x → (b : Bool) → key_eq e.key n.key ≡ b → key_eq e.key n.key ≡ false
    apart x found false off = off
    apart x found true on =
        absurd (true≢false (sym (found_has_key (λ (y : Entry). y.key) n.key es x found) ∙ subst (λ k. has_key k (map (λ y. y.key) es) ≡ false) (same_key e.key n.key on) d.0))

    by_first : (list_any (is_recycled n) es ≡ true → (x : Entry) × (find (λ y. key_eq y.key n.key) es ≡ Some x) × (find (λ y. key_eq y.key n.key) (others (is_recycled n) es) ≡ None))
        → (b : Bool) → is_recycled n e ≡ b
        → (x : Entry) × (find (λ y. key_eq y.key n.key) (e ∷ es) ≡ Some x) × (find (λ y. key_eq y.key n.key) (others (is_recycled n) (e ∷ es)) ≡ None)
    by_first again true on =
        let its : key_eq e.key n.key ≡ true = its_key n e on in
        let alone : has_key n.key (map (λ x. x.key) es) ≡ false = subst (λ k. has_key k (map (λ x. x.key) es) ≡ false) (same_key e.key n.key its) d.0 in
        let gone : find (λ y. key_eq y.key n.key) (others (is_recycled n) es) ≡ None =
        none_in_others n es alone in (
          e,
          ap (λ b. cond b (Some e) (find (λ y. key_eq y.key n.key) es)) its,
          ap (λ b. find (λ y. key_eq y.key n.key) (if b then others (is_recycled n) es else e ∷ others (is_recycled n) es)) on ∙ gone,
        )
    by_first again false off =
        let later = again (other off) in
        let differs : key_eq e.key n.key ≡ false = apart later.0 later.1 (key_eq e.key n.key) refl in (
          later.0,
          ap (λ b. cond b (Some e) (find (λ y. key_eq y.key n.key) es)) differs ∙ later.1,
          ap (λ b. find (λ y. key_eq y.key n.key) (if b then others (is_recycled n) es else e ∷ others (is_recycled n) es)) off
              ∙ (ap (λ b. cond b (Some e) (find (λ y. key_eq y.key n.key) (others (is_recycled n) es))) differs ∙ later.2),
        )

-- What a message about forgetting has recycled: the entry of the key that it names; or nothing, and the log is as it was
pub record DroppedEntry (named key : Key) (after log : Log) : Type 0 where
  pub named_is : named ≡ key
  pub entry : Entry
  pub found : entry_of named log ≡ Some entry
  pub none : entry_of named after ≡ None

abbrev pub HasDropped : Key → (after log : Log) → Option Key → Type 0
HasDropped named after log None = after ≡ log
HasDropped named after log (Some key) = DroppedEntry named key after log

dropped_by : (n : Named) (log : Log) → AreDistinct (map (λ e. e.key) log.entries) → (b : Bool) → list_any (is_recycled n) log.entries ≡ b → (o : Option Key) → (if b then Some n.key else None) ≡ o
    → HasDropped n.key (forgotten_in n log) log o
dropped_by n log d true t None e = none_is_some n.key (sym e)
dropped_by n log d true t (Some key) e =
    let one = one_dropped n log.entries d t in
    record { named_is = some_is n.key key e; entry = one.0; found = one.1; none = one.2 }
dropped_by n log d false t None e = ap (λ (es : List Entry). let now : Log = record { boot = log.boot; entries = es } in now) (none_dropped n log.entries t)
dropped_by n log d false t (Some key) e = none_is_some key e

body_dropped : (body : ForgetBody) (log : Log) → AreDistinct (map (λ e. e.key) log.entries) → (o : Option Key) → key_recycled body log ≡ o
    → HasDropped (named_of body).key (with_forget body log) log o
body_dropped (ForgetMsg n) log d o e = dropped_by n log d (list_any (is_recycled n) log.entries) refl o e
body_dropped (ForgottenMsg n) log d None e = refl
body_dropped (ForgottenMsg n) log d (Some key) e = none_is_some key e

pub dropped_is : (message : ForgetMessage) (log : Log) → AreDistinct (map (λ e. e.key) log.entries) → (o : Option Key) → recycled_by message log ≡ o
    → HasDropped (named_of message.body).key (after_forget log message) log o
unfolding after_forget
dropped_is message log d o e = by_boot (message.boot == log.boot) o e
  where
    by_boot : (b : Bool) (o : Option Key) → (if b then key_recycled message.body log else None) ≡ o
        → HasDropped (named_of message.body).key (if b then with_forget message.body log else log) log o
    by_boot true o e = body_dropped message.body log d o e
    by_boot false None e = refl
    by_boot false (Some key) e = none_is_some key e
