-- A mark that a store keeps is told to its full log as Data without bytes: the full log then acknowledges what the log does.
use Rattle.std.proofs.Common.{◌≡◌, ◌∙◌, sym, ap, ap₂, subst, refl, ℕ, ◌<◌, ◌≤◌, ◌==◌, Bool, true, false, true≢false, nat_lt, max, find, Option, Some, None, option_map, List, [], ◌∷◌, map, arith, if◌then◌else◌}
use Rattle.std.proofs.lemmas.Bool.{or_parts}
use Rattle.std.specs.Option.{option_map_or}
use Rattle.std.specs.Prelude.{IfSome}
use Rattle.ft_io.specs.declared.Key.{Key}
use Rattle.ft_io.specs.Key.{key_eq}
use Rattle.ft_io.proofs.Choices.{by_cases, holds_if, if_false, if_true}
use Rattle.seq_arith.specs.Mark.{Mark, MarkBody, MarkMessage}
use Rattle.seq_arith.specs.Mark.MarkBody.{MarkMsg, MarkedMsg, AskMsg, HeldMsg}
use Rattle.seq_arith.specs.Message.Body.{DataMsg}
use Rattle.logger_wire.specs.MarkValue.{body_of}
use Rattle.logger_wire.specs.declared.marks.mark_msg.Mark.{Mark as ReportedMark}
use Rattle.logger_wire.specs.declared.marks.mark_msg.MarkBody.{MarkBody as Reported}
use Rattle.logger_wire.specs.declared.marks.mark_msg.MarkBody.TheVariants as reported
use Rattle.ft_model.specs.Log.{Log, Entry, entry_of, with_entry, with_part, log_after}
use Rattle.ft_model.specs.Keys.{AreDistinct, has_key}
use Rattle.ft_model.proofs.Lists.{none_is_some, some_is, same_key}
use Rattle.mark_laws.specs.MarkedLog.{MarkedLog, acknowledging, after_mark, keeps, may_follow, with_mark, with_mark_body}
use Rattle.mark_laws.proofs.Steps.{only_acknowledges, same_changes}
use Rattle.mark_store.specs.Refinement.{IsLeftOfMarked}
use Rattle.schedule_network.specs.FullLog.{StoreAndLog, AreAt, HasDistinctKeys, no_bytes}

not_below : (m n : ℕ) → m == n ≡ true → nat_lt m n ≡ false
not_below m n e = grind (arith, e)

-- in the log's own boot it is kept, ..
data_own : (log : Log) (boot : ℕ) (key : Key) (offset units : ℕ) → (boot == log.boot) ≡ true
    → log_after log (record { boot = boot; body = DataMsg (no_bytes key offset units) }) ≡ with_entry key (acknowledging units) log
unfolding log_after
data_own log boot key offset units own =
    let part = no_bytes key offset units in
    if_false (nat_lt boot log.boot) log _ (not_below boot log.boot own)
    ∙ (if_true (boot == log.boot) (with_entry key (with_part part) log) log own
    ∙ ap (λ (es : List Entry). record log { entries = es }) (same_changes key (with_part part) (acknowledging units) (only_acknowledges key offset units) log.entries))

-- .. and in another it changes nothing
data_other : (log : Log) (boot : ℕ) (key : Key) (offset units : ℕ) → (boot == log.boot) ≡ false
    → log_after log (record { boot = boot; body = DataMsg (no_bytes key offset units) }) ≡ log
unfolding log_after
data_other log boot key offset units other =
    let part = no_bytes key offset units in
    holds_if (λ l. l ≡ log) (nat_lt boot log.boot) log (if boot == log.boot then with_entry key (with_part part) log else log) (λ t. refl)
    (λ t. if_false (boot == log.boot) (with_entry key (with_part part) log) log other)

-- nobody has the key
no_entry : (key : Key) (change : Entry → Entry) (es : List Entry) → has_key key (map (λ e. e.key) es) ≡ false → map (λ e. if key_eq e.key key then change e else e) es ≡ es
no_entry key change [] h = refl
no_entry key change (e ∷ es) h =
    let parts = or_parts (key_eq e.key key) (has_key key (map (λ x. x.key) es)) h in
    ap₂ ◌∷◌ (if_false (key_eq e.key key) (change e) e parts.0) (no_entry key change es parts.1)

-- the entry of the key is changed no more
already : (units : ℕ) (e : Entry) → units ≤ e.acknowledged → acknowledging units e ≡ e
already units e h = let same : max e.acknowledged units ≡ e.acknowledged = omega arith in ap (λ (n : ℕ). record e { acknowledged = n }) same

still : (key : Key) (units : ℕ) (es : List Entry) (e : Entry) → AreDistinct (map (λ x. x.key) es) → find (λ x. key_eq x.key key) es ≡ Some e → units ≤ e.acknowledged
    → map (λ x. if key_eq x.key key then acknowledging units x else x) es ≡ es
still key units [] e d found low = none_is_some e found
still key units (x ∷ es) e d found low =
    by_cases (key_eq x.key key)
    (λ t. let is : x ≡ e = some_is x e (sym (if_true (key_eq x.key key) (Some x) (find (λ y. key_eq y.key key) es) t) ∙ found) in
    let kept : acknowledging units x ≡ x = already units x (subst (λ (y : Entry). units ≤ y.acknowledged) (sym is) low) in
    let none : has_key key (map (λ y. y.key) es) ≡ false = subst (λ k. has_key k (map (λ (y : Entry). y.key) es) ≡ false) (same_key x.key key t) d.0 in
    ap₂ ◌∷◌ (if_true (key_eq x.key key) (acknowledging units x) x t ∙ kept) (no_entry key (acknowledging units) es none))
    (λ f. ap₂ ◌∷◌ (if_false (key_eq x.key key) (acknowledging units x) x f)
    (still key units es e d.1 (sym (if_false (key_eq x.key key) (Some x) (find (λ y. key_eq y.key key) es) f) ∙ found) low))

-- an entry by its key, once it is changed
one_changed : (key : Key) (change : Entry → Entry) (e : Entry) (rest others : Option Entry) → (change e).key ≡ e.key → rest ≡ option_map change others
    → (if key_eq (if key_eq e.key key then change e else e).key key then Some (if key_eq e.key key then change e else e) else rest)
    ≡ option_map change (if key_eq e.key key then Some e else others)
one_changed key change e rest others same so =
    by_cases (key_eq e.key key)
    (λ t. let there : key_eq (change e).key key ≡ true = ap (λ k. key_eq k key) same ∙ t in
    ap (λ (b : Bool). if key_eq (if b then change e else e).key key then Some (if b then change e else e) else rest) t
    ∙ (if_true (key_eq (change e).key key) (Some (change e)) rest there ∙ sym (ap (λ (b : Bool). option_map change (if b then Some e else others)) t)))
    (λ f. ap (λ (b : Bool). if key_eq (if b then change e else e).key key then Some (if b then change e else e) else rest) f
    ∙ (if_false (key_eq e.key key) (Some e) rest f ∙ (so ∙ sym (ap (λ (b : Bool). option_map change (if b then Some e else others)) f))))

found_changed : (key : Key) (change : Entry → Entry) → ((e : Entry) → (change e).key ≡ e.key) → (es : List Entry)
    → find (λ e. key_eq e.key key) (map (λ e. if key_eq e.key key then change e else e) es) ≡ option_map change (find (λ e. key_eq e.key key) es)
found_changed key change same [] = refl
found_changed key change same (e ∷ es) = one_changed key change e _ _ (same e) (found_changed key change same es)

-- A mark of a key in a message of this boot, and the log after it
abbrev pub marking : (boot : ℕ) → Key → Mark → MarkMessage
marking boot key m = record { boot = boot; body = MarkMsg key m }

-- it is kept, or nothing changes
pub data Taken (l : MarkedLog) (boot : ℕ) (key : Key) (m : Mark) : Type 0 where
  is_kept : (boot == l.log.boot) ≡ true → keeps key m l ≡ true → (after_mark l (marking boot key m)).log ≡ with_entry key (acknowledging m.made) l.log → Taken l boot key m
  is_left : (after_mark l (marking boot key m)).log ≡ l.log → Taken l boot key m

taken : (l : MarkedLog) (boot : ℕ) (key : Key) (m : Mark) → Taken l boot key m
unfolding after_mark
taken l boot key m =
    by_cases (boot == l.log.boot)
    (λ own. let is : (if boot == l.log.boot then with_mark_body (MarkMsg key m) l else l) ≡ with_mark_body (MarkMsg key m) l = if_true (boot == l.log.boot) (with_mark_body (MarkMsg key m) l) l own in
    by_cases (keeps key m l)
    (λ k. is_kept own k (ap (λ (x : MarkedLog). x.log) (is ∙ if_true (keeps key m l) (with_mark key m l) l k)))
    (λ f. is_left (ap (λ (x : MarkedLog). x.log) (is ∙ if_false (keeps key m l) (with_mark key m l) l f))))
    (λ other. is_left (ap (λ (x : MarkedLog). x.log) (if_false (boot == l.log.boot) (with_mark_body (MarkMsg key m) l) l other)))

abbrev pub acked_of : Option Entry → Option ℕ
acked_of o = option_map (λ e. e.acknowledged) o

-- the entry whose mark is kept is known
known : (l : MarkedLog) (key : Key) (m : Mark) (o : Option Entry) → option_map_or (may_follow (l.marks key) m) o false ≡ true → (e : Entry) × (o ≡ Some e)
known l key m None k = absurd (true≢false (sym k))
known l key m (Some e) k = (e, refl)

acked : (o : Option Entry) (units : ℕ) → acked_of o ≡ Some units → (e : Entry) × (o ≡ Some e) × (e.acknowledged ≡ units)
acked None units h = none_is_some units h
acked (Some e) units h = (e, refl, some_is e.acknowledged units h)

-- Where the store then acknowledges as much as the mark says is made, the full log gets the Data
pub enters : (l : MarkedLog) (boot : ℕ) (key : Key) (m : Mark) (offset units : ℕ) → HasDistinctKeys l → acked_of (entry_of key (after_mark l (marking boot key m)).log) ≡ Some units
    → m.made ≤ units → log_after l.log (record { boot = boot; body = DataMsg (no_bytes key offset m.made) }) ≡ (after_mark l (marking boot key m)).log
enters l boot key m offset units d h low = by_taken (taken l boot key m)
  where
    by_taken : Taken l boot key m → log_after l.log (record { boot = boot; body = DataMsg (no_bytes key offset m.made) }) ≡ (after_mark l (marking boot key m)).log
    by_taken (is_kept own k is) = data_own l.log boot key offset m.made own ∙ sym is
    by_taken (is_left is) =
        by_cases (boot == l.log.boot)
        (λ own. let e = acked (entry_of key l.log) units (ap (λ (x : Log). acked_of (entry_of key x)) (sym is) ∙ h) in
        let enough : m.made ≤ e.0.acknowledged = subst (λ n. m.made ≤ n) (sym e.2) low in
        data_own l.log boot key offset m.made own ∙ (ap (λ (es : List Entry). record l.log { entries = es }) (still key m.made l.log.entries e.0 d e.1 enough) ∙ sym is))
        (λ other. data_other l.log boot key offset m.made other ∙ sym is)

-- .. and else the store has kept nothing
pub enters_not : (l : MarkedLog) (boot : ℕ) (key : Key) (m : Mark) (o : Option ℕ) → acked_of (entry_of key (after_mark l (marking boot key m)).log) ≡ o → IfSome o (λ units. units < m.made)
    → l.log ≡ (after_mark l (marking boot key m)).log
enters_not l boot key m o h less = by_taken (taken l boot key m)
  where
    too_few : (o : Option ℕ) (n : ℕ) → Some n ≡ o → m.made ≤ n → IfSome o (λ units. units < m.made) → ⊥
    too_few None n e high low = none_is_some n (sym e)
    too_few (Some units) n e high low = let same : n ≡ units = some_is n units e in absurd (omega (arith, high, low, same))

    by_taken : Taken l boot key m → l.log ≡ (after_mark l (marking boot key m)).log
    by_taken (is_left is) = sym is
    by_taken (is_kept own k is) =
        let e = known l key m (entry_of key l.log) k in
        let there : entry_of key (after_mark l (marking boot key m)).log ≡ Some (acknowledging m.made e.0) =
        ap (entry_of key) is ∙ (found_changed key (acknowledging m.made) (λ x. refl) l.log.entries ∙ ap (option_map (acknowledging m.made)) e.1) in
        let high : m.made ≤ max e.0.acknowledged m.made = omega arith in
        absurd (too_few o (max e.0.acknowledged m.made) (sym (ap acked_of there) ∙ h) high less)

-- any other message about marks changes nothing
abbrev pub is_mark : MarkBody → Bool
is_mark (MarkMsg key m) = true
is_mark _ = false

pub other_body : (b : Reported) → ((key : Key) (mark : ReportedMark) → b ≡ reported.Mark key mark → ⊥) → is_mark (body_of b) ≡ false
other_body (reported.Mark key mark) other = absurd (other key mark refl)
other_body (reported.Marked key reads) other = refl
other_body (reported.Ask key) other = refl
other_body (reported.Held key mark) other = refl

others_stay : (l : MarkedLog) (body : MarkBody) → is_mark body ≡ false → with_mark_body body l ≡ l
others_stay l (MarkMsg key m) e = absurd (true≢false e)
others_stay l (MarkedMsg key reads) e = refl
others_stay l (AskMsg key) e = refl
others_stay l (HeldMsg key m) e = refl

pub stays : (l : MarkedLog) (message : MarkMessage) → is_mark message.body ≡ false → after_mark l message ≡ l
unfolding after_mark
stays l message e = holds_if (λ (x : MarkedLog). x ≡ l) (message.boot == l.log.boot) (with_mark_body message.body l) l (λ t. others_stay l message.body e) (λ t. refl)

-- So, once the store has taken a message about marks, the full log is the log's after it
pub entered : (both after : StoreAndLog) (l : MarkedLog) (message : MarkMessage) (boot : ℕ) (key : Key) (m : Mark) (offset units : ℕ) → message ≡ marking boot key m
    → IsLeftOfMarked both.store (after_mark l message) → both.full_log ≡ l.log → HasDistinctKeys l → acked_of (entry_of key (after_mark l message).log) ≡ Some units → m.made ≤ units
    → after ≡ record both { full_log = log_after both.full_log (record { boot = boot; body = DataMsg (no_bytes key offset m.made) }) } → AreAt after (after_mark l message)
entered both after l message boot key m offset units is left full_log d acked_is low e =
    let reported : acked_of (entry_of key (after_mark l (marking boot key m)).log) ≡ Some units = subst (λ x. acked_of (entry_of key (after_mark l x).log) ≡ Some units) is acked_is in
    subst (λ x. AreAt x (after_mark l message)) (sym e)
    (record {
      left = left;
      full_log = ap (λ x. log_after x (record { boot = boot; body = DataMsg (no_bytes key offset m.made) })) full_log
          ∙ (enters l boot key m offset units d reported low ∙ ap (λ x. (after_mark l x).log) (sym is));
    })

pub not_entered : (both : StoreAndLog) (l : MarkedLog) (message : MarkMessage) (boot : ℕ) (key : Key) (m : Mark) (o : Option ℕ) → message ≡ marking boot key m
    → IsLeftOfMarked both.store (after_mark l message) → both.full_log ≡ l.log → acked_of (entry_of key (after_mark l message).log) ≡ o → IfSome o (λ units. units < m.made)
    → AreAt both (after_mark l message)
not_entered both l message boot key m o is left full_log acked_is less =
    let reported : acked_of (entry_of key (after_mark l (marking boot key m)).log) ≡ o = subst (λ x. acked_of (entry_of key (after_mark l x).log) ≡ o) is acked_is in
    record { left = left; full_log = full_log ∙ (enters_not l boot key m o reported less ∙ ap (λ x. (after_mark l x).log) (sym is)) }

pub unmarked : (both : StoreAndLog) (l : MarkedLog) (message : MarkMessage) → is_mark message.body ≡ false → IsLeftOfMarked both.store (after_mark l message) → both.full_log ≡ l.log
    → AreAt both (after_mark l message)
unmarked both l message none left full_log = record { left = left; full_log = full_log ∙ ap (λ (x : MarkedLog). x.log) (sym (stays l message none)) }
