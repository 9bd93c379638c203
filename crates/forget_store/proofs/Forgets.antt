-- The one entry that a Forget names, if it is done, is the one that the definitions take out.
use Rattle.std.proofs.Common.{◌≡◌, ◌∙◌, ⊎_elim, ◌≤◌, Bool, true, false, not, ◌==◌, ◌&&◌, ◌||◌, refl, sym, ap, ap₂, arith, true≢false, eq-eqb, Option, Some, None, option_map, find, filter, List, [], ◌∷◌, length, map}
use Rattle.std.proofs.lemmas.Bool.{and_from, or_parts}
use Rattle.std.specs.List.{list_any}
use Rattle.std.specs.Option.{option_map_or}
use Rattle.ft_io.specs.Key.{key_eq}
use Rattle.ft_io.proofs.Choices.{if_true, if_false, same_some}
use Rattle.seq_arith.specs.Message.{EntryHead}
use Rattle.ft_model.specs.Keys.{has_key, AreDistinct}
use Rattle.ft_model.specs.Log.{Log, Entry, entry_of, head_of}
use Rattle.ft_model.proofs.Lists.{none_is_some, some_is, found_passes}
use Rattle.long_laws.specs.LongTrace.{others}
use Rattle.long_laws.specs.Forgetting.{Named, is_entry_of, is_recycled, forgotten_in}
use Rattle.long_laws.proofs.Forgets.{either, RecyclesOne, no_key}

-- the entry whose head was read
pub record HasHead (h : EntryHead) (o : Option Entry) : Type 0 where
  pub entry : Entry
  pub there : o ≡ Some entry
  pub head : h ≡ head_of entry

pub headed : (h : EntryHead) (o : Option Entry) → Some h ≡ option_map head_of o → HasHead h o
headed h None is = none_is_some h (sym is)
headed h (Some e) is = record { entry = e; there = refl; head = same_some is }

pub headless : (o : Option Entry) → None ≡ option_map head_of o → o ≡ None
headless None is = refl
headless (Some e) is = none_is_some (head_of e) is

-- the test of an entry's numbers
abbrev pub has_its_numbers : Named → Entry → Bool
has_its_numbers n e = e.cisn == n.cisn && e.sisn == n.sisn

whole : (n : Named) (log : Log) → others (is_recycled n) log.entries ≡ log.entries → log ≡ forgotten_in n log
whole n log same = sym (ap (λ (es : List Entry). let l : Log = record { boot = log.boot; entries = es } in l) same)

-- no entry has the key
pub none_recycled : (n : Named) (log : Log) → AreDistinct (map (λ e. e.key) log.entries) → entry_of n.key log ≡ None → log ≡ forgotten_in n log
none_recycled n log d none = ⊎_elim (λ same. whole n log same) (λ r. none_is_some r.entry (sym none ∙ r.found)) (either n log.entries d)

-- its entry has other numbers, or isn't done
pub spared : (n : Named) (log : Log) (e : Entry) → AreDistinct (map (λ e. e.key) log.entries) → entry_of n.key log ≡ Some e → (has_its_numbers n e && e.done) ≡ false
    → log ≡ forgotten_in n log
spared n log e d found other = ⊎_elim (λ same. whole n log same) on (either n log.entries d)
  where
    on : RecyclesOne n log.entries → log ≡ forgotten_in n log
    on r =
        let here : e ≡ r.entry = some_is e r.entry (sym found ∙ r.found) in
        let cisn = eq-eqb e.cisn n.cisn (ap (λ x. x.cisn) here ∙ r.cisn) in
        let sisn = eq-eqb e.sisn n.sisn (ap (λ x. x.sisn) here ∙ r.sisn) in
        absurd (true≢false (sym (and_from _ _ (and_from _ _ cisn sisn) (ap (λ x. x.done) here ∙ r.done)) ∙ other))

pub shorter : (q : Entry → Bool) (es : List Entry) → length (others q es) ≤ length es
shorter q [] = omega arith
shorter q (x ∷ es) = go (q x) refl (shorter q es)
  where
    go : (b : Bool) → q x ≡ b → length (others q es) ≤ length es → length (others q (x ∷ es)) ≤ length (x ∷ es)
    go true is rest = let one = ap length (if_true (q x) (others q es) (x ∷ others q es) is) in omega (arith, one, rest)
    go false is rest = let one = ap length (if_false (q x) (others q es) (x ∷ others q es) is) in omega (arith, one, rest)

-- something is taken out
not_whole : (n : Named) (e : Entry) (es : List Entry) → find (λ x. key_eq x.key n.key) es ≡ Some e → is_recycled n e ≡ true → others (is_recycled n) es ≡ es → ⊥
not_whole n e [] found is same = none_is_some e found
not_whole n e (x ∷ es) found is same = on (key_eq x.key n.key) (is_recycled n x) refl refl (λ f s. not_whole n e es f is s)
  where
    on : (k q : Bool) → key_eq x.key n.key ≡ k → is_recycled n x ≡ q → (find (λ x. key_eq x.key n.key) es ≡ Some e → others (is_recycled n) es ≡ es → ⊥) → ⊥
    on k true its out rest =
        let one = ap length (sym (if_true (is_recycled n x) (others (is_recycled n) es) (x ∷ others (is_recycled n) es) out) ∙ same) in
        absurd (omega (arith, one, shorter (is_recycled n) es))
    on true false its out rest =
        let here : x ≡ e = some_is x e (sym (if_true (key_eq x.key n.key) (Some x) (find (λ x. key_eq x.key n.key) es) its) ∙ found) in
        absurd (true≢false (sym (ap (is_recycled n) here ∙ is) ∙ out))
    on false false its out rest =
        let both : x ∷ others (is_recycled n) es ≡ x ∷ es = sym (if_false (is_recycled n x) (others (is_recycled n) es) (x ∷ others (is_recycled n) es) out) ∙ same in
        rest (sym (if_false (key_eq x.key n.key) (Some x) (find (λ x. key_eq x.key n.key) es) its) ∙ found) cc

-- two ways to leave entries out
pub left_out : (q : Entry → Bool) (es : List Entry) → filter (λ e. not (q e)) es ≡ others q es
left_out q [] = refl
left_out q (x ∷ es) = go (q x) refl (left_out q es)
  where
    go : (b : Bool) → q x ≡ b → filter (λ e. not (q e)) es ≡ others q es → filter (λ e. not (q e)) (x ∷ es) ≡ others q (x ∷ es)
    go true is rest = rw is rest
    go false is rest = rw is (ap (λ xs. x ∷ xs) rest)

-- its entry goes
pub recycled : (n : Named) (log : Log) (e : Entry) → AreDistinct (map (λ e. e.key) log.entries) → entry_of n.key log ≡ Some e → (has_its_numbers n e && e.done) ≡ true
    → record log { entries = filter (λ e. not (key_eq e.key n.key)) log.entries } ≡ forgotten_in n log
recycled n log e d found its = ⊎_elim (λ same. absurd (not_whole n e log.entries found is same)) on (either n log.entries d)
  where
    is : is_recycled n e ≡ true
    is = let key : key_eq e.key n.key ≡ true = found_passes (λ x. key_eq x.key n.key) log.entries e found in rw key its

    on : RecyclesOne n log.entries → record log { entries = filter (λ e. not (key_eq e.key n.key)) log.entries } ≡ forgotten_in n log
    on r = ap (λ (es : List Entry). let l : Log = record { boot = log.boot; entries = es } in l) (left_out (λ e. key_eq e.key n.key) log.entries ∙ sym r.rest)

none_named : (n : Named) (es : List Entry) → has_key n.key (map (λ e. e.key) es) ≡ false → list_any (is_entry_of n) es ≡ false
none_named n [] none = refl
none_named n (x ∷ es) none =
    let parts = or_parts (key_eq x.key n.key) (has_key n.key (map (λ e. e.key) es)) none in
    ap₂ ◌||◌ (ap (λ b. b && has_its_numbers n x) parts.0) (none_named n es parts.1)

-- the log has a connection's entry if the entry of its key has its numbers
pub has_its_entry : (n : Named) (es : List Entry) → AreDistinct (map (λ e. e.key) es)
    → list_any (is_entry_of n) es ≡ option_map_or (has_its_numbers n) (find (λ e. key_eq e.key n.key) es) false
has_its_entry n [] d = refl
has_its_entry n (x ∷ es) d = go (key_eq x.key n.key) refl (has_its_entry n es d.1)
  where
    or_none : (b : Bool) → (b || false) ≡ b
    or_none true = refl
    or_none false = refl

    go : (b : Bool) → key_eq x.key n.key ≡ b → list_any (is_entry_of n) es ≡ option_map_or (has_its_numbers n) (find (λ e. key_eq e.key n.key) es) false
        → list_any (is_entry_of n) (x ∷ es) ≡ option_map_or (has_its_numbers n) (find (λ e. key_eq e.key n.key) (x ∷ es)) false
    go true its rest = rw (its, none_named n es (no_key n x es d its)) (or_none (has_its_numbers n x))
    go false its rest = rw its rest
