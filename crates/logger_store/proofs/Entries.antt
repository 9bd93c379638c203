-- The entries of the log in the store's map: each key names one of them.
use Rattle.std.proofs.Common.{◌≡◌, ◌∙◌, ℕ, Bool, true, false, ◌||◌, refl, sym, ap, ap₂, subst, arith, List, [], ◌∷◌, ◌++◌, length, ◌≤◌, ◌<◌, ◌+◌, map, cond, Some, None, Option, find, is_some, true≢false, if◌then◌else◌}
use Rattle.std.specs.List.{AllByRecursion, IsDistinct, list_any}
use Rattle.std.specs.Map.{lookup, set_value, keys_of, values_of}
use Rattle.std.proofs.lemmas.List.{map-append}
use Rattle.std.proofs.lemmas.Map.{keys-set_value, length-set_value}
use Rattle.std.proofs.lemmas.Map.Entries.{length-values_of}
use Rattle.ft_io.specs.declared.Key.{Key}
use Rattle.ft_io.specs.Key.{key_eq}
use Rattle.seq_arith.specs.Message.{Numbers}
use Rattle.ft_model.specs.Log.{Log, Entry, with_entry, entry_of, opened, new_entry}
use Rattle.indexmap.specs.IndexMap.{insert_entry}
use Rattle.indexmap.proofs.MapLemmas.{absent_from_lookup, insert_entry-absent}
use Rattle.std.proofs.lemmas.Map.Steps.{set_value_same}
use Rattle.std.proofs.lemmas.Bool.{leb-false, or_parts}
use Rattle.std.proofs.lemmas.List.{length-append}
use Rattle.std.specs.Prelude.{nat_le}
use Rattle.ft_io.proofs.Choices.{same_some}
use Rattle.ft_model.proofs.PlayableLemmas.{same_either_way}
use Rattle.ft_model.proofs.Lists.{same_key}
use Rattle.ft_model.proofs.SomeOutcome.{is_none}

-- what a test finds by an entry's own key
abbrev has_key : Key → Entry → Bool
has_key key e = key_eq e.key key

-- the keys of a map's entries are those in its values
abbrev pub AreKept : List (Key × Entry) → Type 0
AreKept es = keys_of es ≡ map (λ e. e.key) (values_of es)

pub first_kept : (e : Key × Entry) (es : List (Key × Entry)) → AreKept (e ∷ es) → e.0 ≡ e.1.key
first_kept e es kept = cc

pub rest_kept : (e : Key × Entry) (es : List (Key × Entry)) → AreKept (e ∷ es) → AreKept es
rest_kept e es kept = cc

-- the map finds the entry of a key
pub found : (key : Key) (es : List (Key × Entry)) → AreKept es → find (has_key key) (values_of es) ≡ lookup (key_eq key) es
found key [] kept = refl
found key (e ∷ es) kept =
    let same : key_eq e.1.key key ≡ key_eq key e.0 = ap (λ k. key_eq k key) (sym (first_kept e es kept)) ∙ same_either_way e.0 key in
    ap (λ b. cond b (Some e.1) (find (has_key key) (values_of es))) same ∙ ap (cond (key_eq key e.0) (Some e.1)) (found key es (rest_kept e es kept))

-- .. and says whether there is one
pub known : (key : Key) (es : List (Key × Entry)) → AreKept es → list_any (has_key key) (values_of es) ≡ is_some (lookup (key_eq key) es)
known key [] kept = refl
known key (e ∷ es) kept =
    let same : key_eq e.1.key key ≡ key_eq key e.0 = ap (λ k. key_eq k key) (sym (first_kept e es kept)) ∙ same_either_way e.0 key in
    ap (λ b. b || list_any (has_key key) (values_of es)) same
    ∙ (ap (λ b. key_eq key e.0 || b) (known key es (rest_kept e es kept)) ∙ or_some (key_eq key e.0) e.1 (lookup (key_eq key) es))
  where
    or_some : (b : Bool) (x : Entry) (o : Option Entry) → (b || is_some o) ≡ is_some (cond b (Some x) o)
    or_some true x o = refl
    or_some false x o = refl

-- a change of the entries of a key
abbrev pub changed : Key → (Entry → Entry) → List Entry → List Entry
changed key change es = map (λ e. if key_eq e.key key then change e else e) es

-- none of another key is changed
others_stay : (key : Key) (change : Entry → Entry) (es : List (Key × Entry)) → AreKept es → AllByRecursion (λ k. key_eq key k ≡ false) (keys_of es)
    → changed key change (values_of es) ≡ values_of es
others_stay key change [] kept none = refl
others_stay key change (e ∷ es) kept none =
    let other : key_eq e.1.key key ≡ false = ap (λ k. key_eq k key) (sym (first_kept e es kept)) ∙ (same_either_way e.0 key ∙ none.0) in
    ap₂ ◌∷◌ (ap (λ b. if b then change e.1 else e.1) other) (others_stay key change es (rest_kept e es kept) none.1)

-- a look-up that finds nothing finds none of the keys
pub none_found : (key : Key) (es : List (Key × Entry)) → lookup (key_eq key) es ≡ None → AllByRecursion (λ k. key_eq key k ≡ false) (keys_of es)
none_found key [] e = tt
none_found key (x ∷ es) e = go (key_eq key x.0) refl (none_found key es)
  where
    go : (b : Bool) → key_eq key x.0 ≡ b → (lookup (key_eq key) es ≡ None → AllByRecursion (λ k. key_eq key k ≡ false) (keys_of es))
        → AllByRecursion (λ k. key_eq key k ≡ false) (keys_of (x ∷ es))
    go true t rest = absurd (true≢false (ap is_some (sym (ap (λ b. cond b (Some x.1) (lookup (key_eq key) es)) t) ∙ e)))
    go false t rest = (t, rest (sym (ap (λ b. cond b (Some x.1) (lookup (key_eq key) es)) t) ∙ e))

pub none_changed : (key : Key) (change : Entry → Entry) (es : List (Key × Entry)) → AreKept es → lookup (key_eq key) es ≡ None
    → values_of es ≡ changed key change (values_of es)
none_changed key change es kept e = sym (others_stay key change es kept (none_found key es e))

-- the entry of a key is changed where it stands
pub one_changed : (key : Key) (change : Entry → Entry) (was now : Entry) (es : List (Key × Entry)) → AreKept es → IsDistinct key_eq (keys_of es)
    → lookup (key_eq key) es ≡ Some was → now ≡ change was → values_of (set_value (key_eq key) es now) ≡ changed key change (values_of es)
unfolding IsDistinct
one_changed key change was now [] kept distinct found is = absurd (true≢false (sym (ap is_some found)))
one_changed key change was now (e ∷ es) kept distinct found is =
    go (key_eq key e.0) refl (λ f. one_changed key change was now es (rest_kept e es kept) distinct.1 f is)
  where
    same : key_eq e.1.key key ≡ key_eq key e.0
    same = ap (λ k. key_eq k key) (sym (first_kept e es kept)) ∙ same_either_way e.0 key

    go : (b : Bool) → key_eq key e.0 ≡ b
        → (lookup (key_eq key) es ≡ Some was → values_of (set_value (key_eq key) es now) ≡ changed key change (values_of es))
        → values_of (set_value (key_eq key) (e ∷ es) now) ≡ changed key change (values_of (e ∷ es))
    go true t rest =
        let here : e.1 ≡ was = same_some (sym (ap (λ b. cond b (Some e.1) (lookup (key_eq key) es)) t) ∙ found) in
        let others = subst (λ k. AllByRecursion (λ y. key_eq k y ≡ false) (keys_of es)) (sym (same_key key e.0 t)) distinct.0 in
        ap (λ b. values_of (cond b ((e.0, now) ∷ es) (e ∷ set_value (key_eq key) es now))) t
        ∙ ap₂ ◌∷◌ (is ∙ (ap change (sym here) ∙ ap (λ b. if b then change e.1 else e.1) (sym (same ∙ t))))
        (sym (others_stay key change es (rest_kept e es kept) others))
    go false t rest =
        ap (λ b. values_of (cond b ((e.0, now) ∷ es) (e ∷ set_value (key_eq key) es now))) t
        ∙ ap₂ ◌∷◌ (ap (λ b. if b then change e.1 else e.1) (sym (same ∙ t)))
        (rest (sym (ap (λ b. cond b (Some e.1) (lookup (key_eq key) es)) t) ∙ found))

-- the keys stay where an entry keeps its own
own_keys : (test : Key → Bool) (was now : Entry) (es : List (Key × Entry)) → lookup test es ≡ Some was → now.key ≡ was.key
    → map (λ e. e.key) (values_of (set_value test es now)) ≡ map (λ e. e.key) (values_of es)
own_keys test was now [] found is = refl
own_keys test was now (e ∷ es) found is = go (test e.0) refl (λ f. own_keys test was now es f is)
  where
    go : (b : Bool) → test e.0 ≡ b
        → (lookup test es ≡ Some was → map (λ x. x.key) (values_of (set_value test es now)) ≡ map (λ x. x.key) (values_of es))
        → map (λ x. x.key) (values_of (set_value test (e ∷ es) now)) ≡ map (λ x. x.key) (values_of (e ∷ es))
    go true t rest =
        let here : e.1 ≡ was = same_some (sym (ap (λ b. cond b (Some e.1) (lookup test es)) t) ∙ found) in
        ap (λ b. map (λ x. x.key) (values_of (cond b ((e.0, now) ∷ es) (e ∷ set_value test es now)))) t
        ∙ ap (λ k. k ∷ map (λ x. x.key) (values_of es)) (is ∙ ap (λ x. x.key) (sym here))
    go false t rest =
        ap (λ b. map (λ x. x.key) (values_of (cond b ((e.0, now) ∷ es) (e ∷ set_value test es now)))) t
        ∙ ap (λ ks. e.1.key ∷ ks) (rest (sym (ap (λ b. cond b (Some e.1) (lookup test es)) t) ∙ found))

pub still_kept : (test : Key → Bool) (was now : Entry) (es : List (Key × Entry)) → lookup test es ≡ Some was → now.key ≡ was.key → AreKept es
    → AreKept (set_value test es now)
still_kept test was now es found is kept = keys-set_value test es now ∙ (kept ∙ sym (own_keys test was now es found is))

pub still_few : (test : Key → Bool) (now : Entry) (es : List (Key × Entry)) → length (values_of es) ≤ 64 → length (values_of (set_value test es now)) ≤ 64
still_few test now es few =
    subst (λ n. n ≤ 64) (sym (length-values_of (set_value test es now) ∙ (length-set_value test es now ∙ sym (length-values_of es)))) few

-- one entry more
pub one_more : (es : List (Key × Entry)) (key : Key) (entry : Entry) → values_of (es ++ (key, entry) ∷ []) ≡ values_of es ++ entry ∷ []
one_more es key entry = map-append (λ e. e.1) es ((key, entry) ∷ [])

pub kept_more : (es : List (Key × Entry)) (key : Key) (entry : Entry) → AreKept es → key ≡ entry.key → AreKept (es ++ (key, entry) ∷ [])
kept_more es key entry kept is =
    map-append (λ e. e.0) es ((key, entry) ∷ [])
    ∙ (ap₂ ◌++◌ kept (ap (λ k. k ∷ []) is)
    ∙ (sym (map-append (λ e. e.key) (values_of es) (entry ∷ [])) ∙ ap (map (λ e. e.key)) (sym (one_more es key entry))))

-- the log in a map
abbrev pub log_of : ℕ → List (Key × Entry) → Log
log_of boot es = record { boot = boot; entries = values_of es }

pub written : (boot : ℕ) (es after : List (Key × Entry)) (key : Key) (change : Entry → Entry) (was now : Entry) → AreKept es → IsDistinct key_eq (keys_of es)
    → lookup (key_eq key) es ≡ Some was → after ≡ set_value (key_eq key) es now → now ≡ change was → log_of boot after ≡ with_entry key change (log_of boot es)
written boot es after key change was now kept distinct found wrote is =
    ap (log_of boot) wrote ∙ ap (λ xs. let log : Log = record { boot = boot; entries = xs } in log) (one_changed key change was now es kept distinct found is)

pub unwritten : (boot : ℕ) (es after : List (Key × Entry)) (test : Key → Bool) (was now : Entry) → lookup test es ≡ Some was → after ≡ set_value test es now → now ≡ was
    → log_of boot after ≡ log_of boot es
unwritten boot es after test was now found wrote is =
    ap (log_of boot) (wrote ∙ (ap (set_value test es) is ∙ set_value_same test es was found))

pub absent : (boot : ℕ) (es after : List (Key × Entry)) (key : Key) (change : Entry → Entry) → AreKept es → lookup (key_eq key) es ≡ None → after ≡ es
    → log_of boot after ≡ with_entry key change (log_of boot es)
absent boot es after key change kept nothing same =
    ap (log_of boot) same ∙ ap (λ xs. let log : Log = record { boot = boot; entries = xs } in log) (none_changed key change es kept nothing)

pub map_kept : (es after : List (Key × Entry)) (test : Key → Bool) (was now : Entry) → AreKept es → length (values_of es) ≤ 64 → lookup test es ≡ Some was
    → after ≡ set_value test es now → now.key ≡ was.key → AreKept after × (length (values_of after) ≤ 64)
map_kept es after test was now kept few found wrote is =
    subst (λ xs. AreKept xs × (length (values_of xs) ≤ 64)) (sym wrote) (still_kept test was now es found is kept, still_few test now es few)

-- the entry of a key, in the log and in the map
pub there : (log : Log) (boot : ℕ) (es : List (Key × Entry)) (key : Key) (was : Entry) → AreKept es → log_of boot es ≡ log → lookup (key_eq key) es ≡ Some was
    → entry_of key log ≡ Some was
there log boot es key was kept is found_there = ap (entry_of key) (sym is) ∙ (found key es kept ∙ found_there)

-- what is found is there
pub any_found : (test : Entry → Bool) (es : List Entry) → list_any test es ≡ is_some (find test es)
any_found test [] = refl
any_found test (e ∷ es) = ap (λ b. test e || b) (any_found test es) ∙ or_some (test e) e (find test es)
  where
    or_some : (b : Bool) (x : Entry) (o : Option Entry) → (b || is_some o) ≡ is_some (cond b (Some x) o)
    or_some true x o = refl
    or_some false x o = refl

-- an entry of another key is added last
pub opening : (boot : ℕ) (es after : List (Key × Entry)) (n : Numbers) → AreKept es
    → (list_any (λ e. key_eq e.key n.key) (values_of es) || nat_le 64 (length (values_of es))) ≡ false → after ≡ insert_entry key_eq es n.key (new_entry n)
    → (AreKept after × (length (values_of after) ≤ 64)) × (log_of boot after ≡ opened n (log_of boot es))
opening boot es after n kept room added =
    let parts = or_parts _ _ room in
    let nothing : lookup (key_eq n.key) es ≡ None = is_none _ (sym (known n.key es kept) ∙ parts.0) in
    let last : after ≡ es ++ (n.key, new_entry n) ∷ [] = added ∙ insert_entry-absent key_eq n.key (new_entry n) es (absent_from_lookup (key_eq n.key) es nothing) in
    let values : values_of after ≡ values_of es ++ new_entry n ∷ [] = ap values_of last ∙ one_more es n.key (new_entry n) in
    let few : length (values_of es) < 64 = leb-false 64 (length (values_of es)) parts.1 in
    let count : length (values_of after) ≡ length (values_of es) + 1 = ap length values ∙ length-append (values_of es) (new_entry n ∷ []) in (
      (subst AreKept (sym last) (kept_more es n.key (new_entry n) kept refl), omega (arith, few, count)),
      ap (λ xs. let log : Log = record { boot = boot; entries = xs } in log) values
          ∙ sym (ap (λ b. if b then log_of boot es else record (log_of boot es) { entries = values_of es ++ new_entry n ∷ [] }) room),
    )
