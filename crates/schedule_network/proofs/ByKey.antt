-- An entry of a log, looked for by its key from one place on.
use Rattle.std.proofs.Common.{◌≡◌, ◌∙◌, sym, ap, subst, refl, ℕ, zero, suc, ◌+◌, ◌≤◌, true, false, cond, find, Option, Some, None, option_map, List, [], ◌∷◌, length, drop, slice_get, arith}
use Rattle.ft_io.specs.declared.Key.{Key}
use Rattle.ft_io.specs.Key.{key_eq}
use Rattle.ft_io.proofs.Numbers.{plus_one}
use Rattle.seq_arith.specs.Message.{EntryHead}
use Rattle.ft_model.specs.Log.{Entry, head_of}
use Rattle.ft_model.proofs.Lists.{none_is_some, some_is}

abbrev pub found_from : Key → List Entry → ℕ → Option Entry
found_from key es i = find (λ e. key_eq e.key key) (drop i es)

here_so : (key : Key) (es : List Entry) (i : ℕ) (e : Entry) → slice_get es i ≡ Some e → key_eq e.key key ≡ true → found_from key es i ≡ Some e
here_so key [] i e at t = none_is_some e at
here_so key (x ∷ es) zero e at t =
    let same : x ≡ e = some_is x e at in
    ap (λ b. cond b (Some x) (find (λ y. key_eq y.key key) es)) (subst (λ (y : Entry). key_eq y.key key ≡ true) (sym same) t) ∙ ap Some same
here_so key (x ∷ es) (suc i) e at t = here_so key es i e at t

later_so : (key : Key) (es : List Entry) (i : ℕ) (e : Entry) → slice_get es i ≡ Some e → key_eq e.key key ≡ false → found_from key es i ≡ found_from key es (suc i)
later_so key [] i e at f = none_is_some e at
later_so key (x ∷ es) zero e at f =
    ap (λ b. cond b (Some x) (find (λ y. key_eq y.key key) es)) (subst (λ (y : Entry). key_eq y.key key ≡ false) (sym (some_is x e at)) f)
later_so key (x ∷ es) (suc i) e at f = later_so key es i e at f

pub nothing_from : (key : Key) (es : List Entry) (i : ℕ) → length es ≤ i → found_from key es i ≡ None
nothing_from key [] zero h = refl
nothing_from key [] (suc i) h = refl
nothing_from key (x ∷ es) zero h = absurd (omega arith)
nothing_from key (x ∷ es) (suc i) h = nothing_from key es i (omega arith)

nothing_there : (key : Key) (es : List Entry) (i : ℕ) → slice_get es i ≡ None → found_from key es i ≡ None
nothing_there key [] zero h = refl
nothing_there key [] (suc i) h = refl
nothing_there key (x ∷ es) zero h = none_is_some x (sym h)
nothing_there key (x ∷ es) (suc i) h = nothing_there key es i h

-- what a head says of its entry
head_there : (o : Option Entry) (h : EntryHead) → Some h ≡ option_map head_of o → (e : Entry) × (o ≡ Some e) × (head_of e ≡ h)
head_there None h is = none_is_some h (sym is)
head_there (Some e) h is = (e, refl, some_is (head_of e) h (sym is))

none_there : (o : Option Entry) → None ≡ option_map head_of o → o ≡ None
none_there None is = refl
none_there (Some e) is = none_is_some (head_of e) is

pub found_here : (key : Key) (es : List Entry) (i : ℕ) (h : EntryHead) → Some h ≡ option_map head_of (slice_get es i) → key_eq h.key key ≡ true
    → Some h.acked ≡ option_map (λ e. e.acknowledged) (found_from key es i)
found_here key es i h is t =
    let e = head_there (slice_get es i) h is in
    sym (ap (option_map (λ (x : Entry). x.acknowledged)) (here_so key es i e.0 e.1 (subst (λ (y : EntryHead). key_eq y.key key ≡ true) (sym e.2) t)) ∙ ap (λ (y : EntryHead). Some y.acked) e.2)

pub found_later : (key : Key) (es : List Entry) (i : ℕ) (h : EntryHead) → Some h ≡ option_map head_of (slice_get es i) → key_eq h.key key ≡ false
    → found_from key es i ≡ found_from key es (i + 1)
found_later key es i h is f =
    let e = head_there (slice_get es i) h is in
    later_so key es i e.0 e.1 (subst (λ (y : EntryHead). key_eq y.key key ≡ false) (sym e.2) f) ∙ sym (ap (found_from key es) (plus_one i))

pub found_no_more : (key : Key) (es : List Entry) (i : ℕ) → None ≡ option_map head_of (slice_get es i) → found_from key es i ≡ None
found_no_more key es i is = nothing_there key es i (none_there (slice_get es i) is)
