-- The premise on what a death leaves, at a moment at which only one file may have the name.
use Rattle.std.proofs.Common.{◌≡◌, ◌∙◌, inl, inr, ℕ, Bool, true, false, Some, refl, ap, subst, List, [], ◌∷◌, ◌++◌}
use Rattle.forget_store.specs.declared.heeding.Heeded.{Heeded}
use Rattle.disk.specs.Remains.{IsFrontOf}
use Rattle.disk.specs.declared.calls.DiskCall.{DiskCall}
use Rattle.disk.specs.declared.calls.DiskCall.TheVariants.{Appended, Put, Cut, Synced, Replaced}
use Rattle.kept_log.specs.Format.{tip_of, block, BringsNone, BringsNoneBy, is_unsettled, seen_by}
use Rattle.kept_log.proofs.Deaths.{seen_append}
use Rattle.kept_log.specs.JournaledLog.{committing}
use Rattle.kept_log.specs.Startup.{cutting}
use Rattle.kept_log.specs.declared.tip.Tip.{Tip}
use Rattle.journal_parts.specs.LoggerLife.{Starts}
use Rattle.journal_parts.specs.Rounds.{Place}

pub unsettled_append : (unsettled : Bool) (calls more : List DiskCall) → is_unsettled unsettled (calls ++ more) ≡ is_unsettled (is_unsettled unsettled calls) more
unsettled_append unsettled [] more = refl
unsettled_append unsettled (Appended bytes f ∷ calls) more = unsettled_append unsettled calls more
unsettled_append unsettled (Put at byte f ∷ calls) more = unsettled_append unsettled calls more
unsettled_append unsettled (Cut at f ∷ calls) more = unsettled_append unsettled calls more
unsettled_append unsettled (Synced true ∷ calls) more = unsettled_append unsettled calls more
unsettled_append unsettled (Synced false ∷ calls) more = unsettled_append false calls more
unsettled_append unsettled (Replaced bytes f ∷ calls) more = unsettled_append true calls more

pub settled_on : (calls more : List DiskCall) → is_unsettled false calls ≡ false → is_unsettled false more ≡ false → is_unsettled false (calls ++ more) ≡ false
settled_on calls more first rest = unsettled_append false calls more ∙ (ap (λ u. is_unsettled u more) first ∙ rest)

pub brings_on : (file : List ℕ) (calls more : List DiskCall) (left : List ℕ) → is_unsettled false calls ≡ false → BringsNoneBy file (calls ++ more) left
    → BringsNoneBy (seen_by file calls) more left
brings_on file calls more left settled b = λ last. subst (λ s. BringsNone s left) (seen_append file calls more) (b (settled_on calls more settled last))

-- the calls of a commit, however far they have come
pub settled_committing : (tip : Tip) (body : List ℕ) → is_unsettled false (committing tip body) ≡ false
settled_committing tip [] = refl
settled_committing tip (byte ∷ body) = refl

pub settled_front : (tip : Tip) (body : List ℕ) (done : List DiskCall) → IsFrontOf (committing tip body) done → is_unsettled false done ≡ false
settled_front tip body [] f = refl
settled_front tip [] (call ∷ done) f = absurd f
settled_front tip (byte ∷ body) (call ∷ done) (inl (is, f)) = ap (λ k. is_unsettled false (k ∷ done)) is ∙ synced done f
  where
    none : (done : List DiskCall) → IsFrontOf [] done → is_unsettled false done ≡ false
    none [] f = refl
    none (call ∷ done) f = absurd f

    synced : (done : List DiskCall) → IsFrontOf (Synced false ∷ []) done → is_unsettled false done ≡ false
    synced [] f = refl
    synced (call ∷ done) (inl (is, f)) = ap (λ k. is_unsettled false (k ∷ done)) is ∙ none done f
    synced (call ∷ done) (inr (is, last)) = ap (λ k. is_unsettled false (k ∷ done)) is ∙ ap (λ d. is_unsettled false (Synced true ∷ d)) last
settled_front tip (byte ∷ body) (call ∷ done) (inr (is, last)) =
    ap (λ k. is_unsettled false (k ∷ done)) is ∙ ap (λ d. is_unsettled false (Appended (block tip (byte ∷ body)) true ∷ d)) last

settled_cutting : (end : ℕ) (tail : List ℕ) → is_unsettled false (cutting end tail) ≡ false
settled_cutting end [] = refl
settled_cutting end (byte ∷ tail) = refl

-- those of an opening
pub settled_opening : (heeded : Heeded) (begins : Bool) (file : List ℕ) (opening : List DiskCall) (torn : ℕ) (start : Place) → Starts heeded begins (Some file) opening torn start
    → is_unsettled false opening ≡ false
settled_opening heeded false file opening torn start opens =
    let whole = (opens.finds file refl).0 in
    ap (is_unsettled false) whole.calls_are ∙ settled_cutting (tip_of opens.made opens.bodies).end whole.tail
settled_opening heeded true file opening torn start makes = ap (is_unsettled false) makes.opening_is
