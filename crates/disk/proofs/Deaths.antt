-- What a file in memory says of a death is one of the contents that the calls may leave.
use Rattle.std.proofs.Common.{◌≡◌, inl, inr, ℕ, true, false, ◌==◌, List, [], ◌∷◌, ◌++◌, length, take, refl, sym, subst, arith}
use Rattle.std.proofs.lemmas.List.{length-take, take_all, take_at}
use Rattle.std.proofs.lemmas.Bool.Decides.{nat_tests}
use Rattle.ft_io.proofs.Choices.{holds_if}
use Rattle.disk.specs.declared.calls.DiskCall.{DiskCall}
use Rattle.disk.specs.declared.calls.DiskCall.TheVariants.{Appended, Put, Cut, Synced, Replaced}
use Rattle.disk.specs.declared.calls.DeskCall.{DeskCall}
use Rattle.disk.specs.declared.calls.DeskCall.TheVariants.{OnLink, OnDisk}
use Rattle.disk.specs.declared.death.Death.{Death}
use Rattle.disk.specs.Remains.{with_byte, seen_after, MayLeave, LeftBy}
use Rattle.disk.specs.CallRecord.{disk_calls}
use Rattle.disk.specs.Death.{held_after, remains, left_of}

may_leave : (death : Death) (file held : List ℕ) (Held : List ℕ → Type 0) (call : DiskCall) → Held held → MayLeave file Held call (held_after death file held call)
may_leave death file held Held (Appended bytes failed) h =
    holds_if (λ (l : List ℕ). MayLeave file Held (Appended bytes failed) l) (length held == length file) (held ++ take death.kept bytes) held
    (λ t. (held, h, inr (take_at held (take death.kept bytes) (length file) (grind (arith, nat_tests, t)))))
    (λ t. (held, h, inl refl))
may_leave death file held Held (Put at byte failed) h =
    holds_if (λ (l : List ℕ). MayLeave file Held (Put at byte failed) l) death.is_put (with_byte at byte held) held
    (λ t. (held, h, inr refl))
    (λ t. (held, h, inl refl))
may_leave death file held Held (Cut at failed) h = (held, h, take_all at (take at held) (grind (arith, length-take at held)))
may_leave death file held Held (Synced true) h = h
may_leave death file held Held (Synced false) h = refl
may_leave death file held Held (Replaced bytes failed) h =
    holds_if (λ (l : List ℕ). MayLeave file Held (Replaced bytes failed) l) death.is_put bytes held (λ t. inr refl) (λ t. inl h)

one_of : (death : Death) (file held : List ℕ) (Held : List ℕ → Type 0) (calls : List DeskCall) → Held held → LeftBy file Held (disk_calls calls) (remains death file held calls)
one_of death file held Held [] h = h
one_of death file held Held (OnLink call ∷ calls) h = one_of death file held Held calls h
one_of death file held Held (OnDisk call ∷ calls) h =
    one_of death (seen_after file call) (held_after death file held call) (MayLeave file Held call) calls (may_leave death file held Held call h)

pub may_be_left : (death : Death) (first left : List ℕ) (calls : List DeskCall) → left ≡ left_of death first calls
    → LeftBy first (λ c. c ≡ first) (disk_calls (take death.calls calls)) left
may_be_left death first left calls is =
    subst (λ (l : List ℕ). LeftBy first (λ c. c ≡ first) (disk_calls (take death.calls calls)) l) (sym is)
    (one_of death first first (λ c. c ≡ first) (take death.calls calls) refl)
