-- A file that was read is put at rest.
use Rattle.std.proofs.Common.{◌≡◌, ◌∙◌, inl, inr, ℕ, append_assoc, true, false, Option, Some, List, [], ◌∷◌, length, replicate, refl, sym, ap, subst, arith, Result, Ok, Err, OnErr, IfErr, IsErrAnd}
use Rattle.std.specs.Result.{is_err}
use Rattle.std.proofs.lemmas.List.{length-replicate}
use Rattle.ft_io.specs.Reported.{Reports}
use Rattle.ft_io.proofs.Recordings.{reports_on}
use Rattle.ft_model.specs.Log.{Log}
use Rattle.disk.specs.declared.calls.DiskCall.{DiskCall}
use Rattle.disk.specs.declared.calls.DiskCall.TheVariants.{Cut, Synced}
use Rattle.disk.specs.declared.calls.DeskCall.{DeskCall}
use Rattle.disk.specs.declared.calls.DeskCall.TheVariants.{OnDisk}
use Rattle.disk.specs.Remains.{IsFrontOf, failed}
use Rattle.disk.specs.CallRecord.{on_disk}
use Rattle.kept_log.specs.Format.{header, first_tip, chain}
use Rattle.kept_log.specs.declared.tip.Tip.{Tip}
use Rattle.kept_log.specs.Startup.{cutting, IsTorn, IsOpened, IsCutShort, IsWhole}
use Rattle.kept_log.specs.ReadSteps.{FindsAs}
use Rattle.kept_log.specs.declared.reading.Found.TheVariants as finds

-- a front of calls was told
abbrev pub IsFrontReported : List DiskCall → Option (List DeskCall) → Option (List DeskCall) → Type 0
IsFrontReported calls old new = (done : List DiskCall) × IsFrontOf calls done × Reports old new (on_disk done)

-- the first of calls failed
pub first_failed : (first : DiskCall) (others : List DiskCall) (old new : Option (List DeskCall)) → Reports old new (OnDisk (failed first) ∷ []) → IsFrontReported (first ∷ others) old new
first_failed first others old new reported = (failed first ∷ [], inr (refl, refl), reported)

-- .. or the second, a sync
pub sync_failed : {T E : Type 0} (first : DiskCall) (old mid new : Option (List DeskCall)) (r : Result T E) → Reports old mid (OnDisk first ∷ []) → Reports mid new (OnDisk (Synced (is_err r)) ∷ [])
    → OnErr r (IsFrontReported (first ∷ Synced false ∷ []) old new)
sync_failed first old mid new (Ok x) before reported = tt
sync_failed first old mid new (Err e) before reported =
    (first ∷ Synced true ∷ [], inl (refl, inr (refl, refl)), reports_on old mid new (OnDisk first ∷ []) (OnDisk (Synced true) ∷ []) before reported)

-- a tail that isn't empty is cut
pub some_cut : (P : List DiskCall → Type 0) (end tail : ℕ) → (tail ≡ 0 → ⊥) → P (Cut end false ∷ Synced false ∷ []) → (torn : List ℕ) → length torn ≡ tail → P (cutting end torn)
some_cut P end tail some p [] long = absurd (some (sym long))
some_cut P end tail some p (byte ∷ torn) long = p

cut_alike : (end : ℕ) (xs ys : List ℕ) → length xs ≡ length ys → cutting end xs ≡ cutting end ys
cut_alike end [] [] long = refl
cut_alike end [] (y ∷ ys) long = absurd (omega (arith, long))
cut_alike end (x ∷ xs) [] long = absurd (omega (arith, long))
cut_alike end (x ∷ xs) (y ∷ ys) long = refl

module _ (left : Option (List ℕ)) (old mid new : Option (List DeskCall)) (log : Log) (quiet : Reports old mid []) where
  whole : (tip : Tip) (tail : ℕ) (found : FindsAs left log (finds.Whole tip tail)) (file : List ℕ) → left ≡ Some file
      → (w : IsWhole file found.0 found.1 (cutting tip.end (replicate tail 0))) × (tail ≡ length w.tail)
  whole tip tail (made, bodies, has, low, few, behind) file known =
      let torn = behind file known in (
        record {
          time = has.time;
          tail = torn.0;
          is = torn.1 ∙ sym (append_assoc (header made) (chain (first_tip made) bodies) torn.0);
          torn = subst (λ t. IsTorn t torn.0) has.tip_is torn.3;
          calls_are = cut_alike tip.end (replicate tail 0) torn.0 (length-replicate tail 0 ∙ sym torn.2) ∙ ap (λ t. cutting t.end torn.0) has.tip_is;
        },
        sym torn.2,
      )

  pub whole_opened : (tip : Tip) (tail : ℕ) → FindsAs left log (finds.Whole tip tail) → ((torn : List ℕ) → length torn ≡ tail → Reports mid new (on_disk (cutting tip.end torn)))
      → IsOpened left old new tip tail log
  whole_opened tip tail found reported = record {
    made = found.0;
    bodies = found.1;
    calls = cutting tip.end (replicate tail 0);
    has_log = found.2;
    reports = reports_on old mid new [] (on_disk (cutting tip.end (replicate tail 0))) quiet (reported (replicate tail 0) (length-replicate tail 0));
    finds = whole tip tail found;
  }

  pub whole_stopped : (tip : Tip) (tail : ℕ) → FindsAs left log (finds.Whole tip tail) → ((torn : List ℕ) → length torn ≡ tail → IsFrontReported (cutting tip.end torn) mid new)
      → IsCutShort left old new
  whole_stopped tip tail found front = record {
    made = found.0;
    bodies = found.1;
    messages = found.2.messages;
    calls = cutting tip.end (replicate tail 0);
    done = (front (replicate tail 0) (length-replicate tail 0)).0;
    kept = found.2.kept;
    is_front = (front (replicate tail 0) (length-replicate tail 0)).1;
    reports = reports_on old mid new [] (on_disk (front (replicate tail 0) (length-replicate tail 0)).0) quiet (front (replicate tail 0) (length-replicate tail 0)).2;
    cut = tail;
    time = found.2.time;
    finds = whole tip tail found;
  }

-- an error that is known
pub if_err : {T E : Type 0} (r : Result T E) (e : E) (Q : E → Type 0) → IsErrAnd r (λ x. x ≡ e) → Q e → IfErr r Q
if_err (Ok x) e Q is q = tt
if_err (Err x) e Q is q = subst Q (sym is) q
