-- A reading goes on, block by block.
use Rattle.std.proofs.Common.{◌≡◌, ◌∙◌, ℕ, Option, Some, None, List, [], ◌∷◌, ◌++◌, length, refl, sym, ap, subst, append_assoc, append-nil, length-append, arith}
use Rattle.std.specs.Io.KnownBytes.{Consumes, IsAtEnd}
use Rattle.ft_model.specs.Log.{Log, empty_log}
use Rattle.kept_log.specs.Format.{block, first_tip, next_tip, chain, IsRound, BeginsNone}
use Rattle.kept_log.specs.declared.tip.Tip.{Tip}
use Rattle.kept_log.proofs.Blocks.{chain_push}
use Rattle.kept_log.proofs.Files.{none_left, consumed}
use Rattle.kept_log.specs.JournaledLog.{Waits}
use Rattle.kept_log.specs.Startup.{HasNoBlock}
use Rattle.kept_log.specs.ReadSteps.{IsAt, IsBrokenAt, Steps}
use Rattle.kept_log.specs.declared.reading.Taken.TheVariants.{Block, Short, End, Wrong}
use Rattle.kept_log.proofs.Logs.{no_blocks, block_more}

-- at a file's end nothing more follows
pub end_of : (tip : Tip) (bytes left : List ℕ) (known : Option (List ℕ)) → BeginsNone tip bytes → IsAtEnd known → known ≡ Some left → BeginsNone tip (bytes ++ left)
end_of tip bytes left known none end is = subst (BeginsNone tip) (sym (ap (λ (l : List ℕ). bytes ++ l) (none_left known left end is) ∙ append-nil bytes)) none

pub none_consumed : (known : Option (List ℕ)) → Consumes known known []
none_consumed None = tt
none_consumed (Some xs) = refl

pub took_none : (old new : Option (List ℕ)) (window bytes : List ℕ) → Consumes old new bytes → window ≡ window ++ bytes → Consumes old new []
took_none old new window bytes took is = subst (Consumes old new) (nothing bytes (ap length is)) took
  where
    nothing : (bytes : List ℕ) → length window ≡ length (window ++ bytes) → bytes ≡ []
    nothing [] long = refl
    nothing (b ∷ bytes) long = absurd (omega (arith, long, length-append window (b ∷ bytes)))

pub at_start : (made first : List ℕ) (known : Option (List ℕ)) → length made ≡ 8 → IsAt made first known known first (first_tip made) empty_log
at_start made first known time = record { bodies = []; has_log = no_blocks made time; proceeds = λ left is. (left, is, refl) }

pub at_first : (made first : List ℕ) (known : Option (List ℕ)) (tip : Tip) (log : Log) → length made ≡ 8 → tip ≡ first_tip made → log ≡ empty_log
    → IsAt made first known known first tip log
at_first made first known tip log time is none =
    subst (λ t. IsAt made first known known first t log) (sym is) (subst (IsAt made first known known first (first_tip made)) (sym none) (at_start made first known time))

pub at_more : (made first : List ℕ) (old mid new : Option (List ℕ)) (window more : List ℕ) (tip : Tip) (log : Log) → IsAt made first old mid window tip log → Consumes mid new more
    → IsAt made first old new (window ++ more) tip log
at_more made first old mid new window more tip log at took = record {
  bodies = at.bodies;
  has_log = at.has_log;
  proceeds = λ left is.
      let was = at.proceeds left is in
      let now = consumed mid new more was.0 took was.1 in
      (now.0, now.1, was.2 ∙ ap (λ (l : List ℕ). chain (first_tip made) at.bodies ++ l) (ap (λ (l : List ℕ). window ++ l) now.2 ∙ sym (append_assoc window more now.0)));
}

pub at_block : (made first : List ℕ) (old new : Option (List ℕ)) (window rest body : List ℕ) (tip : Tip) (before log : Log) → IsAt made first old new window tip before
    → window ≡ block tip body ++ rest → IsRound body → Waits before body log → IsAt made first old new rest (next_tip tip body) log
at_block made first old new window rest body tip before log at is few waits = record {
  bodies = at.bodies ++ body ∷ [];
  has_log = block_more made at.bodies tip before log body at.has_log few waits;
  proceeds = λ left known.
      let was = at.proceeds left known in
      let blocks : List ℕ = chain (first_tip made) at.bodies in (
        was.0,
        was.1,
        was.2
            ∙ (ap (λ (l : List ℕ). blocks ++ (l ++ was.0)) is
            ∙ (ap (λ (l : List ℕ). blocks ++ l) (append_assoc (block tip body) rest was.0)
            ∙ (sym (append_assoc blocks (block tip body) (rest ++ was.0))
            ∙ ap (λ (l : List ℕ). l ++ (rest ++ was.0)) (ap (λ t. blocks ++ block t body) at.has_log.tip_is ∙ sym (chain_push made at.bodies body))))),
      );
}

pub at_wrong : (made first : List ℕ) (old new : Option (List ℕ)) (window : List ℕ) (tip : Tip) (log : Log) → IsAt made first old new window tip log
    → ((left : List ℕ) → new ≡ Some left → HasNoBlock tip (window ++ left)) → (left : List ℕ) → old ≡ Some left → IsBrokenAt tip.end made (first ++ left)
at_wrong made first old new window tip log at none left known =
    let was = at.proceeds left known in
    record {
      bodies = at.bodies;
      messages = at.has_log.messages;
      rest = window ++ was.0;
      is = was.2;
      kept = at.has_log.kept;
      at_is = ap (λ t. t.end) at.has_log.tip_is;
      none = subst (λ t. HasNoBlock t (window ++ was.0)) at.has_log.tip_is (none was.0 was.1);
    }

pub step_block : (made first : List ℕ) (old mid new : Option (List ℕ)) (window rest : List ℕ) (tip next : Tip) (before after : Log) → IsAt made first old mid window tip before
    → Steps mid new tip next window rest before after Block → IsAt made first old new rest next after
step_block made first old mid new window rest tip next before after was ((body, is, small, waits, then), same) =
    subst (λ t. IsAt made first old new rest t after) (sym then)
    (subst (λ k. IsAt made first old k rest (next_tip tip body) after) (sym same) (at_block made first old mid window rest body tip before after was is small waits))

pub step_more : (made first : List ℕ) (old mid new : Option (List ℕ)) (window rest : List ℕ) (tip next : Tip) (before after : Log) → IsAt made first old mid window tip before
    → Steps mid new tip next window rest before after Short → IsAt made first old new rest next after
step_more made first old mid new window rest tip next before after was (more, took, is, same, then) =
    let on : IsAt made first old new (window ++ more) tip before = at_more made first old mid new window more tip before was took in
    subst (λ l. IsAt made first old new rest next l) (sym same)
    (subst (λ t. IsAt made first old new rest t before) (sym then) (subst (λ w. IsAt made first old new w tip before) (sym is) on))

pub step_end : (made first : List ℕ) (old mid new : Option (List ℕ)) (window rest : List ℕ) (tip next : Tip) (before after : Log) → IsAt made first old mid window tip before
    → Steps mid new tip next window rest before after End
    → IsAt made first old new rest next after × ((left : List ℕ) → new ≡ Some left → BeginsNone next (rest ++ left))
step_end made first old mid new window rest tip next before after was (took, is, same, then, none) =
    let on : IsAt made first old new (window ++ []) tip before = at_more made first old mid new window [] tip before was took in
    let here : rest ≡ window ++ [] = is ∙ sym (append-nil window) in (
      subst (λ l. IsAt made first old new rest next l) (sym same)
          (subst (λ t. IsAt made first old new rest t before) (sym then) (subst (λ w. IsAt made first old new w tip before) (sym here) on)),
      λ left known. subst (λ t. BeginsNone t (rest ++ left)) (sym then) (subst (λ (w : List ℕ). BeginsNone tip (w ++ left)) (sym is) (none left known)),
    )

pub step_wrong : (made first : List ℕ) (old mid new : Option (List ℕ)) (window rest : List ℕ) (tip next : Tip) (before after : Log) → IsAt made first old mid window tip before
    → Steps mid new tip next window rest before after Wrong → (left : List ℕ) → old ≡ Some left → IsBrokenAt next.end made (first ++ left)
step_wrong made first old mid new window rest tip next before after was (none, then) left known =
    subst (λ t. IsBrokenAt t.end made (first ++ left)) (sym then) (at_wrong made first old mid window tip before was none left known)
