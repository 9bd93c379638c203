-- A whole file that is read: its header, its blocks and its tail.
use Rattle.std.proofs.Common.{◌≡◌, ◌∙◌, ◌⊎◌, inl, inr, ℕ, ◌<◌, ◌≤◌, ◌^◌, Option, Some, List, [], ◌++◌, length, drop, refl, sym, ap, subst, arith, append-nil, append_assoc, length-append}
use Rattle.std.specs.Io.KnownBytes.{Consumes, IsAtEnd}
use Rattle.std.proofs.lemmas.Bool.{cases_lt}
use Rattle.std.proofs.lemmas.List.{drop_at}
use Rattle.ft_model.specs.Log.{Log}
use Rattle.kept_log.specs.Format.{header, block, first_tip, chain, BeginsNone}
use Rattle.kept_log.specs.declared.tip.Tip.{Tip}
use Rattle.kept_log.specs.JournaledLog.{HasLog}
use Rattle.kept_log.specs.Startup.{IsTorn, HasNoBlock, IsUnfinished, IsDamaged}
use Rattle.kept_log.specs.ReadSteps.{HasBegin, IsAt, Reaches, IsTail, FindsBehind, FindsAs}
use Rattle.kept_log.specs.declared.header.Begin.TheVariants as begins
use Rattle.kept_log.specs.declared.reading.Reached.TheVariants as reaches
use Rattle.kept_log.specs.declared.reading.Found.{Found}
use Rattle.kept_log.specs.declared.reading.Found.TheVariants as finds
use Rattle.kept_log.proofs.Blocks.{header_long}
use Rattle.kept_log.proofs.Files.{none_left, consumed}
use Rattle.kept_log.proofs.Headers.{older}

-- the first bytes of a file were read
pub record HasFirst (old new : Option (List ℕ)) (window : List ℕ) : Type 0 where
  pub bytes : List ℕ
  pub took : Consumes old new bytes
  pub are : window ≡ bytes
  pub end : length window ≤ 31 → IsAtEnd new

pub has_first : (old new : Option (List ℕ)) (empty window : List ℕ) → (bytes : List ℕ) × Consumes old new bytes × (window ≡ empty ++ bytes) → empty ≡ [] → (length window ≤ 31 → IsAtEnd new)
    → HasFirst old new window
has_first old new empty window (bytes, took, is) none end = record { bytes = bytes; took = took; are = is ∙ ap (λ (l : List ℕ). l ++ bytes) none; end = end }

-- what the file has
pub whole_is : (old new : Option (List ℕ)) (window file : List ℕ) → HasFirst old new window → old ≡ Some file → (left : List ℕ) × (new ≡ Some left) × (file ≡ window ++ left)
whole_is old new window file has is =
    let rest = consumed old new has.bytes file has.took is in
    (rest.0, rest.1, rest.2 ∙ ap (λ (l : List ℕ). l ++ rest.0) (sym has.are))

-- .. if these bytes are all of it
all_of : (old new : Option (List ℕ)) (window file : List ℕ) → HasFirst old new window → length window < 32 → old ≡ Some file → file ≡ window
all_of old new window file has few is =
    let whole = whole_is old new window file has is in
    whole.2 ∙ (ap (λ (l : List ℕ). window ++ l) (none_left new whole.0 (has.end (omega (arith, few))) whole.1) ∙ append-nil window)

pub found_empty : (old new : Option (List ℕ)) (window : List ℕ) (log : Log) → HasFirst old new window → HasBegin window begins.Empty → FindsAs old log finds.Empty
found_empty old new window log has none = λ file known. all_of old new window file has (omega (arith, ap length none)) known ∙ none

pub found_unfinished : (old new : Option (List ℕ)) (window : List ℕ) (log : Log) → HasFirst old new window → HasBegin window begins.Unfinished → FindsAs old log finds.Unfinished
found_unfinished old new window log has part = λ file known. subst IsUnfinished (sym (all_of old new window file has part.0 known)) part

pub found_older : (old new : Option (List ℕ)) (window : List ℕ) (log : Log) → HasFirst old new window → HasBegin window begins.Older → FindsAs old log finds.Older
found_older old new window log has old_one = λ file known.
    let whole = whole_is old new window file has known in
    (old_one.0 ++ whole.0, whole.2 ∙ (ap (λ (l : List ℕ). l ++ whole.0) old_one.1 ∙ append_assoc older old_one.0 whole.0))

pub found_missing : (old new : Option (List ℕ)) (window : List ℕ) (log : Log) → HasFirst old new window → HasBegin window begins.Missing → FindsAs old log (finds.Wrong 0)
found_missing old new window log has none = λ file known.
    let whole = whole_is old new window file has known in
    let all : (32 ≤ length window) ⊎ (whole.0 ≡ []) =
    elim (cases_lt 31 (length window)) [ inl longer ↦ inl (omega (arith, longer)) | inr few ↦ inr (none_left new whole.0 (has.end few) whole.1) ] in
    subst (IsDamaged 0) (sym whole.2) (inl (refl, none whole.0 all))

pub begin_fits : (bytes made : List ℕ) → HasBegin bytes (begins.Whole made) → 32 ≤ length bytes
begin_fits bytes made (time, (rest, is)) = omega (arith, ap length is, length-append (header made) rest, header_long made time)

front_is : (made window rest left behind file : List ℕ) → length made ≡ 8 → window ≡ header made ++ rest → drop 32 window ++ left ≡ behind → file ≡ window ++ left → file ≡ header made ++ behind
front_is made window rest left behind file time begins is whole =
    let dropped : drop 32 window ≡ rest = ap (drop 32) begins ∙ drop_at (header made) rest 32 (header_long made time) in
    whole ∙ (ap (λ (l : List ℕ). l ++ left) begins
    ∙ (append_assoc (header made) rest left ∙ ap (λ (l : List ℕ). header made ++ l) (ap (λ (l : List ℕ). l ++ left) (sym dropped) ∙ is)))

pub found_whole : (old new : Option (List ℕ)) (made window : List ℕ) (log : Log) → HasFirst old new window → HasBegin window (begins.Whole made) → (found : Found)
    → FindsBehind made (drop 32 window) new log found → FindsAs old log found
found_whole old new made window log has (time, (rest, begins)) (finds.Whole tip tail) (bodies, own, low, few, behind) = (
  made,
  bodies,
  own,
  low,
  few,
  λ file known.
      let whole = whole_is old new window file has known in
      let torn = behind whole.0 whole.1 in
      (torn.0, front_is made window rest whole.0 (chain (first_tip made) bodies ++ torn.0) file time begins torn.1 whole.2, torn.2, torn.3),
)
found_whole old new made window log has (time, (rest, begins)) (finds.Wrong at) broken = λ file known.
    let whole = whole_is old new window file has known in
    let b = broken whole.0 whole.1 in
    inr (record {
      made = made;
      bodies = b.bodies;
      messages = b.messages;
      rest = b.rest;
      time = time;
      is = front_is made window rest whole.0 (chain (first_tip made) b.bodies ++ b.rest) file time begins b.is whole.2 ∙ sym (append_assoc (header made) (chain (first_tip made) b.bodies) b.rest);
      kept = b.kept;
      at_is = b.at_is;
      none = b.none;
    })
found_whole old new made window log has begins finds.Empty never = absurd never
found_whole old new made window log has begins finds.Unfinished never = absurd never
found_whole old new made window log has begins finds.Older never = absurd never
found_whole old new made window log has begins finds.OtherGrammar never = absurd never

-- after the last block
module _ (made first : List ℕ) (old mid new : Option (List ℕ)) (window more tail : List ℕ) (tip : Tip) (log : Log) (reached : Reaches made first old mid window log (reaches.End tip))
    (took : Consumes mid new more) (is : tail ≡ window ++ more) (end : length tail ≤ 381740 → IsAtEnd new) where
  abbrev at : IsAt made first old mid window tip log
  at = reached.0

  -- what is left of the file
  rest_is : (file : List ℕ) → old ≡ Some file
      → (left : List ℕ) × (new ≡ Some left) × (first ++ file ≡ chain (first_tip made) at.bodies ++ (tail ++ left)) × BeginsNone tip (tail ++ left)
  rest_is file known =
      let was = at.proceeds file known in
      let now = consumed mid new more was.0 took was.1 in
      let same : window ++ was.0 ≡ tail ++ now.0 = ap (λ (l : List ℕ). window ++ l) now.2 ∙ (sym (append_assoc window more now.0) ∙ ap (λ (l : List ℕ). l ++ now.0) (sym is)) in
      (now.0, now.1, was.2 ∙ ap (λ (l : List ℕ). chain (first_tip made) at.bodies ++ l) same, subst (BeginsNone tip) same (reached.3 was.0 was.1))

  pub found_behind : (found : Found) → IsTail tip tail found → FindsBehind made first old log found
  found_behind (finds.Whole next len) (same, long, few, last) = (
    at.bodies,
    subst (λ t. HasLog made at.bodies t log) (sym same) at.has_log,
    subst (λ t. t.end ≤ 2 ^ 62) (sym same) reached.1,
    subst (λ t. t.number ≤ 2 ^ 62) (sym same) reached.2,
    λ file known.
        let rest = rest_is file known in
        let short : length tail ≤ 381740 = omega (arith, long, few) in
        let all : tail ++ rest.0 ≡ tail = ap (λ (l : List ℕ). tail ++ l) (none_left new rest.0 (end short) rest.1) ∙ append-nil tail in (
          tail,
          rest.2 ∙ ap (λ (l : List ℕ). chain (first_tip made) at.bodies ++ l) all,
          sym long,
          subst (λ t. IsTorn t tail) (sym same) (record { few = short; none = subst (BeginsNone tip) all rest.3; last = last }),
        ),
  )
  found_behind (finds.Wrong place) (there, torn) = λ file known.
      let rest = rest_is file known in
      record {
        bodies = at.bodies;
        messages = at.has_log.messages;
        rest = tail ++ rest.0;
        is = rest.2;
        kept = at.has_log.kept;
        at_is = there ∙ ap (λ t. t.end) at.has_log.tip_is;
        none = subst (λ t. HasNoBlock t (tail ++ rest.0)) at.has_log.tip_is
            (record { no_end = torn rest.0; no_block = λ body behind messages small begins says. rest.3 body behind small begins });
      }
  found_behind finds.Empty never = absurd never
  found_behind finds.Unfinished never = absurd never
  found_behind finds.Older never = absurd never
  found_behind finds.OtherGrammar never = absurd never
