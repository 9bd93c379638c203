-- What a death leaves at each moment of the calls that keep a block, or mend a file's end.
use Rattle.std.proofs.Common.{◌≡◌, ◌∙◌, ◌⊎◌, inl, inr, ℕ, ◌+◌, true, false, List, [], ◌∷◌, ◌++◌, length, take, drop, refl, sym, ap, subst, arith, append_assoc, append-nil, length-append}
use Rattle.std.proofs.lemmas.List.{take_at, take-append-drop}
use Rattle.disk.specs.declared.calls.DiskCall.{DiskCall}
use Rattle.disk.specs.declared.calls.DiskCall.TheVariants.{Appended, Cut, Synced}
use Rattle.disk.specs.Remains.{seen_after, MayLeave, LeftBy, failed, IsFrontOf}
use Rattle.kept_log.specs.Format.{head, block, front, tip_of, next_tip, HasBlocks, IsAtRest, IsRound, BeginsNone, BringsNone, keeping, mending, all_kept, seen_by}
use Rattle.kept_log.proofs.Blocks.{same_front, head_long, block_once, none_in_few, Begins, begins_or_not, tip_push, front_push, salt_there, end_is, one_behind}

-- by how far the calls have come
front_elim : (P : List ℕ → Type 0) (file : List ℕ) (Held : List ℕ → Type 0) (next : DiskCall) (calls done : List DiskCall) (left : List ℕ) → IsFrontOf (next ∷ calls) done
    → LeftBy file Held done left → (Held left → P file) → (MayLeave file Held (failed next) left → P (seen_after file (failed next)))
    → ((rest : List DiskCall) → IsFrontOf calls rest → LeftBy (seen_after file next) (MayLeave file Held next) rest left → P (seen_by (seen_after file next) rest)) → P (seen_by file done)
front_elim P file Held next calls [] left f l none broken more = none l
front_elim P file Held next calls (call ∷ done) left (inl (is, f)) l none broken more =
    subst (λ k. P (seen_by (seen_after file k) done)) (sym is) (more done f (subst (λ k. LeftBy (seen_after file k) (MayLeave file Held k) done left) is l))
front_elim P file Held next calls (call ∷ done) left (inr (is, last)) l none broken more =
    subst (λ d. P (seen_by (seen_after file call) d)) (sym last)
    (subst (λ k. P (seen_after file k)) (sym is) (broken (subst (λ k. MayLeave file Held k left) is (subst (λ d. LeftBy (seen_after file call) (MayLeave file Held call) d left) last l))))

pub done_all : (P : List ℕ → Type 0) (file : List ℕ) (Held : List ℕ → Type 0) (done : List DiskCall) (left : List ℕ) → IsFrontOf [] done → LeftBy file Held done left → (Held left → P file)
    → P (seen_by file done)
done_all P file Held [] left f l all = all l
done_all P file Held (call ∷ done) left f l all = absurd f

-- no further block was written, so none is read
pub none_more : (made : List ℕ) (bodies : List (List ℕ)) (left behind : List ℕ) → length made ≡ 8 → left ≡ front made bodies ++ behind → BringsNone (front made bodies) left
    → HasBlocks made bodies left
none_more made bodies left behind time is brings = record {
  time = time;
  tail = behind;
  is = is;
  none = λ body rest small begins.
      let more = brings made (bodies ++ body ∷ []) rest (one_behind made bodies body rest left behind is begins) in
      omega (
        arith,
        ap length more.1,
        length-append (front made (bodies ++ body ∷ [])) more.0,
        ap length (front_push made bodies body),
        length-append (front made bodies) (block (tip_of made bodies) body),
        length-append (head (tip_of made bodies) body) body,
        head_long (tip_of made bodies) body (salt_there made bodies),
      );
}

-- one was written, and it is read or not
pub one_more : (made : List ℕ) (bodies : List (List ℕ)) (body left behind : List ℕ) → length made ≡ 8 → IsRound body → left ≡ front made bodies ++ behind
    → BringsNone (front made (bodies ++ body ∷ [])) left → HasBlocks made bodies left ⊎ HasBlocks made (bodies ++ body ∷ []) left
one_more made bodies body left behind time small is brings = by (begins_or_not (tip_of made bodies) behind (salt_there made bodies))
  where
    by : Begins (tip_of made bodies) behind ⊎ BeginsNone (tip_of made bodies) behind → HasBlocks made bodies left ⊎ HasBlocks made (bodies ++ body ∷ []) left
    by (inr none) = inl (record { time = time; tail = behind; is = is; none = none })
    by (inl (found, rest, also, begins)) =
        let tip = tip_of made bodies in
        let whole : left ≡ front made (bodies ++ found ∷ []) ++ rest = one_behind made bodies found rest left behind is begins in
        let more = brings made (bodies ++ found ∷ []) rest whole in
        let spread : front made bodies ++ (block tip body ++ []) ≡ front made bodies ++ (block tip found ++ more.0) =
        ap (λ (l : List ℕ). front made bodies ++ l) (append-nil (block tip body))
        ∙ (sym (front_push made bodies body) ∙ (more.1 ∙ (ap (λ (l : List ℕ). l ++ more.0) (front_push made bodies found) ∙ append_assoc (front made bodies) (block tip found) more.0))) in
        let both : block tip body ++ [] ≡ block tip found ++ more.0 = (same_front (front made bodies) (front made bodies) (block tip body ++ []) (block tip found ++ more.0) refl spread).1 in
        let same : found ≡ body = sym (block_once tip body found [] more.0 (salt_there made bodies) small also both).0 in
        inr (none_more made (bodies ++ body ∷ []) left rest time (whole ∙ ap (λ (b : List ℕ). front made (bodies ++ b ∷ []) ++ rest) same) brings)

pub rest_has : (file : List ℕ) (Held : List ℕ → Type 0) (made : List ℕ) (bodies : List (List ℕ)) → IsAtRest file Held made bodies → (c : List ℕ) → Held c → HasBlocks made bodies c
rest_has file Held made bodies rest c held = record {
  time = rest.time;
  tail = [];
  is = rest.only c held ∙ (rest.is ∙ sym (append-nil (front made bodies)));
  none = none_in_few (tip_of made bodies) [] (salt_there made bodies) (omega arith);
}

pub is_has : (made : List ℕ) (bodies : List (List ℕ)) (left : List ℕ) → length made ≡ 8 → left ≡ front made bodies → HasBlocks made bodies left
is_has made bodies left time is = rest_has (front made bodies) (λ c. c ≡ front made bodies) made bodies (record { time = time; is = refl; only = λ c same. same }) left is

module _ (file : List ℕ) (Held : List ℕ → Type 0) (made : List ℕ) (bodies : List (List ℕ)) (body : List ℕ) (rest : IsAtRest file Held made bodies) where
  abbrev pub new : List ℕ
  new = block (tip_of made bodies) body

  wrote : file ++ new ≡ front made (bodies ++ body ∷ [])
  wrote = ap (λ (l : List ℕ). l ++ new) rest.is ∙ sym (front_push made bodies body)

  abbrev pub P : List ℕ → List ℕ → Type 0
  P left seen = BringsNone seen left → HasBlocks made bodies left ⊎ HasBlocks made (bodies ++ body ∷ []) left

  appended : (f : _) (c : List ℕ) → IsRound body → MayLeave file Held (Appended new f) c → P c (file ++ new)
  appended f c small (d, held, inl same) brings = inl (rest_has file Held made bodies rest c (subst Held (sym same) held))
  appended f c small (d, held, inr same) brings =
      one_more made bodies body c (drop (length file) c) rest.time small
      (sym (take-append-drop (length file) c) ∙ ap (λ (l : List ℕ). l ++ drop (length file) c) (same ∙ (rest.only d held ∙ rest.is)))
      (subst (λ s. BringsNone s c) wrote brings)

  pub before_or_after : (done : List DiskCall) (left : List ℕ) → IsRound body → IsFrontOf (keeping (tip_of made bodies) body) done → LeftBy file Held done left → P left (seen_by file done)
  before_or_after done left small f l =
      front_elim (P left) file Held (Appended new false) (Synced false ∷ []) done left f l
      (λ held brings. inl (rest_has file Held made bodies rest left held))
      (appended true left small)
      (λ done_1 f_1 l_1. front_elim (P left) (file ++ new) (MayLeave file Held (Appended new false)) (Synced false) [] done_1 left f_1 l_1
      (appended false left small)
      (appended false left small)
      (λ done_2 f_2 l_2. done_all (P left) (file ++ new) (λ c. c ≡ file ++ new) done_2 left f_2 l_2
      (λ is brings. inr (is_has made (bodies ++ body ∷ []) left rest.time (is ∙ wrote)))))

  pub stays : IsAtRest (seen_by file (keeping (tip_of made bodies) body)) (LeftBy file Held (keeping (tip_of made bodies) body)) made (bodies ++ body ∷ [])
  stays = record { time = rest.time; is = wrote; only = λ c is. is }

module _ (file : List ℕ) (Held : List ℕ → Type 0) (made : List ℕ) (bodies : List (List ℕ)) (stands : HasBlocks made bodies file) (only : (c : List ℕ) → Held c → c ≡ file) where
  abbrev pub end : ℕ
  end = (tip_of made bodies).end

  cut_is : take end file ≡ front made bodies
  cut_is = ap (take end) stands.is ∙ take_at (front made bodies) stands.tail end (sym (end_is made bodies stands.time))

  abbrev pub Q : List ℕ → List ℕ → Type 0
  Q left seen = BringsNone seen left → HasBlocks made bodies left

  cut : (f : _) (c : List ℕ) → MayLeave file Held (Cut end f) c → Q c (take end file)
  cut f c (d, held, same) brings =
      none_more made bodies c (drop end c) stands.time
      (sym (take-append-drop end c) ∙ ap (λ (l : List ℕ). l ++ drop end c) (same ∙ (ap (take end) (only d held) ∙ cut_is)))
      (subst (λ s. BringsNone s c) cut_is brings)

  pub mended : (done : List DiskCall) (left : List ℕ) → IsFrontOf (mending end) done → LeftBy file Held done left → Q left (seen_by file done)
  mended done left f l =
      front_elim (Q left) file Held (Cut end false) (Synced false ∷ []) done left f l
      (λ held brings. subst (HasBlocks made bodies) (sym (only left held)) stands)
      (cut true left)
      (λ done_1 f_1 l_1. front_elim (Q left) (take end file) (MayLeave file Held (Cut end false)) (Synced false) [] done_1 left f_1 l_1
      (cut false left)
      (cut false left)
      (λ done_2 f_2 l_2. done_all (Q left) (take end file) (λ c. c ≡ take end file) done_2 left f_2 l_2 (λ is brings. is_has made bodies left stands.time (is ∙ cut_is))))

  pub mended_rests : IsAtRest (seen_by file (mending end)) (LeftBy file Held (mending end)) made bodies
  mended_rests = record { time = stands.time; is = cut_is; only = λ c is. is }

pub left_append : (file : List ℕ) (Held : List ℕ → Type 0) (calls more : List DiskCall) (left : List ℕ) → LeftBy file Held (calls ++ more) left
    → LeftBy (seen_by file calls) (LeftBy file Held calls) more left
left_append file Held [] more left l = l
left_append file Held (call ∷ calls) more left l = left_append (seen_after file call) (MayLeave file Held call) calls more left l

pub seen_append : (file : List ℕ) (calls more : List DiskCall) → seen_by file (calls ++ more) ≡ seen_by (seen_by file calls) more
seen_append file [] more = refl
seen_append file (call ∷ calls) more = seen_append (seen_after file call) calls more

abbrev pub Either : List ℕ → List (List ℕ) → List ℕ → List ℕ → Type 0
Either made bodies last left = HasBlocks made bodies left ⊎ HasBlocks made (bodies ++ last ∷ []) left

all_stay : (file : List ℕ) (Held : List ℕ → Type 0) (made : List ℕ) (bodies kept whole : List (List ℕ)) (last : List ℕ) (done : List DiskCall) (left : List ℕ) → bodies ++ kept ≡ whole
    → IsAtRest file Held made bodies → IsRound last → IsFrontOf (keeping (tip_of made whole) last) done → LeftBy file Held (all_kept (tip_of made bodies) kept ++ done) left
    → BringsNone (seen_by file (all_kept (tip_of made bodies) kept ++ done)) left → Either made whole last left
all_stay file Held made bodies [] whole last done left same rest small f l brings =
    let all : bodies ≡ whole = sym (append-nil bodies) ∙ same in
    subst (λ w. Either made w last left) all
    (before_or_after file Held made bodies last rest done left small (subst (λ w. IsFrontOf (keeping (tip_of made w) last) done) (sym all) f) l brings)
all_stay file Held made bodies (body ∷ kept) whole last done left same rest small f l brings =
    let first : List DiskCall = keeping (tip_of made bodies) body in
    let there : next_tip (tip_of made bodies) body ≡ tip_of made (bodies ++ body ∷ []) = sym (tip_push made bodies body) in
    all_stay (seen_by file first) (LeftBy file Held first) made (bodies ++ body ∷ []) kept whole last done left (append_assoc bodies (body ∷ []) kept ∙ same)
    (stays file Held made bodies body rest) small f
    (subst (λ t. LeftBy (seen_by file first) (LeftBy file Held first) (all_kept t kept ++ done) left) there l)
    (subst (λ t. BringsNone (seen_by (seen_by file first) (all_kept t kept ++ done)) left) there brings)

pub keeps_all : (file left made : List ℕ) (bodies kept : List (List ℕ)) (last : List ℕ) (done : List DiskCall) → HasBlocks made bodies file → IsRound last
    → IsFrontOf (keeping (tip_of made (bodies ++ kept)) last) done
    → LeftBy file (λ c. c ≡ file) (mending (tip_of made bodies).end ++ (all_kept (tip_of made bodies) kept ++ done)) left
    → BringsNone (seen_by file (mending (tip_of made bodies).end ++ (all_kept (tip_of made bodies) kept ++ done))) left → Either made (bodies ++ kept) last left
keeps_all file left made bodies kept last done stands small f l brings =
    let first : List DiskCall = mending (tip_of made bodies).end in
    all_stay (seen_by file first) (LeftBy file (λ c. c ≡ file) first) made bodies kept (bodies ++ kept) last done left refl
    (mended_rests file (λ c. c ≡ file) made bodies stands (λ c is. is)) small f l brings
