-- What deaths leave of a logger's file.
use Rattle.std.proofs.Common.{◌≡◌, ◌∙◌, ◌⊎◌, inl, ℕ, List, [], ◌∷◌, ◌++◌, length, refl, sym, subst, append-nil}
use Rattle.disk.specs.declared.calls.DiskCall.{DiskCall}
use Rattle.disk.specs.Remains.{LeftBy, IsFrontOf}
use Rattle.kept_log.specs.Format.{header, front, tip_of, next_tip, HasBlocks, IsAtRest, IsRound, BeginsNone, BringsNone, keeping, making, seen_by}
use Rattle.kept_log.proofs.Blocks.{tip_push}
use Rattle.kept_log.proofs.Deaths.{before_or_after, stays, mended, mended_rests, done_all, rest_has, left_append, seen_append}
use Rattle.kept_log.proofs.Once.{whole_has}
use Rattle.kept_log.specs.JournaledLog.{committing, with_round}
use Rattle.kept_log.specs.Startup.{cutting, IsTorn, IsWhole}
use Rattle.kept_log.specs.Life.{with_rounds, committed}

-- a journal that is made
pub made_rests : (made : List ℕ) → length made ≡ 8 → IsAtRest (seen_by [] (making made)) (LeftBy [] (λ c. c ≡ []) (making made)) made []
made_rests made time = record { time = time; is = sym (append-nil (header made)); only = λ c is. is }

-- a file that is cut
cut_rests : (file tail made : List ℕ) (bodies : List (List ℕ)) → length made ≡ 8 → file ≡ front made bodies ++ tail → BeginsNone (tip_of made bodies) tail
    → IsAtRest (seen_by file (cutting (tip_of made bodies).end tail)) (LeftBy file (λ c. c ≡ file) (cutting (tip_of made bodies).end tail)) made bodies
cut_rests file [] made bodies time is none = record { time = time; is = is ∙ append-nil (front made bodies); only = λ c held. held }
cut_rests file (byte ∷ tail) made bodies time is none =
    mended_rests file (λ c. c ≡ file) made bodies (record { time = time; tail = byte ∷ tail; is = is; none = none }) (λ c held. held)

pub opened_rests : (file made : List ℕ) (bodies : List (List ℕ)) (calls : List DiskCall) → IsWhole file made bodies calls
    → IsAtRest (seen_by file calls) (LeftBy file (λ c. c ≡ file) calls) made bodies
opened_rests file made bodies calls whole =
    subst (λ cs. IsAtRest (seen_by file cs) (LeftBy file (λ c. c ≡ file) cs) made bodies) (sym whole.calls_are)
    (cut_rests file whole.tail made bodies whole.time whole.is whole.torn.none)

cut_keeps : (file tail left made : List ℕ) (bodies : List (List ℕ)) (done : List DiskCall) → HasBlocks made bodies file → IsFrontOf (cutting (tip_of made bodies).end tail) done
    → LeftBy file (λ c. c ≡ file) done left → BringsNone (seen_by file done) left → HasBlocks made bodies left
cut_keeps file [] left made bodies done stands f l brings =
    done_all (λ s. BringsNone s left → HasBlocks made bodies left) file (λ c. c ≡ file) done left f l (λ same brings. subst (HasBlocks made bodies) (sym same) stands) brings
cut_keeps file (byte ∷ tail) left made bodies done stands f l brings = mended file (λ c. c ≡ file) made bodies stands (λ c held. held) done left f l brings

pub opening_keeps : (file left made : List ℕ) (bodies : List (List ℕ)) (calls done : List DiskCall) → IsWhole file made bodies calls → IsFrontOf calls done
    → LeftBy file (λ c. c ≡ file) done left → BringsNone (seen_by file done) left → HasBlocks made bodies left
opening_keeps file left made bodies calls done whole f l brings =
    cut_keeps file whole.tail left made bodies done (whole_has file made bodies calls whole) (subst (λ cs. IsFrontOf cs done) whole.calls_are f) l brings

-- one commit, and those before it
abbrev pub AfterRound : List ℕ → List (List ℕ) → List ℕ → List ℕ → Type 0
AfterRound made bodies last left = HasBlocks made bodies left ⊎ HasBlocks made (with_round bodies last) left

pub last_keeps : (file : List ℕ) (Held : List ℕ → Type 0) (made : List ℕ) (bodies : List (List ℕ)) (last : List ℕ) (done : List DiskCall) (left : List ℕ) → IsAtRest file Held made bodies
    → IsRound last → IsFrontOf (committing (tip_of made bodies) last) done → LeftBy file Held done left → BringsNone (seen_by file done) left → AfterRound made bodies last left
last_keeps file Held made bodies [] done left rest small f l brings =
    done_all (λ s. BringsNone s left → AfterRound made bodies [] left) file Held done left f l (λ held brings. inl (rest_has file Held made bodies rest left held)) brings
last_keeps file Held made bodies (byte ∷ last) done left rest small f l brings = before_or_after file Held made bodies (byte ∷ last) rest done left small f l brings

rounds_keep : (file : List ℕ) (Held : List ℕ → Type 0) (made : List ℕ) (bodies rounds : List (List ℕ)) (last : List ℕ) (done : List DiskCall) (left : List ℕ) → IsAtRest file Held made bodies
    → IsRound last → IsFrontOf (committing (tip_of made (with_rounds bodies rounds)) last) done → LeftBy file Held (committed (tip_of made bodies) rounds ++ done) left
    → BringsNone (seen_by file (committed (tip_of made bodies) rounds ++ done)) left → AfterRound made (with_rounds bodies rounds) last left
rounds_keep file Held made bodies [] last done left rest small f l brings = last_keeps file Held made bodies last done left rest small f l brings
rounds_keep file Held made bodies ([] ∷ rounds) last done left rest small f l brings = rounds_keep file Held made bodies rounds last done left rest small f l brings
rounds_keep file Held made bodies ((byte ∷ round) ∷ rounds) last done left rest small f l brings =
    let first : List DiskCall = keeping (tip_of made bodies) (byte ∷ round) in
    let there : next_tip (tip_of made bodies) (byte ∷ round) ≡ tip_of made (bodies ++ (byte ∷ round) ∷ []) = sym (tip_push made bodies (byte ∷ round)) in
    rounds_keep (seen_by file first) (LeftBy file Held first) made (bodies ++ (byte ∷ round) ∷ []) rounds last done left (stays file Held made bodies (byte ∷ round) rest) small f
    (subst (λ t. LeftBy (seen_by file first) (LeftBy file Held first) (committed t rounds ++ done) left) there l)
    (subst (λ t. BringsNone (seen_by (seen_by file first) (committed t rounds ++ done)) left) there brings)

-- a life from a file at rest on, once these calls have put it there
life_keeps_from : (file left made : List ℕ) (bodies rounds : List (List ℕ)) (last : List ℕ) (calls done : List DiskCall) → IsRound last
    → IsAtRest (seen_by file calls) (LeftBy file (λ c. c ≡ file) calls) made bodies
    → IsFrontOf (committing (tip_of made (with_rounds bodies rounds)) last) done → LeftBy file (λ c. c ≡ file) (calls ++ (committed (tip_of made bodies) rounds ++ done)) left
    → BringsNone (seen_by file (calls ++ (committed (tip_of made bodies) rounds ++ done))) left → AfterRound made (with_rounds bodies rounds) last left
life_keeps_from file left made bodies rounds last calls done small rest f l brings =
    rounds_keep (seen_by file calls) (LeftBy file (λ c. c ≡ file) calls) made bodies rounds last done left rest small f
    (left_append file (λ c. c ≡ file) calls (committed (tip_of made bodies) rounds ++ done) left l)
    (subst (λ s. BringsNone s left) (seen_append file calls (committed (tip_of made bodies) rounds ++ done)) brings)

pub life_keeps : (file left made : List ℕ) (bodies rounds : List (List ℕ)) (last : List ℕ) (calls done : List DiskCall) → IsRound last → IsWhole file made bodies calls
    → IsFrontOf (committing (tip_of made (with_rounds bodies rounds)) last) done → LeftBy file (λ c. c ≡ file) (calls ++ (committed (tip_of made bodies) rounds ++ done)) left
    → BringsNone (seen_by file (calls ++ (committed (tip_of made bodies) rounds ++ done))) left → AfterRound made (with_rounds bodies rounds) last left
life_keeps file left made bodies rounds last calls done small whole f l brings =
    life_keeps_from file left made bodies rounds last calls done small (opened_rests file made bodies calls whole) f l brings

pub first_life_keeps : (left made : List ℕ) (rounds : List (List ℕ)) (last : List ℕ) (done : List DiskCall) → length made ≡ 8 → IsRound last
    → IsFrontOf (committing (tip_of made (with_rounds [] rounds)) last) done → LeftBy [] (λ c. c ≡ []) (making made ++ (committed (tip_of made []) rounds ++ done)) left
    → BringsNone (seen_by [] (making made ++ (committed (tip_of made []) rounds ++ done))) left → AfterRound made (with_rounds [] rounds) last left
first_life_keeps left made rounds last done time small f l brings = life_keeps_from [] left made [] rounds last (making made) done small (made_rests made time) f l brings

-- what stands is opened
pub stands_whole : (file made : List ℕ) (bodies : List (List ℕ)) (stands : HasBlocks made bodies file) → IsTorn (tip_of made bodies) stands.tail
    → (calls : List DiskCall) × IsWhole file made bodies calls
stands_whole file made bodies stands torn =
    (cutting (tip_of made bodies).end stands.tail, record { time = stands.time; tail = stands.tail; is = stands.is; torn = torn; calls_are = refl })
