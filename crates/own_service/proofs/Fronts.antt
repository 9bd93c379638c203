-- However the input is cut, Counter answers the same, so a run over pieces of the bytes writes a front of the answers to all of them.
use Rattle.std.proofs.Common.{◌≡◌, ◌∙◌, refl, sym, ap, ℕ, ◌==◌, Bool, true, false, List, [], ◌∷◌, ◌++◌, length, take, drop, take-append-drop, append_assoc}
use Rattle.server_trait.specs.Service.{Run, fold_from, cut, reference}
use Rattle.ft_model.specs.Growth.{IsPrefix}
use Rattle.counter_service.specs.declared.counter.Counter.{Counter}
use Rattle.counter_service.specs.Counter.{counted, answer, count_after, answers, counter_machine}

answers_append : (count : ℕ) (xs ys : List ℕ) → answers count (xs ++ ys) ≡ answers count xs ++ answers (count_after count xs) ys
answers_append count [] ys = refl
answers_append count (x ∷ xs) ys =
    ap (λ rest. answer (counted count) x ++ rest) (answers_append (counted count) xs ys)
    ∙ sym (append_assoc (answer (counted count) x) (answers (counted count) xs) (answers (count_after (counted count) xs) ys))

-- what is answered to a piece, and then to what is left, is what is answered to all
pub answered_on : (done : List ℕ) (count n : ℕ) (bytes : List ℕ)
    → (done ++ answers count (take n bytes)) ++ answers (count_after count (take n bytes)) (drop n bytes) ≡ done ++ answers count bytes
answered_on done count n bytes =
    append_assoc done (answers count (take n bytes)) (answers (count_after count (take n bytes)) (drop n bytes))
    ∙ ap (λ text. done ++ text) (sym (answers_append count (take n bytes) (drop n bytes)) ∙ ap (λ text. answers count text) (take-append-drop n bytes))

-- so a server that has answered all bytes but these goes on
pub answered_next : (n : ℕ) (counter next : Counter) (before after piece later bytes all : List ℕ) → before ++ answers counter.count bytes ≡ all
    → piece ≡ take n bytes → later ≡ drop n bytes → next ≡ record { count = count_after counter.count piece } → after ≡ before ++ answers counter.count piece
    → after ++ answers next.count later ≡ all
answered_next n counter next before after piece later bytes all so_far front back state output =
    rw output (rw state (rw back (rw front (answered_on before counter.count n bytes ∙ so_far))))

-- a run of Counter that stands here
abbrev at : ℕ → List ℕ → Bool → Run Counter
at count output closed = record { state = record { count = count }; output = output; closed = closed }

-- once closed, nothing more is written
after_close : (count : ℕ) (output : List ℕ) (chunks : List (List ℕ)) → (fold_from counter_machine (at count output true) chunks).output ≡ output
after_close count output [] = refl
after_close count output (chunk ∷ chunks) = after_close count output chunks

front_from : (count : ℕ) (output : List ℕ) (closed : Bool) (bytes lengths : List ℕ)
    → IsPrefix (fold_from counter_machine (at count output closed) (cut bytes lengths)).output (output ++ answers count bytes)
front_from count output closed bytes [] = (answers count bytes, refl)
front_from count output true bytes (n ∷ lengths) =
    (answers count bytes, ap (λ written. written ++ answers count bytes) (after_close count output (cut bytes (n ∷ lengths))))
front_from count output false bytes (n ∷ lengths) =
    let piece = take n bytes in
    let more = front_from (count_after count piece) (output ++ answers count piece) (length piece == 0) (drop n bytes) lengths in
    (more.0, more.1 ∙ answered_on output count n bytes)

-- what a server that never failed has written is a front of the answers to all that the client has to say
pub front : (bytes lengths : List ℕ) → IsPrefix (reference counter_machine bytes lengths).output (answers 0 bytes)
unfolding reference
front bytes lengths = front_from 0 [] false bytes lengths

pub longer : (front middle whole : List ℕ) → IsPrefix front middle → IsPrefix middle whole → IsPrefix front whole
longer front middle whole a b = (a.0 ++ b.0, sym (append_assoc front a.0 b.0) ∙ (ap (λ text. text ++ b.0) a.1 ∙ b.1))
