-- What the socket is after a turn's reads, and where a north wrapper begins.
use Rattle.std.proofs.Common.{◌≡◌, ℕ, ◌+◌, ◌-◌, ◌≤◌, ◌==◌, ◌&&◌, ◌||◌, ◌⊎◌, Bool, true, false, true≢false, not, min, nat_lt, refl, sym, ap, ◌∙◌, subst, Some, None, List, [], ◌∷◌, length, drop, get_or, arith, length-drop, if◌then◌else◌}
use Rattle.std.proofs.lemmas.List.{take_all}
use Rattle.std.proofs.Math.Seq.{drop-length}
use Rattle.server_trait.specs.Service.{Machine, Served, reference}
use Rattle.ft_model.specs.Point.{Point, whole_run, released}
use Rattle.ft_model.proofs.Lists.{some_is, none_is_some}
use Rattle.north_wrap.specs.NorthState.{NorthState, Reads, next_length, is_free_to_read, length_of_next, read_on, socket_on, lengths_of}
use Rattle.north_wrap.specs.Sockets.{Reader}
use Rattle.north_wrap.specs.Refinement.{NorthStands, HasReplayed, RecordsRun, read_off, off_socket, AreThere, given_more, IsNumbered}
use Rattle.ft_io.proofs.Booleans.{left_false}
use Rattle.ft_io.proofs.Choices.{holds_if}

is_there : {S : Type 0} (una readable : ℕ) (at_end : Bool) (n : NorthState S) (k : ℕ) → next_length una readable at_end n ≡ Some k → nat_lt 0 (length n.rest) ≡ false → k ≤ readable
unfolding next_length
is_there una readable at_end n k e none =
    holds_if (λ o. o ≡ Some k → k ≤ readable) (is_free_to_read una n) (length_of_next (length n.rest) readable at_end n.ended) None
    (λ t. holds_if (λ o. o ≡ Some k → k ≤ readable) (nat_lt 0 (length n.rest)) (Some (min 2048 (length n.rest))) _ (λ some. absurd (grind (arith, some, none)))
    (λ x. holds_if (λ o. o ≡ Some k → k ≤ readable) (nat_lt 0 readable) (Some (min 2048 readable)) _ (λ y f. let same : min 2048 readable ≡ k = some_is _ _ f in omega (arith, same))
    (λ y. holds_if (λ o. o ≡ Some k → k ≤ readable) (at_end && not n.ended) (Some 0) None (λ z f. let same : 0 ≡ k = some_is _ _ f in omega (arith, same)) (λ z f. none_is_some k f))))
    (λ t f. none_is_some k f) e

rest_after : {S : Type 0} (after : S → List ℕ → Served S) (unread : List ℕ) (k : ℕ) (n : NorthState S) → length (read_on after unread k n).rest ≡ length n.rest - k
unfolding read_on
rest_after after unread k n = length-drop k n.rest

by_place : {K : Type 0} (r : Reader K) (s t : K) (k : ℕ) (ks : List ℕ) (b : Bool) → (b ≡ false → k ≤ length (r.unread s))
    → (t ≡ read_off r.after_read (if b then s else r.after_read s k) ks) × AreThere r (if b then s else r.after_read s k) ks
    → (t ≡ read_off r.after_read s (if b then ks else (k ∷ ks))) × AreThere r s (if b then ks else (k ∷ ks))
by_place r s t k ks true there x = x
by_place r s t k ks false there x = (x.0, (there refl, x.1))

pub socket_is : {S K : Type 0} (after : S → List ℕ → Served S) (r : Reader K) (una : ℕ) (n : NorthState S) (s : K) (ks : List ℕ) (m : NorthState S) (t : K) → Reads after r una n s ks m t
    → (t ≡ read_off r.after_read s (off_socket (length n.rest) ks)) × AreThere r s (off_socket (length n.rest) ks)
unfolding socket_on
socket_is after r una n s [] m t reads = (reads.2, tt)
socket_is after r una n s (k ∷ ks) m t reads =
    let more = socket_is after r una (read_on after (r.unread s) k n) (socket_on r k n s) ks m t reads.1 in
    let left : length (read_on after (r.unread s) k n).rest ≡ length n.rest - k = rest_after after (r.unread s) k n in
    by_place r s t k (off_socket (length n.rest - k) ks) (nat_lt 0 (length n.rest) || k == 0)
    (λ e. is_there una (length (r.unread s)) (r.has_end s && (length (r.unread s) == 0)) n k reads.0 (left_false (nat_lt 0 (length n.rest)) (k == 0) e))
    (subst (λ l. (t ≡ read_off r.after_read (socket_on r k n s) (off_socket l ks)) × AreThere r (socket_on r k n s) (off_socket l ks)) left more)

pub begins_here : {S : Type 0} (service : Machine S) (p : Point) (given : ℕ) (n : NorthState S) → HasReplayed service p given n → NorthStands service p given n
begins_here service p given n h =
    let none : length n.reads ≡ 0 = ap length h.reads in
    record {
      run = h.run;
      rest = h.rest;
      keeps = λ more low.
          let e : more ≡ 0 = omega (arith, low, none) in
          let a : length p.lengths ≤ p.reads_answered + more = omega (arith, h.answered) in
          subst (λ l. RecordsRun (get_or (n.last ∷ n.reads) more n.last) (reference service p.taken l)) (sym (take_all (p.reads_answered + more) p.lengths a))
          (subst (λ m. RecordsRun (get_or (n.last ∷ n.reads) m n.last) (whole_run service p)) (sym e) (record { made = h.last.0 ∙ h.run.made; closed = h.last.1 ∙ h.run.closed }));
      reported = ap lengths_of h.reads ∙ sym (drop-length p.lengths) ∙ ap (λ k. drop k p.lengths) (sym h.answered);
      numbered = subst (IsNumbered p.reads_answered) (sym h.reads) tt;
      unanswered = omega (arith, none, h.answered);
      read = h.read;
      count = h.count;
      ended = h.ended;
      enough = h.enough;
      fetched = h.fetched;
      shut_logged = λ s. absurd (true≢false (sym s ∙ h.shut));
      shut_given = λ s. absurd (true≢false (sym s ∙ h.shut));
    }

-- all that may leave is given, or the room is used up
pub all_or_room : {S : Type 0} (service : Machine S) (p : Point) (room given : ℕ) → given ≤ released service p → (given + given_more service p room given ≡ released service p) ⊎ (given_more service p room given ≡ room)
all_or_room service p room given h = grind (arith, h)
