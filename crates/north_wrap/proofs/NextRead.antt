-- The north wrapper's next read is that of the law.
use Rattle.std.proofs.Common.{◌≡◌, ℕ, ◌+◌, ◌-◌, ◌≤◌, ◌^◌, ◌==◌, ◌&&◌, Bool, true, false, not, min, max, sum, nat_lt, nat_le, ap, ◌∙◌, Some, None, length, take, arith, length-drop, length-take, if◌then◌else◌}
use Rattle.std.specs.List.{list_any}
use Rattle.server_trait.specs.Service.{Machine, reference}
use Rattle.ft_model.specs.Point.{Point, made, released}
use Rattle.ft_model.specs.Reads.{next_read, may_read}
use Rattle.ft_model.specs.Reads as law
use Rattle.north_wrap.specs.NorthState.{NorthState, next_at, next_length, is_free_to_read, length_of_next}
use Rattle.north_wrap.specs.Sockets.{Reader}
use Rattle.north_wrap.specs.Refinement.{NorthStands, QueueStands}

-- the length, over plain numbers
same_length : (fetched read taken : ℕ) (fin ended : Bool) → fetched ≤ taken → length_of_next (fetched - read) (taken - max fetched read) (fin && (taken - max fetched read == 0)) ended
    ≡ (if nat_lt read fetched then Some (min 2048 (fetched - read)) else (if nat_lt read taken then Some (min 2048 (taken - read)) else (if fin && not ended then Some 0 else None)))
same_length fetched read taken true true h = grind (arith, h)
same_length fetched read taken true false h = grind (arith, h)
same_length fetched read taken false true h = grind (arith, h)
same_length fetched read taken false false h = grind (arith, h)

pub rest_length : {S : Type 0} (service : Machine S) (p : Point) (given : ℕ) (n : NorthState S) → NorthStands service p given n → length n.rest ≡ p.fetched - sum p.lengths
rest_length service p given n st =
    ap length st.rest ∙ length-drop (sum p.lengths) (take p.fetched p.taken) ∙ ap (λ k. k - sum p.lengths) (length-take p.fetched p.taken ∙ omega (arith, st.fetched))

pub same_next : {S K : Type 0} (service : Machine S) (r : Reader K) (p : Point) (given : ℕ) (n : NorthState S) (s : K) → NorthStands service p given n → QueueStands p (r.unread s) (r.has_end s)
    → next_at r p.una n s ≡ next_read service p
unfolding next_length may_read law.next_length
same_next service r p given n s st so =
    let made_is : n.run.made ≡ made service p = st.run.made in
    let keeps = st.keeps 0 (omega arith) in
    let last : n.last.made ≡ released service p = keeps.made ∙ (let e : p.reads_answered + 0 ≡ p.reads_answered = omega arith in ap (λ a. length (reference service p.taken (take a p.lengths)).output) e) in
    let few : length n.reads ≡ length p.lengths - p.reads_answered = omega (arith, st.unanswered) in
    let rest : length n.rest ≡ p.fetched - sum p.lengths =
    ap length st.rest ∙ length-drop (sum p.lengths) (take p.fetched p.taken) ∙ ap (λ k. k - sum p.lengths) (length-take p.fetched p.taken ∙ omega (arith, st.fetched)) in
    let unread : length (r.unread s) ≡ length p.taken - max p.fetched (sum p.lengths) = ap length so.waits ∙ length-drop (max p.fetched (sum p.lengths)) p.taken in
    let go : is_free_to_read p.una n ≡ may_read service p =
    λ j. nat_le (made_is j) (min (last j) (p.una + 65535)) && nat_le (made_is j) (2 ^ 24 - 2 ^ 20) && nat_lt (few j) 32 in
    let long : length_of_next (length n.rest) (length (r.unread s)) (r.has_end s && (length (r.unread s) == 0)) n.ended ≡ law.next_length p =
    (λ j. length_of_next (rest j) (unread j) (so.fin j && (unread j == 0)) (st.ended j)) ∙ same_length p.fetched (sum p.lengths) (length p.taken) p.fin (list_any (λ k. k == 0) p.lengths) st.fetched in
    λ j. if go j then long j else None
