-- After a turn no mark is due: it was made in the turn.
use Rattle.std.proofs.Common.{◌≡◌, ℕ, ◌+◌, Bool, true, false, true≢false, ◌&&◌, sym, ap, ◌∙◌, subst, refl, Option, Some, None, List, [], ◌∷◌, length, if◌then◌else◌}
use Rattle.std.specs.Prelude.{nat_lt, nat_le, is_none}
use Rattle.ft_io.specs.declared.Addr.{Addr}
use Rattle.ft_io.proofs.Choices.{by_cases, if_false}
use Rattle.ft_io.proofs.Booleans.{second_of_four}
use Rattle.seq_arith.specs.Mark.{Mark}
use Rattle.ft_model.specs.Connection.{ConnectionTurn, LiveTurn, ResetTurn}
use Rattle.ft_model.specs.Network.{Packet}
use Rattle.ft_model.specs.News.{News}
use Rattle.ft_model.specs.Point.{Point}
use Rattle.ft_model.proofs.StageTurns.{either_turn}
use Rattle.ft_model.proofs.TurnReports.{settled_reads}
use Rattle.mark_laws.specs.Quiet.{is_quiet, mark_of}
use Rattle.mark_laws.specs.Marking.{Marking, IsSettled, is_due, with_new, new_marks, outstanding_in}
use Rattle.mark_laws.proofs.MarksSent.{not_twice}
use Rattle.mark_laws.specs.MarkedNode.{Marker}

-- where no mark is due none is made
pub new_same : {State : Type 0} (by : Marker State) (m : Marking) (p : Point) → is_due by.service by.every m p ≡ false → with_new by.service by.writing by.every p m ≡ m
new_same by m p off = if_false (is_due by.service by.every m p) (record { last = length p.lengths; outstanding = Some (mark_of by.service by.writing p) }) m off

pub none_due : {State : Type 0} (by : Marker State) (m : Marking) (p : Point) → is_due by.service by.every (with_new by.service by.writing by.every p m) p ≡ false
none_due by m p =
    by_cases (is_due by.service by.every m p)
    (λ due. subst (λ b. is_due by.service by.every (if b then record { last = length p.lengths; outstanding = Some (mark_of by.service by.writing p) } else m) p ≡ false) (sym due)
    (not_twice (nat_lt 0 by.every) (is_quiet by.service p) (nat_le (length p.lengths + by.every) (length p.lengths))))
    (λ off. subst (λ x. is_due by.service by.every x p ≡ false) (sym (new_same by m p off)) off)

pub settles : {State : Type 0} (by : Marker State) (server : Addr) (boot : ℕ) (news : News) (p q : Point) (m : Marking) (sent : List Packet) → ConnectionTurn by.service server boot news p q sent
    → IsSettled by.service by.every (with_new by.service by.writing by.every q m) q
settles by server boot news p q m sent t = record {
  marked = none_due by m q;
  read_out = either_turn by.service server boot news p q sent
      (λ (r : ResetTurn boot news p q sent). λ live. absurd (true≢false (sym (ap (λ (x : Point). x.reset) r.point) ∙ live)))
      (λ (l : LiveTurn by.service server boot news p q sent). λ live. settled_reads by.service server boot news p q sent l) t;
}

due_changes : {State : Type 0} (by : Marker State) (m : Marking) (p : Point) (b : Bool) → is_due by.service by.every m p ≡ b
    → m ≡ (if b then record { last = length p.lengths; outstanding = Some (mark_of by.service by.writing p) } else m) → is_due by.service by.every m p ≡ false
due_changes by m p true due is =
    absurd (true≢false (sym (second_of_four (nat_lt 0 by.every) (is_none m.outstanding) (is_quiet by.service p) (nat_le (m.last + by.every) (length p.lengths)) due) ∙ ap (λ (x : Marking). is_none x.outstanding) is))
due_changes by m p false off is = off

pub same_due : {State : Type 0} (by : Marker State) (m : Marking) (p : Point) → m ≡ with_new by.service by.writing by.every p m → is_due by.service by.every m p ≡ false
same_due by m p same = due_changes by m p (is_due by.service by.every m p) refl same

-- the marks that are made are those that are outstanding where none was
pub made_are : {State : Type 0} (by : Marker State) (m : Marking) (p : Point)
    → new_marks by.service by.writing by.every m p ≡ (if is_none m.outstanding then outstanding_in (with_new by.service by.writing by.every p m) else [])
made_are by m p = go m.outstanding
  where
    go : (o : Option Mark) → new_marks by.service by.writing by.every (record m { outstanding = o }) p
        ≡ (if is_none o then outstanding_in (with_new by.service by.writing by.every p (record m { outstanding = o })) else [])
    go None = none (is_due by.service by.every (record m { outstanding = None }) p)
      where
        none : (b : Bool) → (if b then mark_of by.service by.writing p ∷ [] else [])
            ≡ outstanding_in (if b then record { last = length p.lengths; outstanding = Some (mark_of by.service by.writing p) } else record m { outstanding = None })
        none true = refl
        none false = refl
    go (Some mark) = if_false (is_due by.service by.every (record m { outstanding = Some mark }) p) (mark_of by.service by.writing p ∷ []) [] (off (nat_lt 0 by.every) (is_quiet by.service p) (nat_le (m.last + by.every) (length p.lengths)))
      where
        off : (a b c : Bool) → (a && false && b && c) ≡ false
        off a b c = not_twice a b c
