-- The mark that a connection makes is that of its point, where one is due there.
use Rattle.std.proofs.Common.{◌≡◌, ◌∙◌, ℕ, ◌<◌, ◌≤◌, ◌+◌, Bool, true, false, true≢false, ◌&&◌, nat_le, nat_lt, is_none, refl, sym, ap, arith, Option, Some, None, List, [], length, if◌then◌else◌}
use Rattle.std.specs.Prelude.{◌↔◌}
use Rattle.ft_io.proofs.Choices.{by_cases}
use Rattle.server_trait.specs.Service.{Machine, reference, cut, AreBytes}
use Rattle.server_trait.specs.Saved.{Writing, ReadsBack}
use Rattle.ft_model.specs.Point.{Point, whole_run}
use Rattle.ft_model.proofs.Wires.{is_low}
use Rattle.ft_model.proofs.Formed.{bytes_cut}
use Rattle.mark_laws.specs.Marking.{Marking, with_new}
use Rattle.mark_laws.specs.Quiet.{IsQuiet, is_quiet}
use Rattle.wrapped_conn.specs.ConnState.{ConnState}
use Rattle.wrapped_conn.specs.declared.quiet.Quiet.{Quiet}
use Rattle.wrapped_conn.specs.Quiet.{quiet_in, quiet_at, ReportsQuiet}
use Rattle.wrapped_conn.specs.Sound.{IsSound}
use Rattle.wrapped_conn.specs.Refinement.{Stands, Reports}
use Rattle.wrapped_conn.proofs.Lending.{reports}
use Rattle.wrapped_conn.proofs.Quieting.{reports_quiet, service_is}
use Rattle.conn_marks.specs.Marks.{due_in, with_due, mark_with}

-- the four tests, where the connection is quiet and where it isn't
abbrev marked_at : Quiet → List ℕ → Marking
marked_at quiet state = record { last = quiet.reads; outstanding = Some (mark_with quiet state) }

where_quiet : (a b n : Bool) (quiet : Quiet) (state : List ℕ) (m : Marking) → (a ≡ true → nat_le (length state) 1100 ≡ true)
    → with_due (if a && b && n then Some quiet else None) state m ≡ (if a && b && true && n then marked_at quiet state else m)
where_quiet true true true quiet state m short = ap (λ x. if x then marked_at quiet state else m) (short refl)
where_quiet true true false quiet state m short = refl
where_quiet true false true quiet state m short = refl
where_quiet true false false quiet state m short = refl
where_quiet false true true quiet state m short = refl
where_quiet false true false quiet state m short = refl
where_quiet false false true quiet state m short = refl
where_quiet false false false quiet state m short = refl

where_not : (t a b n : Bool) (state : List ℕ) (m other : Marking) → with_due (if t then None else None) state m ≡ (if a && b && false && n then other else m)
where_not true true true n state m other = refl
where_not true true false n state m other = refl
where_not true false b n state m other = where_not_first true b n state m other
  where
    where_not_first : (t b n : Bool) (state : List ℕ) (m other : Marking) → with_due (if t then None else None) state m ≡ (if false && b && false && n then other else m)
    where_not_first true b n state m other = refl
    where_not_first false b n state m other = refl
where_not false true true n state m other = refl
where_not false true false n state m other = refl
where_not false false b n state m other = refl

no_quiet : (o : Option Quiet) → ((quiet : Quiet) → o ≡ Some quiet → ⊥) → o ≡ None
no_quiet None never = refl
no_quiet (Some quiet) never = absurd (never quiet refl)

pub advances : {S : Type 0} (service : Machine S) (written : Writing S) (every : ℕ) (p : Point) (m : Marking) (c : ConnState S) → ((s : S) → (service.after s []).closed ≡ true)
    → ((is_quiet service p ≡ true) ↔ IsQuiet service p) → IsSound c → Stands service c p → (0 < every → IsQuiet service p → length (written.form (whole_run service p).state) ≤ 1100)
    → with_due (due_in every m c) (written.form c.north.run.service) m ≡ with_new service written every p m
advances service written every p m c ends found sound st short =
    let reported : Reports p c = reports service p c sound st in
    let quiet : ReportsQuiet service p (quiet_in c) = reports_quiet service p c ends sound st in
    let state : List ℕ = written.form (whole_run service p).state in
    let same : with_due (due_in every m c) (written.form c.north.run.service) m
    ≡ with_due (if nat_lt 0 every && is_none m.outstanding && nat_le (m.last + every) (length p.lengths) then quiet_in c else None) state m =
    λ j. with_due (if nat_lt 0 every && is_none m.outstanding && nat_le (m.last + every) (reported.reads j) then quiet_in c else None)
    (written.form (service_is service p c st j)) m in
    same
    ∙ by_cases (is_quiet service p)
    (λ on. let is : IsQuiet service p = found.0 on in
    ap (λ o. with_due (if nat_lt 0 every && is_none m.outstanding && nat_le (m.last + every) (length p.lengths) then o else None) state m) (quiet.there is)
    ∙ (where_quiet (nat_lt 0 every) (is_none m.outstanding) (nat_le (m.last + every) (length p.lengths)) (quiet_at service p) state m
    (λ some. is_low (length state) 1100 (short (grind (arith, some)) is))
    ∙ ap (λ b. if nat_lt 0 every && is_none m.outstanding && b && nat_le (m.last + every) (length p.lengths) then marked_at (quiet_at service p) state else m) (sym on)))
    (λ off. let never : quiet_in c ≡ None = no_quiet (quiet_in c) (λ q e. true≢false (sym (found.1 (quiet.only_there q e)) ∙ off)) in
    ap (λ o. with_due (if nat_lt 0 every && is_none m.outstanding && nat_le (m.last + every) (length p.lengths) then o else None) state m) never
    ∙ (where_not (nat_lt 0 every && is_none m.outstanding && nat_le (m.last + every) (length p.lengths)) (nat_lt 0 every) (is_none m.outstanding)
    (nat_le (m.last + every) (length p.lengths)) state m (marked_at (quiet_at service p) state)
    ∙ ap (λ b. if nat_lt 0 every && is_none m.outstanding && b && nat_le (m.last + every) (length p.lengths) then marked_at (quiet_at service p) state else m) (sym off)))

-- a form is short enough where the state is that of a run over bytes that hasn't closed
pub short_form : {S : Type 0} (service : Machine S) (written : Writing S) (p : Point) → ReadsBack service written → AreBytes p.taken → IsQuiet service p
    → length (written.form (whole_run service p).state) ≤ 1100
unfolding reference
short_form service written p reads_back bytes quiet = (reads_back (cut p.taken p.lengths) (bytes_cut p.taken p.lengths bytes) quiet.running).short
