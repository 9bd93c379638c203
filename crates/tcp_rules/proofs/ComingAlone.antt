-- Where nothing is held: text in order is taken up to the edge, and the FIN at its end. Nothing of it stays held.
use Rattle.std.proofs.Common.{◌≡◌, ℕ, zero, suc, ◌+◌, ◌-◌, Bool, true, false, ◌==◌, ◌&&◌, ◌||◌, not, refl, sym, ap, ◌∙◌, subst, true≢false, Option, Some, None, List, [], ◌∷◌, ◌++◌, length, take, drop, append-nil, length-take, length-drop, arith, eqb-true}
use Rattle.std.specs.Prelude.{ℤ, pos, negsuc, ◌+ℤ◌, nat_abs, nat_le, nat_lt, int_lt, int_le, if◌then◌else◌}
use Rattle.std.proofs.Math.Seq.{drop-nil}
use Rattle.std.proofs.lemmas.Int.{ints}
use Rattle.std.proofs.lemmas.Bool.{and_parts, eqb-false}
use Rattle.ft_io.proofs.Choices.{by_cases, holds_if, if_false}
use Rattle.ft_io.proofs.Booleans.{or_false, or_true}
use Rattle.tcp_rules.specs.Arrival.{int_eq, below}
use Rattle.tcp_rules.specs.Early.{laid, run_count, most_runs, held_with, front_run, behind_front_run, holds_some}
use Rattle.tcp_rules.specs.Coming.{nothing_early, Came, nothing_came, ahead, new_text, with_text, holds_fin, with_fin, continued, stands_at, with_fin_taken, comes}
use Rattle.tcp_rules.proofs.Shifts.{below_low}
use Rattle.tcp_rules.proofs.ComingKeeps.{FinFits, fin_fits, behind_gap, nothing_new, no_room, and_false}

-- the text in order up to the edge
abbrev pub in_order : (n edge : ℕ) → Bool → ℤ → List ℕ → List ℕ
in_order n edge fin first text = if fin || int_lt (pos n) first then [] else take (edge - n) (drop (below n first) text)

-- a FIN at the end of the bytes taken, below the edge
abbrev pub ends_at : (end edge : ℕ) → ℤ → List ℕ → Bool
ends_at end edge first text = int_eq (first +ℤ pos (length text)) (pos end) && nat_lt end edge

pub record ComesAlone (n edge : ℕ) (was : Bool) (first : ℤ) (text : List ℕ) (has_fin : Bool) (c : Came) : Type 0 where
  pub added : c.added ≡ in_order n edge was first text
  pub fin : c.fin ≡ (was || (has_fin && ends_at (n + length c.added) edge first text))
  pub early : int_lt (pos n) first ≡ false → c.early ≡ nothing_early

not_ahead : (n : ℕ) (first : ℤ) → ahead n first ≡ 0 → int_lt (pos n) first ≡ false
not_ahead n (pos f) e = grind (arith, ints, e)
not_ahead n (negsuc b) e = grind (arith, ints)

is_ahead : (n : ℕ) (first : ℤ) → (ahead n first == 0) ≡ false → int_lt (pos n) first ≡ true
is_ahead n (pos f) e = grind (arith, ints, e)
is_ahead n (negsuc b) e = absurd (true≢false e)

-- what comes where text and FIN have been looked at
stood : List ℕ → List (Option ℕ) → Option ℕ → Bool → Came
stood added text o fin = record { added = added; early = record { text = text; fin = o }; fin = fin }

-- the FIN of the segment, where it is held
own : Bool → ℤ → Option ℕ
own b place = if b then Some (nat_abs place) else None

fin_added : (n edge : ℕ) (place : ℤ) (has_fin fin : Bool) (added : List ℕ) (text : List (Option ℕ))
    → with_fin n edge place has_fin (stood added text None fin) ≡ stood added text (own (has_fin && holds_fin n edge place (stood added text None fin)) place) fin
unfolding with_fin stood own
fin_added n edge place has_fin fin added text = either (has_fin && holds_fin n edge place (stood added text None fin))
  where
    either : (b : Bool) → (if b then record (stood added text None fin) { early = record { text = text; fin = Some (nat_abs place) } } else stood added text None fin)
        ≡ stood added text (if b then Some (nat_abs place) else None) fin
    either true = refl
    either false = refl

no_more : (added : List ℕ) (text : List (Option ℕ)) (o : Option ℕ) (fin : Bool) → front_run text ≡ [] → behind_front_run text ≡ text
    → continued (stood added text o fin) ≡ stood added text o fin
unfolding continued stood
no_more added text o fin gap same = λ i. record { added = (ap (λ l. added ++ l) gap ∙ append-nil added) i; early = record { text = same i; fin = o }; fin = fin }

ended_by : (n : ℕ) (added : List ℕ) (text : List (Option ℕ)) (o : Option ℕ) (fin : Bool) → (with_fin_taken n (stood added text o fin)).fin ≡ (fin || stands_at (n + length added) o)
unfolding with_fin_taken stood
ended_by n added text o fin = either (stands_at (n + length added) o) fin
  where
    either : (b f : Bool) → (if b then record (stood added text o f) { early = record { text = text; fin = None }; fin = true } else stood added text o f).fin ≡ (f || b)
    either true f = or_true f
    either false f = or_false f

added_by : (n : ℕ) (added : List ℕ) (text : List (Option ℕ)) (o : Option ℕ) (fin : Bool) → (with_fin_taken n (stood added text o fin)).added ≡ added
unfolding with_fin_taken stood
added_by n added text o fin = holds_if (λ (c : Came). c.added ≡ added) (stands_at (n + length added) o) _ (stood added text o fin) (λ t. refl) (λ t. refl)

bare_past : (k : ℕ) → not (holds_some (drop k [])) ≡ true
unfolding holds_some
bare_past zero = refl
bare_past (suc k) = refl

stands_own : (end : ℕ) (b : Bool) (place : ℤ) → stands_at end (own b place) ≡ (b && (nat_abs place == end))
unfolding own
stands_own end true place = refl
stands_own end false place = refl

same_end : (place : ℤ) (end : ℕ) → int_le (pos end) place ≡ true → (nat_abs place == end) ≡ int_le place (pos end)
same_end (pos p) end h = grind (arith, ints, h)
same_end (negsuc p) end h = absurd (grind (arith, ints, h))

same_edge : (place : ℤ) (end edge : ℕ) → int_le place (pos end) ≡ true → int_le (pos end) place ≡ true → int_lt place (pos edge) ≡ nat_lt end edge
same_edge place end edge t u = grind (arith, ints, t, u)

tests : (high up here under more : Bool) → (up ≡ true → here ≡ under) → (under ≡ true → up ≡ true → high ≡ more)
    → (high && up && true && true && true && here) ≡ (under && up && more)
tests true true here true more p q = p refl ∙ q refl refl
tests true true here false more p q = p refl
tests false true here true more p q = q refl refl
tests false true here false more p q = refl
tests true false here true more p q = refl
tests true false here false more p q = refl
tests false false here true more p q = refl
tests false false here false more p q = refl

-- in order, the FIN is held and taken where it ends the bytes taken
at_end : (n edge : ℕ) (place : ℤ) (has_fin : Bool) (added : List ℕ)
    → stands_at (n + length added) (own (has_fin && holds_fin n edge place (stood added [] None false)) place) ≡ (has_fin && (int_eq place (pos (n + length added)) && nat_lt (n + length added) edge))
unfolding holds_fin stood own
at_end n edge place false added = refl
at_end n edge place true added =
    let end : ℕ = n + length added in
    stands_own end (int_lt place (pos edge) && int_le (pos end) place && not (holds_some (drop (nat_abs place - end) [])) && true && true) place
    ∙ ap (λ b. int_lt place (pos edge) && int_le (pos end) place && b && true && true && (nat_abs place == end)) (bare_past (nat_abs place - end))
    ∙ tests (int_lt place (pos edge)) (int_le (pos end) place) (nat_abs place == end) (int_le place (pos end)) (nat_lt end edge) (same_end place end) (same_edge place end edge)

-- the text of a segment that isn't ahead, and of one that is
text_here : (n edge : ℕ) (fin : Bool) (first : ℤ) (text : List ℕ) → (ahead n first == 0) ≡ true
    → with_text n edge first text (nothing_came nothing_early fin) ≡ stood (new_text n edge fin nothing_early first text) [] None fin
unfolding with_text stood
text_here n edge fin first text t =
    let new : List ℕ = new_text n edge fin nothing_early first text in
    ap (λ b. if b then record { added = new; early = record { text = drop (length new) []; fin = None }; fin = fin }
    else record { added = []; early = record { text = held_with (ahead n first) new []; fin = None }; fin = fin }) t
    ∙ ap (λ l. record { added = new; early = record { text = l; fin = None }; fin = fin }) (drop-nil (length new))

text_away : (n edge : ℕ) (fin : Bool) (first : ℤ) (text : List ℕ) → (ahead n first == 0) ≡ false
    → with_text n edge first text (nothing_came nothing_early fin) ≡ stood [] (held_with (ahead n first) (new_text n edge fin nothing_early first text) []) None fin
unfolding with_text stood
text_away n edge fin first text t =
    let new : List ℕ = new_text n edge fin nothing_early first text in
    ap (λ b. if b then record { added = new; early = record { text = drop (length new) []; fin = None }; fin = fin }
    else record { added = []; early = record { text = held_with (ahead n first) new []; fin = None }; fin = fin }) t

gap_laid : (at : ℕ) (new : List ℕ) → (at == 0) ≡ false → front_run (held_with at new []) ≡ []
unfolding held_with front_run laid
gap_laid zero new e = absurd (true≢false e)
gap_laid (suc k) [] e = holds_if (λ (l : List (Option ℕ)). front_run l ≡ []) (nat_le (run_count (laid (suc k) [] [])) most_runs) _ _ (λ t. refl) (λ t. refl)
gap_laid (suc k) (x ∷ new) e = holds_if (λ (l : List (Option ℕ)). front_run l ≡ []) (nat_le (run_count (laid (suc k) (x ∷ new) [])) most_runs) _ _ (λ t. refl) (λ t. refl)

-- all of it, from what the text makes
comes_as : (n edge : ℕ) (fin : Bool) (first : ℤ) (text : List ℕ) (has_fin : Bool) (added : List ℕ) (held : List (Option ℕ))
    → with_text n edge first text (nothing_came nothing_early fin) ≡ stood added held None fin → front_run held ≡ []
    → comes n edge fin nothing_early first text has_fin
    ≡ with_fin_taken n (stood added held (own (has_fin && holds_fin n edge (first +ℤ pos (length text)) (stood added held None fin)) (first +ℤ pos (length text))) fin)
unfolding comes
comes_as n edge fin first text has_fin added held e gap =
    let place : ℤ = first +ℤ pos (length text) in
    ap (λ c. with_fin_taken n (continued (with_fin n edge place has_fin c))) e
    ∙ ap (λ c. with_fin_taken n (continued c)) (fin_added n edge place has_fin fin added held)
    ∙ ap (with_fin_taken n) (no_more added held (own (has_fin && holds_fin n edge place (stood added held None fin)) place) fin gap (behind_gap held gap))

same_text : (n edge : ℕ) (first : ℤ) (text : List ℕ) → ahead n first ≡ 0 → new_text n edge false nothing_early first text ≡ in_order n edge false first text
unfolding new_text
same_text n edge first text e =
    let room : edge - (n + ahead n first) ≡ edge - n = omega (arith, e) in
    ap (λ k. take k (drop (below n first) text)) room
    ∙ ap (λ b. if b then [] else take (edge - n) (drop (below n first) text)) (sym (not_ahead n first e))

-- a FIN that is held, of a text in order, stands at the end of what is taken
text_ends : (n edge : ℕ) (first : ℤ) (text added : List ℕ) → added ≡ take (edge - n) (drop (below n first) text) → int_lt (pos n) first ≡ false
    → FinFits n edge (first +ℤ pos (length text)) (stood added [] None false) → nat_abs (first +ℤ pos (length text)) ≡ n + length added
unfolding stood
text_ends n edge first text added e near f =
    let at : (first +ℤ pos (below n first)) ≡ pos n = below_low n first (grind (arith, ints, near)) in
    let size : length added ≡ length (take (edge - n) (drop (below n first) text)) = ap length e in
    grind (arith, ints, at, size, length-take (edge - n) (drop (below n first) text), length-drop (below n first) text, f.at, f.past.0, f.past.1)

all_taken : (n : ℕ) (added : List ℕ) (b : Bool) (place : ℤ) → (b ≡ true → nat_abs place ≡ n + length added)
    → (with_fin_taken n (stood added [] (own b place) false)).early ≡ nothing_early
unfolding with_fin_taken stood own
all_taken n added false place h = refl
all_taken n added true place h =
    holds_if (λ (c : Came). c.early ≡ nothing_early) (nat_abs place == n + length added) _ _ (λ t. refl) (λ t. absurd (eqb-false (nat_abs place) (n + length added) t (h refl)))

alone_ended : (n edge : ℕ) (first : ℤ) (text : List ℕ) (has_fin : Bool) → comes n edge true nothing_early first text has_fin ≡ nothing_came nothing_early true
unfolding new_text holds_fin front_run
alone_ended n edge first text has_fin =
    nothing_new n edge true nothing_early first text has_fin refl tt (no_room (n - (n + ahead n first)) (drop (below n first) text) (omega arith))
    (and_false has_fin _ (and_false _ (not true) refl))

no_gap : front_run [] ≡ []
unfolding front_run
no_gap = refl

alone_here : (n edge : ℕ) (first : ℤ) (text : List ℕ) (has_fin : Bool) → (ahead n first == 0) ≡ true
    → ComesAlone n edge false first text has_fin (comes n edge false nothing_early first text has_fin)
alone_here n edge first text has_fin t =
    let place : ℤ = first +ℤ pos (length text) in
    let new : List ℕ = new_text n edge false nothing_early first text in
    let b : Bool = has_fin && holds_fin n edge place (stood new [] None false) in
    let here : ahead n first ≡ 0 = eqb-true (ahead n first) 0 t in
    let same : new ≡ in_order n edge false first text = same_text n edge first text here in
    let plain : new ≡ take (edge - n) (drop (below n first) text) =
    same ∙ ap (λ b. if b then [] else take (edge - n) (drop (below n first) text)) (not_ahead n first here) in
    subst (ComesAlone n edge false first text has_fin) (sym (comes_as n edge false first text has_fin new [] (text_here n edge false first text t) no_gap))
    (record {
      added = added_by n new [] (own b place) false ∙ same;
      fin = ended_by n new [] (own b place) false ∙ at_end n edge place has_fin new
          ∙ ap (λ l. has_fin && ends_at (n + length l) edge first text) (sym (added_by n new [] (own b place) false));
      early = λ near. all_taken n new b place (λ h. text_ends n edge first text new plain near (fin_fits n edge place (stood new [] None false) (and_parts has_fin _ h).1));
    })

not_here : (n : ℕ) (b : Bool) (first : ℤ) (size : ℕ) → int_lt (pos n) first ≡ true → stands_at (n + 0) (own b (first +ℤ pos size)) ≡ false
not_here n b first size h = stands_own (n + 0) b (first +ℤ pos size) ∙ and_false b (nat_abs (first +ℤ pos size) == n + 0) (past first h)
  where
    past : (first : ℤ) → int_lt (pos n) first ≡ true → (nat_abs (first +ℤ pos size) == n + 0) ≡ false
    past (pos f) h = grind (arith, ints, h)
    past (negsuc f) h = absurd (grind (arith, ints, h))

none_taken : (n : ℕ) (held : List (Option ℕ)) (o : Option ℕ) → stands_at (n + 0) o ≡ false → with_fin_taken n (stood [] held o false) ≡ stood [] held o false
unfolding with_fin_taken stood
none_taken n held o e = if_false (stands_at (n + 0) o) _ (stood [] held o false) e

-- .. after a gap it isn't
no_end : (n edge : ℕ) (first : ℤ) (text : List ℕ) (has_fin : Bool) → int_lt (pos n) first ≡ true → (has_fin && ends_at (n + 0) edge first text) ≡ false
no_end n edge first text has_fin h =
    let past : int_eq (first +ℤ pos (length text)) (pos (n + 0)) ≡ false = grind (arith, ints, h) in
    and_false has_fin (ends_at (n + 0) edge first text) (ap (λ b. b && nat_lt (n + 0) edge) past)

stood_alone : (n edge : ℕ) (first : ℤ) (text : List ℕ) (has_fin : Bool) (held : List (Option ℕ)) (o : Option ℕ) → int_lt (pos n) first ≡ true
    → ComesAlone n edge false first text has_fin (stood [] held o false)
unfolding stood
stood_alone n edge first text has_fin held o h = record {
  added = ap (λ b. if b then [] else take (edge - n) (drop (below n first) text)) (sym h);
  fin = sym (no_end n edge first text has_fin h);
  early = λ near. absurd (true≢false (sym h ∙ near));
}

alone_away : (n edge : ℕ) (first : ℤ) (text : List ℕ) (has_fin : Bool) → (ahead n first == 0) ≡ false
    → ComesAlone n edge false first text has_fin (comes n edge false nothing_early first text has_fin)
alone_away n edge first text has_fin t =
    let place : ℤ = first +ℤ pos (length text) in
    let new : List ℕ = new_text n edge false nothing_early first text in
    let held : List (Option ℕ) = held_with (ahead n first) new [] in
    let o : Option ℕ = own (has_fin && holds_fin n edge place (stood [] held None false)) place in
    let h : int_lt (pos n) first ≡ true = is_ahead n first t in
    subst (ComesAlone n edge false first text has_fin)
    (sym (comes_as n edge false first text has_fin [] held (text_away n edge false first text t) (gap_laid (ahead n first) new t)
    ∙ none_taken n held o (not_here n (has_fin && holds_fin n edge place (stood [] held None false)) first (length text) h)))
    (stood_alone n edge first text has_fin held o h)

pub comes_alone : (n edge : ℕ) (fin : Bool) (first : ℤ) (text : List ℕ) (has_fin : Bool)
    → ComesAlone n edge fin first text has_fin (comes n edge fin nothing_early first text has_fin)
comes_alone n edge true first text has_fin =
    subst (ComesAlone n edge true first text has_fin) (sym (alone_ended n edge first text has_fin)) (record { added = refl; fin = refl; early = λ near. refl })
comes_alone n edge false first text has_fin = by_cases (ahead n first == 0) (alone_here n edge first text has_fin) (alone_away n edge first text has_fin)
