-- The lines of packets that were stored are the lines that a report has of what was sent.
use Rattle.std.proofs.Common.{◌≡◌, ◌∙◌, ℕ, zero, suc, ◌+◌, ◌-◌, ◌<◌, ◌≤◌, Option, None, Some, IsSome, IfSome, List, [], ◌∷◌, ◌++◌, length, map, slice_get, refl, sym, ap, ap₂, subst, arith, append_assoc, append-nil, length-append}
use Rattle.std.specs.Option.{option_map_or}
use Rattle.std.specs.List.{AllByRecursion}
use Rattle.seq_arith.specs.declared.kinds.Grammar.{Grammar}
use Rattle.ft_model.specs.declared.way.Way.{Way}
use Rattle.ft_model.specs.Report.{line_of_packet}
use Rattle.ft_model.proofs.Lists.{some_is, none_is_some}
use Rattle.ft_model.proofs.FormedWorld.{all_behind}
use Rattle.schedule_network.specs.AtNumber.{at_number}
use Rattle.schedule_network.specs.StoredPackets.{Carried}
use Rattle.schedule_text.specs.Bytes.{content_by}
use Rattle.replay_run.specs.PacketLines.{line_of, stored_line, stored_lines}
use Rattle.replay_run.proofs.Following.{AreLines}

-- the line of a packet is written
pub line_written : (grammar : Grammar) (kept : Carried) (n : ℕ) (way : Way) (bytes now next : List ℕ) → at_number kept.ways n ≡ Some way → at_number kept.bytes n ≡ Some bytes → IsSome (content_by grammar way bytes)
    → IfSome (content_by grammar way bytes) (λ words. next ≡ now ++ line_of_packet n way words) → next ≡ now ++ stored_line grammar kept n
line_written grammar kept n way bytes now next e f can written = by_words (content_by grammar way bytes) can written ∙ sym (ap₂ (λ w b. now ++ line_of grammar n w b) e f)
  where
    by_words : (o : Option (List (List ℕ))) → IsSome o → IfSome o (λ words. next ≡ now ++ line_of_packet n way words) → next ≡ now ++ option_map_or (line_of_packet n way) o []
    by_words None can written = absurd (cc)
    by_words (Some words) can written = written

-- .. or there is no such packet
pub no_way_there : (grammar : Grammar) (kept : Carried) (n : ℕ) (now : List ℕ) → at_number kept.ways n ≡ None → now ≡ now ++ stored_line grammar kept n
no_way_there grammar kept n now e = sym (ap (λ w. now ++ line_of grammar n w (at_number kept.bytes n)) e ∙ append-nil now)

pub no_bytes_there : (grammar : Grammar) (kept : Carried) (n : ℕ) (now : List ℕ) → at_number kept.bytes n ≡ None → now ≡ now ++ stored_line grammar kept n
no_bytes_there grammar kept n now e = sym (ap (λ b. now ++ line_of grammar n (at_number kept.ways n) b) e ∙ ap (λ l. now ++ l) (nothing (at_number kept.ways n)) ∙ append-nil now)
  where
    nothing : (o : Option Way) → line_of grammar n o None ≡ []
    nothing None = refl
    nothing (Some way) = refl

-- one line more is written, and one less is left
pub next_stored : (grammar : Grammar) (kept : Carried) (first count k : ℕ) (now next whole : List ℕ) → k < count → next ≡ now ++ stored_line grammar kept (first + k) → now ++ stored_lines grammar kept (first + k) (count - k) ≡ whole
    → next ++ stored_lines grammar kept (first + (k + 1)) (count - (k + 1)) ≡ whole
next_stored grammar kept first count k now next whole within written so_far =
    let left : count - k ≡ suc (count - (k + 1)) = omega arith in
    let place : first + (k + 1) ≡ first + k + 1 = omega arith in
    ap₂ (λ l n. l ++ stored_lines grammar kept n (count - (k + 1))) written place
    ∙ append_assoc now (stored_line grammar kept (first + k)) (stored_lines grammar kept (first + k + 1) (count - (k + 1)))
    ∙ sym (ap (λ m. now ++ stored_lines grammar kept (first + k) m) left) ∙ so_far

pub all_stored : (grammar : Grammar) (kept : Carried) (first count k : ℕ) (now whole : List ℕ) → count ≤ k → now ++ stored_lines grammar kept (first + k) (count - k) ≡ whole → now ≡ whole
all_stored grammar kept first count k now whole past so_far =
    let left : count - k ≡ 0 = omega arith in
    sym (append-nil now) ∙ sym (ap (λ m. now ++ stored_lines grammar kept (first + k) m) left) ∙ so_far

first_behind : {X Y : Type 0} (f : X → Y) (before : List X) (x : X) (behind : List X) → slice_get (map f (before ++ x ∷ behind)) (length before) ≡ Some (f x)
first_behind f [] x behind = refl
first_behind f (y ∷ before) x behind = first_behind f before x behind

numbered_behind : {X Y : Type 0} (f : X → Y) (before : List X) (x : X) (behind : List X) → at_number (map f (before ++ x ∷ behind)) (length before + 1) ≡ Some (f x)
numbered_behind f before x behind =
    let next : length before + 1 ≡ suc (length before) = omega arith in
    ap (at_number (map f (before ++ x ∷ behind))) next ∙ first_behind f before x behind

-- things that are stored as directions and bytes
module _ {X : Type 0} (grammar : Grammar) (way : X → Way) (bytes : X → List ℕ) (HasBytes : X → Type 0) where
  found_at : (xs : List X) (i : ℕ) (w : Way) (b : List ℕ) → slice_get (map way xs) i ≡ Some w → slice_get (map bytes xs) i ≡ Some b → AllByRecursion HasBytes xs
      → (x : X) × (way x ≡ w) × (bytes x ≡ b) × HasBytes x
  found_at [] i w b e f h = none_is_some w e
  found_at (x ∷ xs) zero w b e f h = (x, some_is (way x) w e, some_is (bytes x) b f, h.0)
  found_at (x ∷ xs) (suc i) w b e f h = found_at xs i w b e f h.1

  -- each can be read
  pub stored_is_read : (kept : Carried) (all : List X) (n : ℕ) (w : Way) (b : List ℕ) → kept.ways ≡ map way all → kept.bytes ≡ map bytes all → AllByRecursion HasBytes all
      → ((x : X) → HasBytes x → IsSome (content_by grammar (way x) (bytes x))) → at_number kept.ways n ≡ Some w → at_number kept.bytes n ≡ Some b → IsSome (content_by grammar w b)
  stored_is_read kept all zero w b ways_are bytes_are have can e f = none_is_some w e
  stored_is_read kept all (suc i) w b ways_are bytes_are have can e f =
      let x = found_at all i w b (subst (λ ws. slice_get ws i ≡ Some w) ways_are e) (subst (λ bs. slice_get bs i ≡ Some b) bytes_are f) have in
      subst (λ v. IsSome (content_by grammar v b)) x.1 (subst (λ v. IsSome (content_by grammar (way x.0) v)) x.2 (can x.0 x.3))

-- .. and their lines, numbered on
module _ {X : Type 0} (grammar : Grammar) (way : X → Way) (bytes : X → List ℕ) (HasBytes : X → Type 0) (lines : ℕ → List X → List ℕ) (line : ℕ → X → List ℕ)
    (are : AreLines lines line) (nil : (n : ℕ) → lines n [] ≡ []) (reads : (n : ℕ) (x : X) → HasBytes x → line_of grammar n (Some (way x)) (Some (bytes x)) ≡ line n x) where
  abbrev storing : List X → Carried
  storing xs = record { ways = map way xs; bytes = map bytes xs }

  stored_behind : (before sent : List X) → AllByRecursion HasBytes sent → stored_lines grammar (storing (before ++ sent)) (length before + 1) (length sent) ≡ lines (length before + 1) sent
  stored_behind before [] h = sym (nil (length before + 1))
  stored_behind before (x ∷ sent) h =
      let here : line_of grammar (length before + 1) (at_number (map way (before ++ x ∷ sent)) (length before + 1)) (at_number (map bytes (before ++ x ∷ sent)) (length before + 1)) ≡ line (length before + 1) x =
      ap₂ (line_of grammar (length before + 1)) (numbered_behind way before x sent) (numbered_behind bytes before x sent) ∙ reads (length before + 1) x h.0 in
      let others : stored_lines grammar (storing ((before ++ x ∷ []) ++ sent)) (length (before ++ x ∷ []) + 1) (length sent) ≡ lines (length (before ++ x ∷ []) + 1) sent = stored_behind (before ++ x ∷ []) sent h.1 in
      let same : stored_lines grammar (storing (before ++ x ∷ sent)) (length before + 1 + 1) (length sent) ≡ lines (length before + 1 + 1) sent =
      subst (λ n. stored_lines grammar (storing (before ++ x ∷ sent)) (n + 1) (length sent) ≡ lines (n + 1) sent) (length-append before (x ∷ []))
      (subst (λ xs. stored_lines grammar (storing xs) (length (before ++ x ∷ []) + 1) (length sent) ≡ lines (length (before ++ x ∷ []) + 1) sent) (append_assoc before (x ∷ []) sent) others) in
      ap₂ (λ a b. a ++ b) here same ∙ sym (are (length before + 1) x sent)

  pub lines_stored : (kept : Carried) (all before sent : List X) (first count : ℕ) → kept.ways ≡ map way all → kept.bytes ≡ map bytes all → AllByRecursion HasBytes all → all ≡ before ++ sent
      → first ≡ length before + 1 → count ≡ length sent → stored_lines grammar kept first count ≡ lines first sent
  lines_stored kept all before sent first count ways_are bytes_are have shape at many =
      let stored : kept ≡ storing (before ++ sent) = ap₂ (λ ws bs. record { ways = ws; bytes = bs }) (ways_are ∙ ap (map way) shape) (bytes_are ∙ ap (map bytes) shape) in
      ap₂ (λ k c. stored_lines grammar k first c) stored many
      ∙ subst (λ n. stored_lines grammar (storing (before ++ sent)) n (length sent) ≡ lines n sent) (sym at) (stored_behind before sent (all_behind HasBytes before sent (subst (AllByRecursion HasBytes) shape have)))
