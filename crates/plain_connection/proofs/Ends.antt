-- The table of ends is that of the reference run: each end is that of the run over the first reads, and outputs only grow.
use Rattle.std.proofs.Common.{◌≡◌, ℕ, zero, suc, ◌+◌, ◌≤◌, Bool, true, false, refl, sym, ap, ◌∙◌, arith, Some, List, [], ◌∷◌, ◌++◌, length, sum, take, drop, append_assoc, append-nil, if◌then◌else◌}
use Rattle.std.specs.Prelude.{slice_get}
use Rattle.std.proofs.lemmas.List.Sums.{sum_by-cons}
use Rattle.std.proofs.lemmas.List.{drop-drop, take-append-le}
use Rattle.std.proofs.Math.Seq.{take-length}
use Rattle.server_trait.specs.Service.{Machine, Run, Served, begun, fed, with_served, fold_from, cut, reference}
use Rattle.plain_connection.specs.declared.made_output.End.{End}
use Rattle.plain_connection.specs.Made.{Made, end_of, nothing_made, after_read, after_reads, made_of}

-- one more read is one more chunk
cut_one_more : (bytes ns : List ℕ) (n : ℕ) → cut bytes (ns ++ n ∷ []) ≡ cut bytes ns ++ take n (drop (sum ns) bytes) ∷ []
cut_one_more bytes [] n = refl
cut_one_more bytes (m ∷ ns) n =
    let all : sum (m ∷ ns) ≡ m + sum ns = sum_by-cons (λ x. x) m ns in
    ap (λ xs. take m bytes ∷ xs) (cut_one_more (drop m bytes) ns n ∙ ap (λ xs. cut (drop m bytes) ns ++ take n xs ∷ []) (drop-drop (sum ns) m bytes ∙ ap (λ k. drop k bytes) (sym all)))

cut_prefix : (k : ℕ) (bytes ns : List ℕ) → cut bytes (take k ns) ≡ take k (cut bytes ns)
cut_prefix zero bytes ns = refl
cut_prefix (suc k) bytes [] = refl
cut_prefix (suc k) bytes (n ∷ ns) = ap (λ xs. take n bytes ∷ xs) (cut_prefix k (drop n bytes) ns)

cut_length : (bytes ns : List ℕ) → length (cut bytes ns) ≡ length ns
cut_length bytes [] = refl
cut_length bytes (n ∷ ns) = ap suc (cut_length (drop n bytes) ns)

module _ {State : Type 0} (service : Machine State) where
  push : (m : Made State) (chunks : List (List ℕ)) (chunk : List ℕ) → after_reads service m (chunks ++ chunk ∷ []) ≡ after_read service (after_reads service m chunks) chunk
  push m [] chunk = refl
  push m (c ∷ chunks) chunk = push (after_read service m c) chunks chunk

  pub one_more : (bytes lengths : List ℕ) (n : ℕ) → made_of service bytes (lengths ++ n ∷ []) ≡ after_read service (made_of service bytes lengths) (take n (drop (sum lengths) bytes))
  unfolding made_of
  one_more bytes lengths n = ap (after_reads service (nothing_made service)) (cut_one_more bytes lengths n) ∙ push (nothing_made service) (cut bytes lengths) (take n (drop (sum lengths) bytes))

  run_is : (m : Made State) (chunks : List (List ℕ)) → (after_reads service m chunks).run ≡ fold_from service m.run chunks
  run_is m [] = refl
  run_is m (c ∷ chunks) = run_is (after_read service m c) chunks

  pub whole : (bytes lengths : List ℕ) → (made_of service bytes lengths).run ≡ reference service bytes lengths
  unfolding made_of reference
  whole bytes lengths = run_is (nothing_made service) (cut bytes lengths)

  ends_after : Run State → List (List ℕ) → List End
  ends_after run [] = []
  ends_after run (c ∷ chunks) = end_of (fed service run c) ∷ ends_after (fed service run c) chunks

  ends_are : (m : Made State) (chunks : List (List ℕ)) → (after_reads service m chunks).ends ≡ m.ends ++ ends_after m.run chunks
  unfolding ends_after
  ends_are m [] = sym (append-nil m.ends)
  ends_are m (c ∷ chunks) = ends_are (after_read service m c) chunks ∙ append_assoc m.ends (end_of (fed service m.run c) ∷ []) (ends_after (fed service m.run c) chunks)

  end_at : (run : Run State) (chunks : List (List ℕ)) (k : ℕ) → k ≤ length chunks → slice_get (end_of run ∷ ends_after run chunks) k ≡ Some (end_of (fold_from service run (take k chunks)))
  unfolding ends_after
  end_at run chunks zero h = refl
  end_at run [] (suc k) h = absurd (omega (arith, h))
  end_at run (c ∷ chunks) (suc k) h = end_at (fed service run c) chunks k (omega (arith, h))

  pub ends_are_the_references : (k : ℕ) (bytes lengths : List ℕ) → k ≤ length lengths → slice_get (made_of service bytes lengths).ends k ≡ Some (end_of (reference service bytes (take k lengths)))
  unfolding made_of reference
  ends_are_the_references k bytes lengths h =
      let within : k ≤ length (cut bytes lengths) = omega (arith, h, cut_length bytes lengths) in
      ap (λ l. slice_get l k) (ends_are (nothing_made service) (cut bytes lengths)) ∙ (end_at (begun service) (cut bytes lengths) k within ∙ ap (λ cs. Some (end_of (fold_from service (begun service) cs))) (sym (cut_prefix k bytes lengths)))

  -- output is only appended to
  fed_grows : (b : Bool) (run : Run State) (s : Served State) → (more : List ℕ) × ((if b then run else with_served run s).output ≡ run.output ++ more)
  fed_grows true run s = ([], sym (append-nil run.output))
  fed_grows false run s = (s.output, refl)

  output_grows : (run : Run State) (chunks : List (List ℕ)) → (more : List ℕ) × ((fold_from service run chunks).output ≡ run.output ++ more)
  output_grows run [] = ([], sym (append-nil run.output))
  output_grows run (c ∷ chunks) =
      let one = fed_grows run.closed run (service.after run.state c) in
      let rest = output_grows (fed service run c) chunks in
      (one.0 ++ rest.0, rest.1 ∙ (ap (λ o. o ++ rest.0) one.1 ∙ append_assoc run.output one.0 rest.0))

  prefix_of : (run : Run State) (chunks : List (List ℕ)) (k : ℕ) → (more : List ℕ) × ((fold_from service run chunks).output ≡ (fold_from service run (take k chunks)).output ++ more)
  prefix_of run chunks zero = output_grows run chunks
  prefix_of run [] (suc k) = ([], sym (append-nil run.output))
  prefix_of run (c ∷ chunks) (suc k) = prefix_of (fed service run c) chunks k

  pub prefixes : (k : ℕ) (bytes lengths : List ℕ) → take (length (reference service bytes (take k lengths)).output) (made_of service bytes lengths).run.output ≡ (reference service bytes (take k lengths)).output
  unfolding made_of reference
  prefixes k bytes lengths =
      let part : List ℕ = (fold_from service (begun service) (take k (cut bytes lengths))).output in
      let f = prefix_of (begun service) (cut bytes lengths) k in
      let is : (after_reads service (nothing_made service) (cut bytes lengths)).run.output ≡ part ++ f.0 = ap (λ r. r.output) (run_is (nothing_made service) (cut bytes lengths)) ∙ f.1 in
      let same : (fold_from service (begun service) (cut bytes (take k lengths))).output ≡ part = ap (λ cs. (fold_from service (begun service) cs).output) (cut_prefix k bytes lengths) in
      let within : length part ≤ length part = omega arith in
      ap (λ o. take (length o) (after_reads service (nothing_made service) (cut bytes lengths)).run.output) same
      ∙ (ap (take (length part)) is ∙ (take-append-le (length part) part f.0 within ∙ (take-length part ∙ sym same)))
