-- Reads that become known to be logged, and bytes that are taken: the north wrapper stands at the point after them.
use Rattle.std.proofs.Common.{◌≡◌, ℕ, zero, suc, ◌+◌, ◌-◌, ◌≤◌, min, max, sum, refl, sym, ap, ◌∙◌, subst, le_trans, List, [], ◌∷◌, ◌++◌, length, take, drop, get_or, arith, length-append, length-drop}
use Rattle.std.proofs.lemmas.List.{take-append-le}
use Rattle.server_trait.specs.Service.{Machine, reference}
use Rattle.ft_model.specs.Point.{Point}
use Rattle.ft_model.proofs.Services.{more_bytes, sum_take}
use Rattle.north_wrap.specs.declared.read_record.ReadRecord.{ReadRecord}
use Rattle.north_wrap.specs.NorthState.{NorthState, newly, answered_on, lengths_of}
use Rattle.north_wrap.specs.Refinement.{NorthStands, RunsTo, RecordsRun, run_after, with_answered, with_taken, IsNumbered}
use Rattle.north_wrap.proofs.Logged.{still_closed}
use Rattle.north_wrap.proofs.OneRead.{drop_drop, numbered_drop}

get_later : (last : ReadRecord) (reads : List ReadRecord) (d more : ℕ) (a b : ReadRecord) → d + more ≤ length reads → get_or (get_or (last ∷ reads) d a ∷ drop d reads) more b ≡ get_or (last ∷ reads) (d + more) b
get_later last reads zero more a b h = let e : more ≡ 0 + more = omega arith in ap (λ k. get_or (last ∷ reads) k b) e
get_later last [] (suc d) more a b h = absurd (omega (arith, h))
get_later last (x ∷ reads) (suc d) more a b h =
    get_later x reads d more a b (omega (arith, h)) ∙ (let e : suc (d + more) ≡ suc d + more = omega arith in ap (λ k. get_or (last ∷ x ∷ reads) k b) e)

lengths_drop : (d : ℕ) (reads : List ReadRecord) → lengths_of (drop d reads) ≡ drop d (lengths_of reads)
lengths_drop zero reads = refl
lengths_drop (suc d) [] = refl
lengths_drop (suc d) (x ∷ reads) = lengths_drop d reads

drop_size : (d : ℕ) (reads : List ReadRecord) → length (drop d reads) ≡ length reads - d
drop_size d reads = length-drop d reads

pub answers_stand : {S : Type 0} (service : Machine S) (p : Point) (given : ℕ) (n : NorthState S) (count : ℕ) → NorthStands service p given n → NorthStands service (with_answered count p) given (answered_on count n)
unfolding answered_on
answers_stand service p given n count st =
    let d : ℕ = newly count n in
    let sum_is : p.reads_answered + d ≡ max p.reads_answered (min count (length p.lengths)) = omega (arith, st.unanswered, st.count) in
    let low : d ≤ length n.reads = omega arith in
    let left : length (drop d n.reads) ≡ length n.reads - d = drop_size d n.reads in
    record {
      run = st.run;
      rest = st.rest;
      keeps = λ more h.
          let within : d + more ≤ length n.reads = omega (arith, h, left, low) in
          let same : (p.reads_answered + (d + more)) ≡ max p.reads_answered (min count (length p.lengths)) + more = omega (arith, sum_is) in
          subst (λ r. RecordsRun r (run_after service (with_answered count p) more)) (sym (get_later n.last n.reads d more n.last (get_or (n.last ∷ n.reads) d n.last) within))
          (subst (λ a. RecordsRun (get_or (n.last ∷ n.reads) (d + more) (get_or (n.last ∷ n.reads) d n.last)) (reference service p.taken (take a p.lengths))) same
          (subst (λ r. RecordsRun r (run_after service p (d + more))) (get_defaults n.last n.reads (d + more) n.last (get_or (n.last ∷ n.reads) d n.last) within) (st.keeps (d + more) within)));
      reported = lengths_drop d n.reads ∙ ap (drop d) st.reported ∙ drop_drop d p.reads_answered p.lengths ∙ ap (λ a. drop a p.lengths) sum_is;
      numbered = subst (λ k. IsNumbered k (drop d n.reads)) sum_is (numbered_drop d p.reads_answered n.reads st.numbered);
      unanswered = omega (arith, st.unanswered, sum_is, left, low);
      read = st.read;
      count = st.count;
      ended = st.ended;
      enough = st.enough;
      fetched = st.fetched;
      shut_logged = λ s. still_closed service p (max p.reads_answered (min count (length p.lengths))) (omega arith) (st.shut_logged s);
      shut_given = st.shut_given;
    }
  where
    get_defaults : (last : ReadRecord) (reads : List ReadRecord) (m : ℕ) (a b : ReadRecord) → m ≤ length reads → get_or (last ∷ reads) m a ≡ get_or (last ∷ reads) m b
    get_defaults last reads zero a b h = refl
    get_defaults last [] (suc m) a b h = absurd (omega (arith, h))
    get_defaults last (x ∷ reads) (suc m) a b h = get_defaults x reads m a b (omega (arith, h))

-- bytes that are taken change nothing that was read
pub taking_stands : {S : Type 0} (service : Machine S) (p : Point) (given : ℕ) (n : NorthState S) (more : List ℕ) → NorthStands service p given n → NorthStands service (with_taken more p) given n
taking_stands service p given n more st =
    let size = length-append p.taken more in
    let same : (lengths : List ℕ) → sum lengths ≤ length p.taken → reference service (p.taken ++ more) lengths ≡ reference service p.taken lengths =
    λ lengths h. more_bytes service p.taken (p.taken ++ more) lengths (more, refl) h in
    record {
      run = subst (λ r. RunsTo r given n.run) (sym (more_bytes service p.taken (p.taken ++ more) p.lengths (more, refl) st.enough)) st.run;
      rest = st.rest ∙ ap (drop (sum p.lengths)) (sym (take-append-le p.fetched p.taken more st.fetched));
      keeps = λ m h. subst (RecordsRun (get_or (n.last ∷ n.reads) m n.last))
          (sym (more_bytes service p.taken (p.taken ++ more) (take (p.reads_answered + m) p.lengths) (more, refl) (le_trans (sum_take (p.reads_answered + m) p.lengths) st.enough))) (st.keeps m h);
      reported = st.reported;
      numbered = st.numbered;
      unanswered = st.unanswered;
      read = st.read;
      count = st.count;
      ended = st.ended;
      enough = omega (arith, st.enough, size);
      fetched = omega (arith, st.fetched, size);
      shut_logged = λ s. ap (λ r. r.closed) (same (take p.reads_answered p.lengths) (le_trans (sum_take p.reads_answered p.lengths) st.enough)) ∙ st.shut_logged s;
      shut_given = λ s. st.shut_given s ∙ sym (ap (λ r. length r.output) (same p.lengths st.enough));
    }
