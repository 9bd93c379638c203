-- A read that is made leads the north wrapper to the point after it.
use Rattle.std.proofs.Common.{◌≡◌, ℕ, zero, suc, ◌+◌, ◌-◌, ◌<◌, ◌≤◌, ◌==◌, ◌||◌, Bool, true, false, max, sum, nat_lt, nat_le, refl, sym, ap, ◌∙◌, subst, List, [], ◌∷◌, ◌++◌, length, take, drop, get_or, arith, length-append, length-drop, length-take, if◌then◌else◌}
use Rattle.std.specs.List.{list_any}
use Rattle.std.proofs.lemmas.List.{take-append-le, take_all}
use Rattle.std.proofs.Math.Seq.{drop-nil}
use Rattle.server_trait.specs.Service.{Machine, Run, Served, fed, with_served, reference}
use Rattle.ft_model.specs.Point.{Point, whole_run}
use Rattle.ft_model.specs.Reads.{with_read}
use Rattle.ft_model.proofs.Services.{rest_of, more_reads, sum_more, sum_append, drop_within}
use Rattle.north_wrap.specs.declared.read_record.ReadRecord.{ReadRecord}
use Rattle.north_wrap.specs.RunState.{RunState, run_on, served_on}
use Rattle.north_wrap.specs.NorthState.{NorthState, chunk_of, read_on, record_of, lengths_of}
use Rattle.north_wrap.proofs.Logged.{answered_stays, made_stays}
use Rattle.north_wrap.specs.Refinement.{NorthStands, QueueStands, RunsTo, RecordsRun, IsNext, IsNumbered, run_after}
use Rattle.ft_io.proofs.Choices.{holds_if}

pub drop_drop : (n m : ℕ) (xs : List ℕ) → drop n (drop m xs) ≡ drop (m + n) xs
drop_drop n zero xs = let e : n ≡ 0 + n = omega arith in ap (λ k. drop k xs) e
drop_drop n (suc m) [] = drop-nil n ∙ sym (drop-nil (suc m + n))
drop_drop n (suc m) (x ∷ xs) = drop_drop n m xs ∙ (let e : suc (m + n) ≡ suc m + n = omega arith in ap (λ k. drop k (x ∷ xs)) e)

-- what is left when so much is read
left_is : (bytes lengths : List ℕ) → rest_of bytes lengths ≡ drop (sum lengths) bytes
left_is bytes [] = refl
left_is bytes (n ∷ lengths) = left_is (drop n bytes) lengths ∙ drop_drop (sum lengths) n bytes ∙ ap (λ k. drop k bytes) (sym (sum_more n lengths))

-- the run over one read more
pub one_more : {S : Type 0} (service : Machine S) (bytes lengths : List ℕ) (n : ℕ)
    → reference service bytes (lengths ++ n ∷ []) ≡ fed service (reference service bytes lengths) (take n (drop (sum lengths) bytes))
one_more service bytes lengths n = more_reads service bytes lengths (n ∷ []) ∙ ap (λ l. fed service (reference service bytes lengths) (take n l)) (left_is bytes lengths)

served_to : {S : Type 0} (run : Run S) (given : ℕ) (r : RunState S) (a b : Served S) → a ≡ b → RunsTo run given r → RunsTo (with_served run a) given (served_on r b)
served_to run given r a b same t =
    let more = length-append run.output a.output in
    record {
      service = ap (λ x. x.next) (sym same);
      closed = ap (λ x. x.closed) (sym same);
      made = (let back : b ≡ a = sym same in λ j. t.made j + length (back j).output) ∙ sym more;
      pending = (let back : b ≡ a = sym same in λ j. t.pending j ++ (back j).output) ∙ sym (drop_within given run.output a.output t.within);
      within = omega (arith, t.within, more);
    }

by_closed : {S : Type 0} (service : Machine S) (run : Run S) (given : ℕ) (r : RunState S) (chunk : List ℕ) (c : Bool) → run.closed ≡ c → r.closed ≡ c → RunsTo run given r
    → RunsTo (if c then run else with_served run (service.after run.state chunk)) given (if c then r else served_on r (service.after r.service chunk))
by_closed service run given r chunk true e f t = t
by_closed service run given r chunk false e f t = served_to run given r (service.after run.state chunk) (service.after r.service chunk) (ap (λ s. service.after s chunk) (sym t.service)) t

-- the service takes a chunk, or has closed
pub fed_to : {S : Type 0} (service : Machine S) (run : Run S) (given : ℕ) (r : RunState S) (chunk : List ℕ) → RunsTo run given r → RunsTo (fed service run chunk) given (run_on service.after r chunk)
fed_to service run given r chunk t =
    subst (λ c. RunsTo (fed service run chunk) given (if c then r else served_on r (service.after r.service chunk))) (sym t.closed) (by_closed service run given r chunk run.closed refl t.closed t)

-- the chunk of the rest, or else of the socket, is what is next of the bytes taken
rest_chunk : (k fetched read : ℕ) (bytes : List ℕ) → k + read ≤ fetched → take k (drop read (take fetched bytes)) ≡ take k (drop read bytes)
rest_chunk k fetched zero bytes h = fronts k fetched bytes (omega (arith, h))
  where
    fronts : (k m : ℕ) (bytes : List ℕ) → k ≤ m → take k (take m bytes) ≡ take k bytes
    fronts zero m bytes h = refl
    fronts (suc k) zero bytes h = absurd (omega (arith, h))
    fronts (suc k) (suc m) [] h = refl
    fronts (suc k) (suc m) (x ∷ bytes) h = ap (λ l. x ∷ l) (fronts k m bytes (omega (arith, h)))
rest_chunk k zero (suc read) bytes h = absurd (omega (arith, h))
rest_chunk k (suc fetched) (suc read) [] h = refl
rest_chunk k (suc fetched) (suc read) (x ∷ bytes) h = rest_chunk k fetched read bytes (omega (arith, h))

pub chunk_is : {S : Type 0} (service : Machine S) (p : Point) (given : ℕ) (n : NorthState S) (unread : List ℕ) (has_end : Bool) (k : ℕ) → NorthStands service p given n → QueueStands p unread has_end → IsNext p k
    → chunk_of unread k n ≡ take k (drop (sum p.lengths) p.taken)
chunk_is service p given n unread has_end k st so next =
    let rest : length n.rest ≡ p.fetched - sum p.lengths =
    ap length st.rest ∙ length-drop (sum p.lengths) (take p.fetched p.taken) ∙ ap (λ k. k - sum p.lengths) (length-take p.fetched p.taken ∙ omega (arith, st.fetched)) in
    holds_if (λ l. l ≡ take k (drop (sum p.lengths) p.taken)) (nat_lt 0 (length n.rest)) (take k n.rest) (take k unread)
    (λ t. let some : sum p.lengths < p.fetched = grind (arith, t, rest) in ap (take k) st.rest ∙ rest_chunk k p.fetched (sum p.lengths) p.taken (next.rest some))
    (λ t. let none : p.fetched ≤ sum p.lengths = grind (arith, t, rest) in
    ap (take k) so.waits ∙ (let e : max p.fetched (sum p.lengths) ≡ sum p.lengths = omega (arith, none) in ap (λ m. take k (drop m p.taken)) e))

take_seam : {A : Type 0} (xs : List A) (y : A) (k : ℕ) → k ≡ length xs + 1 → take k (xs ++ y ∷ []) ≡ xs ++ y ∷ []
take_seam xs y k e = take_all k (xs ++ y ∷ []) (let more = length-append xs (y ∷ []) in omega (arith, e, more))

drop_lengths : (k : ℕ) (xs : List ℕ) (y : ℕ) → k ≤ length xs → drop k (xs ++ y ∷ []) ≡ drop k xs ++ y ∷ []
drop_lengths k xs y h = drop_within k xs (y ∷ []) h

lengths_append : (xs : List ReadRecord) (y : ReadRecord) → lengths_of (xs ++ y ∷ []) ≡ lengths_of xs ++ y.length ∷ []
lengths_append [] y = refl
lengths_append (x ∷ xs) y = ap (λ l. x.length ∷ l) (lengths_append xs y)

pub any_append : (xs : List ℕ) (y : ℕ) → list_any (λ k. k == 0) (xs ++ y ∷ []) ≡ (list_any (λ k. k == 0) xs || y == 0)
any_append [] y = grind arith
any_append (x ∷ xs) y = grind (arith, any_append xs y)

get_old : (last read : ReadRecord) (reads : List ReadRecord) (m : ℕ) (d d' : ReadRecord) → m ≤ length reads → get_or (last ∷ (reads ++ read ∷ [])) m d ≡ get_or (last ∷ reads) m d'
get_old last read reads zero d d' h = refl
get_old last read [] (suc m) d d' h = absurd (omega (arith, h))
get_old last read (x ∷ reads) (suc m) d d' h = get_old x read reads m d d' (omega (arith, h))

get_new : (last read : ReadRecord) (reads : List ReadRecord) (m : ℕ) (d : ReadRecord) → m ≡ length reads + 1 → get_or (last ∷ (reads ++ read ∷ [])) m d ≡ read
get_new last read reads zero d h = absurd (omega (arith, h))
get_new last read [] (suc zero) d h = refl
get_new last read [] (suc (suc m)) d h = absurd (omega (arith, h))
get_new last read (x ∷ reads) (suc m) d h = get_new x read reads m d (omega (arith, h))

-- the records keep the runs after their reads
keeps_more : {S : Type 0} (service : Machine S) (p : Point) (given : ℕ) (n : NorthState S) (run : RunState S) (k m : ℕ) → NorthStands service p given n → RunsTo (reference service p.taken (p.lengths ++ k ∷ [])) given run
    → m ≤ length n.reads + 1 → (old : Bool) → nat_le m (length n.reads) ≡ old
    → RecordsRun (get_or (n.last ∷ (n.reads ++ record_of k n run ∷ [])) m n.last) (run_after service (with_read k p) m)
keeps_more service p given n run k m st to h true t =
    let low : m ≤ length n.reads = grind (arith, t) in
    let within : p.reads_answered + m ≤ length p.lengths = omega (arith, low, st.unanswered) in
    subst (λ r. RecordsRun r (run_after service (with_read k p) m)) (sym (get_old n.last (record_of k n run) n.reads m n.last n.last low))
    (subst (λ l. RecordsRun (get_or (n.last ∷ n.reads) m n.last) (reference service p.taken l)) (sym (take-append-le (p.reads_answered + m) p.lengths (k ∷ []) within)) (st.keeps m low))
keeps_more service p given n run k m st to h false t =
    let is : m ≡ length n.reads + 1 = grind (arith, t, h) in
    subst (λ r. RecordsRun r (run_after service (with_read k p) m)) (sym (get_new n.last (record_of k n run) n.reads m n.last is))
    (subst (λ l. RecordsRun (record_of k n run) (reference service p.taken l)) (sym (take_seam p.lengths k (p.reads_answered + m) (omega (arith, is, st.unanswered)))) (record { made = to.made; closed = to.closed }))

numbered_more : (i : ℕ) (reads : List ReadRecord) (read : ReadRecord) → IsNumbered i reads → read.index ≡ i + length reads → IsNumbered i (reads ++ read ∷ [])
numbered_more i [] read h e = (omega (arith, e), tt)
numbered_more i (x ∷ reads) read h e = (h.0, numbered_more (i + 1) reads read h.1 (omega (arith, e)))

pub numbered_drop : (d i : ℕ) (reads : List ReadRecord) → IsNumbered i reads → IsNumbered (i + d) (drop d reads)
numbered_drop zero i reads h = let e : i ≡ i + 0 = omega arith in subst (λ k. IsNumbered k reads) e h
numbered_drop (suc d) i [] h = tt
numbered_drop (suc d) i (x ∷ reads) h = let e : i + 1 + d ≡ i + suc d = omega arith in subst (λ k. IsNumbered k (drop d reads)) e (numbered_drop d (i + 1) reads h.1)

pub read_more : {S : Type 0} (service : Machine S) (p : Point) (given : ℕ) (n : NorthState S) (unread : List ℕ) (has_end : Bool) (k : ℕ)
    → NorthStands service p given n → QueueStands p unread has_end → IsNext p k → NorthStands service (with_read k p) given (read_on service.after unread k n)
unfolding read_on
read_more service p given n unread has_end k st so next =
    let run : RunState _ = run_on service.after n.run (chunk_of unread k n) in
    let to : RunsTo (reference service p.taken (p.lengths ++ k ∷ [])) given run =
    subst (λ r. RunsTo r given run) (sym (one_more service p.taken p.lengths k))
    (subst (λ c. RunsTo (fed service (whole_run service p) (take k (drop (sum p.lengths) p.taken))) given (run_on service.after n.run c)) (sym (chunk_is service p given n unread has_end k st so next))
    (fed_to service (whole_run service p) given n.run (take k (drop (sum p.lengths) p.taken)) st.run)) in
    let few : p.reads_answered ≤ length p.lengths = omega (arith, st.unanswered) in
    let total = sum_append p.lengths k in
    let count = length-append p.lengths (k ∷ []) in
    let reads = length-append n.reads (record_of k n run ∷ []) in
    record {
      run = to;
      rest = ap (drop k) st.rest ∙ drop_drop k (sum p.lengths) (take p.fetched p.taken) ∙ ap (λ m. drop m (take p.fetched p.taken)) (sym total);
      keeps = λ m h. keeps_more service p given n run k m st to (omega (arith, h, reads)) (nat_le m (length n.reads)) refl;
      reported = lengths_append n.reads (record_of k n run) ∙ ap (λ l. l ++ k ∷ []) st.reported ∙ sym (drop_lengths p.reads_answered p.lengths k (omega (arith, st.unanswered)));
      numbered = numbered_more p.reads_answered n.reads (record_of k n run) st.numbered (omega (arith, st.count, st.unanswered));
      unanswered = omega (arith, st.unanswered, count, reads);
      read = ap (λ m. m + k) st.read ∙ sym total;
      count = omega (arith, st.count, count);
      ended = ap (λ b. b || k == 0) st.ended ∙ sym (any_append p.lengths k);
      enough = omega (arith, total, next.within);
      fetched = st.fetched;
      shut_logged = λ s. ap (λ r. r.closed) (answered_stays service p (k ∷ []) few) ∙ st.shut_logged s;
      shut_given = λ s. st.shut_given s ∙ sym (made_stays service p (k ∷ []) few (st.shut_logged s));
    }
