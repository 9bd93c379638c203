-- A live connection reads no more than it has taken, and keeps its output within a stream.
use Rattle.std.proofs.Common.{◌≡◌, ℕ, ◌+◌, ◌-◌, ◌<◌, ◌≤◌, ◌^◌, ◌==◌, ◌&&◌, not, nat_lt, nat_le, min, sum, le_of_eq, le_trans, sym, ap, subst, Some, None, List, [], ◌∷◌, ◌++◌, length, append-nil, append_assoc, arith, length-append, ltb-true, leb-true, refl, ◌∙◌}
use Rattle.std.specs.List.{list_any}
use Rattle.std.proofs.lemmas.Bool.{and_parts}
use Rattle.std.proofs.lemmas.Option.{none-some}
use Rattle.ft_io.specs.declared.Addr.{Addr}
use Rattle.server_trait.specs.Service.{Machine, reference}
use Rattle.ft_model.specs.Network.{Packet}
use Rattle.ft_model.specs.News.{News}
use Rattle.ft_model.specs.News.News.{Comes, Logged, Ticks, Begins}
use Rattle.ft_model.specs.Point.{Point, made, released, receive_edge}
use Rattle.ft_model.specs.Taken.{taken_after, came}
use Rattle.ft_model.specs.Answered.{reads_answered_after}
use Rattle.ft_model.specs.Reads.{next_length, may_read, next_read, with_read, Makes}
use Rattle.ft_model.specs.Connection.{ResetTurn, LiveTurn}
use Rattle.ft_model.specs.Growth.{IsPrefix}
use Rattle.ft_model.proofs.Lists.{prefix_refl, prefix_more, none_is_some, some_is}
use Rattle.ft_model.proofs.Services.{more_bytes, one_more_read, sum_append, prefix_length}
use Rattle.ft_io.proofs.Choices.{holds_if}
use Rattle.ft_model.proofs.LiveTurns.{counts_within}

-- the law of services on the size of one output
abbrev pub HasSmallOutputs : {State : Type 0} → Machine State → Type 0
HasSmallOutputs {State} service = (length service.greeting ≤ 65535) × ((s : State) (chunk : List ℕ) → length chunk ≤ 2048 → length (service.after s chunk).output ≤ 2 ^ 20)

pub record ReadsWithin {State : Type 0} (service : Machine State) (p : Point) : Type 0 where
  pub enough : sum p.lengths ≤ length p.taken
  pub fetched : p.fetched ≤ length p.taken
  pub short : made service p ≤ 2 ^ 24
  pub counts : p.reads_answered ≤ length p.lengths

length_within : (p : Point) (n : ℕ) → p.fetched ≤ length p.taken → sum p.lengths ≤ length p.taken → next_length p ≡ Some n
    → (sum p.lengths + n ≤ length p.taken) × (n ≤ 2048)
unfolding next_length
length_within p n fetched enough =
    holds_if (λ o. o ≡ Some n → (sum p.lengths + n ≤ length p.taken) × (n ≤ 2048)) (nat_lt (sum p.lengths) p.fetched) (Some (min 2048 (p.fetched - sum p.lengths))) _
    (λ t e. let same : min 2048 (p.fetched - sum p.lengths) ≡ n = some_is _ _ e in
    let less : sum p.lengths < p.fetched = ltb-true _ _ t in
    (omega (arith, same, less, fetched), omega (arith, same)))
    (λ t. holds_if (λ o. o ≡ Some n → (sum p.lengths + n ≤ length p.taken) × (n ≤ 2048)) (nat_lt (sum p.lengths) (length p.taken)) (Some (min 2048 (length p.taken - sum p.lengths))) _
    (λ s e. let same : min 2048 (length p.taken - sum p.lengths) ≡ n = some_is _ _ e in
    let less : sum p.lengths < length p.taken = ltb-true _ _ s in
    (omega (arith, same, less), omega (arith, same)))
    (λ s. holds_if (λ o. o ≡ Some n → (sum p.lengths + n ≤ length p.taken) × (n ≤ 2048)) (p.fin && not (list_any (λ n. n == 0) p.lengths)) (Some 0) None
    (λ x e. let same : 0 ≡ n = some_is _ _ e in (omega (arith, same, enough), omega (arith, same))) (λ x e. none_is_some n e)))

-- a read that is made
pub next_within : {State : Type 0} (service : Machine State) (p : Point) (n : ℕ) → p.fetched ≤ length p.taken → sum p.lengths ≤ length p.taken → next_read service p ≡ Some n
    → (sum p.lengths + n ≤ length p.taken) × (n ≤ 2048) × (made service p ≤ 2 ^ 24 - 2 ^ 20)
unfolding next_length may_read
next_within service p n fetched enough =
    holds_if (λ o. o ≡ Some n → (sum p.lengths + n ≤ length p.taken) × (n ≤ 2048) × (made service p ≤ 2 ^ 24 - 2 ^ 20)) (may_read service p) (next_length p) None
    (λ t e. let two = and_parts (nat_le (made service p) (min (released service p) (p.una + 65535)) && nat_le (made service p) (2 ^ 24 - 2 ^ 20)) (nat_lt (length p.lengths - p.reads_answered) 32) t in
    let low : made service p ≤ 2 ^ 24 - 2 ^ 20 = leb-true _ _ (and_parts (nat_le (made service p) (min (released service p) (p.una + 65535))) (nat_le (made service p) (2 ^ 24 - 2 ^ 20)) two.0).1 in
    let length_is = length_within p n fetched enough e in
    (length_is.0, length_is.1, low)) (λ t e. none_is_some n e)

-- the reads of a turn keep within
makes_within : {State : Type 0} (service : Machine State) (p : Point) (ns : List ℕ) → HasSmallOutputs service → p.fetched ≤ length p.taken → sum p.lengths ≤ length p.taken
    → made service p ≤ 2 ^ 24 → Makes service p ns
    → (sum (p.lengths ++ ns) ≤ length p.taken) × (length (reference service p.taken (p.lengths ++ ns)).output ≤ 2 ^ 24)
makes_within service p [] small f e s m =
    (subst (λ l. sum l ≤ length p.taken) (sym (append-nil p.lengths)) e, subst (λ l. length (reference service p.taken l).output ≤ 2 ^ 24) (sym (append-nil p.lengths)) s)
makes_within service p (n ∷ ns) small f e s m =
    let next = next_within service p n f e m.0 in
    let total = sum_append p.lengths n in
    let more = one_more_read service p.taken p.lengths n small.1 next.1 in
    let rest = makes_within service (with_read n p) ns small f (omega (arith, next.0, total)) (omega (arith, more, next.2)) m.1 in (
      subst (λ l. sum l ≤ length p.taken) (append_assoc p.lengths (n ∷ []) ns) rest.0,
      subst (λ l. length (reference service p.taken l).output ≤ 2 ^ 24) (append_assoc p.lengths (n ∷ []) ns) rest.1,
    )

pub taken_grows : (news : News) (p : Point) → IsPrefix p.taken (taken_after news p)
unfolding taken_after
taken_grows (Comes segment) p = prefix_more p.taken (came p segment).added
taken_grows (Logged kept) p = prefix_refl p.taken
taken_grows Ticks p = prefix_refl p.taken
taken_grows Begins p = prefix_refl p.taken

pub taken_more : (news : News) (p q : Point) → q.taken ≡ taken_after news p → length p.taken ≤ length q.taken
taken_more news p q e = let size = prefix_length p.taken (taken_after news p) (taken_grows news p) in let same = ap length e in omega (arith, size, same)

sum_grows : (lengths more : List ℕ) → sum lengths ≤ sum (lengths ++ more)
sum_grows lengths [] = le_of_eq (ap sum (sym (append-nil lengths)))
sum_grows lengths (n ∷ more) =
    let one = sum_append lengths n in
    let rest : sum (lengths ++ n ∷ []) ≤ sum (lengths ++ n ∷ more) = subst (λ l. sum (lengths ++ n ∷ []) ≤ sum l) (append_assoc lengths (n ∷ []) more) (sum_grows (lengths ++ n ∷ []) more) in
    omega (arith, one, rest)

-- a turn doesn't lower the receive edge
pub edge_grows : {State : Type 0} (service : Machine State) (server : Addr) (boot : ℕ) (news : News) (p q : Point) (sent : List Packet)
    → LiveTurn service server boot news p q sent → receive_edge p ≤ receive_edge q
edge_grows service server boot news p q sent t =
    let read : sum p.lengths ≤ sum q.lengths = subst (λ l. sum p.lengths ≤ sum l) (sym t.reads.lengths) (sum_grows p.lengths t.reads.news) in
    omega (arith, t.same.fetched, read)

pub reset_within : {State : Type 0} (service : Machine State) (boot : ℕ) (news : News) (p q : Point) (sent : List Packet) → ReadsWithin service p → ResetTurn boot news p q sent → ReadsWithin service q
reset_within service boot news p q sent r t =
    subst (ReadsWithin service) (sym t.point) (record { enough = r.enough; fetched = r.fetched; short = r.short; counts = counts_within news p r.counts })

pub live_within : {State : Type 0} (service : Machine State) (server : Addr) (boot : ℕ) (news : News) (p q : Point) (sent : List Packet) → HasSmallOutputs service
    → ReadsWithin service p → LiveTurn service server boot news p q sent → ReadsWithin service q
live_within service server boot news p q sent small r t =
    let grows : IsPrefix p.taken q.taken = subst (IsPrefix p.taken) (sym t.taken) (taken_grows news p) in
    let longer : length p.taken ≤ length q.taken = prefix_length p.taken q.taken grows in
    let same : reference service q.taken p.lengths ≡ reference service p.taken p.lengths = more_bytes service p.taken q.taken p.lengths grows r.enough in
    let start : Point = record q { lengths = p.lengths } in
    let fetched : q.fetched ≤ length q.taken = omega (arith, t.same.fetched, r.fetched, longer) in
    let m = makes_within service start t.reads.news small fetched (le_trans r.enough longer) (subst (λ x. length x.output ≤ 2 ^ 24) (sym same) r.short) t.reads.makes in
    let size = length-append p.lengths t.reads.news in
    let count : reads_answered_after news p ≤ length p.lengths = counts_within news p r.counts in
    let all : length q.lengths ≡ length (p.lengths ++ t.reads.news) = ap length t.reads.lengths in
    record {
      enough = subst (λ l. sum l ≤ length q.taken) (sym t.reads.lengths) m.0;
      fetched = fetched;
      short = subst (λ l. length (reference service q.taken l).output ≤ 2 ^ 24) (sym t.reads.lengths) m.1;
      counts = omega (arith, t.reads_answered, count, size, all);
    }

pub none_made : {State : Type 0} (service : Machine State) (r : Point) (ns : List ℕ) → next_read service r ≡ None → Makes service r ns → ns ≡ []
none_made service r [] none makes = refl
none_made service r (n ∷ ns) none makes = absurd (none-some n (sym none ∙ makes.0))
