-- One more read of a connection.
use Rattle.std.proofs.Common.{◌≡◌, ◌∙◌, ℕ, ◌+◌, ◌-◌, ◌≤◌, ◌<◌, ◌^◌, ◌&&◌, nat_lt, nat_le, min, sum, refl, sym, ap, subst, Some, None, [], ◌∷◌, ◌++◌, length, take, drop, arith, append-nil, append_assoc, length-append, ltb-true}
use Rattle.server_trait.specs.Service.{Machine}
use Rattle.plain_connection.specs.Made.{Made, after_read}
use Rattle.plain_connection.proofs.Ends.{one_more}
use Rattle.std.proofs.lemmas.Bool.{and_parts}
use Rattle.ft_model.specs.Point.{Point, made, released}
use Rattle.ft_model.specs.Reads.{next_length, may_read, next_read, with_read, Makes}
use Rattle.ft_model.proofs.Lists.{none_is_some}
use Rattle.ft_model.proofs.Running.{next_within}
use Rattle.ft_model.proofs.Services.{sum_append}
use Rattle.ft_io.proofs.Choices.{holds_if}
use Rattle.plain_connection.specs.State.{ConnectionState, IsServed, IsThere, HasRead, ReadsOn}

-- what is read next is there, and short
pub there_to_read : {S : Type 0} (service : Machine S) (c : ConnectionState S) (n : ℕ) → IsServed service c → next_read service c.point ≡ Some n → IsThere c.point n
there_to_read service c n served e = let next = next_within service c.point n served.fetched served.enough e in (next.0, next.1)

-- after one more read the connection is served as before
pub served_on : {S : Type 0} (service : Machine S) (c : ConnectionState S) (n : ℕ) (point : Point) (made : Made S) → IsServed service c → IsThere c.point n
    → point ≡ with_read n c.point → made ≡ after_read service c.made (take n (drop (sum c.point.lengths) c.point.taken))
    → IsServed service (record c { point = point; made = made })
served_on service c n point made served there is made_is =
    let before : Point = c.point in
    let longer : sum (before.lengths ++ n ∷ []) ≡ sum before.lengths + n = sum_append before.lengths n in
    let count : length (before.lengths ++ n ∷ []) ≡ length before.lengths + 1 = length-append before.lengths (n ∷ []) in
    subst (λ p. IsServed service (record c { point = p; made = made })) (sym is) (record {
      made = made_is ∙ (ap (λ m. after_read service m (take n (drop (sum before.lengths) before.taken))) served.made ∙ sym (one_more service before.taken before.lengths n));
      answered = omega (arith, served.answered, count);
      enough = omega (arith, longer, there.0);
      fetched = served.fetched;
    })

pub none_read : {S : Type 0} (service : Machine S) (c : ConnectionState S) → IsServed service c → HasRead service c c
none_read service c served = record {
  news = [];
  kind = refl;
  point = λ i. record c.point { lengths = sym (append-nil c.point.lengths) i };
  served = served;
  continues = λ rest makes. makes;
}

pub one_more_read : {S : Type 0} (service : Machine S) (before c now : ConnectionState S) (n : ℕ) → HasRead service before c → next_read service c.point ≡ Some n
    → now.point ≡ with_read n c.point → now.kind ≡ c.kind → IsServed service now → HasRead service before now
one_more_read service before c now n has next point kind served = record {
  news = has.news ++ n ∷ [];
  kind = kind ∙ has.kind;
  point = point ∙ (ap (with_read n) has.point ∙ (λ i. record before.point { lengths = append_assoc before.point.lengths has.news (n ∷ []) i }));
  served = served;
  continues = λ rest makes. subst (Makes service before.point) (sym (append_assoc has.news (n ∷ []) rest)) (has.continues (n ∷ rest) (next, subst (λ p. Makes service p rest) point makes));
}

pub all_read : {S : Type 0} (service : Machine S) (before now : ConnectionState S) → HasRead service before now → next_read service now.point ≡ None → ReadsOn service before now
all_read service before now has next = record {
  news = has.news;
  kind = has.kind;
  point = has.point;
  served = has.served;
  makes = subst (Makes service before.point) (append-nil has.news) (has.continues [] next);
}

-- fewer than 32 reads are unanswered before one more
few_unanswered : {S : Type 0} (service : Machine S) (p : Point) (n : ℕ) → next_read service p ≡ Some n → length p.lengths - p.reads_answered < 32
unfolding may_read
few_unanswered service p n =
    holds_if (λ o. o ≡ Some n → length p.lengths - p.reads_answered < 32) (may_read service p) (next_length p) None
    (λ t e. ltb-true (length p.lengths - p.reads_answered) 32 (and_parts (nat_le (made service p) (min (released service p) (p.una + 65535)) && nat_le (made service p) (2 ^ 24 - 2 ^ 20)) (nat_lt (length p.lengths - p.reads_answered) 32) t).1)
    (λ t e. none_is_some n e)

-- .. and one more leaves one fewer
pub fewer_left : {S : Type 0} (service : Machine S) (p after : Point) (n : ℕ) → next_read service p ≡ Some n → p.reads_answered ≤ length p.lengths → after ≡ with_read n p
    → 32 - (length after.lengths - after.reads_answered) < 32 - (length p.lengths - p.reads_answered)
fewer_left service p after n next answered is =
    let few : length p.lengths - p.reads_answered < 32 = few_unanswered service p n next in
    let count : length after.lengths ≡ length p.lengths + 1 = ap (λ q. length q.lengths) is ∙ length-append p.lengths (n ∷ []) in
    let same : after.reads_answered ≡ p.reads_answered = ap (λ q. q.reads_answered) is in
    omega (arith, few, count, same, answered)
