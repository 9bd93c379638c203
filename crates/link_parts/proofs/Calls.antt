-- Calls recorded one after another, and their counts.
use Rattle.std.proofs.Common.{◌≡◌, ◌∙◌, ℕ, ◌+◌, ◌≤◌, sym, ap, List, [], ◌++◌, length, arith}
use Rattle.std.proofs.lemmas.List.Sums.{sum_by-append, count_by-le-length}
use Rattle.std.specs.Prelude.{cond}
use Rattle.ft_io.specs.declared.link_call.LinkCall.{LinkCall}
use Rattle.link_parts.specs.declared.counts.Counts.{Counts}
use Rattle.link_parts.specs.Counts.{counts_of, plus, with_calls, is_receive, is_datagram, is_sent, is_lost, is_failed}

plus_assoc : (a b c : Counts) → plus (plus a b) c ≡ plus a (plus b c)
plus_assoc a b c =
    let t : (a.turns + b.turns) + c.turns ≡ a.turns + (b.turns + c.turns) = omega arith in
    let d : (a.datagrams + b.datagrams) + c.datagrams ≡ a.datagrams + (b.datagrams + c.datagrams) = omega arith in
    let s : (a.sent + b.sent) + c.sent ≡ a.sent + (b.sent + c.sent) = omega arith in
    let l : (a.lost + b.lost) + c.lost ≡ a.lost + (b.lost + c.lost) = omega arith in
    let f : (a.failed + b.failed) + c.failed ≡ a.failed + (b.failed + c.failed) = omega arith in
    λ i. record { turns = t i; datagrams = d i; sent = s i; lost = l i; failed = f i }

pub counts_on : (xs ys : List LinkCall) → counts_of (xs ++ ys) ≡ plus (counts_of xs) (counts_of ys)
counts_on xs ys = λ i. record {
  turns = sum_by-append (λ x. cond (is_receive x) 1 0) xs ys i;
  datagrams = sum_by-append (λ x. cond (is_datagram x) 1 0) xs ys i;
  sent = sum_by-append (λ x. cond (is_sent x) 1 0) xs ys i;
  lost = sum_by-append (λ x. cond (is_lost x) 1 0) xs ys i;
  failed = sum_by-append (λ x. cond (is_failed x) 1 0) xs ys i;
}

pub with_both : (c : Counts) (xs ys : List LinkCall) → with_calls (with_calls c xs) ys ≡ with_calls c (xs ++ ys)
with_both c xs ys = plus_assoc c (counts_of xs) (counts_of ys) ∙ ap (plus c) (sym (counts_on xs ys))

pub with_none : (c : Counts) → with_calls c [] ≡ c
with_none c =
    let t : c.turns + 0 ≡ c.turns = omega arith in
    let d : c.datagrams + 0 ≡ c.datagrams = omega arith in
    let s : c.sent + 0 ≡ c.sent = omega arith in
    let l : c.lost + 0 ≡ c.lost = omega arith in
    let f : c.failed + 0 ≡ c.failed = omega arith in
    λ i. record { turns = t i; datagrams = d i; sent = s i; lost = l i; failed = f i }

-- at most so many of each kind
pub record IsFew (n : ℕ) (c : Counts) : Type 0 where
  pub turns : c.turns ≤ n
  pub datagrams : c.datagrams ≤ n
  pub sent : c.sent ≤ n
  pub lost : c.lost ≤ n
  pub failed : c.failed ≤ n

pub few_calls : (calls : List LinkCall) → IsFew (length calls) (counts_of calls)
few_calls calls = record {
  turns = count_by-le-length is_receive calls;
  datagrams = count_by-le-length is_datagram calls;
  sent = count_by-le-length is_sent calls;
  lost = count_by-le-length is_lost calls;
  failed = count_by-le-length is_failed calls;
}
