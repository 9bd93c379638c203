-- A connection is served as before once the news are noted: more bytes change nothing of what was read.
use Rattle.std.proofs.Common.{◌≡◌, ◌∙◌, ℕ, ◌≤◌, sym, ap, subst, le_trans, sum, List, length}
use Rattle.server_trait.specs.Service.{Machine, cut}
use Rattle.plain_connection.specs.Made.{nothing_made, after_reads, made_of}
use Rattle.ft_model.specs.News.{News}
use Rattle.ft_model.specs.Growth.{IsPrefix}
use Rattle.ft_model.specs.Taken.{taken_after}
use Rattle.ft_model.proofs.LiveTurns.{counts_within}
use Rattle.ft_model.proofs.Running.{taken_grows}
use Rattle.ft_model.proofs.Services.{prefix_length, cut_within}
use Rattle.plain_point.specs.Turn.{noted}
use Rattle.plain_connection.specs.State.{ConnectionState, IsServed}
use Rattle.plain_connection.specs.Turn.{reset_noted}

made_more : {S : Type 0} (service : Machine S) (bytes whole lengths : List ℕ) → IsPrefix bytes whole → sum lengths ≤ length bytes
    → made_of service whole lengths ≡ made_of service bytes lengths
unfolding made_of
made_more service bytes whole lengths p h =
    subst (λ l. after_reads service (nothing_made service) (cut l lengths) ≡ after_reads service (nothing_made service) (cut bytes lengths)) p.1
    (ap (after_reads service (nothing_made service)) (cut_within bytes p.0 lengths h))

pub noted_served : {S : Type 0} (service : Machine S) (news : News) (c : ConnectionState S) → IsServed service c → IsServed service (record c { point = noted news c.point })
noted_served service news c served =
    let grows : IsPrefix c.point.taken (taken_after news c.point) = taken_grows news c.point in
    let longer : length c.point.taken ≤ length (taken_after news c.point) = prefix_length c.point.taken (taken_after news c.point) grows in
    record {
      made = served.made ∙ sym (made_more service c.point.taken (taken_after news c.point) c.point.lengths grows served.enough);
      answered = counts_within news c.point served.answered;
      enough = le_trans served.enough longer;
      fetched = le_trans served.fetched longer;
    }

pub reset_served : {S : Type 0} (service : Machine S) (news : News) (c : ConnectionState S) → IsServed service c → IsServed service (record c { point = reset_noted news c.point })
reset_served service news c served = record {
  made = served.made;
  answered = counts_within news c.point served.answered;
  enough = served.enough;
  fetched = served.fetched;
}
