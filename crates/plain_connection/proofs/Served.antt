-- What a connection's made output says of the reference runs.
use Rattle.std.proofs.Common.{◌≡◌, ◌+◌, ◌∙◌, ap, Some, length, take}
use Rattle.std.specs.Prelude.{slice_get}
use Rattle.server_trait.specs.Service.{Machine}
use Rattle.plain_connection.specs.Made.{end_of}
use Rattle.plain_connection.proofs.Ends.{ends_are_the_references, prefixes, whole}
use Rattle.ft_model.specs.Offset.{one_if}
use Rattle.ft_model.specs.Point.{answered_run, whole_run, made}
use Rattle.plain_connection.specs.State.{ConnectionState, IsServed}

pub answered : {S : Type 0} (service : Machine S) (c : ConnectionState S) → IsServed service c → slice_get c.made.ends c.point.reads_answered ≡ Some (end_of (answered_run service c.point))
answered service c served =
    ap (λ m. slice_get m.ends c.point.reads_answered) served.made ∙ ends_are_the_references service c.point.reads_answered c.point.taken c.point.lengths served.answered

pub released_output : {S : Type 0} (service : Machine S) (c : ConnectionState S) → IsServed service c
    → take (length (answered_run service c.point).output) c.made.run.output ≡ (answered_run service c.point).output
released_output service c served =
    ap (λ m. take (length (answered_run service c.point).output) m.run.output) served.made ∙ prefixes service c.point.reads_answered c.point.taken c.point.lengths

pub whole_output : {S : Type 0} (service : Machine S) (c : ConnectionState S) → IsServed service c → length c.made.run.output ≡ made service c.point
whole_output service c served = ap (λ m. length m.run.output) served.made ∙ ap (λ r. length r.output) (whole service c.point.taken c.point.lengths)

pub whole_units : {S : Type 0} (service : Machine S) (c : ConnectionState S) → IsServed service c
    → length c.made.run.output + one_if c.made.run.closed ≡ made service c.point + one_if (whole_run service c.point).closed
whole_units service c served =
    ap (λ m. length m.run.output + one_if m.run.closed) served.made ∙ ap (λ r. length r.output + one_if r.closed) (whole service c.point.taken c.point.lengths)
