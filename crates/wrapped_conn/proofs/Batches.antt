-- The Data of a turn that copies one or two texts.
use Rattle.std.proofs.Common.{◌≡◌, ◌∙◌, Bool, true, false, refl, ap, ap₂, [], ◌∷◌, ◌++◌}
use Rattle.seq_arith.specs.Packet.{Segment}
use Rattle.seq_arith.specs.Message.{Part, Body}
use Rattle.seq_arith.specs.Message.Body.{DataMsg}
use Rattle.ft_model.specs.Copy.{batch, with_more}
use Rattle.wrapped_conn.specs.declared.stage.Before.{Before}
use Rattle.wrapped_conn.specs.ConnState.{ConnState}
use Rattle.wrapped_conn.specs.LoggerMessages.{own_data, further_data, or_una, in_batch, copies}

batch_of_one : (batches : Bool) (only : Body) → in_batch batches (only ∷ []) ≡ only ∷ []
unfolding batch
batch_of_one true only = refl
batch_of_one false only = refl

batch_of_two : (first last : Body) → in_batch true (first ∷ last ∷ []) ≡ with_more first ∷ last ∷ []
unfolding batch
batch_of_two first last = refl

pub one_copied : {S : Type 0} (before : Before) (segment : Segment) (c : ConnState S) (only : Part) → own_data segment c ≡ DataMsg only ∷ [] → further_data before segment c ≡ []
    → copies before segment c ≡ DataMsg only ∷ []
unfolding copies
one_copied before segment c only own none =
    ap₂ (λ xs ys. in_batch c.batches (or_una before.una c (xs ++ ys))) own none ∙ batch_of_one c.batches (DataMsg only)

pub two_copied : {S : Type 0} (before : Before) (segment : Segment) (c : ConnState S) (first last : Part) → c.batches ≡ true → own_data segment c ≡ DataMsg first ∷ []
    → further_data before segment c ≡ DataMsg last ∷ [] → copies before segment c ≡ DataMsg (record first { fin = false; more = true }) ∷ DataMsg last ∷ []
unfolding copies
two_copied before segment c first last wide own further =
    ap₂ (λ xs ys. in_batch c.batches (or_una before.una c (xs ++ ys))) own further
    ∙ (ap (λ b. in_batch b (DataMsg first ∷ DataMsg last ∷ [])) wide ∙ batch_of_two (DataMsg first) (DataMsg last))
