-- Where what is sent lies within what may leave, a FIN's unit among it means that a logged read has closed the service. So of a new FIN the law on
-- output asks nothing that the laws of sending don't give.
use Rattle.std.proofs.Common.{◌≡◌, ℕ, ◌<◌, ◌≤◌, ◌+◌, Bool, true, false, nat_lt, nat_le, refl, ap, [], ◌∷◌, arith, ltb-true, leb-true, if◌then◌else◌}
use Rattle.std.proofs.lemmas.Bool.{and_parts}
use Rattle.ft_io.specs.declared.Addr.{Addr}
use Rattle.seq_arith.specs.Packet.{Segment}
use Rattle.server_trait.specs.Service.{Machine}
use Rattle.ft_model.specs.Offset.{one_if}
use Rattle.ft_model.specs.Point.{Point, answered_run, released, target}
use Rattle.ft_model.specs.Sending.{sent_at_once}
use Rattle.ft_model.specs.Segments.{fin_segment, sends_fin, new_fin}

closed_by : (b : Bool) (n m : ℕ) → n < m → m ≤ n + one_if b → b ≡ true
closed_by true n m h k = refl
closed_by false n m h k = absurd (omega (arith, h, k))

one_fin : (b c : Bool) (fin : Segment) → (b ≡ true → c ≡ true) → (if b then (if c then fin ∷ [] else []) else []) ≡ (if b then fin ∷ [] else [])
one_fin true c fin h = ap (λ x. if x then fin ∷ [] else []) (h refl)
one_fin false c fin h = refl

pub new_fin_is : {State : Type 0} (service : Machine State) (server : Addr) (before after : Point)
    → new_fin service server before after ≡ (if sends_fin service before after then fin_segment service server after ∷ [] else [])
unfolding new_fin sent_at_once
new_fin_is service server before after =
    one_fin (sends_fin service before after) (answered_run service after).closed (fin_segment service server after)
    (λ t. let parts = and_parts (nat_lt (released service after) (sent_at_once service before after)) (nat_le before.sent (released service after)) t in
    let past : released service after < sent_at_once service before after = ltb-true _ _ parts.0 in
    let behind : before.sent ≤ released service after = leb-true _ _ parts.1 in
    closed_by (answered_run service after).closed (released service after) (target service after) (omega (arith, past, behind)) (omega arith))
