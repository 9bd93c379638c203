-- The parcels that the network keeps, as those of the definitions: what is put after them, and each by its number.
use Rattle.std.proofs.Common.{◌≡◌, ◌∙◌, sym, ap, ap₂, subst, refl, ℕ, zero, suc, ◌+◌, ◌≤◌, Some, None, List, [], ◌∷◌, ◌++◌, map, slice_get, append-nil, length, length-append, arith}
use Rattle.std.specs.List.{AllByRecursion}
use Rattle.std.proofs.lemmas.List.{map-append, length-map}
use Rattle.ft_io.specs.declared.Key.{Key}
use Rattle.seq_arith.specs.Message.{Message}
use Rattle.seq_arith.specs.declared.kinds.Grammar.{Grammar}
use Rattle.seq_arith.specs.MessageGrammar as messages
use Rattle.ft_model.specs.Network.{Packet}
use Rattle.ft_model.specs.Network.Packet.{From_logger}
use Rattle.ft_model.specs.Wire.{wire_by}
use Rattle.ft_model.specs.declared.way.Way.{Way}
use Rattle.ft_model.proofs.Lists.{none_is_some}
use Rattle.twin_laws.specs.declared.part.Part.{Part}
use Rattle.twin_laws.specs.declared.part.Part.TheVariants as parts
use Rattle.twin_laws.specs.declared.part.Side.{Side}
use Rattle.twin_laws.specs.declared.part.Side.TheVariants as sides
use Rattle.twin_laws.specs.Twin.{Between, Does, bytes_of}
use Rattle.twin_laws.specs.Twin.Between.{Forward, Got}
use Rattle.twin_laws.specs.StoredState.{sent_to_other}
use Rattle.twin_laws.specs.TwinWorld.{Parcel, parcel_at, sent_by}
use Rattle.twin_laws.specs.TwinWorld.Parcel.{Outside, Inside}
use Rattle.twin_laws.specs.TwinLegal.{bytes_of_parcel}
use Rattle.schedule_network.specs.AtNumber.{at_number}
use Rattle.schedule_network.specs.StoredPackets.{Carried, with_wires, way_along}
use Rattle.schedule_network.specs.Loggers.{way_out, with_datagrams}
use Rattle.net_schedule.specs.TwinRefinement.{stored_way, carried_parcels}
use Rattle.net_schedule.proofs.PacketStore.{found_at, missing_at, ways_alike}

abbrev pack : List Way → List (List ℕ) → Carried
pack ways bytes = record { ways = ways; bytes = bytes }

-- what is sent after what was kept
pub parcels_after : (grammar : Grammar) (keys : List Key) (kept after : Carried) (xs ys : List Parcel) → kept ≡ carried_parcels grammar keys xs
    → after ≡ pack (kept.ways ++ map (stored_way keys) ys) (kept.bytes ++ map (bytes_of_parcel grammar) ys) → after ≡ carried_parcels grammar keys (xs ++ ys)
parcels_after grammar keys kept after xs ys e is =
    is ∙ ap (λ k. pack (k.ways ++ map (stored_way keys) ys) (k.bytes ++ map (bytes_of_parcel grammar) ys)) e
    ∙ ap₂ pack (sym (map-append (stored_way keys) xs ys)) (sym (map-append (bytes_of_parcel grammar) xs ys))

-- packets that go outside
outside_ways : (grammar : Grammar) (keys : List Key) (ps : List Packet) → map (way_along keys) (map (wire_by grammar) ps) ≡ map (stored_way keys) (map Outside ps)
outside_ways grammar keys [] = refl
outside_ways grammar keys (p ∷ ps) = ap₂ (λ w ws. w ∷ ws) (ways_alike grammar keys p) (outside_ways grammar keys ps)

outside_bytes : (grammar : Grammar) (ps : List Packet) → map (λ w. w.bytes) (map (wire_by grammar) ps) ≡ map (bytes_of_parcel grammar) (map Outside ps)
outside_bytes grammar [] = refl
outside_bytes grammar (p ∷ ps) = ap (λ bs. (wire_by grammar p).bytes ∷ bs) (outside_bytes grammar ps)

pub packets_after : (grammar : Grammar) (keys : List Key) (kept : Carried) (xs : List Parcel) (ps : List Packet) → kept ≡ carried_parcels grammar keys xs
    → with_wires keys kept (map (wire_by grammar) ps) ≡ carried_parcels grammar keys (xs ++ map Outside ps)
packets_after grammar keys kept xs ps e =
    parcels_after grammar keys kept (with_wires keys kept (map (wire_by grammar) ps)) xs (map Outside ps) e
    (ap₂ pack (ap (λ ws. kept.ways ++ ws) (outside_ways grammar keys ps)) (ap (λ bs. kept.bytes ++ bs) (outside_bytes grammar ps)))

-- nothing is sent
pub none_after : (grammar : Grammar) (keys : List Key) (kept : Carried) (xs : List Parcel) → kept ≡ carried_parcels grammar keys xs → kept ≡ carried_parcels grammar keys (xs ++ [])
none_after grammar keys kept xs e = e ∙ ap (carried_parcels grammar keys) (sym (append-nil xs))

-- what one of two loggers sends goes this way
abbrev pub GoesFrom : Part → Between → Type 0
GoesFrom parts.Head (Forward number r) = Unit {0}
GoesFrom parts.Head (Got number) = ⊥
GoesFrom parts.Tail (Forward number r) = ⊥
GoesFrom parts.Tail (Got number) = Unit {0}

answer_ways : (grammar : Grammar) (keys : List Key) (part : Part) (ms : List Message)
    → map (λ (d : Side × List ℕ). way_out part d.0) (map (λ m. (sides.Server, messages.spelling_by grammar m)) ms) ≡ map (stored_way keys) (map (λ m. Outside (From_logger m)) ms)
answer_ways grammar keys part [] = refl
answer_ways grammar keys part (m ∷ ms) = ap (λ ws. stored_way keys (Outside (From_logger m)) ∷ ws) (answer_ways grammar keys part ms)

answer_bytes : (grammar : Grammar) (ms : List Message) → map (λ (d : Side × List ℕ). d.1) (map (λ m. (sides.Server, messages.spelling_by grammar m)) ms) ≡ map (bytes_of_parcel grammar) (map (λ m. Outside (From_logger m)) ms)
answer_bytes grammar [] = refl
answer_bytes grammar (m ∷ ms) = ap (λ bs. messages.spelling_by grammar m ∷ bs) (answer_bytes grammar ms)

other_ways : (keys : List Key) (part : Part) (bs : List Between) → AllByRecursion (GoesFrom part) bs
    → map (λ (d : Side × List ℕ). way_out part d.0) (sent_to_other bs) ≡ map (stored_way keys) (map Inside bs)
other_ways keys part [] a = refl
other_ways keys parts.Head (Forward number r ∷ bs) a = ap (λ ws. way_out parts.Head sides.Other ∷ ws) (other_ways keys parts.Head bs a.1)
other_ways keys parts.Head (Got number ∷ bs) a = absurd a.0
other_ways keys parts.Tail (Forward number r ∷ bs) a = absurd a.0
other_ways keys parts.Tail (Got number ∷ bs) a = ap (λ ws. way_out parts.Tail sides.Other ∷ ws) (other_ways keys parts.Tail bs a.1)

other_bytes : (grammar : Grammar) (bs : List Between) → map (λ (d : Side × List ℕ). d.1) (sent_to_other bs) ≡ map (bytes_of_parcel grammar) (map Inside bs)
other_bytes grammar [] = refl
other_bytes grammar (b ∷ bs) = ap (λ xs. bytes_of b ∷ xs) (other_bytes grammar bs)

-- so what it sends is stored as the definitions' parcels
pub datagrams_after : {State : Type 0} (grammar : Grammar) (keys : List Key) (part : Part) (kept : Carried) (xs : List Parcel) (d : Does State) → AllByRecursion (GoesFrom part) d.to_other
    → kept ≡ carried_parcels grammar keys xs
    → with_datagrams part kept (map (λ m. (sides.Server, messages.spelling_by grammar m)) d.to_server ++ sent_to_other d.to_other) ≡ carried_parcels grammar keys (xs ++ sent_by d)
datagrams_after grammar keys part kept xs d goes e =
    let answers : List (Side × List ℕ) = map (λ m. (sides.Server, messages.spelling_by grammar m)) d.to_server in
    let outs : List Parcel = map (λ m. Outside (From_logger m)) d.to_server in
    parcels_after grammar keys kept (with_datagrams part kept (map (λ m. (sides.Server, messages.spelling_by grammar m)) d.to_server ++ sent_to_other d.to_other)) xs (sent_by d) e
    (ap₂ pack
    (ap (λ ws. kept.ways ++ ws)
    (map-append (λ (x : Side × List ℕ). way_out part x.0) answers (sent_to_other d.to_other)
    ∙ ap₂ (λ a b. a ++ b) (answer_ways grammar keys part d.to_server) (other_ways keys part d.to_other goes)
    ∙ sym (map-append (stored_way keys) outs (map Inside d.to_other))))
    (ap (λ bs. kept.bytes ++ bs)
    (map-append (λ (x : Side × List ℕ). x.1) answers (sent_to_other d.to_other)
    ∙ ap₂ (λ a b. a ++ b) (answer_bytes grammar d.to_server) (other_bytes grammar d.to_other)
    ∙ sym (map-append (bytes_of_parcel grammar) outs (map Inside d.to_other)))))

-- a parcel by its number
pub record FoundParcel (grammar : Grammar) (keys : List Key) (xs : List Parcel) (n : ℕ) (way : Way) (bytes : List ℕ) : Type 0 where
  pub parcel : Parcel
  pub is : parcel_at xs n ≡ Some parcel
  pub goes : way ≡ stored_way keys parcel
  pub spells : bytes ≡ bytes_of_parcel grammar parcel

pub found_parcel : (grammar : Grammar) (keys : List Key) (kept : Carried) (xs : List Parcel) (n : ℕ) (way : Way) (bytes : List ℕ) → kept ≡ carried_parcels grammar keys xs
    → at_number kept.ways n ≡ Some way → at_number kept.bytes n ≡ Some bytes → FoundParcel grammar keys xs n way bytes
found_parcel grammar keys kept xs zero way bytes k e f = none_is_some way e
found_parcel grammar keys kept xs (suc n) way bytes k e f =
    let r = found_at (stored_way keys) (bytes_of_parcel grammar) xs n way bytes (subst (λ c. slice_get c.ways n ≡ Some way) k e) (subst (λ c. slice_get c.bytes n ≡ Some bytes) k f) in
    record { parcel = r.one; is = r.is; goes = r.goes; spells = r.spells }

-- there is none of this number
pub no_parcel_way : (grammar : Grammar) (keys : List Key) (kept : Carried) (xs : List Parcel) (n : ℕ) → kept ≡ carried_parcels grammar keys xs → at_number kept.ways n ≡ None → parcel_at xs n ≡ None
no_parcel_way grammar keys kept xs zero k e = refl
no_parcel_way grammar keys kept xs (suc n) k e = missing_at (stored_way keys) xs n (subst (λ c. slice_get c.ways n ≡ None) k e)

pub no_parcel_bytes : (grammar : Grammar) (keys : List Key) (kept : Carried) (xs : List Parcel) (n : ℕ) → kept ≡ carried_parcels grammar keys xs → at_number kept.bytes n ≡ None → parcel_at xs n ≡ None
no_parcel_bytes grammar keys kept xs zero k e = refl
no_parcel_bytes grammar keys kept xs (suc n) k e = missing_at (bytes_of_parcel grammar) xs n (subst (λ c. slice_get c.bytes n ≡ None) k e)

-- so many parcels are kept as were sent
pub as_many_parcels : (grammar : Grammar) (keys : List Key) (kept : Carried) (xs : List Parcel) → kept ≡ carried_parcels grammar keys xs → length kept.bytes ≡ length xs
as_many_parcels grammar keys kept xs k = ap (λ c. length c.bytes) k ∙ length-map xs (bytes_of_parcel grammar)

pub datagrams_grow : (part : Part) (kept : Carried) (sent : List (Side × List ℕ)) → length kept.bytes ≤ length (with_datagrams part kept sent).bytes
datagrams_grow part kept sent = omega (arith, length-append kept.bytes (map (λ d. d.1) sent))
