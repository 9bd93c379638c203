-- With marks: the parcels that the network keeps, as those of the definitions. What is put after them, and each by its number.
use Rattle.std.proofs.Common.{◌≡◌, ◌∙◌, sym, ap, ap₂, subst, refl, ℕ, zero, suc, Option, Some, None, List, [], ◌∷◌, ◌++◌, map, drop, slice_get, append-nil, length}
use Rattle.std.specs.Option.{option_to_list}
use Rattle.std.proofs.lemmas.List.{map-append, length-map}
use Rattle.ft_io.specs.declared.Key.{Key}
use Rattle.seq_arith.specs.Mark.{MarkMessage}
use Rattle.seq_arith.specs.declared.kinds.Grammar.{Grammar}
use Rattle.seq_arith.specs.MarkGrammar as marks
use Rattle.seq_arith.specs.Header.{headed}
use Rattle.ft_model.specs.Network.{Packet}
use Rattle.ft_model.specs.Network.Packet.{From_logger}
use Rattle.ft_model.specs.Wire.{wire_by}
use Rattle.ft_model.specs.declared.way.Way.{Way}
use Rattle.ft_model.specs.declared.way.Way.TheVariants.{LoggerToServer}
use Rattle.ft_model.proofs.Lists.{none_is_some}
use Rattle.mark_laws.specs.MarkedLog.{AnyMessage}
use Rattle.mark_laws.specs.MarkedLog.AnyMessage.{About_mark, Of_log}
use Rattle.mark_store.specs.Bytes.{reply_bytes_by}
use Rattle.mark_laws.specs.MarkedWorld.{Parcel, answered_as, bytes_of, parcel_at}
use Rattle.mark_laws.specs.MarkedWorld.Parcel.{Usual}
use Rattle.schedule_network.specs.AtNumber.{at_number}
use Rattle.schedule_network.specs.StoredPackets.{Carried, with_packet, with_wires, with_answer, way_along}
use Rattle.net_schedule.specs.MarkedRefinement.{way_of_parcel, stored_parcels}
use Rattle.net_schedule.proofs.PacketStore.{found_at, missing_at, spelling_begins, ways_alike}

abbrev pack : List Way → List (List ℕ) → Carried
pack ways bytes = record { ways = ways; bytes = bytes }

-- what is sent after what was kept
pub parcels_after : (grammar : Grammar) (keys : List Key) (kept after : Carried) (xs ys : List Parcel) → kept ≡ stored_parcels grammar keys xs
    → after ≡ pack (kept.ways ++ map (way_of_parcel keys) ys) (kept.bytes ++ map (bytes_of grammar) ys) → after ≡ stored_parcels grammar keys (xs ++ ys)
parcels_after grammar keys kept after xs ys e is =
    is ∙ (ap (λ k. pack (k.ways ++ map (way_of_parcel keys) ys) (k.bytes ++ map (bytes_of grammar) ys)) e
    ∙ ap₂ pack (sym (map-append (way_of_parcel keys) xs ys)) (sym (map-append (bytes_of grammar) xs ys)))

-- packets as without marks
usual_ways : (grammar : Grammar) (keys : List Key) (ps : List Packet) → map (way_along keys) (map (wire_by grammar) ps) ≡ map (way_of_parcel keys) (map Usual ps)
usual_ways grammar keys [] = refl
usual_ways grammar keys (p ∷ ps) = ap₂ (λ w ws. w ∷ ws) (ways_alike grammar keys p) (usual_ways grammar keys ps)

usual_bytes : (grammar : Grammar) (ps : List Packet) → map (λ w. w.bytes) (map (wire_by grammar) ps) ≡ map (bytes_of grammar) (map Usual ps)
usual_bytes grammar [] = refl
usual_bytes grammar (p ∷ ps) = ap (λ bs. (wire_by grammar p).bytes ∷ bs) (usual_bytes grammar ps)

pub usual_after : (grammar : Grammar) (keys : List Key) (kept : Carried) (xs : List Parcel) (ps : List Packet) → kept ≡ stored_parcels grammar keys xs
    → with_wires keys kept (map (wire_by grammar) ps) ≡ stored_parcels grammar keys (xs ++ map Usual ps)
usual_after grammar keys kept xs ps e =
    parcels_after grammar keys kept (with_wires keys kept (map (wire_by grammar) ps)) xs (map Usual ps) e
    (ap₂ pack (ap (λ ws. kept.ways ++ ws) (usual_ways grammar keys ps)) (ap (λ bs. kept.bytes ++ bs) (usual_bytes grammar ps)))

-- nothing is sent
pub none_after : (grammar : Grammar) (keys : List Key) (kept : Carried) (xs : List Parcel) → kept ≡ stored_parcels grammar keys xs → kept ≡ stored_parcels grammar keys (xs ++ [])
none_after grammar keys kept xs e = e ∙ ap (stored_parcels grammar keys) (sym (append-nil xs))

-- a message about marks has bytes
mark_begins : (message : MarkMessage) → (b : ℕ) × (bytes : List ℕ) × (marks.spelling message ≡ b ∷ bytes)
unfolding marks.spelling marks.spelled headed
mark_begins message = (70, drop 1 (marks.spelling message), refl)

-- the answer of the log with marks, if it gives one
pub reply_after : (grammar : Grammar) (keys : List Key) (kept : Carried) (xs : List Parcel) (o : Option AnyMessage) → kept ≡ stored_parcels grammar keys xs
    → with_answer kept (reply_bytes_by grammar o) ≡ stored_parcels grammar keys (xs ++ map answered_as (option_to_list o))
reply_after grammar keys kept xs None e = none_after grammar keys kept xs e
reply_after grammar keys kept xs (Some (Of_log message)) e =
    let s : (b : ℕ) × (bytes : List ℕ) × _ = spelling_begins grammar message in
    ap (with_answer kept) s.2 ∙ (ap (with_packet kept LoggerToServer) (sym s.2) ∙ parcels_after grammar keys kept _ xs (Usual (From_logger message) ∷ []) e refl)
reply_after grammar keys kept xs (Some (About_mark message)) e =
    let s : (b : ℕ) × (bytes : List ℕ) × (marks.spelling message ≡ b ∷ bytes) = mark_begins message in
    ap (with_answer kept) s.2 ∙ (ap (with_packet kept LoggerToServer) (sym s.2) ∙ parcels_after grammar keys kept _ xs (answered_as (About_mark message) ∷ []) e refl)

-- a parcel by its number
pub record FoundMarked (grammar : Grammar) (keys : List Key) (xs : List Parcel) (n : ℕ) (way : Way) (bytes : List ℕ) : Type 0 where
  pub parcel : Parcel
  pub is : parcel_at xs n ≡ Some parcel
  pub goes : way ≡ way_of_parcel keys parcel
  pub spells : bytes ≡ bytes_of grammar parcel

pub found_marked : (grammar : Grammar) (keys : List Key) (kept : Carried) (xs : List Parcel) (n : ℕ) (way : Way) (bytes : List ℕ) → kept ≡ stored_parcels grammar keys xs
    → at_number kept.ways n ≡ Some way → at_number kept.bytes n ≡ Some bytes → FoundMarked grammar keys xs n way bytes
found_marked grammar keys kept xs zero way bytes k e f = none_is_some way e
found_marked grammar keys kept xs (suc n) way bytes k e f =
    let r = found_at (way_of_parcel keys) (bytes_of grammar) xs n way bytes (subst (λ c. slice_get c.ways n ≡ Some way) k e) (subst (λ c. slice_get c.bytes n ≡ Some bytes) k f) in
    record { parcel = r.one; is = r.is; goes = r.goes; spells = r.spells }

-- there is none of this number
pub no_marked_way : (grammar : Grammar) (keys : List Key) (kept : Carried) (xs : List Parcel) (n : ℕ) → kept ≡ stored_parcels grammar keys xs → at_number kept.ways n ≡ None → parcel_at xs n ≡ None
no_marked_way grammar keys kept xs zero k e = refl
no_marked_way grammar keys kept xs (suc n) k e = missing_at (way_of_parcel keys) xs n (subst (λ c. slice_get c.ways n ≡ None) k e)

pub no_marked_bytes : (grammar : Grammar) (keys : List Key) (kept : Carried) (xs : List Parcel) (n : ℕ) → kept ≡ stored_parcels grammar keys xs → at_number kept.bytes n ≡ None → parcel_at xs n ≡ None
no_marked_bytes grammar keys kept xs zero k e = refl
no_marked_bytes grammar keys kept xs (suc n) k e = missing_at (bytes_of grammar) xs n (subst (λ c. slice_get c.bytes n ≡ None) k e)

-- so many parcels are kept as were sent
pub as_many_marked : (grammar : Grammar) (keys : List Key) (kept : Carried) (xs : List Parcel) → kept ≡ stored_parcels grammar keys xs → length kept.bytes ≡ length xs
as_many_marked grammar keys kept xs k = ap (λ c. length c.bytes) k ∙ length-map xs (bytes_of grammar)
