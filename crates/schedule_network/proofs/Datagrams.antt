-- What one of two loggers sends, datagram by datagram, as the network stores it.
use Rattle.std.proofs.Common.{◌≡◌, ◌∙◌, sym, ap, ap₂, ℕ, zero, suc, ◌+◌, Some, option_map, List, [], ◌∷◌, ◌++◌, map, take, slice_get, append_assoc, arith}
use Rattle.std.proofs.Math.Seq.{take-suc}
use Rattle.std.proofs.lemmas.List.{map-append}
use Rattle.std.proofs.lemmas.Option.{slice_get_within, get_or_from_slice_get}
use Rattle.ft_model.specs.declared.way.Way.{Way}
use Rattle.ft_model.proofs.Lists.{none_is_some, some_is}
use Rattle.twin_laws.specs.declared.part.Part.{Part}
use Rattle.twin_laws.specs.declared.part.Side.{Side}
use Rattle.schedule_network.specs.StoredPackets.{Carried, with_packet}
use Rattle.schedule_network.specs.Loggers.{way_out, with_datagrams}

-- one datagram more is stored
both_there : (xs : List (Side × List ℕ)) (i : ℕ) (to : Side) (bytes : List ℕ) → option_map (λ d. d.0) (slice_get xs i) ≡ Some to
    → option_map (λ d. d.1) (slice_get xs i) ≡ Some bytes → slice_get xs i ≡ Some (to, bytes)
both_there [] i to bytes e f = none_is_some to e
both_there (x ∷ xs) zero to bytes e f = ap₂ (λ a b. Some (a, b)) (some_is x.0 to e) (some_is x.1 bytes f)
both_there (x ∷ xs) (suc i) to bytes e f = both_there xs i to bytes e f

pub one_datagram : (part : Part) (kept before after : Carried) (sent : List (Side × List ℕ)) (i : ℕ) (way : Way) (bytes : List ℕ) (to : Side)
    → before ≡ with_datagrams part kept (take i sent) → option_map (λ d. d.0) (slice_get sent i) ≡ Some to → option_map (λ d. d.1) (slice_get sent i) ≡ Some bytes
    → way ≡ way_out part to → after ≡ with_packet before way bytes → after ≡ with_datagrams part kept (take (i + 1) sent)
one_datagram part kept before after sent i way bytes to is at text goes e =
    let there : slice_get sent i ≡ Some (to, bytes) = both_there sent i to bytes at text in
    let long = slice_get_within sent i (to, bytes) there in
    let count : i + 1 ≡ suc i = omega arith in
    let next : take (i + 1) sent ≡ take i sent ++ (to, bytes) ∷ [] =
    ap (λ n. take n sent) count ∙ (take-suc sent i (to, bytes) long
    ∙ ap (λ y. take i sent ++ y ∷ []) (get_or_from_slice_get sent i (to, bytes) (to, bytes) there)) in
    e ∙ ap₂ (λ k w. with_packet k w bytes) is goes
    ∙ ap₂ (λ ways bytes. record { ways = ways; bytes = bytes })
    (append_assoc kept.ways (map (λ d. way_out part d.0) (take i sent)) (way_out part to ∷ [])
    ∙ ap (λ ws. kept.ways ++ ws) (sym (map-append (λ d. way_out part d.0) (take i sent) ((to, bytes) ∷ []))))
    (append_assoc kept.bytes (map (λ d. d.1) (take i sent)) (bytes ∷ [])
    ∙ ap (λ bs. kept.bytes ++ bs) (sym (map-append (λ d. d.1) (take i sent) ((to, bytes) ∷ []))))
    ∙ ap (with_datagrams part kept) (sym next)
