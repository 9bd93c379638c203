use Rattle.std.proofs.Common.{◌≡◌, ℕ, ◌<◌, ◌-◌, ◌∙◌, List, ◌∷◌, length, take, drop, refl, sym, ap, arith, Some}
use Rattle.std.specs.Prelude.{slice_index}
use Rattle.std.specs.List.{refill}
use Rattle.tcp_endpoint.specs.Packets.{pieces}
use Rattle.tcp_endpoint.proofs.Pieces.{length_pieces, written, bounds_at, first_length, lent_is, same_length_is, piece_at}
use Rattle.tcp_endpoint.proofs.outbox.Outbox.packet_mut.Goals as goal

pub returns : goal.returns
returns c = rw (← c.self.view_is) (
    let i : ℕ = c.args.i in
    let ends : List ℕ = c.self.inside.ends.items in
    let bytes : List ℕ = c.self.inside.bytes.items in
    let held : ℕ = c.self.inside.bytes.len in
    let climbs = c.self.invariant.climbs in
    let within : i < length ends = omega (arith, c.requires, ap (λ (ps : List (List ℕ)). length ps) c.self.view_is, length_pieces 0 ends bytes) in
    let start : c.bounds-start.result.0 ≡ slice_index (0 ∷ ends) i = c.bounds-start.ensures.start ∙ ap (λ es. slice_index (0 ∷ es) i) c.deref.ensures.value in
    let end : c.bounds-start.result.1 ≡ slice_index ends i = c.bounds-start.ensures.end ∙ ap (λ es. slice_index es i) c.deref.ensures.value in
    let fits = bounds_at 0 ends (length bytes) i climbs within in
    let packet : c.slice_mut.result.now ≡ take (slice_index ends i - slice_index (0 ∷ ends) i) (drop (slice_index (0 ∷ ends) i) bytes) =
    c.slice_mut.ensures.value ∙ ap (λ s. take (c.bounds-start.result.1 - s) (drop s bytes)) start
    ∙ ap (λ e. take (e - slice_index (0 ∷ ends) i) (drop (slice_index (0 ∷ ends) i) bytes)) end in
    let size : length c.slice_mut.result.now ≡ slice_index ends i - slice_index (0 ∷ ends) i =
    ap length packet ∙ first_length (slice_index (0 ∷ ends) i) (slice_index ends i) bytes fits.0 fits.1 in (
      (refl, λ w. ap (λ s. pieces 0 ends (refill held bytes (written s w bytes))) start ∙ lent_is ends bytes w held i climbs within c.self.inside.bytes.ok.0),
      record {
        writes_back = tt;
        value = piece_at 0 ends bytes i within ∙ ap Some (sym packet);
        same_length = λ new same. same_length_is ends bytes new i climbs within (same ∙ size);
      },
    ))
