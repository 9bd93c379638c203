-- The turn by which a server lets go of a client.
use Rattle.std.proofs.Common.{◌≡◌, ◌∙◌, ℕ, ◌≤◌, ◌^◌, ◌+◌, sym, ap, subst, true≢false, List, map, Some}
use Rattle.std.specs.Prelude.{slice_get}
use Rattle.ft_io.specs.declared.Addr.{Addr}
use Rattle.ft_io.proofs.Choices.{same_some}
use Rattle.ft_model.specs.Keys.{AreDistinct}
use Rattle.ft_model.specs.Lawful.{IsNearTo, IsNearInput}
use Rattle.ft_model.specs.Node.{Place, key_of, place_at}
use Rattle.ft_model.specs.Node.Input.{Packet_comes}
use Rattle.ft_model.specs.Node.Place.{Opens, Lives, Ended}
use Rattle.ft_model.specs.Node.Stage.{Serving}
use Rattle.ft_model.specs.Offset.{IsNear}
use Rattle.ft_model.specs.Point.{Point, taken_units}
use Rattle.ft_model.proofs.Keys.{all_from_get, finds_itself}
use Rattle.ft_model.proofs.Lists.{same_key}
use Rattle.trace_laws.proofs.Near.{near_number}
use Rattle.long_laws.specs.LongTrace.{last_rst}

-- the RST is near to its own connection
own_near : (server : Addr) (p : Point) → taken_units p ≤ 2 ^ 24 + 1 → IsNear p.cisn p.sisn (last_rst server p)
own_near server p small = record { first = near_number p.cisn (taken_units p) small; ack = λ a. absurd (true≢false (sym a)) }

abbrev point_in : Place → Point → Point
point_in (Lives q) other = q
point_in place other = other

place_near : (server : Addr) (p : Point) (places : List Place) → AreDistinct (map key_of places) → place_at p.key places ≡ Some (Lives p) → taken_units p ≤ 2 ^ 24 + 1
    → (i : ℕ) (x : Place) → slice_get places i ≡ Some x → IsNearTo server (last_rst server p) x
place_near server p places d there small i (Opens numbers t) e = tt
place_near server p places d there small i (Ended k) e = tt
place_near server p places d there small i (Lives q) e = λ ours its.
    let key : p.key ≡ q.key = same_key p.key q.key its in
    let found : place_at q.key places ≡ Some (Lives q) = finds_itself key_of places i (Lives q) d e in
    let same : Lives p ≡ Lives q = same_some (sym there ∙ (ap (λ k. place_at k places) key ∙ found)) in
    subst (λ x. IsNear x.cisn x.sisn (last_rst server p)) (ap (λ x. point_in x p) same) (own_near server p small)

pub rst_near : (server : Addr) (p : Point) (opened : ℕ) (places : List Place) → AreDistinct (map key_of places) → place_at p.key places ≡ Some (Lives p) → taken_units p ≤ 2 ^ 24 + 1
    → IsNearInput server (Packet_comes (last_rst server p)) (Serving opened places)
rst_near server p opened places d there small = all_from_get (IsNearTo server (last_rst server p)) places (place_near server p places d there small)
