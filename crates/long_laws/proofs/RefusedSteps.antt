-- Which steps are refused.
use Rattle.std.proofs.Common.{◌≡◌, ◌≤◌, zero, suc, true, false, refl, sym, ◌∙◌, true≢false, arith, Some}
use Rattle.ft_io.specs.declared.Key.{Key}
use Rattle.ft_io.specs.Key.{key_eq}
use Rattle.ft_model.specs.Client.{Client}
use Rattle.ft_model.specs.Log.{Entry, entry_of}
use Rattle.ft_model.specs.Masked.{is_restarting}
use Rattle.ft_model.specs.Network.{Packet}
use Rattle.ft_model.specs.Network.Packet.{To_server}
use Rattle.ft_model.specs.Node.{Node, Place, key_of, place_at}
use Rattle.ft_model.specs.World.{World, WasSent}
use Rattle.ft_model.specs.WorkedRuns.Common as common
use Rattle.ft_model.specs.WorkedRuns.Closing as closing
use Rattle.ft_model.proofs.Lists.{all_slice_get, all_find, found_passes, none_is_some}
use Rattle.long_laws.specs.LongTrace.{concerns, places_at, IsEnded, MayRecycle, MayForget, MayArrive}
use Rattle.long_laws.specs.WorkedTrace as run

pub not_recycled : (key : Key) (w : World) (e : Entry) → entry_of key w.log ≡ Some e → e.done ≡ false → MayRecycle key w → ⊥
not_recycled key w e found undone may = true≢false (sym (may.done e found) ∙ undone)

pub not_recycled_live : (key : Key) (w : World) (node : Node) (place : Place) → w.node ≡ Some node → place_at key (places_at node.stage) ≡ Some place → (IsEnded place → ⊥)
    → MayRecycle key w → ⊥
not_recycled_live key w node place up found ongoing may =
    ongoing (all_find (λ p. key_eq (key_of p) key ≡ true → IsEnded p) (λ p. key_eq (key_of p) key) (places_at node.stage) place (may.clear node up) found
    (found_passes (λ p. key_eq (key_of p) key) (places_at node.stage) place found))

pub not_recycled_asked : (key : Key) (w : World) (node : Node) → w.node ≡ Some node → is_restarting node.stage ≡ true → node.boot ≤ w.log.boot → MayRecycle key w → ⊥
not_recycled_asked key w node up restarts asked may = omega (arith, asked, may.settled node up restarts)

pub not_forgotten : (key : Key) (w : World) (e : Entry) → entry_of key w.log ≡ Some e → MayForget key w → ⊥
not_forgotten key w e found may = none_is_some e (sym may.absent ∙ found)

pub not_arrived : (c : Client) (w : World) (packet : Packet) → WasSent w packet → concerns c.key packet ≡ true → MayArrive c w → ⊥
not_arrived c w packet (zero, sent) about may = none_is_some packet sent
not_arrived c w packet (suc n, sent) about may =
    true≢false (sym about ∙ all_slice_get (λ p. concerns c.key p ≡ false) w.packets n packet may.unreceived sent)

pub not_done : MayRecycle common.key run.not_done → ⊥
not_done = not_recycled common.key run.not_done run.acknowledged_entry refl refl

pub still_logged : MayForget common.key run.still_logged → ⊥
still_logged = not_forgotten common.key run.still_logged run.done_entry refl

pub still_under_way : MayArrive run.second_client run.still_under_way → ⊥
still_under_way = not_arrived run.second_client run.still_under_way (To_server closing.last_ack) (3, refl) refl
