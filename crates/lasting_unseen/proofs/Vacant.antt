-- Nothing is there of a key that nobody has: no entry, no connection but one that is done, and no packet.
use Rattle.std.proofs.Common.{◌≡◌, ℕ, true, false, true≢false, refl, sym, ◌∙◌, subst, find, Some, None, List, [], ◌∷◌}
use Rattle.std.specs.List.{AllByRecursion}
use Rattle.ft_io.specs.declared.Key.{Key}
use Rattle.ft_io.specs.Key.{key_eq}
use Rattle.ft_io.proofs.Choices.{by_cases, if_false}
use Rattle.server_trait.specs.Service.{Machine}
use Rattle.seq_arith.specs.Message.{Body}
use Rattle.seq_arith.specs.Message.Body.{HelloMsg, SummaryMsg, ListMsg, EntryMsg, BytesMsg, PartMsg, CutsMsg, LensMsg, OpenMsg, OpenedMsg, DataMsg, StableMsg, ReadMsg, ReadsMsg, DoneMsg, EndedMsg, StaleMsg, FullMsg}
use Rattle.ft_model.specs.Keys.{has_key}
use Rattle.ft_model.specs.Log.{Entry, entry_of}
use Rattle.ft_model.specs.Network.{Packet, source_of, destination_of}
use Rattle.ft_model.specs.Network.Packet.{To_server, To_client, To_logger, From_logger}
use Rattle.ft_model.specs.Node.{Place, Stage, key_of}
use Rattle.ft_model.specs.Node.Place.{Opens, Lives, Ended}
use Rattle.ft_model.specs.Node.Stage.{Asking, Fetching, Serving, Fenced}
use Rattle.ft_model.specs.World.{World}
use Rattle.ft_model.proofs.ClientKeys.{keys_in}
use Rattle.ft_model.proofs.Formed.{HasClient, BodyFormed, PacketFormed, EntryFormed, PlaceFormed, StageFormed}
use Rattle.ft_model.proofs.Lists.{all_weaker, same_key}
use Rattle.long_laws.specs.LongTrace.{is_about, concerns, places_at, IsEnded, IsClear}
use Rattle.lasting_unseen.proofs.Known.{numbered_is_there}
use Rattle.lasting_unseen.proofs.Peopled.{Peopled}

module _ {State : Type 0} (service : Machine State) (w : World) (o : Peopled service w) (key : Key) (nobody : has_key key (keys_in w.clients) ≡ false) where
  another : (k : Key) → HasClient o.home k → key_eq k key ≡ false
  another k h =
      by_cases (key_eq k key)
      (λ t. absurd (true≢false (sym (o.there key (subst (λ z. has_key z (keys_in o.home.clients) ≡ true) (same_key k key t) (numbered_is_there o.home.clients k h.1))) ∙ nobody))) (λ t. t)

  body_of_another : (boot : ℕ) (body : Body) → BodyFormed o.home boot body → is_about key body ≡ false
  body_of_another boot HelloMsg f = refl
  body_of_another boot (SummaryMsg count) f = refl
  body_of_another boot (ListMsg index) f = refl
  body_of_another boot (EntryMsg index e) f = another e.key f.1.0
  body_of_another boot (BytesMsg k offset) f = another k f.0
  body_of_another boot (PartMsg k offset bytes) f = another k f.0
  body_of_another boot (CutsMsg k first) f = another k f.0
  body_of_another boot (LensMsg k first lens) f = another k f.0
  body_of_another boot (OpenMsg n) f = another n.key f.0
  body_of_another boot (OpenedMsg n) f = another n.key f.0
  body_of_another boot (DataMsg part) f = another part.key f.0
  body_of_another boot (StableMsg k) f = another k.key f.0
  body_of_another boot (ReadMsg k index length) f = another k f.0
  body_of_another boot (ReadsMsg k) f = another k.key f.0
  body_of_another boot (DoneMsg k) f = another k f
  body_of_another boot (EndedMsg k) f = another k f
  body_of_another boot (StaleMsg newer) f = refl
  body_of_another boot (FullMsg k) f = another k f

  packet_of_another : (p : Packet) → PacketFormed o.home p → concerns key p ≡ false
  packet_of_another (To_server s) f = another (source_of s) f.0
  packet_of_another (To_client s) f = another (destination_of s) f.0
  packet_of_another (To_logger m) f = body_of_another m.boot m.body f.1
  packet_of_another (From_logger m) f = body_of_another m.boot m.body f.0.1

  pub none_under_way : AllByRecursion (λ p. concerns key p ≡ false) w.packets
  none_under_way = all_weaker (PacketFormed o.home) (λ p. concerns key p ≡ false) w.packets packet_of_another o.formed.packets

  none_found : (entries : List Entry) → AllByRecursion (EntryFormed o.home) entries → find (λ e. key_eq e.key key) entries ≡ None
  none_found [] f = refl
  none_found (e ∷ entries) f = if_false (key_eq e.key key) (Some e) (find (λ x. key_eq x.key key) entries) (another e.key f.0.key) ∙ none_found entries f.1

  pub no_entry : entry_of key w.log ≡ None
  no_entry = none_found w.log.entries o.formed.entries

  ended_alone : (place : Place) → PlaceFormed o.home place → key_eq (key_of place) key ≡ true → IsEnded place
  ended_alone (Opens n timestamping) f e = absurd (true≢false (sym e ∙ another n.key f.0.0))
  ended_alone (Lives p) f e = absurd (true≢false (sym e ∙ another p.key f.key))
  ended_alone (Ended k) f e = tt

  clear_at : (stage : Stage) → StageFormed o.home stage → AllByRecursion (λ place. key_eq (key_of place) key ≡ true → IsEnded place) (places_at stage)
  clear_at (Serving opened places) f = all_weaker (PlaceFormed o.home) (λ place. key_eq (key_of place) key ≡ true → IsEnded place) places ended_alone f
  clear_at Asking f = tt
  clear_at (Fetching count fetched) f = tt
  clear_at (Fenced newer) f = tt

  pub is_clear : IsClear key w
  is_clear node up = clear_at node.stage (o.formed.node node up).stage
