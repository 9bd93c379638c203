-- A Full resets the client of a pending opening, whatever the log has of it by then.
use Rattle.tcp_rules.specs.declared.timestamping.Timestamping.{Timestamping}
use Rattle.std.proofs.Common.{◌≡◌, ℕ, ◌+◌, ◌==◌, ◌&&◌, true, refl, sym, ap, ap₂, subst, eq-eqb, MatchBool, None, Some, List, [], ◌∷◌, ◌++◌, arith}
use Rattle.seq_arith.specs.Message.{Numbers, Message}
use Rattle.seq_arith.specs.Message.Body.{FullMsg}
use Rattle.server_trait.specs.Service.{Machine}
use Rattle.ft_model.specs.Lawful.{LawfulTurn, NodeTurn, StageTurn, fence, is_fenced, newer_than}
use Rattle.ft_model.specs.Network.{Packet, packet_at}
use Rattle.ft_model.specs.Network.Packet.{To_client, From_logger}
use Rattle.ft_model.specs.Node.{Node, Input}
use Rattle.ft_model.specs.Node.Input.{Message_comes}
use Rattle.ft_model.specs.Node.Place.{Opens}
use Rattle.ft_model.specs.Node.Stage.{Serving}
use Rattle.ft_model.specs.Refusal.{full_rst}
use Rattle.ft_model.specs.ServingTurn.{PlaceTurn, Meets, Stays, concerns}
use Rattle.ft_model.specs.World.{World, ServerTurn, Happens}
use Rattle.ft_model.specs.declared.event.Event.TheVariants.{Deliver}
use Rattle.ft_model.proofs.Lists.{key_is}
use Rattle.ft_model.proofs.Turns.{alone}
use Rattle.ft_io.proofs.Choices.{holds_if}

module _ {State : Type 0} (service : Machine State) (node : Node) (opened : ℕ) (numbers : Numbers) (timestamping : Timestamping) (is : node.stage ≡ Serving opened (Opens numbers timestamping ∷ [])) where
  abbrev message : Message
  message = record { boot = node.boot; body = FullMsg numbers.key }

  abbrev input : Input
  input = Message_comes message

  abbrev sent : List Packet
  sent = To_client (full_rst node.server numbers) ∷ []

  abbrev later : Node
  later = record node { stage = Serving opened [] }

  drops : PlaceTurn service node input (Opens numbers timestamping) [] sent
  drops =
      let receipt : concerns node input numbers.key ≡ true = ap₂ ◌&&◌ (eq-eqb node.boot node.boot refl) (key_is numbers.key) in
      subst (λ b. MatchBool b (Meets service node input (Opens numbers timestamping) [] sent) (Stays (Opens numbers timestamping) [] sent)) (sym receipt) (refl, refl)

  turn : LawfulTurn service node input sent later
  turn = record {
    server = refl;
    profile = refl;
    boot = refl;
    isn = refl;
    live = ap is_fenced is;
    stage = subst (λ o. NodeTurn service node input o later.stage sent) (sym unfenced)
        (subst (λ s. StageTurn service node s input later.stage sent) (sym is) (
          [],
          ap (λ n. Serving n []) none_new,
          record { went = []; by_places = sent; all_go = alone (PlaceTurn service node input) (Opens numbers timestamping) [] sent drops; places = refl; packets = refl },
        ));
  }
    where
      unfenced : fence node input ≡ None
      unfenced = holds_if (λ o. o ≡ None) (node.boot == node.boot) (newer_than node.boot (FullMsg numbers.key)) None (λ t. refl) (λ t. refl)

      none_new : opened ≡ opened + 0
      none_new = omega arith

  pub late_full : (w : World) (number : ℕ) → w.node ≡ Some node → packet_at w.packets number ≡ Some (From_logger (record { boot = node.boot; body = FullMsg numbers.key }))
      → Happens service w (Deliver number) (To_client (full_rst node.server numbers) ∷ [])
      (record w { node = Some (record node { stage = Serving opened [] }); packets = w.packets ++ To_client (full_rst node.server numbers) ∷ [] })
  late_full w number up at =
      (From_logger message, at, (subst (λ o. ServerTurn service input o sent (Some later)) (sym up) (later, refl, turn), refl))
