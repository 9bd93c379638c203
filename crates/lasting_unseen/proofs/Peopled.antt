-- A world in which each thing belongs to a client that is there: each packet, each entry and each connection of the server. So nothing is there of a key that
-- nobody has, and all that is under way has a wire.
use Rattle.std.proofs.Common.{◌≡◌, true, sym, ap, ◌∙◌, subst, subst₂, ⊎_elim, List, []}
use Rattle.std.specs.List.{AllByRecursion}
use Rattle.ft_io.specs.declared.Key.{Key}
use Rattle.server_trait.specs.Service.{Machine, WritesBytes}
use Rattle.tcp_rules.specs.Profile.{grammar_of}
use Rattle.ft_model.specs.Keys.{has_key}
use Rattle.ft_model.specs.Network.{Packet}
use Rattle.ft_model.specs.Wire.{HasWireBy}
use Rattle.ft_model.specs.World.{World, Happens, is_apart}
use Rattle.ft_model.specs.declared.event.Event.{Event}
use Rattle.ft_model.proofs.AuthorOver.{HasAuthor}
use Rattle.ft_model.proofs.Backed.{IsBacked, PacketBacked}
use Rattle.ft_model.proofs.ClientKeys.{keys_in, keys_stay}
use Rattle.ft_model.proofs.Faithful.{EntriesFit}
use Rattle.ft_model.proofs.FaithfulKept.{IsFaithful, received_same}
use Rattle.ft_model.proofs.FaithfulOver.{script_of, isn_of}
use Rattle.ft_model.proofs.Formed.{PacketFormed, StartFormed, WorldFormed}
use Rattle.ft_model.proofs.FormedOver.{Knows}
use Rattle.ft_model.proofs.FormedWorld.{moment_formed, entries_acked, packet_acked}
use Rattle.ft_model.proofs.Happened.{Happened, happened}
use Rattle.ft_model.proofs.Happened.Happened.{log_received, client_received, client_moved, server_turned, server_booted, server_down}
use Rattle.ft_model.proofs.JointMasked.{AllSee, JointInvariant}
use Rattle.ft_model.proofs.Lists.{all_both, same_key}
use Rattle.ft_model.proofs.Running.{HasSmallOutputs}
use Rattle.ft_model.proofs.Wires.{packet_wire}
use Rattle.long_laws.proofs.Stands.{Stands, proceeds}

pub record Peopled {State : Type 0} (service : Machine State) (w : World) : Type 0 where
  pub stands : Stands service w
  pub home : World  -- its clients are those that are there
  pub script : script_of home ≡ stands.script
  pub isn : isn_of home ≡ stands.isn
  pub starts : StartFormed home
  pub formed : WorldFormed home w
  pub there : (key : Key) → has_key key (keys_in home.clients) ≡ true → has_key key (keys_in w.clients) ≡ true
  pub beside : (key : Key) → has_key key (keys_in home.clients) ≡ true → is_apart w.server key [] ≡ true

module _ {State : Type 0} (service : Machine State) (w : World) (o : Peopled service w) where
  pub joint_of_home : JointInvariant service o.home w
  joint_of_home = record {
    fenced = o.stands.fenced;
    asked = o.stands.asked;
    faithful = subst₂ (λ s i. IsFaithful s i w) (sym o.script) (sym o.isn) o.stands.faithful;
    distinct = o.stands.distinct;
    author = subst (λ s. HasAuthor service s w) (sym o.script) o.stands.author;
    sees = subst (λ s. AllSee service s w) (sym o.script) o.stands.sees;
    backed = subst (λ s. IsBacked service s w) (sym o.script) o.stands.backed;
  }

  pub knows : Knows o.home w
  knows = record {
    formed = o.formed;
    acked = entries_acked service o.home w joint_of_home;
    truth = ((o.stands.fenced, o.stands.asked), joint_of_home.faithful);
  }

  -- what is under way can be written
  pub have_wires : AllByRecursion (HasWireBy (grammar_of w.profile)) w.packets
  have_wires =
      subst (λ profile. AllByRecursion (HasWireBy (grammar_of profile)) w.packets) (sym o.formed.profile)
      (all_both (PacketFormed o.home) (PacketBacked service (script_of o.home) w.log) (HasWireBy (grammar_of o.home.profile)) w.packets
      (λ packet h b. packet_wire o.home o.starts.server packet h (packet_acked service (script_of o.home) w joint_of_home.author packet b)) o.formed.packets joint_of_home.backed.packets)

-- the keys of clients stay
keys_kept : {State : Type 0} (service : Machine State) (before : World) (sent : List Packet) (after : World) → Happened service before sent after → keys_in after.clients ≡ keys_in before.clients
keys_kept service before sent after (log_received message under s e) = ap (λ w. keys_in w.clients) e
keys_kept service before sent after (client_received segment under s e) =
    ap (λ w. keys_in w.clients) e ∙ keys_stay _ _ before.clients (λ c t. (received_same c segment).key)
keys_kept service before sent after (client_moved number m) =
    ap (λ w. keys_in w.clients) m.after_is
    ∙ keys_stay m.client.key (λ c. m.later) before.clients (λ c t. ap (λ c. c.key) m.move.after_is ∙ sym (same_key c.key m.client.key t))
keys_kept service before sent after (server_turned input node later brought is turn e) = ap (λ w. keys_in w.clients) e
keys_kept service before sent after (server_booted boot isn down larger s e) = ap (λ w. keys_in w.clients) e
keys_kept service before sent after (server_down s e) = ap (λ w. keys_in w.clients) e

server_kept : {State : Type 0} (service : Machine State) (before : World) (sent : List Packet) (after : World) → Happened service before sent after → after.server ≡ before.server
server_kept service before sent after (log_received message under s e) = ap (λ w. w.server) e
server_kept service before sent after (client_received segment under s e) = ap (λ w. w.server) e
server_kept service before sent after (client_moved number m) = ap (λ w. w.server) m.after_is
server_kept service before sent after (server_turned input node later brought is turn e) = ap (λ w. w.server) e
server_kept service before sent after (server_booted boot isn down larger s e) = ap (λ w. w.server) e
server_kept service before sent after (server_down s e) = ap (λ w. w.server) e

module _ {State : Type 0} (service : Machine State) (small : HasSmallOutputs service) (writes : WritesBytes service) (before : World) (sent : List Packet) (after : World) where
  pub peopled_proceeds : Peopled service before → Happened service before sent after → Peopled service after
  unfolding proceeds
  peopled_proceeds o h =
      let later : Stands service after = proceeds service small before sent after o.stands h in
      let fits : EntriesFit (script_of o.home) (isn_of o.home) after.log.entries =
      subst₂ (λ s i. EntriesFit s i after.log.entries) (sym o.script) (sym o.isn) later.faithful.entries in
      let j : JointInvariant service o.home after = record {
        fenced = later.fenced;
        asked = later.asked;
        faithful = subst₂ (λ s i. IsFaithful s i after) (sym o.script) (sym o.isn) later.faithful;
        distinct = later.distinct;
        author = subst (λ s. HasAuthor service s after) (sym o.script) later.author;
        sees = subst (λ s. AllSee service s after) (sym o.script) later.sees;
        backed = subst (λ s. IsBacked service s after) (sym o.script) later.backed;
      } in
      record {
        stands = later;
        home = o.home;
        script = o.script;
        isn = o.isn;
        starts = o.starts;
        formed = (moment_formed service o.home before sent after writes o.starts (knows service before o) fits (entries_acked service o.home after j) h).1;
        there = λ key e. ap (has_key key) (keys_kept service before sent after h) ∙ o.there key e;
        beside = λ key e. ap (λ server. is_apart server key []) (server_kept service before sent after h) ∙ o.beside key e;
      }

  pub event_peopled : (event : Event) → Peopled service before → Happens service before event sent after → Peopled service after
  event_peopled event o h =
      ⊎_elim (λ x. peopled_proceeds o x) (λ q. subst (Peopled service) (sym q.1) o) (happened service before event sent after h)
