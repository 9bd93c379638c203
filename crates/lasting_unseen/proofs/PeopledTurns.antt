-- Each thing still belongs to a client that is there when the server lets go of one, or asks one, and when its RSTs are lost.
use Rattle.std.proofs.Common.{◌≡◌, suc, refl, sym, ap, ◌∙◌, subst, Some, List, [], ◌∷◌, ◌++◌, length, arith}
use Rattle.std.specs.List.{AllByRecursion}
use Rattle.ft_io.specs.declared.Addr.{Addr}
use Rattle.ft_io.specs.declared.Key.{Key}
use Rattle.ft_io.specs.Key.{key_eq}
use Rattle.server_trait.specs.Service.{Machine, WritesBytes}
use Rattle.seq_arith.specs.Packet.{Segment}
use Rattle.ft_model.specs.Network.{Packet}
use Rattle.ft_model.specs.Network.Packet.{To_server, To_client}
use Rattle.ft_model.specs.Node.{Stage, key_of, place_at}
use Rattle.ft_model.specs.Node.Input.{Packet_comes}
use Rattle.ft_model.specs.Node.Place.{Lives}
use Rattle.ft_model.specs.Node.Stage.{Asking, Fetching, Serving, Fenced}
use Rattle.ft_model.specs.Point.{Point}
use Rattle.ft_model.specs.World.{World}
use Rattle.ft_model.proofs.Authored.{Speaks}
use Rattle.ft_model.proofs.AuthorOver.{ReadOf}
use Rattle.ft_model.proofs.Backed.{PacketBacked}
use Rattle.ft_model.proofs.Faithful.{PacketFits}
use Rattle.ft_model.proofs.FaithfulOver.{script_of, isn_of}
use Rattle.ft_model.proofs.Formed.{PacketFormed, PointFormed, PlaceFormed, StageFormed, WorldFormed}
use Rattle.ft_model.proofs.Happened.{Happened}
use Rattle.ft_model.proofs.Happened.Happened.{server_turned}
use Rattle.ft_model.proofs.Lists.{all_append, all_find, none_is_some}
use Rattle.ft_model.proofs.Unfenced.{StaleWithin}
use Rattle.ft_model.proofs.Running.{HasSmallOutputs}
use Rattle.long_laws.specs.LongTrace.{places_at, last_rst, LetsGo, keep_alive, SendsKeepAlive}
use Rattle.long_laws.specs.QuarantineWorld.{IsRefusal}
use Rattle.long_laws.proofs.KeepAlive.{stands_kept_alive, same_kept_alive}
use Rattle.long_laws.proofs.LetGo.{with_packets, with_rst, same_with_rst, without_rst, same_without_rst}
use Rattle.long_laws.proofs.Others.{last_there, all_but_one}
use Rattle.long_laws.proofs.PlainNear.{PlainNear}
use Rattle.long_laws.proofs.Premised.{Premised}
use Rattle.long_laws.proofs.Refusals.{stands_without_refusals}
use Rattle.long_laws.proofs.Stands.{Stands}
use Rattle.trace_laws.proofs.FinsBelow.{PacketBelow}
use Rattle.trace_laws.proofs.Near.{PacketNear}
use Rattle.lasting_unseen.proofs.Peopled.{Peopled, peopled_proceeds}

lives_formed : (home : World) (stage : Stage) (key : Key) (p : Point) → StageFormed home stage → place_at key (places_at stage) ≡ Some (Lives p) → PointFormed home p
lives_formed home (Serving opened places) key p f lives = all_find (PlaceFormed home) (λ place. key_eq (key_of place) key) places (Lives p) f lives
lives_formed home Asking key p f lives = none_is_some (Lives p) lives
lives_formed home (Fetching count fetched) key p f lives = none_is_some (Lives p) lives
lives_formed home (Fenced newer) key p f lives = none_is_some (Lives p) lives

rst_formed : (home : World) (server : Addr) (p : Point) → server ≡ home.server → PointFormed home p → PacketFormed home (To_server (last_rst server p))
rst_formed home server p at f = (f.key, (ap (λ a. a.ip) at, ap (λ a. a.port) at), (omega arith, omega arith, omega arith, omega arith, tt, tt, omega arith, tt))

keep_alive_formed : (home : World) (server : Addr) (p : Point) → server ≡ home.server → PointFormed home p → PacketFormed home (To_client (keep_alive server p))
keep_alive_formed home server p at f = (f.key, (ap (λ a. a.ip) at, ap (λ a. a.port) at), (omega arith, omega arith, omega arith, omega arith, tt, tt, omega arith, tt))

-- with other packets
formed_with_packets : (home w : World) (packets : List Packet) → WorldFormed home w → AllByRecursion (PacketFormed home) packets → WorldFormed home (with_packets w packets)
formed_with_packets home w packets f all = record {
  server = f.server;
  profile = f.profile;
  boot = f.boot;
  few = f.few;
  clients = f.clients;
  packets = all;
  entries = f.entries;
  node = f.node;
}

module _ {State : Type 0} (service : Machine State) where
  with_one_rst : (w : World) (server : Addr) (p : Point) (o : Peopled service w) → PacketFormed o.home (To_server (last_rst server p))
      → Peopled service (with_packets w (w.packets ++ To_server (last_rst server p) ∷ []))
  with_one_rst w server p o f = record {
    stands = with_rst service w server p o.stands;
    home = o.home;
    script = o.script ∙ sym (same_with_rst service w server p o.stands).0;
    isn = o.isn ∙ sym (same_with_rst service w server p o.stands).1;
    starts = o.starts;
    formed = formed_with_packets o.home w (w.packets ++ To_server (last_rst server p) ∷ []) o.formed (all_append (PacketFormed o.home) w.packets (To_server (last_rst server p) ∷ []) o.formed.packets (f, tt));
    there = o.there;
    beside = o.beside;
  }

  without_one_rst : (w : World) (xs ys : List Packet) (rst : Segment) → Peopled service (with_packets w ((xs ++ To_server rst ∷ []) ++ ys)) → Peopled service (with_packets w (xs ++ ys))
  without_one_rst w xs ys rst o = record {
    stands = without_rst service w xs ys rst o.stands;
    home = o.home;
    script = o.script ∙ sym (same_without_rst service w xs ys rst o.stands).0;
    isn = o.isn ∙ sym (same_without_rst service w xs ys rst o.stands).1;
    starts = o.starts;
    formed = formed_with_packets o.home (with_packets w ((xs ++ To_server rst ∷ []) ++ ys)) (xs ++ ys) o.formed (all_but_one (PacketFormed o.home) xs ys (To_server rst) o.formed.packets);
    there = o.there;
    beside = o.beside;
  }

  pub peopled_let_go : HasSmallOutputs service → WritesBytes service → (key : Key) (w : World) (sent : List Packet) (after : World) → Peopled service w → LetsGo service key w sent after → Peopled service after
  peopled_let_go small writes key w sent after o l =
      let rst : Segment = last_rst l.node.server l.point in
      let there : World = with_packets w (w.packets ++ To_server rst ∷ []) in
      let then_ : World = record w { node = Some l.later; packets = (w.packets ++ To_server rst ∷ []) ++ sent } in
      let turn : Happened service there sent then_ = server_turned (Packet_comes rst) l.node l.later (suc (length w.packets), last_there w.packets (To_server rst)) l.up l.turn refl in
      let node = o.formed.node l.node l.up in
      let point : PointFormed o.home l.point = lives_formed o.home l.node.stage key l.point node.stage l.lives in
      let now : Peopled service then_ = peopled_proceeds service small writes there sent then_ (with_one_rst w l.node.server l.point o (rst_formed o.home l.node.server l.point node.server point)) turn in
      subst (Peopled service) (sym l.after_is) (without_one_rst (record w { node = Some l.later }) w.packets sent rst now)

  pub peopled_kept_alive : (key : Key) (w : World) (sent : List Packet) (after : World) → Peopled service w → SendsKeepAlive key w sent after → Peopled service after
  peopled_kept_alive key w sent after o l =
      let node = o.formed.node l.node l.up in
      let point : PointFormed o.home l.point = lives_formed o.home l.node.stage key l.point node.stage l.lives in
      let more : List Packet = w.packets ++ To_client (keep_alive l.node.server l.point) ∷ [] in
      subst (Peopled service) (sym l.after_is)
      (record {
        stands = stands_kept_alive service key w sent after o.stands l;
        home = o.home;
        script = o.script ∙ sym (same_kept_alive service key w sent after o.stands l).0;
        isn = o.isn ∙ sym (same_kept_alive service key w sent after o.stands l).1;
        starts = o.starts;
        formed = formed_with_packets o.home w more o.formed
            (all_append (PacketFormed o.home) w.packets (To_client (keep_alive l.node.server l.point) ∷ []) o.formed.packets (keep_alive_formed o.home l.node.server l.point node.server point, tt));
        there = o.there;
        beside = o.beside;
      })

-- RSTs are lost that were sent last
pub front_of : {A : Type 0} (P : A → Type 0) (xs ys : List A) → AllByRecursion P (xs ++ ys) → AllByRecursion P xs
front_of P [] ys a = tt
front_of P (x ∷ xs) ys a = (a.0, front_of P xs ys a.1)

module _ {State : Type 0} (service : Machine State) (w : World) (xs ys : List Packet) (are : w.packets ≡ xs ++ ys) (refusals : AllByRecursion IsRefusal ys) (o : Stands service w) where
  left_of : (P : Packet → Type 0) → AllByRecursion P w.packets → AllByRecursion P xs
  left_of P a = front_of P xs ys (subst (AllByRecursion P) are a)

  pub stands_left : Stands service (with_packets w xs)
  stands_left =
      let s : Stands service (with_packets w xs) = stands_without_refusals service w xs ys are refusals o in
      record {
        script = o.script;
        isn = o.isn;
        short = o.short;
        fenced = s.fenced;
        asked = s.asked;
        faithful = record {
          clients = o.faithful.clients;
          packets = left_of (PacketFits o.script o.isn w.log) o.faithful.packets;
          entries = o.faithful.entries;
          stage = o.faithful.stage;
        };
        distinct = s.distinct;
        author = record {
          author = o.author.author;
          entries = o.author.entries;
          short = o.author.short;
          reads = left_of (ReadOf o.author.author w.log.boot) o.author.reads;
          spoken = left_of (Speaks service o.script w.log) o.author.spoken;
          stage = o.author.stage;
        };
        sees = o.sees;
        backed = record {
          packets = left_of (PacketBacked service o.script w.log) o.backed.packets;
          entries = o.backed.entries;
          stage = o.backed.stage;
        };
        reporting = s.reporting;
      }

  pub same_left : (stands_left.script ≡ o.script) × (stands_left.isn ≡ o.isn)
  unfolding stands_left
  same_left = (refl, refl)

pub peopled_left : {State : Type 0} (service : Machine State) (w : World) (xs ys : List Packet) → w.packets ≡ xs ++ ys → AllByRecursion IsRefusal ys → Peopled service w → Peopled service (with_packets w xs)
peopled_left service w xs ys are refusals o = record {
  stands = stands_left service w xs ys are refusals o.stands;
  home = o.home;
  script = o.script ∙ sym (same_left service w xs ys are refusals o.stands).0;
  isn = o.isn ∙ sym (same_left service w xs ys are refusals o.stands).1;
  starts = o.starts;
  formed = formed_with_packets o.home w xs o.formed (front_of (PacketFormed o.home) xs ys (subst (AllByRecursion (PacketFormed o.home)) are o.formed.packets));
  there = o.there;
  beside = o.beside;
}

-- the premises of turns, too
pub premised_left : {State : Type 0} (service : Machine State) (w : World) (xs ys : List Packet) → w.packets ≡ xs ++ ys → AllByRecursion IsRefusal ys → Premised service w → Premised service (with_packets w xs)
premised_left service w xs ys are refusals o =
    let left : (P : Packet → Type 0) → AllByRecursion P w.packets → AllByRecursion P xs = λ P a. front_of P xs ys (subst (AllByRecursion P) are a) in
    record {
      stands = stands_left service w xs ys are refusals o.stands;
      roster = o.roster;
      script = o.script ∙ sym (same_left service w xs ys are refusals o.stands).0;
      isn = o.isn ∙ sym (same_left service w xs ys are refusals o.stands).1;
      below = record { packets = left (PacketBelow (script_of o.roster)) o.below.packets; entries = o.below.entries; stage = o.below.stage };
      near = record { clients = o.near.clients; packets = left (PacketNear (isn_of o.roster) w.log) o.near.packets };
      plain = record { distinct = o.plain.distinct; packets = left (PlainNear w.clients (isn_of o.roster)) o.plain.packets };
      unfenced = record { packets = left (StaleWithin w.boot) o.unfenced.packets; node = o.unfenced.node };
    }
