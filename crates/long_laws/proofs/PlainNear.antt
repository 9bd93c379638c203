-- What a client sends that isn't live begins near to where the server reads, a RST too.
use Rattle.std.proofs.Common.{◌≡◌, ℕ, true, false, refl, sym, ap, ◌∙◌, subst, List, ◌++◌}
use Rattle.std.specs.List.{AllByRecursion}
use Rattle.ft_io.specs.declared.Key.{Key}
use Rattle.ft_io.specs.Key.{key_eq}
use Rattle.server_trait.specs.Service.{Machine}
use Rattle.ft_model.specs.Client.{Client, received}
use Rattle.ft_model.specs.Keys.{AreDistinct}
use Rattle.ft_model.specs.Network.{Packet, source_of, destination_of}
use Rattle.ft_model.specs.Network.Packet.{To_server}
use Rattle.ft_model.specs.World.{World, IsStart, Moves, with_client}
use Rattle.ft_model.proofs.ClientKeys.{keys_in, keys_stay, apart_distinct}
use Rattle.ft_model.proofs.FaithfulKept.{ClientFits, IsSameClient, received_same}
use Rattle.ft_model.proofs.FaithfulOver.{client_there}
use Rattle.ft_model.proofs.Fenced.{IsOurs, turn_ours}
use Rattle.ft_model.proofs.Happened.{Happened}
use Rattle.ft_model.proofs.Happened.Happened.{log_received, client_received, client_moved, server_turned, server_booted, server_down}
use Rattle.ft_model.proofs.Lists.{all_append, all_of, all_weaker, same_key}
use Rattle.ft_model.proofs.LogAnswers.{all_answers}
use Rattle.ft_model.proofs.StageTurns.{stage_went}
use Rattle.trace_laws.proofs.Near.{SentWithin, FirstNear, begins_near}
use Rattle.long_laws.specs.Refusals.{has_live}
use Rattle.long_laws.proofs.LiveClients.{Renames, no_refusal, not_live, live_stays, one_moves}

abbrev pub PlainNear : List Client → (Key → ℕ) → Packet → Type 0
PlainNear clients isn (To_server segment) = has_live (source_of segment) clients ≡ false → FirstNear isn segment
PlainNear clients isn _ = Unit {0}

pub record SendsPlain (isn : Key → ℕ) (w : World) : Type 0 where
  pub distinct : AreDistinct (keys_in w.clients)
  pub packets : AllByRecursion (PlainNear w.clients isn) w.packets

-- where no live client is lost
pub plain_later : (cs ds : List Client) (isn : Key → ℕ) → ((k : Key) → has_live k ds ≡ false → has_live k cs ≡ false) → (packet : Packet) → PlainNear cs isn packet → PlainNear ds isn packet
plain_later cs ds isn f (To_server segment) n = λ e. n (f (source_of segment) e)
plain_later cs ds isn f _ n = tt

ours_plain : (clients : List Client) (isn : Key → ℕ) (own : ℕ) (packet : Packet) → IsOurs own packet → PlainNear clients isn packet
ours_plain clients isn own (To_server segment) o = absurd o
ours_plain clients isn own _ o = tt

-- clients that keep their keys and kinds
changed_plain : (isn : Key → ℕ) (w : World) (key : Key) (change : Client → Client) (sent : List Packet) → SendsPlain isn w → AllByRecursion (Renames key change) w.clients
    → ((c : Client) → key_eq c.key key ≡ true → (change c).key ≡ c.key) → AllByRecursion (PlainNear (with_client key change w.clients) isn) sent
    → SendsPlain isn (record w { clients = with_client key change w.clients; packets = w.packets ++ sent })
changed_plain isn w key change sent o renames keeps a = record {
  distinct = subst AreDistinct (sym (keys_stay key change w.clients keeps)) o.distinct;
  packets = all_append (PlainNear (with_client key change w.clients) isn) w.packets sent
      (all_weaker (PlainNear w.clients isn) (PlainNear (with_client key change w.clients) isn) w.packets
      (plain_later w.clients (with_client key change w.clients) isn (λ k e. sym (live_stays k key change w.clients renames) ∙ e)) o.packets) a;
}

moved_plain : (script : Key → List ℕ) (isn : Key → ℕ) (w : World) (number : ℕ) (sent : List Packet) (after : World) → AllByRecursion (ClientFits script isn) w.clients → AllByRecursion SentWithin w.clients
    → SendsPlain isn w → Moves w number sent after → SendsPlain isn after
moved_plain script isn w number sent after fits within o m =
    let c : Client = m.client in
    let now : List Client = with_client c.key (λ x. m.later) w.clients in
    let same : IsSameClient c m.later = subst (IsSameClient c) (sym m.move.after_is) (record { kind = refl; key = refl; isn = refl; script = refl }) in
    let renames : AllByRecursion (Renames c.key (λ x. m.later)) w.clients = one_moves w.clients number c m.later o.distinct m.is_there same in
    let source : source_of m.segment ≡ c.key = ap source_of m.move.segment_is in
    let first : PlainNear now isn (To_server m.segment) =
    λ e. let none : has_live c.key w.clients ≡ false = sym (live_stays c.key c.key (λ x. m.later) w.clients renames) ∙ subst (λ k. has_live k now ≡ false) source e in
    subst (FirstNear isn) (sym m.move.segment_is)
    (begins_near script isn c m.move.move m.move.window (client_there (ClientFits script isn) w.clients number c fits m.is_there) (client_there SentWithin w.clients number c within m.is_there)
    m.move.may (no_refusal c m.move.move (not_live w.clients number c m.is_there none) m.move.may)) in
    subst (SendsPlain isn) (sym m.after_is)
    (changed_plain isn w c.key (λ x. m.later) sent o renames (λ x k. same.key ∙ sym (same_key x.key c.key k)) (subst (AllByRecursion (PlainNear now isn)) (sym m.sent_is) (first, tt)))

pub plain_proceeds : {State : Type 0} (service : Machine State) (script : Key → List ℕ) (isn : Key → ℕ) (before : World) (sent : List Packet) (after : World) → AllByRecursion (ClientFits script isn) before.clients
    → AllByRecursion SentWithin before.clients → SendsPlain isn before → Happened service before sent after → SendsPlain isn after
plain_proceeds service script isn before sent after fits within o (log_received message under s e) =
    subst (SendsPlain isn) (sym e)
    (record {
      distinct = o.distinct;
      packets = all_append (PlainNear before.clients isn) before.packets sent o.packets
          (subst (AllByRecursion (PlainNear before.clients isn)) (sym s) (all_answers (PlainNear before.clients isn) before.log message (λ body a. tt)));
    })
plain_proceeds service script isn before sent after fits within o (client_received segment under s e) =
    let change : Client → Client = λ c. received c segment in
    subst (SendsPlain isn) (sym e)
    (changed_plain isn before (destination_of segment) change sent o
    (all_of (Renames (destination_of segment) change) before.clients (λ c t. ((received_same c segment).key, (received_same c segment).kind)))
    (λ c t. (received_same c segment).key) (subst (AllByRecursion (PlainNear (with_client (destination_of segment) change before.clients) isn)) (sym s) tt))
plain_proceeds service script isn before sent after fits within o (client_moved number m) = moved_plain script isn before number sent after fits within o m
plain_proceeds service script isn before sent after fits within o (server_turned input node later brought is turn e) =
    subst (SendsPlain isn) (sym e)
    (record {
      distinct = o.distinct;
      packets = all_append (PlainNear before.clients isn) before.packets sent o.packets
          (all_weaker (IsOurs node.boot) (PlainNear before.clients isn) sent (ours_plain before.clients isn node.boot) (turn_ours service node input sent later.stage (stage_went service node later input sent turn)));
    })
plain_proceeds service script isn before sent after fits within o (server_booted boot isn0 down larger s e) =
    subst (SendsPlain isn) (sym e)
    (record {
      distinct = o.distinct;
      packets = all_append (PlainNear before.clients isn) before.packets sent o.packets (subst (AllByRecursion (PlainNear before.clients isn)) (sym s) (tt, tt));
    })
plain_proceeds service script isn before sent after fits within o (server_down s e) =
    subst (SendsPlain isn) (sym e)
    (record {
      distinct = o.distinct;
      packets = all_append (PlainNear before.clients isn) before.packets sent o.packets (subst (AllByRecursion (PlainNear before.clients isn)) (sym s) tt);
    })

pub start_plain : (isn : Key → ℕ) (w : World) → IsStart w → SendsPlain isn w
start_plain isn w s = record { distinct = apart_distinct w.server w.clients s.apart; packets = subst (AllByRecursion (PlainNear w.clients isn)) (sym s.packets) tt }
