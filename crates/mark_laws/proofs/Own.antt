-- What scripted clients send begins near to where the server reads, a RST too.
use Rattle.std.proofs.Common.{◌≡◌, ℕ, true, false, true≢false, ◌&&◌, refl, sym, ap, ◌∙◌, subst, List, ◌++◌}
use Rattle.std.specs.List.{AllByRecursion}
use Rattle.ft_io.specs.declared.Key.{Key}
use Rattle.server_trait.specs.Service.{Machine}
use Rattle.ft_model.specs.Client.{Client, ClientKind, Move, may_move, suits_kind, suits_phase, suits_range, received}
use Rattle.ft_model.specs.Client.ClientKind.{Scripted}
use Rattle.ft_model.specs.Client.Move.{Syn, Text, Fin, Acknowledge, Rst, Refuse}
use Rattle.ft_model.specs.Network.{Packet, destination_of}
use Rattle.ft_model.specs.World.{World, IsStart, Moves, with_client}
use Rattle.ft_model.proofs.Fenced.{IsOurs, turn_ours}
use Rattle.ft_model.proofs.FaithfulKept.{ClientFits, IsSameClient, received_same, clients_fit}
use Rattle.ft_model.proofs.FaithfulOver.{script_of, isn_of, client_there}
use Rattle.ft_model.proofs.Happened.{Happened}
use Rattle.ft_model.proofs.Happened.Happened.{log_received, client_received, client_moved, server_turned, server_booted, server_down}
use Rattle.ft_model.proofs.JointMasked.{JointInvariant}
use Rattle.ft_model.proofs.Lists.{all_append, all_weaker}
use Rattle.ft_model.proofs.LogAnswers.{all_answers}
use Rattle.ft_model.proofs.StageTurns.{stage_went}
use Rattle.trace_laws.specs.Premises.{is_refusal}
use Rattle.trace_laws.proofs.Legal.{OwnNear, ours_own}
use Rattle.trace_laws.proofs.Near.{SentWithin, SendsNear, FirstNear, begins_near}

abbrev pub IsScriptedClient : Client → Type 0
IsScriptedClient c = c.kind ≡ Scripted

pub record OwnsNear (start w : World) : Type 0 where
  pub packets : AllByRecursion (OwnNear (isn_of start)) w.packets
  pub clients : AllByRecursion IsScriptedClient w.clients

-- where all clients are scripted
abbrev pub Owns : World → World → Type 0
Owns start w = AllByRecursion IsScriptedClient start.clients → OwnsNear start w

no_refusal : (c : Client) (move : Move) → c.kind ≡ Scripted → may_move c move ≡ true → is_refusal move ≡ false
no_refusal c (Refuse number) kind may = absurd (true≢false (sym may ∙ ap (λ (k : ClientKind). suits_kind k (Refuse number) && suits_phase c (Refuse number) && suits_range c (Refuse number)) kind))
no_refusal c (Syn mss) kind may = refl
no_refusal c (Text from len) kind may = refl
no_refusal c Fin kind may = refl
no_refusal c Acknowledge kind may = refl
no_refusal c Rst kind may = refl

more_own : (start w : World) (clients : List Client) (sent : List Packet) → OwnsNear start w → AllByRecursion (OwnNear (isn_of start)) sent → AllByRecursion IsScriptedClient clients
    → OwnsNear start (record w { clients = clients; packets = w.packets ++ sent })
more_own start w clients sent o s c = record { packets = all_append (OwnNear (isn_of start)) w.packets sent o.packets s; clients = c }

moved_own : {State : Type 0} (service : Machine State) (start before : World) (number : ℕ) (sent : List Packet) (after : World) → JointInvariant service start before → SendsNear (isn_of start) before → OwnsNear start before
    → Moves before number sent after → OwnsNear start after
moved_own service start before number sent after j n o m =
    let isn : Key → ℕ = isn_of start in
    let c : Client = m.client in
    let kind : IsScriptedClient c = client_there IsScriptedClient before.clients number c o.clients m.is_there in
    let within : SentWithin c = client_there SentWithin before.clients number c n.clients m.is_there in
    let fits : ClientFits (script_of start) isn c = client_there (ClientFits (script_of start) isn) before.clients number c j.faithful.clients m.is_there in
    let first : FirstNear isn m.segment =
    subst (FirstNear isn) (sym m.move.segment_is) (begins_near (script_of start) isn c m.move.move m.move.window fits within m.move.may (no_refusal c m.move.move kind m.move.may)) in
    let same : IsSameClient c m.later = subst (IsSameClient c) (sym m.move.after_is) (record { kind = refl; key = refl; isn = refl; script = refl }) in
    subst (OwnsNear start) (sym m.after_is)
    (more_own start before (with_client c.key (λ x. m.later) before.clients) sent o (subst (AllByRecursion (OwnNear isn)) (sym m.sent_is) (first, tt))
    (clients_fit IsScriptedClient c.key (λ x. m.later) before.clients (λ x k g. same.kind ∙ kind) o.clients))

pub owns_proceeds : {State : Type 0} (service : Machine State) (start before : World) (sent : List Packet) (after : World) → JointInvariant service start before → SendsNear (isn_of start) before → Owns start before
    → Happened service before sent after → Owns start after
owns_proceeds service start before sent after j n o (log_received message under s e) scripted =
    subst (OwnsNear start) (sym e)
    (record {
      packets = all_append (OwnNear (isn_of start)) before.packets sent (o scripted).packets (subst (AllByRecursion (OwnNear (isn_of start))) (sym s) (all_answers (OwnNear (isn_of start)) before.log message (λ body a. tt)));
      clients = (o scripted).clients;
    })
owns_proceeds service start before sent after j n o (client_received segment under s e) scripted =
    subst (OwnsNear start) (sym e)
    (more_own start before (with_client (destination_of segment) (λ c. received c segment) before.clients) sent (o scripted) (subst (AllByRecursion (OwnNear (isn_of start))) (sym s) tt)
    (clients_fit IsScriptedClient (destination_of segment) (λ c. received c segment) before.clients (λ c k g. (received_same c segment).kind ∙ g) (o scripted).clients))
owns_proceeds service start before sent after j n o (client_moved number m) scripted = moved_own service start before number sent after j n (o scripted) m
owns_proceeds service start before sent after j n o (server_turned input node later brought is turn e) scripted =
    subst (OwnsNear start) (sym e)
    (record {
      packets = all_append (OwnNear (isn_of start)) before.packets sent (o scripted).packets
          (all_weaker (IsOurs node.boot) (OwnNear (isn_of start)) sent (ours_own (isn_of start) node.boot) (turn_ours service node input sent later.stage (stage_went service node later input sent turn)));
      clients = (o scripted).clients;
    })
owns_proceeds service start before sent after j n o (server_booted boot isn down larger s e) scripted =
    subst (OwnsNear start) (sym e)
    (record { packets = all_append (OwnNear (isn_of start)) before.packets sent (o scripted).packets (subst (AllByRecursion (OwnNear (isn_of start))) (sym s) (tt, tt)); clients = (o scripted).clients })
owns_proceeds service start before sent after j n o (server_down s e) scripted =
    subst (OwnsNear start) (sym e)
    (record { packets = all_append (OwnNear (isn_of start)) before.packets sent (o scripted).packets (subst (AllByRecursion (OwnNear (isn_of start))) (sym s) tt); clients = (o scripted).clients })

pub start_owns : (start : World) → IsStart start → Owns start start
start_owns start s scripted = record { packets = subst (AllByRecursion (OwnNear (isn_of start))) (sym s.packets) tt; clients = scripted }
