-- Shapes of turns that the worked runs share: with them each equation of a run computes.
use Rattle.std.proofs.Common.{◌≡◌, ℕ, Bool, true, false, nat_le, MatchBool, None, List, [], ◌∷◌, ◌++◌, length, refl, sym, ap, ◌∙◌, subst, append-nil, ◌+◌, true≢false, arith, ◌≤◌, min}
use Rattle.ft_io.specs.declared.Addr.{Addr}
use Rattle.seq_arith.specs.Number.{offset_of}
use Rattle.tcp_rules.specs.Arrival.{is_at_right_edge, is_allowed_at_zero}
use Rattle.tcp_rules.specs.Early.{laid, runs_behind, held_with, front_run, behind_front_run, holds_some}
use Rattle.tcp_rules.specs.Congestion.{with_new_data, is_third, with_duplicate, with_expiry}
use Rattle.tcp_rules.specs.Coming.{comes, new_text, with_text, holds_fin, with_fin, continued, with_fin_taken}
use Rattle.server_trait.specs.Service.{Machine, reference}
use Rattle.ft_model.specs.Log.{log_after, answer_to}
use Rattle.ft_model.specs.Taken.{accepts, uses, acknowledges_unsent, counts, came, taken_after, early_after, fin_after}
use Rattle.ft_model.specs.Answered.{answered_after, reads_answered_after}
use Rattle.ft_model.specs.Reads.{next_length, may_read, reads_reported}
use Rattle.tcp_rules.specs.Profile.{Profile, plain}
use Rattle.tcp_rules.specs.Timing.{with_sample, with_acknowledged, with_tick, without_trip, with_backoff, with_sent}
use Rattle.ft_model.specs.Timer.{must_run, timing_noted, interval_after, rest_after}
use Rattle.ft_model.specs.Sending.{syn_acked_after, acknowledged_after, edge_after, wl1_after, wl2_after, is_duplicate, is_third_duplicate, congestion_after, sent_at_once, sent_after, send_edge, timing_after, is_partial_ack}
use Rattle.ft_model.specs.Copy.{copies, batch, own_data, further_data, datas}
use Rattle.ft_model.specs.ResetAndEnd.{reset_after, end_ticks_after, dones}
use Rattle.ft_model.specs.PendingAck.{needs_ack, is_delayed, is_ack_due, is_ack_pending}
use Rattle.ft_model.specs.Segments.{resent, new_texts, new_fin, full_segments, segments_of}
use Rattle.seq_arith.specs.Packet.{Segment}
use Rattle.seq_arith.specs.Message.{Kept, Body, Message}
use Rattle.seq_arith.specs.Message.Body.{HelloMsg, StableMsg, ReadsMsg}
use Rattle.ft_model.specs.Network.{Packet}
use Rattle.ft_model.specs.Network.Packet.{To_server, To_client, To_logger, From_logger}
use Rattle.ft_model.specs.News.{News}
use Rattle.ft_model.specs.Point.{Point, target}
use Rattle.ft_model.specs.Connection.{ConnectionTurn, ResetTurn, LiveTurn, sent_by}
use Rattle.ft_model.specs.Node.{Node, Place, Input}
use Rattle.ft_model.specs.Node.Place.{Lives}
use Rattle.ft_model.specs.Node.Stage.{Serving}
use Rattle.ft_model.specs.ServingTurn.{AllGo, PlaceTurn, newcomers, refusals}
use Rattle.ft_model.specs.Lawful.{LawfulTurn, NodeTurn, fence}
use Rattle.ft_model.specs.WorkedRuns.Common.{serving_in, serving_at}
use Rattle.ft_model.proofs.LiveTurns.{turned, live_turn}

-- names all laws that a run computes: `unfolding laws` opens them
unfoldable pub laws : Type 0
unfolding turned reference offset_of log_after answer_to accepts uses is_at_right_edge is_allowed_at_zero acknowledges_unsent counts came comes new_text with_text holds_fin with_fin continued with_fin_taken laid runs_behind held_with front_run behind_front_run holds_some taken_after early_after fin_after answered_after reads_answered_after next_length may_read reads_reported must_run with_sample with_acknowledged with_tick without_trip with_backoff with_sent timing_noted timing_after interval_after rest_after syn_acked_after acknowledged_after edge_after wl1_after wl2_after is_duplicate is_third_duplicate is_partial_ack with_new_data is_third with_duplicate with_expiry congestion_after sent_at_once sent_after copies batch own_data further_data datas reset_after end_ticks_after dones needs_ack is_delayed is_ack_due is_ack_pending resent new_texts new_fin full_segments segments_of
laws = Unit {0}

-- a server with one place: what it does there is the whole turn
pub alone : (Goes : Place → List Place → List Packet → Type 0) (place : Place) (now : List Place) (sent : List Packet)
    → Goes place now sent → AllGo Goes (place ∷ []) now sent
alone Goes place now sent goes = (now, [], sent, [], sym (append-nil now), sym (append-nil sent), goes, (refl, refl))

-- what a packet holds; of the other kinds something that no run asks for
abbrev pub segment_in : Packet → Segment
segment_in (To_server segment) = segment
segment_in (To_client segment) = segment
segment_in _ = record { head = record { src = 0; dst = 0; sport = 0; dport = 0; seq = 0; ack = 0; flags = 0; window = 0; mss = None; timestamps = None }; payload = [] }

abbrev pub message_in : Packet → Message
message_in (To_logger message) = message
message_in (From_logger message) = message
message_in _ = record { boot = 0; body = HelloMsg }

abbrev pub kept_reported : Body → Kept
kept_reported (StableMsg kept) = kept
kept_reported (ReadsMsg kept) = kept
kept_reported _ = record { key = record { ip = 0; port = 0 }; length = 0; fin = false; reads = 0 }

abbrev pub kept_in : Packet → Kept
kept_in packet = kept_reported (message_in packet).body

live_goes : {State : Type 0} (service : Machine State) (server : Addr) (boot : ℕ) (news : News) (p q : Point) (sent : List Packet) (reset : Bool)
    → reset ≡ false → LiveTurn service server boot news p q sent
    → MatchBool reset (ResetTurn boot news p q sent) (LiveTurn service server boot news p q sent)
live_goes service server boot news p q sent true is turn = absurd (true≢false is)
live_goes service server boot news p q sent false is turn = turn

-- a connection goes on from p to q and sends this, if the laws compute so
pub goes : {State : Type 0} (service : Machine State) (server : Addr) (boot : ℕ) (news : News) (p q : Point) (sent : List Packet)
    → reset_after news p ≡ false → nat_le p.reads_answered (length p.lengths) ≡ true → turned service news p ≡ q
    → sent_by service server boot news p q ≡ sent → ConnectionTurn service server boot news p q sent
goes service server boot news p q sent live known point packets =
    live_goes service server boot news p q sent (reset_after news p) live
    (subst (λ x. LiveTurn service server boot news p q x) packets
    (subst (λ x. LiveTurn service server boot news p x (sent_by service server boot news p x)) point
    (live_turn service server boot news p (grind (arith, known)))))

-- a server with the one live connection p goes on to q, if its connection does
pub serves_in : {State : Type 0} (service : Machine State) (profile : Profile) (boot isn : ℕ) (input : Input) (p q : Point) (sent : List Packet)
    → fence (serving_in profile boot isn p) input ≡ None → newcomers (serving_in profile boot isn p) input 1 (Lives p ∷ []) ≡ []
    → refusals (serving_in profile boot isn p) input (Lives p ∷ []) ≡ []
    → PlaceTurn service (serving_in profile boot isn p) input (Lives p) (Lives q ∷ []) sent
    → LawfulTurn service (serving_in profile boot isn p) input sent (serving_in profile boot isn q)
serves_in service profile boot isn input p q sent unfenced none_new none_refused turn =
    let node : Node = serving_in profile boot isn p in
    let count : 1 + length (newcomers node input 1 (Lives p ∷ [])) ≡ 1 = ap (λ xs. 1 + length xs) none_new in
    let places : Lives q ∷ [] ≡ (Lives q ∷ []) ++ newcomers node input 1 (Lives p ∷ []) = ap (λ xs. Lives q ∷ xs) (sym none_new) in
    let others : sent ≡ sent ++ (refusals node input (Lives p ∷ []) ++ []) = sym (append-nil sent) ∙ ap (λ xs. sent ++ (xs ++ [])) (sym none_refused) in
    record {
      server = refl;
      profile = refl;
      boot = refl;
      isn = refl;
      live = refl;
      stage = subst (λ o. NodeTurn service node input o (Serving 1 (Lives q ∷ [])) sent) (sym unfenced) (
        Lives q ∷ [],
        ap (λ n. Serving n (Lives q ∷ [])) (sym count),
        record {
          went = Lives q ∷ [];
          by_places = sent;
          all_go = alone (PlaceTurn service node input) (Lives p) (Lives q ∷ []) sent turn;
          places = places;
          packets = others;
        },
      );
    }

pub serves : {State : Type 0} (service : Machine State) (boot isn : ℕ) (input : Input) (p q : Point) (sent : List Packet)
    → fence (serving_at boot isn p) input ≡ None → newcomers (serving_at boot isn p) input 1 (Lives p ∷ []) ≡ []
    → refusals (serving_at boot isn p) input (Lives p ∷ []) ≡ []
    → PlaceTurn service (serving_at boot isn p) input (Lives p) (Lives q ∷ []) sent
    → LawfulTurn service (serving_at boot isn p) input sent (serving_at boot isn q)
serves service boot isn input p q sent unfenced none_new none_refused turn = serves_in service plain boot isn input p q sent unfenced none_new none_refused turn

pub all_is_sent : {State : Type 0} (service : Machine State) (server : Addr) (boot : ℕ) (news : News) (p q : Point) (sent : List Packet) → LiveTurn service server boot news p q sent
    → min (target service q) (send_edge q) ≤ q.sent
unfolding sent_after sent_at_once
all_is_sent service server boot news p q sent t = omega (arith, t.sent_units)
