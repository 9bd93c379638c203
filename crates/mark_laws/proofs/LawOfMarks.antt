-- The marks of a live connection in a turn of a server are those of the law of marks, in their place: only a Done stands behind them.
use Rattle.std.proofs.Common.{◌≡◌, ℕ, ◌+◌, false, refl, ap, ap₂, ◌∙◌, Some, List, [], ◌∷◌, ◌++◌, map, length, drop, append-nil}
use Rattle.std.specs.List.{AllByRecursion, filter, flat_map}
use Rattle.std.proofs.lemmas.List.Elements.{filter-append}
use Rattle.ft_io.specs.declared.Addr.{Addr}
use Rattle.ft_io.specs.declared.Key.{Key}
use Rattle.ft_io.proofs.Choices.{holds_if, if_false}
use Rattle.seq_arith.specs.Message.{Body}
use Rattle.seq_arith.specs.Message.Body.{DoneMsg}
use Rattle.seq_arith.specs.Packet.{Segment}
use Rattle.server_trait.specs.Service.{Machine}
use Rattle.ft_model.specs.Connection.{ConnectionTurn, sent_by, reported_by}
use Rattle.ft_model.specs.Copy.{copies}
use Rattle.ft_model.specs.Network.{Packet}
use Rattle.ft_model.specs.Network.Packet.{To_client}
use Rattle.ft_model.specs.News.{News}
use Rattle.ft_model.specs.Node.{Place}
use Rattle.ft_model.specs.Node.Place.{Lives}
use Rattle.ft_model.specs.Point.{Point}
use Rattle.ft_model.specs.Reads.{read_messages, reads_reported, first_reported}
use Rattle.ft_model.specs.ResetAndEnd.{dones, reports_done}
use Rattle.ft_model.specs.Segments.{segments_of}
use Rattle.ft_model.specs.ServingTurn.{LivesOn}
use Rattle.ft_model.specs.Timer.{is_tick}
use Rattle.ft_model.proofs.Copied.{all_copies}
use Rattle.ft_model.proofs.StageTurns.{either_turn}
use Rattle.mark_laws.specs.Marking.{Outgoing, marks_out, with_marks, marks_sent, MarkingTurn}
use Rattle.mark_laws.specs.MarkedNode.{Marker, MarkedNode, GoesMarked, marks_at, marking_then, is_done, says_done}

-- how many Done are among packets
none_done : (packets : List Packet) → AllByRecursion (λ p. is_done p ≡ false) packets → filter is_done packets ≡ []
none_done [] a = refl
none_done (packet ∷ packets) a = if_false (is_done packet) (packet ∷ filter is_done packets) (filter is_done packets) a.0 ∙ none_done packets a.1

segments_none : (segments : List Segment) → filter is_done (map To_client segments) ≡ []
segments_none [] = refl
segments_none (segment ∷ segments) = segments_none segments

bodies_none : (boot : ℕ) (bodies : List Body) → AllByRecursion (λ b. says_done b ≡ false) bodies → filter is_done (map (reported_by boot) bodies) ≡ []
bodies_none boot [] a = refl
bodies_none boot (body ∷ bodies) a =
    if_false (says_done body) (reported_by boot body ∷ filter is_done (map (reported_by boot) bodies)) (filter is_done (map (reported_by boot) bodies)) a.0 ∙ bodies_none boot bodies a.1

reads_none : (key : Key) (index : ℕ) (lengths : List ℕ) → AllByRecursion (λ b. says_done b ≡ false) (read_messages key index lengths)
reads_none key index [] = tt
reads_none key index (n ∷ lengths) = (refl, reads_none key (index + 1) lengths)

reported_none : (news : News) (p q : Point) → AllByRecursion (λ b. says_done b ≡ false) (reads_reported news p q)
unfolding reads_reported
reported_none news p q = reads_none q.key (first_reported news p q) (drop (first_reported news p q) q.lengths)

dones_all : (boot : ℕ) (news : News) (p q : Point) → length (filter is_done (map (reported_by boot) (dones news p q))) ≡ length (dones news p q)
unfolding dones
dones_all boot news p q =
    holds_if (λ (bodies : List Body). length (filter is_done (map (reported_by boot) bodies)) ≡ length bodies) (reports_done news p q) (DoneMsg q.key ∷ []) [] (λ t. refl) (λ t. refl)

map_append : (boot : ℕ) (xs ys : List Body) → map (reported_by boot) (xs ++ ys) ≡ map (reported_by boot) xs ++ map (reported_by boot) ys
map_append boot [] ys = refl
map_append boot (x ∷ xs) ys = ap (λ l. reported_by boot x ∷ l) (map_append boot xs ys)

behind_none : (xs ys : List Packet) → filter is_done xs ≡ [] → length (filter is_done (xs ++ ys)) ≡ length (filter is_done ys)
behind_none xs ys none = ap length (filter-append is_done xs ys ∙ ap (λ l. l ++ filter is_done ys) none)

live_dones : {State : Type 0} (service : Machine State) (server : Addr) (boot : ℕ) (news : News) (p q : Point) → length (filter is_done (sent_by service server boot news p q)) ≡ length (dones news p q)
live_dones service server boot news p q =
    let reported : List Packet = map (reported_by boot) (copies news p q ++ (reads_reported news p q ++ dones news p q)) in
    let parts : reported ≡ map (reported_by boot) (copies news p q) ++ (map (reported_by boot) (reads_reported news p q) ++ map (reported_by boot) (dones news p q)) =
    map_append boot (copies news p q) (reads_reported news p q ++ dones news p q) ∙ ap (λ l. map (reported_by boot) (copies news p q) ++ l) (map_append boot (reads_reported news p q) (dones news p q)) in
    behind_none (map To_client (segments_of service server news p q)) reported (segments_none (segments_of service server news p q))
    ∙ (ap (λ l. length (filter is_done l)) parts
    ∙ (behind_none (map (reported_by boot) (copies news p q)) _ (bodies_none boot (copies news p q) (all_copies (λ b. says_done b ≡ false) news p q (λ part c. refl)))
    ∙ (behind_none (map (reported_by boot) (reads_reported news p q)) (map (reported_by boot) (dones news p q)) (bodies_none boot (reads_reported news p q) (reported_none news p q)) ∙ dones_all boot news p q)))

turn_dones : {State : Type 0} (service : Machine State) (server : Addr) (boot : ℕ) (news : News) (p q : Point) (packets : List Packet) → ConnectionTurn service server boot news p q packets
    → length (filter is_done packets) ≡ length (dones news p q)
turn_dones service server boot news p q packets =
    either_turn service server boot news p q packets (λ t. ap (λ (l : List Packet). length (filter is_done l)) t.packets ∙ dones_all boot news p q)
    (λ t. ap (λ (l : List Packet). length (filter is_done l)) t.packets ∙ live_dones service server boot news p q)

abbrev FollowsLaw : {State : Type 0} → Marker State → MarkedNode → News → Point → List Place → List Outgoing → Type 0
FollowsLaw by node news p now sent =
    (q : Point) × (now ≡ Lives q ∷ [])
    × MarkingTurn by.service by.writing by.every node.plain.server node.plain.boot news p q (node.marking q.key) (marking_then by (Some (Lives q)) (node.marking q.key)) sent

pub follows_law : {State : Type 0} (by : Marker State) (node : MarkedNode) (news : News) (p : Point) (now : List Place) (sent : List Outgoing)
    → GoesMarked (λ place. LivesOn by.service node.plain news p) (marks_at by node.plain.boot (is_tick news) node.marking) (Lives p) now sent → FollowsLaw by node news p now sent
follows_law by node news p now sent t =
    let q : Point = t.goes.0 in
    let marks : List Outgoing = marks_out node.plain.boot q (marks_sent by.service by.writing by.every news (node.marking q.key) q) in
    let one : flat_map (marks_at by node.plain.boot (is_tick news) node.marking) now ≡ marks =
    ap (flat_map (marks_at by node.plain.boot (is_tick news) node.marking)) t.goes.1 ∙ append-nil marks in (
      q,
      t.goes.1,
      record {
        packets = t.packets;
        turn = t.goes.2;
        marking = refl;
        sent_are = t.sent_are
            ∙ ap₂ (λ (k : ℕ) (ms : List Outgoing). with_marks k ms t.packets) (turn_dones by.service node.plain.server node.plain.boot news p q t.packets t.goes.2) one;
      },
    )
