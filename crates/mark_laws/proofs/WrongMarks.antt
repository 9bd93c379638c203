-- A wrong mark is refused: the lawful turn, which is the only one, sends no mark.
use Rattle.std.proofs.Common.{false, ◌==◌, refl, ap, true≢false, Option, None, Some, [], ◌∷◌, length, if◌then◌else◌}
use Rattle.ft_io.specs.declared.Key.{Key}
use Rattle.ft_model.specs.News.News.{Comes}
use Rattle.ft_model.specs.Node.{Input, place_at}
use Rattle.ft_model.specs.Node.Place.{Lives}
use Rattle.ft_model.specs.ServingTurn.{concerns}
use Rattle.ft_model.specs.WorkedRuns.Common.{server, echo, client_segment, to_log, part_with}
use Rattle.seq_arith.specs.Mark.{Mark}
use Rattle.seq_arith.specs.Message.Body.{DataMsg}
use Rattle.ft_model.specs.WorkedRuns.FirstPath as path
use Rattle.ft_model.specs.Connection.{ConnectionTurn}
use Rattle.ft_model.proofs.Turns.{laws, goes}
use Rattle.mark_laws.specs.Marking.{Marking, Outgoing}
use Rattle.mark_laws.specs.MarkedNode.{MarkedNode, marking_then}
use Rattle.mark_laws.specs.MarkedNode.MarkedInput.{Plain_comes}
use Rattle.mark_laws.specs.WorkedTrace.{mark, marker, marks_none}
use Rattle.mark_laws.specs.WrongMarks as wrong
use Rattle.mark_laws.proofs.OneTurn.{marked_turn_once}
use Rattle.mark_laws.proofs.WorkedTrace.{turn_16}

-- what is sent has one thing more than what the lawful turn sends
refused : (before after : MarkedNode) (input : Input) (first second : Outgoing) → wrong.IsTurn before input (first ∷ []) after → wrong.IsUnlawful before input (first ∷ second ∷ [])
refused before after input first second turn =
    λ later t. true≢false (ap (λ out. length out == 1) (marked_turn_once marker [] [] before after later (Plain_comes input) (first ∷ []) (first ∷ second ∷ []) turn t).0)

pub unacknowledged : wrong.IsUnlawful wrong.unmarked_node wrong.read_is_logged wrong.unacknowledged
unacknowledged = refused wrong.unmarked_node (marks_none (path.node_live path.released_point)) wrong.read_is_logged _ _ turn_16

-- the turn on the second acknowledgement
goes_twice : ConnectionTurn echo server 1 (Comes (client_segment 16 1011 5011 65535 [])) wrong.echoed_twice wrong.acked_twice (to_log 1 (DataMsg (part_with 10 10 false [])) ∷ [])
unfolding laws
goes_twice = goes echo server 1 (Comes (client_segment 16 1011 5011 65535 [])) wrong.echoed_twice wrong.acked_twice (to_log 1 (DataMsg (part_with 10 10 false [])) ∷ []) refl refl refl refl

abbrev marking_of : Option Mark → Key → Marking
marking_of outstanding k =
    if concerns (wrong.node_with outstanding).plain wrong.second_ack_comes k then marking_then marker (place_at k (Lives wrong.acked_twice ∷ [])) (record { last = 1; outstanding = outstanding })
    else record { last = 1; outstanding = outstanding }

abbrev after : Option Mark → MarkedNode
after outstanding = record { plain = path.node_live wrong.acked_twice; awaits_mark = false; marking = marking_of outstanding }

still_outstanding : wrong.IsTurn (wrong.node_with (Some mark)) wrong.second_ack_comes wrong.acknowledging (after (Some mark))
unfolding laws
still_outstanding = record {
  live = refl;
  turn = (
    Lives wrong.acked_twice ∷ [],
    marking_of (Some mark),
    record {
      went = Lives wrong.acked_twice ∷ [];
      by_places = wrong.acknowledging;
      all_go = (Lives wrong.acked_twice ∷ [], [], wrong.acknowledging, [], refl, refl, record { packets = to_log 1 (DataMsg (part_with 10 10 false [])) ∷ []; goes = (wrong.acked_twice, refl, goes_twice); sent_are = refl }, (refl, refl));
      places = refl;
      marking_is = refl;
      packets = refl;
    },
    refl,
  );
}

pub second : wrong.IsUnlawful (wrong.node_with (Some mark)) wrong.second_ack_comes wrong.marking_again
second = refused (wrong.node_with (Some mark)) (after (Some mark)) wrong.second_ack_comes _ _ still_outstanding

answered : wrong.IsTurn (wrong.node_with None) wrong.second_ack_comes wrong.marking_again (after None)
unfolding laws
answered = record {
  live = refl;
  turn = (
    Lives wrong.acked_twice ∷ [],
    marking_of None,
    record {
      went = Lives wrong.acked_twice ∷ [];
      by_places = wrong.marking_again;
      all_go = (Lives wrong.acked_twice ∷ [], [], wrong.marking_again, [], refl, refl, record { packets = to_log 1 (DataMsg (part_with 10 10 false [])) ∷ []; goes = (wrong.acked_twice, refl, goes_twice); sent_are = refl }, (refl, refl));
      places = refl;
      marking_is = refl;
      packets = refl;
    },
    refl,
  );
}

pub once_answered : (later : MarkedNode) × wrong.IsTurn (wrong.node_with None) wrong.second_ack_comes wrong.marking_again later
once_answered = (after None, answered)
