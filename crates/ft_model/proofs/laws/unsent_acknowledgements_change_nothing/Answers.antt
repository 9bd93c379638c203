use Rattle.ft_model.proofs.laws.unsent_acknowledgements_change_nothing.Goals as goal
use Rattle.ft_model.proofs.Unsent.{unsent_takes, unsent_syn, unsent_una, unsent_window, unsent_congestion, unsent_needs_ack, unsent_dropped}

pub returns-clause-not_taken : goal.returns-clause-not_taken
returns-clause-not_taken c = unsent_takes

pub returns-clause-syn_stays : goal.returns-clause-syn_stays
returns-clause-syn_stays c = unsent_syn

pub returns-clause-not_used : goal.returns-clause-not_used
returns-clause-not_used c = unsent_una

pub returns-clause-window_stays : goal.returns-clause-window_stays
returns-clause-window_stays c = unsent_window

pub returns-clause-congestion_stays : goal.returns-clause-congestion_stays
returns-clause-congestion_stays c = unsent_congestion

pub returns-clause-answered : goal.returns-clause-answered
returns-clause-answered c = unsent_needs_ack

pub returns-clause-dropped : goal.returns-clause-dropped
returns-clause-dropped c = unsent_dropped
