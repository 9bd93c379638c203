use Rattle.tcp_rules.proofs.Congested.{new_data_open, duplicate_open, expiry_open}
use Rattle.tcp_rules.proofs.laws.congestion_window_stays_open.Goals as goal

pub returns-clause-new_data : goal.returns-clause-new_data
returns-clause-new_data c = new_data_open

pub returns-clause-duplicate : goal.returns-clause-duplicate
returns-clause-duplicate c = duplicate_open

pub returns-clause-expiry : goal.returns-clause-expiry
returns-clause-expiry c = expiry_open
