use Rattle.tcp_rules.proofs.Unmeasured.{plain_new_data, plain_third, plain_duplicate, plain_expiry}

-- what the tactics of functions cite: the lemmas of each, by its name

pub ruleset plain_congestion_notes_no_loss_lemmas = (plain_new_data, plain_third, plain_duplicate, plain_expiry)
