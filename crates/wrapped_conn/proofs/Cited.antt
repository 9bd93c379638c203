use Rattle.wrapped_conn.proofs.Flushed.{sent_rises, sent_few, sound_again}
use Rattle.wrapped_conn.proofs.Passing.{accepted}
use Rattle.wrapped_conn.proofs.Delays.{delayed_sends, undelayed_sends, delayed_ends, delayed_sound}

-- what the tactics of functions cite: the lemmas of each, by its name

pub ruleset flush_lemmas = (sent_rises, sent_few, sound_again, accepted)

pub ruleset delay_ack_lemmas = (delayed_sends, undelayed_sends, delayed_ends, delayed_sound)
