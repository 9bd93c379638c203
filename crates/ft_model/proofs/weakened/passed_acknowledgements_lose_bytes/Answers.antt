use Rattle.ft_model.proofs.weakened.passed_acknowledgements_lose_bytes.Goals as goal
use Rattle.ft_model.proofs.EarlyAcknowledgement as early

pub returns : goal.returns
returns c = record { wrong_once = early.wrong_once; not_masked = early.not_masked; not_logged = early.not_logged; fenced = early.fenced; not_sent_again = early.not_sent_again }
