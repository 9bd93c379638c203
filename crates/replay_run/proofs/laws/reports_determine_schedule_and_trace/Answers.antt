use Rattle.sample_servers.specs.AnyService.{any_machine}
use Rattle.ft_model.proofs.ReportDetermines.{legal_reported}
use Rattle.replay_run.proofs.OneReading.{traced_reported}
use Rattle.replay_run.proofs.laws.reports_determine_schedule_and_trace.Goals as goal

pub returns : goal.returns
returns c =
    traced_reported c.schedules_have_one_trace.ensures (λ schedule other trace also fits too l k e. (legal_reported any_machine schedule other trace also fits too l k e).0)
    (λ schedule other trace also fits too l k e. (c.twin_reports_determine_their_traces.ensures schedule other trace also fits too l k e).0)
    (λ every often schedule other p q trace also fits too l k e. (c.marked_reports_determine_their_traces.ensures every often schedule other trace also fits too p q l k e).0)
