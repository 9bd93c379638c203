use Rattle.ft_model.specs.Legal.{machines}
use Rattle.net_schedule.proofs.Sent.{keys_are}
use Rattle.net_schedule.proofs.TwinSent.{twin_keys_are}
use Rattle.net_schedule.proofs.laws.keys_are_the_schedules.Goals as goal

pub returns-clause-one : goal.returns-clause-one
returns-clause-one g c = keys_are (machines g.S.Service.started g.S.Service.after g.S.Service.greeting)

pub returns-clause-two : goal.returns-clause-two
returns-clause-two g c =
    twin_keys_are (machines g.S.Service.started g.S.Service.after g.S.Service.greeting)
    (record { legal = c.legal_traces_are_masked.ensures.legal; world = c.flat_traces_show_all.ensures.world; sent = c.flat_traces_show_all.ensures.sent; pair = c.flat_traces_show_all.ensures.pair; written = c.parcels_are_written.ensures })
