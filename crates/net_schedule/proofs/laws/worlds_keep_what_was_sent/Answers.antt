use Rattle.ft_model.specs.Legal.{machines}
use Rattle.net_schedule.proofs.Sent.{keeps_all_sent, was_sent_as}
use Rattle.net_schedule.proofs.TwinSent.{keeps_all_parcels, parcel_sent_as}
use Rattle.net_schedule.proofs.laws.worlds_keep_what_was_sent.Goals as goal

pub returns-clause-all : goal.returns-clause-all
returns-clause-all g c = keeps_all_sent (machines g.S.Service.started g.S.Service.after g.S.Service.greeting) c.packets_have_wires.ensures.all

pub returns-clause-each : goal.returns-clause-each
returns-clause-each g c = was_sent_as (machines g.S.Service.started g.S.Service.after g.S.Service.greeting) c.packets_have_wires.ensures.all

pub returns-clause-twin_all : goal.returns-clause-twin_all
returns-clause-twin_all g c =
    keeps_all_parcels (machines g.S.Service.started g.S.Service.after g.S.Service.greeting)
    (record { legal = c.legal_traces_are_masked.ensures.legal; world = c.flat_traces_show_all.ensures.world; sent = c.flat_traces_show_all.ensures.sent; pair = c.flat_traces_show_all.ensures.pair; written = c.parcels_are_written.ensures })

pub returns-clause-twin_each : goal.returns-clause-twin_each
returns-clause-twin_each g c =
    parcel_sent_as (machines g.S.Service.started g.S.Service.after g.S.Service.greeting)
    (record { legal = c.legal_traces_are_masked.ensures.legal; world = c.flat_traces_show_all.ensures.world; sent = c.flat_traces_show_all.ensures.sent; pair = c.flat_traces_show_all.ensures.pair; written = c.parcels_are_written.ensures })
