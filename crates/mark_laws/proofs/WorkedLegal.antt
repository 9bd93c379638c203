-- The worked run is legal: each of its events is allowed, and its client makes the moves that are asked for.
use Rattle.std.proofs.Common.{◌≡◌, refl, None}
use Rattle.ft_model.specs.Client.{move_asked}
use Rattle.ft_model.specs.Client.Move.{Syn, Text, Acknowledge}
use Rattle.ft_model.specs.WorkedRuns.Common.{client_with, hello_text}
use Rattle.ft_model.specs.WorkedRuns.FirstPath as path
use Rattle.ft_model.proofs.AskedMoves.{quiet_event, scripted}
use Rattle.mark_laws.specs.MarkedLegal.{IsMarkedAllowed, AllMarkedAllowed, MarkedLegal, marked_refusal}
use Rattle.mark_laws.specs.MarkedWorld.{MarkedWorld, MarkedMoment, seen, usual}
use Rattle.mark_laws.specs.WorkedTrace as run
use Rattle.mark_laws.proofs.WorkedTrace.{is_joint}

still : (before : MarkedWorld) (moment : MarkedMoment) → marked_refusal before moment.event ≡ None → move_asked moment.event ≡ None → IsMarkedAllowed before moment
still before moment may none = record { allowed = may; scripted = quiet_event (seen before) moment.event (usual moment.sent) (seen moment.world) none }

moves_4 : IsMarkedAllowed (run.without path.moment_3.world) (run.plainly path.moment_4)
moves_4 = record { allowed = refl; scripted = scripted (seen (run.without path.moment_3.world)) (run.plainly path.moment_4).event (client_with hello_text) (Syn None) 1 (seen (run.plainly path.moment_4).world) refl refl refl }

moves_9 : IsMarkedAllowed (run.without path.moment_8.world) (run.plainly path.moment_9)
moves_9 = record { allowed = refl; scripted = scripted (seen (run.without path.moment_8.world)) (run.plainly path.moment_9).event (path.open_client) (Acknowledge) 1 (seen (run.plainly path.moment_9).world) refl refl refl }

moves_11 : IsMarkedAllowed (run.without path.moment_10.world) (run.plainly path.moment_11)
moves_11 = record { allowed = refl; scripted = scripted (seen (run.without path.moment_10.world)) (run.plainly path.moment_11).event (path.open_client) (Text 0 5) 1 (seen (run.plainly path.moment_11).world) refl refl refl }

moves_18 : IsMarkedAllowed (run.without path.moment_17.world) run.moment_18
moves_18 = record { allowed = refl; scripted = scripted (seen (run.without path.moment_17.world)) run.moment_18.event (path.served_client) (Acknowledge) 1 (seen run.moment_18.world) refl refl refl }

allowed : AllMarkedAllowed run.start run.trace
allowed = ((((((((((((((((((((((((((((tt, still run.start (run.plainly path.moment_1) refl refl), still (run.without path.moment_1.world) (run.plainly path.moment_2) refl refl), still (run.without path.moment_2.world) (run.plainly path.moment_3) refl refl), moves_4), still (run.without path.moment_4.world) (run.plainly path.moment_5) refl refl), still (run.without path.moment_5.world) (run.plainly path.moment_6) refl refl), still (run.without path.moment_6.world) (run.plainly path.moment_7) refl refl), still (run.without path.moment_7.world) (run.plainly path.moment_8) refl refl), moves_9), still (run.without path.moment_9.world) (run.plainly path.moment_10) refl refl), moves_11), still (run.without path.moment_11.world) (run.plainly path.moment_12) refl refl), still (run.without path.moment_12.world) (run.plainly path.moment_13) refl refl), still (run.without path.moment_13.world) (run.plainly path.moment_14) refl refl), still (run.without path.moment_14.world) (run.plainly path.moment_15) refl refl), still (run.without path.moment_15.world) (run.plainly path.moment_16) refl refl), still (run.without path.moment_16.world) (run.plainly path.moment_17) refl refl), moves_18), still run.moment_18.world run.moment_19 refl refl), still run.moment_19.world run.moment_20 refl refl), still run.moment_20.world run.moment_21 refl refl), still run.moment_21.world run.moment_22 refl refl), still run.moment_22.world run.moment_23 refl refl), still run.moment_23.world run.moment_24 refl refl), still run.moment_24.world run.moment_25 refl refl), still run.moment_25.world run.moment_26 refl refl), still run.moment_26.world run.moment_27 refl refl), still run.moment_27.world run.moment_28 refl refl)

pub is_legal : MarkedLegal (λ kind. run.marker) run.schedule run.trace
is_legal = record { joint = is_joint; events_are = refl; allowed = allowed }
