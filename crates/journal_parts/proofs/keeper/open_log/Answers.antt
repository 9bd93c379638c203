use Rattle.std.proofs.Common.{sym, subst, true, false}
use Rattle.ft_io.proofs.Outcomes.{if_ok, if_err}
use Rattle.link_parts.specs.LoggerParts.{heeded_by}
use Rattle.journal_parts.specs.LoggerLife.{IsOpen, OpeningStops}
use Rattle.journal_parts.specs.RoundParts.{place_of}
use Rattle.journal_parts.proofs.keeper.open_log.Goals as goal

pub returns-then-role-clause-opened : goal.returns-then-role-clause-opened
returns-then-role-clause-opened g c =
    let t = g.K.Disk.reported in
    let file = g.K.Desk.file_of c.args.desk.now c.args.role.now.journal in
    if_ok c.make_log.result (λ r opens.
    subst (λ begins. IsOpen (heeded_by c.args.role.now.logger) begins file r.1 (place_of r.0) (t c.args.desk.now) (t c.make_log.new.desk)) (sym c.if-role.true)
    (subst (λ heeded. IsOpen heeded true file r.1 (place_of r.0) (t c.args.desk.now) (t c.make_log.new.desk)) c.heeded-heeded.ensures (opens file)))
    c.make_log.ensures.opened

pub returns-then-role-clause-stops : goal.returns-then-role-clause-stops
returns-then-role-clause-stops g c =
    let t = g.K.Disk.reported in
    let file = g.K.Desk.file_of c.args.desk.now c.args.role.now.journal in
    if_err c.make_log.result (λ end stops.
    subst (λ begins. OpeningStops (heeded_by c.args.role.now.logger) begins file (t c.args.desk.now) (t c.make_log.new.desk) end) (sym c.if-role.true)
    (subst (λ heeded. OpeningStops heeded true file (t c.args.desk.now) (t c.make_log.new.desk) end) c.heeded-heeded.ensures (stops file)))
    c.make_log.ensures.stops

pub returns-else-role-clause-opened : goal.returns-else-role-clause-opened
returns-else-role-clause-opened g c =
    let t = g.K.Disk.reported in
    let file = g.K.Desk.file_of c.args.desk.now c.args.role.now.journal in
    if_ok c.find_log.result (λ r opens.
    subst (λ begins. IsOpen (heeded_by c.args.role.now.logger) begins file r.1 (place_of r.0) (t c.args.desk.now) (t c.find_log.new.desk)) (sym c.if-role.false)
    (subst (λ heeded. IsOpen heeded false file r.1 (place_of r.0) (t c.args.desk.now) (t c.find_log.new.desk)) c.heeded-heeded.ensures
    (subst (λ name. IsOpen c.heeded-heeded.result false (g.K.Desk.file_of c.args.desk.now name) r.1 (place_of r.0) (t c.args.desk.now) (t c.find_log.new.desk)) c.as_str-else-role.ensures
    opens)))
    c.find_log.ensures.opened

pub returns-else-role-clause-stops : goal.returns-else-role-clause-stops
returns-else-role-clause-stops g c =
    let t = g.K.Disk.reported in
    let file = g.K.Desk.file_of c.args.desk.now c.args.role.now.journal in
    if_err c.find_log.result (λ end stops.
    subst (λ begins. OpeningStops (heeded_by c.args.role.now.logger) begins file (t c.args.desk.now) (t c.find_log.new.desk) end) (sym c.if-role.false)
    (subst (λ heeded. OpeningStops heeded false file (t c.args.desk.now) (t c.find_log.new.desk) end) c.heeded-heeded.ensures
    (subst (λ name. OpeningStops c.heeded-heeded.result false (g.K.Desk.file_of c.args.desk.now name) (t c.args.desk.now) (t c.find_log.new.desk) end) c.as_str-else-role.ensures stops)))
    c.find_log.ensures.stops
