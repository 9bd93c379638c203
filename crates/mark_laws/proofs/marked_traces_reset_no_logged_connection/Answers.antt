use Rattle.server_trait.specs.Saved.{writing}
use Rattle.ft_model.specs.Legal.{machines}
use Rattle.ft_model.specs.Resets.{ResetsNoLogged}
use Rattle.ft_model.proofs.Lists.{all_weaker}
use Rattle.ft_model.proofs.Refused.{ResetsEnded}
use Rattle.ft_model.proofs.Resets.{ended_spares}
use Rattle.mark_laws.specs.MarkedLegal.{markers}
use Rattle.mark_laws.specs.MarkedWorld.{seen, usual, marked_after}
use Rattle.mark_laws.proofs.MarkSteps.{Kept}
use Rattle.mark_laws.proofs.Traces.{kept_of}
use Rattle.mark_laws.proofs.Truth.{MarkLaws}
use Rattle.mark_laws.proofs.marked_traces_reset_no_logged_connection.Goals as goal

pub returns : goal.returns
returns g c = λ kind every start trace joint.
    let by = markers (machines g.S.Service.started g.S.Service.after g.S.Service.greeting) g.S.Saved.form g.S.Saved.state_of every kind in
    let written = writing g.S.Saved.form (g.S.Saved.state_of kind) in
    let laws : MarkLaws by = record {
      reports = λ news script m q e. c.marks_that_go_out_are_true.ensures (g.S.Service.started kind) written every news script m q e;
      stays = λ before after m. c.marks_stay_true.ensures kind written before after m;
    } in
    let k : Kept by (seen start) (marked_after start trace) = kept_of by start trace (g.met.S.Service.greets_shortly (g.S.Service.started kind), g.met.S.Service.is_short) laws joint in
    let log = (marked_after start trace).log.log in
    all_weaker (ResetsEnded log) (ResetsNoLogged log) (usual (marked_after start trace).parcels) (ended_spares log) k.sound.knows.resets
