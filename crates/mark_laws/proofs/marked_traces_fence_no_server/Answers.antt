use Rattle.std.specs.Prelude.{◌≡◌, false}
use Rattle.server_trait.specs.Saved.{writing}
use Rattle.ft_model.specs.Legal.{machines}
use Rattle.ft_model.specs.Lawful.{is_fenced}
use Rattle.ft_model.proofs.Unfenced.{if_some}
use Rattle.mark_laws.specs.MarkedLegal.{markers}
use Rattle.mark_laws.specs.MarkedWorld.{seen, marked_after}
use Rattle.mark_laws.proofs.MarkSteps.{Kept, up_plain}
use Rattle.mark_laws.proofs.Premises.{no_fence}
use Rattle.mark_laws.proofs.Traces.{kept_of}
use Rattle.mark_laws.proofs.Truth.{MarkLaws}
use Rattle.mark_laws.proofs.marked_traces_fence_no_server.Goals as goal

pub returns-clause-stage : goal.returns-clause-stage
returns-clause-stage g c = λ kind every start trace joint.
    let by = markers (machines g.S.Service.started g.S.Service.after g.S.Service.greeting) g.S.Saved.form g.S.Saved.state_of every kind in
    let written = writing g.S.Saved.form (g.S.Saved.state_of kind) in
    let laws : MarkLaws by = record {
      reports = λ news script m q e. c.marks_that_go_out_are_true.ensures (g.S.Service.started kind) written every news script m q e;
      stays = λ before after m. c.marks_stay_true.ensures kind written before after m;
    } in
    let k : Kept by (seen start) (marked_after start trace) = kept_of by start trace (g.met.S.Service.greets_shortly (g.S.Service.started kind), g.met.S.Service.is_short) laws joint in
    if_some (λ node. is_fenced node.plain.stage ≡ false) (marked_after start trace).node (λ node up. k.sound.unfenced.node node.plain (up_plain (marked_after start trace) node up))

pub returns-clause-input : goal.returns-clause-input
returns-clause-input g c = λ kind every start trace node input joint up comes.
    let by = markers (machines g.S.Service.started g.S.Service.after g.S.Service.greeting) g.S.Saved.form g.S.Saved.state_of every kind in
    let written = writing g.S.Saved.form (g.S.Saved.state_of kind) in
    let laws : MarkLaws by = record {
      reports = λ news script m q e. c.marks_that_go_out_are_true.ensures (g.S.Service.started kind) written every news script m q e;
      stays = λ before after m. c.marks_stay_true.ensures kind written before after m;
    } in
    let k : Kept by (seen start) (marked_after start trace) = kept_of by start trace (g.met.S.Service.greets_shortly (g.S.Service.started kind), g.met.S.Service.is_short) laws joint in
    no_fence by.service (seen start) (seen (marked_after start trace)) node.plain input k.sound (up_plain (marked_after start trace) node up) comes
