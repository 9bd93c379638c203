use Rattle.server_trait.specs.Saved.{writing}
use Rattle.ft_model.specs.Legal.{machines}
use Rattle.ft_model.specs.Schedule.{kind_of}
use Rattle.mark_laws.specs.MarkedLegal.{markers, marked_start}
use Rattle.mark_laws.specs.MarkedWorld.{seen, marked_after}
use Rattle.mark_laws.specs.MarkedWorld.Parcel.{Mark_answered}
use Rattle.mark_laws.specs.TrueMarks.{HasTrueMark}
use Rattle.mark_laws.proofs.MarkSteps.{Kept, of_parcel, up_plain}
use Rattle.mark_laws.proofs.Premises.{BelowLaw, input_near, scripted_start, inputs_sound, no_fence, marks_sound}
use Rattle.mark_laws.proofs.Traces.{start_of_joint, kept_of}
use Rattle.mark_laws.proofs.Truth.{MarkLaws}
use Rattle.mark_laws.proofs.marked_premises_hold.Goals as goal

pub returns-clause-near : goal.returns-clause-near
returns-clause-near g c = λ every schedule events trace node input legal up comes.
    let kind = kind_of schedule.service in
    let by = markers (machines g.S.Service.started g.S.Service.after g.S.Service.greeting) g.S.Saved.form g.S.Saved.state_of every kind in
    let written = writing g.S.Saved.form (g.S.Saved.state_of kind) in
    let first = marked_start schedule in
    let laws : MarkLaws by = record {
      reports = λ news script m q e. c.marks_that_go_out_are_true.ensures (g.S.Service.started kind) written every news script m q e;
      stays = λ before after m. c.marks_stay_true.ensures kind written before after m;
    } in
    let k : Kept by (seen first) (marked_after first trace) = kept_of by first trace (g.met.S.Service.greets_shortly (g.S.Service.started kind), g.met.S.Service.is_short) laws legal.joint in
    input_near by.service (seen first) (seen (marked_after first trace)) node.plain input k.sound (scripted_start schedule.server schedule.clients) (up_plain (marked_after first trace) node up) comes

pub returns-clause-sound : goal.returns-clause-sound
returns-clause-sound g c = λ every schedule events trace node input legal up comes.
    let kind = kind_of schedule.service in
    let by = markers (machines g.S.Service.started g.S.Service.after g.S.Service.greeting) g.S.Saved.form g.S.Saved.state_of every kind in
    let written = writing g.S.Saved.form (g.S.Saved.state_of kind) in
    let first = marked_start schedule in
    let laws : MarkLaws by = record {
      reports = λ news script m q e. c.marks_that_go_out_are_true.ensures (g.S.Service.started kind) written every news script m q e;
      stays = λ before after m. c.marks_stay_true.ensures kind written before after m;
    } in
    let k : Kept by (seen first) (marked_after first trace) = kept_of by first trace (g.met.S.Service.greets_shortly (g.S.Service.started kind), g.met.S.Service.is_short) laws legal.joint in
    (inputs_sound by.service (seen first) (seen (marked_after first trace)) node.plain input k.sound (up_plain (marked_after first trace) node up) comes).0

pub returns-clause-fronts : goal.returns-clause-fronts
returns-clause-fronts g c = λ every schedule events trace node input legal up comes.
    let kind = kind_of schedule.service in
    let by = markers (machines g.S.Service.started g.S.Service.after g.S.Service.greeting) g.S.Saved.form g.S.Saved.state_of every kind in
    let written = writing g.S.Saved.form (g.S.Saved.state_of kind) in
    let first = marked_start schedule in
    let laws : MarkLaws by = record {
      reports = λ news script m q e. c.marks_that_go_out_are_true.ensures (g.S.Service.started kind) written every news script m q e;
      stays = λ before after m. c.marks_stay_true.ensures kind written before after m;
    } in
    let k : Kept by (seen first) (marked_after first trace) = kept_of by first trace (g.met.S.Service.greets_shortly (g.S.Service.started kind), g.met.S.Service.is_short) laws legal.joint in
    (inputs_sound by.service (seen first) (seen (marked_after first trace)) node.plain input k.sound (up_plain (marked_after first trace) node up) comes).1

pub returns-clause-unfenced : goal.returns-clause-unfenced
returns-clause-unfenced g c = λ every schedule events trace node input legal up comes.
    let kind = kind_of schedule.service in
    let by = markers (machines g.S.Service.started g.S.Service.after g.S.Service.greeting) g.S.Saved.form g.S.Saved.state_of every kind in
    let written = writing g.S.Saved.form (g.S.Saved.state_of kind) in
    let first = marked_start schedule in
    let laws : MarkLaws by = record {
      reports = λ news script m q e. c.marks_that_go_out_are_true.ensures (g.S.Service.started kind) written every news script m q e;
      stays = λ before after m. c.marks_stay_true.ensures kind written before after m;
    } in
    let k : Kept by (seen first) (marked_after first trace) = kept_of by first trace (g.met.S.Service.greets_shortly (g.S.Service.started kind), g.met.S.Service.is_short) laws legal.joint in
    no_fence by.service (seen first) (seen (marked_after first trace)) node.plain input k.sound (up_plain (marked_after first trace) node up) comes

pub returns-clause-marks : goal.returns-clause-marks
returns-clause-marks g c = λ savable every number schedule events trace node message legal up at.
    let kind = kind_of schedule.service in
    let by = markers (machines g.S.Service.started g.S.Service.after g.S.Service.greeting) g.S.Saved.form g.S.Saved.state_of every kind in
    let written = writing g.S.Saved.form (g.S.Saved.state_of kind) in
    let first = marked_start schedule in
    let laws : MarkLaws by = record {
      reports = λ news script m q e. c.marks_that_go_out_are_true.ensures (g.S.Service.started kind) written every news script m q e;
      stays = λ before after m. c.marks_stay_true.ensures kind written before after m;
    } in
    let k : Kept by (seen first) (marked_after first trace) = kept_of by first trace (g.met.S.Service.greets_shortly (g.S.Service.started kind), g.met.S.Service.is_short) laws legal.joint in
    let below : BelowLaw by = record { back = λ e m bytes run. c.true_marks_are_read_back.ensures kind written e m (g.met.S.Saved.reads_back savable kind) bytes run } in
    marks_sound by (seen first) (marked_after first trace) node message below (start_of_joint by first trace legal.joint).start k up
    (of_parcel (HasTrueMark by (marked_after first trace).log.log) (marked_after first trace) number (Mark_answered message) k.marks.under_way at)
