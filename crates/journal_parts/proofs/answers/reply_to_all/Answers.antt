use Rattle.std.proofs.Common.{◌∙◌, ap, ◌++◌, ◌∷◌, [], take, sym}
use Rattle.std.proofs.lemmas.List.{take_more}
use Rattle.journal_parts.proofs.AnswerCalls.{room_for_one, answered_on}
use Rattle.journal_parts.proofs.answers.reply_to_all.Goals as goal

pub reply-requires : goal.reply-requires
reply-requires g c =
    room_for_one c.args.answers.now c.loop-answer.answer-index (g.K.Disk.reported c.args.desk.now) (g.K.Disk.reported c.loop-answer.desk) c.args.counts.now c.loop-answer.counts
    c.loop-answer-test.true c.requires c.loop-answer.invariant.answered

pub loop-answer-preserved : goal.loop-answer-preserved
loop-answer-preserved g c = record {
  answered =
      answered_on c.args.answers.now c.loop-answer.answer-index c.answer-item.result (g.K.Disk.reported c.args.desk.now) (g.K.Disk.reported c.loop-answer.desk) (g.K.Disk.reported c.reply.new.desk)
      c.args.counts.now c.loop-answer.counts c.reply.new.counts
      (take_more c.args.answers.now c.loop-answer.answer-index c.answer-item.result c.loop-answer-test.true ∙ ap (λ x. take c.loop-answer.answer-index c.args.answers.now ++ x ∷ []) (sym c.answer-item.is))
      c.loop-answer.invariant.answered c.reply.ensures.handed;
  no_disk_fault = c.reply.ensures.no_disk_fault ∙ c.loop-answer.invariant.no_disk_fault;
  no_bind_fault = c.reply.ensures.no_bind_fault ∙ c.loop-answer.invariant.no_bind_fault;
  no_receive = c.reply.ensures.no_receive ∙ c.loop-answer.invariant.no_receive;
}
