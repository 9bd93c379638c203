use Rattle.std.proofs.Common.{◌≡◌, [], ◌∷◌, ◌++◌, ◌∙◌, ap, arith, sym, subst, add-one, drop, suc}
use Rattle.seq_arith.specs.Message.{Message}
use Rattle.seq_arith.specs.Message.Body.{ReadMsg}
use Rattle.seq_arith.specs.MessageGrammar.{spelling_by}
use Rattle.north_wrap.specs.Refinement.{messages_of}
use Rattle.wrapped_conn.specs.LoggerMessages.{grammar_by, spelled}
use Rattle.logger_wire.specs.declared.Body.TheVariants as body
use Rattle.logger_wire.specs.Value.{IsSendableBy}
use Rattle.wrapped_conn.proofs.Reported.{read_next, read_fits, one_reported}
use Rattle.wrapped_conn.proofs.Sendable.{read_sendable}
use Rattle.wrapped_conn.proofs.reporting.send_reads.Goals as goal

pub send_message-requires-clause-sendable : goal.send_message-requires-clause-sendable
send_message-requires-clause-sendable c =
    let fits = read_fits c.args.reads.now c.loop-i.i c.get-index.result.0 c.get-index.result.1 (omega (arith, c.loop-i-test.true, c.len-i-end.ensures.count)) c.get-index.ensures c.requires.writable in
    subst (λ g. IsSendableBy g (record { boot = c.args.boot; body = body.Read c.args.key c.get-index.result.0 c.get-index.result.1 })) (sym c.grammar_by.ensures) (read_sendable (grammar_by c.args.wide) c.args.boot c.args.key c.get-index.result.0 c.get-index.result.1 c.requires.boot c.fit.ensures.boot (record { ip = c.fit.ensures.ip; port = c.fit.ensures.port }) fits.0 fits.1)

pub loop-i-preserved : goal.loop-i-preserved
loop-i-preserved c =
    let next = read_next c.args.wide c.args.boot c.args.key c.args.reads.now c.loop-i.i c.get-index.result.0 c.get-index.result.1 (omega (arith, c.loop-i-test.true, c.len-i-end.ensures.count)) c.get-index.ensures in
    let m : Message = record { boot = c.args.boot; body = ReadMsg c.args.key c.get-index.result.0 c.get-index.result.1 } in
    let said : c.send_message.new.out ≡ c.loop-i.out ++ spelling_by (grammar_by c.args.wide) m ∷ [] =
    c.send_message.ensures.reported ∙ (λ j. c.loop-i.out ++ spelling_by (c.grammar_by.ensures j) m ∷ []) in
    record {
      count = omega (arith, c.send_message.ensures.few, c.loop-i.invariant.count);
      short = omega (arith, c.send_message.ensures.short, c.send_message.ensures.few, c.loop-i.invariant.short);
      reported = rw add-one (ap (λ x. x ++ spelled c.args.wide c.args.boot (messages_of c.args.key (drop (suc c.loop-i.i) c.args.reads.now))) said ∙ one_reported c.loop-i.out _ _ _ (ap (λ x. c.loop-i.out ++ x) (sym next) ∙ c.loop-i.invariant.reported));
    }
