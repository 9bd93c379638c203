-- A server refuses what is written in the other grammar.
use Rattle.std.proofs.Common.{◌≡◌, ◌∙◌, ℕ, Bool, true, false, true≢false, refl, sym, ap, List, Result, Ok, Err}
use Rattle.std.specs.Prelude.{IsErr, IsOk, is_ok}
use Rattle.seq_arith.specs.declared.kinds.BadMsg.{BadMsg}
use Rattle.seq_arith.specs.declared.kinds.BadMsg.TheVariants as bad
use Rattle.seq_arith.specs.declared.kinds.Grammar.{Grammar}
use Rattle.seq_arith.specs.declared.kinds.Grammar.TheVariants as grammars
use Rattle.seq_arith.specs.Message.{Message}
use Rattle.seq_arith.specs.MessageGrammar.{reading_by}
use Rattle.seq_arith.proofs.Refused.{no_grammar_reads_the_other}
use Rattle.logger_wire.specs.declared.Msg.{Msg}
use Rattle.logger_wire.specs.Value.{seen}

is_wide : Grammar → Bool
is_wide grammars.Plain = false
is_wide grammars.Wide = true

pub plain_is_not_wide : grammars.Plain ≡ grammars.Wide → ⊥
unfolding is_wide
plain_is_not_wide e = true≢false (sym (ap is_wide e))

pub wide_is_not_plain : grammars.Wide ≡ grammars.Plain → ⊥
wide_is_not_plain e = plain_is_not_wide (sym e)

unread : (read : Result Msg BadMsg) → seen read ≡ Err bad.Version → IsErr read
unread (Ok msg) e = absurd (true≢false (ap is_ok e))
unread (Err why) e = refl

pub refuses_the_other : (grammar other : Grammar) (bytes : List ℕ) (read : Result Msg BadMsg) → (grammar ≡ other → ⊥) → IsOk (reading_by grammar bytes) → seen read ≡ reading_by other bytes
    → IsErr read
refuses_the_other grammar other bytes read apart ok is = go (reading_by grammar bytes) refl ok
  where
    go : (r : Result Message BadMsg) → reading_by grammar bytes ≡ r → IsOk r → IsErr read
    go (Ok message) e k = unread read (is ∙ no_grammar_reads_the_other grammar other bytes message e apart)
    go (Err why) e k = absurd (true≢false (sym k))
