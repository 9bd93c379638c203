use Rattle.std.proofs.Common.{◌≡◌, Ok, take}
use Rattle.seq_arith.specs.MessageGrammar.{reading_by}
use Rattle.logger_wire.specs.Value.{message_of}
use Rattle.kept_log.proofs.Grammars.{none_short, none_read, read_otherwise, read_same}
use Rattle.kept_log.proofs.grammar.is_otherwise.Goals as goal

pub returns-in_default-clause-none : goal.returns-in_default-clause-none
returns-in_default-clause-none c = λ _. none_short c.args.grammar c.args.bytes.now c.in_default.ensures.few

pub returns-in_default-read_any-clause-none : goal.returns-in_default-read_any-clause-none
returns-in_default-read_any-clause-none c = λ _. none_read c.args.grammar c.args.bytes.now c.in-Some.n c.in-Some.ensures.some.2 c.in_default-read_any.ensures.none

pub returns-clause-some : goal.returns-clause-some
returns-clause-some c = λ is.
    let read = c.in-Some-read_any.ensures.read in
    let found = c.in-Some-read_any.found-is in
    let m = c.in-Some-read_any._m-is in
    let reads : reading_by c.in-Some-read_any.found (take c.in-Some.n c.args.bytes.now) ≡ Ok (message_of c.in-Some-read_any._m) = cc in
    read_otherwise c.args.grammar c.in-Some-read_any.found c.args.bytes.now c.in-Some.n (message_of c.in-Some-read_any._m) reads (c.differ.ensures.two is)

pub returns-clause-none : goal.returns-clause-none
returns-clause-none c = λ is.
    let read = c.in-Some-read_any.ensures.read in
    let found = c.in-Some-read_any.found-is in
    let m = c.in-Some-read_any._m-is in
    let reads : reading_by c.in-Some-read_any.found (take c.in-Some.n c.args.bytes.now) ≡ Ok (message_of c.in-Some-read_any._m) = cc in
    read_same c.args.grammar c.in-Some-read_any.found c.args.bytes.now c.in-Some.n (message_of c.in-Some-read_any._m) c.in-Some.ensures.some.2 reads (c.differ.ensures.same is)
