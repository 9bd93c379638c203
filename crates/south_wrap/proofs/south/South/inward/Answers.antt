use Rattle.std.proofs.Common.{◌≡◌, true, false, sym, ap, ◌∙◌, if◌then◌else◌}
use Rattle.seq_arith.specs.Packet.{Segment, with_ack, with_window}
use Rattle.seq_arith.specs.PacketGrammar.{reading, spelling}
use Rattle.segment_codec.specs.Change.{changed}
use Rattle.segment_codec.specs.Value.{segment_of}
use Rattle.south_wrap.specs.declared.answers.Inward.TheVariants.{Pass, Repeat}
use Rattle.south_wrap.specs.Translation.{repeats_syn, answer_in, passed_in, inward}
use Rattle.south_wrap.proofs.Heads.{changed_twice, changed_once, if_read, one_reading}
use Rattle.south_wrap.proofs.south.South.inward.Goals as goal

pub returns-then-repeats_syn-clause-answer : goal.returns-then-repeats_syn-clause-answer
returns-then-repeats_syn-clause-answer c =
    if_read (λ segment. Repeat ≡ answer_in c.args.self.now segment) (reading c.args.packet.now) (segment_of c.read_accepted.result) c.read_accepted.ensures.read
    (let e : true ≡ repeats_syn c.args.self.now (segment_of c.read_accepted.result) = sym c.if-repeats_syn.true ∙ c.repeats_syn.ensures c.read_accepted.result.payload.now in λ j. if e j then Repeat else Pass)

pub returns-then-repeats_syn-clause-read : goal.returns-then-repeats_syn-clause-read
returns-then-repeats_syn-clause-read c =
    sym (changed_once (passed_in c.args.self.now) (reading c.args.packet.now) (segment_of c.read_accepted.result) c.read_accepted.ensures.read
    (let e : repeats_syn c.args.self.now (segment_of c.read_accepted.result) ≡ true = sym (c.repeats_syn.ensures c.read_accepted.result.payload.now) ∙ c.if-repeats_syn.true in λ j. if e j then segment_of c.read_accepted.result else inward c.args.self.now (segment_of c.read_accepted.result)))

pub returns-then-repeats_syn-clause-canonical : goal.returns-then-repeats_syn-clause-canonical
returns-then-repeats_syn-clause-canonical c segment said is =
    let same : segment_of c.read_accepted.result ≡ segment = one_reading (reading c.args.packet.now) (segment_of c.read_accepted.result) segment c.read_accepted.ensures.read said in
    let e : repeats_syn c.args.self.now segment ≡ true = ap (repeats_syn c.args.self.now) (sym same) ∙ sym (c.repeats_syn.ensures c.read_accepted.result.payload.now) ∙ c.if-repeats_syn.true in
    is ∙ (let back = sym e in λ j. spelling (if back j then segment else inward c.args.self.now segment))

pub returns-clause-answer : goal.returns-clause-answer
returns-clause-answer c =
    if_read (λ segment. Pass ≡ answer_in c.args.self.now segment) (reading c.args.packet.now) (segment_of c.read_accepted.result) c.read_accepted.ensures.read
    (let e : false ≡ repeats_syn c.args.self.now (segment_of c.read_accepted.result) = sym c.if-repeats_syn.false ∙ c.repeats_syn.ensures c.read_accepted.result.payload.now in λ j. if e j then Repeat else Pass)

pub returns-clause-read : goal.returns-clause-read
returns-clause-read c =
    let seen : Segment = segment_of c.read_accepted.result in
    let e : false ≡ repeats_syn c.args.self.now seen = sym c.if-repeats_syn.false ∙ c.repeats_syn.ensures c.read_accepted.result.payload.now in
    c.change_window.ensures.read ∙ ap (changed (with_window c.inner_window.result)) c.change_ack.ensures.read
    ∙ changed_twice (with_ack c.inner_ack.result.0) (with_window c.inner_window.result) (passed_in c.args.self.now) (reading c.args.packet.now) seen c.read_accepted.ensures.read
    ((let ack = c.inner_ack.ensures in let window = c.inner_window.ensures in λ j. with_window (window j) (with_ack (ack j) seen)) ∙ (λ j. if e j then seen else inward c.args.self.now seen))

pub returns-clause-canonical : goal.returns-clause-canonical
returns-clause-canonical c segment said is =
    let seen : Segment = segment_of c.read_accepted.result in
    let same : seen ≡ segment = one_reading (reading c.args.packet.now) seen segment c.read_accepted.ensures.read said in
    let e : false ≡ repeats_syn c.args.self.now seen = sym c.if-repeats_syn.false ∙ c.repeats_syn.ensures c.read_accepted.result.payload.now in
    c.change_window.ensures.canonical (with_ack c.inner_ack.result.0 segment) (c.change_ack.ensures.canonical segment is)
    ∙ ap spelling ((let back = sym same in λ j. with_window c.inner_window.result (with_ack c.inner_ack.result.0 (back j)))
    ∙ (let ack = c.inner_ack.ensures in let window = c.inner_window.ensures in λ j. with_window (window j) (with_ack (ack j) seen)) ∙ (λ j. if e j then seen else inward c.args.self.now seen)
    ∙ ap (passed_in c.args.self.now) same)
