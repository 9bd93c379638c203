use Rattle.std.proofs.Common.{◌≡◌, ℕ, ◌-◌, suc, sym, ap, ◌∙◌, arith, length}
use Rattle.segment_codec.specs.Value.{segment_of}
use Rattle.peer_client.specs.Stamping.{after_last}
use Rattle.ft_io.proofs.Numbers.{equal_of_test}
use Rattle.endpoint_laws.proofs.TimerAt.{some_left}
use Rattle.peer_client.proofs.Stamped.{found, is_accepted, says_one, none_counts, last_counts, packets_length}
use Rattle.peer_client.proofs.stamping.Stamping.note_sent.Goals as goal

pub returns-then-is_empty : goal.returns-then-is_empty
returns-then-is_empty c = λ segments is readable.
    sym (none_counts segments c.args.out.now c.args.self.now is (equal_of_test (length c.args.out.now) 0 (sym c.is_empty.ensures ∙ c.if-is_empty.true)))

pub read_accepted-last-requires : goal.read_accepted-last-requires
read_accepted-last-requires c =
    let h = c.requires.spelled in
    let f = found h.0 c.args.out.now (c.len.result - 1) c.packet.result.now h.1 h.2 c.packet.ensures in is_accepted c.packet.result.now f.segment f.bytes_are f.readable

pub returns : goal.returns
returns c = λ segments is readable.
    let i : ℕ = c.len.result - 1 in
    let some = some_left (length c.args.out.now) (sym c.is_empty.ensures ∙ c.if-is_empty.false) in
    let last : suc i ≡ length segments = omega (arith, some, c.len.ensures, ap length is, packets_length segments) in
    let f = found segments c.args.out.now i c.packet.result.now is readable c.packet.ensures in
    c.note_last.ensures
    ∙ ap (λ x. after_last x c.args.self.now) (says_one c.packet.result.now f.segment (segment_of c.read_accepted-last.result) f.bytes_are f.readable c.read_accepted-last.ensures.read)
    ∙ sym (last_counts segments i f.segment c.args.self.now last f.there)
