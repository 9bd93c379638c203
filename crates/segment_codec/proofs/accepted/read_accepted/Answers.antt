use Rattle.std.proofs.Common.{◌≡◌, ℕ, List, length, take, drop, ◌-◌, sym, ap, ◌∙◌}
use Rattle.std.specs.Prelude.{Ok}
use Rattle.std.proofs.lemmas.List.{take_rest}
use Rattle.seq_arith.specs.PacketGrammar.{segment_in, head_in, payload_at}
use Rattle.segment_codec.proofs.Accepting.{is_read}
use Rattle.segment_codec.proofs.accepted.read_accepted.Goals as goal

pub returns-clause-read : goal.returns-clause-read
unfolding segment_in
returns-clause-read c =
    let bytes : List ℕ = c.args.bytes.now
    in let behind : take (length bytes - c.accepted_start-start.result) (drop c.accepted_start-start.result bytes) ≡ drop (payload_at bytes) bytes =
    take_rest bytes c.accepted_start-start.result ∙ ap (λ n. drop n bytes) c.accepted_start-start.ensures.value
    in is_read bytes c.requires ∙ (let head = sym c.read_head.ensures in let payload = sym behind in λ j. Ok (record { head = head j; payload = payload j }))
