-- A turn with a segment, put together from its steps.
use Rattle.std.proofs.Common.{◌≡◌, ℕ, Bool, sym, ap, subst, ◌∙◌, List}
use Rattle.std.specs.Prelude.{IsOk, IfOk, Ok}
use Rattle.std.proofs.lemmas.Result.{IfOk-at_ok}
use Rattle.seq_arith.specs.Packet.{Segment}
use Rattle.seq_arith.specs.PacketGrammar.{reading, segment_in}
use Rattle.seq_arith.specs.Message.{Body}
use Rattle.segment_codec.proofs.Accepting.{is_read}
use Rattle.server_trait.specs.Service.{Served}
use Rattle.south_wrap.specs.Translation.{repeats_syn}
use Rattle.wrapped_conn.specs.declared.stage.Before.{Before}
use Rattle.wrapped_conn.specs.ConnState.{ConnState}
use Rattle.wrapped_conn.specs.Arrival.{arrived, before_segment}
use Rattle.wrapped_conn.specs.LoggerMessages.{copies, spelled}
use Rattle.wrapped_conn.specs.Turn.{CompletesTurn}
use Rattle.wrapped_conn.proofs.Copied.{of_read, same_boot, same_batches}

-- what is copied of it
abbrev pub copied_now : {S : Type 0} → ConnState S → Before → List ℕ → List Body
copied_now old before bytes = copies before (segment_in bytes) (arrived (segment_in bytes) old)

pub reported_now : {S : Type 0} (old mid : ConnState S) (before : Before) (bytes : List ℕ) (reported : List (List ℕ)) → IsOk (reading bytes) → IfOk (reading bytes) (λ segment. mid ≡ arrived segment old)
    → IfOk (reading bytes) (λ segment. reported ≡ spelled old.batches old.boot (copies before segment (arrived segment old))) → reported ≡ spelled mid.batches mid.boot (copied_now old before bytes)
reported_now old mid before bytes reported ok arrive said =
    let seg : Segment = segment_in bytes in
    let is : reading bytes ≡ Ok seg = is_read bytes ok in
    let here : mid ≡ arrived seg old = IfOk-at_ok (λ x. mid ≡ arrived x old) is arrive in
    let boot : mid.boot ≡ old.boot = ap (λ (x : ConnState _). x.boot) here ∙ same_boot seg old in
    let batches : mid.batches ≡ old.batches = ap (λ (x : ConnState _). x.batches) here ∙ same_batches seg old in
    IfOk-at_ok (λ x. reported ≡ spelled old.batches old.boot (copies before x (arrived x old))) is said ∙ sym (λ j. spelled (batches j) (boot j) (copied_now old before bytes))

pub takes : {S : Type 0} (after : S → List ℕ → Served S) (old mid new : ConnState S) (before : Before) (repeats : Bool) (bytes : List ℕ) (out reported : List (List ℕ)) → IsOk (reading bytes)
    → IfOk (reading bytes) (λ segment. before ≡ before_segment old segment) → IfOk (reading bytes) (λ segment. repeats ≡ repeats_syn old.south segment)
    → IfOk (reading bytes) (λ segment. mid ≡ arrived segment old) → CompletesTurn after before repeats (copied_now old before bytes) mid new out reported
    → IfOk (reading bytes) (λ segment. CompletesTurn after (before_segment old segment) (repeats_syn old.south segment) (copies (before_segment old segment) segment (arrived segment old)) (arrived segment old) new out reported)
takes after old mid new before repeats bytes out reported ok known again arrive goes =
    let seg : Segment = segment_in bytes in
    let is : reading bytes ≡ Ok seg = is_read bytes ok in
    let b : before ≡ before_segment old seg = IfOk-at_ok (λ x. before ≡ before_segment old x) is known in
    let r : repeats ≡ repeats_syn old.south seg = IfOk-at_ok (λ x. repeats ≡ repeats_syn old.south x) is again in
    let m : mid ≡ arrived seg old = IfOk-at_ok (λ x. mid ≡ arrived x old) is arrive in
    of_read bytes _ ok
    (subst (λ x. CompletesTurn after x (repeats_syn old.south seg) (copies x seg (arrived seg old)) (arrived seg old) new out reported) b
    (subst (λ x. CompletesTurn after before x (copied_now old before bytes) (arrived seg old) new out reported) r
    (subst (λ x. CompletesTurn after before repeats (copied_now old before bytes) x new out reported) m goes)))
