-- A segment that reaches TCP leaves the connection sound.
use Rattle.std.proofs.Common.{◌≡◌, Bool, true, false, true≢false, refl, sym, ap, subst, ◌∙◌, if◌then◌else◌}
use Rattle.std.specs.Prelude.{Ok, Err, Result, IfOk}
use Rattle.seq_arith.specs.declared.BadPacket.{BadPacket}
use Rattle.seq_arith.specs.Packet.{Segment}
use Rattle.segment_codec.specs.Change.{changed}
use Rattle.south_wrap.specs.declared.answers.Inward.{Inward}
use Rattle.south_wrap.specs.declared.answers.Inward.TheVariants.{Pass, Repeat}
use Rattle.south_wrap.specs.SouthState.{SouthState}
use Rattle.south_wrap.specs.Translation.{repeats_syn, answer_in, passed_in, inward}
use Rattle.tcp_endpoint.specs.Arrival.{received}
use Rattle.tcp_endpoint.specs.Tcb.{Tcb}
use Rattle.wrapped_conn.specs.ConnState.{ConnState}
use Rattle.wrapped_conn.specs.Arrival.{reached}
use Rattle.wrapped_conn.specs.Sound.{IsSound}
use Rattle.wrapped_conn.proofs.Arrives.{HasFieldsInRange, segment_goes}
use Rattle.wrapped_conn.proofs.SoundAgain.{sound_with}
use Rattle.ft_io.proofs.Choices.{if_false}

abbrev is_repeat : Inward → Bool
is_repeat Repeat = true
is_repeat Pass = false

passes : (b : Bool) → (if b then Repeat else Pass) ≡ Pass → b ≡ false
passes true e = absurd (true≢false (ap is_repeat e))
passes false e = refl

abbrev pub read_as : Segment → Result Segment BadPacket
read_as x = Ok x

abbrev or_else : Segment → Result Segment BadPacket → Segment
or_else d (Ok x) = x
or_else d (Err bad) = d

ok_is : (x y : Segment) → read_as x ≡ read_as y → x ≡ y
ok_is x y e = ap (or_else x) e

pub reached_by : {S : Type 0} (c : ConnState S) (r : Result Segment BadPacket) (south : SouthState) (seen : Segment) (t : Tcb) → south ≡ c.south
    → IfOk r (λ segment. Pass ≡ answer_in c.south segment) → read_as seen ≡ changed (passed_in c.south) r → t ≡ received c.endpoint seen
    → IfOk r (λ segment. record c { south = south; endpoint = t } ≡ reached segment c)
reached_by c (Err bad) south seen t kept pass read is = tt
reached_by c (Ok segment) south seen t kept pass read is =
    let off : repeats_syn c.south segment ≡ false = passes (repeats_syn c.south segment) (sym pass) in
    let same : seen ≡ inward c.south segment = ok_is seen _ read ∙ if_false (repeats_syn c.south segment) segment (inward c.south segment) off in
    let e : t ≡ received c.endpoint (inward c.south segment) = is ∙ ap (received c.endpoint) same in
    (λ j. record c { south = kept j; endpoint = e j }) ∙ sym (if_false (repeats_syn c.south segment) c (record c { endpoint = received c.endpoint (inward c.south segment) }) off)

pub sound_received : {S : Type 0} (c : ConnState S) (south : SouthState) (segment : Segment) (t : Tcb) → IsSound c → HasFieldsInRange segment → south ≡ c.south → t ≡ received c.endpoint segment
    → IsSound (record c { south = south; endpoint = t })
sound_received c south segment t s fits kept is =
    subst (λ x. IsSound (record c { south = x; endpoint = t })) (sym kept)
    (subst (λ e. IsSound (record c { endpoint = e })) (sym is) (sound_with c (received c.endpoint segment) s (segment_goes c.endpoint segment s.parts.tcp fits)))

pub pass_is : (r : Inward) (b : Bool) → r ≡ (if b then Repeat else Pass) → r ≡ Pass → Pass ≡ (if b then Repeat else Pass)
pass_is r b e p = sym p ∙ e
