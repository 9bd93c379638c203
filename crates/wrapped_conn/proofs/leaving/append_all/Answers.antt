use Rattle.std.proofs.Common.{◌≡◌, ℕ, ◌≤◌, ◌+◌, Bool, true, false, refl, sym, ap, ◌∙◌, arith, add-one, List, [], ◌∷◌, ◌++◌, length, suc, take, not, Some}
use Rattle.std.specs.Prelude.{slice_get, Ok, IfOk, map}
use Rattle.std.specs.List.{list_any}
use Rattle.std.specs.Bool.{OnTrue}
use Rattle.std.proofs.lemmas.Bool.{OnTrue_at}
use Rattle.std.proofs.lemmas.Result.{IfOk-at_ok}
use Rattle.seq_arith.specs.Packet.{Segment, has_rst}
use Rattle.seq_arith.specs.PacketGrammar.{reading, spelling}
use Rattle.south_wrap.specs.SouthState.{SouthState}
use Rattle.south_wrap.specs.Translation.{outward}
use Rattle.tcp_endpoint.specs.Output.{packets}
use Rattle.tcp_endpoint.specs.Packets.{AreReadable, byte_count}
use Rattle.wrapped_conn.specs.Output.{AllFit}
use Rattle.wrapped_conn.proofs.Stamping.{Segmented, at_place, is_accepted, fits_packet, same_fit, one_more, none_more, any_there, all_written, count_written, bytes_written}
use Rattle.wrapped_conn.proofs.leaving.append_all.Goals as goal
use Rattle.tcp_endpoint.proofs.Spelled.{packets_none}
use Rattle.wrapped_conn.proofs.PassedOn.{not_true, not_false, packets_count}

-- TCP's segment whose packet is at a place
found : (s : SouthState) (out : List (List ℕ)) (i : ℕ) (bytes : List ℕ) (h : (own : List Segment) × (out ≡ packets own) × AreReadable own × AllFit s own)
    → slice_get out i ≡ Some bytes → Segmented s h.0 i bytes
found s out i bytes h e = at_place s h.0 i bytes h.2 h.3 (ap (λ ps. slice_get ps i) (sym h.1) ∙ e)

-- .. and that of any other list that these are the packets of
at_place_of : (s : SouthState) (out : List (List ℕ)) (i : ℕ) (bytes : List ℕ) (own : List Segment) → out ≡ packets own → AreReadable own
    → (h : (all : List Segment) × (out ≡ packets all) × AreReadable all × AllFit s all) → slice_get out i ≡ Some bytes → Segmented s own i bytes
at_place_of s out i bytes own is readable h e =
    let fits : AllFit s own = same_fit s h.0 own h.2 readable (sym h.1 ∙ is) h.3 in at_place s own i bytes readable fits (ap (λ ps. slice_get ps i) (sym is) ∙ e)

-- what is written so far has room
room : (s : SouthState) (segments out : List (List ℕ)) (i : ℕ) (own : List Segment) → segments ≡ packets own → length segments ≤ 1030 → byte_count segments ≤ 110000
    → out ≡ packets (map (outward s) (take i own)) → (length out ≤ 1030) × (byte_count out ≤ 122500)
room s segments out i own is few small written =
    let count = count_written s own i in let bytes = bytes_written s own i in let many : length segments ≡ length own = ap length is ∙ packets_count own in
    (omega (arith, ap length written, count, many, few), omega (arith, ap byte_count written, bytes, ap byte_count is, small, many, few))

pub append_stamped-requires-clause-accepted : goal.append_stamped-requires-clause-accepted
append_stamped-requires-clause-accepted c =
    let f = found c.args.south.now c.args.segments.now c.loop-i.i c.packet.result.now c.requires.spelled c.packet.ensures in is_accepted c.packet.result.now f.segment f.read

pub append_stamped-requires-clause-fits : goal.append_stamped-requires-clause-fits
append_stamped-requires-clause-fits c =
    let f = found c.args.south.now c.args.segments.now c.loop-i.i c.packet.result.now c.requires.spelled c.packet.ensures in
    fits_packet c.args.south.now c.packet.result.now f.segment f.read f.fits

pub append_stamped-requires-clause-count : goal.append_stamped-requires-clause-count
append_stamped-requires-clause-count c =
    let h = c.requires.spelled in
    (room c.args.south.now c.args.segments.now c.loop-i.out c.loop-i.i h.0 h.1 c.requires.count c.requires.bytes (c.loop-i.invariant h.0 h.1 h.2).0).0

pub append_stamped-requires-clause-bytes : goal.append_stamped-requires-clause-bytes
append_stamped-requires-clause-bytes c =
    let h = c.requires.spelled in
    (room c.args.south.now c.args.segments.now c.loop-i.out c.loop-i.i h.0 h.1 c.requires.count c.requires.bytes (c.loop-i.invariant h.0 h.1 h.2).0).1

pub loop-i-init : goal.loop-i-init
loop-i-init c = λ own is readable. (c.requires.empty ∙ sym packets_none, refl)

-- after one segment more, which is no RST
stepped : (s : SouthState) (i : ℕ) (old new : List (List ℕ)) (bytes : List ℕ) (answer : Bool) (own : List Segment) → answer ≡ true → Segmented s own i bytes
    → IfOk (reading bytes) (λ segment. answer ≡ not (has_rst segment))
    → ((segment : Segment) → reading bytes ≡ Ok segment → OnTrue answer (new ≡ old ++ spelling (outward s segment) ∷ []))
    → (old ≡ packets (map (outward s) (take i own))) × (list_any has_rst (take i own) ≡ false)
    → (new ≡ packets (map (outward s) (take (suc i) own))) × (list_any has_rst (take (suc i) own) ≡ false)
stepped s i old new bytes answer own went f answered appended h =
    let none : has_rst f.segment ≡ false = not_true (has_rst f.segment) (sym went ∙ IfOk-at_ok (λ x. answer ≡ not (has_rst x)) f.read answered) in (
      OnTrue_at went (appended f.segment f.read) ∙ ap (λ ps. ps ++ spelling (outward s f.segment) ∷ []) h.0 ∙ sym (one_more s own i f.segment f.there),
      none_more own i f.segment f.there h.1 none,
    )

pub loop-i-preserved : goal.loop-i-preserved
loop-i-preserved c = λ own is readable.
    let f = at_place_of c.args.south.now c.args.segments.now c.loop-i.i c.packet.result.now own is readable c.requires.spelled c.packet.ensures in
    rw add-one (stepped c.args.south.now c.loop-i.i c.loop-i.out c.append_stamped.new.out c.packet.result.now c.append_stamped.result own c.if-not-append_stamped.false f
    c.append_stamped.ensures.answer c.append_stamped.ensures.appended (c.loop-i.invariant own is readable))

pub returns-then-not-append_stamped-clause-passed : goal.returns-then-not-append_stamped-clause-passed
returns-then-not-append_stamped-clause-passed c = λ own is readable.
    let f = at_place_of c.args.south.now c.args.segments.now c.loop-i.i c.packet.result.now own is readable c.requires.spelled c.packet.ensures in
    let rst : has_rst f.segment ≡ true = not_false (has_rst f.segment)
    (sym c.if-not-append_stamped.true ∙ IfOk-at_ok (λ x. c.append_stamped.result ≡ not (has_rst x)) f.read c.append_stamped.ensures.answer) in
    (ap not (sym (any_there own c.loop-i.i f.segment f.there rst)), tt)

pub returns-clause-passed : goal.returns-clause-passed
returns-clause-passed c = λ own is readable.
    all_written c.args.south.now own c.loop-i.i c.loop-i.out
    (omega (arith, c.loop-i-test.false, c.loop-i.auto.i-end, c.len-i-end.ensures, ap length is, packets_count own)) (c.loop-i.invariant own is readable)

pub returns-clause-count : goal.returns-clause-count
returns-clause-count c =
    let h = c.requires.spelled in
    (room c.args.south.now c.args.segments.now c.loop-i.out c.loop-i.i h.0 h.1 c.requires.count c.requires.bytes (c.loop-i.invariant h.0 h.1 h.2).0).0

pub returns-clause-bytes : goal.returns-clause-bytes
returns-clause-bytes c =
    let h = c.requires.spelled in
    let r = (room c.args.south.now c.args.segments.now c.loop-i.out c.loop-i.i h.0 h.1 c.requires.count c.requires.bytes (c.loop-i.invariant h.0 h.1 h.2).0).1 in omega (arith, r)
