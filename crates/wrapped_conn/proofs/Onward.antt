-- A turn from where its news have arrived, put together from its steps.
use Rattle.std.proofs.Common.{◌≡◌, ℕ, Bool, true, false, refl, sym, ap, subst, ◌∙◌, List, [], ◌∷◌, ◌++◌, length, drop, append-nil, if◌then◌else◌}
use Rattle.std.proofs.Math.Seq.{drop-append_seam}
use Rattle.seq_arith.specs.Packet.{Segment}
use Rattle.seq_arith.specs.PacketGrammar.{spelling}
use Rattle.seq_arith.specs.Message.{Body}
use Rattle.server_trait.specs.Service.{Served}
use Rattle.north_wrap.specs.declared.read_record.ReadRecord.{ReadRecord}
use Rattle.north_wrap.specs.NorthState.{NorthState, Turns}
use Rattle.north_wrap.specs.Refinement.{messages_of}
use Rattle.tcp_endpoint.specs.Output.{leaving, packets, or_bare}
use Rattle.wrapped_conn.specs.declared.stage.Before.{Before}
use Rattle.wrapped_conn.specs.ConnState.{ConnState}
use Rattle.wrapped_conn.specs.Numbers.{una_units}
use Rattle.connection_laws.specs.OutputFeed.{tcp_reader, tcp_writer}
use Rattle.wrapped_conn.specs.Output.{turn_ended, tcp_out, passed, syn_ack, bare, is_ack_pending, leaves}
use Rattle.wrapped_conn.specs.LoggerMessages.{spelled}
use Rattle.wrapped_conn.specs.Turn.{tcp_used, served, new_reads, CompletesTurn}
use Rattle.ft_model.proofs.Resumed.{map_append}

bare_packets : (ack_pending : Bool) (segment : Segment) (segments : List Segment) → or_bare ack_pending (spelling segment) (packets segments) ≡ packets (or_bare ack_pending segment segments)
unfolding packets
bare_packets true segment [] = refl
bare_packets false segment [] = refl
bare_packets ack_pending segment (first ∷ segments) = refl

with_syn_ack : (repeats : Bool) (segment : Segment) (segments : List Segment)
    → (if repeats then packets segments ++ spelling segment ∷ [] else packets segments) ≡ packets (segments ++ (if repeats then segment ∷ [] else []))
unfolding packets
with_syn_ack true segment segments = sym (map_append spelling segments (segment ∷ []))
with_syn_ack false segment segments = ap packets (sym (append-nil segments))

pub proceeds : {S : Type 0} (after : S → List ℕ → Served S) (before : Before) (repeats ack_pending : Bool) (copied : List Body) (old mid waiting new : ConnState S) (north : NorthState S) (news : List ReadRecord)
    (out with_opening whole reported reported_on : List (List ℕ)) → Turns after tcp_reader tcp_writer (una_units old) old.north old.endpoint news north (tcp_used old news) → mid ≡ served north news old
    → leaving waiting.endpoint ≡ tcp_out before mid → turn_ended waiting ≡ turn_ended mid
    → new ≡ turn_ended waiting → out ≡ packets (passed (turn_ended waiting).south (leaving waiting.endpoint))
    → with_opening ≡ (if repeats then out ++ spelling (syn_ack new) ∷ [] else out) → ack_pending ≡ is_ack_pending before new → whole ≡ or_bare ack_pending (spelling (bare new)) with_opening
    → reported ≡ spelled old.batches old.boot copied → reported_on ≡ reported ++ spelled new.batches new.boot (messages_of new.key news)
    → CompletesTurn after before repeats copied old new whole reported_on
proceeds {S} after before repeats ack_pending copied old mid waiting new north news out with_opening whole reported reported_on turn mid_is sent_is ended_is new_is out_is opening_is ack_pending_is whole_is reported_is on_is =
    let q : ConnState S = turn_ended (served north news old) in
    let is : new ≡ q = new_is ∙ ended_is ∙ ap turn_ended mid_is in
    let reads : new_reads old q ≡ news = ap (drop (length old.north.reads)) turn.reported ∙ drop-append_seam old.north.reads news in
    let sent : List Segment = tcp_out before (served north news old) in
    let out_q : out ≡ packets (passed q.south sent) = out_is ∙ (λ j. packets (passed (ended_is j).south (sent_is j)))
    ∙ ap (λ (m : ConnState S). packets (passed (turn_ended m).south (tcp_out before m))) mid_is in
    let all : whole ≡ packets (leaves before repeats q sent) =
    whole_is ∙ (λ j. or_bare (ack_pending_is j) (spelling (bare new)) (opening_is j))
    ∙ (λ j. or_bare (is_ack_pending before (is j)) (spelling (bare (is j))) (if repeats then out_q j ++ spelling (syn_ack (is j)) ∷ [] else out_q j))
    ∙ ap (or_bare (is_ack_pending before q) (spelling (bare q))) (with_syn_ack repeats (syn_ack q) (passed q.south sent))
    ∙ bare_packets (is_ack_pending before q) (bare q) (passed q.south sent ++ (if repeats then syn_ack q ∷ [] else [])) in
    let messages : reported_on ≡ spelled old.batches old.boot (copied ++ messages_of old.key news) =
    on_is ∙ (λ j. reported_is j ++ spelled (is j).batches (is j).boot (messages_of (is j).key news)) ∙ sym (map_append _ copied (messages_of old.key news)) in
    subst (λ x. CompletesTurn after before repeats copied old x whole reported_on) (sym is) (record {
      north = subst (λ r. Turns after tcp_reader tcp_writer (una_units old) old.north old.endpoint r north (tcp_used old r)) (sym reads) turn;
      state = ap (λ r. turn_ended (served north r old)) (sym reads);
      goes_out = all ∙ ap (λ r. packets (leaves before repeats q (tcp_out before (served north r old)))) (sym reads);
      reported = messages ∙ ap (λ r. spelled old.batches old.boot (copied ++ messages_of old.key r)) (sym reads);
    })
