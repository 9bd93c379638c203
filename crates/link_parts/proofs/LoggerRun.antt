-- A logger's turns follow one another: so do their calls, and their counts add up.
use Rattle.std.proofs.Common.{◌≡◌, ◌∙◌, inl, inr, ℕ, Bool, true, false, suc, ◌+◌, ◌<◌, ◌≤◌, add-one, refl, sym, ap, ap₂, subst, Option, None, Some, List, [], ◌∷◌, ◌++◌, length, append-nil, arith, Ok}
use Rattle.ft_io.specs.declared.Addr.{Addr}
use Rattle.ft_io.specs.declared.link_call.LinkCall.{LinkCall}
use Rattle.ft_io.specs.declared.link_call.LinkCall.TheVariants.{Bound, Came}
use Rattle.ft_io.specs.Reported.{Reports}
use Rattle.seq_arith.specs.declared.kinds.Grammar.{Grammar}
use Rattle.seq_arith.specs.Header.{headed}
use Rattle.seq_arith.specs.MessageGrammar.{spelled, header, spelling_by}
use Rattle.long_laws.specs.Forgetting.{ForgetAnswer}
use Rattle.long_laws.specs.Forgetting.ForgetAnswer.{About_forgetting, Of_log}
use Rattle.long_laws.specs.ForgetGrammar as forgets
use Rattle.forget_store.specs.declared.heeding.Heeded.{Heeded}
use Rattle.forget_store.specs.AnyMessage.{AnyMessage, heeded_in, wants_for}
use Rattle.forget_store.specs.Replies.{reply_bytes}
use Rattle.ft_model.specs.Log.{Log, empty_log}
use Rattle.link_parts.specs.declared.counts.Counts.{Counts}
use Rattle.link_parts.specs.declared.role.LoggerRole.{LoggerRole}
use Rattle.link_parts.specs.declared.status.NodeEnd.{NodeEnd}
use Rattle.link_parts.specs.declared.status.NodeEnd.TheVariants as ends
use Rattle.ft_io.specs.Sink.{AppendsFront}
use Rattle.ft_io.proofs.Recordings.{reports_on, none_reported}
use Rattle.link_parts.specs.Counts.{count_line, counts_of, plus, with_calls, HasRoom}
use Rattle.link_parts.specs.LoggerTurns.{LoggerTurn, answer_for, wants_in, log_with, log_then, handing, turn_calls, log_at, calls_of}
use Rattle.link_parts.specs.Receipt.{Received, datagram, silence, failure, received_as, IsQuiet}
use Rattle.link_parts.specs.LineOutput.{ReportStops}
use Rattle.link_parts.specs.LoggerParts.{IsLogger, IsCutLogger, LoggerStops, handing_bytes, Replies, HasTurned, HasServed, HasCounted, IsStarved, IsCutServing, heeded_by}
use Rattle.link_parts.proofs.Calls.{counts_on, with_both, IsFew}
use Rattle.link_parts.specs.Ranges.{most_turns}

few_received : (r : Received) → IsFew 1 (counts_of (received_as r ∷ []))
few_received (datagram from bytes) = record { turns = omega arith; datagrams = omega arith; sent = omega arith; lost = omega arith; failed = omega arith }
few_received silence = record { turns = omega arith; datagrams = omega arith; sent = omega arith; lost = omega arith; failed = omega arith }
few_received failure = record { turns = omega arith; datagrams = omega arith; sent = omega arith; lost = omega arith; failed = omega arith }

few_answered : (grammar : Grammar) (from to : Addr) (bytes : List ℕ) (lost : Bool) (answer : Option ForgetAnswer) → IsFew 1 (counts_of (Came from bytes ∷ handing grammar to lost answer))
few_answered grammar from to bytes lost None = record { turns = omega arith; datagrams = omega arith; sent = omega arith; lost = omega arith; failed = omega arith }
few_answered grammar from to bytes true (Some m) = record { turns = omega arith; datagrams = omega arith; sent = omega arith; lost = omega arith; failed = omega arith }
few_answered grammar from to bytes false (Some m) = record { turns = omega arith; datagrams = omega arith; sent = omega arith; lost = omega arith; failed = omega arith }

few_turn : (heeded : Heeded) (log : Log) (turn : LoggerTurn) → IsFew 1 (counts_of (turn_calls heeded log turn))
few_turn heeded log turn = by_received turn.received
  where
    by_received : (r : Received) → IsFew 1 (counts_of (turn_calls heeded log (record { received = r; is_lost = turn.is_lost })))
    by_received (datagram from bytes) = few_answered heeded.grammar from from bytes turn.is_lost (answer_for log (heeded_in heeded bytes))
    by_received silence = few_received silence
    by_received failure = few_received failure

few_sum : (n : ℕ) (a b : Counts) → IsFew n a → IsFew 1 b → IsFew (suc n) (plus a b)
few_sum n a b x y = record {
  turns = omega (arith, x.turns, y.turns);
  datagrams = omega (arith, x.datagrams, y.datagrams);
  sent = omega (arith, x.sent, y.sent);
  lost = omega (arith, x.lost, y.lost);
  failed = omega (arith, x.failed, y.failed);
}

few_turns : (heeded : Heeded) (turns : List LoggerTurn) → IsFew (length turns) (counts_of (calls_of heeded turns))
few_turns heeded [] = record { turns = omega arith; datagrams = omega arith; sent = omega arith; lost = omega arith; failed = omega arith }
few_turns heeded (turn ∷ earlier) =
    let before : List LinkCall = calls_of heeded earlier
    in let calls : List LinkCall = turn_calls heeded (log_at heeded earlier) turn
    in subst (IsFew (suc (length earlier))) (sym (counts_on before calls))
    (few_sum (length earlier) (counts_of before) (counts_of calls) (few_turns heeded earlier) (few_turn heeded (log_at heeded earlier) turn))

-- there is room for the counts of a turn, and of what follows its receive
room_for : (n : ℕ) (c : Counts) → n ≤ most_turns → IsFew n c → HasRoom 2 c
room_for n c lt few = record {
  turns = omega (arith, few.turns);
  datagrams = omega (arith, few.datagrams);
  sent = omega (arith, few.sent);
  lost = omega (arith, few.lost);
  failed = omega (arith, few.failed);
}

pub room_in_turn : (heeded : Heeded) (i most : ℕ) (old new : Option (List LinkCall)) (log : Log) (counts : Counts) → i < most → most ≤ most_turns → HasServed heeded i old new log counts → HasRoom 2 counts
room_in_turn heeded i most old new log counts lt le s =
    subst (HasRoom 2) (sym s.counts_are) (room_for (length s.turns) (counts_of (calls_of heeded s.turns)) (omega (arith, s.count_is)) (few_turns heeded s.turns))

pub room_left : (c : Counts) → HasRoom 2 c → HasRoom 1 c
room_left c r = record { turns = omega (arith, r.turns); datagrams = omega (arith, r.datagrams); sent = omega (arith, r.sent); lost = omega (arith, r.lost); failed = omega (arith, r.failed) }

room_behind : (c d : Counts) → HasRoom 2 c → IsFew 1 d → HasRoom 1 (plus c d)
room_behind c d r few = record {
  turns = omega (arith, r.turns, few.turns);
  datagrams = omega (arith, r.datagrams, few.datagrams);
  sent = omega (arith, r.sent, few.sent);
  lost = omega (arith, r.lost, few.lost);
  failed = omega (arith, r.failed, few.failed);
}

pub room_after : (c counts : Counts) (r : Received) → HasRoom 2 c → counts ≡ with_calls c (received_as r ∷ []) → HasRoom 1 counts
room_after c counts r room is = subst (HasRoom 1) (sym is) (room_behind c (counts_of (received_as r ∷ [])) room (few_received r))

-- a turn in which no datagram came
pub quiet : (heeded : Heeded) (log : Log) (old new : Option (List LinkCall)) (c counts : Counts) (r : Received) → Reports old new (received_as r ∷ []) → counts ≡ with_calls c (received_as r ∷ [])
    → IsQuiet r → HasTurned heeded log log old new c counts
quiet heeded log old new c counts silence t k q = record { turn = record { received = silence; is_lost = false }; reports = t; log = refl; counts_are = k }
quiet heeded log old new c counts failure t k q = record { turn = record { received = failure; is_lost = false }; reports = t; log = refl; counts_are = k }
quiet heeded log old new c counts (datagram from bytes) t k (inl e) = cc
quiet heeded log old new c counts (datagram from bytes) t k (inr e) = cc

-- an answer has bytes
pub handing_is : (grammar : Grammar) (to : Addr) (lost : Bool) (answer : Option ForgetAnswer)
    → handing_bytes to lost (reply_bytes grammar answer) ≡ handing grammar to lost answer
unfolding spelling_by spelled header forgets.spelling forgets.spelled headed
handing_is grammar to lost None = refl
handing_is grammar to lost (Some (Of_log m)) = refl
handing_is grammar to lost (Some (About_forgetting m)) = refl

-- what can't be answered has a cause
pub wants : (log : Log) (said : Option AnyMessage) (any : AnyMessage) → said ≡ Some any → (wants_for log any ≡ false → false ≡ true) → wants_in log said ≡ true
wants log said any is not = ap (wants_in log) is ∙ must (wants_for log any) not
  where
    must : (b : Bool) → (b ≡ false → false ≡ true) → b ≡ true
    must true f = refl
    must false f = f refl

pub starved : (heeded : Heeded) (log : Log) (old new : Option (List LinkCall)) (r : Received) (from : Addr) (bytes : List ℕ) → Reports old new (received_as r ∷ []) → r ≡ datagram from bytes
    → wants_in log (heeded_in heeded bytes) ≡ true → (calls : List LinkCall) × IsStarved heeded log calls × Reports old new calls
starved heeded log old new r from bytes t is want = (Came from bytes ∷ [], (from, bytes, refl, want), subst (λ x. Reports old new (received_as x ∷ [])) is t)

-- a turn in which one came
pub replied : (heeded : Heeded) (log after : Log) (old mid new : Option (List LinkCall)) (c between counts : Counts) (r : Received) (from : Addr) (bytes answer : List ℕ)
    → Reports old mid (received_as r ∷ []) → between ≡ with_calls c (received_as r ∷ []) → r ≡ datagram from bytes → after ≡ log_with log (heeded_in heeded bytes)
    → answer ≡ reply_bytes heeded.grammar (answer_for log (heeded_in heeded bytes)) → Replies from answer mid new between counts → HasTurned heeded log after old new c counts
replied heeded log after old mid new c between counts r from bytes answer t k e next is reply =
    let answered : List LinkCall = handing heeded.grammar from reply.is_lost (answer_for log (heeded_in heeded bytes)) in
    let calls : handing_bytes from reply.is_lost answer ≡ answered = ap (handing_bytes from reply.is_lost) is ∙ handing_is heeded.grammar from reply.is_lost _ in
    let came : received_as r ∷ [] ≡ Came from bytes ∷ [] = ap (λ x. received_as x ∷ []) e in
    record {
      turn = record { received = datagram from bytes; is_lost = reply.is_lost };
      reports = reports_on old mid new (Came from bytes ∷ []) answered (subst (Reports old mid) came t) (subst (Reports mid new) calls reply.reports);
      log = next;
      counts_are = reply.counts ∙ (ap₂ (λ x ys. with_calls x ys) (k ∙ ap (with_calls c) came) calls ∙ with_both c (Came from bytes ∷ []) answered);
    }

-- turns so far
pub served_none : (heeded : Heeded) (reported : Option (List LinkCall)) (log : Log) (counts : Counts) → log ≡ empty_log → counts ≡ counts_of [] → HasServed heeded 0 reported reported log counts
served_none heeded reported log counts l c = record { turns = []; count_is = refl; reports = none_reported reported; log_is = l; counts_are = c }

pub served_on : (heeded : Heeded) (i : ℕ) (old mid new : Option (List LinkCall)) (log after : Log) (c counts : Counts) → HasServed heeded i old mid log c → HasTurned heeded log after mid new c counts
    → HasServed heeded (i + 1) old new after counts
served_on heeded i old mid new log after c counts s t =
    let calls : turn_calls heeded log t.turn ≡ turn_calls heeded (log_at heeded s.turns) t.turn = ap (λ l. turn_calls heeded l t.turn) s.log_is in
    record {
      turns = t.turn ∷ s.turns;
      count_is = ap suc s.count_is ∙ sym (add-one i);
      reports = reports_on old mid new (calls_of heeded s.turns) (turn_calls heeded (log_at heeded s.turns) t.turn) s.reports (subst (Reports mid new) calls t.reports);
      log_is = t.log ∙ ap (λ l. log_then heeded l t.turn.received) s.log_is;
      counts_are = t.counts_are ∙ (ap₂ (λ x ys. with_calls x ys) s.counts_are calls ∙ sym (counts_on (calls_of heeded s.turns) (turn_calls heeded (log_at heeded s.turns) t.turn)));
    }

pub served_all : (heeded : Heeded) (i most : ℕ) (old new : Option (List LinkCall)) (log : Log) (counts : Counts) → i ≡ most → HasServed heeded i old new log counts → HasCounted heeded most old new counts
served_all heeded i most old new log counts e s = record { turns = s.turns; count_is = s.count_is ∙ e; reports = s.reports; counts_are = s.counts_are }

pub cut_serving : (heeded : Heeded) (i most : ℕ) (old mid new : Option (List LinkCall)) (log : Log) (counts : Counts) (cut : List LinkCall) → i < most → HasServed heeded i old mid log counts → IsStarved heeded log cut
    → Reports mid new cut → IsCutServing heeded most old new
cut_serving heeded i most old mid new log counts cut lt s off t =
    record { turns = s.turns; cut = cut; within = omega (arith, s.count_is); cut_off = inr (subst (λ l. IsStarved heeded l cut) s.log_is off); reports = reports_on old mid new (calls_of heeded s.turns) cut s.reports t }

-- a whole life
pub logger_done : (role : LoggerRole) (before mid new : Option (List LinkCall)) (counts : Counts) (Writes : List ℕ → Type 0) → Reports before mid (Bound role.local ∷ [])
    → HasCounted (heeded_by role) role.turns mid new counts → Writes (count_line counts) → IsLogger role before new Writes
logger_done role before mid new counts Writes b s w = record {
  turns = s.turns;
  count_is = s.count_is;
  reports = reports_on before mid new (Bound role.local ∷ []) (calls_of (heeded_by role) s.turns) b s.reports;
  written = subst (λ c. Writes (count_line c)) s.counts_are w;
}

pub logger_cut : (role : LoggerRole) (before mid new : Option (List LinkCall)) → Reports before mid (Bound role.local ∷ []) → IsCutServing (heeded_by role) role.turns mid new → IsCutLogger role before new
logger_cut role before mid new b s = record {
  turns = s.turns;
  cut = s.cut;
  within = s.within;
  cut_off = s.cut_off;
  reports = reports_on before mid new (Bound role.local ∷ []) (calls_of (heeded_by role) s.turns ++ s.cut) b s.reports;
}

-- a whole life whose line has no memory
unreported : (role : LoggerRole) (before mid new : Option (List LinkCall)) (counts : Counts) → Reports before mid (Bound role.local ∷ []) → HasCounted (heeded_by role) role.turns mid new counts → IsCutLogger role before new
unreported role before mid new counts b s = logger_cut role before mid new b (record {
  turns = s.turns;
  cut = [];
  within = omega (arith, s.count_is);
  cut_off = inl (refl, s.count_is);
  reports = subst (Reports mid new) (sym (append-nil (calls_of (heeded_by role) s.turns))) s.reports;
})

pub logger_stops : (role : LoggerRole) (before mid new : Option (List LinkCall)) (counts : Counts) (out_old out_new : Option (List ℕ)) (end : NodeEnd) → Reports before mid (Bound role.local ∷ [])
    → HasCounted (heeded_by role) role.turns mid new counts → ReportStops (count_line counts) out_old out_new end → LoggerStops role before new out_old out_new end
logger_stops role before mid new counts out_old out_new ends.NoMemory b s t = (unreported role before mid new counts b s, t)
logger_stops role before mid new counts out_old out_new ends.WriteFault b s t = logger_done role before mid new counts (AppendsFront out_old out_new) b s t
logger_stops role before mid new counts out_old out_new ends.LinkFault b s t = absurd t
logger_stops role before mid new counts out_old out_new ends.Usage b s t = absurd t
logger_stops role before mid new counts out_old out_new (ends.Fenced newer) b s t = absurd t
logger_stops role before mid new counts out_old out_new ends.Reset b s t = absurd t
logger_stops role before mid new counts out_old out_new ends.Spent b s t = absurd t
logger_stops role before mid new counts out_old out_new ends.ReadFault b s t = absurd t
logger_stops role before mid new counts out_old out_new ends.ChildFault b s t = absurd t
