-- The turns of a logger of a pair follow one another: so do their calls, and their counts add up.
use Rattle.std.proofs.Common.{◌≡◌, ◌∙◌, inl, inr, ℕ, suc, ◌+◌, ◌-◌, ◌<◌, ◌≤◌, ◌^◌, add-one, refl, sym, ap, ap₂, subst, Option, List, [], ◌∷◌, ◌++◌, length, append-nil, length-append, arith}
use Rattle.std.proofs.lemmas.List.{length-map}
use Rattle.ft_io.specs.Sink.{AppendsFront}
use Rattle.ft_io.specs.Reported.{Reports}
use Rattle.ft_io.specs.declared.Addr.{Addr}
use Rattle.ft_io.specs.declared.link_call.LinkCall.{LinkCall}
use Rattle.ft_io.specs.declared.link_call.LinkCall.TheVariants.{Bound, Handed}
use Rattle.ft_io.proofs.Recordings.{reports_on, none_reported}
use Rattle.link_parts.proofs.Calls.{counts_on, with_both, few_calls, IsFew}
use Rattle.link_parts.specs.Counts.{count_line, counts_of, with_calls, HasRoom}
use Rattle.link_parts.specs.LoggerParts.{IsCutOff, grammar_for}
use Rattle.link_parts.specs.Receipt.{Received, datagram, silence, failure, received_as, IsQuiet}
use Rattle.link_parts.specs.LineOutput.{ReportStops}
use Rattle.link_parts.specs.declared.counts.Counts.{Counts}
use Rattle.link_parts.specs.declared.status.NodeEnd.{NodeEnd}
use Rattle.link_parts.specs.declared.status.NodeEnd.TheVariants as ends
use Rattle.twin_laws.specs.declared.part.Side.{Side}
use Rattle.chain_parts.specs.PartLife.{IsPart, IsCutPart, PartStops}
use Rattle.chain_parts.specs.PartTurns.{Standing, Outgoing, addressed, sending, turn_calls, calls_of, receipt, received_in, sends, at_start}
use Rattle.chain_parts.specs.PartSteps.{HasSent, HasTurned, IsServing, HasServed, IsCutServing}
use Rattle.chain_parts.specs.declared.pair_role.PartRole.{PartRole}
use Rattle.chain_parts.proofs.Handing.{length_addressed, length_sent}
use Rattle.link_parts.specs.Ranges.{most_turns}

-- a turn in which no datagram came
pub quiet : (other : Addr) (s : Standing) (old new : Option (List LinkCall)) (c counts : Counts) (r : Received) → Reports old new (received_as r ∷ []) → counts ≡ with_calls c (received_as r ∷ [])
    → IsQuiet r → HasTurned other s s old new c counts
quiet other s old new c counts silence t k q =
    record { turn = record { received = silence; sent = [] }; few = omega arith; defined = refl; after_is = refl; reports = t; counts_are = k }
quiet other s old new c counts failure t k q =
    record { turn = record { received = failure; sent = [] }; few = omega arith; defined = refl; after_is = refl; reports = t; counts_are = k }
quiet other s old new c counts (datagram from bytes) t k (inl e) = cc
quiet other s old new c counts (datagram from bytes) t k (inr e) = cc

-- a turn in which one came
pub turned : (other : Addr) (s after : Standing) (old mid new : Option (List LinkCall)) (c between counts : Counts) (r : Received) (from : Addr) (bytes : List ℕ) (out : List (Side × List ℕ))
    → Reports old mid (received_as r ∷ []) → between ≡ with_calls c (received_as r ∷ []) → r ≡ datagram from bytes → after ≡ (receipt other from bytes s).next
    → out ≡ (receipt other from bytes s).sent → length out < 2 ^ 64 → HasSent (addressed after.server other out) mid new between counts → HasTurned other s after old new c counts
turned other s after old mid new c between counts r from bytes out t k is next sent short h =
    let few : length (addressed after.server other out) ≤ length out = length_addressed after.server other out in
    let count : length h.sent ≡ length (addressed after.server other out) = length_sent (addressed after.server other out) mid new between counts h in
    record {
      turn = record { received = r; sent = h.sent };
      few = omega (arith, few, count, short);
      defined = h.datagrams_are ∙ (ap₂ (λ (a : Standing) o. addressed a.server other o) next sent ∙ sym (ap (λ x. sends other x s) is));
      after_is = next ∙ sym (ap (λ x. (received_in other x s).next) is);
      reports = reports_on old mid new (received_as r ∷ []) (sending h.sent) t h.reports;
      counts_are = h.counts_are ∙ (ap (λ x. with_calls x (sending h.sent)) k ∙ with_both c (received_as r ∷ []) (sending h.sent));
    }

-- there is room for the counts of what follows a receive
pub room_left : (c counts : Counts) (r : Received) → HasRoom (2 ^ 64) c → counts ≡ with_calls c (received_as r ∷ []) → HasRoom (2 ^ 64 - 1) counts
room_left c counts r room is =
    let few : IsFew 1 (counts_of (received_as r ∷ [])) = few_calls (received_as r ∷ []) in
    subst (HasRoom (2 ^ 64 - 1)) (sym is) (record {
      turns = omega (arith, room.turns, few.turns);
      datagrams = omega (arith, room.datagrams, few.datagrams);
      sent = omega (arith, room.sent, few.sent);
      lost = omega (arith, room.lost, few.lost);
      failed = omega (arith, room.failed, few.failed);
    })

-- turns so far
pub serving_none : (role : PartRole) (s : Standing) (reported : Option (List LinkCall)) (counts : Counts) → s ≡ at_start (grammar_for role.logger) role.part → counts ≡ counts_of [] → IsServing role 0 s reported reported counts
serving_none role s reported counts is none =
    record { turns = []; count_is = refl; defined = tt; at_is = is; total = omega arith; reports = none_reported reported; counts_are = none }

pub serving_on : (role : PartRole) (i : ℕ) (s after : Standing) (old mid new : Option (List LinkCall)) (c counts : Counts) → IsServing role i s old mid c
    → HasTurned role.other s after mid new c counts → IsServing role (i + 1) after old new counts
serving_on role i s after old mid new c counts h t =
    let calls : List LinkCall = calls_of h.turns in
    let sum : length (calls_of h.turns ++ turn_calls t.turn) ≡ length (calls_of h.turns) + length (turn_calls t.turn) = length-append (calls_of h.turns) (turn_calls t.turn) in
    let one : length (turn_calls t.turn) ≡ suc (length t.turn.sent) = ap suc (length-map t.turn.sent (λ (o : Outgoing). Handed o.to o.bytes o.is_lost)) in
    record {
      turns = t.turn ∷ h.turns;
      count_is = ap suc h.count_is ∙ sym (add-one i);
      defined = (h.defined, t.defined ∙ ap (sends role.other t.turn.received) h.at_is);
      at_is = t.after_is ∙ ap (λ x. (received_in role.other t.turn.received x).next) h.at_is;
      total = omega (arith, sum, one, h.total, t.few);
      reports = reports_on old mid new (calls_of h.turns) (turn_calls t.turn) h.reports t.reports;
      counts_are = t.counts_are ∙ (ap (λ x. with_calls x (turn_calls t.turn)) h.counts_are ∙ sym (counts_on (calls_of h.turns) (turn_calls t.turn)));
    }

pub room_in_turn : (role : PartRole) (i most : ℕ) (s : Standing) (old new : Option (List LinkCall)) (counts : Counts) → i < most → most ≤ most_turns → IsServing role i s old new counts
    → HasRoom (2 ^ 64) counts
room_in_turn role i most s old new counts lt le h =
    let few : IsFew (length (calls_of h.turns)) (counts_of (calls_of h.turns)) = few_calls (calls_of h.turns) in
    subst (HasRoom (2 ^ 64)) (sym h.counts_are) (record {
      turns = omega (arith, h.total, few.turns);
      datagrams = omega (arith, h.total, few.datagrams);
      sent = omega (arith, h.total, few.sent);
      lost = omega (arith, h.total, few.lost);
      failed = omega (arith, h.total, few.failed);
    })

pub served_all : (role : PartRole) (i : ℕ) (s : Standing) (old new : Option (List LinkCall)) (counts : Counts) → i ≡ role.logger.turns → IsServing role i s old new counts
    → HasServed role old new counts
served_all role i s old new counts e h = record { turns = h.turns; count_is = h.count_is ∙ e; defined = h.defined; reports = h.reports; counts_are = h.counts_are }

pub cut_serving : (role : PartRole) (i : ℕ) (s : Standing) (old mid new : Option (List LinkCall)) (counts : Counts) (cut : List LinkCall) → i < role.logger.turns → IsServing role i s old mid counts
    → IsCutOff cut → Reports mid new cut → IsCutServing role old new
cut_serving role i s old mid new counts cut lt h off t =
    record { turns = h.turns; cut = cut; within = omega (arith, h.count_is, lt); defined = h.defined; cut_off = inr off; reports = reports_on old mid new (calls_of h.turns) cut h.reports t }

-- memory ran out before the first turn
pub cut_before : (role : PartRole) (reported : Option (List LinkCall)) → IsCutServing role reported reported
cut_before role reported = record { turns = []; cut = []; within = omega arith; defined = tt; cut_off = inl refl; reports = none_reported reported }

-- a whole life
pub part_done : (role : PartRole) (before mid new : Option (List LinkCall)) (counts : Counts) (Writes : List ℕ → Type 0) → Reports before mid (Bound role.logger.local ∷ [])
    → HasServed role mid new counts → Writes (count_line counts) → IsPart role before new Writes
part_done role before mid new counts Writes b s w = record {
  turns = s.turns;
  count_is = s.count_is;
  defined = s.defined;
  reports = reports_on before mid new (Bound role.logger.local ∷ []) (calls_of s.turns) b s.reports;
  written = subst (λ c. Writes (count_line c)) s.counts_are w;
}

pub part_cut : (role : PartRole) (before mid new : Option (List LinkCall)) → Reports before mid (Bound role.logger.local ∷ []) → IsCutServing role mid new → IsCutPart role before new
part_cut role before mid new b s = record {
  turns = s.turns;
  cut = s.cut;
  within = s.within;
  defined = s.defined;
  cut_off = s.cut_off;
  reports = reports_on before mid new (Bound role.logger.local ∷ []) (calls_of s.turns ++ s.cut) b s.reports;
}

-- .. whose line wants memory
unreported : (role : PartRole) (before mid new : Option (List LinkCall)) (counts : Counts) → Reports before mid (Bound role.logger.local ∷ []) → HasServed role mid new counts → IsCutPart role before new
unreported role before mid new counts b s = part_cut role before mid new b (record {
  turns = s.turns;
  cut = [];
  within = omega (arith, s.count_is);
  defined = s.defined;
  cut_off = inl refl;
  reports = subst (Reports mid new) (sym (append-nil (calls_of s.turns))) s.reports;
})

pub part_stops : (role : PartRole) (before mid new : Option (List LinkCall)) (counts : Counts) (out_old out_new : Option (List ℕ)) (end : NodeEnd) → Reports before mid (Bound role.logger.local ∷ [])
    → HasServed role mid new counts → ReportStops (count_line counts) out_old out_new end → PartStops role before new out_old out_new end
part_stops role before mid new counts out_old out_new ends.NoMemory b s t = (unreported role before mid new counts b s, t)
part_stops role before mid new counts out_old out_new ends.WriteFault b s t = part_done role before mid new counts (AppendsFront out_old out_new) b s t
part_stops role before mid new counts out_old out_new ends.LinkFault b s t = absurd t
part_stops role before mid new counts out_old out_new ends.Usage b s t = absurd t
part_stops role before mid new counts out_old out_new (ends.Fenced newer) b s t = absurd t
part_stops role before mid new counts out_old out_new ends.Reset b s t = absurd t
part_stops role before mid new counts out_old out_new ends.Spent b s t = absurd t
part_stops role before mid new counts out_old out_new ends.ReadFault b s t = absurd t
part_stops role before mid new counts out_old out_new ends.ChildFault b s t = absurd t
