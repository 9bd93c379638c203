-- Datagrams that a logger of a pair hands to send, one after another.
use Rattle.std.proofs.Common.{◌≡◌, ◌∙◌, ℕ, false, true, ◌+◌, ◌-◌, ◌<◌, ◌≤◌, ◌^◌, add-one, refl, sym, ap, ap₂, subst, Option, None, Some, option_map, List, [], ◌∷◌, ◌++◌, length, take, append-nil, length-append, arith, Result, Ok, Err}
use Rattle.std.proofs.lemmas.List.{map-append, length-map, length-take-le}
use Rattle.std.proofs.lemmas.List.Concat.{flat_map-append}
use Rattle.std.proofs.lemmas.Option.{get_or_from_slice_get}
use Rattle.std.proofs.Math.Seq.{take-suc}
use Rattle.std.specs.List.{slice_get}
use Rattle.ft_io.specs.Link.{send_reported}
use Rattle.ft_io.specs.Reported.{Reports}
use Rattle.ft_io.specs.declared.Addr.{Addr}
use Rattle.ft_io.specs.declared.Failed.{Failed}
use Rattle.ft_io.specs.declared.link_call.LinkCall.{LinkCall}
use Rattle.ft_io.specs.declared.link_call.LinkCall.TheVariants.{Handed}
use Rattle.ft_io.proofs.Recordings.{reports_on, none_reported}
use Rattle.link_parts.proofs.Calls.{with_both, with_none, few_calls, IsFew}
use Rattle.link_parts.specs.Counts.{counts_of, with_calls, HasRoom}
use Rattle.link_parts.specs.declared.counts.Counts.{Counts}
use Rattle.twin_laws.specs.declared.part.Side.{Side}
use Rattle.chain_parts.specs.PartTurns.{Outgoing, address_for, addressed_to, addressed, sending}
use Rattle.chain_parts.specs.PartSteps.{HasSent}

abbrev call_of : Outgoing → LinkCall
call_of o = Handed o.to o.bytes o.is_lost

abbrev datagram_of : Outgoing → Addr × List ℕ
datagram_of o = (o.to, o.bytes)

-- one datagram
pub handed : (to : Addr) (bytes : List ℕ) (old new : Option (List LinkCall)) (c c' : Counts) (r : Result (Unit {0}) Failed) → Reports old new (send_reported to bytes r)
    → c' ≡ with_calls c (send_reported to bytes r) → HasSent ((to, bytes) ∷ []) old new c c'
handed to bytes old new c c' (Ok x) t k =
    record { sent = record { to = to; bytes = bytes; is_lost = false } ∷ []; datagrams_are = refl; reports = t; counts_are = k }
handed to bytes old new c c' (Err e) t k =
    record { sent = record { to = to; bytes = bytes; is_lost = true } ∷ []; datagrams_are = refl; reports = t; counts_are = k }

-- none
pub sent_none : (reported : Option (List LinkCall)) (c : Counts) → HasSent [] reported reported c c
sent_none reported c = record { sent = []; datagrams_are = refl; reports = none_reported reported; counts_are = sym (with_none c) }

-- by its address
pub sent_to : (to : Option Addr) (at : Addr) (bytes : List ℕ) (old new : Option (List LinkCall)) (c c' : Counts) (r : Result (Unit {0}) Failed) → to ≡ Some at
    → Reports old new (send_reported at bytes r) → c' ≡ with_calls c (send_reported at bytes r) → HasSent (addressed_to to bytes) old new c c'
sent_to to at bytes old new c c' r is t k = subst (λ o. HasSent (addressed_to o bytes) old new c c') (sym is) (handed at bytes old new c c' r t k)

pub sent_nowhere : (to : Option Addr) (bytes : List ℕ) (reported : Option (List LinkCall)) (c : Counts) → to ≡ None → HasSent (addressed_to to bytes) reported reported c c
sent_nowhere to bytes reported c is = subst (λ o. HasSent (addressed_to o bytes) reported reported c c) (sym is) (sent_none reported c)

-- some, and then others
pub sent_more : (xs ys : List (Addr × List ℕ)) (old mid new : Option (List LinkCall)) (c c' c'' : Counts) → HasSent xs old mid c c' → HasSent ys mid new c' c''
    → HasSent (xs ++ ys) old new c c''
sent_more xs ys old mid new c c' c'' h k =
    let together : sending (h.sent ++ k.sent) ≡ sending h.sent ++ sending k.sent = map-append call_of h.sent k.sent in
    record {
      sent = h.sent ++ k.sent;
      datagrams_are = map-append datagram_of h.sent k.sent ∙ ap₂ (λ a b. a ++ b) h.datagrams_are k.datagrams_are;
      reports = subst (Reports old new) (sym together) (reports_on old mid new (sending h.sent) (sending k.sent) h.reports k.reports);
      counts_are = k.counts_are
          ∙ (ap (λ x. with_calls x (sending k.sent)) h.counts_are ∙ (with_both c (sending h.sent) (sending k.sent) ∙ ap (with_calls c) (sym together)));
    }

-- a list of two lists of parts
both_parts : {A B : Type 0} (got : Option (A × B)) (a : A) (b : B) → option_map (λ d. d.0) got ≡ Some a → option_map (λ d. d.1) got ≡ Some b → got ≡ Some (a, b)
both_parts None a b e f = cc
both_parts (Some (x, y)) a b e f =
    let first : x ≡ a = cc in
    let second : y ≡ b = cc in
    ap₂ (λ u v. Some (u, v)) first second

pub sent_on : (server : Option Addr) (other : Addr) (out : List (Side × List ℕ)) (i : ℕ) (side : Side) (bytes : List ℕ) (old mid new : Option (List LinkCall)) (c c' c'' : Counts) → i < length out
    → option_map (λ d. d.0) (slice_get out i) ≡ Some side → option_map (λ d. d.1) (slice_get out i) ≡ Some bytes → HasSent (addressed server other (take i out)) old mid c c'
    → HasSent (addressed_to (address_for server other side) bytes) mid new c' c'' → HasSent (addressed server other (take (i + 1) out)) old new c c''
sent_on server other out i side bytes old mid new c c' c'' lt to is h k =
    let got : slice_get out i ≡ Some (side, bytes) = both_parts (slice_get out i) side bytes to is in
    let next : take (i + 1) out ≡ take i out ++ (side, bytes) ∷ [] =
    ap (λ n. take n out) (add-one i) ∙ (take-suc out i (side, bytes) lt ∙ ap (λ d. take i out ++ d ∷ []) (get_or_from_slice_get out i (side, bytes) (side, bytes) got)) in
    let one : addressed server other ((side, bytes) ∷ []) ≡ addressed_to (address_for server other side) bytes = append-nil (addressed_to (address_for server other side) bytes) in
    let all : addressed server other (take (i + 1) out) ≡ addressed server other (take i out) ++ addressed_to (address_for server other side) bytes =
    ap (addressed server other) next
    ∙ (flat_map-append (λ (s : Side × List ℕ). addressed_to (address_for server other s.0) s.1) (take i out) ((side, bytes) ∷ []) ∙ ap (λ l. addressed server other (take i out) ++ l) one) in
    subst (λ l. HasSent l old new c c'') (sym all)
    (sent_more (addressed server other (take i out)) (addressed_to (address_for server other side) bytes) old mid new c c' c'' h k)

-- no more datagrams leave than go out
at_most_one : (to : Option Addr) (bytes : List ℕ) → length (addressed_to to bytes) ≤ 1
at_most_one None bytes = omega arith
at_most_one (Some at) bytes = omega arith

pub length_addressed : (server : Option Addr) (other : Addr) (out : List (Side × List ℕ)) → length (addressed server other out) ≤ length out
length_addressed server other [] = omega arith
length_addressed server other ((side, bytes) ∷ out) =
    let sum : length (addressed_to (address_for server other side) bytes ++ addressed server other out)
    ≡ length (addressed_to (address_for server other side) bytes) + length (addressed server other out) =
    length-append (addressed_to (address_for server other side) bytes) (addressed server other out) in
    omega (arith, sum, at_most_one (address_for server other side) bytes, length_addressed server other out)

pub length_sent : (xs : List (Addr × List ℕ)) (old new : Option (List LinkCall)) (c c' : Counts) (h : HasSent xs old new c c') → length h.sent ≡ length xs
length_sent xs old new c c' h = sym (length-map h.sent datagram_of) ∙ ap length h.datagrams_are

-- there is room for the counts of one more
pub room_for_one : (server : Option Addr) (other : Addr) (out : List (Side × List ℕ)) (i : ℕ) (old new : Option (List LinkCall)) (c counts : Counts) → i < length out → length out < 2 ^ 64 → HasRoom (2 ^ 64 - 1) c
    → HasSent (addressed server other (take i out)) old new c counts → HasRoom 1 counts
room_for_one server other out i old new c counts lt short room h =
    let few : IsFew (length (sending h.sent)) (counts_of (sending h.sent)) = few_calls (sending h.sent) in
    let is : length (sending h.sent) ≡ length (addressed server other (take i out)) = length-map h.sent call_of ∙ length_sent (addressed server other (take i out)) old new c counts h in
    let le : length (addressed server other (take i out)) ≤ length (take i out) = length_addressed server other (take i out) in
    let taken : length (take i out) ≡ i = length-take-le i out (omega (arith, lt)) in
    subst (HasRoom 1) (sym h.counts_are) (record {
      turns = omega (arith, room.turns, few.turns, is, le, taken, lt, short);
      datagrams = omega (arith, room.datagrams, few.datagrams, is, le, taken, lt, short);
      sent = omega (arith, room.sent, few.sent, is, le, taken, lt, short);
      lost = omega (arith, room.lost, few.lost, is, le, taken, lt, short);
      failed = omega (arith, room.failed, few.failed, is, le, taken, lt, short);
    })
