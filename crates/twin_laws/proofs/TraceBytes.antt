-- All that was sent in a joint trace is written: the packets outside as in the flat trace, and what goes between the loggers because the head takes only what the
-- server sent, in its spelling.
use Rattle.std.proofs.Common.{◌≡◌, ◌∙◌, ℕ, zero, suc, ◌+◌, ◌-◌, ◌<◌, ◌≤◌, ◌^◌, ◌==◌, ◌&&◌, not, nat_lt, nat_le, if◌then◌else◌, Bool, true, false, sym, ap, subst, Some, List, [], ◌∷◌, ◌++◌, map, drop, length, arith, length-append, Ok, leb-true}
use Rattle.std.specs.List.{AllByRecursion}
use Rattle.std.proofs.lemmas.Bool.{and_parts, ltb-true}
use Rattle.std.proofs.lemmas.Option.{slice_get_within}
use Rattle.ft_io.proofs.Choices.{holds_if, holds_either_way}
use Rattle.seq_arith.specs.Damage.{flipped}
use Rattle.seq_arith.specs.Message.{is_answer}
use Rattle.seq_arith.specs.MessageGrammar as messages
use Rattle.seq_arith.specs.TwinGrammar as twins
use Rattle.seq_arith.proofs.MessageSpelling.{message_is_read}
use Rattle.server_trait.specs.Service.{Machine}
use Rattle.seq_arith.specs.declared.kinds.Grammar.{Grammar}
use Rattle.tcp_rules.specs.Profile.{Profile, grammar_of}
use Rattle.ft_model.specs.Network.{Packet, packet_at}
use Rattle.ft_model.specs.Network.Packet.{To_server, To_client, To_logger, From_logger}
use Rattle.ft_model.specs.Wire.{HasWireBy, CanBeWrittenBy}
use Rattle.ft_model.specs.World.{World, Moment, WasSent, Delivered, Flipped, Happens, Joint, world_after}
use Rattle.ft_model.specs.declared.event.Event.TheVariants.{Boot, Crash, Tick, Deliver, Flip, Begin, Send, Fin, Ack, Reset}
use Rattle.ft_model.specs.declared.event.Event.TheVariants as events
use Rattle.ft_model.proofs.Happened.{message_bit_changed}
use Rattle.ft_model.proofs.Profiles.{profile_stays}
use Rattle.ft_model.proofs.Lists.{all_append, all_map, all_of, all_slice_get, none_is_some}
use Rattle.twin_laws.specs.declared.part.Part.{Part}
use Rattle.twin_laws.specs.declared.part.Part.TheVariants as parts
use Rattle.twin_laws.specs.Twin.{Request, Between, Comes, Head, Tail, Does, nothing, has_room, with_taken, head_takes, is_wide, waits, waiting, numbered, sends_waiting, head_paired, head_alone, confirmed_to, head_does, tail_alone, applies_next, confirms_again, tail_applies, tail_does, from_other_logger, asked, bytes_of, datagram_of}
use Rattle.twin_laws.specs.Twin.Between.{Forward, Got}
use Rattle.twin_laws.specs.Twin.Comes.{Asks, Reports, Is_noise}
use Rattle.twin_laws.specs.Pair.{Pair, IsPaired, head_has, tail_has, stopped_by}
use Rattle.twin_laws.specs.TwinWorld.{Parcel, TwinWorld, TwinEvent, TwinMoment, TwinHappens, TwinJoint, Elsewhere, HeadHas, TailHas, LoggerHas, ParcelComes, ParcelFlipped, seen, sent_by, request_of, parcel_at, twin_after}
use Rattle.twin_laws.specs.TwinWorld.Parcel.{Outside, Inside}
use Rattle.twin_laws.specs.TwinWorld.TwinEvent.{Usual, Stop}
use Rattle.twin_laws.specs.Flat.{flat, number_at}
use Rattle.twin_laws.specs.SentBytes.{IsRead, IsWritten}
use Rattle.twin_laws.proofs.Asking.{forward_is_read, got_is_read, forward_is_sent, got_is_sent}
use Rattle.twin_laws.proofs.Flattening.{Flattens, flattens, IsTrueOf}
use Rattle.twin_laws.proofs.Noise.{flipped_is_noise, asked_nothing}
use Rattle.twin_laws.proofs.Numbering.{Named, named_at, TakenBy}
use Rattle.twin_laws.proofs.Steps.{IsForwarded, acts}

-- what was sent outside was sent in the flat trace
pub is_sent : {State : Type 0} (service : Machine State) (start : TwinWorld) (trace : List TwinMoment) (number : ℕ) (packet : Packet) → TwinJoint service start trace
    → parcel_at (twin_after start trace).parcels number ≡ Some (Outside packet) → WasSent (seen (twin_after start trace) (flat start trace).packets) packet
is_sent service start trace number packet j at =
    let s : Flattens service start (twin_after start trace) (flat start trace) = flattens service start trace j in
    (number_at (flat start trace).numbers (number - 1), named_at (flat start trace).packets (twin_after start trace).parcels (flat start trace).numbers number packet s.named at)

pub is_paired : {State : Type 0} (service : Machine State) (start : TwinWorld) (trace : List TwinMoment) → TwinJoint service start trace → IsPaired (twin_after start trace).pair
is_paired service start trace j =
    let s : Flattens service start (twin_after start trace) (flat start trace) = flattens service start trace j in
    let a = acts (twin_after start trace).pair s.pair in
    record { head_alone = s.pair.head_alone; tail_alone = s.pair.tail_alone; one = s.pair.one; confirmed = omega (arith, a.confirmed, a.applied) }

-- the head took a request from the server, in its spelling
abbrev IsTaken : Grammar → Request → Type 0
IsTaken grammar r = (r.bytes ≡ messages.spelling_by grammar r.message) × (is_answer r.message.body ≡ false)

abbrev Takes : Grammar → Head → Type 0
Takes grammar h = AllByRecursion (IsTaken grammar) h.taken × (length h.taken < 2 ^ 64)

-- a confirmation has a number
abbrev IsReal : Between → Type 0
IsReal (Forward number r) = Unit {0}
IsReal (Got number) = 1 ≤ number

abbrev IsRealParcel : Parcel → Type 0
IsRealParcel (Outside packet) = Unit {0}
IsRealParcel (Inside between) = IsReal between

-- a request comes in its spelling, and a forwarded one with a number
abbrev IsGood : Grammar → Comes → Type 0
IsGood grammar (Asks r) = r.bytes ≡ messages.spelling_by grammar r.message
IsGood grammar (Reports (Forward number r)) = 1 ≤ number
IsGood grammar _ = Unit {0}

room_left : (h : Head) (r : Request) → has_room h ≡ true → length (h.taken ++ r ∷ []) < 2 ^ 64
room_left h r room =
    let below : nat_lt (length h.taken) (2 ^ 64 - 1) ≡ true = (and_parts (nat_lt (length h.taken - h.confirmed) 64) (nat_lt (length h.taken) (2 ^ 64 - 1)) room).1 in
    let less : length h.taken < 2 ^ 64 - 1 = ltb-true _ _ below in
    omega (arith, less, length-append h.taken (r ∷ []))

head_takes_so : (grammar : Grammar) (c : Comes) (h : Head) → IsGood grammar c → Takes grammar h → Takes grammar (head_does c h).next
head_takes_so grammar (Asks r) h good t =
    holds_if (λ d. Takes grammar d.next) h.alone (head_alone r h) (head_paired r h) (λ alone. t)
    (λ paired. holds_if (λ d. Takes grammar d.next) (is_answer r.message.body) (nothing h) (if has_room h then head_takes r h else sends_waiting h) (λ answers. t)
    (λ asks. holds_if (λ d. Takes grammar d.next) (has_room h) (head_takes r h) (sends_waiting h)
    (λ room. (all_append (IsTaken grammar) h.taken (r ∷ []) t.0 ((good, asks), tt), room_left h r room)) (λ full. t)))
head_takes_so grammar (Reports (Got number)) h good t =
    holds_either_way (λ d. Takes grammar d.next) h.alone (nothing h) (nothing (confirmed_to number h)) t
    (holds_either_way (Takes grammar) (nat_lt h.confirmed number && nat_le number (length h.taken)) (record h { confirmed = number }) h t t)
head_takes_so grammar (Reports (Forward number r)) h good t = t
head_takes_so grammar Is_noise h good t = t

-- what is sent
numbered_real : (n : ℕ) (rs : List Request) → AllByRecursion IsReal (numbered n rs)
numbered_real n [] = tt
numbered_real n (r ∷ rs) = (tt, numbered_real (n + 1) rs)

abbrev SendsReal : {State : Type 0} → Does State → Type 0
SendsReal d = AllByRecursion IsReal d.to_other

head_sends_real : (c : Comes) (h : Head) → SendsReal (head_does c h)
head_sends_real (Asks r) h =
    holds_either_way (λ d. SendsReal d) h.alone (head_alone r h) (head_paired r h) tt
    (holds_either_way (λ d. SendsReal d) (is_answer r.message.body) (nothing h) (if has_room h then head_takes r h else sends_waiting h) tt
    (holds_either_way (λ d. SendsReal d) (has_room h) (head_takes r h) (sends_waiting h)
    (holds_either_way (AllByRecursion IsReal) (is_wide r.bytes && not (waits r h)) (Forward (length h.taken + 1) r ∷ []) (waiting (with_taken r h)) (tt, tt)
    (numbered_real h.confirmed (drop h.confirmed (h.taken ++ r ∷ []))))
    (numbered_real h.confirmed (drop h.confirmed h.taken))))
head_sends_real (Reports (Got number)) h = holds_either_way (λ d. SendsReal d) h.alone (nothing h) (nothing (confirmed_to number h)) tt tt
head_sends_real (Reports (Forward number r)) h = tt
head_sends_real Is_noise h = tt

tail_sends_real : (grammar : Grammar) (c : Comes) (t : Tail) → IsGood grammar c → SendsReal (tail_does c t)
tail_sends_real grammar (Asks r) t good = holds_either_way (λ d. SendsReal d) t.alone (tail_alone r t) (nothing t) tt tt
tail_sends_real grammar (Reports (Forward number r)) t good =
    holds_either_way (λ d. SendsReal d) t.alone (nothing t) (tail_applies number r t) tt
    (holds_either_way (λ d. SendsReal d) (number == t.applied + 1) (applies_next r t) _ (omega arith, tt)
    (holds_if (λ d. SendsReal d) (nat_le number t.applied) (confirms_again t) (nothing t)
    (λ had. let less : number ≤ t.applied = leb-true _ _ had in (omega (arith, less, good), tt)) (λ gap. tt)))
tail_sends_real grammar (Reports (Got number)) t good = tt
tail_sends_real grammar Is_noise t good = tt

real_parcels : {State : Type 0} (d : Does State) → SendsReal d → AllByRecursion IsRealParcel (sent_by d)
real_parcels d real =
    all_append IsRealParcel (map (λ m. Outside (From_logger m)) d.to_server) (map Inside d.to_other)
    (all_map IsRealParcel (λ m. Outside (From_logger m)) d.to_server (all_of (λ m. Unit {0}) d.to_server (λ m. tt))) (all_map IsRealParcel Inside d.to_other real)

record Good (grammar : Grammar) (w : TwinWorld) : Type 0 where
  takes : Takes grammar w.pair.head
  real : AllByRecursion IsRealParcel w.parcels

next_good : (grammar : Grammar) (before after : TwinWorld) (pair : Pair) (sent : List Parcel) → after ≡ record before { pair = pair; parcels = before.parcels ++ sent }
    → Takes grammar pair.head → AllByRecursion IsRealParcel before.parcels → AllByRecursion IsRealParcel sent → Good grammar after
next_good grammar before after pair sent is takes old new =
    subst (Good grammar) (sym is) (record { takes = takes; real = all_append IsRealParcel before.parcels sent old new })

by_head : (grammar : Grammar) (c : Comes) (before after : TwinWorld) (sent : List Parcel) → IsGood grammar c → Good grammar before → HeadHas c before sent after → Good grammar after
by_head grammar c before after sent good g h =
    next_good grammar before after (head_has c before.pair) sent h.1
    (holds_either_way (λ p. Takes grammar p.head) before.pair.head_stopped before.pair _ g.takes (head_takes_so grammar c before.pair.head good g.takes)) g.real
    (subst (AllByRecursion IsRealParcel) (sym h.0)
    (holds_either_way (AllByRecursion IsRealParcel) before.pair.head_stopped [] (sent_by (head_does c before.pair.head)) tt
    (real_parcels (head_does c before.pair.head) (head_sends_real c before.pair.head))))

by_tail : (grammar : Grammar) (c : Comes) (before after : TwinWorld) (sent : List Parcel) → IsGood grammar c → Good grammar before → TailHas c before sent after → Good grammar after
by_tail grammar c before after sent good g h =
    next_good grammar before after (tail_has c before.pair) sent h.1
    (holds_either_way (λ p. Takes grammar p.head) before.pair.tail_stopped before.pair _ g.takes g.takes) g.real
    (subst (AllByRecursion IsRealParcel) (sym h.0)
    (holds_either_way (AllByRecursion IsRealParcel) before.pair.tail_stopped [] (sent_by (tail_does c before.pair.tail)) tt
    (real_parcels (tail_does c before.pair.tail) (tail_sends_real grammar c before.pair.tail good))))

by_logger : (grammar : Grammar) (head_stopped : Bool) (c : Comes) (before after : TwinWorld) (sent : List Parcel) → IsGood grammar c → Good grammar before → LoggerHas head_stopped c before sent after → Good grammar after
by_logger grammar true c before after sent good g h = by_tail grammar c before after sent good g h
by_logger grammar false c before after sent good g h = by_head grammar c before after sent good g h

by_others : (grammar : Grammar) (Goes : World → List Packet → World → Type 0) (before after : TwinWorld) (sent : List Parcel) → Good grammar before → Elsewhere Goes before sent after → Good grammar after
by_others grammar Goes before after sent g e =
    record {
      takes = subst (λ p. Takes grammar p.head) (sym e.3) g.takes;
      real = subst (AllByRecursion IsRealParcel) (sym e.4)
          (all_append IsRealParcel before.parcels sent g.real
          (subst (AllByRecursion IsRealParcel) (sym e.1) (all_map IsRealParcel Outside e.0 (all_of (λ p. Unit {0}) e.0 (λ p. tt)))));
    }

by_stop : (grammar : Grammar) (part : Part) (before : TwinWorld) → Takes grammar before.pair.head → Takes grammar (stopped_by part before.pair).head
by_stop grammar parts.Head before t = t
by_stop grammar parts.Tail before t = t

noise_good : (grammar : Grammar) (c : Comes) → c ≡ Is_noise → IsGood grammar c
noise_good grammar c is = subst (IsGood grammar) (sym is) tt

number_real : (taken : List Request) (number : ℕ) (r : Request) → IsForwarded taken (Forward number r) → 1 ≤ number
number_real taken number r f = omega (arith, f.1)

module _ {State : Type 0} (service : Machine State) (profile : Profile) where
  abbrev grammar : Grammar
  grammar = grammar_of profile

  by_parcel : (before after : TwinWorld) (x : Parcel) (sent : List Parcel) → before.profile ≡ profile → IsTrueOf before.pair x → Good grammar before → ParcelComes service x before sent after → Good grammar after
  by_parcel before after (Outside (To_logger m)) sent same true_ g h = by_logger grammar before.pair.head_stopped (Asks (request_of (grammar_of before.profile) m)) before after sent (ap (λ p. messages.spelling_by (grammar_of p) m) same) g h
  by_parcel before after (Outside (To_server s)) sent same true_ g h = by_others grammar (λ w. Delivered service w (To_server s)) before after sent g h
  by_parcel before after (Outside (To_client s)) sent same true_ g h = by_others grammar (λ w. Delivered service w (To_client s)) before after sent g h
  by_parcel before after (Outside (From_logger m)) sent same true_ g h = by_others grammar (λ w. Delivered service w (From_logger m)) before after sent g h
  by_parcel before after (Inside (Forward number r)) sent same true_ g h =
      by_tail grammar (Reports (Forward number r)) before after sent (number_real before.pair.head.taken number r true_) g h
  by_parcel before after (Inside (Got number)) sent same true_ g h = by_head grammar (Reports (Got number)) before after sent tt g h

  by_flip : (before after : TwinWorld) (x : Parcel) (bit : ℕ) (sent : List Parcel) → Good grammar before → ParcelFlipped service x bit before sent after → Good grammar after
  by_flip before after (Outside (To_logger m)) bit sent g h =
      let bytes : List ℕ = flipped bit (messages.spelling_by (grammar_of before.profile) m) in
      by_logger grammar before.pair.head_stopped (asked bytes (messages.reading_by (grammar_of before.profile) bytes)) before after sent
      (noise_good grammar (asked bytes (messages.reading_by (grammar_of before.profile) bytes)) (asked_nothing bytes (messages.reading_by (grammar_of before.profile) bytes) (message_bit_changed (grammar_of before.profile) bit m h.0 h.1))) g h.2
  by_flip before after (Outside (To_server s)) bit sent g h = by_others grammar (λ w. Flipped service w (To_server s) bit) before after sent g h
  by_flip before after (Outside (To_client s)) bit sent g h = by_others grammar (λ w. Flipped service w (To_client s) bit) before after sent g h
  by_flip before after (Outside (From_logger m)) bit sent g h = by_others grammar (λ w. Flipped service w (From_logger m) bit) before after sent g h
  by_flip before after (Inside (Forward number r)) bit sent g h =
      by_tail grammar (from_other_logger (grammar_of before.profile) (twins.reading_by (grammar_of before.profile) (flipped bit (bytes_of (Forward number r))))) before after sent
      (noise_good grammar _ (flipped_is_noise (grammar_of before.profile) bit (bytes_of (Forward number r)) (datagram_of (Forward number r)) h.0 h.1)) g h.2
  by_flip before after (Inside (Got number)) bit sent g h =
      by_head grammar (from_other_logger (grammar_of before.profile) (twins.reading_by (grammar_of before.profile) (flipped bit (bytes_of (Got number))))) before after sent
      (noise_good grammar _ (flipped_is_noise (grammar_of before.profile) bit (bytes_of (Got number)) (datagram_of (Got number)) h.0 h.1)) g h.2

  true_at : (w : TwinWorld) (n : ℕ) (x : Parcel) → parcel_at w.parcels n ≡ Some x → AllByRecursion (IsTrueOf w.pair) w.parcels → IsTrueOf w.pair x
  true_at w zero x e a = none_is_some x e
  true_at w (suc n) x e a = all_slice_get (IsTrueOf w.pair) w.parcels n x a e

  one_good : (before after : TwinWorld) (event : TwinEvent) (sent : List Parcel) → before.profile ≡ profile → AllByRecursion (IsTrueOf before.pair) before.parcels → Good grammar before
      → TwinHappens service before event sent after → Good grammar after
  one_good before after (Usual (Deliver n)) sent same a g h = by_parcel before after h.0 sent same (true_at before n h.0 h.1 a) g h.2
  one_good before after (Usual (Flip n bit)) sent same a g h = by_flip before after h.0 bit sent g h.2
  one_good before after (Usual (Boot boot isn)) sent same a g h = by_others grammar (λ w. Happens service w (Boot boot isn)) before after sent g h
  one_good before after (Usual Crash) sent same a g h = by_others grammar (λ w. Happens service w Crash) before after sent g h
  one_good before after (Usual Tick) sent same a g h = by_others grammar (λ w. Happens service w Tick) before after sent g h
  one_good before after (Usual (Begin c n)) sent same a g h = by_others grammar (λ w. Happens service w (Begin c n)) before after sent g h
  one_good before after (Usual (Send c from len)) sent same a g h = by_others grammar (λ w. Happens service w (Send c from len)) before after sent g h
  one_good before after (Usual (Fin c)) sent same a g h = by_others grammar (λ w. Happens service w (Fin c)) before after sent g h
  one_good before after (Usual (Ack c n)) sent same a g h = by_others grammar (λ w. Happens service w (Ack c n)) before after sent g h
  one_good before after (Usual (Reset c)) sent same a g h = by_others grammar (λ w. Happens service w (Reset c)) before after sent g h
  one_good before after (Usual (events.Stop part)) sent same a g h = absurd h.2
  one_good before after (Stop part) sent same a g h =
      next_good grammar before after (stopped_by part before.pair) sent h.3 (by_stop grammar part before g.takes) g.real (subst (AllByRecursion IsRealParcel) (sym h.2) tt)

all_good : {State : Type 0} (service : Machine State) (start : TwinWorld) (trace : List TwinMoment) → TwinJoint service start trace
    → Good (grammar_of start.profile) (twin_after start trace)
all_good service start [] j = record { takes = subst (λ p. Takes (grammar_of start.profile) p.head) (sym j.pair) (tt, omega arith); real = subst (AllByRecursion IsRealParcel) (sym j.parcels) tt }
all_good service start (moment ∷ earlier) j =
    let s : Flattens service start (twin_after start earlier) (flat start earlier) = flattens service start earlier j.0 in
    let same : (twin_after start earlier).profile ≡ start.profile = ap (λ w. w.profile) (sym s.world) ∙ profile_stays service (seen start []) (flat start earlier).trace s.joint in
    one_good service start.profile (twin_after start earlier) moment.world moment.event moment.sent same s.parcels (all_good service start earlier j.0) j.1

-- what the head took can be written, since it was sent
abbrev IsReported : Grammar → Request → Type 0
IsReported grammar r = CanBeWrittenBy grammar r.message

packet_has : (grammar : Grammar) (packets : List Packet) (q : ℕ) (p : Packet) → AllByRecursion (HasWireBy grammar) packets → packet_at packets q ≡ Some p → HasWireBy grammar p
packet_has grammar packets zero p a e = none_is_some p e
packet_has grammar packets (suc q) p a e = all_slice_get (HasWireBy grammar) packets q p a e

all_reported : (grammar : Grammar) (packets : List Packet) (qs : List ℕ) (rs : List Request) → AllByRecursion (HasWireBy grammar) packets → TakenBy packets qs rs → AllByRecursion (IsReported grammar) rs
all_reported grammar packets [] [] a t = tt
all_reported grammar packets [] (r ∷ rs) a t = absurd t
all_reported grammar packets (q ∷ qs) [] a t = absurd t
all_reported grammar packets (q ∷ qs) (r ∷ rs) a t = (packet_has grammar packets q (To_logger r.message) a t.0, all_reported grammar packets qs rs a t.1)

forward_written : (grammar : Grammar) (taken : List Request) (number : ℕ) (r : Request) → AllByRecursion (IsTaken grammar) taken → AllByRecursion (IsReported grammar) taken → length taken < 2 ^ 64
    → IsForwarded taken (Forward number r) → IsRead grammar (Forward number r)
forward_written grammar taken number r takes reported_ few f =
    let inside : f.0 < length taken = slice_get_within taken f.0 r f.2 in
    let is : IsTaken grammar r = all_slice_get (IsTaken grammar) taken f.0 r takes f.2 in
    let can : CanBeWrittenBy grammar r.message = all_slice_get (IsReported grammar) taken f.0 r reported_ f.2 in
    let read : messages.reading_by grammar r.bytes ≡ Ok r.message = ap (messages.reading_by grammar) is.0 ∙ message_is_read r.message can.0 in
    let some : 1 ≤ number = omega (arith, f.1) in
    let below : number < 2 ^ 64 = omega (arith, f.1, inside, few) in
    (forward_is_sent grammar number r read is.1 some below, forward_is_read grammar number r read is.1 some below)

got_written : (grammar : Grammar) (applied number : ℕ) → applied < 2 ^ 64 → 1 ≤ number → number ≤ applied → IsRead grammar (Got number)
got_written grammar applied number few some least =
    let below : number < 2 ^ 64 = omega (arith, few, least) in
    (got_is_sent grammar number some below, got_is_read grammar number some below)

parcels_written : (grammar : Grammar) (packets : List Packet) (xs : List Parcel) (qs : List ℕ) (p : Pair) → AllByRecursion (HasWireBy grammar) packets → Named packets xs qs
    → AllByRecursion (IsTrueOf p) xs → AllByRecursion IsRealParcel xs → Takes grammar p.head → AllByRecursion (IsReported grammar) p.head.taken → p.tail.applied ≤ length p.head.taken
    → AllByRecursion (IsWritten grammar) xs
parcels_written grammar packets [] qs p a n t real takes reported_ few = tt
parcels_written grammar packets (x ∷ xs) [] p a n t real takes reported_ few = absurd n
parcels_written grammar packets (Outside packet ∷ xs) (q ∷ qs) p a n t real takes reported_ few =
    (packet_has grammar packets q packet a n.0, parcels_written grammar packets xs qs p a n.1 t.1 real.1 takes reported_ few)
parcels_written grammar packets (Inside (Forward number r) ∷ xs) (q ∷ qs) p a n t real takes reported_ few =
    (forward_written grammar p.head.taken number r takes.0 reported_ takes.1 t.0, parcels_written grammar packets xs qs p a n t.1 real.1 takes reported_ few)
parcels_written grammar packets (Inside (Got number) ∷ xs) (q ∷ qs) p a n t real takes reported_ few =
    (got_written grammar p.tail.applied number (omega (arith, takes.1, few)) real.0 t.0, parcels_written grammar packets xs qs p a n t.1 real.1 takes reported_ few)

pub all_written : {State : Type 0} (service : Machine State)
    → ((start : World) (trace : List Moment) → Joint service start trace → AllByRecursion (HasWireBy (grammar_of start.profile)) (world_after start trace).packets)
    → (start : TwinWorld) (trace : List TwinMoment) → TwinJoint service start trace → AllByRecursion (IsWritten (grammar_of start.profile)) (twin_after start trace).parcels
all_written service wires start trace j =
    let s : Flattens service start (twin_after start trace) (flat start trace) = flattens service start trace j in
    let g : Good (grammar_of start.profile) (twin_after start trace) = all_good service start trace j in
    let have : AllByRecursion (HasWireBy (grammar_of start.profile)) (flat start trace).packets =
    subst (λ w. AllByRecursion (HasWireBy (grammar_of start.profile)) w.packets) s.world (wires (seen start []) (flat start trace).trace s.joint) in
    parcels_written (grammar_of start.profile) (flat start trace).packets (twin_after start trace).parcels (flat start trace).numbers (twin_after start trace).pair have s.named s.parcels g.real g.takes
    (all_reported (grammar_of start.profile) (flat start trace).packets (flat start trace).origins (twin_after start trace).pair.head.taken have s.taken) (acts (twin_after start trace).pair s.pair).applied
