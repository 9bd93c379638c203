-- A joint trace with two loggers, made flat, is joint: each of its turns happens in the world that the others see.
use Rattle.std.proofs.Common.{◌≡◌, ℕ, zero, suc, ◌+◌, ◌*◌, ◌<◌, ◌≤◌, ◌==◌, ◌&&◌, not, Bool, true, false, refl, sym, ap, ◌∙◌, subst, true≢false, Option, Some, None, List, [], ◌∷◌, ◌++◌, map, length, take, drop, slice_get, append-nil, append_assoc, take-append-drop, le_refl, arith, eqb-true, nat_lt, nat_le, if◌then◌else◌, option_map}
use Rattle.std.specs.List.{AllByRecursion}
use Rattle.std.specs.Option.{option_to_list}
use Rattle.seq_arith.specs.Message.{Message, is_answer}
use Rattle.server_trait.specs.Service.{Machine}
use Rattle.ft_io.proofs.Choices.{holds_if, if_false, if_true}
use Rattle.tcp_rules.specs.Profile.{grammar_of}
use Rattle.ft_model.specs.Log.{empty_log, log_after, answer_to}
use Rattle.ft_model.specs.Network.{Packet, packet_at, destination_of}
use Rattle.ft_model.specs.Network.Packet.{To_server, To_client, To_logger, From_logger}
use Rattle.ft_model.specs.Node.Input.{Packet_comes, Message_comes}
use Rattle.ft_model.specs.World.{World, Happens, Delivered, LogReads, Flipped, Joint, world_after}
use Rattle.ft_model.specs.declared.event.Event.{Event}
use Rattle.ft_model.specs.declared.event.Event.TheVariants.{Boot, Crash, Tick, Deliver, Flip, Begin, Send, Fin, Ack, Reset}
use Rattle.ft_model.specs.declared.event.Event.TheVariants as events
use Rattle.ft_model.proofs.Lists.{all_append, all_slice_get, none_is_some}
use Rattle.twin_laws.specs.Twin.{Request, Between, Comes, Head, Tail, Does, head_does, tail_does, with_taken, head_takes, forwarding, waiting, head_paired, head_alone, tail_alone, tail_applies, nothing, has_room, confirmed_to, sends_waiting, applies_next, confirms_again, from_other_logger, asked, datagram_of, bytes_of}
use Rattle.twin_laws.specs.Twin.Between.{Forward, Got}
use Rattle.twin_laws.specs.Twin.Comes.{Asks, Reports, Is_noise}
use Rattle.twin_laws.specs.Pair.{Pair, head_has, tail_has, stopped_by, log_over}
use Rattle.twin_laws.specs.declared.part.Part.{Part}
use Rattle.twin_laws.specs.declared.part.Part.TheVariants as parts
use Rattle.twin_laws.specs.TwinWorld.{Parcel, TwinWorld, TwinEvent, TwinMoment, TwinJoint, TwinHappens, Elsewhere, HeadHas, TailHas, LoggerHas, ParcelComes, ParcelFlipped, request_of, serving, seen, sent_by, parcel_at, twin_after}
use Rattle.twin_laws.specs.TwinWorld.Parcel.{Outside, Inside}
use Rattle.ft_model.specs.declared.event.Event.TheVariants as events
use Rattle.twin_laws.specs.TwinWorld.TwinEvent.{Usual, Stop}
use Rattle.twin_laws.specs.Flat.{Flat, flat, flat_step, kept_as, kept_alone, left_out, asked_flat, forwarded_flat, delivered_flat, flipped_flat, stopped_flat, delivered_to_log, both, outside, numbers_of, number_at, new_number}
use Rattle.twin_laws.proofs.Folds.{log_append}
use Rattle.twin_laws.proofs.Steps.{PairInvariant, start, pair_of, IsForwarded, IsGotten, asks_head, asks_tail, head_passes, tail_passes, got, forward, stops, still_forwarded, numbered_are, forwards_are}
use Rattle.twin_laws.proofs.Numbering.{Named, named_more, named_append, numbered_anew, named_at, TakenBy, taken_more, taken_append, taken_at, taken_rest, outside_of, none_outside}
use Rattle.twin_laws.proofs.Elsewhere.{with_packets, server_elsewhere, client_elsewhere, happens_elsewhere, flip_elsewhere_server, flip_elsewhere_client, flip_elsewhere_message, NamesNone}
use Rattle.twin_laws.proofs.Noise.{flipped_is_noise, asked_nothing}
use Rattle.seq_arith.specs.TwinGrammar as twins
use Rattle.seq_arith.specs.MessageGrammar as messages
use Rattle.seq_arith.specs.Damage.{flipped}
use Rattle.ft_model.specs.Wire.{CanBeWrittenBy}
use Rattle.ft_model.proofs.Happened.{nothing_read, message_bit_changed}

-- what goes between the loggers is true of them
abbrev pub IsTrueOf : Pair → Parcel → Type 0
IsTrueOf p (Outside packet) = Unit {0}
IsTrueOf p (Inside (Forward k m)) = IsForwarded p.head.taken (Forward k m)
IsTrueOf p (Inside (Got k)) = IsGotten p.tail.applied (Got k)

pub record Flattens {State : Type 0} (service : Machine State) (first w : TwinWorld) (f : Flat) : Type 0 where
  pub joint : Joint service (seen first []) f.trace
  pub world : world_after (seen first []) f.trace ≡ seen w f.packets
  pub pair : PairInvariant w.pair
  pub named : Named f.packets w.parcels f.numbers
  pub taken : TakenBy f.packets f.origins w.pair.head.taken
  pub parcels : AllByRecursion (IsTrueOf w.pair) w.parcels

abbrev pub moment_of : TwinEvent → List Parcel → TwinWorld → TwinMoment
moment_of event sent after = record { event = event; sent = sent; world = after }

-- a turn that stays
stay : {State : Type 0} (service : Machine State) (first before after : TwinWorld) (name : TwinEvent) (event : Event) (sent : List Parcel) (f : Flat)
    → Flattens service first before f → Happens service (seen before f.packets) event (outside sent) (seen after (f.packets ++ outside sent))
    → PairInvariant after.pair → after.parcels ≡ before.parcels ++ sent → after.pair.head.taken ≡ before.pair.head.taken
    → AllByRecursion (IsTrueOf after.pair) (before.parcels ++ sent) → Flattens service first after (kept_as event (moment_of name sent after) f)
stay service first before after name event sent f s h stands parcels taken are = record {
  joint = (s.joint, subst (λ u. Happens service u event (outside sent) (seen after (f.packets ++ outside sent))) (sym s.world) h);
  world = refl;
  pair = stands;
  named = subst (λ ps. Named (f.packets ++ outside sent) ps (f.numbers ++ numbers_of (length f.packets) sent)) (sym parcels)
      (named_append (f.packets ++ outside sent) before.parcels sent f.numbers (numbers_of (length f.packets) sent)
      (named_more f.packets (outside sent) before.parcels f.numbers s.named) (numbered_anew f.packets sent));
  taken = subst (TakenBy (f.packets ++ outside sent) f.origins) (sym taken) (taken_more f.packets (outside sent) f.origins before.pair.head.taken s.taken);
  parcels = subst (AllByRecursion (IsTrueOf after.pair)) (sym parcels) are;
}

abbrev pub with_pair : TwinWorld → Pair → List Parcel → TwinWorld
with_pair before pair sent = record before { pair = pair; parcels = before.parcels ++ sent }

-- a turn that is left out
pub leave : {State : Type 0} (service : Machine State) (first before : TwinWorld) (pair : Pair) (name : TwinEvent) (sent : List Parcel) (f : Flat) (origins : List ℕ)
    → Flattens service first before f → serving pair ≡ serving before.pair → outside sent ≡ [] → PairInvariant pair
    → TakenBy f.packets origins pair.head.taken → AllByRecursion (IsTrueOf pair) (before.parcels ++ sent)
    → Flattens service first (with_pair before pair sent) (record (left_out (moment_of name sent (with_pair before pair sent)) f) { origins = origins })
leave service first before pair name sent f origins s same none stands taken are = record {
  joint = s.joint;
  world = s.world ∙ ap (λ l. record (seen before f.packets) { log = l }) (sym same);
  pair = stands;
  named = named_append f.packets before.parcels sent f.numbers (numbers_of (length f.packets) sent) s.named
      (subst (λ ps. Named ps sent (numbers_of (length f.packets) sent)) (ap (λ ps. f.packets ++ ps) none ∙ append-nil f.packets) (numbered_anew f.packets sent));
  taken = taken;
  parcels = are;
}

old_parcels : (p q : Pair) (xs : List Parcel) → ((b : Between) → IsTrueOf p (Inside b) → IsTrueOf q (Inside b)) → AllByRecursion (IsTrueOf p) xs → AllByRecursion (IsTrueOf q) xs
old_parcels p q [] goes a = tt
old_parcels p q (Outside packet ∷ xs) goes a = (tt, old_parcels p q xs goes a.1)
old_parcels p q (Inside b ∷ xs) goes a = (goes b a.0, old_parcels p q xs goes a.1)

outside_true : (p : Pair) (ps : List Packet) → AllByRecursion (IsTrueOf p) (map Outside ps)
outside_true p [] = tt
outside_true p (x ∷ ps) = (tt, outside_true p ps)

answers_true : (p : Pair) (o : Option Message) (rest : List Parcel) → AllByRecursion (IsTrueOf p) rest → AllByRecursion (IsTrueOf p) (map (λ m. Outside (From_logger m)) (option_to_list o) ++ rest)
answers_true p None rest a = a
answers_true p (Some m) rest a = (tt, a)

forwards_true : (p : Pair) (bs : List Between) → AllByRecursion (IsForwarded p.head.taken) bs → AllByRecursion (IsTrueOf p) (map Inside bs)
forwards_true p [] a = tt
forwards_true p (Forward k m ∷ bs) a = (a.0, forwards_true p bs a.1)
forwards_true p (Got k ∷ bs) a = absurd a.0

-- what goes outside of an answer and of datagrams to the other logger
answer_outside : (o : Option Message) (bs : List Between)
    → outside (map (λ m. Outside (From_logger m)) (option_to_list o) ++ map Inside bs) ≡ option_to_list (option_map From_logger o)
answer_outside None bs = none_outside bs
answer_outside (Some m) bs = ap (λ ps. From_logger m ∷ ps) (none_outside bs)

-- an event that names no packet
pub usual : {State : Type 0} (service : Machine State) (first before after : TwinWorld) (event : Event) (sent : List Parcel) (f : Flat) → NamesNone event
    → Flattens service first before f → Elsewhere (λ w. Happens service w event) before sent after → Flattens service first after (kept_as event (moment_of (Usual event) sent after) f)
usual service first before after event sent f n s e =
    let same : outside sent ≡ e.0 = ap outside e.1 ∙ outside_of e.0 in
    let h : Happens service (seen before f.packets) event e.0 (seen after (f.packets ++ e.0)) = happens_elsewhere service event (seen before []) f.packets e.0 (seen after e.0) n e.2 in
    stay service first before after (Usual event) event sent f s
    (subst (λ ps. Happens service (seen before f.packets) event ps (seen after (f.packets ++ ps))) (sym same) h)
    (subst PairInvariant (sym e.3) s.pair) e.4 (ap (λ p. p.head.taken) e.3)
    (subst (λ p. AllByRecursion (IsTrueOf p) (before.parcels ++ sent)) (sym e.3)
    (all_append (IsTrueOf before.pair) before.parcels sent s.parcels (subst (AllByRecursion (IsTrueOf before.pair)) (sym e.1) (outside_true before.pair e.0))))

-- a packet that comes to the server or to a client
pub comes : {State : Type 0} (service : Machine State) (first before after : TwinWorld) (number : ℕ) (packet : Packet) (sent : List Parcel) (f : Flat)
    → ((w : World) (ps out : List Packet) (u : World) → Delivered service w packet out u → Delivered service (with_packets w ps) packet out (with_packets u (ps ++ out)))
    → parcel_at before.parcels number ≡ Some (Outside packet) → Flattens service first before f → Elsewhere (λ w. Delivered service w packet) before sent after
    → Flattens service first after (kept_as (Deliver (new_number f number)) (moment_of (Usual (Deliver number)) sent after) f)
comes service first before after number packet sent f moves at s e =
    let same : outside sent ≡ e.0 = ap outside e.1 ∙ outside_of e.0 in
    let d : Delivered service (seen before f.packets) packet e.0 (seen after (f.packets ++ e.0)) = moves (seen before []) f.packets e.0 (seen after e.0) e.2 in
    stay service first before after (Usual (Deliver number)) (Deliver (new_number f number)) sent f s (
      packet,
      named_at f.packets before.parcels f.numbers number packet s.named at,
      subst (λ ps. Delivered service (seen before f.packets) packet ps (seen after (f.packets ++ ps))) (sym same) d,
    )
    (subst PairInvariant (sym e.3) s.pair) e.4 (ap (λ p. p.head.taken) e.3)
    (subst (λ p. AllByRecursion (IsTrueOf p) (before.parcels ++ sent)) (sym e.3)
    (all_append (IsTrueOf before.pair) before.parcels sent s.parcels (subst (AllByRecursion (IsTrueOf before.pair)) (sym e.1) (outside_true before.pair e.0))))

-- a logger's turn by which the serving log takes a message
pub serves : {State : Type 0} (service : Machine State) (first before : TwinWorld) (pair : Pair) (name : TwinEvent) (q : ℕ) (r : Request) (sent : List Parcel) (f : Flat)
    → Flattens service first before f → packet_at f.packets q ≡ Some (To_logger r.message) → serving pair ≡ log_after (serving before.pair) r.message
    → outside sent ≡ option_to_list (option_map From_logger (answer_to (serving before.pair) r.message)) → PairInvariant pair → pair.head.taken ≡ before.pair.head.taken
    → AllByRecursion (IsTrueOf pair) (before.parcels ++ sent)
    → Flattens service first (with_pair before pair sent) (kept_as (Deliver q) (moment_of name sent (with_pair before pair sent)) f)
serves service first before pair name q r sent f s at log answer stands taken are =
    stay service first before (with_pair before pair sent) name (Deliver q) sent f s
    (To_logger r.message, at, (answer, ap (λ l. record (seen before (f.packets ++ outside sent)) { log = l }) log)) stands refl taken are

-- what is true stays true where the head has taken the same, and the tail has applied as much
true_with : (p q : Pair) (b : Between) → q.head.taken ≡ p.head.taken → q.tail.applied ≡ p.tail.applied → IsTrueOf p (Inside b) → IsTrueOf q (Inside b)
true_with p q (Forward k r) taken applied t = subst (λ ms. IsForwarded ms (Forward k r)) (sym taken) t
true_with p q (Got k) taken applied t = omega (arith, t, applied)

-- a logger that is alone takes a message of the server
pub tail_serves : {State : Type 0} (service : Machine State) (first before : TwinWorld) (head : Head) (tail : Tail) (fh ft : List Between) (answers : List Message) (given : List Request)
    → let p : Pair = pair_of true false head tail fh ft answers given in let w : TwinWorld = record before { pair = p } in
    (name : TwinEvent) (q : ℕ) (r : Request) (f : Flat) → Flattens service first w f → packet_at f.packets q ≡ Some (To_logger r.message)
    → let sent : List Parcel = sent_by (tail_does (Asks r) tail) in
    Flattens service first (with_pair w (tail_has (Asks r) p) sent) (kept_as (Deliver q) (moment_of name sent (with_pair w (tail_has (Asks r) p) sent)) f)
tail_serves service first before head tail fh ft answers given name q r f s at =
    let p : Pair = pair_of true false head tail fh ft answers given in
    let w : TwinWorld = record before { pair = p } in
    let does : tail_does (Asks r) tail ≡ tail_alone r tail = if_true tail.alone (tail_alone r tail) (nothing tail) s.pair.tail_alone in
    let sent : List Parcel = sent_by (tail_does (Asks r) tail) in
    let is_sent : sent ≡ sent_by (tail_alone r tail) = ap sent_by does in
    let same : (b : Between) → IsTrueOf p (Inside b) → IsTrueOf (tail_has (Asks r) p) (Inside b) = λ b t. true_with p (tail_has (Asks r) p) b refl (ap (λ d. d.next.applied) does) t in
    serves service first w (tail_has (Asks r) p) name q r sent f s at (ap (λ d. d.next.log) does)
    (ap outside is_sent ∙ answer_outside (answer_to tail.log r.message) [])
    (asks_tail true false head tail fh ft answers given r s.pair) refl
    (all_append (IsTrueOf (tail_has (Asks r) p)) before.parcels sent (old_parcels p (tail_has (Asks r) p) before.parcels same s.parcels)
    (subst (AllByRecursion (IsTrueOf (tail_has (Asks r) p))) (sym is_sent) (answers_true (tail_has (Asks r) p) (answer_to tail.log r.message) [] tt)))

pub head_serves : {State : Type 0} (service : Machine State) (first before : TwinWorld) (head : Head) (tail : Tail) (fh ft : List Between) (answers : List Message) (given : List Request)
    → let p : Pair = pair_of false true head tail fh ft answers given in let w : TwinWorld = record before { pair = p } in
    (name : TwinEvent) (q : ℕ) (r : Request) (f : Flat) → Flattens service first w f → packet_at f.packets q ≡ Some (To_logger r.message)
    → let sent : List Parcel = sent_by (head_does (Asks r) head) in
    Flattens service first (with_pair w (head_has (Asks r) p) sent) (kept_as (Deliver q) (moment_of name sent (with_pair w (head_has (Asks r) p) sent)) f)
head_serves service first before head tail fh ft answers given name q r f s at =
    let p : Pair = pair_of false true head tail fh ft answers given in
    let w : TwinWorld = record before { pair = p } in
    let does : head_does (Asks r) head ≡ head_alone r head = if_true head.alone (head_alone r head) (head_paired r head) s.pair.head_alone in
    let sent : List Parcel = sent_by (head_does (Asks r) head) in
    let is_sent : sent ≡ sent_by (head_alone r head) = ap sent_by does in
    let took : (head_does (Asks r) head).next.taken ≡ head.taken = ap (λ d. d.next.taken) does in
    let same : (b : Between) → IsTrueOf p (Inside b) → IsTrueOf (head_has (Asks r) p) (Inside b) = λ b t. true_with p (head_has (Asks r) p) b took refl t in
    serves service first w (head_has (Asks r) p) name q r sent f s at (ap (λ d. d.next.log) does)
    (ap outside is_sent ∙ answer_outside (answer_to head.log r.message) [])
    (asks_head false true head tail fh ft answers given r s.pair) took
    (all_append (IsTrueOf (head_has (Asks r) p)) before.parcels sent (old_parcels p (head_has (Asks r) p) before.parcels same s.parcels)
    (subst (AllByRecursion (IsTrueOf (head_has (Asks r) p))) (sym is_sent) (answers_true (head_has (Asks r) p) (answer_to head.log r.message) [] tt)))

-- the head of a pair is given a message of the server: it may take it, and the others see nothing
paired_asked : {State : Type 0} (service : Machine State) (first before : TwinWorld) (head : Head) (tail : Tail) (fh ft : List Between) (answers : List Message) (given : List Request)
    → let p : Pair = pair_of false false head tail fh ft answers given in let w : TwinWorld = record before { pair = p } in
    (name : TwinEvent) (q : ℕ) (r : Request) (f : Flat) (alone answer room : Bool)
    → alone ≡ false → Flattens service first w f → packet_at f.packets q ≡ Some (To_logger r.message)
    → let d : Does Head = if alone then head_alone r head
    else (if answer then nothing head else (if room then head_takes r head else sends_waiting head)) in
    let now : Pair = record p { head = d.next; from_head = fh ++ d.to_other; answers = answers ++ d.to_server } in
    PairInvariant now
    → let g : Flat = left_out (moment_of name (sent_by d) (with_pair w now (sent_by d))) f in
    Flattens service first (with_pair w now (sent_by d)) (if not answer && room then record g { origins = f.origins ++ q ∷ [] } else g)
paired_asked service first before head tail fh ft answers given name q r f true answer room al s at stands = absurd (true≢false al)
paired_asked service first before head tail fh ft answers given name q r f false true room al s at stands =
    let p : Pair = pair_of false false head tail fh ft answers given in
    leave service first (record before { pair = p }) (record p { from_head = fh ++ []; answers = answers ++ [] }) name [] f f.origins s refl refl stands s.taken
    (subst (AllByRecursion (IsTrueOf p)) (sym (append-nil before.parcels)) s.parcels)
paired_asked service first before head tail fh ft answers given name q r f false false true al s at stands =
    let p : Pair = pair_of false false head tail fh ft answers given in
    let h : Head = with_taken r head in
    let now : Pair = record p { head = h; from_head = fh ++ forwarding r head; answers = answers ++ [] } in
    leave service first (record before { pair = p }) now name (map Inside (forwarding r head)) f (f.origins ++ q ∷ []) s refl (none_outside (forwarding r head)) stands
    (taken_append f.packets f.origins (q ∷ []) head.taken (r ∷ []) s.taken (at, tt))
    (all_append (IsTrueOf now) before.parcels (map Inside (forwarding r head)) (old_parcels p now before.parcels (λ b t. more_true p now r b refl refl t) s.parcels)
    (forwards_true now (forwarding r head) (forwards_are r head)))
  where
    more_true : (p q : Pair) (r : Request) (b : Between) → q.head.taken ≡ p.head.taken ++ r ∷ [] → q.tail.applied ≡ p.tail.applied → IsTrueOf p (Inside b) → IsTrueOf q (Inside b)
    more_true p q r (Forward k x) taken applied t = subst (λ ms. IsForwarded ms (Forward k x)) (sym taken) (still_forwarded p.head.taken r (Forward k x) t)
    more_true p q r (Got k) taken applied t = omega (arith, t, applied)
paired_asked service first before head tail fh ft answers given name q r f false false false al s at stands =
    let p : Pair = pair_of false false head tail fh ft answers given in
    let now : Pair = record p { from_head = fh ++ waiting head; answers = answers ++ [] } in
    leave service first (record before { pair = p }) now name (map Inside (waiting head)) f f.origins s refl (none_outside (waiting head)) stands s.taken
    (all_append (IsTrueOf now) before.parcels (map Inside (waiting head)) (old_parcels p now before.parcels (λ b t. true_with p now b refl refl t) s.parcels)
    (forwards_true now (waiting head) (numbered_are head.taken (drop head.confirmed head.taken) head.confirmed refl)))

-- a message of the server comes to a logger
asks : {State : Type 0} (service : Machine State) (first before : TwinWorld) (hs ts : Bool) (head : Head) (tail : Tail) (fh ft : List Between) (answers : List Message) (given : List Request)
    → let p : Pair = pair_of hs ts head tail fh ft answers given in let w : TwinWorld = record before { pair = p } in
    (n : ℕ) (r : Request) (sent : List Parcel) (after : TwinWorld) (f : Flat) → Flattens service first w f → packet_at f.packets (new_number f n) ≡ Some (To_logger r.message)
    → LoggerHas hs (Asks r) w sent after → Flattens service first after (asked_flat w n r.message (moment_of (Usual (Deliver n)) sent after) f)
asks service first before true true head tail fh ft answers given n r sent after f s at h = absurd (true≢false s.pair.one)
asks service first before true false head tail fh ft answers given n r sent after f s at h =
    let p : Pair = pair_of true false head tail fh ft answers given in
    let w : TwinWorld = record before { pair = p } in
    subst (λ a. Flattens service first a (kept_as (Deliver (new_number f n)) (moment_of (Usual (Deliver n)) sent a) f)) (sym h.1)
    (subst (λ x. Flattens service first (with_pair w (tail_has (Asks r) p) x) (kept_as (Deliver (new_number f n)) (moment_of (Usual (Deliver n)) x (with_pair w (tail_has (Asks r) p) x)) f)) (sym h.0)
    (tail_serves service first before head tail fh ft answers given (Usual (Deliver n)) (new_number f n) r f s at))
asks service first before false true head tail fh ft answers given n r sent after f s at h =
    let p : Pair = pair_of false true head tail fh ft answers given in
    let w : TwinWorld = record before { pair = p } in
    subst (λ a. Flattens service first a (kept_as (Deliver (new_number f n)) (moment_of (Usual (Deliver n)) sent a) f)) (sym h.1)
    (subst (λ x. Flattens service first (with_pair w (head_has (Asks r) p) x) (kept_as (Deliver (new_number f n)) (moment_of (Usual (Deliver n)) x (with_pair w (head_has (Asks r) p) x)) f)) (sym h.0)
    (head_serves service first before head tail fh ft answers given (Usual (Deliver n)) (new_number f n) r f s at))
asks service first before false false head tail fh ft answers given n r sent after f s at h =
    let p : Pair = pair_of false false head tail fh ft answers given in
    let w : TwinWorld = record before { pair = p } in
    subst (λ a. Flattens service first a (asked_flat w n r.message (moment_of (Usual (Deliver n)) sent a) f)) (sym h.1)
    (subst (λ x. Flattens service first (with_pair w (head_has (Asks r) p) x) (asked_flat w n r.message (moment_of (Usual (Deliver n)) x (with_pair w (head_has (Asks r) p) x)) f)) (sym h.0)
    (paired_asked service first before head tail fh ft answers given (Usual (Deliver n)) (new_number f n) r f head.alone (is_answer r.message.body) (has_room head) s.pair.head_alone s at
    (asks_head false false head tail fh ft answers given r s.pair)))

-- nothing but the histories of a pair changes
unmoved : {State : Type 0} (service : Machine State) (first w : TwinWorld) (now : Pair) (name : TwinEvent) (f : Flat) → Flattens service first w f
    → serving now ≡ serving w.pair → now.head.taken ≡ w.pair.head.taken → now.tail.applied ≡ w.pair.tail.applied → PairInvariant now
    → Flattens service first (with_pair w now []) (left_out (moment_of name [] (with_pair w now [])) f)
unmoved service first w now name f s same taken applied stands =
    leave service first w now name [] f f.origins s same refl stands (subst (TakenBy f.packets f.origins) (sym taken) s.taken)
    (subst (AllByRecursion (IsTrueOf now)) (sym (append-nil w.parcels)) (old_parcels w.pair now w.parcels (λ b t. true_with w.pair now b taken applied t) s.parcels))

-- a Got comes to the head
gots : {State : Type 0} (service : Machine State) (first before : TwinWorld) (hs ts : Bool) (head : Head) (tail : Tail) (fh ft : List Between) (answers : List Message) (given : List Request)
    → let p : Pair = pair_of hs ts head tail fh ft answers given in let w : TwinWorld = record before { pair = p } in
    (name : TwinEvent) (k : ℕ) (f : Flat) → k ≤ tail.applied → Flattens service first w f
    → let sent : List Parcel = if hs then [] else sent_by (head_does (Reports (Got k)) head) in
    Flattens service first (with_pair w (head_has (Reports (Got k)) p) sent) (left_out (moment_of name sent (with_pair w (head_has (Reports (Got k)) p) sent)) f)
gots service first before true ts head tail fh ft answers given name k f few s =
    let p : Pair = pair_of true ts head tail fh ft answers given in
    unmoved service first (record before { pair = p }) p name f s refl refl refl s.pair
gots service first before false true head tail fh ft answers given name k f few s =
    let p : Pair = pair_of false true head tail fh ft answers given in
    let w : TwinWorld = record before { pair = p } in
    let does : head_does (Reports (Got k)) head ≡ nothing head = if_true head.alone (nothing head) (nothing (confirmed_to k head)) s.pair.head_alone in
    subst (λ x. Flattens service first (with_pair w (head_has (Reports (Got k)) p) x) (left_out (moment_of name x (with_pair w (head_has (Reports (Got k)) p) x)) f)) (sym (ap sent_by does))
    (unmoved service first w (head_has (Reports (Got k)) p) name f s (ap (λ d. d.next.log) does) (ap (λ d. d.next.taken) does) refl (got false true head tail fh ft answers given k few s.pair))
gots service first before false false head tail fh ft answers given name k f few s =
    let p : Pair = pair_of false false head tail fh ft answers given in
    let w : TwinWorld = record before { pair = p } in
    let does : head_does (Reports (Got k)) head ≡ nothing (confirmed_to k head) = if_false head.alone (nothing head) (nothing (confirmed_to k head)) s.pair.head_alone in
    let taken : (confirmed_to k head).taken ≡ head.taken = holds_if (λ h. h.taken ≡ head.taken) (nat_lt head.confirmed k && nat_le k (length head.taken)) (record head { confirmed = k }) head (λ r. refl) (λ r. refl) in
    subst (λ x. Flattens service first (with_pair w (head_has (Reports (Got k)) p) x) (left_out (moment_of name x (with_pair w (head_has (Reports (Got k)) p) x)) f)) (sym (ap sent_by does))
    (unmoved service first w (head_has (Reports (Got k)) p) name f s refl (ap (λ d. d.next.taken) does ∙ taken) refl (got false false head tail fh ft answers given k few s.pair))

-- a Forward comes to the tail of a pair
paired_forward : {State : Type 0} (service : Machine State) (first before : TwinWorld) (head : Head) (tail : Tail) (fh ft : List Between) (answers : List Message) (given : List Request)
    → let p : Pair = pair_of false false head tail fh ft answers given in let w : TwinWorld = record before { pair = p } in
    (name : TwinEvent) (k : ℕ) (r : Request) (f : Flat) (alone next had : Bool) → alone ≡ false → k == tail.applied + 1 ≡ next → IsForwarded head.taken (Forward k r) → Flattens service first w f
    → let d : Does Tail = if alone then nothing tail
    else (if next then applies_next r tail
    else (if had then confirms_again tail else nothing tail)) in
    let now : Pair = record p { tail = d.next; from_tail = ft ++ d.to_other; answers = answers ++ d.to_server } in
    PairInvariant now
    → let moment : TwinMoment = moment_of name (sent_by d) (with_pair w now (sent_by d)) in
    Flattens service first (with_pair w now (sent_by d))
    (if next then kept_as (Deliver (number_at f.origins tail.applied)) moment f else left_out moment f)
paired_forward service first before head tail fh ft answers given name k r f true next had al e t s stands = absurd (true≢false al)
paired_forward service first before head tail fh ft answers given name k r f false true had al e t s stands =
    let p : Pair = pair_of false false head tail fh ft answers given in
    let w : TwinWorld = record before { pair = p } in
    let now : Pair = record p {
      tail = record tail { log = log_after tail.log r.message; applied = tail.applied + 1 };
      from_tail = ft ++ Got (tail.applied + 1) ∷ [];
      answers = answers ++ option_to_list (answer_to tail.log r.message);
    } in
    let number : k ≡ tail.applied + 1 = eqb-true k (tail.applied + 1) e in
    let same : t.0 ≡ tail.applied = omega (arith, t.1, number) in
    let there : slice_get head.taken tail.applied ≡ Some r = subst (λ i. slice_get head.taken i ≡ Some r) same t.2 in
    let sent : List Parcel = map (λ x. Outside (From_logger x)) (option_to_list (answer_to tail.log r.message)) ++ Inside (Got (tail.applied + 1)) ∷ [] in
    serves service first w now name (number_at f.origins tail.applied) r sent f s
    (taken_at f.packets f.origins head.taken tail.applied r s.taken there) refl (answer_outside (answer_to tail.log r.message) (Got (tail.applied + 1) ∷ [])) stands refl
    (all_append (IsTrueOf now) before.parcels sent (old_parcels p now before.parcels (λ b u. later_true p now b refl refl u) s.parcels)
    (answers_true now (answer_to tail.log r.message) (Inside (Got (tail.applied + 1)) ∷ []) (le_refl (tail.applied + 1), tt)))
  where
    later_true : (p q : Pair) (b : Between) → q.head.taken ≡ p.head.taken → q.tail.applied ≡ p.tail.applied + 1 → IsTrueOf p (Inside b) → IsTrueOf q (Inside b)
    later_true p q (Forward k r) taken applied t = subst (λ ms. IsForwarded ms (Forward k r)) (sym taken) t
    later_true p q (Got k) taken applied t = omega (arith, t, applied)
paired_forward service first before head tail fh ft answers given name k r f false false true al e t s stands =
    let p : Pair = pair_of false false head tail fh ft answers given in
    let now : Pair = record p { from_tail = ft ++ Got tail.applied ∷ []; answers = answers ++ [] } in
    leave service first (record before { pair = p }) now name (Inside (Got tail.applied) ∷ []) f f.origins s refl refl stands s.taken
    (all_append (IsTrueOf now) before.parcels (Inside (Got tail.applied) ∷ []) (old_parcels p now before.parcels (λ b u. true_with p now b refl refl u) s.parcels) (le_refl tail.applied, tt))
paired_forward service first before head tail fh ft answers given name k r f false false false al e t s stands =
    let p : Pair = pair_of false false head tail fh ft answers given in
    unmoved service first (record before { pair = p }) (record p { from_tail = ft ++ []; answers = answers ++ [] }) name f s refl refl refl stands

forwards : {State : Type 0} (service : Machine State) (first before : TwinWorld) (hs ts : Bool) (head : Head) (tail : Tail) (fh ft : List Between) (answers : List Message) (given : List Request)
    → let p : Pair = pair_of hs ts head tail fh ft answers given in let w : TwinWorld = record before { pair = p } in
    (name : TwinEvent) (k : ℕ) (r : Request) (f : Flat) → IsForwarded head.taken (Forward k r) → Flattens service first w f
    → let sent : List Parcel = if ts then [] else sent_by (tail_does (Reports (Forward k r)) tail) in
    Flattens service first (with_pair w (tail_has (Reports (Forward k r)) p) sent) (forwarded_flat w k (moment_of name sent (with_pair w (tail_has (Reports (Forward k r)) p) sent)) f)
forwards service first before true true head tail fh ft answers given name k r f t s = absurd (true≢false s.pair.one)
forwards service first before false true head tail fh ft answers given name k r f t s =
    let p : Pair = pair_of false true head tail fh ft answers given in
    unmoved service first (record before { pair = p }) p name f s refl refl refl s.pair
forwards service first before true false head tail fh ft answers given name k r f t s =
    let p : Pair = pair_of true false head tail fh ft answers given in
    let w : TwinWorld = record before { pair = p } in
    let does : tail_does (Reports (Forward k r)) tail ≡ nothing tail = if_true tail.alone (nothing tail) (tail_applies k r tail) s.pair.tail_alone in
    subst (λ x. Flattens service first (with_pair w (tail_has (Reports (Forward k r)) p) x) (left_out (moment_of name x (with_pair w (tail_has (Reports (Forward k r)) p) x)) f)) (sym (ap sent_by does))
    (unmoved service first w (tail_has (Reports (Forward k r)) p) name f s (ap (λ d. d.next.log) does) refl (ap (λ d. d.next.applied) does) (forward true false head tail fh ft answers given k r t s.pair))
forwards service first before false false head tail fh ft answers given name k r f t s =
    paired_forward service first before head tail fh ft answers given name k r f tail.alone (k == tail.applied + 1) (nat_le k tail.applied) s.pair.tail_alone refl t s
    (forward false false head tail fh ft answers given k r t s.pair)

-- the log is given what the tail hadn't applied
pub record Given {State : Type 0} (service : Machine State) (start u : World) (rs : List Request) (f g : Flat) : Type 0 where
  pub joint : Joint service start g.trace
  pub world : world_after start g.trace ≡ record u { log = log_over u.log rs; packets = g.packets }
  pub more : List Packet
  pub packets : g.packets ≡ f.packets ++ more
  pub numbers : g.numbers ≡ f.numbers
  pub origins : g.origins ≡ f.origins

log_given : {State : Type 0} (service : Machine State) (start u : World) (qs : List ℕ) (rs : List Request) (f : Flat) → Joint service start f.trace
    → world_after start f.trace ≡ u → u.packets ≡ f.packets → TakenBy f.packets qs rs → Given service start u rs f (delivered_to_log u (both qs rs) f)
log_given service first u [] [] f j w p t = record {
  joint = j;
  world = w ∙ ap (λ ps. record u { packets = ps }) p;
  more = [];
  packets = sym (append-nil f.packets);
  numbers = refl;
  origins = refl;
}
log_given service first u [] (r ∷ rs) f j w p t = absurd t
log_given service first u (q ∷ qs) [] f j w p t = absurd t
log_given service first u (q ∷ qs) (r ∷ rs) f j w p t =
    let answer : List Packet = option_to_list (option_map From_logger (answer_to u.log r.message)) in
    let after : World = record u { log = log_after u.log r.message; packets = u.packets ++ answer } in
    let next : Flat = record f { trace = record { event = Deliver q; sent = answer; world = after } ∷ f.trace; packets = f.packets ++ answer } in
    let at : packet_at u.packets q ≡ Some (To_logger r.message) = ap (λ ps. packet_at ps q) p ∙ t.0 in
    let h : Happens service u (Deliver q) answer after = (To_logger r.message, at, (refl, refl)) in
    let rest : Given service first after rs next (delivered_to_log after (both qs rs) next) =
    log_given service first after qs rs next (j, subst (λ x. Happens service x (Deliver q) answer after) (sym w) h) refl (ap (λ ps. ps ++ answer) p) (taken_more f.packets answer qs rs t.1) in
    record {
      joint = rest.joint;
      world = rest.world;
      more = answer ++ rest.more;
      packets = rest.packets ∙ append_assoc f.packets answer rest.more;
      numbers = rest.numbers;
      origins = rest.origins;
    }

stops_flat : {State : Type 0} (service : Machine State) (first before : TwinWorld) (hs ts : Bool) (head : Head) (tail : Tail) (fh ft : List Between) (answers : List Message) (given : List Request)
    → let p : Pair = pair_of hs ts head tail fh ft answers given in let w : TwinWorld = record before { pair = p } in
    (part : Part) (f : Flat) → hs ≡ false → ts ≡ false → Flattens service first w f
    → Flattens service first (with_pair w (stopped_by part p) []) (stopped_flat w part (moment_of (Stop part) [] (with_pair w (stopped_by part p) [])) f)
stops_flat service first before true ts head tail fh ft answers given part f h t s = absurd (true≢false h)
stops_flat service first before false true head tail fh ft answers given part f h t s = absurd (true≢false t)
stops_flat service first before false false head tail fh ft answers given parts.Head f h t s =
    let p : Pair = pair_of false false head tail fh ft answers given in
    unmoved service first (record before { pair = p }) (stopped_by parts.Head p) (Stop parts.Head) f s refl refl refl (stops false false head tail fh ft answers given parts.Head s.pair)
stops_flat service first before false false head tail fh ft answers given parts.Tail f h t s =
    let p : Pair = pair_of false false head tail fh ft answers given in
    let w : TwinWorld = record before { pair = p } in
    let now : Pair = stopped_by parts.Tail p in
    let n : ℕ = tail.applied in
    let g : Flat = delivered_to_log (seen w f.packets) (both (drop n f.origins) (drop n head.taken)) f in
    let r : Given service (seen first []) (seen w f.packets) (drop n head.taken) f g =
    log_given service (seen first []) (seen w f.packets) (drop n f.origins) (drop n head.taken) f s.joint s.world refl (taken_rest f.packets n f.origins head.taken s.taken) in
    let tail_is : tail.log ≡ log_over empty_log (take n head.taken) = s.pair.holds.tail_is ∙ ap (log_over empty_log) (append-nil (take n head.taken)) in
    let head_is : head.log ≡ log_over empty_log head.taken = s.pair.holds.head_is ∙ ap (log_over empty_log) (append-nil head.taken) in
    let caught_up : log_over tail.log (drop n head.taken) ≡ head.log =
    ap (λ l. log_over l (drop n head.taken)) tail_is
    ∙ (sym (log_append empty_log (take n head.taken) (drop n head.taken)) ∙ (ap (log_over empty_log) (take-append-drop n head.taken) ∙ sym head_is)) in
    record {
      joint = r.joint;
      world = r.world ∙ ap (λ l. record (seen w g.packets) { log = l }) caught_up;
      pair = stops false false head tail fh ft answers given parts.Tail s.pair;
      named = subst (λ qs. Named g.packets (before.parcels ++ []) qs) (sym r.numbers)
          (subst (λ ps. Named ps (before.parcels ++ []) f.numbers) (sym r.packets)
          (named_more f.packets r.more (before.parcels ++ []) f.numbers (subst (λ xs. Named f.packets xs f.numbers) (sym (append-nil before.parcels)) s.named)));
      taken = subst (λ qs. TakenBy g.packets qs head.taken) (sym r.origins) (subst (λ ps. TakenBy ps f.origins head.taken) (sym r.packets) (taken_more f.packets r.more f.origins head.taken s.taken));
      parcels = subst (AllByRecursion (IsTrueOf now)) (sym (append-nil before.parcels)) (old_parcels p now before.parcels (λ b u. true_with p now b refl refl u) s.parcels);
    }

-- one delivery
parcel_flat : {State : Type 0} (service : Machine State) (first before after : TwinWorld) (n : ℕ) (x : Parcel) (sent : List Parcel) (f : Flat)
    → parcel_at before.parcels n ≡ Some x → Flattens service first before f → IsTrueOf before.pair x → ParcelComes service x before sent after
    → Flattens service first after (delivered_flat before n (Some x) (moment_of (Usual (Deliver n)) sent after) f)
parcel_flat service first before after n (Outside (To_logger m)) sent f at s t h =
    asks service first before before.pair.head_stopped before.pair.tail_stopped before.pair.head before.pair.tail before.pair.from_head before.pair.from_tail before.pair.answers before.pair.given
    n (request_of (grammar_of before.profile) m) sent after f s (named_at f.packets before.parcels f.numbers n (To_logger m) s.named at) h
parcel_flat service first before after n (Outside (To_server segment)) sent f at s t h =
    comes service first before after n (To_server segment) sent f (λ w ps out u d. server_elsewhere service (Packet_comes segment) w ps out u d) at s h
parcel_flat service first before after n (Outside (To_client segment)) sent f at s t h =
    comes service first before after n (To_client segment) sent f (λ w ps out u d. client_elsewhere (destination_of segment) segment w ps out u d) at s h
parcel_flat service first before after n (Outside (From_logger m)) sent f at s t h =
    comes service first before after n (From_logger m) sent f (λ w ps out u d. server_elsewhere service (Message_comes m) w ps out u d) at s h
parcel_flat service first before after n (Inside (Forward k m)) sent f at s t h =
    subst (λ a. Flattens service first a (forwarded_flat before k (moment_of (Usual (Deliver n)) sent a) f)) (sym h.1)
    (subst (λ x. Flattens service first (with_pair before (tail_has (Reports (Forward k m)) before.pair) x) (forwarded_flat before k (moment_of (Usual (Deliver n)) x (with_pair before (tail_has (Reports (Forward k m)) before.pair) x)) f)) (sym h.0)
    (forwards service first before before.pair.head_stopped before.pair.tail_stopped before.pair.head before.pair.tail before.pair.from_head before.pair.from_tail before.pair.answers before.pair.given
    (Usual (Deliver n)) k m f t s))
parcel_flat service first before after n (Inside (Got k)) sent f at s t h =
    subst (λ a. Flattens service first a (left_out (moment_of (Usual (Deliver n)) sent a) f)) (sym h.1)
    (subst (λ x. Flattens service first (with_pair before (head_has (Reports (Got k)) before.pair) x) (left_out (moment_of (Usual (Deliver n)) x (with_pair before (head_has (Reports (Got k)) before.pair) x)) f)) (sym h.0)
    (gots service first before before.pair.head_stopped before.pair.tail_stopped before.pair.head before.pair.tail before.pair.from_head before.pair.from_tail before.pair.answers before.pair.given
    (Usual (Deliver n)) k f t s))

-- a packet to the server or a client with a changed bit
flips : {State : Type 0} (service : Machine State) (first before after : TwinWorld) (number bit : ℕ) (packet : Packet) (sent : List Parcel) (f : Flat)
    → ((w : World) (ps out : List Packet) (u : World) → Flipped service w packet bit out u → Flipped service (with_packets w ps) packet bit out (with_packets u (ps ++ out)))
    → parcel_at before.parcels number ≡ Some (Outside packet) → Flattens service first before f → Elsewhere (λ w ps u. Flipped service w packet bit ps u) before sent after
    → Flattens service first after (kept_as (Flip (new_number f number) bit) (moment_of (Usual (Flip number bit)) sent after) f)
flips service first before after number bit packet sent f moves at s e =
    let same : outside sent ≡ e.0 = ap outside e.1 ∙ outside_of e.0 in
    let d : Flipped service (seen before f.packets) packet bit e.0 (seen after (f.packets ++ e.0)) = moves (seen before []) f.packets e.0 (seen after e.0) e.2 in
    stay service first before after (Usual (Flip number bit)) (Flip (new_number f number) bit) sent f s (
      packet,
      named_at f.packets before.parcels f.numbers number packet s.named at,
      subst (λ ps. Flipped service (seen before f.packets) packet bit ps (seen after (f.packets ++ ps))) (sym same) d,
    )
    (subst PairInvariant (sym e.3) s.pair) e.4 (ap (λ p. p.head.taken) e.3)
    (subst (λ p. AllByRecursion (IsTrueOf p) (before.parcels ++ sent)) (sym e.3)
    (all_append (IsTrueOf before.pair) before.parcels sent s.parcels (subst (AllByRecursion (IsTrueOf before.pair)) (sym e.1) (outside_true before.pair e.0))))

-- noise at a logger: nothing goes out, and only histories change
noise_sent : {X : Type 0} (b : Bool) (x : X) → (if b then [] else sent_by (nothing x)) ≡ []
noise_sent true x = refl
noise_sent false x = refl

noise_head : (hs ts : Bool) (head : Head) (tail : Tail) (fh ft : List Between) (answers : List Message) (given : List Request)
    → let p : Pair = pair_of hs ts head tail fh ft answers given in
    (serving (head_has Is_noise p) ≡ serving p) × ((head_has Is_noise p).head.taken ≡ head.taken) × ((head_has Is_noise p).tail.applied ≡ tail.applied)
noise_head true true head tail fh ft answers given = (refl, refl, refl)
noise_head true false head tail fh ft answers given = (refl, refl, refl)
noise_head false true head tail fh ft answers given = (refl, refl, refl)
noise_head false false head tail fh ft answers given = (refl, refl, refl)

noise_tail : (hs ts : Bool) (head : Head) (tail : Tail) (fh ft : List Between) (answers : List Message) (given : List Request)
    → let p : Pair = pair_of hs ts head tail fh ft answers given in
    (serving (tail_has Is_noise p) ≡ serving p) × ((tail_has Is_noise p).head.taken ≡ head.taken) × ((tail_has Is_noise p).tail.applied ≡ tail.applied)
noise_tail true true head tail fh ft answers given = (refl, refl, refl)
noise_tail true false head tail fh ft answers given = (refl, refl, refl)
noise_tail false true head tail fh ft answers given = (refl, refl, refl)
noise_tail false false head tail fh ft answers given = (refl, refl, refl)

head_noise_left : {State : Type 0} (service : Machine State) (first w : TwinWorld) (name : TwinEvent) (f : Flat) → Flattens service first w f
    → Flattens service first (with_pair w (head_has Is_noise w.pair) []) (left_out (moment_of name [] (with_pair w (head_has Is_noise w.pair) [])) f)
head_noise_left service first w name f s =
    let p = w.pair in
    let n = noise_head p.head_stopped p.tail_stopped p.head p.tail p.from_head p.from_tail p.answers p.given in
    unmoved service first w (head_has Is_noise p) name f s n.0 n.1 n.2 (head_passes p.head_stopped p.tail_stopped p.head p.tail p.from_head p.from_tail p.answers p.given s.pair)

tail_noise_left : {State : Type 0} (service : Machine State) (first w : TwinWorld) (name : TwinEvent) (f : Flat) → Flattens service first w f
    → Flattens service first (with_pair w (tail_has Is_noise w.pair) []) (left_out (moment_of name [] (with_pair w (tail_has Is_noise w.pair) [])) f)
tail_noise_left service first w name f s =
    let p = w.pair in
    let n = noise_tail p.head_stopped p.tail_stopped p.head p.tail p.from_head p.from_tail p.answers p.given in
    unmoved service first w (tail_has Is_noise p) name f s n.0 n.1 n.2 (tail_passes p.head_stopped p.tail_stopped p.head p.tail p.from_head p.from_tail p.answers p.given s.pair)

-- .. and a flip of a message to a logger that is alone stays, as noise
noise_stays : {State : Type 0} (service : Machine State) (first w : TwinWorld) (now : Pair) (name : TwinEvent) (q bit : ℕ) (m : Message) (f : Flat) → Flattens service first w f
    → packet_at f.packets q ≡ Some (To_logger m) → CanBeWrittenBy (grammar_of w.profile) m → bit < 8 * length (messages.spelling_by (grammar_of w.profile) m) → serving now ≡ serving w.pair → now.head.taken ≡ w.pair.head.taken → now.tail.applied ≡ w.pair.tail.applied → PairInvariant now
    → Flattens service first (with_pair w now []) (kept_as (Flip q bit) (moment_of name [] (with_pair w now [])) f)
noise_stays service first w now name q bit m f s at wire within same taken applied stands =
    let before : World = seen w f.packets in
    let nothing_comes : LogReads (messages.reading_by (grammar_of w.profile) (flipped bit (messages.spelling_by (grammar_of w.profile) m))) before [] (record before { packets = before.packets ++ [] }) =
    nothing_read (messages.reading_by (grammar_of w.profile) (flipped bit (messages.spelling_by (grammar_of w.profile) m))) before (message_bit_changed (grammar_of w.profile) bit m wire within) in
    let comes_now : LogReads (messages.reading_by (grammar_of w.profile) (flipped bit (messages.spelling_by (grammar_of w.profile) m))) before [] (seen (with_pair w now []) (f.packets ++ [])) =
    subst (λ l. LogReads (messages.reading_by (grammar_of w.profile) (flipped bit (messages.spelling_by (grammar_of w.profile) m))) before [] (record (seen w (f.packets ++ [])) { log = l })) (sym same) nothing_comes in
    stay service first w (with_pair w now []) name (Flip q bit) [] f s
    (To_logger m, at, record { wire = wire; within = within; comes = comes_now }) stands refl taken
    (subst (AllByRecursion (IsTrueOf now)) (sym (append-nil w.parcels)) (old_parcels w.pair now w.parcels (λ b t. true_with w.pair now b taken applied t) s.parcels))

flip_logger : {State : Type 0} (service : Machine State) (first before : TwinWorld) (hs ts : Bool) (head : Head) (tail : Tail) (fh ft : List Between) (answers : List Message) (given : List Request)
    → let p : Pair = pair_of hs ts head tail fh ft answers given in let w : TwinWorld = record before { pair = p } in
    (n bit : ℕ) (m : Message) (c : Comes) (sent : List Parcel) (after : TwinWorld) (f : Flat) → Flattens service first w f → packet_at f.packets (new_number f n) ≡ Some (To_logger m)
    → CanBeWrittenBy (grammar_of before.profile) m → bit < 8 * length (messages.spelling_by (grammar_of before.profile) m) → c ≡ Is_noise → LoggerHas hs c w sent after
    → Flattens service first after (kept_alone w (Flip (new_number f n) bit) (moment_of (Usual (Flip n bit)) sent after) (left_out (moment_of (Usual (Flip n bit)) sent after) f) f)
flip_logger service first before true true head tail fh ft answers given n bit m c sent after f s at wire within noise d = absurd (true≢false s.pair.one)
flip_logger service first before true false head tail fh ft answers given n bit m c sent after f s at wire within noise d =
    let p : Pair = pair_of true false head tail fh ft answers given in
    let w : TwinWorld = record before { pair = p } in
    let h : TailHas Is_noise w sent after = subst (λ x. TailHas x w sent after) noise d in
    subst (λ a. Flattens service first a (kept_as (Flip (new_number f n) bit) (moment_of (Usual (Flip n bit)) sent a) f)) (sym h.1)
    (subst (λ x. Flattens service first (with_pair w (tail_has Is_noise p) x) (kept_as (Flip (new_number f n) bit) (moment_of (Usual (Flip n bit)) x (with_pair w (tail_has Is_noise p) x)) f)) (sym h.0)
    (noise_stays service first w (tail_has Is_noise p) (Usual (Flip n bit)) (new_number f n) bit m f s at wire within refl refl refl (tail_passes true false head tail fh ft answers given s.pair)))
flip_logger service first before false true head tail fh ft answers given n bit m c sent after f s at wire within noise d =
    let p : Pair = pair_of false true head tail fh ft answers given in
    let w : TwinWorld = record before { pair = p } in
    let h : HeadHas Is_noise w sent after = subst (λ x. HeadHas x w sent after) noise d in
    subst (λ a. Flattens service first a (kept_as (Flip (new_number f n) bit) (moment_of (Usual (Flip n bit)) sent a) f)) (sym h.1)
    (subst (λ x. Flattens service first (with_pair w (head_has Is_noise p) x) (kept_as (Flip (new_number f n) bit) (moment_of (Usual (Flip n bit)) x (with_pair w (head_has Is_noise p) x)) f)) (sym h.0)
    (noise_stays service first w (head_has Is_noise p) (Usual (Flip n bit)) (new_number f n) bit m f s at wire within refl refl refl (head_passes false true head tail fh ft answers given s.pair)))
flip_logger service first before false false head tail fh ft answers given n bit m c sent after f s at wire within noise d =
    let p : Pair = pair_of false false head tail fh ft answers given in
    let w : TwinWorld = record before { pair = p } in
    let h : HeadHas Is_noise w sent after = subst (λ x. HeadHas x w sent after) noise d in
    subst (λ a. Flattens service first a (left_out (moment_of (Usual (Flip n bit)) sent a) f)) (sym h.1)
    (subst (λ x. Flattens service first (with_pair w (head_has Is_noise p) x) (left_out (moment_of (Usual (Flip n bit)) x (with_pair w (head_has Is_noise p) x)) f)) (sym h.0)
    (head_noise_left service first w (Usual (Flip n bit)) f s))

tail_flip : {State : Type 0} (service : Machine State) (first before after : TwinWorld) (name : TwinEvent) (c : Comes) (sent : List Parcel) (f : Flat) → c ≡ Is_noise
    → Flattens service first before f → TailHas c before sent after → Flattens service first after (left_out (moment_of name sent after) f)
tail_flip service first before after name c sent f noise s h =
    let quiet : TailHas Is_noise before sent after = subst (λ x. TailHas x before sent after) noise h in
    let none : sent ≡ [] = quiet.0 ∙ noise_sent before.pair.tail_stopped before.pair.tail in
    subst (λ a. Flattens service first a (left_out (moment_of name sent a) f)) (sym quiet.1)
    (subst (λ x. Flattens service first (with_pair before (tail_has Is_noise before.pair) x) (left_out (moment_of name x (with_pair before (tail_has Is_noise before.pair) x)) f)) (sym none)
    (tail_noise_left service first before name f s))

head_flip : {State : Type 0} (service : Machine State) (first before after : TwinWorld) (name : TwinEvent) (c : Comes) (sent : List Parcel) (f : Flat) → c ≡ Is_noise
    → Flattens service first before f → HeadHas c before sent after → Flattens service first after (left_out (moment_of name sent after) f)
head_flip service first before after name c sent f noise s h =
    let quiet : HeadHas Is_noise before sent after = subst (λ x. HeadHas x before sent after) noise h in
    let none : sent ≡ [] = quiet.0 ∙ noise_sent before.pair.head_stopped before.pair.head in
    subst (λ a. Flattens service first a (left_out (moment_of name sent a) f)) (sym quiet.1)
    (subst (λ x. Flattens service first (with_pair before (head_has Is_noise before.pair) x) (left_out (moment_of name x (with_pair before (head_has Is_noise before.pair) x)) f)) (sym none)
    (head_noise_left service first before name f s))

parcel_flipped : {State : Type 0} (service : Machine State) (first before after : TwinWorld) (n bit : ℕ) (x : Parcel) (sent : List Parcel) (f : Flat)
    → parcel_at before.parcels n ≡ Some x → Flattens service first before f → ParcelFlipped service x bit before sent after
    → Flattens service first after (flipped_flat before n bit (Some x) (moment_of (Usual (Flip n bit)) sent after) f)
parcel_flipped service first before after n bit (Outside (To_logger m)) sent f at s h =
    flip_logger service first before before.pair.head_stopped before.pair.tail_stopped before.pair.head before.pair.tail before.pair.from_head before.pair.from_tail before.pair.answers before.pair.given
    n bit m (asked (flipped bit (messages.spelling_by (grammar_of before.profile) m)) (messages.reading_by (grammar_of before.profile) (flipped bit (messages.spelling_by (grammar_of before.profile) m)))) sent after f s (named_at f.packets before.parcels f.numbers n (To_logger m) s.named at) h.0 h.1
    (asked_nothing (flipped bit (messages.spelling_by (grammar_of before.profile) m)) (messages.reading_by (grammar_of before.profile) (flipped bit (messages.spelling_by (grammar_of before.profile) m))) (message_bit_changed (grammar_of before.profile) bit m h.0 h.1)) h.2
parcel_flipped service first before after n bit (Outside (To_server segment)) sent f at s h =
    flips service first before after n bit (To_server segment) sent f (λ w ps out u d. flip_elsewhere_server service segment bit w ps out u d) at s h
parcel_flipped service first before after n bit (Outside (To_client segment)) sent f at s h =
    flips service first before after n bit (To_client segment) sent f (λ w ps out u d. flip_elsewhere_client service segment bit w ps out u d) at s h
parcel_flipped service first before after n bit (Outside (From_logger m)) sent f at s h =
    flips service first before after n bit (From_logger m) sent f (λ w ps out u d. flip_elsewhere_message service m bit w ps out u d) at s h
parcel_flipped service first before after n bit (Inside (Forward k m)) sent f at s h =
    tail_flip service first before after (Usual (Flip n bit)) (from_other_logger (grammar_of before.profile) (twins.reading_by (grammar_of before.profile) (flipped bit (bytes_of (Forward k m))))) sent f
    (flipped_is_noise (grammar_of before.profile) bit (bytes_of (Forward k m)) (datagram_of (Forward k m)) h.0 h.1) s h.2
parcel_flipped service first before after n bit (Inside (Got k)) sent f at s h =
    head_flip service first before after (Usual (Flip n bit)) (from_other_logger (grammar_of before.profile) (twins.reading_by (grammar_of before.profile) (flipped bit (bytes_of (Got k))))) sent f
    (flipped_is_noise (grammar_of before.profile) bit (bytes_of (Got k)) (datagram_of (Got k)) h.0 h.1) s h.2

true_parcel : (w : TwinWorld) (n : ℕ) (x : Parcel) → parcel_at w.parcels n ≡ Some x → AllByRecursion (IsTrueOf w.pair) w.parcels → IsTrueOf w.pair x
true_parcel w zero x e a = absurd_none x e
  where
    absurd_none : (x : Parcel) → None ≡ Some x → IsTrueOf w.pair x
    absurd_none x e = none_is_some x e
true_parcel w (suc n) x e a = all_slice_get (IsTrueOf w.pair) w.parcels n x a e

one_turn : {State : Type 0} (service : Machine State) (first before after : TwinWorld) (event : TwinEvent) (sent : List Parcel) (f : Flat)
    → Flattens service first before f → TwinHappens service before event sent after → Flattens service first after (flat_step before (moment_of event sent after) event f)
one_turn service first before after (Usual (Deliver n)) sent f s h =
    subst (λ o. Flattens service first after (delivered_flat before n o (moment_of (Usual (Deliver n)) sent after) f)) (sym h.1)
    (parcel_flat service first before after n h.0 sent f h.1 s (true_parcel before n h.0 h.1 s.parcels) h.2)
one_turn service first before after (Usual (Flip n bit)) sent f s h =
    subst (λ o. Flattens service first after (flipped_flat before n bit o (moment_of (Usual (Flip n bit)) sent after) f)) (sym h.1)
    (parcel_flipped service first before after n bit h.0 sent f h.1 s h.2)
one_turn service first before after (Usual (Boot boot isn)) sent f s h = usual service first before after (Boot boot isn) sent f tt s h
one_turn service first before after (Usual Crash) sent f s h = usual service first before after Crash sent f tt s h
one_turn service first before after (Usual Tick) sent f s h = usual service first before after Tick sent f tt s h
one_turn service first before after (Usual (Begin c w)) sent f s h = usual service first before after (Begin c w) sent f tt s h
one_turn service first before after (Usual (Send c from len)) sent f s h = usual service first before after (Send c from len) sent f tt s h
one_turn service first before after (Usual (Fin c)) sent f s h = usual service first before after (Fin c) sent f tt s h
one_turn service first before after (Usual (Ack c w)) sent f s h = usual service first before after (Ack c w) sent f tt s h
one_turn service first before after (Usual (Reset c)) sent f s h = usual service first before after (Reset c) sent f tt s h
one_turn service first before after (Usual (events.Stop part)) sent f s h = absurd h.2
one_turn service first before after (Stop part) sent f s h =
    subst (λ a. Flattens service first a (stopped_flat before part (moment_of (Stop part) sent a) f)) (sym h.3)
    (subst (λ x. Flattens service first (with_pair before (stopped_by part before.pair) x) (stopped_flat before part (moment_of (Stop part) x (with_pair before (stopped_by part before.pair) x)) f)) (sym h.2)
    (stops_flat service first before before.pair.head_stopped before.pair.tail_stopped before.pair.head before.pair.tail before.pair.from_head before.pair.from_tail before.pair.answers before.pair.given part f h.0 h.1 s))

pub flattens : {State : Type 0} (service : Machine State) (first : TwinWorld) (trace : List TwinMoment) → TwinJoint service first trace
    → Flattens service first (twin_after first trace) (flat first trace)
flattens service first [] j = record {
  joint = j.start;
  world = refl;
  pair = subst PairInvariant (sym j.pair) start;
  named = subst (λ xs. Named [] xs []) (sym j.parcels) tt;
  taken = subst (λ p. TakenBy [] [] p.head.taken) (sym j.pair) tt;
  parcels = subst (AllByRecursion (IsTrueOf first.pair)) (sym j.parcels) tt;
}
flattens service first (moment ∷ earlier) j =
    one_turn service first (twin_after first earlier) moment.world moment.event moment.sent (flat first earlier) (flattens service first earlier j.0) j.1
