-- A legal trace with two loggers, made flat, is a legal one: its deliveries and flips are of packets that were sent, and all else is as it was.
use Rattle.std.proofs.Common.{◌≡◌, ◌∙◌, ℕ, ◌*◌, ◌<◌, nat_le, false, refl, sym, ap, subst, cond, Option, Some, None, List, [], ◌∷◌, ◌++◌, ◌&&◌, ◌==◌, ◌+◌, not, drop, length, arith}
use Rattle.std.proofs.lemmas.Bool.Decides.{nat_tests}
use Rattle.ft_io.proofs.Choices.{holds_either_way}
use Rattle.seq_arith.specs.Message.{Message, is_answer}
use Rattle.server_trait.specs.Service.{Machine}
use Rattle.tcp_rules.specs.Profile.{grammar_of}
use Rattle.ft_model.specs.Legal.{refusal_of_flip, IsAllowed, AllAllowed}
use Rattle.ft_model.specs.Network.{Packet}
use Rattle.ft_model.specs.Network.Packet.{To_server, To_client, To_logger, From_logger}
use Rattle.ft_model.specs.Wire.{wire_by}
use Rattle.ft_model.specs.World.{World, Moment, Happens, Joint, world_after}
use Rattle.ft_model.specs.declared.event.Event.{Event}
use Rattle.ft_model.specs.declared.event.Event.TheVariants.{Boot, Crash, Tick, Deliver, Flip, Begin, Send, Fin, Ack, Reset}
use Rattle.ft_model.specs.declared.event.Event.TheVariants as events
use Rattle.ft_model.specs.declared.event.EventWhy.TheVariants as why
use Rattle.ft_model.proofs.AskedMoves.{quiet_event}
use Rattle.twin_laws.specs.declared.part.Part.TheVariants as parts
use Rattle.twin_laws.specs.Twin.{Request, has_room}
use Rattle.twin_laws.specs.Twin.Between.{Forward, Got}
use Rattle.twin_laws.specs.TwinWorld.{Parcel, TwinWorld, TwinEvent, TwinMoment, TwinHappens, TwinJoint, Elsewhere, seen, parcel_at, twin_after}
use Rattle.twin_laws.specs.TwinWorld.Parcel.{Outside, Inside}
use Rattle.twin_laws.specs.TwinWorld.TwinEvent.{Usual, Stop}
use Rattle.twin_laws.specs.TwinLegal.{IsTwinAllowed, AllTwinAllowed}
use Rattle.twin_laws.specs.Flat.{Flat, flat, flat_step, kept_as, kept_alone, left_out, asked_flat, forwarded_flat, delivered_flat, flipped_flat, delivered_to_log, both, outside, new_number, number_at}
use Rattle.twin_laws.proofs.Elsewhere.{NamesNone}
use Rattle.twin_laws.proofs.Flattening.{moment_of, flattens}

module _ {State : Type 0} (service : Machine State) where
  delivery_allowed : (w : World) (n : ℕ) (sent : List Packet) (after : World) → Happens service w (Deliver n) sent after
      → IsAllowed w (record { event = Deliver n; sent = sent; world = after })
  delivery_allowed w n sent after h = record { allowed = rw h.1 refl; scripted = quiet_event w (Deliver n) sent after refl }

  flip_allowed : (w : World) (n bit : ℕ) (sent : List Packet) (after : World) → Happens service w (Flip n bit) sent after
      → IsAllowed w (record { event = Flip n bit; sent = sent; world = after })
  flip_allowed w n bit sent after h =
      let inside : bit < 8 * length (wire_by (grammar_of w.profile) h.0).bytes = h.2.within in
      let has : nat_le (8 * length (wire_by (grammar_of w.profile) h.0).bytes) bit ≡ false = grind (arith, nat_tests) in
      record {
        allowed = ap (λ o. refusal_of_flip (grammar_of w.profile) o bit) h.1 ∙ ap (λ b. cond b (Some why.Bit) None) has;
        scripted = quiet_event w (Flip n bit) sent after refl;
      }

  -- what happens is allowed where it names a packet
  allowed_if : (w : World) (event : Event) (sent : List Packet) (after : World) → Happens service w event sent after
      → (NamesNone event → IsAllowed w (record { event = event; sent = sent; world = after })) → IsAllowed w (record { event = event; sent = sent; world = after })
  allowed_if w (Deliver n) sent after h a = delivery_allowed w n sent after h
  allowed_if w (Flip n bit) sent after h a = flip_allowed w n bit sent after h
  allowed_if w (Boot boot isn) sent after h a = a tt
  allowed_if w Crash sent after h a = a tt
  allowed_if w Tick sent after h a = a tt
  allowed_if w (Begin client window) sent after h a = a tt
  allowed_if w (Send client from len) sent after h a = a tt
  allowed_if w (Fin client) sent after h a = a tt
  allowed_if w (Ack client window) sent after h a = a tt
  allowed_if w (Reset client) sent after h a = a tt
  allowed_if w (events.Stop part) sent after h a = a tt

  -- all events but those that name a packet are allowed
  abbrev OthersAllowed : World → List Moment → Type 0
  OthersAllowed start [] = Unit {0}
  OthersAllowed start (moment ∷ earlier) = OthersAllowed start earlier × (NamesNone moment.event → IsAllowed (world_after start earlier) moment)

  all_allowed : (start : World) (trace : List Moment) → Joint service start trace → OthersAllowed start trace → AllAllowed start trace
  all_allowed start [] j a = tt
  all_allowed start (moment ∷ earlier) j a =
      (all_allowed start earlier j.0 a.0, allowed_if (world_after start earlier) moment.event moment.sent moment.world j.1 a.1)

  abbrev Fine : World → Flat → Type 0
  Fine start f = OthersAllowed start f.trace

  -- turns of the loggers are left out, or become deliveries and flips
  given_fine : (start : World) (xs : List (ℕ × Request)) (w : World) (f : Flat) → Fine start f → Fine start (delivered_to_log w xs f)
  given_fine start [] w f a = a
  given_fine start (x ∷ xs) w f a = given_fine start xs _ _ (a, λ names. absurd names)

  alone_fine : (start : World) (w : TwinWorld) (event : Event) (moment : TwinMoment) (paired f : Flat) → (NamesNone event → ⊥) → Fine start f → Fine start paired
      → Fine start (kept_alone w event moment paired f)
  alone_fine start w event moment paired f names a b =
      let kept : Fine start (kept_as event moment f) = (a, λ none. absurd (names none)) in
      holds_either_way (Fine start) w.pair.head_stopped (kept_as event moment f) _ kept
      (holds_either_way (Fine start) w.pair.tail_stopped (kept_as event moment f) paired kept b)

  asked_fine : (start : World) (w : TwinWorld) (n : ℕ) (message : Message) (moment : TwinMoment) (f : Flat) → Fine start f → Fine start (asked_flat w n message moment f)
  asked_fine start w n message moment f a =
      let g : Flat = left_out moment f in
      alone_fine start w (Deliver (new_number f n)) moment _ f (λ names. names) a
      (holds_either_way (Fine start) (not (is_answer message.body) && has_room w.pair.head) _ g a a)

  forwarded_fine : (start : World) (w : TwinWorld) (number : ℕ) (moment : TwinMoment) (f : Flat) → Fine start f → Fine start (forwarded_flat w number moment f)
  forwarded_fine start w number moment f a =
      let g : Flat = left_out moment f in
      let applied : Flat = kept_as (Deliver (number_at f.origins w.pair.tail.applied)) moment f in
      holds_either_way (Fine start) w.pair.head_stopped g _ a
      (holds_either_way (Fine start) w.pair.tail_stopped g _ a
      (holds_either_way (Fine start) (number == w.pair.tail.applied + 1) applied g (a, λ names. absurd names) a))

  delivered_fine : (start : World) (w : TwinWorld) (n : ℕ) (x : Option Parcel) (moment : TwinMoment) (f : Flat) → Fine start f → Fine start (delivered_flat w n x moment f)
  delivered_fine start w n None moment f a = a
  delivered_fine start w n (Some (Outside (To_logger message))) moment f a = asked_fine start w n message moment f a
  delivered_fine start w n (Some (Outside (To_server segment))) moment f a = (a, λ names. absurd names)
  delivered_fine start w n (Some (Outside (To_client segment))) moment f a = (a, λ names. absurd names)
  delivered_fine start w n (Some (Outside (From_logger message))) moment f a = (a, λ names. absurd names)
  delivered_fine start w n (Some (Inside (Forward number request))) moment f a = forwarded_fine start w number moment f a
  delivered_fine start w n (Some (Inside (Got number))) moment f a = a

  flipped_fine : (start : World) (w : TwinWorld) (n bit : ℕ) (x : Option Parcel) (moment : TwinMoment) (f : Flat) → Fine start f → Fine start (flipped_flat w n bit x moment f)
  flipped_fine start w n bit None moment f a = a
  flipped_fine start w n bit (Some (Outside (To_logger message))) moment f a =
      alone_fine start w (Flip (new_number f n) bit) moment (left_out moment f) f (λ names. names) a a
  flipped_fine start w n bit (Some (Outside (To_server segment))) moment f a = (a, λ names. absurd names)
  flipped_fine start w n bit (Some (Outside (To_client segment))) moment f a = (a, λ names. absurd names)
  flipped_fine start w n bit (Some (Outside (From_logger message))) moment f a = (a, λ names. absurd names)
  flipped_fine start w n bit (Some (Inside between)) moment f a = a

  -- any other event is allowed in the world with one log as in that with two
  usual_allowed : (before after : TwinWorld) (event : Event) (sent : List Parcel) (ps qs : List Packet) → NamesNone event
      → Elsewhere (λ w. Happens service w event) before sent after → IsTwinAllowed before (moment_of (Usual event) sent after)
      → IsAllowed (seen before ps) (record { event = event; sent = outside sent; world = seen after qs })
  usual_allowed before after (Boot boot isn) sent ps qs none h a = record { allowed = a.allowed; scripted = a.scripted }
  usual_allowed before after Crash sent ps qs none h a = record { allowed = a.allowed; scripted = a.scripted }
  usual_allowed before after Tick sent ps qs none h a = record { allowed = a.allowed; scripted = a.scripted }
  usual_allowed before after (Deliver n) sent ps qs none h a = absurd none
  usual_allowed before after (Flip n bit) sent ps qs none h a = absurd none
  usual_allowed before after (Begin client window) sent ps qs none h a = record { allowed = a.allowed; scripted = a.scripted }
  usual_allowed before after (Send client from len) sent ps qs none h a = record { allowed = a.allowed; scripted = a.scripted }
  usual_allowed before after (Fin client) sent ps qs none h a = record { allowed = a.allowed; scripted = a.scripted }
  usual_allowed before after (Ack client window) sent ps qs none h a = record { allowed = a.allowed; scripted = a.scripted }
  usual_allowed before after (Reset client) sent ps qs none h a = record { allowed = a.allowed; scripted = a.scripted }
  usual_allowed before after (events.Stop part) sent ps qs none h a = absurd h.2

  usual_fine : (start : World) (before after : TwinWorld) (event : Event) (sent : List Parcel) (f : Flat) → world_after start f.trace ≡ seen before f.packets
      → NamesNone event → Elsewhere (λ w. Happens service w event) before sent after → IsTwinAllowed before (moment_of (Usual event) sent after) → Fine start f
      → Fine start (kept_as event (moment_of (Usual event) sent after) f)
  usual_fine start before after event sent f is none h a fine = (
    fine,
    λ names. subst (λ w. IsAllowed w (record { event = event; sent = outside sent; world = seen after (f.packets ++ outside sent) })) (sym is)
        (usual_allowed before after event sent f.packets (f.packets ++ outside sent) none h a),
  )

  one_fine : (start : World) (before after : TwinWorld) (event : TwinEvent) (sent : List Parcel) (f : Flat) → world_after start f.trace ≡ seen before f.packets
      → TwinHappens service before event sent after → IsTwinAllowed before (moment_of event sent after) → Fine start f
      → Fine start (flat_step before (moment_of event sent after) event f)
  one_fine start before after (Usual (Deliver n)) sent f is h a fine = delivered_fine start before n (parcel_at before.parcels n) (moment_of (Usual (Deliver n)) sent after) f fine
  one_fine start before after (Usual (Flip n bit)) sent f is h a fine = flipped_fine start before n bit (parcel_at before.parcels n) (moment_of (Usual (Flip n bit)) sent after) f fine
  one_fine start before after (Usual (Boot boot isn)) sent f is h a fine = usual_fine start before after (Boot boot isn) sent f is tt h a fine
  one_fine start before after (Usual Crash) sent f is h a fine = usual_fine start before after Crash sent f is tt h a fine
  one_fine start before after (Usual Tick) sent f is h a fine = usual_fine start before after Tick sent f is tt h a fine
  one_fine start before after (Usual (Begin c w)) sent f is h a fine = usual_fine start before after (Begin c w) sent f is tt h a fine
  one_fine start before after (Usual (Send c from len)) sent f is h a fine = usual_fine start before after (Send c from len) sent f is tt h a fine
  one_fine start before after (Usual (Fin c)) sent f is h a fine = usual_fine start before after (Fin c) sent f is tt h a fine
  one_fine start before after (Usual (Ack c w)) sent f is h a fine = usual_fine start before after (Ack c w) sent f is tt h a fine
  one_fine start before after (Usual (Reset c)) sent f is h a fine = usual_fine start before after (Reset c) sent f is tt h a fine
  one_fine start before after (Usual (events.Stop part)) sent f is h a fine = absurd h.2
  one_fine start before after (Stop parts.Head) sent f is h a fine = fine
  one_fine start before after (Stop parts.Tail) sent f is h a fine = given_fine start (both (drop before.pair.tail.applied f.origins) (drop before.pair.tail.applied before.pair.head.taken)) (seen before f.packets) f fine

  others_allowed : (first : TwinWorld) (trace : List TwinMoment) → TwinJoint service first trace → AllTwinAllowed first trace → Fine (seen first []) (flat first trace)
  others_allowed first [] j a = tt
  others_allowed first (moment ∷ earlier) j a =
      one_fine (seen first []) (twin_after first earlier) moment.world moment.event moment.sent (flat first earlier) (flattens service first earlier j.0).world j.1 a.1
      (others_allowed first earlier j.0 a.0)

  pub flat_allowed : (first : TwinWorld) (trace : List TwinMoment) → TwinJoint service first trace → AllTwinAllowed first trace
      → AllAllowed (seen first []) (flat first trace).trace
  flat_allowed first trace j a = all_allowed (seen first []) (flat first trace).trace (flattens service first trace j).joint (others_allowed first trace j a)
