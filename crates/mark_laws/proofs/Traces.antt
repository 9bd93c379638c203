-- A trace with marks: all its marks are true, and it is masked.
use Rattle.std.proofs.Common.{◌≡◌, inl, arith, ℕ, ◌<◌, true, true≢false, refl, sym, ap, ◌∙◌, subst, Some, None, option_map, List, [], ◌∷◌, ◌++◌, map}
use Rattle.std.specs.List.{AllByRecursion}
use Rattle.seq_arith.specs.Damage.{flipped}
use Rattle.seq_arith.specs.MarkGrammar as marks
use Rattle.seq_arith.specs.MessageGrammar as messages
use Rattle.seq_arith.specs.PacketGrammar as segments
use Rattle.seq_arith.proofs.MessageSpelling.{message_is_read}
use Rattle.seq_arith.proofs.Refused.{flipped_packet_is_refused}
use Rattle.seq_arith.proofs.Spelling.{spelling_is_read}
use Rattle.server_trait.specs.Service.{Machine, reference}
use Rattle.tcp_rules.specs.Profile.{grammar_of}
use Rattle.ft_model.specs.Growth.{IsPrefix, logged_lengths}
use Rattle.ft_model.specs.Lawful.{hello}
use Rattle.ft_model.specs.Masked.{IsMasked, Masked, SeesFront, unfailing, is_restarting}
use Rattle.ft_model.specs.Network.{Packet, destination_of}
use Rattle.ft_model.specs.Network.Packet.{To_server, To_client, To_logger, From_logger}
use Rattle.ft_model.specs.Node.{booted}
use Rattle.ft_model.specs.Node.Input.{Packet_comes, Message_comes, Noise_comes, Tick_comes}
use Rattle.ft_model.specs.World.{World, Moment, ClientReceives, ClientReads, Happens, world_after}
use Rattle.ft_model.specs.declared.event.Event.{Event}
use Rattle.ft_model.specs.declared.event.Event.TheVariants.{Boot, Crash, Tick, Deliver, Flip}
use Rattle.ft_model.proofs.Authored.{logged_run}
use Rattle.ft_model.proofs.FaithfulKept.{ClientFits}
use Rattle.ft_model.proofs.FaithfulOver.{script_of, isn_of}
use Rattle.ft_model.proofs.Happened.Happened.{server_booted, server_down}
use Rattle.ft_model.proofs.JointMasked.{start_sound}
use Rattle.ft_model.proofs.Lists.{all_both, all_append, all_weaker, none_is_some, some_is}
use Rattle.ft_model.proofs.Cuttable.{AreCut}
use Rattle.ft_model.proofs.Resets.{start_knowing}
use Rattle.ft_model.proofs.Running.{HasSmallOutputs}
use Rattle.ft_model.proofs.Seen.{IsSeen}
use Rattle.ft_model.proofs.ReportedOver.{node_reported}
use Rattle.ft_model.proofs.Unfenced.{start_unfenced}
use Rattle.ft_model.proofs.Happened.{segment_is_noise}
use Rattle.trace_laws.proofs.FinsBelow.{start_below}
use Rattle.trace_laws.proofs.Near.{start_near}
use Rattle.mark_laws.proofs.Own.{start_owns}
use Rattle.mark_laws.specs.Marking.{outstanding_in}
use Rattle.mark_laws.specs.MarkedNode.{Marker, MarkedNode, MarkedInput, booted_to_mark}
use Rattle.mark_laws.specs.MarkedNode.MarkedInput.{Plain_comes, Mark_comes}
use Rattle.mark_laws.specs.MarkedWorld.{Parcel, MarkedWorld, MarkedMoment, MarkedJoint, MarkedHappens, IsMarkedStart, ParcelComes, FlippedTo, LogReads, ServerMoves, usual, seen, parcel_at, said_by, input_of, marked_after, plain_moment, plain_trace}
use Rattle.mark_laws.specs.MarkedWorld.Parcel.{Usual, Mark_sent, Mark_answered}
use Rattle.mark_laws.specs.TrueMarks.{IsTrueMark, IsTrueOrNone, HasTrueMark}
use Rattle.mark_laws.proofs.LogSteps.{plain_steps, about_steps}
use Rattle.mark_laws.proofs.MarkSteps.{Kept, MarkStep, Grounds, MarkBoot, IsNoMarkOf, happens_steps, under_way, of_parcel, elsewhere_steps, server_steps, still_steps}
use Rattle.mark_laws.proofs.Noise.{message_noise, mark_noise}
use Rattle.mark_laws.proofs.Packets.{Sound}
use Rattle.mark_laws.proofs.Steps.{Stepped, went}
use Rattle.mark_laws.proofs.Strip.{usual_append, usual_of}
use Rattle.mark_laws.proofs.Truth.{MarkLaws}
use Rattle.mark_laws.proofs.Turns.{IsAwaiting}

-- one parcel
comes_steps : {State : Type 0} (by : Marker State) (start : World) (before : MarkedWorld) (number : ℕ) (parcel : Parcel) (sent : List Parcel) (after : MarkedWorld) → Grounds by start → Kept by start before
    → parcel_at before.parcels number ≡ Some parcel → ParcelComes by parcel before sent after → MarkStep by start before sent after
comes_steps by start before number (Usual (To_server segment)) sent after g k at t =
    server_steps by start before (Plain_comes (Packet_comes segment)) sent after g k (under_way before number (To_server segment) at) t
comes_steps by start before number (Usual (To_client segment)) sent after g k at t =
    let u = under_way before number (To_client segment) at in
    elsewhere_steps by start (ClientReceives (destination_of segment) segment) before sent after g k
    (λ packets later h. happens_steps by start (seen before) (Deliver u.0) packets later g k.sound (To_client segment, u.1, h)) t
comes_steps by start before number (Usual (To_logger message)) sent after g k at t = plain_steps by start before message sent after g k (under_way before number (To_logger message) at) t
comes_steps by start before number (Usual (From_logger message)) sent after g k at t =
    server_steps by start before (Plain_comes (Message_comes message)) sent after g k (under_way before number (From_logger message) at) t
comes_steps by start before number (Mark_sent message) sent after g k at t =
    about_steps by start before message sent after g k (of_parcel (HasTrueMark by before.log.log) before number (Mark_sent message) k.marks.under_way at)
    (λ node up r. of_parcel (IsNoMarkOf node.plain.boot) before number (Mark_sent message) (k.quiet node up r) at) t
comes_steps by start before number (Mark_answered message) sent after g k at t =
    server_steps by start before (Mark_comes message) sent after g k (of_parcel (HasTrueMark by before.log.log) before number (Mark_answered message) k.marks.under_way at) t

-- one with a changed bit
noise_steps : {State : Type 0} (by : Marker State) (start : World) (before : MarkedWorld) (input : MarkedInput) (sent : List Parcel) (after : MarkedWorld) → Grounds by start → Kept by start before
    → input ≡ Plain_comes Noise_comes → ServerMoves by input before sent after → MarkStep by start before sent after
noise_steps by start before input sent after g k noise t =
    server_steps by start before (Plain_comes Noise_comes) sent after g k tt (subst (λ i. ServerMoves by i before sent after) noise t)

unread_steps : {State : Type 0} (by : Marker State) (start : World) (before : MarkedWorld) (bytes : List ℕ) (sent : List Parcel) (after : MarkedWorld) → Kept by start before → said_by (grammar_of before.profile) bytes ≡ None
    → LogReads (said_by (grammar_of before.profile) bytes) before sent after → MarkStep by start before sent after
unread_steps by start before bytes sent after k none t =
    let n = subst (λ o. LogReads o before sent after) none t in still_steps by start before sent after k n.0 n.1

flip_steps : {State : Type 0} (by : Marker State) (start : World) (before : MarkedWorld) (number bit : ℕ) (parcel : Parcel) (sent : List Parcel) (after : MarkedWorld) → Grounds by start → Kept by start before
    → parcel_at before.parcels number ≡ Some parcel → FlippedTo by parcel bit before sent after → MarkStep by start before sent after
flip_steps by start before number bit (Usual (To_server segment)) sent after g k at t =
    noise_steps by start before _ sent after g k
    (ap Plain_comes (segment_is_noise _ (flipped_packet_is_refused bit (segments.spelling segment) segment (spelling_is_read segment t.read.0) t.within))) t.comes
flip_steps by start before number bit (Usual (To_client segment)) sent after g k at t =
    let u = under_way before number (To_client segment) at in
    elsewhere_steps by start (ClientReads (destination_of segment) (segments.reading (flipped bit (segments.spelling segment)))) before sent after g k
    (λ packets later h. happens_steps by start (seen before) (Flip u.0 bit) packets later g k.sound (To_client segment, u.1, record { wire = t.read; within = t.within; comes = h })) t.comes
flip_steps by start before number bit (Usual (To_logger message)) sent after g k at t =
    unread_steps by start before (flipped bit (messages.spelling_by (grammar_of before.profile) message)) sent after k (message_noise (grammar_of before.profile) bit (messages.spelling_by (grammar_of before.profile) message) message (message_is_read message t.read.0) t.within) t.comes
flip_steps by start before number bit (Usual (From_logger message)) sent after g k at t =
    noise_steps by start before _ sent after g k (ap input_of (message_noise (grammar_of before.profile) bit (messages.spelling_by (grammar_of before.profile) message) message (message_is_read message t.read.0) t.within)) t.comes
flip_steps by start before number bit (Mark_sent message) sent after g k at t =
    unread_steps by start before (flipped bit (marks.spelling message)) sent after k (mark_noise (grammar_of before.profile) bit (marks.spelling message) message t.read t.within) t.comes
flip_steps by start before number bit (Mark_answered message) sent after g k at t =
    noise_steps by start before _ sent after g k (ap input_of (mark_noise (grammar_of before.profile) bit (marks.spelling message) message t.read t.within)) t.comes

-- a boot, and a crash
boot_later : (low high : ℕ) → low < high → (parcel : Parcel) → MarkBoot low parcel → MarkBoot high parcel
boot_later low high less (Usual packet) b = tt
boot_later low high less (Mark_sent message) b = omega (arith, less, b)
boot_later low high less (Mark_answered message) b = tt

boot_quiet : (low high : ℕ) → low < high → (parcel : Parcel) → MarkBoot low parcel → IsNoMarkOf high parcel
boot_quiet low high less (Usual packet) b = tt
boot_quiet low high less (Mark_sent message) b = λ e. absurd (omega (arith, less, b, e))
boot_quiet low high less (Mark_answered message) b = tt

boot_steps : {State : Type 0} (by : Marker State) (start : World) (before : MarkedWorld) (boot isn : ℕ) (sent : List Parcel) (after : MarkedWorld) → Grounds by start → Kept by start before
    → MarkedHappens by before (Boot boot isn) sent after → MarkStep by start before sent after
boot_steps by start before boot isn sent after g k t =
    let packets : List Packet = hello (booted before.server before.profile boot isn) in
    let later : MarkedWorld = record before { boot = boot; node = Some (booted_to_mark before.server before.profile boot isn); parcels = before.parcels ++ map Usual packets } in
    let is : after ≡ later = t.3 ∙ ap (λ (ps : List Parcel). record before { boot = boot; node = Some (booted_to_mark before.server before.profile boot isn); parcels = before.parcels ++ ps }) t.2 in
    let all : usual (before.parcels ++ map Usual packets) ≡ usual before.parcels ++ packets = usual_append before.parcels (map Usual packets) ∙ ap (λ ps. usual before.parcels ++ ps) (usual_of packets) in
    let step : Stepped by.service start (seen before) packets (seen later) =
    went by.service g.small start (seen before) packets (seen later) g.starts k.sound
    (server_booted boot isn (ap (option_map (λ (n : MarkedNode). n.plain)) t.0) t.1 refl (ap (λ (ps : List Packet). record (seen before) { boot = boot; node = Some (booted before.server before.profile boot isn); packets = ps }) all)) in
    subst (λ a. MarkStep by start before sent a) (sym is)
    (record {
      stepped = subst (λ ps. Stepped by.service start (seen before) ps (seen later)) (sym (ap usual t.2 ∙ usual_of packets)) step;
      kept = record {
        sound = step.sound;
        marks = record {
          under_way = all_append (HasTrueMark by before.log.log) before.parcels (map Usual packets) k.marks.under_way (tt, tt);
          kept = k.marks.kept;
          outstanding = λ n e key. subst (λ x. AllByRecursion (IsTrueMark by before.log.log key) (outstanding_in (x.marking key))) (some_is (booted_to_mark before.server before.profile boot isn) n e) tt;
        };
        boots = all_append (MarkBoot boot) before.parcels (map Usual packets) (all_weaker (MarkBoot before.boot) (MarkBoot boot) before.parcels (boot_later before.boot boot t.1.0) k.boots) (tt, tt);
        quiet = λ n e. subst (λ x. is_restarting x.plain.stage ≡ true → AllByRecursion (IsNoMarkOf x.plain.boot) (before.parcels ++ map Usual packets)) (some_is (booted_to_mark before.server before.profile boot isn) n e)
            (λ r. all_append (IsNoMarkOf boot) before.parcels (map Usual packets) (all_weaker (MarkBoot before.boot) (IsNoMarkOf boot) before.parcels (boot_quiet before.boot boot t.1.0) k.boots) (tt, tt));
        awaiting = λ n e. subst IsAwaiting (some_is (booted_to_mark before.server before.profile boot isn) n e) (λ a. absurd (true≢false (sym a)));
      };
    })

crash_steps : {State : Type 0} (by : Marker State) (start : World) (before : MarkedWorld) (sent : List Parcel) (after : MarkedWorld) → Grounds by start → Kept by start before
    → MarkedHappens by before Crash sent after → MarkStep by start before sent after
crash_steps by start before sent after g k t =
    let later : MarkedWorld = record before { node = None; parcels = before.parcels ++ [] } in
    let is : after ≡ later = t.2 ∙ ap (λ (ps : List Parcel). record before { node = None; parcels = before.parcels ++ ps }) t.1 in
    let step : Stepped by.service start (seen before) [] (seen later) =
    went by.service g.small start (seen before) [] (seen later) g.starts k.sound
    (server_down refl (ap (λ (ps : List Packet). record (seen before) { node = None; packets = ps }) (usual_append before.parcels []))) in
    subst (λ a. MarkStep by start before sent a) (sym is)
    (record {
      stepped = subst (λ ps. Stepped by.service start (seen before) ps (seen later)) (sym (ap usual t.1)) step;
      kept = record {
        sound = step.sound;
        marks = record {
          under_way = all_append (HasTrueMark by before.log.log) before.parcels [] k.marks.under_way tt;
          kept = k.marks.kept;
          outstanding = λ n e. none_is_some n e;
        };
        boots = all_append (MarkBoot before.boot) before.parcels [] k.boots tt;
        quiet = λ n e. none_is_some n e;
        awaiting = λ n e. none_is_some n e;
      };
    })

-- one event
one_moment : {State : Type 0} (by : Marker State) (start : World) (before : MarkedWorld) (event : Event) (sent : List Parcel) (after : MarkedWorld) → Grounds by start → Kept by start before
    → MarkedHappens by before event sent after → MarkStep by start before sent after
one_moment by start before (Boot boot isn) sent after g k h = boot_steps by start before boot isn sent after g k h
one_moment by start before Crash sent after g k h = crash_steps by start before sent after g k h
one_moment by start before Tick sent after g k h = server_steps by start before (Plain_comes Tick_comes) sent after g k tt h.1
one_moment by start before (Deliver number) sent after g k h = comes_steps by start before number h.0 sent after g k h.1 h.2
one_moment by start before (Flip number bit) sent after g k h = flip_steps by start before number bit h.0 sent after g k h.1 h.2
one_moment by start before event sent after g k h =
    elsewhere_steps by start (λ w. Happens by.service w event) before sent after g k (λ packets later x. happens_steps by start (seen before) event packets later g k.sound x) h

-- a whole trace
pub start_of_joint : {State : Type 0} (by : Marker State) (first : MarkedWorld) (trace : List MarkedMoment) → MarkedJoint by first trace → IsMarkedStart first
start_of_joint by first [] j = j
start_of_joint by first (moment ∷ earlier) j = start_of_joint by first earlier j.0

start_kept : {State : Type 0} (by : Marker State) (first : MarkedWorld) → HasSmallOutputs by.service → IsMarkedStart first → Kept by (seen first) first
start_kept by first small s = record {
  sound = record { joint = start_sound by.service small (seen first) s.start; reporting = λ n e. none_is_some n (sym s.start.node ∙ e); below = start_below (script_of (seen first)) (seen first) s.start; near = start_near (isn_of (seen first)) (seen first) s.start; unfenced = start_unfenced (seen first) s.start; owns = start_owns (seen first) s.start; knows = start_knowing (seen first) s.start; cut = subst AreCut (sym s.start.log) tt };
  marks = record {
    under_way = subst (AllByRecursion (HasTrueMark by first.log.log)) (sym s.parcels) tt;
    kept = λ key. subst (λ l. IsTrueOrNone by l.log key (l.marks key)) (sym s.log) (inl refl);
    outstanding = λ n e. none_is_some n (sym s.node ∙ e);
  };
  boots = subst (AllByRecursion (MarkBoot first.boot)) (sym s.parcels) tt;
  quiet = λ n e. none_is_some n (sym s.node ∙ e);
  awaiting = λ n e. none_is_some n (sym s.node ∙ e);
}

pub kept_after : {State : Type 0} (by : Marker State) (first : MarkedWorld) (trace : List MarkedMoment) → Grounds by (seen first) → MarkedJoint by first trace → Kept by (seen first) (marked_after first trace)
kept_after by first [] g j = start_kept by first g.small j
kept_after by first (moment ∷ earlier) g j =
    (one_moment by (seen first) (marked_after first earlier) moment.event moment.sent moment.world g (kept_after by first earlier g j.0) j.1).kept

pub kept_of : {State : Type 0} (by : Marker State) (first : MarkedWorld) (trace : List MarkedMoment) → HasSmallOutputs by.service → MarkLaws by → MarkedJoint by first trace → Kept by (seen first) (marked_after first trace)
kept_of by first trace small laws j = kept_after by first trace (record { small = small; laws = laws; starts = (start_of_joint by first trace j).start }) j

pub step_after : {State : Type 0} (by : Marker State) (first : MarkedWorld) (moment : MarkedMoment) (earlier : List MarkedMoment) → Grounds by (seen first) → MarkedJoint by first (moment ∷ earlier)
    → MarkStep by (seen first) (marked_after first earlier) moment.sent moment.world
step_after by first moment earlier g j = one_moment by (seen first) (marked_after first earlier) moment.event moment.sent moment.world g (kept_after by first earlier g j.0) j.1

-- Masked

-- each client sees the front of the uncrashed server's output
sees_front : {State : Type 0} (service : Machine State) (start w : World) → Sound service start w → AllByRecursion (SeesFront service w.log) w.clients
sees_front service start w s =
    all_both (IsSeen service (script_of start) w.log) (ClientFits (script_of start) (isn_of start)) (SeesFront service w.log) w.clients
    (λ c x f. let same : logged_run service (script_of start) w.log c.key ≡ unfailing service w.log c = ap (λ l. reference service l (logged_lengths c.key w.log)) (sym f.0) in
    record {
      accepted = subst (λ r. IsPrefix c.accepted r.output) same x.front;
      unlogged = x.unlogged;
      ended = λ e. subst (λ r. (r.closed ≡ true) × (c.accepted ≡ r.output)) same (x.ended e);
    }) s.joint.sees s.joint.faithful.clients

masked_moment : {State : Type 0} (service : Machine State) (start before : World) (moment : Moment) → Stepped service start before moment.sent moment.world → IsMasked service before moment
masked_moment service start before moment s = record {
  clients = sees_front service start moment.world s.sound;
  acknowledged = s.acknowledged;
  restart = s.restart;
  reported = node_reported moment.world.packets moment.world.node s.sound.reporting;
}

world_seen : (first : MarkedWorld) (trace : List MarkedMoment) → world_after (seen first) (plain_trace trace) ≡ seen (marked_after first trace)
world_seen first [] = refl
world_seen first (moment ∷ earlier) = refl

pub masked : {State : Type 0} (by : Marker State) (first : MarkedWorld) (trace : List MarkedMoment) → HasSmallOutputs by.service → Grounds by (seen first) → MarkedJoint by first trace
    → Masked by.service (seen first) (plain_trace trace)
masked by first [] small g j = tt
masked by first (moment ∷ earlier) small g j = (
  masked by first earlier small g j.0,
  subst (λ w. IsMasked by.service w (plain_moment moment)) (sym (world_seen first earlier))
      (masked_moment by.service (seen first) (seen (marked_after first earlier)) (plain_moment moment) (step_after by first moment earlier g j).stepped),
)
