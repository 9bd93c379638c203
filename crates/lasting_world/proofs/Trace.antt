-- A legal trace gives the premises of a step, and is extended by it.
use Rattle.std.proofs.Common.{◌≡◌, ◌∙◌, ℕ, zero, suc, ◌+◌, ◌-◌, ◌*◌, ◌<◌, ◌≤◌, sym, ap, ap₂, subst, refl, arith, Bool, true, false, nat_le, leb-false, Option, None, Some, Result, Ok, Err, List, [], ◌∷◌, ◌++◌, map, drop, length, length-append, if◌then◌else◌}
use Rattle.std.proofs.lemmas.List.{length-map, map-append}
use Rattle.std.specs.Prelude.{IfOk, IfErr, OnOk}
use Rattle.std.specs.List.{AllByRecursion}
use Rattle.ft_io.specs.declared.Key.{Key}
use Rattle.seq_arith.specs.Damage.{flipped}
use Rattle.seq_arith.specs.PacketGrammar as segments
use Rattle.seq_arith.specs.declared.kinds.Grammar.{Grammar}
use Rattle.seq_arith.proofs.Spelling.{spelling_is_read}
use Rattle.server_trait.specs.Service.{Machine}
use Rattle.tcp_rules.specs.Profile.{grammar_of}
use Rattle.tcp_rules.specs.Profiles.{profile_of}
use Rattle.ft_model.specs.Lawful.{IsNearInput, IsSoundInput, fence}
use Rattle.ft_model.specs.Network.Packet.{To_server, To_client, To_logger, From_logger}
use Rattle.ft_model.specs.Node.{Input}
use Rattle.ft_model.specs.Node.Input.{Tick_comes}
use Rattle.ft_model.specs.Playable.{IsPlayable}
use Rattle.ft_model.specs.Readable.{FitsEvent}
use Rattle.ft_model.specs.Schedule.{kind_of}
use Rattle.ft_model.specs.World.{segment_or_noise}
use Rattle.ft_model.specs.declared.event.Event.{Event}
use Rattle.ft_model.specs.declared.event.Event.TheVariants.{Boot, Crash, Tick, Deliver, Flip, Begin, Send, Fin, Ack, Reset, Stop}
use Rattle.ft_model.specs.declared.event.EventWhy.TheVariants as why
use Rattle.ft_model.specs.declared.schedule.Lasting.{Lasting}
use Rattle.ft_model.specs.declared.schedule.Schedule.{Schedule}
use Rattle.ft_model.proofs.Happened.{bit_changed, segment_is_noise}
use Rattle.ft_model.proofs.Lists.{all_append, none_is_some, some_is}
use Rattle.lasting_laws.specs.LastingLegal.{IsLastingLegalFor, lasting_start, lasting_refusal, refusal_of_flip}
use Rattle.lasting_laws.specs.LastingReport.{way_of_lasting}
use Rattle.lasting_laws.specs.LastingTurn.{LastingInput, LastingNode}
use Rattle.lasting_laws.specs.LastingTurn.LastingInput.{Usual_comes, Forget_comes}
use Rattle.lasting_laws.specs.LastingWorld.{Parcel, Sent, LastingWorld, LastingMoment, LastingHappens, lasting_after, grammar_in, bytes_of, said_by, said_to_server, sent_at, under_way}
use Rattle.lasting_laws.specs.LastingWorld.Parcel.{Usual, Forget_sent, Forgotten_sent}
use Rattle.lasting_node.specs.Turns.{IsFairTo, patience_of}
use Rattle.lasting_unseen.specs.Mirror.{MayStillCome}
use Rattle.lasting_unseen.specs.Written.{IsWritten}
use Rattle.lasting_unseen.proofs.Noise.{message_noise, forget_noise}
use Rattle.lasting_unseen.proofs.Sends.{Sends, event_sends}
use Rattle.schedule_network.specs.declared.end.StepEnd.{StepEnd}
use Rattle.schedule_network.specs.declared.end.StepEnd.TheVariants.{NoMemory, BadEvent, PacketLimit}
use Rattle.schedule_network.specs.declared.step_out.StepOut.{StepOut}
use Rattle.lasting_world.specs.Along.{StandsAfter, Extends, StepsAlong, EndsAlong}
use Rattle.lasting_world.specs.Around.{AroundStands}
use Rattle.lasting_world.specs.NetworkStands.{Stored, AllStand, NetworkStands}
use Rattle.lasting_world.specs.NetworkView.{lost_to}
use Rattle.lasting_world.specs.SentParcels.{run_grammar, KeepsAllLasting}
use Rattle.lasting_world.specs.declared.network.Network.{Network}
use Rattle.lasting_world.specs.Stands.{NodeStands}
use Rattle.lasting_world.specs.Steps.{Advances, Does, Declines, IsFairStep, KeepsAtRefusal, arriving, arriving_sent, input_by}
use Rattle.lasting_world.specs.WorldView.{KeptWorld}
use Rattle.lasting_world.proofs.Happenings.{said_usual, said_forget, written_at}
use Rattle.lasting_world.proofs.Numbers.{Found, found, as_many}

-- the laws of legal traces that a step needs
pub record AreLaws {S : Type 0} (services : ℕ → Machine S) : Type 0 where
  pub near : (waits : Lasting) (schedule : Schedule) (events : List Event) (trace : List LastingMoment) (n : LastingNode) (input : Input) → IsPlayable schedule → AllByRecursion FitsEvent events
      → IsLastingLegalFor services waits schedule events trace → (lasting_after (lasting_start waits schedule) trace).node ≡ Some n
      → MayStillCome (lasting_after (lasting_start waits schedule) trace) input → IsNearInput n.node.server input n.node.stage
  pub sound : (waits : Lasting) (schedule : Schedule) (events : List Event) (trace : List LastingMoment) (n : LastingNode) (input : Input) → IsPlayable schedule → AllByRecursion FitsEvent events
      → IsLastingLegalFor services waits schedule events trace → (lasting_after (lasting_start waits schedule) trace).node ≡ Some n
      → MayStillCome (lasting_after (lasting_start waits schedule) trace) input → IsSoundInput (services (kind_of schedule.service)) n.node input n.node.stage
  pub unfenced : (waits : Lasting) (schedule : Schedule) (events : List Event) (trace : List LastingMoment) (n : LastingNode) (input : Input) → IsPlayable schedule → AllByRecursion FitsEvent events
      → IsLastingLegalFor services waits schedule events trace → (lasting_after (lasting_start waits schedule) trace).node ≡ Some n
      → MayStillCome (lasting_after (lasting_start waits schedule) trace) input → fence n.node input ≡ None
  pub sent : (waits : Lasting) (schedule : Schedule) (events : List Event) (trace : List LastingMoment) → IsPlayable schedule → AllByRecursion FitsEvent events
      → IsLastingLegalFor services waits schedule events trace → AllByRecursion (λ moment. AllByRecursion (IsWritten (grammar_of (profile_of schedule.profile))) moment.parcels) trace
  pub kept : (waits : Lasting) (schedule : Schedule) (events : List Event) (trace : List LastingMoment) → IsPlayable schedule → AllByRecursion FitsEvent events
      → IsLastingLegalFor services waits schedule events trace → AllByRecursion (λ s. IsWritten (grammar_of (profile_of schedule.profile)) s.parcel) (lasting_after (lasting_start waits schedule) trace).sent

-- What may arrive at the server: what may still come, or a message about forgetting
abbrev Arrives : LastingWorld → LastingInput → Type 0
Arrives w (Usual_comes input) = MayStillCome w input
Arrives w (Forget_comes message) = Unit {0}

-- of a parcel as it was sent
comes_whole : (w : LastingWorld) (number : ℕ) (parcel : Parcel) (input : LastingInput) → sent_at w.sent number ≡ Some (record { parcel = parcel; lost = false }) → IsWritten (grammar_in w) parcel
    → arriving (grammar_in w) parcel (bytes_of (grammar_in w) parcel) ≡ Some input → Arrives w input
comes_whole w number (Usual (To_server segment)) input at ok e =
    subst (Arrives w) (some_is (Usual_comes (segment_or_noise (segments.reading (segments.spelling segment)))) input e)
    (subst (λ r. Arrives w (Usual_comes (segment_or_noise r))) (sym (spelling_is_read segment ok.0)) (number, at))
comes_whole w number (Usual (From_logger message)) input at ok e =
    subst (Arrives w) (some_is (said_to_server (said_by (grammar_in w) (bytes_of (grammar_in w) (Usual (From_logger message))))) input e)
    (subst (λ said. Arrives w (said_to_server said)) (sym (said_usual (grammar_in w) message ok.0)) (number, at))
comes_whole w number (Forgotten_sent message) input at ok e =
    subst (Arrives w) (some_is (said_to_server (said_by (grammar_in w) (bytes_of (grammar_in w) (Forgotten_sent message)))) input e)
    (subst (λ said. Arrives w (said_to_server said)) (sym (said_forget (grammar_in w) message ok)) tt)
comes_whole w number (Usual (To_client segment)) input at ok e = none_is_some input e
comes_whole w number (Usual (To_logger message)) input at ok e = none_is_some input e
comes_whole w number (Forget_sent message) input at ok e = none_is_some input e

-- .. and of one with a changed bit
comes_changed : (w : LastingWorld) (bit : ℕ) (parcel : Parcel) (input : LastingInput) → IsWritten (grammar_in w) parcel → bit < 8 * length (bytes_of (grammar_in w) parcel)
    → arriving (grammar_in w) parcel (flipped bit (bytes_of (grammar_in w) parcel)) ≡ Some input → Arrives w input
comes_changed w bit (Usual (To_server segment)) input ok within e =
    subst (Arrives w) (some_is (Usual_comes (segment_or_noise (segments.reading (flipped bit (segments.spelling segment))))) input e)
    (subst (λ i. Arrives w (Usual_comes i)) (sym (segment_is_noise (segments.reading (flipped bit (segments.spelling segment))) (bit_changed bit segment ok within))) tt)
comes_changed w bit (Usual (From_logger message)) input ok within e =
    subst (Arrives w) (some_is (said_to_server (said_by (grammar_in w) (flipped bit (bytes_of (grammar_in w) (Usual (From_logger message)))))) input e)
    (subst (λ said. Arrives w (said_to_server said)) (sym (message_noise (grammar_in w) bit message ok within)) tt)
comes_changed w bit (Forgotten_sent message) input ok within e =
    subst (Arrives w) (some_is (said_to_server (said_by (grammar_in w) (flipped bit (bytes_of (grammar_in w) (Forgotten_sent message))))) input e)
    (subst (λ said. Arrives w (said_to_server said)) (sym (forget_noise (grammar_in w) bit message ok within)) tt)
comes_changed w bit (Usual (To_client segment)) input ok within e = none_is_some input e
comes_changed w bit (Usual (To_logger message)) input ok within e = none_is_some input e
comes_changed w bit (Forget_sent message) input ok within e = none_is_some input e

bit_within : (most bit : ℕ) → (if nat_le most bit then Some why.Bit else None) ≡ None → bit < most
bit_within most bit e = on (nat_le most bit) refl e
  where
    on : (b : Bool) → nat_le most bit ≡ b → (if b then Some why.Bit else None) ≡ None → bit < most
    on true t x = none_is_some why.Bit (sym x)
    on false t x = leb-false most bit t

-- so of what an event brings
by_sent : (w : LastingWorld) (number : ℕ) (changed : List ℕ → List ℕ) (input : LastingInput)
    → ((parcel : Parcel) → sent_at w.sent number ≡ Some (record { parcel = parcel; lost = false }) → arriving (grammar_in w) parcel (changed (bytes_of (grammar_in w) parcel)) ≡ Some input → Arrives w input)
    → arriving_sent (grammar_in w) changed (sent_at w.sent number) ≡ Some input → Arrives w input
by_sent w number changed input arrives e = by (sent_at w.sent number) refl e
  where
    by : (o : Option Sent) → sent_at w.sent number ≡ o → arriving_sent (grammar_in w) changed o ≡ Some input → Arrives w input
    by None at x = none_is_some input x
    by (Some s) at x = on s.lost refl x
      where
        on : (b : Bool) → s.lost ≡ b → (if b then None else arriving (grammar_in w) s.parcel (changed (bytes_of (grammar_in w) s.parcel))) ≡ Some input → Arrives w input
        on true t y = none_is_some input y
        on false t y = arrives s.parcel (at ∙ ap (λ l. Some (record { parcel = s.parcel; lost = l })) t) y

arrives_by : (w : LastingWorld) (event : Event) (input : LastingInput) → AllByRecursion (λ s. IsWritten (grammar_in w) s.parcel) w.sent → lasting_refusal w event ≡ None → input_by w event ≡ Some input
    → Arrives w input
arrives_by w Tick input written free e = subst (Arrives w) (some_is (Usual_comes Tick_comes) input e) tt
arrives_by w (Deliver number) input written free e =
    by_sent w number (λ b. b) input (λ parcel at a. comes_whole w number parcel input at (written_at (grammar_in w) w.sent number (record { parcel = parcel; lost = false }) written at) a) e
arrives_by w (Flip number bit) input written free e =
    by_sent w number (flipped bit) input
    (λ parcel at a. comes_changed w bit parcel input (written_at (grammar_in w) w.sent number (record { parcel = parcel; lost = false }) written at)
    (bit_within (8 * length (bytes_of (grammar_in w) parcel)) bit (subst (λ o. refusal_of_flip (grammar_in w) o bit ≡ None) at free)) a) e
arrives_by w (Boot boot isn) input written free e = none_is_some input e
arrives_by w Crash input written free e = none_is_some input e
arrives_by w (Begin client window) input written free e = none_is_some input e
arrives_by w (Send client from len) input written free e = none_is_some input e
arrives_by w (Fin client) input written free e = none_is_some input e
arrives_by w (Ack client window) input written free e = none_is_some input e
arrives_by w (Reset client) input written free e = none_is_some input e
arrives_by w (Stop part) input written free e = none_is_some input e

module _ {S : Type 0} (services : ℕ → Machine S) (laws : AreLaws services) (waits : Lasting) (schedule : Schedule) (events : List Event) (trace : List LastingMoment) where
  abbrev here : LastingWorld
  here = lasting_after (lasting_start waits schedule) trace

  abbrev service : Machine S
  service = services (kind_of schedule.service)

  -- what an event does extends the trace
  module _ (w : KeptWorld S) (event : Event) (s : StandsAfter services waits schedule events trace w) (fits : FitsEvent event) where
    pub all_fit : AllByRecursion FitsEvent (events ++ event ∷ [])
    all_fit = all_append FitsEvent events (event ∷ []) s.fits (fits, tt)

    pub legal_then : (parcels : List Parcel) (world : LastingWorld) → lasting_refusal here event ≡ None → LastingHappens service here event parcels world
        → IsLastingLegalFor services waits schedule (events ++ event ∷ []) (record { event = event; parcels = parcels; world = world } ∷ trace)
    legal_then parcels world free happens = record { joint = (s.legal.joint, free, happens); events_are = ap (λ es. es ++ event ∷ []) s.legal.events_are }

    -- how server and log write stays
    grammar_is : grammar_in here ≡ run_grammar schedule
    grammar_is = ap grammar_of (sym s.stands.around.profile ∙ ap profile_of s.profile)

    pub written_then : (parcels : List Parcel) (world : LastingWorld) → lasting_refusal here event ≡ None → LastingHappens service here event parcels world
        → AllByRecursion (IsWritten (run_grammar schedule)) parcels
    written_then parcels world free happens =
        (laws.sent waits schedule (events ++ event ∷ []) (record { event = event; parcels = parcels; world = world } ∷ trace) s.playable all_fit (legal_then parcels world free happens)).0

    readable : AllByRecursion (λ x. IsWritten (grammar_in here) x.parcel) here.sent
    readable = subst (λ g. AllByRecursion (λ x. IsWritten g x.parcel) here.sent) (sym grammar_is) (laws.kept waits schedule events trace s.playable s.fits s.legal)

    fair_to : (n : LastingNode) → here.node ≡ Some n → (input : LastingInput) → Arrives here input → IsFairTo service here.patience n input
    fair_to n up (Usual_comes input) comes = record {
      near = λ kept none. laws.near waits schedule events trace n input s.playable s.fits s.legal up comes;
      sound = laws.sound waits schedule events trace n input s.playable s.fits s.legal up comes;
      unfenced = laws.unfenced waits schedule events trace n input s.playable s.fits s.legal up comes;
    }
    fair_to n up (Forget_comes message) comes = tt

    pub fair : lasting_refusal here event ≡ None → IsFairStep service here event
    fair free = record {
      turn = λ input e n up. fair_to n up input (arrives_by here event input readable free e);
      readable = readable;
      written = λ parcels world happens. subst (λ g. AllByRecursion (IsWritten g) parcels) (sym grammar_is) (written_then parcels world free happens);
    }

    abbrev pub extends : (w' : KeptWorld S) → Advances service here event w w' → Extends services waits schedule events trace event w'
    extends w' a = record {
      moment = record { event = event; parcels = a.next.parcels; world = a.next.world };
      stands = record {
        kind = a.next.kind ∙ s.kind;
        profile = a.next.profile ∙ s.profile;
        playable = s.playable;
        fits = all_fit;
        legal = legal_then a.next.parcels a.next.world a.allowed a.next.goes;
        stands = a.next.stands;
      };
    }

drop_front : {A : Type 0} (n : ℕ) (xs ys : List A) → length xs ≡ n → drop n (xs ++ ys) ≡ ys
drop_front zero [] ys e = refl
drop_front (suc n) (x ∷ xs) ys e = drop_front n xs ys (omega arith)
drop_front (suc n) [] ys e = absurd (omega arith)
drop_front zero (x ∷ xs) ys e = absurd (omega arith)

all_spelled : (grammar : Grammar) (n : ℕ) (up_to : Key → ℕ) (stored : List Stored) (sent : List Sent) → AllStand grammar n up_to stored sent
    → map (λ k. k.bytes) stored ≡ map (λ s. bytes_of grammar s.parcel) sent
all_spelled grammar n up_to [] [] a = refl
all_spelled grammar n up_to (k ∷ stored) (s ∷ sent) a = ap₂ (λ b bs. b ∷ bs) a.0.spells (all_spelled grammar (n + 1) up_to stored sent a.1)
all_spelled grammar n up_to [] (s ∷ sent) a = absurd a
all_spelled grammar n up_to (k ∷ stored) [] a = absurd a

-- what is stored is as many packets as were sent
pub stored_bytes : (grammar : Grammar) (network : Network) (sent : List Sent) → NetworkStands grammar network sent → network.packets.bytes ≡ map (λ s. bytes_of grammar s.parcel) sent
stored_bytes grammar network sent n = n.bytes ∙ all_spelled grammar 0 (lost_to network) n.stored sent n.parcels

pub byte_count : (grammar : Grammar) (network : Network) (sent : List Sent) → NetworkStands grammar network sent → length network.packets.bytes ≡ length sent
byte_count grammar network sent n = ap length (stored_bytes grammar network sent n) ∙ length-map sent (λ s. bytes_of grammar s.parcel)

pub way_count : (grammar : Grammar) (network : Network) (sent : List Sent) → NetworkStands grammar network sent → length network.packets.ways ≡ length sent
way_count grammar network sent n = ap length n.ways ∙ (length-map n.stored (λ k. k.way) ∙ as_many grammar 0 (lost_to network) n.stored sent n.parcels)

parcel_bytes : (grammar : Grammar) (parcels : List Parcel) → map (λ s. bytes_of grammar s.parcel) (under_way parcels) ≡ map (bytes_of grammar) parcels
parcel_bytes grammar [] = refl
parcel_bytes grammar (p ∷ ps) = ap (λ bs. bytes_of grammar p ∷ bs) (parcel_bytes grammar ps)

module _ {S : Type 0} (services : ℕ → Machine S) (laws : AreLaws services) (w w' : KeptWorld S) (event : Event) (fits : FitsEvent event) (does : Does (services w.kind) event w w') where
  module _ (waits : Lasting) (schedule : Schedule) (events : List Event) (trace : List LastingMoment) (s : StandsAfter services waits schedule events trace w) where
    abbrev at : LastingWorld
    at = lasting_after (lasting_start waits schedule) trace

    abbrev by : Machine S
    by = services (kind_of schedule.service)

    pub advances : Advances by at event w w'
    advances = subst (λ k. Does (services k) event w w') s.kind does at s.stands (fair services laws waits schedule events trace w event s fits)

    abbrev extended : Extends services waits schedule events trace event w'
    extended = extends services laws waits schedule events trace w event s fits w' advances

    grew : Sends at advances.next.parcels advances.next.world
    grew = event_sends by event at advances.next.parcels advances.next.world advances.next.goes

    long : length grew.earlier ≡ length at.sent
    long = sym (length-map grew.earlier (λ x. x.parcel)) ∙ (ap length grew.same ∙ length-map at.sent (λ x. x.parcel))

    sent_count : length advances.next.world.sent ≡ length at.sent + length advances.next.parcels
    sent_count =
        let all : length advances.next.world.sent ≡ length grew.earlier + length (under_way advances.next.parcels) = ap length grew.is ∙ length-append grew.earlier (under_way advances.next.parcels) in
        let these : length (under_way advances.next.parcels) ≡ length advances.next.parcels = length-map advances.next.parcels (λ parcel. record { parcel = parcel; lost = false }) in
        omega (arith, all, these, long)

    same_grammar : grammar_in advances.next.world ≡ run_grammar schedule
    same_grammar = ap grammar_of (sym advances.next.stands.around.profile ∙ ap profile_of (advances.next.profile ∙ s.profile))

    bytes_after : drop (length at.sent) w'.around.network.packets.bytes ≡ map (bytes_of (run_grammar schedule)) advances.next.parcels
    bytes_after =
        let g : Grammar = grammar_in advances.next.world in
        let parts = ap (map (λ x. bytes_of g x.parcel)) grew.is ∙ map-append (λ x. bytes_of g x.parcel) grew.earlier (under_way advances.next.parcels) in
        let many : length (map (λ x. bytes_of g x.parcel) grew.earlier) ≡ length at.sent = length-map grew.earlier (λ x. bytes_of g x.parcel) ∙ long in
        ap (drop (length at.sent)) (stored_bytes g w'.around.network advances.next.world.sent advances.next.stands.around.network ∙ parts)
        ∙ (drop_front (length at.sent) (map (λ x. bytes_of g x.parcel) grew.earlier) (map (λ x. bytes_of g x.parcel) (under_way advances.next.parcels)) many
        ∙ (parcel_bytes g advances.next.parcels ∙ ap (λ h. map (bytes_of h) advances.next.parcels) same_grammar))

    ways_after : drop (length at.sent) w'.around.network.packets.ways ≡ map (way_of_lasting advances.next.world.guests) advances.next.parcels
    ways_after =
        ap (drop (length at.sent)) advances.next.ways
        ∙ drop_front (length at.sent) w.around.network.packets.ways (map (way_of_lasting advances.next.world.guests) advances.next.parcels)
        (way_count (grammar_in at) w.around.network at.sent s.stands.around.network)

    count_before : length w.around.network.packets.bytes ≡ length at.sent
    count_before = byte_count (grammar_in at) w.around.network at.sent s.stands.around.network

    count_after : length w'.around.network.packets.bytes ≡ length advances.next.world.sent
    count_after = byte_count (grammar_in advances.next.world) w'.around.network advances.next.world.sent advances.next.stands.around.network

  -- a step is what an event does, with the count of its packets
  pub steps : (r : Result StepOut StepEnd) (before : ℕ) → before ≡ length w.around.network.packets.bytes
      → IfOk r (λ out. out.first + out.count ≡ length w'.around.network.packets.bytes + 1)
      → IfOk r (λ out. out.count ≡ length w'.around.network.packets.bytes - before) → OnOk r (length w'.around.network.packets.bytes ≤ 200000)
      → IfOk r (λ answer. StepsAlong services event answer w w')
  steps (Err end) before b f n l = tt
  steps (Ok out) before b f n l = λ waits schedule events trace s.
      let x : Extends services waits schedule events trace event w' = extended waits schedule events trace s in
      let old = count_before waits schedule events trace s in
      let now = count_after waits schedule events trace s in
      let more = sent_count waits schedule events trace s in
      record {
        extends = x;
        first = omega (arith, f, n, b, old, now, more);
        count = n ∙ omega (arith, b, old, now, more);
        within = omega (arith, l, now);
        ways = ways_after waits schedule events trace s;
        bytes = bytes_after waits schedule events trace s;
        written = written_then services laws waits schedule events trace w event s fits x.moment.parcels x.moment.world
            (advances waits schedule events trace s).allowed (advances waits schedule events trace s).next.goes;
      }

  pub limits : (r : Result StepOut StepEnd) → IfErr r (λ end. (end ≡ PacketLimit) × (200000 < length w'.around.network.packets.bytes)) → IfErr r (λ end. EndsAlong services event end w w')
  limits (Ok out) h = tt
  limits (Err end) h =
      subst (λ e. EndsAlong services event e w w') (sym h.0)
      (λ waits schedule events trace s.
      (extended waits schedule events trace s, subst (λ n. 200000 < n) (count_after waits schedule events trace s) h.1))

-- an event that isn't done ends the step
pub ends_so : {S : Type 0} (services : ℕ → Machine S) (w w' : KeptWorld S) (event : Event) (end : StepEnd) → Declines (services w.kind) event w w' end → EndsAlong services event end w w'
ends_so services w w' event NoMemory d = λ waits schedule events trace s. tt
ends_so services w w' event (BadEvent y) d = λ waits schedule events trace s.
    (subst (λ k. Declines (services k) event w w' (BadEvent y)) s.kind d).0 (lasting_after (lasting_start waits schedule) trace) s.stands
ends_so services w w' event PacketLimit d = absurd d

pub keeps_refused : {S : Type 0} (service : Machine S) (w w' : KeptWorld S) (event : Event) (end : StepEnd) → Declines service event w w' end → KeepsAtRefusal w w' end
keeps_refused _ w w' event NoMemory d = tt
keeps_refused _ w w' event (BadEvent y) d = d.1
keeps_refused _ w w' event PacketLimit d = absurd d

-- whatever is stored is a parcel
pub all_kept : {S : Type 0} (services : ℕ → Machine S) (waits : Lasting) (schedule : Schedule) (events : List Event) (trace : List LastingMoment) (w : KeptWorld S)
    → AllByRecursion (λ s. IsWritten (run_grammar schedule) s.parcel) (lasting_after (lasting_start waits schedule) trace).sent → StandsAfter services waits schedule events trace w
    → KeepsAllLasting schedule w.around.network.packets
all_kept services waits schedule events trace w written s = λ number way bytes goes spelled.
    let at : LastingWorld = lasting_after (lasting_start waits schedule) trace in
    let same : grammar_in at ≡ run_grammar schedule = ap grammar_of (sym s.stands.around.profile ∙ ap profile_of s.profile) in
    let f : Found (grammar_in at) w.around.network at.sent number way = found (grammar_in at) w.around.network at.sent number way s.stands.around.network goes in
    record {
      parcel = f.s.parcel;
      goes = f.goes;
      spells = some_is bytes (bytes_of (grammar_in at) f.s.parcel) (sym spelled ∙ f.bytes) ∙ ap (λ g. bytes_of g f.s.parcel) same;
      written = written_at (run_grammar schedule) at.sent number f.s written f.is;
    }

-- before the first event
pub starts : {S : Type 0} (services : ℕ → Machine S) (waits : Lasting) (schedule : Schedule) (w : KeptWorld S) → IsPlayable schedule → w.kind ≡ kind_of schedule.service
    → w.server ≡ schedule.server → w.patience ≡ record { wait = waits.wait; silence = waits.silence } → w.boot ≡ 0 → w.node ≡ None → w.around.profile ≡ schedule.profile
    → AroundStands (lasting_start waits schedule) w.around → StandsAfter services waits schedule [] [] w
starts {S} services waits schedule w playable kind server patience boot node profile around = record {
  kind = kind;
  profile = profile;
  playable = playable;
  fits = tt;
  legal = record { joint = tt; events_are = refl };
  stands = record {
    server = server;
    patience = ap patience_of patience;
    around = around;
    boot = boot;
    node = subst (NodeStands (services (kind_of schedule.service)) w.kind w.around.profile w.patience None) (sym node) tt;
  };
}

pub worlds_keep : {S : Type 0} (services : ℕ → Machine S)
    → ((waits : Lasting) (schedule : Schedule) (events : List Event) (trace : List LastingMoment) → IsPlayable schedule → AllByRecursion FitsEvent events
    → IsLastingLegalFor services waits schedule events trace → AllByRecursion (λ s. IsWritten (grammar_of (profile_of schedule.profile)) s.parcel) (lasting_after (lasting_start waits schedule) trace).sent)
    → (waits : Lasting) (schedule : Schedule) (events : List Event) (trace : List LastingMoment) (w : KeptWorld S) → StandsAfter services waits schedule events trace w
    → KeepsAllLasting schedule w.around.network.packets
worlds_keep services kept waits schedule events trace w s = all_kept services waits schedule events trace w (kept waits schedule events trace s.playable s.fits s.legal) s
