-- A quarantine lasts `wait` ticks, and while a connection is leaving its segments are dropped.
use Rattle.std.proofs.Common.{◌≡◌, inl, inr, ℕ, true, ◌&&◌, refl, ap, ◌∙◌, subst, leb-true, MatchBool, Option, Some, None, List, [], filter}
use Rattle.std.proofs.lemmas.Bool.{and_from}
use Rattle.std.specs.List.{AllByRecursion, list_any}
use Rattle.ft_io.specs.declared.Key.{Key}
use Rattle.ft_io.specs.Key.{key_eq}
use Rattle.server_trait.specs.Service.{Machine}
use Rattle.seq_arith.specs.Packet.{Segment}
use Rattle.ft_model.specs.Network.{Packet, packet_at, source_of}
use Rattle.ft_model.specs.Network.Packet.{To_server}
use Rattle.ft_model.specs.Node.{Node, Place, Stage, Input, is_for}
use Rattle.ft_model.specs.Node.Input.{Packet_comes, Message_comes, Noise_comes, Tick_comes}
use Rattle.ft_model.specs.Node.Place.{Opens, Lives, Ended}
use Rattle.ft_model.specs.declared.event.Event.TheVariants.{Deliver}
use Rattle.ft_model.proofs.Lists.{all_of, all_map}
use Rattle.ft_model.proofs.PlaceTurns.{all_flat}
use Rattle.long_laws.specs.Forgetting.{Named, forget}
use Rattle.long_laws.specs.LongTrace.{places_at}
use Rattle.long_laws.specs.LongTrace.LongStep.{Joint_event}
use Rattle.long_laws.specs.Quarantine.{Quarantined, is_leaving, named_in, quarantined_at, proceeds_or_begins, quarantine_of, quarantine_after, forgets, ProceedsOrBegins, HasWaited}
use Rattle.long_laws.specs.QuarantineWorld.{QuarantineWorld, arriving, drops, is_full_input, DropsSilently, Usually, MayQuarantine}
use Rattle.long_laws.specs.QuarantineWorld.QuarantineStep.{Usual}
use Rattle.long_laws.proofs.Others.{all_filtered}

pub all_have_waited : (wait boot : ℕ) (input : Input) (qs : List Quarantined) → AllByRecursion (HasWaited wait boot input) (forgets wait boot input qs)
all_have_waited wait boot Tick_comes qs =
    all_map (HasWaited wait boot Tick_comes) (λ q. forget boot q.named) (filter (is_leaving wait) qs)
    (all_filtered (λ q. Unit {0}) (λ q. HasWaited wait boot Tick_comes (forget boot q.named)) (is_leaving wait) qs (λ q t u. (q, refl, leb-true wait q.age t, refl))
    (all_of (λ q. Unit {0}) qs (λ q. tt)))
all_have_waited wait boot (Packet_comes segment) qs = tt
all_have_waited wait boot (Message_comes message) qs = tt
all_have_waited wait boot Noise_comes qs = tt

one_ages : (input : Input) (qs : List Quarantined) (key : Key) (q : Option Quarantined) (n : Option Named) → quarantined_at key qs ≡ q
    → AllByRecursion (ProceedsOrBegins input qs) (proceeds_or_begins input q n)
one_ages input qs key (Some q) n e = (inl (key, q, e, refl), tt)
one_ages input qs key None (Some n) e = (inr refl, tt)
one_ages input qs key None None e = tt

place_ages : (node : Node) (input : Input) (qs : List Quarantined) (place : Place) → AllByRecursion (ProceedsOrBegins input qs) (quarantine_of node input qs place)
place_ages node input qs (Ended key) = one_ages input qs key (quarantined_at key qs) (named_in node input node.stage key) refl
place_ages node input qs (Lives p) = tt
place_ages node input qs (Opens n timestamping) = tt

pub all_age : (node : Node) (input : Input) (later : Stage) (qs : List Quarantined) → AllByRecursion (ProceedsOrBegins input qs) (quarantine_after node input later qs)
all_age node input later qs =
    all_flat (λ place. Unit {0}) (ProceedsOrBegins input qs) (quarantine_of node input qs) (places_at later) (λ place u. place_ages node input qs place)
    (all_of (λ place. Unit {0}) (places_at later) (λ place. tt))

pub leaving_dropped : {State : Type 0} (service : Machine State) (wait : ℕ) (before after : QuarantineWorld) (node : Node) (number : ℕ) (segment : Segment) (sent : List Packet)
    → before.now.node ≡ Some node → packet_at before.now.packets number ≡ Some (To_server segment) → is_for node.server segment ≡ true
    → list_any (λ q. key_eq q.named.key (source_of segment) && is_leaving wait q) before.quarantine ≡ true
    → MayQuarantine service wait before (Usual (Joint_event (Deliver number))) sent after → (sent ≡ []) × (after ≡ before)
leaving_dropped service wait before after node number segment sent up at own leaving (b, m) =
    let dropped : drops wait before.now.node (arriving (packet_at before.now.packets number)) before.quarantine ≡ true =
    ap (λ n. drops wait n (arriving (packet_at before.now.packets number)) before.quarantine) up
    ∙ (ap (λ p. drops wait (Some node) (arriving p) before.quarantine) at ∙ and_from (is_for node.server segment) _ own leaving) in
    subst (λ d. MatchBool d ((sent ≡ []) × (after ≡ before))
    (MatchBool (is_full_input (arriving (packet_at before.now.packets number))) (DropsSilently service before (Joint_event (Deliver number)) sent after)
    (Usually service wait before (Joint_event (Deliver number)) sent after))) dropped m
