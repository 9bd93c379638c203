-- The turn of one place.
use Rattle.tcp_rules.specs.declared.timestamping.Timestamping.{Timestamping}
use Rattle.std.proofs.Common.{◌≡◌, ◌∙◌, Bool, true, refl, ap, sym, subst, List, []}
use Rattle.std.specs.Prelude.{Result, Ok, Err, IfOk, OnOk}
use Rattle.std.specs.Bool.{MatchBool}
use Rattle.std.proofs.lemmas.Bool.{eq-eqb}
use Rattle.ft_io.specs.declared.Key.{Key}
use Rattle.seq_arith.specs.Message.{Numbers}
use Rattle.seq_arith.specs.Message.Body.{OpenedMsg}
use Rattle.server_trait.specs.Service.{Machine}
use Rattle.ft_model.specs.Network.{Packet}
use Rattle.ft_model.specs.Node.{Node, Place, Stage, Input, key_of}
use Rattle.ft_model.specs.News.News.{Begins}
use Rattle.ft_model.specs.Node.Place.{Opens}
use Rattle.ft_model.specs.Opening.{point_opened}
use Rattle.ft_model.specs.ServingTurn.{LivesOn, OnReceipt, Meets, PlaceTurn, Stays, concerns}
use Rattle.ft_model.specs.Wire.{Wire}
use Rattle.plain_packets.specs.Sent.{Appends}
use Rattle.plain_packets.proofs.Sent.{appends_none}
use Rattle.plain_world.specs.declared.incarnation.Incarnation.{Incarnation}
use Rattle.plain_world.specs.NodeTurns.{SendsBy}
use Rattle.plain_world.specs.Values.{node_of}

pub if_ok_more : {V E : Type 0} (P Q : V → Type 0) (r : Result V E) → ((v : V) → P v → Q v) → IfOk r P → IfOk r Q
if_ok_more P Q (Ok v) more h = more v h
if_ok_more P Q (Err e) more h = tt

-- nothing is sent
pub sends_nothing : (Says : List Packet → Type 0) (wires : List Wire) → Says [] → SendsBy Says wires wires
sends_nothing Says wires says = record { sent = []; lawful = says; packets = appends_none wires }

-- what a law says of what is sent, another says too
pub sends_as : (Says Also : List Packet → Type 0) (old new : List Wire) → ((sent : List Packet) → Says sent → Also sent) → SendsBy Says old new → SendsBy Also old new
sends_as Says Also old new more h = record { sent = h.sent; lawful = more h.sent h.lawful; packets = h.packets }

pub concerned : {S : Type 0} (service : Machine S) (node : Node) (input : Input) (place : Place) (now : List Place) (old new : List Wire)
    → concerns node input (key_of place) ≡ true → SendsBy (Meets service node input place now) old new → SendsBy (PlaceTurn service node input place now) old new
concerned service node input place now old new e h =
    sends_as (Meets service node input place now) (PlaceTurn service node input place now) old new
    (λ sent m. subst (λ b. MatchBool b (Meets service node input place now sent) (Stays place now sent)) (sym e) m) h

-- Opened with the client's number
pub opened_same : {S : Type 0} (service : Machine S) (node : Node) (kept asked : Numbers) (timestamping : Timestamping) (now : List Place) (old new : List Wire) → kept.cisn ≡ asked.cisn
    → SendsBy (LivesOn service node Begins (point_opened node.profile timestamping kept) now) old new → SendsBy (OnReceipt service node (OpenedMsg kept) (Opens asked timestamping) now) old new
opened_same service node kept asked timestamping now old new e h =
    sends_as (LivesOn service node Begins (point_opened node.profile timestamping kept) now) (OnReceipt service node (OpenedMsg kept) (Opens asked timestamping) now) old new
    (λ sent l. subst (λ b. MatchBool b (LivesOn service node Begins (point_opened node.profile timestamping kept) now sent) ((now ≡ []) × (sent ≡ []))) (sym (eq-eqb kept.cisn asked.cisn e)) l) h

-- a place that an input concerns
pub concerned_turns : {S E : Type 0} (service : Machine S) (who : Incarnation) (input : Input) (place : Place) (key : Key) (left : Bool → List Place) (r : Result Bool E) (old new : List Wire)
    → key ≡ key_of place → ((stage : Stage) → true ≡ concerns (node_of who stage) input key)
    → IfOk r (λ stays. (stage : Stage) → SendsBy (Meets service (node_of who stage) input place (left stays)) old new)
    → IfOk r (λ stays. (stage : Stage) → SendsBy (PlaceTurn service (node_of who stage) input place (left stays)) old new)
concerned_turns service who input place key left (Ok stays) old new is e h =
    λ stage. concerned service (node_of who stage) input place (left stays) old new (ap (concerns (node_of who stage) input) (sym is) ∙ sym (e stage)) (h stage)
concerned_turns service who input place key left (Err end) old new is e h = tt

pub on_ok : {V E : Type 0} (Q : Type 0) (r : Result V E) → Q → OnOk r Q
on_ok Q (Ok v) q = q
on_ok Q (Err e) q = tt

pub on_ok_more : {V E : Type 0} (P Q : Type 0) (r : Result V E) → (P → Q) → OnOk r P → OnOk r Q
on_ok_more P Q (Ok v) more p = more p
on_ok_more P Q (Err e) more p = tt

pub sends_these : {A : Type 0} (x : A) (packets : List Packet) (old new : List Wire) → Appends old new packets → SendsBy (λ sent. (x ≡ x) × (sent ≡ packets)) old new
sends_these x packets old new puts = record { sent = packets; lawful = (refl, refl); packets = puts }

pub on_ok_both : {V E : Type 0} (P Q R : Type 0) (r : Result V E) → (P → Q → R) → OnOk r P → OnOk r Q → OnOk r R
on_ok_both P Q R (Ok v) both p q = both p q
on_ok_both P Q R (Err e) both p q = tt
