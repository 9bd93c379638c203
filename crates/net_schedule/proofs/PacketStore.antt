-- The packets that the network keeps, as those of the definitions: what is put after them, and each by its number.
use Rattle.std.proofs.Common.{◌≡◌, ◌∙◌, sym, ap, ap₂, subst, refl, ℕ, zero, suc, Option, Some, None, option_map, List, [], ◌∷◌, ◌++◌, map, drop, slice_get, append-nil, append_assoc, length, ◌≤◌, arith, length-append}
use Rattle.std.specs.Option.{option_to_list}
use Rattle.std.proofs.lemmas.List.{map-append, length-map}
use Rattle.ft_io.specs.declared.Key.{Key}
use Rattle.seq_arith.specs.Message.{Message}
use Rattle.seq_arith.specs.declared.kinds.Grammar.{Grammar}
use Rattle.seq_arith.specs.MessageGrammar.{spelled, header, spelling_by}
use Rattle.ft_model.specs.Network.{Packet, packet_at}
use Rattle.ft_model.specs.Network.Packet.{To_server, To_client, To_logger, From_logger}
use Rattle.ft_model.specs.Wire.{Wire, Party, wire_by, wire_of}
use Rattle.ft_model.specs.declared.way.Way.{Way}
use Rattle.ft_model.specs.declared.way.Way.TheVariants.{LoggerToServer}
use Rattle.ft_model.proofs.Lists.{none_is_some, some_is}
use Rattle.logger_store.specs.StoreState.{answer_bytes_by}
use Rattle.node_serving.specs.SentBytes.{party_of}
use Rattle.node_serving.specs.declared.out_packet.To.{To}
use Rattle.node_serving.specs.declared.out_packet.To.TheVariants.{Client, Logger}
use Rattle.schedule_network.specs.AtNumber.{at_number}
use Rattle.schedule_network.specs.StoredPackets.{Carried, carried, with_packet, with_wires, with_answer, way_along, way_between, way_to}

abbrev pack : List Way → List (List ℕ) → Carried
pack ways bytes = record { ways = ways; bytes = bytes }

-- what is sent after what was kept
pub sent_kept : (grammar : Grammar) (keys : List Key) (kept : Carried) (ps qs : List Packet) → kept ≡ carried keys (map (wire_by grammar) ps) → with_wires keys kept (map (wire_by grammar) qs) ≡ carried keys (map (wire_by grammar) (ps ++ qs))
sent_kept grammar keys kept ps qs e =
    ap (λ k. with_wires keys k (map (wire_by grammar) qs)) e
    ∙ ap₂ pack (sym (map-append (way_along keys) (map (wire_by grammar) ps) (map (wire_by grammar) qs))) (sym (map-append (λ w. w.bytes) (map (wire_by grammar) ps) (map (wire_by grammar) qs)))
    ∙ ap (carried keys) (sym (map-append (wire_by grammar) ps qs))

-- nothing is sent
pub none_sent : (keys : List Key) (kept : Carried) → kept ≡ with_wires keys kept []
none_sent keys kept = ap₂ pack (sym (append-nil kept.ways)) (sym (append-nil kept.bytes))

-- a packet after others is a wire after theirs
pub one_wire : (keys : List Key) (kept : Carried) (wires : List Wire) (w : Wire) → with_packet (with_wires keys kept wires) (way_along keys w) w.bytes ≡ with_wires keys kept (wires ++ w ∷ [])
one_wire keys kept wires w =
    ap₂ pack
    (append_assoc kept.ways (map (way_along keys) wires) (way_along keys w ∷ []) ∙ ap (λ xs. kept.ways ++ xs) (sym (map-append (way_along keys) wires (w ∷ []))))
    (append_assoc kept.bytes (map (λ x. x.bytes) wires) (w.bytes ∷ []) ∙ ap (λ xs. kept.bytes ++ xs) (sym (map-append (λ x. x.bytes) wires (w ∷ []))))

-- what the server sends goes to its addressee
pub way_of_sent : (keys : List Key) (from : Party) (to : To) → way_to keys (party_of to) ≡ way_between keys from (party_of to)
way_of_sent keys from (Client key) = refl
way_of_sent keys from Logger = refl

-- a message has bytes
pub spelling_begins : (grammar : Grammar) (message : Message) → (b : ℕ) × (bytes : List ℕ) × (spelling_by grammar message ≡ b ∷ bytes)
unfolding spelling_by spelled header
spelling_begins grammar message = (70, drop 1 (spelling_by grammar message), refl)

-- the logger's answer, if it gives one
pub answer_kept : (grammar : Grammar) (keys : List Key) (kept : Carried) (answer : Option Message) → with_answer kept (answer_bytes_by grammar answer) ≡ with_wires keys kept (map (wire_by grammar) (option_to_list (option_map From_logger answer)))
answer_kept grammar keys kept None = none_sent keys kept
answer_kept grammar keys kept (Some message) =
    let s : (b : ℕ) × (bytes : List ℕ) × (spelling_by grammar message ≡ b ∷ bytes) = spelling_begins grammar message in
    ap (with_answer kept) s.2 ∙ ap (with_packet kept LoggerToServer) (sym s.2)

-- the direction of a packet doesn't depend on how messages are written
pub ways_alike : (grammar : Grammar) (keys : List Key) (packet : Packet) → way_along keys (wire_by grammar packet) ≡ way_along keys (wire_of packet)
ways_alike grammar keys (To_server segment) = refl
ways_alike grammar keys (To_client segment) = refl
ways_alike grammar keys (To_logger message) = refl
ways_alike grammar keys (From_logger message) = refl

-- a packet by its number
pub record Found (grammar : Grammar) (keys : List Key) (ps : List Packet) (n : ℕ) (way : Way) (bytes : List ℕ) : Type 0 where
  pub packet : Packet
  pub is : packet_at ps n ≡ Some packet
  pub goes : way ≡ way_along keys (wire_of packet)
  pub spells : bytes ≡ (wire_by grammar packet).bytes

-- an element of a list by its place, as its direction and its bytes are stored
pub record FoundAt {X : Type 0} (way_of : X → Way) (bytes_of : X → List ℕ) (xs : List X) (i : ℕ) (way : Way) (bytes : List ℕ) : Type 0 where
  pub one : X
  pub is : slice_get xs i ≡ Some one
  pub goes : way ≡ way_of one
  pub spells : bytes ≡ bytes_of one

pub found_at : {X : Type 0} (way_of : X → Way) (bytes_of : X → List ℕ) (xs : List X) (i : ℕ) (way : Way) (bytes : List ℕ) → slice_get (map way_of xs) i ≡ Some way
    → slice_get (map bytes_of xs) i ≡ Some bytes → FoundAt way_of bytes_of xs i way bytes
found_at way_of bytes_of [] i way bytes e f = none_is_some way e
found_at way_of bytes_of (x ∷ xs) zero way bytes e f = record { one = x; is = refl; goes = sym (some_is (way_of x) way e); spells = sym (some_is (bytes_of x) bytes f) }
found_at way_of bytes_of (x ∷ xs) (suc i) way bytes e f =
    let r : FoundAt way_of bytes_of xs i way bytes = found_at way_of bytes_of xs i way bytes e f in
    record { one = r.one; is = r.is; goes = r.goes; spells = r.spells }

pub twice : {X Y Z : Type 0} (f : Y → Z) (g : X → Y) (xs : List X) → map f (map g xs) ≡ map (λ x. f (g x)) xs
twice f g [] = refl
twice f g (x ∷ xs) = ap (λ ys. f (g x) ∷ ys) (twice f g xs)

pub found : (grammar : Grammar) (keys : List Key) (kept : Carried) (ps : List Packet) (n : ℕ) (way : Way) (bytes : List ℕ) → kept ≡ carried keys (map (wire_by grammar) ps) → at_number kept.ways n ≡ Some way → at_number kept.bytes n ≡ Some bytes
    → Found grammar keys ps n way bytes
found grammar keys kept ps zero way bytes k e f = none_is_some way e
found grammar keys kept ps (suc n) way bytes k e f =
    let r = found_at (λ p. way_along keys (wire_by grammar p)) (λ p. (wire_by grammar p).bytes) ps n way bytes
    (subst (λ ws. slice_get ws n ≡ Some way) (ap (λ c. c.ways) k ∙ twice (way_along keys) (wire_by grammar) ps) e)
    (subst (λ bs. slice_get bs n ≡ Some bytes) (ap (λ c. c.bytes) k ∙ twice (λ w. w.bytes) (wire_by grammar) ps) f) in
    record { packet = r.one; is = r.is; goes = r.goes ∙ ways_alike grammar keys r.one; spells = r.spells }

-- there is none of this number
pub missing_at : {A X : Type 0} (f : A → X) (ps : List A) (i : ℕ) → slice_get (map f ps) i ≡ None → slice_get ps i ≡ None
missing_at f [] i e = refl
missing_at f (p ∷ ps) zero e = none_is_some (f p) (sym e)
missing_at f (p ∷ ps) (suc i) e = missing_at f ps i e

pub no_way : (grammar : Grammar) (keys : List Key) (kept : Carried) (ps : List Packet) (n : ℕ) → kept ≡ carried keys (map (wire_by grammar) ps) → at_number kept.ways n ≡ None → packet_at ps n ≡ None
no_way grammar keys kept ps zero k e = refl
no_way grammar keys kept ps (suc n) k e =
    missing_at (λ p. way_along keys (wire_by grammar p)) ps n (subst (λ ws. slice_get ws n ≡ None) (ap (λ c. c.ways) k ∙ twice (way_along keys) (wire_by grammar) ps) e)

pub no_bytes : (grammar : Grammar) (keys : List Key) (kept : Carried) (ps : List Packet) (n : ℕ) → kept ≡ carried keys (map (wire_by grammar) ps) → at_number kept.bytes n ≡ None → packet_at ps n ≡ None
no_bytes grammar keys kept ps zero k e = refl
no_bytes grammar keys kept ps (suc n) k e =
    missing_at (λ p. (wire_by grammar p).bytes) ps n (subst (λ bs. slice_get bs n ≡ None) (ap (λ c. c.bytes) k ∙ twice (λ w. w.bytes) (wire_by grammar) ps) e)

-- so many packets are kept as were sent
pub as_many : (grammar : Grammar) (keys : List Key) (kept : Carried) (ps : List Packet) → kept ≡ carried keys (map (wire_by grammar) ps) → length kept.bytes ≡ length ps
as_many grammar keys kept ps k = ap (λ c. length c.bytes) k ∙ length-map (map (wire_by grammar) ps) (λ w. w.bytes) ∙ length-map ps (wire_by grammar)

pub wires_grow : (keys : List Key) (kept : Carried) (wires : List Wire) → length kept.bytes ≤ length (with_wires keys kept wires).bytes
wires_grow keys kept wires = omega (arith, length-append kept.bytes (map (λ w. w.bytes) wires))

pub packet_grows : (kept : Carried) (way : Way) (bytes : List ℕ) → length kept.bytes ≤ length (with_packet kept way bytes).bytes
packet_grows kept way bytes = omega (arith, length-append kept.bytes (bytes ∷ []))
