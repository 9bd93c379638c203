-- Every drawn event is allowed ..
use Rattle.std.proofs.Common.{◌≡◌, ◌∙◌, refl, ap, ℕ, zero, suc, ◌+◌, ◌-◌, ◌%◌, ◌<◌, ◌≤◌, min, true, false, ◌&&◌, ◌||◌, ◌==◌, nat_lt, nat_le, is_some, Option, Some, None, List, [], ◌∷◌, length, slice_get, arith, le-leb, ltb-true, eqb-true, if◌then◌else◌}
use Rattle.std.specs.List.{AllByRecursion}
use Rattle.std.proofs.Math.Nat.{mod-lt}
use Rattle.std.proofs.lemmas.Bool.Decides.{nat_tests}
use Rattle.std.proofs.lemmas.Bool.{and_parts, or_parts, and_from}
use Rattle.ft_model.specs.Client.{Client, Move, suits_phase, suits_range, is_new, is_opening, is_open}
use Rattle.ft_model.specs.Client.Move.{Syn, Text, Fin, Acknowledge}
use Rattle.ft_model.specs.Legal.{refusal, refusal_of_client}
use Rattle.ft_model.specs.Network.{packet_at}
use Rattle.ft_model.specs.World.{World, client_at}
use Rattle.ft_model.specs.declared.event.Event.TheVariants as events
use Rattle.ft_model.specs.declared.event.EventWhy.TheVariants as why
use Rattle.pseudorandom.specs.Generator.{stepped}
use Rattle.replay_seed.specs.Draws.{draw}
use Rattle.replay_seed.specs.SeedEvents.{Drawn, server_event, risky_event, delivery, text_start, text_event, progress, acknowledgement, client_event, server_of, next_event_in}
use Rattle.replay_seed.proofs.Boots.{HasNextBoot}
use Rattle.replay_seed.proofs.Clients.{ClientInvariant}
use Rattle.ft_io.proofs.Choices.{holds_if}
use Rattle.ft_model.proofs.FaithfulOver.{client_there}

-- .. and where it is a boot, it has the next number
abbrev pub IsAllowed : World → Drawn → Type 0
IsAllowed w d = (refusal w d.event ≡ None) × HasNextBoot w d.event

late : (b : ℕ) → nat_le (b + 1) b ≡ false
late b = grind (arith, nat_tests)

is_up : (w : World) → is_some w.node ≡ true → refusal w events.Tick ≡ None
is_up w e = ap (λ b. if b then None else Some why.Down) e

server_allowed : (w : World) (state : ℕ) → IsAllowed w (server_event state (server_of w))
server_allowed w state =
    holds_if (IsAllowed w) (is_some w.node) (record { event = events.Tick; state = state })
    (record { event = events.Boot (w.boot + 1) (draw state); state = stepped state })
    (λ e. (is_up w e, tt))
    (λ e. (
      ap (λ b. if b then Some why.Up else (if nat_le (w.boot + 1) w.boot then Some why.Boot else None)) e
          ∙ ap (λ b. if b then Some why.Boot else None) (late w.boot),
      refl,
    ))

risky_allowed : (w : World) (state : ℕ) → IsAllowed w (risky_event state (server_of w))
risky_allowed w state =
    holds_if (IsAllowed w) (is_some w.node)
    (record { event = if draw state % 64 == 0 then events.Crash else events.Tick; state = stepped state }) (server_event state (server_of w))
    (λ e. holds_if (λ event. (refusal w event ≡ None) × HasNextBoot w event) (draw state % 64 == 0) events.Crash events.Tick (λ t. (is_up w e, tt)) (λ t. (is_up w e, tt)))
    (λ e. server_allowed w state)

-- a packet of a number that was sent
pub there : {A : Type 0} (xs : List A) (k : ℕ) → k < length xs → is_some (slice_get xs k) ≡ true
there [] k h = absurd (omega arith)
there (x ∷ xs) zero h = refl
there (x ∷ xs) (suc k) h = there xs k (omega arith)

was_sent : (w : World) (number : ℕ) → 0 < number → number ≤ length w.packets → is_some (packet_at w.packets number) ≡ true
was_sent w zero low high = absurd (omega arith)
was_sent w (suc k) low high = there w.packets k (omega arith)

back_less : (n d : ℕ) → 0 < n → d % min n 64 < min n 64
back_less n d h = mod-lt d (omega arith)

delivery_allowed : (w : World) (state : ℕ) → 0 < length w.packets → IsAllowed w (delivery state (length w.packets))
delivery_allowed w state some =
    let n : ℕ = length w.packets in
    let back : draw state % min (length w.packets) 64 < min (length w.packets) 64 = back_less (length w.packets) (draw state) some in (
      ap (λ b. if b then None else Some why.Packet)
          (was_sent w (length w.packets - draw state % min (length w.packets) 64) (omega (arith, back)) (omega arith)),
      tt,
    )

-- a move that suits the client is made
made : (w : World) (number : ℕ) (c : Client) (move : Move) → client_at w.clients number ≡ Some c → suits_phase c move ≡ true → suits_range c move ≡ true
    → refusal_of_client (client_at w.clients number) move ≡ None
made w number c move e phase range =
    ap (λ o. refusal_of_client o move) e
    ∙ (ap (λ b. if b then (if suits_range c move then None else Some why.Range) else Some why.State) phase
    ∙ ap (λ b. if b then None else Some why.Range) range)

-- text from here keeps within its range
in_range : (acked from sent total : ℕ) → acked ≤ from → from ≤ sent → from < total
    → (nat_le acked from && nat_le from sent && nat_le 1 (min 536 (total - from)) && nat_le (min 536 (total - from)) 1460 && nat_le (from + min 536 (total - from)) total) ≡ true
in_range acked from sent total a b c =
    and_from _ _ (and_from _ _ (and_from _ _ (and_from _ _ (le-leb acked from a) (le-leb from sent b)) (le-leb 1 (min 536 (total - from)) (omega (arith, c))))
    (le-leb (min 536 (total - from)) 1460 (omega arith))) (le-leb (from + min 536 (total - from)) total (omega (arith, c)))

abbrev IsStartOfText : Client → ℕ → Type 0
IsStartOfText c from = (c.acknowledged ≤ from) × (from ≤ c.sent) × (from < length c.script)

below_total : (sent total : ℕ) → (min sent total == total) ≡ false → min sent total < total
below_total sent total e = grind (arith, nat_tests, e)

text_starts : (state : ℕ) (c : Client) → c.acknowledged ≤ c.sent → c.acknowledged < length c.script → IsStartOfText c (text_start state c)
text_starts state c k left =
    holds_if (IsStartOfText c) (draw state % 2 == 1 || min c.sent (length c.script) == length c.script) c.acknowledged (min c.sent (length c.script))
    (λ t. (omega arith, k, left))
    (λ t. let less : min c.sent (length c.script) < length c.script = below_total c.sent (length c.script) (or_parts (draw state % 2 == 1) (min c.sent (length c.script) == length c.script) t).1 in
    (omega (arith, k, left, less), omega arith, less))

text_allowed : (w : World) (state number : ℕ) (c : Client) → client_at w.clients number ≡ Some c → c.acknowledged ≤ c.sent
    → is_open c.phase ≡ true → c.acknowledged < length c.script → IsAllowed w (text_event state number c)
text_allowed w state number c e k stands left =
    let starts = text_starts state c k left in (
      made w number c (Text (text_start state c) (min 536 (length c.script - text_start state c))) e
          (and_from _ _ stands (le-leb c.acknowledged (length c.script) (omega (arith, left))))
          (in_range c.acknowledged (text_start state c) c.sent (length c.script) starts.0 starts.1 starts.2),
      tt,
    )

progress_allowed : (w : World) (state number : ℕ) (c : Client) → client_at w.clients number ≡ Some c → c.acknowledged ≤ c.sent
    → IsAllowed w (progress state number c (server_of w))
progress_allowed w state number c e k =
    holds_if (IsAllowed w) (is_new c.phase || is_opening c.phase) (record { event = events.Begin number 65535; state = state }) _
    (λ t. (made w number c (Syn None) e t refl, tt))
    (λ t. holds_if (IsAllowed w) (is_open c.phase && nat_lt c.acknowledged (length c.script)) (text_event state number c) _
    (λ u. let parts = and_parts (is_open c.phase) (nat_lt c.acknowledged (length c.script)) u in text_allowed w state number c e k parts.0 (ltb-true _ _ parts.1))
    (λ u. holds_if (IsAllowed w) (is_open c.phase && c.acknowledged == length c.script) (record { event = events.Fin number; state = state }) (server_event state (server_of w))
    (λ v. let parts = and_parts (is_open c.phase) (c.acknowledged == length c.script) v in
    let all : c.acknowledged ≡ length c.script = eqb-true _ _ parts.1 in
    (made w number c Fin e (and_from _ _ parts.0 (le-leb c.acknowledged (length c.script) (omega (arith, all)))) (le-leb (length c.script) c.sent (omega (arith, all, k))), tt))
    (λ v. server_allowed w state)))

acknowledgement_allowed : (w : World) (state number : ℕ) (c : Client) → client_at w.clients number ≡ Some c → IsAllowed w (acknowledgement state number c (server_of w))
acknowledgement_allowed w state number c e =
    holds_if (IsAllowed w) (is_open c.phase) (record { event = events.Ack number 65535; state = state }) (server_event state (server_of w))
    (λ t. (made w number c Acknowledge e t refl, tt)) (λ t. server_allowed w state)

client_allowed : (w : World) (die state number : ℕ) (o : Option Client) → client_at w.clients number ≡ o → AllByRecursion ClientInvariant w.clients
    → IsAllowed w (client_event die state number o (server_of w))
client_allowed w die state number None e k = server_allowed w state
client_allowed w die state number (Some c) e k =
    let keeps : ClientInvariant c = client_there ClientInvariant w.clients number c k e in
    holds_if (IsAllowed w) (nat_lt die 11 || is_new c.phase || is_opening c.phase) (progress state number c (server_of w)) (acknowledgement state number c (server_of w))
    (λ t. progress_allowed w state number c e keeps.within.0) (λ t. acknowledgement_allowed w state number c e)

some_packets : (n : ℕ) → (n == 0) ≡ false → 0 < n
some_packets n e = grind (arith, nat_tests, e)

pub allowed : (w : World) (state : ℕ) → AllByRecursion ClientInvariant w.clients → IsAllowed w (next_event_in state w)
allowed w state k =
    let later : ℕ = stepped (stepped state) in
    let number : ℕ = 1 + draw (stepped state) % length w.clients in
    holds_if (IsAllowed w) (length w.packets == 0) (server_event state (server_of w)) _ (λ t. server_allowed w state)
    (λ t. holds_if (IsAllowed w) (nat_lt (draw state % 16) 9) (delivery later (length w.packets)) _
    (λ u. delivery_allowed w later (some_packets (length w.packets) t))
    (λ u. holds_if (IsAllowed w) (nat_lt (draw state % 16) 13) (client_event (draw state % 16) later number (client_at w.clients number) (server_of w)) _
    (λ v. client_allowed w (draw state % 16) later number (client_at w.clients number) refl k)
    (λ v. holds_if (IsAllowed w) (nat_lt (draw state % 16) 15) (server_event later (server_of w)) (risky_event later (server_of w))
    (λ x. server_allowed w later) (λ x. risky_allowed w later))))
