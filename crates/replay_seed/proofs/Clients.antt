-- In every run each client keeps its key and its script, and the server acknowledges no more than the client sent.
use Rattle.std.proofs.Common.{◌≡◌, ℕ, zero, suc, ◌+◌, ◌-◌, ◌*◌, ◌≤◌, ℤ, pos, int_lt, nat_abs, true, false, ◌&&◌, ◌||◌, ◌==◌, not, nat_le, refl, sym, ap, ◌∙◌, subst, List, [], ◌∷◌, map, length, arith, leb-true, if◌then◌else◌}
use Rattle.std.specs.List.{AllByRecursion}
use Rattle.std.proofs.lemmas.Int.{ints}
use Rattle.std.proofs.lemmas.Bool.{and_parts}
use Rattle.ft_io.specs.declared.Key.{Key}
use Rattle.ft_io.specs.Key.{key_eq}
use Rattle.seq_arith.specs.Number.{number_at}
use Rattle.tcp_rules.specs.Arrival.{int_eq}
use Rattle.seq_arith.specs.Packet.{Segment, has_syn, has_rst, has_ack}
use Rattle.server_trait.specs.Service.{Machine}
use Rattle.ft_model.specs.Offset.{first_of, ack_of}
use Rattle.ft_model.specs.Client.{Client, Move, received, opened_by, arrived, may_use, used, came, with_added, with_ack, IsMove, moved, may_move, suits_kind, suits_phase, suits_range, is_opening, is_open, next_of}
use Rattle.ft_model.specs.Client.Move.{Syn, Text, Fin, Acknowledge, Rst, Refuse}
use Rattle.ft_model.specs.declared.phase.Phase.TheVariants as phases
use Rattle.ft_model.specs.Network.{Packet, destination_of}
use Rattle.ft_model.specs.Schedule.{client_of, clients_of}
use Rattle.ft_model.specs.World.{World, Moment, with_client, world_after, Joint}
use Rattle.ft_model.proofs.Lists.{all_map, all_append, same_key}
use Rattle.ft_model.proofs.FaithfulKept.{received_same, clients_fit}
use Rattle.ft_model.proofs.Happened.{Happened, holds_after}
use Rattle.ft_model.proofs.Letters.{length_letters}
use Rattle.ft_model.proofs.Happened.Happened.{log_received, client_received, client_moved, server_turned, server_booted, server_down}
use Rattle.replay_seed.specs.Generated.{server_address, client_line, client_lines, after_draws}
use Rattle.ft_io.proofs.Choices.{holds_if}
use Rattle.ft_model.proofs.FaithfulOver.{client_there}

-- .. and it sends no more than its script and its FIN
abbrev pub IsWithin : Client → Type 0
IsWithin c = (c.acknowledged ≤ c.sent) × (c.sent ≤ length c.script + 1)

acked_within : (acked sent : ℕ) (ack : ℤ) → int_lt (pos sent) ack ≡ false → acked ≤ sent → (if int_lt (pos acked) ack then nat_abs ack else acked) ≤ sent
acked_within acked sent ack sent_is h = grind (arith, ints, sent_is, h)

used_within : (c : Client) (segment : Segment) → IsWithin c → IsWithin (used c segment)
used_within c segment h =
    holds_if IsWithin (int_lt (pos c.sent) (ack_of c.isn segment)) c (with_added (with_ack c (ack_of c.isn segment)) (came c segment)) (λ t. h)
    (λ t. (acked_within c.acknowledged c.sent (ack_of c.isn segment) t h.0, h.1))

arrived_within : (c : Client) (segment : Segment) → IsWithin c → IsWithin (arrived c segment)
arrived_within c segment h =
    let gone : Client = record c { phase = phases.Reset } in
    let rst : Client = if int_eq (first_of c.sisn segment) (pos (next_of c)) then gone else c in
    let other : Client = if has_syn segment || not (has_ack segment) then c else used c segment in
    holds_if IsWithin (may_use c segment) (if has_rst segment then rst else other) c
    (λ t. holds_if IsWithin (has_rst segment) rst other
    (λ r. holds_if IsWithin (int_eq (first_of c.sisn segment) (pos (next_of c))) gone c (λ x. h) (λ x. h))
    (λ r. holds_if IsWithin (has_syn segment || not (has_ack segment)) c (used c segment) (λ x. h) (λ x. used_within c segment h)))
    (λ t. h)

opened_within : (c : Client) (segment : Segment) → IsWithin c → IsWithin (opened_by c segment)
opened_within c segment h =
    let gone : Client = record c { phase = phases.Reset } in
    let stands : Client = record c { phase = phases.Established; sisn = segment.head.seq } in
    holds_if IsWithin (has_ack segment && segment.head.ack == number_at c.isn 0) (if has_rst segment then gone else (if has_syn segment then stands else c)) c
    (λ t. holds_if IsWithin (has_rst segment) gone (if has_syn segment then stands else c) (λ r. h)
    (λ r. holds_if IsWithin (has_syn segment) stands c (λ x. h) (λ x. h)))
    (λ t. h)

received_within : (c : Client) (segment : Segment) → IsWithin c → IsWithin (received c segment)
received_within c segment h =
    holds_if IsWithin (is_opening c.phase) (opened_by c segment) _ (λ t. opened_within c segment h)
    (λ t. holds_if IsWithin (is_open c.phase) (arrived c segment) c (λ x. arrived_within c segment h) (λ x. h))

text_bound : (c : Client) (from len : ℕ) → suits_range c (Text from len) ≡ true → from + len ≤ length c.script
text_bound c from len e =
    leb-true _ _ (and_parts (nat_le c.acknowledged from && nat_le from c.sent && nat_le 1 len && nat_le len 1460) (nat_le (from + len) (length c.script)) e).1

move_within : (c : Client) (move : Move) (window : ℕ) → suits_range c move ≡ true → IsWithin c → IsWithin (moved c move window)
move_within c (Text from len) window e h = let b = text_bound c from len e in (omega (arith, h.0), omega (arith, h.1, b))
move_within c Fin window e h = (omega (arith, h.0, h.1), omega arith)
move_within c (Syn mss) window e h = h
move_within c Acknowledge window e h = h
move_within c Rst window e h = h
move_within c (Refuse number) window e h = h

-- the script of the client with this key
abbrev pub total_of : Key → ℕ
total_of key = 1000 * (key.ip - 3221225984)

pub record ClientInvariant (c : Client) : Type 0 where
  pub total : length c.script ≡ total_of c.key
  pub within : IsWithin c

received_keeps : (c : Client) (segment : Segment) → ClientInvariant c → ClientInvariant (received c segment)
received_keeps c segment k =
    let s = received_same c segment in
    record { total = ap length s.script ∙ (k.total ∙ ap total_of (sym s.key)); within = received_within c segment k.within }

may_range : (c : Client) (move : Move) → may_move c move ≡ true → suits_range c move ≡ true
may_range c move e = (and_parts (suits_kind c.kind move && suits_phase c move) (suits_range c move) e).1

move_keeps : (c later : Client) (segment : Segment) → IsMove c segment later → ClientInvariant c → ClientInvariant later
move_keeps c later segment m k =
    subst ClientInvariant (sym m.after_is) (record { total = k.total; within = move_within c m.move m.window (may_range c m.move m.may) k.within })

-- what holds of the clients of a run
pub record AllKeep (start w : World) : Type 0 where
  pub keeps : AllByRecursion ClientInvariant w.clients
  pub keys : map (λ c. c.key) w.clients ≡ map (λ c. c.key) start.clients

head_key : (key : Key) (change : Client → Client) (c : Client) → (key_eq c.key key ≡ true → (change c).key ≡ c.key) → (if key_eq c.key key then change c else c).key ≡ c.key
head_key key change c keeps = holds_if (λ x. x.key ≡ c.key) (key_eq c.key key) (change c) c keeps (λ t. refl)

keys_stay : (key : Key) (change : Client → Client) (cs : List Client) → ((c : Client) → key_eq c.key key ≡ true → (change c).key ≡ c.key)
    → map (λ c. c.key) (with_client key change cs) ≡ map (λ c. c.key) cs
keys_stay key change [] keeps = refl
keys_stay key change (c ∷ cs) keeps =
    ap (λ k. k ∷ map (λ c. c.key) (with_client key change cs)) (head_key key change c (keeps c)) ∙ ap (λ ks. c.key ∷ ks) (keys_stay key change cs keeps)

all_stay : (start before after : World) → after.clients ≡ before.clients → AllKeep start before → AllKeep start after
all_stay start before after e k =
    record { keeps = subst (AllByRecursion ClientInvariant) (sym e) k.keeps; keys = ap (λ cs. map (λ c. c.key) cs) e ∙ k.keys }

all_change : (start before after : World) (key : Key) (change : Client → Client) → after.clients ≡ with_client key change before.clients
    → ((c : Client) → c.key ≡ key → ClientInvariant c → ClientInvariant (change c)) → ((c : Client) → c.key ≡ key → (change c).key ≡ c.key)
    → AllKeep start before → AllKeep start after
all_change start before after key change e keeps name k = record {
  keeps = subst (AllByRecursion ClientInvariant) (sym e) (clients_fit ClientInvariant key change before.clients keeps k.keeps);
  keys = ap (λ cs. map (λ c. c.key) cs) e ∙ (keys_stay key change before.clients (λ c t. name c (same_key c.key key t)) ∙ k.keys);
}

all_step : {State : Type 0} (service : Machine State) (start before : World) (sent : List Packet) (after : World) → AllKeep start before → Happened service before sent after → AllKeep start after
all_step service start before sent after k (log_received message under t e) = all_stay start before after (ap (λ w. w.clients) e) k
all_step service start before sent after k (client_received segment under t e) =
    all_change start before after (destination_of segment) (λ c. received c segment) (ap (λ w. w.clients) e)
    (λ c name h. received_keeps c segment h) (λ c name. (received_same c segment).key) k
all_step service start before sent after k (client_moved number m) =
    let name : m.later.key ≡ m.client.key = ap (λ c. c.key) m.move.after_is in
    let mover : ClientInvariant m.client = client_there ClientInvariant before.clients number m.client k.keeps m.is_there in
    all_change start before after m.client.key (λ _. m.later) (ap (λ w. w.clients) m.after_is)
    (λ c is h. move_keeps m.client m.later m.segment m.move mover) (λ c is. name ∙ sym is) k
all_step service start before sent after k (server_turned input node later brought is turn e) = all_stay start before after (ap (λ w. w.clients) e) k
all_step service start before sent after k (server_booted boot isn is_down larger t e) = all_stay start before after (ap (λ w. w.clients) e) k
all_step service start before sent after k (server_down t e) = all_stay start before after (ap (λ w. w.clients) e) k

pub all_keep : {State : Type 0} (service : Machine State) (start : World) (trace : List Moment) → AllByRecursion ClientInvariant start.clients → Joint service start trace
    → AllKeep start (world_after start trace)
all_keep service start trace first j =
    holds_after service (AllKeep start) start (λ s. record { keeps = first; keys = refl }) (λ before sent after k h. all_step service start before sent after k h) trace j

-- the clients with which a generated run starts
new_keeps : (state i : ℕ) → ClientInvariant (client_of server_address (client_line state i))
new_keeps state i = record { total = length_letters (1000 * i) ∙ ap (λ k. 1000 * k) (omega arith); within = (omega arith, omega arith) }

lines_keep : (state n : ℕ) → AllByRecursion (λ line. ClientInvariant (client_of server_address line)) (client_lines state n)
lines_keep state zero = tt
lines_keep state (suc n) =
    all_append (λ line. ClientInvariant (client_of server_address line)) (client_lines state n) (client_line (after_draws state n) (n + 1) ∷ []) (lines_keep state n)
    (new_keeps (after_draws state n) (n + 1), tt)

pub start_keeps : (state n : ℕ) → AllByRecursion ClientInvariant (clients_of server_address (client_lines state n))
start_keeps state n = all_map ClientInvariant (client_of server_address) (client_lines state n) (lines_keep state n)
