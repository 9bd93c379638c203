-- The two facts of clients: it has accepted so many units, or all; and it is done with the connection. They stay as clients, log and network go on.
use Rattle.std.proofs.Common.{◌≡◌, ◌⊎◌, ℕ, ◌≤◌, pos, int_lt, Bool, true, ◌==◌, ◌&&◌, ◌||◌, not, refl, sym, ap, ap₂, ◌∙◌, subst, true≢false, inl, inr, ⊎_elim, List, ◌++◌, length, arith, if◌then◌else◌}
use Rattle.std.specs.List.{AllByRecursion, list_any}
use Rattle.std.proofs.lemmas.Bool.{and_parts, or_right}
use Rattle.std.proofs.lemmas.List.Folds.{list_any-append}
use Rattle.ft_io.specs.declared.Key.{Key}
use Rattle.ft_io.specs.Key.{key_eq}
use Rattle.ft_io.proofs.Choices.{holds_if}
use Rattle.tcp_rules.specs.Arrival.{int_eq}
use Rattle.seq_arith.specs.Number.{number_at}
use Rattle.seq_arith.specs.Packet.{Segment, has_syn, has_rst, has_ack}
use Rattle.server_trait.specs.Service.{Machine, reference}
use Rattle.ft_model.specs.Client.{Client, Move, moved, received, opened_by, arrived, used, may_use, with_ack, with_added, came, is_opening, is_open, is_live, is_new, next_of, may_move, suits_kind, suits_phase, suits_range, phase_after}
use Rattle.ft_model.specs.Client.Move.{Syn, Text, Fin, Acknowledge, Rst, Refuse}
use Rattle.ft_model.specs.declared.phase.Phase.{Phase}
use Rattle.ft_model.specs.declared.phase.Phase.TheVariants as phases
use Rattle.ft_model.specs.Growth.{IsPrefix, LogGrows, logged_lengths}
use Rattle.ft_model.specs.Log.{Log, entry_of}
use Rattle.ft_model.specs.Masked.{SeesFront, unfailing}
use Rattle.ft_model.specs.Network.{Packet}
use Rattle.ft_model.specs.Node.Place.{Lives}
use Rattle.ft_model.specs.Offset.{first_of, ack_of}
use Rattle.ft_model.specs.Point.{Point, answered_run, released, is_over}
use Rattle.ft_model.specs.World.{World}
use Rattle.ft_model.proofs.Authored.{PlaceRuns, logged_run, released_logged}
use Rattle.ft_model.proofs.AuthorWorld.{front_of}
use Rattle.ft_model.proofs.Faithful.{PlaceFits}
use Rattle.ft_model.proofs.FaithfulKept.{IsSameClient, received_same}
use Rattle.ft_model.proofs.Fetching.{full_front}
use Rattle.ft_model.proofs.Grows.{logged_lengths_grow}
use Rattle.ft_model.proofs.Lists.{all_of, all_weaker, all_both, prefix_refl, prefix_more, same_key}
use Rattle.ft_model.proofs.Seen.{IsSeen}
use Rattle.ft_model.proofs.Services.{RunExtends, reads_proceed, prefix_length}
use Rattle.long_laws.specs.Over.{HasAll, HasReset, is_rst_of, is_at_end, is_reset}
use Rattle.long_laws.proofs.Over.{PointOver}
use Rattle.long_laws.proofs.Sends.{over_closed}
use Rattle.long_laws.proofs.Stands.{Stands}

-- the clients of a key
abbrev pub Of : Key → (Client → Type 0) → List Client → Type 0
Of key P clients = AllByRecursion (λ c. key_eq c.key key ≡ true → P c) clients

abbrev pub HasReached : {State : Type 0} → Machine State → Log → ℕ → Client → Type 0
HasReached service log n c = (n ≤ length c.accepted) ⊎ HasAll service log c

abbrev pub IsDoneWith : {State : Type 0} → Machine State → (Key → Bool) → Log → List Packet → Client → Type 0
IsDoneWith service let_go log packets c = (HasAll service log c ⊎ HasReset packets c) ⊎ (let_go c.key ≡ true)

abbrev pub Reached : {State : Type 0} → Machine State → Log → List Client → Key → ℕ → Type 0
Reached service log clients key n = Of key (HasReached service log n) clients

abbrev pub Finished : {State : Type 0} → Machine State → (Key → Bool) → Log → List Packet → List Client → Key → Type 0
Finished service let_go log packets clients key = Of key (IsDoneWith service let_go log packets) clients

pub of_weaker : (key : Key) (P Q : Client → Type 0) (clients : List Client) → ((c : Client) → P c → Q c) → Of key P clients → Of key Q clients
of_weaker key P Q clients f a = all_weaker (λ c. key_eq c.key key ≡ true → P c) (λ c. key_eq c.key key ≡ true → Q c) clients (λ c g k. f c (g k)) a

pub reached_down : {State : Type 0} (service : Machine State) (log : Log) (clients : List Client) (key : Key) (n m : ℕ) → n ≤ m → Reached service log clients key m → Reached service log clients key n
reached_down service log clients key n m less a =
    of_weaker key (HasReached service log m) (HasReached service log n) clients (λ c h. ⊎_elim (λ x. inl (omega (arith, less, x))) (λ x. inr x) h) a

pub reached_none : {State : Type 0} (service : Machine State) (log : Log) (clients : List Client) (key : Key) → Reached service log clients key 0
reached_none service log clients key = all_of (λ c. key_eq c.key key ≡ true → HasReached service log 0 c) clients (λ c k. inl (omega arith))

-- a connection that is over has a client that has all
pub finishes : {State : Type 0} (service : Machine State) (let_go : Key → Bool) (packets : List Packet) (w : World) (o : Stands service w) (p : Point) → PlaceFits o.script o.isn w.log (Lives p)
    → PlaceRuns service o.author.author (Lives p) → PointOver service (Reached service w.log w.clients) (Finished service let_go w.log packets w.clients) p → is_over service p ≡ true
    → Finished service let_go w.log packets w.clients p.key
finishes service let_go packets w o p fits runs over is =
    let front : IsPrefix (logged_lengths p.key w.log) p.lengths = subst (IsPrefix (logged_lengths p.key w.log)) runs.0 (front_of o.author.author w.log p.key (entry_of p.key w.log) o.author.entries refl) in
    let goes : RunExtends (answered_run service p) (logged_run service o.script w.log p.key) = released_logged service o.script (o.isn p.key) w.log p fits.0 fits.1 runs.1 front in
    let closed = over_closed service p over.sends is in
    let size : length (logged_run service o.script w.log p.key).output ≡ released service p = ap length (goes.closed closed.closed).0 in
    all_both (λ c. key_eq c.key p.key ≡ true → HasReached service w.log p.una c) (IsSeen service o.script w.log) (λ c. key_eq c.key p.key ≡ true → IsDoneWith service let_go w.log packets c) w.clients
    (λ c r s k. ⊎_elim
    (λ low. let most : length c.accepted ≤ length (logged_run service o.script w.log c.key).output = prefix_length c.accepted (logged_run service o.script w.log c.key).output s.front in
    let there : length (logged_run service o.script w.log c.key).output ≡ length (logged_run service o.script w.log p.key).output =
    ap (λ y. length (logged_run service o.script w.log y).output) (same_key c.key p.key k) in
    absurd (omega (arith, low, most, there, size, closed.past)))
    (λ all. inl (inl all)) (r k)) over.una o.sees

-- a client, and the same later
pub record IsLater (c d : Client) : Type 0 where
  pub kind : d.kind ≡ c.kind
  pub key : d.key ≡ c.key
  pub script : d.script ≡ c.script
  pub accepted : IsPrefix c.accepted d.accepted
  pub at_end : is_at_end c.phase ≡ true → is_at_end d.phase ≡ true
  pub reset : is_reset c.phase ≡ true → is_reset d.phase ≡ true

-- how far it goes
record Proceeds (c d : Client) : Type 0 where
  accepted : IsPrefix c.accepted d.accepted
  at_end : is_at_end c.phase ≡ true → is_at_end d.phase ≡ true

goes_same : (c : Client) → Proceeds c c
goes_same c = record { accepted = prefix_refl c.accepted; at_end = λ e. e }

goes_reset : (c : Client) → Proceeds c (record c { phase = phases.Reset })
goes_reset c = record { accepted = prefix_refl c.accepted; at_end = λ e. refl }

used_goes : (c : Client) (segment : Segment) → Proceeds c (used c segment)
used_goes c segment =
    holds_if (Proceeds c) (int_lt (pos c.sent) (ack_of c.isn segment)) c (with_added (with_ack c (ack_of c.isn segment)) (came c segment)) (λ t. goes_same c)
    (λ t. record {
      accepted = prefix_more c.accepted (came c segment).added;
      at_end = λ e. holds_if (λ x. is_at_end x ≡ true) (came c segment).fin phases.Ended c.phase (λ s. refl) (λ s. e);
    })

arrived_goes : (c : Client) (segment : Segment) → Proceeds c (arrived c segment)
arrived_goes c segment =
    let gone : Client = record c { phase = phases.Reset } in
    let rst : Client = if int_eq (first_of c.sisn segment) (pos (next_of c)) then gone else c in
    let other : Client = if has_syn segment || not (has_ack segment) then c else used c segment in
    holds_if (Proceeds c) (may_use c segment) (if has_rst segment then rst else other) c
    (λ t. holds_if (Proceeds c) (has_rst segment) rst other
    (λ r. holds_if (Proceeds c) (int_eq (first_of c.sisn segment) (pos (next_of c))) gone c (λ x. goes_reset c) (λ x. goes_same c))
    (λ r. holds_if (Proceeds c) (has_syn segment || not (has_ack segment)) c (used c segment) (λ x. goes_same c) (λ x. used_goes c segment)))
    (λ t. goes_same c)

-- a client at its end doesn't open
opening_goes : (c : Client) (segment : Segment) → is_opening c.phase ≡ true → Proceeds c (opened_by c segment)
opening_goes c segment o =
    let gone : Client = record c { phase = phases.Reset } in
    let stands : Client = record c { phase = phases.Established; sisn = segment.head.seq } in
    holds_if (Proceeds c) (has_ack segment && segment.head.ack == number_at c.isn 0) (if has_rst segment then gone else (if has_syn segment then stands else c)) c
    (λ t. holds_if (Proceeds c) (has_rst segment) gone (if has_syn segment then stands else c) (λ r. goes_reset c)
    (λ r. holds_if (Proceeds c) (has_syn segment) stands c (λ x. record { accepted = prefix_refl c.accepted; at_end = λ e. absurd (apart c.phase o e) }) (λ x. goes_same c)))
    (λ t. goes_same c)
  where
    apart : (phase : Phase) → is_opening phase ≡ true → is_at_end phase ≡ true → ⊥
    apart phases.Opening o e = true≢false (sym e)
    apart phases.New o e = true≢false (sym o)
    apart phases.Established o e = true≢false (sym o)
    apart phases.Ended o e = true≢false (sym o)
    apart phases.Reset o e = true≢false (sym o)

received_goes : (c : Client) (segment : Segment) → Proceeds c (received c segment)
received_goes c segment =
    holds_if (Proceeds c) (is_opening c.phase) (opened_by c segment) (if is_open c.phase then arrived c segment else c) (λ t. opening_goes c segment t)
    (λ t. holds_if (Proceeds c) (is_open c.phase) (arrived c segment) c (λ x. arrived_goes c segment) (λ x. goes_same c))

-- a client that is reset hears nothing
received_reset : (c : Client) (segment : Segment) → is_reset c.phase ≡ true → is_reset (received c segment).phase ≡ true
received_reset c segment e =
    holds_if (λ x. is_reset x.phase ≡ true) (is_opening c.phase) (opened_by c segment) (if is_open c.phase then arrived c segment else c) (λ t. absurd (closed c.phase e t))
    (λ t. holds_if (λ x. is_reset x.phase ≡ true) (is_open c.phase) (arrived c segment) c (λ x. absurd (apart c.phase e x)) (λ x. e))
  where
    closed : (phase : Phase) → is_reset phase ≡ true → is_opening phase ≡ true → ⊥
    closed phases.Reset e o = true≢false (sym o)
    closed phases.New e o = true≢false (sym e)
    closed phases.Opening e o = true≢false (sym e)
    closed phases.Established e o = true≢false (sym e)
    closed phases.Ended e o = true≢false (sym e)

    apart : (phase : Phase) → is_reset phase ≡ true → is_open phase ≡ true → ⊥
    apart phases.Reset e o = true≢false (sym o)
    apart phases.New e o = true≢false (sym e)
    apart phases.Opening e o = true≢false (sym e)
    apart phases.Established e o = true≢false (sym e)
    apart phases.Ended e o = true≢false (sym e)

pub later_same : (c : Client) → IsLater c c
later_same c = record { kind = refl; key = refl; script = refl; accepted = prefix_refl c.accepted; at_end = λ e. e; reset = λ e. e }

pub received_later : (c : Client) (segment : Segment) → IsLater c (received c segment)
received_later c segment =
    let s : IsSameClient c (received c segment) = received_same c segment in
    let g : Proceeds c (received c segment) = received_goes c segment in
    record { kind = s.kind; key = s.key; script = s.script; accepted = g.accepted; at_end = g.at_end; reset = received_reset c segment }

-- only a client that opens sends a SYN
syn_opens : (phase : Phase) → (is_new phase || is_opening phase) ≡ true → is_at_end phase ≡ true → ⊥
syn_opens phases.New s e = true≢false (sym e)
syn_opens phases.Opening s e = true≢false (sym e)
syn_opens phases.Established s e = true≢false (sym s)
syn_opens phases.Ended s e = true≢false (sym s)
syn_opens phases.Reset s e = true≢false (sym s)

reset_at_end : (phase : Phase) → is_reset phase ≡ true → is_at_end phase ≡ true
reset_at_end phases.Reset e = refl
reset_at_end phases.New e = absurd (true≢false (sym e))
reset_at_end phases.Opening e = absurd (true≢false (sym e))
reset_at_end phases.Established e = absurd (true≢false (sym e))
reset_at_end phases.Ended e = absurd (true≢false (sym e))

still : (c : Client) (move : Move) (window : ℕ) → (is_at_end c.phase ≡ true → is_at_end (phase_after c.phase move) ≡ true) → (is_reset c.phase ≡ true → is_reset (phase_after c.phase move) ≡ true)
    → IsLater c (moved c move window)
still c move window end reset = record { kind = refl; key = refl; script = refl; accepted = prefix_refl c.accepted; at_end = end; reset = reset }

pub moved_later : (c : Client) (move : Move) (window : ℕ) → may_move c move ≡ true → IsLater c (moved c move window)
moved_later c (Syn mss) window may =
    let opens = (and_parts (suits_kind c.kind (Syn mss)) (suits_phase c (Syn mss)) (and_parts (suits_kind c.kind (Syn mss) && suits_phase c (Syn mss)) (suits_range c (Syn mss)) may).0).1 in
    still c (Syn mss) window (λ e. absurd (syn_opens c.phase opens e)) (λ e. absurd (syn_opens c.phase opens (reset_at_end c.phase e)))
moved_later c (Text from len) window may = still c (Text from len) window (λ e. e) (λ e. e)
moved_later c Fin window may = still c Fin window (λ e. e) (λ e. e)
moved_later c Acknowledge window may = still c Acknowledge window (λ e. e) (λ e. e)
moved_later c Rst window may = still c Rst window (λ e. refl) (λ e. refl)
moved_later c (Refuse number) window may = still c (Refuse number) window (λ e. e) (λ e. e)

-- the facts of a client, later

pub all_later : {State : Type 0} (service : Machine State) (log : Log) (c d : Client) → IsLater c d → SeesFront service log d → HasAll service log c → HasAll service log d
all_later service log c d l s h =
    let same : unfailing service log d ≡ unfailing service log c = ap₂ (λ x k. reference service x (logged_lengths k log)) l.script l.key in
    let size = ap length h.all in
    let total : length (unfailing service log d).output ≡ length (unfailing service log c).output = ap (λ r. length r.output) same in
    let more : length c.accepted ≤ length d.accepted = prefix_length c.accepted d.accepted l.accepted in
    record {
      closed = ap (λ r. r.closed) same ∙ h.closed;
      all = full_front d.accepted (unfailing service log d).output s.accepted (omega (arith, size, total, more));
      at_end = l.at_end h.at_end;
    }

pub reached_later : {State : Type 0} (service : Machine State) (log : Log) (n : ℕ) (c d : Client) → IsLater c d → SeesFront service log d → HasReached service log n c → HasReached service log n d
reached_later service log n c d l s h =
    ⊎_elim (λ x. let more : length c.accepted ≤ length d.accepted = prefix_length c.accepted d.accepted l.accepted in inl (omega (arith, x, more))) (λ x. inr (all_later service log c d l s x)) h

pub done_later : {State : Type 0} (service : Machine State) (let_go : Key → Bool) (log : Log) (packets : List Packet) (c d : Client) → IsLater c d → SeesFront service log d
    → IsDoneWith service let_go log packets c → IsDoneWith service let_go log packets d
done_later service let_go log packets c d l s h =
    ⊎_elim
    (λ x. ⊎_elim (λ y. inl (inl (all_later service log c d l s y)))
    (λ y. inl (inr (record { sent = subst (λ k. list_any (is_rst_of k) packets ≡ true) (sym l.key) y.sent; reset = λ e. l.reset (y.reset (ap is_live (sym l.kind) ∙ e)) }))) x)
    (λ x. inr (ap let_go l.key ∙ x)) h

-- .. with a log that has grown

pub all_grown : {State : Type 0} (service : Machine State) (before after : Log) (c : Client) → LogGrows before after → HasAll service before c → HasAll service after c
all_grown service before after c g h =
    let goes : RunExtends (unfailing service before c) (unfailing service after c) =
    reads_proceed service c.script (logged_lengths c.key before) (logged_lengths c.key after) (logged_lengths_grow c.key before after g) in
    let now = goes.closed h.closed in
    record { closed = now.1; all = h.all ∙ sym now.0; at_end = h.at_end }

pub reached_grown : {State : Type 0} (service : Machine State) (before after : Log) (n : ℕ) (c : Client) → LogGrows before after → HasReached service before n c → HasReached service after n c
reached_grown service before after n c g h = ⊎_elim (λ x. inl x) (λ x. inr (all_grown service before after c g x)) h

pub done_grown : {State : Type 0} (service : Machine State) (let_go : Key → Bool) (before after : Log) (packets : List Packet) (c : Client) → LogGrows before after
    → IsDoneWith service let_go before packets c → IsDoneWith service let_go after packets c
done_grown service let_go before after packets c g h = ⊎_elim (λ x. inl (⊎_elim (λ y. inl (all_grown service before after c g y)) (λ y. inr y) x)) (λ x. inr x) h

-- .. with more packets

any_first : {A : Type 0} (passes : A → Bool) (xs ys : List A) → list_any passes xs ≡ true → list_any passes (xs ++ ys) ≡ true
any_first passes xs ys e = list_any-append passes xs ys ∙ ap (λ b. b || list_any passes ys) e

pub any_last : {A : Type 0} (passes : A → Bool) (xs ys : List A) → list_any passes ys ≡ true → list_any passes (xs ++ ys) ≡ true
any_last passes xs ys e = list_any-append passes xs ys ∙ or_right (list_any passes xs) (list_any passes ys) e

pub done_more : {State : Type 0} (service : Machine State) (let_go : Key → Bool) (log : Log) (packets sent : List Packet) (c : Client)
    → IsDoneWith service let_go log packets c → IsDoneWith service let_go log (packets ++ sent) c
done_more service let_go log packets sent c h =
    ⊎_elim (λ x. inl (⊎_elim (λ y. inl y) (λ y. inr (record { sent = any_first (is_rst_of c.key) packets sent y.sent; reset = y.reset })) x)) (λ x. inr x) h
