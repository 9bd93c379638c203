-- What a client has accepted is the front of the uncrashed server's output on its script, read as the log says.
use Rattle.std.proofs.Common.{◌≡◌, ℕ, ℤ, pos, int_lt, Bool, true, false, ◌==◌, ◌&&◌, ◌||◌, not, refl, sym, ap, ◌∙◌, subst, true≢false, inl, inr, ◌⊎◌, ⊎_elim, Option, Some, None, List, [], ◌++◌, length, drop, arith, if◌then◌else◌}
use Rattle.std.specs.Prelude.{IfSome}
use Rattle.ft_io.specs.declared.Key.{Key}
use Rattle.seq_arith.specs.Number.{number_at}
use Rattle.tcp_rules.specs.Arrival.{int_eq}
use Rattle.tcp_rules.specs.Coming.{Early, nothing_early}
use Rattle.seq_arith.specs.Packet.{Segment, has_syn, has_rst, has_ack}
use Rattle.server_trait.specs.Service.{Machine, Run}
use Rattle.ft_model.specs.Offset.{first_of, ack_of, text_of, fin_of}
use Rattle.ft_model.specs.Client.{Client, ClientKind, Move, moved, received, opened_by, arrived, used, may_use, with_ack, holds, with_added, came, is_opening, is_open, is_ended, next_of}
use Rattle.ft_model.specs.Client.ClientKind.{Scripted, Live}
use Rattle.ft_model.specs.Client.Move.{Syn, Text, Fin, Acknowledge, Rst, Refuse}
use Rattle.ft_model.specs.declared.phase.Phase.{Phase}
use Rattle.ft_model.specs.declared.phase.Phase.TheVariants as phases
use Rattle.ft_model.specs.Log.{Log, Entry, entry_of}
use Rattle.ft_model.specs.Growth.{IsPrefix, LogGrows, logged_lengths}
use Rattle.ft_model.proofs.Lists.{prefix_trans, none_is_some}
use Rattle.ft_model.proofs.Grows.{found_later, logged_lengths_grow}
use Rattle.ft_model.proofs.Fetching.{full_front}
use Rattle.ft_model.proofs.StreamAgreement.{Agrees, Fronts, Says, agrees_later, comes_fits}
use Rattle.ft_model.proofs.Stands.{drop_prefix}
use Rattle.tcp_rules.proofs.Coming.{fin_stays}
use Rattle.ft_model.proofs.Services.{RunExtends, reads_proceed}
use Rattle.ft_model.proofs.Authored.{CarriesOutput, logged_run}
use Rattle.ft_io.proofs.Choices.{holds_if}

-- what is held after so many bytes is the run's output, and a FIN that is held stands where the run has closed
pub record HoldsOf {State : Type 0} (run : Run State) (n : ℕ) (early : Early) : Type 0 where
  pub held : Agrees early.text (drop n run.output)
  pub held_fin : IfSome early.fin (λ offset. (run.closed ≡ true) × (offset ≡ length run.output))

-- what a client has accepted of a run, and what it holds; while its connection is open it knows the number that the log keeps
pub record Sees {State : Type 0} (run : Run State) (sisn : ℕ) (c : Client) : Type 0 where
  pub front : IsPrefix c.accepted run.output
  pub ended : is_ended c.phase ≡ true → (run.closed ≡ true) × (c.accepted ≡ run.output)
  pub holds : HoldsOf run (length c.accepted) c.early
  pub sisn_is : is_open c.phase ≡ true → c.sisn ≡ sisn

-- a client and the log
pub record IsSeen {State : Type 0} (service : Machine State) (script : Key → List ℕ) (log : Log) (c : Client) : Type 0 where
  pub front : IsPrefix c.accepted (logged_run service script log c.key).output
  pub ended : is_ended c.phase ≡ true → ((logged_run service script log c.key).closed ≡ true) × (c.accepted ≡ (logged_run service script log c.key).output)
  pub holds : HoldsOf (logged_run service script log c.key) (length c.accepted) c.early
  pub sisn : is_open c.phase ≡ true → (e : Entry) × (entry_of c.key log ≡ Some e) × (e.sisn ≡ c.sisn)
  pub unlogged : entry_of c.key log ≡ None → c.accepted ≡ []

nothing_held : {State : Type 0} (run : Run State) (n : ℕ) → HoldsOf run n nothing_early
nothing_held run n = record { held = tt; held_fin = tt }

-- a client that holds nothing holds nothing wrong
holds_of : {State : Type 0} (run : Run State) (n : ℕ) (kind : ClientKind) (early : Early) → HoldsOf run n early → HoldsOf run n (holds kind early)
holds_of run n Scripted early h = nothing_held run n
holds_of run n Live early h = h

fin_later : (was now : List ℕ) (b c : Bool) (o : Option ℕ) → (b ≡ true → (now ≡ was) × (c ≡ true)) → IfSome o (λ offset. (b ≡ true) × (offset ≡ length was))
    → IfSome o (λ offset. (c ≡ true) × (offset ≡ length now))
fin_later was now b c None g h = tt
fin_later was now b c (Some offset) g h = let x = g h.0 in (x.1, h.1 ∙ ap length (sym x.0))

holds_later : {State : Type 0} (before after : Run State) (n : ℕ) (early : Early) → RunExtends before after → HoldsOf before n early → HoldsOf after n early
holds_later before after n early g h =
    let more : IsPrefix (drop n before.output) (drop n after.output) = drop_prefix n before.output after.output g.output in
    record {
      held = subst (Agrees early.text) more.1 (agrees_later early.text (drop n before.output) more.0 h.held);
      held_fin = fin_later before.output after.output before.closed after.closed early.fin g.closed h.held_fin;
    }

-- what the log doesn't know later it doesn't know before
unknown_before : (key : Key) (before after : Log) (o : Option Entry) → LogGrows before after → entry_of key after ≡ None → entry_of key before ≡ o → entry_of key before ≡ None
unknown_before key before after None g none found = found
unknown_before key before after (Some x) g none found = let later = found_later key before.entries after.entries x g.entries found in none_is_some later.0 (sym none ∙ later.1)

pub seen_later : {State : Type 0} (service : Machine State) (script : Key → List ℕ) (before after : Log) (c : Client) → LogGrows before after → IsSeen service script before c → IsSeen service script after c
seen_later service script before after c g s =
    let goes = reads_proceed service (script c.key) (logged_lengths c.key before) (logged_lengths c.key after) (logged_lengths_grow c.key before after g) in
    record {
      front = prefix_trans c.accepted (logged_run service script before c.key).output (logged_run service script after c.key).output s.front goes.output;
      ended = λ e. let x = s.ended e in let y = goes.closed x.0 in (y.1, x.1 ∙ sym y.0);
      holds = holds_later (logged_run service script before c.key) (logged_run service script after c.key) (length c.accepted) c.early goes s.holds;
      sisn = λ o. let x = s.sisn o in let later = found_later c.key before.entries after.entries x.0 g.entries x.1 in (later.0, later.1, later.2.sisn ∙ x.2);
      unlogged = λ n. s.unlogged (unknown_before c.key before after (entry_of c.key before) g n refl);
    }

-- what a segment says of the run
says_run : {State : Type 0} (run : Run State) (sisn n : ℕ) (segment : Segment) → n ≡ sisn
    → CarriesOutput run sisn segment ⊎ ((text_of segment ≡ []) × (fin_of segment ≡ false))
    → Says run.output (run.closed ≡ true) (first_of n segment) (text_of segment) (fin_of segment)
says_run run sisn n segment same t =
    ⊎_elim
    (λ y. inl (y.0, ap (λ n. first_of n segment) same ∙ y.1, y.2, λ e. let f = y.3 e in let size : length (text_of segment) ≡ 0 = ap length f.2 in (f.0, omega (arith, f.1, size))))
    (λ y. inr y) t

-- the stream is ended where the FIN came, or where it was before
ended_by : (was fin : Bool) (phase : Phase) → is_ended phase ≡ was → (was ≡ true → fin ≡ true) → is_ended (if fin then phases.Ended else phase) ≡ true → fin ≡ true
ended_by was true phase same stays e = refl
ended_by was false phase same stays e = stays (sym same ∙ e)

-- what it adds continues what is accepted, and what it leaves held is the run's
added_seen : {State : Type 0} (run : Run State) (sisn : ℕ) (c : Client) (ack : ℤ) (segment : Segment) → Sees run sisn c → is_open c.phase ≡ true
    → CarriesOutput run sisn segment ⊎ ((text_of segment ≡ []) × (fin_of segment ≡ false)) → Sees run sisn (with_added (with_ack c ack) (came c segment))
added_seen run sisn c ack segment s open_ t =
    let n : ℕ = length c.accepted in
    let was : Bool = is_ended c.phase in
    let early : Early = holds c.kind c.early in
    let first : ℤ = first_of c.sisn segment in
    let h : HoldsOf run n early = holds_of run n c.kind c.early s.holds in
    let before : Fronts run.output (run.closed ≡ true) c.accepted was early =
    record { front = s.front; fin_taken = λ e. let x = s.ended e in (x.0, ap length x.1); held = h.held; held_fin = h.held_fin } in
    let after = comes_fits run.output (run.closed ≡ true) c.accepted c.edge was early first (text_of segment) (fin_of segment) before (says_run run sisn c.sisn segment (s.sisn_is open_) t) in
    record {
      front = after.front;
      ended = λ e.
          let fin : (came c segment).fin ≡ true = ended_by was (came c segment).fin c.phase refl (fin_stays n c.edge was early first (text_of segment) (fin_of segment)) e in
          let all = after.fin_taken fin in
          (all.0, full_front (c.accepted ++ (came c segment).added) run.output after.front (omega (arith, all.1)));
      holds = holds_of run (length (c.accepted ++ (came c segment).added)) c.kind (came c segment).early (record { held = after.held; held_fin = after.held_fin });
      sisn_is = λ o. s.sisn_is open_;
    }

used_seen : {State : Type 0} (run : Run State) (sisn : ℕ) (c : Client) (segment : Segment) → Sees run sisn c → is_open c.phase ≡ true
    → CarriesOutput run sisn segment ⊎ ((text_of segment ≡ []) × (fin_of segment ≡ false)) → Sees run sisn (used c segment)
used_seen run sisn c segment s open_ t =
    holds_if (Sees run sisn) (int_lt (pos c.sent) (ack_of c.isn segment)) c (with_added (with_ack c (ack_of c.isn segment)) (came c segment)) (λ x. s)
    (λ x. added_seen run sisn c (ack_of c.isn segment) segment s open_ t)

reset_seen : {State : Type 0} (run : Run State) (sisn : ℕ) (c : Client) → Sees run sisn c → Sees run sisn (record c { phase = phases.Reset })
reset_seen run sisn c s = record { front = s.front; ended = λ e. absurd (true≢false (sym e)); holds = s.holds; sisn_is = λ o. absurd (true≢false (sym o)) }

-- a segment that isn't a RST says what the log's run has
abbrev pub SaysRun : {State : Type 0} → Run State → ℕ → Segment → Type 0
SaysRun run sisn segment =
    has_rst segment ≡ false → (has_syn segment ≡ true → segment.head.seq ≡ sisn) × (CarriesOutput run sisn segment ⊎ ((text_of segment ≡ []) × (fin_of segment ≡ false)))

arrived_seen : {State : Type 0} (run : Run State) (sisn : ℕ) (c : Client) (segment : Segment) → Sees run sisn c → is_open c.phase ≡ true → SaysRun run sisn segment → Sees run sisn (arrived c segment)
arrived_seen run sisn c segment s open_ t =
    let gone : Client = record c { phase = phases.Reset } in
    let rst : Client = if int_eq (first_of c.sisn segment) (pos (next_of c)) then gone else c in
    let other : Client = if has_syn segment || not (has_ack segment) then c else used c segment in
    holds_if (Sees run sisn) (may_use c segment) (if has_rst segment then rst else other) c
    (λ a. holds_if (Sees run sisn) (has_rst segment) rst other
    (λ r. holds_if (Sees run sisn) (int_eq (first_of c.sisn segment) (pos (next_of c))) gone c (λ x. reset_seen run sisn c s) (λ x. s))
    (λ r. holds_if (Sees run sisn) (has_syn segment || not (has_ack segment)) c (used c segment) (λ x. s) (λ x. used_seen run sisn c segment s open_ (t r).1)))
    (λ a. s)

opened_seen : {State : Type 0} (run : Run State) (sisn : ℕ) (c : Client) (segment : Segment) → Sees run sisn c → SaysRun run sisn segment → Sees run sisn (opened_by c segment)
opened_seen run sisn c segment s t =
    let gone : Client = record c { phase = phases.Reset } in
    let stands : Client = record c { phase = phases.Established; sisn = segment.head.seq } in
    holds_if (Sees run sisn) (has_ack segment && segment.head.ack == number_at c.isn 0) (if has_rst segment then gone else (if has_syn segment then stands else c)) c
    (λ a. holds_if (Sees run sisn) (has_rst segment) gone (if has_syn segment then stands else c) (λ r. reset_seen run sisn c s)
    (λ r. holds_if (Sees run sisn) (has_syn segment) stands c
    (λ x. record { front = s.front; ended = λ e. absurd (true≢false (sym e)); holds = s.holds; sisn_is = λ o. (t r).0 x }) (λ x. s)))
    (λ a. s)

pub received_sees : {State : Type 0} (run : Run State) (sisn : ℕ) (c : Client) (segment : Segment) → Sees run sisn c → SaysRun run sisn segment → Sees run sisn (received c segment)
received_sees run sisn c segment s t =
    holds_if (Sees run sisn) (is_opening c.phase) (opened_by c segment) (if is_open c.phase then arrived c segment else c) (λ o. opened_seen run sisn c segment s t)
    (λ o. holds_if (Sees run sisn) (is_open c.phase) (arrived c segment) c (λ x. arrived_seen run sisn c segment s x t) (λ x. s))

pub moved_seen : {State : Type 0} (service : Machine State) (script : Key → List ℕ) (log : Log) (c : Client) (move : Move) (window : ℕ) → IsSeen service script log c → IsSeen service script log (moved c move window)
moved_seen service script log c (Syn mss) window s = record { front = s.front; ended = λ e. absurd (true≢false (sym e)); holds = s.holds; sisn = λ o. absurd (true≢false (sym o)); unlogged = s.unlogged }
moved_seen service script log c Rst window s = record { front = s.front; ended = λ e. absurd (true≢false (sym e)); holds = s.holds; sisn = λ o. absurd (true≢false (sym o)); unlogged = s.unlogged }
moved_seen service script log c (Text from len) window s = record { front = s.front; ended = s.ended; holds = s.holds; sisn = s.sisn; unlogged = s.unlogged }
moved_seen service script log c Fin window s = record { front = s.front; ended = s.ended; holds = s.holds; sisn = s.sisn; unlogged = s.unlogged }
moved_seen service script log c Acknowledge window s = record { front = s.front; ended = s.ended; holds = s.holds; sisn = s.sisn; unlogged = s.unlogged }
moved_seen service script log c (Refuse number) window s = record { front = s.front; ended = s.ended; holds = s.holds; sisn = s.sisn; unlogged = s.unlogged }
