-- What a connection has taken, and what it holds, are bytes where its segments' payloads are.
use Rattle.std.proofs.Common.{ℕ, zero, suc, ◌<◌, Bool, ◌&&◌, ◌==◌, nat_le, sym, ap, subst, length, drop, Option, Some, None, List, [], ◌∷◌}
use Rattle.std.specs.Prelude.{ℤ, pos, ◌+ℤ◌, IfSome}
use Rattle.std.specs.List.{AllByRecursion}
use Rattle.ft_io.proofs.Choices.{holds_if}
use Rattle.ft_io.specs.declared.Addr.{Addr}
use Rattle.tcp_rules.specs.Arrival.{below}
use Rattle.tcp_rules.specs.Coming.{Early, Came, nothing_came, ahead, new_text, with_text, holds_fin, with_fin, continued, stands_at, with_fin_taken, comes}
use Rattle.tcp_rules.specs.Early.{laid, run_count, front_run, behind_front_run, most_runs, held_with}
use Rattle.seq_arith.specs.Packet.{Segment}
use Rattle.server_trait.specs.Service.{Machine, AreBytes}
use Rattle.ft_model.specs.Connection.{ConnectionTurn, LiveTurn, ResetTurn}
use Rattle.ft_model.specs.Network.{Packet}
use Rattle.ft_model.specs.News.{News}
use Rattle.ft_model.specs.News.News.{Comes, Logged, Ticks, Begins}
use Rattle.ft_model.specs.Offset.{first_of, text_of, fin_of}
use Rattle.ft_model.specs.Point.{Point, receive_edge}
use Rattle.ft_model.specs.Taken.{counts, came, taken_after, early_after}
use Rattle.ft_model.proofs.Formed.{bytes_take, bytes_drop}
use Rattle.ft_model.proofs.Lists.{all_append}
use Rattle.ft_model.proofs.StageTurns.{either_turn}
use Rattle.ft_model.proofs.FormedTurns.{text_bytes}

-- places that hold bytes, or nothing
abbrev AreHeld : List (Option ℕ) → Type 0
AreHeld held = AllByRecursion (λ place. IfSome place (λ byte. byte < 256)) held

laid_bytes : (at : ℕ) (bytes : List ℕ) (held : List (Option ℕ)) → AreBytes bytes → AreHeld held → AreHeld (laid at bytes held)
unfolding laid
laid_bytes at [] held b h = h
laid_bytes zero (x ∷ bytes) [] b h = (b.0, laid_bytes zero bytes [] b.1 tt)
laid_bytes zero (x ∷ bytes) (place ∷ held) b h = (b.0, laid_bytes zero bytes held b.1 h.1)
laid_bytes (suc k) (x ∷ bytes) [] b h = (tt, laid_bytes k (x ∷ bytes) [] b tt)
laid_bytes (suc k) (x ∷ bytes) (place ∷ held) b h = (h.0, laid_bytes k (x ∷ bytes) held b h.1)

front_bytes : (held : List (Option ℕ)) → AreHeld held → AreBytes (front_run held)
unfolding front_run
front_bytes [] h = tt
front_bytes (None ∷ held) h = tt
front_bytes (Some x ∷ held) h = (h.0, front_bytes held h.1)

behind_bytes : (held : List (Option ℕ)) → AreHeld held → AreHeld (behind_front_run held)
unfolding behind_front_run
behind_bytes [] h = tt
behind_bytes (None ∷ held) h = (tt, h.1)
behind_bytes (Some x ∷ held) h = behind_bytes held h.1

drop_held : (n : ℕ) (held : List (Option ℕ)) → AreHeld held → AreHeld (drop n held)
drop_held zero held h = h
drop_held (suc n) [] h = tt
drop_held (suc n) (place ∷ held) h = drop_held n held h.1

more_held : (at : ℕ) (bytes : List ℕ) (held : List (Option ℕ)) → AreBytes bytes → AreHeld held → AreHeld (held_with at bytes held)
unfolding held_with
more_held at bytes held b h = holds_if AreHeld (nat_le (run_count (laid at bytes held)) most_runs) (laid at bytes held) held (λ t. laid_bytes at bytes held b h) (λ t. h)

record CameBytes (c : Came) : Type 0 where
  added : AreBytes c.added
  held : AreHeld c.early.text

new_bytes : (n edge : ℕ) (fin : Bool) (early : Early) (first : ℤ) (text : List ℕ) → AreBytes text → AreBytes (new_text n edge fin early first text)
unfolding new_text
new_bytes n edge fin early first text b = bytes_take _ (drop (below n first) text) (bytes_drop (below n first) text b)

text_came : (n edge : ℕ) (first : ℤ) (text : List ℕ) (c : Came) → AreBytes text → CameBytes c → CameBytes (with_text n edge first text c)
unfolding with_text
text_came n edge first text c b h =
    let new = new_text n edge c.fin c.early first text in
    let fresh : AreBytes new = new_bytes n edge c.fin c.early first text b in
    holds_if CameBytes (ahead n first == 0) (record c { added = new; early = record c.early { text = drop (length new) c.early.text } })
    (record c { early = record c.early { text = held_with (ahead n first) new c.early.text } })
    (λ t. record { added = fresh; held = drop_held (length new) c.early.text h.held })
    (λ t. record { added = h.added; held = more_held (ahead n first) new c.early.text fresh h.held })

fin_came : (n edge : ℕ) (place : ℤ) (has_fin : Bool) (c : Came) → CameBytes c → CameBytes (with_fin n edge place has_fin c)
unfolding with_fin
fin_came n edge place has_fin c h =
    holds_if CameBytes (has_fin && holds_fin n edge place c) _ c (λ t. record { added = h.added; held = h.held }) (λ t. h)

continued_came : (c : Came) → CameBytes c → CameBytes (continued c)
unfolding continued
continued_came c h = record {
  added = all_append (λ n. n < 256) c.added (front_run c.early.text) h.added (front_bytes c.early.text h.held);
  held = behind_bytes c.early.text h.held;
}

taken_came : (n : ℕ) (c : Came) → CameBytes c → CameBytes (with_fin_taken n c)
unfolding with_fin_taken
taken_came n c h = holds_if CameBytes (stands_at _ c.early.fin) _ c (λ t. record { added = h.added; held = h.held }) (λ t. h)

comes_bytes : (n edge : ℕ) (fin : Bool) (early : Early) (first : ℤ) (text : List ℕ) (has_fin : Bool) → AreBytes text → AreHeld early.text → CameBytes (comes n edge fin early first text has_fin)
unfolding comes
comes_bytes n edge fin early first text has_fin b h =
    let text_in = with_text n edge first text (nothing_came early fin) in
    let fin_in = with_fin n edge (first +ℤ pos (length text)) has_fin text_in in
    taken_came n (continued fin_in)
    (continued_came fin_in (fin_came n edge (first +ℤ pos (length text)) has_fin text_in (text_came n edge first text (nothing_came early fin) b (record { added = tt; held = h }))))

-- what a point has
pub record HasBytes (p : Point) : Type 0 where
  pub taken : AreBytes p.taken
  pub held : AllByRecursion (λ place. IfSome place (λ byte. byte < 256)) p.early.text

abbrev pub NewsBytes : News → Type 0
NewsBytes (Comes segment) = AreBytes segment.payload
NewsBytes _ = Unit {0}

came_bytes : (p : Point) (segment : Segment) → AreBytes segment.payload → HasBytes p → CameBytes (came p segment)
unfolding came
came_bytes p segment b h =
    holds_if CameBytes (counts p segment) (comes (length p.taken) (receive_edge p) p.fin p.early (first_of p.cisn segment) (text_of segment) (fin_of segment)) (nothing_came p.early p.fin)
    (λ t. comes_bytes (length p.taken) (receive_edge p) p.fin p.early (first_of p.cisn segment) (text_of segment) (fin_of segment) (text_bytes segment b) h.held)
    (λ t. record { added = tt; held = h.held })

taken_bytes : (news : News) (p : Point) → NewsBytes news → HasBytes p → AreBytes (taken_after news p)
unfolding taken_after
taken_bytes (Comes segment) p b h = all_append (λ n. n < 256) p.taken (came p segment).added h.taken (came_bytes p segment b h).added
taken_bytes (Logged kept) p b h = h.taken
taken_bytes Ticks p b h = h.taken
taken_bytes Begins p b h = h.taken

early_bytes : (news : News) (p : Point) → NewsBytes news → HasBytes p → AreHeld (early_after news p).text
unfolding early_after
early_bytes (Comes segment) p b h = (came_bytes p segment b h).held
early_bytes (Logged kept) p b h = h.held
early_bytes Ticks p b h = h.held
early_bytes Begins p b h = h.held

pub turn_bytes : {State : Type 0} (service : Machine State) (server : Addr) (boot : ℕ) (news : News) (p q : Point) (packets : List Packet) → NewsBytes news → HasBytes p
    → ConnectionTurn service server boot news p q packets → HasBytes q
turn_bytes service server boot news p q packets b h t =
    either_turn service server boot news p q packets
    (λ (r : ResetTurn boot news p q packets). record {
      taken = subst AreBytes (sym (ap (λ (x : Point). x.taken) r.point)) h.taken;
      held = subst AreHeld (sym (ap (λ (x : Point). x.early.text) r.point)) h.held;
    })
    (λ (l : LiveTurn service server boot news p q packets). record {
      taken = subst AreBytes (sym l.taken) (taken_bytes news p b h);
      held = subst (λ (e : Early). AreHeld e.text) (sym l.early) (early_bytes news p b h);
    }) t
