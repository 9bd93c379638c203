-- What the text and the FIN of a segment make of a receiver's fields, and that its fields keep what they keep.
use Rattle.std.proofs.Common.{◌≡◌, ℕ, zero, suc, ◌+◌, ◌-◌, ◌^◌, ◌<◌, ◌≤◌, pos, ◌+ℤ◌, Bool, true, false, ◌==◌, ◌&&◌, refl, sym, ap, ◌∙◌, subst, ltb-true, ltb-false, Option, Some, None, List, [], ◌∷◌, ◌++◌, length, length-append, length-take, append-nil, drop, arith, min, if◌then◌else◌}
use Rattle.std.specs.Prelude.{ℤ, ◌≢◌, IfSome, nat_lt}
use Rattle.std.proofs.lemmas.Int.{ints}
use Rattle.std.proofs.lemmas.List.{take_all}
use Rattle.ft_io.proofs.Choices.{by_cases, holds_either_way}
use Rattle.tcp_rules.specs.Arrival.{below}
use Rattle.tcp_rules.specs.Early.{laid, held_with, front_run, behind_front_run, holds_some}
use Rattle.tcp_rules.specs.Coming.{Early, Came, StandsBehind, nothing_came, text_edge, ahead, new_text, with_text, holds_fin, continued, stands_at, with_fin_taken, comes}
use Rattle.tcp_buffers.specs.Queue.{Queue, empty_queue, added_by, pushed}
use Rattle.tcp_endpoint.specs.ReceiveHalf.{Receiving, ReceiverInvariant, taken, receive_edge, came, with_came, with_segment}
use Rattle.tcp_rules.proofs.Coming.{behind_gap, behind_within, stays_behind, comes_bare, nothing_behind}
use Rattle.tcp_rules.proofs.ComingKeeps.{bounded}
use Rattle.tcp_endpoint.proofs.Steps.{text_step, fin_step, fin_then, in_steps, step_adds_none, not_held, held_at, was_none, text_alone, is_taken, isnt_taken}

-- a queue appends bytes, or holds them where they are ahead
abbrev pub put : ℕ → List ℕ → Queue → Queue
put ahead bytes q = if ahead == 0 then pushed bytes q else record q { early = held_with ahead bytes q.early }

-- the gap before what is held stays, whatever is held after it
gap_stays : (at : ℕ) (bytes : List ℕ) (held : List (Option ℕ)) → 0 < at → front_run held ≡ [] → front_run (laid at bytes held) ≡ []
unfolding laid front_run
gap_stays at [] held h gap = gap
gap_stays zero (x ∷ bytes) held h gap = absurd (omega (arith, h))
gap_stays (suc k) (x ∷ bytes) [] h gap = refl
gap_stays (suc k) (x ∷ bytes) (None ∷ held) h gap = refl
gap_stays (suc k) (x ∷ bytes) (Some y ∷ held) h gap = absurd (omega (arith, ap length gap))

held_behind : (at : ℕ) (bytes : List ℕ) (held : List (Option ℕ)) → 0 < at → front_run held ≡ [] → front_run (held_with at bytes held) ≡ []
unfolding held_with
held_behind at bytes held h gap = holds_either_way (λ l. front_run l ≡ []) _ (laid at bytes held) held (gap_stays at bytes held h gap) gap

-- a queue becomes what a segment's text makes of the stream, and no FIN is taken by that
pub record IsText (n edge : ℕ) (fin : Bool) (early : Early) (first : ℤ) (text unread : List ℕ) : Type 0 where
  pub queue : put (ahead n first) (new_text n edge fin early first text) (record { unread = unread; early = early.text })
      ≡ record { unread = unread ++ (text_step n edge fin early first text).added; early = (text_step n edge fin early first text).early.text }
  pub same_held_fin : (text_step n edge fin early first text).early.fin ≡ early.fin
  pub same_fin : (text_step n edge fin early first text).fin ≡ fin

queued_text : (unread new : List ℕ) (held : List (Option ℕ)) → length unread + length new ≤ 65535
    → pushed new (record { unread = unread; early = held }) ≡ record { unread = unread ++ (new ++ front_run (drop (length new) held)); early = behind_front_run (drop (length new) held) }
unfolding pushed added_by
queued_text unread new held fits =
    ap (λ (bytes : List ℕ). record { unread = unread ++ (bytes ++ front_run (drop (length bytes) held)); early = behind_front_run (drop (length bytes) held) })
    (take_all (65535 - length unread) new (omega (arith, fits)))

text_is : (n edge : ℕ) (fin : Bool) (early : Early) (first : ℤ) (text unread : List ℕ) → front_run early.text ≡ []
    → (ahead n first ≡ 0 → length unread + length (new_text n edge fin early first text) ≤ 65535) → IsText n edge fin early first text unread
unfolding continued with_text
text_is n edge fin early first text unread gap fits =
    let new : List ℕ = new_text n edge fin early first text in
    let q : Queue = record { unread = unread; early = early.text } in
    let at_end : Came = record (nothing_came early fin) { added = new; early = record early { text = drop (length new) early.text } } in
    let held : List (Option ℕ) = held_with (ahead n first) new early.text in
    let past : Came = record (nothing_came early fin) { early = record early { text = held } } in
    by_cases (ahead n first == 0)
    (λ t. let start : with_text n edge first text (nothing_came early fin) ≡ at_end = ap (λ b. if b then at_end else past) t in
    record {
      queue = ap (λ b. if b then pushed new q else record q { early = held }) t ∙ queued_text unread new early.text (fits (grind (arith, t)))
          ∙ sym (ap (λ (c : Came). record { unread = unread ++ (continued c).added; early = (continued c).early.text }) start);
      same_held_fin = ap (λ (c : Came). (continued c).early.fin) start;
      same_fin = ap (λ (c : Came). (continued c).fin) start;
    })
    (λ t. let start : with_text n edge first text (nothing_came early fin) ≡ past = ap (λ b. if b then at_end else past) t in
    let still : front_run held ≡ [] = held_behind (ahead n first) new early.text (grind (arith, t)) gap in
    record {
      queue = ap (λ b. if b then pushed new q else record q { early = held }) t
          ∙ sym (ap (λ (c : Came). record { unread = unread ++ (continued c).added; early = (continued c).early.text }) start
          ∙ (λ i. record { unread = (ap (λ l. unread ++ l) still ∙ append-nil unread) i; early = behind_gap held still i }));
      same_held_fin = ap (λ (c : Came). (continued c).early.fin) start;
      same_fin = ap (λ (c : Came). (continued c).fin) start;
    })

edge_within : (n edge : ℕ) (fin : Bool) (early : Early) → n ≤ edge → text_edge n edge fin early ≤ edge
edge_within n edge true early up = up
edge_within n edge false early up = bounded early.fin edge

new_within : (n edge : ℕ) (fin : Bool) (early : Early) (first : ℤ) (text : List ℕ) → n ≤ edge → 0 < length (new_text n edge fin early first text)
    → n + ahead n first + length (new_text n edge fin early first text) ≤ edge
unfolding new_text
new_within n edge fin early first text up some =
    omega (arith, length-take (text_edge n edge fin early - (n + ahead n first)) (drop (below n first) text), some, edge_within n edge fin early up)

-- the stream ends where a FIN is held at the end of the bytes that are taken then, ..
with_held_fin : (r : Receiving) (first : ℤ) (text : List ℕ) (q : Queue) → IsText (taken r) (receive_edge r) r.fin r.early first text r.unread
    → q ≡ put (ahead (taken r) first) (new_text (taken r) (receive_edge r) r.fin r.early first text) (record { unread = r.unread; early = r.early.text })
    → stands_at (r.read + length q.unread) r.early.fin ≡ true
    → record r { unread = q.unread; early = record { text = q.early; fin = None }; fin = true } ≡ with_segment r first text false
unfolding with_came
with_held_fin r first text q is e stands =
    let c : Came = text_step (taken r) (receive_edge r) r.fin r.early first text in
    let queue : q ≡ record { unread = r.unread ++ c.added; early = c.early.text } = e ∙ is.queue in
    let end : r.read + length q.unread ≡ taken r + length c.added = omega (arith, ap (λ (k : Queue). length k.unread) queue, length-append r.unread c.added) in
    let here : stands_at (taken r + length c.added) c.early.fin ≡ true = (λ i. stands_at (sym end i) (is.same_held_fin i)) ∙ stands in
    (λ i. record r { unread = (queue i).unread; early = record { text = (queue i).early; fin = None }; fin = true })
    ∙ sym (ap (with_came r) (text_alone (taken r) (receive_edge r) r.fin r.early first text ∙ is_taken (taken r) c here))

-- .. and else it goes on
without_held_fin : (r : Receiving) (first : ℤ) (text : List ℕ) (q : Queue) → IsText (taken r) (receive_edge r) r.fin r.early first text r.unread
    → q ≡ put (ahead (taken r) first) (new_text (taken r) (receive_edge r) r.fin r.early first text) (record { unread = r.unread; early = r.early.text })
    → stands_at (r.read + length q.unread) r.early.fin ≡ false
    → record r { unread = q.unread; early = record r.early { text = q.early } } ≡ with_segment r first text false
unfolding with_came
without_held_fin r first text q is e stands =
    let c : Came = text_step (taken r) (receive_edge r) r.fin r.early first text in
    let queue : q ≡ record { unread = r.unread ++ c.added; early = c.early.text } = e ∙ is.queue in
    let end : r.read + length q.unread ≡ taken r + length c.added = omega (arith, ap (λ (k : Queue). length k.unread) queue, length-append r.unread c.added) in
    let here : stands_at (taken r + length c.added) c.early.fin ≡ false = (λ i. stands_at (sym end i) (is.same_held_fin i)) ∙ stands in
    (λ i. record r { unread = (queue i).unread; early = record { text = (queue i).early; fin = sym is.same_held_fin i }; fin = sym is.same_fin i })
    ∙ sym (ap (with_came r) (text_alone (taken r) (receive_edge r) r.fin r.early first text ∙ isnt_taken (taken r) c here))

-- what stays true of a receiver's fields, by what contracts see
abbrev pub KeepsOf : Receiving → Type 0
KeepsOf r = ReceiverInvariant r.read (record { unread = r.unread; early = r.early.text }) r.fin r.early.fin r.limit

up_to_edge : (r : Receiving) → KeepsOf r → taken r ≤ receive_edge r
up_to_edge r k = omega (arith, k.within, k.queued)

keeps_with : (r : Receiving) (first : ℤ) (text : List ℕ) (has_fin : Bool) → KeepsOf r → KeepsOf (with_segment r first text has_fin)
unfolding with_came
keeps_with r first text has_fin k =
    let c : Came = came r first text has_fin in
    let behind : StandsBehind (taken r + length c.added) (receive_edge r) c.fin c.early =
    stays_behind (taken r) (receive_edge r) r.fin r.early first text has_fin (up_to_edge r k) k.behind in
    let size : r.read + length (r.unread ++ c.added) ≡ taken r + length c.added = omega (arith, length-append r.unread c.added) in
    record {
      within = omega (arith, size, behind.text);
      queued = omega (arith, size, behind.text);
      near = k.near;
      behind = subst (λ m. StandsBehind m (receive_edge r) c.fin c.early) (sym size) behind;
    }

keeps_by : (r s : Receiving) → r ≡ s → KeepsOf s → KeepsOf r
keeps_by r s e k = subst KeepsOf (sym e) k

pub keeps_none : (q : Queue) (limit : ℕ) → q ≡ empty_queue → limit ≤ 2 ^ 30 → ReceiverInvariant 0 q false None limit
keeps_none q limit e near =
    subst (λ k. ReceiverInvariant 0 k false None limit) (sym e) (record { within = omega arith; queued = omega arith; near = near; behind = nothing_behind 0 (min 65535 limit) false (omega arith) })

-- a FIN after no text
fin_alone : (n edge : ℕ) (fin : Bool) (early : Early) (place : ℤ) (has_fin : Bool) → StandsBehind n edge fin early
    → comes n edge fin early place [] has_fin ≡ fin_step n edge fin early place has_fin
fin_alone n edge fin early place has_fin b =
    let behind : place +ℤ pos 0 ≡ place = omega (arith, ints) in
    let end : n + 0 ≡ n = omega arith in
    in_steps n edge fin early place [] has_fin ∙ ap (fin_then n edge (place +ℤ pos 0) has_fin) (comes_bare n edge fin early place b)
    ∙ (λ i. record (fin_step (end i) edge fin early (behind i) has_fin) { added = [] })
    ∙ ap (λ l. record (fin_step n edge fin early place has_fin) { added = l }) (sym (step_adds_none n edge fin early place has_fin))

-- the text of a segment, and then its FIN
pub one_segment : (r : Receiving) (first : ℤ) (text : List ℕ) (has_fin : Bool) → StandsBehind (taken r) (receive_edge r) r.fin r.early
    → with_segment (with_segment r first text false) (first +ℤ pos (length text)) [] has_fin ≡ with_segment r first text has_fin
unfolding with_came
one_segment r first text has_fin b =
    let n : ℕ = taken r in
    let edge : ℕ = receive_edge r in
    let c : Came = came r first text false in
    let place : ℤ = first +ℤ pos (length text) in
    let size : r.read + length (r.unread ++ c.added) ≡ n + length c.added = omega (arith, length-append r.unread c.added) in
    let last : Came = fin_step (n + length c.added) edge c.fin c.early place has_fin in
    let behind : StandsBehind (n + length c.added) edge c.fin c.early = stays_behind n edge r.fin r.early first text false (behind_within n edge r.fin r.early b) b in
    let same : comes (r.read + length (r.unread ++ c.added)) edge c.fin c.early place [] has_fin ≡ last =
    ap (λ m. comes m edge c.fin c.early place [] has_fin) size ∙ fin_alone (n + length c.added) edge c.fin c.early place has_fin behind in
    ap (λ (d : Came). record r { unread = r.unread ++ c.added ++ d.added; early = d.early; fin = d.fin }) same
    ∙ ap (λ l. record r { unread = l; early = last.early; fin = last.fin })
    (ap (λ l. r.unread ++ c.added ++ l) (step_adds_none (n + length c.added) edge c.fin c.early place has_fin) ∙ append-nil (r.unread ++ c.added))
    ∙ sym (ap (with_came r) (in_steps n edge r.fin r.early first text has_fin))

-- what a step makes of a receiver's fields, and that they keep what they keep
pub record Makes (r : Receiving) (first : ℤ) (text : List ℕ) (has_fin : Bool) (s : Receiving) : Type 0 where
  pub view : s ≡ with_segment r first text has_fin
  pub keeps : KeepsOf s

makes : (v r s : Receiving) (first : ℤ) (text : List ℕ) (has_fin : Bool) → v ≡ r → KeepsOf v → s ≡ with_segment v first text has_fin → Makes r first text has_fin s
makes v r s first text has_fin same k e = record {
  view = e ∙ ap (λ (x : Receiving). with_segment x first text has_fin) same;
  keeps = keeps_by s (with_segment v first text has_fin) e (keeps_with v first text has_fin k);
}

-- the new part of a text is in the queue
pub record IsPut (v : Receiving) (first : ℤ) (text : List ℕ) (q : Queue) : Type 0 where
  pub is : IsText (taken v) (receive_edge v) v.fin v.early first text v.unread
  pub queue : q ≡ put (ahead (taken v) first) (new_text (taken v) (receive_edge v) v.fin v.early first text) (record { unread = v.unread; early = v.early.text })

pub fits_queue : (v r : Receiving) (first : ℤ) (text part : List ℕ) (gap : ℕ) → v ≡ r → KeepsOf v → gap ≡ ahead (taken r) first
    → part ≡ new_text (taken r) (receive_edge r) r.fin r.early first text → 0 < length part → length v.unread + gap + length part ≤ 65535
fits_queue v r first text part gap same k g p some =
    let new : part ≡ new_text (taken v) (receive_edge v) v.fin v.early first text = p ∙ ap (λ (x : Receiving). new_text (taken x) (receive_edge x) x.fin x.early first text) (sym same) in
    let at : gap ≡ ahead (taken v) first = g ∙ ap (λ (x : Receiving). ahead (taken x) first) (sym same) in
    let size = ap length new in
    omega (arith, size, at, new_within (taken v) (receive_edge v) v.fin v.early first text (up_to_edge v k) (omega (arith, size, some)))

pub is_put : (v r : Receiving) (first : ℤ) (text part : List ℕ) (gap : ℕ) (q : Queue) → v ≡ r → KeepsOf v → gap ≡ ahead (taken r) first
    → part ≡ new_text (taken r) (receive_edge r) r.fin r.early first text → q ≡ put gap part (record { unread = v.unread; early = v.early.text }) → IsPut v first text q
is_put v r first text part gap q same k g p e =
    let new : part ≡ new_text (taken v) (receive_edge v) v.fin v.early first text = p ∙ ap (λ (x : Receiving). new_text (taken x) (receive_edge x) x.fin x.early first text) (sym same) in
    let at : gap ≡ ahead (taken v) first = g ∙ ap (λ (x : Receiving). ahead (taken x) first) (sym same) in
    record {
      is = text_is (taken v) (receive_edge v) v.fin v.early first text v.unread k.behind.gap
          (λ here. fits_at_end v first text k here);
      queue = e ∙ (λ i. put (at i) (new i) (record { unread = v.unread; early = v.early.text }));
    }
  where
    fits_at_end : (v : Receiving) (first : ℤ) (text : List ℕ) → KeepsOf v → ahead (taken v) first ≡ 0
        → length v.unread + length (new_text (taken v) (receive_edge v) v.fin v.early first text) ≤ 65535
    fits_at_end v first text k here =
        let new : List ℕ = new_text (taken v) (receive_edge v) v.fin v.early first text in
        by_cases (nat_lt 0 (length new))
        (λ t. omega (arith, here, new_within (taken v) (receive_edge v) v.fin v.early first text (up_to_edge v k) (ltb-true 0 (length new) t)))
        (λ t. omega (arith, k.queued, ltb-false 0 (length new) t))

pub text_ends : (v r : Receiving) (first : ℤ) (text : List ℕ) (q : Queue) → v ≡ r → KeepsOf v → IsPut v first text q → stands_at (v.read + length q.unread) v.early.fin ≡ true
    → Makes r first text false (record v { unread = q.unread; early = record { text = q.early; fin = None }; fin = true })
text_ends v r first text q same k p t = makes v r _ first text false same k (with_held_fin v first text q p.is p.queue t)

pub text_proceeds : (v r : Receiving) (first : ℤ) (text : List ℕ) (q : Queue) → v ≡ r → KeepsOf v → IsPut v first text q → stands_at (v.read + length q.unread) v.early.fin ≡ false
    → Makes r first text false (record v { unread = q.unread; early = record v.early { text = q.early } })
text_proceeds v r first text q same k p t = makes v r _ first text false same k (without_held_fin v first text q p.is p.queue t)

-- a FIN that isn't taken or held changes nothing, ..
not_standing : (held : Option ℕ) (n edge : ℕ) (places : List (Option ℕ))
    → IfSome held (λ offset. (n < offset) × (offset < edge) × (holds_some (drop (offset - n) places) ≡ false)) → stands_at (n + 0) held ≡ false
not_standing None n edge places h = refl
not_standing (Some offset) n edge places h = grind (arith, h.0)

alone : (r : Receiving) (place : ℤ) (has_fin : Bool) (c : Came) → KeepsOf r → fin_step (taken r) (receive_edge r) r.fin r.early place has_fin ≡ c
    → with_segment r place [] has_fin ≡ with_came r c
alone r place has_fin c k e = ap (with_came r) (fin_alone (taken r) (receive_edge r) r.fin r.early place has_fin k.behind ∙ e)

pub no_fin : (r : Receiving) (place : ℤ) (has_fin : Bool) → KeepsOf r → (has_fin && holds_fin (taken r) (receive_edge r) place (nothing_came r.early r.fin)) ≡ false
    → r ≡ with_segment r place [] has_fin
unfolding with_came
no_fin r place has_fin k out =
    let c : Came = nothing_came r.early r.fin in
    let step : fin_step (taken r) (receive_edge r) r.fin r.early place has_fin ≡ c =
    ap (with_fin_taken (taken r)) (not_held (taken r) (receive_edge r) place has_fin c out) ∙ isnt_taken (taken r) c (not_standing r.early.fin (taken r) (receive_edge r) r.early.text k.behind.held_fin) in
    sym (alone r place has_fin c k step ∙ ap (λ l. record r { unread = l }) (append-nil r.unread))

-- .. one at the end of the bytes taken is taken, ..
fin_here : (r : Receiving) (place : ℕ) → KeepsOf r → holds_fin (taken r) (receive_edge r) (pos place) (nothing_came r.early r.fin) ≡ true → place ≡ taken r
    → record r { fin = true } ≡ with_segment r (pos place) [] true
unfolding with_came
fin_here r place k t here =
    let c : Came = nothing_came r.early r.fin in
    let held : Came = record c { early = record r.early { fin = Some place } } in
    let none : r.early.fin ≡ None = was_none (taken r) (receive_edge r) (pos place) c t in
    let step : fin_step (taken r) (receive_edge r) r.fin r.early (pos place) true ≡ record c { early = record r.early { fin = None }; fin = true } =
    ap (with_fin_taken (taken r)) (held_at (taken r) (receive_edge r) (pos place) c t) ∙ is_taken (taken r) held (grind (arith, here)) in
    (λ i. record r { early = record r.early { fin = none i }; fin = true })
    ∙ sym (alone r (pos place) true (record c { early = record r.early { fin = None }; fin = true }) k step ∙ ap (λ l. record r { unread = l; early = record r.early { fin = None }; fin = true }) (append-nil r.unread))

pub takes_fin : (v r : Receiving) (place : ℤ) (number : ℕ) → v ≡ r → KeepsOf v → pos number ≡ place
    → holds_fin (taken r) (receive_edge r) (pos number) (nothing_came r.early r.fin) ≡ true → number ≡ taken r → Makes r place [] true (record v { fin = true })
takes_fin v r place number same k at t here =
    let at_v : holds_fin (taken v) (receive_edge v) (pos number) (nothing_came v.early v.fin) ≡ true =
    ap (λ (x : Receiving). holds_fin (taken x) (receive_edge x) (pos number) (nothing_came x.early x.fin)) same ∙ t in
    makes v r _ place [] true same k (fin_here v number k at_v (here ∙ ap taken (sym same)) ∙ ap (λ p. with_segment v p [] true) at)

-- .. and any other is held
fin_later : (r : Receiving) (place : ℕ) → KeepsOf r → holds_fin (taken r) (receive_edge r) (pos place) (nothing_came r.early r.fin) ≡ true → place ≢ taken r
    → record r { early = record r.early { fin = Some place } } ≡ with_segment r (pos place) [] true
unfolding with_came
fin_later r place k t later =
    let c : Came = nothing_came r.early r.fin in
    let held : Came = record c { early = record r.early { fin = Some place } } in
    let step : fin_step (taken r) (receive_edge r) r.fin r.early (pos place) true ≡ held =
    ap (with_fin_taken (taken r)) (held_at (taken r) (receive_edge r) (pos place) c t) ∙ isnt_taken (taken r) held (grind (arith, later)) in
    sym (alone r (pos place) true held k step ∙ ap (λ l. record r { unread = l; early = record r.early { fin = Some place } }) (append-nil r.unread))

pub keeps_fin : (v r : Receiving) (place : ℤ) (number : ℕ) → v ≡ r → KeepsOf v → pos number ≡ place
    → holds_fin (taken r) (receive_edge r) (pos number) (nothing_came r.early r.fin) ≡ true → number ≢ taken r
    → Makes r place [] true (record v { early = record v.early { fin = Some number } })
keeps_fin v r place number same k at t later =
    let at_v : holds_fin (taken v) (receive_edge v) (pos number) (nothing_came v.early v.fin) ≡ true =
    ap (λ (x : Receiving). holds_fin (taken x) (receive_edge x) (pos number) (nothing_came x.early x.fin)) same ∙ t in
    makes v r _ place [] true same k (fin_later v number k at_v (λ e. later (e ∙ ap taken same)) ∙ ap (λ p. with_segment v p [] true) at)
