-- The reads of a turn are those of the law.
use Rattle.std.proofs.Common.{◌≡◌, ℕ, ◌+◌, ◌-◌, ◌<◌, ◌≤◌, ◌==◌, ◌&&◌, ◌||◌, true, false, not, min, max, sum, nat_lt, sym, ap, ◌∙◌, subst, Some, None, List, [], ◌∷◌, ◌++◌, length, drop, arith, append_assoc, append-nil}
use Rattle.std.specs.List.{list_any}
use Rattle.server_trait.specs.Service.{Machine}
use Rattle.ft_model.specs.Point.{Point}
use Rattle.ft_model.specs.Reads.{next_read, with_read, may_read, next_length}
use Rattle.ft_model.proofs.Lists.{some_is, none_is_some}
use Rattle.ft_model.proofs.Services.{sum_append}
use Rattle.north_wrap.specs.NorthState.{NorthState, Reads, read_on, socket_on}
use Rattle.north_wrap.specs.Sockets.{Reader, Writer, SocketLaws}
use Rattle.north_wrap.specs.Refinement.{NorthStands, QueueStands, IsNext, ReadsLead}
use Rattle.north_wrap.proofs.NextRead.{same_next, rest_length}
use Rattle.north_wrap.proofs.OneRead.{read_more, drop_drop}
use Rattle.ft_io.proofs.Choices.{holds_if}

next_length_is : (p : Point) (k : ℕ) → p.fetched ≤ length p.taken → sum p.lengths ≤ length p.taken → next_length p ≡ Some k → IsNext p k
unfolding next_length
next_length_is p k fetched enough =
    holds_if (λ o. o ≡ Some k → IsNext p k) (nat_lt (sum p.lengths) p.fetched) (Some (min 2048 (p.fetched - sum p.lengths))) _
    (λ t e. let same : min 2048 (p.fetched - sum p.lengths) ≡ k = some_is _ _ e in
    let less : sum p.lengths < p.fetched = grind (arith, t) in
    record { rest = λ h. omega (arith, same, less); within = omega (arith, same, less, fetched) })
    (λ t. let more : p.fetched ≤ sum p.lengths = grind (arith, t) in
    holds_if (λ o. o ≡ Some k → IsNext p k) (nat_lt (sum p.lengths) (length p.taken)) (Some (min 2048 (length p.taken - sum p.lengths))) _
    (λ s e. let same : min 2048 (length p.taken - sum p.lengths) ≡ k = some_is _ _ e in
    let less : sum p.lengths < length p.taken = grind (arith, s) in
    record { rest = λ h. absurd (omega (arith, h, more)); within = omega (arith, same, less) })
    (λ s. holds_if (λ o. o ≡ Some k → IsNext p k) (p.fin && not (list_any (λ n. n == 0) p.lengths)) (Some 0) None
    (λ x e. let same : 0 ≡ k = some_is _ _ e in record { rest = λ h. absurd (omega (arith, h, more)); within = omega (arith, same, enough) }) (λ x e. none_is_some k e)))

pub next_is : {S : Type 0} (service : Machine S) (p : Point) (k : ℕ) → p.fetched ≤ length p.taken → sum p.lengths ≤ length p.taken → next_read service p ≡ Some k → IsNext p k
next_is service p k fetched enough =
    holds_if (λ o. o ≡ Some k → IsNext p k) (may_read service p) (next_length p) None (λ t e. next_length_is p k fetched enough e) (λ t e. none_is_some k e)

-- the socket after a read
pub socket_more : {S K : Type 0} (service : Machine S) (r : Reader K) (w : Writer K) (p : Point) (given : ℕ) (n : NorthState S) (s : K) (k : ℕ) → SocketLaws r w
    → NorthStands service p given n → QueueStands p (r.unread s) (r.has_end s) → IsNext p k → QueueStands (with_read k p) (r.unread (socket_on r k n s)) (r.has_end (socket_on r k n s))
unfolding socket_on
socket_more service r w p given n s k off st so next =
    let total = sum_append p.lengths k in
    let rest : length n.rest ≡ p.fetched - sum p.lengths = rest_length service p given n st in
    holds_if (λ t. QueueStands (with_read k p) (r.unread t) (r.has_end t)) (nat_lt 0 (length n.rest) || k == 0) s (r.after_read s k)
    (λ t. record { waits = so.waits ∙ (let e : max p.fetched (sum p.lengths) ≡ max p.fetched (sum (p.lengths ++ k ∷ [])) = stays p.fetched (sum p.lengths) k (sum (p.lengths ++ k ∷ [])) (length n.rest) t rest total next.rest in ap (λ m. drop m p.taken) e); fin = so.fin })
    (λ t. record {
      waits = off.read_front s k ∙ ap (drop k) so.waits ∙ drop_drop k (max p.fetched (sum p.lengths)) p.taken
          ∙ (let e : max p.fetched (sum p.lengths) + k ≡ max p.fetched (sum (p.lengths ++ k ∷ [])) = moves p.fetched (sum p.lengths) k (sum (p.lengths ++ k ∷ [])) (length n.rest) t rest total in ap (λ m. drop m p.taken) e);
      fin = off.read_end s k ∙ so.fin;
    })
  where
    stays : (fetched read k total rest : ℕ) → (nat_lt 0 rest || k == 0) ≡ true → rest ≡ fetched - read → total ≡ read + k → (read < fetched → k + read ≤ fetched) → max fetched read ≡ max fetched total
    stays fetched read k total rest t e h next = grind (arith, t, e, h, next)

    moves : (fetched read k total rest : ℕ) → (nat_lt 0 rest || k == 0) ≡ false → rest ≡ fetched - read → total ≡ read + k → max fetched read + k ≡ max fetched total
    moves fetched read k total rest t e h = grind (arith, t, e, h)

pub reads_lead : {S K : Type 0} (service : Machine S) (r : Reader K) (w : Writer K) (p : Point) (given : ℕ) (n : NorthState S) (s : K) (ks : List ℕ) (m : NorthState S) (t : K) → SocketLaws r w
    → NorthStands service p given n → QueueStands p (r.unread s) (r.has_end s) → Reads service.after r p.una n s ks m t → ReadsLead service r p given ks m t
reads_lead service r w p given n s [] m t off st so reads =
    let north : NorthStands service p given m = subst (NorthStands service p given) (sym reads.1) st in
    let socket : QueueStands p (r.unread t) (r.has_end t) = subst (λ x. QueueStands p (r.unread x) (r.has_end x)) (sym reads.2) so in
    record {
      makes = sym (same_next service r p given n s st so) ∙ reads.0;
      stands = subst (λ l. NorthStands service (record p { lengths = l }) given m) (sym (append-nil p.lengths)) north;
      queue = subst (λ l. QueueStands (record p { lengths = l }) (r.unread t) (r.has_end t)) (sym (append-nil p.lengths)) socket;
    }
reads_lead service r w p given n s (k ∷ ks) m t off st so reads =
    let allowed : next_read service p ≡ Some k = sym (same_next service r p given n s st so) ∙ reads.0 in
    let next : IsNext p k = next_is service p k st.fetched st.enough allowed in
    let more = reads_lead service r w (with_read k p) given (read_on service.after (r.unread s) k n) (socket_on r k n s) ks m t off
    (read_more service p given n (r.unread s) (r.has_end s) k st so next) (socket_more service r w p given n s k off st so next) reads.1 in
    record {
      makes = (allowed, more.makes);
      stands = subst (λ l. NorthStands service (record p { lengths = l }) given m) (append_assoc p.lengths (k ∷ []) ks) more.stands;
      queue = subst (λ l. QueueStands (record p { lengths = l }) (r.unread t) (r.has_end t)) (append_assoc p.lengths (k ∷ []) ks) more.queue;
    }
