-- Where TCP's ACK waits for the log, no ACK is pending for a reason that TCP doesn't know.
use Rattle.std.proofs.Common.{◌≡◌, ℕ, ◌+◌, Bool, true, false, not, List, length, refl, sym, ap, ◌∙◌}
use Rattle.std.specs.Prelude.{◌==◌, ◌&&◌, ◌||◌, nat_lt, is_none}
use Rattle.std.proofs.lemmas.Bool.{false≢true, and_parts}
use Rattle.ft_io.specs.declared.Addr.{Addr}
use Rattle.ft_io.proofs.Booleans.{left_true}
use Rattle.ft_io.proofs.Numbers.{not_less_itself}
use Rattle.seq_arith.specs.Offset.{one_if}
use Rattle.seq_arith.specs.Packet.{has_rst}
use Rattle.server_trait.specs.Service.{Machine}
use Rattle.ft_model.specs.Answered.{answered_after}
use Rattle.ft_model.specs.Connection.{LiveTurn}
use Rattle.ft_model.specs.Network.{Packet}
use Rattle.ft_model.specs.News.{News}
use Rattle.ft_model.specs.News.News.{Comes, Logged, Ticks, Begins}
use Rattle.ft_model.specs.PendingAck.{is_delayed, is_segment}
use Rattle.ft_model.specs.Point.{Point, taken_units, acknowledgement, window, released, HoldsBehind}
use Rattle.connection_laws.specs.Traffic.{needs_ack_besides}
use Rattle.connection_laws.proofs.Outliving.{taken_stays, fin_stays}

-- what is said of a segment whose ACK waits: something of it is taken
waits_by : (d s n t f a w : Bool) → (d && s && n && t && f && a && w) ≡ true → (s ≡ true) × (n ≡ true)
waits_by d s n t f a w h =
    let five = left_true (d && s && n && t && f) a (left_true (d && s && n && t && f && a) w h) in
    let three = and_parts (d && s) n (left_true (d && s && n) t (left_true (d && s && n && t) f five)) in
    ((and_parts d s three.0).1, three.1)

pub waits : (news : News) (p q : Point) → is_delayed news p q ≡ true → (is_segment news ≡ true) × (nat_lt (taken_units p) (taken_units q) ≡ true)
unfolding is_delayed
waits news p q h =
    waits_by p.delays (is_segment news) (nat_lt (taken_units p) (taken_units q)) (length q.early.text == 0) (is_none q.early.fin) (acknowledgement p == acknowledgement q)
    (window p == window q) h

-- where nothing is taken, no ACK waits
stays_by : (n m : ℕ) → m ≡ n → nat_lt n m ≡ true → false ≡ true
stays_by n m same more = sym (not_less_itself n) ∙ ap (nat_lt n) (sym same) ∙ more

pub waits_none : (d : Bool) (news : News) (p q : Point) → taken_units q ≡ taken_units p → is_delayed news p q ≡ d → d ≡ false
waits_none true news p q same is = absurd (false≢true (stays_by (taken_units p) (taken_units q) same (waits news p q is).1))
waits_none false news p q same is = refl

-- nor where no segment comes
pub waits_segment : (d : Bool) (news : News) (p q : Point) → is_segment news ≡ false → is_delayed news p q ≡ d → d ≡ false
waits_segment true news p q other is = absurd (false≢true (sym other ∙ (waits news p q is).0))
waits_segment false news p q other is = refl

-- after the FIN nothing is taken
open_by : (fin past : Bool) → (fin ≡ true → false ≡ true) → (fin && past) ≡ false
open_by true past none = absurd (false≢true (none refl))
open_by false past none = refl

pub adds_none : {State : Type 0} (service : Machine State) (server : Addr) (boot : ℕ) (news : News) (p q : Point) (sent : List Packet) → HoldsBehind p
    → LiveTurn service server boot news p q sent → is_delayed news p q ≡ true → needs_ack_besides service news p q ≡ false
unfolding answered_after
adds_none service server boot (Comes segment) p q sent behind l h =
    let over : (p.fin && nat_lt (released service p) p.una) ≡ false =
    open_by p.fin (nat_lt (released service p) p.una)
    (λ fin. stays_by (taken_units p) (taken_units q)
    (λ j. length ((l.taken ∙ taken_stays (Comes segment) p behind fin) j) + one_if ((l.fin ∙ fin_stays (Comes segment) p behind fin ∙ sym fin) j))
    (waits (Comes segment) p q h).1) in
    λ j. (over j && not (has_rst segment)) || ((λ i. nat_lt p.answered (l.answered i)) ∙ not_less_itself p.answered) j
adds_none service server boot (Logged kept) p q sent behind l h = absurd (false≢true (waits (Logged kept) p q h).0)
adds_none service server boot Ticks p q sent behind l h = absurd (false≢true (waits Ticks p q h).0)
adds_none service server boot Begins p q sent behind l h = absurd (false≢true (waits Begins p q h).0)
