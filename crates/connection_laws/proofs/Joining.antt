-- The north wrapper and TCP at the point of a turn, before its reads.
use Rattle.std.proofs.Common.{◌≡◌, ℕ, ◌+◌, Bool, true, false, List, drop, sum, max, refl, sym, ap, subst, ◌∙◌}
use Rattle.std.specs.Prelude.{◌||◌}
use Rattle.server_trait.specs.Service.{Machine}
use Rattle.ft_model.specs.Answered.{reads_answered_after}
use Rattle.ft_model.specs.Connection.{ResetTurn}
use Rattle.ft_model.specs.Network.{Packet}
use Rattle.ft_model.specs.Growth.{IsPrefix}
use Rattle.ft_model.specs.News.{News}
use Rattle.ft_model.specs.News.News.{Comes, Logged, Ticks, Begins}
use Rattle.ft_model.specs.Point.{Point}
use Rattle.ft_model.specs.Taken.{taken_after}
use Rattle.tcp_endpoint.specs.Tcb.{Tcb}
use Rattle.tcp_endpoint.specs.UserCalls.{is_ended}
use Rattle.north_wrap.specs.NorthState.{NorthState, answered_on}
use Rattle.north_wrap.specs.Sockets.{SocketLaws}
use Rattle.north_wrap.specs.Refinement.{NorthStands, SocketStands, with_taken, with_answered}
use Rattle.north_wrap.proofs.PointAfter.{answers_stand, taking_stands}
use Rattle.connection_laws.specs.OutputFeed.{tcp_reader, tcp_writer}
use Rattle.connection_laws.specs.Parts.{north_after_news}
use Rattle.ft_model.proofs.Running.{taken_grows}

-- TCP is a socket by its laws
pub socket_laws : SocketLaws tcp_reader tcp_writer
socket_laws = record {
  read_front = λ s n. refl;
  read_end = λ s n. refl;
  read_open = λ s n. refl;
  write_unread = λ s bytes. refl;
  write_end = λ s bytes. refl;
  write_open = λ s bytes. refl;
  close_unread = λ s. refl;
  close_end = λ s. refl;
  close_closed = λ s. refl;
}

-- the point as far as the north wrapper knows it
abbrev with_parts : (taken lengths : List ℕ) → (answered fetched : ℕ) → Point → Point
with_parts taken lengths answered fetched p = record p { taken = taken; lengths = lengths; reads_answered = answered; fetched = fetched }

parts_stand : {S : Type 0} (service : Machine S) (p b : Point) (given : ℕ) (n : NorthState S) → NorthStands service p given n
    → NorthStands service (with_parts p.taken p.lengths p.reads_answered p.fetched b) given n
parts_stand service p b given n st = record {
  run = st.run;
  rest = st.rest;
  keeps = st.keeps;
  reported = st.reported;
  numbered = st.numbered;
  unanswered = st.unanswered;
  read = st.read;
  count = st.count;
  ended = st.ended;
  enough = st.enough;
  fetched = st.fetched;
  shut_logged = st.shut_logged;
  shut_given = st.shut_given;
}

north_alike : {S : Type 0} (service : Machine S) (p b : Point) (given : ℕ) (n : NorthState S) → p.taken ≡ b.taken → p.lengths ≡ b.lengths → p.reads_answered ≡ b.reads_answered
    → p.fetched ≡ b.fetched → NorthStands service p given n → NorthStands service b given n
north_alike service p b given n t l a f st =
    let same : with_parts p.taken p.lengths p.reads_answered p.fetched b ≡ b = λ j. record b { taken = t j; lengths = l j; reads_answered = a j; fetched = f j } in
    subst (λ r. NorthStands service r given n) same (parts_stand service p b given n st)

-- it stands at the point that the news lead to
takes : {S : Type 0} (service : Machine S) (p b : Point) (given : ℕ) (n : NorthState S) (taken : List ℕ) → IsPrefix p.taken taken → taken ≡ b.taken → p.lengths ≡ b.lengths
    → p.reads_answered ≡ b.reads_answered → p.fetched ≡ b.fetched → NorthStands service p given n → NorthStands service b given n
takes service p b given n taken front t l a f st = north_alike service (with_taken front.0 p) b given n (front.1 ∙ t) l a f (taking_stands service p given n front.0 st)

pub on_receipt : {S : Type 0} (service : Machine S) (news : News) (p b : Point) (given : ℕ) (n : NorthState S) → b.taken ≡ taken_after news p → b.lengths ≡ p.lengths
    → b.reads_answered ≡ reads_answered_after news p → b.fetched ≡ p.fetched → NorthStands service p given n → NorthStands service b given (north_after_news news n)
unfolding taken_after reads_answered_after
on_receipt service (Comes segment) p b given n t l a f st = takes service p b given n (taken_after (Comes segment) p) (taken_grows (Comes segment) p) (sym t) (sym l) (sym a) (sym f) st
on_receipt service (Logged kept) p b given n t l a f st =
    north_alike service (with_answered kept.reads p) b given (answered_on kept.reads n) (sym t) (sym l) (sym a) (sym f) (answers_stand service p given n kept.reads st)
on_receipt service Ticks p b given n t l a f st = north_alike service p b given n (sym t) (sym l) (sym a) (sym f) st
on_receipt service Begins p b given n t l a f st = north_alike service p b given n (sym t) (sym l) (sym a) (sym f) st

pub received_shut : {S : Type 0} (news : News) (n : NorthState S) → (north_after_news news n).shut ≡ n.shut
unfolding answered_on
received_shut (Comes segment) n = refl
received_shut (Logged kept) n = refl
received_shut Ticks n = refl
received_shut Begins n = refl

or_none : (c r x : Bool) → r ≡ false → c ≡ x → (c || r) ≡ x
or_none true r x off is = is
or_none false r x off is = off ∙ is

-- TCP beside it
pub socket_stands : {S : Type 0} (b : Point) (n : NorthState S) (m : Tcb) → max b.fetched (sum b.lengths) ≡ m.receiving.read + b.fetched
    → drop (m.receiving.read + b.fetched) b.taken ≡ m.receiving.unread → b.fin ≡ m.receiving.fin → m.reset ≡ false → m.sending.closed ≡ n.shut
    → SocketStands b n m.receiving.unread m.receiving.fin (is_ended m)
socket_stands b n m read unread fin kept shut = record {
  queue = record { waits = sym unread ∙ ap (λ k. drop k b.taken) (sym read); fin = sym fin };
  shut = or_none m.sending.closed m.reset n.shut kept shut;
}

-- and where the client has reset the connection
pub reset_receives : {S : Type 0} (service : Machine S) (boot : ℕ) (news : News) (p q : Point) (given : ℕ) (n : NorthState S) (sent : List Packet) → NorthStands service p given n
    → ResetTurn boot news p q sent → NorthStands service q given (north_after_news news n)
unfolding reads_answered_after
reset_receives service boot (Comes segment) p q given n sent st t = subst (λ r. NorthStands service r given n) (sym t.point) (north_alike service p _ given n refl refl refl refl st)
reset_receives service boot (Logged kept) p q given n sent st t =
    subst (λ r. NorthStands service r given (answered_on kept.reads n)) (sym t.point)
    (north_alike service (with_answered kept.reads p) _ given (answered_on kept.reads n) refl refl refl refl (answers_stand service p given n kept.reads st))
reset_receives service boot Ticks p q given n sent st t = subst (λ r. NorthStands service r given n) (sym t.point) (north_alike service p _ given n refl refl refl refl st)
reset_receives service boot Begins p q given n sent st t = subst (λ r. NorthStands service r given n) (sym t.point) (north_alike service p _ given n refl refl refl refl st)
