-- Every byte of a client that is under way, logged or taken is its script's at that offset, and a FIN stands only at the script's end.
use Rattle.std.proofs.Common.{ap₂, ◌≡◌, ℕ, ◌+◌, ◌-◌, ◌≤◌, ◌^◌, pos, ◌+ℤ◌, Bool, true, false, ◌==◌, ◌&&◌, ◌||◌, nat_lt, nat_le, min, refl, sym, ap, ◌∙◌, subst, true≢false, inl, inr, ◌⊎◌, ⊎_elim, List, [], ◌++◌, length, take, drop, arith, append-nil, length-append, length-take, length-drop, leb-true, ltb-false, eqb-true}
use Rattle.std.specs.List.{AllByRecursion}
use Rattle.std.proofs.lemmas.Bool.{and_parts, or_parts}
use Rattle.ft_io.specs.declared.Addr.{Addr}
use Rattle.ft_io.specs.declared.Key.{Key}
use Rattle.tcp_rules.specs.Arrival.{int_eq, below}
use Rattle.tcp_rules.specs.Coming.{Early, Came, nothing_early, nothing_came, comes, StandsBehind}
use Rattle.seq_arith.specs.Packet.{Segment, has_syn}
use Rattle.seq_arith.specs.Message.{Part, Body}
use Rattle.seq_arith.specs.Message.Body.{DataMsg}
use Rattle.tcp_rules.proofs.Coming.{stays_behind, behind_within, behind_up, nothing_behind}
use Rattle.seq_arith.proofs.Shifts.{offset_of_number}
use Rattle.server_trait.specs.Service.{Machine}
use Rattle.ft_model.specs.Offset.{first_of, text_of, fin_of}
use Rattle.ft_model.specs.Client.{Client, Move, IsMove, may_move, suits_phase, suits_range, segment_of}
use Rattle.ft_model.specs.Client.Move.{Syn, Text, Fin, Acknowledge, Rst, Refuse}
use Rattle.ft_model.specs.Log.{Entry, with_part, with_bytes, with_its_fin}
use Rattle.ft_model.specs.Point.{Point, receive_edge, HoldsBehind}
use Rattle.ft_model.specs.News.{News}
use Rattle.ft_model.specs.News.News.{Comes, Logged, Ticks, Begins}
use Rattle.ft_model.specs.Taken.{counts, end_of, came, taken_after, early_after, fin_after}
use Rattle.ft_model.specs.Copy.{from_start, copy_start, copied_text, una_part, copied_part, copies}
use Rattle.ft_model.specs.Growth.{IsPrefix}
use Rattle.ft_model.specs.Network.{Packet}
use Rattle.ft_model.specs.Connection.{LiveTurn}
use Rattle.ft_model.proofs.Lists.{take_first, prefix_trans}
use Rattle.ft_model.proofs.Stands.{nothing_first, drop_prefix, part_stands, proceeds_all, take_nothing}
use Rattle.ft_model.proofs.Copied.{Grows, IsFurther, IsOf, HasForm, all_copies}
use Rattle.ft_model.proofs.StreamAgreement.{Fronts, Says, int_same, comes_fits}
use Rattle.ft_model.proofs.Running.{edge_grows}
use Rattle.ft_io.proofs.Choices.{holds_if}

-- a segment carries a part of its client's script, or nothing
abbrev pub Carries : List ℕ → ℕ → Segment → Type 0
Carries script isn segment =
    (offset : ℕ) × (first_of isn segment ≡ pos offset) × IsPrefix (text_of segment) (drop offset script)
    × (fin_of segment ≡ true → offset + length (text_of segment) ≡ length script)

abbrev pub IsBare : Segment → Type 0
IsBare segment = (text_of segment ≡ []) × (fin_of segment ≡ false)

pub record FitsScript (script : List ℕ) (isn : ℕ) (segment : Segment) : Type 0 where
  pub syn : has_syn segment ≡ true → segment.head.seq ≡ isn
  pub text : Carries script isn segment ⊎ IsBare segment

-- what is taken of a client is a front of its script, and what is held is the script's and comes after that
pub record HasTaken (script : List ℕ) (isn : ℕ) (p : Point) : Type 0 where
  pub fronts : Fronts script (Unit {0}) p.taken p.fin p.early
  pub behind : HoldsBehind p
  pub cisn : p.cisn ≡ isn

-- where nothing is held
pub nothing_held : (script : List ℕ) (isn : ℕ) (p : Point) → IsPrefix p.taken script → (p.fin ≡ true → length p.taken ≡ length script) → p.early ≡ nothing_early
    → length p.taken ≤ receive_edge p → p.cisn ≡ isn → HasTaken script isn p
nothing_held script isn p front fin none low cisn = record {
  fronts = subst (λ early. Fronts script (Unit {0}) p.taken p.fin early) (sym none)
      (record { front = front; fin_taken = λ e. (tt, fin e); held = tt; held_fin = tt });
  behind = subst (StandsBehind (length p.taken) (receive_edge p) p.fin) (sym none) (nothing_behind (length p.taken) (receive_edge p) p.fin low);
  cisn = cisn;
}

pub record PartFits (script : List ℕ) (part : Part) : Type 0 where
  pub stands : IsPrefix part.bytes (drop part.offset script)
  pub fin : part.fin ≡ true → part.offset + length part.bytes ≡ length script

pub record EntryFits (script : List ℕ) (isn : ℕ) (e : Entry) : Type 0 where
  pub front : IsPrefix e.bytes script
  pub fin : e.fin ≡ true → length e.bytes ≡ length script
  pub cisn : e.cisn ≡ isn

abbrev pub NewsFits : List ℕ → ℕ → News → Type 0
NewsFits script isn (Comes segment) = FitsScript script isn segment
NewsFits script isn _ = Unit {0}

-- what a segment says of its client's script
says_script : (script : List ℕ) (isn n : ℕ) (segment : Segment) → n ≡ isn → FitsScript script isn segment
    → Says script (Unit {0}) (first_of n segment) (text_of segment) (fin_of segment)
says_script script isn n segment same f =
    ⊎_elim (λ s. inl (s.0, ap (λ k. first_of k segment) same ∙ s.1, s.2, λ e. (tt, s.3 e))) (λ s. inr s) f.text

-- the law Taken, in one sentence: each byte taken or held is the script's byte at its offset, and a FIN is taken or held only at the script's end
came_fits : (script : List ℕ) (isn : ℕ) (segment : Segment) (p : Point) → FitsScript script isn segment → HasTaken script isn p
    → Fronts script (Unit {0}) (p.taken ++ (came p segment).added) (came p segment).fin (came p segment).early
unfolding came
came_fits script isn segment p f h =
    holds_if (λ c. Fronts script (Unit {0}) (p.taken ++ c.added) c.fin c.early) (counts p segment)
    (comes (length p.taken) (receive_edge p) p.fin p.early (first_of p.cisn segment) (text_of segment) (fin_of segment)) (nothing_came p.early p.fin)
    (λ t. comes_fits script (Unit {0}) p.taken (receive_edge p) p.fin p.early (first_of p.cisn segment) (text_of segment) (fin_of segment) h.fronts
    (says_script script isn p.cisn segment h.cisn f))
    (λ t. subst (λ l. Fronts script (Unit {0}) l p.fin p.early) (sym (append-nil p.taken)) h.fronts)

-- and it keeps to the receive edge
came_behind : (segment : Segment) (p : Point) → HoldsBehind p
    → StandsBehind (length (p.taken ++ (came p segment).added)) (receive_edge p) (came p segment).fin (came p segment).early
unfolding came
came_behind segment p h =
    holds_if (λ c. StandsBehind (length (p.taken ++ c.added)) (receive_edge p) c.fin c.early) (counts p segment)
    (comes (length p.taken) (receive_edge p) p.fin p.early (first_of p.cisn segment) (text_of segment) (fin_of segment)) (nothing_came p.early p.fin)
    (λ t. let c : Came = comes (length p.taken) (receive_edge p) p.fin p.early (first_of p.cisn segment) (text_of segment) (fin_of segment) in
    subst (λ n. StandsBehind n (receive_edge p) c.fin c.early) (sym (length-append p.taken c.added))
    (stays_behind (length p.taken) (receive_edge p) p.fin p.early (first_of p.cisn segment) (text_of segment) (fin_of segment) (behind_within (length p.taken) (receive_edge p) p.fin p.early h) h))
    (λ t. subst (λ l. StandsBehind (length l) (receive_edge p) p.fin p.early) (sym (append-nil p.taken)) h)

-- where a point stands after news, as far as this goes
record HasNow (script : List ℕ) (edge : ℕ) (taken : List ℕ) (fin : Bool) (early : Early) : Type 0 where
  fronts : Fronts script (Unit {0}) taken fin early
  behind : StandsBehind (length taken) edge fin early

has_after : (script : List ℕ) (isn : ℕ) (news : News) (p : Point) → NewsFits script isn news → HasTaken script isn p
    → HasNow script (receive_edge p) (taken_after news p) (fin_after news p) (early_after news p)
unfolding taken_after fin_after early_after
has_after script isn (Comes segment) p f h = record { fronts = came_fits script isn segment p f h; behind = came_behind segment p h.behind }
has_after script isn (Logged kept) p f h = record { fronts = h.fronts; behind = h.behind }
has_after script isn Ticks p f h = record { fronts = h.fronts; behind = h.behind }
has_after script isn Begins p f h = record { fronts = h.fronts; behind = h.behind }

-- the law Taken: so it is after any news
pub taken_fits : {State : Type 0} (service : Machine State) (server : Addr) (boot : ℕ) (script : List ℕ) (isn : ℕ) (news : News) (p q : Point) (sent : List Packet)
    → NewsFits script isn news → HasTaken script isn p → LiveTurn service server boot news p q sent → HasTaken script isn q
taken_fits service server boot script isn news p q sent f h t =
    let after : HasNow script (receive_edge p) (taken_after news p) (fin_after news p) (early_after news p) = has_after script isn news p f h in
    let now : HasNow script (receive_edge p) q.taken q.fin q.early = rw (t.taken, t.fin, t.early) after in
    record {
      fronts = now.fronts;
      behind = behind_up (length q.taken) (receive_edge p) (receive_edge q) q.fin q.early (edge_grows service server boot news p q sent t) now.behind;
      cisn = t.same.cisn ∙ h.cisn;
    }

-- a body says of a client's stream only what its script has
abbrev pub DataFits : (Key → List ℕ) → Body → Type 0
DataFits script (DataMsg part) = PartFits (script part.key) part
DataFits script _ = ⊥

copied_fits : (script : List ℕ) (isn : ℕ) (segment : Segment) (p : Point) → FitsScript script isn segment → HasTaken script isn p → PartFits script (copied_part p segment)
copied_fits script isn segment p f h =
    ⊎_elim
    (λ c. let o : ℕ = c.0 in
    let text : List ℕ = text_of segment in
    let at : first_of p.cisn segment ≡ pos o = subst (λ n. first_of n segment ≡ pos o) (sym h.cisn) c.1 in
    let first : from_start (first_of p.cisn segment) ≡ o = ap from_start at in
    let start : copy_start p segment ≡ o + (p.answered - o) = omega (arith, first) in
    let text_is : copied_text p segment ≡ take (length p.taken - (o + (p.answered - o))) (drop (p.answered - o) text) =
    ap₂ (λ k z. take (length p.taken - k) (drop (below p.answered z) text)) start at in
    record {
      stands = subst (λ l. IsPrefix l (drop (copy_start p segment) script)) (sym text_is)
          (subst (λ k. IsPrefix (take (length p.taken - (o + (p.answered - o))) (drop (p.answered - o) text)) (drop k script)) (sym start)
          (part_stands (length p.taken - (o + (p.answered - o))) (p.answered - o) o text script c.2));
      fin = λ k.
          let one = and_parts (fin_of segment && p.fin && int_eq (end_of p segment) (pos (length p.taken))) (nat_le p.answered (length p.taken)) k in
          let three = and_parts (fin_of segment && p.fin) (int_eq (end_of p segment) (pos (length p.taken))) one.0 in
          let two = and_parts (fin_of segment) p.fin three.0 in
          let same : o + length text ≡ length p.taken = int_same (o + length text) (length p.taken) (subst (λ z. int_eq (z +ℤ pos (length text)) (pos (length p.taken)) ≡ true) at three.1) in
          let low : p.answered ≤ length p.taken = leb-true _ _ one.1 in
          let all : o + length text ≡ length script = c.3 two.0 in
          let dropped : length (drop (p.answered - o) text) ≡ length text - (p.answered - o) = length-drop (p.answered - o) text in
          let size : length (copied_text p segment) ≡ min (length p.taken - (o + (p.answered - o))) (length (drop (p.answered - o) text)) =
          ap length text_is ∙ length-take (length p.taken - (o + (p.answered - o))) (drop (p.answered - o) text) in
          omega (arith, start, same, low, all, dropped, size);
    })
    (λ c. record {
      stands = subst (λ x. IsPrefix (take (length p.taken - copy_start p segment) (drop (below p.answered (first_of p.cisn segment)) x)) (drop (copy_start p segment) script)) (sym c.0)
          (subst (λ x. IsPrefix x (drop (copy_start p segment) script)) (sym (take_nothing (length p.taken - copy_start p segment) (below p.answered (first_of p.cisn segment))))
          (nothing_first (drop (copy_start p segment) script)));
      fin = λ k. absurd (true≢false (sym (and_parts (fin_of segment) p.fin (and_parts (fin_of segment && p.fin) (int_eq (end_of p segment) (pos (length p.taken))) (and_parts (fin_of segment && p.fin && int_eq (end_of p segment) (pos (length p.taken))) (nat_le p.answered (length p.taken)) k).0).0).0 ∙ c.1));
    }) f.text

further_fits : (script : List ℕ) (isn : ℕ) (before p : Point) (part : Part) → Grows before p → HasTaken script isn p → IsFurther before p part → PartFits script part
further_fits script isn before p part more h i = record {
  stands = prefix_trans part.bytes (drop part.offset p.taken) (drop part.offset script) i.stands (drop_prefix part.offset p.taken script h.fronts.front);
  fin = λ e. let f = i.fin e in f.1 more ∙ (h.fronts.fin_taken f.0).1;
}

part_fits : (script : List ℕ) (isn : ℕ) (news : News) (before p : Point) (part : Part) → Grows before p → NewsFits script isn news → HasTaken script isn p → HasForm news before p part
    → PartFits script part
part_fits script isn (Comes segment) before p part more f h form =
    ⊎_elim (λ i. of_part (copied_part p segment) i (copied_fits script isn segment p f h))
    (λ rest. ⊎_elim
    (λ i. of_part (una_part p) i (record { stands = nothing_first (drop (una_part p).offset script); fin = λ k. absurd (true≢false (sym k)) }))
    (λ i. further_fits script isn before p part more h i) rest) form
  where
    of_part : (whole : Part) → IsOf whole part → PartFits script whole → PartFits script part
    of_part whole i fits =
        ⊎_elim (λ e. subst (PartFits script) (sym e) fits) (λ e. subst (PartFits script) (sym e) (record { stands = fits.stands; fin = λ k. absurd (true≢false (sym k)) })) i
part_fits script isn (Logged kept) before p part more f h form = absurd form
part_fits script isn Ticks before p part more f h form = absurd form
part_fits script isn Begins before p part more f h form = absurd form

-- the law Copy: a Data carries the script's bytes at its offset, and a FIN only at the script's end
pub copies_fit : (script : Key → List ℕ) (isn : ℕ) (news : News) (before p : Point) → Grows before p → NewsFits (script p.key) isn news → HasTaken (script p.key) isn p
    → AllByRecursion (DataFits script) (copies news before p)
copies_fit script isn news before p more f h =
    all_copies (DataFits script) news before p
    (λ part c. subst (λ k. PartFits (script k) part) (sym c.key) (part_fits (script p.key) isn news before p part more f h c.form))

by_move : (c : Client) (move : Move) (window : ℕ) → length c.script ≤ 2 ^ 24 → may_move c move ≡ true → FitsScript c.script c.isn (segment_of c move window)
by_move c (Syn mss) window short may = record { syn = λ e. refl; text = inr (refl, refl) }
by_move c (Text from len) window short may =
    let range = (and_parts (suits_phase c (Text from len)) (suits_range c (Text from len)) may).1 in
    let four = (and_parts (nat_le c.acknowledged from && nat_le from c.sent && nat_le 1 len && nat_le len 1460) (nat_le (from + len) (length c.script)) range).1 in
    let within : from + len ≤ length c.script = leb-true _ _ four in
    record {
      syn = λ e. absurd (true≢false (sym e));
      text = inl (from, offset_of_number c.isn from (omega (arith, within, short)), take_first len (drop from c.script), λ e. absurd (true≢false (sym e)));
    }
by_move c Fin window short may = record {
  syn = λ e. absurd (true≢false (sym e));
  text = inl (length c.script, offset_of_number c.isn (length c.script) (omega (arith, short)), nothing_first (drop (length c.script) c.script), λ e. omega arith);
}
by_move c Acknowledge window short may = record { syn = λ e. absurd (true≢false (sym e)); text = inr (refl, refl) }
by_move c Rst window short may = record { syn = λ e. absurd (true≢false (sym e)); text = inr (refl, refl) }
by_move c (Refuse number) window short may = record { syn = λ e. absurd (true≢false (sym e)); text = inr (refl, refl) }

-- a client's move carries its script
pub move_fits : (c later : Client) (segment : Segment) → length c.script ≤ 2 ^ 24 → IsMove c segment later → FitsScript c.script c.isn segment
move_fits c later segment short m =
    let fits : FitsScript c.script c.isn (segment_of c m.move m.window) = by_move c m.move m.window short m.may in
    subst (FitsScript c.script c.isn) (sym m.segment_is) (record { syn = fits.syn; text = fits.text })

-- an entry that hears a part
pub entry_fits : (script : List ℕ) (isn : ℕ) (part : Part) (e : Entry) → PartFits script part → EntryFits script isn e → EntryFits script isn (with_part part e)
entry_fits script isn part e p f =
    let bytes : EntryFits script isn (with_bytes part e) =
    holds_if (EntryFits script isn) (e.fin || nat_lt (length e.bytes) part.offset) e _ (λ t. f)
    (λ t. let parts = or_parts e.fin (nat_lt (length e.bytes) part.offset) t in
    record {
      front = proceeds_all part.offset e.bytes part.bytes script f.front p.stands (ltb-false _ _ parts.1);
      fin = λ k. absurd (true≢false (sym k ∙ parts.0));
      cisn = f.cisn;
    }) in
    let x : Entry = with_bytes part e in
    let fin : EntryFits script isn (with_its_fin part x) =
    holds_if (EntryFits script isn) (part.fin && part.offset + length part.bytes == length x.bytes) _ x
    (λ t. let parts = and_parts part.fin (part.offset + length part.bytes == length x.bytes) t in
    record { front = bytes.front; fin = λ k. sym (eqb-true _ _ parts.1) ∙ p.fin parts.0; cisn = bytes.cisn }) (λ t. bytes) in
    record { front = fin.front; fin = fin.fin; cisn = fin.cisn }
