-- What is known of a connection that goes to its end, in terms of two facts of its client: it has acknowledged so many units (`B`), and it is done with the
-- connection (`F`). So it is after each turn, and the server says Done only to the second.
use Rattle.std.proofs.Common.{◌≡◌, ◌⊎◌, ℕ, ◌+◌, ◌≤◌, pos, int_le, nat_abs, Bool, true, false, MatchBool, ◌==◌, ◌&&◌, ◌||◌, not, nat_lt, min, refl, sym, ap, ◌∙◌, subst, true≢false, inl, inr, ⊎_elim, eqb-true, Some, List, [], ◌∷◌, ◌++◌, map, drop, arith}
use Rattle.std.specs.List.{AllByRecursion}
use Rattle.std.proofs.lemmas.Bool.{and_parts}
use Rattle.ft_io.specs.declared.Addr.{Addr}
use Rattle.ft_io.specs.declared.Key.{Key}
use Rattle.ft_io.proofs.Choices.{by_cases, holds_if, if_false}
use Rattle.tcp_rules.specs.Arrival.{int_eq, una_after}
use Rattle.seq_arith.specs.Packet.{Segment, has_syn, has_rst, has_ack}
use Rattle.seq_arith.specs.Message.{Body}
use Rattle.seq_arith.specs.Message.Body.{DataMsg, DoneMsg}
use Rattle.server_trait.specs.Service.{Machine}
use Rattle.ft_model.specs.Connection.{ResetTurn, LiveTurn, ConnectionTurn, reported_by}
use Rattle.ft_model.specs.Copy.{copies}
use Rattle.ft_model.specs.Log.{Log, Entry, entry_of}
use Rattle.ft_model.specs.Network.{Packet, source_of}
use Rattle.ft_model.specs.Network.Packet.{To_server, To_client, To_logger}
use Rattle.ft_model.specs.News.{News}
use Rattle.ft_model.specs.News.News.{Comes, Logged, Ticks, Begins}
use Rattle.ft_model.specs.Node.{Place, Stage}
use Rattle.ft_model.specs.Node.Place.{Lives}
use Rattle.ft_model.specs.Node.Stage.{Serving}
use Rattle.ft_model.specs.Offset.{first_of, ack_of}
use Rattle.ft_model.specs.Point.{Point, taken_units, is_over, acknowledgement}
use Rattle.ft_model.specs.Reads.{reads_reported, read_messages, first_reported}
use Rattle.ft_model.specs.ResetAndEnd.{reset_after, is_end_tick, end_ticks_after, reports_done, dones}
use Rattle.ft_model.specs.Segments.{segments_of}
use Rattle.ft_model.specs.Sending.{acknowledges, acknowledged_by, acknowledged_after}
use Rattle.ft_model.specs.Taken.{acknowledges_unsent, uses, counts}
use Rattle.ft_model.specs.Timer.{is_tick}
use Rattle.ft_model.proofs.Copied.{all_copies}
use Rattle.ft_model.proofs.Lists.{all_of, all_map, all_append, or_cases}
use Rattle.ft_model.proofs.ReportedLast.{was_not_reset}
use Rattle.long_laws.proofs.Sends.{Sends, CountsOwn, live_sends, reset_sends}

-- a segment acknowledges what its client has accepted, as the entry counts; and a client that sends a RST is done
abbrev pub SegmentOver : (Key → ℕ → Type 0) → (Key → Type 0) → Log → Key → Segment → Type 0
SegmentOver B F log key segment =
    (has_ack segment ≡ true → (e : Entry) × (entry_of key log ≡ Some e) × (int_le (pos 0) (ack_of e.sisn segment) ≡ true → B key (nat_abs (ack_of e.sisn segment))))
    × (has_rst segment ≡ true → F key)

abbrev pub BodyOver : (Key → ℕ → Type 0) → (Key → Type 0) → Body → Type 0
BodyOver B F (DataMsg part) = B part.key part.acked
BodyOver B F (DoneMsg key) = F key
BodyOver B F _ = Unit {0}

abbrev pub PacketOver : (Key → ℕ → Type 0) → (Key → Type 0) → Log → Packet → Type 0
PacketOver B F log (To_server segment) = SegmentOver B F log (source_of segment) segment
PacketOver B F log (To_logger message) = BodyOver B F message.body
PacketOver B F log _ = Unit {0}

pub record EntryOver (B : Key → ℕ → Type 0) (F : Key → Type 0) (e : Entry) : Type 0 where
  pub acknowledged : B e.key e.acknowledged
  pub done : e.done ≡ true → F e.key

pub record PointOver {State : Type 0} (service : Machine State) (B : Key → ℕ → Type 0) (F : Key → Type 0) (p : Point) : Type 0 where
  pub sends : Sends service p
  pub una : B p.key p.una
  pub reset : p.reset ≡ true → F p.key
  pub ends : (p.end_ticks ≡ 0) ⊎ (F p.key ⊎ (is_over service p ≡ true))

abbrev pub PlaceOver : {State : Type 0} → Machine State → (Key → ℕ → Type 0) → (Key → Type 0) → Place → Type 0
PlaceOver service B F (Lives p) = PointOver service B F p
PlaceOver service B F _ = Unit {0}

abbrev pub StageOver : {State : Type 0} → Machine State → (Key → ℕ → Type 0) → (Key → Type 0) → Stage → Type 0
StageOver service B F (Serving opened places) = AllByRecursion (PlaceOver service B F) places
StageOver service B F _ = Unit {0}

-- the news are so
abbrev pub NewsOver : (Key → ℕ → Type 0) → (Key → Type 0) → Point → News → Type 0
NewsOver B F p (Comes segment) =
    (has_ack segment ≡ true → int_le (pos 0) (ack_of p.sisn segment) ≡ true → B p.key (nat_abs (ack_of p.sisn segment))) × (has_rst segment ≡ true → F p.key)
NewsOver B F p _ = Unit {0}

-- what is acknowledged of less is acknowledged
abbrev pub IsDownward : (Key → ℕ → Type 0) → Type 0
IsDownward B = (key : Key) (n m : ℕ) → n ≤ m → B key m → B key n

turn_cases : {State X : Type 0} (service : Machine State) (server : Addr) (boot : ℕ) (news : News) (p q : Point) (sent : List Packet) (b : Bool) → reset_after news p ≡ b
    → MatchBool b (ResetTurn boot news p q sent) (LiveTurn service server boot news p q sent)
    → (reset_after news p ≡ true → ResetTurn boot news p q sent → X) → (reset_after news p ≡ false → LiveTurn service server boot news p q sent → X) → X
turn_cases service server boot news p q sent true e t f g = f e t
turn_cases service server boot news p q sent false e t f g = g e t

module _ {State : Type 0} (service : Machine State) (B : Key → ℕ → Type 0) (F : Key → Type 0) (down : IsDownward B) where
  -- it was reset before, or by a RST that comes
  is_reset : (news : News) (p : Point) → NewsOver B F p news → (p.reset ≡ true → F p.key) → reset_after news p ≡ true → F p.key
  unfolding reset_after
  is_reset (Comes segment) p n r e =
      ⊎_elim r (λ t. n.1 (and_parts (has_rst segment) (int_eq (first_of p.cisn segment) (pos (taken_units p))) t).0)
      (or_cases p.reset (has_rst segment && int_eq (first_of p.cisn segment) (pos (taken_units p))) e)
  is_reset (Logged kept) p n r e = r e
  is_reset Ticks p n r e = r e
  is_reset Begins p n r e = r e

  -- SND.UNA never passes what was acknowledged
  una_over : (news : News) (p : Point) → NewsOver B F p news → B p.key p.una → B p.key (acknowledged_after news p)
  unfolding acknowledged_after counts
  una_over (Comes segment) p n h =
      holds_if (B p.key) (acknowledges p segment) (una_after p.una (acknowledged_by p segment)) p.una
      (λ t. let two = and_parts (counts p segment) (int_le (pos 0) (ack_of p.sisn segment)) t in
      let sent = and_parts (has_ack segment && not (has_syn segment) && not (has_rst segment) && uses p segment && (p.syn_acked || int_le (pos 0) (ack_of p.sisn segment)))
      (not (acknowledges_unsent p segment)) two.0 in
      let all = and_parts (has_ack segment && not (has_syn segment) && not (has_rst segment) && uses p segment) (p.syn_acked || int_le (pos 0) (ack_of p.sisn segment)) sent.0 in
      let flags = and_parts (has_ack segment && not (has_syn segment) && not (has_rst segment)) (uses p segment) all.0 in
      let ack = and_parts (has_ack segment && not (has_syn segment)) (not (has_rst segment)) flags.0 in
      let most : B p.key (nat_abs (ack_of p.sisn segment)) = n.0 (and_parts (has_ack segment) (not (has_syn segment)) ack.0).0 two.1 in
      holds_if (B p.key) (nat_lt p.una (acknowledged_by p segment)) (acknowledged_by p segment) p.una
      (λ s. down p.key (acknowledged_by p segment) (nat_abs (ack_of p.sisn segment)) (omega arith) most) (λ s. h)) (λ t. h)
  una_over (Logged kept) p n h = h
  una_over Ticks p n h = h
  una_over Begins p n h = h

  copies_over : (news : News) (p q : Point) → B q.key q.una → AllByRecursion (BodyOver B F) (copies news p q)
  copies_over news p q h = all_copies (BodyOver B F) news p q (λ part c. subst (λ k. B k part.acked) (sym c.key) (subst (B q.key) (sym c.acked) h))

  messages_over : (key : Key) (index : ℕ) (lengths : List ℕ) → AllByRecursion (BodyOver B F) (read_messages key index lengths)
  messages_over key index [] = tt
  messages_over key index (n ∷ lengths) = (tt, messages_over key (index + 1) lengths)

  reads_over : (news : News) (p q : Point) → AllByRecursion (BodyOver B F) (reads_reported news p q)
  unfolding reads_reported
  reads_over news p q = messages_over q.key (first_reported news p q) (drop (first_reported news p q) q.lengths)

  -- Done is said where the client is done
  dones_over : (news : News) (p q : Point) → (reports_done news p q ≡ true → F q.key) → AllByRecursion (BodyOver B F) (dones news p q)
  unfolding dones
  dones_over news p q f = holds_if (AllByRecursion (BodyOver B F)) (reports_done news p q) (DoneMsg q.key ∷ []) [] (λ t. (f t, tt)) (λ t. tt)

  pub segments_over : (log : Log) (segments : List Segment) → AllByRecursion (PacketOver B F log) (map To_client segments)
  segments_over log segments = all_map (PacketOver B F log) To_client segments (all_of _ segments (λ s. tt))

  -- an end tick is counted where the connection is over
  ticks_over : (news : News) (p q : Point) → q.key ≡ p.key → (p.end_ticks ≡ 0) ⊎ F p.key → q.end_ticks ≡ end_ticks_after service news p q
      → (q.end_ticks ≡ 0) ⊎ (F q.key ⊎ (is_over service q ≡ true))
  unfolding end_ticks_after
  ticks_over news p q key ends e =
      by_cases (is_end_tick service news q)
      (λ t. inr (inr (and_parts (is_tick news) (is_over service q) (and_parts (is_tick news && is_over service q) (acknowledgement q == taken_units q) t).0).1))
      (λ t. let same : q.end_ticks ≡ p.end_ticks = e ∙ if_false (is_end_tick service news q) (min 4 (p.end_ticks + 1)) p.end_ticks t in
      ⊎_elim (λ z. inl (same ∙ z)) (λ f. inr (inl (subst F (sym key) f))) ends)

  -- the fourth one isn't the first
  fourth : (news : News) (p q : Point) → q.key ≡ p.key → q.reset ≡ false → (p.end_ticks ≡ 0) ⊎ F p.key → q.end_ticks ≡ end_ticks_after service news p q → reports_done news p q ≡ true → F q.key
  unfolding end_ticks_after
  fourth news p q key live ends e t =
      ⊎_elim (λ x. absurd (true≢false (sym (and_parts q.reset (not p.reset) x).0 ∙ live)))
      (λ x. ⊎_elim (λ r. absurd (true≢false (sym r ∙ live)))
      (λ r. let four : q.end_ticks ≡ 4 = eqb-true _ _ r in
      ⊎_elim (λ z. absurd (few z four)) (λ f. subst F (sym key) f) ends)
      (or_cases q.reset (q.end_ticks == 4) (and_parts (is_tick news) (q.reset || q.end_ticks == 4) x).1))
      (or_cases (q.reset && not p.reset) (is_tick news && (q.reset || q.end_ticks == 4)) t)
    where
      few : p.end_ticks ≡ 0 → q.end_ticks ≡ 4 → ⊥
      few z four =
          holds_if (λ n. q.end_ticks ≡ n → ⊥) (is_end_tick service news q) (min 4 (p.end_ticks + 1)) p.end_ticks (λ s x. omega (arith, z, four, x)) (λ s x. omega (arith, z, four, x)) e

  -- one turn of a connection
  pub connection_over : (server : Addr) (log : Log) (boot : ℕ) (news : News) (p q : Point) (sent : List Packet) → CountsOwn p → NewsOver B F p news → PointOver service B F p
      → (p.end_ticks ≡ 0) ⊎ F p.key → ConnectionTurn service server boot news p q sent → PointOver service B F q × AllByRecursion (PacketOver B F log) sent
  connection_over server log boot news p q sent c n o ends turn =
      let P : Packet → Type 0 = PacketOver B F log in
      let Q : Body → Type 0 = BodyOver B F in
      turn_cases service server boot news p q sent (reset_after news p) refl turn
      (λ r t. let key : q.key ≡ p.key = ap (λ x. x.key) t.point in
      let f : F q.key = subst F (sym key) (is_reset news p n o.reset r) in (
        record {
          sends = reset_sends service boot news p q sent c o.sends t;
          una = subst (λ k. B k q.una) (sym key) (subst (B p.key) (sym (ap (λ x. x.una) t.point)) o.una);
          reset = λ x. f;
          ends = inr (inl f);
        },
        subst (AllByRecursion P) (sym t.packets) (all_map P (reported_by boot) (dones news p q) (dones_over news p q (λ x. f))),
      ))
      (λ r t. let una : B q.key q.una = subst (λ k. B k q.una) (sym t.same.key) (subst (B p.key) (sym t.una) (una_over news p n o.una)) in (
        record {
          sends = live_sends service server boot news p q sent c (was_not_reset news p r) o.sends t;
          una = una;
          reset = λ x. absurd (true≢false (sym x ∙ t.reset));
          ends = ticks_over news p q t.same.key ends t.end_ticks;
        },
        subst (AllByRecursion P) (sym t.packets)
            (all_append P (map To_client (segments_of service server news p q)) _ (segments_over log (segments_of service server news p q))
            (all_map P (reported_by boot) (copies news p q ++ (reads_reported news p q ++ dones news p q))
            (all_append Q (copies news p q) _ (copies_over news p q una)
            (all_append Q (reads_reported news p q) (dones news p q) (reads_over news p q) (dones_over news p q (fourth news p q t.same.key t.reset ends t.end_ticks)))))),
      ))
