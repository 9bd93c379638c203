-- What a connection's parts tell of its point.
use Rattle.std.proofs.Common.{◌≡◌, ℕ, ◌<◌, ◌≤◌, ◌+◌, ◌-◌, ◌%◌, ◌^◌, ⊎_elim, Bool, true, false, [], length, drop, max, refl, sym, ap, arith, ◌∙◌}
use Rattle.std.specs.Prelude.{◌||◌, if◌then◌else◌, nat_lt, pos, negsuc}
use Rattle.std.proofs.lemmas.Bool.{false≢true, and_parts, or_right}
use Rattle.seq_arith.specs.Number.{distance, number_at, offset_of}
use Rattle.seq_arith.proofs.Shifts.{offset_of_number}
use Rattle.ft_model.specs.Copy.{from_start}
use Rattle.server_trait.specs.Service.{Machine}
use Rattle.ft_model.specs.ResetAndEnd.{reset_after}
use Rattle.ft_model.specs.News.{News}
use Rattle.ft_model.specs.Point.{Point, answered_run, released, made, HoldsBehind}
use Rattle.ft_model.specs.Sending.{syn_acked_after, acknowledged_after}
use Rattle.ft_model.proofs.Services.{prefix_length}
use Rattle.tcp_endpoint.specs.declared.states.StateName.{StateName}
use Rattle.tcp_endpoint.specs.declared.states.StateName.TheVariants.{Closed, Listen, SynSent, SynReceived, Established, FinWait1, FinWait2, CloseWait, Closing, LastAck, TimeWait}
use Rattle.tcp_endpoint.specs.ReceiveHalf as receiver
use Rattle.tcp_endpoint.specs.States.{has_begun, is_closed, is_listen, is_time_wait}
use Rattle.tcp_endpoint.specs.SendHalf.{fin_acked}
use Rattle.tcp_endpoint.specs.Tcb.{Tcb}
use Rattle.tcp_endpoint.specs.UserCalls.{sent_number, acked_number}
use Rattle.endpoint_laws.specs.ConnectionEnd.{IsNamed, has_taken_fin}
use Rattle.endpoint_laws.specs.Refinement.{ReceivesAt}
use Rattle.endpoint_laws.specs.Turn.{IsUsualNews, arrived}
use Rattle.endpoint_laws.proofs.Arrivals.{Arrived, arrives}
use Rattle.endpoint_laws.proofs.Ends.{fin_by_name}
use Rattle.endpoint_laws.proofs.EndingLaw.{IsPlaced, FollowsAt, unreset_follows, flushed_name}
use Rattle.endpoint_laws.proofs.NoConnection.{closed_stays_law}
use Rattle.north_wrap.specs.NorthState.{NorthState}
use Rattle.north_wrap.proofs.Logged.{answered_front}
use Rattle.connection_laws.specs.Inside.{inside}
use Rattle.connection_laws.specs.Traffic.{news_inside}
use Rattle.connection_laws.specs.Turn.{NewsFit}
use Rattle.connection_laws.specs.ClosedTcp.{StandsClosed, CountsFrom}
use Rattle.connection_laws.specs.Parts.{StandsOpen, PartsStand}
use Rattle.connection_laws.specs.PointNumbers.{raised_by, units_before, reports_fin, acked_at, PartsShow, NewsShow}
use Rattle.connection_laws.proofs.Meets.{Moves, moves_inside_all}
use Rattle.connection_laws.proofs.Again.{stays}
use Rattle.connection_laws.proofs.Numbers.{behind, sent_behind}
use Rattle.connection_laws.proofs.Sent.{still_syn_unacked}
use Rattle.connection_laws.proofs.Whole.{usual_news}
use Rattle.connection_laws.proofs.Outliving.{IsStill, still, taken_stays, fin_stays, una_stays, syn_acked_stays}
use Rattle.connection_laws.proofs.TcpEnd.{unreset}
use Rattle.connection_laws.proofs.Reassembly.{behind_at}
use Rattle.connection_laws.proofs.Over.{over_is}
use Rattle.endpoint_laws.proofs.SegmentsLaw.{begun_open}

off_or : (a c : Bool) → c ≡ false → (a || c) ≡ a
off_or true c h = refl
off_or false c h = h

-- the bytes that wait are those after what is fetched or read
bytes_by : (all fetched read unread north : ℕ) → all ≡ read + unread + fetched → max fetched north ≡ read + fetched → all ≡ max fetched north + unread
bytes_by all fetched read unread north a b = omega (arith, a, b)

-- before the SYN is acknowledged
at_syn : (i delta sisn u : ℕ) → (i + delta) % 2 ^ 32 ≡ (sisn + u) % 2 ^ 32 → u ≡ 0 → delta < 2 ^ 32 → i < 2 ^ 32 → sisn < 2 ^ 32 → i ≡ distance sisn delta
at_syn i delta sisn u shift none a b c = omega (arith, shift, none, a, b, c)

acked_by : (syn_acked inner_acked : Bool) (iss una i delta sisn u units : ℕ) → syn_acked ≡ inner_acked → iss ≡ i → una ≡ units - u → (i + delta) % 2 ^ 32 ≡ (sisn + u) % 2 ^ 32 → u ≤ units → delta < 2 ^ 32
    → i < 2 ^ 32 → sisn < 2 ^ 32 → (syn_acked ≡ false → u ≡ 0) → (if inner_acked then number_at iss una else iss) ≡ distance (acked_at syn_acked sisn units) delta
acked_by true true iss una i delta sisn u units c s a shift above d_fits i_fits fits none = (λ j. number_at (s j) (a j)) ∙ behind i delta sisn u units shift above d_fits
acked_by true false iss una i delta sisn u units c s a shift above d_fits i_fits fits none = absurd (false≢true (sym c))
acked_by false true iss una i delta sisn u units c s a shift above d_fits i_fits fits none = absurd (false≢true c)
acked_by false false iss una i delta sisn u units c s a shift above d_fits i_fits fits none = s ∙ at_syn i delta sisn u shift (none refl) d_fits i_fits fits

closed_listens_not : (name : StateName) → name ≡ Closed → is_listen name ≡ false
closed_listens_not name h = ap is_listen h

all_given : {S : Type 0} (service : Machine S) (u i delta given : ℕ) (p : Point) (n : NorthState S) (e : Tcb) → PartsStand service u i delta given p n e → e.sending.closed ≡ true
    → given ≡ released service p
all_given service u i delta given p n e st c =
    let g : given ≡ made service p = st.north.shut_given (sym st.shut ∙ c) in
    let less : released service p ≤ made service p = prefix_length _ _ (answered_front service p).output in
    omega (arith, g, less, st.feeds.low)

-- numbers outside name the units
outside : (x delta : ℕ) → x < 2 ^ 32 → delta < 2 ^ 32 → raised_by delta (distance x delta) ≡ x
outside x delta a b = omega (arith, a, b)

units_at : (sisn delta number k : ℕ) → number ≡ distance (number_at sisn k) delta → delta < 2 ^ 32 → k < 2 ^ 31 → units_before sisn (raised_by delta number) ≡ k
units_at sisn delta number k is fits small =
    (λ j. units_before sisn (raised_by delta (is j))) ∙ ap (units_before sisn) (outside (number_at sisn k) delta (omega arith) fits) ∙ ap from_start (offset_of_number sisn k small)

syn_units : (sisn : ℕ) → sisn < 2 ^ 32 → units_before sisn sisn ≡ 0
unfolding offset_of
syn_units sisn fits =
    let d : distance sisn ((sisn + 1) % 2 ^ 32) ≡ 2 ^ 32 - 1 = omega (arith, fits) in
    λ j. from_start (if nat_lt (d j) (2 ^ 31) then pos (d j) else negsuc (2 ^ 32 - 1 - d j))

acked_units_at : (syn_acked : Bool) (sisn delta number k : ℕ) → number ≡ distance (acked_at syn_acked sisn k) delta → delta < 2 ^ 32 → k < 2 ^ 31 → sisn < 2 ^ 32 → (syn_acked ≡ false → k ≡ 0)
    → units_before sisn (raised_by delta number) ≡ k
acked_units_at true sisn delta number k is fits small s_fits none = units_at sisn delta number k is fits small
acked_units_at false sisn delta number k is fits small s_fits none =
    (λ j. units_before sisn (raised_by delta (is j))) ∙ ap (units_before sisn) (outside sisn delta s_fits fits) ∙ syn_units sisn s_fits ∙ sym (none refl)

-- what is sent is what was given, and a FIN
sent_few : (f : Bool) (una sent len u given made p_sent : ℕ) → (if f then sent - 1 else una + len) + u ≡ given → sent ≤ una + len + (if f then 1 else 0) → (f ≡ true → 1 ≤ sent) → p_sent - u ≡ sent
    → u ≤ p_sent → given ≤ made → p_sent ≤ made + 1
sent_few true una sent len u given made p_sent until flight some is above low = let one : 1 ≤ sent = some refl in omega (arith, until, one, is, above, low)
sent_few false una sent len u given made p_sent until flight some is above low = omega (arith, until, flight, is, above, low)

few_open : {S : Type 0} (service : Machine S) (u i delta given : ℕ) (p : Point) (n : NorthState S) (e : Tcb) → PartsStand service u i delta given p n e → StandsOpen u i delta p e
    → p.sent ≤ n.run.made + 1
few_open service u i delta given p n e st o =
    let b = o.stands.between in
    sent_few e.sending.fin_sent e.sending.una e.sending.sent (length e.sending.held) u given n.run.made p.sent st.feeds.until b.bounds.flight (λ h. (b.fin_last h).1) o.stands.stands.sent
    (omega (arith, o.stands.proceeds.una, o.stands.proceeds.order)) (omega (arith, st.north.run.made, st.north.run.within))

few_by : (c : Bool) (sent released made : ℕ) → sent ≡ released + (if c then 1 else 0) → released ≤ made → sent ≤ made + 1
few_by true sent released made a b = omega (arith, a, b)
few_by false sent released made a b = omega (arith, a, b)

few_closed : {S : Type 0} (service : Machine S) (u i delta given : ℕ) (p : Point) (n : NorthState S) (e : Tcb) → PartsStand service u i delta given p n e → StandsClosed service u i delta p e
    → p.sent ≤ n.run.made + 1
few_closed service u i delta given p n e st c =
    let less : released service p ≤ made service p = prefix_length _ _ (answered_front service p).output in
    few_by (answered_run service p).closed p.sent (released service p) n.run.made c.all_sent (omega (arith, less, st.north.run.made))

acked_open : (u i delta : ℕ) (p : Point) (e : Tcb) → StandsOpen u i delta p e → acked_number e ≡ distance (acked_at p.syn_acked p.sisn p.una) delta
acked_open u i delta p e o =
    let g = o.stands.proceeds in
    let s = o.stands.stands.sends in
    acked_by p.syn_acked e.sending.syn_acked e.sending.iss e.sending.una i delta p.sisn u p.una s.syn_acked (sym s.sisn) (sym s.una) g.shift g.una g.delta_fits g.i_fits g.sisn (λ h. (g.syn_unacked h).0)

report_open : {S : Type 0} (service : Machine S) (u i delta given : ℕ) (p : Point) (n : NorthState S) (e : Tcb) → PartsStand service u i delta given p n e → StandsOpen u i delta p e
    → PartsShow service delta p n e
report_open service u i delta given p n e st o =
    let r : ReceivesAt (inside u i p) e = o.stands.stands.receives in
    let g = o.stands.proceeds in
    let is_open : is_closed e.name ≡ false = begun_open e.name o.stands.begun in
    record {
      taken = bytes_by (length p.taken) p.fetched e.receiving.read (length e.receiving.unread) n.read r.long (ap (max p.fetched) st.north.read ∙ r.read);
      fin = r.fin ∙ fin_by_name e.name e.sending.syn_acked e.sending.closed e.receiving.fin (fin_acked e.sending) o.stands.begun o.named ∙ sym (off_or (has_taken_fin e.name) (is_closed e.name) is_open);
      over = over_is service u i delta given p e o.stands o.named st.feeds (all_given service u i delta given p n e st) ∙ sym (off_or (is_time_wait e.name) (is_closed e.name) is_open);
      sent = sent_behind u i delta p e o.stands;
      acked = acked_open u i delta p e o;
      sent_outside = ap (raised_by delta) (sent_behind u i delta p e o.stands) ∙ outside (number_at p.sisn p.sent) delta (omega arith) g.delta_fits;
      sent_units = units_at p.sisn delta (sent_number e) p.sent (sent_behind u i delta p e o.stands) g.delta_fits (omega (arith, g.sent));
      acked_units = acked_units_at p.syn_acked p.sisn delta (acked_number e) p.una (acked_open u i delta p e o) g.delta_fits (omega (arith, g.order, g.sent)) g.sisn
          (λ h. let s : p.sent ≡ 0 = (g.syn_unacked h).1 in omega (arith, s, g.order));
      order = g.order;
      few = few_open service u i delta given p n e st o;
    }

small_sent : (u p_sent sent : ℕ) (f : Bool) → u ≤ 2 ^ 24 → p_sent - u ≡ sent → sent ≤ 2 ^ 24 + (if f then 1 else 0) → p_sent < 2 ^ 31
small_sent u p_sent sent true a b c = omega (arith, a, b, c)
small_sent u p_sent sent false a b c = omega (arith, a, b, c)

report_closed : {S : Type 0} (service : Machine S) (u i delta given : ℕ) (p : Point) (n : NorthState S) (e : Tcb) → PartsStand service u i delta given p n e → StandsClosed service u i delta p e
    → PartsShow service delta p n e
report_closed service u i delta given p n e st c =
    let r : ReceivesAt p e = c.receives in
    let k : CountsFrom u i delta p e = c.counts in
    let closed : is_closed e.name ≡ true = ap is_closed c.name in
    let sent : sent_number e ≡ distance (number_at p.sisn p.sent) delta =
    (λ j. if closed_listens_not e.name c.name j then e.sending.iss else number_at (k.iss j) (sym k.sent j))
    ∙ behind i delta p.sisn u p.sent k.shift (omega (arith, k.above, c.acknowledged)) k.delta_fits in
    let acked : acked_number e ≡ distance (acked_at p.syn_acked p.sisn p.una) delta =
    (λ j. if k.syn_acked j then number_at (k.iss j) (sym k.una j) else e.sending.iss) ∙ behind i delta p.sisn u p.una k.shift k.above k.delta_fits
    ∙ (λ j. distance (acked_at (sym c.syn_acked j) p.sisn p.una) delta) in
    let small : p.sent < 2 ^ 31 = small_sent u p.sent e.sending.sent e.sending.fin_sent k.small k.sent c.bounds.sent in
    record {
      taken = bytes_by (length p.taken) p.fetched e.receiving.read (length e.receiving.unread) n.read r.long (ap (max p.fetched) st.north.read ∙ r.read);
      fin = (and_parts p.fin (nat_lt (released service p) p.una) c.over).0 ∙ sym (or_right (has_taken_fin e.name) (is_closed e.name) closed);
      over = c.over ∙ sym (or_right (is_time_wait e.name) (is_closed e.name) closed);
      sent = sent;
      acked = acked;
      sent_outside = ap (raised_by delta) sent ∙ outside (number_at p.sisn p.sent) delta (omega arith) k.delta_fits;
      sent_units = units_at p.sisn delta (sent_number e) p.sent sent k.delta_fits small;
      acked_units = acked_units_at p.syn_acked p.sisn delta (acked_number e) p.una acked k.delta_fits (omega (arith, small, c.acknowledged)) k.sisn (λ h. absurd (false≢true (sym h ∙ c.syn_acked)));
      order = omega (arith, c.acknowledged);
      few = few_closed service u i delta given p n e st c;
    }

pub parts_show : {S : Type 0} (service : Machine S) (u i delta given : ℕ) (p : Point) (n : NorthState S) (e : Tcb) → PartsStand service u i delta given p n e → PartsShow service delta p n e
parts_show service u i delta given p n e st = ⊎_elim (report_open service u i delta given p n e st) (report_closed service u i delta given p n e st) st.tcp

-- after the news: the state tells the FIN, too where it has become CLOSED
closed_of_placed : (name : StateName) (o c f a : Bool) → has_begun name ≡ false → IsPlaced name o c f a → (is_closed name ≡ true) × (f ≡ true)
closed_of_placed Closed o c f a ended h = (refl, h.2)
closed_of_placed Listen o c f a ended h = absurd h
closed_of_placed SynSent o c f a ended h = absurd h
closed_of_placed SynReceived o c f a ended h = absurd (false≢true (sym ended))
closed_of_placed Established o c f a ended h = absurd (false≢true (sym ended))
closed_of_placed FinWait1 o c f a ended h = absurd (false≢true (sym ended))
closed_of_placed FinWait2 o c f a ended h = absurd (false≢true (sym ended))
closed_of_placed CloseWait o c f a ended h = absurd (false≢true (sym ended))
closed_of_placed Closing o c f a ended h = absurd (false≢true (sym ended))
closed_of_placed LastAck o c f a ended h = absurd (false≢true (sym ended))
closed_of_placed TimeWait o c f a ended h = absurd (false≢true (sym ended))

named_of_placed : (name : StateName) (o c f a : Bool) → has_begun name ≡ true → IsPlaced name o c f a → IsNamed name o c f a
named_of_placed Closed o c f a begun h = absurd (false≢true begun)
named_of_placed Listen o c f a begun h = absurd (false≢true begun)
named_of_placed SynSent o c f a begun h = absurd (false≢true begun)
named_of_placed SynReceived o c f a begun h = h
named_of_placed Established o c f a begun h = h
named_of_placed FinWait1 o c f a begun h = h
named_of_placed FinWait2 o c f a begun h = h
named_of_placed CloseWait o c f a begun h = h
named_of_placed Closing o c f a begun h = h
named_of_placed LastAck o c f a begun h = h
named_of_placed TimeWait o c f a begun h = h

fin_reported : (inner : News) (e : Tcb) (b : Bool) → has_begun (arrived inner e).name ≡ b → FollowsAt (arrived inner e) → (arrived inner e).receiving.fin ≡ reports_fin (arrived inner e)
fin_reported inner e true begun f =
    let m : Tcb = arrived inner e in
    fin_by_name m.name m.sending.syn_acked m.sending.closed m.receiving.fin (fin_acked m.sending) begun (named_of_placed m.name m.sending.syn_acked m.sending.closed m.receiving.fin (fin_acked m.sending) begun f.placed)
    ∙ sym (off_or (has_taken_fin m.name) (is_closed m.name) (begun_open m.name begun))
fin_reported inner e false ended f =
    let m : Tcb = arrived inner e in
    let c = closed_of_placed m.name m.sending.syn_acked m.sending.closed m.receiving.fin (fin_acked m.sending) ended f.placed in
    c.1 ∙ sym (or_right (has_taken_fin m.name) (is_closed m.name) c.0)

news_open : {S : Type 0} (service : Machine S) (u i delta given : ℕ) (news : News) (p : Point) (n : NorthState S) (e : Tcb) → PartsStand service u i delta given p n e → NewsFit p news
    → reset_after news p ≡ false → StandsOpen u i delta p e → NewsShow delta news p n (arrived (news_inside delta p news) e)
news_open service u i delta given news p n e st fits off o =
    let inner : News = news_inside delta p news in
    let m : Tcb = arrived inner e in
    let g = o.stands.proceeds in
    let usual : IsUsualNews inner e = usual_news u i delta p e news g o.stands.stands fits in
    let came : Arrived inner (inside u i p) e m = arrives inner (inside u i p) e o.stands.begun o.stands.between o.stands.stands usual in
    let moves : Moves news p u i inner = moves_inside_all u i delta p news g fits in
    let rises = stays u i delta news p g fits in
    let follows : FollowsAt m = unreset_follows inner [] e o.stands.begun o.stands.between o.named (unreset u i delta p e news o.stands st.unreset fits off) in
    let acked : acked_number m ≡ distance (acked_at (syn_acked_after news p) p.sisn (acknowledged_after news p)) delta =
    acked_by (syn_acked_after news p) m.sending.syn_acked m.sending.iss m.sending.una i delta p.sisn u (acknowledged_after news p) (sym moves.syn_acked ∙ came.sends.syn_acked) (sym came.sends.sisn)
    (sym (sym moves.una ∙ came.sends.una)) g.shift rises.una g.delta_fits g.i_fits g.sisn (λ h. (g.syn_unacked (still_syn_unacked news p h)).0) in
    record {
      unread = (λ j. drop ((ap (max p.fetched) st.north.read ∙ came.receives.read) j) (sym moves.taken j)) ∙ came.receives.unread;
      taken = ap length (sym moves.taken) ∙ bytes_by _ p.fetched m.receiving.read (length m.receiving.unread) n.read came.receives.long (ap (max p.fetched) st.north.read ∙ came.receives.read);
      fin = sym moves.fin ∙ came.receives.fin ∙ fin_reported inner e (has_begun m.name) refl follows;
      acked = acked;
      acked_units = acked_units_at (syn_acked_after news p) p.sisn delta (acked_number m) (acknowledged_after news p) acked g.delta_fits (omega (arith, rises.most, g.sent)) g.sisn
          (λ h. let s : p.sent ≡ 0 = (g.syn_unacked (still_syn_unacked news p h)).1 in omega (arith, s, rises.most));
      few = omega (arith, rises.most, few_open service u i delta given p n e st o);
    }

news_closed : {S : Type 0} (service : Machine S) (u i delta given : ℕ) (news : News) (p : Point) (n : NorthState S) (e : Tcb) → PartsStand service u i delta given p n e
    → StandsClosed service u i delta p e → NewsShow delta news p n (arrived (news_inside delta p news) e)
news_closed service u i delta given news p n e st c =
    let inner : News = news_inside delta p news in
    let m : Tcb = arrived inner e in
    let s : IsStill e m = still inner e c.name in
    let k : CountsFrom u i delta p e = c.counts in
    let fin : p.fin ≡ true = (and_parts p.fin (nat_lt (released service p) p.una) c.over).0 in
    let held : HoldsBehind p = behind_at p e c.receives c.bounds in
    let closed : is_closed m.name ≡ true = ap is_closed (sym (flushed_name m) ∙ (closed_stays_law inner [] e c.name c.reset_reply).0) in
    let una : acknowledged_after news p ≡ p.una = una_stays news p c.acknowledged in
    let acked : acked_number m ≡ distance (acked_at (syn_acked_after news p) p.sisn (acknowledged_after news p)) delta =
    (λ j. if (s.syn_acked ∙ k.syn_acked) j then number_at ((s.iss ∙ k.iss) j) ((s.una ∙ sym k.una) j) else m.sending.iss) ∙ behind i delta p.sisn u p.una k.shift k.above k.delta_fits
    ∙ (λ j. distance (acked_at (sym (syn_acked_stays news p c.syn_acked) j) p.sisn (sym una j)) delta) in
    let small : p.sent < 2 ^ 31 = small_sent u p.sent e.sending.sent e.sending.fin_sent k.small k.sent c.bounds.sent in
    record {
      unread = (λ j. drop ((ap (max p.fetched) st.north.read ∙ c.receives.read ∙ (λ k. (sym s.receiving k).read + p.fetched)) j) (taken_stays news p held fin j))
          ∙ (λ j. drop ((s.receiving j).read + p.fetched) p.taken) ∙ c.receives.unread ∙ (λ j. (sym s.receiving j).unread);
      taken = ap length (taken_stays news p held fin)
          ∙ bytes_by (length p.taken) p.fetched m.receiving.read (length m.receiving.unread) n.read (c.receives.long ∙ (λ j. receiver.taken (sym s.receiving j) + p.fetched))
          (ap (max p.fetched) st.north.read ∙ c.receives.read ∙ (λ j. (sym s.receiving j).read + p.fetched));
      fin = fin_stays news p held fin ∙ sym (or_right (has_taken_fin m.name) (is_closed m.name) closed);
      acked = acked;
      acked_units = acked_units_at (syn_acked_after news p) p.sisn delta (acked_number m) (acknowledged_after news p) acked k.delta_fits (omega (arith, small, una, c.acknowledged)) k.sisn
          (λ h. absurd (false≢true (sym h ∙ syn_acked_stays news p c.syn_acked)));
      few = omega (arith, una, c.acknowledged, few_closed service u i delta given p n e st c);
    }

pub news_show : {S : Type 0} (service : Machine S) (u i delta given : ℕ) (news : News) (p : Point) (n : NorthState S) (e : Tcb) → PartsStand service u i delta given p n e → NewsFit p news
    → reset_after news p ≡ false → NewsShow delta news p n (arrived (news_inside delta p news) e)
news_show service u i delta given news p n e st fits off =
    ⊎_elim (news_open service u i delta given news p n e st fits off) (news_closed service u i delta given news p n e st) st.tcp
