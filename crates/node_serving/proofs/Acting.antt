-- The turns of a connection, each as the node has it.
use Rattle.std.proofs.Common.{◌≡◌, ◌∙◌, ℕ, ◌<◌, ◌≤◌, ◌^◌, Bool, true, false, refl, sym, ap, subst, Some, Ok, List, length, slice_index, arith}
use Rattle.std.specs.Prelude.{IfOk, ◌==◌}
use Rattle.std.specs.Bool.{MatchBool}
use Rattle.ft_io.specs.declared.Addr.{Addr}
use Rattle.seq_arith.specs.declared.kinds.Grammar.{Grammar}
use Rattle.seq_arith.specs.Packet.{Segment}
use Rattle.seq_arith.specs.PacketGrammar.{reading}
use Rattle.seq_arith.specs.Message.{Kept, Numbers}
use Rattle.server_trait.specs.Service.{Machine}
use Rattle.logger_wire.specs.declared.Body.{Body as Said}
use Rattle.logger_wire.specs.declared.Body.TheVariants as body
use Rattle.logger_wire.specs.Records.{kept_said}
use Rattle.logger_wire.specs.Value.{body_of}
use Rattle.tcp_rules.specs.Profile.{Profile}
use Rattle.tcp_rules.specs.declared.timestamping.Timestamping.{Timestamping}
use Rattle.ft_model.specs.News.{News}
use Rattle.ft_model.specs.News.News.{Comes, Logged, Ticks, Begins as Becomes_live}
use Rattle.ft_model.specs.Offset.{IsNear}
use Rattle.ft_model.specs.Opening.{point_opened}
use Rattle.ft_model.specs.Point.{Point}
use Rattle.ft_model.proofs.Lists.{some_is, none_is_some}
use Rattle.north_wrap.specs.Refinement.{NorthStands}
use Rattle.connection_laws.specs.FirstSyn.{MayOpen}
use Rattle.wrapped_conn.specs.ConnState.{ConnState}
use Rattle.wrapped_conn.specs.Arrival.{stamped, arrived}
use Rattle.wrapped_conn.specs.NewConnection.{first_conn_in}
use Rattle.wrapped_conn.specs.Refinement as conn
use Rattle.wrapped_conn.specs.Refinement.{StandsLive, StandsReset, Leads}
use Rattle.wrapped_conn.specs.LoggerMessages.{grammar_by, with_done}
use Rattle.wrapped_conn.specs.Turn.{Starts, Receives, OnReceipt, IsReported, Ticks as TicksOn, counted, ticked}
use Rattle.wrapped_conn.specs.Numbers.{resets}
use Rattle.south_wrap.specs.Translation.{repeats_syn}
use Rattle.wrapped_conn.proofs.Arrivals.{on_receipt, starts}
use Rattle.wrapped_conn.proofs.Joining.{new_starts}
use Rattle.wrapped_conn.proofs.Receiving.{receives}
use Rattle.wrapped_conn.proofs.SoundAgain.{fitting_leaves, fitting_short}
use Rattle.wrapped_conn.specs.Sound.{echoed}
use Rattle.wrapped_conn.proofs.Ticking.{ticks}
use Rattle.node_serving.specs.Conn.{Begins, IsOursAt, IsSound, IsOurs, Acts}
use Rattle.node_serving.specs.LogMessages.{logged_in}
use Rattle.node_serving.proofs.Came.{fits, text_fits, stamps_short}
use Rattle.node_serving.proofs.Turned.{IsTyped, Fits, acts}
use Rattle.ft_io.proofs.Choices.{holds_if}

-- a connection keeps its client, its address, its boot number and its grammar in each turn
pub record IsSame {S : Type 0} (c now : ConnState S) : Type 0 where
  pub key : now.key ≡ c.key
  pub local : now.local ≡ c.local
  pub boot : now.boot ≡ c.boot
  pub batches : now.batches ≡ c.batches

pub either : {P Q R : Type 0} (b : Bool) → MatchBool b P Q → (P → R) → (Q → R) → R
either true m f g = f m
either false m f g = g m

pub arrived_same : {S : Type 0} (segment : Segment) (c : ConnState S) → IsSame c (arrived segment c)
unfolding arrived
arrived_same segment c = record {
  key = holds_if (λ x. x.key ≡ c.key) (repeats_syn (stamped segment c).south segment) (stamped segment c) _ (λ t. refl) (λ t. refl);
  local = holds_if (λ x. x.local ≡ c.local) (repeats_syn (stamped segment c).south segment) (stamped segment c) _ (λ t. refl) (λ t. refl);
  boot = holds_if (λ x. x.boot ≡ c.boot) (repeats_syn (stamped segment c).south segment) (stamped segment c) _ (λ t. refl) (λ t. refl);
  batches = holds_if (λ x. x.batches ≡ c.batches) (repeats_syn (stamped segment c).south segment) (stamped segment c) _ (λ t. refl) (λ t. refl);
}

pub receives_same : {S : Type 0} (service : Machine S) (segment : Segment) (c now : ConnState S) (out messages : List (List ℕ)) → Receives service.after segment c now out messages → IsSame c now
receives_same service segment c now out messages r =
    either c.reset r (λ k. record { key = ap (λ x. x.key) k.state; local = ap (λ x. x.local) k.state; boot = ap (λ x. x.boot) k.state; batches = ap (λ x. x.batches) k.state })
    (λ m. either (resets c segment) m (λ k. record { key = ap (λ x. x.key) k.state; local = ap (λ x. x.local) k.state; boot = ap (λ x. x.boot) k.state; batches = ap (λ x. x.batches) k.state })
    (λ k. let same = arrived_same segment c in record { key = ap (λ x. x.key) k.state ∙ same.key; local = ap (λ x. x.local) k.state ∙ same.local; boot = ap (λ x. x.boot) k.state ∙ same.boot; batches = ap (λ x. x.batches) k.state ∙ same.batches }))

pub receipt_same : {S : Type 0} (service : Machine S) (kept : Kept) (c now : ConnState S) (out messages : List (List ℕ)) → OnReceipt service.after kept.length kept.fin kept.reads c now out messages → IsSame c now
receipt_same service kept c now out messages r =
    either c.reset r (λ k. record { key = ap (λ x. x.key) k.state; local = ap (λ x. x.local) k.state; boot = ap (λ x. x.boot) k.state; batches = ap (λ x. x.batches) k.state }) (λ k. record { key = ap (λ x. x.key) k.state; local = ap (λ x. x.local) k.state; boot = ap (λ x. x.boot) k.state; batches = ap (λ x. x.batches) k.state })

pub ticks_same : {S : Type 0} (c now : ConnState S) (out messages : List (List ℕ)) → TicksOn c now out messages → IsSame c now
ticks_same c now out messages r =
    either c.reset r (λ k. record { key = ap (λ x. x.key) k.state; local = ap (λ x. x.local) k.state; boot = ap (λ x. x.boot) k.state; batches = ap (λ x. x.batches) k.state })
    (λ k. record {
      key = ap (λ x. x.key) k.state ∙ holds_if (λ x. x.key ≡ c.key) ((counted (ticked c)).end_ticks == 4) (with_done (counted (ticked c))) (counted (ticked c)) (λ t. refl) (λ t. refl);
      local = ap (λ x. x.local) k.state ∙ holds_if (λ x. x.local ≡ c.local) ((counted (ticked c)).end_ticks == 4) (with_done (counted (ticked c))) (counted (ticked c)) (λ t. refl) (λ t. refl);
      boot = ap (λ x. x.boot) k.state ∙ holds_if (λ x. x.boot ≡ c.boot) ((counted (ticked c)).end_ticks == 4) (with_done (counted (ticked c))) (counted (ticked c)) (λ t. refl) (λ t. refl);
      batches = ap (λ x. x.batches) k.state ∙ holds_if (λ x. x.batches ≡ c.batches) ((counted (ticked c)).end_ticks == 4) (with_done (counted (ticked c))) (counted (ticked c)) (λ t. refl) (λ t. refl);
    })

pub starts_same : {S : Type 0} (service : Machine S) (c now : ConnState S) (out messages : List (List ℕ)) → Starts service.after c now out messages → IsSame c now
starts_same service c now out messages k = record { key = ap (λ x. x.key) k.state; local = ap (λ x. x.local) k.state; boot = ap (λ x. x.boot) k.state; batches = ap (λ x. x.batches) k.state }

rests_same : {S : Type 0} (c was now : ConnState S) → IsSame c was → now ≡ was → IsSame c now
rests_same c was now same is = subst (IsSame c) (sym is) same

pub reported_same : {S : Type 0} (service : Machine S) (said : Said) (c now : ConnState S) (out messages : List (List ℕ)) → IsReported service.after said c now out messages → IsSame c now
reported_same service (body.Stable kept) c now out messages r = receipt_same service (kept_said kept) c now out messages r
reported_same service (body.Reads kept) c now out messages r = receipt_same service (kept_said kept) c now out messages r
reported_same service (body.Ended key) c now out messages r = rests_same c _ now (record { key = refl; local = refl; boot = refl; batches = refl }) r.state
reported_same service _ c now out messages r = rests_same c c now (record { key = refl; local = refl; boot = refl; batches = refl }) r.state

-- no more reads are known to be logged than were made
counts : {S : Type 0} (service : Machine S) (c : ConnState S) (p : Point) (given : ℕ) → NorthStands service p given c.north → p.reads_answered ≤ length p.lengths
counts service c p given north = omega (arith, north.unanswered)

counts_standing : {S : Type 0} (service : Machine S) (c : ConnState S) (p : Point) (b : Bool) → MatchBool b (StandsReset service p c) (StandsLive service p c) → p.reads_answered ≤ length p.lengths
counts_standing service c p true st = counts service c p st.given st.north
counts_standing service c p false st = counts service c p st.given st.parts.stand.north

-- where a connection stands at a point, its grammar is that of the point
written : {S : Type 0} (grammar : Grammar) (service : Machine S) (server : Addr) (boot : ℕ) (news : News) (p : Point) (c now : ConnState S) (segments messages : List (List ℕ)) → c.batches ≡ p.batches
    → grammar_by c.batches ≡ grammar → Acts (grammar_by p.batches) service server boot news p now segments messages → Acts grammar service server boot news p now segments messages
written grammar service server boot news p c now segments messages same its a =
    subst (λ g. Acts g service server boot news p now segments messages) (ap grammar_by (sym same) ∙ its) a

-- a turn by the connection's law is a turn of this server in this boot
ours : {S : Type 0} (service : Machine S) (server : Addr) (boot : ℕ) (news : News) (p : Point) (c now : ConnState S) (segments messages : List (List ℕ)) → IsOurs server boot c p
    → Leads service c.local c.boot news p now segments messages → Leads service server boot news p now segments messages
ours service server boot news p c now segments messages own l =
    subst (λ a. Leads service a boot news p now segments messages) own.local (subst (λ b. Leads service c.local b news p now segments messages) own.incarnation l)

fits_of : {S : Type 0} {server : Addr} {boot : ℕ} {c : ConnState S} {p : Point} → IsOurs server boot c p → Fits p
fits_of own = (own.size, own.room, own.echo)

pub tick_acts : {S : Type 0} (grammar : Grammar) (service : Machine S) (server : Addr) (boot : ℕ) (p : Point) (c now : ConnState S) (segments messages : List (List ℕ))
    → IsTyped server boot p.key segments messages → IsSound c → IsSound now → TicksOn c now segments messages → IsOursAt service server boot c p → grammar_by c.batches ≡ grammar
    → Acts grammar service server boot Ticks p now segments messages
unfolding IsOursAt IsSound
tick_acts grammar service server boot p c now segments messages typed s s_now r st its =
    let same = ticks_same c now segments messages r in
    written grammar service server boot Ticks p c now segments messages st.0.keeps.batches its
    (acts service server boot Ticks p now segments messages typed tt (fits_of st.1) (counts_standing service c p p.reset st.0.parts) s_now (same.local ∙ st.1.local) (same.boot ∙ st.1.incarnation)
    (ours service server boot Ticks p c now segments messages st.1 (ticks service p c now segments messages s st.0 r)))

pub segment_acts : {S : Type 0} (grammar : Grammar) (service : Machine S) (server : Addr) (boot : ℕ) (p : Point) (c now : ConnState S) (bytes : List ℕ) (segment : Segment) (segments messages : List (List ℕ))
    → ((i : ℕ) → slice_index bytes i < 256) → IsTyped server boot p.key segments messages → IsSound c → IsSound now
    → IfOk (reading bytes) (λ came. Receives service.after came c now segments messages) → reading bytes ≡ Ok segment → IsNear p.cisn p.sisn segment → IsOursAt service server boot c p → grammar_by c.batches ≡ grammar
    → Acts grammar service server boot (Comes segment) p now segments messages
unfolding IsOursAt IsSound
segment_acts grammar service server boot p c now bytes segment segments messages small typed s s_now reported reads near st its =
    let r : Receives service.after segment c now segments messages = subst (λ read. IfOk read (λ came. Receives service.after came c now segments messages)) reads reported in
    let same = receives_same service segment c now segments messages r in
    written grammar service server boot (Comes segment) p c now segments messages st.0.keeps.batches its
    (acts service server boot (Comes segment) p now segments messages typed (text_fits bytes segment reads, stamps_short bytes segment small reads) (fits_of st.1) (counts_standing service c p p.reset st.0.parts) s_now
    (same.local ∙ st.1.local) (same.boot ∙ st.1.incarnation)
    (ours service server boot (Comes segment) p c now segments messages st.1 (receives service p c now segment segments messages s s_now st.0 (fits p bytes segment small reads near) r)))

-- what a message says is logged is what the connection hears
pub received_in : {S : Type 0} (service : Machine S) (said : Said) (kept : Kept) (c now : ConnState S) (segments messages : List (List ℕ)) → logged_in (body_of said) ≡ Some kept
    → IsReported service.after said c now segments messages → OnReceipt service.after kept.length kept.fin kept.reads c now segments messages
received_in service (body.Stable logged) kept c now segments messages e r =
    subst (λ (k : Kept). OnReceipt service.after k.length k.fin k.reads c now segments messages) (some_is _ kept e) r
received_in service (body.Reads logged) kept c now segments messages e r =
    subst (λ (k : Kept). OnReceipt service.after k.length k.fin k.reads c now segments messages) (some_is _ kept e) r
received_in service _ kept c now segments messages e r = none_is_some kept e

pub message_acts : {S : Type 0} (grammar : Grammar) (service : Machine S) (server : Addr) (boot : ℕ) (p : Point) (c now : ConnState S) (said : Said) (kept : Kept) (segments messages : List (List ℕ))
    → IsTyped server boot p.key segments messages → IsSound c → IsSound now → logged_in (body_of said) ≡ Some kept → IsReported service.after said c now segments messages
    → IsOursAt service server boot c p → grammar_by c.batches ≡ grammar → Acts grammar service server boot (Logged kept) p now segments messages
unfolding IsOursAt IsSound
message_acts grammar service server boot p c now said kept segments messages typed s s_now says reported st its =
    let r = received_in service said kept c now segments messages says reported in
    let same = receipt_same service kept c now segments messages r in
    written grammar service server boot (Logged kept) p c now segments messages st.0.keeps.batches its
    (acts service server boot (Logged kept) p now segments messages typed tt (fits_of st.1) (counts_standing service c p p.reset st.0.parts) s_now (same.local ∙ st.1.local) (same.boot ∙ st.1.incarnation)
    (ours service server boot (Logged kept) p c now segments messages st.1 (on_receipt service p c now kept segments messages s s_now st.0 r)))

pub start_acts : {S : Type 0} (grammar : Grammar) (service : Machine S) (server : Addr) (boot : ℕ) (p : Point) (c now : ConnState S) (segments messages : List (List ℕ))
    → IsTyped server boot p.key segments messages → IsSound c → IsSound now → Starts service.after c now segments messages → Begins service server boot c p → grammar_by c.batches ≡ grammar
    → Acts grammar service server boot Becomes_live p now segments messages
unfolding Begins IsSound
start_acts grammar service server boot p c now segments messages typed s s_now r st its =
    let same = starts_same service c now segments messages r in
    written grammar service server boot Becomes_live p c now segments messages st.0.keeps.batches its
    (acts service server boot Becomes_live p now segments messages typed tt (fits_of st.1) (counts service c p st.0.given st.0.parts.north) s_now (same.local ∙ st.1.local) (same.boot ∙ st.1.incarnation)
    (ours service server boot Becomes_live p c now segments messages st.1 (starts service p c now segments messages s s_now st.0 r)))

pub first_acts : {S : Type 0} (service : Machine S) (profile : Profile) (timestamping : Timestamping) (server : Addr) (boot : ℕ) (numbers : Numbers) (now : ConnState S) (segments messages : List (List ℕ))
    → IsTyped server boot numbers.key segments messages → MayOpen numbers → echoed timestamping < 2 ^ 32 → IsSound now
    → Starts service.after (first_conn_in profile timestamping boot numbers.key server numbers.cisn numbers.sisn numbers.mss service.fresh service.greeting) now segments messages
    → Acts (grammar_by profile.batches) service server boot Becomes_live (point_opened profile timestamping numbers) now segments messages
unfolding IsSound first_conn_in
first_acts service profile timestamping server boot numbers now segments messages typed may echo s r =
    let same = starts_same service (first_conn_in profile timestamping boot numbers.key server numbers.cisn numbers.sisn numbers.mss service.fresh service.greeting) now segments messages r in
    acts service server boot Becomes_live (point_opened profile timestamping numbers) now segments messages typed tt (may.most, fitting_leaves timestamping numbers.mss, fitting_short timestamping numbers.mss echo) (omega arith) s same.local same.boot
    (new_starts service profile timestamping boot server numbers now segments messages may s r)

-- a connection that a restart has put together
pub begins : {S : Type 0} (service : Machine S) (server : Addr) (boot : ℕ) (p : Point) (c : ConnState S) → conn.StandsBefore service c p → c.local ≡ server → c.boot ≡ boot → Fits p
    → Begins service server boot c p
unfolding Begins
begins service server boot p c stands local up fits = (stands, record { local = local; incarnation = up; size = fits.0; room = fits.1; echo = fits.2 })
