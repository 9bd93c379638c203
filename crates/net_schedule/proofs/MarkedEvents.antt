-- With marks: deliveries and flips are what may happen, and what is refused is refused by the events' tests.
use Rattle.std.proofs.Common.{◌≡◌, ◌∙◌, sym, ap, subst, refl, ℕ, ◌<◌, ◌≤◌, ◌*◌, nat_le, true, false, true≢false, Some, None, List, length, cond, arith}
use Rattle.std.specs.Prelude.{Result, Ok, Err, IsOk, IsErr, nat_eq, nat_lt, not, slice_index, if◌then◌else◌}
use Rattle.ft_io.proofs.Choices.{holds_if}
use Rattle.std.proofs.lemmas.Bool.Decides.{nat_tests}
use Rattle.seq_arith.specs.Damage.{flipped}
use Rattle.seq_arith.specs.Mark.{MarkMessage}
use Rattle.seq_arith.specs.Message.{Message}
use Rattle.seq_arith.specs.MarkGrammar as marks
use Rattle.seq_arith.specs.MessageGrammar as messages
use Rattle.seq_arith.specs.PacketGrammar as segments
use Rattle.seq_arith.specs.declared.kinds.BadMsg.{BadMsg}
use Rattle.seq_arith.specs.declared.kinds.Grammar.{Grammar}
use Rattle.seq_arith.specs.declared.mark.BadMark.{BadMark}
use Rattle.seq_arith.proofs.MessageSpelling.{message_is_read}
use Rattle.seq_arith.proofs.Refused.{flipped_packet_is_refused, accepted, proceeds}
use Rattle.seq_arith.specs.Bytes.{word_at}
use Rattle.seq_arith.specs.declared.kinds.BadMsg.TheVariants as bad_msg
use Rattle.seq_arith.specs.declared.mark.BadMark.TheVariants as bad_mark
use Rattle.seq_arith.proofs.Spelling.{spelling_is_read}
use Rattle.tcp_rules.specs.Profile.{grammar_of}
use Rattle.ft_model.specs.Network.{destination_of}
use Rattle.ft_model.specs.Network.Packet.{To_server, To_client, To_logger, From_logger}
use Rattle.ft_model.specs.World.{MayCome, ClientReads, segment_or_noise}
use Rattle.ft_model.specs.declared.event.Event.TheVariants as events
use Rattle.ft_model.specs.declared.event.EventWhy.TheVariants as why
use Rattle.ft_model.specs.declared.way.Way.{Way}
use Rattle.ft_model.proofs.Happened.{segment_is_noise}
use Rattle.mark_laws.specs.MarkedLog.AnyMessage.{About_mark, Of_log}
use Rattle.mark_laws.specs.MarkedLegal.{marked_refusal, refusal_of_marked_flip}
use Rattle.mark_laws.specs.MarkedNode.{Marker}
use Rattle.mark_laws.specs.MarkedNode.MarkedInput.{Plain_comes}
use Rattle.mark_laws.specs.MarkedWorld.{Parcel, MarkedWorld, CanBeRead, ParcelComes, ComesAs, LogReads, ServerMoves, Elsewhere, bytes_of, either_said, said_by, input_of, seen, parcel_at}
use Rattle.mark_laws.specs.MarkedWorld.Parcel.{Usual, Mark_sent, Mark_answered}
use Rattle.mark_laws.proofs.MarkSteps.{of_parcel, under_way}
use Rattle.mark_laws.proofs.Noise.{message_noise, mark_noise}
use Rattle.schedule_network.specs.AtNumber.{at_number}
use Rattle.net_schedule.specs.Refinement.{Kept}
use Rattle.net_schedule.specs.MarkedRefinement.{MarkedWorldStands, MarkedProceeds, MarkedAdvances, MarkedPremises, MayComeMarked, MarkedComesAs, way_of_parcel}
use Rattle.net_schedule.proofs.Events.{no_move}
use Rattle.net_schedule.proofs.MarkedParcels.{FoundMarked, found_marked}

-- What the spelling of a message says is the message, whichever of the two it is of
plain_said : (message : Message) (r : Result Message BadMsg) (q : Result MarkMessage BadMark) → r ≡ Ok message → either_said r q ≡ Some (Of_log message)
plain_said message r q e = ap (λ x. either_said x q) e

pub says_message : (grammar : Grammar) (message : Message) → messages.IsSpellableBy grammar message → said_by grammar (messages.spelling_by grammar message) ≡ Some (Of_log message)
says_message grammar message spelled =
    plain_said message (messages.reading_by grammar (messages.spelling_by grammar message)) (marks.reading (messages.spelling_by grammar message)) (message_is_read message spelled)

-- the two have different magics
ours : (word : ℕ) → not (nat_eq word 18006) ≡ false → not (nat_eq word 18004) ≡ false → ⊥
ours word e f = absurd (grind (arith, e, f))

no_message : (grammar : Grammar) (bytes : List ℕ) → not (nat_eq (word_at bytes 0) 18006) ≡ false → IsErr (messages.reading_by grammar bytes)
unfolding messages.reading_by
no_message grammar bytes mark =
    holds_if IsErr (nat_lt (length bytes) 16) (Err bad_msg.Short)
    (if not (nat_eq (word_at bytes 0) 18004) then Err bad_msg.Magic
    else (if not (nat_eq (slice_index bytes 2) (messages.version grammar)) then Err bad_msg.Version else messages.reading_if grammar (messages.kind_numbered (slice_index bytes 3)) bytes))
    (λ t. refl)
    (λ f. holds_if IsErr (not (nat_eq (word_at bytes 0) 18004)) (Err bad_msg.Magic)
    (if not (nat_eq (slice_index bytes 2) (messages.version grammar)) then Err bad_msg.Version else messages.reading_if grammar (messages.kind_numbered (slice_index bytes 3)) bytes)
    (λ t. refl) (λ g. absurd (ours (word_at bytes 0) mark g)))

mark_magic : (bytes : List ℕ) → IsOk (marks.reading bytes) → not (nat_eq (word_at bytes 0) 18006) ≡ false
unfolding marks.reading
mark_magic bytes ok =
    let last : Result MarkMessage BadMark = if not (nat_eq (slice_index bytes 2) 1) then Err bad_mark.Version else marks.reading_if (marks.kind_numbered (slice_index bytes 3)) bytes in
    (proceeds (not (nat_eq (word_at bytes 0) 18006)) bad_mark.Magic last
    (proceeds (nat_lt (length bytes) 16) bad_mark.Short (if not (nat_eq (word_at bytes 0) 18006) then Err bad_mark.Magic else last) ok).1).0

mark_said : (message : MarkMessage) (r : Result Message BadMsg) (q : Result MarkMessage BadMark) → IsErr r → q ≡ Ok message → either_said r q ≡ Some (About_mark message)
mark_said message (Err why) q h e = ap (λ x. either_said (Err why) x) e
mark_said message (Ok other) q h e = absurd (true≢false (sym h))

pub says_mark : (grammar : Grammar) (message : MarkMessage) → marks.reading (marks.spelling message) ≡ Ok message → said_by grammar (marks.spelling message) ≡ Some (About_mark message)
says_mark grammar message read =
    mark_said message (messages.reading_by grammar (marks.spelling message)) (marks.reading (marks.spelling message))
    (no_message grammar (marks.spelling message) (mark_magic (marks.spelling message) (accepted read))) read

-- a parcel's own bytes are the parcel
comes_whole : (v : MarkedWorld) (n : ℕ) (parcel : Parcel) → CanBeRead (grammar_of v.profile) parcel → parcel_at v.parcels n ≡ Some parcel
    → MarkedComesAs v parcel (bytes_of (grammar_of v.profile) parcel)
comes_whole v n (Usual (To_server segment)) read at = subst (λ r. MayCome (seen v) (segment_or_noise r)) (sym (spelling_is_read segment read.0)) (under_way v n (To_server segment) at)
comes_whole v n (Usual (To_client segment)) read at = tt
comes_whole v n (Usual (To_logger message)) read at = tt
comes_whole v n (Usual (From_logger message)) read at = subst (λ o. MayComeMarked v (input_of o)) (sym (says_message (grammar_of v.profile) message read.0)) (under_way v n (From_logger message) at)
comes_whole v n (Mark_sent message) read at = tt
comes_whole v n (Mark_answered message) read at = subst (λ o. MayComeMarked v (input_of o)) (sym (says_mark (grammar_of v.profile) message read)) (n, at)

-- with a changed bit they are noise
comes_changed : (v : MarkedWorld) (parcel : Parcel) (bit : ℕ) → CanBeRead (grammar_of v.profile) parcel → bit < 8 * length (bytes_of (grammar_of v.profile) parcel)
    → MarkedComesAs v parcel (flipped bit (bytes_of (grammar_of v.profile) parcel))
comes_changed v (Usual (To_server segment)) bit read within =
    subst (MayCome (seen v))
    (sym (segment_is_noise (segments.reading (flipped bit (segments.spelling segment))) (flipped_packet_is_refused bit (segments.spelling segment) segment (spelling_is_read segment read.0) within))) tt
comes_changed v (Usual (To_client segment)) bit read within = tt
comes_changed v (Usual (To_logger message)) bit read within = tt
comes_changed v (Usual (From_logger message)) bit read within =
    subst (λ o. MayComeMarked v (input_of o)) (sym (message_noise (grammar_of v.profile) bit (messages.spelling_by (grammar_of v.profile) message) message (message_is_read message read.0) within)) tt
comes_changed v (Mark_sent message) bit read within = tt
comes_changed v (Mark_answered message) bit read within = subst (λ o. MayComeMarked v (input_of o)) (sym (mark_noise (grammar_of v.profile) bit (marks.spelling message) message read within)) tt

module _ {State : Type 0} (by : Marker State) where
  comes_so : (parcel : Parcel) (v : MarkedWorld) (sent : List Parcel) (after : MarkedWorld) → CanBeRead (grammar_of v.profile) parcel
      → ComesAs by parcel (bytes_of (grammar_of v.profile) parcel) v sent after → ParcelComes by parcel v sent after
  comes_so (Usual (To_server segment)) v sent after read h = subst (λ r. ServerMoves by (Plain_comes (segment_or_noise r)) v sent after) (spelling_is_read segment read.0) h
  comes_so (Usual (To_client segment)) v sent after read h = subst (λ r. Elsewhere (ClientReads (destination_of segment) r) v sent after) (spelling_is_read segment read.0) h
  comes_so (Usual (To_logger message)) v sent after read h = subst (λ o. LogReads o v sent after) (says_message (grammar_of v.profile) message read.0) h
  comes_so (Usual (From_logger message)) v sent after read h = subst (λ o. ServerMoves by (input_of o) v sent after) (says_message (grammar_of v.profile) message read.0) h
  comes_so (Mark_sent message) v sent after read h = subst (λ o. LogReads o v sent after) (says_mark (grammar_of v.profile) message read) h
  comes_so (Mark_answered message) v sent after read h = subst (λ o. ServerMoves by (input_of o) v sent after) (says_mark (grammar_of v.profile) message read) h

  -- a parcel is delivered
  pub marked_delivers : (w w' : Kept State) (v : MarkedWorld) (n : ℕ) (way : Way) (bytes : List ℕ) → MarkedWorldStands by w v → MarkedPremises by v
      → at_number w.packets.ways n ≡ Some way → at_number w.packets.bytes n ≡ Some bytes
      → ((parcel : Parcel) → way ≡ way_of_parcel w.keys parcel → MarkedComesAs v parcel bytes → MarkedProceeds by (ComesAs by parcel bytes v) v w')
      → MarkedAdvances by v (events.Deliver n) w'
  marked_delivers w w' v n way bytes st p e f brings =
      let x : FoundMarked (grammar_of v.profile) w.keys v.parcels n way bytes = found_marked (grammar_of v.profile) w.keys w.packets v.parcels n way bytes st.packets e f in
      let read : CanBeRead (grammar_of v.profile) x.parcel = of_parcel (CanBeRead (grammar_of v.profile)) v n x.parcel p.readable x.is in
      let came : MarkedComesAs v x.parcel bytes = subst (MarkedComesAs v x.parcel) (sym x.spells) (comes_whole v n x.parcel read x.is) in
      let g : MarkedProceeds by (ComesAs by x.parcel (bytes_of (grammar_of v.profile) x.parcel) v) v w' =
      subst (λ b. MarkedProceeds by (ComesAs by x.parcel b v) v w') x.spells (brings x.parcel x.goes came) in
      record {
        happens = record { sent = g.sent; world = g.world; goes = (x.parcel, x.is, comes_so x.parcel v g.sent g.world read g.goes); stands = g.stands; grew = g.grew };
        allowed = rw x.is refl;
        scripted = no_move (seen v) (events.Deliver n) _ (seen g.world) refl;
      }

  pub marked_refuses_packet : (v : MarkedWorld) (n : ℕ) → parcel_at v.parcels n ≡ None → marked_refusal v (events.Deliver n) ≡ Some why.Packet
  marked_refuses_packet v n e = rw e refl

  -- .. or with a changed bit
  pub marked_flips : (w w' : Kept State) (v : MarkedWorld) (n bit : ℕ) (way : Way) (bytes : List ℕ) → MarkedWorldStands by w v → MarkedPremises by v
      → at_number w.packets.ways n ≡ Some way → at_number w.packets.bytes n ≡ Some bytes → bit < 8 * length bytes
      → ((parcel : Parcel) → way ≡ way_of_parcel w.keys parcel → MarkedComesAs v parcel (flipped bit bytes) → MarkedProceeds by (ComesAs by parcel (flipped bit bytes) v) v w')
      → MarkedAdvances by v (events.Flip n bit) w'
  marked_flips w w' v n bit way bytes st p e f within brings =
      let x : FoundMarked (grammar_of v.profile) w.keys v.parcels n way bytes = found_marked (grammar_of v.profile) w.keys w.packets v.parcels n way bytes st.packets e f in
      let read : CanBeRead (grammar_of v.profile) x.parcel = of_parcel (CanBeRead (grammar_of v.profile)) v n x.parcel p.readable x.is in
      let inside : bit < 8 * length (bytes_of (grammar_of v.profile) x.parcel) = subst (λ b. bit < 8 * length b) x.spells within in
      let came : MarkedComesAs v x.parcel (flipped bit bytes) = subst (λ b. MarkedComesAs v x.parcel (flipped bit b)) (sym x.spells) (comes_changed v x.parcel bit read inside) in
      let g : MarkedProceeds by (ComesAs by x.parcel (flipped bit (bytes_of (grammar_of v.profile) x.parcel)) v) v w' =
      subst (λ b. MarkedProceeds by (ComesAs by x.parcel (flipped bit b) v) v w') x.spells (brings x.parcel x.goes came) in
      let has : nat_le (8 * length (bytes_of (grammar_of v.profile) x.parcel)) bit ≡ false = grind (arith, nat_tests) in
      record {
        happens = record { sent = g.sent; world = g.world; goes = (x.parcel, x.is, record { read = read; within = inside; comes = g.goes }); stands = g.stands; grew = g.grew };
        allowed = ap (λ o. refusal_of_marked_flip (grammar_of v.profile) o bit) x.is ∙ ap (λ b. cond b (Some why.Bit) None) has;
        scripted = no_move (seen v) (events.Flip n bit) _ (seen g.world) refl;
      }

  pub marked_refuses_no_packet : (v : MarkedWorld) (n bit : ℕ) → parcel_at v.parcels n ≡ None → marked_refusal v (events.Flip n bit) ≡ Some why.Packet
  marked_refuses_no_packet v n bit e = ap (λ o. refusal_of_marked_flip (grammar_of v.profile) o bit) e

  pub marked_refuses_bit : (w : Kept State) (v : MarkedWorld) (n bit : ℕ) (way : Way) (bytes : List ℕ) → MarkedWorldStands by w v → at_number w.packets.ways n ≡ Some way
      → at_number w.packets.bytes n ≡ Some bytes → 8 * length bytes ≤ bit → marked_refusal v (events.Flip n bit) ≡ Some why.Bit
  marked_refuses_bit w v n bit way bytes st e f past =
      let x : FoundMarked (grammar_of v.profile) w.keys v.parcels n way bytes = found_marked (grammar_of v.profile) w.keys w.packets v.parcels n way bytes st.packets e f in
      let beyond : 8 * length (bytes_of (grammar_of v.profile) x.parcel) ≤ bit = subst (λ b. 8 * length b ≤ bit) x.spells past in
      let has : nat_le (8 * length (bytes_of (grammar_of v.profile) x.parcel)) bit ≡ true = grind (arith, nat_tests) in
      ap (λ o. refusal_of_marked_flip (grammar_of v.profile) o bit) x.is ∙ ap (λ b. cond b (Some why.Bit) None) has
