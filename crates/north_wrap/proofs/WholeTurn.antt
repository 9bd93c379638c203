-- A turn of the north wrapper is lawful.
use Rattle.std.proofs.Common.{◌≡◌, ℕ, ◌+◌, ◌≤◌, ◌==◌, ◌&&◌, ◌||◌, Bool, true, false, not, nat_lt, refl, sym, ap, ◌∙◌, subst, List, [], ◌∷◌, length, arith, if◌then◌else◌}
use Rattle.server_trait.specs.Service.{Machine, Served}
use Rattle.ft_model.specs.Point.{Point, made, released, answered_run}
use Rattle.north_wrap.specs.declared.read_record.ReadRecord.{ReadRecord}
use Rattle.north_wrap.specs.Sockets.{Reader, Writer, SocketLaws}
use Rattle.north_wrap.specs.NorthState.{NorthState, Reads, Turns, closes, given_north, given_socket, shut_north, shut_socket, lengths_of, read_on, socket_on}
use Rattle.north_wrap.specs.Refinement.{NorthStands, SocketStands, QueueStands, NorthTurn, given_more, given_text, written, off_socket, read_off, AreThere}
use Rattle.north_wrap.proofs.Giving.{shut_gives, closes_is, given_stands, written_is}
use Rattle.north_wrap.proofs.Offline.{socket_is, all_or_room}
use Rattle.north_wrap.proofs.Shutting.{shut_is, all_given_stays, reads_keep_shut}
use Rattle.north_wrap.proofs.TurnReads.{reads_lead}
use Rattle.ft_io.proofs.Choices.{holds_if}

-- writing and closing leave the queue ..
queue_stands : {S K : Type 0} (r : Reader K) (w : Writer K) (p : Point) (n : NorthState S) (s : K) → SocketLaws r w → QueueStands p (r.unread s) (r.has_end s)
    → QueueStands p (r.unread (shut_socket w (given_north w n s) (given_socket w n s))) (r.has_end (shut_socket w (given_north w n s) (given_socket w n s)))
queue_stands r w p n s laws so =
    let wrote : QueueStands p (r.unread (given_socket w n s)) (r.has_end (given_socket w n s)) = record { waits = laws.write_unread s _ ∙ so.waits; fin = laws.write_end s _ ∙ so.fin } in
    holds_if (λ t. QueueStands p (r.unread t) (r.has_end t)) (closes (given_north w n s)) (w.after_close (given_socket w n s)) (given_socket w n s)
    (λ t. record { waits = laws.close_unread (given_socket w n s) ∙ wrote.waits; fin = laws.close_end (given_socket w n s) ∙ wrote.fin }) (λ t. wrote)

-- .. and it is closed where the wrapper closed it ..
closed_with : {K : Type 0} (r : Reader K) (w : Writer K) (s : K) (shut b : Bool) → SocketLaws r w → w.is_closed s ≡ shut → w.is_closed (if b then w.after_close s else s) ≡ (shut || b)
closed_with r w s true true laws e = laws.close_closed s
closed_with r w s false true laws e = laws.close_closed s
closed_with r w s true false laws e = e
closed_with r w s false false laws e = e

-- .. which reads leave
reads_keep_closed : {S K : Type 0} (after : S → List ℕ → Served S) (r : Reader K) (w : Writer K) (una : ℕ) (n : NorthState S) (s : K) (ks : List ℕ) (m : NorthState S) (t : K)
    → SocketLaws r w → Reads after r una n s ks m t → w.is_closed t ≡ w.is_closed s
unfolding socket_on
reads_keep_closed after r w una n s [] m t laws reads = ap w.is_closed reads.2
reads_keep_closed after r w una n s (k ∷ ks) m t laws reads =
    reads_keep_closed after r w una (read_on after (r.unread s) k n) (socket_on r k n s) ks m t laws reads.1
    ∙ holds_if (λ x. w.is_closed x ≡ w.is_closed s) (nat_lt 0 (length n.rest) || k == 0) s (r.after_read s k) (λ b. refl) (λ b. laws.read_open s k)

grouped : (a b c : Bool) → (a && b && c) ≡ (a && (b && c))
grouped true b c = refl
grouped false b c = refl

pub whole_turn : {S K : Type 0} (service : Machine S) (r : Reader K) (w : Writer K) (p : Point) (given una : ℕ) (old : NorthState S) (s : K) (news : List ReadRecord) (new : NorthState S) (t : K)
    → SocketLaws r w → NorthStands service p given old → SocketStands p old (r.unread s) (r.has_end s) (w.is_closed s) → p.una ≡ una → given ≤ released service p
    → Turns service.after r w una old s news new t → NorthTurn service r w p given old s news new t
whole_turn {S} {K} service r w p given una old s news new t laws st so same may turn =
    let north : NorthState S = shut_north (given_north w old s) in
    let sock : K = shut_socket w (given_north w old s) (given_socket w old s) in
    let total : ℕ = given + given_more service p (w.room s) given in
    let wrote : sock ≡ written w s (given_text service p (w.room s) given) (closes (given_north w old s)) = written_is service w p given old s st may in
    let few : p.reads_answered ≤ length p.lengths = omega (arith, st.unanswered) in
    let off = socket_is service.after r una north sock (lengths_of news) new t turn.reads in
    let kept = reads_keep_shut service.after r una north sock (lengths_of news) new t turn.reads in
    let leads = reads_lead service r w p total north sock (lengths_of news) new t laws (shut_gives service w p given old s st may) (queue_stands r w p old s laws so.queue)
    (subst (λ u. Reads service.after r u north sock (lengths_of news) new t) (sym same) turn.reads) in
    record {
      closes = closes (given_north w old s);
      closes_rightly = closes_is service p total (given_north w old s) (given_stands service w p given old s st may) ∙ grouped (not old.shut) (answered_run service p).closed (made service p == total);
      socket = off.0 ∙ ap (λ x. read_off r.after_read x (off_socket (length old.rest) (lengths_of news))) wrote;
      there = subst (λ x. AreThere r x (off_socket (length old.rest) (lengths_of news))) wrote off.1;
      given_all = all_or_room service p (w.room s) given may;
      reported = turn.reported;
      makes = leads.makes;
      stands = leads.stands;
      tcp = record {
        queue = leads.queue;
        shut = reads_keep_closed service.after r w una north sock (lengths_of news) new t laws turn.reads
            ∙ closed_with r w (given_socket w old s) old.shut (closes (given_north w old s)) laws (laws.write_open s _ ∙ so.shut) ∙ sym kept;
      };
      shut = kept ∙ shut_is service w p given old s st may ∙ sym (all_given_stays service p total (lengths_of news) few);
    }
