-- Each segment that a live connection sends is the SYN-ACK, a part of the output, the FIN after it, or bare.
use Rattle.std.proofs.Common.{◌≡◌, ℕ, zero, suc, ◌+◌, ◌-◌, Bool, true, false, not, ◌≤◌, nat_lt, min, max, arith, ◌==◌, ◌||◌, refl, sym, subst, List, [], ◌∷◌, if◌then◌else◌}
use Rattle.std.specs.List.{AllByRecursion}
use Rattle.ft_io.specs.declared.Addr.{Addr}
use Rattle.seq_arith.specs.Number.{number_at}
use Rattle.seq_arith.specs.Packet.{Segment, has_rst, has_ack}
use Rattle.server_trait.specs.Service.{Machine}
use Rattle.ft_model.specs.Network.{destination_of}
use Rattle.ft_model.specs.News.{News}
use Rattle.ft_model.specs.Point.{Point, acknowledgement, answered_run, released}
use Rattle.ft_model.specs.PendingAck.{is_ack_pending}
use Rattle.ft_model.specs.Segments.{new_length, texts, syn_acks, syn_ack, opens_with, fin_if_closed, first_unacknowledged, probe, probed_length, is_unacknowledged, resent, resent_length, new_texts, sends_fin, new_fin, full_segments, or_bare, bare_segment, segments_of, segment_at, text_at, fin_segment}
use Rattle.ft_model.specs.Sending.{resends}
use Rattle.ft_model.specs.Timer.{expires}
use Rattle.ft_model.proofs.Lists.{all_append}
use Rattle.ft_io.proofs.Choices.{holds_if}

pub data Spoken {State : Type 0} (service : Machine State) (server : Addr) (news : News) (before after : Point) (segment : Segment) : Type 0 where
  spoken_syn : segment ≡ syn_ack server after → Spoken service server news before after segment
  spoken_text : (offset n : ℕ) → n ≤ max 1 after.mss → segment ≡ text_at service server after offset n → Spoken service server news before after segment
  spoken_fin : (answered_run service after).closed ≡ true → segment ≡ fin_segment service server after → Spoken service server news before after segment
  spoken_bare : (offset : ℕ) → segment ≡ segment_at server after offset 16 [] → Spoken service server news before after segment

one_spoken : {A : Type 0} (P : A → Type 0) (b : Bool) (x : A) → (b ≡ true → P x) → AllByRecursion P (if b then x ∷ [] else [])
one_spoken P true x h = (h refl, tt)
one_spoken P false x h = tt

texts_spoken : {State : Type 0} (service : Machine State) (server : Addr) (news : News) (before p : Point) (k offset left : ℕ)
    → AllByRecursion (Spoken service server news before p) (texts service server p k offset left)
texts_spoken service server news before p zero offset left = tt
texts_spoken service server news before p (suc k) offset left =
    holds_if (AllByRecursion (Spoken service server news before p)) (nat_lt 0 left)
    (text_at service server p offset (min left p.mss) ∷ texts service server p k (offset + min left p.mss) (left - min left p.mss)) []
    (λ t. (spoken_text offset (min left p.mss) (omega arith) refl, texts_spoken service server news before p k (offset + min left p.mss) (left - min left p.mss))) (λ t. tt)

fin_spoken : {State : Type 0} (service : Machine State) (server : Addr) (news : News) (before after : Point)
    → AllByRecursion (Spoken service server news before after) (fin_if_closed service server after)
fin_spoken service server news before after =
    one_spoken (Spoken service server news before after) (answered_run service after).closed (fin_segment service server after) (λ t. spoken_fin t refl)

first_spoken : {State : Type 0} (service : Machine State) (server : Addr) (news : News) (before after : Point)
    → AllByRecursion (Spoken service server news before after) (first_unacknowledged service server before after)
first_spoken service server news before after =
    let All : List Segment → Type 0 = AllByRecursion (Spoken service server news before after) in
    holds_if All (not after.syn_acked) (syn_ack server after ∷ []) _ (λ t. (spoken_syn refl, tt))
    (λ t. holds_if All (after.una == released service after) (fin_if_closed service server after) _ (λ s. fin_spoken service server news before after)
    (λ s. (spoken_text after.una (resent_length service before after) (omega arith) refl, tt)))

probe_spoken : {State : Type 0} (service : Machine State) (server : Addr) (news : News) (before after : Point)
    → AllByRecursion (Spoken service server news before after) (probe service server before after)
probe_spoken service server news before after =
    holds_if (AllByRecursion (Spoken service server news before after)) (nat_lt before.sent (released service after)) _ (fin_if_closed service server after)
    (λ t. (spoken_text before.sent probed_length (omega arith) refl, tt)) (λ t. fin_spoken service server news before after)

resent_spoken : {State : Type 0} (service : Machine State) (server : Addr) (news : News) (before after : Point)
    → AllByRecursion (Spoken service server news before after) (resent service server news before after)
unfolding resent
resent_spoken service server news before after =
    let All : List Segment → Type 0 = AllByRecursion (Spoken service server news before after) in
    holds_if All (expires news before || resends news before) _ []
    (λ e. holds_if All (is_unacknowledged before after) _ (probe service server before after) (λ t. first_spoken service server news before after)
    (λ t. probe_spoken service server news before after))
    (λ e. tt)

pub or_bare_spoken : (P : Segment → Type 0) (ack_pending : Bool) (bare : Segment) (segments : List Segment) → P bare → AllByRecursion P segments
    → AllByRecursion P (or_bare ack_pending bare segments)
or_bare_spoken P ack_pending bare [] b all = one_spoken P ack_pending bare (λ t. b)
or_bare_spoken P ack_pending bare (segment ∷ segments) b all = all

pub segments_spoken : {State : Type 0} (service : Machine State) (server : Addr) (news : News) (before after : Point)
    → AllByRecursion (Spoken service server news before after) (segments_of service server news before after)
unfolding segments_of full_segments new_texts new_fin
segments_spoken service server news before after =
    let P : Segment → Type 0 = Spoken service server news before after in
    or_bare_spoken P (is_ack_pending service news before after) (bare_segment server after) (full_segments service server news before after) (spoken_bare after.sent refl)
    (all_append P (syn_acks server news before after) _ (one_spoken P (opens_with news before) (syn_ack server after) (λ t. spoken_syn refl))
    (all_append P (resent service server news before after) _ (resent_spoken service server news before after)
    (all_append P (new_texts service server before after) (new_fin service server before after)
    (texts_spoken service server news before after (new_length service before after) before.sent (new_length service before after))
    (holds_if (AllByRecursion P) (sends_fin service before after) (fin_if_closed service server after) [] (λ t. fin_spoken service server news before after) (λ t. tt)))))

-- whom it is for, and what it acknowledges
pub record IsHeaded (p : Point) (segment : Segment) : Type 0 where
  pub destination : destination_of segment ≡ p.key
  pub ack : segment.head.ack ≡ number_at p.cisn (acknowledgement p)
  pub has_ack_flag : has_ack segment ≡ true
  pub no_rst : has_rst segment ≡ false

pub headed : {State : Type 0} (service : Machine State) (server : Addr) (news : News) (before after : Point) (segment : Segment)
    → Spoken service server news before after segment → IsHeaded after segment
headed service server news before after segment (spoken_syn e) = subst (IsHeaded after) (sym e) (record { destination = refl; ack = refl; has_ack_flag = refl; no_rst = refl })
headed service server news before after segment (spoken_text offset n short e) = subst (IsHeaded after) (sym e) (record { destination = refl; ack = refl; has_ack_flag = refl; no_rst = refl })
headed service server news before after segment (spoken_fin f e) = subst (IsHeaded after) (sym e) (record { destination = refl; ack = refl; has_ack_flag = refl; no_rst = refl })
headed service server news before after segment (spoken_bare offset e) = subst (IsHeaded after) (sym e) (record { destination = refl; ack = refl; has_ack_flag = refl; no_rst = refl })
