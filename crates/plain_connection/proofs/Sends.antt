-- What a turn sends to the client, part after part; and that these parts are the model's.
use Rattle.std.proofs.Common.{◌≡◌, ◌∙◌, ℕ, Bool, true, false, not, ◌&&◌, ◌||◌, max, min, refl, sym, ap, ap₂, subst, List, [], ◌∷◌, ◌++◌, map, if◌then◌else◌}
use Rattle.std.specs.Bool.{MatchBool}
use Rattle.std.proofs.lemmas.Bool.{false≢true}
use Rattle.std.proofs.lemmas.List.{map-append}
use Rattle.ft_io.specs.declared.Addr.{Addr}
use Rattle.seq_arith.specs.Packet.{Segment}
use Rattle.server_trait.specs.Service.{Machine}
use Rattle.ft_model.specs.Network.Packet.{To_client}
use Rattle.ft_model.specs.Wire.{Wire}
use Rattle.ft_model.specs.News.{News}
use Rattle.ft_model.specs.Point.{Point, target}
use Rattle.ft_model.specs.Sending.{sent_at_once, send_edge, resends}
use Rattle.ft_model.specs.Timer.{expires}
use Rattle.ft_model.specs.PendingAck.{is_ack_pending, is_ack_due, is_delayed}
use Rattle.ft_model.specs.Segments.{syn_ack, syn_acks, is_unacknowledged, first_unacknowledged, probe, resent, new_texts, new_fin, full_segments, or_bare, bare_segment, segments_of}
use Rattle.plain_packets.specs.Sent.{Appends}
use Rattle.plain_packets.proofs.Sent.{appends_none, appends_both}
use Rattle.plain_connection.specs.declared.before.Before.{Before}
use Rattle.plain_connection.specs.Before.{IsBefore}
use Rattle.plain_connection.specs.Since.{having_sent, syn_acks_since, resent_since, full_segments_since, is_delayed_since, is_ack_due_since, is_ack_pending_since, segments_since, has_some, Sends}

pub at_once_since : {S : Type 0} (service : Machine S) (news : News) (p after : Point) (before : Before) → IsBefore service news p before
    → sent_at_once service (having_sent before.sent after) after ≡ sent_at_once service p after
unfolding sent_at_once
at_once_since service news p after before is = ap (λ n. max n (min (target service after) (send_edge after))) is.sent

syn_acks_are : {S : Type 0} (service : Machine S) (server : Addr) (news : News) (p after : Point) (before : Before) → IsBefore service news p before
    → syn_acks_since server before after ≡ syn_acks server news p after
syn_acks_are service server news p after before is = ap (λ b. let segments : List Segment = if b then syn_ack server after ∷ [] else [] in segments) is.opens

resent_are : {S : Type 0} (service : Machine S) (server : Addr) (news : News) (p after : Point) (before : Before) → IsBefore service news p before
    → resent_since service server before after ≡ resent service server news p after
unfolding resent
resent_are service server news p after before is =
    let since : Bool → ℕ → List Segment =
    λ b n. if b then (if is_unacknowledged (having_sent n after) after then first_unacknowledged service server (having_sent n after) after
    else probe service server (having_sent n after) after) else [] in
    ap (λ b. since b before.sent) is.resends ∙ ap (since (expires news p || resends news p)) is.sent

new_texts_are : {S : Type 0} (service : Machine S) (server : Addr) (news : News) (p after : Point) (before : Before) → IsBefore service news p before
    → new_texts service server (having_sent before.sent after) after ≡ new_texts service server p after
unfolding new_texts sent_at_once
new_texts_are service server news p after before is = ap (λ n. new_texts service server (having_sent n after) after) is.sent

new_fin_is : {S : Type 0} (service : Machine S) (server : Addr) (news : News) (p after : Point) (before : Before) → IsBefore service news p before
    → new_fin service server (having_sent before.sent after) after ≡ new_fin service server p after
unfolding new_fin sent_at_once
new_fin_is service server news p after before is = ap (λ n. new_fin service server (having_sent n after) after) is.sent

full_are : {S : Type 0} (service : Machine S) (server : Addr) (news : News) (p after : Point) (before : Before) → IsBefore service news p before
    → full_segments_since service server before after ≡ full_segments service server news p after
unfolding full_segments_since full_segments
full_are service server news p after before is =
    let first = syn_acks_are service server news p after before is in
    let second = resent_are service server news p after before is in
    let third = new_texts_are service server news p after before is in
    let fourth = new_fin_is service server news p after before is in
    cc

pending_is : {S : Type 0} (service : Machine S) (news : News) (p after : Point) (before : Before) → IsBefore service news p before
    → is_ack_pending_since before after ≡ is_ack_pending service news p after
unfolding is_ack_due is_delayed is_ack_pending
pending_is service news p after before is =
    let due : is_ack_due_since before after ≡ is_ack_due service news p after = cc in
    let waits : is_delayed_since before after ≡ is_delayed news p after = cc in
    ap₂ (λ d w. not w && d) due waits

-- the segments of a turn, from what it compares
pub segments_are : {S : Type 0} (service : Machine S) (server : Addr) (news : News) (p after : Point) (before : Before) → IsBefore service news p before
    → segments_since service server before after ≡ segments_of service server news p after
unfolding segments_since segments_of
segments_are service server news p after before is =
    ap (λ b. or_bare b (bare_segment server after) (full_segments_since service server before after)) (pending_is service news p after before is)
    ∙ ap (or_bare (is_ack_pending service news p after) (bare_segment server after)) (full_are service server news p after before is)

some_of_both : {A : Type 0} (xs ys : List A) → has_some (xs ++ ys) ≡ (has_some xs || has_some ys)
some_of_both [] ys = refl
some_of_both (x ∷ xs) ys = refl

pub none_sent : (wires : List Wire) → Sends false wires wires []
none_sent wires = record { any_is = refl; packets = appends_none wires }

pub sends_both : {old middle new : List Wire} {a b : Bool} {xs ys : List Segment} → Sends a old middle xs → Sends b middle new ys → Sends (a || b) old new (xs ++ ys)
sends_both {old} {middle} {new} {a} {b} {xs} {ys} s t = record {
  any_is = ap (λ x. x || b) s.any_is ∙ (ap (λ y. has_some xs || y) t.any_is ∙ sym (some_of_both xs ys));
  packets = subst (Appends old new) (sym (map-append To_client xs ys)) (appends_both s.packets t.packets);
}

-- a bare segment is sent only where there is no other
pub or_bare_sent : {old middle new : List Wire} (any pending : Bool) (bare : Segment) (xs : List Segment) → Sends any old middle xs
    → MatchBool (not any && pending) (Appends middle new (To_client bare ∷ [])) (new ≡ middle) → Appends old new (map To_client (or_bare pending bare xs))
or_bare_sent {old} {middle} {new} true pending bare (x ∷ xs) s same = subst (λ w. Appends old w (map To_client (x ∷ xs))) (sym same) s.packets
or_bare_sent true pending bare [] s same = absurd (false≢true (sym s.any_is))
or_bare_sent false pending bare (x ∷ xs) s sent = absurd (false≢true s.any_is)
or_bare_sent false true bare [] s sent = appends_both s.packets sent
or_bare_sent {old} {middle} {new} false false bare [] s same = subst (λ w. Appends old w []) (sym same) s.packets

in_order : (a b c d : Bool) → (a || (b || (c || d))) ≡ (((a || b) || c) || d)
in_order true b c d = refl
in_order false true c d = refl
in_order false false c d = refl

pub all_sent : {S : Type 0} {old one two three new : List Wire} {a b c d : Bool} (service : Machine S) (server : Addr) (before : Before) (p : Point)
    → Sends a old one (syn_acks_since server before p) → Sends b one two (resent_since service server before p)
    → Sends c two three (new_texts service server (having_sent before.sent p) p) → Sends d three new (new_fin service server (having_sent before.sent p) p)
    → Sends (((a || b) || c) || d) old new (full_segments_since service server before p)
unfolding full_segments_since
all_sent {S} {old} {one} {two} {three} {new} {a} {b} {c} {d} service server before p s t u v =
    subst (λ any. Sends any old new (full_segments_since service server before p)) (in_order a b c d) (sends_both s (sends_both t (sends_both u v)))

-- where others are sent, or no ACK is pending, there is no bare segment ..
pub no_bare_sent : {S : Type 0} {old new : List Wire} (any : Bool) (service : Machine S) (server : Addr) (news : News) (p after : Point) (before : Before)
    → Sends any old new (full_segments_since service server before after) → (not any && is_ack_pending_since before after) ≡ false → IsBefore service news p before
    → Appends old new (map To_client (segments_of service server news p after))
unfolding segments_since
no_bare_sent {S} {old} {new} any service server news p after before s none is =
    subst (λ segments. Appends old new (map To_client segments)) (segments_are service server news p after before is)
    (or_bare_sent any (is_ack_pending_since before after) (bare_segment server after) (full_segments_since service server before after) s
    (subst (λ b. MatchBool b (Appends new new (To_client (bare_segment server after) ∷ [])) (new ≡ new)) (sym none) refl))

-- .. and otherwise there is
pub bare_sent : {S : Type 0} {old middle new : List Wire} (any : Bool) (service : Machine S) (server : Addr) (news : News) (p after : Point) (before : Before)
    → Sends any old middle (full_segments_since service server before after) → (not any && is_ack_pending_since before after) ≡ true
    → Appends middle new (To_client (bare_segment server after) ∷ []) → IsBefore service news p before → Appends old new (map To_client (segments_of service server news p after))
unfolding segments_since
bare_sent {S} {old} {middle} {new} any service server news p after before s pending sent is =
    subst (λ segments. Appends old new (map To_client segments)) (segments_are service server news p after before is)
    (or_bare_sent any (is_ack_pending_since before after) (bare_segment server after) (full_segments_since service server before after) s
    (subst (λ b. MatchBool b (Appends middle new (To_client (bare_segment server after) ∷ [])) (new ≡ middle)) (sym pending) sent))
