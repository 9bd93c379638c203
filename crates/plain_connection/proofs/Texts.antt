-- Output that is sent segment after segment.
use Rattle.std.proofs.Common.{◌≡◌, ◌∙◌, ℕ, zero, suc, ◌+◌, ◌-◌, ◌<◌, nat_lt, min, refl, sym, ap, subst, arith, List, [], ◌∷◌, ◌++◌, map, append-nil, append_assoc, if◌then◌else◌}
use Rattle.std.proofs.lemmas.Bool.{lt-ltb}
use Rattle.std.proofs.lemmas.List.{map-append}
use Rattle.ft_io.specs.declared.Addr.{Addr}
use Rattle.seq_arith.specs.Packet.{Segment}
use Rattle.server_trait.specs.Service.{Machine}
use Rattle.ft_model.specs.Network.Packet.{To_client}
use Rattle.ft_model.specs.Wire.{Wire}
use Rattle.ft_model.specs.Point.{Point}
use Rattle.ft_model.specs.Segments.{text_at, texts, new_texts, new_length}
use Rattle.plain_packets.specs.Sent.{Appends}
use Rattle.plain_packets.proofs.Sent.{appends_none, appends_both}
use Rattle.plain_connection.specs.Since.{has_some, Sends}

texts_end : {S : Type 0} (service : Machine S) (server : Addr) (p : Point) (k offset : ℕ) → texts service server p k offset 0 ≡ []
texts_end service server p zero offset = refl
texts_end service server p (suc k) offset = refl

texts_more : {S : Type 0} (service : Machine S) (server : Addr) (p : Point) (k offset left : ℕ) → 0 < left
    → texts service server p (suc k) offset left ≡ text_at service server p offset (min left p.mss) ∷ texts service server p k (offset + min left p.mss) (left - min left p.mss)
texts_more service server p k offset left some =
    ap (λ b. let segments : List Segment =
    if b then text_at service server p offset (min left p.mss) ∷ texts service server p k (offset + min left p.mss) (left - min left p.mss) else [] in segments)
    (lt-ltb 0 left some)

some_text : {S : Type 0} (service : Machine S) (server : Addr) (p : Point) (len from : ℕ) → has_some (texts service server p len from len) ≡ nat_lt 0 len
some_text service server p zero from = refl
some_text service server p (suc k) from =
    let some : 0 < suc k = omega arith in
    ap has_some (texts_more service server p k from (suc k) some) ∙ sym (lt-ltb 0 (suc k) some)

-- of `len` bytes from `from` on so many are still to be sent, in at most so many segments
pub record SentSoFar {S : Type 0} (service : Machine S) (server : Addr) (p : Point) (from len : ℕ) (old now : List Wire) (most offset left : ℕ) : Type 0 where
  pub done : List Segment
  pub whole : texts service server p len from len ≡ done ++ texts service server p most offset left
  pub packets : Appends old now (map To_client done)
  pub room : offset + left ≡ from + len

pub none_so_far : {S : Type 0} (service : Machine S) (server : Addr) (p : Point) (from len : ℕ) (wires : List Wire) → SentSoFar service server p from len wires wires len from len
none_so_far service server p from len wires = record { done = []; whole = refl; packets = appends_none wires; room = refl }

pub one_more_text : {S : Type 0} (service : Machine S) (server : Addr) (p : Point) (from len : ℕ) (old now new : List Wire) (most k offset left n : ℕ)
    → SentSoFar service server p from len old now most offset left → most ≡ suc k → 0 < left → n ≡ min left p.mss
    → Appends now new (To_client (text_at service server p offset n) ∷ [])
    → SentSoFar service server p from len old new k (offset + n) (left - n)
one_more_text service server p from len old now new most k offset left n so more some is sent =
    let this : Segment = text_at service server p offset n in
    let rest : List Segment = texts service server p k (offset + n) (left - n) in
    let one : texts service server p most offset left ≡ this ∷ rest =
    ap (λ m. texts service server p m offset left) more ∙ (texts_more service server p k offset left some
    ∙ ap (λ n. text_at service server p offset n ∷ texts service server p k (offset + n) (left - n)) (sym is)) in
    record {
      done = so.done ++ this ∷ [];
      whole = so.whole ∙ (ap (λ t. so.done ++ t) one ∙ sym (append_assoc so.done (this ∷ []) rest));
      packets = subst (Appends old new) (sym (map-append To_client so.done (this ∷ []))) (appends_both so.packets sent);
      room = omega (arith, so.room, is);
    }

pub all_texts : {S : Type 0} (service : Machine S) (server : Addr) (p : Point) (from len : ℕ) (old now : List Wire) (most offset left : ℕ)
    → SentSoFar service server p from len old now most offset left → texts service server p most offset left ≡ []
    → Appends old now (map To_client (texts service server p len from len))
all_texts service server p from len old now most offset left so none =
    subst (λ segments. Appends old now (map To_client segments)) (sym (so.whole ∙ (ap (λ more. so.done ++ more) none ∙ append-nil so.done))) so.packets

pub no_text_left : {S : Type 0} (service : Machine S) (server : Addr) (p : Point) (k offset left : ℕ) → left ≡ 0 → texts service server p k offset left ≡ []
no_text_left service server p k offset left none = ap (texts service server p k offset) none ∙ texts_end service server p k offset

pub no_step_left : {S : Type 0} (service : Machine S) (server : Addr) (p : Point) (k offset left : ℕ) → k ≡ 0 → texts service server p k offset left ≡ []
no_step_left service server p k offset left none = ap (λ k. texts service server p k offset left) none

-- what is sent for the first time
pub new_texts_sent : {S : Type 0} (service : Machine S) (server : Addr) (before p : Point) (old new : List Wire) (len : ℕ) → len ≡ new_length service before p
    → Appends old new (map To_client (texts service server p len before.sent len)) → Sends (nat_lt 0 len) old new (new_texts service server before p)
unfolding new_texts
new_texts_sent service server before p old new len is sent =
    subst (λ n. Sends (nat_lt 0 len) old new (texts service server p n before.sent n)) is (record { any_is = sym (some_text service server p len before.sent); packets = sent })
