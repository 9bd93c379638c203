-- What was sent and isn't lost: packets, and messages about forgetting.
use Rattle.std.proofs.Common.{◌≡◌, ℕ, zero, suc, Bool, true, false, refl, sym, ap, ap₂, ◌∙◌, subst, append_assoc, Some, List, [], ◌∷◌, ◌++◌, map, slice_get, if◌then◌else◌}
use Rattle.ft_io.specs.declared.Key.{Key}
use Rattle.ft_io.specs.Key.{key_eq}
use Rattle.ft_io.proofs.Choices.{holds_if}
use Rattle.ft_model.specs.Network.{Packet}
use Rattle.ft_model.proofs.Lists.{none_is_some, some_is}
use Rattle.long_laws.specs.Forgetting.{ForgetMessage, named_of}
use Rattle.long_laws.specs.LongTrace.{others, concerns}
use Rattle.lasting_laws.specs.LastingWorld.{Parcel, Sent, under_way, sent_at, lost_with}
use Rattle.lasting_laws.specs.LastingWorld.Parcel.{Usual, Forget_sent, Forgotten_sent}
use Rattle.lasting_laws.specs.LastingUnseen.{usual, still_under_way}
use Rattle.lasting_unseen.specs.Mirror.{note_of, notes_under_way}

-- the item with a number stands in a list
abbrev pub IsAmong : {A : Type 0} → A → List A → Type 0
IsAmong x xs = (i : ℕ) × (slice_get xs i ≡ Some x)

pub among_behind : {A : Type 0} (x : A) (front xs : List A) → IsAmong x xs → IsAmong x (front ++ xs)
among_behind x [] xs a = a
among_behind x (y ∷ front) xs a = let there = among_behind x front xs a in (suc there.0, there.1)

pub among_before : {A : Type 0} (x : A) (xs ys : List A) (i : ℕ) → slice_get xs i ≡ Some x → slice_get (xs ++ ys) i ≡ Some x
among_before x [] ys i e = none_is_some x e
among_before x (y ∷ xs) ys zero e = e
among_before x (y ∷ xs) ys (suc i) e = among_before x xs ys i e

-- Of each parcel what isn't lost
abbrev pub all_of_them : {A : Type 0} → (Sent → List A) → List Sent → List A
all_of_them of [] = []
all_of_them of (s ∷ others) = of s ++ all_of_them of others

abbrev pub packet_of : Sent → List Packet
packet_of s = if s.lost then [] else usual (s.parcel ∷ [])

abbrev pub message_of : Sent → List ForgetMessage
message_of s = if s.lost then [] else note_of s.parcel

packets_are : (sent : List Sent) → still_under_way sent ≡ all_of_them packet_of sent
packets_are [] = refl
packets_are (s ∷ sent) = ap (λ l. packet_of s ++ l) (packets_are sent)

messages_are : (sent : List Sent) → notes_under_way sent ≡ all_of_them message_of sent
messages_are [] = refl
messages_are (s ∷ sent) = ap (λ l. message_of s ++ l) (messages_are sent)

module _ {A : Type 0} (of : Sent → List A) where
  more : (sent later : List Sent) → all_of_them of (sent ++ later) ≡ all_of_them of sent ++ all_of_them of later
  more [] later = refl
  more (s ∷ sent) later = ap (λ l. of s ++ l) (more sent later) ∙ sym (append_assoc (of s) (all_of_them of sent) (all_of_them of later))

  there : (sent : List Sent) (n : ℕ) (s : Sent) (x : A) → slice_get sent n ≡ Some s → of s ≡ x ∷ [] → IsAmong x (all_of_them of sent)
  there [] n s x at e = none_is_some s at
  there (y ∷ sent) zero s x at e =
      let first : of y ≡ x ∷ [] = ap of (some_is y s at) ∙ e in
      (zero, ap (λ l. slice_get (l ++ all_of_them of sent) zero) first)
  there (y ∷ sent) (suc n) s x at e = among_behind x (of y) (all_of_them of sent) (there sent n s x at e)

  -- what concerns a key is lost
  module _ (key : Key) (passes : A → Bool) (each : (s : Sent) → of (lost_with key s) ≡ others passes (of s)) where
    others_more : (xs ys : List A) → others passes (xs ++ ys) ≡ others passes xs ++ others passes ys
    others_more [] ys = refl
    others_more (x ∷ xs) ys =
        holds_if (λ (l : List A). (if passes x then others passes (xs ++ ys) else x ∷ others passes (xs ++ ys)) ≡ l ++ others passes ys) (passes x) (others passes xs) (x ∷ others passes xs)
        (λ t. ap (λ b. if b then others passes (xs ++ ys) else x ∷ others passes (xs ++ ys)) t ∙ others_more xs ys)
        (λ t. ap (λ b. if b then others passes (xs ++ ys) else x ∷ others passes (xs ++ ys)) t ∙ ap (λ l. x ∷ l) (others_more xs ys))

    left : (sent : List Sent) → all_of_them of (map (lost_with key) sent) ≡ others passes (all_of_them of sent)
    left [] = refl
    left (s ∷ sent) = ap₂ (λ a b. a ++ b) (each s) (left sent) ∙ sym (others_more (of s) (all_of_them of sent))

-- sent now
sent_now : (parcels : List Parcel) → still_under_way (under_way parcels) ≡ usual parcels
sent_now [] = refl
sent_now (Usual packet ∷ parcels) = ap (λ l. packet ∷ l) (sent_now parcels)
sent_now (Forget_sent message ∷ parcels) = sent_now parcels
sent_now (Forgotten_sent message ∷ parcels) = sent_now parcels

abbrev pub notes_in : List Parcel → List ForgetMessage
notes_in [] = []
notes_in (p ∷ parcels) = note_of p ++ notes_in parcels

noted_now : (parcels : List Parcel) → notes_under_way (under_way parcels) ≡ notes_in parcels
noted_now [] = refl
noted_now (p ∷ parcels) = ap (λ l. note_of p ++ l) (noted_now parcels)

pub packets_more : (sent : List Sent) (parcels : List Parcel) → still_under_way (sent ++ under_way parcels) ≡ still_under_way sent ++ usual parcels
packets_more sent parcels =
    packets_are (sent ++ under_way parcels) ∙ (more packet_of sent (under_way parcels) ∙ ap₂ (λ a b. a ++ b) (sym (packets_are sent)) (sym (packets_are (under_way parcels)) ∙ sent_now parcels))

pub notes_more : (sent : List Sent) (parcels : List Parcel) → notes_under_way (sent ++ under_way parcels) ≡ notes_under_way sent ++ notes_in parcels
notes_more sent parcels =
    messages_are (sent ++ under_way parcels) ∙ (more message_of sent (under_way parcels) ∙ ap₂ (λ a b. a ++ b) (sym (messages_are sent)) (sym (messages_are (under_way parcels)) ∙ noted_now parcels))

-- a turn's packets and messages
no_packets : (messages : List ForgetMessage) → usual (map Forget_sent messages) ≡ []
no_packets [] = refl
no_packets (m ∷ messages) = no_packets messages

all_notes : (messages : List ForgetMessage) → notes_in (map Forget_sent messages) ≡ messages
all_notes [] = refl
all_notes (m ∷ messages) = ap (λ l. m ∷ l) (all_notes messages)

pub usual_sent : (packets : List Packet) (messages : List ForgetMessage) → usual (map Usual packets ++ map Forget_sent messages) ≡ packets
usual_sent [] messages = no_packets messages
usual_sent (p ∷ packets) messages = ap (λ l. p ∷ l) (usual_sent packets messages)

pub notes_sent : (packets : List Packet) (messages : List ForgetMessage) → notes_in (map Usual packets ++ map Forget_sent messages) ≡ messages
notes_sent [] messages = all_notes messages
notes_sent (p ∷ packets) messages = notes_sent packets messages

pub usual_alone : (packets : List Packet) → usual (map Usual packets) ≡ packets
usual_alone [] = refl
usual_alone (p ∷ packets) = ap (λ l. p ∷ l) (usual_alone packets)

pub no_notes : (packets : List Packet) → notes_in (map Usual packets) ≡ []
no_notes [] = refl
no_notes (p ∷ packets) = no_notes packets

-- where a parcel stands that isn't lost
at_number : (sent : List Sent) (number : ℕ) (s : Sent) → sent_at sent number ≡ Some s → (n : ℕ) × (slice_get sent n ≡ Some s)
at_number sent zero s e = none_is_some s e
at_number sent (suc n) s e = (n, e)

pub packet_there : (sent : List Sent) (number : ℕ) (p : Packet) → sent_at sent number ≡ Some (record { parcel = Usual p; lost = false }) → IsAmong p (still_under_way sent)
packet_there sent number p e =
    let at = at_number sent number (record { parcel = Usual p; lost = false }) e in
    subst (IsAmong p) (sym (packets_are sent)) (there packet_of sent at.0 (record { parcel = Usual p; lost = false }) p at.1 refl)

pub note_there : (sent : List Sent) (number : ℕ) (parcel : Parcel) (m : ForgetMessage) → sent_at sent number ≡ Some (record { parcel = parcel; lost = false }) → note_of parcel ≡ m ∷ []
    → IsAmong m (notes_under_way sent)
note_there sent number parcel m e is =
    let at = at_number sent number (record { parcel = parcel; lost = false }) e in
    subst (IsAmong m) (sym (messages_are sent)) (there message_of sent at.0 (record { parcel = parcel; lost = false }) m at.1 is)

-- what is lost with a key
abbrev pub is_note_about : Key → ForgetMessage → Bool
is_note_about key m = key_eq (named_of m.body).key key

nothing_either : {A : Type 0} (b : Bool) (l : List A) → l ≡ [] → (if b then [] else l) ≡ []
nothing_either true l e = refl
nothing_either false l e = e

packet_lost : (key : Key) (lost : Bool) (parcel : Parcel) → packet_of (lost_with key (record { parcel = parcel; lost = lost })) ≡ others (concerns key) (packet_of (record { parcel = parcel; lost = lost }))
packet_lost key true parcel = refl
packet_lost key false (Usual packet) = refl
packet_lost key false (Forget_sent m) = nothing_either (key_eq (named_of m.body).key key) [] refl
packet_lost key false (Forgotten_sent m) = nothing_either (key_eq (named_of m.body).key key) [] refl

message_lost : (key : Key) (lost : Bool) (parcel : Parcel) → message_of (lost_with key (record { parcel = parcel; lost = lost })) ≡ others (is_note_about key) (message_of (record { parcel = parcel; lost = lost }))
message_lost key true parcel = refl
message_lost key false (Usual packet) = nothing_either (concerns key packet) [] refl
message_lost key false (Forget_sent m) = refl
message_lost key false (Forgotten_sent m) = refl

pub packets_left : (key : Key) (sent : List Sent) → still_under_way (map (lost_with key) sent) ≡ others (concerns key) (still_under_way sent)
packets_left key sent =
    packets_are (map (lost_with key) sent) ∙ (left packet_of key (concerns key) (λ s. packet_lost key s.lost s.parcel) sent ∙ ap (others (concerns key)) (sym (packets_are sent)))

pub notes_left : (key : Key) (sent : List Sent) → notes_under_way (map (lost_with key) sent) ≡ others (is_note_about key) (notes_under_way sent)
notes_left key sent =
    messages_are (map (lost_with key) sent) ∙ (left message_of key (is_note_about key) (λ s. message_lost key s.lost s.parcel) sent ∙ ap (others (is_note_about key)) (sym (messages_are sent)))
