-- A connection is over where the log has no entry with its numbers and none is asked for: so it stays, until an opening takes these numbers again.
use Rattle.std.proofs.Common.{◌≡◌, ⊎_elim, Bool, true, false, ◌==◌, ◌&&◌, ◌||◌, nat_le, refl, sym, ap, ◌∙◌, subst, true≢false, find, Some, None, List, [], ◌∷◌, ◌++◌, map, length, if◌then◌else◌}
use Rattle.std.proofs.lemmas.List.Folds.{list_any-append}
use Rattle.std.proofs.lemmas.Bool.{or_parts, or_from}
use Rattle.std.specs.List.{AllByRecursion, list_any}
use Rattle.ft_io.specs.declared.Key.{Key}
use Rattle.ft_io.specs.Key.{key_eq}
use Rattle.server_trait.specs.Service.{Machine}
use Rattle.seq_arith.specs.Packet.{Segment}
use Rattle.seq_arith.specs.Message.{Numbers, Body, Message}
use Rattle.seq_arith.specs.Message.Body.{OpenMsg, DataMsg, ReadMsg, DoneMsg}
use Rattle.ft_model.specs.Growth.{EntryGrows}
use Rattle.ft_model.specs.Log.{Log, Entry, entry_of, log_after, with_body, opened, new_entry, with_part, with_read}
use Rattle.ft_model.specs.Masked.{is_restarting}
use Rattle.ft_model.specs.Network.{Packet}
use Rattle.ft_model.specs.Network.Packet.{To_server, To_client, To_logger, From_logger}
use Rattle.ft_model.specs.Node.{Node, Place, Stage, Input, key_of}
use Rattle.ft_model.specs.Node.Place.{Opens, Lives, Ended}
use Rattle.ft_model.specs.Node.Stage.{Asking, Fetching, Serving, Fenced}
use Rattle.ft_model.specs.World.{World}
use Rattle.ft_model.proofs.Fenced.{was_restarting}
use Rattle.ft_model.proofs.Grows.{part_grows, read_grows, done_grows}
use Rattle.ft_model.proofs.KnownKeys.{IsPlain, asks_to_open, connection_plain}
use Rattle.ft_model.proofs.Lists.{all_weaker, all_map, all_of, key_is, none_is_some}
use Rattle.ft_model.proofs.LogAnswers.{LogWent, log_went}
use Rattle.ft_model.proofs.LogAnswers.LogWent.{ignored, raised, changed}
use Rattle.ft_model.proofs.PlaceTurns.{PlaceWent, serving_proceeds}
use Rattle.ft_model.proofs.PlaceTurns.PlaceWent.{stayed, went_on, began, dropped, ended, refused}
use Rattle.ft_model.proofs.Fenced.{refusals_so}
use Rattle.ft_model.proofs.StageTurns.{StageWent}
use Rattle.ft_model.proofs.StageTurns.StageWent.{was_fenced, waited, held_off, asked_on, resumed, served}
use Rattle.ft_io.proofs.Choices.{holds_if}
use Rattle.long_laws.specs.Forgetting.{Named, is_entry_of, IsGone}
use Rattle.long_laws.specs.LongTrace.{others, places_at, is_about, IsEnded}
use Rattle.long_laws.specs.QuarantineWorld.{has_numbers, NotOpening, new_places}
use Rattle.long_laws.proofs.QuarantineEvents.{SaysNothing}
use Rattle.long_laws.proofs.QuarantineTurns.{Unasked, IsDoneAt}

-- no Open with these numbers
abbrev pub opens : Named → Body → Bool
opens n (OpenMsg numbers) = has_numbers n numbers
opens n _ = false

abbrev pub Unopened : Named → Packet → Type 0
Unopened n (To_logger message) = opens n message.body ≡ false
Unopened n (To_server segment) = Unit {0}
Unopened n (To_client segment) = Unit {0}
Unopened n (From_logger message) = Unit {0}

abbrev pub IsOver : World → Node → Named → Type 0
IsOver w node n =
    IsGone n w.log × AllByRecursion (Unopened n) w.packets × AllByRecursion (NotOpening n) (places_at node.stage) × (is_restarting node.stage ≡ false)

-- The log

grown_it : (n : Named) (e f : Entry) → EntryGrows e f → is_entry_of n f ≡ is_entry_of n e
grown_it n e f g = rw (g.key, g.cisn, g.sisn) refl

changed_gone : (n : Named) (key : Key) (change : Entry → Entry) (es : List Entry) → ((e : Entry) → EntryGrows e (change e))
    → list_any (is_entry_of n) (map (λ e. if key_eq e.key key then change e else e) es) ≡ list_any (is_entry_of n) es
changed_gone n key change [] g = refl
changed_gone n key change (e ∷ es) g =
    ap (λ b. b || list_any (is_entry_of n) (map (λ x. if key_eq x.key key then change x else x) es))
    (holds_if (λ x. is_entry_of n x ≡ is_entry_of n e) (key_eq e.key key) (change e) e (λ t. grown_it n e (change e) (g e)) (λ t. refl))
    ∙ ap (λ b. is_entry_of n e || b) (changed_gone n key change es g)

opened_gone : (n : Named) (numbers : Numbers) (log : Log) → has_numbers n numbers ≡ false → IsGone n log → IsGone n (opened numbers log)
opened_gone n numbers log other gone =
    holds_if (IsGone n) (list_any (λ e. key_eq e.key numbers.key) log.entries || nat_le 64 (length log.entries)) log (record log { entries = log.entries ++ new_entry numbers ∷ [] }) (λ t. gone)
    (λ t. list_any-append (is_entry_of n) log.entries (new_entry numbers ∷ []) ∙ or_from (list_any (is_entry_of n) log.entries) (list_any (is_entry_of n) (new_entry numbers ∷ [])) gone
    (or_from (is_entry_of n (new_entry numbers)) false other refl))

body_gone : (n : Named) (body : Body) (log : Log) → opens n body ≡ false → IsGone n log → IsGone n (with_body body log)
body_gone n (OpenMsg numbers) log other gone = opened_gone n numbers log other gone
body_gone n (DataMsg part) log other gone = changed_gone n part.key (with_part part) log.entries (part_grows part) ∙ gone
body_gone n (ReadMsg key index k) log other gone = changed_gone n key (with_read index k) log.entries (read_grows index k) ∙ gone
body_gone n (DoneMsg key) log other gone = changed_gone n key (λ e. record e { done = true }) log.entries done_grows ∙ gone
body_gone n _ log other gone = gone

went_gone : (n : Named) (log : Log) (message : Message) (after : Log) → opens n message.body ≡ false → LogWent log message after → IsGone n log → IsGone n after
went_gone n log message after other (ignored e) gone = subst (IsGone n) (sym e) gone
went_gone n log message after other (raised h b e) gone = subst (IsGone n) (sym e) gone
went_gone n log message after other (changed b e) gone = subst (IsGone n) (sym e) (body_gone n message.body log other gone)

pub gone_still : (n : Named) (log : Log) (message : Message) → opens n message.body ≡ false → IsGone n log → IsGone n (log_after log message)
gone_still n log message other gone = went_gone n log message (log_after log message) other (log_went log message) gone

pub gone_others : (n : Named) (passes : Entry → Bool) (es : List Entry) → list_any (is_entry_of n) es ≡ false → list_any (is_entry_of n) (others passes es) ≡ false
gone_others n passes [] gone = refl
gone_others n passes (e ∷ es) gone =
    let parts = or_parts (is_entry_of n e) (list_any (is_entry_of n) es) gone in
    holds_if (λ l. list_any (is_entry_of n) l ≡ false) (passes e) (others passes es) (e ∷ others passes es) (λ t. gone_others n passes es parts.1)
    (λ t. or_from (is_entry_of n e) (list_any (is_entry_of n) (others passes es)) parts.0 (gone_others n passes es parts.1))

none_gone : (n : Named) (es : List Entry) → find (λ e. key_eq e.key n.key) es ≡ None → list_any (is_entry_of n) es ≡ false
none_gone n [] e = refl
none_gone n (x ∷ es) e = on (key_eq x.key n.key) refl e (none_gone n es)
  where
    on : (b : Bool) → key_eq x.key n.key ≡ b → (if b then Some x else find (λ y. key_eq y.key n.key) es) ≡ None
        → (find (λ y. key_eq y.key n.key) es ≡ None → list_any (is_entry_of n) es ≡ false) → list_any (is_entry_of n) (x ∷ es) ≡ false
    on true k h rest = none_is_some x (sym h)
    on false k h rest = or_from (is_entry_of n x) (list_any (is_entry_of n) es) (ap (λ b. b && (x.cisn == n.cisn && x.sisn == n.sisn)) k) (rest h)

-- Packets

other_numbers : (n : Named) (numbers : Numbers) → key_eq numbers.key n.key ≡ false → has_numbers n numbers ≡ false
other_numbers n numbers other = ap (λ b. b && (numbers.cisn == n.cisn && numbers.sisn == n.sisn)) other

unasked_body : (n : Named) (body : Body) → is_about n.key body ≡ false → opens n body ≡ false
unasked_body n (OpenMsg numbers) u = other_numbers n numbers u
unasked_body n _ u = refl

pub unasked_unopened : (n : Named) (packet : Packet) → Unasked n.key packet → Unopened n packet
unasked_unopened n (To_logger message) u = unasked_body n message.body u
unasked_unopened n (To_server segment) u = tt
unasked_unopened n (To_client segment) u = tt
unasked_unopened n (From_logger message) u = tt

plain_body : (n : Named) (body : Body) → asks_to_open body ≡ false → opens n body ≡ false
plain_body n (OpenMsg numbers) e = absurd (true≢false e)
plain_body n _ e = refl

plain_unopened : (n : Named) (log : Log) (packet : Packet) → IsPlain log packet → Unopened n packet
plain_unopened n log (To_logger message) p = plain_body n message.body p.1
plain_unopened n log (To_server segment) p = tt
plain_unopened n log (To_client segment) p = tt
plain_unopened n log (From_logger message) p = tt

-- The places

clear_place : (n : Named) (place : Place) → (key_eq (key_of place) n.key ≡ true → IsEnded place) → NotOpening n place
clear_place n (Opens numbers timestamping) c = other_numbers n numbers (never (key_eq numbers.key n.key) c)
  where
    never : (b : Bool) → (b ≡ true → ⊥) → b ≡ false
    never true f = absurd (f refl)
    never false f = refl
clear_place n (Lives p) c = tt
clear_place n (Ended key) c = tt

done_opens_none : (n : Named) (stage : Stage) → IsDoneAt n.key stage → AllByRecursion (NotOpening n) (places_at stage) × (is_restarting stage ≡ false)
done_opens_none n (Serving opened places) d = (all_weaker (λ place. key_eq (key_of place) n.key ≡ true → IsEnded place) (NotOpening n) places (clear_place n) d.0, refl)
done_opens_none n (Fenced newer) d = (tt, refl)
done_opens_none n Asking d = absurd d
done_opens_none n (Fetching count fetched) d = absurd d

-- where nobody but the server has anything of its key, it is over
pub vacant_over : (w : World) (node : Node) (n : Named) → IsDoneAt n.key node.stage → entry_of n.key w.log ≡ None → AllByRecursion (Unasked n.key) w.packets → IsOver w node n
vacant_over w node n d none unasked =
    let p = done_opens_none n node.stage d in
    (none_gone n w.log.entries none, all_weaker (Unasked n.key) (Unopened n) w.packets (unasked_unopened n) unasked, p.0, p.1)

-- A turn

client_unopened : (n : Named) (segments : List Segment) → AllByRecursion (Unopened n) (map To_client segments)
client_unopened n segments = all_map (Unopened n) To_client segments (all_of (λ s. Unopened n (To_client s)) segments (λ s. tt))

place_over : {State : Type 0} (service : Machine State) (log : Log) (n : Named) (node : Node) (input : Input) (place : Place) (now : List Place) (sent : List Packet) → NotOpening n place
    → PlaceWent service node input place now sent → AllByRecursion (NotOpening n) now × AllByRecursion (Unopened n) sent
place_over service log n node input place now sent c (stayed e s) = (subst (AllByRecursion (NotOpening n)) (sym e) (c, tt), subst (AllByRecursion (Unopened n)) (sym s) tt)
place_over service log n node input place now sent c (went_on news p q e i x t) = (
  subst (AllByRecursion (NotOpening n)) (sym x) (tt, tt),
  all_weaker (IsPlain log) (Unopened n) sent (plain_unopened n log) (connection_plain service log node.server node.boot news p q sent t),
)
place_over service log n node input place now sent c (began asked kept timestamping q e h x t) = (
  subst (AllByRecursion (NotOpening n)) (sym x) (tt, tt),
  all_weaker (IsPlain log) (Unopened n) sent (plain_unopened n log) (connection_plain service log node.server node.boot _ _ q sent t),
)
place_over service log n node input place now sent c (dropped asked timestamping e d x s) = (
  subst (AllByRecursion (NotOpening n)) (sym x) tt,
  ⊎_elim (λ y. subst (AllByRecursion (Unopened n)) (sym y) tt) (λ y. subst (AllByRecursion (Unopened n)) (sym y) (tt, tt)) s,
)
place_over service log n node input place now sent c (ended p e h x s) = (subst (AllByRecursion (NotOpening n)) (sym x) (tt, tt), subst (AllByRecursion (Unopened n)) (sym s) tt)
place_over service log n node input place now sent c (refused k segment e i same x s) =
    (subst (AllByRecursion (NotOpening n)) (sym x) (tt, tt), subst (AllByRecursion (Unopened n)) (sym s) (client_unopened n _))

pub stage_over : {State : Type 0} (service : Machine State) (log : Log) (n : Named) (node : Node) (input : Input) (sent : List Packet) (after : Stage) → StageWent service node input sent after
    → AllByRecursion (NotOpening n) (new_places node input node.stage) → AllByRecursion (NotOpening n) (places_at node.stage) → is_restarting node.stage ≡ false
    → (AllByRecursion (NotOpening n) (places_at after) × (is_restarting after ≡ false)) × AllByRecursion (Unopened n) sent
stage_over service log n node input sent after (was_fenced newer f s) fresh a r =
    (subst (λ stage. AllByRecursion (NotOpening n) (places_at stage) × (is_restarting stage ≡ false)) (sym f) (tt, refl), subst (AllByRecursion (Unopened n)) (sym s) tt)
stage_over service log n node input sent after (served o before later b f t) fresh a r =
    let x = serving_proceeds service node input o (NotOpening n) (NotOpening n) (Unopened n) before later sent (place_over service log n node input)
    (subst (λ stage. AllByRecursion (NotOpening n) (new_places node input stage)) b fresh) (refusals_so (Unopened n) node input before (λ s. tt)) (λ numbers s c. c)
    (subst (λ stage. AllByRecursion (NotOpening n) (places_at stage)) b a) t in
    (subst (λ stage. AllByRecursion (NotOpening n) (places_at stage) × (is_restarting stage ≡ false)) (sym f) (x.0, refl), x.1)
stage_over service log n node input sent after (waited w f s) fresh a r = absurd (true≢false (sym w ∙ r))
stage_over service log n node input sent after (held_off count fetched segment b f s) fresh a r = absurd (true≢false (sym (ap is_restarting b) ∙ r))
stage_over service log n node input sent after (asked_on count fetched p f s) fresh a r = absurd (true≢false (sym (was_restarting node input count fetched p) ∙ r))
stage_over service log n node input sent after (resumed count fetched places p none f t) fresh a r = absurd (true≢false (sym (was_restarting node input count fetched p) ∙ r))

-- a packet that says nothing to the log opens nothing
silent_body : (n : Named) (body : Body) → ((key : Key) → is_about key body ≡ false) → opens n body ≡ false
silent_body n (OpenMsg numbers) f = absurd (true≢false (sym (key_is numbers.key) ∙ f numbers.key))
silent_body n _ f = refl

pub silent_unopened : (n : Named) (packet : Packet) → SaysNothing packet → Unopened n packet
silent_unopened n (To_logger message) f = silent_body n message.body f
silent_unopened n (To_server segment) f = tt
silent_unopened n (To_client segment) f = tt
silent_unopened n (From_logger message) f = tt
