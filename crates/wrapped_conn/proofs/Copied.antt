-- What of a segment is copied is no longer than its text.
use Rattle.std.proofs.Common.{◌≡◌, ℕ, ◌≤◌, ◌+◌, ◌-◌, ◌^◌, ◌==◌, Bool, true, false, not, min, max, refl, sym, ap, subst, ◌∙◌, List, [], ◌∷◌, ◌++◌, length, length-take, length-drop, take, drop, arith, leb-true, eqb-true}
use Rattle.std.specs.Prelude.{Option, Some, IfSome, IsOk, IfOk, Ok, ◌&&◌, ◌||◌, nat_lt, map, if◌then◌else◌}
use Rattle.std.proofs.lemmas.Bool.{false≢true}
use Rattle.std.proofs.lemmas.Result.{IfOk-at_ok}
use Rattle.seq_arith.specs.Message.{Body}
use Rattle.seq_arith.specs.Message.Body.{DataMsg}
use Rattle.seq_arith.specs.Packet.{Segment, has_syn, has_rst}
use Rattle.seq_arith.specs.Offset.{text_of}
use Rattle.seq_arith.specs.PacketGrammar.{reading, segment_in, payload_at}
use Rattle.ft_model.specs.Copy.{from_start, batch}
use Rattle.ft_model.proofs.Resumed.{map_append}
use Rattle.segment_codec.specs.Change.{changed}
use Rattle.segment_codec.proofs.Accepting.{is_read, start_is_there, packet_is_short}
use Rattle.south_wrap.specs.declared.answers.CopyPart.{CopyPart}
use Rattle.south_wrap.specs.SouthState.{SouthState}
use Rattle.south_wrap.specs.Translation.{copied, is_some_copied, IsPart, passed_in, inward, repeats_syn}
use Rattle.wrapped_conn.specs.declared.stage.Before.{Before}
use Rattle.wrapped_conn.specs.ConnState.{ConnState}
use Rattle.wrapped_conn.specs.Numbers.{has_fin, bytes_taken, logged_units, una_units}
use Rattle.wrapped_conn.specs.Arrival.{reached, noted, stamped, arrived}
use Rattle.wrapped_conn.specs.LoggerMessages.{spelled, own_data, end_of, further_start, unread_from, takes_held_fin, datas_of, further_data, or_una, copies, part_of, acked_part, in_batch, followed, follows}
use Rattle.wrapped_conn.proofs.Datas.{has_some, datas_has, batch_behind}
use Rattle.ft_io.proofs.Choices.{holds_if}

payload_short : (bytes : List ℕ) → IsOk (reading bytes) → length (segment_in bytes).payload ≤ 1460
unfolding segment_in
payload_short bytes ok =
    let start = start_is_there bytes ok in
    omega (arith, length-drop (payload_at bytes) bytes, packet_is_short bytes ok, start.0)

text_short : (segment : Segment) → length (text_of segment) ≤ length segment.payload
text_short segment = holds_if (λ text. length text ≤ length segment.payload) (has_syn segment || has_rst segment) [] segment.payload (λ h. omega arith) (λ h. omega arith)

copied_short : (s : SouthState) (segment : Segment) → length (copied s segment).text ≤ length segment.payload
copied_short s segment = omega (arith, length-take {A = ℕ}, length-drop {A = ℕ}, text_short segment)

part_short : (bytes : List ℕ) (s : SouthState) (part : CopyPart) → IsOk (reading bytes) → IfOk (reading bytes) (λ segment. IsPart bytes part (copied s segment))
    → length (take (part.to - part.from) (drop part.from bytes)) ≤ 1460
part_short bytes s part ok is =
    let p : IsPart bytes part (copied s (segment_in bytes)) = IfOk-at_ok (λ x. IsPart bytes part (copied s x)) (is_read bytes ok) is in
    omega (arith, ap length p.text, copied_short s (segment_in bytes), payload_short bytes ok)

pub own_short : (bytes : List ℕ) (s : SouthState) (own : Option CopyPart) (part : CopyPart) → own ≡ Some part → IsOk (reading bytes)
    → IfSome own (λ part. IfOk (reading bytes) (λ segment. IsPart bytes part (copied s segment))) → length (take (part.to - part.from) (drop part.from bytes)) ≤ 1460
own_short bytes s own part there ok is =
    part_short bytes s part ok (subst (λ o. IfSome o (λ part. IfOk (reading bytes) (λ segment. IsPart bytes part (copied s segment)))) there is)

-- a segment that the south wrapper has passed has the same part
same_copies : {S : Type 0} (before : Before) (s : SouthState) (segment : Segment) (c : ConnState S) → copies before (passed_in s segment) c ≡ copies before segment c
unfolding copies further_start
same_copies before s segment c = holds_if (λ x. copies before x c ≡ copies before segment c) (repeats_syn s segment) segment (inward s segment) (λ h. refl) (λ h. refl)

pub same_boot : {S : Type 0} (segment : Segment) (c : ConnState S) → (arrived segment c).boot ≡ c.boot
unfolding arrived
same_boot segment c = holds_if (λ (x : ConnState _). x.boot ≡ c.boot) (repeats_syn c.south segment) (stamped segment c) _ (λ h. refl) (λ h. refl)

pub same_batches : {S : Type 0} (segment : Segment) (c : ConnState S) → (arrived segment c).batches ≡ c.batches
unfolding arrived
same_batches segment c = holds_if (λ (x : ConnState _). x.batches ≡ c.batches) (repeats_syn c.south segment) (stamped segment c) _ (λ h. refl) (λ h. refl)

pub arrived_is : {S : Type 0} (segment : Segment) (old mid new : ConnState S) → mid ≡ reached segment (stamped segment old) → new ≡ noted mid → new ≡ arrived segment old
unfolding arrived
arrived_is segment old mid new reach note = note ∙ ap noted reach

pub reported_arrived : {S : Type 0} (old new : ConnState S) (s : SouthState) (segment : Segment) (before : Before) (reported : List (List ℕ)) → new ≡ arrived segment old
    → reported ≡ spelled new.batches new.boot (copies before (passed_in s segment) new) → reported ≡ spelled old.batches old.boot (copies before segment (arrived segment old))
reported_arrived old new s segment before reported is e =
    e ∙ ap (λ (x : ConnState _). spelled x.batches x.boot (copies before (passed_in s segment) x)) is ∙ (λ j. spelled (same_batches segment old j) (same_boot segment old j) (copies before (passed_in s segment) (arrived segment old)))
    ∙ ap (spelled old.batches old.boot) (same_copies before s segment (arrived segment old))

-- what holds of the segment that is read
pub of_read : (bytes : List ℕ) (P : Segment → Type 0) → IsOk (reading bytes) → P (segment_in bytes) → IfOk (reading bytes) P
of_read bytes P ok p = subst (λ r. IfOk r P) (sym (is_read bytes ok)) p

pub reported_by : {S : Type 0} (old mid new : ConnState S) (bytes after : List ℕ) (before : Before) (reported : List (List ℕ)) → IsOk (reading bytes)
    → IfOk (reading bytes) (λ segment. mid ≡ reached segment (stamped segment old)) → new ≡ noted mid
    → reading after ≡ changed (passed_in old.south) (reading bytes) → IfOk (reading after) (λ segment. reported ≡ spelled new.batches new.boot (copies before segment new))
    → IfOk (reading bytes) (λ segment. reported ≡ spelled old.batches old.boot (copies before segment (arrived segment old)))
reported_by old mid new bytes after before reported ok reach note read copy =
    let seg : Segment = segment_in bytes in
    let is : reading bytes ≡ Ok seg = is_read bytes ok in
    let reached_now : mid ≡ reached seg (stamped seg old) = IfOk-at_ok (λ x. mid ≡ reached x (stamped x old)) is reach in
    let passed : reading after ≡ Ok (passed_in old.south seg) = read ∙ ap (changed (passed_in old.south)) is in
    let said : reported ≡ spelled new.batches new.boot (copies before (passed_in old.south seg) new) = IfOk-at_ok (λ x. reported ≡ spelled new.batches new.boot (copies before x new)) passed copy in
    of_read bytes _ ok (reported_arrived old new old.south seg before reported (arrived_is seg old mid new reached_now note) said)

-- from the step in which the wrapper notes the segment's timestamps
pub reached_stamped : {S : Type 0} (old stamp mid : ConnState S) (bytes : List ℕ) → IsOk (reading bytes) → IfOk (reading bytes) (λ segment. stamp ≡ stamped segment old)
    → IfOk (reading bytes) (λ segment. mid ≡ reached segment stamp) → IfOk (reading bytes) (λ segment. mid ≡ reached segment (stamped segment old))
reached_stamped old stamp mid bytes ok noting reach =
    let seg : Segment = segment_in bytes in
    let is : reading bytes ≡ Ok seg = is_read bytes ok in
    let noted_now : stamp ≡ stamped seg old = IfOk-at_ok (λ x. stamp ≡ stamped x old) is noting in
    let reached_now : mid ≡ reached seg stamp = IfOk-at_ok (λ x. mid ≡ reached x stamp) is reach in
    of_read bytes _ ok (reached_now ∙ ap (λ (x : ConnState _). reached seg x) noted_now)

pub repeats_stamped : {S : Type 0} (old stamp : ConnState S) (b : Bool) (bytes : List ℕ) → IsOk (reading bytes) → IfOk (reading bytes) (λ segment. stamp ≡ stamped segment old)
    → IfOk (reading bytes) (λ segment. b ≡ repeats_syn stamp.south segment) → IfOk (reading bytes) (λ segment. b ≡ repeats_syn old.south segment)
repeats_stamped old stamp b bytes ok noting is_repeat =
    let seg : Segment = segment_in bytes in
    let is : reading bytes ≡ Ok seg = is_read bytes ok in
    let noted_now : stamp ≡ stamped seg old = IfOk-at_ok (λ x. stamp ≡ stamped x old) is noting in
    let repeats_now : b ≡ repeats_syn stamp.south seg = IfOk-at_ok (λ x. b ≡ repeats_syn stamp.south x) is is_repeat in
    of_read bytes _ ok (repeats_now ∙ ap (λ (x : ConnState _). repeats_syn x.south seg) noted_now)

pub passed_stamped : {S : Type 0} (old stamp : ConnState S) (bytes after : List ℕ) → IsOk (reading bytes) → IfOk (reading bytes) (λ segment. stamp ≡ stamped segment old)
    → reading after ≡ changed (passed_in stamp.south) (reading bytes) → reading after ≡ changed (passed_in old.south) (reading bytes)
passed_stamped old stamp bytes after ok noting read =
    let seg : Segment = segment_in bytes in
    let is : reading bytes ≡ Ok seg = is_read bytes ok in
    let noted_now : stamp ≡ stamped seg old = IfOk-at_ok (λ x. stamp ≡ stamped x old) is noting in
    let same : changed (passed_in stamp.south) (Ok seg) ≡ changed (passed_in old.south) (Ok seg) = λ j. changed (passed_in (noted_now j).south) (Ok seg) in
    read ∙ ap (changed (passed_in stamp.south)) is ∙ same ∙ sym (ap (changed (passed_in old.south)) is)

-- where the further text begins, as it is counted
pub start_from : {S : Type 0} (before : Before) (segment : Segment) (c : ConnState S) (logged taken end own inner start : ℕ) → end ≡ min (from_start (end_of segment c)) (2 ^ 24 + 1)
    → taken ≡ bytes_taken c → taken ≤ 2 ^ 24 → own ≡ min end taken → logged ≡ logged_units c → inner ≡ max before.taken own → start ≡ max logged inner → start ≡ further_start before segment c
unfolding further_start
start_from before segment c logged taken end own inner start a b few d e f h = omega (arith, a, b, few, d, e, f, h)

pub last_true : (a b c d : Bool) → (a && b && c && d) ≡ true → d ≡ true
last_true false b c d h = absurd (false≢true h)
last_true true false c d h = absurd (false≢true h)
last_true true true false d h = absurd (false≢true h)
last_true true true true d h = h

pub start_low : {S : Type 0} (before : Before) (own : Bool) (segment : Segment) (c : ConnState S) → before.taken ≤ 2 ^ 24 → bytes_taken c ≤ 2 ^ 24 → takes_held_fin before own c ≡ true
    → further_start before segment c ≤ 2 ^ 24
unfolding further_start
start_low before own segment c a b h =
    let logged : logged_units c ≤ bytes_taken c = leb-true (logged_units c) (bytes_taken c) (last_true (has_fin c.endpoint.name) (not before.fin) (not own) _ h) in
    omega (arith, a, b, logged)

-- what goes out of a segment, step by step
pub copies_reported : {S : Type 0} (bytes : List ℕ) (before : Before) (c : ConnState S) (own more : Bool) (start : ℕ) (fin : Bool) (first second third : List (List ℕ)) → IsOk (reading bytes)
    → IfOk (reading bytes) (λ segment. first ≡ spelled c.batches c.boot (map (followed more) (own_data segment c))) → IfOk (reading bytes) (λ segment. own ≡ (copied c.south segment).fin)
    → IfOk (reading bytes) (λ segment. start ≡ further_start before segment c) → fin ≡ takes_held_fin before own c → more ≡ (c.batches && follows start fin c)
    → second ≡ first ++ spelled c.batches c.boot (in_batch c.batches (datas_of c start (unread_from c start) fin))
    → ((bodies : List Body) → second ≡ spelled c.batches c.boot (in_batch c.batches bodies) → third ≡ spelled c.batches c.boot (in_batch c.batches (or_una before.una c bodies)))
    → IfOk (reading bytes) (λ segment. third ≡ spelled c.batches c.boot (copies before segment c))
unfolding copies
copies_reported bytes before c own more start fin first second third ok own_reported own_fin begins ends with_more further last =
    let seg : Segment = segment_in bytes in
    let is : reading bytes ≡ Ok seg = is_read bytes ok in
    let others : List Body = datas_of c start (unread_from c start) fin in
    let some : more ≡ (c.batches && has_some others) = with_more ∙ ap (λ b. c.batches && b) (sym (datas_has c start (unread_from c start) fin)) in
    let one : first ≡ spelled c.batches c.boot (map (followed more) (own_data seg c)) =
    IfOk-at_ok (λ x. first ≡ spelled c.batches c.boot (map (followed more) (own_data x c))) is own_reported in
    let here : start ≡ further_start before seg c = IfOk-at_ok (λ x. start ≡ further_start before x c) is begins in
    let with_it : own ≡ (copied c.south seg).fin = IfOk-at_ok (λ x. own ≡ (copied c.south x).fin) is own_fin in
    let held : fin ≡ takes_held_fin before (copied c.south seg).fin c = ends ∙ ap (λ b. takes_held_fin before b c) with_it in
    let parts : in_batch c.batches (own_data seg c ++ others) ≡ map (followed more) (own_data seg c) ++ in_batch c.batches others =
    batch_behind c.batches (is_some_copied (copied c.south seg)) (DataMsg (part_of c (copied c.south seg))) others
    ∙ ap (λ b. map (followed b) (own_data seg c) ++ in_batch c.batches others) (sym some) in
    let both : second ≡ spelled c.batches c.boot (in_batch c.batches (own_data seg c ++ others)) =
    further ∙ ap (λ xs. xs ++ spelled c.batches c.boot (in_batch c.batches others)) one ∙ sym (map_append _ (map (followed more) (own_data seg c)) (in_batch c.batches others))
    ∙ ap (spelled c.batches c.boot) (sym parts) in
    of_read bytes _ ok (last (own_data seg c ++ further_data before seg c) (both ∙ (λ j. spelled c.batches c.boot (in_batch c.batches (own_data seg c ++ datas_of c (here j) (unread_from c (here j)) (held j))))))

pub nothing_yet : (out : List (List ℕ)) (none : Bool) → none ≡ (length out == 0) → none ≡ true → out ≡ []
nothing_yet [] none is holds = refl
nothing_yet (packet ∷ out) none is holds =
    let zero : length (packet ∷ out) ≡ 0 = eqb-true (length (packet ∷ out)) 0 (sym is ∙ holds) in absurd (omega (arith, zero))

-- Data that only reports the acknowledgement goes out where nothing else has, ..
pub una_reported : {S : Type 0} (c : ConnState S) (before : ℕ) (out new : List (List ℕ)) → nat_lt before (una_units c) ≡ true → out ≡ []
    → new ≡ out ++ spelled c.batches c.boot (DataMsg (acked_part c) ∷ [])
    → (bodies : List Body) → out ≡ spelled c.batches c.boot (in_batch c.batches bodies) → new ≡ spelled c.batches c.boot (in_batch c.batches (or_una before c bodies))
unfolding batch
una_reported c before out new less none is bodies reported = go bodies (sym none ∙ reported)
  where
    alone : (batches : Bool) (body : Body) → body ∷ [] ≡ in_batch batches (body ∷ [])
    alone true body = refl
    alone false body = refl

    some_reported : (batches : Bool) (body : Body) (others : List Body) → [] ≡ spelled c.batches c.boot (in_batch batches (body ∷ others)) → ⊥
    some_reported true body [] e = cc
    some_reported true body (other ∷ others) e = cc
    some_reported false body others e = cc

    go : (bodies : List Body) → [] ≡ spelled c.batches c.boot (in_batch c.batches bodies) → new ≡ spelled c.batches c.boot (in_batch c.batches (or_una before c bodies))
    go [] e =
        is ∙ ap (λ xs. xs ++ spelled c.batches c.boot (DataMsg (acked_part c) ∷ [])) none ∙ ap (spelled c.batches c.boot) (alone c.batches (DataMsg (acked_part c)))
        ∙ ap (λ b. spelled c.batches c.boot (in_batch c.batches (if b then DataMsg (acked_part c) ∷ [] else []))) (sym less)
    go (body ∷ others) e = absurd (some_reported c.batches body others e)

no_batch : (batches : Bool) → in_batch batches [] ≡ []
unfolding batch
no_batch true = refl
no_batch false = refl

-- .. and where there is nothing to report, or something has gone out, none does
pub una_silent : {S : Type 0} (c : ConnState S) (before : ℕ) (out : List (List ℕ)) → (out ≡ [] → nat_lt before (una_units c) ≡ false)
    → (bodies : List Body) → out ≡ spelled c.batches c.boot (in_batch c.batches bodies) → out ≡ spelled c.batches c.boot (in_batch c.batches (or_una before c bodies))
unfolding batch
una_silent c before out none [] reported =
    let empty : in_batch c.batches [] ≡ [] = no_batch c.batches in
    let is : out ≡ [] = reported ∙ ap (spelled c.batches c.boot) empty in
    reported ∙ ap (λ b. spelled c.batches c.boot (in_batch c.batches (if b then DataMsg (acked_part c) ∷ [] else []))) (sym (none is))
una_silent c before out none (body ∷ others) reported = reported
