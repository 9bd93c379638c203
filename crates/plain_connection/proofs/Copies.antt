-- The messages of a turn's copies and reads, one after another.
use Rattle.std.proofs.Common.{◌≡◌, ◌∙◌, ℕ, zero, suc, ◌+◌, ◌≤◌, ◌<◌, Bool, true, false, refl, sym, ap, subst, List, [], ◌∷◌, ◌++◌, length, take, drop, map, arith, add-one, nat_lt, ltb-true, length-drop, if◌then◌else◌}
use Rattle.std.specs.Prelude.{◌||◌, ◌&&◌, slice_index}
use Rattle.std.proofs.Math.Seq.{drop-cons}
use Rattle.std.proofs.lemmas.Bool.{lt-ltb}
use Rattle.ft_io.specs.declared.Key.{Key}
use Rattle.ft_io.proofs.Choices.{by_cases, if_false, if_true}
use Rattle.ft_io.proofs.Booleans.{left_false}
use Rattle.seq_arith.specs.Message.{Body, Part}
use Rattle.seq_arith.specs.Message.Body.{DataMsg, ReadMsg}
use Rattle.seq_arith.specs.Packet.{Segment}
use Rattle.ft_model.specs.Connection.{reported_by}
use Rattle.ft_model.specs.Copy.{datas, own_data, further_data, una_part, or_una, batch, copies}
use Rattle.ft_model.specs.News.{News}
use Rattle.ft_model.specs.News.News.{Comes}
use Rattle.ft_model.specs.Point.{Point}
use Rattle.ft_model.specs.Reads.{read_messages, first_reported, reads_reported}
use Rattle.ft_model.specs.Wire.{Wire}
use Rattle.plain_packets.specs.Sent.{Appends}
use Rattle.plain_packets.proofs.Sent.{appends_none, appends_same}
use Rattle.plain_point.specs.Copying.{further_part}
use Rattle.plain_connection.specs.Copying.{datas_of, followed, batched}
use Rattle.plain_connection.proofs.Reporting.{IsReporting, one_reported, reported_both}

-- one part of 1,460 bytes, and the part after all such
abbrev full_part : Key → (acked offset : ℕ) → List ℕ → Part
full_part key acked offset bytes = record { key = key; offset = offset; acked = acked; fin = false; more = false; bytes = take 1460 bytes }

abbrev last_part : Key → (acked offset : ℕ) → List ℕ → Bool → Part
last_part key acked offset bytes fin = record { key = key; offset = offset; acked = acked; fin = fin; more = false; bytes = bytes }

-- enough tries are as many as one likes
datas_alike : (k m : ℕ) (key : Key) (acked offset : ℕ) (bytes : List ℕ) (fin : Bool) → length bytes < k → length bytes < m
    → datas k key acked offset bytes fin ≡ datas m key acked offset bytes fin
unfolding datas
datas_alike zero m key acked offset bytes fin h g = absurd (omega (arith, h))
datas_alike (suc k) zero key acked offset bytes fin h g = absurd (omega (arith, g))
datas_alike (suc k) (suc m) key acked offset bytes fin h g =
    let last : List Body = if nat_lt 0 (length bytes) || fin then DataMsg (last_part key acked offset bytes fin) ∷ [] else [] in
    by_cases (nat_lt 1460 (length bytes))
    (λ t. let long : 1460 < length bytes = ltb-true 1460 (length bytes) t in
    let left = length-drop 1460 bytes in
    let rest : datas k key acked (offset + 1460) (drop 1460 bytes) fin ≡ datas m key acked (offset + 1460) (drop 1460 bytes) fin =
    datas_alike k m key acked (offset + 1460) (drop 1460 bytes) fin (omega (arith, h, long, left)) (omega (arith, g, long, left)) in
    ap (λ l. if nat_lt 1460 (length bytes) then DataMsg (full_part key acked offset bytes) ∷ l else last) rest)
    (λ f. if_false (nat_lt 1460 (length bytes)) _ last f ∙ sym (if_false (nat_lt 1460 (length bytes)) _ last f))

pub datas_more : (key : Key) (acked offset : ℕ) (bytes : List ℕ) (fin : Bool) → 1460 < length bytes
    → datas (length bytes + 1) key acked offset bytes fin
    ≡ DataMsg (full_part key acked offset bytes) ∷ datas (length (drop 1460 bytes) + 1) key acked (offset + 1460) (drop 1460 bytes) fin
unfolding datas
datas_more key acked offset bytes fin long =
    let test : nat_lt 1460 (length bytes) ≡ true = grind (arith, long) in
    let left = length-drop 1460 bytes in
    let last : List Body = if nat_lt 0 (length bytes) || fin then DataMsg (last_part key acked offset bytes fin) ∷ [] else [] in
    rw (add-one, add-one)
    (if_true (nat_lt 1460 (length bytes)) (DataMsg (full_part key acked offset bytes) ∷ datas (length bytes) key acked (offset + 1460) (drop 1460 bytes) fin) last test
    ∙ ap (λ l. DataMsg (full_part key acked offset bytes) ∷ l)
    (datas_alike (length bytes) (suc (length (drop 1460 bytes))) key acked (offset + 1460) (drop 1460 bytes) fin (omega (arith, long, left)) (omega arith)))

datas_last : (key : Key) (acked offset : ℕ) (bytes : List ℕ) (fin : Bool) → length bytes ≤ 1460 → (nat_lt 0 (length bytes) || fin) ≡ true
    → datas (length bytes + 1) key acked offset bytes fin ≡ DataMsg (last_part key acked offset bytes fin) ∷ []
unfolding datas
datas_last key acked offset bytes fin short some =
    let test : nat_lt 1460 (length bytes) ≡ false = grind (arith, short) in
    rw add-one
    (if_false (nat_lt 1460 (length bytes)) _ _ test
    ∙ if_true (nat_lt 0 (length bytes) || fin) (DataMsg (last_part key acked offset bytes fin) ∷ []) [] some)

datas_none : (key : Key) (acked offset : ℕ) (bytes : List ℕ) (fin : Bool) → (nat_lt 0 (length bytes) || fin) ≡ false → datas (length bytes + 1) key acked offset bytes fin ≡ []
unfolding datas
datas_none key acked offset bytes fin none =
    let empty : nat_lt 0 (length bytes) ≡ false = left_false (nat_lt 0 (length bytes)) fin none in
    let long : nat_lt 1460 (length bytes) ≡ false = grind (arith, empty) in
    rw add-one (if_false (nat_lt 1460 (length bytes)) _ _ long ∙ if_false (nat_lt 0 (length bytes) || fin) _ [] none)

-- one message alone is a batch as it is, and so is none
one_batched : (batches : Bool) (body : Body) → batched batches (body ∷ []) ≡ body ∷ []
unfolding batch
one_batched true body = refl
one_batched false body = refl

none_batched : (batches : Bool) → batched batches [] ≡ []
unfolding batch
none_batched true = refl
none_batched false = refl

-- a part that none follows is as it was
not_followed : (part : Part) → part.more ≡ false → followed false part ≡ part
not_followed part single = ap (λ more. record part { more = more }) (sym single)

pub last_sent : (boot : ℕ) (old new : List Wire) (batches : Bool) (part : Part) → part.more ≡ false → length part.bytes ≤ 1460
    → (nat_lt 0 (length part.bytes) || part.fin) ≡ true → Appends old new (reported_by boot (DataMsg (followed false part)) ∷ [])
    → Appends old new (map (reported_by boot) (batched batches (datas_of part)))
last_sent boot old new batches part single short some sent =
    let all : batched batches (datas_of part) ≡ DataMsg (last_part part.key part.acked part.offset part.bytes part.fin) ∷ [] =
    ap (batched batches) (datas_last part.key part.acked part.offset part.bytes part.fin short some) ∙ one_batched batches _ in
    subst (λ l. Appends old new (map (reported_by boot) l)) (sym all) sent

pub none_sent : (boot : ℕ) (wires : List Wire) (batches : Bool) (part : Part) → (nat_lt 0 (length part.bytes) || part.fin) ≡ false
    → Appends wires wires (map (reported_by boot) (batched batches (datas_of part)))
none_sent boot wires batches part none =
    subst (λ l. Appends wires wires (map (reported_by boot) l))
    (sym (ap (batched batches) (datas_none part.key part.acked part.offset part.bytes part.fin none) ∙ none_batched batches)) (appends_none wires)

-- a part with text or the FIN takes a message
abbrev HasFirst : List Body → Type 0
HasFirst l = (first : Body) × (more : List Body) × (l ≡ first ∷ more)

datas_some : (part : Part) → (nat_lt 0 (length part.bytes) || part.fin) ≡ true → HasFirst (datas_of part)
datas_some part some =
    by_cases (nat_lt 1460 (length part.bytes))
    (λ t. (DataMsg (full_part part.key part.acked part.offset part.bytes), _, datas_more part.key part.acked part.offset part.bytes part.fin (ltb-true 1460 (length part.bytes) t)))
    (λ f. (DataMsg (last_part part.key part.acked part.offset part.bytes part.fin), [], datas_last part.key part.acked part.offset part.bytes part.fin (grind (arith, f)) some))

-- a batch's first part, which another one follows
first_batched : (batches : Bool) (part : Part) (more : List Body) → part.more ≡ false → HasFirst more
    → batched batches (DataMsg part ∷ more) ≡ DataMsg (followed batches part) ∷ batched batches more
unfolding batch
first_batched true part more single has = subst (λ l. batch (DataMsg part ∷ l) ≡ DataMsg (followed true part) ∷ batch l) (sym has.2) refl
first_batched false part more single has = ap (λ x. DataMsg x ∷ more) (sym (not_followed part single))

-- a batch's first part, and the parts of a text behind it, if there is some
pub own_batched : (batches more : Bool) (own further : Part) → own.more ≡ false → more ≡ ((nat_lt 0 (length further.bytes) || further.fin) && batches)
    → batched batches (DataMsg own ∷ datas_of further) ≡ DataMsg (followed more own) ∷ batched batches (datas_of further)
own_batched batches more own further single follows =
    by_cases (nat_lt 0 (length further.bytes) || further.fin)
    (λ some. first_batched batches own (datas_of further) single (datas_some further some)
    ∙ ap (λ b. DataMsg (followed b own) ∷ batched batches (datas_of further)) (sym (follows ∙ ap (λ b. b && batches) some)))
    (λ none. let empty : datas_of further ≡ [] = datas_none further.key further.acked further.offset further.bytes further.fin none in
    ap (λ l. batched batches (DataMsg own ∷ l)) empty ∙ one_batched batches (DataMsg own)
    ∙ ap (λ x. DataMsg x ∷ []) (sym (not_followed own single))
    ∙ ap (λ b. DataMsg (followed b own) ∷ []) (sym (follows ∙ ap (λ b. b && batches) none))
    ∙ ap (λ l. DataMsg (followed more own) ∷ l) (sym (ap (batched batches) empty ∙ none_batched batches)))

-- one more full part is sent
pub full_sent : (boot : ℕ) (before now later : List Wire) (all : List Body) (batches : Bool) (rest : Part) (front back : List ℕ)
    → IsReporting boot before now all (batched batches (datas_of rest)) → 1460 < length rest.bytes
    → front ≡ take 1460 rest.bytes → back ≡ drop 1460 rest.bytes
    → Appends now later (reported_by boot (DataMsg (followed batches (record rest { fin = false; bytes = front }))) ∷ [])
    → IsReporting boot before later all (batched batches (datas_of (record rest { offset = rest.offset + 1460; bytes = back })))
full_sent boot before now later all batches rest front back reporting long f b sent =
    let behind : Part = record rest { offset = rest.offset + 1460; bytes = drop 1460 rest.bytes } in
    let left = length-drop 1460 rest.bytes in
    let some : nat_lt 0 (length (drop 1460 rest.bytes)) ≡ true = lt-ltb 0 (length (drop 1460 rest.bytes)) (omega (arith, long, left)) in
    let cut : batched batches (datas_of rest) ≡ DataMsg (followed batches (full_part rest.key rest.acked rest.offset rest.bytes)) ∷ batched batches (datas_of behind) =
    ap (batched batches) (datas_more rest.key rest.acked rest.offset rest.bytes rest.fin long)
    ∙ first_batched batches (full_part rest.key rest.acked rest.offset rest.bytes) (datas_of behind) refl (datas_some behind (ap (λ x. x || rest.fin) some)) in
    subst (λ x. IsReporting boot before later all (batched batches (datas_of (record rest { offset = rest.offset + 1460; bytes = x })))) (sym b)
    (one_reported boot before now later all (batched batches (datas_of rest)) (batched batches (datas_of behind))
    (DataMsg (followed batches (full_part rest.key rest.acked rest.offset rest.bytes))) reporting cut
    (subst (λ x. Appends now later (reported_by boot (DataMsg (followed batches (record rest { fin = false; bytes = x }))) ∷ [])) f sent))

-- the message of the next read
pub next_message : (key : Key) (index : ℕ) (lengths : List ℕ) → index < length lengths
    → read_messages key index (drop index lengths) ≡ ReadMsg key index (slice_index lengths index) ∷ read_messages key (index + 1) (drop (index + 1) lengths)
next_message key index lengths h = rw (add-one) (ap (read_messages key index) (drop-cons lengths index 0 h) ∙ rw add-one refl)

-- the reads that a turn tells
pub reads_reported_are : (boot : ℕ) (old new : List Wire) (news : News) (p q : Point) (key : Key) (first : ℕ) (lengths : List ℕ) → key ≡ q.key → first ≡ first_reported news p q
    → lengths ≡ q.lengths → Appends old new (map (reported_by boot) (read_messages key first (drop first lengths))) → Appends old new (map (reported_by boot) (reads_reported news p q))
unfolding reads_reported
reads_reported_are boot old new news p q key first lengths k f l sent =
    subst (λ x. Appends old new (map (reported_by boot) (read_messages x (first_reported news p q) (drop (first_reported news p q) q.lengths)))) k
    (subst (λ x. Appends old new (map (reported_by boot) (read_messages key x (drop x q.lengths)))) f
    (subst (λ x. Appends old new (map (reported_by boot) (read_messages key first (drop first x)))) l sent))

-- what a segment has copied, where the point after the turn has this own part of it, and this further part
module _ (boot : ℕ) (old new : List Wire) (p q : Point) (segment : Segment) (further : Part) (further_is : further ≡ further_part p q segment) where
  further_datas : datas_of further ≡ further_data p q segment
  unfolding further_data
  further_datas = ap datas_of further_is

  copied_as : (own : List Body) → own_data q segment ≡ own → Appends old new (map (reported_by boot) (batched q.batches (or_una p q (own ++ datas_of further))))
      → Appends old new (map (reported_by boot) (copies (Comes segment) p q))
  unfolding copies
  copied_as own is sent =
      subst (λ l. Appends old new (map (reported_by boot) (batched q.batches (or_una p q (l ++ further_data p q segment))))) (sym is)
      (subst (λ l. Appends old new (map (reported_by boot) (batched q.batches (or_una p q (own ++ l))))) further_datas sent)

  pub with_own : (middle : List Wire) (own : Part) (more : Bool) → own_data q segment ≡ DataMsg own ∷ [] → own.more ≡ false
      → more ≡ ((nat_lt 0 (length further.bytes) || further.fin) && q.batches) → Appends old middle (reported_by boot (DataMsg (followed more own)) ∷ [])
      → Appends middle new (map (reported_by boot) (batched q.batches (datas_of further))) → Appends old new (map (reported_by boot) (copies (Comes segment) p q))
  with_own middle own more is single follows first others =
      copied_as (DataMsg own ∷ []) is
      (subst (λ l. Appends old new (map (reported_by boot) l)) (sym (own_batched q.batches more own further single follows))
      (reported_both boot old middle new (DataMsg (followed more own) ∷ []) (batched q.batches (datas_of further)) first others))

  pub without_own : own_data q segment ≡ [] → (nat_lt 0 (length further.bytes) || further.fin) ≡ true
      → Appends old new (map (reported_by boot) (batched q.batches (datas_of further))) → Appends old new (map (reported_by boot) (copies (Comes segment) p q))
  without_own is some sent =
      let has = datas_some further some in
      copied_as [] is
      (subst (λ l. Appends old new (map (reported_by boot) (batched q.batches (or_una p q l)))) (sym has.2)
      (subst (λ l. Appends old new (map (reported_by boot) (batched q.batches l))) has.2 sent))

  nothing_copied : own_data q segment ≡ [] → (nat_lt 0 (length further.bytes) || further.fin) ≡ false
      → Appends old new (map (reported_by boot) (batched q.batches (or_una p q []))) → Appends old new (map (reported_by boot) (copies (Comes segment) p q))
  nothing_copied is none sent =
      copied_as [] is (subst (λ l. Appends old new (map (reported_by boot) (batched q.batches (or_una p q l))))
      (sym (datas_none further.key further.acked further.offset further.bytes further.fin none)) sent)

  pub only_una : own_data q segment ≡ [] → (nat_lt 0 (length further.bytes) || further.fin) ≡ false → p.una < q.una
      → Appends old new (reported_by boot (DataMsg (una_part q)) ∷ []) → Appends old new (map (reported_by boot) (copies (Comes segment) p q))
  only_una is none rose sent =
      let all : batched q.batches (or_una p q []) ≡ DataMsg (una_part q) ∷ [] =
      ap (batched q.batches) (if_true (nat_lt p.una q.una) (DataMsg (una_part q) ∷ []) [] (grind (arith, rose))) ∙ one_batched q.batches (DataMsg (una_part q)) in
      nothing_copied is none (subst (λ l. Appends old new (map (reported_by boot) l)) (sym all) sent)

  pub no_copy : own_data q segment ≡ [] → (nat_lt 0 (length further.bytes) || further.fin) ≡ false → q.una ≤ p.una → new ≡ old
      → Appends old new (map (reported_by boot) (copies (Comes segment) p q))
  no_copy is none same unsent =
      let all : batched q.batches (or_una p q []) ≡ [] =
      ap (batched q.batches) (if_false (nat_lt p.una q.una) (DataMsg (una_part q) ∷ []) [] (grind (arith, same))) ∙ none_batched q.batches in
      nothing_copied is none (subst (λ l. Appends old new (map (reported_by boot) l)) (sym all) (appends_same old new unsent))
