-- What a live connection copies to the logger in a turn: the law Copy is opened here alone, and all else goes by what each of its Data says.
use Rattle.std.proofs.Common.{◌≡◌, ℕ, zero, suc, ◌+◌, ◌-◌, ◌<◌, ◌≤◌, ℤ, pos, negsuc, ◌+ℤ◌, Bool, true, false, ◌&&◌, ◌||◌, not, nat_lt, nat_le, max, refl, sym, ap, ◌∙◌, subst, true≢false, inl, inr, ◌⊎◌, ⊎_elim, List, [], ◌∷◌, ◌++◌, length, take, drop, drop-drop, arith, length-take, length-drop, length-append, leb-true, ltb-true, ltb-false}
use Rattle.std.specs.List.{AllByRecursion}
use Rattle.std.proofs.lemmas.Bool.{and_parts}
use Rattle.ft_io.specs.declared.Key.{Key}
use Rattle.tcp_rules.specs.Arrival.{int_eq, below}
use Rattle.seq_arith.specs.Packet.{Segment}
use Rattle.seq_arith.specs.Message.{Part, Body}
use Rattle.seq_arith.specs.Message.Body.{DataMsg}
use Rattle.ft_model.specs.Offset.{first_of, text_of, fin_of}
use Rattle.ft_model.specs.Point.{Point}
use Rattle.ft_model.specs.News.{News}
use Rattle.ft_model.specs.News.News.{Comes, Logged, Ticks, Begins}
use Rattle.ft_model.specs.Taken.{end_of}
use Rattle.ft_model.specs.Growth.{IsPrefix}
use Rattle.ft_model.specs.Copy.{from_start, copy_start, copied_text, copies_fin, una_part, copied_part, own_data, further_start, further_text, takes_held_fin, datas, further_data, or_una, with_more, batch, copies}
use Rattle.ft_model.proofs.Lists.{or_cases, all_append, all_weaker, take_first, prefix_refl}
use Rattle.ft_model.proofs.StreamAgreement.{int_same}
use Rattle.ft_io.proofs.Choices.{holds_if}

-- the text that the news bring
abbrev pub text_in : News → List ℕ
text_in (Comes segment) = text_of segment
text_in (Logged kept) = []
text_in Ticks = []
text_in Begins = []

-- a cut from a list
abbrev pub IsCut : List ℕ → List ℕ → Type 0
IsCut part whole = (k : ℕ) × (n : ℕ) × (part ≡ take n (drop k whole))

-- the turn left taken all that was taken before it
abbrev pub Grows : Point → Point → Type 0
Grows before after = length before.taken ≤ length after.taken

-- a Data of what was held: its bytes are taken, at its offset, and a FIN comes after all that is taken
pub record IsFurther (before after : Point) (part : Part) : Type 0 where
  pub stands : IsPrefix part.bytes (drop part.offset after.taken)
  pub fin : part.fin ≡ true → (after.fin ≡ true) × (Grows before after → part.offset + length part.bytes ≡ length after.taken)

-- a part with a later one after it, and so without a FIN
abbrev pub as_later : Part → Part
as_later part = record part { fin = false; more = true }

-- this part, or this part with a later one after it
abbrev pub IsOf : (whole part : Part) → Type 0
IsOf whole part = (part ≡ whole) ⊎ (part ≡ as_later whole)

-- the segment's own part, the Data for the acknowledgement alone, or a part of what was held
abbrev pub HasForm : News → (before after : Point) → Part → Type 0
HasForm (Comes segment) before after part = IsOf (copied_part after segment) part ⊎ (IsOf (una_part after) part ⊎ IsFurther before after part)
HasForm (Logged kept) before after part = ⊥
HasForm Ticks before after part = ⊥
HasForm Begins before after part = ⊥

-- what a Data says after the turn: it is the connection's, acknowledges what the client has acknowledged, and stands within the bytes taken; its bytes
-- are the segment's or were held, and its FIN is one that is taken
pub record IsCopy (news : News) (before after : Point) (part : Part) : Type 0 where
  pub key : part.key ≡ after.key
  pub acked : part.acked ≡ after.una
  pub within : Grows before after → part.offset + length part.bytes ≤ length after.taken
  pub fin : part.fin ≡ true → after.fin ≡ true
  pub text : IsCut part.bytes (text_in news) ⊎ IsPrefix part.bytes (drop part.offset after.taken)
  pub short : length (text_in news) ≤ 1460 → length part.bytes ≤ 1460
  pub form : HasForm news before after part
  pub batch : part.more ≡ true → (part.fin ≡ false) × (after.batches ≡ true)

-- a cut is no longer than what it is cut from
cut_short : (part whole : List ℕ) (most : ℕ) → IsCut part whole → length whole ≤ most → length part ≤ most
cut_short part whole most c h =
    let size : length part ≡ length (take c.1 (drop c.0 whole)) = ap length c.2 in
    let cut = length-take c.1 (drop c.0 whole) in
    let behind = length-drop c.0 whole in
    omega (arith, size, cut, behind, h)

-- the segment's own part

-- the part that is copied begins within what is taken, where its FIN alone is copied
begins_within : (answered : ℕ) (first : ℤ) (text taken : ℕ) → int_eq (first +ℤ pos text) (pos taken) ≡ true → answered ≤ taken
    → max answered (from_start first) ≤ taken
begins_within answered (pos n) text taken e h = let same = int_same (n + text) taken e in omega (arith, same, h)
begins_within answered (negsuc n) text taken e h = omega (arith, h)

copied_within : (q : Point) (segment : Segment) → (nat_lt 0 (length (copied_text q segment)) || copies_fin q segment) ≡ true
    → copy_start q segment + length (copied_text q segment) ≤ length q.taken
copied_within q segment e =
    let size = length-take (length q.taken - copy_start q segment) (drop (below q.answered (first_of q.cisn segment)) (text_of segment)) in
    ⊎_elim
    (λ t. let some : 0 < length (copied_text q segment) = ltb-true _ _ t in omega (arith, size, some))
    (λ t. let one = and_parts (fin_of segment && q.fin && int_eq (end_of q segment) (pos (length q.taken))) (nat_le q.answered (length q.taken)) t in
    let two = and_parts (fin_of segment && q.fin) (int_eq (end_of q segment) (pos (length q.taken))) one.0 in
    let low : q.answered ≤ length q.taken = leb-true _ _ one.1 in
    let at = begins_within q.answered (first_of q.cisn segment) (length (text_of segment)) (length q.taken) two.1 low in
    omega (arith, size, at))
    (or_cases _ _ e)

-- a FIN that is copied is taken
copied_fin : (q : Point) (segment : Segment) → copies_fin q segment ≡ true → q.fin ≡ true
copied_fin q segment k =
    let one = and_parts (fin_of segment && q.fin && int_eq (end_of q segment) (pos (length q.taken))) (nat_le q.answered (length q.taken)) k in
    let two = and_parts (fin_of segment && q.fin) (int_eq (end_of q segment) (pos (length q.taken))) one.0 in
    (and_parts (fin_of segment) q.fin two.0).1

own_copy : (p q : Point) (segment : Segment) → (nat_lt 0 (length (copied_text q segment)) || copies_fin q segment) ≡ true → IsCopy (Comes segment) p q (copied_part q segment)
own_copy p q segment some =
    let cut : IsCut (copied_text q segment) (text_of segment) = (below q.answered (first_of q.cisn segment), length q.taken - copy_start q segment, refl) in
    record {
      key = refl;
      acked = refl;
      within = λ g. copied_within q segment some;
      fin = copied_fin q segment;
      text = inl cut;
      short = cut_short (copied_text q segment) (text_of segment) 1460 cut;
      form = inl (inl refl);
      batch = λ m. absurd (true≢false (sym m));
    }

all_own : (P : Body → Type 0) (p q : Point) (segment : Segment) → ((part : Part) → IsCopy (Comes segment) p q part → P (DataMsg part)) → AllByRecursion P (own_data q segment)
unfolding own_data
all_own P p q segment f =
    holds_if (AllByRecursion P) (nat_lt 0 (length (copied_text q segment)) || copies_fin q segment) (DataMsg (copied_part q segment) ∷ []) []
    (λ t. (f (copied_part q segment) (own_copy p q segment t), tt)) (λ t. tt)

-- what was held

-- a Data among those that tell the bytes from a start on, and the FIN if they end there
record IsPiece (whole : List ℕ) (owner : Key) (una start : ℕ) (ends : Bool) (part : Part) : Type 0 where
  key : part.key ≡ owner
  acked : part.acked ≡ una
  stands : IsPrefix part.bytes (drop part.offset whole)
  within : (ends ≡ true → start ≤ length whole) → part.offset ≤ length whole
  short : length part.bytes ≤ 1460
  fin : part.fin ≡ true → ends ≡ true
  last : part.fin ≡ true → part.bytes ≡ drop part.offset whole
  alone : part.more ≡ false

first_piece : (whole : List ℕ) (owner : Key) (una start : ℕ) (ends : Bool) → 1460 < length (drop start whole)
    → IsPiece whole owner una start ends (record { key = owner; offset = start; acked = una; fin = false; more = false; bytes = take 1460 (drop start whole) })
first_piece whole owner una start ends long = record {
  key = refl;
  acked = refl;
  stands = take_first 1460 (drop start whole);
  within = λ h. omega (arith, long, length-drop start whole);
  short = omega (arith, length-take 1460 (drop start whole));
  fin = λ e. absurd (true≢false (sym e));
  last = λ e. absurd (true≢false (sym e));
  alone = refl;
}

last_piece : (whole : List ℕ) (owner : Key) (una start : ℕ) (ends : Bool) → length (drop start whole) ≤ 1460 → (nat_lt 0 (length (drop start whole)) || ends) ≡ true
    → IsPiece whole owner una start ends (record { key = owner; offset = start; acked = una; fin = ends; more = false; bytes = drop start whole })
last_piece whole owner una start ends short some = record {
  key = refl;
  acked = refl;
  stands = prefix_refl (drop start whole);
  within = λ h. ⊎_elim (λ t. let long : 0 < length (drop start whole) = ltb-true _ _ t in omega (arith, long, length-drop start whole)) h (or_cases (nat_lt 0 (length (drop start whole))) ends some);
  short = short;
  fin = λ e. e;
  last = λ e. refl;
  alone = refl;
}

later_piece : (whole : List ℕ) (owner : Key) (una start : ℕ) (ends : Bool) (part : Part) → 1460 < length (drop start whole)
    → IsPiece whole owner una (start + 1460) ends part → IsPiece whole owner una start ends part
later_piece whole owner una start ends part long p = record {
  key = p.key;
  acked = p.acked;
  stands = p.stands;
  within = λ h. p.within (λ e. omega (arith, long, length-drop start whole));
  short = p.short;
  fin = p.fin;
  last = p.last;
  alone = p.alone;
}

all_datas : (P : Body → Type 0) (whole : List ℕ) (k : ℕ) (owner : Key) (una start : ℕ) (ends : Bool)
    → ((part : Part) → IsPiece whole owner una start ends part → P (DataMsg part)) → AllByRecursion P (datas k owner una start (drop start whole) ends)
unfolding datas
all_datas P whole zero owner una start ends f = tt
all_datas P whole (suc k) owner una start ends f =
    holds_if (AllByRecursion P) (nat_lt 1460 (length (drop start whole))) _ _
    (λ t. let long : 1460 < length (drop start whole) = ltb-true _ _ t in (
      f _ (first_piece whole owner una start ends long),
      subst (λ l. AllByRecursion P (datas k owner una (start + 1460) l ends)) (sym (drop-drop 1460 start whole))
          (all_datas P whole k owner una (start + 1460) ends (λ part p. f part (later_piece whole owner una start ends part long p))),
    ))
    (λ t. holds_if (AllByRecursion P) (nat_lt 0 (length (drop start whole)) || ends) _ []
    (λ s. (f _ (last_piece whole owner una start ends (ltb-false _ _ t) s), tt)) (λ s. tt))

-- where a held FIN is told the Data begin within what is taken
held_within : (p q : Point) (segment : Segment) → Grows p q → takes_held_fin p q segment ≡ true → further_start p q segment ≤ length q.taken
held_within p q segment g e =
    let one = and_parts (q.fin && not p.fin && not (copies_fin q segment)) (nat_le q.answered (length q.taken)) e in
    let low : q.answered ≤ length q.taken = leb-true _ _ one.1 in
    omega (arith, low, g)

held_fin : (p q : Point) (segment : Segment) → takes_held_fin p q segment ≡ true → q.fin ≡ true
held_fin p q segment e =
    let one = and_parts (q.fin && not p.fin && not (copies_fin q segment)) (nat_le q.answered (length q.taken)) e in
    let two = and_parts (q.fin && not p.fin) (not (copies_fin q segment)) one.0 in
    (and_parts q.fin (not p.fin) two.0).0

prefix_within : (part whole : List ℕ) (offset : ℕ) → IsPrefix part (drop offset whole) → offset ≤ length whole → offset + length part ≤ length whole
prefix_within part whole offset p low = omega (arith, low, ap length p.1, length-append part p.0, length-drop offset whole)

further_copy : (p q : Point) (segment : Segment) (part : Part) → IsPiece q.taken q.key q.una (further_start p q segment) (takes_held_fin p q segment) part
    → IsCopy (Comes segment) p q part
further_copy p q segment part i = record {
  key = i.key;
  acked = i.acked;
  within = λ g. prefix_within part.bytes q.taken part.offset i.stands (i.within (held_within p q segment g));
  fin = λ e. held_fin p q segment (i.fin e);
  text = inr i.stands;
  short = λ h. i.short;
  form = inr (inr (record {
    stands = i.stands;
    fin = λ e. (held_fin p q segment (i.fin e), λ g. let low = i.within (held_within p q segment g) in omega (arith, low, ap length (i.last e), length-drop part.offset q.taken));
  }));
  batch = λ m. absurd (true≢false (sym m ∙ i.alone));
}

all_further : (P : Body → Type 0) (p q : Point) (segment : Segment) → ((part : Part) → IsCopy (Comes segment) p q part → P (DataMsg part)) → AllByRecursion P (further_data p q segment)
unfolding further_data
all_further P p q segment f =
    all_datas P q.taken (length (further_text p q segment) + 1) q.key q.una (further_start p q segment) (takes_held_fin p q segment)
    (λ part i. f part (further_copy p q segment part i))

-- the acknowledgement alone

una_copy : (p q : Point) (segment : Segment) → IsCopy (Comes segment) p q (una_part q)
una_copy p q segment = record {
  key = refl;
  acked = refl;
  within = λ g. omega arith;
  fin = λ k. absurd (true≢false (sym k));
  text = inl (0, 0, refl);
  short = λ h. omega arith;
  form = inr (inl (inl refl));
  batch = λ m. absurd (true≢false (sym m));
}

all_or_una : (P : Body → Type 0) (p q : Point) (bodies : List Body) → P (DataMsg (una_part q)) → AllByRecursion P bodies → AllByRecursion P (or_una p q bodies)
all_or_una P p q [] u a = holds_if (AllByRecursion P) (nat_lt p.una q.una) (DataMsg (una_part q) ∷ []) [] (λ x. (u, tt)) (λ x. tt)
all_or_una P p q (body ∷ bodies) u a = a

-- in a batch each but the last says that a later one follows
later_form : (news : News) (p q : Point) (part : Part) → HasForm news p q part → HasForm news p q (as_later part)
later_form (Comes segment) p q part form =
    ⊎_elim (λ f. inl (inr (later_of (copied_part q segment) f)))
    (λ rest. ⊎_elim (λ f. inr (inl (inr (later_of (una_part q) f)))) (λ f. inr (inr (record { stands = f.stands; fin = λ e. absurd (true≢false (sym e)) }))) rest) form
  where
    later_of : (whole : Part) → IsOf whole part → as_later part ≡ as_later whole
    later_of whole f = ⊎_elim (λ e. ap as_later e) (λ e. ap as_later e) f
later_form (Logged kept) p q part form = absurd form
later_form Ticks p q part form = absurd form
later_form Begins p q part form = absurd form

later_copy : (news : News) (p q : Point) (part : Part) → q.batches ≡ true → IsCopy news p q part → IsCopy news p q (as_later part)
later_copy news p q part on c = record {
  key = c.key;
  acked = c.acked;
  within = c.within;
  fin = λ e. absurd (true≢false (sym e));
  text = c.text;
  short = c.short;
  form = later_form news p q part c.form;
  batch = λ m. (refl, on);
}

all_batch : (P Q : Body → Type 0) (bodies : List Body) → ((body : Body) → P body → Q body) → ((body : Body) → P body → Q (with_more body)) → AllByRecursion P bodies → AllByRecursion Q (batch bodies)
unfolding batch
all_batch P Q [] f g a = tt
all_batch P Q (last ∷ []) f g a = (f last a.0, tt)
all_batch P Q (first ∷ next ∷ others) f g a = (g first a.0, all_batch P Q (next ∷ others) f g a.1)

-- a body of the law Copy
abbrev CopyBody : News → (before after : Point) → Body → Type 0
CopyBody news before after body = (part : Part) × (body ≡ DataMsg part) × IsCopy news before after part

-- the law Copy: all that a turn copies is so
pub all_copies : (P : Body → Type 0) (news : News) (before after : Point) → ((part : Part) → IsCopy news before after part → P (DataMsg part)) → AllByRecursion P (copies news before after)
unfolding copies
all_copies P (Comes segment) before after f =
    let C : Body → Type 0 = CopyBody (Comes segment) before after in
    let put : (part : Part) → IsCopy (Comes segment) before after part → C (DataMsg part) = λ part c. (part, refl, c) in
    let bodies : List Body = or_una before after (own_data after segment ++ further_data before after segment) in
    let all : AllByRecursion C bodies = all_or_una C before after (own_data after segment ++ further_data before after segment) (put (una_part after) (una_copy before after segment))
    (all_append C (own_data after segment) (further_data before after segment) (all_own C before after segment put) (all_further C before after segment put)) in
    holds_if (AllByRecursion P) after.batches (batch bodies) bodies
    (λ on. all_batch C P bodies (λ body c. subst P (sym c.1) (f c.0 c.2))
    (λ body c. subst (λ b. P (with_more b)) (sym c.1) (f (as_later c.0) (later_copy (Comes segment) before after c.0 on c.2))) all)
    (λ off. all_weaker C P bodies (λ body c. subst P (sym c.1) (f c.0 c.2)) all)
all_copies P (Logged kept) before after f = tt
all_copies P Ticks before after f = tt
all_copies P Begins before after f = tt
