-- A file says one thing: bytes are one list of messages, and a file one list of blocks.
use Rattle.std.proofs.Common.{◌≡◌, ◌∙◌, inl, inr, ℕ, List, [], ◌∷◌, ◌++◌, length, take, drop, refl, sym, ap, ap₂, subst, arith, append_assoc, length-append}
use Rattle.std.specs.List.{AllByRecursion}
use Rattle.std.proofs.lemmas.List.{take_at, drop_at}
use Rattle.forget_store.specs.AnyMessage.{AnyMessage}
use Rattle.disk.specs.declared.calls.DiskCall.{DiskCall}
use Rattle.kept_log.specs.Format.{header, block, first_tip, next_tip, tip_behind, chain, HasBlocks, IsRound}
use Rattle.kept_log.specs.declared.tip.Tip.{Tip}
use Rattle.kept_log.proofs.Blocks.{salt_long, header_long, block_once}
use Rattle.kept_log.proofs.OneReading.{header_once, reads_once}
use Rattle.kept_log.specs.MessageList.{IsSpellingOf, Says, AllSay, AreKept}
use Rattle.kept_log.specs.Startup.{IsTorn, IsWhole, IsDamaged, IsUnfinished, HasNoBlock}
use Rattle.kept_log.proofs.Messages.{first_is, one_any}

empty_says : (bytes first rest : List ℕ) (message : AnyMessage) → bytes ≡ [] → bytes ≡ first ++ rest → IsSpellingOf first message → ⊥
empty_says bytes first rest message none is reads =
    let f = first_is bytes first rest message is reads in
    omega (arith, f.long, f.within, ap length none)

pub says_once : (bytes : List ℕ) (messages others : List AnyMessage) → Says bytes messages → Says bytes others → messages ≡ others
says_once bytes [] [] a b = refl
says_once bytes [] (message ∷ others) none (first, rest, is, reads, says) = absurd (empty_says bytes first rest message none is reads)
says_once bytes (message ∷ messages) [] (first, rest, is, reads, says) none = absurd (empty_says bytes first rest message none is reads)
says_once bytes (message ∷ messages) (other ∷ others) (first, rest, is, reads, says) (first_2, rest_2, is_2, reads_2, says_2) =
    let f = first_is bytes first rest message is reads in
    let g = first_is bytes first_2 rest_2 other is_2 reads_2 in
    let long : length first ≡ length first_2 = f.length_is ∙ sym g.length_is in
    let same : first ≡ first_2 = sym (take_at first rest (length first) refl) ∙ (ap (take (length first)) (sym is ∙ is_2) ∙ take_at first_2 rest_2 (length first) (sym long)) in
    let behind : rest_2 ≡ rest = sym (drop_at first_2 rest_2 (length first) (sym long)) ∙ (ap (drop (length first)) (sym is_2 ∙ is) ∙ drop_at first rest (length first) refl) in
    ap₂ (λ (x : AnyMessage) (xs : List AnyMessage). x ∷ xs) (one_any first message other reads (subst (λ b. IsSpellingOf b other) (sym same) reads_2))
    (says_once rest messages others says (subst (λ r. Says r others) behind says_2))

pub all_say_once : (bodies : List (List ℕ)) (messages others : List AnyMessage) → AllSay bodies messages → AllSay bodies others → messages ≡ others
all_say_once [] messages others a b = a ∙ sym b
all_say_once (body ∷ bodies) messages others (first, rest, is, own, say) (first_2, rest_2, is_2, own_2, say_2) =
    is ∙ (ap₂ (λ (x : List AnyMessage) (y : List AnyMessage). x ++ y) (says_once body first first_2 own own_2) (all_say_once bodies rest rest_2 say say_2) ∙ sym is_2)

pub whole_has : (file made : List ℕ) (bodies : List (List ℕ)) (calls : List DiskCall) → IsWhole file made bodies calls → HasBlocks made bodies file
whole_has file made bodies calls whole = record { time = whole.time; tail = whole.tail; is = whole.is; none = whole.torn.none }

pub one_log : (file made time : List ℕ) (bodies others : List (List ℕ)) (messages more : List AnyMessage) (calls called : List DiskCall) → IsWhole file made bodies calls → AreKept bodies messages
    → IsWhole file time others called → AreKept others more → (bodies ≡ others) × (messages ≡ more)
one_log file made time bodies others messages more calls called whole kept found also =
    let same = (reads_once file made time bodies others kept.small also.small (whole_has file made bodies calls whole) (whole_has file time others called found)).1 in
    (same, all_say_once bodies messages more kept.say (subst (λ b. AllSay b more) (sym same) also.say))

not_broken : (tip : Tip) (bodies found : List (List ℕ)) (messages : List AnyMessage) (tail rest : List ℕ) → length tip.salt ≡ 16 → AllByRecursion IsRound bodies → AllSay bodies messages
    → IsTorn (tip_behind tip bodies) tail → AllByRecursion IsRound found → chain tip bodies ++ tail ≡ chain tip found ++ rest → HasNoBlock (tip_behind tip found) rest → ⊥
not_broken tip [] [] messages tail rest salt small say torn also is none = none.no_end (subst (IsTorn tip) is torn)
not_broken tip [] (f ∷ found) messages tail rest salt small say torn also is none =
    torn.none f (chain (next_tip tip f) found ++ rest) also.0 (is ∙ append_assoc (block tip f) (chain (next_tip tip f) found) rest)
not_broken tip (b ∷ bodies) [] messages tail rest salt small (first, others, split, own, say) torn also is none =
    none.no_block b (chain (next_tip tip b) bodies ++ tail) first small.0 (sym is ∙ append_assoc (block tip b) (chain (next_tip tip b) bodies) tail) own
not_broken tip (b ∷ bodies) (f ∷ found) messages tail rest salt small (first, others, split, own, say) torn also is none =
    let spread : block tip b ++ (chain (next_tip tip b) bodies ++ tail) ≡ block tip f ++ (chain (next_tip tip f) found ++ rest) =
    sym (append_assoc (block tip b) (chain (next_tip tip b) bodies) tail) ∙ (is ∙ append_assoc (block tip f) (chain (next_tip tip f) found) rest) in
    let once = block_once tip b f (chain (next_tip tip b) bodies ++ tail) (chain (next_tip tip f) found ++ rest) salt small.0 also.0 spread in
    let behind : chain (next_tip tip b) bodies ++ tail ≡ chain (next_tip tip b) found ++ rest = once.1 ∙ ap (λ (x : List ℕ). chain (next_tip tip x) found ++ rest) (sym once.0) in
    not_broken (next_tip tip b) bodies found others tail rest salt small.1 say torn also.1 behind
    (subst (λ (x : List ℕ). HasNoBlock (tip_behind (next_tip tip x) found) rest) (sym once.0) none)

pub not_damaged : (file made : List ℕ) (bodies : List (List ℕ)) (messages : List AnyMessage) (calls : List DiskCall) (at : ℕ) → IsWhole file made bodies calls → AreKept bodies messages
    → IsDamaged at file → ⊥
not_damaged file made bodies messages calls at whole kept (inl (place, none)) =
    none.no_header made (chain (first_tip made) bodies ++ whole.tail) whole.time (whole.is ∙ append_assoc (header made) (chain (first_tip made) bodies) whole.tail)
not_damaged file made bodies messages calls at whole kept (inr broken) =
    let spread : header made ++ (chain (first_tip made) bodies ++ whole.tail) ≡ header broken.made ++ (chain (first_tip broken.made) broken.bodies ++ broken.rest) =
    sym (append_assoc (header made) (chain (first_tip made) bodies) whole.tail)
    ∙ (sym whole.is ∙ (broken.is ∙ append_assoc (header broken.made) (chain (first_tip broken.made) broken.bodies) broken.rest)) in
    let once = header_once made broken.made (chain (first_tip made) bodies ++ whole.tail) (chain (first_tip broken.made) broken.bodies ++ broken.rest) whole.time broken.time spread in
    let behind : chain (first_tip made) bodies ++ whole.tail ≡ chain (first_tip made) broken.bodies ++ broken.rest =
    once.1 ∙ ap (λ (x : List ℕ). chain (first_tip x) broken.bodies ++ broken.rest) (sym once.0) in
    not_broken (first_tip made) bodies broken.bodies messages whole.tail broken.rest (salt_long made) kept.small kept.say whole.torn broken.kept.small behind
    (subst (λ (x : List ℕ). HasNoBlock (tip_behind (first_tip x) broken.bodies) broken.rest) (sym once.0) broken.none)

pub not_unfinished : (file made : List ℕ) (bodies : List (List ℕ)) (calls : List DiskCall) → IsWhole file made bodies calls → IsUnfinished file → ⊥
not_unfinished file made bodies calls whole short =
    omega (
      arith,
      short.0,
      ap length whole.is,
      length-append (header made ++ chain (first_tip made) bodies) whole.tail,
      length-append (header made) (chain (first_tip made) bodies),
      header_long made whole.time,
    )
