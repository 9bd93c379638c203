-- Messages one after the other: each tells its own length, so bytes say one list of them.
use Rattle.std.proofs.Common.{◌≡◌, ◌∙◌, ◌⊎◌, inl, inr, ℕ, ◌<◌, ◌≤◌, ◌+◌, Bool, true, false, not, List, [], ◌∷◌, ◌++◌, length, take, drop, get_or, refl, sym, ap, subst, arith, length-append}
use Rattle.std.specs.Prelude.{Option, None, Some, Result, Ok, Err, IsOk, IsErr, nat_eq, nat_lt, ◌==◌, ◌||◌, slice_index, if◌then◌else◌}
use Rattle.std.proofs.lemmas.Bool.{ltb-false, not-false, eqb-false, eqb-true}
use Rattle.std.proofs.lemmas.List.{get_or_append_left, take_at, drop_at, take-append-drop}
use Rattle.forget_store.specs.declared.heeding.Heeded.{Heeded}
use Rattle.ft_io.proofs.Choices.{same_some}
use Rattle.ft_io.proofs.Booleans.{left_false, right_false}
use Rattle.seq_arith.specs.declared.kinds.BadMsg.{BadMsg}
use Rattle.seq_arith.specs.declared.kinds.BadMsg.TheVariants as bad
use Rattle.seq_arith.specs.declared.kinds.Grammar.{Grammar}
use Rattle.seq_arith.specs.declared.kinds.Grammar.TheVariants as grammars
use Rattle.seq_arith.specs.declared.kinds.Kind.{Kind}
use Rattle.seq_arith.specs.Bytes.{word_at}
use Rattle.seq_arith.specs.Checksum.{checksum}
use Rattle.seq_arith.specs.Message.{Message}
use Rattle.seq_arith.specs.MessageGrammar.{kind_numbered, has_length, is_sound_in, message_in, version, reading_of, reading_if, reading_by}
use Rattle.seq_arith.proofs.Passing.{same_from}
use Rattle.seq_arith.proofs.Refused.{proceeds, accepted, no_grammar_reads_the_other}
use Rattle.seq_arith.proofs.MessageSpelling.{bounded, room}
use Rattle.ft_model.specs.Log.{Log}
use Rattle.long_laws.specs.Forgetting.{ForgetMessage}
use Rattle.long_laws.specs.ForgetGrammar as forgets
use Rattle.long_laws.specs.ForgetGrammar.{ForgetKind}
use Rattle.long_laws.proofs.ForgetNoise.{no_message}
use Rattle.forget_store.specs.AnyMessage.{AnyMessage, heeded_in, heeded_as, log_after_any, log_after_each}
use Rattle.forget_store.specs.AnyMessage.AnyMessage.{Usual, Forgetting}
use Rattle.kept_log.specs.MessageList.{IsSpelling, IsSpellingOf, Says}
use Rattle.kept_log.specs.JournaledLog.{Waits}

-- what acceptance says of a message's length
pub record IsWhole (bytes : List ℕ) : Type 0 where
  pub long : 16 ≤ length bytes
  pub few : length bytes ≤ 1491
  pub counted : word_at bytes 4 ≡ length bytes

whole_of : (grammar : Grammar) (kind : Kind) (bytes : List ℕ) → IsOk (reading_of grammar kind bytes) → (word_at bytes 4 ≡ length bytes) × (length bytes ≤ 1491)
unfolding reading_of
whole_of grammar kind bytes ok =
    let counted : Bool = not (nat_eq (word_at bytes 4) (length bytes)) in
    let sized : Bool = not (has_length kind (length bytes)) in
    let sum : Bool = not (nat_eq (checksum bytes) 0) in
    let last : Result Message BadMsg = if not (is_sound_in grammar kind bytes) then Err bad.Field else Ok (message_in kind bytes) in
    let passes : ((counted || sized) ≡ false) × IsOk (if sum then Err bad.Sum else last) = proceeds (counted || sized) bad.Length (if sum then Err bad.Sum else last) ok in
    let has : has_length kind (length bytes) ≡ true = not-false _ (right_false counted sized passes.0) in
    (same_from _ _ (left_false counted sized passes.0), omega (arith, (bounded kind (length bytes) has).1, room kind))

whole_if : (grammar : Grammar) (kind : Option Kind) (bytes : List ℕ) → IsOk (reading_if grammar kind bytes) → (word_at bytes 4 ≡ length bytes) × (length bytes ≤ 1491)
whole_if grammar None bytes ok = absurd (cc)
whole_if grammar (Some kind) bytes ok = whole_of grammar kind bytes ok

pub whole : (bytes : List ℕ) (message : Message) → IsSpelling bytes message → IsWhole bytes
unfolding reading_by
whole bytes message s =
    let grammar : Grammar = s.grammar in
    let ok : IsOk (reading_by grammar bytes) = accepted s.reads in
    let short : Bool = nat_lt (length bytes) 16 in
    let magic : Bool = not (nat_eq (word_at bytes 0) 18004) in
    let version : Bool = not (nat_eq (slice_index bytes 2) (version grammar)) in
    let last : Result Message BadMsg = reading_if grammar (kind_numbered (slice_index bytes 3)) bytes in
    let third : Result Message BadMsg = if version then Err bad.Version else last in
    let second : Result Message BadMsg = if magic then Err bad.Magic else third in
    let long : (short ≡ false) × IsOk second = proceeds short bad.Short second ok in
    let rest = whole_if grammar (kind_numbered (slice_index bytes 3)) bytes (proceeds version bad.Version last (proceeds magic bad.Magic third long.1).1).1 in
    record { long = ltb-false (length bytes) 16 long.0; few = rest.1; counted = rest.0 }

word_in_front : (bytes behind : List ℕ) → 5 < length bytes → word_at (bytes ++ behind) 4 ≡ word_at bytes 4
unfolding word_at
word_in_front bytes behind h =
    let high : get_or (bytes ++ behind) 4 0 ≡ get_or bytes 4 0 = get_or_append_left bytes behind 0 4 (omega (arith, h)) in
    let low : get_or (bytes ++ behind) 5 0 ≡ get_or bytes 5 0 = get_or_append_left bytes behind 0 5 h in
    omega (arith, high, low)

-- .. and of one about forgetting
forget_counted : (kind : Option ForgetKind) (bytes : List ℕ) → IsOk (forgets.reading_if kind bytes) → (word_at bytes 4 ≡ length bytes) × (length bytes ≡ 30)
unfolding forgets.reading_of
forget_counted None bytes ok = absurd (cc)
forget_counted (Some kind) bytes ok =
    let counted : Bool = not (nat_eq (word_at bytes 4) (length bytes)) in
    let sized : Bool = not (nat_eq (length bytes) 30) in
    let sum : Bool = not (nat_eq (checksum bytes) 0) in
    let last : Result ForgetMessage BadMsg = if nat_lt (forgets.boot_in bytes) 1 then Err bad.Field else Ok (forgets.message_in kind bytes) in
    let passes : ((counted || sized) ≡ false) × IsOk (if sum then Err bad.Sum else last) = proceeds (counted || sized) bad.Length (if sum then Err bad.Sum else last) ok in
    (same_from _ _ (left_false counted sized passes.0), same_from _ _ (right_false counted sized passes.0))

forget_whole : (bytes : List ℕ) (message : ForgetMessage) → forgets.reading bytes ≡ Ok message → IsWhole bytes
unfolding forgets.reading
forget_whole bytes message is =
    let ok : IsOk (forgets.reading bytes) = accepted is in
    let short : Bool = nat_lt (length bytes) 16 in
    let magic : Bool = not (nat_eq (word_at bytes 0) 18007) in
    let version : Bool = not (nat_eq (slice_index bytes 2) 1) in
    let last : Result ForgetMessage BadMsg = forgets.reading_if (forgets.kind_numbered (slice_index bytes 3)) bytes in
    let third : Result ForgetMessage BadMsg = if version then Err bad.Version else last in
    let second : Result ForgetMessage BadMsg = if magic then Err bad.Magic else third in
    let long : (short ≡ false) × IsOk second = proceeds short bad.Short second ok in
    let rest = forget_counted (forgets.kind_numbered (slice_index bytes 3)) bytes (proceeds version bad.Version last (proceeds magic bad.Magic third long.1).1).1 in
    record { long = omega (arith, rest.1); few = omega (arith, rest.1); counted = rest.0 }

pub any_whole : (bytes : List ℕ) (any : AnyMessage) → IsSpellingOf bytes any → IsWhole bytes
any_whole bytes (Usual message) s = whole bytes message s
any_whole bytes (Forgetting message) is = forget_whole bytes message is

-- the first message has the length that stands in it, and is not empty
pub record IsFirst (bytes first : List ℕ) : Type 0 where
  pub long : 16 ≤ length first
  pub within : length first ≤ length bytes
  pub length_is : length first ≡ word_at bytes 4

pub first_is : (bytes first rest : List ℕ) (any : AnyMessage) → bytes ≡ first ++ rest → IsSpellingOf first any → IsFirst bytes first
first_is bytes first rest any is reads =
    let w = any_whole first any reads in
    let count : length bytes ≡ length first + length rest = ap length is ∙ length-append first rest in
    record {
      long = w.long;
      within = omega (arith, count);
      length_is = sym (ap (λ (b : List ℕ). word_at b 4) is ∙ (word_in_front first rest (omega (arith, w.long)) ∙ w.counted));
    }

-- no message is too short to say its length
pub none_short : (bytes : List ℕ) (messages : List AnyMessage) → (length bytes < 6) ⊎ (length bytes < word_at bytes 4) → Says bytes messages → bytes ≡ []
none_short bytes [] short says = says
none_short bytes (message ∷ messages) short (first, rest, is, reads, says) =
    let f = first_is bytes first rest message is reads in
    elim short as (λ _. bytes ≡ []) [
      | inl few ↦ absurd (omega (arith, few, f.long, f.within))
      | inr more ↦ absurd (omega (arith, more, f.within, f.length_is))
    ]

-- what says messages and is not empty begins with one, of the length that stands in it
pub record BeginsWithMessage (bytes : List ℕ) (n : ℕ) : Type 0 where
  pub first : AnyMessage
  pub others : List AnyMessage
  pub reads : IsSpellingOf (take n bytes) first
  pub says : Says (drop n bytes) others

pub first_read : (bytes : List ℕ) (n : ℕ) (messages : List AnyMessage) → (bytes ≡ [] → ⊥) → n ≡ word_at bytes 4 → Says bytes messages → BeginsWithMessage bytes n
first_read bytes n [] some at says = absurd (some says)
first_read bytes n (message ∷ messages) some at (first, rest, is, reads, says) =
    let f = first_is bytes first rest message is reads in
    let same : length first ≡ n = f.length_is ∙ sym at in
    let front : take n bytes ≡ first = ap (take n) is ∙ take_at first rest n same in
    let behind : drop n bytes ≡ rest = ap (drop n) is ∙ drop_at first rest n same in
    record {
      first = message;
      others = messages;
      reads = subst (λ b. IsSpellingOf b message) (sym front) reads;
      says = subst (λ b. Says b messages) (sym behind) says;
    }

-- a body of which this is left, with the log before it and the log so far
pub record Left (body rest : List ℕ) (before after : Log) : Type 0 where
  pub forwards : (more : List AnyMessage) → Says rest more → (all : List AnyMessage) × Says body all × (log_after_each after more ≡ log_after_each before all)
  pub backwards : (all : List AnyMessage) → Says body all → (more : List AnyMessage) × Says rest more

pub left_all : (body : List ℕ) (log : Log) → Left body body log log
left_all body log = record { forwards = λ more says. (more, says, refl); backwards = λ all says. (all, says) }

pub left_less : (body rest : List ℕ) (before after : Log) (n : ℕ) (message : AnyMessage) → (rest ≡ [] → ⊥) → n ≡ word_at rest 4 → IsSpellingOf (take n rest) message
    → Left body rest before after → Left body (drop n rest) before (log_after_any after message)
left_less body rest before after n message some at reads left = record {
  forwards = λ more says. left.forwards (message ∷ more) (take n rest, drop n rest, sym (take-append-drop n rest), reads, says);
  backwards = λ all says.
      let now = left.backwards all says in
      let next = first_read rest n now.0 some at now.1 in
      (next.others, next.says);
}

pub left_none : (body rest : List ℕ) (before after : Log) → rest ≡ [] → Left body rest before after → Waits before body after
left_none body rest before after none left =
    let all = left.forwards [] none in
    record { messages = all.0; says = all.1; log_is = all.2 }

-- the next is no message
pub left_wrong : (body rest : List ℕ) (before after : Log) (n : ℕ) → (rest ≡ [] → ⊥) → n ≡ word_at rest 4 → ((message : AnyMessage) → IsSpellingOf (take n rest) message → ⊥)
    → Left body rest before after → (all : List AnyMessage) → Says body all → ⊥
left_wrong body rest before after n some at bad left all says =
    let now = left.backwards all says in
    let next = first_read rest n now.0 some at now.1 in
    bad next.first next.reads

pub left_short : (body rest : List ℕ) (before after : Log) → (rest ≡ [] → ⊥) → ((messages : List AnyMessage) → Says rest messages → rest ≡ [])
    → Left body rest before after → (all : List AnyMessage) → Says body all → ⊥
left_short body rest before after some short left all says =
    let now = left.backwards all says in
    some (short now.0 now.1)

pub not_empty : (bytes : List ℕ) (b : Bool) → b ≡ (length bytes == 0) → b ≡ false → bytes ≡ [] → ⊥
not_empty bytes b is some none = eqb-false (length bytes) 0 (sym is ∙ some) (ap length none)

pub is_empty : (bytes : List ℕ) (b : Bool) → b ≡ (length bytes == 0) → b ≡ true → bytes ≡ []
is_empty [] b is none = refl
is_empty (byte ∷ bytes) b is none = absurd (omega (arith, eqb-true (length (byte ∷ bytes)) 0 (sym is ∙ none)))

-- what neither grammar reads is no message
pub not_read : (bytes : List ℕ) (bad other : BadMsg) (message : Message) → reading_by grammars.Plain bytes ≡ Err bad → reading_by grammars.Wide bytes ≡ Err other → IsSpelling bytes message → ⊥
not_read bytes bad other message plain wide s = go s.grammar s.reads
  where
    err_ok : (b : BadMsg) (m : Message) → Err b ≡ Ok m → ⊥
    err_ok b m e = cc

    go : (grammar : Grammar) → reading_by grammar bytes ≡ Ok message → ⊥
    go grammars.Plain is = err_ok bad message (sym plain ∙ is)
    go grammars.Wide is = err_ok other message (sym wide ∙ is)

-- bytes spell one message
pub one_message : (bytes : List ℕ) (message other : Message) → IsSpelling bytes message → IsSpelling bytes other → message ≡ other
one_message bytes message other a b = go a.grammar b.grammar a.reads b.reads
  where
    same_ok : (r : Result Message BadMsg) (x y : Message) → r ≡ Ok x → r ≡ Ok y → x ≡ y
    same_ok r x y a b = cc

    apart : grammars.Plain ≡ grammars.Wide → ⊥
    apart e = cc

    err_ok : (b : BadMsg) (m : Message) → Err b ≡ Ok m → ⊥
    err_ok b m e = cc

    go : (g h : Grammar) → reading_by g bytes ≡ Ok message → reading_by h bytes ≡ Ok other → message ≡ other
    go grammars.Plain grammars.Plain is also = same_ok (reading_by grammars.Plain bytes) message other is also
    go grammars.Wide grammars.Wide is also = same_ok (reading_by grammars.Wide bytes) message other is also
    go grammars.Plain grammars.Wide is also = absurd (err_ok bad.Version other (sym (no_grammar_reads_the_other grammars.Plain grammars.Wide bytes message is apart) ∙ also))
    go grammars.Wide grammars.Plain is also = absurd (err_ok bad.Version other (sym (no_grammar_reads_the_other grammars.Wide grammars.Plain bytes message is (λ e. apart (sym e))) ∙ also))

-- .. and about forgetting as well
pub one_any : (bytes : List ℕ) (any other : AnyMessage) → IsSpellingOf bytes any → IsSpellingOf bytes other → any ≡ other
one_any bytes (Usual message) (Usual other) a b = ap Usual (one_message bytes message other a b)
one_any bytes (Usual message) (Forgetting other) a b = absurd (no_both (reading_by a.grammar bytes) a.reads (no_message a.grammar bytes other b))
  where
    no_both : (r : Result Message BadMsg) → r ≡ Ok message → IsErr r → ⊥
    no_both (Ok m) is err = cc
    no_both (Err e) is err = cc
one_any bytes (Forgetting message) (Usual other) a b = absurd (no_both (reading_by b.grammar bytes) b.reads (no_message b.grammar bytes message a))
  where
    no_both : (r : Result Message BadMsg) → r ≡ Ok other → IsErr r → ⊥
    no_both (Ok m) is err = cc
    no_both (Err e) is err = cc
one_any bytes (Forgetting message) (Forgetting other) a b = ap Forgetting (same_ok (forgets.reading bytes) message other a b)
  where
    same_ok : (r : Result ForgetMessage BadMsg) (x y : ForgetMessage) → r ≡ Ok x → r ≡ Ok y → x ≡ y
    same_ok r x y a b = cc

-- what is neither a message of the log nor one about forgetting is none
pub none_any : (bytes : List ℕ) (bad : BadMsg) (any : AnyMessage) → ((message : Message) → IsSpelling bytes message → ⊥) → forgets.reading bytes ≡ Err bad → IsSpellingOf bytes any → ⊥
none_any bytes bad (Usual message) none other s = none message s
none_any bytes bad (Forgetting message) none other is = err_ok bad message (sym other ∙ is)
  where
    err_ok : (b : BadMsg) (m : ForgetMessage) → Err b ≡ Ok m → ⊥
    err_ok b m e = cc

-- what a logger heeds is a message
pub spelling_heeded : (heeded : Heeded) (bytes : List ℕ) (any : AnyMessage) → heeded_in heeded bytes ≡ Some any → IsSpellingOf bytes any
spelling_heeded heeded bytes any is = go heeded.forgets (reading_by heeded.grammar bytes) refl (forgets.reading bytes) refl is
  where
    go : (f : Bool) (r : Result Message BadMsg) → reading_by heeded.grammar bytes ≡ r → (q : Result ForgetMessage BadMsg) → forgets.reading bytes ≡ q → heeded_as f r q ≡ Some any
        → IsSpellingOf bytes any
    go f (Ok message) reads q other same = subst (IsSpellingOf bytes) (same_some same) (record { grammar = heeded.grammar; reads = reads })
    go true (Err b) reads (Ok message) other same = subst (IsSpellingOf bytes) (same_some same) other
    go true (Err b) reads (Err bad) other same = cc
    go false (Err b) reads q other same = cc
