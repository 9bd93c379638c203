-- The log of blocks, and of one block more.
use Rattle.std.proofs.Common.{◌≡◌, ◌∙◌, ℕ, List, [], ◌∷◌, ◌++◌, length, refl, sym, ap, subst, arith, append_assoc, append-nil, length-append}
use Rattle.std.specs.List.{AllByRecursion}
use Rattle.ft_model.specs.Log.{Log, empty_log}
use Rattle.forget_store.specs.AnyMessage.{AnyMessage, log_after_any, log_after_each}
use Rattle.kept_log.specs.Format.{first_tip, next_tip, IsRound}
use Rattle.kept_log.specs.declared.tip.Tip.{Tip}
use Rattle.kept_log.proofs.Blocks.{tip_push}
use Rattle.kept_log.specs.MessageList.{IsSpellingOf, Says, AllSay}
use Rattle.kept_log.specs.JournaledLog.{HasLog, Waits, with_round}
use Rattle.kept_log.proofs.Messages.{any_whole}

pub small_push : (bodies : List (List ℕ)) (body : List ℕ) → AllByRecursion IsRound bodies → IsRound body → AllByRecursion IsRound (bodies ++ body ∷ [])
small_push [] body small is = (is, tt)
small_push (b ∷ bodies) body small is = (small.0, small_push bodies body small.1 is)

pub say_push : (bodies : List (List ℕ)) (messages : List AnyMessage) (body : List ℕ) (news : List AnyMessage) → AllSay bodies messages → Says body news → AllSay (bodies ++ body ∷ []) (messages ++ news)
say_push [] messages body news say says = (news, [], ap (λ (l : List AnyMessage). l ++ news) say ∙ sym (append-nil news), says, refl)
say_push (b ∷ bodies) messages body news (first, rest, is, own, say) says =
    (first, rest ++ news, ap (λ (l : List AnyMessage). l ++ news) is ∙ append_assoc first rest news, own, say_push bodies rest body news say says)

after_both : (log : Log) (messages news : List AnyMessage) → log_after_each (log_after_each log messages) news ≡ log_after_each log (messages ++ news)
after_both log [] news = refl
after_both log (message ∷ messages) news = after_both (log_after_any log message) messages news

pub no_blocks : (made : List ℕ) → length made ≡ 8 → HasLog made [] (first_tip made) empty_log
no_blocks made time = record { time = time; messages = []; kept = record { small = tt; say = refl }; tip_is = refl; log_is = refl }

pub block_more : (made : List ℕ) (bodies : List (List ℕ)) (tip : Tip) (before log : Log) (body : List ℕ) → HasLog made bodies tip before → IsRound body → Waits before body log
    → HasLog made (bodies ++ body ∷ []) (next_tip tip body) log
block_more made bodies tip before log body has few waits = record {
  time = has.time;
  messages = has.messages ++ waits.messages;
  kept = record { small = small_push bodies body has.kept.small few; say = say_push bodies has.messages body waits.messages has.kept.say waits.says };
  tip_is = ap (λ t. next_tip t body) has.tip_is ∙ sym (tip_push made bodies body);
  log_is = waits.log_is ∙ (ap (λ l. log_after_each l waits.messages) has.log_is ∙ after_both empty_log has.messages waits.messages);
}

-- a message that waits last
pub says_push : (bytes last : List ℕ) (messages : List AnyMessage) (message : AnyMessage) → Says bytes messages → IsSpellingOf last message → Says (bytes ++ last) (messages ++ message ∷ [])
says_push bytes last [] message none reads = (last, [], ap (λ (l : List ℕ). l ++ last) none ∙ sym (append-nil last), reads, refl)
says_push bytes last (m ∷ messages) message (first, rest, is, own, says) reads =
    (first, rest ++ last, ap (λ (l : List ℕ). l ++ last) is ∙ append_assoc first rest last, own, says_push rest last messages message says reads)

pub waits_more : (before log after : Log) (round bytes : List ℕ) (message : AnyMessage) → Waits before round log → IsSpellingOf bytes message → after ≡ log_after_any log message
    → Waits before (round ++ bytes) after
waits_more before log after round bytes message waits reads next = record {
  messages = waits.messages ++ message ∷ [];
  says = says_push round bytes waits.messages message waits.says reads;
  log_is = next ∙ (ap (λ l. log_after_any l message) waits.log_is ∙ after_both before waits.messages (message ∷ []));
}

-- a round in which nothing waits
pub none_waits : (before log : Log) (round : List ℕ) → round ≡ [] → Waits before round log → log ≡ before
none_waits before log round none waits = go waits.messages waits.says waits.log_is
  where
    go : (messages : List AnyMessage) → Says round messages → log ≡ log_after_each before messages → log ≡ before
    go [] says is = is
    go (message ∷ messages) (first, rest, is, reads, says) after =
        let w = any_whole first message reads in
        absurd (omega (arith, w.long, ap length (sym is ∙ none), length-append first rest))

pub kept_none : (made : List ℕ) (bodies : List (List ℕ)) (round : List ℕ) (tip : Tip) (before log : Log) → round ≡ [] → HasLog made bodies tip before → Waits before round log
    → HasLog made (with_round bodies round) tip log
kept_none made bodies round tip before log none has waits =
    subst (λ r. HasLog made (with_round bodies r) tip log) (sym none) (subst (HasLog made bodies tip) (sym (none_waits before log round none waits)) has)

pub kept_round : (made : List ℕ) (bodies : List (List ℕ)) (round : List ℕ) (tip : Tip) (before log : Log) → (round ≡ [] → ⊥) → IsRound round → HasLog made bodies tip before → Waits before round log
    → HasLog made (with_round bodies round) (next_tip tip round) log
kept_round made bodies [] tip before log some few has waits = absurd (some refl)
kept_round made bodies (byte ∷ round) tip before log some few has waits = block_more made bodies tip before log (byte ∷ round) has few waits
