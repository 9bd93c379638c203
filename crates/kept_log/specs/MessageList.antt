-- The messages that bytes spell, one after the other: of the log, and about forgetting. Each has its length in its header, and its version, which says its
-- grammar.
use Rattle.std.specs.Prelude.{◌≡◌, ℕ, List, [], ◌∷◌, ◌++◌, Ok}
use Rattle.std.specs.List.{AllByRecursion}
use Rattle.seq_arith.specs.Message.{Message}
use Rattle.seq_arith.specs.MessageGrammar.{reading_by}
use Rattle.seq_arith.specs.declared.kinds.Grammar.{Grammar}
use Rattle.long_laws.specs.ForgetGrammar as forgets
use Rattle.forget_store.specs.AnyMessage.{AnyMessage}
use Rattle.forget_store.specs.AnyMessage.AnyMessage.{Usual, Forgetting}
use Rattle.kept_log.specs.Format.{IsRound}

-- these bytes spell a message of the log in one of the grammars: no two read the same bytes
pub record IsSpelling (bytes : List ℕ) (message : Message) : Type 0 where
  pub grammar : Grammar
  pub reads : reading_by grammar bytes ≡ Ok message

-- .. or one about forgetting, which no other grammar reads
abbrev pub IsSpellingOf : List ℕ → AnyMessage → Type 0
IsSpellingOf bytes (Usual message) = IsSpelling bytes message
IsSpellingOf bytes (Forgetting message) = forgets.reading bytes ≡ Ok message

abbrev pub Says : List ℕ → List AnyMessage → Type 0
Says bytes [] = bytes ≡ []
Says bytes (any ∷ messages) = (first : List ℕ) × (rest : List ℕ) × (bytes ≡ first ++ rest) × IsSpellingOf first any × Says rest messages

-- .. and those that the bodies of blocks spell
abbrev pub AllSay : List (List ℕ) → List AnyMessage → Type 0
AllSay [] messages = messages ≡ []
AllSay (body ∷ bodies) messages = (first : List AnyMessage) × (rest : List AnyMessage) × (messages ≡ first ++ rest) × Says body first × AllSay bodies rest

-- these bodies of blocks spell these messages
pub record AreKept (bodies : List (List ℕ)) (messages : List AnyMessage) : Type 0 where
  pub small : AllByRecursion IsRound bodies
  pub say : AllSay bodies messages
