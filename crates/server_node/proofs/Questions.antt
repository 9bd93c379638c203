-- The questions of a restart as the node sends them.
use Rattle.std.proofs.Common.{◌≡◌, ◌∙◌, ℕ, Bool, true, false, true≢false, nat_lt, refl, sym, ap, subst, List, [], ◌∷◌, length, append-nil, Option, Some, None, IfSome, is_some, option_map, if◌then◌else◌}
use Rattle.tcp_rules.specs.Profile.{grammar_of}
use Rattle.ft_model.proofs.Lists.{none_is_some, some_is}
use Rattle.seq_arith.specs.Message.{Message, Body}
use Rattle.seq_arith.specs.Message.Body.{ListMsg}
use Rattle.seq_arith.specs.MessageGrammar.{behind_of}
use Rattle.ft_model.specs.Network.Packet.{To_logger}
use Rattle.ft_model.specs.Restart.{Wanted, question}
use Rattle.ft_model.specs.Node.{Node}
use Rattle.ft_model.specs.Lawful.{asked as asked_law}
use Rattle.ft_model.specs.Wire.{Wire}
use Rattle.reincarnate.specs.Progress.{EntryState, lacks, asked_for}
use Rattle.reincarnate.specs.Questions.{FetchingState, asked, asked_of, asked_entry, or_else, entries_of}
use Rattle.node_serving.specs.SentBytes.{ArePut}
use Rattle.ft_io.proofs.Choices.{holds_if}

abbrev said_in : ℕ → Body → Message
said_in boot body = record { boot = boot; body = body }

-- nothing comes after its fields
abbrev IsBare : Body → Type 0
IsBare body = behind_of body ≡ []

for_bare : {S : Type 0} (e : EntryState S) → IfSome (asked_for (lacks e) e) IsBare
for_bare e =
    holds_if (λ l. IfSome (asked_for l e) IsBare) e.head.done _ _ (λ t. tt)
    (λ t. holds_if (λ l. IfSome (asked_for l e) IsBare) (nat_lt e.bytes e.cuts.sum) _ _ (λ t. refl)
    (λ t. holds_if (λ l. IfSome (asked_for l e) IsBare) (nat_lt e.cuts.count e.head.reads) _ _ (λ t. refl)
    (λ t. holds_if (λ l. IfSome (asked_for l e) IsBare) (nat_lt e.bytes e.head.length) _ _ (λ t. refl) (λ t. tt))))

of_bare : {S : Type 0} (o : Option (EntryState S)) → IfSome (asked_of o) IsBare
of_bare (Some e) = for_bare e
of_bare None = tt

entry_bare : {S : Type 0} (s : FetchingState S) → IfSome (asked_entry s) IsBare
entry_bare s = go (nat_lt (length (entries_of s)) s.count)
  where
    go : (b : Bool) → IfSome (if b then Some (ListMsg (length (entries_of s))) else None) IsBare
    go true = refl
    go false = tt

or_bare : (a b : Option Body) → IfSome a IsBare → IfSome b IsBare → IfSome (or_else a b) IsBare
or_bare (Some body) b p q = p
or_bare None b p q = q

pub question_is_bare : {S : Type 0} (s : FetchingState S) (m : Message) → Some m ≡ option_map (said_in s.boot) (asked s) → behind_of m.body ≡ []
question_is_bare s m e = go (asked s) (or_bare (asked_of s.newest) (asked_entry s) (of_bare s.newest) (entry_bare s)) e
  where
    go : (o : Option Body) → IfSome o IsBare → Some m ≡ option_map (said_in s.boot) o → behind_of m.body ≡ []
    go None p e = none_is_some m (sym e)
    go (Some body) p e = ap (λ (x : Message). behind_of x.body) (some_is m (said_in s.boot body) e) ∙ p

-- a question is put exactly where something is wanted, ..
pub asks_where : (boot : ℕ) (o : Option Wanted) (m : Option Message) → m ≡ option_map (said_in boot) (option_map question o) → is_some m ≡ is_some o
asks_where boot o m e = ap is_some e ∙ go o
  where
    go : (o : Option Wanted) → is_some (option_map (said_in boot) (option_map question o)) ≡ is_some o
    go (Some w) = refl
    go None = refl

-- .. and it is the law's
pub asks_nothing : (node : Node) (boot : ℕ) (o : Option Wanted) (reported : List Wire) → None ≡ option_map (said_in boot) (option_map question o) → ArePut (grammar_of node.profile) (asked_law node o) reported reported
asks_nothing node boot None reported e = record { wires = sym (append-nil reported); spelled = tt }
asks_nothing node boot (Some w) reported e = none_is_some (said_in boot (question w)) e

pub asks_this : (node : Node) (boot : ℕ) (o : Option Wanted) (m : Message) (old new : List Wire) → boot ≡ node.boot → Some m ≡ option_map (said_in boot) (option_map question o)
    → ArePut (grammar_of node.profile) (To_logger m ∷ []) old new → ArePut (grammar_of node.profile) (asked_law node o) old new
asks_this node boot None m old new own e put = none_is_some m (sym e)
asks_this node boot (Some w) m old new own e put =
    let is : m ≡ said_in boot (question w) = some_is m (said_in boot (question w)) e in
    let here : To_logger m ∷ [] ≡ asked_law node (Some w) = ap (λ x. To_logger x ∷ []) (is ∙ (λ j. said_in (own j) (question w))) in
    subst (λ ps. ArePut (grammar_of node.profile) ps old new) here put

-- so does the restart ask
pub is_asked : (boot : ℕ) (o : Option Body) (m : Option Message) → m ≡ option_map (said_in boot) o → is_some m ≡ is_some o
is_asked boot o m e = ap is_some e ∙ go o
  where
    go : (o : Option Body) → is_some (option_map (said_in boot) o) ≡ is_some o
    go (Some body) = refl
    go None = refl

pub nothing_asked : (o : Option Body) → false ≡ is_some o → o ≡ None
nothing_asked None e = refl
nothing_asked (Some body) e = absurd (true≢false (sym e))
