-- How a node that fetches the log corresponds to the model's.
use Rattle.std.specs.Prelude.{◌≡◌, ℕ, false, Option, Some, None, List, [], ◌∷◌}
use Rattle.std.specs.Coded.{Unit-prop}
use Rattle.std.proofs.Math.Nat.{ℕ_set}
use Rattle.server_trait.specs.Service.{Machine}
use Rattle.ft_model.specs.Restart.{Fetched, is_fetched}
use Rattle.seq_arith.specs.Message.{Message}
use Rattle.mark_laws.specs.MarkedLog.{AnyMessage}
use Rattle.mark_laws.specs.MarkedLog.AnyMessage.{Of_log}
use Rattle.reincarnate.specs.declared.marks.Marks.{Marks}
use Rattle.reincarnate.specs.declared.marks.Marks.TheVariants as marks
use Rattle.reincarnate.specs.Questions.{FetchingState}
use Rattle.reincarnate.specs.Refinement.{StandsFetching}
use Rattle.node_serving.specs.declared.identity.Identity.{Identity}

-- no key is fetched twice
abbrev pub AreDistinct : List Fetched → Type 0
AreDistinct [] = Unit {0}
AreDistinct (f ∷ earlier) = (is_fetched f.head.key earlier ≡ false) × AreDistinct earlier

-- of `count` entries these are fetched, the newest first
pub record FetchingStands {S : Type 0} (service : Machine S) (count : ℕ) (fetched : List Fetched) (f : FetchingState S) : Type 0 where
  pub so_many : f.count ≡ count
  pub distinct : AreDistinct fetched
  pub entries : StandsFetching service fetched f

-- a message that isn't about marks
abbrev pub of_log : Option AnyMessage → Option Message
of_log (Some (Of_log message)) = Some message
of_log _ = None

-- a restart that uses no marks
abbrev pub UsesNone : Marks → Type 0
UsesNone marks.Unused = Unit {0}
UsesNone _ = ⊥

pub UsesNone-prop : (used : Marks) → IsProp (UsesNone used)
UsesNone-prop marks.Unused = Unit-prop
UsesNone-prop marks.Used = λ a b. absurd a
UsesNone-prop marks.Awaited = λ a b. absurd a

-- the restart asks with this incarnation's boot number, and runs its service, whatever has arrived
pub record IsOf {S : Type 0} (who : Identity) (f : FetchingState S) : Type 0 where
  pub boot : f.boot ≡ who.boot
  pub kind : f.kind ≡ who.kind

pub IsOf-prop : {S : Type 0} (who : Identity) (f : FetchingState S) → IsProp (IsOf who f)
IsOf-prop who f = λ a b i. record { boot = ℕ_set f.boot who.boot a.boot b.boot i; kind = ℕ_set f.kind who.kind a.kind b.kind i }

-- the restart asks with this incarnation's boot number, without marks, and runs its service, whatever has arrived
pub record IsOwn {S : Type 0} (who : Identity) (f : FetchingState S) : Type 0 where
  pub boot : f.boot ≡ who.boot
  pub kind : f.kind ≡ who.kind
  pub unmarked : UsesNone f.marks

pub IsOwn-prop : {S : Type 0} (who : Identity) (f : FetchingState S) → IsProp (IsOwn who f)
IsOwn-prop who f = λ a b i. record {
  boot = ℕ_set f.boot who.boot a.boot b.boot i;
  kind = ℕ_set f.kind who.kind a.kind b.kind i;
  unmarked = UsesNone-prop f.marks a.unmarked b.unmarked i;
}
