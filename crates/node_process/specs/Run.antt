-- What a process did, by its role, and how that is reported.
use Rattle.std.specs.Prelude.{◌≡◌, ◌⊎◌, ℕ, false, Option, None, Some, Result, Ok, Err, List}
use Rattle.server_trait.specs.Service.{Machine}
use Rattle.disk.specs.declared.calls.DeskCall.{DeskCall}
use Rattle.link_parts.specs.declared.status.NodeEnd.TheVariants.{Usage, NoMemory}
use Rattle.link_parts.specs.Options.{Text}
use Rattle.node_link.specs.Outcome as node
use Rattle.journal_parts.specs.Outcome.{KeepsJournal, IsReported}
use Rattle.chain_parts.specs.PairOutcome as twin
use Rattle.lasting_link.specs.LastingLife.{LivesToLast}
use Rattle.journal_parts.specs.declared.status.ProcessEnd.{ProcessEnd}
use Rattle.journal_parts.specs.declared.status.ProcessEnd.TheVariants as ends
use Rattle.node_process.specs.Asked.{uses_desk}
use Rattle.node_process.specs.declared.role.Role.{Role}
use Rattle.node_process.specs.declared.role.Role.TheVariants.{Node, Lasting, Journal, Twin}

-- What is known of what a process is given: of its link, input, children and standard output; the calls on its desk, and the content of each file; and
-- what standard error has taken
pub record Known : Type 0 where
  pub given : node.Given
  pub desk : Option (List DeskCall)
  pub files : Text → Option (List ℕ)
  pub err : Option (List ℕ)

-- nothing was read, called or written
pub record HasDoneNothing (before after : Known) : Type 0 where
  pub given : node.HasDoneNothing before.given after.given
  pub desk : after.desk ≡ before.desk
  pub err : after.err ≡ before.err

module _ {State : Type 0} (services : ℕ → Machine State) where
  -- what a role did. Each makes calls only on what it uses; a logger with a journal has its own ends, and all others have those of `node`
  abbrev pub RunsAs : Role → Result (Unit {0}) ProcessEnd → (before after : Known) → Type 0
  RunsAs (Journal role) end before after = KeepsJournal role
      (before.files role.journal) end before.desk after.desk before.given.out after.given.out before.err after.err
  RunsAs (Node role) (Ok done) before after = node.LivesAs services role (Ok done) before.given after.given
  RunsAs (Node role) (Err (ends.Node end)) before after = node.LivesAs services role (Err end) before.given after.given
  RunsAs (Lasting role) (Ok done) before after = LivesToLast services role (Ok done) before.given.calls after.given.calls before.given.out after.given.out
  RunsAs (Lasting role) (Err (ends.Node end)) before after =
      LivesToLast services role (Err end) before.given.calls after.given.calls before.given.out after.given.out
  RunsAs (Twin role) (Ok done) before after = twin.LivesAs role (Ok done) before.given.calls after.given.calls before.given.out after.given.out
  RunsAs (Twin role) (Err (ends.Node end)) before after = twin.LivesAs role (Err end) before.given.calls after.given.calls before.given.out after.given.out
  RunsAs _ _ before after = ⊥

  -- by the role that the words ask for. Words that aren't allowed are reported as such, and reading them may run out of memory
  abbrev pub Runs : Option Role → Result (Unit {0}) ProcessEnd → (before after : Known) → Type 0
  Runs None end before after = ((end ≡ Err (ends.Node Usage)) ⊎ (end ≡ Err (ends.Node NoMemory))) × HasDoneNothing before after
  Runs (Some role) end before after = RunsAs role end before after ⊎ ((end ≡ Err (ends.Node NoMemory)) × HasDoneNothing before after)

  -- what was done and what was reported agree. `noted` is what standard error had taken before the end was reported: a logger with a journal may have said
  -- how many bytes it cut off
  pub record HasRun (role : Option Role) (before after : Known) (code : ℕ) : Type 0 where
    pub end : Result (Unit {0}) ProcessEnd
    pub noted : Option (List ℕ)
    pub runs : Runs role end before (record after { err = noted })
    pub same : uses_desk role ≡ false → noted ≡ before.err
    pub reported : IsReported end noted after.err code
