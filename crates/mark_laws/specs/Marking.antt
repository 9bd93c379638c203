-- The law of marks: when a node sends a mark of a connection, until when it repeats that mark, and at which place of a turn it sends it.
use Rattle.std.specs.Prelude.{◌≡◌, ℕ, ◌+◌, ◌-◌, Bool, ◌&&◌, false, nat_lt, nat_le, Option, Some, None, is_none, List, [], ◌∷◌, ◌++◌, map, length}
use Rattle.std.specs.Prelude.{take, drop, if◌then◌else◌}
use Rattle.std.specs.Option.{option_map_or}
use Rattle.std.specs.List.{AllByRecursion}
use Rattle.ft_io.specs.declared.Addr.{Addr}
use Rattle.seq_arith.specs.Mark.{Mark, MarkMessage}
use Rattle.seq_arith.specs.Mark.MarkBody.{MarkMsg}
use Rattle.server_trait.specs.Service.{Machine}
use Rattle.server_trait.specs.Saved.{Writing}
use Rattle.ft_model.specs.Log.{Entry}
use Rattle.ft_model.specs.Network.{Packet}
use Rattle.ft_model.specs.Point.{Point}
use Rattle.ft_model.specs.News.{News}
use Rattle.ft_model.specs.Timer.{is_tick}
use Rattle.ft_model.specs.Reads.{next_read}
use Rattle.ft_model.specs.ResetAndEnd.{dones}
use Rattle.ft_model.specs.Connection.{ConnectionTurn}
use Rattle.mark_laws.specs.Quiet.{is_quiet, mark_of}
use Rattle.mark_laws.specs.Runs.{IsRunOf}

-- what a node stores of a connection's marks
pub record Marking : Type 0 where
  pub last : ℕ  -- the reads of the last mark, sent in this boot or fetched; 0 without one
  pub outstanding : Option Mark  -- the mark that is sent and isn't answered yet

-- A new mark is due if the point is quiet, no mark is outstanding, and at least `every` reads were made since the last one. If `every` is 0, none is due
abbrev pub is_due : {State : Type 0} → Machine State → (every : ℕ) → Marking → Point → Bool
is_due service every m p = nat_lt 0 every && is_none m.outstanding && is_quiet service p && nat_le (m.last + every) (length p.lengths)

abbrev pub new_marks : {State : Type 0} → Machine State → Writing State → (every : ℕ) → Marking → Point → List Mark
new_marks service writing every m p = if is_due service every m p then mark_of service writing p ∷ [] else []

abbrev pub with_new : {State : Type 0} → Machine State → Writing State → (every : ℕ) → Point → Marking → Marking
with_new service writing every p m =
    if is_due service every m p then record { last = length p.lengths; outstanding = Some (mark_of service writing p) } else m

-- at each tick the outstanding mark is sent again ..
abbrev pub outstanding_in : Marking → List Mark
outstanding_in m = option_map_or (λ mark. mark ∷ []) m.outstanding []

abbrev pub repeated : News → Marking → List Mark
repeated news m = if is_tick news then outstanding_in m else []

-- .. until an answer of this boot reports at least as many reads
abbrev pub marking_answered : (reads : ℕ) → Marking → Marking
marking_answered reads m = record m { outstanding = if option_map_or (λ mark. nat_le mark.reads reads) m.outstanding false then None else m.outstanding }

-- the marks sent in a turn that ends at this point
abbrev pub marks_sent : {State : Type 0} → Machine State → Writing State → (every : ℕ) → News → Marking → Point → List Mark
marks_sent service writing every news m p = repeated news m ++ new_marks service writing every m p

-- what a node that marks sends
pub data Outgoing : Type 0 where
  Plain : Packet → Outgoing  -- what it sends without marks
  Mark_to_logger : MarkMessage → Outgoing

abbrev pub marks_out : (boot : ℕ) → Point → List Mark → List Outgoing
marks_out boot p marks = map (λ mark. Mark_to_logger (record { boot = boot; body = MarkMsg p.key mark })) marks

-- marks are sent before the last `behind` packets of a turn
abbrev pub with_marks : (behind : ℕ) → List Outgoing → List Packet → List Outgoing
with_marks behind marks packets =
    map Plain (take (length packets - behind) packets) ++ (marks ++ map Plain (drop (length packets - behind) packets))

abbrev pub without_marks : List Outgoing → List Packet
without_marks [] = []
without_marks (Plain packet ∷ sent) = packet ∷ without_marks sent
without_marks (Mark_to_logger message ∷ sent) = without_marks sent

-- A turn of a connection with marks: its turn without marks, and the marks, which are sent after its Reads and before its Done
pub record MarkingTurn {State : Type 0} (service : Machine State) (writing : Writing State) (every : ℕ) (server : Addr) (boot : ℕ) (news : News)
    (before after : Point) (m n : Marking) (sent : List Outgoing) : Type 0 where
  pub packets : List Packet
  pub turn : ConnectionTurn service server boot news before after packets
  pub marking : n ≡ with_new service writing every after m
  pub sent_are : sent ≡ with_marks (length (dones news before after)) (marks_out boot after (marks_sent service writing every news m after)) packets

-- the turn on an answer to a mark: the point stays as it is, and the next mark may be due
pub record MarkedTurn {State : Type 0} (service : Machine State) (writing : Writing State) (every : ℕ) (boot reads : ℕ) (p : Point) (m n : Marking)
    (sent : List Outgoing) : Type 0 where
  pub marking : n ≡ with_new service writing every p (marking_answered reads m)
  pub sent_are : sent ≡ marks_out boot p (new_marks service writing every (marking_answered reads m) p)

-- between two turns no mark is due, and a connection that its client hasn't reset has no read to make
pub record IsSettled {State : Type 0} (service : Machine State) (every : ℕ) (m : Marking) (p : Point) : Type 0 where
  pub marked : is_due service every m p ≡ false
  pub read_out : p.reset ≡ false → next_read service p ≡ None

-- a node that marks nothing sends what it sends without marks
pub record MarksNothing (packets : List Packet) (m n : Marking) (sent : List Outgoing) : Type 0 where
  pub sent_are : sent ≡ map Plain packets
  pub marking : n ≡ m

-- no new mark is sent, only the outstanding one again
pub record OnlyRepeats (behind boot : ℕ) (p : Point) (packets : List Packet) (m n : Marking) (sent : List Outgoing) : Type 0 where
  pub sent_are : sent ≡ with_marks behind (marks_out boot p (outstanding_in m)) packets
  pub marking : n ≡ m

-- marks of a connection are true of its entry in the log
abbrev pub AreTrue : {State : Type 0} → Machine State → Writing State → Entry → List Mark → Type 0
AreTrue service writing e marks = AllByRecursion (IsRunOf service writing e) marks

-- the marks sent in a turn, and the one outstanding after it, are true
pub record ReportsTruth {State : Type 0} (service : Machine State) (writing : Writing State) (every : ℕ) (news : News) (m : Marking) (p : Point)
    (e : Entry) : Type 0 where
  pub sent : AreTrue service writing e (marks_sent service writing every news m p)
  pub outstanding : AreTrue service writing e (outstanding_in (with_new service writing every p m))
