-- What it means that the north wrapper of a connection is at the connection's point, and what a turn of it does there: the laws Reads and Output (FT-TCP,
-- INFOCOM 2001: the north side wrapper logs the length of each read, and holds output back until those lengths are logged).
use Rattle.std.specs.Prelude.{◌≡◌, ◌⊎◌, ℕ, ◌+◌, ◌<◌, ◌≤◌, ◌==◌, Bool, true, false, not, ◌&&◌, ◌||◌, nat_lt, ◌-◌, [], map, min, if◌then◌else◌, max}
use Rattle.std.specs.Prelude.{sum, List, ◌∷◌, ◌++◌, length, take, drop, get_or}
use Rattle.std.specs.List.{list_any}
use Rattle.ft_io.specs.declared.Key.{Key}
use Rattle.seq_arith.specs.Message.{Body}
use Rattle.seq_arith.specs.Message.Body.{ReadMsg}
use Rattle.server_trait.specs.Service.{Machine, Run, reference}
use Rattle.ft_model.specs.Point.{Point, whole_run, answered_run, made, released}
use Rattle.ft_model.specs.Reads.{Makes}
use Rattle.north_wrap.specs.declared.read_record.ReadRecord.{ReadRecord}
use Rattle.north_wrap.specs.RunState.{RunState}
use Rattle.north_wrap.specs.Sockets.{Reader, Writer}
use Rattle.north_wrap.specs.NorthState.{NorthState, lengths_of}

-- what a read's record stores of the service's run after it
pub record RecordsRun {S : Type 0} (read : ReadRecord) (run : Run S) : Type 0 where
  pub made : read.made ≡ length run.output
  pub closed : read.closed ≡ run.closed

-- a service that has run so far, and `given` bytes of its output are given to TCP
pub record RunsTo {S : Type 0} (run : Run S) (given : ℕ) (r : RunState S) : Type 0 where
  pub service : r.service ≡ run.state
  pub closed : r.closed ≡ run.closed
  pub made : r.made ≡ length run.output
  pub pending : r.pending ≡ drop given run.output
  pub within : given ≤ length run.output

-- the reference run over the answered reads and `more` further ones
abbrev pub run_after : {S : Type 0} → Machine S → Point → ℕ → Run S
run_after service p more = reference service p.taken (take (p.reads_answered + more) p.lengths)

-- the indices count up from this one
abbrev pub IsNumbered : ℕ → List ReadRecord → Type 0
IsNumbered i [] = Unit {0}
IsNumbered i (read ∷ reads) = (read.index ≡ i) × IsNumbered (i + 1) reads

-- the messages of these reads to the logger, each with its index and its length
abbrev pub messages_of : Key → List ReadRecord → List Body
messages_of key reads = map (λ read. ReadMsg key read.index read.length) reads

-- The north wrapper of a connection at this point, with `given` bytes of output given to TCP. Its service is where the reference run over all reads ends,
-- whoever made those reads. Of each read that isn't known to be logged it stores where the run was after it
pub record NorthStands {S : Type 0} (service : Machine S) (p : Point) (given : ℕ) (n : NorthState S) : Type 0 where
  pub run : RunsTo (whole_run service p) given n.run
  pub rest : n.rest ≡ drop (sum p.lengths) (take p.fetched p.taken)
  pub keeps : (more : ℕ) → more ≤ length n.reads → RecordsRun (get_or (n.last ∷ n.reads) more n.last) (run_after service p more)
  pub reported : lengths_of n.reads ≡ drop p.reads_answered p.lengths
  pub numbered : IsNumbered p.reads_answered n.reads
  pub unanswered : p.reads_answered + length n.reads ≡ length p.lengths
  pub read : n.read ≡ sum p.lengths
  pub count : n.count ≡ length p.lengths
  pub ended : n.ended ≡ list_any (λ k. k == 0) p.lengths
  pub enough : sum p.lengths ≤ length p.taken
  pub fetched : p.fetched ≤ length p.taken
  pub shut_logged : n.shut ≡ true → (answered_run service p).closed ≡ true
  pub shut_given : n.shut ≡ true → given ≡ made service p

-- the point after reads of these lengths
abbrev pub with_reads : List ℕ → Point → Point
with_reads lengths p = record p { lengths = p.lengths ++ lengths }

-- what TCP has for the wrapper: the bytes taken, without those fetched and those read
pub record QueueStands (p : Point) (unread : List ℕ) (has_end : Bool) : Type 0 where
  pub waits : unread ≡ drop (max p.fetched (sum p.lengths)) p.taken
  pub fin : has_end ≡ p.fin

-- TCP's side, which is closed where the wrapper closed it
pub record SocketStands {S : Type 0} (p : Point) (n : NorthState S) (unread : List ℕ) (has_end is_closed : Bool) : Type 0 where
  pub queue : QueueStands p unread has_end
  pub shut : is_closed ≡ n.shut

-- a next read by the law: it doesn't pass the fetched bytes while any of them is left, and its bytes are there
pub record IsNext (p : Point) (k : ℕ) : Type 0 where
  pub rest : sum p.lengths < p.fetched → k + sum p.lengths ≤ p.fetched
  pub within : sum p.lengths + k ≤ length p.taken

-- these reads are the law's, and lead wrapper and queue to the point after them
pub record ReadsLead {S K : Type 0} (service : Machine S) (r : Reader K) (p : Point) (given : ℕ) (lengths : List ℕ) (n : NorthState S) (s : K) : Type 0 where
  pub makes : Makes service p lengths
  pub stands : NorthStands service (with_reads lengths p) given n
  pub queue : QueueStands (with_reads lengths p) (r.unread s) (r.has_end s)

-- the point once `count` reads are known to be logged
abbrev pub with_answered : ℕ → Point → Point
with_answered count p = record p { reads_answered = max p.reads_answered (min count (length p.lengths)) }

-- the point after more bytes are taken
abbrev pub with_taken : List ℕ → Point → Point
with_taken more p = record p { taken = p.taken ++ more }

-- Output: how much is given: all that may be sent and isn't given yet, as far as TCP has room for it ..
abbrev pub given_more : {S : Type 0} → Machine S → Point → (room given : ℕ) → ℕ
given_more service p room given = min room (released service p - given)

-- .. which bytes these are ..
abbrev pub given_text : {S : Type 0} → Machine S → Point → (room given : ℕ) → List ℕ
given_text service p room given = take (given_more service p room given) (drop given (answered_run service p).output)

-- .. and whether TCP is closed: where an answered read has closed the service, and all output is given
abbrev pub is_all_given : {S : Type 0} → Machine S → Point → (given : ℕ) → Bool
is_all_given service p given = (answered_run service p).closed && made service p == given

-- TCP with the output of a turn
abbrev pub written : {K : Type 0} → Writer K → K → List ℕ → (closes : Bool) → K
written w s text closes = if closes then w.after_close (w.after_write s text) else w.after_write s text

-- a socket from which these lengths were read, one after another
abbrev pub read_off : {K : Type 0} → (K → ℕ → K) → K → List ℕ → K
read_off after_read s [] = s
read_off after_read s (k ∷ ks) = read_off after_read (after_read s k) ks

-- those reads of a turn that take bytes from the socket: none while any of the fetched rest is left, and not the one of length 0
abbrev pub off_socket : (rest : ℕ) → List ℕ → List ℕ
off_socket rest [] = []
off_socket rest (k ∷ ks) = if nat_lt 0 rest || k == 0 then off_socket (rest - k) ks else (k ∷ off_socket (rest - k) ks)

-- for each of these lengths there are bytes to read
abbrev pub AreThere : {K : Type 0} → Reader K → K → List ℕ → Type 0
AreThere r s [] = Unit {0}
AreThere r s (k ∷ ks) = (k ≤ length (r.unread s)) × AreThere r (r.after_read s k) ks

-- A turn of the north wrapper, from a point on, with these new reads. Output is given as the law says, and TCP is closed exactly where it may be. The reads are
-- the law's, and wrapper and TCP are at the point after them. Nothing else is done to TCP
pub record NorthTurn {S K : Type 0} (service : Machine S) (r : Reader K) (w : Writer K) (p : Point) (given : ℕ) (old : NorthState S) (s : K)
    (news : List ReadRecord) (new : NorthState S) (t : K) : Type 0 where
  pub closes : Bool
  pub closes_rightly : closes ≡ (not old.shut && is_all_given service p (given + given_more service p (w.room s) given))
  pub socket : t ≡ read_off r.after_read (written w s (given_text service p (w.room s) given) closes) (off_socket (length old.rest) (lengths_of news))
  pub there : AreThere r (written w s (given_text service p (w.room s) given) closes) (off_socket (length old.rest) (lengths_of news))
  pub given_all : (given + given_more service p (w.room s) given ≡ released service p) ⊎ (given_more service p (w.room s) given ≡ w.room s)
  pub reported : new.reads ≡ old.reads ++ news
  pub makes : Makes service p (lengths_of news)
  pub stands : NorthStands service (with_reads (lengths_of news) p) (given + given_more service p (w.room s) given) new
  pub tcp : SocketStands (with_reads (lengths_of news) p) new (r.unread t) (r.has_end t) (w.is_closed t)
  pub shut : new.shut ≡ is_all_given service (with_reads (lengths_of news) p) (given + given_more service p (w.room s) given)

-- how a north wrapper begins, new or at the end of a restart: the service has run over all reads, and all of these are known to be logged
pub record HasReplayed {S : Type 0} (service : Machine S) (p : Point) (given : ℕ) (n : NorthState S) : Type 0 where
  pub run : RunsTo (whole_run service p) given n.run
  pub rest : n.rest ≡ drop (sum p.lengths) (take p.fetched p.taken)
  pub last : (n.last.made ≡ n.run.made) × (n.last.closed ≡ n.run.closed)
  pub reads : n.reads ≡ []
  pub answered : p.reads_answered ≡ length p.lengths
  pub read : n.read ≡ sum p.lengths
  pub count : n.count ≡ length p.lengths
  pub ended : n.ended ≡ list_any (λ k. k == 0) p.lengths
  pub enough : sum p.lengths ≤ length p.taken
  pub fetched : p.fetched ≤ length p.taken
  pub shut : n.shut ≡ false

-- a send buffer holds the output from what is acknowledged up to what is given. Where a FIN is acknowledged, it holds nothing
abbrev pub HoldsUpTo : (output : List ℕ) → (una given : ℕ) → (held : List ℕ) → Type 0
HoldsUpTo output una given held = held ≡ drop una (take given output)

-- it stays so where more is given, where more is acknowledged, and where more may be sent; and what it holds is the output there
pub record HoldingLaws (output : List ℕ) (una given : ℕ) (held : List ℕ) : Type 0 where
  pub front : given ≤ length output → take (length held) (drop una output) ≡ held
  pub more : (count : ℕ) → given ≤ length output → (una ≤ given) ⊎ (count ≡ 0) → HoldsUpTo output una (given + count) (held ++ take count (drop given output))
  pub acknowledged : (count : ℕ) → HoldsUpTo output (una + count) given (drop count held)
  pub longer : (ys : List ℕ) → given ≤ length output → HoldsUpTo (output ++ ys) una given held
