-- The logger (the FT-TCP article's logger): a boot number, and an entry for each connection with the client's bytes, whether its FIN is kept, the lengths of
-- the server's reads, and how much output the client has acknowledged. One message gets at most one answer.
use Rattle.limits.specs.Limits.{most_entries}
use Rattle.std.specs.Prelude.{ℕ, Bool, true, false, ◌+◌, ◌-◌, ◌==◌, ◌&&◌, ◌||◌, not, nat_lt, nat_le, max, sum, map, find, Option, Some, None}
use Rattle.std.specs.Prelude.{option_map, List, [], ◌∷◌, ◌++◌, length, take, drop, slice_get, if◌then◌else◌}
use Rattle.std.specs.List.{list_any}
use Rattle.ft_io.specs.declared.Key.{Key}
use Rattle.ft_io.specs.Key.{key_eq}
use Rattle.seq_arith.specs.Message.{Numbers, Kept, EntryHead, Part, Body, Message, is_answer}
use Rattle.seq_arith.specs.Message.Body.{HelloMsg, SummaryMsg, ListMsg, EntryMsg, BytesMsg, PartMsg, CutsMsg, LensMsg, OpenMsg, OpenedMsg, DataMsg}
use Rattle.seq_arith.specs.Message.Body.{StableMsg, ReadMsg, ReadsMsg, DoneMsg, EndedMsg, StaleMsg, FullMsg}

pub record Entry : Type 0 where
  pub key : Key
  pub cisn : ℕ
  pub sisn : ℕ
  pub mss : ℕ
  pub bytes : List ℕ
  pub fin : Bool
  pub lengths : List ℕ
  pub acknowledged : ℕ  -- units of output
  pub done : Bool

pub record Log : Type 0 where
  pub boot : ℕ
  pub entries : List Entry  -- at most 64, in the order in which they were opened

abbrev pub empty_log : Log
empty_log = record { boot = 0; entries = [] }

-- the entry of a key
abbrev pub entry_of : Key → Log → Option Entry
entry_of key log = find (λ e. key_eq e.key key) log.entries

abbrev pub with_entry : Key → (Entry → Entry) → Log → Log
with_entry key change log = record log { entries = map (λ e. if key_eq e.key key then change e else e) log.entries }

abbrev pub new_entry : Numbers → Entry
new_entry n = record { key = n.key; cisn = n.cisn; sisn = n.sisn; mss = n.mss; bytes = []; fin = false; lengths = []; acknowledged = 0; done = false }

-- Open adds an entry for an unknown key, while there are fewer than 64
abbrev pub opened : Numbers → Log → Log
opened n log = if list_any (λ e. key_eq e.key n.key) log.entries || nat_le most_entries (length log.entries) then log
    else record log { entries = log.entries ++ new_entry n ∷ [] }

-- Data adds the bytes past those that are kept, unless it leaves a gap. Kept bytes stay, and nothing is added after a FIN
abbrev pub with_bytes : Part → Entry → Entry
with_bytes part e = if e.fin || nat_lt (length e.bytes) part.offset then e else record e { bytes = e.bytes ++ drop (length e.bytes - part.offset) part.bytes }

-- .. and then its FIN, if it ends where the kept bytes end
abbrev pub with_its_fin : Part → Entry → Entry
with_its_fin part e = if part.fin && part.offset + length part.bytes == length e.bytes then record e { fin = true } else e

abbrev pub with_part : Part → Entry → Entry
with_part part e = record (with_its_fin part (with_bytes part e)) { acknowledged = max e.acknowledged part.acked }

-- whether a read may follow these, in a stream of `len` bytes: no closing read is among them, and the bytes suffice. The closing read, of length 0, may follow
-- where the FIN is kept and all bytes are read
abbrev pub may_follow : (len : ℕ) → (fin : Bool) → List ℕ → ℕ → Bool
may_follow len fin lengths n =
    not (list_any (λ k. k == 0) lengths) && nat_le (sum lengths + n) len && (nat_lt 0 n || (fin && sum lengths == len))

-- a Read is kept if it is the next one, and may follow those that are kept
abbrev pub is_next_read : Entry → ℕ → ℕ → Bool
is_next_read e index n = index == length e.lengths && may_follow (length e.bytes) e.fin e.lengths n

abbrev pub with_read : ℕ → ℕ → Entry → Entry
with_read index n e = if is_next_read e index n then record e { lengths = e.lengths ++ n ∷ [] } else e

-- what a message of the log's own boot changes
abbrev pub with_body : Body → Log → Log
with_body (OpenMsg n) log = opened n log
with_body (DataMsg part) log = with_entry part.key (with_part part) log
with_body (ReadMsg key index n) log = with_entry key (with_read index n) log
with_body (DoneMsg key) log = with_entry key (λ e. record e { done = true }) log
with_body _ log = log

abbrev pub is_hello : Body → Bool
is_hello HelloMsg = true
is_hello _ = false

-- a Hello makes its boot the log's. Any other message counts only if it has the log's own boot
abbrev pub with_message : Message → Log → Log
with_message message log = if is_hello message.body then record log { boot = message.boot }
    else (if message.boot == log.boot then with_body message.body log else log)

-- The log after a message. A message of a kind that only the logger sends changes nothing, nor does one of a smaller boot.
unfoldable pub log_after : Log → Message → Log
log_after log message = if is_answer message.body || nat_lt message.boot log.boot then log else with_message message log

abbrev pub numbers_of_entry : Entry → Numbers
numbers_of_entry e = record { key = e.key; cisn = e.cisn; sisn = e.sisn; mss = e.mss }

abbrev pub kept_of : Entry → Kept
kept_of e = record { key = e.key; length = length e.bytes; fin = e.fin; reads = length e.lengths }

abbrev pub head_of : Entry → EntryHead
head_of e = record {
  key = e.key;
  cisn = e.cisn;
  sisn = e.sisn;
  mss = e.mss;
  length = length e.bytes;
  fin = e.fin;
  done = e.done;
  reads = length e.lengths;
  acked = e.acknowledged;
}

-- at most 1,024 bytes of an entry, from an offset below its length
abbrev pub part_of : Entry → ℕ → Option Body
part_of e offset = if nat_lt offset (length e.bytes) then Some (PartMsg e.key offset (take 1024 (drop offset e.bytes))) else None

-- at most 512 lengths of an entry, from a place below their count
abbrev pub lens_of : Entry → ℕ → Option Body
lens_of e first = if nat_lt first (length e.lengths) then Some (LensMsg e.key first (take 512 (drop first e.lengths))) else None

abbrev pub opened_answer : Key → Option Entry → Option Body
opened_answer key (Some e) = Some (OpenedMsg (numbers_of_entry e))
opened_answer key None = Some (FullMsg key)

abbrev pub on_entry : (Entry → Option Body) → Option Entry → Option Body
on_entry shown (Some e) = shown e
on_entry shown None = None

-- a Data that a later one of its turn follows has no answer: the later one's says how much is logged
abbrev pub unless_more : Part → Option Body → Option Body
unless_more part answer = if part.more then None else answer

-- the answer to a message of the log's own boot, from the log after that message
abbrev pub answer_from : Body → Log → Option Body
answer_from HelloMsg log = Some (SummaryMsg (length log.entries))
answer_from (ListMsg index) log = on_entry (λ e. Some (EntryMsg index (head_of e))) (slice_get log.entries index)
answer_from (BytesMsg key offset) log = on_entry (λ e. part_of e offset) (entry_of key log)
answer_from (CutsMsg key first) log = on_entry (λ e. lens_of e first) (entry_of key log)
answer_from (OpenMsg n) log = opened_answer n.key (entry_of n.key log)
answer_from (DataMsg part) log = unless_more part (on_entry (λ e. Some (StableMsg (kept_of e))) (entry_of part.key log))
answer_from (ReadMsg key index n) log = on_entry (λ e. Some (ReadsMsg (kept_of e))) (entry_of key log)
answer_from (DoneMsg key) log = on_entry (λ e. Some (EndedMsg key)) (entry_of key log)
answer_from _ log = None

-- the body of the answer to a message. `log` is the log before it, and `after` the log after it
abbrev pub answer_body : Log → Log → Message → Option Body
answer_body log after message =
    if is_answer message.body then None
    else (if nat_lt message.boot log.boot then Some (StaleMsg log.boot)
    else (if is_hello message.body || message.boot == log.boot then answer_from message.body after else None))

-- The answer to a message, with the message's own boot.
unfoldable pub answer_to : Log → Message → Option Message
answer_to log message = option_map (λ body. record { boot = message.boot; body = body }) (answer_body log (log_after log message) message)
