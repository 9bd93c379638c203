-- What a message between server and logger says: a boot number and one of eighteen bodies.
use Rattle.std.specs.Prelude.{ℕ, Bool, true, false, List}
use Rattle.ft_io.specs.declared.Key.{Key}

-- the numbers of a connection: the client's and the server's initial sequence numbers as the client knows them, and the segment size
pub record Numbers : Type 0 where
  pub key : Key
  pub cisn : ℕ
  pub sisn : ℕ
  pub mss : ℕ

-- how much of a connection is logged: bytes, whether the client's FIN is, and how many read lengths
pub record Kept : Type 0 where
  pub key : Key
  pub length : ℕ
  pub fin : Bool
  pub reads : ℕ

-- an entry of the log without its bytes and lengths
pub record EntryHead : Type 0 where
  pub key : Key
  pub cisn : ℕ
  pub sisn : ℕ
  pub mss : ℕ
  pub length : ℕ
  pub fin : Bool
  pub done : Bool
  pub reads : ℕ
  pub acked : ℕ

-- a part of a client's stream, with the count of units of output that the client has acknowledged
pub record Part : Type 0 where
  pub key : Key
  pub offset : ℕ
  pub acked : ℕ
  pub fin : Bool  -- the FIN follows
  pub more : Bool  -- it doesn't, and the same turn sends a later part of this stream: that one is answered, and this one isn't
  pub bytes : List ℕ

pub data Body : Type 0 where
  HelloMsg : Body
  SummaryMsg : (count : ℕ) → Body
  ListMsg : (index : ℕ) → Body
  EntryMsg : (index : ℕ) → EntryHead → Body
  BytesMsg : Key → (offset : ℕ) → Body
  PartMsg : Key → (offset : ℕ) → (bytes : List ℕ) → Body
  CutsMsg : Key → (first : ℕ) → Body
  LensMsg : Key → (first : ℕ) → (lens : List ℕ) → Body
  OpenMsg : Numbers → Body
  OpenedMsg : Numbers → Body
  DataMsg : Part → Body
  StableMsg : Kept → Body
  ReadMsg : Key → (index : ℕ) → (length : ℕ) → Body
  ReadsMsg : Kept → Body
  DoneMsg : Key → Body
  EndedMsg : Key → Body
  StaleMsg : (newer : ℕ) → Body
  FullMsg : Key → Body

pub record Message : Type 0 where
  pub boot : ℕ
  pub body : Body

-- the kinds that only the logger sends
abbrev pub is_answer : Body → Bool
is_answer (SummaryMsg count) = true
is_answer (EntryMsg index head) = true
is_answer (PartMsg key offset bytes) = true
is_answer (LensMsg key first lens) = true
is_answer (OpenedMsg numbers) = true
is_answer (StableMsg kept) = true
is_answer (ReadsMsg kept) = true
is_answer (EndedMsg key) = true
is_answer (StaleMsg newer) = true
is_answer (FullMsg key) = true
is_answer _ = false
