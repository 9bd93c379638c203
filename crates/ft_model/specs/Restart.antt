-- The law Restart: what a server asks the log when it boots, which answers it takes, and at which point each connection then is (FT-TCP, INFOCOM 2001: the
-- restarted server reads the log before it serves).
use Rattle.limits.specs.Limits.{longest_stream}
use Rattle.std.specs.Prelude.{◌≡◌, ℕ, Bool, true, pos, ◌+◌, ◌^◌, ◌≤◌, ◌<◌, ◌==◌, ◌&&◌, not, nat_lt, nat_le, min, sum, find, Option, Some, None, List}
use Rattle.std.specs.Prelude.{[], ◌∷◌, ◌++◌, length, if◌then◌else◌}
use Rattle.std.specs.List.{list_any}
use Rattle.ft_io.specs.declared.Addr.{Addr}
use Rattle.ft_io.specs.declared.Key.{Key}
use Rattle.ft_io.specs.Key.{key_eq}
use Rattle.seq_arith.specs.declared.flags.TheConstants.{ACK}
use Rattle.seq_arith.specs.Number.{number_at}
use Rattle.seq_arith.specs.Packet.{Segment}
use Rattle.tcp_rules.specs.Profile.{Profile}
use Rattle.tcp_rules.specs.Timestamping.{resumed_with}
use Rattle.seq_arith.specs.Message.{EntryHead, Body}
use Rattle.seq_arith.specs.Message.Body.{ListMsg, EntryMsg, BytesMsg, PartMsg, CutsMsg, LensMsg}
use Rattle.server_trait.specs.Service.{Machine, Run, reference}
use Rattle.ft_model.specs.Offset.{one_if}
use Rattle.ft_model.specs.Log.{Entry, may_follow}
use Rattle.ft_model.specs.Point.{Point, blank_point}

-- an entry of the log, as far as it is fetched. Of one that is done only the head is fetched
pub record Fetched : Type 0 where
  pub head : EntryHead
  pub bytes : List ℕ
  pub lengths : List ℕ

-- what is asked for next: an entry, bytes of one, or lengths of one
pub data Wanted : Type 0 where
  An_entry : (index : ℕ) → Wanted
  Its_bytes : Key → (offset : ℕ) → Wanted
  Its_lengths : Key → (first : ℕ) → Wanted

-- bytes of a read whose length is fetched are missing
abbrev pub lacks_read_bytes : Fetched → Bool
lacks_read_bytes f = not f.head.done && nat_lt (length f.bytes) (sum f.lengths)

-- lengths of reads are missing
abbrev pub lacks_lengths : Fetched → Bool
lacks_lengths f = not f.head.done && nat_lt (length f.lengths) f.head.reads

-- some of its bytes are missing
abbrev pub lacks_bytes : Fetched → Bool
lacks_bytes f = not f.head.done && nat_lt (length f.bytes) f.head.length

-- nothing of an entry is missing
abbrev pub is_whole : Fetched → Bool
is_whole f = not (lacks_lengths f) && not (lacks_bytes f)

abbrev pub next_entry : (count index : ℕ) → Option Wanted
next_entry count index = if nat_lt index count then Some (An_entry index) else None

-- What is asked for next, of `count` entries. The list has the newest fetched one first, and that is completed before the next is asked for: first the bytes
-- of its fetched reads, then further lengths, and at last the bytes after all reads. So a read can be replayed as soon as it is complete, and its bytes
-- needn't be stored
abbrev pub wanted : (count : ℕ) → List Fetched → Option Wanted
wanted count [] = next_entry count 0
wanted count (f ∷ earlier) =
    if lacks_read_bytes f then Some (Its_bytes f.head.key (length f.bytes))
    else (if lacks_lengths f then Some (Its_lengths f.head.key (length f.lengths))
    else (if lacks_bytes f then Some (Its_bytes f.head.key (length f.bytes)) else next_entry count (length (f ∷ earlier))))

-- the question that asks for what is wanted
abbrev pub question : Wanted → Body
question (An_entry index) = ListMsg index
question (Its_bytes key offset) = BytesMsg key offset
question (Its_lengths key first) = CutsMsg key first

abbrev pub is_fetched : Key → List Fetched → Bool
is_fetched key fetched = list_any (λ f. key_eq f.head.key key) fetched

-- each of these lengths may follow those before it, by the log's rule for reads
abbrev pub all_follow : (len : ℕ) → (fin : Bool) → List ℕ → List ℕ → Bool
all_follow len fin lengths [] = true
all_follow len fin lengths (n ∷ more) = may_follow len fin lengths n && all_follow len fin (lengths ++ n ∷ []) more

-- What is fetched after an answer of this boot, if the answer fits the question: an entry with the index asked for, if its key is new; ..
abbrev pub fetched_by : Wanted → Body → List Fetched → Option (List Fetched)
fetched_by (An_entry index) (EntryMsg i head) fetched =
    if i == index && not (is_fetched head.key fetched) then Some (record { head = head; bytes = []; lengths = [] } ∷ fetched) else None
-- .. bytes of the key and place asked for, if they end within the length; ..
fetched_by (Its_bytes key offset) (PartMsg k o bytes) (f ∷ earlier) =
    if key_eq k key && o == offset && nat_le (length f.bytes + length bytes) f.head.length then Some (record f { bytes = f.bytes ++ bytes } ∷ earlier) else None
-- .. lengths of the key and place asked for, if they end within the count and follow the log's rule for reads
fetched_by (Its_lengths key first) (LensMsg k o lens) (f ∷ earlier) =
    if key_eq k key && o == first && nat_le (length f.lengths + length lens) f.head.reads && all_follow f.head.length f.head.fin f.lengths lens
    then Some (record f { lengths = f.lengths ++ lens } ∷ earlier)
    else None
fetched_by _ _ _ = None

-- where nothing is missing no answer fits
abbrev pub fetched_after : Option Wanted → Body → List Fetched → Option (List Fetched)
fetched_after (Some w) body fetched = fetched_by w body fetched
fetched_after None body fetched = None

-- The answer to a client whose entry is fetched, while the server still fetches: it acknowledges the logged length and FIN, with window 0
abbrev pub holding_segment : Addr → EntryHead → Segment
holding_segment server head = record {
  head = record {
    src = server.ip;
    dst = head.key.ip;
    sport = server.port;
    dport = head.key.port;
    seq = number_at head.sisn head.acked;
    ack = number_at head.cisn (head.length + one_if head.fin);
    flags = ACK;
    window = 0;
    mss = None;
    timestamps = None;
  };
  payload = [];
}

-- the fetched entry of a client, if it isn't done
abbrev pub live_entry : Key → List Fetched → Option Fetched
live_entry key fetched = find (λ f. key_eq f.head.key key && not f.head.done) fetched

-- a fetched entry as an entry of the log
abbrev pub entry_in : Fetched → Entry
entry_in f = record {
  key = f.head.key;
  cisn = f.head.cisn;
  sisn = f.head.sisn;
  mss = f.head.mss;
  bytes = f.bytes;
  fin = f.head.fin;
  lengths = f.lengths;
  acknowledged = f.head.acked;
  done = f.head.done;
}

-- the uncrashed server's run over an entry
abbrev pub run_of : {State : Type 0} → Machine State → Entry → Run State
run_of service e = reference service e.bytes e.lengths

-- the units of output of an entry: what its reads make, and one more where they close the service
abbrev pub output_units : {State : Type 0} → Machine State → Entry → ℕ
output_units service e = length (run_of service e).output + one_if (run_of service e).closed

-- where the output continues: after what the client acknowledged of it. The server's FIN is retransmitted even if it was acknowledged
abbrev pub resumed_at : {State : Type 0} → Machine State → Entry → ℕ
resumed_at service e = min e.acknowledged (length (run_of service e).output)

-- The point of an entry: all of it is taken, known to be logged and read as before, and one acknowledgement has counted, with window 0. Round trips are
-- measured anew
abbrev pub point_of : {State : Type 0} → Machine State → Profile → Entry → Point
point_of service profile e = record (blank_point profile e.key e.cisn e.sisn e.mss) {
  fetched = length e.bytes;
  fetched_output = output_units service e;
  taken = e.bytes;
  fin = e.fin;
  answered = length e.bytes + one_if e.fin;
  lengths = e.lengths;
  reads_answered = length e.lengths;
  una = resumed_at service e;
  sent = resumed_at service e;
  edge = resumed_at service e;
  wl1 = pos (length e.bytes);
  wl2 = resumed_at service e;
  syn_acked = true;
  timestamping = resumed_with profile.timestamps e.mss;
}

-- an entry is sound: a server that keeps its limits can have logged it
pub record IsSoundEntry {State : Type 0} (service : Machine State) (e : Entry) : Type 0 where
  pub output : length (run_of service e).output ≤ longest_stream
  pub fin : e.fin ≡ true → length e.bytes < longest_stream
