-- Lines that follow one another: those of packets, of clients and of the log's entries.
use Rattle.std.proofs.Common.{◌≡◌, ◌∙◌, ℕ, zero, suc, ◌+◌, ◌<◌, ◌≤◌, ◌==◌, Option, None, Some, option_map, List, [], ◌∷◌, ◌++◌, length, drop, slice_get, refl, sym, ap, ap₂, arith, append_assoc, append-nil}
use Rattle.std.proofs.Math.ListN.{drop_of_length-le}
use Rattle.seq_arith.proofs.Spelling.{spelling_is_read}
use Rattle.seq_arith.proofs.MessageSpelling.{message_is_read}
use Rattle.ft_model.specs.Client.{Client}
use Rattle.ft_model.specs.Log.{Entry, head_of}
use Rattle.ft_model.specs.Network.{Packet}
use Rattle.ft_model.specs.Network.Packet.{To_server, To_client, To_logger, From_logger}
use Rattle.ft_model.specs.Report.{log_line, entry_line}
use Rattle.ft_model.specs.Wire.{wire_by, HasWireBy}
use Rattle.ft_model.specs.World.{client_at}
use Rattle.ft_model.specs.declared.schedule.Schedule.{Schedule}
use Rattle.ft_model.proofs.Lists.{some_is, none_is_some, index_within}
use Rattle.logger_wire.specs.Records.{head_said}
use Rattle.logger_store.specs.StoreState.{lengths_of}
use Rattle.logger_wire.specs.declared.records.EntryHead.{EntryHead}
use Rattle.net_schedule.specs.SentPackets.{run_grammar, reported_way}
use Rattle.schedule_text.specs.Bytes.{packet_by, said_as}

-- lines of a list's elements, numbered on from n
abbrev pub AreLines : {X : Type 0} → (ℕ → List X → List ℕ) → (ℕ → X → List ℕ) → Type 0
AreLines {X} lines line = (n : ℕ) (x : X) (xs : List X) → lines n (x ∷ xs) ≡ line n x ++ lines (n + 1) xs

-- one line more is written, and one less is left
pub one_line : {X : Type 0} (lines : ℕ → List X → List ℕ) (line : ℕ → X → List ℕ) → AreLines lines line → (xs : List X) (n i : ℕ) (now next whole : List ℕ)
    → ((x : X) → slice_get xs i ≡ Some x → next ≡ now ++ line n x) → i < length xs → now ++ lines n (drop i xs) ≡ whole → next ++ lines (n + 1) (drop (i + 1) xs) ≡ whole
one_line lines line are [] n i now next whole written inside so_far = absurd (omega arith)
one_line lines line are (x ∷ xs) n zero now next whole written inside so_far =
    ap (λ l. l ++ lines (n + 1) xs) (written x refl) ∙ append_assoc now (line n x) (lines (n + 1) xs) ∙ ap (λ l. now ++ l) (sym (are n x xs)) ∙ so_far
one_line lines line are (x ∷ xs) n (suc i) now next whole written inside so_far =
    let place : suc i + 1 ≡ suc (i + 1) = omega arith in
    ap (λ k. next ++ lines (n + 1) (drop k (x ∷ xs))) place ∙ one_line lines line are xs n i now next whole written (omega arith) so_far

none_past : {X : Type 0} (xs : List X) (i : ℕ) → slice_get xs i ≡ None → length xs ≤ i
none_past [] i e = omega arith
none_past (x ∷ xs) zero e = none_is_some x (sym e)
none_past (x ∷ xs) (suc i) e = omega (arith, none_past xs i e)

-- .. or there is none
pub one_line_or_none : {X : Type 0} (lines : ℕ → List X → List ℕ) (line : ℕ → X → List ℕ) → AreLines lines line → ((n : ℕ) → lines n [] ≡ []) → (xs : List X) (n i : ℕ) (now next whole : List ℕ)
    → ((x : X) → slice_get xs i ≡ Some x → next ≡ now ++ line n x) → (slice_get xs i ≡ None → next ≡ now) → now ++ lines n (drop i xs) ≡ whole
    → next ++ lines (n + 1) (drop (i + 1) xs) ≡ whole
one_line_or_none {X} lines line are nil xs n i now next whole written unwritten so_far = by_place (slice_get xs i) refl
  where
    by_place : (o : Option X) → slice_get xs i ≡ o → next ++ lines (n + 1) (drop (i + 1) xs) ≡ whole
    by_place (Some x) e = one_line lines line are xs n i now next whole written (index_within xs i x e) so_far
    by_place None e =
        let past : length xs ≤ i = none_past xs i e in
        let further : length xs ≤ i + 1 = omega arith in
        let here : drop i xs ≡ [] = drop_of_length-le xs past in
        let behind : drop (i + 1) xs ≡ [] = drop_of_length-le xs further in
        ap₂ (λ a b. a ++ b) (unwritten e) (ap (lines (n + 1)) behind ∙ nil (n + 1) ∙ sym (ap (lines n) here ∙ nil n)) ∙ so_far

-- all lines are written
pub all_lines : {X : Type 0} (lines : ℕ → List X → List ℕ) → ((n : ℕ) → lines n [] ≡ []) → (xs : List X) (n i : ℕ) (now whole : List ℕ) → length xs ≤ i → now ++ lines n (drop i xs) ≡ whole → now ≡ whole
all_lines lines nil xs n i now whole past so_far = sym (append-nil now) ∙ ap (λ l. now ++ l) (sym (ap (lines n) (drop_of_length-le xs past) ∙ nil n)) ∙ so_far

-- a packet's bytes are read as the packet
pub packet_is_read : (schedule : Schedule) (p : Packet) → HasWireBy (run_grammar schedule) p → packet_by (run_grammar schedule) (reported_way schedule p) (wire_by (run_grammar schedule) p).bytes ≡ Some p
packet_is_read schedule (To_server segment) w = ap (said_as To_server) (spelling_is_read segment w.0)
packet_is_read schedule (To_client segment) w = ap (said_as To_client) (spelling_is_read segment w.0)
packet_is_read schedule (To_logger message) w = ap (said_as To_logger) (message_is_read message w.0)
packet_is_read schedule (From_logger message) w = ap (said_as From_logger) (message_is_read message w.0)

-- the client of a number from 1 is that at a place from 0
pub client_there : (clients : List Client) (i : ℕ) (o : Option Client) → o ≡ client_at clients (i + 1) → slice_get clients i ≡ o
client_there clients i o e = let place : i + 1 ≡ suc i = omega arith in sym (e ∙ ap (client_at clients) place)

-- what the log tells of an entry
pub reads_are : (o : Option Entry) (head : EntryHead) → ◌≡◌ (Some (head_said head)) (option_map head_of o) → head.reads ≡ length (lengths_of o)
reads_are None head e = none_is_some (head_said head) (sym e)
reads_are (Some entry) head e = ap (λ h. h.reads) (some_is (head_said head) (head_of entry) e)

pub entry_written : (o : Option Entry) (head : EntryHead) (reads now next : List ℕ) (entry : Entry) → ◌≡◌ (Some (head_said head)) (option_map head_of o) → o ≡ Some entry → reads ≡ lengths_of o
    → next ≡ now ++ entry_line head.key head.length head.fin head.acked head.done reads → next ≡ now ++ log_line entry
entry_written o head reads now next entry e is lengths written =
    let same : head_said head ≡ head_of entry = some_is (head_said head) (head_of entry) (e ∙ ap (option_map head_of) is) in
    written ∙ ap₂ (λ h ls. now ++ entry_line h.key h.length h.fin h.acked h.done ls) same (lengths ∙ ap lengths_of is)
