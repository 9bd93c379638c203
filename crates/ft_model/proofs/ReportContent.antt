-- No word of a packet's line has a space or a line feed in it.
use Rattle.std.proofs.Common.{◌≡◌, ℕ, ◌<◌, ◌^◌, ◌/◌, ◌%◌, ◌==◌, Bool, true, false, zero, suc, nat_lt, if◌then◌else◌, Option, None, Some, IfSome, List, [], ◌∷◌, ◌++◌, codes, decimal, length, slice_index, refl, subst, sym, arith}
use Rattle.std.specs.List.{AllByRecursion, list_all}
use Rattle.std.proofs.lemmas.Bool.{ltb-true}
use Rattle.hex.specs.Hex.{IsBytes, encode_lower, encode_with, lower_digits}
use Rattle.ft_io.specs.declared.Key.{Key}
use Rattle.seq_arith.specs.declared.options.Timestamps.{Timestamps}
use Rattle.seq_arith.specs.Packet.{Segment}
use Rattle.seq_arith.specs.Message.{Numbers, Kept, EntryHead, Part, Body, Message}
use Rattle.seq_arith.specs.Message.Body.{HelloMsg, SummaryMsg, ListMsg, EntryMsg, BytesMsg, PartMsg, CutsMsg, LensMsg, OpenMsg, OpenedMsg, DataMsg, StableMsg, ReadMsg, ReadsMsg, DoneMsg, EndedMsg, StaleMsg, FullMsg}
use Rattle.ft_model.specs.Client.{Client}
use Rattle.ft_model.specs.Network.{Packet}
use Rattle.ft_model.specs.Network.Packet.{To_server, To_client, To_logger, From_logger}
use Rattle.ft_io.specs.declared.Addr.{Addr}
use Rattle.ft_model.specs.declared.way.Way.{Way}
use Rattle.ft_model.specs.declared.way.Way.TheVariants.{ClientToServer, ServerToClient, ServerToLogger, LoggerToServer, HeadToTail, TailToHead}
use Rattle.ft_model.specs.Texts.{or_dash, hex_text, list_text, behind_commas, address_text, key_text, flag_letters, flags_text, mss_text, bit_text, ending_text, way_text}
use Rattle.ft_model.specs.Report.{timestamps_words, segment_words, name_of, numbers_words, kept_words, entry_words, part_words, field_words, message_words, content_words}
use Rattle.ft_model.specs.Readable.{IsWord, FitsU64, FitsOption, FitsWay, FitsKey, IsReadable}
use Rattle.ft_model.proofs.ReportRanges.{FitsSegment, FitsNumbers, FitsKept, FitsEntry, FitsPart, FitsBody, segment_fits, message_fits}
use Rattle.ft_model.proofs.ReportWords.{all_append, word_decimal}
use Rattle.ft_model.proofs.ReportParts.{or_dash_cons, list_text_nil, list_text_cons}
use Rattle.ft_io.proofs.Booleans.{left_true, right_true}

-- a literal word, by a test that computes
pub lit : (w : List ℕ) → list_all (λ c. nat_lt 32 c) w ≡ true → IsWord w
lit [] e = tt
lit (x ∷ w) e = (ltb-true 32 x (left_true _ _ e), lit w (right_true (nat_lt 32 x) _ e))

word_or_dash : (t : List ℕ) → IsWord t → IsWord (or_dash t)
word_or_dash [] p = lit (codes "-") refl
word_or_dash (x ∷ t) p = subst IsWord (sym (or_dash_cons x t)) p

word_get : (t : List ℕ) (i : ℕ) → IsWord t → i < length t → 32 < slice_index t i
word_get [] i p h = absurd (omega arith)
word_get (x ∷ t) zero p h = p.0
word_get (x ∷ t) (suc i) p h = word_get t i p.1 (omega arith)

pub word_encoded : (xs : List ℕ) → IsBytes xs → IsWord (encode_lower xs)
unfolding encode_with
word_encoded [] p = tt
word_encoded (x ∷ xs) p =
    let byte : x < 256 = p 0 in
    let table : IsWord lower_digits = lit lower_digits refl in
    (word_get lower_digits (x / 16) table (omega arith), (word_get lower_digits (x % 16) table (omega arith), word_encoded xs (λ i. p (suc i))))

pub word_hex : (xs : List ℕ) → IsBytes xs → IsWord (hex_text xs)
unfolding hex_text
word_hex xs p = word_or_dash (encode_lower xs) (word_encoded xs p)

word_commas : (xs : List ℕ) → AllByRecursion FitsU64 xs → IsWord (behind_commas xs)
word_commas [] p = tt
word_commas (x ∷ xs) p = (omega arith, all_append (λ c. 32 < c) (decimal x) (behind_commas xs) (word_decimal x p.0) (word_commas xs p.1))

pub word_list : (xs : List ℕ) → AllByRecursion FitsU64 xs → IsWord (list_text xs)
word_list [] p = subst IsWord (sym list_text_nil) (lit (codes "-") refl)
word_list (x ∷ xs) p =
    subst IsWord (sym (list_text_cons x xs p.0)) (all_append (λ c. 32 < c) (decimal x) (behind_commas xs) (word_decimal x p.0) (word_commas xs p.1))

pub word_bit : (b : Bool) → IsWord (bit_text b)
unfolding bit_text
word_bit true = lit (codes "1") refl
word_bit false = lit (codes "0") refl

word_ending : (fin more : Bool) → IsWord (ending_text fin more)
unfolding ending_text
word_ending fin false = word_bit fin
word_ending false true = lit (codes "2") refl
word_ending true true = lit (codes "3") refl

pub word_mss : (m : Option ℕ) → FitsOption m → IsWord (mss_text m)
unfolding mss_text
word_mss None p = lit (codes "-") refl
word_mss (Some m) p = word_decimal m p

pub word_way : (w : Way) → FitsWay w → IsWord (way_text w)
unfolding way_text
word_way (ClientToServer n) p = all_append (λ c. 32 < c) (decimal n) (codes ">S") (word_decimal n p) (lit (codes ">S") refl)
word_way (ServerToClient n) p = all_append (λ c. 32 < c) (codes "S>") (decimal n) (lit (codes "S>") refl) (word_decimal n p)
word_way ServerToLogger p = lit (codes "S>L") refl
word_way LoggerToServer p = lit (codes "L>S") refl
word_way HeadToTail p = lit (codes "H>T") refl
word_way TailToHead p = lit (codes "T>H") refl

joined_with : (d : List ℕ) (c : ℕ) (r : List ℕ) → IsWord d → 32 < c → IsWord r → IsWord (d ++ c ∷ r)
joined_with d c r p h q = all_append (λ x. 32 < x) d (c ∷ r) p (h, q)

pub word_key : (key : Key) → FitsKey key → IsWord (key_text key)
unfolding address_text
word_key key h =
    let ip : key.ip < 2 ^ 32 = h.0 in
    let port : key.port < 2 ^ 16 = h.1 in
    all_append (λ x. 32 < x) _ (58 ∷ decimal key.port)
    (joined_with (decimal (key.ip / 2 ^ 24)) 46 _ (word_decimal _ (omega arith)) (omega arith)
    (joined_with (decimal (key.ip / 2 ^ 16 % 256)) 46 _ (word_decimal _ (omega arith)) (omega arith)
    (joined_with (decimal (key.ip / 2 ^ 8 % 256)) 46 (decimal (key.ip % 256)) (word_decimal _ (omega arith)) (omega arith) (word_decimal _ (omega arith)))))
    (omega arith, word_decimal key.port (omega arith))

word_letter : (b : Bool) (c : ℕ) → 32 < c → IsWord (if b then c ∷ [] else [])
word_letter true c h = (h, tt)
word_letter false c h = tt

pub word_flags : (flags : ℕ) → IsWord (flags_text flags)
unfolding flags_text
word_flags flags =
    let P : ℕ → Type 0 = λ c. 32 < c in
    word_or_dash (flag_letters flags)
    (all_append P _ _ (word_letter (flags / 128 % 2 == 1) 67 (omega arith))
    (all_append P _ _ (word_letter (flags / 64 % 2 == 1) 69 (omega arith))
    (all_append P _ _ (word_letter (flags / 32 % 2 == 1) 85 (omega arith))
    (all_append P _ _ (word_letter (flags / 16 % 2 == 1) 65 (omega arith))
    (all_append P _ _ (word_letter (flags / 8 % 2 == 1) 80 (omega arith))
    (all_append P _ _ (word_letter (flags / 4 % 2 == 1) 82 (omega arith))
    (all_append P _ _ (word_letter (flags / 2 % 2 == 1) 83 (omega arith))
    (word_letter (flags / 1 % 2 == 1) 70 (omega arith)))))))))

-- a word's proof, and those of the words after it
infixr 10 ◌⊕◌
abbrev ◌⊕◌ : {A B : Type 0} → A → B → A × B
word ⊕ others = (word, others)

words_timestamps : (timestamps : Option Timestamps) → IfSome timestamps (λ t. FitsU64 t.value × FitsU64 t.echo) → AllByRecursion IsWord (timestamps_words timestamps)
words_timestamps None h = tt
words_timestamps (Some t) h = lit (codes "ts") refl ⊕ word_decimal t.value h.0 ⊕ word_decimal t.echo h.1 ⊕ tt

pub words_segment : (s : Segment) → FitsSegment s → AllByRecursion IsWord (segment_words s)
words_segment s h =
    word_flags s.head.flags ⊕ lit (codes "seq") refl ⊕ word_decimal s.head.seq h.0 ⊕ lit (codes "ack") refl ⊕ word_decimal s.head.ack h.1
    ⊕ lit (codes "window") refl ⊕ word_decimal s.head.window h.3 ⊕ lit (codes "mss") refl ⊕ word_mss s.head.mss h.4 ⊕ lit (codes "data") refl
    ⊕ word_hex s.payload h.5 ⊕ words_timestamps s.head.timestamps h.6

word_name : (b : Body) → IsWord (name_of b)
word_name HelloMsg = lit (codes "Hello") refl
word_name (SummaryMsg count) = lit (codes "Summary") refl
word_name (ListMsg index) = lit (codes "List") refl
word_name (EntryMsg index e) = lit (codes "Entry") refl
word_name (BytesMsg key offset) = lit (codes "Bytes") refl
word_name (PartMsg key offset bytes) = lit (codes "Part") refl
word_name (CutsMsg key first) = lit (codes "Cuts") refl
word_name (LensMsg key first lens) = lit (codes "Lens") refl
word_name (OpenMsg n) = lit (codes "Open") refl
word_name (OpenedMsg n) = lit (codes "Opened") refl
word_name (DataMsg part) = lit (codes "Data") refl
word_name (StableMsg k) = lit (codes "Stable") refl
word_name (ReadMsg key index length) = lit (codes "Read") refl
word_name (ReadsMsg k) = lit (codes "Reads") refl
word_name (DoneMsg key) = lit (codes "Done") refl
word_name (EndedMsg key) = lit (codes "Ended") refl
word_name (StaleMsg newer) = lit (codes "Stale") refl
word_name (FullMsg key) = lit (codes "Full") refl

words_numbers : (n : Numbers) → FitsNumbers n → AllByRecursion IsWord (numbers_words n)
words_numbers n h =
    lit (codes "key") refl ⊕ word_key n.key h.0 ⊕ lit (codes "cisn") refl ⊕ word_decimal n.cisn h.1 ⊕ lit (codes "sisn") refl
    ⊕ word_decimal n.sisn h.2 ⊕ lit (codes "mss") refl ⊕ word_decimal n.mss h.3 ⊕ tt

words_kept : (k : Kept) → FitsKept k → AllByRecursion IsWord (kept_words k)
words_kept k h =
    lit (codes "key") refl ⊕ word_key k.key h.0 ⊕ lit (codes "length") refl ⊕ word_decimal k.length h.1 ⊕ lit (codes "fin") refl ⊕ word_bit k.fin
    ⊕ lit (codes "reads") refl ⊕ word_decimal k.reads h.2 ⊕ tt

words_entry : (e : EntryHead) → FitsEntry e → AllByRecursion IsWord (entry_words e)
words_entry e h =
    lit (codes "key") refl ⊕ word_key e.key h.0 ⊕ lit (codes "cisn") refl ⊕ word_decimal e.cisn h.1 ⊕ lit (codes "sisn") refl
    ⊕ word_decimal e.sisn h.2 ⊕ lit (codes "mss") refl ⊕ word_decimal e.mss h.3 ⊕ lit (codes "length") refl ⊕ word_decimal e.length h.4
    ⊕ lit (codes "fin") refl ⊕ word_bit e.fin ⊕ lit (codes "done") refl ⊕ word_bit e.done ⊕ lit (codes "reads") refl ⊕ word_decimal e.reads h.5
    ⊕ lit (codes "acked") refl ⊕ word_decimal e.acked h.6 ⊕ tt

words_part : (p : Part) → FitsPart p → AllByRecursion IsWord (part_words p)
words_part p h =
    lit (codes "key") refl ⊕ word_key p.key h.0 ⊕ lit (codes "offset") refl ⊕ word_decimal p.offset h.1 ⊕ lit (codes "acked") refl
    ⊕ word_decimal p.acked h.2 ⊕ lit (codes "fin") refl ⊕ word_ending p.fin p.more ⊕ lit (codes "bytes") refl ⊕ word_hex p.bytes h.3 ⊕ tt

words_fields : (b : Body) → FitsBody b → AllByRecursion IsWord (field_words b)
words_fields HelloMsg h = tt
words_fields (SummaryMsg count) h = lit (codes "count") refl ⊕ word_decimal count h ⊕ tt
words_fields (ListMsg index) h = lit (codes "index") refl ⊕ word_decimal index h ⊕ tt
words_fields (EntryMsg index e) h = lit (codes "index") refl ⊕ word_decimal index h.0 ⊕ words_entry e h.1
words_fields (BytesMsg key offset) h = lit (codes "key") refl ⊕ word_key key h.0 ⊕ lit (codes "offset") refl ⊕ word_decimal offset h.1 ⊕ tt
words_fields (PartMsg key offset bytes) h =
    lit (codes "key") refl ⊕ word_key key h.0 ⊕ lit (codes "offset") refl ⊕ word_decimal offset h.1 ⊕ lit (codes "bytes") refl
    ⊕ word_hex bytes h.2 ⊕ tt
words_fields (CutsMsg key first) h = lit (codes "key") refl ⊕ word_key key h.0 ⊕ lit (codes "first") refl ⊕ word_decimal first h.1 ⊕ tt
words_fields (LensMsg key first lens) h =
    lit (codes "key") refl ⊕ word_key key h.0 ⊕ lit (codes "first") refl ⊕ word_decimal first h.1 ⊕ lit (codes "lens") refl ⊕ word_list lens h.2
    ⊕ tt
words_fields (OpenMsg n) h = words_numbers n h
words_fields (OpenedMsg n) h = words_numbers n h
words_fields (DataMsg part) h = words_part part h
words_fields (StableMsg k) h = words_kept k h
words_fields (ReadMsg key index length) h =
    lit (codes "key") refl ⊕ word_key key h.0 ⊕ lit (codes "index") refl ⊕ word_decimal index h.1 ⊕ lit (codes "length") refl
    ⊕ word_decimal length h.2 ⊕ tt
words_fields (ReadsMsg k) h = words_kept k h
words_fields (DoneMsg key) h = lit (codes "key") refl ⊕ word_key key h ⊕ tt
words_fields (EndedMsg key) h = lit (codes "key") refl ⊕ word_key key h ⊕ tt
words_fields (StaleMsg newer) h = lit (codes "newer") refl ⊕ word_decimal newer h ⊕ tt
words_fields (FullMsg key) h = lit (codes "key") refl ⊕ word_key key h ⊕ tt

words_message : (m : Message) → FitsU64 m.boot → FitsBody m.body → AllByRecursion IsWord (message_words m)
unfolding message_words
words_message m boot h = word_name m.body ⊕ lit (codes "boot") refl ⊕ word_decimal m.boot boot ⊕ words_fields m.body h

pub words_content : (server : Addr) (clients : List Client) (p : Packet) → IsReadable server clients p → AllByRecursion IsWord (content_words p)
unfolding content_words
words_content server clients (To_server s) h = words_segment s (segment_fits s h.2)
words_content server clients (To_client s) h = words_segment s (segment_fits s h.2)
words_content server clients (To_logger m) h = let f = message_fits h.1 m h.2 in words_message m f.0 f.1
words_content server clients (From_logger m) h = let f = message_fits h.1 m h.2 in words_message m f.0 f.1
