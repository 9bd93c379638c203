-- A text passes exactly where it is the line of a packet.
use Rattle.std.proofs.Common.{◌≡◌, ℕ, zero, suc, ◌<◌, ◌≤◌, ◌+◌, ◌-◌, ◌^◌, ◌==◌, ◌⊎◌, inl, inr, Bool, true, false, if◌then◌else◌, Option, None, Some, List, [], ◌∷◌, ◌++◌, codes, decimal, take, drop, length, length-append, refl, sym, ap, ap₂, ◌∙◌, subst, arith, true≢false}
use Rattle.std.specs.Prelude.{◌↔◌, IfSome, IsTrue, nat_eq, nat_le, nat_lt, not, ◌&&◌, ◌||◌, is_some, option_map}
use Rattle.std.specs.List.{AllByRecursion, join_with_byte, list_any, position_or_len, slice_split, starts_with}
use Rattle.std.specs.Option.{option_map_or}
use Rattle.std.specs.Str.{bytes_eq}
use Rattle.std.specs.Cmp.Derive.{both_true}
use Rattle.std.proofs.lemmas.Bool.{le-leb, leb-true, ltb-true}
use Rattle.std.proofs.lemmas.Bool.Decides.{Decides-eqb}
use Rattle.std.proofs.lemmas.List.{take-append-drop}
use Rattle.std.proofs.Math.Seq.{take-append_seam, drop-append_seam}
use Rattle.std.proofs.lemmas.List.Splits.{join_with_byte-slice_split}
use Rattle.std.proofs.lemmas.Slice.Eq.{starts_is}
use Rattle.ft_io.proofs.Booleans.{left_true, right_true, left_false, right_false}
use Rattle.ft_io.specs.declared.Addr.{Addr}
use Rattle.ft_io.specs.declared.Key.{Key}
use Rattle.ft_io.specs.Key.{key_eq}
use Rattle.ft_io.proofs.Choices.{by_cases}
use Rattle.server_trait.specs.Service.{AreBytes}
use Rattle.seq_arith.specs.Message.{Message}
use Rattle.seq_arith.specs.declared.options.Timestamps.{Timestamps}
use Rattle.seq_arith.specs.Packet.{Head, Segment}
use Rattle.seq_arith.specs.PacketGrammar.{mss_option, timestamps_option, options_of}
use Rattle.seq_arith.proofs.Units.{timestamps_option_long}
use Rattle.seq_arith.specs.MessageGrammar.{AllFit}
use Rattle.seq_arith.specs.declared.kinds.Grammar.{Grammar}
use Rattle.seq_arith.specs.declared.kinds.Grammar.TheVariants.{Plain}
use Rattle.ft_model.specs.Network.{Packet, source_of, destination_of}
use Rattle.ft_model.specs.Network.Packet.{To_server, To_client, To_logger, From_logger}
use Rattle.ft_model.specs.Readable.{IsWord, FitsU64, FitsKey, FitsClient, FitsSchedule, IsReadable}
use Rattle.ft_model.specs.Report.{segment_words, timestamps_words, message_words, content_words, packet_line, number_of_client, way_of}
use Rattle.ft_model.specs.Schedule.{clients_of}
use Rattle.ft_model.specs.Texts.{way_text, flags_text, mss_text, hex_text}
use Rattle.ft_model.specs.Wire.{CanBeSent, CanBeWrittenBy, HasWireBy}
use Rattle.ft_model.specs.Words.{is}
use Rattle.ft_model.specs.World.{is_apart, are_apart}
use Rattle.ft_model.specs.declared.schedule.ClientLine.{ClientLine}
use Rattle.ft_model.specs.declared.schedule.Schedule.{Schedule}
use Rattle.ft_model.specs.declared.way.Way.{Way}
use Rattle.ft_model.specs.declared.way.Way.TheVariants.{ClientToServer, ServerToClient, ServerToLogger, LoggerToServer, HeadToTail, TailToHead}
use Rattle.ft_model.proofs.PlayableLemmas.{same_either_way}
use Rattle.ft_model.proofs.ReportContent.{lit, word_way, words_content}
use Rattle.ft_model.proofs.ReportPackets.{way_fits}
use Rattle.ft_model.proofs.ReportParts.{decimal_begin}
use Rattle.ft_model.proofs.ReportWords.{IsDigit, digits_decimal, word_decimal}
use Rattle.ft_model.proofs.Lists.{key_is}
use Rattle.report_laws.specs.Transitions.{clients_in, grammar_in, IsPacketLine}
use Rattle.line_check.specs.declared.direction.Direction.{Direction}
use Rattle.line_check.specs.declared.direction.Direction.TheVariants.{FromClient, ToClient, WithLogger}
use Rattle.line_check.specs.Words.{number_word, is_number, byte_count, option_size, timestamps_size, are_flags, columns_fit, segment_columns, sizes_fit, last_fits, text_fits, is_segment, ends_with, direction_of, is_client, content_fits, is_numbered, packet_words_fit, ends_with_feed, is_packet_text}
use Rattle.line_check.proofs.Spelled.{decide, same_bytes, bytes_same, value_or, number_reported, number_shown, is_number_reported, is_number_shown, byte_count_reported, byte_count_shown, size_of, option_reported, option_shown}
use Rattle.line_check.proofs.Flags.{flags_reported, flags_shown}
use Rattle.report_laws.proofs.Fronts.{cut_last}
use Rattle.line_check.proofs.LineWords.{numbered_reported, numbered_shown, joined_cut, line_joined, feed_shown, feed_reported}
use Rattle.line_check.proofs.ColumnWords.{IsRead, column_fields, column_words, columns_reported, columns_shown}
use Rattle.line_check.proofs.Messages.{message_reported, message_shown}

-- how many bytes timestamps take in the header
abbrev pub bytes_of : Option Timestamps → ℕ
bytes_of None = 0
bytes_of (Some timestamps) = 12

abbrev pub AreShort : Option Timestamps → Type 0
AreShort timestamps = IfSome timestamps (λ t. (t.value < 2 ^ 32) × (t.echo < 2 ^ 32))

-- what the words of a segment say
pub record Said (words : List (List ℕ)) : Type 0 where
  pub flags : ℕ
  pub seq : ℕ
  pub ack : ℕ
  pub window : ℕ
  pub mss : Option ℕ
  pub payload : List ℕ
  pub timestamps : Option Timestamps
  pub flags_fit : flags < 2 ^ 8
  pub seq_fits : seq < 2 ^ 32
  pub ack_fits : ack < 2 ^ 32
  pub window_fits : window < 2 ^ 16
  pub mss_fits : (m : ℕ) → mss ≡ Some m → m < 2 ^ 16
  pub timestamps_fit : AreShort timestamps
  pub bytes : AreBytes payload
  pub size : 40 + size_of mss + bytes_of timestamps + length payload ≤ 1500
  pub reported : words ≡ flags_text flags ∷ codes "seq" ∷ decimal seq ∷ codes "ack" ∷ decimal ack ∷ codes "window" ∷ decimal window ∷ codes "mss" ∷ mss_text mss ∷ codes "data" ∷ hex_text payload ∷ timestamps_words timestamps

-- the timestamps that a segment's last words say
record Stamps (words : List (List ℕ)) (size : ℕ) : Type 0 where
  timestamps : Option Timestamps
  fit : AreShort timestamps
  takes : size ≡ bytes_of timestamps
  reported : words ≡ timestamps_words timestamps

stamps_reported : (words : List (List ℕ)) (size : ℕ) → timestamps_size words ≡ Some size → Stamps words size
stamps_reported [] size e = record { timestamps = None; fit = tt; takes = sym (ap (value_or 0) e); reported = refl }
stamps_reported (name ∷ []) size e = absurd (true≢false (sym (ap is_some e)))
stamps_reported (name ∷ value ∷ []) size e = absurd (true≢false (sym (ap is_some e)))
stamps_reported (name ∷ value ∷ echo ∷ x ∷ more) size e = absurd (true≢false (sym (ap is_some e)))
stamps_reported (name ∷ value ∷ echo ∷ []) size e =
    by_test (bytes_eq name (codes "ts") && (is_number (2 ^ 32 - 1) value && is_number (2 ^ 32 - 1) echo)) refl e
  where
    by_test : (b : Bool) → bytes_eq name (codes "ts") && (is_number (2 ^ 32 - 1) value && is_number (2 ^ 32 - 1) echo) ≡ b
        → (if b then Some 12 else None) ≡ Some size → Stamps (name ∷ value ∷ echo ∷ []) size
    by_test false passed f = absurd (true≢false (sym (ap is_some f)))
    by_test true passed f =
        let both : is_number (2 ^ 32 - 1) value && is_number (2 ^ 32 - 1) echo ≡ true = right_true (bytes_eq name (codes "ts")) _ passed in
        let v : (n : ℕ) × (n ≤ 2 ^ 32 - 1) × (value ≡ decimal n) = is_number_reported (2 ^ 32 - 1) value (left_true (is_number (2 ^ 32 - 1) value) _ both) in
        let w : (n : ℕ) × (n ≤ 2 ^ 32 - 1) × (echo ≡ decimal n) = is_number_reported (2 ^ 32 - 1) echo (right_true (is_number (2 ^ 32 - 1) value) _ both) in
        record {
          timestamps = Some (record { value = v.0; echo = w.0 });
          fit = (omega (arith, v.1), omega (arith, w.1));
          takes = sym (ap (value_or 0) f);
          reported = ap₂ (λ x y. x ∷ y) (same_bytes name (codes "ts") (left_true (bytes_eq name (codes "ts")) _ passed)) (ap₂ (λ x y. x ∷ y) v.2 (ap (λ x. x ∷ []) w.2));
        }

stamps_shown : (timestamps : Option Timestamps) → AreShort timestamps → timestamps_size (timestamps_words timestamps) ≡ Some (bytes_of timestamps)
stamps_shown None h = refl
stamps_shown (Some t) h =
    let value : is_number (2 ^ 32 - 1) (decimal t.value) ≡ true = is_number_shown (2 ^ 32 - 1) t.value (omega (arith, h.0)) (omega (arith, h.0)) in
    let echo : is_number (2 ^ 32 - 1) (decimal t.echo) ≡ true = is_number_shown (2 ^ 32 - 1) t.echo (omega (arith, h.1)) (omega (arith, h.1)) in
    ap (λ b. if b then Some 12 else None) (both_true (bytes_same (codes "ts")) (both_true value echo))

record Tail (words : List (List ℕ)) : Type 0 where
  mss : Option ℕ
  payload : List ℕ
  timestamps : Option Timestamps
  mss_fits : (m : ℕ) → mss ≡ Some m → m < 2 ^ 16
  timestamps_fit : AreShort timestamps
  bytes : AreBytes payload
  size : 40 + size_of mss + bytes_of timestamps + length payload ≤ 1500
  reported : words ≡ codes "mss" ∷ mss_text mss ∷ codes "data" ∷ hex_text payload ∷ timestamps_words timestamps

tail_reported : (words : List (List ℕ)) → text_fits words ≡ true → Tail words
tail_reported [] e = absurd (true≢false (sym e))
tail_reported (a ∷ []) e = absurd (true≢false (sym e))
tail_reported (a ∷ b ∷ []) e = absurd (true≢false (sym e))
tail_reported (a ∷ b ∷ c ∷ []) e = absurd (true≢false (sym e))
tail_reported (a ∷ b ∷ c ∷ d ∷ more) e = by_names (bytes_eq c (codes "data")) (bytes_eq a (codes "mss")) refl refl e
  where
    by_sizes : (o s p : Option ℕ) → option_size b ≡ o → timestamps_size more ≡ s → byte_count d ≡ p → a ≡ codes "mss" → c ≡ codes "data"
        → sizes_fit o s p ≡ true → Tail (a ∷ b ∷ c ∷ d ∷ more)
    by_sizes None s p eo es ep ea ec f = absurd (true≢false (sym f))
    by_sizes (Some n) None p eo es ep ea ec f = absurd (true≢false (sym f))
    by_sizes (Some n) (Some t) None eo es ep ea ec f = absurd (true≢false (sym f))
    by_sizes (Some n) (Some t) (Some k) eo es ep ea ec f =
        let m = option_reported n b eo in
        let stamps : Stamps more t = stamps_reported more t es in
        let p = byte_count_reported k d ep in
        let within : 40 + n + t + k ≤ 1500 = leb-true (40 + n + t + k) 1500 f in
        let size : 40 + size_of m.0 + bytes_of stamps.timestamps + length p.0 ≤ 1500 = omega (arith, within, m.2, stamps.takes, p.2) in
        record {
          mss = m.0;
          payload = p.0;
          timestamps = stamps.timestamps;
          mss_fits = m.1;
          timestamps_fit = stamps.fit;
          bytes = p.1;
          size = size;
          reported = ap₂ (λ x y. x ∷ y) ea (ap₂ (λ x y. x ∷ y) m.3 (ap₂ (λ x y. x ∷ y) ec (ap₂ (λ x y. x ∷ y) p.3 stamps.reported)));
        }

    by_names : (second first : Bool) → bytes_eq c (codes "data") ≡ second → bytes_eq a (codes "mss") ≡ first
        → last_fits (if second then Some d else None) (if first then Some b else None) (timestamps_size more) ≡ true → Tail (a ∷ b ∷ c ∷ d ∷ more)
    by_names false first ec ea f = absurd (true≢false (sym f))
    by_names true false ec ea f = absurd (true≢false (sym f))
    by_names true true ec ea f =
        by_sizes (option_size b) (timestamps_size more) (byte_count d) refl refl refl (same_bytes a (codes "mss") ea) (same_bytes c (codes "data") ec) f

segment_reported : (words : List (List ℕ)) → is_segment words ≡ true → Said words
unfolding is_segment
segment_reported [] e = absurd (true≢false (sym e))
segment_reported (first ∷ words) e =
    let rest : columns_fit Plain 0 0 segment_columns words && text_fits (drop 6 words) ≡ true = right_true (are_flags first) _ e in
    by_numbers (flags_reported first (left_true (are_flags first) _ e)) (columns_reported Plain 0 0 segment_columns words (left_true (columns_fit Plain 0 0 segment_columns words) _ rest))
    (tail_reported (drop 6 words) (right_true (columns_fit Plain 0 0 segment_columns words) _ rest))
  where
    by_numbers : (flags : ℕ) × (flags < 256) × (first ≡ flags_text flags) → (numbers : List ℕ) × IsRead Plain 0 0 segment_columns words numbers → Tail (drop 6 words) → Said (first ∷ words)
    by_numbers f ([], read) t = absurd read.fit
    by_numbers f (seq ∷ [], read) t = absurd read.fit.1
    by_numbers f (seq ∷ ack ∷ [], read) t = absurd read.fit.1.1
    by_numbers f (seq ∷ ack ∷ window ∷ x ∷ more, read) t = absurd read.fit.1.1.1
    by_numbers f (seq ∷ ack ∷ window ∷ [], read) t = record {
      flags = f.0;
      seq = seq;
      ack = ack;
      window = window;
      mss = t.mss;
      payload = t.payload;
      timestamps = t.timestamps;
      flags_fit = omega (arith, f.1);
      seq_fits = omega (arith, read.fit.0);
      ack_fits = omega (arith, read.fit.1.0);
      window_fits = omega (arith, read.fit.1.1.0);
      mss_fits = t.mss_fits;
      timestamps_fit = t.timestamps_fit;
      bytes = t.bytes;
      size = t.size;
      reported = ap₂ (λ x y. x ∷ y) f.2 (read.words_are ∙ ap (λ ws. column_words segment_columns (seq ∷ ack ∷ window ∷ []) ++ ws) t.reported);
    }

option_length : (mss : Option ℕ) → length (mss_option mss) ≡ size_of mss
option_length None = refl
option_length (Some m) = refl

stamps_length : (timestamps : Option Timestamps) → length (timestamps_option timestamps) ≡ bytes_of timestamps
stamps_length None = refl
stamps_length (Some t) = timestamps_option_long t

-- the length of both options
options_length : (head : Head) → length (options_of head) ≡ size_of head.mss + bytes_of head.timestamps
options_length head = omega (arith, length-append (mss_option head.mss) (timestamps_option head.timestamps), option_length head.mss, stamps_length head.timestamps)

-- a segment with these addresses
abbrev sent : {words : List (List ℕ)} → Said words → Key → Key → Segment
sent said src dst = record {
  head = record { src = src.ip; dst = dst.ip; sport = src.port; dport = dst.port; seq = said.seq; ack = said.ack; flags = said.flags; window = said.window; mss = said.mss; timestamps = said.timestamps };
  payload = said.payload;
}

sendable : {words : List (List ℕ)} (said : Said words) (src dst : Key) → FitsKey src → FitsKey dst → CanBeSent (sent said src dst)
sendable said src dst a b =
    let len : length (options_of (sent said src dst).head) ≡ size_of said.mss + bytes_of said.timestamps = options_length (sent said src dst).head in (
      record {
        src = a.0;
        dst = b.0;
        sport = a.1;
        dport = b.1;
        seq = said.seq_fits;
        ack = said.ack_fits;
        flags = said.flags_fit;
        window = said.window_fits;
        mss = if_some said.mss said.mss_fits;
        timestamps = said.timestamps_fit;
        size = omega (arith, len, said.size);
      },
      said.bytes,
    )
  where
    if_some : (mss : Option ℕ) → ((m : ℕ) → mss ≡ Some m → m < 2 ^ 16) → IfSome mss (λ m. m < 2 ^ 16)
    if_some None h = tt
    if_some (Some m) h = h m refl

segment_shown : (s : Segment) → CanBeSent s → is_segment (segment_words s) ≡ true
unfolding is_segment
segment_shown s h =
    let fit : AllFit (column_fields segment_columns) (s.head.seq ∷ s.head.ack ∷ s.head.window ∷ []) =
    (omega (arith, h.0.seq), (omega (arith, h.0.ack), (omega (arith, h.0.window), tt))) in
    let tail : List (List ℕ) = codes "mss" ∷ mss_text s.head.mss ∷ codes "data" ∷ hex_text s.payload ∷ timestamps_words s.head.timestamps in
    let columns : columns_fit Plain 0 0 segment_columns (column_words segment_columns (s.head.seq ∷ s.head.ack ∷ s.head.window ∷ []) ++ tail) ≡ true =
    columns_shown Plain 0 0 segment_columns (s.head.seq ∷ s.head.ack ∷ s.head.window ∷ []) tail fit refl in
    let len : length (options_of s.head) ≡ size_of s.head.mss + bytes_of s.head.timestamps = options_length s.head in
    let all : ℕ = 40 + size_of s.head.mss + bytes_of s.head.timestamps + length s.payload in
    let size : nat_le all 1500 ≡ true = le-leb all 1500 (omega (arith, len, h.0.size)) in
    let sizes : sizes_fit (option_size (mss_text s.head.mss)) (timestamps_size (timestamps_words s.head.timestamps)) (byte_count (hex_text s.payload)) ≡ true =
    ap₂ (λ o p. sizes_fit o (timestamps_size (timestamps_words s.head.timestamps)) p) (option_shown s.head.mss (some_of s.head.mss h.0.mss)) (byte_count_shown s.payload h.1)
    ∙ (ap (λ t. sizes_fit (Some (size_of s.head.mss)) t (Some (length s.payload))) (stamps_shown s.head.timestamps h.0.timestamps) ∙ size) in
    both_true (flags_shown s.head.flags) (both_true columns
    (ap₂ (λ second first. last_fits (if second then Some (hex_text s.payload) else None) (if first then Some (mss_text s.head.mss) else None) (timestamps_size (timestamps_words s.head.timestamps)))
    (bytes_same (codes "data")) (bytes_same (codes "mss")) ∙ sizes))
  where
    some_of : (mss : Option ℕ) → IfSome mss (λ m. m < 2 ^ 16) → (m : ℕ) → mss ≡ Some m → m < 2 ^ 16
    some_of None h m e = absurd (true≢false (sym (ap is_some e)))
    some_of (Some k) h m e = let same : k ≡ m = ap (value_or k) e in omega (arith, h, same)

record Numbered (server : Addr) (lines : List ClientLine) (at : ℕ) : Type 0 where
  key : Key
  fits : FitsKey key
  place : position_or_len (λ c. key_eq c.key key) (clients_of server lines) ≡ at
  among : (other : Key) → list_any (λ c. key_eq c.key other) (clients_of server lines) ≡ false → key_eq key other ≡ false

numbered : (server : Addr) (lines : List ClientLine) (at : ℕ) → at < length lines → are_apart server (clients_of server lines) ≡ true → AllByRecursion FitsClient lines → Numbered server lines at
numbered server [] at h apart fits = absurd (omega (arith, h))
numbered server (line ∷ lines) zero h apart fits = record {
  key = line.key;
  fits = fits.0.0;
  place = rw (key_is line.key) refl;
  among = λ other none. left_false (key_eq line.key other) _ none;
}
numbered server (line ∷ lines) (suc at) h apart fits =
    let less : at < length lines = omega (arith, h) in
    let n : Numbered server lines at = numbered server lines at less (right_true (is_apart server line.key (clients_of server lines)) _ apart) fits.1 in
    let own : is_apart server line.key (clients_of server lines) ≡ true = left_true (is_apart server line.key (clients_of server lines)) _ apart in
    let none : list_any (λ c. key_eq c.key line.key) (clients_of server lines) ≡ false = negated _ (right_true (not (line.key.ip == server.ip && line.key.port == server.port)) _ own) in
    let differs : key_eq line.key n.key ≡ false = same_either_way line.key n.key ∙ n.among line.key none in
    let next : 1 + at ≡ suc at = omega arith in
    record {
      key = n.key;
      fits = n.fits;
      place = rw differs (ap (λ k. 1 + k) n.place ∙ next);
      among = λ other without. n.among other (right_false (key_eq line.key other) _ without);
    }
  where
    negated : (b : Bool) → not b ≡ true → b ≡ false
    negated true e = absurd (true≢false (sym e))
    negated false e = refl

length_clients : (server : Addr) (lines : List ClientLine) → length (clients_of server lines) ≡ length lines
length_clients server [] = refl
length_clients server (line ∷ lines) = ap suc (length_clients server lines)

record HasNumber (schedule : Schedule) (n : ℕ) : Type 0 where
  key : Key
  fits : FitsKey key
  number : number_of_client (clients_in schedule) key ≡ n

client_reported : (schedule : Schedule) (n : ℕ) → FitsSchedule schedule → are_apart schedule.server (clients_in schedule) ≡ true → is_client (length schedule.clients) n ≡ true → HasNumber schedule n
client_reported schedule n fits apart e =
    let least : 1 ≤ n = leb-true 1 n (left_true (nat_le 1 n) _ e) in
    let most : n ≤ length schedule.clients = leb-true n (length schedule.clients) (right_true (nat_le 1 n) _ e) in
    let below : n - 1 < length schedule.clients = omega (arith, least, most) in
    let k : Numbered schedule.server schedule.clients (n - 1) = numbered schedule.server schedule.clients (n - 1) below apart fits.clients in
    let len : length (clients_in schedule) ≡ length schedule.clients = length_clients schedule.server schedule.clients in
    let inside : nat_lt (position_or_len (λ c. key_eq c.key k.key) (clients_in schedule)) (length (clients_in schedule)) ≡ true = grind (arith, k.place, len, below) in
    let again : (n - 1) + 1 ≡ n = omega (arith, least) in
    record {
      key = k.key;
      fits = k.fits;
      number = ap (λ b. option_map_or (λ i. i + 1) (if b then Some (position_or_len (λ c. key_eq c.key k.key) (clients_in schedule)) else None) 0) inside ∙ (ap (λ i. i + 1) k.place ∙ again);
    }

client_shown : (schedule : Schedule) (key : Key) → 0 < number_of_client (clients_in schedule) key → is_client (length schedule.clients) (number_of_client (clients_in schedule) key) ≡ true
client_shown schedule key some =
    let n : ℕ = number_of_client (clients_in schedule) key in
    let len : length (clients_in schedule) ≡ length schedule.clients = length_clients schedule.server schedule.clients in
    let below : n ≤ length (clients_in schedule) = within (position_or_len (λ c. key_eq c.key key) (clients_in schedule)) (length (clients_in schedule)) in
    both_true (le-leb 1 n (omega (arith, some))) (le-leb n (length schedule.clients) (omega (arith, below, len)))
  where
    within : (at count : ℕ) → option_map_or (λ i. i + 1) (if nat_lt at count then Some at else None) 0 ≤ count
    within at count = by_test (nat_lt at count) refl
      where
        by_test : (b : Bool) → nat_lt at count ≡ b → option_map_or (λ i. i + 1) (if b then Some at else None) 0 ≤ count
        by_test true e = let below : at < count = ltb-true at count e in omega (arith, below)
        by_test false e = omega arith

-- the directions
abbrev IsDirected : Direction → List ℕ → Type 0
IsDirected (FromClient n) word = (n < 2 ^ 64) × (word ≡ decimal n ++ codes ">S")
IsDirected (ToClient n) word = (n < 2 ^ 64) × (word ≡ codes "S>" ++ decimal n)
IsDirected WithLogger word = (word ≡ codes "S>L") ⊎ (word ≡ codes "L>S")

abbrev direction_or : Direction → Option Direction → Direction
direction_or other (Some d) = d
direction_or other None = other

mapped_reported : (make : ℕ → Direction) (most : ℕ) (word : List ℕ) (d : Direction) → most < 2 ^ 64 → option_map make (number_word most word) ≡ Some d → (n : ℕ) × (n < 2 ^ 64) × (make n ≡ d) × (word ≡ decimal n)
mapped_reported make most word d small e = by_number (number_word most word) refl e
  where
    by_number : (o : Option ℕ) → number_word most word ≡ o → option_map make o ≡ Some d → (n : ℕ) × (n < 2 ^ 64) × (make n ≡ d) × (word ≡ decimal n)
    by_number None f g = absurd (true≢false (sym (ap is_some g)))
    by_number (Some n) f g = let t : (n ≤ most) × (word ≡ decimal n) = number_reported most n word f in (n, omega (arith, small, t.0), ap (direction_or (make n)) g, t.1)

abbrev from_end : Bool → List ℕ → Option Direction
from_end b word = if b then option_map FromClient (number_word (2 ^ 64 - 1) (take (length word - 2) word)) else None

abbrev from_start : Bool → List ℕ → Option Direction
from_start b word = if b then option_map ToClient (number_word (2 ^ 64 - 1) (drop 2 word)) else from_end (ends_with (codes ">S") word) word

direction_reported : (word : List ℕ) (d : Direction) → direction_of word ≡ Some d → IsDirected d word
unfolding direction_of
direction_reported word d e = by_cases (bytes_eq word (codes "S>L") || bytes_eq word (codes "L>S"))
    (λ t. let f : Some WithLogger ≡ Some d = sym (ap (λ b. if b then Some WithLogger else from_start (starts_with nat_eq word (codes "S>")) word) t) ∙ e in
    subst (λ x. IsDirected x word) (ap (direction_or WithLogger) f) (by_cases (bytes_eq word (codes "S>L")) (λ s. inl (same_bytes word (codes "S>L") s))
    (λ s. inr (same_bytes word (codes "L>S") (ap (λ b. b || bytes_eq word (codes "L>S")) (sym s) ∙ t)))))
    (λ t. let f : from_start (starts_with nat_eq word (codes "S>")) word ≡ Some d =
    sym (ap (λ b. if b then Some WithLogger else from_start (starts_with nat_eq word (codes "S>")) word) t) ∙ e in
    by_cases (starts_with nat_eq word (codes "S>"))
    (λ s. let g : option_map ToClient (number_word (2 ^ 64 - 1) (drop 2 word)) ≡ Some d = sym (ap (λ b. from_start b word) s) ∙ f in
    let m = mapped_reported ToClient (2 ^ 64 - 1) (drop 2 word) d (omega arith) g in
    let begins : word ≡ codes "S>" ++ drop 2 word = (starts_is Decides-eqb word (codes "S>") (starts_with nat_eq word (codes "S>")) refl).0 s in
    subst (λ x. IsDirected x word) m.2 (m.1, begins ∙ ap (λ t. codes "S>" ++ t) m.3))
    (λ s. let g : from_end (ends_with (codes ">S") word) word ≡ Some d = sym (ap (λ b. from_start b word) s) ∙ f in
    by_cases (ends_with (codes ">S") word)
    (λ r. let h : option_map FromClient (number_word (2 ^ 64 - 1) (take (length word - 2) word)) ≡ Some d = sym (ap (λ b. from_end b word) r) ∙ g in
    let m = mapped_reported FromClient (2 ^ 64 - 1) (take (length word - 2) word) d (omega arith) h in
    let ends : drop (length word - 2) word ≡ codes ">S" = same_bytes (drop (length word - 2) word) (codes ">S") r in
    subst (λ x. IsDirected x word) m.2 (m.1, sym (take-append-drop (length word - 2) word) ∙ ap₂ ◌++◌ m.3 ends))
    (λ r. absurd (true≢false (ap is_some (sym g ∙ ap (λ b. from_end b word) r))))))

abbrev direction_for : Way → Direction
direction_for (ClientToServer n) = FromClient n
direction_for (ServerToClient n) = ToClient n
direction_for ServerToLogger = WithLogger
direction_for LoggerToServer = WithLogger
direction_for HeadToTail = WithLogger
direction_for TailToHead = WithLogger

abbrev IsPlain : Way → Type 0
IsPlain (ClientToServer n) = n < 2 ^ 64
IsPlain (ServerToClient n) = n < 2 ^ 64
IsPlain ServerToLogger = Unit {0}
IsPlain LoggerToServer = Unit {0}
IsPlain HeadToTail = ⊥
IsPlain TailToHead = ⊥

direction_shown : (way : Way) → IsPlain way → direction_of (way_text way) ≡ Some (direction_for way)
unfolding direction_of way_text
direction_shown ServerToLogger h = refl
direction_shown LoggerToServer h = refl
direction_shown HeadToTail h = absurd h
direction_shown TailToHead h = absurd h
direction_shown (ServerToClient n) h =
    let word : List ℕ = codes "S>" ++ decimal n in
    let below : n ≤ 2 ^ 64 - 1 = omega (arith, h) in
    let digits : AllByRecursion IsDigit (decimal n) = digits_decimal n h in
    let no_logger : bytes_eq word (codes "S>L") ≡ false = decide (bytes_eq word (codes "S>L"))
    (λ d. let same : decimal n ≡ codes "L" = ap (drop 2) (same_bytes word (codes "S>L") d) in
    let digit : AllByRecursion IsDigit (codes "L") = subst (AllByRecursion IsDigit) same digits in omega (arith, digit.0.1)) in
    rw (no_logger, number_shown (2 ^ 64 - 1) n below h) refl
direction_shown (ClientToServer n) h =
    let word : List ℕ = decimal n ++ codes ">S" in
    let below : n ≤ 2 ^ 64 - 1 = omega (arith, h) in
    let no_server : bytes_eq word (codes "S>L") ≡ false =
    decide (bytes_eq word (codes "S>L")) (λ d. decimal_begin 83 n (codes ">L") (codes ">S") (inr (omega arith)) h (sym (same_bytes word (codes "S>L") d))) in
    let no_log : bytes_eq word (codes "L>S") ≡ false =
    decide (bytes_eq word (codes "L>S")) (λ d. decimal_begin 76 n (codes ">S") (codes ">S") (inr (omega arith)) h (sym (same_bytes word (codes "L>S") d))) in
    let no_start : starts_with nat_eq word (codes "S>") ≡ false = decide (starts_with nat_eq word (codes "S>"))
    (λ d. let begins : word ≡ codes "S>" ++ drop 2 word = (starts_is Decides-eqb word (codes "S>") (starts_with nat_eq word (codes "S>")) refl).0 d in
    decimal_begin 83 n (62 ∷ drop 2 word) (codes ">S") (inr (omega arith)) h (sym begins)) in
    let more : length word ≡ length (decimal n) + 2 = length-append (decimal n) (codes ">S") in
    let len : length word - 2 ≡ length (decimal n) = omega (arith, more) in
    let ends : ends_with (codes ">S") word ≡ true =
    ap (λ w. bytes_eq w (codes ">S")) (ap (λ k. drop k word) len ∙ drop-append_seam (decimal n) (codes ">S")) in
    let front : take (length word - 2) word ≡ decimal n = ap (λ k. take k word) len ∙ take-append_seam (decimal n) (codes ">S") in
    ap₂ (λ a b. if a || b then Some WithLogger else from_start (starts_with nat_eq word (codes "S>")) word) no_server no_log
    ∙ (ap (λ b. from_start b word) no_start ∙ (ap (λ b. from_end b word) ends
    ∙ (ap (λ w. option_map FromClient (number_word (2 ^ 64 - 1) w)) front ∙ ap (λ o. option_map FromClient o) (number_shown (2 ^ 64 - 1) n below h))))

plain_way : (schedule : Schedule) (packet : Packet) → IsReadable schedule.server (clients_in schedule) packet → IsPlain (way_of (clients_in schedule) packet)
plain_way schedule (To_server s) r = r.0.0.1
plain_way schedule (To_client s) r = r.0.0.1
plain_way schedule (To_logger m) r = tt
plain_way schedule (From_logger m) r = tt

-- a packet with these words
record Packeted (schedule : Schedule) (direction : List ℕ) (words : List (List ℕ)) : Type 0 where
  packet : Packet
  readable : IsReadable schedule.server (clients_in schedule) packet
  written : HasWireBy (grammar_in schedule) packet
  way : direction ≡ way_text (way_of (clients_in schedule) packet)
  content : words ≡ content_words packet

server_key : Schedule → Key
server_key schedule = record { ip = schedule.server.ip; port = schedule.server.port }

content_reported : (schedule : Schedule) (direction : List ℕ) (words : List (List ℕ)) → FitsSchedule schedule → are_apart schedule.server (clients_in schedule) ≡ true
    → content_fits (grammar_in schedule) (length schedule.clients) (direction_of direction) words ≡ true → Packeted schedule direction words
unfolding content_words way_text server_key
content_reported schedule direction words fits apart e = by_direction (direction_of direction) refl e
  where
    few : (n : ℕ) → is_client (length schedule.clients) n ≡ true → 0 < n
    few n c = let least : 1 ≤ n = leb-true 1 n (left_true (nat_le 1 n) _ c) in omega (arith, least)

    server_fits : FitsKey (server_key schedule)
    server_fits = (fits.ip, fits.port)

    by_direction : (o : Option Direction) → direction_of direction ≡ o → content_fits (grammar_in schedule) (length schedule.clients) o words ≡ true → Packeted schedule direction words
    by_direction None f g = absurd (true≢false (sym g))
    by_direction (Some WithLogger) f g = by_logger (direction_reported direction WithLogger f) (message_reported (grammar_in schedule) words g)
      where
        by_logger : (direction ≡ codes "S>L") ⊎ (direction ≡ codes "L>S") → (m : Message) × CanBeWrittenBy (grammar_in schedule) m × (words ≡ message_words m) → Packeted schedule direction words
        by_logger (inl s) m = record { packet = To_logger m.0; readable = (tt, grammar_in schedule, m.1); written = m.1; way = s; content = m.2 }
        by_logger (inr s) m = record { packet = From_logger m.0; readable = (tt, grammar_in schedule, m.1); written = m.1; way = s; content = m.2 }
    by_direction (Some (FromClient n)) f g =
        let t : (n < 2 ^ 64) × (direction ≡ decimal n ++ codes ">S") = direction_reported direction (FromClient n) f in
        let c : is_client (length schedule.clients) n ≡ true = left_true (is_client (length schedule.clients) n) _ g in
        let k : HasNumber schedule n = client_reported schedule n fits apart c in
        let said : Said words = segment_reported words (right_true (is_client (length schedule.clients) n) _ g) in
        let known : 0 < number_of_client (clients_in schedule) k.key = subst (λ m. 0 < m) (sym k.number) (few n c) in
        let small : FitsU64 (number_of_client (clients_in schedule) k.key) = subst FitsU64 (sym k.number) t.0 in
        record {
          packet = To_server (sent said k.key (server_key schedule));
          readable = (((known, small), (refl, refl)), Plain, sendable said k.key (server_key schedule) k.fits server_fits);
          written = sendable said k.key (server_key schedule) k.fits server_fits;
          way = t.1 ∙ ap (λ m. decimal m ++ codes ">S") (sym k.number);
          content = said.reported;
        }
    by_direction (Some (ToClient n)) f g =
        let t : (n < 2 ^ 64) × (direction ≡ codes "S>" ++ decimal n) = direction_reported direction (ToClient n) f in
        let c : is_client (length schedule.clients) n ≡ true = left_true (is_client (length schedule.clients) n) _ g in
        let k : HasNumber schedule n = client_reported schedule n fits apart c in
        let said : Said words = segment_reported words (right_true (is_client (length schedule.clients) n) _ g) in
        let known : 0 < number_of_client (clients_in schedule) k.key = subst (λ m. 0 < m) (sym k.number) (few n c) in
        let small : FitsU64 (number_of_client (clients_in schedule) k.key) = subst FitsU64 (sym k.number) t.0 in
        record {
          packet = To_client (sent said (server_key schedule) k.key);
          readable = (((known, small), (refl, refl)), Plain, sendable said (server_key schedule) k.key server_fits k.fits);
          written = sendable said (server_key schedule) k.key server_fits k.fits;
          way = t.1 ∙ ap (λ m. codes "S>" ++ decimal m) (sym k.number);
          content = said.reported;
        }

words_reported : (schedule : Schedule) (n : ℕ) (words : List (List ℕ)) → FitsSchedule schedule → are_apart schedule.server (clients_in schedule) ≡ true
    → packet_words_fit (grammar_in schedule) (length schedule.clients) n words ≡ true
    → (packet : Packet) × IsReadable schedule.server (clients_in schedule) packet × HasWireBy (grammar_in schedule) packet
    × (words ≡ codes "packet" ∷ decimal n ∷ way_text (way_of (clients_in schedule) packet) ∷ content_words packet)
unfolding packet_words_fit
words_reported schedule n [] fits apart e = absurd (true≢false (sym e))
words_reported schedule n (a ∷ []) fits apart e = absurd (true≢false (sym e))
words_reported schedule n (a ∷ b ∷ []) fits apart e = absurd (true≢false (sym e))
words_reported schedule n (a ∷ b ∷ c ∷ words) fits apart e =
    let rest : is_numbered n (number_word (2 ^ 32 - 1) b) && content_fits (grammar_in schedule) (length schedule.clients) (direction_of c) words ≡ true = right_true (bytes_eq a (codes "packet")) _ e in
    let p : Packeted schedule c words = content_reported schedule c words fits apart (right_true (is_numbered n (number_word (2 ^ 32 - 1) b)) _ rest) in
    let first : a ≡ codes "packet" = same_bytes a (codes "packet") (left_true (bytes_eq a (codes "packet")) _ e) in
    let second : b ≡ decimal n = numbered_reported n b (left_true (is_numbered n (number_word (2 ^ 32 - 1) b)) _ rest) in
    (p.packet, p.readable, p.written, ap₂ (λ x y. x ∷ y) first (ap₂ (λ x y. x ∷ y) second (ap₂ (λ x y. x ∷ y) p.way p.content)))

pub line_reported : (schedule : Schedule) (n : ℕ) (line : List ℕ) → FitsSchedule schedule → are_apart schedule.server (clients_in schedule) ≡ true → n ≤ 200000
    → is_packet_text (grammar_in schedule) (length schedule.clients) n line ≡ true → (packet : Packet) × IsPacketLine schedule n packet line
unfolding is_packet_text packet_line
line_reported schedule n line fits apart few e =
    let front : List ℕ = take (length line - 1) line in
    let p = words_reported schedule n (slice_split (is 32) front) fits apart (right_true (ends_with_feed line) _ e) in
    let whole : line ≡ front ++ 10 ∷ [] = feed_reported line (left_true (ends_with_feed line) _ e) in
    let joined : front ≡ join_with_byte 32 (codes "packet" ∷ decimal n ∷ way_text (way_of (clients_in schedule) p.0) ∷ content_words p.0) =
    sym (join_with_byte-slice_split 32 front) ∙ ap (join_with_byte 32) p.3 in (
      p.0,
      record {
        readable = p.1;
        written = p.2;
        number = few;
        spelled = whole ∙ (ap (λ t. t ++ 10 ∷ []) joined ∙ sym (line_joined (codes "packet") (decimal n) (way_text (way_of (clients_in schedule) p.0) ∷ content_words p.0)));
      },
    )

content_shown : (schedule : Schedule) (packet : Packet) → IsReadable schedule.server (clients_in schedule) packet → HasWireBy (grammar_in schedule) packet
    → content_fits (grammar_in schedule) (length schedule.clients) (Some (direction_for (way_of (clients_in schedule) packet))) (content_words packet) ≡ true
unfolding content_words
content_shown schedule (To_server s) r w = both_true (client_shown schedule (source_of s) r.0.0.0) (segment_shown s w)
content_shown schedule (To_client s) r w = both_true (client_shown schedule (destination_of s) r.0.0.0) (segment_shown s w)
content_shown schedule (To_logger m) r w = message_shown (grammar_in schedule) m w
content_shown schedule (From_logger m) r w = message_shown (grammar_in schedule) m w

pub line_shown : (schedule : Schedule) (n : ℕ) (line : List ℕ) (packet : Packet) → IsPacketLine schedule n packet line → is_packet_text (grammar_in schedule) (length schedule.clients) n line ≡ true
unfolding is_packet_text packet_line packet_words_fit
line_shown schedule n line packet p =
    let way : Way = way_of (clients_in schedule) packet in
    let words : List (List ℕ) = codes "packet" ∷ decimal n ∷ way_text way ∷ content_words packet in
    let front : List ℕ = join_with_byte 32 words in
    let whole : line ≡ front ++ 10 ∷ [] = p.spelled ∙ line_joined (codes "packet") (decimal n) (way_text way ∷ content_words packet) in
    let small : n < 2 ^ 64 = omega (arith, p.number) in
    let below : n ≤ 2 ^ 32 - 1 = omega (arith, p.number) in
    let plain : AllByRecursion IsWord words =
    (lit (codes "packet") refl, (word_decimal n small, (word_way way (way_fits schedule.server (clients_in schedule) packet p.readable), words_content schedule.server (clients_in schedule) packet p.readable))) in
    let cut : slice_split (is 32) front ≡ words = joined_cut (codes "packet") (decimal n ∷ way_text way ∷ content_words packet) plain in
    let fits : packet_words_fit (grammar_in schedule) (length schedule.clients) n words ≡ true =
    both_true (bytes_same (codes "packet")) (both_true (numbered_shown n below)
    (ap (λ d. content_fits (grammar_in schedule) (length schedule.clients) d (content_words packet)) (direction_shown way (plain_way schedule packet p.readable)) ∙ content_shown schedule packet p.readable p.written)) in
    ap (is_packet_text (grammar_in schedule) (length schedule.clients) n) whole
    ∙ both_true (feed_shown front) (ap (λ t. packet_words_fit (grammar_in schedule) (length schedule.clients) n (slice_split (is 32) t)) (cut_last front) ∙ (ap (packet_words_fit (grammar_in schedule) (length schedule.clients) n) cut ∙ fits))

-- the tests with the limit on a packet's number
pub line_iff : (schedule : Schedule) (grammar : Grammar) (clients n : ℕ) (line : List ℕ) (result : Bool) → FitsSchedule schedule → are_apart schedule.server (clients_in schedule) ≡ true
    → grammar ≡ grammar_in schedule → clients ≡ length schedule.clients → result ≡ (nat_le n 200000 && is_packet_text grammar clients n line) → IsTrue result ↔ ((packet : Packet) × IsPacketLine schedule n packet line)
line_iff schedule grammar clients n line result fits apart written count is = (
  λ e. let passed : nat_le n 200000 && is_packet_text grammar clients n line ≡ true = sym is ∙ e in
      let few : n ≤ 200000 = leb-true n 200000 (left_true (nat_le n 200000) _ passed) in
      line_reported schedule n line fits apart few (ap₂ (λ g k. is_packet_text g k n line) (sym written) (sym count) ∙ right_true (nat_le n 200000) _ passed),
  λ p. is ∙ both_true (le-leb n 200000 p.1.number) (ap₂ (λ g k. is_packet_text g k n line) written count ∙ line_shown schedule n line p.0 p.1),
)
