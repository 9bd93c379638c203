-- The bytes of a message that may be sent lie within the longest stream.
use Rattle.std.proofs.Common.{◌≡◌, ℕ, ◌+◌, ◌^◌, ◌≤◌, ◌&&◌, true, nat_le, List, [], ◌∷◌, length}
use Rattle.std.proofs.lemmas.Bool.{leb-true, and_parts}
use Rattle.seq_arith.specs.declared.kinds.Grammar.{Grammar}
use Rattle.seq_arith.specs.declared.kinds.Kind.TheVariants as kinds
use Rattle.seq_arith.specs.Message.{Body}
use Rattle.seq_arith.specs.Message.Body.{HelloMsg, SummaryMsg, ListMsg, EntryMsg, BytesMsg, PartMsg, CutsMsg, LensMsg, OpenMsg, OpenedMsg, DataMsg, StableMsg, ReadMsg, ReadsMsg, DoneMsg, EndedMsg, StaleMsg, FullMsg}
use Rattle.seq_arith.specs.MessageGrammar.{kind_of, numbers_of, behind_of, lens_of, all_in_range_by, fields_of, ending, most_ending, is_sound_by}
use Rattle.logger_wire.specs.declared.Msg.{Msg}
use Rattle.logger_wire.specs.Value.{body_of, IsSendableBy}
use Rattle.plain_log.specs.Parts.{StaysInStream}

IsSound : Grammar → ℕ → Body → Type 0
IsSound grammar boot b = is_sound_by grammar (kind_of b) boot (length (behind_of b)) (numbers_of b) (lens_of b) ≡ true

data_ends : (grammar : Grammar) (boot behind ip port offset acked fin : ℕ) (lens : List ℕ) → is_sound_by grammar kinds.Data boot behind (ip ∷ port ∷ offset ∷ acked ∷ fin ∷ []) lens ≡ true → offset + behind ≤ 2 ^ 24
unfolding is_sound_by
data_ends grammar boot behind ip port offset acked fin lens s =
    let fields : all_in_range_by grammar boot behind (fields_of kinds.Data) (ip ∷ port ∷ offset ∷ acked ∷ fin ∷ []) ≡ true = (and_parts _ _ (and_parts _ _ s).0).1 in
    leb-true (offset + behind) (2 ^ 24) (and_parts (nat_le (offset + behind) (2 ^ 24)) (nat_le acked (2 ^ 24 + 1) && (nat_le fin (most_ending grammar) && true)) fields).0

stays : (grammar : Grammar) (boot : ℕ) (b : Body) → IsSound grammar boot b → StaysInStream b
unfolding IsSound
stays grammar boot HelloMsg s = tt
stays grammar boot (SummaryMsg count) s = tt
stays grammar boot (ListMsg index) s = tt
stays grammar boot (EntryMsg index head) s = tt
stays grammar boot (BytesMsg key offset) s = tt
stays grammar boot (PartMsg key offset bytes) s = tt
stays grammar boot (CutsMsg key first) s = tt
stays grammar boot (LensMsg key first lens) s = tt
stays grammar boot (OpenMsg n) s = tt
stays grammar boot (OpenedMsg n) s = tt
stays grammar boot (DataMsg part) s = data_ends grammar boot (length part.bytes) part.key.ip part.key.port part.offset part.acked (ending part) [] s
stays grammar boot (StableMsg k) s = tt
stays grammar boot (ReadMsg key index len) s = tt
stays grammar boot (ReadsMsg k) s = tt
stays grammar boot (DoneMsg key) s = tt
stays grammar boot (EndedMsg key) s = tt
stays grammar boot (StaleMsg newer) s = tt
stays grammar boot (FullMsg key) s = tt

pub stays_in_stream : (grammar : Grammar) (msg : Msg) → IsSendableBy grammar msg → StaysInStream (body_of msg.body)
unfolding IsSound
stays_in_stream grammar msg sendable = stays grammar msg.boot (body_of msg.body) sendable.spellable.sound
