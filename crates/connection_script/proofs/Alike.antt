-- What a logger of the plain grammar may send, one of each grammar may.
use Rattle.std.proofs.Common.{◌≡◌, ℕ, true, [], ◌∷◌, length, refl, arith}
use Rattle.std.specs.Prelude.{nat_le}
use Rattle.std.proofs.lemmas.Bool.{leb-true, le-leb, and_from, and_parts}
use Rattle.seq_arith.specs.declared.kinds.Grammar.{Grammar}
use Rattle.seq_arith.specs.declared.kinds.Grammar.TheVariants.{Plain, Wide}
use Rattle.seq_arith.specs.declared.kinds.Kind.TheVariants as kinds
use Rattle.seq_arith.specs.Message.{Body}
use Rattle.seq_arith.specs.Message.Body.{HelloMsg, SummaryMsg, ListMsg, EntryMsg, BytesMsg, PartMsg, CutsMsg, LensMsg, OpenMsg, OpenedMsg, DataMsg, StableMsg, ReadMsg, ReadsMsg, DoneMsg, EndedMsg, StaleMsg, FullMsg}
use Rattle.seq_arith.specs.MessageGrammar.{kind_of, numbers_of, behind_of, lens_of, all_in_range_by, fields_of, ending, is_sound_by}
use Rattle.logger_wire.specs.declared.Msg.{Msg}
use Rattle.logger_wire.specs.Value.{body_of, IsSendable, IsSendableBy}

data_sound : (boot behind ip port offset acked end : ℕ) → is_sound_by Plain kinds.Data boot behind (ip ∷ port ∷ offset ∷ acked ∷ end ∷ []) [] ≡ true
    → is_sound_by Wide kinds.Data boot behind (ip ∷ port ∷ offset ∷ acked ∷ end ∷ []) [] ≡ true
unfolding is_sound_by
data_sound boot behind ip port offset acked end s =
    let numbered : nat_le 1 boot ≡ true = (and_parts _ _ (and_parts _ _ s).0).0 in
    let fields : all_in_range_by Plain boot behind (fields_of kinds.Data) (ip ∷ port ∷ offset ∷ acked ∷ end ∷ []) ≡ true = (and_parts _ _ (and_parts _ _ s).0).1 in
    let low : nat_le end 1 ≡ true = (and_parts _ _ (and_parts _ _ (and_parts _ _ fields).1).1).0 in
    let wide : nat_le end 2 ≡ true = le-leb end 2 (omega (arith, leb-true end 1 low)) in
    let all : all_in_range_by Wide boot behind (fields_of kinds.Data) (ip ∷ port ∷ offset ∷ acked ∷ end ∷ []) ≡ true =
    and_from _ _ (and_parts _ _ fields).0 (and_from _ _ (and_parts _ _ (and_parts _ _ fields).1).0 (and_from _ _ wide refl)) in
    and_from _ _ (and_from _ _ numbered all) refl

each_sound : (boot : ℕ) (b : Body) → is_sound_by Plain (kind_of b) boot (length (behind_of b)) (numbers_of b) (lens_of b) ≡ true
    → is_sound_by Wide (kind_of b) boot (length (behind_of b)) (numbers_of b) (lens_of b) ≡ true
unfolding is_sound_by
each_sound boot HelloMsg s = s
each_sound boot (SummaryMsg count) s = s
each_sound boot (ListMsg index) s = s
each_sound boot (EntryMsg index head) s = s
each_sound boot (BytesMsg key offset) s = s
each_sound boot (PartMsg key offset bytes) s = s
each_sound boot (CutsMsg key first) s = s
each_sound boot (LensMsg key first lens) s = s
each_sound boot (OpenMsg n) s = s
each_sound boot (OpenedMsg n) s = s
each_sound boot (DataMsg part) s = data_sound boot (length part.bytes) part.key.ip part.key.port part.offset part.acked (ending part) s
each_sound boot (StableMsg k) s = s
each_sound boot (ReadMsg key index len) s = s
each_sound boot (ReadsMsg k) s = s
each_sound boot (DoneMsg key) s = s
each_sound boot (EndedMsg key) s = s
each_sound boot (StaleMsg newer) s = s
each_sound boot (FullMsg key) s = s

pub in_each : (grammar : Grammar) (m : Msg) → IsSendable m → IsSendableBy grammar m
in_each Plain m s = s
in_each Wide m s = record {
  lens = s.lens;
  spellable = record {
    boot = s.spellable.boot;
    numbers = s.spellable.numbers;
    sound = each_sound m.boot (body_of m.body) s.spellable.sound;
    size = s.spellable.size;
  };
}
