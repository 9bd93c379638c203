-- The node's own messages can be written, and are sent whole.
use Rattle.std.proofs.Common.{◌≡◌, ◌∙◌, ℕ, ◌<◌, ◌≤◌, ◌^◌, true, ◌&&◌, nat_le, refl, sym, ap, arith, List, ◌++◌, length, take, drop}
use Rattle.std.proofs.lemmas.Bool.{and_from, le-leb}
use Rattle.std.proofs.Math.Seq.{take-append_seam}
use Rattle.ft_io.specs.declared.Key.{Key}
use Rattle.seq_arith.specs.Checksum.{checksum}
use Rattle.seq_arith.specs.Message.{Message}
use Rattle.seq_arith.specs.declared.kinds.Grammar.{Grammar}
use Rattle.seq_arith.specs.MessageGrammar.{has_length, message_length, spelled, IsSpellableBy, is_sound_by, spelling_by}
use Rattle.seq_arith.proofs.MessageSpelling.{spelled_length}
use Rattle.logger_wire.specs.declared.Body.TheVariants as body
use Rattle.logger_wire.specs.Value.{IsSendableBy}

-- the bytes at the front are the whole message
pub front_reported : (grammar : Grammar) (message : Message) (out : List ℕ) (len : ℕ) → IsSpellableBy grammar message → len ≡ message_length message.body
    → take len (spelling_by grammar message ++ drop len out) ≡ spelling_by grammar message
unfolding spelling_by
front_reported grammar message out len spellable is =
    let size : len ≡ length (spelling_by grammar message) = is ∙ sym (spelled_length grammar message (checksum (spelled grammar message 0)) spellable.numbers)
    in ap (λ n. take n (spelling_by grammar message ++ drop len out)) size ∙ take-append_seam (spelling_by grammar message) (drop len out)

-- .. in a grammar that is this one
pub front_in : (grammar other : Grammar) (message : Message) (new out : List ℕ) (len : ℕ) → other ≡ grammar → IsSpellableBy grammar message → len ≡ message_length message.body
    → new ≡ spelling_by other message ++ drop len out → take len new ≡ spelling_by grammar message
front_in grammar other message new out len same spellable is wrote =
    ap (take len) (wrote ∙ ap (λ g. spelling_by g message ++ drop len out) same) ∙ front_reported grammar message out len spellable is

pub open_reports : (grammar : Grammar) (boot : ℕ) (key : Key) (cisn sisn mss : ℕ) → 1 ≤ boot → boot < 2 ^ 64 → key.ip < 2 ^ 32 → key.port < 2 ^ 16 → cisn < 2 ^ 32 → sisn < 2 ^ 32 → 64 ≤ mss → mss ≤ 1460
    → IsSendableBy grammar (record { boot = boot; body = body.Open (record { key = key; cisn = cisn; sisn = sisn; mss = mss }) })
unfolding is_sound_by has_length
open_reports grammar boot key cisn sisn mss first most ip port own peer least large = record {
  lens = refl;
  spellable = record {
    boot = omega arith;
    numbers = (omega arith, (omega arith, (omega arith, (omega arith, (omega arith, tt)))));
    sound = and_from (nat_le 1 boot && ((nat_le 64 mss && nat_le mss 1460) && true)) true
        (and_from (nat_le 1 boot) _ (le-leb 1 boot first)
        (and_from (nat_le 64 mss && nat_le mss 1460) true (and_from (nat_le 64 mss) (nat_le mss 1460) (le-leb 64 mss least) (le-leb mss 1460 large)) refl)) refl;
    size = refl;
  };
}

pub hello_reports : (grammar : Grammar) (boot : ℕ) → 1 ≤ boot → boot < 2 ^ 64 → IsSendableBy grammar (record { boot = boot; body = body.Hello })
unfolding is_sound_by has_length
hello_reports grammar boot first most = record {
  lens = refl;
  spellable = record {
    boot = omega arith;
    numbers = tt;
    sound = and_from (nat_le 1 boot && true) true (and_from (nat_le 1 boot) true (le-leb 1 boot first) refl) refl;
    size = refl;
  };
}
