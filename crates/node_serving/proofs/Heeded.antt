-- Which messages a server heeds, and what those say.
use Rattle.std.proofs.Common.{◌≡◌, ℕ, ◌≤◌, true, false, ◌&&◌, nat_le, refl, ap₂, subst, length, List}
use Rattle.std.proofs.lemmas.Bool.{leb-true, and_parts}
use Rattle.ft_io.specs.declared.Key.{Key}
use Rattle.seq_arith.specs.Message.{Body as said, Message}
use Rattle.seq_arith.specs.MessageGrammar.{kind_of, numbers_of, behind_of, lens_of, is_sound_by}
use Rattle.logger_wire.specs.declared.Msg.{Msg}
use Rattle.ft_model.specs.ServingTurn.{names}
use Rattle.logger_wire.specs.declared.Body.{Body}
use Rattle.logger_wire.specs.declared.Body.TheVariants as body
use Rattle.logger_wire.specs.declared.records.Kept.{Kept}
use Rattle.logger_wire.specs.declared.records.Numbers.{Numbers}
use Rattle.seq_arith.specs.declared.kinds.Grammar.{Grammar}
use Rattle.logger_wire.specs.Value.{body_of, IsSendableBy}
use Rattle.node_serving.specs.Clients.{Known, known_after}

-- a message by its parts
pub message_is : (message : Message) (boot : ℕ) (says : said) → message.boot ≡ boot → message.body ≡ says → message ≡ record { boot = boot; body = says }
message_is message boot says b s = ap₂ (λ (x : ℕ) (y : said). let m : Message = record { boot = x; body = y } in m) b s

-- the segment size of a logged opening
pub opened_range : (grammar : Grammar) (msg : Msg) (numbers : Numbers) → IsSendableBy grammar msg → msg.body ≡ body.Opened numbers → (64 ≤ numbers.mss) × (numbers.mss ≤ 1460)
unfolding is_sound_by
opened_range grammar msg numbers sendable is =
    let mss : ℕ = numbers.mss in
    let sound : ((nat_le 1 msg.boot && ((nat_le 64 mss && nat_le mss 1460) && true)) && true) ≡ true =
    subst (λ b. is_sound_by grammar (kind_of (body_of b)) msg.boot (length (behind_of (body_of b))) (numbers_of (body_of b)) (lens_of (body_of b)) ≡ true) is sendable.spellable.sound in
    let first : (nat_le 1 msg.boot && ((nat_le 64 mss && nat_le mss 1460) && true)) ≡ true = (and_parts (nat_le 1 msg.boot && ((nat_le 64 mss && nat_le mss 1460) && true)) true sound).0 in
    let second : ((nat_le 64 mss && nat_le mss 1460) && true) ≡ true = (and_parts (nat_le 1 msg.boot) ((nat_le 64 mss && nat_le mss 1460) && true) first).1 in
    let range = and_parts (nat_le 64 mss) (nat_le mss 1460) (and_parts (nat_le 64 mss && nat_le mss 1460) true second).0 in
    (leb-true 64 mss range.0, leb-true mss 1460 range.1)

-- other messages name no key
pub others_unreceived : (b : Body) → ((numbers : Numbers) → b ≡ body.Opened numbers → ⊥) → ((kept : Kept) → b ≡ body.Stable kept → ⊥)
    → ((kept : Kept) → b ≡ body.Reads kept → ⊥) → ((key : Key) → b ≡ body.Ended key → ⊥) → ((key : Key) → b ≡ body.Full key → ⊥)
    → (k : Key) → names (body_of b) k ≡ false
others_unreceived (body.Opened numbers) opened stable reads ended full k = absurd (opened numbers refl)
others_unreceived (body.Stable kept) opened stable reads ended full k = absurd (stable kept refl)
others_unreceived (body.Reads kept) opened stable reads ended full k = absurd (reads kept refl)
others_unreceived (body.Ended key) opened stable reads ended full k = absurd (ended key refl)
others_unreceived (body.Full key) opened stable reads ended full k = absurd (full key refl)
others_unreceived body.Hello opened stable reads ended full k = refl
others_unreceived (body.Summary n) opened stable reads ended full k = refl
others_unreceived (body.List n) opened stable reads ended full k = refl
others_unreceived (body.Entry n head) opened stable reads ended full k = refl
others_unreceived (body.Bytes key n) opened stable reads ended full k = refl
others_unreceived (body.Part key n bytes) opened stable reads ended full k = refl
others_unreceived (body.Cuts key n) opened stable reads ended full k = refl
others_unreceived (body.Lens key n lens) opened stable reads ended full k = refl
others_unreceived (body.Open numbers) opened stable reads ended full k = refl
others_unreceived (body.Data part) opened stable reads ended full k = refl
others_unreceived (body.Read key n length) opened stable reads ended full k = refl
others_unreceived (body.Done key) opened stable reads ended full k = refl
others_unreceived (body.Stale n) opened stable reads ended full k = refl

-- other messages end no opening
pub others_keep : (b : Body) → ((numbers : Numbers) → b ≡ body.Opened numbers → ⊥) → ((key : Key) → b ≡ body.Full key → ⊥) → (known : List (Key × Known))
    → known_after (body_of b) known ≡ known
others_keep (body.Opened numbers) opened full known = absurd (opened numbers refl)
others_keep (body.Full key) opened full known = absurd (full key refl)
others_keep (body.Stable kept) opened full known = refl
others_keep (body.Reads kept) opened full known = refl
others_keep (body.Ended key) opened full known = refl
others_keep body.Hello opened full known = refl
others_keep (body.Summary n) opened full known = refl
others_keep (body.List n) opened full known = refl
others_keep (body.Entry n head) opened full known = refl
others_keep (body.Bytes key n) opened full known = refl
others_keep (body.Part key n bytes) opened full known = refl
others_keep (body.Cuts key n) opened full known = refl
others_keep (body.Lens key n lens) opened full known = refl
others_keep (body.Open numbers) opened full known = refl
others_keep (body.Data part) opened full known = refl
others_keep (body.Read key n length) opened full known = refl
others_keep (body.Done key) opened full known = refl
others_keep (body.Stale n) opened full known = refl
