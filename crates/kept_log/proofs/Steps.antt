-- A step takes a block, or reads more.
use Rattle.std.proofs.Common.{◌≡◌, ◌∙◌, ◌+◌, ◌≤◌, Option, List, ◌++◌, ℕ, length, take, drop, refl, sym, ap, subst, arith, append_assoc}
use Rattle.std.proofs.lemmas.List.{drop-drop}
use Rattle.forget_store.specs.AnyMessage.{AnyMessage}
use Rattle.kept_log.specs.Format.{seal, block, next_tip, IsRound}
use Rattle.kept_log.specs.JournaledLog.{Waits}
use Rattle.kept_log.specs.MessageList.{Says}
use Rattle.kept_log.specs.Startup.{HasNoBlock}
use Rattle.kept_log.specs.declared.block.Start.TheVariants as starts
use Rattle.kept_log.proofs.Blocks.{HasParts, parts_of, block_once}
use Rattle.std.specs.Io.KnownBytes.{Consumes, IsAtEnd}
use Rattle.ft_model.specs.Log.{Log}
use Rattle.kept_log.specs.ReadSteps.{StartsWith, Takes, Steps}
use Rattle.kept_log.specs.declared.tip.Tip.{Tip}
use Rattle.kept_log.specs.declared.reading.Taken.TheVariants.{Block, Short, End, Wrong}
use Rattle.kept_log.proofs.Onward.{end_of, none_consumed, took_none}

module _ (tip next : Tip) (bytes rest : List ℕ) (before after : Log) where
  pub block_steps : (known : Option (List ℕ)) → Takes tip next bytes rest before after Block → Steps known known tip next bytes rest before after Block
  block_steps known t = (t, refl)

  pub end_steps : (known : Option (List ℕ)) → Takes tip next bytes rest before after End → Steps known known tip next bytes rest before after End
  end_steps known (none, is, same, then) = (none_consumed known, is, same, then, λ left e. none left)

  pub wrong_steps : (known : Option (List ℕ)) → Takes tip next bytes rest before after Wrong → Steps known known tip next bytes rest before after Wrong
  wrong_steps known (none, then) = ((λ left e. none left), then)

  pub short_steps : (old new : Option (List ℕ)) (window more : List ℕ) → Takes tip next bytes rest before after Short → Consumes old new more → window ≡ rest ++ more
      → Steps old new tip next bytes window before after Short
  short_steps old new window more (none, is, same, then) took grown = (more, took, subst (λ (r : List ℕ). window ≡ r ++ more) is grown, same, then)

  pub short_ends : (old new : Option (List ℕ)) (window more : List ℕ) → Takes tip next bytes rest before after Short → Consumes old new more → window ≡ rest ++ more → window ≡ rest → IsAtEnd new
      → Steps old new tip next bytes window before after End
  short_ends old new window more (none, is, same, then) took grown as_it_was end = (
    took_none old new rest more took (sym as_it_was ∙ grown),
    as_it_was ∙ is,
    same,
    then,
    λ left known. end_of tip bytes left new none end known,
  )

-- bytes that begin with the next block
module _ (tip : Tip) (bytes : List ℕ) (n : ℕ) (digest : List ℕ) (salt : length tip.salt ≡ 16) (begins : StartsWith tip bytes (starts.Block n digest)) where
  small : IsRound begins.0
  small = omega (arith, begins.3, begins.4)

  parts : HasParts tip bytes begins.0 begins.1
  parts = parts_of tip bytes begins.0 begins.1 salt small begins.2

  body_is : take n (drop 44 bytes) ≡ begins.0
  body_is = ap (λ k. take k (drop 44 bytes)) (sym begins.3) ∙ parts.body_is

  pub block_fits : n + 44 ≤ length bytes
  block_fits = omega (arith, parts.long, begins.3)

  pub block_taken : (next : Tip) (rest : List ℕ) (before after : Log) → Waits before (take n (drop 44 bytes)) after → rest ≡ drop (n + 44) bytes
      → ((body : List ℕ) → length body ≡ n → digest ≡ seal tip body → next ≡ next_tip tip body) → Takes tip next bytes rest before after Block
  block_taken next rest before after waits behind passed =
      let sum : 44 + length begins.0 ≡ n + 44 = omega (arith, begins.3) in
      let there : begins.1 ≡ rest = sym parts.rest_is ∙ (drop-drop (length begins.0) 44 bytes ∙ (ap (λ k. drop k bytes) sum ∙ sym behind)) in (
        begins.0,
        begins.2 ∙ ap (λ (l : List ℕ). block tip begins.0 ++ l) there,
        small,
        subst (λ b. Waits before b after) body_is waits,
        passed begins.0 begins.3 begins.5,
      )

  pub block_wrong : ((messages : List AnyMessage) → Says (take n (drop 44 bytes)) messages → ⊥) → (more : List ℕ) → HasNoBlock tip (bytes ++ more)
  block_wrong bad more =
      let all : bytes ++ more ≡ block tip begins.0 ++ (begins.1 ++ more) = ap (λ (l : List ℕ). l ++ more) begins.2 ∙ append_assoc (block tip begins.0) begins.1 more in
      record {
        no_end = λ torn. torn.none begins.0 (begins.1 ++ more) small all;
        no_block = λ other behind messages also is says.
            let same = (block_once tip begins.0 other (begins.1 ++ more) behind salt small also (sym all ∙ is)).0 in
            bad messages (subst (λ b. Says b messages) (sym (body_is ∙ same)) says);
      }
