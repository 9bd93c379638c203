-- What was written of an entry, and of entries, so far.
use Rattle.std.proofs.Common.{◌≡◌, ◌∙◌, ℕ, zero, suc, ◌+◌, ◌<◌, take, add-one, refl, sym, ap, subst, arith, Option, None, Some, List, [], ◌∷◌, ◌++◌, length, map, length-append, append_assoc, append-nil}
use Rattle.std.specs.Prelude.{slice_get}
use Rattle.std.specs.Option.{option_to_list}
use Rattle.std.proofs.lemmas.List.{take_all}
use Rattle.ft_io.proofs.Choices.{same_some}
use Rattle.seq_arith.specs.Message.{Message}
use Rattle.seq_arith.specs.Message.Body.{HelloMsg}
use Rattle.ft_model.specs.Log.{Log, Entry}
use Rattle.long_laws.specs.Snapshot.{said, joined, messages_of, AreSaid, IsSnapshotOf}
use Rattle.log_snapshot.specs.Steps.{IsRest}
use Rattle.log_snapshot.specs.declared.writing_steps.Step.{Step}
use Rattle.log_snapshot.specs.declared.writing_steps.Step.TheVariants.{Open}
use Rattle.forget_store.specs.AnyMessage.AnyMessage.{Usual}
use Rattle.kept_log.specs.Draft.{DraftState, IsDraft, IsWritten}
use Rattle.kept_log.proofs.Drafts.{written_on, written_none}
use Rattle.kept_log.specs.Format.{front, tip_of}
use Rattle.kept_log.specs.MessageList.{Says, AreKept}
use Rattle.kept_log.proofs.Messages.{whole}
use Rattle.disk.specs.Aside.{HasAside}

-- an entry that is written up to this step
pub record IsPartly (boot : ℕ) (e : Entry) (old : Option (List ℕ)) (before : DraftState) (now : Option (List ℕ)) (after : DraftState) (next : Option Step) : Type 0 where
  pub messages : List Message
  pub written : IsWritten old before now after messages
  pub rests : (rest : List Message) → IsRest boot e next rest → IsRest boot e (Some Open) (messages ++ rest)

pub partly_begun : (boot : ℕ) (e : Entry) (aside : Option (List ℕ)) (draft : DraftState) → IsPartly boot e aside draft aside draft (Some Open)
partly_begun boot e aside draft = record { messages = []; written = written_none aside draft; rests = λ rest is. is }

pub partly_on : (boot : ℕ) (e : Entry) (old mid new : Option (List ℕ)) (before between after : DraftState) (step : Step) (next : Option Step) (message : Option Message)
    → IsPartly boot e old before mid between (Some step) → IsWritten mid between new after (option_to_list message)
    → ((rest : List Message) → IsRest boot e next rest → IsRest boot e (Some step) (option_to_list message ++ rest)) → IsPartly boot e old before new after next
partly_on boot e old mid new before between after step next message p w says = record {
  messages = p.messages ++ option_to_list message;
  written = written_on old mid new before between after p.messages (option_to_list message) p.written w;
  rests = λ rest is.
      subst (IsRest boot e (Some Open)) (sym (append_assoc p.messages (option_to_list message) rest)) (p.rests (option_to_list message ++ rest) (says rest is));
}

-- all of it is
pub all_of : (boot : ℕ) (e : Entry) (old : Option (List ℕ)) (before : DraftState) (now : Option (List ℕ)) (after : DraftState) → IsPartly boot e old before now after None
    → (pieces : List (List ℕ)) × (joined pieces ≡ e.bytes) × IsWritten old before now after (messages_of boot e pieces)
all_of boot e old before now after p =
    let all = p.rests [] refl in
    (all.0, all.1, subst (IsWritten old before now after) (sym (append-nil p.messages) ∙ all.2) p.written)

-- entries that are written
pub record AreWritten (boot : ℕ) (entries : List Entry) (old : Option (List ℕ)) (before : DraftState) (now : Option (List ℕ)) (after : DraftState) : Type 0 where
  pub messages : List Message
  pub said : AreSaid boot entries messages
  pub written : IsWritten old before now after messages

pub none_written : (boot : ℕ) (aside : Option (List ℕ)) (draft : DraftState) → AreWritten boot [] aside draft aside draft
none_written boot aside draft = record { messages = []; said = refl; written = written_none aside draft }

said_push : (boot : ℕ) (entries : List Entry) (e : Entry) (pieces : List (List ℕ)) (messages : List Message) → AreSaid boot entries messages → joined pieces ≡ e.bytes
    → AreSaid boot (entries ++ e ∷ []) (messages ++ messages_of boot e pieces)
said_push boot [] e pieces messages none all =
    (pieces, [], all, ap (λ (l : List Message). l ++ messages_of boot e pieces) none ∙ sym (append-nil (messages_of boot e pieces)), refl)
said_push boot (x ∷ entries) e pieces messages (own, rest, is, first, more) all = (
  own,
  rest ++ messages_of boot e pieces,
  is,
  ap (λ (l : List Message). l ++ messages_of boot e pieces) first ∙ append_assoc (messages_of boot x own) rest (messages_of boot e pieces),
  said_push boot entries e pieces rest more all,
)

pub one_more_written : (boot : ℕ) (entries : List Entry) (e : Entry) (old mid new : Option (List ℕ)) (before between after : DraftState) → AreWritten boot entries old before mid between
    → (pieces : List (List ℕ)) × (joined pieces ≡ e.bytes) × IsWritten mid between new after (messages_of boot e pieces) → AreWritten boot (entries ++ e ∷ []) old before new after
one_more_written boot entries e old mid new before between after are (pieces, all, w) = record {
  messages = are.messages ++ messages_of boot e pieces;
  said = said_push boot entries e pieces are.messages are.said all;
  written = written_on old mid new before between after are.messages (messages_of boot e pieces) are.written w;
}

pub there : (i : ℕ) (entries : List Entry) → i < length entries → slice_get entries i ≡ None → ⊥
there i [] lt is = omega (arith, lt)
there zero (x ∷ entries) lt is = cc
there (suc i) (x ∷ entries) lt is = there i entries (omega (arith, lt)) is

take_one : (i : ℕ) (entries : List Entry) (e : Entry) → slice_get entries i ≡ Some e → take (i + 1) entries ≡ take i entries ++ e ∷ []
take_one i [] e is = cc
take_one zero (x ∷ entries) e is = ap (λ y. y ∷ []) (same_some is)
take_one (suc i) (x ∷ entries) e is =
    ap (λ n. take n (x ∷ entries)) (add-one (suc i)) ∙ ap (λ l. x ∷ l) (ap (λ n. take n entries) (sym (add-one i)) ∙ take_one i entries e is)

pub one_more_at : (boot i : ℕ) (entries : List Entry) (e : Entry) (old mid new : Option (List ℕ)) (before between after : DraftState) → slice_get entries i ≡ Some e
    → AreWritten boot (take i entries) old before mid between → (pieces : List (List ℕ)) × (joined pieces ≡ e.bytes) × IsWritten mid between new after (messages_of boot e pieces)
    → AreWritten boot (take (i + 1) entries) old before new after
one_more_at boot i entries e old mid new before between after is are w =
    subst (λ l. AreWritten boot l old before new after) (sym (take_one i entries e is)) (one_more_written boot (take i entries) e old mid new before between after are w)

pub all_written : (boot count : ℕ) (entries : List Entry) (old : Option (List ℕ)) (before : DraftState) (now : Option (List ℕ)) (after : DraftState) → count ≡ length entries
    → AreWritten boot (take count entries) old before now after → (messages : List Message) × AreSaid boot entries messages × IsWritten old before now after messages
all_written boot count entries old before now after is are =
    (are.messages, subst (λ l. AreSaid boot l are.messages) (take_all count entries (omega (arith, is))) are.said, are.written)

-- the whole file: its header, the boot number, the entries, and the last body as a block
pub record IsNewFile (made : List ℕ) (log : Log) (aside : Option (List ℕ)) (draft : DraftState) : Type 0 where
  pub bodies : List (List ℕ)
  pub messages : List Message
  pub snapshot : IsSnapshotOf log messages
  pub kept : AreKept bodies (map Usual messages)
  pub tip_is : draft.tip ≡ tip_of made bodies
  pub written : HasAside aside (front made bodies)

no_more : (body : List ℕ) (last : List Message) → body ≡ [] → Says body (map Usual last) → last ≡ []
no_more body [] none says = refl
no_more body (message ∷ last) none (first, rest, is, reads, says) =
    let w = whole first message reads in
    absurd (omega (arith, w.long, ap length (sym is ∙ none), length-append first rest))

pub new_file : (made : List ℕ) (log : Log) (a0 a1 a2 a3 : Option (List ℕ)) (d0 d1 d2 d3 : DraftState) → IsDraft made a0 d0 [] → IsWritten a0 d0 a1 d1 (said log.boot HelloMsg ∷ [])
    → (messages : List Message) × AreSaid log.boot log.entries messages × IsWritten a1 d1 a2 d2 messages → IsWritten a2 d2 a3 d3 [] → d3.body ≡ [] → IsNewFile made log a3 d3
new_file made log a0 a1 a2 a3 d0 d1 d2 d3 begun hello (messages, are, w) flushed none =
    let all = flushed made (([] ++ said log.boot HelloMsg ∷ []) ++ messages) (w made ([] ++ said log.boot HelloMsg ∷ []) (hello made [] begun)) in
    let last : all.last ≡ [] = no_more d3.body all.last none all.says in
    let same : all.first ≡ said log.boot HelloMsg ∷ messages =
    sym (all.messages_are ∙ (ap (λ (l : List Message). all.first ++ l) last ∙ append-nil all.first)) ∙ append-nil (said log.boot HelloMsg ∷ messages) in
    record {
      bodies = all.bodies;
      messages = said log.boot HelloMsg ∷ messages;
      snapshot = (messages, refl, are);
      kept = subst (λ ms. AreKept all.bodies (map Usual ms)) same all.kept;
      tip_is = all.tip_is;
      written = all.written;
    }
