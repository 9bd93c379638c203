-- A new file while it is written: its header, one more block, and one more message.
use Rattle.std.proofs.Common.{◌≡◌, ◌∙◌, inl, inr, ℕ, true, false, refl, sym, ap, subst, Option, None, Some, List, [], ◌∷◌, ◌++◌, length, map, append_assoc, append-nil}
use Rattle.std.specs.Option.{option_to_list}
use Rattle.seq_arith.specs.Message.{Message}
use Rattle.seq_arith.specs.declared.kinds.Grammar.{Grammar}
use Rattle.ft_model.specs.Log.{Log, empty_log}
use Rattle.long_laws.specs.Snapshot.{IsSnapshotOf, IsOrdered}
use Rattle.long_laws.proofs.Snapshots.{snapshot_made}
use Rattle.forget_store.specs.AnyMessage.AnyMessage.{Usual}
use Rattle.forget_store.proofs.AnyLogs.{any_logs_are_ordered, each_usual}
use Rattle.std.proofs.lemmas.List.{map-append}
use Rattle.log_snapshot.specs.Steps.{IsSaid}
use Rattle.ft_io.specs.Reported.{Reports}
use Rattle.ft_io.proofs.Recordings.{reports_on}
use Rattle.disk.specs.Aside.{HasAside}
use Rattle.disk.specs.CallRecord.{on_disk}
use Rattle.disk.specs.Remains.{IsFrontOf}
use Rattle.disk.specs.declared.calls.DiskCall.{DiskCall}
use Rattle.disk.specs.declared.calls.DeskCall.{DeskCall}
use Rattle.disk.specs.declared.calls.DeskCall.TheVariants.{OnDisk}
use Rattle.disk.specs.declared.calls.DiskCall.TheVariants.{Synced, Replaced}
use Rattle.kept_log.specs.Format.{header, front, first_tip, next_tip, tip_of, block, IsRound}
use Rattle.kept_log.specs.MessageList.{Says, AllSay, AreKept}
use Rattle.kept_log.specs.Compaction.{HasSameLog, replacing, IsCompacted, IsCutCompaction}
use Rattle.kept_log.specs.Draft.{DraftState, IsDraft, IsWritten}
use Rattle.kept_log.specs.declared.tip.Tip.{Tip}
use Rattle.kept_log.proofs.Blocks.{front_push, tip_push}
use Rattle.kept_log.proofs.Logs.{small_push, say_push, says_push}

pub begun : (made written : List ℕ) (old new : Option (List ℕ)) (draft : DraftState) → length made ≡ 8 → draft.tip ≡ first_tip made → draft.body ≡ [] → written ≡ header made → HasAside old []
    → ((before : List ℕ) → HasAside old before → HasAside new (before ++ written)) → IsDraft made new draft []
begun made written old new draft time tip_is none is empty more = record {
  time = time;
  bodies = [];
  first = [];
  last = [];
  written = subst (HasAside new) (is ∙ sym (append-nil (header made))) (more [] empty);
  tip_is = tip_is;
  kept = record { small = tt; say = refl };
  says = none;
  messages_are = refl;
}

-- the body is written as a block
pub flushed : (written : List ℕ) (old new : Option (List ℕ)) (before after : DraftState) → IsRound before.body → written ≡ block before.tip before.body → after.tip ≡ next_tip before.tip before.body
    → after.body ≡ [] → ((front : List ℕ) → HasAside old front → HasAside new (front ++ written)) → IsWritten old before new after []
flushed written old new before after few is next none more = λ made messages d. record {
  time = d.time;
  bodies = d.bodies ++ before.body ∷ [];
  first = d.first ++ d.last;
  last = [];
  written = subst (HasAside new)
      (ap (λ (l : List ℕ). front made d.bodies ++ l) (is ∙ ap (λ t. block t before.body) d.tip_is) ∙ sym (front_push made d.bodies before.body)) (more (front made d.bodies) d.written);
  tip_is = next ∙ (ap (λ t. next_tip t before.body) d.tip_is ∙ sym (tip_push made d.bodies before.body));
  kept = record {
    small = small_push d.bodies before.body d.kept.small few;
    say = subst (AllSay (d.bodies ++ before.body ∷ [])) (sym (map-append Usual d.first d.last)) (say_push d.bodies (map Usual d.first) before.body (map Usual d.last) d.kept.say d.says);
  };
  says = none;
  messages_are = ap (λ (l : List Message). l ++ []) d.messages_are;
}

-- a message joins the body, or none does
pub taken : (grammar : Grammar) (aside : Option (List ℕ)) (before after : DraftState) (bytes : List ℕ) (message : Option Message) → after.tip ≡ before.tip → after.body ≡ before.body ++ bytes
    → IsSaid grammar message bytes
    → IsWritten aside before aside after (option_to_list message)
taken grammar aside before after bytes (Some message) tip body reads = λ made messages d. record {
  time = d.time;
  bodies = d.bodies;
  first = d.first;
  last = d.last ++ message ∷ [];
  written = d.written;
  tip_is = tip ∙ d.tip_is;
  kept = d.kept;
  says = subst (λ b. Says b (map Usual (d.last ++ message ∷ []))) (sym body)
      (subst (Says (before.body ++ bytes)) (sym (map-append Usual d.last (message ∷ [])))
      (says_push before.body bytes (map Usual d.last) (Usual message) d.says (record { grammar = grammar; reads = reads })));
  messages_are = ap (λ (l : List Message). l ++ message ∷ []) d.messages_are ∙ append_assoc d.first d.last (message ∷ []);
}
taken grammar aside before after bytes None tip body none = λ made messages d. record {
  time = d.time;
  bodies = d.bodies;
  first = d.first;
  last = d.last;
  written = d.written;
  tip_is = tip ∙ d.tip_is;
  kept = d.kept;
  says = subst (λ b. Says b (map Usual d.last)) (sym (body ∙ (ap (λ (l : List ℕ). before.body ++ l) none ∙ append-nil before.body))) d.says;
  messages_are = append-nil messages ∙ d.messages_are;
}

-- messages after others
pub written_on : (old mid new : Option (List ℕ)) (before between after : DraftState) (first more : List Message) → IsWritten old before mid between first → IsWritten mid between new after more
    → IsWritten old before new after (first ++ more)
written_on old mid new before between after first more a b = λ made earlier d.
    subst (IsDraft made new after) (append_assoc earlier first more) (b made (earlier ++ first) (a made earlier d))

pub written_none : (aside : Option (List ℕ)) (draft : DraftState) → IsWritten aside draft aside draft []
written_none aside draft = λ made earlier d. subst (IsDraft made aside draft) (sym (append-nil earlier)) d

-- the same log, from the new file
pub same_log : (made : List ℕ) (bodies : List (List ℕ)) (tip : Tip) (log : Log) (messages : List Message) → length made ≡ 8 → IsSnapshotOf log messages → AreKept bodies (map Usual messages)
    → HasSameLog tip log made bodies
same_log made bodies tip log messages eight snapshot kept = λ time old has. record {
  time = eight;
  messages = map Usual messages;
  kept = kept;
  tip_is = refl;
  log_is = sym (snapshot_made log messages (subst IsOrdered (sym has.log_is) (any_logs_are_ordered has.messages)) snapshot) ∙ sym (each_usual empty_log messages);
}

-- the whole file that was written and synced
abbrev pub IsSynced : (made : List ℕ) (log : Log) (aside : Option (List ℕ)) (tip : Tip) → Type 0
IsSynced made log aside tip =
    (bodies : List (List ℕ)) × (messages : List Message) × IsSnapshotOf log messages × AreKept bodies (map Usual messages) × (tip ≡ tip_of made bodies) × HasAside aside (front made bodies)

-- its place is taken
abbrev pub IsPlaced : (aside : Option (List ℕ)) (old new : Option (List DeskCall)) → Type 0
IsPlaced aside old new = (bytes : List ℕ) → HasAside aside bytes → Reports old new (on_disk (Replaced bytes false ∷ Synced false ∷ []))

abbrev pub IsMisplaced : (aside : Option (List ℕ)) (old new : Option (List DeskCall)) → Type 0
IsMisplaced aside old new =
    (bytes : List ℕ) → HasAside aside bytes → (done : List DiskCall) × IsFrontOf (Replaced bytes false ∷ Synced false ∷ []) done × Reports old new (on_disk done)

pub placed : (aside : Option (List ℕ)) (old mid new : Option (List DeskCall)) → ((bytes : List ℕ) → HasAside aside bytes → Reports old mid (OnDisk (Replaced bytes false) ∷ []))
    → Reports mid new (OnDisk (Synced false) ∷ []) → IsPlaced aside old new
placed aside old mid new renames syncs = λ bytes has. reports_on old mid new (OnDisk (Replaced bytes false) ∷ []) (OnDisk (Synced false) ∷ []) (renames bytes has) syncs

pub unsynced : (aside : Option (List ℕ)) (old mid new : Option (List DeskCall)) → ((bytes : List ℕ) → HasAside aside bytes → Reports old mid (OnDisk (Replaced bytes false) ∷ []))
    → Reports mid new (OnDisk (Synced true) ∷ []) → IsMisplaced aside old new
unsynced aside old mid new renames syncs = λ bytes has. (
  Replaced bytes false ∷ Synced true ∷ [],
  inl (refl, inr (refl, refl)),
  reports_on old mid new (OnDisk (Replaced bytes false) ∷ []) (OnDisk (Synced true) ∷ []) (renames bytes has) syncs,
)

pub unnamed : (aside : Option (List ℕ)) (old new : Option (List DeskCall)) → ((bytes : List ℕ) → HasAside aside bytes → Reports old new (OnDisk (Replaced bytes true) ∷ []))
    → IsMisplaced aside old new
unnamed aside old new renames = λ bytes has. (Replaced bytes true ∷ [], inr (refl, refl), renames bytes has)

pub compacted : (made : List ℕ) (next : Tip) (log : Log) (aside : Option (List ℕ)) (old wrote new : Option (List DeskCall)) → length made ≡ 8 → IsSynced made log aside next
    → Reports old wrote [] → IsPlaced aside wrote new → (tip : Tip) → IsCompacted made tip log next old new
compacted made next log aside old wrote new eight (bodies, messages, snapshot, kept, next_is, has) quiet placed tip = record {
  bodies = bodies;
  same_log = same_log made bodies tip log messages eight snapshot kept;
  next_is = next_is;
  reports = reports_on old wrote new [] (on_disk (replacing made bodies)) quiet (placed (front made bodies) has);
}

pub cut_compaction : (made : List ℕ) (next : Tip) (log : Log) (aside : Option (List ℕ)) (old wrote new : Option (List DeskCall)) → length made ≡ 8 → IsSynced made log aside next
    → Reports old wrote [] → IsMisplaced aside wrote new → (tip : Tip) → IsCutCompaction made tip log old new
cut_compaction made next log aside old wrote new eight (bodies, messages, snapshot, kept, next_is, has) quiet misplaced tip =
    let all = misplaced (front made bodies) has in
    record {
      bodies = bodies;
      done = all.0;
      same_log = same_log made bodies tip log messages eight snapshot kept;
      front = all.1;
      reports = reports_on old wrote new [] (on_disk all.0) quiet all.2;
    }
