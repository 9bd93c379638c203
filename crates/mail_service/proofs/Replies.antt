-- The service writes the replies that are due in its bytes, however these are cut.
use Rattle.std.proofs.Common.{◌≡◌, ℕ, ◌<◌, ◌==◌, Bool, true, false, List, [], ◌∷◌, ◌++◌, length, refl, sym, ◌∙◌, ap, subst, append-nil, append_assoc, take, drop, take-add, sum}
use Rattle.std.specs.Prelude.{Option, Some, None, ◌||◌, if◌then◌else◌}
use Rattle.std.proofs.lemmas.List.Folds.{list_any-append}
use Rattle.std.proofs.lemmas.List.Sums.{sum_by-cons}
use Rattle.std.proofs.lemmas.List.Elements.{All-head, All-tail}
use Rattle.server_trait.specs.Service.{Served, Run, with_served, fold_from, cut}
use Rattle.sample_servers.specs.Stream.{and_then, each_byte}
use Rattle.sample_servers.specs.Cuts.{joined, NoneEmpty}
use Rattle.sample_servers.proofs.Cuts.{length_test}
use Rattle.mail_service.specs.declared.reply.Reply.{Reply}
use Rattle.mail_service.specs.Reply.{reply_text, reply_closes}
use Rattle.mail_service.specs.Mail.{MailState, Read, read_byte, due_text, due_closes, mail_byte, mail_after, mail_machine}
use Rattle.mail_service.specs.Session.{onto_replies, replies_in, state_after, replies_text, one_closes}

-- these replies are written, and the service continues from this state, unless one closes
pub record Gives (replies : List Reply) (next : MailState) (served : Served MailState) : Type 0 where
  pub output : served.output ≡ replies_text replies
  pub closed : served.closed ≡ one_closes replies
  pub continues : served.closed ≡ false → served.next ≡ next

-- a reply and what follows it
gives_reply : (reply : Reply) (state : MailState) (replies : List Reply) (next : MailState) (closed : Bool) (more : MailState → Served MailState) → reply_closes reply ≡ closed
    → Gives replies next (more state) → Gives (reply ∷ replies) next (and_then (record { next = state; output = reply_text reply; closed = closed }) more)
gives_reply reply state replies next true more is behind =
    record { output = rw is (sym (append-nil (reply_text reply))); closed = rw is refl; continues = λ stays. cc }
gives_reply reply state replies next false more is behind =
    record { output = rw (is, behind.output) refl; closed = rw is behind.closed; continues = behind.continues }

-- a reply that is due, and what follows it
gives_step : (due : Option Reply) (state : MailState) (replies : List Reply) (next : MailState) (more : MailState → Served MailState)
    → Gives replies next (more state) → Gives (onto_replies due replies) next (and_then (record { next = state; output = due_text due; closed = due_closes due }) more)
gives_step None state replies next more behind = record { output = behind.output; closed = behind.closed; continues = behind.continues }
gives_step (Some reply) state replies next more behind = gives_reply reply state replies next (reply_closes reply) more refl behind

pub gives_bytes : (state : MailState) (bytes : List ℕ) → Gives (replies_in state bytes) (state_after state bytes) (each_byte mail_byte state bytes)
gives_bytes state [] = record { output = refl; closed = refl; continues = λ stays. refl }
gives_bytes state (byte ∷ bytes) =
    let read : Read = read_byte state byte in
    gives_step read.due read.next (replies_in read.next bytes) (state_after read.next bytes) (λ s. each_byte mail_byte s bytes) (gives_bytes read.next bytes)

-- replies in bytes of two parts
onto_replies-append : (due : Option Reply) (xs ys : List Reply) → onto_replies due (xs ++ ys) ≡ onto_replies due xs ++ ys
onto_replies-append None xs ys = refl
onto_replies-append (Some reply) xs ys = refl

replies_in-append : (state : MailState) (xs ys : List ℕ) → replies_in state (xs ++ ys) ≡ replies_in state xs ++ replies_in (state_after state xs) ys
replies_in-append state [] ys = refl
replies_in-append state (x ∷ xs) ys =
    let read : Read = read_byte state x in
    ap (onto_replies read.due) (replies_in-append read.next xs ys) ∙ onto_replies-append read.due (replies_in read.next xs) (replies_in (state_after read.next xs) ys)

text_then : (text all first second : List ℕ) (closed others : Bool) → all ≡ first ++ (if others then [] else second)
    → text ++ (if closed then [] else all) ≡ (text ++ (if closed then [] else first)) ++ (if closed || others then [] else second)
text_then text all first second true others is = sym (append-nil (text ++ []))
text_then text all first second false others is = rw is (sym (append_assoc text first (if others then [] else second)))

replies_text-append : (xs ys : List Reply) → replies_text (xs ++ ys) ≡ replies_text xs ++ (if one_closes xs then [] else replies_text ys)
replies_text-append [] ys = refl
replies_text-append (x ∷ xs) ys =
    text_then (reply_text x) (replies_text (xs ++ ys)) (replies_text xs) (replies_text ys) (reply_closes x) (one_closes xs) (replies_text-append xs ys)

-- a run that has closed stays as it is
closed_stays : (state : MailState) (output : List ℕ) (chunks : List (List ℕ))
    → fold_from mail_machine (record { state = state; output = output; closed = true }) chunks ≡ record { state = state; output = output; closed = true }
closed_stays state output [] = refl
closed_stays state output (chunk ∷ chunks) = closed_stays state output chunks

-- what a run has written, and whether it has closed, after chunks to which these replies are due
pub record Runs (before : List ℕ) (replies : List Reply) (run : Run MailState) : Type 0 where
  pub output : run.output ≡ before ++ replies_text replies
  pub closed : run.closed ≡ one_closes replies

abbrev pub open_run : MailState → List ℕ → Run MailState
open_run state output = record { state = state; output = output; closed = false }

runs_on : (state : MailState) (before output : List ℕ) (closed : Bool) (here later : List Reply) (next : MailState) (chunks : List (List ℕ))
    → Gives here next (record { next = state; output = output; closed = closed })
    → (closed ≡ false → Runs (before ++ output) later (fold_from mail_machine (open_run state (before ++ output)) chunks))
    → Runs before (here ++ later) (fold_from mail_machine (record { state = state; output = before ++ output; closed = closed }) chunks)
runs_on state before output true here later next chunks gives rest =
    let stays = closed_stays state (before ++ output) chunks in
    let closes : one_closes here ≡ true = sym gives.closed in
    record {
      output = ap (λ run. run.output) stays ∙ ap (λ text. before ++ text) (gives.output ∙ sym (replies_text-append here later ∙ rw closes (append-nil (replies_text here))));
      closed = ap (λ run. run.closed) stays ∙ sym (list_any-append reply_closes here later ∙ rw closes refl);
    }
runs_on state before output false here later next chunks gives rest =
    let behind = rest refl in
    let stays : one_closes here ≡ false = sym gives.closed in
    record {
      output = behind.output ∙ append_assoc before output (replies_text later)
          ∙ ap (λ text. before ++ text) (ap (λ text. text ++ replies_text later) gives.output ∙ sym (replies_text-append here later ∙ rw stays refl));
      closed = behind.closed ∙ sym (list_any-append reply_closes here later ∙ rw stays refl);
    }

pub runs : (chunks : List (List ℕ)) (state : MailState) (before : List ℕ) → NoneEmpty chunks
    → Runs before (replies_in state (joined chunks)) (fold_from mail_machine (open_run state before) chunks)
runs [] state before some = record { output = sym (append-nil before); closed = refl }
runs (chunk ∷ chunks) state before some =
    let test = length_test chunk (All-head (λ (c : List ℕ). 0 < length c) chunk chunks some) in
    let served : Served MailState = each_byte mail_byte state chunk in
    let gives = gives_bytes state chunk in
    let later = replies_in (state_after state chunk) (joined chunks) in
    subst (λ replies. Runs before replies (fold_from mail_machine (open_run state before) (chunk ∷ chunks))) (sym (replies_in-append state chunk (joined chunks)))
    (subst (λ (s : Served MailState). Runs before (replies_in state chunk ++ later) (fold_from mail_machine (with_served (open_run state before) s) chunks))
    (sym (rw test refl))
    (runs_on served.next before served.output served.closed (replies_in state chunk) later (state_after state chunk) chunks gives
    (λ stays. subst (λ reached. Runs (before ++ served.output) (replies_in reached (joined chunks)) (fold_from mail_machine (open_run served.next (before ++ served.output)) chunks))
    (gives.continues stays)
    (runs chunks served.next (before ++ served.output) (All-tail (λ (c : List ℕ). 0 < length c) chunk chunks some)))))

-- a run has written a front of these bytes
abbrev pub Front : List ℕ → Run MailState → Type 0
Front all run = (rest : List ℕ) × (run.output ++ rest ≡ all)

front_on : (state : MailState) (before output : List ℕ) (closed : Bool) (here later : List Reply) (next : MailState) (chunks : List (List ℕ))
    → Gives here next (record { next = state; output = output; closed = closed })
    → (closed ≡ false → Front ((before ++ output) ++ replies_text later) (fold_from mail_machine (open_run state (before ++ output)) chunks))
    → Front (before ++ replies_text (here ++ later)) (fold_from mail_machine (record { state = state; output = before ++ output; closed = closed }) chunks)
front_on state before output true here later next chunks gives rest =
    let run : Run MailState = fold_from mail_machine (record { state = state; output = before ++ output; closed = true }) chunks in
    let stays = closed_stays state (before ++ output) chunks in
    let closes : one_closes here ≡ true = sym gives.closed in (
      [],
      append-nil run.output ∙ ap (λ r. r.output) stays
          ∙ ap (λ text. before ++ text) (gives.output ∙ sym (replies_text-append here later ∙ rw closes (append-nil (replies_text here)))),
    )
front_on state before output false here later next chunks gives rest =
    let behind = rest refl in
    let stays : one_closes here ≡ false = sym gives.closed in (
      behind.0,
      behind.1 ∙ append_assoc before output (replies_text later)
          ∙ ap (λ text. before ++ text) (ap (λ text. text ++ replies_text later) gives.output ∙ sym (replies_text-append here later ∙ rw stays refl)),
    )

-- what the service has written after some reads is a front of the replies to the bytes that these read
pub reads_front : (lengths bytes : List ℕ) (state : MailState) (before : List ℕ)
    → Front (before ++ replies_text (replies_in state (take (sum lengths) bytes))) (fold_from mail_machine (open_run state before) (cut bytes lengths))
reads_front [] bytes state before = ([], refl)
reads_front (n ∷ lengths) bytes state before =
    let chunk : List ℕ = take n bytes in
    let others : List ℕ = drop n bytes in
    let whole : take (sum (n ∷ lengths)) bytes ≡ chunk ++ take (sum lengths) others =
    ap (λ k. take k bytes) (sum_by-cons (λ x. x) n lengths) ∙ take-add n (sum lengths) bytes in
    let later = replies_in (state_after state chunk) (take (sum lengths) others) in
    let replies : replies_in state (take (sum (n ∷ lengths)) bytes) ≡ replies_in state chunk ++ later =
    ap (replies_in state) whole ∙ replies_in-append state chunk (take (sum lengths) others) in
    let served : Served MailState = each_byte mail_byte state chunk in
    let gives = gives_bytes state chunk in
    subst (λ rs. Front (before ++ replies_text rs) (fold_from mail_machine (open_run state before) (chunk ∷ cut others lengths))) (sym replies)
    (by_empty n bytes lengths state before (replies_in state chunk ++ later) (length chunk == 0) refl
    (front_on served.next before served.output served.closed (replies_in state chunk) later (state_after state chunk) (cut others lengths) gives
    (λ stays. subst (λ reached. Front ((before ++ served.output) ++ replies_text (replies_in reached (take (sum lengths) others))) (fold_from mail_machine (open_run served.next (before ++ served.output)) (cut others lengths)))
    (gives.continues stays)
    (reads_front lengths others served.next (before ++ served.output)))))
  where
    by_empty : (k : ℕ) (text ls : List ℕ) (s : MailState) (front : List ℕ) (rs : List Reply) (b : Bool) → (length (take k text) == 0) ≡ b
        → Front (front ++ replies_text rs) (fold_from mail_machine (with_served (open_run s front) (each_byte mail_byte s (take k text))) (cut (drop k text) ls))
        → Front (front ++ replies_text rs) (fold_from mail_machine (open_run s front) (take k text ∷ cut (drop k text) ls))
    by_empty k text ls s front rs false some rest =
        let goes : mail_after s (take k text) ≡ each_byte mail_byte s (take k text) = rw some refl in
        subst (λ (x : Served MailState). Front (front ++ replies_text rs) (fold_from mail_machine (with_served (open_run s front) x) (cut (drop k text) ls))) (sym goes) rest
    by_empty k text ls s front rs true none rest =
        let closes : mail_after s (take k text) ≡ record { next = s; output = []; closed = true } = rw none refl in
        let stays = closed_stays s (front ++ []) (cut (drop k text) ls) in
        let same = ap (λ (r : Run MailState). r.output ++ replies_text rs) stays ∙ ap (λ (l : List ℕ). l ++ replies_text rs) (append-nil front) in
        subst (λ (x : Served MailState). Front (front ++ replies_text rs) (fold_from mail_machine (with_served (open_run s front) x) (cut (drop k text) ls))) (sym closes)
        (replies_text rs, same)
