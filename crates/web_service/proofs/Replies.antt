-- The service writes the replies that are due in its bytes, however these are cut.
use Rattle.std.proofs.Common.{◌≡◌, ℕ, ◌-◌, ◌<◌, ◌≤◌, Bool, true, false, List, [], ◌∷◌, ◌++◌, length, refl, sym, ◌∙◌, ap, subst, arith, append-nil, append_assoc, length-append}
use Rattle.std.specs.Prelude.{Option, Some, None, ◌||◌, nat_lt, if◌then◌else◌}
use Rattle.std.proofs.lemmas.Bool.Decides.{nat_tests}
use Rattle.std.proofs.lemmas.List.Folds.{list_any-append}
use Rattle.std.proofs.lemmas.List.Elements.{All-head, All-tail}
use Rattle.server_trait.specs.Service.{Served, Run, with_served, fold_from}
use Rattle.sample_servers.specs.Stream.{and_then, each_byte}
use Rattle.sample_servers.specs.Cuts.{joined, NoneEmpty}
use Rattle.sample_servers.proofs.Cuts.{length_test}
use Rattle.web_service.specs.declared.request.Request.{Request}
use Rattle.web_service.specs.declared.answer.Reply.{Reply}
use Rattle.web_service.specs.declared.answer.Reply.TheVariants.{Answer, Refusal}
use Rattle.web_service.specs.Answer.{answer_of, closes}
use Rattle.web_service.specs.Reader.{Reading, read_byte}
use Rattle.web_service.specs.Web.{WebState, refused, answered, replied, answer_room, web_byte, web_machine}
use Rattle.web_service.specs.Messages.{onto_replies, replies_in, reading_after, reply_text, reply_closes, replies_text, one_closes, HasRoom}

-- these replies are written, and this is read next, unless one closes
pub record Gives (replies : List Reply) (next : Reading) (served : Served WebState) : Type 0 where
  pub output : served.output ≡ replies_text replies
  pub closed : served.closed ≡ one_closes replies
  pub continues : served.closed ≡ false → served.next.reading ≡ next

-- an answer and what follows it
gives_answer : (request : Request) (room : ℕ) (reading : Reading) (replies : List Reply) (next : Reading) (closed : Bool) (more : WebState → Served WebState) → closes request ≡ closed
    → (closed ≡ false → Gives replies next (more (record { reading = reading; room = room })))
    → Gives (Answer request ∷ replies) next (and_then (record { next = record { reading = reading; room = room }; output = answer_of request; closed = closed }) more)
gives_answer request room reading replies next true more is rest =
    record { output = rw is (sym (append-nil (answer_of request))); closed = rw is refl; continues = λ stays. cc }
gives_answer request room reading replies next false more is rest =
    let behind = rest refl in
    record { output = rw (is, behind.output) refl; closed = rw is behind.closed; continues = behind.continues }

answered_in : (state : WebState) (request : Request) → length (answer_of request) ≤ state.room
    → answered state request ≡ record { next = record state { room = state.room - length (answer_of request) }; output = answer_of request; closed = closes request }
unfolding answered
answered_in state request fits =
    let enough : nat_lt state.room (length (answer_of request)) ≡ false = grind (arith, nat_tests) in
    rw enough refl

-- what is left of the room
room_left : (answer rest : List ℕ) (closed : Bool) (room : ℕ) → closed ≡ false → length (answer ++ (if closed then [] else rest)) ≤ room → length rest ≤ room - length answer
room_left answer rest true room stays fits = cc
room_left answer rest false room stays fits = let parts = length-append answer rest in omega arith

gives_answered : (state : WebState) (request : Request) (replies : List Reply) (next : Reading) (more : WebState → Served WebState) (closed : Bool) → closes request ≡ closed
    → ((room : ℕ) → length (replies_text replies) ≤ room → Gives replies next (more (record { reading = state.reading; room = room })))
    → length (answer_of request ++ (if closes request then [] else replies_text replies)) ≤ state.room
    → Gives (Answer request ∷ replies) next (and_then (answered state request) more)
gives_answered state request replies next more closed is rest fits =
    let answer = answer_of request in
    let parts = length-append answer (if closes request then [] else replies_text replies) in
    let left = state.room - length answer in
    let fits_closed = subst (λ b. length (answer ++ (if b then [] else replies_text replies)) ≤ state.room) is fits in
    subst (λ served. Gives (Answer request ∷ replies) next (and_then served more)) (sym (answered_in state request (omega arith)))
    (subst (λ b. Gives (Answer request ∷ replies) next (and_then (record { next = record state { room = left }; output = answer; closed = b }) more)) (sym is)
    (gives_answer request left state.reading replies next closed more is (λ stays. rest left (room_left answer (replies_text replies) closed state.room stays fits_closed))))

-- a reply that is due, and what follows it
gives_step : (due : Option Reply) (state : WebState) (replies : List Reply) (next : Reading) (more : WebState → Served WebState)
    → ((room : ℕ) → length (replies_text replies) ≤ room → Gives replies next (more (record { reading = state.reading; room = room })))
    → length (replies_text (onto_replies due replies)) ≤ state.room → Gives (onto_replies due replies) next (and_then (replied state due) more)
unfolding refused
gives_step None state replies next more rest fits =
    let behind = rest state.room fits in
    record { output = behind.output; closed = behind.closed; continues = behind.continues }
gives_step (Some (Refusal status)) state replies next more rest fits = record { output = sym (append-nil _); closed = refl; continues = λ stays. cc }
gives_step (Some (Answer request)) state replies next more rest fits = gives_answered state request replies next more (closes request) refl rest fits

pub gives_bytes : (state : WebState) (bytes : List ℕ) → length (replies_text (replies_in state.reading bytes)) ≤ state.room
    → Gives (replies_in state.reading bytes) (reading_after state.reading bytes) (each_byte web_byte state bytes)
gives_bytes state [] fits = record { output = refl; closed = refl; continues = λ stays. refl }
gives_bytes state (byte ∷ bytes) fits =
    let read = read_byte state.reading byte in
    gives_step read.due (record state { reading = read.next }) (replies_in read.next bytes) (reading_after read.next bytes) (λ s. each_byte web_byte s bytes)
    (λ room enough. gives_bytes (record { reading = read.next; room = room }) bytes enough) fits

-- replies in bytes of two parts
onto_replies-append : (due : Option Reply) (xs ys : List Reply) → onto_replies due (xs ++ ys) ≡ onto_replies due xs ++ ys
onto_replies-append None xs ys = refl
onto_replies-append (Some reply) xs ys = refl

replies_in-append : (reading : Reading) (xs ys : List ℕ) → replies_in reading (xs ++ ys) ≡ replies_in reading xs ++ replies_in (reading_after reading xs) ys
replies_in-append reading [] ys = refl
replies_in-append reading (x ∷ xs) ys =
    let read = read_byte reading x in
    ap (onto_replies read.due) (replies_in-append read.next xs ys) ∙ onto_replies-append read.due (replies_in read.next xs) (replies_in (reading_after read.next xs) ys)

text_then : (text all first second : List ℕ) (closed others : Bool) → all ≡ first ++ (if others then [] else second)
    → text ++ (if closed then [] else all) ≡ (text ++ (if closed then [] else first)) ++ (if closed || others then [] else second)
text_then text all first second true others is = sym (append-nil (text ++ []))
text_then text all first second false others is = rw is (sym (append_assoc text first (if others then [] else second)))

replies_text-append : (xs ys : List Reply) → replies_text (xs ++ ys) ≡ replies_text xs ++ (if one_closes xs then [] else replies_text ys)
replies_text-append [] ys = refl
replies_text-append (x ∷ xs) ys =
    text_then (reply_text x) (replies_text (xs ++ ys)) (replies_text xs) (replies_text ys) (reply_closes x) (one_closes xs) (replies_text-append xs ys)

-- a run that has closed stays as it is
closed_stays : (state : WebState) (output : List ℕ) (chunks : List (List ℕ))
    → fold_from web_machine (record { state = state; output = output; closed = true }) chunks ≡ record { state = state; output = output; closed = true }
closed_stays state output [] = refl
closed_stays state output (chunk ∷ chunks) = closed_stays state output chunks

-- what a run has written, and whether it has closed, after chunks to which these replies are due
pub record Runs (before : List ℕ) (replies : List Reply) (run : Run WebState) : Type 0 where
  pub output : run.output ≡ before ++ replies_text replies
  pub closed : run.closed ≡ one_closes replies

abbrev pub open_run : WebState → List ℕ → Run WebState
open_run state output = record { state = state; output = output; closed = false }

runs_on : (state : WebState) (before output : List ℕ) (closed : Bool) (here later : List Reply) (next : Reading) (chunks : List (List ℕ))
    → Gives here next (record { next = state; output = output; closed = closed })
    → (closed ≡ false → Runs (before ++ output) later (fold_from web_machine (open_run state (before ++ output)) chunks))
    → Runs before (here ++ later) (fold_from web_machine (record { state = state; output = before ++ output; closed = closed }) chunks)
runs_on state before output true here later next chunks gives rest =
    let stays = closed_stays state (before ++ output) chunks in
    let closes : one_closes here ≡ true = sym gives.closed in
    record {
      output = ap (λ run. run.output) stays ∙ ap (λ text. before ++ text) (gives.output ∙ sym (replies_text-append here later ∙ rw closes (append-nil (replies_text here))));
      closed = ap (λ run. run.closed) stays ∙ sym (list_any-append reply_closes here later ∙ rw closes refl);
    }
runs_on state before output false here later next chunks gives rest =
    let behind = rest refl in
    let stays : one_closes here ≡ false = sym gives.closed in
    record {
      output = behind.output ∙ append_assoc before output (replies_text later)
          ∙ ap (λ text. before ++ text) (ap (λ text. text ++ replies_text later) gives.output ∙ sym (replies_text-append here later ∙ rw stays refl));
      closed = behind.closed ∙ sym (list_any-append reply_closes here later ∙ rw stays refl);
    }

pub runs : (chunks : List (List ℕ)) (state : WebState) (before : List ℕ) → NoneEmpty chunks → HasRoom state.reading chunks
    → Runs before (replies_in state.reading (joined chunks)) (fold_from web_machine (open_run state before) chunks)
runs [] state before some room = record { output = sym (append-nil before); closed = refl }
runs (chunk ∷ chunks) state before some room =
    let test = length_test chunk (All-head (λ (c : List ℕ). 0 < length c) chunk chunks some) in
    let roomy = record state { room = answer_room } in
    let served = each_byte web_byte roomy chunk in
    let gives = gives_bytes roomy chunk room.0 in
    let later = replies_in (reading_after state.reading chunk) (joined chunks) in
    subst (λ replies. Runs before replies (fold_from web_machine (open_run state before) (chunk ∷ chunks))) (sym (replies_in-append state.reading chunk (joined chunks)))
    (subst (λ (s : Served WebState). Runs before (replies_in state.reading chunk ++ later) (fold_from web_machine (with_served (open_run state before) s) chunks))
    (sym (rw test refl))
    (runs_on served.next before served.output served.closed (replies_in state.reading chunk) later (reading_after state.reading chunk) chunks gives
    (λ stays. subst (λ reading. Runs (before ++ served.output) (replies_in reading (joined chunks)) (fold_from web_machine (open_run served.next (before ++ served.output)) chunks))
    (gives.continues stays)
    (runs chunks served.next (before ++ served.output) (All-tail (λ (c : List ℕ). 0 < length c) chunk chunks some) (subst (λ reading. HasRoom reading chunks) (sym (gives.continues stays)) room.1)))))
