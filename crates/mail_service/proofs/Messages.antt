-- While a message is being received, its lines are text, and its end has one reply.
use Rattle.std.proofs.Common.{◌≡◌, ℕ, ◌+◌, ◌<◌, ◌≤◌, ◌==◌, min, Bool, true, false, List, [], ◌∷◌, ◌++◌, length, refl, sym, ◌∙◌, ap, arith, append_assoc, length-append}
use Rattle.std.specs.Prelude.{Option, Some, None, nat_lt, ◌&&◌, ◌||◌, if◌then◌else◌}
use Rattle.std.specs.List.{list_any}
use Rattle.std.proofs.lemmas.Bool.Decides.{nat_tests}
use Rattle.mail_service.specs.declared.reply.Reply.{Reply}
use Rattle.mail_service.specs.declared.reply.Reply.TheVariants.{Fixed, Accepted}
use Rattle.mail_service.specs.declared.reply.Answer.TheVariants.{TooLarge}
use Rattle.mail_service.specs.declared.phase.Ending.{Ending}
use Rattle.mail_service.specs.declared.phase.Ending.TheVariants.{Inside, Return, LineStart, Dot, DotReturn}
use Rattle.mail_service.specs.declared.phase.Text.{Text}
use Rattle.mail_service.specs.declared.phase.Phase.TheVariants.{Ready, Message}
use Rattle.mail_service.specs.Command.{size_limit}
use Rattle.mail_service.specs.Phase.{larger, in_line, after_return, after_start, after_dot, text_after}
use Rattle.mail_service.specs.Mail.{MailState, Read, at_line, next_number, message_end, message_goes, message_byte}
use Rattle.mail_service.specs.Session.{onto_replies, replies_in, has_end, line_text, text_of, dotted, stuffed, the_end}
use Rattle.mail_service.proofs.Lines.{parts}

-- a message of which so many bytes of text and this much of its end have been received
abbrev at_text : (accepted : ℕ) → Ending → (size : ℕ) → MailState
at_text accepted ending size = at_line (Message (record { ending = ending; size = size })) accepted

abbrev after_read : Read → List ℕ → List Reply
after_read read rest = onto_replies read.due (replies_in read.next rest)

-- a byte that doesn't end it
more_text : (accepted : ℕ) (ending : Ending) (size byte : ℕ) (text : Text) (rest : List ℕ) → text_after ending size byte ≡ Some text
    → replies_in (at_text accepted ending size) (byte ∷ rest) ≡ replies_in (at_text accepted text.ending text.size) rest
unfolding message_byte
more_text accepted ending size byte text rest is = ap (λ t. after_read (message_goes (at_text accepted ending size) size t) rest) is

-- within a line, after CR or not
abbrev within : Bool → Ending
within returned = if returned then Return else Inside

in_line_is : (byte : ℕ) → in_line byte ≡ within (byte == 13)
in_line_is byte = refl

one_byte : (returned : Bool) (size byte : ℕ) → (returned && byte == 10) ≡ false → text_after (within returned) size byte ≡ Some (record { ending = within (byte == 13); size = larger size 1 })
one_byte true size byte other = rw other refl
one_byte false size byte other = refl

add_up : (size a b : ℕ) → larger (larger size a) b ≡ larger size (a + b)
add_up size a b = omega arith

-- the rest of a line, and its end
rest_of_line : (accepted : ℕ) (returned : Bool) (size : ℕ) (line rest : List ℕ) → has_end returned line ≡ false
    → replies_in (at_text accepted (within returned) size) (line ++ 13 ∷ 10 ∷ rest) ≡ replies_in (at_text accepted LineStart (larger size (length line + 2))) rest
rest_of_line accepted returned size [] rest none =
    more_text accepted (within returned) size 13 (record { ending = Return; size = larger size 1 }) (10 ∷ rest) (one_byte returned size 13 (at_return returned))
    ∙ more_text accepted Return (larger size 1) 10 (record { ending = LineStart; size = larger (larger size 1) 1 }) rest refl
    ∙ ap (λ (n : ℕ). replies_in (at_text accepted LineStart n) rest) (add_up size 1 1)
  where
    at_return : (r : Bool) → (r && 13 == 10) ≡ false
    at_return true = refl
    at_return false = refl
rest_of_line accepted returned size (byte ∷ line) rest none =
    let both = parts returned byte line none in
    let sizes : larger (larger size 1) (length line + 2) ≡ larger size (length (byte ∷ line) + 2) = omega arith in
    more_text accepted (within returned) size byte (record { ending = within (byte == 13); size = larger size 1 }) (line ++ 13 ∷ 10 ∷ rest) (one_byte returned size byte both.0)
    ∙ rest_of_line accepted (byte == 13) (larger size 1) line rest both.1
    ∙ ap (λ (n : ℕ). replies_in (at_text accepted LineStart n) rest) sizes

-- a line that begins with no dot, and one that does, which the client has put a dot before
first_byte : (accepted size byte : ℕ) (line rest : List ℕ) (b : Bool) → (byte == 46) ≡ b → has_end false (byte ∷ line) ≡ false
    → replies_in (at_text accepted LineStart size) ((if b then 46 ∷ byte ∷ line else byte ∷ line) ++ 13 ∷ 10 ∷ rest)
    ≡ replies_in (at_text accepted LineStart (larger size (length (byte ∷ line) + 2))) rest
first_byte accepted size byte line rest true is none =
    let same : byte ≡ 46 = grind (arith, nat_tests) in
    let sizes : larger (larger size 1) (length line + 2) ≡ larger size (length (byte ∷ line) + 2) = omega arith in
    let both = parts false byte line none in
    let other : (byte == 13) ≡ false = ap (λ (n : ℕ). n == 13) same in
    more_text accepted LineStart size 46 (record { ending = Dot; size = size }) (byte ∷ (line ++ 13 ∷ 10 ∷ rest)) refl
    ∙ more_text accepted Dot size byte (record { ending = within (byte == 13); size = larger size 1 }) (line ++ 13 ∷ 10 ∷ rest) (rw other refl)
    ∙ rest_of_line accepted (byte == 13) (larger size 1) line rest both.1
    ∙ ap (λ (n : ℕ). replies_in (at_text accepted LineStart n) rest) sizes
first_byte accepted size byte line rest false is none =
    let sizes : larger (larger size 1) (length line + 2) ≡ larger size (length (byte ∷ line) + 2) = omega arith in
    let both = parts false byte line none in
    more_text accepted LineStart size byte (record { ending = within (byte == 13); size = larger size 1 }) (line ++ 13 ∷ 10 ∷ rest) (rw is refl)
    ∙ rest_of_line accepted (byte == 13) (larger size 1) line rest both.1
    ∙ ap (λ (n : ℕ). replies_in (at_text accepted LineStart n) rest) sizes

whole_line : (accepted size : ℕ) (line rest : List ℕ) → has_end false line ≡ false
    → replies_in (at_text accepted LineStart size) (dotted line ++ 13 ∷ 10 ∷ rest) ≡ replies_in (at_text accepted LineStart (larger size (length line + 2))) rest
whole_line accepted size [] rest none =
    more_text accepted LineStart size 13 (record { ending = Return; size = larger size 1 }) (10 ∷ rest) refl
    ∙ more_text accepted Return (larger size 1) 10 (record { ending = LineStart; size = larger (larger size 1) 1 }) rest refl
    ∙ ap (λ (n : ℕ). replies_in (at_text accepted LineStart n) rest) (add_up size 1 1)
whole_line accepted size (byte ∷ line) rest none = first_byte accepted size byte line rest (byte == 46) refl none

-- all the lines
both_parts : (a b : Bool) → (a || b) ≡ false → (a ≡ false) × (b ≡ false)
both_parts true b wrong = cc
both_parts false b is = (refl, is)

all_lines : (accepted size : ℕ) (lines : List (List ℕ)) (rest : List ℕ) → list_any (has_end false) lines ≡ false → size ≤ size_limit + 1
    → replies_in (at_text accepted LineStart size) (stuffed lines ++ rest) ≡ replies_in (at_text accepted LineStart (larger size (length (text_of lines)))) rest
all_lines accepted size [] rest none most =
    ap (λ (n : ℕ). replies_in (at_text accepted LineStart n) rest) (omega (arith, most))
all_lines accepted size (line ∷ lines) rest none most =
    let both = both_parts (has_end false line) (list_any (has_end false) lines) none in
    let text = length-append (line_text line) (text_of lines) in
    let line_size : length (line_text line) ≡ length line + 2 = length-append line (13 ∷ 10 ∷ []) in
    let sizes : larger (larger size (length line + 2)) (length (text_of lines)) ≡ larger size (length (text_of (line ∷ lines))) = omega (arith, text, line_size) in
    ap (replies_in (at_text accepted LineStart size)) (append_assoc (line_text (dotted line)) (stuffed lines) rest ∙ append_assoc (dotted line) (13 ∷ 10 ∷ []) (stuffed lines ++ rest))
    ∙ whole_line accepted size line (stuffed lines ++ rest) both.0
    ∙ all_lines accepted (larger size (length line + 2)) lines rest both.1 (omega arith)
    ∙ ap (λ (n : ℕ). replies_in (at_text accepted LineStart n) rest) sizes

-- the end
at_end : (accepted size : ℕ) (rest : List ℕ) → replies_in (at_text accepted LineStart size) (the_end ++ rest) ≡ after_read (message_end (at_text accepted DotReturn size) size) rest
unfolding message_byte
at_end accepted size rest =
    more_text accepted LineStart size 46 (record { ending = Dot; size = size }) (13 ∷ 10 ∷ rest) refl
    ∙ more_text accepted Dot size 13 (record { ending = DotReturn; size = size }) (10 ∷ rest) refl

to_the_end : (accepted : ℕ) (lines : List (List ℕ)) (rest : List ℕ) → list_any (has_end false) lines ≡ false
    → replies_in (at_text accepted LineStart 0) (stuffed lines ++ (the_end ++ rest))
    ≡ after_read (message_end (at_text accepted DotReturn (larger 0 (length (text_of lines)))) (larger 0 (length (text_of lines)))) rest
to_the_end accepted lines rest none =
    all_lines accepted 0 lines (the_end ++ rest) none (omega arith)
    ∙ at_end accepted (larger 0 (length (text_of lines))) rest

pub is_accepted : (accepted : ℕ) (lines : List (List ℕ)) (rest : List ℕ) → list_any (has_end false) lines ≡ false → length (text_of lines) ≤ size_limit
    → replies_in (at_text accepted LineStart 0) (stuffed lines ++ (the_end ++ rest))
    ≡ Accepted (next_number accepted) (length (text_of lines)) ∷ replies_in (at_line Ready (next_number accepted)) rest
unfolding message_end
is_accepted accepted lines rest none fits =
    let size : larger 0 (length (text_of lines)) ≡ length (text_of lines) = omega (arith, fits) in
    let small : nat_lt size_limit (length (text_of lines)) ≡ false = grind (arith, nat_tests) in
    to_the_end accepted lines rest none
    ∙ ap (λ (n : ℕ). after_read (message_end (at_text accepted DotReturn n) n) rest) size
    ∙ rw small refl

pub is_too_large : (accepted : ℕ) (lines : List (List ℕ)) (rest : List ℕ) → list_any (has_end false) lines ≡ false → size_limit < length (text_of lines)
    → replies_in (at_text accepted LineStart 0) (stuffed lines ++ (the_end ++ rest)) ≡ Fixed TooLarge ∷ replies_in (at_line Ready accepted) rest
unfolding message_end
is_too_large accepted lines rest none more =
    let size : larger 0 (length (text_of lines)) ≡ size_limit + 1 = omega (arith, more) in
    to_the_end accepted lines rest none
    ∙ ap (λ (n : ℕ). after_read (message_end (at_text accepted DotReturn n) n) rest) size
