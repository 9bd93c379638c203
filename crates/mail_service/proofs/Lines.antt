-- Where no message is being received, a line has one reply.
use Rattle.std.proofs.Common.{◌≡◌, ℕ, ◌+◌, ◌-◌, ◌<◌, ◌≤◌, ◌==◌, Bool, true, false, List, [], ◌∷◌, ◌++◌, length, take, refl, sym, ◌∙◌, ap, arith, append_assoc, append-nil, length-append}
use Rattle.std.specs.Prelude.{Option, Some, None, nat_lt, ◌&&◌, ◌||◌, if◌then◌else◌}
use Rattle.std.proofs.lemmas.Bool.Decides.{nat_tests}
use Rattle.std.proofs.Math.Seq.{take-append_seam}
use Rattle.mail_service.specs.declared.reply.Reply.{Reply}
use Rattle.mail_service.specs.declared.reply.Reply.TheVariants.{Fixed}
use Rattle.mail_service.specs.declared.reply.Answer.TheVariants.{LongLine}
use Rattle.mail_service.specs.declared.phase.Phase.{Phase}
use Rattle.mail_service.specs.declared.phase.Phase.TheVariants.{Silent, Ready, Sender, Recipients, Message}
use Rattle.mail_service.specs.Command.{command_of}
use Rattle.mail_service.specs.Phase.{step}
use Rattle.mail_service.specs.Mail.{MailState, Read, at_line, longer, line_command, line_end, command_byte, phase_byte, read_byte}
use Rattle.mail_service.specs.Session.{onto_replies, replies_in, has_end, IsCommandPhase}

abbrev state_of : Phase → ℕ → (held : List ℕ) → (long returned : Bool) → MailState
state_of phase accepted held long returned = record { phase = phase; held = held; long = long; returned = returned; accepted = accepted }

-- a byte of a line
in_line_phase : (phase : Phase) (state : MailState) (byte : ℕ) → IsCommandPhase phase → phase_byte phase state byte ≡ command_byte state byte
in_line_phase Silent state byte is = refl
in_line_phase Ready state byte is = refl
in_line_phase Sender state byte is = refl
in_line_phase (Recipients count) state byte is = refl
in_line_phase (Message text) state byte is = absurd is

abbrev after_read : Read → List ℕ → List Reply
after_read read rest = onto_replies read.due (replies_in read.next rest)

-- a byte that doesn't end it
proceeds : (phase : Phase) (accepted : ℕ) (held : List ℕ) (long returned : Bool) (byte : ℕ) (rest : List ℕ) → IsCommandPhase phase → (returned && byte == 10) ≡ false
    → replies_in (state_of phase accepted held long returned) (byte ∷ rest) ≡ replies_in (longer (state_of phase accepted held long returned) byte) rest
unfolding command_byte
proceeds phase accepted held long returned byte rest is other =
    ap (λ read. after_read read rest) (in_line_phase phase (state_of phase accepted held long returned) byte is)
    ∙ ap (λ (b : Bool). after_read (if b then line_end (state_of phase accepted held long returned) else record { next = longer (state_of phase accepted held long returned) byte; due = None }) rest) other

-- the LF that ends it
ends : (phase : Phase) (accepted : ℕ) (held : List ℕ) (long : Bool) (rest : List ℕ) → IsCommandPhase phase
    → replies_in (state_of phase accepted held long true) (10 ∷ rest)
    ≡ Fixed (step phase (line_command long held)).reply ∷ replies_in (at_line (step phase (line_command long held)).next accepted) rest
unfolding command_byte line_end
ends phase accepted held long rest is = ap (λ read. after_read read rest) (in_line_phase phase (state_of phase accepted held long true) 10 is)

-- what is held of a longer line
holds_more : (phase : Phase) (accepted : ℕ) (held : List ℕ) (long returned : Bool) (byte : ℕ) → length held < 511
    → longer (state_of phase accepted held long returned) byte ≡ state_of phase accepted (held ++ byte ∷ []) long (byte == 13)
unfolding longer
holds_more phase accepted held long returned byte fits =
    let short : nat_lt (length held) 511 ≡ true = grind (arith, nat_tests) in
    rw short refl

is_full : (phase : Phase) (accepted : ℕ) (held : List ℕ) (long returned : Bool) (byte : ℕ) → length held ≡ 511
    → longer (state_of phase accepted held long returned) byte ≡ state_of phase accepted held true (byte == 13)
unfolding longer
is_full phase accepted held long returned byte full =
    let enough : nat_lt (length held) 511 ≡ false = grind (arith, nat_tests) in
    rw enough refl

-- a line in two parts
pub parts : (returned : Bool) (byte : ℕ) (line : List ℕ) → has_end returned (byte ∷ line) ≡ false → ((returned && byte == 10) ≡ false) × (has_end (byte == 13) line ≡ false)
parts returned byte line none = by_both (returned && byte == 10) (has_end (byte == 13) line) none
  where
    by_both : (a b : Bool) → (a || b) ≡ false → (a ≡ false) × (b ≡ false)
    by_both true b wrong = cc
    by_both false b is = (refl, is)

last_free : (returned : Bool) → (returned && 13 == 10) ≡ false
last_free true = refl
last_free false = refl

-- the carriage return is no part of a line
without_one : (line : List ℕ) → take (length (line ++ 13 ∷ []) - 1) (line ++ 13 ∷ []) ≡ line
without_one line =
    let size : length (line ++ 13 ∷ []) - 1 ≡ length line = let both = length-append line (13 ∷ []) in omega (arith, both) in
    ap (λ (n : ℕ). take n (line ++ 13 ∷ [])) size ∙ take-append_seam line (13 ∷ [])

-- a line that isn't too long
pub short_line : (phase : Phase) (accepted : ℕ) (held line rest : List ℕ) (returned : Bool) → IsCommandPhase phase → has_end returned line ≡ false → length held + length line ≤ 510
    → replies_in (state_of phase accepted held false returned) (line ++ 13 ∷ 10 ∷ rest)
    ≡ Fixed (step phase (command_of (held ++ line))).reply ∷ replies_in (at_line (step phase (command_of (held ++ line))).next accepted) rest
short_line phase accepted held [] rest returned is none fits =
    proceeds phase accepted held false returned 13 (10 ∷ rest) is (last_free returned)
    ∙ ap (λ state. replies_in state (10 ∷ rest)) (holds_more phase accepted held false returned 13 (omega (arith, fits)))
    ∙ ends phase accepted (held ++ 13 ∷ []) false rest is
    ∙ ap (λ (l : List ℕ). Fixed (step phase (command_of l)).reply ∷ replies_in (at_line (step phase (command_of l)).next accepted) rest) (without_one held ∙ sym (append-nil held))
short_line phase accepted held (byte ∷ line) rest returned is none fits =
    let both = parts returned byte line none in
    let size = length-append held (byte ∷ []) in
    proceeds phase accepted held false returned byte (line ++ 13 ∷ 10 ∷ rest) is both.0
    ∙ ap (λ state. replies_in state (line ++ 13 ∷ 10 ∷ rest)) (holds_more phase accepted held false returned byte (omega (arith, fits)))
    ∙ short_line phase accepted (held ++ byte ∷ []) line rest (byte == 13) is both.1 (omega (arith, fits, size))
    ∙ ap (λ (l : List ℕ). Fixed (step phase (command_of l)).reply ∷ replies_in (at_line (step phase (command_of l)).next accepted) rest) (append_assoc held (byte ∷ []) line)

-- a line that is too long, once as much as a line may have is held
full_line : (phase : Phase) (accepted : ℕ) (held line rest : List ℕ) (long returned : Bool) → IsCommandPhase phase → has_end returned line ≡ false → length held ≡ 511
    → replies_in (state_of phase accepted held long returned) (line ++ 13 ∷ 10 ∷ rest) ≡ Fixed LongLine ∷ replies_in (at_line phase accepted) rest
unfolding step
full_line phase accepted held [] rest long returned is none full =
    proceeds phase accepted held long returned 13 (10 ∷ rest) is (last_free returned)
    ∙ ap (λ state. replies_in state (10 ∷ rest)) (is_full phase accepted held long returned 13 full)
    ∙ ends phase accepted held true rest is
full_line phase accepted held (byte ∷ line) rest long returned is none full =
    let both = parts returned byte line none in
    proceeds phase accepted held long returned byte (line ++ 13 ∷ 10 ∷ rest) is both.0
    ∙ ap (λ state. replies_in state (line ++ 13 ∷ 10 ∷ rest)) (is_full phase accepted held long returned byte full)
    ∙ full_line phase accepted held line rest true (byte == 13) is both.1 full

by_room : {P : Type 0} (held : ℕ) (b : Bool) → nat_lt held 511 ≡ b → held ≤ 511 → (held < 511 → P) → (held ≡ 511 → P) → P
by_room held true is fits room full = room (grind (arith, nat_tests))
by_room held false is fits room full = full (grind (arith, nat_tests))

pub long_line : (phase : Phase) (accepted : ℕ) (held line rest : List ℕ) (returned : Bool) → IsCommandPhase phase → has_end returned line ≡ false → length held ≤ 511
    → 510 < length held + length line → replies_in (state_of phase accepted held false returned) (line ++ 13 ∷ 10 ∷ rest) ≡ Fixed LongLine ∷ replies_in (at_line phase accepted) rest
long_line phase accepted held [] rest returned is none fits long = full_line phase accepted held [] rest false returned is none (omega (arith, fits, long))
long_line phase accepted held (byte ∷ line) rest returned is none fits long =
    let both = parts returned byte line none in
    let size = length-append held (byte ∷ []) in
    by_room (length held) (nat_lt (length held) 511) refl fits
    (λ below. proceeds phase accepted held false returned byte (line ++ 13 ∷ 10 ∷ rest) is both.0
    ∙ ap (λ state. replies_in state (line ++ 13 ∷ 10 ∷ rest)) (holds_more phase accepted held false returned byte below)
    ∙ long_line phase accepted (held ++ byte ∷ []) line rest (byte == 13) is both.1 (omega (arith, below, size)) (omega (arith, long, size)))
    (λ full. full_line phase accepted held (byte ∷ line) rest false returned is none full)
