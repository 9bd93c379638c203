-- The commands, as lines spell them (RFC 5321, sections 4.1.1 and 4.1.2; RFC 1870 for SIZE; RFC 6152 for BODY). Letters may be in either case.
use Rattle.std.specs.Prelude.{ℕ, Bool, true, false, ◌==◌, ◌&&◌, ◌||◌, not, nat_le, List, [], ◌∷◌, length, take, drop, codes, if◌then◌else◌}
use Rattle.std.specs.List.{list_any, before_first, after_first, slice_split}
use Rattle.web_service.specs.Text.{same_word, is_number, number}
use Rattle.mail_service.specs.declared.reply.Answer.{Answer}
use Rattle.mail_service.specs.declared.reply.Answer.TheVariants.{TooLarge, Unknown, BadArgument, NotImplemented, BadParameter}
use Rattle.mail_service.specs.declared.command.Command.{Command}
use Rattle.mail_service.specs.declared.command.Command.TheVariants.{Helo, Ehlo, Mail, Rcpt, Data, Rset, Noop, Vrfy, Quit, Wrong}
use Rattle.mail_service.specs.declared.command.Parameter.{Parameter}
use Rattle.mail_service.specs.declared.command.Parameter.TheVariants as parameters

-- the most bytes that the text of a message may have
abbrev pub size_limit : ℕ
size_limit = 8000000

abbrev pub begins : (word bytes : List ℕ) → Bool
begins word bytes = nat_le (length word) (length bytes) && same_word (take (length word) bytes) word

abbrev pub is_space : ℕ → Bool
is_space byte = byte == 32

abbrev pub is_bracket : ℕ → Bool
is_bracket byte = byte == 62

-- whether a path is closed
abbrev pub has_bracket : List ℕ → Bool
has_bracket bytes = list_any is_bracket bytes

-- SIZE=n announces a message of n bytes
abbrev pub size_of : List ℕ → Parameter
size_of digits =
    if is_number digits then (if nat_le (number digits) size_limit then parameters.Fine else parameters.Large) else parameters.Unknown

-- a parameter of MAIL: SIZE and BODY are known
unfoldable pub parameter_of : List ℕ → Parameter
parameter_of word =
    if length word == 0 || same_word word (codes "BODY=7BIT") || same_word word (codes "BODY=8BITMIME")
    then parameters.Fine
    else if begins (codes "SIZE=") word then size_of (drop 5 word) else parameters.Unknown

abbrev pub is_kind : Parameter → Parameter → Bool
is_kind parameters.Fine parameters.Fine = true
is_kind parameters.Fine parameters.Large = false
is_kind parameters.Fine parameters.Unknown = false
is_kind parameters.Large parameters.Fine = false
is_kind parameters.Large parameters.Large = true
is_kind parameters.Large parameters.Unknown = false
is_kind parameters.Unknown parameters.Fine = false
is_kind parameters.Unknown parameters.Large = false
is_kind parameters.Unknown parameters.Unknown = true

-- whether one of the parameters says this
abbrev pub any_word : Parameter → List ℕ → Bool
any_word kind words = list_any (λ word. is_kind kind (parameter_of word)) (slice_split is_space words)

abbrev pub mail_by : List ℕ → Command
mail_by words =
    if any_word parameters.Unknown words then Wrong BadParameter
    else if any_word parameters.Large words then Wrong TooLarge
    else Mail

abbrev pub mail_with : List ℕ → Command
mail_with [] = Mail
mail_with (byte ∷ words) = if byte == 32 then mail_by words else Wrong BadParameter

-- mail = "MAIL FROM:" Reverse-path [SP Mail-parameters]
unfoldable pub mail_of : List ℕ → Command
mail_of argument =
    if begins (codes "FROM:<") argument && has_bracket argument then mail_with (after_first is_bracket argument) else Wrong BadArgument

-- no parameter of RCPT is known
abbrev pub recipient_with : List ℕ → Command
recipient_with argument = if length (after_first is_bracket argument) == 0 then Rcpt else Wrong BadParameter

-- rcpt = "RCPT TO:" Forward-path. The path isn't empty
unfoldable pub recipient_of : List ℕ → Command
recipient_of argument =
    if begins (codes "TO:<") argument && has_bracket argument && not (begins (codes "TO:<>") argument)
    then recipient_with argument
    else Wrong BadArgument

abbrev pub with_argument : Command → List ℕ → Command
with_argument command argument = if length argument == 0 then Wrong BadArgument else command

abbrev pub alone : Command → List ℕ → Command
alone command argument = if length argument == 0 then command else Wrong BadArgument

-- the commands that change no transaction
unfoldable pub other_command : (name argument : List ℕ) → Command
other_command name argument =
    if same_word name (codes "NOOP") then Noop
    else if same_word name (codes "VRFY") then with_argument Vrfy argument
    else if same_word name (codes "QUIT") then alone Quit argument
    else if same_word name (codes "EXPN") || same_word name (codes "HELP") then Wrong NotImplemented
    else Wrong Unknown

unfoldable pub command_by : (name argument : List ℕ) → Command
command_by name argument =
    if same_word name (codes "HELO") then with_argument Helo argument
    else if same_word name (codes "EHLO") then with_argument Ehlo argument
    else if same_word name (codes "MAIL") then mail_of argument
    else if same_word name (codes "RCPT") then recipient_of argument
    else if same_word name (codes "DATA") then alone Data argument
    else if same_word name (codes "RSET") then alone Rset argument
    else other_command name argument

-- a line is cut at its first space
unfoldable pub command_of : List ℕ → Command
command_of line = command_by (before_first is_space line) (after_first is_space line)
