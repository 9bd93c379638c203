-- What the log has of a client of the receiver of mail.
use Rattle.std.specs.Prelude.{◌≡◌, ℕ, Some, None, List, [], ◌++◌, take, sum}
use Rattle.ft_model.specs.Client.{Client}
use Rattle.ft_model.specs.Growth.{IsPrefix}
use Rattle.ft_model.specs.Log.{Entry, Log, entry_of}
use Rattle.mail_service.specs.Mail.{mail_started, mail_greeting}
use Rattle.mail_service.specs.Session.{replies_in, replies_text}

-- the bytes of an entry's reads
abbrev pub read_bytes : Entry → List ℕ
read_bytes entry = take (sum entry.lengths) entry.bytes

-- what a client has accepted is a front of the greeting and the replies to the bytes that its entry's reads have
pub record HasLoggedReplies (log : Log) (client : Client) : Type 0 where
  pub unlogged : entry_of client.key log ≡ None → client.accepted ≡ []
  pub logged : (entry : Entry) → entry_of client.key log ≡ Some entry
      → IsPrefix client.accepted (mail_greeting mail_started ++ replies_text (replies_in mail_started (read_bytes entry)))

-- a client whose entry has no read has accepted a front of the greeting, and nothing else
abbrev pub HasOnlyTheGreeting : Log → Client → Type 0
HasOnlyTheGreeting log client =
    (entry : Entry) → entry_of client.key log ≡ Some entry → entry.lengths ≡ [] → IsPrefix client.accepted (mail_greeting mail_started)
