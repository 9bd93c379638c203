-- How the bytes of a chunk come one after another.
use Rattle.std.proofs.Common.{◌≡◌, ℕ, ◌+◌, ◌<◌, ◌≤◌, List, length, drop, get_or, refl, ap, append-nil, false}
use Rattle.std.proofs.lemmas.List.{drop_more, drop_all}
use Rattle.sample_servers.specs.Stream.{written, and_then, each_byte}
use Rattle.mail_service.specs.Mail.{MailState, mail_byte}

-- one byte, and then those after it
pub each_at : (s : MailState) (bytes : List ℕ) (i : ℕ) → i < length bytes
    → each_byte mail_byte s (drop i bytes) ≡ and_then (mail_byte s (get_or bytes i 0)) (λ next. each_byte mail_byte next (drop (i + 1) bytes))
each_at s bytes i below = ap (each_byte mail_byte s) (drop_more bytes i 0 below)

-- after the last byte nothing more is written
pub each_end : (before : List ℕ) (s : MailState) (bytes : List ℕ) (i : ℕ) → length bytes ≤ i
    → written before (each_byte mail_byte s (drop i bytes)) ≡ record { next = s; output = before; closed = false }
each_end before s bytes i end = rw (drop_all i bytes end) (rw append-nil refl)
