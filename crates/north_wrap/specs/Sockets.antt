-- A socket as the north wrapper's proofs see it: its ghost functions as values, and its laws.
use Rattle.std.specs.Prelude.{◌≡◌, ℕ, Bool, true, List, drop}

-- what reading does to it
pub record Reader (K : Type 0) : Type 0 where
  pub unread : K → List ℕ
  pub has_end : K → Bool
  pub after_read : K → ℕ → K

abbrev pub reader : {K : Type 0} → (K → List ℕ) → (K → Bool) → (K → ℕ → K) → Reader K
reader unread has_end after_read = record { unread = unread; has_end = has_end; after_read = after_read }

-- what writing does to it
pub record Writer (K : Type 0) : Type 0 where
  pub room : K → ℕ
  pub is_closed : K → Bool
  pub after_write : K → List ℕ → K
  pub after_close : K → K

abbrev pub writer : {K : Type 0} → (K → ℕ) → (K → Bool) → (K → List ℕ → K) → (K → K) → Writer K
writer room is_closed after_write after_close = record { room = room; is_closed = is_closed; after_write = after_write; after_close = after_close }

-- the trait's laws that the wrapper's turn depends on
pub record SocketLaws {K : Type 0} (r : Reader K) (w : Writer K) : Type 0 where
  pub read_front : (s : K) (n : ℕ) → r.unread (r.after_read s n) ≡ drop n (r.unread s)
  pub read_end : (s : K) (n : ℕ) → r.has_end (r.after_read s n) ≡ r.has_end s
  pub read_open : (s : K) (n : ℕ) → w.is_closed (r.after_read s n) ≡ w.is_closed s
  pub write_unread : (s : K) (bytes : List ℕ) → r.unread (w.after_write s bytes) ≡ r.unread s
  pub write_end : (s : K) (bytes : List ℕ) → r.has_end (w.after_write s bytes) ≡ r.has_end s
  pub write_open : (s : K) (bytes : List ℕ) → w.is_closed (w.after_write s bytes) ≡ w.is_closed s
  pub close_unread : (s : K) → r.unread (w.after_close s) ≡ r.unread s
  pub close_end : (s : K) → r.has_end (w.after_close s) ≡ r.has_end s
  pub close_closed : (s : K) → w.is_closed (w.after_close s) ≡ true
