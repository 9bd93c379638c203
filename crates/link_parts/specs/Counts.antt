-- The calls on a link, counted by their results, and the line of the counts.
use Rattle.std.specs.Prelude.{ℕ, Bool, true, false, ◌+◌, ◌^◌, ◌<◌, List, [], ◌++◌, codes, count_by}
use Rattle.std.specs.Fmt.{decimal}
use Rattle.ft_io.specs.declared.link_call.LinkCall.{LinkCall}
use Rattle.ft_io.specs.declared.link_call.LinkCall.TheVariants.{Came, Silent, Missed, Handed}
use Rattle.link_parts.specs.declared.counts.Counts.{Counts}

abbrev pub is_receive : LinkCall → Bool
is_receive (Came from bytes) = true
is_receive Silent = true
is_receive Missed = true
is_receive _ = false

abbrev pub is_datagram : LinkCall → Bool
is_datagram (Came from bytes) = true
is_datagram _ = false

abbrev pub is_failed : LinkCall → Bool
is_failed Missed = true
is_failed _ = false

abbrev pub is_sent : LinkCall → Bool
is_sent (Handed to bytes false) = true
is_sent _ = false

abbrev pub is_lost : LinkCall → Bool
is_lost (Handed to bytes true) = true
is_lost _ = false

-- the counts of these calls
abbrev pub counts_of : List LinkCall → Counts
counts_of calls = record {
  turns = count_by is_receive calls;
  datagrams = count_by is_datagram calls;
  sent = count_by is_sent calls;
  lost = count_by is_lost calls;
  failed = count_by is_failed calls;
}

abbrev pub plus : Counts → Counts → Counts
plus a b = record {
  turns = a.turns + b.turns;
  datagrams = a.datagrams + b.datagrams;
  sent = a.sent + b.sent;
  lost = a.lost + b.lost;
  failed = a.failed + b.failed;
}

abbrev pub no_calls : Counts
no_calls = counts_of []

abbrev pub with_calls : Counts → List LinkCall → Counts
with_calls counts calls = plus counts (counts_of calls)

-- so many more calls of each kind can be counted
pub record HasRoom (n : ℕ) (c : Counts) : Type 0 where
  pub turns : c.turns + n < 2 ^ 128
  pub datagrams : c.datagrams + n < 2 ^ 128
  pub sent : c.sent + n < 2 ^ 128
  pub lost : c.lost + n < 2 ^ 128
  pub failed : c.failed + n < 2 ^ 128

-- the line of the counts
abbrev pub count_line : Counts → List ℕ
count_line c =
    (codes "turns " ++ decimal c.turns) ++ (codes " datagrams " ++ decimal c.datagrams) ++ (codes " sent " ++ decimal c.sent)
    ++ (codes " lost " ++ decimal c.lost)
    ++ (codes " failed " ++ decimal c.failed) ++ codes "\n"
