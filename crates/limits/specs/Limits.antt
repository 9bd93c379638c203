-- The limits of FT-TCP, as the crate's constants have them.
use Rattle.std.specs.Prelude.{ℕ, ◌+◌, ◌^◌}

-- the most bytes of a stream
abbrev pub longest_stream : ℕ
longest_stream = 2 ^ 24

-- .. and the most units: its FIN counts as one
abbrev pub most_units : ℕ
most_units = 2 ^ 24 + 1

-- the most bytes that TCP buffers in each direction, and the largest window
abbrev pub buffer_size : ℕ
buffer_size = 65535

-- the largest size of a packet
abbrev pub longest_packet : ℕ
longest_packet = 1500

-- the largest and the least segment size
abbrev pub largest_segment : ℕ
largest_segment = 1460

abbrev pub least_segment : ℕ
least_segment = 64

-- the largest size of a message to or from the logger
abbrev pub longest_message : ℕ
longest_message = 1491

-- the most entries of a log, and the most openings that a server has pending
abbrev pub most_entries : ℕ
most_entries = 64

abbrev pub most_pending : ℕ
most_pending = 64
