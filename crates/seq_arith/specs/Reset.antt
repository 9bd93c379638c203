-- The RSTs with which TCP refuses a segment (RFC 9293, 3.10.7.1). Each has window 0 and no option.
use Rattle.std.specs.Prelude.{ℕ, ◌+◌, ◌%◌, ◌^◌, None}
use Rattle.ft_io.specs.declared.Addr.{Addr}
use Rattle.ft_io.specs.declared.Key.{Key}
use Rattle.seq_arith.specs.declared.flags.TheConstants.{RST, ACK}
use Rattle.seq_arith.specs.Packet.{Head}

abbrev pub reset : Addr → Key → (seq ack flags : ℕ) → Head
reset local peer seq ack flags = record {
  src = local.ip;
  dst = peer.ip;
  sport = local.port;
  dport = peer.port;
  seq = seq;
  ack = ack;
  flags = flags;
  window = 0;
  mss = None;
  timestamps = None;
}

-- <SEQ=SEG.ACK><CTL=RST>
abbrev pub reset_at_ack : Addr → Head → Head
reset_at_ack local head = reset local (record { ip = head.src; port = head.sport }) head.ack 0 RST

-- <SEQ=0><ACK=SEG.SEQ+SEG.LEN><CTL=RST,ACK>, for a segment of length len
abbrev pub reset_behind : Addr → (len : ℕ) → Head → Head
reset_behind local len head = reset local (record { ip = head.src; port = head.sport }) 0 ((head.seq + len) % 2 ^ 32) (RST + ACK)
