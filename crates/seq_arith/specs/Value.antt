-- What the code's values say, as plain records of the packet grammar.
use Rattle.seq_arith.specs.Packet as packet
use Rattle.seq_arith.specs.declared.head.Head.{Head}

abbrev pub said : Head → packet.Head
said head = record {
  src = head.src;
  dst = head.dst;
  sport = head.sport;
  dport = head.dport;
  seq = head.seq.0;
  ack = head.ack.0;
  flags = head.flags;
  window = head.window;
  mss = head.mss;
  timestamps = head.timestamps;
}
