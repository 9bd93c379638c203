-- The code's records as plain records of messages.
use Rattle.seq_arith.specs.Message as said
use Rattle.logger_wire.specs.declared.records.Numbers.{Numbers}
use Rattle.logger_wire.specs.declared.records.Kept.{Kept}
use Rattle.logger_wire.specs.declared.records.EntryHead.{EntryHead}
use Rattle.logger_wire.specs.declared.records.Part.{Part}

abbrev pub numbers_said : Numbers → said.Numbers
numbers_said numbers = record { key = numbers.key; cisn = numbers.cisn; sisn = numbers.sisn; mss = numbers.mss }

abbrev pub kept_said : Kept → said.Kept
kept_said kept = record { key = kept.key; length = kept.length; fin = kept.fin; reads = kept.reads }

abbrev pub head_said : EntryHead → said.EntryHead
head_said head = record {
  key = head.key;
  cisn = head.cisn;
  sisn = head.sisn;
  mss = head.mss;
  length = head.length;
  fin = head.fin;
  done = head.done;
  reads = head.reads;
  acked = head.acked;
}

abbrev pub part_said : Part → said.Part
part_said part = record { key = part.key; offset = part.offset; acked = part.acked; fin = part.fin; more = part.more; bytes = part.bytes.now }
