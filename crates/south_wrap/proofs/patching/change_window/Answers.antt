use Rattle.std.proofs.Common.{sym}
use Rattle.seq_arith.specs.Packet.{with_window}
use Rattle.south_wrap.proofs.Heads.{head_length, read_behind, still_a_packet, spelled_behind}
use Rattle.south_wrap.proofs.patching.change_window.Goals as goal
use Rattle.segment_codec.proofs.Accepting.{header_is_long}

pub slice_bounds-set_window-end : goal.slice_bounds-set_window-end
slice_bounds-set_window-end c = header_is_long c.args.packet.now c.requires

pub slice_bounds-set_window-end-2 : goal.slice_bounds-set_window-end-2
slice_bounds-set_window-end-2 c = sym (head_length c.args.packet.now c.requires)

pub set_window-requires : goal.set_window-requires
set_window-requires c = head_length c.args.packet.now c.requires

pub returns-clause-read : goal.returns-clause-read
returns-clause-read c = read_behind c.args.packet.now c.set_window.new.head (with_window c.args.window) c.requires c.set_window.ensures.read

pub returns-clause-accepted : goal.returns-clause-accepted
returns-clause-accepted c = still_a_packet c.args.packet.now c.set_window.new.head (with_window c.args.window) c.requires (returns-clause-read c)

pub returns-clause-canonical : goal.returns-clause-canonical
returns-clause-canonical c = spelled_behind c.args.packet.now c.set_window.new.head (with_window c.args.window) c.set_window.ensures.canonical
