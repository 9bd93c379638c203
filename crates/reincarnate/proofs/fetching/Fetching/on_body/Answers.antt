use Rattle.reincarnate.proofs.Sendable.{head_in_range, mss_in_range, part_in_range, lens_in_range}
use Rattle.reincarnate.proofs.fetching.Fetching.on_body.Goals as goal

pub on_head-requires-clause-stream : goal.on_head-requires-clause-stream
on_head-requires-clause-stream g c = head_in_range c.args.m.now _ c.in-Entry.head c.requires.sendable c.in-Entry.is

pub on_head-requires-clause-segments : goal.on_head-requires-clause-segments
on_head-requires-clause-segments g c = mss_in_range c.args.m.now _ c.in-Entry.head c.requires.sendable c.in-Entry.is

pub on_part-requires : goal.on_part-requires
on_part-requires g c = part_in_range c.args.m.now c.in-Part.key c.in-Part.offset c.in-Part.bytes c.requires.sendable c.in-Part.is

pub on_lens-requires : goal.on_lens-requires
on_lens-requires g c = lens_in_range c.args.m.now c.in-Lens.key c.in-Lens.first c.in-Lens.lens c.requires.sendable c.in-Lens.is
