use Rattle.kept_log.proofs.Starts.{too_long, too_short, is_block, is_other}
use Rattle.kept_log.proofs.Blocks.{none_in_few}
use Rattle.kept_log.proofs.Drafts.{taken, written_on, compacted, cut_compaction}
use Rattle.kept_log.proofs.Files.{quiet_on, rose_later}
use Rattle.ft_io.proofs.Recordings.{none_reported}
use Rattle.kept_log.proofs.Headers.{is_older, not_older, unfinished_front, unfinished_behind, missing_few}
use Rattle.kept_log.proofs.Steps.{block_steps, end_steps, wrong_steps, short_ends, short_steps}
use Rattle.kept_log.proofs.Onward.{at_first}
use Rattle.kept_log.proofs.Said.{partly_begun, partly_on, all_of, none_written, one_more_at, all_written}

-- what the tactics of functions cite: the lemmas of each, by its name

pub ruleset start_of_lemmas = (too_long, too_short, is_block, is_other, none_in_few)

pub ruleset take_lemmas = (taken, written_on, quiet_on, none_reported)

pub ruleset begin_of_lemmas = (is_older, not_older, unfinished_front, unfinished_behind, missing_few)

pub ruleset step_lemmas = (none_reported, block_steps, end_steps, wrong_steps, short_ends, short_steps)

pub ruleset read_blocks_lemmas = (quiet_on, rose_later, none_reported, at_first)

pub ruleset write_entry_lemmas = (partly_begun, partly_on, all_of, quiet_on, none_reported)

pub ruleset write_entries_lemmas = (none_written, one_more_at, all_written, quiet_on, none_reported)

pub ruleset replace_file_lemmas = (compacted, cut_compaction, quiet_on, none_reported)
