use Rattle.std.specs.Prelude.{⊤}
use Rattle.seq_arith.specs.MessageGrammar.{is_sound_by, has_length}
use Rattle.ft_model.specs.Log.{log_after, answer_to}
use Rattle.logger_store.specs.StoreState.{wants_memory}

-- what the tactics of functions unfold: the definitions of each, by its name

unfoldable pub keeps_old_boot_words : ⊤
unfolding is_sound_by has_length log_after answer_to
keeps_old_boot_words = tt

unfoldable pub write_answer_words : ⊤
unfolding has_length is_sound_by
write_answer_words = tt

unfoldable pub answer_by_words : ⊤
unfolding log_after answer_to wants_memory
answer_by_words = tt
