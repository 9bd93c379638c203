use Rattle.std.specs.Prelude.{⊤}
use Rattle.seq_arith.specs.TwinGrammar.{is_asking_by, reading_of, is_sound_in, datagram_in}
use Rattle.seq_arith.specs.MessageGrammar.{is_sound_by, has_length, number_in}
use Rattle.logger_wire.specs.Places.{opened, number_at}
use Rattle.seq_arith.specs.Bytes.{word_at}
use Rattle.seq_arith.specs.Checksum.{check_of, folded}

-- what the tactics of functions unfold: the definitions of each, by its name

unfoldable pub forwards_an_answer_words : ⊤
unfolding is_asking_by is_sound_by has_length
forwards_an_answer_words = tt

unfoldable pub ignores_sum_words : ⊤
unfolding opened number_at number_in word_at check_of folded
ignores_sum_words = tt

unfoldable pub read_kind_words : ⊤
unfolding reading_of is_sound_in datagram_in
read_kind_words = tt
