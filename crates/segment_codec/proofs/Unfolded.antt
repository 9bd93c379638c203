use Rattle.std.specs.Prelude.{⊤}
use Rattle.segment_codec.specs.Change.{sealed, put, patched_at}
use Rattle.seq_arith.specs.Bytes.{two, word_at}
use Rattle.seq_arith.specs.PacketGrammar.{tcp_text, tcp_tests, payload_at, options_in}
use Rattle.seq_arith.specs.Checksum.{check_of, folded, patched}

-- what the tactics of functions unfold: the definitions of each, by its name

unfoldable pub forgets_checksum_words : ⊤
unfolding sealed put two word_at tcp_text check_of folded
forgets_checksum_words = tt

unfoldable pub forgets_the_carry_of_a_word_words : ⊤
unfolding patched_at put two word_at patched folded
forgets_the_carry_of_a_word_words = tt

unfoldable pub ignores_tcp_checksum_words : ⊤
unfolding tcp_tests payload_at options_in tcp_text two check_of folded
ignores_tcp_checksum_words = tt
