-- The process that informs a logger that the other has stopped: it sends one datagram, and writes a line on whether the send failed.
use Rattle.std.specs.Prelude.{◌≡◌, ℕ, Bool, true, false, Option, Result, Ok, Err, List, [], ◌∷◌, codes}
use Rattle.ft_io.specs.declared.Failed.{Failed}
use Rattle.ft_io.specs.declared.link_call.LinkCall.{LinkCall}
use Rattle.ft_io.specs.declared.link_call.LinkCall.TheVariants.{Bound, Handed}
use Rattle.ft_io.specs.Sink.{AppendsFront}
use Rattle.ft_io.specs.Reported.{Reports}
use Rattle.seq_arith.specs.TwinDatagram.{TwinDatagram as datagrams}
use Rattle.seq_arith.specs.TwinGrammar.{spelling}
use Rattle.link_parts.specs.declared.status.NodeEnd.{NodeEnd}
use Rattle.link_parts.specs.declared.status.NodeEnd.TheVariants.{LinkFault, WriteFault}
use Rattle.chain_parts.specs.declared.pair_role.AloneRole.{AloneRole}

abbrev pub sent_line : (is_lost : Bool) → List ℕ
sent_line false = codes "sent 1 lost 0\n"
sent_line true = codes "sent 0 lost 1\n"

-- by the result of the send
abbrev pub line_of : Result (Unit {0}) Failed → List ℕ
line_of (Ok _) = sent_line false
line_of (Err _) = sent_line true

-- it bound to its address, and handed this one datagram to send
pub record IsNotifier (role : AloneRole) (old new : Option (List LinkCall)) (Writes : List ℕ → Type 0) : Type 0 where
  pub is_lost : Bool
  pub reports : Reports old new (Bound role.local ∷ Handed role.to (spelling datagrams.Alone) is_lost ∷ [])
  pub written : Writes (sent_line is_lost)

-- how it stops early: nothing was written where the bind failed, and a prefix of the line where a write did
abbrev pub NotifierStops : AloneRole → (old new : Option (List LinkCall)) → (out_old out_new : Option (List ℕ)) → NodeEnd → Type 0
NotifierStops role old new out_old out_new LinkFault = Reports old new [] × (out_new ≡ out_old)
NotifierStops role old new out_old out_new WriteFault = IsNotifier role old new (AppendsFront out_old out_new)
NotifierStops role old new out_old out_new _ = ⊥
