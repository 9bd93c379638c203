use Rattle.std.proofs.Common.{◌≡◌, ◌∙◌, ap, ap₂, subst, Bool, List, [], ◌∷◌, ◌++◌, Option, Some}
use Rattle.ft_io.specs.declared.Addr.{Addr}
use Rattle.ft_io.specs.declared.link_call.LinkCall.{LinkCall}
use Rattle.ft_io.specs.declared.link_call.LinkCall.TheVariants.{Handed}
use Rattle.ft_io.specs.Reported.{Reports}
use Rattle.ft_model.specs.Wire.{Wire}
use Rattle.link_parts.specs.declared.counts.Counts.{Counts}
use Rattle.link_parts.specs.declared.role.Loggers.{Loggers}
use Rattle.node_link.specs.ServerParts.{HasSent}
use Rattle.node_link.specs.ServerTurns.{Sent, address_of, second_for, sent_second, sending, wires_in}
use Rattle.node_link.proofs.excluded.sends_to_one_logger_alone.Goals as goal

module _ (loggers : Loggers) (wire : Wire) (second : Addr) (old new : Option (List LinkCall)) where
  abbrev IsToBoth : Type 0
  IsToBoth = (is_lost : Bool) × (is_second_lost : Bool)
      × Reports old new (Handed (address_of loggers.first wire.to) wire.bytes is_lost ∷ Handed second wire.bytes is_second_lost ∷ [])

  first_wire : List Wire → Wire
  first_wire [] = wire
  first_wire (w ∷ wires) = w

  -- what was sent is this packet alone
  to_both : (sent : List Sent) → wires_in sent ≡ wire ∷ [] → second_for loggers wire.to ≡ Some second → Reports old new (sending loggers sent) → IsToBoth
  unfolding first_wire
  to_both [] is two reports = cc
  to_both (s ∷ t ∷ sent) is two reports = cc
  to_both (s ∷ []) is two reports =
      let same : s.wire ≡ wire = ap first_wire is in
      let calls : Wire → Option Addr → List LinkCall =
      λ w at. Handed (address_of loggers.first w.to) w.bytes s.is_lost ∷ (sent_second at (record s { wire = w }) ++ []) in
      (s.is_lost, s.is_second_lost, subst (Reports old new) (ap₂ calls same (ap (λ w. second_for loggers w.to) same ∙ two)) reports)

pub returns : goal.returns
returns g c = λ second two.
    let s = c.send_one.ensures.sent in
    to_both c.args.loggers c.args.packet.now second (g.L.Link.reported c.args.link.now) (g.L.Link.reported c.send_one.new.link) s.sent s.wires_are two s.reports
