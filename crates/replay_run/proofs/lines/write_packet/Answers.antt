use Rattle.std.proofs.Common.{◌≡◌, ◌++◌, IsSome, IfSome, sym, subst, refl}
use Rattle.std.proofs.lemmas.Result.{on_ok_weaker}
use Rattle.tcp_rules.specs.Profile.{grammar_of}
use Rattle.tcp_rules.specs.Profiles.{profile_of}
use Rattle.ft_model.specs.Report.{line_of_packet}
use Rattle.net_schedule.specs.WorldView.{kept}
use Rattle.schedule_text.specs.Bytes.{content_by}
use Rattle.replay_run.proofs.Either.{can_be_written}
use Rattle.replay_run.proofs.Stored.{line_written}
use Rattle.replay_run.proofs.lines.write_packet.Goals as goal

pub write_packet_line_by-requires : goal.write_packet_line_by-requires
write_packet_line_by-requires c =
    subst (λ grammar. IsSome (content_by grammar c.in-Some.way c.in-Some-packet.bytes.now)) (sym c.grammar.ensures)
    (can_be_written
    (record { one = c.worlds_keep_what_was_sent.ensures.all; two = c.worlds_keep_what_was_sent.ensures.twin_all; marked = c.marked_worlds_keep_what_was_sent.ensures.all refl }) (kept c.args.world.now) c.args.n c.in-Some.way c.in-Some-packet.bytes.now c.requires (sym c.in-Some.ensures) (sym c.in-Some-packet.ensures))

pub returns : goal.returns
returns c =
    on_ok_weaker c.write_packet_line_by.result
    (λ written. line_written (grammar_of (profile_of c.args.world.now.profile)) c.args.world.now.packets c.args.n c.in-Some.way c.in-Some-packet.bytes.now c.args.lines.now.items c.write_packet_line_by.new.out.items (sym c.in-Some.ensures) (sym c.in-Some-packet.ensures)
    (can_be_written
    (record { one = c.worlds_keep_what_was_sent.ensures.all; two = c.worlds_keep_what_was_sent.ensures.twin_all; marked = c.marked_worlds_keep_what_was_sent.ensures.all refl }) (kept c.args.world.now) c.args.n c.in-Some.way c.in-Some-packet.bytes.now c.requires (sym c.in-Some.ensures) (sym c.in-Some-packet.ensures))
    (subst (λ grammar. IfSome (content_by grammar c.in-Some.way c.in-Some-packet.bytes.now) (λ words. c.write_packet_line_by.new.out.items ≡ c.args.lines.now.items ++ line_of_packet c.args.n c.in-Some.way words)) c.grammar.ensures written))
    c.write_packet_line_by.ensures.ok
