-- A client's accepted bytes are replies to logged reads.
use Rattle.std.proofs.Common.{◌≡◌, true, ap, ◌∙◌, subst, ℕ, List, [], ◌++◌, take, append-nil}
use Rattle.std.specs.Prelude.{sum}
use Rattle.std.specs.List.{AllByRecursion}
use Rattle.ft_io.specs.Key.{key_eq}
use Rattle.server_trait.specs.Service.{reference, CanCut}
use Rattle.ft_model.specs.Client.{Client}
use Rattle.ft_model.specs.Growth.{IsPrefix, logged_lengths, lengths_in}
use Rattle.ft_model.specs.Log.{Entry, Log, entry_of}
use Rattle.ft_model.specs.Masked.{SeesFront}
use Rattle.ft_model.specs.World.{World, Moment, Joint, world_after}
use Rattle.ft_model.proofs.Acknowledged.{logged_front}
use Rattle.ft_model.proofs.Cuttable.{cut_over}
use Rattle.ft_model.proofs.JointMasked.{sees_front}
use Rattle.ft_model.proofs.Lists.{all_both, all_weaker, prefix_trans, all_find, found_passes}
use Rattle.ft_model.proofs.Services.{more_bytes}
use Rattle.mail_service.specs.Laws.{length-mail_after-le, short_mail_greeting}
use Rattle.mail_service.specs.Mail.{mail_started, mail_greeting, mail_machine}
use Rattle.mail_service.specs.Session.{replies_in, replies_text}
use Rattle.mail_service.proofs.Replies.{reads_front}
use Rattle.mail_laws.specs.Logged.{read_bytes, HasLoggedReplies, HasOnlyTheGreeting}

-- an entry has a front of its client's script
abbrev IsFrontOf : Client → Entry → Type 0
IsFrontOf c e = key_eq e.key c.key ≡ true → IsPrefix e.bytes c.script × (e.fin ≡ true → e.bytes ≡ c.script)

-- the service's run over the logged reads has written a front of the replies to them
run_of_reads : (e : Entry) → IsPrefix (reference mail_machine e.bytes e.lengths).output (mail_greeting mail_started ++ replies_text (replies_in mail_started (read_bytes e)))
unfolding reference
run_of_reads e = reads_front e.lengths e.bytes mail_started (mail_greeting mail_started)

one_client : (log : Log) (c : Client) → AllByRecursion (λ e. CanCut e.bytes e.lengths) log.entries → SeesFront mail_machine log c → AllByRecursion (IsFrontOf c) log.entries
    → HasLoggedReplies log c
one_client log c cuts s fronts = record {
  unlogged = s.unlogged;
  logged = λ e found.
      let replies = mail_greeting mail_started ++ replies_text (replies_in mail_started (read_bytes e)) in
      let enough = (all_find (λ x. CanCut x.bytes x.lengths) (λ x. key_eq x.key c.key) log.entries e cuts found).enough in
      let front = (all_find (IsFrontOf c) (λ x. key_eq x.key c.key) log.entries e fronts found) (found_passes (λ x. key_eq x.key c.key) log.entries e found) in
      let same = ap (λ o. reference mail_machine c.script (lengths_in o)) found ∙ more_bytes mail_machine e.bytes c.script e.lengths front.0 enough in
      let sees : IsPrefix c.accepted (reference mail_machine e.bytes e.lengths).output = subst (λ r. IsPrefix c.accepted r.output) same s.accepted in
      prefix_trans c.accepted (reference mail_machine e.bytes e.lengths).output replies sees (run_of_reads e);
}

pub logged : (start : World) (trace : List Moment) → Joint mail_machine start trace → AllByRecursion (HasLoggedReplies (world_after start trace).log) (world_after start trace).clients
logged start trace joint =
    let log : Log = (world_after start trace).log in
    all_both (SeesFront mail_machine log) (λ c. AllByRecursion (IsFrontOf c) log.entries) (HasLoggedReplies log) (world_after start trace).clients
    (λ c s f. one_client log c (cut_over mail_machine start trace joint) s f)
    (sees_front mail_machine (short_mail_greeting mail_started, length-mail_after-le) start trace joint) (logged_front mail_machine start trace joint)

abbrev Law : Type 0
Law = (start : World) (trace : List Moment) → Joint mail_machine start trace
    → AllByRecursion (HasLoggedReplies (world_after start trace).log) (world_after start trace).clients

-- without a read there is no reply
no_reply : (log : Log) (c : Client) → HasLoggedReplies log c → HasOnlyTheGreeting log c
no_reply log c has e found none =
    let greeting : List ℕ = mail_greeting mail_started in
    let front = subst (λ lengths. IsPrefix c.accepted (greeting ++ replies_text (replies_in mail_started (take (sum lengths) e.bytes)))) none
    (has.logged e found) in
    subst (IsPrefix c.accepted) (append-nil greeting) front

pub greeting_alone : Law → (start : World) (trace : List Moment) → Joint mail_machine start trace
    → AllByRecursion (HasOnlyTheGreeting (world_after start trace).log) (world_after start trace).clients
greeting_alone law start trace joint =
    let log : Log = (world_after start trace).log in
    all_weaker (HasLoggedReplies log) (HasOnlyTheGreeting log) (world_after start trace).clients (no_reply log) (law start trace joint)
