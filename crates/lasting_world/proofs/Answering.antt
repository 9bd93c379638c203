-- The log's answer is stored, and then all that bytes do at the log is done.
use Rattle.std.proofs.Common.{◌≡◌, ◌∙◌, ℕ, true≢false, sym, ap, subst, refl, arith, true, false, Option, None, Some, is_some, option_map, List, [], ◌∷◌, ◌++◌, map, length, append-nil}
use Rattle.std.specs.Prelude.{Result, Ok, Err, IsErr}
use Rattle.std.specs.List.{AllByRecursion}
use Rattle.std.specs.Option.{option_to_list}
use Rattle.ft_io.specs.declared.Key.{Key}
use Rattle.ft_io.specs.Key.{key_eq}
use Rattle.seq_arith.specs.Message.{Message}
use Rattle.seq_arith.specs.MessageGrammar as messages
use Rattle.seq_arith.specs.declared.kinds.BadMsg.{BadMsg}
use Rattle.seq_arith.specs.declared.kinds.Grammar.{Grammar}
use Rattle.seq_arith.proofs.MessageSpelling.{message_is_read}
use Rattle.tcp_rules.specs.Profile.{grammar_of}
use Rattle.tcp_rules.specs.Profiles.{profile_of}
use Rattle.ft_model.specs.Log.{Entry, answer_to, head_of}
use Rattle.ft_model.specs.Network.Packet.{From_logger}
use Rattle.ft_model.specs.declared.way.Way.{Way}
use Rattle.ft_model.specs.declared.way.Way.TheVariants.{LoggerToServer}
use Rattle.ft_model.proofs.Lists.{none_is_some}
use Rattle.long_laws.specs.Forgetting.{ForgetMessage, ForgetAnswer, named_of}
use Rattle.long_laws.specs.Forgetting.ForgetAnswer.{About_forgetting, Of_log}
use Rattle.long_laws.specs.ForgetGrammar as forgets
use Rattle.long_laws.proofs.ForgetNoise.{no_message}
use Rattle.long_laws.proofs.ForgetRead.{forget_is_read}
use Rattle.logger_wire.specs.Records.{head_said}
use Rattle.logger_wire.specs.declared.records.EntryHead.{EntryHead}
use Rattle.forget_store.specs.Replies.{reply_bytes, after_reading, answer_to_reading}
use Rattle.lasting_laws.specs.LastingReport.{way_of_lasting}
use Rattle.lasting_laws.specs.LastingWorld as law
use Rattle.lasting_laws.specs.LastingWorld.{Parcel, Sent, LastingWorld, LogReads, grammar_in, with_sent, answer_parcel, parcel_concerns, bytes_of, either_said, said_by}
use Rattle.lasting_laws.specs.LastingWorld.Parcel.{Usual}
use Rattle.lasting_unseen.specs.Written.{IsWritten}
use Rattle.lasting_world.specs.Abouts.{names, said_about, key_said}
use Rattle.lasting_world.specs.Around.{KeptAround, AroundStands, AroundNext, AddsMessage, SendsWritten, ReportsLog}
use Rattle.lasting_world.specs.LogTurns.{Recycles, RecyclesUnless, TakesAbout, LogTakes, StoresAnswer, answer_of}
use Rattle.lasting_world.specs.NetworkStands.{IsWayOf}
use Rattle.lasting_world.specs.declared.gone.GoneEntry.{GoneEntry}
use Rattle.lasting_world.proofs.Networks.{adds}
use Rattle.lasting_world.proofs.Taking.{Taken, log_said, said_taken, said_left}

-- the code asks whether there is an answer, and whether a key has an entry still
pub stores_nothing : (bytes : List ℕ) (before : KeptAround) → length bytes ≡ 0 → StoresAnswer bytes before before
stores_nothing [] before none = refl
stores_nothing (byte ∷ bytes) before none = absurd (omega arith)

pub stores_some : (bytes : List ℕ) (before after : KeptAround) → (length bytes ≡ 0 → ⊥) → AddsMessage LoggerToServer bytes before after → StoresAnswer bytes before after
stores_some [] before after some a = absurd (some refl)
stores_some (byte ∷ bytes) before after some a = a

pub has_still : (h : Option EntryHead) (o : Option Entry) (key : Key) (gone : GoneEntry) (before : KeptAround) → option_map head_said h ≡ option_map head_of o → is_some h ≡ true
    → RecyclesUnless o key gone before before
has_still h (Some e) key gone before is some = refl
has_still (Some x) None key gone before is some = none_is_some (head_said x) (sym is)
has_still None None key gone before is some = absurd (true≢false (sym some))

pub has_none : (h : Option EntryHead) (o : Option Entry) (key : Key) (gone : GoneEntry) (before after : KeptAround) → option_map head_said h ≡ option_map head_of o → is_some h ≡ false
    → Recycles key gone before after → RecyclesUnless o key gone before after
has_none h None key gone before after is none r = r
has_none None (Some e) key gone before after is none r = none_is_some (head_of e) is
has_none (Some x) (Some e) key gone before after is none r = absurd (true≢false none)

-- what is answered, as parcels
abbrev pub parcels_said : Option ForgetAnswer → List Parcel
parcels_said answer = map answer_parcel (option_to_list answer)

usual_answer : (o : Option Message) → parcels_said (option_map Of_log o) ≡ map Usual (option_to_list (option_map From_logger o))
usual_answer (Some m) = refl
usual_answer None = refl

nothing_sent : (w : LastingWorld) → with_sent [] w ≡ w
nothing_sent w = ap (λ (l : List Sent). let now : LastingWorld = record w { sent = l } in now) (append-nil w.sent)

log_goes : (r : Result Message BadMsg) (f : Result ForgetMessage BadMsg) (w : LastingWorld)
    → LogReads (either_said r f) w (parcels_said (answer_to_reading r f w.log)) (with_sent (parcels_said (answer_to_reading r f w.log)) (log_said (either_said r f) w))
log_goes (Ok m) f w = (usual_answer (answer_to w.log m), refl)
log_goes (Err why) (Ok m) w = (refl, refl)
log_goes (Err why) (Err other) w = (refl, nothing_sent w)

-- an answer that can be written says something, and what is read of it concerns what it concerns
its_way : (a : ForgetAnswer) → IsWayOf (answer_parcel a) LoggerToServer
its_way (About_forgetting m) = tt
its_way (Of_log m) = tt

its_bytes : (grammar : Grammar) (a : ForgetAnswer) → reply_bytes grammar (Some a) ≡ bytes_of grammar (answer_parcel a)
its_bytes grammar (About_forgetting m) = refl
its_bytes grammar (Of_log m) = refl

err_is_ok : {V E : Type 0} (why : E) (v : V) → Err why ≡ Ok v → ⊥
err_is_ok why v e = cc

says_something : (grammar : Grammar) (m : Message) → messages.reading_by grammar [] ≡ Ok m → ⊥
unfolding messages.reading_by
says_something grammar m e = err_is_ok _ m e

forgets_something : (m : ForgetMessage) → forgets.reading [] ≡ Ok m → ⊥
unfolding forgets.reading
forgets_something m e = err_is_ok _ m e

not_empty : (grammar : Grammar) (a : ForgetAnswer) → IsWritten grammar (answer_parcel a) → reply_bytes grammar (Some a) ≡ [] → ⊥
not_empty grammar (About_forgetting m) written e = forgets_something m (ap forgets.reading (sym e) ∙ forget_is_read m written)
not_empty grammar (Of_log m) written e = says_something grammar m (ap (messages.reading_by grammar) (sym e) ∙ message_is_read m written.0)

about_forgetting : (r : Result Message BadMsg) (f : Result ForgetMessage BadMsg) (m : ForgetMessage) (key : Key) → IsErr r → f ≡ Ok m
    → said_about r f key ≡ key_eq (named_of m.body).key key
about_forgetting (Err why) f m key bad e = ap (λ x. said_about (Err why) x key) e
about_forgetting (Ok n) f m key bad e = absurd (true≢false (sym bad))

concerns_said : (grammar : Grammar) (a : ForgetAnswer) (key : Key) → IsWritten grammar (answer_parcel a)
    → key_said grammar (reply_bytes grammar (Some a)) key ≡ parcel_concerns key (answer_parcel a)
concerns_said grammar (About_forgetting m) key written =
    let is = forget_is_read m written in
    about_forgetting (messages.reading_by grammar (forgets.spelling m)) (forgets.reading (forgets.spelling m)) m key (no_message grammar (forgets.spelling m) m is) is
concerns_said grammar (Of_log m) key written =
    ap (λ r. said_about r (forgets.reading (messages.spelling_by grammar m)) key) (message_is_read m written.0)

-- it is stored
stored : (bytes : List ℕ) (before after : KeptAround) → (bytes ≡ [] → ⊥) → StoresAnswer bytes before after → AddsMessage LoggerToServer bytes before after
stored [] before after some s = absurd (some refl)
stored (byte ∷ bytes) before after some s = s

record Answered (w : LastingWorld) (parcels : List Parcel) (before after : KeptAround) : Type 0 where
  pub stands : AroundStands (with_sent parcels w) after
  pub profile : after.profile ≡ before.profile
  pub ways : (gs : List law.Guest) → after.network.packets.ways ≡ before.network.packets.ways ++ map (way_of_lasting gs) parcels

its_direction : (gs : List law.Guest) (a : ForgetAnswer) → way_of_lasting gs (answer_parcel a) ≡ LoggerToServer
its_direction gs (About_forgetting m) = refl
its_direction gs (Of_log m) = refl

some_answered : (w : LastingWorld) (before after : KeptAround) (a : ForgetAnswer) → AroundStands w before → IsWritten (grammar_in w) (answer_parcel a)
    → AddsMessage LoggerToServer (reply_bytes (grammar_in w) (Some a)) before after → Answered w (answer_parcel a ∷ []) before after
some_answered w before after a s written m =
    let concerns : (key : Key) → parcel_concerns key (answer_parcel a) ≡ names m.about key = λ key.
    sym (m.is_about key ∙ (ap (λ p. key_said (grammar_of p) (reply_bytes (grammar_in w) (Some a)) key) s.profile ∙ concerns_said (grammar_in w) a key written)) in
    record {
      stands = subst (AroundStands (with_sent (answer_parcel a ∷ []) w)) (sym m.adds.rest)
          (record {
            profile = s.profile;
            guests = s.guests;
            turns = s.turns;
            log = s.log;
            ordered = s.ordered;
            gone = s.gone;
            network = adds (grammar_in w) before.network after.network w.sent LoggerToServer m.about (reply_bytes (grammar_in w) (Some a)) (answer_parcel a) m.adds.network (its_way a)
                (its_bytes (grammar_in w) a) concerns s.network;
          });
      profile = ap (λ (k : KeptAround). k.profile) m.adds.rest;
      ways = λ gs. ap (λ p. p.ways) m.adds.network.packets ∙ ap (λ (way : Way). before.network.packets.ways ++ way ∷ []) (sym (its_direction gs a));
    }

none_answered : (w : LastingWorld) (before after : KeptAround) → AroundStands w before → after ≡ before → Answered w [] before after
none_answered w before after s e =
    subst (Answered w [] before) (sym e)
    (record { stands = subst (λ x. AroundStands x before) (sym (nothing_sent w)) s; profile = refl; ways = λ gs. sym (append-nil before.network.packets.ways) })

answered : (w : LastingWorld) (before after : KeptAround) (answer : Option ForgetAnswer) (bytes : List ℕ) → AroundStands w before → bytes ≡ reply_bytes (grammar_in w) answer
    → AllByRecursion (IsWritten (grammar_in w)) (parcels_said answer) → StoresAnswer bytes before after → Answered w (parcels_said answer) before after
answered w before after None bytes s e written st = none_answered w before after s (subst (λ b. StoresAnswer b before after) e st)
answered w before after (Some a) bytes s e written st =
    some_answered w before after a s written.0
    (stored (reply_bytes (grammar_in w) (Some a)) before after (not_empty (grammar_in w) a written.0) (subst (λ b. StoresAnswer b before after) e st))

-- the log takes what bytes say, and its answer is stored
reports_said : (w : LastingWorld) (before mid after : KeptAround) (about : Option Key) (r : Result Message BadMsg) (f : Result ForgetMessage BadMsg) (out : List ℕ) → AroundStands w before
    → SendsWritten (grammar_in w) (LogReads (either_said r f) w) → ((key : Key) → names about key ≡ said_about r f key) → TakesAbout about (after_reading r f before.log) before mid
    → out ≡ reply_bytes (grammar_of (profile_of before.profile)) (answer_to_reading r f before.log) → StoresAnswer out mid after
    → AroundNext (LogReads (either_said r f) w) w before after
reports_said w before mid after about r f out s can is takes e st =
    let x : Taken (log_said (either_said r f) w) before mid = said_taken w before mid about r f s is takes in
    let now : LastingWorld = log_said (either_said r f) w in
    let left = said_left (either_said r f) w in
    let same : grammar_in now ≡ grammar_in w = ap grammar_of left.profile in
    let answer : Option ForgetAnswer = answer_to_reading r f w.log in
    let written : AllByRecursion (IsWritten (grammar_in w)) (parcels_said answer) = can (parcels_said answer) (with_sent (parcels_said answer) now) (log_goes r f w) in
    let a : Answered now (parcels_said answer) mid after =
    answered now mid after answer out x.stands
    (e ∙ (ap (λ l. reply_bytes (grammar_of (profile_of before.profile)) (answer_to_reading r f l)) s.log ∙ ap (λ h. reply_bytes h answer) (ap grammar_of s.profile ∙ sym same)))
    (subst (λ h. AllByRecursion (IsWritten h) (parcels_said answer)) (sym same) written) st in
    record {
      parcels = parcels_said answer;
      world = with_sent (parcels_said answer) now;
      goes = log_goes r f w;
      stands = a.stands;
      left = record { server = left.server; profile = left.profile; patience = left.patience; boot = left.boot; node = left.node };
      profile = a.profile ∙ x.profile;
      ways = a.ways now.guests ∙ ap (λ l. l ++ map (way_of_lasting now.guests) (parcels_said answer)) x.ways;
    }

pub reports_log : (bytes out : List ℕ) (before mid after : KeptAround) → LogTakes bytes before mid → out ≡ answer_of bytes before → StoresAnswer out mid after
    → ReportsLog bytes before after
reports_log bytes out before mid after t e st =
    λ w s can.
    let grammar : Grammar = grammar_of (profile_of before.profile) in
    let same : grammar ≡ grammar_in w = ap grammar_of s.profile in
    subst (λ g. AroundNext (LogReads (said_by g bytes) w) w before after) same
    (reports_said w before mid after t.about (messages.reading_by grammar bytes) (forgets.reading bytes) out s
    (subst (λ g. SendsWritten (grammar_in w) (LogReads (said_by g bytes) w)) (sym same) can) t.is_about t.takes e st)
