-- The log takes bytes, in the code and in the world of the definitions: a message of the log takes no entry out, and of one about forgetting the entry that it has
-- recycled is told.
use Rattle.std.proofs.Common.{◌≡◌, ◌∙◌, true≢false, sym, ap, subst, refl, Option, None, Some, List, [], ◌∷◌, ◌++◌, map}
use Rattle.std.specs.Prelude.{Result, Ok, Err}
use Rattle.std.specs.Option.{option_to_list}
use Rattle.ft_io.specs.declared.Key.{Key}
use Rattle.ft_io.specs.Key.{key_eq}
use Rattle.seq_arith.specs.Message.{Message}
use Rattle.seq_arith.specs.declared.kinds.BadMsg.{BadMsg}
use Rattle.tcp_rules.specs.Profiles.{profile_of}
use Rattle.ft_model.specs.Growth.{logged_lengths}
use Rattle.ft_model.specs.Log.{Log, Entry, log_after, entry_of}
use Rattle.ft_model.proofs.Grows.{log_grows, found_later}
use Rattle.ft_model.proofs.Lists.{none_is_some, same_key, key_is}
use Rattle.long_laws.specs.Forgetting.{ForgetMessage, named_of, after_forget}
use Rattle.long_laws.specs.QuarantineWorld.{recycled_by}
use Rattle.long_laws.specs.Snapshot.{IsOrdered}
use Rattle.forget_store.specs.AnyMessage.{AnyMessage as any}
use Rattle.forget_store.specs.Replies.{after_reading}
use Rattle.forget_store.proofs.AnyLogs.{each_ordered}
use Rattle.lasting_laws.specs.LastingWorld.{LastingWorld, Said, with_recycled, gone_from, grammar_in, either_said}
use Rattle.lasting_laws.specs.LastingWorld.Said.{Says, Says_of_forgetting, Says_nothing}
use Rattle.lasting_world.specs.Abouts.{names, said_about}
use Rattle.lasting_world.specs.Around.{KeptAround, AroundStands, IsServerLeft}
use Rattle.lasting_world.specs.GoneEntries.{GoneStands, AllGoneStand, IsEntryToGo}
use Rattle.lasting_world.specs.Guests.{GuestsStand}
use Rattle.lasting_world.specs.LogTurns.{Recycles, RecyclesUnless, RecyclesGone, TakesAbout, with_log}
use Rattle.lasting_world.specs.declared.gone.GoneEntry.{GoneEntry}
use Rattle.lasting_world.proofs.Dropped.{DroppedEntry, dropped_is}
use Rattle.lasting_world.proofs.Networks.{loses}
use Rattle.lasting_world.proofs.Visits.{one_there, gone_stand, gone_turns}

-- the entry that was there before a message is recycled if none is there after it
pub gone_as : (key : Key) (had has : Option Entry) (gone : GoneEntry) (before after : KeptAround) → IsEntryToGo (Some gone) had → RecyclesUnless has key gone before after
    → RecyclesGone key had has before after
gone_as key None has gone before after is r = absurd is
gone_as key (Some e) None gone before after is r = (gone, is, r)
gone_as key (Some e) (Some other) gone before after is r = r

pub none_gone : (key : Key) (had has : Option Entry) (before after : KeptAround) → IsEntryToGo None had → after ≡ before → RecyclesGone key had has before after
none_gone key None has before after is same = same
none_gone key (Some e) has before after is same = absurd is

-- no entry that was there is there no more
unrecycled : (key : Key) (had has : Option Entry) (before after : KeptAround) → ((e : Entry) → had ≡ Some e → (f : Entry) × (has ≡ Some f)) → RecyclesGone key had has before after
    → after ≡ before
unrecycled key None has before after stays r = r
unrecycled key (Some e) (Some other) before after stays r = r
unrecycled key (Some e) None before after stays r = let later = stays e refl in none_is_some later.0 later.1

kept_log : (about : Option Key) (log : Log) (before after : KeptAround)
    → ((key : Key) (e : Entry) → entry_of key before.log ≡ Some e → (f : Entry) × (entry_of key log ≡ Some f)) → TakesAbout about log before after → after ≡ with_log log before
kept_log (Some key) log before after stays t = unrecycled key (entry_of key before.log) (entry_of key log) (with_log log before) after (stays key) t
kept_log None log before after stays t = t

-- the entry that was there is there no more
recycled_one : (key : Key) (had has : Option Entry) (e : Entry) (before after : KeptAround) → had ≡ Some e → has ≡ None → RecyclesGone key had has before after
    → (gone : GoneEntry) × GoneStands gone e × Recycles key gone before after
recycled_one key None has e before after found none r = none_is_some e found
recycled_one key (Some x) (Some other) e before after found none r = none_is_some other (sym none)
recycled_one key (Some x) None e before after found none r =
    subst (λ o. RecyclesGone key o None before after) found r

one_more : (now : List GoneEntry) (es : List Entry) (gone : GoneEntry) (e : Entry) → AllGoneStand now es → GoneStands gone e → AllGoneStand (now ++ gone ∷ []) (es ++ e ∷ [])
one_more [] [] gone e s g = (g, tt)
one_more (x ∷ now) (y ∷ es) gone e s g = (s.0, one_more now es gone e s.1 g)
one_more [] (y ∷ es) gone e s g = absurd s
one_more (x ∷ now) [] gone e s g = absurd s

-- the world after the log has taken bytes, before its answer is sent
abbrev pub log_said : Said → LastingWorld → LastingWorld
log_said (Says message) w = record w { log = log_after w.log message }
log_said (Says_of_forgetting message) w = record (with_recycled (recycled_by message w.log) w) { log = after_forget w.log message }
log_said Says_nothing w = w

pub record Taken (w : LastingWorld) (before after : KeptAround) : Type 0 where
  pub stands : AroundStands w after
  pub profile : after.profile ≡ before.profile
  pub ways : after.network.packets.ways ≡ before.network.packets.ways

log_changes : (w : LastingWorld) (before after : KeptAround) (log now : Log) → AroundStands w before → log ≡ now → IsOrdered now → after ≡ with_log log before
    → Taken (record w { log = now }) before after
log_changes w before after log now s e o is =
    subst (Taken (record w { log = now }) before) (sym is)
    (record { stands = record { profile = s.profile; guests = s.guests; turns = s.turns; log = e; ordered = o; gone = s.gone; network = s.network }; profile = refl; ways = refl })

recycled_taken : (w : LastingWorld) (before after : KeptAround) (key : Key) (e : Entry) (log now : Log) → AroundStands w before → entry_of key w.log ≡ Some e → log ≡ now → IsOrdered now
    → entry_of key now ≡ None → RecyclesGone key (entry_of key before.log) (entry_of key log) (with_log log before) after
    → Taken (record (with_recycled (Some key) w) { log = now }) before after
recycled_taken w before after key e log now s found same o none t =
    let r : (gone : GoneEntry) × GoneStands gone e × Recycles key gone (with_log log before) after =
    recycled_one key (entry_of key before.log) (entry_of key log) e (with_log log before) after (ap (entry_of key) s.log ∙ found) (ap (entry_of key) same ∙ none) t in
    let x : Recycles key r.0 (with_log log before) after = r.2 in
    record {
      stands = record {
        profile = ap profile_of x.profile ∙ s.profile;
        guests = subst (λ gs. GuestsStand gs (map (gone_from key (logged_lengths key w.log)) w.guests)) (sym (x.guests (one_there key before.guests w.guests s.guests s.turns)))
            (gone_stand key (logged_lengths key w.log) before.guests w.guests s.guests);
        turns = gone_turns key (logged_lengths key w.log) w.guests s.turns;
        log = x.log ∙ same;
        ordered = o;
        gone = subst (λ es. AllGoneStand es (w.recycled ++ option_to_list (entry_of key w.log))) (sym x.gone)
            (subst (λ o. AllGoneStand (before.gone ++ r.0 ∷ []) (w.recycled ++ option_to_list o)) (sym found) (one_more before.gone w.recycled r.0 e s.gone r.1));
        network = loses (grammar_in w) key before.network after.network w.sent x.network s.network;
      };
      profile = x.profile;
      ways = ap (λ p. p.ways) x.network.packets;
    }

-- a message of the log
message_taken : (w : LastingWorld) (before after : KeptAround) (about : Option Key) (m : Message) → AroundStands w before → TakesAbout about (log_after before.log m) before after
    → Taken (record w { log = log_after w.log m }) before after
message_taken w before after about m s t =
    log_changes w before after (log_after before.log m) (log_after w.log m) s (ap (λ l. log_after l m) s.log) (each_ordered w.log (any.Usual m ∷ []) s.ordered)
    (kept_log about (log_after before.log m) before after
    (λ key e found. let later = found_later key before.log.entries (log_after before.log m).entries e (log_grows before.log m).entries found in (later.0, later.1)) t)

-- one about forgetting, which names one key
is_named : (about : Option Key) (named : Key) → ((key : Key) → names about key ≡ key_eq named key) → about ≡ Some named
is_named (Some key) named is = ap Some (same_key key named (is named ∙ key_is named))
is_named None named is = absurd (true≢false (sym (is named ∙ key_is named)))

forget_taken : (w : LastingWorld) (before after : KeptAround) (about : Option Key) (m : ForgetMessage) → AroundStands w before
    → ((key : Key) → names about key ≡ key_eq (named_of m.body).key key) → TakesAbout about (after_forget before.log m) before after
    → Taken (record (with_recycled (recycled_by m w.log) w) { log = after_forget w.log m }) before after
forget_taken w before after about m s is t = by_recycled (recycled_by m w.log) refl
  where
    named : Key
    named = (named_of m.body).key

    takes : TakesAbout (Some named) (after_forget before.log m) before after
    takes = subst (λ a. TakesAbout a (after_forget before.log m) before after) (is_named about named is) t

    same : after_forget before.log m ≡ after_forget w.log m
    same = ap (λ l. after_forget l m) s.log

    ordered : IsOrdered (after_forget w.log m)
    ordered = each_ordered w.log (any.Forgetting m ∷ []) s.ordered

    by_recycled : (o : Option Key) → recycled_by m w.log ≡ o → Taken (record (with_recycled o w) { log = after_forget w.log m }) before after
    by_recycled None e =
        let unchanged : after_forget before.log m ≡ before.log = same ∙ (dropped_is m w.log s.ordered.distinct None e ∙ sym s.log) in
        log_changes w before after (after_forget before.log m) (after_forget w.log m) s same ordered
        (kept_log (Some named) (after_forget before.log m) before after (λ key x found. (x, ap (entry_of key) unchanged ∙ found)) takes)
    by_recycled (Some key) e =
        let d : DroppedEntry named key (after_forget w.log m) w.log = dropped_is m w.log s.ordered.distinct (Some key) e in
        subst (λ k. Taken (record (with_recycled (Some k) w) { log = after_forget w.log m }) before after) d.named_is
        (recycled_taken w before after named d.entry (after_forget before.log m) (after_forget w.log m) s d.found same ordered d.none takes)

-- whatever the bytes say
pub said_taken : (w : LastingWorld) (before after : KeptAround) (about : Option Key) (r : Result Message BadMsg) (f : Result ForgetMessage BadMsg) → AroundStands w before
    → ((key : Key) → names about key ≡ said_about r f key) → TakesAbout about (after_reading r f before.log) before after → Taken (log_said (either_said r f) w) before after
said_taken w before after about (Ok m) f s is t = message_taken w before after about m s t
said_taken w before after about (Err why) (Ok m) s is t = forget_taken w before after about m s is t
said_taken w before after about (Err why) (Err other) s is t =
    log_changes w before after before.log w.log s s.log s.ordered (kept_log about before.log before after (λ key e found. (e, found)) t)

-- the server isn't touched
pub said_left : (said : Said) (w : LastingWorld) → IsServerLeft w (log_said said w)
said_left (Says m) w = record { server = refl; profile = refl; patience = refl; boot = refl; node = refl }
said_left (Says_of_forgetting m) w = by_recycled (recycled_by m w.log)
  where
    by_recycled : (o : Option Key) → IsServerLeft w (record (with_recycled o w) { log = after_forget w.log m })
    by_recycled None = record { server = refl; profile = refl; patience = refl; boot = refl; node = refl }
    by_recycled (Some key) = record { server = refl; profile = refl; patience = refl; boot = refl; node = refl }
said_left Says_nothing w = record { server = refl; profile = refl; patience = refl; boot = refl; node = refl }
