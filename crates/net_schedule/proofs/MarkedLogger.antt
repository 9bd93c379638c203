-- With marks: what the code's logger does with bytes that arrive is what the definitions' log with marks does.
use Rattle.std.proofs.Common.{◌≡◌, ◌∙◌, sym, ap, subst, refl, ℕ, true, false, true≢false, Option, Some, None, option_map, List, ◌++◌, map, Bool}
use Rattle.std.specs.Option.{option_to_list}
use Rattle.std.specs.Prelude.{Result, Ok, Err}
use Rattle.ft_io.specs.declared.Key.{Key}
use Rattle.seq_arith.specs.Mark.{MarkMessage}
use Rattle.seq_arith.specs.Message.{Message}
use Rattle.seq_arith.specs.MarkGrammar as marks
use Rattle.seq_arith.specs.MessageGrammar as messages
use Rattle.seq_arith.specs.declared.kinds.BadMsg.{BadMsg}
use Rattle.seq_arith.specs.declared.mark.BadMark.{BadMark}
use Rattle.tcp_rules.specs.Profile.{grammar_of}
use Rattle.tcp_rules.specs.Profiles.{profile_of}
use Rattle.ft_model.specs.Network.Packet.{To_server, To_client, To_logger, From_logger}
use Rattle.ft_model.specs.declared.way.Way.{Way}
use Rattle.ft_model.specs.declared.way.Way.TheVariants.{ServerToLogger, HeadToTail, TailToHead}
use Rattle.mark_laws.specs.MarkedLog.{answer_above}
use Rattle.mark_laws.specs.MarkedLog.AnyMessage.{Of_log}
use Rattle.mark_store.specs.Bytes.{after_bytes_by, after_reading, reply_to_by, reply_to_reading}
use Rattle.mark_store.specs.Refinement.{TrimmedAtMarks, IsLeftOfMarked}
use Rattle.mark_laws.specs.MarkedNode.{Marker}
use Rattle.mark_laws.specs.MarkedWorld.{Parcel, MarkedWorld, LogReads, ComesAs, answered_as, either_said, said_by}
use Rattle.mark_laws.specs.MarkedWorld.Parcel.{Usual, Mark_sent, Mark_answered}
use Rattle.schedule_network.specs.StoredPackets.{Carried, with_answer}
use Rattle.net_schedule.specs.Delivery.{with_logs}
use Rattle.schedule_network.specs.Loggers.{Loggers}
use Rattle.schedule_network.specs.FullLog.{StoreAndLog, AreAt, HasDistinctKeys}
use Rattle.schedule_network.specs.Logs.{ReceivesIn, keepers_in, log_in}
use Rattle.schedule_network.specs.Logs.Keepers.{Single, Paired, With_marks}
use Rattle.net_schedule.specs.Refinement.{Kept}
use Rattle.net_schedule.specs.MarkedRefinement.{MarkedWorldStands, MarkedProceeds, way_of_parcel}
use Rattle.schedule_network.specs.declared.logs.Logs.{Logs}
use Rattle.schedule_network.specs.declared.logs.Logs.TheVariants.{One, Two, Marked}
use Rattle.net_schedule.proofs.MarkedParcels.{reply_after}

-- the log reads what bytes say, and sends its answer
above_as : (o : Option Message) → map answered_as (option_to_list (option_map Of_log o)) ≡ map Usual (option_to_list (option_map From_logger o))
above_as None = refl
above_as (Some message) = refl

read_goes : (before : MarkedWorld) (r : Result Message BadMsg) (q : Result MarkMessage BadMark)
    → LogReads (either_said r q) before (map answered_as (option_to_list (reply_to_reading r q before.log)))
    (record before { log = after_reading r q before.log; parcels = before.parcels ++ map answered_as (option_to_list (reply_to_reading r q before.log)) })
read_goes before (Ok message) q = (above_as (answer_above before.log message), refl)
read_goes before (Err bad) (Ok message) = (refl, refl)
read_goes before (Err bad) (Err worse) = (refl, refl)

-- a way that leads to the logger
abbrev is_to_logger : Way → Bool
is_to_logger ServerToLogger = true
is_to_logger _ = false

module _ {State : Type 0} (by : Marker State) (w w' : Kept State) (v : MarkedWorld) (st : MarkedWorldStands by w v) where
  logger_goes : (after : StoreAndLog) (sent : Carried) (bytes : List ℕ) → AreAt after (after_bytes_by (grammar_of v.profile) bytes v.log) → sent ≡ with_answer w.packets (reply_to_by (grammar_of v.profile) bytes v.log)
      → w' ≡ record w { log = after.full_log; keepers = With_marks after.store; packets = sent } → MarkedProceeds by (LogReads (said_by (grammar_of v.profile) bytes) v) v w'
  logger_goes after sent bytes at answered e =
      let new : List Parcel = map answered_as (option_to_list (reply_to_reading (messages.reading_by (grammar_of v.profile) bytes) (marks.reading bytes) v.log)) in
      subst (MarkedProceeds by (LogReads (said_by (grammar_of v.profile) bytes) v) v) (sym e)
      (record {
        sent = map answered_as (option_to_list (reply_to_reading (messages.reading_by (grammar_of v.profile) bytes) (marks.reading bytes) v.log));
        world = record v { log = after_bytes_by (grammar_of v.profile) bytes v.log; parcels = v.parcels ++ map answered_as (option_to_list (reply_to_reading (messages.reading_by (grammar_of v.profile) bytes) (marks.reading bytes) v.log)) };
        goes = read_goes v (messages.reading_by (grammar_of v.profile) bytes) (marks.reading bytes);
        stands = record {
          actors = record { server = st.actors.server; profile = st.actors.profile; keys = st.actors.keys; clients = st.actors.clients; boot = st.actors.boot; runs = st.actors.runs };
          node = st.node;
          both = after;
          keepers = refl;
          full_log = refl;
          log = at.full_log;
          at = at;
          packets = answered ∙ reply_after (grammar_of v.profile) w.keys w.packets v.parcels (reply_to_reading (messages.reading_by (grammar_of v.profile) bytes) (marks.reading bytes) v.log) st.packets;
          every = st.every;
          marks = st.marks;
        };
        grew = refl;
      })

  by_parcel : (parcel : Parcel) (bytes : List ℕ) → ServerToLogger ≡ way_of_parcel w.keys parcel → MarkedProceeds by (LogReads (said_by (grammar_of v.profile) bytes) v) v w' → MarkedProceeds by (ComesAs by parcel bytes v) v w'
  by_parcel (Usual (To_logger message)) bytes is g = g
  by_parcel (Mark_sent message) bytes is g = g
  by_parcel (Usual (To_server segment)) bytes is g = absurd (true≢false (ap is_to_logger is))
  by_parcel (Usual (To_client segment)) bytes is g = absurd (true≢false (ap is_to_logger is))
  by_parcel (Usual (From_logger message)) bytes is g = absurd (true≢false (ap is_to_logger is))
  by_parcel (Mark_answered message) bytes is g = absurd (true≢false (ap is_to_logger is))

  -- a logger with marks is no other
  not_one : {P : Type 0} (store : TrimmedAtMarks) → Single ≡ With_marks store → P
  not_one store e = absurd (cc)

  not_two : {P : Type 0} (l : Loggers) (store : TrimmedAtMarks) → Paired l ≡ With_marks store → P
  not_two l store e = absurd (cc)

  same_store : (a b : TrimmedAtMarks) → With_marks a ≡ With_marks b → a ≡ b
  same_store a b e = cc

  pub brings_marked : (logs now : Logs) (sent : Carried) (parcel : Parcel) (bytes : List ℕ) → HasDistinctKeys v.log → w.log ≡ log_in logs → w.keepers ≡ keepers_in logs
      → ServerToLogger ≡ way_of_parcel w.keys parcel → ReceivesIn (grammar_of (profile_of w.profile)) logs ServerToLogger bytes w.packets now sent → w' ≡ with_logs w (now, sent)
      → MarkedProceeds by (ComesAs by parcel bytes v) v w'
  brings_marked (One log) now sent parcel bytes d full_log are is receipt e = not_one st.both.store (sym are ∙ st.keepers)
  brings_marked (Two l) now sent parcel bytes d full_log are is receipt e = not_two l st.both.store (sym are ∙ st.keepers)
  brings_marked (Marked both) now sent parcel bytes d full_log are is reported e =
      let receipt : ReceivesIn (grammar_of v.profile) (Marked both) ServerToLogger bytes w.packets now sent =
      subst (λ p. ReceivesIn (grammar_of p) (Marked both) ServerToLogger bytes w.packets now sent) st.actors.profile reported in
      let at : AreAt both v.log = record {
        left = subst (λ s. IsLeftOfMarked s v.log) (sym (same_store both.store st.both.store (sym are ∙ st.keepers))) st.at.left;
        full_log = sym full_log ∙ st.log;
      } in
      let goes : MarkedProceeds by (LogReads (said_by (grammar_of v.profile) bytes) v) v w' =
      logger_goes receipt.0 sent bytes (receipt.2.log v.log at d) (receipt.2.sent v.log at d) (e ∙ ap (λ x. with_logs w (x, sent)) receipt.1) in
      by_parcel parcel bytes is goes

-- no parcel goes between two loggers
abbrev is_between : Way → Bool
is_between HeadToTail = true
is_between TailToHead = true
is_between _ = false

outside : (keys : List Key) (parcel : Parcel) → is_between (way_of_parcel keys parcel) ≡ false
outside keys (Usual (To_server segment)) = refl
outside keys (Usual (To_client segment)) = refl
outside keys (Usual (To_logger message)) = refl
outside keys (Usual (From_logger message)) = refl
outside keys (Mark_sent message) = refl
outside keys (Mark_answered message) = refl

pub no_marked_between : {P : Type 0} (keys : List Key) (parcel : Parcel) (way : Way) → is_between way ≡ true → way ≡ way_of_parcel keys parcel → P
no_marked_between keys parcel way between e = absurd (true≢false (sym between ∙ (ap is_between e ∙ outside keys parcel)))
