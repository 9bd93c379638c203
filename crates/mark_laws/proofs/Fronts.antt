-- A mark that is held out, where it is awaited: the restart goes on as it would, had the log told what is below the mark in two messages.
use Rattle.std.proofs.Common.{◌≡◌, ⊎_elim, subst₂, le_of_eq, ℕ, ◌+◌, ◌≤◌, ◌<◌, ◌==◌, ◌&&◌, ◌||◌, ◌⊎◌, arith, Bool, true, false, not, refl, sym, ap, ◌∙◌, subst, true≢false, Option, Some, None, MatchOption, List, [], ◌∷◌, ◌++◌, length, take, sum, append_assoc}
use Rattle.std.specs.Prelude.{nat_lt, nat_le}
use Rattle.std.proofs.lemmas.Bool.{and_parts}
use Rattle.ft_io.specs.declared.Key.{Key}
use Rattle.ft_io.specs.Key.{key_eq}
use Rattle.ft_io.proofs.Choices.{some_if, if_true, if_none}
use Rattle.ft_io.proofs.Numbers.{equal_itself}
use Rattle.seq_arith.specs.Mark.{Mark, MarkBody, MarkMessage}
use Rattle.seq_arith.specs.Mark.MarkBody.{MarkMsg, MarkedMsg, AskMsg, HeldMsg}
use Rattle.seq_arith.specs.Message.{EntryHead, Message}
use Rattle.seq_arith.specs.Message.Body.{PartMsg, LensMsg}
use Rattle.server_trait.specs.Service.{Machine}
use Rattle.server_trait.specs.Saved.{Writing}
use Rattle.ft_model.specs.Lawful.{LawfulTurn, Continues as PlainContinues, asked, fetched_then}
use Rattle.ft_model.specs.Log.{Log, Entry, entry_of, head_of, may_follow}
use Rattle.ft_model.specs.Growth.{IsPrefix}
use Rattle.ft_model.specs.Masked.{RestartIsExact, Resumes, IsResumed, is_restarting}
use Rattle.ft_model.specs.Network.{Packet}
use Rattle.ft_model.specs.Network.Packet.{From_logger}
use Rattle.ft_model.specs.Node.{Node, Stage}
use Rattle.ft_model.specs.Node.Stage.{Asking, Fetching, Serving, Fenced}
use Rattle.ft_model.specs.Node.Input.{Message_comes, Tick_comes}
use Rattle.ft_model.specs.Restart.{Fetched, wanted, fetched_after, all_follow, lacks_read_bytes}
use Rattle.ft_model.specs.Restart.Wanted.{Its_bytes, Its_lengths}
use Rattle.ft_model.specs.World.{World}
use Rattle.ft_model.proofs.Asked.{StageAgrees}
use Rattle.ft_model.proofs.Faithful.{AnswerFits, prefix_length}
use Rattle.ft_model.specs.FetchedFronts.{AreFetched}
use Rattle.ft_model.proofs.Fetching.{AgreesWith}
use Rattle.ft_model.proofs.Fenced.{IsLogged}
use Rattle.ft_model.proofs.Happened.Happened.{server_turned}
use Rattle.ft_model.proofs.Keys.{finds_itself}
use Rattle.ft_model.proofs.Lists.{none_is_some, some_is, same_key, key_is, take_first, all_weaker}
use Rattle.ft_model.proofs.Refused.{BodySays}
use Rattle.ft_model.proofs.Services.{sum_append, sum_more}
use Rattle.ft_model.proofs.Unfenced.{NamesAtMost}
use Rattle.mark_laws.specs.MarkedLog.{has_closing}
use Rattle.mark_laws.specs.Marking.{Marking, Outgoing, without_marks}
use Rattle.mark_laws.specs.Front.{bytes_below, lengths_below}
use Rattle.mark_laws.specs.Restart.{may_have_mark, log_question, begun_on, mark_reported, mark_of_newest, mark_fits}
use Rattle.mark_laws.specs.Runs.{IsRunOf}
use Rattle.mark_laws.specs.MarkedNode.{Marker, MarkedNode, RestsMarked, so_far, Continues, FetchesMarked, marking_fetched}
use Rattle.mark_laws.proofs.Packets.{Sound, MayStand, with_packets, fewer, more}
use Rattle.mark_laws.proofs.Steps.{Stepped, went, last_under_way}
use Rattle.mark_laws.proofs.Turns.{At, TurnSteps, Proceeds, turned, plain_turn, rests, lawful_at, fits_stage, proceeds, new_fetched, AwaitsNewest, wants_lengths}

-- what is below a mark that is told: nothing, or the beginning of its entry, of which it is true
abbrev pub IsReportedFront : {State : Type 0} → Machine State → Writing State → Log → Key → Mark → (bytes lengths : List ℕ) → Type 0
IsReportedFront service writing log key m bytes lengths =
    ((bytes ≡ []) × (lengths ≡ [])) ⊎ ((e : Entry) × (entry_of key log ≡ Some e) × (bytes ≡ bytes_below m e) × (lengths ≡ lengths_below m e) × IsRunOf service writing e m)

-- reads of no closing read within the bytes follow one another
no_zero : (n : ℕ) (b : Bool) → (n == 0) || b ≡ false → (0 < n) × (b ≡ false)
no_zero n b h = (grind (arith, h), grind (arith, h))

may_be_next : (closing fin ends : Bool) (total n size : ℕ) → closing ≡ false → total + n ≤ size → 0 < n → (not closing && nat_le (total + n) size && (nat_lt 0 n || (fin && ends))) ≡ true
may_be_next closing fin ends total n size c h p = grind (arith, c, h, p)

closing_more : (lengths : List ℕ) (n : ℕ) → has_closing lengths ≡ false → 0 < n → has_closing (lengths ++ n ∷ []) ≡ false
closing_more [] n c p = last n p
  where
    last : (n : ℕ) → 0 < n → ((n == 0) || false) ≡ false
    last n p = grind (arith, p)
closing_more (x ∷ lengths) n c p =
    let two = no_zero x (has_closing lengths) c in first x (has_closing (lengths ++ n ∷ [])) two.0 (closing_more lengths n two.1 p)
  where
    first : (x : ℕ) (b : Bool) → 0 < x → b ≡ false → ((x == 0) || b) ≡ false
    first x b p h = grind (arith, p, h)

follow : (size : ℕ) (fin : Bool) (before later : List ℕ) → has_closing before ≡ false → has_closing later ≡ false → sum before + sum later ≤ size → all_follow size fin before later ≡ true
follow size fin before [] b m h = refl
follow size fin before (n ∷ later) b m h =
    let two = no_zero n (has_closing later) m in
    let rest : sum (n ∷ later) ≡ n + sum later = sum_more n later in
    let total : sum before + n ≤ size = omega (arith, h, rest) in
    let after : sum (before ++ n ∷ []) ≡ sum before + n = sum_append before n in
    both (may_follow size fin before n) (all_follow size fin (before ++ n ∷ []) later)
    (may_be_next (has_closing before) fin (sum before == size) (sum before) n size b total two.0)
    (follow size fin (before ++ n ∷ []) later (closing_more before n b two.0) two.1 (omega (arith, h, rest, after)))
  where
    both : (a b : Bool) → a ≡ true → b ≡ true → (a && b) ≡ true
    both a b p q = grind (arith, p, q)

-- what agrees with the log may be told to its own incarnation
reported_stands : {State : Type 0} (service : Machine State) (start u : World) (message : Message) (author : Key → List ℕ) → Sound service start u → message.boot ≡ u.log.boot → AgreesWith u.log.entries message.body
    → AnswerFits u.log message.body → NamesAtMost u.boot message.body → BodySays u.log message.body → MayStand service start u author (From_logger message)
reported_stands service start u message author s own agrees fits names says =
    let low = s.joint.fenced.log in
    record {
      boot = (omega (arith, own, low), λ c. le_of_eq own);
      quiet = λ n e r. tt;
      agrees = λ n e r b. agrees;
      fits = fits;
      reads = tt;
      speaks = tt;
      backed = tt;
      silent = λ k. refl;
      below = tt;
      near = tt;
      stale = names;
      own = tt;
      says = says;
      calls = tt;
      resets = tt;
      asks = λ b places. tt;
    }

-- it doesn't matter what a restarting server had fetched before the turn that ends the restart
resumes_same : {State : Type 0} (service : Machine State) (log : Log) (node : Node) (before stage : Stage) → Resumes service log (record node { stage = before }) stage → Resumes service log node stage
resumes_same service log node before (Serving opened places) r =
    all_weaker _ (λ e. e.done ≡ false → IsResumed service node places e) log.entries
    (λ e x live. let y = x live in record { point = y.point; sent = y.sent; lives = y.lives; turn = y.turn }) r
resumes_same service log node before Asking r = tt
resumes_same service log node before (Fetching count fetched) r = tt
resumes_same service log node before (Fenced newer) r = tt

exact_same : {State : Type 0} (service : Machine State) (log : Log) (before : Option Node) (node later : Node) (stage : Stage) → before ≡ Some node → is_restarting stage ≡ true
    → RestartIsExact service log (Some (record node { stage = stage })) (Some later) → RestartIsExact service log before (Some later)
exact_same service log before node later stage is restarting x =
    subst (λ n. RestartIsExact service log n (Some later)) (sym is) (λ r. resumes_same service log node stage later.stage (x restarting))

four_true : (a b c d : Bool) → a ≡ true → b ≡ true → c ≡ true → d ≡ true → (a && b && c && d) ≡ true
four_true a b c d p q r s = grind (arith, p, q, r, s)

three_hold : (a b c : Bool) → a ≡ true → b ≡ true → c ≡ true → (a && b && c) ≡ true
three_hold a b c p q r = grind (arith, p, q, r)

two_hold : (a b : Bool) → a ≡ true → b ≡ true → (a && b) ≡ true
two_hold a b p q = grind (arith, p, q)

within : (n m : ℕ) → n ≤ m → nat_le (0 + n) m ≡ true
within n m h = grind (arith, h)

above_none : (n : ℕ) → 0 < n → nat_lt 0 n ≡ true
above_none n h = grind (arith, h)

not_done : (done : Bool) (b : Bool) → (not done && b) ≡ true → not done ≡ true
not_done done b h = grind (arith, h)

-- all lengths below the mark come at once ..
lengths_got : (node : Node) (count : ℕ) (head : EntryHead) (earlier : List Fetched) (lengths : List ℕ) → may_have_mark head ≡ true → length lengths ≤ head.reads → has_closing lengths ≡ false → sum lengths ≤ head.length
    → fetched_then node (record { boot = node.boot; body = LensMsg head.key 0 lengths }) count (new_fetched head ∷ earlier) ≡ Some (record { head = head; bytes = []; lengths = lengths } ∷ earlier)
lengths_got node count head earlier lengths may few closing low =
    let body = LensMsg head.key 0 lengths in
    let fetched : List Fetched = new_fetched head ∷ earlier in
    if_true (node.boot == node.boot) (fetched_after (wanted count fetched) body fetched) None (equal_itself node.boot)
    ∙ (ap (λ w. fetched_after w body fetched) (wants_lengths count head earlier may)
    ∙ if_true (key_eq head.key head.key && 0 == 0 && nat_le (0 + length lengths) head.reads && all_follow head.length head.fin [] lengths)
    (Some (record { head = head; bytes = []; lengths = lengths } ∷ earlier)) None
    (four_true (key_eq head.key head.key) (0 == 0) (nat_le (0 + length lengths) head.reads) (all_follow head.length head.fin [] lengths) (key_is head.key) refl (within (length lengths) head.reads few)
    (follow head.length head.fin [] lengths refl closing (omega (arith, low)))))

-- .. then the bytes of these reads are missing ..
wants_bytes : (count : ℕ) (head : EntryHead) (earlier : List Fetched) (lengths : List ℕ) → may_have_mark head ≡ true → 0 < sum lengths
    → wanted count (record { head = head; bytes = []; lengths = lengths } ∷ earlier) ≡ Some (Its_bytes head.key 0)
wants_bytes count head earlier lengths may some =
    if_true (lacks_read_bytes (record { head = head; bytes = []; lengths = lengths })) (Some (Its_bytes head.key 0)) _
    (two_hold (not head.done) (nat_lt 0 (sum lengths)) (not_done head.done (not (head.reads == 0)) may) (above_none (sum lengths) some))

-- .. and these come at once
bytes_got : (node : Node) (count : ℕ) (head : EntryHead) (earlier : List Fetched) (bytes lengths : List ℕ) → may_have_mark head ≡ true → 0 < sum lengths → length bytes ≤ head.length
    → fetched_then node (record { boot = node.boot; body = PartMsg head.key 0 bytes }) count (record { head = head; bytes = []; lengths = lengths } ∷ earlier)
    ≡ Some (record { head = head; bytes = bytes; lengths = lengths } ∷ earlier)
bytes_got node count head earlier bytes lengths may some low =
    let body = PartMsg head.key 0 bytes in
    let fetched : List Fetched = record { head = head; bytes = []; lengths = lengths } ∷ earlier in
    if_true (node.boot == node.boot) (fetched_after (wanted count fetched) body fetched) None (equal_itself node.boot)
    ∙ (ap (λ w. fetched_after w body fetched) (wants_bytes count head earlier lengths may some)
    ∙ if_true (key_eq head.key head.key && 0 == 0 && nat_le (0 + length bytes) head.length) (Some (record { head = head; bytes = bytes; lengths = lengths } ∷ earlier)) None
    (three_hold (key_eq head.key head.key) (0 == 0) (nat_le (0 + length bytes) head.length) (key_is head.key) refl (within (length bytes) head.length low)))

-- where nothing is below the mark, the restart goes on as at a tick
empty_front : {State : Type 0} (by : Marker State) (start u : World) (node : MarkedNode) (count : ℕ) (head : EntryHead) (earlier : List Fetched) (marking : Key → Marking) (out : List Outgoing) (later : MarkedNode)
    → At by start u node → node.plain.stage ≡ Fetching count (new_fetched head ∷ earlier) → may_have_mark head ≡ true
    → Continues by node count (record { entries = new_fetched head ∷ earlier; awaits_mark = false }) marking (log_question node.plain.boot count (new_fetched head ∷ earlier)) out later
    → TurnSteps by start u out later
empty_front by start u node count head earlier marking out later at is may t =
    let now : List Fetched = new_fetched head ∷ earlier in
    let sent : List Packet = without_marks out in
    let g : Proceeds by.service node.plain count now out later = proceeds by node count now marking out later (wanted count now) refl t in
    let asks : (g.stage ≡ Fetching count now) × (sent ≡ asked node.plain (Some (Its_lengths head.key 0))) =
    subst (λ w. PlainContinues by.service node.plain count now w g.stage sent) (wants_lengths count head earlier may) g.fetches in
    record {
      stepped = subst (λ n. Stepped by.service start u sent (turned u n sent)) (sym g.plain)
          (plain_turn by start u node Tick_comes sent (record node.plain { stage = g.stage }) at tt
          (lawful_at by.service node.plain Tick_comes sent (Fetching count now) g.stage at.live refl is (asks.0, asks.1 ∙ ap (asked node.plain) (sym (wants_lengths count head earlier may)))));
      awaiting = λ e. absurd (true≢false (sym e ∙ g.awaits));
    }

-- what is below the mark comes in two messages that the log could tell
whole_front : {State : Type 0} (by : Marker State) (start u : World) (node : MarkedNode) (count : ℕ) (head : EntryHead) (earlier : List Fetched) (e : Entry) (bytes lengths : List ℕ) (marking : Key → Marking)
    (out : List Outgoing) (later : MarkedNode) → At by start u node → node.plain.stage ≡ Fetching count (new_fetched head ∷ earlier) → may_have_mark head ≡ true
    → u.log.boot ≡ node.plain.boot → entry_of head.key u.log ≡ Some e → head ≡ head_of e → IsPrefix bytes e.bytes → IsPrefix lengths e.lengths
    → length lengths ≤ head.reads → length bytes ≤ head.length → has_closing lengths ≡ false → sum lengths ≤ head.length → 0 < sum lengths
    → Continues by node count (record { entries = record { head = head; bytes = bytes; lengths = lengths } ∷ earlier; awaits_mark = false }) marking
    (log_question node.plain.boot count (record { head = head; bytes = bytes; lengths = lengths } ∷ earlier)) out later
    → TurnSteps by start u out later
whole_front by start u node count head earlier e bytes lengths marking out later at is may own found head_is of_bytes of_lengths few low closing all some t =
    let service = by.service in
    let sent : List Packet = without_marks out in
    let middle : List Fetched = record { head = head; bytes = []; lengths = lengths } ∷ earlier in
    let now : List Fetched = record { head = head; bytes = bytes; lengths = lengths } ∷ earlier in
    let first : Message = record { boot = node.plain.boot; body = LensMsg head.key 0 lengths } in
    let second : Message = record { boot = node.plain.boot; body = PartMsg head.key 0 bytes } in
    let asks : List Packet = asked node.plain (Some (Its_bytes head.key 0)) in
    let half : Node = record node.plain { stage = Fetching count middle } in
    let turn_one : LawfulTurn service node.plain (Message_comes first) asks half =
    lawful_at service node.plain (Message_comes first) asks (Fetching count (new_fetched head ∷ earlier)) (Fetching count middle) at.live (if_none (node.plain.boot == node.plain.boot) None refl) is
    (fits_stage service node.plain count (new_fetched head ∷ earlier) middle first (Fetching count middle) asks (lengths_got node.plain count head earlier lengths may few closing all)
    (subst (λ w. PlainContinues service node.plain count middle w (Fetching count middle) asks) (sym (wants_bytes count head earlier lengths may some)) (refl, refl))) in
    let u1 : World = with_packets u (u.packets ++ From_logger first ∷ []) in
    let s1 : Sound service start u1 =
    more service start u (From_logger first) at.sound (reported_stands service start u first at.sound.joint.author.author at.sound (sym own) (e, found, of_lengths) tt tt tt) in
    let step_one : Stepped service start u1 asks (turned u1 half asks) =
    went service at.small start u1 asks (turned u1 half asks) at.starts s1 (server_turned (Message_comes first) node.plain half (last_under_way u (From_logger first)) at.up turn_one refl) in
    let w1 : World = turned u1 half asks in
    let u2 : World = with_packets w1 (w1.packets ++ From_logger second ∷ []) in
    let s2 : Sound service start u2 =
    more service start w1 (From_logger second) step_one.sound (reported_stands service start w1 second step_one.sound.joint.author.author step_one.sound (sym own) (e, found, of_bytes) tt tt tt) in
    let g : Proceeds service node.plain count now out later = proceeds by node count now marking out later (wanted count now) refl t in
    let next : Node = record node.plain { stage = g.stage } in
    let turn_two : LawfulTurn service half (Message_comes second) sent next =
    lawful_at service half (Message_comes second) sent (Fetching count middle) g.stage refl (if_none (node.plain.boot == node.plain.boot) None refl) refl
    (fits_stage service half count middle now second g.stage sent (bytes_got half count head earlier bytes lengths may some low) g.fetches) in
    let step_two : Stepped service start u2 sent (turned u2 next sent) =
    went service at.small start u2 sent (turned u2 next sent) at.starts s2 (server_turned (Message_comes second) half next (last_under_way w1 (From_logger second)) refl turn_two refl) in
    let hs : List Packet = From_logger first ∷ (asks ++ From_logger second ∷ []) in
    let packets : ((((u.packets ++ From_logger first ∷ []) ++ asks) ++ From_logger second ∷ []) ++ sent) ≡ u.packets ++ (hs ++ sent) =
    append_assoc ((u.packets ++ From_logger first ∷ []) ++ asks) (From_logger second ∷ []) sent
    ∙ (append_assoc (u.packets ++ From_logger first ∷ []) asks (From_logger second ∷ sent) ∙ append_assoc u.packets (From_logger first ∷ []) (asks ++ From_logger second ∷ sent)) in
    let less : Sound service start (turned u next sent) =
    fewer service start (turned u next sent) u.packets hs sent (λ k. refl) (subst (λ ps. Sound service start (record u { node = Some next; packets = ps })) packets step_two.sound) in
    record {
      stepped = subst (λ n. Stepped service start u sent (turned u n sent)) (sym g.plain)
          (record { sound = less; acknowledged = step_two.acknowledged; restart = exact_same service u.log u.node node.plain next (Fetching count middle) at.up refl step_two.restart });
      awaiting = λ x. absurd (true≢false (sym x ∙ g.awaits));
    }

some_sum : (n : ℕ) (lengths : List ℕ) → has_closing (n ∷ lengths) ≡ false → 0 < sum (n ∷ lengths)
some_sum n lengths c =
    let two = no_zero n (has_closing lengths) c in let rest : sum (n ∷ lengths) ≡ n + sum lengths = sum_more n lengths in omega (arith, two.0, rest)

by_lengths : {State : Type 0} (by : Marker State) (start u : World) (node : MarkedNode) (count : ℕ) (head : EntryHead) (earlier : List Fetched) (e : Entry) (m : Mark) (bytes lengths : List ℕ) (marking : Key → Marking)
    (out : List Outgoing) (later : MarkedNode) → At by start u node → node.plain.stage ≡ Fetching count (new_fetched head ∷ earlier) → may_have_mark head ≡ true
    → u.log.boot ≡ node.plain.boot → entry_of head.key u.log ≡ Some e → head ≡ head_of e → bytes ≡ bytes_below m e → lengths ≡ lengths_below m e → IsRunOf by.service by.writing e m
    → Continues by node count (record { entries = record { head = head; bytes = bytes; lengths = lengths } ∷ earlier; awaits_mark = false }) marking
    (log_question node.plain.boot count (record { head = head; bytes = bytes; lengths = lengths } ∷ earlier)) out later
    → TurnSteps by start u out later
by_lengths by start u node count head earlier e m bytes [] marking out later at is may own found head_is bytes_are lengths_are run t =
    let none : m.length ≡ 0 = run.bytes ∙ ap sum (sym lengths_are) in
    let empty : bytes ≡ [] = bytes_are ∙ ap (λ n. take n e.bytes) none in
    empty_front by start u node count head earlier marking out later at is may
    (subst (λ l. Continues by node count (record { entries = record { head = head; bytes = l; lengths = [] } ∷ earlier; awaits_mark = false }) marking
    (log_question node.plain.boot count (record { head = head; bytes = l; lengths = [] } ∷ earlier)) out later) empty t)
by_lengths by start u node count head earlier e m bytes (n ∷ lengths) marking out later at is may own found head_is bytes_are lengths_are run t =
    let front : IsPrefix (n ∷ lengths) e.lengths = subst (λ l. IsPrefix l e.lengths) (sym lengths_are) (take_first m.reads e.lengths) in
    let of_bytes : IsPrefix bytes e.bytes = subst (λ l. IsPrefix l e.bytes) (sym bytes_are) (take_first m.length e.bytes) in
    let reads : length e.lengths ≡ head.reads = ap (λ (h : EntryHead). h.reads) (sym head_is) in
    let size : length e.bytes ≡ head.length = ap (λ (h : EntryHead). h.length) (sym head_is) in
    let closing : has_closing (n ∷ lengths) ≡ false = ap has_closing lengths_are ∙ run.reads_on in
    let total : sum (n ∷ lengths) ≤ length e.bytes = subst (λ l. sum l ≤ length e.bytes) (sym lengths_are) run.enough in
    let few : length (n ∷ lengths) ≤ length e.lengths = prefix_length (n ∷ lengths) e.lengths front in
    let low : length bytes ≤ length e.bytes = prefix_length bytes e.bytes of_bytes in
    whole_front by start u node count head earlier e bytes (n ∷ lengths) marking out later at is may own found head_is of_bytes front
    (subst (λ k. length (n ∷ lengths) ≤ k) reads few) (subst (λ k. length bytes ≤ k) size low) closing (subst (λ k. sum (n ∷ lengths) ≤ k) size total)
    (some_sum n lengths closing) t

by_newest : {State : Type 0} (by : Marker State) (start u : World) (node : MarkedNode) (count : ℕ) (fetched : List Fetched) (body : MarkBody) (m : Mark) (bytes lengths : List ℕ) (marking : Key → Marking)
    (out : List Outgoing) (later : MarkedNode) → At by start u node → node.plain.stage ≡ Fetching count fetched → AwaitsNewest (Fetching count fetched)
    → ((key : Key) (held : Mark) → body ≡ HeldMsg key held → IsReportedFront by.service by.writing u.log key held bytes lengths)
    → mark_of_newest by.writing body fetched ≡ Some m → FetchesMarked by node count (begun_on bytes lengths (so_far node fetched)) marking out later → TurnSteps by start u out later
by_newest by start u node count (f ∷ earlier) (HeldMsg key held) m bytes lengths marking out later at is awaits reported got t =
    let parts = some_if (key_eq key f.head.key && mark_fits by.writing f.head held) (Some held) m got in
    let same : key ≡ f.head.key = same_key key f.head.key (and_parts (key_eq key f.head.key) (mark_fits by.writing f.head held) parts.0).0 in
    let own : u.log.boot ≡ node.plain.boot = subst (IsLogged u.log.boot node.plain) is (at.sound.joint.fenced.node node.plain at.up).logged in
    let asked_is = (at.sound.joint.asked.node node.plain at.up (ap is_restarting is)).fetched in
    let agrees : (count ≡ length u.log.entries) × AreFetched u.log.entries (f ∷ earlier) = subst (StageAgrees u.log.entries) is asked_is in
    let e : Entry = agrees.1.0 in
    let head_is : f.head ≡ head_of e = agrees.1.2.head in
    let key_of_e : e.key ≡ f.head.key = ap (λ (h : EntryHead). h.key) (sym head_is) in
    let found : entry_of f.head.key u.log ≡ Some e = subst (λ k. entry_of k u.log ≡ Some e) key_of_e (finds_itself (λ x. x.key) u.log.entries (length earlier) e at.sound.joint.asked.distinct agrees.1.1) in
    let now_is : node.plain.stage ≡ Fetching count (new_fetched f.head ∷ earlier) = is ∙ ap (λ (x : Fetched). Fetching count (x ∷ earlier)) awaits.0 in
    ⊎_elim
    (λ none. empty_front by start u node count f.head earlier marking out later at now_is awaits.1
    (subst₂ (λ b l. Continues by node count (record { entries = record { head = f.head; bytes = b; lengths = l } ∷ earlier; awaits_mark = false }) marking
    (log_question node.plain.boot count (record { head = f.head; bytes = b; lengths = l } ∷ earlier)) out later) none.0 none.1 t))
    (λ front. let one : front.0 ≡ e = some_is front.0 e (sym front.1 ∙ (ap (λ k. entry_of k u.log) same ∙ found)) in
    by_lengths by start u node count f.head earlier e held bytes lengths marking out later at now_is awaits.1 own found head_is
    (front.2 ∙ ap (bytes_below held) one) (front.3 ∙ ap (lengths_below held) one) (subst (λ x. IsRunOf by.service by.writing x held) one front.4) t)
    (reported key held refl)
by_newest by start u node count [] (HeldMsg key held) m bytes lengths marking out later at is awaits reported got t = absurd awaits
by_newest by start u node count fetched (MarkMsg key held) m bytes lengths marking out later at is awaits reported got t = none_is_some m got
by_newest by start u node count fetched (MarkedMsg key reads) m bytes lengths marking out later at is awaits reported got t = none_is_some m got
by_newest by start u node count fetched (AskMsg key) m bytes lengths marking out later at is awaits reported got t = none_is_some m got

by_report : {State : Type 0} (by : Marker State) (start u : World) (node : MarkedNode) (count : ℕ) (fetched : List Fetched) (message : MarkMessage) (o : Option Mark) (bytes lengths : List ℕ)
    (out : List Outgoing) (later : MarkedNode) → At by start u node → node.plain.stage ≡ Fetching count fetched
    → ((key : Key) (held : Mark) → message.body ≡ HeldMsg key held → IsReportedFront by.service by.writing u.log key held bytes lengths)
    → mark_reported by.writing node.plain.boot message (so_far node fetched) ≡ o
    → MatchOption o (RestsMarked node out later) (λ m. FetchesMarked by node count (begun_on bytes lengths (so_far node fetched)) (marking_fetched message.body node.marking) out later)
    → TurnSteps by start u out later
by_report by start u node count fetched message None bytes lengths out later at is reported e t = rests by start u node out later at t
by_report by start u node count fetched message (Some m) bytes lengths out later at is reported e t =
    let parts = some_if (message.boot == node.plain.boot && node.awaits_mark) (mark_of_newest by.writing message.body fetched) m e in
    let awaits : node.awaits_mark ≡ true = (and_parts (message.boot == node.plain.boot) node.awaits_mark parts.0).1 in
    by_newest by start u node count fetched message.body m bytes lengths (marking_fetched message.body node.marking) out later at is (subst AwaitsNewest is (at.awaiting awaits)) reported parts.1 t

pub mark_fetched : {State : Type 0} (by : Marker State) (start u : World) (node : MarkedNode) (count : ℕ) (fetched : List Fetched) (message : MarkMessage) (bytes lengths : List ℕ)
    (out : List Outgoing) (later : MarkedNode) → At by start u node → node.plain.stage ≡ Fetching count fetched
    → ((key : Key) (held : Mark) → message.body ≡ HeldMsg key held → IsReportedFront by.service by.writing u.log key held bytes lengths)
    → MatchOption (mark_reported by.writing node.plain.boot message (so_far node fetched)) (RestsMarked node out later)
    (λ m. FetchesMarked by node count (begun_on bytes lengths (so_far node fetched)) (marking_fetched message.body node.marking) out later)
    → TurnSteps by start u out later
mark_fetched by start u node count fetched message bytes lengths out later at is reported t =
    by_report by start u node count fetched message (mark_reported by.writing node.plain.boot message (so_far node fetched)) bytes lengths out later at is reported refl t
