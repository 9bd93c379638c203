-- Each service's saved form is read back: proofs for the laws of the services.
use Rattle.std.proofs.Common.{◌≡◌, ℕ, zero, suc, ◌<◌, ◌≤◌, ◌==◌, ◌&&◌, Bool, true, false, List, [], ◌∷◌, ◌++◌, length, take, drop, Option, Some, None}
use Rattle.std.proofs.Common.{refl, sym, ap, subst, ◌∙◌, arith}
use Rattle.std.specs.Prelude.{nat_lt, nat_le, get_or, if◌then◌else◌}
use Rattle.std.specs.Option.{option_map}
use Rattle.std.specs.Int.{w64, to_be_bytes, from_be_bytes}
use Rattle.std.proofs.lemmas.Nat.{from_be_bytes-to_be_bytes_8, be_bytes_8}
use Rattle.std.proofs.lemmas.List.{length-take-le, take-append-drop, nil_from_length}
use Rattle.std.proofs.lemmas.Option.{none-some}
use Rattle.std.proofs.lemmas.Bool.{lt-ltb}
use Rattle.ft_io.proofs.Choices.{by_cases, same_some}
use Rattle.server_trait.specs.Service.{Machine, Run, silent, AreBytes, with_served, fold, fold_from}
use Rattle.server_trait.specs.Saved.{Writing, writing, IsReadBack, ReadsBack, HasOneForm}
use Rattle.sample_servers.specs.Line.{LineState, line_started, line_machine, line_form, is_unfinished, line_state_of}
use Rattle.sample_servers.specs.Transfer.{TransferState, held_bytes, transfer_started, transfer_machine, transfer_form, held_of, transfer_state_of}
use Rattle.sample_servers.specs.WrittenBytes.{IsLine, IsTransfer, run_kept, served_line, served_transfer, fresh_line, fresh_transfer, bytes_append, bytes_take}
use Rattle.sample_servers.specs.Lengths.{length-held_bytes-le}
use Rattle.sample_servers.specs.OneState.{empty_form, only_state}
use Rattle.sample_servers.specs.AnyService.{mapped, any_after, any_machine, any_form, any_state_of}
use Rattle.sample_servers.specs.Echo.{echo_started, echo_machine}
use Rattle.sample_servers.specs.Meter.{meter_started, meter_after}
use Rattle.sample_servers.specs.declared.any_service.AnyService.{AnyService}
use Rattle.sample_servers.specs.declared.any_service.AnyService.TheVariants as services
use Rattle.sample_servers.specs.declared.transfer.Held.{Held}
use Rattle.sample_servers.specs.declared.transfer.Held.TheVariants.{Nothing, One, Two, Three}

-- a run, with its state as one of another type
abbrev pub mapped_run : {A B : Type 0} → (A → B) → Run A → Run B
mapped_run to run = record { state = to run.state; output = run.output; closed = run.closed }

-- a service with one state is read back from no bytes
pub only_read_back : {State : Type 0} (service : Machine State) (state : State) → ((s : State) → s ≡ state)
    → ReadsBack service (writing empty_form (only_state state))
only_read_back service state only chunks given running = record {
  same = ap Some (sym (only (fold service chunks).state));
  short = omega arith;
  bytes = tt;
}

-- a choice between something and nothing that is something
pub when_some : {A : Type 0} (b : Bool) (x s : A) → (if b then Some x else None) ≡ Some s → (b ≡ true) × (Some x ≡ Some s)
when_some true x s same = (refl, same)
when_some false x s same = absurd (none-some s same)

pub only_one_form : {State : Type 0} (state : State) → HasOneForm (writing empty_form (only_state state))
only_one_form state bytes s given same =
    let empty = (when_some (length bytes == 0) state s same).0 in sym (nil_from_length bytes (grind arith))

-- bytes are bytes at each place
pub bytes_at : (bytes : List ℕ) → AreBytes bytes → (i : ℕ) → get_or bytes i 0 < 256
bytes_at [] given i = omega arith
bytes_at (x ∷ xs) given zero = given.0
bytes_at (x ∷ xs) given (suc i) = bytes_at xs given.1 i

pub bytes_of_64 : (n : ℕ) → AreBytes (to_be_bytes w64 n)
bytes_of_64 n =
    (omega arith, (omega arith, (omega arith, (omega arith, (omega arith, (omega arith, (omega arith, (omega arith, tt))))))))

unfinished_short : (line : List ℕ) → is_unfinished line ≡ true → length line < 1024
unfinished_short line unfinished = grind arith

line_back : (s : LineState) → IsLine s → IsReadBack (writing line_form line_state_of) s
line_back s line =
    let number : from_be_bytes w64 (to_be_bytes w64 s.finished) ≡ s.finished = from_be_bytes-to_be_bytes_8 s.finished line.number in
    let short = unfinished_short s.held line.unfinished in
    let long : nat_le 8 (length (line_form s)) ≡ true = grind arith in
    record {
      same = rw (long, line.unfinished, number) refl;
      short = omega arith;
      bytes = bytes_append (to_be_bytes w64 s.finished) s.held (bytes_of_64 s.finished) line.bytes;
    }

pub line_reads_back : ReadsBack line_machine (writing line_form line_state_of)
line_reads_back chunks given running = line_back (fold line_machine chunks).state (run_kept line_machine IsLine tt fresh_line served_line chunks given).1

line_same : (bytes : List ℕ) (s : LineState) → AreBytes bytes → 8 ≤ length bytes
    → Some (record { finished = from_be_bytes w64 (take 8 bytes); held = drop 8 bytes }) ≡ Some s → line_form s ≡ bytes
line_same bytes s given long same =
    let is : record { finished = from_be_bytes w64 (take 8 bytes); held = drop 8 bytes } ≡ s = same_some same in
    let front : to_be_bytes w64 (from_be_bytes w64 (take 8 bytes)) ≡ take 8 bytes =
    be_bytes_8 (take 8 bytes) (from_be_bytes w64 (take 8 bytes)) (length-take-le 8 bytes long) (bytes_at (take 8 bytes) (bytes_take 8 bytes given)) refl in
    ap line_form (sym is) ∙ (ap (λ front. front ++ drop 8 bytes) front ∙ take-append-drop 8 bytes)

pub line_one_form : HasOneForm (writing line_form line_state_of)
line_one_form bytes s given same =
    let there = when_some (nat_le 8 (length bytes)
    && is_unfinished (drop 8 bytes)) (record { finished = from_be_bytes w64 (take 8 bytes); held = drop 8 bytes }) s same in
    let long : 8 ≤ length bytes = let t = there.0 in grind arith in
    line_same bytes s given long there.1

held_back : (held : Held) → held_of (held_bytes held) ≡ Some held
held_back Nothing = refl
held_back (One a) = refl
held_back (Two a b) = refl
held_back (Three a b c) = refl

transfer_back : (s : TransferState) → IsTransfer s → IsReadBack (writing transfer_form transfer_state_of) s
transfer_back s transfer =
    let held = held_back s.held in
    let small : nat_lt s.place 251 ≡ true = lt-ltb s.place 251 transfer.place in
    let few = length-held_bytes-le s.held in
    record {
      same = rw (small, held) refl;
      short = omega arith;
      bytes = (let below = transfer.place in omega arith, transfer.bytes);
    }

pub transfer_reads_back : ReadsBack transfer_machine (writing transfer_form transfer_state_of)
transfer_reads_back chunks given running =
    transfer_back (fold transfer_machine chunks).state (run_kept transfer_machine IsTransfer tt fresh_transfer served_transfer chunks given).1

held_same : (bytes : List ℕ) (place : ℕ) (s : TransferState) → option_map (λ held. record { place = place; held = held }) (held_of bytes) ≡ Some s
    → transfer_form s ≡ place ∷ bytes
held_same [] place s same = ap transfer_form (sym (same_some same))
held_same (a ∷ []) place s same = ap transfer_form (sym (same_some same))
held_same (a ∷ b ∷ []) place s same = ap transfer_form (sym (same_some same))
held_same (a ∷ b ∷ c ∷ []) place s same = ap transfer_form (sym (same_some same))
held_same (a ∷ b ∷ c ∷ d ∷ bytes) place s same = absurd (none-some s same)

pub transfer_one_form : HasOneForm (writing transfer_form transfer_state_of)
transfer_one_form [] s given same = absurd (none-some s same)
transfer_one_form (place ∷ bytes) s given same =
    by_cases (nat_lt place 251)
    (λ small. held_same bytes place s (subst (λ b. (if b then option_map (λ held. record { place = place; held = held }) (held_of bytes) else None)
    ≡ Some s) small same))
    (λ large. absurd (none-some s (subst (λ b. (if b then option_map (λ held. record { place = place; held = held }) (held_of bytes) else None)
    ≡ Some s) large same)))

-- a service that does what another does, with its state as one of another type
mapped_fold : {A B : Type 0} (to : A → B) (service : Machine A) (other : Machine B)
    → ((s : A) (chunk : List ℕ) → other.after (to s) chunk ≡ mapped to (service.after s chunk))
    → (state : A) (output : List ℕ) (closed : Bool) (chunks : List (List ℕ))
    → fold_from other (record { state = to state; output = output; closed = closed }) chunks
    ≡ mapped_run to (fold_from service (record { state = state; output = output; closed = closed }) chunks)
mapped_fold to service other step state output closed [] = refl
mapped_fold to service other step state output true (chunk ∷ chunks) = mapped_fold to service other step state output true chunks
mapped_fold to service other step state output false (chunk ∷ chunks) =
    let served = service.after state chunk in
    ap (λ t. fold_from other (with_served (record { state = to state; output = output; closed = false }) t) chunks) (step state chunk)
    ∙ mapped_fold to service other step served.next (output ++ served.output) served.closed chunks

-- is read back where the other is
mapped_reads_back : {A B : Type 0} (to : A → B) (service : Machine A) (other : Machine B) (own : Writing A) (written : Writing B)
    → other.fresh ≡ to service.fresh → other.greeting ≡ service.greeting
    → ((s : A) (chunk : List ℕ) → other.after (to s) chunk ≡ mapped to (service.after s chunk))
    → ((s : A) → written.form (to s) ≡ own.form s) → ((bytes : List ℕ) → written.state_of bytes ≡ option_map to (own.state_of bytes))
    → ReadsBack service own → ReadsBack other written
mapped_reads_back to service other own written start greets step form state_of back chunks given running =
    let run : fold other chunks ≡ mapped_run to (fold service chunks) =
    (λ j. fold_from other (record { state = start j; output = greets j; closed = false }) chunks)
    ∙ mapped_fold to service other step service.fresh service.greeting false chunks in
    let s = (fold service chunks).state in
    let there : IsReadBack own s = back chunks given (sym (ap (λ r. r.closed) run) ∙ running) in
    subst (λ r. IsReadBack written r.state) (sym run) (record {
      same = ap written.state_of (form s) ∙ (state_of (own.form s) ∙ ap (option_map to) there.same);
      short = subst (λ bytes. length bytes ≤ 1100) (sym (form s)) there.short;
      bytes = subst AreBytes (sym (form s)) there.bytes;
    })

-- what is found by way of another service is the image of what it finds
mapped_same : {A B : Type 0} (to : A → B) (found : Option A) (t : B) (P : B → Type 0) → option_map to found ≡ Some t → ((s : A) → found ≡ Some s → P (to s))
    → P t
mapped_same to None t P same holds = absurd (none-some t same)
mapped_same to (Some s) t P same holds = subst P (same_some same) (holds s refl)

pub echo_reads_back : ReadsBack echo_machine (writing empty_form (only_state echo_started))
echo_reads_back = only_read_back echo_machine echo_started (λ s. refl)

pub meter_reads_back : ReadsBack (silent meter_started meter_after) (writing empty_form (only_state meter_started))
meter_reads_back = only_read_back (silent meter_started meter_after) meter_started (λ s. refl)

-- the machine and the forms of a service out of the four, by the three tests of its kind
abbrev pub chosen : Bool → Bool → Bool → AnyService
chosen a b c =
    if a then services.Line line_started
    else (if b then services.Transfer transfer_started else (if c then services.Meter meter_started else services.Echo echo_started))

abbrev pub chosen_state : Bool → Bool → Bool → List ℕ → Option AnyService
chosen_state a b c bytes =
    if a then option_map services.Line (line_state_of bytes)
    else (if b then option_map services.Transfer (transfer_state_of bytes)
    else (if c then option_map services.Meter (only_state meter_started bytes) else option_map services.Echo (only_state echo_started bytes)))

chosen_reads_back : (a b c : Bool) → ReadsBack (silent (chosen a b c) any_after) (writing any_form (chosen_state a b c))
chosen_reads_back true b c =
    mapped_reads_back services.Line line_machine (silent (services.Line line_started) any_after) (writing line_form line_state_of)
    (writing any_form (chosen_state true b c))
    refl refl (λ s chunk. refl) (λ s. refl) (λ bytes. refl) line_reads_back
chosen_reads_back false true c =
    mapped_reads_back services.Transfer transfer_machine (silent (services.Transfer transfer_started) any_after) (writing transfer_form transfer_state_of)
    (writing any_form (chosen_state false true c))
    refl refl (λ s chunk. refl) (λ s. refl) (λ bytes. refl) transfer_reads_back
chosen_reads_back false false true =
    mapped_reads_back services.Meter (silent meter_started meter_after) (silent (services.Meter meter_started) any_after)
    (writing empty_form (only_state meter_started))
    (writing any_form (chosen_state false false true)) refl refl (λ s chunk. refl) (λ s. refl) (λ bytes. refl) meter_reads_back
chosen_reads_back false false false =
    mapped_reads_back services.Echo echo_machine (silent (services.Echo echo_started) any_after) (writing empty_form (only_state echo_started))
    (writing any_form (chosen_state false false false)) refl refl (λ s chunk. refl) (λ s. refl) (λ bytes. refl) echo_reads_back

pub any_reads_back : (kind : ℕ) → ReadsBack (any_machine kind) (writing any_form (any_state_of kind))
any_reads_back kind = chosen_reads_back (kind == 2) (kind == 3) (kind == 4)

chosen_one_form : (a b c : Bool) → HasOneForm (writing any_form (chosen_state a b c))
chosen_one_form true b c bytes t given same =
    mapped_same services.Line (line_state_of bytes) t (λ t. any_form t ≡ bytes) same (λ s found. line_one_form bytes s given found)
chosen_one_form false true c bytes t given same =
    mapped_same services.Transfer (transfer_state_of bytes) t (λ t. any_form t ≡ bytes) same (λ s found. transfer_one_form bytes s given found)
chosen_one_form false false true bytes t given same =
    mapped_same services.Meter (only_state meter_started bytes) t (λ t. any_form t ≡ bytes) same (λ s found. only_one_form meter_started bytes s given found)
chosen_one_form false false false bytes t given same =
    mapped_same services.Echo (only_state echo_started bytes) t (λ t. any_form t ≡ bytes) same (λ s found. only_one_form echo_started bytes s given found)

pub any_one_form : (kind : ℕ) → HasOneForm (writing any_form (any_state_of kind))
any_one_form kind = chosen_one_form (kind == 2) (kind == 3) (kind == 4)
