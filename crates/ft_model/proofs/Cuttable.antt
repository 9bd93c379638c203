-- The lengths of the reads that a log keeps cut the bytes that it keeps: the uncrashed server is asked only for what it has.
use Rattle.std.proofs.Common.{◌≡◌, ℕ, ◌+◌, ◌-◌, ◌≤◌, true, false, ◌==◌, ◌&&◌, ◌||◌, not, nat_le, nat_lt, sym, ap, subst, arith, List, [], ◌∷◌, ◌++◌, length, drop, map, sum, length-append, if◌then◌else◌}
use Rattle.std.proofs.lemmas.List.Sums.{sum_by_push}
use Rattle.std.specs.List.{AllByRecursion, list_any}
use Rattle.std.proofs.lemmas.Bool.{and_parts, or_parts}
use Rattle.ft_io.specs.declared.Key.{Key}
use Rattle.ft_io.specs.Key.{key_eq}
use Rattle.seq_arith.specs.Message.{Numbers, Part, Body, Message, is_answer}
use Rattle.seq_arith.specs.Message.Body.{OpenMsg, DataMsg, ReadMsg, DoneMsg}
use Rattle.server_trait.specs.Service.{Machine, EndsAtZero, CanCut}
use Rattle.ft_model.specs.Log.{Log, Entry, new_entry, with_bytes, with_its_fin, with_part, may_follow, is_next_read, with_read, with_body, is_hello, log_after}
use Rattle.ft_model.specs.Network.{Packet}
use Rattle.ft_model.specs.World.{World, Moment, Joint, world_after}
use Rattle.ft_model.proofs.Happened.{Happened, holds_after}
use Rattle.ft_model.proofs.Happened.Happened.{log_received, client_received, client_moved, server_turned, server_booted, server_down}
use Rattle.ft_io.proofs.Booleans.{not_true}
use Rattle.ft_io.proofs.Choices.{holds_if}

abbrev pub IsCut : Entry → Type 0
IsCut e = CanCut e.bytes e.lengths

abbrev pub AreCut : Log → Type 0
AreCut log = AllByRecursion IsCut log.entries

-- one more length may follow where none so far is the closing one
ends_push : (ns : List ℕ) (n : ℕ) → list_any (λ k. k == 0) ns ≡ false → EndsAtZero (ns ++ n ∷ [])
ends_push [] n e = tt
ends_push (m ∷ []) n e =
    let parts = or_parts (m == 0) (list_any (λ k. k == 0) []) e in
    ((λ z. grind (arith, parts, z)), tt)
ends_push (m ∷ k ∷ ns) n e =
    let parts = or_parts (m == 0) (list_any (λ k. k == 0) (k ∷ ns)) e in
    ((λ z. grind (arith, parts.0, z)), ends_push (k ∷ ns) n parts.1)

cut_longer : (e : Entry) (bytes : List ℕ) → length e.bytes ≤ length bytes → IsCut e → CanCut bytes e.lengths
cut_longer e bytes h c =
    let enough : sum e.lengths ≤ length e.bytes = c.enough in
    record { enough = omega arith; ends = c.ends }

bytes_cut : (part : Part) (e : Entry) → IsCut e → IsCut (with_bytes part e)
bytes_cut part e c =
    holds_if IsCut (e.fin || nat_lt (length e.bytes) part.offset) e _ (λ t. c)
    (λ t. let total = length-append e.bytes (drop (length e.bytes - part.offset) part.bytes) in
    cut_longer e (e.bytes ++ drop (length e.bytes - part.offset) part.bytes) (omega (arith, total)) c)

fin_cut : (part : Part) (e : Entry) → IsCut e → IsCut (with_its_fin part e)
fin_cut part e c = holds_if IsCut (part.fin && part.offset + length part.bytes == length e.bytes) _ e (λ t. record { enough = c.enough; ends = c.ends }) (λ t. c)

part_cut : (part : Part) (e : Entry) → IsCut e → IsCut (with_part part e)
part_cut part e c =
    let d : IsCut (with_its_fin part (with_bytes part e)) = fin_cut part (with_bytes part e) (bytes_cut part e c) in
    record { enough = d.enough; ends = d.ends }

read_cut : (index n : ℕ) (e : Entry) → IsCut e → IsCut (with_read index n e)
read_cut index n e c =
    holds_if IsCut (is_next_read e index n) _ e
    (λ t. let follows : may_follow (length e.bytes) e.fin e.lengths n ≡ true = (and_parts (index == length e.lengths) (may_follow (length e.bytes) e.fin e.lengths n) t).1 in
    let parts = and_parts (not (list_any (λ k. k == 0) e.lengths) && nat_le (sum e.lengths + n) (length e.bytes)) _ follows in
    let first = and_parts (not (list_any (λ k. k == 0) e.lengths)) (nat_le (sum e.lengths + n) (length e.bytes)) parts.0 in
    let none_zero : list_any (λ k. k == 0) e.lengths ≡ false = not_true _ first.0 in
    let fits : sum e.lengths + n ≤ length e.bytes = grind (arith, first.1) in
    record { enough = subst (λ s. s ≤ length e.bytes) (sym (sum_by_push (λ k. k) e.lengths n)) fits; ends = ends_push e.lengths n none_zero })
    (λ t. c)

changed_cut : (key : Key) (change : Entry → Entry) (es : List Entry) → ((e : Entry) → IsCut e → IsCut (change e)) → AllByRecursion IsCut es
    → AllByRecursion IsCut (map (λ e. if key_eq e.key key then change e else e) es)
changed_cut key change [] g a = tt
changed_cut key change (e ∷ es) g a = (holds_if IsCut (key_eq e.key key) (change e) e (λ t. g e a.0) (λ t. a.0), changed_cut key change es g a.1)

more_cut : (es : List Entry) (n : Numbers) → AllByRecursion IsCut es → AllByRecursion IsCut (es ++ new_entry n ∷ [])
more_cut [] n a = (record { enough = omega arith; ends = tt }, tt)
more_cut (e ∷ es) n a = (a.0, more_cut es n a.1)

kept_cut : (body : Body) (log : Log) → AreCut log → AreCut (with_body body log)
kept_cut (OpenMsg n) log a = holds_if AreCut (list_any (λ e. key_eq e.key n.key) log.entries || nat_le 64 (length log.entries)) log _ (λ t. a) (λ t. more_cut log.entries n a)
kept_cut (DataMsg part) log a = changed_cut part.key (with_part part) log.entries (part_cut part) a
kept_cut (ReadMsg key index n) log a = changed_cut key (with_read index n) log.entries (read_cut index n) a
kept_cut (DoneMsg key) log a = changed_cut key (λ e. record e { done = true }) log.entries (λ e c. record { enough = c.enough; ends = c.ends }) a
kept_cut _ log a = a

log_cut : (log : Log) (message : Message) → AreCut log → AreCut (log_after log message)
unfolding log_after
log_cut log message a =
    holds_if AreCut (is_answer message.body || nat_lt message.boot log.boot) log _ (λ t. a)
    (λ t. holds_if AreCut (is_hello message.body) _ _ (λ s. a) (λ s. holds_if AreCut (message.boot == log.boot) _ _ (λ u. kept_cut message.body log a) (λ u. a)))

pub cut_proceeds : {State : Type 0} (service : Machine State) (before : World) (sent : List Packet) (after : World) → AreCut before.log → Happened service before sent after → AreCut after.log
cut_proceeds service before sent after a (log_received message under sent_is e) = subst AreCut (sym (ap (λ w. w.log) e)) (log_cut before.log message a)
cut_proceeds service before sent after a (client_received segment under sent_is e) = subst AreCut (sym (ap (λ w. w.log) e)) a
cut_proceeds service before sent after a (client_moved number m) = subst AreCut (sym (ap (λ w. w.log) m.after_is)) a
cut_proceeds service before sent after a (server_turned input node later brought is turn e) = subst AreCut (sym (ap (λ w. w.log) e)) a
cut_proceeds service before sent after a (server_booted boot isn down larger sent_is e) = subst AreCut (sym (ap (λ w. w.log) e)) a
cut_proceeds service before sent after a (server_down sent_is e) = subst AreCut (sym (ap (λ w. w.log) e)) a

pub cut_over : {State : Type 0} (service : Machine State) (start : World) (trace : List Moment) → Joint service start trace
    → AllByRecursion (λ e. CanCut e.bytes e.lengths) (world_after start trace).log.entries
cut_over service start trace joint =
    holds_after service (λ w. AreCut w.log) start (λ s. subst AreCut (sym s.log) tt) (λ before sent after a h. cut_proceeds service before sent after a h) trace joint
