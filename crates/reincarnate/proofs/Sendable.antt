-- What the ranges of a message give of its parts.
use Rattle.std.proofs.Common.{◌≡◌, ℕ, ◌+◌, ◌^◌, ◌≤◌, ◌&&◌, Bool, true, nat_le, List, [], ◌∷◌, length, drop, arith, subst}
use Rattle.seq_arith.specs.declared.kinds.Grammar.{Grammar}
use Rattle.seq_arith.specs.declared.kinds.Grammar.TheVariants.{Plain}
use Rattle.seq_arith.specs.declared.kinds.Kind.TheVariants as kinds
use Rattle.std.specs.List.{list_all, AllByRecursion}
use Rattle.std.proofs.lemmas.Bool.{and_parts}
use Rattle.ft_io.specs.declared.Key.{Key}
use Rattle.seq_arith.specs.MessageGrammar.{kind_of, numbers_of, behind_of, lens_of, message_length, all_in_range, all_in_range_by, fields_of, has_length, lens_in, is_sound_by}
use Rattle.log_replay.specs.LoggedHead.{IsSegmentSize}
use Rattle.logger_wire.specs.declared.Msg.{Msg}
use Rattle.logger_wire.specs.declared.Body.{Body}
use Rattle.logger_wire.specs.declared.Body.TheVariants as body
use Rattle.logger_wire.specs.declared.records.EntryHead.{EntryHead}
use Rattle.logger_wire.specs.Value.{body_of, IsSendable, IsSendableBy}
use Rattle.reincarnate.specs.Marking.{IsRead}
use Rattle.seq_arith.specs.MarkGrammar as marks
use Rattle.logger_wire.specs.declared.marks.mark_msg.Mark.{Mark}
use Rattle.logger_wire.specs.declared.marks.mark_msg.MarkMsg.{MarkMsg}
use Rattle.logger_wire.specs.declared.marks.mark_msg.MarkBody.{MarkBody}
use Rattle.logger_wire.specs.declared.marks.mark_msg.MarkBody.TheVariants as mark_body
use Rattle.logger_wire.specs.MarkValue as checkpoint

-- what may be sent in each grammar may be sent in this one
pub asked_by : (grammar : Grammar) (m : Msg) → ((each : Grammar) → IsSendableBy each m) → IsSendableBy grammar m
asked_by grammar m sendable = sendable grammar

pub read_plainly : (m : Msg) → IsSendable m → IsRead m
read_plainly m sendable = record { grammar = Plain; sendable = sendable }

sound_of : (m : Msg) (b : Body) (read : IsRead m) → m.body ≡ b
    → is_sound_by read.grammar (kind_of (body_of b)) m.boot (length (behind_of (body_of b))) (numbers_of (body_of b)) (lens_of (body_of b)) ≡ true
sound_of m b read is =
    subst (λ x. is_sound_by read.grammar (kind_of (body_of x)) m.boot (length (behind_of (body_of x))) (numbers_of (body_of x)) (lens_of (body_of x)) ≡ true) is read.sendable.spellable.sound

size_of : (m : Msg) (b : Body) → IsRead m → m.body ≡ b → has_length (kind_of (body_of b)) (message_length (body_of b)) ≡ true
size_of m b read is = subst (λ x. has_length (kind_of (body_of x)) (message_length (body_of x)) ≡ true) is read.sendable.spellable.size

seventh : (a b c d e f g rest : Bool) → (a && (b && (c && (d && (e && (f && (g && rest))))))) ≡ true → g ≡ true
seventh a b c d e f g rest all =
    let tail = (and_parts a (b && (c && (d && (e && (f && (g && rest)))))) all).1 in
    let tail = (and_parts b (c && (d && (e && (f && (g && rest))))) tail).1 in
    let tail = (and_parts c (d && (e && (f && (g && rest)))) tail).1 in
    let tail = (and_parts d (e && (f && (g && rest))) tail).1 in
    let tail = (and_parts e (f && (g && rest)) tail).1 in
    let tail = (and_parts f (g && rest) tail).1 in
    (and_parts g rest tail).0

pub head_in_range : (m : Msg) (index : ℕ) (head : EntryHead) → IsRead m → m.body ≡ body.Entry index head → head.length ≤ 2 ^ 24
unfolding is_sound_by
head_in_range m index head read is =
    let b : Body = body.Entry index head in
    let fields : Bool = all_in_range_by read.grammar m.boot 0 (fields_of kinds.Entry) (numbers_of (body_of b)) in
    let lens : Bool = list_all (λ k. nat_le k 2048) (lens_of (body_of b)) in
    let sound = sound_of m b read is in
    let all : fields ≡ true = (and_parts (nat_le 1 m.boot) fields (and_parts (nat_le 1 m.boot && fields) lens sound).0).1 in
    let most = seventh (nat_le index 63) true true true true (nat_le 64 head.mss && nat_le head.mss 1460) (nat_le head.length (2 ^ 24))
    (all_in_range_by read.grammar m.boot 0 (drop 7 (fields_of kinds.Entry)) (drop 7 (numbers_of (body_of b)))) all in
    grind (arith, most)

sixth : (a b c d e f rest : Bool) → (a && (b && (c && (d && (e && (f && rest)))))) ≡ true → f ≡ true
sixth a b c d e f rest all =
    let tail = (and_parts a (b && (c && (d && (e && (f && rest))))) all).1 in
    let tail = (and_parts b (c && (d && (e && (f && rest)))) tail).1 in
    let tail = (and_parts c (d && (e && (f && rest))) tail).1 in
    let tail = (and_parts d (e && (f && rest)) tail).1 in
    let tail = (and_parts e (f && rest) tail).1 in
    (and_parts f rest tail).0

pub mss_in_range : (m : Msg) (index : ℕ) (head : EntryHead) → IsRead m → m.body ≡ body.Entry index head → IsSegmentSize head.mss
unfolding is_sound_by
mss_in_range m index head read is =
    let b : Body = body.Entry index head in
    let fields : Bool = all_in_range_by read.grammar m.boot 0 (fields_of kinds.Entry) (numbers_of (body_of b)) in
    let lens : Bool = list_all (λ k. nat_le k 2048) (lens_of (body_of b)) in
    let sound = sound_of m b read is in
    let all : fields ≡ true = (and_parts (nat_le 1 m.boot) fields (and_parts (nat_le 1 m.boot && fields) lens sound).0).1 in
    let size = sixth (nat_le index 63) true true true true (nat_le 64 head.mss && nat_le head.mss 1460)
    (all_in_range_by read.grammar m.boot 0 (drop 6 (fields_of kinds.Entry)) (drop 6 (numbers_of (body_of b)))) all in
    let ends = and_parts (nat_le 64 head.mss) (nat_le head.mss 1460) size in
    (grind (arith, ends), grind (arith, ends))

pub part_in_range : (m : Msg) (key : Key) (offset : ℕ) (bytes : _) → IsRead m → m.body ≡ body.Part key offset bytes → length bytes.now ≤ 1024
unfolding has_length
part_in_range m key offset bytes read is =
    let n : ℕ = 26 + length bytes.now in
    let size = size_of m (body.Part key offset bytes) read is in
    let most = (and_parts (nat_le 27 n) (nat_le n 1050) (and_parts (nat_le 27 n && nat_le n 1050) true size).0).1 in
    grind (arith, most)

all_short : (lens : List ℕ) → list_all (λ len. nat_le len 2048) lens ≡ true → AllByRecursion (λ n. n ≤ 2048) lens
all_short [] all = tt
all_short (n ∷ lens) all = let parts = and_parts (nat_le n 2048) (list_all (λ len. nat_le len 2048) lens) all in (grind (arith, parts.0), all_short lens parts.1)

pub lens_in_range : (m : Msg) (key : Key) (first : ℕ) (lens : _) → IsRead m → m.body ≡ body.Lens key first lens → AllByRecursion (λ n. n ≤ 2048) (lens_in lens.now)
unfolding is_sound_by
lens_in_range m key first lens read is =
    let b : Body = body.Lens key first lens in
    let fields : Bool = all_in_range_by read.grammar m.boot (length (behind_of (body_of b))) (fields_of kinds.Lens) (numbers_of (body_of b)) in
    let sound = sound_of m b read is in
    all_short (lens_in lens.now) (and_parts (nat_le 1 m.boot && fields) (list_all (λ k. nat_le k 2048) (lens_in lens.now)) sound).1

-- A mark
fifth : (a b c d e rest : Bool) → (a && (b && (c && (d && (e && rest))))) ≡ true → e ≡ true
fifth a b c d e rest all =
    let tail = (and_parts a (b && (c && (d && (e && rest)))) all).1 in
    let tail = (and_parts b (c && (d && (e && rest))) tail).1 in
    let tail = (and_parts c (d && (e && rest)) tail).1 in
    let tail = (and_parts d (e && rest) tail).1 in
    (and_parts e rest tail).0

pub held_in_range : (m : MarkMsg) (key : Key) (mark : Mark) → marks.IsSpellable (checkpoint.message_of m) → m.body ≡ mark_body.Held key mark
    → mark.made ≤ 2 ^ 24
unfolding marks.is_sound
held_in_range m key mark spellable is =
    let b : MarkBody = mark_body.Held key mark in
    let sound : marks.is_sound (marks.kind_of (checkpoint.body_of b)) m.boot (length (marks.behind_of (checkpoint.body_of b))) (marks.numbers_of (checkpoint.body_of b)) ≡ true =
    subst (λ x. marks.is_sound (marks.kind_of (checkpoint.body_of x)) m.boot (length (marks.behind_of (checkpoint.body_of x))) (marks.numbers_of (checkpoint.body_of x)) ≡ true) is spellable.sound in
    let fields : Bool = all_in_range m.boot (length mark.state.now) marks.marking (marks.numbers_of (checkpoint.body_of b)) in
    let all : fields ≡ true = (and_parts (nat_le 1 m.boot) fields (and_parts (nat_le 1 m.boot && fields) (nat_le 0 mark.reads) sound).0).1 in
    let most = fifth true true (nat_le mark.reads (2 ^ 24 + 1)) (nat_le mark.length (2 ^ 24)) (nat_le mark.made (2 ^ 24)) true all in
    grind (arith, most)
