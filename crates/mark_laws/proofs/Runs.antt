-- What a mark says: it stays true while the log grows, a quiet point makes it true, and the front of the entry is then one.
use Rattle.std.proofs.Common.{◌≡◌, ℕ, ◌≤◌, ◌==◌, sym, ap, ◌∙◌, Some, List, [], ◌∷◌, ◌++◌, length, sum, take, append-nil, length-append, length-take, arith, le_refl, le_trans}
use Rattle.std.specs.List.{list_any}
use Rattle.std.proofs.lemmas.List.{take_all}
use Rattle.server_trait.specs.Service.{Machine, reference, cut, AreBytes}
use Rattle.ft_model.specs.Log.{Entry}
use Rattle.ft_model.specs.Growth.{IsPrefix, EntryGrows}
use Rattle.ft_model.specs.Point.{Point}
use Rattle.ft_model.proofs.Lists.{take_first}
use Rattle.ft_model.proofs.Services.{more_bytes, prefix_length}
use Rattle.server_trait.specs.Saved.{Writing, ReadsBack}
use Rattle.seq_arith.specs.Mark.{Mark}
use Rattle.ft_model.proofs.Authored.{take_of_prefix}
use Rattle.ft_model.proofs.Formed.{bytes_cut}
use Rattle.mark_laws.specs.Runs.{IsRunOf}
use Rattle.mark_laws.specs.Quiet.{IsQuiet, mark_of}
use Rattle.mark_laws.specs.Front.{IsBelow, bytes_below, lengths_below}

pub grows : {State : Type 0} (service : Machine State) (writing : Writing State) (a b : Entry) (m : Mark) → EntryGrows a b → IsRunOf service writing a m → IsRunOf service writing b m
grows service writing a b m g r =
    let lengths : take m.reads b.lengths ≡ take m.reads a.lengths = take_of_prefix m.reads a.lengths b.lengths g.lengths r.count in
    let longer : length a.lengths ≤ length b.lengths = prefix_length a.lengths b.lengths g.lengths in
    let size : length a.bytes ≤ length b.bytes = prefix_length a.bytes b.bytes g.bytes in
    let total : sum (take m.reads b.lengths) ≡ sum (take m.reads a.lengths) = ap sum lengths in
    let run : reference service b.bytes (take m.reads b.lengths) ≡ reference service a.bytes (take m.reads a.lengths) =
    ap (reference service b.bytes) lengths ∙ more_bytes service a.bytes b.bytes (take m.reads a.lengths) g.bytes r.enough in
    record {
      count = le_trans r.count longer;
      bytes = r.bytes ∙ sym total;
      enough = omega (arith, total, size, r.enough);
      reads_on = ap (list_any (λ n. n == 0)) lengths ∙ r.reads_on;
      state = r.state ∙ ap (λ x. writing.form x.state) (sym run);
      made = r.made ∙ ap (λ x. length x.output) (sym run);
      running = ap (λ x. x.closed) run ∙ r.running;
    }

-- a front that is as long is the whole
whole_front : (xs ys : List ℕ) → IsPrefix xs ys → length ys ≤ length xs → xs ≡ ys
whole_front xs ys p h = none_more xs ys p.0 p.1 h
  where
    none_more : (xs ys rest : List ℕ) → xs ++ rest ≡ ys → length ys ≤ length xs → xs ≡ ys
    none_more xs ys [] e h = sym (append-nil xs) ∙ e
    none_more xs ys (r ∷ rest) e h =
        let more = length-append xs (r ∷ rest) in
        let size : length (xs ++ r ∷ rest) ≡ length ys = ap length e in absurd (omega (arith, more, size, h))

pub quiet_marks : {State : Type 0} (service : Machine State) (writing : Writing State) (script : List ℕ) (p : Point) (e : Entry)
    → IsPrefix p.taken script → sum p.lengths ≤ length p.taken → IsPrefix e.bytes script → sum e.lengths ≤ length e.bytes → IsPrefix e.lengths p.lengths → p.reads_answered ≤ length e.lengths → IsQuiet service p
    → IsRunOf service writing e (mark_of service writing p)
quiet_marks service writing script p e taken within fits enough front known quiet =
    let few : length p.lengths ≤ length e.lengths = omega (arith, known, quiet.answered) in
    let same : e.lengths ≡ p.lengths = whole_front e.lengths p.lengths front few in
    let cut_is : take (length p.lengths) e.lengths ≡ p.lengths = ap (take (length p.lengths)) same ∙ take_all (length p.lengths) p.lengths (le_refl (length p.lengths)) in
    let total : sum e.lengths ≡ sum p.lengths = ap sum same in
    let low : sum p.lengths ≤ length e.bytes = omega (arith, total, enough) in
    let run : reference service e.bytes (take (length p.lengths) e.lengths) ≡ reference service p.taken p.lengths =
    ap (reference service e.bytes) cut_is ∙ (sym (more_bytes service e.bytes script p.lengths fits low) ∙ more_bytes service p.taken script p.lengths taken within) in
    let total_cut : sum (take (length p.lengths) e.lengths) ≡ sum p.lengths = ap sum cut_is in
    record {
      count = few;
      bytes = sym total_cut;
      enough = omega (arith, total_cut, low);
      reads_on = ap (list_any (λ n. n == 0)) cut_is ∙ quiet.reads_on;
      state = ap (λ x. writing.form x.state) (sym run);
      made = ap (λ x. length x.output) (sym run);
      running = ap (λ x. x.closed) run ∙ quiet.running;
    }

pub front_is : {State : Type 0} (service : Machine State) (writing : Writing State) (e : Entry) (m : Mark) → ReadsBack service writing → AreBytes e.bytes
    → IsRunOf service writing e m → IsBelow service writing m (bytes_below m e) (lengths_below m e)
unfolding reference
front_is service writing e m reads_back bytes r =
    let lengths : List ℕ = take m.reads e.lengths in
    let low : m.length ≤ length e.bytes = omega (arith, r.bytes, r.enough) in
    let size : length (take m.length e.bytes) ≡ m.length = let s = length-take m.length e.bytes in omega (arith, s, low) in
    let count : length lengths ≡ m.reads = let s = length-take m.reads e.lengths in let c = r.count in omega (arith, s, c) in
    let within : sum lengths ≤ length (take m.length e.bytes) = omega (arith, size, r.bytes) in
    let run : reference service (take m.length e.bytes) lengths ≡ reference service e.bytes lengths =
    sym (more_bytes service (take m.length e.bytes) e.bytes lengths (take_first m.length e.bytes) within) in
    let back = reads_back (cut e.bytes lengths) (bytes_cut e.bytes lengths bytes) r.running in
    record {
      reads = count;
      size = size;
      whole = sym r.bytes ∙ sym size;
      reads_on = r.reads_on;
      state = ap writing.state_of r.state ∙ (back.same ∙ ap (λ x. Some x.state) (sym run));
      made = r.made ∙ ap (λ x. length x.output) (sym run);
      running = ap (λ x. x.closed) run ∙ r.running;
    }
