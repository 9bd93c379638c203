-- What the text and the FIN of a segment do to the peer's stream (RFC 9293, 3.10.7.4, seventh and eighth check; segments past RCV.NXT may be held there). `n`
-- bytes of the stream are taken before the segment, `edge` is the window's right edge, `fin` says whether the peer's FIN is taken, `early` is what is held, and
-- the segment's text begins at `first`. Each rule is one definition, and the rules apply in this order.
use Rattle.std.specs.Prelude.{◌≡◌, ℕ, ℤ, Bool, true, false, pos, negsuc, ◌+◌, ◌-◌, ◌<◌, ◌≤◌, ◌+ℤ◌, ◌==◌, ◌&&◌, not, min, int_le, int_lt, nat_abs}
use Rattle.std.specs.Prelude.{Option, None, Some, IfSome, option_map, List, [], ◌++◌, length, take, drop, if◌then◌else◌}
use Rattle.tcp_rules.specs.Arrival.{below}
use Rattle.tcp_rules.specs.Early.{held_with, front_run, behind_front_run, holds_some}

-- out-of-order data, which is held: text after the bytes taken, place by place, and at most one FIN, by its offset in the stream
pub record Early : Type 0 where
  pub text : List (Option ℕ)
  pub fin : Option ℕ

abbrev pub nothing_early : Early
nothing_early = record { text = []; fin = None }

-- the same, k further on in the stream: places stay, and the FIN's offset is k larger
abbrev pub early_from : ℕ → Early → Early
early_from k early = record early { fin = option_map (λ offset. offset + k) early.fin }

-- the bytes that are added to those taken, what is held then, and whether the FIN is taken
pub record Came : Type 0 where
  pub added : List ℕ
  pub early : Early
  pub fin : Bool

abbrev pub nothing_came : Early → Bool → Came
nothing_came early fin = record { added = []; early = early; fin = fin }

abbrev pub came_from : ℕ → Came → Came
came_from k c = record c { early = early_from k c.early }

-- a FIN that is held bounds the text
abbrev pub bounded_by : Option ℕ → ℕ → ℕ
bounded_by None edge = edge
bounded_by (Some offset) edge = min offset edge

-- text counts only below this offset: below the right edge of the receive window, and below a FIN that is held or taken
abbrev pub text_edge : (n edge : ℕ) → Bool → Early → ℕ
text_edge n edge fin early = if fin then n else bounded_by early.fin edge

-- how far past the end of the bytes taken a text begins; 0 if it doesn't begin past it
abbrev pub ahead : ℕ → ℤ → ℕ
ahead n (pos first) = first - n
ahead n (negsuc before) = 0

-- the new text of a segment: the part between the end of the bytes taken and `text_edge`
unfoldable pub new_text : (n edge : ℕ) → Bool → Early → ℤ → List ℕ → List ℕ
new_text n edge fin early first text = take (text_edge n edge fin early - (n + ahead n first)) (drop (below n first) text)

-- new text that begins at the end of the bytes taken is added to them, and is no longer held. Other new text is held
unfoldable pub with_text : (n edge : ℕ) → ℤ → List ℕ → Came → Came
with_text n edge first text c =
    if ahead n first == 0
    then record c {
      added = new_text n edge c.fin c.early first text;
      early = record c.early { text = drop (length (new_text n edge c.fin c.early first text)) c.early.text };
    }
    else record c { early = record c.early { text = held_with (ahead n first) (new_text n edge c.fin c.early first text) c.early.text } }

abbrev pub is_none : Option ℕ → Bool
is_none None = true
is_none (Some offset) = false

-- the FIN is held where it is below the right edge and not below the bytes taken, no text at or past it is held, and no FIN is held or taken
unfoldable pub holds_fin : (n edge : ℕ) → ℤ → Came → Bool
holds_fin n edge place c =
    int_lt place (pos edge) && int_le (pos (n + length c.added)) place && not (holds_some (drop (nat_abs place - (n + length c.added)) c.early.text))
    && is_none c.early.fin && not c.fin

unfoldable pub with_fin : (n edge : ℕ) → ℤ → Bool → Came → Came
with_fin n edge place has_fin c = if has_fin && holds_fin n edge place c then record c { early = record c.early { fin = Some (nat_abs place) } } else c

-- then the bytes taken grow by the held bytes that continue them, ..
unfoldable pub continued : Came → Came
continued c = record c { added = c.added ++ front_run c.early.text; early = record c.early { text = behind_front_run c.early.text } }

abbrev pub stands_at : ℕ → Option ℕ → Bool
stands_at end None = false
stands_at end (Some offset) = offset == end

-- .. and the FIN is taken where it is held at the end of the bytes taken
unfoldable pub with_fin_taken : ℕ → Came → Came
with_fin_taken n c = if stands_at (n + length c.added) c.early.fin then record c { early = record c.early { fin = None }; fin = true } else c

unfoldable pub comes : (n edge : ℕ) → Bool → Early → ℤ → List ℕ → Bool → Came
comes n edge fin early first text has_fin =
    with_fin_taken n (continued (with_fin n edge (first +ℤ pos (length text)) has_fin (with_text n edge first text (nothing_came early fin))))

-- the invariant of what is held, once n bytes are taken: it is below the right edge, nothing of it continues the bytes taken, a FIN comes after a gap and after
-- all text, and nothing is held once the FIN is taken
pub record StandsBehind (n edge : ℕ) (fin : Bool) (early : Early) : Type 0 where
  pub text : n + length early.text ≤ edge
  pub gap : front_run early.text ≡ []
  pub held_fin : IfSome early.fin (λ offset. (n < offset) × (offset < edge) × (holds_some (drop (offset - n) early.text) ≡ false))
  pub ended : fin ≡ true → (holds_some early.text ≡ false) × (early.fin ≡ None)
