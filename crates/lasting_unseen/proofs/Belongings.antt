-- What is well formed stays so as the clients that are there change, if it isn't of the key that comes or goes.
use Rattle.std.proofs.Common.{◌≡◌, ℕ, suc, ◌≤◌, Bool, true, false, List, [], ◌∷◌, length, arith}
use Rattle.ft_io.specs.declared.Key.{Key}
use Rattle.ft_io.specs.Key.{key_eq}
use Rattle.ft_io.proofs.Choices.{by_cases, holds_if}
use Rattle.seq_arith.specs.Message.{Numbers, Kept, EntryHead, Part, Body}
use Rattle.seq_arith.specs.Message.Body.{HelloMsg, SummaryMsg, ListMsg, EntryMsg, BytesMsg, PartMsg, CutsMsg, LensMsg, OpenMsg, OpenedMsg, DataMsg, StableMsg, ReadMsg, ReadsMsg, DoneMsg, EndedMsg, StaleMsg, FullMsg}
use Rattle.ft_model.specs.Client.{Client}
use Rattle.ft_model.specs.Log.{Entry}
use Rattle.ft_model.specs.Network.{Packet, source_of, destination_of}
use Rattle.ft_model.specs.Network.Packet.{To_server, To_client, To_logger, From_logger}
use Rattle.ft_model.specs.Node.{Place, Stage, key_of}
use Rattle.ft_model.specs.Node.Place.{Opens, Lives, Ended}
use Rattle.ft_model.specs.Node.Stage.{Asking, Fetching, Serving, Fenced}
use Rattle.ft_model.specs.World.{World}
use Rattle.ft_model.proofs.Formed.{HasClient, NumbersFormed, KeptFormed, HeadFormed, PartFormed, BodyFormed, PacketFormed, EntryFormed, PlaceFormed, StageFormed}
use Rattle.long_laws.specs.LongTrace.{others, is_about, concerns, places_at, IsEnded}
use Rattle.long_laws.proofs.Recycled.{AreClear, stage_of}

module _ (home : World) (cs : List Client) (key : Key)
    (stays : (k : Key) → key_eq k key ≡ false → HasClient home k → HasClient (record home { clients = cs }) k) where
  abbrev pub now : World
  now = record home { clients = cs }

  numbers_stay : (n : Numbers) → key_eq n.key key ≡ false → NumbersFormed home n → NumbersFormed now n
  numbers_stay n a f = (stays n.key a f.0, f.1, f.2, f.3)

  kept_stays : (k : Kept) → key_eq k.key key ≡ false → KeptFormed home k → KeptFormed now k
  kept_stays k a f = (stays k.key a f.0, f.1, f.2)

  head_stays : (e : EntryHead) → key_eq e.key key ≡ false → HeadFormed home e → HeadFormed now e
  head_stays e a f = (stays e.key a f.0, f.1, f.2, f.3, f.4, f.5, f.6)

  part_stays : (p : Part) → key_eq p.key key ≡ false → PartFormed home p → PartFormed now p
  part_stays p a f = (stays p.key a f.0, f.1, f.2, f.3, f.4)

  body_stays : (boot : ℕ) (body : Body) → is_about key body ≡ false → BodyFormed home boot body → BodyFormed now boot body
  body_stays boot HelloMsg a f = tt
  body_stays boot (SummaryMsg count) a f = f
  body_stays boot (ListMsg index) a f = f
  body_stays boot (EntryMsg index e) a f = (f.0, head_stays e a f.1)
  body_stays boot (BytesMsg k offset) a f = (stays k a f.0, f.1)
  body_stays boot (PartMsg k offset bytes) a f = (stays k a f.0, f.1, f.2, f.3, f.4)
  body_stays boot (CutsMsg k first) a f = (stays k a f.0, f.1)
  body_stays boot (LensMsg k first lens) a f = (stays k a f.0, f.1, f.2, f.3, f.4)
  body_stays boot (OpenMsg n) a f = numbers_stay n a f
  body_stays boot (OpenedMsg n) a f = numbers_stay n a f
  body_stays boot (DataMsg part) a f = part_stays part a f
  body_stays boot (StableMsg k) a f = kept_stays k a f
  body_stays boot (ReadMsg k index length) a f = (stays k a f.0, f.1, f.2)
  body_stays boot (ReadsMsg k) a f = kept_stays k a f
  body_stays boot (DoneMsg k) a f = stays k a f
  body_stays boot (EndedMsg k) a f = stays k a f
  body_stays boot (StaleMsg newer) a f = f
  body_stays boot (FullMsg k) a f = stays k a f

  pub packet_stays : (p : Packet) → concerns key p ≡ false → PacketFormed home p → PacketFormed now p
  packet_stays (To_server s) a f = (stays (source_of s) a f.0, f.1, f.2)
  packet_stays (To_client s) a f = (stays (destination_of s) a f.0, f.1, f.2)
  packet_stays (To_logger m) a f = (f.0, body_stays m.boot m.body a f.1)
  packet_stays (From_logger m) a f = ((f.0.0, body_stays m.boot m.body a f.0.1), f.1)

  pub entry_stays : (e : Entry) → key_eq e.key key ≡ false → EntryFormed home e → EntryFormed now e
  entry_stays e a f = record { key = stays e.key a f.key; sisn = f.sisn; mss = f.mss; enough = f.enough; count = f.count; lengths = f.lengths }

  place_stays : (place : Place) → (key_eq (key_of place) key ≡ true → IsEnded place) → PlaceFormed home place → PlaceFormed now place
  place_stays (Opens n timestamping) clear f = by_cases (key_eq n.key key) (λ e. absurd (clear e)) (λ e. (numbers_stay n e f.0, f.1))
  place_stays (Lives p) clear f =
      by_cases (key_eq p.key key) (λ e. absurd (clear e))
      (λ e. record {
        key = stays p.key e f.key;
        sisn = f.sisn;
        mss = f.mss;
        enough = f.enough;
        fetched = f.fetched;
        count = f.count;
        lengths = f.lengths;
        batches = f.batches;
        timestamping = f.timestamping;
      })
  place_stays (Ended k) clear f = tt

  pub stage_stays_formed : (stage : Stage) → AreClear key (places_at stage) → StageFormed home stage → StageFormed now stage
  stage_stays_formed (Serving opened places) clear f = stage_of (PlaceFormed home) (PlaceFormed now) key places place_stays clear f
  stage_stays_formed Asking clear f = tt
  stage_stays_formed (Fetching count fetched) clear f = tt
  stage_stays_formed (Fenced newer) clear f = tt

-- what is left is no longer
pub fewer_left : {A : Type 0} (passes : A → Bool) (xs : List A) → length (others passes xs) ≤ length xs
fewer_left passes [] = omega arith
fewer_left passes (x ∷ xs) =
    let less : length (others passes xs) ≤ length xs = fewer_left passes xs in
    holds_if (λ l. length l ≤ suc (length xs)) (passes x) (others passes xs) (x ∷ others passes xs) (λ t. omega (arith, less)) (λ t. omega (arith, less))
