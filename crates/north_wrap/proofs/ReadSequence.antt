-- The reads of a turn, one after another.
use Rattle.std.proofs.Common.{◌≡◌, ℕ, ◌+◌, List, [], ◌∷◌, ◌++◌, refl, sym, subst, ap, None, Some, append_assoc, append-nil, ◌∙◌}
use Rattle.ft_io.specs.declared.Key.{Key}
use Rattle.seq_arith.specs.Message.Body.{ReadMsg}
use Rattle.server_trait.specs.Service.{Served}
use Rattle.ft_model.specs.Reads.{read_messages}
use Rattle.north_wrap.specs.declared.read_record.ReadRecord.{ReadRecord}
use Rattle.north_wrap.specs.NorthState.{NorthState, Reads, HasRead, next_at, read_on, socket_on, lengths_of}
use Rattle.north_wrap.specs.Refinement.{IsNumbered, messages_of}
use Rattle.north_wrap.specs.Sockets.{Reader}

lengths_more : (news : List ReadRecord) (read : ReadRecord) (ks : List ℕ) → lengths_of (news ++ read ∷ []) ++ ks ≡ lengths_of news ++ (read.length ∷ ks)
lengths_more [] read ks = refl
lengths_more (r ∷ news) read ks = ap (λ l. r.length ∷ l) (lengths_more news read ks)

pub begins : {S K : Type 0} (after : S → List ℕ → Served S) (r : Reader K) (una : ℕ) (n : NorthState S) (s : K) → HasRead after r una n s [] n s
begins after r una n s = record { proceeds = λ ks end last reads. reads; reads = sym (append-nil n.reads) }

pub proceeds : {S K : Type 0} {after : S → List ℕ → Served S} {r : Reader K} {una : ℕ} {start : NorthState S} {first : K} {news : List ReadRecord} {now : NorthState S} {socket : K}
    → HasRead after r una start first news now socket → (read : ReadRecord) (news' : List ReadRecord) (next : NorthState S) (socket' : K)
    → next_at r una now socket ≡ Some read.length → next ≡ read_on after (r.unread socket) read.length now → next.reads ≡ now.reads ++ read ∷ []
    → news' ≡ news ++ read ∷ [] → socket' ≡ socket_on r read.length now socket
    → HasRead after r una start first news' next socket'
proceeds {S} {K} {after} {r} {una} {start} {first} {news} {now} {socket} so_far read news' next socket' allowed is more reported moved =
    subst (λ l. HasRead after r una start first l next socket') (sym reported) (subst (λ s. HasRead after r una start first (news ++ read ∷ []) next s) (sym moved) (record {
      proceeds = λ ks end last reads. subst (λ l. Reads after r una start first l end last) (sym (lengths_more news read ks))
          (so_far.proceeds (read.length ∷ ks) end last (allowed, subst (λ n. Reads after r una n (socket_on r read.length now socket) ks end last) is reads));
      reads = more ∙ ap (λ l. l ++ read ∷ []) so_far.reads ∙ append_assoc start.reads news (read ∷ []);
    }))

pub ends : {S K : Type 0} {after : S → List ℕ → Served S} {r : Reader K} {una : ℕ} {start : NorthState S} {first : K} {news : List ReadRecord} {now : NorthState S} {socket : K}
    → HasRead after r una start first news now socket → next_at r una now socket ≡ None → Reads after r una start first (lengths_of news) now socket
ends {S} {K} {after} {r} {una} {start} {first} {news} {now} {socket} so_far none =
    subst (λ l. Reads after r una start first l now socket) (append-nil (lengths_of news)) (so_far.proceeds [] now socket (none, refl, refl))

-- the messages of reads that are numbered
pub reported_reads : (key : Key) (first : ℕ) (reads : List ReadRecord) → IsNumbered first reads → messages_of key reads ≡ read_messages key first (lengths_of reads)
reported_reads key first [] numbered = refl
reported_reads key first (read ∷ reads) numbered = λ j. ReadMsg key (numbered.0 j) read.length ∷ reported_reads key (first + 1) reads numbered.1 j
