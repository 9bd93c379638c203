-- The way of a packet depends on the clients' keys alone.
use Rattle.std.proofs.Common.{◌≡◌, ◌∙◌, ap, ℕ, suc, ◌+◌, cond, not, nat_lt, Some, None, List, [], ◌∷◌, ◌++◌, length, map, refl}
use Rattle.std.specs.List.{prefix_len}
use Rattle.std.specs.Option.{option_map_or}
use Rattle.ft_io.specs.declared.Key.{Key}
use Rattle.ft_io.specs.Key.{key_eq}
use Rattle.ft_model.specs.Client.{Client}
use Rattle.ft_model.specs.Network.{Packet, source_of, destination_of}
use Rattle.ft_model.specs.Network.Packet.{To_server, To_client, To_logger, From_logger}
use Rattle.ft_model.specs.Report.{number_of_client, way_of, packet_line, packet_lines}
use Rattle.ft_model.specs.declared.way.Way.TheVariants.{ClientToServer, ServerToClient}

same_prefix : (k : Key) (cs ds : List Client) → map (λ c. c.key) cs ≡ map (λ c. c.key) ds → prefix_len (λ c. not (key_eq c.key k)) cs ≡ prefix_len (λ c. not (key_eq c.key k)) ds
same_prefix k [] [] e = refl
same_prefix k [] (d ∷ ds) e = cc
same_prefix k (c ∷ cs) [] e = cc
same_prefix k (c ∷ cs) (d ∷ ds) e =
    let head : c.key ≡ d.key = cc in
    let tail : map (λ x. x.key) cs ≡ map (λ x. x.key) ds = cc in
    ap (λ x. cond (not (key_eq x k)) (1 + prefix_len (λ y. not (key_eq y.key k)) cs) 0) head ∙ ap (λ n. cond (not (key_eq d.key k)) (1 + n) 0) (same_prefix k cs ds tail)

same_length : (cs ds : List Client) → map (λ c. c.key) cs ≡ map (λ c. c.key) ds → length cs ≡ length ds
same_length [] [] e = refl
same_length [] (d ∷ ds) e = cc
same_length (c ∷ cs) [] e = cc
same_length (c ∷ cs) (d ∷ ds) e = let tail : map (λ x. x.key) cs ≡ map (λ x. x.key) ds = cc in ap suc (same_length cs ds tail)

same_number : (k : Key) (cs ds : List Client) → map (λ c. c.key) cs ≡ map (λ c. c.key) ds → number_of_client cs k ≡ number_of_client ds k
same_number k cs ds e =
    ap (λ n. option_map_or (λ i. i + 1) (cond (nat_lt n (length cs)) (Some n) None) 0) (same_prefix k cs ds e)
    ∙ ap (λ l. option_map_or (λ i. i + 1) (cond (nat_lt (prefix_len (λ c. not (key_eq c.key k)) ds) l) (Some (prefix_len (λ c. not (key_eq c.key k)) ds)) None) 0) (same_length cs ds e)

pub same_way : (cs ds : List Client) (p : Packet) → map (λ c. c.key) cs ≡ map (λ c. c.key) ds → way_of cs p ≡ way_of ds p
same_way cs ds (To_server segment) e = ap ClientToServer (same_number (source_of segment) cs ds e)
same_way cs ds (To_client segment) e = ap ServerToClient (same_number (destination_of segment) cs ds e)
same_way cs ds (To_logger message) e = refl
same_way cs ds (From_logger message) e = refl

pub same_lines : (cs ds : List Client) (n : ℕ) (ps : List Packet) → map (λ c. c.key) cs ≡ map (λ c. c.key) ds → packet_lines cs n ps ≡ packet_lines ds n ps
same_lines cs ds n [] e = refl
same_lines cs ds n (p ∷ ps) e = ap (λ w. packet_line n w p ++ packet_lines cs (n + 1) ps) (same_way cs ds p e) ∙ ap (λ ls. packet_line n (way_of ds p) p ++ ls) (same_lines cs ds (n + 1) ps e)
