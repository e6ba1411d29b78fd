-- The unit's areas: who writes each, how long it is, and what preparing leaves in it. Definitions only.
use Rattle.std.specs.Prelude.{Bool, ◌&&◌, List, [], ◌++◌, ◌∷◌, ◌%◌, ◌*◌, ◌-◌, suc, ℕ, eqb, leb, length, replicate}
use Rattle.graph.specs.Records.{Pair}
use Rattle.graph.specs.ByTail.{by_tail, start_of}
use Rattle.graph.specs.Map.{Map, pairs_of, rank}
use Rattle.model.specs.Word.{none_word, unasked, word}
use Rattle.model.specs.Bytes.{listed}
use Rattle.model.specs.Limits.{most_pairs}

-- ---- "Areas of the unit", by who writes them; A stands for an area: its words, or how many they are

-- made at switch-on and never written again: ranks "by junction number"; of the pairs (document 02, A7) "its two ranks .. in one area and
-- its two times in another"; and (A1) "road numbers by tail" and "where each tail's group starts"
pub record Built (A : Type 0) : Type 0 where
  pub ranks : A
  pub pairs : A
  pub times : A
  pub leaving : A
  pub groups : A

-- what an aim makes, by junction number: down totals, and estimates, which are filled as they are asked
pub record Aimed (A : Type 0) : Type 0 where
  pub down : A
  pub estimates : A

-- what a trip writes: elapsed, by junction number
pub record Trip (A : Type 0) : Type 0 where
  pub elapsed : A

pub record Each (A : Type 0) : Type 0 where
  pub built : Built A
  -- live times by road number, which set writes
  pub live : A
  pub aimed : Aimed A
  pub trip : Trip A

abbrev pub Areas : Type 0
Areas = Each (List ℕ)

-- the areas in document 01's order, the pairs' times behind their ranks, then those of document 02
abbrev pub areas_of : {A : Type 0} → (ranks pairs times live down estimates elapsed leaving groups : A) → Each A
areas_of r p q l d e t g h = record {
  built = record { ranks = r; pairs = p; times = q; leaving = g; groups = h };
  live = l;
  aimed = record { down = d; estimates = e };
  trip = record { elapsed = t };
}

-- f of each area
abbrev pub each : {A B : Type 0} → (A → B) → Each A → Each B
each f a =
    areas_of
    (f a.built.ranks) (f a.built.pairs) (f a.built.times)
    (f a.live)
    (f a.aimed.down) (f a.aimed.estimates)
    (f a.trip.elapsed)
    (f a.built.leaving) (f a.built.groups)

-- ---- lengths, for questions 7 and 9

abbrev pub lengths : Areas → Each ℕ
lengths = each length

-- A7: a record is two words, in the one area and in the other
abbrev pub record_size : ℕ
record_size = 2

-- A7: "room for the same whole number of pairs in both", at most 65,536, with room for p pairs
abbrev pub room_fits : (p pairs times : ℕ) → Bool
room_fits p pairs times =
    eqb times pairs && eqb (pairs % record_size) 0 && leb (record_size * p) pairs && leb pairs (record_size * most_pairs)

-- n words, room for p pairs twice, m words, three times n words; m and n + 1 words
unfoldable pub lengths_fit : (n m p : ℕ) → Each ℕ → Bool
lengths_fit n m p l =
    eqb l.built.ranks n && room_fits p l.built.pairs l.built.times
    && eqb l.live m
    && eqb l.aimed.down n && eqb l.aimed.estimates n
    && eqb l.trip.elapsed n
    && eqb l.built.leaving m && eqb l.built.groups (suc n)

-- ---- what preparing leaves

-- "rank of low, rank of high"
abbrev pub rank_words : List Pair → List ℕ
rank_words [] = []
rank_words (p ∷ l) = p.low ∷ p.high ∷ rank_words l

-- "up, down"
abbrev pub time_words : List Pair → List ℕ
time_words [] = []
time_words (p ∷ l) = word p.up_time ∷ word p.down_time ∷ time_words l

-- an area of k words: these first, "unused records" zero
abbrev pub zeros_after : List ℕ → (k : ℕ) → List ℕ
zeros_after l k = l ++ replicate (k - length l) 0

abbrev pub records_in : Map → (k : ℕ) → List ℕ
records_in M k = zeros_after (rank_words (pairs_of M)) k

abbrev pub times_in : Map → (k : ℕ) → List ℕ
times_in M k = zeros_after (time_words (pairs_of M)) k

-- A1: "road numbers by tail, ascending within a tail"
abbrev pub leaving_of : Map → List ℕ
leaving_of M = by_tail M.base.tail M.base.arcs M.vertices

-- A1: "where each tail's group starts, the last m"
abbrev pub groups_of : Map → List ℕ
groups_of M = listed (suc M.vertices) (start_of M.base.tail M.base.arcs)

-- "Preparing fills ranks and pairs, .. sets each live time to its base time, down totals and elapsed to none and each estimate to unasked";
-- the room for pairs stays
abbrev pub fresh_areas : Map → (room : ℕ) → Areas
fresh_areas M room = record {
  built = record {
    ranks = listed M.vertices (rank M);
    pairs = records_in M room;
    times = times_in M room;
    leaving = leaving_of M;
    groups = groups_of M;
  };
  live = listed M.base.arcs (λ i. word (M.base.cost i));
  aimed = record { down = replicate M.vertices none_word; estimates = replicate M.vertices unasked };
  trip = record { elapsed = replicate M.vertices none_word };
}

-- "every area is filled with 0"
abbrev pub zeroed : Areas → Areas
zeroed = each (λ l. replicate (length l) 0)
