-- What A8 speaks of in a state: its goes, previews and totals at the times in force. Definitions; what is proved of them stands in
-- proofs/ReportProof.antt.
use Rattle.std.specs.Prelude.{List, ℕ, length}
use Rattle.graph.specs.Total.{Total}
use Rattle.graph.specs.Search.{Problem, count_of, route_of, total_of}
use Rattle.model.specs.Types.{Answer, Target}
use Rattle.model.specs.Layout.{access_in}
use Rattle.model.specs.Classes.{access_of, class_times}
use Rattle.model.specs.Card.{map_on}
use Rattle.model.specs.Machine.{target_of}
use Rattle.model.specs.Go.{go_answer, search_of}

-- ---- what the calls answer, in a state that a list of calls left

-- the search of a class from a start, at these live times and with this target in force; what a go answers by it, its total, and what a
-- preview answers by two of them
abbrev pub problem_at : (card live : List ℕ) → Target → (class start : ℕ) → Problem
problem_at card live z c j = search_of (map_on card) (class_times (access_of (access_in card)) c live) j (target_of z)

abbrev pub answers_at : Problem → Answer
answers_at G = go_answer (total_of G) (count_of G) (length (route_of G))

abbrev pub goes_at : (card live : List ℕ) → Target → (class start : ℕ) → Answer
goes_at card live z c j = answers_at (problem_at card live z c j)

abbrev pub total_at : (card live : List ℕ) → Target → (class start : ℕ) → Total
total_at card live z c j = total_of (problem_at card live z c j)
