-- A8 on map P: what the unit answers to the four calls of a report. Definitions; what is proved of them stands in proofs/ReportP.antt.
use Rattle.std.specs.Prelude.{List, map, ℕ}
use Rattle.graph.specs.Least.{measured}
use Rattle.graph.specs.Pairs.{down, up}
use Rattle.graph.specs.Reach.{up_total}
use Rattle.graph.specs.Search.{back, back_step, before, below_or, best_below, better, consider, extend, first_via, has_goal, is, next}
use Rattle.graph.specs.Search.{offer_via, offered, push, run, total_in, way_in}
use Rattle.model.specs.Types.{Answer}
use Rattle.model.specs.Bytes.{word_at}
use Rattle.model.specs.Layout.{body_at, names}
use Rattle.model.specs.Classes.{admits}
use Rattle.model.specs.State.{State, Step, prepare}
use Rattle.model.specs.Calls.{step, steps}
use Rattle.model.specs.MapP.{lent_p}
use Rattle.model.specs.ReportTurn.{turn}

-- ---- map P, and map P with a byte for each road, aimed at 3, after reports and a go from 0

-- what is answered to the four calls, in turn, from junction 0; all that map P's searches are made of is opened with it
unfoldable pub answers_to : (card : List ℕ) → State → (class road time : ℕ) → List Answer
unfolding word_at body_at names admits prepare step measured up_total offer_via offered below_or before better consider best_below next
    has_goal push extend run is first_via back_step back total_in way_in up down
answers_to card s c i u = map (λ (d : Step). d.answer) (steps card s (turn s.header.n c i u 0 lent_p))
