-- What the program makes of its card. "The program reads `unit.card` (to 200 junctions, 800 roads) with room for 4,000 pairs".
-- Definitions only.
use Rattle.std.specs.Prelude.{◌≡◌, Bool, ◌||◌, cond, Err, List, [], ◌/◌, min, Ok, Result, suc, ℕ, eqb, ltb, length, take}
use Rattle.std.proofs.Math.Option.{Option, none, some}
use denote.Triple.Both.{Both}
use Rattle.graph.specs.Map.{Map}
use Rattle.model.specs.Types as model
use Rattle.model.specs.Layout.{order_in, place_size, road_size, roads_in}
use Rattle.model.specs.Card.{card_refusal, map_on}
use Rattle.model.specs.Areas.{Areas, Each, areas_of, lengths}
use Rattle.model.specs.State.{State, fresh, prepare, room_refusal}
use Rattle.model.specs.Promises.{before}
use Rattle.unit.specs.Shape.{header_in}
use Rattle.line_console.specs.Texts.{answer_text, unreadable_text}
use Rattle.program_shell.specs.Limits.{file_limit, junction_limit, pair_words, road_limit}
use Rattle.program_shell.specs.declared.Opened.{Opened}

-- a line that is printed, "Each of these ends the program"; or the unit's state from which the lines are answered
pub data Opening : Type 0 where
  Ends : (line : List ℕ) → Opening
  Opens : State → Opening

-- `no`, the number, "with the place after 5 and 6"
abbrev pub no_line : model.Refusal → List ℕ
no_line q = answer_text (model.Refused q) []

abbrev pub larger : Map → Bool
larger M = ltb junction_limit M.vertices || ltb road_limit M.base.arcs

-- "otherwise 8 prints its line"
abbrev pub on_room : Option model.Refusal → State → Opening
on_room none s = Opens s
on_room (some q) s = Ends (no_line q)

-- "otherwise a card refused by 1 to 6, a missing file being an empty card, prints its line; otherwise a larger map prints `no 0`"
abbrev pub on_card : Option model.Refusal → (file : List ℕ) → Areas → Opening
on_card (some q) file a = Ends (no_line q)
on_card none file a = let M = map_on file in cond (larger M) (Ends unreadable_text) (on_room (room_refusal M a) (fresh file a))

-- "A file over 32,768 bytes prints `no 0`"
abbrev pub unless_over : (bytes : ℕ) → Opening → Opening
unless_over bytes o = cond (ltb file_limit bytes) (Ends unreadable_text) o

unfoldable pub opening : (file : List ℕ) → Areas → Opening
opening file a = unless_over (length file) (on_card (card_refusal file) file a)

-- ---- the areas that are lent

-- as many records of a size as a body of so many bytes has, but at most so many
abbrev pub room_in : (bytes size most : ℕ) → ℕ
room_in bytes size most = min (bytes / size) most

-- by the bodies that the table of contents names, whatever else the card is; on one that reading accepts, these are its numbers of
-- junctions and roads, to 200 and 800 (law: `Cards.rooms`)
abbrev pub junction_room : (file : List ℕ) → ℕ
junction_room file = room_in (length (order_in file)) place_size junction_limit

abbrev pub road_room : (file : List ℕ) → ℕ
road_room file = room_in (length (roads_in file)) road_size road_limit

-- the lengths of areas for n junctions and m roads, with so many words in each of the pairs' two areas
abbrev pub lengths_for : (n pairs m : ℕ) → Each ℕ
lengths_for n p m = areas_of n p p m n n n m (suc n)

abbrev pub Lends : (file : List ℕ) → Areas → Type 0
Lends file a = lengths a ≡ lengths_for (junction_room file) pair_words (road_room file)

-- ---- what the code hands back

abbrev pub outcome_in : Result Unit ℕ → (out : List ℕ) → State → Opening
outcome_in (Ok _) out s = Opens s
outcome_in (Err n) out s = Ends (take n out)

-- how many bytes are to be printed
abbrev pub printed_in : Result Unit ℕ → ℕ
printed_in (Ok _) = 0
printed_in (Err n) = n

abbrev pub opened_in : Opened → (out : List ℕ) → Areas → Opening
opened_in r out a = outcome_in r.outcome out (before (header_in r.header) a)

-- the line of a refused preparing: by 7 the map is larger than the areas
unfoldable pub refusal_line : model.Refusal → List ℕ
refusal_line q = cond (eqb q.question (model.AreaLengths).question) unreadable_text (no_line q)

-- what preparing's answer and header come to
abbrev pub judged : model.Header → model.Answer → Areas → Opening
judged h (model.Refused q) a = Ends (refusal_line q)
judged h model.Accepted a = Opens (before h a)
judged h (model.Estimated t) a = Opens (before h a)
judged h (model.Gone t c k) a = Opens (before h a)
judged h (model.Previewed x y c) a = Opens (before h a)
judged h (model.Stopped legs t) a = Opens (before h a)

-- a preparing of any areas, and what it comes to
unfoldable pub prepared : (file : List ℕ) → Areas → Opening
prepared file a =
    let p = prepare file a in
    unless_over (length file) (judged p.state.header p.answer p.state.areas)

-- the contract of `open_card`: for any areas; for those of `Lends`, what document 01 says
pub record OpensCard (file : List ℕ) (a : Both Areas Areas) (out : List ℕ) (r : Opened) : Type 0 where
  pub always : opened_in r out a.exit ≡ prepared file a.entry
  pub right : Lends file a.entry → opened_in r out a.exit ≡ opening file a.entry
