-- Aim: the junction "becomes the target; its down totals are the least totals over chains of down times, descending in rank to the
-- target; each estimate becomes unasked". Definitions only.
use Rattle.std.specs.Prelude.{◌≡◌, ℕ, ltb, length, replicate}
use Rattle.std.proofs.Math.Option.{Option, none}
use Rattle.graph.specs.Map.{Map, down_total_of}
use Rattle.model.specs.Word.{unasked, word}
use Rattle.model.specs.Types.{Accepted, At, NoJunction, Refusal}
use Rattle.model.specs.Bytes.{listed}
use Rattle.model.specs.Card.{ask}
use Rattle.model.specs.State.{Lent, State, Step, answering, leaving}
use Rattle.model.specs.Machine.{Known, Machine, Told, telling}

-- ---- what is asked: a junction; nothing is lent with it

-- 12: "Is the junction below n?"
unfoldable pub aim_refusal : Known → (junction : ℕ) → Option Refusal
aim_refusal k j = ask (ltb j k.n) NoJunction none

-- ---- what it answers and leaves

abbrev pub aim_made : Map → State → (junction : ℕ) → Lent → Step
aim_made M s j l =
    answering Accepted (leaving s (At j) s.areas.live
    (record {
      down = listed M.vertices (λ v. word (down_total_of M j v));
      estimates = replicate M.vertices unasked;
    })
    s.areas.trip) l

-- ---- what the plain machine does: "makes its junction the target"

abbrev pub aim_told : Machine → (junction : ℕ) → Told
aim_told m j = telling Accepted (record { live = m.live; target = At j })

-- ---- what is right about it: demand 3 asks no more of it than the machine's answer

abbrev pub AimRight : Type 0
AimRight = Unit {0}

-- ---- what it leaves in any state whose lengths fit: target, some down totals, and every estimate unasked

abbrev pub AimWrites : State → (junction : ℕ) → Lent → Step → Type 0
AimWrites s j l r = r
    ≡ answering Accepted (leaving s (At j) s.areas.live
    (record {
      down = r.state.areas.aimed.down;
      estimates = replicate (length s.areas.aimed.estimates) unasked;
    })
    s.areas.trip) l
