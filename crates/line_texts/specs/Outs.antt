-- What the methods of `Out` put into its area, text after text. Assumes nothing.
use Rattle.std.specs.Prelude.{◌≡◌, List, ◌++◌, ℕ, length}
use Rattle.std.proofs.Common.{◌∙◌}
use Rattle.line_texts.specs.Areas.{Puts, Written}
use Rattle.line_texts.specs.Puts.{puts-start, puts_then}
use Rattle.line_texts.specs.declared.Out.{Out}

-- s follows the text, in the same area
pub record Added (s : List ℕ) (before after : Out) : Type 0 where
  pub puts : Puts s before.area.now before.at after.area.now after.at
  pub same_reference : after.area.ghost_name ≡ before.area.ghost_name
  pub same_room : length after.area.now ≡ length before.area.now

pub added_then : {s u : List ℕ} {o m z : Out} → Added s o m → Added u m z → Added (s ++ u) o z
added_then p q = record {
  puts = puts_then p.puts q.puts;
  same_reference = q.same_reference ∙ p.same_reference;
  same_room = q.same_room ∙ p.same_room;
}

pub added_as : {s u : List ℕ} {o z : Out} → s ≡ u → Added s o z → Added u o z
added_as e p = rw (← e) p

-- the area a is lent from its start, and handed back as z
pub added-written : {s : List ℕ} {o z : Out} {a : List ℕ} → o.at ≡ 0 → z.area.now ≡ a → Added s o z → Written o.area.now s a z.at
added-written e f p = rw (← f) (puts-start (rw e at p.puts))
