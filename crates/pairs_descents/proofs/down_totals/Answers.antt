-- The totals begin (`descend_start`), are handed down by one record more (`descend_turn`), and end (`descend_end`).
use mathlib.Core.Path.{◌≡◌, refl}
use lib.ListN.{length, length-set, replicate}
use borrow.Author.Rules.{rules}
use native.Mathlib.Omega.{arith}
use Rattle.model.specs.Word.{none_word}
use Rattle.pairs_descents.proofs.Descends.{descend_end, descend_start, descend_turn}
use Rattle.pairs_descents.proofs.down_totals.Goals as goal

pub loop-i-init : goal.loop-i-init
loop-i-init c =
    let asked = c.requires in
    let filled : c.fill.new.self ≡ replicate (length c.args.down.now) none_word = search rules in
    record {
      down_is = simp length-set (search rules);
      descending = descend_start asked.target_in asked.down_is filled refl;
    }

pub loop-i-preserved : goal.loop-i-preserved
loop-i-preserved c =
    let inv = c.loop-i.invariant in record {
      down_is = search rules;
      descending = descend_turn (omega arith) inv.down_is inv.descending c.hand_down.ensures;
    }

pub returns : goal.returns
returns c =
    let inv = c.loop-i.invariant in
    descend_end (omega arith) inv.down_is c.requires.order_is inv.descending
