-- A call whose words are all there stands whole (`stands-whole`).
use Rattle.std.proofs.Common.{◌∙◌, sym}
use Rattle.unit_script.proofs.Words.{stands-whole}
use Rattle.unit_script.proofs.whole_at.Goals as goal

pub returns-then-w-script : goal.returns-then-w-script
returns-then-w-script c =
    let kind-is = sym c.of_word.ensures ∙ c.in_ok-kind.was in
    stands-whole c.args.script.now c.args.at c.word_at.ensures c.word_at-2.ensures kind-is (c.words-w.ensures _ kind-is)
    c.requires c.if-w-script.true
