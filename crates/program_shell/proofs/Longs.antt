-- A line that is longer than its area is as unreadable as what the area has of it. Assumes nothing.
use Rattle.std.proofs.Common.{◌∙◌, ◌≡◌, ◌<◌, List, length, sym, ℕ, arith}
use Rattle.line_console.specs.Lines.{line_of}
use Rattle.line_console.proofs.Grammar.{long-unreadable}

pub long-line : (area xs : List ℕ) → 45 < length area → length area < length xs → line_of area ≡ line_of xs
long-line area xs room longer = long-unreadable area room ∙ sym (long-unreadable xs (omega arith))
