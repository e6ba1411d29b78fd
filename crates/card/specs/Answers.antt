-- The code's answers as document 01's. Definitions only.
use Rattle.std.specs.Prelude.{Err, Ok, Result, ℕ}
use Rattle.model.specs.Types as model
use Rattle.network.specs.Refusals.{refusal_in}
use Rattle.network.specs.declared.Refusal.{Refusal}
pub use Rattle.card_writer.specs.Lent.{rows_of}

abbrev pub reading_in : Result (ℕ × ℕ) Refusal → model.Reading
reading_in (Ok (n, m)) = model.Read n m
reading_in (Err q) = model.Unreadable (refusal_in q)

abbrev pub writing_in : Result Unit Refusal → model.Answer
writing_in (Ok _) = model.Accepted
writing_in (Err q) = model.Refused (refusal_in q)
