-- The code's calls and answers as the model's. Definitions only.
use Rattle.std.specs.Prelude.{Err, None, Ok, Option, Result, Some, ℕ, ℤ}
use Rattle.std.proofs.Math.Option as math
use Rattle.std.proofs.Math.Option.{none, some}
use Rattle.graph.specs.Total as graph
use Rattle.model.specs.Types as model
use Rattle.model.specs.Calls as calls
use Rattle.network.specs.Refusals.{refusal_in}
use Rattle.network.specs.declared.Refusal.{Refusal}
use Rattle.unit_answers.specs.declared.Answer.{Answer}
use Rattle.unit_answers.specs.declared.Answer.TheVariants.{Accepted, Estimated, Gone, Previewed}
use Rattle.unit_answers.specs.declared.Call.{Call}
use Rattle.unit_answers.specs.declared.Call.TheVariants.{Aim, Estimate, Go, Set}

-- a total, or none
abbrev pub total_in : Option ℕ → graph.Total
total_in (Some t) = some t
total_in None = none

-- the change from one total to another, or its absence
abbrev pub change_in : Option ℤ → math.Option ℤ
change_in (Some d) = some d
change_in None = none

-- what a call answers, or what refuses it
abbrev pub answer_in : Result Answer Refusal → model.Answer
answer_in (Ok Accepted) = model.Accepted
answer_in (Ok (Estimated t)) = model.Estimated t.0
answer_in (Ok (Gone t c k)) = model.Gone t c k
answer_in (Ok (Previewed a b c)) = model.Previewed (total_in a) (total_in b) (change_in c)
answer_in (Err q) = model.Refused (refusal_in q)

-- what is asked
abbrev pub call_in : Call → calls.Asked
call_in (Set i t) = calls.Set i t.0
call_in (Aim j) = calls.Aim j.0
call_in (Estimate j) = calls.Estimate j.0
call_in (Go c j) = calls.Go c j.0
