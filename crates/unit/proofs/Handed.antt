-- Any call by its case (`as_asked`). Assumes nothing.
use Rattle.std.specs.Prelude.{◌≡◌, List, ℕ}
use Rattle.std.proofs.Math.Path.{subst, sym}
use Rattle.model.specs.State.{Lent, State, Step}
use Rattle.model.specs.Calls.{calling}
use Rattle.model.specs.Promises.{CallContract}
use Rattle.unit_answers.specs.Shape.{call_in}
use Rattle.unit_answers.specs.declared.Call as code_call

pub as_asked : {x y : code_call.Call} → x ≡ y → {card : List ℕ} {s : State} {k : Lent} {u : Step}
    → CallContract card s (calling (call_in y) k) u → CallContract card s (calling (call_in x) k) u
as_asked e {card} {s} {k} {u} m = subst (λ (c : code_call.Call). CallContract card s (calling (call_in c) k) u) (sym e) m
