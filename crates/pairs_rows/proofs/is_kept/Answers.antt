-- A pair exists where either time does. The up time is asked first; if it is none the down time decides (`kept_by-down`), else the pair is
-- kept (`kept_by-up`).
use Rattle.pairs_rows.proofs.Stored.{kept_by-down, kept_by-up}
use Rattle.pairs_rows.proofs.is_kept.Goals as goal

pub returns-then-not-is_none : goal.returns-then-not-is_none
returns-then-not-is_none c =
    kept_by-up c.args.up.0 c.args.down.0 c.is_none.ensures c.if-not-is_none.true

pub returns-else-not-is_none : goal.returns-else-not-is_none
returns-else-not-is_none c =
    kept_by-down c.args.up.0 c.args.down.0 c.is_none.ensures c.if-not-is_none.false c.is_none-else-not-is_none.ensures
