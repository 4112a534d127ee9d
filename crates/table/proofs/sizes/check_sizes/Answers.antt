-- `table::sizes::check_sizes` meets its contract: at each `return` the tests that led there pick the number.
use Rattle.table.specs.Form.{table_sizes_refusal}
use Rattle.theory.proofs.Picks.{picks}
use Rattle.table.proofs.sizes.check_sizes.Goals as goal
use Rattle.table.proofs.sizes.check_sizes.Goals.{then-q-lt1-via-then-q-lt1, then-q-lt1-via-else-q-lt1+then-q-gt-MAX_STATES, then-q-lt1-via-else-q-lt1+else-q-gt-MAX_STATES+then-p-lt1, then-q-lt1-via-else-q-lt1+else-q-gt-MAX_STATES+else-p-lt1+then-p, then-q-lt1-via-else-q-lt1+else-q-gt-MAX_STATES+else-p-lt1+else-p+then-t, then-q-lt1-via-else-q-lt1+else-q-gt-MAX_STATES+else-p-lt1+else-p+else-t+then-s}

pub returns-then-q-lt1 : goal.returns-then-q-lt1
unfolding table_sizes_refusal
returns-then-q-lt1 c =
    rw (← c.states-q.ensures.0, ← c.produced-p.ensures.0, ← c.tested-t.ensures.0, ← c.sets-s.ensures.0)
    (elim c.then-q-lt1.branch [
      | then-q-lt1-via-then-q-lt1 w ↦ search picks depth 12
      | then-q-lt1-via-else-q-lt1+then-q-gt-MAX_STATES w ↦ search picks depth 12
      | then-q-lt1-via-else-q-lt1+else-q-gt-MAX_STATES+then-p-lt1 w ↦ search picks depth 12
      | then-q-lt1-via-else-q-lt1+else-q-gt-MAX_STATES+else-p-lt1+then-p w ↦ search picks depth 12
      | then-q-lt1-via-else-q-lt1+else-q-gt-MAX_STATES+else-p-lt1+else-p+then-t w ↦ search picks depth 12
      | then-q-lt1-via-else-q-lt1+else-q-gt-MAX_STATES+else-p-lt1+else-p+else-t+then-s w ↦ search picks depth 12
    ])

pub returns-then-table-held_base : goal.returns-then-table-held_base
unfolding table_sizes_refusal
returns-then-table-held_base c =
    let total = rw (c.held_base.ensures.0, ← c.states-q.ensures.0, ← c.produced-p.ensures.0, ← c.sets-s.ensures.0) at c.if-table-held_base.true in
    rw (← c.states-q.ensures.0, ← c.produced-p.ensures.0, ← c.tested-t.ensures.0, ← c.sets-s.ensures.0) (search picks depth 12)

pub returns-else-table-held_base : goal.returns-else-table-held_base
unfolding table_sizes_refusal
returns-else-table-held_base c =
    let total = rw (c.held_base.ensures.0, ← c.states-q.ensures.0, ← c.produced-p.ensures.0, ← c.sets-s.ensures.0) at c.if-table-held_base.false in
    rw (← c.states-q.ensures.0, ← c.produced-p.ensures.0, ← c.tested-t.ensures.0, ← c.sets-s.ensures.0) (search picks depth 12)
