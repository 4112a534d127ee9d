-- The table of a query's own, beside which a supplier's table is put.
use Rattle.std.specs.Prelude.{◌≡◌}
use Rattle.theory.specs.Refusals.{passed}
use Rattle.theory.specs.Query.{Bytes, read_query, query_refusal}
use Rattle.theory.specs.Table.{Table, write_table}
use Rattle.theory.specs.Build.{table, construct}

-- The bytes are those of the table that was constructed from a query that passed checks 1 to 6.
pub record Own (query ours : Bytes) : Type 0 where
  pub checked : query_refusal query ≡ passed
  pub contents : Table
  pub constructed : construct (read_query query) ≡ table contents
  pub bytes : ours ≡ write_table contents
