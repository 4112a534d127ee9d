-- The text of two rows, of "none" and of a refusal, and what is answered to every query that begins with the bytes that were read.
use Rattle.std.specs.Prelude.{ℕ, ◌*◌, ◌≤◌, ◌<◌, min, ◌≡◌, eqb, length, take, drop}
use mathlib.Core.List.{[], ◌∷◌, ◌++◌, map, flatten}
use Rattle.theory.specs.Tests.{pick}
use Rattle.theory.specs.Limits.{max_columns, query_front}
use Rattle.theory.specs.Refusals.{passed, handle_refused, first_refusal}
use Rattle.theory.specs.Query.{Bytes, read_query, query_refusal}
use Rattle.theory.specs.Table.{Answer}
use Rattle.theory.specs.Listing.{decimal, spaced, line_end, refused_line}
use Rattle.theory.specs.Counterexamples.{Shows}
use Rattle.decimal.specs.Words.{large_number}
use Rattle.text.specs.Text.{Printed}

-- The longest two rows: two lines of 12 values, each of three digits and a space or the end of the line.
abbrev pub longest_rows : ℕ
longest_rows = 96

-- "none" and the end of the line.
abbrev pub none_line : Bytes
none_line = 110 ∷ 111 ∷ 110 ∷ 101 ∷ 10 ∷ []

-- A row's values with one space between, and the end of the line.
abbrev pub row_line : Bytes → Bytes
row_line [] = line_end
row_line (v ∷ vs) = decimal v ++ (flatten (map spaced vs) ++ line_end)

-- Two rows of n values each, which are the first bytes, row after row.
abbrev pub rows_text : ℕ → Bytes → Bytes
rows_text n rows = row_line (take n rows) ++ row_line (take n (drop n rows))

-- An answer for n columns: "none" is value 0 and two rows any other, or the refusal.
abbrev pub answer_text : ℕ → Answer → Bytes → Bytes
answer_text n a rows = pick (eqb a.refusal passed) (pick (eqb a.value 0) none_line (rows_text n rows)) (refused_line a.refusal)

-- The answer where a number is larger than any in the query.
abbrev pub large_line : Bytes → Bytes
large_line query = refused_line (first_refusal (query_refusal query) handle_refused)

-- The three numbers are bytes.
pub record Small (produced sets order : ℕ) : Type 0 where
  pub produced_small : produced < large_number
  pub sets_small : sets < large_number
  pub order_small : order < large_number

-- A number as it was read means the number n: it is n, and 256 where n is 256 or more.
abbrev pub ReadAs : ℕ → ℕ → Type 0
ReadAs read n = read ≡ min n large_number

-- What is answered to a query and three numbers, with room for any two rows, is what the text begins with.
pub record Told (query : Bytes) (produced sets order : ℕ) (before after : Bytes) (count : ℕ) : Type 0 where
  pub room : Bytes
  pub enough : 2 * max_columns ≤ length room
  pub answer : Answer
  pub rows : Bytes
  pub shows : Shows query produced sets order room answer rows
  pub text : Printed before (answer_text (read_query query).columns answer rows) after count

-- The same of all numbers that those which were read mean.
abbrev pub ToldOf : Bytes → ℕ → ℕ → ℕ → Bytes → Bytes → ℕ → Type 0
ToldOf query produced sets order before after count =
    (p s o : ℕ) → ReadAs produced p → ReadAs sets s → ReadAs order o → Told query p s o before after count

-- So it is for these bytes, and for every query whose first bytes they are; and the text has room, whatever the numbers.
pub record EvidencePrinted (query : Bytes) (produced sets order : ℕ) (before after : Bytes) (count : ℕ) : Type 0 where
  pub fits : count ≤ length before
  pub own : ToldOf query produced sets order before after count
  pub longer : (whole : Bytes) → take query_front whole ≡ query → ToldOf whole produced sets order before after count
