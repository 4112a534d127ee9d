-- The numbers that the exported functions return.
use Rattle.std.specs.Prelude.{ℕ, ◌≡◌, length}
use Rattle.theory.specs.Query.{Bytes}
use Rattle.theory.specs.Build.{Outcome, refused, built}
use Rattle.theory.specs.Listing.{listing}
use Rattle.query_listing.specs.Listed.{listed_answer, list_refusal}
use Rattle.theory.specs.Counterexamples.{Shows}
use Rattle.theory.specs.Steps.{Continued, pair_settled, as_build}
use Rattle.theory.specs.Table.{Answer}
use Rattle.answer_codes.specs.Codes.{answer_code, refused_code}

-- A build's: the table's length, or the refusal.
abbrev pub build_code : Outcome → ℕ
build_code (refused n) = refused_code n
build_code (built t) = length t

-- A continuing call's: 0 where a pair was settled, else as a build's.
abbrev pub continue_code : Continued → ℕ
continue_code pair_settled = 0
continue_code (as_build o) = build_code o

-- A listing's: its length, or the refusal.
abbrev pub list_code : Bytes → ℕ → ℕ → ℕ
list_code query scratch text = answer_code (listed_answer (listing query) (list_refusal query scratch text))

-- A search for two rows: the answer as a number, with the buffer afterwards. It is 1 where a pair was written and 0 for none.
pub record ShownCode (query : Bytes) (produced sets order : ℕ) (rows after : Bytes) (code : ℕ) : Type 0 where
  pub answer : Answer
  pub shows : Shows query produced sets order rows answer after
  pub coded : code ≡ answer_code answer
