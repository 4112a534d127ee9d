-- What the functions that number rows promise.
use Rattle.std.specs.Prelude.{ℕ, suc, ◌+◌, ◌*◌, ◌-◌, ◌^◌, ◌≤◌, ◌<◌, ◌≡◌, Option, MatchOption, length, take, get_or}
use mathlib.Core.List.{List, [], map, flatten}
use Rattle.theory.specs.Tests.{position, up_from}
use Rattle.theory.specs.Limits.{max_states}
use Rattle.theory.specs.NumberingWalk.{add, add_all, walk}
use Rattle.theory.specs.Machine.{Sizes, Machine, numbered_within}
use Rattle.theory.specs.AnswerTree.{AnswerTree, take_tree, held_now, same_tree}
use Rattle.theory.specs.Query.{Bytes, byte_at}
use Rattle.theory.specs.Table.{held_bytes}
use Rattle.theory.specs.Scratch.{held_part, successors_part, starts_part, rows_machine, rows_table}
use Rattle.query_sizes.specs.declared.Sizes as given
use Rattle.open_sets.specs.Open.{state_of}
use Rattle.row_pairs.specs.RowPairs.{Pairs}
use Rattle.row_search.specs.RowStates.{row_state, row_states, Wholes}
use Rattle.table_rows.specs.declared.numbered.RowNumber.{RowNumber}

-- The state x was numbered: of `before` rows, it kept its number, or got the next one.
pub record Numbered (n bits sets : ℕ) (work after : Bytes) (x : AnswerTree) (before : ℕ) (r : RowNumber) : Type 0 where
  pub more : before ≤ r.count
  pub one : r.count ≤ before + 1
  pub pairs : Pairs sets after r.count
  pub wholes : Wholes n bits sets after r.count
  pub states : row_states bits sets after r.count ≡ add same_tree (row_states bits sets work before) x
  pub place : r.number ≡ position same_tree x (row_states bits sets after r.count)
  pub below : r.number < r.count

-- The state x was numbered among the first `before` rows, or there was no room.
pub record Numbering (n bits sets : ℕ) (work after : Bytes) (x : AnswerTree) (before : ℕ) (r : Option RowNumber) : Type 0 where
  pub kept : length after ≡ length work
  pub words : take held_part after ≡ take held_part work
  pub behind : (k : ℕ) → successors_part ≤ k → byte_at after k ≡ byte_at work k
  pub row : MatchOption r (max_states < length (add same_tree (row_states bits sets work before) x)) (Numbered n bits sets work after x before)

-- The machine that the words say, and its numbered states.
abbrev pub machine_of : (z : Sizes) → Bytes → Machine AnswerTree
machine_of z words = rows_machine (z.produced + z.tested) z.sets words

abbrev pub states_of : (z : Sizes) → Bytes → List AnswerTree
states_of z words = numbered_within (machine_of z words) max_states z

-- The walk from found states on, at number i.
abbrev pub walk_on : (z : Sizes) → (fuel : ℕ) → List AnswerTree → ℕ → List AnswerTree
walk_on z fuel found i = walk same_tree (λ x. map (take_tree x) (up_from 0 z.sets)) max_states fuel found i

-- The rows found so far; when the rest are added to them too, the walk from there has all states. The first `begun` starts and the first `taken` successors are written.
pub record RowsWalking (z : Sizes) (words work : Bytes) (count : ℕ) (rest : List AnswerTree) (fuel next begun taken : ℕ) : Type 0 where
  pub pairs : Pairs z.sets work count
  pub wholes : Wholes z.produced (z.produced + z.tested) z.sets work count
  pub first : take held_part work ≡ words
  pub ahead : states_of z words ≡ walk_on z fuel (add_all same_tree (row_states (z.produced + z.tested) z.sets work count) rest) next
  pub starts : (p : ℕ) → p < begun → byte_at work (starts_part + p) ≡ get_or (rows_table z words).starts p 0
  pub successors : (j : ℕ) → j < taken → byte_at work (successors_part + j) ≡ get_or (flatten (rows_table z words).successors) j 0

-- The starts before number p are numbered.
abbrev pub Starting : (z : Sizes) → Bytes → Bytes → ℕ → ℕ → Type 0
Starting z words work count p = RowsWalking z words work count (map (machine_of z words).start (up_from p (z.produced - p))) (suc max_states) 0 p 0

-- The rows before number i have been visited.
abbrev pub RowsVisited : (z : Sizes) → Bytes → Bytes → ℕ → ℕ → Type 0
RowsVisited z words work count i = RowsWalking z words work count [] (suc max_states - i) i z.produced (i * z.sets)

-- Row i, whose state is x, has taken the sets before number s.
abbrev pub Visiting : (z : Sizes) → Bytes → Bytes → ℕ → AnswerTree → ℕ → ℕ → Type 0
Visiting z words work count x i s = RowsWalking z words work count (map (take_tree x) (up_from s (z.sets - s))) (max_states - i) (suc i) z.produced (i * z.sets + s)

-- State i of all is what the pair of p and m gives, and row i has taken the sets before number s.
pub record Taking (z : Sizes) (words work : Bytes) (count i p m s : ℕ) : Type 0 where
  pub order : p < z.produced
  pub choice : m < 2 ^ z.sets
  pub within : i < count
  pub row : i < length (states_of z words)
  pub state : get_or (states_of z words) i (state_of (z.produced + z.tested) z.sets words p m) ≡ state_of (z.produced + z.tested) z.sets words p m
  pub visiting : Visiting z words work count (state_of (z.produced + z.tested) z.sets words p m) i s

-- There was room for the rows, and those before number i have been visited; or there are more.
abbrev pub Walked : (z : Sizes) → Bytes → Bytes → Option ℕ → ℕ → Type 0
Walked z words work r i = MatchOption r (max_states < length (states_of z words)) (λ count. (i ≤ count) × RowsVisited z words work count i)

-- There was room for the rows, and all have been visited; or there are more.
abbrev pub WalkedAll : (z : Sizes) → Bytes → Bytes → Option ℕ → Type 0
WalkedAll z words work r = MatchOption r (max_states < length (states_of z words)) (λ count. RowsVisited z words work count count)

-- The sizes, as the functions are given them.
abbrev pub sizes_of : given.Sizes → Sizes
sizes_of sizes = record { produced = sizes.produced; tested = sizes.tested; sets = sizes.sets }

-- What row i holds, as two bytes.
abbrev pub held_row : (bits sets : ℕ) → Bytes → ℕ → Bytes
held_row bits sets work i = held_bytes (held_now (row_state bits sets work i))
