-- No query has more than 165 bytes: of a longer one, its first 256 bytes have the same refusal.
use Prim.Native.Nat.{ℕ, ◌+◌, ◌*◌, ◌≤◌}
use native.Mathlib.Omega.{arith}
use mathlib.Core.Path.{◌≡◌}
use mathlib.Core.Logic.{◌≢◌}
use lib.Dec.{eqb, ltb}
use lib.ListN.{length, take, length-take}
use lib.Seq.{get_or-take}
use borrow.Author.Tests.{ltb-false, le-ltb, ne_eqb}
use Rattle.theory.specs.Limits.{max_columns, max_produced, max_tested, max_sets, max_dependencies, query_sizes, item_width, query_front}
use Rattle.theory.specs.Tests.{pick}
use Rattle.theory.specs.Refusals.{passed, length_refused, size_refused}
use Rattle.theory.specs.Query.{Bytes, byte_at, outside, sizes_refusal, query_refusal}
use Rattle.theory.proofs.RefusalLaws.{pick_alike, neither, or_passed}
use Rattle.theory.proofs.QueryLaws.{sizes_fit}

-- refusals 1, 2, 1 of a query, from its length and its sizes N, P, T, S, D as numbers
abbrev query_sizes_refusal : (len n p t s d : ℕ) → ℕ
query_sizes_refusal len n p t s d =
    pick (ltb len query_sizes) length_refused
    (pick (outside 1 max_columns n) size_refused
    (pick (outside 1 max_produced p) size_refused
    (pick (ltb max_tested t) size_refused
    (pick (ltb max_sets s) size_refused
    (pick (ltb max_dependencies d) size_refused
    (pick (eqb len (query_sizes + item_width * (p + t + d))) passed length_refused))))))

-- no sizes imply as many as 166 bytes: all numbers of bytes from there on are refused alike
sizes_long : (x y n p t s d : ℕ) → 166 ≤ x → 166 ≤ y → query_sizes_refusal x n p t s d ≡ query_sizes_refusal y n p t s d
sizes_long x y n p t s d hx hy =
    rw (le-ltb x 5 (omega arith), le-ltb y 5 (omega arith))
    (pick_alike (outside 1 12 n) size_refused
    (λ _. pick_alike (outside 1 8 p) size_refused
    (λ ep. pick_alike (ltb 8 t) size_refused (λ et. pick_alike (ltb 8 s) size_refused (λ _. pick_alike (ltb 16 d) size_refused (λ ed. last (ltb-false 8 p (neither (ltb p 1) (ltb 8 p) ep).1) (ltb-false 8 t et) (ltb-false 16 d ed)))))))
  where
    last : p ≤ 8 → t ≤ 8 → d ≤ 16 → pick (eqb x (5 + 5 * (p + t + d))) passed length_refused ≡ pick (eqb y (5 + 5 * (p + t + d))) passed length_refused
    last hp ht hd = rw (ne_eqb x (5 + 5 * (p + t + d)) (λ e. omega arith), ne_eqb y (5 + 5 * (p + t + d)) (λ e. omega arith))

long_refused : (b : Bytes) → 166 ≤ length b → sizes_refusal b ≢ passed
long_refused b h e = let f = sizes_fit b e in omega arith

module _ (b : Bytes) (h : 166 ≤ length b) where
  front_long : 166 ≤ length (take query_front b)
  front_long = rw length-take (omega arith)

  sizes_front : sizes_refusal (take query_front b) ≡ sizes_refusal b
  unfolding sizes_refusal
  sizes_front =
      rw (get_or-take query_front b 0 0 (omega arith), get_or-take query_front b 1 0 (omega arith), get_or-take query_front b 2 0 (omega arith), get_or-take query_front b 3 0 (omega arith), get_or-take query_front b 4 0 (omega arith))
      (sizes_long (length (take query_front b)) (length b) (byte_at b 0) (byte_at b 1) (byte_at b 2) (byte_at b 3) (byte_at b 4) front_long h)

  -- The first 256 bytes of a longer query are refused as it is ..
  pub query_front_lem : query_refusal (take query_front b) ≡ query_refusal b
  unfolding query_refusal
  query_front_lem = rw (ne_eqb (sizes_refusal (take query_front b)) passed (long_refused (take query_front b) front_long), ne_eqb (sizes_refusal b) passed (long_refused b h)) sizes_front

  -- .. and it is refused.
  pub long_unpassed : query_refusal b ≢ passed
  unfolding query_refusal
  long_unpassed e = long_refused b h (or_passed (sizes_refusal b) _ e).0
