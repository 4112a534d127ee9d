-- What an order and a dependency by value stand for, in the terms of the theory.
use Rattle.std.specs.Prelude.{ℕ, ◌≤◌, ◌≡◌, List, [], ◌∷◌, take, get_or}
use Rattle.theory.specs.Orders as theory
use Rattle.orders.specs.declared.Order.{Order}
use Rattle.orders.specs.declared.Rule.{Rule}
use Rattle.orders.specs.declared.Rule.TheVariants.{Fix, Equal}
use Rattle.orders.specs.declared.Dependency.{Dependency}

-- The *order* that a value stands for: its first `len` entries, all four where `len` is more.
abbrev pub order_of : Order → List ℕ
order_of o = take o.len o.entries

-- A value that was made stands for the order l, and its length is what it says.
pub record OrderIs (o : Order) (l : List ℕ) : Type 0 where
  pub order : order_of o ≡ l
  pub short : o.len ≤ 4

-- The *fix* or *equal* that a rule by value stands for. A fix has its left columns first, then the right one.
abbrev pub rule_is : Rule → theory.Rule
rule_is (Fix n a b c d) = theory.fix (take n (a ∷ b ∷ c ∷ d ∷ [])) (get_or (a ∷ b ∷ c ∷ d ∷ []) n 0)
rule_is (Equal a b) = theory.equal a b

-- The *dependency* that a value stands for: a rule and the set to which it belongs.
abbrev pub dependency_is : Dependency → theory.Dependency
dependency_is d = record { set = d.set; rule = rule_is d.rule }
