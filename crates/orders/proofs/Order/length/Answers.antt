-- `Order::length` meets its contract: as many columns as `len` says, four at most.
use native.Mathlib.Omega.{arith}
use mathlib.Core.Path.{◌≡◌}
use lib.ListN.{length, length-take}
use borrow.Author.Rules.{rules}
use Rattle.orders.proofs.Order.length.Goals as goal

pub returns : goal.returns
returns c = let h : length c.args.self.entries ≡ 4 = search rules in omega (arith, length-take c.args.self.len c.args.self.entries)
