-- `arrows::add_rule` meets its contract: the arrow of a fix, or one arrow of an equal and the other behind it.
use mathlib.Core.Path.{subst}
use Rattle.theory.specs.Orders.{columns_of}
use Rattle.orders.specs.declared.Rule.{Rule}
use Rattle.orders.specs.Orders.{order_of, rule_is}
use Rattle.column_masks.specs.Masks.{Narrow}
use Rattle.column_masks.proofs.MaskLaws.{narrow_swap}
use Rattle.arrows.specs.Arrows.{column_arrow}
use Rattle.arrows.proofs.ArrowLaws.{adding_one, adding_more}
use Rattle.arrows.proofs.add_rule.Goals as goal

pub between-requires : goal.between-requires
between-requires g c =
    rw (c.entry-to.ensures, c.front-from.ensures.order) (subst (λ (r : Rule). Narrow (columns_of (rule_is r))) c.in-Fix.is c.requires.0)

pub between-one-requires : goal.between-one-requires
between-one-requires g c =
    rw c.single.ensures (narrow_swap c.in-Equal.a c.in-Equal.b (subst (λ (r : Rule). Narrow (columns_of (rule_is r))) c.in-Equal.is c.requires.0))

pub between-other-requires : goal.between-other-requires
between-other-requires g c = rw c.single-in-Equal.ensures (subst (λ (r : Rule). Narrow (columns_of (rule_is r))) c.in-Equal.is c.requires.0)

pub returns-in-Fix : goal.returns-in-Fix
returns-in-Fix g c =
    let columns = column_arrow (order_of c.front-from.result) c.entry-to.result in
    let added = adding_one c.args.arrows.now.items columns c.between.result c.between.ensures in
    rw (c.in-Fix.is, c.push.ensures.items) (rw (c.entry-to.ensures, c.front-from.ensures.order) at added)

pub returns-in-Equal : goal.returns-in-Equal
returns-in-Equal g c =
    let one = adding_one c.args.arrows.now.items (column_arrow (order_of c.single.result) c.in-Equal.b) c.between-one.result c.between-one.ensures in
    let other = adding_one c.push-in-Equal.new.self.items (column_arrow (order_of c.single-in-Equal.result) c.in-Equal.a) c.between-other.result c.between-other.ensures in
    rw (c.in-Equal.is, c.push-in-Equal-2.ensures.items)
    (adding_more (rw (c.single.ensures, ← c.push-in-Equal.ensures.items) at one) (rw c.single-in-Equal.ensures at other))
