-- `order_search::same` meets its contract: two orders are compared entry by entry.
use mathlib.Core.Path.{sym, ◌∙◌}
use mathlib.Core.Bool.{true≢false}
use Rattle.std.proofs.lemmas.Bool.Decides.{Decides-eqb}
use Rattle.std.proofs.lemmas.Slice.Eq.{slice_eq-Decides}
use Rattle.orders.specs.Orders.{order_of}
use Rattle.theory.proofs.Reflect.{says_one, says_by, decides_order}
use Rattle.order_search.proofs.same.Goals as goal

pub returns : goal.returns
returns c = let a = order_of c.args.a in let b = order_of c.args.b in
    let d = slice_eq-Decides Decides-eqb a b c.eq.result cc in
    says_one (says_by c.eq.result d.0 (λ e p. absurd (true≢false (sym (d.1 p) ∙ e)))) (decides_order a b)
