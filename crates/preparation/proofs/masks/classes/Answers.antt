-- `preparation::masks::classes` meets its contract. The loop's invariant: the masks below c have what their columns settle under the equals.
use native.Mathlib.Omega.{arith}
use mathlib.Core.Path.{◌≡◌, ◌∙◌, subst₂}
use lib.ListN.{length-set}
use Rattle.closure.specs.Closing.{Closes}
use Rattle.rules_in_force.specs.Rules.{rules_at}
use Rattle.preparation.proofs.StandLaws.{written_stands, only_equals}
use Rattle.preparation.proofs.ClassLaws.{classed_more, classed_end}
use Rattle.preparation.proofs.masks.classes.Goals as goal

pub loop-c-preserved : goal.loop-c-preserved
loop-c-preserved c = let at = c.loop-c in (
  length-set at.classes at.c c.close.result ∙ at.invariant.0,
  classed_more c.list.new.arrows.items at.classes at.c c.close.result (omega arith) at.invariant.1
      (subst₂ (λ arrows m. Closes arrows m c.close.result) c.deref.ensures.0 c.bit.ensures c.close.ensures),
)

pub returns : goal.returns
returns c = let at = c.loop-c in let equals = c.list in let rules = rules_at c.args.query.now c.args.x in
    let end : at.c ≡ 16 = omega arith in
    classed_end equals.new.arrows.items at.classes rules (written_stands (rw (only_equals rules) at equals.ensures)) (rw end at at.invariant.1)
