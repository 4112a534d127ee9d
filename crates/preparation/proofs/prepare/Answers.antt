-- `preparation::prepare` meets its contract: the arrows stand for the rules, the classes are theirs, and what is closed from nothing is settled by nothing.
use Rattle.preparation.proofs.StandLaws.{written_stands}
use Rattle.preparation.proofs.ClassLaws.{closes_none}
use Rattle.preparation.proofs.prepare.Goals as goal

pub returns : goal.returns
returns c =
    let listed = c.list in
    let rules = written_stands listed.ensures in
    record { rules = rules; settled = closes_none listed.new.arrows.items c.close-rules.result (rw c.deref.ensures.0 at c.close-rules.ensures) _ rules; classed = c.classes-rules.ensures }
