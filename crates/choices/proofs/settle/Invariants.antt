use Rattle.choices.specs.Words.{WordsBelow}
use Rattle.choices.proofs.settle.Given as goal

abbrev pub invariant-loop-x : goal.invariant-loop-x
invariant-loop-x l = WordsBelow l.query l.work l.x
