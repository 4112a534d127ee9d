-- `query::dependency` meets its contract, by what was read.
use Rattle.query.proofs.dependency.Goals as goal

pub returns : goal.returns
returns c = cc
