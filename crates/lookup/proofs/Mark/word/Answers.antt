-- `lookup::Mark::word` meets its contract: where nothing is refused the word is there.
use mathlib.Core.Path.{◌∙◌, ap}
use Rattle.std.proofs.lemmas.Result.{err_from_is_err_and}
use Rattle.theory.specs.Table.{grant, word_in, word}
use Rattle.numbers.proofs.RefusalLaws.{refused}
use Rattle.lookup.proofs.LookupLaws.{read_refuses, read_listed}
use Rattle.lookup.proofs.Mark.word.Goals as goal

pub returns-in_err-formed : goal.returns-in_err-formed
unfolding word
returns-in_err-formed c =
    let p = err_from_is_err_and c.from_residual.result c.from_residual.ensures.1 in
    let e = c.in_err-formed.ensures.refusal in
    let f = refused c.in_err-formed.field-0.0 in
    record {
      result_value = rw (p.1, p.2) (read_refuses c.args.table.now c.args.self.state.0 _ e f);
      listed_word = rw (p.1, p.2) (read_listed c.args.table.now c.args.self.state.0 e f);
    }

pub returns-clause-result_value : goal.returns-clause-result_value
unfolding word
returns-clause-result_value c =
    rw (← c.in_ok-formed.ensures.refusal) (ap grant (c.held_word.ensures ∙ ap (λ t. word_in t c.args.self.state.0) c.in_ok-formed.ensures.bytes))
