-- `decimal::read` meets its contract. The loop's invariant: the first bytes are digits, and n is their value, or that it is large.
use native.Mathlib.Omega.{arith}
use borrow.Author.Count.{below_more}
use Rattle.theory.specs.Query.{byte_at}
use Rattle.decimal.specs.Words.{Digit}
use Rattle.decimal.proofs.WordLaws.{read_more}
use Rattle.decimal.proofs.read.Goals as goal

pub loop-byte-preserved : goal.loop-byte-preserved
loop-byte-preserved c =
    let l = c.loop-byte in
    let word = c.args.word.now in
    let digit = c.if-not-is_ascii_digit.ensures.cases in
    record {
      digits = below_more (λ k. Digit (byte_at word k)) l.byte-index l.invariant.digits (record { low = digit.0; high = digit.1 });
      value = read_more word l.byte-index l.n (omega arith) l.invariant.value c.longer-n.ensures;
    }
