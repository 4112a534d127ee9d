-- `open_sets::open_order` meets its contract. The invariant: the open sets of the produced order under the choices from m on lie in their places.
use Prim.Native.Nat.{ℕ, ◌+◌, ◌-◌, ◌^◌, ◌≤◌, ◌<◌}
use native.Mathlib.Omega.{arith}
use mathlib.Core.Path.{sym, ◌∙◌, ap, subst}
use lib.ListN.{length, take, set, length-set}
use borrow.Author.Rules.{rules}
use Rattle.theory.specs.Scratch.{held_part, work_length}
use Rattle.open_sets.specs.Open.{OpenSets, Opened}
use Rattle.open_sets.proofs.OpenPairs.{OpenFrom, next_opened, opened_more, written_words, written_earlier, written_from}
use Rattle.open_sets.proofs.open_order.Goals as goal

pub gather-requires : goal.gather-requires
gather-requires c =
    let a = c.args in
    let z = a.sizes in
    let l = c.loop-m in
    (next_opened (z.produced + z.tested) z.sets a.p (l.m - 1) (take held_part a.work.now) l.work l.invariant.2 (omega arith) (λ k h d. l.invariant.1 k (omega arith) d), search rules, omega arith, omega arith)

pub loop-m-preserved : goal.loop-m-preserved
loop-m-preserved c =
    let a = c.args in
    let z = a.sizes in
    let bits : ℕ = z.produced + z.tested in
    let l = c.loop-m in
    let at = c.place-at.ensures.0 in
    let v = c.gather.result in
    let words = take held_part a.work.now in
    let low : l.m - 1 < 2 ^ z.sets = omega arith in
    let long : work_length ≤ length l.work = omega arith in (
      subst (λ k. Opened a.p bits z.sets words (set l.work k v)) (sym at) (written_earlier z.sets a.p (l.m - 1) v l.work c.requires.1 z.few_sets low long bits words l.invariant.0),
      subst (λ k. OpenFrom bits z.sets words (set l.work k v) a.p (l.m - 1)) (sym at)
          (written_from z.sets a.p (l.m - 1) v l.work c.requires.1 z.few_sets low long bits words
          (subst (λ w. OpenSets bits z.sets w a.p (l.m - 1) v) l.invariant.2 c.gather.ensures.0) (λ k h d. l.invariant.1 k (omega arith) d)),
      (ap (λ k. take held_part (set l.work k v)) at ∙ written_words z.sets a.p (l.m - 1) v l.work c.requires.1 z.few_sets low long) ∙ l.invariant.2,
      length-set l.work c.place-at.result v ∙ l.invariant.3,
    )

pub returns : goal.returns
returns c =
    let a = c.args in
    let z = a.sizes in
    let l = c.loop-m in
    (opened_more (z.produced + z.tested) z.sets a.p (take held_part a.work.now) l.work l.invariant.0 (λ k h d. l.invariant.1 k (omega arith) d), l.invariant.2, l.invariant.3)
