-- `choices::settle_choice` meets its contract. The invariant: the held bytes of the produced orders before p are written.
use Prim.Native.Nat.{◌/◌, ◌%◌, ◌^◌, ◌<◌}
use native.Mathlib.Omega.{arith}
use mathlib.Core.Path.{sym, ◌∙◌, ap, ap₂, subst}
use mathlib.Core.List.{[], ◌∷◌}
use lib.ListN.{get_or}
use Rattle.theory.specs.Tests.{bits_of}
use Rattle.theory.specs.Construction.{held_under}
use Rattle.theory.specs.Query.{produced_count, read_query}
use Rattle.theory.specs.Table.{number}
use Rattle.theory.specs.Scratch.{pair_at}
use Rattle.theory.specs.Placed.{placed}
use Rattle.theory.proofs.ChoiceNumbers.{word_bytes}
use Rattle.theory.proofs.QueryLaws.{set_count_lem}
use Rattle.rules_in_force.specs.Rules.{rules_at}
use Rattle.choices.specs.Words.{bytes_under}
use Rattle.choices.proofs.HeldLaws.{held_bits_lem}
use Rattle.choices.proofs.WordLaws.{settled_more}
use Rattle.choices.proofs.settle_choice.Goals as goal

pub write-requires : goal.write-requires
write-requires c = let sizes = c.sizes-sizes in
    (omega (arith, c.requires.1, sizes.ensures.produced, sizes.result.few_produced), subst (λ k. c.args.x < 2 ^ k) (set_count_lem c.args.query.now ∙ sym sizes.ensures.sets) c.requires.0, omega (arith, c.requires.2))

pub loop-p-preserved : goal.loop-p-preserved
loop-p-preserved c =
    let a = c.args in
    let b = a.query.now in
    let l = c.loop-p in
    let below : l.p < produced_count b = omega (arith, c.requires.1) in
    let held = c.word-word.ensures (rules_at b a.x) c.prepare.ensures ∙ ap number (held_bits_lem b a.x l.p below) in
    c.write.ensures
    ∙ ap₂ (λ n w. placed (pair_at n l.p a.x) (w % 256 ∷ w / 256 ∷ []) l.work) (c.sizes-sizes.ensures.sets ∙ sym (set_count_lem b)) held
    ∙ ap (λ w. placed (pair_at (read_query b).sets l.p a.x) w l.work) (sym (word_bytes (held_under (read_query b) (get_or (read_query b).produced l.p []) (bits_of (read_query b).sets a.x))))
    ∙ ap (placed (pair_at (read_query b).sets l.p a.x) (bytes_under b l.p a.x)) l.invariant
    ∙ settled_more b a.x a.from l.p a.work.now (omega arith)
