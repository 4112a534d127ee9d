-- The outcome for what was read is that of the whole files.
use Prim.Native.Nat.{ℕ}
use mathlib.Core.Path.{◌≡◌, sym, ◌∙◌, ap, ap₂, subst}
use Rattle.theory.specs.Limits.{scratch_length}
use Rattle.theory.specs.Query.{Bytes}
use Rattle.theory.specs.Verification.{verify_refusal}
use Rattle.text.specs.Text.{Printed}
use Rattle.verify.proofs.FrontLaws.{verify_front}
use Rattle.order_verify.specs.Verdict.{verdict_line, VerdictPrinted}

pub decides : (query t : Bytes) {before after : Bytes} {scratch n r : ℕ} → scratch ≡ scratch_length → r ≡ verify_refusal query t scratch → Printed before (verdict_line r) after n
    → VerdictPrinted query t before after n
decides query t {before} {after} {n = n} enough e p =
    let own = subst (λ k. Printed before (verdict_line k) after n) (e ∙ ap (verify_refusal query t) enough) p in
    record {
      own = own;
      longer = λ q u eq eu. subst (λ k. Printed before (verdict_line k) after n) (ap₂ (λ a b. verify_refusal a b scratch_length) (sym eq) (sym eu) ∙ verify_front q u scratch_length) own;
    }
