-- The octets are folded as the register is.
use Rattle.std.proofs.Common.{ℕ, ◌∙◌, rules, tests}
use Rattle.std.proofs.lemmas.Iterator.{YieldsList-from_slice}
use Rattle.std.proofs.lemmas.Iterator.Consumers.{fold_from_yields_List}
use lib.Bits.{bit_xor}
use Rattle.fcs_steps.specs.Steps.{bits}
use Rattle.fcs.proofs.Joined.{register-fold}
use Rattle.fcs.proofs.by_ones.Goals as goal

pub returns : goal.returns
returns c =
    let a = c.args in
    fold_from_yields_List _ (λ (c x : ℕ). bits 8 (bit_xor c x)) a.begun c.fold.result c.fold.ensures.ran
    (YieldsList-from_slice a.s.now cc) (λ d x r q k. search (rules, tests))
    ∙ register-fold a.begun a.s.now
