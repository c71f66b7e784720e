-- The worst value is a digit's where every octet is a digit.
use Rattle.std.proofs.Common.{ℕ, max, nat_lt, ap, ◌∙◌, rules, tests}
use Rattle.std.proofs.lemmas.Iterator.{YieldsList-from_slice}
use Rattle.std.proofs.lemmas.Iterator.Consumers.{fold_from_yields_List}
use Rattle.hexadecimal.specs.Hex.{digit}
use Rattle.hexadecimal.proofs.Digits.{hex-folded}
use Rattle.hexadecimal.proofs.is_hex.Goals as goal

pub returns : goal.returns
returns c =
    let s = c.args.s.now in
    let worst =
    fold_from_yields_List _ (λ (w x : ℕ). max w (digit x)) 0 c.fold-worst.result c.fold-worst.ensures.ran
    (YieldsList-from_slice s cc) (λ w x r q k. search (rules, tests)) in
    ap (λ (w : ℕ). nat_lt w 16) worst ∙ hex-folded s 0
