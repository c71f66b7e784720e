-- The numbers of the table are computed: 64 steps of each half octet at each place.
use Rattle.std.proofs.Common.{ℕ, List, [], ◌≡◌, ◌*◌, ◌^◌, ◌%◌, ◌<◌, map, get_or, refl, ap, ◌∙◌, arith}
use Rattle.std.specs.List.{range_with_len}
use Rattle.std.proofs.lemmas.List.FromFn.{get_or-map-range_with_len}
use Rattle.fcs_steps.specs.Steps.{bits, bit}
use Rattle.fcs_steps.proofs.entry.Goals as goal

-- 64 steps of each half octet at place j
abbrev numbers : ℕ → List ℕ
numbers j = map (λ (k : ℕ). bits 64 (k * 2 ^ (4 * j))) (range_with_len 0 16)

looked_up : (t : List (List ℕ)) (j k : ℕ) → t ≡ map numbers (range_with_len 0 16) → j < 16 → k < 16
    → get_or (get_or t j []) k 0 ≡ bits 64 (k * 2 ^ (4 * j))
looked_up t j k e hj hk =
    ap (λ (u : List (List ℕ)). get_or (get_or u j []) k 0) e
    ∙ ap (λ (r : List ℕ). get_or r k 0) (get_or-map-range_with_len numbers 0 16 j j [] hj (omega arith))
    ∙ get_or-map-range_with_len (λ (i : ℕ). bits 64 (i * 2 ^ (4 * j))) 0 16 k k 0 hk (omega arith)

pub returns : goal.returns
unfolding bits bit
returns c = looked_up _ c.args.j (c.args.x % 16) refl c.requires (omega arith)
