-- The fewest digits in base 10 that hold a number of 64 bits are its decimal digits; a signed number's sign and absolute value.
-- Assumes nothing.
use Rattle.std.proofs.Common.{◌≡◌, ℕ, zero, suc, ◌+◌, ◌-◌, ◌*◌, ◌/◌, ◌%◌, ◌^◌, ◌<◌, ◌≤◌, Bool, true, false, cond, List, [], ◌∷◌, ◌++◌, ℤ, pos, negsuc, sym, ap, ◌∙◌, subst, ap₂, true≢false, pow-suc, arith, ltb-true, le-ltb, lt-ltb}
use native.Mathlib.Nat.{one-le-pow}
use lib.Signed.{lt_z}
use Rattle.std.specs.Prelude.{nat_abs}
use Rattle.io.specs.Digits.{hex_digit_ascii, last_digits, IsDigitCount}
use Rattle.answer.specs.Answer.{ascii, decimal_in, decimal_of, decimal, signed}

figure : (x : ℕ) → hex_digit_ascii (x % 10) ≡ 48 + x % 10
figure x = ap (λ (b : Bool). cond b (48 + x % 10) (87 + x % 10)) (lt-ltb (x % 10) 10 (omega arith))

-- a number of one digit
one : (j x : ℕ) → x < 10 → last_digits 10 1 x ≡ decimal_in (suc j) x
unfolding decimal_in
one j x h =
    let e : x % 10 ≡ x = omega arith in
    ap (λ (d : ℕ). d ∷ []) (figure x ∙ ap (λ (d : ℕ). 48 + d) e)
    ∙ sym (ap (λ (b : Bool). cond b ((48 + x) ∷ []) (decimal_in j (x / 10) ++ ((48 + x % 10) ∷ []))) (lt-ltb x 10 h))

-- two digits are wanted of no number below 10
least : (x k : ℕ) → IsDigitCount 10 1 x (suc (suc k)) → 10 ^ suc k ≤ x
least x k f =
    let e : suc (suc k) - 1 ≡ suc k = omega arith in
    subst (λ (m : ℕ). 10 ^ m ≤ x) e (f.2 (omega arith))

ten : (k : ℕ) → 10 ≤ 10 ^ suc k
ten k = omega (arith, one-le-pow k 10 (omega arith), pow-suc 10 k)

-- what is left of a number without its last digit
fewer : (x k : ℕ) → IsDigitCount 10 1 x (suc (suc k)) → IsDigitCount 10 1 (x / 10) (suc k)
fewer x k f =
    let a : x < 10 ^ suc k * 10 = subst (λ (p : ℕ). x < p) (pow-suc 10 (suc k)) f.1 in
    let b : 10 ^ k * 10 ≤ x = subst (λ (p : ℕ). p ≤ x) (pow-suc 10 k) (least x k f) in
    let e : k ≡ suc k - 1 = omega arith in
    (omega arith, omega arith, λ _. subst (λ (m : ℕ). 10 ^ m ≤ x / 10) e (omega arith))

-- digit by digit
spelt : (j k x : ℕ) → x < 10 ^ suc j → IsDigitCount 10 1 x k → last_digits 10 k x ≡ decimal_in (suc j) x
unfolding decimal_in
spelt j zero x h f = absurd (omega (arith, f.0))
spelt j (suc zero) x h f = one j x f.1
spelt zero (suc (suc k)) x h f = absurd (omega (arith, ten k, least x k f))
spelt (suc j) (suc (suc k)) x h f =
    let a : x < 10 ^ suc j * 10 = subst (λ (p : ℕ). x < p) (pow-suc 10 (suc j)) h in
    ap₂ (λ (ds : List ℕ) (d : ℕ). ds ++ (d ∷ [])) (spelt j (suc k) (x / 10) (omega arith) (fewer x k f)) (figure x)
    ∙ sym (ap (λ (b : Bool). cond b ((48 + x) ∷ []) (decimal_in (suc j) (x / 10) ++ ((48 + x % 10) ∷ []))) (le-ltb x 10 (omega (arith, ten k, least x k f))))

pub decimal-is : (x k : ℕ) → x < 2 ^ 64 → IsDigitCount 10 1 x k → last_digits 10 k x ≡ decimal_of x
unfolding decimal_of
decimal-is x k h f = spelt 19 k x (omega arith) f

-- a negative number is a minus sign and its absolute value
pub negative : (x : ℤ) (v : ℕ) → lt_z x (pos 0) ≡ true → v ≡ nat_abs x → signed x ≡ ascii " -" ∷ decimal_of v ∷ []
unfolding signed
negative (pos n) v h e = absurd (omega (arith, ltb-true n 0 h))
negative (negsuc n) v h e = ap (λ (k : ℕ). ascii " -" ∷ decimal_of k ∷ []) (sym e)

pub not_negative : (x : ℤ) (v : ℕ) → lt_z x (pos 0) ≡ false → v ≡ nat_abs x → signed x ≡ decimal v
unfolding signed
not_negative (pos n) v h e = ap decimal (sym e)
not_negative (negsuc n) v h e = absurd (true≢false h)
