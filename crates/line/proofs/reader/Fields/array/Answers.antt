-- The octets of a field fill an array as they fill any target of its length.
use Rattle.std.proofs.Common.{◌≡◌, ℕ, List, true, false, cond, ◌+◌, ◌*◌, drop, replicate, Some, subst, ap, ◌∙◌, refl, rules}
use Rattle.octets.specs.Octets.{part}
use lib.ListN.{length-replicate}
use Rattle.hexadecimal.specs.Hex.{octets_of}
use Rattle.line.specs.Line.{has_digits}
use Rattle.line.proofs.Reading.{read_none, read_some}
use Rattle.line.proofs.reader.Fields.array.Goals as goal

pub returns-in_err-octets : goal.returns-in_err-octets
returns-in_err-octets g c =
    let s : List ℕ = c.args.self.now in
    let r = c.in_err-octets.ensures.reads in
    let long = length-replicate {A = ℕ} g.row.N 0 in
    let h : has_digits s (2 * g.row.N) ≡ false =
    subst (λ (n : ℕ). has_digits s (2 * n) ≡ false) long (read_none r) in
    record {
      answer = rw h (search rules);
      rest = subst (λ (n : ℕ). c.octets.new.self ≡ cond (has_digits s (2 * n)) (drop (2 * n + 1) s) s) long r.rest;
    }

pub returns : goal.returns
returns g c =
    let s : List ℕ = c.args.self.now in
    let e = c.in_ok-octets.ensures in
    let long = length-replicate {A = ℕ} g.row.N 0 in
    let h : has_digits s (2 * g.row.N) ≡ true =
    subst (λ (n : ℕ). has_digits s (2 * n) ≡ true) long (read_some e.reads).0 in
    let target : c.octets.new.target
    ≡ cond (has_digits s (2 * g.row.N)) (octets_of (part (2 * g.row.N) 1 s)) (replicate g.row.N 0) =
    subst (λ (n : ℕ). c.octets.new.target
    ≡ cond (has_digits s (2 * n)) (octets_of (part (2 * n) 1 s)) (replicate g.row.N 0)) long e.target_after in
    record {
      answer = rw h (ap Some (target ∙ rw h refl));
      rest = subst (λ (n : ℕ). c.octets.new.self ≡ cond (has_digits s (2 * n)) (drop (2 * n + 1) s) s) long e.reads.rest;
    }
