-- The tests of the code are those of the definition, in another grouping.
use Rattle.std.proofs.Common.{◌≡◌, ℕ, List, Bool, true, ◌&&◌, drop, sym, ap, ◌∙◌}
use Rattle.capture.specs.Frame.{space_at, digits_at, has_pair, is_datagram}
use Rattle.capture.proofs.Frames.{front, rest}
use Rattle.capture.proofs.is_frame.Goals as goal

pub returns-then-has_front : goal.returns-then-has_front
returns-then-has_front c =
    let s : List ℕ = c.args.s.now in
    let f : (has_pair s && (space_at 17 s && (digits_at 16 18 s && space_at 34 s))) ≡ true = sym c.has_front.ensures ∙ c.if-has_front.true in
    c.is_datagram.ensures ∙ ap is_datagram (rest s 35) ∙ sym (ap (λ (b : Bool). b && is_datagram (drop 35 s)) f) ∙ front s
