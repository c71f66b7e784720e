-- A line of the form has its fields within it, and no more digits than the buffer has room for.
use Rattle.std.proofs.Common.{◌≡◌, ℕ, List, ◌-◌, ◌/◌, true, length, take, drop, ap, ◌∙◌, length-drop, arith, rules}
use Rattle.octets.specs.Octets.{put}
use Rattle.hexadecimal.specs.Hex.{octets_of}
use Rattle.hexadecimal.proofs.Digits.{octets-length}
use Rattle.capture.specs.Frame.{is_frame, datagram_of}
use Rattle.capture.proofs.Frames.{whole, rest}
use Rattle.capture.proofs.read_frame.Goals as goal

pub decode-requires : goal.decode-requires
decode-requires c =
    let s : List ℕ = c.args.s.now in
    let f : is_frame s ≡ true = search rules in
    let w = whole s f in
    let t : take (length s - 35) (drop 35 s) ≡ drop 35 s = rest s 35 in
    rw t (record { digits_value = w.datagram; digits_in_bounds = omega arith })

pub returns : goal.returns
returns c =
    let s : List ℕ = c.args.s.now in
    let f : is_frame s ≡ true = search rules in
    let t : take (length s - 35) (drop 35 s) ≡ drop 35 s = rest s 35 in
    let o : length (datagram_of s) ≡ (length s - 35) / 2 =
    octets-length (drop 35 s) ∙ ap (λ (n : ℕ). n / 2) (length-drop 35 s) in
    record {
      answer = rw f (cc (c.word_at.ensures, c.word_at-2.ensures, c.number.ensures, o));
      buffer = rw f (c.decode.ensures ∙ ap (λ (d : List ℕ). put 0 (octets_of d) c.args.buffer.now) t);
    }
