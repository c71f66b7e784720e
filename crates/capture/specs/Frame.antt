-- The lines of a capture: a head with the local counters, then one PD frame a line. Capitals only; LF is not part of a line.
use Rattle.std.specs.Prelude.{◌≡◌, ℕ, ◌%◌, List, ◌∷◌, ◌++◌, Bool, cond, ◌&&◌, eqb, leb, length, get_or, drop, Option, Some, None}
use Rattle.octets.specs.Octets.{part, put}
use Rattle.hexadecimal.specs.Hex.{is_hex, number, octets_of, digits_of, hex_of}
use Rattle.capture.specs.declared.Frame.{Frame}
use Rattle.topography.specs.declared.TopoCounts.{TopoCounts}

-- a space at a place of a line; a shorter line has none there
abbrev pub space_at : ℕ → List ℕ → Bool
space_at at s = eqb (get_or s at 0) 32

-- a field of digits at a place of a line: n of them where the line goes on behind it
abbrev pub digits_at : ℕ → ℕ → List ℕ → Bool
digits_at n at s = is_hex (part n at s)

abbrev pub number_at : ℕ → ℕ → List ℕ → ℕ
number_at n at s = number 0 (part n at s)

-- two fields of 8 digits at the front of a line, a single space between
abbrev pub has_pair : List ℕ → Bool
has_pair s = digits_at 8 0 s && (space_at 8 s && digits_at 8 9 s)

-- .. and nothing else
abbrev pub is_head : List ℕ → Bool
is_head s = eqb (length s) 17 && has_pair s

-- line 1: local etbTopoCnt and opTrnTopoCnt, 8 digits each; nothing where it has another form
abbrev pub head_of : List ℕ → Option TopoCounts
head_of s =
    cond (is_head s) (Some (record { etb_topo_cnt = number_at 8 0 s; op_trn_topo_cnt = number_at 8 9 s })) None

-- datagram 0 to 2,944 digits, even
abbrev pub is_datagram : List ℕ → Bool
is_datagram d = leb (length d) 2944 && (eqb (length d % 2) 0 && is_hex d)

-- sender 8, destination 8, time 16, datagram; single spaces between
abbrev pub is_frame : List ℕ → Bool
is_frame s = has_pair s && (space_at 17 s && (digits_at 16 18 s && (space_at 34 s && is_datagram (drop 35 s))))

-- the octets of a frame's datagram
abbrev pub datagram_of : List ℕ → List ℕ
datagram_of s = octets_of (drop 35 s)

abbrev pub fields_of : List ℕ → Frame
fields_of s = record { sender = number_at 8 0 s; destination = number_at 8 9 s; time = number_at 16 18 s; octets = length (datagram_of s) }

-- a line of the form is a frame, with the number of its datagram's octets; any other line is none
abbrev pub frame_of : List ℕ → Option Frame
frame_of s = cond (is_frame s) (Some (fields_of s)) None

-- a buffer after a line was read: a frame's datagram stands in its first octets; a bad line leaves it as it was
abbrev pub buffer_after : List ℕ → List ℕ → List ℕ
buffer_after s before = cond (is_frame s) (put 0 (datagram_of s) before) before

-- what reading a line answers, and the buffer after it
pub record Reads (s before : List ℕ) (r : Option Frame) (after : List ℕ) : Type 0 where
  pub answer : r ≡ frame_of s
  pub buffer : after ≡ buffer_after s before

-- the line that writes a frame
abbrev pub line_of : ℕ → ℕ → ℕ → List ℕ → List ℕ
line_of sender destination time datagram =
    digits_of 8 sender ++ (32 ∷ (digits_of 8 destination ++ (32 ∷ (digits_of 16 time ++ (32 ∷ hex_of datagram)))))
