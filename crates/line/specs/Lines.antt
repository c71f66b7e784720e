-- Lines gathered from blocks of octets, and where they end.
use Rattle.std.specs.Prelude.{ℕ, suc, ◌+◌, max, List, [], ◌∷◌, Bool, false, cond, ◌||◌, eqb, leb, length, drop}
use Rattle.octets.specs.Octets.{put}
use Rattle.answer.specs.Answer.{Room, room}

-- an octet of them is LF
abbrev pub has_end : List ℕ → Bool
has_end [] = false
has_end (x ∷ s) = eqb x 10 || has_end s

-- how many octets stand before the first LF; all where there is none
abbrev pub until_end : List ℕ → ℕ
until_end [] = 0
until_end (x ∷ s) = cond (eqb x 10) 0 (suc (until_end s))

-- the place of the first LF from a place on; the block's end where there is none
abbrev pub first_end : List ℕ → ℕ → ℕ
first_end block from = from + until_end (drop from block)

-- a line begun, with more octets; one too long stays as it was, and its count is beyond its room
unfoldable pub gathered : List ℕ → Room → Room
gathered more r =
    cond (leb (r.at + length more) (length r.octets))
    (room (r.at + length more) (put r.at more r.octets))
    (room (max r.at (length r.octets + 1)) r.octets)

-- how many octets of a line there are once it has ended: none where it is too long
abbrev pub ended_of : List ℕ → ℕ → ℕ
ended_of line begun = cond (leb begun (length line)) begun 0
