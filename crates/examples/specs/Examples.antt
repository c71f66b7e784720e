-- The starred worked examples of document 01, "Measured by hand": one list, and one statement over it.
use Rattle.std.specs.Prelude.{ℕ, ◌≡◌, refl, List, [], ◌∷◌, map, Bool, true, false}
use Rattle.fcs_steps.specs.Steps.{bit, bits}
use Rattle.fcs.specs.Fcs.{crc32}
use Rattle.subscription.specs.Record.{fresh}
use Rattle.telegram.specs.Telegram.{padded}
use Rattle.topography.specs.Topography.{passes}
use Rattle.dataset.specs.Walk.{Walked, walked, whole_of}
use Rattle.dataset.specs.declared.Form.{Form}
use Rattle.dataset.specs.declared.Form.TheVariants.{Wire, Host}

-- a question that a definition answers
pub data Question : Type 0 where
  check_of : List ℕ → Question
  padded_length : ℕ → Question
  -- a telegram's etbTopoCnt and opTrnTopoCnt, and the local ones
  topography : ℕ → ℕ → ℕ → ℕ → Question
  -- the counter last taken from a sender, and the one that comes
  fresh_after : ℕ → ℕ → Question
  -- octets in one form, of dataset 1001: a UINT8, and as many UINT16 as it says
  dataset1001 : Form → List ℕ → Question

-- its answer
pub data Answer : Type 0 where
  number : ℕ → Answer
  holds : Bool → Answer
  walks : Walked → Answer

-- 1001 = (UINT8, 1), (UINT16, 0)
abbrev pub run1001 : List ℕ
run1001 = 1001 ∷ 2 ∷ 8 ∷ 1 ∷ 9 ∷ 0 ∷ []

abbrev pub answer_of : Question → Answer
answer_of (check_of s) = number (crc32 s)
answer_of (padded_length n) = number (padded n)
answer_of (topography e o le lo) =
    holds
    (passes (record { etb_topo_cnt = e; op_trn_topo_cnt = o }) (record { etb_topo_cnt = le; op_trn_topo_cnt = lo }))
answer_of (fresh_after last counter) =
    holds
    (fresh
    (record { held = 1; sender = 0; counter = last })
    (record { com_id = 0; sender = 0; destination = 0; counter = counter; time = 0 }))
answer_of (dataset1001 form s) = walks (whole_of form run1001 1001 s)

-- a question with the answer that document 01 gives
pub record Example : Type 0 where
  pub question : Question
  pub answer : Answer

pub examples : List Example
examples =
    -- check of nothing, of octet 00, of FF
    record { question = check_of []; answer = number 0x0000_0000 }
    ∷ record { question = check_of (0x00 ∷ []); answer = number 0xD202_EF8D }
    ∷ record { question = check_of (0xFF ∷ []); answer = number 0xFF00_0000 }
    -- last counter 5: 5 stale, 6 fresh; FFFFFFFF then 0 fresh; 0 then 7FFFFFFF fresh, 80000000 stale
    ∷ record { question = fresh_after 5 5; answer = holds false }
    ∷ record { question = fresh_after 5 6; answer = holds true }
    ∷ record { question = fresh_after 0xFFFF_FFFF 0; answer = holds true }
    ∷ record { question = fresh_after 0 0x7FFF_FFFF; answer = holds true }
    ∷ record { question = fresh_after 0 0x8000_0000; answer = holds false }
    -- padded length of 0, 1, 1432
    ∷ record { question = padded_length 0; answer = number 0 }
    ∷ record { question = padded_length 1; answer = number 4 }
    ∷ record { question = padded_length 1432; answer = number 1432 }
    -- local 7 and 9: telegram 7, 8 refused; 7, 0 passes; 0, 9 refused
    ∷ record { question = topography 7 8 7 9; answer = holds false }
    ∷ record { question = topography 7 0 7 9; answer = holds true }
    ∷ record { question = topography 0 9 7 9; answer = holds false }
    -- 1001: wire 0200010002 is host 0201000200; nothing is left over
    ∷ record {
      question = dataset1001 Wire (0x02 ∷ 0x00 ∷ 0x01 ∷ 0x00 ∷ 0x02 ∷ []);
      answer = walks (walked [] (0x02 ∷ 0x01 ∷ 0x00 ∷ 0x02 ∷ 0x00 ∷ []));
    }
    ∷ record {
      question = dataset1001 Host (0x02 ∷ 0x01 ∷ 0x00 ∷ 0x02 ∷ 0x00 ∷ []);
      answer = walks (walked [] (0x02 ∷ 0x00 ∷ 0x01 ∷ 0x00 ∷ 0x02 ∷ []));
    }
    ∷ []

-- each example's answer is the one that the definitions give
pub measured-by-hand : map (λ (e : Example). answer_of e.question) examples ≡ map (λ (e : Example). e.answer) examples
unfolding examples crc32 bits bit fresh
measured-by-hand = refl
