-- Topography: the two counters of a telegram against the local ones.
use Rattle.std.specs.Prelude.{ℕ, Bool, not, ◌&&◌, ◌||◌, eqb}
use Rattle.topography.specs.declared.TopoCounts.{TopoCounts}

-- a telegram's counter of 0 is not compared; one that is not 0 must equal the local one
abbrev pub agrees : ℕ → ℕ → Bool
agrees counter local = eqb counter 0 || eqb counter local

-- opTrnTopoCnt not 0 beside etbTopoCnt 0 is refused
abbrev pub alone : TopoCounts → Bool
alone t = eqb t.etb_topo_cnt 0 && not (eqb t.op_trn_topo_cnt 0)

-- a telegram's counters pass beside the local ones
abbrev pub passes : TopoCounts → TopoCounts → Bool
passes t local =
    not (alone t)
    && agrees t.etb_topo_cnt local.etb_topo_cnt
    && agrees t.op_trn_topo_cnt local.op_trn_topo_cnt
