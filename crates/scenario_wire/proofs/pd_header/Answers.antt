-- The fields before, and three numbers.
use mathlib.Core.Path.{sym, ◌∙◌}
use mathlib.Core.List.{List}
use mathlib.Core.Option.{Option, some}
use Prim.Native.Nat.{ℕ}
use lib.ListN.{get_or}
use Rattle.telegram.specs.declared.Common.{Common}
use Rattle.pd.specs.declared.PdHeader.{PdHeader}
use Rattle.line.proofs.Fields.{words_none, words_some}
use Rattle.scenario_wire.specs.Wire.{pd_fields}
use Rattle.scenario_wire.proofs.Wired.{not_found, found_none, found_some}
use Rattle.scenario_wire.proofs.pd_header.Goals as goal

-- what three numbers behind the other fields say
abbrev said : Common → List ℕ → List ℕ → Option (PdHeader × List ℕ)
said common xs left =
    some (
      record {
        common = common;
        reserved = get_or xs 0 0;
        reply_com_id = get_or xs 1 0;
        reply_ip_address = get_or xs 2 0;
      },
      left,
    )

pub returns-in_err-common : goal.returns-in_err-common
unfolding pd_fields
returns-in_err-common c = not_found _ c.from_residual.ensures (found_none _ c.in_err-common.ensures)

pub returns-in_err-reserved : goal.returns-in_err-reserved
unfolding pd_fields
returns-in_err-reserved c =
    not_found _ c.from_residual-in_err-reserved.ensures
    (found_some _ c.in_ok-common.ensures
    ∙ words_none 3 c.common.new.fields (said c.in_ok-common.common) c.in_err-reserved.ensures.words)

pub returns : goal.returns
unfolding pd_fields
returns c =
    rw c.in_ok-reserved.ensures.rest
    (sym (found_some _ c.in_ok-common.ensures
    ∙ words_some 3 c.common.new.fields c.in_ok-reserved.field-0 (said c.in_ok-common.common)
    c.in_ok-reserved.ensures.words))
