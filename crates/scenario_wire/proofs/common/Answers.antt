-- Each field behind the one before it.
use mathlib.Core.Path.{refl, sym, ◌∙◌}
use mathlib.Core.List.{List}
use mathlib.Core.Option.{Option, some}
use Prim.Native.Nat.{ℕ}
use lib.ListN.{get_or}
use Rattle.telegram.specs.declared.Common.{Common}
use Rattle.line.specs.Line.{four}
use Rattle.line.proofs.Fields.{number_none, number_some, read_value, words_none, words_some}
use Rattle.scenario_wire.specs.Wire.{common_fields}
use Rattle.scenario_wire.proofs.Wired.{not_found}
use Rattle.scenario_wire.proofs.common.Goals as goal

-- what the three last numbers say behind the first two
abbrev said : ℕ → ℕ → ℕ → List ℕ → List ℕ → Option (Common × List ℕ)
said counter version kind xs left =
    some (
      record {
        sequence_counter = counter;
        protocol_version = four version;
        msg_type = four kind;
        com_id = get_or xs 0 0;
        etb_topo_cnt = get_or xs 1 0;
        op_trn_topo_cnt = get_or xs 2 0;
        dataset_length = 0;
      },
      left,
    )

pub returns-in_err-protocol_version : goal.returns-in_err-protocol_version
unfolding common_fields
returns-in_err-protocol_version c =
    not_found _ c.from_residual.ensures (number_none _ refl c.in_err-protocol_version.ensures)

pub returns-in_err-msg_type : goal.returns-in_err-msg_type
unfolding common_fields
returns-in_err-msg_type c =
    not_found _ c.from_residual-in_err-msg_type.ensures
    (number_some _ refl c.in_ok-protocol_version.ensures ∙ number_none _ refl c.in_err-msg_type.ensures)

pub returns-in_err-com_id : goal.returns-in_err-com_id
unfolding common_fields
returns-in_err-com_id c =
    not_found _ c.from_residual-in_err-com_id.ensures
    (number_some _ refl c.in_ok-protocol_version.ensures ∙ number_some _ refl c.in_ok-msg_type.ensures
    ∙ words_none 3 c.half-2.new.self (said c.args.counter _ _) c.in_err-com_id.ensures.words)

pub returns : goal.returns
unfolding common_fields
returns c =
    rw (c.in_ok-com_id.ensures.rest, read_value c.in_ok-protocol_version.ensures, read_value c.in_ok-msg_type.ensures)
    (sym (number_some _ refl c.in_ok-protocol_version.ensures ∙ number_some _ refl c.in_ok-msg_type.ensures
    ∙ words_some 3 c.half-2.new.self c.in_ok-com_id.field-0 (said c.args.counter _ _) c.in_ok-com_id.ensures.words))
