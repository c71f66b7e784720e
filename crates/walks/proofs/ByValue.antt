-- Plain types by value, as a walk by hand wants them.
-- Assumes `Logic`.
use mathlib.Core.Path.{◌≡◌, refl, sym, subst}
use mathlib.Core.List.{[], ◌∷◌, List}
use lib.Dec.{T}
use seplogic.Ra.Ura.{Ura}
use mir.Syntax.{Ty, Width, ty_int, ty_bool, ty_unit}
use mir.Val.{Val, vint, vbool, vunit, has_ty, WT}
use types.Logic.{Logic}
use denote.RattleType.{RattleType}
use denote.Laws.{Is, Tells, Makes, Typed}
use denote.Lowered as lowered
use denote.Builtin.{bool, unit}
use denote.Shadow.{makes_shadow}
use denote.Steps.{only}
use denote.Plain.{uint_Makes, uint_Tells, uint_Lawful, UInt, bool_Makes, bool_Tells, bool_Lawful}
use denote.Struct.Declared as SD
use denote.Struct.Struct.{Plains}
use denote.Struct.Laws as LL
use denote.Enum.Declared as ED
use denote.Enum.Enum.{Plainss, Few}
use denote.Enum.Laws as EL

pub record By {M : Type 1} {𝓤 : Ura M} (𝓛 : Logic 𝓤) : Type 2 where
  pub R : RattleType
  pub τ : Ty
  pub val : R.Denot → Val
  pub layout : R.mir ≡ τ ∷ []
  pub tells : Tells R (Is R) (λ x. val x ∷ [])
  pub typed : (x : R.Denot) (v : Val) → Is R x (v ∷ []) → T (has_ty τ v) × WT v
  pub makes : Makes 𝓛 R (Is R)

module _ {M : Type 1} {𝓤 : Ura M} (𝓛 : Logic 𝓤) where
  -- a declared struct whose fields are plain
  abbrev pub declared : (D : SD.Declared) (L : LL.Laws D) → Plains (SD.fields D) → LL.Lowered D → By 𝓛
  declared D L pl lw = record {
    R = SD.row D;
    τ = lw.mir;
    val = LL.val D L;
    layout = lw.layout_is;
    tells = LL.tells D L;
    typed = λ x v is. (subst (λ (τs : List Ty). Typed τs (v ∷ [])) lw.layout_is ((LL.lawful D L 𝓛).typed x (v ∷ []) is)).0;
    makes = LL.makes D pl 𝓛;
  }

  -- a declared enum whose variants' fields are plain
  abbrev pub chosen : (D : ED.Declared) (L : EL.Laws D) → Plainss (ED.variants D) → lowered.Lowered (ED.row D) → Few (ED.shape D) → By 𝓛
  chosen D L pl lw few = record {
    R = ED.row D;
    τ = lw.mir;
    val = EL.val D L;
    layout = lw.layout_is;
    tells = EL.tells D L;
    typed = λ x v is. (subst (λ (τs : List Ty). Typed τs (v ∷ [])) lw.layout_is ((EL.lawful D L 𝓛 few).typed x (v ∷ []) is)).0;
    makes = EL.makes D pl 𝓛;
  }

  -- an unsigned integer
  abbrev pub unsigned_int : (w : Width) → By 𝓛
  unsigned_int w = record { R = UInt w; τ = ty_int w; val = vint w; layout = refl; tells = uint_Tells w; typed = λ x v is. ((uint_Lawful 𝓛 w).typed x (v ∷ []) is).0; makes = uint_Makes 𝓛 w }

  abbrev pub boolean : By 𝓛
  boolean = record { R = bool; τ = ty_bool; val = vbool; layout = refl; tells = bool_Tells; typed = λ x v is. ((bool_Lawful 𝓛).typed x (v ∷ []) is).0; makes = bool_Makes 𝓛 }

  abbrev pub unit_by : By 𝓛
  unit_by = record {
    R = unit;
    τ = ty_unit;
    val = λ _. vunit;
    layout = refl;
    tells = λ x vs p. p;
    typed = λ x v is. subst (λ (us : List Val). T (has_ty ty_unit (only us)) × WT (only us)) (sym is) (tt, tt);
    makes = λ x vs p. makes_shadow 𝓛 (unit.own_val x vs) tt p;
  }
