-- Laws for walks by hand, over any context and any function: a type by value (`By`), what is lent to a callee and comes back (`Loan`), a call whose contract is an equation (`asks`), a branch whose arms meet again (`meets-again`), an element or a struct read and written through a `&mut`, and the locals freed at the end.
-- Assumes `Logic`.
use mathlib.Core.Path.{◌≡◌, refl, sym, ◌∙◌, ap, subst}
use mathlib.Core.Option.{Option, some as someᴼ, none as noneᴼ}
use Prim.Native.Nat.{ℕ, ◌+◌, ◌<◌, ◌≤◌}
use mathlib.Core.Bool.{Bool, true, false, not}
use mathlib.Core.List.{[], ◌∷◌, List, mem-append_left}
use lib.ListN.{length, set, get_or, length-set, take, drop as skips-to}
use lib.Dec.{T}
use lib.WfN.{lt-wf_rel}
use mathlib.Core.WellFounded.InvImage
use seplogic.Ra.Ura.{Ura}
use base.Fraction.{full_share}
use mir.Syntax.{Callee, erased, w8, Ty, Place, Rv as RValue, Body, Lifetime, Opd as Operand, deref, place as placeᴹ, copy, seq, assign, block, loop, skip, exit, cond, call, rv_opd}
use mir.Val.{Val, vbool, vptr, has_ty, WT}
use base.Logic.{SProp, ent, sep, emp, ex, guard, id⊢}
use base.Fml.{Incl, Incl-refl, fhide, Fml, Lft, Share, GName, ftrue, fsep, fat, froom, fdies, flft, fobs, fauth, fobor, flent, fres}
use prog.Wp.{Heap, Out, next, Env, spot_of, Calls, Loops, Wp, Tables, after_seq, after_block, after_turn}
use types.Logic.{Logic, sem, lfts}
use contract.Monad.{fact}
use types.Kit.{Item, ‵, raw, some, given, later, ◌⊛◌, mean, Seq, Step, Post, post, Goal, Soaks, runs, lands, settles, frees, prop, any_q, step, ◌$◌, ◌∵◌, !, qed, by, move, drop, use0, use1, use2, use3, split, join, pick, learn, rewrite, fsplit, fjoin, fsplit3, fjoin3, feq_l, feq_i, await, updating, now as at_once, show, done}
use types.Run.{Reads, Writes, Opd, Opds, Rv, look_raw, store_raw, forget, stop, hop, from, load, of_opd, assigns, first, branches, skips, blocks, loops, again, Below, stays, leaves_loop, free1, free0, exec}
use types.Tokens.{lft_new, lft_end}
use types.SemTy.{cells, Arr}
use sound.WpLaws.{FmC}
use ghost.Rules.{Toks, span}
use denote.RattleType.{RattleType, RowLaws}
use denote.Shares.{Shares}
use denote.Copied.{Copied}
use denote.Shadow.{shadow, pure_l, pure_i}
use denote.Laws.{Is, shows}
use denote.Memory.{mem, cell_at}
use denote.Builtin.{u8}
use denote.Plain.{uint_row_laws}
use denote.Ref.{Bor, MutBor, MutRef}
use denote.Slice.{slice_val, MutSlice, ShrSlice, shr_slice_copy, elements_shared, Room, heres, coded_holeys, finally, shr_slice_at, mut_slice_at}
use denote.Lend as lend
use denote.Lend.{Held, lends_slice, slice_back}
use denote.Index.{place, row, whole_out, whole_in, elem_out, elem_back, elem_put, opens_slice, closes_slice, looks_slice, shuts_slice}
use denote.Steps.{only, owned, facts, heard, nothing, opens, closes}
use denote.Struct.Steps.{spelt}
use denote.Triple.Call.{calls_from, calls_from_last}
use borrow.Table.Owned as O
use borrow.Rule.Slice.Prefix.{shs_part_same}
use borrow.Table.Elements.{at, at_mul}
use native.Mathlib.Nat.{mul-one}
use lib.Seq.{length-take-le}
use borrow.Rule.Array.Share.{share_cells}
use borrow.Rule.Slice.Reshare.{kept_s, sl_reshare_as, sl_reshare_back}
use Rattle.walks.proofs.ByValue.{By}

-- what is lent to a callee for the call, and comes back at another value
pub record Loan {M : Type 1} {𝓤 : Ura M} (𝓛 : Logic 𝓤) (Y : Type 0) : Type 2 where
  pub N : Type 0
  pub own : Y → Item 𝓤
  pub sent : N → Y → SProp 𝓤
  pub kept : N → Y → SProp 𝓤
  pub back : N → Y → SProp 𝓤
  pub Fit : Y → Y → Type 0
  pub lends : (v : Y) → ent 𝓤 (mean 𝓛 (own v)) (𝓛.H.⇛ (ex 𝓤 (λ (n : N). sep 𝓤 (sent n v) (kept n v))))
  pub comes : (n : N) (v v' : Y) → Fit v v' → ent 𝓤 (sep 𝓤 (kept n v) (back n v')) (𝓛.H.⇛ (mean 𝓛 (own v')))

module _ {M : Type 1} {𝓤 : Ura M} (𝓛 : Logic 𝓤) where
  -- nothing is lent
  open 𝓛 use {A}

  abbrev pub none_lent : Loan 𝓛 (Unit {0})
  none_lent = record {
    N = Unit {0};
    own = λ _. ‵ ftrue;
    sent = λ _ _. emp 𝓤;
    kept = λ _ _. emp 𝓤;
    back = λ _ _. emp 𝓤;
    Fit = λ _ _. Unit {0};
    lends = λ v. qed 𝓛 (‵ ftrue ∷ []) ∵ updating ! $ at_once ! $ show ! (λ (n : Unit {0}). sep 𝓤 (emp 𝓤) (emp 𝓤)) tt $ use0 𝓛 (‵ ftrue) (id⊢ 𝓤 (emp 𝓤)) $ done !;
    comes = λ n v v' f. qed 𝓛 (‵ ftrue ∷ ‵ ftrue ∷ []) ∵ updating ! $ at_once ! $ drop ! $ done !;
  }

  -- two loans
  abbrev pub both-lent : {Y Y₂ : Type 0} → Loan 𝓛 Y → Loan 𝓛 Y₂ → Loan 𝓛 (Y × Y₂)
  both-lent L L₂ = record {
    N = L.N × L₂.N;
    own = λ v. L.own v.0 ⊛ L₂.own v.1;
    sent = λ n v. sep 𝓤 (L.sent n.0 v.0) (L₂.sent n.1 v.1);
    kept = λ n v. sep 𝓤 (L.kept n.0 v.0) (L₂.kept n.1 v.1);
    back = λ n v. sep 𝓤 (L.back n.0 v.0) (L₂.back n.1 v.1);
    Fit = λ v v'. L.Fit v.0 v'.0 × L₂.Fit v.1 v'.1;
    lends = λ v. qed 𝓛 ((L.own v.0 ⊛ L₂.own v.1) ∷ []) ∵ updating ! $ split ! $
        use1 𝓛 (later (some (λ (n : L.N). raw (L.sent n v.0) ⊛ raw (L.kept n v.0)))) (L.lends v.0) $ await ! tt $ pick ! (λ n. split ! $ move ! (2 ∷ []) $
        use1 𝓛 (later (some (λ (m : L₂.N). raw (L₂.sent m v.1) ⊛ raw (L₂.kept m v.1)))) (L₂.lends v.1) $ await ! tt $ pick ! (λ m. split ! $ at_once ! $
        show ! (λ (k : L.N × L₂.N). sep 𝓤 (sep 𝓤 (L.sent k.0 v.0) (L₂.sent k.1 v.1)) (sep 𝓤 (L.kept k.0 v.0) (L₂.kept k.1 v.1))) (n, m) $ move ! (2 ∷ 0 ∷ 3 ∷ 1 ∷ []) $ join ! $ done !));
    comes = λ n v v' f. qed 𝓛 ((raw (L.kept n.0 v.0) ⊛ raw (L₂.kept n.1 v.1)) ∷ (raw (L.back n.0 v'.0) ⊛ raw (L₂.back n.1 v'.1)) ∷ []) ∵ updating ! $ split ! $ move ! (2 ∷ []) $ split ! $ move ! (2 ∷ 0 ∷ []) $
        use2 𝓛 (later (L.own v'.0)) (L.comes n.0 v.0 v'.0 f.0) $ await ! tt $ move ! (2 ∷ 1 ∷ []) $
        use2 𝓛 (later (L₂.own v'.1)) (L₂.comes n.1 v.1 v'.1 f.1) $ await ! tt $ at_once ! $ move ! (1 ∷ 0 ∷ []) $ done !;
  }

  module _ (R : RattleType) (ℓ : Lifetime) (κ : Lft) (q : Share) (γ : GName) (b o : ℕ) where
    abbrev ref : {X : Type 0} → GName → X → MutBor X
    ref δ y = record { ref_ptr = (b, o); ghost_name = δ; now = y }

    -- a `&mut T`, with its token
    abbrev pub ref-own : R.Denot → Item 𝓤
    ref-own h = ‵ ((MutRef ℓ κ R).own_val (ref γ h) (vptr b o ∷ [])) ⊛ ‵ (flft κ q)

    abbrev pub ref-lent : Loan 𝓛 R.Denot
    ref-lent = record {
      N = ℕ × GName;
      own = ref-own;
      sent = λ n h. sep 𝓤 (A.lft (n.0 ∷ []) full_share) (sem 𝓛 ((MutRef ℓ (n.0 ∷ []) R).own_val (ref n.1 h) (vptr b o ∷ [])));
      kept = λ n h. sem 𝓛 (lend.LentAgain R κ (n.0 ∷ []) q γ b o n.1 h);
      back = λ n h. sep 𝓤 (A.lft (n.0 ∷ []) full_share) (A.res n.1 (R.coded.code h));
      Fit = λ _ _. Unit {0};
      lends = λ h. qed 𝓛 (ref-own h ∷ []) ∵ updating ! $ lft_new ! tt (λ ν. move ! (1 ∷ []) $
          use1 𝓛 (later (some (λ (δ : GName). ‵ ((MutRef ℓ (ν ∷ []) R).own_val (ref δ h) (vptr b o ∷ [])) ⊛ ‵ (lend.LentAgain R κ (ν ∷ []) q γ b o δ h)))) (lend.lends_again 𝓛 R ℓ κ (ν ∷ []) q γ b o ℓ h) $ await ! tt $ pick ! (λ δ. split ! $ at_once ! $
          show ! (λ (n : ℕ × GName). sep 𝓤 (sep 𝓤 (A.lft (n.0 ∷ []) full_share) (sem 𝓛 ((MutRef ℓ (n.0 ∷ []) R).own_val (ref n.1 h) (vptr b o ∷ [])))) (sem 𝓛 (lend.LentAgain R κ (n.0 ∷ []) q γ b o n.1 h))) (ν, δ) $ move ! (2 ∷ 0 ∷ []) $ join ! $ done !));
      comes = λ n h h' f. qed 𝓛 (‵ (lend.LentAgain R κ (n.0 ∷ []) q γ b o n.1 h) ∷ (‵ (flft (n.0 ∷ []) full_share) ⊛ ‵ (fres n.1 (R.coded.code h'))) ∷ []) ∵ updating ! $ move ! (1 ∷ []) $ split ! $ lft_end ! tt $ move ! (0 ∷ 2 ∷ 1 ∷ []) $
          use3 𝓛 (later (ref-own h')) (lend.comes_back 𝓛 R ℓ κ (n.0 ∷ []) q γ b o n.1 h h') $ await ! tt $ at_once ! $ done !;
    }

    -- a `&mut [T]` of n elements, with its token
    abbrev pub slice-own : ℕ → List R.Denot → Item 𝓤
    slice-own n ys = ‵ ((MutSlice ℓ κ R).own_val (ref γ ys) (slice_val (b, o) n ∷ [])) ⊛ ‵ (flft κ q)

    abbrev says-slice : ℕ → List R.Denot → Type 0
    says-slice n ys = shadow (mut_slice_at R (ref γ ys) (slice_val (b, o) n ∷ []))

    -- what is kept while the slice is lent again: the lender's part, and the open borrow
    abbrev Lent : ℕ → GName → List R.Denot → Fml
    Lent ν δ ys = fsep (flent (ν ∷ []) (Held R (length ys) b o δ)) (fsep (fobor κ q (Held R (length ys) b o γ)) (fsep (fobs γ ((coded_holeys R).code (heres R ys))) (fauth γ ((coded_holeys R).code (heres R ys)))))

    abbrev pub slice-lent : ℕ → Loan 𝓛 (List R.Denot)
    slice-lent n = record {
      N = ℕ × GName;
      own = slice-own n;
      sent = λ m ys. sep 𝓤 (A.lft (m.0 ∷ []) full_share) (sem 𝓛 ((MutSlice ℓ (m.0 ∷ []) R).own_val (ref m.1 ys) (slice_val (b, o) n ∷ [])));
      kept = λ m ys. guard 𝓤 (says-slice n ys) (sem 𝓛 (Lent m.0 m.1 ys));
      back = λ m zs. sep 𝓤 (A.lft (m.0 ∷ []) full_share) (sem 𝓛 (finally R m.1 zs));
      Fit = λ ys zs. length zs ≡ length ys;
      lends = λ ys. qed 𝓛 (slice-own n ys ∷ []) ∵ updating ! $ split ! $ fsplit ! $ pure_l ! (mut_slice_at R (ref γ ys) (slice_val (b, o) n ∷ [])) (λ p. fsplit ! $ opens_slice ! tt R ys b o $
          use1 𝓛 (‵ (cells (mem R) ys b o)) (whole_in 𝓛 R ys b o) $ lft_new ! tt (λ ν. move ! (1 ∷ []) $
          use1 𝓛 (later (some (λ (δ : GName). ‵ ((MutSlice ℓ (ν ∷ []) R).own_val (ref δ ys) (slice_val (b, o) (length ys) ∷ [])) ⊛ ‵ (flent (ν ∷ []) (Held R (length ys) b o δ))))) (lends_slice 𝓛 R ℓ (ν ∷ []) ys b o p.1) $ await ! tt $ pick ! (λ δ. split ! $
          rewrite ! 0 (λ (vs : List Val). ‵ ((MutSlice ℓ (ν ∷ []) R).own_val (ref δ ys) vs)) (sym p.0) refl $
          move ! (4 ∷ 5 ∷ []) $ fjoin ! $ move ! (4 ∷ 0 ∷ []) $ fjoin ! $ move ! (2 ∷ 0 ∷ []) $ fjoin ! $
          use1 𝓛 (given (says-slice n ys) (‵ (Lent ν δ ys))) (base.Logic.guard_i 𝓤 (says-slice n ys) (sem 𝓛 (Lent ν δ ys)) p) $ at_once ! $
          show ! (λ (m : ℕ × GName). sep 𝓤 (sep 𝓤 (A.lft (m.0 ∷ []) full_share) (sem 𝓛 ((MutSlice ℓ (m.0 ∷ []) R).own_val (ref m.1 ys) (slice_val (b, o) n ∷ [])))) (guard 𝓤 (says-slice n ys) (sem 𝓛 (Lent m.0 m.1 ys)))) (ν, δ) $
          move ! (2 ∷ 1 ∷ []) $ join ! $ done !)));
      comes = λ m ys zs e. qed 𝓛 (given (says-slice n ys) (‵ (Lent m.0 m.1 ys)) ∷ (‵ (flft (m.0 ∷ []) full_share) ⊛ ‵ (finally R m.1 zs)) ∷ []) ∵ updating ! $ learn ! (λ p. fsplit ! $ move ! (2 ∷ []) $ split ! $ lft_end ! tt $ move ! (0 ∷ 2 ∷ 1 ∷ []) $
          use3 𝓛 (later (‵ ((Arr (mem R) (length ys)).own_at zs b o))) (slice_back 𝓛 R (m.0 ∷ []) m.1 zs (length ys) b o) $ await ! tt $ fsplit ! $ drop ! $ use1 𝓛 (‵ (row R full_share zs b o)) (whole_out 𝓛 R zs b o) $
          move ! (1 ∷ []) $ fsplit ! $ move ! (1 ∷ []) $ fsplit ! $ move ! (3 ∷ 2 ∷ 0 ∷ 1 ∷ []) $ closes_slice ! tt R ys zs e b o $ at_once ! $
          fjoin ! $ pure_i ! (mut_slice_at R (ref γ zs) (slice_val (b, o) n ∷ [])) (tt, (tt, tt)) (p.0 ∙ ap (λ (k : ℕ). slice_val (b, o) k ∷ []) (sym e), subst (Room R) (sym e) p.1) $ fjoin ! $ done !);
    }

  module _ (R : RattleType) (ℓ : Lifetime) (κ : Lft) (q : Share) (b o : ℕ) where
    abbrev shr : {X : Type 0} → X → Bor X
    shr y = record { ref_ptr = (b, o); now = y }

    -- a `&[T]` of n elements, with its token
    abbrev pub shr-own : ℕ → List R.Denot → Item 𝓤
    shr-own n ys = ‵ ((ShrSlice ℓ κ R).own_val (shr ys) (slice_val (b, o) n ∷ [])) ⊛ ‵ (flft κ q)

    -- it is handed to a callee at its own lifetime, and kept: only the token goes and comes back
    abbrev pub shr-lent : RowLaws R → ℕ → Loan 𝓛 (List R.Denot)
    shr-lent L n = record {
      N = Unit {0};
      own = shr-own n;
      sent = λ _ ys. sep 𝓤 (A.lft κ q) (sem 𝓛 ((ShrSlice ℓ κ R).own_val (shr ys) (slice_val (b, o) n ∷ [])));
      kept = λ _ ys. sem 𝓛 ((ShrSlice ℓ κ R).own_val (shr ys) (slice_val (b, o) n ∷ []));
      back = λ _ ys. A.lft κ q;
      Fit = λ ys zs. ys ≡ zs;
      lends = λ ys. qed 𝓛 (shr-own n ys ∷ []) ∵ updating ! $ split ! $ use1 𝓛 (‵ ((ShrSlice ℓ κ R).own_val (shr ys) (slice_val (b, o) n ∷ [])) ⊛ ‵ ((ShrSlice ℓ κ R).own_val (shr ys) (slice_val (b, o) n ∷ []))) ((shr_slice_copy 𝓛 ℓ κ R L).twice (shr ys) (slice_val (b, o) n ∷ [])) $ split ! $ at_once ! $
          show ! (λ (m : Unit {0}). sep 𝓤 (sep 𝓤 (A.lft κ q) (sem 𝓛 ((ShrSlice ℓ κ R).own_val (shr ys) (slice_val (b, o) n ∷ [])))) (sem 𝓛 ((ShrSlice ℓ κ R).own_val (shr ys) (slice_val (b, o) n ∷ [])))) tt $ move ! (2 ∷ 0 ∷ []) $ join ! $ done !;
      comes = λ m ys zs e. qed 𝓛 (‵ ((ShrSlice ℓ κ R).own_val (shr ys) (slice_val (b, o) n ∷ [])) ∷ ‵ (flft κ q) ∷ []) ∵ updating ! $ rewrite ! 0 (λ (l : List R.Denot). ‵ ((ShrSlice ℓ κ R).own_val (shr l) (slice_val (b, o) n ∷ []))) e refl $ at_once ! $ done !;
    }

-- an empty `&[T]` is had for nothing, for a lifetime of its own
module _ {M : Type 1} {𝓤 : Ura M} {𝓛 : Logic 𝓤} {K : Type 0} {Γ : List (Item 𝓤)} where
  open 𝓛 use {H}

  pub has-none : K → {G : Goal 𝓤 H} → Soaks G → (R : RattleType) (ℓ : Lifetime) (b o : ℕ) → Room R 0
      → ((α : ℕ) → Seq K 𝓛 (shr-own 𝓛 R ℓ (α ∷ []) full_share b o 0 [] ∷ Γ) G) → Seq K 𝓛 Γ G
  has-none t soaks R ℓ b o room k =
      lft_new t soaks (λ α. use0 𝓛 (‵ (fhide (elements_shared R [] b o (α ∷ [])))) (id⊢ 𝓤 (emp 𝓤)) $
      pure_i t (shr_slice_at R (record { ref_ptr = (b, o); now = [] }) (slice_val (b, o) 0 ∷ [])) (tt, (tt, tt)) (refl, room) $ fjoin t $ join t $ k α)

-- a token of a new lifetime, beside others
module _ {M : Type 1} {𝓤 : Ura M} (𝓛 : Logic 𝓤) (α : ℕ) where
  open 𝓛 use {A}

  abbrev pub with-new : Toks → Toks
  with-new ts = (α ∷ [], full_share) ∷ ts

  new-within : (ts : Toks) → Incl (span (with-new ts)) (α ∷ [])
  new-within [] = Incl-refl (α ∷ [])
  new-within (t ∷ ts) = λ a m. mem-append_left (span (t ∷ ts)) m

  new-in : (ts : Toks) → ent 𝓤 (sep 𝓤 (A.lft (α ∷ []) full_share) (lfts 𝓛 ts)) (lfts 𝓛 (with-new ts))
  new-in [] = qed 𝓛 (‵ (flft (α ∷ []) full_share) ∷ raw (emp 𝓤) ∷ []) ∵ move ! (1 ∷ []) $ drop ! $ done !
  new-in (t ∷ ts) = id⊢ 𝓤 (sep 𝓤 (A.lft (α ∷ []) full_share) (lfts 𝓛 (t ∷ ts)))

  new-out : (ts : Toks) → ent 𝓤 (lfts 𝓛 (with-new ts)) (sep 𝓤 (A.lft (α ∷ []) full_share) (lfts 𝓛 ts))
  new-out [] = qed 𝓛 (‵ (flft (α ∷ []) full_share) ∷ []) ∵ use0 𝓛 (raw (emp 𝓤)) (id⊢ 𝓤 (emp 𝓤)) $ move ! (1 ∷ 0 ∷ []) $ done !
  new-out (t ∷ ts) = id⊢ 𝓤 (sep 𝓤 (A.lft (α ∷ []) full_share) (lfts 𝓛 (t ∷ ts)))

-- a `&mut [T]` that is looked at: it is lent as a `&[T]` for a lifetime of its own, and comes back as it was
module _ {M : Type 1} {𝓤 : Ura M} {𝓛 : Logic 𝓤} {K : Type 0} {Γ : List (Item 𝓤)} (R : RattleType) (ℓ : Lifetime) (κ : Lft) (q : Share) (γ : GName) (b o : ℕ) where
  open 𝓛 use {H}

  -- tokens ts, of the lifetimes of the `&mut`s that an element holds, serve the loan and come back
  pub shows-slice-by : K → {G : Goal 𝓤 H} → Soaks G → (ℓ' : Lifetime) (n : ℕ) (ys : List R.Denot) → RowLaws R → (ts : Toks) → ((α : ℕ) → Shares 𝓛 R (span (with-new 𝓛 α ts)))
      → ((α : ℕ) → Seq K 𝓛 (shr-own 𝓛 R ℓ' (α ∷ []) full_share b o n ys ∷ kept_s 𝓛 R κ q (α ∷ []) γ ys b o ∷ raw (lfts 𝓛 ts) ∷ Γ) G) → Seq K 𝓛 (slice-own 𝓛 R ℓ κ q γ b o n ys ∷ raw (lfts 𝓛 ts) ∷ Γ) G
  shows-slice-by t soaks ℓ' n ys L ts sh k =
      split t $ fsplit t $ fsplit t $ feq_l t (λ e. fjoin t $ lft_new t soaks (λ α. move t (0 ∷ 3 ∷ []) $ use2 𝓛 (raw (lfts 𝓛 (with-new 𝓛 α ts))) (new-in 𝓛 α ts) $ move t (1 ∷ 2 ∷ 0 ∷ []) $
      use3 𝓛 (later (‵ ((O.ShrSlice erased (α ∷ []) R).own_val (record { ref_ptr = (b, o); now = ys })) ⊛ (kept_s 𝓛 R κ q (α ∷ []) γ ys b o ⊛ raw (lfts 𝓛 (with-new 𝓛 α ts)))))
      (sl_reshare_as 𝓛 R κ q (α ∷ []) b o γ (lfts 𝓛 (with-new 𝓛 α ts)) (λ zs room age. share_cells 𝓛 R (α ∷ []) b L (span (with-new 𝓛 α ts)) (sh α) (with-new 𝓛 α ts) (Incl-refl (span (with-new 𝓛 α ts))) (new-within 𝓛 α ts) zs o room age) ys) $ await t soaks $
      split t $ move t (1 ∷ []) $ split t $ move t (1 ∷ []) $ use1 𝓛 (‵ (flft (α ∷ []) full_share) ⊛ raw (lfts 𝓛 ts)) (new-out 𝓛 α ts) $ split t $ move t (3 ∷ []) $
      fsplit t $ feq_i t (List Val) (slice_val (b, o) n ∷ []) (slice_val (b, o) (length ys) ∷ []) e $ fjoin t $ fjoin t $ join t $ move t (0 ∷ 2 ∷ []) $ k α))

  -- with no other token, as where an element holds no `&mut`
  pub shows-slice : K → {G : Goal 𝓤 H} → Soaks G → (ℓ' : Lifetime) (n : ℕ) (ys : List R.Denot) → RowLaws R → ((α : ℕ) → Shares 𝓛 R (α ∷ []))
      → ((α : ℕ) → Seq K 𝓛 (shr-own 𝓛 R ℓ' (α ∷ []) full_share b o n ys ∷ kept_s 𝓛 R κ q (α ∷ []) γ ys b o ∷ Γ) G) → Seq K 𝓛 (slice-own 𝓛 R ℓ κ q γ b o n ys ∷ Γ) G
  shows-slice t soaks ℓ' n ys L sh k = use0 𝓛 (raw (emp 𝓤)) (id⊢ 𝓤 (emp 𝓤)) $ move t (1 ∷ 0 ∷ []) $ shows-slice-by t soaks ℓ' n ys L [] sh (λ α. move t (2 ∷ []) $ drop t $ k α)

  pub hides-slice : K → {G : Goal 𝓤 H} → Soaks G → (ℓ' : Lifetime) (n : ℕ) (ys : List R.Denot) (α : ℕ) → n ≡ length ys
      → Step K 𝓛 (slice-own 𝓛 R ℓ κ q γ b o n ys ∷ Γ) G (shr-own 𝓛 R ℓ' (α ∷ []) full_share b o n ys ∷ kept_s 𝓛 R κ q (α ∷ []) γ ys b o ∷ Γ) G
  hides-slice t soaks ℓ' n ys α e = step (λ k.
      split t $ drop t $ lft_end t soaks $ use2 𝓛 (later (‵ ((O.MutSlice erased κ R).own_val (record { ref_ptr = (b, o); ghost_name = γ; now = ys })) ⊛ ‵ (flft κ q))) (sl_reshare_back 𝓛 R κ q (α ∷ []) b o γ ys) $ await t soaks $
      split t $ fsplit t $ feq_i t (List Val) (slice_val (b, o) n ∷ []) (slice_val (b, o) (length ys) ∷ []) (ap (λ (m : ℕ). slice_val (b, o) m ∷ []) e) $ fjoin t $ fjoin t $ join t $ k)

-- where the octets from number a on begin
abbrev pub begins-at : ℕ → List ℕ → ℕ → ℕ
begins-at o ys a = at o (mem u8).size (length (take a ys))

pub begins-is : (o : ℕ) (ys : List ℕ) (a : ℕ) → a ≤ length ys → a + o ≡ begins-at o ys a
begins-is o ys a h = sym (at_mul o 1 (length (take a ys)) ∙ ap (λ (j : ℕ). j + o) (mul-one (length (take a ys)) ∙ length-take-le a ys h))

-- a part of a `&[u8]`, at its own lifetime: the token goes with the part, and comes back
module _ {M : Type 1} {𝓤 : Ura M} {𝓛 : Logic 𝓤} {K : Type 0} {Γ : List (Item 𝓤)} (ℓ : Lifetime) (κ : Lft) (q : Share) (b o : ℕ) (ys : List ℕ) (a k : ℕ) where
  open 𝓛 use {H}

  pub takes-octets : K → {G : Goal 𝓤 H} → Soaks G → (ℓ' : Lifetime) (n : ℕ) → k ≡ length (take k (skips-to a ys))
      → Seq K 𝓛 (shr-own 𝓛 u8 ℓ' κ q b (begins-at o ys a) k (take k (skips-to a ys)) ∷ ‵ ((ShrSlice ℓ κ u8).own_val (record { ref_ptr = (b, o); now = ys }) (slice_val (b, o) n ∷ [])) ∷ Γ) G
      → Seq K 𝓛 (shr-own 𝓛 u8 ℓ κ q b o n ys ∷ Γ) G
  takes-octets t soaks ℓ' n e h =
      split t $ use1 𝓛 (‵ ((ShrSlice ℓ κ u8).own_val (record { ref_ptr = (b, o); now = ys }) (slice_val (b, o) n ∷ [])) ⊛ ‵ ((ShrSlice ℓ κ u8).own_val (record { ref_ptr = (b, o); now = ys }) (slice_val (b, o) n ∷ []))) ((shr_slice_copy 𝓛 ℓ κ u8 (uint_row_laws w8)).twice (record { ref_ptr = (b, o); now = ys }) (slice_val (b, o) n ∷ [])) $
      split t $ fsplit t $ fsplit t $ drop t $ fjoin t $ move t (0 ∷ 2 ∷ []) $
      use2 𝓛 (later (‵ ((O.ShrSlice erased κ u8).own_val (record { ref_ptr = (b, (begins-at o ys a)); now = take k (skips-to a ys) })) ⊛ ‵ (flft κ q))) (shs_part_same 𝓛 u8 κ q b o ys a k) $ await t soaks $
      split t $ fsplit t $ feq_i t (List Val) (slice_val (b, (begins-at o ys a)) k ∷ []) (slice_val (b, (begins-at o ys a)) (length (take k (skips-to a ys))) ∷ []) (ap (λ (m : ℕ). slice_val (b, (begins-at o ys a)) m ∷ []) e) $ fjoin t $ fjoin t $ join t $ h

  pub gives-octets : K → {G : Goal 𝓤 H} (ℓ' : Lifetime) (n : ℕ)
      → Step K 𝓛 (shr-own 𝓛 u8 ℓ κ q b o n ys ∷ Γ) G (shr-own 𝓛 u8 ℓ' κ q b (begins-at o ys a) k (take k (skips-to a ys)) ∷ ‵ ((ShrSlice ℓ κ u8).own_val (record { ref_ptr = (b, o); now = ys }) (slice_val (b, o) n ∷ [])) ∷ Γ) G
  gives-octets t ℓ' n = step (λ h. split t $ drop t $ move t (1 ∷ 0 ∷ []) $ join t $ h)

-- one call of g at the values vs: what is lent is v and comes back as v', and the answer is w
pub record Call {M : Type 1} {𝓤 : Ura M} (𝓛 : Logic 𝓤) (C : Calls 𝓤 𝓛.H) (g : Callee) (vs : List Val) {Y : Type 0} (L : Loan 𝓛 Y) (B : By 𝓛) (v v' : Y) (w : B.R.Denot) : Type 2 where
  pub Q : L.N → Val → SProp 𝓤
  pub goes : (n : L.N) → ent 𝓤 (L.sent n v) (C g vs (Q n))
  pub gives : (n : L.N) (u : Val) → ent 𝓤 (Q n u) (𝓛.H.⇛ (ex 𝓤 (λ (z : B.R.Denot × Y). sep 𝓤 (sem 𝓛 (B.R.own_val z.0 (u ∷ []))) (sep 𝓤 (L.back n z.1) (fact 𝓤 ((z.0 ≡ w) × ((z.1 ≡ v') × L.Fit v z.1)))))))

module _ {M : Type 1} {𝓤 : Ura M} {𝓛 : Logic 𝓤} {K : Type 0} {Γ : List (Item 𝓤)} {C : Calls 𝓤 𝓛.H} {g : Callee} {vs : List Val} where
  -- whatever follows the call
  open 𝓛 use {H}

  asking : K → {Y : Type 0} (L : Loan 𝓛 Y) (B : By 𝓛) {v v' : Y} {w : B.R.Denot} (c : Call 𝓛 C g vs L B v v' w) {G : Goal 𝓤 H} → Soaks G → (after : Val → Goal 𝓤 H) → ((u : Val) → Soaks (after u))
      → ((n : L.N) → ((u : Val) → Seq K 𝓛 (raw (c.Q n u) ∷ raw (L.kept n v) ∷ Γ) (after u)) → Seq K 𝓛 (raw (L.sent n v) ∷ raw (L.kept n v) ∷ Γ) G)
      → (Is B.R w (B.val w ∷ []) → L.Fit v v' → Seq K 𝓛 (L.own v' ∷ Γ) (after (B.val w))) → Seq K 𝓛 (L.own v ∷ Γ) G
  asking t {Y} L B {v} {v'} {w} c soaks after soaks' rule k =
      use1 𝓛 (later (some (λ (n : L.N). raw (L.sent n v) ⊛ raw (L.kept n v)))) (L.lends v) $ await t soaks $ pick t (λ n. split t $ rule n (λ u.
      use1 𝓛 (later (some (λ (z : B.R.Denot × Y). ‵ (B.R.own_val z.0 (u ∷ [])) ⊛ (raw (L.back n z.1) ⊛ raw (fact 𝓤 ((z.0 ≡ w) × ((z.1 ≡ v') × L.Fit v z.1))))))) (c.gives n u) $ await t (soaks' u) $ pick t (λ z. split t $ move t (1 ∷ []) $ split t $ move t (1 ∷ []) $
      heard t ((z.0 ≡ w) × ((z.1 ≡ v') × L.Fit v z.1)) (λ e. move t (1 ∷ []) $ facts t B.R (Is B.R) (shows 𝓛 B.R) z.0 (u ∷ []) (λ is.
      move t (1 ∷ 0 ∷ []) $ use2 𝓛 (later (L.own z.1)) (L.comes n v z.1 e.1.1) $ await t (soaks' u) $ rewrite t 0 (λ (y : Y). L.own y) e.1.0 refl $
      ends u z.0 e.0 is (subst (λ (y : Y). L.Fit v y) e.1.0 e.1.1))))))
    where
      ends : (u : Val) (z : B.R.Denot) → z ≡ w → Is B.R z (u ∷ []) → L.Fit v v' → Seq K 𝓛 (L.own v' ∷ Γ) (after u)
      ends u z e is fit =
          let is' : Is B.R w (u ∷ []) = subst (λ (x : B.R.Denot). Is B.R x (u ∷ [])) e is in
          let told : u ∷ [] ≡ B.val w ∷ [] = B.tells w (u ∷ []) is' in
          subst (λ (x : Val). Seq K 𝓛 (L.own v' ∷ Γ) (after x)) (sym (ap only told)) (k (subst (λ (us : List Val). Is B.R w us) told is') fit)

  module _ {E : Env 𝓤 H} {xs : List Operand} {Λ : Loops 𝓤 H} {q : Post 𝓤 H} {d : Place} where
    -- a call that lends: the operands are read with two more entries at the head
    pub asks : K → FmC 𝓤 H 𝓛.laws C → {Y : Type 0} (L : Loan 𝓛 Y) (B : By 𝓛) {v v' : Y} {w : B.R.Denot} {rest : Body} → Call 𝓛 C g vs L B v v' w → ((i j : Item 𝓤) → Opds K 𝓛 (i ∷ j ∷ Γ) E xs vs)
        → (Is B.R w (B.val w ∷ []) → L.Fit v v' → Seq K 𝓛 (L.own v' ∷ Γ) (lands C Λ E d (B.val w) rest q)) → Seq K 𝓛 (L.own v ∷ Γ) (runs C Λ E (seq (call g xs d) rest) q)
    asks t fm L B {v} {v'} {w} {rest} c os k = asking t L B c tt (λ u. lands C Λ E d u rest q) (λ u. tt) (λ n h. calls_from t fm (raw (L.sent n v)) vs (c.Q n) (c.goes n) (os (raw (L.sent n v)) (raw (L.kept n v))) h) k

    pub asks-last : K → FmC 𝓤 H 𝓛.laws C → {Y : Type 0} (L : Loan 𝓛 Y) (B : By 𝓛) {v v' : Y} {w : B.R.Denot} → Call 𝓛 C g vs L B v v' w → ((i j : Item 𝓤) → Opds K 𝓛 (i ∷ j ∷ Γ) E xs vs)
        → (Is B.R w (B.val w ∷ []) → L.Fit v v' → Seq K 𝓛 (L.own v' ∷ Γ) (settles E d (B.val w) q)) → Seq K 𝓛 (L.own v ∷ Γ) (runs C Λ E (call g xs d) q)
    asks-last t fm L B {v} {v'} {w} c os k = asking t L B c tt (λ u. settles E d u q) (λ u. tt) (λ n h. calls_from_last t fm (raw (L.sent n v)) vs (c.Q n) (c.goes n) (os (raw (L.sent n v)) (raw (L.kept n v))) h) k

    -- a call of a function that takes and answers plain values
    pub asks-plain : K → FmC 𝓤 H 𝓛.laws C → (B : By 𝓛) {w : B.R.Denot} {rest : Body} → Call 𝓛 C g vs (none_lent 𝓛) B tt tt w → ((i j : Item 𝓤) → Opds K 𝓛 (i ∷ j ∷ Γ) E xs vs)
        → (Is B.R w (B.val w ∷ []) → Seq K 𝓛 Γ (lands C Λ E d (B.val w) rest q)) → Seq K 𝓛 Γ (runs C Λ E (seq (call g xs d) rest) q)
    asks-plain t fm B c os k = use0 𝓛 (‵ ftrue) (id⊢ 𝓤 (emp 𝓤)) $ asks t fm (none_lent 𝓛) B c os (λ is _. drop t $ k is)

    pub asks-plain-last : K → FmC 𝓤 H 𝓛.laws C → (B : By 𝓛) {w : B.R.Denot} → Call 𝓛 C g vs (none_lent 𝓛) B tt tt w → ((i j : Item 𝓤) → Opds K 𝓛 (i ∷ j ∷ Γ) E xs vs)
        → (Is B.R w (B.val w ∷ []) → Seq K 𝓛 Γ (settles E d (B.val w) q)) → Seq K 𝓛 Γ (runs C Λ E (call g xs d) q)
    asks-plain-last t fm B c os k = use0 𝓛 (‵ ftrue) (id⊢ 𝓤 (emp 𝓤)) $ asks-last t fm (none_lent 𝓛) B c os (λ is _. drop t $ k is)

module _ {M : Type 1} {𝓤 : Ura M} {𝓛 : Logic 𝓤} {K : Type 0} {Γ : List (Item 𝓤)} {E : Env 𝓤 𝓛.H} {C : Calls 𝓤 𝓛.H} {Λ : Loops 𝓤 𝓛.H} {q : Post 𝓤 𝓛.H} where
  -- a branch whose arms meet again: each arm ends by `again` at some x, and what follows the branch goes on from `After x`
  open 𝓛 use {H}

  pub meets-again : K → {c : Operand} {a b rest : Body} {y : Bool} {X : Type 0} (After : X → List (Item 𝓤)) → Opd K 𝓛 Γ E c (vbool y)
      → ((again : (x : X) → Seq K 𝓛 (After x) (prop (post 𝓤 H (any_q (after_seq 𝓤 H (Wp 𝓤 H C Λ E rest (post 𝓤 H q)) (post 𝓤 H q))) next)))
      → (y ≡ true → Seq K 𝓛 Γ (runs C Λ E a (any_q (after_seq 𝓤 H (Wp 𝓤 H C Λ E rest (post 𝓤 H q)) (post 𝓤 H q)))))
      × (y ≡ false → Seq K 𝓛 Γ (runs C Λ E b (any_q (after_seq 𝓤 H (Wp 𝓤 H C Λ E rest (post 𝓤 H q)) (post 𝓤 H q))))))
      → ((x : X) → Seq K 𝓛 (After x) (runs C Λ E rest q)) → Seq K 𝓛 Γ (runs C Λ E (seq (cond c a b) rest) q)
  meets-again t {c} {a} {b} {rest} {y} After o arms tail =
      first t $ branches t o (λ h. both.0 (yes y h)) (λ h. both.1 (no y h))
    where
      both : (y ≡ true → Seq K 𝓛 Γ (runs C Λ E a (any_q (after_seq 𝓤 H (Wp 𝓤 H C Λ E rest (post 𝓤 H q)) (post 𝓤 H q))))) × (y ≡ false → Seq K 𝓛 Γ (runs C Λ E b (any_q (after_seq 𝓤 H (Wp 𝓤 H C Λ E rest (post 𝓤 H q)) (post 𝓤 H q)))))
      both = arms (λ x. by t (tail x).prf)

      yes : (z : Bool) → T z → z ≡ true
      yes true h = refl
      yes false h = absurd h

      no : (z : Bool) → T (not z) → z ≡ false
      no true h = absurd h
      no false h = refl

-- a guard: an arm that returns, and nothing else; what follows runs where the test fails
module _ {M : Type 1} {𝓤 : Ura M} {𝓛 : Logic 𝓤} {K : Type 0} {Γ : List (Item 𝓤)} {E : Env 𝓤 𝓛.H} {C : Calls 𝓤 𝓛.H} {Λ : Loops 𝓤 𝓛.H} {q : Post 𝓤 𝓛.H} where
  open 𝓛 use {H}

  pub guards : K → {c : Operand} {a rest : Body} {y : Bool} → Opd K 𝓛 Γ E c (vbool y)
      → (y ≡ true → Seq K 𝓛 Γ (runs C Λ E a (any_q (after_seq 𝓤 H (Wp 𝓤 H C Λ E rest (post 𝓤 H q)) (post 𝓤 H q))))) → (y ≡ false → Seq K 𝓛 Γ (runs C Λ E rest q)) → Seq K 𝓛 Γ (runs C Λ E (seq (cond c a skip) rest) q)
  guards t {c} {a} {rest} {y} o held on =
      first t $ branches t o (λ h. held (yes y h)) (λ h. skips t $ exec t C Λ E rest q $ on (no y h))
    where
      yes : (z : Bool) → T z → z ≡ true
      yes true h = refl
      yes false h = absurd h

      no : (z : Bool) → T (not z) → z ≡ false
      no true h = absurd h
      no false h = refl

-- ---- a `while`: the whole context is `At x`, and a turn that goes on ends at an x' of a smaller measure
abbrev pub Turned : {M : Type 1} {𝓤 : Ura M} (𝓛 : Logic 𝓤) {X : Type 0} → Tables 𝓤 𝓛.H → (X → List (Item 𝓤)) → (X → ℕ) → Body → Env 𝓤 𝓛.H → Post 𝓤 𝓛.H → X → Out → SProp 𝓤
Turned {𝓤 = 𝓤} 𝓛 𝓣 At μ rest E q x = after_turn 𝓤 𝓛.H (Below 𝓛 (λ y z. μ y < μ z) At x) (after_block 𝓤 𝓛.H (after_seq 𝓤 𝓛.H (Wp 𝓤 𝓛.H 𝓣.C 𝓣.Λ E rest (post 𝓤 𝓛.H q)) (post 𝓤 𝓛.H q)))

module _ {M : Type 1} {𝓤 : Ura M} {𝓛 : Logic 𝓤} {K : Type 0} {X : Type 0} (𝓣 : Tables 𝓤 𝓛.H) (At : X → List (Item 𝓤)) (μ : X → ℕ) (rest : Body) (E : Env 𝓤 𝓛.H) (q : Post 𝓤 𝓛.H) where
  pub rounds : K → {turn : Body} → ((x : X) → Seq K 𝓛 (At x) (runs 𝓣.C 𝓣.Λ E turn (any_q (Turned 𝓛 𝓣 At μ rest E q x)))) → (x : X) → Seq K 𝓛 (At x) (runs 𝓣.C 𝓣.Λ E (seq (block (loop turn)) rest) q)
  rounds t turns x = first t $ blocks t $ loops t 𝓣 (λ y z. μ y < μ z) (InvImage.wf μ lt-wf_rel.wf) At turns x

  -- a turn ends, and the next begins at x'
  pub goes-round : K → (x x' : X) → μ x' < μ x → Seq K 𝓛 (At x') (prop (Turned 𝓛 𝓣 At μ rest E q x next))
  unfolding after_turn
  goes-round t x x' lt = again t (λ y z. μ y < μ z) At x x' lt

  -- the test: the turn goes on, or the loop is left and what follows it runs
  pub tests : K → {Γ : List (Item 𝓤)} {c : Operand} {b : Body} {y : Bool} (x : X) → Opd K 𝓛 Γ E c (vbool y) → (y ≡ true → Seq K 𝓛 Γ (runs 𝓣.C 𝓣.Λ E b (any_q (Turned 𝓛 𝓣 At μ rest E q x)))) → (y ≡ false → Seq K 𝓛 Γ (runs 𝓣.C 𝓣.Λ E rest q))
      → Seq K 𝓛 Γ (runs 𝓣.C 𝓣.Λ E (seq (cond c skip (exit 1)) b) (any_q (Turned 𝓛 𝓣 At μ rest E q x)))
  unfolding after_turn
  tests t {Γ} {c} {b} {y} x o on out =
      either y (λ e. stays t (subst (λ (z : Bool). Opd K 𝓛 Γ E c (vbool z)) e o) $ on e) (λ e. leaves_loop t (subst (λ (z : Bool). Opd K 𝓛 Γ E c (vbool z)) e o) $ exec t 𝓣.C 𝓣.Λ E rest q $ out e)
    where
      either : {Z : Type 1} (z : Bool) → (z ≡ true → Z) → (z ≡ false → Z) → Z
      either true f g = f refl
      either false f g = g refl

-- ---- through a reference: what lies behind it is opened for one statement, and closed again
module _ {M : Type 1} {𝓤 : Ura M} {𝓛 : Logic 𝓤} {K : Type 0} {Γ : List (Item 𝓤)} {E : Env 𝓤 𝓛.H} {C : Calls 𝓤 𝓛.H} {Λ : Loops 𝓤 𝓛.H} {q : Post 𝓤 𝓛.H} where
  open 𝓛 use {H}

  module _ (B : By 𝓛) (ℓ : Lifetime) (κ : Lft) (s : Share) (γ : GName) (b o : ℕ) where
    -- `d = *i` of a `&mut T`
    pub loads-ref : K → {i d : ℕ} {rest : Body} {Γ' : List (Item 𝓤)} (h : B.R.Denot)
        → ((c₀ c₁ c₂ c₃ c₄ : Item 𝓤) → Reads K 𝓛 (c₀ ∷ c₁ ∷ c₂ ∷ c₃ ∷ c₄ ∷ Γ) (spot_of 𝓤 H E i).0 (spot_of 𝓤 H E i).1 (spot_of 𝓤 H E i).2 (vptr b o))
        → ((c₀ c₁ c₂ c₃ c₄ : Item 𝓤) → T (has_ty B.τ (B.val h)) × WT (B.val h) → Writes K 𝓛 (c₀ ∷ c₁ ∷ c₂ ∷ c₃ ∷ c₄ ∷ Γ) (spot_of 𝓤 H E d).0 (spot_of 𝓤 H E d).1 (spot_of 𝓤 H E d).2 (B.val h) (c₀ ∷ c₁ ∷ c₂ ∷ c₃ ∷ c₄ ∷ Γ'))
        → (Is B.R h (B.val h ∷ []) → Seq K 𝓛 (ref-own 𝓛 B.R ℓ κ s γ b o h ∷ Γ') (runs C Λ E rest q))
        → Seq K 𝓛 (ref-own 𝓛 B.R ℓ κ s γ b o h ∷ Γ) (runs C Λ E (seq (assign (placeᴹ d []) (rv_opd (copy (placeᴹ i (deref B.τ ∷ []))))) rest) q)
    loads-ref t h r w k =
        split t $ fsplit3 t $ feq_l t (λ e. opens t tt B.R {h = h} b o (λ vs. spelt t B.R (Is B.R) (shows 𝓛 B.R) (λ x. B.val x ∷ []) B.tells full_share h vs b o $
        move t (1 ∷ []) $ denote.Steps.peeks t B.R (Is B.R) (shows 𝓛 B.R) h (B.val h ∷ []) (λ is. move t (1 ∷ 0 ∷ []) $
        rewrite t 0 (λ (τs : List Ty). ‵ (cell_at full_share τs (B.val h ∷ []) b o)) B.layout refl $
        assigns t (of_opd t (load t (from t (hop t (r _ _ _ _ _) (stop t))) (look_raw t 0 refl))) (from t (stop t)) (w _ _ _ _ _ (B.typed h (B.val h) is)) $
        rewrite t 0 (λ (τs : List Ty). ‵ (cell_at full_share τs (B.val h ∷ []) b o)) (sym B.layout) refl $
        closes t tt B.R h (B.val h ∷ []) b o $ feq_i t (List Val) (vptr b o ∷ []) (vptr b o ∷ []) refl $ fjoin3 t $ join t $ k is)))

    -- `*i = rv`
    pub stores-ref : K → {i : ℕ} {rv : RValue} {rest : Body} (h h' : B.R.Denot)
        → ((c₀ c₁ c₂ c₃ c₄ : Item 𝓤) → Rv K 𝓛 (c₀ ∷ c₁ ∷ c₂ ∷ c₃ ∷ c₄ ∷ Γ) E rv (B.val h'))
        → ((c₀ c₁ c₂ c₃ c₄ : Item 𝓤) → Reads K 𝓛 (c₀ ∷ c₁ ∷ c₂ ∷ c₃ ∷ c₄ ∷ Γ) (spot_of 𝓤 H E i).0 (spot_of 𝓤 H E i).1 (spot_of 𝓤 H E i).2 (vptr b o))
        → Is B.R h' (B.val h' ∷ [])
        → Step K 𝓛 (ref-own 𝓛 B.R ℓ κ s γ b o h' ∷ Γ) (runs C Λ E rest q) (ref-own 𝓛 B.R ℓ κ s γ b o h ∷ Γ) (runs C Λ E (seq (assign (placeᴹ i (deref B.τ ∷ [])) rv) rest) q)
    stores-ref t h h' v r is = step (λ k.
        split t $ fsplit3 t $ feq_l t (λ e. opens t tt B.R {h = h} b o (λ vs. spelt t B.R (Is B.R) (shows 𝓛 B.R) (λ x. B.val x ∷ []) B.tells full_share h vs b o $
        rewrite t 0 (λ (τs : List Ty). ‵ (cell_at full_share τs (B.val h ∷ []) b o)) B.layout refl $
        assigns t (v _ _ _ _ _) (from t (hop t (r _ _ _ _ _) (stop t))) (store_raw t 0 refl (B.typed h' (B.val h') is)) $
        rewrite t 0 (λ (τs : List Ty). ‵ (cell_at full_share τs (B.val h' ∷ []) b o)) (sym B.layout) refl $
        move t (1 ∷ []) $ drop t $ owned t B.R (Is B.R) B.makes h' _ is $ move t (1 ∷ 0 ∷ []) $
        closes t tt B.R h' (B.val h' ∷ []) b o $ feq_i t (List Val) (vptr b o ∷ []) (vptr b o ∷ []) refl $ fjoin3 t $ join t $ k)))

    -- `d = *i` where i is the address of an element of a `&mut [T]`
    pub loads-elem : K → {i d : ℕ} {rest : Body} {Γ' : List (Item 𝓤)} (n : ℕ) (ys : List B.R.Denot) (k : ℕ) (none : B.R.Denot) → k < length ys
        → ((c₀ c₁ c₂ c₃ c₄ c₅ : Item 𝓤) → Reads K 𝓛 (c₀ ∷ c₁ ∷ c₂ ∷ c₃ ∷ c₄ ∷ c₅ ∷ Γ) (spot_of 𝓤 H E i).0 (spot_of 𝓤 H E i).1 (spot_of 𝓤 H E i).2 (vptr b (place (mem B.R).size o k)))
        → ((c₀ c₁ c₂ c₃ c₄ c₅ : Item 𝓤) → T (has_ty B.τ (B.val (get_or ys k none))) × WT (B.val (get_or ys k none)) → Writes K 𝓛 (c₀ ∷ c₁ ∷ c₂ ∷ c₃ ∷ c₄ ∷ c₅ ∷ Γ) (spot_of 𝓤 H E d).0 (spot_of 𝓤 H E d).1 (spot_of 𝓤 H E d).2 (B.val (get_or ys k none)) (c₀ ∷ c₁ ∷ c₂ ∷ c₃ ∷ c₄ ∷ c₅ ∷ Γ'))
        → (Is B.R (get_or ys k none) (B.val (get_or ys k none) ∷ []) → Seq K 𝓛 (slice-own 𝓛 B.R ℓ κ s γ b o n ys ∷ Γ') (runs C Λ E rest q))
        → Seq K 𝓛 (slice-own 𝓛 B.R ℓ κ s γ b o n ys ∷ Γ) (runs C Λ E (seq (assign (placeᴹ d []) (rv_opd (copy (placeᴹ i (deref B.τ ∷ []))))) rest) q)
    loads-elem t n ys j none within r w k =
        split t $ fsplit t $ pure_l t (mut_slice_at B.R (record { ref_ptr = (b, o); ghost_name = γ; now = ys }) (slice_val (b, o) n ∷ [])) (λ p. fsplit t $ opens_slice t tt B.R ys b o $
        elem_out t B.R (Is B.R) (shows 𝓛 B.R) (λ x. B.val x ∷ []) B.tells full_share ys j none b o within (λ is.
        rewrite t 0 (λ (τs : List Ty). ‵ (cell_at full_share τs (B.val (get_or ys j none) ∷ []) b (place (mem B.R).size o j))) B.layout refl $
        assigns t (of_opd t (load t (from t (hop t (r _ _ _ _ _ _) (stop t))) (look_raw t 0 refl))) (from t (stop t)) (w _ _ _ _ _ _ (B.typed (get_or ys j none) (B.val (get_or ys j none)) is)) $
        rewrite t 0 (λ (τs : List Ty). ‵ (cell_at full_share τs (B.val (get_or ys j none) ∷ []) b (place (mem B.R).size o j))) (sym B.layout) refl $
        elem_back t B.R full_share ys j none (B.val (get_or ys j none) ∷ []) b o within $ closes_slice t tt B.R ys ys refl b o $
        fjoin t $ pure_i t (mut_slice_at B.R (record { ref_ptr = (b, o); ghost_name = γ; now = ys }) (slice_val (b, o) n ∷ [])) (tt, (tt, tt)) p $ fjoin t $ join t $ k is))

    -- `*i = rv` where i is the address of an element
    pub stores-elem : K → {i : ℕ} {rv : RValue} {rest : Body} (n : ℕ) (ys : List B.R.Denot) (k : ℕ) (y none : B.R.Denot) → k < length ys
        → ((c₀ c₁ c₂ c₃ c₄ c₅ : Item 𝓤) → Rv K 𝓛 (c₀ ∷ c₁ ∷ c₂ ∷ c₃ ∷ c₄ ∷ c₅ ∷ Γ) E rv (B.val y))
        → ((c₀ c₁ c₂ c₃ c₄ c₅ : Item 𝓤) → Reads K 𝓛 (c₀ ∷ c₁ ∷ c₂ ∷ c₃ ∷ c₄ ∷ c₅ ∷ Γ) (spot_of 𝓤 H E i).0 (spot_of 𝓤 H E i).1 (spot_of 𝓤 H E i).2 (vptr b (place (mem B.R).size o k)))
        → Is B.R y (B.val y ∷ [])
        → Step K 𝓛 (slice-own 𝓛 B.R ℓ κ s γ b o n (set ys k y) ∷ Γ) (runs C Λ E rest q) (slice-own 𝓛 B.R ℓ κ s γ b o n ys ∷ Γ) (runs C Λ E (seq (assign (placeᴹ i (deref B.τ ∷ [])) rv) rest) q)
    stores-elem t n ys j y none within v r is' = step (λ k.
        split t $ fsplit t $ pure_l t (mut_slice_at B.R (record { ref_ptr = (b, o); ghost_name = γ; now = ys }) (slice_val (b, o) n ∷ [])) (λ p. fsplit t $ opens_slice t tt B.R ys b o $
        elem_out t B.R (Is B.R) (shows 𝓛 B.R) (λ x. B.val x ∷ []) B.tells full_share ys j none b o within (λ is.
        rewrite t 0 (λ (τs : List Ty). ‵ (cell_at full_share τs (B.val (get_or ys j none) ∷ []) b (place (mem B.R).size o j))) B.layout refl $
        assigns t (v _ _ _ _ _ _) (from t (hop t (r _ _ _ _ _ _) (stop t))) (store_raw t 0 refl (B.typed y (B.val y) is')) $
        rewrite t 0 (λ (τs : List Ty). ‵ (cell_at full_share τs (B.val y ∷ []) b (place (mem B.R).size o j))) (sym B.layout) refl $
        move t (1 ∷ []) $ drop t $ owned t B.R (Is B.R) B.makes y _ is' $ move t (1 ∷ 0 ∷ 2 ∷ []) $
        elem_put t B.R full_share ys j y (B.val y ∷ []) b o within $ closes_slice t tt B.R ys (set ys j y) (length-set ys j y) b o $
        fjoin t $ pure_i t (mut_slice_at B.R (record { ref_ptr = (b, o); ghost_name = γ; now = set ys j y }) (slice_val (b, o) n ∷ [])) (tt, (tt, tt)) (p.0 ∙ ap (λ (m : ℕ). slice_val (b, o) m ∷ []) (sym (length-set ys j y)), subst (Room B.R) (sym (length-set ys j y)) p.1) $ fjoin t $ join t $ k)))

  -- `d = *i` where i is the address of an element of a `&[T]`, held with its token
  pub looks-elem : (B : By 𝓛) → Copied 𝓛 B.R → (ℓ : Lifetime) (κ : Lft) (s : Share) (b o : ℕ) → K → {i d : ℕ} {rest : Body} {Γ' : List (Item 𝓤)} (n : ℕ) (ys : List B.R.Denot) (k : ℕ) (none : B.R.Denot) → k < length ys
      → ((c₀ c₁ c₂ c₃ c₄ c₅ c₆ : Item 𝓤) → Reads K 𝓛 (c₀ ∷ c₁ ∷ c₂ ∷ c₃ ∷ c₄ ∷ c₅ ∷ c₆ ∷ Γ) (spot_of 𝓤 H E i).0 (spot_of 𝓤 H E i).1 (spot_of 𝓤 H E i).2 (vptr b (place (mem B.R).size o k)))
      → ((c₀ c₁ c₂ c₃ c₄ c₅ c₆ : Item 𝓤) → T (has_ty B.τ (B.val (get_or ys k none))) × WT (B.val (get_or ys k none)) → Writes K 𝓛 (c₀ ∷ c₁ ∷ c₂ ∷ c₃ ∷ c₄ ∷ c₅ ∷ c₆ ∷ Γ) (spot_of 𝓤 H E d).0 (spot_of 𝓤 H E d).1 (spot_of 𝓤 H E d).2 (B.val (get_or ys k none)) (c₀ ∷ c₁ ∷ c₂ ∷ c₃ ∷ c₄ ∷ c₅ ∷ c₆ ∷ Γ'))
      → (Is B.R (get_or ys k none) (B.val (get_or ys k none) ∷ []) → Seq K 𝓛 (shr-own 𝓛 B.R ℓ κ s b o n ys ∷ Γ') (runs C Λ E rest q))
      → Seq K 𝓛 (shr-own 𝓛 B.R ℓ κ s b o n ys ∷ Γ) (runs C Λ E (seq (assign (placeᴹ d []) (rv_opd (copy (placeᴹ i (deref B.τ ∷ []))))) rest) q)
  looks-elem B cp ℓ κ s b o t n ys j none within r w k =
      split t $ fsplit t $ fsplit t $ move t (2 ∷ 3 ∷ []) $ looks_slice t tt B.R cp ys b o (λ q'.
      elem_out t B.R (Is B.R) (shows 𝓛 B.R) (λ x. B.val x ∷ []) B.tells q' ys j none b o within (λ is.
      rewrite t 0 (λ (τs : List Ty). ‵ (cell_at q' τs (B.val (get_or ys j none) ∷ []) b (place (mem B.R).size o j))) B.layout refl $
      assigns t (of_opd t (load t (from t (hop t (r _ _ _ _ _ _ _) (stop t))) (look_raw t 0 refl))) (from t (stop t)) (w _ _ _ _ _ _ _ (B.typed (get_or ys j none) (B.val (get_or ys j none)) is)) $
      rewrite t 0 (λ (τs : List Ty). ‵ (cell_at q' τs (B.val (get_or ys j none) ∷ []) b (place (mem B.R).size o j))) (sym B.layout) refl $
      elem_back t B.R q' ys j none (B.val (get_or ys j none) ∷ []) b o within $ shuts_slice t tt B.R q' ys b o $
      move t (2 ∷ 3 ∷ []) $ fjoin t $ move t (0 ∷ 2 ∷ []) $ fjoin t $ join t $ k is))

-- ---- the locals, in the order of the environment, each with its value or empty, are freed
abbrev pub laid : {M : Type 1} (𝓤 : Ura M) (H : Heap 𝓤) → Env 𝓤 H → List (Option Val) → List (Item 𝓤) → List (Item 𝓤)
laid 𝓤 H [] vs Γ = Γ
laid 𝓤 H ((τ, l) ∷ E) [] Γ = ‵ (froom τ l 0) ∷ ‵ (fdies τ l) ∷ laid 𝓤 H E [] Γ
laid 𝓤 H ((τ, l) ∷ E) (noneᴼ ∷ vs) Γ = ‵ (froom τ l 0) ∷ ‵ (fdies τ l) ∷ laid 𝓤 H E vs Γ
laid 𝓤 H ((τ, l) ∷ E) (someᴼ v ∷ vs) Γ = ‵ (fat full_share τ l 0 v) ∷ ‵ (fdies τ l) ∷ laid 𝓤 H E vs Γ

module _ {M : Type 1} {𝓤 : Ura M} {𝓛 : Logic 𝓤} {K : Type 0} where
  open 𝓛 use {H}

  pub frees_all : {Γ : List (Item 𝓤)} {g : Goal 𝓤 H} (E : Env 𝓤 H) (vs : List (Option Val)) → K → Step K 𝓛 Γ g (laid 𝓤 H E vs Γ) (frees E g)
  frees_all [] vs t = step (λ s. free0 t $ s)
  frees_all ((τ, l) ∷ E) [] t = step (λ s. free1 t $ frees_all E [] t $ s)
  frees_all ((τ, l) ∷ E) (noneᴼ ∷ vs) t = step (λ s. free1 t $ frees_all E vs t $ s)
  frees_all ((τ, l) ∷ E) (someᴼ v ∷ vs) t = step (λ s. forget t 0 refl $ free1 t $ frees_all E vs t $ s)

pub pair_is : {X Y : Type 0} {a a' : X} {b b' : Y} → a ≡ a' → b ≡ b' → ◌≡◌ {A = X × Y} (a, b) (a', b')
pair_is {X} {Y} {a} {a'} {b} {b'} e d = ap (λ (x : X). (x, b)) e ∙ ap (λ (y : Y). (a', y)) d
