-- A `&mut [T]` that is lent again for the time of a call, and comes back: as a `&mut [T]`, with other elements in it,
-- or as a `&[T]`, as it was. κ is its own lifetime, and κ' that of the call.
use mathlib.Core.Path.{◌≡◌, refl, sym, ap, subst}
use Prim.Native.Nat.{ℕ}
use mathlib.Core.List.{List, [], ◌∷◌}
use lib.ListN.{length}
use seplogic.Ra.Ura.{Ura}
use base.Fraction.{full_share}
use mir.Syntax.{Lifetime}
use mir.Val.{Val}
use base.Logic.{ent, sep, ex}
use base.Fml.{Lft, GName, Share, Fml, fsep, flft, fdead, fobs, fauth, flent, fobor, Incl}
use ghost.Rules.{Toks, span}
use types.Logic.{Logic, sem, lfts}
use types.Kit.{‵, raw, feq_i, ◌⊛◌, some, later, ◌$◌, ◌∵◌, !, qed, move, use1, use2, use3, drop, split, join, pick, fsplit, fjoin, frame, await, updating, now as at_once, show, done}
use types.SemTy.{cells, Arr}
use types.Share.{arr_parts}
use types.Tokens.{lent_back}
use denote.RattleType.{RattleType}
use denote.Shadow.{pure_l, pure_i}
use denote.Memory.{mem, shares, shared_of}
use denote.Shares.{SharesAsFrom}
use denote.Ref.{Bor, MutBor}
use denote.Slice.{slice_val, MutSlice, ShrSlice, heres, Room, finally, mut_slice_at, coded_holeys}
use denote.Lend.{Held, lends_slice, slice_back, lends_shr_slice}
use denote.Index.{row, whole_out, whole_in, opens_slice, closes_slice}

-- the slice of ys at (b, o), under the name δ
abbrev pub at_list : (R : RattleType) → ℕ → ℕ → GName → List R.Denot → MutBor (List R.Denot)
at_list R b o δ ys = record { ref_ptr = (b, o); ghost_name = δ; now = ys }

-- the same as a `&[T]`
abbrev pub shared_list : (R : RattleType) → ℕ → ℕ → List R.Denot → Bor (List R.Denot)
shared_list R b o ys = record { ref_ptr = (b, o); now = ys }

module _ (R : RattleType) (κ κ' : Lft) (q : Share) (γ : GName) (b o : ℕ) where
  -- what its holder has of its own borrow meanwhile: it is open, with both halves of its ghost variable
  abbrev Own : List R.Denot → Fml
  Own ys = fsep (fobor κ q (Held R (length ys) b o γ)) (fsep (fobs γ ((coded_holeys R).code (heres R ys))) (fauth γ ((coded_holeys R).code (heres R ys))))

  -- ---- as a `&mut [T]`, under the name γ₁
  abbrev pub LentAgain : GName → List R.Denot → Fml
  LentAgain γ₁ ys = fsep (flent κ' (Held R (length ys) b o γ₁)) (Own ys)

  module _ {M : Type 1} {𝓤 : Ura M} (𝓛 : Logic 𝓤) (ℓ ℓ' : Lifetime) (ys : List R.Denot) where
    open 𝓛 use {H, A}

    abbrev vals : List Val
    vals = slice_val (b, o) (length ys) ∷ []

    -- it is lent
    pub lends_again : ent 𝓤 (sep 𝓤 (sem 𝓛 ((MutSlice ℓ κ R).own_val (at_list R b o γ ys) vals)) (A.lft κ q))
        (H.⇛ (ex 𝓤 (λ (γ₁ : GName). sep 𝓤 (sem 𝓛 ((MutSlice ℓ' κ' R).own_val (at_list R b o γ₁ ys) vals)) (sem 𝓛 (LentAgain γ₁ ys)))))
    lends_again =
        qed 𝓛 (‵ ((MutSlice ℓ κ R).own_val (at_list R b o γ ys) vals) ∷ ‵ (flft κ q) ∷ []) ∵ updating ! $
        fsplit ! $ pure_l ! (mut_slice_at R (at_list R b o γ ys) vals) (λ p. fsplit ! $ opens_slice ! tt R ys b o $ use1 𝓛 (‵ (cells (mem R) ys b o)) (whole_in 𝓛 R ys b o) $
        use1 𝓛 (later (some (λ (γ₁ : GName). ‵ ((MutSlice ℓ' κ' R).own_val (at_list R b o γ₁ ys) vals) ⊛ ‵ (flent κ' (Held R (length ys) b o γ₁)))))
        (lends_slice 𝓛 R ℓ' κ' ys b o p.1) $ await ! tt $ pick ! (λ γ₁. split ! $
        -- [the new slice; the lender's part at κ'; the open borrow at κ; obs γ; auth γ]
        at_once ! $ show ! (λ (γ' : GName). sep 𝓤 (sem 𝓛 ((MutSlice ℓ' κ' R).own_val (at_list R b o γ' ys) vals)) (sem 𝓛 (LentAgain γ' ys))) γ₁ $ frame ! $
        move ! (2 ∷ 3 ∷ []) $ fjoin ! $ move ! (2 ∷ 0 ∷ []) $ fjoin ! $ move ! (1 ∷ 0 ∷ []) $ fjoin ! $ done !))

    -- κ' has ended, and zs are there, as many as were lent: it comes back
    pub comes_back : (γ₁ : GName) (zs : List R.Denot) → Room R (length ys) → length zs ≡ length ys
        → ent 𝓤 (sep 𝓤 (A.dead κ') (sep 𝓤 (sem 𝓛 (LentAgain γ₁ ys)) (sem 𝓛 (finally R γ₁ zs))))
        (H.⇛ (sep 𝓤 (sem 𝓛 ((MutSlice ℓ κ R).own_val (at_list R b o γ zs) vals)) (A.lft κ q)))
    comes_back γ₁ zs room e =
        qed 𝓛 (‵ (fdead κ') ∷ ‵ (LentAgain γ₁ ys) ∷ ‵ (finally R γ₁ zs) ∷ []) ∵ updating ! $ move ! (1 ∷ []) $ fsplit ! $ move ! (2 ∷ 0 ∷ 3 ∷ []) $
        use3 𝓛 (later (‵ ((Arr (mem R) (length ys)).own_at zs b o))) (slice_back 𝓛 R κ' γ₁ zs (length ys) b o) $ await ! tt $ fsplit ! $ drop ! $
        use1 𝓛 (‵ (row R full_share zs b o)) (whole_out 𝓛 R zs b o) $
        move ! (1 ∷ []) $ fsplit ! $ move ! (1 ∷ []) $ fsplit ! $ move ! (3 ∷ 2 ∷ 0 ∷ 1 ∷ []) $ closes_slice ! tt R ys zs e b o $ at_once ! $
        fjoin ! $ pure_i ! (mut_slice_at R (at_list R b o γ zs) vals) (tt, (tt, tt)) (ap (λ (m : ℕ). slice_val (b, o) m ∷ []) (sym e), subst (Room R) (sym e) room) $ fjoin ! $ done !

  -- ---- as a `&[T]`, which has no ghost variable: l is within what is alive while it is shared out, by the tokens ts
  abbrev pub SharedAgain : List R.Denot → Fml
  SharedAgain ys = fsep (flent κ' ((arr_parts (shares R) (length ys)).part full_share ys b o)) (Own ys)

  module _ {M : Type 1} {𝓤 : Ura M} (𝓛 : Logic 𝓤) (ℓ ℓ' : Lifetime) (ys : List R.Denot) where
    open 𝓛 use {H, A}

    abbrev at_vals : List Val
    at_vals = slice_val (b, o) (length ys) ∷ []

    -- it is lent
    pub shares_again : (l : Lft) → SharesAsFrom 𝓛 full_share R (shared_of R) l → (ts : Toks) → Incl (span ts) l → Incl (span ts) κ'
        → ent 𝓤 (sep 𝓤 (sem 𝓛 ((MutSlice ℓ κ R).own_val (at_list R b o γ ys) at_vals)) (sep 𝓤 (A.lft κ q) (lfts 𝓛 ts)))
        (H.⇛ (sep 𝓤 (sep 𝓤 (sem 𝓛 ((ShrSlice ℓ' κ' R).own_val (shared_list R b o ys) at_vals)) (sem 𝓛 (SharedAgain ys))) (lfts 𝓛 ts)))
    shares_again l s ts inc sp =
        qed 𝓛 (‵ ((MutSlice ℓ κ R).own_val (at_list R b o γ ys) at_vals) ∷ ‵ (flft κ q) ∷ raw (lfts 𝓛 ts) ∷ []) ∵ updating ! $
        fsplit ! $ pure_l ! (mut_slice_at R (at_list R b o γ ys) at_vals) (λ p. fsplit ! $ opens_slice ! tt R ys b o $ feq_i ! ℕ (length ys) (length ys) refl $ fjoin ! $
        move ! (0 ∷ 4 ∷ []) $
        use2 𝓛 (later ((‵ ((ShrSlice ℓ' κ' R).own_val (shared_list R b o ys) at_vals) ⊛ ‵ (flent κ' ((arr_parts (shares R) (length ys)).part full_share ys b o))) ⊛ raw (lfts 𝓛 ts)))
        (lends_shr_slice 𝓛 R ℓ' κ' full_share ys b o p.1 l s ts inc sp) $ await ! tt $ split ! $ split ! $
        -- [the new slice; the lender's part at κ'; the tokens; the open borrow at κ; obs γ; auth γ]
        at_once ! $ move ! (4 ∷ 5 ∷ []) $ fjoin ! $ move ! (4 ∷ 0 ∷ []) $ fjoin ! $ move ! (2 ∷ 0 ∷ []) $ fjoin ! $ move ! (1 ∷ 0 ∷ []) $ join ! $ join ! $ done !)

    -- κ' has ended: it comes back
    pub shared_back : Room R (length ys) → ent 𝓤 (sep 𝓤 (A.dead κ') (sem 𝓛 (SharedAgain ys)))
        (H.⇛ (sep 𝓤 (sem 𝓛 ((MutSlice ℓ κ R).own_val (at_list R b o γ ys) at_vals)) (A.lft κ q)))
    shared_back room =
        qed 𝓛 (‵ (fdead κ') ∷ ‵ (SharedAgain ys) ∷ []) ∵ updating ! $ move ! (1 ∷ []) $ fsplit ! $ move ! (2 ∷ 0 ∷ []) $ lent_back ! tt $ fsplit ! $ drop ! $
        move ! (1 ∷ []) $ fsplit ! $ move ! (1 ∷ []) $ fsplit ! $ move ! (3 ∷ 2 ∷ 0 ∷ 1 ∷ []) $ closes_slice ! tt R ys ys refl b o $ at_once ! $
        fjoin ! $ pure_i ! (mut_slice_at R (at_list R b o γ ys) at_vals) (tt, (tt, tt)) (refl, room) $ fjoin ! $ done !
