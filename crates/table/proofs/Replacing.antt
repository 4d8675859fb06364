-- What a walk needs to call `replace`: its contract, and the call itself, of a `&mut` that is lent again for the time
-- of the call and comes back with the record in its place.
use mathlib.Core.Path.{◌≡◌, refl, sym}
use Prim.Native.Nat.{ℕ, ◌<◌, ◌^◌}
use mathlib.Core.List.{List, [], ◌∷◌}
use lib.ListN.{length, set, length-set}
use seplogic.Ra.Ura.{Ura}
use base.Fraction.{full_share}
use mir.Syntax.{named, w64, Place, Opd as Operand, Body, seq, call}
use mir.Val.{Val, vint}
use base.Logic.{SProp, ent, sep, ex, guard, emp}
use base.Fml.{Lft, Share, GName, ftrue, flft}
use prog.Memory.{Memory}
use prog.Routine.{Routine}
use prog.Wp.{Env, Calls, Loops}
use types.Logic.{Logic, sem}
use contract.Monad.{Fun, fact}
use types.Kit.{Item, Post, runs, lands, Seq, ‵, raw, given, some, later, ◌⊛◌, ◌$◌, ◌∵◌, !, qed, move, keep, drop, use2, use1, use3, split, join, pick, learn, rewrite, fsplit, fjoin, feq_l, frame, await, show, check, done}
use types.Run.{Opds}
use types.Tokens.{lft_new, lft_end}
use sound.WpLaws.{FmC}
use denote.Laws.{Is}
use denote.Plain.{Nothing, uint_Makes}
use denote.Builtin.{usize}
use denote.Ref.{MutBor}
use denote.Slice.{slice_val, MutSlice, Room, finally, mut_slice_vals}
use denote.Steps.{owned, heard, nothing}
use denote.Triple.Spec.{triple_of}
use denote.Triple.Statement.{Contract, Triple}
use denote.Triple.Call.{calls_at}
use denote.Triple.Clauses.{ensured, lasts, Lasts}
use denote.Triple.Walked.{says}
use Rattle.line.specs.declared.Block.{Block}
use Rattle.walk.proofs.Again.{at_list, LentAgain, lends_again, comes_back}
use Rattle.walk.proofs.Called.{came_last}
use Rattle.table.proofs.Records.{RB, Lent, record_makes}
use Rattle.table.specs.contracts.replace as replace
use Rattle.table.proofs.replace.Symbol.{name as #table·replace}

module _ {M : Type 1} {𝓤 : Ura M} (𝓛 : Logic 𝓤) (at_mem : Memory → SProp 𝓤) (run : Routine → Fun 𝓤) where
  open 𝓛 use {H, A}

  abbrev pub Replace : Contract 𝓤
  Replace = triple_of 𝓛 replace.signature (replace.spec 𝓛 at_mem run)

  module _ (i : ℕ) (d : Block) where
    abbrev to_args : MutBor (List Block) → MutBor (List Block) × (ℕ × (Block × Unit {0}))
    to_args x = (x, (i, (d, tt)))

    replace_said : (κ : Lft) (x : MutBor (List Block)) (r : Unit {0})
        → ent 𝓤 (ensured 𝓛 replace.ended (replace.clauses 𝓛 at_mem run) (κ, tt) (to_args x) tt r)
        (ex 𝓤 (λ (zs : List Block). guard 𝓤 (zs ≡ set x.now i d) (sem 𝓛 (finally RB x.ghost_name zs))))
    replace_said κ x r =
        qed 𝓛 (some (λ (ws : Lasts replace.ended (κ, tt) (to_args x)). ‵ (lasts replace.ended (κ, tt) (to_args x) ws) ⊛ raw (fact 𝓤 (ws.0 ≡ set x.now i d))) ∷ []) ∵
        pick ! (λ ws. split ! $ move ! (1 ∷ []) $ heard ! (ws.0 ≡ set x.now i d) (λ e. fsplit ! $ fsplit ! $ fsplit ! $ move ! (1 ∷ []) $ feq_l ! (λ long.
        show ! (λ (zs : List Block). guard 𝓤 (zs ≡ set x.now i d) (sem 𝓛 (finally RB x.ghost_name zs))) ws.0 $ check ! e $ keep ! (0 ∷ []) $ done !)))

    abbrev pub to_replace : Lft → MutBor (List Block) → Val → Replace.Ghost
    to_replace κ x w = (((κ, tt), (full_share, tt), tt, to_args x, (mut_slice_vals x, (vint w64 i ∷ [], (w ∷ [], tt)))), tt)

    goes_replace : (κ : Lft) (x : MutBor (List Block)) (w : Val) → i < 2 ^ 64 → Is RB d (w ∷ []) → i < length x.now
        → ent 𝓤 (sep 𝓤 (A.lft κ full_share) (sem 𝓛 (Lent κ x))) (Replace.pre (to_replace κ x w))
    goes_replace κ x w fits is within =
        qed 𝓛 (‵ (flft κ full_share) ∷ ‵ (Lent κ x) ∷ []) ∵ says ! within $ nothing ! $ move ! (1 ∷ 0 ∷ []) $ join ! $ frame ! $
        nothing ! $ owned ! RB (Is RB) (record_makes 𝓛) d _ is $ fjoin ! $
        owned ! usize (Is usize) (uint_Makes 𝓛 w64) i _ (refl, fits) $ fjoin ! $ move ! (1 ∷ 0 ∷ []) $ fjoin ! $ done !

    module _ {K : Type 0} {Γ : List (Item 𝓤)} {E : Env 𝓤 H} {C : Calls 𝓤 H} {Λ : Loops 𝓤 H} {p : Post 𝓤 H} {xs : List Operand} {r : Place} {rest : Body} where
      pub calls_replace : K → FmC 𝓤 H 𝓛.laws C → Triple 𝓤 (C #table·replace) Replace
          → (κ : Lft) (q : Share) (γ : GName) (b o : ℕ) (ys : List Block) → Room RB (length ys) → (w : Val) → i < 2 ^ 64 → Is RB d (w ∷ []) → i < length ys
          → ((ν : Lft) (δ : GName) → Opds K 𝓛 (raw (Replace.pre (to_replace ν (at_list RB b o δ ys) w)) ∷ ‵ (LentAgain RB κ ν q γ b o δ ys) ∷ Γ) E
          xs (slice_val (b, o) (length ys) ∷ vint w64 i ∷ w ∷ []))
          → ((v : Val) (z : Unit {0}) → Is Nothing z (v ∷ []) → Seq K 𝓛 (‵ (Lent κ (at_list RB b o γ (set ys i d))) ∷ ‵ (flft κ q) ∷ Γ) (lands C Λ E r v rest p))
          → Seq K 𝓛 (‵ (Lent κ (at_list RB b o γ ys)) ∷ ‵ (flft κ q) ∷ Γ) (runs C Λ E (seq (call #table·replace xs r) rest) p)
      calls_replace k fm known κ q γ b o ys room w fits is within os next =
          lft_new k tt (λ ν. move k (1 ∷ 2 ∷ []) $
          use2 𝓛 (later (some (λ (δ : GName). ‵ (Lent (ν ∷ []) (at_list RB b o δ ys)) ⊛ ‵ (LentAgain RB κ (ν ∷ []) q γ b o δ ys))))
          (lends_again RB κ (ν ∷ []) q γ b o 𝓛 (named 0) (named 0) ys) $ await k tt $ pick k (λ δ. split k $ move k (2 ∷ 0 ∷ []) $
          use2 𝓛 (raw (Replace.pre (to_replace (ν ∷ []) (at_list RB b o δ ys) w))) (goes_replace (ν ∷ []) (at_list RB b o δ ys) w fits is within) $
          calls_at k fm Replace known (to_replace (ν ∷ []) (at_list RB b o δ ys) w) (os (ν ∷ []) δ) (λ v.
          use1 𝓛 (later (some (λ (z : Unit {0}). some (λ (zs : List Block).
          given (Is Nothing z (v ∷ []) × (zs ≡ set ys i d)) ((‵ (flft (ν ∷ []) full_share) ⊛ ‵ ftrue) ⊛ ‵ (finally RB δ zs))))))
          (came_last 𝓛 Nothing (sep 𝓤 (A.lft (ν ∷ []) full_share) (emp 𝓤)) (λ _ zs. zs ≡ set ys i d) (λ zs. sem 𝓛 (finally RB δ zs)) _
          (replace_said (ν ∷ []) (at_list RB b o δ ys)) v) $ await k tt $ pick k (λ z. pick k (λ zs. learn k (λ e. split k $ split k $ move k (1 ∷ []) $ drop k $
          -- the lifetime of the call ends, and the table comes back, as long as it was
          rewrite k 1 (λ (l : List Block). ‵ (finally RB δ l)) e.1 refl $ lft_end k tt $ move k (0 ∷ 2 ∷ 1 ∷ []) $
          use3 𝓛 (later (‵ ((MutSlice (named 0) κ RB).own_val (at_list RB b o γ (set ys i d)) (slice_val (b, o) (length ys) ∷ [])) ⊛ ‵ (flft κ q)))
          (comes_back RB κ (ν ∷ []) q γ b o 𝓛 (named 0) (named 0) ys δ (set ys i d) room (length-set ys i d)) $ await k tt $ split k $
          rewrite k 0 (λ (m : ℕ). ‵ ((MutSlice (named 0) κ RB).own_val (at_list RB b o γ (set ys i d)) (slice_val (b, o) m ∷ []))) (sym (length-set ys i d)) refl $
          next v z e.0))))))
