-- What a walk needs to call `record_at`: its contract, and the call itself. The slice is lent on as it is, so a copy of
-- it is kept.
use mathlib.Core.Path.{◌≡◌, refl}
use Prim.Native.Nat.{ℕ, ◌<◌, ◌^◌}
use mathlib.Core.List.{List, [], ◌∷◌}
use lib.ListN.{length, get_or}
use seplogic.Ra.Ura.{Ura}
use mir.Syntax.{named, w64, Place, Opd as Operand, Body, seq, call}
use mir.Val.{Val, vint}
use base.Logic.{SProp, ent, sep, emp, ex_e, snd∗}
use base.Fml.{Lft, Share, ftrue, flft}
use prog.Memory.{Memory}
use prog.Routine.{Routine}
use prog.Wp.{Env, Calls, Loops}
use types.Logic.{Logic, sem}
use contract.Monad.{Fun, fact}
use types.Kit.{Item, Post, runs, lands, Seq, ‵, raw, given, some, later, ◌⊛◌, ◌$◌, ◌∵◌, !, qed, move, drop, use1, use2, split, join, pick, learn, fjoin, frame, await, done}
use types.Run.{Opds}
use sound.WpLaws.{FmC}
use denote.Laws.{Is}
use denote.Plain.{uint_Makes}
use denote.Builtin.{usize}
use denote.Ref.{Bor}
use denote.Slice.{slice_val, shr_slice_vals, shr_slice_copy}
use denote.Steps.{owned, nothing}
use denote.Triple.Spec.{triple_of}
use denote.Triple.Statement.{Contract, Triple}
use denote.Triple.Call.{calls_at}
use denote.Triple.Clauses.{ensured, lasts}
use denote.Triple.Walked.{says}
use Rattle.line.specs.declared.Block.{Block}
use Rattle.line.specs.Line.{unused}
use Rattle.walk.proofs.Called.{came_with}
use Rattle.table.proofs.Records.{RB, Shared, record_row_laws}
use Rattle.table.specs.contracts.record_at as record_at_lem
use Rattle.table.proofs.record_at.Symbol.{name as #table·record-at}

module _ {M : Type 1} {𝓤 : Ura M} (𝓛 : Logic 𝓤) (at_mem : Memory → SProp 𝓤) (run : Routine → Fun 𝓤) where
  open 𝓛 use {H, A}

  abbrev pub Read : Contract 𝓤
  Read = triple_of 𝓛 record_at_lem.signature (record_at_lem.spec 𝓛 at_mem run)

  module _ (κ : Lft) (q : Share) (x : Bor (List Block)) (i : ℕ) where
    read_said : (d : Block) → ent 𝓤 (ensured 𝓛 record_at_lem.ended (record_at_lem.clauses 𝓛 at_mem run) (κ, tt) (x, (i, tt)) tt d) (fact 𝓤 (d ≡ get_or x.now i unused))
    read_said d = ex_e 𝓤 _ (λ ws. snd∗ 𝓤 (sem 𝓛 (lasts record_at_lem.ended (κ, tt) (x, (i, tt)) ws)) (fact 𝓤 (d ≡ get_or x.now i unused)))

    abbrev pub to_read : Read.Ghost
    to_read = (((κ, tt), (q, tt), tt, (x, (i, tt)), (shr_slice_vals x, (vint w64 i ∷ [], tt))), tt)

    goes_read : i < 2 ^ 64 → i < length x.now → ent 𝓤 (sep 𝓤 (A.lft κ q) (sem 𝓛 (Shared κ x))) (Read.pre to_read)
    goes_read fits within =
        qed 𝓛 (‵ (flft κ q) ∷ ‵ (Shared κ x) ∷ []) ∵ says ! within $ nothing ! $ move ! (1 ∷ 0 ∷ []) $ join ! $ frame ! $
        nothing ! $ owned ! usize (Is usize) (uint_Makes 𝓛 w64) i _ (refl, fits) $ fjoin ! $ move ! (1 ∷ 0 ∷ []) $ fjoin ! $ done !

    module _ {K : Type 0} {Γ : List (Item 𝓤)} {E : Env 𝓤 H} {C : Calls 𝓤 H} {Λ : Loops 𝓤 H} {p : Post 𝓤 H} {xs : List Operand} {r : Place} {rest : Body} where
      pub calls_record_at : K → FmC 𝓤 H 𝓛.laws C → Triple 𝓤 (C #table·record-at) Read → i < 2 ^ 64 → i < length x.now
          → Opds K 𝓛 (raw (Read.pre to_read) ∷ ‵ (Shared κ x) ∷ Γ) E xs (slice_val x.ref_ptr (length x.now) ∷ vint w64 i ∷ [])
          → ((w : Val) (d : Block) → Is RB d (w ∷ []) → d ≡ get_or x.now i unused → Seq K 𝓛 (‵ (flft κ q) ∷ ‵ (Shared κ x) ∷ Γ) (lands C Λ E r w rest p))
          → Seq K 𝓛 (‵ (flft κ q) ∷ ‵ (Shared κ x) ∷ Γ) (runs C Λ E (seq (call #table·record-at xs r) rest) p)
      calls_record_at k fm known fits within os next =
          move k (1 ∷ []) $ use1 𝓛 (‵ (Shared κ x) ⊛ ‵ (Shared κ x)) ((shr_slice_copy 𝓛 (named 0) κ RB record_row_laws).twice x (shr_slice_vals x)) $ split k $ move k (2 ∷ 0 ∷ []) $
          use2 𝓛 (raw (Read.pre to_read)) (goes_read fits within) $ calls_at k fm Read known to_read os (λ w.
          use1 𝓛 (later (some (λ (d : Block). given (Is RB d (w ∷ []) × (d ≡ get_or x.now i unused)) (‵ (flft κ q) ⊛ ‵ ftrue))))
          (came_with 𝓛 RB (sep 𝓤 (A.lft κ q) (emp 𝓤)) (λ d. d ≡ get_or x.now i unused) _ read_said w) $
          await k tt $ pick k (λ d. learn k (λ e. split k $ move k (1 ∷ []) $ drop k $ next w d e.0 e.1)))
