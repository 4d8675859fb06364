-- The locals of a function, several at once: they are allocated, the parameters among them are stored, read as operands
-- of a call, and freed. So a walk need not know how many they are, as where functions differ in their numbers only.
use mathlib.Core.Path.{◌≡◌, refl, sym, subst}
use Prim.Native.Nat.{ℕ, zero, suc}
use mathlib.Core.List.{List, [], ◌∷◌, ◌++◌}
use lib.ListN.{get_or}
use seplogic.Ra.Ura.{Ura}
use base.Fraction.{full_share}
use mir.Syntax.{Ty, ty_enum, ttnil, Step as PlaceStep, place, Opd as Operand, copy, Local, local, value_local}
use mir.Val.{Val}
use base.Logic.{ent, sep, via}
use base.Fml.{Fml, ftrue, fsep, fat, froom, fdies}
use prog.Wp.{Env, Spot}
use types.Logic.{Logic}
use types.Kit.{Item, Goal, allocs, passes, frees, Seq, Step, step, mean, ⋆, nth, del, push, pop, pull, unpull, ‵, ◌$◌, ◌∵◌, !, qed, move, drop, fsplit, fjoin, done}
use types.Run.{Walks, Finds, Opds, look, init, forget, stop, from, load, no_more, and_then, alloc1, pass1, free1}
use denote.Laws.{Typed}
use denote.Steps.{nothing}

-- ---- locals of the types τs
abbrev pub values : List Ty → List Local
values [] = []
values (τ ∷ τs) = local τ value_local ∷ values τs

-- their addresses, and the environment that these make
abbrev pub Addrs : List Ty → Type 0
Addrs [] = Unit {0}
Addrs (τ ∷ τs) = ℕ × Addrs τs

abbrev pub env : (τs : List Ty) → Addrs τs → List (Ty × ℕ)
env [] bs = []
env (τ ∷ τs) bs = (τ, bs.0) ∷ env τs bs.1

-- room for each, and the right to free it; and each with its value
abbrev pub rooms : (τs : List Ty) → Addrs τs → Fml
rooms [] bs = ftrue
rooms (τ ∷ τs) bs = fsep (fsep (froom τ bs.0 0) (fdies τ bs.0)) (rooms τs bs.1)

abbrev pub cells : (τs : List Ty) → Addrs τs → List Val → Fml
cells [] bs vs = ftrue
cells (τ ∷ τs) bs [] = ftrue
cells (τ ∷ τs) bs (v ∷ vs) = fsep (fsep (fat full_share τ bs.0 0 v) (fdies τ bs.0)) (cells τs bs.1 vs)

-- as operands, from local k on
abbrev pub copies : ℕ → List Ty → List Operand
copies k [] = []
copies k (τ ∷ τs) = copy (place k []) ∷ copies (suc k) τs

-- ---- where they stand in an environment
-- what stands at a place that is no local's
abbrev pub none : Ty × ℕ
none = (ty_enum [] ttnil, zero)

-- they are its locals from k on
abbrev pub From : (E : List (Ty × ℕ)) → ℕ → (τs : List Ty) → Addrs τs → Type 0
From E k [] bs = Unit {0}
From E k (τ ∷ τs) bs = (get_or E k none ≡ (τ, bs.0)) × From E (suc k) τs bs.1

pub from_next : (e : Ty × ℕ) (E : List (Ty × ℕ)) (k : ℕ) (τs : List Ty) (bs : Addrs τs) → From E k τs bs → From (e ∷ E) (suc k) τs bs
from_next e E k [] bs at = tt
from_next e E k (τ ∷ τs) bs at = (at.0, from_next e E (suc k) τs bs.1 at.1)

-- behind four others, as where a call's numbers stand behind its result and what it is lent
pub from_four : (e₀ e₁ e₂ e₃ : Ty × ℕ) (E : List (Ty × ℕ)) (k : ℕ) (τs : List Ty) (bs : Addrs τs) → From E k τs bs
    → From (e₀ ∷ e₁ ∷ e₂ ∷ e₃ ∷ E) (suc (suc (suc (suc k)))) τs bs
from_four e₀ e₁ e₂ e₃ E k τs bs at =
    from_next e₀ (e₁ ∷ e₂ ∷ e₃ ∷ E) (suc (suc (suc k))) τs bs (from_next e₁ (e₂ ∷ e₃ ∷ E) (suc (suc k)) τs bs
    (from_next e₂ (e₃ ∷ E) (suc k) τs bs (from_next e₃ E k τs bs at)))

pub from_first : (τs : List Ty) (bs : Addrs τs) (E : List (Ty × ℕ)) → From (env τs bs ++ E) 0 τs bs
from_first [] bs E = tt
from_first (τ ∷ τs) bs E = (refl, from_next (τ, bs.0) (env τs bs.1 ++ E) 0 τs bs.1 (from_first τs bs.1 E))

-- the j-th local after them
abbrev pub past : List Ty → ℕ → ℕ
past [] j = j
past (τ ∷ τs) j = suc (past τs j)

-- behind others, they are as far on as those are many
pub from_past : (σs : List Ty) (cs : Addrs σs) (E : List (Ty × ℕ)) (k : ℕ) (τs : List Ty) (bs : Addrs τs) → From E k τs bs
    → From (env σs cs ++ E) (past σs k) τs bs
from_past [] cs E k τs bs at = at
from_past (σ ∷ σs) cs E k τs bs at = from_next (σ, cs.0) (env σs cs.1 ++ E) (past σs k) τs bs (from_past σs cs.1 E k τs bs at)

pub past_is : (τs : List Ty) (bs : Addrs τs) (E : List (Ty × ℕ)) (j : ℕ) → get_or (env τs bs ++ E) (past τs j) none ≡ get_or E j none
past_is [] bs E j = refl
past_is (τ ∷ τs) bs E j = past_is τs bs.1 E j

module _ {M : Type 1} {𝓤 : Ura M} {𝓛 : Logic 𝓤} {K : Type 0} where
  -- ---- they are allocated; their arguments are stored; they are freed
  open 𝓛 use {H}

  pub alloc_all : {Γ : List (Item 𝓤)} → K → (τs : List Ty) {ls : List Local} {Kt : Env 𝓤 H → Goal 𝓤 H}
      → ((bs : Addrs τs) → Seq K 𝓛 (‵ (rooms τs bs) ∷ Γ) (allocs ls (λ E. Kt (env τs bs ++ E)))) → Seq K 𝓛 Γ (allocs (values τs ++ ls) Kt)
  alloc_all {Γ = Γ} t [] k = nothing t $ k tt
  alloc_all {Γ = Γ} t (τ ∷ τs) k = alloc1 t (λ b. alloc_all {Γ = ‵ (froom τ b 0) ∷ ‵ (fdies τ b) ∷ Γ} t τs (λ bs. move t (1 ∷ 2 ∷ []) $ fjoin t $ move t (0 ∷ 1 ∷ []) $ fjoin t $ k (b, bs)))

  pub pass_all : {Γ : List (Item 𝓤)} → K → (τs : List Ty) (bs : Addrs τs) (vs : List Val) {E : Env 𝓤 H} {g : Goal 𝓤 H} → Typed τs vs
      → Step K 𝓛 (‵ (cells τs bs vs) ∷ Γ) (passes E [] g) (‵ (rooms τs bs) ∷ Γ) (passes (env τs bs ++ E) vs g)
  pass_all {Γ = Γ} t [] bs [] are = step (λ s. s)
  pass_all {Γ = Γ} t [] bs (v ∷ vs) are = absurd are
  pass_all {Γ = Γ} t (τ ∷ τs) bs [] are = absurd are
  pass_all {Γ = Γ} t (τ ∷ τs) bs (v ∷ vs) are =
      step (λ s. fsplit t $ fsplit t $ pass1 t (init t 0 refl are.0) $ move t (2 ∷ []) $ pass_all {Γ = ‵ (fat full_share τ bs.0 0 v) ∷ ‵ (fdies τ bs.0) ∷ Γ} t τs bs.1 vs are.1 $ move t (1 ∷ 2 ∷ []) $ fjoin t $ fjoin t $ s)

  pub free_all : {Γ : List (Item 𝓤)} → K → (τs : List Ty) (bs : Addrs τs) (vs : List Val) {E : Env 𝓤 H} {g : Goal 𝓤 H} → Typed τs vs
      → Step K 𝓛 Γ (frees E g) (‵ (cells τs bs vs) ∷ Γ) (frees (env τs bs ++ E) g)
  free_all t [] bs [] are = step (λ s. drop t $ s)
  free_all t [] bs (v ∷ vs) are = absurd are
  free_all t (τ ∷ τs) bs [] are = absurd are
  free_all t (τ ∷ τs) bs (v ∷ vs) are = step (λ s. fsplit t $ fsplit t $ forget t 0 refl $ free1 t $ free_all t τs bs.1 vs are.1 $ s)

  -- one local that holds a value is freed
  pub free : {Γ : List (Item 𝓤)} → K → {τ : Ty} {b : ℕ} {v : Val} {E : Env 𝓤 H} {g : Goal 𝓤 H}
      → Step K 𝓛 Γ (frees E g) (‵ (fat full_share τ b 0 v) ∷ ‵ (fdies τ b) ∷ Γ) (frees ((τ, b) ∷ E) g)
  free t = step (λ s. forget t 0 refl $ free1 t $ s)

  module _ {E : Env 𝓤 H} where
    -- ---- a place, where it is known what stands there
    pub from_at : {Γ : List (Item 𝓤)} → K → {i : ℕ} {st : List PlaceStep} {sp : Spot 𝓤 H} {e : Ty × ℕ} → get_or E i none ≡ e
        → Walks K 𝓛 Γ E (e.0, e.1, zero) st sp → Finds K 𝓛 Γ E (place i st) sp
    from_at {Γ} t {i} {st} {sp} is w = from t (subst (λ (e : Ty × ℕ). Walks K 𝓛 Γ E (e.0, e.1, zero) st sp) (sym is) w)

    -- ---- operands: their values written another way, their context taken apart, and all of the locals at once
    pub opds_are : {Γ : List (Item 𝓤)} → K → {xs : List Operand} {vs us : List Val} → vs ≡ us → Opds K 𝓛 Γ E xs vs → Opds K 𝓛 Γ E xs us
    opds_are {Γ} t {xs} e os = subst (λ (ws : List Val). Opds K 𝓛 Γ E xs ws) e os

    pub opds_apart : {Γ Δ : List (Item 𝓤)} {xs : List Operand} {vs : List Val} → ent 𝓤 (⋆ 𝓛 Γ) (⋆ 𝓛 Δ) → ent 𝓤 (⋆ 𝓛 Δ) (⋆ 𝓛 Γ)
        → Opds K 𝓛 Δ E xs vs → Opds K 𝓛 Γ E xs vs
    opds_apart {Γ} {Δ} apart back os = record { go = λ Kt h. via 𝓤 (⋆ 𝓛 Δ) apart (os.go Kt (via 𝓤 (⋆ 𝓛 Γ) back h)) }

    reads : {Γ : List (Item 𝓤)} → K → (τs : List Ty) (bs : Addrs τs) (vs : List Val) (k : ℕ) → From E k τs bs → Typed τs vs
        → Opds K 𝓛 (‵ (cells τs bs vs) ∷ Γ) E (copies k τs) vs
    reads t [] bs [] k at are = no_more t
    reads t [] bs (v ∷ vs) k at are = absurd are
    reads t (τ ∷ τs) bs [] k at are = absurd are
    reads {Γ} t (τ ∷ τs) bs (v ∷ vs) k at are =
        opds_apart (qed 𝓛 (‵ (cells (τ ∷ τs) bs (v ∷ vs)) ∷ Γ) ∵ fsplit ! $ fsplit ! $ move ! (2 ∷ []) $ done !)
        (qed 𝓛 (‵ (cells τs bs.1 vs) ∷ ‵ (fat full_share τ bs.0 0 v) ∷ ‵ (fdies τ bs.0) ∷ Γ) ∵ move ! (1 ∷ 2 ∷ []) $ fjoin ! $ fjoin ! $ done !)
        (and_then t (load t (from_at t at.0 (stop t)) (look t 1 refl))
        (reads {Γ = ‵ (fat full_share τ bs.0 0 v) ∷ ‵ (fdies τ bs.0) ∷ Γ} t τs bs.1 vs (suc k) at.1 are.1))

    -- entry n of the context is taken to its front
    pub opds_at : {Γ : List (Item 𝓤)} → K → (n : ℕ) {F : Fml} {xs : List Operand} {vs : List Val} → nth 𝓛 n Γ ≡ ‵ F
        → Opds K 𝓛 (‵ F ∷ del 𝓛 n Γ) E xs vs → Opds K 𝓛 Γ E xs vs
    opds_at {Γ} t n {F} e os =
        opds_apart
        (via 𝓤 _ (subst (λ (j : Item 𝓤). ent 𝓤 (⋆ 𝓛 Γ) (sep 𝓤 (mean 𝓛 j) (⋆ 𝓛 (del 𝓛 n Γ)))) e (pull 𝓛 n Γ)) (push 𝓛 (‵ F) (del 𝓛 n Γ)))
        (via 𝓤 _ (pop 𝓛 (‵ F) (del 𝓛 n Γ)) (subst (λ (j : Item 𝓤). ent 𝓤 (sep 𝓤 (mean 𝓛 j) (⋆ 𝓛 (del 𝓛 n Γ))) (⋆ 𝓛 Γ)) e (unpull 𝓛 n Γ)))
        os

    -- entry n of the context has them
    pub read_all : {Γ : List (Item 𝓤)} → K → (n : ℕ) (τs : List Ty) (bs : Addrs τs) (vs : List Val) (k : ℕ) → From E k τs bs → Typed τs vs
        → nth 𝓛 n Γ ≡ ‵ (cells τs bs vs) → Opds K 𝓛 Γ E (copies k τs) vs
    read_all {Γ} t n τs bs vs k at are e = opds_at t n e (reads {Γ = del 𝓛 n Γ} t τs bs vs k at are)
